-- What an accepted answer says of its stages.
use Rattle.std.proofs.Common.{◌≡◌, Bool, true, false, Result, Ok, Err, refl, ap}
use Rattle.sg_session.specs.Stages.{after_ok, stop_if}

pub after_ok_is : {X Y E : Type 0} (r : Result X E) (f : X → Result Y E) (y : Y) → after_ok r f ≡ Ok y → (x : X) × (r ≡ Ok x) × (f x ≡ Ok y)
after_ok_is (Ok x) f y e = (x, refl, e)
after_ok_is (Err c) f y e = absurd cc

pub stop_if_is : {X E : Type 0} (b : Bool) (c : E) (r : Result X E) (y : X) → stop_if b c r ≡ Ok y → (b ≡ false) × (r ≡ Ok y)
stop_if_is true c r y e = absurd cc
stop_if_is false c r y e = (refl, e)

pub after_ok_of : {X Y E : Type 0} (r : Result X E) (f : X → Result Y E) (x : X) → r ≡ Ok x → after_ok r f ≡ f x
after_ok_of r f x e = ap (λ q. after_ok q f) e

pub stop_if_of : {X E : Type 0} (b : Bool) (c : E) (r : Result X E) → b ≡ false → stop_if b c r ≡ r
stop_if_of b c r e = ap (λ q. stop_if q c r) e

pub ok_is : {X E : Type 0} (x y : X) → (let r : Result X E = Ok x in r ≡ Ok y) → x ≡ y
ok_is x y e = cc
