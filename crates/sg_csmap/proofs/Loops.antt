-- One medium's crypto sessions after another, and whether an element is found.
use Rattle.std.proofs.Common.{◌≡◌, ◌<◌, ◌+◌, ℕ, length, arith, Bool, true, false, cond, ◌||◌, List, [], ◌∷◌, ◌++◌, Option, Some, None, Result, Ok, Err, refl, ap, sym, ◌∙◌, append_assoc, append-nil}
use Rattle.std.specs.Prelude.{is_some, option_map}
use Rattle.std.specs.List.{find, list_any}
use Rattle.sg_base.specs.Fields.{◌>>=◌}
use Rattle.sg_base.specs.declared.faults.CsFault.TheVariants.{PolicyValue}
use Rattle.sg_mikey.specs.declared.message.CsEntry.{CsEntry}
use Rattle.sg_mikey.specs.declared.message.Tgk.{Tgk}
use Rattle.sg_mikey.specs.declared.policy.Policy.{Policy}
use Rattle.sg_csmap.specs.CryptoSessions.{OnNoMemory, or_fault, pair_in, pairs_from}
use Rattle.sg_csmap.specs.declared.sessions.StreamKeys.{StreamKeys}
use Rattle.sg_csmap.specs.declared.faults.CsError.{CsError}
use Rattle.sg_csmap.specs.declared.faults.CsError.TheVariants as errors

-- what is there already, and what is still made
abbrev pub behind : {A : Type 0} → List A → Option (List A) → Option (List A)
behind done (Some rest) = Some (done ++ rest)
behind done None = None

-- what holds anyway holds where out of memory is answered
pub anyway : {X P : Type 0} (r : Result X CsError) → P → OnNoMemory r P
anyway (Ok x) p = tt
anyway (Err (errors.Cs fault)) p = tt
anyway (Err errors.NoMemory) p = p

pub is_there : {A : Type 0} (x : Option A) (a : A) → or_fault PolicyValue x ≡ Ok a → x ≡ Some a
is_there (Some b) a e = cc
is_there None a e = absurd cc

pub goes_on : {A : Type 0} (done : List A) (a : A) (x : Option A) (rest total : Option (List A)) → or_fault PolicyValue x ≡ Ok a
    → behind done (x >>= λ y. option_map (λ ys. y ∷ ys) rest) ≡ total → behind (done ++ a ∷ []) rest ≡ total
goes_on done a (Some b) (Some rest) total is so_far = let same : b ≡ a = cc in ap Some (append_assoc done (a ∷ []) rest) ∙ ap (λ y. Some (done ++ y ∷ rest)) (sym same) ∙ so_far
goes_on done a (Some b) None total is so_far = so_far
goes_on done a None rest total is so_far = absurd cc

pub ends : {A : Type 0} (done : List A) (rest total : Option (List A)) → rest ≡ Some [] → behind done rest ≡ total → or_fault PolicyValue total ≡ Ok done
ends done rest total none so_far =
    ap (or_fault PolicyValue) (sym so_far ∙ ap (behind done) none ∙ ap Some (append-nil done))

pub none_left : (csb : ℕ) (random : List ℕ) (policies : List Policy) (tgks : List Tgk) (session : ℕ) (map : List CsEntry) → length map < 2 → pairs_from csb random policies tgks session map ≡ Some []
unfolding pairs_from
none_left csb random policies tgks session [] few = refl
none_left csb random policies tgks session (i ∷ []) few = refl
none_left csb random policies tgks session (i ∷ r ∷ map) few = absurd (omega (arith, few))

-- one medium more
pub one_more : (csb : ℕ) (random : List ℕ) (policies : List Policy) (tgks : List Tgk) (session : ℕ) (i r : CsEntry) (rest map : List CsEntry)
    (done : List (StreamKeys × StreamKeys)) (pair : StreamKeys × StreamKeys) (total : Option (List (StreamKeys × StreamKeys)))
    → rest ≡ i ∷ r ∷ map → or_fault PolicyValue (pair_in csb random policies tgks session i r) ≡ Ok pair
    → behind done (pairs_from csb random policies tgks session rest) ≡ total → behind (done ++ pair ∷ []) (pairs_from csb random policies tgks (session + 2) map) ≡ total
unfolding pairs_from
one_more csb random policies tgks session i r rest map done pair total are is so_far =
    goes_on done pair (pair_in csb random policies tgks session i r) (pairs_from csb random policies tgks (session + 2) map) total is
    (ap (λ m. behind done (pairs_from csb random policies tgks session m)) (sym are) ∙ so_far)

pub found_is : {A B : Type 0} (p : A → Bool) (xs : List A) (view : B → A) (found : Option B) → option_map view found ≡ find p xs → is_some found ≡ list_any p xs
found_is p [] view None e = refl
found_is p [] view (Some y) e = absurd cc
found_is {B = B} p (x ∷ xs) view found e = by found (p x) (found_is p xs view found) e
  where
    by : (o : Option B) (b : Bool) → (option_map view o ≡ find p xs → is_some o ≡ list_any p xs) → option_map view o ≡ cond b (Some x) (find p xs) → is_some o ≡ (b || list_any p xs)
    by (Some y) true rest e = refl
    by None true rest e = absurd cc
    by o false rest e = rest e
