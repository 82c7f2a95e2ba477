-- The sessions of a call of which each has a port of its own.
use Rattle.std.proofs.Common.{◌≡◌, ℕ, zero, suc, Bool, List, [], ◌∷◌, map, refl, eqb}
use Rattle.std.proofs.Math.ListN.{set}
use Rattle.std.proofs.lemmas.Bool.{false_from_ne_true, cond-false}
use Rattle.std.specs.List.{AllByRecursion}
use Rattle.sg_session.specs.declared.names.Name.{Name}
use Rattle.sg_session.specs.Session.{Done, Session, with_done}
use Rattle.sg_gateway.proofs.Kept.{same_name_is}
use Rattle.sg_gateway.specs.Ports.{port_of}

-- the session is at the port of the call in this slot
abbrev pub At : ℕ → ℕ → Session → Bool
At slot port s = eqb (port_of slot s) port

with_other : (n : Name) (s : Session) (d : Done) → (s.name ≡ n → ⊥) → with_done n d s ≡ s
with_other n s d differ = cond-false _ _ _ (false_from_ne_true _ (λ e. differ (same_name_is s.name n e)))

-- where no session has the name, none changes
pub with_none : (n : Name) (d : Done) (ss : List Session) → AllByRecursion (λ s. s.name ≡ n → ⊥) ss → map (with_done n d) ss ≡ ss
with_none n d [] p = refl
with_none n d (s ∷ ss) p = let one = with_other n s d p.0 in let rest = with_none n d ss p.1 in (λ i. one i ∷ rest i)

pub each_set : {X : Type 0} (P : X → Type 0) (xs : List X) (i : ℕ) (y : X) → AllByRecursion P xs → P y → AllByRecursion P (set xs i y)
each_set P [] i y p q = tt
each_set P (x ∷ xs) zero y p q = (q, p.1)
each_set P (x ∷ xs) (suc i) y p q = (p.0, each_set P xs i y p.1 q)
