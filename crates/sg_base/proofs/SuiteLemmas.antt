-- Each suite has one name, and no name has a colon or a space.
use Rattle.std.proofs.Common.{◌≡◌, ℕ, ◌+◌, ◌≤◌, Bool, true, eqb, List, [], ◌∷◌, Some, refl, inl, inr, arith}
use Rattle.std.specs.Prelude.{not}
use Rattle.std.specs.List.{find, list_all}
use Rattle.std.specs.Str.{bytes_eq}
use Rattle.std.proofs.lemmas.Bool.{and_parts, not-true}
use Rattle.std.proofs.lemmas.Slice.Eq.{bytes_eq-Decides}
use Rattle.sg_base.specs.declared.suites.Suite.{Suite}
use Rattle.sg_base.specs.declared.suites.Suite.TheVariants.{Raw80}
use Rattle.sg_base.specs.Fields.{Lacks}
use Rattle.sg_base.specs.SuiteNames.{suite_name, all_suites, suite_at}
use Rattle.sg_base.specs.Suites.{key_len_of, salt_len_of}
use Rattle.sg_base.proofs.Cases.{chosen}

-- what is found passes the test
pub find_passes : {A : Type 0} (p : A → Bool) (xs : List A) (x : A) → find p xs ≡ Some x → p x ≡ true
find_passes p [] x e = absurd cc
find_passes p (y ∷ ys) x e =
    elim (chosen (p y) (Some y) (find p ys) (Some x) e) [
      | inl h ↦ let same : y ≡ x = cc in rw (← same) h.0
      | inr h ↦ find_passes p ys x h.1
    ]

-- an octet that a test finds nowhere
pub lacks_test : (c : ℕ) (t : List ℕ) → list_all (λ x. not (eqb x c)) t ≡ true → Lacks c t
lacks_test c [] e = tt
lacks_test c (x ∷ t) e = let p = and_parts (not (eqb x c)) (list_all (λ x. not (eqb x c)) t) e in (not-true (eqb x c) p.0, lacks_test c t p.1)

pub suite_again : (s : Suite) → suite_at (suite_name s) ≡ Some s
unfolding suite_at suite_name
suite_again Raw80 = refl
suite_again other = refl

pub suite_takes : (t : List ℕ) (s : Suite) → suite_at t ≡ Some s → t ≡ suite_name s
unfolding suite_at
suite_takes t s e = (bytes_eq-Decides t (suite_name s)).0 (find_passes (λ s. bytes_eq t (suite_name s)) all_suites s e)

pub suite_lacks_colon : (s : Suite) → Lacks 58 (suite_name s)
unfolding suite_name
suite_lacks_colon Raw80 = lacks_test 58 (suite_name Raw80) refl
suite_lacks_colon other = lacks_test 58 (suite_name other) refl

pub suite_lacks_space : (s : Suite) → Lacks 32 (suite_name s)
unfolding suite_name
suite_lacks_space Raw80 = lacks_test 32 (suite_name Raw80) refl
suite_lacks_space other = lacks_test 32 (suite_name other) refl

-- a key and its salt have 46 octets at most
pub sizes : (s : Suite) → key_len_of s + salt_len_of s ≤ 46
sizes Raw80 = omega arith
sizes other = omega arith
