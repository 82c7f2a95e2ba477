-- The frame of a bridge's line, whatever its fields say.
use Rattle.std.proofs.Common.{◌≡◌, ◌<◌, ◌≤◌, ℕ, Bool, true, false, cond, List, [], ◌∷◌, length, map, Option, Some, None, Result, Ok, Err, refl, sym, ap, ◌∙◌, arith}
use Rattle.std.proofs.lemmas.Bool.{cond-true, lt-ltb}
use Rattle.std.specs.Prelude.{codes, nat_lt, not, ◌||◌, ◌==◌}
use Rattle.std.specs.Str.{bytes_eq}
use Rattle.sg_base.specs.Fields.{number_at}
use Rattle.sg_base.specs.declared.addresses.CallId.{CallId}
use Rattle.sg_base.specs.declared.faults.ScriptFault.{ScriptFault}
use Rattle.sg_base.specs.declared.faults.ScriptFault.TheVariants.{Length, Number, Unended}
use Rattle.sg_lines.proofs.FaultLaws.{too_long, unended_only}
use Rattle.sg_lines.proofs.FrameLaws.{open_line, whole_line}
use Rattle.sg_lines.specs.Fields.{◌>>=◌, call_from, or_fault}
use Rattle.sg_lines.specs.LineOf.{body_of, fields_of, is_ended, line_of}
use Rattle.sg_lines.specs.ScriptLines.{IsWhole, NoEnd}
use Rattle.sg_lines.specs.declared.lines.Line.{Line}
use Rattle.sg_pairs.specs.BridgeLines.{bridge_line_of, bridge_said_by, is_script_line, join_from, of_script, part_from}
use Rattle.sg_pairs.specs.declared.lines.BridgeLine.{BridgeLine}
use Rattle.sg_pairs.specs.declared.lines.BridgeLine.TheVariants as lines

pub bridge_line_is : (version number : ℕ) (t : List ℕ)
    → bridge_line_of version number t ≡ cond (is_script_line number t) (of_script (line_of version number t)) (bridge_said_by (of_script (line_of version number t)) (fields_of (body_of t)))
unfolding bridge_line_of
bridge_line_is version number t = refl

as_script : (version number : ℕ) (t : List ℕ) → is_script_line number t ≡ true → bridge_line_of version number t ≡ of_script (line_of version number t)
as_script version number t is = bridge_line_is version number t ∙ cond-true _ _ _ is

-- a line of more than 70,000 octets
pub bridge_long : (version number : ℕ) (t : List ℕ) → 70000 < length t → bridge_line_of version number t ≡ Err Length
bridge_long version number t long =
    as_script version number t (ap (λ b. b || not (is_ended t) || number == 1) (lt-ltb 70000 (length t) long)) ∙ ap of_script (too_long version number t long)

either_true : (a b : Bool) → (a || true || b) ≡ true
either_true true b = refl
either_true false b = refl

-- a line without its end
pub bridge_open : (version number : ℕ) (t : List ℕ) → NoEnd t → length t ≤ 70000 → bridge_line_of version number t ≡ Err Unended
bridge_open version number t none short =
    let is = open_line version number t none short in
    as_script version number t (ap (λ b. nat_lt 70000 (length t) || not b || number == 1) (unended_only version number t is).1 ∙ either_true (nat_lt 70000 (length t)) (number == 1)) ∙ ap of_script is

-- ---- a whole line has its end

call_not : (t : List ℕ) → call_from t ≡ Err Unended → ⊥
unfolding call_from
call_not t is = go (number_at 4294967295 t) is
  where
    go : (o : Option ℕ) → (or_fault Number o >>= λ number. Ok (let c : CallId = record { 0 = number } in c)) ≡ Err Unended → ⊥
    go None is = cc
    go (Some n) is = cc

module _ {A : Type 0} (next : CallId → Result A ScriptFault) (never : (c : CallId) → next c ≡ Err Unended → ⊥) where
  then_not : (t : List ℕ) → (call_from t >>= next) ≡ Err Unended → ⊥
  then_not t is = go (call_from t) refl is
    where
      go : (r : Result CallId ScriptFault) → call_from t ≡ r → (r >>= next) ≡ Err Unended → ⊥
      go (Ok c) was is = never c is
      go (Err fault) was is = call_not t (was ∙ (let same : fault ≡ Unended = cc in ap Err same))

part_not : (t : List ℕ) → part_from t ≡ Err Unended → ⊥
unfolding part_from
part_not t is = then_not (λ c. Ok (lines.Part c)) (λ c e. cc) t is

join_not : (a b : List ℕ) → join_from a b ≡ Err Unended → ⊥
unfolding join_from
join_not a b is = then_not (λ first. call_from b >>= λ second. Ok (lines.Join first second)) (λ first. then_not (λ second. Ok (lines.Join first second)) (λ second e. cc) b) a is

script_not : (r : Result Line ScriptFault) → (r ≡ Err Unended → ⊥) → of_script r ≡ Err Unended → ⊥
script_not (Ok l) never is = cc
script_not (Err fault) never is = never (let same : fault ≡ Unended = cc in ap Err same)

module _ (other : Result BridgeLine ScriptFault) (never : other ≡ Err Unended → ⊥) where
  if_not : (b : Bool) (r : Result BridgeLine ScriptFault) → (r ≡ Err Unended → ⊥) → cond b r other ≡ Err Unended → ⊥
  if_not true r isnt is = isnt is
  if_not false r isnt is = never is

  said_not : (fields : List (List ℕ)) → bridge_said_by other fields ≡ Err Unended → ⊥
  said_not [] is = never is
  said_not (word ∷ []) is = never is
  said_not (word ∷ a ∷ []) is = if_not (bytes_eq word (codes "part")) (part_from a) (part_not a) is
  said_not (word ∷ a ∷ b ∷ []) is = if_not (bytes_eq word (codes "join")) (join_from a b) (join_not a b) is
  said_not (word ∷ a ∷ b ∷ c ∷ more) is = never is

pub bridge_whole : (version number : ℕ) (t : List ℕ) → IsWhole t → bridge_line_of version number t ≡ Err Unended → ⊥
bridge_whole version number t whole is = go (is_script_line number t) (sym (bridge_line_is version number t) ∙ is)
  where
    never : of_script (line_of version number t) ≡ Err Unended → ⊥
    never e = script_not (line_of version number t) (whole_line version number t whole) e

    go : (b : Bool) → cond b (of_script (line_of version number t)) (bridge_said_by (of_script (line_of version number t)) (fields_of (body_of t))) ≡ Err Unended → ⊥
    go true e = never e
    go false e = said_not (of_script (line_of version number t)) never (fields_of (body_of t)) e

-- ---- the first nine fields decide

-- other numbers of fields are those of a script's line
pub few_fields : {A : Type 0} (text : A → List ℕ) (other : Result BridgeLine ScriptFault) (fs : List A) → length fs < 2 → bridge_said_by other (map text fs) ≡ other
few_fields text other [] few = refl
few_fields text other (a ∷ []) few = refl
few_fields text other (a ∷ b ∷ more) few = absurd (omega (arith, few))

pub many_fields : {A : Type 0} (text : A → List ℕ) (other : Result BridgeLine ScriptFault) (fs : List A) → 4 ≤ length fs → bridge_said_by other (map text fs) ≡ other
many_fields text other [] many = absurd (omega (arith, many))
many_fields text other (a ∷ []) many = absurd (omega (arith, many))
many_fields text other (a ∷ b ∷ []) many = absurd (omega (arith, many))
many_fields text other (a ∷ b ∷ c ∷ []) many = absurd (omega (arith, many))
many_fields text other (a ∷ b ∷ c ∷ d ∷ more) many = refl
