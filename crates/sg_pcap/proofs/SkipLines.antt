-- The line of a skipped record is read exactly where one is spelled so.
use Rattle.std.proofs.Common.{◌≡◌, ◌<◌, ◌^◌, ℕ, true, eqb, List, [], ◌∷◌, ◌++◌, length, drop, take, Some, None, refl, sym, ap, ◌∙◌, arith, inl, inr, append_assoc, lit<}
use Rattle.std.specs.Fmt.{decimal}
use Rattle.std.specs.List.{starts_with}
use Rattle.std.specs.Prelude.{codes, nat_eq}
use Rattle.std.specs.Str.{bytes_eq}
use Rattle.std.proofs.lemmas.Bool.{eqb-true}
use Rattle.std.proofs.lemmas.List.{take-append-drop}
use Rattle.std.proofs.lemmas.Slice.Eq.{bytes_eq-Decides}
use Rattle.sg_base.proofs.Cases.{chosen, is_name, none_some, some_is}
use Rattle.sg_base.proofs.Cuts.{cut_again, cut_takes, lacks_append}
use Rattle.sg_base.proofs.Decimals.{number_again, number_takes}
use Rattle.sg_base.proofs.FourNumbers.{bind_some, decimal_lacks}
use Rattle.sg_base.specs.Fields.{Lacks, cut_at, number_at}
use Rattle.sg_pcap.specs.Skips.{skip_at, skip_body_at, skip_cause_at, skip_cause_name, skip_fields_at, skip_line}
use Rattle.sg_pcap.specs.declared.skips.SkipCause.{SkipCause}
use Rattle.sg_pcap.specs.declared.skips.SkipCause.TheVariants.{Fragment, CutShort, Malformed}

-- ---- causes

cause_again : (cause : SkipCause) → skip_cause_at (skip_cause_name cause) ≡ Some cause
unfolding skip_cause_at
cause_again Fragment = refl
cause_again other = refl

cause_takes : (name : List ℕ) (cause : SkipCause) → skip_cause_at name ≡ Some cause → name ≡ skip_cause_name cause
unfolding skip_cause_at
cause_takes name cause e =
    elim (chosen (bytes_eq name (codes "Fragment")) (Some Fragment) _ (Some cause) e) [
      | inl h ↦ is_name name (codes "Fragment") h.0 ∙ ap skip_cause_name (some_is Fragment cause h.1)
      | inr h ↦ elim (chosen (bytes_eq name (codes "CutShort")) (Some CutShort) _ (Some cause) h.1) [
        | inl k ↦ is_name name (codes "CutShort") k.0 ∙ ap skip_cause_name (some_is CutShort cause k.1)
        | inr k ↦ elim (chosen (bytes_eq name (codes "Malformed")) (Some Malformed) None (Some cause) k.1) [
          | inl l ↦ is_name name (codes "Malformed") l.0 ∙ ap skip_cause_name (some_is Malformed cause l.1)
          | inr l ↦ absurd (none_some cause l.1)
        ]
      ]
    ]

name_lacks : (cause : SkipCause) → Lacks 10 (32 ∷ skip_cause_name cause)
name_lacks Malformed = (refl, (refl, (refl, (refl, (refl, (refl, (refl, (refl, (refl, (refl, tt))))))))))
name_lacks other = (refl, (refl, (refl, (refl, (refl, (refl, (refl, (refl, (refl, tt)))))))))

-- ---- fields

wide : (number : ℕ) → number < 2 ^ 64 → number < 10 ^ 64
wide number fits = omega (arith, fits)

fields_again : (number : ℕ) (cause : SkipCause) → number < 2 ^ 64 → skip_fields_at (decimal number ++ 32 ∷ skip_cause_name cause) ≡ Some (number, cause)
unfolding skip_fields_at
fields_again number cause fits =
    rw (
      cut_again 32 (decimal number) (skip_cause_name cause) (decimal_lacks 32 number (wide number fits) (inl (lit< tt))),
      number_again 18446744073709551615 number (omega (arith, fits)) (lit< tt),
      cause_again cause,
    ) refl

fields_takes : (text : List ℕ) (number : ℕ) (cause : SkipCause) → skip_fields_at text ≡ Some (number, cause) → (text ≡ decimal number ++ 32 ∷ skip_cause_name cause) × (number < 2 ^ 64)
unfolding skip_fields_at
fields_takes text number cause e =
    let parts = bind_some (cut_at 32 text) _ (number, cause) e in
    let n = bind_some (number_at 18446744073709551615 parts.0.0) _ (number, cause) parts.2 in
    let c = bind_some (skip_cause_at parts.0.1) _ (number, cause) n.2 in
    let both : (n.0, c.0) ≡ (number, cause) = some_is _ _ c.2 in
    let first : n.0 ≡ number = ap (λ (p : ℕ × SkipCause). p.0) both in
    let second : c.0 ≡ cause = ap (λ (p : ℕ × SkipCause). p.1) both in
    let digits = number_takes 18446744073709551615 parts.0.0 n.0 n.1 in (
      cut_takes 32 text parts.0.0 parts.0.1 parts.1 ∙ (λ i. (digits.0 ∙ ap decimal first) i ++ 32 ∷ (cause_takes parts.0.1 c.0 c.1 ∙ ap skip_cause_name second) i),
      (let small = digits.1 in omega (arith, small, first)),
    )

-- ---- lines

abbrev body : ℕ → SkipCause → List ℕ
body number cause = decimal number ++ 32 ∷ skip_cause_name cause

body_again : (number : ℕ) (cause : SkipCause) → number < 2 ^ 64 → skip_body_at (body number cause ++ 10 ∷ []) ≡ Some (number, cause)
unfolding skip_body_at
body_again number cause fits =
    rw (cut_again 10 (body number cause) [] (lacks_append 10 (decimal number) (32 ∷ skip_cause_name cause) (decimal_lacks 10 number (wide number fits) (inl (lit< tt))) (name_lacks cause)))
    (fields_again number cause fits)

empty : (xs : List ℕ) → eqb (length xs) 0 ≡ true → xs ≡ []
empty [] e = refl
empty (x ∷ xs) e = absurd (omega (arith, eqb-true (length (x ∷ xs)) 0 e))

body_takes : (text : List ℕ) (number : ℕ) (cause : SkipCause) → skip_body_at text ≡ Some (number, cause) → (text ≡ body number cause ++ 10 ∷ []) × (number < 2 ^ 64)
unfolding skip_body_at
body_takes text number cause e =
    let parts = bind_some (cut_at 10 text) _ (number, cause) e in
    elim (chosen (eqb (length parts.0.1) 0) (skip_fields_at parts.0.0) None (Some (number, cause)) parts.2) [
      | inl h ↦
          (let fields = fields_takes parts.0.0 number cause h.1 in
          (cut_takes 10 text parts.0.0 parts.0.1 parts.1 ∙ (λ i. fields.0 i ++ 10 ∷ empty parts.0.1 h.0 i), fields.1))
      | inr h ↦ absurd (none_some (number, cause) h.1)
    ]

line_is : (number : ℕ) (cause : SkipCause) → skip_line number cause ≡ codes "skip " ++ (body number cause ++ 10 ∷ [])
line_is number cause = ap (λ (l : List ℕ). codes "skip " ++ (l ++ 10 ∷ [])) (append_assoc (decimal number) (32 ∷ []) (skip_cause_name cause))

pub skip_again : (line : List ℕ) (number : ℕ) (cause : SkipCause) → line ≡ skip_line number cause → number < 2 ^ 64 → skip_at line ≡ Some (number, cause)
unfolding skip_at
skip_again line number cause is fits = ap skip_at (is ∙ line_is number cause) ∙ body_again number cause fits

-- a text that begins with a needle
begins : (needle t : List ℕ) → starts_with nat_eq t needle ≡ true → t ≡ needle ++ drop (length needle) t
begins needle t e =
    sym (take-append-drop (length needle) t)
    ∙ ap (λ (l : List ℕ). l ++ drop (length needle) t) (sym ((bytes_eq-Decides needle (take (length needle) t)).0 e))

pub skip_takes : (line : List ℕ) (number : ℕ) (cause : SkipCause) → skip_at line ≡ Some (number, cause) → (line ≡ skip_line number cause) × (number < 2 ^ 64)
unfolding skip_at
skip_takes line number cause e =
    elim (chosen (starts_with nat_eq line (codes "skip ")) (skip_body_at (drop 5 line)) None (Some (number, cause)) e) [
      | inl h ↦
          (let rest = body_takes (drop 5 line) number cause h.1 in
          (begins (codes "skip ") line h.0 ∙ ap (λ (l : List ℕ). codes "skip " ++ l) rest.0 ∙ sym (line_is number cause), rest.1))
      | inr h ↦ absurd (none_some (number, cause) h.1)
    ]
