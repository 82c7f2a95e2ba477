-- The source that the gateway sends from is the first that the plain side's medium names.
use Rattle.std.proofs.Common.{◌≡◌, ◌⊎◌, inl, inr, ℕ, ◌-◌, ◌^◌, ◌≤◌, Bool, true, false, cond, eqb, eqb-true, List, [], ◌∷◌, ◌++◌, codes, Option, Some, None, refl, sym, ap, ◌∙◌, arith}
use Rattle.std.proofs.lemmas.Bool.{eqb-false}
use Rattle.std.specs.Option.{option_and_then, option_map_or}
use Rattle.std.specs.Prelude.{decimal}
use Rattle.sg_agreement.proofs.Inversions.{some_unless}
use Rattle.sg_agreement.proofs.TextLines.{behind_is}
use Rattle.sg_agreement.specs.Attributes.{behind, first_word, own_ssrc, ssrc_at}
use Rattle.sg_base.proofs.Cases.{and_then_some, none_some, some_is}
use Rattle.sg_base.proofs.Cuts.{cut_again, cut_takes}
use Rattle.sg_base.proofs.Decimals.{number_again, number_takes}
use Rattle.sg_base.proofs.FourNumbers.{decimal_lacks}
use Rattle.sg_base.specs.Fields.{Lacks, cut_at, number_at}
use Rattle.sg_gateway.specs.CryptoSessions.{IsFirstSource, NamesSource}

cut_lacking : (c : ℕ) (t : List ℕ) → Lacks c t → cut_at c t ≡ None
unfolding cut_at
cut_lacking c [] lacks = refl
cut_lacking c (x ∷ xs) lacks = rw (lacks.0, cut_lacking c xs lacks.1) refl

abbrev greatest : ℕ
greatest = 2 ^ 32 - 1

-- a number but for 0
abbrev source : ℕ → Option ℕ
source n = cond (eqb n 0) None (Some n)

-- what stands behind the attribute's name
abbrev IsNumber : ℕ → List ℕ → Type 0
IsNumber s rest = (rest ≡ decimal s) ⊎ ((more : List ℕ) × (rest ≡ decimal s ++ 32 ∷ more))

number_read : (rest : List ℕ) (s : ℕ) → number_at greatest (first_word rest) ≡ Some s → IsNumber s rest × (s ≤ 4294967295)
number_read rest s e = go (cut_at 32 rest) refl e
  where
    go : (o : Option (List ℕ × List ℕ)) → cut_at 32 rest ≡ o → number_at greatest (option_map_or (λ parts. parts.0) o rest) ≡ Some s → IsNumber s rest × (s ≤ 4294967295)
    go None is e = let n = number_takes greatest rest s e in (inl n.0, n.1)
    go (Some p) is e = let n = number_takes greatest p.0 s e in (inr (p.1, cut_takes 32 rest p.0 p.1 is ∙ ap (λ (w : List ℕ). w ++ 32 ∷ p.1) n.0), n.1)

of_line : (line rest : List ℕ) (s : ℕ) → line ≡ codes "a=ssrc:" ++ rest → ¬ (s ≡ 0) → s ≤ 4294967295 → IsNumber s rest → NamesSource line s
of_line line rest s is some small (inl whole) = (some, small, inl (is ∙ ap (λ rest. codes "a=ssrc:" ++ rest) whole))
of_line line rest s is some small (inr (more, first)) = (some, small, inr (more, is ∙ ap (λ rest. codes "a=ssrc:" ++ rest) first))

names : (line : List ℕ) (s : ℕ) → ssrc_at line ≡ Some s → NamesSource line s
names line s e =
    let a = and_then_some (behind (codes "a=ssrc:") line) _ s e in
    let b = and_then_some (number_at greatest (first_word a.0)) _ s a.2 in
    let c = some_unless (eqb b.0 0) (Some b.0) s b.2 in
    let same : b.0 ≡ s = some_is b.0 s c.1 in
    let r = number_read a.0 s (b.1 ∙ ap Some same) in
    of_line line a.0 s (behind_is (codes "a=ssrc:") line a.0 a.1) (λ zero. eqb-false b.0 0 c.0 (same ∙ zero)) r.1 r.0

module _ (line : List ℕ) (s : ℕ) (some : ¬ (s ≡ 0)) (small : s ≤ 4294967295) where
  checked : source s ≡ Some s
  checked = go (eqb s 0) refl
    where
      go : (b : Bool) → eqb s 0 ≡ b → cond b None (Some s) ≡ Some s
      go true is = absurd (some (eqb-true s 0 is))
      go false is = refl

  lacks : Lacks 32 (decimal s)
  lacks = decimal_lacks 32 s (omega (arith, small)) (inl (omega arith))

  from_rest : (rest : List ℕ) → line ≡ codes "a=ssrc:" ++ rest → first_word rest ≡ decimal s → ssrc_at line ≡ Some s
  from_rest rest is word =
      let read : ssrc_at line ≡ option_and_then source (number_at greatest (first_word rest)) = ap ssrc_at is in
      read ∙ ap (λ w. option_and_then source (number_at greatest w)) word ∙ ap (option_and_then source) (number_again greatest s small (omega arith)) ∙ checked

  named : (line ≡ codes "a=ssrc:" ++ decimal s) ⊎ ((more : List ℕ) × (line ≡ codes "a=ssrc:" ++ (decimal s ++ 32 ∷ more))) → ssrc_at line ≡ Some s
  named (inl is) = from_rest (decimal s) is (ap (λ (o : Option (List ℕ × List ℕ)). option_map_or (λ parts. parts.0) o (decimal s)) (cut_lacking 32 (decimal s) lacks))
  named (inr (more, is)) =
      from_rest (decimal s ++ 32 ∷ more) is (ap (λ (o : Option (List ℕ × List ℕ)). option_map_or (λ parts. parts.0) o (decimal s ++ 32 ∷ more)) (cut_again 32 (decimal s) more lacks))

pub first_source : (lines : List (List ℕ)) → IsFirstSource lines (own_ssrc lines)
unfolding own_ssrc
first_source [] = refl
first_source (l ∷ ls) = go (ssrc_at l) refl (first_source ls)
  where
    go : (o : Option ℕ) → ssrc_at l ≡ o → IsFirstSource ls (own_ssrc ls) → IsFirstSource (l ∷ ls) (option_map_or (λ ssrc. ssrc) o (own_ssrc ls))
    go None is rest = inr ((λ other n. none_some other (sym is ∙ named l other n.0 n.1 n.2)), rest)
    go (Some s) is rest = inl (names l s is)
