-- A line of RFC 5761 is no key.
use Rattle.std.proofs.Common.{◌≡◌, ◌⊎◌, inl, inr, ℕ, List, [], ◌∷◌, sym, subst, ap, arith, ◌∙◌}
use Rattle.std.specs.List.{All, Any, AllByRecursion, slice_split}
use Rattle.std.specs.Prelude.{slice_index}
use Rattle.std.proofs.lemmas.List.Elements.{All-from_recursion, recursion_from_All}
use Rattle.sg_outcome.specs.declared.outcomes.Outcome.TheVariants.{Made, Live, Sdp, Refused, Ended, Out, Dropped, Unsent}
use Rattle.sg_gateway.proofs.Common.{CallId, Outcome, Plain, Secure, Side, any_cases, any_none, each_at_this, each_weaker}
use Rattle.sg_gateway.specs.PlainTexts.{HasNoKey, IsKeyLine, TellsNoKey, ends_line}
use Rattle.sg_passages.specs.Passages.{AddsMuxLines, AreToldAs, IsFaithful, IsToldAs, Leaves, Passage, mux_line}

no_key : ¬ IsKeyLine mux_line
no_key (rest, inl same) = let e : 114 ≡ 99 = ap (λ l. slice_index l 2) same in omega (arith, e)
no_key (rest, inr same) = let e : 114 ≡ 107 = ap (λ l. slice_index l 2) same in omega (arith, e)

abbrev NoLineIsKey : List ℕ → Type 0
NoLineIsKey text = All (λ line. ¬ IsKeyLine line) (slice_split ends_line text)

no_line : (text : List ℕ) → HasNoKey text → NoLineIsKey text
no_line text none = none.read

stays_no_key : (first text : List ℕ) → AddsMuxLines first text → NoLineIsKey first → NoLineIsKey text
stays_no_key first text adds none =
    All-from_recursion (λ line. ¬ IsKeyLine line) (slice_split ends_line text)
    (each_weaker (λ line. Any (λ l. l ≡ line) (slice_split ends_line first) ⊎ (line ≡ mux_line)) (λ line. ¬ IsKeyLine line) line_is
    (slice_split ends_line text) (recursion_from_All _ (slice_split ends_line text) adds.added))
  where
    line_is : (line : List ℕ) → Any (λ l. l ≡ line) (slice_split ends_line first) ⊎ (line ≡ mux_line) → ¬ IsKeyLine line
    line_is line (inl own) = each_at_this (λ line. ¬ IsKeyLine line) (slice_split ends_line first) line (recursion_from_All _ (slice_split ends_line first) none) own
    line_is line (inr added) = subst (λ line. ¬ IsKeyLine line) (sym added) no_key

module _ (leaves : Leaves) (id : CallId) (text : List ℕ) where
  abbrev IsText : Outcome → Type 0
  IsText o = o ≡ Sdp id Plain text

  of_text : (i : CallId) (side : Side) (first other : List ℕ) → AddsMuxLines first other → Sdp i side other ≡ Sdp id Plain text → TellsNoKey (Sdp i side first) → NoLineIsKey text
  of_text i Plain first other adds same none = let e : other ≡ text = cc in subst NoLineIsKey e (stays_no_key first other adds (no_line first none))
  of_text i Secure first other adds same none = absurd cc

  one_text : (o t : Outcome) → IsToldAs leaves o t → TellsNoKey o → IsText t → NoLineIsKey text
  one_text (Sdp i side first) t is none it = of_text i side first is.0 is.2 (sym is.1 ∙ it) none
  one_text (Dropped port cause) t is none it = absurd (let e = sym is.1 ∙ it in cc)
  one_text other t is none it = absurd (let e = sym is ∙ it in cc)

  some_text : (os ts : List Outcome) → AreToldAs leaves os ts → AllByRecursion TellsNoKey os → Any IsText ts → NoLineIsKey text
  some_text [] ts told none a = absurd (any_none IsText (subst (Any IsText) told a))
  some_text (o ∷ os) ts told none a = elim (any_cases IsText told.0 told.1 (subst (Any IsText) told.2 a)) [
    | inl it ↦ one_text o told.0 told.3 none.0 it
    | inr rest ↦ some_text os told.1 told.4 none.1 rest
  ]

-- no text that is told for the plain side has a key
pub told_no_key : (p : Passage) → IsFaithful p → All TellsNoKey p.turn.outcomes → (id : CallId) (text : List ℕ) → Any (λ o. o ≡ Sdp id Plain text) p.told → NoLineIsKey text
told_no_key p f none id text a = some_text p.leaves id text p.turn.outcomes p.told f.told (recursion_from_All TellsNoKey p.turn.outcomes none) a
