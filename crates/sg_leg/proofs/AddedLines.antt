-- Lines that are added one by one.
use Rattle.std.proofs.Common.{◌≡◌, ℕ, zero, suc, ◌+◌, List, [], ◌∷◌, ◌++◌, append_assoc, refl, ap, ◌∙◌, arith}
use Rattle.std.proofs.lemmas.List.{append-nil}
use Rattle.sg_agreement.specs.CarriedTexts.{carried_text, with_media_lines}
use Rattle.sg_sdp.specs.Carrying.{carried}
use Rattle.sg_sdp.specs.Descriptions.{spelling}
use Rattle.sg_sdp.specs.Parts.{with_line_at}
use Rattle.sg_sdp.specs.declared.medium.Medium as descriptions
use Rattle.sg_sdp.specs.declared.medium.Profile.{Profile}
use Rattle.sg_sdp.specs.declared.sdp.Sdp.{Sdp}
use Rattle.sg_leg.specs.Texts.{with_lines_at, with_lines_from}

pub lines_next : (k : ℕ) (line : List ℕ) (rest : List (List ℕ)) (ms : List descriptions.Medium) → with_lines_at k rest (with_line_at k line ms) ≡ with_lines_at k (line ∷ rest) ms
unfolding with_line_at
lines_next zero line rest [] = refl
lines_next zero line rest (m ∷ ms) = ap (λ (l : List (List ℕ)). let n : descriptions.Medium = record m { lines = l } in n ∷ ms) (append_assoc m.lines (line ∷ []) rest)
lines_next (suc k) line rest [] = refl
lines_next (suc k) line rest (m ∷ ms) = ap (λ l. m ∷ l) (lines_next k line rest ms)

pub lines_none : (k : ℕ) (ms : List descriptions.Medium) → with_lines_at k [] ms ≡ ms
lines_none zero [] = refl
lines_none zero (m ∷ ms) = ap (λ (l : List (List ℕ)). let n : descriptions.Medium = record m { lines = l } in n ∷ ms) (append-nil m.lines)
lines_none (suc k) [] = refl
lines_none (suc k) (m ∷ ms) = ap (λ l. m ∷ l) (lines_none k ms)

pub media_next : (k : ℕ) (lines : List (List ℕ)) (later : List (List (List ℕ))) (ms : List descriptions.Medium)
    → with_lines_from (k + 1) later (with_lines_at k lines ms) ≡ with_lines_from k (lines ∷ later) ms
media_next zero lines later [] = refl
media_next zero lines later (m ∷ ms) = refl
media_next (suc k) lines later [] = let one : suc k + 1 ≡ suc (k + 1) = omega arith in ap (λ n. with_lines_from n later []) one
media_next (suc k) lines later (m ∷ ms) =
    let one : suc k + 1 ≡ suc (k + 1) = omega arith in
    ap (λ n. with_lines_from n later (m ∷ with_lines_at k lines ms)) one ∙ ap (λ l. m ∷ l) (media_next k lines later ms)

pub media_none : (k : ℕ) (ms : List descriptions.Medium) → with_lines_from k [] ms ≡ ms
media_none zero [] = refl
media_none zero (m ∷ ms) = refl
media_none (suc k) [] = refl
media_none (suc k) (m ∷ ms) = ap (λ l. m ∷ l) (media_none k ms)

pub text_is : (ports : List ℕ) (profiles : List Profile) (session : List (List ℕ)) (media : List (List (List ℕ))) (s a b d : Sdp)
    → a ≡ carried ports profiles s → b ≡ record { session = a.session ++ session; media = a.media } → d ≡ record { session = b.session; media = with_media_lines b.media media }
    → spelling d ≡ carried_text ports profiles (record { session = session; media = media }) s
unfolding carried_text
text_is ports profiles session media s a b d first second third =
    ap spelling (third ∙ ap (λ (b : Sdp). let d : Sdp = record { session = b.session; media = with_media_lines b.media media } in d) (second
    ∙ ap (λ (a : Sdp). let b : Sdp = record { session = a.session ++ session; media = a.media } in b) first))
