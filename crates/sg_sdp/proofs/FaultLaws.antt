-- What is refused has the first fault of the text, and what is read has none.
use Rattle.std.proofs.Common.{◌≡◌, ℕ, ◌+◌, ◌-◌, Bool, true, false, cond, eqb, ltb, List, [], ◌∷◌, length, take, drop, map, Option, Some, None, Result, Ok, Err, refl, sym, ap, subst, ◌∙◌, arith, inl, inr}
use Rattle.std.specs.Prelude.{◌&&◌, ◌||◌, is_none, is_some, not}
use Rattle.std.specs.List.{slice_split}
use Rattle.std.specs.Option.{option_or}
use Rattle.std.specs.Result.{result_err}
use Rattle.std.proofs.lemmas.Bool.{ne_eqb, and_left}
use Rattle.std.proofs.lemmas.List.{length-append}
use Rattle.sg_base.specs.declared.SdpFault.{SdpFault}
use Rattle.sg_base.specs.declared.SdpFault.TheVariants.{Order, Form, TooLong, TooManyMedia, Address}
use Rattle.sg_base.proofs.Cases.{chosen}
use Rattle.sg_sdp.specs.declared.faults.ReadSdpFault.{ReadSdpFault}
use Rattle.sg_sdp.specs.declared.faults.ReadSdpFault.TheVariants as errors
use Rattle.sg_sdp.specs.declared.medium.Medium.{Medium}
use Rattle.sg_sdp.specs.declared.sdp.Sdp.{Sdp}
use Rattle.sg_sdp.specs.Addresses.{addressed}
use Rattle.sg_sdp.specs.Faults.{Fault, Tells, at_number, end_fault, fault_of, is_in_order, last_part, line_fault, lines_fault, parts_fault}
use Rattle.sg_sdp.specs.LineForm.{HeadParts, connection_of, has_form, head_of, is_letter, without_cr}
use Rattle.sg_sdp.specs.Parts.{with_last_line, with_medium}
use Rattle.sg_sdp.specs.Reading.{◌>>=◌, Gives, at_line, description_of, description_within, end_of, form_of, lines_of, none_yet, opened, placed, some_head, step, steps}
use Rattle.sg_sdp.proofs.CarriedLaws.{letter_differs}
use Rattle.sg_sdp.proofs.Cases.{bind_ok, err_ok, guard_false}
use Rattle.sg_sdp.proofs.TextTakes.{HeadIs, form_takes, length-with_line_at}

-- ---- one line

-- as `placed` is, with its tests and its outcomes written as variables
abbrev place : Bool → Bool → (HeadParts → Sdp) → Sdp → Option HeadParts → Result Sdp SdpFault
place full bad opens more (Some h) = cond full (Err TooManyMedia) (Ok (opens h))
place full bad opens more None = cond bad (Err Address) (Ok more)

-- a step's fault, for each outcome of its tests
step_cases : (long formed medium ordered full bad : Bool) (head : Option HeadParts) (opens : HeadParts → Sdp) (more : Sdp) → (medium ≡ true → bad ≡ false)
    → result_err ((cond long (Err TooLong) (cond (not formed) (Err Form) (cond medium (some_head head) (Ok None)))) >>= λ h. cond ordered (place full bad opens more h) (Err Order))
    ≡ cond long (Some TooLong) (cond (not (formed && (not medium || is_some head))) (Some Form) (cond (not ordered) (Some Order) (cond (medium && full) (Some TooManyMedia) (cond bad (Some Address) None))))
step_cases true formed medium ordered full bad head opens more apart = refl
step_cases false false medium ordered full bad head opens more apart = refl
step_cases false true true ordered full bad None opens more apart = refl
step_cases false true true false full bad (Some h) opens more apart = refl
step_cases false true true true true bad (Some h) opens more apart = refl
step_cases false true true true false bad (Some h) opens more apart = rw (apart refl) refl
step_cases false true false false full bad head opens more apart = refl
step_cases false true false true full true head opens more apart = refl
step_cases false true false true full false head opens more apart = refl

places : (s : Sdp) (line : List ℕ) (head : Option HeadParts)
    → placed s line head ≡ place (eqb (length s.media) 4) (is_letter 99 line && is_none (connection_of (drop 2 line))) (λ h. with_medium (opened h) s) (with_last_line line s) head
unfolding placed
places s line (Some h) = refl
places s line None = refl

step_fault : (most n : ℕ) (s : Sdp) (line : List ℕ) → result_err (step most n s line) ≡ line_fault most n (length s.media) line
unfolding step form_of line_fault
step_fault most n s line =
    let medium = is_letter 109 line in
    let bad = is_letter 99 line && is_none (connection_of (drop 2 line)) in
    let apart : is_letter 109 line ≡ true → (is_letter 99 line && is_none (connection_of (drop 2 line))) ≡ false =
    λ e. and_left (is_letter 99 line) (is_none (connection_of (drop 2 line))) (letter_differs 109 99 line e (λ same. omega (arith, same))) in
    simp places (step_cases (ltb most (length line)) (has_form line) (is_letter 109 line) (is_in_order n line) (eqb (length s.media) 4) (is_letter 99 line && is_none (connection_of (drop 2 line))) (head_of (drop 2 line)) (λ h. with_medium (opened h) s) (with_last_line line s) apart)

-- ---- many lines

-- how many media stand behind a line
abbrev media_behind : ℕ → List ℕ → ℕ
media_behind media line = cond (is_letter 109 line) (media + 1) media

same_count : (session : List (List ℕ)) (ms : List Medium) (line : List ℕ) → length (with_last_line line (record { session = session; media = ms })).media ≡ length ms
unfolding with_last_line
same_count session [] line = refl
same_count session (m ∷ ms) line = rw (ne_eqb (length (m ∷ ms)) 0 (λ e. omega arith)) (length-with_line_at (m ∷ ms) (length (m ∷ ms) - 1) line)

placed_count : (s t : Sdp) (line : List ℕ) (head : Option HeadParts) → HeadIs line head → placed s line head ≡ Ok t → length t.media ≡ media_behind (length s.media) line
unfolding placed
placed_count s t line None other e =
    let g = guard_false (is_letter 99 line && is_none (connection_of (drop 2 line))) Address (with_last_line line s) t e in
    ap (λ (x : Sdp). length x.media) (sym g.1) ∙ same_count s.session s.media line ∙ (rw other refl)
placed_count s t line (Some h) is e =
    let g = guard_false (eqb (length s.media) 4) TooManyMedia (with_medium (opened h) s) t e in
    ap (λ (x : Sdp). length x.media) (sym g.1) ∙ length-append s.media (opened h ∷ []) ∙ (rw is.0 refl)

step_count : (most n : ℕ) (s t : Sdp) (line : List ℕ) → step most n s line ≡ Ok t → length t.media ≡ media_behind (length s.media) line
unfolding step
step_count most n s t line e =
    let h = bind_ok (form_of most line) _ t e in
    let f = form_takes most line h.0 h.1 in
    elim (chosen (is_in_order n line) _ _ (Ok t) h.2) [
      | inl p ↦ placed_count s t line h.0 f.1 p.1
      | inr p ↦ absurd (err_ok Order t p.1)
    ]

-- where a step ends
after_step : (most n : ℕ) (s : Sdp) (line : List ℕ) (raws : List (List ℕ)) (r : Result Sdp SdpFault) → step most n s line ≡ r
    → ((t : Sdp) → result_err (steps most (n + 1) t raws) ≡ lines_fault most (n + 1) (length t.media) (map without_cr raws))
    → result_err (at_line n r >>= λ t. steps most (n + 1) t raws)
    ≡ option_or (at_number n (line_fault most n (length s.media) line)) (lines_fault most (n + 1) (media_behind (length s.media) line) (map without_cr raws))
after_step most n s line raws (Err f) was more = rw (sym (step_fault most n s line) ∙ ap result_err was) refl
after_step most n s line raws (Ok t) was more =
    rw (sym (step_fault most n s line) ∙ ap result_err was, sym (step_count most n s t line was)) (more t)

steps_fault : (most n : ℕ) (s : Sdp) (raws : List (List ℕ)) → result_err (steps most n s raws) ≡ lines_fault most n (length s.media) (map without_cr raws)
unfolding steps
steps_fault most n s [] = refl
steps_fault most n s (raw ∷ raws) = after_step most n s (without_cr raw) raws (step most n s (without_cr raw)) refl (λ t. steps_fault most (n + 1) t raws)

-- ---- whole texts

end_cases : (number : ℕ) (long some early : Bool)
    → result_err (at_line number (cond long (Err TooLong) (cond some (Err Form) (cond early (Err Order) (Ok (tt {0}))))))
    ≡ at_number number (cond long (Some TooLong) (cond some (Some Form) (cond early (Some Order) None)))
end_cases number true some early = refl
end_cases number false true early = refl
end_cases number false false true = refl
end_cases number false false false = refl

end_told : (most number : ℕ) (rest : List ℕ) → result_err (at_line number (end_of most number rest)) ≡ at_number number (end_fault most number rest)
unfolding end_of end_fault
end_told most number rest = end_cases number _ _ _

joined : (r : Result Sdp Fault) (u : Result (Unit {0}) Fault) → result_err (r >>= λ s. u >>= λ x. Ok s) ≡ option_or (result_err r) (result_err u)
joined (Err f) u = refl
joined (Ok s) (Err f) = refl
joined (Ok s) (Ok x) = refl

lines_told : (most : ℕ) (parts : List (List ℕ)) → result_err (lines_of most parts) ≡ parts_fault most parts
unfolding lines_of parts_fault
lines_told most parts =
    joined (steps most 1 none_yet (take (length parts - 1) parts)) (at_line (length parts) (end_of most (length parts) (last_part parts)))
    ∙ rw (steps_fault most 1 none_yet (take (length parts - 1) parts), end_told most (length parts) (last_part parts)) refl

with_addresses : (r : Result Sdp Fault) → result_err (r >>= λ s. Ok (addressed s)) ≡ result_err r
with_addresses (Ok s) = refl
with_addresses (Err f) = refl

text_case : (long : Bool) (r : Result Sdp Fault) (fault : Option Fault) → result_err r ≡ fault → result_err (cond long (Err (0, TooLong)) r) ≡ cond long (Some (0, TooLong)) fault
text_case true r fault e = refl
text_case false r fault e = e

-- the fault of what is read of a text is the text's first
pub fault_told : (text : List ℕ) → result_err (description_of text) ≡ fault_of text
unfolding description_of description_within fault_of
fault_told text =
    text_case (ltb 16384 (length text)) _ _
    (with_addresses (lines_of 2048 (slice_split (λ b. eqb b 10) text)) ∙ lines_told 2048 (slice_split (λ b. eqb b 10) text))

told : (read : Result Sdp Fault) (r : Result Sdp ReadSdpFault) → Gives r read → Tells r (result_err read)
told read (Ok s) given = ap result_err given
told read (Err (errors.Sdp line f)) given = ap result_err given
told read (Err errors.NoMemory) given = tt

pub is_told : (text : List ℕ) (r : Result Sdp ReadSdpFault) → Gives r (description_of text) → Tells r (fault_of text)
is_told text r given = subst (Tells r) (fault_told text) (told (description_of text) r given)
