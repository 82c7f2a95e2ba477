-- Each line has one spelling: what is spelled so is read, and what is read is spelled so.
use Rattle.std.proofs.Common.{◌≡◌, ℕ, suc, ◌-◌, ◌^◌, ◌<◌, ◌≤◌, Bool, true, false, cond, eqb, ltb, List, [], ◌∷◌, ◌++◌, length, Option, Some, None, Result, Ok, Err, refl, sym, ap, subst, ◌∙◌, arith, inl, inr, lit<}
use Rattle.std.specs.Prelude.{◌&&◌, slice_index, codes, not, IfOk}
use Rattle.std.specs.Bool.{beq}
use Rattle.std.specs.List.{AllByRecursion, join_with_byte}
use Rattle.std.specs.Fmt.{decimal}
use Rattle.std.specs.Int.{w32, to_be_bytes}
use Rattle.std.specs.Str.{bytes_eq}
use Rattle.std.proofs.lemmas.Bool.{ne_eqb, eq-eqb, eqb-true, eqb-false, le-ltb, ltb-false, and_parts, not-false, not-true}
use Rattle.std.proofs.Math.Seq.{get_or-append_seam}
use Rattle.std.proofs.lemmas.List.{length-append, take_at}
use Rattle.std.proofs.lemmas.List.Splits.{slice_split_none, slice_split_at, join_with_byte-slice_split}
use Rattle.sg_base.specs.declared.Noise304.{Noise304}
use Rattle.sg_base.specs.declared.ScriptFault.{ScriptFault}
use Rattle.sg_base.specs.declared.ScriptFault.TheVariants.{Word, Length, Version, Unended}
use Rattle.sg_base.specs.Fields.{Lacks}
use Rattle.sg_base.specs.Keys.{Master}
use Rattle.sg_base.specs.SuiteNames.{suite_name}
use Rattle.sg_base.specs.Suites.{is_raw}
use Rattle.sg_base.proofs.Cases.{chosen, is_name}
use Rattle.sg_base.proofs.Cuts.{lacks_all}
use Rattle.sg_lines.specs.declared.lines.Line.{Line}
use Rattle.sg_lines.specs.declared.lines.Line.TheVariants as lines
use Rattle.sg_lines.specs.declared.lines.Signal.{Signal}
use Rattle.sg_lines.specs.declared.lines.Signal.TheVariants.{Tick, Psk, Manual, OfferSecure, OfferSdes, OfferMikey, Answer, Reject, Bye}
use Rattle.sg_lines.specs.declared.faults.ReadLineFault.{ReadLineFault}
use Rattle.sg_lines.specs.Fields.{◌>>=◌, Gives, number_from, call_from, port_from, address_from, octets_from, rollover_from, window_from, noise_from, key_from, identity_from}
use Rattle.sg_lines.specs.LineOf.{tick_from, reject_from, bye_from, datagram_from, datagram_at_from, psk_from, offer_secure_from, offer_sdes_from, offer_mikey_from, answer_from, manual_from, two_fields, four_fields, five_fields, six_fields, eight_fields, more_fields, said_by, fields_of, body_of, is_ended, header_from, line_of}
use Rattle.sg_lines.specs.LineText.{hex_text, key_text, noise_text, signal_fields, line_fields, line_text, FitsKey, FitsNoise, FitsSignal, FitsBody, FitsLine}
use Rattle.sg_lines.proofs.Dense.{IsDense, AreDense, dense_test, dense_append, dense_decimal, dense_address, dense_encoded, dense_hex, dense_suite, dense_identity, lack_spaces}
use Rattle.sg_lines.proofs.FieldLaws

-- ---- no field has a space or a line end

dense_key : (k : Master) → FitsKey k → IsDense (key_text k)
dense_key k fits = dense_append _ (hex_text (k.key ++ k.salt)) (dense_append (suite_name k.suite) (58 ∷ []) (dense_suite k.suite) (omega arith, tt)) (dense_hex (k.key ++ k.salt) fits.octets)

dense_noise : (noise : Option Noise304) → FitsNoise noise → IsDense (noise_text noise)
dense_noise None fits = dense_test (codes "-") refl
dense_noise (Some noise) fits = dense_hex noise.0 fits.0

dense_call : (n : ℕ) → n < 2 ^ 32 → IsDense (decimal n)
dense_call n fits = dense_decimal n (omega (arith, fits))

dense_signal : (s : Signal) → FitsSignal s → AreDense (signal_fields s)
dense_signal (Tick now) fits = (dense_test (codes "tick") refl, (dense_decimal now (omega (arith, fits)), tt))
dense_signal (Psk own peer key) fits =
    (dense_test (codes "psk") refl, (dense_identity own fits.0, (dense_identity peer fits.1, (dense_hex key fits.2.bytes, tt))))
dense_signal (Manual call secure plain rollover window from_peer to_peer) fits =
    let wide = fits.5 in (
      dense_test (codes "manual") refl,
      (
        dense_call call.0 fits.0,
        (
          dense_address secure fits.1,
          (
            dense_address plain fits.2,
            (dense_encoded (to_be_bytes w32 rollover) (FieldLaws.four_bytes rollover fits.3), (dense_decimal window (omega (arith, wide)), (dense_key from_peer fits.6, (dense_key to_peer fits.7, tt)))),
          ),
        ),
      ),
    )
dense_signal (OfferSecure call noise text) fits =
    (dense_test (codes "offer-secure") refl, (dense_call call.0 fits.0, (dense_noise noise fits.1, (dense_hex text fits.2.bytes, tt))))
dense_signal (OfferSdes call noise text) fits =
    (dense_test (codes "offer-plain") refl, (dense_call call.0 fits.0, (dense_test (codes "sdes") refl, (dense_noise noise fits.1, (dense_hex text fits.2.bytes, tt)))))
dense_signal (OfferMikey call peer noise text) fits =
    (dense_test (codes "offer-plain") refl, (dense_call call.0 fits.0, (dense_test (codes "mikey") refl, (dense_identity peer fits.1, (dense_noise noise fits.2, (dense_hex text fits.3.bytes, tt))))))
dense_signal (Answer call noise text) fits =
    (dense_test (codes "answer") refl, (dense_call call.0 fits.0, (dense_noise noise fits.1, (dense_hex text fits.2.bytes, tt))))
dense_signal (Reject call) fits = (dense_test (codes "reject") refl, (dense_call call.0 fits, tt))
dense_signal (Bye call) fits = (dense_test (codes "bye") refl, (dense_call call.0 fits, tt))

pub dense_line : (version number : ℕ) (l : Line) → FitsLine version number l → AreDense (line_fields l)
dense_line version number lines.Header fits = (dense_test (codes "srtpgw") refl, (dense_test (codes "1") refl, tt))
dense_line version number lines.HeaderTwo fits = (dense_test (codes "srtpgw") refl, (dense_test (codes "2") refl, tt))
dense_line version number (lines.DatagramAt now port from octets) fits =
    let small = fits.1.0 in
    let most = fits.1.4 in
    (dense_test (codes "in") refl, (dense_decimal now (omega (arith, most)), (dense_decimal port (omega (arith, small)), (dense_address from fits.1.1, (dense_hex octets fits.1.2.bytes, tt)))))
dense_line version number (lines.Datagram port from octets) fits =
    let small = fits.1.0 in
    (dense_test (codes "in") refl, (dense_decimal port (omega (arith, small)), (dense_address from fits.1.1, (dense_hex octets fits.1.2.bytes, tt))))
dense_line version number (lines.Signal s) fits = dense_signal s fits.1

-- ---- what is spelled so is read

beq-refl : (b : Bool) → beq b b ≡ true
beq-refl true = refl
beq-refl false = refl

signal_again : (version : ℕ) (s : Signal) → FitsSignal s → said_by version (signal_fields s) ≡ Ok (lines.Signal s)
unfolding two_fields four_fields five_fields six_fields eight_fields tick_from reject_from bye_from psk_from offer_secure_from offer_sdes_from offer_mikey_from answer_from manual_from
signal_again version (Tick now) fits = rw (FieldLaws.number_in_again 2085978495999 now (omega (arith, fits)) (lit< tt)) refl
signal_again version (Psk own peer key) fits =
    rw (FieldLaws.identity_again own fits.0, FieldLaws.identity_again peer fits.1, FieldLaws.octets_in_again 16 64 key fits.2) refl
signal_again version (Manual call secure plain rollover window from_peer to_peer) fits =
    rw (
      FieldLaws.call_again call fits.0,
      FieldLaws.address_in_again secure fits.1,
      FieldLaws.address_in_again plain fits.2,
      FieldLaws.rollover_again rollover fits.3,
      FieldLaws.window_again window fits.4 fits.5,
      FieldLaws.key_again from_peer fits.6,
      FieldLaws.key_again to_peer fits.7,
      fits.8,
      beq-refl (is_raw to_peer.suite),
    ) refl
signal_again version (OfferSecure call noise text) fits =
    rw (FieldLaws.call_again call fits.0, FieldLaws.noise_again noise fits.1, FieldLaws.octets_in_again 0 32768 text fits.2) refl
signal_again version (OfferSdes call noise text) fits =
    rw (FieldLaws.call_again call fits.0, FieldLaws.noise_again noise fits.1, FieldLaws.octets_in_again 0 32768 text fits.2) refl
signal_again version (OfferMikey call peer noise text) fits =
    rw (FieldLaws.call_again call fits.0, FieldLaws.identity_again peer fits.1, FieldLaws.noise_again noise fits.2, FieldLaws.octets_in_again 0 32768 text fits.3) refl
signal_again version (Answer call noise text) fits =
    rw (FieldLaws.call_again call fits.0, FieldLaws.noise_again noise fits.1, FieldLaws.octets_in_again 0 32768 text fits.2) refl
signal_again version (Reject call) fits = rw (FieldLaws.call_again call fits) refl
signal_again version (Bye call) fits = rw (FieldLaws.call_again call fits) refl

body_again : (version : ℕ) (l : Line) → FitsBody version l → said_by version (line_fields l) ≡ Ok l
unfolding four_fields five_fields datagram_from datagram_at_from
body_again version (lines.DatagramAt now port from octets) fits =
    rw (
      eq-eqb version 2 fits.3,
      FieldLaws.number_in_again 2085978495999 now (omega (arith, fits.4)) (lit< tt),
      FieldLaws.number_in_again 65535 port fits.0 (lit< tt),
      FieldLaws.address_in_again from fits.1,
      FieldLaws.octets_in_again 0 4352 octets fits.2,
    ) refl
body_again version (lines.Datagram port from octets) fits =
    rw (ne_eqb version 2 fits.3, FieldLaws.number_in_again 65535 port fits.0 (lit< tt), FieldLaws.address_in_again from fits.1, FieldLaws.octets_in_again 0 4352 octets fits.2) refl
body_again version (lines.Signal s) fits = signal_again version s fits
body_again version other fits = absurd fits

pub cut_fields : (f : List ℕ) (fs : List (List ℕ)) → AllByRecursion (Lacks 32) (f ∷ fs) → fields_of (join_with_byte 32 (f ∷ fs)) ≡ f ∷ fs
cut_fields f [] lack = slice_split_none (λ b. eqb b 32) f (lacks_all 32 f lack.0)
cut_fields f (g ∷ fs) lack = slice_split_at (λ b. eqb b 32) f 32 (join_with_byte 32 (g ∷ fs)) (lacks_all 32 f lack.0) refl ∙ ap (λ (l : List (List ℕ)). f ∷ l) (cut_fields g fs lack.1)

some_fields : (l : Line) → (f : List ℕ) × (fs : List (List ℕ)) × (line_fields l ≡ f ∷ fs)
some_fields lines.Header = (codes "srtpgw", codes "1" ∷ [], refl)
some_fields lines.HeaderTwo = (codes "srtpgw", codes "2" ∷ [], refl)
some_fields (lines.Signal (Tick now)) = (_, _, refl)
some_fields other = (_, _, refl)

pub cut_some : (gs : List (List ℕ)) (f : List ℕ) (fs : List (List ℕ)) → gs ≡ f ∷ fs → AreDense gs → fields_of (join_with_byte 32 gs) ≡ gs
cut_some gs f fs e dense =
    let lack : AllByRecursion (Lacks 32) (f ∷ fs) = subst (λ (l : List (List ℕ)). AllByRecursion (Lacks 32) l) e (lack_spaces gs dense) in
    rw e (cut_fields f fs lack)

pub cut_again : (l : Line) → AreDense (line_fields l) → fields_of (join_with_byte 32 (line_fields l)) ≡ line_fields l
cut_again l dense = let s = some_fields l in cut_some (line_fields l) s.0 s.1 s.2 dense

pub body_ends : (x : List ℕ) → body_of (x ++ 10 ∷ []) ≡ x
body_ends x = let n : length (x ++ 10 ∷ []) - 1 ≡ length x = omega (arith, length-append x (10 ∷ [])) in rw n (take_at x (10 ∷ []) (length x) refl)

pub is_ended_so : (x : List ℕ) → is_ended (x ++ 10 ∷ []) ≡ true
is_ended_so x =
    let n : length (x ++ 10 ∷ []) - 1 ≡ length x = omega (arith, length-append x (10 ∷ [])) in
    eq-eqb _ _ (rw n (get_or-append_seam x 10 [] 0))

pub last_is : (t : List ℕ) → slice_index t (length t - 1) ≡ 10 → t ≡ body_of t ++ 10 ∷ []
last_is [] e = absurd (omega arith)
last_is (x ∷ []) e = rw e refl
last_is (x ∷ y ∷ ys) e =
    let k : length (x ∷ y ∷ ys) - 1 ≡ suc (length (y ∷ ys) - 1) = omega arith in
    let f : slice_index (y ∷ ys) (length (y ∷ ys) - 1) ≡ 10 = rw k at e in
    rw k (ap (λ (l : List ℕ). x ∷ l) (last_is (y ∷ ys) f))

last_step : (version number : ℕ) (l : Line) → FitsLine version number l
    → cond (eqb number 1) (header_from (join_with_byte 32 (line_fields l))) (said_by version (fields_of (join_with_byte 32 (line_fields l)))) ≡ Ok l
last_step version number lines.Header fits = rw (eq-eqb number 1 fits) refl
last_step version number lines.HeaderTwo fits = rw (eq-eqb number 1 fits) refl
last_step version number other fits = rw (ne_eqb number 1 fits.0, cut_again other (dense_line version number other fits)) (body_again version other fits.1)

pub line_again : (version number : ℕ) (l : Line) → FitsLine version number l → length (line_text l) ≤ 70000 → line_of version number (line_text l) ≡ Ok l
unfolding line_of
line_again version number l fits short =
    let long : ltb 70000 (length (line_text l)) ≡ false = le-ltb _ _ short in
    rw (long, is_ended_so (join_with_byte 32 (line_fields l)), body_ends (join_with_byte 32 (line_fields l))) (last_step version number l fits)

-- ---- what is read is spelled so

unfoldable Reads : ℕ → List (List ℕ) → Line → Type 0
Reads version fs l = (fs ≡ line_fields l) × FitsBody version l

so : (version : ℕ) (fs : List (List ℕ)) (x l : Line) → FieldLaws.done x ≡ FieldLaws.done l → fs ≡ line_fields x → FitsBody version x → Reads version fs l
unfolding Reads
so version fs x l e same fits = subst (Reads version fs) (FieldLaws.ok_is x l e) (same, fits)

-- a field that was read, what it is, and what is read with it
taken : {A : Type 0} {P : A → Type 0} (r : Result A ScriptFault) (f : A → Result Line ScriptFault) (l : Line) → ((x : A) → r ≡ Ok x → P x) → (r >>= f) ≡ Ok l
    → (x : A) × P x × (f x ≡ Ok l)
taken r f l is e = let p = FieldLaws.bind_ok r f l e in (p.0, is p.0 p.1, p.2)

two_take : (version : ℕ) (w a : List ℕ) (l : Line) → two_fields w a ≡ Ok l → Reads version (w ∷ a ∷ []) l
unfolding two_fields tick_from reject_from bye_from
two_take version w a l e = elim (chosen (bytes_eq w (codes "tick")) _ _ (Ok l) e) [
  | inl p ↦
      let now = taken (number_from 2085978495999 a) _ l (FieldLaws.number_in_takes 2085978495999 a) p.1 in
      so version _ (lines.Signal (Tick now.0)) l now.2 (λ i. is_name w (codes "tick") p.0 i ∷ now.1.0 i ∷ []) (omega (arith, now.1.1))
  | inr p ↦ elim (chosen (bytes_eq w (codes "reject")) _ _ (Ok l) p.1) [
    | inl q ↦
        let call = taken (call_from a) _ l (FieldLaws.call_takes a) q.1 in
        so version _ (lines.Signal (Reject call.0)) l call.2 (λ i. is_name w (codes "reject") q.0 i ∷ call.1.0 i ∷ []) call.1.1
    | inr q ↦ elim (chosen (bytes_eq w (codes "bye")) _ _ (Ok l) q.1) [
      | inl r ↦
          let call = taken (call_from a) _ l (FieldLaws.call_takes a) r.1 in
          so version _ (lines.Signal (Bye call.0)) l call.2 (λ i. is_name w (codes "bye") r.0 i ∷ call.1.0 i ∷ []) call.1.1
      | inr r ↦ absurd (FieldLaws.err_ok Word l r.1)
    ]
  ]
]

four_take : (version : ℕ) (w a b c : List ℕ) (l : Line) → four_fields version w a b c ≡ Ok l → Reads version (w ∷ a ∷ b ∷ c ∷ []) l
unfolding four_fields datagram_from psk_from offer_secure_from answer_from
four_take version w a b c l e = elim (chosen (bytes_eq w (codes "in") && not (eqb version 2)) _ _ (Ok l) e) [
  | inl p ↦
      let both = and_parts (bytes_eq w (codes "in")) (not (eqb version 2)) p.0 in
      let port = taken (port_from a) _ l (FieldLaws.number_in_takes 65535 a) p.1 in
      let from = taken (address_from b) _ l (FieldLaws.address_in_takes b) port.2 in
      let octets = taken (octets_from 0 4352 c) _ l (FieldLaws.octets_in_takes 0 4352 c) from.2 in
      so version _ (lines.Datagram port.0 from.0 octets.0) l octets.2 (λ i. is_name w (codes "in") both.0 i ∷ port.1.0 i ∷ from.1.0 i ∷ octets.1.0 i ∷ [])
      (port.1.1, from.1.1, octets.1.1, eqb-false _ _ (not-true _ both.1))
  | inr p ↦ elim (chosen (bytes_eq w (codes "psk")) _ _ (Ok l) p.1) [
    | inl q ↦
        let own = taken (identity_from a) _ l (FieldLaws.identity_takes a) q.1 in
        let peer = taken (identity_from b) _ l (FieldLaws.identity_takes b) own.2 in
        let key = taken (octets_from 16 64 c) _ l (FieldLaws.octets_in_takes 16 64 c) peer.2 in
        so version _ (lines.Signal (Psk own.0 peer.0 key.0)) l key.2 (λ i. is_name w (codes "psk") q.0 i ∷ own.1.0 i ∷ peer.1.0 i ∷ key.1.0 i ∷ [])
        (own.1.1, peer.1.1, key.1.1)
    | inr q ↦ elim (chosen (bytes_eq w (codes "offer-secure")) _ _ (Ok l) q.1) [
      | inl r ↦
          let call = taken (call_from a) _ l (FieldLaws.call_takes a) r.1 in
          let noise = taken (noise_from b) _ l (FieldLaws.noise_takes b) call.2 in
          let text = taken (octets_from 0 32768 c) _ l (FieldLaws.octets_in_takes 0 32768 c) noise.2 in
          so version _ (lines.Signal (OfferSecure call.0 noise.0 text.0)) l text.2
          (λ i. is_name w (codes "offer-secure") r.0 i ∷ call.1.0 i ∷ noise.1.0 i ∷ text.1.0 i ∷ []) (call.1.1, noise.1.1, text.1.1)
      | inr r ↦ elim (chosen (bytes_eq w (codes "answer")) _ _ (Ok l) r.1) [
        | inl s ↦
            let call = taken (call_from a) _ l (FieldLaws.call_takes a) s.1 in
            let noise = taken (noise_from b) _ l (FieldLaws.noise_takes b) call.2 in
            let text = taken (octets_from 0 32768 c) _ l (FieldLaws.octets_in_takes 0 32768 c) noise.2 in
            so version _ (lines.Signal (Answer call.0 noise.0 text.0)) l text.2
            (λ i. is_name w (codes "answer") s.0 i ∷ call.1.0 i ∷ noise.1.0 i ∷ text.1.0 i ∷ []) (call.1.1, noise.1.1, text.1.1)
        | inr s ↦ absurd (FieldLaws.err_ok Word l s.1)
      ]
    ]
  ]
]

five_take : (version : ℕ) (w a b c d : List ℕ) (l : Line) → five_fields version w a b c d ≡ Ok l → Reads version (w ∷ a ∷ b ∷ c ∷ d ∷ []) l
unfolding five_fields datagram_at_from offer_sdes_from
five_take version w a b c d l e = elim (chosen (bytes_eq w (codes "in") && eqb version 2) _ _ (Ok l) e) [
  | inl p ↦
      let both = and_parts (bytes_eq w (codes "in")) (eqb version 2) p.0 in
      let now = taken (number_from 2085978495999 a) _ l (FieldLaws.number_in_takes 2085978495999 a) p.1 in
      let port = taken (port_from b) _ l (FieldLaws.number_in_takes 65535 b) now.2 in
      let from = taken (address_from c) _ l (FieldLaws.address_in_takes c) port.2 in
      let octets = taken (octets_from 0 4352 d) _ l (FieldLaws.octets_in_takes 0 4352 d) from.2 in
      so version _ (lines.DatagramAt now.0 port.0 from.0 octets.0) l octets.2
      (λ i. is_name w (codes "in") both.0 i ∷ now.1.0 i ∷ port.1.0 i ∷ from.1.0 i ∷ octets.1.0 i ∷ []) (port.1.1, from.1.1, octets.1.1, eqb-true _ _ both.1, now.1.1)
  | inr p ↦ elim (chosen (bytes_eq w (codes "offer-plain") && bytes_eq b (codes "sdes")) _ _ (Ok l) p.1) [
    | inl q ↦
        let both = and_parts (bytes_eq w (codes "offer-plain")) (bytes_eq b (codes "sdes")) q.0 in
        let call = taken (call_from a) _ l (FieldLaws.call_takes a) q.1 in
        let noise = taken (noise_from c) _ l (FieldLaws.noise_takes c) call.2 in
        let text = taken (octets_from 0 32768 d) _ l (FieldLaws.octets_in_takes 0 32768 d) noise.2 in
        so version _ (lines.Signal (OfferSdes call.0 noise.0 text.0)) l text.2
        (λ i. is_name w (codes "offer-plain") both.0 i ∷ call.1.0 i ∷ is_name b (codes "sdes") both.1 i ∷ noise.1.0 i ∷ text.1.0 i ∷ []) (call.1.1, noise.1.1, text.1.1)
    | inr q ↦ absurd (FieldLaws.err_ok Word l q.1)
  ]
]

six_take : (version : ℕ) (w a b c d f : List ℕ) (l : Line) → six_fields w a b c d f ≡ Ok l → Reads version (w ∷ a ∷ b ∷ c ∷ d ∷ f ∷ []) l
unfolding six_fields offer_mikey_from
six_take version w a b c d f l e = elim (chosen (bytes_eq w (codes "offer-plain") && bytes_eq b (codes "mikey")) _ _ (Ok l) e) [
  | inl p ↦
      let both = and_parts (bytes_eq w (codes "offer-plain")) (bytes_eq b (codes "mikey")) p.0 in
      let call = taken (call_from a) _ l (FieldLaws.call_takes a) p.1 in
      let peer = taken (identity_from c) _ l (FieldLaws.identity_takes c) call.2 in
      let noise = taken (noise_from d) _ l (FieldLaws.noise_takes d) peer.2 in
      let text = taken (octets_from 0 32768 f) _ l (FieldLaws.octets_in_takes 0 32768 f) noise.2 in
      so version _ (lines.Signal (OfferMikey call.0 peer.0 noise.0 text.0)) l text.2
      (λ i. is_name w (codes "offer-plain") both.0 i ∷ call.1.0 i ∷ is_name b (codes "mikey") both.1 i ∷ peer.1.0 i ∷ noise.1.0 i ∷ text.1.0 i ∷ [])
      (call.1.1, peer.1.1, noise.1.1, text.1.1)
  | inr p ↦ absurd (FieldLaws.err_ok Word l p.1)
]

beq_true : (a b : Bool) → beq a b ≡ true → a ≡ b
beq_true true true e = refl
beq_true true false e = absurd cc
beq_true false true e = absurd cc
beq_true false false e = refl

eight_take : (version : ℕ) (w a b c d f g h : List ℕ) (l : Line) → eight_fields w a b c d f g h ≡ Ok l → Reads version (w ∷ a ∷ b ∷ c ∷ d ∷ f ∷ g ∷ h ∷ []) l
unfolding eight_fields manual_from Reads
eight_take version w a b c d f g h l e = elim (chosen (bytes_eq w (codes "manual")) _ _ (Ok l) e) [
  | inl p ↦
      let call = taken (call_from a) _ l (FieldLaws.call_takes a) p.1 in
      let secure = taken (address_from b) _ l (FieldLaws.address_in_takes b) call.2 in
      let plain = taken (address_from c) _ l (FieldLaws.address_in_takes c) secure.2 in
      let rollover = taken (rollover_from d) _ l (FieldLaws.rollover_takes d) plain.2 in
      let window = taken (window_from f) _ l (FieldLaws.window_takes f) rollover.2 in
      let from_peer = taken (key_from g) _ l (FieldLaws.key_takes g) window.2 in
      let to_peer = taken (key_from h) _ l (FieldLaws.key_takes h) from_peer.2 in
      let made : Line = lines.Signal (Manual call.0 secure.0 plain.0 rollover.0 window.0 from_peer.0 to_peer.0) in
      let rule = FieldLaws.guard_true (beq (is_raw from_peer.0.suite) (is_raw to_peer.0.suite)) Word made l to_peer.2 in
      subst (Reads version (w ∷ a ∷ b ∷ c ∷ d ∷ f ∷ g ∷ h ∷ [])) rule.1 (
        (λ i. is_name w (codes "manual") p.0 i ∷ call.1.0 i ∷ secure.1.0 i ∷ plain.1.0 i ∷ rollover.1.0 i ∷ window.1.0 i ∷ from_peer.1.0 i ∷ to_peer.1.0 i ∷ []),
        (call.1.1, secure.1.1, plain.1.1, rollover.1.1, window.1.1, window.1.2, from_peer.1.1, to_peer.1.1, beq_true _ _ rule.0),
      )
  | inr p ↦ absurd (FieldLaws.err_ok Word l p.1)
]

more_take : (version : ℕ) (w a b c : List ℕ) (more : List (List ℕ)) (l : Line) → more_fields version w a b c more ≡ Ok l → Reads version (w ∷ a ∷ b ∷ c ∷ more) l
more_take version w a b c [] l e = four_take version w a b c l e
more_take version w a b c (d ∷ []) l e = five_take version w a b c d l e
more_take version w a b c (d ∷ f ∷ []) l e = six_take version w a b c d f l e
more_take version w a b c (d ∷ f ∷ g ∷ h ∷ []) l e = eight_take version w a b c d f g h l e
more_take version w a b c more l e = absurd (FieldLaws.err_ok Word l e)

pub fields_take : (version : ℕ) (fs : List (List ℕ)) (l : Line) → said_by version fs ≡ Ok l → (fs ≡ line_fields l) × FitsBody version l
unfolding Reads
fields_take version (w ∷ a ∷ []) l e = two_take version w a l e
fields_take version (w ∷ a ∷ b ∷ c ∷ more) l e = more_take version w a b c more l e
fields_take version fs l e = absurd (FieldLaws.err_ok Word l e)

body_fits : (version number : ℕ) (l : Line) → (number ≡ 1 → ⊥) → FitsBody version l → FitsLine version number l
body_fits version number lines.Header other fits = absurd fits
body_fits version number lines.HeaderTwo other fits = absurd fits
body_fits version number another other fits = (other, fits)

-- a header, by its text
header_takes : (version number : ℕ) (t : List ℕ) (l : Line) → number ≡ 1 → t ≡ body_of t ++ 10 ∷ [] → header_from (body_of t) ≡ Ok l → (t ≡ line_text l) × FitsLine version number l
header_takes version number t l first whole e =
    elim (chosen (bytes_eq (body_of t) (codes "srtpgw 1")) _ _ (Ok l) e) [
      | inl s ↦ subst (λ (x : Line). (t ≡ line_text x) × FitsLine version number x) (FieldLaws.ok_is lines.Header l s.1) (whole ∙ ap (λ (b : List ℕ). b ++ 10 ∷ []) (is_name (body_of t) _ s.0), first)
      | inr s ↦
          elim (chosen (bytes_eq (body_of t) (codes "srtpgw 2")) _ _ (Ok l) s.1) [
            | inl r ↦ subst (λ (x : Line). (t ≡ line_text x) × FitsLine version number x) (FieldLaws.ok_is lines.HeaderTwo l r.1) (whole ∙ ap (λ (b : List ℕ). b ++ 10 ∷ []) (is_name (body_of t) _ r.0), first)
            | inr r ↦ absurd (FieldLaws.err_ok Version l r.1)
          ]
    ]

pub line_takes : (version number : ℕ) (t : List ℕ) (l : Line) → line_of version number t ≡ Ok l → (t ≡ line_text l) × FitsLine version number l × (length t ≤ 70000)
unfolding line_of
line_takes version number t l e =
    let body = body_of t in
    elim (chosen (ltb 70000 (length t)) _ _ (Ok l) e) [
      | inl p ↦ absurd (FieldLaws.err_ok Length l p.1)
      | inr p ↦
          elim (chosen (not (is_ended t)) _ _ (Ok l) p.1) [
            | inl q ↦ absurd (FieldLaws.err_ok Unended l q.1)
            | inr q ↦
                let whole : t ≡ body ++ 10 ∷ [] = last_is t (eqb-true _ _ (not-false _ q.0)) in
                let short : length t ≤ 70000 = ltb-false _ _ p.0 in
                elim (chosen (eqb number 1) _ _ (Ok l) q.1) [
                  | inl r ↦ let header = header_takes version number t l (eqb-true _ _ r.0) whole r.1 in (header.0, header.1, short)
                  | inr r ↦
                      let f = fields_take version (fields_of body) l r.1 in
                      let back : body ≡ join_with_byte 32 (line_fields l) = sym (join_with_byte-slice_split 32 body) ∙ ap (join_with_byte 32) f.0 in
                      (whole ∙ ap (λ (b : List ℕ). b ++ 10 ∷ []) back, body_fits version number l (eqb-false _ _ r.0) f.1, short)
                ]
          ]
    ]

pub is_found : (version number : ℕ) (t : List ℕ) (r : Result Line ReadLineFault) → Gives r (line_of version number t) → IfOk r (λ l. FitsLine version number l × (t ≡ line_text l))
is_found version number t (Ok l) given = let p = line_takes version number t l given in (p.1, p.0)
is_found version number t (Err e) given = tt
