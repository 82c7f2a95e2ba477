-- No field of a line answers a fault of the line's frame.
use Rattle.std.proofs.Common.{◌≡◌, ℕ, ◌<◌, ◌≤◌, Bool, true, false, cond, eqb, ltb, leb, List, [], ◌∷◌, ◌++◌, length, Option, Some, None, Result, Ok, Err, refl, subst, inl, inr}
use Rattle.std.specs.Prelude.{codes, not, ◌&&◌}
use Rattle.std.specs.Bool.{beq}
use Rattle.std.specs.List.{list_all, join_with_byte}
use Rattle.std.specs.Int.{w32, from_be_bytes}
use Rattle.std.specs.Str.{bytes_eq}
use Rattle.std.proofs.lemmas.Bool.{lt-ltb, le-ltb, ltb-false, not-true}
use Rattle.sg_base.specs.declared.ScriptFault.{ScriptFault}
use Rattle.sg_base.specs.declared.ScriptFault.TheVariants.{Word, Number, Hex, Length, Version, Unended}
use Rattle.sg_base.specs.Fields.{Lacks, number_at, cut_at, octets_at, address_at}
use Rattle.sg_base.specs.Identities.{is_printing}
use Rattle.sg_base.specs.SuiteNames.{suite_at}
use Rattle.sg_base.specs.Suites.{is_raw}
use Rattle.sg_base.proofs.Cases.{chosen}
use Rattle.sg_lines.specs.declared.lines.Line.{Line}
use Rattle.sg_lines.specs.declared.lines.Line.TheVariants as lines
use Rattle.sg_lines.specs.Fields.{◌>>=◌, or_fault, number_from, call_from, port_from, address_from, hex_from, octets_from, rollover_from, window_from, noise_from, key_from, identity_from}
use Rattle.sg_lines.specs.LineFaults.{IsFieldFault}
use Rattle.sg_lines.specs.LineOf.{tick_from, reject_from, bye_from, datagram_from, datagram_at_from, psk_from, offer_secure_from, offer_sdes_from, offer_mikey_from, answer_from, manual_from, two_fields, four_fields, five_fields, six_fields, eight_fields, more_fields, said_by, fields_of, body_of, is_ended, header_from, line_of}
use Rattle.sg_lines.specs.LineText.{line_fields}
use Rattle.sg_lines.proofs.Dense.{joined_lacks}
use Rattle.sg_lines.proofs.LineLaws.{dense_line, line_takes}

abbrev pub Keeps : {A : Type 0} → Result A ScriptFault → Type 0
Keeps (Ok x) = Unit {0}
Keeps (Err fault) = IsFieldFault fault

pub bound : {A B : Type 0} (r : Result A ScriptFault) (f : A → Result B ScriptFault) → Keeps r → ((x : A) → Keeps (f x)) → Keeps (r >>= f)
bound (Ok x) f k next = next x
bound (Err d) f k next = k

found : {A : Type 0} (d : ScriptFault) (o : Option A) → IsFieldFault d → Keeps (or_fault d o)
found d (Some x) k = tt
found d None k = k

pub either : {A : Type 0} (b : Bool) (x y : Result A ScriptFault) → Keeps x → Keeps y → Keeps (cond b x y)
either true x y p q = p
either false x y p q = q

pub number : (most : ℕ) (t : List ℕ) → Keeps (number_from most t)
number most t = found Number (number_at most t) tt

call : (t : List ℕ) → Keeps (call_from t)
unfolding call_from
call t = bound (number_from 4294967295 t) _ (number 4294967295 t) (λ x. tt)

address : (t : List ℕ) → Keeps (address_from t)
address t = found Number (address_at t) tt

hex : (t : List ℕ) → Keeps (hex_from t)
unfolding hex_from
hex t = either (bytes_eq t (codes "-")) _ _ tt (either (eqb (length t) 0) _ _ tt (found Hex (octets_at t) tt))

octets : (least most : ℕ) (t : List ℕ) → Keeps (octets_from least most t)
unfolding octets_from
octets least most t = bound (hex_from t) _ (hex t) (λ x. either (leb least (length x) && leb (length x) most) (Ok x) (Err Length) tt tt)

rollover : (t : List ℕ) → Keeps (rollover_from t)
unfolding rollover_from
rollover t = bound (or_fault Hex (octets_at t)) _ (found Hex (octets_at t) tt) (λ x. either (eqb (length x) 4) (Ok (from_be_bytes w32 x)) (Err Hex) tt tt)

window : (t : List ℕ) → Keeps (window_from t)
unfolding window_from
window t = bound (number_from 1024 t) _ (number 1024 t) (λ x. either (ltb x 64) (Err Number) (Ok x) tt tt)

noise : (t : List ℕ) → Keeps (noise_from t)
unfolding noise_from
noise t = either (bytes_eq t (codes "-")) _ _ tt (bound (octets_from 304 304 t) _ (octets 304 304 t) (λ x. tt))

key : (t : List ℕ) → Keeps (key_from t)
unfolding key_from
key t = bound (or_fault Word (cut_at 58 t)) _ (found Word (cut_at 58 t) tt) (λ p. bound (or_fault Word (suite_at p.0)) _ (found Word (suite_at p.0) tt) (λ s. bound (octets_from _ _ p.1) _ (octets _ _ p.1) (λ x. tt)))

identity : (t : List ℕ) → Keeps (identity_from t)
unfolding identity_from
identity t = either (list_all is_printing t) _ _ (either (leb 1 (length t) && leb (length t) 128) (Ok t) (Err Length) tt tt) tt

two : (w a : List ℕ) → Keeps (two_fields w a)
unfolding two_fields tick_from reject_from bye_from
two w a =
    either (bytes_eq w (codes "tick")) _ _ (bound (number_from 2085978495999 a) _ (number 2085978495999 a) (λ x. tt))
    (either (bytes_eq w (codes "reject")) _ _ (bound (call_from a) _ (call a) (λ x. tt))
    (either (bytes_eq w (codes "bye")) _ _ (bound (call_from a) _ (call a) (λ x. tt)) tt))

pub port : (t : List ℕ) → Keeps (port_from t)
port t = number 65535 t

pub datagram : (a b c : List ℕ) → Keeps (datagram_from a b c)
unfolding datagram_from
datagram a b c = bound (port_from a) _ (port a) (λ x. bound (address_from b) _ (address b) (λ y. bound (octets_from 0 4352 c) _ (octets 0 4352 c) (λ z. tt)))

pub datagram_at : (a b c d : List ℕ) → Keeps (datagram_at_from a b c d)
unfolding datagram_at_from
datagram_at a b c d =
    bound (number_from 2085978495999 a) _ (number 2085978495999 a)
    (λ n. bound (port_from b) _ (port b) (λ x. bound (address_from c) _ (address c) (λ y. bound (octets_from 0 4352 d) _ (octets 0 4352 d) (λ z. tt))))

four : (version : ℕ) (w a b c : List ℕ) → Keeps (four_fields version w a b c)
unfolding four_fields psk_from offer_secure_from answer_from
four version w a b c =
    either (bytes_eq w (codes "in") && not (eqb version 2)) _ _ (datagram a b c)
    (either (bytes_eq w (codes "psk")) _ _ (bound (identity_from a) _ (identity a) (λ x. bound (identity_from b) _ (identity b) (λ y. bound (octets_from 16 64 c) _ (octets 16 64 c) (λ z. tt))))
    (either (bytes_eq w (codes "offer-secure")) _ _ (bound (call_from a) _ (call a) (λ x. bound (noise_from b) _ (noise b) (λ y. bound (octets_from 0 32768 c) _ (octets 0 32768 c) (λ z. tt))))
    (either (bytes_eq w (codes "answer")) _ _ (bound (call_from a) _ (call a) (λ x. bound (noise_from b) _ (noise b) (λ y. bound (octets_from 0 32768 c) _ (octets 0 32768 c) (λ z. tt)))) tt)))

five : (version : ℕ) (w a b c d : List ℕ) → Keeps (five_fields version w a b c d)
unfolding five_fields offer_sdes_from
five version w a b c d =
    either (bytes_eq w (codes "in") && eqb version 2) _ _ (datagram_at a b c d)
    (either (bytes_eq w (codes "offer-plain") && bytes_eq b (codes "sdes")) _ _
    (bound (call_from a) _ (call a) (λ x. bound (noise_from c) _ (noise c) (λ y. bound (octets_from 0 32768 d) _ (octets 0 32768 d) (λ z. tt)))) tt)

six : (w a b c d e : List ℕ) → Keeps (six_fields w a b c d e)
unfolding six_fields offer_mikey_from
six w a b c d e =
    either (bytes_eq w (codes "offer-plain") && bytes_eq b (codes "mikey")) _ _
    (bound (call_from a) _ (call a) (λ x. bound (identity_from c) _ (identity c) (λ i. bound (noise_from d) _ (noise d) (λ y. bound (octets_from 0 32768 e) _ (octets 0 32768 e) (λ z. tt))))) tt

eight : (w a b c d e f g : List ℕ) → Keeps (eight_fields w a b c d e f g)
unfolding eight_fields manual_from
eight w a b c d e f g =
    either (bytes_eq w (codes "manual")) _ _
    (bound (call_from a) _ (call a) (λ x. bound (address_from b) _ (address b) (λ y. bound (address_from c) _ (address c) (λ z. bound (rollover_from d) _ (rollover d) (λ r.
    bound (window_from e) _ (window e) (λ n. bound (key_from f) _ (key f) (λ k. bound (key_from g) _ (key g) (λ l. either (beq (is_raw k.suite) (is_raw l.suite)) _ _ tt tt)))))))) tt

more : (version : ℕ) (w a b c : List ℕ) (fs : List (List ℕ)) → Keeps (more_fields version w a b c fs)
more version w a b c [] = four version w a b c
more version w a b c (d ∷ []) = five version w a b c d
more version w a b c (d ∷ e ∷ []) = six w a b c d e
more version w a b c (d ∷ e ∷ f ∷ g ∷ []) = eight w a b c d e f g
more version w a b c fs = tt

pub said : (version : ℕ) (fs : List (List ℕ)) → Keeps (said_by version fs)
said version (w ∷ a ∷ []) = two w a
said version (w ∷ a ∷ b ∷ c ∷ fs) = more version w a b c fs
said version fs = tt

pub kept : {A : Type 0} (r : Result A ScriptFault) (d : ScriptFault) → Keeps r → r ≡ Err d → IsFieldFault d
kept (Ok x) d k e = absurd cc
kept (Err f) d k e = let same : f ≡ d = cc in subst IsFieldFault same k

-- the fields answer no fault of the frame
pub said_fault : (version : ℕ) (fs : List (List ℕ)) (fault : ScriptFault) → said_by version fs ≡ Err fault → IsFieldFault fault
said_fault version fs fault e = kept (said_by version fs) fault (said version fs) e

abbrev fails : ScriptFault → Result Line ScriptFault
fails fault = Err fault

pub header_not : (body : List ℕ) → header_from body ≡ Err Unended → ⊥
header_not body e =
    elim (chosen (bytes_eq body (codes "srtpgw 1")) _ _ (Err Unended) e) [
      | inl p ↦ let no : Ok lines.Header ≡ fails Unended = p.1 in cc
      | inr p ↦ elim (chosen (bytes_eq body (codes "srtpgw 2")) _ _ (Err Unended) p.1) [
        | inl q ↦ let no : Ok lines.HeaderTwo ≡ fails Unended = q.1 in cc
        | inr q ↦ let no : fails Version ≡ fails Unended = q.1 in cc
      ]
    ]

-- a line of at most 70,000 octets is Unended where its last octet isn't a line end, and nowhere else
pub unended : (version number : ℕ) (t : List ℕ) → length t ≤ 70000 → is_ended t ≡ false → line_of version number t ≡ Err Unended
unfolding line_of
unended version number t short open_end = rw (le-ltb 70000 (length t) short, open_end) refl

pub unended_only : (version number : ℕ) (t : List ℕ) → line_of version number t ≡ Err Unended → (length t ≤ 70000) × (is_ended t ≡ false)
unfolding line_of
unended_only version number t e =
    elim (chosen (ltb 70000 (length t)) _ _ (Err Unended) e) [
      | inl p ↦ absurd (let no : fails Length ≡ fails Unended = p.1 in cc)
      | inr p ↦
          elim (chosen (not (is_ended t)) _ _ (Err Unended) p.1) [
            | inl q ↦ (ltb-false _ _ p.0, not-true _ q.0)
            | inr q ↦
                elim (chosen (eqb number 1) _ _ (Err Unended) q.1) [
                  | inl r ↦ absurd (header_not (body_of t) r.1)
                  | inr r ↦ absurd (said_fault version (fields_of (body_of t)) Unended r.1)
                ]
          ]
    ]

pub too_long : (version number : ℕ) (t : List ℕ) → 70000 < length t → line_of version number t ≡ Err Length
unfolding line_of
too_long version number t long = rw (lt-ltb 70000 (length t) long) refl

-- a line ends with its only line end
pub whole : (version number : ℕ) (t : List ℕ) (l : Line) → line_of version number t ≡ Ok l → (prefix : List ℕ) × (t ≡ prefix ++ 10 ∷ []) × Lacks 10 prefix
whole version number t l e = let p = line_takes version number t l e in (join_with_byte 32 (line_fields l), p.0, joined_lacks (line_fields l) (dense_line version number l p.1))
