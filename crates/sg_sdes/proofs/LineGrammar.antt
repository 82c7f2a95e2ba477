-- A line is read of exactly the texts that say it.
use Rattle.std.proofs.Common.{◌≡◌, ℕ, zero, suc, ◌+◌, ◌^◌, ◌<◌, ◌≤◌, Bool, true, false, leb, List, [], ◌∷◌, ◌++◌, length, map, Some, Ok, refl, sym, ap, ◌∙◌, subst, arith, inl, inr, append_assoc, length-append}
use Rattle.std.specs.Fmt.{decimal}
use Rattle.std.specs.Prelude.{◌↔◌, codes, replicate}
use Rattle.std.specs.Char.{is_ascii_digit}
use Rattle.std.specs.List.{AllByRecursion, filter, join_with_byte, list_all}
use Rattle.std.proofs.lemmas.Bool.{and_parts, cases_eq, eq-eqb, leb-true, ne_eqb}
use Rattle.base64.specs.GeneralPurpose.{IsBytes, encode_of}
use Rattle.base64.specs.Engines.{standard}
use Rattle.sg_base.specs.declared.SdesFault.TheVariants.{Tag, Suite as NoSuite, MkiValue as NoMki, Parameter}
use Rattle.sg_base.specs.declared.Suite.{Suite}
use Rattle.sg_base.specs.Fields.{Lacks}
use Rattle.sg_base.specs.Suites.{is_raw}
use Rattle.sg_base.specs.SuiteNames.{suite_name, suite_at}
use Rattle.sg_base.proofs.Cuts.{lacks_append}
use Rattle.sg_base.proofs.FourNumbers.{bind_some}
use Rattle.sg_base.proofs.SuiteLemmas.{suite_lacks_space, suite_takes}
use Rattle.sg_sdes.specs.declared.lines.CryptoLine.{CryptoLine}
use Rattle.sg_sdes.specs.declared.lines.InlineKey.{InlineKey}
use Rattle.sg_sdes.specs.declared.parameters.Parameters.{Parameters}
use Rattle.sg_sdes.specs.CryptoOf.{crypto_by, crypto_of, crypto_parts}
use Rattle.sg_sdes.specs.CryptoText.{IsCryptoLine, IsInlineKey, crypto_text, crypto_words, inline_text, keys_text, lifetime_text, mark_words, mki_text}
use Rattle.sg_sdes.specs.Grammar.{AreSpaced, IsParameter, SaysLifetime, SaysLine, SaysNumber, SayKeys, SayParameters, SayWindow, count_of, is_window, times}
use Rattle.sg_sdes.specs.Keys.{keys_of, all_differ}
use Rattle.sg_sdes.specs.KeyTexts.{digits_at, crypto_suite_at}
use Rattle.sg_sdes.specs.Parameters.{unsaid, parameters_from}
use Rattle.sg_sdes.specs.Words.{words_of}
use Rattle.sg_sdes.proofs.AgainLaws.{crypto_suite_again, digits_again, parameters_again}
use Rattle.sg_sdes.proofs.KeyGrammar.{key_lacks_space, keys_read, keys_say, left_bytes, right_bytes}
use Rattle.sg_sdes.proofs.NumberGrammar.{number_reads, number_says}
use Rattle.sg_sdes.proofs.ParameterGrammar.{From, parameters_read, parameters_say, some_unless}
use Rattle.sg_sdes.proofs.TextLaws.{IsWord, marks_lack, some_suite, space_decimal}
use Rattle.sg_sdes.proofs.ValidLaws.{bind_ok, crypto_valid, done, found, ok_if, parts_valid}
use Rattle.sg_sdes.proofs.WordGrammar.{Spaced, spaced_words, words_spaced}

-- ---- what is read of a text says the line

suite_says : (t : List ℕ) (s : Suite) → crypto_suite_at t ≡ Some s → t ≡ suite_name s
unfolding crypto_suite_at
suite_says t s e =
    let p = bind_some (suite_at t) _ s e in
    let g = some_unless (is_raw p.0) p.0 s p.2 in
    subst (λ (x : Suite). t ≡ suite_name x) g.1 (suite_takes t p.0 p.1)

-- what the parts of a line say
record SayParts (tag suite keys : List ℕ) (said : List (List ℕ)) (l : CryptoLine) : Type 0 where
  says_tag : SaysNumber tag l.tag
  says_suite : suite ≡ suite_name l.suite
  texts : List (List ℕ)
  joined : join_with_byte 59 texts ≡ keys
  say_keys : SayKeys texts l.keys
  all : Parameters
  says_rtp : all.plain_rtp ≡ l.plain_rtp
  says_rtcp : all.plain_rtcp ≡ l.plain_rtcp
  says_window : all.window ≡ l.window
  from : From unsaid said all

parts_say : (tag suite keys : List ℕ) (said : List (List ℕ)) (l : CryptoLine) → IsBytes keys → crypto_parts tag suite keys said ≡ Ok l → SayParts tag suite keys said l
unfolding crypto_parts
parts_say tag suite keys said l fits e =
    let n = found Tag (digits_at tag) _ l e in
    let s = found NoSuite (crypto_suite_at suite) _ l n.2 in
    let k = bind_ok (keys_of s.0 keys) _ l s.2 in
    let g = ok_if (all_differ k.0) _ NoMki l k.2 in
    let p = found Parameter (parameters_from unsaid said) _ l g.1 in
    let t = keys_say s.0 keys k.0 fits k.1 in
    let made : CryptoLine = record { tag = n.0; suite = s.0; keys = k.0; window = p.0.window; plain_rtp = p.0.plain_rtp; plain_rtcp = p.0.plain_rtcp } in
    let says : SayParts tag suite keys said made = record {
      says_tag = number_says tag n.0 n.1;
      says_suite = suite_says suite s.0 s.1;
      texts = t.0;
      joined = t.1;
      say_keys = t.2;
      all = p.0;
      says_rtp = refl;
      says_rtcp = refl;
      says_window = refl;
      from = parameters_say unsaid p.0 said p.1;
    } in
    subst (λ (x : CryptoLine). SayParts tag suite keys said x) (done made l p.2) says

mark_most : (b : Bool) → times b ≤ 1
mark_most true = omega arith
mark_most false = omega arith

from_nothing : (said : List (List ℕ)) (all : Parameters) (l : CryptoLine) → From unsaid said all → AllByRecursion (Lacks 32) said → all.plain_rtp ≡ l.plain_rtp → all.plain_rtcp ≡ l.plain_rtcp → all.window ≡ l.window
    → SayParameters said l
from_nothing said all l from lacks rtp rtcp window =
    record {
      known = from.known;
      lack_spaces = lacks;
      rate = (let m = mark_most all.rate in omega (arith, from.rate, m));
      order = (let m = mark_most all.order in omega (arith, from.order, m));
      plain_rtp = (let e = ap times rtp in omega (arith, from.plain_rtp, e));
      plain_rtcp = (let e = ap times rtcp in omega (arith, from.plain_rtcp, e));
      window = subst (SayWindow (filter is_window said)) window from.window;
    }

-- no keys are said by an empty word
no_keys : (texts : List (List ℕ)) (keys : List InlineKey) → join_with_byte 59 texts ≡ [] → 1 ≤ length keys → SayKeys texts keys → ⊥
no_keys [] [] e some says = omega (arith, some)
no_keys [] (k ∷ ks) e some says = says
no_keys (t ∷ ts) [] e some says = says
no_keys (t ∷ []) (k ∷ ks) e some says = let parts = ap length says.0.parts in let none = ap length e in omega (arith, parts, none)
no_keys (t ∷ u ∷ us) (k ∷ ks) e some says = let none = ap length e in omega (arith, none, length-append t (59 ∷ join_with_byte 59 (u ∷ us)))

-- a text of fewer words says no line
line_says : (ws : List (List ℕ)) (t : List ℕ) (l : CryptoLine) → Spaced ws t → AllByRecursion IsBytes ws → crypto_by ws ≡ Ok l → SaysLine t l
line_says [] t l spaced fits e = absurd (let says = parts_say [] [] [] [] l (λ i. omega arith) e in let some = says.says_tag.some in omega (arith, some))
line_says (a ∷ []) t l spaced fits e =
    absurd (let says = parts_say a [] [] [] l (λ i. omega arith) e in let some = some_suite l.suite in let none = ap length says.says_suite in omega (arith, some, none))
line_says (a ∷ b ∷ []) t l spaced fits e = absurd (let says = parts_say a b [] [] l (λ i. omega arith) e in no_keys says.texts l.keys says.joined (parts_valid a b [] [] l e).some says.say_keys)
line_says (a ∷ b ∷ c ∷ ws) t l spaced fits e =
    let says = parts_say a b c ws l fits.1.1.0 e in
    record {
      tag = a;
      keys = says.texts;
      parameters = ws;
      words = subst (λ (x : List ℕ). AreSpaced (a ∷ x ∷ join_with_byte 59 says.texts ∷ ws) t) says.says_suite (subst (λ (x : List ℕ). AreSpaced (a ∷ b ∷ x ∷ ws) t) (sym says.joined) spaced.0);
      says_tag = says.says_tag;
      say_keys = says.say_keys;
      say_parameters = from_nothing ws says.all l says.from spaced.1.1.1.1 says.says_rtp says.says_rtcp says.says_window;
    }

spaced_bytes : (ws : List (List ℕ)) (t : List ℕ) → IsBytes t → AreSpaced ws t → AllByRecursion IsBytes ws
spaced_bytes [] t fits e = tt
spaced_bytes (w ∷ []) t fits e = (subst IsBytes e fits, tt)
spaced_bytes (w ∷ v ∷ vs) t fits f =
    let whole : IsBytes (w ++ 32 ∷ (replicate f.0 32 ++ f.1)) = subst IsBytes f.2 fits in
    let rest : IsBytes (32 ∷ (replicate f.0 32 ++ f.1)) = right_bytes w (32 ∷ (replicate f.0 32 ++ f.1)) whole in
    (left_bytes w (32 ∷ (replicate f.0 32 ++ f.1)) whole, spaced_bytes (v ∷ vs) f.1 (right_bytes (replicate f.0 32) f.1 (λ i. rest (suc i))) f.3)

crypto_says : (t : List ℕ) (l : CryptoLine) → IsBytes t → crypto_of t ≡ Ok l → SaysLine t l
unfolding crypto_of
crypto_says t l fits e = let spaced = words_spaced t in line_says (words_of t) t l spaced (spaced_bytes (words_of t) t fits spaced.0) e

-- ---- a line is read of what says it

digits_lack : (t : List ℕ) → list_all is_ascii_digit t ≡ true → Lacks 32 t
digits_lack [] e = tt
digits_lack (x ∷ xs) e =
    let p = and_parts (is_ascii_digit x) (list_all is_ascii_digit xs) e in
    let q = and_parts (leb 48 x) (leb x 57) p.0 in
    (ne_eqb x 32 (λ f. omega (arith, leb-true 48 x q.0, f)), digits_lack xs p.1)

parameter_some : (t : List ℕ) → IsParameter t → 0 < length t
parameter_some [] (inl p) = absurd cc
parameter_some [] (inr (inl p)) = absurd cc
parameter_some [] (inr (inr (inl p))) = absurd cc
parameter_some [] (inr (inr (inr (inl p)))) = absurd cc
parameter_some [] (inr (inr (inr (inr (inl p))))) = absurd cc
parameter_some [] (inr (inr (inr (inr (inr p))))) = absurd cc
parameter_some (x ∷ xs) kind = omega arith

parameter_words : (ts : List (List ℕ)) → AllByRecursion IsParameter ts → AllByRecursion (Lacks 32) ts → AllByRecursion IsWord ts
parameter_words [] known lacks = tt
parameter_words (t ∷ ts) known lacks = (record { lacks = lacks.0; some = parameter_some t known.0 }, parameter_words ts known.1 lacks.1)

keys_lack : (suite : Suite) (ts : List (List ℕ)) (ks : List InlineKey) → AllByRecursion (IsInlineKey suite) ks → SayKeys ts ks → Lacks 32 (join_with_byte 59 ts)
keys_lack suite [] ks all says = tt
keys_lack suite (t ∷ ts) [] all says = absurd says
keys_lack suite (t ∷ []) (k ∷ ks) all says = key_lacks_space suite t k all.0 says.0 space_decimal
keys_lack suite (t ∷ u ∷ us) (k ∷ ks) all says =
    lacks_append 32 t (59 ∷ join_with_byte 59 (u ∷ us)) (key_lacks_space suite t k all.0 says.0 space_decimal) (refl, keys_lack suite (u ∷ us) ks all.1 says.1)

keys_some : (ts : List (List ℕ)) (ks : List InlineKey) → 1 ≤ length ks → SayKeys ts ks → 0 < length (join_with_byte 59 ts)
keys_some [] [] some says = absurd (omega (arith, some))
keys_some [] (k ∷ ks) some says = absurd says
keys_some (t ∷ ts) [] some says = absurd says
keys_some (t ∷ []) (k ∷ ks) some says = let parts = ap length says.0.parts in omega (arith, parts)
keys_some (t ∷ u ∷ us) (k ∷ ks) some says = omega (arith, length-append t (59 ∷ join_with_byte 59 (u ∷ us)))

-- a count of at most one is that of a mark
marked : (n : ℕ) → n ≤ 1 → (b : Bool) × (n + 0 ≡ times b)
marked zero most = (false, omega arith)
marked (suc zero) most = (true, omega arith)
marked (suc (suc n)) most = absurd (omega (arith, most))

parameters_of : (ts : List (List ℕ)) (l : CryptoLine) → SayParameters ts l
    → (rate : Bool) × (order : Bool) × (parameters_from unsaid ts ≡ Some (record { rate = rate; order = order; plain_rtp = l.plain_rtp; plain_rtcp = l.plain_rtcp; window = l.window }))
parameters_of ts l says =
    let r = marked (count_of (codes "KDR=0") ts) says.rate in
    let o = marked (count_of (codes "FEC_ORDER=FEC_SRTP") ts) says.order in
    let all : Parameters = record { rate = r.0; order = o.0; plain_rtp = l.plain_rtp; plain_rtcp = l.plain_rtcp; window = l.window } in (
      r.0,
      o.0,
      parameters_read ts unsaid all (record {
        known = says.known;
        rate = r.1;
        order = o.1;
        plain_rtp = omega (arith, says.plain_rtp);
        plain_rtcp = omega (arith, says.plain_rtcp);
        window = says.window;
      }),
    )

parts_read : (tag : List ℕ) (keys parameters : List (List ℕ)) (l : CryptoLine) → IsCryptoLine l → SaysNumber tag l.tag → SayKeys keys l.keys → SayParameters parameters l
    → crypto_by (tag ∷ suite_name l.suite ∷ join_with_byte 59 keys ∷ parameters) ≡ Ok l
unfolding crypto_parts
parts_read tag keys parameters l is says_tag say_keys say_parameters =
    let p = parameters_of parameters l say_parameters in
    rw (number_reads tag l.tag says_tag, crypto_suite_again l.suite is.suite, keys_read l.suite keys l.keys is.some is.few is.keys say_keys, is.mkis, p.2) refl

crypto_reads : (t : List ℕ) (l : CryptoLine) → IsCryptoLine l → SaysLine t l → crypto_of t ≡ Ok l
unfolding crypto_of
crypto_reads t l is says =
    let tag = says.says_tag in
    let words : AllByRecursion IsWord (says.tag ∷ suite_name l.suite ∷ join_with_byte 59 says.keys ∷ says.parameters) = (
      record { lacks = digits_lack says.tag tag.digits; some = omega (arith, tag.some) },
      (
        record { lacks = suite_lacks_space l.suite; some = some_suite l.suite },
        (
          record { lacks = keys_lack l.suite says.keys l.keys is.keys says.say_keys; some = keys_some says.keys l.keys is.some says.say_keys },
          parameter_words says.parameters says.say_parameters.known says.say_parameters.lack_spaces,
        ),
      ),
    ) in
    ap crypto_by (spaced_words says.tag (suite_name l.suite ∷ join_with_byte 59 says.keys ∷ says.parameters) t words says.words)
    ∙ parts_read says.tag says.keys says.parameters l is says.says_tag says.say_keys says.say_parameters

pub line_read_iff : (t : List ℕ) (l : CryptoLine) → IsBytes t → (crypto_of t ≡ Ok l) ↔ (IsCryptoLine l × SaysLine t l)
line_read_iff t l fits = (λ e. (crypto_valid t l e, crypto_says t l fits e), λ p. crypto_reads t l p.0 p.1)

-- ---- the one spelling of a line says it

lifetime_said : (n : ℕ) → SaysLifetime (lifetime_text n) n
lifetime_said n = elim (cases_eq n (2 ^ 48)) [
  | inl is ↦ inl (rw (eq-eqb n (2 ^ 48) is) refl, is)
  | inr isnt ↦ inr (decimal n, rw (ne_eqb n (2 ^ 48) isnt) refl, inl refl)
]

keys_said : (ks : List InlineKey) → SayKeys (map inline_text ks) ks
keys_said [] = tt
keys_said (k ∷ ks) =
    let octets : List ℕ = encode_of standard (k.key.key ++ k.key.salt) in
    let parts = ap (λ (l : List ℕ). codes "inline:" ++ l) (append_assoc octets (lifetime_text k.lifetime) (mki_text k.mki)) in
    (record { octets = octets; lifetime = lifetime_text k.lifetime; parts = parts; says_octets = inl refl; says_lifetime = lifetime_said k.lifetime }, keys_said ks)

words_said : (w : List ℕ) (ws : List (List ℕ)) → AreSpaced (w ∷ ws) (join_with_byte 32 (w ∷ ws))
words_said w [] = refl
words_said w (v ∷ vs) = (0, join_with_byte 32 (v ∷ vs), refl, words_said v vs)

pub crypto_again : (l : CryptoLine) → IsCryptoLine l → crypto_of (crypto_text l) ≡ Ok l
unfolding crypto_text
crypto_again l is =
    let all : Parameters = record { rate = false; order = false; plain_rtp = l.plain_rtp; plain_rtcp = l.plain_rtcp; window = l.window } in
    let from = parameters_say unsaid all (mark_words l) (parameters_again l.plain_rtp l.plain_rtcp l.window is.window) in
    crypto_reads (join_with_byte 32 (crypto_words l)) l is (record {
      tag = decimal l.tag;
      keys = map inline_text l.keys;
      parameters = mark_words l;
      words = words_said (decimal l.tag) (suite_name l.suite ∷ keys_text l.keys ∷ mark_words l);
      says_tag = number_says (decimal l.tag) l.tag (digits_again l.tag is.tag);
      say_keys = keys_said l.keys;
      say_parameters = from_nothing (mark_words l) all l from (marks_lack l.plain_rtp l.plain_rtcp l.window is.window) refl refl refl;
    })
