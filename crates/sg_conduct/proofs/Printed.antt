-- What is told is read as the description that it spells.
use Rattle.std.proofs.Common.{◌≡◌, ℕ, ◌+◌, ◌*◌, ◌<◌, ◌≤◌, ◌%◌, ◌/◌, ◌^◌, zero, suc, Bool, true, false, cond, not, eqb, List, [], ◌∷◌, ◌++◌, length, map, replicate, codes, Option, Some, None, Ok, refl, sym, ap, ◌∙◌, subst, arith}
use Rattle.std.proofs.lemmas.Bool.{and_from, and_parts, ne_eqb, not-true, not_from_false}
use Rattle.std.specs.Fmt.{decimal}
use Rattle.std.specs.List.{AllByRecursion, flat_map, join_with_byte, list_all}
use Rattle.std.specs.Option.{option_or}
use Rattle.std.specs.Prelude.{◌&&◌, slice_index}
use Rattle.base64.specs.Rfc4648.{encode_group, encode_symbols}
use Rattle.base64.specs.GeneralPurpose.{encode_of}
use Rattle.base64.specs.Engines.{standard}
use Rattle.sg_base.proofs.Cuts.{lacks_append}
use Rattle.sg_base.proofs.SuiteLemmas.{lacks_test}
use Rattle.sg_base.specs.Fields.{Lacks}
use Rattle.sg_base.specs.Mkis.{MkiValue}
use Rattle.sg_base.specs.SuiteNames.{suite_name}
use Rattle.sg_base.specs.declared.suites.Suite.{Suite}
use Rattle.sg_base.specs.declared.suites.Suite.TheVariants.{Raw80, Cm128Tag80, Cm128Tag32, Cm192Tag80, Cm192Tag32, Cm256Tag80, Cm256Tag32}
use Rattle.sg_sdes.specs.CryptoText.{crypto_text, crypto_words, inline_text, keys_text, lifetime_text, mark_words, mki_text, plain_rtcp_words, plain_rtp_words, window_words}
use Rattle.sg_sdes.specs.declared.lines.InlineKey.{InlineKey}
use Rattle.sg_sdp.specs.Addresses.{address_in, first_address, medium_address}
use Rattle.sg_sdp.specs.Carrying.{carried}
use Rattle.sg_sdp.specs.Descriptions.{HasPrefix, IsAddressed, IsKept, IsMedium, IsSdp, IsWithinLimits, all_lines, medium_lines, spelling}
use Rattle.sg_sdp.specs.LineForm.{has_form, is_inner}
use Rattle.sg_sdp.specs.declared.medium.Medium as descriptions
use Rattle.sg_sdp.specs.declared.sdp.Sdp.{Sdp}
use Rattle.sg_agreement.proofs.OneLines.{decimal_one, one_append, one_more, one_of}
use Rattle.sg_agreement.specs.CarriedTexts.{Added, IsOneLine, ports_from, rtp_port, with_added, with_media_lines}
use Rattle.sg_conduct.specs.ToldTexts.{IsReadable}
use Rattle.sg_gateway.proofs.Common.{CryptoLine, Plain, Profile, Secure, Side, description_of, each_append, each_weaker}

-- ---- base64 has no line end

at_index : (c : ℕ) (t : List ℕ) (i : ℕ) → 0 < c → list_all (λ x. not (eqb x c)) t ≡ true → eqb (slice_index t i) c ≡ false
at_index c [] i above all = ne_eqb 0 c (λ e. omega (arith, e, above))
at_index c (x ∷ xs) zero above all = not-true (eqb x c) (and_parts (not (eqb x c)) (list_all (λ x. not (eqb x c)) xs) all).0
at_index c (x ∷ xs) (suc i) above all = at_index c xs i above (and_parts (not (eqb x c)) (list_all (λ x. not (eqb x c)) xs) all).1

symbols_lack : (c : ℕ) (t m : List ℕ) → 0 < c → list_all (λ x. not (eqb x c)) t ≡ true → Lacks c (encode_symbols t m)
unfolding encode_symbols
symbols_lack c t [] above all = tt
symbols_lack c t (a ∷ []) above all = (at_index c t (a / 4) above all, (at_index c t (a % 4 * 16) above all, tt))
symbols_lack c t (a ∷ b ∷ []) above all = (at_index c t (a / 4) above all, (at_index c t (a % 4 * 16 + b / 16) above all, (at_index c t (b % 16 * 4) above all, tt)))
symbols_lack c t (a ∷ b ∷ d ∷ rest) above all =
    lacks_append c (encode_group t a b d) (encode_symbols t rest)
    (at_index c t (a / 4) above all, (at_index c t (a % 4 * 16 + b / 16) above all, (at_index c t (b % 16 * 4 + d / 64) above all, (at_index c t (d % 64) above all, tt))))
    (symbols_lack c t rest above all)

replicated_lack : (c n x : ℕ) → eqb x c ≡ false → Lacks c (replicate n x)
replicated_lack c zero x other = tt
replicated_lack c (suc n) x other = (other, replicated_lack c n x other)

pub base64_one : (m : List ℕ) → IsOneLine (encode_of standard m)
base64_one m = (
  lacks_append 10 (encode_symbols standard.encode_table m) _ (symbols_lack 10 standard.encode_table m (omega arith) refl) (replicated_lack 10 _ 61 refl),
  lacks_append 13 (encode_symbols standard.encode_table m) _ (symbols_lack 13 standard.encode_table m (omega arith) refl) (replicated_lack 13 _ 61 refl),
)

-- ---- nor has a crypto line

pub test_one : (t : List ℕ) → list_all (λ x. not (eqb x 10)) t ≡ true → list_all (λ x. not (eqb x 13)) t ≡ true → IsOneLine t
test_one t a b = (lacks_test 10 t a, lacks_test 13 t b)

suite_one : (s : Suite) → IsOneLine (suite_name s)
unfolding suite_name
suite_one Raw80 = test_one (suite_name Raw80) refl refl
suite_one Cm128Tag80 = test_one (suite_name Cm128Tag80) refl refl
suite_one Cm128Tag32 = test_one (suite_name Cm128Tag32) refl refl
suite_one Cm192Tag80 = test_one (suite_name Cm192Tag80) refl refl
suite_one Cm192Tag32 = test_one (suite_name Cm192Tag32) refl refl
suite_one Cm256Tag80 = test_one (suite_name Cm256Tag80) refl refl
suite_one Cm256Tag32 = test_one (suite_name Cm256Tag32) refl refl

joined_one : (c : ℕ) (words : List (List ℕ)) → (c ≡ 10 → ⊥) → (c ≡ 13 → ⊥) → AllByRecursion IsOneLine words → IsOneLine (join_with_byte c words)
joined_one c [] lf cr all = (tt, tt)
joined_one c (w ∷ []) lf cr all = all.0
joined_one c (w ∷ v ∷ ws) lf cr all = one_append w _ all.0 (one_more c _ lf cr (joined_one c (v ∷ ws) lf cr all.1))

mki_one : (mki : Option MkiValue) → IsOneLine (mki_text mki)
mki_one None = (tt, tt)
mki_one (Some m) =
    one_append ((codes "|" ++ decimal m.value) ++ codes ":") (decimal m.length)
    (one_append (codes "|" ++ decimal m.value) (codes ":") (one_append (codes "|") (decimal m.value) (test_one (codes "|") refl refl) (decimal_one m.value)) (test_one (codes ":") refl refl)) (decimal_one m.length)

lifetime_one : (n : ℕ) → IsOneLine (lifetime_text n)
lifetime_one n = one_of (eqb n (2 ^ 48)) [] (codes "|" ++ decimal n) (tt, tt) (one_append (codes "|") (decimal n) (test_one (codes "|") refl refl) (decimal_one n))

inline_one : (k : InlineKey) → IsOneLine (inline_text k)
inline_one k =
    let key : List ℕ = encode_of standard (k.key.key ++ k.key.salt) in
    one_append ((codes "inline:" ++ key) ++ lifetime_text k.lifetime) (mki_text k.mki)
    (one_append (codes "inline:" ++ key) (lifetime_text k.lifetime) (one_append (codes "inline:") key (test_one (codes "inline:") refl refl) (base64_one (k.key.key ++ k.key.salt))) (lifetime_one k.lifetime))
    (mki_one k.mki)

keys_one : (keys : List InlineKey) → IsOneLine (keys_text keys)
keys_one keys = joined_one 59 (map inline_text keys) (λ e. omega (arith, e)) (λ e. omega (arith, e)) (each_of_keys keys)
  where
    each_of_keys : (keys : List InlineKey) → AllByRecursion IsOneLine (map inline_text keys)
    each_of_keys [] = tt
    each_of_keys (k ∷ ks) = (inline_one k, each_of_keys ks)

said_one : (said : Bool) (word : List ℕ) → IsOneLine word → AllByRecursion IsOneLine (cond said (word ∷ []) [])
said_one true word one = (one, tt)
said_one false word one = tt

window_one : (window : Option ℕ) → AllByRecursion IsOneLine (window_words window)
window_one None = tt
window_one (Some n) = (one_append (codes "WSH=") (decimal n) (test_one (codes "WSH=") refl refl) (decimal_one n), tt)

marks_one : (l : CryptoLine) → AllByRecursion IsOneLine (mark_words l)
marks_one l =
    each_append IsOneLine (plain_rtp_words l.plain_rtp ++ plain_rtcp_words l.plain_rtcp) (window_words l.window)
    (each_append IsOneLine (plain_rtp_words l.plain_rtp) (plain_rtcp_words l.plain_rtcp) (said_one l.plain_rtp (codes "UNENCRYPTED_SRTP") (test_one (codes "UNENCRYPTED_SRTP") refl refl))
    (said_one l.plain_rtcp (codes "UNENCRYPTED_SRTCP") (test_one (codes "UNENCRYPTED_SRTCP") refl refl)))
    (window_one l.window)

pub crypto_one : (l : CryptoLine) → IsOneLine (crypto_text l)
unfolding crypto_text
crypto_one l = joined_one 32 (crypto_words l) (λ e. omega (arith, e)) (λ e. omega (arith, e)) (decimal_one l.tag, (suite_one l.suite, (keys_one l.keys, marks_one l)))

-- ---- attributes that are added

-- an attribute without a line end
abbrev pub IsAttribute : List ℕ → Type 0
IsAttribute line = (rest : List ℕ) × (line ≡ 97 ∷ 61 ∷ rest) × IsOneLine rest

abbrev pub AreAttributes : List (List ℕ) → Type 0
AreAttributes lines = AllByRecursion IsAttribute lines

abbrev HasNoZero : List ℕ → Type 0
HasNoZero line = AllByRecursion (λ x. ¬ x ≡ 0) line

all_inner : (t : List ℕ) → HasNoZero t → IsOneLine t → list_all is_inner t ≡ true
all_inner [] none one = refl
all_inner (x ∷ t) none one =
    and_from (is_inner x) (list_all is_inner t)
    (and_from (not (eqb x 0) && not (eqb x 10)) (not (eqb x 13))
    (and_from (not (eqb x 0)) (not (eqb x 10)) (not_from_false (eqb x 0) (ne_eqb x 0 none.0)) (not_from_false (eqb x 10) one.0.0)) (not_from_false (eqb x 13) one.1.0))
    (all_inner t none.1 (one.0.1, one.1.1))

attribute_kept : (line : List ℕ) → IsAttribute line → HasNoZero line → IsKept line
unfolding has_form
attribute_kept line (rest, is, one) none =
    let zeros : HasNoZero (97 ∷ 61 ∷ rest) = subst HasNoZero is none in
    subst IsKept (sym is) (record { form = all_inner rest zeros.1.1 one; no_medium = refl; address = λ c. absurd cc })

each_kept : (lines : List (List ℕ)) → AreAttributes lines → AllByRecursion HasNoZero lines → AllByRecursion IsKept lines
each_kept [] are none = tt
each_kept (l ∷ ls) are none = (attribute_kept l are.0 none.0, each_kept ls are.1 none.1)

no_address : (line : List ℕ) → IsAttribute line → address_in line ≡ None
unfolding address_in
no_address line (rest, is, one) = ap address_in is

-- they give no address
same_address : (ls more : List (List ℕ)) → AreAttributes more → first_address (ls ++ more) ≡ first_address ls
unfolding first_address
same_address [] [] are = refl
same_address [] (l ∷ more) are = ap (λ (a : Option (List ℕ)). option_or a (first_address more)) (no_address l are.0) ∙ same_address [] more are.1
same_address (x ∷ ls) more are = ap (option_or (address_in x)) (same_address ls more are)

prefix_stays : (session more : List (List ℕ)) → HasPrefix session → HasPrefix (session ++ more)
prefix_stays [] more prefix = absurd prefix
prefix_stays (v ∷ []) more prefix = absurd prefix
prefix_stays (v ∷ o ∷ []) more prefix = absurd prefix
prefix_stays (v ∷ o ∷ s ∷ rest) more prefix = prefix

-- ---- what is told is a description

left : {X : Type 0} (P : X → Type 0) (xs ys : List X) → AllByRecursion P (xs ++ ys) → AllByRecursion P xs
left P [] ys all = tt
left P (x ∷ xs) ys all = (all.0, left P xs ys all.1)

right : {X : Type 0} (P : X → Type 0) (xs ys : List X) → AllByRecursion P (xs ++ ys) → AllByRecursion P ys
right P [] ys all = all
right P (x ∷ xs) ys all = right P xs ys all.1

media_long : (ms : List descriptions.Medium) (more : List (List (List ℕ))) → length (with_media_lines ms more) ≡ length ms
media_long [] [] = refl
media_long [] (l ∷ more) = refl
media_long (m ∷ ms) [] = refl
media_long (m ∷ ms) (l ∷ more) = ap suc (media_long ms more)

module _ (session added : List (List ℕ)) (are : AreAttributes added) where
  addressed_still : (ms : List descriptions.Medium) → AllByRecursion (IsAddressed session) ms → AllByRecursion (IsAddressed (session ++ added)) ms
  addressed_still [] is = tt
  addressed_still (m ∷ ms) is = (is.0 ∙ ap (λ (a : Option (List ℕ)). medium_address a m.lines) (sym (same_address session added are)), addressed_still ms is.1)

  media_addressed : (ms : List descriptions.Medium) (more : List (List (List ℕ))) → AllByRecursion AreAttributes more → AllByRecursion (IsAddressed session) ms → AllByRecursion (IsAddressed (session ++ added)) (with_media_lines ms more)
  media_addressed [] [] all is = tt
  media_addressed [] (l ∷ more) all is = tt
  media_addressed (m ∷ ms) [] all is = addressed_still (m ∷ ms) is
  media_addressed (m ∷ ms) (lines ∷ more) all is = (
    is.0 ∙ ap (λ (a : Option (List ℕ)). medium_address a m.lines) (sym (same_address session added are))
        ∙ ap (λ (a : Option (List ℕ)). option_or a (first_address (session ++ added))) (sym (same_address m.lines lines all.0)),
    media_addressed ms more all.1 is.1,
  )

media_are : (ms : List descriptions.Medium) (more : List (List (List ℕ))) → AllByRecursion AreAttributes more → AllByRecursion HasNoZero (flat_map medium_lines (with_media_lines ms more)) → AllByRecursion IsMedium ms
    → AllByRecursion IsMedium (with_media_lines ms more)
media_are [] [] all none is = tt
media_are [] (l ∷ more) all none is = tt
media_are (m ∷ ms) [] all none is = is
media_are (m ∷ ms) (lines ∷ more) all none is =
    let this = left HasNoZero (m.lines ++ lines) (flat_map medium_lines (with_media_lines ms more)) none.1 in
    let rest = right HasNoZero (m.lines ++ lines) (flat_map medium_lines (with_media_lines ms more)) none.1 in (
      record {
        word = is.0.word;
        port = is.0.port;
        proto = is.0.proto;
        profile = is.0.profile;
        formats = is.0.formats;
        inner = is.0.inner;
        lines = each_append IsKept m.lines lines is.0.lines (each_kept lines all.0 (right HasNoZero m.lines lines this));
      },
      media_are ms more all.1 rest is.1,
    )

with_added_is : (added : Added) (s : Sdp) → AreAttributes added.session → AllByRecursion AreAttributes added.media → AllByRecursion HasNoZero (all_lines (with_added added s)) → IsSdp s → IsSdp (with_added added s)
with_added_is added s session media none is =
    let of_session = left HasNoZero (s.session ++ added.session) (flat_map medium_lines (with_media_lines s.media added.media)) none in
    record {
      prefix = prefix_stays s.session added.session is.prefix;
      session = each_append IsKept s.session added.session is.session (each_kept added.session session (right HasNoZero s.session added.session of_session));
      media = media_are s.media added.media media (right HasNoZero (s.session ++ added.session) _ none) is.media;
      few = (let long = media_long s.media added.media in let few = is.few in omega (arith, long, few));
      addresses = media_addressed s.session added.session session s.media added.media media is.addresses;
    }

-- ---- what is told is read

ports_low : (slot : ℕ) (side : Side) → slot < 256 → (k : ℕ) (active : List Bool) → k + length active ≤ 4 → AllByRecursion (λ port. port ≤ 65535) (ports_from slot k side active)
ports_low slot side low k [] few = tt
ports_low slot side low k (b ∷ active) few = (one b side, ports_low slot side low (k + 1) active (omega (arith, few)))
  where
    one : (b : Bool) (side : Side) → cond b (rtp_port slot k side) 0 ≤ 65535
    one true Secure = omega (arith, low, few)
    one true Plain = omega (arith, low, few)
    one false side = omega arith

-- the laws of sg_sdp
pub record Laws : Type 0 where
  pub again : (s : Sdp) → IsSdp s → IsWithinLimits s (spelling s) → description_of (spelling s) ≡ Ok s
  pub valid : (ports : List ℕ) (profiles : List Profile) (s : Sdp) → IsSdp s → AllByRecursion (λ port. port ≤ 65535) ports → IsSdp (carried ports profiles s)

pub told_read : Laws → (side : Side) (slot : ℕ) (active : List Bool) (ps : List Profile) (added : Added) (s : Sdp) → IsSdp s → slot < 256 → length active ≡ length s.media
    → AreAttributes added.session → AllByRecursion AreAttributes added.media → (let told : Sdp = with_added added (carried (ports_from slot 0 side active) ps s) in
    IsReadable told (spelling told) → description_of (spelling told) ≡ Ok told)
told_read laws side slot active ps added s is low long session media can =
    let told : Sdp = with_added added (carried (ports_from slot 0 side active) ps s) in
    let none = each_weaker (λ line. (length line ≤ 2048) × HasNoZero line) HasNoZero (λ line p. p.1) (all_lines told) can.lines in
    let few = is.few in
    let ports = ports_low slot side low 0 active (omega (arith, long, few)) in
    laws.again told (with_added_is added (carried (ports_from slot 0 side active) ps s) session media none (laws.valid (ports_from slot 0 side active) ps s is ports))
    (record { short = each_weaker (λ line. (length line ≤ 2048) × HasNoZero line) (λ line. length line ≤ 2048) (λ line p. p.0) (all_lines told) can.lines; whole = can.whole })
