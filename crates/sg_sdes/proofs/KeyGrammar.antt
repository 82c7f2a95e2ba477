-- The keys of a line and their texts, both ways.
use Rattle.std.proofs.Common.{◌≡◌, ℕ, zero, suc, ◌+◌, ◌^◌, ◌<◌, ◌≤◌, true, false, eqb, List, [], ◌∷◌, ◌++◌, length, drop, Option, Some, None, Result, Ok, Err, refl, sym, ap, ◌∙◌, subst, arith, inl, inr}
use Rattle.std.specs.Prelude.{not, codes, IfSome}
use Rattle.std.specs.Fmt.{decimal}
use Rattle.std.specs.List.{AllByRecursion, join_with_byte, list_all, slice_split}
use Rattle.std.proofs.Math.Pow.{pow_mono}
use Rattle.std.proofs.lemmas.Bool.{cases_lt, ne_eqb}
use Rattle.std.proofs.lemmas.List.{append-nil}
use Rattle.std.proofs.lemmas.List.Splits.{join_with_byte-slice_split, slice_split_at, slice_split_none}
use Rattle.base64.specs.GeneralPurpose.{IsBytes}
use Rattle.base64.specs.Engines.{standard}
use Rattle.base64.specs.Rfc4648.{encode_symbols}
use Rattle.sg_base.specs.declared.SdesFault.{SdesFault}
use Rattle.sg_base.specs.declared.SdesFault.TheVariants.{Key}
use Rattle.sg_base.specs.declared.Suite.{Suite}
use Rattle.sg_base.specs.Fields.{Lacks, cut_at}
use Rattle.sg_base.specs.Mkis.{MkiValue, IsMki}
use Rattle.sg_base.proofs.Cases.{chosen}
use Rattle.sg_base.proofs.Cuts.{lacks_all, lacks_append}
use Rattle.sg_base.proofs.Decimals.{number_again}
use Rattle.sg_base.proofs.SuiteLemmas.{lacks_test}
use Rattle.sg_sdes.specs.declared.lines.InlineKey.{InlineKey}
use Rattle.sg_sdes.specs.CryptoText.{mki_text, IsInlineKey}
use Rattle.sg_sdes.specs.Grammar.{SaysOctets, SaysPackets, SaysLifetime, SaysKey, SayKeys}
use Rattle.sg_sdes.specs.Keys.{at_bar, inline_at, keys_from, keys_of}
use Rattle.sg_sdes.specs.KeyTexts.{base64_at, key_at, lifetime_at}
use Rattle.sg_sdes.proofs.AgainLaws.{a_lifetime, an_mki, both_there, key_of, lifetime_again, mki_again, neither, one_part, small_length, two_parts}
use Rattle.sg_sdes.proofs.Base64Laws.{base64_bare, base64_padded, base64_takes}
use Rattle.sg_sdes.proofs.TextLaws.{base64_lacks, decimal_without, mki_lacks, mki_part, mki_text_is, some_mki_lacks, symbols_lack}
use Rattle.sg_sdes.proofs.ValidLaws.{bind_ok, done, inline_parts}

-- ---- octets of a text's parts

pub left_bytes : (a b : List ℕ) → IsBytes (a ++ b) → IsBytes a
left_bytes [] b h i = omega arith
left_bytes (x ∷ a) b h zero = h 0
left_bytes (x ∷ a) b h (suc i) = left_bytes a b (λ j. h (suc j)) i

pub right_bytes : (a b : List ℕ) → IsBytes (a ++ b) → IsBytes b
right_bytes [] b h = h
right_bytes (x ∷ a) b h = right_bytes a b (λ j. h (suc j))

parts_bytes : (ts : List (List ℕ)) → IsBytes (join_with_byte 59 ts) → AllByRecursion IsBytes ts
parts_bytes [] h = tt
parts_bytes (t ∷ []) h = (h, tt)
parts_bytes (t ∷ u ∷ us) h =
    let rest : IsBytes (59 ∷ join_with_byte 59 (u ∷ us)) = right_bytes t (59 ∷ join_with_byte 59 (u ∷ us)) h in
    (left_bytes t (59 ∷ join_with_byte 59 (u ∷ us)) h, parts_bytes (u ∷ us) (λ i. rest (suc i)))

-- ---- what is read of a key's text says so

inline_says : (suite : Suite) (t : List ℕ) (k : InlineKey) → IsBytes t → inline_at suite t ≡ Ok k → SaysKey t k
inline_says suite t k fits e =
    let r = inline_parts suite t k e in
    let s = r.1 in
    let body : IsBytes (s.octets ++ (s.lifetime ++ mki_text k.mki)) = subst IsBytes s.parts (right_bytes (codes "inline:") (drop 7 t) (subst IsBytes r.0 fits)) in
    record {
      octets = s.octets;
      lifetime = s.lifetime;
      parts = r.0 ∙ ap (λ (l : List ℕ). codes "inline:" ++ l) s.parts;
      says_octets = base64_takes s.octets (k.key.key ++ k.key.salt) (left_bytes s.octets (s.lifetime ++ mki_text k.mki) body) s.spelled;
      says_lifetime = s.says_lifetime;
    }

texts_say : (suite : Suite) (n : ℕ) (ts : List (List ℕ)) (ks : List InlineKey) → AllByRecursion IsBytes ts → keys_from suite n ts ≡ Ok ks → SayKeys ts ks
unfolding keys_from
texts_say suite n [] ks fits e = subst (λ (x : List InlineKey). SayKeys [] x) (done [] ks e) tt
texts_say suite n (t ∷ ts) ks fits e = elim (chosen (eqb n 8) _ _ (Ok ks) e) [
  | inl p ↦ absurd (no p.1)
  | inr p ↦
      let k = bind_ok (inline_at suite t) _ ks p.1 in
      let r = bind_ok (keys_from suite (n + 1) ts) _ ks k.2 in
      let both : SayKeys (t ∷ ts) (k.0 ∷ r.0) = (inline_says suite t k.0 fits.0 k.1, texts_say suite (n + 1) ts r.0 fits.1 r.1) in
      subst (λ (x : List InlineKey). SayKeys (t ∷ ts) x) (done (k.0 ∷ r.0) ks r.2) both
]
  where
    no : Err Key ≡ (let r : Result (List InlineKey) SdesFault = Ok ks in r) → ⊥
    no e = cc

-- what is read of the keys' word says each of them
pub keys_say : (suite : Suite) (t : List ℕ) (ks : List InlineKey) → IsBytes t → keys_of suite t ≡ Ok ks → (ts : List (List ℕ)) × (join_with_byte 59 ts ≡ t) × SayKeys ts ks
unfolding keys_of
keys_say suite t ks fits e =
    let ts = slice_split (λ x. eqb x 59) t in
    let joined : join_with_byte 59 (slice_split (λ x. eqb x 59) t) ≡ t = join_with_byte-slice_split 59 t in
    (slice_split (λ x. eqb x 59) t, joined, texts_say suite 0 (slice_split (λ x. eqb x 59) t) ks (parts_bytes (slice_split (λ x. eqb x 59) t) (subst IsBytes (sym joined) fits)) e)

-- ---- what says a key is read as it

read_octets : (suite : Suite) (b : List ℕ) (k : InlineKey) → IsInlineKey suite k → SaysOctets b (k.key.key ++ k.key.salt) → key_at suite b ≡ Some k.key
read_octets suite b k fits (inl e) = key_of suite b k fits (ap base64_at e ∙ base64_padded (k.key.key ++ k.key.salt) fits.octets)
read_octets suite b k fits (inr e) = key_of suite b k fits (ap base64_at e ∙ base64_bare (k.key.key ++ k.key.salt) fits.octets)

exponent : (e n : ℕ) → n ≡ 2 ^ e → n ≤ 2 ^ 48 → e ≤ 48
exponent e n is most = elim (cases_lt 48 e) [
  | inl above ↦ absurd (let big : 2 ^ 49 ≤ 2 ^ e = pow_mono {i = 49} {j = e} (omega (arith, above)) in omega (arith, big, is, most))
  | inr le ↦ le
]

packets_read : (d : List ℕ) (n : ℕ) → SaysPackets d n → 1 ≤ n → n ≤ 2 ^ 48 → lifetime_at d ≡ Some n
unfolding lifetime_at
packets_read d n (inl e) least most = ap lifetime_at e ∙ lifetime_again n least most
packets_read d n (inr p) least most = ap lifetime_at p.1 ∙ rw (number_again 48 p.0 (exponent p.0 n p.2 most) (omega arith)) (ap Some (sym p.2))

octets_lack : (c : ℕ) (b m : List ℕ) → 0 < c → list_all (λ x. not (eqb x c)) standard.encode_table ≡ true → eqb 61 c ≡ false → SaysOctets b m → Lacks c b
octets_lack c b m above table closing (inl e) = subst (Lacks c) (sym e) (base64_lacks c m above table closing)
octets_lack c b m above table closing (inr e) = subst (Lacks c) (sym e) (lacks_append c (encode_symbols standard.encode_table m) [] (symbols_lack c standard.encode_table m above table) tt)

packets_lack : (c : ℕ) (d : List ℕ) (n : ℕ) → ((x : ℕ) → x < 2 ^ 128 → Lacks c (decimal x)) → Lacks c (codes "2^") → n ≤ 2 ^ 48 → SaysPackets d n → Lacks c d
packets_lack c d n numbers power most (inl e) = subst (Lacks c) (sym e) (numbers n (omega (arith, most)))
packets_lack c d n numbers power most (inr p) =
    subst (Lacks c) (sym p.1) (lacks_append c (codes "2^") (decimal p.0) power (numbers p.0 (omega (arith, exponent p.0 n p.2 most))))

lifetime_lacks : (c : ℕ) (t : List ℕ) (n : ℕ) → ((x : ℕ) → x < 2 ^ 128 → Lacks c (decimal x)) → Lacks c (codes "2^") → eqb 124 c ≡ false → n ≤ 2 ^ 48 → SaysLifetime t n → Lacks c t
lifetime_lacks c t n numbers power bar most (inl p) = subst (Lacks c) (sym p.0) tt
lifetime_lacks c t n numbers power bar most (inr p) = subst (Lacks c) (sym p.1) (bar, packets_lack c p.0 n numbers power most p.2)

marks_lack : (c : ℕ) (mki : Option MkiValue) → ((x : ℕ) → x < 2 ^ 128 → Lacks c (decimal x)) → eqb 124 c ≡ false → eqb 58 c ≡ false → IfSome mki (λ m. IsMki m.value m.length × (m.value < 2 ^ 128)) → Lacks c (mki_text mki)
marks_lack c None numbers bar colon is = tt
marks_lack c (Some m) numbers bar colon is = some_mki_lacks c m bar (mki_lacks c m (numbers m.value is.1) colon (numbers m.length (small_length m is.0)))

key_lacks : (suite : Suite) (t : List ℕ) (k : InlineKey) (c : ℕ) → IsInlineKey suite k → SaysKey t k → 0 < c → Lacks c (codes "inline:") → list_all (λ x. not (eqb x c)) standard.encode_table ≡ true
    → eqb 61 c ≡ false → Lacks c (codes "2^") → eqb 124 c ≡ false → eqb 58 c ≡ false → ((x : ℕ) → x < 2 ^ 128 → Lacks c (decimal x)) → Lacks c t
key_lacks suite t k c fits says above head table closing power bar colon numbers =
    let octets = octets_lack c says.octets (k.key.key ++ k.key.salt) above table closing says.says_octets in
    let lifetime = lifetime_lacks c says.lifetime k.lifetime numbers power bar fits.most says.says_lifetime in
    let mki = marks_lack c k.mki numbers bar colon fits.mki in
    subst (Lacks c) (sym says.parts)
    (lacks_append c (codes "inline:") (says.octets ++ (says.lifetime ++ mki_text k.mki)) head
    (lacks_append c says.octets (says.lifetime ++ mki_text k.mki) octets (lacks_append c says.lifetime (mki_text k.mki) lifetime mki)))

key_lacks_semicolon : (suite : Suite) (t : List ℕ) (k : InlineKey) → IsInlineKey suite k → SaysKey t k → Lacks 59 t
key_lacks_semicolon suite t k fits says =
    key_lacks suite t k 59 fits says (omega arith) (lacks_test 59 (codes "inline:") refl) refl refl (lacks_test 59 (codes "2^") refl) refl refl (λ x small. decimal_without 59 x small (omega arith))

pub key_lacks_space : (suite : Suite) (t : List ℕ) (k : InlineKey) → IsInlineKey suite k → SaysKey t k → ((x : ℕ) → x < 2 ^ 128 → Lacks 32 (decimal x)) → Lacks 32 t
key_lacks_space suite t k fits says numbers =
    key_lacks suite t k 32 fits says (omega arith) (lacks_test 32 (codes "inline:") refl) refl refl (lacks_test 32 (codes "2^") refl) refl refl numbers

-- the parts behind `inline:`, by what the lifetime says and whether there is an MKI
body_read : (suite : Suite) (k : InlineKey) (b life : List ℕ) (mki : Option MkiValue) → IsInlineKey suite k → k.mki ≡ mki → Lacks 124 b → key_at suite b ≡ Some k.key → SaysLifetime life k.lifetime
    → at_bar suite (b ++ (life ++ mki_text mki)) (cut_at 124 (b ++ (life ++ mki_text mki))) ≡ Ok (record { key = k.key; lifetime = k.lifetime; mki = mki })
body_read suite k b life None fits is lacks key (inl p) =
    let plain : b ++ (life ++ []) ≡ b = ap (λ (l : List ℕ). b ++ (l ++ [])) p.0 ∙ append-nil b in
    rw (plain, p.1) (neither suite b k.key lacks key)
body_read suite k b life (Some m) fits is lacks key (inl p) =
    let both = rw is at fits.mki in
    let small : m.length < 2 ^ 128 = small_length m both.0 in
    let bars : Lacks 124 (mki_part m) = mki_lacks 124 m (decimal_without 124 m.value both.1 (omega arith)) refl (decimal_without 124 m.length small (omega arith)) in
    let plain : b ++ (life ++ mki_text (Some m)) ≡ b ++ 124 ∷ mki_part m = ap (λ (l : List ℕ). b ++ (l ++ mki_text (Some m))) p.0 ∙ ap (λ (l : List ℕ). b ++ l) (mki_text_is m) in
    rw (plain, p.1) (one_part suite b (mki_part m) lacks bars
    ∙ an_mki suite b (decimal m.value) (decimal m.length) k.key m key (decimal_without 58 m.value both.1 (omega arith)) (mki_again m both.0 both.1))
body_read suite k b life None fits is lacks key (inr p) =
    let d : List ℕ = p.0 in
    let bars : Lacks 124 d = packets_lack 124 d k.lifetime (λ x small. decimal_without 124 x small (omega arith)) (lacks_test 124 (codes "2^") refl) fits.most p.2 in
    let colons : Lacks 58 d = packets_lack 58 d k.lifetime (λ x small. decimal_without 58 x small (omega arith)) (lacks_test 58 (codes "2^") refl) fits.most p.2 in
    let plain : b ++ (life ++ []) ≡ b ++ 124 ∷ d = ap (λ (l : List ℕ). b ++ l) (append-nil life ∙ p.1) in
    rw plain (one_part suite b d lacks bars ∙ a_lifetime suite b d k.key k.lifetime key colons (packets_read d k.lifetime p.2 fits.least fits.most))
body_read suite k b life (Some m) fits is lacks key (inr p) =
    let both = rw is at fits.mki in
    let d : List ℕ = p.0 in
    let small : m.length < 2 ^ 128 = small_length m both.0 in
    let bars : Lacks 124 d = packets_lack 124 d k.lifetime (λ x small. decimal_without 124 x small (omega arith)) (lacks_test 124 (codes "2^") refl) fits.most p.2 in
    let colons : Lacks 58 d = packets_lack 58 d k.lifetime (λ x small. decimal_without 58 x small (omega arith)) (lacks_test 58 (codes "2^") refl) fits.most p.2 in
    let mki_bars : Lacks 124 (mki_part m) = mki_lacks 124 m (decimal_without 124 m.value both.1 (omega arith)) refl (decimal_without 124 m.length small (omega arith)) in
    let plain : b ++ (life ++ mki_text (Some m)) ≡ b ++ 124 ∷ (d ++ 124 ∷ mki_part m) =
    ap (λ (l : List ℕ). b ++ (l ++ mki_text (Some m))) p.1 ∙ ap (λ (l : List ℕ). b ++ 124 ∷ (d ++ l)) (mki_text_is m) in
    rw plain (two_parts suite b d (mki_part m) lacks bars
    ∙ both_there suite b d (decimal m.value) (decimal m.length) k.key k.lifetime m key colons (packets_read d k.lifetime p.2 fits.least fits.most) mki_bars
    (decimal_without 58 m.value both.1 (omega arith)) (mki_again m both.0 both.1))

inline_read : (suite : Suite) (t : List ℕ) (k : InlineKey) → IsInlineKey suite k → SaysKey t k → inline_at suite t ≡ Ok k
unfolding inline_at
inline_read suite t k fits says =
    let bars : Lacks 124 says.octets = octets_lack 124 says.octets (k.key.key ++ k.key.salt) (omega arith) refl refl says.says_octets in
    ap (inline_at suite) says.parts
    ∙ body_read suite k says.octets says.lifetime k.mki fits refl bars (read_octets suite says.octets k fits says.says_octets) says.says_lifetime

texts_read : (suite : Suite) (n : ℕ) (ts : List (List ℕ)) (ks : List InlineKey) → n + length ks ≤ 8 → AllByRecursion (IsInlineKey suite) ks → SayKeys ts ks → keys_from suite n ts ≡ Ok ks
unfolding keys_from
texts_read suite n [] [] few all says = refl
texts_read suite n [] (k ∷ ks) few all says = absurd says
texts_read suite n (t ∷ ts) [] few all says = absurd says
texts_read suite n (t ∷ ts) (k ∷ ks) few all says = rw (ne_eqb n 8 (λ e. omega arith), inline_read suite t k all.0 says.0, texts_read suite (n + 1) ts ks (omega arith) all.1 says.1) refl

texts_lack : (suite : Suite) (ts : List (List ℕ)) (ks : List InlineKey) → AllByRecursion (IsInlineKey suite) ks → SayKeys ts ks → AllByRecursion (Lacks 59) ts
texts_lack suite [] [] all says = tt
texts_lack suite [] (k ∷ ks) all says = absurd says
texts_lack suite (t ∷ ts) [] all says = absurd says
texts_lack suite (t ∷ ts) (k ∷ ks) all says = (key_lacks_semicolon suite t k all.0 says.0, texts_lack suite ts ks all.1 says.1)

split_joined : (t : List ℕ) (ts : List (List ℕ)) → AllByRecursion (Lacks 59) (t ∷ ts) → slice_split (λ x. eqb x 59) (join_with_byte 59 (t ∷ ts)) ≡ t ∷ ts
split_joined t [] all = slice_split_none (λ x. eqb x 59) t (lacks_all 59 t all.0)
split_joined t (u ∷ us) all =
    slice_split_at (λ x. eqb x 59) t 59 (join_with_byte 59 (u ∷ us)) (lacks_all 59 t all.0) refl
    ∙ ap (λ (l : List (List ℕ)). t ∷ l) (split_joined u us all.1)

-- keys that are said are read
pub keys_read : (suite : Suite) (ts : List (List ℕ)) (ks : List InlineKey) → 1 ≤ length ks → length ks ≤ 8 → AllByRecursion (IsInlineKey suite) ks → SayKeys ts ks
    → keys_of suite (join_with_byte 59 ts) ≡ Ok ks
unfolding keys_of
keys_read suite [] [] some few all says = absurd (omega arith)
keys_read suite [] (k ∷ ks) some few all says = absurd says
keys_read suite (t ∷ ts) ks some few all says = rw (split_joined t ts (texts_lack suite (t ∷ ts) ks all says)) (texts_read suite 0 (t ∷ ts) ks (omega arith) all says)
