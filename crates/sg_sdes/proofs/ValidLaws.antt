-- What is read of a text is a line with a spelling.
use Rattle.std.proofs.Common.{◌≡◌, ◌≢◌, ℕ, ◌+◌, ◌-◌, ◌^◌, ◌<◌, ◌≤◌, Bool, true, false, cond, eqb, leb, ltb, List, [], ◌∷◌, ◌++◌, length, drop, Option, Some, None, Result, Ok, Err, refl, sym, ap, ◌∙◌, subst, arith, inl, inr, length-take, length-drop}
use Rattle.std.specs.Fmt.{decimal}
use Rattle.std.specs.Prelude.{◌&&◌, ◌||◌, codes, IfSome, IfOk, is_some, is_none, option_map, nat_eq}
use Rattle.std.specs.List.{AllByRecursion, filter, slice_split, starts_with}
use Rattle.std.proofs.lemmas.Bool.{and_parts, leb-true, ltb-true, eqb-true, eqb-false}
use Rattle.std.proofs.lemmas.List.{append-nil, take-append-drop}
use Rattle.std.proofs.lemmas.List.Splits.{length-slice_split}
use Rattle.std.proofs.lemmas.Nat.{pow_pos}
use Rattle.std.proofs.Math.Pow.{pow_mono}
use Rattle.base64.specs.GeneralPurpose.{IsBytes, decode_of}
use Rattle.base64.specs.Engines.{standard, standard_no_pad}
use Rattle.sg_base.specs.declared.SdesFault.{SdesFault}
use Rattle.sg_base.specs.declared.SdesFault.TheVariants.{Tag, Suite as NoSuite, Key, Lifetime, MkiValue as NoMki, Parameter}
use Rattle.sg_base.specs.declared.Suite.{Suite}
use Rattle.sg_base.specs.declared.Suite.TheVariants.{Raw80}
use Rattle.sg_base.specs.Fields.{cut_at, number_at}
use Rattle.sg_base.specs.Keys.{Master, master_of}
use Rattle.sg_base.specs.Mkis.{MkiValue, mki_of, IsMki}
use Rattle.sg_base.specs.Suites.{is_raw, key_len_of, salt_len_of}
use Rattle.sg_base.specs.SuiteNames.{suite_at}
use Rattle.sg_base.proofs.Cuts.{cut_takes}
use Rattle.sg_base.proofs.Decimals.{number_takes}
use Rattle.sg_base.proofs.FourNumbers.{bind_some}
use Rattle.sg_base.proofs.Cases.{chosen}
use Rattle.sg_sdes.specs.declared.lines.CryptoLine.{CryptoLine}
use Rattle.sg_sdes.specs.declared.lines.InlineKey.{InlineKey}
use Rattle.sg_sdes.specs.CryptoOf.{crypto_parts, crypto_of}
use Rattle.sg_sdes.specs.CryptoText.{mki_text, IsInlineKey, IsCryptoLine}
use Rattle.sg_sdes.specs.Grammar.{SaysLifetime, SaysNumber, SaysPackets, SayWindow, is_window}
use Rattle.sg_sdes.specs.Keys.{◌>>=◌, or_fault, alone, with_one, with_both, behind_bar, at_bar, inline_at, keys_from, keys_of, all_differ}
use Rattle.sg_sdes.specs.KeyTexts.{digits_at, crypto_suite_at, base64_at, key_at, lifetime_at, is_mki, mki_at}
use Rattle.sg_sdes.specs.Parameters.{unsaid, parameters_from}
use Rattle.sg_sdes.specs.Words.{words_of, word_at}
use Rattle.sg_sdes.proofs.Base64Laws.{either}
use Rattle.sg_sdes.proofs.DecodedBytes.{decoded_are_bytes}
use Rattle.sg_sdes.proofs.DigitLaws.{small}
use Rattle.sg_sdes.proofs.NumberGrammar.{number_says}
use Rattle.sg_sdes.proofs.ParameterGrammar.{begins, parameters_say, some_unless}
use Rattle.sg_sdes.proofs.TextLaws.{mki_part, mki_text_is}

-- ---- steps that may fail

pub bind_ok : {A B : Type 0} (r : Result A SdesFault) (f : A → Result B SdesFault) (y : B) → (r >>= f) ≡ Ok y → (x : A) × (r ≡ Ok x) × (f x ≡ Ok y)
bind_ok (Ok x) f y e = (x, refl, e)
bind_ok (Err d) f y e = absurd cc

pub found : {A B : Type 0} (d : SdesFault) (o : Option A) (f : A → Result B SdesFault) (y : B) → (or_fault d o >>= f) ≡ Ok y → (x : A) × (o ≡ Some x) × (f x ≡ Ok y)
found d (Some x) f y e = (x, refl, e)
found d None f y e = absurd cc

pub done : {A : Type 0} (x y : A) → (let r : Result A SdesFault = Ok x in r ≡ Ok y) → x ≡ y
done x y e = cc

pub ok_if : {A : Type 0} (b : Bool) (r : Result A SdesFault) (d : SdesFault) (y : A) → cond b r (Err d) ≡ Ok y → (b ≡ true) × (r ≡ Ok y)
ok_if true r d y e = (refl, e)
ok_if false r d y e = absurd cc

allowed : {A : Type 0} (b : Bool) (r : Result A SdesFault) (d : SdesFault) (y : A) → cond b (Err d) r ≡ Ok y → r ≡ Ok y
allowed true r d y e = absurd cc
allowed false r d y e = e

some_if : {A : Type 0} (b : Bool) (x y : A) → cond b (Some x) None ≡ Some y → (b ≡ true) × (x ≡ y)
some_if true x y e = (refl, cc)
some_if false x y e = absurd cc

-- ---- numbers and suites

digits_small : (t : List ℕ) (n : ℕ) → SaysNumber t n → n < 10 ^ 9
digits_small t n says = subst (λ m. m < 10 ^ 9) says.value (small t says.digits says.few)

raw_not : (s : Suite) → is_raw s ≡ false → s ≢ Raw80
raw_not s e is = let f : is_raw Raw80 ≡ false = ap is_raw (sym is) ∙ e in absurd cc

suite_not_raw : (t : List ℕ) (s : Suite) → crypto_suite_at t ≡ Some s → s ≢ Raw80
unfolding crypto_suite_at
suite_not_raw t s e =
    let p = bind_some (suite_at t) _ s e in
    let g = some_unless (is_raw p.0) p.0 s p.2 in
    subst (λ x. x ≢ Raw80) g.1 (raw_not p.0 g.0)

-- ---- one key

base64_bytes : (t b : List ℕ) → base64_at t ≡ Some b → IsBytes b
unfolding base64_at
base64_bytes t b e = elim (either (decode_of standard t) (decode_of standard_no_pad t) b e) [
  | inl p ↦ decoded_are_bytes standard t b refl p
  | inr p ↦ decoded_are_bytes standard_no_pad t b refl p
]

-- a key of the suite
pub record IsKey (suite : Suite) (k : Master) : Type 0 where
  pub suite_is : k.suite ≡ suite
  pub key : length k.key ≡ key_len_of suite
  pub salt : length k.salt ≡ salt_len_of suite
  pub octets : IsBytes (k.key ++ k.salt)

pub made_key : (suite : Suite) (b : List ℕ) → IsBytes b → length b ≡ key_len_of suite + salt_len_of suite → IsKey suite (master_of suite b)
made_key suite b bytes size = record {
  suite_is = refl;
  key = length-take (key_len_of suite) b ∙ omega (arith, size);
  salt = length-drop (key_len_of suite) b ∙ omega (arith, size);
  octets = subst IsBytes (sym (take-append-drop (key_len_of suite) b)) bytes;
}

key_read : (suite : Suite) (t : List ℕ) (k : Master) → key_at suite t ≡ Some k → IsKey suite k × (base64_at t ≡ Some (k.key ++ k.salt))
unfolding key_at
key_read suite t k e =
    let p = bind_some (base64_at t) _ k e in
    let g = some_if (eqb (length p.0) (key_len_of suite + salt_len_of suite)) (master_of suite p.0) k p.2 in
    subst (λ (m : Master). IsKey suite m × (base64_at t ≡ Some (m.key ++ m.salt))) g.1
    (made_key suite p.0 (base64_bytes t p.0 p.1) (eqb-true _ _ g.0), p.1 ∙ ap Some (sym (take-append-drop (key_len_of suite) p.0)))

power_fits : (n : ℕ) → n ≤ 48 → (1 ≤ 2 ^ n) × (2 ^ n ≤ 2 ^ 48)
power_fits n le = (let p = pow_pos n in omega (arith, p), pow_mono {i = n} {j = 48} le)

mapped : (o : Option ℕ) (n : ℕ) → option_map (λ x. 2 ^ x) o ≡ Some n → (x : ℕ) × (o ≡ Some x) × (2 ^ x ≡ n)
mapped None n e = absurd cc
mapped (Some x) n e = (x, refl, cc)

lifetime_says : (t : List ℕ) (n : ℕ) → lifetime_at t ≡ Some n → SaysPackets t n × (1 ≤ n) × (n ≤ 2 ^ 48)
unfolding lifetime_at
lifetime_says t n e =
    elim (chosen (starts_with nat_eq t (codes "2^")) _ _ (Some n) e) [
      | inl p ↦
          let m = mapped (number_at 48 (drop 2 t)) n p.1 in
          let d = number_takes 48 (drop 2 t) m.0 m.1 in
          let f = power_fits m.0 d.1 in
          let says : SaysPackets t n = inr (m.0, begins (codes "2^") t p.0 ∙ ap (λ (l : List ℕ). codes "2^" ++ l) d.0, sym m.2) in
          (says, subst (λ x. 1 ≤ x) m.2 f.0, subst (λ x. x ≤ 2 ^ 48) m.2 f.1)
      | inr p ↦
          let q = bind_some (number_at (2 ^ 48) t) _ n p.1 in
          let g = some_unless (eqb q.0 0) q.0 n q.2 in
          let d = number_takes (2 ^ 48) t q.0 q.1 in
          subst (λ x. SaysPackets t x × (1 ≤ x) × (x ≤ 2 ^ 48)) g.1 (inl d.0, grind (arith, eqb-false q.0 0 g.0), d.1)
    ]

two_numbers : (t v l a b : List ℕ) → t ≡ v ++ 58 ∷ l → v ≡ a → l ≡ b → t ≡ a ++ 58 ∷ b
two_numbers t v l a b e p q = rw (e, p, q) refl

mki_says : (t : List ℕ) (m : MkiValue) → mki_at t ≡ Some m → (mki_text (Some m) ≡ 124 ∷ t) × IsMki m.value m.length × (m.value < 2 ^ 128)
unfolding mki_at
mki_says t m e =
    let p = bind_some (cut_at 58 t) _ m e in
    let v = bind_some (number_at (2 ^ 128 - 1) p.0.0) _ m p.2 in
    let s = bind_some (number_at 128 p.0.1) _ m v.2 in
    let g = some_if (is_mki v.0 s.0) (mki_of v.0 s.0) m s.2 in
    let a = and_parts (leb 1 s.0 && leb s.0 128) (ltb v.0 (256 ^ s.0)) g.0 in
    let b = and_parts (leb 1 s.0) (leb s.0 128) a.0 in
    let n = number_takes (2 ^ 128 - 1) p.0.0 v.0 v.1 in
    let most = n.1 in
    let is : IsMki v.0 s.0 = record { least = leb-true _ _ b.0; most = leb-true _ _ b.1; fits = ltb-true _ _ a.1 } in
    let whole : t ≡ mki_part (mki_of v.0 s.0) =
    two_numbers t p.0.0 p.0.1 (decimal v.0) (decimal s.0) (cut_takes 58 t p.0.0 p.0.1 p.1) n.0 (number_takes 128 p.0.1 s.0 s.1).0 in
    subst (λ (x : MkiValue). (mki_text (Some x) ≡ 124 ∷ t) × IsMki x.value x.length × (x.value < 2 ^ 128)) g.1
    (mki_text_is (mki_of v.0 s.0) ∙ ap (λ (l : List ℕ). 124 ∷ l) (sym whole), is, omega (arith, most))

pub inline_made : (suite : Suite) (k : Master) (n : ℕ) (mki : Option MkiValue) → IsKey suite k → (1 ≤ n) × (n ≤ 2 ^ 48) → IfSome mki (λ m. IsMki m.value m.length × (m.value < 2 ^ 128))
    → IsInlineKey suite (record { key = k; lifetime = n; mki = mki })
inline_made suite k n mki is life m = record { suite_is = is.suite_is; key = is.key; salt = is.salt; octets = is.octets; least = life.0; most = life.1; mki = m }

pub longest : (1 ≤ 2 ^ 48) × (2 ^ 48 ≤ 2 ^ 48)
longest = (omega arith, omega arith)

-- what is read of a key's text behind `inline:`
pub record ReadSo (suite : Suite) (body : List ℕ) (k : InlineKey) : Type 0 where
  pub octets : List ℕ
  pub lifetime : List ℕ
  pub parts : body ≡ octets ++ (lifetime ++ mki_text k.mki)
  pub spelled : base64_at octets ≡ Some (k.key.key ++ k.key.salt)
  pub says_lifetime : SaysLifetime lifetime k.lifetime
  pub valid : IsInlineKey suite k

read_so : (suite : Suite) (body : List ℕ) (key : Master) (n : ℕ) (mki : Option MkiValue) (octets lifetime : List ℕ) → body ≡ octets ++ (lifetime ++ mki_text mki)
    → key_at suite octets ≡ Some key → SaysLifetime lifetime n → (1 ≤ n) × (n ≤ 2 ^ 48) → IfSome mki (λ m. IsMki m.value m.length × (m.value < 2 ^ 128))
    → ReadSo suite body (record { key = key; lifetime = n; mki = mki })
read_so suite body key n mki octets lifetime parts at says life m =
    let k = key_read suite octets key at in
    record { octets = octets; lifetime = lifetime; parts = parts; spelled = k.1; says_lifetime = says; valid = inline_made suite key n mki k.0 life m }

alone_read : (suite : Suite) (body : List ℕ) (k : InlineKey) → alone suite body ≡ Ok k → ReadSo suite body k
alone_read suite body k e =
    let p = found Key (key_at suite body) _ k e in
    subst (ReadSo suite body) (done _ k p.2) (read_so suite body p.0 (2 ^ 48) None body [] (sym (append-nil body)) p.1 (inl (refl, refl)) longest tt)

with_one_read : (suite : Suite) (b part body : List ℕ) (k : InlineKey) → body ≡ b ++ 124 ∷ part → with_one suite b part ≡ Ok k → ReadSo suite body k
with_one_read suite b part body k whole e =
    let p = found Key (key_at suite b) _ k e in
    elim (chosen (is_some (cut_at 58 part)) _ _ (Ok k) p.2) [
      | inl q ↦
          let m = found NoMki (mki_at part) _ k q.1 in
          let s = mki_says part m.0 m.1 in
          let parts : body ≡ b ++ mki_text (Some m.0) = whole ∙ ap (λ (l : List ℕ). b ++ l) (sym s.0) in
          subst (ReadSo suite body) (done _ k m.2) (read_so suite body p.0 (2 ^ 48) (Some m.0) b [] parts p.1 (inl (refl, refl)) longest (s.1, s.2))
      | inr q ↦
          let n = found Lifetime (lifetime_at part) _ k q.1 in
          let s = lifetime_says part n.0 n.1 in
          let parts : body ≡ b ++ (124 ∷ part ++ []) = whole ∙ ap (λ (l : List ℕ). b ++ l) (sym (append-nil (124 ∷ part))) in
          subst (ReadSo suite body) (done _ k n.2) (read_so suite body p.0 n.0 None b (124 ∷ part) parts p.1 (inr (part, refl, s.0)) (s.1, s.2) tt)
    ]

with_both_read : (suite : Suite) (b first second body : List ℕ) (k : InlineKey) → body ≡ b ++ 124 ∷ (first ++ 124 ∷ second) → with_both suite b first second ≡ Ok k → ReadSo suite body k
with_both_read suite b first second body k whole e =
    let a = allowed (is_some (cut_at 124 second) || is_some (cut_at 58 first) || is_none (cut_at 58 second)) _ Key k e in
    let p = found Key (key_at suite b) _ k a in
    let n = found Lifetime (lifetime_at first) _ k p.2 in
    let m = found NoMki (mki_at second) _ k n.2 in
    let s = lifetime_says first n.0 n.1 in
    let t = mki_says second m.0 m.1 in
    let parts : body ≡ b ++ (124 ∷ first ++ mki_text (Some m.0)) = whole ∙ ap (λ (l : List ℕ). b ++ 124 ∷ (first ++ l)) (sym t.0) in
    subst (ReadSo suite body) (done _ k m.2) (read_so suite body p.0 n.0 (Some m.0) b (124 ∷ first) parts p.1 (inr (first, refl, s.0)) (s.1, s.2) (t.1, t.2))

behind_read : (suite : Suite) (b rest body : List ℕ) (o : Option (List ℕ × List ℕ)) (k : InlineKey) → cut_at 124 rest ≡ o → body ≡ b ++ 124 ∷ rest → behind_bar suite b rest o ≡ Ok k → ReadSo suite body k
behind_read suite b rest body None k cut whole e = with_one_read suite b rest body k whole e
behind_read suite b rest body (Some q) k cut whole e =
    with_both_read suite b q.0 q.1 body k (whole ∙ ap (λ (l : List ℕ). b ++ 124 ∷ l) (cut_takes 124 rest q.0 q.1 cut)) e

body_read : (suite : Suite) (body : List ℕ) (o : Option (List ℕ × List ℕ)) (k : InlineKey) → cut_at 124 body ≡ o → at_bar suite body o ≡ Ok k → ReadSo suite body k
body_read suite body None k cut e = alone_read suite body k e
body_read suite body (Some p) k cut e = behind_read suite p.0 p.1 body (cut_at 124 p.1) k refl (cut_takes 124 body p.0 p.1 cut) e

pub inline_parts : (suite : Suite) (t : List ℕ) (k : InlineKey) → inline_at suite t ≡ Ok k → (t ≡ codes "inline:" ++ drop 7 t) × ReadSo suite (drop 7 t) k
unfolding inline_at
inline_parts suite t k e =
    let g = ok_if (starts_with nat_eq t (codes "inline:")) _ Key k e in
    (begins (codes "inline:") t g.0, body_read suite (drop 7 t) (cut_at 124 (drop 7 t)) k refl g.1)

-- ---- the keys

keys_are : (suite : Suite) (n : ℕ) (ts : List (List ℕ)) (ks : List InlineKey) → n ≤ 8 → keys_from suite n ts ≡ Ok ks
    → AllByRecursion (IsInlineKey suite) ks × (n + length ks ≤ 8) × (length ks ≡ length ts)
unfolding keys_from
keys_are suite n [] ks le e = subst (λ (x : List InlineKey). AllByRecursion (IsInlineKey suite) x × (n + length x ≤ 8) × (length x ≡ 0)) (done [] ks e) (tt, omega arith, refl)
keys_are suite n (t ∷ ts) ks le e = elim (chosen (eqb n 8) _ _ (Ok ks) e) [
  | inl p ↦ absurd (no p.1)
  | inr p ↦
      let k = bind_ok (inline_at suite t) _ ks p.1 in
      let r = bind_ok (keys_from suite (n + 1) ts) _ ks k.2 in
      let room : n + 1 ≤ 8 = grind (arith, eqb-false n 8 p.0) in
      let rest = keys_are suite (n + 1) ts r.0 room r.1 in
      subst (λ (x : List InlineKey). AllByRecursion (IsInlineKey suite) x × (n + length x ≤ 8) × (length x ≡ length (t ∷ ts))) (done (k.0 ∷ r.0) ks r.2)
      (((inline_parts suite t k.0 k.1).1.valid, rest.0), omega (arith, rest), omega (arith, rest))
]
  where
    no : Err Key ≡ (let r : Result (List InlineKey) SdesFault = Ok ks in r) → ⊥
    no e = cc

some_parts : (t : List ℕ) → 1 ≤ length (slice_split (λ x. eqb x 59) t)
some_parts t = let n = length-slice_split (λ x. eqb x 59) t in omega (arith, n)

-- ---- the parameters

-- the window that is said is of nine digits at most
window_small : (ts : List (List ℕ)) (w : Option ℕ) → SayWindow ts w → IfSome w (λ n. n < 10 ^ 9)
window_small ts None says = tt
window_small [] (Some n) says = absurd says
window_small (t ∷ []) (Some n) says = digits_small (drop 4 t) n says
window_small (t ∷ u ∷ us) (Some n) says = absurd says

-- ---- the line

keys_of_are : (suite : Suite) (t : List ℕ) (ks : List InlineKey) → keys_of suite t ≡ Ok ks → AllByRecursion (IsInlineKey suite) ks × (1 ≤ length ks) × (length ks ≤ 8)
unfolding keys_of
keys_of_are suite t ks e =
    let p = keys_are suite 0 (slice_split (λ x. eqb x 59) t) ks (omega arith) e in
    (p.0, omega (arith, p.2, some_parts t), omega (arith, p.1))

pub parts_valid : (tag suite keys : List ℕ) (said : List (List ℕ)) (l : CryptoLine) → crypto_parts tag suite keys said ≡ Ok l → IsCryptoLine l
unfolding crypto_parts
parts_valid tag suite keys said l e =
    let n = found Tag (digits_at tag) _ l e in
    let s = found NoSuite (crypto_suite_at suite) _ l n.2 in
    let k = bind_ok (keys_of s.0 keys) _ l s.2 in
    let g = ok_if (all_differ k.0) _ NoMki l k.2 in
    let p = found Parameter (parameters_from unsaid said) _ l g.1 in
    let is = keys_of_are s.0 keys k.0 k.1 in
    let made : CryptoLine = record { tag = n.0; suite = s.0; keys = k.0; window = p.0.window; plain_rtp = p.0.plain_rtp; plain_rtcp = p.0.plain_rtcp } in
    let valid : IsCryptoLine made = record {
      tag = digits_small tag n.0 (number_says tag n.0 n.1);
      suite = suite_not_raw suite s.0 s.1;
      some = is.1;
      few = is.2;
      keys = is.0;
      mkis = g.0;
      window = window_small (filter is_window said) p.0.window (parameters_say unsaid p.0 said p.1).window;
    } in
    subst IsCryptoLine (done made l p.2) valid

pub crypto_valid : (t : List ℕ) (l : CryptoLine) → crypto_of t ≡ Ok l → IsCryptoLine l
unfolding crypto_of
crypto_valid t l e = parts_valid (word_at (words_of t) 0) (word_at (words_of t) 1) (word_at (words_of t) 2) (drop 3 (words_of t)) l e

pub is_valid : (t : List ℕ) (r : Result CryptoLine SdesFault) → r ≡ crypto_of t → IfOk r IsCryptoLine
is_valid t (Ok l) e = crypto_valid t l (sym e)
is_valid t (Err f) e = tt
