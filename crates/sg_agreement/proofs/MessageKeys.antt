-- MKIs of one length with two values have two spellings; the keys inside a message are one to eight, of such SPIs.
use Rattle.std.proofs.Common.{◌≡◌, ℕ, zero, suc, ◌*◌, ◌/◌, ◌%◌, ◌^◌, ◌<◌, true, not, List, [], ◌∷◌, ◌++◌, length, map, Option, Some, None, refl, sym, ap, ◌∙◌, subst, arith, eqb, length-append, ◌≤◌, ◌+◌, ◌&&◌, take, drop, ltb, leb}
use Rattle.std.proofs.Math.Nat.{mul_assoc, mul-le-mul_right}
use Rattle.std.proofs.lemmas.Bool.{and_parts, eqb-true, eqb-false, not-true}
use Rattle.std.specs.List.{AllByRecursion, list_all}
use Rattle.std.specs.Option.{option_and_then}
use Rattle.sg_base.proofs.Cases.{and_then_some, map_some, some_is, guarded}
use Rattle.sg_base.specs.Mkis.{MkiValue, mkis_differ, mki_of}
use Rattle.sg_base.specs.Octets.{be, number_from, number_of}
use Rattle.sg_mikey.specs.Spelling.{AreOctets}
use Rattle.sg_mikey.specs.declared.message.Tgk.{Tgk}
use Rattle.sg_psk.specs.KeyData.{KeyPart, key_part, octets_at, octet_at, spi_of, spi_at, validity_at, is_next, is_key_length, key_part_at, keys_at, differs, all_differ, tgks_of}
use Rattle.sg_sdes.proofs.DecodedBytes.{take_bytes, drop_bytes}
use Rattle.sg_session.proofs.Lists.{each_map}
use Rattle.sg_session.specs.Reach.{AreDistinct, AreMkis}
use Rattle.sg_agreement.proofs.Inversions.{some_unless, either, each_true}
use Rattle.sg_agreement.proofs.MessageOctets.{rest_octets}
use Rattle.sg_agreement.specs.Streams.{octets_of}

length-be : (n l : ℕ) → length (be n l) ≡ l
length-be n zero = refl
length-be n (suc l) = length-append (be (n / 256) l) _ ∙ (let rest = length-be (n / 256) l in omega (arith, rest))

snoc_parts : (xs ys : List ℕ) (x y : ℕ) → length xs ≡ length ys → xs ++ x ∷ [] ≡ ys ++ y ∷ [] → (xs ≡ ys) × (x ≡ y)
snoc_parts [] [] x y long e = (refl, cc)
snoc_parts [] (b ∷ ys) x y long e = absurd (omega (arith, long))
snoc_parts (a ∷ xs) [] x y long e = absurd (omega (arith, long))
snoc_parts (a ∷ xs) (b ∷ ys) x y long e =
    let head : a ≡ b = cc in
    let rest : xs ++ x ∷ [] ≡ ys ++ y ∷ [] = cc in
    let p = snoc_parts xs ys x y (omega (arith, long)) rest in
    ((λ i. head i ∷ p.0 i), p.1)

pub be_injective : (l a b : ℕ) → a < 256 ^ l → b < 256 ^ l → be a l ≡ be b l → a ≡ b
be_injective zero a b low low2 e = omega (arith, low, low2)
be_injective (suc l) a b low low2 e =
    let power : 256 ^ suc l ≡ 256 * 256 ^ l = omega arith in
    let p = snoc_parts (be (a / 256) l) (be (b / 256) l) (a % 256) (b % 256) (length-be (a / 256) l ∙ sym (length-be (b / 256) l)) e in
    let q = be_injective l (a / 256) (b / 256) (omega (arith, low, power)) (omega (arith, low2, power)) p.0 in
    let rest = p.1 in
    omega (arith, q, rest)

-- two MKIs have one length and two values
abbrev pub Differ : Option MkiValue → Option MkiValue → Type 0
Differ None o = ⊥
Differ (Some a) None = ⊥
Differ (Some a) (Some b) = (a.length ≡ b.length) × (a.value ≡ b.value → ⊥)

abbrev pub AllDiffer : List (Option MkiValue) → Type 0
AllDiffer [] = Unit {0}
AllDiffer (o ∷ os) = AllByRecursion (Differ o) os × AllDiffer os

-- a value fits its length
abbrev pub Fits : Option MkiValue → Type 0
Fits None = Unit {0}
Fits (Some m) = m.value < 256 ^ m.length

apart : (o p : Option MkiValue) → Fits o → Fits p → Differ o p → octets_of o ≡ octets_of p → ⊥
apart None p f g d e = d
apart (Some a) None f g d e = d
apart (Some a) (Some b) f g d e =
    let at : be a.value a.length ≡ be b.value a.length = e ∙ ap (be b.value) (sym d.0) in
    let low : b.value < 256 ^ a.length = subst (λ n. b.value < 256 ^ n) (sym d.0) g in
    d.1 (be_injective a.length a.value b.value f low at)

one_length : (o p : Option MkiValue) → Differ o p → length (octets_of p) ≡ length (octets_of o)
one_length None p d = absurd d
one_length (Some a) None d = absurd d
one_length (Some a) (Some b) d = length-be b.value b.length ∙ sym d.0 ∙ sym (length-be a.value a.length)

others : (o : Option MkiValue) → Fits o → (os : List (Option MkiValue)) → AllByRecursion Fits os → AllByRecursion (Differ o) os
    → AllByRecursion (λ y. octets_of o ≡ y → ⊥) (map octets_of os) × AllByRecursion (λ y. length y ≡ length (octets_of o)) (map octets_of os)
others o f [] fs ds = (tt, tt)
others o f (p ∷ ps) fs ds = let rest = others o f ps fs.1 ds.1 in ((apart o p f fs.0 ds.0, rest.0), (one_length o p ds.0, rest.1))

distinct : (os : List (Option MkiValue)) → AllByRecursion Fits os → AllDiffer os → AreDistinct (map octets_of os)
distinct [] fs ds = tt
distinct (o ∷ os) fs ds = ((others o fs.0 os fs.1 ds.0).0, distinct os fs.1 ds.1)

pub mkis_are : (os : List (Option MkiValue)) → AllByRecursion Fits os → AllDiffer os → AreMkis (map octets_of os)
mkis_are [] fs ds = (tt, tt)
mkis_are (o ∷ os) fs ds = (distinct (o ∷ os) fs ds, (others o fs.0 os fs.1 ds.0).1)

-- of two by a test
pub differ_by : (o p : Option MkiValue) → mkis_differ o p ≡ true → Differ o p
differ_by (Some a) (Some b) e =
    let p = and_parts (eqb a.length b.length) (not (eqb a.value b.value)) e in
    (eqb-true a.length b.length p.0, eqb-false a.value b.value (not-true (eqb a.value b.value) p.1))
differ_by None o e = absurd cc
differ_by (Some a) None e = absurd cc

-- ---- the keys inside a message are one to eight, and their SPIs differ and have one length

pub record AreSoundTgks (tgks : List Tgk) : Type 0 where
  pub mkis : AreMkis (map octets_of (map (λ k. k.spi) tgks))
  pub some : 1 ≤ length tgks
  pub few : length tgks ≤ 8

-- ---- a number of octets fits their length

number_fits : (n : ℕ) (xs : List ℕ) → AreOctets xs → number_from n xs < (n + 1) * 256 ^ length xs
number_fits n [] h = omega arith
number_fits n (x ∷ xs) h =
    let octet = h 0 in
    let rest = number_fits (256 * n + x) xs (rest_octets x xs h) in
    let more : (256 * n + x + 1) * 256 ^ length xs ≤ ((n + 1) * 256) * 256 ^ length xs = mul-le-mul_right (256 ^ length xs) (omega (arith, octet)) in
    let same : ((n + 1) * 256) * 256 ^ length xs ≡ (n + 1) * (256 * 256 ^ length xs) = mul_assoc (n + 1) 256 (256 ^ length xs) in
    let power : 256 ^ suc (length xs) ≡ 256 * 256 ^ length xs = omega arith in
    let whole : (n + 1) * (256 * 256 ^ length xs) ≡ (n + 1) * 256 ^ suc (length xs) = ap (λ p. (n + 1) * p) (sym power) in
    let up : ((n + 1) * 256) * 256 ^ length xs ≡ (n + 1) * 256 ^ suc (length xs) = same ∙ whole in
    subst (λ (bound : ℕ). number_from (256 * n + x) xs < bound) up (omega (arith, rest, more))

number_low : (xs : List ℕ) → AreOctets xs → number_of xs < 256 ^ length xs
number_low xs h = let fits = number_fits 0 xs h in omega (arith, fits)

-- ---- fields

octet_rest : (octets : List ℕ) (r : ℕ × List ℕ) → AreOctets octets → octet_at octets ≡ Some r → AreOctets r.1
unfolding octet_at
octet_rest [] r h e = absurd cc
octet_rest (x ∷ xs) r h e = subst (λ (r : ℕ × List ℕ). AreOctets r.1) (some_is (x, xs) r e) (rest_octets x xs h)

abbrev AreBoth : List ℕ × List ℕ → Type 0
AreBoth r = AreOctets r.0 × AreOctets r.1

octets_both : (count : ℕ) (octets : List ℕ) (r : List ℕ × List ℕ) → AreOctets octets → octets_at count octets ≡ Some r → AreBoth r
unfolding octets_at
octets_both count octets r h e =
    let p = some_unless (ltb (length octets) count) _ r e in
    subst AreBoth (some_is (take count octets, drop count octets) r p.1) (take_bytes count octets h, drop_bytes count octets h)

abbrev HasFitSpi : Option MkiValue × List ℕ → Type 0
HasFitSpi r = Fits r.0 × AreOctets r.1

value_fits : (spi : List ℕ) (m : MkiValue) → AreOctets spi → spi_of spi ≡ Some m → Fits (Some m)
unfolding spi_of
value_fits spi m h e =
    let p = guarded (leb 1 (length spi) && leb (length spi) 128 && ltb (number_of spi) (2 ^ 128)) (mki_of (number_of spi) (length spi)) m e in
    subst (λ (m : MkiValue). Fits (Some m)) p.1 (number_low spi h)

spi_fits : (octets : List ℕ) (r : MkiValue × List ℕ) → AreOctets octets → spi_at octets ≡ Some r → HasFitSpi (Some r.0, r.1)
unfolding spi_at
spi_fits octets r h e =
    let a = and_then_some (octet_at octets) _ r e in
    let b = and_then_some (octets_at a.0.0 a.0.1) _ r a.2 in
    let c = and_then_some (spi_of b.0.0) _ r b.2 in
    let both = octets_both a.0.0 a.0.1 b.0 (octet_rest octets a.0 h a.1) b.1 in
    subst (λ (r : MkiValue × List ℕ). HasFitSpi (Some r.0, r.1)) (some_is (c.0, b.0.1) r c.2) (value_fits b.0.0 c.0 both.0 c.1, both.1)

validity_fits : (form : ℕ) (octets : List ℕ) (r : Option MkiValue × List ℕ) → AreOctets octets → validity_at form octets ≡ Some r → HasFitSpi r
unfolding validity_at
validity_fits form octets r h e =
    either HasFitSpi (eqb form 0) (Some (None, octets)) _ r e
    (λ f. subst HasFitSpi (some_is (None, octets) r f) (tt, h))
    (λ f. either HasFitSpi (eqb form 1) (option_and_then (λ spi. Some (Some spi.0, spi.1)) (spi_at octets)) None r f
    (λ g. let a = and_then_some (spi_at octets) (λ spi. Some (Some spi.0, spi.1)) r g in
    subst HasFitSpi (some_is (Some a.0.0, a.0.1) r a.2) (spi_fits octets a.0 h a.1))
    (λ none. absurd cc))

abbrev IsFitPart : KeyPart → Type 0
IsFitPart p = Fits p.tgk.spi × AreOctets p.rest

part_fits : (octets : List ℕ) (p : KeyPart) → AreOctets octets → key_part_at octets ≡ Some p → IsFitPart p
unfolding key_part_at
part_fits octets p h e =
    let a = and_then_some (octet_at octets) _ p e in
    let b = and_then_some (octet_at a.0.1) _ p a.2 in
    let c = and_then_some (octets_at 2 b.0.1) _ p b.2 in
    let d = and_then_some (octets_at (number_of c.0.0) c.0.1) _ p c.2 in
    let f = and_then_some (validity_at b.0.0 d.0.1) _ p d.2 in
    let g = guarded (is_next a.0.0 && is_key_length (number_of c.0.0)) (key_part a.0.0 d.0.0 f.0.0 f.0.1) p f.2 in
    let behind_next = octet_rest octets a.0 h a.1 in
    let behind_form = octet_rest a.0.1 b.0 behind_next b.1 in
    let behind_size = (octets_both 2 b.0.1 c.0 behind_form c.1).1 in
    let behind_key = (octets_both (number_of c.0.0) c.0.1 d.0 behind_size d.1).1 in
    subst IsFitPart g.1 (validity_fits b.0.0 d.0.1 f.0 behind_key f.1)

-- ---- all keys

abbrev HaveFitSpis : List Tgk → Type 0
HaveFitSpis keys = AllByRecursion (λ k. Fits k.spi) keys

keys_fit : (more : ℕ) (octets : List ℕ) (keys : List Tgk) → AreOctets octets → keys_at more octets ≡ Some keys → HaveFitSpis keys
unfolding keys_at
keys_fit zero octets keys h e = absurd cc
keys_fit (suc more) octets keys h e =
    let a = and_then_some (key_part_at octets) _ keys e in
    let this = part_fits octets a.0 h a.1 in
    either HaveFitSpis (eqb a.0.next 0) _ _ keys a.2
    (λ g. subst HaveFitSpis (guarded (eqb (length a.0.rest) 0) (a.0.tgk ∷ []) keys g).1 (this.0, tt))
    (λ g. let b = map_some (keys_at more a.0.rest) (λ others. a.0.tgk ∷ others) keys g in subst HaveFitSpis b.2 (this.0, keys_fit more a.0.rest b.0 this.1 b.1))

abbrev AreSome : ℕ → List Tgk → Type 0
AreSome most keys = (1 ≤ length keys) × (length keys ≤ most)

keys_some : (more : ℕ) (octets : List ℕ) (keys : List Tgk) → keys_at more octets ≡ Some keys → AreSome more keys
unfolding keys_at
keys_some zero octets keys e = absurd cc
keys_some (suc more) octets keys e =
    let a = and_then_some (key_part_at octets) _ keys e in
    either (AreSome (suc more)) (eqb a.0.next 0) _ _ keys a.2
    (λ g. subst (AreSome (suc more)) (guarded (eqb (length a.0.rest) 0) (a.0.tgk ∷ []) keys g).1 (omega arith, omega arith))
    (λ g. let b = map_some (keys_at more a.0.rest) (λ others. a.0.tgk ∷ others) keys g in
    let rest = keys_some more a.0.rest b.0 b.1 in
    subst (AreSome (suc more)) b.2 (omega arith, (let few = rest.1 in omega (arith, few))))

tgks_differ : (ks : List Tgk) → all_differ ks ≡ true → AllDiffer (map (λ k. k.spi) ks)
unfolding all_differ
tgks_differ [] e = tt
tgks_differ (k ∷ ks) e =
    let p = and_parts (list_all (differs k) ks) (all_differ ks) e in (
      each_map (λ l. differs k l ≡ true) (Differ k.spi) (λ l. l.spi) (λ l is. differ_by k.spi l.spi is) ks (each_true (differs k) ks p.0),
      tgks_differ ks p.1,
    )

pub tgks_sound : (octets : List ℕ) (keys : List Tgk) → AreOctets octets → tgks_of octets ≡ Some keys → AreSoundTgks keys
unfolding tgks_of
tgks_sound octets keys h e =
    let a = and_then_some (keys_at 8 octets) _ keys e in
    let b = guarded (all_differ a.0) a.0 keys a.2 in
    let count = keys_some 8 octets a.0 a.1 in
    subst AreSoundTgks b.1 (record {
      mkis = mkis_are (map (λ k. k.spi) a.0) (each_map (λ k. Fits k.spi) Fits (λ k. k.spi) (λ k f. f) a.0 (keys_fit 8 octets a.0 h a.1)) (tgks_differ a.0 b.0);
      some = count.0;
      few = count.1;
    })
