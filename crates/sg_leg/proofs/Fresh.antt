-- The keys of a session that begins.
use Rattle.std.proofs.Common.{◌≡◌, ℕ, zero, suc, ◌+◌, ◌<◌, ◌≤◌, true, Bool, min, List, [], ◌∷◌, ◌++◌, length, map, slice_get, option_map, Option, Some, None, refl, sym, ap, ◌∙◌, subst, arith}
use Rattle.std.proofs.lemmas.List.Elements.{All-from_recursion}
use Rattle.std.specs.List.{All, AllByRecursion}
use Rattle.sg_base.specs.Mkis.{MkiValue}
use Rattle.sg_base.specs.Keys.{Master}
use Rattle.sg_base.specs.Suites.{is_raw}
use Rattle.sg_base.specs.declared.addresses.Kind.{Kind}
use Rattle.sg_base.specs.declared.addresses.Kind.TheVariants.{Rtp, Rtcp}
use Rattle.sg_base.specs.declared.suites.Suite.{Suite}
use Rattle.sg_base.specs.declared.suites.Suite.TheVariants.{Raw80, Cm128Tag80, Cm128Tag32, Cm192Tag80, Cm192Tag32, Cm256Tag80, Cm256Tag32}
use Rattle.sg_agreement.specs.Generations.{numbered, keys_of, stream_session}
use Rattle.sg_agreement.specs.Media.{AgreedKey, Stream, Medium}
use Rattle.sg_agreement.specs.Streams as streams
use Rattle.sg_kdf.specs.SessionKeys.{session_keys, encrypt_len_of, AreKeysOf}
use Rattle.sg_keys.specs.KeySet.{AreApart, IsKeySet}
use Rattle.sg_keys.specs.Live as live
use Rattle.sg_keys.specs.Live.{Live, is_cipher_len, mki_len}
use Rattle.sg_keys.specs.Stands as stands
use Rattle.sg_media.specs.Ciphers.{EachEncrypts}
use Rattle.sg_session.specs.Halves.{half_of}
use Rattle.sg_session.specs.Reach.{AreDistinct, HaveOneLength, AreMkis}
use Rattle.sg_session.specs.Session.{Key}
use Rattle.sg_session.specs.declared.names.Owner.{Owner}
use Rattle.sg_leg.specs.FreshKeys.{fresh_key, fresh_keys}

pub octets_same : (o : Option MkiValue) → live.octets_of o ≡ streams.octets_of o
octets_same None = refl
octets_same (Some m) = refl

-- ---- what a session's keys are

abbrev as_fresh : Kind → Key → Live
as_fresh kind k = record { number = k.number; mki = k.mki; half = half_of kind (session_keys k.master); life = k.life; count = 0 }

each_fresh : (kind : Kind) (n : ℕ) (ks : List AgreedKey) → map (as_fresh kind) (keys_of kind (numbered n ks)) ≡ fresh_keys kind n ks
each_fresh Rtp n [] = refl
each_fresh Rtp n (k ∷ ks) = ap (λ l. fresh_key Rtp n k ∷ l) (each_fresh Rtp (n + 1) ks)
each_fresh Rtcp n [] = refl
each_fresh Rtcp n (k ∷ ks) = ap (λ l. fresh_key Rtcp n k ∷ l) (each_fresh Rtcp (n + 1) ks)

pub live_fresh : (owner : Owner) (n : ℕ) (s : Stream) (window : ℕ) (x : Medium) (kind : Kind) (encrypts : Bool) (tag_len : ℕ)
    → stands.live (stream_session owner (numbered n s.keys) s window x kind encrypts tag_len) ≡ fresh_keys kind n s.keys
live_fresh owner n s window x kind encrypts tag_len = each_fresh kind n s.keys

-- ---- they are a set

pub fresh_length : (kind : Kind) (n : ℕ) (ks : List AgreedKey) → length (fresh_keys kind n ks) ≡ length ks
fresh_length kind n [] = refl
fresh_length kind n (k ∷ ks) = ap suc (fresh_length kind (n + 1) ks)

fresh_mkis : (kind : Kind) (n : ℕ) (ks : List AgreedKey) → map (λ (k : Live). k.mki) (fresh_keys kind n ks) ≡ map (λ (k : AgreedKey). k.mki) ks
fresh_mkis kind n [] = refl
fresh_mkis kind n (k ∷ ks) = ap (λ l. k.mki ∷ l) (fresh_mkis kind (n + 1) ks)

number_at : (kind : Kind) (n : ℕ) (ks : List AgreedKey) (i : ℕ) (a : Live) → slice_get (fresh_keys kind n ks) i ≡ Some a → a.number ≡ n + i
number_at kind n [] i a e = absurd cc
number_at kind n (k ∷ ks) zero a e = let same : fresh_key kind n k ≡ a = cc in ap (λ (a : Live). a.number) (sym same) ∙ omega arith
number_at kind n (k ∷ ks) (suc i) a e = let rest = number_at kind (n + 1) ks i a e in omega (arith, rest)

numbers_apart : (kind : Kind) (n : ℕ) (ks : List AgreedKey) → AreApart (λ k. k.number) (fresh_keys kind n ks)
numbers_apart kind n ks = λ i j a b p q e.
    let first = number_at kind n ks i a p in
    let second = number_at kind n ks j b q in
    omega (arith, first, second, e)

differs_at : (x : List ℕ) (xs : List (List ℕ)) (i : ℕ) → AllByRecursion (λ y. x ≡ y → ⊥) xs → slice_get xs i ≡ Some x → ⊥
differs_at x [] i d e = absurd cc
differs_at x (y ∷ ys) zero d e = let same : x ≡ y = cc in d.0 same
differs_at x (y ∷ ys) (suc i) d e = differs_at x ys i d.1 e

distinct_at : (xs : List (List ℕ)) → AreDistinct xs → (i j : ℕ) (x : List ℕ) → slice_get xs i ≡ Some x → slice_get xs j ≡ Some x → i ≡ j
distinct_at [] d i j x p q = absurd cc
distinct_at (y ∷ ys) d zero zero x p q = refl
distinct_at (y ∷ ys) d zero (suc j) x p q = let same : x ≡ y = cc in absurd (differs_at y ys j d.0 (q ∙ ap Some same))
distinct_at (y ∷ ys) d (suc i) zero x p q = let same : x ≡ y = cc in absurd (differs_at y ys i d.0 (p ∙ ap Some same))
distinct_at (y ∷ ys) d (suc i) (suc j) x p q = ap suc (distinct_at ys d.1 i j x p q)

mki_at : (ks : List Live) (i : ℕ) (k : Live) → slice_get ks i ≡ Some k → slice_get (map (λ (k : Live). k.mki) ks) i ≡ Some k.mki
mki_at [] i k e = absurd cc
mki_at (l ∷ ks) zero k e = let same : l ≡ k = cc in ap (λ (k : Live). Some k.mki) same
mki_at (l ∷ ks) (suc i) k e = mki_at ks i k e

mkis_apart : (ks : List Live) → AreDistinct (map (λ (k : Live). k.mki) ks) → AreApart (λ k. k.mki) ks
mkis_apart ks d = λ i j a b p q e.
    distinct_at (map (λ (k : Live). k.mki) ks) d i j a.mki (mki_at ks i a p) (mki_at ks j b q ∙ ap Some (sym e))

one_length : (size : ℕ) (ks : List Live) → AllByRecursion (λ y. length y ≡ size) (map (λ (k : Live). k.mki) ks) → AllByRecursion (λ (k : Live). length k.mki ≡ size) ks
one_length size [] h = tt
one_length size (k ∷ ks) h = (h.0, one_length size ks h.1)

mkis_long : (ks : List Live) → HaveOneLength (map (λ (k : Live). k.mki) ks) → AllByRecursion (λ (k : Live). length k.mki ≡ mki_len ks) ks
mkis_long [] h = tt
mkis_long (k ∷ ks) h = (refl, one_length (length k.mki) ks h)

cipher_len : (suite : Suite) → is_cipher_len (encrypt_len_of suite) ≡ true
cipher_len Raw80 = refl
cipher_len Cm128Tag80 = refl
cipher_len Cm128Tag32 = refl
cipher_len Cm192Tag80 = refl
cipher_len Cm192Tag32 = refl
cipher_len Cm256Tag80 = refl
cipher_len Cm256Tag32 = refl

-- what sg_kdf's laws say
abbrev pub HaveLengths : Kind → Type 0
HaveLengths kind = (m : Master) → AreKeysOf m.suite (half_of kind (session_keys m))

abbrev pub HaveOctets : Kind → Type 0
HaveOctets kind = (m : Master) → is_raw m.suite ≡ Rattle.std.proofs.Common.false → 0 < length (half_of kind (session_keys m)).encrypt

pub lengths_of : (kind : Kind) → HaveLengths Rtp → HaveLengths Rtcp → HaveLengths kind
lengths_of Rtp a b = a
lengths_of Rtcp a b = b

ciphers_are : (kind : Kind) → HaveLengths kind → (n : ℕ) (ks : List AgreedKey) → AllByRecursion (λ (k : Live). is_cipher_len (length k.half.encrypt) ≡ true) (fresh_keys kind n ks)
ciphers_are kind long n [] = tt
ciphers_are kind long n (k ∷ ks) = (ap is_cipher_len (long k.master).encrypt_length ∙ cipher_len k.master.suite, ciphers_are kind long (n + 1) ks)

counts_are : (kind : Kind) (n : ℕ) (ks : List AgreedKey) → AllByRecursion (λ (k : Live). k.count ≤ k.life) (fresh_keys kind n ks)
counts_are kind n [] = tt
counts_are kind n (k ∷ ks) = (omega arith, counts_are kind (n + 1) ks)

none_served : (kind : Kind) (n : ℕ) (ks : List AgreedKey) → AllByRecursion (λ (k : Live). k.count ≡ 0) (fresh_keys kind n ks)
none_served kind n [] = tt
none_served kind n (k ∷ ks) = (refl, none_served kind (n + 1) ks)

pub fresh_set : (kind : Kind) → HaveLengths kind → (n : ℕ) (ks : List AgreedKey) → 1 ≤ length ks → AreMkis (map (λ (k : AgreedKey). k.mki) ks) → IsKeySet (fresh_keys kind n ks)
fresh_set kind long n ks some mkis =
    let all : List Live = fresh_keys kind n ks in
    let same = fresh_mkis kind n ks in
    record {
      some = let at = fresh_length kind n ks in omega (arith, at, some);
      ciphers = All-from_recursion _ all (ciphers_are kind long n ks);
      counts = All-from_recursion _ all (counts_are kind n ks);
      numbers = numbers_apart kind n ks;
      mkis = mkis_apart all (subst AreDistinct (sym same) mkis.0);
      mki_lens = All-from_recursion _ all (mkis_long all (subst HaveOneLength (sym same) mkis.1));
    }

pub fresh_none_served : (kind : Kind) (n : ℕ) (ks : List AgreedKey) → All (λ (k : Live). k.count ≡ 0) (fresh_keys kind n ks)
fresh_none_served kind n ks = All-from_recursion _ (fresh_keys kind n ks) (none_served kind n ks)

-- ---- they can encrypt

pub fresh_encrypt : (kind : Kind) → HaveOctets kind → (encrypted : Bool) (n : ℕ) (ks : List AgreedKey)
    → (encrypted ≡ true → AllByRecursion (λ (k : AgreedKey). is_raw k.master.suite ≡ Rattle.std.proofs.Common.false) ks) → EachEncrypts (fresh_keys kind n ks) encrypted
fresh_encrypt kind octets encrypted n ks secret = λ i k at is. go n ks (secret is) i k at
  where
    go : (n : ℕ) (ks : List AgreedKey) → AllByRecursion (λ (k : AgreedKey). is_raw k.master.suite ≡ Rattle.std.proofs.Common.false) ks
        → (i : ℕ) (k : Live) → slice_get (fresh_keys kind n ks) i ≡ Some k → 0 < length k.half.encrypt
    go n [] p i k at = absurd cc
    go n (a ∷ ks) p zero k at = let same : fresh_key kind n a ≡ k = cc in subst (λ (k : Live). 0 < length k.half.encrypt) same (octets a.master p.0)
    go n (a ∷ ks) p (suc i) k at = go (n + 1) ks p.1 i k at
