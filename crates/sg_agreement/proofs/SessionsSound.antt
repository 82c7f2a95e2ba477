-- The keys of crypto sessions are sound.
use Rattle.std.proofs.Common.{◌≡◌, ◌≤◌, ℕ, suc, ◌+◌, ◌*◌, Bool, true, false, cond, not, List, [], ◌∷◌, length, map, Some, Ok, refl, sym, ap, ◌∙◌, subst, arith, eqb}
use Rattle.std.specs.List.{AllByRecursion, list_any}
use Rattle.sg_base.specs.Suites.{is_raw}
use Rattle.sg_base.specs.declared.faults.CsFault.TheVariants.{CsCount, PolicyMissing}
use Rattle.sg_base.specs.declared.suites.Suite.{Suite}
use Rattle.sg_base.specs.declared.suites.Suite.TheVariants.{Cm128Tag80, Cm128Tag32, Cm192Tag80, Cm192Tag32, Cm256Tag80, Cm256Tag32}
use Rattle.sg_csmap.proofs.Loops.{is_there}
use Rattle.sg_csmap.specs.CryptoSessions.{lacks_policy, policy_at, keys_in, stream_keys, stream_in, pair_in, pairs_from, streams_of}
use Rattle.sg_csmap.specs.Policies.{are_served, value_of, suite_of, protection_by, protection_of}
use Rattle.sg_csmap.specs.declared.policies.Protection.{Protection}
use Rattle.sg_csmap.specs.declared.sessions.StreamKeys.{StreamKeys}
use Rattle.sg_mikey.specs.declared.message.CsEntry.{CsEntry}
use Rattle.sg_mikey.specs.declared.message.Tgk.{Tgk}
use Rattle.sg_mikey.specs.declared.policy.Policy.{Policy}
use Rattle.sg_session.proofs.Inversions.{stop_if_is}
use Rattle.sg_session.proofs.Lists.{each_weaker}
use Rattle.sg_session.specs.Reach.{AreMkis}
use Rattle.sg_base.proofs.Cases.{and_then_some, map_some, some_is, guarded}
use Rattle.sg_agreement.proofs.LinesSound.{tag_low}
use Rattle.sg_agreement.proofs.MessageKeys.{AreSoundTgks}
use Rattle.sg_agreement.specs.Sound.{IsSoundStream}
use Rattle.sg_agreement.specs.Streams.{octets_of, session_key, stream_of_session, with_source}

pub record IsSoundKeys (s : StreamKeys) : Type 0 where
  pub mkis : AreMkis (map (λ k. k.mki) (map session_key s.keys))
  pub secret : AllByRecursion (λ k. is_raw k.master.suite ≡ false) (map session_key s.keys)
  pub some : 1 ≤ length (map session_key s.keys)
  pub few : length (map session_key s.keys) ≤ 8

abbrev pub IsSoundPair : StreamKeys × StreamKeys → Type 0
IsSoundPair p = IsSoundKeys p.0 × IsSoundKeys p.1

pub session_stream : (s : StreamKeys) → IsSoundKeys s → IsSoundStream (stream_of_session s)
session_stream s is = record { mkis = is.mkis; tags = tag_low s.suite; some = is.some; few = is.few; secret = is.secret }

pub other_source : (ssrc roc : ℕ) (s : StreamKeys) → IsSoundKeys s → IsSoundKeys (with_source ssrc roc s)
other_source ssrc roc s is = record { mkis = is.mkis; secret = is.secret; some = is.some; few = is.few }

-- ---- policies

suite_secret : (key tag : ℕ) → is_raw (suite_of key tag) ≡ false
suite_secret key tag = go (eqb key 16) (eqb key 24) (eqb tag 10)
  where
    go : (a b c : Bool) → is_raw (cond a (cond c Cm128Tag80 Cm128Tag32) (cond b (cond c Cm192Tag80 Cm192Tag32) (cond c Cm256Tag80 Cm256Tag32))) ≡ false
    go true b true = refl
    go true b false = refl
    go false true true = refl
    go false true false = refl
    go false false true = refl
    go false false false = refl

abbrev IsSecret : Protection → Type 0
IsSecret p = is_raw p.suite ≡ false

protection_secret : (policy : Policy) (p : Protection) → protection_of policy ≡ Some p → IsSecret p
unfolding protection_of
protection_secret policy p e =
    let a = guarded (are_served policy.items) (protection_by policy.items) p e in
    subst IsSecret a.1 (suite_secret (value_of policy.items 1 16) (value_of policy.items 11 10))

-- ---- keys

mkis_of_tgks : (csb : ℕ) (random : List ℕ) (session : ℕ) (suite : Suite) (ks : List Tgk)
    → map octets_of (map (λ k. k.spi) ks) ≡ map (λ k. k.mki) (map session_key (keys_in csb random session suite ks))
mkis_of_tgks csb random session suite [] = refl
mkis_of_tgks csb random session suite (k ∷ ks) = ap (λ ms. octets_of k.spi ∷ ms) (mkis_of_tgks csb random session suite ks)

masters_secret : (csb : ℕ) (random : List ℕ) (session : ℕ) (suite : Suite) (ks : List Tgk) → is_raw suite ≡ false
    → AllByRecursion (λ k. is_raw k.master.suite ≡ false) (map session_key (keys_in csb random session suite ks))
masters_secret csb random session suite [] e = tt
masters_secret csb random session suite (k ∷ ks) e = (e, masters_secret csb random session suite ks e)

count : (csb : ℕ) (random : List ℕ) (session : ℕ) (suite : Suite) (ks : List Tgk) → length (map session_key (keys_in csb random session suite ks)) ≡ length ks
count csb random session suite [] = refl
count csb random session suite (k ∷ ks) = ap suc (count csb random session suite ks)

keys_sound : (csb : ℕ) (random : List ℕ) (tgks : List Tgk) (session : ℕ) (entry : CsEntry) (p : Protection) → AreSoundTgks tgks → IsSecret p → IsSoundKeys (stream_keys csb random tgks session entry p)
keys_sound csb random tgks session entry p are secret = record {
  mkis = subst AreMkis (mkis_of_tgks csb random session p.suite tgks) are.mkis;
  secret = masters_secret csb random session p.suite tgks secret;
  some = let at = count csb random session p.suite tgks in let le = are.some in omega (arith, at, le);
  few = let at = count csb random session p.suite tgks in let le = are.few in omega (arith, at, le);
}

-- ---- crypto sessions

-- one sends in a crypto session and the other in the next
abbrev pub IsPairOf : (ℕ → StreamKeys → Type 0) → StreamKeys × StreamKeys → Type 0
IsPairOf S p = (k : ℕ) × S (2 * k + 1) p.0 × S (2 * k + 2) p.1

-- what holds of the stream of each session, holds of all pairs
module _ (csb : ℕ) (random : List ℕ) (policies : List Policy) (tgks : List Tgk) (S : ℕ → StreamKeys → Type 0)
    (each : (session : ℕ) (entry : CsEntry) (s : StreamKeys) → stream_in csb random policies tgks session entry ≡ Some s → S session s) where
  pair_each : (k : ℕ) (i r : CsEntry) (p : StreamKeys × StreamKeys) → pair_in csb random policies tgks (2 * k + 1) i r ≡ Some p → IsPairOf S p
  unfolding pair_in
  pair_each k i r p e =
      let a = and_then_some (stream_in csb random policies tgks (2 * k + 1) i) _ p e in
      let b = and_then_some (stream_in csb random policies tgks (2 * k + 1 + 1) r) _ p a.2 in
      let next : 2 * k + 1 + 1 ≡ 2 * k + 2 = omega arith in
      subst (IsPairOf S) (some_is (a.0, b.0) p b.2) (k, each (2 * k + 1) i a.0 a.1, subst (λ n. S n b.0) next (each (2 * k + 1 + 1) r b.0 b.1))

  pairs_each : (k : ℕ) (map : List CsEntry) (ps : List (StreamKeys × StreamKeys)) → pairs_from csb random policies tgks (2 * k + 1) map ≡ Some ps → AllByRecursion (IsPairOf S) ps
  unfolding pairs_from
  pairs_each k [] ps e = subst (AllByRecursion (IsPairOf S)) (some_is [] ps e) tt
  pairs_each k (i ∷ []) ps e = subst (AllByRecursion (IsPairOf S)) (some_is [] ps e) tt
  pairs_each k (i ∷ r ∷ map) ps e =
      let a = and_then_some (pair_in csb random policies tgks (2 * k + 1) i r) _ ps e in
      let b = map_some (pairs_from csb random policies tgks (2 * k + 1 + 2) map) (λ pairs. a.0 ∷ pairs) ps a.2 in
      let next : 2 * k + 1 + 2 ≡ 2 * (k + 1) + 1 = omega arith in
      subst (AllByRecursion (IsPairOf S)) b.2 (pair_each k i r a.0 a.1, pairs_each (k + 1) map b.0 (ap (λ n. pairs_from csb random policies tgks n map) (sym next) ∙ b.1))

  pub streams_each : (entries : List CsEntry) (media : ℕ) (ps : List (StreamKeys × StreamKeys)) → streams_of csb random entries policies tgks media ≡ Ok ps → AllByRecursion (IsPairOf S) ps
  unfolding streams_of
  streams_each entries media ps e =
      let a = stop_if_is (not (eqb (length entries) (2 * media))) CsCount _ ps e in
      let b = stop_if_is (list_any (lacks_policy policies) entries) PolicyMissing _ ps a.1 in
      pairs_each 0 entries ps (is_there (pairs_from csb random policies tgks 1 entries) ps b.1)

module _ (csb : ℕ) (random : List ℕ) (policies : List Policy) (tgks : List Tgk) (are : AreSoundTgks tgks) where
  stream_sound : (session : ℕ) (entry : CsEntry) (s : StreamKeys) → stream_in csb random policies tgks session entry ≡ Some s → IsSoundKeys s
  unfolding stream_in
  stream_sound session entry s e =
      let a = and_then_some (policy_at policies entry) _ s e in
      let b = and_then_some (protection_of a.0) _ s a.2 in
      subst IsSoundKeys (some_is (stream_keys csb random tgks session entry b.0) s b.2) (keys_sound csb random tgks session entry b.0 are (protection_secret a.0 b.0 b.1))

  pub streams_sound : (entries : List CsEntry) (media : ℕ) (ps : List (StreamKeys × StreamKeys)) → streams_of csb random entries policies tgks media ≡ Ok ps → AllByRecursion IsSoundPair ps
  streams_sound entries media ps e =
      each_weaker (IsPairOf (λ n s. IsSoundKeys s)) IsSoundPair (λ p is. (is.1, is.2)) ps (streams_each csb random policies tgks (λ n s. IsSoundKeys s) stream_sound entries media ps e)
