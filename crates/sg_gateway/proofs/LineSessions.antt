-- The sessions of media that are agreed by crypto lines are under these lines.
use Rattle.std.proofs.Common.{◌≡◌, not, ℕ, ◌+◌, Bool, List, [], ◌∷◌, length, map, Option, Some, refl, ap, ◌∙◌, subst}
use Rattle.sg_agreement.specs.TextLines.{HasLine, TellsLine, IsUnder, IsByLines, IsOfTexts, AreOfTexts}
use Rattle.sg_sdp.specs.declared.medium.Medium as descriptions
use Rattle.sg_gateway.proofs.Common.{AgreedKey, AllByRecursion, CryptoLine, Direction, Kind, Medium, Opening, Rtcp, Rtp, Sealing, Secure, Stream, each_weaker}
use Rattle.sg_gateway.proofs.Common.{keys_of, numbered, owner_at, sessions_from, stream_session, stream_sessions}
use Rattle.sg_gateway.proofs.MediaOver.{MediaFrom}
use Rattle.sg_gateway.proofs.MediaSessions.{IsOf, all_of, each_stream}
use Rattle.sg_gateway.specs.ByTexts.{is_plain, line_towards, HasWindow, IsByLinesOf, HasItsLines}
use Rattle.sg_gateway.specs.CryptoSessions.{life_of, tag_octets}

-- ---- keys

mapped_again : {X Y Z : Type 0} (g : Y → Z) (f : X → Y) (xs : List X) → map g (map f xs) ≡ map (λ x. g (f x)) xs
mapped_again g f [] = refl
mapped_again g f (x ∷ xs) = ap (λ ys. g (f x) ∷ ys) (mapped_again g f xs)

pub masters_of : (kind : Kind) (n : ℕ) (ks : List AgreedKey) → map (λ k. k.master) (keys_of kind (numbered n ks)) ≡ map (λ k. k.master) ks
masters_of Rtp n [] = refl
masters_of Rtp n (k ∷ ks) = ap (λ ms. k.master ∷ ms) (masters_of Rtp (n + 1) ks)
masters_of Rtcp n [] = refl
masters_of Rtcp n (k ∷ ks) = ap (λ ms. k.master ∷ ms) (masters_of Rtcp (n + 1) ks)

pub mkis_of : (kind : Kind) (n : ℕ) (ks : List AgreedKey) → map (λ k. k.mki) (keys_of kind (numbered n ks)) ≡ map (λ k. k.mki) ks
mkis_of Rtp n [] = refl
mkis_of Rtp n (k ∷ ks) = ap (λ ms. k.mki ∷ ms) (mkis_of Rtp (n + 1) ks)
mkis_of Rtcp n [] = refl
mkis_of Rtcp n (k ∷ ks) = ap (λ ms. k.mki ∷ ms) (mkis_of Rtcp (n + 1) ks)

lives_of : (kind : Kind) (n : ℕ) (ks : List AgreedKey) → map (λ k. k.life) (keys_of kind (numbered n ks)) ≡ map (life_of kind) (map (λ k. k.life) ks)
lives_of Rtp n [] = refl
lives_of Rtp n (k ∷ ks) = ap (λ ls. k.life ∷ ls) (lives_of Rtp (n + 1) ks)
lives_of Rtcp n [] = refl
lives_of Rtcp n (k ∷ ks) = ap (λ ls. life_of Rtcp k.life ∷ ls) (lives_of Rtcp (n + 1) ks)

-- ---- a session

-- the two kinds of session of what one side sends
abbrev IsKindOf : Direction → CryptoLine → Stream → ℕ → Type 0
IsKindOf direction peer st window = HasWindow direction peer window × (st.encrypts_rtp ≡ not peer.plain_rtp) × (st.encrypts_rtcp ≡ not peer.plain_rtcp)

module _ (peers told : descriptions.Medium) (peer own : CryptoLine) (has : HasLine peers peer) (tells : TellsLine told own) (tag : own.tag ≡ peer.tag)
    (call generation medium n : ℕ) (x : Medium) where
  stream_lined : (direction : Direction) (st : Stream) (window : ℕ) → IsUnder st (line_towards direction peer own) → IsKindOf direction peer st window
      → AllByRecursion (IsByLinesOf peers told) (stream_sessions (owner_at call generation medium direction) (numbered n st.keys) st window x)
  stream_lined direction st window under of_kind =
      each_stream (IsByLinesOf peers told) _ _ st window x (this Rtp st.encrypts_rtp st.tag_len of_kind.1 under.tags) (λ on. this Rtcp st.encrypts_rtcp 10 of_kind.2 refl)
    where
      line : CryptoLine
      line = line_towards direction peer own

      this : (kind : Kind) (encrypts : Bool) (tag_len : ℕ) → encrypts ≡ not (is_plain kind peer) → tag_len ≡ tag_octets kind line.suite
          → IsByLinesOf peers told (stream_session (owner_at call generation medium direction) (numbered n st.keys) st window x kind encrypts tag_len)
      this kind encrypts tag_len is_open tags = record {
        peer = peer;
        own = own;
        has = has;
        tells = tells;
        tag = tag;
        under = record {
          masters = masters_of kind n st.keys ∙ under.masters;
          mkis = mkis_of kind n st.keys ∙ under.mkis;
          lives = lives_of kind n st.keys ∙ (ap (map (life_of kind)) under.lives ∙ mapped_again (life_of kind) (λ k. k.lifetime) line.keys);
          roc = under.roc;
          sources = under.sources;
          tags = tags;
          window = of_kind.0;
          encrypts = is_open;
        };
      }

-- ---- the sessions of media

as_media : (ps ts : List descriptions.Medium) (xs : List (Option Medium)) → AreOfTexts ps ts xs → (others : ℕ) → MediaFrom Secure (λ others p t told x. IsOfTexts p t (Some x)) others ps ts ts xs
as_media [] [] [] are others = tt
as_media (p ∷ ps) (t ∷ ts) (x ∷ xs) are others = ((λ y same. subst (IsOfTexts p t) same are.0), as_media ps ts xs are.1 _)
as_media _ _ _ are others = absurd are

-- from the first medium on
pub all_lined : (call generation n : ℕ) (ps ts : List descriptions.Medium) (xs : List (Option Medium)) → AreOfTexts ps ts xs → AllByRecursion (HasItsLines ps ts) (sessions_from call generation 0 n xs)
all_lined call generation n ps ts xs are =
    each_weaker (IsOf Secure (λ others p t told x. IsOfTexts p t (Some x)) (λ others p t told s. IsByLinesOf p t s) ps ts ts) (HasItsLines ps ts)
    (λ s is. record { of_peer = is.offered; for_peer = is.answered; in_peers = is.in_offer; in_told = is.in_answer; by_lines = is.is }) (sessions_from call generation 0 n xs)
    (all_of Secure (λ others p t told x. IsOfTexts p t (Some x)) (λ others p t told s. IsByLinesOf p t s) over call generation n ps ts ts xs (as_media ps ts xs are 0))
  where
    over : (others : ℕ) (p t told : descriptions.Medium) (call generation k n : ℕ) (x : Medium) → IsOfTexts p t (Some x)
        → AllByRecursion (IsByLinesOf p t) (stream_sessions (owner_at call generation k Opening) (numbered n x.from_peer.keys) x.from_peer x.window x)
        × AllByRecursion (IsByLinesOf p t) (stream_sessions (owner_at call generation k Sealing) (numbered (n + length x.from_peer.keys) x.to_peer.keys) x.to_peer 1024 x)
    over others p t told call generation k n x by =
        let both : IsByLines x by.0 by.1 = by.5 in (
          stream_lined p t by.0 by.1 by.2 by.3 by.4 call generation k n x Opening x.from_peer x.window both.opens (both.window, both.opens_rtp, both.opens_rtcp),
          stream_lined p t by.0 by.1 by.2 by.3 by.4 call generation k (n + length x.from_peer.keys) x Sealing x.to_peer 1024 both.seals (refl, both.seals_rtp, both.seals_rtcp),
        )
