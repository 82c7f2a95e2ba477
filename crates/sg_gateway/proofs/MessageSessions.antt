-- The sessions of media that are agreed by messages are in the crypto sessions of these.
use Rattle.std.proofs.Common.{◌≡◌, inl, inr, ℕ, ◌^◌, ◌+◌, Bool, true, false, cond, not, eqb, eqb-true, List, [], ◌∷◌, length, map, Option, Some, None, refl, sym, ap, ◌∙◌, subst}
use Rattle.std.proofs.lemmas.Bool.{eqb-false}
use Rattle.sg_agreement.proofs.TextLines.{octets_are}
use Rattle.sg_agreement.specs.Streams.{admit_of, session_key, stream_of_session, with_source}
use Rattle.sg_agreement.specs.TextLines.{IsMessageLine, identifier}
use Rattle.sg_base.specs.declared.sources.Admit.TheVariants as admit
use Rattle.sg_base.specs.declared.suites.Suite.{Suite}
use Rattle.sg_base.specs.declared.suites.Suite.TheVariants.{Cm128Tag80}
use Rattle.sg_csmap.specs.CryptoSessions.{keys_in, policy_at, stream_keys}
use Rattle.sg_csmap.specs.Policies.{each_once, meaning, protection_of, said_by, value_of}
use Rattle.sg_csmap.specs.declared.policies.Protection.{Protection}
use Rattle.sg_mikey.specs.declared.policy.Policy.{Policy}
use Rattle.sg_psk.specs.Parts.{policies_in, random_in}
use Rattle.sg_psk.specs.Policy.{own_policy}
use Rattle.sg_sdp.specs.declared.medium.Medium as descriptions
use Rattle.sg_sdp.specs.declared.sdp.Sdp.{Sdp}
use Rattle.sg_gateway.proofs.Common.{AllByRecursion, AtHand, CsEntry, Direction, Kind, Master, Medium, Message, Opening, Plain, Rtcp, Rtp, Sealing, Secure}
use Rattle.sg_gateway.proofs.Common.{Session, Stream, StreamKeys, Tgk, each_weaker, keys_of, none_some, numbered, owner_at, sessions_from, some_is}
use Rattle.sg_gateway.proofs.Common.{stream_session, stream_sessions}
use Rattle.sg_gateway.proofs.CryptoSessions.{IsMediumIn, IsSent, IsStreamIn}
use Rattle.sg_gateway.proofs.LineSessions.{masters_of, mkis_of}
use Rattle.sg_gateway.proofs.MediaOver.{MediaFrom}
use Rattle.sg_gateway.proofs.MediaSessions.{IsOf, all_of, each_stream, stream_weaker}
use Rattle.sg_gateway.proofs.PeersMessages.{IsOfOwn, IsOfPart}
use Rattle.sg_gateway.proofs.PolicySays.{IsByItems, by_items}
use Rattle.sg_gateway.specs.CryptoSessions.{IsInCryptoSession, IsSource, Says, encryption_item, life_of, master_under, session_of, tag_octets, window_towards}
use Rattle.sg_gateway.specs.OwnMessages.{IsInOwnSession}
use Rattle.sg_gateway.specs.PeersMessages.{IsByPeersMessage, IsInPeersSession, OwnResponse, PeersMessage}

-- ---- keys

masters_in : (m : Message) (number : ℕ) (suite : Suite) (tgks : List Tgk)
    → map (λ k. k.master) (map session_key (keys_in m.csb (random_in m.payloads) number suite tgks)) ≡ map (master_under m number suite) tgks
masters_in m number suite [] = refl
masters_in m number suite (k ∷ ks) = ap (λ (ms : List Master). master_under m number suite k ∷ ms) (masters_in m number suite ks)

mkis_in : (m : Message) (number : ℕ) (suite : Suite) (tgks : List Tgk)
    → map (λ k. k.mki) (map session_key (keys_in m.csb (random_in m.payloads) number suite tgks)) ≡ map (λ k. identifier k.spi) tgks
mkis_in m number suite [] = refl
mkis_in m number suite (k ∷ ks) =
    let this = octets_are k.spi in
    let rest = mkis_in m number suite ks in
    λ i. this i ∷ rest i

lives_in : (m : Message) (number n : ℕ) (suite : Suite) (kind : Kind) (tgks : List Tgk)
    → AllByRecursion (λ k. k.life ≡ life_of kind (2 ^ 48)) (keys_of kind (numbered n (map session_key (keys_in m.csb (random_in m.payloads) number suite tgks))))
lives_in m number n suite Rtp [] = tt
lives_in m number n suite Rtcp [] = tt
lives_in m number n suite Rtp (k ∷ ks) = (refl, lives_in m number (n + 1) suite Rtp ks)
lives_in m number n suite Rtcp (k ∷ ks) = (refl, lives_in m number (n + 1) suite Rtcp ks)

source_is : (ssrc : ℕ) → IsSource ssrc (admit_of ssrc)
source_is ssrc = go (eqb ssrc 0) refl
  where
    go : (b : Bool) → eqb ssrc 0 ≡ b → IsSource ssrc (cond b admit.FirstSeen (admit.One ssrc))
    go true is = inl (eqb-true ssrc 0 is, refl)
    go false is = inr ((λ e. eqb-false ssrc 0 is e), refl)

-- ---- a session

-- a protection says that this kind isn't encrypted
abbrev is_plain : Kind → Protection → Bool
is_plain Rtp p = p.plain_rtp
is_plain Rtcp p = p.plain_rtcp

module _ (m : Message) (tgks : List Tgk) (peers own : List CsEntry) (plain : descriptions.Medium) where
  -- in this crypto session, in the suite of a protection, and encrypted unless that says not to
  abbrev IsUnder : Protection → ℕ → Session → Type 0
  IsUnder p number s = (i : IsInCryptoSession m tgks peers own number plain s) × (i.suite ≡ p.suite) × (s.encrypts ≡ not (is_plain s.name.kind p))

  -- what is sent in a crypto session, with what its sender says of itself
  module _ (direction : Direction) (number call generation medium n : ℕ) (x : Medium) (st : Stream) (is : IsStreamIn m tgks peers own plain direction number st) where
    abbrev stream : Stream
    stream = stream_of_session (with_source is.says.ssrc is.says.roc (stream_keys m.csb (random_in m.payloads) tgks number is.sent.entry is.sent.protection))

    items : IsByItems is.sent.policy.items is.sent.protection
    items = by_items is.sent.policy is.sent.protection is.sent.means

    this : (kind : Kind) (encrypts : Bool) (tag_len on : ℕ) → Says is.sent.policy.items (encryption_item kind) 1 on → encrypts ≡ not (eqb on 0) → tag_len ≡ tag_octets kind is.sent.protection.suite
        → encrypts ≡ not (is_plain kind is.sent.protection)
        → IsUnder is.sent.protection number (stream_session (owner_at call generation medium direction) (numbered n stream.keys) stream (window_towards direction) x kind encrypts tag_len)
    this kind encrypts tag_len on says encrypted tags by_protection = (
      record {
        entry = is.sent.entry;
        in_map = is.sent.in_map;
        policy = is.sent.policy;
        named = is.sent.named;
        suite = is.sent.protection.suite;
        key_len = items.key_len;
        tag_len = items.tag_len;
        masters = masters_of kind n stream.keys ∙ masters_in m number is.sent.protection.suite tgks;
        mkis = mkis_of kind n stream.keys ∙ mkis_in m number is.sent.protection.suite tgks;
        lives = lives_in m number n is.sent.protection.suite kind tgks;
        tags = tags;
        on = on;
        says_on = says;
        encrypts = encrypted;
        senders = is.says;
        in_senders = is.in_senders;
        of_gateway = is.of_gateway;
        rollover = refl;
        source = source_is is.says.ssrc;
        window = refl;
      },
      refl,
      by_protection,
    )

    sessions_of_stream : AllByRecursion (IsUnder is.sent.protection number) (stream_sessions (owner_at call generation medium direction) (numbered n stream.keys) stream (window_towards direction) x)
    sessions_of_stream = each_stream (IsUnder is.sent.protection number) _ _ stream (window_towards direction) x
        (this Rtp stream.encrypts_rtp stream.tag_len items.rtp items.says_rtp (ap not items.plain_rtp) refl refl) (λ on. this Rtcp stream.encrypts_rtcp 10 items.rtcp items.says_rtcp (ap not items.plain_rtcp) refl refl)

    sessions_of : AllByRecursion (IsUnder is.sent.protection number) (stream_sessions (owner_at call generation medium direction) (numbered n st.keys) st (window_towards direction) x)
    sessions_of =
        let same : stream ≡ st = ap (λ (s : StreamKeys). stream_of_session (with_source is.says.ssrc is.says.roc s)) is.sent.same ∙ is.same in
        subst (λ (st : Stream). AllByRecursion (IsUnder is.sent.protection number) (stream_sessions (owner_at call generation medium direction) (numbered n st.keys) st (window_towards direction) x))
        same sessions_of_stream

  -- of a medium, behind so many others
  abbrev IsIn : Direction → ℕ → Session → Type 0
  IsIn initiator others s = IsInCryptoSession m tgks peers own (session_of initiator s.name.owner.direction others) plain s

  -- the same, under a protection
  abbrev IsInUnder : Protection → Direction → ℕ → Session → Type 0
  IsInUnder p initiator others s = IsUnder p (session_of initiator s.name.owner.direction others) s

  abbrev Opens : ℕ → ℕ → ℕ → ℕ → Medium → List Session
  Opens call generation medium n x = stream_sessions (owner_at call generation medium Opening) (numbered n x.from_peer.keys) x.from_peer x.window x

  abbrev Seals : ℕ → ℕ → ℕ → ℕ → Medium → List Session
  Seals call generation medium n x = stream_sessions (owner_at call generation medium Sealing) (numbered n x.to_peer.keys) x.to_peer 1024 x

  -- the sessions of one direction have that direction
  towards : (p : Protection) (initiator direction : Direction) (others call generation medium n window : ℕ) (st : Stream) (x : Medium)
      → AllByRecursion (IsUnder p (session_of initiator direction others)) (stream_sessions (owner_at call generation medium direction) (numbered n st.keys) st window x)
      → AllByRecursion (IsInUnder p initiator others) (stream_sessions (owner_at call generation medium direction) (numbered n st.keys) st window x)
  towards p initiator direction others call generation medium n window st x is =
      stream_weaker (IsUnder p (session_of initiator direction others)) (IsInUnder p initiator others) _ _ st window x (λ kind on tag_len u. u) is

  opening_under : (initiator : Direction) (others call generation medium n : ℕ) (x : Medium) (is : IsMediumIn m tgks peers own plain initiator others x)
      → AllByRecursion (IsInUnder is.opens.sent.protection initiator others) (Opens call generation medium n x)
  opening_under initiator others call generation medium n x is =
      subst (λ window. AllByRecursion (IsInUnder is.opens.sent.protection initiator others) (stream_sessions (owner_at call generation medium Opening) (numbered n x.from_peer.keys) x.from_peer window x)) is.window
      (towards is.opens.sent.protection initiator Opening others call generation medium n 64 x.from_peer x
      (sessions_of Opening (session_of initiator Opening others) call generation medium n x x.from_peer is.opens))

  sealing_under : (initiator : Direction) (others call generation medium n : ℕ) (x : Medium) (is : IsMediumIn m tgks peers own plain initiator others x)
      → AllByRecursion (IsInUnder is.seals.sent.protection initiator others) (Seals call generation medium n x)
  sealing_under initiator others call generation medium n x is =
      towards is.seals.sent.protection initiator Sealing others call generation medium n 1024 x.to_peer x
      (sessions_of Sealing (session_of initiator Sealing others) call generation medium n x x.to_peer is.seals)

  opening_in : (initiator : Direction) (others call generation medium n : ℕ) (x : Medium) → IsMediumIn m tgks peers own plain initiator others x → AllByRecursion (IsIn initiator others) (Opens call generation medium n x)
  opening_in initiator others call generation medium n x is =
      each_weaker (IsInUnder is.opens.sent.protection initiator others) (IsIn initiator others) (λ s is. is.0) (Opens call generation medium n x) (opening_under initiator others call generation medium n x is)

  sealing_in : (initiator : Direction) (others call generation medium n : ℕ) (x : Medium) → IsMediumIn m tgks peers own plain initiator others x → AllByRecursion (IsIn initiator others) (Seals call generation medium n x)
  sealing_in initiator others call generation medium n x is =
      each_weaker (IsInUnder is.seals.sent.protection initiator others) (IsIn initiator others) (λ s is. is.0) (Seals call generation medium n x) (sealing_under initiator others call generation medium n x is)

-- ---- by the messages of an offer

module _ (h : AtHand) (offer answer told : Sdp) where
  abbrev IsBy : Session → Type 0
  IsBy s = IsByPeersMessage h.pairs offer answer told s

  -- a message of the session part
  pub by_part : (i : PeersMessage h.pairs offer.session) (r : OwnResponse i.message i.pair told.session) (call generation a : ℕ) (xs : List (Option Medium))
      → MediaFrom Secure (IsOfPart i r) 0 offer.media answer.media answer.media xs → AllByRecursion IsBy (sessions_from call generation 0 a xs)
  by_part i r call generation a xs are =
      let P : ℕ → descriptions.Medium → descriptions.Medium → descriptions.Medium → Session → Type 0 = λ others m n t s. IsInPeersSession i r others n s in
      each_weaker (IsOf Secure (IsOfPart i r) P offer.media answer.media answer.media) IsBy
      (λ s is. record { offered = is.offered; answered = is.answered; in_offer = is.in_offer; in_answer = is.in_answer; keyed = inl (i, r, is.is) })
      (sessions_from call generation 0 a xs)
      (all_of Secure (IsOfPart i r) P
      (λ others m n t call generation medium a x q. (
        opening_in i.message i.tgks i.message.map r.response.map n Opening others call generation medium a x q,
        sealing_in i.message i.tgks i.message.map r.response.map n Opening others call generation medium (a + length x.from_peer.keys) x q,
      ))
      call generation a offer.media answer.media answer.media xs are)

  -- messages of the media
  abbrev IsByItsOwn : ℕ → descriptions.Medium → descriptions.Medium → descriptions.Medium → Session → Type 0
  IsByItsOwn others m n t s = (i : PeersMessage h.pairs m.lines) × (r : OwnResponse i.message i.pair t.lines) × IsInPeersSession i r 0 n s

  pub by_own : AllByRecursion (λ line. ¬ IsMessageLine line) offer.session → (call generation a : ℕ) (xs : List (Option Medium))
      → MediaFrom Secure (IsOfOwn h) 0 offer.media answer.media told.media xs → AllByRecursion IsBy (sessions_from call generation 0 a xs)
  by_own none call generation a xs are =
      each_weaker (IsOf Secure (IsOfOwn h) IsByItsOwn offer.media answer.media told.media) IsBy
      (λ s is. record {
        offered = is.offered;
        answered = is.answered;
        in_offer = is.in_offer;
        in_answer = is.in_answer;
        keyed = inr (none, is.told, is.in_told, is.is.0, is.is.1, is.is.2);
      })
      (sessions_from call generation 0 a xs)
      (all_of Secure (IsOfOwn h) IsByItsOwn
      (λ others m n t call generation medium a x q. (
        each_weaker (IsInPeersSession q.0 q.1 0 n) (IsByItsOwn others m n t) (λ s is. (q.0, q.1, is))
            (stream_sessions (owner_at call generation medium Opening) (numbered a x.from_peer.keys) x.from_peer x.window x)
            (opening_in q.0.message q.0.tgks q.0.message.map q.1.response.map n Opening 0 call generation medium a x q.2),
        each_weaker (IsInPeersSession q.0 q.1 0 n) (IsByItsOwn others m n t) (λ s is. (q.0, q.1, is))
            (stream_sessions (owner_at call generation medium Sealing) (numbered (a + length x.from_peer.keys) x.to_peer.keys) x.to_peer 1024 x)
            (sealing_in q.0.message q.0.tgks q.0.message.map q.1.response.map n Opening 0 call generation medium (a + length x.from_peer.keys) x q.2),
      ))
      call generation a offer.media answer.media told.media xs are)

-- ---- by the gateway's message

-- what is agreed of a medium of the offer by the gateway's message and a response of this map
abbrev pub IsOfMessage : Message → List ℕ → List CsEntry → ℕ → descriptions.Medium → descriptions.Medium → descriptions.Medium → Medium → Type 0
IsOfMessage m key peers others o n t x = IsMediumIn m (record { key = key; spi = None } ∷ []) peers m.map o Sealing others x

-- what the gateway's one policy means
abbrev own_protection : Protection
own_protection = record { suite = Cm128Tag80; plain_rtp = false; plain_rtcp = false }

own_means : protection_of own_policy ≡ Some own_protection
unfolding protection_of said_by meaning each_once value_of
own_means = refl

own_policy_is : (entry : CsEntry) (p : Policy) → policy_at (own_policy ∷ []) entry ≡ Some p → own_policy ≡ p
own_policy_is entry p e = go (eqb 0 entry.policy) e
  where
    go : (b : Bool) → cond b (Some own_policy) None ≡ Some p → own_policy ≡ p
    go true e = some_is own_policy p e
    go false e = absurd (none_some p e)

module _ (m : Message) (only : policies_in m.payloads ≡ own_policy ∷ []) (key : List ℕ) (response : Message) (offer answer : Sdp) where
  abbrev one : List Tgk
  one = record { key = key; spi = None } ∷ []

  protected : (number : ℕ) (s : StreamKeys) (is : IsSent m one number s) → is.protection ≡ own_protection
  protected number s is =
      let policy = own_policy_is is.entry is.policy (ap (λ (ps : List Policy). policy_at ps is.entry) (sym only) ∙ is.named) in
      sym (some_is own_protection is.protection (sym own_means ∙ (ap protection_of policy ∙ is.means)))

  -- in its crypto session, under AES with 128 bits, and encrypted
  abbrev IsOwnIn : ℕ → descriptions.Medium → descriptions.Medium → descriptions.Medium → Session → Type 0
  IsOwnIn others o n t s =
      (i : IsInCryptoSession m one response.map m.map (session_of Sealing s.name.owner.direction others) o s) × (i.suite ≡ Cm128Tag80) × (s.encrypts ≡ true)

  own_in : (others : ℕ) (o n t : descriptions.Medium) (p : Protection) → p ≡ own_protection → (s : Session) → IsInUnder m one response.map m.map o p Sealing others s → IsOwnIn others o n t s
  own_in others o n t p own s is = (is.0, is.1 ∙ ap (λ (p : Protection). p.suite) own, is.2 ∙ encrypted s.name.kind)
    where
      encrypted : (kind : Kind) → not (is_plain kind p) ≡ true
      encrypted Rtp = ap (λ (p : Protection). not p.plain_rtp) own
      encrypted Rtcp = ap (λ (p : Protection). not p.plain_rtcp) own

  pub by_message : (call generation a : ℕ) (xs : List (Option Medium)) → MediaFrom Plain (IsOfMessage m key response.map) 0 offer.media answer.media answer.media xs
      → AllByRecursion (IsInOwnSession m key response offer) (sessions_from call generation 0 a xs)
  by_message call generation a xs are =
      each_weaker (IsOf Plain (IsOfMessage m key response.map) IsOwnIn offer.media answer.media answer.media) (IsInOwnSession m key response offer)
      (λ s is. record { offered = is.offered; in_offer = is.in_offer; keyed = is.is.0; suite = is.is.1; encrypts = is.is.2 })
      (sessions_from call generation 0 a xs)
      (all_of Plain (IsOfMessage m key response.map) IsOwnIn over call generation a offer.media answer.media answer.media xs are)
    where
      over : (others : ℕ) (o n t : descriptions.Medium) (call generation medium a : ℕ) (x : Medium) → IsOfMessage m key response.map others o n t x
          → AllByRecursion (IsOwnIn others o n t) (Opens m one response.map m.map o call generation medium a x)
          × AllByRecursion (IsOwnIn others o n t) (Seals m one response.map m.map o call generation medium (a + length x.from_peer.keys) x)
      over others o n t call generation medium a x q = (
        each_weaker (IsInUnder m one response.map m.map o q.opens.sent.protection Sealing others) (IsOwnIn others o n t)
            (own_in others o n t q.opens.sent.protection (protected _ q.opens.keys q.opens.sent)) (Opens m one response.map m.map o call generation medium a x)
            (opening_under m one response.map m.map o Sealing others call generation medium a x q),
        each_weaker (IsInUnder m one response.map m.map o q.seals.sent.protection Sealing others) (IsOwnIn others o n t)
            (own_in others o n t q.seals.sent.protection (protected _ q.seals.keys q.seals.sent)) (Seals m one response.map m.map o call generation medium (a + length x.from_peer.keys) x)
            (sealing_under m one response.map m.map o Sealing others call generation medium (a + length x.from_peer.keys) x q),
      )
