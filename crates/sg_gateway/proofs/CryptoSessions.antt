-- What is sent in the crypto sessions of a MIKEY exchange is what its two messages say.
use Rattle.std.proofs.Common.{◌≡◌, ℕ, ◌+◌, ◌*◌, ◌<◌, ◌≤◌, not, eqb, List, [], ◌∷◌, ◌++◌, length, Some, Ok, refl, sym, ap, ◌∙◌, subst, arith, append_assoc, length-append}
use Rattle.std.specs.List.{list_any}
use Rattle.sg_agreement.specs.MessageAnswers.{keyed_as_initiator, keyed_as_responder, responded}
use Rattle.sg_agreement.specs.Attributes.{own_ssrc}
use Rattle.sg_agreement.specs.Streams.{stream_of_session, with_source}
use Rattle.sg_base.proofs.Cases.{and_then_some, map_some, some_is}
use Rattle.sg_base.specs.declared.faults.CsFault.TheVariants.{CsCount, PolicyMissing}
use Rattle.sg_csmap.proofs.Loops.{is_there}
use Rattle.sg_csmap.specs.CryptoSessions.{lacks_policy, pair_in, pairs_from, policy_at, stream_in, stream_keys, streams_of}
use Rattle.sg_csmap.specs.Policies.{protection_of}
use Rattle.sg_csmap.specs.declared.policies.Protection.{Protection}
use Rattle.sg_mikey.specs.declared.policy.Policy.{Policy}
use Rattle.sg_psk.specs.Parts.{policies_in, random_in}
use Rattle.sg_psk.specs.Sending.{answered_map, entry_of, own_map}
use Rattle.sg_sdp.specs.declared.medium.Medium as descriptions
use Rattle.sg_gateway.proofs.Common.{CsEntry, Direction, Medium, Message, Opening, Plain, Sealing, Secure, Stream, StreamKeys, Tgk, medium_agreed, stop_if_is}
use Rattle.sg_gateway.proofs.Sources.{first_source}
use Rattle.sg_gateway.specs.CryptoSessions.{IsEntryOf, IsFirstSource, IsOwnEntry, map_towards, session_of}

-- what holds of each, from one behind so many others on
abbrev pub EachFrom : {X : Type 0} → (ℕ → X → Type 0) → ℕ → List X → Type 0
EachFrom P others [] = Unit {0}
EachFrom P others (x ∷ xs) = P others x × EachFrom P (others + 1) xs

-- ---- the entries of a map

same_place : (xs ys behind after : List CsEntry) (a b : CsEntry) → xs ++ a ∷ behind ≡ ys ++ b ∷ after → length xs ≡ length ys → a ≡ b
same_place [] [] behind after a b e long = cc
same_place (x ∷ xs) (y ∷ ys) behind after a b e long =
    let rest : xs ++ a ∷ behind ≡ ys ++ b ∷ after = cc in
    same_place xs ys behind after a b rest (omega (arith, long))
same_place _ _ behind after a b e long = absurd (omega (arith, long))

-- one number is of one entry
entry_same : (entries : List CsEntry) (number : ℕ) (a b : CsEntry) → IsEntryOf entries number a → IsEntryOf entries number b → a ≡ b
entry_same entries number a b p q = same_place p.0 q.0 p.1 q.1 a b (sym p.2 ∙ q.2) (let e = p.3 in let f = q.3 in omega (arith, e, f))

within : (entries : List CsEntry) (number : ℕ) (a : CsEntry) → IsEntryOf entries number a → number ≤ length entries
within entries number a p =
    let size = ap length p.2 in
    let e = p.3 in
    omega (arith, size, e, length-append p.0 (a ∷ p.1))

-- what the responder says of the medium behind so many others: the initiator's policy, its own source, and rollover 0
abbrev pub IsAnswered : List CsEntry → List CsEntry → ℕ → ℕ → Type 0
IsAnswered entries own others ssrc = (e : CsEntry) → IsEntryOf entries (2 * others + 2) e → IsEntryOf own (2 * others + 2) (entry_of e.policy ssrc)

-- of these sources, from the medium behind so many others on
abbrev pub AreAnswered : List CsEntry → List CsEntry → ℕ → List ℕ → Type 0
AreAnswered entries own others ssrcs = EachFrom (IsAnswered entries own) others ssrcs

beyond : (entries own : List CsEntry) (others : ℕ) (ssrcs : List ℕ) → length entries < 2 * others + 2 → AreAnswered entries own others ssrcs
beyond entries own others [] few = tt
beyond entries own others (s ∷ ss) few = (
  (λ e at. let most = within entries (2 * others + 2) e at in absurd (omega (arith, most, few))),
  beyond entries own (others + 1) ss (omega (arith, few)),
)

answered_from : (entries own : List CsEntry) (others : ℕ) (b a es : List CsEntry) (ssrcs : List ℕ) → entries ≡ b ++ es → own ≡ a ++ answered_map es ssrcs
    → length b ≡ 2 * others → length a ≡ 2 * others → AreAnswered entries own others ssrcs
unfolding answered_map
answered_from entries own others b a es [] whole is long as_long = tt
answered_from entries own others b a [] (s ∷ ss) whole is long as_long =
    let size = ap length whole in
    beyond entries own others (s ∷ ss) (omega (arith, long, size, length-append b []))
answered_from entries own others b a (i ∷ []) (s ∷ ss) whole is long as_long =
    let size = ap length whole in
    beyond entries own others (s ∷ ss) (omega (arith, long, size, length-append b (i ∷ [])))
answered_from entries own others b a (i ∷ r ∷ es) (s ∷ ss) whole is long as_long =
    let says : CsEntry = entry_of r.policy s in
    let at_r : IsEntryOf entries (2 * others + 2) r = (b ++ i ∷ [], es, whole ∙ sym (append_assoc b (i ∷ []) (r ∷ es)), omega (arith, long, length-append b (i ∷ []))) in
    let at_own : IsEntryOf own (2 * others + 2) says = (a ++ i ∷ [], answered_map es ss, is ∙ sym (append_assoc a (i ∷ []) (says ∷ answered_map es ss)), omega (arith, as_long, length-append a (i ∷ []))) in (
      (λ e at. subst (λ (e : CsEntry). IsEntryOf own (2 * others + 2) (entry_of e.policy s)) (entry_same entries (2 * others + 2) r e at_r at) at_own),
      answered_from entries own (others + 1) (b ++ i ∷ r ∷ []) (a ++ i ∷ says ∷ []) es ss (whole ∙ sym (append_assoc b (i ∷ r ∷ []) es)) (is ∙ sym (append_assoc a (i ∷ says ∷ []) (answered_map es ss)))
          (omega (arith, long, length-append b (i ∷ r ∷ []))) (omega (arith, as_long, length-append a (i ∷ says ∷ []))),
    )

pub all_answered : (entries own : List CsEntry) (ssrcs : List ℕ) → own ≡ answered_map entries ssrcs → AreAnswered entries own 0 ssrcs
all_answered entries own ssrcs is = answered_from entries own 0 [] [] entries ssrcs refl is refl refl

-- what the gateway says as the initiator of the medium behind so many others: its one policy, its own source, and rollover 0
abbrev pub IsOffered : List CsEntry → ℕ → ℕ → Type 0
IsOffered entries others ssrc = (e : CsEntry) → IsEntryOf entries (2 * others + 1) e → e ≡ entry_of 0 ssrc

abbrev pub AreOffered : List CsEntry → ℕ → List ℕ → Type 0
AreOffered entries others ssrcs = EachFrom (IsOffered entries) others ssrcs

offered_from : (entries : List CsEntry) (others : ℕ) (b : List CsEntry) (ssrcs : List ℕ) → entries ≡ b ++ own_map ssrcs → length b ≡ 2 * others → AreOffered entries others ssrcs
unfolding own_map
offered_from entries others b [] whole long = tt
offered_from entries others b (s ∷ ss) whole long =
    let mine : CsEntry = entry_of 0 s in
    let theirs : CsEntry = entry_of 0 0 in (
      (λ e at. entry_same entries (2 * others + 1) e mine at (b, theirs ∷ own_map ss, whole, omega (arith, long))),
      offered_from entries (others + 1) (b ++ mine ∷ theirs ∷ []) ss (whole ∙ sym (append_assoc b (mine ∷ theirs ∷ []) (own_map ss))) (omega (arith, long, length-append b (mine ∷ theirs ∷ []))),
    )

pub all_offered : (entries : List CsEntry) (ssrcs : List ℕ) → entries ≡ own_map ssrcs → AreOffered entries 0 ssrcs
all_offered entries ssrcs is = offered_from entries 0 [] ssrcs is refl

-- ---- the crypto sessions of the initiator's message

module _ (m : Message) (tgks : List Tgk) where
  -- what is sent in the crypto session of this number
  pub record IsSent (number : ℕ) (s : StreamKeys) : Type 0 where
    pub entry : CsEntry
    pub in_map : IsEntryOf m.map number entry
    pub policy : Policy
    pub named : policy_at (policies_in m.payloads) entry ≡ Some policy
    pub protection : Protection
    pub means : protection_of policy ≡ Some protection
    pub same : stream_keys m.csb (random_in m.payloads) tgks number entry protection ≡ s

  -- what both sides send in a medium, behind so many others
  abbrev pub IsPair : ℕ → StreamKeys × StreamKeys → Type 0
  IsPair others p = IsSent (2 * others + 1) p.0 × IsSent (2 * others + 2) p.1

  abbrev pub PairsFrom : ℕ → List (StreamKeys × StreamKeys) → Type 0
  PairsFrom others ps = EachFrom IsPair others ps

  stream_sent : (number : ℕ) (entry : CsEntry) (s : StreamKeys) → IsEntryOf m.map number entry → stream_in m.csb (random_in m.payloads) (policies_in m.payloads) tgks number entry ≡ Some s → IsSent number s
  unfolding stream_in
  stream_sent number entry s at e =
      let a = and_then_some (policy_at (policies_in m.payloads) entry) _ s e in
      let b = and_then_some (protection_of a.0) _ s a.2 in
      record { entry = entry; in_map = at; policy = a.0; named = a.1; protection = b.0; means = b.1; same = some_is _ s b.2 }

  pairs_sent : (others : ℕ) (before entries : List CsEntry) (ps : List (StreamKeys × StreamKeys)) → m.map ≡ before ++ entries → length before ≡ 2 * others
      → pairs_from m.csb (random_in m.payloads) (policies_in m.payloads) tgks (2 * others + 1) entries ≡ Some ps → PairsFrom others ps
  unfolding pairs_from pair_in
  pairs_sent others before [] ps whole long e = subst (PairsFrom others) (some_is [] ps e) tt
  pairs_sent others before (i ∷ []) ps whole long e = subst (PairsFrom others) (some_is [] ps e) tt
  pairs_sent others before (i ∷ r ∷ entries) ps whole long e =
      let first : ℕ = 2 * others + 1 in
      let a = and_then_some (pair_in m.csb (random_in m.payloads) (policies_in m.payloads) tgks first i r) _ ps e in
      let b = map_some (pairs_from m.csb (random_in m.payloads) (policies_in m.payloads) tgks (first + 2) entries) (λ pairs. a.0 ∷ pairs) ps a.2 in
      let c = and_then_some (stream_in m.csb (random_in m.payloads) (policies_in m.payloads) tgks first i) _ a.0 a.1 in
      let d = and_then_some (stream_in m.csb (random_in m.payloads) (policies_in m.payloads) tgks (first + 1) r) _ a.0 c.2 in
      let second : first + 1 ≡ 2 * others + 2 = omega arith in
      let one : m.map ≡ (before ++ i ∷ []) ++ r ∷ entries = whole ∙ sym (append_assoc before (i ∷ []) (r ∷ entries)) in
      let two : m.map ≡ (before ++ i ∷ r ∷ []) ++ entries = whole ∙ sym (append_assoc before (i ∷ r ∷ []) entries) in
      let of_i : IsEntryOf m.map first i = (before, r ∷ entries, whole, (let l = long in omega (arith, l))) in
      let of_r : IsEntryOf m.map (2 * others + 2) r = (before ++ i ∷ [], entries, one, (let l = long in omega (arith, l, length-append before (i ∷ [])))) in
      let more : length (before ++ i ∷ r ∷ []) ≡ 2 * (others + 1) = (let l = long in omega (arith, l, length-append before (i ∷ r ∷ []))) in
      let next : first + 2 ≡ 2 * (others + 1) + 1 = omega arith in
      let this : IsPair others (c.0, d.0) = (
        stream_sent first i c.0 of_i c.1,
        stream_sent (2 * others + 2) r d.0 of_r (ap (λ n. stream_in m.csb (random_in m.payloads) (policies_in m.payloads) tgks n r) (sym second) ∙ d.1),
      ) in
      subst (PairsFrom others) b.2 (
        subst (IsPair others) (some_is (c.0, d.0) a.0 d.2) this,
        pairs_sent (others + 1) (before ++ i ∷ r ∷ []) entries b.0 two more (ap (λ n. pairs_from m.csb (random_in m.payloads) (policies_in m.payloads) tgks n entries) (sym next) ∙ b.1),
      )

  pub streams_sent : (media : ℕ) (ps : List (StreamKeys × StreamKeys)) → streams_of m.csb (random_in m.payloads) m.map (policies_in m.payloads) tgks media ≡ Ok ps → PairsFrom 0 ps
  unfolding streams_of
  streams_sent media ps e =
      let a = stop_if_is (not (eqb (length m.map) (2 * media))) CsCount _ ps e in
      let b = stop_if_is (list_any (lacks_policy (policies_in m.payloads)) m.map) PolicyMissing _ ps a.1 in
      pairs_sent 0 [] m.map ps refl refl (is_there (pairs_from m.csb (random_in m.payloads) (policies_in m.payloads) tgks 1 m.map) ps b.1)

  -- ---- with what the peer's response says of the peer

  -- the same of a pair of which the responder's stream is from the source and the rollover on that its own map says
  pub record IsResponded (peers : List CsEntry) (others : ℕ) (p : StreamKeys × StreamKeys) : Type 0 where
    pub pair : StreamKeys × StreamKeys
    pub sent : IsPair others pair
    pub says : CsEntry
    pub in_peers : IsEntryOf peers (2 * others + 2) says
    pub same : (pair.0, with_source says.ssrc says.roc pair.1) ≡ p

  abbrev pub RespondedFrom : List CsEntry → ℕ → List (StreamKeys × StreamKeys) → Type 0
  RespondedFrom peers others ps = EachFrom (IsResponded peers) others ps

  responded_from : (peers : List CsEntry) (others : ℕ) (b es : List CsEntry) (ps : List (StreamKeys × StreamKeys)) → peers ≡ b ++ es → length b ≡ 2 * others → PairsFrom others ps
      → RespondedFrom peers others (responded ps es)
  responded_from peers others b es [] whole long are = tt
  responded_from peers others b (i ∷ r ∷ es) (p ∷ ps) whole long are = (
    record {
      pair = p;
      sent = are.0;
      says = r;
      in_peers = (b ++ i ∷ [], es, whole ∙ sym (append_assoc b (i ∷ []) (r ∷ es)), omega (arith, long, length-append b (i ∷ [])));
      same = refl;
    },
    responded_from peers (others + 1) (b ++ i ∷ r ∷ []) es ps (whole ∙ sym (append_assoc b (i ∷ r ∷ []) es)) (omega (arith, long, length-append b (i ∷ r ∷ []))) are.1,
  )
  responded_from peers others b _ (p ∷ ps) whole long are = tt

  pub all_responded : (peers : List CsEntry) (ps : List (StreamKeys × StreamKeys)) → PairsFrom 0 ps → RespondedFrom peers 0 (responded ps peers)
  all_responded peers ps are = responded_from peers 0 [] peers ps refl refl are

  -- ---- what is agreed of a medium

  -- what is sent in this direction, with what its sender says of itself
  pub record IsStreamIn (peers own : List CsEntry) (plain : descriptions.Medium) (direction : Direction) (number : ℕ) (st : Stream) : Type 0 where
    pub keys : StreamKeys
    pub sent : IsSent number keys
    pub says : CsEntry
    pub in_senders : IsEntryOf (map_towards direction peers own) number says
    pub of_gateway : IsOwnEntry direction sent.entry says plain
    pub same : stream_of_session (with_source says.ssrc says.roc keys) ≡ st

  -- both sides of a medium behind so many others
  pub record IsMediumIn (peers own : List CsEntry) (plain : descriptions.Medium) (initiator : Direction) (others : ℕ) (x : Medium) : Type 0 where
    pub opens : IsStreamIn peers own plain Opening (session_of initiator Opening others) x.from_peer
    pub seals : IsStreamIn peers own plain Sealing (session_of initiator Sealing others) x.to_peer
    pub window : 64 ≡ x.window

  own_source : (number : ℕ) (s : StreamKeys) (is : IsSent number s) → with_source is.entry.ssrc is.entry.roc s ≡ s
  own_source number s is = ap (with_source is.entry.ssrc is.entry.roc) (sym is.same) ∙ is.same

  -- the peer is the initiator
  pub as_responder : (own : List CsEntry) (others : ℕ) (lines : List (List ℕ)) (o n : descriptions.Medium) (p : StreamKeys × StreamKeys) → IsPair others p
      → IsAnswered m.map own others (own_ssrc n.lines) → IsMediumIn m.map own n Opening others (medium_agreed Secure (keyed_as_responder lines p n) o n)
  as_responder own others lines o n p is answered = record {
    opens = record {
      keys = p.0;
      sent = is.0;
      says = is.0.entry;
      in_senders = is.0.in_map;
      of_gateway = tt;
      same = ap stream_of_session (own_source (2 * others + 1) p.0 is.0);
    };
    seals = record {
      keys = p.1;
      sent = is.1;
      says = entry_of is.1.entry.policy (own_ssrc n.lines);
      in_senders = answered is.1.entry is.1.in_map;
      of_gateway = (refl, first_source n.lines, refl);
      same = refl;
    };
    window = refl;
  }

  -- the gateway is the initiator
  pub as_initiator : (peers : List CsEntry) (others : ℕ) (o n : descriptions.Medium) (p : StreamKeys × StreamKeys) → IsResponded peers others p
      → IsOffered m.map others (own_ssrc o.lines) → IsMediumIn peers m.map o Sealing others (medium_agreed Plain (keyed_as_initiator p) o n)
  as_initiator peers others o n p is offered =
      let mine = offered is.sent.0.entry is.sent.0.in_map in
      subst (λ (p : StreamKeys × StreamKeys). IsMediumIn peers m.map o Sealing others (medium_agreed Plain (keyed_as_initiator p) o n)) is.same (record {
        opens = record {
          keys = is.pair.1;
          sent = is.sent.1;
          says = is.says;
          in_senders = is.in_peers;
          of_gateway = tt;
          same = refl;
        };
        seals = record {
          keys = is.pair.0;
          sent = is.sent.0;
          says = is.sent.0.entry;
          in_senders = is.sent.0.in_map;
          of_gateway = (refl, subst (λ (e : CsEntry). IsFirstSource o.lines e.ssrc) (sym mine) (first_source o.lines), ap (λ (e : CsEntry). e.roc) mine);
          same = ap stream_of_session (own_source (2 * others + 1) is.pair.0 is.sent.0);
        };
        window = refl;
      })
