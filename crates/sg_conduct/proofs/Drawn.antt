-- The keys of the gateway's own lines are drawn.
use Rattle.std.proofs.Common.{◌≡◌, inl, inr, ℕ, ◌+◌, Bool, true, false, cond, eqb, List, [], ◌∷◌, length, map, Option, Some, None, Result, Ok, refl, sym, ap, ◌∙◌, subst}
use Rattle.std.proofs.lemmas.List.Elements.{All-from_recursion}
use Rattle.std.specs.List.{AllByRecursion, Any, find}
use Rattle.sg_agreement.proofs.Inversions.{find_all}
use Rattle.sg_agreement.proofs.KeyedSound.{sdes_is}
use Rattle.sg_agreement.proofs.OwnMessages.{tells_message}
use Rattle.sg_agreement.proofs.TextLines.{active_some, bind_is, has_none, if_same, or_line_is}
use Rattle.sg_agreement.specs.Answers.{Answered as Keyings, AgreedAnswer, accepted_answer, agreed_answer, answered_by}
use Rattle.sg_agreement.specs.Attributes.{crypto_values, first_of, mikey_value, ssrcs_of}
use Rattle.sg_agreement.proofs.MessagesSound.{psk_is}
use Rattle.sg_agreement.specs.Described.{described}
use Rattle.sg_agreement.specs.Keying.{Keying, PeerLines, OwnLines, OwnMessage, Offer}
use Rattle.sg_agreement.specs.LineAnswers.{keyed_by_answer, keyed_by_matched, keyed_by_own_lines, keyed_by_peer_line, lines_matched}
use Rattle.sg_agreement.specs.Offers.{AgreedOffer, accepted_offer, agreed_offer, chosen_in, keying_by_messages, keying_of, noise_of}
use Rattle.sg_agreement.specs.Streams.{line_key}
use Rattle.sg_agreement.specs.TextLines.{HasNoMessage}
use Rattle.sg_base.specs.declared.faults.SdesFault.TheVariants.{Tag, Suite}
use Rattle.sg_psk.specs.Sending.{Sent, sent_of, sent_under}
use Rattle.sg_sdes.specs.Answers.{answer_by, matched, offered_by, same_suite}
use Rattle.sg_sdes.specs.CryptoOf.{crypto_of}
use Rattle.sg_sdes.specs.Keys as lines
use Rattle.sg_sdes.specs.declared.lines.InlineKey.{InlineKey}
use Rattle.sg_sdp.specs.declared.medium.Medium as descriptions
use Rattle.sg_sdp.specs.declared.sdp.Sdp.{Sdp}
use Rattle.sg_gateway.proofs.Common.{AtHand, Call, CallId, CryptoLine, Direction, Event, FromSecure, Keyed, Kind, Master, Medium, MikeyFromPlain, Opening}
use Rattle.sg_gateway.proofs.Common.{Pair, Plain, Refusal, Rtcp, Rtp, SdesFromPlain, Sealing, Secure, Session, Side, Stream, Turn, Way, World, actives_after}
use Rattle.sg_gateway.proofs.Common.{after_ok, after_ok_is, any_here, any_there, any_weaker, call_of, each_active, each_append, each_kept, empty, if_active}
use Rattle.sg_gateway.proofs.Common.{if_kept, is_active, is_with, keys_of, media_agreed, numbered, of_psk, of_sdes, ok_is, other_side, owner_at}
use Rattle.sg_gateway.proofs.Common.{pair_with, same_octets_is, sessions_from, side_of, some_is, step, stream_session, stream_sessions, turn_of}
use Rattle.sg_gateway.proofs.Addressed.{IsAnswered, answered_now}
use Rattle.sg_gateway.proofs.ByTexts.{MadeBy}
use Rattle.sg_gateway.proofs.CarriedOut.{of_generation}
use Rattle.sg_gateway.proofs.LineSessions.{masters_of}
use Rattle.sg_gateway.proofs.TurnByTurn.{kept_before}
use Rattle.sg_gateway.specs.Generations.{keyed}
use Rattle.sg_gateway.specs.Signals.{Answered, answer_to}
use Rattle.sg_conduct.proofs.Opened.{OpenedBy, WereOpened, event_opened, opens_it, was_opened}
use Rattle.sg_conduct.specs.Drawn.{AnswerDraws, AreDrawn, IsDrawn, TellsDrawn, IsForAnswer, IsForOffer, Opens, OwnKeysAreDrawn, SealsUnder}

-- ---- a line that is matched

own_matched : (P : CryptoLine → Type 0) (offered : List CryptoLine) (value : List ℕ) (p : CryptoLine × CryptoLine) → AllByRecursion P offered → matched offered value ≡ Ok p → P p.0
unfolding matched
own_matched P offered value p all e =
    let a = bind_is (crypto_of value) _ p e in
    let b = bind_is (lines.or_fault Tag (find (λ l. eqb l.tag a.0.tag) offered)) _ p a.2 in
    let at = or_line_is Tag _ b.0 b.1 in
    subst (λ (p : CryptoLine × CryptoLine). P p.0) (if_same (same_suite b.0.suite a.0.suite) (b.0, a.0) p Suite b.2) (find_all P _ offered b.0 at all)

pub own_of_lines : (P : CryptoLine → Type 0) (offered : List CryptoLine) (o : Option (List ℕ)) (p : CryptoLine × CryptoLine) → AllByRecursion P offered → lines_matched offered o ≡ Ok p → P p.0
own_of_lines P offered None p all e = absurd cc
own_of_lines P offered (Some value) p all e = own_matched P offered value p all e

-- ---- what is at each number

abbrev pub AllAt : {X : Type 0} → (ℕ → X → Type 0) → ℕ → List (Option X) → Type 0
AllAt P k [] = Unit {0}
AllAt P k (None ∷ xs) = AllAt P (k + 1) xs
AllAt P k (Some x ∷ xs) = P k x × AllAt P (k + 1) xs

pub some_at : {X : Type 0} (P : ℕ → X → Type 0) (k : ℕ) (o : Option X) (xs : List (Option X)) → ((x : X) → o ≡ Some x → P k x) → AllAt P (k + 1) xs → AllAt P k (o ∷ xs)
some_at P k None xs is all = all
some_at P k (Some x) xs is all = (is x refl, all)

pub rest_at : {X : Type 0} (P : ℕ → X → Type 0) (k : ℕ) (o : Option X) (xs : List (Option X)) → AllAt P k (o ∷ xs) → AllAt P (k + 1) xs
rest_at P k None xs all = all
rest_at P k (Some x) xs all = all.1

pub this_at : {X : Type 0} (P : ℕ → X → Type 0) (k : ℕ) (o : Option X) (xs : List (Option X)) → AllAt P k (o ∷ xs) → (x : X) → o ≡ Some x → P k x
this_at P k None xs all x e = absurd cc
this_at P k (Some y) xs all x e = subst (P k) (some_is y x e) all.0

pub kept_some : {X Y : Type 0} (b : Bool) (o : Option X) (value : X → Result Y Refusal) (y : Y) → if_kept b o value ≡ Ok (Some y) → (x : X) × (o ≡ Some x) × (value x ≡ Ok y)
kept_some false o value y e = absurd cc
kept_some true None value y e = absurd cc
kept_some true (Some x) value y e =
    let a = after_ok_is (value x) (λ y. Ok (Some y)) (Some y) e in
    (x, refl, a.1 ∙ ap Ok (some_is a.0 y (ok_is (Some a.0) (Some y) a.2)))

pub each_kept_at : {X Y : Type 0} (Q : ℕ → X → Type 0) (P : ℕ → Y → Type 0) (value : ℕ → X → descriptions.Medium → Result Y Refusal) → ((k : ℕ) (x : X) (n : descriptions.Medium) (y : Y) → Q k x → value k x n ≡ Ok y → P k y)
    → (k : ℕ) (active : List Bool) (xs : List (Option X)) (ns : List descriptions.Medium) (ys : List (Option Y)) → AllAt Q k xs → each_kept value k active xs ns ≡ Ok ys → AllAt P k ys
each_kept_at Q P value each k [] xs ns ys all e = subst (AllAt P k) (ok_is [] ys e) tt
each_kept_at Q P value each k (on ∷ active) [] ns ys all e = subst (AllAt P k) (ok_is [] ys e) tt
each_kept_at Q P value each k (on ∷ active) (x ∷ xs) [] ys all e = subst (AllAt P k) (ok_is [] ys e) tt
each_kept_at Q P value each k (on ∷ active) (x ∷ xs) (n ∷ ns) ys all e =
    let a = after_ok_is (if_kept on x (λ x. value k x n)) _ ys e in
    let b = after_ok_is (each_kept value (k + 1) active xs ns) _ ys a.2 in
    subst (AllAt P k) (ok_is (a.0 ∷ b.0) ys b.2)
    (some_at P k a.0 b.0
    (λ y is. let s = kept_some on x (λ x. value k x n) y (a.1 ∙ ap Ok is) in each k s.0 n y (this_at Q k x xs all s.0 s.1) s.2)
    (each_kept_at Q P value each (k + 1) active xs ns b.0 (rest_at Q k x xs all) b.1))

pub each_active_at : {X : Type 0} (P : ℕ → X → Type 0) (side : Side) (value : ℕ → descriptions.Medium → Result X Refusal) → ((k : ℕ) (m : descriptions.Medium) (x : X) → value k m ≡ Ok x → P k x)
    → (k : ℕ) (ms : List descriptions.Medium) (xs : List (Option X)) → each_active side value k ms ≡ Ok xs → AllAt P k xs
each_active_at P side value each k [] xs e = subst (AllAt P k) (ok_is [] xs e) tt
each_active_at P side value each k (m ∷ ms) xs e =
    let a = after_ok_is (if_active (is_active side m) (value k m)) _ xs e in
    let b = after_ok_is (each_active side value (k + 1) ms) _ xs a.2 in
    subst (AllAt P k) (ok_is (a.0 ∷ b.0) xs b.2)
    (some_at P k a.0 b.0 (λ x is. each k m x (active_some (is_active side m) (value k m) x (a.1 ∙ ap Ok is))) (each_active_at P side value each (k + 1) ms b.0 b.1))

-- ---- sessions that seal

module _ (P : ℕ → List Master → Type 0) where
  abbrev pub StreamHas : ℕ → Stream → Type 0
  StreamHas k st = P k (map (λ k. k.master) st.keys)

  media_have : (side : Side) (k : ℕ) (ms ns : List descriptions.Medium) (ks : List (Option Keyed)) → AllAt (λ k (y : Keyed). StreamHas k y.to_peer) k ks
      → AllAt (λ k (x : Medium). StreamHas k x.to_peer) k (media_agreed side ms ns ks)
  media_have side k [] ns ks all = tt
  media_have side k (m ∷ ms) [] ks all = tt
  media_have side k (m ∷ ms) (n ∷ ns) [] all = tt
  media_have side k (m ∷ ms) (n ∷ ns) (None ∷ ks) all = media_have side (k + 1) ms ns ks all
  media_have Secure k (m ∷ ms) (n ∷ ns) (Some y ∷ ks) all = (all.0, media_have Secure (k + 1) ms ns ks all.1)
  media_have Plain k (m ∷ ms) (n ∷ ns) (Some y ∷ ks) all = (all.0, media_have Plain (k + 1) ms ns ks all.1)

  abbrev Has : Session → Type 0
  Has s = s.name.owner.direction ≡ Sealing → P s.name.owner.medium (map (λ k. k.master) s.keys)

  two : (dir : Direction) → dir ≡ Opening → dir ≡ Sealing → ⊥
  two dir a b = absurd cc

  opening_has : (call generation medium n : ℕ) (st : Stream) (window : ℕ) (x : Medium) → AllByRecursion Has (stream_sessions (owner_at call generation medium Opening) (numbered n st.keys) st window x)
  opening_has call generation medium n st window x = ((λ seals. absurd (two Opening refl seals)), go x.has_rtcp)
    where
      go : (b : Bool) → AllByRecursion Has (cond b (stream_session (owner_at call generation medium Opening) (numbered n st.keys) st window x Rtcp st.encrypts_rtcp 10 ∷ []) [])
      go true = ((λ seals. absurd (two Opening refl seals)), tt)
      go false = tt

  sealing_has : (call generation medium n : ℕ) (st : Stream) (window : ℕ) (x : Medium) → StreamHas medium st → AllByRecursion Has (stream_sessions (owner_at call generation medium Sealing) (numbered n st.keys) st window x)
  sealing_has call generation medium n st window x has = (of_kind Rtp, go x.has_rtcp)
    where
      of_kind : (kind : Kind) → Sealing ≡ Sealing → P medium (map (λ k. k.master) (keys_of kind (numbered n st.keys)))
      of_kind kind seals = subst (P medium) (sym (masters_of kind n st.keys)) has

      go : (b : Bool) → AllByRecursion Has (cond b (stream_session (owner_at call generation medium Sealing) (numbered n st.keys) st window x Rtcp st.encrypts_rtcp 10 ∷ []) [])
      go true = (of_kind Rtcp, tt)
      go false = tt

  sessions_have : (call generation k n : ℕ) (xs : List (Option Medium)) → AllAt (λ k (x : Medium). StreamHas k x.to_peer) k xs → AllByRecursion Has (sessions_from call generation k n xs)
  sessions_have call generation k n [] all = tt
  sessions_have call generation k n (None ∷ xs) all = sessions_have call generation (k + 1) n xs all
  sessions_have call generation k n (Some x ∷ xs) all =
      each_append Has (stream_sessions (owner_at call generation k Opening) (numbered n x.from_peer.keys) x.from_peer x.window x) _ (opening_has call generation k n x.from_peer x.window x)
      (each_append Has (stream_sessions (owner_at call generation k Sealing) (numbered (n + length x.from_peer.keys) x.to_peer.keys) x.to_peer 1024 x) _
      (sealing_has call generation k (n + length x.from_peer.keys) x.to_peer 1024 x all.0)
      (sessions_have call generation (k + 1) (n + length x.from_peer.keys + length x.to_peer.keys) xs all.1))

-- ---- by lines

pub masters_mapped : (l : CryptoLine) → map (λ k. k.master) (map line_key l.keys) ≡ map (λ k. k.key) l.keys
masters_mapped l = go l.keys
  where
    go : (ks : List InlineKey) → map (λ k. k.master) (map line_key ks) ≡ map (λ k. k.key) ks
    go [] = refl
    go (k ∷ ks) = ap (λ ms. k.key ∷ ms) (go ks)

peer_lines_draw : (noise : List ℕ) (k : ℕ) (peer : CryptoLine) (n : descriptions.Medium) (y : Keyed) → keyed_by_peer_line noise k peer n ≡ Ok y → StreamHas (IsForAnswer noise) k y.to_peer
peer_lines_draw noise k peer n y e =
    subst (λ (y : Keyed). StreamHas (IsForAnswer noise) k y.to_peer) (ok_is (keyed_by_answer peer (answer_by peer (noise_of k noise))) y e) (peer.suite, refl)

abbrev IsOffered : List ℕ → ℕ → CryptoLine → Type 0
IsOffered drawn k l = IsForOffer drawn k (map (λ k. k.key) l.keys)

own_lines_draw : (drawn : List ℕ) (k : ℕ) (offered : List CryptoLine) (n : descriptions.Medium) (y : Keyed) → AllByRecursion (IsOffered drawn k) offered → keyed_by_own_lines k offered n ≡ Ok y
    → StreamHas (IsForOffer drawn) k y.to_peer
own_lines_draw drawn k offered n y all e =
    let a = after_ok_is (of_sdes k (lines_matched offered (first_of (crypto_values n.lines)))) _ y e in
    let own = own_of_lines (IsOffered drawn k) offered (first_of (crypto_values n.lines)) a.0 all (sdes_is k (lines_matched offered (first_of (crypto_values n.lines))) a.0 a.1) in
    subst (λ (y : Keyed). StreamHas (IsForOffer drawn) k y.to_peer) (ok_is (keyed_by_matched a.0) y a.2) (subst (IsForOffer drawn k) (sym (masters_mapped a.0.0)) own)

pub any_at : {X : Type 0} (k : ℕ) (xs : List (Option X)) → AllAt (λ k (x : X). Unit {0}) k xs
any_at k [] = tt
any_at k (None ∷ xs) = any_at (k + 1) xs
any_at k (Some x ∷ xs) = (tt, any_at (k + 1) xs)

-- how the offer is keyed by lines, with this noise
abbrev pub LinesOf : Way → List ℕ → Offer → Type 0
LinesOf FromSecure drawn o = HasNoMessage o.description → (ls : List (Option CryptoLine)) × (o.keying ≡ PeerLines ls)
LinesOf SdesFromPlain drawn o = (ls : List (Option (List CryptoLine))) × (o.keying ≡ OwnLines ls) × AllAt (λ k l. AllByRecursion (IsOffered drawn k) l) 0 ls
LinesOf (MikeyFromPlain peer) drawn o = Unit {0}

lines_of_keying : (h : AtHand) (s : Sdp) (way : Way) (k : Keying) → keying_of h s way ≡ Ok k → LinesOf way h.noise (record { side = side_of way; description = s; keying = k })
lines_of_keying h s FromSecure k e = λ none.
    let lines : Result Keying Refusal = after_ok (each_active Secure chosen_in 0 s.media) (λ ls. Ok (PeerLines ls)) in
    let a = after_ok_is (each_active Secure chosen_in 0 s.media) _ k (ap (λ b. cond b (keying_by_messages h s (mikey_value s.session)) lines) (sym (has_none s none)) ∙ e) in
    (a.0, sym (ok_is (PeerLines a.0) k a.2))
lines_of_keying h s SdesFromPlain k e =
    let a = after_ok_is (each_active Plain (λ k m. Ok (offered_by (noise_of k h.noise))) 0 s.media) _ k e in (
      a.0,
      sym (ok_is (OwnLines a.0) k a.2),
      each_active_at (λ k l. AllByRecursion (IsOffered h.noise k) l) Plain (λ k m. Ok (offered_by (noise_of k h.noise)))
          (λ k m l is. subst (AllByRecursion (IsOffered h.noise k)) (ok_is (offered_by (noise_of k h.noise)) l is) (inl refl, (inr refl, tt))) 0 s.media a.0 a.1,
    )
lines_of_keying h s (MikeyFromPlain peer) k e = tt

pub offer_lines : (h : AtHand) (way : Way) (text : List ℕ) (a : AgreedOffer) → agreed_offer h way text ≡ Ok a → LinesOf way h.noise a.offer
unfolding agreed_offer
offer_lines h way text a e =
    let p = after_ok_is (described (side_of way) h.media text) _ a e in
    let q = after_ok_is (keying_of h p.0 way) _ a p.2 in
    subst (λ (a : AgreedOffer). LinesOf way h.noise a.offer) (ok_is _ a q.2) (lines_of_keying h p.0 way q.0 q.1)

-- what an answer agrees of an offer that is keyed so
peers_answer : (slot : ℕ) (o : Offer) (noise text : List ℕ) (g : AgreedAnswer) (ls : List (Option CryptoLine)) → o.keying ≡ PeerLines ls → agreed_answer slot o noise text ≡ Ok g
    → AllAt (λ k (x : Medium). StreamHas (IsForAnswer noise) k x.to_peer) 0 g.media
unfolding agreed_answer
peers_answer slot o noise text g ls keyed e =
    let p = after_ok_is (described (other_side o.side) (Some (length o.description.media)) text) _ g e in
    let active : List Bool = actives_after o.side o.description.media p.0.media in
    let q = after_ok_is (answered_by o noise p.0 active o.keying) _ g p.2 in
    let r = after_ok_is (each_kept (keyed_by_peer_line noise) 0 active ls p.0.media) _ q.0 (ap (answered_by o noise p.0 active) (sym keyed) ∙ q.1) in
    let all = each_kept_at (λ k (x : CryptoLine). Unit {0}) (λ k (y : Keyed). StreamHas (IsForAnswer noise) k y.to_peer) (keyed_by_peer_line noise) (λ k x n y u v. peer_lines_draw noise k x n y v) 0 active ls p.0.media r.0 (any_at 0 ls) r.1 in
    let media : AllAt (λ k (y : Keyed). StreamHas (IsForAnswer noise) k y.to_peer) 0 q.0.media = subst (λ (a : Keyings). AllAt (λ k (y : Keyed). StreamHas (IsForAnswer noise) k y.to_peer) 0 a.media) (ok_is _ q.0 r.2) all in
    subst (λ (g : AgreedAnswer). AllAt (λ k (x : Medium). StreamHas (IsForAnswer noise) k x.to_peer) 0 g.media) (ok_is (accepted_answer slot o p.0 active q.0) g q.2)
    (media_have (IsForAnswer noise) o.side 0 o.description.media p.0.media q.0.media media)

own_answer : (slot : ℕ) (o : Offer) (drawn noise text : List ℕ) (g : AgreedAnswer) (ls : List (Option (List CryptoLine))) → o.keying ≡ OwnLines ls → AllAt (λ k l. AllByRecursion (IsOffered drawn k) l) 0 ls
    → agreed_answer slot o noise text ≡ Ok g → AllAt (λ k (x : Medium). StreamHas (IsForOffer drawn) k x.to_peer) 0 g.media
unfolding agreed_answer
own_answer slot o drawn noise text g ls keyed offered e =
    let p = after_ok_is (described (other_side o.side) (Some (length o.description.media)) text) _ g e in
    let active : List Bool = actives_after o.side o.description.media p.0.media in
    let q = after_ok_is (answered_by o noise p.0 active o.keying) _ g p.2 in
    let r = after_ok_is (each_kept keyed_by_own_lines 0 active ls p.0.media) _ q.0 (ap (answered_by o noise p.0 active) (sym keyed) ∙ q.1) in
    let all = each_kept_at (λ k l. AllByRecursion (IsOffered drawn k) l) (λ k (y : Keyed). StreamHas (IsForOffer drawn) k y.to_peer) keyed_by_own_lines (λ k x n y u v. own_lines_draw drawn k x n y u v) 0 active ls p.0.media r.0 offered r.1 in
    let media : AllAt (λ k (y : Keyed). StreamHas (IsForOffer drawn) k y.to_peer) 0 q.0.media = subst (λ (a : Keyings). AllAt (λ k (y : Keyed). StreamHas (IsForOffer drawn) k y.to_peer) 0 a.media) (ok_is _ q.0 r.2) all in
    subst (λ (g : AgreedAnswer). AllAt (λ k (x : Medium). StreamHas (IsForOffer drawn) k x.to_peer) 0 g.media) (ok_is (accepted_answer slot o p.0 active q.0) g q.2)
    (media_have (IsForOffer drawn) o.side 0 o.description.media p.0.media q.0.media media)

-- ---- an answer

seals_under : (P : ℕ → List Master → Type 0) (c d : Call) (o : Offer) (noise text : List ℕ) (a : IsAnswered c d o noise text) → AllAt (λ k (x : Medium). StreamHas P k x.to_peer) 0 a.agreement.media → SealsUnder P d
seals_under P c d o noise text a all =
    let new : List Session = sessions_from c.serial c.generations 0 a.number a.agreement.media in
    All-from_recursion (λ s. s.name.owner.generation + 1 ≡ d.generations → Has P s) d.sessions
    (of_generation c d new (Has P) a.sessions a.generations (sessions_have P c.serial c.generations 0 a.number a.agreement.media all))

-- the message of an offer
find_held : (peer : List ℕ) (pairs : List Pair) (pair : Pair) → find (is_with peer) pairs ≡ Some pair → Any (λ p. p ≡ pair) pairs × (is_with peer pair ≡ true)
find_held peer [] pair e = absurd cc
find_held peer (p ∷ ps) pair e = go (find_held peer ps pair) (is_with peer p) refl e
  where
    go : (find (is_with peer) ps ≡ Some pair → Any (λ p. p ≡ pair) ps × (is_with peer pair ≡ true)) → (b : Bool) → is_with peer p ≡ b → cond b (Some p) (find (is_with peer) ps) ≡ Some pair
        → Any (λ p. p ≡ pair) (p ∷ ps) × (is_with peer pair ≡ true)
    go rest true is e = let same : p ≡ pair = some_is p pair e in (any_here (λ p. p ≡ pair) p ps same, ap (is_with peer) (sym same) ∙ is)
    go rest false is e = let r = rest e in (any_there (λ p. p ≡ pair) p ps r.0, r.1)

pub sent_drawn : (pairs : List Pair) (peer : List ℕ) (now : ℕ) (drawn ssrcs : List ℕ) (o : Option Pair) (sent : Sent) → pair_with pairs peer ≡ o → sent_under now drawn ssrcs o ≡ Ok sent → IsDrawn pairs peer drawn sent
sent_drawn pairs peer now drawn ssrcs None sent at e = absurd cc
sent_drawn pairs peer now drawn ssrcs (Some pair) sent at e =
    let f = find_held peer pairs pair at in
    subst (IsDrawn pairs peer drawn) (ok_is (sent_of pair now drawn ssrcs) sent e)
    (record { random = refl; csb = refl; keys = refl; held = f.0; of_peer = same_octets_is pair.peer peer f.1 })

offer_message : (h : AtHand) (peer text : List ℕ) (a : AgreedOffer) → agreed_offer h (MikeyFromPlain peer) text ≡ Ok a → TellsDrawn h.pairs peer h.noise a.text
unfolding agreed_offer
offer_message h peer text a e =
    let p = after_ok_is (described Plain h.media text) _ a e in
    let q = after_ok_is (keying_of h p.0 (MikeyFromPlain peer)) _ a p.2 in
    let r = after_ok_is (of_psk 255 (sent_under h.now h.noise (ssrcs_of Plain p.0.media) (pair_with h.pairs peer))) _ q.0 q.1 in
    let accepts : Keying → AgreedOffer = λ k. accepted_offer h.slot (record { side = Plain; description = p.0; keying = k }) in
    let same : accepts (OwnMessage r.0) ≡ a = ap accepts (ok_is (OwnMessage r.0) q.0 r.2) ∙ ok_is _ a q.2 in
    subst (λ (a : AgreedOffer). TellsDrawn h.pairs peer h.noise a.text) same (
      r.0,
      sent_drawn h.pairs peer h.now h.noise (ssrcs_of Plain p.0.media) (pair_with h.pairs peer) r.0 refl (psk_is 255 (sent_under h.now h.noise (ssrcs_of Plain p.0.media) (pair_with h.pairs peer)) r.0 r.1),
      tells_message h.slot p.0 r.0,
    )

draws : (u : Turn) (id : CallId) (way : Way) (drawn : List ℕ) (c d : Call) (o : Offer) (noise text : List ℕ) (by : MadeBy id o u) → by.way ≡ way → by.noise ≡ drawn → LinesOf way drawn o → (a : IsAnswered c d o noise text)
    → AreDrawn u.before.books.pairs way drawn by.accepted.text o.description noise d
draws u id FromSecure drawn c d o noise text by of_way of_noise lines a = λ none.
    let ls = lines none in
    seals_under (IsForAnswer noise) c d o noise text a (peers_answer c.slot o noise text a.agreement ls.0 ls.1 a.agreed)
draws u id SdesFromPlain drawn c d o noise text by of_way of_noise lines a = seals_under (IsForOffer drawn) c d o noise text a (own_answer c.slot o drawn noise text a.agreement lines.0 lines.1 lines.2 a.agreed)
draws u id (MikeyFromPlain peer) drawn c d o noise text by of_way of_noise lines a =
    subst (λ (n : List ℕ). TellsDrawn u.before.books.pairs peer n by.accepted.text) (by.drawn ∙ of_noise)
    (subst (λ (pairs : List Pair). TellsDrawn pairs peer by.hand.noise by.accepted.text) by.pairs
    (offer_message by.hand peer by.text by.accepted (ap (λ (way : Way). agreed_offer by.hand way by.text) (sym of_way) ∙ by.agreed)))

pub drawn_by : (id : CallId) (o : Offer) (u : Turn) (by : MadeBy id o u) (c d : Call) (noise text : List ℕ) → IsAnswered c d o noise text → AreDrawn u.before.books.pairs by.way by.noise by.accepted.text o.description noise d
drawn_by id o u by c d noise text a =
    let lines : LinesOf by.way by.noise o = subst (LinesOf by.way by.noise) by.same (subst (λ n. LinesOf by.way n by.accepted.offer) by.drawn (offer_lines by.hand by.way by.text by.accepted by.agreed)) in
    draws u id by.way by.noise c d o noise text by refl refl lines a

module _ (ts : List Turn) (w : World) (opened : WereOpened ts w) (id : CallId) (noise text : List ℕ) (c : Call) (o : Offer) (at : call_of w id ≡ Some c) (open_one : c.offer ≡ Some o) where
  abbrev IsDrawnIn : Call → Turn → Type 0
  IsDrawnIn d u = (x : Opens u id o) × AreDrawn u.before.books.pairs x.way x.drawn x.forth o.description noise d

  of_turn : (d : Call) → IsAnswered c d o noise text → (u : Turn) → OpenedBy id o u → IsDrawnIn d u
  unfolding opens_it
  of_turn d a u by = (opens_it id o u by, drawn_by id o u by.0 c d noise text a)

  answer_draws : (d : Call) → call_of (answer_to w (Answered id noise text)).world id ≡ Some d → d.generations ≡ c.generations + 1 → Any (IsDrawnIn d) ts
  answer_draws d now more = any_weaker (OpenedBy id o) (IsDrawnIn d) (λ u by. of_turn d (answered_now w id noise text c o at open_one d now more) u by) ts (was_opened ts w opened id c o at open_one)

-- ---- a run

turn_draws : (ts : List Turn) (w : World) → WereOpened ts w → (e : Event) → AnswerDraws ts (turn_of w e)
turn_draws ts w opened e id noise text c d o same at open_one =
    subst (λ (e : Event). call_of (step w e).world id ≡ Some d → d.generations ≡ c.generations + 1 → Any (IsDrawnIn ts w opened id noise text c o at open_one d) ts)
    (sym same) (answer_draws ts w opened id noise text c o at open_one d)

pub own_keys_drawn : (events : List Event) → OwnKeysAreDrawn events
own_keys_drawn events = kept_before WereOpened event_opened AnswerDraws turn_draws [] empty events tt
