-- What an answer keys by crypto lines is by the first line of the peer's medium that is read, and by the gateway's that goes with it.
use Rattle.std.proofs.Common.{◌≡◌, ℕ, ◌+◌, Bool, true, false, cond, not, List, [], ◌∷◌, ◌++◌, length, map, Option, Some, None, Ok, Err, refl, sym, ap, ◌∙◌, subst, eqb}
use Rattle.std.proofs.lemmas.List.Elements.{All-from_recursion}
use Rattle.std.specs.List.{AllByRecursion, Any, find}
use Rattle.sg_agreement.proofs.KeyedSound.{sdes_is}
use Rattle.sg_agreement.proofs.TextLines.{bind_is, matched_is, octets_are}
use Rattle.sg_agreement.specs.Answers.{Answered as Keyings, AgreedAnswer, accepted_answer, agreed_answer, answered_by}
use Rattle.sg_agreement.specs.Attributes.{crypto_values, first_of}
use Rattle.sg_agreement.specs.Described.{described}
use Rattle.sg_agreement.specs.LineAnswers.{keyed_by_answer, keyed_by_matched, keyed_by_own_lines, keyed_by_peer_line, lines_matched}
use Rattle.sg_agreement.specs.Offers.{AgreedOffer, agreed_offer, keying_of, noise_of}
use Rattle.sg_agreement.specs.Streams.{line_key, stream_of_line, window_of}
use Rattle.sg_agreement.specs.TextLines.{IsWindow, identifier}
use Rattle.sg_base.proofs.Cases.{is_name}
use Rattle.sg_base.proofs.SuiteLemmas.{suite_again}
use Rattle.sg_base.specs.SuiteNames.{suite_at, suite_name}
use Rattle.sg_base.specs.Suites.{tag_len_of}
use Rattle.sg_base.specs.declared.faults.SdesFault.TheVariants.{Tag, Suite as OtherSuite}
use Rattle.sg_base.specs.declared.suites.Suite.{Suite}
use Rattle.sg_sdes.specs.Answers.{answer_by, matched, offered_by, same_suite}
use Rattle.sg_sdes.specs.CryptoOf.{crypto_of}
use Rattle.sg_sdes.specs.Keys as lines
use Rattle.sg_sdes.specs.declared.lines.InlineKey.{InlineKey}
use Rattle.sg_sdp.specs.declared.medium.Medium as descriptions
use Rattle.sg_sdp.specs.declared.sdp.Sdp.{Sdp}
use Rattle.sg_gateway.proofs.Common.{AtHand, Call, CallId, CryptoLine, Direction, Event, FromSecure, IsMediumAt, Keyed, Keying, Kind, Medium, MikeyFromPlain, Offer, Opening, OwnLines, PeerLines, Plain, Rtcp, Rtp, SdesFromPlain, Sealing, Secure, Session, Side}
use Rattle.sg_gateway.proofs.Common.{Stream, Turn, Way, World, actives_after, after_ok_is, any_here, any_there, any_weaker, call_of, described_is, description_of, each_active, each_append, each_kept, each_weaker, empty, if_kept, keys_of}
use Rattle.sg_gateway.proofs.Common.{media_agreed, numbered, of_sdes, ok_is, other_side, owner_at, sessions_from, side_of, some_is, step, stream_session, stream_sessions, turn_of}
use Rattle.sg_gateway.proofs.Addressed.{IsAnswered, answered_now}
use Rattle.sg_gateway.proofs.ByTexts.{MadeBy}
use Rattle.sg_gateway.proofs.CarriedOut.{of_generation}
use Rattle.sg_gateway.proofs.LineSessions.{masters_of, mkis_of}
use Rattle.sg_gateway.proofs.MediaSessions.{each_stream}
use Rattle.sg_gateway.proofs.TurnByTurn.{kept_before}
use Rattle.sg_gateway.specs.ByTexts.{HasWindow, is_plain, line_towards}
use Rattle.sg_gateway.specs.CryptoSessions.{life_of, tag_octets}
use Rattle.sg_gateway.specs.Runs.{turns}
use Rattle.sg_gateway.specs.Signals.{Answered, answer_to}
use Rattle.sg_conduct.proofs.Drawn.{AllAt, each_active_at, each_kept_at, kept_some, masters_mapped, rest_at, some_at, this_at}
use Rattle.sg_conduct.proofs.FirstLines.{IsFirstAt, Placed, at_head, at_rest, at_start, first_matched, offer_first}
use Rattle.sg_conduct.proofs.Opened.{OpenedBy, WereOpened, event_opened, opens_it, was_opened}
use Rattle.sg_conduct.specs.Carried.{lines_of}
use Rattle.sg_conduct.specs.Drawn.{Opens, noise_for}
use Rattle.sg_conduct.specs.Firsts.{AnswerIsByFirst, AnswersIt, AreByFirst, AreByFirstLines, IsAnsweredByIt, IsByFirst}

-- ---- suites

pub suite_is : (a b : Suite) → same_suite a b ≡ true → a ≡ b
suite_is a b e = some_is a b (sym (suite_again a) ∙ (ap suite_at (is_name (suite_name a) (suite_name b) e) ∙ suite_again b))

suites_matched : (offered : List CryptoLine) (value : List ℕ) (p : CryptoLine × CryptoLine) → matched offered value ≡ Ok p → p.0.suite ≡ p.1.suite
unfolding matched
suites_matched offered value p e =
    let a = bind_is (crypto_of value) _ p e in
    let b = bind_is (lines.or_fault Tag (find (λ l. eqb l.tag a.0.tag) offered)) _ p a.2 in
    go b.0 a.0 (same_suite b.0.suite a.0.suite) refl b.2
  where
    go : (own peer : CryptoLine) (b : Bool) → same_suite own.suite peer.suite ≡ b → cond b (Ok (own, peer)) (Err OtherSuite) ≡ Ok p → p.0.suite ≡ p.1.suite
    go own peer true same is = subst (λ (p : CryptoLine × CryptoLine). p.0.suite ≡ p.1.suite) (ok_is (own, peer) p is) (suite_is own.suite peer.suite same)
    go own peer false same is = absurd cc

each_there : {X : Type 0} (xs : List X) → AllByRecursion (λ x. Any (λ y. y ≡ x) xs) xs
each_there [] = tt
each_there {X} (x ∷ xs) = (any_here _ x xs refl, each_weaker _ _ (λ (y : X) at. any_there (λ z. z ≡ y) x xs at) xs (each_there xs))

-- the peer's line goes with one of those that were offered, of its tag and suite
goes_with : (offered : List CryptoLine) (o : Option (List ℕ)) (p : CryptoLine × CryptoLine) → lines_matched offered o ≡ Ok p → Any (λ l. l ≡ p.0) offered × (p.0.tag ≡ p.1.tag) × (p.0.suite ≡ p.1.suite)
goes_with offered None p e = absurd cc
goes_with offered (Some value) p e =
    let m = matched_is (λ x. Any (λ y. y ≡ x) offered) offered value p (each_there offered) e in
    (m.1.0, m.1.1, suites_matched offered value p e)

-- ---- a medium that is by a line

mkis_mapped : (ks : List InlineKey) → map (λ k. k.mki) (map line_key ks) ≡ map (λ k. identifier k.mki) ks
mkis_mapped [] = refl
mkis_mapped (k ∷ ks) =
    let this = octets_are k.mki in
    let rest = mkis_mapped ks in
    λ i. this i ∷ rest i

lives_mapped : (kind : Kind) (n : ℕ) (ks : List InlineKey) → map (λ k. k.life) (keys_of kind (numbered n (map line_key ks))) ≡ map (λ k. life_of kind k.lifetime) ks
lives_mapped Rtp n [] = refl
lives_mapped Rtp n (k ∷ ks) = ap (λ ls. k.lifetime ∷ ls) (lives_mapped Rtp (n + 1) ks)
lives_mapped Rtcp n [] = refl
lives_mapped Rtcp n (k ∷ ks) = ap (λ ls. life_of Rtcp k.lifetime ∷ ls) (lives_mapped Rtcp (n + 1) ks)

window_is : (size : Option ℕ) → IsWindow size (window_of size)
window_is None = refl
window_is (Some size) = refl

module _ (Goes : ℕ → CryptoLine → CryptoLine → Type 0) (peers : List descriptions.Medium) where
  -- what both sides send is under the peer's line and under the gateway's
  record IsBy (k : ℕ) (from to : Stream) (window : ℕ) : Type 0 where
    peer : CryptoLine
    own : CryptoLine
    first : IsFirstAt peers k peer
    goes : Goes k peer own
    opens : from ≡ stream_of_line peer peer
    seals : to ≡ stream_of_line peer own
    size : window ≡ window_of peer.window

  abbrev Keys : ℕ → Keyed → Type 0
  Keys k y = IsBy k y.from_peer y.to_peer y.window

  abbrev Agrees : ℕ → Medium → Type 0
  Agrees k x = IsBy k x.from_peer x.to_peer x.window

  abbrev EachBy : List Session → Type 0
  EachBy ss = AllByRecursion (IsByFirst Goes peers) ss

  stream_by : (direction : Direction) (call generation medium n window : ℕ) (peer own : CryptoLine) (x : Medium) → IsFirstAt peers medium peer → Goes medium peer own → HasWindow direction peer window
      → EachBy (stream_sessions (owner_at call generation medium direction) (numbered n (map line_key (line_towards direction peer own).keys)) (stream_of_line peer (line_towards direction peer own)) window x)
  stream_by direction call generation medium n window peer own x first goes size =
      each_stream (IsByFirst Goes peers) _ _ (stream_of_line peer line) window x (this Rtp (not peer.plain_rtp) (tag_len_of line.suite) refl refl) (λ on. this Rtcp (not peer.plain_rtcp) 10 refl refl)
    where
      line : CryptoLine
      line = line_towards direction peer own

      this : (kind : Kind) (on : Bool) (tag_len : ℕ) → on ≡ not (is_plain kind peer) → tag_len ≡ tag_octets kind line.suite
          → IsByFirst Goes peers (stream_session (owner_at call generation medium direction) (numbered n (map line_key line.keys)) (stream_of_line peer line) window x kind on tag_len)
      this kind on tag_len encrypts tags = record {
        medium = first.0;
        in_peers = first.1;
        peer = peer;
        is_first = first.2;
        own = own;
        goes = goes;
        under = record {
          masters = masters_of kind n (map line_key line.keys) ∙ masters_mapped line;
          mkis = mkis_of kind n (map line_key line.keys) ∙ mkis_mapped line.keys;
          lives = lives_mapped kind n line.keys;
          roc = refl;
          sources = refl;
          tags = tags;
          window = size;
          encrypts = encrypts;
        };
      }

  sessions_by : (call generation k n : ℕ) (xs : List (Option Medium)) → AllAt Agrees k xs → EachBy (sessions_from call generation k n xs)
  sessions_by call generation k n [] all = tt
  sessions_by call generation k n (None ∷ xs) all = sessions_by call generation (k + 1) n xs all
  sessions_by call generation k n (Some x ∷ xs) all =
      let by = all.0 in
      each_append (IsByFirst Goes peers) (stream_sessions (owner_at call generation k Opening) (numbered n x.from_peer.keys) x.from_peer x.window x) _
      (subst (λ (st : Stream). EachBy (stream_sessions (owner_at call generation k Opening) (numbered n st.keys) st x.window x)) (sym by.opens)
      (stream_by Opening call generation k n x.window by.peer by.own x by.first by.goes (subst (IsWindow by.peer.window) (sym by.size) (window_is by.peer.window))))
      (each_append (IsByFirst Goes peers) (stream_sessions (owner_at call generation k Sealing) (numbered (n + length x.from_peer.keys) x.to_peer.keys) x.to_peer 1024 x) _
      (subst (λ (st : Stream). EachBy (stream_sessions (owner_at call generation k Sealing) (numbered (n + length x.from_peer.keys) st.keys) st 1024 x)) (sym by.seals)
      (stream_by Sealing call generation k (n + length x.from_peer.keys) 1024 by.peer by.own x by.first by.goes refl))
      (sessions_by call generation (k + 1) (n + length x.from_peer.keys + length x.to_peer.keys) xs all.1))

  media_by : (side : Side) (k : ℕ) (ms ns : List descriptions.Medium) (ks : List (Option Keyed)) → AllAt Keys k ks → AllAt Agrees k (media_agreed side ms ns ks)
  media_by side k [] ns ks all = tt
  media_by side k (m ∷ ms) [] ks all = tt
  media_by side k (m ∷ ms) (n ∷ ns) [] all = tt
  media_by side k (m ∷ ms) (n ∷ ns) (None ∷ ks) all = media_by side (k + 1) ms ns ks all
  media_by Secure k (m ∷ ms) (n ∷ ns) (Some y ∷ ks) all = (all.0, media_by Secure (k + 1) ms ns ks all.1)
  media_by Plain k (m ∷ ms) (n ∷ ns) (Some y ∷ ks) all = (all.0, media_by Plain (k + 1) ms ns ks all.1)

-- ---- by lines

peers_by : (peers : List descriptions.Medium) (noise : List ℕ) (k : ℕ) (peer : CryptoLine) (n : descriptions.Medium) (y : Keyed) → IsFirstAt peers k peer → keyed_by_peer_line noise k peer n ≡ Ok y
    → Keys (AnswersIt noise) peers k y
peers_by peers noise k peer n y is e =
    subst (Keys (AnswersIt noise) peers k) (ok_is (keyed_by_answer peer (answer_by peer (noise_of k noise))) y e)
    (record { peer = peer; own = answer_by peer (noise_of k noise); first = is; goes = refl; opens = refl; seals = refl; size = refl })

-- the gateway's two lines, of this noise
abbrev AreOwn : List ℕ → ℕ → List CryptoLine → Type 0
AreOwn drawn k ls = ls ≡ lines_of (noise_for k drawn)

owns_by : (peers : List descriptions.Medium) (drawn : List ℕ) (k : ℕ) (offered : List CryptoLine) (n : descriptions.Medium) (y : Keyed) → AreOwn drawn k offered → IsMediumAt peers k n → keyed_by_own_lines k offered n ≡ Ok y
    → Keys (IsAnsweredByIt drawn) peers k y
owns_by peers drawn k offered n y are at e =
    let value : Option (List ℕ) = first_of (crypto_values n.lines) in
    let a = after_ok_is (of_sdes k (lines_matched offered value)) _ y e in
    let by = sdes_is k (lines_matched offered value) a.0 a.1 in
    let goes = goes_with offered value a.0 by in
    subst (Keys (IsAnsweredByIt drawn) peers k) (ok_is (keyed_by_matched a.0) y a.2) (record {
      peer = a.0.1;
      own = a.0.0;
      first = (n, at, first_matched offered n.lines a.0 by);
      goes = (subst (λ (ls : List CryptoLine). Any (λ l. l ≡ a.0.0) ls) are goes.0, goes.1, goes.2);
      opens = refl;
      seals = refl;
      size = refl;
    })

abbrev OwnsOf : Way → List ℕ → Offer → Type 0
OwnsOf SdesFromPlain drawn o = (ls : List (Option (List CryptoLine))) × (o.keying ≡ OwnLines ls) × AllAt (AreOwn drawn) 0 ls
OwnsOf other drawn o = Unit {0}

owns_of_keying : (h : AtHand) (s : Sdp) (way : Way) (k : Keying) → keying_of h s way ≡ Ok k → OwnsOf way h.noise (record { side = side_of way; description = s; keying = k })
owns_of_keying h s FromSecure k e = tt
owns_of_keying h s SdesFromPlain k e =
    let a = after_ok_is (each_active Plain (λ k m. Ok (offered_by (noise_of k h.noise))) 0 s.media) _ k e in (
      a.0,
      sym (ok_is (OwnLines a.0) k a.2),
      each_active_at (AreOwn h.noise) Plain (λ k m. Ok (offered_by (noise_of k h.noise))) (λ k m l is. sym (ok_is (offered_by (noise_of k h.noise)) l is)) 0 s.media a.0 a.1,
    )
owns_of_keying h s (MikeyFromPlain peer) k e = tt

owns_offered : (h : AtHand) (way : Way) (text : List ℕ) (a : AgreedOffer) → agreed_offer h way text ≡ Ok a → OwnsOf way h.noise a.offer
unfolding agreed_offer
owns_offered h way text a e =
    let p = after_ok_is (described (side_of way) h.media text) _ a e in
    let q = after_ok_is (keying_of h p.0 way) _ a p.2 in
    subst (λ (a : AgreedOffer). OwnsOf way h.noise a.offer) (ok_is _ a q.2) (owns_of_keying h p.0 way q.0 q.1)

peers_agree : (slot : ℕ) (o : Offer) (noise text : List ℕ) (g : AgreedAnswer) (ls : List (Option CryptoLine)) → o.keying ≡ PeerLines ls → AllAt (IsFirstAt o.description.media) 0 ls → agreed_answer slot o noise text ≡ Ok g
    → AllAt (Agrees (AnswersIt noise) o.description.media) 0 g.media
unfolding agreed_answer
peers_agree slot o noise text g ls keyed firsts e =
    let peers : List descriptions.Medium = o.description.media in
    let p = after_ok_is (described (other_side o.side) (Some (length o.description.media)) text) _ g e in
    let active : List Bool = actives_after o.side o.description.media p.0.media in
    let q = after_ok_is (answered_by o noise p.0 active o.keying) _ g p.2 in
    let r = after_ok_is (each_kept (keyed_by_peer_line noise) 0 active ls p.0.media) _ q.0 (ap (answered_by o noise p.0 active) (sym keyed) ∙ q.1) in
    let all = each_kept_at (IsFirstAt peers) (Keys (AnswersIt noise) peers) (keyed_by_peer_line noise) (λ k x n y u v. peers_by peers noise k x n y u v) 0 active ls p.0.media r.0 firsts r.1 in
    let media : AllAt (Keys (AnswersIt noise) peers) 0 q.0.media = subst (λ (a : Keyings). AllAt (Keys (AnswersIt noise) peers) 0 a.media) (ok_is _ q.0 r.2) all in
    subst (λ (g : AgreedAnswer). AllAt (Agrees (AnswersIt noise) peers) 0 g.media) (ok_is (accepted_answer slot o p.0 active q.0) g q.2)
    (media_by (AnswersIt noise) peers o.side 0 o.description.media p.0.media q.0.media media)

owns_agree : (slot : ℕ) (o : Offer) (drawn noise text : List ℕ) (g : AgreedAnswer) (answer : Sdp) (ls : List (Option (List CryptoLine))) → o.keying ≡ OwnLines ls → AllAt (AreOwn drawn) 0 ls
    → description_of text ≡ Ok answer → agreed_answer slot o noise text ≡ Ok g → AllAt (Agrees (IsAnsweredByIt drawn) answer.media) 0 g.media
unfolding agreed_answer
owns_agree slot o drawn noise text g answer ls keyed fresh read e =
    let p = after_ok_is (described (other_side o.side) (Some (length o.description.media)) text) _ g e in
    let same : p.0 ≡ answer = ok_is p.0 answer (sym (described_is (other_side o.side) (Some (length o.description.media)) text p.0 p.1) ∙ read) in
    let active : List Bool = actives_after o.side o.description.media p.0.media in
    let q = after_ok_is (answered_by o noise p.0 active o.keying) _ g p.2 in
    let r = after_ok_is (each_kept keyed_by_own_lines 0 active ls p.0.media) _ q.0 (ap (answered_by o noise p.0 active) (sym keyed) ∙ q.1) in
    let all = owns_placed p.0.media 0 active ls p.0.media r.0 fresh (at_start p.0.media) r.1 in
    let media : AllAt (Keys (IsAnsweredByIt drawn) p.0.media) 0 q.0.media = subst (λ (a : Keyings). AllAt (Keys (IsAnsweredByIt drawn) p.0.media) 0 a.media) (ok_is _ q.0 r.2) all in
    subst (λ (s : Sdp). AllAt (Agrees (IsAnsweredByIt drawn) s.media) 0 g.media) same
    (subst (λ (g : AgreedAnswer). AllAt (Agrees (IsAnsweredByIt drawn) p.0.media) 0 g.media) (ok_is (accepted_answer slot o p.0 active q.0) g q.2)
    (media_by (IsAnsweredByIt drawn) p.0.media o.side 0 o.description.media p.0.media q.0.media media))
  where
    owns_placed : (peers : List descriptions.Medium) (k : ℕ) (active : List Bool) (xs : List (Option (List CryptoLine))) (ns : List descriptions.Medium) (ys : List (Option Keyed)) → AllAt (AreOwn drawn) k xs → Placed peers k ns
        → each_kept keyed_by_own_lines k active xs ns ≡ Ok ys → AllAt (Keys (IsAnsweredByIt drawn) peers) k ys
    owns_placed peers k [] xs ns ys all placed e = subst (AllAt (Keys (IsAnsweredByIt drawn) peers) k) (ok_is [] ys e) tt
    owns_placed peers k (on ∷ active) [] ns ys all placed e = subst (AllAt (Keys (IsAnsweredByIt drawn) peers) k) (ok_is [] ys e) tt
    owns_placed peers k (on ∷ active) (x ∷ xs) [] ys all placed e = subst (AllAt (Keys (IsAnsweredByIt drawn) peers) k) (ok_is [] ys e) tt
    owns_placed peers k (on ∷ active) (x ∷ xs) (n ∷ ns) ys all placed e =
        let a = after_ok_is (if_kept on x (λ x. keyed_by_own_lines k x n)) _ ys e in
        let b = after_ok_is (each_kept keyed_by_own_lines (k + 1) active xs ns) _ ys a.2 in
        subst (AllAt (Keys (IsAnsweredByIt drawn) peers) k) (ok_is (a.0 ∷ b.0) ys b.2)
        (some_at (Keys (IsAnsweredByIt drawn) peers) k a.0 b.0
        (λ y is. let s = kept_some on x (λ x. keyed_by_own_lines k x n) y (a.1 ∙ ap Ok is) in owns_by peers drawn k s.0 n y (this_at (AreOwn drawn) k x xs all s.0 s.1) (at_head peers k n ns placed) s.2)
        (owns_placed peers (k + 1) active xs ns b.0 (rest_at (AreOwn drawn) k x xs all) (at_rest peers k n ns placed) b.1))

-- ---- an answer

are_first : (Goes : ℕ → CryptoLine → CryptoLine → Type 0) (peers : List descriptions.Medium) (c d : Call) (o : Offer) (noise text : List ℕ) (a : IsAnswered c d o noise text) → AllAt (Agrees Goes peers) 0 a.agreement.media → AreByFirst Goes peers d
are_first Goes peers c d o noise text a all =
    All-from_recursion (λ s. s.name.owner.generation + 1 ≡ d.generations → IsByFirst Goes peers s) d.sessions
    (of_generation c d (sessions_from c.serial c.generations 0 a.number a.agreement.media) (IsByFirst Goes peers) a.sessions a.generations (sessions_by Goes peers c.serial c.generations 0 a.number a.agreement.media all))

module _ (c d : Call) (noise text : List ℕ) (answer : Sdp) (read : description_of text ≡ Ok answer) where
  by_first : (h : AtHand) (way : Way) (offered : List ℕ) (g : AgreedOffer) → agreed_offer h way offered ≡ Ok g → IsAnswered c d g.offer noise text → AreByFirstLines way h.noise g.offer.description noise answer d
  by_first h FromSecure offered g e a = λ none.
      let p = offer_first h offered g e none in
      are_first (AnswersIt noise) g.offer.description.media c d g.offer noise text a (peers_agree c.slot g.offer noise text a.agreement p.0 p.1 p.2 a.agreed)
  by_first h SdesFromPlain offered g e a =
      let p : OwnsOf SdesFromPlain h.noise g.offer = owns_offered h SdesFromPlain offered g e in
      are_first (IsAnsweredByIt h.noise) answer.media c d g.offer noise text a (owns_agree c.slot g.offer h.noise noise text a.agreement answer p.0 p.1 p.2 read a.agreed)
  by_first h (MikeyFromPlain peer) offered g e a = tt

pub first_by : (id : CallId) (o : Offer) (u : Turn) (by : MadeBy id o u) (c d : Call) (noise text : List ℕ) (answer : Sdp) → description_of text ≡ Ok answer → IsAnswered c d o noise text
    → AreByFirstLines by.way by.noise o.description noise answer d
first_by id o u by c d noise text answer read a =
    subst (λ (o : Offer). AreByFirstLines by.way by.noise o.description noise answer d) by.same
    (subst (λ (drawn : List ℕ). AreByFirstLines by.way drawn by.accepted.offer.description noise answer d) by.drawn
    (by_first c d noise text answer read by.hand by.way by.text by.accepted by.agreed (subst (λ (o : Offer). IsAnswered c d o noise text) (sym by.same) a)))

module _ (ts : List Turn) (w : World) (opened : WereOpened ts w) (id : CallId) (noise text : List ℕ) (c : Call) (o : Offer) (at : call_of w id ≡ Some c) (open_one : c.offer ≡ Some o) where
  abbrev IsFirstIn : Call → Sdp → Turn → Type 0
  IsFirstIn d answer u = (x : Opens u id o) × AreByFirstLines x.way x.drawn o.description noise answer d

  of_turn : (d : Call) (answer : Sdp) → description_of text ≡ Ok answer → IsAnswered c d o noise text → (u : Turn) → OpenedBy id o u → IsFirstIn d answer u
  unfolding opens_it
  of_turn d answer read a u by = (opens_it id o u by, first_by id o u by.0 c d noise text answer read a)

  answer_first : (d : Call) (answer : Sdp) → call_of (answer_to w (Answered id noise text)).world id ≡ Some d → d.generations ≡ c.generations + 1 → description_of text ≡ Ok answer → Any (IsFirstIn d answer) ts
  answer_first d answer now more read =
      any_weaker (OpenedBy id o) (IsFirstIn d answer) (λ u by. of_turn d answer read (answered_now w id noise text c o at open_one d now more) u by) ts (was_opened ts w opened id c o at open_one)

turn_first : (ts : List Turn) (w : World) → WereOpened ts w → (e : Event) → AnswerIsByFirst ts (turn_of w e)
turn_first ts w opened e id noise text c d o answer same at open_one =
    subst (λ (e : Event). call_of (step w e).world id ≡ Some d → d.generations ≡ c.generations + 1 → description_of text ≡ Ok answer → Any (IsFirstIn ts w opened id noise text c o at open_one d answer) ts)
    (sym same) (answer_first ts w opened id noise text c o at open_one d answer)

pub answers_by_first : (events : List Event) (earlier later : List Turn) (t : Turn) → turns events ≡ earlier ++ t ∷ later → AnswerIsByFirst earlier t
answers_by_first events = kept_before WereOpened event_opened AnswerIsByFirst turn_first [] empty events tt
