-- The sessions of every world have tags of whole length.
use Rattle.std.proofs.Common.{◌≡◌, inl, inr, ℕ, ◌+◌, Bool, true, false, List, [], ◌∷◌, ◌++◌, length, map, Option, Some, None, Result, Ok, refl, subst}
use Rattle.sg_agreement.proofs.KeyedSound.{Sometimes}
use Rattle.sg_agreement.specs.Answers.{Answered, AgreedAnswer, accepted_answer, agreed_answer, answered, answered_by}
use Rattle.sg_agreement.specs.Attributes.{crypto_values, first_of, mikey_value}
use Rattle.sg_agreement.specs.Described.{described}
use Rattle.sg_agreement.specs.Keying.{Keying, PeerLines, OwnLines, PeerMessage, PeerMessages, OwnMessage, Offer}
use Rattle.sg_agreement.specs.LineAnswers.{keyed_by_matched, keyed_by_own_lines, keyed_by_peer_line, lines_matched}
use Rattle.sg_agreement.specs.MessageAnswers.{keyed_as_initiator, keyed_as_responder, keyed_by_message, over_active, own_streams, streams_answered}
use Rattle.sg_agreement.specs.Offers.{noise_of}
use Rattle.sg_base.specs.Suites.{tag_len_of}
use Rattle.sg_sdes.specs.Answers.{answer_by}
use Rattle.sg_sdp.specs.declared.medium.Medium as descriptions
use Rattle.sg_sdp.specs.declared.sdp.Sdp.{Sdp}
use Rattle.sg_base.specs.declared.suites.Suite.{Suite}
use Rattle.sg_base.specs.declared.suites.Suite.TheVariants.{Cm128Tag32, Cm192Tag32, Cm256Tag32}
use Rattle.sg_gateway.proofs.Common.{AllByRecursion, Done, Entry, Key, Keyed, ManualCall, Medium, Name, Owner, Plain, Refusal, Rtp, Secure, Session, Side}
use Rattle.sg_gateway.proofs.Common.{Stream, World, active_count, actives_after, after_ok_is, both, each_kept, each_weaker, if_kept, manual_medium}
use Rattle.sg_gateway.proofs.Common.{media_agreed, medium_agreed, numbered, of_sdes, ok_is, other_side, same_name, sessions_from, stream_sessions, with_done}
use Rattle.sg_gateway.proofs.Kept.{IsKept}
use Rattle.sg_gateway.proofs.MediaSessions.{each_session, each_stream}
use Rattle.sg_gateway.proofs.Signals.{AllHave}
use Rattle.sg_gateway.specs.Tags.{IsTagLength, HasWholeTags, HaveWholeTags}

pub whole_on : (n : Name) (d : Done) (s : Session) → HasWholeTags s → HasWholeTags (with_done n d s)
whole_on n d s is = both HasWholeTags (same_name s.name n) (record s { done = s.done ++ d ∷ [] }) s is is

stream_whole : (owner : Owner) (keys : List Key) (st : Stream) (window : ℕ) (x : Medium) → IsTagLength Rtp st.tag_len → AllByRecursion HasWholeTags (stream_sessions owner keys st window x)
stream_whole owner keys st window x is = each_stream HasWholeTags owner keys st window x is (λ on. refl)

of_suite : (s : Suite) → IsTagLength Rtp (tag_len_of s)
of_suite Cm128Tag32 = inl refl
of_suite Cm192Tag32 = inl refl
of_suite Cm256Tag32 = inl refl
of_suite other = inr refl

-- ---- what is agreed

abbrev AreWhole : Keyed → Type 0
AreWhole k = IsTagLength Rtp k.from_peer.tag_len × IsTagLength Rtp k.to_peer.tag_len

abbrev AllWhole : List (Option Keyed) → Type 0
AllWhole ks = AllByRecursion (Sometimes AreWhole) ks

kept_whole : {X : Type 0} (on : Bool) (x : Option X) (value : X → Result Keyed Refusal) → ((x : X) (k : Keyed) → value x ≡ Ok k → AreWhole k) → (k : Option Keyed) → if_kept on x value ≡ Ok k → Sometimes AreWhole k
kept_whole false x value all k e = subst (Sometimes AreWhole) (ok_is None k e) tt
kept_whole true None value all k e = subst (Sometimes AreWhole) (ok_is None k e) tt
kept_whole true (Some x) value all k e =
    let a = after_ok_is (value x) (λ y. Ok (Some y)) k e in
    subst (Sometimes AreWhole) (ok_is (Some a.0) k a.2) (all x a.0 a.1)

each_whole : {X : Type 0} (value : ℕ → X → descriptions.Medium → Result Keyed Refusal) → ((n : ℕ) (x : X) (m : descriptions.Medium) (k : Keyed) → value n x m ≡ Ok k → AreWhole k)
    → (n : ℕ) (active : List Bool) (xs : List (Option X)) (ms : List descriptions.Medium) (ks : List (Option Keyed)) → each_kept value n active xs ms ≡ Ok ks → AllWhole ks
each_whole value all n [] xs ms ks e = subst AllWhole (ok_is [] ks e) tt
each_whole value all n (on ∷ active) [] ms ks e = subst AllWhole (ok_is [] ks e) tt
each_whole value all n (on ∷ active) (x ∷ xs) [] ks e = subst AllWhole (ok_is [] ks e) tt
each_whole value all n (on ∷ active) (x ∷ xs) (m ∷ ms) ks e =
    let a = after_ok_is (if_kept on x (λ x. value n x m)) _ ks e in
    let b = after_ok_is (each_kept value (n + 1) active xs ms) _ ks a.2 in
    subst AllWhole (ok_is (a.0 ∷ b.0) ks b.2) (kept_whole on x (λ x. value n x m) (λ x k. all n x m k) a.0 a.1, each_whole value all (n + 1) active xs ms b.0 b.1)

of_answered : (session : List (List ℕ)) (r : Result (List (Option Keyed)) Refusal) → ((ks : List (Option Keyed)) → r ≡ Ok ks → AllWhole ks) → (a : Answered) → answered session r ≡ Ok a → AllWhole a.media
of_answered session r all a e =
    let p = after_ok_is r _ a e in
    subst (λ (a : Answered). AllWhole a.media) (ok_is _ a p.2) (all p.0 p.1)

answered_whole : (o : Offer) (noise : List ℕ) (s : Sdp) (active : List Bool) (k : Keying) (a : Answered) → answered_by o noise s active k ≡ Ok a → AllWhole a.media
answered_whole o noise s active (PeerLines lines) a e =
    of_answered [] (each_kept (keyed_by_peer_line noise) 0 active lines s.media)
    (each_whole (keyed_by_peer_line noise) (λ n peer m k is. subst AreWhole (ok_is _ k is) (of_suite peer.suite, of_suite (answer_by peer (noise_of n noise)).suite)) 0 active lines s.media) a e
answered_whole o noise s active (OwnLines lines) a e =
    of_answered [] (each_kept keyed_by_own_lines 0 active lines s.media)
    (each_whole keyed_by_own_lines
    (λ n offered m k is.
    let p = after_ok_is (of_sdes n (lines_matched offered (first_of (crypto_values m.lines)))) _ k is in
    subst AreWhole (ok_is (keyed_by_matched p.0) k p.2) (of_suite p.0.1.suite, of_suite p.0.0.suite)) 0 active lines s.media) a e
answered_whole o noise s active (PeerMessage b) a e =
    of_answered _ (each_kept (λ n streams m. Ok (keyed_as_responder [] streams m)) 0 active (over_active o.side o.description.media b.streams) s.media)
    (each_whole (λ n streams m. Ok (keyed_as_responder [] streams m))
    (λ n streams m k is. subst AreWhole (ok_is (keyed_as_responder [] streams m) k is) (of_suite streams.0.suite, of_suite streams.1.suite)) 0 active (over_active o.side o.description.media b.streams) s.media) a e
answered_whole o noise s active (PeerMessages bundles) a e =
    of_answered [] (each_kept (λ n x m. Ok (keyed_by_message x m)) 0 active (map own_streams bundles) s.media)
    (each_whole (λ n x m. Ok (keyed_by_message x m))
    (λ n x m k is. subst AreWhole (ok_is (keyed_by_message x m) k is) (of_suite x.1.0.suite, of_suite x.1.1.suite)) 0 active (map own_streams bundles) s.media) a e
answered_whole o noise s active (OwnMessage sent) a e =
    let p = after_ok_is (streams_answered sent (active_count o.side o.description.media) (mikey_value s.session)) _ a e in
    of_answered [] (each_kept (λ n streams m. Ok (keyed_as_initiator streams)) 0 active (over_active o.side o.description.media p.0) s.media)
    (each_whole (λ n streams m. Ok (keyed_as_initiator streams))
    (λ n streams m k is. subst AreWhole (ok_is (keyed_as_initiator streams) k is) (of_suite streams.1.suite, of_suite streams.0.suite)) 0 active (over_active o.side o.description.media p.0) s.media) a p.2

-- the media of an answer
abbrev AreWholeMedium : Medium → Type 0
AreWholeMedium x = IsTagLength Rtp x.from_peer.tag_len × IsTagLength Rtp x.to_peer.tag_len

medium_of : (side : Side) (m n : descriptions.Medium) (k : Keyed) → AreWhole k → AreWholeMedium (medium_agreed side k m n)
medium_of Secure m n k is = is
medium_of Plain m n k is = is

media_whole : (side : Side) (ms ns : List descriptions.Medium) (ks : List (Option Keyed)) → AllWhole ks → AllByRecursion (Sometimes AreWholeMedium) (media_agreed side ms ns ks)
media_whole side (m ∷ ms) (n ∷ ns) (None ∷ ks) p = (tt, media_whole side ms ns ks p.1)
media_whole side (m ∷ ms) (n ∷ ns) (Some k ∷ ks) p = (medium_of side m n k p.0, media_whole side ms ns ks p.1)
media_whole side _ _ _ p = tt

answer_whole : (slot : ℕ) (o : Offer) (noise text : List ℕ) (g : AgreedAnswer) → agreed_answer slot o noise text ≡ Ok g → AllByRecursion (Sometimes AreWholeMedium) g.media
unfolding agreed_answer
answer_whole slot o noise text g e =
    let p = after_ok_is (described (other_side o.side) (Some (length o.description.media)) text) _ g e in
    let active : List Bool = actives_after o.side o.description.media p.0.media in
    let q = after_ok_is (answered_by o noise p.0 active o.keying) _ g p.2 in
    subst (λ (g : AgreedAnswer). AllByRecursion (Sometimes AreWholeMedium) g.media) (ok_is (accepted_answer slot o p.0 active q.0) g q.2)
    (media_whole o.side o.description.media p.0.media q.0.media (answered_whole o noise p.0 active o.keying q.0 q.1))

agreed_whole : (media : List (Option Medium)) → AllByRecursion (Sometimes AreWholeMedium) media → (call generation m n : ℕ) → AllByRecursion HasWholeTags (sessions_from call generation m n media)
agreed_whole media p call generation m n = each_session HasWholeTags (Sometimes AreWholeMedium) call generation
    (λ m n x is. stream_whole _ (numbered n x.from_peer.keys) x.from_peer x.window x is.0) (λ m n x is. stream_whole _ (numbered n x.to_peer.keys) x.to_peer 1024 x is.1) m n media p

manual_whole : (h : ManualCall) (call generation n : ℕ) → AllByRecursion HasWholeTags (sessions_from call generation 0 n (Some (manual_medium h) ∷ []))
manual_whole h call generation n = agreed_whole (Some (manual_medium h) ∷ []) ((of_suite h.from_peer.suite, of_suite h.to_peer.suite), tt) call generation 0 n

pub all_whole : AllHave HasWholeTags
all_whole = record {
  manual = manual_whole;
  agreed = λ slot o noise text a was e call generation n. agreed_whole a.media (answer_whole slot o noise text a e) call generation 0 n;
}

pub whole_at : (past : List Entry) (w : World) → IsKept HasWholeTags past w → HaveWholeTags w
whole_at past w kept = each_weaker _ _ (λ c k. each_weaker _ _ (λ s is. is.extra) c.sessions k.sessions) w.calls kept.calls
