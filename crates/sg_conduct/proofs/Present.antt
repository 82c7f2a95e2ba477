-- The sessions of the media that take part.
use Rattle.std.proofs.Common.{◌≡◌, inl, inr, ℕ, zero, suc, ◌+◌, ◌<◌, Bool, true, false, cond, not, ◌&&◌, eqb, ltb, List, [], ◌∷◌, ◌++◌, length, Option, Some, None, Ok, refl, sym, ap, ◌∙◌, subst, arith}
use Rattle.std.proofs.lemmas.Bool.{and_from, false≢true, lt-ltb, ne_eqb}
use Rattle.std.specs.List.{AllByRecursion, filter}
use Rattle.std.specs.Option.{is_some, option_map}
use Rattle.sg_agreement.specs.Answers.{AgreedAnswer, accepted_answer, agreed_answer, answered_by}
use Rattle.sg_agreement.specs.Described.{described}
use Rattle.sg_agreement.specs.Sides.{actives_after, is_active, is_of_side, other_side}
use Rattle.sg_agreement.specs.Sound.{AreAgreedWhereActive}
use Rattle.sg_sdp.specs.declared.medium.Medium as descriptions
use Rattle.sg_sdp.specs.declared.sdp.Sdp.{Sdp}
use Rattle.sg_gateway.proofs.Common.{Call, CallId, Direction, IsMediumAt, Key, Keyed, Medium, Offer, Opening, Plain, Rtcp, Rtp, Sealing, Secure, Session}
use Rattle.sg_gateway.proofs.Common.{Side, Stream, World, after_ok_is, any_here, any_there, call_of, described_is, description_of, media_agreed}
use Rattle.sg_gateway.proofs.Common.{medium_agreed, numbered, ok_is, owner_at, same_id, sessions_from, stream_session, stream_sessions}
use Rattle.sg_gateway.proofs.Addressed.{IsAnswered, answered_now}
use Rattle.sg_gateway.proofs.Agreements.{Agreements}
use Rattle.sg_gateway.proofs.CarriedOut.{stays}
use Rattle.sg_gateway.proofs.Kept.{IsOffered, WasOffered}
use Rattle.sg_gateway.proofs.Signals.{found}
use Rattle.sg_gateway.specs.Signals.{Answered, answer_to}
use Rattle.sg_gateway.proofs.Lists.{any_first, any_second}
use Rattle.sg_conduct.specs.Present.{HasProfileOf, HasSession, HasSessions, MediaHaveSessions, TakesPart}

-- ---- what takes part is active

profile_is : (side : Side) (m : descriptions.Medium) → HasProfileOf side m.profile → is_of_side side m.profile ≡ true
profile_is Secure m (inl is) = ap (is_of_side Secure) is
profile_is Secure m (inr is) = ap (is_of_side Secure) is
profile_is Plain m (inl is) = ap (is_of_side Plain) is
profile_is Plain m (inr is) = ap (is_of_side Plain) is

pub takes_active : (side : Side) (m : descriptions.Medium) → TakesPart side m → is_active side m ≡ true
takes_active side m is = and_from (not (eqb m.port 0)) (is_of_side side m.profile) (ap not (ne_eqb m.port 0 is.0)) (profile_is side m is.1)

-- ---- media that are agreed

abbrev HasRtcp : descriptions.Medium → descriptions.Medium → Medium → Type 0
HasRtcp m n y = m.port < 65535 → n.port < 65535 → y.has_rtcp ≡ true

-- what takes part in both is agreed, with RTCP where both ports allow it
abbrev AreThere : Side → List descriptions.Medium → List descriptions.Medium → List (Option Medium) → Type 0
AreThere side [] [] [] = Unit {0}
AreThere side (m ∷ ms) (n ∷ ns) (x ∷ xs) = (TakesPart side m → TakesPart (other_side side) n → (y : Medium) × (x ≡ Some y) × HasRtcp m n y) × AreThere side ms ns xs
AreThere side _ _ _ = ⊥

rtcp_is : (side : Side) (k : Keyed) (m n : descriptions.Medium) → HasRtcp m n (medium_agreed side k m n)
rtcp_is Secure k m n a b = and_from (ltb m.port 65535) (ltb n.port 65535) (lt-ltb m.port 65535 a) (lt-ltb n.port 65535 b)
rtcp_is Plain k m n a b = and_from (ltb n.port 65535) (ltb m.port 65535) (lt-ltb n.port 65535 b) (lt-ltb m.port 65535 a)

agreed_there : (side : Side) (m n : descriptions.Medium) (k : Option Keyed) → is_some (option_map (λ k. medium_agreed side k m n) k) ≡ (is_active side m && is_active (other_side side) n)
    → TakesPart side m → TakesPart (other_side side) n → (y : Medium) × (option_map (λ k. medium_agreed side k m n) k ≡ Some y) × HasRtcp m n y
agreed_there side m n None are a b = absurd (false≢true (are ∙ and_from (is_active side m) (is_active (other_side side) n) (takes_active side m a) (takes_active (other_side side) n b)))
agreed_there side m n (Some k) are a b = (medium_agreed side k m n, refl, rtcp_is side k m n)

media_there : (side : Side) (ms ns : List descriptions.Medium) (ks : List (Option Keyed)) → AreAgreedWhereActive side ms ns (media_agreed side ms ns ks) → AreThere side ms ns (media_agreed side ms ns ks)
media_there side [] [] ks are = tt
media_there side [] (n ∷ ns) ks are = absurd are
media_there side (m ∷ ms) [] ks are = absurd are
media_there side (m ∷ ms) (n ∷ ns) [] are = absurd are
media_there side (m ∷ ms) (n ∷ ns) (k ∷ ks) are = (agreed_there side m n k are.0, media_there side ms ns ks are.1)

pub record IsAgreement (o : Offer) (text : List ℕ) (g : AgreedAnswer) : Type 0 where
  pub answer : Sdp
  pub read : description_of text ≡ Ok answer
  pub keyed : List (Option Keyed)
  pub media : media_agreed o.side o.description.media answer.media keyed ≡ g.media

pub agreement_is : (slot : ℕ) (o : Offer) (noise text : List ℕ) (g : AgreedAnswer) → agreed_answer slot o noise text ≡ Ok g → IsAgreement o text g
unfolding agreed_answer
agreement_is slot o noise text g e =
    let p = after_ok_is (described (other_side o.side) (Some (length o.description.media)) text) _ g e in
    let active : List Bool = actives_after o.side o.description.media p.0.media in
    let q = after_ok_is (answered_by o noise p.0 active o.keying) _ g p.2 in
    record {
      answer = p.0;
      read = described_is (other_side o.side) (Some (length o.description.media)) text p.0 p.1;
      keyed = q.0.media;
      media = ap (λ (g : AgreedAnswer). g.media) (ok_is (accepted_answer slot o p.0 active q.0) g q.2);
    }

-- what is agreed of an answer, is so exactly of the media that are active in both
pub agreed_active : Agreements → (slot : ℕ) (o : Offer) (noise text : List ℕ) (g : AgreedAnswer) (answer : Sdp) → WasOffered o → agreed_answer slot o noise text ≡ Ok g → description_of text ≡ Ok answer
    → AreAgreedWhereActive o.side o.description.media answer.media g.media
agreed_active laws slot o noise text g answer was e read =
    let a = laws.answered was.hand was.way was.text noise text slot was.accepted g was.agreed (ap (λ (o : Offer). agreed_answer slot o noise text) was.same ∙ e) in
    subst (λ (s : Sdp). AreAgreedWhereActive o.side o.description.media s.media g.media) (ok_is a.0 answer (sym a.1 ∙ read))
    (subst (λ (o : Offer). AreAgreedWhereActive o.side o.description.media a.0.media g.media) was.same a.2)

answer_there : Agreements → (slot : ℕ) (o : Offer) (noise text : List ℕ) (g : AgreedAnswer) (answer : Sdp) → WasOffered o → agreed_answer slot o noise text ≡ Ok g → description_of text ≡ Ok answer
    → AreThere o.side o.description.media answer.media g.media
answer_there laws slot o noise text g answer was e read =
    let is = agreement_is slot o noise text g e in
    let same : is.answer ≡ answer = ok_is is.answer answer (sym is.read ∙ read) in
    let active : AreAgreedWhereActive o.side o.description.media is.answer.media (media_agreed o.side o.description.media is.answer.media is.keyed) =
    subst (AreAgreedWhereActive o.side o.description.media is.answer.media) (sym is.media) (agreed_active laws slot o noise text g is.answer was e is.read) in
    subst (λ (s : Sdp). AreThere o.side o.description.media s.media g.media) same
    (subst (AreThere o.side o.description.media is.answer.media) is.media (media_there o.side o.description.media is.answer.media is.keyed active))

-- ---- their sessions

module _ (call generation : ℕ) (a b : descriptions.Medium) where
  before : (medium : ℕ) (xs ys : List Session) → HasSessions ys call generation medium a b → HasSessions (xs ++ ys) call generation medium a b
  before medium xs ys is = record {
    opens = any_second _ xs ys is.opens;
    seals = any_second _ xs ys is.seals;
    opens_rtcp = λ p q. any_second _ xs ys (is.opens_rtcp p q);
    seals_rtcp = λ p q. any_second _ xs ys (is.seals_rtcp p q);
  }

  behind : (medium : ℕ) (xs ys : List Session) → HasSessions xs call generation medium a b → HasSessions (xs ++ ys) call generation medium a b
  behind medium xs ys is = record {
    opens = any_first _ xs ys is.opens;
    seals = any_first _ xs ys is.seals;
    opens_rtcp = λ p q. any_first _ xs ys (is.opens_rtcp p q);
    seals_rtcp = λ p q. any_first _ xs ys (is.seals_rtcp p q);
  }

  streams_have : (medium : ℕ) (direction : Direction) (keys : List Key) (st : Stream) (window : ℕ) (x : Medium) → HasRtcp a b x
      → HasSession (stream_sessions (owner_at call generation medium direction) keys st window x) call generation medium direction Rtp
      × (a.port < 65535 → b.port < 65535 → HasSession (stream_sessions (owner_at call generation medium direction) keys st window x) call generation medium direction Rtcp)
  streams_have medium direction keys st window x rtcp = (
    any_here _ _ _ refl,
    λ p q. any_there _ _ _ (rtcp_in x.has_rtcp (rtcp p q)),
  )
    where
      rtcp_in : (on : Bool) → on ≡ true
          → HasSession (cond on (stream_session (owner_at call generation medium direction) keys st window x Rtcp st.encrypts_rtcp 10 ∷ []) []) call generation medium direction Rtcp
      rtcp_in true is = any_here (λ s. s.name ≡ record { owner = owner_at call generation medium direction; kind = Rtcp }) (stream_session (owner_at call generation medium direction) keys st window x Rtcp st.encrypts_rtcp 10) [] refl
      rtcp_in false is = absurd (false≢true is)

  both_have : (medium n : ℕ) (x : Medium) (later : List Session) → HasRtcp a b x
      → HasSessions (stream_sessions (owner_at call generation medium Opening) (numbered n x.from_peer.keys) x.from_peer x.window x
      ++ (stream_sessions (owner_at call generation medium Sealing) (numbered (n + length x.from_peer.keys) x.to_peer.keys) x.to_peer 1024 x ++ later)) call generation medium a b
  both_have medium n x later rtcp =
      let opening : List Session = stream_sessions (owner_at call generation medium Opening) (numbered n x.from_peer.keys) x.from_peer x.window x in
      let sealing : List Session = stream_sessions (owner_at call generation medium Sealing) (numbered (n + length x.from_peer.keys) x.to_peer.keys) x.to_peer 1024 x in
      let o = streams_have medium Opening (numbered n x.from_peer.keys) x.from_peer x.window x rtcp in
      let s = streams_have medium Sealing (numbered (n + length x.from_peer.keys) x.to_peer.keys) x.to_peer 1024 x rtcp in
      record {
        opens = any_first _ opening (sealing ++ later) o.0;
        seals = any_second _ opening (sealing ++ later) (any_first _ sealing later s.0);
        opens_rtcp = λ p q. any_first _ opening (sealing ++ later) (o.1 p q);
        seals_rtcp = λ p q. any_second _ opening (sealing ++ later) (any_first _ sealing later (s.1 p q));
      }

  module _ (side : Side) (takes : TakesPart side a) (answers : TakesPart (other_side side) b) where
    sessions_there : (ms ns : List descriptions.Medium) (xs : List (Option Medium)) → AreThere side ms ns xs → (k : ℕ) → IsMediumAt ms k a → IsMediumAt ns k b → (first n : ℕ)
        → HasSessions (sessions_from call generation first n xs) call generation (first + k) a b
    sessions_there [] ns xs are k in_offer in_answer first n = absurd (let lt = in_offer.0 in omega (arith, lt))
    sessions_there (m ∷ ms) [] xs are k in_offer in_answer first n = absurd (let lt = in_answer.0 in omega (arith, lt))
    sessions_there (m ∷ ms) (o ∷ ns) [] are k in_offer in_answer first n = absurd are
    sessions_there (m ∷ ms) (o ∷ ns) (x ∷ xs) are zero in_offer in_answer first n =
        let of_offer : m ≡ a = in_offer.1 in
        let of_answer : o ≡ b = in_answer.1 in
        let is = are.0 (subst (TakesPart side) (sym of_offer) takes) (subst (TakesPart (other_side side)) (sym of_answer) answers) in
        let rtcp : HasRtcp a b is.0 = subst (λ m. HasRtcp m b is.0) of_offer (subst (λ o. HasRtcp m o is.0) of_answer is.2) in
        let place : first ≡ first + zero = omega arith in
        subst (λ k. HasSessions (sessions_from call generation first n (x ∷ xs)) call generation k a b) place
        (subst (λ x. HasSessions (sessions_from call generation first n (x ∷ xs)) call generation first a b) (sym is.1) (both_have first n is.0 _ rtcp))
    sessions_there (m ∷ ms) (o ∷ ns) (None ∷ xs) are (suc k) in_offer in_answer first n =
        let place : first + 1 + k ≡ first + suc k = omega arith in
        subst (λ k. HasSessions (sessions_from call generation first n (None ∷ xs)) call generation k a b) place
        (sessions_there ms ns xs are.1 k ((let lt = in_offer.0 in omega (arith, lt)), in_offer.1) ((let lt = in_answer.0 in omega (arith, lt)), in_answer.1) (first + 1) n)
    sessions_there (m ∷ ms) (o ∷ ns) (Some x ∷ xs) are (suc k) in_offer in_answer first n =
        let opening : List Session = stream_sessions (owner_at call generation first Opening) (numbered n x.from_peer.keys) x.from_peer x.window x in
        let sealing : List Session = stream_sessions (owner_at call generation first Sealing) (numbered (n + length x.from_peer.keys) x.to_peer.keys) x.to_peer 1024 x in
        let later : List Session = sessions_from call generation (first + 1) (n + length x.from_peer.keys + length x.to_peer.keys) xs in
        let place : first + 1 + k ≡ first + suc k = omega arith in
        subst (λ k. HasSessions (sessions_from call generation first n (Some x ∷ xs)) call generation k a b) place
        (before (first + 1 + k) opening (sealing ++ later) (before (first + 1 + k) sealing later
        (sessions_there ms ns xs are.1 k ((let lt = in_offer.0 in omega (arith, lt)), in_offer.1) ((let lt = in_answer.0 in omega (arith, lt)), in_answer.1) (first + 1) (n + length x.from_peer.keys + length x.to_peer.keys))))

-- ---- an answer

-- the sessions that are made of an answer
pub new_therein : (laws : Agreements) (c : Call) (o : Offer) (noise text : List ℕ) (g : AgreedAnswer) (answer : Sdp) → WasOffered o → agreed_answer c.slot o noise text ≡ Ok g → description_of text ≡ Ok answer
    → (number : ℕ) → MediaHaveSessions o answer c.generations (record c { generations = c.generations + 1; sessions = sessions_from c.serial c.generations 0 number g.media })
new_therein laws c o noise text g answer was agreed read number medium m n in_offer in_answer takes answers =
    let are = answer_there laws c.slot o noise text g answer was agreed read in
    subst (λ (k : ℕ). HasSessions (sessions_from c.serial c.generations 0 number g.media) c.serial c.generations k m n) (let e : 0 + medium ≡ medium = omega arith in e)
    (sessions_there c.serial c.generations m n o.side takes answers o.description.media answer.media g.media are medium in_offer in_answer 0 number)

module _ (laws : Agreements) (w : World) (offered_are : AllByRecursion (λ c. IsOffered c.offer) w.calls) (id : CallId) (noise text : List ℕ) (c : Call) (o : Offer)
    (is : call_of w id ≡ Some c) (open_one : c.offer ≡ Some o) (answer : Sdp) (read : description_of text ≡ Ok answer) where
  was : WasOffered o
  was = subst IsOffered open_one (found (λ c. IsOffered c.offer) (λ x. same_id x.id id) w.calls c is offered_are)

  therein : (d : Call) → IsAnswered c d o noise text → MediaHaveSessions o answer c.generations d
  therein d a medium m n in_offer in_answer takes answers =
      let new : List Session = sessions_from c.serial c.generations 0 a.number a.agreement.media in
      let old : List Session = filter (stays c) c.sessions in
      subst (λ (n' : ℕ). HasSessions d.sessions n' c.generations medium m n) (sym a.serial)
      (subst (λ (ss : List Session). HasSessions ss c.serial c.generations medium m n) (sym a.sessions)
      (behind c.serial c.generations m n medium new old
      (new_therein laws c o noise text a.agreement answer was a.agreed read a.number medium m n in_offer in_answer takes answers)))

  pub answer_therein : (d : Call) → call_of (answer_to w (Answered id noise text)).world id ≡ Some d → d.generations ≡ c.generations + 1 → MediaHaveSessions o answer c.generations d
  answer_therein d at more = therein d (answered_now w id noise text c o is open_one d at more)
