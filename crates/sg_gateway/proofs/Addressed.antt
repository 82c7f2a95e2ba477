-- The sessions of an answer's generation have the addresses of its texts.
use Rattle.std.proofs.Common.{◌≡◌, ℕ, ◌+◌, List, [], ◌∷◌, ◌++◌, length, Option, Some, None, Ok, refl, sym, ap, ◌∙◌, subst, arith, Bool, true, false, cond, ◌&&◌}
use Rattle.sg_agreement.specs.Answers.{AgreedAnswer, agreed_answer, accepted_answer, answered_by}
use Rattle.sg_sdp.specs.declared.medium.Medium as descriptions
use Rattle.sg_sdp.specs.declared.sdp.Sdp.{Sdp}
use Rattle.sg_gateway.proofs.Common.{All, All-from_recursion, AllByRecursion, AtHand, Call, CallId, Key, Medium, Offer, Opening, Owner, Plain, Sealing, Secure}
use Rattle.sg_gateway.proofs.Common.{Session, Side, Stream, Way, World, actives_after, after_ok_is, call_of, description_of, each_weaker, filter, is_active}
use Rattle.sg_gateway.proofs.Common.{numbered, ok_is, other_side, owner_at, same_id, sessions_from, side_of, some_is, stop_if_is, stream_sessions}
use Rattle.sg_gateway.proofs.CarriedOut.{found_with, id_found, stays, of_generation}
use Rattle.sg_gateway.proofs.Kept.{IsOffered, WasOffered}
use Rattle.sg_gateway.proofs.MediaOver.{MediaFrom}
use Rattle.sg_gateway.proofs.MediaSessions.{IsFrom, all_from, each_stream}
use Rattle.sg_gateway.proofs.Signals.{found}
use Rattle.sg_gateway.proofs.StepCases.{answer_of, renewed_by}
use Rattle.sg_gateway.specs.Addressed.{IsBetween, IsMediumAt, HasAddresses, IsAddressOf}
use Rattle.sg_gateway.specs.Signals.{Answered, answer_to}
use Rattle.std.proofs.lemmas.Bool.{and_parts}
use Rattle.std.specs.Option.{is_none, is_some, option_map, option_map_or}
use Rattle.sg_base.specs.declared.faults.Refusal.TheVariants.{MediaCount, NoMedia}
use Rattle.sg_agreement.proofs.AllAgreed.{answered_all, offer_whole, there}
use Rattle.sg_agreement.proofs.FewMedia.{described_is, described_count}
use Rattle.sg_agreement.specs.Described.{described, is_other_count, of_text, unaddressed, with_addresses}
use Rattle.sg_agreement.specs.Keyed.{Keyed, address_of, media_agreed, medium_agreed}
use Rattle.sg_agreement.specs.Offers.{AgreedOffer, agreed_offer, keying_of}

-- ---- each medium that is agreed is between the ends that the two texts name

abbrev pub IsAgreedBetween : Side → descriptions.Medium → descriptions.Medium → Option Medium → Type 0
IsAgreedBetween side m n None = Unit {0}
IsAgreedBetween side m n (Some x) = IsBetween side m n x.secure x.plain

-- Offer and answer have as many media, and each that is agreed is between that of the offer from this side and that of
-- the answer.
abbrev pub AreBetween : Side → List descriptions.Medium → List descriptions.Medium → List (Option Medium) → Type 0
AreBetween side [] [] [] = Unit {0}
AreBetween side (m ∷ ms) (n ∷ ns) (x ∷ xs) = IsAgreedBetween side m n x × AreBetween side ms ns xs
AreBetween side _ _ _ = ⊥

-- each active medium has an address
abbrev HaveAddresses : Side → List descriptions.Medium → Type 0
HaveAddresses side ms = AllByRecursion (λ m. is_active side m ≡ true → is_none m.address ≡ false) ms

all_addressed : (side : Side) (n : ℕ) (ms : List descriptions.Medium) → unaddressed side n ms ≡ None → HaveAddresses side ms
all_addressed side n [] e = tt
all_addressed side n (m ∷ ms) e = go (is_active side m) (is_none m.address) (all_addressed side (n + 1 + length m.lines) ms) e
  where
    go : (on none : Bool) → (unaddressed side (n + 1 + length m.lines) ms ≡ None → HaveAddresses side ms)
        → cond (on && none) (Some n) (unaddressed side (n + 1 + length m.lines) ms) ≡ None → (on ≡ true → none ≡ false) × HaveAddresses side ms
    go true true rest e = absurd cc
    go true false rest e = ((λ on. refl), rest e)
    go false none rest e = ((λ on. absurd cc), rest e)

with_addresses_is : (s t : Sdp) (o : Option ℕ) → with_addresses s o ≡ Ok t → (o ≡ None) × (s ≡ t)
with_addresses_is s t None e = (refl, ok_is s t e)
with_addresses_is s t (Some n) e = absurd cc

described_addressed : (side : Side) (count : Option ℕ) (text : List ℕ) (s : Sdp) → described side count text ≡ Ok s → HaveAddresses side s.media
unfolding described
described_addressed side count text s e =
    let a = after_ok_is (of_text (description_of text)) _ s e in
    let b = after_ok_is (with_addresses a.0 (unaddressed side (length a.0.session + 1) a.0.media)) _ s a.2 in
    let c = stop_if_is _ NoMedia _ s b.2 in
    let d = stop_if_is (is_other_count count (length b.0.media)) MediaCount (Ok b.0) s c.1 in
    let w = with_addresses_is a.0 b.0 (unaddressed side (length a.0.session + 1) a.0.media) b.1 in
    subst (λ (s : Sdp). HaveAddresses side s.media) (w.1 ∙ ok_is b.0 s d.1) (all_addressed side (length a.0.session + 1) a.0.media w.0)

-- ---- a medium's ends

end_is : (m : descriptions.Medium) → is_none m.address ≡ false → IsAddressOf (address_of m) m
end_is m some = record { ip = go m.address some; port = refl }
  where
    go : (o : Option (List ℕ)) → is_none o ≡ false → o ≡ Some (option_map_or (λ ip. ip) o [])
    go None some = absurd cc
    go (Some ip) some = refl

ends_are : (side : Side) (k : Keyed) (m n : descriptions.Medium) → is_none m.address ≡ false → is_none n.address ≡ false → IsBetween side m n (medium_agreed side k m n).secure (medium_agreed side k m n).plain
ends_are Secure k m n of_m of_n = (end_is m of_m, end_is n of_n)
ends_are Plain k m n of_m of_n = (end_is n of_n, end_is m of_m)

agreed_between : (side : Side) (m n : descriptions.Medium) (k : Option Keyed) (p : is_active side m ≡ true → is_none m.address ≡ false) (q : is_active (other_side side) n ≡ true → is_none n.address ≡ false)
    → is_some k ≡ (is_active side m && is_active (other_side side) n) → IsAgreedBetween side m n (option_map (λ k. medium_agreed side k m n) k)
agreed_between side m n None p q is = tt
agreed_between side m n (Some k) p q is =
    let on = and_parts (is_active side m) (is_active (other_side side) n) (sym is) in
    ends_are side k m n (p on.0) (q on.1)

all_between : (side : Side) (ms ns : List descriptions.Medium) (ks : List (Option Keyed)) → length ns ≡ length ms → HaveAddresses side ms → HaveAddresses (other_side side) ns
    → there ks ≡ actives_after side ms ns → AreBetween side ms ns (media_agreed side ms ns ks)
all_between side [] [] ks long p q are = tt
all_between side [] (n ∷ ns) ks long p q are = absurd (omega (arith, long))
all_between side (m ∷ ms) [] ks long p q are = absurd (omega (arith, long))
all_between side (m ∷ ms) (n ∷ ns) [] long p q are = absurd cc
all_between side (m ∷ ms) (n ∷ ns) (k ∷ ks) long p q are =
    let this : is_some k ≡ (is_active side m && is_active (other_side side) n) = cc in
    let others : there ks ≡ actives_after side ms ns = cc in
    (agreed_between side m n k p.0 q.0 this, all_between side ms ns ks (omega (arith, long)) p.1 q.1 others)

-- ---- an offer and its answer

offer_addressed : (h : AtHand) (way : Way) (text : List ℕ) (a : AgreedOffer) → agreed_offer h way text ≡ Ok a → HaveAddresses a.offer.side a.offer.description.media
unfolding agreed_offer
offer_addressed h way text a e =
    let p = after_ok_is (described (side_of way) h.media text) _ a e in
    let q = after_ok_is (keying_of h p.0 way) _ a p.2 in
    subst (λ (a : AgreedOffer). HaveAddresses a.offer.side a.offer.description.media) (ok_is _ a q.2) (described_addressed (side_of way) h.media text p.0 p.1)

abbrev IsAnswerBetween : Offer → List ℕ → AgreedAnswer → Type 0
IsAnswerBetween o text g = (s : Sdp) × (description_of text ≡ Ok s) × AreBetween o.side o.description.media s.media g.media

pub answer_between : (h : AtHand) (way : Way) (offered noise text : List ℕ) (slot : ℕ) (a : AgreedOffer) (g : AgreedAnswer) → agreed_offer h way offered ≡ Ok a → agreed_answer slot a.offer noise text ≡ Ok g
    → (s : Sdp) × (description_of text ≡ Ok s) × AreBetween a.offer.side a.offer.description.media s.media g.media
unfolding agreed_answer
answer_between h way offered noise text slot a g made e =
    let o : Offer = a.offer in
    let count : ℕ = length o.description.media in
    let p = after_ok_is (described (other_side o.side) (Some count) text) _ g e in
    let active : List Bool = actives_after o.side o.description.media p.0.media in
    let q = after_ok_is (answered_by o noise p.0 active o.keying) _ g p.2 in
    let keyed = answered_all o noise p.0 o.keying q.0 (offer_whole h way offered a made) q.1 in
    subst (IsAnswerBetween o text) (ok_is (accepted_answer slot o p.0 active q.0) g q.2) (
      p.0,
      described_is (other_side o.side) (Some count) text p.0 p.1,
      all_between o.side o.description.media p.0.media q.0.media (described_count (other_side o.side) count text p.0 p.1)
          (offer_addressed h way offered a made) (described_addressed (other_side o.side) (Some count) text p.0 p.1) keyed,
    )

-- ---- the sessions of media, from one on

-- whatever holds of the sessions of each medium, by what the two texts describe of it
module _ (P : descriptions.Medium → descriptions.Medium → Session → Type 0) where
  -- it holds by its medium, where the media begin at that of number k
  pub record HoldsFrom (k : ℕ) (ms ns : List descriptions.Medium) (s : Session) : Type 0 where
    pub of_offer : descriptions.Medium
    pub of_answer : descriptions.Medium
    pub at : ℕ
    pub place : s.name.owner.medium ≡ k + at
    pub in_offer : IsMediumAt ms at of_offer
    pub in_answer : IsMediumAt ns at of_answer
    pub has : P of_offer of_answer s

  abbrev OfStreams : descriptions.Medium → descriptions.Medium → Option Medium → Type 0
  OfStreams m n None = Unit {0}
  OfStreams m n (Some x) = (owner : Owner) (keys : List Key) (st : Stream) (window : ℕ) → AllByRecursion (P m n) (stream_sessions owner keys st window x)

  -- of the sessions of each medium that is agreed
  abbrev pub OfEach : List descriptions.Medium → List descriptions.Medium → List (Option Medium) → Type 0
  OfEach [] [] [] = Unit {0}
  OfEach (m ∷ ms) (n ∷ ns) (x ∷ xs) = OfStreams m n x × OfEach ms ns xs
  OfEach _ _ _ = ⊥

  as_media : (ms ns : List descriptions.Medium) (xs : List (Option Medium)) → OfEach ms ns xs → (others : ℕ) → MediaFrom Plain (λ others m n t x. OfStreams m n (Some x)) others ms ns ns xs
  as_media [] [] [] are others = tt
  as_media (m ∷ ms) (n ∷ ns) (x ∷ xs) are others = ((λ y same. subst (OfStreams m n) same are.0), as_media ms ns xs are.1 _)
  as_media _ _ _ are others = absurd are

  pub each_from : (call generation k number : ℕ) (ms ns : List descriptions.Medium) (xs : List (Option Medium)) → OfEach ms ns xs
      → AllByRecursion (HoldsFrom k ms ns) (sessions_from call generation k number xs)
  each_from call generation k number ms ns xs are =
      each_weaker (IsFrom Plain (λ others m n t x. OfStreams m n (Some x)) (λ others m n t s. P m n s) k 0 ms ns ns) (HoldsFrom k ms ns)
      (λ s is. record { of_offer = is.offered; of_answer = is.answered; at = is.at; place = is.place; in_offer = is.in_offer; in_answer = is.in_answer; has = is.is }) (sessions_from call generation k number xs)
      (all_from Plain (λ others m n t x. OfStreams m n (Some x)) (λ others m n t s. P m n s) (λ others m n t call generation k number x q. (
        q (owner_at call generation k Opening) (numbered number x.from_peer.keys) x.from_peer x.window,
        q (owner_at call generation k Sealing) (numbered (number + length x.from_peer.keys) x.to_peer.keys) x.to_peer 1024,
      )) call generation k number 0 ms ns ns xs (as_media ms ns xs are 0))

-- ---- their addresses

module _ (side : Side) where
  abbrev Between : descriptions.Medium → descriptions.Medium → Session → Type 0
  Between m n s = IsBetween side m n s.secure s.plain

  streams_between : (m n : descriptions.Medium) (x : Medium) → IsBetween side m n x.secure x.plain → (owner : Owner) (keys : List Key) (st : Stream) (window : ℕ)
      → AllByRecursion (Between m n) (stream_sessions owner keys st window x)
  streams_between m n x is owner keys st window = each_stream (Between m n) owner keys st window x is (λ on. is)

  each_between : (ms ns : List descriptions.Medium) (xs : List (Option Medium)) → AreBetween side ms ns xs → OfEach Between ms ns xs
  each_between [] [] [] are = tt
  each_between (m ∷ ms) (n ∷ ns) (None ∷ xs) are = (tt, each_between ms ns xs are.1)
  each_between (m ∷ ms) (n ∷ ns) (Some x ∷ xs) are = (streams_between m n x are.0, each_between ms ns xs are.1)
  each_between _ _ _ are = absurd are

  -- from the first medium on
  from_first : (ms ns : List descriptions.Medium) (s : Session) → HoldsFrom Between 0 ms ns s → HasAddresses side ms ns s
  from_first ms ns s is =
      let same : is.at ≡ s.name.owner.medium = (let e = is.place in omega (arith, e)) in
      record {
        of_offer = is.of_offer;
        of_answer = is.of_answer;
        in_offer = subst (λ k. IsMediumAt ms k is.of_offer) same is.in_offer;
        in_answer = subst (λ k. IsMediumAt ns k is.of_answer) same is.in_answer;
        between = is.has;
      }

-- ---- an answer

-- the call with the sessions of this agreement, and behind them what stays of the generation before
pub record IsAnswered (c d : Call) (o : Offer) (noise text : List ℕ) : Type 0 where
  pub serial : d.serial ≡ c.serial
  pub id : d.id ≡ c.id
  pub generations : d.generations ≡ c.generations + 1
  pub agreement : AgreedAnswer
  pub agreed : agreed_answer c.slot o noise text ≡ Ok agreement
  pub number : ℕ
  pub sessions : d.sessions ≡ sessions_from c.serial c.generations 0 number agreement.media ++ filter (stays c) c.sessions

-- a call that has one generation more after an answer was renewed by it
pub answered_now : (w : World) (id : CallId) (noise text : List ℕ) (c : Call) (o : Offer) → call_of w id ≡ Some c → c.offer ≡ Some o
    → (d : Call) → call_of (answer_to w (Answered id noise text)).world id ≡ Some d → d.generations ≡ c.generations + 1 → IsAnswered c d o noise text
answered_now w id noise text c o is open_one d at more = answer_of w id noise text c (λ a. call_of a.world id ≡ Some d → IsAnswered c d o noise text)
    (λ cause at. let same = ap (λ (x : Call). x.generations) (some_is c d (sym is ∙ at)) in absurd (omega (arith, same, more)))
    (λ p is_open g agreed ring installs at.
    let e : Call = (renewed_by w.moment w.books c g.text g.media ring).call in
    let one : p ≡ o = some_is p o (sym is_open ∙ open_one) in
    subst (λ (d : Call). IsAnswered c d o noise text) (some_is e d (sym (found_with id c e w.calls refl (id_found id c w.calls is) is) ∙ at)) (record {
      serial = refl;
      id = refl;
      generations = refl;
      agreement = g;
      agreed = ap (λ (o : Offer). agreed_answer c.slot o noise text) (sym one) ∙ agreed;
      number = length w.books.ring;
      sessions = refl;
    }))
    is at

abbrev pub AreAddressed : Offer → List ℕ → Call → Type 0
AreAddressed o text d =
    (answer : Sdp) × (description_of text ≡ Ok answer)
    × All (λ s. s.name.owner.generation + 1 ≡ d.generations → HasAddresses o.side o.description.media answer.media s) d.sessions

answered_between : (c d : Call) (o : Offer) (noise text : List ℕ) → WasOffered o → IsAnswered c d o noise text → AreAddressed o text d
answered_between c d o noise text was is =
    let b = answer_between was.hand was.way was.text noise text c.slot was.accepted is.agreement was.agreed (ap (λ (o : Offer). agreed_answer c.slot o noise text) was.same ∙ is.agreed) in
    let between : AreBetween o.side o.description.media b.0.media is.agreement.media = subst (λ (o : Offer). AreBetween o.side o.description.media b.0.media is.agreement.media) was.same b.2 in
    let new : List Session = sessions_from c.serial c.generations 0 is.number is.agreement.media in (
      b.0,
      b.1,
      All-from_recursion _ d.sessions (of_generation c d new (HasAddresses o.side o.description.media b.0.media) is.sessions is.generations
          (each_weaker (HoldsFrom (Between o.side) 0 o.description.media b.0.media) (HasAddresses o.side o.description.media b.0.media) (from_first o.side o.description.media b.0.media) new
          (each_from (Between o.side) c.serial c.generations 0 is.number o.description.media b.0.media is.agreement.media (each_between o.side o.description.media b.0.media is.agreement.media between)))),
    )

module _ (w : World) (offered_are : AllByRecursion (λ c. IsOffered c.offer) w.calls) (id : CallId) (noise text : List ℕ) (c : Call) (o : Offer)
    (is : call_of w id ≡ Some c) (open_one : c.offer ≡ Some o) where
  was : WasOffered o
  was = subst IsOffered open_one (found (λ c. IsOffered c.offer) (λ x. same_id x.id id) w.calls c is offered_are)

  pub answer_addresses : (d : Call) → call_of (answer_to w (Answered id noise text)).world id ≡ Some d → d.generations ≡ c.generations + 1 → AreAddressed o text d
  answer_addresses d at more = answered_between c d o noise text was (answered_now w id noise text c o is open_one d at more)
