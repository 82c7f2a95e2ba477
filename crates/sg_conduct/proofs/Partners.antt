-- An answer makes no session of a medium that takes no part.
use Rattle.std.proofs.Common.{◌≡◌, ℕ, ◌+◌, ◌<◌, Bool, true, false, cond, ◌&&◌, ltb, List, [], ◌∷◌, Option, Some, None, Ok, refl, sym, ap, ◌∙◌, subst, arith}
use Rattle.std.proofs.lemmas.Bool.{and_parts, ltb-true}
use Rattle.std.specs.List.{AllByRecursion}
use Rattle.std.specs.Option.{is_some, option_map}
use Rattle.sg_agreement.specs.Answers.{AgreedAnswer, agreed_answer}
use Rattle.sg_agreement.specs.Sound.{AreAgreedWhereActive}
use Rattle.sg_sdp.specs.declared.medium.Medium as descriptions
use Rattle.sg_sdp.specs.declared.sdp.Sdp.{Sdp}
use Rattle.sg_gateway.proofs.Common.{Call, CallId, IsMediumAt, Key, Keyed, Medium, Offer, Owner, Plain, Rtcp, Secure, Session, Side, Stream, World, call_of}
use Rattle.sg_gateway.proofs.Common.{description_of, each_weaker, is_active, media_agreed, medium_agreed, ok_is, other_side, same_id, sessions_from, some_is}
use Rattle.sg_gateway.proofs.Common.{stream_session, stream_sessions}
use Rattle.sg_gateway.proofs.Addressed.{HoldsFrom, OfEach, answered_now, each_from}
use Rattle.sg_gateway.proofs.Agreements.{Agreements}
use Rattle.sg_gateway.proofs.CarriedOut.{of_generation}
use Rattle.sg_gateway.proofs.Kept.{IsOffered, WasOffered}
use Rattle.sg_gateway.proofs.Signals.{found}
use Rattle.sg_gateway.specs.Signals.{Answered, answer_to}
use Rattle.sg_conduct.proofs.Offers.{active_takes}
use Rattle.sg_conduct.proofs.Present.{agreement_is}
use Rattle.sg_conduct.specs.Present.{IsOfPartners, TakesPart}

-- ---- media that are agreed

abbrev IsPartner : Side → descriptions.Medium → descriptions.Medium → Medium → Type 0
IsPartner side m n x = TakesPart side m × TakesPart (other_side side) n × (x.has_rtcp ≡ true → (m.port < 65535) × (n.port < 65535))

abbrev ArePartners : Side → List descriptions.Medium → List descriptions.Medium → List (Option Medium) → Type 0
ArePartners side (m ∷ ms) (n ∷ ns) (x ∷ xs) = ((y : Medium) → x ≡ Some y → IsPartner side m n y) × ArePartners side ms ns xs
ArePartners side [] [] [] = Unit {0}
ArePartners side _ _ _ = ⊥

rtcp_ports : (side : Side) (k : Keyed) (m n : descriptions.Medium) → (medium_agreed side k m n).has_rtcp ≡ true → (m.port < 65535) × (n.port < 65535)
rtcp_ports Secure k m n e = let p = and_parts (ltb m.port 65535) (ltb n.port 65535) e in (ltb-true m.port 65535 p.0, ltb-true n.port 65535 p.1)
rtcp_ports Plain k m n e = let p = and_parts (ltb n.port 65535) (ltb m.port 65535) e in (ltb-true m.port 65535 p.1, ltb-true n.port 65535 p.0)

one_partner : (side : Side) (m n : descriptions.Medium) (k : Option Keyed) → is_some (option_map (λ k. medium_agreed side k m n) k) ≡ (is_active side m && is_active (other_side side) n)
    → (y : Medium) → option_map (λ k. medium_agreed side k m n) k ≡ Some y → IsPartner side m n y
one_partner side m n None are y e = absurd cc
one_partner side m n (Some k) are y e =
    let p = and_parts (is_active side m) (is_active (other_side side) n) (sym are) in (
      active_takes side m p.0,
      active_takes (other_side side) n p.1,
      λ on. rtcp_ports side k m n (ap (λ (x : Medium). x.has_rtcp) (some_is (medium_agreed side k m n) y e) ∙ on),
    )

all_partners : (side : Side) (ms ns : List descriptions.Medium) (ks : List (Option Keyed)) → AreAgreedWhereActive side ms ns (media_agreed side ms ns ks) → ArePartners side ms ns (media_agreed side ms ns ks)
all_partners side [] [] ks are = tt
all_partners side [] (n ∷ ns) ks are = absurd are
all_partners side (m ∷ ms) [] ks are = absurd are
all_partners side (m ∷ ms) (n ∷ ns) [] are = absurd are
all_partners side (m ∷ ms) (n ∷ ns) (k ∷ ks) are = (one_partner side m n k are.0, all_partners side ms ns ks are.1)

answer_partners : Agreements → (slot : ℕ) (o : Offer) (noise text : List ℕ) (g : AgreedAnswer) (answer : Sdp) → WasOffered o → agreed_answer slot o noise text ≡ Ok g → description_of text ≡ Ok answer
    → ArePartners o.side o.description.media answer.media g.media
answer_partners laws slot o noise text g answer was e read =
    let is = agreement_is slot o noise text g e in
    let same : is.answer ≡ answer = ok_is is.answer answer (sym is.read ∙ read) in
    let a = laws.answered was.hand was.way was.text noise text slot was.accepted g was.agreed (ap (λ (o : Offer). agreed_answer slot o noise text) was.same ∙ e) in
    let also : a.0 ≡ is.answer = ok_is a.0 is.answer (sym a.1 ∙ is.read) in
    let of_law : AreAgreedWhereActive o.side o.description.media a.0.media g.media = subst (λ (o : Offer). AreAgreedWhereActive o.side o.description.media a.0.media g.media) was.same a.2 in
    let active : AreAgreedWhereActive o.side o.description.media is.answer.media (media_agreed o.side o.description.media is.answer.media is.keyed) =
    subst (AreAgreedWhereActive o.side o.description.media is.answer.media) (sym is.media)
    (subst (λ (s : Sdp). AreAgreedWhereActive o.side o.description.media s.media g.media) also of_law) in
    subst (λ (s : Sdp). ArePartners o.side o.description.media s.media g.media) same
    (subst (ArePartners o.side o.description.media is.answer.media) is.media (all_partners o.side o.description.media is.answer.media is.keyed active))

-- ---- their sessions

module _ (side : Side) where
  abbrev OfPartner : descriptions.Medium → descriptions.Medium → Session → Type 0
  OfPartner m n s = TakesPart side m × TakesPart (other_side side) n × (s.name.kind ≡ Rtcp → (m.port < 65535) × (n.port < 65535))

  streams_of_partners : (m n : descriptions.Medium) (x : Medium) → IsPartner side m n x → (owner : Owner) (keys : List Key) (st : Stream) (window : ℕ)
      → AllByRecursion (OfPartner m n) (stream_sessions owner keys st window x)
  streams_of_partners m n x is owner keys st window = ((is.0, is.1, λ e. absurd cc), go x.has_rtcp refl)
    where
      go : (b : Bool) → x.has_rtcp ≡ b → AllByRecursion (OfPartner m n) (cond b (stream_session owner keys st window x Rtcp st.encrypts_rtcp 10 ∷ []) [])
      go true on = ((is.0, is.1, λ e. is.2 on), tt)
      go false on = tt

  each_partner : (ms ns : List descriptions.Medium) (xs : List (Option Medium)) → ArePartners side ms ns xs → OfEach OfPartner ms ns xs
  each_partner [] [] [] are = tt
  each_partner [] [] (x ∷ xs) are = absurd are
  each_partner [] (n ∷ ns) xs are = absurd are
  each_partner (m ∷ ms) [] xs are = absurd are
  each_partner (m ∷ ms) (n ∷ ns) [] are = absurd are
  each_partner (m ∷ ms) (n ∷ ns) (None ∷ xs) are = (tt, each_partner ms ns xs are.1)
  each_partner (m ∷ ms) (n ∷ ns) (Some x ∷ xs) are = (streams_of_partners m n x (are.0 x refl), each_partner ms ns xs are.1)

  from_first : (ms ns : List descriptions.Medium) (s : Session) → HoldsFrom OfPartner 0 ms ns s → IsOfPartners side ms ns s
  from_first ms ns s is =
      let same : is.at ≡ s.name.owner.medium = (let e = is.place in omega (arith, e)) in
      record {
        of_offer = is.of_offer;
        of_answer = is.of_answer;
        in_offer = subst (λ k. IsMediumAt ms k is.of_offer) same is.in_offer;
        in_answer = subst (λ k. IsMediumAt ns k is.of_answer) same is.in_answer;
        takes = is.has.0;
        answers = is.has.1;
        control = is.has.2;
      }

-- ---- an answer

abbrev HasNoOthers : Offer → Sdp → Call → Type 0
HasNoOthers o answer d = AllByRecursion (λ s. s.name.owner.generation + 1 ≡ d.generations → IsOfPartners o.side o.description.media answer.media s) d.sessions

-- the sessions that are made of an answer
pub new_partners : (laws : Agreements) (slot : ℕ) (o : Offer) (noise text : List ℕ) (g : AgreedAnswer) (answer : Sdp) → WasOffered o → agreed_answer slot o noise text ≡ Ok g → description_of text ≡ Ok answer
    → (call generation n : ℕ) → AllByRecursion (IsOfPartners o.side o.description.media answer.media) (sessions_from call generation 0 n g.media)
new_partners laws slot o noise text g answer was agreed read call generation n =
    let are = answer_partners laws slot o noise text g answer was agreed read in
    each_weaker (HoldsFrom (OfPartner o.side) 0 o.description.media answer.media) (IsOfPartners o.side o.description.media answer.media) (λ s p. from_first o.side o.description.media answer.media s p)
    (sessions_from call generation 0 n g.media)
    (each_from (OfPartner o.side) call generation 0 n o.description.media answer.media g.media (each_partner o.side o.description.media answer.media g.media are))

module _ (laws : Agreements) (w : World) (offered_are : AllByRecursion (λ c. IsOffered c.offer) w.calls) (id : CallId) (noise text : List ℕ) (c : Call) (o : Offer)
    (is : call_of w id ≡ Some c) (open_one : c.offer ≡ Some o) (answer : Sdp) (read : description_of text ≡ Ok answer) where
  was : WasOffered o
  was = subst IsOffered open_one (found (λ c. IsOffered c.offer) (λ x. same_id x.id id) w.calls c is offered_are)

  pub answer_alone : (d : Call) → call_of (answer_to w (Answered id noise text)).world id ≡ Some d → d.generations ≡ c.generations + 1 → HasNoOthers o answer d
  answer_alone d at more =
      let a = answered_now w id noise text c o is open_one d at more in
      let new : List Session = sessions_from c.serial c.generations 0 a.number a.agreement.media in
      of_generation c d new (IsOfPartners o.side o.description.media answer.media) a.sessions more
      (new_partners laws c.slot o noise text a.agreement answer was a.agreed read c.serial c.generations a.number)
