-- Open offers, as they are kept, and what offers and answers give.
use Rattle.std.specs.Prelude.{◌≡◌, ◌≤◌, ℕ, true, is_some, List, [], ◌∷◌, length, slice_get, Option, Some, None, option_map, Result, Ok, Err}
use Rattle.sg_agreement.specs.Answers.{AgreedAnswer, agreed_answer}
use Rattle.sg_agreement.specs.Generations.{Generation, generation_of}
use Rattle.sg_agreement.specs.Keyed.{Keyed}
use Rattle.sg_agreement.specs.Media.{Medium}
use Rattle.sg_leg.specs.Answering.{Tells}
use Rattle.sg_agreement.specs.Keying as agreed
use Rattle.sg_agreement.specs.Keying.{Offer, added_by}
use Rattle.sg_agreement.specs.Messages as messages
use Rattle.sg_agreement.specs.Messages.{AtHand}
use Rattle.sg_agreement.specs.Offers.{AgreedOffer, agreed_offer}
use Rattle.sg_agreement.specs.declared.ways.Way.{Way}
use Rattle.sg_base.specs.declared.faults.Fault.{Fault}
use Rattle.sg_base.specs.declared.faults.Fault.TheVariants.{Refused, NoMemory}
use Rattle.sg_base.specs.declared.faults.Refusal.{Refusal}
use Rattle.sg_psk.specs.Pairs.{with_note}
use Rattle.sg_psk.specs.StandsFor.{IsAccepted, IsSent}
use Rattle.sg_psk.specs.declared.pairs.Pair.{Pair}
use Rattle.sg_psk.specs.declared.replays.Noted.{Noted}
use Rattle.sg_sdp.specs.declared.medium.Medium as descriptions
use Rattle.sg_session.specs.Ring.{Installed, RingKey}
use Rattle.sg_session.specs.Stages.{after_ok}
use Rattle.sg_leg.specs.Pairs.{EachPair}
use Rattle.sg_leg.specs.Planned.{Planned}
use Rattle.sg_leg.specs.Standing.{IsGeneration}
use Rattle.sg_leg.specs.Values.{LiveValue, OfferedValue}
use Rattle.sg_leg.specs.declared.books.Books.{Books}
use Rattle.sg_leg.specs.declared.keying.Bundle.{Bundle}
use Rattle.sg_leg.specs.declared.keying.Keying.{Keying}
use Rattle.sg_leg.specs.declared.keying.Keying.TheVariants as kept
use Rattle.sg_leg.specs.declared.keying.Opening.{Opening}

-- ---- what is kept names pre-shared pairs by their positions

pub record IsBundleOf (pairs : List Pair) (b : Bundle) (c : messages.Bundle) : Type 0 where
  pub initial : IsAccepted pairs b.initial c.initial
  pub streams : b.streams ≡ c.streams

abbrev pub IsBundleIf : List Pair → Option Bundle → Option messages.Bundle → Type 0
IsBundleIf pairs None None = Unit {0}
IsBundleIf pairs (Some b) (Some c) = IsBundleOf pairs b c
IsBundleIf pairs None (Some c) = ⊥
IsBundleIf pairs (Some b) None = ⊥

abbrev pub IsKeyingOf : List Pair → Keying → agreed.Keying → Type 0
IsKeyingOf pairs (kept.PeerLines ls) (agreed.PeerLines ms) = ls ≡ ms
IsKeyingOf pairs (kept.OwnLines ls) (agreed.OwnLines ms) = ls ≡ ms
IsKeyingOf pairs (kept.PeerMessage b) (agreed.PeerMessage c) = IsBundleOf pairs b c
IsKeyingOf pairs (kept.PeerMessages bs) (agreed.PeerMessages cs) = EachPair (IsBundleIf pairs) bs cs
IsKeyingOf pairs (kept.OwnMessage w) (agreed.OwnMessage s) = IsSent pairs w s
IsKeyingOf pairs keying k = ⊥

-- the lines that are added to the text for the other side are those of the keying
pub record IsOpeningOf (pairs : List Pair) (o : Opening) (k : agreed.Keying) : Type 0 where
  pub keying : IsKeyingOf pairs o.keying k
  pub session : o.session ≡ (added_by k).session
  pub media : o.media.items ≡ (added_by k).media

-- ---- open offers

-- it was given by an offer
pub record WasOffered (o : Offer) : Type 0 where
  pub hand : AtHand
  pub way : Way
  pub text : List ℕ
  pub agreed : AgreedOffer
  pub is_agreed : agreed_offer hand way text ≡ Ok agreed
  pub is : agreed.offer ≡ o

-- what is kept stands for an open offer, under these pre-shared pairs
pub record IsOpen (pairs : List Pair) (o : OfferedValue) (offer : Offer) : Type 0 where
  pub side : o.side ≡ offer.side
  pub description : o.description ≡ offer.description
  pub keying : IsKeyingOf pairs o.keying offer.keying
  pub offered : WasOffered offer

-- ---- an offer

-- what is at hand when an offer comes
abbrev pub at_hand : ℕ → Option ℕ → List ℕ → ℕ → Books → AtHand
at_hand slot media noise now books = record { slot = slot; media = media; noise = noise; now = now; pairs = books.psks; noted = books.seen }

abbrev pub media_of : Option LiveValue → Option ℕ
media_of former = option_map (λ (l : LiveValue). l.media) former

abbrev pub with_notes : List Noted → List Noted → List Noted
with_notes noted [] = noted
with_notes noted (n ∷ ns) = with_notes (with_note noted n) ns

-- The offer is open, and its text goes on. The books have its messages besides.
pub record Opens (slot : ℕ) (former : Option LiveValue) (r : Result AgreedOffer Refusal) (o : OfferedValue) (text : List ℕ) (old new : Books) : Type 0 where
  pub agreed : AgreedOffer
  pub is_agreed : r ≡ Ok agreed
  pub text_is : text ≡ agreed.text
  pub slot_is : o.slot ≡ slot
  pub former_is : o.former ≡ former
  pub is_open : IsOpen new.psks o agreed.offer
  pub psks : new.psks ≡ old.psks
  pub seen : new.seen ≡ with_notes old.seen agreed.noted
  pub ring : new.ring ≡ old.ring

abbrev pub IsOpened : ℕ → Option LiveValue → Result AgreedOffer Refusal → Result (OfferedValue × List ℕ) Fault → Books → Books → Type 0
IsOpened slot former r (Ok (o, text)) old new = Opens slot former r o text old new
IsOpened slot former r (Err (Refused cause)) old new = r ≡ Err cause
IsOpened slot former r (Err NoMemory) old new = Unit {0}

-- the same of a call that gives its state back
abbrev pub IsOffered : {F : Type 0} → ℕ → Option LiveValue → Result AgreedOffer Refusal → Result (OfferedValue × List ℕ) (F × Fault) → Books → Books → Type 0
IsOffered slot former r (Ok (o, text)) old new = Opens slot former r o text old new
IsOffered slot former r (Err (state, Refused cause)) old new = r ≡ Err cause
IsOffered slot former r (Err (state, NoMemory)) old new = Unit {0}

-- ---- an answer

-- what an answer gives to the call of this serial number as its generation of this number
abbrev pub answered_with : ℕ → Offer → List ℕ → List ℕ → ℕ → ℕ → List Installed → Result (List ℕ × Generation) Refusal
answered_with slot o noise text call generation ring =
    after_ok (agreed_answer slot o noise text) (λ a. after_ok (generation_of call generation ring a.media) (λ g. Ok (a.text, g)))

-- a text and what is agreed of each medium
abbrev pub answer_of : Result (List ℕ × List (Option Medium)) Fault → Result AgreedAnswer Fault
answer_of (Ok (text, media)) = Ok (record { text = text; media = media })
answer_of (Err fault) = Err fault

abbrev pub IsAnswerOf : Result AgreedAnswer Fault → Result AgreedAnswer Refusal → Type 0
IsAnswerOf a r = Tells a r

abbrev pub IsGiven : List ℕ → List Planned → List RingKey → Result (List ℕ × Generation) Refusal → Type 0
IsGiven text plan ring r = (x : List ℕ × Generation) × (r ≡ Ok x) × (text ≡ x.0) × IsGeneration plan ring x.1

-- it is refused for this cause; memory may be wanting
abbrev pub IsRefusedBy : Fault → Result (List ℕ × Generation) Refusal → Type 0
IsRefusedBy (Refused cause) r = r ≡ Err cause
IsRefusedBy NoMemory r = Unit {0}

abbrev pub IsAgreed : {S : Type 0} → (S → List Planned) → Result (List ℕ × S) Fault → List RingKey → Result (List ℕ × Generation) Refusal → Type 0
IsAgreed plan (Ok (text, specs)) ring r = IsGiven text (plan specs) ring r
IsAgreed plan (Err fault) ring r = IsRefusedBy fault r

-- the state after it
abbrev pub live_after : OfferedValue → LiveValue
live_after o = record { slot = o.slot; media = length o.description.media; manual = Rattle.std.specs.Prelude.false }

-- the sessions are those that `plan` tells
abbrev pub IsAnswered : {S F : Type 0} → (S → List Planned) → OfferedValue → Result (LiveValue × List ℕ × S) (F × Fault) → List RingKey → Result (List ℕ × Generation) Refusal → Type 0
IsAnswered plan o (Ok (live, text, specs)) ring r = (live ≡ live_after o) × IsGiven text (plan specs) ring r
IsAnswered plan o (Err (state, Refused cause)) ring r = r ≡ Err cause
IsAnswered plan o (Err (state, NoMemory)) ring r = Unit {0}

-- ---- addresses

-- a medium that is keyed has an address on both sides
abbrev pub AreAddressed : List descriptions.Medium → List descriptions.Medium → List (Option Keyed) → Type 0
AreAddressed ms ns ks =
    (i : ℕ) (m n : descriptions.Medium) (k : Option Keyed) → slice_get ms i ≡ Some m → slice_get ns i ≡ Some n → slice_get ks i ≡ Some k
    → is_some k ≡ true → (is_some m.address ≡ true) × (is_some n.address ≡ true)

-- ---- notes

-- the book of noted messages has room for those of a keying
abbrev pub HasRoom : Keying → List Noted → Type 0
HasRoom (kept.PeerMessage b) noted = length noted ≤ 1020
HasRoom (kept.PeerMessages bs) noted = (length bs ≤ 4) × ((i : ℕ) (b : Bundle) → slice_get bs i ≡ Some (Some b) → length noted ≤ 1020)
HasRoom keying noted = Unit {0}
