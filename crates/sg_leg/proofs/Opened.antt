-- An offer, by its stages.
use Rattle.std.proofs.Common.{◌≡◌, ℕ, List, Option, map, Result, Ok, Err, refl, sym, ap, ◌∙◌, subst}
use Rattle.sg_agreement.specs.CarriedTexts.{carried_text, exchanged, ports_from}
use Rattle.sg_agreement.specs.Described.{described}
use Rattle.sg_agreement.specs.EachMedium.{each_active}
use Rattle.sg_agreement.specs.Keying.{Keying, Offer, OwnLines, notes_of}
use Rattle.sg_agreement.specs.declared.ways.Way.TheVariants as ways
use Rattle.sg_base.specs.declared.addresses.Side.TheVariants.{Plain}
use Rattle.sg_sdes.specs.Answers.{offered_by}
use Rattle.sg_agreement.specs.Messages.{AtHand}
use Rattle.sg_agreement.specs.Offers.{accepted_offer, keying_of, noise_of, agreed_offer}
use Rattle.sg_agreement.specs.Sides.{side_of, other_side, actives}
use Rattle.sg_agreement.specs.declared.ways.Way.{Way}
use Rattle.sg_base.specs.declared.faults.Fault.{Fault}
use Rattle.sg_base.specs.declared.faults.Fault.TheVariants.{Refused, NoMemory}
use Rattle.sg_base.specs.declared.faults.Refusal.{Refusal}
use Rattle.sg_psk.specs.declared.pairs.Pair.{Pair}
use Rattle.sg_psk.specs.declared.replays.Noted.{Noted}
use Rattle.sg_sdp.specs.declared.medium.Medium as descriptions
use Rattle.sg_sdp.specs.declared.sdp.Sdp.{Sdp}
use Rattle.sg_session.specs.Stages.{after_ok}
use Rattle.sg_leg.specs.Answering.{Tells, Gives}
use Rattle.sg_leg.specs.Messages.{IsAtHand}
use Rattle.sg_leg.specs.Open.{IsKeyingOf, IsOpeningOf, Opens, IsOpened, at_hand, with_notes}
use Rattle.sg_leg.specs.Values.{LiveValue}
use Rattle.sg_leg.specs.declared.books.Books.{Books}
use Rattle.sg_leg.specs.declared.keying.Opening.{Opening}

pub hand_is : (slot : ℕ) (media : Option ℕ) (noise : List ℕ) (now : ℕ) (books : Books) → IsAtHand (at_hand slot media noise now books) now books.psks books.seen
hand_is slot media noise now books = record { now_is = refl; pairs_are = refl; noted_are = refl }

module _ (h : AtHand) (way : Way) (text : List ℕ) where
  offered_as : (r : Result Sdp Refusal) → described (side_of way) h.media text ≡ r
      → agreed_offer h way text ≡ after_ok r (λ s. after_ok (keying_of h s way) (λ k. Ok (accepted_offer h.slot (record { side = side_of way; description = s; keying = k }))))
  unfolding agreed_offer
  offered_as r e = ap (λ r. after_ok r (λ s. after_ok (keying_of h s way) (λ k. Ok (accepted_offer h.slot (record { side = side_of way; description = s; keying = k }))))) e

  module _ (slot : ℕ) (former : Option LiveValue) (old new : Books) where
    pub no_offer : (fault : Fault) → Tells {X = Sdp} (Err fault) (described (side_of way) h.media text) → IsOpened slot former (agreed_offer h way text) (Err fault) old new
    no_offer (Refused cause) e = offered_as (Err cause) e
    no_offer NoMemory e = tt

    pub no_keying : (pairs : List Pair) (s : Sdp) → described (side_of way) h.media text ≡ Ok s → (fault : Fault) → Gives (IsOpeningOf pairs) (Err fault) (keying_of h s way)
        → IsOpened slot former (agreed_offer h way text) (Err fault) old new
    no_keying pairs s is (Refused cause) e =
        offered_as (Ok s) is ∙ ap (λ r. after_ok r (λ k. Ok (accepted_offer h.slot (record { side = side_of way; description = s; keying = k })))) e
    no_keying pairs s is NoMemory e = tt

  pub is_offered : (s : Sdp) (k : Keying) → described (side_of way) h.media text ≡ Ok s → keying_of h s way ≡ Ok k
      → agreed_offer h way text ≡ Ok (accepted_offer h.slot (record { side = side_of way; description = s; keying = k }))
  is_offered s k is e =
      offered_as (Ok s) is ∙ ap (λ r. after_ok r (λ k. Ok (accepted_offer h.slot (record { side = side_of way; description = s; keying = k })))) e

module _ (slot : ℕ) (former : Option LiveValue) (media : Option ℕ) (noise : List ℕ) (now : ℕ) (old : Books) (way : Way) (text : List ℕ) where
  abbrev h : AtHand
  h = at_hand slot media noise now old

  pub opens : (s : Sdp) (opening : Opening) (out : List ℕ) (seen : List Noted)
      → described (side_of way) media text ≡ Ok s → (k : Keying) × (keying_of h s way ≡ Ok k) × IsOpeningOf old.psks opening k
      → out ≡ carried_text (ports_from slot 0 (other_side (side_of way)) (actives (side_of way) s.media)) (map (λ (m : descriptions.Medium). exchanged m.profile) s.media)
      (record { session = opening.session; media = opening.media.items }) s
      → ((pairs : List Pair) (k : Keying) → IsKeyingOf pairs opening.keying k → seen ≡ with_notes old.seen (notes_of k))
      → Opens slot former (agreed_offer h way text) (record { slot = slot; former = former; side = side_of way; description = s; keying = opening.keying }) out old
      (record { psks = old.psks; seen = seen; ring = old.ring })
  opens s opening out seen is (k, keyed, of) text_is notes =
      let offer : Offer = record { side = side_of way; description = s; keying = k } in
      let agreed = is_offered h way text s k is keyed in
      record {
        agreed = accepted_offer slot offer;
        is_agreed = agreed;
        text_is = text_is ∙ (λ i. carried_text (ports_from slot 0 (other_side (side_of way)) (actives (side_of way) s.media)) (map (λ (m : descriptions.Medium). exchanged m.profile) s.media)
            (record { session = of.session i; media = of.media i }) s);
        slot_is = refl;
        former_is = refl;
        is_open = record {
          side = refl;
          description = refl;
          keying = of.keying;
          offered = record { hand = h; way = way; text = text; agreed = accepted_offer slot offer; is_agreed = agreed; is = refl };
        };
        psks = refl;
        seen = notes old.psks k of.keying;
        ring = refl;
      }

pub by_own : (h : AtHand) (s : Sdp) (way : Way) (pairs : List Pair) (noise : List ℕ) (result : Result Opening Fault) → way ≡ ways.SdesFromPlain → h.noise ≡ noise
    → Gives (IsOpeningOf pairs) result (after_ok (each_active Plain (λ k m. Ok (offered_by (noise_of k noise))) 0 s.media) (λ lines. Ok (OwnLines lines)))
    → Gives (IsOpeningOf pairs) result (keying_of h s way)
by_own h s way pairs noise result is same g =
    subst (λ way. Gives (IsOpeningOf pairs) result (keying_of h s way)) (sym is)
    (subst (λ noise. Gives (IsOpeningOf pairs) result (after_ok (each_active Plain (λ k m. Ok (offered_by (noise_of k noise))) 0 s.media) (λ lines. Ok (OwnLines lines)))) (sym same) g)
