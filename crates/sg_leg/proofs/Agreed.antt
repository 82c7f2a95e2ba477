-- What an answer agrees, of an open offer as it is kept.
use Rattle.std.proofs.Common.{◌≡◌, ◌≤◌, ℕ, Bool, List, [], ◌∷◌, length, map, Option, Some, Result, Ok, Err, sym, ap, ◌∙◌, subst, arith}
use Rattle.std.specs.List.{All}
use Rattle.sg_agreement.specs.Answers.{AgreedAnswer, Answered, agreed_answer, answered_by, answered_text, lines_of}
use Rattle.sg_agreement.specs.CarriedTexts.{carried_text, ports_from}
use Rattle.sg_agreement.specs.Described.{described}
use Rattle.sg_agreement.specs.Keyed.{Keyed, media_agreed}
use Rattle.sg_agreement.specs.Keying.{Offer}
use Rattle.sg_agreement.specs.Media.{Medium}
use Rattle.sg_agreement.specs.Sides.{actives_after, other_side}
use Rattle.sg_base.specs.declared.addresses.Side.{Side}
use Rattle.sg_base.specs.declared.faults.Fault.{Fault}
use Rattle.sg_base.specs.declared.faults.Fault.TheVariants.{Refused, NoMemory}
use Rattle.sg_base.specs.declared.faults.Refusal.{Refusal}
use Rattle.sg_psk.specs.declared.pairs.Pair.{Pair}
use Rattle.sg_sdp.specs.declared.medium.Medium as descriptions
use Rattle.sg_sdp.specs.declared.sdp.Sdp.{Sdp}
use Rattle.sg_leg.specs.Answering.{Tells}
use Rattle.sg_leg.specs.Open.{AreAddressed, IsOpen}
use Rattle.sg_leg.specs.Served.{IsServedIf}
use Rattle.sg_leg.specs.Values.{OfferedValue}
use Rattle.sg_leg.proofs.Agreeing.{AreSound, active_long, all_served, answer_is, answer_long, are_addressed, keyed_long, not_answered, not_described}

pub media_low : (side : Side) (ms ns : List descriptions.Medium) (ks : List (Option Keyed)) → length (media_agreed side ms ns ks) ≤ length ms
media_low side (m ∷ ms) (n ∷ ns) (k ∷ ks) = let low = media_low side ms ns ks in omega (arith, low)
media_low side ms ns ks = omega arith

module _ (pairs : List Pair) (o : OfferedValue) (offer : Offer) (open_so : IsOpen pairs o offer) (noise text : List ℕ) (side : Side) (n : ℕ) (side_is : side ≡ other_side o.side) (n_is : n ≡ length o.description.media) where
  read_as : (r : Result Sdp Refusal) → described side (Some n) text ≡ r → described (other_side offer.side) (Some (length offer.description.media)) text ≡ r
  read_as r e =
      (λ i. described (other_side (sym open_so.side i)) (Some (length (sym open_so.description i).media)) text)
      ∙ (λ i. described (sym side_is i) (Some (sym n_is i)) text) ∙ e

  pub not_read : (fault : Fault) → Tells {X = Sdp} (Err fault) (described side (Some n) text) → (slot : ℕ) → Tells {X = AgreedAnswer} (Err fault) (agreed_answer slot offer noise text)
  not_read (Refused cause) e slot = not_described offer noise text slot cause (read_as (Err cause) e)
  not_read NoMemory e slot = tt

  module _ (s : Sdp) (e : described side (Some n) text ≡ Ok s) where
    read : described (other_side offer.side) (Some (length offer.description.media)) text ≡ Ok s
    read = read_as (Ok s) e

    pub answer_count : length s.media ≡ length o.description.media
    answer_count = answer_long offer open_so.offered noise text s read ∙ ap (λ (d : Sdp). length d.media) (sym open_so.description)

    module _ (active : List Bool) (a : active ≡ actives_after o.side o.description.media s.media) where
      active_as : active ≡ actives_after offer.side offer.description.media s.media
      active_as = a ∙ (λ i. actives_after (open_so.side i) (open_so.description i).media s.media)

      pub active_count : length active ≡ length o.description.media
      active_count = ap length a ∙ active_long o.side o.description.media s.media answer_count

      pub not_keyed : (fault : Fault) → Tells {X = Answered} (Err fault) (answered_by offer noise s active offer.keying) → (slot : ℕ) → Tells {X = AgreedAnswer} (Err fault) (agreed_answer slot offer noise text)
      not_keyed (Refused cause) by slot = not_answered offer open_so.offered noise text s read slot cause (subst (λ l. answered_by offer noise s l offer.keying ≡ Err cause) active_as by)
      not_keyed NoMemory by slot = tt

      module _ (k : Answered) (by : answered_by offer noise s active offer.keying ≡ Ok k) where
        by_so : answered_by offer noise s (actives_after offer.side offer.description.media s.media) offer.keying ≡ Ok k
        by_so = subst (λ l. answered_by offer noise s l offer.keying ≡ Ok k) active_as by

        pub keyed_count : length k.media ≡ length o.description.media
        keyed_count = keyed_long offer open_so.offered noise text s read k by_so ∙ ap (λ (d : Sdp). length d.media) (sym open_so.description)

        pub all_addressed : AreAddressed o.description.media s.media k.media
        all_addressed = subst (λ (d : Sdp). AreAddressed d.media s.media k.media) (sym open_so.description) (are_addressed offer open_so.offered noise text s read k by_so)

        pub agreed_is : (slot : ℕ) (out : List ℕ) (media : List (Option Medium)) (active' : List Bool) → active' ≡ actives_after o.side o.description.media s.media
            → out ≡ carried_text (ports_from slot 0 o.side active') (map (λ (m : descriptions.Medium). m.profile) o.description.media) (record { session = k.session; media = map lines_of k.media }) s
            → media ≡ media_agreed o.side o.description.media s.media k.media → agreed_answer slot offer noise text ≡ Ok (record { text = out; media = media })
        agreed_is slot out media active' a' out_is media_is =
            let on : active' ≡ actives_after offer.side offer.description.media s.media = a' ∙ (λ i. actives_after (open_so.side i) (open_so.description i).media s.media) in
            let t : out ≡ answered_text slot offer s (actives_after offer.side offer.description.media s.media) k =
            out_is ∙ (λ i. carried_text (ports_from slot 0 (open_so.side i) (on i)) (map (λ (m : descriptions.Medium). m.profile) (open_so.description i).media) (record { session = k.session; media = map lines_of k.media }) s) in
            let m : media ≡ media_agreed offer.side offer.description.media s.media k.media = media_is ∙ (λ i. media_agreed (open_so.side i) (open_so.description i).media s.media k.media) in
            answer_is offer open_so.offered noise text s read k by_so slot ∙ (λ i. Ok (record { text = sym t i; media = sym m i }))

        pub served : AreSound → (slot : ℕ) (media : List (Option Medium)) → media ≡ media_agreed o.side o.description.media s.media k.media → All IsServedIf media
        served sound slot media media_is =
            subst (All IsServedIf) (sym (media_is ∙ (λ i. media_agreed (open_so.side i) (open_so.description i).media s.media k.media)))
            (all_served sound offer open_so.offered noise text slot s (actives_after offer.side offer.description.media s.media) k (answer_is offer open_so.offered noise text s read k by_so slot))
