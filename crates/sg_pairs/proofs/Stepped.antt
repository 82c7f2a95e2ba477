-- After each event the bridge knows of each slot what its call is.
use Rattle.std.proofs.Common.{◌≡◌, ℕ, ◌+◌, ◌<◌, ◌≤◌, Bool, true, false, cond, not, ◌||◌, List, [], ◌∷◌, length, map, Option, Some, None, Result, Ok, Err, refl, sym, ap, ◌∙◌, subst, arith, eqb, ltb}
use Rattle.std.proofs.lemmas.Bool.{eq-eqb, eqb-false, eqb-true, ne_eqb, or_right}
use Rattle.std.proofs.lemmas.List.Elements.{recursion_from_All}
use Rattle.std.specs.List.{AllByRecursion, Any, filter}
use Rattle.std.specs.Option.{is_some}
use Rattle.sg_agreement.specs.Answers.{agreed_answer}
use Rattle.sg_agreement.specs.Generations.{generation_of}
use Rattle.sg_agreement.specs.Keying.{Offer}
use Rattle.sg_agreement.specs.Manual.{manual_medium}
use Rattle.sg_agreement.specs.Media.{Medium}
use Rattle.sg_agreement.specs.Messages.{AtHand}
use Rattle.sg_agreement.specs.Offers.{AgreedOffer, agreed_offer}
use Rattle.sg_agreement.specs.Sides.{side_of, other_side}
use Rattle.sg_agreement.specs.declared.ways.Way.{Way}
use Rattle.sg_base.specs.declared.addresses.Address.{Address}
use Rattle.sg_base.specs.declared.addresses.CallId.{CallId}
use Rattle.sg_base.specs.declared.faults.Refusal.{Refusal}
use Rattle.sg_base.specs.declared.faults.Refusal.TheVariants.{CallKnown, CallUnknown, PskFull, PskKnown, State, TableFull, TickBack}
use Rattle.sg_outcome.specs.declared.outcomes.Outcome.{Outcome}
use Rattle.sg_outcome.specs.declared.outcomes.Outcome.TheVariants.{Made}
use Rattle.sg_outcome.specs.declared.outcomes.Why.{Why}
use Rattle.sg_outcome.specs.declared.outcomes.Why.TheVariants as why
use Rattle.sg_psk.specs.Pairs.{has_pair}
use Rattle.sg_session.specs.Opening.{Taken}
use Rattle.sg_session.specs.Sealing.{datagram_of}
use Rattle.sg_session.specs.Session.{Session}
use Rattle.sg_session.proofs.Inversions.{after_ok_is, stop_if_is, ok_is}
use Rattle.sg_session.proofs.Lists.{each_weaker, each_filter, each_map, each_at_this, each_of, both}
use Rattle.sg_gateway.proofs.Arrivals.{Arrival, IsDrop, IsOpening, IsSeal, arrival}
use Rattle.sg_gateway.proofs.ByTexts.{same_call_id}
use Rattle.sg_gateway.proofs.Ordered.{not_found, one_serial, slot_free}
use Rattle.sg_gateway.proofs.Pairs.{Pairs, each_two, pairs_from}
use Rattle.sg_gateway.proofs.Signals.{is_found, each_and_call, each_with_call}
use Rattle.sg_gateway.specs.CallSignals.{has_begun, keyed_manually, at_hand, takes_offer, offered_in, answered_to, answered_in, is_idle, call_at_tick, drops_earlier, without_earlier}
use Rattle.sg_gateway.specs.Datagrams.{Given, put, call_after, given_to, arrived_in, arrived_at}
use Rattle.sg_gateway.specs.Generations.{Settled, keyed}
use Rattle.sg_gateway.specs.Octets.{Octets}
use Rattle.sg_gateway.specs.Order.{IsBefore, IsOrderly}
use Rattle.sg_gateway.specs.Ports.{call_at}
use Rattle.sg_gateway.specs.Signals.{Signal, Tick, Psk, Manual, Offered, Answered, Reject, Bye, Answer, tells_ended, refused, ticked, new_call, in_new, in_old, tells_live, tells_text, offered_to, offering_side, tells_answer, answered, rejected_to, rejected, left, answer_to}
use Rattle.sg_gateway.specs.Step.{Datagram, step}
use Rattle.sg_gateway.specs.World.{Books, Call, World, call_of, free_slot, with_call, without_call, and_call, is_full, same_id}
use Rattle.sg_pairs.proofs.Known.{Fits, IsOfId, each_of_id, ends_fit, Seen, at_and, at_filter, at_lives, at_map, at_slot, emptied_look, filter_one, is_in, live_look, lives, made_look, new_seen, none_at, none_lives, of_and, one_id, seen_at, seen_of}
use Rattle.sg_pairs.proofs.Mates.{AreMates}
use Rattle.sg_pairs.specs.Bridged.{told_and_parted}
use Rattle.sg_pairs.specs.Pairs.{Members, after_outcome, emptied}

-- a call that is there has an open offer or a generation
abbrev pub Begun : Call → Type 0
Begun c = has_begun c ≡ true

-- ---- a call as it was settled from another

abbrev pub HasCount : Type 0
HasCount = (h : AtHand) (way : Way) (text : List ℕ) (a : AgreedOffer) (count : ℕ) → agreed_offer h way text ≡ Ok a → h.media ≡ Some count → a.media ≡ count

-- in which slot it is, and what is seen of it
pub record IsFrom (c : Call) (media : ℕ) (live : Bool) (r : Settled) : Type 0 where
  pub serial : r.call.serial ≡ c.serial
  pub slot : r.call.slot ≡ c.slot
  pub seen : seen_of r.call ≡ new_seen c.id media live
  pub media_is : r.call.media ≡ media
  pub begun : Begun r.call

renewed_begun : (n : ℕ) (o : Bool) → o || not (eqb (n + 1) 0) ≡ true
renewed_begun n o = or_right o _ (ap not (ne_eqb (n + 1) 0 (λ same. omega (arith, same))))

renewed_live : (n : ℕ) → not (eqb (n + 1) 0) ≡ true
renewed_live n = ap not (ne_eqb (n + 1) 0 (λ same. omega (arith, same)))

keyed_from : (now : ℕ) (books : Books) (c : Call) (text : List ℕ) (media : List (Option Medium)) (r : Settled) → keyed now books c text media ≡ Ok r → IsFrom c c.media true r
keyed_from now books c text media r e =
    let a = after_ok_is (generation_of c.serial c.generations books.ring media) _ r e in
    subst (IsFrom c c.media true) (ok_is _ r a.2) (record { serial = refl; slot = refl; seen = ap (new_seen c.id c.media) (renewed_live c.generations); media_is = refl; begun = renewed_begun c.generations false })

answered_from : (now : ℕ) (books : Books) (c : Call) (noise text : List ℕ) (r : Settled) (o : Option Offer) → answered_to now books c noise text o ≡ Ok r → IsFrom c c.media true r
answered_from now books c noise text r None e = absurd cc
answered_from now books c noise text r (Some o) e =
    let a = after_ok_is (agreed_answer c.slot o noise text) (λ a. keyed now books c a.text a.media) r e in
    keyed_from now books c a.0.text a.0.media r a.2

offered_from : (now : ℕ) (books : Books) (c : Call) (way : Way) (noise text : List ℕ) (r : Settled) → offered_in now books c way noise text ≡ Ok r
    → (a : AgreedOffer) × (agreed_offer (at_hand now books c noise) way text ≡ Ok a) × IsFrom c a.media (not (eqb c.generations 0)) r
offered_from now books c way noise text r e =
    let a = stop_if_is (not (takes_offer c)) State _ r e in
    let b = after_ok_is (agreed_offer (at_hand now books c noise) way text) _ r a.1 in
    (b.0, b.1, subst (IsFrom c b.0.media (not (eqb c.generations 0))) (ok_is _ r b.2) (record { serial = refl; slot = refl; seen = refl; media_is = refl; begun = refl }))

-- an offer to a call that has begun has as many media as the call
same_media : HasCount → (now : ℕ) (books : Books) (c : Call) (way : Way) (noise text : List ℕ) (a : AgreedOffer) → Begun c → agreed_offer (at_hand now books c noise) way text ≡ Ok a → a.media ≡ c.media
same_media count now books c way noise text a begun e = count (at_hand now books c noise) way text a c.media e (ap (λ b. let o : Option ℕ = cond b (Some c.media) None in o) begun)

-- ---- a call in its place

module _ (w : World) (before : Pairs IsBefore w.calls) (c d : Call) (a : Any (λ x. x ≡ c) w.calls) (serial : d.serial ≡ c.serial) (slot : d.slot ≡ c.slot) where
  abbrev put_in : Call → Call
  put_in x = cond (eqb x.serial d.serial) d x

  pub same_in_place : seen_of d ≡ seen_of c → (s : ℕ) → at_slot (with_call d w.calls) s ≡ at_slot w.calls s
  same_in_place seen s = at_map s put_in w.calls (each_weaker (λ x. x.serial ≡ c.serial → x ≡ c) (λ x. ((put_in x).slot ≡ x.slot) × (seen_of (put_in x) ≡ seen_of x)) (λ x one. at x one (eqb x.serial d.serial) refl) w.calls (one_serial c w.calls before a))
    where
      at : (x : Call) → (x.serial ≡ c.serial → x ≡ c) → (b : Bool) → eqb x.serial d.serial ≡ b → ((cond b d x).slot ≡ x.slot) × (seen_of (cond b d x) ≡ seen_of x)
      at x one false is = (refl, refl)
      at x one true is = let same : x ≡ c = one (eqb-true _ _ is ∙ serial) in (slot ∙ ap (λ (c : Call). c.slot) (sym same), seen ∙ ap seen_of (sym same))

  pub lives_in_place : (id : CallId) → c.id ≡ id → seen_of d ≡ new_seen c.id c.media true → (s : ℕ) → at_slot (with_call d w.calls) s ≡ lives id (at_slot w.calls s)
  lives_in_place id id_is seen s = at_lives s id put_in w.calls (each_two (λ x. x.serial ≡ c.serial → x ≡ c) (λ x. x.id ≡ c.id → x ≡ c) (λ x. ((put_in x).slot ≡ x.slot) × (Some (seen_of (put_in x)) ≡ lives id (Some (seen_of x))))
      (λ x one two. at x one two (eqb x.serial d.serial) refl) w.calls (one_serial c w.calls before a) (one_id c w.calls before a))
    where
      its_own : same_id c.id id ≡ true
      its_own = eq-eqb c.id.0 id.0 (ap (λ (i : CallId). i.0) id_is)

      other : (x : Call) → (x.id ≡ c.id → x ≡ c) → eqb x.serial d.serial ≡ false → (b : Bool) → same_id x.id id ≡ b → b ≡ false
      other x two is false none = refl
      other x two is true same =
          let number : x.id.0 ≡ id.0 = eqb-true _ _ same in
          let ids : x.id ≡ id = (λ i. record { 0 = number i }) in
          let one : x ≡ c = two (ids ∙ sym id_is) in
          absurd (eqb-false _ _ is (ap (λ (c : Call). c.serial) one ∙ sym serial))

      at : (x : Call) → (x.serial ≡ c.serial → x ≡ c) → (x.id ≡ c.id → x ≡ c) → (b : Bool) → eqb x.serial d.serial ≡ b → ((cond b d x).slot ≡ x.slot) × (Some (seen_of (cond b d x)) ≡ lives id (Some (seen_of x)))
      at x one two false is = (refl, sym (ap (λ b. Some (cond b (new_seen x.id x.media true) (seen_of x))) (other x two is (same_id x.id id) refl)))
      at x one two true is =
          let same : x ≡ c = one (eqb-true _ _ is ∙ serial) in (
            slot ∙ ap (λ (c : Call). c.slot) (sym same),
            ap (λ (x : Seen). Some x) seen ∙ sym (ap (λ b. Some (cond b (new_seen c.id c.media true) (seen_of c))) its_own) ∙ ap (λ (x : Call). lives id (Some (seen_of x))) (sym same),
          )

-- ---- a signal

module _ (count : HasCount) (w : World) (calls : Members) (orderly : IsOrderly w) (mates : AreMates calls) (knows : (s : ℕ) → seen_at calls s ≡ at_slot w.calls s) (begun : AllByRecursion Begun w.calls) where
  abbrev Of : Call → Type 0
  Of c = Any (λ x. x ≡ c) w.calls

  before : Pairs IsBefore w.calls
  before = pairs_from IsBefore w.calls orderly.rising

  begun_at : (c : Call) → Of c → Begun c
  begun_at c a = each_at_this Begun w.calls c begun a

  -- what is known after outcomes is what is so in this world, and they fit what was known
  abbrev Holds : List Outcome → World → Type 0
  Holds os v = ((s : ℕ) → seen_at (told_and_parted calls os).calls s ≡ at_slot v.calls s) × AllByRecursion Begun v.calls × Fits calls os

  abbrev For : Answer → Type 0
  For a = IsOrderly a.world → Holds a.outcomes a.world

  unchanged : (id : Option CallId) (cause : Refusal) → For (refused w id cause)
  unchanged id cause = λ o. (knows, begun, (tt, tt))

  -- what is told behind `made`, and of a call that was there: it lives, or it doesn't
  abbrev TellsLife : CallId → (Settled → List Outcome) → Bool → Type 0
  TellsLife id told live = (r : Settled) (x : Members) (s : ℕ) → seen_at (told_and_parted x (told r)).calls s ≡ cond live (lives id (seen_at x s)) (seen_at x s)

  -- what is told of a call that is settled fits
  abbrev FitsAlways : (Settled → List Outcome) → Type 0
  FitsAlways told = (r : Settled) (x : Members) → Fits x (told r)

  new_holds : (id : CallId) (told : Settled → List Outcome) (live : Bool) → TellsLife id told live → FitsAlways told → call_of w id ≡ None → (q : Result Settled Refusal)
      → ((r : Settled) → q ≡ Ok r → (r.call.slot ≡ free_slot 0 w.calls) × (seen_of r.call ≡ new_seen id r.call.media live) × Begun r.call) → For (in_new w id told q)
  new_holds id told live tells fits none (Err cause) settled = unchanged (Some id) cause
  new_holds id told live tells fits none (Ok r) settled = λ o. (known o, each_and_call Begun r.call w.calls (settled r refl).2 begun, (knows d.slot ∙ none_at d.slot w.calls apart, fits r made))
    where
      d : Call
      d = r.call

      apart : AllByRecursion (λ c. c.slot ≡ d.slot → ⊥) w.calls
      apart = each_weaker (λ c. c.slot ≡ free_slot 0 w.calls → ⊥) (λ c. c.slot ≡ d.slot → ⊥) (λ c differ e. differ (e ∙ (settled r refl).0)) w.calls
          (slot_free 0 w.calls before (each_of (λ c. 0 ≤ c.slot) (λ c. omega arith) w.calls))

      others : AllByRecursion (λ c. same_id c.id id ≡ false) w.calls
      others = not_found (λ c. same_id c.id id) w.calls none

      made : Members
      made = (after_outcome calls (Made id d.slot d.media)).calls

      low : IsOrderly (in_new w id told (Ok r)).world → d.slot < 256
      low o = of_and (λ c. c.slot < 256) d w.calls (recursion_from_All (λ c. c.slot < 256) (and_call d w.calls) o.slots)

      settled_so : (l b : Bool) → seen_of d ≡ new_seen id d.media l → (s : ℕ)
          → cond l (lives id (cond b (Some (new_seen id d.media false)) (at_slot w.calls s))) (cond b (Some (new_seen id d.media false)) (at_slot w.calls s)) ≡ cond b (Some (seen_of d)) (at_slot w.calls s)
      settled_so true true seen s = ap (λ b. Some (cond b (new_seen id d.media true) (new_seen id d.media false))) (eq-eqb id.0 id.0 refl) ∙ ap (λ (x : Seen). Some x) (sym seen)
      settled_so true false seen s = none_lives s id w.calls others
      settled_so false true seen s = ap (λ (x : Seen). Some x) (sym seen)
      settled_so false false seen s = refl

      known : IsOrderly (in_new w id told (Ok r)).world → (s : ℕ) → seen_at (told_and_parted made (told r)).calls s ≡ at_slot (and_call d w.calls) s
      known o s =
          tells r made s
          ∙ ap (λ (x : Option Seen). cond live (lives id x) x) (made_look calls id d.slot d.media s mates (low o) ∙ ap (λ (x : Option Seen). cond (eqb d.slot s) (Some (new_seen id d.media false)) x) (knows s))
          ∙ settled_so live (eqb d.slot s) (settled r refl).1 s
          ∙ sym (at_and s d w.calls apart)

  old_holds : (id : CallId) (told : Settled → List Outcome) (live : Bool) → TellsLife id told live → FitsAlways told → (c : Call) → Of c → c.id ≡ id → (q : Result Settled Refusal)
      → ((r : Settled) → q ≡ Ok r → IsFrom c c.media (cond live true (not (eqb c.generations 0))) r) → For (in_old w id told q)
  old_holds id told live tells fits c a id_is (Err cause) settled = unchanged (Some id) cause
  old_holds id told live tells fits c a id_is (Ok r) settled = λ o. (known live tells (settled r refl), each_with_call Begun r.call w.calls (settled r refl).begun begun, fits r calls)
    where
      known : (live : Bool) → TellsLife id told live → IsFrom c c.media (cond live true (not (eqb c.generations 0))) r → (s : ℕ) → seen_at (told_and_parted calls (told r)).calls s ≡ at_slot (with_call r.call w.calls) s
      known true tells is s = tells r calls s ∙ ap (lives id) (knows s) ∙ sym (lives_in_place w before c r.call a is.serial is.slot id id_is is.seen s)
      known false tells is s = tells r calls s ∙ knows s ∙ sym (same_in_place w before c r.call a is.serial is.slot is.seen s)

  -- ---- calls that end

  ends_look : (reason : Why) (x : Members) (ds : List Call) (s : ℕ) → seen_at (told_and_parted x (map (tells_ended reason) ds)).calls s ≡ cond (is_in s ds) None (seen_at x s)
  ends_look reason x [] s = refl
  ends_look reason x (d ∷ ds) s = ends_look reason (emptied d.slot x).calls ds s ∙ ap (λ (o : Option Seen). cond (is_in s ds) None o) (emptied_look d.slot x s) ∙ go (is_in s ds) (eqb d.slot s)
    where
      go : (a b : Bool) → cond a None (cond b None (seen_at x s)) ≡ cond (b || a) None (seen_at x s)
      go true true = refl
      go true false = refl
      go false true = refl
      go false false = refl

  ending_holds : (c : Call) (reason : Why) → Of c → Holds (tells_ended reason c ∷ []) (record w { calls = without_call c.serial w.calls })
  ending_holds c reason a = (known, each_filter Begun (λ x. not (eqb x.serial c.serial)) w.calls begun, (each_at_this (λ d. IsOfId calls d.slot d.id) w.calls c (each_of_id calls w.calls before knows) a, tt))
    where
      known : (s : ℕ) → seen_at (told_and_parted calls (tells_ended reason c ∷ [])).calls s ≡ at_slot (without_call c.serial w.calls) s
      known s =
          ends_look reason calls (c ∷ []) s
          ∙ (λ i. cond (is_in s (sym (filter_one c w.calls before a) i)) None (knows s i))
          ∙ sym (at_filter s (λ x. eqb x.serial c.serial) w.calls before)

  tick_holds : (now : ℕ) → For (ticked w now)
  tick_holds now = both For (ltb now w.moment) _ _ (unchanged None (TickBack w.moment))
      (λ o. (
        known,
        each_map Begun Begun (call_at_tick now) (λ c is. both Begun (drops_earlier now c) (without_earlier c) c is is) _ (each_filter Begun (λ c. not (is_idle now c)) w.calls begun),
        ends_fit why.Idle calls (filter (is_idle now) w.calls) (each_filter (λ d. IsOfId calls d.slot d.id) (is_idle now) w.calls (each_of_id calls w.calls before knows)),
      ))
    where
      at : (c : Call) (b : Bool) → ((cond b (without_earlier c) c).slot ≡ c.slot) × (seen_of (cond b (without_earlier c) c) ≡ seen_of c)
      at c true = (refl, refl)
      at c false = (refl, refl)

      known : (s : ℕ) → seen_at (told_and_parted calls (map (tells_ended why.Idle) (filter (is_idle now) w.calls))).calls s ≡ at_slot (map (call_at_tick now) (filter (λ c. not (is_idle now c)) w.calls)) s
      known s =
          ends_look why.Idle calls (filter (is_idle now) w.calls) s
          ∙ ap (λ (o : Option Seen). cond (is_in s (filter (is_idle now) w.calls)) None o) (knows s)
          ∙ sym (at_filter s (is_idle now) w.calls before)
          ∙ sym (at_map s (call_at_tick now) (filter (λ c. not (is_idle now c)) w.calls) (each_of _ (λ c. at c (drops_earlier now c)) _))

  rejected_holds : (id : CallId) (o : Option Call) → call_of w id ≡ o → For (rejected w id o)
  rejected_holds id None is = unchanged (Some id) CallUnknown
  rejected_holds id (Some c) is = at_open (is_some c.offer)
    where
      a : Of c
      a = is_found _ w.calls c is

      at_first : (b : Bool) → eqb c.generations 0 ≡ b → For (rejected_to w c (Ok (cond b None (Some (record c { offer = None; moment = w.moment })))))
      at_first true first = λ o. ending_holds c why.Rejected a
      at_first false first = λ o. (
        (λ s. knows s ∙ sym (same_in_place w before c (record c { offer = None; moment = w.moment }) a refl refl refl s)),
        each_with_call Begun (record c { offer = None; moment = w.moment }) w.calls (ap not first) begun,
        tt,
      )

      at_open : (b : Bool) → For (rejected_to w c (cond b (Ok (cond (eqb c.generations 0) None (Some (record c { offer = None; moment = w.moment })))) (Err State)))
      at_open true = at_first (eqb c.generations 0) refl
      at_open false = unchanged (Some c.id) State

  left_holds : (id : CallId) (o : Option Call) → call_of w id ≡ o → For (left w id o)
  left_holds id None is = unchanged (Some id) CallUnknown
  left_holds id (Some c) is = λ o. ending_holds c why.Bye (is_found _ w.calls c is)

  offered_holds : (id : CallId) (way : Way) (noise text : List ℕ) (o : Option Call) → call_of w id ≡ o → For (offered_to w id way noise text o)
  offered_holds id way noise text None is = both For (is_full w) _ _ (unchanged (Some id) TableFull)
      (new_holds id (tells_text id (other_side (side_of way))) false (λ r x s. refl) (λ r x. (tt, tt)) is (offered_in w.moment w.books (new_call w id) way noise text)
      (λ r e. let from = (offered_from w.moment w.books (new_call w id) way noise text r e).2 in (from.slot, from.seen ∙ ap (λ n. new_seen id n false) (sym from.media_is), from.begun)))
  offered_holds id way noise text (Some c) is =
      let a = is_found _ w.calls c is in
      old_holds id (tells_text id (other_side (side_of way))) false (λ r x s. refl) (λ r x. (tt, tt)) c a (same_call_id id c w.calls is) (offered_in w.moment w.books c way noise text)
      (λ r e. let from = offered_from w.moment w.books c way noise text r e in
      subst (λ n. IsFrom c n (not (eqb c.generations 0)) r) (same_media count w.moment w.books c way noise text from.0 (begun_at c a) from.1) from.2)

  answered_holds : (id : CallId) (noise text : List ℕ) (o : Option Call) → call_of w id ≡ o → For (answered w id noise text o)
  answered_holds id noise text None is = unchanged (Some id) CallUnknown
  answered_holds id noise text (Some c) is =
      old_holds id (tells_answer id (offering_side c.offer)) true (λ r x s. live_look id x s) (λ r x. (tt, (tt, tt))) c (is_found _ w.calls c is) (same_call_id id c w.calls is) (answered_in w.moment w.books c noise text)
      (λ r e. answered_from w.moment w.books c noise text r c.offer e)

  pub signal_holds : (signal : Signal) → For (answer_to w signal)
  signal_holds (Tick now) = tick_holds now
  signal_holds (Psk p) = both For (has_pair w.books.pairs p.own p.peer) _ _ (unchanged None PskKnown)
      (both For (ltb (length w.books.pairs) 64) _ _ (λ o. (knows, begun, tt)) (unchanged None PskFull))
  signal_holds (Manual h) = go (call_of w h.id) refl
    where
      new_manual : call_of w h.id ≡ None → For (in_new w h.id (tells_live h.id) (keyed_manually w.moment w.books (new_call w h.id) (manual_medium h)))
      new_manual none = new_holds h.id (tells_live h.id) true (λ r x s. live_look h.id x s) (λ r x. (tt, tt)) none (keyed_manually w.moment w.books (new_call w h.id) (manual_medium h))
          (λ r e.
          let at = stop_if_is (has_begun (new_call w h.id)) State _ r e in
          let from = keyed_from w.moment w.books (record (new_call w h.id) { media = 1; manual = true }) [] (Some (manual_medium h) ∷ []) r at.1 in
          (from.slot, from.seen ∙ ap (λ n. new_seen h.id n true) (sym from.media_is), from.begun))

      go : (o : Option Call) → call_of w h.id ≡ o → For (cond (is_some o) (refused w (Some h.id) CallKnown) (cond (is_full w) (refused w (Some h.id) TableFull) (in_new w h.id (tells_live h.id) (keyed_manually w.moment w.books (new_call w h.id) (manual_medium h)))))
      go (Some c) is = unchanged (Some h.id) CallKnown
      go None is = both For (is_full w) _ _ (unchanged (Some h.id) TableFull) (new_manual is)
  signal_holds (Offered id way noise text) = offered_holds id way noise text (call_of w id) refl
  signal_holds (Answered id noise text) = answered_holds id noise text (call_of w id) refl
  signal_holds (Reject id) = rejected_holds id (call_of w id) refl
  signal_holds (Bye id) = left_holds id (call_of w id) refl

-- ---- a datagram

-- it changes nothing that is known
abbrev pub Same : World → World → Type 0
Same w v = ((s : ℕ) → at_slot v.calls s ≡ at_slot w.calls s) × AllByRecursion Begun v.calls

module _ (w : World) (orderly : IsOrderly w) (begun : AllByRecursion Begun w.calls) where
  put_same : (port : ℕ) (c : Call) (s : Session) (t : Taken) (octets : List ℕ) → Any (λ x. x ≡ c) w.calls → Same w (given_to w port (put w.moment c s t octets)).world
  put_same port c s t octets a = (
    same_in_place w (pairs_from IsBefore w.calls orderly.rising) c (call_after w.moment c s t) a refl refl refl,
    each_with_call Begun (call_after w.moment c s t) w.calls (each_at_this Begun w.calls c begun a) begun,
  )

  given_same : (port : ℕ) (d : List ℕ) (c : Call) → Any (λ x. x ≡ c) w.calls → (g : Given) → Arrival w.moment port d c g → Same w (given_to w port g).world
  given_same port d c a g (IsDrop cause is) = subst (λ g. Same w (given_to w port g).world) (sym is) ((λ s. refl), begun)
  given_same port d c a g (IsOpening o) = subst (λ g. Same w (given_to w port g).world) (sym o.gives) (put_same port c o.session o.taken o.taken.done.packet a)
  given_same port d c a g (IsSeal o) = subst (λ g. Same w (given_to w port g).world) (sym o.gives) (put_same port c o.session o.taken (datagram_of o.session o.taken) a)

  arrived_same : (port : ℕ) (from : Address) (d : List ℕ) (o : Option Call) → call_at w port ≡ o → Same w (arrived_at w port from d o).world
  arrived_same port from d None is = ((λ s. refl), begun)
  arrived_same port from d (Some c) is = given_same port d c (is_found _ w.calls c is) (arrived_in w.moment port from d c) (arrival w.moment port from d c)

  pub datagram_same : (port : ℕ) (from : Address) (d : Octets) → Same w (step w (Datagram port from d)).world
  datagram_same port from d = arrived_same port from d.items (call_at w port) refl
