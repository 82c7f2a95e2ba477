-- After each event the ports that are held are those of the calls that are there.
use Rattle.std.proofs.Common.{◌≡◌, ◌⊎◌, inl, inr, ℕ, ◌+◌, ◌<◌, ◌≤◌, Bool, true, false, cond, not, ◌||◌, List, [], ◌∷◌, ◌++◌, Option, Some, None, Result, Ok, Err, refl, sym, ap, ◌∙◌, subst, arith, eqb, ltb, append-nil, is_some}
use Rattle.std.proofs.lemmas.List.Elements.{recursion_from_All}
use Rattle.sg_agreement.specs.Answers.{agreed_answer}
use Rattle.sg_agreement.specs.Generations.{generation_of}
use Rattle.sg_agreement.specs.Keying.{Offer}
use Rattle.sg_agreement.specs.Manual.{manual_medium}
use Rattle.sg_agreement.specs.Media.{Medium}
use Rattle.sg_agreement.specs.Messages.{AtHand}
use Rattle.sg_agreement.specs.Offers.{AgreedOffer, agreed_offer}
use Rattle.sg_agreement.specs.Sides.{side_of, other_side}
use Rattle.sg_agreement.specs.declared.ways.Way.{Way}
use Rattle.sg_base.specs.declared.addresses.Kind.{Kind}
use Rattle.sg_base.specs.declared.addresses.Kind.TheVariants.{Rtp, Rtcp}
use Rattle.sg_base.specs.declared.faults.Refusal.{Refusal}
use Rattle.sg_base.specs.declared.faults.Refusal.TheVariants.{State}
use Rattle.sg_outcome.specs.declared.outcomes.Why.TheVariants as why
use Rattle.sg_psk.specs.Pairs.{has_pair}
use Rattle.sg_session.specs.Opening.{Taken}
use Rattle.sg_session.specs.Sealing.{datagram_of}
use Rattle.sg_session.specs.declared.names.Direction.{Direction}
use Rattle.sg_session.specs.declared.names.Direction.TheVariants.{Opening, Sealing}
use Rattle.sg_session.specs.Session.{Session}
use Rattle.sg_session.proofs.Inversions.{after_ok_is, stop_if_is, ok_is}
use Rattle.sg_gateway.proofs.Arrivals.{Arrival, IsDrop, IsOpening, IsSeal, arrival}
use Rattle.sg_gateway.proofs.Ordered.{one_serial}
use Rattle.sg_gateway.proofs.Signals.{is_found, each_and_call, each_with_call}
use Rattle.sg_gateway.specs.CallSignals.{has_begun, keyed_manually, at_hand, takes_offer, offered_in, answered_to, answered_in, is_idle, call_at_tick, drops_earlier, without_earlier}
use Rattle.sg_gateway.specs.Generations.{Settled, keyed}
use Rattle.sg_relay.proofs.Common.{Address, AllByRecursion, Answer, Answered, Any, AreOfMedia, Books, Bye, Call, CallId, Datagram, Event, Given, IsBefore}
use Rattle.sg_relay.proofs.Common.{IsOrderly, Manual, Offered, Outcome, Pairs, Psk, Reject, Signal, Signalled, Tick, Why, World, and_call, answer_to}
use Rattle.sg_relay.proofs.Common.{answered, arrived_at, arrived_in, both, call_after, call_at, call_of, each_at_this, each_filter, each_map, each_of}
use Rattle.sg_relay.proofs.Common.{each_weaker, eq-eqb, eqb-true, false≢true, filter, flat_map, given_to, has_port, held_after, in_new, in_old, is_full, left}
use Rattle.sg_relay.proofs.Common.{leg_of, ne_eqb, new_call, offered_to, offering_side, or_left, or_right, other_direction, pairs_from, port_at, port_out}
use Rattle.sg_relay.proofs.Common.{put, refused, rejected, rejected_to, step, tells_answer, tells_ended, tells_live, tells_text, ticked, with_call}
use Rattle.sg_relay.proofs.Common.{without_call}
use Rattle.sg_relay.proofs.Asks.{asked_by}
use Rattle.sg_relay.proofs.Held.{AreFit}
use Rattle.sg_relay.proofs.CallPorts.{Apart, apart_from, all_ended, ended_fit, ended_in, ended_other, has_within, made_asks, made_fit, made_held, none_has, of_calls, of_map, of_one, others_have, parted, tested_held}

-- a call that is there has an open offer or a generation
abbrev pub Begun : Call → Type 0
Begun c = has_begun c ≡ true

-- What an answer, or what a datagram gives, does to the ports: what it asks for fits, and then those of the calls are held.
pub record Accounts (w : World) (told : List Outcome) (v : World) : Type 0 where
  pub fit : AreFit (λ port. of_calls port w.calls) (flat_map asked_by told)
  pub held : (port : ℕ) → held_after port (of_calls port w.calls) (flat_map asked_by told) ≡ of_calls port v.calls
  pub begun : AllByRecursion Begun v.calls

-- ---- a call as it was settled from another

record IsFrom (c : Call) (r : Settled) : Type 0 where
  serial : r.call.serial ≡ c.serial
  slot : r.call.slot ≡ c.slot
  begun : Begun r.call

abbrev pub HasFew : Type 0
HasFew = (h : AtHand) (way : Way) (text : List ℕ) (a : AgreedOffer) (count : ℕ) → agreed_offer h way text ≡ Ok a → h.media ≡ Some count → a.media ≡ count

renewed_begun : (n : ℕ) (o : Bool) → o || not (eqb (n + 1) 0) ≡ true
renewed_begun n o = or_right o _ (ap not (ne_eqb (n + 1) 0 (λ same. omega (arith, same))))

keyed_from : (now : ℕ) (books : Books) (c : Call) (text : List ℕ) (media : List (Option Medium)) (r : Settled) → keyed now books c text media ≡ Ok r → IsFrom c r × (r.call.media ≡ c.media)
keyed_from now books c text media r e =
    let a = after_ok_is (generation_of c.serial c.generations books.ring media) _ r e in
    subst (λ (r : Settled). IsFrom c r × (r.call.media ≡ c.media)) (ok_is _ r a.2) (record { serial = refl; slot = refl; begun = renewed_begun c.generations false }, refl)

offered_from : (now : ℕ) (books : Books) (c : Call) (way : Way) (noise text : List ℕ) (r : Settled) → offered_in now books c way noise text ≡ Ok r
    → IsFrom c r × (a : AgreedOffer) × (agreed_offer (at_hand now books c noise) way text ≡ Ok a) × (r.call.media ≡ a.media)
offered_from now books c way noise text r e =
    let a = stop_if_is (not (takes_offer c)) State _ r e in
    let b = after_ok_is (agreed_offer (at_hand now books c noise) way text) _ r a.1 in
    let is = ok_is _ r b.2 in
    (subst (IsFrom c) is (record { serial = refl; slot = refl; begun = refl }), b.0, b.1, sym (ap (λ (r : Settled). r.call.media) is))

answered_from : (now : ℕ) (books : Books) (c : Call) (noise text : List ℕ) (r : Settled) (o : Option Offer) → answered_to now books c noise text o ≡ Ok r → IsFrom c r × (r.call.media ≡ c.media)
answered_from now books c noise text r None e = absurd cc
answered_from now books c noise text r (Some o) e =
    let a = after_ok_is (agreed_answer c.slot o noise text) (λ a. keyed now books c a.text a.media) r e in
    keyed_from now books c a.0.text a.0.media r a.2

-- an offer to a call that has begun has as many media as the call
same_media : HasFew → (now : ℕ) (books : Books) (c : Call) (way : Way) (noise text : List ℕ) (a : AgreedOffer) → Begun c → agreed_offer (at_hand now books c noise) way text ≡ Ok a → a.media ≡ c.media
same_media few now books c way noise text a begun e = few (at_hand now books c noise) way text a c.media e (ap (λ b. let o : Option ℕ = cond b (Some c.media) None in o) begun)

-- ---- what is told without an ask

none_asked : (w v : World) (told : List Outcome) → flat_map asked_by told ≡ [] → ((port : ℕ) → of_calls port w.calls ≡ of_calls port v.calls) → AllByRecursion Begun v.calls → Accounts w told v
none_asked w v told none same begun = record {
  fit = subst (AreFit (λ port. of_calls port w.calls)) (sym none) tt;
  held = λ port. ap (held_after port (of_calls port w.calls)) none ∙ same port;
  begun = begun;
}

module _ (few : HasFew) (w : World) (orderly : IsOrderly w) (begun : AllByRecursion Begun w.calls) where
  abbrev Of : Call → Type 0
  Of c = Any (λ x. x ≡ c) w.calls

  before : Pairs IsBefore w.calls
  before = pairs_from IsBefore w.calls orderly.rising

  apart : Pairs Apart w.calls
  apart = apart_from w.calls (recursion_from_All (λ c. c.media ≤ 4) w.calls orderly.media) before

  begun_at : (c : Call) → Of c → Begun c
  begun_at c a = each_at_this Begun w.calls c begun a

  -- the answer in a world in which calls stand apart, as they do after each event
  abbrev For : Answer → Type 0
  For a = IsOrderly a.world → Accounts w a.outcomes a.world

  unchanged : (id : Option CallId) (cause : Refusal) → For (refused w id cause)
  unchanged id cause = λ o. none_asked w w _ refl (λ port. refl) begun

  -- a call in the place of the one that it was
  same_ports : (c d : Call) → Of c → d.serial ≡ c.serial → d.slot ≡ c.slot → d.media ≡ c.media → (port : ℕ) → of_calls port w.calls ≡ of_calls port (with_call d w.calls)
  same_ports c d a serial slot media port = sym (of_map port (λ x. cond (eqb x.serial d.serial) d x) w.calls
      (each_weaker (λ x. x.serial ≡ c.serial → x ≡ c) (λ x. has_port port (cond (eqb x.serial d.serial) d x) ≡ has_port port x) (λ x one. at x one (eqb x.serial d.serial) refl) w.calls (one_serial c w.calls before a)))
    where
      at : (x : Call) → (x.serial ≡ c.serial → x ≡ c) → (b : Bool) → eqb x.serial d.serial ≡ b → has_port port (cond b d x) ≡ has_port port x
      at x one false is = refl
      at x one true is =
          let same : x ≡ c = one (eqb-true _ _ is ∙ serial) in
          (λ i. Rattle.sg_gateway.specs.Ports.is_in_slot (slot i) (media i) port) ∙ ap (has_port port) (sym same)

  in_place : (c d : Call) (books : Books) (told : List Outcome) → flat_map asked_by told ≡ [] → Of c → d.serial ≡ c.serial → d.slot ≡ c.slot → d.media ≡ c.media → Begun d
      → Accounts w told (record w { calls = with_call d w.calls; books = books })
  in_place c d books told none a serial slot media is = none_asked w _ told none (same_ports c d a serial slot media) (each_with_call Begun d w.calls is begun)

  new_accounts : (id : CallId) (told : Settled → List Outcome) → ((r : Settled) → flat_map asked_by (told r) ≡ []) → (q : Result Settled Refusal) → ((r : Settled) → q ≡ Ok r → Begun r.call) → For (in_new w id told q)
  new_accounts id told none (Err cause) settled = unchanged (Some id) cause
  new_accounts id told none (Ok r) settled = λ o.
      let apart : Pairs Apart (and_call r.call w.calls) =
      apart_from (and_call r.call w.calls) (recursion_from_All (λ c. c.media ≤ 4) (and_call r.call w.calls) o.media) (pairs_from IsBefore (and_call r.call w.calls) o.rising) in
      let asks : made_asks r.call ++ flat_map asked_by (told r) ≡ made_asks r.call = ap (λ l. made_asks r.call ++ l) (none r) ∙ append-nil (made_asks r.call) in
      record {
        fit = subst (AreFit (λ port. of_calls port w.calls)) (sym asks) (made_fit r.call w.calls apart);
        held = λ port. ap (held_after port (of_calls port w.calls)) asks ∙ made_held port r.call w.calls;
        begun = each_and_call Begun r.call w.calls (settled r refl) begun;
      }

  old_accounts : (id : CallId) (told : Settled → List Outcome) → ((r : Settled) → flat_map asked_by (told r) ≡ []) → (c : Call) → Of c → (q : Result Settled Refusal)
      → ((r : Settled) → q ≡ Ok r → IsFrom c r × (r.call.media ≡ c.media)) → For (in_old w id told q)
  old_accounts id told none c a (Err cause) settled = unchanged (Some id) cause
  old_accounts id told none c a (Ok r) settled = λ o.
      let is = settled r refl in in_place c r.call r.books (told r) (none r) a is.0.serial is.0.slot is.1 is.0.begun

  ending_accounts : (c : Call) (reason : Why) → Of c → Accounts w (tells_ended reason c ∷ []) (record w { calls = without_call c.serial w.calls })
  ending_accounts c reason a = record {
    fit = ended_fit (λ port. of_calls port w.calls) reason (c ∷ []) (tt, tt) (λ port has. its_own port (only port has));
    held = λ port. go port (has_port port c) refl;
    begun = each_filter Begun _ w.calls begun;
  }
    where
      test : Call → Bool
      test x = eqb x.serial c.serial

      only : (port : ℕ) → has_port port c || false ≡ true → has_port port c ≡ true
      only port has = elim (Rattle.std.proofs.lemmas.Bool.or_cases (has_port port c) false has) [ inl is ↦ is | inr none ↦ absurd (false≢true none) ]

      kept : (port : ℕ) (cs : List Call) → Any (λ x. x ≡ c) cs → has_port port c ≡ true → of_calls port (filter test cs) ≡ true
      kept port [] a has = absurd (Rattle.sg_session.proofs.Lists.any_none (λ x. x ≡ c) a)
      kept port (x ∷ cs) a has = at (kept port cs) (test x) refl (Rattle.sg_session.proofs.Lists.any_cases (λ x. x ≡ c) x cs a)
        where
          at : (Any (λ x. x ≡ c) cs → has_port port c ≡ true → of_calls port (filter test cs) ≡ true) → (b : Bool) → test x ≡ b → (x ≡ c) ⊎ Any (λ x. x ≡ c) cs → of_calls port (cond b (x ∷ filter test cs) (filter test cs)) ≡ true
          at more true is (inl same) = or_left _ _ (ap (has_port port) same ∙ has)
          at more true is (inr there) = or_right _ _ (more there has)
          at more false is (inl same) = absurd (false≢true (sym is ∙ eq-eqb x.serial c.serial (ap (λ (c : Call). c.serial) same)))
          at more false is (inr there) = more there has

      none_kept : (port : ℕ) → has_port port c ≡ false → of_calls port (filter test w.calls) ≡ false
      none_kept port has = none_has port (filter test w.calls)
          (Rattle.sg_gateway.proofs.Pairs.each_two (λ x. x.serial ≡ c.serial → x ≡ c) (λ x. (test x ≡ true) × Any (λ y. y ≡ x) w.calls) (λ x. has_port port x ≡ false)
          (λ x one is. ap (has_port port) (one (eqb-true _ _ is.0)) ∙ has)
          (filter test w.calls) (each_filter _ test w.calls (one_serial c w.calls before a)) (Rattle.sg_gateway.proofs.Arrivals.kept_by test w.calls))

      its_own : (port : ℕ) → has_port port c ≡ true → of_calls port w.calls ≡ true
      its_own port has = of_one port c w.calls a has

      go : (port : ℕ) (b : Bool) → has_port port c ≡ b → held_after port (of_calls port w.calls) (all_ended reason (c ∷ [])) ≡ of_calls port (without_call c.serial w.calls)
      go port true has =
          ended_in port (of_calls port w.calls) reason (c ∷ []) (or_left _ _ has) ∙ sym (parted port test w.calls apart (kept port w.calls a has))
      go port false none =
          ended_other port (of_calls port w.calls) reason (c ∷ []) (Rattle.std.proofs.lemmas.Bool.or_from _ _ none refl) ∙ sym (others_have port test w.calls (none_kept port none))

  tick_accounts : (now : ℕ) → For (ticked w now)
  tick_accounts now = both For (ltb now w.moment) _ _ (unchanged None _) (λ o. record {
    fit = ended_fit (λ port. of_calls port w.calls) why.Idle (filter (is_idle now) w.calls)
        (Rattle.sg_gateway.proofs.Ordered.pairs_filter Apart (is_idle now) w.calls apart) (λ port has. in_all port w.calls has);
    held = λ port. tested_held port why.Idle (is_idle now) w.calls apart
        ∙ sym (of_map port (call_at_tick now) (filter (λ c. not (is_idle now c)) w.calls) (each_of _ (λ c. at port c (drops_earlier now c)) _));
    begun = each_map Begun Begun (call_at_tick now) (λ c is. both Begun (drops_earlier now c) (without_earlier c) c is is) _ (each_filter Begun (λ c. not (is_idle now c)) w.calls begun);
  })
    where
      at : (port : ℕ) (c : Call) (b : Bool) → has_port port (cond b (without_earlier c) c) ≡ has_port port c
      at port c true = refl
      at port c false = refl

      in_all : (port : ℕ) (cs : List Call) → of_calls port (filter (is_idle now) cs) ≡ true → of_calls port cs ≡ true
      in_all port [] has = has
      in_all port (c ∷ cs) has = go (in_all port cs) (is_idle now c) has
        where
          go : (of_calls port (filter (is_idle now) cs) ≡ true → of_calls port cs ≡ true) → (b : Bool) → of_calls port (cond b (c ∷ filter (is_idle now) cs) (filter (is_idle now) cs)) ≡ true → has_port port c || of_calls port cs ≡ true
          go more true has = elim (Rattle.std.proofs.lemmas.Bool.or_cases (has_port port c) _ has) [ inl here ↦ or_left _ _ here | inr there ↦ or_right _ _ (more there) ]
          go more false has = or_right _ _ (more has)

  rejected_accounts : (id : CallId) (o : Option Call) → call_of w id ≡ o → For (rejected w id o)
  rejected_accounts id None is = unchanged (Some id) _
  rejected_accounts id (Some c) is = at_open (is_some c.offer)
    where
      a : Of c
      a = is_found _ w.calls c is

      at_first : (b : Bool) → eqb c.generations 0 ≡ b → For (rejected_to w c (Ok (cond b None (Some (record c { offer = None; moment = w.moment })))))
      at_first true first = λ o. ending_accounts c why.Rejected a
      at_first false first = λ o. in_place c (record c { offer = None; moment = w.moment }) w.books [] refl a refl refl refl (ap not first)

      at_open : (b : Bool) → For (rejected_to w c (cond b (Ok (cond (eqb c.generations 0) None (Some (record c { offer = None; moment = w.moment })))) (Err State)))
      at_open true = at_first (eqb c.generations 0) refl
      at_open false = unchanged (Some c.id) State

  left_accounts : (id : CallId) (o : Option Call) → call_of w id ≡ o → For (left w id o)
  left_accounts id None is = unchanged (Some id) _
  left_accounts id (Some c) is = λ o. ending_accounts c why.Bye (is_found _ w.calls c is)

  offered_accounts : (id : CallId) (way : Way) (noise text : List ℕ) (o : Option Call) → call_of w id ≡ o → For (offered_to w id way noise text o)
  offered_accounts id way noise text None is = both For (is_full w) _ _ (unchanged (Some id) _)
      (new_accounts id (tells_text id (other_side (side_of way))) (λ r. refl) (offered_in w.moment w.books (new_call w id) way noise text)
      (λ r e. (offered_from w.moment w.books (new_call w id) way noise text r e).0.begun))
  offered_accounts id way noise text (Some c) is =
      let a = is_found _ w.calls c is in
      old_accounts id (tells_text id (other_side (side_of way))) (λ r. refl) c a (offered_in w.moment w.books c way noise text)
      (λ r e. let from = offered_from w.moment w.books c way noise text r e in (from.0, from.3 ∙ same_media few w.moment w.books c way noise text from.1 (begun_at c a) from.2))

  answered_accounts : (id : CallId) (noise text : List ℕ) (o : Option Call) → call_of w id ≡ o → For (answered w id noise text o)
  answered_accounts id noise text None is = unchanged (Some id) _
  answered_accounts id noise text (Some c) is =
      old_accounts id (tells_answer id (offering_side c.offer)) (λ r. refl) c (is_found _ w.calls c is) (answered_in w.moment w.books c noise text)
      (λ r e. answered_from w.moment w.books c noise text r c.offer e)

  signal_accounts : (signal : Signal) → For (answer_to w signal)
  signal_accounts (Tick now) = tick_accounts now
  signal_accounts (Psk p) = both For (has_pair w.books.pairs p.own p.peer) _ _ (unchanged None _)
      (both For (ltb (Rattle.std.proofs.Common.length w.books.pairs) 64) _ _ (λ o. none_asked w _ [] refl (λ port. refl) begun) (unchanged None _))
  signal_accounts (Manual h) = both For (is_some (call_of w h.id)) _ _ (unchanged (Some h.id) _) (both For (is_full w) _ _ (unchanged (Some h.id) _)
      (new_accounts h.id (tells_live h.id) (λ r. refl) (keyed_manually w.moment w.books (new_call w h.id) (manual_medium h))
      (λ r e. let at = stop_if_is (has_begun (new_call w h.id)) State _ r e in (keyed_from w.moment w.books (record (new_call w h.id) { media = 1; manual = true }) [] (Some (manual_medium h) ∷ []) r at.1).0.begun)))
  signal_accounts (Offered id way noise text) = offered_accounts id way noise text (call_of w id) refl
  signal_accounts (Answered id noise text) = answered_accounts id noise text (call_of w id) refl
  signal_accounts (Reject id) = rejected_accounts id (call_of w id) refl
  signal_accounts (Bye id) = left_accounts id (call_of w id) refl

  -- ---- datagrams

  -- a session's packets go out from a port of its call
  leg_low : (d : Direction) (k : Kind) → leg_of d k < 4
  leg_low Opening Rtp = omega arith
  leg_low Opening Rtcp = omega arith
  leg_low Sealing Rtp = omega arith
  leg_low Sealing Rtcp = omega arith

  out_held : (c : Call) (s : Session) → Of c → Any (λ x. x ≡ s) c.sessions → of_calls (port_out c s) w.calls ≡ true
  out_held c s a b =
      let lt : s.name.owner.medium < c.media = each_at_this (λ (s : Session). s.name.owner.medium < c.media) c.sessions s (each_at_this AreOfMedia w.calls c (recursion_from_All AreOfMedia w.calls orderly.placed) a) b in
      let leg : ℕ = leg_of (other_direction s.name.owner.direction) s.name.kind in
      let low = leg_low (other_direction s.name.owner.direction) s.name.kind in
      of_one (port_out c s) c w.calls a (has_within (port_at c.slot s.name.owner.medium leg) c (omega arith) (omega (arith, lt, low)))

  put_accounts : (port : ℕ) (c : Call) (s : Session) (t : Taken) (octets : List ℕ) → Of c → Any (λ x. x ≡ s) c.sessions
      → Accounts w (given_to w port (put w.moment c s t octets)).outcomes (given_to w port (put w.moment c s t octets)).world
  put_accounts port c s t octets a b = record {
    fit = (out_held c s a b, tt);
    held = λ port. same_ports c (call_after w.moment c s t) a refl refl refl port;
    begun = each_with_call Begun (call_after w.moment c s t) w.calls (begun_at c a) begun;
  }

  given_accounts : (port : ℕ) (d : List ℕ) (c : Call) → Of c → (g : Given) → Arrival w.moment port d c g → Accounts w (given_to w port g).outcomes (given_to w port g).world
  given_accounts port d c a g (IsDrop cause is) = subst (λ g. Accounts w (given_to w port g).outcomes (given_to w port g).world) (sym is) (none_asked w w _ refl (λ port. refl) begun)
  given_accounts port d c a g (IsOpening o) = subst (λ g. Accounts w (given_to w port g).outcomes (given_to w port g).world) (sym o.gives) (put_accounts port c o.session o.taken o.taken.done.packet a o.is_held)
  given_accounts port d c a g (IsSeal o) = subst (λ g. Accounts w (given_to w port g).outcomes (given_to w port g).world) (sym o.gives) (put_accounts port c o.session o.taken (datagram_of o.session o.taken) a o.is_held)

  arrived_accounts : (port : ℕ) (from : Address) (d : List ℕ) (o : Option Call) → call_at w port ≡ o → Accounts w (arrived_at w port from d o).outcomes (arrived_at w port from d o).world
  arrived_accounts port from d None is = none_asked w w _ refl (λ port. refl) begun
  arrived_accounts port from d (Some c) is = given_accounts port d c (is_found _ w.calls c is) (arrived_in w.moment port from d c) (arrival w.moment port from d c)

  pub event_accounts : (e : Event) → IsOrderly (step w e).world → Accounts w (step w e).outcomes (step w e).world
  event_accounts (Signalled signal) orderly = signal_accounts signal orderly
  event_accounts (Datagram port from d) orderly = arrived_accounts port from d.items (call_at w port) refl
