-- What holds in each case of a step holds of every step.
use Rattle.std.proofs.Common.{◌≡◌, ℕ, ◌≤◌, Bool, true, false, cond, not, List, [], ◌∷◌, ◌++◌, length, map, Option, Some, None, Result, Ok, Err, refl, sym, ap, ◌∙◌, subst, eqb, ltb, eqb-true}
use Rattle.std.proofs.lemmas.Bool.{ltb-false}
use Rattle.std.specs.Option.{is_some}
use Rattle.sg_agreement.specs.Generations.{Generation, generation_of, keys_from, sessions_from}
use Rattle.sg_base.specs.declared.faults.DropCause.TheVariants.{PortUnused}
use Rattle.sg_base.specs.declared.faults.Refusal.TheVariants.{CallKnown, CallUnknown, PskFull, PskKnown, State, TableFull, TickBack}
use Rattle.sg_outcome.specs.declared.outcomes.Why.TheVariants as why
use Rattle.sg_psk.specs.Pairs.{has_pair}
use Rattle.sg_session.specs.Ring.{Installed, install}
use Rattle.sg_gateway.proofs.Common.{Address, AgreedAnswer, AgreedOffer, Any, Books, Call, CallId, DropCause, ManualCall, Medium, Offer, Pair, Refusal, Session}
use Rattle.sg_gateway.proofs.Common.{Taken, Way, World, after_ok_is, agreed_answer, agreed_offer, call_at, call_of, datagram_of, filter, is_full, manual_medium}
use Rattle.sg_gateway.proofs.Common.{ok_is, opened_new, other_side, seals_is, side_of, stop_if_is, with_call}
use Rattle.sg_gateway.proofs.Arrivals.{Arrival, Is, IsDrop, IsOpening, IsSeal, OpenedBy, SealedBy, arrival}
use Rattle.sg_session.proofs.Taking.{IsNewIn}
use Rattle.sg_gateway.specs.CallSignals.{answered_to, at_hand, call_at_tick, has_begun, is_idle, keyed_manually, offered_in, takes_offer, with_notes}
use Rattle.sg_gateway.specs.Datagrams.{Given, Happening, arrived_at, arrived_in, dropped, given_to, put}
use Rattle.sg_gateway.specs.Generations.{Settled, keyed, renewed}
use Rattle.sg_gateway.specs.Signals.{Signal, Tick, Psk, Manual, Offered, Answered, Reject, Bye, Answer, answer, answer_to, answered, ending, in_new, in_old, left, new_call, offered_to, offering_side, refused, rejected, rejected_to, tells_answer, tells_ended, tells_live, tells_text}

-- ---- what a call settles

module _ (now : ℕ) (books : Books) where
  abbrev by_generation : Call → List ℕ → Generation → Settled
  by_generation c text g = record { text = text; call = renewed now c g.sessions; books = record books { ring = g.ring } }

  -- the call under a new generation of these media, with this ring
  abbrev pub renewed_by : Call → List ℕ → List (Option Medium) → List Installed → Settled
  renewed_by c text media ring = by_generation c text (record { sessions = sessions_from c.serial c.generations 0 (length books.ring) media; ring = ring })

  -- the call with this open offer
  abbrev pub settled_offer : Call → AgreedOffer → Settled
  settled_offer c a = record {
    text = a.text;
    call = record c { media = a.media; offer = Some a.offer; moment = now };
    books = record books { noted = with_notes books.noted a.noted };
  }

  -- the ring takes in the keys of a new generation
  abbrev pub Installs : Call → List (Option Medium) → List Installed → Type 0
  Installs c media ring = install books.ring (keys_from c.serial c.generations 0 media) ≡ Ok ring

  pub keyed_is : (c : Call) (text : List ℕ) (media : List (Option Medium)) (r : Settled) → keyed now books c text media ≡ Ok r
      → (ring : List Installed) × Installs c media ring × (renewed_by c text media ring ≡ r)
  keyed_is c text media r e =
      let a = after_ok_is (generation_of c.serial c.generations books.ring media) _ r e in
      let b = after_ok_is (install books.ring (keys_from c.serial c.generations 0 media)) _ a.0 a.1 in
      (b.0, b.1, ap (by_generation c text) (ok_is _ a.0 b.2) ∙ ok_is _ r a.2)

  pub answered_is : (c : Call) (noise text : List ℕ) (o : Offer) (r : Settled) → answered_to now books c noise text (Some o) ≡ Ok r
      → (g : AgreedAnswer) × (agreed_answer c.slot o noise text ≡ Ok g) × (ring : List Installed) × Installs c g.media ring × (renewed_by c g.text g.media ring ≡ r)
  answered_is c noise text o r e =
      let a = after_ok_is (agreed_answer c.slot o noise text) (λ a. keyed now books c a.text a.media) r e in
      let k = keyed_is c a.0.text a.0.media r a.2 in
      (a.0, a.1, k.0, k.1, k.2)

  pub offered_is : (c : Call) (way : Way) (noise text : List ℕ) (r : Settled) → offered_in now books c way noise text ≡ Ok r
      → (a : AgreedOffer) × (agreed_offer (at_hand now books c noise) way text ≡ Ok a) × (settled_offer c a ≡ r)
  offered_is c way noise text r e =
      let a = stop_if_is (not (takes_offer c)) State _ r e in
      let b = after_ok_is (agreed_offer (at_hand now books c noise) way text) _ r a.1 in
      (b.0, b.1, ok_is _ r b.2)

-- ---- signals

module _ (w : World) where
  -- the call that is keyed manually, before its generation
  abbrev pub manual_call : ManualCall → Call
  manual_call h = record (new_call w h.id) { media = 1; manual = true }

  abbrev pub after_tick : ℕ → Answer
  after_tick now = answer (map (tells_ended why.Idle) (filter (is_idle now) w.calls))
      (record w { calls = map (call_at_tick now) (filter (λ c. not (is_idle now c)) w.calls); moment = now })

  abbrev pub after_pair : Pair → Answer
  after_pair p = answer [] (record w { books = record w.books { pairs = w.books.pairs ++ p ∷ [] } })

  abbrev pub after_rejection : Call → Answer
  after_rejection c = answer [] (record w { calls = with_call (record c { offer = None; moment = w.moment }) w.calls })

  module _ (h : ManualCall) (P : Answer → Type 0) (refuses : (cause : Refusal) → P (refused w (Some h.id) cause))
      (keys : call_of w h.id ≡ None → is_full w ≡ false → (ring : List Installed) → Installs w.moment w.books (manual_call h) (Some (manual_medium h) ∷ []) ring
      → P (in_new w h.id (tells_live h.id) (Ok (renewed_by w.moment w.books (manual_call h) [] (Some (manual_medium h) ∷ []) ring)))) where
    keyed_now : call_of w h.id ≡ None → is_full w ≡ false → (q : Result Settled Refusal) → keyed_manually w.moment w.books (new_call w h.id) (manual_medium h) ≡ q
        → P (in_new w h.id (tells_live h.id) q)
    keyed_now none room (Err cause) e = refuses cause
    keyed_now none room (Ok r) e =
        let a = stop_if_is (has_begun (new_call w h.id)) State (keyed w.moment w.books (manual_call h) [] (Some (manual_medium h) ∷ [])) r e in
        let is = keyed_is w.moment w.books (manual_call h) [] (Some (manual_medium h) ∷ []) r a.1 in
        subst (λ (r : Settled). P (in_new w h.id (tells_live h.id) (Ok r))) is.2 (keys none room is.0 is.1)

    keyed_at : (o : Option Call) → call_of w h.id ≡ o → (b : Bool) → is_full w ≡ b
        → P (cond (is_some o) (refused w (Some h.id) CallKnown) (cond b (refused w (Some h.id) TableFull)
        (in_new w h.id (tells_live h.id) (keyed_manually w.moment w.books (new_call w h.id) (manual_medium h)))))
    keyed_at (Some c) at b full = refuses CallKnown
    keyed_at None none true full = refuses TableFull
    keyed_at None none false room = keyed_now none room (keyed_manually w.moment w.books (new_call w h.id) (manual_medium h)) refl

    pub each_manual : P (answer_to w (Manual h))
    each_manual = keyed_at (call_of w h.id) refl (is_full w) refl

  module _ (id : CallId) (way : Way) (noise text : List ℕ) (P : Answer → Type 0) (refuses : (cause : Refusal) → P (refused w (Some id) cause))
      (begins : call_of w id ≡ None → is_full w ≡ false → (a : AgreedOffer) → agreed_offer (at_hand w.moment w.books (new_call w id) noise) way text ≡ Ok a
      → P (in_new w id (tells_text id (other_side (side_of way))) (Ok (settled_offer w.moment w.books (new_call w id) a))))
      (offers : (c : Call) → call_of w id ≡ Some c → (a : AgreedOffer) → agreed_offer (at_hand w.moment w.books c noise) way text ≡ Ok a
      → P (in_old w id (tells_text id (other_side (side_of way))) (Ok (settled_offer w.moment w.books c a)))) where
    new_offer : call_of w id ≡ None → is_full w ≡ false → (q : Result Settled Refusal) → offered_in w.moment w.books (new_call w id) way noise text ≡ q
        → P (in_new w id (tells_text id (other_side (side_of way))) q)
    new_offer none room (Err cause) e = refuses cause
    new_offer none room (Ok r) e =
        let is = offered_is w.moment w.books (new_call w id) way noise text r e in
        subst (λ (r : Settled). P (in_new w id (tells_text id (other_side (side_of way))) (Ok r))) is.2 (begins none room is.0 is.1)

    old_offer : (c : Call) → call_of w id ≡ Some c → (q : Result Settled Refusal) → offered_in w.moment w.books c way noise text ≡ q
        → P (in_old w id (tells_text id (other_side (side_of way))) q)
    old_offer c at (Err cause) e = refuses cause
    old_offer c at (Ok r) e =
        let is = offered_is w.moment w.books c way noise text r e in
        subst (λ (r : Settled). P (in_old w id (tells_text id (other_side (side_of way))) (Ok r))) is.2 (offers c at is.0 is.1)

    offer_at : (o : Option Call) → call_of w id ≡ o → P (offered_to w id way noise text o)
    offer_at (Some c) at = old_offer c at (offered_in w.moment w.books c way noise text) refl
    offer_at None none = go (is_full w) refl
      where
        go : (b : Bool) → is_full w ≡ b
            → P (cond b (refused w (Some id) TableFull) (in_new w id (tells_text id (other_side (side_of way))) (offered_in w.moment w.books (new_call w id) way noise text)))
        go true full = refuses TableFull
        go false room = new_offer none room (offered_in w.moment w.books (new_call w id) way noise text) refl

    pub each_offer : P (answer_to w (Offered id way noise text))
    each_offer = offer_at (call_of w id) refl

  module _ (id : CallId) (noise text : List ℕ) (c : Call) (P : Answer → Type 0) (refuses : (cause : Refusal) → P (refused w (Some id) cause))
      (answers : (o : Offer) → c.offer ≡ Some o → (g : AgreedAnswer) → agreed_answer c.slot o noise text ≡ Ok g → (ring : List Installed) → Installs w.moment w.books c g.media ring
      → P (in_old w id (tells_answer id o.side) (Ok (renewed_by w.moment w.books c g.text g.media ring)))) where
    of_offer : (o : Option Offer) → c.offer ≡ o → (q : Result Settled Refusal) → answered_to w.moment w.books c noise text o ≡ q → P (in_old w id (tells_answer id (offering_side o)) q)
    of_offer o is_open (Err cause) e = refuses cause
    of_offer None none (Ok r) e = absurd cc
    of_offer (Some o) is_open (Ok r) e =
        let is = answered_is w.moment w.books c noise text o r e in
        subst (λ (r : Settled). P (in_old w id (tells_answer id o.side) (Ok r))) is.4 (answers o is_open is.0 is.1 is.2 is.3)

    answer_in : P (answered w id noise text (Some c))
    answer_in = of_offer c.offer refl (answered_to w.moment w.books c noise text c.offer) refl

    -- the answer to the call of the id
    pub answer_of : call_of w id ≡ Some c → P (answer_to w (Answered id noise text))
    answer_of at = subst (λ o. P (answered w id noise text o)) (sym at) answer_in

  module _ (id : CallId) (P : Answer → Type 0) (refuses : (id : CallId) (cause : Refusal) → P (refused w (Some id) cause))
      (ends : (c : Call) → call_of w id ≡ Some c → c.generations ≡ 0 → P (ending w c why.Rejected))
      (closes : (c : Call) → call_of w id ≡ Some c → P (after_rejection c)) where
    rejection_of : (c : Call) → call_of w id ≡ Some c → (a b : Bool) → eqb c.generations 0 ≡ b
        → P (rejected_to w c (cond a (Ok (cond b None (Some (record c { offer = None; moment = w.moment })))) (Err State)))
    rejection_of c at true true none = ends c at (eqb-true c.generations 0 none)
    rejection_of c at true false some = closes c at
    rejection_of c at false b is = refuses c.id State

    rejection_at : (o : Option Call) → call_of w id ≡ o → P (rejected w id o)
    rejection_at None at = refuses id CallUnknown
    rejection_at (Some c) at = rejection_of c at (is_some c.offer) (eqb c.generations 0) refl

    pub each_rejection : P (answer_to w (Reject id))
    each_rejection = rejection_at (call_of w id) refl

  -- A signal is refused; or it is a tick that goes on, a pre-shared key that is taken, a call keyed manually, an
  -- offer that makes a call or is one of a call that is there, an answer, a rejection that ends the call or closes
  -- its offer, a bye.
  pub record SignalCases (P : Signal → Answer → Type 0) : Type 0 where
    pub refuses : (signal : Signal) (id : Option CallId) (cause : Refusal) → P signal (refused w id cause)
    pub ticks : (now : ℕ) → w.moment ≤ now → P (Tick now) (after_tick now)
    pub pairs : (p : Pair) → P (Psk p) (after_pair p)
    pub keys : (h : ManualCall) → call_of w h.id ≡ None → is_full w ≡ false → (ring : List Installed) → Installs w.moment w.books (manual_call h) (Some (manual_medium h) ∷ []) ring
        → P (Manual h) (in_new w h.id (tells_live h.id) (Ok (renewed_by w.moment w.books (manual_call h) [] (Some (manual_medium h) ∷ []) ring)))
    pub begins : (id : CallId) (way : Way) (noise text : List ℕ) → call_of w id ≡ None → is_full w ≡ false → (a : AgreedOffer)
        → agreed_offer (at_hand w.moment w.books (new_call w id) noise) way text ≡ Ok a
        → P (Offered id way noise text) (in_new w id (tells_text id (other_side (side_of way))) (Ok (settled_offer w.moment w.books (new_call w id) a)))
    pub offers : (id : CallId) (way : Way) (noise text : List ℕ) (c : Call) → call_of w id ≡ Some c → (a : AgreedOffer)
        → agreed_offer (at_hand w.moment w.books c noise) way text ≡ Ok a
        → P (Offered id way noise text) (in_old w id (tells_text id (other_side (side_of way))) (Ok (settled_offer w.moment w.books c a)))
    pub answers : (id : CallId) (noise text : List ℕ) (c : Call) → call_of w id ≡ Some c → (o : Offer) → c.offer ≡ Some o → (g : AgreedAnswer)
        → agreed_answer c.slot o noise text ≡ Ok g → (ring : List Installed) → Installs w.moment w.books c g.media ring
        → P (Answered id noise text) (in_old w id (tells_answer id o.side) (Ok (renewed_by w.moment w.books c g.text g.media ring)))
    pub rejects : (id : CallId) (c : Call) → call_of w id ≡ Some c → c.generations ≡ 0 → P (Reject id) (ending w c why.Rejected)
    pub closes : (id : CallId) (c : Call) → call_of w id ≡ Some c → P (Reject id) (after_rejection c)
    pub leaves : (id : CallId) (c : Call) → call_of w id ≡ Some c → P (Bye id) (ending w c why.Bye)

  module _ (P : Signal → Answer → Type 0) (cases : SignalCases P) where
    tick_at : (now : ℕ) (b : Bool) → ltb now w.moment ≡ b → P (Tick now) (cond b (refused w None (TickBack w.moment)) (after_tick now))
    tick_at now true back = cases.refuses (Tick now) None (TickBack w.moment)
    tick_at now false on = cases.ticks now (ltb-false now w.moment on)

    pair_at : (p : Pair) (a b : Bool) → P (Psk p) (cond a (refused w None PskKnown) (cond b (after_pair p) (refused w None PskFull)))
    pair_at p true b = cases.refuses (Psk p) None PskKnown
    pair_at p false true = cases.pairs p
    pair_at p false false = cases.refuses (Psk p) None PskFull

    answer_at : (id : CallId) (noise text : List ℕ) (o : Option Call) → call_of w id ≡ o → P (Answered id noise text) (answered w id noise text o)
    answer_at id noise text None at = cases.refuses (Answered id noise text) (Some id) CallUnknown
    answer_at id noise text (Some c) at = answer_in id noise text c (P (Answered id noise text)) (cases.refuses (Answered id noise text) (Some id)) (cases.answers id noise text c at)

    bye_at : (id : CallId) (o : Option Call) → call_of w id ≡ o → P (Bye id) (left w id o)
    bye_at id None at = cases.refuses (Bye id) (Some id) CallUnknown
    bye_at id (Some c) at = cases.leaves id c at

    pub each_signal : (signal : Signal) → P signal (answer_to w signal)
    each_signal (Tick now) = tick_at now (ltb now w.moment) refl
    each_signal (Psk p) = pair_at p (has_pair w.books.pairs p.own p.peer) (ltb (length w.books.pairs) 64)
    each_signal (Manual h) = each_manual h (P (Manual h)) (cases.refuses (Manual h) (Some h.id)) (cases.keys h)
    each_signal (Offered id way noise text) =
        each_offer id way noise text (P (Offered id way noise text)) (cases.refuses (Offered id way noise text) (Some id)) (cases.begins id way noise text) (cases.offers id way noise text)
    each_signal (Answered id noise text) = answer_at id noise text (call_of w id) refl
    each_signal (Reject id) = each_rejection id (P (Reject id)) (λ i. cases.refuses (Reject id) (Some i)) (cases.rejects id) (cases.closes id)
    each_signal (Bye id) = bye_at id (call_of w id) refl

-- ---- datagrams

module _ (w : World) (port : ℕ) where
  -- a datagram is dropped, or a session of the call that has its port opens or seals it
  module _ (from : Address) (d : List ℕ) (P : Happening → Type 0) (drops : (cause : DropCause) → P (dropped w port cause))
      (opens : (c : Call) → call_at w port ≡ Some c → (g : Given) (o : OpenedBy w.moment port d c g) → P (given_to w port (put w.moment c o.session o.taken o.taken.done.packet)))
      (seals : (c : Call) → call_at w port ≡ Some c → (g : Given) (o : SealedBy w.moment port d c g) → P (given_to w port (put w.moment c o.session o.taken (datagram_of o.session o.taken)))) where
    at_given : (c : Call) → call_at w port ≡ Some c → (g : Given) → Arrival w.moment port d c g → P (given_to w port g)
    at_given c at g (IsDrop cause is) = subst (λ g. P (given_to w port g)) (sym is) (drops cause)
    at_given c at g (IsOpening o) = subst (λ g. P (given_to w port g)) (sym o.gives) (opens c at g o)
    at_given c at g (IsSeal o) = subst (λ g. P (given_to w port g)) (sym o.gives) (seals c at g o)

    at_port : (o : Option Call) → call_at w port ≡ o → P (arrived_at w port from d o)
    at_port None at = drops PortUnused
    at_port (Some c) at = at_given c at (arrived_in w.moment port from d c) (arrival w.moment port from d c)

    pub each_arrived : P (arrived_at w port from d (call_at w port))
    each_arrived = at_port (call_at w port) refl

  -- what it puts out is new in that session
  pub each_taken : (P : Happening → Type 0) → ((cause : DropCause) → P (dropped w port cause))
      → ((c : Call) → call_at w port ≡ Some c → (s : Session) (t : Taken) (octets : List ℕ) → Any (Is s) c.sessions → IsNewIn s t → P (given_to w port (put w.moment c s t octets)))
      → (from : Address) (d : List ℕ) → P (arrived_at w port from d (call_at w port))
  each_taken P drops puts from d = each_arrived from d P drops (λ c at g o. puts c at o.session o.taken o.taken.done.packet o.is_held (opened_new o.session d o.taken o.opened))
      (λ c at g o. puts c at o.session o.taken (datagram_of o.session o.taken) o.is_held (seals_is o.session d o.taken o.sealed).3.taken)

  -- dropped, or put out by a session of the call that has its port
  pub record DatagramCases (P : Happening → Type 0) : Type 0 where
    pub drops : (cause : DropCause) → P (dropped w port cause)
    pub puts : (c : Call) → call_at w port ≡ Some c → (s : Session) (t : Taken) (octets : List ℕ) → Any (Is s) c.sessions → P (given_to w port (put w.moment c s t octets))

  pub each_datagram : (P : Happening → Type 0) (cases : DatagramCases P) (from : Address) (d : List ℕ) → P (arrived_at w port from d (call_at w port))
  each_datagram P cases from d = each_taken P cases.drops (λ c at s t octets held new. cases.puts c at s t octets held) from d
