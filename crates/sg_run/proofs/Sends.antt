-- A relay sends what is told as put out: its acts ask the link for these sends and for no others.
use Rattle.std.proofs.Common.{◌≡◌, inl, inr, ℕ, zero, suc, ◌+◌, ◌*◌, Bool, true, false, List, [], ◌∷◌, ◌++◌, map, refl, sym, ap, ◌∙◌, append_assoc}
use Rattle.std.proofs.lemmas.Grind.{flat_map-append}
use Rattle.std.specs.List.{flat_map}
use Rattle.sg_edge.specs.Links.{LinkCall}
use Rattle.sg_edge.specs.Links as links
use Rattle.sg_edge.specs.Told.{Tally}
use Rattle.sg_gateway.specs.Ports.{port_at}
use Rattle.sg_gateway.specs.Runs.{Turn, turns}
use Rattle.sg_gateway.specs.Step.{Event}
use Rattle.sg_mux.specs.Via.{outcomes_in, passages_in}
use Rattle.sg_outcome.specs.declared.outcomes.Outcome.{Outcome}
use Rattle.sg_outcome.specs.declared.outcomes.Outcome.TheVariants.{Ended, Made, Out}
use Rattle.sg_pairs.specs.Bridged.{Said, bridged_outcomes, bridgings}
use Rattle.sg_pairs.specs.declared.outcomes.BridgeOutcome.{BridgeOutcome}
use Rattle.sg_pairs.specs.declared.outcomes.BridgeOutcome.TheVariants as tells
use Rattle.sg_passages.specs.Passages.{plainly}
use Rattle.sg_relay.specs.Asked.{Act, Ask, Bind, IsAtNext, IsCutOff, IsPart, Send, Unbind, act_of, ask_in, asks_in, asks_of, hold, ports_from, receipts_in}
use Rattle.sg_relay.specs.Joined as joined
use Rattle.sg_relay.specs.Plain as plain
use Rattle.sg_relay.specs.Relay.{IsRelay, Passed, RelayEnds, RelayTellings, deeds_by, woven_of}
use Rattle.sg_relay.specs.Weaving.{Weaves}
use Rattle.sg_run.specs.Sent.{HasSent, Packet, SendsAsTold, put_out, put_out_in, put_out_in_bridge, put_out_of_bridge, sent_in}
use Rattle.sg_trace.specs.Output.{IsPrefixOf}
use Rattle.sg_trace.specs.declared.status.Status.{Status}
use Rattle.sg_trace.specs.declared.status.Status.TheVariants.{Capture, Clock, Done, Link, NoMemory, Noise, Read, Script, TurnsSpent, Usage, Write}

-- ---- the packets that asks send

abbrev packet_of : Ask → List Packet
packet_of (Bind port) = []
packet_of (Unbind port) = []
packet_of (Send port to octets) = record { port = port; to = to; octets = octets } ∷ []

abbrev packets : List Ask → List Packet
packets asks = flat_map packet_of asks

of_calls : (calls : List LinkCall) → sent_in calls ≡ packets (asks_in calls)
of_calls [] = refl
of_calls (links.Bind port ok ∷ calls) = of_calls calls
of_calls (links.Unbind port ok ∷ calls) = of_calls calls
of_calls (links.Receive received ∷ calls) = of_calls calls
of_calls (links.Send port to octets ok ∷ calls) = ap (λ (l : List Packet). record { port = port; to = to; octets = octets } ∷ l) (of_calls calls)

-- ---- what is asked for what is told

none_held : (b : Bool) (port n : ℕ) → packets (map (hold b) (ports_from port n)) ≡ []
none_held b port zero = refl
none_held true port (suc n) = none_held true (port + 1) n
none_held false port (suc n) = none_held false (port + 1) n

of_outcome : (o : Outcome) → packets (asks_of (act_of o)) ≡ put_out o
of_outcome (Made call slot media) = none_held true (port_at slot 0 0) (4 * media)
of_outcome (Ended call slot media why) = none_held false (port_at slot 0 0) (4 * media)
of_outcome (Out port to octets) = refl
of_outcome other = refl

of_bridge_outcome : (o : BridgeOutcome) → packets (asks_of (joined.act_of_bridge o)) ≡ put_out_of_bridge o
of_bridge_outcome (tells.Table o) = of_outcome o
of_bridge_outcome other = refl

of_all : {O : Type 0} (act : O → Act) (out : O → List Packet) → ((o : O) → packets (asks_of (act o)) ≡ out o) → (os : List O) → packets (flat_map asks_of (map act os)) ≡ flat_map out os
of_all act out one [] = refl
of_all act out one (o ∷ os) = flat_map-append packet_of (asks_of (act o)) (flat_map asks_of (map act os)) ∙ (λ i. one o i ++ of_all act out one os i)

told_plainly : (ts : List Turn) → flat_map (λ t. t.outcomes) ts ≡ flat_map (λ p. p.told) (map plainly ts)
told_plainly [] = refl
told_plainly (t ∷ ts) = ap (λ (l : List Outcome). t.outcomes ++ l) (told_plainly ts)

pub in_passages : (muxes : Bool) (events : List Event) → outcomes_in muxes events ≡ flat_map (λ p. p.told) (passages_in muxes events)
in_passages true events = refl
in_passages false events = told_plainly (turns events)

of_plain : (muxes : Bool) (events : List Event) → packets (flat_map asks_of (plain.acts muxes events)) ≡ put_out_in (passages_in muxes events)
of_plain muxes events = of_all act_of put_out of_outcome (outcomes_in muxes events) ∙ ap (flat_map put_out) (in_passages muxes events)

of_joined : (said : List Said) → packets (flat_map asks_of (joined.acts said)) ≡ put_out_in_bridge (bridgings said)
of_joined said = of_all joined.act_of_bridge put_out_of_bridge of_bridge_outcome (bridged_outcomes said)

-- ---- what was asked of the link

-- of some acts all was asked, and of the others the first
first_asks : (acts done others : List Act) (calls before last : List LinkCall) → acts ≡ done ++ others → calls ≡ before ++ last → asks_in before ≡ flat_map asks_of done
    → IsPrefixOf (asks_in last) (flat_map asks_of others) → IsPrefixOf (asks_in calls) (flat_map asks_of acts)
first_asks acts done others calls before last acts_are calls_are asked (rest, is) = (
  rest,
  ap (flat_map asks_of) acts_are ∙ flat_map-append asks_of done others ∙ (λ i. sym asked i ++ is i) ∙ sym (append_assoc (asks_in before) (asks_in last) rest)
      ∙ ap (λ (l : List Ask). l ++ rest) (sym (flat_map-append ask_in before last) ∙ ap asks_in (sym calls_are)),
)

next_asks : (others : List Act) (last : List LinkCall) (piece : List ℕ) → IsAtNext others last piece → IsPrefixOf (asks_in last) (flat_map asks_of others)
next_asks others last piece (inl none) = (flat_map asks_of others, ap (λ (l : List LinkCall). asks_in l ++ flat_map asks_of others) (sym none.0))
next_asks others last piece (inr (next, rest, is, untold)) = (flat_map asks_of rest, ap (flat_map asks_of) is ∙ ap (λ (l : List Ask). l ++ flat_map asks_of rest) (sym untold.asked))

part_asks : (acts : List Act) (calls : List LinkCall) (out : List ℕ) → IsPart acts calls out → IsPrefixOf (asks_in calls) (flat_map asks_of acts)
part_asks acts calls out part = first_asks acts part.done part.others calls part.before part.last part.acts_are part.calls_are part.whole.asked (next_asks part.others part.last part.piece part.next)

cut_asks : (acts : List Act) (calls : List LinkCall) (out : List ℕ) → IsCutOff acts calls out → IsPrefixOf (asks_in calls) (flat_map asks_of acts)
cut_asks acts calls out cut =
    let asked = cut.fails.asked in
    let more : List Ask = flat_map asks_of cut.others in
    first_asks acts cut.done (cut.next ∷ cut.others) calls cut.before cut.last cut.acts_are cut.calls_are cut.whole.asked
    (asked.0 ++ more, ap (λ (l : List Ask). l ++ more) asked.1 ∙ append_assoc (asks_in cut.last) asked.0 more)

-- ---- what was sent

module _ {L D : Type 0} (w : Weaves L D) (acts : List D → List Act) (told : List D → List Packet) (law : (ds : List D) → packets (flat_map asks_of (acts ds)) ≡ told ds) where
  all_sent : (calls : List LinkCall) (ds : List D) → asks_in calls ≡ flat_map asks_of (acts ds) → sent_in calls ≡ told ds
  all_sent calls ds asked = of_calls calls ∙ ap packets asked ∙ law ds

  first_sent : (calls : List LinkCall) (ds : List D) → IsPrefixOf (asks_in calls) (flat_map asks_of (acts ds)) → IsPrefixOf (sent_in calls) (told ds)
  first_sent calls ds (rest, is) = (
    packets rest,
    sym (law ds) ∙ ap packets is ∙ flat_map-append packet_of (asks_in calls) rest ∙ ap (λ (l : List Packet). l ++ packets rest) (sym (of_calls calls)),
  )

  at_end : (s : Status) (turns : ℕ) (p : Passed) (left : Tally) → RelayEnds w acts s turns p left → HasSent s p.calls (told (woven_of w p).deeds)
  at_end Done turns p left ends = all_sent p.calls _ ends.0.done.asked
  at_end (Script n fault) turns p left ends = all_sent p.calls _ ends.0.done.asked
  at_end TurnsSpent turns p left ends = all_sent p.calls _ ends.0.done.asked
  at_end Clock turns p left ends = all_sent p.calls _ ends.0.done.asked
  at_end Noise turns p left ends = all_sent p.calls _ ends.done.asked
  at_end Link turns p left (inl (before, failed, whole)) = inl (before, failed)
  at_end Link turns p left (inr cut) = inr (first_sent p.calls _ (cut_asks _ p.calls p.out cut))
  at_end Usage turns p left ends = absurd ends
  at_end (Capture offset fault) turns p left ends = absurd ends
  at_end Read turns p left ends = first_sent p.calls _ (part_asks _ p.calls p.out ends.part)
  at_end Write turns p left ends = first_sent p.calls _ (part_asks _ p.calls p.out ends.part)
  at_end NoMemory turns p left ends = first_sent p.calls _ (part_asks _ p.calls p.out ends.part)

  sends : (s : Status) (turns : ℕ) (old new : RelayTellings) (p : Passed) → IsRelay w acts s turns old new p → SendsAsTold s p.calls (λ receipts. told (deeds_by w p receipts))
  sends s turns old new p is = record {
    at_receives = λ before after x at. all_sent before (deeds_by w p (receipts_in before)) (is.in_order before after x at);
    at_end = at_end s turns p new.left is.ends;
  }

pub plain_sends : (muxes : Bool) (s : Status) (turns : ℕ) (old new : RelayTellings) (p : Passed) → IsRelay plain.weaves (plain.acts muxes) s turns old new p
    → SendsAsTold s p.calls (λ receipts. put_out_in (passages_in muxes (deeds_by plain.weaves p receipts)))
plain_sends muxes = sends plain.weaves (plain.acts muxes) (λ events. put_out_in (passages_in muxes events)) (of_plain muxes)

pub joined_sends : (s : Status) (turns : ℕ) (old new : RelayTellings) (p : Passed) → IsRelay joined.weaves joined.acts s turns old new p
    → SendsAsTold s p.calls (λ receipts. put_out_in_bridge (bridgings (deeds_by joined.weaves p receipts)))
joined_sends = sends joined.weaves joined.acts (λ said. put_out_in_bridge (bridgings said)) of_joined
