use Rattle.std.proofs.Common.{rules, ◌≡◌, ◌∙◌, ◌∷◌, [], ℕ, List, length, take, Ok, ap, sym, subst, min}
use Rattle.sg_capture.proofs.Common.{Datagram, Framed, FrontStandsFor, Happens, IsMet, StandsFor, frame_occurs, frame_of, framed, unshared, waiting}
use Rattle.sg_capture.proofs.Common.{wrote_none}
use Rattle.sg_capture.proofs.Meets.{met_none, room_met, take_counted}
use Rattle.sg_gateway.specs.Octets.{as_octets}
use Rattle.sg_pcap.specs.Frames as frames
use Rattle.sg_capture.proofs.frames.play_frame.Goals as goal

pub returns-in-Passed-clause-met : goal.returns-in-Passed-clause-met
returns-in-Passed-clause-met g c = λ w stands.
    let f : frames.Passed ≡ frame_of c.args.frame.now = ap framed (sym c.in-Passed.is) ∙ c.read_frame.ensures in (
      [],
      wrote_none _,
      subst (λ (x : Framed). IsMet (Ok tt) w (waiting c.args.player.now) (waiting c.args.player.now) (frame_occurs c.args.number x) (StandsFor c.args.player.now.front) []) f
          (met_none w (waiting c.args.player.now) (StandsFor c.args.player.now.front) stands),
    )

pub returns-in-Skip-clause-met : goal.returns-in-Skip-clause-met
returns-in-Skip-clause-met g c = λ w stands.
    let f : frames.Skip c.in-Skip.cause ≡ frame_of c.args.frame.now = ap framed (sym c.in-Skip.is) ∙ c.read_frame.ensures in
    let t = c.tell_skip.ensures.met w stands in
    (t.0, t.1, subst (λ (x : Framed). IsMet c.tell_skip.result w (waiting c.args.player.now) (waiting c.tell_skip.new.player) (frame_occurs c.args.number x) (StandsFor c.tell_skip.new.player.front) t.0) f t.2)

pub returns-in-Datagram-clause-met : goal.returns-in-Datagram-clause-met
returns-in-Datagram-clause-met g c = λ w stands.
    let f : frames.Datagram c.in-Datagram.port c.in-Datagram.from c.in-Datagram.octets.now ≡ frame_of c.args.frame.now = ap framed (sym c.in-Datagram.is) ∙ c.read_frame.ensures in
    let octets : List ℕ = c.in-Datagram.octets.now in
    let count : c.min-counted.result ≡ min (length octets) 4352 = search rules in
    let part : take c.min-counted.result octets ≡ take 4352 octets = ap (λ (n : ℕ). take n octets) count ∙ take_counted 4352 octets in
    let t = c.arrive.ensures.came (unshared w) stands in (
      t.0,
      t.1,
      subst (λ (x : Framed). IsMet c.arrive.result w (waiting c.args.player.now) (waiting c.arrive.new.self) (frame_occurs c.args.number x) (StandsFor c.arrive.new.self.front) t.0) f
          (subst (λ (o : List ℕ). IsMet c.arrive.result w (waiting c.args.player.now) (waiting c.arrive.new.self) (Happens (Datagram c.in-Datagram.port c.in-Datagram.from (as_octets o)) ∷ []) (StandsFor c.arrive.new.self.front) t.0) part
          (room_met w (waiting c.args.player.now) (Datagram c.in-Datagram.port c.in-Datagram.from (as_octets (take c.min-counted.result octets)) ∷ []) (FrontStandsFor c.arrive.new.self.front) t.0 c.arrive.result (waiting c.arrive.new.self) t.2)),
    )
