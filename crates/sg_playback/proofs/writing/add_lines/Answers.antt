use Rattle.std.proofs.Common.{◌≡◌, ◌∙◌, ◌++◌, List, ℕ, take, sym, ap, take_all, flat_map}
use Rattle.sg_playback.proofs.Tells.{text_at, text_of_ends}
use Rattle.sg_playback.proofs.writing.add_lines.Goals as goal

pub returns : goal.returns
returns c =
    let all : take c.loop-arrival.arrival-index c.args.arrivals.now ≡ c.args.arrivals.now = take_all c.loop-arrival.arrival-index c.args.arrivals.now c.loop-arrival-test.false in
    c.loop-arrival.invariant ∙ ap (λ (ts : List ℕ). c.args.lines.now.items ++ ts) (ap (flat_map text_at) all ∙ sym (text_of_ends c.args.arrivals.now))
