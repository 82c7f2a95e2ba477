use Rattle.std.proofs.Common.{rules, ◌≡◌, true, length, List, ℕ, Some, ap, sym, ◌∙◌, false}
use Rattle.sg_gateway.specs.Events.{signal_lacks_noise}
use Rattle.sg_lines.specs.declared.lines.Line.TheVariants as lines
use Rattle.sg_trace.proofs.Supplies.{keeps_noise, takes_noise}
use Rattle.sg_trace.proofs.supplying.supply.Goals as goal

pub returns-then-not-lacks_noise-clause-same : goal.returns-then-not-lacks_noise-clause-same
returns-then-not-lacks_noise-clause-same g c =
    let ready : signal_lacks_noise c.args.signal ≡ false = search rules in
    let none : List ℕ = Rattle.std.proofs.Common.[] in
    (record { 0 = none }, sym (keeps_noise (record { 0 = none }) c.args.signal ready))

pub returns-in-Ok-clause-drew : goal.returns-in-Ok-clause-drew
returns-in-Ok-clause-drew g c =
    let lacks : signal_lacks_noise c.args.signal ≡ true = search rules in
    let size : length c.draw.new.part ≡ 304 = search rules in (
      c.draw.new.part,
      c.in-Ok.ensures.gave,
      λ later. takes_noise c.draw.new.part later c.args.signal lacks size ∙ ap (λ s. Some (record { line = lines.Signal s; draws = later })) (sym c.with_noise.ensures),
    )
