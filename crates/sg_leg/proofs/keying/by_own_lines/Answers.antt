use Rattle.std.proofs.Common.{refl, ap, ◌∙◌, map}
use Rattle.sg_agreement.specs.Keying.{OwnLines, attributes_of}
use Rattle.sg_leg.proofs.Gives.{gives_ok}
use Rattle.sg_leg.proofs.keying.by_own_lines.Goals as goal

pub returns-clause-keying : goal.returns-clause-keying
returns-clause-keying c = λ pairs. (
  OwnLines c.in-Ok.lines,
  gives_ok OwnLines _ c.in-Ok.lines c.in-Ok.ensures.lines,
  record { keying = refl; session = c.new.ensures; media = c.in-Ok-attributes_of.ensures.texts ∙ ap (map attributes_of) c.as_slice.ensures },
)
