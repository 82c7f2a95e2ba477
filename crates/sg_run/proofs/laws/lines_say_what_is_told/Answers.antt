use Rattle.sg_run.proofs.LinesSay.{bridge_lines_say, lines_say}
use Rattle.sg_run.proofs.laws.lines_say_what_is_told.Goals as goal

pub returns-clause-says : goal.returns-clause-says
returns-clause-says c = lines_say

pub returns-clause-bridge_says : goal.returns-clause-bridge_says
returns-clause-bridge_says c = bridge_lines_say
