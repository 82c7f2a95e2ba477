use Rattle.sg_gateway.proofs.Tags.{has_tag, fits_tag}
use Rattle.sg_gateway.proofs.laws.a_tag_is_a_code.Goals as goal

pub returns-clause-code : goal.returns-clause-code
returns-clause-code c = has_tag

pub returns-clause-fits : goal.returns-clause-fits
returns-clause-fits c = fits_tag
