use Rattle.sg_sdp.proofs.AddedLaws.{media_stay, session_stays}
use Rattle.sg_sdp.proofs.laws.a_description_stays_one.Goals as goal

pub returns-clause-session : goal.returns-clause-session
returns-clause-session c = session_stays

pub returns-clause-medium : goal.returns-clause-medium
returns-clause-medium c = λ s medium line is kept other. media_stay s medium line is kept other
