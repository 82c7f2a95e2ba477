use Rattle.sg_audit.proofs.Stay.{sessions_stay}
use Rattle.sg_audit.proofs.laws.open_sessions_stay.Goals as goal

pub returns : goal.returns
returns c = λ events passages are. sessions_stay events passages are (c.calls_in_order.ensures events) (c.sessions_stay_open.ensures events)
