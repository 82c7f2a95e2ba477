use Rattle.sg_audit.proofs.laws.the_pages_hold.Goals as goal

pub returns : goal.returns
returns c = λ events passages are. record {
  audited = c.the_audit_holds.ensures events passages are;
  are_open = c.sessions_are_open.ensures events passages are;
  stay = c.open_sessions_stay.ensures events passages are;
  keys = c.keys_are_agreed.ensures events passages are;
}
