use Rattle.sg_session.proofs.Lists.{any_weaker}
use Rattle.sg_conduct.proofs.Places.{arrives_new, departs, sealed_live}
use Rattle.sg_conduct.proofs.laws.what_is_new_leaves.Goals as goal

pub returns : goal.returns
returns c = λ events. record {
  arriving = λ sealed are i t lt x port from d call s k has is a. c.what_is_new_is_put_out.ensures.each events sealed are i t lt x port from d call s k has is (arrives_new _ port d.items call s k x a);
  departing = λ i t lt port from d call s ssrc index is a.
      any_weaker _ _ (λ k r. sealed_live _ call s ssrc index d.items k r) s.keys (c.nothing_within_reach_lost.ensures.departing events i t lt port from d call s ssrc index is (departs _ port from d.items call s ssrc index a));
}
