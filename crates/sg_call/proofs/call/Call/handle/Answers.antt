use Rattle.std.proofs.Common.{◌∙◌, ap, [], ◌∷◌, ◌++◌, subst}
use Rattle.sg_call.proofs.Standing.{other_inbox}
use Rattle.sg_call.specs.Handling.{handled_of, gives}
use Rattle.sg_call.specs.Standing.{CallStandsFor}
use Rattle.sg_call.specs.Values.{CallValue, InboxValue, QueuedValue}
use Rattle.sg_gateway.specs.Batch as batch
use Rattle.sg_call.proofs.call.Call.handle.Goals as goal

pub returns-clause-next : goal.returns-clause-next
returns-clause-next c pairs k stands = record {
  handles = ap (λ (v : InboxValue). v.handled) c.keep.ensures
      ∙ (λ i. (ap (λ (v : CallValue). v.handled) c.self.view_is ∙ c.datagram-handled.ensures.inbox.1) i ++ (c.queued.inside.number, c.datagram-handled.ensures.answer pairs k stands i) ∷ [])
      ∙ ap (λ (v : QueuedValue). c.args.self.now.handled ++ (v.number, handled_of v.octets (gives k v)) ∷ []) c.queued.view_is;
  stands = other_inbox pairs c.datagram-handled.new.self _ (batch.after (gives k c.args.queued) k)
      (subst (λ (v : QueuedValue). CallStandsFor pairs c.datagram-handled.new.self (batch.after (gives k v) k)) c.queued.view_is (c.datagram-handled.ensures.stands pairs k stands))
      (ap (λ (v : CallValue). record v { waiting = c.keep.new.self.waiting; handled = c.keep.new.self.handled }) c.self.view_is);
}
