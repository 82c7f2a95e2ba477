use Rattle.std.proofs.Common.{refl, get_or}
use Rattle.std.proofs.lemmas.List.{get_or_default}
use Rattle.sg_table.proofs.ends.reject_at.Goals as goal

pub returns : goal.returns
returns c = record {
  before = get_or c.args.calls.now c.args.i c.index-calls-i.result;
  after = c.reject.new.self;
  was = λ d. get_or_default c.args.calls.now c.args.i d c.index-calls-i.result c.requires.within;
  is = refl;
  rejected = c.reject.ensures.answer;
  inbox = c.reject.ensures.inbox;
  back = c.reject.ensures.back;
}
