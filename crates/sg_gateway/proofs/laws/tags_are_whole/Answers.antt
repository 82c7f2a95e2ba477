use Rattle.sg_gateway.proofs.Common.{All-from_recursion, each_of, empty, journal, turns, world_after}
use Rattle.sg_gateway.proofs.Datagrams.{every_turn, journal_kept}
use Rattle.sg_gateway.proofs.WholeTags.{all_whole, whole_at, whole_on}
use Rattle.sg_gateway.specs.Tags.{HasWholeTags, HaveWholeTags}
use Rattle.sg_gateway.proofs.laws.tags_are_whole.Goals as goal

pub returns : goal.returns
returns c = λ events. (
  All-from_recursion (λ t. HaveWholeTags t.before) (turns events)
      (every_turn HasWholeTags whole_on all_whole (λ t. Unit {0}) (λ t. HaveWholeTags t.before) (λ past w e kept u. whole_at past w kept)
      events (each_of (λ t. Unit {0}) (λ t. tt) (turns events))),
  whole_at (journal events) (world_after empty events) (journal_kept HasWholeTags whole_on all_whole events).1,
)
