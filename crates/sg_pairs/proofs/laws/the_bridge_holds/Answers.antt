use Rattle.sg_pairs.proofs.laws.the_bridge_holds.Goals as goal

pub returns : goal.returns
returns c said = record {
  inside = c.joined_calls_stay_inside.ensures.inside said;
  crossing = c.joined_calls_stay_inside.ensures.crossing said;
  both_ways = c.joined_ports_go_both_ways.ensures said;
  settled = c.lost_is_refused.ensures.settled said;
  lost = c.lost_is_refused.ensures.refused said;
  shown = c.lost_shows_its_cause.ensures said;
  members = c.members_are_the_calls.ensures said;
  causes = c.joins_have_their_causes.ensures.causes said;
  told = c.joins_have_their_causes.ensures.told said;
  pairs = c.pairs_last_until_parted.ensures said;
  lines = c.each_line_happens.ensures.lines said;
  signals = c.signals_are_told.ensures said;
  behind = c.each_line_happens.ensures.worlds said;
}
