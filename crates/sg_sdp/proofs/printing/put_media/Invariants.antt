use Rattle.std.proofs.Common.{◌≡◌, ◌++◌, take}
use Rattle.std.specs.List.{flat_map}
use Rattle.sg_sdp.specs.Descriptions.{ended, medium_lines}
use Rattle.sg_sdp.proofs.printing.put_media.Given as goal

abbrev pub invariant-loop-medium : goal.invariant-loop-medium
invariant-loop-medium l = l.out.items ≡ l.fn.out.items ++ flat_map ended (flat_map medium_lines (take l.medium-index l.media))
