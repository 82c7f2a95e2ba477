use Rattle.std.proofs.Common.{◌≡◌, ◌+◌, length}
use Rattle.sg_csmap.specs.CryptoSessions.{pairs_from}
use Rattle.sg_csmap.proofs.Loops.{behind}
use Rattle.sg_csmap.proofs.sessions.pairs_of.Given as goal

abbrev pub invariant-media : goal.invariant-media
invariant-media l =
    (l.session + length l.rest ≡ 1 + length l.map)
    × (behind l.pairs.items (pairs_from l.csb l.random l.policies l.tgks l.session l.rest) ≡ pairs_from l.csb l.random l.policies l.tgks 1 l.map)

abbrev pub decreases-media : goal.decreases-media
decreases-media l = length l.rest
