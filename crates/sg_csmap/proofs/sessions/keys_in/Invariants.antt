use Rattle.std.proofs.Common.{◌≡◌, ◌++◌, length}
use Rattle.sg_csmap.specs.CryptoSessions.{keys_in}
use Rattle.sg_csmap.proofs.sessions.keys_in.Given as goal

abbrev pub invariant-loop-rest : goal.invariant-loop-rest
invariant-loop-rest l = l.keys.items ++ keys_in l.csb l.random l.session l.suite l.rest ≡ keys_in l.csb l.random l.session l.suite l.tgks

abbrev pub decreases-loop-rest : goal.decreases-loop-rest
decreases-loop-rest l = length l.rest
