use Rattle.std.proofs.Common.{rules, Err, ap}
use Rattle.sg_playback.proofs.Lines.{err_so, player_behind}
use Rattle.sg_trace.proofs.Causes.{failed_as, ok_not}
use Rattle.sg_playback.proofs.playing.play_lines.Goals as goal

pub returns-in-Ok-clause-ran : goal.returns-in-Ok-clause-ran
returns-in-Ok-clause-ran g c = λ s stands.
    let ran = c.in-Ok.ensures.ran s (search rules, search rules, search rules, search rules, stands, search rules) in
    (ran.0, ran.1, ran.2, (player_behind _ _ _ _ _ c.play_lines.new.player.player _ ran.0 ran.1 ran.2 (λ s is. is.4) ran.3, c.in-Ok.ensures.none))

pub returns-in-Err-clause-ran : goal.returns-in-Err-clause-ran
returns-in-Err-clause-ran g c = λ s stands. c.in-Err.ensures.ran s (search rules, search rules, search rules, search rules, stands, search rules)

pub returns-in-Err-clause-write : goal.returns-in-Err-clause-write
returns-in-Err-clause-write g c = failed_as _ _ _ _ _ (λ is. ap Err (err_so _ _ is)) (λ is. ap Err (err_so _ _ is)) c.in-Err.ensures.write

pub returns-in-Err-clause-noise : goal.returns-in-Err-clause-noise
returns-in-Err-clause-noise g c = failed_as _ _ _ _ _ (λ is. ap Err (err_so _ _ is)) (λ is. ap Err (err_so _ _ is)) c.in-Err.ensures.noise

pub returns-in-Ok-clause-write : goal.returns-in-Ok-clause-write
returns-in-Ok-clause-write g c = failed_as _ _ _ _ _ (λ is. absurd (ok_not _ _ is)) (λ is. absurd (ok_not _ _ is)) c.in-Ok.ensures.write

pub returns-in-Ok-clause-noise : goal.returns-in-Ok-clause-noise
returns-in-Ok-clause-noise g c = failed_as _ _ _ _ _ (λ is. absurd (ok_not _ _ is)) (λ is. absurd (ok_not _ _ is)) c.in-Ok.ensures.noise
