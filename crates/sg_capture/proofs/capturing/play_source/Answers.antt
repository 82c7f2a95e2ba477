use Rattle.std.proofs.Common.{◌≡◌, ◌≤◌, ◌-◌, ◌^◌, ◌++◌, ℕ, false, List, [], length, Ok, Err, refl, sym, ap, subst, arith}
use Rattle.sg_capture.proofs.Common.{Capturing, EndedBy, EndsReading, Event, FrontStandsFor, FrontValue, IsWant, Read, StandsFor, World, arrived, capture_of}
use Rattle.sg_capture.proofs.Common.{empty, failed_as, failed_now, length-map, not_failed, ok_not, start, state_after, unshared_after, waiting, world_after}
use Rattle.sg_capture.proofs.Compositions.{composed, ends_not_noise}
use Rattle.sg_capture.proofs.Scripts.{run_so}
use Rattle.sg_playback.proofs.Lines.{err_so}
use Rattle.sg_capture.proofs.capturing.play_source.Goals as goal

pub play_lines-requires-clause-front : goal.play_lines-requires-clause-front
play_lines-requires-clause-front g c = λ bounds outlives. (start false, c.requires.front)

pub returns-in-Err-clause-ran : goal.returns-in-Err-clause-ran
returns-in-Err-clause-ran g c =
    let ran = c.in-Err.ensures.ran (start false) c.requires.front in
    (ran.0, ran.1, ran.2, run_so c.in-Err.status _ _ ran.0 ran.1 ran.2 ran.3)

pub returns-in-Err-clause-write : goal.returns-in-Err-clause-write
returns-in-Err-clause-write g c = failed_as _ _ _ _ _ (λ is. ap Err is) (λ is. err_so _ _ is) c.in-Err.ensures.write

pub returns-in-Err-clause-noise : goal.returns-in-Err-clause-noise
returns-in-Err-clause-noise g c = failed_as _ _ _ _ _ (λ is. ap Err is) (λ is. err_so _ _ is) c.in-Err.ensures.noise

pub new-reader-requires : goal.new-reader-requires
new-reader-requires g c = (c.in-Ok.ensures.ran (start false) c.requires.front).3.0.within

-- the front stands for the world behind the script
stands_so : (front : FrontValue) (events : List Event) → FrontStandsFor front (state_after (start false) events) → StandsFor front (world_after empty events)
stands_so front events stands = subst (FrontStandsFor front) (unshared_after empty events) stands

pub play_capture-requires-clause-stands : goal.play_capture-requires-clause-stands
play_capture-requires-clause-stands g c = λ bounds outlives.
    let so_far = (c.in-Ok.ensures.ran (start false) c.requires.front).3.0 in
    (world_after empty so_far.deeds, stands_so c.in-Ok.player.front so_far.deeds so_far.stands)

pub returns-in-Ok-clause-ran : goal.returns-in-Ok-clause-ran
returns-in-Ok-clause-ran g c =
    let ran = c.in-Ok.ensures.ran (start false) c.requires.front in
    let so_far = ran.3.0 in
    let w : World = world_after empty so_far.deeds in
    let stands : StandsFor c.in-Ok.player.front w = stands_so c.in-Ok.player.front so_far.deeds so_far.stands in
    let then = c.play_capture.ensures.ran in
    let r = then.3 w stands in
    let left = g.S.Source.left c.play_capture.new.source in
    let script = c.play_lines.new.script in
    let last : ℕ = c.in-Ok.player.front.table.moment in
    let none : waiting c.in-Ok.player ≡ [] = ran.3.1 in
    let ends : EndsReading c.play_capture.result w [] last (capture_of (2 ^ 30 - script.offset)) (script.waits ++ then.0) r.0 left =
    subst (λ (v : Capturing). EndsReading c.play_capture.result w [] last (capture_of v.most) (v.waits ++ then.0) r.0 left) c.new-reader.ensures
    (subst (λ (es : List Event). EndsReading c.play_capture.result w es last (capture_of c.new-reader.result.most) (c.new-reader.result.waits ++ then.0) r.0 left) none r.2) in
    let few : length then.0 ≤ script.budget = omega (arith, then.2, ap (λ (v : Capturing). v.budget) c.new-reader.ensures) in (
      ran.0 ++ then.0,
      ran.1,
      ran.2 ++ r.0,
      composed _ _ (record { left = left; written = g.K.Sink.written c.play_capture.new.sink; drawn = g.N.Noise.given c.play_lines.new.noise }) script (FrontStandsFor c.in-Ok.player.front) ran.0 ran.1 ran.2 so_far
          then.0 r.0 then.1 r.1 refl few last (sym stands.world.holds.moment_is) c.play_capture.result ends,
    )

pub returns-in-Ok-clause-read : goal.returns-in-Ok-clause-read
returns-in-Ok-clause-read g c =
    subst (λ (n : ℕ). EndedBy (c.play_capture.result ≡ Read) (IsWant c.play_capture.result) n (g.S.Source.faults c.play_capture.new.source) (g.S.Source.failed c.play_capture.new.source))
    c.in-Ok.ensures.sound c.play_capture.ensures.read

pub returns-in-Ok-clause-write : goal.returns-in-Ok-clause-write
returns-in-Ok-clause-write g c = failed_now _ _ _ _ _ (c.in-Ok.ensures.write.quiet (λ is. ok_not _ _ is)) c.play_capture.ensures.write

pub returns-in-Ok-clause-noise : goal.returns-in-Ok-clause-noise
returns-in-Ok-clause-noise g c =
    let ran = c.in-Ok.ensures.ran (start false) c.requires.front in
    let so_far = ran.3.0 in
    let then = c.play_capture.ensures.ran in
    let r = then.3 (world_after empty so_far.deeds) (stands_so _ so_far.deeds so_far.stands) in
    not_failed _ _ _ _ (c.in-Ok.ensures.noise.quiet (λ is. ok_not _ _ is)) (ends_not_noise c.play_capture.result _ _ _ _ _ r.0 _ r.2)

pub play_capture-requires-clause-few : goal.play_capture-requires-clause-few
play_capture-requires-clause-few g c = omega (arith, ap length (c.in-Ok.ensures.ran (start false) c.requires.front).3.1, length-map c.in-Ok.player.waits arrived)

pub play_capture-requires-clause-near : goal.play_capture-requires-clause-near
play_capture-requires-clause-near g c = let near = (c.in-Ok.ensures.ran (start false) c.requires.front).3.0.near in omega (arith, near, ap (λ (v : Capturing). length v.waits) c.new-reader.ensures)
