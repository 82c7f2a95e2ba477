use Rattle.std.proofs.Common.{◌∷◌, [], ap, sym, length, length-append, arith}
use Rattle.std.proofs.Math.ListN.{drop_of_length-le}
use Rattle.sg_agreement.specs.Attributes.{mikey_value}
use Rattle.sg_agreement.specs.Messages.{bundle_in}
use Rattle.sg_leg.proofs.Read.{walk_next, walk_ends, walk_done, room_next, moved}
use Rattle.sg_leg.proofs.messages.bundles.Goals as goal

pub returns-in-Err-clause-bundles : goal.returns-in-Err-clause-bundles
returns-in-Err-clause-bundles c = λ h at.
    walk_ends c.args.psks.now (λ k m. bundle_in h k 1 (mikey_value m.lines)) c.loop-m.m c.index-media-m.result c.args.media.now c.loop-m-test.true c.index-media-m.is c.loop-m.bundles.items (c.loop-m.invariant.0 h at) c.in-Err.fault (c.in-Err.ensures.bundle h at)

pub loop-m-preserved : goal.loop-m-preserved
loop-m-preserved c = (
  (λ h at. walk_next c.args.psks.now (λ k m. bundle_in h k 1 (mikey_value m.lines)) c.loop-m.m c.index-media-m.result c.args.media.now c.loop-m-test.true c.index-media-m.is c.loop-m.bundles.items (c.loop-m.invariant.0 h at)
      c.in-Ok.next (c.in-Ok.ensures.bundle h at) c.push.new.self.items c.in_ok-push-in-Ok.ensures.items),
  room_next (length c.args.seen.now) c.loop-m.bundles.items c.in-Ok.next c.loop-m.invariant.1 c.in-Ok.ensures.room c.push.new.self.items c.in_ok-push-in-Ok.ensures.items,
  (let a = c.loop-m.invariant.2 in let b = ap length c.in_ok-push-in-Ok.ensures.items in let d = length-append c.loop-m.bundles.items (c.in-Ok.next ∷ []) in omega (arith, a, b, d)),
)

pub returns-clause-bundles : goal.returns-clause-bundles
returns-clause-bundles c = λ h at.
    walk_done c.args.psks.now (λ k m. bundle_in h k 1 (mikey_value m.lines)) c.loop-m.m c.args.media.now c.from_vec.result (drop_of_length-le c.args.media.now c.loop-m-test.false)
    (moved c.args.psks.now (λ k m. bundle_in h k 1 (mikey_value m.lines)) c.loop-m.m c.args.media.now c.loop-m.bundles.items c.from_vec.result (sym c.from_vec.ensures) (c.loop-m.invariant.0 h at))
