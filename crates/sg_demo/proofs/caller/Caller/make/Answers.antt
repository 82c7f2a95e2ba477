use Rattle.std.proofs.Common.{ℕ, ◌/◌, ◌^◌, refl, sym, ap}
use Rattle.sg_session.specs.declared.names.Direction.TheVariants.{Opening, Sealing}
use Rattle.sg_demo.specs.Callers.{peer_session}
use Rattle.sg_demo.proofs.caller.Caller.make.Goals as goal

pub returns : goal.returns
returns c = record {
  ssrc = refl;
  slot = refl;
  sealing = c.sealing_side.ensures (peer_session Sealing c.args.from_peer.now c.args.number 1024)
      (record { kind = refl; keys = refl; roc = ap (λ (x : ℕ). x / 2 ^ 16) (sym c.from.ensures); window = refl; admit = refl; encrypts = refl; tag_len = refl; none_done = refl });
  opening = c.opening_side.ensures (peer_session Opening c.args.to_peer.now c.args.number 64)
      (record { kind = refl; keys = refl; roc = ap (λ (x : ℕ). x / 2 ^ 16) (sym c.from-2.ensures); window = refl; admit = refl; encrypts = refl; tag_len = refl; none_done = refl });
  next = refl;
  next_plain = refl;
  last = refl;
}
