use Rattle.std.proofs.Common.{◌≡◌, Some, Ok, Err, sym, subst}
use Rattle.std.specs.Prelude.{IfOk, MatchResult}
use Rattle.sg_states.specs.Inbound.{Placing, IsUnverified, IsVerified}
use Rattle.sg_srtp.specs.Bits.{HasBits}
use Rattle.sg_srtp.proofs.inbound.Typed+states+Placed+K.verify.Goals as goal

pub of_kind-requires : goal.of_kind-requires
of_kind-requires g c =
    let said = c.verify.ensures c.requires.key (rw (c.self.view_is) c.requires.here) in
    elim c.verify.result as (λ r. MatchResult r (IsVerified c.self.inside.state c.requires.key) (λ e. IsUnverified c.self.inside.state c.requires.key e.0)
    → IfOk r (λ (v : Placing). (v.keyed.headed.kind ≡ g.K.OneKind.kind) × HasBits g.K.OneKind.kind (Some v.index))) [
      | Ok v ↦ λ m. subst (λ (p : Placing). (p.keyed.headed.kind ≡ g.K.OneKind.kind) × HasBits g.K.OneKind.kind (Some p.index)) (sym m.same) c.self.invariant
      | Err e ↦ λ m. search
    ] said
