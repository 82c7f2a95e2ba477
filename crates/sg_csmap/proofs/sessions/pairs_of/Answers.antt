use Rattle.std.proofs.Common.{◌+◌, length, ap, ◌∙◌, arith}
use Rattle.sg_csmap.specs.CryptoSessions.{pairs_from}
use Rattle.sg_csmap.proofs.Loops.{behind, ends, none_left, one_more}
use Rattle.sg_csmap.proofs.sessions.pairs_of.Goals as goal

pub media-preserved : goal.media-preserved
media-preserved c =
    let more =
    one_more c.args.csb c.args.random.now c.args.policies.now c.args.tgks.now c.media.session c.in-Some.first.now c.in-Some.second.now c.media.rest.now c.in-Some.others.now
    c.media.pairs.items c.in-Ok.pair _ c.in-Some.ensures.some c.in-Ok.ensures c.media.invariant.1 in (
      omega (arith, ap length c.in-Some.ensures.some),
      ap (λ done. behind done (pairs_from c.args.csb c.args.random.now c.args.policies.now c.args.tgks.now (c.media.session + 2) c.in-Some.others.now)) c.in_ok-push-in-Ok.ensures.items ∙ more,
    )

pub returns : goal.returns
returns c =
    ends c.media.pairs.items (pairs_from c.args.csb c.args.random.now c.args.policies.now c.args.tgks.now c.media.session c.media.rest.now) _
    (none_left c.args.csb c.args.random.now c.args.policies.now c.args.tgks.now c.media.session c.media.rest.now c.in_default.ensures.none) c.media.invariant.1
