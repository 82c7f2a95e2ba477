use Rattle.std.proofs.Common.{List, ap}
use Rattle.std.proofs.lemmas.Result.{on_ok_weaker}
use Rattle.sg_sdp.specs.declared.medium.Medium.{Medium}
use Rattle.sg_sdp.proofs.PartLemmas.{lent_is}
use Rattle.sg_sdp.proofs.sdp.Sdp.add_media_line.Goals as goal

pub returns-clause-ok : goal.returns-clause-ok
returns-clause-ok c =
    on_ok_weaker c.push_copy.result
    (λ longer. ap (λ (ms : List Medium). record { session = c.args.self.now.session; media = ms })
    (lent_is c.args.self.now.media c.as_mut_slice.result.now c.args.medium c.index-as_mut_slice-medium.result c.args.line.now c.push_copy.new.self c.requires c.as_mut_slice.ensures.value longer))
    c.push_copy.ensures.ok
