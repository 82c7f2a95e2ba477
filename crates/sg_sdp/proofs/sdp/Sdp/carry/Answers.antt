use Rattle.std.proofs.Common.{length, refl, sym, ap, ◌∙◌}
use Rattle.std.specs.List.{length_refill}
use Rattle.sg_sdp.specs.Carrying.{carried_media}
use Rattle.sg_sdp.proofs.CarriedLaws.{media_count}
use Rattle.sg_sdp.proofs.sdp.Sdp.carry.Goals as goal

pub returns-clause-count : goal.returns-clause-count
returns-clause-count c =
    sym (length_refill (length c.in_ok-media.media) c.in_ok-media.media c.address_all.new.media refl)
    ∙ ap length (c.in_ok-media.ensures ∙ ap (carried_media c.args.ports.now c.args.profiles.now) c.as_slice-2.ensures)
    ∙ media_count c.args.ports.now c.args.profiles.now c.args.self.now.media c.requires.ports c.requires.profiles
