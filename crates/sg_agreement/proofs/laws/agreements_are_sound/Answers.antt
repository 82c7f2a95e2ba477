use Rattle.std.proofs.lemmas.List.Elements.{All-from_recursion}
use Rattle.sg_agreement.proofs.FewMedia.{few_media}
use Rattle.sg_agreement.proofs.LineNumbers.{line_fits}
use Rattle.sg_agreement.proofs.Sound.{media_sound}
use Rattle.sg_agreement.specs.Sound.{IsSoundMedium}
use Rattle.sg_agreement.proofs.laws.agreements_are_sound.Goals as goal

pub returns-clause-few : goal.returns-clause-few
returns-clause-few c = few_media c.descriptions_have_one_value.ensures.takes

pub returns-clause-sound : goal.returns-clause-sound
returns-clause-sound c = λ h way offered noise answer slot a g made e.
    All-from_recursion IsSoundMedium g.media
    (media_sound c.crypto_lines_are_read_again.ensures.valid c.message_law.ensures.found h way offered noise answer slot a g made e)

pub returns-clause-line : goal.returns-clause-line
returns-clause-line c = line_fits c.descriptions_have_one_value.ensures.takes
