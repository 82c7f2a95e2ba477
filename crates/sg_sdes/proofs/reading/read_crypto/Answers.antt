use Rattle.std.proofs.Common.{◌∙◌}
use Rattle.sg_sdes.proofs.ValidLaws.{is_valid}
use Rattle.sg_sdes.proofs.WordLaws.{crypto_is}
use Rattle.sg_sdes.proofs.reading.read_crypto.Goals as goal

pub returns-clause-exact : goal.returns-clause-exact
returns-clause-exact c =
    c.read_parts.ensures
    ∙ crypto_is c.args.value.now _ _ _ _ _ _ c.first_word.ensures.words c.next_word.ensures.word c.next_word.ensures.rest c.next_word-2.ensures.word c.next_word-2.ensures.rest

pub returns-clause-valid : goal.returns-clause-valid
returns-clause-valid c =
    is_valid c.args.value.now c.read_parts.result (c.read_parts.ensures
    ∙ crypto_is c.args.value.now _ _ _ _ _ _ c.first_word.ensures.words c.next_word.ensures.word c.next_word.ensures.rest c.next_word-2.ensures.word c.next_word-2.ensures.rest)
