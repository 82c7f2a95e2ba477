use Rattle.std.proofs.Common.{sym, arith}
use Rattle.sg_sdes.proofs.WordLaws.{words_uncut, words_cut, cut_shorter}
use Rattle.sg_sdes.proofs.words.first_word.Goals as goal

pub returns-in_default-clause-words : goal.returns-in_default-clause-words
returns-in_default-clause-words c = words_uncut c.args.text.now (sym c.in_default.ensures)

pub returns-clause-words : goal.returns-clause-words
returns-clause-words c = rw c.behind_spaces.ensures.value (words_cut c.args.text.now c.in-Some.word.now c.in-Some.rest.now (sym c.in-Some.ensures))

pub returns-clause-shorter : goal.returns-clause-shorter
returns-clause-shorter c = let n = cut_shorter c.args.text.now c.in-Some.word.now c.in-Some.rest.now (sym c.in-Some.ensures) in omega (arith, n)
