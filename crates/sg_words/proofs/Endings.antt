-- How texts are ended, by what they are.
use Rattle.std.specs.Prelude.{List}
use Rattle.sg_words.specs.Commands.{Words, closed, with_end_mark}
use Rattle.sg_words.specs.declared.spelling.Kind.{Kind}
use Rattle.sg_words.specs.declared.spelling.Kind.TheVariants.{Numbers, Options}

abbrev pub ends : Kind → Words → List Words
ends Numbers = with_end_mark
ends Options = closed
