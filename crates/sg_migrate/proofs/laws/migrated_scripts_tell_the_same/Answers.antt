use Rattle.sg_migrate.proofs.Alike.{played_alike}
use Rattle.sg_migrate.proofs.laws.migrated_scripts_tell_the_same.Goals as goal

pub returns : goal.returns
returns c =
    λ octets draws one within.
    played_alike (record {
      again = c.lines_have_one_spelling.ensures.again;
      takes = c.lines_have_one_spelling.ensures.takes;
      whole = λ version number octets l is. (c.lines_are_framed.ensures.whole version number octets l is).0;
    }) c.a_moment_comes_once.ensures octets draws one within
