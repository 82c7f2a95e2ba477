use Rattle.sg_migrate.proofs.VersionTwo.{is_version_two}
use Rattle.sg_migrate.proofs.laws.migrated_scripts_are_of_version_two.Goals as goal

pub returns : goal.returns
returns c = is_version_two (record {
  again = c.lines_have_one_spelling.ensures.again;
  takes = c.lines_have_one_spelling.ensures.takes;
  whole = λ version number octets l is. (c.lines_are_framed.ensures.whole version number octets l is).0;
})
