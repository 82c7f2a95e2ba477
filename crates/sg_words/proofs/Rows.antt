-- The first text of an argument, where its rows are those of the subcommand.
use Rattle.std.proofs.Common.{◌≡◌, List, Option, Some, None, option_map, ap}
use Rattle.std.specs.Prelude.{option_and_then}
use Rattle.clap.specs.Words.{Row, Text, first_of}

abbrev second_of : Option (Text × List Row) → Option (List Row)
second_of = option_map (λ p. p.1)

pub text_from_rows : (id : Text) (o : Option (Text × List Row)) (r : List Row) → Some r ≡ second_of o
    → first_of id r ≡ option_and_then (λ p. first_of id p.1) o
text_from_rows id (Some p) r e = let same : r ≡ p.1 = cc in ap (first_of id) same
text_from_rows id None r e = cc
