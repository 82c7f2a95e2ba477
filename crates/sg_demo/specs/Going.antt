-- A demonstration that is under way.
use Rattle.std.specs.Prelude.{◌≡◌}
use Rattle.std.specs.List.{AllZip}
use Rattle.sg_table.specs.Standing.{TableStandsFor}
use Rattle.sg_table.specs.Values.{TableValue}
use Rattle.sg_demo.specs.Demonstration as demo
use Rattle.sg_demo.specs.Demonstration.{world_of}
use Rattle.sg_demo.specs.Standing.{CallerStandsFor}
use Rattle.sg_demo.specs.declared.state.Demo.{Demo}

pub record DemoStandsFor (shown : Demo) (table : TableValue) (d : demo.Demo) : Type 0 where
  pub words : shown.words ≡ d.words
  pub callers : AllZip CallerStandsFor shown.callers.items d.callers
  pub summary : shown.summary ≡ d.summary
  pub taken : TableStandsFor table (world_of d)
