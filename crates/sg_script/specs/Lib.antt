pub use Rattle.sg_lines.specs.LineOf
pub use Rattle.sg_lines.specs.LineText
pub use Rattle.sg_outcome.specs.OutcomeFields
pub use Rattle.sg_outcome.specs.OutcomeOf
pub use Rattle.sg_outcome.specs.OutcomeText
