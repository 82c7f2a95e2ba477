pub mod OutcomeFields
pub mod OutcomeOf
pub mod OutcomeText
