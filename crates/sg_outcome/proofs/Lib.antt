mod CauseLaws
mod NameLaws
mod OutcomeLaws
