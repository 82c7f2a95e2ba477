mod AgainLaws
mod AnswerLaws
mod Base64Laws
pub mod DecodedBytes
mod DigitLaws
mod KeyGrammar
mod KeyLoop
mod LineGrammar
mod NumberGrammar
mod ParameterGrammar
mod PrintLaws
mod TextLaws
mod ValidLaws
mod WordGrammar
mod WordLaws
