pub mod Answers
pub mod CryptoOf
pub mod CryptoText
pub mod Grammar
pub mod KeyTexts
pub mod Keys
pub mod Parameters
pub mod Words
