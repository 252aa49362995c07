pub mod ConversionLaws
pub mod Rows
pub mod Characters
pub mod Utf16Steps
pub mod JoinedText
pub mod UsualText
pub mod Singles
mod QuotedFields
pub mod Utf8Laws
pub mod Utf16Laws
pub mod SingleLaws
pub mod JoiningLemmas
pub mod LaneMasks
pub mod Lookup
pub mod WideText
pub mod OpenTexts
pub mod Words
pub use Words.*
