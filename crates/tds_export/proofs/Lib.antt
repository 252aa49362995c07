pub mod Words
pub mod ResponseLaws
pub mod ResponseMeaning
pub mod Vectors
pub mod TokenLaws
pub mod TokenSteps
pub mod Bodies
pub mod RunSteps
pub mod ReadingGrows
pub mod TextBound
pub mod Endings
pub mod ToldAnswers
mod NameTexts
pub mod DeviceFaults
mod SomeBytes
pub mod Completed
pub use Words.*
