pub mod Words
pub mod CellLaws
pub mod RowLaws
pub mod CellMeaning
pub mod RowMeaning
pub mod RowTexts
pub mod GrammarTexts
pub mod CellGrowth
pub mod GrowingTexts
pub mod ValueCells
pub mod LaidOut
pub mod FormatSteps
pub mod RowFormatRuns
pub mod RowFormatSteps
pub mod RunSteps
mod Bits
mod ShortCells
mod ChunkedCells
pub mod SeveralChunks
pub mod NbcRuns
mod NullRuns
mod FarRuns
pub use Words.*
