pub mod Found
pub mod Commands
mod WorkedLines
pub mod Numbers
pub mod Words
pub use Words.*
