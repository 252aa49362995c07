pub mod Overwriting
pub mod Shifting
pub mod Words
pub use Words.*
