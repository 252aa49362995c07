pub mod Pushing
pub mod Sinks
pub mod Spare
pub mod Streaming
