mod Sayings
mod ReportSteps
pub mod Words
mod AcceptedResponses
