pub mod Asking
pub mod Exporting
pub mod Lines
pub mod Performing
pub mod Responses
pub mod Saying
pub mod Statuses
pub mod Usages
