pub mod LimitFaults
pub mod Counts
pub mod Space
pub mod Lent
pub mod Rooms
