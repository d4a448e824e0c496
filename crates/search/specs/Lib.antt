pub mod Probe
pub mod Slot
pub mod Fence
pub mod Bounds
pub mod Finds
pub mod Compares
