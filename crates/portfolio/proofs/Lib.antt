-- The laws that the functions' proofs cite, and those for callers.
pub mod Symbols
pub mod Listing
pub mod Selling
pub mod Settling
pub mod Weighing
