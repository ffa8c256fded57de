-- The exchange: document 01, section 3, and the numbers 10, 11 and 16.
pub mod State
pub mod Insert
pub mod Delete
pub mod Tick
pub mod Lent
pub mod Runs
