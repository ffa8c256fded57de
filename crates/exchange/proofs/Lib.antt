-- The laws that the functions' proofs cite, the laws of each call's definition, and the theorem over lists of calls.
pub mod Counting
pub mod Removing
pub mod Executing
pub mod Booking
pub mod Books
pub mod LentTicks
pub mod Runs
