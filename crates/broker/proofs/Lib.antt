-- The laws that the functions' proofs cite.
pub mod Drawing
pub mod Sending
pub mod Selling
pub mod Settling
pub mod Updating
pub mod Building
