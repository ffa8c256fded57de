-- Laws that the proofs of this crate and of others share.
pub mod Bytes
pub mod Caps
pub mod Dates
pub mod Decimals
pub mod Digits
pub mod Examples
pub mod Hexes
pub mod Places
pub mod Stores
pub mod Tests
