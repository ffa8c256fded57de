-- Laws that the proofs of this crate share.
pub mod Digits
pub mod Names
pub mod Picks
pub mod Places
pub mod Splits
pub mod Words
