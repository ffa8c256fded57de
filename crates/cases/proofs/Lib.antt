-- The worked cases compute.
pub mod Cases
