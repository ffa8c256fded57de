-- The laws of the market's definitions, for callers, and the steps of the loops over rows.
pub mod Faults
pub mod Rows
pub mod Tables
pub mod Weights
pub mod Listed
