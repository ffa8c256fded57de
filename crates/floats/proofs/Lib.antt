-- The laws that the proofs of the functions cite, on plain values, and the theorems about `floor_of`, `ceil_of` and `lot_shares`.
pub mod Exact
pub mod Cut
pub mod Ranges
pub mod Fractions
pub mod Nearest
pub mod Multiples
pub mod Lots
