-- What the calls on arrays state beside the definitions of the crates `broker`, `lent` and `vendor`: which rows of the arrays are lent.
pub mod Arrays
pub mod Reads
pub mod Corrects
