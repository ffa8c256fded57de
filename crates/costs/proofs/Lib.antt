-- The laws of the costs that are kept.
pub mod Laws
