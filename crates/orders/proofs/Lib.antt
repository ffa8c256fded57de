-- The sides of a list of orders, and the claim, proved of every ledger whose calls have the stated effect on orders.
pub mod Sides
pub mod Shape
pub mod Fates
pub mod Within
pub mod OneRow
pub mod Lives
pub mod Rows
pub mod Refuted
