-- The broker: document 01, sections 4 and 5, on the program's state.
pub mod Build
pub mod Lender
pub mod Send
pub mod Cash
pub mod Liquidate
pub mod Check
pub mod Walk
pub mod Read
pub mod Update
pub mod Lent
