-- The rules of document 01, sections 4 and 5, over what they read. The program's contracts and the plain ledger both cite them.
pub mod Amounts
pub mod Money
pub mod Values
pub mod Sends
pub mod Liquidation
pub mod Weights
pub mod WholeShares
pub mod Basis
