-- What is proved of turnover.
pub mod OnlyBuys
