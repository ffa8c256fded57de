-- The rule of turnover, which the function over a lent log cites.
pub mod Turnover
