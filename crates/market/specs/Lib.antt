-- The market's rules: document 01, section 2, the rules of section 3 for one order and one row, and the numbers 1 to 3; the vendor's rows of document 02.
pub mod Faults
pub mod Orders
pub mod Rows
pub mod Quotes
pub mod Reading
pub mod Trades
pub mod VendorQuotes
pub mod Weights
