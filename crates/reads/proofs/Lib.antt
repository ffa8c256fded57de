-- Where a reader finds what:
-- * BySymbol.antt: the rows that a closure makes symbol by symbol, and those of a table; Present.antt: rows that may be missing, counted and stored;
--   Lending.antt: a lent list that is long enough.
-- * Broken.antt: every call on a broker that draws Unsound draws it first and changes nothing.
pub mod BySymbol
pub mod Present
pub mod Lending
pub mod Broken
