-- What the vendor's tables state: quote lines read to a lent table, and written from one; the vendor's rows made to one table in a lent one,
-- and that checks take it.
pub mod Answers
pub mod Corrects
pub mod Taken
