-- The laws of corrected quotes.
-- * What the functions are proved by: Dates (dates by their bits), Finding (the first row that draws a number), Standing and Listing (the loops that keep and list
--   the rows that win), Drawing (the number drawn, and what it leaves of the table).
-- * The theorems, which Theorem puts together: StrictOrder (a strict order decides which row wins), Winners (the row that wins), Corrects (the table has what the request says of it, no
--   other list has, and no check refuses it), AnyOrder (the order of the rows does not matter); Members, NoneDrawn and SameRows have what these need.
pub mod Dates
pub mod Finding
pub mod Standing
pub mod Listing
pub mod StrictOrder
pub mod Members
pub mod Winners
pub mod NoneDrawn
pub mod SameRows
pub mod Corrects
pub mod AnyOrder
pub mod Drawing
pub mod Theorem
