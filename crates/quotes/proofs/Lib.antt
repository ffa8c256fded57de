-- Printing.antt: bytes put in the first places of a buffer, and what is answered of them.
pub mod Printing
