-- What the contracts cite of numbers as quote lines write them: each number has one text.
pub mod Numerals
pub mod Examples
