-- What the contracts cite of quote lines: a line, the text of a table, what is read of a text, and the two theorems' words.
pub mod Lines
pub mod Reading
pub mod Writing
pub mod Claims
pub mod Examples
