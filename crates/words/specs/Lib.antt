-- What the contracts cite of docs/SCENARIOS.md: words of a line, and words as numbers.
pub mod Numbers
pub mod Words
