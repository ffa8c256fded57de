-- What the contracts cite of docs/SCENARIOS.md: orders, quotes, vendor quotes, weights, costs and lots as words.
pub mod Examples
pub mod Rows
