-- What the contracts cite of docs/SCENARIOS.md: verbs, lists of rows, and calls.
pub mod Calls
pub mod Examples
pub mod Lists
pub mod Verbs
