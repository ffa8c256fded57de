-- What the functions over lent lists state beside the definitions of the crate `broker`: what those who ask about the log draw, the walk alone, and the answers.
pub mod Logs
pub mod Walks
pub mod Answers
