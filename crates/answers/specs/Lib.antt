pub mod Placed
pub mod AnswerText
pub mod Printing
