-- What the contracts cite: words, questions and answers.
pub mod Words
pub mod Questions
pub mod Answers
