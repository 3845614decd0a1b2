pub mod SendAnswer
