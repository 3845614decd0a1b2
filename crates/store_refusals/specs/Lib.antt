pub mod Causes
pub mod Names
pub mod RefusalConditions
pub mod Preparations
pub mod Forgetting
