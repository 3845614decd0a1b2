pub mod WordLaws
pub mod TargetLaws
pub mod ValueLaws
pub mod OutcomeLaws
pub mod LineLaws
pub mod Writing
pub mod LineFeeds
