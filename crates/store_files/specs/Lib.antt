pub mod CrashImages
pub mod Files
pub mod LeftFiles
pub mod MadeDatabase
pub mod RefusedFiles
pub mod TakenFiles
pub mod RefusalReasons
