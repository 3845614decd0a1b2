pub mod SentFrames
pub mod OutputMeaning
pub mod SuspensionContent
pub mod WrittenFrames
pub mod TurnFrames
