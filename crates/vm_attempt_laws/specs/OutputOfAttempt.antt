-- What an attempt sends, passed on, so that crates above name this one alone.
pub use Rattle.vm_output_laws.specs.SentFrames as sent
pub use Rattle.vm_output_laws.specs.SentFrames.{sent_stream, AllFit, frame_meant, Sent, Fails, is_recorded, Asks, Proposes, Awaits, Suspends, Ends, sent_frame, sent_message, IsOfStore}
pub use Rattle.vm_output_laws.specs.TurnFrames.{TurnSends}
