-- How an attempt reads its input, and what it sends, passed on, so that crates above name this one alone.
pub use Rattle.vm_input_laws.proofs.Holding.{no_arrival_is_held}
pub use Rattle.vm_output_laws.proofs.Streams.{streams_are_read}
pub use Rattle.vm_output_laws.proofs.TurnFrames.{turns_send}
pub use Rattle.vm_output_laws.proofs.WrittenFrames.{frames_are_written}
