-- How a machine begins, takes its input in and is read, passed on, so that crates above name this one alone.
pub use Rattle.vm_feeding.specs.UnansweredFailure.{HasFailed}
pub use Rattle.vm_feeding.specs.InputBytes.{has_failed, with_bytes, with_input, TakesNext, TakesEach, StopsAt, Stops, Rests, RestsWhere, IsFed}
