-- How a machine begins, takes its input in and is read, passed on, so that crates above name this one alone.
pub use Rattle.vm_feeding.specs.NewMachine.{IsNew, BeginsAs}
pub use Rattle.vm_feeding.specs.MachineQueries.{TellsReady}
pub use Rattle.vm_feeding.specs.EndOfInput.{is_waiting, input_closed, ClosesWhere, ClosesInput}
pub use Rattle.vm_feeding.specs.UnansweredFailure.{HasFailed}
pub use Rattle.vm_feeding.specs.InputBytes.{IsFed, has_failed, with_input}
