-- How an attempt reads its input, passed on, so that crates above name this one alone; and what may come behind the journal.
use Rattle.input_laws.specs.Message.{InputMessage, CarriesArrival, CarriesOutcome}
pub use Rattle.vm_input_laws.specs.Arrivals.{ArrivalFits, IsCompletionAsked, IsNotificationType}
pub use Rattle.vm_input_laws.specs.InputMessages.{bytes_of, IsFedEach, AreWaitedFor, phase_behind, runs_behind, KnowsRuns, TakesFirstMessages, InputsAreKept, gathered_all}
pub use Rattle.vm_input_laws.specs.Memory.{FailsForMemory}
pub use Rattle.vm_input_laws.specs.Messages.{raw_of, MessageFits, phase_then}

-- a message behind the journal: an arrival that the protocol can carry, a cancellation as any other, or the acknowledgement of an outcome
abbrev pub MayCome : InputMessage → Type 0
MayCome (CarriesArrival ty arrival) = MessageFits (CarriesArrival ty arrival)
MayCome (CarriesOutcome number value) = MessageFits (CarriesOutcome number value)
MayCome _ = ⊥
