-- How an attempt reads its input, passed on, so that crates above name this one alone.
pub use Rattle.vm_input_laws.specs.Laws.{HoldsStart, ReadsOn, StartsAreRead, AnswersInput, JournalsAreRead, RefusesInput, InputsAreAnswered}
pub use Rattle.vm_input_laws.specs.MessagesBehindJournal.{ArrivalFits, bytes_of, IsFedEach, AreWaitedFor, phase_behind, KnowsRuns, TakesFirstMessages, InputsAreKept, gathered_all, FailsForMemory, raw_of, MessageFits, phase_then}
pub use Rattle.vm_input_laws.specs.InputPhases.{start_told, CanBegin, IsRunOf, phase_kind, HasStarted, Kind, IsInputOf, IsArrival}
