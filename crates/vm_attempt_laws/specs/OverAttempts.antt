-- How an attempt is over, by the turn that has told it, and one that has failed before a turn tells it.
use Rattle.std.specs.Prelude.{◌≡◌, true, Some, None}
use Rattle.vm_attempt_laws.specs.ArrivalsCome.{HasJournal}
use Rattle.vm_attempt_laws.specs.Attempts.{again, Attempt, Finish, Turn}
use Rattle.vm_attempt_laws.specs.Machine.phases
use Rattle.vm_attempt_laws.specs.Machine.{IsCopy}
use Rattle.vm_attempt_laws.specs.TurnReports.{FailsEarly, Told}
use Rattle.vm_attempt_laws.specs.Words.{AttemptStart, Error}

module _ {H : Type 0} where
  -- it is over by this turn
  pub data IsOverBy (last : Turn) (a : Attempt H) : Type 0 where
    by_finish : (finish : Finish) → a.over ≡ Some finish → last ≡ again finish → IsOverBy last a
    by_error : (kept error : Error) → a.over ≡ None → a.vm.state.phase ≡ phases.Failed kept → IsCopy kept error → last ≡ Turn.Failed error → IsOverBy last a

  -- its input was closed before its journal had come, of which it tells so
  pub record IsClosedEarly (start : AttemptStart) (told : Told) (a : Attempt H) : Type 0 where
    pub unread : HasJournal start told.bytes → ⊥
    pub closed : told.is_closed ≡ true
    pub error : Error
    pub failed : a.vm.state.phase ≡ phases.Failed error
    pub tells : FailsEarly error
