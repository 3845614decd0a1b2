-- What stands before a sleep is what refuses it.
use Rattle.std.proofs.Common.{◌≡◌, ℕ, List, Option, Some, None, sym}
use Rattle.journal_model.specs.Notification.{Text}
use Rattle.journal_model.specs.Refusal.{milliseconds, first_refusal, moment_tests}
use Rattle.journal_model.specs.declared.call.Call.{Call}
use Rattle.journal_model.specs.declared.call.Moment.{Moment}
use Rattle.protocol_types.specs.declared.version.Version.{Version}
use Rattle.vm_refusals.specs.declared.refusal_error.RefusalError.{RefusalError}
use Rattle.vm_machine.specs.Calls.{IsRefusalOf, TellsMoment}

pub refuses_sleep : (version : Version) (name : Text) (wake_up : Moment) (now : Option Moment) (event : List ℕ) (told : ℕ × Option RefusalError)
    → TellsMoment version wake_up event told → IsRefusalOf version (Call.Sleep name wake_up now) event told.1
refuses_sleep version name wake_up now event (time, None) h = h.0
refuses_sleep version name wake_up now event (time, Some error) h = h

-- where nothing refuses it, its moment is the one that is told
pub times_sleep : (version : Version) (wake_up : Moment) (event : List ℕ) (told : ℕ × Option RefusalError)
    → TellsMoment version wake_up event told → told.1 ≡ None → (first_refusal (moment_tests wake_up) ≡ None) × (milliseconds wake_up ≡ told.0)
times_sleep version wake_up event (time, None) h is = (h.0, sym h.1)
times_sleep version wake_up event (time, Some error) h is = cc
