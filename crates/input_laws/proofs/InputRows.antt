-- Worked rows: the messages of the input of a nap's second attempt, which is begun when its sleep has ended.
use Rattle.std.proofs.Common.{refl, List, [], ◌∷◌, codes}
use Rattle.protocol_types.specs.declared.message_type.MessageType.TheVariants.{SleepCompletionNotification}
use Rattle.journal_model.specs.declared.notification.NotificationResult.TheVariants.{Void}
use Rattle.journal_model.specs.declared.invocation.NewInvocation.{NewInvocation}
use Rattle.journal_model.specs.declared.invocation.StateMode.{StateMode}
use Rattle.journal_model.specs.Notification.{Text}
use Rattle.journal_model.specs.Request.{Request}
use Rattle.journal_model.specs.Event.{Event, Frame}
use Rattle.journal_model.specs.Journal.{completion}
use Rattle.input_laws.specs.Message.{CarriesInput, CarriesRequest, CarriesArrival, IsInput}

abbrev pub i1 : Text
i1 = codes "i1"

abbrev new : NewInvocation
new = record { id = i1; object = codes "o"; input = []; headers = []; version = 7; seed = 1; state = StateMode.Whole }

abbrev pub second_begun : List Event
second_begun =
    Event.Begin i1 10 ∷ Event.Tick 10 ∷ Event.Stop i1 1 ∷ Event.Move i1 1 (Frame.Command (Request.Sleep 10 1 [])) ∷ Event.Feed i1 1 10 ∷ Event.Begin i1 0
    ∷ Event.Invoke new ∷ []

second-input : IsInput second_begun i1 (CarriesInput new ∷ CarriesRequest (Request.Sleep 10 1 []) ∷ CarriesArrival SleepCompletionNotification (completion 1 Void) ∷ [])
second-input = record { pieces = refl; arrivals = refl }
