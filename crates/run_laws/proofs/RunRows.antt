-- Worked rows: the run of a nap that sleeps until 10, awaits that, takes it, puts out `ok` and ends.
use Rattle.std.proofs.Common.{refl, true, false, [], ◌∷◌, codes}
use Rattle.journal_model.specs.declared.notification.NotificationResult.TheVariants.{Void}
use Rattle.journal_model.specs.declared.value.NonEmptyValue.{NonEmptyValue}
use Rattle.journal_model.specs.declared.options.RunOptions.{RunOptions}
use Rattle.journal_model.specs.declared.options.ImplicitCancellationOption.TheVariants.{Enabled}
use Rattle.journal_model.specs.declared.options.SignalDelivery.TheVariants.{Queued}
use Rattle.journal_model.specs.declared.invocation.NewInvocation.{NewInvocation}
use Rattle.journal_model.specs.declared.invocation.StateMode.{StateMode}
use Rattle.journal_model.specs.Notification.{Text, Arrival}
use Rattle.journal_model.specs.Request.{Request}
use Rattle.journal_model.specs.Journal.{completion}
use Rattle.journal_model.specs.Run.{Invocation, BeginsRun}
use Rattle.journal_model.specs.Headline.{run_of}
use Rattle.built_in_handlers.specs.Handlers
use Rattle.run_laws.specs.Position.{IsAtCall}

abbrev pub i1 : Text
i1 = codes "i1"

abbrev pub new : NewInvocation
new = record { id = i1; object = codes "o"; input = []; headers = []; version = 7; seed = 1; state = StateMode.Whole }

abbrev pub options : RunOptions
options = record { implicit_cancellation = Enabled true false; signal_delivery = Queued }

abbrev pub given : Invocation
given = run_of options 0 new []

abbrev pub sleep : Request
sleep = Request.Sleep 10 1 []

abbrev pub output : Text → Request
output text = Request.Output (NonEmptyValue.Success text) []

-- the sleep has ended
abbrev pub slept : Arrival
slept = completion 1 Void

-- nothing has come: it asks for the sleep alone
nap-begins : BeginsRun Handlers.nap given [] (sleep ∷ [])
nap-begins = record { calls = 9; beginning = ([], refl) }

-- the sleep has ended: it asks for the output behind it
nap-ends : BeginsRun Handlers.nap given (slept ∷ []) (sleep ∷ output (codes "ok") ∷ [])
nap-ends = record { calls = 9; beginning = ([], refl) }

-- an attempt with the sleep in its journal: before the first call it is left to be replayed, behind that call nothing is
nap-replays : IsAtCall Handlers.nap given [] (sleep ∷ []) 0 (sleep ∷ [])
nap-replays = record { going = refl; asked_is = refl }

nap-replayed : IsAtCall Handlers.nap given [] (sleep ∷ []) 1 []
nap-replayed = record { going = refl; asked_is = refl }
