-- A worked example of what is written: an invocation that sleeps, is suspended, and is woken by a tick.
use Rattle.std.specs.Prelude.{◌≡◌, ℕ, true, false, List, [], ◌∷◌, Some, None, codes}
use Rattle.std.proofs.Common.{refl}
use Rattle.journal_model.specs.declared.notification.NotificationId.TheVariants.{CompletionId}
use Rattle.journal_model.specs.Request.{Request}
use Rattle.journal_model.specs.declared.invocation.NewInvocation.{NewInvocation}
use Rattle.journal_model.specs.declared.invocation.StateMode.{StateMode}
use Rattle.journal_model.specs.Event.{ForAny, Frame, Event}
use Rattle.protocol_types.specs.declared.version.Version.TheVariants.{V5}
use Rattle.protocol_types.specs.declared.message_type.MessageType.{MessageType}
use Rattle.store_tables.specs.declared.row.Progress.{Progress}
use Rattle.store_tables.specs.declared.row.EntryRow.{EntryRow}
use Rattle.store_tables.specs.declared.row.Closing.TheVariants.{Ended}
use Rattle.store_tables.specs.declared.row.Write.TheVariants.{AddInvocation, SetProgress, AddEntry, PutState, DropState, OpenSleep, CloseSleeps, CloseSleepsUntil}
use Rattle.store_model.specs.KeptRecords.{version_kept, plain_row}
use Rattle.store_model.specs.Progress.{begun_progress}
use Rattle.store_model.specs.Writes.{writes_of}

abbrev nap : NewInvocation
nap = record { id = codes "nap"; object = codes "bed"; input = 1 ∷ 2 ∷ []; headers = []; version = 5; seed = 7; state = StateMode.Whole }

abbrev start : Progress
start = begun_progress (codes "bed")

abbrev row : ℕ → MessageType → List ℕ → EntryRow
row = plain_row (codes "nap")

-- the events, the last one first
abbrev invoked : List Event
invoked = Event.Invoke nap ∷ []

abbrev begun_once : List Event
begun_once = Event.Begin (codes "nap") 1000 ∷ invoked

abbrev handed_all : List Event
handed_all = Event.Feed (codes "nap") 1 4096 ∷ begun_once

abbrev sleeps : List Event
sleeps = Event.Move (codes "nap") 1 (Frame.Command (Request.Sleep 5000 1 [])) ∷ handed_all

abbrev input_closed : List Event
input_closed = Event.Close (codes "nap") 1 ∷ sleeps

abbrev suspended : List Event
suspended = Event.Move (codes "nap") 1 (Frame.Suspend (Some (ForAny (CompletionId 1 ∷ [])))) ∷ input_closed

abbrev woken : List Event
woken = Event.Tick 5000 ∷ suspended

abbrev sets_state : List Event
sets_state = Event.Move (codes "nap") 2 (Frame.Command (Request.SetState (codes "k") (9 ∷ []) [])) ∷ Event.Begin (codes "nap") 6000 ∷ woken

at_invoke : writes_of [] (Event.Invoke nap)
    ≡ AddInvocation (record { id = codes "nap"; object = codes "bed"; version = V5; seed = 7; is_whole = true; progress = start })
    ∷ AddEntry (row 0 MessageType.InputCommand (0x72 ∷ 4 ∷ 0x0a ∷ 2 ∷ 1 ∷ 2 ∷ [])) ∷ []
unfolding version_kept
at_invoke = refl

at_begin : writes_of invoked (Event.Begin (codes "nap") 1000)
    ≡ SetProgress (codes "nap") (record start { attempts = 1; attempts_since_entry = 1; first_moment = 1000 }) ∷ []
at_begin = refl

at_hand_out : writes_of begun_once (Event.Feed (codes "nap") 1 4096) ≡ []
at_hand_out = refl

at_sleep : writes_of handed_all (Event.Move (codes "nap") 1 (Frame.Command (Request.Sleep 5000 1 [])))
    ≡ AddEntry (record (row 1 MessageType.SleepCommand (8 ∷ 0x88 ∷ 0x27 ∷ 0x58 ∷ 1 ∷ [])) { completion = Some 1; moment = 5000 })
    ∷ SetProgress (codes "nap") (record start { attempts = 1; last_completion = 1; entries = 2 })
    ∷ OpenSleep (record { moment = 5000; invocation = codes "nap"; completion = 1 }) ∷ []
at_sleep = refl

at_suspension : writes_of input_closed (Event.Move (codes "nap") 1 (Frame.Suspend (Some (ForAny (CompletionId 1 ∷ [])))))
    ≡ SetProgress (codes "nap") (record start { attempts = 1; last_completion = 1; entries = 2; suspension = Some (0x0a ∷ 1 ∷ 1 ∷ []); handed = Some 1; heard = Some 0; is_awake = false }) ∷ []
at_suspension = refl

at_early_tick : writes_of suspended (Event.Tick 4999) ≡ CloseSleepsUntil 4999 ∷ []
at_early_tick = refl

at_tick : writes_of suspended (Event.Tick 5000)
    ≡ AddEntry (record (row 2 MessageType.SleepCompletionNotification (8 ∷ 1 ∷ 0x22 ∷ 0 ∷ [])) { answered = Some 1; arrival = Some 1 })
    ∷ SetProgress (codes "nap") (record start { attempts = 1; last_completion = 1; entries = 3; suspension = Some (0x0a ∷ 1 ∷ 1 ∷ []); handed = Some 1; heard = Some 0; arrivals = 1 })
    ∷ CloseSleepsUntil 5000 ∷ []
at_tick = refl

at_state : writes_of (Event.Begin (codes "nap") 6000 ∷ woken) (Event.Move (codes "nap") 2 (Frame.Command (Request.SetState (codes "k") (9 ∷ []) [])))
    ≡ AddEntry (row 3 MessageType.SetStateCommand (0x0a ∷ 1 ∷ 0x6b ∷ 0x1a ∷ 3 ∷ 0x0a ∷ 1 ∷ 9 ∷ []))
    ∷ SetProgress (codes "nap") (record start { attempts = 2; last_completion = 1; entries = 4; arrivals = 1 })
    ∷ PutState (record { object = codes "bed"; key = codes "k"; value = 9 ∷ [] }) ∷ []
at_state = refl

at_edit : writes_of [] (Event.Edit (codes "bed") (Request.ClearState (codes "k") [])) ≡ DropState (codes "bed") (codes "k") ∷ []
at_edit = refl

at_end : writes_of sets_state (Event.Move (codes "nap") 2 Frame.End)
    ≡ SetProgress (codes "nap") (record start { open_object = None; attempts = 2; last_completion = 1; entries = 4; handed = Some 0; closing = Some Ended; heard = Some 0; arrivals = 1; is_awake = false })
    ∷ CloseSleeps (codes "nap") ∷ []
at_end = refl
