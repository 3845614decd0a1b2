-- Worked rows: what is noted of an invocation that sleeps, is suspended and is woken; of one that is awake at once; and the frames of an
-- input with an outcome that is acknowledged.
use Rattle.std.proofs.Common.{◌≡◌, refl, ℕ, Bool, true, false, List, [], ◌∷◌, Option, Some, None, codes}
use Rattle.journal_model.specs.declared.notification.NotificationId.TheVariants.{CompletionId, SignalName}
use Rattle.journal_model.specs.declared.notification.NotificationResult.{NotificationResult}
use Rattle.journal_model.specs.declared.value.NonEmptyValue.{NonEmptyValue}
use Rattle.journal_model.specs.Request.{Request}
use Rattle.journal_model.specs.declared.notification.SignalKey.{SignalKey}
use Rattle.journal_model.specs.AwaitTree.{Single, Combined, no_trees, and_trees, AllCompleted}
use Rattle.journal_model.specs.declared.invocation.NewInvocation.{NewInvocation}
use Rattle.journal_model.specs.declared.invocation.StateMode.{StateMode}
use Rattle.journal_model.specs.Event.{ForTree, Frame, Event}
use Rattle.journal_model.specs.Attempt.{due}
use Rattle.due_laws.specs.Awake.{Noted, noted_of}
use Rattle.due_laws.specs.Rows.{frames_known, outcomes_noted}

abbrev nap : NewInvocation
nap = record { id = codes "nap"; object = codes "bed"; input = 1 ∷ 2 ∷ []; headers = []; version = 7; seed = 7; state = StateMode.Whole }

abbrev id : List ℕ
id = codes "nap"

abbrev take : Frame → Event
take frame = Event.Move id 1 frame

abbrev noted : Option ℕ → ℕ → Bool → Noted
noted heard arrivals is_awake = record { heard = heard; arrivals = arrivals; is_awake = is_awake }

abbrev closed : List Event
closed = Event.Close id 1 ∷ take (Frame.Command (Request.Sleep 5000 1 [])) ∷ Event.Feed id 1 4096 ∷ Event.Begin id 1000 ∷ Event.Invoke nap ∷ []

abbrev suspended : List Event
suspended = take (Frame.Suspend (Some (ForTree (Single (CompletionId 1))))) ∷ closed

at_begin : noted_of closed id ≡ noted None 0 true
at_begin = refl

at_suspension : noted_of suspended id ≡ noted (Some 0) 0 false
at_suspension = refl

not_due : due suspended ≡ []
not_due = refl

-- a signal that nothing waits for, and then the tick
at_signal : noted_of (Event.Signal id (SignalKey.ByName (codes "go")) NotificationResult.Void ∷ suspended) id ≡ noted (Some 0) 1 false
at_signal = refl

at_tick : noted_of (Event.Tick 5000 ∷ Event.Signal id (SignalKey.ByName (codes "go")) NotificationResult.Void ∷ suspended) id ≡ noted (Some 0) 2 true
at_tick = refl

is_due_then : due (Event.Tick 5000 ∷ suspended) ≡ codes "nap" ∷ []
is_due_then = refl

at_next_begin : noted_of (Event.Begin id 6000 ∷ Event.Tick 5000 ∷ suspended) id ≡ noted None 1 true
at_next_begin = refl

is_live_then : due (Event.Begin id 6000 ∷ Event.Tick 5000 ∷ suspended) ≡ []
is_live_then = refl

-- it came behind the close, and before the suspension
awake_at_once : noted_of (take (Frame.Suspend (Some (ForTree (Single (CompletionId 1))))) ∷ Event.Tick 5000 ∷ closed) id ≡ noted (Some 0) 1 true
awake_at_once = refl

-- nothing is waited for
of_nothing : noted_of (take (Frame.Suspend (Some (ForTree (Combined AllCompleted no_trees)))) ∷ closed) id ≡ noted (Some 0) 0 true
of_nothing = refl

-- an attempt that is handed one of two arrivals
abbrev second : Frame → Event
second frame = Event.Move id 2 frame

abbrev handed_one : List Event
handed_one =
    second (Frame.Suspend (Some (ForTree (Combined AllCompleted (and_trees (Single (CompletionId 1)) (and_trees (Single (SignalName (codes "go"))) no_trees))))))
    ∷ Event.Close id 2 ∷ Event.Feed id 2 4096 ∷ Event.Begin id 6000 ∷ Event.Tick 5000 ∷ suspended

at_one : noted_of handed_one id ≡ noted (Some 1) 1 false
at_one = refl

-- its end
at_end : noted_of (Event.Move id 3 Frame.End ∷ Event.Begin id 7000 ∷ handed_one) id ≡ noted (Some 0) 1 false
at_end = refl

-- ---- an outcome that is acknowledged

abbrev ran : List Event
ran = take (Frame.RunOutcome 1 (NonEmptyValue.Success (5 ∷ [])) true) ∷ take (Frame.Command (Request.Run 1 [])) ∷ Event.Begin id 1000 ∷ Event.Invoke nap ∷ []

known_then : frames_known ran id ≡ 1
known_then = refl

noted_then : outcomes_noted ran id ≡ 1 ∷ []
noted_then = refl

noted_ran : noted_of ran id ≡ noted None 1 true
noted_ran = refl

known_later : frames_known (Event.Begin id 2000 ∷ ran) id ≡ 3
known_later = refl

noted_later : outcomes_noted (Event.Begin id 2000 ∷ ran) id ≡ []
noted_later = refl
