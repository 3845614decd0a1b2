-- The laws of this crate.
use Rattle.std.specs.Prelude.{◌≡◌, ℕ, true, false, List, ◌∷◌, ◌++◌, map, take, Some, None}
use Rattle.std.specs.List.{AllByRecursion}
use Rattle.journal_model.specs.declared.invocation.NewInvocation.{NewInvocation}
use Rattle.journal_model.specs.declared.options.RunOptions.{RunOptions}
use Rattle.journal_model.specs.Notification.{Bytes, Text, Arrival}
use Rattle.journal_model.specs.Request.{Request}
use Rattle.journal_model.specs.Run.{Handler, Invocation, BeginsRun}
use Rattle.journal_model.specs.Event.{Event, Frame}
use Rattle.journal_model.specs.Journal.{begins, invocation_begun, starting_state, entries_of, recorded_requests, recorded_arrivals}
use Rattle.journal_model.specs.Attempt.{begins_attempt, bytes_asked, input_bytes, input_left}
use Rattle.journal_model.specs.Cause.{IsAccepted}
use Rattle.journal_model.specs.Headline.{run_of}
use Rattle.input_laws.specs.Message.{InputMessage, piece_of, IsBroughtBy}
use Rattle.input_laws.specs.CompletionsOnce.{ComeWhenAsked}
use Rattle.run_laws.specs.HeldInvocations.{Holds}
use Rattle.live_laws.specs.RequestsInFlight.{PassesOn}
use Rattle.attempt_model.specs.Attempts.{ComeAsAsked}
use Rattle.live_laws.specs.StartFrame.{start_after}
use Rattle.live_laws.specs.AskedArrivals.{GiveIds, keys_are_text, AsksByText}
use Rattle.live_laws.specs.AttemptWithMachine.{AttemptInRun, attempt_begun, IsLiveMachine, handed_bytes, after_reading}

-- ---- what has come

-- for a call's and a send's invocation id the store lets in invocation ids alone
abbrev pub RecordsGiveIds : Type 0
RecordsGiveIds = (events : List Event) (id : Text) → IsAccepted events → GiveIds (recorded_requests events id) (recorded_arrivals events id)

-- and state keys that are text alone
abbrev pub RecordsHaveTextKeys : Type 0
RecordsHaveTextKeys = (events : List Event) (id : Text) → IsAccepted events → keys_are_text (recorded_arrivals events id) ≡ true

-- so what has come is as so many calls have asked for it, where it came once to requests that begin the run, and state keys are text
abbrev pub ArrivalsComeAsAsked : Type 0
ArrivalsComeAsAsked = (next : Handler) (given : Invocation) (requests : List Request) (arrivals : List Arrival) (calls : ℕ) → BeginsRun next given arrivals requests → ComeWhenAsked requests arrivals
    → GiveIds requests arrivals → keys_are_text arrivals ≡ true → AsksByText next given arrivals calls → ComeAsAsked next given arrivals calls

-- ---- the live attempt

-- an attempt that is begun is live
abbrev pub MachinesBegin : Type 0
MachinesBegin = (next : Handler) (options : RunOptions) (fallback_seed : ℕ) (id : Text) (now : ℕ) (events : List Event) (new : NewInvocation) → IsAccepted (Event.Begin id now ∷ events)
    → invocation_begun events id ≡ Some new → Holds next (run_of options fallback_seed new (starting_state events id)) id events
    → IsLiveMachine next options fallback_seed id (Event.Begin id now ∷ events) (attempt_begun (start_after options fallback_seed events id now new))

-- it stays so: an event that hands nothing to it may bring it more messages, one that hands it the next bytes brings none; it reads its start
-- frame, and then messages of which it holds all bytes
pub record StaysLive (next : Handler) (options : RunOptions) (fallback_seed : ℕ) (id : Text) (events : List Event) (live : AttemptInRun) : Type 0 where
  pub brings : (event : Event) (coming : List Frame) → begins id event ≡ false → begins_attempt id event ≡ false → bytes_asked id event ≡ None → PassesOn id event live.coming coming
      → (more : List InputMessage) × AllByRecursion (IsBroughtBy (entries_of (event ∷ events) id) id event) more
      × IsLiveMachine next options fallback_seed id (event ∷ events) (record live { unread = live.unread ++ more; coming = coming })
  pub is_handed : (attempt most : ℕ) → IsLiveMachine next options fallback_seed id (Event.Feed id attempt most ∷ events) (handed_bytes live (take most (input_left events id)))
  pub reads_start : live.bytes ≡ live.start.frame ++ live.held → IsLiveMachine next options fallback_seed id events (record live { bytes = live.held })
  pub reads : (some still : List InputMessage) (kept : Bytes) → live.bytes ≡ live.held → live.unread ≡ some ++ still → live.held ≡ input_bytes (map piece_of some) ++ kept
      → IsLiveMachine next options fallback_seed id events (after_reading live some still kept)

abbrev pub MachinesStayLive : Type 0
MachinesStayLive = (next : Handler) (options : RunOptions) (fallback_seed : ℕ) (id : Text) (events : List Event) (live : AttemptInRun) → IsAccepted events
    → IsLiveMachine next options fallback_seed id events live → StaysLive next options fallback_seed id events live
