-- The laws of this crate.
use Rattle.std.specs.Prelude.{◌≡◌, ℕ, false, List, ◌∷◌, Some, None}
use Rattle.journal_model.specs.Notification.{Text, Arrival}
use Rattle.journal_model.specs.declared.invocation.NewInvocation.{NewInvocation}
use Rattle.journal_model.specs.declared.options.RunOptions.{RunOptions}
use Rattle.journal_model.specs.Request.{Request}
use Rattle.journal_model.specs.Run.{Handler, Invocation, is_going}
use Rattle.journal_model.specs.Event.{Event}
use Rattle.journal_model.specs.Journal.{invocation_begun, starting_state}
use Rattle.journal_model.specs.Cause.{IsAccepted}
use Rattle.journal_model.specs.Headline.{IsWholeRun, run_of, Headline, NeverLate, WakesExactly}
use Rattle.journal_laws.specs.Forgetting.{is_among, without_all}
use Rattle.run_laws.specs.TakenFrames.{TakesOfRun, AllOfRun}
use Rattle.run_laws.specs.HeldInvocations.{Holds}

-- it holds of an invocation that was not begun
abbrev pub HoldsAtFirst : Type 0
HoldsAtFirst = (next : Handler) (given : Invocation) (id : Text) (events : List Event) → IsAccepted events → invocation_begun events id ≡ None
    → Holds next given id events

-- each accepted event keeps it, if a frame that it takes of the invocation is of the run
abbrev pub HoldsOn : Type 0
HoldsOn = (next : Handler) (given : Invocation) (id : Text) (event : Event) (events : List Event) → IsAccepted (event ∷ events)
    → TakesOfRun next given id events event → Holds next given id events → Holds next given id (event ∷ events)

-- so it holds where every frame that was taken is of the run
abbrev pub HoldsOfTaken : Type 0
HoldsOfTaken = (next : Handler) (given : Invocation) (id : Text) (events : List Event) → IsAccepted events → AllOfRun next given id events
    → Holds next given id events

-- and it holds of each other once invocations are forgotten
abbrev pub OthersHold : Type 0
OthersHold = (next : Handler) (given : Invocation) (events : List Event) (ids : List Text) (other : Text) → is_among ids other ≡ false → Holds next given other events
    → Holds next given other (without_all ids events)

-- where it holds the headline does
abbrev pub HeadlineStands : Type 0
HeadlineStands = (next : Handler) (options : RunOptions) (fallback_seed : ℕ) (events : List Event) (id : Text) → IsAccepted events
    → ((new : NewInvocation) → invocation_begun events id ≡ Some new → Holds next (run_of options fallback_seed new (starting_state events id)) id events)
    → Headline next options fallback_seed events id

-- a suspended invocation is due wherever the run over all its arrivals goes past the await, and,
-- where suspensions tell trees, each handle stands for an id and nothing was cancelled, only there
abbrev pub SuspensionsWake : Type 0
SuspensionsWake = (next : Handler) (given : Invocation) (events : List Event) (id : Text) → Holds next given id events
    → NeverLate next given events id × WakesExactly next given events id

-- requests that are each the whole of the run over the same arrivals are the same, however they came to be recorded
abbrev pub RunsRecordTheSame : Type 0
RunsRecordTheSame = (next : Handler) (given : Invocation) (arrivals : List Arrival) (requests others : List Request)
    → IsWholeRun next given arrivals requests (λ ending. is_going ending ≡ false) → IsWholeRun next given arrivals others (λ ending. is_going ending ≡ false)
    → requests ≡ others
