-- An invocation in its run: what is recorded of it, what is on its way from its live attempt, and where that attempt stands.
use Rattle.std.specs.Prelude.{◌≡◌, ℕ, ◌<◌, List, ◌++◌, map, Option, Some, None}
use Rattle.std.specs.List.{AllByRecursion}
use Rattle.journal_model.specs.declared.invocation.NewInvocation.{NewInvocation}
use Rattle.journal_model.specs.declared.options.SignalDelivery.TheVariants.{Queued}
use Rattle.journal_model.specs.Notification.{Arrival, Bytes, Text}
use Rattle.journal_model.specs.Event.{Event, Frame}
use Rattle.journal_model.specs.Journal.{invocation_begun, starting_state}
use Rattle.journal_model.specs.Attempt.{attempts_begun, live_attempt}
use Rattle.journal_model.specs.Run.{Handler, Invocation}
use Rattle.journal_model.specs.Headline.{run_of}
use Rattle.protocol_types.specs.Version.{version_number}
use Rattle.protocol_types.specs.declared.version.Version.{Version}
use Rattle.run_laws.specs.HeldInvocations.{Holds}
use Rattle.live_laws.specs.RequestsInFlight.{FollowsSo}
use Rattle.vm_types.specs.Options.{run_options}
use Rattle.vm_types.specs.declared.options.VMOptions.{VMOptions}
use Rattle.vm_types.specs.declared.options.JournalReplay.TheVariants.{Enabled}
use Rattle.vm_attempt_laws.specs.AttemptInvariants.{IsNoFailure}
use Rattle.vm_attempt_laws.specs.Attempts.{output_of, Attempt}
use Rattle.replay_laws.specs.OutcomesInFlight.{OutcomesStand}
use Rattle.vm_attempt_laws.specs.Bodies.{NonEmptyValue}
use Rattle.vm_attempt_laws.specs.OutputOfAttempt.sent
use Rattle.vm_attempt_laws.specs.OutputOfAttempt.{Sent, sent_stream, frame_meant, IsOfStore}
use Rattle.vm_attempt_laws.specs.TurnReports.{IsFrameTold}
use Rattle.store_calls.specs.AbstractStore.{Standing}
use Rattle.schedule_model.specs.declared.held.HeldAttempt.{HeldAttempt}
use Rattle.schedule_model.specs.HeldAttempts.{held_of}
use Rattle.schedule_laws.specs.EventBounds.{EventsFit}
use Rattle.schedule_laws.specs.TrackedAttempt.{Tracked, AttendsAs}

-- What is asked of the options: the journal is replayed, and signals wait in line. Nothing is asked of a handler.
pub record ReplaysInLine (options : VMOptions) : Type 0 where
  pub replays : options.journal_replay ≡ Enabled
  pub queued : options.signal_delivery ≡ Queued

-- what the run of an invocation begins with
abbrev pub given_of : VMOptions → Text → List Event → NewInvocation → Invocation
given_of options id events new = run_of (run_options options) options.fallback_random_seed new (starting_state events id)

-- an accepted event of this invocation is no error that closes it
abbrev pub FailsNot : Text → Event → Type 0
FailsNot id (Event.Move other attempt frame) = other ≡ id → IsNoFailure frame
FailsNot id event = Unit {0}

-- ---- what a store is handed in with, and left with

-- all events of the invocation are such as calls bring, what is recorded of it is of the run of this function, and no error has closed it
pub record IsInRun (next : Handler) (options : VMOptions) (id : Text) (events : List Event) (new : NewInvocation) : Type 0 where
  pub fit : EventsFit id events
  pub holds : Holds next (given_of options id events new) id events
  -- no error has closed it
  pub unfailed : AllByRecursion (FailsNot id) events

-- if it was begun
abbrev pub HoldsOf : Handler → VMOptions → Text → List Event → Type 0
HoldsOf next options id events = (new : NewInvocation) → invocation_begun events id ≡ Some new → IsInRun next options id events new

-- ---- between the events of a schedule

-- the outcomes of runs among these frames on their way stand as those that an attempt has proposed
pub record OutcomesFly (id : Text) (events : List Event) (coming : List Frame) : Type 0 where
  pub journal : List Arrival
  pub proposed : List (ℕ × NonEmptyValue)
  pub stand : OutcomesStand events id journal proposed coming

-- what the store has of the output of the live attempt, and what that has not handed out, are the bytes of the frames on their way
pub record Flies {H : Type 0} (new : NewInvocation) (version : Version) (coming : List Sent) (output : Bytes) (attempt : Attempt H) : Type 0 where
  pub version_is : new.version ≡ version_number version
  pub bytes : output ++ output_of attempt ≡ sent_stream version coming

-- what was told of each attempt of the invocation, by its number
abbrev pub ToldOf : Type 0
ToldOf = ℕ → Option Tracked

module _ {H : Type 0} (function : H → Handler) (next : Handler) (options : VMOptions) (id : Text) (told : ToldOf) where
  -- an invocation that was begun: what is recorded of it and what is on its way is of the run, attempts beyond those that were begun are not
  -- held, the outcomes on their way are those of the live one, its bytes are of the frames on their way, which say what was told of it, no error
  -- has closed the invocation, and each that is held stands as it was told
  pub record FollowsBegun (events : List Event) (output : Option Bytes) (held : List (HeldAttempt H)) (new : NewInvocation) : Type 0 where
    pub version : Version
    pub coming : List Sent
    pub typed : EventsFit id events
    pub unfailed : AllByRecursion (FailsNot id) events
    pub fit : sent.AllFit version coming
    pub of_store : AllByRecursion IsOfStore coming
    pub follows : FollowsSo next (given_of options id events new) id events (map (frame_meant version) coming)
    pub outcomes : (number : ℕ) → live_attempt events id ≡ Some number → OutcomesFly id events (map (frame_meant version) coming)
    pub told_frames : (number : ℕ) (t : Tracked) → live_attempt events id ≡ Some number → told number ≡ Some t → AllByRecursion (IsFrameTold t.told) (map (frame_meant version) coming)
    pub numbered : (number : ℕ) → attempts_begun events id < number → (held_of held id number ≡ None) × (told number ≡ None)
    pub flies : (number : ℕ) (waits : Bytes) (one : HeldAttempt H) → live_attempt events id ≡ Some number → output ≡ Some waits → held_of held id number ≡ Some one
        → Flies new version coming waits one.attempt
    pub attends : (number : ℕ) (one : HeldAttempt H) → held_of held id number ≡ Some one → AttendsAs function next options id events new version coming number (told number) one.attempt

  -- of an invocation that was not begun no attempt is held
  abbrev pub FollowsWhere : List Event → Option Bytes → List (HeldAttempt H) → Option NewInvocation → Type 0
  FollowsWhere events output held None = (number : ℕ) → (held_of held id number ≡ None) × (told number ≡ None)
  FollowsWhere events output held (Some new) = FollowsBegun events output held new

  abbrev pub FollowsIn : List Event → Option Bytes → List (HeldAttempt H) → Type 0
  FollowsIn events output held = FollowsWhere events output held (invocation_begun events id)

  abbrev pub FollowsTold : Standing → List (HeldAttempt H) → Type 0
  FollowsTold s held = FollowsIn s.events (s.outputs id) held

-- whatever was told
abbrev pub Follows : {H : Type 0} → (H → Handler) → Handler → VMOptions → Text → Standing → List (HeldAttempt H) → Type 0
Follows function next options id s held = (told : ToldOf) × FollowsTold function next options id told s held
