-- What a schedule has recorded, in terms of accepted events, behind those that its store stood for: the statement in front of all others.
use Rattle.std.specs.Prelude.{◌≡◌, ◌≢◌, ◌⊎◌, ℕ, ◌+◌, ◌<◌, ◌≤◌, ◌||◌, if◌then◌else◌, List, [], ◌∷◌, ◌++◌, length, map, take, Option, Some, None, bytes_eq}
use Rattle.std.specs.List.{AllByRecursion, list_any, sum}
use Rattle.sqlite_trees.specs.declared.store.Store.{Ghosts}
use Rattle.sqlite_trees.specs.Tree.{Trees}
use Rattle.sqlite.specs.Held.{state}
use Rattle.journal_model.specs.Notification.{Bytes, Text}
use Rattle.journal_model.specs.declared.invocation.NewInvocation.{NewInvocation}
use Rattle.journal_model.specs.Event.{Event, Frame}
use Rattle.journal_model.specs.Journal.{begins, entries_of, is_of, is_tick, is_open as is_open_after, invocation_begun}
use Rattle.journal_model.specs.Attempt.{attempts_begun, completions_of_tick, due, input_left, is_due as is_due_after}
use Rattle.journal_model.specs.Cause.{IsAccepted}
use Rattle.journal_model.specs.Run.{Handler}
use Rattle.journal_model.specs.Headline.{Headline, NeverLate, WakesExactly}
use Rattle.vm_types.specs.Options.{run_options}
use Rattle.vm_types.specs.declared.options.VMOptions.{VMOptions}
use Rattle.store_refusals.specs.declared.refusal.Refusal.{Refusal}
use Rattle.store_refusals.specs.declared.refusal.Refusal.TheVariants.{OutOfMemory}
use Rattle.store_model.specs.Progress.{last_error_of}
use Rattle.store_invocations.specs.JournalContent.{entries_told}
use Rattle.store_invocations.specs.InvocationAnswers.{answer_told}
use Rattle.journal_store.specs.StoreView.{Stored}
use Rattle.journal_store.specs.StoreStanding.{KeepsAll, Outlasts, Stands}
use Rattle.schedule_laws.specs.InvocationInRun.{HoldsOf, ReplaysInLine, given_of}
use Rattle.schedule_laws.specs.Laws.{IsClosedByEnd}
use Rattle.schedule_laws.specs.TurnReplies.{EachBegunTells}
use Rattle.schedule_laws.specs.Schedules.scheduled
use Rattle.schedule_laws.specs.Schedules.event
use Rattle.schedule_laws.specs.Schedules.reply
use Rattle.schedule_laws.specs.Schedules.refusal
use Rattle.schedule_laws.specs.Schedules.{Reply, Scheduled, Brings}
use Rattle.scheduler.specs.SchedulerCalls.{IsScheduled}
use Rattle.scheduler.specs.declared.scheduler.Scheduler.{Scheduler}
use Rattle.durable_schedule.specs.HandedBytes.{AreHandedBy, IsHandedInput}
use Rattle.durable_schedule.specs.MovedBytes.{AreFramesTaken, AreMovedBy, stop_for}
use Rattle.durable_schedule.specs.Runs.{AreButLast, LastsBehind, NoneWritten}

-- ---- what was accepted, by the replies

-- How many bytes are fed of those that are left: as many as are there, up to those that are asked for. Where the store refuses a further part,
-- one at least, of those that are there, and fewer than were asked for.
abbrev pub AreFed : (count : ℕ) → (left : Bytes) → (bytes : ℕ) → Option Refusal → Type 0
AreFed count left bytes None = bytes ≡ length (take count left)
AreFed count left bytes (Some why) = (bytes ≢ 0) × (bytes < count) × (bytes ≤ length left)

-- What is accepted of one event of a schedule behind those before, the last one first, by its reply, and which numbers the reply tells: the
-- place that an arrival takes, how many sleeps a tick ends, which attempt begins, how much of its input it is fed. A feed is handed out in
-- parts. A begin for whose attempt the scheduler had no memory may have been accepted; anything else that was refused was not.
abbrev pub IsAcceptedOf : {H : Type 0} → scheduled.Event H → Reply → (before accepted : List Event) → Type 0
IsAcceptedOf (event.Invoke new) reply.Done before accepted = accepted ≡ Event.Invoke new ∷ []
IsAcceptedOf (event.Result id completion value) (reply.Placed place) before accepted =
    (place ≡ 1 + length (entries_of before id)) × (accepted ≡ Event.Result id completion value ∷ [])
IsAcceptedOf (event.Signal id key value) (reply.Placed place) before accepted = (place ≡ 1 + length (entries_of before id)) × (accepted ≡ Event.Signal id key value ∷ [])
IsAcceptedOf (event.Cancel id) (reply.Placed place) before accepted = (place ≡ 1 + length (entries_of before id)) × (accepted ≡ Event.Cancel id ∷ [])
IsAcceptedOf (event.Tick now) (reply.Ticked count) before accepted = (count ≡ completions_of_tick before now) × (accepted ≡ Event.Tick now ∷ [])
IsAcceptedOf (event.Begin id handler now) (reply.Begun number) before accepted = (number ≡ 1 + attempts_begun before id) × (accepted ≡ Event.Begin id now ∷ [])
IsAcceptedOf (event.Begin id handler now) (reply.Refused why) before accepted =
    (accepted ≡ []) ⊎ ((why ≡ refusal.Store OutOfMemory) × (accepted ≡ Event.Begin id now ∷ []))
IsAcceptedOf (event.Feed id attempt count) (reply.Fed bytes why) before accepted =
    (parts : List ℕ) × (parts ≢ []) × (sum parts ≡ bytes) × AreFed count (input_left before id) bytes why × (accepted ≡ map (Event.Feed id attempt) parts)
IsAcceptedOf (event.Close id attempt) reply.Done before accepted = accepted ≡ Event.Close id attempt ∷ []
IsAcceptedOf (event.Turn id attempt outcome) (reply.Turned turn) before accepted = accepted ≡ []
IsAcceptedOf (event.Move id attempt count) (reply.Moved bytes frames why) before accepted =
    (taken : List Frame) × (length taken ≡ frames) × (accepted ≡ stop_for id attempt why ++ map (Event.Move id attempt) taken)
IsAcceptedOf (event.Stop id attempt) reply.Done before accepted = accepted ≡ Event.Stop id attempt ∷ []
IsAcceptedOf one (reply.Refused why) before accepted = accepted ≡ []
IsAcceptedOf one answer before accepted = ⊥

-- These are all that is accepted of a schedule, behind what was accepted before, and what is accepted of each of its events.
abbrev pub AreAcceptedOf : {H : Type 0} → List (scheduled.Event H) → List Reply → (added : List (List Event)) → (before events : List Event) → Type 0
AreAcceptedOf [] [] [] before events = events ≡ before
AreAcceptedOf (one ∷ asked) (answer ∷ replies) (accepted ∷ added) before events = IsAcceptedOf one answer before accepted × AreAcceptedOf asked replies added (accepted ++ before) events
AreAcceptedOf _ _ _ before events = ⊥

-- ---- what stands of one invocation

-- It is in the one uninterrupted run of this function.
pub record FollowsItsRun (next : Handler) (options : VMOptions) (id : Text) (events : List Event) : Type 0 where
  -- What the next schedule asks of the records: over this store, or, by `reopened_stores_hold`, over one that is opened again.
  pub holds : HoldsOf next options id events
  -- Its recorded requests are a beginning of those that the run makes over its recorded arrivals, and where an attempt was suspended or ended,
  -- all of the run's over the arrivals that it was handed; its answer is the run's; and its object's state follows.
  pub headline : Headline next (run_options options) options.fallback_random_seed events id
  -- It is closed by its end alone, by no error; and only then it has an answer, which is the run's.
  pub closed : (new : NewInvocation) → invocation_begun events id ≡ Some new → IsClosedByEnd events id
  -- the call `due` lists it where it is due
  pub listed : list_any (bytes_eq id) (due events) ≡ is_due_after events id
  -- where the run over all arrivals goes on, an invocation that is suspended is due
  pub never_late : (new : NewInvocation) → invocation_begun events id ≡ Some new → NeverLate next (given_of options id events new) events id
  -- and from version 7 on, where nothing was cancelled and each handle that it awaits stands for an id, it is due there alone
  pub wakes_exactly : (new : NewInvocation) → invocation_begun events id ≡ Some new → WakesExactly next (given_of options id events new) events id

-- the accepted events without those of other invocations that came since this one was made
abbrev pub without_others : Text → List Event → List Event
without_others id [] = []
without_others id (event ∷ earlier) =
    if begins id event then event ∷ earlier else (if is_of id event || is_tick event then event ∷ without_others id earlier else without_others id earlier)

-- The readers tell the same of it by these events as by those, and it is due by both or by neither.
pub record IsToldAlike (id : Text) (events others : List Event) : Type 0 where
  pub entries : entries_told events id ≡ entries_told others id
  pub answer : answer_told events id ≡ answer_told others id
  pub failure : last_error_of events id ≡ last_error_of others id
  pub is_open : is_open_after events id ≡ is_open_after others id
  pub is_due : is_due_after events id ≡ is_due_after others id

-- ---- what stands of all

module _ {H : Type 0} (function : H → Handler) (options : VMOptions) (before : List Event) where
  -- These accepted events, the last one first, are a faithful record of what was asked behind those from before.
  pub record IsFaithful (asked : List (scheduled.Event H)) (replies : List Reply) (events : List Event) : Type 0 where
    -- each was accepted after those before it, for no cause of a refusal held then
    pub accepted : IsAccepted events
    -- they are those that the replies tell
    pub added : List (List Event)
    pub told : AreAcceptedOf asked replies added before events
    -- The bytes that each event hands to the attempt that it names. Of each attempt these, one behind the other, are at each moment a beginning of
    -- its start frame, the journal as it was when it was begun, and each later arrival by place.
    pub handed : List Bytes
    pub hands : AreHandedBy asked replies handed
    pub fed : (id : Text) → (number : ℕ) → IsHandedInput id number asked replies added handed [] before
    -- The bytes that each event moves from the attempt that it names to the store, as many as its reply tells. The frames that a move takes are
    -- the first whole items of the torn frame that the store still held and of these bytes, in order; and what is torn then is kept for the next.
    pub moved : List Bytes
    pub moves : AreMovedBy asked replies moved
    pub taken : (id : Text) → (number : ℕ) → AreFramesTaken id number asked replies added moved [] before
    -- Of each attempt that is begun of such an invocation as `in_run` speaks of, each reply to a turn tells what the one uninterrupted run does over
    -- the arrivals that have come whole by then, which are one function of the bytes that were handed to the attempt and of the outcomes that it has
    -- proposed: a turn that was answered as having executed a body has executed the one that the run waits for, and proposes the outcome that the
    -- turn was given. It writes whole frames, each of the run, and no other: the requests by which the run goes on, that outcome, what is awaited, the
    -- suspension, the end, or the error. What is moved is the beginning of what was written and not moved before: as many bytes as were asked for, or
    -- all. And of the frames that are taken an outcome is one that it has proposed, for that run, and an error the one that a turn has failed by.
    pub turns : (next : Handler) (id : Text) → ReplaysInLine options → AllByRecursion (Brings function id next) asked → HoldsOf next options id before
        → EachBegunTells next options id asked replies added handed moved before
    -- Each invocation whose begins all bring one function is in the run of that function, if it was in it before: one that was not begun
    -- before is.
    pub in_run : (next : Handler) (id : Text) → ReplaysInLine options → AllByRecursion (Brings function id next) asked → HoldsOf next options id before → FollowsItsRun next options id events
    -- what came of others since an invocation was made changes nothing of it, whatever its begins bring
    pub isolated : (id : Text) → IsToldAlike id events (without_others id events)

  -- What tables keep that a crash leaves: a faithful record of the first of these events, each with its reply, but that of the last of them may
  -- be another one than was answered in the end. Every event that was answered as written is among them.
  pub record KeepsFirst (asked : List (scheduled.Event H)) (replies : List Reply) (trees : Trees) : Type 0 where
    pub first : List (scheduled.Event H)
    pub rest : List (scheduled.Event H)
    pub first_are : asked ≡ first ++ rest
    pub answers : List Reply
    pub answered : List Reply
    pub later : List Reply
    pub replies_are : replies ≡ answered ++ later
    pub but_last : AreButLast answers answered
    pub unwritten : NoneWritten rest later
    pub events : List Event
    pub faithful : IsFaithful first answers events
    pub keeps : KeepsAll events trees

-- What a crash leaves from then on: such a record; or what it could leave before, where no event was answered as written.
module _ {H : Type 0} (function : H → Handler) (options : VMOptions) (before : List Event) where
  abbrev pub KeepsWritten : List (scheduled.Event H) → List Reply → (could_be_left : Trees → Type 0) → Trees → Type 0
  KeepsWritten asked replies could_be_left trees = (NoneWritten asked replies × could_be_left trees) ⊎ KeepsFirst function options before asked replies trees

-- Something was written, and no event behind it was refused for want of memory or by the database, of those that may write more.
abbrev pub IsWrittenLast : {H : Type 0} → List (scheduled.Event H) → List Reply → Type 0
IsWrittenLast asked replies = LastsBehind ⊥ asked replies

-- ---- of a store

module _ {S : Type 0} (g : Ghosts S) where
  -- a store stands for these accepted events: its readers tell of them (`told` of `Store::entries`, `answer`, `failure`, `is_open`, `due`, `next_moment`)
  abbrev pub StandsFor : List Event → Stored S → Type 0
  StandsFor events store = Stands events (state g store.connection) store.live.attempts

  module _ {H : Type 0} where
    -- and so do those of the scheduler, whose clauses `told` begin with all that it stands for
    pub record ReadersTell (events : List Event) (scheduler : Scheduler H S) : Type 0 where
      pub store : StandsFor events scheduler.store
      pub scheduled : Scheduled H
      pub is : IsScheduled g scheduled scheduler
      pub same : scheduled.standing.events ≡ events

    -- There is one list of accepted events of which the readers tell; it is a faithful record of what was asked; and all of it lasts.
    pub record RecordsFaithfully (function : H → Handler) (options : VMOptions) (before : List Event) (asked : List (scheduled.Event H)) (replies : List Reply) (scheduler : Scheduler H S) : Type 0 where
      pub events : List Event
      pub readers : ReadersTell events scheduler
      pub faithful : IsFaithful function options before asked replies events
      -- whatever a crash leaves from then on, the tables keep all of it
      pub lasts : IsWrittenLast asked replies → Outlasts events (state g scheduler.store.connection)
