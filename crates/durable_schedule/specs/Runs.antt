-- What a schedule answers and leaves.
use Rattle.std.specs.Prelude.{◌≡◌, ◌≢◌, ◌⊎◌, ℕ, Bool, true, false, if◌then◌else◌, List, [], ◌∷◌, ◌++◌, Option, Some, None, bytes_eq}
use Rattle.std.specs.List.{AllByRecursion, list_any}
use Rattle.sqlite_trees.specs.declared.store.Store.{Ghosts}
use Rattle.sqlite_trees.specs.Tree.{Trees}
use Rattle.sqlite.specs.Held.{state}
use Rattle.sqlite.specs.State.{HasCleanDisk}
use Rattle.journal_model.specs.Notification.{Bytes, Text}
use Rattle.journal_model.specs.declared.invocation.NewInvocation.{NewInvocation}
use Rattle.journal_model.specs.Event.{Event}
use Rattle.journal_model.specs.Cause.{IsAccepted, after_open}
use Rattle.journal_model.specs.Journal.{begins, invocation_begun, invocation_of, is_tick}
use Rattle.journal_model.specs.Attempt.{due, is_due}
use Rattle.journal_model.specs.Headline.{Headline, NeverLate, WakesExactly}
use Rattle.journal_model.specs.Run.{Handler}
use Rattle.journal_laws.specs.Forgetting.{without_all}
use Rattle.vm_types.specs.Options.{run_options}
use Rattle.vm_types.specs.declared.options.VMOptions.{VMOptions}
use Rattle.store_calls.specs.AbstractStore.{Standing}
use Rattle.store_refusals.specs.declared.refusal.Refusal.{Refusal}
use Rattle.store_refusals.specs.RefusalConditions.{is_circumstance}
use Rattle.journal_store.specs.StoreView.{Stored}
use Rattle.journal_store.specs.StoreStanding.{KeepsStanding}
use Rattle.schedule_laws.specs.Isolation.{IsAlike}
use Rattle.schedule_laws.specs.Laws.{IsClosedByEnd, RefuseNoFrame}
use Rattle.schedule_laws.specs.Schedules.scheduled
use Rattle.schedule_laws.specs.Schedules.event
use Rattle.schedule_laws.specs.Schedules.reply
use Rattle.schedule_laws.specs.Schedules.refusal
use Rattle.schedule_laws.specs.Schedules.{Reply, HeldAttempt, Scheduled, Applies, AppliesAll, Brings}
use Rattle.schedule_laws.specs.InvocationInRun.{ReplaysInLine, HoldsOf, given_of}
use Rattle.schedule_laws.specs.TurnReplies.{EachBegunTells}
use Rattle.durable_schedule.specs.HandedBytes.{HandsEach, IsHandedInput}
use Rattle.durable_schedule.specs.MovedBytes.{AreFramesTaken}

-- ---- its events, one after another

-- no attempts are held yet
abbrev pub at_first : {H : Type 0} → Standing → Scheduled H
at_first s = record { standing = s; held = [] }

module _ {H : Type 0} (function : H → Handler) (options : VMOptions) where
  -- the first of these events are applied one after another, with some answers
  pub record AppliesFirst (events : List (scheduled.Event H)) (s t : Standing) : Type 0 where
    pub first : List (scheduled.Event H)
    pub rest : List (scheduled.Event H)
    pub beginning : events ≡ first ++ rest
    pub answers : List Reply
    pub held : List (HeldAttempt H)
    pub applies : AppliesAll function options first answers (at_first s) (record { standing = t; held = held })

-- ---- what lasts

-- It is no want of memory and no statement that was refused: behind these what was asked for may have been written all the same.
abbrev pub IsCertain : Refusal → Type 0
IsCertain why = is_circumstance why ≡ false

abbrev pub AreCertain : Option Refusal → Type 0
AreCertain None = Unit {0}
AreCertain (Some why) = IsCertain why

-- Whether all lasts that was accepted up to an event which may commit something, by its reply, from whether all before it did. What was
-- done or taken was written, and all before it; what was refused for a cause was not.
abbrev pub LastsBy : Type 0 → Reply → Type 0
LastsBy Before (reply.Refused (refusal.Store why)) = IsCertain why × Before
LastsBy Before (reply.Refused refusal.AttemptNotHeld) = Before
LastsBy Before (reply.Moved bytes frames why) = AreCertain why × ((frames ≢ 0) ⊎ Before)
LastsBy Before _ = Unit {0}

-- what is fed, closed, turned and stopped commits nothing
abbrev pub LastsNext : {H : Type 0} → Type 0 → scheduled.Event H → Reply → Type 0
LastsNext Before (event.Feed id attempt count) answer = Before
LastsNext Before (event.Close id attempt) answer = Before
LastsNext Before (event.Turn id attempt outcome) answer = Before
LastsNext Before (event.Stop id attempt) answer = Before
LastsNext Before _ answer = LastsBy Before answer

-- up to the last of these events, each with its reply
abbrev pub LastsBehind : {H : Type 0} → Type 0 → List (scheduled.Event H) → List Reply → Type 0
LastsBehind Before (one ∷ events) (answer ∷ replies) = LastsBehind (LastsNext Before one answer) events replies
LastsBehind Before _ _ = Before

-- frames of a move were taken and told, whatever was refused behind them
abbrev pub HasTakenOf : {H : Type 0} → scheduled.Event H → Reply → Type 0
HasTakenOf (event.Move id attempt count) (reply.Moved bytes frames why) = frames ≢ 0
HasTakenOf one answer = ⊥

-- an event was answered so that all of it was written for certain, or these frames, and so all before it
abbrev pub IsWrittenSo : {H : Type 0} → scheduled.Event H → Reply → Type 0
IsWrittenSo one answer = LastsNext ⊥ one answer ⊎ HasTakenOf one answer

-- none of these events was, each with its reply
abbrev pub NoneWritten : {H : Type 0} → List (scheduled.Event H) → List Reply → Type 0
NoneWritten [] [] = Unit {0}
NoneWritten (one ∷ events) (answer ∷ replies) = (IsWrittenSo one answer → ⊥) × NoneWritten events replies
NoneWritten _ _ = ⊥

-- the same replies, but for the last of them
abbrev pub AreButLast : (replies others : List Reply) → Type 0
AreButLast replies others = (replies ≡ others) ⊎ ((same : List Reply) × (last : Reply) × (other : Reply) × (replies ≡ same ++ last ∷ []) × (others ≡ same ++ other ∷ []))

module _ {H : Type 0} (function : H → Handler) (options : VMOptions) where
  -- The first of these events are applied, each answered as it was, but for the last of them: that may be another one than was answered in the
  -- end. Of those behind them none was answered as written.
  pub record AppliesAnswered (events : List (scheduled.Event H)) (replies : List Reply) (s t : Standing) : Type 0 where
    pub applies : AppliesFirst function options events s t
    pub answered : List Reply
    pub later : List Reply
    pub replies_are : replies ≡ answered ++ later
    pub but_last : AreButLast applies.answers answered
    pub unwritten : NoneWritten applies.rest later

-- Whatever a crash leaves from then on, the tables keep something in this relation to what the store stood for; or they could be left before, and
-- none of the events was answered as written.
abbrev pub EnduresUnwritten : {H S : Type 0} → Ghosts S → List (scheduled.Event H) → List Reply → (Standing → Standing → Type 0) → (old new : Stored S) → Type 0
EnduresUnwritten g events replies Relation old new =
    HasCleanDisk (state g new.connection) → (trees : Trees) → (state g new.connection).may_leave trees
    → (NoneWritten events replies × (state g old.connection).may_leave trees) ⊎ KeepsStanding g Relation old trees

-- ---- apart from others

-- the invocation that an event of a schedule is one of; a tick is one of none
abbrev pub invocation_named : {H : Type 0} → scheduled.Event H → Option Text
invocation_named (event.Invoke one) = Some one.id
invocation_named (event.Result id completion value) = Some id
invocation_named (event.Signal id key value) = Some id
invocation_named (event.Cancel id) = Some id
invocation_named (event.Tick now) = None
invocation_named (event.Begin id handler now) = Some id
invocation_named (event.Feed id attempt count) = Some id
invocation_named (event.Close id attempt) = Some id
invocation_named (event.Turn id attempt outcome) = Some id
invocation_named (event.Move id attempt count) = Some id
invocation_named (event.Stop id attempt) = Some id

-- an accepted event is one of this invocation; where none is named, it is a tick
abbrev pub IsOneOf : Option Text → Event → Type 0
IsOneOf None event = is_tick event ≡ true
IsOneOf (Some id) event = invocation_of event ≡ Some id

-- whether an event of a schedule is one of the invocation's own, or a tick, by the invocation that it names
abbrev pub is_seen_by : Text → Option Text → Bool
is_seen_by id None = true
is_seen_by id (Some other) = bytes_eq other id

-- it is one of another invocation, and no tick
abbrev pub IsApart : {H : Type 0} → Text → scheduled.Event H → Type 0
IsApart id one = is_seen_by id (invocation_named one) ≡ false

-- What an invocation would have been told, had only its own events and the ticks come since the schedule began, or since it was begun in
-- it. Behind what it was told so far this is what it is told behind an event of the schedule that has added these events to all of them.
abbrev pub told_alone : Text → (is_seen : Bool) → (added all alone : List Event) → List Event
told_alone id is_seen [] all alone = alone
told_alone id is_seen (event ∷ added) all alone =
    if begins id event then event ∷ (added ++ all)
    else (if is_seen then event ∷ told_alone id is_seen added all alone else told_alone id is_seen added all alone)

-- behind each of these events, the same stands of the invocation as if it had been told no others, and it is answered alike
abbrev pub StandsBehind : Text → (is_seen : Bool) → (added all alone : List Event) → Type 0
StandsBehind id is_seen [] all alone = IsAlike all alone id
StandsBehind id is_seen (event ∷ added) all alone = StandsBehind id is_seen added all alone × IsAlike (event ∷ (added ++ all)) (told_alone id is_seen (event ∷ added) all alone) id

-- So it is behind all that each event of a schedule has added.
abbrev pub StandsApart : {H : Type 0} → Text → List (scheduled.Event H) → (added : List (List Event)) → (all alone : List Event) → Type 0
StandsApart id (one ∷ events) (some ∷ added) all alone =
    StandsBehind id (is_seen_by id (invocation_named one)) some all alone
    × StandsApart id events added (some ++ all) (told_alone id (is_seen_by id (invocation_named one)) some all alone)
StandsApart id _ _ all alone = IsAlike all alone id

module _ {H : Type 0} (function : H → Handler) (options : VMOptions) where
  -- Events are applied one after another, with these replies, and each has added these to the accepted events, the last one first: events
  -- of the invocation that it names, and of no other.
  abbrev pub AppliesEach : List (scheduled.Event H) → List Reply → (added : List (List Event)) → Scheduled H → Scheduled H → Type 0
  AppliesEach [] [] [] old new = new ≡ old
  AppliesEach (one ∷ events) (answer ∷ replies) (some ∷ added) old new =
      (between : Scheduled H) × Applies function options one answer old between × (between.standing.events ≡ some ++ old.standing.events)
      × AllByRecursion (IsOneOf (invocation_named one)) some × AppliesEach events replies added between new
  AppliesEach _ _ _ old new = ⊥

-- ---- what a schedule leaves

-- What stands of an invocation in the run of this function behind these events, each of which was answered so.
pub record StandsInRun {H : Type 0} (next : Handler) (options : VMOptions) (id : Text) (events : List (scheduled.Event H)) (replies : List Reply) (after : List Event) : Type 0 where
  -- What is recorded of it is of the run: with this the next schedule begins, by `reopened_stores_hold` also over a store that is opened
  -- again.
  pub holds : HoldsOf next options id after
  -- So its recorded requests are a beginning of those of the one uninterrupted run over its recorded arrivals; at each of its suspensions
  -- and ends among these accepted events, not at the last one alone, they were all of the run's over the arrivals that its attempt had been
  -- handed; its answer is that of the run; and while it is open its object's state is its starting state changed by its recorded requests.
  pub headline : Headline next (run_options options) options.fallback_random_seed after id
  -- It is closed by its end alone, by no error, and has an answer only then.
  pub closed : (new : NewInvocation) → invocation_begun after id ≡ Some new → IsClosedByEnd after id
  -- the call `due` lists it where it is due
  pub listed : list_any (bytes_eq id) (due after) ≡ is_due after id
  -- so waking is never late, and from version 7 on exact, where nothing was cancelled and each handle that is awaited stands for an id
  pub never_late : (new : NewInvocation) → invocation_begun after id ≡ Some new → NeverLate next (given_of options id after new) after id
  pub wakes_exactly : (new : NewInvocation) → invocation_begun after id ≡ Some new → WakesExactly next (given_of options id after new) after id
  -- no frame of it was refused for a cause that lies in the frame
  pub frames : RefuseNoFrame id events replies

module _ {H : Type 0} (function : H → Handler) (options : VMOptions) where
  -- what events leave that were applied with these replies
  pub record Leaves (events : List (scheduled.Event H)) (replies : List Reply) (old new : Scheduled H) : Type 0 where
    -- the accepted events from before stay, and more are put in front of them
    pub more : List Event
    pub grows : new.standing.events ≡ more ++ old.standing.events
    -- of each invocation whose begins all bring one function, if what was recorded of it before is of the run of that function
    pub in_run : (next : Handler) (id : Text) → ReplaysInLine options → AllByRecursion (Brings function id next) events → HoldsOf next options id old.standing.events
        → StandsInRun next options id events replies new.standing.events
    -- what each event has added to the accepted events
    pub added : List (List Event)
    pub each : AppliesEach function options events replies added old new
    -- Of each invocation, whatever its begins bring: at each moment of the schedule the same stands of it as if only its own events and the
    -- ticks had come since, and one more event of its own is refused alike. What else was accepted shows in the state that its object has
    -- where the invocation is begun, and in nothing behind that.
    pub isolated : (id : Text) → StandsApart id events added old.standing.events old.standing.events
    -- so what stood of it before stands of it, where no event of the schedule is one of its own or a tick
    pub untouched : (id : Text) → AllByRecursion (IsApart id) events → IsAlike new.standing.events old.standing.events id
    -- The bytes that each event hands to the attempt that it names: its start frame where it is begun, and of each feed as many as its reply
    -- tells, which the machine of the attempt is fed. And those that it moves from it to the store, as many as its reply tells.
    pub handed : List Bytes
    pub moved : List Bytes
    pub hands : HandsEach function options events replies added handed moved old new
    -- Of each attempt, whatever its invocation and its number: at each moment of the schedule these, one behind the other, are none, or a
    -- beginning of its start frame, the journal as it was when it was begun, and then each later arrival by place, as far as recorded by
    -- then, and all of that where nothing is left.
    pub fed : (id : Text) → (number : ℕ) → IsHandedInput id number events replies added handed [] old.standing.events
    -- Of each attempt the frames that a move takes are the first whole items of the torn frame that the store held of it and of the bytes that are
    -- moved, up to one that ends it or is refused; what is torn then is kept for the next move.
    pub taken : (id : Text) → (number : ℕ) → AreFramesTaken id number events replies added moved [] old.standing.events
    -- Of each attempt that is begun of such an invocation, live, stopped or overtaken, what each reply to a turn says is what the one
    -- uninterrupted run of its function does at that turn over the arrivals that have come whole by then: one function of the bytes that were
    -- handed to the attempt and of the outcomes that it has proposed. That is said of its start:
    -- the run of the invocation, with these options and its object's state at its begin, and the journal as it was then; of the replies to its
    -- turns so far, by how many have answered and what they have proposed; and of whether its input was closed. It writes frames by that, and what
    -- is moved is the beginning of what waits of these. Of its frames that are moved to the store an outcome is one that it has proposed.
    pub turns : (next : Handler) (id : Text) → ReplaysInLine options → AllByRecursion (Brings function id next) events → HoldsOf next options id old.standing.events
        → EachBegunTells next options id events replies added handed moved old.standing.events

  -- what the first of these events leave, of which the last may have been answered otherwise than it was, and none that was answered as
  -- written is left out
  pub record LeavesFirst (events : List (scheduled.Event H)) (replies : List Reply) (s t : Standing) : Type 0 where
    pub applied : AppliesAnswered function options events replies s t
    pub leaves : Leaves applied.applies.first applied.applies.answers (at_first s) (record { standing = t; held = applied.applies.held })

-- ---- a store that is opened again

-- What is recorded of an invocation is of the run behind the stops of the attempts that were live, if it was before them. That all were
-- accepted, a store that stands for them tells (`Stands.kept`).
abbrev pub ReopenedHold : Type 0
ReopenedHold = (next : Handler) (options : VMOptions) (id : Text) (events : List Event) → IsAccepted (after_open events) → HoldsOf next options id events
    → HoldsOf next options id (after_open events)

-- ---- a store that has forgotten invocations

-- What is recorded of an invocation is of the run behind what is left once these are forgotten, if it was before them.
abbrev pub ForgottenHold : Type 0
ForgottenHold = (next : Handler) (options : VMOptions) (id : Text) (events : List Event) (ids : List Text) → HoldsOf next options id events → HoldsOf next options id (without_all ids events)
