-- What a scheduler stands for, and what its calls make of that.
use Rattle.std.specs.Prelude.{◌≡◌, ◌≢◌, ◌==◌, ℕ, true, if◌then◌else◌, List, length, take, Option, Some, None, Result, Ok, Err, IfSome}
use Rattle.sqlite_trees.specs.declared.store.Store.{Ghosts}
use Rattle.sqlite.specs.Held.{state}
use Rattle.sqlite.specs.State.{State, HasCleanDisk}
use Rattle.journal_model.specs.Notification.{Bytes, Text}
use Rattle.journal_model.specs.Event.{Event}
use Rattle.journal_model.specs.Run.{Handler}
use Rattle.vm_types.specs.declared.options.VMOptions.{VMOptions}
use Rattle.store_refusals.specs.declared.refusal.Refusal.{Refusal}
use Rattle.store_refusals.specs.declared.refusal.Refusal.TheVariants.{OutOfMemory}
use Rattle.store_refusals.specs.Preparations.{TellsOrRefuses}
use Rattle.store_invocations.specs.Rows.{Decides, known_tests}
use Rattle.journal_store.specs.OutputAcceptance.{OutlastsFrames}
use Rattle.journal_store.specs.Causes.{TellsWhy, TellsWhyUnwritten, TriesEvent, TriesFrameOf}
use Rattle.journal_store.specs.StoreView.{Stored}
use Rattle.journal_store.specs.Words.{attempt_of, has_number}
use Rattle.journal_store.specs.StoreStanding.{Endures, IsQuiet, IsStanding, Leads, Outlasts}
use Rattle.schedule_model.specs.Attempts.attempts
use Rattle.schedule_model.specs.Attempts.{Attempt, output_of}
use Rattle.schedule_model.specs.declared.event.Event as scheduled
use Rattle.schedule_model.specs.declared.event.Event.TheVariants as event
use Rattle.schedule_model.specs.declared.event.Reply.{Reply}
use Rattle.schedule_model.specs.declared.event.Reply.TheVariants as reply
use Rattle.schedule_model.specs.declared.event.EventRefusal.{EventRefusal}
use Rattle.schedule_model.specs.declared.event.EventRefusal.TheVariants as refusal
use Rattle.schedule_model.specs.declared.held.HeldAttempt.{HeldAttempt}
use Rattle.schedule_model.specs.HeldAttempts.{held_of}
use Rattle.store_steps.specs.declared.frame.FrameReply.{FrameReply}
use Rattle.store_calls.specs.Calls.{HandsOut}
use Rattle.store_calls.specs.Frames.{Rests}
use Rattle.store_calls.specs.AbstractStore.{Standing}
use Rattle.schedule_model.specs.Schedule.{Scheduled, MovesOne, Does}
use Rattle.schedule_model.specs.ArgumentBounds.{FitsEvent}
use Rattle.scheduler.specs.declared.scheduler.Scheduler.{Scheduler}

abbrev pub IsDone : Reply → Type 0
IsDone reply.Done = Unit {0}
IsDone _ = ⊥

abbrev pub IsPlaced : Reply → Type 0
IsPlaced (reply.Placed place) = Unit {0}
IsPlaced _ = ⊥

abbrev pub HasTicked : Reply → Type 0
HasTicked (reply.Ticked count) = Unit {0}
HasTicked _ = ⊥

abbrev pub HasBegun : Reply → Type 0
HasBegun (reply.Begun number) = Unit {0}
HasBegun _ = ⊥

-- one frame was taken at least
abbrev pub HasTakenFrames : Reply → Type 0
HasTakenFrames (reply.Moved bytes frames why) = frames ≢ 0
HasTakenFrames _ = ⊥

-- an event is answered so that something of it was written
abbrev pub IsEventWritten : {H : Type 0} → scheduled.Event H → Reply → Type 0
IsEventWritten (event.Invoke one) answer = IsDone answer
IsEventWritten (event.Result id completion value) answer = IsPlaced answer
IsEventWritten (event.Signal id key value) answer = IsPlaced answer
IsEventWritten (event.Cancel id) answer = IsPlaced answer
IsEventWritten (event.Tick now) answer = HasTicked answer
IsEventWritten (event.Begin id handler now) answer = HasBegun answer
IsEventWritten (event.Move id attempt count) answer = HasTakenFrames answer
IsEventWritten _ answer = ⊥

-- ---- a part of a feed

-- the store hands it out, and the attempt is fed it; or the store refuses it
abbrev pub FeedsPart : {H : Type 0} → (most : ℕ) → HeldAttempt H → Result ℕ Refusal → Standing → Standing → Attempt H → Type 0
FeedsPart most one (Ok len) old new changed =
    (bytes : Bytes) × (len ≡ length bytes) × HandsOut one.invocation one.number most (Ok bytes) old new × attempts.Feeds bytes one.attempt changed
FeedsPart most one (Err why) old new changed = HandsOut one.invocation one.number most (Err why) old new × (changed ≡ one.attempt)

-- what is answered where the store refuses a part behind so many bytes
abbrev pub refused_behind : (fed : ℕ) → Refusal → Reply
refused_behind fed why = if fed == 0 then reply.Refused (refusal.Store why) else reply.Fed fed (Some why)

-- ---- a live attempt

-- this attempt is the live one of the invocation
abbrev pub IsLiveAttempt : {S : Type 0} → Text → (attempt : ℕ) → Stored S → Type 0
IsLiveAttempt id attempt store = has_number attempt (attempt_of store.live.attempts id) ≡ true

-- it is done, or nobody holds the attempt
abbrev pub IsDoneIfHeld : Reply → Type 0
IsDoneIfHeld (reply.Refused refusal.AttemptNotHeld) = Unit {0}
IsDoneIfHeld answer = IsDone answer

-- bytes were moved, or nobody holds the attempt, or memory was refused
abbrev pub IsMovedIfHeld : Reply → Type 0
IsMovedIfHeld (reply.Moved bytes frames why) = Unit {0}
IsMovedIfHeld (reply.Refused refusal.AttemptNotHeld) = Unit {0}
IsMovedIfHeld (reply.Refused (refusal.Store why)) = why ≡ OutOfMemory
IsMovedIfHeld _ = ⊥

-- Whatever the store stands for: a stop of a live attempt that is held is never refused, nor are its bytes but for want of memory.
abbrev pub TakesLive : {H S : Type 0} → scheduled.Event H → Reply → Stored S → Type 0
TakesLive (event.Stop id attempt) answer store = IsLiveAttempt id attempt store → IsDoneIfHeld answer
TakesLive (event.Move id attempt count) answer store = IsLiveAttempt id attempt store → IsMovedIfHeld answer
TakesLive _ answer store = Unit {0}

-- ---- an event that is refused before the store is asked

-- it is not: somebody holds the attempt that it names, if it names one, and the outcome of a turn tells no mismatch
abbrev pub IsTakenUp : Reply → Type 0
IsTakenUp (reply.Refused refusal.AttemptNotHeld) = ⊥
IsTakenUp (reply.Refused refusal.JournalMismatchOutcome) = ⊥
IsTakenUp _ = Unit {0}

-- where it is, all is as it was
abbrev pub SparesWhere : {H S : Type 0} → EventRefusal → Reply → Scheduler H S → Scheduler H S → Type 0
SparesWhere why answer old new = answer ≡ reply.Refused why → new ≡ old

-- a turn leaves the store as it was; bytes that are handed out, an input that is closed and a stop commit nothing
abbrev pub CommitsNothing : {H S : Type 0} → Ghosts S → scheduled.Event H → Stored S → Stored S → Type 0
CommitsNothing g (event.Turn id attempt outcome) old new = new ≡ old
CommitsNothing g (event.Feed id attempt count) old new = IsQuiet g old new
CommitsNothing g (event.Close id attempt) old new = IsQuiet g old new
CommitsNothing g (event.Stop id attempt) old new = IsQuiet g old new
CommitsNothing g _ old new = Unit {0}

-- so it is whatever the store stands for, and whatever the disk returned
pub record Spares {H S : Type 0} (g : Ghosts S) (one : scheduled.Event H) (answer : Reply) (old new : Scheduler H S) : Type 0 where
  pub unheld : SparesWhere refusal.AttemptNotHeld answer old new
  pub mismatch : SparesWhere refusal.JournalMismatchOutcome answer old new
  pub quiet : CommitsNothing g one old.store new.store

-- ---- where the database refused a statement

-- what the store refused, if it refused anything: the event, or what it would have done behind a part that was done
abbrev pub refusal_told : Reply → Option Refusal
refusal_told (reply.Fed bytes why) = why
refusal_told (reply.Moved bytes frames why) = why
refusal_told (reply.Refused (refusal.Store why)) = Some why
refusal_told _ = None

-- Bytes were moved, and behind the frames that were answered the next one of them is refused; or bytes are refused whole, which only asks.
abbrev pub TellsCauseOfMove : {H S : Type 0} → Ghosts S → (count : ℕ) → HeldAttempt H → Reply → Stored S → Stored S → Refusal → Type 0
TellsCauseOfMove g count one (reply.Moved bytes frames told) old new why =
    (replies : List FrameReply) × (frames ≡ length replies)
    × TellsWhyUnwritten g old new (TriesFrameOf one.invocation one.number (take count (output_of one.attempt)) replies) why
TellsCauseOfMove g count one _ old new why = TellsWhy g old new why

-- An event that only asks tells the database's own cause. One that writes tells that, or for what SQL's rules refuse a statement of it; a move,
-- one of the next frame of the attempt that is held. A turn asks nothing.
abbrev pub TellsCauseOf : {H S : Type 0} → Ghosts S → scheduled.Event H → (held : List (HeldAttempt H)) → Reply → Stored S → Stored S → Refusal → Type 0
TellsCauseOf g (event.Invoke one) held answer old new why = TellsWhyUnwritten g old new (TriesEvent (Event.Invoke one)) why
TellsCauseOf g (event.Result id completion value) held answer old new why = TellsWhyUnwritten g old new (TriesEvent (Event.Result id completion value)) why
TellsCauseOf g (event.Signal id key value) held answer old new why = TellsWhyUnwritten g old new (TriesEvent (Event.Signal id key value)) why
TellsCauseOf g (event.Cancel id) held answer old new why = TellsWhyUnwritten g old new (TriesEvent (Event.Cancel id)) why
TellsCauseOf g (event.Tick now) held answer old new why = TellsWhyUnwritten g old new (TriesEvent (Event.Tick now)) why
TellsCauseOf g (event.Begin id handler now) held answer old new why = TellsWhyUnwritten g old new (TriesEvent (Event.Begin id now)) why
TellsCauseOf g (event.Feed id attempt count) held answer old new why = TellsWhy g old new why
TellsCauseOf g (event.Close id attempt) held answer old new why = TellsWhy g old new why
TellsCauseOf g (event.Turn id attempt outcome) held answer old new why = ⊥
TellsCauseOf {H} g (event.Move id attempt count) held answer old new why =
    (one : HeldAttempt H) × (held_of held id attempt ≡ Some one) × TellsCauseOfMove g count one answer old new why
TellsCauseOf g (event.Stop id attempt) held answer old new why = TellsWhy g old new why

-- ---- what lasts of that

-- The frames that were taken last, up to where no further one was; one that was refused may have been written.
abbrev pub OutlastsRest : Text → (attempt : ℕ) → Option Refusal → Standing → State → Type 0
OutlastsRest id attempt why t database = (between : Standing) × Rests id attempt why between t × OutlastsFrames id attempt why between database

abbrev pub OutlastsMove : Text → (attempt : ℕ) → Reply → Standing → State → Type 0
OutlastsMove id attempt (reply.Moved bytes frames why) t database = OutlastsRest id attempt why t database
OutlastsMove id attempt _ t database = ⊥

-- Whatever a crash leaves from now on, the tables keep what was written.
abbrev pub OutlastsEvent : {H : Type 0} → scheduled.Event H → Reply → Standing → State → Type 0
OutlastsEvent (event.Move id attempt count) answer t database = OutlastsMove id attempt answer t database
OutlastsEvent _ answer t database = Outlasts t.events database

-- Whatever the store stood for, it stands for something in this relation to it then, and the frames that were taken last.
abbrev pub LeadsMoved : {S : Type 0} → Ghosts S → Text → (attempt : ℕ) → Reply → (Standing → Standing → Type 0) → Stored S → Stored S → Type 0
LeadsMoved g id attempt answer Relation old new = Leads g (λ s t. Relation s t × OutlastsMove id attempt answer t (state g new.connection)) old new

-- so many bytes at most were moved, with some answer
abbrev pub MovesSome : {H : Type 0} → (count : ℕ) → HeldAttempt H → Standing → Standing → Type 0
MovesSome {H} count one s t = (answer : Reply) × (changed : Attempt H) × MovesOne count one s answer t changed

module _ {H : Type 0} (function : H → Handler) (options : VMOptions) where
  -- an event is applied, with some answer
  abbrev pub AppliesWith : scheduled.Event H → (held : List (HeldAttempt H)) → Standing → Standing → Type 0
  AppliesWith one held s t = (answer : Reply) × (more : List (HeldAttempt H)) × Does function options one s held answer t more

-- ---- an event that is applied

-- what the store did is told, or why it refused
abbrev pub reply_to : {A : Type 0} → (A → Reply) → Result A Refusal → Reply
reply_to says (Ok done) = says done
reply_to says (Err why) = reply.Refused (refusal.Store why)

module _ {H S : Type 0} (g : Ghosts S) (function : H → Handler) where
  -- it is applied to whatever the scheduler stood for, with this answer
  abbrev pub LeadsBy : scheduled.Event H → Reply → Scheduler H S → Scheduler H S → Type 0
  LeadsBy one answer old new = Leads g (λ s t. Does function old.options one s old.held answer t new.held) old.store new.store

  -- and what is written of it lasts
  abbrev pub LastsBy : scheduled.Event H → Reply → Scheduler H S → Scheduler H S → Type 0
  LastsBy one answer old new =
      Leads g (λ s t. Does function old.options one s old.held answer t new.held × OutlastsEvent one answer t (state g new.store.connection)) old.store new.store

  -- all that is promised of an event, of which `apply` says what each clause is for
  pub record Performs (one : scheduled.Event H) (answer : Reply) (old new : Scheduler H S) : Type 0 where
    pub does : LeadsBy one answer old new
    pub lasts : IsEventWritten one answer → LastsBy one answer old new
    pub options : new.options ≡ old.options
    pub fits : FitsEvent one
    pub live : TakesLive one answer old.store
    pub spares : Spares g one answer old new
    pub cause : IfSome (refusal_told answer) (TellsCauseOf g one old.held answer old.store new.store)
    pub crash : Endures g (AppliesWith function old.options one old.held) old.store new.store

-- ---- what a scheduler stands for

module _ {H S : Type 0} (g : Ghosts S) where
  -- what its store stands for, and the attempts that it holds
  pub record IsScheduled (s : Scheduled H) (scheduler : Scheduler H S) : Type 0 where
    pub standing : IsStanding g s.standing scheduler.store
    pub held : s.held ≡ scheduler.held

  -- Of whatever it stood for a scheduler tells this, and it stands for that then.
  abbrev pub TellsAlways : {A : Type 0} → (List Event → A → Type 0) → Result A Refusal → Scheduler H S → Scheduler H S → Type 0
  TellsAlways IsTold result old new =
      HasCleanDisk (state g new.store.connection) → (s : Scheduled H) → IsScheduled s old
      → TellsOrRefuses (IsTold s.standing.events) result × IsScheduled s new

  -- Of whatever it stood for a scheduler tells this where its accepted events know the invocation, and is refused where they do not; and
  -- it stands for that then.
  abbrev pub TellsOf : {A : Type 0} → Text → (List Event → A → Type 0) → Result A Refusal → Scheduler H S → Scheduler H S → Type 0
  TellsOf id IsTold result old new =
      HasCleanDisk (state g new.store.connection) → (s : Scheduled H) → IsScheduled s old
      → Decides (known_tests s.standing.events id) (IsTold s.standing.events) result × IsScheduled s new
