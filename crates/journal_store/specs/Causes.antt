-- What a call of a store tells where the database refused a statement.
use Rattle.std.specs.Prelude.{◌≡◌, ◌⊎◌, ℕ, List, Option, None, IsTrue}
use Rattle.sqlite_trees.specs.declared.store.Store.{Ghosts}
use Rattle.sqlite.specs.Held.{state}
use Rattle.sqlite.specs.Effect.{Database}
use Rattle.sqlite.specs.State.{State, HasCleanDisk}
use Rattle.sqlite.specs.declared.error.Error.{Error}
use Rattle.sqlite.specs.declared.error.Error.TheVariants.{SqliteFailure}
use Rattle.sqlite.specs.declared.error.ErrorCode.TheVariants as code
use Rattle.journal_model.specs.Notification.{Bytes, Text}
use Rattle.journal_model.specs.Event.{Event, Frame}
use Rattle.sql_tables.specs.Causes.{AreRefused, HasFailed, IsCause}
use Rattle.sql_tables.specs.Refusals.{has_no_place}
use Rattle.store_tables.specs.declared.row.Write.{Write}
use Rattle.store_tables.specs.Statements.{statements_of_all}
use Rattle.store_tables.specs.Tables.{store_schema}
use Rattle.store_model.specs.Writes.{AreEnding, writes_of}
use Rattle.store_refusals.specs.declared.refusal.Refusal.{Refusal}
use Rattle.store_refusals.specs.declared.refusal.Refusal.TheVariants.{StatementRefused}
use Rattle.store_refusals.specs.Causes.{TellsCause}
use Rattle.store_invocations.specs.ForgottenRows.{forgetting_writes_of_all}
use Rattle.store_arrivals.specs.PreparedTicks.{ready_writes}
use Rattle.store_steps.specs.declared.frame.FrameReply.{FrameReply}
use Rattle.store_calls.specs.AbstractStore.{Standing}
use Rattle.store_calls.specs.Calls.{PutsBehind}
use Rattle.store_calls.specs.Frames.{IsNext, TakesEach}
use Rattle.journal_store.specs.StoreView.{Stored}
use Rattle.journal_store.specs.StoreStanding.{IsStanding, KeepsAll}

-- ---- which event was to be written

-- an event of what the store stood for, or of what it stood for once the frames before were taken
abbrev pub Tries : Type 1
Tries = Standing → Standing → Event → Type 0

-- this event
abbrev pub TriesEvent : Event → Tries
TriesEvent one s at event = (at ≡ s) × (event ≡ one)

-- the first frame that waits of an attempt is taken
abbrev pub TakesNext : Text → (attempt : ℕ) → Standing → Event → Type 0
TakesNext id attempt at event = (frame : Frame) × (rest : Bytes) × IsNext id at frame rest × (event ≡ Event.Move id attempt frame)

abbrev pub TriesFrame : Text → (attempt : ℕ) → Tries
TriesFrame id attempt s at event = (at ≡ s) × TakesNext id attempt at event

-- behind frames that were answered so
abbrev pub TriesFrameBehind : Text → (attempt : ℕ) → List FrameReply → Tries
TriesFrameBehind id attempt replies s at event = TakesEach id attempt replies s at × TakesNext id attempt at event

-- among bytes that were put behind
abbrev pub TriesFrameOf : Text → (attempt : ℕ) → Bytes → List FrameReply → Tries
TriesFrameOf id attempt bytes replies s at event = (pushed : Standing) × PutsBehind id attempt bytes s pushed × TriesFrameBehind id attempt replies pushed at event

-- ---- why it was refused

-- the writes of an event behind others; those of a tick stand in some order of the invocations whose sleeps it ends
abbrev pub AreWritesOf : List Event → Event → List Write → Type 0
AreWritesOf events (Event.Tick now) writes = (ids : List Text) × AreEnding events now ids × (writes ≡ ready_writes events now ids)
AreWritesOf events event writes = writes ≡ writes_of events event

-- SQL's own rules refuse a statement of these writes, over the tables of a store that keep the events before
pub record RefusesEvent (limit : Option ℕ) (events : List Event) (event : Event) (before : Database) (cause : Error) : Type 0 where
  pub schema : before.schema ≡ store_schema
  pub keeps : KeepsAll events before.trees
  pub writes : List Write
  pub are : AreWritesOf events event writes
  pub refused : AreRefused limit (statements_of_all writes) before cause

module _ {S : Type 0} (g : Ghosts S) where
  -- So it is of the event that was tried, whatever the store stood for. Where the connection is open, its tables are those before the event.
  pub record RefusesTried (Tried : Tries) (old new : Stored S) (cause : Error) : Type 0 where
    pub before : Database
    pub left : IsTrue (state g new.connection).is_open → (state g new.connection).now ≡ before
    pub refuses : (s : Standing) → IsStanding g s old → (at : Standing) × (event : Event) × Tried s at event × RefusesEvent (state g old.connection).step_limit at.events event before cause

  module _ (old new : Stored S) where
    -- a call that only asks tells the database's own cause
    abbrev pub TellsWhy : Refusal → Type 0
    TellsWhy = TellsCause (state g old.connection) (state g new.connection)

    -- so does one that writes, or tells for what SQL's rules refuse a statement of the event that it tries
    abbrev pub TellsWhyUnwritten : Tries → Refusal → Type 0
    TellsWhyUnwritten Tried why =
        HasCleanDisk (state g new.connection) → (cause : Error) → why ≡ StatementRefused cause
        → IsCause (state g old.connection) (state g new.connection) cause ⊎ RefusesTried Tried old new cause

-- ---- what forgets invocations

-- SQL's own rules refuse a statement that removes a row of theirs, over the tables of a store that keep these events
pub record RefusesRemoval (limit : Option ℕ) (events : List Event) (ids : List Text) (before : Database) (cause : Error) : Type 0 where
  pub schema : before.schema ≡ store_schema
  pub keeps : KeepsAll events before.trees
  pub refused : AreRefused limit (statements_of_all (forgetting_writes_of_all ids)) before cause

module _ {S : Type 0} (g : Ghosts S) (old new : Stored S) (ids : List Text) where
  -- So it is, whatever the store stood for. Where the connection is open, its tables are those before.
  pub record RefusesForgetting (cause : Error) : Type 0 where
    pub before : Database
    pub left : IsTrue (state g new.connection).is_open → (state g new.connection).now ≡ before
    pub refuses : (s : Standing) → IsStanding g s old → RefusesRemoval (state g old.connection).step_limit s.events ids before cause

  -- a call that forgets tells the database's own cause, or for what SQL's rules refuse a statement of it
  abbrev pub TellsWhyUnforgotten : Refusal → Type 0
  TellsWhyUnforgotten why =
      HasCleanDisk (state g new.connection) → (cause : Error) → why ≡ StatementRefused cause → IsCause (state g old.connection) (state g new.connection) cause ⊎ RefusesForgetting cause

-- ---- what that comes to

-- the connection was open and had no limit on steps, and its disk has not failed since and returned what was written
pub record RunsWell (old new : State) : Type 0 where
  pub was_open : IsTrue old.is_open
  pub unlimited : old.step_limit ≡ None
  pub works : HasFailed old new → ⊥
  pub clean : HasCleanDisk new

module _ {S : Type 0} (g : Ghosts S) where
  -- then a statement of a call that only asks is refused for want of memory alone
  abbrev pub AskingWantsMemory : Type 0
  AskingWantsMemory =
      (old new : Stored S) → RunsWell (state g old.connection) (state g new.connection) → (why : Refusal) → TellsWhy g old new why
      → (cause : Error) → why ≡ StatementRefused cause → cause ≡ SqliteFailure code.OutOfMemory

  -- and one of a call that writes, of a store that stands for something, for that, or because SQL's rules find no place for a row
  abbrev pub WritingWantsMemory : Tries → Type 0
  WritingWantsMemory Tried =
      (old new : Stored S) → RunsWell (state g old.connection) (state g new.connection) → (s : Standing) → IsStanding g s old → (why : Refusal) → TellsWhyUnwritten g old new Tried why
      → (cause : Error) → why ≡ StatementRefused cause → (cause ≡ SqliteFailure code.OutOfMemory) ⊎ (IsTrue (has_no_place cause) × RefusesTried g Tried old new cause)

  -- so is one of a call that forgets
  abbrev pub ForgettingWantsMemory : Type 0
  ForgettingWantsMemory =
      (old new : Stored S) → RunsWell (state g old.connection) (state g new.connection) → (s : Standing) → IsStanding g s old → (ids : List Text) (why : Refusal) → TellsWhyUnforgotten g old new ids why
      → (cause : Error) → why ≡ StatementRefused cause → (cause ≡ SqliteFailure code.OutOfMemory) ⊎ (IsTrue (has_no_place cause) × RefusesForgetting g old new ids cause)
