-- When a store stands for a list of accepted events, and what a call makes of that.
use Rattle.std.specs.Prelude.{◌≡◌, false, bytes_eq, List, Option, Some, None, option_map, Result, Ok, Err}
use Rattle.sqlite_trees.specs.declared.store.Store.{Ghosts}
use Rattle.sqlite_trees.specs.Tree.{Trees}
use Rattle.sqlite.specs.Held.{state}
use Rattle.sqlite.specs.State.{State, HasCleanDisk, Survives}
use Rattle.journal_model.specs.Notification.{Bytes, Text}
use Rattle.journal_model.specs.Event.{Event}
use Rattle.store_frames.specs.ReadFrames.{AreRead}
use Rattle.store_tables.specs.Records.{Records, Holds}
use Rattle.store_model.specs.KeptRecords.{IsKept}
use Rattle.store_refusals.specs.declared.refusal.Refusal.{Refusal}
use Rattle.store_refusals.specs.Preparations.{TellsOrRefuses}
use Rattle.store_invocations.specs.Rows.{Decides, IsRowOf, IsStoreOf, known_tests}
use Rattle.store_live.specs.declared.attempt.LiveAttempt.{LiveAttempt}
use Rattle.store_live.specs.Attempts.{ByInvocation, attempt_of}
use Rattle.store_live_laws.specs.LiveAttempts.{Agrees}
use Rattle.store_calls.specs.AbstractStore.{Standing}
use Rattle.journal_store.specs.StoreView.{Stored}

-- an attempt has the row of its invocation
abbrev pub HasRow : List Event → Text → Option LiveAttempt → Type 0
HasRow events id None = Unit {0}
HasRow events id (Some attempt) = IsRowOf events id attempt.row

-- The events were accepted; the tables hold what is kept of them, as long as the connection is open; the attempts in memory are
-- the live ones, each with the row of its invocation.
pub record Stands (events : List Event) (database : State) (attempts : ByInvocation) : Type 0 where
  pub kept : IsStoreOf events database
  pub live : (id : Text) → Agrees events id (attempt_of attempts id)
  pub rows : (id : Text) → HasRow events id (attempt_of attempts id)

-- the bytes that came from the live attempt of an invocation and were not taken
abbrev pub output_of : ByInvocation → Text → Option Bytes
output_of attempts id = option_map (λ (attempt : LiveAttempt). attempt.output) (attempt_of attempts id)

-- what attempts wrote waits as before
abbrev pub KeepsOutputs : ByInvocation → ByInvocation → Type 0
KeepsOutputs old new = (id : Text) → output_of new id ≡ output_of old id

-- of one invocation these bytes wait then, if any attempt is live, and of the others what waited before
pub record WaitsNow (id : Text) (output : Option Bytes) (old new : ByInvocation) : Type 0 where
  pub own : output_of new id ≡ output
  pub others : (other : Text) → bytes_eq id other ≡ false → output_of new other ≡ output_of old other

-- so it is where a call was accepted; where it was refused, what attempts wrote waits as before
abbrev pub WaitsAfter : {A : Type 0} → Text → Option Bytes → Result A Refusal → ByInvocation → ByInvocation → Type 0
WaitsAfter id output (Ok answer) old new = WaitsNow id output old new
WaitsAfter id output (Err why) old new = KeepsOutputs old new

-- the tables hold what is kept of these events, of which each frame that was taken is that of a message
pub record KeepsAll (events : List Event) (trees : Trees) : Type 0 where
  pub read : AreRead events
  pub records : Records
  pub held : Holds trees records
  pub kept : IsKept events records

-- whatever is known so, the tables keep the events of something in this relation to it
abbrev pub KeepsOf : (Standing → Type 0) → (Standing → Standing → Type 0) → Trees → Type 0
KeepsOf IsKnown Relation trees = (s : Standing) → IsKnown s → (t : Standing) × Relation s t × KeepsAll t.events trees

-- whatever a crash leaves from now on, the tables keep these events
abbrev pub Outlasts : List Event → State → Type 0
Outlasts events database = (trees : Trees) → database.may_leave trees → KeepsAll events trees

module _ {S : Type 0} (g : Ghosts S) where
  -- ---- what a store stands for

  -- the accepted events, and what waits of each live attempt
  pub record IsStanding (s : Standing) (store : Stored S) : Type 0 where
    pub stands : Stands s.events (state g store.connection) store.live.attempts
    pub outputs : (id : Text) → s.outputs id ≡ output_of store.live.attempts id

  -- Whatever the store stood for, it stands for something in this relation to it then, if the disk returned what was written.
  abbrev pub Leads : (Standing → Standing → Type 0) → Stored S → Stored S → Type 0
  Leads Relation old new = HasCleanDisk (state g new.connection) → (s : Standing) → IsStanding s old → (t : Standing) × IsStanding t new × Relation s t

  -- ---- what a crash leaves

  -- the tables keep the events of something in this relation to what the store stood for, whatever that was
  abbrev pub KeepsStanding : (Standing → Standing → Type 0) → Stored S → Trees → Type 0
  KeepsStanding Relation store trees = KeepsOf (λ s. IsStanding s store) Relation trees

  -- What a crash leaves after some calls: what it could leave before them, or such tables.
  abbrev pub Endures : (Standing → Standing → Type 0) → Stored S → Stored S → Type 0
  Endures Relation old new = Survives (state g old.connection) (state g new.connection) (KeepsStanding Relation old)

  -- The same whatever attempts are in memory, of a call whose commit does not hang on them: the relation is to whatever events the
  -- tables kept.
  abbrev pub EnduresAlways : (Standing → Standing → Type 0) → Stored S → Stored S → Type 0
  EnduresAlways Relation old new =
      Survives (state g old.connection) (state g new.connection) (KeepsOf (λ s. IsStoreOf s.events (state g old.connection)) Relation)

  -- nothing is committed
  abbrev pub IsQuiet : Stored S → Stored S → Type 0
  IsQuiet old new = Survives (state g old.connection) (state g new.connection) (λ _. ⊥)

  -- What is done lasts: whatever the store stood for, it stands for something in this relation to it then, and whatever a crash
  -- leaves from now on, the tables keep the events of that.
  abbrev pub Settles : (Standing → Standing → Type 0) → Stored S → Stored S → Type 0
  Settles Relation old new =
      HasCleanDisk (state g new.connection) → (s : Standing) → IsStanding s old → (t : Standing) × IsStanding t new × Relation s t × Outlasts t.events (state g new.connection)

  -- ---- what is told

  -- Of whatever accepted events it stood for a store tells this, and it stands for them then.
  abbrev pub TellsAlways : {A : Type 0} → (List Event → A → Type 0) → Result A Refusal → Stored S → Stored S → Type 0
  TellsAlways IsTold result old new =
      HasCleanDisk (state g new.connection) → (events : List Event) → Stands events (state g old.connection) old.live.attempts
      → TellsOrRefuses (IsTold events) result × Stands events (state g new.connection) new.live.attempts

  -- Of whatever accepted events it stood for a store tells this where they know the invocation, and is refused where they do not; and
  -- it stands for them then.
  abbrev pub TellsOf : {A : Type 0} → Text → (List Event → A → Type 0) → Result A Refusal → Stored S → Stored S → Type 0
  TellsOf id IsTold result old new =
      HasCleanDisk (state g new.connection) → (events : List Event) → Stands events (state g old.connection) old.live.attempts
      → Decides (known_tests events id) (IsTold events) result × Stands events (state g new.connection) new.live.attempts
