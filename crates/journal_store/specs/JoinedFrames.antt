-- Frames of an attempt that are made ready one behind another, and written in one transaction.
use Rattle.std.specs.Prelude.{◌≡◌, ◌≢◌, ◌⊎◌, ◌+◌, ◌≤◌, ℕ, length, drop, Bool, true, false, if◌then◌else◌, List, [], ◌∷◌, ◌++◌, flat_map, Option, Some, None, Result, Ok}
use Rattle.std.specs.List.{AllByRecursion, list_any}
use Rattle.sqlite_trees.specs.declared.store.Store.{Ghosts}
use Rattle.sqlite.specs.Held.{Held, state}
use Rattle.sqlite.specs.State.{HasCleanDisk, Survives}
use Rattle.sql_tables.specs.QueryAnswers.{AreTablesKept}
use Rattle.journal_model.specs.Notification.{Text}
use Rattle.journal_model.specs.Event.{Event}
use Rattle.journal_model.specs.Attempt.{is_live}
use Rattle.journal_model.specs.Cause.{IsAccepted}
use Rattle.store_frames.specs.ReadFrames.{AreRead}
use Rattle.store_tables.specs.Records.{Records, applied_all}
use Rattle.store_tables.specs.Steps.{Lands}
use Rattle.store_tables.specs.declared.row.InvocationRow.{InvocationRow}
use Rattle.store_tables.specs.declared.row.Write.{Write}
use Rattle.store_tables.specs.declared.row.Write.TheVariants.{AddInvocation, DropInvocation, SetProgress}
use Rattle.store_model.specs.KeptRecords.{IsKept}
use Rattle.store_refusals.specs.declared.refusal.Refusal.{Refusal}
use Rattle.store_invocations.specs.Rows.{IsRowOf, IsStoreOf}
use Rattle.store_steps.specs.declared.frame.FrameReply.{FrameReply}
use Rattle.store_steps.specs.declared.frame.PreparedFrame.{PreparedFrame}
use Rattle.store_steps.specs.JoinedFrames.{HasArrivalsOf, IsMadeBehind}
use Rattle.store_steps.specs.PreparedFrames.{does_end}
use Rattle.store_live.specs.declared.attempt.LiveAttempt.{LiveAttempt}
use Rattle.store_live.specs.Attempts.{ByInvocation, IsNow, attempt_of}
use Rattle.store_live.specs.Rows.{row_with_progress}
use Rattle.store_live_laws.specs.LiveAttempts.{Agrees}
use Rattle.store_calls.specs.AbstractStore.{Standing}
use Rattle.store_calls.specs.Frames.{TakesEach}
use Rattle.journal_store.specs.declared.joined.JoinedFrames.{JoinedFrames}
use Rattle.journal_store.specs.declared.joined.TakenFrames.{TakenFrames}
use Rattle.journal_store.specs.declared.step.SeenFrame.{SeenFrame}
use Rattle.journal_store.specs.Attempts.{IsNowNoted}
use Rattle.journal_store.specs.FrameAcceptance.{IsSeen, passed}
use Rattle.journal_store.specs.StoreStanding.{HasRow, output_of}
use Rattle.journal_store.specs.StoreTransaction.{WritesRows}
use Rattle.journal_store.specs.StoreView.{Stored}

-- ---- writes of one invocation

-- how far it is behind such a write, and what else is written
abbrev pub row_written : Write → InvocationRow → InvocationRow
row_written (SetProgress id progress) row = row_with_progress progress row
row_written _ row = row

abbrev pub other_write : Write → List Write
other_write (SetProgress id progress) = []
other_write write = write ∷ []

abbrev pub row_behind : List Write → InvocationRow → InvocationRow
row_behind [] row = row
row_behind (write ∷ writes) row = row_behind writes (row_written write row)

abbrev pub other_writes : List Write → List Write
other_writes writes = flat_map other_write writes

-- whether one of them says how far it is
abbrev pub is_progress : Write → Bool
is_progress (SetProgress id progress) = true
is_progress _ = false

abbrev pub has_progress : List Write → Bool
has_progress writes = list_any is_progress writes

-- they make no invocation and remove none, and say of no other how far it is
abbrev pub IsOwn : Text → Write → Type 0
IsOwn id (SetProgress other progress) = other ≡ id
IsOwn id (AddInvocation row) = ⊥
IsOwn id (DropInvocation other) = ⊥
IsOwn id _ = Unit {0}

abbrev pub AreOwn : Text → List Write → Type 0
AreOwn id writes = AllByRecursion (IsOwn id) writes

-- what is written of frames: all but how far the invocation is behind each, and then how far it is behind the last
abbrev pub joined_writes : List Write → InvocationRow → List Write
joined_writes writes row = writes ++ SetProgress row.id row.progress ∷ []

-- ---- what is stood for before it is written

-- the attempts in memory are the live ones of these events, each with the row of its invocation, whatever the tables hold
pub record IsInMemory (s : Standing) (attempts : ByInvocation) : Type 0 where
  pub live : (id : Text) → Agrees s.events id (attempt_of attempts id)
  pub rows : (id : Text) → HasRow s.events id (attempt_of attempts id)
  pub outputs : (id : Text) → s.outputs id ≡ output_of attempts id

-- the attempt behind the frames, unless the last of them has ended it
abbrev pub ahead : JoinedFrames → LiveAttempt → LiveAttempt
ahead frames attempt = record attempt { output = drop frames.len attempt.output; row = frames.row }

abbrev pub left_ahead : JoinedFrames → LiveAttempt → Option LiveAttempt
left_ahead frames attempt = if frames.does_end then None else Some (ahead frames attempt)

-- these writes make of the records of some events those of later ones, and the frames keep of them what is written and the last row
pub record AreWritesOfFrames (id : Text) (frames : JoinedFrames) (row : InvocationRow) (events later : List Event) : Type 0 where
  pub all : List Write
  pub own : AreOwn id all
  pub others : frames.writes.items ≡ other_writes all
  pub row_is : frames.row ≡ row_behind all row
  pub progressed : frames.replies.items ≢ [] → has_progress all ≡ true
  pub kept : (r : Records) → IsKept events r → IsKept later (applied_all all r)

-- the frames of the attempt with this number lead from one to the other
pub record LeadsOn (id : Text) (n : ℕ) (frames : JoinedFrames) (attempt : LiveAttempt) (before : ByInvocation) (s t : Standing) : Type 0 where
  pub read : AreRead t.events
  pub taken : TakesEach id n frames.replies.items s t
  pub live : frames.does_end ≡ false → is_live t.events id n ≡ true
  pub over : frames.does_end ≡ true → t.outputs id ≡ None
  pub memory : (after : ByInvocation) → IsNow id (left_ahead frames attempt) before after → IsInMemory t after
  pub arrivals : HasArrivalsOf s.events t.events id
  pub writes : AreWritesOfFrames id frames attempt.row s.events t.events

-- so it is of whatever the tables and the attempts stand for
abbrev pub AreReady : {S : Type 0} → Ghosts S → Text → JoinedFrames → LiveAttempt → (old new : Held S) → Type 0
AreReady g id frames attempt old new =
    HasCleanDisk (state g new) → (n : ℕ) (s : Standing) (before : ByInvocation) → IsStoreOf s.events (state g old) → IsInMemory s before → attempt_of before id ≡ Some attempt
    → is_live s.events id n ≡ true → (t : Standing) × LeadsOn id n frames attempt before s t

-- and there are some, of the attempt with this number
pub record AreReadyBy {S : Type 0} (g : Ghosts S) (id : Text) (n : ℕ) (frames : JoinedFrames) (attempt : LiveAttempt) (old new : Held S) : Type 0 where
  pub number : attempt.number ≡ n
  pub within : frames.len ≤ length attempt.output
  pub some : frames.replies.items ≢ []
  pub ready : AreReady g id frames attempt old new

-- of the live attempt, if one is live
abbrev pub AreReadyOf : {S : Type 0} → Ghosts S → Text → ℕ → JoinedFrames → Option LiveAttempt → (old new : Held S) → Type 0
AreReadyOf g id n frames None old new = ⊥
AreReadyOf g id n frames (Some attempt) old new = AreReadyBy g id n frames attempt old new

-- ---- one more

-- a frame of so many bytes that was made ready is behind the others
pub record IsJoined (len : ℕ) (made : PreparedFrame) (old new : JoinedFrames) : Type 0 where
  pub len_is : new.len ≡ old.len + len
  pub writes : new.writes.items ≡ old.writes.items ++ other_writes made.writes.items
  pub row : new.row ≡ row_behind made.writes.items old.row
  pub replies : new.replies.items ≡ old.replies.items ++ made.reply ∷ []
  pub ends : new.does_end ≡ does_end made.reply

-- what was seen is, or nothing is done
abbrev pub JoinsSeen : {S : Type 0} → Ghosts S → Text → SeenFrame → Bool → (old new : JoinedFrames) → (tables after : Held S) → Type 0
JoinsSeen g id seen true old new tables after =
    (made : PreparedFrame) × IsJoined seen.len made old new
    × (HasCleanDisk (state g after) → (events later : List Event) → IsStoreOf events (state g tables) → IsAccepted later → HasArrivalsOf events later id → IsRowOf later id seen.row
    → IsMadeBehind later id seen.facts seen.frame made)
JoinsSeen g id seen false old new tables after = new ≡ old

-- the frame that stands behind the others is
abbrev pub JoinsNext : {S : Type 0} → Ghosts S → Text → LiveAttempt → Bool → (old new : JoinedFrames) → (tables after : Held S) → Type 0
JoinsNext g id attempt true old new tables after =
    (seen : SeenFrame) × (old.does_end ≡ false) × IsSeen (ahead old attempt) seen × JoinsSeen g id seen true old new tables after
JoinsNext g id attempt false old new tables after = new ≡ old

-- ---- what was taken

-- some frames were, up to one that ends the attempt, or further ones may be
pub record TakesJoined (id : Text) (n : ℕ) (replies : List FrameReply) (ends : Bool) (s t : Standing) : Type 0 where
  pub taken : TakesEach id n replies s t
  pub live : ends ≡ false → is_live s.events id n ≡ true → is_live t.events id n ≡ true
  pub over : ends ≡ true → t.outputs id ≡ None

abbrev pub is_done : Result (Unit {0}) Refusal
is_done = Ok tt

-- what was made ready was written and passed, or nothing was done
pub record ArePassed {S : Type 0} (g : Ghosts S) (id : Text) (frames : JoinedFrames) (taken : TakenFrames) (old new : Stored S) : Type 0 where
  pub replies : taken.replies.items ≡ frames.replies.items
  pub ends : taken.does_end ≡ frames.does_end
  pub wrote : WritesRows g (joined_writes frames.writes.items frames.row) old.connection new.connection is_done
  pub left : IsNowNoted (joined_writes frames.writes.items frames.row) id (passed frames.does_end frames.len (attempt_of old.live.attempts id)) old.live.attempts new.live.attempts

pub record AreLeft {S : Type 0} (g : Ghosts S) (frames : JoinedFrames) (taken : TakenFrames) (old new : Stored S) : Type 0 where
  pub replies : taken.replies.items ≡ []
  pub ends : taken.does_end ≡ false
  pub live : new.live ≡ old.live
  pub kept : AreTablesKept (state g old.connection) (state g new.connection)
  pub crash : Survives (state g old.connection) (state g new.connection) (Lands (joined_writes frames.writes.items frames.row) (state g old.connection))

abbrev pub TakesReady : {S : Type 0} → Ghosts S → Text → JoinedFrames → TakenFrames → Stored S → Stored S → Type 0
TakesReady g id frames taken old new = ArePassed g id frames taken old new ⊎ AreLeft g frames taken old new
