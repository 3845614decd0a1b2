-- What is seen of a live attempt in memory, what is kept there of its input, and how one is begun.
use Rattle.std.specs.Prelude.{◌≡◌, ◌⊎◌, ℕ, ◌<◌, ◌^◌, length, nat_lt, not, ◌==◌, Bool, true, false, List, [], ◌∷◌, ◌++◌, Option, Some, None, option_map, Result, Ok, Err, IsTrue}
use Rattle.std.specs.Option.{ForSome}
use Rattle.sqlite_trees.specs.declared.store.Store.{Ghosts}
use Rattle.sqlite.specs.Held.{state}
use Rattle.sqlite.specs.State.{HasCleanDisk}
use Rattle.journal_model.specs.Notification.{Bytes, Text}
use Rattle.journal_model.specs.Event.{Event}
use Rattle.journal_model.specs.Attempt.{Piece, input_left, input_pieces}
use Rattle.protocol_types.specs.declared.version.Version.{Version}
use Rattle.store_refusals.specs.declared.refusal.Refusal.{Refusal}
use Rattle.store_refusals.specs.declared.refusal.Refusal.TheVariants as refusal
use Rattle.store_refusals.specs.RefusalConditions.{is_circumstance}
use Rattle.store_refusals.specs.Preparations.{TellsOrRefuses}
use Rattle.store_invocations.specs.declared.attempt.PreparedAttempt.{PreparedAttempt}
use Rattle.store_live.specs.declared.attempt.LiveAttempt.{LiveAttempt}
use Rattle.store_live.specs.declared.input.FrameRead.{FrameRead}
use Rattle.store_live.specs.declared.input.NextRow.{NextRow}
use Rattle.store_live.specs.Input.{at_begin, next_ordinal, next_row}
use Rattle.store_live.specs.Attempts.{ByInvocation, CountsFrame, IsNow, live_after_frame, attempt_of}
use Rattle.store_live.specs.Rows.{AreNoted}
use Rattle.store_tables.specs.declared.row.InvocationRow.{InvocationRow}
use Rattle.store_tables.specs.declared.row.Write.{Write}
use Rattle.store_live_laws.specs.Memory.{frame_read, row_asked}
use Rattle.store_live_laws.specs.LiveAttempts.{cause_of_stale, has_number}
use Rattle.store_calls.specs.declared.begun.BegunAttempt.{BegunAttempt}
use Rattle.store_calls.specs.AbstractStore.{Standing}
use Rattle.store_calls.specs.Calls.{BeginsStoredAttempt}
use Rattle.journal_store.specs.StoreView.{Stored}
use Rattle.journal_store.specs.StoreStanding.{IsStanding}

-- a call on an attempt that is not live: the invocation is unknown, or closed, or the attempt is over; or a circumstance
abbrev pub IsStale : List Event → Text → Refusal → Type 0
IsStale events id why = (why ≡ refusal.Cause (cause_of_stale events id)) ⊎ IsTrue (is_circumstance why)

-- what is seen of the live attempt's input
abbrev pub has_closed : Option LiveAttempt → Bool
has_closed None = false
has_closed (Some attempt) = attempt.is_input_closed

abbrev pub has_rest : Option LiveAttempt → Bool
has_rest None = false
has_rest (Some attempt) = not (length attempt.input.rest == 0)

-- ---- the next frame

-- the ordinal of the next arrival is counted in 32 bits
abbrev pub FitsNext : Option LiveAttempt → Type 0
FitsNext None = Unit {0}
FitsNext (Some attempt) = next_ordinal attempt.input < 2 ^ 32

-- it is asked for where all that was read was handed out, and is that of the next row, if there is one
abbrev pub IsWantedBy : List Event → Text → LiveAttempt → Bool → Option FrameRead → Type 0
IsWantedBy events id attempt true found = found ≡ option_map (frame_read attempt.input.unread (next_row attempt.input)) (row_asked events id (next_row attempt.input))
IsWantedBy events id attempt false found = found ≡ None

abbrev pub IsWanted : List Event → Text → Option LiveAttempt → Option FrameRead → Type 0
IsWanted events id None found = found ≡ None
IsWanted events id (Some attempt) found = IsWantedBy events id attempt (length attempt.input.rest == 0) found

-- the row of the invocation says that the next arrival was not recorded yet
abbrev pub lacks_next : (arrivals : ℕ) → NextRow → Bool
lacks_next arrivals (NextRow.Entry place) = false
lacks_next arrivals (NextRow.Arrival ordinal) = nat_lt arrivals ordinal

abbrev pub has_none_left : LiveAttempt → Bool
has_none_left attempt = lacks_next attempt.row.progress.arrivals (next_row attempt.input)

-- it is taken in
abbrev pub after_wanted : Option FrameRead → LiveAttempt → LiveAttempt
after_wanted None attempt = attempt
after_wanted (Some frame) attempt = live_after_frame frame attempt

abbrev pub HasRoomFor : Option FrameRead → Option LiveAttempt → Type 0
HasRoomFor None o = Unit {0}
HasRoomFor (Some frame) o = CountsFrame frame o

-- nothing is left of the input where nothing is left of the frame that was read last
abbrev pub HasRead : List Event → Text → Option LiveAttempt → Type 0
HasRead events id o = ForSome o (λ (attempt : LiveAttempt). attempt.input.rest ≡ [] → input_left events id ≡ [])

-- so it is once the next frame was read, and nothing else has changed
pub record HasReadNext {S : Type 0} (g : Ghosts S) (id : Text) (s : Standing) (old new : Stored S) : Type 0 where
  pub standing : IsStanding g s new
  pub number : (n : ℕ) → has_number n (attempt_of new.live.attempts id) ≡ has_number n (attempt_of old.live.attempts id)
  pub closed : has_closed (attempt_of new.live.attempts id) ≡ has_closed (attempt_of old.live.attempts id)
  pub read : HasRead s.events id (attempt_of new.live.attempts id)

abbrev pub ReadsNext : {S : Type 0} → Ghosts S → Text → Result (Unit {0}) Refusal → Stored S → Stored S → Type 0
ReadsNext g id result old new = HasCleanDisk (state g new.connection) → (s : Standing) → IsStanding g s old → TellsOrRefuses (λ _. HasReadNext g id s old new) result

-- ---- one frame at most

-- what is kept of the live attempt's input: what was read of it and not handed out
abbrev pub rest_kept : Option LiveAttempt → Bytes
rest_kept None = []
rest_kept (Some attempt) = attempt.input.rest

-- the bytes that a call answers
abbrev pub bytes_given : Result Bytes Refusal → Bytes
bytes_given (Ok bytes) = bytes
bytes_given (Err why) = []

-- these bytes, and what is kept behind them, are the end of one of the frames
pub record AreOfFrame (frames : List Piece) (bytes kept : Bytes) : Type 0 where
  pub before : List Piece
  pub frame : Piece
  pub behind : List Piece
  pub frames_are : frames ≡ before ++ frame ∷ behind
  pub done : Bytes
  pub bytes_are : frame.bytes ≡ done ++ (bytes ++ kept)

abbrev pub AreOfOneFrame : List Piece → (bytes kept : Bytes) → Type 0
AreOfOneFrame frames bytes kept = ((bytes ≡ []) × (kept ≡ [])) ⊎ AreOfFrame frames bytes kept

-- what a call answers of an input, and what is kept of that input then, is of one of its frames
abbrev pub GivesOneFrame : {S : Type 0} → Ghosts S → Text → Result Bytes Refusal → Stored S → Stored S → Type 0
GivesOneFrame g id result old new =
    HasCleanDisk (state g new.connection) → (s : Standing) → IsStanding g s old
    → AreOfOneFrame (input_pieces s.events id) (bytes_given result) (rest_kept (attempt_of new.live.attempts id))

-- ---- beginning

-- an attempt is begun, with some answer
abbrev pub BeginsSome : Text → ℕ → Standing → Standing → Type 0
BeginsSome id now old new = (begun : BegunAttempt) × BeginsStoredAttempt id now begun old new

-- the attempt as it is kept then: nothing of its input was read, and it wrote nothing
abbrev pub fresh : (number : ℕ) → Version → (known arrivals : ℕ) → InvocationRow → LiveAttempt
fresh number version known arrivals row = record {
  number = number;
  version = version;
  input = at_begin known arrivals;
  is_input_closed = false;
  output = [];
  row = row;
}

-- of this invocation the attempt is this, and of the others they are as before; and then what was written was taken in
abbrev pub IsNowNoted : List Write → Text → Option LiveAttempt → ByInvocation → ByInvocation → Type 0
IsNowNoted writes id attempt old new = (between : ByInvocation) × IsNow id attempt old between × AreNoted writes between new

-- it is told by what was made ready
abbrev pub IsToldAs : PreparedAttempt → BegunAttempt → Type 0
IsToldAs made begun = (begun.number ≡ made.number) × (begun.version ≡ made.version) × (begun.start ≡ made.start)
