-- What each call of a store answers, and what the store stands for then.
use Rattle.std.specs.Prelude.{◌≡◌, ◌+◌, ℕ, Bool, true, false, length, [], ◌++◌, Some, None, Result, Ok, Err}
use Rattle.journal_model.specs.Notification.{Bytes, Text}
use Rattle.journal_model.specs.declared.invocation.NewInvocation.{NewInvocation}
use Rattle.journal_model.specs.declared.notification.NotificationResult.{NotificationResult}
use Rattle.journal_model.specs.declared.notification.SignalKey.{SignalKey}
use Rattle.journal_model.specs.Event.{Event}
use Rattle.journal_model.specs.Spelling.{frame_bytes}
use Rattle.journal_model.specs.Journal.{version_of, entries_of}
use Rattle.journal_model.specs.Attempt.{attempts_begun, completions_of_tick, is_live, input_left}
use Rattle.journal_model.specs.Start.{start_payload}
use Rattle.journal_model.specs.Cause.{causes_of}
use Rattle.due_laws.specs.InputParts.{HandsPart}
use Rattle.protocol_types.specs.declared.message_type.MessageType.{MessageType}
use Rattle.protocol_types.specs.Version.{version_number}
use Rattle.store_refusals.specs.declared.refusal.Refusal.{Refusal}
use Rattle.store_refusals.specs.declared.refusal.Refusal.TheVariants.{OutOfMemory}
use Rattle.store_refusals.specs.RefusalConditions.{IsRefused}
use Rattle.store_calls.specs.declared.begun.BegunAttempt.{BegunAttempt}
use Rattle.store_calls.specs.AbstractStore.{Standing, KeepsOthers, StaysStanding, Adds, LeavesWaiting, Refuses}

abbrev pub Invokes : NewInvocation → Result (Unit {0}) Refusal → Standing → Standing → Type 0
Invokes one (Ok done) old new = Adds (Event.Invoke one) old new
Invokes one (Err why) old new = Refuses (Event.Invoke one) why old new

-- what an event brings to an invocation takes the next place of the journal
abbrev pub TakesPlace : Event → Text → Result ℕ Refusal → Standing → Standing → Type 0
TakesPlace event id (Ok place) old new = (place ≡ 1 + length (entries_of old.events id)) × Adds event old new
TakesPlace event id (Err why) old new = Refuses event why old new

-- so does a result, a signal, and a cancellation
abbrev pub CompletesCall : Text → (completion : ℕ) → NotificationResult → Result ℕ Refusal → Standing → Standing → Type 0
CompletesCall id completion brought result old new = TakesPlace (Event.Result id completion brought) id result old new

abbrev pub Signals : Text → SignalKey → NotificationResult → Result ℕ Refusal → Standing → Standing → Type 0
Signals id key brought result old new = TakesPlace (Event.Signal id key brought) id result old new

abbrev pub Cancels : Text → Result ℕ Refusal → Standing → Standing → Type 0
Cancels id result old new = TakesPlace (Event.Cancel id) id result old new

-- a tick ends the sleeps that are due, of all open invocations, and tells how many
abbrev pub Ticks : (now : ℕ) → Result ℕ Refusal → Standing → Standing → Type 0
Ticks now (Ok count) old new = (count ≡ completions_of_tick old.events now) × Adds (Event.Tick now) old new
Ticks now (Err why) old new = Refuses (Event.Tick now) why old new

-- the attempt has the next number, and is told the state and the journal of this moment; nothing waits of it
pub record BeginsStoredAttempt (id : Text) (now : ℕ) (begun : BegunAttempt) (old new : Standing) : Type 0 where
  pub number : begun.number ≡ 1 + attempts_begun old.events id
  pub version : version_number begun.version ≡ version_of old.events id
  pub start : begun.start ≡ frame_bytes MessageType.Start (start_payload old.events id now)
  pub leaves : LeavesWaiting (Event.Begin id now) id (Some []) old new

abbrev pub BeginsAttempt : Text → (now : ℕ) → Result BegunAttempt Refusal → Standing → Standing → Type 0
BeginsAttempt id now (Ok begun) old new = BeginsStoredAttempt id now begun old new
BeginsAttempt id now (Err why) old new = Refuses (Event.Begin id now) why old new

-- The next bytes of its input are handed to the live attempt: a beginning of what is left, and none only where none was asked for or is
-- left. The event says how many they are.
abbrev pub HandsOut : Text → (attempt most : ℕ) → Result Bytes Refusal → Standing → Standing → Type 0
HandsOut id attempt most (Ok bytes) old new = HandsPart (input_left old.events id) most bytes × Adds (Event.Feed id attempt (length bytes)) old new
HandsOut id attempt most (Err why) old new = Refuses (Event.Feed id attempt most) why old new

-- no more is handed to it
abbrev pub ClosesStoredInput : Text → (attempt : ℕ) → Result (Unit {0}) Refusal → Standing → Standing → Type 0
ClosesStoredInput id attempt (Ok done) old new = Adds (Event.Close id attempt) old new
ClosesStoredInput id attempt (Err why) old new = Refuses (Event.Close id attempt) why old new

-- ---- what a live attempt cannot be refused

-- Of an attempt that is not live a call is refused as a stop would be; of a live one for want of memory alone.
abbrev pub RefusesBytes : (is_live : Bool) → Text → (attempt : ℕ) → Refusal → Standing → Standing → Type 0
RefusesBytes true id attempt why old new = (why ≡ OutOfMemory) × StaysStanding old new
RefusesBytes false id attempt why old new = Refuses (Event.Stop id attempt) why old new

-- bytes of the live attempt are put behind those that wait
pub record PutsBehind (id : Text) (attempt : ℕ) (bytes : Bytes) (old new : Standing) : Type 0 where
  pub live : is_live old.events id attempt ≡ true
  pub events : new.events ≡ old.events
  pub before : Bytes
  pub waits : old.outputs id ≡ Some before
  pub own : new.outputs id ≡ Some (before ++ bytes)
  pub others : KeepsOthers id old new

abbrev pub Pushes : Text → (attempt : ℕ) → Bytes → Result (Unit {0}) Refusal → Standing → Standing → Type 0
Pushes id attempt bytes (Ok done) old new = PutsBehind id attempt bytes old new
Pushes id attempt bytes (Err why) old new = RefusesBytes (is_live old.events id attempt) id attempt why old new

-- a stop of a live attempt is never refused
pub record RefusesStop (id : Text) (attempt : ℕ) (why : Refusal) (old new : Standing) : Type 0 where
  pub dead : is_live old.events id attempt ≡ false
  pub cause : IsRefused (causes_of old.events (Event.Stop id attempt)) why
  pub stays : StaysStanding old new

abbrev pub Stops : Text → (attempt : ℕ) → Result (Unit {0}) Refusal → Standing → Standing → Type 0
Stops id attempt (Ok done) old new = LeavesWaiting (Event.Stop id attempt) id None old new
Stops id attempt (Err why) old new = RefusesStop id attempt why old new
