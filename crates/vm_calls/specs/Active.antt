-- When what an attempt keeps is what the abstract machine keeps, and what each step of a call does to it.
use Rattle.std.specs.Prelude.{◌≡◌, ◌≤◌, ◌<◌, ◌+◌, ◌^◌, ◌⊎◌, ℕ, zero, suc, Bool, true, false, ◌||◌, List, [], ◌∷◌, ◌++◌, length, Some, None, Result, Ok, Err}
use Rattle.std.specs.List.{flat_map, AllByRecursion}
use Rattle.journal_model.specs.declared.notification.NotificationId.TheVariants.{CompletionId}
use Rattle.journal_model.specs.Notification.{Text}
use Rattle.journal_model.specs.Request.{Request}
use Rattle.journal_model.specs.Spelling.{request_frame, request_payload}
use Rattle.journal_model.specs.Run.{Invocation}
use Rattle.attempt_model.specs.Requests.{Commands, PutState, put_one}
use Rattle.attempt_model.specs.Machine.{Machine}
use Rattle.protocol_types.specs.declared.message_type.MessageType.{MessageType}
use Rattle.protocol_stream.specs.declared.decoder.RawMessage.{RawMessage}
use Rattle.protocol_stream.specs.declared.encoder.EncodingError.TheVariants as unsent
use Rattle.vm_awaits.specs.Views.{results_of, slots_of}
use Rattle.vm_awaits.specs.Calls.{with_handle}
use Rattle.vm_awaits.specs.Children.{AreMade}
use Rattle.vm_context.specs.Journal.{JournalCounts, after_command, after_completions}
use Rattle.vm_context.specs.StateKnowledge.{KnowsState}
use Rattle.vm_context.specs.Output.{Written}
use Rattle.vm_commands.specs.declared.replay_error.ReplayError.TheVariants as unmatched
use Rattle.vm_commands.specs.HeaderEquality.{header_equal}
use Rattle.vm_commands.specs.NextCommand.{IsNextUnread}
use Rattle.vm_commands.specs.RecordedCommands.{commands_of}
use Rattle.vm_calls.specs.declared.active.Active.{Active}
use Rattle.vm_calls.specs.declared.put_error.PutError.{PutError}
use Rattle.vm_calls.specs.declared.put_error.PutError.TheVariants.{Replay, Encoding}

-- whether something recorded is left to match
abbrev pub has_left : Commands → Bool
has_left [] = false
has_left (command ∷ left) = true

abbrev pub left_of : Active → Commands
left_of active = commands_of active.commands.items

-- What is kept of commands, arrivals, handles and state is what the abstract machine keeps, and frames can be written. What it
-- has written is told by the output alone, as each call goes (`WritesFrames`).
pub record Sees (given : Invocation) (active : Active) (m : Machine) : Type 0 where
  -- recorded messages, each as the request that it is; the input's is none, so before it is read each call is a mismatch
  pub left : left_of active ≡ m.left
  pub replaying : active.is_replaying ≡ has_left m.left
  pub results : results_of active.results ≡ record { delivery = given.options.signal_delivery; queue = m.queue; ready = m.ready; slots = m.slots }
  -- replayed writes have changed what is known as fresh ones have
  pub state : KnowsState active.state m.start m.done
  -- completion ids count from 1, awakeables' signals from 17
  pub completions : active.journal.completions ≡ m.completions
  pub signals : active.journal.signals ≡ m.signals
  pub opened : active.output.is_closed ≡ false
  -- the children are kept, each by a completion that was made
  pub children : active.children ≡ m.children
  pub made : AreMade m.completions m.children

abbrev pub are_any : List Request → Bool
are_any [] = false
are_any (request ∷ requests) = true

-- the frames of these requests are written, one behind the other, and no other; that a command was written is said by these alone
abbrev pub writes_frames : List Request → Written → Written
writes_frames requests written = record written { bytes = written.bytes ++ flat_map request_frame requests; has_commands = are_any requests || written.has_commands }

-- 32 bits tell how long its frame's payload is
abbrev pub RequestFits : Request → Type 0
RequestFits request = length (request_payload request) < 2 ^ 32

-- ---- the steps

-- what the last command is told by, in both
pub record TellsSame (old new : JournalCounts) : Type 0 where
  pub commands : new.commands ≡ old.commands
  pub last_type : new.last_type ≡ old.last_type
  pub last_name : new.last_name ≡ old.last_name

-- the last command that is told is one of this type and name, as it is before state and record are looked at
abbrev pub IsAtCommand : MessageType → Text → JournalCounts → JournalCounts → Type 0
IsAtCommand ty name old new = TellsSame (after_command ty name old) new

-- a command is asked for
abbrev pub asking : MessageType → Text → Active → Active
asking ty name active = record active { journal = after_command ty name active.journal }

-- so many completion ids, or handles for them, are not left; where none is taken none is lacking
abbrev pub LacksCompletions : ℕ → Active → Type 0
LacksCompletions zero old = ⊥
LacksCompletions (suc more) old = (2 ^ 32 < old.journal.completions + suc more) ⊎ (2 ^ 32 < 17 + length (slots_of old.results) + suc more)

-- so many are left
abbrev pub HasCompletions : ℕ → Active → Type 0
HasCompletions taken old = LacksCompletions taken old → ⊥

-- the next completion id and its handle are taken
pub record TakesCompletion (made : ℕ × ℕ) (old new : Active) : Type 0 where
  pub id : made.0 ≡ old.journal.completions
  pub handle : made.1 ≡ 17 + length (slots_of old.results)
  pub results : results_of new.results ≡ with_handle (CompletionId old.journal.completions) (results_of old.results)
  pub others : new ≡ record old { journal = after_completions 1 old.journal; results = new.results }
  pub has : HasCompletions 1 old

-- an attempt replays until the last recorded command is matched
abbrev pub still_replays : Bool → List RawMessage → Bool
still_replays replaying [] = false
still_replays replaying (message ∷ messages) = replaying

-- it replays where something is left, and frames can be written
pub record IsActiveSettled (active : Active) : Type 0 where
  pub replaying : active.is_replaying ≡ has_left (left_of active)
  pub opened : active.output.is_closed ≡ false

-- a request is put: matched with the next recorded command, upon which nothing is written, or written behind the journal
pub record PutsOne (ignoring : Bool) (request : Request) (written : List Request) (old new : Active) : Type 0 where
  pub put : PutState
  pub puts : put_one (header_equal ignoring) request (left_of old) written ≡ Some put
  pub left : left_of new ≡ put.left
  pub settled : IsActiveSettled new
  pub more : List Request
  pub requests : put.written ≡ written ++ more
  -- what is written fits a frame
  pub fit : AllByRecursion RequestFits more
  pub frames : new.output ≡ writes_frames more old.output
  pub others : new ≡ record old { is_replaying = new.is_replaying; commands = new.commands; output = new.output }

-- why it is not: by the abstract machine, exactly for its length, or for want of memory
abbrev pub PutFails : {M : Type 0} → (ignoring : Bool) → Request → (written : List Request) → (old : Active) → PutError M → Type 0
PutFails ignoring request written old (Replay (unmatched.Unavailable error)) = ⊥
PutFails ignoring request written old (Replay (unmatched.Decoding error)) = (put_one (header_equal ignoring) request (left_of old) written ≡ None) × IsNextUnread error (left_of old)
PutFails ignoring request written old (Replay (unmatched.Mismatch error)) = put_one (header_equal ignoring) request (left_of old) written ≡ None
PutFails ignoring request written old (Replay unmatched.OutOfMemory) = Unit {0}
PutFails ignoring request written old (Encoding unsent.PayloadTooLong) = (left_of old ≡ []) × (2 ^ 32 ≤ length (request_payload request))
PutFails ignoring request written old (Encoding unsent.OutOfMemory) = (left_of old ≡ []) × RequestFits request

abbrev pub PutsIn : {M : Type 0} → (ignoring : Bool) → Request → (written : List Request) → (old : Active) → Result (Unit {0}) (PutError M) → (new : Active) → Type 0
PutsIn ignoring request written old (Ok done) new = PutsOne ignoring request written old new
PutsIn ignoring request written old (Err error) new = PutFails ignoring request written old error × (new.output ≡ old.output)
