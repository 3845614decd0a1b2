-- What a line prints for the reply that it got, without its line feed.
use Rattle.std.specs.Prelude.{◌≡◌, ℕ, List, Some, None, Result, IfOk}
use Rattle.durable_schedule.specs.Attempts.turn
use Rattle.durable_schedule.specs.Attempts.{Turn}
use Rattle.durable_schedule.specs.Schedules.reply
use Rattle.durable_schedule.specs.Schedules.{Reply, event_refusal_name_of}
use Rattle.durable_schedule.specs.Schedules.refusal
use Rattle.store_refusals.specs.Names as store
use Rattle.store_refusals.specs.declared.refusal.Refusal.TheVariants.{OutOfMemory}
use Rattle.script_lines.specs.declared.text.LastTurn.{LastTurn}
use Rattle.script_lines.specs.declared.text.LastTurn.TheVariants as last
use Rattle.script_lines.specs.declared.text.LineReply.TheVariants.{Done, Placed, Ticked, Begun, Fed, Turned}
use Rattle.script_lines.specs.Text.{reply_text, moved_text, moved_until_text, refused_text}

abbrev pub word_of : Turn → LastTurn
word_of turn.Answered = last.Answered
word_of turn.RanBody = last.Ran
word_of turn.Waiting = last.Waiting
word_of turn.Suspended = last.Suspended
word_of turn.Ended = last.Ended
word_of (turn.Failed error) = last.Failed error.code.0

-- memory was refused
abbrev pub refused_memory : Reply
refused_memory = reply.Refused (refusal.Store OutOfMemory)

-- the text of a reply, the last one to so many turns where it is that of a turn
abbrev pub printed : ℕ → Reply → List ℕ
printed turns reply.Done = reply_text Done
printed turns (reply.Placed place) = reply_text (Placed place)
printed turns (reply.Ticked sleeps) = reply_text (Ticked sleeps)
printed turns (reply.Begun attempt) = reply_text (Begun attempt)
printed turns (reply.Fed bytes None) = reply_text (Fed bytes)
printed turns (reply.Fed bytes (Some why)) = refused_text (store.refusal_name_of why)
printed turns (reply.Turned turn) = reply_text (Turned turns (word_of turn))
printed turns (reply.Moved bytes frames None) = moved_text bytes frames
printed turns (reply.Moved bytes frames (Some why)) = moved_until_text bytes frames (store.refusal_name_of why)
printed turns (reply.Refused why) = refused_text (event_refusal_name_of why)

-- This holds of a text, which was made, or for which there was no memory.
abbrev pub MakesText : {T E : Type 0} → (T → List ℕ) → Result T E → (List ℕ → Type 0) → Type 0
MakesText bytes_of result Holds = (text : List ℕ) × IfOk result (λ made. bytes_of made ≡ text) × Holds text
