-- What going on with an invocation comes to, by the replies to its events.
use Rattle.std.specs.Prelude.{◌==◌, Bool, false, Option, Some, None, Result, Ok, Err, option_map}
use Rattle.schedule_model.specs.Attempts.{Turn}
use Rattle.schedule_model.specs.declared.event.Reply.{Reply}
use Rattle.schedule_model.specs.declared.event.Reply.TheVariants as reply
use Rattle.schedule_model.specs.declared.event.EventRefusal.{EventRefusal}
use Rattle.schedule_model.specs.declared.event.EventRefusal.TheVariants as refusal

-- what was refused, if anything: the event, or what it would have done behind a part that was done
abbrev pub refusal_in : Reply → Option EventRefusal
refusal_in (reply.Fed bytes why) = option_map refusal.Store why
refusal_in (reply.Moved bytes frames why) = option_map refusal.Store why
refusal_in (reply.Refused why) = Some why
refusal_in _ = None

-- whether a feed has brought nothing
abbrev pub brings_none : Reply → Bool
brings_none (reply.Fed bytes why) = bytes == 0
brings_none _ = false

-- the reply to a turn, or to one of an attempt that is not held
abbrev pub turned : Result Turn EventRefusal → Reply
turned (Ok one) = reply.Turned one
turned (Err why) = reply.Refused why
