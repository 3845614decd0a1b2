-- What the calls of a handle do to what it has.
use Rattle.std.specs.Prelude.{◌≡◌, ◌==◌, ◌≤◌, ℕ, true, false, if◌then◌else◌, [], length, take, drop, ◌++◌, Result, Ok, Err}
use Rattle.std.specs.declared.option.Option.{Option}
use Rattle.std.specs.declared.option.Option.TheVariants.{None, Some}
use Rattle.journal_model.specs.Notification.{Bytes, Text}
use Rattle.vm_c_values.specs.declared.not_done.NotDone.{NotDone}
use Rattle.vm_c_values.specs.declared.not_done.NotDone.TheVariants as whys
use Rattle.vm_c_values.specs.declared.not_done.Unread.TheVariants.{Memory, Malformed}
use Rattle.vm_types.specs.declared.options.VMOptions.{VMOptions}
use Rattle.vm_c_machine.specs.Calls.{MakesMachine}
use Rattle.vm_c_machine.specs.declared.machine.Machine.{Machine}
use Rattle.vm_c.specs.declared.held.Held.{Held}

-- the statuses that a call has come to: those of the header, but 1
abbrev pub IsStatus : ℕ → Type 0
IsStatus status = (status ≤ 6) × (status ≡ 1 → ⊥)

-- what one of them and a reply tell
abbrev pub done_of : (status : ℕ) → (reply : Bytes) → Result Bytes NotDone
done_of status reply =
    if status == 0 then Ok reply
    else (if status == 2 then Err (whys.Unread Memory)
    else (if status == 3 then Err (whys.Unread Malformed)
    else (if status == 4 then Err (whys.Failed false)
    else (if status == 5 then Err (whys.Failed true)
    else Err whys.Untold))))

-- a call that is not done leaves no reply, of itself or of an earlier one
abbrev pub reply_in : Result Bytes NotDone → Bytes
reply_in (Ok reply) = reply
reply_in (Err why) = []

-- Where there is no machine the status is 1, and nothing is done. Else there is one after the call, and what status and reply tell holds of
-- the two; a call that is not done has left no reply.
abbrev pub Over : ((old : Machine) → Result Bytes NotDone → (new : Machine) → Type 0) → (old : Option Held) → (status : ℕ) → (new : Option Held) → Type 0
Over Call None status new = (status ≡ 1) × (new ≡ None)
Over Call (Some old) status None = ⊥
Over Call (Some old) status (Some new) = IsStatus status × Call old.machine (done_of status new.reply) new.machine × (reply_in (done_of status new.reply) ≡ new.reply)

-- none is made, and the code says why
abbrev pub MakesNone : (content_type : Text) → VMOptions → (code : ℕ) → Result Bytes NotDone → Type 0
MakesNone content_type options code (Ok reply) = ⊥
MakesNone content_type options code (Err why) = MakesMachine content_type options code (Err why)

-- a machine is made and has no reply, or the handle has none, and status and code tell why
abbrev pub Begun : (content_type : Text) → VMOptions → (status code : ℕ) → (new : Option Held) → Type 0
Begun content_type options status code None = IsStatus status × MakesNone content_type options code (done_of status [])
Begun content_type options status code (Some new) = (status ≡ 0) × MakesMachine content_type options code (Ok new.machine) × (new.reply ≡ [])

-- the reply that a handle has; none where there is no machine
abbrev pub reply_held : Option Held → Bytes
reply_held None = []
reply_held (Some held) = held.reply

abbrev pub reply_length : Option Held → ℕ
reply_length held = length (reply_held held)

-- the first bytes of a room are those of the reply, as many as there is room for, and what is behind them stays
abbrev pub copied : (reply room : Bytes) → Bytes
copied reply room = take (length room) reply ++ drop (length reply) room
