-- The name by which a handler has asked for a run: nothing is kept of it, since the handler says it again.
use Rattle.std.specs.Prelude.{ℕ, nat_eq, Bool, false, List, [], take, Option, Some}
use Rattle.std.specs.List.{position}
use Rattle.journal_model.specs.Notification.{Text}
use Rattle.journal_model.specs.Run.{Handler}
use Rattle.journal_model.specs.declared.call.Answer.{Answer}
use Rattle.journal_model.specs.declared.call.Answer.TheVariants as answers
use Rattle.journal_model.specs.declared.call.Call.{Call}
use Rattle.journal_model.specs.declared.call.Call.TheVariants as calls
use Rattle.journal_model.specs.declared.handler.Input.{Input}
use Rattle.vm_attempt.specs.declared.attempt.Attempt.{Attempt}

-- whether an answer is this handle, and nothing else
abbrev pub is_handle : ℕ → Answer → Bool
is_handle handle (answers.Handle given) = nat_eq given handle
is_handle handle _ = false

-- the place of the first such answer
abbrev pub place_of : ℕ → List Answer → Option ℕ
place_of handle given = position (is_handle handle) given

-- the name of a run's call; that of any other is empty
abbrev pub name_in : Call → Text
name_in (calls.Run name) = name
name_in _ = []

module _ {H : Type 0} (function : H → Handler) (handle : ℕ) (a : Attempt H) where
  -- the name of what the handler has called behind so many answers
  abbrev pub name_at : Option Input → Option ℕ → Text
  name_at (Some input) (Some place) = name_in (function a.handler input (take place a.answers))
  name_at _ _ = []

  -- the name of the call that this handle has answered; empty where there is none, as of no run
  abbrev pub run_name : Text
  run_name = name_at a.input (place_of handle a.answers)
