-- The children that a cancellation is passed on to: which calls bring one, and what a take makes known of one.
use Rattle.std.specs.Prelude.{◌≡◌, ℕ, Bool, true, false, List, map, Option, Some, None, Result, Ok, Err}
use Rattle.journal_model.specs.declared.notification.NotificationId.{NotificationId}
use Rattle.journal_model.specs.declared.notification.NotificationId.TheVariants.{CompletionId}
use Rattle.journal_model.specs.declared.options.ImplicitCancellationOption.{ImplicitCancellationOption}
use Rattle.journal_model.specs.declared.options.ImplicitCancellationOption.TheVariants.{Disabled, Enabled}
use Rattle.journal_model.specs.declared.value.Value.{Value}
use Rattle.attempt_model.specs.Children.{Child, child_with_value, is_id}
use Rattle.vm_awaits.specs.Children.{has_child, with_child}
use Rattle.vm_calls.specs.declared.active.Active.{Active}

-- ---- calls

abbrev pub tracks_calls : ImplicitCancellationOption → Bool
tracks_calls Disabled = false
tracks_calls (Enabled calls sends) = calls

abbrev pub tracks_sends : ImplicitCancellationOption → Bool
tracks_sends Disabled = false
tracks_sends (Enabled calls sends) = sends

-- where it is tracked, what gives its invocation id by this completion is a child from then on
abbrev pub children_kept : (tracked : Bool) → ℕ → List Child → List Child
children_kept true n children = with_child n children
children_kept false n children = children

-- numbers were taken, and then the child is kept
pub record Tracks (tracked : Bool) (n : ℕ) (Takes : Active → Type 0) (new : Active) : Type 0 where
  pub between : Active
  pub takes : Takes between
  pub keeps : new ≡ record between { children = children_kept tracked n between.children }

-- ---- takes

abbrev pub child_at : (is_child : Bool) → ℕ → Option ℕ
child_at true n = Some n
child_at false n = None

-- the child that an id is of, by its completion
abbrev pub child_of_id : Option NotificationId → List Child → Option ℕ
child_of_id (Some (CompletionId n)) children = child_at (has_child n children) n
child_of_id _ children = None

-- of a child an invocation id is taken alone
abbrev pub is_allowed : (of_child : Bool) → Value → Bool
is_allowed true value = is_id value
is_allowed false value = true

-- what is known of the children once this was taken
abbrev pub with_taken : (child : Option ℕ) → Option Value → List Child → List Child
with_taken (Some n) (Some (Value.InvocationId id)) children = map (child_with_value (Some (CompletionId n)) (Value.InvocationId id)) children
with_taken _ _ children = children

-- the id is remembered, and handed out; or memory is refused for the copy
abbrev pub Remembers : {E : Type 0} → (child : Option ℕ) → (taken : Option Value) → (old : List Child) → Result (Option Value) E → (new : List Child) → Type 0
Remembers child taken old (Ok value) new = (value ≡ taken) × (new ≡ with_taken child taken old)
Remembers child taken old (Err error) new = new ≡ old
