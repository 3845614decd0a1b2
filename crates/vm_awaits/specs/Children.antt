-- The children that a cancellation is passed on to, as they are kept.
use Rattle.std.specs.Prelude.{◌<◌, ℕ, ◌==◌, Bool, if◌then◌else◌, List, [], ◌∷◌, Option, Some, None, option_map}
use Rattle.std.specs.List.{list_any, AllByRecursion}
use Rattle.journal_model.specs.declared.notification.NotificationId.{NotificationId}
use Rattle.journal_model.specs.declared.notification.NotificationId.TheVariants.{CompletionId}
use Rattle.journal_model.specs.Notification.{Text}
use Rattle.journal_model.specs.declared.value.Value.{Value}
use Rattle.attempt_model.specs.Children.{Child, new_child}

-- a child by its completion, with its invocation id where that was taken
abbrev pub child_told : ℕ × Option Text → Child
child_told entry = record { completion = entry.0; taken = option_map Value.InvocationId entry.1 }

abbrev pub has_child : ℕ → List Child → Bool
has_child n children = list_any (λ child. n == child.completion) children

-- one more child behind the others; one that is there is a new child in its place
abbrev pub with_child : ℕ → List Child → List Child
with_child n [] = new_child n ∷ []
with_child n (child ∷ children) = if n == child.completion then new_child child.completion ∷ children else child ∷ with_child n children

-- each is a completion in front of this one
abbrev pub AreMade : ℕ → List Child → Type 0
AreMade next children = AllByRecursion (λ child. child.completion < next) children

-- the completion that a handle stands for
abbrev pub completion_in : Option NotificationId → Option ℕ
completion_in (Some (CompletionId n)) = Some n
completion_in _ = None
