-- How many notifications of a line are for each completion.
use Rattle.std.specs.Prelude.{◌≡◌, ◌+◌, ◌-◌, ◌==◌, ℕ, if◌then◌else◌, List, Option, Some, None, nat_eq, unwrap_or, count_by}
use Rattle.indexmap.specs.IndexMap.{IndexMap, get}
use Rattle.journal_model.specs.Journal.{completes}
use Rattle.journal_model.specs.Notification.{Arrival}
use Rattle.journal_model.specs.declared.notification.NotificationId.{NotificationId}
use Rattle.journal_model.specs.declared.notification.NotificationId.TheVariants.{CompletionId, SignalId, SignalName}

abbrev pub completion_of : NotificationId → Option ℕ
completion_of (CompletionId n) = Some n
completion_of (SignalId n) = None
completion_of (SignalName name) = None

abbrev pub one_for : Option ℕ → ℕ → ℕ
one_for None n = 0
one_for (Some completion) n = if completion == n then 1 else 0

module _ {S : Type 0} where
  -- by completion, how many there are
  abbrev pub count_in : IndexMap ℕ ℕ S → ℕ → ℕ
  count_in counts n = unwrap_or (get nat_eq counts n) 0

  abbrev pub Counts : IndexMap ℕ ℕ S → List Arrival → Type 0
  Counts counts line = (n : ℕ) → count_in counts n ≡ count_by (completes n) line

  abbrev pub OneMore : Option ℕ → (old new : IndexMap ℕ ℕ S) → Type 0
  OneMore completion old new = (n : ℕ) → count_in new n ≡ count_in old n + one_for completion n

  abbrev pub OneFewer : Option ℕ → (old new : IndexMap ℕ ℕ S) → Type 0
  OneFewer completion old new = (n : ℕ) → count_in new n ≡ count_in old n - one_for completion n
