-- Groups of sleeps as they are made, sleep by sleep.
use Rattle.std.specs.Prelude.{ℕ, Bool, false, List, [], ◌∷◌, bytes_eq}
use Rattle.journal_model.specs.Notification.{Text}
use Rattle.store_arrivals.specs.Groups.{Group}
use Rattle.store_arrivals.specs.declared.groups.SleepGroup.{SleepGroup}

abbrev pub as_group : SleepGroup → Group
as_group group = (group.invocation, group.completions.items)

-- whether the first group is that of this invocation, and with one more sleep in front of its others
abbrev pub is_first : Text → List Group → Bool
is_first id [] = false
is_first id (group ∷ groups) = bytes_eq group.0 id

abbrev pub groups_joined : ℕ → List Group → List Group
groups_joined n [] = []
groups_joined n (group ∷ groups) = (group.0, n ∷ group.1) ∷ groups
