-- The keys of an object's state: each once, in order, and text.
use Rattle.std.specs.Prelude.{◌≡◌, true, List}
use Rattle.std.specs.List.{AllByRecursion}
use Rattle.std.specs.Str.{is_utf8}
use Rattle.journal_model.specs.Notification.{Text}
use Rattle.journal_model.specs.State.{StateMap, IsOrdered}
use Rattle.journal_model.specs.Event.{Event}
use Rattle.journal_model.specs.Journal.{object_state, starting_state}
use Rattle.journal_model.specs.Cause.{IsAccepted}

-- all keys of a state are text
abbrev pub HasTextKeys : StateMap → Type 0
HasTextKeys entries = AllByRecursion (λ entry. is_utf8 entry.0 ≡ true) entries

-- an object's state has each key once, the least first, and so has the state with which an invocation begins
abbrev pub StatesAreOrdered : Type 0
StatesAreOrdered = (events : List Event) (object : Text) → IsOrdered (object_state events object)

abbrev pub StartsAreOrdered : Type 0
StartsAreOrdered = (events : List Event) (id : Text) → IsOrdered (starting_state events id)

-- and its keys are text, where only accepted events have changed it
abbrev pub StatesHaveTextKeys : Type 0
StatesHaveTextKeys = (events : List Event) (object : Text) → IsAccepted events → HasTextKeys (object_state events object)

abbrev pub StartsHaveTextKeys : Type 0
StartsHaveTextKeys = (events : List Event) (id : Text) → IsAccepted events → HasTextKeys (starting_state events id)
