-- What is kept of an object's state: of which keys the value is known, and whether there may be others.
use Rattle.std.specs.Prelude.{Bool, true, false, not, ◌||◌, if◌then◌else◌, List, [], ◌∷◌, Option, Some, None, is_some}
use Rattle.std.specs.FinMap.{find, put}
use Rattle.journal_model.specs.Notification.{Bytes}
use Rattle.journal_model.specs.State.{StateMap, bytes_cmp, state_keys, with_value}
use Rattle.vm_context.specs.declared.eager_state.EagerGetState.{EagerGetState}
use Rattle.vm_context.specs.declared.eager_state.EagerGetStateKeys.{EagerGetStateKeys}

-- keys in byte order, each with its value, or with none where it is known to have none
abbrev pub KnownEntries : Type 0
KnownEntries = List (Bytes × Option Bytes)

pub record KnownState : Type 0 where
  -- whether a key that is not among the entries may have a value
  pub is_partial : Bool
  pub entries : KnownEntries

-- the keys that have a value, with it
abbrev pub valued : KnownEntries → StateMap
valued [] = []
valued ((key, None) ∷ entries) = valued entries
valued ((key, Some value) ∷ entries) = (key, value) ∷ valued entries

-- with this known of the key
abbrev pub with_known : KnownState → Bytes → Option Bytes → KnownState
with_known state key value = record state { entries = put bytes_cmp key value state.entries }

-- all is known: no key has a value
abbrev pub all_cleared : KnownState
all_cleared = record { is_partial = false; entries = [] }

-- these keys have these values: of equal keys the last
abbrev pub entries_with : KnownEntries → List (Bytes × Bytes) → KnownEntries
entries_with entries [] = entries
entries_with entries (pair ∷ pairs) = entries_with (put bytes_cmp pair.0 (Some pair.1) entries) pairs

abbrev pub known_from : Bool → List (Bytes × Bytes) → KnownState
known_from is_partial pairs = record { is_partial = is_partial; entries = entries_with [] pairs }

-- the map of pairs: of equal keys the last
abbrev pub map_with : StateMap → List (Bytes × Bytes) → StateMap
map_with entries [] = entries
map_with entries (pair ∷ pairs) = map_with (with_value entries pair.0 pair.1) pairs

-- whether it is known what the key has
abbrev pub is_known : KnownState → Bytes → Bool
is_known state key = not state.is_partial || is_some (find bytes_cmp key state.entries)

-- what is told of a key of which this is kept
abbrev pub told_of : Option (Option Bytes) → (is_partial : Bool) → EagerGetState
told_of (Some (Some value)) is_partial = EagerGetState.Value value
told_of (Some None) is_partial = EagerGetState.Empty
told_of None true = EagerGetState.Unknown
told_of None false = EagerGetState.Empty

abbrev pub told_value : KnownState → Bytes → EagerGetState
told_value state key = told_of (find bytes_cmp key state.entries) state.is_partial

-- what is told of the keys: those that have a value
abbrev pub told_keys : KnownState → EagerGetStateKeys
told_keys state = if state.is_partial then EagerGetStateKeys.Unknown else EagerGetStateKeys.Keys (state_keys (valued state.entries))

-- whether a value is told
abbrev pub tells_value : EagerGetState → Bool
tells_value (EagerGetState.Value value) = true
tells_value _ = false

-- whether keys are told
abbrev pub tells_keys : EagerGetStateKeys → Bool
tells_keys (EagerGetStateKeys.Keys keys) = true
tells_keys _ = false
