-- When what is kept of an object's state is what the definitions know of it, and what a read makes of what it is told.
use Rattle.std.specs.Prelude.{◌≡◌, ℕ, Bool, true, false, not, List, [], ◌∷◌, ◌++◌, Some, None}
use Rattle.std.specs.FinMap.{is_sorted}
use Rattle.journal_model.specs.Notification.{Bytes, Text}
use Rattle.journal_model.specs.Request.{Request}
use Rattle.journal_model.specs.State.{StartState, bytes_cmp, state_after, knows_key, knows_all_keys}
use Rattle.attempt_model.specs.Requests.{fresh_value, fresh_keys}
use Rattle.vm_context.specs.declared.eager_state.EagerGetState.{EagerGetState}
use Rattle.vm_context.specs.declared.eager_state.EagerGetStateKeys.{EagerGetStateKeys}
use Rattle.vm_context.specs.Eager.{KnownState, valued, is_known, map_with}

-- what is kept is what is known after these requests, where the start has shown this
pub record KnowsState (state : KnownState) (start : StartState) (done : List Request) : Type 0 where
  pub ordered : is_sorted bytes_cmp state.entries ≡ true
  -- the values are those that the requests have left
  pub values : valued state.entries ≡ state_after done start.entries
  -- all keys are known, and a key is known, where the definitions say so
  pub whole : not state.is_partial ≡ knows_all_keys start done
  pub keys : (key : Bytes) → is_known state key ≡ knows_key start done key

-- the state that a start shows: whole or a part, with the values of these pairs
abbrev pub start_state_of : Bool → List (Bytes × Bytes) → StartState
start_state_of is_partial pairs = record { is_whole = not is_partial; entries = map_with [] pairs }

-- after one more request, of any name, the new is what is known, if the old was before
abbrev pub Follows : (Text → Request) → KnownState → KnownState → Type 0
Follows request old new = (start : StartState) (done : List Request) (name : Text) → KnowsState old start done → KnowsState new start (done ++ request name ∷ [])

-- whether a request writes or clears a key of the state, or all
abbrev pub changes_state : Request → Bool
changes_state (Request.SetState key value name) = true
changes_state (Request.ClearState key name) = true
changes_state (Request.ClearAllState name) = true
changes_state _ = false

-- any other request leaves what is known as it was
abbrev pub OthersKeep : Type 0
OthersKeep = (state : KnownState) (start : StartState) (done : List Request) (request : Request)
    → changes_state request ≡ false → KnowsState state start done → KnowsState state start (done ++ request ∷ [])

-- the request of a read of a key, or of the keys, that was told this
abbrev pub request_told : EagerGetState → ℕ → Bytes → Text → Request
request_told EagerGetState.Unknown n key name = Request.GetLazyState key n name
request_told EagerGetState.Empty n key name = Request.GetEagerState key None name
request_told (EagerGetState.Value value) n key name = Request.GetEagerState key (Some value) name

abbrev pub keys_request_told : EagerGetStateKeys → ℕ → Text → Request
keys_request_told EagerGetStateKeys.Unknown n name = Request.GetLazyStateKeys n name
keys_request_told (EagerGetStateKeys.Keys keys) n name = Request.GetEagerStateKeys keys name

-- what is told makes the request that is defined
abbrev pub TellsValue : KnownState → Bytes → EagerGetState → Type 0
TellsValue state key told = (start : StartState) (done : List Request) (n : ℕ) (name : Text)
    → KnowsState state start done → request_told told n key name ≡ fresh_value start done n key name

abbrev pub TellsKeys : KnownState → EagerGetStateKeys → Type 0
TellsKeys state told = (start : StartState) (done : List Request) (n : ℕ) (name : Text)
    → KnowsState state start done → keys_request_told told n name ≡ fresh_keys start done n name
