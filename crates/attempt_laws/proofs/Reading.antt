-- The requests of a call are those of the run: behind the journal by the state that is known, in replay by the record.
use Rattle.std.proofs.Common.{map, Some, ◌≡◌, refl, sym, ap, ap₂, ◌∙◌, ℕ, Bool, true, false, ◌||◌, if◌then◌else◌, List, [], ◌∷◌, ◌++◌, append-nil, is_some, ◌⊎◌, inl, inr}
use Rattle.std.specs.List.{list_any}
use Rattle.journal_model.specs.declared.notification.NotificationId.TheVariants.{CompletionId}
use Rattle.journal_model.specs.declared.notification.NotificationResult.{NotificationResult}
use Rattle.journal_model.specs.Notification.{Bytes, Text}
use Rattle.journal_model.specs.declared.call.Call.{Call}
use Rattle.journal_model.specs.Request.{Request}
use Rattle.journal_model.specs.State.{StateMap, StartState, state_after, knows_key, knows_all_keys, known_value, known_keys, value_of_key, state_keys, decides_key, clears_all, IsOrdered}
use Rattle.journal_model.specs.History.{Step, requests_of, next_completion}
use Rattle.journal_model.specs.Delivery.{known_result, value_or_void}
use Rattle.journal_model.specs.Run.{Invocation, requests_to, name_or_empty}
use Rattle.journal_laws.proofs.Applying.{state_after-append, state_after-twice}
use Rattle.attempt_model.specs.Requests.{Commands, read_value, read_keys, fresh_value, fresh_keys, requests_by}
use Rattle.attempt_model.specs.Simulation.{RequestsStand, IsShown, whole_state, same_state}
use Rattle.attempt_model.proofs.Requests.{Agrees}

-- behind the journal the state is that of the run
module _ (given shown : StartState) (journal done written : List Request) (is : done ≡ journal ++ written) (shows : IsShown given journal shown) where
  state-same : IsOrdered given.entries → shown.entries ≡ state_after journal given.entries → state_after done shown.entries ≡ state_after done given.entries
  state-same ordered e =
      ap₂ state_after is e
      ∙ state_after-append journal written (state_after journal given.entries)
      ∙ ap (state_after written) (state_after-twice journal given.entries ordered)
      ∙ sym (state_after-append journal written given.entries)
      ∙ ap (λ (requests : List Request). state_after requests given.entries) (sym is)

  value-same : (n : ℕ) (key : Bytes) (name : Text) → fresh_value shown done n key name ≡ fresh_value given done n key name
  value-same n key name = by_shows shows
    where
      by_shows : IsShown given journal shown → fresh_value shown done n key name ≡ fresh_value given done n key name
      by_shows (same_state e) = ap (λ (start : StartState). fresh_value start done n key name) e
      by_shows (whole_state g s ordered e) =
          ap (λ (b : Bool). if b || is_some (value_of_key shown.entries key) || list_any (decides_key key) done then Request.GetEagerState key (known_value shown done key) name else Request.GetLazyState key n name) s
          ∙ ap (λ (entries : StateMap). Request.GetEagerState key (value_of_key entries key) name) (state-same ordered e)
          ∙ sym (ap (λ (b : Bool). if b || is_some (value_of_key given.entries key) || list_any (decides_key key) done then Request.GetEagerState key (known_value given done key) name else Request.GetLazyState key n name) g)

  keys-same : (n : ℕ) (name : Text) → fresh_keys shown done n name ≡ fresh_keys given done n name
  keys-same n name = by_shows shows
    where
      by_shows : IsShown given journal shown → fresh_keys shown done n name ≡ fresh_keys given done n name
      by_shows (same_state e) = ap (λ (start : StartState). fresh_keys start done n name) e
      by_shows (whole_state g s ordered e) =
          ap (λ (b : Bool). if b || list_any clears_all done then Request.GetEagerStateKeys (known_keys shown done) name else Request.GetLazyStateKeys n name) s
          ∙ ap (λ (entries : StateMap). Request.GetEagerStateKeys (state_keys entries) name) (state-same ordered e)
          ∙ sym (ap (λ (b : Bool). if b || list_any clears_all done then Request.GetEagerStateKeys (known_keys given done) name else Request.GetLazyStateKeys n name) g)

-- what is left, by what it agrees with
first-same : (recorded request : Request) (left behind others : List Request) → (recorded ∷ left) ++ behind ≡ (request ∷ []) ++ others → recorded ≡ request
first-same recorded request left behind others e = cc

module _ (given : Invocation) (steps : List Step) (start : StartState) (journal done : List Request) (commands : Commands) (written : List Request) (completions : ℕ)
    (shows : IsShown given.start journal start) (is : done ≡ requests_of steps) (at : completions ≡ next_completion steps) (requests : RequestsStand journal steps commands written) where
  by-value : (key : Bytes) (name : Text) (request : Request) → request ≡ fresh_value given.start (requests_of steps) (next_completion steps) key name
      → (some : List Request) → requests.left ≡ some → Agrees some (request ∷ [])
      → read_value (map Some some) (fresh_value start done completions key name) completions key name ≡ request
  by-value key name request r [] e agrees =
      let behind : done ≡ journal ++ written = is ∙ sym (append-nil (requests_of steps)) ∙ ap (λ (xs : List Request). requests_of steps ++ xs) (sym e) ∙ requests.requests in
      value-same given.start start journal done written behind shows completions key name
      ∙ ap₂ (λ (some : List Request) (n : ℕ). fresh_value given.start some n key name) is at ∙ sym r
  by-value key name request r (recorded ∷ some) e agrees =
      let same : recorded ≡ request = first-same recorded request some agrees.behind_left agrees.behind_requests agrees.same in
      ap₂ (λ (recorded : Request) (n : ℕ). read_value (Some recorded ∷ map Some some) (fresh_value start done completions key name) n key name) (same ∙ r) at
      ∙ by_known (knows_key given.start (requests_of steps) key) ∙ sym r
    where
      by_known : (b : Bool) → read_value (Some (if b then Request.GetEagerState key (known_value given.start (requests_of steps) key) name else Request.GetLazyState key (next_completion steps) name) ∷ map Some some)
          (fresh_value start done completions key name) (next_completion steps) key name
          ≡ (if b then Request.GetEagerState key (known_value given.start (requests_of steps) key) name else Request.GetLazyState key (next_completion steps) name)
      by_known true = refl
      by_known false = refl

  by-keys : (name : Text) (request : Request) → request ≡ fresh_keys given.start (requests_of steps) (next_completion steps) name
      → (some : List Request) → requests.left ≡ some → Agrees some (request ∷ [])
      → read_keys (map Some some) (fresh_keys start done completions name) completions name ≡ request
  by-keys name request r [] e agrees =
      let behind : done ≡ journal ++ written = is ∙ sym (append-nil (requests_of steps)) ∙ ap (λ (xs : List Request). requests_of steps ++ xs) (sym e) ∙ requests.requests in
      keys-same given.start start journal done written behind shows completions name
      ∙ ap₂ (λ (some : List Request) (n : ℕ). fresh_keys given.start some n name) is at ∙ sym r
  by-keys name request r (recorded ∷ some) e agrees =
      let same : recorded ≡ request = first-same recorded request some agrees.behind_left agrees.behind_requests agrees.same in
      ap₂ (λ (recorded : Request) (n : ℕ). read_keys (Some recorded ∷ map Some some) (fresh_keys start done completions name) n name) (same ∙ r) at
      ∙ by_known (knows_all_keys given.start (requests_of steps)) ∙ sym r
    where
      by_known : (b : Bool) → read_keys (Some (if b then Request.GetEagerStateKeys (known_keys given.start (requests_of steps)) name else Request.GetLazyStateKeys (next_completion steps) name) ∷ map Some some)
          (fresh_keys start done completions name) (next_completion steps) name
          ≡ (if b then Request.GetEagerStateKeys (known_keys given.start (requests_of steps)) name else Request.GetLazyStateKeys (next_completion steps) name)
      by_known true = refl
      by_known false = refl

  -- the requests of each call are those of the run
  pub requests-same : (call : Call) → Agrees requests.left (requests_to given steps call) → requests_by start done commands completions call ≡ requests_to given steps call
  requests-same (Call.StateGet key name options) agrees = ap (λ (r : Request). r ∷ []) (ap (λ (some : Commands). read_value some (fresh_value start done completions key (name_or_empty name)) completions key (name_or_empty name)) requests.are_requests ∙ by-value key (name_or_empty name) _ refl requests.left refl agrees)
  requests-same (Call.StateGetKeys name) agrees = ap (λ (r : Request). r ∷ []) (ap (λ (some : Commands). read_keys some (fresh_keys start done completions (name_or_empty name)) completions (name_or_empty name)) requests.are_requests ∙ by-keys (name_or_empty name) _ refl requests.left refl agrees)
  requests-same (Call.Sleep name wake_up now) agrees = ap (λ (n : ℕ). requests_by start done commands n (Call.Sleep name wake_up now)) at
  requests-same (Call.Call target parameter name options) agrees = ap (λ (n : ℕ). requests_by start done commands n (Call.Call target parameter name options)) at
  requests-same (Call.Send target parameter execution_time name options) agrees = ap (λ (n : ℕ). requests_by start done commands n (Call.Send target parameter execution_time name options)) at
  requests-same (Call.GetPromise key) agrees = ap (λ (n : ℕ). requests_by start done commands n (Call.GetPromise key)) at
  requests-same (Call.PeekPromise key) agrees = ap (λ (n : ℕ). requests_by start done commands n (Call.PeekPromise key)) at
  requests-same (Call.CompletePromise key value options) agrees = ap (λ (n : ℕ). requests_by start done commands n (Call.CompletePromise key value options)) at
  requests-same (Call.Run name) agrees = ap (λ (n : ℕ). requests_by start done commands n (Call.Run name)) at
  requests-same (Call.Attach target) agrees = ap (λ (n : ℕ). requests_by start done commands n (Call.Attach target)) at
  requests-same (Call.GetOutput target) agrees = ap (λ (n : ℕ). requests_by start done commands n (Call.GetOutput target)) at
  requests-same _ agrees = refl

-- a call reads one known state at most
pub known-one : (given : Invocation) (steps : List Step) (n : ℕ) (call : Call)
    → (known_result n (requests_to given steps call) ≡ []) ⊎ ((result : NotificationResult) × (known_result n (requests_to given steps call) ≡ record { id = CompletionId n; result = result } ∷ []))
known-one given steps n (Call.StateGet key name options) = by_known (knows_key given.start (requests_of steps) key)
  where
    eager : Request
    eager = Request.GetEagerState key (known_value given.start (requests_of steps) key) (name_or_empty name)

    by_known : (b : Bool)
        → (known_result n ((if b then Request.GetEagerState key (known_value given.start (requests_of steps) key) (name_or_empty name) else Request.GetLazyState key (next_completion steps) (name_or_empty name)) ∷ []) ≡ [])
        ⊎ ((result : NotificationResult) × (known_result n ((if b then Request.GetEagerState key (known_value given.start (requests_of steps) key) (name_or_empty name) else Request.GetLazyState key (next_completion steps) (name_or_empty name)) ∷ []) ≡ record { id = CompletionId n; result = result } ∷ []))
    by_known true = inr (value_or_void (known_value given.start (requests_of steps) key), refl)
    by_known false = inl refl
known-one given steps n (Call.StateGetKeys name) = by_known (knows_all_keys given.start (requests_of steps))
  where
    by_known : (b : Bool)
        → (known_result n ((if b then Request.GetEagerStateKeys (known_keys given.start (requests_of steps)) (name_or_empty name) else Request.GetLazyStateKeys (next_completion steps) (name_or_empty name)) ∷ []) ≡ [])
        ⊎ ((result : NotificationResult) × (known_result n ((if b then Request.GetEagerStateKeys (known_keys given.start (requests_of steps)) (name_or_empty name) else Request.GetLazyStateKeys (next_completion steps) (name_or_empty name)) ∷ []) ≡ record { id = CompletionId n; result = result } ∷ []))
    by_known true = inr (NotificationResult.StateKeys (known_keys given.start (requests_of steps)), refl)
    by_known false = inl refl
known-one given steps n _ = inl refl
