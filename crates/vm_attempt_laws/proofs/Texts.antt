-- A call by a key that is text asks for state, and changes it, by keys that are text; so does what a machine has written.
use Rattle.std.proofs.Common.{◌≡◌, ◌⊎◌, inl, inr, ◌∙◌, ℕ, suc, Bool, true, false, ◌&&◌, if◌then◌else◌, List, [], ◌∷◌, ◌++◌, append-nil, Option, Some, None, refl, sym, ap}
use Rattle.std.specs.List.{list_all}
use Rattle.std.proofs.lemmas.Str.{is_utf8-from_IsUtf8}
use Rattle.std.specs.Str.{is_utf8}
use Rattle.journal_model.specs.declared.invocation.StateMode.{StateMode}
use Rattle.journal_model.specs.declared.value.Value.{Value}
use Rattle.journal_model.specs.Await.{AwaitOutcome, WaitsFor, WokenAt, CancelledAt, is_cancelled_at, children_place, child_result, tracked_children, cancel_request, cancel_requests, cancellation_outcome, outcome_from, awake_place, awaited_ids, await_outcome}
use Rattle.journal_model.specs.Headline.{shown_state}
use Rattle.journal_model.specs.Refusal.{Refusal, refusal_of}
use Rattle.journal_model.specs.Run.{Kind, Awaits, Ends, Answers, call_kind, name_or_empty, requests_to, after_await, carried_out, unless_refused, continued_by}
use Rattle.attempt_laws.proofs.Coming.{all-both, all-back}
use Rattle.live_laws.proofs.Texts.{text_after, keys_text}
use Rattle.vm_attempt_laws.specs.Words.{Bytes, Call, Commands, IsTypedCall, RequestsStand, are_by_text, AsksByText, NotificationId, RunOptions, AwaitTree, keys_of, Step, answers_of, requests_of, Arrival, Request, Handler, Invocation, Progress, Ending, GoesOn, run, next_completion, StateMap, knows_key, knows_all_keys, known_value, known_keys, state_after, HasTextKeys, Reply, Answered, RepliesAsRun}

abbrev HaveText : List Request → Type 0
HaveText requests = are_by_text requests ≡ true

both_text : (xs ys : List Request) → HaveText xs → HaveText ys → HaveText (xs ++ ys)
both_text xs ys one other = all-both (λ request. list_all is_utf8 (keys_of request)) xs ys one other

-- what a machine has written that has matched and written the requests of these steps
pub written_text : (journal : List Request) (steps : List Step) (commands : Commands) (written : List Request) → RequestsStand journal steps commands written → HaveText (requests_of steps)
    → HaveText written
written_text journal steps commands written stand all = by_replays stand.replays
  where
    by_replays : (stand.left ≡ []) ⊎ (written ≡ []) → HaveText written
    by_replays (inl none) =
        all-back (λ request. list_all is_utf8 (keys_of request)) journal written
        (ap are_by_text (sym stand.requests ∙ ap (λ (left : List Request). requests_of steps ++ left) none ∙ append-nil (requests_of steps)) ∙ all)
    by_replays (inr none) = ap are_by_text none

-- and what a machine that has answered as the run answers, where the run asks by keys that are text
abbrev pub HasTexts : Reply → Type 0
HasTexts (Answered answer after) = HaveText after.written
HasTexts _ = Unit {0}

pub reply_text : (next : Handler) (given : Invocation) (journal : List Request) (arrivals : List Arrival) (calls : ℕ) → AsksByText next given arrivals (suc calls) → (reply : Reply)
    → RepliesAsRun next given journal arrivals calls reply → HasTexts reply
reply_text next given journal arrivals calls all (Answered answer after) as_run =
    written_text journal as_run.stands.steps after.left after.written as_run.stands.requests (ap (λ (p : Progress). are_by_text (requests_of p.steps)) (sym as_run.stands.going) ∙ all)
reply_text next given journal arrivals calls all _ as_run = tt

-- ---- a call

-- its key is text, if it is by one
abbrev pub HasTextKey : Call → Type 0
HasTextKey (Call.StateGet key name options) = is_utf8 key ≡ true
HasTextKey (Call.StateSet key value name options) = is_utf8 key ≡ true
HasTextKey (Call.StateClear key name) = is_utf8 key ≡ true
HasTextKey _ = Unit {0}

-- its type says so
pub typed_key : (call : Call) → IsTypedCall call → HasTextKey call
typed_key (Call.StateGet key name options) typed = is_utf8-from_IsUtf8 key typed.0
typed_key (Call.StateSet key value name options) typed = is_utf8-from_IsUtf8 key typed.0
typed_key (Call.StateClear key name) typed = is_utf8-from_IsUtf8 key typed.0
typed_key _ typed = tt

key_text : (key : Bytes) → is_utf8 key ≡ true → ((is_utf8 key && true) && true) ≡ true
key_text key typed = ap (λ (b : Bool). (b && true) && true) typed

module _ (given : Invocation) (starts : HasTextKeys given.start.entries) (steps : List Step) where
  read_text : (key : Bytes) (name : Option (List ℕ)) → is_utf8 key ≡ true → (is_known : Bool)
      → HaveText ((if is_known then Request.GetEagerState key (known_value given.start (requests_of steps) key) (name_or_empty name) else Request.GetLazyState key (next_completion steps) (name_or_empty name)) ∷ [])
  read_text key name typed true = key_text key typed
  read_text key name typed false = key_text key typed

  -- the keys that are known are those of the state at its start, and of its own changes
  keys_read_text : (name : Option (List ℕ)) → HaveText (requests_of steps) → (are_known : Bool)
      → HaveText ((if are_known then Request.GetEagerStateKeys (known_keys given.start (requests_of steps)) (name_or_empty name) else Request.GetLazyStateKeys (next_completion steps) (name_or_empty name)) ∷ [])
  keys_read_text name all true =
      ap (λ (b : Bool). b && true) (keys_text (state_after (requests_of steps) given.start.entries) (text_after (requests_of steps) given.start.entries all starts))
  keys_read_text name all false = refl

  call_text : (call : Call) → HasTextKey call → HaveText (requests_of steps) → HaveText (requests_to given steps call)
  call_text (Call.StateGet key name options) typed all = read_text key name typed (knows_key given.start (requests_of steps) key)
  call_text (Call.StateGetKeys name) typed all = keys_read_text name all (knows_all_keys given.start (requests_of steps))
  call_text (Call.StateSet key value name options) typed all = key_text key typed
  call_text (Call.StateClear key name) typed all = key_text key typed
  call_text _ typed all = refl

-- ---- an await

cancel_text : (known : Option Value) → HaveText (cancel_request known)
cancel_text (Some (Value.InvocationId id)) = refl
cancel_text _ = refl

abbrev OutcomeText : AwaitOutcome → Type 0
OutcomeText (CancelledAt place requests) = HaveText requests
OutcomeText _ = Unit {0}

module _ (options : RunOptions) (steps : List Step) (arrivals : List Arrival) where
  cancels_text : (place : ℕ) (children : List ℕ) → HaveText (cancel_requests options steps arrivals place children)
  cancels_text place [] = refl
  cancels_text place (n ∷ children) =
      both_text (cancel_request (child_result options steps arrivals place n)) (cancel_requests options steps arrivals place children)
      (cancel_text (child_result options steps arrivals place n)) (cancels_text place children)

  cancellation_text : (place : Option ℕ) → OutcomeText (cancellation_outcome options steps arrivals place)
  cancellation_text None = tt
  cancellation_text (Some place) = cancels_text place (tracked_children options.implicit_cancellation steps)

  from_text : (ids : AwaitTree (Option NotificationId)) (place : Option ℕ) → OutcomeText (outcome_from options steps arrivals ids place)
  from_text ids None = tt
  from_text ids (Some place) = by_test (is_cancelled_at options steps arrivals place)
    where
      by_test : (b : Bool) → OutcomeText (if b then cancellation_outcome options steps arrivals (children_place options steps arrivals place) else WokenAt place)
      by_test true = cancellation_text (children_place options steps arrivals place)
      by_test false = tt

after_text : (steps : List Step) (call : Call) (outcome : AwaitOutcome) → OutcomeText outcome → HaveText (requests_of steps) → HaveText (requests_of (after_await steps call outcome).steps)
after_text steps call (WaitsFor tree) h all = all
after_text steps call (WokenAt place) h all = both_text (requests_of steps) [] all refl
after_text steps call (CancelledAt place requests) h all = both_text (requests_of steps) requests all h

-- ---- a run

-- the state that an invocation is shown has such keys, where that with which it begins has
pub shown_text : (mode : StateMode) (entries : StateMap) → HasTextKeys entries → HasTextKeys (shown_state mode entries).entries
shown_text StateMode.Whole entries all = all
shown_text StateMode.None entries all = tt

module _ (next : Handler) (given : Invocation) (starts : HasTextKeys given.start.entries) (arrivals : List Arrival) where
  carried_text : (steps : List Step) (call : Call) (kind : Kind) → HasTextKey call → HaveText (requests_of steps) → HaveText (requests_of (carried_out given steps arrivals call kind).steps)
  carried_text steps call (Awaits tree) h all =
      after_text steps call (await_outcome given.options steps arrivals tree)
      (from_text given.options steps arrivals (awaited_ids given.options steps tree) (awake_place given.options steps arrivals (awaited_ids given.options steps tree))) all
  carried_text steps call Ends h all = all
  carried_text steps call Answers h all = both_text (requests_of steps) (requests_to given steps call) all (call_text given starts steps call h all)

  refused_text : (steps : List Step) (call : Call) (refusal : Option Refusal) → HasTextKey call → HaveText (requests_of steps) → HaveText (requests_of (unless_refused given steps arrivals call refusal).steps)
  refused_text steps call (Some refusal) h all = all
  refused_text steps call None h all = carried_text steps call (call_kind call) h all

  continued_text : (progress : Progress) (ending : Ending) → HasTextKey (next given.input (answers_of progress.steps)) → HaveText (requests_of progress.steps) → HaveText (requests_of (continued_by next given arrivals progress ending).steps)
  continued_text progress GoesOn h all =
      refused_text progress.steps (next given.input (answers_of progress.steps)) (refusal_of given.version (next given.input (answers_of progress.steps))) h all
  continued_text progress _ h all = all

  -- with one call more the run asks by text too, if that call is by a key that is text
  pub asks_on : (calls : ℕ) → HasTextKey (next given.input (answers_of (run next given arrivals calls).steps)) → AsksByText next given arrivals calls → AsksByText next given arrivals (suc calls)
  asks_on calls h all = continued_text (run next given arrivals calls) (run next given arrivals calls).ending h all
