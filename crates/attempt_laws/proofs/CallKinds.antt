-- Calls by what there is to do: what each kind makes, takes and brings.
use Rattle.std.proofs.Common.{◌≡◌, refl, ap, ℕ, true, false, ◌||◌, List, [], ◌∷◌, ◌++◌, Option, Some, None, is_some}
use Rattle.journal_model.specs.declared.notification.NotificationId.{NotificationId}
use Rattle.journal_model.specs.declared.notification.NotificationResult.{NotificationResult}
use Rattle.journal_model.specs.Notification.{Arrival, cancel_id}
use Rattle.journal_model.specs.AwaitTree.{AwaitState, AwaitTree, Single, Combined, no_trees, and_trees, Unknown, FirstCompleted, AllCompleted, FirstSucceededOrAllFailed, AllSucceededOrFirstFailed, AtLeast, is_completed, await_state, is_awake, map_leaves}
use Rattle.journal_model.specs.declared.call.Call.{Call}
use Rattle.journal_model.specs.declared.value.Value.{Value}
use Rattle.journal_model.specs.declared.options.RunOptions.{RunOptions}
use Rattle.journal_model.specs.declared.options.ImplicitCancellationOption.{ImplicitCancellationOption}
use Rattle.journal_model.specs.declared.options.ImplicitCancellationOption.TheVariants.{Disabled, Enabled}
use Rattle.journal_model.specs.History.{Step, next_signal, next_handle, stands_for, handle_taken}
use Rattle.journal_model.specs.Delivery.{known_result, state_of_result}
use Rattle.journal_model.specs.Await.{ends_awaits, awaited_tree, with_cancellation, child_of, children_after, child_result, cancel_request, cancel_requests}
use Rattle.journal_model.specs.Run.{Invocation, Answers, call_kind, answer_to}
use Rattle.journal_laws.proofs.Leaving.{or-true_right, or-true_left}
use Rattle.attempt_model.specs.Machine.{ToAwait, ToEnd, ToTake, ToLook, ToMake, work_of}
use Rattle.attempt_model.specs.Requests.{answer_by}

-- calls by what there is to do
pub inv-take : (call : Call) (handle : ℕ) → work_of call ≡ ToTake handle → call ≡ Call.Take handle
inv-take (Call.Take h) handle e = let same : h ≡ handle = cc in ap Call.Take same
inv-take _ handle e = cc

pub inv-look : (call : Call) (handle : ℕ) → work_of call ≡ ToLook handle → call ≡ Call.IsCompleted handle
inv-look (Call.IsCompleted h) handle e = let same : h ≡ handle = cc in ap Call.IsCompleted same
inv-look _ handle e = cc

pub inv-await : (call : Call) (tree : AwaitTree ℕ) → work_of call ≡ ToAwait tree → call ≡ Call.Await tree
inv-await (Call.Await t) tree e = let same : t ≡ tree = cc in ap Call.Await same
inv-await _ tree e = cc

pub inv-end : (call : Call) → work_of call ≡ ToEnd → call ≡ Call.End
inv-end Call.End e = refl
inv-end _ e = cc

pub make-kind : (call : Call) → work_of call ≡ ToMake → call_kind call ≡ Answers
make-kind (Call.Await t) e = cc
make-kind Call.End e = cc
make-kind _ e = refl

module _ (given : Invocation) (steps : List Step) (arrivals : List Arrival) where
  pub make-answer : (call : Call) → work_of call ≡ ToMake → answer_by given.input.invocation_id (next_handle steps) (next_signal steps) call ≡ answer_to given steps arrivals call
  make-answer (Call.Take h) e = cc
  make-answer (Call.IsCompleted h) e = cc
  make-answer _ e = refl

  pub make-takes : (call : Call) → work_of call ≡ ToMake → handle_taken call (answer_to given steps arrivals call) ≡ None
  make-takes (Call.Take h) e = cc
  make-takes _ e = refl

  pub make-keeps : (call : Call) → work_of call ≡ ToMake → (xs : List ℕ) → children_after (answer_to given steps arrivals call) xs ≡ xs
  make-keeps (Call.Take h) e xs = cc
  make-keeps (Call.IsCompleted h) e xs = cc
  make-keeps _ e xs = refl

-- calls that bring no child
pub record BringNoChild (cancellation : ImplicitCancellationOption) (n : ℕ) : Type 0 where
  pub look : (handle : ℕ) → child_of cancellation n (Call.IsCompleted handle) ≡ []
  pub take : (handle : ℕ) → child_of cancellation n (Call.Take handle) ≡ []
  pub await : (tree : AwaitTree ℕ) → child_of cancellation n (Call.Await tree) ≡ []

pub no_child : (cancellation : ImplicitCancellationOption) (n : ℕ) → BringNoChild cancellation n
no_child Disabled n = record { look = λ handle. refl; take = λ handle. refl; await = λ tree. refl }
no_child (Enabled true true) n = record { look = λ handle. refl; take = λ handle. refl; await = λ tree. refl }
no_child (Enabled true false) n = record { look = λ handle. refl; take = λ handle. refl; await = λ tree. refl }
no_child (Enabled false true) n = record { look = λ handle. refl; take = λ handle. refl; await = λ tree. refl }
no_child (Enabled false false) n = record { look = λ handle. refl; take = λ handle. refl; await = λ tree. refl }

-- a tree in which a cancellation ends the await is awake where the cancellation has come
pub awake-cancelled : (steps : List Step) (cancellation : ImplicitCancellationOption) → ends_awaits cancellation ≡ true → (tree : AwaitTree ℕ) (leaves : Option NotificationId → AwaitState)
    → is_completed (leaves (Some cancel_id)) ≡ true → is_awake (map_leaves (stands_for steps) (awaited_tree cancellation tree)) leaves ≡ true
awake-cancelled steps Disabled ends tree leaves done = cc
awake-cancelled steps (Enabled calls sends) ends tree leaves done = by_tree tree
  where
    beside : (t : AwaitTree (Option NotificationId)) → is_awake (Combined FirstCompleted (and_trees t (and_trees (Single (Some cancel_id)) no_trees))) leaves ≡ true
    beside t = or-true_right (is_completed (await_state (Combined FirstCompleted (and_trees t (and_trees (Single (Some cancel_id)) no_trees))) leaves)) _
        (or-true_left (is_completed (await_state t leaves) || (is_completed (leaves (Some cancel_id)) || false)) _
        (or-true_right (is_completed (await_state t leaves)) (is_completed (leaves (Some cancel_id)) || false) (or-true_left (is_completed (leaves (Some cancel_id))) false done)))

    alone : is_awake (Combined FirstCompleted (and_trees (Single (Some cancel_id)) no_trees)) leaves ≡ true
    alone = or-true_right (is_completed (await_state (Combined FirstCompleted (and_trees (Single (Some cancel_id)) no_trees)) leaves)) _
        (or-true_left (is_completed (leaves (Some cancel_id)) || false) _ (or-true_left (is_completed (leaves (Some cancel_id))) false done))

    by_tree : (tree : AwaitTree ℕ) → is_awake (map_leaves (stands_for steps) (with_cancellation tree)) leaves ≡ true
    by_tree (Combined FirstCompleted no_trees) = alone
    by_tree (Combined FirstCompleted (and_trees t ts)) = beside (map_leaves (stands_for steps) (Combined FirstCompleted (and_trees t ts)))
    by_tree (Combined Unknown ts) = beside (map_leaves (stands_for steps) (Combined Unknown ts))
    by_tree (Combined AllCompleted ts) = beside (map_leaves (stands_for steps) (Combined AllCompleted ts))
    by_tree (Combined FirstSucceededOrAllFailed ts) = beside (map_leaves (stands_for steps) (Combined FirstSucceededOrAllFailed ts))
    by_tree (Combined AllSucceededOrFirstFailed ts) = beside (map_leaves (stands_for steps) (Combined AllSucceededOrFirstFailed ts))
    by_tree (Combined (AtLeast required) ts) = beside (map_leaves (stands_for steps) (Combined (AtLeast required) ts))
    by_tree (Single handle) = beside (map_leaves (stands_for steps) (Single handle))

pub completed-some : (o : Option NotificationResult) → is_some o ≡ true → is_completed (state_of_result o) ≡ true
completed-some None e = cc
completed-some (Some NotificationResult.Void) e = refl
completed-some (Some (NotificationResult.Value bytes)) e = refl
completed-some (Some (NotificationResult.Failure failure)) e = refl
completed-some (Some (NotificationResult.InvocationId id)) e = refl
completed-some (Some (NotificationResult.StateKeys keys)) e = refl

-- no request for a child is a known read
pub known-cancels : (options : RunOptions) (steps : List Step) (arrivals : List Arrival) (place n : ℕ) (ns : List ℕ) → known_result n (cancel_requests options steps arrivals place ns) ≡ []
known-cancels options steps arrivals place n [] = refl
known-cancels options steps arrivals place n (child ∷ ns) = by_value (child_result options steps arrivals place child) (known-cancels options steps arrivals place n ns)
  where
    by_value : (o : Option Value) → known_result n (cancel_requests options steps arrivals place ns) ≡ [] → known_result n (cancel_request o ++ cancel_requests options steps arrivals place ns) ≡ []
    by_value None later = later
    by_value (Some (Value.InvocationId id)) later = refl
    by_value (Some Value.Void) later = later
    by_value (Some (Value.Success bytes)) later = later
    by_value (Some (Value.Failure failure)) later = later
    by_value (Some (Value.StateKeys keys)) later = later

pub awaits-same : (a b : AwaitTree ℕ) → Call.Await a ≡ Call.Await b → a ≡ b
awaits-same a b e = cc
