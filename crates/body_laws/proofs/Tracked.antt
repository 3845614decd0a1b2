-- A child that a cancellation waits for is no body's completion.
use Rattle.std.proofs.Common.{map, ◌≡◌, refl, sym, subst, ℕ, ◌≤◌, ◌<◌, arith, Bool, true, false, List, [], ◌∷◌, Option, Some, None, ◌⊎◌, inl, inr}
use Rattle.journal_model.specs.declared.notification.NotificationResult.{NotificationResult}
use Rattle.journal_model.specs.declared.value.Value.{Value}
use Rattle.journal_model.specs.Notification.{Arrival}
use Rattle.journal_model.specs.AwaitTree.{AwaitTree}
use Rattle.journal_model.specs.declared.call.Call.{Call}
use Rattle.journal_model.specs.declared.call.Answer.{Answer}
use Rattle.journal_model.specs.declared.options.ImplicitCancellationOption.{ImplicitCancellationOption}
use Rattle.journal_model.specs.declared.options.ImplicitCancellationOption.TheVariants.{Disabled, Enabled}
use Rattle.journal_model.specs.declared.options.SignalDelivery.{SignalDelivery}
use Rattle.journal_model.specs.Request.{Request}
use Rattle.journal_model.specs.Refusal.{Refusal, refusal_of}
use Rattle.journal_model.specs.History.{Step, next_completion, next_handle, completions_of}
use Rattle.journal_model.specs.Await.{awaited_tree, child_of, children_after, tracked_children}
use Rattle.journal_model.specs.Run.{Invocation}
use Rattle.attempt_model.specs.Children.{Child, child_value, ChildrenState, AreIds, IsUnknown, IsNoId, with_child, children_state, cancel_requests_for, ChildrenOutcome, AllKnown, FirstUnknown, OneIsNoId, outcome_by, children_outcome}
use Rattle.attempt_model.specs.Machine.{Machine, Reply, Answered, AwaitsTree, AwaitsChild, Finished, FailedBy, Work, ToAwait, ToEnd, ToTake, ToLook, ToMake, work_of, reply_where_taken, reply_to_take, is_cancelled, reply_where_unknown, reply_where_asleep, reply_to_end, reply_to_make, reply_where_cancelled, reply_to_children, reply_where_awake, reply_to_await, reply_to_work, reply_unless_refused, reply_to}
use Rattle.attempt_model.specs.Requests.{Commands, requests_by, PutState, put_all}
use Rattle.attempt_model.specs.Results.{Ready, ready_after, waiting_for, Resolution, Awake, Asleep, resolution_of}
use Rattle.attempt_model.specs.Simulation.{child_after}
use Rattle.body_laws.specs.Bodies.{Body, bodies_of_call, bodies_of}
use Rattle.body_laws.specs.BodySimulation.{Among}
use Rattle.body_laws.proofs.Lists.{among-split}
use Rattle.body_laws.proofs.Steps.{call-completion, bodies-below}

-- the completions of children
abbrev pub numbers : List Child → List ℕ
numbers children = map (λ child. child.completion) children

-- ---- what is waited for is one of them

state-in : (ready : Ready) (children : List Child) (n : ℕ) → children_state ready children ≡ IsUnknown n → Among n (numbers children)
state-in ready [] n e = cc
state-in ready (child ∷ children) n e = by_value (child_value ready child) e (λ f. state-in ready children n f)
  where
    by_value : (o : Option Value) → with_child o child.completion (children_state ready children) ≡ IsUnknown n → (children_state ready children ≡ IsUnknown n → Among n (numbers children)) → Among n (numbers (child ∷ children))
    by_value None f later = let same : child.completion ≡ n = cc in inl (sym same)
    by_value (Some (Value.InvocationId id)) f later = inr (later f)
    by_value (Some Value.Void) f later = cc
    by_value (Some (Value.Success bytes)) f later = cc
    by_value (Some (Value.Failure failure)) f later = cc
    by_value (Some (Value.StateKeys keys)) f later = cc

abbrev OutcomeIn : List Child → ChildrenOutcome → Type 0
OutcomeIn children (FirstUnknown n ready) = Among n (numbers children)
OutcomeIn children (AllKnown queue ready) = Unit {0}
OutcomeIn children OneIsNoId = Unit {0}

outcome-in : (delivery : SignalDelivery) (children : List Child) (queue : List Arrival) (ready : Ready) → OutcomeIn children (children_outcome delivery children queue ready)
outcome-in delivery children [] ready = by_state (children_state ready children) refl
  where
    by_state : (s : ChildrenState) → children_state ready children ≡ s → OutcomeIn children (outcome_by s (AllKnown [] ready) (λ n. FirstUnknown n ready))
    by_state AreIds e = tt
    by_state (IsUnknown n) e = state-in ready children n e
    by_state IsNoId e = tt
outcome-in delivery children (arrival ∷ queue) ready = by_state (children_state ready children) (outcome-in delivery children queue (ready_after delivery ready arrival))
  where
    by_state : (s : ChildrenState) → OutcomeIn children (children_outcome delivery children queue (ready_after delivery ready arrival))
        → OutcomeIn children (outcome_by s (AllKnown (arrival ∷ queue) ready) (λ n. children_outcome delivery children queue (ready_after delivery ready arrival)))
    by_state AreIds later = tt
    by_state (IsUnknown n) later = later
    by_state IsNoId later = tt

abbrev pub ChildIn : List Child → Reply → Type 0
ChildIn children (AwaitsChild child m) = Among child (numbers children)
ChildIn children (Answered answer m) = Unit {0}
ChildIn children (AwaitsTree tree m) = Unit {0}
ChildIn children (Finished m) = Unit {0}
ChildIn children (FailedBy fault) = Unit {0}

module _ (same_header : Request → Request → Bool) (invocation : Invocation) (m : Machine) where
  abbrev In : Reply → Type 0
  In reply = ChildIn m.children reply

  by_asleep : (tree : AwaitTree ℕ) (new : Machine) (left : Commands) → ChildIn m.children (reply_where_asleep tree new left)
  by_asleep tree new [] = tt
  by_asleep tree new (command ∷ left) = tt

  by_unknown : (child : ℕ) (new : Machine) (left : Commands) → Among child (numbers m.children) → ChildIn m.children (reply_where_unknown child new left)
  by_unknown child new [] a = a
  by_unknown child new (command ∷ left) a = tt

  by_cancelled : (new : Machine) (requests : List Request) (o : Option PutState) → ChildIn m.children (reply_where_cancelled same_header invocation new requests o)
  by_cancelled new requests None = tt
  by_cancelled new requests (Some p) = tt

  by_children : (new : Machine) (outcome : ChildrenOutcome) → OutcomeIn m.children outcome → ChildIn m.children (reply_to_children same_header invocation new outcome)
  by_children new (AllKnown queue ready) i = by_cancelled (record new { queue = queue; ready = ready }) (cancel_requests_for ready new.children) (put_all same_header (cancel_requests_for ready new.children) (record { left = new.left; written = new.written }))
  by_children new (FirstUnknown child ready) i = by_unknown child (record new { queue = []; ready = ready }) new.left i
  by_children new OneIsNoId i = tt

  by_awake : (queue : List Arrival) (ready : Ready) (b : Bool) → ChildIn m.children (reply_where_awake same_header invocation (record m { queue = queue; ready = ready }) b)
  by_awake queue ready false = tt
  by_awake queue ready true = by_children (record m { queue = queue; ready = ready }) (children_outcome invocation.options.signal_delivery m.children queue ready) (outcome-in invocation.options.signal_delivery m.children queue ready)

  by_resolution : (r : Resolution) → ChildIn m.children (reply_to_await same_header invocation m r)
  by_resolution (Awake queue ready) = by_awake queue ready (is_cancelled invocation (record m { queue = queue; ready = ready }))
  by_resolution (Asleep tree ready) = by_asleep tree (record m { queue = []; ready = ready }) m.left

  by_end : (left : Commands) → ChildIn m.children (reply_to_end m left)
  by_end [] = tt
  by_end (command ∷ left) = tt

  by_taken : (handle : ℕ) (result : NotificationResult) (a b : Bool) → ChildIn m.children (reply_where_taken m handle result a b)
  by_taken handle result false b = tt
  by_taken handle result true false = tt
  by_taken handle result true true = tt

  by_take : (handle : ℕ) (o : Option NotificationResult) → ChildIn m.children (reply_to_take m handle o)
  by_take handle None = tt
  by_take handle (Some result) = by_taken handle result _ _

  by_make : (call : Call) (requests : List Request) (o : Option PutState) → ChildIn m.children (reply_to_make same_header invocation m call requests o)
  by_make call requests None = tt
  by_make call requests (Some p) = tt

  by_work : (call : Call) (work : Work) → ChildIn m.children (reply_to_work same_header invocation m call work)
  by_work call (ToAwait tree) = by_resolution (resolution_of invocation.options.signal_delivery m.slots (awaited_tree invocation.options.implicit_cancellation tree) m.queue m.ready)
  by_work call ToEnd = by_end m.left
  by_work call (ToTake handle) = by_take handle (waiting_for m.slots m.ready handle)
  by_work call (ToLook handle) = tt
  by_work call ToMake = by_make call (requests_by m.start m.done m.left m.completions call) (put_all same_header (requests_by m.start m.done m.left m.completions call) (record { left = m.left; written = m.written }))

  by_refusal : (call : Call) (o : Option Refusal) → ChildIn m.children (reply_unless_refused same_header invocation m call o)
  by_refusal call (Some refusal) = tt
  by_refusal call None = by_work call (work_of call)

pub child_in : (same_header : Call → Request → Request → Bool) (invocation : Invocation) (m : Machine) (call : Call) → ChildIn m.children (reply_to same_header invocation m call)
child_in same_header invocation m call = by_refusal (same_header call) invocation m call (refusal_of invocation.version call)

-- ---- children are of other calls than bodies

record IsOther (c : ℕ) (call : Call) (n : ℕ) : Type 0 where
  pub number : n ≡ c
  pub some : 1 ≤ completions_of call
  pub none : (h k : ℕ) (body : Body) → Among body (bodies_of_call h k call) → ⊥

child-call : (cancellation : ImplicitCancellationOption) (c : ℕ) (call : Call) (n : ℕ) → Among n (child_of cancellation c call) → IsOther c call n
child-call Disabled c _ n a = absurd a
child-call (Enabled true sends) c (Call.Call target parameter name options) n (inl e) = record { number = e; some = omega arith; none = λ h k body b. b }
child-call (Enabled true sends) c (Call.Call target parameter name options) n (inr a) = absurd a
child-call (Enabled true true) c (Call.Send target parameter execution_time name options) n (inl e) = record { number = e; some = omega arith; none = λ h k body b. b }
child-call (Enabled true true) c (Call.Send target parameter execution_time name options) n (inr a) = absurd a
child-call (Enabled false true) c (Call.Send target parameter execution_time name options) n (inl e) = record { number = e; some = omega arith; none = λ h k body b. b }
child-call (Enabled false true) c (Call.Send target parameter execution_time name options) n (inr a) = absurd a
child-call (Enabled _ _) c _ n a = absurd a

among-after : (answer : Answer) (xs : List ℕ) (n : ℕ) → Among n (children_after answer xs) → Among n xs
among-after Answer.Cancelled xs n a = absurd a
among-after _ xs n a = a

record IsApart (steps : List Step) (n : ℕ) : Type 0 where
  pub below : n < next_completion steps
  pub no_body : (body : Body) → Among body (bodies_of steps) → body.completion ≡ n → ⊥

tracked-apart : (cancellation : ImplicitCancellationOption) (steps : List Step) (n : ℕ) → Among n (tracked_children cancellation steps) → IsApart steps n
tracked-apart cancellation [] n a = absurd a
tracked-apart cancellation (step ∷ earlier) n a =
    by_part (among-split n (tracked_children cancellation earlier) (child_of cancellation (next_completion earlier) step.call) (among-after step.answer _ n a)) (λ b. tracked-apart cancellation earlier n b)
  where
    by_part : Among n (tracked_children cancellation earlier) ⊎ Among n (child_of cancellation (next_completion earlier) step.call) → (Among n (tracked_children cancellation earlier) → IsApart earlier n) → IsApart (step ∷ earlier) n
    by_part (inl b) before =
        let old : IsApart earlier n = before b in
        let low : n < next_completion earlier = old.below in
        record {
          below = omega (arith, low);
          no_body = λ body c same. elim (among-split body (bodies_of earlier) (bodies_of_call (next_handle earlier) (next_completion earlier) step.call) c) [
            | inl d ↦ old.no_body body d same
            | inr d ↦ (let e : body.completion ≡ next_completion earlier = (call-completion (next_handle earlier) (next_completion earlier) step.call body d).0 in absurd (omega (arith, e, same, low)))
          ];
        }
    by_part (inr b) before =
        let other : IsOther (next_completion earlier) step.call n = child-call cancellation (next_completion earlier) step.call n b in
        let number : n ≡ next_completion earlier = other.number in
        let some : 1 ≤ completions_of step.call = other.some in
        record {
          below = omega (arith, number, some);
          no_body = λ body c same. elim (among-split body (bodies_of earlier) (bodies_of_call (next_handle earlier) (next_completion earlier) step.call) c) [
            | inl d ↦ (let low : body.completion < next_completion earlier = bodies-below earlier body d in absurd (omega (arith, low, same, number)))
            | inr d ↦ other.none (next_handle earlier) (next_completion earlier) body d
          ];
        }

among-numbers : (steps : List Step) (ns : List ℕ) (n : ℕ) → Among n (numbers (map (child_after steps) ns)) → Among n ns
among-numbers steps [] n a = absurd a
among-numbers steps (m ∷ ns) n (inl e) = inl e
among-numbers steps (m ∷ ns) n (inr a) = inr (among-numbers steps ns n a)

pub child-apart : (cancellation : ImplicitCancellationOption) (steps : List Step) (children : List Child) (n : ℕ) → children ≡ map (child_after steps) (tracked_children cancellation steps) → Among n (numbers children)
    → (body : Body) → Among body (bodies_of steps) → body.completion ≡ n → ⊥
child-apart cancellation steps children n same a =
    (tracked-apart cancellation steps n (among-numbers steps (tracked_children cancellation steps) n (subst (λ (some : List Child). Among n (numbers some)) same a))).no_body
