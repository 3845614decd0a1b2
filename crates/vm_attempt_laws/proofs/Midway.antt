-- A call that stops midway: what it has put are requests of the run, and the run goes on with the others.
use Rattle.std.proofs.Common.{◌≡◌, ◌⊎◌, inl, inr, ◌∙◌, Bool, true, false, List, [], ◌∷◌, ◌++◌, append-nil, Option, Some, None, refl, sym, ap, subst}
use Rattle.std.proofs.lemmas.List.{append_cancel_left}
use Rattle.std.specs.List.{AllByRecursion}
use Rattle.journal_model.specs.Refusal.{Refusal, refusal_of}
use Rattle.attempt_model.specs.Children.{ChildrenOutcome, AllKnown, FirstUnknown, OneIsNoId, children_outcome, cancel_requests_for}
use Rattle.attempt_model.specs.Machine.{Mismatch, Work, ToAwait, work_of, is_cancelled, reply_where_cancelled, reply_to_children, reply_where_awake, reply_to_await, reply_unless_refused}
use Rattle.attempt_model.specs.Results.{Ready, Resolution, Awake, Asleep, resolution_of}
use Rattle.vm_outcomes.specs.PartialCalls.{children_requests, awake_requests, await_requests, unless_refused, requests_at}
use Rattle.vm_attempt_laws.proofs.Ids.{AreText, AreReadyText, ResolvesText, resolved_text, FindsText, found_text}
use Rattle.vm_attempt_laws.proofs.Now.{compares}
use Rattle.vm_attempt_laws.proofs.Replies.{the_put}
use Rattle.vm_attempt_laws.specs.Machine.{MachineState, HasPut, requests_passed_on}
use Rattle.vm_attempt_laws.specs.Words.{Answer, Call, Arrival, awaited_tree, Request, Invocation, Machine, Reply, Answered, FailedBy, reply_to, PutState, put_all}

-- ---- what is passed on

module _ (P : Request → Type 0) (given : Invocation) (m : Machine) (line : AreText m.queue) (all : AreReadyText m.ready)
    (cancels : (ready : Ready) → AreReadyText ready → AllByRecursion P (cancel_requests_for ready m.children)) where
  children_such : (outcome : ChildrenOutcome) → FindsText outcome → AllByRecursion P (children_requests m.children outcome)
  children_such (AllKnown queue ready) text = cancels ready text
  children_such (FirstUnknown child ready) text = tt
  children_such OneIsNoId text = tt

  awake_such : (queue : List Arrival) (ready : Ready) (cancelled : Bool) → ResolvesText (Awake queue ready) → AllByRecursion P (awake_requests given (record m { queue = queue; ready = ready }) cancelled)
  awake_such queue ready true text =
      children_such (children_outcome given.options.signal_delivery m.children queue ready) (found_text given.options.signal_delivery m.children queue ready text.0 text.1)
  awake_such queue ready false text = tt

  await_such : (resolution : Resolution) → ResolvesText resolution → AllByRecursion P (await_requests given m resolution)
  await_such (Awake queue ready) text = awake_such queue ready (is_cancelled given (record m { queue = queue; ready = ready })) text
  await_such (Asleep tree ready) text = tt

  unless_such : (o : Option Refusal) (requests : List Request) → AllByRecursion P requests → AllByRecursion P (unless_refused o requests)
  unless_such None requests all = all
  unless_such (Some refusal) requests all = tt

  work_such : (work : Work) → AllByRecursion P (requests_at given m work)
  work_such (ToAwait tree) =
      unless_such (refusal_of given.version (Call.Await tree)) (await_requests given m (resolution_of given.options.signal_delivery m.slots (awaited_tree given.options.implicit_cancellation tree) m.queue m.ready))
      (await_such (resolution_of given.options.signal_delivery m.slots (awaited_tree given.options.implicit_cancellation tree) m.queue m.ready)
      (resolved_text given.options.signal_delivery m.slots (awaited_tree given.options.implicit_cancellation tree) m.queue m.ready line all))
  work_such _ = tt

  pub passed_such : (call : Call) → AllByRecursion P (requests_passed_on given m call)
  passed_such call = work_such (work_of call)

-- ---- the reply of such a call

-- nothing is passed on, or the call is answered, if its requests are those that are recorded
abbrev pub PassesOn : Reply → List Request → Type 0
PassesOn reply requests = (requests ≡ []) ⊎ ((reply ≡ FailedBy Mismatch) ⊎ ((whole : Machine) × (reply ≡ Answered Answer.Cancelled whole)))

module _ (same : Request → Request → Bool) (given : Invocation) where
  cancelled_passes : (m : Machine) (requests : List Request) (put : Option PutState) → PassesOn (reply_where_cancelled same given m requests put) requests
  cancelled_passes m requests None = inr (inl refl)
  cancelled_passes m requests (Some p) = inr (inr (_, refl))

  children_pass : (m : Machine) (outcome : ChildrenOutcome) → PassesOn (reply_to_children same given m outcome) (children_requests m.children outcome)
  children_pass m (AllKnown queue ready) =
      cancelled_passes (record m { queue = queue; ready = ready }) (cancel_requests_for ready m.children)
      (put_all same (cancel_requests_for ready m.children) (record { left = m.left; written = m.written }))
  children_pass m (FirstUnknown child ready) = inl refl
  children_pass m OneIsNoId = inl refl

  awake_passes : (m : Machine) (cancelled : Bool) → PassesOn (reply_where_awake same given m cancelled) (awake_requests given m cancelled)
  awake_passes m true = children_pass m (children_outcome given.options.signal_delivery m.children m.queue m.ready)
  awake_passes m false = inl refl

  await_passes : (m : Machine) (resolution : Resolution) → PassesOn (reply_to_await same given m resolution) (await_requests given m resolution)
  await_passes m (Awake queue ready) = awake_passes (record m { queue = queue; ready = ready }) (is_cancelled given (record m { queue = queue; ready = ready }))
  await_passes m (Asleep tree ready) = inl refl

pub passes_on : (same_header : Call → Request → Request → Bool) (given : Invocation) (m : Machine) (call : Call) → PassesOn (reply_to same_header given m call) (requests_passed_on given m call)
passes_on same_header given m (Call.Await tree) = by_refusal (refusal_of given.version (Call.Await tree))
  where
    resolution : Resolution
    resolution = resolution_of given.options.signal_delivery m.slots (awaited_tree given.options.implicit_cancellation tree) m.queue m.ready

    by_refusal : (o : Option Refusal) → PassesOn (reply_unless_refused (same_header (Call.Await tree)) given m (Call.Await tree) o) (unless_refused o (await_requests given m resolution))
    by_refusal None = await_passes (same_header (Call.Await tree)) given m resolution
    by_refusal (Some refusal) = inl refl
passes_on same_header given m _ = inl refl

-- ---- how far it has come

pub no_front : (xs ys : List Request) → xs ++ ys ≡ [] → xs ≡ []
no_front [] ys e = refl
no_front (x ∷ xs) ys e = cc

-- where none was put, none was written
pub none_written : (given : Invocation) (m : Machine) (call : Call) (vm : MachineState) (far : HasPut given m call vm) → far.front ≡ [] → far.more ≡ []
none_written given m call vm far none =
    append_cancel_left m.written far.more []
    (sym far.written ∙ ap (λ (p : PutState). p.written) (sym (the_put (record { left = m.left; written = m.written }) far.put
    (subst (λ (front : List Request). put_all (compares vm call) front (record { left = m.left; written = m.written }) ≡ Some far.put) none far.puts))) ∙ sym (append-nil m.written))
