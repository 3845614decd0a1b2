-- A call is answered as the run answers it, or executes a body that the run waits for.
use Rattle.std.proofs.Common.{◌≡◌, refl, sym, ap, ap₂, ◌∙◌, subst, ℕ, ◌+◌, ◌≤◌, ◌<◌, ◌==◌, nat_lt, arith, Bool, true, false, if◌then◌else◌, List, [], ◌∷◌, ◌++◌, length, Option, Some, None, ◌⊎◌, inl, inr, not, ◌&&◌}
use Rattle.std.proofs.lemmas.Bool.{ltb-false, ltb-true}
use Rattle.std.specs.List.{find}
use Rattle.journal_model.specs.declared.notification.NotificationId.TheVariants.{CompletionId}
use Rattle.journal_model.specs.declared.value.NonEmptyValue.{NonEmptyValue}
use Rattle.journal_model.specs.Notification.{Arrival}
use Rattle.journal_model.specs.AwaitTree.{AwaitTree}
use Rattle.journal_model.specs.declared.call.Call.{Call}
use Rattle.journal_model.specs.declared.call.Answer.{Answer}
use Rattle.journal_model.specs.Request.{Request}
use Rattle.journal_model.specs.History.{Step, next_completion, next_handle, completions_of}
use Rattle.journal_model.specs.Delivery.{results_for, known_results}
use Rattle.journal_model.specs.Run.{Handler, Invocation, Progress, GoesOn, run}
use Rattle.journal_model.proofs.Continuing.{run-next}
use Rattle.attempt_model.specs.Machine.{Machine, Mismatch, UncompletedInReplay, EndInReplay, KeysNotText, ChildNotId, Refused, Reply, Answered, AwaitsTree, AwaitsChild, Finished, FailedBy, next_slot, reply_to}
use Rattle.attempt_model.specs.Simulation.{AreOfKind, Fits, AreReflexive, next_call, RepliesAsRun, AnswersNext, WaitsWithRun}
use Rattle.attempt_laws.proofs.Simulating.{simulates}
use Rattle.attempt_laws.proofs.Apart.{own-run, apart}
use Rattle.body_laws.specs.Bodies.{Body, Executor, has_come, bodies_of_call, bodies_left, has_handle, body_awaited, without_body, handing_out, executes_or_awaits, reply_after, executor_reply, bodies_of, suspends, is_executing, AwaitsTreeOf}
use Rattle.body_laws.specs.BodySimulation.{Among, has_arrived, count_bodies, count_proposed, Ascends, WasExecuted, BodiesStand, StandsWithBodies, AnswersWithBodies, RepliesWithBodies, WaitsWithBodies}
use Rattle.body_laws.proofs.Lists.{among-left, among-right, among-split, find-some, find-none, among-kept, among-without, one_if, count-removed, count-append, count-among, ascends-without, ascends-append, least-found, any-false}
use Rattle.body_laws.proofs.Fresh.{come-same}
use Rattle.body_laws.proofs.Steps.{Adds, adds, call-completion, call-handle, call-ascends, bodies-handle, count-below, count-above, count-one}
use Rattle.body_laws.proofs.Tracked.{ChildIn, child_in, child-apart}
use Rattle.body_laws.proofs.BodySimulation.{steps-same, with_steps, with_machine}

-- ---- one step on, which leaves the body of its call to be executed where its outcome has not come

module _ (version : ℕ) (steps : List Step) (arrivals : List Arrival) (proposed : List (ℕ × NonEmptyValue)) (e : Executor) (stand : BodiesStand version steps arrivals proposed e)
    (step : Step) (m : Machine) where
  abbrev own : List Body
  own = bodies_of_call (next_handle steps) (next_completion steps) step.call

  abbrev brought : Bool → List Body
  brought come = if come then [] else bodies_of_call (next_handle steps) (next_completion steps) step.call

  abbrev behind : Bool → Executor
  behind come = record { machine = m; left = e.left ++ (if come then [] else bodies_of_call (next_handle steps) (next_completion steps) step.call); executing = e.executing; cached = e.cached }

  brought-below : (come : Bool) (n : ℕ) → n < next_completion steps → count_bodies n (brought come) ≡ 0
  brought-below true n low = refl
  brought-below false n low = count-below (next_handle steps) (next_completion steps) n step.call low

  brought-above : (come : Bool) (n : ℕ) → next_completion steps + completions_of step.call ≤ n → count_bodies n (brought come) ≡ 0
  brought-above true n high = refl
  brought-above false n high = count-above (next_handle steps) (next_completion steps) n step.call high

  brought-one : (come : Bool) (n : ℕ) → count_bodies n (brought come) ≤ 1
  brought-one true n = omega arith
  brought-one false n = count-one (next_handle steps) (next_completion steps) n step.call

  brought-own : (come : Bool) (body : Body) → Among body (brought come) → (come ≡ false) × Among body own
  brought-own true body a = absurd a
  brought-own false body a = (refl, a)

  brought-ascends : (come : Bool) → Ascends (brought come)
  brought-ascends true = tt
  brought-ascends false = call-ascends (next_handle steps) (next_completion steps) step.call

  own-brought : (come : Bool) (body : Body) → Among body own → (come ≡ true) ⊎ Among body (brought come)
  own-brought true body a = inl refl
  own-brought false body a = inr a

  pub steps_on : (come : Bool) → has_arrived arrivals (next_completion steps) ≡ come → BodiesStand version (step ∷ steps) arrivals proposed (behind come)
  steps_on come is = record {
    once = λ n. by_order n (nat_lt n (next_completion steps)) refl;
    none_above = λ n high. (let old : count_bodies n e.left + count_bodies n e.executing + count_proposed n proposed ≡ 0 = stand.none_above n (omega (arith, high)) in
        let split : count_bodies n (e.left ++ brought come) ≡ count_bodies n e.left + count_bodies n (brought come) = count-append n e.left (brought come) in
        let none : count_bodies n (brought come) ≡ 0 = brought-above come n high in
        omega (arith, old, split, none));
    called = λ body a. elim (among-split body e.left (brought come) a) [
      | inl b ↦ among-left body (bodies_of steps) own (stand.called body b)
      | inr b ↦ among-right body (bodies_of steps) own (brought-own come body b).1
    ];
    not_come = λ body a. elim (among-split body e.left (brought come) a) [ inl b ↦ stand.not_come body b | inr b ↦ new_not_come body (brought-own come body b) ];
    ascending = ascends-append e.left (brought come) stand.ascending (brought-ascends come) below;
    executing_called = λ body a. among-left body (bodies_of steps) own (stand.executing_called body a);
    proposed_called = λ n value a. (let (body, b, same) = stand.proposed_called n value a in (body, among-left body (bodies_of steps) own b, same));
    kept = λ body a. elim (among-split body (bodies_of steps) own a) [ inl b ↦ old_kept body (stand.kept body b) | inr b ↦ new_kept body b (own-brought come body b) ];
    cached = stand.cached;
    cached_alone = stand.cached_alone;
  }
    where
      below : (x y : Body) → Among x e.left → Among y (brought come) → x.handle < y.handle
      below x y a b =
          let low : x.handle < next_handle steps = bodies-handle steps x (stand.called x a) in
          let same : y.handle ≡ next_handle steps = (call-handle (next_handle steps) (next_completion steps) 0 step.call y (brought-own come y b).1).0 in
          omega (arith, low, same)

      by_order : (n : ℕ) (b : Bool) → nat_lt n (next_completion steps) ≡ b → count_bodies n (e.left ++ brought come) + count_bodies n e.executing + count_proposed n proposed ≤ 1
      by_order n true f =
          let low : n < next_completion steps = ltb-true n (next_completion steps) f in
          let old : count_bodies n e.left + count_bodies n e.executing + count_proposed n proposed ≤ 1 = stand.once n in
          let split : count_bodies n (e.left ++ brought come) ≡ count_bodies n e.left + count_bodies n (brought come) = count-append n e.left (brought come) in
          let none : count_bodies n (brought come) ≡ 0 = brought-below come n low in
          omega (arith, old, split, none)
      by_order n false f =
          let high : next_completion steps ≤ n = ltb-false n (next_completion steps) f in
          let old : count_bodies n e.left + count_bodies n e.executing + count_proposed n proposed ≡ 0 = stand.none_above n high in
          let split : count_bodies n (e.left ++ brought come) ≡ count_bodies n e.left + count_bodies n (brought come) = count-append n e.left (brought come) in
          let one : count_bodies n (brought come) ≤ 1 = brought-one come n in
          omega (arith, old, split, one)

      new_not_come : (body : Body) → (come ≡ false) × Among body own → has_arrived arrivals body.completion ≡ false
      new_not_come body (absent, a) = ap (has_arrived arrivals) (call-completion (next_handle steps) (next_completion steps) step.call body a).0 ∙ is ∙ absent

      old_kept : (body : Body) → (has_arrived arrivals body.completion ≡ true) ⊎ (Among body e.left ⊎ WasExecuted proposed e body)
          → (has_arrived arrivals body.completion ≡ true) ⊎ (Among body (e.left ++ brought come) ⊎ WasExecuted proposed (behind come) body)
      old_kept body (inl c) = inl c
      old_kept body (inr (inl a)) = inr (inl (among-left body e.left (brought come) a))
      old_kept body (inr (inr w)) = inr (inr w)

      new_kept : (body : Body) → Among body own → (come ≡ true) ⊎ Among body (brought come)
          → (has_arrived arrivals body.completion ≡ true) ⊎ (Among body (e.left ++ brought come) ⊎ WasExecuted proposed (behind come) body)
      new_kept body a (inl present) = inl (ap (has_arrived arrivals) (call-completion (next_handle steps) (next_completion steps) step.call body a).0 ∙ is ∙ present)
      new_kept body a (inr b) = inr (inl (among-right body e.left (brought come) b))

-- ---- a body is handed out

module _ (version : ℕ) (steps : List Step) (arrivals : List Arrival) (proposed : List (ℕ × NonEmptyValue)) (e : Executor) (stand : BodiesStand version steps arrivals proposed e)
    (body : Body) (a : Among body e.left) where
  handed-count : (n : ℕ) → count_bodies n (without_body body e.left) + count_bodies n (e.executing ++ body ∷ []) ≤ count_bodies n e.left + count_bodies n e.executing
  handed-count n =
      let left : count_bodies n (without_body body e.left) + one_if (body.completion == n) ≤ count_bodies n e.left = count-removed n body e.left a in
      let split : count_bodies n (e.executing ++ body ∷ []) ≡ count_bodies n e.executing + (one_if (body.completion == n) + 0) = count-append n e.executing (body ∷ []) in
      omega (arith, left, split)

  pub hands_out : BodiesStand version steps arrivals proposed (handing_out e body)
  hands_out = record {
    once = λ n. (let h = stand.once n in omega (arith, handed-count n, h));
    none_above = λ n high. (let h = stand.none_above n high in omega (arith, handed-count n, h));
    called = λ x b. stand.called x (among-without body e.left x b);
    not_come = λ x b. stand.not_come x (among-without body e.left x b);
    ascending = ascends-without body e.left stand.ascending;
    executing_called = λ x b. by_executing x (among-split x e.executing (body ∷ []) b);
    proposed_called = stand.proposed_called;
    kept = λ x b. by_kept x (stand.kept x b);
    cached = stand.cached;
    cached_alone = stand.cached_alone;
  }
    where
      by_executing : (x : Body) → Among x e.executing ⊎ Among x (body ∷ []) → Among x (bodies_of steps)
      by_executing x (inl b) = stand.executing_called x b
      by_executing x (inr (inl same)) = subst (λ (one : Body). Among one (bodies_of steps)) (sym same) (stand.called body a)
      by_executing x (inr (inr b)) = absurd b

      by_kept : (x : Body) → (has_arrived arrivals x.completion ≡ true) ⊎ (Among x e.left ⊎ WasExecuted proposed e x)
          → (has_arrived arrivals x.completion ≡ true) ⊎ (Among x (without_body body e.left) ⊎ WasExecuted proposed (handing_out e body) x)
      by_kept x (inl c) = inl c
      by_kept x (inr (inl b)) = elim (among-kept body e.left x b) [
        | inl same ↦ inr (inr (inl (among-right x e.executing (body ∷ []) (inl (sym same)))))
        | inr c ↦ inr (inl c)
      ]
      by_kept x (inr (inr (inl b))) = inr (inr (inl (among-left x e.executing (body ∷ []) b)))
      by_kept x (inr (inr (inr h))) = inr (inr (inr h))

-- ---- a call

module _ (same_header : Call → Request → Request → Bool) (handler : Handler) (given : Invocation) (journal : List Request) (arrivals : List Arrival) (calls : ℕ) (proposed : List (ℕ × NonEmptyValue)) (e : Executor)
    (reflexive : AreReflexive same_header) (fits : Fits handler given journal arrivals) (kinds : AreOfKind handler given arrivals calls) (at : StandsWithBodies handler given journal arrivals calls proposed e) where
  abbrev steps : List Step
  steps = at.stands.steps

  abbrev call : Call
  call = next_call handler given at.stands.steps

  -- nothing is known of the next completion
  unknown : length (results_for (known_results at.stands.steps) (CompletionId (next_completion at.stands.steps))) ≡ 0
  unknown =
      let same : (run handler given arrivals calls).steps ≡ at.stands.steps = ap (λ (p : Progress). p.steps) at.stands.going in
      subst (λ (some : List Step). length (results_for (known_results some) (CompletionId (next_completion some))) ≡ 0) same
      ((apart (next_completion (run handler given arrivals calls).steps) (run handler given arrivals calls).steps (own-run handler given arrivals calls)).above (omega arith)).1

  come-is : has_come e.machine e.machine.completions ≡ has_arrived arrivals (next_completion at.stands.steps)
  come-is =
      ap (has_come e.machine) at.stands.completions
      ∙ come-same given.options at.stands.steps arrivals at.stands.place e.machine.queue e.machine.ready e.machine.slots at.stands.tables unknown

  -- the body that the call leaves is the next one of its steps
  left-is : bodies_left e.machine (next_call handler given at.stands.steps)
      ≡ (if has_arrived arrivals (next_completion at.stands.steps) then [] else bodies_of_call (next_handle at.stands.steps) (next_completion at.stands.steps) (next_call handler given at.stands.steps))
  left-is =
      ap (λ (b : Bool). if b then [] else bodies_of_call (next_slot e.machine) e.machine.completions (next_call handler given at.stands.steps)) come-is
      ∙ ap₂ (λ (h n : ℕ). if has_arrived arrivals (next_completion at.stands.steps) then [] else bodies_of_call h n (next_call handler given at.stands.steps)) at.stands.tables.next at.stands.completions

  answered : (answer : Answer) (m : Machine) → AnswersNext handler given journal arrivals calls answer m
      → AnswersWithBodies handler given journal arrivals calls proposed answer
      (record { machine = m; left = e.left ++ bodies_left e.machine (next_call handler given at.stands.steps); executing = e.executing; cached = e.cached })
  answered answer m r = record {
    answers = r;
    bodies = with_steps given.version (grown.step ∷ at.stands.steps) r.stands.steps arrivals proposed _ grown.new_is
        (subst (λ (some : List Body). BodiesStand given.version (grown.step ∷ at.stands.steps) arrivals proposed (record { machine = m; left = e.left ++ some; executing = e.executing; cached = e.cached })) (sym left-grown)
        (steps_on given.version at.stands.steps arrivals proposed e at.bodies grown.step m (has_arrived arrivals (next_completion at.stands.steps)) refl));
  }
    where
      grown : Adds at.stands.steps (next_call handler given at.stands.steps) r.stands.steps
      grown = adds given at.stands.steps arrivals (next_call handler given at.stands.steps) r.stands.steps
          (sym (run-next handler given arrivals calls at.stands.steps at.stands.going) ∙ r.stands.going)

      left-grown : bodies_left e.machine (next_call handler given at.stands.steps)
          ≡ (if has_arrived arrivals (next_completion at.stands.steps) then [] else bodies_of_call (next_handle at.stands.steps) (next_completion at.stands.steps) grown.step.call)
      left-grown =
          left-is ∙ ap (λ (some : Call). if has_arrived arrivals (next_completion at.stands.steps) then [] else bodies_of_call (next_handle at.stands.steps) (next_completion at.stands.steps) some) (sym grown.call_is)

  -- the bodies where the run has made no step
  still : (m : Machine) (some : List Step) → run handler given arrivals calls ≡ record { steps = some; ending = GoesOn } → BodiesStand given.version some arrivals proposed (record e { machine = m })
  still m some going =
      with_steps given.version at.stands.steps some arrivals proposed (record e { machine = m }) (steps-same (run handler given arrivals calls) at.stands.steps some at.stands.going going)
      (with_machine given.version at.stands.steps arrivals proposed e m at.bodies)

  awaits : (tree : AwaitTree ℕ) (m : Machine) → WaitsWithRun handler given journal arrivals calls tree m
      → RepliesWithBodies handler given journal arrivals calls proposed (executes_or_awaits tree (record e { machine = m }) (body_awaited tree e.left))
  awaits tree m r = by_body (body_awaited tree e.left) refl
    where
      bodies : BodiesStand given.version r.stands.steps arrivals proposed (record e { machine = m })
      bodies = still m r.stands.steps r.stands.going

      by_kept : (body : Body) → find (λ (one : Body). has_handle one.handle tree) e.left ≡ None → has_handle body.handle tree ≡ true
          → (has_arrived arrivals body.completion ≡ true) ⊎ (Among body e.left ⊎ WasExecuted proposed e body) → (has_arrived arrivals body.completion ≡ true) ⊎ WasExecuted proposed e body
      by_kept body none h (inl c) = inl c
      by_kept body none h (inr (inl a)) = let wrong : true ≡ false = sym h ∙ find-none (λ (one : Body). has_handle one.handle tree) e.left none body a in cc
      by_kept body none h (inr (inr w)) = inr w

      by_body : (o : Option Body) → body_awaited tree e.left ≡ o → RepliesWithBodies handler given journal arrivals calls proposed (executes_or_awaits tree (record e { machine = m }) o)
      by_body None f = record { waits = r; bodies = bodies; none_left = λ body a h. by_kept body f h (bodies.kept body a) }
      by_body (Some body) f =
          let (a, h) = find-some (λ (one : Body). has_handle one.handle tree) e.left body f in
          let here : 1 ≤ count_bodies body.completion e.left = count-among body e.left a in
          let few : count_bodies body.completion e.left + count_bodies body.completion e.executing + count_proposed body.completion proposed ≤ 1 = bodies.once body.completion in
          record {
            tree = tree;
            waits = r;
            awaited = h;
            called = bodies.called body a;
            not_come = bodies.not_come body a;
            not_proposed = omega (arith, here, few);
            executing = among-right body e.executing (body ∷ []) (inl refl);
            least = λ other b k. least-found (λ (one : Body). has_handle one.handle tree) e.left body f bodies.ascending other b k;
            bodies = hands_out given.version r.stands.steps arrivals proposed (record e { machine = m }) bodies body a;
          }

  by_reply : (reply : Reply) → RepliesAsRun handler given journal arrivals calls reply → ChildIn e.machine.children reply
      → RepliesWithBodies handler given journal arrivals calls proposed (reply_after e (next_call handler given at.stands.steps) reply)
  by_reply (Answered answer m) r i = answered answer m r
  by_reply (AwaitsTree tree m) r i = awaits tree m r
  by_reply (AwaitsChild child m) r i = record {
    waits = r;
    bodies = still m r.stands.steps r.stands.going;
    no_body = λ body a. child-apart given.options.implicit_cancellation at.stands.steps e.machine.children child at.stands.children i body
        (subst (λ (some : List Step). Among body (bodies_of some)) (sym (steps-same (run handler given arrivals calls) at.stands.steps r.stands.steps at.stands.going r.stands.going)) a);
  }
  by_reply (Finished m) r i = r
  by_reply (FailedBy Mismatch) r i = r
  by_reply (FailedBy UncompletedInReplay) r i = r
  by_reply (FailedBy EndInReplay) r i = r
  by_reply (FailedBy KeysNotText) r i = r
  by_reply (FailedBy ChildNotId) r i = r
  by_reply (FailedBy (Refused refusal)) r i = r

  pub calls_simulate : RepliesWithBodies handler given journal arrivals calls proposed (executor_reply same_header given e (next_call handler given at.stands.steps))
  calls_simulate = by_reply (reply_to same_header given e.machine (next_call handler given at.stands.steps))
      (simulates same_header handler given journal arrivals calls e.machine reflexive fits kinds at.stands)
      (child_in same_header given e.machine (next_call handler given at.stands.steps))

-- where it suspends

module _ (handler : Handler) (given : Invocation) (journal : List Request) (arrivals : List Arrival) (calls : ℕ) (proposed : List (ℕ × NonEmptyValue)) (tree : AwaitTree ℕ) (e : Executor) (is_closed : Bool)
    (waits : WaitsWithBodies handler given journal arrivals calls proposed tree e) (suspended : suspends is_closed (AwaitsTreeOf tree e) ≡ true) where
  none_executing : is_executing tree e ≡ false
  none_executing = both is_closed (is_executing tree e) suspended
    where
      both : (a b : Bool) → (a && not b) ≡ true → b ≡ false
      both true true f = cc
      both true false f = refl
      both false b f = cc

  pub leaves_none : (body : Body) → Among body (bodies_of waits.waits.stands.steps) → has_handle body.handle tree ≡ true
      → (has_arrived arrivals body.completion ≡ true) ⊎ (1 ≤ count_proposed body.completion proposed)
  leaves_none body a h = by_left (waits.none_left body a h)
    where
      by_left : (has_arrived arrivals body.completion ≡ true) ⊎ WasExecuted proposed e body → (has_arrived arrivals body.completion ≡ true) ⊎ (1 ≤ count_proposed body.completion proposed)
      by_left (inl c) = inl c
      by_left (inr (inl b)) =
          let wrong : true ≡ false = sym h ∙ any-false (λ (one : Body). has_handle one.handle tree) e.executing none_executing body b in
          cc
      by_left (inr (inr p)) = inr p
