-- The bodies stand before the first call, and where an arrival is read, an outcome is acknowledged or proposed.
use Rattle.std.proofs.Common.{map, ◌≡◌, refl, sym, ap, ap₂, ◌∙◌, subst, ℕ, ◌+◌, ◌≤◌, ◌==◌, arith, Bool, true, false, ◌&&◌, ◌||◌, if◌then◌else◌, List, [], ◌∷◌, ◌++◌, length, length-append, Option, Some, None, option_map, ◌⊎◌, inl, inr, eqb-true, eq-eqb}
use Rattle.std.specs.List.{list_any}
use Rattle.std.proofs.lemmas.List.Folds.{list_any-append}
use Rattle.journal_model.specs.declared.notification.NotificationId.TheVariants.{CompletionId}
use Rattle.journal_model.specs.declared.notification.NotificationResult.{NotificationResult}
use Rattle.journal_model.specs.declared.value.NonEmptyValue.{NonEmptyValue}
use Rattle.journal_model.specs.Notification.{same_id, Arrival}
use Rattle.journal_model.specs.Value.{result_of_value}
use Rattle.journal_model.specs.Request.{Request}
use Rattle.journal_model.specs.State.{StartState}
use Rattle.journal_model.specs.History.{Step}
use Rattle.journal_model.specs.Delivery.{results_for}
use Rattle.journal_model.specs.Journal.{completes, completion}
use Rattle.journal_model.specs.Run.{Handler, Invocation, Progress, GoesOn, run, run_requests}
use Rattle.attempt_model.specs.Machine.{Machine, machine_at_start, with_arrival}
use Rattle.attempt_model.specs.Simulation.{IsShown, Stands, ComesOnce}
use Rattle.attempt_laws.proofs.Tables.{results-append}
use Rattle.attempt_laws.proofs.Standing.{begins, goes_same, reads_on}
use Rattle.body_laws.specs.Bodies.{Body, Executor, executor_over, without_body, reads_arrival, reads_outcome, after_acknowledgement, acknowledges, proposing, bodies_of}
use Rattle.body_laws.specs.BodySimulation.{Among, has_arrived, count_bodies, count_proposed, Ascends, WasExecuted, BodiesStand, StandsWithBodies}
use Rattle.body_laws.specs.Laws.{is_early, ComesAsCached}
use Rattle.body_laws.proofs.Lists.{outcome, among-split, among-left, among-right, any-false, among-kept, among-without, one_if, count-without, count-removed, count-among, proposed-append, proposed-among, one-same, ascends-without}
use Rattle.body_laws.proofs.Steps.{requested-run}

-- of one run that goes on the steps are known
pub steps-same : (p : Progress) (a b : List Step) → p ≡ record { steps = a; ending = GoesOn } → p ≡ record { steps = b; ending = GoesOn } → a ≡ b
steps-same p a b e f = ap (λ (q : Progress). q.steps) (sym e ∙ f)

pub with_steps : (version : ℕ) (a b : List Step) (arrivals : List Arrival) (proposed : List (ℕ × NonEmptyValue)) (e : Executor) → a ≡ b
    → BodiesStand version a arrivals proposed e → BodiesStand version b arrivals proposed e
with_steps version a b arrivals proposed e same stand = subst (λ (steps : List Step). BodiesStand version steps arrivals proposed e) same stand

-- the machine does not matter
pub with_machine : (version : ℕ) (steps : List Step) (arrivals : List Arrival) (proposed : List (ℕ × NonEmptyValue)) (e : Executor) (m : Machine)
    → BodiesStand version steps arrivals proposed e → BodiesStand version steps arrivals proposed (record e { machine = m })
with_machine version steps arrivals proposed e m stand = record {
  once = stand.once;
  none_above = stand.none_above;
  called = stand.called;
  not_come = stand.not_come;
  ascending = stand.ascending;
  executing_called = stand.executing_called;
  proposed_called = stand.proposed_called;
  kept = stand.kept;
  cached = stand.cached;
  cached_alone = stand.cached_alone;
}

-- before the first call there is none
pub no_bodies : (version : ℕ) (arrivals : List Arrival) (m : Machine) → BodiesStand version [] arrivals [] (executor_over m)
no_bodies version arrivals m = record {
  once = λ n. omega arith;
  none_above = λ n high. omega arith;
  called = λ body a. absurd a;
  not_come = λ body a. absurd a;
  ascending = tt;
  executing_called = λ body a. absurd a;
  proposed_called = λ n value a. absurd a;
  kept = λ body a. absurd a;
  cached = λ is n value a. absurd a;
  cached_alone = λ n value g. cc;
}

pub begins_with : (handler : Handler) (given : Invocation) (start : StartState) (journal : List Request) (arrivals : List Arrival)
    → IsShown given.start journal start → StandsWithBodies handler given journal arrivals 0 [] (executor_over (machine_at_start start (map Some journal) arrivals))
begins_with handler given start journal arrivals shows = by_stands (begins handler given start journal arrivals shows)
  where
    by_stands : Stands handler given journal arrivals 0 (machine_at_start start (map Some journal) arrivals)
        → StandsWithBodies handler given journal arrivals 0 [] (executor_over (machine_at_start start (map Some journal) arrivals))
    by_stands stands = record {
      stands = stands;
      bodies = with_steps given.version [] stands.steps arrivals [] (executor_over (machine_at_start start (map Some journal) arrivals)) (steps-same (run handler given arrivals 0) [] stands.steps refl stands.going)
          (no_bodies given.version arrivals (machine_at_start start (map Some journal) arrivals));
    }

-- ---- one more arrival

or-left : (a b : Bool) → a ≡ true → (a || b) ≡ true
or-left true b e = refl
or-left false b e = cc

or-right : (a b : Bool) → b ≡ true → (a || b) ≡ true
or-right true b e = refl
or-right false b e = e

pub arrived-before : (arrivals more : List Arrival) (n : ℕ) → has_arrived arrivals n ≡ true → has_arrived (arrivals ++ more) n ≡ true
arrived-before arrivals more n e = list_any-append (completes n) arrivals more ∙ or-left (list_any (completes n) arrivals) (list_any (completes n) more) e

pub arrived-now : (arrivals : List Arrival) (arrival : Arrival) (n : ℕ) → completes n arrival ≡ true → has_arrived (arrivals ++ arrival ∷ []) n ≡ true
arrived-now arrivals arrival n e =
    list_any-append (completes n) arrivals (arrival ∷ []) ∙ or-right (list_any (completes n) arrivals) (completes n arrival || false) (or-left (completes n arrival) false e)

pub arrived-neither : (arrivals : List Arrival) (arrival : Arrival) (n : ℕ) → has_arrived arrivals n ≡ false → completes n arrival ≡ false → has_arrived (arrivals ++ arrival ∷ []) n ≡ false
arrived-neither arrivals arrival n e f = list_any-append (completes n) arrivals (arrival ∷ []) ∙ ap₂ (λ (a b : Bool). a || (b || false)) e f

-- what has come for a completion is among its results
pub arrived-once : (xs : List Arrival) (n : ℕ) → has_arrived xs n ≡ true → 1 ≤ length (results_for xs (CompletionId n))
arrived-once [] n come = cc
arrived-once (x ∷ xs) n come = by_test (same_id x.id (CompletionId n)) refl come (λ f. arrived-once xs n f)
  where
    by_test : (b : Bool) → same_id x.id (CompletionId n) ≡ b → (b || has_arrived xs n) ≡ true → (has_arrived xs n ≡ true → 1 ≤ length (results_for xs (CompletionId n)))
        → 1 ≤ length (results_for (x ∷ xs) (CompletionId n))
    by_test true f g later = rw f (omega arith)
    by_test false f g later = rw f (later g)

-- one more arrival is read, of no body that is to be executed, whatever becomes of what is cached
arrives : (version : ℕ) (steps : List Step) (arrivals : List Arrival) (arrival : Arrival) (proposed : List (ℕ × NonEmptyValue)) (e new : Executor)
    → new.left ≡ e.left → new.executing ≡ e.executing → ((body : Body) → Among body e.left → completes body.completion arrival ≡ false)
    → (acknowledges version ≡ true → (n : ℕ) (value : NonEmptyValue) → Among (n, value) proposed → (e.cached n ≡ Some value) ⊎ (has_arrived arrivals n ≡ true)
    → (new.cached n ≡ Some value) ⊎ (has_arrived (arrivals ++ arrival ∷ []) n ≡ true)) → ((n : ℕ) (value : NonEmptyValue) → new.cached n ≡ Some value → e.cached n ≡ Some value)
    → BodiesStand version steps arrivals proposed e → BodiesStand version steps (arrivals ++ arrival ∷ []) proposed new
arrives version steps arrivals arrival proposed e new same_left same_executing late caches no_more stand = record {
  once = λ n. subst (λ (some : List Body). count_bodies n some + count_bodies n new.executing + count_proposed n proposed ≤ 1) (sym same_left)
      (subst (λ (some : List Body). count_bodies n e.left + count_bodies n some + count_proposed n proposed ≤ 1) (sym same_executing) (stand.once n));
  none_above = λ n high. ap₂ (λ (some others : List Body). count_bodies n some + count_bodies n others + count_proposed n proposed) same_left same_executing ∙ stand.none_above n high;
  called = λ body a. stand.called body (old body a);
  not_come = λ body a. arrived-neither arrivals arrival body.completion (stand.not_come body (old body a)) (late body (old body a));
  ascending = subst Ascends (sym same_left) stand.ascending;
  executing_called = λ body a. stand.executing_called body (subst (Among body) same_executing a);
  proposed_called = stand.proposed_called;
  kept = λ body a. by_kept body (stand.kept body a);
  cached = λ is n value a. caches is n value a (stand.cached is n value a);
  cached_alone = λ n value c. stand.cached_alone n value (no_more n value c);
}
  where
    old : (body : Body) → Among body new.left → Among body e.left
    old body a = subst (Among body) same_left a

    by_kept : (body : Body) → (has_arrived arrivals body.completion ≡ true) ⊎ (Among body e.left ⊎ WasExecuted proposed e body)
        → (has_arrived (arrivals ++ arrival ∷ []) body.completion ≡ true) ⊎ (Among body new.left ⊎ WasExecuted proposed new body)
    by_kept body (inl come) = inl (arrived-before arrivals (arrival ∷ []) body.completion come)
    by_kept body (inr (inl a)) = inr (inl (subst (Among body) (sym same_left) a))
    by_kept body (inr (inr (inl a))) = inr (inr (inl (subst (Among body) (sym same_executing) a)))
    by_kept body (inr (inr (inr h))) = inr (inr (inr h))

module _ (version : ℕ) (steps : List Step) (arrivals : List Arrival) (proposed : List (ℕ × NonEmptyValue)) (e : Executor) (stand : BodiesStand version steps arrivals proposed e) where
  pub body_reads : (arrival : Arrival) → is_early e arrival ≡ false → BodiesStand version steps (arrivals ++ arrival ∷ []) proposed (reads_arrival e arrival)
  body_reads arrival late =
      arrives version steps arrivals arrival proposed e (reads_arrival e arrival) refl refl
      (λ body a. any-false (λ (one : Body). completes one.completion arrival) e.left late body a)
      (λ is n value a c. by_cached n value c) (λ n value c. c) stand
    where
      by_cached : (n : ℕ) (value : NonEmptyValue) → (e.cached n ≡ Some value) ⊎ (has_arrived arrivals n ≡ true)
          → (e.cached n ≡ Some value) ⊎ (has_arrived (arrivals ++ arrival ∷ []) n ≡ true)
      by_cached n value (inl c) = inl c
      by_cached n value (inr c) = inr (arrived-before arrivals (arrival ∷ []) n c)

  -- an outcome that was proposed is that of no body which is to be executed
  outcome-late : (n : ℕ) (value : NonEmptyValue) → Among (n, value) proposed → (body : Body) → Among body e.left → completes body.completion (completion n (result_of_value value)) ≡ false
  outcome-late n value a body b = by_test (n == body.completion) refl
    where
      by_test : (t : Bool) → (n == body.completion) ≡ t → t ≡ false
      by_test true f =
          let same : n ≡ body.completion = eqb-true n body.completion f in
          let here : 1 ≤ count_bodies body.completion e.left = count-among body e.left b in
          let there : 1 ≤ count_proposed body.completion proposed = subst (λ (k : ℕ). 1 ≤ count_proposed k proposed) same (proposed-among n value proposed a) in
          let few : count_bodies body.completion e.left + count_bodies body.completion e.executing + count_proposed body.completion proposed ≤ 1 = stand.once body.completion in
          absurd (omega (arith, here, there, few))
      by_test false f = refl

  pub body_comes : (n : ℕ) (value : NonEmptyValue) → acknowledges version ≡ true → Among (n, value) proposed → has_arrived arrivals n ≡ false
      → (e.cached n ≡ Some value) × BodiesStand version steps (arrivals ++ completion n (result_of_value value) ∷ []) proposed (reads_outcome e n value)
  body_comes n value is a unknown = (
    by_cached (stand.cached is n value a),
    arrives version steps arrivals (completion n (result_of_value value)) proposed e (reads_outcome e n value) refl refl (outcome-late n value a)
        (λ ack k other b d. caches k other d) no_more stand,
  )
    where
      by_cached : (e.cached n ≡ Some value) ⊎ (has_arrived arrivals n ≡ true) → e.cached n ≡ Some value
      by_cached (inl c) = c
      by_cached (inr come) = let wrong : false ≡ true = sym unknown ∙ come in cc

      caches : (k : ℕ) (other : NonEmptyValue) → (e.cached k ≡ Some other) ⊎ (has_arrived arrivals k ≡ true)
          → ((if k == n then None else e.cached k) ≡ Some other) ⊎ (has_arrived (arrivals ++ completion n (result_of_value value) ∷ []) k ≡ true)
      caches k other (inr c) = inr (arrived-before arrivals (completion n (result_of_value value) ∷ []) k c)
      caches k other (inl c) = by_test (k == n) refl
        where
          by_test : (t : Bool) → (k == n) ≡ t → ((if t then None else e.cached k) ≡ Some other) ⊎ (has_arrived (arrivals ++ completion n (result_of_value value) ∷ []) k ≡ true)
          by_test true f = inr (arrived-now arrivals (completion n (result_of_value value)) k (eq-eqb n k (sym (eqb-true k n f))))
          by_test false f = inl c

      no_more : (k : ℕ) (other : NonEmptyValue) → (if k == n then None else e.cached k) ≡ Some other → e.cached k ≡ Some other
      no_more k other c = by_test (k == n) c
        where
          by_test : (t : Bool) → (if t then None else e.cached k) ≡ Some other → e.cached k ≡ Some other
          by_test true c = cc
          by_test false c = c

  -- a body that is kept is counted, and fewer are where it is let go of
  kept-count : (body : Body) → Among body e.left ⊎ Among body e.executing → 1 ≤ count_bodies body.completion e.left + count_bodies body.completion e.executing
  kept-count body (inl a) = let h : 1 ≤ count_bodies body.completion e.left = count-among body e.left a in omega (arith, h)
  kept-count body (inr a) = let h : 1 ≤ count_bodies body.completion e.executing = count-among body e.executing a in omega (arith, h)

  gone-count : (body : Body) → Among body e.left ⊎ Among body e.executing → (n : ℕ)
      → count_bodies n (without_body body e.left) + count_bodies n (without_body body e.executing) + one_if (body.completion == n) ≤ count_bodies n e.left + count_bodies n e.executing
  gone-count body (inl a) n =
      let left : count_bodies n (without_body body e.left) + one_if (body.completion == n) ≤ count_bodies n e.left = count-removed n body e.left a in
      let executing : count_bodies n (without_body body e.executing) ≤ count_bodies n e.executing = count-without n body e.executing in
      omega (arith, left, executing)
  gone-count body (inr a) n =
      let left : count_bodies n (without_body body e.left) ≤ count_bodies n e.left = count-without n body e.left in
      let executing : count_bodies n (without_body body e.executing) + one_if (body.completion == n) ≤ count_bodies n e.executing = count-removed n body e.executing a in
      omega (arith, left, executing)

  kept-called : (body : Body) → Among body e.left ⊎ Among body e.executing → Among body (bodies_of steps)
  kept-called body (inl a) = stand.called body a
  kept-called body (inr a) = stand.executing_called body a

  pub body_proposes : (body : Body) (value : NonEmptyValue) → Among body e.left ⊎ Among body e.executing → BodiesStand version steps arrivals (proposed ++ (body.completion, value) ∷ []) (proposing version e body value)
  body_proposes body value a = record {
    once = λ n. (let h = stand.once n in omega (arith, fewer n, h));
    none_above = λ n high. (let h = stand.none_above n high in omega (arith, fewer n, h));
    called = λ x b. stand.called x (among-without body e.left x b);
    not_come = λ x b. stand.not_come x (among-without body e.left x b);
    ascending = ascends-without body e.left stand.ascending;
    executing_called = λ x b. stand.executing_called x (among-without body e.executing x b);
    proposed_called = λ n other b. by_proposed n other (among-split (n, other) proposed ((body.completion, value) ∷ []) b);
    kept = λ x b. by_kept x (stand.kept x b);
    cached = λ is n other b. by_cached is n other (among-split (n, other) proposed ((body.completion, value) ∷ []) b);
    cached_alone = λ n other c. by_alone n other (acknowledges version) refl (n == body.completion) refl c;
  }
    where
      more : List (ℕ × NonEmptyValue)
      more = proposed ++ (body.completion, value) ∷ []

      fewer : (n : ℕ) → count_bodies n (without_body body e.left) + count_bodies n (without_body body e.executing) + count_proposed n (proposed ++ (body.completion, value) ∷ [])
          ≤ count_bodies n e.left + count_bodies n e.executing + count_proposed n proposed
      fewer n =
          let gone = gone-count body a n in
          let split : count_proposed n (proposed ++ (body.completion, value) ∷ []) ≡ count_proposed n proposed + (one_if (body.completion == n) + 0) = proposed-append n proposed ((body.completion, value) ∷ []) in
          omega (arith, gone, split)

      is-proposed : (x : Body) → body ≡ x → 1 ≤ count_proposed x.completion (proposed ++ (body.completion, value) ∷ [])
      is-proposed x same =
          let one : one_if (body.completion == x.completion) ≡ 1 = one-same body.completion x.completion (ap (λ (some : Body). some.completion) same) in
          let split : count_proposed x.completion (proposed ++ (body.completion, value) ∷ []) ≡ count_proposed x.completion proposed + (one_if (body.completion == x.completion) + 0) =
          proposed-append x.completion proposed ((body.completion, value) ∷ []) in
          omega (arith, one, split)

      by_kept : (x : Body) → (has_arrived arrivals x.completion ≡ true) ⊎ (Among x e.left ⊎ WasExecuted proposed e x)
          → (has_arrived arrivals x.completion ≡ true) ⊎ (Among x (without_body body e.left) ⊎ (Among x (without_body body e.executing) ⊎ (1 ≤ count_proposed x.completion (proposed ++ (body.completion, value) ∷ []))))
      by_kept x (inl come) = inl come
      by_kept x (inr (inl b)) = elim (among-kept body e.left x b) [ inl same ↦ inr (inr (inr (is-proposed x same))) | inr c ↦ inr (inl c) ]
      by_kept x (inr (inr (inl b))) = elim (among-kept body e.executing x b) [ inl same ↦ inr (inr (inr (is-proposed x same))) | inr c ↦ inr (inr (inl c)) ]
      by_kept x (inr (inr (inr h))) =
          let split : count_proposed x.completion (proposed ++ (body.completion, value) ∷ []) ≡ count_proposed x.completion proposed + count_proposed x.completion ((body.completion, value) ∷ []) =
          proposed-append x.completion proposed ((body.completion, value) ∷ []) in
          inr (inr (inr (omega (arith, split, h))))

      by_proposed : (n : ℕ) (other : NonEmptyValue) → Among (outcome n other) proposed ⊎ Among (outcome n other) (outcome body.completion value ∷ [])
          → (x : Body) × Among x (bodies_of steps) × (x.completion ≡ n)
      by_proposed n other (inl b) = stand.proposed_called n other b
      by_proposed n other (inr (inl same)) = (body, kept-called body a, ap (λ (one : ℕ × NonEmptyValue). one.0) (sym same))
      by_proposed n other (inr (inr b)) = absurd b

      by_cached : acknowledges version ≡ true → (n : ℕ) (other : NonEmptyValue) → Among (outcome n other) proposed ⊎ Among (outcome n other) (outcome body.completion value ∷ [])
          → ((if acknowledges version && (n == body.completion) then Some value else e.cached n) ≡ Some other) ⊎ (has_arrived arrivals n ≡ true)
      by_cached is n other (inl b) = by_test (n == body.completion) refl
        where
          by_test : (t : Bool) → (n == body.completion) ≡ t → ((if acknowledges version && t then Some value else e.cached n) ≡ Some other) ⊎ (has_arrived arrivals n ≡ true)
          by_test true f =
              let same : n ≡ body.completion = eqb-true n body.completion f in
              let here = kept-count body a in
              let there : 1 ≤ count_proposed body.completion proposed = subst (λ (k : ℕ). 1 ≤ count_proposed k proposed) same (proposed-among n other proposed b) in
              let few : count_bodies body.completion e.left + count_bodies body.completion e.executing + count_proposed body.completion proposed ≤ 1 = stand.once body.completion in
              absurd (omega (arith, here, there, few))
          by_test false f = subst (λ (t : Bool). ((if t && false then Some value else e.cached n) ≡ Some other) ⊎ (has_arrived arrivals n ≡ true)) (sym is) (stand.cached is n other b)
      by_cached is n other (inr (inl same)) =
          let number : n ≡ body.completion = ap (λ (one : ℕ × NonEmptyValue). one.0) same in
          let result : other ≡ value = ap (λ (one : ℕ × NonEmptyValue). one.1) same in
          inl (ap₂ (λ (s t : Bool). if s && t then Some value else e.cached n) is (eq-eqb n body.completion number) ∙ ap Some (sym result))
      by_cached is n other (inr (inr b)) = absurd b

      -- what was cached before was proposed before
      before : (n : ℕ) (other : NonEmptyValue) → e.cached n ≡ Some other → (acknowledges version ≡ true) × Among (outcome n other) (proposed ++ outcome body.completion value ∷ [])
      before n other c = let (ack, b) = stand.cached_alone n other c in (ack, among-left (outcome n other) proposed (outcome body.completion value ∷ []) b)

      by_alone : (n : ℕ) (other : NonEmptyValue) (s : Bool) → acknowledges version ≡ s → (t : Bool) → (n == body.completion) ≡ t → (if s && t then Some value else e.cached n) ≡ Some other
          → (acknowledges version ≡ true) × Among (outcome n other) (proposed ++ outcome body.completion value ∷ [])
      by_alone n other true is true f c =
          let same : value ≡ other = cc in
          (is, among-right (outcome n other) proposed (outcome body.completion value ∷ []) (inl (ap₂ outcome (eqb-true n body.completion f) (sym same))))
      by_alone n other true is false f c = before n other c
      by_alone n other false is t f c = before n other c

module _ (handler : Handler) (given : Invocation) (journal : List Request) (arrivals : List Arrival) (calls : ℕ) (proposed : List (ℕ × NonEmptyValue)) (e : Executor) where
  -- the machine reads it, and the bodies stand
  reads_with : (arrival : Arrival) (new : Executor) → new.machine ≡ with_arrival e.machine arrival → (at : StandsWithBodies handler given journal arrivals calls proposed e)
      → BodiesStand given.version at.stands.steps (arrivals ++ arrival ∷ []) proposed new
      → StandsWithBodies handler given journal (arrivals ++ arrival ∷ []) calls proposed new
  reads_with arrival new same at stand =
      by_stands (subst (λ (m : Machine). Stands handler given journal (arrivals ++ arrival ∷ []) calls m) (sym same) (reads_on handler given journal arrivals arrival calls e.machine at.stands))
    where
      by_stands : Stands handler given journal (arrivals ++ arrival ∷ []) calls new.machine → StandsWithBodies handler given journal (arrivals ++ arrival ∷ []) calls proposed new
      by_stands stands = record {
        stands = stands;
        bodies = with_steps given.version at.stands.steps stands.steps (arrivals ++ arrival ∷ []) proposed new
            (steps-same (run handler given (arrivals ++ arrival ∷ []) calls) at.stands.steps stands.steps
            (goes_same handler given journal arrivals arrival calls e.machine at.stands.steps at.stands.going ∙ at.stands.going) stands.going) stand;
      }

  pub reads : (arrival : Arrival) → is_early e arrival ≡ false → StandsWithBodies handler given journal arrivals calls proposed e
      → StandsWithBodies handler given journal (arrivals ++ arrival ∷ []) calls proposed (reads_arrival e arrival)
  reads arrival late at =
      reads_with arrival (reads_arrival e arrival) refl at (body_reads given.version at.stands.steps arrivals proposed e at.bodies arrival late)

  -- ---- an outcome that was proposed comes

  own-arrival : (n : ℕ) (result : NotificationResult) → length (results_for (completion n result ∷ []) (CompletionId n)) ≡ 1
  own-arrival n result = rw (eq-eqb n n refl) refl

  -- it has not come before
  only-once : (n : ℕ) (result : NotificationResult) → ComesOnce handler given (arrivals ++ completion n result ∷ []) → has_arrived arrivals n ≡ true → ⊥
  only-once n result once come =
      let few : length (results_for (arrivals ++ completion n result ∷ []) (CompletionId n)) ≤ 1 = once 0 n in
      let split : length (results_for (arrivals ++ completion n result ∷ []) (CompletionId n)) ≡ length (results_for arrivals (CompletionId n)) + length (results_for (completion n result ∷ []) (CompletionId n)) =
      ap length (results-append arrivals (completion n result ∷ []) (CompletionId n)) ∙ length-append (results_for arrivals (CompletionId n)) (results_for (completion n result ∷ []) (CompletionId n)) in
      let before : 1 ≤ length (results_for arrivals (CompletionId n)) = arrived-once arrivals n come in
      let own : length (results_for (completion n result ∷ []) (CompletionId n)) ≡ 1 = own-arrival n result in
      omega (arith, few, split, before, own)

  pub comes : (n : ℕ) (value : NonEmptyValue) → acknowledges given.version ≡ true → Among (n, value) proposed → ComesOnce handler given (arrivals ++ completion n (result_of_value value) ∷ [])
      → StandsWithBodies handler given journal arrivals calls proposed e → ComesAsCached handler given journal arrivals calls proposed e n value
  comes n value is a once at =
      let (cached, stand) = body_comes given.version at.stands.steps arrivals proposed e at.bodies n value is a (by_come (has_arrived arrivals n) refl) in
      record { told = ap (option_map (reads_outcome e n)) cached; stands = reads_with (completion n (result_of_value value)) (reads_outcome e n value) refl at stand }
    where
      by_come : (b : Bool) → has_arrived arrivals n ≡ b → b ≡ false
      by_come true come = absurd (only-once n (result_of_value value) once come)
      by_come false come = refl

  -- what was not proposed is not cached
  pub others_refused : (n : ℕ) → ((value : NonEmptyValue) → acknowledges given.version ≡ true → Among (n, value) proposed → ⊥) → StandsWithBodies handler given journal arrivals calls proposed e
      → after_acknowledgement e n ≡ None
  others_refused n none at = by_cached (e.cached n) refl
    where
      by_cached : (found : Option NonEmptyValue) → e.cached n ≡ found → option_map (reads_outcome e n) found ≡ None
      by_cached None is = refl
      by_cached (Some value) is = let (ack, among) = at.bodies.cached_alone n value is in absurd (none value ack among)

  -- ---- an outcome is proposed

  pub proposes : (body : Body) (value : NonEmptyValue) → Among body e.left ⊎ Among body e.executing → StandsWithBodies handler given journal arrivals calls proposed e
      → StandsWithBodies handler given journal arrivals calls (proposed ++ (body.completion, value) ∷ []) (proposing given.version e body value)
  proposes body value a at = record { stands = at.stands; bodies = body_proposes given.version at.stands.steps arrivals proposed e at.bodies body value a }

  -- ---- the bodies are requested

  pub are_requested : (at : StandsWithBodies handler given journal arrivals calls proposed e) (body : Body) → Among body (bodies_of at.stands.steps)
      → (name : List ℕ) × Among (Request.Run body.completion name) (run_requests handler given arrivals calls)
  are_requested at body a =
      let same : at.stands.steps ≡ (run handler given arrivals calls).steps = ap (λ (p : Progress). p.steps) (sym at.stands.going) in
      requested-run handler given arrivals calls body (subst (λ (steps : List Step). Among body (bodies_of steps)) same a)
