-- The bodies of an attempt's runs at a turn: what the reply to its handler's call makes of them.
use Rattle.std.proofs.Common.{map, ◌≡◌, ◌⊎◌, inl, inr, ◌∙◌, ℕ, suc, ◌<◌, ◌≤◌, ◌^◌, arith, Bool, true, false, cond, if◌then◌else◌, List, [], ◌∷◌, ◌++◌, Option, Some, None, option_map, refl, sym, ap, subst}
use Rattle.std.specs.List.{list_all, list_any}
use Rattle.std.specs.Ordering.{nat_cmp}
use Rattle.std.specs.BTreeMap.{is_at}
use Rattle.std.specs.Str.{is_utf8}
use Rattle.attempt_model.specs.Results.{slot_of}
use Rattle.journal_model.specs.AwaitTree.{Single}
use Rattle.journal_model.specs.Future.{tree_of}
use Rattle.journal_model.specs.History.{stands_for}
use Rattle.journal_model.specs.declared.future.UnresolvedFuture.{UnresolvedFuture}
use Rattle.journal_model.specs.declared.notification.NotificationId.TheVariants.{CompletionId}
use Rattle.attempt_laws.proofs.Coming.{all-back}
use Rattle.body_laws.specs.Bodies.{ExecutorReply, handing_out, executes_or_awaits, reply_after, executor_reply, body_awaited, bodies_left, proposing}
use Rattle.body_laws.specs.BodySimulation.{StandsWithBodies, RepliesWithBodies, ExecutesBody, WaitsWithBodies, WaitsForChildWithBodies, WasExecuted}
use Rattle.body_laws.proofs.Calling.{calls_simulate}
use Rattle.body_laws.proofs.BodySimulation.{with_steps, with_machine}
use Rattle.body_laws.proofs.Steps.{bodies-below}
use Rattle.body_laws.proofs.Untaken.{body-stands}
use Rattle.vm_commands.proofs.Comparing.{compares_reflexively}
use Rattle.vm_outcomes.specs.Runs.{KeepsBodiesOf}
use Rattle.vm_progress.specs.AwaitedRuns.{LooksForRun, run_for, is_executing_for}
use Rattle.vm_runs.specs.KeptBodies.{HandsOut}
use Rattle.vm_runs.specs.Runs.{Table, is_so, bodies_in, body_of, started, run_handed_out}
use Rattle.vm_runs.proofs.KeptBodies.{among-same, any-same}
use Rattle.vm_runs.proofs.Ordered.{at-not}
use Rattle.vm_runs.proofs.Tables.{running, stands-found}
use Rattle.vm_waiting.specs.WaitsFor.{waits_as}
use Rattle.vm_waiting.specs.declared.waits_for.WaitsFor.{WaitsFor}
use Rattle.vm_waiting.specs.declared.waits_for.WaitsFor.TheVariants.{Future, Child}
use Rattle.vm_attempt_laws.specs.Bodies.{NonEmptyValue, Body, Executor, has_handle, bodies_of, Among, has_arrived, IsReplayed, outcome_frame, TurnsReplayed, ReplaysTurn, KeepsBodies, IsNew, Runs, run_at, Run}
use Rattle.vm_attempt_laws.specs.Machine.{checks_off, MachineState}
use Rattle.vm_attempt_laws.specs.BodyExecution.{IsToExecute, WaitsForOthers, ExecutesFirst}
use Rattle.vm_attempt_laws.specs.Words.{Version, Answer, Call, Request, Handler, Progress, Step, next_completion, run, keys_of, arrivals_carried, requests_carried, are_by_text, Frame, Machine, next_slot, Reply, Answered, AttemptInRun, HasReadJournal, after_turn, VMOptions, Queued, SendsReply}
use Rattle.vm_attempt_laws.proofs.Bodies.{keeps_with, next_is_new}
use Rattle.vm_attempt_laws.proofs.Now.{Now, compares, call_of, reply_at}

-- ---- the run of a handle

-- one is kept of each body
there : (executing : Bool) (table : Table) (body : Body) → Among body (bodies_in executing table) → run_at table body.handle ≡ None → ⊥
there executing [] body a none = a
there executing (entry ∷ entries) body a none =
    by_test (is_at (nat_cmp body.handle) entry.0) refl none (λ a g. there executing entries body a g)
  where
    by_flag : (b : Bool) → (body.handle ≡ entry.0 → ⊥) → run_at entries body.handle ≡ None → (Among body (bodies_in executing entries) → run_at entries body.handle ≡ None → ⊥)
        → Among body (if b then body_of entry.0 entry.1 ∷ bodies_in executing entries else bodies_in executing entries) → ⊥
    by_flag true apart gone later (inl same) = apart (ap (λ (one : Body). one.handle) same)
    by_flag true apart gone later (inr a) = later a gone
    by_flag false apart gone later a = later a gone

    by_test : (t : Bool) → is_at (nat_cmp body.handle) entry.0 ≡ t → cond t (Some entry.1) (run_at entries body.handle) ≡ None
        → (Among body (bodies_in executing entries) → run_at entries body.handle ≡ None → ⊥) → ⊥
    by_test true is gone later = cc
    by_test false is gone later = by_flag (is_so executing entry.1) (at-not body.handle entry.0 is) gone later a

-- one that was handed out was kept before
started_back : (handle : ℕ) (table : Table) (run : Run) → run_at (started handle table) handle ≡ Some run → (was : Run) × (run_at table handle ≡ Some was) × (run ≡ running was)
started_back handle [] run found = cc
started_back handle (entry ∷ entries) run found = by_test (is_at (nat_cmp handle) entry.0) refl found (λ g. started_back handle entries run g)
  where
    by_test : (t : Bool) → is_at (nat_cmp handle) entry.0 ≡ t → run_at (if t then (entry.0, running entry.1) ∷ entries else entry ∷ started handle entries) handle ≡ Some run
        → (run_at (started handle entries) handle ≡ Some run → (was : Run) × (run_at entries handle ≡ Some was) × (run ≡ running was))
        → (was : Run) × (cond t (Some entry.1) (run_at entries handle) ≡ Some was) × (run ≡ running was)
    by_test true is g later =
        let same : Some (running entry.1) ≡ Some run = subst (λ (t : Bool). cond t (Some (running entry.1)) (run_at entries handle) ≡ Some run) is g in
        (entry.1, refl, some_of (running entry.1) same)
      where
        some_of : (one : Run) → ◌≡◌ {A = Option Run} (Some one) (Some run) → run ≡ one
        some_of one e = cc
    by_test false is g later = later (subst (λ (t : Bool). cond t (Some entry.1) (run_at (started handle entries) handle) ≡ Some run) is g)

-- ---- where none is awaited

no_body : (found : Option Body) → option_map (λ (body : Body). body.handle) found ≡ None → found ≡ None
no_body None e = refl
no_body (Some body) e = cc

-- what is to be known of the bodies at a turn
pub record WithBodies (next : Handler) (version : Version) (options : VMOptions) (is_closed : Bool) (live : AttemptInRun) (vm : MachineState) (n : Now next version options is_closed live vm)
    (proposed : List (ℕ × NonEmptyValue)) (e : Executor) : Type 0 where
  pub says : RepliesWithBodies next live.start.given (requests_carried live.read) (arrivals_carried live.read) live.calls proposed
      (reply_after (record e { machine = live.machine }) (call_of next live n.at) (reply_at next live vm n.at))
  pub lives : TurnsReplayed next live proposed (reply_after (record e { machine = live.machine }) (call_of next live n.at) (reply_at next live vm n.at))
  pub idle : e.executing ≡ []
  pub keeps : KeepsBodies vm.runs e
  pub is_new : IsNew (next_slot live.machine) e
  pub behind : (proposed ≡ []) ⊎ (live.machine.left ≡ [])

-- a body that is executed: it is the first that is, and its outcome keeps the attempt live
pub record ExecutesSo (next : Handler) (version : Version) (options : VMOptions) (is_closed : Bool) (live : AttemptInRun) (vm : MachineState) (proposed : List (ℕ × NonEmptyValue)) (handle : ℕ) (whole : Machine)
    (new : Runs) : Type 0 where
  pub body : Body
  pub handle_is : body.handle ≡ handle
  pub first : ExecutesFirst next live.start.given (arrivals_carried live.read) live.calls (requests_carried live.read ++ live.machine.written) proposed body
  pub out : Executor
  pub keeps : KeepsBodies new out
  pub lives : (value : NonEmptyValue) → IsReplayed next
      (after_turn live (outcome_frame live.start.given.version body.completion value ∷ []) live.calls whole) (proposed ++ (body.completion, value) ∷ []) (proposing live.start.given.version out body value)
  pub short : body.completion < 2 ^ 32
  -- its outcome was not taken
  pub stands : slot_of whole.slots handle ≡ Some (CompletionId body.completion)
  -- what is kept of it, before it was handed out and then
  pub run : Run
  pub kept : run_at vm.runs.table body.handle ≡ Some run
  pub found : run_at new.table handle ≡ Some (running run)
  pub completion : run.completion ≡ body.completion

module _ (next : Handler) (version : Version) (options : VMOptions) (is_closed : Bool) (live : AttemptInRun) (vm : MachineState) (n : Now next version options is_closed live vm)
    (proposed : List (ℕ × NonEmptyValue)) (e : Executor) where
  abbrev own : Executor
  own = record e { machine = live.machine }

  abbrev call : Call
  call = call_of next live n.at

  abbrev Says : ExecutorReply → Type 0
  Says = RepliesWithBodies next live.start.given (requests_carried live.read) (arrivals_carried live.read) live.calls proposed

  abbrev Lives : ExecutorReply → Type 0
  Lives = TurnsReplayed next live proposed

  abbrev IsLive : AttemptInRun → List (ℕ × NonEmptyValue) → Executor → Type 0
  IsLive = IsReplayed next

  -- ---- the bodies stand

  module _ (turns : ReplaysTurn) (queued : live.start.given.options.signal_delivery ≡ Queued) (started_is : live.bytes ≡ live.held) (journal : HasReadJournal live)
      (x : IsLive live proposed e) where
    abbrev whole_stands : StandsWithBodies next live.start.given (requests_carried live.read) (arrivals_carried live.read) live.calls proposed own
    whole_stands = record {
      stands = n.at.stands;
      bodies = with_machine live.start.given.version n.at.stands.steps (arrivals_carried live.read) proposed e live.machine
          (with_steps live.start.given.version (run next live.start.given (arrivals_carried live.read) live.calls).steps n.at.stands.steps (arrivals_carried live.read) proposed e
          (ap (λ (p : Progress). p.steps) n.at.stands.going) x.bodies);
    }

    pub with_bodies : KeepsBodies vm.runs e → (proposed ≡ []) ⊎ (live.machine.left ≡ []) → WithBodies next version options is_closed live vm n proposed e
    with_bodies keeps behind = record {
      says = calls_simulate (compares vm) next live.start.given (requests_carried live.read) (arrivals_carried live.read) live.calls proposed own
          (compares_reflexively (checks_off vm.options.non_determinism_checks)) n.fits n.kinds whole_stands;
      lives = subst (λ (some : Executor). Lives (executor_reply (compares vm) live.start.given some call)) (ap (λ (m : Machine). record e { machine = m }) x.machine)
          (turns (compares vm) next live proposed e (compares_reflexively (checks_off vm.options.non_determinism_checks)) queued x
          started_is journal n.at);
      idle = x.idle;
      keeps = keeps;
      is_new = next_is_new next live proposed e x n.at;
      behind = behind;
    }

  module _ (w : WithBodies next version options is_closed live vm n proposed e) where
    -- ---- it is answered

    pub answered_lives : (answer : Answer) (after : Machine) → reply_at next live vm n.at ≡ Answered answer after → (frames : List Frame)
        → SendsReply live.start.given.version is_closed live.machine (Answered answer after) frames → are_by_text after.written ≡ true
        → IsLive (after_turn live frames (suc live.calls) after) proposed (record { machine = after; left = e.left ++ bodies_left live.machine call; executing = e.executing; cached = e.cached })
    answered_lives answer after is frames sends texts =
        subst (λ (some : List Frame). IsLive (after_turn live some (suc live.calls) after) proposed (record { machine = after; left = e.left ++ bodies_left live.machine call; executing = e.executing; cached = e.cached })) (sym sends.2)
        (subst (λ (reply : Reply). Lives (reply_after own call reply)) is w.lives (map Frame.Command sends.0) sends.0 sends.1
        (all-back (λ request. list_all is_utf8 (keys_of request)) live.machine.written sends.0 (ap are_by_text (sym sends.1) ∙ texts)))

    pub answered_keeps : (after : Machine) (new : Runs) → KeepsBodiesOf live.machine call vm.runs new
        → KeepsBodies new (record { machine = after; left = e.left ++ bodies_left live.machine call; executing = e.executing; cached = e.cached })
    answered_keeps after new keeps = keeps_with new (record e { left = e.left ++ bodies_left live.machine call }) after (keeps e w.keeps w.is_new)

    -- ---- it waits

    -- between turns nothing is being executed
    pub none_executing : (waits : WaitsFor) → is_executing_for waits vm.runs ≡ false
    none_executing (Future left) =
        any-same (λ body. has_handle body.handle (tree_of left)) (bodies_in true vm.runs.table) e.executing w.keeps.executing ∙ ap (list_any (λ body. has_handle body.handle (tree_of left))) w.idle
    none_executing (Child child) = refl

    none_awaited : (left : UnresolvedFuture) → run_for (Future left) vm.runs ≡ None → body_awaited (tree_of left) e.left ≡ None
    none_awaited left none = ap (body_awaited (tree_of left)) (sym w.keeps.left) ∙ no_body (body_awaited (tree_of left) (bodies_in false vm.runs.table)) none

    pub waits_live : (waits : WaitsFor) (whole : Machine) → reply_at next live vm n.at ≡ waits_as waits whole → run_for waits vm.runs ≡ None → (frames : List Frame)
        → SendsReply live.start.given.version is_closed live.machine (waits_as waits whole) frames → IsLive (after_turn live frames live.calls whole) proposed (record e { machine = whole })
    waits_live (Future left) whole is none frames sends =
        subst (λ (first : Option Body). Lives (executes_or_awaits (tree_of left) (record e { machine = whole }) first)) (none_awaited left none)
        (subst (λ (reply : Reply). Lives (reply_after own call reply)) is w.lives) frames
    waits_live (Child child) whole is none frames sends = subst (λ (reply : Reply). Lives (reply_after own call reply)) is w.lives frames

    -- a body that was executed has proposed its outcome
    executed_before : (body : Body) (some : Executor) → some.executing ≡ [] → IsToExecute next live.start.given (arrivals_carried live.read) live.calls proposed body
        → (has_arrived (arrivals_carried live.read) body.completion ≡ true) ⊎ WasExecuted proposed some body → ⊥
    executed_before body some idle to (inl come) = let wrong : true ≡ false = sym come ∙ to.not_come in cc
    executed_before body some idle to (inr (inl executing)) = subst (Among body) idle executing
    executed_before body some idle to (inr (inr many)) = omega (arith, many, to.not_proposed)

    pub waits_others : (waits : WaitsFor) (whole : Machine) → reply_at next live vm n.at ≡ waits_as waits whole → run_for waits vm.runs ≡ None → whole.written ≡ live.machine.written
        → WaitsForOthers next live.start.given (arrivals_carried live.read) live.calls (requests_carried live.read ++ live.machine.written) proposed
    waits_others (Future left) whole is none same = of_tree
        (subst (λ (first : Option Body). Says (executes_or_awaits (tree_of left) (record e { machine = whole }) first)) (none_awaited left none) (subst (λ (reply : Reply). Says (reply_after own call reply)) is w.says))
      where
        of_tree : WaitsWithBodies next live.start.given (requests_carried live.read) (arrivals_carried live.read) live.calls proposed (tree_of left) (record e { machine = whole })
            → WaitsForOthers next live.start.given (arrivals_carried live.read) live.calls (requests_carried live.read ++ live.machine.written) proposed
        of_tree b = record {
          awaited = b.waits.ids;
          waits = record { over = b.waits.waits; exactly = b.waits.exactly ∙ ap (λ (written : List Request). requests_carried live.read ++ written) same };
          none = inl (tree_of left, b.waits.rest, λ body to. by_test body to (has_handle body.handle (tree_of left)) refl);
        }
          where
            by_test : (body : Body) → IsToExecute next live.start.given (arrivals_carried live.read) live.calls proposed body → (t : Bool) → has_handle body.handle (tree_of left) ≡ t → t ≡ false
            by_test body to true has =
                absurd (executed_before body (record e { machine = whole }) w.idle to
                (b.none_left body (subst (λ (p : Progress). Among body (bodies_of p.steps)) b.waits.stands.going to.called) has))
            by_test body to false has = refl
    waits_others (Child child) whole is none same = of_child (subst (λ (reply : Reply). Says (reply_after own call reply)) is w.says)
      where
        of_child : WaitsForChildWithBodies next live.start.given (requests_carried live.read) (arrivals_carried live.read) live.calls proposed child (record e { machine = whole })
            → WaitsForOthers next live.start.given (arrivals_carried live.read) live.calls (requests_carried live.read ++ live.machine.written) proposed
        of_child b = record {
          awaited = Single (Some (CompletionId child));
          waits = record { over = b.waits.waits; exactly = b.waits.exactly ∙ ap (λ (written : List Request). requests_carried live.read ++ written) same };
          none = inr (child, refl, λ body called. b.no_body body (subst (λ (p : Progress). Among body (bodies_of p.steps)) b.waits.stands.going called));
        }

    -- ---- it executes a body

    module _ (whole : Machine) (same : whole.written ≡ live.machine.written) (body : Body) (new : Runs)
        (b : ExecutesBody next live.start.given (requests_carried live.read) (arrivals_carried live.read) live.calls proposed body (handing_out (record e { machine = whole }) body)) where
      one_executing : e.executing ++ body ∷ [] ≡ body ∷ []
      one_executing = ap (λ (some : List Body). some ++ body ∷ []) w.idle

      the_one : (other : Body) → Among other (e.executing ++ body ∷ []) → other ≡ body
      the_one other a = elim (subst (Among other) one_executing a) [ inl is ↦ is | inr none ↦ absurd none ]

      -- what the run waits for has it first
      is_first : ExecutesFirst next live.start.given (arrivals_carried live.read) live.calls (requests_carried live.read ++ live.machine.written) proposed body
      is_first = record {
        awaited = b.waits.ids;
        waits = record { over = b.waits.waits; exactly = b.waits.exactly ∙ ap (λ (written : List Request). requests_carried live.read ++ written) same };
        left = b.tree;
        is_left = b.waits.rest;
        to_execute = record { called = subst (λ (p : Progress). Among body (bodies_of p.steps)) (sym b.waits.stands.going) b.called; not_come = b.not_come; not_proposed = b.not_proposed };
        has = b.awaited;
        least = λ other to has. no_less other to has (b.bodies.kept other (subst (λ (p : Progress). Among other (bodies_of p.steps)) b.waits.stands.going to.called));
      }
        where
          no_less : (other : Body) → IsToExecute next live.start.given (arrivals_carried live.read) live.calls proposed other → has_handle other.handle b.tree ≡ true
              → (has_arrived (arrivals_carried live.read) other.completion ≡ true) ⊎ (Among other (handing_out (record e { machine = whole }) body).left ⊎ WasExecuted proposed (handing_out (record e { machine = whole }) body) other)
              → body.handle ≤ other.handle
          no_less other to has (inl come) = let wrong : true ≡ false = sym come ∙ to.not_come in cc
          no_less other to has (inr (inl left)) = let low = b.least other left has in omega (arith, low)
          no_less other to has (inr (inr (inl executing))) = let is : other.handle ≡ body.handle = ap (λ (one : Body). one.handle) (the_one other executing) in omega (arith, is)
          no_less other to has (inr (inr (inr many))) = absurd (omega (arith, many, to.not_proposed))

      completion_short : body.completion < 2 ^ 32
      completion_short = low (subst (λ (steps : List Step). body.completion < next_completion steps) (ap (λ (p : Progress). p.steps) (sym b.waits.stands.going ∙ n.at.stands.going)) (bodies-below b.waits.stands.steps body b.called))
        where
          low : body.completion < next_completion n.at.stands.steps → body.completion < 2 ^ 32
          low below = let is = n.at.stands.completions in let few = n.numbers.completions in omega (arith, below, is, few)

      -- its handle stands for its completion still
      body_slot : (handle : ℕ) → body.handle ≡ handle → slot_of whole.slots handle ≡ Some (CompletionId body.completion)
      body_slot handle same_handle =
          subst (λ (h : ℕ). slot_of whole.slots h ≡ Some (CompletionId body.completion)) same_handle
          (b.waits.stands.tables.handles body.handle
          ∙ ap (λ (p : Progress). stands_for p.steps body.handle) (sym b.waits.stands.going)
          ∙ body-stands next live.start.given (arrivals_carried live.read) live.calls body (subst (λ (p : Progress). Among body (bodies_of p.steps)) (sym b.waits.stands.going) b.called) b.not_come)

      -- the run that is found is that of the body
      run_found : KeepsBodies new (handing_out (record e { machine = whole }) body) → (run : Run) → run_at new.table body.handle ≡ Some run → run.completion ≡ body.completion
      run_found keeps run found = of_stand (stands-found body.handle new.table run found)
        where
          of_stand : Among (body_of body.handle run) (bodies_in false new.table) ⊎ Among (body_of body.handle run) (bodies_in true new.table) → run.completion ≡ body.completion
          of_stand (inl left) = let low = b.least (body_of body.handle run) (subst (Among (body_of body.handle run)) keeps.left left) b.awaited in absurd (omega (arith, low))
          of_stand (inr executing) =
              ap (λ (one : Body). one.completion) (the_one (body_of body.handle run) (among-same (bodies_in true new.table) (e.executing ++ body ∷ []) keeps.executing (body_of body.handle run) executing))

      none_lost : KeepsBodies new (handing_out (record e { machine = whole }) body) → run_at new.table body.handle ≡ None → ⊥
      none_lost keeps gone = there true new.table body (among-same (e.executing ++ body ∷ []) (bodies_in true new.table) (λ one. sym (keeps.executing one)) body b.executing) gone

      -- what was kept of it before
      pub record WasKept (handle : ℕ) : Type 0 where
        pub run : Run
        pub kept : run_at vm.runs.table body.handle ≡ Some run
        pub found : run_at new.table handle ≡ Some (running run)
        pub completion : run.completion ≡ body.completion

      was_kept : (handle : ℕ) → body.handle ≡ handle → new ≡ run_handed_out (Some handle) vm.runs → KeepsBodies new (handing_out (record e { machine = whole }) body) → WasKept handle
      was_kept handle same_handle is keeps = of_found (run_at new.table body.handle) refl
        where
          of_found : (found : Option Run) → run_at new.table body.handle ≡ found → WasKept handle
          of_found None gone = absurd (none_lost keeps gone)
          of_found (Some run) found =
              let (was, kept, running_is) = started_back handle vm.runs.table run
              (subst (λ (h : ℕ). run_at (started handle vm.runs.table) h ≡ Some run) same_handle (subst (λ (runs : Runs). run_at runs.table body.handle ≡ Some run) is found)) in
              record {
                run = was;
                kept = subst (λ (h : ℕ). run_at vm.runs.table h ≡ Some was) (sym same_handle) kept;
                found = subst (λ (one : Run). run_at new.table handle ≡ Some one) running_is (subst (λ (h : ℕ). run_at new.table h ≡ Some run) same_handle found);
                completion = ap (λ (one : Run). one.completion) (sym running_is) ∙ run_found keeps run found;
              }

    pub executes_so : (waits : WaitsFor) (whole : Machine) → reply_at next live vm n.at ≡ waits_as waits whole → whole.written ≡ live.machine.written → (handle : ℕ) (new : Runs) → LooksForRun waits vm.runs (Some handle) new
        → ExecutesSo next version options is_closed live vm proposed handle whole new
    executes_so (Child child) whole is same handle new looks = let wrong : Some handle ≡ None = looks.least in cc
    executes_so (Future left) whole is same handle new looks =
        of_first (body_awaited (tree_of left) e.left) (looks.bodies (record e { machine = whole }) (keeps_with vm.runs e whole w.keeps))
        (subst (λ (reply : Reply). Says (reply_after own call reply)) is w.says) (subst (λ (reply : Reply). Lives (reply_after own call reply)) is w.lives)
      where
        of_first : (first : Option Body) → HandsOut (executes_or_awaits (tree_of left) (record e { machine = whole }) first) (Some handle) new
            → Says (executes_or_awaits (tree_of left) (record e { machine = whole }) first) → Lives (executes_or_awaits (tree_of left) (record e { machine = whole }) first)
            → ExecutesSo next version options is_closed live vm proposed handle whole new
        of_first None hands says lives = absurd hands
        of_first (Some body) hands says lives =
            let was = was_kept whole same body new says handle hands.0 looks.left hands.1 in
            record {
              body = body;
              handle_is = hands.0;
              first = is_first whole same body new says;
              out = handing_out (record e { machine = whole }) body;
              keeps = hands.1;
              lives = λ value. lives (outcome_frame live.start.given.version body.completion value ∷ []) value;
              short = completion_short whole same body new says;
              stands = body_slot whole same body new says handle hands.0;
              run = was.run;
              kept = was.kept;
              found = was.found;
              completion = was.completion;
            }
