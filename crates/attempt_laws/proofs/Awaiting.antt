-- An await is answered as the run answers it, however often it was asked before.
use Rattle.std.proofs.Common.{map, ◌≡◌, refl, sym, ap, ◌∙◌, subst, ℕ, suc, ◌+◌, ◌-◌, ◌≤◌, ◌<◌, nat_lt, arith, le_refl, eq-or-lt_of_le, Bool, true, false, ◌&&◌, if◌then◌else◌, List, [], ◌∷◌, ◌++◌, length, Option, Some, None, is_some, ◌⊎◌, inl, inr}
use Rattle.std.proofs.lemmas.Bool.{ltb-false, ltb-true}
use Rattle.std.specs.List.{list_all}
use Rattle.journal_model.specs.declared.notification.NotificationId.{NotificationId}
use Rattle.journal_model.specs.declared.notification.NotificationId.TheVariants.{CompletionId}
use Rattle.journal_model.specs.declared.notification.NotificationResult.{NotificationResult}
use Rattle.journal_model.specs.Notification.{Arrival, cancel_id}
use Rattle.journal_model.specs.AwaitTree.{AwaitState, AwaitTree, Single, is_awake, map_leaves}
use Rattle.journal_model.specs.declared.call.Call.{Call}
use Rattle.journal_model.specs.declared.call.Answer.{Answer}
use Rattle.journal_model.specs.Request.{Request}
use Rattle.journal_model.specs.declared.options.ImplicitCancellationOption.{ImplicitCancellationOption}
use Rattle.journal_model.specs.Refusal.{refusal_of}
use Rattle.journal_model.specs.History.{Step, requests_of, place_of, next_completion, next_signal, stands_for}
use Rattle.journal_model.specs.Delivery.{results_for, known_results, known_result, front, leaf_state}
use Rattle.journal_model.specs.Await.{ends_awaits, awaited_tree, awaited_ids, is_awake_at, awake_place, is_cancelled_at, child_of, children_after, tracked_children, all_known_at, first_unknown, child_id, cancel_requests, children_place, AwaitOutcome, WaitsFor, WokenAt, CancelledAt, cancellation_outcome, outcome_from, await_outcome}
use Rattle.journal_model.specs.PrunedTrees.{pruned}
use Rattle.journal_model.specs.Run.{Handler, Invocation, Progress, Ending, GoesOn, Waits, Awaits, after_await, after_call, run, run_requests, is_going}
use Rattle.journal_model.proofs.Continuing.{after_call-carried_out}
use Rattle.attempt_laws.proofs.Answering as Answering
use Rattle.attempt_model.specs.Children.{Child, cancel_requests_for, ChildrenOutcome, AllKnown, FirstUnknown, OneIsNoId, children_outcome}
use Rattle.attempt_model.specs.Machine.{Machine, Reply, Answered, is_cancelled, reply_where_unknown, reply_where_asleep, cancelled_by, reply_where_cancelled, reply_to_children, reply_where_awake, reply_to_await}
use Rattle.attempt_model.specs.Requests.{Commands, PutState, put_all}
use Rattle.attempt_model.specs.Results.{Ready, first_waiting_result, Resolution, Awake, Asleep, resolution_of}
use Rattle.attempt_model.specs.Simulation.{TablesStand, RequestsStand, Reached, here, ahead, cancelling, IsShown, children_of, is_id_if_known, Stands, AreOfKind, Fits, next_call, AnswersNext, RepliesAsRun, IsReflexive}
use Rattle.attempt_model.proofs.Requests.{Puts, put, agree}
use Rattle.attempt_laws.proofs.Children.{cancels-same, TellsFrom, tells}
use Rattle.attempt_laws.proofs.Making.{Creates}
use Rattle.attempt_laws.proofs.Tables.{front-untaken, starts}
use Rattle.attempt_laws.proofs.Taking.{takes_first}
use Rattle.attempt_laws.proofs.Waking.{least-some, least-none, front-stays, fronts, leaf_state-fronts, still-whole, ResolvesFrom, resolves}
use Rattle.attempt_laws.proofs.CallKinds.{no_child, awake-cancelled, completed-some, known-cancels, awaits-same}
use Rattle.attempt_laws.proofs.Ids.{results-ids}

-- a test that fails at a place, be it before another place or not, fails there
either_side : (test : ℕ → Bool) (place q : ℕ) → (q < place → test q ≡ false) → (place ≤ q → test q ≡ false) → test q ≡ false
either_side test place q early late = by_order (nat_lt q place) refl
  where
    by_order : (b : Bool) → nat_lt q place ≡ b → test q ≡ false
    by_order true f = early (ltb-true q place f)
    by_order false f = late (ltb-false q place f)

module _ (same_header : Request → Request → Bool) (reflexive : IsReflexive same_header) (handler : Handler) (given : Invocation) (journal : List Request) (arrivals : List Arrival)
    (fits : Fits handler given journal arrivals) (calls : ℕ) (kinds : AreOfKind handler given arrivals calls) (m : Machine) (now : Stands handler given journal arrivals calls m) (call : Call) (is : next_call handler given now.steps ≡ call) where
  abbrev Replies : Reply → Type 0
  Replies reply = RepliesAsRun handler given journal arrivals calls reply

  abbrev cancellation : ImplicitCancellationOption
  cancellation = given.options.implicit_cancellation

  abbrev steps : List Step
  steps = now.steps

  -- what all calls share
  after : run handler given arrivals (suc calls) ≡ after_call given steps arrivals call
  after = Answering.after same_header reflexive handler given journal arrivals fits calls kinds m now call is

  same_steps : (run handler given arrivals calls).steps ≡ steps
  same_steps = Answering.same_steps same_header reflexive handler given journal arrivals fits calls kinds m now call is

  stepped : (step : Step) → run handler given arrivals (suc calls) ≡ record { steps = step ∷ steps; ending = GoesOn } → (new : Machine)
      → TablesStand given.options (step ∷ steps) arrivals step.place new.queue new.ready new.slots
      → new.completions ≡ next_completion (step ∷ steps) → new.signals ≡ next_signal (step ∷ steps) → RequestsStand journal (step ∷ steps) new.left new.written
      → IsShown given.start journal new.start → new.done ≡ requests_of (step ∷ steps) → new.children ≡ children_of cancellation (step ∷ steps) → list_all (λ child. is_id_if_known child.taken) new.children ≡ true
      → AnswersNext handler given journal arrivals calls step.answer new
  stepped = Answering.stepped same_header reflexive handler given journal arrivals fits calls kinds m now call is

  quiet : (step : Step) → step.requests ≡ [] → RequestsStand journal (step ∷ steps) m.left m.written
  quiet = Answering.quiet same_header reflexive handler given journal arrivals fits calls kinds m now call is

  quiet_done : (step : Step) → step.requests ≡ [] → m.done ≡ requests_of (step ∷ steps)
  quiet_done = Answering.quiet_done same_header reflexive handler given journal arrivals fits calls kinds m now call is

  quiet_children : (step : Step) → Creates steps step [] → child_of cancellation (next_completion steps) step.call ≡ [] → ((xs : List ℕ) → children_after step.answer xs ≡ xs)
      → m.children ≡ children_of cancellation (step ∷ steps)
  quiet_children = Answering.quiet_children same_header reflexive handler given journal arrivals fits calls kinds m now call is

  none_more : (n : ℕ) → n ≡ n + 0
  none_more = Answering.none_more same_header reflexive handler given journal arrivals fits calls kinds m now call is

  quiet_tables : (step : Step) (q : ℕ) (line : List Arrival) (waiting : Ready) → step.place ≡ q → Creates steps step [] → known_result (next_completion steps) step.requests ≡ []
      → TablesStand given.options steps arrivals q line waiting m.slots → TablesStand given.options (step ∷ steps) arrivals step.place line waiting m.slots
  quiet_tables = Answering.quiet_tables same_header reflexive handler given journal arrivals fits calls kinds m now call is

  accepted_is : (other : Call) → call ≡ other → refusal_of given.version call ≡ None → refusal_of given.version other ≡ None
  accepted_is = Answering.accepted_is same_header reflexive handler given journal arrivals fits calls kinds m now call is

  nothing_left : (ending : Ending) → is_going ending ≡ false → run handler given arrivals (suc calls) ≡ record { steps = steps; ending = ending } → m.left ≡ []
  nothing_left = Answering.nothing_left same_header reflexive handler given journal arrivals fits calls kinds m now call is

  all_there : (ending : Ending) → is_going ending ≡ false → run handler given arrivals (suc calls) ≡ record { steps = steps; ending = ending }
      → run_requests handler given arrivals (suc calls) ≡ journal ++ m.written
  all_there = Answering.all_there same_header reflexive handler given journal arrivals fits calls kinds m now call is

  -- the machine stands as it did, with so much looked at
  looks_on : (p : ℕ) (line : List Arrival) (waiting : Ready) → TablesStand given.options steps arrivals p line waiting m.slots → Reached handler given arrivals steps p
      → Stands handler given journal arrivals calls (record m { queue = line; ready = waiting })
  looks_on p line waiting tables reached = record {
    steps = now.steps;
    place = p;
    going = now.going;
    tables = tables;
    completions = now.completions;
    signals = now.signals;
    requests = now.requests;
    start = now.start;
    done = now.done;
    children = now.children;
    ids = now.ids;
    reached = reached;
  }

  -- an await
  module _ (tree : AwaitTree ℕ) (e : call ≡ Call.Await tree) (accepted : refusal_of given.version call ≡ None) where
    abbrev whole : AwaitTree ℕ
    whole = awaited_tree cancellation tree

    abbrev ids : AwaitTree (Option NotificationId)
    ids = awaited_ids given.options steps tree

    abbrev tracked : List ℕ
    tracked = tracked_children cancellation steps

    once : (n : ℕ) → length (results_for (known_results steps ++ arrivals) (CompletionId n)) ≤ 1
    once n = subst (λ (some : List Step). length (results_for (known_results some ++ arrivals) (CompletionId n)) ≤ 1) same_steps (fits.once calls n)

    abbrev states : ℕ → Option NotificationId → AwaitState
    states = fronts given.options steps arrivals fits.queued once

    abbrev test : ℕ → Bool
    test = is_awake_at given.options steps arrivals ids (place_of steps)

    test-is : (q : ℕ) → place_of steps ≤ q → q ≤ length arrivals → test q ≡ is_awake ids (states q)
    test-is q low high = ap (is_awake ids) (leaf_state-fronts given.options steps arrivals fits.queued once (place_of steps) q low high)

    goes : (outcome : AwaitOutcome) → await_outcome given.options steps arrivals tree ≡ outcome → run handler given arrivals (suc calls) ≡ after_await steps (Call.Await tree) outcome
    goes outcome f = after ∙ ap (after_call given steps arrivals) e
        ∙ after_call-carried_out given steps arrivals (Call.Await tree) (Awaits tree) (accepted_is (Call.Await tree) e accepted) refl
        ∙ ap (after_await steps (Call.Await tree)) f

    -- where the tree is awake first, and whether a cancellation is in front there
    record Starts (wakes : ℕ) : Type 0 where
      above : place_of steps ≤ wakes
      awake : test wakes ≡ true
      before : (q : ℕ) → place_of steps ≤ q → q < wakes → test q ≡ false

    found : (wakes : ℕ) → wakes ≤ length arrivals → Starts wakes → awake_place given.options steps arrivals ids ≡ Some wakes
    found wakes high starts =
        least-some test (place_of steps) (length arrivals - place_of steps) wakes starts.above (let low : place_of steps ≤ wakes = starts.above in omega (arith, low, high)) starts.awake starts.before

    -- a cancellation that is in front: the children are told
    tells_them : (wakes : ℕ) → Starts wakes → is_cancelled_at given.options steps arrivals wakes ≡ true → (p : ℕ) (line : List Arrival) (waiting : Ready) → wakes ≤ p
        → ((q : ℕ) → wakes ≤ q → q < p → all_known_at given.options steps arrivals tracked q ≡ false)
        → TablesStand given.options steps arrivals p line waiting m.slots
        → Replies (reply_to_children same_header given (record m { queue = line; ready = waiting }) (children_outcome given.options.signal_delivery m.children line waiting))
    tells_them wakes starts cancel p line waiting low unknown stands =
        by_told (children_outcome given.options.signal_delivery m.children line waiting)
        (subst (λ (some : List Child). TellsFrom given.options steps arrivals m.slots tracked p (children_outcome given.options.signal_delivery some line waiting)) (sym now.children)
        (tells given.options steps arrivals m.slots tracked
        (λ q high. results-ids given.options steps arrivals q tracked (ap (list_all (λ child. is_id_if_known child.taken)) (sym now.children) ∙ now.ids) (λ n f. Answering.front_ids same_header reflexive handler given journal arrivals fits calls kinds m now call is q high n f))
        p line waiting stands))
      where
        p_high : p ≤ length arrivals
        p_high = stands.within

        known : ℕ → Bool
        known = all_known_at given.options steps arrivals tracked

        outcome : (o : Option ℕ) → children_place given.options steps arrivals wakes ≡ o → await_outcome given.options steps arrivals tree ≡ cancellation_outcome given.options steps arrivals o
        outcome o f = ap (outcome_from given.options steps arrivals ids) (found wakes (omega (arith, low, p_high)) starts)
            ∙ ap (λ (b : Bool). if b then cancellation_outcome given.options steps arrivals (children_place given.options steps arrivals wakes) else WokenAt wakes) cancel
            ∙ ap (cancellation_outcome given.options steps arrivals) f

        in_front_at : (q : ℕ) → wakes ≤ q → q ≤ length arrivals → is_some (front given.options steps arrivals q cancel_id) ≡ true
        in_front_at q above high = by_front (front given.options steps arrivals wakes cancel_id) refl cancel
          where
            by_front : (o : Option NotificationResult) → front given.options steps arrivals wakes cancel_id ≡ o → (ends_awaits cancellation && is_some (front given.options steps arrivals wakes cancel_id)) ≡ true
                → is_some (front given.options steps arrivals q cancel_id) ≡ true
            by_front None f c = absurd (never (ends_awaits cancellation) (sym (ap (λ (o : Option NotificationResult). ends_awaits cancellation && is_some o) f) ∙ c))
              where
                never : (b : Bool) → (b && false) ≡ true → ⊥
                never true g = cc
                never false g = cc
            by_front (Some r) f c = ap is_some (front-stays given.options steps arrivals fits.queued once wakes q cancel_id r above high f)

        by_told : (t : ChildrenOutcome) → TellsFrom given.options steps arrivals m.slots tracked p t → Replies (reply_to_children same_header given (record m { queue = line; ready = waiting }) t)
        by_told (AllKnown queue ready) t = by_first (first_waiting_result (ready cancel_id)) refl
          where
            t_high : t.place ≤ length arrivals
            t_high = t.stands.within

            t_low : p ≤ t.place
            t_low = t.above

            placed : children_place given.options steps arrivals wakes ≡ Some t.place
            placed = least-some known wakes (length arrivals - wakes) t.place (omega (arith, low, t_low)) (omega (arith, low, t_low, t_high)) t.known
                (λ q above below. either_side known p q (unknown q above) (λ from. t.before q from below))

            asked : List Request
            asked = cancel_requests given.options steps arrivals t.place tracked

            step : Step
            step = record { call = Call.Await tree; answer = Answer.Cancelled; requests = asked; place = t.place }

            goes_on : run handler given arrivals (suc calls) ≡ record { steps = step ∷ steps; ending = GoesOn }
            goes_on = goes (CancelledAt t.place asked) (outcome (Some t.place) placed)

            puts : Puts same_header journal (requests_of steps) asked now.requests.left m.written
            puts = put same_header reflexive journal asked (requests_of steps) now.requests.left m.written now.requests.requests now.requests.replays
                (agree handler given journal arrivals fits.calls fits.beginning (suc calls) (requests_of steps) asked now.requests.left m.written
                (ap (λ (p : Progress). requests_of p.steps) goes_on) now.requests.requests now.requests.replays)

            same_asked : cancel_requests_for ready m.children ≡ asked
            same_asked = ap (cancel_requests_for ready) now.children ∙ cancels-same given.options steps arrivals t.place queue ready m.slots t.stands tracked

            by_first : (o : Option NotificationResult) → first_waiting_result (ready cancel_id) ≡ o
                → Replies (reply_where_cancelled same_header given (record m { queue = queue; ready = ready }) (cancel_requests_for ready m.children)
                (put_all same_header (cancel_requests_for ready m.children) (record { left = m.left; written = m.written })))
            by_first None f =
                let there : is_some (front given.options steps arrivals t.place cancel_id) ≡ true = in_front_at t.place (omega (arith, low, t_low)) t_high in
                let none : front given.options steps arrivals t.place cancel_id ≡ None = front-untaken given.options steps arrivals t.place cancel_id ∙ sym (ap first_waiting_result (t.stands.ready cancel_id)) ∙ f in
                let wrong : false ≡ true = sym (ap is_some none) ∙ there in
                cc
            by_first (Some r) f =
                subst (λ (some : List Request). Replies (reply_where_cancelled same_header given (record m { queue = queue; ready = ready }) some (put_all same_header some (record { left = m.left; written = m.written })))) (sym same_asked)
                (subst (λ (o : Option PutState). Replies (reply_where_cancelled same_header given (record m { queue = queue; ready = ready }) asked o)) (sym (ap (λ (some : Commands). put_all same_header asked (record { left = some; written = m.written })) now.requests.are_requests ∙ puts.puts))
                (stepped step goes_on (cancelled_by asked (record { left = map Some puts.rest; written = puts.wrote }) (record m { queue = queue; ready = ready }))
                (takes_first given.options steps arrivals t.place step queue ready m.slots 1 cancel_id r refl
                (record { none_made = refl; handle_is = refl; none_known = known-cancels given.options steps arrivals t.place (next_completion steps) tracked }) t.stands refl f)
                (now.completions ∙ none_more (next_completion steps)) (now.signals ∙ none_more (next_signal steps))
                (record { left = puts.rest; are_requests = refl; requests = puts.whole; replays = puts.replays })
                now.start (ap (λ (some : List Request). some ++ asked) now.done) refl refl))
        by_told OneIsNoId t = absurd t
        by_told (FirstUnknown child ready) t = by_left m.left refl
          where
            none : children_place given.options steps arrivals wakes ≡ None
            none = least-none known wakes (length arrivals - wakes)
                (λ q above below. either_side known p q (unknown q above) (λ from. t.unknown q from (omega (arith, below, low, p_high))))

            waits : run handler given arrivals (suc calls) ≡ record { steps = steps; ending = Waits (Single (Some (CompletionId child))) }
            waits = goes (WaitsFor (Single (child_id (first_unknown given.options steps arrivals tracked)))) (outcome None none)
                ∙ ap (λ (o : Option ℕ). record { steps = steps; ending = Waits (Single (child_id o)) }) (sym t.first)

            before : (q : ℕ) → wakes ≤ q → q < length arrivals → known q ≡ false
            before q above below = either_side known p q (unknown q above) (λ from. t.unknown q from (omega (arith, below)))

            by_left : (some : Commands) → m.left ≡ some → Replies (reply_where_unknown child (record m { queue = []; ready = ready }) some)
            by_left [] f = record {
              stands = looks_on (length arrivals) [] ready t.stands (cancelling tree (is ∙ e) wakes starts.above (omega (arith, low, p_high)) starts.awake starts.before cancel before);
              waits = ap (λ (p : Progress). p.ending) waits;
              exactly = all_there (Waits (Single (Some (CompletionId child)))) refl waits;
            }
            by_left (command ∷ some) f = let wrong : command ∷ some ≡ [] = sym f ∙ nothing_left (Waits (Single (Some (CompletionId child)))) refl waits in cc

    -- a wake without a cancellation
    wakes_up : (q : ℕ) (line : List Arrival) (waiting : Ready) → Starts q → is_cancelled_at given.options steps arrivals q ≡ false
        → TablesStand given.options steps arrivals q line waiting m.slots → Replies (Answered Answer.Woken (record m { queue = line; ready = waiting }))
    wakes_up q line waiting starts quiet_there stands =
        stepped step
        (goes (WokenAt q) (ap (outcome_from given.options steps arrivals ids) (found q stands.within starts)
        ∙ ap (λ (b : Bool). if b then cancellation_outcome given.options steps arrivals (children_place given.options steps arrivals q) else WokenAt q) quiet_there))
        (record m { queue = line; ready = waiting })
        (quiet_tables step q line waiting refl (record { made = refl; takes = refl }) refl stands)
        (now.completions ∙ none_more (next_completion steps)) (now.signals ∙ none_more (next_signal steps)) (quiet step refl)
        now.start (quiet_done step refl) (quiet_children step (record { made = refl; takes = refl }) ((no_child cancellation (next_completion steps)).await tree) (λ xs. refl)) now.ids
      where
        step : Step
        step = record { call = Call.Await tree; answer = Answer.Woken; requests = []; place = q }

    cancelled-is : (q : ℕ) (line : List Arrival) (waiting : Ready) → TablesStand given.options steps arrivals q line waiting m.slots
        → is_cancelled given (record m { queue = line; ready = waiting }) ≡ is_cancelled_at given.options steps arrivals q
    cancelled-is q line waiting stands = ap (λ (o : Option NotificationResult). ends_awaits cancellation && is_some o)
        (ap first_waiting_result (stands.ready cancel_id) ∙ sym (front-untaken given.options steps arrivals q cancel_id))

    -- no cancellation waits: the machine has looked at no more than the run, or the tree was asleep at all it has looked at
    asks : place_of steps ≤ now.place → ((q : ℕ) → place_of steps ≤ q → q < now.place → test q ≡ false) → (r : Resolution)
        → ResolvesFrom given.options steps arrivals fits.queued once m.slots whole now.place r → Replies (reply_to_await same_header given m r)
    asks low_place early (Awake line waiting) w = by_cancel (is_cancelled given (record m { queue = line; ready = waiting })) refl
      where
        high : w.place ≤ length arrivals
        high = w.stands.within

        low : now.place ≤ w.place
        low = w.above

        starts : Starts w.place
        starts = record {
          above = omega (arith, low_place, low);
          awake = test-is w.place (omega (arith, low_place, low)) high ∙ w.awake;
          before = λ q above below. either_side test now.place q (early q above) (λ from. test-is q above (omega (arith, below, high)) ∙ w.before q from below);
        }

        by_cancel : (b : Bool) → is_cancelled given (record m { queue = line; ready = waiting }) ≡ b → Replies (reply_where_awake same_header given (record m { queue = line; ready = waiting }) b)
        by_cancel false f = wakes_up w.place line waiting starts (sym (cancelled-is w.place line waiting w.stands) ∙ f) w.stands
        by_cancel true f =
            tells_them w.place starts (sym (cancelled-is w.place line waiting w.stands) ∙ f) w.place line waiting (le_refl w.place)
            (λ q above below. absurd (omega (arith, above, below))) w.stands
    asks low_place early (Asleep left waiting) s = by_left m.left refl
      where
        within : now.place ≤ length arrivals
        within = now.tables.within

        later : (q : ℕ) → place_of steps ≤ q → q ≤ length arrivals → now.place ≤ q → test q ≡ false
        later q low top from = test-is q low top ∙ s.asleep q from top

        none : awake_place given.options steps arrivals ids ≡ None
        none =
            least-none test (place_of steps) (length arrivals - place_of steps) (λ q low high. either_side test now.place q (early q low) (later q low (omega (arith, high, low_place, within))))

        waits : run handler given arrivals (suc calls) ≡ record { steps = steps; ending = Waits ids }
        waits = goes (WaitsFor ids) (ap (outcome_from given.options steps arrivals ids) none)

        before : (q : ℕ) → place_of steps ≤ q → q < length arrivals → test q ≡ false
        before q low high = either_side test now.place q (early q low) (later q low (omega (arith, high)))

        by_left : (some : Commands) → m.left ≡ some → Replies (reply_where_asleep left (record m { queue = []; ready = waiting }) some)
        by_left [] f = record {
          stands = looks_on (length arrivals) [] waiting s.stands (ahead tree (is ∙ e) (omega (arith, low_place, within)) before);
          ids = ids;
          waits = ap (λ (p : Progress). p.ending) waits;
          exactly = all_there (Waits ids) refl waits;
          rest = subst (λ (some : List Step). map_leaves (stands_for some) left ≡ pruned ids (leaf_state given.options some arrivals (place_of some) (length arrivals))) (sym same_steps)
              (s.rest ∙ ap (pruned ids) (sym (leaf_state-fronts given.options steps arrivals fits.queued once (place_of steps) (length arrivals) (omega (arith, low_place, within)) (le_refl (length arrivals)))));
        }
        by_left (command ∷ some) f = let wrong : command ∷ some ≡ [] = sym f ∙ nothing_left (Waits ids) refl waits in cc

    -- a cancellation waits: the tree is awake at once, and the children are told from here on
    asks_again : (wakes : ℕ) → Starts wakes → wakes ≤ now.place → is_cancelled_at given.options steps arrivals wakes ≡ true
        → ((q : ℕ) → wakes ≤ q → q < now.place → all_known_at given.options steps arrivals tracked q ≡ false) → (r : Resolution)
        → ResolvesFrom given.options steps arrivals fits.queued once m.slots whole now.place r → Replies (reply_to_await same_header given m r)
    asks_again wakes starts under cancel unknown r resolved_so = by_resolved r resolved_so
      where
        within : now.place ≤ length arrivals
        within = now.tables.within

        front_here : (o : Option NotificationResult) → front given.options steps arrivals wakes cancel_id ≡ o → is_some (front given.options steps arrivals now.place cancel_id) ≡ true
        front_here None f = absurd (never (ends_awaits cancellation) (sym (ap (λ (o : Option NotificationResult). ends_awaits cancellation && is_some o) f) ∙ cancel))
          where
            never : (b : Bool) → (b && false) ≡ true → ⊥
            never true g = cc
            never false g = cc
        front_here (Some r) f = ap is_some (front-stays given.options steps arrivals fits.queued once wakes now.place cancel_id r under within f)

        there : is_some (front given.options steps arrivals now.place cancel_id) ≡ true
        there = front_here (front given.options steps arrivals wakes cancel_id) refl

        ends : ends_awaits cancellation ≡ true
        ends = both (ends_awaits cancellation) (is_some (front given.options steps arrivals wakes cancel_id)) cancel
          where
            both : (a b : Bool) → (a && b) ≡ true → a ≡ true
            both true b f = refl
            both false b f = cc

        awake_here : is_awake ids (states now.place) ≡ true
        awake_here = awake-cancelled steps cancellation ends tree (states now.place) (completed-some (front given.options steps arrivals now.place cancel_id) there)

        by_resolved : (r : Resolution) → ResolvesFrom given.options steps arrivals fits.queued once m.slots whole now.place r → Replies (reply_to_await same_header given m r)
        by_resolved (Awake line waiting) w = by_cancel (is_cancelled given (record m { queue = line; ready = waiting })) refl
          where
            same : now.place ≡ w.place
            same = by_order (eq-or-lt_of_le w.above)
              where
                by_order : (now.place ≡ w.place) ⊎ (now.place < w.place) → now.place ≡ w.place
                by_order (inl f) = f
                by_order (inr above) = let wrong : true ≡ false = sym awake_here ∙ w.before now.place (le_refl now.place) above in cc

            cancel_here : is_cancelled_at given.options steps arrivals w.place ≡ true
            cancel_here = ap (λ (b : Bool). b && is_some (front given.options steps arrivals w.place cancel_id)) ends ∙ ap (λ (q : ℕ). is_some (front given.options steps arrivals q cancel_id)) (sym same) ∙ there

            by_cancel : (b : Bool) → is_cancelled given (record m { queue = line; ready = waiting }) ≡ b → Replies (reply_where_awake same_header given (record m { queue = line; ready = waiting }) b)
            by_cancel false f = let wrong : false ≡ true = sym f ∙ cancelled-is w.place line waiting w.stands ∙ cancel_here in cc
            by_cancel true f =
                tells_them wakes starts cancel w.place line waiting (omega (arith, under, same))
                (λ q above below. unknown q above (omega (arith, below, same))) w.stands
        by_resolved (Asleep left waiting) s = let wrong : true ≡ false = sym awake_here ∙ s.asleep now.place (le_refl now.place) within in cc

    pub awaits : Replies (reply_to_await same_header given m (resolution_of given.options.signal_delivery m.slots whole m.queue m.ready))
    awaits = by_reached now.reached
      where
        r : Resolution
        r = resolution_of given.options.signal_delivery m.slots whole m.queue m.ready

        so : ResolvesFrom given.options steps arrivals fits.queued once m.slots whole now.place (resolution_of given.options.signal_delivery m.slots whole m.queue m.ready)
        so = resolves given.options steps arrivals fits.queued once m.slots whole whole now.place m.queue m.ready now.tables (still-whole given.options steps arrivals fits.queued once whole now.place)

        by_reached : Reached handler given arrivals steps now.place → Replies (reply_to_await same_header given m (resolution_of given.options.signal_delivery m.slots whole m.queue m.ready))
        by_reached (here f) = asks (omega (arith, f)) (λ q low high. absurd (omega (arith, f, low, high))) (resolution_of given.options.signal_delivery m.slots whole m.queue m.ready) so
        by_reached (ahead other f above before) =
            let same : other ≡ tree = awaits-same other tree (sym f ∙ is ∙ e) in
            asks above (λ q low high. ap (λ (t : AwaitTree ℕ). is_awake_at given.options steps arrivals (awaited_ids given.options steps t) (place_of steps) q) (sym same) ∙ before q low high)
            (resolution_of given.options.signal_delivery m.slots whole m.queue m.ready) so
        by_reached (cancelling other f wakes above under awake before cancel unknown) =
            let same : other ≡ tree = awaits-same other tree (sym f ∙ is ∙ e) in
            asks_again wakes
            (record {
              above = above;
              awake = ap (λ (t : AwaitTree ℕ). is_awake_at given.options steps arrivals (awaited_ids given.options steps t) (place_of steps) wakes) (sym same) ∙ awake;
              before = λ q low high. ap (λ (t : AwaitTree ℕ). is_awake_at given.options steps arrivals (awaited_ids given.options steps t) (place_of steps) q) (sym same) ∙ before q low high;
            })
            under cancel unknown (resolution_of given.options.signal_delivery m.slots whole m.queue m.ready) so
