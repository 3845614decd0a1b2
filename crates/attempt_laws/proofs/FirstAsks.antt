-- An await that is asked for the first time wakes at the least place, whatever replaces what and however often it comes.
use Rattle.std.proofs.Common.{◌≡◌, refl, sym, ap, ◌∙◌, subst, ℕ, zero, suc, ◌+◌, ◌-◌, ◌≤◌, ◌<◌, arith, le_refl, Bool, true, false, if◌then◌else◌, List, [], ◌∷◌, length, Option, Some, None}
use Rattle.std.proofs.Math.Path.{fun_ext}
use Rattle.journal_model.specs.declared.notification.NotificationId.{NotificationId}
use Rattle.journal_model.specs.declared.notification.NotificationResult.{NotificationResult}
use Rattle.journal_model.specs.Notification.{Arrival}
use Rattle.journal_model.specs.AwaitTree.{AwaitState, Pending, Succeeded, Failed, AwaitTree, is_completed, await_state, has_ended_node, is_awake, map_leaves}
use Rattle.journal_model.specs.declared.options.RunOptions.{RunOptions}
use Rattle.journal_model.specs.History.{Step, stands_for, place_of}
use Rattle.journal_model.specs.Delivery.{front, or_else, first_found, leaf_state, state_of_result}
use Rattle.journal_model.specs.Await.{is_awake_at, awaited_tree, awaited_ids}
use Rattle.journal_model.specs.PrunedTrees.{pruned, earlier_or_later}
use Rattle.journal_laws.proofs.Pruning.{pruned-awake, pruned-again}
use Rattle.journal_laws.proofs.Leaving.{or-false}
use Rattle.attempt_model.specs.Results.{Ready, Slots, ready_after, handle_state, Resolution, Awake, Asleep, resolution_of}
use Rattle.attempt_model.specs.Simulation.{TablesStand, ResolvesAsDefined}
use Rattle.attempt_laws.proofs.Tables.{from_here, all_read, front_states, leaves_in_front, arrive}
use Rattle.attempt_laws.proofs.Waking.{awake-map, pruned-map, least-some, least-none}

-- the last that is looked for
found-last : (find_at : ℕ → Option NotificationResult) (from more : ℕ) → first_found find_at from (suc more) ≡ or_else (first_found find_at from more) (find_at (from + suc more))
found-last find_at from zero = ap (λ (q : ℕ). or_else (find_at from) (find_at q)) (let e : suc from ≡ from + 1 = omega arith in e)
found-last find_at from (suc more) =
    ap (or_else (find_at from)) (found-last find_at (suc from) more)
    ∙ or_else-again (find_at from) (first_found find_at (suc from) more) (find_at (suc from + suc more))
    ∙ ap (λ (q : ℕ). or_else (or_else (find_at from) (first_found find_at (suc from) more)) (find_at q)) (let e : suc from + suc more ≡ from + suc (suc more) = omega arith in e)
  where
    or_else-again : (a b c : Option NotificationResult) → or_else a (or_else b c) ≡ or_else (or_else a b) c
    or_else-again None b c = refl
    or_else-again (Some r) b c = refl

-- states one behind the other
in-order : (a b c : AwaitState)
    → (if is_completed a then a else (if is_completed b then b else c)) ≡ (if is_completed (if is_completed a then a else b) then (if is_completed a then a else b) else c)
in-order Pending b c = refl
in-order Succeeded b c = refl
in-order Failed b c = refl

orders : (a b c : Option NotificationId → AwaitState) → earlier_or_later a (earlier_or_later b c) ≡ earlier_or_later (earlier_or_later a b) c
orders a b c = fun_ext (λ leaf. in-order (a leaf) (b leaf) (c leaf))

module _ (options : RunOptions) (steps : List Step) (arrivals : List Arrival) where
  -- the states of leaves by what is in front at a place
  abbrev now : ℕ → Option NotificationId → AwaitState
  now = front_states options steps arrivals

  next-seen : (from q : ℕ) → from ≤ q → earlier_or_later (leaf_state options steps arrivals from q) (now (suc q)) ≡ leaf_state options steps arrivals from (suc q)
  next-seen from q low = fun_ext at_leaf
    where
      by_first : (id : NotificationId) (o : Option NotificationResult)
          → (if is_completed (state_of_result o) then state_of_result o else state_of_result (front options steps arrivals (suc q) id)) ≡ state_of_result (or_else o (front options steps arrivals (suc q) id))
      by_first id None = refl
      by_first id (Some NotificationResult.Void) = refl
      by_first id (Some (NotificationResult.Value bytes)) = refl
      by_first id (Some (NotificationResult.Failure failure)) = refl
      by_first id (Some (NotificationResult.InvocationId name)) = refl
      by_first id (Some (NotificationResult.StateKeys keys)) = refl

      find_at : NotificationId → ℕ → Option NotificationResult
      find_at id p = front options steps arrivals p id

      at_leaf : (leaf : Option NotificationId) → earlier_or_later (leaf_state options steps arrivals from q) (now (suc q)) leaf ≡ leaf_state options steps arrivals from (suc q) leaf
      at_leaf None = refl
      at_leaf (Some id) =
          let more : suc (q - from) ≡ suc q - from = omega (arith, low) in
          let at : from + suc (q - from) ≡ suc q = omega (arith, low) in
          by_first id (first_found (λ p. front options steps arrivals p id) from (q - from))
          ∙ ap state_of_result (sym (found-last (λ p. front options steps arrivals p id) from (q - from)
          ∙ ap (λ (p : ℕ). or_else (first_found (λ p. front options steps arrivals p id) from (q - from)) (front options steps arrivals p id)) at)
          ∙ ap (first_found (λ p. front options steps arrivals p id) from) more)

  first-seen : (from : ℕ) → earlier_or_later (λ leaf. Pending) (now from) ≡ leaf_state options steps arrivals from from
  first-seen from = fun_ext at_leaf
    where
      at_leaf : (leaf : Option NotificationId) → earlier_or_later (λ leaf. Pending) (now from) leaf ≡ leaf_state options steps arrivals from from leaf
      at_leaf None = refl
      at_leaf (Some id) =
          let none : 0 ≡ from - from = omega arith in
          ap (λ (n : ℕ). state_of_result (first_found (λ p. front options steps arrivals p id) from n)) none

  module _ (table : Slots) (whole : AwaitTree ℕ) (from : ℕ) where
    abbrev ids : AwaitTree ℕ → AwaitTree (Option NotificationId)
    ids tree = map_leaves (stands_for steps) tree

    abbrev test : ℕ → Bool
    test = is_awake_at options steps arrivals (ids whole) from

    -- what is left of the tree, where so much was seen
    record Left (tree : AwaitTree ℕ) (early : Option NotificationId → AwaitState) : Type 0 where
      awake : (late : Option NotificationId → AwaitState) → is_awake (ids tree) late ≡ is_awake (ids whole) (earlier_or_later early late)
      rest : (late : Option NotificationId → AwaitState) → pruned (ids tree) late ≡ pruned (ids whole) (earlier_or_later early late)

    record Wakes (start : ℕ) (line : List Arrival) (waiting : Ready) : Type 0 where
      place : ℕ
      above : start ≤ place
      awake : test place ≡ true
      before : (q : ℕ) → start ≤ q → q < place → test q ≡ false
      stands : TablesStand options steps arrivals place line waiting table

    record Sleeps (start : ℕ) (left : AwaitTree ℕ) (waiting : Ready) : Type 0 where
      asleep : (q : ℕ) → start ≤ q → q ≤ length arrivals → test q ≡ false
      rest : ids left ≡ pruned (ids whole) (leaf_state options steps arrivals from (length arrivals))
      stands : TablesStand options steps arrivals (length arrivals) [] waiting table

    abbrev ResolvesFrom : ℕ → Resolution → Type 0
    ResolvesFrom start (Awake line waiting) = Wakes start line waiting
    ResolvesFrom start (Asleep left waiting) = Sleeps start left waiting

    later-on : (place : ℕ) → test place ≡ false → (r : Resolution) → ResolvesFrom (suc place) r → ResolvesFrom place r
    later-on place asleep (Awake line waiting) w = record {
      place = w.place;
      above = (let h : suc place ≤ w.place = w.above in omega (arith, h));
      awake = w.awake;
      before = λ q low high. from_here test place q asleep (λ above. w.before q above high) low;
      stands = w.stands;
    }
    later-on place asleep (Asleep left waiting) w = record {
      asleep = λ q low high. from_here test place q asleep (λ above. w.asleep q above high) low;
      rest = w.rest;
      stands = w.stands;
    }

    module _ (tree : AwaitTree ℕ) (early : Option NotificationId → AwaitState) (place : ℕ) (line : List Arrival) (waiting : Ready)
        (stands : TablesStand options steps arrivals place line waiting table) (left : Left tree early)
        (seen : earlier_or_later early (now place) ≡ leaf_state options steps arrivals from place) where
      by-front : is_awake tree (handle_state table waiting) ≡ is_awake (ids tree) (now place)
      by-front = ap (is_awake tree) (leaves_in_front options steps arrivals place line waiting table stands) ∙ sym (awake-map (stands_for steps) (now place) tree)

      rest-front : ids (pruned tree (handle_state table waiting)) ≡ pruned (ids tree) (now place)
      rest-front = ap (λ (leaves : ℕ → AwaitState). ids (pruned tree leaves)) (leaves_in_front options steps arrivals place line waiting table stands) ∙ sym (pruned-map (stands_for steps) (now place) tree)

      here : is_awake tree (handle_state table waiting) ≡ test place
      here = by-front ∙ left.awake (now place) ∙ ap (is_awake (ids whole)) seen

      rest-here : ids (pruned tree (handle_state table waiting)) ≡ pruned (ids whole) (leaf_state options steps arrivals from place)
      rest-here = rest-front ∙ left.rest (now place) ∙ ap (pruned (ids whole)) seen

      goes_on : is_awake tree (handle_state table waiting) ≡ false → Left (pruned tree (handle_state table waiting)) (leaf_state options steps arrivals from place)
      goes_on asleep = record {
        awake = λ late.
            ap (λ (t : AwaitTree (Option NotificationId)). is_awake t late) rest-front
            ∙ pruned-awake (now place) late (ids tree) quiet
            ∙ left.awake (earlier_or_later (now place) late)
            ∙ ap (is_awake (ids whole)) (orders early (now place) late ∙ ap (λ (states : Option NotificationId → AwaitState). earlier_or_later states late) seen);
        rest = λ late.
            ap (λ (t : AwaitTree (Option NotificationId)). pruned t late) rest-front
            ∙ pruned-again (now place) late (ids tree) (or-false (is_completed (await_state (ids tree) (now place))) (has_ended_node (ids tree) (now place)) quiet).1
            ∙ left.rest (earlier_or_later (now place) late)
            ∙ ap (pruned (ids whole)) (orders early (now place) late ∙ ap (λ (states : Option NotificationId → AwaitState). earlier_or_later states late) seen);
      }
        where
          quiet : is_awake (ids tree) (now place) ≡ false
          quiet = sym by-front ∙ asleep

    resolves : (tree : AwaitTree ℕ) (early : Option NotificationId → AwaitState) (place : ℕ) (line : List Arrival) (waiting : Ready) → from ≤ place
        → TablesStand options steps arrivals place line waiting table → Left tree early → earlier_or_later early (now place) ≡ leaf_state options steps arrivals from place
        → ResolvesFrom place (resolution_of options.signal_delivery table tree line waiting)
    resolves tree early place [] waiting low stands left seen = by_test (is_awake tree (handle_state table waiting)) refl
      where
        over : place ≡ length arrivals
        over = all_read options steps arrivals place waiting table stands

        by_test : (b : Bool) → is_awake tree (handle_state table waiting) ≡ b
            → ResolvesFrom place (if b then Awake [] waiting else Asleep (pruned tree (handle_state table waiting)) waiting)
        by_test true e = record {
          place = place;
          above = le_refl place;
          awake = sym (here tree early place [] waiting stands left seen) ∙ e;
          before = λ q low high. absurd (omega (arith, low, high));
          stands = stands;
        }
        by_test false e = record {
          asleep = λ q low high. (let same : q ≡ place = omega (arith, low, high, over) in ap test same ∙ sym (here tree early place [] waiting stands left seen) ∙ e);
          rest = rest-here tree early place [] waiting stands left seen ∙ ap (λ (n : ℕ). pruned (ids whole) (leaf_state options steps arrivals from n)) over;
          stands = subst (λ (n : ℕ). TablesStand options steps arrivals n [] waiting table) over stands;
        }
    resolves tree early place (arrival ∷ line) waiting low stands left seen = by_test (is_awake tree (handle_state table waiting)) refl
        (λ asleep. resolves (pruned tree (handle_state table waiting)) (leaf_state options steps arrivals from place) (suc place) line (ready_after options.signal_delivery waiting arrival) (omega (arith, low))
        (arrive options steps arrivals place arrival line waiting table stands) (goes_on tree early place (arrival ∷ line) waiting stands left seen asleep) (next-seen from place low))
      where
        by_test : (b : Bool) → is_awake tree (handle_state table waiting) ≡ b
            → (is_awake tree (handle_state table waiting) ≡ false → ResolvesFrom (suc place)
            (resolution_of options.signal_delivery table (pruned tree (handle_state table waiting)) line (ready_after options.signal_delivery waiting arrival)))
            → ResolvesFrom place (if b then Awake (arrival ∷ line) waiting
            else resolution_of options.signal_delivery table (pruned tree (handle_state table waiting)) line (ready_after options.signal_delivery waiting arrival))
        by_test true e later = record {
          place = place;
          above = le_refl place;
          awake = sym (here tree early place (arrival ∷ line) waiting stands left seen) ∙ e;
          before = λ q low high. absurd (omega (arith, low, high));
          stands = stands;
        }
        by_test false e later = later-on place (sym (here tree early place (arrival ∷ line) waiting stands left seen) ∙ e)
            (resolution_of options.signal_delivery table (pruned tree (handle_state table waiting)) line (ready_after options.signal_delivery waiting arrival)) (later e)

pub first_asks : (options : RunOptions) (steps : List Step) (arrivals queue : List Arrival) (ready : Ready) (slots : Slots)
    → TablesStand options steps arrivals (place_of steps) queue ready slots → (tree : AwaitTree ℕ)
    → ResolvesAsDefined options steps arrivals slots (awaited_ids options steps tree) (resolution_of options.signal_delivery slots (awaited_tree options.implicit_cancellation tree) queue ready)
first_asks options steps arrivals queue ready slots stands tree =
    by_resolved (resolution_of options.signal_delivery slots (awaited_tree options.implicit_cancellation tree) queue ready)
    (resolves options steps arrivals slots (awaited_tree options.implicit_cancellation tree) (place_of steps) (awaited_tree options.implicit_cancellation tree) (λ leaf. Pending) (place_of steps) queue ready
    (le_refl (place_of steps)) stands (record { awake = λ late. refl; rest = λ late. refl }) (first-seen options steps arrivals (place_of steps)))
  where
    within : place_of steps ≤ length arrivals
    within = stands.within

    by_resolved : (r : Resolution) → ResolvesFrom options steps arrivals slots (awaited_tree options.implicit_cancellation tree) (place_of steps) (place_of steps) r
        → ResolvesAsDefined options steps arrivals slots (awaited_ids options steps tree) r
    by_resolved (Awake line waiting) w = record {
      place = w.place;
      least = (let low : place_of steps ≤ w.place = w.above in let high : w.place ≤ length arrivals = w.stands.within in
          least-some (is_awake_at options steps arrivals (awaited_ids options steps tree) (place_of steps)) (place_of steps) (length arrivals - place_of steps) w.place low (omega (arith, low, high)) w.awake w.before);
      stands = w.stands;
    }
    by_resolved (Asleep left waiting) s = record {
      never = least-none (is_awake_at options steps arrivals (awaited_ids options steps tree) (place_of steps)) (place_of steps) (length arrivals - place_of steps)
          (λ q low high. s.asleep q low (omega (arith, high, within)));
      rest = s.rest;
      stands = s.stands;
    }
