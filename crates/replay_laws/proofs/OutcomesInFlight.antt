-- The outcomes of runs between the live attempt and the store.
use Rattle.std.proofs.Common.{ℕ, ◌+◌, ◌≤◌, ◌==◌, arith, ◌≡◌, refl, sym, ap, ap₂, subst, ◌∙◌, ◌⊎◌, inl, inr, Bool, true, false, not, ◌||◌, if◌then◌else◌, List, [], ◌∷◌, ◌++◌, append-nil, append_assoc, Some, None, bytes_eq, eqb-true}
use Rattle.std.specs.List.{list_any, find}
use Rattle.std.proofs.lemmas.List.Folds.{list_any-append}
use Rattle.journal_model.specs.declared.value.NonEmptyValue.{NonEmptyValue}
use Rattle.journal_model.specs.Notification.{Text, Arrival}
use Rattle.journal_model.specs.Request.{Request}
use Rattle.journal_model.specs.Event.{Event, Frame}
use Rattle.journal_model.specs.Journal.{Entry, completes, begins, is_of, requests_in, arrivals_in, is_awaited, asks_for, request_asking, entries_of, recorded_requests, recorded_arrivals}
use Rattle.journal_model.specs.Attempt.{begins_attempt}
use Rattle.journal_model.specs.Cause.{is_run, IsAccepted}
use Rattle.journal_model.specs.Run.{Handler, Invocation, run_requests, BeginsRun}
use Rattle.journal_laws.proofs.Leaving.{or-true, or-true_left, or-true_right}
use Rattle.run_laws.proofs.Ascending.{run_rises}
use Rattle.input_laws.proofs.Events.{added_by, requests_now, arrivals_now, no_request, all_requests, nothing_added}
use Rattle.input_laws.specs.CompletionsOnce.{count_of, numbers_asked}
use Rattle.input_laws.proofs.Once.{count_asked, recorded_once}
use Rattle.input_laws.proofs.AskedOnce.{kind_first, found_kind}
use Rattle.input_laws.proofs.Results.{recorded_when_asked}
use Rattle.live_laws.specs.RequestsInFlight.{request_sent, requests_sent, PassesOn}
use Rattle.live_laws.proofs.AskedArrivals.{asks_once}
use Rattle.body_laws.specs.BodySimulation.{has_arrived, count_proposed}
use Rattle.body_laws.proofs.Lists.{one_if, one-same, one-at-most, proposed-append}
use Rattle.body_laws.proofs.BodySimulation.{arrived-once}
use Rattle.replay_laws.specs.Outcomes.{asks_run, runs, TakesOutcome}
use Rattle.replay_laws.specs.OutcomesInFlight.{outcomes_in, ComeBehind, OutcomesStand, OutcomesBegin, OutcomesStay, OutcomesAreNew, OthersFollow, OutcomesAreOpen}
use Rattle.replay_laws.proofs.Outcomes.{runs-asked, outcomes_are_taken}

-- ---- lists of frames

outcomes-append : (xs ys : List Frame) → outcomes_in (xs ++ ys) ≡ outcomes_in xs ++ outcomes_in ys
outcomes-append [] ys = refl
outcomes-append (Frame.RunOutcome number value told ∷ xs) ys = ap (λ (rest : List (ℕ × NonEmptyValue)). (number, value) ∷ rest) (outcomes-append xs ys)
outcomes-append (x ∷ xs) ys = outcomes-append xs ys

behind-append : (requests : List Request) (xs ys : List Frame) → ComeBehind requests xs → ComeBehind (requests ++ requests_sent xs) ys → ComeBehind requests (xs ++ ys)
behind-append requests [] ys a b = subst (λ (some : List Request). ComeBehind some ys) (append-nil requests) b
behind-append requests (Frame.RunOutcome number value told ∷ xs) ys a b = (a.0, behind-append requests xs ys a.1 b)
behind-append requests (x ∷ xs) ys a b = behind-append (requests ++ request_sent x) xs ys a (subst (λ (some : List Request). ComeBehind some ys) (sym (append_assoc requests (request_sent x) (requests_sent xs))) b)

behind-none : (requests : List Request) (frames : List Frame) → outcomes_in frames ≡ [] → ComeBehind requests frames
behind-none requests [] e = tt
behind-none requests (Frame.RunOutcome number value told ∷ frames) e = cc
behind-none requests (frame ∷ frames) e = behind-none (requests ++ request_sent frame) frames e

behind-next : (requests : List Request) (frame : Frame) (frames : List Frame) → ComeBehind requests (frame ∷ frames) → ComeBehind (requests ++ request_sent frame) frames
behind-next requests (Frame.RunOutcome number value told) frames a = subst (λ (some : List Request). ComeBehind some frames) (sym (append-nil requests)) a.1
behind-next requests frame frames a = a

-- a run whose outcome is on its way is requested there or before
behind-runs : (requests : List Request) (frames : List Frame) (n : ℕ) → ComeBehind requests frames → 1 ≤ count_proposed n (outcomes_in frames) → runs n (requests ++ requests_sent frames) ≡ true
behind-runs requests [] n a some = absurd (omega (arith, some))
behind-runs requests (Frame.RunOutcome number value told ∷ frames) n a some = by_test (number == n) refl some (λ h. behind-runs requests frames n a.1 h)
  where
    by_test : (b : Bool) → (number == n) ≡ b → 1 ≤ (if b then 1 else 0) + count_proposed n (outcomes_in frames)
        → (1 ≤ count_proposed n (outcomes_in frames) → runs n (requests ++ requests_sent frames) ≡ true) → runs n (requests ++ requests_sent frames) ≡ true
    by_test true e h later =
        list_any-append (asks_run n) requests (requests_sent frames)
        ∙ or-true_left (runs n requests) (runs n (requests_sent frames)) (subst (λ (k : ℕ). runs k requests ≡ true) (eqb-true number n e) a.0)
    by_test false e h later = later (omega (arith, h))
behind-runs requests (frame ∷ frames) n a some =
    ap (runs n) (sym (append_assoc requests (request_sent frame) (requests_sent frames))) ∙ behind-runs (requests ++ request_sent frame) frames n a some

-- ---- completions are asked for once

pub begins_once : (next : Handler) (given : Invocation) (arrivals : List Arrival) (requests : List Request) → BeginsRun next given arrivals requests → (n : ℕ) → count_of n (numbers_asked requests) ≤ 1
begins_once next given arrivals requests begins n =
    let (rest, e) = begins.beginning in
    let whole : count_of n (numbers_asked (requests ++ rest)) ≤ 1 = subst (λ (some : List Request). count_of n (numbers_asked some) ≤ 1) (sym e)
    (asks_once n 0 (run_requests next given arrivals begins.calls) (run_rises next given arrivals begins.calls).ascend) in
    let sum = count_asked n requests rest in
    omega (arith, whole, sum)

-- what has come for a run was asked for by a run that is recorded
pub come_runs : (events : List Event) (id : Text) (n : ℕ) (more : List Request) → IsAccepted events → count_of n (numbers_asked (recorded_requests events id ++ more)) ≤ 1
    → runs n (recorded_requests events id ++ more) ≡ true → has_arrived (recorded_arrivals events id) n ≡ true → runs n (recorded_requests events id) ≡ true
come_runs events id n more accepted once e come =
    kind_first n (asks_run n) (runs-asked n) (recorded_requests events id) more once ((recorded_when_asked events id accepted).asked n (arrived-once (recorded_arrivals events id) n come)) e

arrived-either : (arrivals more : List Arrival) (n : ℕ) → has_arrived (arrivals ++ more) n ≡ true → (has_arrived arrivals n ≡ true) ⊎ (has_arrived more n ≡ true)
arrived-either arrivals more n e = or-true (has_arrived arrivals n) (has_arrived more n) (sym (list_any-append (completes n) arrivals more) ∙ e)

-- ---- an attempt is begun

pub outcomes_begin : OutcomesBegin
outcomes_begin events id now accepted = record {
  once = λ n. omega arith;
  few = λ n. omega arith;
  unrecorded = λ n some. absurd (omega (arith, some));
  behind = tt;
  own = λ n e come. inl (ap (λ (arrivals : List Arrival). has_arrived arrivals n) (sym same) ∙ come);
}
  where
    same : recorded_arrivals (Event.Begin id now ∷ events) id ≡ recorded_arrivals events id
    same = arrivals_now (Event.Begin id now) events id refl
        ∙ ap (λ (some : List Entry). recorded_arrivals events id ++ arrivals_in some) (if_none (is_of id (Event.Begin id now) || false))
        ∙ append-nil (recorded_arrivals events id)
      where
        if_none : (b : Bool) → (let none : List Entry = [] in (if b then none else none) ≡ none)
        if_none true = refl
        if_none false = refl

-- ---- one more event

-- it takes the first frame that is on its way, or leaves them all
data Passed (events : List Event) (id : Text) (event : Event) (coming coming' : List Frame) : Type 0 where
  left : coming' ≡ coming → requests_in (added_by events id event) ≡ [] → ((n : ℕ) → TakesOutcome id n event → ⊥) → Passed events id event coming coming'
  taken : (frame : Frame) → coming ≡ frame ∷ coming' → requests_in (added_by events id event) ≡ request_sent frame
      → ((n : ℕ) → TakesOutcome id n event → 1 ≤ count_proposed n (outcomes_in (frame ∷ []))) → Passed events id event coming coming'

taken_outcome : (other id : Text) (attempt n : ℕ) (frame : Frame) → TakesOutcome id n (Event.Move other attempt frame) → 1 ≤ count_proposed n (outcomes_in (frame ∷ []))
taken_outcome other id attempt n (Frame.RunOutcome k value told) t = let one : one_if (k == n) ≡ 1 = one-same k n t.1 in omega (arith, one)
taken_outcome other id attempt n _ t = absurd t

other_outcome : (other id : Text) (attempt n : ℕ) (frame : Frame) → bytes_eq other id ≡ false → TakesOutcome id n (Event.Move other attempt frame) → ⊥
other_outcome other id attempt n (Frame.RunOutcome k value told) e t = let wrong : true ≡ false = sym t.0 ∙ e in cc
other_outcome other id attempt n _ e t = t

passed : (events : List Event) (id : Text) (event : Event) (coming coming' : List Frame) → begins_attempt id event ≡ false → PassesOn id event coming coming' → Passed events id event coming coming'
passed events id (Event.Move other attempt frame) coming coming' going passes = by_id (bytes_eq other id) refl
  where
    by_id : (b : Bool) → bytes_eq other id ≡ b → Passed events id (Event.Move other attempt frame) coming coming'
    by_id true e = taken frame (passes.0 e) (all_requests events id (Event.Move other attempt frame) e) (λ n t. taken_outcome other id attempt n frame t)
    by_id false e = left (passes.1 e) (ap requests_in (nothing_added events id (Event.Move other attempt frame) e refl)) (λ n t. other_outcome other id attempt n frame e t)
passed events id (Event.Begin other now) coming coming' going passes = left (passes.1 going) (no_request events id (Event.Begin other now) refl) (λ n t. t)
passed events id (Event.Invoke new) coming coming' going passes = left passes (no_request events id (Event.Invoke new) refl) (λ n t. t)
passed events id (Event.Result other k result) coming coming' going passes = left passes (no_request events id (Event.Result other k result) refl) (λ n t. t)
passed events id (Event.Signal other key result) coming coming' going passes = left passes (no_request events id (Event.Signal other key result) refl) (λ n t. t)
passed events id (Event.Cancel other) coming coming' going passes = left passes (no_request events id (Event.Cancel other) refl) (λ n t. t)
passed events id (Event.Tick now) coming coming' going passes = left passes (no_request events id (Event.Tick now) refl) (λ n t. t)
passed events id (Event.Feed other attempt count) coming coming' going passes = left passes (no_request events id (Event.Feed other attempt count) refl) (λ n t. t)
passed events id (Event.Close other attempt) coming coming' going passes = left passes (no_request events id (Event.Close other attempt) refl) (λ n t. t)
passed events id (Event.Stop other attempt) coming coming' going passes = left passes (no_request events id (Event.Stop other attempt) refl) (λ n t. t)
passed events id (Event.Edit object request) coming coming' going passes = left passes (no_request events id (Event.Edit object request) refl) (λ n t. t)

module _ (events : List Event) (id : Text) (event : Event) (journal : List Arrival) (proposed : List (ℕ × NonEmptyValue)) (coming : List Frame)
    (accepted : IsAccepted (event ∷ events)) (old : begins id event ≡ false) (whole : (n : ℕ) → count_of n (numbers_asked (recorded_requests events id ++ requests_sent coming)) ≤ 1)
    (stand : OutcomesStand events id journal proposed coming) where
  -- what is added for a run's completion is an outcome that is taken
  added_taken : (n : ℕ) (coming' : List Frame) → recorded_requests (event ∷ events) id ++ requests_sent coming' ≡ recorded_requests events id ++ requests_sent coming
      → runs n (recorded_requests events id ++ requests_sent coming) ≡ true → has_arrived (arrivals_in (added_by events id event)) n ≡ true → TakesOutcome id n event
  added_taken n coming' same e come =
      outcomes_are_taken events id event n accepted old
      (come_runs (event ∷ events) id n (requests_sent coming') accepted
      (subst (λ (some : List Request). count_of n (numbers_asked some) ≤ 1) (sym same) (whole n)) (ap (runs n) same ∙ e)
      (ap (λ (arrivals : List Arrival). has_arrived arrivals n) (arrivals_now event events id old)
      ∙ list_any-append (completes n) (recorded_arrivals events id) (arrivals_in (added_by events id event))
      ∙ or-true_right (has_arrived (recorded_arrivals events id) n) (has_arrived (arrivals_in (added_by events id event)) n) come))
      come

  all_run : (n : ℕ) (coming' : List Frame) → recorded_requests (event ∷ events) id ++ requests_sent coming' ≡ recorded_requests events id ++ requests_sent coming
      → runs n (recorded_requests (event ∷ events) id) ≡ true → runs n (recorded_requests events id ++ requests_sent coming) ≡ true
  all_run n coming' same e =
      ap (runs n) (sym same) ∙ list_any-append (asks_run n) (recorded_requests (event ∷ events) id) (requests_sent coming')
      ∙ or-true_left (runs n (recorded_requests (event ∷ events) id)) (runs n (requests_sent coming')) e

  -- of a run that is recorded, what was recorded before
  own_before : (n : ℕ) (coming' : List Frame) → recorded_requests (event ∷ events) id ++ requests_sent coming' ≡ recorded_requests events id ++ requests_sent coming
      → runs n (recorded_requests (event ∷ events) id) ≡ true → has_arrived (recorded_arrivals events id) n ≡ true → (has_arrived journal n ≡ true) ⊎ (1 ≤ count_proposed n proposed)
  own_before n coming' same e come =
      stand.own n (come_runs events id n (requests_sent coming) accepted.1 (whole n) (all_run n coming' same e) come) come

  not-both : (b : Bool) → (b ≡ true → ⊥) → b ≡ false
  not-both true f = absurd (f refl)
  not-both false f = refl

  arrived-now-either : (n : ℕ) → has_arrived (recorded_arrivals (event ∷ events) id) n ≡ true → (has_arrived (recorded_arrivals events id) n ≡ true) ⊎ (has_arrived (arrivals_in (added_by events id event)) n ≡ true)
  arrived-now-either n e =
      arrived-either (recorded_arrivals events id) (arrivals_in (added_by events id event)) n (ap (λ (arrivals : List Arrival). has_arrived arrivals n) (sym (arrivals_now event events id old)) ∙ e)

  stays : (coming' : List Frame) → Passed events id event coming coming' → OutcomesStand (event ∷ events) id journal proposed coming'
  stays coming' (left same none no_outcome) = record {
    once = stand.once;
    few = λ n. subst (λ (some : List Frame). count_proposed n (outcomes_in some) ≤ count_proposed n proposed) (sym same) (stand.few n);
    unrecorded = λ n some. (let here : 1 ≤ count_proposed n (outcomes_in coming) = subst (λ (frames : List Frame). 1 ≤ count_proposed n (outcomes_in frames)) same some in
        not-both (has_arrived (recorded_arrivals (event ∷ events) id) n) (λ e. elim (arrived-now-either n e) [
          | inl before ↦ (let wrong : false ≡ true = sym (stand.unrecorded n here) ∙ before in cc)
          | inr now ↦ no_outcome n (added_taken n coming' all_same (behind-runs (recorded_requests events id) coming n stand.behind here) now)
        ]));
    behind = subst (λ (requests : List Request). ComeBehind requests coming') (sym recorded) (subst (ComeBehind (recorded_requests events id)) (sym same) stand.behind);
    own = λ n e come. elim (arrived-now-either n come) [
      | inl before ↦ own_before n coming' all_same e before
      | inr now ↦ absurd (no_outcome n (added_taken n coming' all_same (all_run n coming' all_same e) now))
    ];
  }
    where
      recorded : recorded_requests (event ∷ events) id ≡ recorded_requests events id
      recorded = requests_now event events id old ∙ ap (λ (more : List Request). recorded_requests events id ++ more) none ∙ append-nil (recorded_requests events id)

      all_same : recorded_requests (event ∷ events) id ++ requests_sent coming' ≡ recorded_requests events id ++ requests_sent coming
      all_same = ap₂ (λ (some : List Request) (frames : List Frame). some ++ requests_sent frames) recorded same
  stays coming' (taken frame same adds outcome) = record {
    once = stand.once;
    few = λ n. (let a = stand.few n in let b = parts n in omega (arith, a, b));
    unrecorded = λ n some. (let b = parts n in
        let here : 1 ≤ count_proposed n (outcomes_in coming) = omega (arith, b, some) in
        not-both (has_arrived (recorded_arrivals (event ∷ events) id) n) (λ e. elim (arrived-now-either n e) [
          | inl before ↦ (let wrong : false ≡ true = sym (stand.unrecorded n here) ∙ before in cc)
          | inr now ↦ (let first = outcome n (added_taken n coming' all_same (behind-runs (recorded_requests events id) coming n stand.behind here) now) in
              let c = stand.few n in
              let d = stand.once n in
              omega (arith, first, some, b, c, d))
        ]));
    behind = subst (λ (requests : List Request). ComeBehind requests coming') (sym recorded) (behind-next (recorded_requests events id) frame coming' (subst (ComeBehind (recorded_requests events id)) same stand.behind));
    own = λ n e come. elim (arrived-now-either n come) [
      | inl before ↦ own_before n coming' all_same e before
      | inr now ↦ (let first = outcome n (added_taken n coming' all_same (all_run n coming' all_same e) now) in
          let b = parts n in
          let c = stand.few n in
          inr (omega (arith, first, b, c)))
    ];
  }
    where
      parts : (n : ℕ) → count_proposed n (outcomes_in coming) ≡ count_proposed n (outcomes_in (frame ∷ [])) + count_proposed n (outcomes_in coming')
      parts n = ap (λ (frames : List Frame). count_proposed n (outcomes_in frames)) same ∙ ap (count_proposed n) (outcomes-append (frame ∷ []) coming') ∙ proposed-append n (outcomes_in (frame ∷ [])) (outcomes_in coming')

      recorded : recorded_requests (event ∷ events) id ≡ recorded_requests events id ++ request_sent frame
      recorded = requests_now event events id old ∙ ap (λ (more : List Request). recorded_requests events id ++ more) adds

      all_same : recorded_requests (event ∷ events) id ++ requests_sent coming' ≡ recorded_requests events id ++ requests_sent coming
      all_same =
          ap (λ (some : List Request). some ++ requests_sent coming') recorded ∙ append_assoc (recorded_requests events id) (request_sent frame) (requests_sent coming')
          ∙ ap (λ (frames : List Frame). recorded_requests events id ++ requests_sent frames) (sym same)

pub outcomes_stay : OutcomesStay
outcomes_stay next given arrivals events id event journal proposed coming coming' accepted old going passes begins stand =
    stays events id event journal proposed coming accepted old (begins_once next given arrivals (recorded_requests events id ++ requests_sent coming) begins) stand coming'
    (passed events id event coming coming' going passes)

-- ---- an outcome is sent

pub outcomes_are_new : OutcomesAreNew
outcomes_are_new next given arrivals events id journal proposed coming n value told accepted begins requested unknown unproposed stand = record {
  once = λ k. (let a = split k in let b = stand.once k in by_number k (λ e. (let c : count_proposed k proposed ≤ 0 = subst (λ (m : ℕ). count_proposed m proposed ≤ 0) e unproposed in let d = one-at-most (n == k) in omega (arith, a, b, c, d)))
      (λ e. omega (arith, a, b, e)));
  few = λ k. (let a = split k in let b = sent k in let c = stand.few k in omega (arith, a, b, c));
  unrecorded = λ k some. (let b = sent k in by_number k (λ e. subst (λ (m : ℕ). has_arrived (recorded_arrivals events id) m ≡ false) e not_recorded)
      (λ e. stand.unrecorded k (omega (arith, some, b, e))));
  behind = behind-append (recorded_requests events id) coming (Frame.RunOutcome n value told ∷ []) stand.behind (requested, tt);
  own = λ k e come. elim (stand.own k e come) [ inl a ↦ inl a | inr a ↦ inr (let b = split k in omega (arith, a, b)) ];
}
  where
    split : (k : ℕ) → count_proposed k (proposed ++ (n, value) ∷ []) ≡ count_proposed k proposed + (one_if (n == k) + 0)
    split k = proposed-append k proposed ((n, value) ∷ [])

    sent : (k : ℕ) → count_proposed k (outcomes_in (coming ++ Frame.RunOutcome n value told ∷ [])) ≡ count_proposed k (outcomes_in coming) + (one_if (n == k) + 0)
    sent k = ap (count_proposed k) (outcomes-append coming (Frame.RunOutcome n value told ∷ [])) ∙ proposed-append k (outcomes_in coming) ((n, value) ∷ [])

    by_number : {A : Type 0} (k : ℕ) → (n ≡ k → A) → (one_if (n == k) ≡ 0 → A) → A
    by_number {A} k same other = by_test (n == k) refl
      where
        by_test : (b : Bool) → (n == k) ≡ b → A
        by_test true e = same (eqb-true n k e)
        by_test false e = other (ap one_if e)

    not_recorded : has_arrived (recorded_arrivals events id) n ≡ false
    not_recorded = by_test (has_arrived (recorded_arrivals events id) n) refl
      where
        by_test : (b : Bool) → has_arrived (recorded_arrivals events id) n ≡ b → b ≡ false
        by_test true come = elim (stand.own n (come_runs events id n (requests_sent coming) accepted (begins_once next given arrivals (recorded_requests events id ++ requests_sent coming) begins n) requested come) come) [
          | inl a ↦ (let wrong : false ≡ true = sym unknown ∙ a in cc)
          | inr a ↦ absurd (omega (arith, a, unproposed))
        ]
        by_test false come = refl

pub others_follow : OthersFollow
others_follow events id journal proposed coming sent none stand = record {
  once = stand.once;
  few = λ n. subst (λ (outcomes : List (ℕ × NonEmptyValue)). count_proposed n outcomes ≤ count_proposed n proposed) (sym same) (stand.few n);
  unrecorded = λ n some. stand.unrecorded n (subst (λ (outcomes : List (ℕ × NonEmptyValue)). 1 ≤ count_proposed n outcomes) same some);
  behind = behind-append (recorded_requests events id) coming sent stand.behind (behind-none (recorded_requests events id ++ requests_sent coming) sent none);
  own = stand.own;
}
  where
    same : outcomes_in (coming ++ sent) ≡ outcomes_in coming
    same = outcomes-append coming sent ∙ ap (λ (more : List (ℕ × NonEmptyValue)). outcomes_in coming ++ more) none ∙ append-nil (outcomes_in coming)

-- ---- an outcome is taken

pub run_is : (n : ℕ) (request : Request) → asks_run n request ≡ true → is_run (Some request) ≡ true
run_is n (Request.Run m name) e = refl
run_is n _ e = cc

find_some : (n : ℕ) (requests : List Request) → list_any (asks_for n) requests ≡ true → (request : Request) × (find (asks_for n) requests ≡ Some request)
find_some n [] e = cc
find_some n (request ∷ requests) e = by_test (asks_for n request) e (λ f. find_some n requests f)
  where
    by_test : (b : Bool) → (b || list_any (asks_for n) requests) ≡ true → (list_any (asks_for n) requests ≡ true → (other : Request) × (find (asks_for n) requests ≡ Some other))
        → (other : Request) × ((if b then Some request else find (asks_for n) requests) ≡ Some other)
    by_test true f later = (request, refl)
    by_test false f later = later f

pub outcomes_are_open : OutcomesAreOpen
outcomes_are_open events id journal proposed coming n value told accepted stand =
    let here : runs n (recorded_requests events id) ≡ true = stand.behind.0 in
    let (request, found) = find_some n (recorded_requests events id) (runs-asked n (recorded_requests events id) here) in
    let is : asks_run n request ≡ true = found_kind n (asks_run n) (runs-asked n) (recorded_requests events id) request ((recorded_once events id accepted).asked n) found here in
    let waits : is_awaited (entries_of events id) n ≡ true = ap not (stand.unrecorded n one) in
    ap (λ (b : Bool). is_run (if b then request_asking (entries_of events id) n else None)) waits ∙ ap is_run found ∙ run_is n request is
  where
    one : 1 ≤ count_proposed n (outcomes_in (Frame.RunOutcome n value told ∷ coming))
    one = let e : one_if (n == n) ≡ 1 = one-same n n refl in omega (arith, e)
