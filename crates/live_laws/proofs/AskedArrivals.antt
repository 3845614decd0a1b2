-- What the arrivals of an invocation are, by what was asked for.
use Rattle.std.proofs.Common.{ℕ, zero, suc, ◌+◌, ◌≤◌, ◌==◌, max, arith, ◌≡◌, refl, sym, ap, subst, ◌∙◌, Bool, true, false, if◌then◌else◌, List, [], ◌∷◌, ◌++◌, append_assoc, length, length-append}
use Rattle.std.specs.List.{list_any, list_all}
use Rattle.std.proofs.lemmas.Bool.{eqb-true, eq-eqb}
use Rattle.journal_model.specs.declared.notification.NotificationId.TheVariants.{CompletionId}
use Rattle.journal_model.specs.declared.notification.NotificationResult.{NotificationResult}
use Rattle.journal_model.specs.Notification.{Arrival}
use Rattle.journal_model.specs.Request.{Request, completions_asked}
use Rattle.journal_model.specs.Delivery.{results_for}
use Rattle.journal_model.specs.Journal.{asks_for, sleep_in}
use Rattle.journal_model.specs.Cause.{greatest, do_ascend, is_outcome, is_invocation_id, may_complete}
use Rattle.journal_model.specs.Run.{run_requests}
use Rattle.journal_model.proofs.Continuing.{run_requests-beginning}
use Rattle.journal_laws.proofs.Leaving.{or-true_left, and-true}
use Rattle.run_laws.proofs.Ascending.{ascends, run_rises}
use Rattle.input_laws.specs.CompletionsOnce.{count_of, numbers_asked, numbers_come, ComeWhenAsked}
use Rattle.input_laws.proofs.Once.{count-append, ascend-above, ascend-once, below-greatest}
use Rattle.input_laws.proofs.AskedOnce.{kind_first}
use Rattle.input_laws.proofs.Results.{count-results}
use Rattle.attempt_model.specs.Attempts.{gives_id}
use Rattle.attempt_laws.proofs.Tables.{results-append}
use Rattle.attempt_laws.proofs.Coming.{gives, any-append, given-asked, all-front, no-results}
use Rattle.live_laws.specs.AskedArrivals.{GiveIds}
use Rattle.live_laws.specs.MachineLaws.{ArrivalsComeAsAsked}

-- ---- what gives an invocation id

-- what completes it is an invocation id
pub given_completes : (n : ℕ) (request : Request) (result : NotificationResult) → gives_id n request ≡ true → may_complete request n result ≡ true → is_invocation_id result ≡ true
given_completes n (Request.CallService call m r name) result g may = by_test (n == m) refl may
  where
    by_test : (b : Bool) → (n == m) ≡ b → (if b then is_invocation_id result else is_outcome result) ≡ true → is_invocation_id result ≡ true
    by_test true f h = h
    by_test false f h =
        let same : n ≡ m = sym (eqb-true m n g) in
        let wrong : false ≡ true = sym f ∙ eq-eqb n m same in
        cc
given_completes n (Request.OneWayCall call time m name) result g may = may
given_completes n _ result g may = cc

-- and it is no sleep
pub gives_no_sleep : (n : ℕ) (request : Request) → gives_id n request ≡ true → sleep_in request ≡ []
gives_no_sleep n (Request.Sleep moment m name) f = cc
gives_no_sleep n _ f = refl

-- ---- results by their number

pub none_come : (n : ℕ) (arrivals : List Arrival) → count_of n (numbers_come arrivals) ≡ 0 → results_for arrivals (CompletionId n) ≡ []
none_come n arrivals e = no-results (results_for arrivals (CompletionId n)) (count-results n arrivals ∙ e)

module _ (requests : List Request) (first later : List Arrival) where
  -- what holds of all that has come holds of the first of it
  pub fewer_come : ComeWhenAsked requests (first ++ later) → ComeWhenAsked requests first
  fewer_come come = record {
    once = λ n. (let sum = both n in let once = come.once n in omega (arith, sum, once));
    asked = λ n some. come.asked n (let sum = both n in omega (arith, sum, some));
  }
    where
      both : (n : ℕ) → length (results_for (first ++ later) (CompletionId n)) ≡ length (results_for first (CompletionId n)) + length (results_for later (CompletionId n))
      both n = ap length (results-append first later (CompletionId n)) ∙ length-append (results_for first (CompletionId n)) (results_for later (CompletionId n))

  pub fewer_give : GiveIds requests (first ++ later) → GiveIds requests first
  fewer_give give n e =
      all-front is_invocation_id (results_for first (CompletionId n)) (results_for later (CompletionId n))
      (ap (list_all is_invocation_id) (sym (results-append first later (CompletionId n))) ∙ give n e)

-- ---- a run asks for each completion once

asks_above : (n last : ℕ) (requests : List Request) → ascends last requests ≡ true → n ≤ last → count_of n (numbers_asked requests) ≡ 0
asks_above n last [] e low = refl
asks_above n last (request ∷ requests) e low =
    let (here, rest) = and-true (do_ascend last (completions_asked request)) (ascends (max last (greatest (completions_asked request))) requests) e in
    let own = ascend-above n last (completions_asked request) here low in
    let later = asks_above n (max last (greatest (completions_asked request))) requests rest (omega (arith, low)) in
    let sum = count-append n (completions_asked request) (numbers_asked requests) in
    omega (arith, own, later, sum)

pub asks_once : (n last : ℕ) (requests : List Request) → ascends last requests ≡ true → count_of n (numbers_asked requests) ≤ 1
asks_once n last [] e = omega arith
asks_once n last (request ∷ requests) e =
    let (here, rest) = and-true (do_ascend last (completions_asked request)) (ascends (max last (greatest (completions_asked request))) requests) e in
    by_count (count_of n (completions_asked request)) refl (ascend-once n last (completions_asked request) here) rest
    (asks_once n (max last (greatest (completions_asked request))) requests rest)
  where
    sum : count_of n (completions_asked request ++ numbers_asked requests) ≡ count_of n (completions_asked request) + count_of n (numbers_asked requests)
    sum = count-append n (completions_asked request) (numbers_asked requests)

    by_count : (k : ℕ) → count_of n (completions_asked request) ≡ k → count_of n (completions_asked request) ≤ 1 → ascends (max last (greatest (completions_asked request))) requests ≡ true
        → count_of n (numbers_asked requests) ≤ 1 → count_of n (completions_asked request ++ numbers_asked requests) ≤ 1
    by_count zero f one rest later = let all = sum in omega (arith, all, f, later)
    by_count (suc k) f one rest later =
        let low : n ≤ greatest (completions_asked request) = below-greatest n (completions_asked request) (omega (arith, f)) in
        let none = asks_above n (max last (greatest (completions_asked request))) requests rest (omega (arith, low)) in
        let all = sum in
        omega (arith, all, one, none)

pub come_as_asked : ArrivalsComeAsAsked
come_as_asked next given requests arrivals made begins come give keys known = record { ids = ids; keys = keys; known = known }
  where
    ids : (n : ℕ) → gives n (run_requests next given arrivals made) ≡ true → list_all is_invocation_id (results_for arrivals (CompletionId n)) ≡ true
    ids n e = by_results (results_for arrivals (CompletionId n)) refl
      where
        recorded : list_any (asks_for n) requests ≡ true → gives n requests ≡ true
        recorded asks =
            let (rest, f) = begins.beginning in
            let (more, g) = run_requests-beginning next given arrivals begins.calls (begins.calls + made) (omega arith) in
            let (others, h) = run_requests-beginning next given arrivals made (begins.calls + made) (omega arith) in
            let whole : requests ++ (rest ++ more) ≡ run_requests next given arrivals (begins.calls + made) =
            sym (append_assoc requests rest more) ∙ ap (λ (some : List Request). some ++ more) f ∙ g in
            kind_first n (gives_id n) (given-asked n) requests (rest ++ more)
            (subst (λ (some : List Request). count_of n (numbers_asked some) ≤ 1) (sym whole)
            (asks_once n 0 (run_requests next given arrivals (begins.calls + made)) (run_rises next given arrivals (begins.calls + made)).ascend))
            asks
            (ap (gives n) (whole ∙ sym h) ∙ any-append (gives_id n) (run_requests next given arrivals made) others
            ∙ or-true_left (gives n (run_requests next given arrivals made)) (gives n others) e)

        by_results : (results : List NotificationResult) → results_for arrivals (CompletionId n) ≡ results → list_all is_invocation_id (results_for arrivals (CompletionId n)) ≡ true
        by_results [] f = ap (list_all is_invocation_id) f
        by_results (result ∷ results) f =
            let some : length (results_for arrivals (CompletionId n)) ≡ suc (length results) = ap length f in
            give n (recorded (come.asked n (omega (arith, some))))
