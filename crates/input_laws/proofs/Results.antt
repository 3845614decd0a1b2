-- What was counted of completions, said of the results that have come.
use Rattle.std.proofs.Common.{ℕ, zero, suc, true≢false, ◌+◌, ◌≤◌, ◌==◌, arith, ◌≡◌, refl, sym, ◌∙◌, Bool, true, false, ◌||◌, if◌then◌else◌, List, [], ◌∷◌, ◌++◌, length, map, filter}
use Rattle.std.specs.List.{list_any}
use Rattle.journal_model.specs.declared.notification.NotificationId.{NotificationId}
use Rattle.journal_model.specs.declared.notification.NotificationId.TheVariants.{CompletionId, SignalId, SignalName}
use Rattle.journal_model.specs.Notification.{Arrival, same_id}
use Rattle.journal_model.specs.Request.{Request, completions_asked}
use Rattle.journal_model.specs.Journal.{asks_for}
use Rattle.journal_model.specs.Delivery.{results_for}
use Rattle.input_laws.specs.CompletionsOnce.{count_of, numbers_asked, completion_numbers_of, numbers_come, AreOnce, ComeWhenAsked, CompletionsComeWhenAsked}
use Rattle.input_laws.proofs.Once.{count-append, recorded_once}

pub count-results : (n : ℕ) (arrivals : List Arrival) → length (results_for arrivals (CompletionId n)) ≡ count_of n (numbers_come arrivals)
count-results n [] = refl
count-results n (arrival ∷ arrivals) = by_id arrival.id (count-results n arrivals)
  where
    by_id : (id : NotificationId) → length (results_for arrivals (CompletionId n)) ≡ count_of n (numbers_come arrivals)
        → length (map (λ (a : Arrival). a.result) (if same_id id (CompletionId n) then arrival ∷ filter (λ (a : Arrival). same_id a.id (CompletionId n)) arrivals
        else filter (λ (a : Arrival). same_id a.id (CompletionId n)) arrivals)) ≡ count_of n (completion_numbers_of id ++ numbers_come arrivals)
    by_id (CompletionId m) later = by_test (m == n)
      where
        by_test : (b : Bool) → length (map (λ (a : Arrival). a.result) (if b then arrival ∷ filter (λ (a : Arrival). same_id a.id (CompletionId n)) arrivals
            else filter (λ (a : Arrival). same_id a.id (CompletionId n)) arrivals)) ≡ (if b then 1 else 0) + count_of n (numbers_come arrivals)
        by_test true = omega (arith, later)
        by_test false = omega (arith, later)
    by_id (SignalId m) later = later
    by_id (SignalName name) later = later

any-number : (n : ℕ) (ns : List ℕ) → 1 ≤ count_of n ns → list_any (λ m. m == n) ns ≡ true
any-number n [] some = absurd (omega (arith, some))
any-number n (m ∷ ns) some = by_test (m == n) some (any-number n ns)
  where
    by_test : (b : Bool) → 1 ≤ (if b then 1 else 0) + count_of n ns → (1 ≤ count_of n ns → list_any (λ m. m == n) ns ≡ true) → (b || list_any (λ m. m == n) ns) ≡ true
    by_test true some later = refl
    by_test false some later = later (omega (arith, some))

any-request : (n : ℕ) (requests : List Request) → 1 ≤ count_of n (numbers_asked requests) → list_any (asks_for n) requests ≡ true
any-request n [] some = absurd (omega (arith, some))
any-request n (request ∷ requests) some = by_test (list_any (λ m. m == n) (completions_asked request)) refl (any-request n requests)
  where
    behind : list_any (λ m. m == n) (completions_asked request) ≡ false → (k : ℕ) → count_of n (completions_asked request) ≡ k → 1 ≤ count_of n (numbers_asked requests)
    behind e zero f = let sum = count-append n (completions_asked request) (numbers_asked requests) in omega (arith, some)
    behind e (suc k) f = absurd (true≢false (sym (any-number n (completions_asked request) (omega (arith, f))) ∙ e))

    by_test : (b : Bool) → list_any (λ m. m == n) (completions_asked request) ≡ b → (1 ≤ count_of n (numbers_asked requests) → list_any (asks_for n) requests ≡ true)
        → (b || list_any (asks_for n) requests) ≡ true
    by_test true e later = refl
    by_test false e later = later (behind e (count_of n (completions_asked request)) refl)

pub come_when_asked : (requests : List Request) (arrivals : List Arrival) → AreOnce requests arrivals → ComeWhenAsked requests arrivals
come_when_asked requests arrivals once = record {
  once = λ n. let same = count-results n arrivals in let come = once.come n in let asked = once.asked n in omega arith;
  asked = λ n some. let same = count-results n arrivals in let come = once.come n in any-request n requests (omega (arith, some));
}

pub recorded_when_asked : CompletionsComeWhenAsked
recorded_when_asked events id accepted = come_when_asked _ _ (recorded_once events id accepted)
