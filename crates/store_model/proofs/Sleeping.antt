-- Sleeps that a tick ends: each completion once, and only one that is awaited and was asked for.
use Rattle.std.proofs.Common.{ℕ, max, ◌≤◌, arith, le_trans, le_of_eq, ◌==◌, nat_lt, nat_le, ◌≡◌, refl, sym, ap, ◌∙◌, Bool, true, false, ◌||◌, ◌&&◌, if◌then◌else◌, List, [], ◌∷◌, length, map, filter, IsPermutation}
use Rattle.std.specs.List.{list_any}
use Rattle.std.proofs.lemmas.Bool.{eqb-true}
use Rattle.std.proofs.lemmas.List.Sorted.{IsPermutation-refl, IsPermutation-trans, IsPermutation-cons, length_permutation, list_any-IsPermutation}
use Rattle.sqlite_keyed.proofs.ListLemmas.{IsPermutation-filter}
use Rattle.journal_model.specs.Notification.{Arrival}
use Rattle.journal_model.specs.declared.notification.NotificationResult.{NotificationResult}
use Rattle.journal_model.specs.Request.{Request, completions_asked}
use Rattle.journal_model.specs.Journal.{Entry, asks_for, requests_in, completes, completion, is_awaited, sleep_in, sleeps_in, by_moment, sorted_by_moment, can_be_due, is_sleep_over, slept}
use Rattle.journal_model.specs.Cause.{do_ascend, greatest}
use Rattle.store_model.proofs.States.{exchanged}
use Rattle.store_model.proofs.Opening.{both_parts}
use Rattle.store_model.proofs.Asking.{ascend_from, above_none}

put_by_moment : (sleep : ℕ × ℕ) (sleeps : List (ℕ × ℕ)) → IsPermutation (by_moment sleep sleeps) (sleep ∷ sleeps)
put_by_moment sleep [] = IsPermutation-refl (sleep ∷ [])
put_by_moment sleep (next ∷ sleeps) = by_test (nat_lt next.0 sleep.0) (put_by_moment sleep sleeps)
  where
    by_test : (b : Bool) → IsPermutation (by_moment sleep sleeps) (sleep ∷ sleeps)
        → IsPermutation (if b then next ∷ by_moment sleep sleeps else sleep ∷ next ∷ sleeps) (sleep ∷ next ∷ sleeps)
    by_test true h =
        IsPermutation-trans (next ∷ by_moment sleep sleeps) (next ∷ sleep ∷ sleeps) (sleep ∷ next ∷ sleeps)
        (IsPermutation-cons next (by_moment sleep sleeps) (sleep ∷ sleeps) h) (exchanged next sleep sleeps)
    by_test false h = IsPermutation-refl (sleep ∷ next ∷ sleeps)

pub sorted_same : (sleeps : List (ℕ × ℕ)) → IsPermutation (sorted_by_moment sleeps) sleeps
sorted_same [] = IsPermutation-refl []
sorted_same (sleep ∷ sleeps) =
    IsPermutation-trans (by_moment sleep (sorted_by_moment sleeps)) (sleep ∷ sorted_by_moment sleeps) (sleep ∷ sleeps)
    (put_by_moment sleep (sorted_by_moment sleeps))
    (IsPermutation-cons sleep (sorted_by_moment sleeps) sleeps (sorted_same sleeps))

abbrev pub ends_at : ℕ → ℕ × ℕ → Bool
ends_at n sleep = sleep.1 == n

abbrev pub answer_of_sleep : ℕ × ℕ → Arrival
answer_of_sleep sleep = completion sleep.1 NotificationResult.Void

-- ---- a sleep asks for its completion

asked_by_sleep : (n : ℕ) (request : Request) → list_any (ends_at n) (sleep_in request) ≡ true → asks_for n request ≡ true
asked_by_sleep n (Request.Sleep moment k name) e = e
asked_by_sleep n _ e = cc

pub asked_by_sleeps : (n : ℕ) (requests : List Request) → list_any (ends_at n) (sleeps_in requests) ≡ true → list_any (asks_for n) requests ≡ true
asked_by_sleeps n [] e = cc
asked_by_sleeps n (Request.Sleep moment k name ∷ requests) e = by_test (k == n) e (asked_by_sleeps n requests)
  where
    by_test : (b : Bool) → (b || list_any (ends_at n) (sleeps_in requests)) ≡ true → (list_any (ends_at n) (sleeps_in requests) ≡ true → list_any (asks_for n) requests ≡ true)
        → ((b || false) || list_any (asks_for n) requests) ≡ true
    by_test true e later = refl
    by_test false e later = later e
asked_by_sleeps n (request ∷ requests) e = or_right (asks_for n request) (list_any (asks_for n) requests) (asked_by_sleeps n requests e)
  where
    or_right : (a b : Bool) → b ≡ true → (a || b) ≡ true
    or_right true b h = refl
    or_right false b h = h

-- ---- and one sleep alone does

abbrev pub count : ℕ → List (ℕ × ℕ) → ℕ
count n sleeps = length (filter (ends_at n) sleeps)

pub no_sleep : (n last : ℕ) (requests : List Request) → n ≤ last → ascend_from last requests ≡ true → count n (sleeps_in requests) ≡ 0
no_sleep n last [] below up = refl
no_sleep n last (Request.Sleep moment k name ∷ requests) below up =
    let (here, rest) = both_parts (do_ascend last (k ∷ [])) (ascend_from (max last (greatest (k ∷ []))) requests) up in
    let other : (k == n) ≡ false = or_left (k == n) (above_none last n (k ∷ []) below here) in
    ap (λ (b : Bool). length (if b then (moment, k) ∷ filter (ends_at n) (sleeps_in requests) else filter (ends_at n) (sleeps_in requests))) other
    ∙ no_sleep n (max last (greatest (k ∷ []))) requests (omega arith) rest
  where
    or_left : (a : Bool) → (a || false) ≡ false → a ≡ false
    or_left true e = e
    or_left false e = refl
no_sleep n last (request ∷ requests) below up =
    let (here, rest) = both_parts (do_ascend last (completions_asked request)) (ascend_from (max last (greatest (completions_asked request))) requests) up in
    no_sleep n (max last (greatest (completions_asked request))) requests (omega arith) rest

pub one_sleep : (n last : ℕ) (requests : List Request) → ascend_from last requests ≡ true → count n (sleeps_in requests) ≤ 1
one_sleep n last [] up = omega arith
one_sleep n last (Request.Sleep moment k name ∷ requests) up =
    let (here, rest) = both_parts (do_ascend last (k ∷ [])) (ascend_from (max last (greatest (k ∷ []))) requests) up in
    by_test (k == n) refl rest (one_sleep n (max last (greatest (k ∷ []))) requests rest)
  where
    by_test : (b : Bool) → (k == n) ≡ b → ascend_from (max last (greatest (k ∷ []))) requests ≡ true → count n (sleeps_in requests) ≤ 1
        → length (if b then (moment, k) ∷ filter (ends_at n) (sleeps_in requests) else filter (ends_at n) (sleeps_in requests)) ≤ 1
    by_test true e rest more =
        let same : k ≡ n = eqb-true k n e in
        let none : count n (sleeps_in requests) ≡ 0 = no_sleep n (max last (greatest (k ∷ []))) requests (omega arith) rest in
        omega arith
    by_test false e rest more = more
one_sleep n last (request ∷ requests) up =
    let (here, rest) = both_parts (do_ascend last (completions_asked request)) (ascend_from (max last (greatest (completions_asked request))) requests) up in
    one_sleep n (max last (greatest (completions_asked request))) requests rest

-- ---- what a tick ends

and_last : (a b c : Bool) → (a && (b && c)) ≡ true → c ≡ true
and_last true true c e = e
and_last true false c e = cc
and_last false b c e = cc

awaited_of : (entries : List Entry) (now n : ℕ) (sleeps : List (ℕ × ℕ)) → list_any (completes n) (map answer_of_sleep (filter (is_sleep_over entries now) sleeps)) ≡ true
    → (is_awaited entries n ≡ true) × (list_any (ends_at n) sleeps ≡ true)
awaited_of entries now n [] e = cc
awaited_of entries now n (sleep ∷ sleeps) e = by_over (is_sleep_over entries now sleep) refl e (awaited_of entries now n sleeps)
  where
    or_right : (a b : Bool) → b ≡ true → (a || b) ≡ true
    or_right true b h = refl
    or_right false b h = h

    by_over : (a : Bool) → is_sleep_over entries now sleep ≡ a
        → list_any (completes n) (map answer_of_sleep (if a then sleep ∷ filter (is_sleep_over entries now) sleeps else filter (is_sleep_over entries now) sleeps)) ≡ true
        → (list_any (completes n) (map answer_of_sleep (filter (is_sleep_over entries now) sleeps)) ≡ true → (is_awaited entries n ≡ true) × (list_any (ends_at n) sleeps ≡ true))
        → (is_awaited entries n ≡ true) × ((sleep.1 == n) || list_any (ends_at n) sleeps ≡ true)
    by_over true f e later = by_number (sleep.1 == n) refl e
      where
        by_number : (b : Bool) → (sleep.1 == n) ≡ b → (b || list_any (completes n) (map answer_of_sleep (filter (is_sleep_over entries now) sleeps))) ≡ true
            → (is_awaited entries n ≡ true) × ((b || list_any (ends_at n) sleeps) ≡ true)
        by_number true g e =
            (ap (is_awaited entries) (sym (eqb-true sleep.1 n g)) ∙ and_last (nat_le sleep.0 now) (can_be_due sleep) (is_awaited entries sleep.1) f, refl)
        by_number false g e = later e
    by_over false f e later = ((later e).0, or_right (sleep.1 == n) (list_any (ends_at n) sleeps) ((later e).1))

count_over : (entries : List Entry) (now n : ℕ) (sleeps : List (ℕ × ℕ)) → length (filter (completes n) (map answer_of_sleep (filter (is_sleep_over entries now) sleeps))) ≤ count n sleeps
count_over entries now n [] = omega arith
count_over entries now n (sleep ∷ sleeps) = by_cases (is_sleep_over entries now sleep) (sleep.1 == n) refl (count_over entries now n sleeps)
  where
    by_cases : (a b : Bool) → (sleep.1 == n) ≡ b → length (filter (completes n) (map answer_of_sleep (filter (is_sleep_over entries now) sleeps))) ≤ count n sleeps
        → length (filter (completes n) (map answer_of_sleep (if a then sleep ∷ filter (is_sleep_over entries now) sleeps else filter (is_sleep_over entries now) sleeps)))
        ≤ length (if b then sleep ∷ filter (ends_at n) sleeps else filter (ends_at n) sleeps)
    by_cases true true e h = rw e (omega arith)
    by_cases true false e h = rw e h
    by_cases false true e h = omega arith
    by_cases false false e h = h

pub slept_awaited : (entries : List Entry) (now n : ℕ) → list_any (completes n) (slept entries now) ≡ true
    → (is_awaited entries n ≡ true) × (list_any (asks_for n) (requests_in entries) ≡ true)
slept_awaited entries now n e =
    let sleeps = sleeps_in (requests_in entries) in
    let found = awaited_of entries now n (sorted_by_moment sleeps) e in
    (found.0, asked_by_sleeps n (requests_in entries) (sym (list_any-IsPermutation (ends_at n) (sorted_by_moment sleeps) sleeps (sorted_same sleeps)) ∙ found.1))

pub slept_once : (entries : List Entry) (now n : ℕ) → ascend_from 0 (requests_in entries) ≡ true → length (filter (completes n) (slept entries now)) ≤ 1
slept_once entries now n up =
    let sleeps = sleeps_in (requests_in entries) in
    let same : count n sleeps ≡ count n (sorted_by_moment sleeps) =
    length_permutation (filter (ends_at n) (sorted_by_moment sleeps)) (filter (ends_at n) sleeps)
    (IsPermutation-filter (ends_at n) (sorted_by_moment sleeps) sleeps (sorted_same sleeps)) in
    let under = count_over entries now n (sorted_by_moment sleeps) in
    let one = one_sleep n 0 (requests_in entries) up in
    le_trans under (le_trans (le_of_eq (sym same)) one)
