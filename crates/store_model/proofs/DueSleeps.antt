-- The rows that are due tell which sleeps a tick ends.
use Rattle.std.proofs.Common.{ℕ, pos, max, ◌<◌, ◌≤◌, ◌^◌, arith, nat_lt, nat_le, ◌≡◌, ◌⊎◌, refl, sym, ap, ap₂, subst, ◌∙◌, inl, inr, true≢false, Bool, true, false, ◌&&◌, if◌then◌else◌, List, [], ◌∷◌, map, filter, cond, bytes_eq, Ordering, Less, Equal, Greater, is_eq, IsPermutation}
use Rattle.std.specs.List.{AllByRecursion}
use Rattle.std.specs.Int.{w64, cast_signed}
use Rattle.std.specs.Ordering.{int_cmp, nat_cmp, ordering_then}
use Rattle.std.specs.Cmp.{IsTotalOrder}
use Rattle.std.specs.Cmp.Lexicographic.{slice_cmp, nat_list_cmp_total}
use Rattle.std.proofs.lemmas.Bool.{cases_Bool, le-ltb, lt-ltb, ltb-true, ltb-false}
use Rattle.std.proofs.lemmas.Cmp.{int_cmp_total, on_total, then_total, tied_itself}
use Rattle.std.proofs.lemmas.Int.{to_z_pos}
use Rattle.std.proofs.lemmas.List.Sorted.{IsPermutation-map, IsPermutation-refl, IsPermutation-sym, IsPermutation-trans}
use Rattle.std.proofs.lemmas.Map.Text.{is_eq-slice_cmp}
use Rattle.std.proofs.lemmas.Slice.Eq.{bytes_eq-Decides}
use Rattle.sqlite_trees.specs.Tree.{IsAscending}
use Rattle.sqlite_keyed.specs.Lists.{sort_by}
use Rattle.sqlite_keyed.proofs.ListLemmas.{all_kept, all_weaker, ascending-filter, ascending-map, filter-map, filter_same, IsPermutation-filter}
use Rattle.sqlite_keyed.proofs.SortLemmas.{IsPermutation-sort_by}
use Rattle.journal_model.specs.Notification.{Text}
use Rattle.journal_model.specs.Request.{Request, completions_asked}
use Rattle.journal_model.specs.Event.{Event}
use Rattle.journal_model.specs.Journal.{Entry, is_open, requests_in, is_awaited, sleeps_in, by_moment, sorted_by_moment, can_be_due, is_sleep_over, entries_of}
use Rattle.journal_model.specs.Cause.{IsAccepted, do_ascend, greatest}
use Rattle.store_tables.specs.Records.{Records, ends_by, is_sleep_of}
use Rattle.store_tables.specs.Orders.{AreApart, sleep_cmp}
use Rattle.store_tables.specs.declared.row.SleepRow.{SleepRow}
use Rattle.store_model.specs.Sleeps.{due_until, sleep_row}
use Rattle.store_model.specs.KeptRecords.{IsKept}
use Rattle.store_model.proofs.Lists.{filter_swap}
use Rattle.store_model.proofs.States.{itself}
use Rattle.store_model.specs.Lookups.{AllEndedFound, due_sleeps, ended_sleeps, is_open_sleep, open_among}
use Rattle.store_model.proofs.Only.{filter_both}
use Rattle.store_model.proofs.Opening.{both_parts}
use Rattle.store_model.proofs.Asking.{ascend_from, ascends}
use Rattle.store_model.proofs.Sleeping.{sorted_same}
use Rattle.store_model.proofs.OpenSleeps.{due_told, sleeps_kept_after}
use Rattle.store_model.proofs.Sorting.{rising_unique, sorted_rises}

abbrev sleeps_of : List Entry → List (ℕ × ℕ)
sleeps_of entries = sleeps_in (requests_in entries)

-- ---- in the order in which they were asked for, completions ascend

abbrev DoAscend : List (ℕ × ℕ) → Type 0
DoAscend = IsAscending (λ (a b : ℕ × ℕ). a.1 < b.1)

record Climbs (last : ℕ) (sleeps : List (ℕ × ℕ)) : Type 0 where
  above : AllByRecursion (λ (sleep : ℕ × ℕ). last < sleep.1) sleeps
  up : DoAscend sleeps

climbs : (last : ℕ) (requests : List Request) → ascend_from last requests ≡ true → Climbs last (sleeps_in requests)
climbs last [] e = record { above = tt; up = tt }
climbs last (Request.Sleep moment n name ∷ requests) e =
    let (here, rest) = both_parts (do_ascend last (n ∷ [])) (ascend_from (max last (greatest (n ∷ []))) requests) e in
    let later = climbs (max last (greatest (n ∷ []))) requests rest in
    let first : last < n = ltb-true last n ((both_parts (nat_lt last n) true here).0) in
    record {
      above = (first, all_weaker (λ (sleep : ℕ × ℕ). max last (greatest (n ∷ [])) < sleep.1) (λ (sleep : ℕ × ℕ). last < sleep.1) (λ sleep more. omega (arith, more)) (sleeps_in requests) later.above);
      up = (all_weaker (λ (sleep : ℕ × ℕ). max last (greatest (n ∷ [])) < sleep.1) (λ (sleep : ℕ × ℕ). n < sleep.1) (λ sleep more. omega (arith, more)) (sleeps_in requests) later.above, later.up);
    }
climbs last (request ∷ requests) e =
    let (here, rest) = both_parts (do_ascend last (completions_asked request)) (ascend_from (max last (greatest (completions_asked request))) requests) e in
    let later = climbs (max last (greatest (completions_asked request))) requests rest in
    record {
      above = all_weaker (λ (sleep : ℕ × ℕ). max last (greatest (completions_asked request)) < sleep.1) (λ (sleep : ℕ × ℕ). last < sleep.1) (λ sleep more. omega (arith, more)) (sleeps_in requests) later.above;
      up = later.up;
    }

-- ---- sorted by moment, they ascend by moment, and those of one moment by completion

abbrev IsEarlier : ℕ × ℕ → ℕ × ℕ → Type 0
IsEarlier a b = (a.0 < b.0) ⊎ ((a.0 ≡ b.0) × (a.1 < b.1))

at_or_after : (a b : ℕ × ℕ) → IsEarlier a b → a.0 ≤ b.0
at_or_after a b (inl less) = omega (arith, less)
at_or_after a b (inr same) = omega (arith, same.0)

earlier_of : (a b : ℕ × ℕ) → a.0 ≤ b.0 → a.1 < b.1 → IsEarlier a b
earlier_of a b most less = elim (cases_Bool (nat_lt a.0 b.0)) [
  | inl e ↦ inl (ltb-true a.0 b.0 e)
  | inr e ↦ inr (omega (arith, most, ltb-false a.0 b.0 e), less)
]

all_by_moment : (P : ℕ × ℕ → Type 0) (x : ℕ × ℕ) (xs : List (ℕ × ℕ)) → P x → AllByRecursion P xs → AllByRecursion P (by_moment x xs)
all_by_moment P x [] h all = (h, tt)
all_by_moment P x (y ∷ ys) h all = by_test (nat_lt y.0 x.0) (all_by_moment P x ys h all.1)
  where
    by_test : (b : Bool) → AllByRecursion P (by_moment x ys) → AllByRecursion P (if b then y ∷ by_moment x ys else x ∷ y ∷ ys)
    by_test true more = (all.0, more)
    by_test false more = (h, all)

pub all_sorted : (P : ℕ × ℕ → Type 0) (xs : List (ℕ × ℕ)) → AllByRecursion P xs → AllByRecursion P (sorted_by_moment xs)
all_sorted P [] all = tt
all_sorted P (x ∷ xs) all = all_by_moment P x (sorted_by_moment xs) all.0 (all_sorted P xs all.1)

put_ascends : (x : ℕ × ℕ) (xs : List (ℕ × ℕ)) → AllByRecursion (λ (y : ℕ × ℕ). x.1 < y.1) xs → IsAscending IsEarlier xs → IsAscending IsEarlier (by_moment x xs)
put_ascends x [] above up = (tt, tt)
put_ascends x (y ∷ ys) above up = by_test (nat_lt y.0 x.0) refl (put_ascends x ys above.1 up.1)
  where
    by_test : (b : Bool) → nat_lt y.0 x.0 ≡ b → IsAscending IsEarlier (by_moment x ys) → IsAscending IsEarlier (if b then y ∷ by_moment x ys else x ∷ y ∷ ys)
    by_test true e more = (all_by_moment (IsEarlier y) x ys (inl (ltb-true y.0 x.0 e)) up.0, more)
    by_test false e more =
        let most : x.0 ≤ y.0 = ltb-false y.0 x.0 e in (
          (earlier_of x y most above.0, both_later ys up.0 above.1),
          up,
        )
      where
        both_later : (zs : List (ℕ × ℕ)) → AllByRecursion (IsEarlier y) zs → AllByRecursion (λ (z : ℕ × ℕ). x.1 < z.1) zs → AllByRecursion (IsEarlier x) zs
        both_later [] after above = tt
        both_later (z ∷ zs) after above =
            let most : x.0 ≤ y.0 = ltb-false y.0 x.0 e in
            let next = at_or_after y z after.0 in
            (earlier_of x z (omega (arith, most, next)) above.0, both_later zs after.1 above.1)

sorted_ascends : (xs : List (ℕ × ℕ)) → DoAscend xs → IsAscending IsEarlier (sorted_by_moment xs)
sorted_ascends [] up = tt
sorted_ascends (x ∷ xs) up = put_ascends x (sorted_by_moment xs) (all_sorted (λ (y : ℕ × ℕ). x.1 < y.1) xs up.0) (sorted_ascends xs up.1)

-- ---- their rows in the order of rows

pub sleep_cmp_total : IsTotalOrder sleep_cmp
sleep_cmp_total =
    then_total (on_total (λ (s : SleepRow). s.invocation) nat_list_cmp_total)
    (then_total (on_total (λ (s : SleepRow). cast_signed w64 s.moment) int_cmp_total) (on_total (λ (s : SleepRow). pos s.completion) int_cmp_total))

int_less : (m n : ℕ) → m < n → int_cmp (pos m) (pos n) ≡ Less
int_less m n less = ap (λ (b : Bool). cond b Less (cond (nat_lt n m) Greater Equal)) (lt-ltb m n less)

int_tied : (m n : ℕ) → m ≡ n → int_cmp (pos m) (pos n) ≡ Equal
int_tied m n same = ap₂ (λ (a b : Bool). cond a Less (cond b Greater Equal)) (le-ltb m n (omega (arith, same))) (le-ltb n m (omega (arith, same)))

rows_less : (id : Text) (a b : ℕ × ℕ) → can_be_due a ≡ true → can_be_due b ≡ true → IsEarlier a b → sleep_cmp (sleep_row id a) (sleep_row id b) ≡ Less
rows_less id a b small smaller earlier =
    ap₂ ordering_then (tied_itself nat_list_cmp_total id)
    (ap₂ (λ m n. ordering_then (int_cmp m n) (int_cmp (pos a.1) (pos b.1))) (to_z_pos w64 a.0 (ltb-true a.0 (2 ^ 63) small)) (to_z_pos w64 b.0 (ltb-true b.0 (2 ^ 63) smaller)))
    ∙ by_earlier earlier
  where
    by_earlier : IsEarlier a b → ordering_then (int_cmp (pos a.0) (pos b.0)) (int_cmp (pos a.1) (pos b.1)) ≡ Less
    by_earlier (inl less) = ap (λ (o : Ordering). ordering_then o (int_cmp (pos a.1) (pos b.1))) (int_less a.0 b.0 less)
    by_earlier (inr same) = ap₂ ordering_then (int_tied a.0 b.0 same.0) (int_less a.1 b.1 same.1)

all_pass : {A : Type 0} (p : A → Bool) (xs : List A) → AllByRecursion (λ x. p x ≡ true) (filter p xs)
all_pass p [] = tt
all_pass {A} p (x ∷ xs) = by_test (p x) refl (all_pass p xs)
  where
    by_test : (b : Bool) → p x ≡ b → AllByRecursion (λ y. p y ≡ true) (filter p xs) → AllByRecursion (λ y. p y ≡ true) (if b then x ∷ filter p xs else filter p xs)
    by_test true e more = (e, more)
    by_test false e more = more

ascending_among : {A : Type 0} (P : A → Type 0) (R S : A → A → Type 0) → ((a b : A) → P a → P b → R a b → S a b) → (xs : List A) → AllByRecursion P xs → IsAscending R xs → IsAscending S xs
ascending_among P R S f [] all up = tt
ascending_among {A} P R S f (x ∷ xs) all up = (head xs all.1 up.0, ascending_among P R S f xs all.1 up.1)
  where
    head : (ys : List A) → AllByRecursion P ys → AllByRecursion (R x) ys → AllByRecursion (S x) ys
    head [] among after = tt
    head (y ∷ ys) among after = (f x y all.0 among.0 after.0, head ys among.1 after.1)

over_can : (entries : List Entry) (now : ℕ) (sleep : ℕ × ℕ) → is_sleep_over entries now sleep ≡ true → can_be_due sleep ≡ true
over_can entries now sleep e =
    let rest = (both_parts (nat_le sleep.0 now) (can_be_due sleep && is_awaited entries sleep.1) e).1 in
    (both_parts (can_be_due sleep) (is_awaited entries sleep.1) rest).0

-- ---- what is alike

int_apart : (m n : ℕ) → m < n → is_eq (int_cmp (pos m) (pos n)) ≡ true → ⊥
int_apart m n less e = true≢false (sym e ∙ ap is_eq (int_less m n less))

alike_first : (a b c : Ordering) → is_eq (ordering_then a (ordering_then b c)) ≡ true → is_eq a ≡ true
alike_first Equal b c e = refl
alike_first Less b c e = cc
alike_first Greater b c e = cc

alike_last : (a b c : Ordering) → is_eq (ordering_then a (ordering_then b c)) ≡ true → is_eq c ≡ true
alike_last Equal Equal c e = e
alike_last Equal Less c e = cc
alike_last Equal Greater c e = cc
alike_last Less b c e = cc
alike_last Greater b c e = cc

abbrev DoClimb : List SleepRow → Type 0
DoClimb = IsAscending (λ (a b : SleepRow). a.completion < b.completion)

-- where the completions of each invocation ascend, no two are alike
apart_by : (xs : List SleepRow) → ((id : Text) → DoClimb (filter (is_sleep_of id) xs)) → AreApart xs
apart_by [] up = tt
apart_by (x ∷ xs) up = (first (with_own (bytes_eq x.invocation x.invocation) (itself x.invocation) (up x.invocation)), apart_by xs (λ id. rest id (bytes_eq x.invocation id) (up id)))
  where
    with_own : (b : Bool) → b ≡ true → DoClimb (if b then x ∷ filter (is_sleep_of x.invocation) xs else filter (is_sleep_of x.invocation) xs)
        → AllByRecursion (λ (y : SleepRow). x.completion < y.completion) (filter (is_sleep_of x.invocation) xs)
    with_own true e climb = climb.0
    with_own false e climb = absurd (true≢false (sym e))

    rest : (id : Text) (b : Bool) → DoClimb (if b then x ∷ filter (is_sleep_of id) xs else filter (is_sleep_of id) xs) → DoClimb (filter (is_sleep_of id) xs)
    rest id true climb = climb.1
    rest id false climb = climb

    other : (y : SleepRow) → (is_sleep_of x.invocation y ≡ true → x.completion < y.completion) → is_eq (sleep_cmp x y) ≡ false
    other y after = by_test (is_eq (sleep_cmp x y)) refl
      where
        by_test : (b : Bool) → is_eq (sleep_cmp x y) ≡ b → b ≡ false
        by_test true e =
            let a = slice_cmp nat_cmp x.invocation y.invocation in
            let b = int_cmp (cast_signed w64 x.moment) (cast_signed w64 y.moment) in
            let c = int_cmp (pos x.completion) (pos y.completion) in
            let same : x.invocation ≡ y.invocation = (bytes_eq-Decides x.invocation y.invocation).0 (sym (is_eq-slice_cmp x.invocation y.invocation) ∙ alike_first a b c e) in
            absurd (int_apart x.completion y.completion (after ((bytes_eq-Decides y.invocation x.invocation).1 (sym same))) (alike_last a b c e))
        by_test false e = refl

    first : AllByRecursion (λ (y : SleepRow). x.completion < y.completion) (filter (is_sleep_of x.invocation) xs) → AllByRecursion (λ (y : SleepRow). is_eq (sleep_cmp x y) ≡ false) xs
    first after =
        all_weaker (λ (y : SleepRow). is_sleep_of x.invocation y ≡ true → x.completion < y.completion) (λ (y : SleepRow). is_eq (sleep_cmp x y) ≡ false) other xs
        (all_kept (λ (y : SleepRow). x.completion < y.completion) (is_sleep_of x.invocation) xs after)

-- ---- the rows that are due

and_either : (a b : Bool) → (a && b) ≡ (b && a)
and_either true true = refl
and_either true false = refl
and_either false true = refl
and_either false false = refl

module _ (events : List Event) (now : ℕ) (r : Records) (accepted : IsAccepted events) (kept : IsKept events r) where
  -- those that a tick ends, in the order in which they were asked for
  abbrev over_of : Text → List (ℕ × ℕ)
  over_of id = filter (is_sleep_over (entries_of events id) now) (sleeps_of (entries_of events id))

  is_due : (id : Text) (sleep : ℕ × ℕ)
      → (is_open_sleep (entries_of events id) sleep && ends_by (due_until now) (sleep_row id sleep)) ≡ is_sleep_over (entries_of events id) now sleep
  is_due id sleep = by_both (can_be_due sleep) refl (is_awaited (entries_of events id) sleep.1)
    where
      by_both : (c : Bool) → can_be_due sleep ≡ c → (a : Bool) → ((c && a) && ends_by (due_until now) (sleep_row id sleep)) ≡ (nat_le sleep.0 now && (c && a))
      by_both true e a = ap (λ (b : Bool). a && b) (due_told id sleep now e) ∙ and_either a (nat_le sleep.0 now)
      by_both false e a = sym (and_either (nat_le sleep.0 now) false)

  by_open : (id : Text) (o : Bool)
      → filter (ends_by (due_until now)) (if o then map (sleep_row id) (open_among (entries_of events id)) else []) ≡ map (sleep_row id) (if o then over_of id else [])
  by_open id true =
      filter-map (ends_by (due_until now)) (sleep_row id) (open_among (entries_of events id))
      ∙ ap (map (sleep_row id))
      (sym (filter_both (is_open_sleep (entries_of events id)) (λ sleep. ends_by (due_until now) (sleep_row id sleep)) (sleeps_of (entries_of events id)))
      ∙ filter_same (λ sleep. is_open_sleep (entries_of events id) sleep && ends_by (due_until now) (sleep_row id sleep)) (is_sleep_over (entries_of events id) now) (is_due id) (sleeps_of (entries_of events id)))
  by_open id false = refl

  -- of one invocation
  own_due : (id : Text) → filter (is_sleep_of id) (due_sleeps now r) ≡ map (sleep_row id) (if is_open events id then over_of id else [])
  own_due id =
      filter_swap (is_sleep_of id) (ends_by (due_until now)) r.sleeps
      ∙ ap (λ (rows : List SleepRow). filter (ends_by (due_until now)) (filter (is_sleep_of id) rows)) kept.sleeps
      ∙ ap (filter (ends_by (due_until now))) (sleeps_kept_after events id accepted)
      ∙ by_open id (is_open events id)

  asked_up : (id : Text) → DoAscend (sleeps_of (entries_of events id))
  asked_up id = (climbs 0 (requests_in (entries_of events id)) (ascends id events accepted)).up

  climbs_own : (id : Text) → DoClimb (filter (is_sleep_of id) (due_sleeps now r))
  climbs_own id = subst DoClimb (sym (own_due id)) (ascending-map (λ (a b : SleepRow). a.completion < b.completion) (sleep_row id) (if is_open events id then over_of id else []) (when_open (is_open events id)))
    where
      when_open : (o : Bool) → DoAscend (if o then over_of id else [])
      when_open true = ascending-filter (λ (a b : ℕ × ℕ). a.1 < b.1) (is_sleep_over (entries_of events id) now) (sleeps_of (entries_of events id)) (asked_up id)
      when_open false = tt

  all_apart : AreApart (due_sleeps now r)
  all_apart = apart_by (due_sleeps now r) climbs_own

  -- as a tick ends them
  abbrev Rises : List SleepRow → Type 0
  Rises = IsAscending (λ a b. sleep_cmp a b ≡ Less)

  ended_rise : (id : Text) → Rises (map (sleep_row id) (ended_sleeps events now id))
  ended_rise id = ascending-map (λ a b. sleep_cmp a b ≡ Less) (sleep_row id) (ended_sleeps events now id) (when_open (is_open events id))
    where
      when_open : (o : Bool)
          → IsAscending (λ (a b : ℕ × ℕ). sleep_cmp (sleep_row id a) (sleep_row id b) ≡ Less)
          (if o then filter (is_sleep_over (entries_of events id) now) (sorted_by_moment (sleeps_of (entries_of events id))) else [])
      when_open true =
          ascending_among (λ (sleep : ℕ × ℕ). is_sleep_over (entries_of events id) now sleep ≡ true) IsEarlier (λ (a b : ℕ × ℕ). sleep_cmp (sleep_row id a) (sleep_row id b) ≡ Less)
          (λ a b one two. rows_less id a b (over_can (entries_of events id) now a one) (over_can (entries_of events id) now b two))
          (filter (is_sleep_over (entries_of events id) now) (sorted_by_moment (sleeps_of (entries_of events id))))
          (all_pass (is_sleep_over (entries_of events id) now) (sorted_by_moment (sleeps_of (entries_of events id))))
          (ascending-filter IsEarlier (is_sleep_over (entries_of events id) now) (sorted_by_moment (sleeps_of (entries_of events id))) (sorted_ascends (sleeps_of (entries_of events id)) (asked_up id)))
      when_open false = tt

  same_ended : (id : Text) → IsPermutation (ended_sleeps events now id) (if is_open events id then over_of id else [])
  same_ended id = when_open (is_open events id)
    where
      when_open : (o : Bool)
          → IsPermutation (if o then filter (is_sleep_over (entries_of events id) now) (sorted_by_moment (sleeps_of (entries_of events id))) else []) (if o then over_of id else [])
      when_open true =
          IsPermutation-filter (is_sleep_over (entries_of events id) now) (sorted_by_moment (sleeps_of (entries_of events id))) (sleeps_of (entries_of events id)) (sorted_same (sleeps_of (entries_of events id)))
      when_open false = IsPermutation-refl []

  in_order : (id : Text) → filter (is_sleep_of id) (sort_by sleep_cmp (due_sleeps now r)) ≡ map (sleep_row id) (ended_sleeps events now id)
  in_order id =
      rising_unique sleep_cmp sleep_cmp_total (map (sleep_row id) (ended_sleeps events now id)) (filter (is_sleep_of id) (sort_by sleep_cmp (due_sleeps now r))) (ended_rise id)
      (ascending-filter (λ a b. sleep_cmp a b ≡ Less) (is_sleep_of id) (sort_by sleep_cmp (due_sleeps now r)) (sorted_rises sleep_cmp sleep_cmp_total (due_sleeps now r) all_apart))
      (IsPermutation-trans (map (sleep_row id) (ended_sleeps events now id)) (filter (is_sleep_of id) (due_sleeps now r)) (filter (is_sleep_of id) (sort_by sleep_cmp (due_sleeps now r)))
      (subst (IsPermutation (map (sleep_row id) (ended_sleeps events now id))) (sym (own_due id)) (IsPermutation-map (sleep_row id) (ended_sleeps events now id) (if is_open events id then over_of id else []) (same_ended id)))
      (IsPermutation-filter (is_sleep_of id) (due_sleeps now r) (sort_by sleep_cmp (due_sleeps now r))
      (IsPermutation-sym (sort_by sleep_cmp (due_sleeps now r)) (due_sleeps now r) (IsPermutation-sort_by sleep_cmp sleep_cmp_total (due_sleeps now r)))))

pub ended_found : AllEndedFound
ended_found events now r accepted kept = record { apart = all_apart events now r accepted kept; ended = in_order events now r accepted kept }
