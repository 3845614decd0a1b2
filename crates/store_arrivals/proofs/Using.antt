-- A tick is refused exactly where the ends of some invocation's sleeps have no places.
use Rattle.std.proofs.Common.{arith, ℕ, suc, ◌+◌, ◌-◌, ◌^◌, ◌<◌, nat_lt, ◌≡◌, refl, sym, ap, subst, ◌∙◌, inl, inr, Bool, true, false, ◌||◌, ◌&&◌, if◌then◌else◌, List, [], ◌∷◌, ◌++◌, length, map, filter, filter_map, Option, Some, None, is_some, option_map, option_to_list, bytes_eq}
use Rattle.std.specs.List.{AllByRecursion, list_any, find}
use Rattle.std.proofs.lemmas.Bool.{lt-ltb, ltb-true}
use Rattle.std.proofs.lemmas.Slice.Eq.{bytes_eq-Decides}
use Rattle.sqlite.specs.State.{State}
use Rattle.journal_model.specs.Notification.{Text, Arrival}
use Rattle.journal_model.specs.declared.invocation.NewInvocation.{NewInvocation}
use Rattle.journal_model.specs.Event.{Event}
use Rattle.journal_model.specs.Journal.{Arrived, invoked_by, invocation_begun, is_open, is_sleep_over, requests_in, sleeps_in, sorted_by_moment, slept, entries_of}
use Rattle.journal_model.specs.Cause.{IsAccepted, causes_of, places_used_up, those_that_hold, tick_uses_up}
use Rattle.journal_model.specs.declared.cause.Cause.{Cause}
use Rattle.store_tables.specs.Records.{FitsInvocation, Records}
use Rattle.store_tables.specs.Questions.{has_id}
use Rattle.store_tables.specs.declared.row.InvocationRow.{InvocationRow}
use Rattle.store_model.specs.KeptRecords.{IsKept, invocation_row}
use Rattle.store_model.specs.Sleeps.{sleep_row}
use Rattle.store_model.specs.Lookups.{ended_sleeps}
use Rattle.store_model.proofs.Finding.{all_found}
use Rattle.store_model.proofs.Opening.{both_ways}
use Rattle.store_model.proofs.Sleeping.{answer_of_sleep}
use Rattle.store_refusals.specs.declared.refusal.Refusal.{Refusal}
use Rattle.store_refusals.specs.RefusalConditions.{IsRefused, refusal_of_first_cause}
use Rattle.store_refusals.specs.Preparations.{Keeps}
use Rattle.store_arrivals.specs.Groups.{Group, group_of, those_ended}
use Rattle.store_arrivals.specs.PreparedTicks.{next_place, tests_of}
use Rattle.store_arrivals.proofs.Ending.{found}
use Rattle.store_arrivals.proofs.Ready.{IsGroupOf, named}

-- ---- a row holds how many entries there are

abbrev first_or : {A : Type 0} → A → List A → A
first_or x [] = x
first_or x (y ∷ ys) = y

found_passes : {A : Type 0} (P : A → Type 0) (test : A → Bool) (xs : List A) (y : A) → AllByRecursion P xs → filter test xs ≡ y ∷ [] → P y
found_passes P test [] y all e = cc
found_passes P test (x ∷ xs) y all e = by_test (test x) (found_passes P test xs y all.1) e
  where
    by_test : (b : Bool) → (filter test xs ≡ y ∷ [] → P y) → (if b then x ∷ filter test xs else filter test xs) ≡ y ∷ [] → P y
    by_test true later e = subst P (ap (first_or x) e) all.0
    by_test false later e = later e

-- what is found first passes
passes : {A : Type 0} (p : A → Bool) (xs : List A) (x : A) → find p xs ≡ Some x → (p x ≡ true)
passes p [] x e = cc
passes p (y ∷ ys) x e = by_test (p y) refl e (passes p ys x)
  where
    by_test : (b : Bool) → p y ≡ b → (if b then Some y else find p ys) ≡ Some x → (find p ys ≡ Some x → p x ≡ true) → p x ≡ true
    by_test true t e later = let same : y ≡ x = cc in subst (λ z. p z ≡ true) same t
    by_test false t e later = later e

name_of : (events : List Event) (id : Text) (new : NewInvocation) → invocation_begun events id ≡ Some new → new.id ≡ id
name_of events id new e = (bytes_eq-Decides new.id id).0 (passes (λ (one : NewInvocation). bytes_eq one.id id) (filter_map invoked_by events) new e)

pub rows_fit : (events : List Event) (id : Text) (new : NewInvocation) (s : State) → Keeps events s → invocation_begun events id ≡ Some new → next_place events id < 2 ^ 32
rows_fit events id new s k begun_so =
    let found_so = (all_found events k.records k.accepted k.kept).invocation id in
    let only = found_so ∙ ap (λ (o : Option NewInvocation). option_to_list (option_map (invocation_row events) o)) begun_so in
    let fits = found_passes FitsInvocation (has_id id) k.records.invocations (invocation_row events new) k.held.fit_invocations only in
    subst (λ (one : Text). next_place events one < 2 ^ 32) (name_of events id new begun_so) fits.progress.entries

-- ---- witnesses

witness : {A : Type 0} (P : A → Type 0) (p : A → Bool) (xs : List A) → AllByRecursion P xs → list_any p xs ≡ true → (x : A) × P x × (p x ≡ true)
witness P p [] all e = cc
witness {A} P p (x ∷ xs) all e = by_test (p x) refl e (witness P p xs all.1)
  where
    by_test : (b : Bool) → p x ≡ b → (b || list_any p xs) ≡ true → (list_any p xs ≡ true → (y : A) × P y × (p y ≡ true)) → (y : A) × P y × (p y ≡ true)
    by_test true own e later = (x, all.0, own)
    by_test false own e later = later e

any_found : {A : Type 0} (p q : A → Bool) (xs : List A) (x : A) → find q xs ≡ Some x → p x ≡ true → list_any p xs ≡ true
any_found p q [] x e own = cc
any_found p q (y ∷ ys) x e own = by_test (q y) e (λ f. any_found p q ys x f own)
  where
    behind : (c : Bool) → list_any p ys ≡ true → (c || list_any p ys) ≡ true
    behind true f = refl
    behind false f = f

    by_test : (b : Bool) → (if b then Some y else find q ys) ≡ Some x → (find q ys ≡ Some x → list_any p ys ≡ true) → (p y || list_any p ys) ≡ true
    by_test true e later = let same : x ≡ y = cc in ap (λ (c : Bool). c || list_any p ys) (subst (λ z. p z ≡ true) same own)
    by_test false e later = behind (p y) (later e)

any_among : {A : Type 0} (p q : A → Bool) (xs : List A) → list_any p (filter q xs) ≡ true → list_any p xs ≡ true
any_among p q [] e = cc
any_among p q (x ∷ xs) e = by_test (q x) e (any_among p q xs)
  where
    by_test : (b : Bool) → list_any p (if b then x ∷ filter q xs else filter q xs) ≡ true → (list_any p (filter q xs) ≡ true → list_any p xs ≡ true) → (p x || list_any p xs) ≡ true
    by_test true e later = split (p x) e
      where
        split : (d : Bool) → (d || list_any p (filter q xs)) ≡ true → (d || list_any p xs) ≡ true
        split true f = refl
        split false f = later f
    by_test false e later = behind (p x) (later e)
      where
        behind : (d : Bool) → list_any p xs ≡ true → (d || list_any p xs) ≡ true
        behind true f = refl
        behind false f = f

-- ---- the test of a tick is that of its groups

module _ (events : List Event) where
  abbrev pub is_used_up : Group → Bool
  is_used_up group = nat_lt (2 ^ 32 - 1) (next_place events group.0 + length group.1)

  first_used : (groups : List Group) → refusal_of_first_cause (those_that_hold (tests_of events groups)) ≡ refusal_of_first_cause (those_that_hold ((list_any is_used_up groups, Cause.NumbersUsedUp) ∷ []))
  first_used [] = refl
  first_used (group ∷ groups) = by_test (is_used_up group) (first_used groups)
    where
      by_test : (b : Bool) → refusal_of_first_cause (those_that_hold (tests_of events groups)) ≡ refusal_of_first_cause (those_that_hold ((list_any is_used_up groups, Cause.NumbersUsedUp) ∷ []))
          → refusal_of_first_cause (those_that_hold ((b, Cause.NumbersUsedUp) ∷ tests_of events groups)) ≡ refusal_of_first_cause (those_that_hold ((b || list_any is_used_up groups, Cause.NumbersUsedUp) ∷ []))
      by_test true h = refl
      by_test false h = h

  none_used : (groups : List Group) → those_that_hold (tests_of events groups) ≡ [] → those_that_hold ((list_any is_used_up groups, Cause.NumbersUsedUp) ∷ []) ≡ []
  none_used groups e = by_test (list_any is_used_up groups) (sym (ap refusal_of_first_cause e) ∙ first_used groups)
    where
      by_test : (b : Bool) → ◌≡◌ {A = Option Refusal} None (refusal_of_first_cause (those_that_hold ((b, Cause.NumbersUsedUp) ∷ []))) → those_that_hold ((b, Cause.NumbersUsedUp) ∷ []) ≡ []
      by_test true e = cc
      by_test false e = refl

module _ (events : List Event) (now : ℕ) (s : State) (k : Keeps events s) (groups : List Group) (all : AllByRecursion (IsGroupOf events now) groups)
    (by_name : (id : Text) → filter (named id) groups ≡ group_of id (map (sleep_row id) (ended_sleeps events now id))) where
  abbrev over : Text → List (ℕ × ℕ)
  over id = filter (is_sleep_over (entries_of events id) now) (sorted_by_moment (sleeps_in (requests_in (entries_of events id))))

  abbrev uses_up : NewInvocation → Bool
  uses_up new = is_open events new.id && places_used_up (entries_of events new.id) (map Arrived (slept (entries_of events new.id) now))

  begun_of : (id : Text) → is_open events id ≡ true → (new : NewInvocation) × (invocation_begun events id ≡ Some new)
  begun_of id opened = by_begun (invocation_begun events id) _ refl opened
    where
      by_begun : (o : Option NewInvocation) (rest : Bool) → invocation_begun events id ≡ o → (is_some o && rest) ≡ true → (new : NewInvocation) × (invocation_begun events id ≡ Some new)
      by_begun None rest e f = cc
      by_begun (Some new) rest e f = (new, e)

  many_more : (id : Text) (sleeps : List (ℕ × ℕ)) → length (map Arrived (map answer_of_sleep sleeps)) ≡ length sleeps
  many_more id [] = refl
  many_more id (sleep ∷ sleeps) = ap suc (many_more id sleeps)

  -- some invocation has too many: it has a group
  of_begun : list_any uses_up (filter_map invoked_by events) ≡ true → list_any (is_used_up events) groups ≡ true
  of_begun e =
      let it = witness (λ (new : NewInvocation). Unit {0}) uses_up (filter_map invoked_by events) (none_said (filter_map invoked_by events)) e in
      any_among (is_used_up events) (named (it.0).id) groups (ap (list_any (is_used_up events)) (by_name (it.0).id) ∙ used (it.0).id (is_open events (it.0).id) refl it.2)
    where
      none_said : {A : Type 0} (xs : List A) → AllByRecursion (λ (x : A). Unit {0}) xs
      none_said [] = tt
      none_said (x ∷ xs) = (tt, none_said xs)

      too_many : (id : Text) → is_open events id ≡ true → (sleeps : List (ℕ × ℕ)) → over id ≡ sleeps → nat_lt (2 ^ 32 - 2) (length (entries_of events id) + length (map Arrived (slept (entries_of events id) now))) ≡ true
          → list_any (is_used_up events) (group_of id (map (sleep_row id) sleeps)) ≡ true
      too_many id opened [] is more =
          let b = begun_of id opened in
          let fits = rows_fit events id b.0 s k b.1 in
          let passed = ltb-true (2 ^ 32 - 2) _ (subst (λ (xs : List (ℕ × ℕ)). nat_lt (2 ^ 32 - 2) (length (entries_of events id) + length (map Arrived (map answer_of_sleep xs))) ≡ true) is more) in
          absurd (beyond fits passed)
        where
          beyond : 1 + length (entries_of events id) < 2 ^ 32 → 2 ^ 32 - 2 < length (entries_of events id) + 0 → ⊥
          beyond fits passed = omega (arith, fits, passed)
      too_many id opened (sleep ∷ sleeps) is more =
          let passed = ltb-true (2 ^ 32 - 2) _ (subst (λ (xs : List (ℕ × ℕ)). nat_lt (2 ^ 32 - 2) (length (entries_of events id) + length (map Arrived (map answer_of_sleep xs))) ≡ true) is more) in
          ap (λ (b : Bool). b || false) (lt-ltb (2 ^ 32 - 1) (next_place events id + length (map (λ row. row.completion) (map (sleep_row id) (sleep ∷ sleeps)))) (beyond _ _ _ passed (many_more id (sleep ∷ sleeps)) (as_many (sleep ∷ sleeps))))
        where
          as_many : (xs : List (ℕ × ℕ)) → length (map (λ row. row.completion) (map (sleep_row id) xs)) ≡ length xs
          as_many [] = refl
          as_many (x ∷ xs) = ap suc (as_many xs)

          beyond : (a b n : ℕ) → 2 ^ 32 - 2 < length (entries_of events id) + a → a ≡ n → b ≡ n → 2 ^ 32 - 1 < next_place events id + b
          beyond a b n passed e f = omega (arith, passed, e, f)

      used : (id : Text) (o : Bool) → is_open events id ≡ o → (o && places_used_up (entries_of events id) (map Arrived (slept (entries_of events id) now))) ≡ true
          → list_any (is_used_up events) (group_of id (map (sleep_row id) (if o then over id else []))) ≡ true
      used id false opened e = cc
      used id true opened e = too_many id opened (over id) refl e

  -- some group has too many: its invocation is open
  of_groups : list_any (is_used_up events) groups ≡ true → list_any uses_up (filter_map invoked_by events) ≡ true
  of_groups e =
      let it = witness (IsGroupOf events now) (is_used_up events) groups all e in
      let b = begun_of (it.0).0 it.1.opened in
      let passed = ltb-true (2 ^ 32 - 1) _ it.2 in
      any_found uses_up (λ (one : NewInvocation). bytes_eq one.id (it.0).0) (filter_map invoked_by events) b.0 b.1
      (subst (λ (id : Text). (is_open events id && places_used_up (entries_of events id) (map Arrived (slept (entries_of events id) now))) ≡ true) (sym (name_of events (it.0).0 b.0 b.1))
      (ap (λ (o : Bool). o && places_used_up (entries_of events (it.0).0) (map Arrived (slept (entries_of events (it.0).0) now))) it.1.opened
      ∙ lt-ltb (2 ^ 32 - 2) _ (enough _ _ _ _ passed it.1.many (mapped (slept (entries_of events (it.0).0) now)))))
    where
      mapped : (xs : List Arrival) → length (map Arrived xs) ≡ length xs
      mapped [] = refl
      mapped (x ∷ xs) = ap suc (mapped xs)

      enough : (a n m c : ℕ) → 2 ^ 32 - 1 < 1 + a + n → n ≡ m → c ≡ m → 2 ^ 32 - 2 < a + c
      enough a n m c passed e f = omega (arith, passed, e, f)

  uses_same : tick_uses_up events now ≡ list_any (is_used_up events) groups
  uses_same = both_ways (tick_uses_up events now) (list_any (is_used_up events) groups) of_begun of_groups

  pub refused_tick : (why : Refusal) → IsRefused (those_that_hold (tests_of events groups)) why → IsRefused (causes_of events (Event.Tick now)) why
  refused_tick why (inl e) = inl (ap (λ (b : Bool). refusal_of_first_cause (those_that_hold ((b, Cause.NumbersUsedUp) ∷ []))) uses_same ∙ sym (first_used events groups) ∙ e)
  refused_tick why (inr e) = inr e

  pub accepted_tick : those_that_hold (tests_of events groups) ≡ [] → causes_of events (Event.Tick now) ≡ []
  accepted_tick e = ap (λ (b : Bool). those_that_hold ((b, Cause.NumbersUsedUp) ∷ [])) uses_same ∙ none_used events groups e
