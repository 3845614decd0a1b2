-- The outcomes that are noted until their rows are read.
use Rattle.std.proofs.Common.{ℕ, zero, suc, ◌+◌, ◌≤◌, ◌==◌, arith, ◌≡◌, refl, sym, ap, ap₂, ◌∙◌, true≢false, Bool, true, false, ◌||◌, if◌then◌else◌, List, [], ◌∷◌, ◌++◌, length, drop, filter_map, Option, Some, None}
use Rattle.std.specs.List.{list_any, slice_get, cons_option}
use Rattle.std.proofs.lemmas.Bool.{eq-eqb, eqb-true}
use Rattle.std.proofs.lemmas.List.{drop-append-le}
use Rattle.std.proofs.lemmas.List.Elements.{filter_map-append}
use Rattle.journal_model.specs.declared.notification.NotificationId.{NotificationId}
use Rattle.journal_model.specs.declared.notification.NotificationId.TheVariants.{CompletionId, SignalId, SignalName}
use Rattle.journal_model.specs.Notification.{Text, Arrival}
use Rattle.journal_model.specs.Event.{Event}
use Rattle.journal_model.specs.Journal.{begins, version_of, completes, arrivals_in, recorded_arrivals}
use Rattle.journal_model.specs.Attempt.{begins_attempt, acknowledged}
use Rattle.journal_model.specs.Cause.{IsAccepted}
use Rattle.input_laws.proofs.Events.{added_by, arrivals_now}
use Rattle.due_laws.specs.Rows.{with_outcome_noted, outcomes_noted, noted_number, outcomes_unread, first_if, OutcomesAreRead}
use Rattle.due_laws.proofs.Rows.{never_again, noted_same, or_first, or_second, any_drop, acknowledges, same_numbers, rows_so_far, all_known_stays}

numbers_same : (noted others : List ℕ) (arrivals : List Arrival) → ((n : ℕ) → list_any (completes n) arrivals ≡ true → list_any (λ m. m == n) others ≡ list_any (λ m. m == n) noted)
    → filter_map (λ (arrival : Arrival). noted_number others arrival.id) arrivals ≡ filter_map (λ (arrival : Arrival). noted_number noted arrival.id) arrivals
numbers_same noted others [] h = refl
numbers_same noted others (arrival ∷ arrivals) h =
    ap₂ (λ (o : Option ℕ) (rest : List ℕ). cons_option o rest)
    (noted_same noted others arrival.id (λ n e. h n (or_first (completes n arrival) (list_any (completes n) arrivals) e)))
    (numbers_same noted others arrivals (λ n e. h n (or_second (completes n arrival) (list_any (completes n) arrivals) e)))

no_numbers : (arrivals : List Arrival) → filter_map (λ (arrival : Arrival). noted_number [] arrival.id) arrivals ≡ []
no_numbers [] = refl
no_numbers (arrival ∷ arrivals) = ap₂ (λ (o : Option ℕ) (rest : List ℕ). cons_option o rest) (by_id arrival.id) (no_numbers arrivals)
  where
    by_id : (i : NotificationId) → noted_number [] i ≡ None
    by_id (CompletionId n) = refl
    by_id (SignalId n) = refl
    by_id (SignalName name) = refl

none_come : (noted : List ℕ) (arrivals : List Arrival) → ((n : ℕ) → list_any (completes n) arrivals ≡ true → list_any (λ m. m == n) noted ≡ false)
    → filter_map (λ (arrival : Arrival). noted_number noted arrival.id) arrivals ≡ []
none_come noted arrivals h = numbers_same [] noted arrivals h ∙ no_numbers arrivals

begun : (events : List Event) (event : Event) (id : Text) → begins id event ≡ false → begins_attempt id event ≡ true → (k : ℕ) → outcomes_unread (event ∷ events) id k ≡ []
begun events event id old e k =
    ap (λ (noted : List ℕ). filter_map (λ (arrival : Arrival). noted_number noted arrival.id) (drop k (recorded_arrivals (event ∷ events) id)))
    (ap (λ (c : Bool). if c then [] else with_outcome_noted (acknowledged (version_of events id) id event) (outcomes_noted events id)) e)
    ∙ no_numbers (drop k (recorded_arrivals (event ∷ events) id))

module _ (events : List Event) (event : Event) (id : Text) (accepted : IsAccepted (event ∷ events)) (old : begins id event ≡ false) (going : begins_attempt id event ≡ false) where
  abbrev numbers : List ℕ → List Arrival → List ℕ
  numbers noted arrivals = filter_map (λ (arrival : Arrival). noted_number noted arrival.id) arrivals

  new_numbers : (o : Option ℕ) → acknowledged (version_of events id) id event ≡ o
      → filter_map (λ (arrival : Arrival). noted_number (with_outcome_noted o (outcomes_noted events id)) arrival.id) (arrivals_in (added_by events id event)) ≡ with_outcome_noted o []
  new_numbers None e =
      none_come (outcomes_noted events id) (arrivals_in (added_by events id event)) (λ n come. off n come (list_any (λ m. m == n) (outcomes_noted events id)) refl)
    where
      off : (n : ℕ) → list_any (completes n) (arrivals_in (added_by events id event)) ≡ true → (b : Bool) → list_any (λ m. m == n) (outcomes_noted events id) ≡ b → b ≡ false
      off n come true f = absurd (never_again events event id accepted old n ((rows_so_far events id accepted.1).noted n f) come)
      off n come false f = refl
  new_numbers (Some m) e =
      let is = acknowledges events event id m e in
      ap (filter_map (λ (arrival : Arrival). noted_number (m ∷ outcomes_noted events id) arrival.id)) is.brings
      ∙ ap (λ (b : Bool). cons_option (if b || list_any (λ k. k == m) (outcomes_noted events id) then Some m else None) []) (eq-eqb m m refl)

  stays : (k : ℕ) → k ≤ length (recorded_arrivals events id)
      → outcomes_unread (event ∷ events) id k ≡ outcomes_unread events id k ++ with_outcome_noted (acknowledged (version_of events id) id event) []
  stays k low =
      ap₂ (λ (noted : List ℕ) (arrivals : List Arrival). filter_map (λ (arrival : Arrival). noted_number noted arrival.id) (drop k arrivals))
      (all_known_stays events event id old going).noted (arrivals_now event events id old)
      ∙ ap (filter_map (λ (arrival : Arrival). noted_number (with_outcome_noted (acknowledged (version_of events id) id event) (outcomes_noted events id)) arrival.id))
      (drop-append-le k (recorded_arrivals events id) (arrivals_in (added_by events id event)) low)
      ∙ filter_map-append (λ (arrival : Arrival). noted_number (with_outcome_noted (acknowledged (version_of events id) id event) (outcomes_noted events id)) arrival.id)
      (drop k (recorded_arrivals events id)) (arrivals_in (added_by events id event))
      ∙ ap₂ (λ (some more : List ℕ). some ++ more)
      (numbers_same (outcomes_noted events id) (with_outcome_noted (acknowledged (version_of events id) id event) (outcomes_noted events id)) (drop k (recorded_arrivals events id))
      (λ n e.
      same_numbers events event id accepted old going (rows_so_far events id accepted.1) (acknowledged (version_of events id) id event) refl n
      (any_drop (completes n) k (recorded_arrivals events id) e)))
      (new_numbers (acknowledged (version_of events id) id event) refl)

next_of : (arrivals : List Arrival) (k : ℕ) (arrival : Arrival) → slice_get arrivals k ≡ Some arrival → drop k arrivals ≡ arrival ∷ drop (k + 1) arrivals
next_of [] k arrival e = cc
next_of (a ∷ arrivals) zero arrival e = let same : a ≡ arrival = cc in ap (λ (b : Arrival). b ∷ arrivals) same
next_of (a ∷ arrivals) (suc k) arrival e =
    let one : suc k + 1 ≡ suc (k + 1) = omega arith in
    next_of arrivals k arrival e ∙ ap (λ (n : ℕ). arrival ∷ drop n (a ∷ arrivals)) (sym one)

as_outcome : (o : Option ℕ) (rest : List ℕ) → cons_option o rest ≡ with_outcome_noted o rest
as_outcome None rest = refl
as_outcome (Some n) rest = refl

read : (events : List Event) (id : Text) (k : ℕ) (arrival : Arrival) → slice_get (recorded_arrivals events id) k ≡ Some arrival
    → outcomes_unread events id k ≡ with_outcome_noted (noted_number (outcomes_noted events id) arrival.id) (outcomes_unread events id (k + 1))
read events id k arrival e =
    ap (filter_map (λ (one : Arrival). noted_number (outcomes_noted events id) one.id)) (next_of (recorded_arrivals events id) k arrival e)
    ∙ as_outcome (noted_number (outcomes_noted events id) arrival.id) (outcomes_unread events id (k + 1))

-- each that is unread is noted
first_noted : (noted : List ℕ) (arrivals : List Arrival) (m : ℕ) (rest : List ℕ) → filter_map (λ (arrival : Arrival). noted_number noted arrival.id) arrivals ≡ m ∷ rest
    → list_any (λ k. k == m) noted ≡ true
first_noted noted [] m rest e = absurd (nothing e)
  where
    nothing : ◌≡◌ {A = List ℕ} [] (m ∷ rest) → ⊥
    nothing e = cc
first_noted noted (arrival ∷ arrivals) m rest e = by_id arrival.id e (first_noted noted arrivals m rest)
  where
    by_id : (i : NotificationId) → cons_option (noted_number noted i) (filter_map (λ (one : Arrival). noted_number noted one.id) arrivals) ≡ m ∷ rest
        → (filter_map (λ (one : Arrival). noted_number noted one.id) arrivals ≡ m ∷ rest → list_any (λ k. k == m) noted ≡ true) → list_any (λ k. k == m) noted ≡ true
    by_id (SignalId n) e later = later e
    by_id (SignalName name) e later = later e
    by_id (CompletionId n) e later = by_test (list_any (λ k. k == n) noted) refl e
      where
        by_test : (b : Bool) → list_any (λ k. k == n) noted ≡ b → cons_option (if b then Some n else None) (filter_map (λ (one : Arrival). noted_number noted one.id) arrivals) ≡ m ∷ rest
            → list_any (λ k. k == m) noted ≡ true
        by_test true f e = let same : n ≡ m = cc in ap (λ (j : ℕ). list_any (λ k. k == j) noted) (sym same) ∙ f
        by_test false f e = later e

told : (events : List Event) (id : Text) (k : ℕ) (arrival : Arrival) → slice_get (recorded_arrivals events id) k ≡ Some arrival
    → noted_number (outcomes_noted events id) arrival.id ≡ first_if arrival.id (outcomes_unread events id k)
told events id k arrival e = by_id arrival.id (read events id k arrival e)
  where
    by_first : (n : ℕ) (unread : List ℕ) → outcomes_unread events id k ≡ unread → (b : Bool) → list_any (λ m. m == n) (outcomes_noted events id) ≡ b
        → unread ≡ with_outcome_noted (if b then Some n else None) (outcomes_unread events id (k + 1)) → (if b then Some n else None) ≡ first_if (CompletionId n) unread
    by_first n [] f true g h = cc
    by_first n (m ∷ rest) f true g h = let same : m ≡ n = cc in sym (ap (λ (b : Bool). if b then Some n else None) (eq-eqb m n same))
    by_first n [] f false g h = refl
    by_first n (m ∷ rest) f false g h = by_test (m == n) refl
      where
        by_test : (b : Bool) → (m == n) ≡ b → ◌≡◌ {A = Option ℕ} None (if b then Some n else None)
        by_test true j =
            let same : m ≡ n = eqb-true m n j in
            absurd (true≢false (sym (first_noted (outcomes_noted events id) (drop k (recorded_arrivals events id)) m rest f)
            ∙ ap (λ (i : ℕ). list_any (λ l. l == i) (outcomes_noted events id)) same ∙ g))
        by_test false j = refl

    by_id : (i : NotificationId) → outcomes_unread events id k ≡ with_outcome_noted (noted_number (outcomes_noted events id) i) (outcomes_unread events id (k + 1))
        → noted_number (outcomes_noted events id) i ≡ first_if i (outcomes_unread events id k)
    by_id (CompletionId n) h = by_first n (outcomes_unread events id k) refl (list_any (λ m. m == n) (outcomes_noted events id)) refl h
    by_id (SignalId n) h = refl
    by_id (SignalName name) h = refl

pub outcomes_are_read : OutcomesAreRead
outcomes_are_read = record { begun = begun; stays = stays; told = told; read = read }
