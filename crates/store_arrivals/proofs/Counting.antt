-- As many sleeps are ended as rows are due.
use Rattle.std.proofs.Common.{arith, ℕ, suc, ◌+◌, ◌≡◌, refl, sym, ap, ap₂, subst, ◌∙◌, true≢false, Bool, true, false, not, ◌&&◌, if◌then◌else◌, List, [], ◌∷◌, length, map, filter, filter_map, Option, Some, None, is_some, bytes_eq}
use Rattle.std.specs.List.{AllByRecursion, find}
use Rattle.std.proofs.lemmas.Bool.{cases_Bool}
use Rattle.std.proofs.lemmas.Slice.Eq.{bytes_eq-Decides}
use Rattle.sqlite_keyed.specs.Lists.{sort_by}
use Rattle.journal_model.specs.Notification.{Text}
use Rattle.journal_model.specs.declared.invocation.NewInvocation.{NewInvocation}
use Rattle.journal_model.specs.Event.{Event}
use Rattle.journal_model.specs.Journal.{invoked_by, invocation_begun, is_open, is_sleep_over, requests_in, sleeps_in, sorted_by_moment, slept, entries_of}
use Rattle.journal_model.specs.Attempt.{completions_of_tick, count_slept}
use Rattle.journal_model.specs.Cause.{IsAccepted}
use Rattle.store_tables.specs.Records.{is_sleep_of}
use Rattle.store_tables.specs.Orders.{sleep_cmp}
use Rattle.store_tables.specs.declared.row.SleepRow.{SleepRow}
use Rattle.store_model.specs.Sleeps.{sleep_row}
use Rattle.store_model.proofs.States.{itself}
use Rattle.journal_laws.proofs.ObjectState.{begin_when_new}
use Rattle.store_model.specs.Lookups.{due_sleeps, ended_sleeps}
use Rattle.store_model.proofs.DueSleeps.{ended_found}
use Rattle.store_model.proofs.Sleeping.{answer_of_sleep}
use Rattle.store_arrivals.specs.Groups.{AllEndedCounted}

-- the rows of some invocations
abbrev rows_among : List SleepRow → List NewInvocation → ℕ
rows_among rows [] = 0
rows_among rows (new ∷ more) = length (filter (is_sleep_of new.id) rows) + rows_among rows more

-- ---- rows apart from those of one invocation

abbrev is_other : Text → SleepRow → Bool
is_other id row = not (is_sleep_of id row)

split_count : (id : Text) (rows : List SleepRow) → length rows ≡ length (filter (is_sleep_of id) rows) + length (filter (is_other id) rows)
split_count id [] = refl
split_count id (row ∷ rows) = by_test (is_sleep_of id row) (split_count id rows)
  where
    by_test : (b : Bool) → length rows ≡ length (filter (is_sleep_of id) rows) + length (filter (is_other id) rows)
        → length (row ∷ rows) ≡ length (if b then row ∷ filter (is_sleep_of id) rows else filter (is_sleep_of id) rows)
        + length (if not b then row ∷ filter (is_other id) rows else filter (is_other id) rows)
    by_test true h = omega (arith, h)
    by_test false h = omega (arith, h)

-- of another one they are all left
left_of : (id x : Text) (rows : List SleepRow) → bytes_eq id x ≡ false → filter (is_sleep_of x) (filter (is_other id) rows) ≡ filter (is_sleep_of x) rows
left_of id x [] apart = refl
left_of id x (row ∷ rows) apart = by_tests (is_sleep_of id row) refl (is_sleep_of x row) refl (left_of id x rows apart)
  where
    by_tests : (b : Bool) → is_sleep_of id row ≡ b → (c : Bool) → is_sleep_of x row ≡ c → filter (is_sleep_of x) (filter (is_other id) rows) ≡ filter (is_sleep_of x) rows
        → filter (is_sleep_of x) (if not b then row ∷ filter (is_other id) rows else filter (is_other id) rows) ≡ (if c then row ∷ filter (is_sleep_of x) rows else filter (is_sleep_of x) rows)
    by_tests true own true other later =
        let same : id ≡ x = sym ((bytes_eq-Decides row.invocation id).0 own) ∙ (bytes_eq-Decides row.invocation x).0 other in
        absurd (true≢false (sym ((bytes_eq-Decides id x).1 same) ∙ apart))
    by_tests true own false other later = later
    by_tests false own true other later = ap (λ (c : Bool). if c then row ∷ filter (is_sleep_of x) (filter (is_other id) rows) else filter (is_sleep_of x) (filter (is_other id) rows)) other
        ∙ ap (λ (xs : List SleepRow). row ∷ xs) later
    by_tests false own false other later = ap (λ (c : Bool). if c then row ∷ filter (is_sleep_of x) (filter (is_other id) rows) else filter (is_sleep_of x) (filter (is_other id) rows)) other
        ∙ later

-- of this one none is
none_left : (id : Text) (rows : List SleepRow) → filter (is_sleep_of id) (filter (is_other id) rows) ≡ []
none_left id [] = refl
none_left id (row ∷ rows) = by_test (is_sleep_of id row) refl (none_left id rows)
  where
    by_test : (b : Bool) → is_sleep_of id row ≡ b → filter (is_sleep_of id) (filter (is_other id) rows) ≡ [] → filter (is_sleep_of id) (if not b then row ∷ filter (is_other id) rows else filter (is_other id) rows) ≡ []
    by_test true own later = later
    by_test false own later = ap (λ (c : Bool). if c then row ∷ filter (is_sleep_of id) (filter (is_other id) rows) else filter (is_sleep_of id) (filter (is_other id) rows)) own ∙ later

-- ---- over all invocations

not_there : (p : NewInvocation → Bool) (news : List NewInvocation) → find p news ≡ None → AllByRecursion (λ new. p new ≡ false) news
not_there p [] e = tt
not_there p (new ∷ news) e = by_test (p new) refl e (not_there p news)
  where
    by_test : (b : Bool) → p new ≡ b → (if b then Some new else find p news) ≡ None → (find p news ≡ None → AllByRecursion (λ one. p one ≡ false) news)
        → AllByRecursion (λ one. p one ≡ false) (new ∷ news)
    by_test true own e later = cc
    by_test false own e later = (own, later e)

same_among : (id : Text) (rows : List SleepRow) (news : List NewInvocation) → AllByRecursion (λ (new : NewInvocation). bytes_eq new.id id ≡ false) news
    → rows_among (filter (is_other id) rows) news ≡ rows_among rows news
same_among id rows [] all = refl
same_among id rows (new ∷ news) all =
    ap₂ (λ (a b : ℕ). a + b) (ap length (left_of id new.id rows (other_way new.id id all.0))) (same_among id rows news all.1)
  where
    other_way : (a b : Text) → bytes_eq a b ≡ false → bytes_eq b a ≡ false
    other_way a b e = by_test (bytes_eq b a) refl
      where
        by_test : (c : Bool) → bytes_eq b a ≡ c → c ≡ false
        by_test true f = absurd (true≢false (sym ((bytes_eq-Decides a b).1 (sym ((bytes_eq-Decides b a).0 f))) ∙ e))
        by_test false f = refl

abbrev AreOfBegun : List Event → List SleepRow → Type 0
AreOfBegun events rows = (id : Text) → invocation_begun events id ≡ None → filter (is_sleep_of id) rows ≡ []

none_at_all : (rows : List SleepRow) → AreOfBegun [] rows → length rows ≡ 0
none_at_all [] of_begun = refl
none_at_all (row ∷ rows) of_begun =
    let e : row ∷ filter (is_sleep_of row.invocation) rows ≡ [] =
    sym (ap (λ (b : Bool). if b then row ∷ filter (is_sleep_of row.invocation) rows else filter (is_sleep_of row.invocation) rows) (itself row.invocation)) ∙ of_begun row.invocation refl in
    absurd cc

no_more : (o : Option NewInvocation) → is_some o ≡ false → o ≡ None
no_more None e = refl
no_more (Some new) e = cc

all_counted : (events : List Event) (rows : List SleepRow) → IsAccepted events → AreOfBegun events rows → length rows ≡ rows_among rows (filter_map invoked_by events)
all_counted [] rows accepted of_begun = none_at_all rows of_begun
all_counted (Event.Invoke new ∷ earlier) rows accepted of_begun =
    split_count new.id rows
    ∙ ap (λ (n : ℕ). length (filter (is_sleep_of new.id) rows) + n)
    (all_counted earlier (filter (is_other new.id) rows) accepted.1 of_earlier
    ∙ same_among new.id rows (filter_map invoked_by earlier)
    (not_there (λ (one : NewInvocation). bytes_eq one.id new.id) (filter_map invoked_by earlier) (no_more (invocation_begun earlier new.id) (begin_when_new earlier new accepted.0))))
  where
    of_earlier : AreOfBegun earlier (filter (is_other new.id) rows)
    of_earlier id none = by_test (bytes_eq new.id id) refl
      where
        by_test : (b : Bool) → bytes_eq new.id id ≡ b → filter (is_sleep_of id) (filter (is_other new.id) rows) ≡ []
        by_test true same = subst (λ (x : Text). filter (is_sleep_of x) (filter (is_other new.id) rows) ≡ []) ((bytes_eq-Decides new.id id).0 same) (none_left new.id rows)
        by_test false apart = left_of new.id id rows apart
            ∙ of_begun id (ap (λ (b : Bool). if b then Some new else invocation_begun earlier id) apart ∙ none)
all_counted (Event.Result x n result ∷ earlier) rows accepted of_begun = all_counted earlier rows accepted.1 of_begun
all_counted (Event.Signal x key result ∷ earlier) rows accepted of_begun = all_counted earlier rows accepted.1 of_begun
all_counted (Event.Cancel x ∷ earlier) rows accepted of_begun = all_counted earlier rows accepted.1 of_begun
all_counted (Event.Tick now ∷ earlier) rows accepted of_begun = all_counted earlier rows accepted.1 of_begun
all_counted (Event.Begin x now ∷ earlier) rows accepted of_begun = all_counted earlier rows accepted.1 of_begun
all_counted (Event.Feed x n most ∷ earlier) rows accepted of_begun = all_counted earlier rows accepted.1 of_begun
all_counted (Event.Close x n ∷ earlier) rows accepted of_begun = all_counted earlier rows accepted.1 of_begun
all_counted (Event.Move x n frame ∷ earlier) rows accepted of_begun = all_counted earlier rows accepted.1 of_begun
all_counted (Event.Stop x n ∷ earlier) rows accepted of_begun = all_counted earlier rows accepted.1 of_begun
all_counted (Event.Edit object request ∷ earlier) rows accepted of_begun = all_counted earlier rows accepted.1 of_begun

-- ---- those that the tick ends

abbrev AreThoseEnded : List Event → ℕ → List SleepRow → Type 0
AreThoseEnded events now rows = (id : Text) → filter (is_sleep_of id) rows ≡ map (sleep_row id) (ended_sleeps events now id)

as_many : (id : Text) (o : Bool) (sleeps : List (ℕ × ℕ)) → length (map (sleep_row id) (if o then sleeps else [])) ≡ (if o then length (map answer_of_sleep sleeps) else 0)
as_many id true [] = refl
as_many id true (sleep ∷ sleeps) = ap suc (as_many id true sleeps)
as_many id false sleeps = refl

slept_among : (events : List Event) (now : ℕ) (rows : List SleepRow) (news : List NewInvocation) → AreThoseEnded events now rows → rows_among rows news ≡ count_slept events now news
slept_among events now rows [] those = refl
slept_among events now rows (new ∷ news) those =
    ap₂ (λ (a b : ℕ). a + b)
    (ap length (those new.id) ∙ as_many new.id (is_open events new.id) (filter (is_sleep_over (entries_of events new.id) now) (sorted_by_moment (sleeps_in (requests_in (entries_of events new.id))))))
    (slept_among events now rows news those)

-- an invocation that was not begun has none
none_unknown : (o : Option NewInvocation) (rest : Bool) (id : Text) (sleeps : List (ℕ × ℕ)) → o ≡ None → map (sleep_row id) (if is_some o && rest then sleeps else []) ≡ []
none_unknown None rest id sleeps e = refl
none_unknown (Some new) rest id sleeps e = cc

pub sleeps_counted : (events : List Event) (now : ℕ) (rows : List SleepRow) → IsAccepted events → AreThoseEnded events now rows → length rows ≡ completions_of_tick events now
sleeps_counted events now rows accepted those =
    all_counted events rows accepted (λ id none. those id ∙ none_unknown (invocation_begun events id) _ id _ none)
    ∙ slept_among events now rows (filter_map invoked_by events) those

pub all_ended_counted : AllEndedCounted
all_ended_counted events now r accepted kept =
    sleeps_counted events now (sort_by sleep_cmp (due_sleeps now r)) accepted (ended_found events now r accepted kept).ended
