-- The first of the kept sleeps is the next one that a tick ends.
use Rattle.std.proofs.Common.{ℕ, pos, ◌<◌, ◌≤◌, arith, nat_lt, nat_le, ◌≡◌, ◌⊎◌, refl, sym, ap, ap₂, subst, ◌∙◌, inl, inr, true≢false, Bool, true, false, not, ◌&&◌, ◌||◌, if◌then◌else◌, List, [], ◌∷◌, ◌++◌, map, filter, cond, Option, Some, None, option_map, bytes_eq, Less, Equal, Greater, is_gt, is_ge}
use Rattle.std.specs.List.{AllByRecursion, list_any}
use Rattle.std.specs.Int.{w64, cast_signed}
use Rattle.std.specs.Ordering.{int_cmp}
use Rattle.std.proofs.lemmas.Bool.{le-leb, lt-leb, le-ltb, lt-ltb, ltb-true, ltb-false}
use Rattle.std.proofs.lemmas.Int.{to_z_pos}
use Rattle.std.proofs.lemmas.List.Sorted.{list_any-IsPermutation}
use Rattle.sqlite_rules.specs.Lists.{Has}
use Rattle.sqlite_keyed.specs.Lists.{sort_by}
use Rattle.sqlite_keyed.proofs.ListLemmas.{all_weaker, all_both, all-filter, all-append, filter_all, filter_none}
use Rattle.sqlite_keyed.proofs.SortLemmas.{IsPermutation-sort_by}
use Rattle.sql_tables.specs.Statements.{IsFirst}
use Rattle.journal_model.specs.Notification.{Text, Arrival}
use Rattle.journal_model.specs.declared.notification.NotificationResult.{NotificationResult}
use Rattle.journal_model.specs.Event.{Frame, Event}
use Rattle.journal_model.specs.Journal.{completion, version_of, closes, is_open, sleep_in, requests_in, sleeps_in, sorted_by_moment, never, can_be_due, is_sleep_over, slept, entries_of}
use Rattle.journal_model.specs.Cause.{is_empty, IsAccepted}
use Rattle.due_laws.specs.NextMoment.{ends_sleep}
use Rattle.store_tables.specs.Records.{Records, ends_by, ends_from, is_sleep_of}
use Rattle.store_tables.specs.Orders.{moment_cmp, sleep_cmp}
use Rattle.store_tables.specs.declared.row.SleepRow.{SleepRow}
use Rattle.store_model.specs.Sleeps.{due_until, sleep_row, sleeps_opened, sleeps_after_frame, sleeps_kept}
use Rattle.store_model.specs.KeptRecords.{IsKept}
use Rattle.store_model.proofs.States.{itself}
use Rattle.store_model.specs.Lookups.{due_sleeps, ended_sleeps}
use Rattle.store_model.proofs.OpenSleeps.{due_told}
use Rattle.store_model.proofs.DueSleeps.{sleep_cmp_total, ended_found}
use Rattle.store_live_laws.specs.RowLaws.{NextFromRecords}

-- ---- the moments that are kept fit

abbrev IsSmall : SleepRow → Type 0
IsSmall s = s.moment < never

small_opened : (id : Text) (sleeps : List (ℕ × ℕ)) → AllByRecursion IsSmall (map (sleep_row id) (filter can_be_due sleeps))
small_opened id [] = tt
small_opened id (sleep ∷ sleeps) = by_test (can_be_due sleep) refl (small_opened id sleeps)
  where
    by_test : (b : Bool) → can_be_due sleep ≡ b → AllByRecursion IsSmall (map (sleep_row id) (filter can_be_due sleeps))
        → AllByRecursion IsSmall (map (sleep_row id) (if b then sleep ∷ filter can_be_due sleeps else filter can_be_due sleeps))
    by_test true e later = (ltb-true sleep.0 never e, later)
    by_test false e later = later

small_unless : (b : Bool) (id : Text) (sleeps : List SleepRow) → AllByRecursion IsSmall sleeps
    → AllByRecursion IsSmall (if b then filter (λ s. not (is_sleep_of id s)) sleeps else sleeps)
small_unless true id sleeps all = all-filter IsSmall (λ s. not (is_sleep_of id s)) sleeps all
small_unless false id sleeps all = all

small_frame : (version : ℕ) (id : Text) (frame : Frame) (sleeps : List SleepRow) → AllByRecursion IsSmall sleeps → AllByRecursion IsSmall (sleeps_after_frame version id frame sleeps)
small_frame version id (Frame.Command request) sleeps all = all-append IsSmall sleeps (sleeps_opened id request) all (small_opened id (sleep_in request))
small_frame version id frame sleeps all = small_unless (closes version frame) id sleeps all

all_small : (events : List Event) → AllByRecursion IsSmall (sleeps_kept events)
all_small [] = tt
all_small (Event.Move id attempt frame ∷ events) = small_frame (version_of events id) id frame (sleeps_kept events) (all_small events)
all_small (Event.Tick now ∷ events) = all-filter IsSmall (λ s. not (ends_by (due_until now) s)) (sleeps_kept events) (all_small events)
all_small (event ∷ events) = all_small events

-- so they are told as they are
until : (now : ℕ) (s : SleepRow) → IsSmall s → ends_by (due_until now) s ≡ nat_le s.moment now
until now s small = due_told s.invocation (s.moment, s.completion) now (lt-ltb s.moment never small)

from_zero : (s : SleepRow) → IsSmall s → ends_from 0 s ≡ true
from_zero s small =
    ap₂ (λ a b. is_ge (int_cmp a b)) (to_z_pos w64 s.moment small) (to_z_pos w64 0 (omega arith))
    ∙ by_test (nat_lt s.moment 0) (le-ltb s.moment 0 (omega arith)) (nat_lt 0 s.moment)
  where
    by_test : (a : Bool) → a ≡ false → (b : Bool) → is_ge (cond a Less (cond b Greater Equal)) ≡ true
    by_test true e b = absurd (true≢false e)
    by_test false e true = refl
    by_test false e false = refl

not_after : (a b : SleepRow) → IsSmall a → IsSmall b → is_gt (moment_cmp a b) ≡ false → a.moment ≤ b.moment
not_after a b one two e =
    by_test (nat_lt a.moment b.moment) refl (nat_lt b.moment a.moment) refl
    (sym (ap₂ (λ x y. is_gt (int_cmp x y)) (to_z_pos w64 a.moment one) (to_z_pos w64 b.moment two)) ∙ e)
  where
    by_test : (c : Bool) → nat_lt a.moment b.moment ≡ c → (d : Bool) → nat_lt b.moment a.moment ≡ d → is_gt (cond c Less (cond d Greater Equal)) ≡ false → a.moment ≤ b.moment
    by_test true f d g h = omega (arith, ltb-true a.moment b.moment f)
    by_test false f true g h = absurd (true≢false h)
    by_test false f false g h = ltb-false b.moment a.moment g

-- ---- lists

no_pass : {A : Type 0} (p : A → Bool) (xs : List A) → list_any p xs ≡ true → filter p xs ≡ [] → ⊥
no_pass p [] e none = true≢false (sym e)
no_pass p (x ∷ xs) e none = by_test (p x) e none (no_pass p xs)
  where
    by_test : (b : Bool) → (b || list_any p xs) ≡ true → (if b then x ∷ filter p xs else filter p xs) ≡ [] → (list_any p xs ≡ true → filter p xs ≡ [] → ⊥) → ⊥
    by_test true e none later = cc
    by_test false e none later = later e none

has_all : {A : Type 0} (P : A → Type 0) (xs : List A) (x : A) → Has xs x → AllByRecursion P xs → P x
has_all P [] x has all = absurd has
has_all P (y ∷ ys) x (inl e) all = subst P (sym e) all.0
has_all P (y ∷ ys) x (inr has) all = has_all P ys x has all.1

any_kept : (p q : SleepRow → Bool) (xs : List SleepRow) (x : SleepRow) → Has xs x → p x ≡ true → q x ≡ true → list_any p (filter q xs) ≡ true
any_kept p q [] x has passes kept = absurd has
any_kept p q (y ∷ ys) x (inl e) passes kept = rw (ap q (sym e) ∙ kept) (ap (λ (b : Bool). b || list_any p (filter q ys)) (ap p (sym e) ∙ passes))
any_kept p q (y ∷ ys) x (inr has) passes kept = by_test (q y) (any_kept p q ys x has passes kept)
  where
    or_true : (a b : Bool) → b ≡ true → (a || b) ≡ true
    or_true true b e = refl
    or_true false b e = e

    by_test : (b : Bool) → list_any p (filter q ys) ≡ true → list_any p (if b then y ∷ filter q ys else filter q ys) ≡ true
    by_test true later = or_true (p y) (list_any p (filter q ys)) later
    by_test false later = later

-- ---- what a tick ends

module _ (events : List Event) (r : Records) (accepted : IsAccepted events) (kept : IsKept events r) where
  abbrev over : ℕ → Text → List (ℕ × ℕ)
  over now id = filter (is_sleep_over (entries_of events id) now) (sorted_by_moment (sleeps_in (requests_in (entries_of events id))))

  rows_of : (now : ℕ) (id : Text) → filter (is_sleep_of id) (sort_by sleep_cmp (due_sleeps now r)) ≡ map (sleep_row id) (ended_sleeps events now id)
  rows_of now id = (ended_found events now r accepted kept).ended id

  none_ends : (now : ℕ) → due_sleeps now r ≡ [] → (id : Text) → ends_sleep events now id ≡ false
  none_ends now none id =
      by_open (is_open events id) (sym (rows_of now id) ∙ ap (λ (rows : List SleepRow). filter (is_sleep_of id) (sort_by sleep_cmp rows)) none)
    where
      nothing : (sleeps : List (ℕ × ℕ)) → map (sleep_row id) sleeps ≡ [] → not (is_empty (map (λ sleep. completion sleep.1 NotificationResult.Void) sleeps)) ≡ false
      nothing [] e = refl
      nothing (sleep ∷ sleeps) e = cc

      by_open : (o : Bool) → map (sleep_row id) (if o then over now id else []) ≡ [] → (o && not (is_empty (slept (entries_of events id) now))) ≡ false
      by_open true e = nothing (over now id) e
      by_open false e = refl

  some_ends : (now : ℕ) (s : SleepRow) → Has r.sleeps s → IsSmall s → s.moment ≤ now → ends_sleep events now s.invocation ≡ true
  some_ends now s has small within = by_open (is_open events s.invocation) some
    where
      here : list_any (is_sleep_of s.invocation) (due_sleeps now r) ≡ true
      here = any_kept (is_sleep_of s.invocation) (ends_by (due_until now)) r.sleeps s has (itself s.invocation) (until now s small ∙ le-leb s.moment now within)

      some : map (sleep_row s.invocation) (ended_sleeps events now s.invocation) ≡ [] → ⊥
      some none =
          no_pass (is_sleep_of s.invocation) (sort_by sleep_cmp (due_sleeps now r))
          (list_any-IsPermutation (is_sleep_of s.invocation) (sort_by sleep_cmp (due_sleeps now r)) (due_sleeps now r) (IsPermutation-sort_by sleep_cmp sleep_cmp_total (due_sleeps now r)) ∙ here)
          (rows_of now s.invocation ∙ none)

      something : (sleeps : List (ℕ × ℕ)) → (map (sleep_row s.invocation) sleeps ≡ [] → ⊥) → not (is_empty (map (λ sleep. completion sleep.1 NotificationResult.Void) sleeps)) ≡ true
      something [] full = absurd (full refl)
      something (sleep ∷ sleeps) full = refl

      by_open : (o : Bool) → (map (sleep_row s.invocation) (if o then over now s.invocation else []) ≡ [] → ⊥) → (o && not (is_empty (slept (entries_of events s.invocation) now))) ≡ true
      by_open true full = something (over now s.invocation) full
      by_open false full = absurd (full refl)

  all_fit : AllByRecursion IsSmall r.sleeps
  all_fit = subst (λ (sleeps : List SleepRow). AllByRecursion IsSmall sleeps) (sym kept.sleeps) (all_small events)

  all_from_zero : filter (ends_from 0) r.sleeps ≡ r.sleeps
  all_from_zero = filter_all (ends_from 0) r.sleeps (all_weaker IsSmall (λ s. ends_from 0 s ≡ true) from_zero r.sleeps all_fit)

  none_before : (now : ℕ) → AllByRecursion (λ (s : SleepRow). (now < s.moment) × IsSmall s) r.sleeps → due_sleeps now r ≡ []
  none_before now all =
      filter_none (ends_by (due_until now)) r.sleeps
      (all_weaker (λ (s : SleepRow). (now < s.moment) × IsSmall s) (λ s. ends_by (due_until now) s ≡ false) (λ s later. until now s later.1 ∙ lt-leb s.moment now later.0) r.sleeps all)

pub next_from_records : NextFromRecords
next_from_records events r None accepted kept first = λ now id.
    none_ends events r accepted kept now (ap (filter (ends_by (due_until now))) (sym (all_from_zero events r accepted kept) ∙ first)) id
next_from_records events r (Some s) accepted kept first = (
  (s.invocation, some_ends events r accepted kept s.moment s there small (omega arith)),
  λ now id below.
      none_ends events r accepted kept now
      (none_before events r accepted kept now
      (all_both (λ (y : SleepRow). is_gt (moment_cmp s y) ≡ false) IsSmall (λ (y : SleepRow). (now < y.moment) × IsSmall y)
      (λ y after fits. (omega (arith, below, not_after s y small fits after), fits)) r.sleeps firsts (all_fit events r accepted kept)))
      id,
)
  where
    there : Has r.sleeps s
    there = subst (λ (rows : List SleepRow). Has rows s) (all_from_zero events r accepted kept) first.0

    firsts : AllByRecursion (λ (y : SleepRow). is_gt (moment_cmp s y) ≡ false) r.sleeps
    firsts = subst (λ (rows : List SleepRow). AllByRecursion (λ (y : SleepRow). is_gt (moment_cmp s y) ≡ false) rows) (all_from_zero events r accepted kept) first.1

    small : IsSmall s
    small = has_all IsSmall r.sleeps s there (all_fit events r accepted kept)
