-- The rows that have the flag, among the records that are kept.
use Rattle.std.proofs.Common.{ℕ, ◌≤◌, arith, ◌≡◌, refl, sym, ap, subst, ◌∙◌, true≢false, Bool, true, false, if◌then◌else◌, List, [], ◌∷◌, length, map, filter, Option, Some, None, option_to_list, option_map, bytes_eq, Less, is_eq, is_lt, IsPermutation}
use Rattle.std.specs.List.{AllByRecursion}
use Rattle.std.specs.Cmp.{IsTotalOrder}
use Rattle.std.specs.Cmp.Lexicographic.{nat_list_cmp_total}
use Rattle.std.proofs.lemmas.Cmp.{on_total}
use Rattle.std.proofs.lemmas.List.Sorted.{IsPermutation-sym}
use Rattle.std.proofs.lemmas.Map.Text.{is_eq-slice_cmp}
use Rattle.std.proofs.lemmas.Slice.Eq.{bytes_eq-Decides}
use Rattle.sqlite_trees.specs.Tree.{IsAscending}
use Rattle.sqlite_keyed.specs.Lists.{sort_by}
use Rattle.sqlite_keyed.proofs.ListLemmas.{all_weaker, all_kept, ascending-filter, filter-map}
use Rattle.sqlite_keyed.proofs.SortLemmas.{IsPermutation-sort_by}
use Rattle.journal_model.specs.Notification.{Text}
use Rattle.journal_model.specs.declared.invocation.NewInvocation.{NewInvocation}
use Rattle.journal_model.specs.Event.{Event}
use Rattle.journal_model.specs.Journal.{invocation_begun}
use Rattle.due_laws.specs.AwakeNotes.{is_awake_kept}
use Rattle.store_tables.specs.Orders.{id_cmp}
use Rattle.store_tables.specs.Questions.{DoAscend, has_id, is_awake}
use Rattle.store_tables.specs.declared.row.InvocationRow.{InvocationRow}
use Rattle.store_model.specs.KeptRecords.{IsKept, begun, invocation_row}
use Rattle.store_model.proofs.States.{itself}
use Rattle.store_model.proofs.Finding.{named_once}
use Rattle.store_model.proofs.Sorting.{sorted_rises}
use Rattle.store_tables.specs.Records.{Records}
use Rattle.journal_model.specs.Cause.{IsAccepted}
use Rattle.store_live_laws.specs.RowLaws.{AwakeAreArranged, DueFromRecords}
use Rattle.store_live_laws.proofs.Kept.{due_from_rows}

-- ---- they are due, but for those with a live attempt

flagged : (events : List Event) (news : List NewInvocation)
    → filter is_awake (map (invocation_row events) news) ≡ filter (λ (row : InvocationRow). is_awake_kept events row.id) (map (invocation_row events) news)
flagged events [] = refl
flagged events (new ∷ news) =
    ap (λ (rest : List InvocationRow). if is_awake_kept events new.id then invocation_row events new ∷ rest else rest) (flagged events news)

pub due_from_records : DueFromRecords
due_from_records events r rows accepted kept ascend those =
    due_from_rows events rows accepted ascend
    (subst (λ (some : List InvocationRow). IsPermutation some rows) (ap (filter is_awake) kept.invocations ∙ flagged events (begun events)) those)

-- ---- they have an order

pub id_cmp_total : IsTotalOrder id_cmp
id_cmp_total = on_total (λ (row : InvocationRow). row.id) nat_list_cmp_total

-- where one row at most has each id, no two are alike
apart_by_id : (xs : List InvocationRow) → ((id : Text) → length (filter (has_id id) xs) ≤ 1) → IsAscending (λ a b. is_eq (id_cmp a b) ≡ false) xs
apart_by_id [] once = tt
apart_by_id (x ∷ xs) once = (others (has_id x.id x) (itself x.id) (once x.id), apart_by_id xs (λ id. rest id (has_id id x) (once id)))
  where
    rest : (id : Text) (b : Bool) → length (if b then x ∷ filter (has_id id) xs else filter (has_id id) xs) ≤ 1 → length (filter (has_id id) xs) ≤ 1
    rest id true h = omega (arith, h)
    rest id false h = h

    none : (ys : List InvocationRow) → length ys ≤ 0 → AllByRecursion (λ (y : InvocationRow). ⊥) ys
    none [] h = tt
    none (y ∷ ys) h = absurd (omega (arith, h))

    apart : (y : InvocationRow) → (has_id x.id y ≡ true → ⊥) → is_eq (id_cmp x y) ≡ false
    apart y other = by_test (is_eq (id_cmp x y)) refl
      where
        by_test : (b : Bool) → is_eq (id_cmp x y) ≡ b → b ≡ false
        by_test true e =
            let same : x.id ≡ y.id = (bytes_eq-Decides x.id y.id).0 (sym (is_eq-slice_cmp x.id y.id) ∙ e) in
            absurd (other ((bytes_eq-Decides y.id x.id).1 (sym same)))
        by_test false e = refl

    others : (b : Bool) → b ≡ true → length (if b then x ∷ filter (has_id x.id) xs else filter (has_id x.id) xs) ≤ 1 → AllByRecursion (λ y. is_eq (id_cmp x y) ≡ false) xs
    others true e h =
        all_weaker (λ (y : InvocationRow). has_id x.id y ≡ true → ⊥) (λ (y : InvocationRow). is_eq (id_cmp x y) ≡ false) apart xs
        (all_kept (λ (y : InvocationRow). ⊥) (has_id x.id) xs (none (filter (has_id x.id) xs) (omega (arith, h))))
    others false e h = absurd (true≢false (sym e))

begun_apart : (events : List Event) → IsAccepted events → IsAscending (λ a b. is_eq (id_cmp a b) ≡ false) (map (invocation_row events) (begun events))
begun_apart events accepted =
    apart_by_id (map (invocation_row events) (begun events)) (λ id.
    subst (λ (rows : List InvocationRow). length rows ≤ 1)
    (sym (filter-map (has_id id) (invocation_row events) (begun events) ∙ ap (map (invocation_row events)) (named_once events accepted id))) (few (invocation_begun events id)))
  where
    few : (o : Option NewInvocation) → length (map (invocation_row events) (option_to_list o)) ≤ 1
    few None = omega arith
    few (Some new) = omega arith

all_apart : (events : List Event) (r : Records) → IsAccepted events → IsKept events r → IsAscending (λ a b. is_eq (id_cmp a b) ≡ false) r.invocations
all_apart events r accepted kept = subst (IsAscending (λ a b. is_eq (id_cmp a b) ≡ false)) (sym kept.invocations) (begun_apart events accepted)

-- in the order of their ids each is before the next
pub begun_rise : (events : List Event) → IsAccepted events → IsAscending (λ a b. id_cmp a b ≡ Less) (sort_by id_cmp (map (invocation_row events) (begun events)))
begun_rise events accepted = sorted_rises id_cmp id_cmp_total (map (invocation_row events) (begun events)) (begun_apart events accepted)

ascends : (xs : List InvocationRow) → IsAscending (λ a b. id_cmp a b ≡ Less) xs → DoAscend (λ (row : InvocationRow). row.id) xs
ascends [] up = tt
ascends (x ∷ []) up = tt
ascends (x ∷ y ∷ xs) up = (ap is_lt up.0.0, ascends (y ∷ xs) up.1)

pub awake_are_arranged : AwakeAreArranged
awake_are_arranged events r accepted kept = (
  sort_by id_cmp (filter is_awake r.invocations),
  ascends (sort_by id_cmp (filter is_awake r.invocations)) (sorted_rises id_cmp id_cmp_total (filter is_awake r.invocations)
      (ascending-filter (λ a b. is_eq (id_cmp a b) ≡ false) is_awake r.invocations (all_apart events r accepted kept))),
  IsPermutation-sym (sort_by id_cmp (filter is_awake r.invocations)) (filter is_awake r.invocations) (IsPermutation-sort_by id_cmp id_cmp_total (filter is_awake r.invocations)),
)
