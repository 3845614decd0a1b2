-- A page of what is due, row by row; and pages go on.
use Rattle.std.proofs.Common.{ℕ, zero, suc, ◌+◌, ◌-◌, ◌<◌, ◌≤◌, arith, ◌≡◌, refl, sym, ap, subst, ◌∙◌, Bool, true, false, not, ◌&&◌, ◌||◌, if◌then◌else◌, List, [], ◌∷◌, ◌++◌, length, map, filter, take, slice_get, Option, Some, None, is_some, Less, is_lt, IsPermutation}
use Rattle.std.specs.List.{AllByRecursion}
use Rattle.std.proofs.lemmas.List.Sorted.{IsPermutation-sym}
use Rattle.sqlite_trees.specs.Tree.{IsAscending}
use Rattle.sqlite_trees.proofs.ListLemmas.{all-permutation}
use Rattle.sqlite_keyed.specs.Lists.{sort_by}
use Rattle.sqlite_keyed.proofs.SortLemmas.{IsPermutation-sort_by}
use Rattle.sqlite_keyed.proofs.ListLemmas.{all-append, all-filter, all_map, ascending-filter, filter-map, filter_all, filter_same, IsPermutation-filter}
use Rattle.journal_model.specs.Notification.{Text}
use Rattle.journal_model.specs.declared.cause.Cause.{Cause}
use Rattle.journal_model.specs.declared.invocation.NewInvocation.{NewInvocation}
use Rattle.journal_model.specs.Event.{Event}
use Rattle.journal_model.specs.Journal.{is_busy}
use Rattle.journal_model.specs.Cause.{IsAccepted, causes_of, is_empty}
use Rattle.journal_model.specs.Attempt.{due, is_none, live_attempt}
use Rattle.due_laws.specs.AwakeNotes.{is_awake_kept}
use Rattle.store_tables.specs.declared.row.InvocationRow.{InvocationRow}
use Rattle.store_tables.specs.Orders.{id_cmp}
use Rattle.store_tables.specs.Questions.{DoAscend, is_awake, is_before, is_named_after}
use Rattle.store_model.specs.KeptRecords.{begun, begun_by, invocation_row}
use Rattle.store_live.specs.declared.attempt.LiveAttempt.{LiveAttempt}
use Rattle.store_live.specs.Attempts.{ByInvocation, attempt_of}
use Rattle.store_live_laws.specs.LiveAttempts.{Agrees}
use Rattle.store_live_laws.proofs.Awake.{begun_rise, id_cmp_total}
use Rattle.store_live_laws.proofs.Kept.{due_from_rows}
use Rattle.store_reads.specs.Page.{rows_behind, rows_by_id}
use Rattle.store_reads.specs.DuePage.{PagesAreDue, PagesGoOn, IsPassed, all_sizes, due_after, due_among, due_in_pages, is_row_due, last_or, with_due}
use Rattle.store_reads.proofs.PageRows.{DoRise, others_behind}

abbrev id_of : InvocationRow → Text
id_of row = row.id

-- ---- a page grows

joined : (ids : List Text) (x : Text) (rest : List Text) → (ids ++ x ∷ []) ++ rest ≡ ids ++ x ∷ rest
joined [] x rest = refl
joined (id ∷ ids) x rest = ap (λ (l : List Text). id ∷ l) (joined ids x rest)

one_more : (ids : List Text) (x : Text) → length (ids ++ x ∷ []) ≡ length ids + 1
one_more [] x = refl
one_more (id ∷ ids) x = let later = one_more ids x in omega (arith, later)

nothing_behind : (ids : List Text) → ids ++ [] ≡ ids
nothing_behind [] = refl
nothing_behind (id ∷ ids) = ap (λ (l : List Text). id ∷ l) (nothing_behind ids)

abbrev no_ids : List Text
no_ids = []

none_of_none : (n : ℕ) → take n no_ids ≡ no_ids
none_of_none zero = refl
none_of_none (suc n) = refl

module _ (attempts : ByInvocation) (all : List InvocationRow) (after : Text) (most : ℕ) where
  -- these ids stand at the head of the page, and behind them what is due of the rows behind this id
  abbrev pub IsPaged : Text → List Text → Type 0
  IsPaged behind ids =
      ids ++ take (most - length ids) (due_among attempts (filter (is_named_after (Some behind)) all)) ≡ take most (due_among attempts (filter (is_named_after (Some after)) all))

  pub paged_first : (behind : Text) (ids : List Text) → behind ≡ after → ids ≡ [] → IsPaged behind ids
  paged_first behind ids at none =
      subst (λ (id : Text). IsPaged id ids) (sym at) (subst (IsPaged after) (sym none)
      (let n : most - 0 ≡ most = omega arith in ap (λ (k : ℕ). take k (due_among attempts (filter (is_named_after (Some after)) all))) n))

  grown : (row : InvocationRow) (rest : List InvocationRow) (ids : List Text) (b : Bool) → length ids < most
      → (if b then ids ++ row.id ∷ [] else ids) ++ take (most - length (if b then ids ++ row.id ∷ [] else ids)) (due_among attempts rest)
      ≡ ids ++ take (most - length ids) (map id_of (if b then row ∷ filter (is_row_due attempts) rest else filter (is_row_due attempts) rest))
  grown row rest ids true room =
      let fewer : most - length ids ≡ suc (most - length (ids ++ row.id ∷ [])) = let n = one_more ids row.id in omega (arith, n, room) in
      joined ids row.id _ ∙ sym (ap (λ (k : ℕ). ids ++ take k (row.id ∷ due_among attempts rest)) fewer)
  grown row rest ids false room = refl

  pub paged_on : (behind next : Text) (ids more : List Text) → DoRise all → length ids < most
      → IsPassed attempts (filter (is_named_after (Some behind)) all) true next ids more → IsPaged behind ids → IsPaged next more
  paged_on behind next ids more up room (row, found, is, grows) so = by_list (filter (is_named_after (Some behind)) all) refl found so
    where
      by_list : (rows : List InvocationRow) → filter (is_named_after (Some behind)) all ≡ rows → slice_get rows 0 ≡ Some row
          → ids ++ take (most - length ids) (due_among attempts rows) ≡ take most (due_among attempts (filter (is_named_after (Some after)) all)) → IsPaged next more
      by_list [] are found so = absurd cc
      by_list (y ∷ rest) are found so =
          let same : y ≡ row = cc in
          let left : filter (is_named_after (Some row.id)) all ≡ rest =
          others_behind (Some behind) all row rest up (are ∙ ap (λ (z : InvocationRow). z ∷ rest) same) in
          let this : with_due attempts row ids ++ take (most - length (with_due attempts row ids)) (due_among attempts rest) ≡ ids ++ take (most - length ids) (due_among attempts (row ∷ rest)) =
          grown row rest ids (is_row_due attempts row) room in
          let those : IsPaged row.id (with_due attempts row ids) =
          ap (λ (rows : List InvocationRow). with_due attempts row ids ++ take (most - length (with_due attempts row ids)) (due_among attempts rows)) left
          ∙ this ∙ ap (λ (z : InvocationRow). ids ++ take (most - length ids) (due_among attempts (z ∷ rest))) (sym same) ∙ so in
          subst (λ (id : Text). IsPaged id more) (sym is) (subst (IsPaged row.id) (sym grows) those)

  pub paged_all : (behind next : Text) (ids more : List Text) → IsPassed attempts (filter (is_named_after (Some behind)) all) false next ids more → IsPaged behind ids
      → more ≡ take most (due_among attempts (filter (is_named_after (Some after)) all))
  paged_all behind next ids more passed so = passed.1 ∙ by_list (filter (is_named_after (Some behind)) all) passed.0 so
    where
      by_list : (rows : List InvocationRow) → slice_get rows 0 ≡ None
          → ids ++ take (most - length ids) (due_among attempts rows) ≡ take most (due_among attempts (filter (is_named_after (Some after)) all))
          → ids ≡ take most (due_among attempts (filter (is_named_after (Some after)) all))
      by_list [] none so = sym (ap (λ (l : List Text). ids ++ l) (none_of_none (most - length ids)) ∙ nothing_behind ids) ∙ so
      by_list (y ∷ rest) none so = absurd cc

  pub paged_full : (behind : Text) (ids : List Text) → most ≤ length ids → IsPaged behind ids → ids ≡ take most (due_among attempts (filter (is_named_after (Some after)) all))
  paged_full behind ids full so =
      let none : most - length ids ≡ 0 = omega (arith, full) in
      sym (ap (λ (k : ℕ). ids ++ take k (due_among attempts (filter (is_named_after (Some behind)) all))) none ∙ nothing_behind ids) ∙ so

-- ---- what is due, by the rows

abbrev is_row_left : List Event → InvocationRow → Bool
is_row_left events row = is_awake row && is_none (live_attempt events row.id)

flagged : (events : List Event) (news : List NewInvocation)
    → filter is_awake (map (invocation_row events) news) ≡ filter (λ (row : InvocationRow). is_awake_kept events row.id) (map (invocation_row events) news)
flagged events [] = refl
flagged events (new ∷ news) =
    ap (λ (rest : List InvocationRow). if is_awake_kept events new.id then invocation_row events new ∷ rest else rest) (flagged events news)

ascends : (rows : List InvocationRow) → DoRise rows → DoAscend (λ (row : InvocationRow). row.id) rows
ascends [] up = tt
ascends (x ∷ []) up = tt
ascends (x ∷ y ∷ rows) up = (ap is_lt up.0.0, ascends (y ∷ rows) up.1)

both : {X : Type 0} (p q : X → Bool) (xs : List X) → filter p (filter q xs) ≡ filter (λ x. q x && p x) xs
both p q [] = refl
both {X} p q (x ∷ xs) = by_test (q x) (both p q xs)
  where
    by_test : (b : Bool) → filter p (filter q xs) ≡ filter (λ x. q x && p x) xs
        → filter p (if b then x ∷ filter q xs else filter q xs) ≡ (if b && p x then x ∷ filter (λ y. q y && p y) xs else filter (λ y. q y && p y) xs)
    by_test true later = ap (λ (l : List X). if p x then x ∷ l else l) later
    by_test false later = later

turned : {X : Type 0} (p q : X → Bool) (xs : List X) → filter p (filter q xs) ≡ filter q (filter p xs)
turned p q xs = both p q xs ∙ filter_same (λ x. q x && p x) (λ x. p x && q x) (λ x. either (q x) (p x)) xs ∙ sym (both q p xs)
  where
    either : (a b : Bool) → (a && b) ≡ (b && a)
    either true true = refl
    either true false = refl
    either false true = refl
    either false false = refl

abbrev rows_due : List Event → List InvocationRow
rows_due events = filter (is_row_left events) (rows_by_id events)

due_by_rows : (events : List Event) → IsAccepted events → due events ≡ map id_of (rows_due events)
due_by_rows events accepted =
    due_from_rows events (filter is_awake all) accepted (ascends (filter is_awake all) (ascending-filter (λ a b. id_cmp a b ≡ Less) is_awake all (begun_rise events accepted)))
    (subst (λ (rows : List InvocationRow). IsPermutation rows (filter is_awake all)) (flagged events (begun events))
    (IsPermutation-filter is_awake news all (IsPermutation-sym all news (IsPermutation-sort_by id_cmp id_cmp_total news))))
    ∙ filter-map (λ (id : Text). is_none (live_attempt events id)) id_of (filter is_awake all)
    ∙ ap (map id_of) (both (λ (row : InvocationRow). is_none (live_attempt events row.id)) is_awake all)
  where
    news : List InvocationRow
    news = map (invocation_row events) (begun events)

    all : List InvocationRow
    all = rows_by_id events

none_is : (events : List Event) (id : Text) (o : Option LiveAttempt) → Agrees events id o → not (is_some o) ≡ is_none (live_attempt events id)
none_is events id None agrees = sym (ap is_none agrees)
none_is events id (Some attempt) agrees = sym (ap is_none agrees.number)

pub due_is_read : (events : List Event) (attempts : ByInvocation) (after : Text) (most : ℕ) (ids : List Text) → IsAccepted events
    → ((id : Text) → Agrees events id (attempt_of attempts id)) → ids ≡ take most (due_among attempts (rows_behind events (Some after))) → ids ≡ due_after events after most
due_is_read events attempts after most ids accepted agree are =
    are ∙ ap (take most)
    (ap (map id_of) (filter_same (is_row_due attempts) (is_row_left events) same (rows_behind events (Some after)) ∙ turned (is_row_left events) (is_named_after (Some after)) (rows_by_id events))
    ∙ sym (filter-map (is_before after) id_of (rows_due events)) ∙ ap (filter (is_before after)) (sym (due_by_rows events accepted)))
  where
    same : (row : InvocationRow) → is_row_due attempts row ≡ is_row_left events row
    same row = ap (λ (b : Bool). is_awake row && b) (none_is events row.id (attempt_of attempts row.id) (agree row.id))

-- ---- pages go on

-- behind the head of what is above an id are the others
others_above : (rows : List InvocationRow) (after x : Text) (rest : List Text) → DoRise rows → filter (is_before after) (map id_of rows) ≡ x ∷ rest
    → filter (is_before x) (map id_of rows) ≡ rest
others_above rows after x rest up are = by_list (filter (is_named_after (Some after)) rows) refl (sym (filter-map (is_before after) id_of rows) ∙ are)
  where
    by_list : (above : List InvocationRow) → filter (is_named_after (Some after)) rows ≡ above → map id_of above ≡ x ∷ rest → filter (is_before x) (map id_of rows) ≡ rest
    by_list [] is e = absurd cc
    by_list (y ∷ ys) is e =
        let named : y.id ≡ x = cc in
        let others : map id_of ys ≡ rest = cc in
        subst (λ (id : Text). filter (is_before id) (map id_of rows) ≡ rest) named
        (filter-map (is_before y.id) id_of rows ∙ ap (map id_of) (others_behind (Some after) rows y ys up is) ∙ others)

abbrev page : List Text → Text → ℕ → List Text
page ids after most = take most (filter (is_before after) ids)

two_pages : (rows : List InvocationRow) (n m : ℕ) (after : Text) → DoRise rows
    → page (map id_of rows) after n ++ page (map id_of rows) (last_or after (page (map id_of rows) after n)) m ≡ page (map id_of rows) after (n + m)
two_pages rows zero m after up = let all : m ≡ 0 + m = omega arith in ap (page (map id_of rows) after) all
two_pages rows (suc n) m after up = by_list (λ x. two_pages rows n m x up) (filter (is_before after) (map id_of rows)) refl
  where
    one : suc n + m ≡ suc (n + m)
    one = omega arith

    by_list : ((x : Text) → page (map id_of rows) x n ++ page (map id_of rows) (last_or x (page (map id_of rows) x n)) m ≡ page (map id_of rows) x (n + m))
        → (above : List Text) → filter (is_before after) (map id_of rows) ≡ above
        → take (suc n) above ++ page (map id_of rows) (last_or after (take (suc n) above)) m ≡ take (suc n + m) above
    by_list later [] are = ap (take m) are ∙ none_of_none m ∙ sym (none_of_none (suc n + m))
    by_list later (x ∷ rest) are =
        let others : filter (is_before x) (map id_of rows) ≡ rest = others_above rows after x rest up are in
        ap (λ (l : List Text). x ∷ l)
        (subst (λ (l : List Text). take n l ++ page (map id_of rows) (last_or x (take n l)) m ≡ take (n + m) l) others (later x))
        ∙ sym (ap (λ (k : ℕ). take k (x ∷ rest)) one)

pub pages_go_on : PagesGoOn
pages_go_on events after [] accepted = refl
pages_go_on events after (most ∷ sizes) accepted =
    ap (λ (l : List Text). due_after events after most ++ l) (pages_go_on events (last_or after (due_after events after most)) sizes accepted)
    ∙ subst (λ (ids : List Text). page ids after most ++ page ids (last_or after (page ids after most)) (all_sizes sizes) ≡ page ids after (most + all_sizes sizes))
    (sym (due_by_rows events accepted))
    (two_pages (rows_due events) most (all_sizes sizes) after (ascending-filter (λ a b. id_cmp a b ≡ Less) (is_row_left events) (rows_by_id events) (begun_rise events accepted)))

-- ---- no invocation has the empty id

neither : (b : Bool) (cause : Cause) (rest : List Cause) → (if b then cause ∷ [] else []) ++ rest ≡ [] → (b ≡ false) × (rest ≡ [])
neither true cause rest e = absurd cc
neither false cause rest e = (refl, e)

above_empty : (id : Text) (b : Bool) → (is_empty id || b) ≡ false → is_before [] id ≡ true
above_empty [] b e = absurd cc
above_empty (x ∷ id) b e = refl

abbrev IsNamed : NewInvocation → Type 0
IsNamed new = is_before [] new.id ≡ true

begun_named : (events : List Event) → IsAccepted events → AllByRecursion IsNamed (begun events)
begun_named [] accepted = tt
begun_named (event ∷ earlier) accepted = all-append IsNamed (begun earlier) (begun_by event) (begun_named earlier accepted.1) (by_event event accepted.0)
  where
    by_event : (one : Event) → causes_of earlier one ≡ [] → AllByRecursion IsNamed (begun_by one)
    by_event (Event.Invoke new) none =
        let later = neither (is_busy earlier new.object) _ _ none in
        (above_empty new.id (is_empty new.object) (neither (is_empty new.id || is_empty new.object) _ _ later.1).0, tt)
    by_event (Event.Result id n result) none = tt
    by_event (Event.Signal id key result) none = tt
    by_event (Event.Cancel id) none = tt
    by_event (Event.Tick now) none = tt
    by_event (Event.Begin id now) none = tt
    by_event (Event.Feed id attempt most) none = tt
    by_event (Event.Close id attempt) none = tt
    by_event (Event.Move id attempt frame) none = tt
    by_event (Event.Stop id attempt) none = tt
    by_event (Event.Edit object request) none = tt

pub pages_are_due : PagesAreDue
pages_are_due events most accepted = ap (take most) (filter_all (is_before []) (due events) (subst (AllByRecursion (λ (id : Text). is_before [] id ≡ true)) (sym (due_by_rows events accepted)) named))
  where
    news : List InvocationRow
    news = map (invocation_row events) (begun events)

    IsAbove : InvocationRow → Type 0
    IsAbove row = is_before [] row.id ≡ true

    named : AllByRecursion (λ (id : Text). is_before [] id ≡ true) (map id_of (rows_due events))
    named =
        all_map (λ (id : Text). is_before [] id ≡ true) id_of (rows_due events)
        (all-filter IsAbove (is_row_left events) (rows_by_id events)
        (all-permutation IsAbove news (rows_by_id events) (IsPermutation-sym (rows_by_id events) news (IsPermutation-sort_by id_cmp id_cmp_total news))
        (all_map IsAbove (invocation_row events) (begun events) (begun_named events accepted))))
