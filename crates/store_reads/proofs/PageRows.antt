-- A page of invocations, row by row.
use Rattle.std.proofs.Common.{ℕ, zero, suc, ◌+◌, ◌-◌, ◌<◌, ◌≤◌, arith, ◌≡◌, refl, sym, ap, subst, ◌∙◌, true≢false, inl, inr, Bool, true, false, if◌then◌else◌, List, [], ◌∷◌, ◌++◌, length, filter, take, slice_get, Option, Some, None, Ordering, Less, Equal, Greater, is_gt, is_lt, IsPermutation}
use Rattle.std.specs.List.{AllByRecursion}
use Rattle.std.specs.Ordering.{nat_cmp, ordering_reverse}
use Rattle.std.specs.Cmp.Lexicographic.{slice_cmp, nat_list_cmp_total}
use Rattle.std.proofs.lemmas.List.Sorted.{IsPermutation-sym}
use Rattle.sqlite_trees.specs.Tree.{IsAscending}
use Rattle.sqlite_rules.proofs.ListLemmas.{all_has}
use Rattle.sqlite_keyed.proofs.ListLemmas.{all_weaker, all-filter, ascending-filter, filter_all, IsPermutation-filter}
use Rattle.sqlite_trees.specs.declared.store.Store.{Ghosts}
use Rattle.sqlite.specs.Held.{Held}
use Rattle.journal_model.specs.Notification.{Text}
use Rattle.sql_tables.specs.Statements.{IsFirst}
use Rattle.sql_tables.proofs.RowReads.{no_more, permuted}
use Rattle.store_tables.specs.declared.row.InvocationRow.{InvocationRow}
use Rattle.store_tables.specs.Looks.{OnlyAsks}
use Rattle.store_tables.specs.Orders.{id_cmp}
use Rattle.store_tables.specs.Questions.{is_before, is_named_after}
use Rattle.store_live_laws.proofs.Awake.{id_cmp_total}
use Rattle.store_reads.specs.Page.{id_or, last_id}

abbrev pub DoRise : List InvocationRow → Type 0
DoRise = IsAscending (λ a b. id_cmp a b ≡ Less)

-- ---- the first of some is the head of them in their order

first_of : (xs ys : List InvocationRow) → IsPermutation xs ys → DoRise ys → (found : Option InvocationRow) → IsFirst id_cmp xs found → found ≡ slice_get ys 0
first_of xs ys same up None none =
    ap (λ (rows : List InvocationRow). slice_get rows 0) (sym (no_more ys (IsPermutation-sym [] ys (subst (λ (rows : List InvocationRow). IsPermutation rows ys) none same))))
first_of xs [] same up (Some x) first = absurd (permuted [] xs (IsPermutation-sym xs [] same) x first.0)
first_of xs (y ∷ ys) same up (Some x) first = elim (permuted (y ∷ ys) xs (IsPermutation-sym xs (y ∷ ys) same) x first.0) [
  | inl is ↦ ap Some is
  | inr later ↦
      let before : id_cmp y x ≡ Less = all_has (λ z. id_cmp y z ≡ Less) ys x up.0 later in
      let here : is_gt (id_cmp x y) ≡ false = all_has (λ z. is_gt (id_cmp x z) ≡ false) xs y first.1 (permuted xs (y ∷ ys) same y (inl refl)) in
      absurd (true≢false (sym (ap is_gt (id_cmp_total.antisymm x y ∙ ap ordering_reverse before)) ∙ here))
]

pub first_is_head : (test : InvocationRow → Bool) (xs ys : List InvocationRow) → IsPermutation xs ys → DoRise ys → (found : Option InvocationRow) → IsFirst id_cmp (filter test xs) found
    → found ≡ slice_get (filter test ys) 0
first_is_head test xs ys same up found first =
    first_of (filter test xs) (filter test ys) (IsPermutation-filter test xs ys same) (ascending-filter (λ a b. id_cmp a b ≡ Less) test ys up) found first

-- ---- behind it are the others

is_less : (o : Ordering) → is_lt o ≡ true → o ≡ Less
is_less Less h = refl
is_less Equal h = absurd cc
is_less Greater h = absurd cc

not_own : (text : Text) → is_before text text ≡ false
not_own text = by_order (slice_cmp nat_cmp text text) (nat_list_cmp_total.antisymm text text)
  where
    by_order : (o : Ordering) → o ≡ ordering_reverse o → is_lt o ≡ false
    by_order Less e = absurd cc
    by_order Equal e = refl
    by_order Greater e = refl

-- what is above a row is behind each id that the row is behind
passes_on : (after : Option Text) (y z : InvocationRow) → is_named_after after y ≡ true → id_cmp y z ≡ Less → is_named_after after z ≡ true
passes_on None y z passes less = refl
passes_on (Some id) y z passes less = ap is_lt (nat_list_cmp_total.trans id y.id z.id (is_less _ passes) less)

pub others_behind : (after : Option Text) (ys : List InvocationRow) (x : InvocationRow) (rest : List InvocationRow) → DoRise ys → filter (is_named_after after) ys ≡ x ∷ rest
    → filter (is_named_after (Some x.id)) ys ≡ rest
others_behind after [] x rest up e = absurd cc
others_behind after (y ∷ ys) x rest up e = by_test (is_named_after after y) refl e (others_behind after ys x rest up.1)
  where
    by_test : (b : Bool) → is_named_after after y ≡ b → (if b then y ∷ filter (is_named_after after) ys else filter (is_named_after after) ys) ≡ x ∷ rest
        → (filter (is_named_after after) ys ≡ x ∷ rest → filter (is_named_after (Some x.id)) ys ≡ rest)
        → (if is_before x.id y.id then y ∷ filter (is_named_after (Some x.id)) ys else filter (is_named_after (Some x.id)) ys) ≡ rest
    by_test true is e later =
        let same : y ≡ x = cc in
        let tail : filter (is_named_after after) ys ≡ rest = cc in
        let above : filter (is_named_after (Some y.id)) ys ≡ ys =
        filter_all (is_named_after (Some y.id)) ys (all_weaker (λ z. id_cmp y z ≡ Less) (λ z. is_named_after (Some y.id) z ≡ true) (λ z less. ap is_lt less) ys up.0) in
        let all : filter (is_named_after after) ys ≡ ys =
        filter_all (is_named_after after) ys (all_weaker (λ z. id_cmp y z ≡ Less) (λ z. is_named_after after z ≡ true) (λ z less. passes_on after y z is less) ys up.0) in
        let own : (if is_before y.id y.id then y ∷ filter (is_named_after (Some y.id)) ys else filter (is_named_after (Some y.id)) ys) ≡ rest =
        rw (not_own y.id) (above ∙ sym all ∙ tail) in
        subst (λ (z : InvocationRow). (if is_before z.id y.id then y ∷ filter (is_named_after (Some z.id)) ys else filter (is_named_after (Some z.id)) ys) ≡ rest) same own
    by_test false is e later =
        let above : AllByRecursion (λ z. id_cmp y z ≡ Less) (x ∷ rest) =
        subst (λ (rows : List InvocationRow). AllByRecursion (λ z. id_cmp y z ≡ Less) rows) e (all-filter (λ z. id_cmp y z ≡ Less) (is_named_after after) ys up.0) in
        let not : is_before x.id y.id ≡ false = ap is_lt (id_cmp_total.antisymm x y ∙ ap ordering_reverse above.0) in
        rw not (later e)

-- ---- so the page grows

last_of_more : (rows : List InvocationRow) (x : InvocationRow) → slice_get (rows ++ x ∷ []) (length (rows ++ x ∷ []) - 1) ≡ Some x
last_of_more [] x = refl
last_of_more (row ∷ []) x = refl
last_of_more (row ∷ next ∷ rows) x =
    let n : length (row ∷ next ∷ rows ++ x ∷ []) - 1 ≡ suc (length (next ∷ rows ++ x ∷ []) - 1) = omega arith in
    ap (slice_get (row ∷ next ∷ rows ++ x ∷ [])) n ∙ last_of_more (next ∷ rows) x

length_of_more : (rows : List InvocationRow) (x : InvocationRow) → length (rows ++ x ∷ []) ≡ length rows + 1
length_of_more [] x = refl
length_of_more (row ∷ rows) x = let later = length_of_more rows x in omega (arith, later)

joined : (rows : List InvocationRow) (x : InvocationRow) (rest : List InvocationRow) → (rows ++ x ∷ []) ++ rest ≡ rows ++ x ∷ rest
joined [] x rest = refl
joined (row ∷ rows) x rest = ap (λ (l : List InvocationRow). row ∷ l) (joined rows x rest)

nothing_behind : (rows : List InvocationRow) → rows ++ [] ≡ rows
nothing_behind [] = refl
nothing_behind (row ∷ rows) = ap (λ (l : List InvocationRow). row ∷ l) (nothing_behind rows)

abbrev no_rows : List InvocationRow
no_rows = []

none_of_none : (n : ℕ) → take n no_rows ≡ no_rows
none_of_none zero = refl
none_of_none (suc n) = refl

-- these rows stand at the head of the page
abbrev pub IsBegun : List InvocationRow → Option Text → ℕ → List InvocationRow → Type 0
IsBegun all after most rows =
    rows ++ take (most - length rows) (filter (is_named_after (last_id after rows)) all) ≡ take most (filter (is_named_after after) all)

module _ (all : List InvocationRow) (after : Option Text) (most : ℕ) where
  pub begun_empty : (rows : List InvocationRow) → rows ≡ [] → IsBegun all after most rows
  begun_empty rows none = subst (IsBegun all after most) (sym none) (let n : most - 0 ≡ most = omega arith in ap (λ (k : ℕ). take k (filter (is_named_after after) all)) n)

  pub begun_more : (rows : List InvocationRow) (x : InvocationRow) → DoRise all → length rows < most → slice_get (filter (is_named_after (last_id after rows)) all) 0 ≡ Some x
      → IsBegun all after most rows → IsBegun all after most (rows ++ x ∷ [])
  begun_more rows x up room next so = by_list (filter (is_named_after (last_id after rows)) all) refl next so
    where
      by_list : (behind : List InvocationRow) → filter (is_named_after (last_id after rows)) all ≡ behind → slice_get behind 0 ≡ Some x
          → rows ++ take (most - length rows) behind ≡ take most (filter (is_named_after after) all) → IsBegun all after most (rows ++ x ∷ [])
      by_list [] are next so = absurd cc
      by_list (y ∷ rest) are next so =
          let same : y ≡ x = cc in
          let these : filter (is_named_after (last_id after rows)) all ≡ x ∷ rest = are ∙ ap (λ (z : InvocationRow). z ∷ rest) same in
          let cursor : last_id after (rows ++ x ∷ []) ≡ Some x.id = ap (id_or after) (last_of_more rows x) in
          let left : filter (is_named_after (last_id after (rows ++ x ∷ []))) all ≡ rest =
          ap (λ (id : Option Text). filter (is_named_after id) all) cursor ∙ others_behind (last_id after rows) all x rest up these in
          let fewer : most - length rows ≡ suc (most - length (rows ++ x ∷ [])) = let n = length_of_more rows x in omega (arith, n, room) in
          let grown : rows ++ take (most - length rows) (y ∷ rest) ≡ (rows ++ x ∷ []) ++ take (most - length (rows ++ x ∷ [])) rest =
          ap (λ (k : ℕ). rows ++ take k (y ∷ rest)) fewer ∙ ap (λ (z : InvocationRow). rows ++ z ∷ take (most - length (rows ++ x ∷ [])) rest) same ∙ sym (joined rows x _) in
          ap (λ (l : List InvocationRow). (rows ++ x ∷ []) ++ take (most - length (rows ++ x ∷ [])) l) left ∙ sym grown ∙ so

  pub begun_all : (rows : List InvocationRow) → slice_get (filter (is_named_after (last_id after rows)) all) 0 ≡ None → IsBegun all after most rows → rows ≡ take most (filter (is_named_after after) all)
  begun_all rows next so = by_list (filter (is_named_after (last_id after rows)) all) next so
    where
      by_list : (behind : List InvocationRow) → slice_get behind 0 ≡ None → rows ++ take (most - length rows) behind ≡ take most (filter (is_named_after after) all)
          → rows ≡ take most (filter (is_named_after after) all)
      by_list [] next so = sym (ap (λ (l : List InvocationRow). rows ++ l) (none_of_none (most - length rows)) ∙ nothing_behind rows) ∙ so
      by_list (y ∷ rest) next so = absurd cc

  pub begun_full : (rows : List InvocationRow) → most ≤ length rows → IsBegun all after most rows → rows ≡ take most (filter (is_named_after after) all)
  begun_full rows full so =
      let none : most - length rows ≡ 0 = omega (arith, full) in
      sym (ap (λ (k : ℕ). rows ++ take k (filter (is_named_after (last_id after rows)) all)) none ∙ nothing_behind rows) ∙ so

-- ---- the tables are as they were before anything is asked

pub looks_first : {S : Type 0} (g : Ghosts S) (a : Held S) → OnlyAsks g a a
looks_first g a = record {
  kept = λ clean is_open. (is_open, refl);
  crash = record {
    clean = omega arith;
    shield = λ it. it;
    counts = omega arith;
    limit = refl;
    closes = λ clean is_open. inl is_open;
    crash = λ clean db may. inl may;
  };
}
