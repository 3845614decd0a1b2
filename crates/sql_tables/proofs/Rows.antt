-- Rows under INSERT and DELETE, in any order.
use Rattle.std.proofs.Common.{◌≡◌, ◌≤◌, ℤ, inl, inr, Bool, true, false, not, cond, ◌&&◌, ◌||◌, Ordering, Less, Equal, Greater, is_eq, List, [], ◌∷◌, ◌++◌, map, filter, length, drop, refl, sym, ap, subst, ◌∙◌, arith, append-nil}
use Rattle.std.specs.List.{AllByRecursion, list_any}
use Rattle.std.specs.Ordering.{match_ordering, int_cmp, int_eq}
use Rattle.std.specs.List.Sorted.{IsPermutation}
use Rattle.std.proofs.lemmas.List.Sorted.{IsPermutation-refl, IsPermutation-sym, IsPermutation-trans, IsPermutation-cons, IsPermutation-middle, IsPermutation-map, IsPermutation-append_comm, IsPermutation-append_left, IsPermutation-append, length_permutation}
use Rattle.std.proofs.lemmas.Cmp.{tied_itself}
use Rattle.std.proofs.lemmas.Bool.{cases_Bool, and_parts, not-true}
use Rattle.std.proofs.lemmas.List.{length-map}
use Rattle.sqlite_value.specs.declared.value.Value.TheVariants.{Int}
use Rattle.sqlite_value.specs.Order.{Row, value_cmp}
use Rattle.sqlite_value.proofs.OrderLemmas.{value_cmp_total, value_cmp-Int}
use Rattle.sqlite_trees.specs.Tree.{rowid, has_rowid, put_row, without_rowid}
use Rattle.sqlite_trees.specs.View.{is_int}
use Rattle.sqlite_trees.proofs.ListLemmas.{all-permutation, all-filter, filter_same, IsPermutation-filter}
use Rattle.sqlite_keyed.proofs.ListLemmas.{filter-map, filter_none, none_from_any, map-map, all_map}
use Rattle.sqlite_keyed.proofs.KeyedLemmas.{same_int}
use Rattle.sqlite_rules.specs.Edit.{id_in, is_taken, without_all, put_all, are_fresh}
use Rattle.sqlite_rules.specs.Calls.{ids_of}
use Rattle.sqlite_rules.specs.Lists.{Has}
use Rattle.sqlite_rules.proofs.ListLemmas.{all_has, all_from, some_has, some_from, has_filtered, has_kept}
use Rattle.sqlite_rules.proofs.TableLemmas.{int_is, taken_is}
use Rattle.sql_tables.specs.Content.{IsNumbered, HasRows}

pub put_permutes : (new : Row) (rows : List Row) → is_taken rows new ≡ false → IsPermutation (put_row new rows) (new ∷ rows)
put_permutes new [] free = IsPermutation-refl (new ∷ [])
put_permutes new (r ∷ rows) free = go (value_cmp (rowid r) (rowid new)) free (put_permutes new rows)
  where
    go : (o : Ordering) → (is_eq o || is_taken rows new) ≡ false → (is_taken rows new ≡ false → IsPermutation (put_row new rows) (new ∷ rows)) → IsPermutation (match_ordering o (r ∷ put_row new rows) (new ∷ rows) (new ∷ r ∷ rows)) (new ∷ r ∷ rows)
    go Less free more = IsPermutation-trans _ _ _ (IsPermutation-cons r _ _ (more free)) (IsPermutation-middle (r ∷ []) new rows)
    go Equal free more = absurd (cc)
    go Greater free more = IsPermutation-refl _

pub mapped : {X Y : Type 0} (f : X → Y) (xs : List X) (x : X) → Has xs x → Has (map f xs) (f x)
mapped f [] x h = absurd h
mapped f (y ∷ xs) x (inl e) = inl (ap f e)
mapped f (y ∷ xs) x (inr h) = inr (mapped f xs x h)

from_mapped : {X Y : Type 0} (f : X → Y) (xs : List X) (y : Y) → Has (map f xs) y → (x : X) × Has xs x × (y ≡ f x)
from_mapped f [] y h = absurd h
from_mapped f (x ∷ xs) y (inl e) = (x, inl refl, e)
from_mapped f (x ∷ xs) y (inr h) = let r = from_mapped f xs y h in (r.0, inr r.1, r.2)

permuted : {X : Type 0} (xs ys : List X) (x : X) → IsPermutation xs ys → Has ys x → Has xs x
permuted xs ys x same = all_has (Has xs) ys x (all-permutation (Has xs) xs ys same (all_from (Has xs) xs (λ e h. h)))

same_test : (a b : Bool) → (a ≡ true → b ≡ true) → (b ≡ true → a ≡ true) → a ≡ b
same_test true b f g = sym (f refl)
same_test false true f g = g refl
same_test false false f g = refl

only : {X : Type 0} (xs : List X) (a b : X) → length xs ≤ 1 → Has xs a → Has xs b → a ≡ b
only [] a b few p q = absurd p
only (x ∷ []) a b few (inl p) (inl q) = p ∙ sym q
only (x ∷ []) a b few (inl p) (inr q) = absurd q
only (x ∷ []) a b few (inr p) q = absurd p
only (x ∷ y ∷ xs) a b few p q = absurd (omega arith)

filter-filter : {X : Type 0} (p q : X → Bool) (xs : List X) → filter q (filter p xs) ≡ filter (λ x. p x && q x) xs
filter-filter {X} p q [] = refl
filter-filter {X} p q (x ∷ xs) = elim (p x) as (λ b. filter q (cond b (x ∷ filter p xs) (filter p xs)) ≡ cond (b && q x) (x ∷ filter (λ x. p x && q x) xs) (filter (λ x. p x && q x) xs)) [
  | true ↦ ap (λ (l : List X). cond (q x) (x ∷ l) l) (filter-filter p q xs)
  | false ↦ filter-filter p q xs
]

pub without_all-filter : (ids : List ℤ) (rows : List Row) → without_all rows ids ≡ filter (λ r. not (list_any (λ id. has_rowid id r) ids)) rows
without_all-filter [] rows = sym (keep rows)
  where
    keep : (rows : List Row) → filter (λ r. true) rows ≡ rows
    keep [] = refl
    keep (r ∷ rows) = ap (λ l. r ∷ l) (keep rows)
without_all-filter (id ∷ ids) rows =
    without_all-filter ids (without_rowid id rows) ∙ filter-filter (λ r. not (has_rowid id r)) (λ r. not (list_any (λ id. has_rowid id r) ids)) rows
    ∙ filter_same _ _ rows (all_from _ rows (λ r h. neither (has_rowid id r) (list_any (λ id. has_rowid id r) ids)))
  where
    neither : (a b : Bool) → (not a && not b) ≡ not (a || b)
    neither true b = refl
    neither false b = refl

own_rowid : (r : Row) → is_int (rowid r) ≡ true → has_rowid (id_in (rowid r)) r ≡ true
own_rowid r int = let e = int_is (rowid r) int in ap (λ v. is_eq (value_cmp (rowid r) v)) (sym e) ∙ ap is_eq (tied_itself value_cmp_total (rowid r))

pub same_id : (r : Row) (id : ℤ) → is_int (rowid r) ≡ true → has_rowid id r ≡ true → id_in (rowid r) ≡ id
same_id r id int h =
    let tied : is_eq (value_cmp (Int (id_in (rowid r))) (Int id)) ≡ true = subst (λ v. is_eq (value_cmp v (Int id)) ≡ true) (int_is (rowid r) int) h in
    same_int (id_in (rowid r)) id (int_test (id_in (rowid r)) id (rw (value_cmp-Int (id_in (rowid r)) id) at tied))
  where
    int_test : (a b : ℤ) → is_eq (int_cmp a b) ≡ true → int_eq a b ≡ true
    int_test a b h = h

-- the rowids of the rows that pass a test, in any order, are those of no other row
pub deleted : (p : Row → Bool) (rows answer : List Row) → IsNumbered rows → IsPermutation (map (λ r. rowid r ∷ []) (filter p rows)) answer
    → without_all rows (ids_of answer) ≡ filter (λ r. not (p r)) rows
deleted p rows answer numbered same = without_all-filter (ids_of answer) rows ∙ filter_same _ _ rows (all_from _ rows (λ r h. ap not (same_test (list_any (λ id. has_rowid id r) (ids_of answer)) (p r) (there r h) (back r h))))
  where
    there : (r : Row) → Has rows r → list_any (λ id. has_rowid id r) (ids_of answer) ≡ true → p r ≡ true
    there r h some =
        let hit = some_has (λ id. has_rowid id r) (ids_of answer) some in
        let a = from_mapped (λ r. id_in (rowid r)) answer hit.0 hit.1 in
        let b = from_mapped (λ r. rowid r ∷ []) (filter p rows) a.0 (permuted _ _ _ same a.1) in
        let c = has_filtered p rows b.0 b.1 in
        let id : id_in (rowid b.0) ≡ hit.0 = sym (a.2 ∙ ap (λ r. id_in (rowid r)) b.2) in
        let own = subst (λ i. has_rowid i b.0 ≡ true) id (own_rowid b.0 (all_has _ rows b.0 numbered.ints c.0)) in
        let one = only (filter (has_rowid hit.0) rows) b.0 r (numbered.apart hit.0) (has_kept (has_rowid hit.0) rows b.0 c.0 own) (has_kept (has_rowid hit.0) rows r h hit.2) in
        subst (λ x. p x ≡ true) one c.1

    back : (r : Row) → Has rows r → p r ≡ true → list_any (λ id. has_rowid id r) (ids_of answer) ≡ true
    back r h passes =
        let a = mapped (λ r. rowid r ∷ []) (filter p rows) r (has_kept p rows r h passes) in
        let b = permuted _ _ _ (IsPermutation-sym _ _ same) a in
        let c = mapped (λ r. id_in (rowid r)) answer (rowid r ∷ []) b in
        some_from (λ id. has_rowid id r) (ids_of answer) (id_in (rowid r)) c (own_rowid r (all_has _ rows r numbered.ints h))

-- ---- the table keeps its form

numbered_filter : (p : Row → Bool) (rows : List Row) → IsNumbered rows → IsNumbered (filter p rows)
numbered_filter p rows n = record {
  ints = all-filter _ p rows n.ints;
  apart = λ id. fewer id rows (n.apart id);
}
  where
    fewer : (id : ℤ) (rows : List Row) → length (filter (has_rowid id) rows) ≤ 1 → length (filter (has_rowid id) (filter p rows)) ≤ 1
    fewer id rows few = omega (arith, shorter (has_rowid id) rows)
      where
        shorter : (q : Row → Bool) (rows : List Row) → length (filter q (filter p rows)) ≤ length (filter q rows)
        shorter q [] = omega arith
        shorter q (r ∷ rows) = elim (p r) as (λ b. length (filter q (cond b (r ∷ filter p rows) (filter p rows))) ≤ length (cond (q r) (r ∷ filter q rows) (filter q rows))) [
          | true ↦ elim (q r) as (λ b. length (cond b (r ∷ filter q (filter p rows)) (filter q (filter p rows))) ≤ length (cond b (r ∷ filter q rows) (filter q rows))) [
            | true ↦ let more = shorter q rows in omega arith
            | false ↦ shorter q rows
          ]
          | false ↦ elim (q r) as (λ b. length (filter q (filter p rows)) ≤ length (cond b (r ∷ filter q rows) (filter q rows))) [
            | true ↦ let more = shorter q rows in omega arith
            | false ↦ shorter q rows
          ]
        ]

pub rows_filter : (p : Row → Bool) (q : Row → Bool) → ((r : Row) → p r ≡ q (drop 1 r)) → (tree rows : List Row) → HasRows tree rows → HasRows (filter p tree) (filter q rows)
rows_filter p q same tree rows h = record {
  numbered = numbered_filter p tree h.numbered;
  same = subst (λ l. IsPermutation l (filter q rows)) (filter-map q (drop 1) tree ∙ ap (map (drop 1)) (filter_same _ _ tree (all_from _ tree (λ r _. sym (same r))))) (IsPermutation-filter q _ _ h.same);
}

pub rows_put : (new : Row) (tree rows : List Row) → is_int (rowid new) ≡ true → is_taken tree new ≡ false → HasRows tree rows → HasRows (put_row new tree) (rows ++ drop 1 new ∷ [])
rows_put new tree rows int free h =
    let moved = put_permutes new tree free in
    record {
      numbered = record {
        ints = all-permutation _ (new ∷ tree) (put_row new tree) (IsPermutation-sym _ _ moved) (int, h.numbered.ints);
        apart = λ id. subst (λ n. n ≤ 1) (length_permutation _ _ (IsPermutation-filter (has_rowid id) _ _ moved)) (alone id);
      };
      same = IsPermutation-trans _ _ _ (IsPermutation-map (drop 1) _ _ moved) (IsPermutation-trans _ _ _ (IsPermutation-cons _ _ _ h.same) (IsPermutation-append_comm (drop 1 new ∷ []) rows));
    }
  where
    alone : (id : ℤ) → length (filter (has_rowid id) (new ∷ tree)) ≤ 1
    alone id = elim (cases_Bool (has_rowid id new)) [
      | inl e ↦ rw (e, filter_none (has_rowid id) tree (none_from_any (has_rowid id) tree (subst (λ i. list_any (has_rowid i) tree ≡ false) (same_id new id int e) (sym (taken_is tree new int) ∙ free)))) (omega arith)
      | inr e ↦ rw e (h.numbered.apart id)
    ]

-- ---- UPDATE

put_all_permutes : (news rows : List Row) → are_fresh rows news ≡ true → IsPermutation (put_all rows news) (rows ++ news)
put_all_permutes [] rows fresh = subst (IsPermutation rows) (sym (append-nil rows)) (IsPermutation-refl rows)
put_all_permutes (n ∷ news) rows fresh =
    let parts = and_parts _ _ fresh in
    let here = put_permutes n rows (not-true _ parts.0) in
    IsPermutation-trans _ _ _ (put_all_permutes news (put_row n rows) parts.1)
    (IsPermutation-trans _ _ _ (IsPermutation-append_left news _ _ here) (IsPermutation-sym _ _ (IsPermutation-middle rows n news)))

split : {X : Type 0} (p : X → Bool) (f : X → X) (xs : List X) → IsPermutation (filter (λ x. not (p x)) xs ++ map f (filter p xs)) (map (λ x. cond (p x) (f x) x) xs)
split p f [] = IsPermutation-refl []
split {X} p f (x ∷ xs) = elim (p x) as (λ b. IsPermutation (cond (not b) (x ∷ filter (λ x. not (p x)) xs) (filter (λ x. not (p x)) xs) ++ map f (cond b (x ∷ filter p xs) (filter p xs))) (cond b (f x) x ∷ map (λ x. cond (p x) (f x) x) xs)) [
  | true ↦ IsPermutation-trans _ _ _ (IsPermutation-middle (filter (λ x. not (p x)) xs) (f x) (map f (filter p xs))) (IsPermutation-cons (f x) _ _ (split p f xs))
  | false ↦ IsPermutation-cons x _ _ (split p f xs)
]

map_same_on : {X Y : Type 0} (f g : X → Y) (xs : List X) → ((x : X) → Has xs x → f x ≡ g x) → map f xs ≡ map g xs
map_same_on f g [] h = refl
map_same_on {Y = Y} f g (x ∷ xs) h = ap (λ y. y ∷ map f xs) (h x (inl refl)) ∙ ap (λ (l : List Y). g x ∷ l) (map_same_on f g xs (λ y k. h y (inr k)))

-- a row with its rowid and other columns
abbrev moved_row : (Row → Row) → Row → Row
moved_row change r = rowid r ∷ change (drop 1 r)

step_of : (Row → Bool) → (Row → Row) → Row → Row
step_of p change r = cond (p r) (moved_row change r) r

step_rowid : (p : Row → Bool) (change : Row → Row) (r : Row) → rowid (step_of p change r) ≡ rowid r
unfolding step_of
step_rowid p change r = elim (p r) as (λ b. rowid (cond b (moved_row change r) r) ≡ rowid r) [ true ↦ refl | false ↦ refl ]

step_columns : (p q : Row → Bool) (change : Row → Row) (r : Row) → p r ≡ q (drop 1 r) → drop 1 (step_of p change r) ≡ cond (q (drop 1 r)) (change (drop 1 r)) (drop 1 r)
unfolding step_of
step_columns p q change r same = subst (λ b. drop 1 (cond b (moved_row change r) r) ≡ cond (q (drop 1 r)) (change (drop 1 r)) (drop 1 r)) (sym same)
    (elim (q (drop 1 r)) as (λ b. drop 1 (cond b (moved_row change r) r) ≡ cond b (change (drop 1 r)) (drop 1 r)) [ true ↦ refl | false ↦ refl ])

pub rows_update : (p q : Row → Bool) (news change : Row → Row) (V : Row → Type 0) → ((r : Row) → p r ≡ q (drop 1 r)) → ((r : Row) → is_int (rowid r) ≡ true → V (drop 1 r) → news r ≡ moved_row change r)
    → (tree rows written : List Row) → HasRows tree rows → AllByRecursion V rows → IsPermutation (map news (filter p tree)) written → are_fresh (filter (λ r. not (p r)) tree) written ≡ true
    → HasRows (put_all (filter (λ r. not (p r)) tree) written) (map (λ c. cond (q c) (change c) c) rows)
unfolding step_of
rows_update p q news change V same is tree rows written h valid wrote fresh =
    let kept = filter (λ r. not (p r)) tree in
    let there : (r : Row) → Has tree r → V (drop 1 r) = λ r k. all_has V _ (drop 1 r) (all-permutation V rows (map (drop 1) tree) (IsPermutation-sym _ _ h.same) valid) (mapped (drop 1) tree r k) in
    let equal : map news (filter p tree) ≡ map (moved_row change) (filter p tree) =
    map_same_on news (moved_row change) (filter p tree) (λ r k. let at = has_filtered p tree r k in is r (all_has _ tree r h.numbered.ints at.0) (there r at.0)) in
    let moved : IsPermutation (put_all kept written) (map (step_of p change) tree) =
    IsPermutation-trans _ _ _ (put_all_permutes written kept fresh)
    (IsPermutation-trans _ _ _ (IsPermutation-append kept kept written (map (moved_row change) (filter p tree)) (IsPermutation-refl kept) (IsPermutation-sym _ _ (subst (λ l. IsPermutation l written) equal wrote))) (split p (moved_row change) tree)) in
    let one : (id : ℤ) → length (filter (has_rowid id) (map (step_of p change) tree)) ≤ 1 = λ id.
    rw (filter-map (has_rowid id) (step_of p change) tree, length-map (filter (λ r. has_rowid id (step_of p change r)) tree) (step_of p change), filter_same (λ r. has_rowid id (step_of p change r)) (has_rowid id) tree (all_from _ tree (λ r _. ap (λ v. is_eq (value_cmp v (Int id))) (step_rowid p change r)))) (h.numbered.apart id) in
    record {
      numbered = record {
        ints = all-permutation _ (map (step_of p change) tree) (put_all kept written) (IsPermutation-sym _ _ moved) (all_map (λ r. is_int (rowid r) ≡ true) (step_of p change) tree (all_from _ tree (λ r k. ap is_int (step_rowid p change r) ∙ all_has _ tree r h.numbered.ints k)));
        apart = λ id. subst (λ n. n ≤ 1) (length_permutation _ _ (IsPermutation-filter (has_rowid id) _ _ moved)) (one id);
      };
      same = IsPermutation-trans _ _ _ (IsPermutation-map (drop 1) _ _ moved)
          (subst (λ l. IsPermutation l (map (λ c. cond (q c) (change c) c) rows))
          (map-map (λ c. cond (q c) (change c) c) (drop 1) tree ∙ sym (map-map (drop 1) (step_of p change) tree ∙ map_same_on _ _ tree (λ r _. step_columns p q change r (same r))))
          (IsPermutation-map (λ c. cond (q c) (change c) c) _ _ h.same));
    }
