-- Rows of tables whose keys are apart.
use Rattle.std.proofs.Common.{◌≡◌, ◌∙◌, ◌≤◌, ◌&&◌, ℕ, ℤ, inl, inr, Bool, true, false, true≢false, not, List, [], ◌∷◌, length, map, filter, drop, Some, refl, sym, ap, subst, subst₂, arith}
use Rattle.std.specs.Ordering.{is_eq, is_ne}
use Rattle.std.specs.List.Sorted.{IsPermutation}
use Rattle.std.proofs.lemmas.Cmp.{tied_itself}
use Rattle.std.proofs.lemmas.Bool.{false_from_ne_true}
use Rattle.std.proofs.lemmas.List.{length-map}
use Rattle.std.proofs.lemmas.List.Sorted.{IsPermutation-sym, length_permutation}
use Rattle.sqlite_value.specs.declared.value.Value.{Value}
use Rattle.sqlite_value.specs.declared.value.Value.TheVariants.{Int}
use Rattle.sqlite_value.specs.Keys.{plain}
use Rattle.sqlite_value.specs.Order.{Row, value_cmp}
use Rattle.sqlite_value.proofs.OrderLemmas.{value_cmp_total}
use Rattle.sqlite_trees.specs.Tree.{Trees, has_rowid, put_row, rowid}
use Rattle.sqlite_trees.specs.View.{is_int}
use Rattle.sqlite_trees.proofs.ListLemmas.{all-permutation, IsPermutation-filter}
use Rattle.sqlite_sql.specs.Ops.{binary, from_truth, is_true}
use Rattle.sqlite_schema.specs.Rules.{Keeps, agree, clashes, differ}
use Rattle.sqlite_schema.specs.declared.schema.Constraint.TheVariants.{Unique}
use Rattle.sqlite_keyed.proofs.ListLemmas.{any_from_none, filter-map}
use Rattle.sqlite_rules.specs.InPlace.{AgreeAt}
use Rattle.sqlite_rules.specs.Edit.{id_in}
use Rattle.sqlite_rules.specs.Lists.{Has}
use Rattle.sqlite_rules.proofs.ListLemmas.{all_from, all_has, has_kept}
use Rattle.sqlite_rules.proofs.PlaceLemmas.{agree_same}
use Rattle.sqlite_rules.proofs.TableLemmas.{int_is, put_has}
use Rattle.sql_tables.specs.Content.{HasRows}
use Rattle.sql_tables.proofs.Rows.{mapped}
use Rattle.store_tables.specs.Tables.{store_schema}

-- rows with the same key have the same rowid
abbrev pub RowsApart : List ℕ → List Row → Type 0
RowsApart places rows = (a b : Row) → Has rows a → Has rows b → agree plain places a places b ≡ true → differ (rowid a) (rowid b) ≡ false

not_ne : (b : Bool) → b ≡ false → is_true (from_truth (Some b)) ≡ false
not_ne b is = rw is refl

differ_int : (n : ℤ) → differ (Int n) (Int n) ≡ false
unfolding binary
differ_int n = not_ne (is_ne (value_cmp (Int n) (Int n))) (ap is_ne (tied_itself value_cmp_total (Int n)))

pub differ_itself : (v : Value) → is_int v ≡ true → differ v v ≡ false
differ_itself v int = subst (λ w. differ w w ≡ false) (sym (int_is v int)) (differ_int (id_in v))

-- a row has its own rowid
pub own_rowid : (r : Row) → is_int (rowid r) ≡ true → has_rowid (id_in (rowid r)) r ≡ true
own_rowid r int = ap (λ v. is_eq (value_cmp (rowid r) v)) (sym (int_is (rowid r) int)) ∙ ap is_eq (tied_itself value_cmp_total (rowid r))

-- ---- the rule

no_clash : (places : List ℕ) (rows : List Row) (row : Row) → RowsApart places rows → Has rows row → clashes plain places rows row ≡ false
no_clash places rows row apart has = any_from_none _ rows (all_from _ rows (λ other h. none (agree plain places other places row) (differ (rowid other) (rowid row)) (apart other row h has)))
  where
    none : (p q : Bool) → (p ≡ true → q ≡ false) → (p && q) ≡ false
    none true q f = f refl
    none false q f = refl

-- where the keys are apart, the rule of keys holds of all tables
pub keeps_unique : (db : Trees) → RowsApart (1 ∷ []) (db 1) → RowsApart (1 ∷ 2 ∷ []) (db 5) → Keeps Unique store_schema db
keeps_unique db ids keys = (
  all_from _ (db 0) (λ row h. refl),
  (
    all_from _ (db 1) (λ row h. ap (λ b. not b && true) (no_clash (1 ∷ []) (db 1) row ids h)),
    (
      all_from _ (db 3) (λ row h. refl),
      (
        all_from _ (db 4) (λ row h. refl),
        (
          all_from _ (db 5) (λ row h. ap (λ b. not b && true) (no_clash (1 ∷ 2 ∷ []) (db 5) row keys h)),
          tt,
        ),
      ),
    ),
  ),
)

-- ---- what keeps them apart

-- fewer rows
pub apart_fewer : (places : List ℕ) (rows fewer : List Row) → ((x : Row) → Has fewer x → Has rows x) → RowsApart places rows → RowsApart places fewer
apart_fewer places rows fewer among apart a b p q same = apart a b (among a p) (among b q) same

-- a row of another key
pub apart_put : (places : List ℕ) (rows : List Row) (new : Row) → is_int (rowid new) ≡ true → ((x : Row) → Has rows x → (agree plain places new places x ≡ false) × (agree plain places x places new ≡ false))
    → RowsApart places rows → RowsApart places (put_row new rows)
apart_put places rows new int other apart a b p q same = elim (put_has new rows a p) [
  | inl one ↦ elim (put_has new rows b q) [
    | inl two ↦ rw (one, two) (differ_itself (rowid new) int)
    | inr there ↦ absurd (true≢false (sym same ∙ rw one (other b there).0))
  ]
  | inr here ↦ elim (put_has new rows b q) [
    | inl two ↦ absurd (true≢false (sym same ∙ rw two (other a here).1))
    | inr there ↦ apart a b here there same
  ]
]

-- rows with the rowid and the key of one that was there
abbrev pub IsTwin : List ℕ → List Row → Row → Type 0
IsTwin places rows x = (r : Row) × Has rows r × (rowid x ≡ rowid r) × AgreeAt places r x

pub apart_twins : (places : List ℕ) (rows news : List Row) → ((x : Row) → Has news x → IsTwin places rows x) → RowsApart places rows → RowsApart places news
apart_twins places rows news twins apart a b p q same =
    let one = twins a p in
    let two = twins b q in
    subst₂ (λ v w. differ v w ≡ false) (sym one.2) (sym two.2) (apart one.0 two.0 one.1 two.1 (sym (agree_same plain places places one.0 a two.0 b one.3 two.3) ∙ same))

-- ---- rows that stand for things

pub only : {X : Type 0} (xs : List X) (a b : X) → length xs ≤ 1 → Has xs a → Has xs b → a ≡ b
only [] a b few p q = absurd p
only (x ∷ []) a b few (inl p) (inl q) = p ∙ sym q
only (x ∷ []) a b few (inl p) (inr q) = absurd q
only (x ∷ []) a b few (inr p) q = absurd p
only (x ∷ y ∷ xs) a b few p q = absurd (omega arith)

pub from_mapped : {X Y : Type 0} (f : X → Y) (xs : List X) (y : Y) → Has (map f xs) y → (x : X) × Has xs x × (y ≡ f x)
from_mapped f [] y h = absurd h
from_mapped f (x ∷ xs) y (inl e) = (x, inl refl, e)
from_mapped f (x ∷ xs) y (inr h) = let r = from_mapped f xs y h in (r.0, inr r.1, r.2)

module _ {X : Type 0} (cells : X → Row) (tree : List Row) (xs : List X) (h : HasRows tree (map cells xs)) where
  -- a row is that of a thing
  pub stands_for : (a : Row) → Has tree a → (x : X) × Has xs x × (drop 1 a ≡ cells x)
  stands_for a p = from_mapped cells xs (drop 1 a) (all_has (Has (map cells xs)) (map (drop 1) tree) (drop 1 a) (all-permutation (Has (map cells xs)) (map cells xs) (map (drop 1) tree) (IsPermutation-sym _ _ h.same) (all_from (Has (map cells xs)) (map cells xs) (λ e k. k))) (mapped (drop 1) tree a p))

  module _ (places : List ℕ) (test : X → Row → Bool) (agrees : (a b : Row) (x : X) → drop 1 b ≡ cells x → agree plain places a places b ≡ test x (drop 1 a)) (itself : (x : X) → test x (cells x) ≡ true)
      (once : (x : X) → length (filter (λ y. test x (cells y)) xs) ≤ 1) where
    few : (x : X) → length (filter (λ r. test x (drop 1 r)) tree) ≤ 1
    few x = subst (λ n. n ≤ 1) (sym (length-map (filter (λ y. test x (cells y)) xs) cells) ∙ length_permutation _ _ (all_same x) ∙ length-map (filter (λ r. test x (drop 1 r)) tree) (drop 1)) (once x)
      where
        all_same : (x : X) → IsPermutation (map (drop 1) (filter (λ r. test x (drop 1 r)) tree)) (map cells (filter (λ y. test x (cells y)) xs))
        all_same x = subst₂ (λ l k. IsPermutation l k) (filter-map (test x) (drop 1) tree) (filter-map (test x) cells xs) (IsPermutation-filter (test x) _ _ h.same)

    -- where no two things have one key, the rows are apart
    pub things_apart : RowsApart places tree
    things_apart a b p q same =
        let it = stands_for b q in
        let one = has_kept (λ r. test it.0 (drop 1 r)) tree a p (sym (agrees a b it.0 it.2) ∙ same) in
        let two = has_kept (λ r. test it.0 (drop 1 r)) tree b q (ap (test it.0) it.2 ∙ itself it.0) in
        let equal : a ≡ b = only (filter (λ r. test it.0 (drop 1 r)) tree) a b (few it.0) one two in
        subst (λ r. differ (rowid a) (rowid r) ≡ false) equal (differ_itself (rowid a) (all_has (λ r. is_int (rowid r) ≡ true) tree a h.numbered.ints p))

    -- a row whose key none has
    pub other_key : (new : Row) (x : X) → drop 1 new ≡ cells x → ((y : X) → test y (cells x) ≡ test x (cells y)) → filter (λ y. test x (cells y)) xs ≡ []
        → (r : Row) → Has tree r → (agree plain places new places r ≡ false) × (agree plain places r places new ≡ false)
    other_key new x is turned none r p =
        let it = stands_for r p in
        let off : test x (cells it.0) ≡ false = false_from_ne_true _ (λ yes. subst (λ l. Has l it.0) none (has_kept (λ y. test x (cells y)) xs it.0 it.1 yes)) in
        (agrees new r it.0 it.2 ∙ ap (test it.0) is ∙ turned it.0 ∙ off, agrees r new x is ∙ ap (test x) it.2 ∙ off)
