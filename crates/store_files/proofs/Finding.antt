-- What a connection finds in files.
use Rattle.std.proofs.Common.{◌≡◌, ◌≢◌, ◌⊎◌, ℕ, zero, suc, ◌+◌, Bool, true, false, not, ◌||◌, if◌then◌else◌, refl, sym, ap, subst, ◌∙◌, arith, inl, inr, List, [], ◌∷◌, ◌++◌, length, filter, map, drop, slice_index}
use Rattle.std.specs.List.{AllZip}
use Rattle.std.proofs.Math.Logic.{∥∥₁_elim}
use Rattle.std.proofs.lemmas.List.Sorted.{length_permutation}
use Rattle.sqlite_wal.specs.Recovery.{Image}
use Rattle.sqlite_pages.specs.PageMap.{PageMap}
use Rattle.sqlite_pool.specs.File.{in_use}
use Rattle.sqlite_trees.specs.Tree.{Trees}
use Rattle.sqlite_trees.specs.Props.{Trees-set}
use Rattle.sqlite_trees.specs.Objects.{catalog_tree}
use Rattle.sqlite_trees.specs.declared.store.Shape.{Shape}
use Rattle.sqlite_trees.specs.declared.store.Shape.TheVariants.{Absent, Table as ATable, Index as AnIndex, Pageless, FrozenTable, FrozenIndex}
use Rattle.sqlite_schema.specs.declared.schema.Schema.{Schema}
use Rattle.sqlite_schema.specs.declared.schema.Table.{Table}
use Rattle.sqlite_schema.specs.declared.schema.Index.{Index}
use Rattle.sqlite_schema.specs.declared.schema.View.{View}
use Rattle.sqlite_value.specs.Order.{Row}
use Rattle.sqlite_catalog.specs.Listing.{IsSound, Lists, IsTableRow, IsIndexRow, IsViewRow, is_table_row, is_index_row, is_view_row}
use Rattle.sqlite_store.specs.declared.catalog.Wanted.{Wanted}
use Rattle.sqlite_store.specs.Catalog.{shape_at, reals_at}
use Rattle.sqlite_store.specs.Db.{thawed, shown, rows_at, trees_in, roots_of}
use Rattle.sqlite_store.specs.Listing.{listed, listed_from, file_trees}
use Rattle.sqlite_store.specs.Listed.{catalog_rows}
use Rattle.sqlite_store.proofs.ListingLemmas.{named_tree}
use Rattle.sqlite.specs.State.{State, IsLive, Opens}
use Rattle.sqlite.specs.Start.{FindsIn}
use Rattle.sqlite.specs.Files.{AreFoundIn, HoldsDatabase}
use Rattle.journal_model.specs.Event.{Event}
use Rattle.sql_tables.specs.Columns.{no_schema}
use Rattle.store_tables.specs.Records.{mark_cells}
use Rattle.journal_store.specs.StoreStanding.{KeepsAll}

-- ---- where nothing is listed there is no table

none_of : {A B : Type 0} (R : A → B → Type 0) (ys : List B) → AllZip R [] ys → ys ≡ []
none_of R [] all = refl
none_of R (y ∷ ys) all = absurd all

one_of : (tables : List Table) (indexes : List Index) (views : List View) → tables ≡ [] → indexes ≡ [] → views ≡ []
    → record { tables = tables; indexes = indexes; views = views } ≡ no_schema
one_of tables indexes views a b c = rw a (rw b (rw c refl))

listed_none : (objects : List Row) (schema : Schema) → objects ≡ [] → Lists objects schema → schema ≡ no_schema
listed_none [] schema empty l =
    one_of schema.tables schema.indexes schema.views (none_of IsTableRow schema.tables l.listed.tables) (none_of (IsIndexRow schema.tables) schema.indexes l.listed.indexes)
    (none_of IsViewRow schema.views l.listed.views)
listed_none (row ∷ rows) schema empty l = cc

pub bare : (schema : Schema) (trees : Trees) → trees catalog_tree ≡ [] → IsSound schema trees → schema ≡ no_schema
bare schema trees empty sound = listed_none (trees catalog_tree) schema empty sound.lists

-- there are tables, indexes or views, or there are none
one_or_not : (tables : List Table) (indexes : List Index) (views : List View)
    → (record { tables = tables; indexes = indexes; views = views } ≡ no_schema) ⊎ (record { tables = tables; indexes = indexes; views = views } ≡ no_schema → ⊥)
one_or_not [] [] [] = inl refl
one_or_not [] [] (view ∷ views) = inr (λ e. let same = ap (λ (s : Schema). s.views) e in cc)
one_or_not [] (index ∷ indexes) views = inr (λ e. let same = ap (λ (s : Schema). s.indexes) e in cc)
one_or_not (table ∷ tables) indexes views = inr (λ e. let same = ap (λ (s : Schema). s.tables) e in cc)

pub bare_or_not : (schema : Schema) → (schema ≡ no_schema) ⊎ (schema ≢ no_schema)
bare_or_not schema = one_or_not schema.tables schema.indexes schema.views

-- ---- where there is no table nothing is listed

none_from : {A B : Type 0} (R : A → B → Type 0) (xs : List A) → AllZip R xs [] → xs ≡ []
none_from R [] all = refl
none_from R (x ∷ xs) all = absurd all

passed_over : (b : Bool) (row : Row) (rows : List Row) → (if b then row ∷ rows else rows) ≡ [] → b ≡ false
passed_over true row rows e = absurd (cc)
passed_over false row rows e = refl

unsorted : (is_table is_view : Bool) → is_table ≡ false → not (is_table || is_view) ≡ false → is_view ≡ false → ⊥
unsorted false false a b c = cc
unsorted false true a b c = cc
unsorted true is_view a b c = cc

unlisted : (rows : List Row) → filter is_table_row rows ≡ [] → filter is_index_row rows ≡ [] → filter is_view_row rows ≡ [] → rows ≡ []
unlisted [] tables indexes views = refl
unlisted (row ∷ rows) tables indexes views =
    absurd (unsorted (is_table_row row) (is_view_row row) (passed_over (is_table_row row) row _ tables) (passed_over (is_index_row row) row _ indexes) (passed_over (is_view_row row) row _ views))

listed_by_none : (objects : List Row) → Lists objects no_schema → objects ≡ []
listed_by_none objects l =
    unlisted objects (none_from IsTableRow _ l.listed.tables) (none_from (IsIndexRow no_schema.tables) _ l.listed.indexes) (none_from IsViewRow _ l.listed.views)

-- ---- where nothing is listed the trees are empty

absent : (at : ℕ) (w : Wanted) (more : List Row) (shape : Shape) → listed at w shape ++ more ≡ [] → (shape ≡ Absent) × (more ≡ [])
absent at w more Absent e = (refl, e)
absent at w more ATable e = absurd (cc)
absent at w more (AnIndex o) e = absurd (cc)
absent at w more Pageless e = absurd (cc)
absent at w more FrozenTable e = absurd (cc)
absent at w more (FrozenIndex o) e = absurd (cc)

rows_of : ℕ → PageMap → ℕ → ℕ → Shape → List Row
rows_of size pages reals root shape = map (shown (thawed shape) reals) (rows_at size pages (thawed shape) root)

all_absent : (at : ℕ) (schema : List Wanted) (n : ℕ) → listed_from at schema ≡ [] → shape_at schema n ≡ Absent
all_absent at [] zero e = refl
all_absent at [] (suc n) e = refl
all_absent at (w ∷ schema) zero e = (absent at w _ w.shape e).0
all_absent at (w ∷ schema) (suc n) e = all_absent (at + 1) schema n (absent at w _ w.shape e).1

empty_rows : (size : ℕ) (pages : PageMap) (reals root : ℕ) (shape : Shape) → shape ≡ Absent → rows_of size pages reals root shape ≡ []
unfolding rows_of
empty_rows size pages reals root shape e = rw e refl

tree_empty : (size : ℕ) (schema : List Wanted) (pages : PageMap) (n : ℕ) → listed_from 0 schema ≡ [] → trees_in size schema pages n ≡ []
unfolding rows_of trees_in
tree_empty size schema pages n e =
    empty_rows size pages (reals_at schema n) (slice_index (roots_of size schema pages) n) (shape_at schema n) (all_absent 0 schema n e)

-- of the table `meta`
meta_empty : (size : ℕ) (schema : List Wanted) (pages : PageMap) → file_trees size schema pages catalog_tree ≡ [] → file_trees size schema pages 3 ≡ []
meta_empty size schema pages e =
    named_tree 3 (omega arith) size schema (in_use size pages) ∙ tree_empty size schema (in_use size pages) 3 (sym (catalog_rows size schema (in_use size pages)) ∙ e)

pub found_empty : (image : Image) (trees : Trees) → AreFoundIn image trees → trees catalog_tree ≡ [] → trees 3 ≡ []
found_empty image trees found e = elim found [
  | inl held ↦
      let same = held.5 in
      ap (λ (t : Trees). t 3) same ∙ meta_empty held.0 held.2 held.1 (sym (ap (λ (t : Trees). t catalog_tree) same) ∙ e)
  | inr nothing ↦ nothing.1.0 3 (omega arith)
]

-- the tables of a store have its mark in the table `meta`
marked : (events : List Event) (trees : Trees) → KeepsAll events trees → trees 3 ≡ [] → ⊥
marked events trees keeps none =
    let one = length_permutation (map (drop 1) (trees 3)) (mark_cells ∷ []) keeps.held.mark.same ∙ ap (λ (rows : List Row). length (map (drop 1) rows)) none in
    omega (arith, one)

-- ---- what is found

pub found_trees : (image : Image) (s : State) → FindsIn image s → Opens s → (trees : Trees) → ∥ HoldsDatabase image trees ∥₁ → s.now.trees ≡ trees
found_trees image s found opens trees holds = ap (λ db. db.trees) opens.clean ∙ ∥∥₁_elim holds (Trees-set _ _) (found.holds trees)

-- over a file that is absent or empty no table is found
pub finds_none : (image : Image) (s : State) → FindsIn image s → Opens s → IsLive s → image.db ≡ [] → s.now.schema ≡ no_schema
finds_none image s found opens live none =
    let sound = (live opens.is_open).0 in
    let same = ap (λ db. db.trees) opens.clean in
    elim found.reads [
      | inl held ↦ absurd (omega (arith, held.3.found.present, ap length none))
      | inr nothing ↦ bare s.now.schema s.now.trees (ap (λ (t : Trees). t catalog_tree) same ∙ nothing.1.1) sound
    ]

-- where the tables of a store are found there are tables
pub finds_some : (image : Image) (events : List Event) (schema : Schema) (trees : Trees) → AreFoundIn image trees → KeepsAll events trees → IsSound schema trees → schema ≢ no_schema
finds_some image events schema trees found keeps sound none =
    marked events trees keeps (found_empty image trees found (listed_by_none (trees catalog_tree) (subst (λ (s : Schema). IsSound s trees) none sound).lists))
