-- The rows of the tables ascend in a store that is not broken.
use Rattle.std.proofs.Common.{◌≡◌, false, subst}
use Rattle.std.specs.List.{AllByRecursion}
use Rattle.sqlite_trees.specs.Objects.{IsListed, catalog_tree}
use Rattle.sqlite_trees.specs.View.{IsOrdered, IsShaped}
use Rattle.sqlite_trees.specs.declared.store.Shape.TheVariants as shape
use Rattle.sqlite_trees.specs.declared.store.Store.{Ghosts}
use Rattle.sqlite_schema.specs.declared.schema.Schema.{Schema}
use Rattle.sqlite_catalog.proofs.LayoutLemmas.{laid_out, objects_rise}
use Rattle.sqlite_rules.proofs.ListLemmas.{all_from, all_has}
use Rattle.store_tables.specs.Tables.{store_schema}
use Rattle.store_sql_laws.specs.Rowids.{UnbrokenAscend}

pub unbroken_ascend : {S : Type 0} (g : Ghosts S) → ((s : S) → (g.view s).is_broken ≡ false → IsOrdered (g.view s).shape (g.view s).trees)
    → ((s : S) → (g.view s).is_broken ≡ false → IsListed ((g.view s).trees catalog_tree) (g.view s).shape (g.view s).reals) → UnbrokenAscend g
unbroken_ascend g ordered listed held unbroken sound has =
    let v = g.view held.store in
    let up = ordered held.store unbroken in
    let lists = listed held.store unbroken in
    let laid = laid_out lists (objects_rise v lists up) sound.lists.listed in
    let tables = subst (λ (s : Schema). AllByRecursion (λ t. v.shape t.tree ≡ shape.Table) s.tables) has laid.tables in
    all_from (λ t. IsShaped shape.Table (v.trees t.tree)) store_schema.tables
    (λ t h. subst (λ s. IsShaped s (v.trees t.tree)) (all_has (λ t. v.shape t.tree ≡ shape.Table) store_schema.tables t tables h) (up t.tree))
