-- What the tables' texts make, and the row that marks them.
use Rattle.std.proofs.Common.{◌≡◌, ◌++◌, pos, ℕ, List, [], ◌∷◌, refl, ◌∙◌, arith, codes}
use Rattle.std.specs.List.{AllByRecursion}
use Rattle.sqlite.specs.declared.types.Value.TheVariants.{Null, Int, Text}
use Rattle.sqlite.specs.Term.{Term, lit}
use Rattle.sqlite.specs.Cast.{cast_all}
use Rattle.sqlite.specs.Schema.{Schema}
use Rattle.sqlite.specs.State.{State}
use Rattle.sqlite.specs.Table.{Table}
use Rattle.sqlite_catalog.specs.Change.{KeepsRows, created, indexed, next_tree}
use Rattle.sqlite_schema.specs.declared.schema.Index.{Index}
use Rattle.sqlite_trees.specs.Tree.{Trees}
use Rattle.sql_tables.specs.QueryAnswers.{HasRun}
use Rattle.sqlite.specs.Listing.{understood}
use Rattle.sqlite_tied.specs.Compute.{everything}
use Rattle.sql_tables.proofs.Making.{IsIndexing, IsMaking, index_made, table_made, has_none}
use Rattle.sql_tables.proofs.Writes.{cast_int}
use Rattle.store_tables.specs.Tables.{meta_columns, store_schema}
use Rattle.store_tables.specs.Statements.{mark_text}
use Rattle.store_tables.specs.Records.{Holds, mark_cells, no_records}
use Rattle.store_tables.specs.Steps.{AreTablesMade}
use Rattle.store_tables.proofs.Moves.{IsInsert, inserted}

-- tables that were bare are so still
still_bare : (tables : List Table) (old new : Trees) → KeepsRows tables old new → AllByRecursion (λ t. old t.tree ≡ []) tables → AllByRecursion (λ t. new t.tree ≡ []) tables
still_bare [] old new kept bare = tt
still_bare (t ∷ tables) old new kept bare = (kept.0 ∙ bare.0, still_bare tables old new kept.1 bare.1)

one_more : (tables : List Table) (db : Trees) (table : Table) → AllByRecursion (λ t. db t.tree ≡ []) tables → db table.tree ≡ [] → AllByRecursion (λ t. db t.tree ≡ []) (tables ++ table ∷ [])
one_more [] db table bare it = (it, tt)
one_more (t ∷ tables) db table bare it = (bare.0, one_more tables db table bare.1 it)

abbrev pub AreBare : Schema → State → Type 0
AreBare schema s = AllByRecursion (λ t. s.now.trees t.tree ≡ []) schema.tables

-- one table more
pub with_table : (schema : Schema) (sql : List ℕ) (table : Table) → IsMaking schema sql table → (old new : State) → old.now.schema ≡ schema → AreBare schema old → HasRun sql [] old new → AreTablesMade (created schema table) new
with_table schema sql table it old new has bare run =
    let made = table_made schema sql table it old new run.count has run.ran in
    record {
      schema = made.0;
      inside = run.inside;
      bare = one_more schema.tables new.now.trees (record table { tree = next_tree schema }) (still_bare schema.tables old.now.trees new.now.trees made.2 bare) made.1;
    }

-- one index more
pub with_index : (schema : Schema) (sql : List ℕ) (at : ℕ) (table : Table) (index : Index) → IsIndexing schema sql at table index → (old new : State) → AreTablesMade schema old → HasRun sql [] old new → AreTablesMade (indexed schema table index) new
with_index schema sql at table index it old new has run =
    let made = index_made schema sql at table index it old new run.count has.schema run.ran in
    record { schema = made.0; inside = run.inside; bare = still_bare schema.tables old.now.trees new.now.trees made.1 has.bare }

unfoldable pub mark_terms : List Term
mark_terms = lit Null ∷ lit (Text (codes "journal_store")) ∷ lit (Int (pos 1)) ∷ []

pub adds : IsInsert mark_text [] mark_cells 2 mark_terms 3
unfolding understood everything mark_terms
adds = record { command = refl; plain = (refl, refl); values = refl }

pub mark_casts : cast_all meta_columns mark_cells ≡ mark_cells
mark_casts = rw (cast_int (pos 1)) refl

pub marked : (old new : State) → AreTablesMade store_schema old → HasRun mark_text [] old new → (new.now.schema ≡ store_schema) × Holds new.now.trees no_records
marked old new has run =
    let change = inserted mark_text [] mark_cells 2 mark_terms 3 adds 3 (codes "meta") meta_columns [] refl mark_casts old new has.schema run in (
      change.schema,
      record {
        mark = change.rows [] (has_none (old.now.trees 3) has.bare.1.1.0);
        invocations = has_none (new.now.trees 1) (change.others.1.0 (λ e. omega arith) ∙ has.bare.1.0);
        entries = has_none (new.now.trees 0) (change.others.0 (λ e. omega arith) ∙ has.bare.0);
        states = has_none (new.now.trees 5) (change.others.1.1.1.1.0 (λ e. omega arith) ∙ has.bare.1.1.1.1.0);
        sleeps = has_none (new.now.trees 4) (change.others.1.1.1.0 (λ e. omega arith) ∙ has.bare.1.1.1.0);
        fit_invocations = tt;
        fit_entries = tt;
        fit_states = tt;
        fit_sleeps = tt;
      },
    )
