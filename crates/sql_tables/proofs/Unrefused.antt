-- CREATE TABLE and CREATE INDEX that SQL's rules do not refuse.
use Rattle.std.proofs.Common.{◌≡◌, ◌≢◌, ◌∙◌, ℕ, zero, suc, ◌+◌, ◌*◌, ◌^◌, ◌<◌, inl, inr, Bool, true, false, true≢false, List, [], ◌∷◌, length, slice_get, codes, Option, Some, None, Ok, Err, Result, IsUtf8, refl, sym, ap, subst, arith}
use Rattle.std.specs.List.{AllByRecursion}
use Rattle.sqlite_value.specs.Order.{Row}
use Rattle.sqlite_value.specs.declared.value.Value.TheVariants.{Text}
use Rattle.sqlite_trees.specs.Tree.{Trees}
use Rattle.sqlite_schema.specs.declared.schema.Constraint.TheVariants.{Unique}
use Rattle.sqlite_schema.specs.declared.schema.Index.{Index}
use Rattle.sqlite_schema.specs.declared.command.Command.{Command}
use Rattle.sqlite_schema.specs.declared.command.Returning.{Returning}
use Rattle.sqlite_schema.specs.Rules.{Keeps, index_reals, passes, table_reals}
use Rattle.sqlite_rules.specs.Lists.{Has}
use Rattle.sqlite_resolve.specs.declared.compiled.Compiled.{Compiled}
use Rattle.sqlite_resolve.specs.declared.error.CompileError.{CompileError}
use Rattle.sqlite_catalog.specs.Calls.{IsLongIndex, IsLongTable, RefusesIndex, RefusesTable}
use Rattle.sqlite_catalog.specs.Change.{automatics, created, indexed, is_reserved, is_used, next_tree}
use Rattle.sqlite_catalog.specs.Listing.{is_fit, is_formed}
use Rattle.sqlite_catalog.specs.declared.error.Refusal.{Refusal}
use Rattle.sqlite_catalog.specs.declared.error.Refusal.TheVariants.{Invalid, NameTaken, BadName, TooBig, BadKey, BadText, Violates}
use Rattle.sqlite.specs.Schema.{Schema}
use Rattle.sqlite.specs.Table.{Table}
use Rattle.sqlite.specs.Command.TheVariants.{CreateTable, CreateIndex}
use Rattle.sqlite.specs.Compile.{table_defined_by, index_defined_by}
use Rattle.sqlite.specs.Does.{AtPlace, Defines, Does, MakesIndex, MakesSequence, MakesTable, Tally, lacks_sequence}
use Rattle.sqlite.specs.Effect.{Database}
use Rattle.sqlite.specs.Listing.{understood}
use Rattle.sqlite.specs.Rows.{Outcome, Part, Then}
use Rattle.sqlite.specs.State.{text_of}
use Rattle.sqlite.specs.declared.error.Error.{Error}
use Rattle.sqlite.proofs.Callers.{IsPlain, command_of, statement_of}
use Rattle.sql_tables.specs.Causes.{StatementComesTo, IsRefusedFor, Statement, enforced}
use Rattle.sql_tables.proofs.Making.{IsIndexing, IsMaking}

-- the text alone, without a value
abbrev pub alone : List ℕ → Statement
alone sql = record { sql = sql; params = [] }

-- SQL's rules make nothing of it but a database
abbrev pub IsNeverRefused : Option ℕ → Statement → Database → Type 0
IsNeverRefused limit one db = (stop : Option Error) → StatementComesTo limit one db (Err stop) → ⊥

pub never_refused : (limit : Option ℕ) (one : Statement) (db : Database) → IsNeverRefused limit one db → (cause : Error) → IsRefusedFor limit one db cause → ⊥
never_refused limit one db never cause (inl refused) = never (Some cause) refused
never_refused limit one db never cause (inr big) = never None big.1

-- a part that stops does so before the next, or there
stopped : {A B : Type 0} (First : Part A) (Next : A → Part B) → ((stop : Option Error) → First (Err stop) → ⊥) → ((a : A) → First (Ok a) → (stop : Option Error) → Next a (Err stop) → ⊥) → (stop : Option Error) → Then First Next (Err stop) → ⊥
stopped First Next first next stop (inl (at, is, same)) = first at is
stopped First Next first next stop (inr (a, is, then)) = next a is stop then

-- what is given at the end is no refusal
defined : (Makes : Part Database) → ((stop : Option Error) → Makes (Err stop) → ⊥) → (stop : Option Error) → Defines enforced Makes (Err stop) → ⊥
defined Makes makes stop (inl (at, is, same)) = makes at is
defined Makes makes stop (inr (after, is, gives)) = absurd cc

-- a text that is understood as that command makes what the command does
known : (limit : Option ℕ) (schema : Schema) (sql : List ℕ) (command : Command) → command_of (understood schema sql) ≡ command → statement_of sql (understood schema sql) ≡ sql → IsPlain (understood schema sql)
    → (db : Database) → db.schema ≡ schema → (out : Outcome (Tally × Database)) → StatementComesTo limit (alone sql) db out → Does limit enforced [] db sql None command out
known limit schema sql command is text plain db has out (c, understands, does) =
    let read : understood schema sql ≡ Ok c = subst (λ (s : Schema). understood s sql ≡ Ok c) has understands in
    let its : c.command ≡ command = sym (ap command_of read) ∙ is in
    let whole : text_of sql c ≡ sql = sym (ap (statement_of sql) read) ∙ text in
    let silent : c.returning ≡ None = (subst IsPlain read plain).0 in
    subst (λ (t : List ℕ). Does limit enforced [] db t None command out) whole
    (subst (λ (k : Command). Does limit enforced [] db (text_of sql c) None k out) its
    (subst (λ (r : Option Returning). Does limit enforced [] db (text_of sql c) r c.command out) silent does))

-- SQL's rules do not refuse the text that makes that table of this schema.
pub record IsMakable (schema : Schema) (sql : List ℕ) (table : Table) : Type 0 where
  pub text : IsUtf8 sql
  pub name : IsUtf8 table.name
  pub open_name : is_reserved table.name ≡ false
  pub unused : is_used schema table.name ≡ false
  pub unused_keys : AllByRecursion (λ (i : Index). is_used schema i.name ≡ false) (automatics table 0 0 table.uniques)
  pub few : next_tree schema + length table.uniques < 65536
  pub reals : table_reals table < 2 ^ 64
  pub key_reals : AllByRecursion (λ (key : List ℕ). index_reals (table_reals table) key < 2 ^ 64) table.uniques
  pub formed : is_formed table ≡ true
  pub fit : is_fit (Text (codes "table")) (Text table.name) (Text table.name) (Text sql) ≡ true
  pub short : 2 * length table.name + length sql + 200 < 10 ^ 9

all_has : {X : Type 0} (P : X → Type 0) (xs : List X) → AllByRecursion P xs → (x : X) → Has xs x → P x
all_has P [] all x none = absurd none
all_has P (y ∷ ys) all x (inl same) = subst P (sym same) all.0
all_has P (y ∷ ys) all x (inr later) = all_has P ys all.1 x later

has_at : {X : Type 0} (xs : List X) (at : ℕ) (x : X) → slice_get xs at ≡ Some x → Has xs x
has_at [] at x is = absurd cc
has_at (y ∷ ys) zero x is = let same : Some y ≡ Some x = is in inl cc
has_at (y ∷ ys) (suc at) x is = inr (has_at ys at x is)

module _ (schema : Schema) (sql : List ℕ) (table : Table) (makes : IsMaking schema sql table) (it : IsMakable schema sql table) where
  same_table : (t : Table) → table_defined_by sql ≡ Ok t → t ≡ table
  same_table t is = let same : Ok t ≡ Ok table = sym is ∙ makes.defined in cc

  table_refusal : (why : Refusal) → RefusesTable schema sql why → ⊥
  table_refusal (Invalid e) is = let clash : Ok table ≡ Err e = sym makes.defined ∙ is in absurd cc
  table_refusal NameTaken (t, is, inl used) = true≢false (sym used ∙ ap (λ (t : Table). is_used schema t.name) (same_table t is) ∙ it.unused)
  table_refusal NameTaken (t, is, inr (index, has, used)) =
      true≢false (sym used ∙ all_has _ (automatics table 0 0 table.uniques) it.unused_keys index (subst (λ (t : Table). Has (automatics t 0 0 t.uniques) index) (same_table t is) has))
  table_refusal BadName (t, is, inl foreign) = foreign (subst (λ (t : Table). IsUtf8 t.name) (sym (same_table t is)) it.name)
  table_refusal BadName (t, is, inr (own, must)) = true≢false (sym own ∙ ap (λ (t : Table). is_reserved t.name) (same_table t is) ∙ it.open_name)
  table_refusal TooBig (t, is, inl many) = let few = subst (λ (t : Table). next_tree schema + length t.uniques < 65536) (sym (same_table t is)) it.few in omega (arith, many, few)
  table_refusal TooBig (t, is, inr (inl reals)) = let low = subst (λ (t : Table). table_reals t < 2 ^ 64) (sym (same_table t is)) it.reals in omega (arith, reals, low)
  table_refusal TooBig (t, is, inr (inr (key, has, reals))) =
      let low = all_has _ _ (subst (λ (t : Table). AllByRecursion (λ (key : List ℕ). index_reals (table_reals t) key < 2 ^ 64) t.uniques) (sym (same_table t is)) it.key_reals) key has in
      omega (arith, reals, low)
  table_refusal BadKey (t, is, formless) = true≢false (sym it.formed ∙ sym (ap is_formed (same_table t is)) ∙ formless)
  table_refusal BadText (t, is, unfit) =
      true≢false (sym it.fit ∙ sym (ap (λ (t : Table). is_fit (Text (codes "table")) (Text t.name) (Text t.name) (Text sql)) (same_table t is)) ∙ unfit)
  table_refusal (Violates rule) none = absurd none

  too_long : IsLongTable sql → ⊥
  too_long (t, is, long) = let short = subst (λ (t : Table). 2 * length t.name + length sql + 200 < 10 ^ 9) (sym (same_table t is)) it.short in omega (arith, long, short)

  module _ (db : Database) (has : db.schema ≡ schema) where
    not_made : (stop : Option Error) → MakesTable sql db (Err stop) → ⊥
    not_made None long = too_long long
    not_made (Some e) (inl foreign) = foreign.0 it.text
    not_made (Some e) (inr (why, refused, same)) = table_refusal why (subst (λ (s : Schema). RefusesTable s sql why) has refused)

    not_counted : (after : Database) → MakesTable sql db (Ok after) → (stop : Option Error) → MakesSequence after (Err stop) → ⊥
    not_counted after made stop counts =
        let becomes : after.schema ≡ created schema table = made.is ∙ ap (λ s. created s made.table) has ∙ ap (created schema) (same_table made.table made.defined) in
        let uncounted : lacks_sequence after.schema ≡ false = ap lacks_sequence becomes ∙ makes.uncounted in
        let clash : ◌≡◌ {A = Result Database (Option Error)} (Err stop) (Ok after) = rw uncounted at counts in absurd cc

    pub table_unrefused : (limit : Option ℕ) → IsNeverRefused limit (alone sql) db
    table_unrefused limit stop comes =
        defined (Then (MakesTable sql db) MakesSequence) (stopped (MakesTable sql db) MakesSequence not_made not_counted) stop
        (known limit schema sql CreateTable makes.command makes.text makes.plain db has (Err stop) comes)

-- SQL's rules do not refuse the text that makes that index of a table without rows.
pub record IsIndexable (schema : Schema) (sql : List ℕ) (table : Table) (index : Index) : Type 0 where
  pub text : IsUtf8 sql
  pub name : IsUtf8 index.name
  pub table_name : IsUtf8 table.name
  pub open_name : is_reserved index.name ≡ false
  pub unused : is_used schema index.name ≡ false
  pub few : next_tree schema < 65536
  pub reals : table_reals table < 2 ^ 64
  pub key_reals : index_reals (table_reals table) index.columns < 2 ^ 64
  pub fit : is_fit (Text (codes "index")) (Text index.name) (Text table.name) (Text sql) ≡ true
  pub short : length index.name + length table.name + length sql + 200 < 10 ^ 9

-- tables without rows break no rule
keep_none : (schema : Schema) (db : Trees) (tables : List Table) → AllByRecursion (λ t. db t.tree ≡ []) tables
    → AllByRecursion (λ t. AllByRecursion (λ row. passes Unique schema db t row ≡ true) (db t.tree)) tables
keep_none schema db [] bare = tt
keep_none schema db (t ∷ tables) bare = (subst (AllByRecursion (λ row. passes Unique schema db t row ≡ true)) (sym bare.0) tt, keep_none schema db tables bare.1)

module _ (schema : Schema) (sql : List ℕ) (at : ℕ) (table : Table) (index : Index) (makes : IsIndexing schema sql at table index) (it : IsIndexable schema sql table index) where
  same_index : (i : Index) → index_defined_by table sql ≡ Ok i → i ≡ index
  same_index i is = let same : Ok i ≡ Ok index = sym is ∙ makes.defined in cc

  module _ (db : Trees) (bare : AllByRecursion (λ t. db t.tree ≡ []) schema.tables) where
    index_refusal : (why : Refusal) → RefusesIndex schema db table sql why → ⊥
    index_refusal (Invalid e) is = let clash : Ok index ≡ Err e = sym makes.defined ∙ is in absurd cc
    index_refusal NameTaken (i, is, used) = true≢false (sym used ∙ ap (λ (i : Index). is_used schema i.name) (same_index i is) ∙ it.unused)
    index_refusal BadName (i, is, inl (inl foreign)) = foreign (subst (λ (i : Index). IsUtf8 i.name) (sym (same_index i is)) it.name)
    index_refusal BadName (i, is, inl (inr (own, must))) = true≢false (sym own ∙ ap (λ (i : Index). is_reserved i.name) (same_index i is) ∙ it.open_name)
    index_refusal BadName (i, is, inr foreign) = foreign it.table_name
    index_refusal TooBig (i, is, inl many) = omega (arith, many, it.few)
    index_refusal TooBig (i, is, inr (inl reals)) = omega (arith, reals, it.reals)
    index_refusal TooBig (i, is, inr (inr reals)) =
        let low = subst (λ (i : Index). index_reals (table_reals table) i.columns < 2 ^ 64) (sym (same_index i is)) it.key_reals in omega (arith, reals, low)
    index_refusal BadKey none = absurd none
    index_refusal BadText (i, is, unfit) =
        true≢false (sym it.fit ∙ sym (ap (λ (i : Index). is_fit (Text (codes "index")) (Text i.name) (Text table.name) (Text sql)) (same_index i is)) ∙ unfit)
    index_refusal (Violates rule) (i, is, unique, broken) = broken (keep_none (indexed schema table i) db schema.tables bare)

    long_entry : Has schema.tables table → IsLongIndex db table sql → ⊥
    long_entry listed (i, is, inl long) =
        let short = subst (λ (i : Index). length i.name + length table.name + length sql + 200 < 10 ^ 9) (sym (same_index i is)) it.short in omega (arith, long, short)
    long_entry listed (i, is, inr (row, has, long)) = subst (λ (rows : List Row). Has rows row) (all_has _ schema.tables bare table listed) has

  module _ (db : Database) (has : db.schema ≡ schema) (bare : AllByRecursion (λ t. db.trees t.tree ≡ []) schema.tables) where
    not_indexed : (stop : Option Error) → MakesIndex sql (record db { schema = schema }) table (Err stop) → ⊥
    not_indexed None long = long_entry db.trees bare (has_at schema.tables at table makes.found) long
    not_indexed (Some e) (inl foreign) = foreign.0 it.text
    not_indexed (Some e) (inr (why, refused, same)) = index_refusal db.trees bare why refused

    pub index_unrefused : (limit : Option ℕ) → IsNeverRefused limit (alone sql) db
    index_unrefused limit stop comes =
        let does = known limit schema sql (CreateIndex at) makes.command makes.text makes.plain db has (Err stop) comes in
        let of_schema = subst (λ s. Does limit enforced [] (record db { schema = s }) sql None (CreateIndex at) (Err stop)) has does in
        let there = subst (λ o. AtPlace (λ t. Defines enforced (MakesIndex sql (record db { schema = schema }) t)) o (Err stop)) makes.found of_schema in
        defined (MakesIndex sql (record db { schema = schema }) table) not_indexed stop there
