-- Tables that stand for records whose keys are apart keep the rule of keys.
use Rattle.std.proofs.Common.{◌≡◌, ◌⊎◌, ◌∙◌, ◌&&◌, ◌≤◌, ℕ, inl, inr, Bool, true, false, List, [], ◌∷◌, drop, filter, length, map, Option, bytes_eq, refl, sym, ap, subst, subst₂, arith}
use Rattle.std.proofs.lemmas.Slice.Eq.{bytes_eq-Decides}
use Rattle.sqlite.specs.declared.types.Value.TheVariants.{Blob, Text}
use Rattle.sqlite_value.specs.Keys.{first_key, plain}
use Rattle.sqlite_value.specs.Order.{Row, column}
use Rattle.sqlite_value.specs.declared.keys.Collation.TheVariants.{Binary}
use Rattle.sqlite_trees.specs.Tree.{Trees, with_tree}
use Rattle.sqlite_keyed.proofs.ListLemmas.{filter_same}
use Rattle.sqlite_schema.specs.Rules.{Keeps, agree, equal}
use Rattle.sqlite_schema.specs.declared.schema.Constraint.TheVariants.{Check, Datatype, ForeignKey, NotNull, PrimaryKey, Unique}
use Rattle.sqlite_schema.specs.declared.schema.Keys.TheVariants.{Enforced}
use Rattle.sqlite_rules.specs.declared.error.Refusal.{Refusal}
use Rattle.sqlite_rules.specs.declared.error.Refusal.TheVariants.{BadReference, Mismatch, NoRowid, TooDeep, Violates}
use Rattle.sqlite_rules.specs.Lists.{Has}
use Rattle.sqlite_rules.specs.Edit.{Edit, IsRefused, edited}
use Rattle.sqlite.specs.Effect.{Database, edit_error}
use Rattle.sqlite.specs.declared.error.Error.{Error}
use Rattle.sqlite.specs.declared.error.Error.TheVariants.{SqliteFailure}
use Rattle.sqlite.specs.declared.error.ErrorCode.TheVariants as code
use Rattle.sql_tables.specs.Changes.{KeepsOthers}
use Rattle.sql_tables.specs.Content.{HasRows}
use Rattle.sql_tables.proofs.Cells.{are_same, both_true, same_blob, same_text}
use Rattle.sql_tables.proofs.Refusals.{StopsAtLimit, StopsEdit, told}
use Rattle.store_tables.specs.Tables.{store_schema}
use Rattle.store_tables.specs.Questions.{has_id}
use Rattle.store_tables.specs.Records.{Records, invocation_cells, is_at_key, state_cells}
use Rattle.store_tables.specs.declared.row.InvocationRow.{InvocationRow}
use Rattle.store_tables.specs.declared.row.StateRow.{StateRow}
use Rattle.store_tables.proofs.Matching.{column_there, two_tests}
use Rattle.store_sql_laws.specs.Keys.{KeysAreApart, key_taken}
use Rattle.store_sql_laws.proofs.Rows.{RowsApart, other_key, things_apart}

-- the tables with keys have these records, whose keys are apart
pub record Stands (db : Database) (r : Records) : Type 0 where
  pub schema : db.schema ≡ store_schema
  pub invocations : HasRows (db.trees 1) (map invocation_cells r.invocations)
  pub states : HasRows (db.trees 5) (map state_cells r.states)
  pub apart : KeysAreApart r

turned_bytes : (a b : List ℕ) → bytes_eq a b ≡ bytes_eq b a
turned_bytes a b = same_test (bytes_eq a b) (bytes_eq b a) (turn a b) (turn b a)
  where
    same_test : (p q : Bool) → (p ≡ true → q ≡ true) → (q ≡ true → p ≡ true) → p ≡ q
    same_test true q f g = sym (f refl)
    same_test false true f g = g refl
    same_test false false f g = refl

    turn : (x y : List ℕ) → bytes_eq x y ≡ true → bytes_eq y x ≡ true
    turn x y same = (bytes_eq-Decides y x).1 (sym ((bytes_eq-Decides x y).0 same))

-- ---- ids

abbrev id_test : InvocationRow → Row → Bool
id_test i cells = are_same (column cells 0) (Text i.id)

id_agrees : (a b : Row) (i : InvocationRow) → drop 1 b ≡ invocation_cells i → agree plain (1 ∷ []) a (1 ∷ []) b ≡ id_test i (drop 1 a)
unfolding first_key
id_agrees a b i is =
    both_true (equal Binary (column a 1) (column b 1)) ∙ ap (λ v. equal Binary v (column b 1)) (column_there a 0) ∙ ap (λ v. equal Binary (column (drop 1 a) 0) v) (column_there b 0 ∙ ap (λ cells. column cells 0) is)

id_is : (i j : InvocationRow) → id_test i (invocation_cells j) ≡ has_id i.id j
id_is i j = same_text j.id i.id

-- ---- keys of states

abbrev key_test : StateRow → Row → Bool
key_test s cells = are_same (column cells 0) (Text s.object) && are_same (column cells 1) (Blob s.key)

key_agrees : (a b : Row) (s : StateRow) → drop 1 b ≡ state_cells s → agree plain (1 ∷ 2 ∷ []) a (1 ∷ 2 ∷ []) b ≡ key_test s (drop 1 a)
unfolding first_key
key_agrees a b s is =
    two_tests (equal Binary (column a 1) (column b 1)) (equal Binary (column a 2) (column b 2)) _ _
    (ap (λ v. equal Binary v (column b 1)) (column_there a 0) ∙ ap (λ v. equal Binary (column (drop 1 a) 0) v) (column_there b 0 ∙ ap (λ cells. column cells 0) is))
    (ap (λ v. equal Binary v (column b 2)) (column_there a 1) ∙ ap (λ v. equal Binary (column (drop 1 a) 1) v) (column_there b 1 ∙ ap (λ cells. column cells 1) is))

key_is : (s t : StateRow) → key_test s (state_cells t) ≡ is_at_key s.object s.key t
key_is s t = ap (λ b. b && are_same (Blob t.key) (Blob s.key)) (same_text t.object s.object) ∙ ap (λ b. bytes_eq t.object s.object && b) (same_blob t.key s.key)

-- ---- the tables

module _ (db : Database) (r : Records) (h : Stands db r) where
  pub ids_apart : RowsApart (1 ∷ []) (db.trees 1)
  ids_apart =
      things_apart invocation_cells (db.trees 1) r.invocations h.invocations (1 ∷ []) id_test id_agrees (λ i. id_is i i ∙ (bytes_eq-Decides i.id i.id).1 refl)
      (λ i. subst (λ l. length l ≤ 1) (sym (filter_same (λ j. id_test i (invocation_cells j)) (has_id i.id) (id_is i) r.invocations)) (h.apart.ids i.id))

  pub keys_apart : RowsApart (1 ∷ 2 ∷ []) (db.trees 5)
  keys_apart =
      things_apart state_cells (db.trees 5) r.states h.states (1 ∷ 2 ∷ []) key_test key_agrees
      (λ s. key_is s s ∙ ap (λ b. b && bytes_eq s.key s.key) ((bytes_eq-Decides s.object s.object).1 refl) ∙ (bytes_eq-Decides s.key s.key).1 refl)
      (λ s. subst (λ l. length l ≤ 1) (sym (filter_same (λ t. key_test s (state_cells t)) (is_at_key s.object s.key) (key_is s) r.states)) (h.apart.keys s.object s.key))

  -- an id that none has
  pub new_id : (i : InvocationRow) → filter (has_id i.id) r.invocations ≡ [] → (new : Row) → drop 1 new ≡ invocation_cells i
      → (x : Row) → Has (db.trees 1) x → (agree plain (1 ∷ []) new (1 ∷ []) x ≡ false) × (agree plain (1 ∷ []) x (1 ∷ []) new ≡ false)
  new_id i none new is =
      other_key invocation_cells (db.trees 1) r.invocations h.invocations (1 ∷ []) id_test id_agrees (λ i. id_is i i ∙ (bytes_eq-Decides i.id i.id).1 refl)
      (λ i. subst (λ l. length l ≤ 1) (sym (filter_same (λ j. id_test i (invocation_cells j)) (has_id i.id) (id_is i) r.invocations)) (h.apart.ids i.id))
      new i is (λ j. id_is j i ∙ turned_bytes i.id j.id ∙ sym (id_is i j)) (filter_same (λ j. id_test i (invocation_cells j)) (has_id i.id) (id_is i) r.invocations ∙ none)

  -- a key that no value has
  pub new_key : (s : StateRow) → filter (is_at_key s.object s.key) r.states ≡ [] → (new : Row) → drop 1 new ≡ state_cells s
      → (x : Row) → Has (db.trees 5) x → (agree plain (1 ∷ 2 ∷ []) new (1 ∷ 2 ∷ []) x ≡ false) × (agree plain (1 ∷ 2 ∷ []) x (1 ∷ 2 ∷ []) new ≡ false)
  new_key s none new is =
      other_key state_cells (db.trees 5) r.states h.states (1 ∷ 2 ∷ []) key_test key_agrees
      (λ s. key_is s s ∙ ap (λ b. b && bytes_eq s.key s.key) ((bytes_eq-Decides s.object s.object).1 refl) ∙ (bytes_eq-Decides s.key s.key).1 refl)
      (λ s. subst (λ l. length l ≤ 1) (sym (filter_same (λ t. key_test s (state_cells t)) (is_at_key s.object s.key) (key_is s) r.states)) (h.apart.keys s.object s.key))
      new s is (λ t. key_is t s ∙ ap (λ b. b && bytes_eq s.key t.key) (turned_bytes s.object t.object) ∙ ap (λ b. bytes_eq t.object s.object && b) (turned_bytes s.key t.key) ∙ sym (key_is s t))
      (filter_same (λ t. key_test s (state_cells t)) (is_at_key s.object s.key) (key_is s) r.states ∙ none)

  -- a change of a table without keys
  pub elsewhere : (tree : ℕ) → (1 ≡ tree → ⊥) → (5 ≡ tree → ⊥) → (new : Database) → new.schema ≡ store_schema → KeepsOthers store_schema tree db new
      → (after : Records) → after.invocations ≡ r.invocations → after.states ≡ r.states → Stands new after
  elsewhere tree one five new has others after is js = record {
    schema = has;
    invocations = subst₂ (λ t l. HasRows t (map invocation_cells l)) (sym (others.1.0 one)) (sym is) h.invocations;
    states = subst₂ (λ t l. HasRows t (map state_cells l)) (sym (others.1.1.1.1.0 five)) (sym js) h.states;
    apart = record {
      ids = λ id. subst (λ l. length (filter (has_id id) l) ≤ 1) (sym is) (h.apart.ids id);
      keys = λ object key. subst (λ l. length (filter (is_at_key object key) l) ≤ 1) (sym js) (h.apart.keys object key);
    };
  }

  -- a change of the states
  pub with_states : (new : Database) → new.schema ≡ store_schema → KeepsOthers store_schema 5 db new → (ss : List StateRow) → HasRows (new.trees 5) (map state_cells ss)
      → KeysAreApart (record r { states = ss }) → Stands new (record r { states = ss })
  with_states new has others ss rows apart = record { schema = has; invocations = subst (λ t. HasRows t (map invocation_cells r.invocations)) (sym (others.1.0 (λ e. omega arith))) h.invocations; states = rows; apart = apart }

  -- a change of the invocations
  pub with_invocations : (new : Database) → new.schema ≡ store_schema → KeepsOthers store_schema 1 db new → (is : List InvocationRow) → HasRows (new.trees 1) (map invocation_cells is)
      → KeysAreApart (record r { invocations = is }) → Stands new (record r { invocations = is })
  with_invocations new has others is rows apart = record { schema = has; invocations = rows; states = subst (λ t. HasRows t (map state_cells r.states)) (sym (others.1.1.1.1.0 (λ e. omega arith))) h.states; apart = apart }

-- ---- an edit is refused for a key only where the rule is broken

by_key : (db : Trees) (edit : Edit) (why : Refusal) → IsRefused store_schema Enforced db edit why → key_taken ≡ edit_error why → Keeps Unique store_schema (with_tree db edit.table.tree (edited db edit)) → ⊥
by_key db edit (Violates Datatype) refused is keeps = cc
by_key db edit (Violates NotNull) refused is keeps = cc
by_key db edit (Violates Check) refused is keeps = cc
by_key db edit (Violates PrimaryKey) refused is keeps = cc
by_key db edit (Violates Unique) refused is keeps = refused keeps
by_key db edit (Violates ForeignKey) refused is keeps = cc
by_key db edit Mismatch refused is keeps = cc
by_key db edit NoRowid refused is keeps = cc
by_key db edit BadReference refused is keeps = cc
by_key db edit TooDeep refused is keeps = cc

pub never_for_key : (limit : Option ℕ) (db : Trees) (edit : Edit) (stop : Option Error) → key_taken ≡ told stop → StopsAtLimit limit stop ⊎ StopsEdit store_schema Enforced db edit stop
    → Keeps Unique store_schema (with_tree db edit.table.tree (edited db edit)) → ⊥
never_for_key limit db edit stop is (inl met) keeps = let e : key_taken ≡ SqliteFailure code.OperationInterrupted = is ∙ ap told met.1 in cc
never_for_key limit db edit stop is (inr (inl (why, refused, said))) keeps = by_key db edit why refused (is ∙ ap told said) keeps
never_for_key limit db edit stop is (inr (inr big)) keeps = let e : key_taken ≡ SqliteFailure code.TooBig = is ∙ ap told big.3 in cc
