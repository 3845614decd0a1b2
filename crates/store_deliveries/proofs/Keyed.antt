-- What is kept under a key of an outbox is found once.
use Rattle.std.proofs.Common.{arith, ◌≡◌, refl, sym, ap, subst, ◌∙◌, ℕ, zero, suc, ◌<◌, ◌≤◌, ◌^◌, T, Bool, true, false, cond, if◌then◌else◌, List, [], ◌∷◌, ◌++◌, map, filter, length, Option, Some, None, option_map, option_to_list, bytes_eq, IsPermutation, Ordering, Less, is_eq, is_lt, IsTrue}
use Rattle.std.specs.Cmp.Lexicographic.{nat_list_cmp_total}
use Rattle.std.specs.Ordering.{eq_by_cmp, ordering_reverse}
use Rattle.std.specs.FinMap.Entries.{is_sorted, below_all}
use Rattle.std.proofs.lemmas.List.Sorted.{IsPermutation-sym}
use Rattle.std.proofs.lemmas.Slice.Eq.{bytes_eq-Decides}
use Rattle.std.proofs.lemmas.Map.Text.{is_eq-slice_cmp}
use Rattle.sqlite.specs.State.{State}
use Rattle.sqlite_keyed.proofs.ListLemmas.{filter-map, IsPermutation-filter}
use Rattle.sql_tables.specs.declared.read.ReadError.{ReadError}
use Rattle.sql_tables.specs.declared.read.ReadError.TheVariants.{Foreign}
use Rattle.journal_model.specs.Notification.{Bytes, Text}
use Rattle.journal_model.specs.State.{StateMap, bytes_cmp, value_of_key}
use Rattle.journal_laws.proofs.Keys.{both_hold, first_holds, is_less, second_holds}
use Rattle.delivery_laws.specs.Outbox.{given_entries, given_key, Outbox, outbox_object, outbox_state, OwedRow, row_entry, row_key}
use Rattle.delivery_laws.specs.Posted.{ascend_to}
use Rattle.delivery_laws.proofs.Rows.{is_between}
use Rattle.delivery_laws.proofs.States.{given_below}
use Rattle.delivery_laws.proofs.Texts.{keys_ascend}
use Rattle.store_tables.specs.Records.{is_at_key, is_of_object}
use Rattle.store_tables.specs.Questions.{IsAmbiguous, IsFound}
use Rattle.store_tables.specs.Orders.{IsArranged, IsUnarranged}
use Rattle.store_tables.specs.declared.row.StateRow.{StateRow}
use Rattle.store_model.specs.KeptRecords.{state_row}
use Rattle.store_model.specs.Lookups.{IsOnly}
use Rattle.store_model.proofs.Only.{filter_both, map_one, only_found, only_one, permuted_one}
use Rattle.store_model.proofs.States.{either_way}
use Rattle.store_refusals.specs.RefusalConditions.{is_circumstance, reading_refusal}
use Rattle.store_invocations.proofs.Deciding.{circumstance_unless}
use Rattle.store_deliveries.specs.StoredOutbox.{kept_rows, KeepsOutbox, row_of_key}

-- ---- the keys are in order

less_so : (x y : Bytes) → bytes_cmp x y ≡ Less → T (is_lt (bytes_cmp x y))
less_so x y e = subst (λ (o : Ordering). T (is_lt o)) (sym e) tt

all_above : (rows : List OwedRow) → T (below_all bytes_cmp given_key (map row_entry rows))
all_above [] = tt
all_above (row ∷ rows) =
    both_hold (is_lt (bytes_cmp given_key (row_key row.number))) (below_all bytes_cmp given_key (map row_entry rows)) (less_so given_key (row_key row.number) (given_below row.number)) (all_above rows)

rows_above : (number last given : ℕ) (rows : List OwedRow) → ascend_to last given rows ≡ true → number ≤ last → given < 2 ^ 64 → T (below_all bytes_cmp (row_key number) (map row_entry rows))
rows_above number last given [] up l m = tt
rows_above number last given (row ∷ rows) up l m =
    let is = is_between last given row rows up in
    both_hold (is_lt (bytes_cmp (row_key number) (row_key row.number))) (below_all bytes_cmp (row_key number) (map row_entry rows))
    (less_so (row_key number) (row_key row.number)
    (nat_list_cmp_total.antisymm (row_key number) (row_key row.number) ∙ ap ordering_reverse (keys_ascend number row.number (omega (arith, l, is.above)) (omega (arith, is.within, m)))))
    (rows_above number row.number given rows is.rest (omega (arith, l, is.above)) m)

rows_sorted : (last given : ℕ) (rows : List OwedRow) → ascend_to last given rows ≡ true → given < 2 ^ 64 → T (is_sorted bytes_cmp (map row_entry rows))
rows_sorted last given [] up m = tt
rows_sorted last given (row ∷ rows) up m =
    let is = is_between last given row rows up in
    both_hold (below_all bytes_cmp (row_key row.number) (map row_entry rows)) (is_sorted bytes_cmp (map row_entry rows))
    (rows_above row.number row.number given rows is.rest (omega arith) m) (rows_sorted row.number given rows is.rest m)

state_sorted : (outbox : Outbox) → ascend_to 0 outbox.given outbox.rows ≡ true → outbox.given < 2 ^ 64 → T (is_sorted bytes_cmp (outbox_state outbox))
state_sorted outbox up m = by_given outbox.given (rows_sorted 0 outbox.given outbox.rows up m)
  where
    by_given : (given : ℕ) → T (is_sorted bytes_cmp (map row_entry outbox.rows)) → T (is_sorted bytes_cmp (given_entries given ++ map row_entry outbox.rows))
    by_given zero h = h
    by_given (suc n) h = both_hold (below_all bytes_cmp given_key (map row_entry outbox.rows)) (is_sorted bytes_cmp (map row_entry outbox.rows)) (all_above outbox.rows) h

-- ---- so each is there once

abbrev entry_at : Bytes → StateMap → Option (Bytes × Bytes)
entry_at key es = option_map (λ (value : Bytes). (key, value)) (value_of_key es key)

none_above : (key : Bytes) (es : StateMap) → T (below_all bytes_cmp key es) → filter (λ (e : Bytes × Bytes). bytes_eq e.0 key) es ≡ []
none_above key [] h = refl
none_above key (e ∷ es) h =
    let less : bytes_cmp key e.0 ≡ Less = is_less (bytes_cmp key e.0) (first_holds (is_lt (bytes_cmp key e.0)) (below_all bytes_cmp key es) h) in
    let apart : bytes_eq e.0 key ≡ false = either_way e.0 key ∙ sym (is_eq-slice_cmp key e.0) ∙ ap is_eq less in
    rw apart (none_above key es (second_holds (is_lt (bytes_cmp key e.0)) (below_all bytes_cmp key es) h))

key_once : (key : Bytes) (es : StateMap) → T (is_sorted bytes_cmp es) → IsOnly (λ (e : Bytes × Bytes). bytes_eq e.0 key) es (entry_at key es)
key_once key [] h = refl
key_once key (e ∷ es) h = by_test (bytes_eq e.0 key) refl (key_once key es (second_holds (below_all bytes_cmp e.0 es) (is_sorted bytes_cmp es) h))
  where
    tied : eq_by_cmp bytes_cmp key e.0 ≡ bytes_eq e.0 key
    tied = is_eq-slice_cmp key e.0 ∙ either_way key e.0

    above : T (below_all bytes_cmp e.0 es)
    above = first_holds (below_all bytes_cmp e.0 es) (is_sorted bytes_cmp es) h

    by_test : (b : Bool) → bytes_eq e.0 key ≡ b → filter (λ (x : Bytes × Bytes). bytes_eq x.0 key) es ≡ option_to_list (entry_at key es)
        → (if b then e ∷ filter (λ (x : Bytes × Bytes). bytes_eq x.0 key) es else filter (λ (x : Bytes × Bytes). bytes_eq x.0 key) es)
        ≡ option_to_list (option_map (λ (value : Bytes). (key, value)) (cond (eq_by_cmp bytes_cmp key e.0) (Some e.1) (value_of_key es key)))
    by_test true f more =
        let same : e.0 ≡ key = (bytes_eq-Decides e.0 key).0 f in
        ap (λ (rest : StateMap). e ∷ rest) (none_above key es (subst (λ (k : Bytes). T (below_all bytes_cmp k es)) same above))
        ∙ ap (λ (k : Bytes). (k, e.1) ∷ []) same
        ∙ sym (ap (λ (b : Bool). option_to_list (option_map (λ (value : Bytes). (key, value)) (cond b (Some e.1) (value_of_key es key)))) (tied ∙ f))
    by_test false f more =
        more ∙ sym (ap (λ (b : Bool). option_to_list (option_map (λ (value : Bytes). (key, value)) (cond b (Some e.1) (value_of_key es key)))) (tied ∙ f))

mapped : {A B C : Type 0} (g : B → C) (f : A → B) (o : Option A) → option_map g (option_map f o) ≡ option_map (λ x. g (f x)) o
mapped g f None = refl
mapped g f (Some x) = refl

module _ (outbox : Outbox) (up : ascend_to 0 outbox.given outbox.rows ≡ true) (small : outbox.given < 2 ^ 64) (s : State) (k : KeepsOutbox outbox s) where
  -- among the rows that are kept
  pub only_under : (key : Bytes) → IsOnly (is_at_key outbox_object key) k.records.states (row_of_key outbox key)
  only_under key =
      let es = outbox_state outbox in
      let own = filter (is_of_object outbox_object) k.records.states in
      let test : StateRow → Bool = λ (row : StateRow). bytes_eq row.key key in
      let found : filter test (kept_rows outbox) ≡ option_to_list (option_map (state_row outbox_object) (entry_at key es)) =
      filter-map test (state_row outbox_object) es ∙ ap (map (state_row outbox_object)) (key_once key es (state_sorted outbox up small)) ∙ map_one (state_row outbox_object) (entry_at key es) in
      let same : IsPermutation (filter test own) (filter test (kept_rows outbox)) = IsPermutation-filter test own (kept_rows outbox) k.kept.1 in
      filter_both (is_of_object outbox_object) test k.records.states
      ∙ permuted_one (option_map (state_row outbox_object) (entry_at key es)) (filter test own)
      (IsPermutation-sym (filter test own) (option_to_list (option_map (state_row outbox_object) (entry_at key es)))
      (subst (IsPermutation (filter test own)) found same))
      ∙ ap option_to_list (mapped (state_row outbox_object) (λ (value : Bytes). (key, value)) (value_of_key es key))

  pub found_under : (object : Text) (key : Bytes) (found : Option StateRow) → object ≡ outbox_object → IsFound (λ r. r.states) (is_at_key object key) s.now.trees found
      → found ≡ row_of_key outbox key
  found_under object key found e is =
      let own : IsFound (λ r. r.states) (is_at_key outbox_object key) s.now.trees found =
      subst (λ (o : Text). IsFound (λ r. r.states) (is_at_key o key) s.now.trees found) e is in
      own k.records k.held ∙ only_found (is_at_key outbox_object key) k.records.states (row_of_key outbox key) (only_under key)

  pub once_under : (object : Text) (key : Bytes) → object ≡ outbox_object → length (filter (is_at_key object key) k.records.states) ≤ 1
  once_under object key e =
      subst (λ (o : Text). length (filter (is_at_key o key) k.records.states) ≤ 1) (sym e) (only_one (is_at_key outbox_object key) k.records.states (row_of_key outbox key) (only_under key))

module _ (outbox : Outbox) (s : State) (keeps : IsTrue s.is_open → KeepsOutbox outbox s) where
  -- so a question of one row is answered, but for a circumstance
  pub row_known : ascend_to 0 outbox.given outbox.rows ≡ true → outbox.given < 2 ^ 64 → (object : Text) (key : Bytes) → object ≡ outbox_object → (e : ReadError)
      → (e ≡ Foreign → IsTrue s.is_open) → (e ≡ Foreign → IsAmbiguous (λ r. r.states) (is_at_key object key) s.now.trees) → IsTrue (is_circumstance (reading_refusal e))
  row_known up small object key same e is_open ambiguous = circumstance_unless e (λ is.
      let k = keeps (is_open is) in
      ambiguous is k.records k.held (once_under outbox up small s k object key same))

  -- and so is one of all rows
  pub rows_known : (object : Text) → object ≡ outbox_object → (e : ReadError) → (e ≡ Foreign → IsTrue s.is_open)
      → (e ≡ Foreign → IsUnarranged (λ r. r.states) (is_of_object object) (λ (row : StateRow). row.key) s.now.trees) → IsTrue (is_circumstance (reading_refusal e))
  rows_known object same e is_open foreign = circumstance_unless e (λ is.
      let k = keeps (is_open is) in
      let own = subst (λ (o : Text). IsUnarranged (λ r. r.states) (is_of_object o) (λ (row : StateRow). row.key) s.now.trees) same (foreign is) in
      own k.records k.held (kept_rows outbox) k.kept.1 k.kept.0)

pub rows_under : (outbox : Outbox) (s : State) → KeepsOutbox outbox s → (object : Text) (found : List StateRow) → object ≡ outbox_object
    → IsArranged (λ r. r.states) (is_of_object object) (λ (row : StateRow). row.key) s.now.trees found → found ≡ kept_rows outbox
rows_under outbox s k object found e arranged =
    let own : IsArranged (λ r. r.states) (is_of_object outbox_object) (λ (row : StateRow). row.key) s.now.trees found =
    subst (λ (o : Text). IsArranged (λ r. r.states) (is_of_object o) (λ (row : StateRow). row.key) s.now.trees found) e arranged in
    own k.records k.held (kept_rows outbox) k.kept.1 k.kept.0
