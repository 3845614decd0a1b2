-- What is read where records are kept.
use Rattle.std.proofs.Common.{◌≡◌, sym, ap, subst, ◌∙◌, List, map, filter, slice_get, Option, option_map, IsTrue}
use Rattle.std.proofs.lemmas.List.Sorted.{IsPermutation-sym}
use Rattle.sqlite_keyed.specs.Lists.{sort_by}
use Rattle.sqlite_keyed.proofs.ListLemmas.{map-map}
use Rattle.sqlite_keyed.proofs.SortLemmas.{IsPermutation-sort_by}
use Rattle.sql_tables.specs.Statements.{IsFirst}
use Rattle.sqlite.specs.State.{State}
use Rattle.journal_model.specs.Notification.{Text}
use Rattle.journal_model.specs.Event.{Event}
use Rattle.journal_model.specs.Attempt.{due, is_none, live_attempt}
use Rattle.due_laws.specs.NextMoment.{IsNextMoment}
use Rattle.sql_tables.specs.declared.read.ReadError.{ReadError}
use Rattle.sql_tables.specs.declared.read.ReadError.TheVariants.{Foreign}
use Rattle.store_tables.specs.Records.{Records, Holds, id_row}
use Rattle.store_tables.specs.Orders.{IsFirstSleep, IsNextInvocation, IsUnarranged, id_cmp}
use Rattle.store_tables.specs.Questions.{AreAwake, DoAscend, is_awake, is_named_after}
use Rattle.store_tables.specs.declared.row.IdRow.{IdRow}
use Rattle.store_tables.specs.declared.row.InvocationRow.{InvocationRow}
use Rattle.store_tables.proofs.AwakeIds.{made_of, rows_ascend}
use Rattle.store_tables.specs.declared.row.SleepRow.{SleepRow}
use Rattle.store_live_laws.proofs.Awake.{awake_are_arranged, begun_rise, due_from_records, id_cmp_total}
use Rattle.store_live_laws.proofs.NextSleep.{next_from_records}
use Rattle.store_refusals.specs.RefusalConditions.{is_circumstance, reading_refusal}
use Rattle.store_refusals.specs.Preparations.{Keeps}
use Rattle.store_invocations.proofs.Deciding.{circumstance_unless}
use Rattle.store_model.specs.KeptRecords.{begun, invocation_row}
use Rattle.store_reads.specs.Page.{rows_behind}
use Rattle.store_reads.proofs.PageRows.{first_is_head}

module _ (events : List Event) (s : State) where
  pub awake_are : (rows : List IdRow) (ids : List Text) → Keeps events s → AreAwake s.now.trees rows
      → ids ≡ map (λ (row : IdRow). row.id) rows → due events ≡ filter (λ id. is_none (live_attempt events id)) ids
  awake_are rows ids k found are =
      let (whole, shown, same) = made_of id_row (filter is_awake k.records.invocations) rows (found.1 k.records k.held) in
      let rises = rows_ascend whole (subst (DoAscend (λ (row : IdRow). row.id)) (sym shown) found.0) in
      due_from_records events k.records whole k.accepted k.kept rises same
      ∙ ap (filter (λ id. is_none (live_attempt events id))) (sym (are ∙ ap (map (λ (row : IdRow). row.id)) (sym shown) ∙ map-map (λ (row : IdRow). row.id) id_row whole))

  pub awake_known : (e : ReadError) → (IsTrue s.is_open → Keeps events s) → (e ≡ Foreign → IsTrue s.is_open)
      → (e ≡ Foreign → IsUnarranged (λ r. r.invocations) is_awake (λ i. i.id) s.now.trees) → IsTrue (is_circumstance (reading_refusal e))
  awake_known e keeps is_open foreign = circumstance_unless e (λ is.
      let k = keeps (is_open is) in
      let (rows, rises, same) = awake_are_arranged events k.records k.accepted k.kept in
      foreign is k.records k.held rows same rises)

  pub row_is : (after : Option Text) (found : Option InvocationRow) → Keeps events s → IsNextInvocation after s.now.trees found → found ≡ slice_get (rows_behind events after) 0
  row_is after found k first =
      let rows = map (invocation_row events) (begun events) in
      first_is_head (is_named_after after) rows (sort_by id_cmp rows) (IsPermutation-sym (sort_by id_cmp rows) rows (IsPermutation-sort_by id_cmp id_cmp_total rows)) (begun_rise events k.accepted) found
      (subst (λ (all : List InvocationRow). IsFirst id_cmp (filter (is_named_after after) all) found) k.kept.invocations (first k.records k.held))

  pub next_is : (found : Option SleepRow) → Keeps events s → IsFirstSleep 0 s.now.trees found → IsNextMoment events (option_map (λ (sleep : SleepRow). sleep.moment) found)
  next_is found k first = next_from_records events k.records found k.accepted k.kept (first k.records k.held)

  pub next_known : (e : ReadError) → (IsTrue s.is_open → Keeps events s) → (e ≡ Foreign → IsTrue s.is_open)
      → (e ≡ Foreign → (r : Records) → Holds s.now.trees r → ⊥) → IsTrue (is_circumstance (reading_refusal e))
  next_known e keeps is_open foreign = circumstance_unless e (λ is. let k = keeps (is_open is) in foreign is k.records k.held)
