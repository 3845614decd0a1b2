-- What is read where records are kept, and what is decided from it.
use Rattle.std.proofs.Common.{◌≡◌, refl, ◌∙◌, inl, inr, ℕ, ◌+◌, ◌≤◌, nat_le, List, [], ◌∷◌, map, Result, Ok, Err, IsErrAnd, IsTrue, arith}
use Rattle.std.proofs.lemmas.Bool.{cases_Bool, leb-true}
use Rattle.sqlite.specs.State.{State}
use Rattle.journal_model.specs.Notification.{Text}
use Rattle.journal_model.specs.Event.{Event}
use Rattle.journal_model.specs.Journal.{object_state}
use Rattle.journal_model.specs.Cause.{those_that_hold, open_tests, own_tests}
use Rattle.journal_model.specs.declared.cause.Cause.{Cause}
use Rattle.sql_tables.specs.declared.read.ReadError.{ReadError}
use Rattle.sql_tables.specs.declared.read.ReadError.TheVariants.{Refused, Foreign, OutOfMemory}
use Rattle.store_tables.specs.Records.{is_of_object}
use Rattle.store_tables.specs.declared.row.EntryRow.{EntryRow}
use Rattle.store_tables.specs.declared.row.StateRow.{StateRow}
use Rattle.store_tables.specs.Orders.{IsArranged, IsUnarranged}
use Rattle.store_tables.specs.Questions.{IsJournal, IsNoJournal}
use Rattle.store_model.specs.KeptRecords.{journal_rows, state_row}
use Rattle.store_model.proofs.Finding.{all_found}
use Rattle.store_refusals.specs.declared.refusal.Refusal.{Refusal}
use Rattle.store_refusals.specs.RefusalConditions.{IsRefused, is_circumstance, reading_refusal}
use Rattle.store_refusals.specs.Preparations.{Keeps, Prepares}
use Rattle.store_invocations.specs.Rows.{Decides}
use Rattle.store_invocations.proofs.Refusing.{none_of_both, refused_later, refused_more}

-- ---- refusals

pub prepares_err : {A : Type 0} {Q : Refusal → Type 0} (IsMade : A → Type 0) (events : List Event) (id : Text) (now : ℕ) (r : Result A Refusal) → IsErrAnd r Q
    → ((why : Refusal) → Q why → IsRefused (those_that_hold (open_tests events id)) why) → Prepares events (Event.Begin id now) IsMade r
prepares_err IsMade events id now (Ok x) it f = absurd it
prepares_err IsMade events id now (Err why) it f = refused_more (open_tests events id) (own_tests events (Event.Begin id now)) why (f why it)

pub prepares_then : {A : Type 0} (IsMade : A → Type 0) (events : List Event) (id : Text) (now : ℕ) (r : Result A Refusal) → those_that_hold (open_tests events id) ≡ []
    → Decides (own_tests events (Event.Begin id now)) IsMade r → Prepares events (Event.Begin id now) IsMade r
prepares_then IsMade events id now (Ok made) none it = (none_of_both (open_tests events id) (own_tests events (Event.Begin id now)) none it.0, it.1)
prepares_then IsMade events id now (Err why) none it = refused_later (open_tests events id) (own_tests events (Event.Begin id now)) why none it

pub circumstance_unless : (e : ReadError) → (e ≡ Foreign → ⊥) → IsTrue (is_circumstance (reading_refusal e))
circumstance_unless (Refused cause) known = refl
circumstance_unless OutOfMemory known = refl
circumstance_unless Foreign known = absurd (known refl)

-- ---- what is read

module _ (events : List Event) (s : State) (object : Text) where
  pub states_are : (states : List StateRow) → Keeps events s → IsArranged (λ r. r.states) (is_of_object object) (λ (state : StateRow). state.key) s.now.trees states
      → states ≡ map (state_row object) (object_state events object)
  states_are states k arranged =
      let (rises, same) = k.kept.states object in
      arranged k.records k.held (map (state_row object) (object_state events object)) same rises

  pub states_known : (e : ReadError) → (IsTrue s.is_open → Keeps events s) → (e ≡ Foreign → IsTrue s.is_open)
      → (e ≡ Foreign → IsUnarranged (λ r. r.states) (is_of_object object) (λ (state : StateRow). state.key) s.now.trees) → IsTrue (is_circumstance (reading_refusal e))
  states_known e keeps is_open foreign = circumstance_unless e (λ is.
      let k = keeps (is_open is) in
      let (rises, same) = k.kept.states object in
      foreign is k.records k.held (map (state_row object) (object_state events object)) same rises)

module _ (events : List Event) (s : State) (id : Text) where
  pub journal_is : (rows : List EntryRow) → Keeps events s → IsJournal id s.now.trees rows → rows ≡ journal_rows events id
  journal_is rows k is =
      is k.records k.held ((all_found events k.records k.accepted k.kept).places id) ∙ k.kept.journals id

  pub journal_known : (e : ReadError) → (IsTrue s.is_open → Keeps events s) → (e ≡ Foreign → IsTrue s.is_open)
      → (e ≡ Foreign → IsNoJournal id s.now.trees) → IsTrue (is_circumstance (reading_refusal e))
  journal_known e keeps is_open foreign = circumstance_unless e (λ is.
      let k = keeps (is_open is) in
      foreign is k.records k.held ((all_found events k.records k.accepted k.kept).places id))

-- ---- a test of one number

pub none_at_least : (least n : ℕ) (cause : Cause) → n + 1 ≤ least → those_that_hold ((nat_le least n, cause) ∷ []) ≡ []
none_at_least least n cause below = elim (cases_Bool (nat_le least n)) [
  | inl reached ↦ absurd (let above = leb-true least n reached in omega arith)
  | inr below_it ↦ rw below_it refl
]
