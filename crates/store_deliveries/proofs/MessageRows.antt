-- The row of the entry whose request is a message, and that rows of messages fit.
use Rattle.std.proofs.Common.{arith, ◌≡◌, refl, sym, ap, ap₂, ◌∙◌, ℕ, zero, suc, ◌+◌, ◌<◌, ◌^◌, true, List, [], ◌∷◌, ◌++◌, slice_get, Option, Some, None, is_some}
use Rattle.std.specs.Prelude.{IsUtf8}
use Rattle.std.specs.List.{AllByRecursion}
use Rattle.sqlite.specs.State.{State}
use Rattle.journal_model.specs.Notification.{Text}
use Rattle.journal_model.specs.declared.invocation.NewInvocation.{NewInvocation}
use Rattle.journal_model.specs.Request.{Request}
use Rattle.journal_model.specs.Event.{Event}
use Rattle.journal_model.specs.Journal.{Entry, Recorded, Arrived, entries_of, invocation_begun, starting_state}
use Rattle.journal_model.specs.Cause.{IsAccepted}
use Rattle.journal_laws.proofs.ObjectState.{no_entries}
use Rattle.delivery_laws.specs.Message.{entry_at, entry_behind, Message, message_at, message_in, message_of}
use Rattle.delivery_laws.specs.Outbox.{Outbox, OwedRow}
use Rattle.delivery_laws.specs.Posted.{ascend_to}
use Rattle.delivery_laws.proofs.Rows.{is_between}
use Rattle.store_tables.specs.Records.{FitsEntry, Records}
use Rattle.store_tables.specs.Questions.{is_at_place}
use Rattle.store_tables.specs.declared.row.EntryRow.{EntryRow}
use Rattle.store_model.specs.KeptRecords.{entry_row, journal_rows, rows_from, rows_of_journal}
use Rattle.store_model.proofs.Finding.{all_found}
use Rattle.store_model.proofs.Only.{only_found}
use Rattle.store_refusals.specs.Preparations.{Keeps}
use Rattle.store_invocations.proofs.Reading.{KeepsOnly}
use Rattle.store_deliveries.specs.StoredOutbox.{FitsRow, HasOutbox, IsRecorded}
use Rattle.store_deliveries.proofs.Options.{all_of_found}

-- ---- the row of an entry

row_behind : (id : Text) (before : List Entry) (place : ℕ) (entries : List Entry) (n : ℕ) (request : Request) → entry_behind entries n ≡ Some (Recorded request)
    → slice_get (rows_from id before place entries) n ≡ Some (entry_row id [] (place + n) (Recorded request))
row_behind id before place [] n request e = cc
row_behind id before place (Recorded other ∷ entries) zero request e =
    let same : other ≡ request = cc in
    let here : place ≡ place + 0 = omega arith in
    ap₂ (λ (p : ℕ) (r : Request). Some (entry_row id [] p (Recorded r))) here same
row_behind id before place (Arrived arrival ∷ entries) zero request e = cc
row_behind id before place (entry ∷ entries) (suc n) request e =
    let there : (place + 1) + n ≡ place + suc n = omega arith in
    row_behind id (before ++ entry ∷ []) (place + 1) entries n request e ∙ ap (λ (p : ℕ). Some (entry_row id [] p (Recorded request))) there

-- the request that a message is, and its row
pub record IsRecordedAt (events : List Event) (sender : Text) (place : ℕ) (message : Message) : Type 0 where
  pub request : Request
  pub entry : entry_at (entries_of events sender) place ≡ Some (Recorded request)
  pub is : message_of request ≡ Some message
  pub row : slice_get (journal_rows events sender) place ≡ Some (entry_row sender [] place (Recorded request))

pub message_recorded : (events : List Event) → IsAccepted events → (sender : Text) (place : ℕ) (message : Message) → message_at events sender place ≡ Some message
    → IsRecordedAt events sender place message
message_recorded events accepted sender zero message e = cc
message_recorded events accepted sender (suc n) message e = by_entry (entry_behind (entries_of events sender) n) refl e
  where
    by_begun : (request : Request) → entry_behind (entries_of events sender) n ≡ Some (Recorded request) → (o : Option NewInvocation) → invocation_begun events sender ≡ o
        → slice_get (rows_of_journal o sender (entries_of events sender)) (suc n) ≡ Some (entry_row sender [] (suc n) (Recorded request))
    by_begun request f None g =
        let none : entries_of events sender ≡ [] = no_entries (starting_state events sender) events accepted sender g in
        let nothing : None ≡ Some (Recorded request) = sym (ap (λ (entries : List Entry). entry_behind entries n) none) ∙ f in
        cc
    by_begun request f (Some new) g =
        let there : 1 + n ≡ suc n = omega arith in
        row_behind sender [] 1 (entries_of events sender) n request f ∙ ap (λ (p : ℕ). Some (entry_row sender [] p (Recorded request))) there

    by_entry : (o : Option Entry) → entry_behind (entries_of events sender) n ≡ o → message_in o ≡ Some message → IsRecordedAt events sender (suc n) message
    by_entry None f g = cc
    by_entry (Some (Arrived arrival)) f g = cc
    by_entry (Some (Recorded request)) f g = record { request = request; entry = f; is = g; row = by_begun request f (invocation_begun events sender) refl }

-- ---- rows fit

module _ (events : List Event) (s : State) (keeps : Keeps events s) where
  entry_fits : (sender : Text) (place : ℕ) (row : EntryRow) → slice_get (journal_rows events sender) place ≡ Some row → FitsEntry row
  entry_fits sender place row e =
      all_of_found FitsEntry (is_at_place sender place) keeps.records.entries row keeps.held.fit_entries
      (only_found (is_at_place sender place) keeps.records.entries (slice_get (journal_rows events sender) place)
      ((all_found events keeps.records keeps.accepted keeps.kept).entry sender place) ∙ e)

  sender_fits : (row : OwedRow) → IsRecorded events row → (row.place < 2 ^ 32) × IsUtf8 row.sender
  sender_fits row recorded = by_message (message_at events row.sender row.place) refl recorded
    where
      by_message : (o : Option Message) → message_at events row.sender row.place ≡ o → is_some o ≡ true → (row.place < 2 ^ 32) × IsUtf8 row.sender
      by_message None e f = cc
      by_message (Some message) e f =
          let at = message_recorded events keeps.accepted row.sender row.place message e in
          let fits = entry_fits row.sender row.place (entry_row row.sender [] row.place (Recorded at.request)) at.row in
          (fits.place, fits.invocation)

  all_fit : (last given : ℕ) (rows : List OwedRow) → ascend_to last given rows ≡ true → given < 2 ^ 64 → AllByRecursion (IsRecorded events) rows → AllByRecursion FitsRow rows
  all_fit last given [] up l all = tt
  all_fit last given (row ∷ rows) up l all =
      let is = is_between last given row rows up in
      let fits = sender_fits row all.0 in
      (record { number = omega (arith, is.within, l); place = fits.0; sender = fits.1 }, all_fit row.number given rows is.rest l all.1)

  pub rows_fit : (outbox : Outbox) (t : State) → HasOutbox events outbox t → AllByRecursion FitsRow outbox.rows
  rows_fit outbox t has = all_fit 0 outbox.given outbox.rows has.is.ascend has.is.small has.is.recorded

-- ---- the row of a place is there once

pub entry_kept : (events : List Event) (id : Text) (place : ℕ) → KeepsOnly events (λ (r : Records). r.entries) (is_at_place id place) (slice_get (journal_rows events id) place)
entry_kept events id place r accepted kept = (all_found events r accepted kept).entry id place
