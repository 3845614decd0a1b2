-- The rows that are asked for are kept alone.
use Rattle.std.proofs.Common.{ℕ, ◌+◌, ◌-◌, ◌<◌, arith, nat_le, ◌≡◌, refl, sym, ap, subst, ◌∙◌, Bool, true, false, if◌then◌else◌, List, Option, Some, None, option_map}
use Rattle.std.specs.List.{slice_get}
use Rattle.journal_model.specs.Notification.{Text}
use Rattle.journal_model.specs.Event.{Event}
use Rattle.store_tables.specs.Records.{Records}
use Rattle.store_tables.specs.Questions.{is_at_place, is_arrival_at}
use Rattle.store_tables.specs.declared.row.EntryRow.{EntryRow}
use Rattle.store_model.specs.KeptRecords.{journal_rows}
use Rattle.store_model.specs.Lookups.{IsOnly, arrival_rows}
use Rattle.store_model.proofs.Finding.{all_found}
use Rattle.store_model.proofs.Ordinals.{arrivals_found}
use Rattle.store_live.specs.declared.input.NextRow.{NextRow}
use Rattle.store_live.specs.Input.{InputKept, next_ordinal, next_row}
use Rattle.store_invocations.proofs.Reading.{KeepsOnly}
use Rattle.store_reads.specs.RowFrames.{IsCounted}

pub entry_kept : (events : List Event) (id : Text) (place : ℕ) → KeepsOnly events (λ (r : Records). r.entries) (is_at_place id place) (slice_get (journal_rows events id) place)
entry_kept events id place r accepted kept = (all_found events r accepted kept).entry id place

pub arrival_kept : (events : List Event) (id : Text) (ordinal : ℕ) → 0 < ordinal
    → KeepsOnly events (λ (r : Records). r.entries) (is_arrival_at id ordinal) (slice_get (arrival_rows events id) (ordinal - 1))
arrival_kept events id ordinal some r accepted kept =
    let same : (ordinal - 1) + 1 ≡ ordinal = omega (arith, some) in
    subst (λ (n : ℕ). IsOnly (is_arrival_at id n) r.entries (slice_get (arrival_rows events id) (ordinal - 1))) same ((arrivals_found events r id accepted kept).one (ordinal - 1))

pub next_counted : (m : InputKept) → IsCounted (next_row m)
next_counted m = by_test (nat_le m.known m.read)
  where
    by_test : (b : Bool) → IsCounted (if b then NextRow.Arrival (next_ordinal m) else NextRow.Entry m.read)
    by_test true = omega arith
    by_test false = tt
