-- An arrival is recorded.
use Rattle.std.proofs.Common.{◌≡◌, ℕ, ◌+◌, ◌∙◌, sym, subst, length, inr, true, List, [], ◌∷◌, None, Result, Ok, Err, IfOk, IfErr, OnOk, OnErr}
use Rattle.sqlite_trees.specs.Tree.{Trees}
use Rattle.sqlite.specs.State.{State, HasCleanDisk, Survives}
use Rattle.sql_tables.specs.QueryAnswers.{AreTablesKept}
use Rattle.journal_model.specs.Notification.{Text}
use Rattle.journal_model.specs.Event.{Event}
use Rattle.journal_model.specs.Journal.{entries_of, version_of}
use Rattle.journal_model.specs.Attempt.{acknowledged}
use Rattle.journal_model.specs.Cause.{causes_of}
use Rattle.store_tables.specs.Looks.{HasWritten}
use Rattle.store_frames.specs.ReadFrames.{IsReadIn}
use Rattle.store_refusals.specs.declared.refusal.Refusal.{Refusal}
use Rattle.store_arrivals.specs.declared.arrival.PreparedArrival.{PreparedArrival}
use Rattle.store_arrivals.specs.Arrivals.{IsMadeReady}
use Rattle.store_live.specs.Attempts.{Attempts}
use Rattle.store_live.specs.Rows.{AreNoted}
use Rattle.store_live_laws.specs.LiveAttempts.{does_record}
use Rattle.journal_store.specs.StoreStanding.{Stands}
use Rattle.journal_store.specs.StoreTransaction.{IsUnwritten}
use Rattle.journal_store.proofs.Leading.{Does}
use Rattle.journal_store.proofs.Rows.{keeps_event}
use Rattle.journal_store.proofs.Standing.{all_stored, store_still, stands_recorded}

-- what was made ready of an event that brings an arrival was written, or nothing was
pub arrival_recorded : (events : List Event) (event : Event) (id : Text) (old mid new : State) (P Q : Trees → Type 0) (before after : Attempts)
    (made : PreparedArrival) (result : Result ℕ Refusal)
    → does_record event ≡ true → ((one : Text) → acknowledged (version_of events one) one event ≡ None) → IsReadIn events event
    → Survives old mid P → AreTablesKept old mid → Survives mid new Q → HasCleanDisk new
    → (causes_of events event ≡ []) × IsMadeReady events event id made
    → IfOk result (λ place. place ≡ made.place) → OnOk result (HasWritten made.writes.items mid new)
    → IfErr result (IsUnwritten made.writes.items mid new) → OnErr result (AreTablesKept mid new) → OnOk result (AreNoted made.writes.items before.attempts after.attempts) → OnErr result (after ≡ before) → Stands events old before.attempts
    → Does events event (λ place. place ≡ 1 + length (entries_of events id)) result new after.attempts
arrival_recorded events event id old mid new P Q before after made (Ok place) does plain read earlier asked lives clean ready place_is wrote why undone noted same stands =
    let store = store_still events old mid P earlier asked stands.kept in
    let then = all_stored events event mid new Q made.writes.items lives clean store read ready.0 ready.1.writes wrote in (
      ready.0,
      place_is ∙ ready.1.place,
      stands_recorded events event new before.attempts after.attempts made.writes.items does plain then (keeps_event events event made.writes.items ready.0 ready.1.writes) noted stands.live stands.rows,
    )
arrival_recorded events event id old mid new P Q before after made (Err why) does plain read earlier asked lives clean ready place_is wrote refused undone noted same stands =
    let store = store_still events old mid P earlier asked stands.kept in (
      inr refused.circumstance,
      subst (λ (all : Attempts). Stands events new all.attempts) (sym same) (record { kept = store_still events mid new Q lives undone store; live = stands.live; rows = stands.rows }),
    )
