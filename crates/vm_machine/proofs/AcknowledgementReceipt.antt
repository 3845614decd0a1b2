-- An acknowledgement brings the outcome that was kept.
use Rattle.std.proofs.Common.{◌≡◌, ℕ, Option, Some, Result, Ok, Err, sym, ap, subst, ◌∙◌}
use Rattle.journal_model.specs.Journal.{completion}
use Rattle.journal_model.specs.declared.notification.NotificationResult.{NotificationResult}
use Rattle.journal_model.specs.Value.{result_of_value}
use Rattle.journal_model.specs.declared.value.NonEmptyValue.{NonEmptyValue}
use Rattle.vm_awaits.specs.Calls.{with_queued}
use Rattle.vm_awaits.specs.Views.{AsyncResults}
use Rattle.vm_runs.specs.KeptBodies.{Acknowledges}
use Rattle.vm_runs.specs.Runs.{Runs, outcome_at, acknowledged}
use Rattle.vm_machine.specs.AcknowledgementReceipt.{ComesOutcome, TakesTold}
use Rattle.vm_machine.specs.declared.entry_error.EntryError.{EntryError}
use Rattle.vm_machine.specs.declared.entry_error.EntryError.TheVariants.{OutOfMemory}

pub queued_comes : (number : ℕ) (kept : Option NonEmptyValue) (value : NonEmptyValue) (recorded : NotificationResult) (old new : AsyncResults) → kept ≡ Some value → recorded ≡ result_of_value value
    → new ≡ with_queued (completion number recorded) old → ComesOutcome number kept old (Ok tt) new
queued_comes number kept value recorded old new is same queued =
    subst (λ (k : Option NonEmptyValue). ComesOutcome number k old (Ok tt) new) (sym is)
    (queued ∙ ap (λ (result : NotificationResult). with_queued (completion number result) old) same)

pub lost_comes : (number : ℕ) (kept : Option NonEmptyValue) (value : NonEmptyValue) (old new : AsyncResults) → kept ≡ Some value → new ≡ old → ComesOutcome number kept old (Err OutOfMemory) new
lost_comes number kept value old new is stays = subst (λ (k : Option NonEmptyValue). ComesOutcome number k old (Err OutOfMemory) new) (sym is) stays

pub told_takes : (told : Result ℕ EntryError) (number : ℕ) (runs runs' : Runs) (kept : Option NonEmptyValue) (old new : AsyncResults) (result : Result (Unit {0}) EntryError) → told ≡ Ok number
    → kept ≡ outcome_at runs.cached number → runs' ≡ acknowledged number runs → Acknowledges number kept runs runs' → ComesOutcome number kept old result new → TakesTold told runs old result runs' new
told_takes told number runs runs' kept old new result is same left bodies comes = subst (λ (t : Result ℕ EntryError). TakesTold t runs old result runs' new) (sym is) (record {
  comes = subst (λ (k : Option NonEmptyValue). ComesOutcome number k old result new) same comes;
  left = left;
  bodies = subst (λ (k : Option NonEmptyValue). Acknowledges number k runs runs') same bodies;
})
