-- The flag of the invocation that has this row.
use Rattle.std.proofs.Common.{◌≡◌, ℕ, Bool, true, false, ◌&&◌, ◌||◌, List, ◌++◌, drop, Option, Some, None, unwrap_or, Result, Ok, Err, refl, sym, ap, subst, ◌∙◌}
use Rattle.journal_model.specs.Notification.{Text, Arrival}
use Rattle.journal_model.specs.Event.{Event, Suspension}
use Rattle.journal_model.specs.Journal.{is_open, recorded_arrivals}
use Rattle.journal_model.specs.Attempt.{is_woken, suspension_of}
use Rattle.due_laws.specs.AwakeNotes.{heard_of, is_awake_kept, not_heard, or_zero}
use Rattle.store_tables.specs.declared.row.InvocationRow.{InvocationRow}
use Rattle.store_model.specs.Progress.{progress_of}
use Rattle.store_refusals.specs.declared.refusal.Refusal.{Refusal}
use Rattle.store_refusals.specs.Preparations.{TellsOrRefuses}
use Rattle.store_invocations.specs.Rows.{IsRowOf}
use Rattle.store_arrivals.specs.ArrivalRows.{awake_then}

or_true : (b : Bool) → (b || true) ≡ true
or_true true = refl
or_true false = refl

module _ (events : List Event) (id : Text) (row : InvocationRow) (new : List Arrival) (of : IsRowOf events id row) where
  flag_is : row.progress.is_awake ≡ is_awake_kept events id
  flag_is = ap (λ (r : InvocationRow). r.progress.is_awake) of.is ∙ ap (is_awake_kept events) of.named

  named_is : row.id ≡ id
  named_is = ap (λ (r : InvocationRow). r.id) of.is ∙ of.named

  heard_is : row.progress.heard ≡ heard_of events id
  heard_is = ap (λ (r : InvocationRow). r.progress.heard) of.is ∙ ap (heard_of events) of.named

  pub awake_already : row.progress.is_awake ≡ true → true ≡ awake_then events id new
  awake_already e = ap (λ (b : Bool). b || is_woken (not_heard events id ++ new) (suspension_of events id)) (sym e ∙ flag_is)

  or_none : (o : Option ℕ) → unwrap_or o 0 ≡ or_zero o
  or_none None = refl
  or_none (Some n) = refl

  heard_so : (heard : ℕ) → heard ≡ unwrap_or row.progress.heard 0 → heard ≡ or_zero (heard_of events id)
  heard_so heard so = so ∙ ap (λ (o : Option ℕ). unwrap_or o 0) heard_is ∙ or_none (heard_of events id)

  pub asleep_before : is_open events id ≡ true → row.progress.is_awake ≡ false → (heard : ℕ) → heard ≡ unwrap_or row.progress.heard 0 → (suspension : Suspension) → suspension_of events id ≡ Some suspension
      → is_woken (drop heard (recorded_arrivals events row.id)) (Some suspension) ≡ false
  asleep_before opened e heard so suspension is =
      (λ i. is_woken (drop (heard_so heard so i) (recorded_arrivals events (named_is i))) (sym is i))
      ∙ ap (λ (b : Bool). b && is_woken (not_heard events id) (suspension_of events id)) (sym opened)
      ∙ sym flag_is ∙ e

  told_then : (woken : Bool) → row.progress.is_awake ≡ false → (heard : ℕ) → heard ≡ unwrap_or row.progress.heard 0 → (suspension : Suspension) → suspension_of events id ≡ Some suspension
      → woken ≡ is_woken (drop heard (recorded_arrivals events row.id) ++ new) (Some suspension) → woken ≡ awake_then events id new
  told_then woken e heard so suspension is told =
      told
      ∙ (λ i. is_woken (drop (heard_so heard so i) (recorded_arrivals events (named_is i)) ++ new) (sym is i))
      ∙ ap (λ (b : Bool). b || is_woken (not_heard events id ++ new) (suspension_of events id)) (sym e ∙ flag_is)

  pub woken_now : row.progress.is_awake ≡ false → (heard : ℕ) → heard ≡ unwrap_or row.progress.heard 0 → (suspension : Suspension) → suspension_of events id ≡ Some suspension
      → (r : Result Bool Refusal) → TellsOrRefuses (λ woken. woken ≡ is_woken (drop heard (recorded_arrivals events row.id) ++ new) (Some suspension)) r → TellsOrRefuses (λ awake. awake ≡ awake_then events id new) r
  woken_now e heard so suspension is (Ok woken) told = told_then woken e heard so suspension is told
  woken_now e heard so suspension is (Err why) refused = refused

pub woken_unheard : (events : List Event) (id : Text) (new : List Arrival) → suspension_of events id ≡ None → true ≡ awake_then events id new
woken_unheard events id new none =
    sym (or_true (is_awake_kept events id)) ∙ ap (λ (o : Option Suspension). is_awake_kept events id || is_woken (not_heard events id ++ new) o) (sym none)
