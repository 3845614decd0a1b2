-- Whether another invocation is due, and that it wakes when its run goes on, still stands once one is forgotten.
use Rattle.std.proofs.Common.{◌≡◌, refl, sym, ap, ap₂, subst, ◌∙◌, ℕ, Bool, true, false, List, Option, is_some, bytes_eq}
use Rattle.std.specs.Prelude.{◌↔◌}
use Rattle.std.specs.List.{list_any}
use Rattle.journal_model.specs.Notification.{Arrival, Text, cancel_id, same_id}
use Rattle.journal_model.specs.Run.{Handler, Invocation, run}
use Rattle.journal_model.specs.Event.{Event, Suspension}
use Rattle.journal_model.specs.Journal.{arrivals_in, is_open, recorded_arrivals, view_of}
use Rattle.journal_model.specs.Attempt.{is_due, live_attempt, suspension_of}
use Rattle.journal_model.specs.Headline.{AwaitsIds, GoesPast, IsSuspended, NeverLate, WakesExactly, arrivals_handed}
use Rattle.journal_model.specs.Forgetting.{without}
use Rattle.journal_laws.proofs.Isolation.{IsToldAlike, isolated, suspension_of-view, told_alike}
use Rattle.journal_laws.proofs.Forgetting.{same_starts, same_views}
use Rattle.journal_laws.proofs.Staying.{handed_alike, told}

module _ (id other : Text) (d : bytes_eq id other ≡ false) (events : List Event) where
  pub due_same : is_due (without id events) other ≡ is_due events other
  due_same = (isolated (without id events) events other (same_views id other d events) (same_starts id other d events)).2

  pub suspension_same : suspension_of (without id events) other ≡ suspension_of events other
  suspension_same =
      sym (suspension_of-view other (without id events))
      ∙ ap (λ (view : List Event). suspension_of view other) (same_views id other d events)
      ∙ suspension_of-view other events

  pub handed_same : arrivals_handed (without id events) other ≡ arrivals_handed events other
  handed_same = handed_alike (without id events) events other (told id other d events)

  pub arrivals_same : recorded_arrivals (without id events) other ≡ recorded_arrivals events other
  arrivals_same = ap arrivals_in (told id other d events).entries

  suspended_before : IsSuspended (without id events) other → IsSuspended events other
  suspended_before s = record {
    open_still = sym (told id other d events).openness ∙ s.open_still;
    not_live = sym (told id other d events).live ∙ s.not_live;
    suspended = ap (λ (o : Option Suspension). is_some o) (sym suspension_same) ∙ s.suspended;
  }

  module _ (handler : Handler) (given : Invocation) where
    pub never_late : NeverLate handler given events other → NeverLate handler given (without id events) other
    never_late late suspended past =
        due_same
        ∙ late (suspended_before suspended)
        (subst (λ (handed : List Arrival). GoesPast handler given handed (recorded_arrivals events other)) handed_same
        (subst (λ (all : List Arrival). GoesPast handler given (arrivals_handed (without id events) other) all) arrivals_same past))

    pub wakes_exactly : WakesExactly handler given events other → WakesExactly handler given (without id events) other
    wakes_exactly exact suspended feature ids cancelled =
        subst (λ (due : Bool). (due ≡ true) ↔ GoesPast handler given (arrivals_handed (without id events) other) (recorded_arrivals (without id events) other)) (sym due_same)
        (subst (λ (handed : List Arrival). (is_due events other ≡ true) ↔ GoesPast handler given handed (recorded_arrivals (without id events) other)) (sym handed_same)
        (subst (λ (all : List Arrival). (is_due events other ≡ true) ↔ GoesPast handler given (arrivals_handed events other) all) (sym arrivals_same)
        (exact (suspended_before suspended) feature
        (λ calls. subst (λ (handed : List Arrival). AwaitsIds (run handler given handed calls).ending) handed_same (ids calls))
        (ap (λ (all : List Arrival). list_any (λ arrival. same_id arrival.id cancel_id) all) (sym arrivals_same) ∙ cancelled))))
