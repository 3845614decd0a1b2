-- What a call does to the attempt that was found at its place, it does among all that are held; and one more event.
use Rattle.std.proofs.Common.{◌≡◌, ℕ, List, [], ◌∷◌, Option, Some, None, refl, sym, ap, subst, ◌∙◌, get_or}
use Rattle.std.specs.Prelude.{slice_set}
use Rattle.std.specs.List.{position}
use Rattle.journal_model.specs.Notification.{Text}
use Rattle.journal_model.specs.Run.{Handler}
use Rattle.vm_attempt.specs.declared.attempt.Attempt.{Attempt}
use Rattle.schedule_model.specs.declared.event.Reply.{Reply}
use Rattle.schedule_model.specs.declared.event.Reply.TheVariants as reply
use Rattle.schedule_model.specs.declared.event.EventRefusal.TheVariants as refusal
use Rattle.schedule_model.specs.declared.held.HeldAttempt.{HeldAttempt}
use Rattle.schedule_model.specs.First.{with_first, IsFirstAt}
use Rattle.store_calls.specs.AbstractStore.{Standing}
use Rattle.store_calls.proofs.Taking.{same_stays}
use Rattle.schedule_model.specs.HeldAttempts.{is_held, held_of, with_attempt}
use Rattle.schedule_model.specs.Schedule.{IfHeld, Scheduled, Applies}
use Rattle.schedule_model.specs.Laws.{NoneHeld, Reaches, SchedulesGrow}
use Rattle.schedule_model.proofs.Firsts.{first_found, first_missing, first_at, with_first_at}
use Rattle.schedule_model.proofs.Holding.{held_is}

module _ {H : Type 0} where
  -- none is held
  pub not_held : (Change : HeldAttempt H → Standing → Reply → Standing → Attempt H → Type 0) (id : Text) (n : ℕ) (s : Standing) (held : List (HeldAttempt H))
      → position (is_held id n) held ≡ None → IfHeld Change (held_of held id n) s held (reply.Refused refusal.AttemptNotHeld) s held
  not_held Change id n s held none =
      subst (λ (o : Option (HeldAttempt H)). IfHeld Change o s held (reply.Refused refusal.AttemptNotHeld) s held) (sym (first_missing (is_held id n) held none)) (refl, same_stays s, refl)

  -- the attempt that was found
  pub record Found (id : Text) (n : ℕ) (held : List (HeldAttempt H)) (place : ℕ) (one : HeldAttempt H) : Type 0 where
    pub at : IsFirstAt (is_held id n) held place one
    pub there : held_of held id n ≡ Some one

  pub found_at : (id : Text) (n : ℕ) (held : List (HeldAttempt H)) (place : ℕ) (one : HeldAttempt H) → position (is_held id n) held ≡ Some place → one ≡ get_or held place one → Found id n held place one
  found_at id n held place one is read =
      let f = first_found (is_held id n) held place is in
      let same : one ≡ f.0 = read ∙ f.1.at one in
      record {
        at = subst (λ (x : HeldAttempt H). IsFirstAt (is_held id n) held place x) (sym same) f.1;
        there = first_at (is_held id n) held place f.0 f.1 ∙ ap (λ (x : HeldAttempt H). Some x) (sym same);
      }

  -- it is changed in its place
  pub changes_held : (Change : HeldAttempt H → Standing → Reply → Standing → Attempt H → Type 0) (id : Text) (n : ℕ) (held : List (HeldAttempt H)) (place : ℕ) (one changed : HeldAttempt H)
      (old new : Standing) (answer : Reply) → Found id n held place one → changed ≡ record one { attempt = changed.attempt } → Change one old answer new changed.attempt
      → IfHeld Change (held_of held id n) old held answer new (slice_set held place changed)
  changes_held Change id n held place one changed old new answer f same c =
      subst (λ (o : Option (HeldAttempt H)). IfHeld Change o old held answer new (slice_set held place changed)) (sym f.there) (changed.attempt, c, written)
    where
      written : slice_set held place changed ≡ with_attempt held one changed.attempt
      written =
          let is = held_is id n one f.at.passes in
          with_first_at (is_held id n) held place one changed f.at
          ∙ ap (λ (x : HeldAttempt H). with_first (is_held id n) held x) same
          ∙ ap (λ (i : Text). with_first (is_held i n) held (record one { attempt = changed.attempt })) (sym is.0)
          ∙ ap (λ (m : ℕ). with_first (is_held one.invocation m) held (record one { attempt = changed.attempt })) (sym is.1)

  -- the laws
  pub none_held : NoneHeld H
  none_held id n held none = first_missing (is_held id n) held none

  pub reaches : (Change : HeldAttempt H → Standing → Reply → Standing → Attempt H → Type 0) → Reaches Change
  reaches Change id n held place one changed old new answer at read same c = changes_held Change id n held place one changed old new answer (found_at id n held place one at read) same c

module _ {H : Type 0} (function : H → Handler) where
  -- one more event
  pub schedules_grow : SchedulesGrow function
  schedules_grow options [] [] old between new one answer p a = (new, subst (λ (s : Scheduled H). Applies function options one answer s new) p a, refl)
  schedules_grow options (e ∷ events) (r ∷ replies) old between new one answer p a = (p.0, p.1, schedules_grow options events replies p.0 between new one answer p.2 a)
  schedules_grow options [] (r ∷ replies) old between new one answer p a = absurd p
  schedules_grow options (e ∷ events) [] old between new one answer p a = absurd p
