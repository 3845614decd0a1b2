-- The invocations of which an attempt may go on, without those of which one is live, are due.
use Rattle.std.proofs.Common.{◌≡◌, sym, ap, ◌∙◌, not, List, filter, Option, Some, None, is_some}
use Rattle.sqlite_keyed.proofs.ListLemmas.{filter_same}
use Rattle.journal_model.specs.Notification.{Text}
use Rattle.journal_model.specs.Event.{Event}
use Rattle.journal_model.specs.Attempt.{due, is_none, live_attempt}
use Rattle.store_live.specs.declared.attempt.LiveAttempt.{LiveAttempt}
use Rattle.store_live.specs.Attempts.{ByInvocation, attempt_of}
use Rattle.store_live_laws.specs.LiveAttempts.{Agrees}

none_is : (events : List Event) (id : Text) (o : Option LiveAttempt) → Agrees events id o → not (is_some o) ≡ is_none (live_attempt events id)
none_is events id None agrees = sym (ap is_none agrees)
none_is events id (Some attempt) agrees = sym (ap is_none agrees.number)

pub left_are_due : (events : List Event) (attempts : ByInvocation) → ((id : Text) → Agrees events id (attempt_of attempts id)) → (ids left : List Text)
    → left ≡ filter (λ id. not (is_some (attempt_of attempts id))) ids → due events ≡ filter (λ id. is_none (live_attempt events id)) ids → left ≡ due events
left_are_due events attempts live ids left is told =
    is ∙ filter_same (λ id. not (is_some (attempt_of attempts id))) (λ id. is_none (live_attempt events id)) (λ id. none_is events id (attempt_of attempts id) (live id)) ids ∙ sym told
