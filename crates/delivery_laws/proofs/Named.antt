-- No invocation has the object whose name is empty.
use Rattle.std.proofs.Common.{◌≡◌, refl, Bool, true, false, if◌then◌else◌, List, [], ◌∷◌, Some, option_map, bytes_eq}
use Rattle.journal_model.specs.Notification.{Text}
use Rattle.journal_model.specs.declared.invocation.NewInvocation.{NewInvocation}
use Rattle.journal_model.specs.Event.{Event}
use Rattle.journal_model.specs.Journal.{invocation_begun, is_text}
use Rattle.journal_model.specs.Cause.{causes_of, IsAccepted, is_empty, own_tests}
use Rattle.journal_laws.proofs.Forgetting.{or_false}
use Rattle.journal_laws.proofs.ObjectState.{holds-head, holds-tail, tail_of}
use Rattle.delivery_laws.specs.Outbox.{outbox_object}

named : (new : NewInvocation) (events : List Event) → causes_of events (Event.Invoke new) ≡ [] → is_empty new.object ≡ false
named new events accepted =
    (or_false (is_empty new.id) (is_empty new.object)
    (holds-head (tail_of (own_tests events (Event.Invoke new))) (holds-tail (own_tests events (Event.Invoke new)) accepted))).1

none_named : (object : Text) → is_empty object ≡ false → bytes_eq object outbox_object ≡ false
none_named [] e = cc
none_named (x ∷ object) e = refl

-- the object of any invocation is another
pub begun_named : (events : List Event) (id : Text) → IsAccepted events → is_text outbox_object (option_map (λ (new : NewInvocation). new.object) (invocation_begun events id)) ≡ false
begun_named [] id accepted = refl
begun_named (Event.Invoke new ∷ events) id accepted = by_same (bytes_eq new.id id) (begun_named events id accepted.1)
  where
    by_same : (b : Bool) → is_text outbox_object (option_map (λ (one : NewInvocation). one.object) (invocation_begun events id)) ≡ false
        → is_text outbox_object (option_map (λ (one : NewInvocation). one.object) (if b then Some new else invocation_begun events id)) ≡ false
    by_same true later = none_named new.object (named new events accepted.0)
    by_same false later = later
begun_named (event ∷ events) id accepted = begun_named events id accepted.1
