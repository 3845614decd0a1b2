-- What a signal brings, and why it may be refused.
use Rattle.std.specs.Prelude.{not, [], ◌∷◌}
use Rattle.journal_model.specs.Notification.{Arrival, cancel_id}
use Rattle.journal_model.specs.declared.notification.NotificationResult.{NotificationResult}
use Rattle.journal_model.specs.declared.notification.SignalKey.{SignalKey}
use Rattle.journal_model.specs.Journal.{id_of_signal}
use Rattle.journal_model.specs.Cause.{Tests, is_reserved, may_signal}
use Rattle.journal_model.specs.declared.cause.Cause.{Cause}

-- what arrives by a signal, and by a cancellation
abbrev pub signal_arrival : SignalKey → NotificationResult → Arrival
signal_arrival key brought = record { id = id_of_signal key; result = brought }

abbrev pub cancellation : Arrival
cancellation = record { id = cancel_id; result = NotificationResult.Void }

-- what it may carry, before which signals are not for use
abbrev pub signal_tests : SignalKey → NotificationResult → Tests
signal_tests key brought = (not (may_signal brought), Cause.WrongKind) ∷ (is_reserved key, Cause.ReservedSignal) ∷ []
