-- Ids that are awaited.
use Rattle.std.specs.Prelude.{Bool, true, false, nat_lt}
use Rattle.std.specs.Cmp.Lexicographic.{slice_cmp}
use Rattle.std.specs.Ordering.{is_lt, nat_cmp}
use Rattle.journal_model.specs.declared.notification.NotificationId.{NotificationId}
use Rattle.journal_model.specs.declared.notification.NotificationId.TheVariants as ids
use Rattle.protocol_errors.specs.declared.uncompleted.AwaitedId.{AwaitedId}
use Rattle.protocol_errors.specs.declared.uncompleted.AwaitedId.TheVariants as awaited

-- the same id, as it is put in order
abbrev pub awaited_id : NotificationId → AwaitedId
awaited_id (ids.CompletionId number) = awaited.CompletionId number
awaited_id (ids.SignalId number) = awaited.SignalId number
awaited_id (ids.SignalName name) = awaited.SignalName name

-- whether one is told before another: of one kind by the number, or by the name's bytes, and else completions before signals, and signals
-- with a number before those with a name
abbrev pub comes_before : AwaitedId → AwaitedId → Bool
comes_before (awaited.CompletionId one) (awaited.CompletionId two) = nat_lt one two
comes_before (awaited.SignalId one) (awaited.SignalId two) = nat_lt one two
comes_before (awaited.SignalName one) (awaited.SignalName two) = is_lt (slice_cmp nat_cmp one two)
comes_before (awaited.CompletionId one) _ = true
comes_before (awaited.SignalId one) (awaited.SignalName two) = true
comes_before _ _ = false
