-- Worked rows: how often the completions of a nap have come when its second attempt is begun.
use Rattle.std.proofs.Common.{◌≡◌, refl, length}
use Rattle.journal_model.specs.declared.notification.NotificationId.TheVariants.{CompletionId}
use Rattle.journal_model.specs.Delivery.{results_for}
use Rattle.journal_model.specs.Journal.{recorded_requests, recorded_arrivals}
use Rattle.input_laws.proofs.InputRows.{i1, second_begun}
use Rattle.input_laws.specs.CompletionsOnce.{count_of, numbers_asked}

sleep-asked : count_of 1 (numbers_asked (recorded_requests second_begun i1)) ≡ 1
sleep-asked = refl

sleep-come : length (results_for (recorded_arrivals second_begun i1) (CompletionId 1)) ≡ 1
sleep-come = refl

no-other : length (results_for (recorded_arrivals second_begun i1) (CompletionId 2)) ≡ 0
no-other = refl
