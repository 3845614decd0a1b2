-- A suspension is asked for by its payload; no other frame suspends its attempt.
use Rattle.std.proofs.Common.{refl, sym, subst, drop, ◌≡◌, ◌++◌, [], Some, List}
use Rattle.journal_model.specs.Notification.{Arrival}
use Rattle.journal_model.specs.Attempt.{is_woken}
use Rattle.store_refusals.specs.Preparations.{TellsOrRefuses}
use Rattle.store_steps.proofs.Waking.{not_suspended, wakes_by}
use Rattle.store_steps.proofs.prepare.wakes_at_once.Goals as goal

pub returns-in-Suspension-clause-told : goal.returns-in-Suspension-clause-told
returns-in-Suspension-clause-told g c clean events later store accepted same of =
    rw c.in-Suspension.is (wakes_by later accepted c.args.id.now c.args.row.now of c.args.attempt c.in-Suspension.payload c.as_slice.result.now c.args.attempt.heard c.is_woken.result c.as_slice.ensures refl
    (λ suspended read keeps.
    subst (λ (arrivals : List Arrival). TellsOrRefuses (λ woken. woken ≡ is_woken (drop c.args.attempt.heard arrivals ++ []) (Some suspended)) c.is_woken.result) (sym same)
    (c.is_woken.ensures.told clean events store suspended read keeps)))

pub returns-in_default-clause-told : goal.returns-in_default-clause-told
returns-in_default-clause-told g c clean events later store accepted same of = not_suspended later c.args.id.now c.args.attempt c.args.frame.now c.in_default.not-Suspension
