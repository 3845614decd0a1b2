use Rattle.std.proofs.Common.{arith, ◌≡◌, sym, subst, suc, ◌-◌, ◌^◌, nat_le, [], ◌∷◌}
use Rattle.sqlite.specs.Held.{state}
use Rattle.journal_model.specs.declared.cause.Cause.{Cause}
use Rattle.journal_model.specs.Cause.{those_that_hold}
use Rattle.store_refusals.specs.RefusalConditions.{IsRefused}
use Rattle.store_refusals.proofs.Causes.{cause_by}
use Rattle.store_invocations.proofs.Reading.{decided_err}
use Rattle.store_deliveries.proofs.Adding.{any_causes, none_left, room_left}
use Rattle.store_deliveries.proofs.prepare.next_number.Goals as goal

pub returns-then-given-clause-decided : goal.returns-then-given-clause-decided
returns-then-given-clause-decided g c clean events outbox store has =
    let told = c.in_ok-given.ensures.told clean events outbox store has in
    none_left outbox.given (omega (arith, told, c.if-given.true))

pub returns-clause-decided : goal.returns-clause-decided
returns-clause-decided g c clean events outbox store has =
    let told = c.in_ok-given.ensures.told clean events outbox store has in
    (room_left outbox.given (λ e. c.if-given.false (omega (arith, told, e))) has.is.small, omega (arith, told))

pub returns-in_err-given-clause-decided : goal.returns-in_err-given-clause-decided
returns-in_err-given-clause-decided g c clean events outbox store has =
    decided_err ((nat_le (2 ^ 64 - 1) outbox.given, Cause.NumbersUsedUp) ∷ []) (λ number. number ≡ suc outbox.given) c.from_residual.result c.from_residual.ensures.1 (λ why gives.
    subst (IsRefused (those_that_hold ((nat_le (2 ^ 64 - 1) outbox.given, Cause.NumbersUsedUp) ∷ []))) (sym gives)
    (any_causes (those_that_hold ((nat_le (2 ^ 64 - 1) outbox.given, Cause.NumbersUsedUp) ∷ [])) c.in_err-given.field-0.0 (c.in_err-given.ensures.told clean events outbox store has)))

pub returns-in_err-given-clause-cause : goal.returns-in_err-given-clause-cause
returns-in_err-given-clause-cause g c =
    cause_by (state g.S.Store c.args.tables.now) (state g.S.Store c.given_number.new.tables) c.in_err-given.field-0.0 c.from_residual.result c.from_residual.ensures.1 c.in_err-given.ensures.cause
