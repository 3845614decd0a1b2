use Rattle.std.proofs.Common.{◌≡◌, sym, subst, ap, ◌∙◌, inr, refl, ℕ, suc, ◌-◌, ◌^◌, nat_le, [], ◌∷◌, ◌++◌}
use Rattle.sqlite.specs.Held.{state}
use Rattle.journal_model.specs.declared.cause.Cause.{Cause}
use Rattle.journal_model.specs.Cause.{those_that_hold}
use Rattle.store_refusals.specs.RefusalConditions.{IsRefused}
use Rattle.store_refusals.proofs.Causes.{memory_tells}
use Rattle.store_invocations.proofs.Reading.{decided_err}
use Rattle.store_deliveries.specs.PreparedRows.{put_writes}
use Rattle.store_deliveries.proofs.prepare.add_row_at.Goals as goal

pub returns-in_ok-all-in-Ok-clause-decided : goal.returns-in_ok-all-in-Ok-clause-decided
returns-in_ok-all-in-Ok-clause-decided g c clean events outbox store has =
    let decided = c.in-Ok.ensures.decided clean events outbox store has in
    (decided.0, c.in_ok-all-in-Ok.ensures ∙ ap (λ (n : ℕ). c.args.writes.items ++ put_writes (record { number = n; sender = c.args.id.now; place = c.args.place })) decided.1)

pub returns-in_err-all-in-Ok-clause-decided : goal.returns-in_err-all-in-Ok-clause-decided
returns-in_err-all-in-Ok-clause-decided g c clean events outbox store has =
    decided_err ((nat_le (2 ^ 64 - 1) outbox.given, Cause.NumbersUsedUp) ∷ [])
    (λ all. all.items ≡ c.args.writes.items ++ put_writes (record { number = suc outbox.given; sender = c.args.id.now; place = c.args.place }))
    c.from_residual.result c.from_residual.ensures.1 (λ why gives.
    subst (IsRefused (those_that_hold ((nat_le (2 ^ 64 - 1) outbox.given, Cause.NumbersUsedUp) ∷ []))) (sym gives) (inr refl))

pub returns-in_err-all-in-Ok-clause-cause : goal.returns-in_err-all-in-Ok-clause-cause
returns-in_err-all-in-Ok-clause-cause g c =
    memory_tells (state g.S.Store c.args.tables.now) (state g.S.Store c.next_number.new.tables) c.from_residual.result c.from_residual.ensures.1
