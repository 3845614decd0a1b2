use Rattle.std.proofs.Common.{◌≡◌, ◌∙◌, sym, subst, ap, ◌∷◌, []}
use Rattle.journal_model.specs.Notification.{Bytes}
use Rattle.journal_model.specs.Cause.{those_that_hold}
use Rattle.store_tables.specs.declared.row.Write.TheVariants.{AddInvocation, AddEntry}
use Rattle.store_refusals.specs.RefusalConditions.{IsRefused}
use Rattle.store_invocations.specs.NewInvocations.{entry_of_input, first_row, first_writes, input_tests}
use Rattle.store_invocations.proofs.Reading.{decided_err}
use Rattle.store_invocations.proofs.Refusing.{refused_memory}
use Rattle.store_invocations.proofs.invoke.writes_at_first.Goals as goal

pub returns-clause-decided : goal.returns-clause-decided
returns-clause-decided c =
    let new = c.args.new.now in
    (c.in_ok-payload.ensures.decided.0, c.in_ok-writes.ensures ∙ ap (λ (payload : Bytes). AddInvocation (first_row c.args.version new) ∷ AddEntry (entry_of_input new payload) ∷ []) c.in_ok-payload.ensures.decided.1)

pub returns-in_err-payload-clause-decided : goal.returns-in_err-payload-clause-decided
returns-in_err-payload-clause-decided c =
    decided_err (input_tests c.args.new.now) (λ writes. writes.items ≡ first_writes c.args.version c.args.new.now) c.from_residual.result c.from_residual.ensures.1 (λ why gives.
    subst (IsRefused (those_that_hold (input_tests c.args.new.now))) (sym gives) c.in_err-payload.ensures.decided)

pub returns-in_err-writes-clause-decided : goal.returns-in_err-writes-clause-decided
returns-in_err-writes-clause-decided c =
    refused_memory (input_tests c.args.new.now) (λ writes. writes.items ≡ first_writes c.args.version c.args.new.now)
    c.from_residual-in_err-writes.result c.from_residual-in_err-writes.ensures.1
