use Rattle.std.proofs.Common.{◌∙◌, sym, subst}
use Rattle.journal_model.specs.Cause.{those_that_hold}
use Rattle.journal_model.specs.declared.cause.Cause.{Cause}
use Rattle.store_refusals.specs.RefusalConditions.{IsRefused}
use Rattle.store_invocations.specs.NewInvocations.{object_tests}
use Rattle.store_invocations.proofs.Beginning.{nameless_is}
use Rattle.store_invocations.proofs.Reading.{decided_err}
use Rattle.store_invocations.proofs.Refusing.{first_of_two, none_of_two, refused_anyway, second_of_two}
use Rattle.store_invocations.proofs.invoke.take_object.Goals as goal

pub returns-clause-decided : goal.returns-clause-decided
returns-clause-decided g c clean events store =
    let busy = sym (c.in_ok-busy.ensures.told clean events store) ∙ c.if-busy.false in
    (none_of_two _ _ Cause.ObjectBusy Cause.EmptyName busy (sym (nameless_is c.args.new.now) ∙ sym c.is_nameless.ensures ∙ c.if-is_nameless.false), tt)

pub returns-then-busy-clause-decided : goal.returns-then-busy-clause-decided
returns-then-busy-clause-decided g c clean events store =
    first_of_two _ _ Cause.ObjectBusy Cause.EmptyName (sym (c.in_ok-busy.ensures.told clean events store) ∙ c.if-busy.true)

pub returns-then-is_nameless-clause-decided : goal.returns-then-is_nameless-clause-decided
returns-then-is_nameless-clause-decided g c clean events store =
    let busy = sym (c.in_ok-busy.ensures.told clean events store) ∙ c.if-busy.false in
    second_of_two _ _ Cause.ObjectBusy Cause.EmptyName busy (sym (nameless_is c.args.new.now) ∙ sym c.is_nameless.ensures ∙ c.if-is_nameless.true)

pub returns-in_err-busy-clause-decided : goal.returns-in_err-busy-clause-decided
returns-in_err-busy-clause-decided g c clean events store =
    decided_err (object_tests events c.args.new.now) (λ _. Unit {0}) c.from_residual.result c.from_residual.ensures.1 (λ why gives.
    subst (IsRefused (those_that_hold (object_tests events c.args.new.now))) (sym gives)
    (refused_anyway (object_tests events c.args.new.now) _ (c.in_err-busy.ensures.told clean events store)))
