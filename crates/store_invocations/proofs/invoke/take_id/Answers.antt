use Rattle.std.proofs.Common.{◌≡◌, ◌∙◌, sym, ap, subst, is_some}
use Rattle.journal_model.specs.Journal.{invocation_begun}
use Rattle.journal_model.specs.Cause.{those_that_hold}
use Rattle.journal_model.specs.declared.cause.Cause.{Cause}
use Rattle.protocol_types.specs.Version.{version_number}
use Rattle.protocol_types.proofs.Versions.{spoken_none, spoken_some}
use Rattle.store_refusals.specs.RefusalConditions.{IsRefused}
use Rattle.store_invocations.specs.NewInvocations.{id_tests}
use Rattle.store_invocations.proofs.Reading.{decided_err}
use Rattle.store_invocations.proofs.Refusing.{first_of_two, none_of_two, refused_anyway, second_of_two}
use Rattle.store_invocations.proofs.Opened.{some-map}
use Rattle.store_invocations.proofs.invoke.take_id.Goals as goal

pub returns-in-Some-clause-decided : goal.returns-in-Some-clause-decided
returns-in-Some-clause-decided g c clean events store =
    let used = sym (c.is_some-used.ensures ∙ ap (λ o. is_some o) (c.in_ok-row.ensures.told clean events store) ∙ some-map _ (invocation_begun events c.args.new.now.id)) in
    let it = spoken_some c.args.new.now.version c.in-Some.version (sym c.spoken.ensures ∙ c.in-Some.is) in
    (none_of_two _ _ Cause.IdUsed Cause.UnsupportedVersion (used ∙ c.if-used.false) it.0, it.1)

pub returns-then-used-clause-decided : goal.returns-then-used-clause-decided
returns-then-used-clause-decided g c clean events store =
    let used = sym (c.is_some-used.ensures ∙ ap (λ o. is_some o) (c.in_ok-row.ensures.told clean events store) ∙ some-map _ (invocation_begun events c.args.new.now.id)) in
    first_of_two _ _ Cause.IdUsed Cause.UnsupportedVersion (used ∙ c.if-used.true)

pub returns-in-None-clause-decided : goal.returns-in-None-clause-decided
returns-in-None-clause-decided g c clean events store =
    let used = sym (c.is_some-used.ensures ∙ ap (λ o. is_some o) (c.in_ok-row.ensures.told clean events store) ∙ some-map _ (invocation_begun events c.args.new.now.id)) in
    second_of_two _ _ Cause.IdUsed Cause.UnsupportedVersion (used ∙ c.if-used.false) (spoken_none c.args.new.now.version (sym c.spoken.ensures ∙ c.in-None.is))

pub returns-in_err-row-clause-decided : goal.returns-in_err-row-clause-decided
returns-in_err-row-clause-decided g c clean events store =
    decided_err (id_tests events c.args.new.now) (λ version. version_number version ≡ c.args.new.now.version) c.from_residual.result c.from_residual.ensures.1 (λ why gives.
    subst (IsRefused (those_that_hold (id_tests events c.args.new.now))) (sym gives)
    (refused_anyway (id_tests events c.args.new.now) _ (c.in_err-row.ensures.told clean events store)))
