use Rattle.std.proofs.Common.{◌∙◌, refl, sym}
use Rattle.protocol_wire.specs.ComingFields.{are_all}
use Rattle.protocol_wire.proofs.Listing.{coming_none, coming_nothing, coming_listed, coming_read, all_read}
use Rattle.protocol_wire.proofs.listed.Fields.split_first.Goals as goal

pub returns-then-is_empty-clause-none : goal.returns-then-is_empty-clause-none
returns-then-is_empty-clause-none c = coming_nothing c.args.self c.in-None.ensures.cases (sym c.is_empty.ensures ∙ c.if-is_empty.true)

pub returns-in_err-field-in-None-clause-none : goal.returns-in_err-field-in-None-clause-none
returns-in_err-field-in-None-clause-none c = rw c.from_residual.ensures (coming_none c.args.self c.in-None.ensures.cases c.in_err-field-in-None.ensures)

pub returns-in-Some-clause-some : goal.returns-in-Some-clause-some
returns-in-Some-clause-some c = coming_listed c.args.self c.in-Some.first.now c.in-Some.listed c.in-Some.ensures.cases.0

pub returns-in-Some-clause-kept : goal.returns-in-Some-clause-kept
unfolding are_all
returns-in-Some-clause-kept c = refl

pub returns-in_ok-field-in-None-clause-some : goal.returns-in_ok-field-in-None-clause-some
returns-in_ok-field-in-None-clause-some c = coming_read c.args.self c.in_ok-field-in-None.field c.in_ok-field-in-None.rest c.in-None.ensures.cases c.in_ok-field-in-None.ensures

pub returns-in_ok-field-in-None-clause-kept : goal.returns-in_ok-field-in-None-clause-kept
returns-in_ok-field-in-None-clause-kept c = all_read c.args.self c.in_ok-field-in-None.field c.in_ok-field-in-None.rest c.in_ok-field-in-None.ensures
