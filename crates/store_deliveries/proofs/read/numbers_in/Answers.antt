use Rattle.std.proofs.Common.{arith, ap, ◌∙◌, take}
use Rattle.store_deliveries.proofs.Hex.{front_of}
use Rattle.store_deliveries.proofs.Options.{if_none}
use Rattle.store_deliveries.proofs.read.numbers_in.Goals as goal

pub returns-in_err-number-clause-none : goal.returns-in_err-number-clause-none
returns-in_err-number-clause-none c =
    if_none c.from_residual.result (λ owed kept. c.in_err-number.ensures.none 16 owed.number (omega arith) (c.as_slice.ensures ∙ kept.key))

pub returns-in_err-place-clause-none : goal.returns-in_err-place-clause-none
returns-in_err-place-clause-none c =
    if_none c.from_residual-in_err-place.result (λ owed kept.
    c.in_err-place.ensures.none 8 owed.place (omega arith) (ap (take 8) (c.as_slice-2.ensures ∙ kept.value) ∙ front_of 8 owed.place owed.sender))
