-- A text of more than sixteen bytes, and one with a byte that is no digit, is that of no number.
use Rattle.std.proofs.Common.{arith, ap, sym, subst, get_or, List, ℕ, length, ◌+◌, ◌*◌, ◌<◌, ◌^◌}
use Rattle.store_deliveries.proofs.Hex.{hex_digit_at, power_fits, power_more, SpellsDigit, step_same}
use Rattle.store_deliveries.proofs.Options.{if_none}
use Rattle.delivery_laws.proofs.Texts.{hex_length}
use Rattle.store_deliveries.proofs.read.number_in.Goals as goal

pub returns-then-text-gt16-clause-none : goal.returns-then-text-gt16-clause-none
returns-then-text-gt16-clause-none c digits n l same =
    let len = ap length same in
    let other = hex_length digits n in
    omega (arith, l, len, other, c.if-text-gt16.true)

pub returns-in_err-digit-clause-none : goal.returns-in_err-digit-clause-none
returns-in_err-digit-clause-none c =
    if_none c.from_residual.result (λ digits n l same.
    let i = c.loop-byte.byte-index in
    let len = ap length same in
    let other = hex_length digits n in
    let spelled = subst (λ (xs : List ℕ). SpellsDigit (get_or xs i 0)) (sym same) (hex_digit_at digits n i (omega (arith, len, other, c.loop-byte-test.true))) in
    c.in_err-digit.ensures.none spelled.0 spelled.1 spelled.2)

pub overflow_mul-number : goal.overflow_mul-number
overflow_mul-number c =
    let small : c.loop-byte.number < 2 ^ 60 = power_fits c.loop-byte.byte-index c.loop-byte.number (omega arith) c.loop-byte.invariant.small in
    omega (arith, small)

pub overflow_add-number : goal.overflow_add-number
overflow_add-number c =
    let small : c.loop-byte.number < 2 ^ 60 = power_fits c.loop-byte.byte-index c.loop-byte.number (omega arith) c.loop-byte.invariant.small in
    omega (arith, small, c.from.ensures, c.in_ok-digit.ensures.found.0)

pub loop-byte-preserved : goal.loop-byte-preserved
loop-byte-preserved c =
    let i = c.loop-byte.byte-index in
    let found = c.in_ok-digit.ensures.found in
    record {
      same = step_same c.args.text.now i c.loop-byte.number c.in_ok-digit.digit c.from.result c.loop-byte-test.true c.loop-byte.invariant.same found.0 found.1 c.from.ensures;
      small = subst (λ (x : ℕ). c.loop-byte.number * 16 + x < 16 ^ (i + 1)) (sym c.from.ensures) (power_more i c.loop-byte.number c.in_ok-digit.digit found.0 c.loop-byte.invariant.small);
    }
