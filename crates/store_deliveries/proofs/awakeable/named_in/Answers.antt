use Rattle.std.proofs.Common.{arith, ◌≡◌, ap, ◌∙◌, ◌-◌, ◌≤◌, ℕ, List, length, drop}
use Rattle.store_deliveries.specs.Awakeables.{signal_at, signal_in}
use Rattle.store_deliveries.proofs.Awakeables.{none_named, none_short, some_named}
use Rattle.store_deliveries.proofs.Options.{rest_of}
use Rattle.store_deliveries.proofs.awakeable.named_in.Goals as goal

pub returns-then-size-lt4 : goal.returns-then-size-lt4
returns-then-size-lt4 c = none_short c.args.named.now (omega (arith, c.len-size.ensures.value, c.if-size-lt4.true))

pub returns-in-Some : goal.returns-in-Some
returns-in-Some c =
    let named = c.args.named.now in
    let long : 4 ≤ length named = omega (arith, c.len-size.ensures.value, c.if-size-lt4.false) in
    let at = c.len-size.result - 4 in
    let is : at ≡ signal_at named = omega (arith, c.len-size.ensures.value) in
    some_named named at long is c.in_ok-front.front c.in_ok-front.ensures c.in-Some.invocation c.signal_in-signal.result c.in-Some.ensures.found.0 c.in-Some.ensures.found.1
    (c.signal_in-signal.ensures ∙ ap signal_in (rest_of at c.as_slice.result.now) ∙ ap (λ (bytes : List ℕ). signal_in (drop at bytes)) c.as_slice.ensures)

pub returns-in-None : goal.returns-in-None
returns-in-None c =
    let named = c.args.named.now in
    let long : 4 ≤ length named = omega (arith, c.len-size.ensures.value, c.if-size-lt4.false) in
    let at = c.len-size.result - 4 in
    let is : at ≡ signal_at named = omega (arith, c.len-size.ensures.value) in
    none_named named at long is c.in_ok-front.front c.in_ok-front.ensures c.in-None.ensures.none
