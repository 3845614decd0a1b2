-- Payloads of a future that stand for one value lead to one value with the same bytes behind them.
use Rattle.std.specs.Prelude.{◌≡◌, ℕ, zero, suc, List, ◌++◌, unwrap_or, refl}
use Rattle.std.proofs.Common.{sym, ap, ◌∙◌}
use Rattle.protocol_wire.specs.Wire.{Field}
use Rattle.protocol_wire.specs.Fields.{fields}
use Rattle.protocol_wire.specs.Selection.{u32, low, numbers, texts, records}
use Rattle.protocol_table.specs.declared.table.RecordType.TheVariants as types
use Rattle.protocol_table.specs.declared.table.future.TheConstants as future
use Rattle.protocol_wire.proofs.Joins.{number_joins, numbers_join, texts_join, records_join}
use Rattle.protocol_records.specs.declared.future.Future.{Future, out-Future, roll-Future}
use Rattle.protocol_records.specs.declared.future.Future.TheOpen.{Future-F}
use Rattle.protocol_records.specs.declared.future.Future.TheViews.{out-roll-Future}
use Rattle.protocol_records.specs.Future.{read_combinator, future_of}
use Rattle.protocol_laws.specs.Choices.{Join, joined}

abbrev layer : ℕ → List Field → Future-F Future
layer levels fs = record {
  waiting_completions = numbers future.WAITING_COMPLETIONS.number fs;
  waiting_signals = numbers future.WAITING_SIGNALS.number fs;
  waiting_named_signals = texts future.WAITING_NAMED_SIGNALS.number fs;
  nested_futures = records (future_of levels) future.NESTED_FUTURES.number fs;
  combinator_type = read_combinator (u32 future.COMBINATOR_TYPE.number fs);
  required = u32 future.REQUIRED.number fs;
}

layers_join : (levels : ℕ) (x y z : List Field) → layer levels x ≡ layer levels y → layer levels (x ++ z) ≡ layer levels (y ++ z)
layers_join levels x y z h = λ i. record {
  waiting_completions = numbers_join future.WAITING_COMPLETIONS.number x y z (ap (λ (r : Future-F Future). r.waiting_completions) h) i;
  waiting_signals = numbers_join future.WAITING_SIGNALS.number x y z (ap (λ (r : Future-F Future). r.waiting_signals) h) i;
  waiting_named_signals = texts_join future.WAITING_NAMED_SIGNALS.number x y z (ap (λ (r : Future-F Future). r.waiting_named_signals) h) i;
  nested_futures = records_join (future_of levels) future.NESTED_FUTURES.number x y z (ap (λ (r : Future-F Future). r.nested_futures) h) i;
  combinator_type = number_joins future.COMBINATOR_TYPE.number x y z (λ o. read_combinator (low (unwrap_or o 0))) (ap (λ (r : Future-F Future). r.combinator_type) h) i;
  required = number_joins future.REQUIRED.number x y z (λ o. low (unwrap_or o 0)) (ap (λ (r : Future-F Future). r.required) h) i;
}

pub future_joins : Join types.Future future_of
unfolding future_of
future_joins zero a b c p q h = refl
future_joins (suc levels) a b c p q h =
    let same = sym (out-roll-Future (layer levels (fields a))) ∙ ap out-Future h ∙ out-roll-Future (layer levels (fields b)) in
    joined types.Future (future_of (suc levels)) (suc levels) a b c p q (ap roll-Future (layers_join levels (fields a) (fields b) (fields c) same))
