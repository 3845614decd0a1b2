-- One level of a future.
use Rattle.std.proofs.Common.{◌≡◌, ℕ, zero, suc, ◌-◌, ◌<◌, List, map, refl, sym, ap, subst, arith}
use Rattle.protocol_wire.specs.Wire.{Field}
use Rattle.protocol_wire.specs.Selection.{u32, numbers, texts, records}
use Rattle.protocol_wire.specs.Parts.{payload_of}
use Rattle.protocol_records.specs.declared.future.Future.{Future, roll-Future}
use Rattle.protocol_records.specs.declared.future.Future.TheOpen.{Future-F}
use Rattle.protocol_records.specs.declared.future.Future.TheViews.{out-roll-Future}
use Rattle.protocol_table.specs.declared.table.future.TheConstants.{WAITING_COMPLETIONS, WAITING_SIGNALS, WAITING_NAMED_SIGNALS, NESTED_FUTURES, COMBINATOR_TYPE, REQUIRED}
use Rattle.protocol_records.specs.ReadBackFuture.{future_payload_is}
use Rattle.protocol_records.specs.Future.{read_combinator, future_of, future_payload, layer_parts, future_parts, LayerFits, FutureFits}

pub future_of_is : (levels : ℕ) (fs : List Field) → 0 < levels → future_of levels fs ≡ roll-Future (record {
  waiting_completions = numbers WAITING_COMPLETIONS.number fs;
  waiting_signals = numbers WAITING_SIGNALS.number fs;
  waiting_named_signals = texts WAITING_NAMED_SIGNALS.number fs;
  nested_futures = records (future_of (levels - 1)) NESTED_FUTURES.number fs;
  combinator_type = read_combinator (u32 COMBINATOR_TYPE.number fs);
  required = u32 REQUIRED.number fs;
})
unfolding future_of
future_of_is zero fs lt = absurd (omega arith)
future_of_is (suc levels) fs lt = let one : suc levels - 1 ≡ levels = omega arith in rw one refl

pub nested_is : (xs : List Future) → map (λ f. payload_of (future_parts f)) xs ≡ map future_payload xs
nested_is xs = λ i. map (λ f. sym (future_payload_is f) i) xs

-- ---- a future that is given by its layer

pub future_parts_of : (o : Future-F Future) → future_parts (roll-Future o) ≡ layer_parts o
unfolding future_parts
future_parts_of o = ap layer_parts (out-roll-Future o)

pub future_fits : (levels : ℕ) (o : Future-F Future) → LayerFits (FutureFits levels) o → FutureFits (suc levels) (roll-Future o)
unfolding FutureFits
future_fits levels o h = subst (λ (p : Future-F Future). LayerFits (FutureFits levels) p) (sym (out-roll-Future o)) h
