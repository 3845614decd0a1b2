-- The canonical payload of a future is read again, to the same value.
use Rattle.std.specs.Prelude.{◌≡◌, ℕ, zero, suc, ◌<◌, ◌^◌, List, length, map, None, refl}
use Rattle.std.proofs.Common.{Bool, true, false, eqb, sym, ap, subst, ◌∙◌, arith}
use Rattle.std.proofs.lemmas.Bool.{ltb-true, eqb-true}
use Rattle.protocol_wire.specs.Fields.{fields}
use Rattle.protocol_wire.specs.Check.{payload_fault}
use Rattle.protocol_table.specs.Table.{descriptors_of}
use Rattle.protocol_wire.specs.Parts.{payload_of}
use Rattle.protocol_wire.specs.DecodingAnswers.{IsRead}
use Rattle.protocol_table.specs.declared.table.RecordType.TheVariants as types
use Rattle.protocol_table.specs.declared.table.future.TheConstants.{WAITING_COMPLETIONS, WAITING_SIGNALS, WAITING_NAMED_SIGNALS, NESTED_FUTURES, COMBINATOR_TYPE, REQUIRED}
use Rattle.protocol_wire.proofs.Holds.{enum_holds, u32_holds, numbers_hold, texts_hold, records_hold, lengths_fit, payload_holds_above, each_sound, each_reads_back}
use Rattle.protocol_wire.proofs.Back.{enum_back, u32_back, numbers_back, texts_back, records_back}
use Rattle.protocol_records.specs.declared.future.CombinatorType.{CombinatorType}
use Rattle.protocol_records.specs.declared.future.CombinatorType.TheVariants.{Unknown, FirstCompleted, AllCompleted, FirstSucceededOrAllFailed, AllSucceededOrFirstFailed, AtLeastSucceeded, Other}
use Rattle.protocol_records.specs.declared.future.Future.{Future, out-Future, roll-Future, fold_out-Future}
use Rattle.protocol_records.specs.declared.future.Future.TheViews.{roll-out-Future}
use Rattle.protocol_records.specs.Future.{read_combinator, combinator_bits, CombinatorFits, future_of, parts_by, future_payload, future_parts, FutureFits}

pub future_payload_is : (f : Future) → future_payload f ≡ payload_of (future_parts f)
unfolding future_payload future_parts
future_payload_is f = fold_out-Future (List ℕ) (λ f. payload_of (parts_by f)) f

combinator_small : (c : CombinatorType) → CombinatorFits c → combinator_bits c < 2 ^ 32
combinator_small Unknown h = ltb-true 0 (2 ^ 32) refl
combinator_small FirstCompleted h = ltb-true 1 (2 ^ 32) refl
combinator_small AllCompleted h = ltb-true 2 (2 ^ 32) refl
combinator_small FirstSucceededOrAllFailed h = ltb-true 3 (2 ^ 32) refl
combinator_small AllSucceededOrFirstFailed h = ltb-true 4 (2 ^ 32) refl
combinator_small AtLeastSucceeded h = ltb-true 5 (2 ^ 32) refl
combinator_small (Other n) h = h.1

other_number : (m n : ℕ) → (m ≡ n → ⊥) → eqb m n ≡ false
other_number m n h = go (eqb m n) refl
  where
    go : (b : Bool) → eqb m n ≡ b → b ≡ false
    go true e = absurd (h (eqb-true m n e))
    go false e = refl

combinator_back : (c : CombinatorType) → CombinatorFits c → read_combinator (combinator_bits c) ≡ c
combinator_back Unknown h = refl
combinator_back FirstCompleted h = refl
combinator_back AllCompleted h = refl
combinator_back FirstSucceededOrAllFailed h = refl
combinator_back AllSucceededOrFirstFailed h = refl
combinator_back AtLeastSucceeded h = refl
combinator_back (Other n) h =
    let e0 = other_number n 0 (λ e. omega (arith, h.0, e)) in
    let e1 = other_number n 1 (λ e. omega (arith, h.0, e)) in
    let e2 = other_number n 2 (λ e. omega (arith, h.0, e)) in
    let e3 = other_number n 3 (λ e. omega (arith, h.0, e)) in
    let e4 = other_number n 4 (λ e. omega (arith, h.0, e)) in
    let e5 = other_number n 5 (λ e. omega (arith, h.0, e)) in
    rw (e0, e1, e2, e3, e4, e5) refl

future_payload_reads : (levels : ℕ) (f : Future) → FutureFits levels f → length (future_payload f) < 2 ^ 64 → IsRead levels types.Future future_of (future_payload f) f
unfolding future_of future_parts FutureFits
future_payload_reads zero f h small = absurd h
future_payload_reads (suc k) f h small =
    let o = out-Future f in
    let ps = future_parts f in
    let below = payload_fault k in
    let table = descriptors_of types.Future in
    let short = subst (λ (p : List ℕ). length p < 2 ^ 64) (future_payload_is f) small in
    let lengths = lengths_fit ps short in
    let read = payload_holds_above k types.Future ps ((
      numbers_hold below table WAITING_COMPLETIONS.number o.waiting_completions (refl, refl) h.0,
      (
        numbers_hold below table WAITING_SIGNALS.number o.waiting_signals (refl, refl) h.1,
        (
          texts_hold below table WAITING_NAMED_SIGNALS.number o.waiting_named_signals (refl, refl) h.2,
          (
            records_hold below table NESTED_FUTURES.number types.Future (map future_payload o.nested_futures) (refl, refl) (each_sound k types.Future future_of future_payload (FutureFits k) (λ g. future_payload_reads k g) o.nested_futures h.3 lengths.1.1.1.0),
            (
              enum_holds below table COMBINATOR_TYPE.number (combinator_bits o.combinator_type) (refl, refl) (combinator_small o.combinator_type h.4),
              (
                u32_holds below table REQUIRED.number o.required (refl, refl) h.5,
                tt,
              ),
            ),
          ),
        ),
      ),
    )) short in
    record {
      sound = subst (λ (p : List ℕ). payload_fault (suc k) types.Future p ≡ None) (sym (future_payload_is f)) read.0;
      value = sym (ap (λ (p : List ℕ). future_of (suc k) (fields p)) (future_payload_is f) ∙ ap (future_of (suc k)) read.1 ∙ ap roll-Future (λ i. record {
        waiting_completions = numbers_back WAITING_COMPLETIONS.number o.waiting_completions ps refl h.0 i;
        waiting_signals = numbers_back WAITING_SIGNALS.number o.waiting_signals ps refl h.1 i;
        waiting_named_signals = texts_back WAITING_NAMED_SIGNALS.number o.waiting_named_signals ps refl i;
        nested_futures = records_back (future_of k) future_payload NESTED_FUTURES.number o.nested_futures ps refl (each_reads_back k types.Future future_of future_payload (FutureFits k) (λ g. future_payload_reads k g) o.nested_futures h.3 lengths.1.1.1.0) i;
        combinator_type = (ap read_combinator (enum_back COMBINATOR_TYPE.number (combinator_bits o.combinator_type) ps refl (combinator_small o.combinator_type h.4)) ∙ combinator_back o.combinator_type h.4) i;
        required = u32_back REQUIRED.number o.required ps refl h.5 i;
      }) ∙ roll-out-Future f);
    }

pub future_reads : (levels : ℕ) (f : Future) → FutureFits levels f → length (payload_of (future_parts f)) < 2 ^ 64 → IsRead levels types.Future future_of (payload_of (future_parts f)) f
future_reads levels f h small =
    subst (λ (p : List ℕ). IsRead levels types.Future future_of p f) (future_payload_is f) (future_payload_reads levels f h (subst (λ (p : List ℕ). length p < 2 ^ 64) (sym (future_payload_is f)) small))
