-- A Future that was read fits.
use Rattle.std.specs.Prelude.{◌≡◌, ℕ, zero, suc, ◌-◌, ◌^◌, ◌<◌, Bool, true, false, cond, eqb, List, refl}
use Rattle.std.proofs.Common.{arith, subst}
use Rattle.std.proofs.lemmas.Bool.{eqb-false}
use Rattle.protocol_wire.specs.Fields.{fields}
use Rattle.protocol_wire.specs.Check.{payload_fault}
use Rattle.protocol_wire.specs.Sound.{AreSound}
use Rattle.protocol_wire.specs.Selection.{values, u32, numbers, texts, records}
use Rattle.protocol_table.specs.declared.table.RecordType.TheVariants as types
use Rattle.protocol_table.specs.declared.table.future.TheConstants as table
use Rattle.protocol_wire.proofs.SoundAt.{level_left, records_sound}
use Rattle.protocol_wire.proofs.Joins.{IsFine}
use Rattle.protocol_records.specs.declared.future.CombinatorType.TheVariants.{Unknown, FirstCompleted, AllCompleted, FirstSucceededOrAllFailed, AllSucceededOrFirstFailed, AtLeastSucceeded, Other}
use Rattle.protocol_records.specs.Future.{read_combinator, CombinatorFits, future_of, FutureFits}
use Rattle.protocol_records.proofs.Futures.{future_fits as layer_fits}
use Rattle.protocol_laws.specs.ReadFits.{numbers_fit, records_fit, texts_fit, u32_fits}

combinator_fits : (n : ℕ) → n < 2 ^ 32 → CombinatorFits (read_combinator n)
combinator_fits n lt = zeroth (eqb n 0) refl
  where
    fifth : (t : Bool) → eqb n 5 ≡ t → eqb n 0 ≡ false → eqb n 1 ≡ false → eqb n 2 ≡ false → eqb n 3 ≡ false → eqb n 4 ≡ false → CombinatorFits (cond t AtLeastSucceeded (Other n))
    fifth true e a b c d f = tt
    fifth false e a b c d f = (omega (arith, eqb-false n 0 a, eqb-false n 1 b, eqb-false n 2 c, eqb-false n 3 d, eqb-false n 4 f, eqb-false n 5 e), lt)

    fourth : (t : Bool) → eqb n 4 ≡ t → eqb n 0 ≡ false → eqb n 1 ≡ false → eqb n 2 ≡ false → eqb n 3 ≡ false → CombinatorFits (cond t AllSucceededOrFirstFailed (cond (eqb n 5) AtLeastSucceeded (Other n)))
    fourth true e a b c d = tt
    fourth false e a b c d = fifth (eqb n 5) refl a b c d e

    third : (t : Bool) → eqb n 3 ≡ t → eqb n 0 ≡ false → eqb n 1 ≡ false → eqb n 2 ≡ false → CombinatorFits (cond t FirstSucceededOrAllFailed (cond (eqb n 4) AllSucceededOrFirstFailed (cond (eqb n 5) AtLeastSucceeded (Other n))))
    third true e a b c = tt
    third false e a b c = fourth (eqb n 4) refl a b c e

    second : (t : Bool) → eqb n 2 ≡ t → eqb n 0 ≡ false → eqb n 1 ≡ false → CombinatorFits (cond t AllCompleted (cond (eqb n 3) FirstSucceededOrAllFailed (cond (eqb n 4) AllSucceededOrFirstFailed (cond (eqb n 5) AtLeastSucceeded (Other n)))))
    second true e a b = tt
    second false e a b = third (eqb n 3) refl a b e

    first : (t : Bool) → eqb n 1 ≡ t → eqb n 0 ≡ false → CombinatorFits (cond t FirstCompleted (cond (eqb n 2) AllCompleted (cond (eqb n 3) FirstSucceededOrAllFailed (cond (eqb n 4) AllSucceededOrFirstFailed (cond (eqb n 5) AtLeastSucceeded (Other n))))))
    first true e a = tt
    first false e a = second (eqb n 2) refl a e

    zeroth : (t : Bool) → eqb n 0 ≡ t → CombinatorFits (cond t Unknown (cond (eqb n 1) FirstCompleted (cond (eqb n 2) AllCompleted (cond (eqb n 3) FirstSucceededOrAllFailed (cond (eqb n 4) AllSucceededOrFirstFailed (cond (eqb n 5) AtLeastSucceeded (Other n)))))))
    zeroth true e = tt
    zeroth false e = first (eqb n 1) refl e

pub future_fits : (levels : ℕ) (a : List ℕ) → IsFine levels types.Future a → FutureFits levels (future_of levels (fields a))
unfolding future_of
future_fits zero a fine = let lt = level_left zero types.Future a fine in absurd (omega (arith, lt))
future_fits (suc levels) a fine =
    let one : suc levels - 1 ≡ levels = omega arith in
    let sound = subst (λ (n : ℕ). AreSound (payload_fault n types.Future) (values table.NESTED_FUTURES.number (fields a))) one (records_sound (suc levels) types.Future types.Future table.NESTED_FUTURES.number a fine refl) in
    layer_fits levels (record {
      waiting_completions = numbers table.WAITING_COMPLETIONS.number (fields a);
      waiting_signals = numbers table.WAITING_SIGNALS.number (fields a);
      waiting_named_signals = texts table.WAITING_NAMED_SIGNALS.number (fields a);
      nested_futures = records (future_of levels) table.NESTED_FUTURES.number (fields a);
      combinator_type = read_combinator (u32 table.COMBINATOR_TYPE.number (fields a));
      required = u32 table.REQUIRED.number (fields a);
    }) (
      numbers_fit table.WAITING_COMPLETIONS.number (fields a),
      numbers_fit table.WAITING_SIGNALS.number (fields a),
      texts_fit (suc levels) types.Future table.WAITING_NAMED_SIGNALS.number a fine refl,
      records_fit levels types.Future (future_of levels) (FutureFits levels) (future_fits levels) table.NESTED_FUTURES.number (fields a) sound,
      combinator_fits (u32 table.COMBINATOR_TYPE.number (fields a)) (u32_fits table.COMBINATOR_TYPE.number (fields a)),
      u32_fits table.REQUIRED.number (fields a),
    )
