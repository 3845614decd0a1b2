-- The fields of a future.
use Rattle.std.specs.Prelude.{◌<◌, ◌^◌, IsUtf8, ℕ, zero, suc, List, [], ◌∷◌, map, ◌==◌, if◌then◌else◌}
use Rattle.std.specs.List.{AllByRecursion}
use Rattle.protocol_wire.specs.Wire.{Field}
use Rattle.protocol_wire.specs.Selection.{u32, numbers, texts, records}
use Rattle.protocol_wire.specs.Parts.{Part, enum_number, packed, repeated_bytes, plain_number, payload_of}
use Rattle.protocol_table.specs.declared.table.future.TheConstants.{WAITING_COMPLETIONS, WAITING_SIGNALS, WAITING_NAMED_SIGNALS, NESTED_FUTURES, COMBINATOR_TYPE, REQUIRED}
use Rattle.protocol_records.specs.declared.future.CombinatorType.{CombinatorType}
use Rattle.protocol_records.specs.declared.future.CombinatorType.TheVariants.{Unknown, FirstCompleted, AllCompleted, FirstSucceededOrAllFailed, AllSucceededOrFirstFailed, AtLeastSucceeded, Other}
use Rattle.protocol_records.specs.declared.future.Future.{Future, out-Future, roll-Future, fold-Future}
use Rattle.protocol_records.specs.declared.future.Future.TheOpen.{Future-F}

-- Another number stays as it came.
abbrev pub read_combinator : ℕ → CombinatorType
read_combinator n =
    if n == 0 then Unknown else
    if n == 1 then FirstCompleted else
    if n == 2 then AllCompleted else
    if n == 3 then FirstSucceededOrAllFailed else
    if n == 4 then AllSucceededOrFirstFailed else
    if n == 5 then AtLeastSucceeded else Other n

-- Its 32 bits.
abbrev pub combinator_bits : CombinatorType → ℕ
combinator_bits Unknown = 0
combinator_bits FirstCompleted = 1
combinator_bits AllCompleted = 2
combinator_bits FirstSucceededOrAllFailed = 3
combinator_bits AllSucceededOrFirstFailed = 4
combinator_bits AtLeastSucceeded = 5
combinator_bits (Other n) = n

abbrev pub combinator_number : CombinatorType → ℕ
combinator_number c = enum_number (combinator_bits c)

-- So many levels are left, the future's own among them.
unfoldable pub future_of : ℕ → List Field → Future
future_of zero fs = roll-Future (record { waiting_completions = []; waiting_signals = []; waiting_named_signals = []; nested_futures = []; combinator_type = Unknown; required = 0 })
future_of (suc levels) fs = roll-Future (record {
  waiting_completions = numbers WAITING_COMPLETIONS.number fs;
  waiting_signals = numbers WAITING_SIGNALS.number fs;
  waiting_named_signals = texts WAITING_NAMED_SIGNALS.number fs;
  nested_futures = records (future_of levels) NESTED_FUTURES.number fs;
  combinator_type = read_combinator (u32 COMBINATOR_TYPE.number fs);
  required = u32 REQUIRED.number fs;
})

-- The parts of a future, where the payloads of those in it are known.
abbrev pub parts_by : Future-F (List ℕ) → List Part
parts_by f =
    packed WAITING_COMPLETIONS.number f.waiting_completions ∷
    packed WAITING_SIGNALS.number f.waiting_signals ∷
    repeated_bytes WAITING_NAMED_SIGNALS.number f.waiting_named_signals ∷
    repeated_bytes NESTED_FUTURES.number f.nested_futures ∷
    plain_number COMBINATOR_TYPE.number (combinator_number f.combinator_type) ∷
    plain_number REQUIRED.number f.required ∷ []

unfoldable pub future_payload : Future → List ℕ
future_payload = fold-Future (List ℕ) (λ f. payload_of (parts_by f))

-- the parts of one layer
abbrev pub layer_parts : Future-F Future → List Part
layer_parts o =
    packed WAITING_COMPLETIONS.number o.waiting_completions ∷
    packed WAITING_SIGNALS.number o.waiting_signals ∷
    repeated_bytes WAITING_NAMED_SIGNALS.number o.waiting_named_signals ∷
    repeated_bytes NESTED_FUTURES.number (map future_payload o.nested_futures) ∷
    plain_number COMBINATOR_TYPE.number (combinator_number o.combinator_type) ∷
    plain_number REQUIRED.number o.required ∷ []

unfoldable pub future_parts : Future → List Part
future_parts f = layer_parts (out-Future f)

-- another number than those with a name
abbrev pub CombinatorFits : CombinatorType → Type 0
CombinatorFits Unknown = Unit {0}
CombinatorFits FirstCompleted = Unit {0}
CombinatorFits AllCompleted = Unit {0}
CombinatorFits FirstSucceededOrAllFailed = Unit {0}
CombinatorFits AllSucceededOrFirstFailed = Unit {0}
CombinatorFits AtLeastSucceeded = Unit {0}
CombinatorFits (Other n) = (5 < n) × (n < 2 ^ 32)

-- one layer, where it is known which of the futures in it fit
abbrev pub LayerFits : (Future → Type 0) → Future-F Future → Type 0
LayerFits Nested o =
    AllByRecursion (λ n. n < 2 ^ 32) o.waiting_completions × AllByRecursion (λ n. n < 2 ^ 32) o.waiting_signals × AllByRecursion IsUtf8 o.waiting_named_signals × AllByRecursion Nested o.nested_futures × CombinatorFits o.combinator_type × (o.required < 2 ^ 32)

-- It takes no more than so many levels, its own among them.
unfoldable pub FutureFits : ℕ → Future → Type 0
FutureFits zero f = ⊥
FutureFits (suc levels) f = LayerFits (FutureFits levels) (out-Future f)
