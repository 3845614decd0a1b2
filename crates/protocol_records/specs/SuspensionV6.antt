-- The fields of a suspension v6.
use Rattle.std.specs.Prelude.{IsUtf8, List, [], ℕ, ◌<◌, ◌^◌, ◌∷◌}
use Rattle.std.specs.List.{AllByRecursion}
use Rattle.protocol_wire.specs.Wire.{Field}
use Rattle.protocol_wire.specs.Selection.{numbers, texts}
use Rattle.protocol_wire.specs.Parts.{Part, packed, repeated_bytes}
use Rattle.protocol_table.specs.declared.table.suspension_v6.TheConstants.{WAITING_COMPLETIONS, WAITING_NAMED_SIGNALS, WAITING_SIGNALS}
use Rattle.protocol_records.specs.declared.suspension_v6.SuspensionMessageV6.{SuspensionMessageV6}

abbrev pub suspension_v6_of : ℕ → List Field → SuspensionMessageV6
suspension_v6_of levels fs = record {
  waiting_completions = numbers WAITING_COMPLETIONS.number fs;
  waiting_signals = numbers WAITING_SIGNALS.number fs;
  waiting_named_signals = texts WAITING_NAMED_SIGNALS.number fs;
}

abbrev pub suspension_v6_parts : SuspensionMessageV6 → List Part
suspension_v6_parts v =
    packed WAITING_COMPLETIONS.number v.waiting_completions ∷
    packed WAITING_SIGNALS.number v.waiting_signals ∷
    repeated_bytes WAITING_NAMED_SIGNALS.number v.waiting_named_signals ∷ []

pub record SuspensionV6Fits (levels : ℕ) (v : SuspensionMessageV6) : Type 0 where
  pub level : 0 < levels
  pub waiting_completions : AllByRecursion (λ n. n < 2 ^ 32) v.waiting_completions
  pub waiting_signals : AllByRecursion (λ n. n < 2 ^ 32) v.waiting_signals
  pub waiting_named_signals : AllByRecursion IsUtf8 v.waiting_named_signals
