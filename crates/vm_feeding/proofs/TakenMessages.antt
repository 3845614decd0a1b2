-- Messages one after the other.
use Rattle.std.proofs.Common.{◌≡◌, ℕ, ◌<◌, List, ◌∷◌, length, Option, Some, None, sym, subst}
use Rattle.protocol_stream.proofs.Fronts.{item_at_shrinks}
use Rattle.protocol_stream.specs.Item.{Item, item_at, message}
use Rattle.protocol_stream.specs.declared.decoder.RawMessage.{RawMessage}
use Rattle.protocol_wire.proofs.Steps.{Shrinks}
use Rattle.vm_feeding.proofs.Keeping.{takes_keeps}
use Rattle.vm_feeding.specs.InputBytes.{TakesNext, TakesEach, LooksForNext, TakesAll}
use Rattle.vm_machine.specs.MessageReceipt.{TakesMessage}
use Rattle.vm_machine.specs.declared.machine_state.MachineState.{MachineState}

-- so many were taken, or none yet
pub record TookSome (old new : MachineState) : Type 0 where
  pub messages : List RawMessage
  pub each : TakesEach messages old new

-- a message was found, and is taken
next_of : (found : RawMessage) (old looked new : MachineState) → LooksForNext old (Some found) looked → TakesMessage found looked new → TakesNext found old new
next_of found old looked new looks takes = record {
  well = looks.0;
  rest = looked.decoder;
  consumes = looks.1;
  takes = subst (λ (vm : MachineState). TakesMessage found vm new) looks.2 takes;
}

-- one more is taken
pub takes_more : (found : RawMessage) (old between looked new : MachineState) → TookSome old between → LooksForNext between (Some found) looked
    → TakesMessage found looked new → TookSome old new
takes_more found old between looked new took looks takes = record {
  messages = found ∷ took.messages;
  each = (between, took.each, next_of found between looked new looks takes);
}

-- no further one is
pub took_all : (old between new : MachineState) → TookSome old between → LooksForNext between None new → TakesAll old new
took_all old between new took rests = record { messages = took.messages; between = between; each = took.each; rests = rests }

-- ---- fewer bytes are left

shorter : (found : RawMessage) (old rest : List ℕ) → item_at old ≡ Some (message found, rest) → length rest < length old
shorter found old rest is = subst (λ (at : Option (Item × List ℕ)). Shrinks old at) is (item_at_shrinks old)

pub next_is_shorter : (found : RawMessage) (old looked new : MachineState) → LooksForNext old (Some found) looked → TakesMessage found looked new → length new.decoder < length old.decoder
next_is_shorter found old looked new looks takes =
    subst (λ (bytes : List ℕ). length bytes < length old.decoder) (sym (takes_keeps found looked new takes)) (shorter found old.decoder looked.decoder looks.1)
