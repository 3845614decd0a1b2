-- The payload of the three lists of a suspension is that of their ids.
use Rattle.std.proofs.Common.{◌≡◌, ◌++◌, refl}
use Rattle.protocol_wire.specs.Parts.{payload_of}
use Rattle.journal_model.specs.Spelling as model
use Rattle.protocol_records.specs.SuspensionV6.{suspension_v6_parts}
use Rattle.protocol_records.specs.declared.suspension_v6.SuspensionMessageV6.{SuspensionMessageV6}
use Rattle.protocol_stream.proofs.Spellings.{packed-is, repeated_bytes-is, spelled-cons, spelled-last, payload_is}

pub lists_payload : (one : SuspensionMessageV6)
    → payload_of (suspension_v6_parts one) ≡ model.packed_numbers 1 one.waiting_completions ++ (model.packed_numbers 2 one.waiting_signals ++ model.repeated_bytes 3 one.waiting_named_signals)
lists_payload one =
    payload_is (suspension_v6_parts one) _
    (spelled-cons _ _ _ _ (packed-is 1 one.waiting_completions)
    (spelled-cons _ _ _ _ (packed-is 2 one.waiting_signals)
    (spelled-last _ _ _ refl (repeated_bytes-is 3 one.waiting_named_signals))))
