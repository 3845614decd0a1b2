-- Frames of named types.
use Rattle.std.proofs.Common.{◌≡◌, ℕ, ◌^◌, ◌<◌, Bool, true, false, List, ◌++◌, length, Some, None, is_some, refl, sym, ap, ◌∙◌}
use Rattle.std.specs.Prelude.{if◌then◌else◌}
use Rattle.journal_model.specs.Spelling.{frame_bytes}
use Rattle.protocol_types.specs.declared.message_type.MessageType.{MessageType}
use Rattle.protocol_types.specs.MessageType.{type_number, allows_ack}
use Rattle.protocol_stream.specs.Item.{message, item_at}
use Rattle.protocol_stream.specs.Frame.{message_of, IsFrame}
use Rattle.protocol_types.proofs.Types.{is_named, named_is_wire}
use Rattle.protocol_stream.proofs.Fronts.{item_at-spelled}
use Rattle.protocol_stream.proofs.Spellings.{spelled-frame_bytes}

flag_fits : (b : Bool) → is_some (if b then Some false else None) ≡ b
flag_fits true = refl
flag_fits false = refl

-- A named type and a payload whose length fits make a frame.
pub frame_of : (ty : MessageType) (payload : List ℕ) → is_named ty ≡ true → length payload < 2 ^ 32 → IsFrame (message_of ty payload)
frame_of ty payload named fits = record { ty = named_is_wire ty named; flag = flag_fits (allows_ack ty); len = refl; fits = fits }

-- It is the item at the front of its bytes as the definitions spell them.
pub item_at-frame_bytes : (ty : MessageType) (payload rest : List ℕ) → is_named ty ≡ true → length payload < 2 ^ 32 → item_at (frame_bytes ty payload ++ rest) ≡ Some (message (message_of ty payload), rest)
item_at-frame_bytes ty payload rest named fits =
    let is = frame_of ty payload named fits in
    ap (λ (s : List ℕ). item_at (s ++ rest)) (sym (spelled-frame_bytes ty payload is.ty.number fits)) ∙ item_at-spelled (message_of ty payload) rest is
