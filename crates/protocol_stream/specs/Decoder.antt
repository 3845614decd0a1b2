-- What a decoder answers.
use Rattle.std.specs.Prelude.{◌≡◌, ℕ, List, [], ◌∷◌, ◌++◌, Option, Some, None, Result, Ok, Err}
use Rattle.protocol_stream.specs.declared.decoder.RawMessage.{RawMessage}
use Rattle.protocol_stream.specs.declared.decoder.DecodingError.{DecodingError}
use Rattle.protocol_stream.specs.declared.decoder.DecodingError.TheVariants.{UnknownMessageType, OutOfMemory}
use Rattle.protocol_stream.specs.Item.{Item, item_at, unknown, message}

-- The item at the front is taken; without a whole one, or without memory, nothing changes. No payload is read.
abbrev pub ConsumesNext : List ℕ → Result (Option RawMessage) DecodingError → List ℕ → Type 0
ConsumesNext old (Ok None) new = (item_at old ≡ None) × (new ≡ old)
ConsumesNext old (Ok (Some found)) new = item_at old ≡ Some (message found, new)
ConsumesNext old (Err (UnknownMessageType ty)) new = item_at old ≡ Some (unknown ty, new)
ConsumesNext old (Err OutOfMemory) new = new ≡ old
ConsumesNext old (Err _) new = ⊥

-- ---- a decoder over its whole life

-- a call on a decoder: a push that took the bytes or was refused memory, or `consume_next` with its answer
pub data DecoderCall : Type 0 where
  Took : (bytes : List ℕ) → DecoderCall
  WasRefused : DecoderCall
  Answered : (answer : Result (Option RawMessage) DecodingError) → DecoderCall

-- these calls, one after another, lead from what waits to what waits then
abbrev pub Leads : List DecoderCall → List ℕ → List ℕ → Type 0
Leads [] old new = new ≡ old
Leads (Took bytes ∷ calls) old new = Leads calls (old ++ bytes) new
Leads (WasRefused ∷ calls) old new = Leads calls old new
Leads (Answered answer ∷ calls) old new = (between : List ℕ) × ConsumesNext old answer between × Leads calls between new

-- the bytes that came, joined
abbrev pub taken_bytes : List DecoderCall → List ℕ
taken_bytes [] = []
taken_bytes (Took bytes ∷ calls) = bytes ++ taken_bytes calls
taken_bytes (WasRefused ∷ calls) = taken_bytes calls
taken_bytes (Answered answer ∷ calls) = taken_bytes calls

-- the items that an answer gives
abbrev pub items_in : Result (Option RawMessage) DecodingError → List Item
items_in (Ok None) = []
items_in (Ok (Some found)) = message found ∷ []
items_in (Err (UnknownMessageType ty)) = unknown ty ∷ []
items_in (Err _) = []

abbrev pub answered_items : List DecoderCall → List Item
answered_items [] = []
answered_items (Took bytes ∷ calls) = answered_items calls
answered_items (WasRefused ∷ calls) = answered_items calls
answered_items (Answered answer ∷ calls) = items_in answer ++ answered_items calls
