-- A decoder answers the items of the bytes that came, in order, however they were cut.
use Rattle.std.proofs.Common.{◌≡◌, ℕ, List, [], ◌∷◌, ◌++◌, Option, Some, None, Result, Ok, Err, sym, ap, subst, ◌∙◌, append-nil, append_assoc}
use Rattle.protocol_wire.specs.Items.{items}
use Rattle.protocol_wire.proofs.Steps.{items_read}
use Rattle.protocol_wire.proofs.Extends.{Extends}
use Rattle.protocol_stream.specs.declared.decoder.RawMessage.{RawMessage}
use Rattle.protocol_stream.specs.declared.decoder.DecodingError.{DecodingError}
use Rattle.protocol_stream.specs.declared.decoder.DecodingError.TheVariants.{UnknownMessageType, OutOfMemory}
use Rattle.protocol_stream.specs.Item.{Item, unknown, message, item_at}
use Rattle.protocol_stream.specs.Decoder.{ConsumesNext, DecoderCall, Took, WasRefused, Answered, Leads, taken_bytes, items_in, answered_items}
use Rattle.protocol_stream.specs.Laws.{DecodersAnswerItems}
use Rattle.protocol_stream.proofs.Fronts.{item_at_shrinks, item_at_extends}

-- an item at the front is the first of the items, whatever follows
first_item : (old more between : List ℕ) (item : Item) → item_at old ≡ Some (item, between) → items item_at (old ++ more) ≡ item ∷ items item_at (between ++ more)
first_item old more between item e =
    let longer : item_at (old ++ more) ≡ Some (item, between ++ more) = subst (λ (r : Option (Item × List ℕ)). Extends more r (item_at (old ++ more))) e (item_at_extends more old) in
    items_read item_at item_at_shrinks (old ++ more) item (between ++ more) longer

-- one answer
consumed : (old more between : List ℕ) (answer : Result (Option RawMessage) DecodingError) → ConsumesNext old answer between → items item_at (old ++ more) ≡ items_in answer ++ items item_at (between ++ more)
consumed old more between (Ok None) c = ap (λ (s : List ℕ). items item_at (s ++ more)) (sym c.1)
consumed old more between (Ok (Some found)) c = first_item old more between (message found) c
consumed old more between (Err (UnknownMessageType ty)) c = first_item old more between (unknown ty) c
consumed old more between (Err OutOfMemory) c = ap (λ (s : List ℕ). items item_at (s ++ more)) (sym c)
consumed old more between (Err _) c = absurd c

led : (calls : List DecoderCall) (old new : List ℕ) → Leads calls old new → items item_at (old ++ taken_bytes calls) ≡ answered_items calls ++ items item_at new
led [] old new h = ap (items item_at) (append-nil old ∙ sym h)
led (Took bytes ∷ calls) old new h = ap (items item_at) (sym (append_assoc old bytes (taken_bytes calls))) ∙ led calls (old ++ bytes) new h
led (WasRefused ∷ calls) old new h = led calls old new h
led (Answered answer ∷ calls) old new h =
    consumed old (taken_bytes calls) h.0 answer h.1 ∙ ap (λ (found : List Item). items_in answer ++ found) (led calls h.0 new h.2) ∙ sym (append_assoc (items_in answer) (answered_items calls) (items item_at new))

pub decoders_answer_items : DecodersAnswerItems
decoders_answer_items calls new h = led calls [] new h
