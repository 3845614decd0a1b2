-- Fields that more than one record has, spelled as the definitions spell them.
use Rattle.std.proofs.Common.{◌≡◌, ℕ, List, [], ◌∷◌, ◌++◌, map, Option, Some, refl, sym, ap, ◌∙◌, append-nil, append_assoc}
use Rattle.protocol_wire.specs.Wire.{varint}
use Rattle.protocol_wire.specs.Spelling.{tagged}
use Rattle.protocol_wire.specs.Parts as parts
use Rattle.protocol_wire.specs.Parts.{Part, part_spelling, payload_of}
use Rattle.journal_model.specs.Spelling as model
use Rattle.journal_model.specs.Request.{CallRecord}
use Rattle.protocol_records.specs.Header.{header_parts}
use Rattle.protocol_records.specs.StateKeys.{state_keys_parts}
use Rattle.protocol_calls.specs.Fields.{workflow_target_parts, idempotent_request_target_parts}
use Rattle.protocol_stream.specs.Records.{header_record}
use Rattle.protocol_stream.proofs.Spellings.{number_field-is, plain_bytes-is, optional_bytes-is, repeated_bytes-is, AreSpelled, spelled-cons, spelled-last, payload_is}
use Rattle.protocol_stream.proofs.RecordSpellings.{header_spelling, repeated}
use Rattle.protocol_laws.specs.Records.{keys_record, workflow_record, idempotent_record}

-- a number that is there
pub present_number : (field n : ℕ) → part_spelling (parts.optional_number field (Some n)) ≡ model.number_field field n
present_number field n = append-nil (tagged field (varint n)) ∙ number_field-is field n

-- a part that is not there
pub spelled-none : (part : Part) (more : List Part) (a : List ℕ) → part_spelling part ≡ [] → AreSpelled more a → AreSpelled (part ∷ more) a
spelled-none part more a p q = spelled-cons part more [] a p q

pub keys_spelling : (keys : List (List ℕ)) → payload_of (state_keys_parts (keys_record keys)) ≡ model.repeated_bytes 1 keys
keys_spelling keys = payload_is (state_keys_parts (keys_record keys)) _ (spelled-last _ _ _ refl (repeated_bytes-is 1 keys))

pub workflow_spelling : (name key : List ℕ) (scope : Option (List ℕ)) → payload_of (workflow_target_parts (workflow_record name key scope)) ≡ model.plain_bytes 1 name ++ (model.plain_bytes 2 key ++ model.optional_bytes 3 scope)
workflow_spelling name key scope =
    payload_is (workflow_target_parts (workflow_record name key scope)) _
    (spelled-cons _ _ _ _ (plain_bytes-is 1 name) (spelled-cons _ _ _ _ (plain_bytes-is 2 key) (spelled-last _ _ _ refl (optional_bytes-is 3 scope))))

pub idempotent_spelling : (service handler key : List ℕ) (service_key scope : Option (List ℕ)) → payload_of (idempotent_request_target_parts (idempotent_record service handler key service_key scope))
    ≡ model.plain_bytes 1 service ++ (model.optional_bytes 2 service_key ++ (model.plain_bytes 3 handler ++ (model.plain_bytes 4 key ++ model.optional_bytes 5 scope)))
idempotent_spelling service handler key service_key scope =
    payload_is (idempotent_request_target_parts (idempotent_record service handler key service_key scope)) _
    (spelled-cons _ _ _ _ (plain_bytes-is 1 service)
    (spelled-cons _ _ _ _ (optional_bytes-is 2 service_key)
    (spelled-cons _ _ _ _ (plain_bytes-is 3 handler)
    (spelled-cons _ _ _ _ (plain_bytes-is 4 key)
    (spelled-last _ _ _ refl (optional_bytes-is 5 scope))))))

-- ---- the fields of a call, and those behind them

behind : (a s r t : List ℕ) → t ≡ s ++ r → a ++ t ≡ (a ++ s) ++ r
behind a s r t e = ap (λ (x : List ℕ). a ++ x) e ∙ sym (append_assoc a s r)

eight : (a b c d e f g h r : List ℕ) → a ++ (b ++ (c ++ (d ++ (e ++ (f ++ (g ++ (h ++ r))))))) ≡ (a ++ (b ++ (c ++ (d ++ (e ++ (f ++ (g ++ h))))))) ++ r
eight a b c d e f g h r =
    behind a (b ++ (c ++ (d ++ (e ++ (f ++ (g ++ h)))))) r _ (behind b (c ++ (d ++ (e ++ (f ++ (g ++ h))))) r _ (behind c (d ++ (e ++ (f ++ (g ++ h)))) r _
    (behind d (e ++ (f ++ (g ++ h))) r _ (behind e (f ++ (g ++ h)) r _ (behind f (g ++ h) r _ (behind g h r _ refl))))))

abbrev pub call_parts : CallRecord → List Part → List Part
call_parts call more =
    parts.plain_bytes 1 call.service_name ∷ parts.plain_bytes 2 call.handler_name ∷ parts.plain_bytes 3 call.parameter
    ∷ parts.repeated_bytes 4 (map (λ r. payload_of (header_parts r)) (map header_record call.headers)) ∷ parts.plain_bytes 5 call.key
    ∷ parts.optional_bytes 6 call.idempotency_key ∷ parts.optional_bytes 7 call.scope ∷ parts.optional_bytes 8 call.limit_key ∷ more

pub call_spelled : (call : CallRecord) (more : List Part) (rest : List ℕ) → AreSpelled more rest → AreSpelled (call_parts call more) (model.call_fields call ++ rest)
call_spelled call more rest h =
    let all : AreSpelled (call_parts call more) (model.plain_bytes 1 call.service_name ++ (model.plain_bytes 2 call.handler_name ++ (model.plain_bytes 3 call.parameter
    ++ (model.repeated_bytes 4 (map model.header_payload call.headers) ++ (model.plain_bytes 5 call.key ++ (model.optional_bytes 6 call.idempotency_key
    ++ (model.optional_bytes 7 call.scope ++ (model.optional_bytes 8 call.limit_key ++ rest)))))))) =
    spelled-cons _ _ _ _ (plain_bytes-is 1 call.service_name)
    (spelled-cons _ _ _ _ (plain_bytes-is 2 call.handler_name)
    (spelled-cons _ _ _ _ (plain_bytes-is 3 call.parameter)
    (spelled-cons _ _ _ _ (repeated 4 header_record (λ r. payload_of (header_parts r)) model.header_payload header_spelling call.headers)
    (spelled-cons _ _ _ _ (plain_bytes-is 5 call.key)
    (spelled-cons _ _ _ _ (optional_bytes-is 6 call.idempotency_key)
    (spelled-cons _ _ _ _ (optional_bytes-is 7 call.scope)
    (spelled-cons _ _ _ _ (optional_bytes-is 8 call.limit_key) h))))))) in
    record {
      payload = all.payload ∙ eight (model.plain_bytes 1 call.service_name) (model.plain_bytes 2 call.handler_name) (model.plain_bytes 3 call.parameter)
          (model.repeated_bytes 4 (map model.header_payload call.headers)) (model.plain_bytes 5 call.key) (model.optional_bytes 6 call.idempotency_key)
          (model.optional_bytes 7 call.scope) (model.optional_bytes 8 call.limit_key) rest;
    }
