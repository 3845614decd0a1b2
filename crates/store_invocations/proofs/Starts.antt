-- The record of a start is spelled so.
use Rattle.std.proofs.Common.{◌≡◌, ℕ, Bool, true, false, not, List, [], ◌∷◌, ◌++◌, map, None, refl, ap, ◌∙◌, append-nil}
use Rattle.journal_model.specs.Spelling as model
use Rattle.protocol_wire.specs.Parts.{Part, payload_of, part_spelling, bool_number, plain_number}
use Rattle.protocol_records.specs.StateEntry.{state_entry_parts}
use Rattle.protocol_records.specs.Start.{start_parts}
use Rattle.protocol_stream.proofs.Spellings.{plain_number-is, plain_bytes-is, optional_bytes-is, repeated_bytes-is}
use Rattle.store_tables.specs.declared.row.InvocationRow.{InvocationRow}
use Rattle.store_tables.specs.declared.row.StateRow.{StateRow}
use Rattle.store_invocations.specs.Start.{partial_number, since_first, start_frame_payload, start_record, state_bytes, state_record}

-- the parts are spelled so, one by one
abbrev Spelled : List Part → List (List ℕ) → Type 0
Spelled [] [] = Unit {0}
Spelled (part ∷ parts) (s ∷ ss) = (part_spelling part ≡ s) × Spelled parts ss
Spelled _ _ = ⊥

abbrev joined : List (List ℕ) → List ℕ
joined [] = []
joined (s ∷ ss) = s ++ joined ss

spelled : (parts : List Part) (ss : List (List ℕ)) → Spelled parts ss → payload_of parts ≡ joined ss
spelled [] [] p = refl
spelled [] (s ∷ ss) p = absurd p
spelled (part ∷ parts) [] p = absurd p
spelled (part ∷ parts) (s ∷ ss) p = ap (λ (a : List ℕ). a ++ payload_of parts) p.0 ∙ ap (λ (a : List ℕ). s ++ a) (spelled parts ss p.1)

entry-is : (row : StateRow) → payload_of (state_entry_parts (state_record row)) ≡ state_bytes row
entry-is row =
    spelled (state_entry_parts (state_record row)) (model.plain_bytes 1 row.key ∷ model.plain_bytes 2 row.value ∷ []) (plain_bytes-is 1 row.key, (plain_bytes-is 2 row.value, tt))
    ∙ ap (λ (a : List ℕ). model.plain_bytes 1 row.key ++ a) (append-nil (model.plain_bytes 2 row.value))

entries-are : (states : List StateRow) → map (λ r. payload_of (state_entry_parts r)) (map state_record states) ≡ map state_bytes states
entries-are [] = refl
entries-are (row ∷ states) = λ i. entry-is row i ∷ entries-are states i

partial-is : (is_whole : Bool) → part_spelling (plain_number 5 (bool_number (not is_whole))) ≡ model.plain_number 5 (partial_number is_whole)
partial-is true = plain_number-is 5 0
partial-is false = plain_number-is 5 1

pub start-is : (row : InvocationRow) (states : List StateRow) (now : ℕ) → payload_of (start_parts (start_record row states now)) ≡ start_frame_payload row states now
start-is row states now =
    let id = model.plain_bytes 1 row.id in
    let debug_id = model.plain_bytes 2 row.id in
    let entries = model.plain_number 3 row.progress.entries in
    let partial = model.plain_number 5 (partial_number row.is_whole) in
    let key = model.plain_bytes 6 row.object in
    let retries = model.plain_number 7 row.progress.attempts_since_entry in
    let since = model.plain_number 8 (since_first row.progress now) in
    let seed = model.plain_number 9 row.seed in
    let spelled_states = map (λ r. payload_of (state_entry_parts r)) (map state_record states) in
    spelled (start_parts (start_record row states now)) (id ∷ debug_id ∷ entries ∷ model.repeated_bytes 4 spelled_states ∷ partial ∷ key ∷ retries ∷ since ∷ seed ∷ [] ∷ [] ∷ [] ∷ []) (
      plain_bytes-is 1 row.id,
      (
        plain_bytes-is 2 row.id,
        (
          plain_number-is 3 row.progress.entries,
          (
            repeated_bytes-is 4 spelled_states,
            (
              partial-is row.is_whole,
              (
                plain_bytes-is 6 row.object,
                (
                  plain_number-is 7 row.progress.attempts_since_entry,
                  (
                    plain_number-is 8 (since_first row.progress now),
                    (
                      plain_number-is 9 row.seed,
                      (optional_bytes-is 10 None, (optional_bytes-is 11 None, (optional_bytes-is 12 None, tt))),
                    ),
                  ),
                ),
              ),
            ),
          ),
        ),
      ),
    )
    ∙ ap (λ (a : List ℕ). id ++ (debug_id ++ (entries ++ (model.repeated_bytes 4 spelled_states ++ (partial ++ (key ++ (retries ++ (since ++ a)))))))) (append-nil seed)
    ∙ ap (λ (s : List (List ℕ)). id ++ (debug_id ++ (entries ++ (model.repeated_bytes 4 s ++ (partial ++ (key ++ (retries ++ (since ++ seed)))))))) (entries-are states)
