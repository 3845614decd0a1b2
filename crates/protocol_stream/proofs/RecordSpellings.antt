-- The records' canonical spelling, record by record.
use Rattle.std.proofs.Common.{◌≡◌, ℕ, ◌^◌, nat_lt, true, false, List, [], ◌∷◌, ◌++◌, map, Some, None, refl, sym, ap, ◌∙◌}
use Rattle.std.specs.Prelude.{if◌then◌else◌}
use Rattle.std.proofs.lemmas.Bool.{lt-ltb}
use Rattle.protocol_wire.specs.Parts as parts
use Rattle.protocol_wire.specs.Parts.{Part, part_spelling, payload_of}
use Rattle.journal_model.specs.declared.notification.NotificationId.{NotificationId}
use Rattle.journal_model.specs.declared.value.NonEmptyValue.{NonEmptyValue}
use Rattle.journal_model.specs.declared.value.TerminalFailure.{TerminalFailure}
use Rattle.journal_model.specs.declared.notification.NotificationId.TheVariants.{CompletionId, SignalId, SignalName}
use Rattle.journal_model.specs.Value.{failure_recorded}
use Rattle.journal_model.specs.declared.call.Header.{Header}
use Rattle.journal_model.specs.State.{StateMap}
use Rattle.journal_model.specs.declared.invocation.NewInvocation.{NewInvocation}
use Rattle.journal_model.specs.declared.invocation.StateMode.{StateMode}
use Rattle.journal_model.specs.Start.{state_entry, state_fields}
use Rattle.journal_model.specs.AwaitTree.{AwaitTree, Single, Combined, AwaitTrees, no_trees, and_trees, Combinator, Unknown, FirstCompleted, AllCompleted, FirstSucceededOrAllFailed, AllSucceededOrFirstFailed, AtLeast}
use Rattle.journal_model.specs.Spelling as model
use Rattle.protocol_records.specs.declared.future.Future.{Future}
use Rattle.protocol_records.specs.declared.future.CombinatorType.{CombinatorType}
use Rattle.protocol_records.specs.Header.{header_parts}
use Rattle.protocol_records.specs.Value.{value_parts}
use Rattle.protocol_records.specs.Failure.{failure_parts}
use Rattle.protocol_records.specs.FailureMetadata.{failure_metadata_parts}
use Rattle.protocol_records.specs.SleepCommand.{sleep_command_parts}
use Rattle.protocol_records.specs.OutputCommand.{output_command_parts}
use Rattle.protocol_records.specs.InputCommand.{input_command_parts}
use Rattle.protocol_records.specs.StateEntry.{state_entry_parts}
use Rattle.protocol_records.specs.Start.{start_parts}
use Rattle.protocol_records.specs.Future.{combinator_number, layer_parts, future_parts, future_payload}
use Rattle.protocol_records.proofs.Futures.{future_parts_of}
use Rattle.protocol_records.specs.ReadBackFuture.{future_payload_is}
use Rattle.protocol_records.specs.AwaitingOn.{awaiting_on_parts}
use Rattle.protocol_stream.specs.Records.{header_record, value_record, pair_record, pair_told, failure_record, sleep_record, output_record, input_record, state_entry_record, start_record, combinator_record, future_node, state_shown, is_partial, future_record, nested_records, awaiting_on_record}
use Rattle.protocol_stream.specs.Laws.{SleepsSpelled, OutputsSpelled, InputsSpelled, StartsSpelled, FuturesSpelled, AwaitingOnSpelled, TerminalFailuresReadBack}
use Rattle.protocol_stream.proofs.Spellings.{plain_number-is, plain_bytes-is, optional_bytes-is, repeated_bytes-is, packed-is, bytes_field-is, AreSpelled, spelled-cons, spelled-last, payload_is}

-- ---- records in records

pub value_spelling : (bytes : List ℕ) → payload_of (value_parts (value_record bytes)) ≡ model.value_payload bytes
value_spelling bytes = payload_is (value_parts (value_record bytes)) _ (spelled-last _ _ _ refl (plain_bytes-is 1 bytes))

-- a record of two fields of bytes
pair_of : (first second : List ℕ) → AreSpelled (parts.plain_bytes 1 first ∷ parts.plain_bytes 2 second ∷ []) (model.plain_bytes 1 first ++ model.plain_bytes 2 second)
pair_of first second = spelled-cons _ _ _ _ (plain_bytes-is 1 first) (spelled-last _ _ _ refl (plain_bytes-is 2 second))

pub header_spelling : (header : Header) → payload_of (header_parts (header_record header)) ≡ model.header_payload header
header_spelling header = (pair_of header.key header.value).payload

pair_spelling : (pair : List ℕ × List ℕ) → payload_of (failure_metadata_parts (pair_record pair)) ≡ model.pair_payload pair
pair_spelling pair = (pair_of pair.0 pair.1).payload

state_entry_spelling : (entry : List ℕ × List ℕ) → payload_of (state_entry_parts (state_entry_record entry)) ≡ state_entry entry
state_entry_spelling entry = (pair_of entry.0 entry.1).payload

-- what the spelling of each is, the spelling of all is
all_spelled : {A B : Type 0} (made : A → B) (spell : B → List ℕ) (wanted : A → List ℕ) → ((x : A) → spell (made x) ≡ wanted x) → (xs : List A) → map spell (map made xs) ≡ map wanted xs
all_spelled made spell wanted same [] = refl
all_spelled made spell wanted same (x ∷ xs) = λ i. same x i ∷ all_spelled made spell wanted same xs i

pub repeated : {A B : Type 0} (field : ℕ) (made : A → B) (spell : B → List ℕ) (wanted : A → List ℕ) → ((x : A) → spell (made x) ≡ wanted x) → (xs : List A) → part_spelling (parts.repeated_bytes field (map spell (map made xs))) ≡ model.repeated_bytes field (map wanted xs)
repeated field made spell wanted same xs = repeated_bytes-is field (map spell (map made xs)) ∙ ap (model.repeated_bytes field) (all_spelled made spell wanted same xs)

pub failure_spelling : (failure : TerminalFailure) → payload_of (failure_parts (failure_record failure)) ≡ model.failure_payload (failure_recorded failure)
failure_spelling failure =
    payload_is (failure_parts (failure_record failure)) _
    (spelled-cons _ _ _ _ (plain_number-is 1 failure.code)
    (spelled-cons _ _ _ _ (plain_bytes-is 2 failure.message)
    (spelled-last _ _ _ refl (repeated 3 pair_record (λ r. payload_of (failure_metadata_parts r)) model.pair_payload pair_spelling failure.metadata))))

pub one_record : (field : ℕ) (payload spelling : List ℕ) → payload ≡ spelling → part_spelling (parts.optional_bytes field (Some payload)) ≡ model.bytes_field field spelling
one_record field payload spelling e = optional_bytes-is field (Some payload) ∙ ap (model.bytes_field field) e

-- ---- commands, and the start

-- the fields of a completion's number and of a name, which end a command
pub asked : (completion : ℕ) (name : List ℕ) → AreSpelled (parts.plain_number 11 completion ∷ parts.plain_bytes 12 name ∷ []) (model.asked_as completion name)
asked completion name = spelled-cons _ _ _ _ (plain_number-is 11 completion) (spelled-last _ _ _ refl (plain_bytes-is 12 name))

pub sleeps_spelled : SleepsSpelled
sleeps_spelled time completion name =
    payload_is (sleep_command_parts (sleep_record time completion name)) _ (spelled-cons _ _ _ _ (plain_number-is 1 time) (asked completion name))

pub outputs_spelled : OutputsSpelled
outputs_spelled (NonEmptyValue.Success bytes) name =
    payload_is (output_command_parts (output_record (NonEmptyValue.Success bytes) name)) _
    (spelled-cons _ _ _ _ (plain_bytes-is 12 name) (spelled-last _ _ _ refl (one_record 14 (payload_of (value_parts (value_record bytes))) _ (value_spelling bytes))))
outputs_spelled (NonEmptyValue.Failure failure) name =
    payload_is (output_command_parts (output_record (NonEmptyValue.Failure failure) name)) _
    (spelled-cons _ _ _ _ (plain_bytes-is 12 name) (spelled-cons _ _ [] _ refl (spelled-last _ _ _ refl (one_record 15 (payload_of (failure_parts (failure_record failure))) _ (failure_spelling failure)))))

pub inputs_spelled : InputsSpelled
inputs_spelled headers input =
    payload_is (input_command_parts (input_record headers input)) _
    (spelled-cons _ _ _ _ (repeated 1 header_record (λ r. payload_of (header_parts r)) model.header_payload header_spelling headers)
    (spelled-cons _ _ [] _ refl (spelled-last _ _ _ refl (one_record 14 (payload_of (value_parts (value_record input))) _ (value_spelling input)))))

-- the parts of the state that an attempt is shown
state_parts : StateMode → StateMap → List Part → List Part
state_parts mode state more = parts.repeated_bytes 4 (map (λ r. payload_of (state_entry_parts r)) (state_shown mode state)) ∷ parts.plain_number 5 (parts.bool_number (is_partial mode)) ∷ more

state_spelled : (mode : StateMode) (state : StateMap) (more : List Part) (rest : List ℕ) → AreSpelled more rest → AreSpelled (state_parts mode state more) (state_fields mode state ++ rest)
unfolding state_parts
state_spelled StateMode.Whole state more rest h =
    spelled-cons _ _ _ _ (repeated 4 state_entry_record (λ r. payload_of (state_entry_parts r)) state_entry state_entry_spelling state) (spelled-cons _ _ [] _ refl h)
state_spelled StateMode.None state more rest h = spelled-cons _ _ [] _ refl (spelled-cons _ _ _ _ (plain_number-is 5 1) h)

-- the parts behind the state
later_spelled : (new : NewInvocation) (retry_count duration : ℕ)
    → AreSpelled (parts.plain_bytes 6 new.object ∷ parts.plain_number 7 retry_count ∷ parts.plain_number 8 duration ∷ parts.plain_number 9 new.seed ∷ parts.optional_bytes 10 None ∷ parts.optional_bytes 11 None ∷ parts.optional_bytes 12 None ∷ []) (model.plain_bytes 6 new.object ++ (model.plain_number 7 retry_count ++ (model.plain_number 8 duration ++ model.plain_number 9 new.seed)))
later_spelled new retry_count duration =
    spelled-cons _ _ _ _ (plain_bytes-is 6 new.object)
    (spelled-cons _ _ _ _ (plain_number-is 7 retry_count)
    (spelled-cons _ _ _ _ (plain_number-is 8 duration)
    (spelled-last _ _ _ refl (plain_number-is 9 new.seed))))

pub starts_spelled : StartsSpelled
unfolding state_parts
starts_spelled new state known_entries retry_count duration =
    payload_is (start_parts (start_record new state known_entries retry_count duration)) _
    (spelled-cons _ _ _ _ (plain_bytes-is 1 new.id)
    (spelled-cons _ _ _ _ (plain_bytes-is 2 new.id)
    (spelled-cons _ _ _ _ (plain_number-is 3 known_entries)
    (state_spelled new.state state _ _ (later_spelled new retry_count duration)))))

-- ---- trees

combinator-is : (combinator : Combinator) → combinator_number (combinator_record combinator) ≡ model.combinator_number combinator
combinator-is Unknown = refl
combinator-is FirstCompleted = refl
combinator-is AllCompleted = refl
combinator-is FirstSucceededOrAllFailed = refl
combinator-is AllSucceededOrFirstFailed = refl
combinator-is (AtLeast required) = refl

-- a node whose nested futures are spelled so
node_spelled : (completions signals : List ℕ) (names : List (List ℕ)) (nested : List Future) (combinator : CombinatorType) (required number : ℕ) (inner : List ℕ)
    → part_spelling (parts.repeated_bytes 4 (map future_payload nested)) ≡ inner → combinator_number combinator ≡ number
    → future_payload (future_node completions signals names nested combinator required)
    ≡ model.packed_numbers 1 completions ++ (model.packed_numbers 2 signals ++ (model.repeated_bytes 3 names ++ (inner ++ (model.plain_number 5 number ++ model.plain_number 6 required))))
node_spelled completions signals names nested combinator required number inner e c =
    future_payload_is (future_node completions signals names nested combinator required)
    ∙ ap payload_of (future_parts_of (record { waiting_completions = completions; waiting_signals = signals; waiting_named_signals = names; nested_futures = nested; combinator_type = combinator; required = required }))
    ∙ payload_is (layer_parts (record { waiting_completions = completions; waiting_signals = signals; waiting_named_signals = names; nested_futures = nested; combinator_type = combinator; required = required })) _
    (spelled-cons _ _ _ _ (packed-is 1 completions)
    (spelled-cons _ _ _ _ (packed-is 2 signals)
    (spelled-cons _ _ _ _ (repeated_bytes-is 3 names)
    (spelled-cons _ _ _ _ e
    (spelled-cons _ _ _ _ (plain_number-is 5 (combinator_number combinator) ∙ ap (model.plain_number 5) c)
    (spelled-last _ _ _ refl (plain_number-is 6 required)))))))

mutual
  future_spelled : (tree : AwaitTree NotificationId) → future_payload (future_record tree) ≡ model.future_payload tree
  future_spelled (Single (CompletionId n)) = node_spelled (n ∷ []) [] [] [] _ 0 1 [] refl refl
  future_spelled (Single (SignalId n)) = node_spelled [] (n ∷ []) [] [] _ 0 1 [] refl refl
  future_spelled (Single (SignalName name)) = node_spelled [] [] (name ∷ []) [] _ 0 1 [] refl refl
  future_spelled (Combined combinator children) = node_spelled _ _ _ (nested_records children) _ _ _ _ (nested_spelled children) (combinator-is combinator)

  nested_spelled : (trees : AwaitTrees NotificationId) → part_spelling (parts.repeated_bytes 4 (map future_payload (nested_records trees))) ≡ model.nested_payload trees
  nested_spelled no_trees = refl
  nested_spelled (and_trees (Single leaf) trees) = nested_spelled trees
  nested_spelled (and_trees (Combined combinator children) trees) =
      ap (λ (s : List ℕ). s ++ part_spelling (parts.repeated_bytes 4 (map future_payload (nested_records trees)))) (bytes_field-is 4 _ ∙ ap (model.bytes_field 4) (future_spelled (Combined combinator children)))
      ∙ ap (λ (s : List ℕ). model.bytes_field 4 (model.future_payload (Combined combinator children)) ++ s) (nested_spelled trees)

pub futures_spelled : FuturesSpelled
futures_spelled tree = sym (future_payload_is (future_record tree)) ∙ future_spelled tree

-- the field of the tree
pub tree_spelled : (tree : AwaitTree NotificationId) → part_spelling (parts.optional_bytes 1 (Some (payload_of (future_parts (future_record tree))))) ≡ model.bytes_field 1 (model.future_payload tree)
tree_spelled tree = one_record 1 (payload_of (future_parts (future_record tree))) _ (futures_spelled tree)

pub awaiting_on_spelled : AwaitingOnSpelled
awaiting_on_spelled tree true =
    payload_is (awaiting_on_parts (awaiting_on_record tree true)) _ (spelled-cons _ _ _ _ (tree_spelled tree) (spelled-last _ _ _ refl (plain_number-is 2 1)))
awaiting_on_spelled tree false = payload_is (awaiting_on_parts (awaiting_on_record tree false)) _ (spelled-last _ _ _ refl (tree_spelled tree))

-- ---- a failure, there and back

pairs_back : (pairs : List (List ℕ × List ℕ)) → map pair_told (map pair_record pairs) ≡ pairs
pairs_back [] = refl
pairs_back (pair ∷ pairs) = λ i. pair ∷ pairs_back pairs i

pub terminal_failures_read_back : TerminalFailuresReadBack
terminal_failures_read_back failure small =
    let code : (if nat_lt failure.code (2 ^ 16) then failure.code else 500) ≡ failure.code = rw (lt-ltb _ _ small) refl in
    λ i. record { code = code i; message = failure.message; metadata = pairs_back failure.metadata i }
