-- What the row of a closed invocation answers is what the events say.
use Rattle.std.proofs.Common.{◌≡◌, refl, sym, ap, subst, ◌∙◌, ℕ, ◌<◌, ◌^◌, inl, inr, length, map, List, [], ◌∷◌, Option, Some, None, option_map, IfSome, Result, Ok, Err, IfErr, IsTrue}
use Rattle.std.specs.List.{AllByRecursion}
use Rattle.journal_model.specs.Notification.{Bytes, Text}
use Rattle.journal_model.specs.declared.value.NonEmptyValue.{NonEmptyValue}
use Rattle.journal_model.specs.Value.{code_taken}
use Rattle.journal_model.specs.Request.{Request, answer_of, or_later}
use Rattle.journal_model.specs.Spelling.{request_payload}
use Rattle.journal_model.specs.Event.{Event}
use Rattle.journal_model.specs.Journal.{Closing, ByEnd, ByFailure, answer_at_close, closing_of, recorded_requests}
use Rattle.journal_model.specs.Cause.{IsAccepted, those_that_hold}
use Rattle.protocol_table.specs.declared.table.RecordType.TheVariants.{OutputCommand}
use Rattle.protocol_wire.specs.declared.record.TheConstants.{LEVELS}
use Rattle.protocol_wire.specs.declared.check.Fault.{Fault}
use Rattle.protocol_wire.specs.Check.{payload_fault}
use Rattle.protocol_wire.specs.Parts.{payload_of}
use Rattle.protocol_wire.specs.DecodingAnswers.{IsRead}
use Rattle.protocol_records.specs.declared.output_command.OutputCommandMessage.{OutputCommandMessage}
use Rattle.protocol_records.specs.declared.output_command.OutputCommandResult.{OutputCommandResult}
use Rattle.protocol_records.specs.OutputCommand.{OutputCommandFits, output_command_of, output_command_parts}
use Rattle.protocol_records.specs.ReadBack.{output_command_reads}
use Rattle.protocol_stream.specs.Records.{output_record, pair_record, pair_told, result_record, result_told}
use Rattle.protocol_stream.proofs.RecordSpellings.{outputs_spelled}
use Rattle.store_tables.specs.declared.row.LastError.{LastError}
use Rattle.store_tables.specs.declared.row.InvocationRow.{InvocationRow}
use Rattle.store_model.specs.Progress.{last_error_of, last_output, or_last, progress_of, way_closed}
use Rattle.store_refusals.specs.declared.refusal.Refusal.{Refusal}
use Rattle.store_frames.specs.ReadFrames.{AreRead}
use Rattle.store_refusals.specs.RefusalConditions.{is_circumstance}
use Rattle.store_refusals.specs.Causes.{IsUnasked}
use Rattle.store_invocations.specs.Rows.{Decides, IsRowOf, known_tests}
use Rattle.store_invocations.specs.InvocationAnswers.{IsShortPayload, ReadsRow, answer_by, answer_told, closed_by, failure_by, output_by, output_in, output_read, value_taken}
use Rattle.store_invocations.proofs.Closing.{IsFailure, closed_by_failure}
use Rattle.store_invocations.proofs.Holding.{IsHeld}
use Rattle.store_invocations.proofs.Recording.{outputs_held}

-- the database is not asked for what is read here
pub reads_unasked : {A : Type 0} (there : Option A) (r : Result A Refusal) → ReadsRow there r → IfErr r IsUnasked
reads_unasked there (Ok answer) read = tt
reads_unasked there (Err why) (inl foreign) = λ cause is. cc (foreign.0)
reads_unasked there (Err why) (inr memory) = λ cause is. cc

-- ---- an output's payload

-- what is read of a payload with which nothing is wrong
read_in : (payload : Bytes) (output : OutputCommandMessage) → IsRead LEVELS OutputCommand output_command_of payload output
    → output_in payload ≡ option_map result_told output.result
read_in payload output is =
    ap (λ (fault : Option Fault). output_read fault payload) is.sound
    ∙ ap (λ (one : OutputCommandMessage). option_map result_told one.result) (sym is.value)

pub value_read : (payload : Bytes) (output : OutputCommandMessage) (result : OutputCommandResult) (value : NonEmptyValue) → IsRead LEVELS OutputCommand output_command_of payload output
    → output.result ≡ Some result → value ≡ result_told result → output_in payload ≡ Some value
value_read payload output result value is there told = read_in payload output is ∙ ap (option_map result_told) there ∙ ap Some (sym told)

pub nothing_read : (payload : Bytes) (output : OutputCommandMessage) → IsRead LEVELS OutputCommand output_command_of payload output → output.result ≡ None → output_in payload ≡ None
nothing_read payload output is there = read_in payload output is ∙ ap (option_map result_told) there

pub fault_read : (payload : Bytes) (fault : Fault) → payload_fault LEVELS OutputCommand payload ≡ Some fault → output_in payload ≡ None
fault_read payload fault e = ap (λ (o : Option Fault). output_read o payload) e

-- ---- what is spelled is read back, with a code of sixteen bits

pairs_back : (pairs : List (Text × Text)) → map pair_told (map pair_record pairs) ≡ pairs
pairs_back [] = refl
pairs_back (pair ∷ pairs) = λ i. pair ∷ pairs_back pairs i

told_back : (value : NonEmptyValue) → result_told (result_record value) ≡ value_taken value
told_back (NonEmptyValue.Success bytes) = refl
told_back (NonEmptyValue.Failure failure) =
    λ i. NonEmptyValue.Failure (record { code = code_taken failure.code; message = failure.message; metadata = pairs_back failure.metadata i })

value_back : (value : NonEmptyValue) (name : Text) → OutputCommandFits LEVELS (output_record value name) → length (request_payload (Request.Output value name)) < 2 ^ 64
    → output_in (request_payload (Request.Output value name)) ≡ Some (value_taken value)
value_back value name fits short =
    let spelled = outputs_spelled value name in
    let payload = payload_of (output_command_parts (output_record value name)) in
    let read = output_command_reads LEVELS (output_record value name) fits (subst (λ (bytes : Bytes). length bytes < 2 ^ 64) (sym spelled) short) in
    ap output_in (sym spelled) ∙ read_in payload (output_record value name) read ∙ ap Some (told_back value)

-- ---- the last output

abbrev PutOut : Option Bytes → Option NonEmptyValue → Type 0
PutOut None None = Unit {0}
PutOut (Some payload) (Some value) = (name : Text) × (payload ≡ request_payload (Request.Output value name)) × OutputCommandFits LEVELS (output_record value name)
PutOut _ _ = ⊥

with_output : (value : NonEmptyValue) (name : Text) (o : Option Bytes) (later : Option NonEmptyValue) → OutputCommandFits LEVELS (output_record value name) → PutOut o later
    → PutOut (or_last (request_payload (Request.Output value name)) o) (or_later (Some value) later)
with_output value name None None fits put = (name, refl, fits)
with_output value name (Some payload) (Some last) fits put = put
with_output value name None (Some last) fits put = absurd put
with_output value name (Some payload) None fits put = absurd put

without_output : (o : Option Bytes) (later : Option NonEmptyValue) → PutOut o later → PutOut o (or_later None later)
without_output o None put = put
without_output o (Some last) put = put

put_out : (requests : List Request) → AllByRecursion IsHeld requests → PutOut (last_output requests) (answer_of requests)
put_out [] held = tt
put_out (Request.Output value name ∷ requests) held = with_output value name (last_output requests) (answer_of requests) held.0 (put_out requests held.1)
put_out (request ∷ requests) held = without_output (last_output requests) (answer_of requests) (put_out requests held.1)

output_back : (o : Option Bytes) (answer : Option NonEmptyValue) → PutOut o answer → IfSome o (λ payload. length payload < 2 ^ 64) → output_by o ≡ Some (option_map value_taken answer)
output_back None None put short = refl
output_back (Some payload) (Some value) put short =
    ap (λ (bytes : Bytes). option_map Some (output_in bytes)) put.1
    ∙ ap (option_map Some) (value_back value put.0 put.2 (subst (λ (bytes : Bytes). length bytes < 2 ^ 64) put.1 short))
output_back None (Some value) put short = absurd put
output_back (Some payload) None put short = absurd put

-- ---- the answer

failed_back : (code : ℕ) (message : Text) (told : Option LastError) → IsFailure code message told
    → option_map (λ (one : LastError). Some (failure_by one)) told ≡ Some (Some (NonEmptyValue.Failure (record { code = code_taken code; message = message; metadata = [] })))
failed_back code message told is =
    ap (option_map (λ (one : LastError). Some (failure_by one))) is.is
    ∙ (λ i. Some (Some (NonEmptyValue.Failure (record { code = code_taken (is.has_code i); message = is.has_message i; metadata = [] }))))

answer_back : (events : List Event) (id : Text) → IsAccepted events → AreRead events → IsShortPayload (progress_of events id)
    → answer_by (progress_of events id) ≡ Some (answer_told events id)
answer_back events id accepted read short = by_closing (closing_of events id) refl
  where
    by_closing : (o : Option Closing) → closing_of events id ≡ o
        → closed_by (option_map way_closed o) (last_output (recorded_requests events id)) (last_error_of events id) ≡ Some (option_map value_taken (answer_at_close (recorded_requests events id) o))
    by_closing None is = refl
    by_closing (Some ByEnd) is =
        output_back (last_output (recorded_requests events id)) (answer_of (recorded_requests events id)) (put_out (recorded_requests events id) (outputs_held events id read))
        (short (ap (option_map way_closed) is))
    by_closing (Some (ByFailure code message)) is = failed_back code message (last_error_of events id) (closed_by_failure events id code message accepted is)

some_is : {A : Type 0} (x y : A) → Some x ≡ Some y → x ≡ y
some_is x y e = cc

pub answered : (events : List Event) (id : Text) (row : InvocationRow) (result : Result (Option NonEmptyValue) Refusal) → IsAccepted events → AreRead events
    → (those_that_hold (known_tests events id) ≡ []) × IsRowOf events id row → ReadsRow (answer_by row.progress) result → IsShortPayload row.progress
    → Decides (known_tests events id) (λ answer. answer ≡ answer_told events id) result
answered events id row result accepted read known reads short = by_result result reads
  where
    progress_is : row.progress ≡ progress_of events id
    progress_is = ap (λ (r : InvocationRow). r.progress) known.1.is ∙ ap (progress_of events) known.1.named

    back : answer_by row.progress ≡ Some (answer_told events id)
    back = ap answer_by progress_is ∙ answer_back events id accepted read (subst IsShortPayload progress_is short)

    by_result : (r : Result (Option NonEmptyValue) Refusal) → ReadsRow (answer_by row.progress) r → Decides (known_tests events id) (λ answer. answer ≡ answer_told events id) r
    by_result (Ok answer) reads = (known.0, some_is answer (answer_told events id) (sym reads ∙ back))
    by_result (Err why) (inl foreign) = let none : None ≡ Some (answer_told events id) = sym foreign.1 ∙ back in cc
    by_result (Err why) (inr memory) = inr (subst (λ (w : Refusal). IsTrue (is_circumstance w)) (sym memory) refl)
