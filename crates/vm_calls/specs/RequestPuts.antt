-- One request is matched with the next recorded command, or its frame is written.
use Rattle.std.specs.Prelude.{◌≡◌, ◌≤◌, ◌^◌, ℕ, ℤ, Bool, true, false, List, [], length, Some, None, Result, Ok, Err}
use Rattle.protocol_table.specs.declared.table.RecordType.{RecordType}
use Rattle.protocol_wire.specs.Wire.{Field}
use Rattle.journal_model.specs.Request.{Request}
use Rattle.journal_model.specs.Spelling.{request_frame, request_payload}
use Rattle.attempt_model.specs.Requests.{put_one}
use Rattle.protocol_stream.specs.ErrorText.{encoding_text}
use Rattle.protocol_stream.specs.declared.decoder.RawMessage.{RawMessage}
use Rattle.protocol_stream.specs.declared.encoder.EncodingError.TheVariants as unsent
use Rattle.protocol_errors.specs.Code.{internal}
use Rattle.vm_context.specs.Output.{Written, with_command}
use Rattle.vm_commands.specs.declared.replay_error.ReplayError.TheVariants as unmatched
use Rattle.vm_commands.specs.HeaderEquality.{header_equal}
use Rattle.vm_commands.specs.NextCommand.{next_of, TakesAs, IsNextUnread, replay_code, replay_text}
use Rattle.vm_commands.specs.RecordedCommands.{commands_of}
use Rattle.vm_calls.specs.declared.put_error.PutError.{PutError}
use Rattle.vm_calls.specs.declared.put_error.PutError.TheVariants.{Replay, Encoding}

-- ---- what is answered

-- While the machine replays, the next recorded command is taken, and stands for the call's.
abbrev pub PutsAs : {M : Type 0} → RecordType → (ℕ → List Field → M) → (erased : Bool → M → M) → (index : ℤ) → (ignoring replaying : Bool) → (made : M)
    → List RawMessage → Result (Unit {0}) (PutError M) → Type 0
PutsAs {M} t of erased index ignoring true made queue (Ok done) = (recorded : M) × TakesAs t of erased index ignoring made (next_of queue) (Ok recorded)
PutsAs t of erased index ignoring true made queue (Err (Replay error)) = TakesAs t of erased index ignoring made (next_of queue) (Err error)
PutsAs t of erased index ignoring true made queue (Err (Encoding error)) = ⊥
PutsAs t of erased index ignoring false made queue (Ok done) = Unit {0}
PutsAs t of erased index ignoring false made queue (Err (Replay error)) = ⊥
PutsAs t of erased index ignoring false made queue (Err (Encoding error)) = Unit {0}

-- ---- what it does to requests and frames

-- where the output is open, a payload of 32 bits and more is not written
abbrev pub IsRequestTooLong : Request → Written → Type 0
IsRequestTooLong request output = (output.is_closed ≡ false) × (2 ^ 32 ≤ length (request_payload request))

-- While the machine replays: an equal recorded command is matched and leaves, and nothing is written. An unequal one, and one
-- that cannot be read, is the machine's mismatch. Without one the attempt's journal is at its end.
abbrev pub Replays : {M : Type 0} → (ignoring : Bool) → Request → (written : List Request) → (old : List RawMessage) → Result (Unit {0}) (PutError M) → (new : List RawMessage) → Type 0
Replays ignoring request written old (Ok done) new = put_one (header_equal ignoring) request (commands_of old) written ≡ Some (record { left = commands_of new; written = written })
Replays ignoring request written old (Err (Replay (unmatched.Unavailable error))) new = commands_of old ≡ []
Replays ignoring request written old (Err (Replay (unmatched.Decoding error))) new = (put_one (header_equal ignoring) request (commands_of old) written ≡ None) × IsNextUnread error (commands_of old)
Replays ignoring request written old (Err (Replay (unmatched.Mismatch error))) new = put_one (header_equal ignoring) request (commands_of old) written ≡ None
Replays ignoring request written old (Err (Replay unmatched.OutOfMemory)) new = Unit {0}
Replays ignoring request written old (Err (Encoding error)) new = ⊥

-- Behind the journal: exactly the request's frame is written, or nothing.
abbrev pub WritesRequest : {M : Type 0} → Request → Written → Result (Unit {0}) (PutError M) → Written → Type 0
WritesRequest request old (Ok done) new = new ≡ with_command (request_frame request) old
WritesRequest request old (Err (Replay error)) new = ⊥
WritesRequest request old (Err (Encoding unsent.PayloadTooLong)) new = (new ≡ old) × IsRequestTooLong request old
WritesRequest request old (Err (Encoding unsent.OutOfMemory)) new = new ≡ old

-- The one step of every command: this request is put as the machine puts it.
abbrev pub Puts : {M : Type 0} → (ignoring replaying : Bool) → Request → (written : List Request) → (queue : List RawMessage) → (output : Written)
    → Result (Unit {0}) (PutError M) → (queue' : List RawMessage) → (output' : Written) → Type 0
Puts ignoring true request written queue output result queue' output' = Replays ignoring request written queue result queue' × (output' ≡ output)
Puts ignoring false request written queue output result queue' output' = WritesRequest request output result output' × (queue' ≡ queue)

-- that a payload is too long is answered exactly where it is
abbrev pub RefusesLong : {M : Type 0} → (replaying : Bool) → Request → Written → Result (Unit {0}) (PutError M) → Type 0
RefusesLong true request old result = Unit {0}
RefusesLong false request old result = IsRequestTooLong request old → result ≡ Err (Encoding unsent.PayloadTooLong)

-- ---- what an error tells

abbrev pub put_code : {M : Type 0} → PutError M → ℕ
put_code (Replay error) = replay_code error
put_code (Encoding error) = internal

-- what is printed of it
abbrev pub put_error_text : {M : Type 0} → (difference : M → M → List ℕ) → PutError M → List ℕ
put_error_text difference (Replay error) = replay_text difference error
put_error_text difference (Encoding error) = encoding_text error
