-- Bytes come, in any cut.
use Rattle.std.specs.Prelude.{◌≡◌, ◌⊎◌, ℕ, Bool, true, false, List, [], ◌∷◌, ◌++◌, Option, Some, None, Result, Ok, Err}
use Rattle.std.specs.declared.alloc.AllocError.{AllocError}
use Rattle.protocol_errors.specs.Error.{decoding_code}
use Rattle.protocol_errors.specs.declared.error.Error.{Error}
use Rattle.protocol_stream.specs.Decoder.{ConsumesNext}
use Rattle.protocol_stream.specs.ErrorText.{decoding_text}
use Rattle.protocol_stream.specs.declared.decoder.DecodingError.{DecodingError}
use Rattle.protocol_stream.specs.declared.decoder.DecodingError.TheVariants.{OutOfMemory}
use Rattle.protocol_stream.specs.declared.decoder.RawMessage.{RawMessage}
use Rattle.vm_start.specs.declared.phase.Phase.{Phase}
use Rattle.vm_start.specs.declared.phase.Phase.TheVariants.{Failed}
use Rattle.vm_feeding.specs.UnansweredFailure.{HasFailed}
use Rattle.vm_machine.specs.Causes.{TellsPlainError, Unless}
use Rattle.vm_machine.specs.MessageReceipt.{TakesMessage}
use Rattle.vm_machine.specs.declared.machine_state.MachineState.{MachineState}

abbrev pub has_failed : Phase → Bool
has_failed (Failed error) = true
has_failed _ = false

-- these bytes are what was not read
abbrev pub with_bytes : List ℕ → MachineState → MachineState
with_bytes bytes vm = record vm { decoder = bytes }

-- ---- messages, of which the last one that was taken is first

-- The machine has not failed, and this message stands whole at the front of what was not read: it is taken.
pub record TakesNext (message : RawMessage) (old new : MachineState) : Type 0 where
  pub well : has_failed old.phase ≡ false
  pub rest : List ℕ
  pub consumes : ConsumesNext old.decoder (Ok (Some message)) rest
  pub takes : TakesMessage message (with_bytes rest old) new

-- one after the other
abbrev pub TakesEach : List RawMessage → (old new : MachineState) → Type 0
TakesEach [] old new = new ≡ old
TakesEach (message ∷ before) old new = (between : MachineState) × TakesEach before old between × TakesNext message between new

-- ---- why no further one is taken

abbrev pub lacks_memory : DecodingError → Bool
lacks_memory OutOfMemory = true
lacks_memory _ = false

-- what the machine fails with; an error is about no command
abbrev pub DecodingCauses : DecodingError → Result Error AllocError → Type 0
DecodingCauses error cause = Unless (lacks_memory error) (TellsPlainError (decoding_code error) (Some (decoding_text error))) cause

-- the machine fails with why what has come cannot be read
pub record IsUnread (error : DecodingError) (old new : MachineState) : Type 0 where
  pub cause : Result Error AllocError
  pub causes : DecodingCauses error cause
  pub fails : HasFailed cause old new

-- none is whole, or what stands at the front cannot be read
abbrev pub StopsAt : Result (Option RawMessage) DecodingError → (between new : MachineState) → Type 0
StopsAt (Ok None) between new = new ≡ between
StopsAt (Ok (Some message)) between new = ⊥
StopsAt (Err error) between new = IsUnread error between new

pub record Stops (old new : MachineState) : Type 0 where
  pub next : Result (Option RawMessage) DecodingError
  pub rest : List ℕ
  pub consumes : ConsumesNext old.decoder next rest
  pub stops : StopsAt next (with_bytes rest old) new

abbrev pub RestsWhere : (failed : Bool) → (old new : MachineState) → Type 0
RestsWhere true old new = new ≡ old
RestsWhere false old new = Stops old new

-- A machine that has failed reads no further.
abbrev pub Rests : (old new : MachineState) → Type 0
Rests old new = RestsWhere (has_failed old.phase) old new

-- a message is taken out of what was not read, or there is none to take
abbrev pub LooksForNext : (old : MachineState) → Option RawMessage → (new : MachineState) → Type 0
LooksForNext old None new = Rests old new
LooksForNext old (Some message) new =
    (has_failed old.phase ≡ false) × ConsumesNext old.decoder (Ok (Some message)) new.decoder × (new ≡ with_bytes new.decoder old)

-- ---- all together

-- Messages are taken one after the other, until none is whole, or the machine has failed.
pub record TakesAll (old new : MachineState) : Type 0 where
  pub messages : List RawMessage
  pub between : MachineState
  pub each : TakesEach messages old between
  pub rests : Rests between new

-- there is no memory for what has come: it is not kept
pub record LacksMemoryToKeep (old new : MachineState) : Type 0 where
  pub refused : AllocError
  pub fails : HasFailed (Err refused) old new

-- what has come stands behind what was not read
abbrev pub with_input : List ℕ → MachineState → MachineState
with_input bytes vm = with_bytes (vm.decoder ++ bytes) vm

abbrev pub IsFed : (bytes : List ℕ) → (old new : MachineState) → Type 0
IsFed bytes old new = TakesAll (with_input bytes old) new ⊎ LacksMemoryToKeep old new
