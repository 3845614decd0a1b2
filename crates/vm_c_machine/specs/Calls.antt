-- What a call of C has come to, by what its machine was and is: done with a reply, or not done, and why.
use Rattle.std.specs.Prelude.{◌≡◌, ◌==◌, ◌*◌, ℕ, Bool, false, IsSomeAnd, IsUtf8, [], Some, None, Option, Result, Ok, Err}
use Rattle.std.specs.Duration.{as_nanos}
use Rattle.std.specs.declared.convert.Infallible.{Infallible}
use Rattle.std.specs.declared.time.Duration.{Duration}
use Rattle.journal_model.specs.Notification.{Bytes, Text}
use Rattle.journal_model.specs.declared.handler.Input.{Input}
use Rattle.journal_model.specs.declared.value.Value.{Value}
use Rattle.protocol_errors.specs.Code.{suspended}
use Rattle.protocol_errors.specs.Error.{plain_error}
use Rattle.protocol_errors.specs.declared.error.Error.{Error}
use Rattle.vm_core.specs.Calls.{SysAwakeable}
use Rattle.vm_machine.specs.declared.machine_state.MachineState.{MachineState}
use Rattle.vm_feeding.specs.MachineQueries.{TakesOutput}
use Rattle.vm_feeding.specs.NewMachine.{BeginsMachine}
use Rattle.vm_feeding.specs.InputAnswer.{IsInputRead}
use Rattle.vm_types.specs.declared.options.VMOptions.{VMOptions}
use Rattle.vm_refusals.specs.declared.retries.RetryPolicy.{RetryPolicy}
use Rattle.vm_refusals.specs.declared.runs.RunExitResult.TheVariants.{RetryableFailure}
use Rattle.vm_proposals.specs.ProposalEffects.{ProposesRun}
use Rattle.vm_c_values.specs.Arguments.{IsUnread}
use Rattle.vm_c_values.specs.Policies.{IsPolicy}
use Rattle.vm_c_values.specs.Replies.{kind_of, reply_of}
use Rattle.vm_c_values.specs.declared.not_done.NotDone.{NotDone}
use Rattle.vm_c_values.specs.declared.not_done.Unread.TheVariants.{Memory}
use Rattle.vm_c_values.specs.declared.policy.Policy.{Policy}
use Rattle.vm_c_values.specs.declared.not_done.NotDone.TheVariants.{Unread, Failed, Untold}
use Rattle.vm_c_machine.specs.declared.machine.Machine.{Machine}

-- the error that was answered last, and the input, stay
abbrev pub Keeps : (old new : Machine) → Type 0
Keeps old new = new ≡ record old { vm = new.vm }

-- an error is kept, which is what the machine has answered
abbrev pub Fails : (Error → Type 0) → (is_suspended : Bool) → (old new : Machine) → Type 0
Fails Answers is_suspended old new =
    IsSomeAnd new.failure (λ error. Answers error × (is_suspended ≡ (error.code.0 == suspended)) × (new ≡ record old { vm = new.vm; failure = Some error }))

-- A call of the machine with no argument that has to be read. What it answers is told by numbers alone.
abbrev pub DoesCall : {A : Type 0} → (Call : MachineState → Result A Error → MachineState → Type 0) → (told : A) → (old : Machine) → Result Bytes NotDone → (new : Machine) → Type 0
DoesCall Call told old (Ok reply) new = (reply ≡ []) × Call old.vm.state (Ok told) new.vm.state × Keeps old new
DoesCall Call told old (Err (Failed is_suspended)) new = Fails (λ error. Call old.vm.state (Err error) new.vm.state) is_suspended old new
DoesCall Call told old (Err why) new = ⊥

-- one that cannot fail
abbrev pub Changes : (MachineState → MachineState → Type 0) → (old : Machine) → Result Bytes NotDone → (new : Machine) → Type 0
Changes Call old (Ok reply) new = (reply ≡ []) × Call old.vm.state new.vm.state × Keeps old new
Changes Call old (Err why) new = ⊥

-- One whose arguments are read first. It is done where they are what they have to be, and else, or where memory for them is refused, nothing is.
abbrev pub Given : (AreWellFormed : Type 0) → (Call : (old : Machine) → Result Bytes NotDone → (new : Machine) → Type 0) → (old : Machine) → Result Bytes NotDone → (new : Machine) → Type 0
Given AreWellFormed Call old (Err (Unread why)) new = IsUnread AreWellFormed why × (new ≡ old)
Given AreWellFormed Call old done new = AreWellFormed × Call old done new

-- one that asks, and changes nothing
abbrev pub Asks : (MachineState → Type 0) → (old : Machine) → Result Bytes NotDone → (new : Machine) → Type 0
Asks Answers old (Ok reply) new = (reply ≡ []) × Answers old.vm.state × (new ≡ old)
Asks Answers old (Err why) new = ⊥

-- one whose answer has bytes too, for which memory may be refused
abbrev pub AsksForBytes : (Machine → (reply : Bytes) → Type 0) → (old : Machine) → Result Bytes NotDone → (new : Machine) → Type 0
AsksForBytes Answers old (Ok reply) new = Answers old reply × (new ≡ old)
AsksForBytes Answers old (Err (Unread why)) new = (why ≡ Memory) × (new ≡ old)
AsksForBytes Answers old (Err why) new = ⊥

-- ---- a body that has failed, and may be executed again

-- what is proposed: the failure, after so long, by the policy that the host's numbers say
pub record ProposesRetry (notification attempt_millis code : ℕ) (message : Text) (policy : Policy) (old : Machine) (done : Result Bytes NotDone) (new : Machine) : Type 0 where
  pub retry : RetryPolicy
  pub attempt : Duration
  pub policy_is : IsPolicy policy retry
  pub took : as_nanos attempt ≡ attempt_millis * 1_000_000
  pub proposes : DoesCall (ProposesRun notification (RetryableFailure attempt (plain_error code message)) retry) tt old done new

-- ---- calls of their own

-- of a request of this content type
abbrev pub Begins : (content_type : Text) → VMOptions → Result MachineState Error → Type 0
Begins content_type options result = BeginsMachine Infallible (λ error. ⊥) (Some content_type) options result

-- why none is made, by its code: 415 where the content type names no version that is spoken, 500 where memory is refused
pub record RefusesMachine (content_type : Text) (options : VMOptions) (code : ℕ) : Type 0 where
  pub error : Error
  pub begins : Begins content_type options (Err error)
  pub code_is : code ≡ error.code.0

-- A machine is made of the version that the content type names, with no error and no input. Else none is, and the code says why, if the content
-- type was read.
abbrev pub MakesMachine : (content_type : Text) → VMOptions → (code : ℕ) → Result Machine NotDone → Type 0
MakesMachine content_type options code (Ok machine) =
    IsUtf8 content_type × Begins content_type options (Ok machine.vm.state) × (machine.failure ≡ None) × (machine.input ≡ None) × (code ≡ 0)
MakesMachine content_type options code (Err (Unread why)) = IsUnread (IsUtf8 content_type) why × (code ≡ 0)
MakesMachine content_type options code (Err (Failed is_suspended)) = IsUtf8 content_type × RefusesMachine content_type options code × (is_suspended ≡ false)
MakesMachine content_type options code (Err Untold) = ⊥

-- the output is the reply
abbrev pub GivesOutput : (old : Machine) → Result Bytes NotDone → (new : Machine) → Type 0
GivesOutput old (Ok reply) new = TakesOutput old.vm.state (Ok reply) new.vm.state × Keeps old new
GivesOutput old (Err (Unread why)) new = (why ≡ Memory) × (new.vm.state ≡ old.vm.state) × Keeps old new
GivesOutput old (Err why) new = ⊥

-- the text by which the outside completes it is the reply
abbrev pub GivesAwakeable : (notification : ℕ) → (old : Machine) → Result Bytes NotDone → (new : Machine) → Type 0
GivesAwakeable notification old (Ok reply) new = DoesCall SysAwakeable (record { id = reply; handle = notification }) old (Ok []) new
GivesAwakeable notification old (Err why) new = DoesCall SysAwakeable (record { id = []; handle = notification }) old (Err why) new

-- this input is read, and kept, so that its parts can be told
abbrev pub ReadsInput : Input → (seed : ℕ) → (old new : Machine) → Type 0
ReadsInput input seed old new = IsInputRead old.vm.state (Ok input) new.vm.state × (seed ≡ input.random_seed) × (new ≡ record old { vm = new.vm; input = Some input })

-- its bytes are the reply
abbrev pub KeepsReadInput : (seed : ℕ) → (old : Machine) → Result Bytes NotDone → (new : Machine) → Type 0
KeepsReadInput seed old (Ok reply) new = IsSomeAnd new.input (λ input. ReadsInput input seed old new × (reply ≡ input.input))
KeepsReadInput seed old (Err (Unread why)) new = ⊥
KeepsReadInput seed old (Err (Failed is_suspended)) new = Fails (λ error. IsInputRead old.vm.state (Err error) new.vm.state) is_suspended old new
KeepsReadInput seed old (Err Untold) new = IsSomeAnd new.input (λ input. ReadsInput input seed old new)

-- what was taken, if anything was, is told by its kind and its bytes, or is lost where there is no memory to tell it
abbrev pub Tells : Option Value → (kind : ℕ) → Result Bytes NotDone → Type 0
Tells taken kind (Ok reply) = (kind ≡ kind_of taken) × (reply ≡ reply_of taken)
Tells taken kind (Err Untold) = Unit {0}
Tells taken kind (Err why) = ⊥

pub record Told (Call : MachineState → Result (Option Value) Error → MachineState → Type 0) (kind : ℕ) (old : Machine) (reply : Bytes) (new : Machine) : Type 0 where
  pub taken : Option Value
  pub takes : Call old.vm.state (Ok taken) new.vm.state
  pub kept : Keeps old new
  pub kind_is : kind ≡ kind_of taken
  pub bytes : reply ≡ reply_of taken

pub record Lost (Call : MachineState → Result (Option Value) Error → MachineState → Type 0) (old new : Machine) : Type 0 where
  pub taken : Option Value
  pub takes : Call old.vm.state (Ok taken) new.vm.state
  pub kept : Keeps old new

abbrev pub Takes : (Call : MachineState → Result (Option Value) Error → MachineState → Type 0) → (kind : ℕ) → (old : Machine) → Result Bytes NotDone → (new : Machine) → Type 0
Takes Call kind old (Ok reply) new = Told Call kind old reply new
Takes Call kind old (Err (Unread why)) new = ⊥
Takes Call kind old (Err (Failed is_suspended)) new = Fails (λ error. Call old.vm.state (Err error) new.vm.state) is_suspended old new
Takes Call kind old (Err Untold) new = Lost Call old new
