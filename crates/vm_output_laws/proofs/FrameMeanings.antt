-- Each frame is read as what it was meant as.
use Rattle.std.proofs.Common.{◌≡◌, ◌<◌, ◌-◌, ◌^◌, ℕ, arith, Bool, true, false, ◌&&◌, List, [], ◌++◌, length, Option, Some, None, refl, sym, ap, ◌∙◌, subst}
use Rattle.std.specs.Prelude.{if◌then◌else◌}
use Rattle.protocol_table.specs.declared.table.RecordType.{RecordType}
use Rattle.protocol_table.specs.declared.table.RecordType.TheVariants as records
use Rattle.protocol_wire.specs.Wire.{Field}
use Rattle.protocol_wire.specs.Fields.{fields}
use Rattle.protocol_wire.specs.Check.{payload_fault}
use Rattle.protocol_wire.specs.Parts.{Part, payload_of}
use Rattle.protocol_wire.specs.DecodingAnswers.{IsRead}
use Rattle.protocol_wire.specs.declared.check.Fault.{Fault}
use Rattle.protocol_wire.specs.declared.record.TheConstants.{LEVELS}
use Rattle.protocol_wire.proofs.Holds.{Reads}
use Rattle.protocol_types.specs.declared.version.Version.{Version}
use Rattle.protocol_types.specs.declared.message_type.MessageType.TheVariants as types
use Rattle.protocol_types.specs.declared.feature.Feature.TheVariants.{Acknowledgement, AtLeast, AwaitTree as TellsTrees}
use Rattle.protocol_types.specs.Version.{version_number}
use Rattle.protocol_types.specs.Feature.{has_feature, lacks_feature}
use Rattle.protocol_types.proofs.Types.{is_named, named_is_wire}
use Rattle.journal_model.specs.declared.notification.NotificationId.{NotificationId}
use Rattle.journal_model.specs.declared.value.NonEmptyValue.{NonEmptyValue}
use Rattle.journal_model.specs.AwaitTree.{AwaitTree, has_number}
use Rattle.journal_model.specs.Request.{Request}
use Rattle.journal_model.specs.Event.{Frame}
use Rattle.journal_model.specs.Spelling.{completions_in, signals_in, names_in, request_type, request_payload, suspension_payload, awaiting_on_payload}
use Rattle.protocol_records.specs.declared.suspension_v6.SuspensionMessageV6.{SuspensionMessageV6}
use Rattle.protocol_records.specs.declared.suspension.SuspensionMessage.{SuspensionMessage}
use Rattle.protocol_records.specs.declared.awaiting_on.AwaitingOnMessage.{AwaitingOnMessage}
use Rattle.protocol_records.specs.SleepCommand.{sleep_command_of}
use Rattle.protocol_records.specs.OutputCommand.{output_command_of}
use Rattle.protocol_records.specs.Suspension.{suspension_of, suspension_parts}
use Rattle.protocol_records.specs.SuspensionV6.{suspension_v6_of, suspension_v6_parts}
use Rattle.protocol_records.specs.AwaitingOn.{awaiting_on_of, awaiting_on_parts}
use Rattle.protocol_records.specs.Choice.{ChoiceFits}
use Rattle.protocol_records.specs.ReadBack.{suspension_reads, suspension_v6_reads, awaiting_on_reads, end_reads}
use Rattle.protocol_commands.specs.Fields.{get_lazy_state_command_of, get_lazy_state_keys_command_of, get_eager_state_keys_command_of, set_state_command_of, clear_state_command_of, clear_all_state_command_of, get_promise_command_of, peek_promise_command_of, run_command_of}
use Rattle.protocol_commands.specs.GetEagerStateCommand.{get_eager_state_command_of}
use Rattle.protocol_commands.specs.CompletePromiseCommand.{complete_promise_command_of}
use Rattle.protocol_calls.specs.Fields.{call_command_of, one_way_call_command_of}
use Rattle.protocol_calls.specs.SendSignalCommand.{send_signal_command_of}
use Rattle.protocol_calls.specs.AttachInvocationCommand.{attach_invocation_command_of}
use Rattle.protocol_calls.specs.GetInvocationOutputCommand.{get_invocation_output_command_of}
use Rattle.protocol_calls.specs.CompleteAwakeableCommand.{complete_awakeable_command_of}
use Rattle.protocol_controls.specs.declared.error.ErrorMessage.{ErrorMessage}
use Rattle.protocol_controls.specs.Error.{error_of, error_parts, ErrorFits}
use Rattle.protocol_controls.specs.Choices.{proposal_choice}
use Rattle.protocol_controls.specs.ProposeRunCompletion.{propose_run_completion_of, propose_run_completion_parts, ProposeRunCompletionFits}
use Rattle.protocol_controls.specs.declared.propose_run_completion.ProposeRunCompletionMessage.{ProposeRunCompletionMessage}
use Rattle.protocol_controls.specs.ReadBack.{error_reads, propose_run_completion_reads}
use Rattle.protocol_messages.specs.ProposedValues.{proposed_record}
use Rattle.protocol_stream.specs.Records.{future_record, awaiting_on_record}
use Rattle.protocol_stream.specs.Item.{message, item_at}
use Rattle.protocol_stream.proofs.Fronts.{item_at-spelled}
use Rattle.protocol_stream.proofs.Frames.{item_at-frame_bytes}
use Rattle.protocol_stream.proofs.RecordSpellings.{awaiting_on_spelled}
use Rattle.protocol_laws.specs.Requests.{request_of_output, request_of_get_lazy_state, request_of_get_eager_state, request_of_get_lazy_state_keys, request_of_get_eager_state_keys, request_of_set_state, request_of_clear_state, request_of_clear_all_state, request_of_get_promise, request_of_peek_promise, request_of_complete_promise, request_of_sleep, request_of_call, request_of_one_way_call, request_of_send_signal, request_of_run, request_of_attach_invocation, request_of_get_invocation_output, request_of_complete_awakeable}
use Rattle.protocol_laws.proofs.Notifications.{suspensions_spelled}
use Rattle.protocol_laws.proofs.Told.{output_told}
use Rattle.vm_commands.specs.RecordedCommands.{unless_wrong, request_read}
use Rattle.store_frames.specs.FrameMeanings.{unless_faulty, read_as, command_or_broken, error_frame, unless_numbered, suspension_frame, awaiting_frame, outcome_or_broken, frame_of}
use Rattle.store_frames.specs.Requests.{awaited_tree, suspension_of_tree, suspension_of_lists, outcome_told, proposal_told}
use Rattle.store_frames.proofs.Payloads.{lists_payload as lists_spelled}
use Rattle.vm_start.specs.Failure.{told_error}
use Rattle.vm_proposals.specs.ProposalEffects.{proposal, proposal_message}
use Rattle.vm_waiting.specs.SuspensionFrames.{leaves_by_node, lists_payload}
use Rattle.vm_request_laws.specs.Calls.{IsTypedValue}
use Rattle.vm_request_laws.specs.RequestBounds.{RequestFits}
use Rattle.vm_request_laws.proofs.Records.{output_fits}
use Rattle.vm_request_laws.proofs.Requests.{payload_read}
use Rattle.vm_request_laws.specs.Trees.{IsSpoken, TreeFits}
use Rattle.vm_output_laws.proofs.Told.{told_number}
use Rattle.vm_output_laws.specs.SentFrames.{Sent, Asks, Proposes, Awaits, Suspends, Fails, Ends, sent_payload, sent_frame, sent_message, SuspendedFits, SentFits, tree_told, suspension_told, frame_meant}
use Rattle.vm_output_laws.specs.OutputMeaning.{FramesAreRead, ErrorsAreMeant}
use Rattle.vm_request_laws.proofs.RequestBounds.{future_fits}
use Rattle.vm_output_laws.proofs.Fitting.{completions_listed, signals_listed, names_listed}

-- ---- payloads

-- with a sound payload the frame is what its fields mean
read_sound : (t : RecordType) (frame : List Field → Frame) (payload : List ℕ) → payload_fault LEVELS t payload ≡ None → read_as t frame payload ≡ frame (fields payload)
read_sound t frame payload sound = ap (λ (fault : Option Fault). unless_faulty fault (frame (fields payload))) sound

-- the payload of what fits is sound, and is read as that
spelled_read : {R : Type 0} (t : RecordType) (of : ℕ → List Field → R) (parts : R → List Part) (Fits : ℕ → R → Type 0) → Reads t of parts Fits
    → (one : R) (payload : List ℕ) → Fits LEVELS one → payload_of (parts one) ≡ payload → length payload < 2 ^ 32 → IsRead LEVELS t of payload one
spelled_read t of parts Fits reads one payload fits spelled short =
    subst (λ (p : List ℕ). IsRead LEVELS t of p one) spelled (reads LEVELS one fits (rw spelled (omega (arith, short))))

-- a request's: sound, and read as that request
pub record IsSound {R : Type 0} (t : RecordType) (of : ℕ → List Field → R) (request_of : R → Option Request) (request : Request) (payload : List ℕ) : Type 0 where
  pub sound : payload_fault LEVELS t payload ≡ None
  pub told : request_of (of LEVELS (fields payload)) ≡ Some request

sound_read : {R : Type 0} (t : RecordType) (of : ℕ → List Field → R) (request_of : R → Option Request) (request : Request) (payload : List ℕ)
    → request_read t of request_of payload ≡ Some request → IsSound t of request_of request payload
sound_read t of request_of request payload read = by_fault (payload_fault LEVELS t payload) refl
  where
    by_fault : (fault : Option Fault) → payload_fault LEVELS t payload ≡ fault → IsSound t of request_of request payload
    by_fault None is = record { sound = is; told = sym (ap (λ (f : Option Fault). unless_wrong f (request_of (of LEVELS (fields payload)))) is) ∙ read }
    by_fault (Some fault) is =
        let wrong : None ≡ Some request = sym (ap (λ (f : Option Fault). unless_wrong f (request_of (of LEVELS (fields payload)))) is) ∙ read in absurd cc

recorded : {R : Type 0} (t : RecordType) (of : ℕ → List Field → R) (request_of : R → Option Request) (request : Request) (payload : List ℕ)
    → request_read t of request_of payload ≡ Some request → read_as t (λ fs. command_or_broken (request_of (of LEVELS fs))) payload ≡ Frame.Command request
recorded t of request_of request payload read =
    let is = sound_read t of request_of request payload read in
    read_sound t (λ fs. command_or_broken (request_of (of LEVELS fs))) payload is.sound ∙ ap command_or_broken is.told

-- ---- frames

request_read_as : (version : Version) (request : Request) → RequestFits request → frame_of (version_number version) (sent_message version (Asks request)) ≡ frame_meant version (Asks request)
request_read_as version (Request.Sleep time n name) h = recorded records.SleepCommand sleep_command_of (λ one. Some (request_of_sleep one)) (Request.Sleep time n name) (request_payload (Request.Sleep time n name)) (payload_read (Request.Sleep time n name) h)
request_read_as version (Request.CallService call m n name) h = recorded records.CallCommand call_command_of (λ one. Some (request_of_call one)) (Request.CallService call m n name) (request_payload (Request.CallService call m n name)) (payload_read (Request.CallService call m n name) h)
request_read_as version (Request.Output value name) h = recorded records.OutputCommand output_command_of request_of_output (Request.Output value name) (request_payload (Request.Output value name)) (payload_read (Request.Output value name) h)
request_read_as version (Request.GetLazyState key n name) h = recorded records.GetLazyStateCommand get_lazy_state_command_of (λ one. Some (request_of_get_lazy_state one)) (Request.GetLazyState key n name) (request_payload (Request.GetLazyState key n name)) (payload_read (Request.GetLazyState key n name) h)
request_read_as version (Request.GetEagerState key value name) h = recorded records.GetEagerStateCommand get_eager_state_command_of request_of_get_eager_state (Request.GetEagerState key value name) (request_payload (Request.GetEagerState key value name)) (payload_read (Request.GetEagerState key value name) h)
request_read_as version (Request.GetLazyStateKeys n name) h = recorded records.GetLazyStateKeysCommand get_lazy_state_keys_command_of (λ one. Some (request_of_get_lazy_state_keys one)) (Request.GetLazyStateKeys n name) (request_payload (Request.GetLazyStateKeys n name)) (payload_read (Request.GetLazyStateKeys n name) h)
request_read_as version (Request.GetEagerStateKeys keys name) h = recorded records.GetEagerStateKeysCommand get_eager_state_keys_command_of request_of_get_eager_state_keys (Request.GetEagerStateKeys keys name) (request_payload (Request.GetEagerStateKeys keys name)) (payload_read (Request.GetEagerStateKeys keys name) h)
request_read_as version (Request.SetState key value name) h = recorded records.SetStateCommand set_state_command_of request_of_set_state (Request.SetState key value name) (request_payload (Request.SetState key value name)) (payload_read (Request.SetState key value name) h)
request_read_as version (Request.ClearState key name) h = recorded records.ClearStateCommand clear_state_command_of (λ one. Some (request_of_clear_state one)) (Request.ClearState key name) (request_payload (Request.ClearState key name)) (payload_read (Request.ClearState key name) h)
request_read_as version (Request.ClearAllState name) h = recorded records.ClearAllStateCommand clear_all_state_command_of (λ one. Some (request_of_clear_all_state one)) (Request.ClearAllState name) (request_payload (Request.ClearAllState name)) (payload_read (Request.ClearAllState name) h)
request_read_as version (Request.GetPromise key n name) h = recorded records.GetPromiseCommand get_promise_command_of (λ one. Some (request_of_get_promise one)) (Request.GetPromise key n name) (request_payload (Request.GetPromise key n name)) (payload_read (Request.GetPromise key n name) h)
request_read_as version (Request.PeekPromise key n name) h = recorded records.PeekPromiseCommand peek_promise_command_of (λ one. Some (request_of_peek_promise one)) (Request.PeekPromise key n name) (request_payload (Request.PeekPromise key n name)) (payload_read (Request.PeekPromise key n name) h)
request_read_as version (Request.CompletePromise key value n name) h = recorded records.CompletePromiseCommand complete_promise_command_of request_of_complete_promise (Request.CompletePromise key value n name) (request_payload (Request.CompletePromise key value n name)) (payload_read (Request.CompletePromise key value n name) h)
request_read_as version (Request.OneWayCall call time m name) h = recorded records.OneWayCallCommand one_way_call_command_of (λ one. Some (request_of_one_way_call one)) (Request.OneWayCall call time m name) (request_payload (Request.OneWayCall call time m name)) (payload_read (Request.OneWayCall call time m name) h)
request_read_as version (Request.SendSignal target key value name) h = recorded records.SendSignalCommand send_signal_command_of request_of_send_signal (Request.SendSignal target key value name) (request_payload (Request.SendSignal target key value name)) (payload_read (Request.SendSignal target key value name) h)
request_read_as version (Request.Run n name) h = recorded records.RunCommand run_command_of (λ one. Some (request_of_run one)) (Request.Run n name) (request_payload (Request.Run n name)) (payload_read (Request.Run n name) h)
request_read_as version (Request.AttachInvocation target n name) h = recorded records.AttachInvocationCommand attach_invocation_command_of request_of_attach_invocation (Request.AttachInvocation target n name) (request_payload (Request.AttachInvocation target n name)) (payload_read (Request.AttachInvocation target n name) h)
request_read_as version (Request.GetInvocationOutput target n name) h = recorded records.GetInvocationOutputCommand get_invocation_output_command_of request_of_get_invocation_output (Request.GetInvocationOutput target n name) (request_payload (Request.GetInvocationOutput target n name)) (payload_read (Request.GetInvocationOutput target n name) h)
request_read_as version (Request.CompleteAwakeable id value name) h = recorded records.CompleteAwakeableCommand complete_awakeable_command_of request_of_complete_awakeable (Request.CompleteAwakeable id value name) (request_payload (Request.CompleteAwakeable id value name)) (payload_read (Request.CompleteAwakeable id value name) h)

-- a tree that asks for no number in a version in which none does is what it is
swapped : (a b : Bool) → (a && b) ≡ (b && a)
swapped true true = refl
swapped true false = refl
swapped false true = refl
swapped false false = refl

numbered : (version : ℕ) (tree : AwaitTree NotificationId) (frame : Frame) → IsSpoken version tree → unless_numbered (lacks_feature version AtLeast) (Some (future_record tree)) frame ≡ frame
numbered version tree frame allowed =
    ap (λ (b : Bool). if b then Frame.Broken else frame)
    (ap (λ (b : Bool). lacks_feature version AtLeast && b) (told_number tree) ∙ swapped (lacks_feature version AtLeast) (has_number tree) ∙ allowed)

awaiting_read : (version : ℕ) (tree : AwaitTree NotificationId) → TreeFits tree → IsSpoken version tree → length (awaiting_on_payload tree false) < 2 ^ 32
    → awaiting_frame (lacks_feature version AtLeast) (awaiting_on_payload tree false) ≡ Frame.AwaitingOn (Some (tree_told tree))
awaiting_read version tree h allowed short =
    let lacks = lacks_feature version AtLeast in
    let is = spelled_read records.AwaitingOn awaiting_on_of awaiting_on_parts _ awaiting_on_reads (awaiting_on_record tree false) (awaiting_on_payload tree false)
    (record { level = omega arith; awaiting_on = future_fits (LEVELS - 1) tree h.leaves h.levels }) (awaiting_on_spelled tree false) short in
    read_sound records.AwaitingOn (λ fs. unless_numbered lacks (awaiting_on_of LEVELS fs).awaiting_on (Frame.AwaitingOn (awaited_tree (awaiting_on_of LEVELS fs)))) (awaiting_on_payload tree false) is.sound
    ∙ ap (λ (one : AwaitingOnMessage). unless_numbered lacks one.awaiting_on (Frame.AwaitingOn (awaited_tree one))) (sym is.value)
    ∙ numbered version tree (Frame.AwaitingOn (Some (tree_told tree))) allowed

abbrev lists_record : AwaitTree NotificationId → SuspensionMessageV6
lists_record tree = record { waiting_completions = leaves_by_node completions_in tree; waiting_signals = leaves_by_node signals_in tree; waiting_named_signals = leaves_by_node names_in tree }

suspension_read : (version : ℕ) (has_lists : Bool) (tree : AwaitTree NotificationId) → SuspendedFits has_lists tree → IsSpoken version tree → length (if has_lists then lists_payload tree else suspension_payload tree) < 2 ^ 32
    → suspension_frame has_lists (lacks_feature version AtLeast) (if has_lists then lists_payload tree else suspension_payload tree) ≡ Frame.Suspend (Some (suspension_told has_lists tree))
suspension_read version true tree h allowed short =
    let is = spelled_read records.SuspensionV6 suspension_v6_of suspension_v6_parts _ suspension_v6_reads (lists_record tree) (lists_payload tree)
    (record {
      level = omega arith;
      waiting_completions = completions_listed tree h;
      waiting_signals = signals_listed tree h;
      waiting_named_signals = names_listed tree h;
    }) (lists_spelled (lists_record tree)) short in
    read_sound records.SuspensionV6 (λ fs. Frame.Suspend (Some (suspension_of_lists (suspension_v6_of LEVELS fs)))) (lists_payload tree) is.sound ∙ ap (λ (one : SuspensionMessageV6). Frame.Suspend (Some (suspension_of_lists one))) (sym is.value)
suspension_read version false tree h allowed short =
    let is = spelled_read records.Suspension suspension_of suspension_parts _ suspension_reads (record { awaiting_on = Some (future_record tree) }) (suspension_payload tree)
    (record { level = omega arith; awaiting_on = future_fits (LEVELS - 1) tree h.leaves h.levels }) (suspensions_spelled tree) short in
    let lacks = lacks_feature version AtLeast in
    read_sound records.Suspension (λ fs. unless_numbered lacks (suspension_of LEVELS fs).awaiting_on (Frame.Suspend (suspension_of_tree (suspension_of LEVELS fs)))) (suspension_payload tree) is.sound
    ∙ ap (λ (one : SuspensionMessage). unless_numbered lacks one.awaiting_on (Frame.Suspend (suspension_of_tree one))) (sym is.value)
    ∙ numbered version tree (Frame.Suspend (Some (suspension_told false tree))) allowed

error_read : (error : ErrorMessage) → ErrorFits LEVELS error → length (payload_of (error_parts error)) < 2 ^ 32 → IsRead LEVELS records.Error error_of (payload_of (error_parts error)) error
error_read error h short = spelled_read records.Error error_of error_parts ErrorFits error_reads error (payload_of (error_parts error)) h refl short

error_frame_read : (version : ℕ) (error : ErrorMessage) → ErrorFits LEVELS error → length (payload_of (error_parts error)) < 2 ^ 32
    → read_as records.Error (λ fs. error_frame version (error_of LEVELS fs)) (payload_of (error_parts error)) ≡ error_frame version error
error_frame_read version error h short =
    let is = error_read error h short in
    read_sound records.Error (λ fs. error_frame version (error_of LEVELS fs)) (payload_of (error_parts error)) is.sound ∙ ap (error_frame version) (sym is.value)

-- ---- outcomes

outcome_fits : (value : NonEmptyValue) → IsTypedValue value → ChoiceFits proposal_choice (LEVELS - 1) (Some (proposed_record value))
outcome_fits (NonEmptyValue.Success bytes) h = tt
outcome_fits (NonEmptyValue.Failure failure) h = output_fits (NonEmptyValue.Failure failure) h

outcome_back : (value : NonEmptyValue) → outcome_told (proposed_record value) ≡ value
outcome_back (NonEmptyValue.Success bytes) = refl
outcome_back (NonEmptyValue.Failure failure) = output_told (NonEmptyValue.Failure failure)

-- whether an acknowledgement is asked for stands in the header, not in the payload
proposal_read : (asks : Bool) (n : ℕ) (value : NonEmptyValue) → n < 2 ^ 32 → IsTypedValue value → length (payload_of (propose_run_completion_parts (proposal n value))) < 2 ^ 32
    → read_as records.ProposeRunCompletion (λ fs. outcome_or_broken asks (proposal_told (propose_run_completion_of LEVELS fs))) (payload_of (propose_run_completion_parts (proposal n value))) ≡ Frame.RunOutcome n value asks
proposal_read asks n value small typed short =
    let payload = payload_of (propose_run_completion_parts (proposal n value)) in
    let is = spelled_read records.ProposeRunCompletion propose_run_completion_of propose_run_completion_parts ProposeRunCompletionFits propose_run_completion_reads (proposal n value) payload
    (record { level = omega arith; result_completion_id = small; result = outcome_fits value typed }) refl short in
    read_sound records.ProposeRunCompletion (λ fs. outcome_or_broken asks (proposal_told (propose_run_completion_of LEVELS fs))) payload is.sound
    ∙ ap (λ (one : ProposeRunCompletionMessage). outcome_or_broken asks (proposal_told one)) (sym is.value)
    ∙ ap (λ (told : NonEmptyValue). Frame.RunOutcome n told asks) (outcome_back value)

proposal_front : (version : Version) (n : ℕ) (value : NonEmptyValue) (rest : List ℕ) → length (payload_of (propose_run_completion_parts (proposal n value))) < 2 ^ 32
    → item_at (sent_frame version (Proposes n value) ++ rest) ≡ Some (message (sent_message version (Proposes n value)), rest)
proposal_front version n value rest short =
    item_at-spelled (proposal_message version (proposal n value)) rest (record { ty = named_is_wire types.ProposeRunCompletion refl; flag = refl; len = refl; fits = short })

-- ---- all

end_sound : payload_fault LEVELS records.End [] ≡ None
end_sound = (end_reads LEVELS (record {}) (record { level = omega arith }) (omega arith)).sound

pub read_as_meant : (version : Version) (sent : Sent) → SentFits version sent → frame_of (version_number version) (sent_message version sent) ≡ frame_meant version sent
read_as_meant version (Asks request) h = request_read_as version request h.told
read_as_meant version (Proposes n value) h = proposal_read (has_feature (version_number version) Acknowledgement) n value h.told.0 h.told.1 h.short
read_as_meant version (Awaits tree) h = awaiting_read (version_number version) tree h.told.0 h.told.1 h.short
read_as_meant version (Suspends tree) h = suspension_read (version_number version) (lacks_feature (version_number version) TellsTrees) tree h.told.0 h.told.1 h.short
read_as_meant version (Fails error) h = error_frame_read (version_number version) error h.told h.short
read_as_meant version Ends h = read_sound records.End (λ fs. Frame.End) [] end_sound

named : (request : Request) → is_named (request_type request) ≡ true
named (Request.Output value name) = refl
named _ = refl

front_is : (version : Version) (sent : Sent) (rest : List ℕ) → SentFits version sent → item_at (sent_frame version sent ++ rest) ≡ Some (message (sent_message version sent), rest)
front_is version (Asks request) rest h = item_at-frame_bytes (request_type request) (request_payload request) rest (named request) h.short
front_is version (Proposes n value) rest h = proposal_front version n value rest h.short
front_is version (Awaits tree) rest h = item_at-frame_bytes types.AwaitingOn (sent_payload version (Awaits tree)) rest refl h.short
front_is version (Suspends tree) rest h = item_at-frame_bytes types.Suspension (sent_payload version (Suspends tree)) rest refl h.short
front_is version (Fails error) rest h = item_at-frame_bytes types.Error (sent_payload version (Fails error)) rest refl h.short
front_is version Ends rest h = item_at-frame_bytes types.End [] rest refl h.short

pub frames_are_read : FramesAreRead
frames_are_read version sent rest h = record { front = front_is version sent rest h; frame = read_as_meant version sent h }

pub errors_are_meant : ErrorsAreMeant
errors_are_meant version error h = record {
  read = error_read (told_error error) h.told h.short;
  frame = read_as_meant version (Fails (told_error error)) h;
}
