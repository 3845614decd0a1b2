-- The words that the laws of an attempt name: its invocation and run, its live attempt, its abstract machine.
pub use Rattle.attempt_model.specs.Attempts.{with_entry, with_entries}
pub use Rattle.attempt_model.specs.Machine.{Machine, machine_at_start, with_arrival, next_slot, Reply, reply_to, Answered, AwaitsTree, Finished, AwaitsChild, FailedBy, Refused}
pub use Rattle.attempt_model.specs.Requests.{Commands, PutState, put_one, put_all, requests_by}
pub use Rattle.attempt_model.specs.Results.{Slots, slot_of}
pub use Rattle.attempt_model.specs.Simulation.{RequestsStand, RepliesAsRun, AreOfKind, Fits, next_call, AnswersNext}
pub use Rattle.vm_request_laws.specs.Trees.{SlotsFit}
pub use Rattle.input_laws.specs.Message.{InputMessage, CarriesInput, piece_of, arrival_carried, arrivals_carried, CarriesRequest, CarriesArrival, CarriesOutcome, requests_carried}
pub use Rattle.journal_model.specs.Attempt.{input_bytes, arrivals_within}
pub use Rattle.journal_model.specs.Await.{awaited_tree, child_of}
pub use Rattle.journal_model.specs.AwaitTree.{AwaitTree}
pub use Rattle.journal_model.specs.Cause.{keys_of}
pub use Rattle.journal_model.specs.Event.{Frame}
pub use Rattle.journal_model.specs.History.{answers_of, Step, requests_of, completions_of, signals_of, next_completion}
pub use Rattle.journal_model.specs.Journal.{Entry, Recorded, Arrived, completion}
pub use Rattle.journal_model.specs.Notification.{Bytes, Text, Arrival}
pub use Rattle.journal_model.specs.Refusal.{Refusal, refusal_of}
pub use Rattle.journal_model.specs.Request.{Request}
pub use Rattle.journal_model.specs.Run.{Handler, Invocation, Progress, Ending, GoesOn, Waits, run}
pub use Rattle.journal_model.specs.State.{StartState, StateMap, knows_key, knows_all_keys, known_value, known_keys, state_after}
pub use Rattle.journal_model.specs.declared.call.Answer.{Answer}
pub use Rattle.journal_model.specs.declared.call.Call.{Call}
pub use Rattle.journal_model.specs.declared.handler.Input.{Input}
pub use Rattle.journal_model.specs.declared.notification.NotificationId.{NotificationId}
pub use Rattle.journal_model.specs.declared.options.ImplicitCancellationOption.{ImplicitCancellationOption}
pub use Rattle.journal_model.specs.declared.options.RunOptions.{RunOptions}
pub use Rattle.journal_model.specs.declared.options.SignalDelivery.TheVariants.{Queued}
pub use Rattle.live_laws.specs.AskedArrivals.{are_by_text, AsksByText}
pub use Rattle.live_laws.specs.AttemptWithMachine.{attempt_begun, AttemptInRun, HasReadJournal, handed_bytes, after_reading, after_turn}
pub use Rattle.live_laws.specs.StartFrame.{AttemptStart, ShowsStart}
pub use Rattle.live_laws.specs.MachinePosition.{entries_carried, with_messages, IsMachineAt, IsInRun}
pub use Rattle.live_laws.specs.Replies.{SendsReply, SendsWaiting, goes_on}
pub use Rattle.live_laws.specs.MachineTurn.{MakesTurns}
pub use Rattle.protocol_errors.specs.Code.{internal, unsupported_feature, journal_mismatch}
pub use Rattle.protocol_errors.specs.Error.{plain_error}
pub use Rattle.protocol_errors.specs.declared.error.Error.{Error}
pub use Rattle.protocol_stream.specs.Item.{item_at, message}
pub use Rattle.protocol_types.specs.Version.{version_content_type, version_number}
pub use Rattle.protocol_types.specs.declared.version.Version.{Version}
pub use Rattle.vm_request_laws.specs.Calls.{IsTypedCall}
pub use Rattle.vm_request_laws.specs.MadeRequests.{IsTextId}
pub use Rattle.run_laws.specs.Keys.{HasTextKeys}
pub use Rattle.live_laws.specs.Live.{TurnsOfRun}
pub use Rattle.live_laws.specs.RequestsInFlight.{requests_sent}
pub use Rattle.live_laws.specs.TurnWrites.{IsNote, notes}
pub use Rattle.vm_feeding.specs.Handles.{started_id}
pub use Rattle.vm_types.specs.Options.{run_options}
pub use Rattle.vm_types.specs.declared.options.VMOptions.{VMOptions}
