-- What a machine is told: bytes, that no more come, an error of its host; its input is read.
use Rattle.std.proofs.Common.{◌≡◌, ◌≤◌, ◌+◌, ◌*◌, ◌^◌, min, drop, arith, inl, inr, ℕ, ◌-◌, nat_lt, if◌then◌else◌, Bool, true, false, List, [], ◌∷◌, Option, Some, None, Result, Ok, Err, refl, sym, ap, subst, ◌∙◌}
use Rattle.std.specs.declared.alloc.AllocError.{AllocError}
use Rattle.journal_model.specs.declared.handler.Input.{Input}
use Rattle.journal_model.specs.declared.options.SignalDelivery.{SignalDelivery}
use Rattle.journal_model.specs.declared.value.NonEmptyValue.{NonEmptyValue}
use Rattle.protocol_differences.specs.declared.relationship.CommandRelationship.{CommandRelationship}
use Rattle.protocol_errors.specs.declared.error.Error.{Error}
use Rattle.protocol_records.specs.declared.input_command.InputCommandMessage.{InputCommandMessage}
use Rattle.protocol_records.specs.declared.start.StartMessage.{StartMessage}
use Rattle.protocol_stream.specs.Header.{message_type}
use Rattle.protocol_stream.specs.declared.decoder.DecodingError.{DecodingError}
use Rattle.protocol_stream.specs.declared.decoder.RawMessage.{RawMessage}
use Rattle.protocol_types.specs.declared.message_type.MessageType.TheVariants.{InputCommand}
use Rattle.vm_awaits.specs.Views.{AsyncResults, delivery_of, results_of}
use Rattle.vm_feeding.specs.InputAnswer.{Gives, ReadsAs, AnswersReading, ReadsInputs, IsInputRead}
use Rattle.vm_feeding.specs.declared.reading.Reading.{Reading}
use Rattle.vm_feeding.specs.declared.reading.Reading.TheVariants as readings
use Rattle.vm_calls.specs.Active.{has_left, still_replays}
use Rattle.vm_commands.specs.RecordedCommands.{commands_of}
use Rattle.vm_calls.specs.declared.active.Active.{Active}
use Rattle.vm_context.specs.Eager.{KnownState}
use Rattle.vm_context.specs.StateKnowledge.{KnowsState, start_state_of}
use Rattle.vm_context.specs.Output.{all_taken}
use Rattle.vm_machine.specs.AcknowledgementReceipt.{ComesAcknowledgement, ComesOutcome, TakesTold}
use Rattle.vm_machine.specs.Answers.{active_stage, stage_of}
use Rattle.vm_machine.specs.Entries.{ComesCommand, ComesNotification}
use Rattle.vm_machine.specs.MessageKinds.{incoming_of}
use Rattle.vm_machine.specs.Input.{LeavesInput, input_counted, skipped, at_input}
use Rattle.vm_context.specs.Journal.{JournalCounts}
use Rattle.vm_types.specs.declared.options.JournalReplay.{JournalReplay}
use Rattle.attempt_model.specs.Children.{Child}
use Rattle.vm_awaits.specs.Children.{AreMade}
use Rattle.vm_machine.specs.StartReceipt.{ComesStart}
use Rattle.vm_machine.specs.declared.entry_error.EntryError.{EntryError}
use Rattle.vm_machine.specs.declared.incoming.Incoming.{Incoming}
use Rattle.vm_machine.specs.declared.incoming.Incoming.TheVariants as incoming
use Rattle.vm_machine.specs.declared.input.InputError.{InputError}
use Rattle.vm_start.specs.Phases.{phase_after_entry}
use Rattle.vm_start.specs.declared.phase.Phase.{Phase}
use Rattle.vm_start.specs.declared.phase.Phase.TheVariants as phases
use Rattle.vm_feeding.specs.MachineQueries.{TakesOutput}
use Rattle.vm_feeding.specs.EndOfInput.{is_waiting, ClosesWhere, ClosesInput, input_closed}
use Rattle.vm_feeding.specs.UnansweredFailure.{HasFailed}
use Rattle.vm_feeding.specs.InputBytes.{has_failed, with_bytes, with_input, TakesEach, StopsAt, RestsWhere, IsFed}
use Rattle.vm_machine.specs.CallAdmission.{is_active, IsElsewhere}
use Rattle.vm_machine.specs.MessageReceipt.{TakesMessage, TakesAs, Receives}
use Rattle.vm_machine.specs.declared.machine_state.MachineState.{MachineState}
use Rattle.vm_feeding.specs.HostErrors.{IsErrorTold}
use Rattle.vm_start.specs.Starts.{pairs_of}
use Rattle.vm_runs.specs.Runs.{Runs, outcome_at}
use Rattle.vm_types.specs.declared.options.VMOptions.{VMOptions}
use Rattle.vm_core_laws.proofs.Keeping.{Keeps, made_like, counted_like, Replays, StandsIn, Stands, moved, when_active, active_again, IsLike, keeps_like, replays_like, like_again, results_like, output_like, failed, steps_stand}

has_failed_stands : (cause : Result Error AllocError) (old new : MachineState) → HasFailed cause old new → Stands new
has_failed_stands cause old new is = failed cause old is.answer new is.fails

-- ---- entries

-- one that replays, of which nothing may be left
replays_all : (active : Active) (messages : List RawMessage) → active.commands.items ≡ messages → active.is_replaying ≡ true → Replays active
replays_all active [] none replaying = inl (record { replaying = replaying; none = none })
replays_all active (message ∷ messages) is replaying = inr (replaying ∙ sym (ap (λ (items : List RawMessage). has_left (commands_of items)) is))

waits_or_goes : (more : Bool) (left : ℕ) (delivery : SignalDelivery) (active : Active) → Keeps delivery active → active.is_replaying ≡ true
    → StandsIn (if more then phases.WaitingReplayEntries left else phases.Active) delivery active
waits_or_goes true left delivery active keeps replaying = (keeps, replaying)
waits_or_goes false left delivery active keeps replaying = (keeps, replays_all active active.commands.items refl replaying)

waits_on : (left : ℕ) (delivery : SignalDelivery) (active : Active) → Keeps delivery active → active.is_replaying ≡ true → StandsIn (phase_after_entry left) delivery active
waits_on left delivery active keeps replaying = waits_or_goes (nat_lt 1 left) (left - 1) delivery active keeps replaying

at_phase : (old new : Phase) (delivery : SignalDelivery) (active : Active) → new ≡ old → StandsIn old delivery active → StandsIn new delivery active
at_phase old new delivery active is stands = subst (λ (p : Phase). StandsIn p delivery active) (sym is) stands

keeps_but_commands : (delivery : SignalDelivery) (old new : Active) → new ≡ record old { commands = new.commands } → Keeps delivery old → Keeps delivery new
keeps_but_commands delivery old new is keeps = record {
  start = keeps.start;
  done = keeps.done;
  state = subst (λ (state : KnownState). KnowsState state keeps.start keeps.done) (sym (ap (λ (a : Active). a.state) is)) keeps.state;
  opened = ap (λ (a : Active). a.output.is_closed) is ∙ keeps.opened;
  delivers = ap (λ (a : Active). delivery_of a.results) is ∙ keeps.delivers;
  made = made_like old new (ap (λ (a : Active). a.journal.completions) is) (ap (λ (a : Active). a.children) is) keeps.made;
  counted = counted_like old new (ap (λ (a : Active). a.journal.completions) is) keeps.counted;
}

command_stands : (message : RawMessage) (done : Unit {0}) (phase : Phase) (delivery : SignalDelivery) (old : Active) (phase' : Phase) (new : Active) → ComesCommand message phase old (Ok done) phase' new
    → StandsIn phase delivery old → StandsIn phase' delivery new
command_stands message done (phases.WaitingReplayEntries left) delivery old phase' new comes stands =
    let is = comes.1.1 in
    at_phase (phase_after_entry left) phase' delivery new comes.0 (waits_on left delivery new (keeps_but_commands delivery old new is stands.0) (ap (λ (a : Active). a.is_replaying) is ∙ stands.1))
command_stands message done phases.WaitingStart delivery old phase' new comes stands = let wrong = comes.0 in cc
command_stands message done phases.Active delivery old phase' new comes stands = let wrong = comes.0 in cc
command_stands message done phases.Closed delivery old phase' new comes stands = let wrong = comes.0 in cc
command_stands message done (phases.Failed error) delivery old phase' new comes stands = let wrong = comes.0 in cc

notification_stands : (message : RawMessage) (done : Unit {0}) (phase : Phase) (delivery : SignalDelivery) (old : Active) (phase' : Phase) (new : Active) → ComesNotification message phase old (Ok done) phase' new
    → StandsIn phase delivery old → StandsIn phase' delivery new
notification_stands message done (phases.WaitingReplayEntries left) delivery old phase' new comes stands =
    let like : IsLike old new = results_like old new comes.1.others (ap (λ (results : AsyncResults). results.delivery) comes.1.queues.queued) in
    at_phase (phase_after_entry left) phase' delivery new comes.0 (waits_on left delivery new (keeps_like delivery old new like stands.0) (like.replaying ∙ stands.1))
notification_stands message done phases.Active delivery old phase' new comes stands =
    let like : IsLike old new = results_like old new comes.1.others (ap (λ (results : AsyncResults). results.delivery) comes.1.queues.queued) in
    at_phase phases.Active phase' delivery new comes.0 (keeps_like delivery old new like stands.0, replays_like old new like stands.1)
notification_stands message done phases.Closed delivery old phase' new comes stands = at_phase phases.Closed phase' delivery new comes.1.0 tt
notification_stands message done phases.WaitingStart delivery old phase' new comes stands = let wrong = comes.0 in cc
notification_stands message done (phases.Failed error) delivery old phase' new comes stands = let wrong = comes.0 in cc

-- an acknowledgement that is taken changes what has come, and nothing else of what is kept
taken_like : (told : Result ℕ EntryError) (runs runs' : Runs) (done : Unit {0}) (old new : Active) → TakesTold told runs (results_of old.results) (Ok done) runs' (results_of new.results)
    → new ≡ record old { results = new.results } → IsLike old new
taken_like (Ok number) runs runs' done old new takes is = by_kept (outcome_at runs.cached number) takes.comes
  where
    by_kept : (kept : Option NonEmptyValue) → ComesOutcome number kept (results_of old.results) (Ok done) (results_of new.results) → IsLike old new
    by_kept (Some value) queued = results_like old new is (ap (λ (results : AsyncResults). results.delivery) queued)
    by_kept None wrong = absurd wrong
taken_like (Err error) runs runs' done old new takes is = let wrong = takes.0 in cc

acknowledgement_stands : (message : RawMessage) (done : Unit {0}) (phase : Phase) (delivery : SignalDelivery) (runs : Runs) (old : Active) (runs' : Runs) (new : Active)
    → ComesAcknowledgement message (stage_of phase old.is_replaying) runs old (Ok done) runs' new → StandsIn phase delivery old → StandsIn phase delivery new
acknowledgement_stands message done phases.Active delivery runs old runs' new comes stands = by_replaying old.is_replaying comes
  where
    by_replaying : (replaying : Bool) → ComesAcknowledgement message (active_stage replaying) runs old (Ok done) runs' new → StandsIn phases.Active delivery new
    by_replaying true comes = let wrong = comes.0 in cc
    by_replaying false comes =
        let like : IsLike old new = taken_like comes.told runs runs' done old new comes.takes comes.others in
        (keeps_like delivery old new like stands.0, replays_like old new like stands.1)
acknowledgement_stands message done phases.Closed delivery runs old runs' new comes stands = tt
acknowledgement_stands message done phases.WaitingStart delivery runs old runs' new comes stands = let wrong = comes.0 in cc
acknowledgement_stands message done (phases.WaitingReplayEntries left) delivery runs old runs' new comes stands = let wrong = comes.0 in cc
acknowledgement_stands message done (phases.Failed error) delivery runs old runs' new comes stands = let wrong = comes.0 in cc

start_stands : (message : RawMessage) (start : StartMessage) (phase : Phase) (delivery : SignalDelivery) (old : Active) (phase' : Phase) (new : Active) → ComesStart message phase old (Ok start) phase' new
    → StandsIn phase delivery old → StandsIn phase' delivery new
start_stands message start phases.WaitingStart delivery old phase' new comes stands =
    let is = comes.others in
    let begins = comes.reads.begins in
    at_phase (phases.WaitingReplayEntries start.known_entries) phase' delivery new comes.waits (
      record {
        start = start_state_of comes.reads.whole.partial_state (pairs_of comes.reads.whole.state_map);
        done = [];
        state = subst (λ (state : KnownState). KnowsState state (start_state_of comes.reads.whole.partial_state (pairs_of comes.reads.whole.state_map)) []) (sym (ap (λ (a : Active). a.state) is)) begins.knows;
        opened = ap (λ (a : Active). a.output.is_closed) is ∙ stands.0.opened;
        delivers = ap (λ (a : Active). delivery_of a.results) is ∙ stands.0.delivers;
        made = made_like old new (ap (λ (a : Active). a.journal.completions) is) (ap (λ (a : Active). a.children) is) stands.0.made;
        counted = counted_like old new (ap (λ (a : Active). a.journal.completions) is) stands.0.counted;
      },
      ap (λ (a : Active). a.is_replaying) is ∙ stands.1,
    )
start_stands message start (phases.WaitingReplayEntries left) delivery old phase' new comes stands = let wrong = comes.0 in cc
start_stands message start phases.Active delivery old phase' new comes stands = let wrong = comes.0 in cc
start_stands message start phases.Closed delivery old phase' new comes stands = let wrong = comes.0 in cc
start_stands message start (phases.Failed error) delivery old phase' new comes stands = let wrong = comes.0 in cc

-- ---- messages

-- the phase and what is kept for calls have changed, and the options have not
stands_at : (old new : MachineState) → new.options ≡ old.options → (StandsIn old.phase old.options.signal_delivery old.active → StandsIn new.phase old.options.signal_delivery new.active)
    → Stands old → Stands new
stands_at old new same goes stands = subst (λ (options : VMOptions). StandsIn new.phase options.signal_delivery new.active) (sym same) (goes stands)

received : (message : RawMessage) (kind : Incoming) (done : Unit {0}) (old new : MachineState) → Receives message kind old (Ok done) new → Stands old → Stands new
received message incoming.Start done old new is stands =
    stands_at old new (ap (λ (vm : MachineState). vm.options) is.others) (start_stands message is.start old.phase old.options.signal_delivery old.active new.phase new.active is.comes) stands
received message incoming.Command done old new is stands =
    stands_at old new (ap (λ (vm : MachineState). vm.options) is.others) (command_stands message done old.phase old.options.signal_delivery old.active new.phase new.active is.comes) stands
received message incoming.Notification done old new is stands =
    stands_at old new (ap (λ (vm : MachineState). vm.options) is.others) (notification_stands message done old.phase old.options.signal_delivery old.active new.phase new.active is.comes) stands
received message incoming.EphemeralAnswer done old new is stands = moved (record old { reads = new.reads }) new is.others stands
received message incoming.RunAcknowledgement done old new is stands =
    stands_at old new (ap (λ (vm : MachineState). vm.options) is.others)
    (λ stands.
    at_phase old.phase new.phase old.options.signal_delivery new.active (ap (λ (vm : MachineState). vm.phase) is.others)
    (acknowledgement_stands message done old.phase old.options.signal_delivery old.runs old.active new.runs new.active is.comes stands)) stands
received message incoming.Other done old new is stands = let wrong = is.0 in cc

taken_as : (message : RawMessage) (kind : Incoming) (old : MachineState) (made : Result (Unit {0}) EntryError) (between new : MachineState) → Receives message kind old made between
    → TakesAs between made new → Stands old → Stands new
taken_as message kind old (Ok done) between new receives takes stands = moved between new takes (received message kind done old between receives stands)
taken_as message kind old (Err error) between new receives takes stands = failed takes.cause between takes.answer new takes.fails

taken_stands : (message : RawMessage) (old new : MachineState) → TakesMessage message old new → Stands old → Stands new
taken_stands message old new takes stands = taken_as message (incoming_of (message_type message.header)) old takes.received takes.between new takes.receives takes.takes stands

each_stands : (messages : List RawMessage) (old new : MachineState) → TakesEach messages old new → Stands old → Stands new
each_stands [] old new is stands = moved old new is stands
each_stands (message ∷ before) old new (between, each, next) stands =
    taken_stands message (with_bytes next.rest between) new next.takes (each_stands before old between each stands)

-- ---- bytes

stops_stands : (next : Result (Option RawMessage) DecodingError) (between new : MachineState) → StopsAt next between new → Stands between → Stands new
stops_stands (Ok None) between new stops stands = moved between new stops stands
stops_stands (Ok (Some message)) between new stops stands = absurd stops
stops_stands (Err error) between new stops stands = has_failed_stands stops.cause between new stops.fails

rests_stands : (is_over : Bool) (old new : MachineState) → RestsWhere is_over old new → Stands old → Stands new
rests_stands true old new is stands = moved old new is stands
rests_stands false old new stops stands = stops_stands stops.next (with_bytes stops.rest old) new stops.stops stands

pub fed_stands : (bytes : List ℕ) (old new : MachineState) → IsFed bytes old new → Stands old → Stands new
fed_stands bytes old new (inl takes) stands =
    rests_stands (has_failed takes.between.phase) takes.between new takes.rests (each_stands takes.messages (with_input bytes old) takes.between takes.each stands)
fed_stands bytes old new (inr lacks) stands = has_failed_stands (Err lacks.refused) old new lacks.fails

-- ---- the end of the input, errors of the host, and what is taken

closes_stands : (waits : Bool) (closed new : MachineState) → ClosesWhere waits closed new → Stands closed → Stands new
closes_stands true closed new is stands = has_failed_stands _ closed new is
closes_stands false closed new is stands = moved closed new is stands

pub closed_stands : (old new : MachineState) → ClosesInput old new → Stands old → Stands new
closed_stands old new is stands = closes_stands (is_waiting old.phase) (input_closed old) new is stands

pub told_stands : (error : Error) (relationship : Option CommandRelationship) (old new : MachineState) → IsErrorTold error relationship old new → Stands new
told_stands error relationship old new told = has_failed_stands told.cause old new told.fails

pub output_stands : (old : MachineState) (result : Result (List ℕ) AllocError) (new : MachineState) → TakesOutput old result new → Stands old → Stands new
output_stands old (Ok bytes) new is stands =
    like_again old (record old.active { output = all_taken old.active.output }) new is.1 (output_like old.active (record old.active { output = all_taken old.active.output }) refl refl) stands
output_stands old (Err refused) new is stands = moved old new is stands

-- ---- the input

still_has : (messages : List RawMessage) → still_replays true messages ≡ has_left (commands_of messages)
still_has [] = refl
still_has (message ∷ messages) = refl

-- no fewer completions are counted behind the input, and so many at most
counts_behind : (replay : JournalReplay) (messages : List RawMessage) (old new : Active) → new.journal ≡ input_counted replay messages (at_input old) → old.journal.completions ≤ 2 ^ 32
    → (old.journal.completions ≤ new.journal.completions) × (new.journal.completions ≤ 2 ^ 32)
counts_behind JournalReplay.Enabled messages old new is most =
    let same : new.journal.completions ≡ old.journal.completions = ap (λ (j : JournalCounts). j.completions) is in (omega (arith, same), omega (arith, same, most))
counts_behind JournalReplay.Disabled messages old new is most =
    let same : new.journal.completions ≡ min (old.journal.completions + 2 * skipped messages) (2 ^ 32) = ap (λ (j : JournalCounts). j.completions) is in
    (omega (arith, same, most), omega (arith, same, most))

still_made : (children : List Child) (count more : ℕ) → count ≤ more → AreMade count children → AreMade more children
still_made [] count more less made = tt
still_made (child ∷ children) count more less made = let first = made.0 in (omega (arith, less, first), still_made children count more less made.1)

module _ (old between : MachineState) (others : between ≡ record old { active = between.active }) (calls : is_active old.phase ≡ true) (stands : Stands old) where
  -- what is left is what is replayed
  leaves_stands : (replaying : old.active.is_replaying ≡ true) (start : StartMessage) (read : Result InputCommandMessage InputError) (reading : Reading) (result : Result Input Error) (new : MachineState)
      → LeavesInput old.options.journal_replay old.active read between.active → Gives old.version old.options start between.active read reading → AnswersReading reading between result new → Stands new
  leaves_stands replaying start (Ok message) (readings.Given input) result new leaves gives answers =
      let kept = when_active old.phase old.options.signal_delivery old.active calls stands in
      let counts = counts_behind old.options.journal_replay (drop 1 old.active.commands.items) old.active between.active leaves.journal kept.0.counted in
      active_again old between.active new (answers.1 ∙ others) calls (
      record {
        start = kept.0.start;
        done = kept.0.done;
        state = subst (λ (state : KnownState). KnowsState state kept.0.start kept.0.done) (sym (ap (λ (a : Active). a.state) leaves.others)) kept.0.state;
        opened = ap (λ (a : Active). a.output.is_closed) leaves.others ∙ kept.0.opened;
        delivers = ap (λ (a : Active). delivery_of a.results) leaves.others ∙ kept.0.delivers;
        made = subst (λ (cs : List Child). AreMade between.active.journal.completions cs) (sym (ap (λ (a : Active). a.children) leaves.others))
            (still_made old.active.children old.active.journal.completions between.active.journal.completions (counts.0) kept.0.made);
        counted = counts.1;
      }
      )
      (inr (leaves.replaying ∙ ap (λ (replays : Bool). still_replays replays between.active.commands.items) replaying ∙ still_has between.active.commands.items))
  leaves_stands replaying start (Ok message) (readings.Fails cause) (Err told) new leaves gives answers = failed cause between told new answers
  leaves_stands replaying start (Ok message) (readings.Fails cause) (Ok input) new leaves gives answers = absurd answers
  leaves_stands replaying start (Ok message) readings.Elsewhere result new leaves gives answers = absurd gives
  leaves_stands replaying start (Err error) (readings.Given input) result new leaves gives answers = absurd gives
  leaves_stands replaying start (Err error) (readings.Fails cause) (Err told) new leaves gives answers = failed cause between told new answers
  leaves_stands replaying start (Err error) (readings.Fails cause) (Ok input) new leaves gives answers = absurd answers
  leaves_stands replaying start (Err error) readings.Elsewhere result new leaves gives answers = absurd gives

  elsewhere_stands : (reading : Reading) (result : Result Input Error) (new : MachineState) → reading ≡ readings.Elsewhere → AnswersReading reading between result new → Stands new
  elsewhere_stands readings.Elsewhere (Err told) new is answers = failed answers.cause _ told new answers.fails
  elsewhere_stands readings.Elsewhere (Ok input) new is answers = absurd answers
  elsewhere_stands (readings.Given input) result new is answers = cc
  elsewhere_stands (readings.Fails cause) result new is answers = cc

  read_where : (replays : Bool) (start : Option StartMessage) (reading : Reading) (result : Result Input Error) (new : MachineState) → old.active.is_replaying ≡ replays
      → ReadsAs old.version old.options replays start old.active reading between.active → AnswersReading reading between result new → Stands new
  read_where true (Some start) reading result new is reads answers = leaves_stands is start reads.read reading result new reads.reads.leaves reads.gives answers
  read_where true None reading result new is reads answers = elsewhere_stands reading result new reads.0 answers
  read_where false start reading result new is reads answers = elsewhere_stands reading result new reads.0 answers

pub read_stands : (old : MachineState) (result : Result Input Error) (new : MachineState) → IsInputRead old result new → Stands old → Stands new
read_stands old result new steps stands = steps_stand ReadsInputs (IsElsewhere 0 InputCommand []) old new stands make miss None result steps where
  make : (result : Result Input Error) → is_active old.phase ≡ true → ReadsInputs old result new → Stands new
  make result calls is = read_where old is.between is.others calls stands old.active.is_replaying old.start is.reading result new refl is.reads is.answers

  miss : (told : Error) → IsElsewhere 0 InputCommand [] old told new → Stands new
  miss told is = failed is.cause _ told new is.fails
