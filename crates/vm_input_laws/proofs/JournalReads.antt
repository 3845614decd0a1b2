-- One that has its start reads on.
use Rattle.std.proofs.Common.{◌≡◌, ◌⊎◌, inl, inr, ◌∙◌, ◌+◌, false, List, [], ◌∷◌, ◌++◌, length, Option, Some, None, refl, sym, ap, subst}
use Rattle.std.specs.List.{AllByRecursion}
use Rattle.protocol_records.specs.declared.start.StartMessage.{StartMessage}
use Rattle.protocol_stream.specs.declared.decoder.RawMessage.{RawMessage}
use Rattle.journal_model.specs.declared.value.NonEmptyValue.{NonEmptyValue}
use Rattle.input_laws.specs.Message.{InputMessage, CarriesInput, CarriesRequest, CarriesArrival, CarriesOutcome}
use Rattle.attempt_model.specs.Machine.{Machine, machine_at_start}
use Rattle.body_laws.specs.Bodies.{Executor}
use Rattle.replay_laws.specs.AttemptWithBodies.{reads_messages}
use Rattle.vm_runs.specs.Runs.{Runs, no_runs}
use Rattle.vm_runs.specs.KeptBodies.{KeepsBodies}
use Rattle.live_laws.specs.StartFrame.{AttemptStart}
use Rattle.live_laws.specs.MachinePosition.{with_messages}
use Rattle.vm_calls.specs.Active.{Sees}
use Rattle.vm_machine.specs.StateBeforeInput.{Gathers}
use Rattle.vm_start.specs.declared.phase.Phase.{Phase}
use Rattle.vm_start.specs.declared.phase.Phase.TheVariants as phases
use Rattle.vm_machine.specs.declared.machine_state.MachineState.{MachineState}
use Rattle.vm_input_laws.specs.Memory.{FailsForMemory}
use Rattle.vm_input_laws.specs.Messages.{MessageFits, phase_then, MessagesAreKept}
use Rattle.vm_input_laws.specs.InputMessages.{gathered_all, commands_in, phase_behind, runs_behind, AreWaitedFor, KnowsRuns, AreKept, TakesFirstMessages}
use Rattle.vm_input_laws.proofs.Inputs.{gathered_append, commands_append, phase_append, stays_active, well_then, inputs_are_kept}
use Rattle.vm_input_laws.specs.MachineFeed.{has_failed}
use Rattle.vm_input_laws.specs.InputPhases.{IsArrival, Kind, phase_kind, HasStarted, IsInputAsked}
use Rattle.vm_input_laws.specs.Laws.{KnowsNoRuns, ReadsOn, JournalsAreRead, ReadsArrivals, ArrivalsAreRead}
use Rattle.vm_input_laws.proofs.Messages.{all_behind, all_in_front, arrivals_waited_for, waited_behind, input_waited_for, arrivals_gathered}

kind_kept : (kind : Kind) (old new : MachineState) → new ≡ record old { decoder = new.decoder; phase = new.phase; active = new.active; runs = new.runs } → phase_kind old ≡ kind → phase_kind new ≡ kind
kind_kept kind old new others same = ap phase_kind others ∙ same

-- where no run is kept, none is whatever is acknowledged
none_behind : (messages : List InputMessage) → runs_behind messages no_runs ≡ no_runs
none_behind [] = refl
none_behind (CarriesInput new ∷ messages) = none_behind messages
none_behind (CarriesRequest request ∷ messages) = none_behind messages
none_behind (CarriesArrival ty arrival ∷ messages) = none_behind messages
none_behind (CarriesOutcome number value ∷ messages) = none_behind messages

none_is_some : (value : NonEmptyValue) → ◌≡◌ {A = Option NonEmptyValue} None (Some value) → ⊥
none_is_some value e = cc

-- and a machine that keeps none knows so
pub knows_none : (e : Executor) (messages : List InputMessage) (vm : MachineState) → vm.runs ≡ no_runs → KnowsNoRuns e messages → KnowsRuns e messages vm
knows_none e messages vm none known = record {
  keeps = subst (λ (runs : Runs). KeepsBodies runs e) (sym none) known.keeps;
  cached = known.cached;
  behind = λ n value is. absurd (none_is_some value (known.keeps.cached n ∙ is));
}

pub bodies_behind : (start : AttemptStart) (some : List InputMessage) (old new : MachineState) → old.runs ≡ no_runs → AreKept start.given some old new → (e : Executor) → KeepsBodies no_runs e
    → KeepsBodies new.runs (reads_messages e some)
bodies_behind start some old new none kept e keeps = kept.bodies e (subst (λ (runs : Runs). KeepsBodies runs e) (sym none) keeps)

-- what was kept is behind what was read
pub started_on : (start : AttemptStart) (told : StartMessage) (kind : Kind) (read some : List InputMessage) (old new : MachineState) → HasStarted start told kind read old
    → AreKept start.given some old new → HasStarted start told kind (read ++ some) new
started_on start told kind read some old new h k = record {
  kind_is = kind_kept kind old new k.others h.kind_is;
  phase = k.phase ∙ ap (phase_behind some) h.phase ∙ sym (phase_append read some (phases.WaitingReplayEntries (1 + length start.journal)));
  start_is = ap (λ (vm : MachineState). vm.start) k.others ∙ h.start_is;
  commands = k.commands ∙ ap (λ (commands : List RawMessage). commands ++ commands_in some) h.commands ∙ sym (commands_append read some);
  gathers = subst (λ (m : Machine). Gathers start.given new.active m) (sym (gathered_append read some (machine_at_start start.shown [] []))) (k.gathers (gathered_all read (machine_at_start start.shown [] [])) h.gathers);
  runs = k.runs ∙ ap (runs_behind some) h.runs ∙ none_behind some;
  output = k.output ∙ h.output;
}

pub well_behind : (read : List InputMessage) (phase : Phase) → has_failed phase ≡ false → has_failed (phase_behind read phase) ≡ false
well_behind [] phase well = well
well_behind (one ∷ read) phase well = well_behind read (phase_then phase) (well_then phase well)

pub journals_are_read : MessagesAreKept → JournalsAreRead
journals_are_read keeps start told kind read unread cuts coming old new e is started known whole bytes fed =
    go (inputs_are_kept keeps start.given unread cuts coming old new e
    (ap has_failed started.phase ∙ well_behind read (phases.WaitingReplayEntries (1 + length start.journal)) refl) whole (all_behind MessageFits read unread is.fit)
    (subst (λ (p : Phase). AreWaitedFor unread p) (sym started.phase) (waited_behind read unread (phases.WaitingReplayEntries (1 + length start.journal)) (input_waited_for start (read ++ unread) is)))
    (knows_none e unread old started.runs known) bytes fed)
  where
    go : TakesFirstMessages start.given unread coming old new ⊎ FailsForMemory old new → ReadsOn start told kind read unread coming new ⊎ FailsForMemory old new
    go (inl h) = inl (record {
      some = h.some;
      still = h.still;
      parts = h.parts;
      bytes = h.bytes;
      whole = h.whole;
      started = started_on start told kind read h.some old new started h.kept;
      bodies = bodies_behind start h.some old new started.runs h.kept;
    })
    go (inr failed) = inr failed

pub arrivals_are_read : MessagesAreKept → ArrivalsAreRead
arrivals_are_read keeps start kind m unread cuts coming old new e arrivals fit asked known whole bytes fed =
    go (inputs_are_kept keeps start.given unread cuts coming old new e (ap has_failed asked.phase) whole fit
    (subst (λ (p : Phase). AreWaitedFor unread p) (sym asked.phase) (arrivals_waited_for unread arrivals)) known bytes fed)
  where
    behind : (some still : List InputMessage) → unread ≡ some ++ still → AreKept start.given some old new → IsInputAsked start kind (with_messages m some) new
    behind some still parts k = record {
      kind_is = kind_kept kind old new k.others asked.kind_is;
      phase = k.phase ∙ ap (phase_behind some) asked.phase ∙ stays_active some;
      sees =
          subst (λ (m' : Machine). Sees start.given new.active m') (arrivals_gathered some m (all_in_front IsArrival some still (subst (AllByRecursion IsArrival) parts arrivals)))
          (k.sees asked.phase m asked.sees);
    }

    go : TakesFirstMessages start.given unread coming old new ⊎ FailsForMemory old new → ReadsArrivals start kind m unread coming old new ⊎ FailsForMemory old new
    go (inl h) = inl (record { some = h.some; still = h.still; parts = h.parts; bytes = h.bytes; whole = h.whole; asked = behind h.some h.still h.parts h.kept; bodies = h.kept.bodies; output = h.kept.output })
    go (inr failed) = inr failed
