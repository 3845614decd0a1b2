-- The input of an attempt is closed.
use Rattle.std.proofs.Common.{◌≡◌, ◌⊎◌, inl, inr, ◌∙◌, ℕ, eq-eqb, Bool, true, true≢false, ◌++◌, map, Option, Some, None, Ok, refl, sym, ap, subst}
use Rattle.std.specs.List.{AllByRecursion}
use Rattle.protocol_errors.specs.declared.error.ErrorBehavior.{ErrorBehavior}
use Rattle.vm_start.specs.Phases.{kept_error}
use Rattle.vm_attempt_laws.specs.AttemptSimulation.{kind_where, HasNotRead, HasRead, Serves}
use Rattle.vm_attempt_laws.proofs.Unfailed.{failed_open, sent_open, told_open}
use Rattle.vm_attempt_laws.specs.AttemptInvariants.{early_error, IsNoFailure, StaysClosed, ClosesEarly, ClosesServing, WritesNothing}
use Rattle.vm_attempt_laws.proofs.Bodies.{bodies_stay}
use Rattle.vm_attempt_laws.proofs.Notes.{TellsNotes, cause_tells, fails_with, waits_more}
use Rattle.vm_attempt_laws.proofs.Over.{serves_by, waits_same}
use Rattle.vm_attempt_laws.proofs.Phases.{stage}
use Rattle.vm_attempt_laws.specs.Attempts.{ClosesUnless, Attempt, Finish}
use Rattle.vm_attempt_laws.specs.Machine.phases
use Rattle.vm_attempt_laws.specs.Machine.{Written, FailsNow, FailsAs, MachineState, is_waiting, input_closed, ClosesWhere, ClosesInput, HasFailed, IsDriven}
use Rattle.vm_attempt_laws.specs.InputOfAttempt.{start_told, Kind, phase_kind, HasStarted}
use Rattle.vm_attempt_laws.specs.OutputOfAttempt.{sent_stream, AllFit, frame_meant}
use Rattle.vm_attempt_laws.specs.Words.{Error, Version, Handler, Invocation, Machine, AttemptInRun, HasReadJournal, VMOptions, item_at, IsNote, journal_mismatch, version_number}

closes_new : {H : Type 0} (over : Option Finish) (before after : Attempt H) → before.over ≡ over → before.over ≡ None → ClosesUnless over before after
    → ClosesInput before.vm.state after.vm.state × (after ≡ record before { vm = after.vm })
closes_new (Some finish) before after is none does = cc
closes_new None before after is none does = does

closed_driven : (given : Invocation) (m : Machine) (vm : MachineState) → IsDriven given m vm → IsDriven given m (input_closed vm)
closed_driven given m vm d = record {
  sees = d.sees;
  phase = d.phase;
  version = record { version = d.version.version; cancellation = d.version.cancellation };
  written = d.written;
  commands = d.commands;
  id = d.id;
  reads = d.reads;
}

module _ {H : Type 0} (function : H → Handler) (next : Handler) (version : Version) (options : VMOptions) (live : AttemptInRun) (is_closed : Bool) (before after : Attempt H)
    (s : Serves function next version options live is_closed before) (does : ClosesInput before.vm.state after.vm.state × (after ≡ record before { vm = after.vm })) where
  abbrev Outcome : Type 0
  Outcome = StaysClosed function next version options live before after ⊎ ClosesEarly function next version options live before after

  -- ---- its journal was read

  module _ (journal : HasReadJournal live) (active : before.vm.state.phase ≡ phases.Active) where
    same : after.vm.state ≡ input_closed before.vm.state
    same = subst (λ (b : Bool). ClosesWhere b (input_closed before.vm.state) after.vm.state) (ap is_waiting active) does.0

    nothing : WritesNothing before after
    nothing = waits_same before after does.1 (ap (λ (vm : MachineState). vm.active.output.bytes) same)

    closed_kind : phase_kind after.vm.state ≡ kind_where version options true
    closed_kind = ap phase_kind same ∙ ap (λ (k : Kind). record k { is_input_closed = true }) s.kind

    stays : HasNotRead function next version options live true after ⊎ HasRead function next version options live after → StaysClosed function next version options live before after
    stays stands = record {
      journal = journal;
      serves = serves_by function next version options live live is_closed true before after does.1 s closed_kind s.of_run s.fed s.started
          (ap (λ (vm : MachineState). vm.decoder) same ∙ s.bytes) (ap (λ (vm : MachineState). item_at vm.decoder) same ∙ s.whole) stands;
      bodies = bodies_stay function next version options before after (ap (λ (vm : MachineState). vm.runs) same);
      nothing = nothing;
    }

    stays_unread : HasNotRead function next version options live is_closed before → HasNotRead function next version options live true after
    stays_unread n = record {
      input = ap (λ (a : Attempt H). a.input) does.1 ∙ n.input;
      answers = ap (λ (a : Attempt H). a.answers) does.1 ∙ n.answers;
      calls = n.calls;
      machine = n.machine;
      shows = n.shows;
      started = subst (λ (vm : MachineState). HasStarted live.start (start_told live.start n.shows) (kind_where version options true) live.read vm) (sym same) (record {
        kind_is = sym (ap phase_kind same) ∙ closed_kind;
        phase = n.started.phase;
        start_is = n.started.start_is;
        commands = n.started.commands;
        gathers = n.started.gathers;
        runs = n.started.runs;
        output = n.started.output;
      });
      unwritten = nothing ∙ n.unwritten;
    }

    stays_read : HasRead function next version options live before → HasRead function next version options live after
    stays_read r = record {
      journal = r.journal;
      input = ap (λ (a : Attempt H). a.input) does.1 ∙ r.input;
      answers = ap (λ (a : Attempt H). a.answers) does.1 ∙ r.answers;
      driven = subst (λ (vm : MachineState). IsDriven live.start.given live.machine vm) (sym same)
          (closed_driven live.start.given live.machine before.vm.state r.driven);
      shows = r.shows;
      start_is = ap (λ (vm : MachineState). vm.start) same ∙ r.start_is;
      numbers = r.numbers;
    }

  -- ---- it was not

  module _ (unread : HasReadJournal live → ⊥) (left : ℕ) (waits : before.vm.state.phase ≡ phases.WaitingReplayEntries left) (n : HasNotRead function next version options live is_closed before) where
    failed : HasFailed (Ok early_error) (input_closed before.vm.state) after.vm.state
    failed = subst (λ (b : Bool). ClosesWhere b (input_closed before.vm.state) after.vm.state) (ap is_waiting waits) does.0

    now : FailsNow before.vm.state.version before.vm.state.options.journal_mismatch_retry_behavior (Ok early_error) before.vm.state.active.output failed.answer after.vm.state.phase after.vm.state.active.output
    now = subst
        (λ (kept : Option Error). FailsAs before.vm.state.version before.vm.state.options.journal_mismatch_retry_behavior (Ok early_error) kept before.vm.state.phase before.vm.state.active.output
        failed.answer after.vm.state.phase after.vm.state.active.output)
        (ap kept_error waits) failed.fails.fails

    of_version : before.vm.state.active.output.version ≡ version
    of_version = ap (λ (w : Written). w.version) n.started.output

    told : TellsNotes now.told before.vm.state.active.output now.before
    told =
        cause_tells before.vm.state.version before.vm.state.options.journal_mismatch_retry_behavior (Ok early_error) before.vm.state.active.output now.told now.before
        (ap (λ (w : Written). w.is_closed) n.started.output) now.tells

    early : ClosesEarly function next version options live before after
    early = record {
      unread = unread;
      error = now.told;
      failed = now.phase_is;
      told = fails_with before.vm.state.version before.vm.state.options.journal_mismatch_retry_behavior early_error before.vm.state.active.output now.told now.before refl now.tells;
      sent = told.coming;
      fit = subst (λ (v : Version). AllFit v told.coming) of_version told.fit;
      output = waits_more version told.coming before after (ap (λ (a : Attempt H). a.front ++ a.behind) does.1) written;
      notes = subst (λ (v : Version). AllByRecursion IsNote (map (frame_meant v) told.coming)) of_version told.notes;
      tells = told.tells;
      unfailed = subst (λ (v : Version). AllByRecursion IsNoFailure (map (frame_meant v) told.coming)) of_version
          (sent_open before.vm.state.active.output.version now.told told.coming
          (told_open before.vm.state.version before.vm.state.options.journal_mismatch_retry_behavior (Ok early_error) before.vm.state.active.output now.told now.before
          (failed_open (version_number before.vm.state.version) before.vm.state.options.journal_mismatch_retry_behavior early_error (λ fails. retried fails) (λ mismatch. absurd (no_mismatch mismatch))) now.tells)
          told.tells);
    }
      where
        retried : early_error.behavior ≡ ErrorBehavior.Fail → ⊥
        retried e = cc

        no_mismatch : early_error.code.0 ≡ journal_mismatch → ⊥
        no_mismatch e = true≢false (sym (eq-eqb early_error.code.0 journal_mismatch e))

        written : after.vm.state.active.output.bytes ≡ before.vm.state.active.output.bytes ++ sent_stream version told.coming
        written =
            ap (λ (w : Written). w.bytes) now.output ∙ told.written.bytes
            ∙ ap (λ (v : Version). before.vm.state.active.output.bytes ++ sent_stream v told.coming) of_version

  by_stage : (n : HasNotRead function next version options live is_closed before)
      → (HasReadJournal live × (before.vm.state.phase ≡ phases.Active)) ⊎ ((HasReadJournal live → ⊥) × ((left : ℕ) × (before.vm.state.phase ≡ phases.WaitingReplayEntries left))) → Outcome
  by_stage n (inl read) = inl (stays read.0 read.1 (inl (stays_unread read.0 read.1 n)))
  by_stage n (inr waits) = inr (early waits.0 waits.1.0 waits.1.1 n)

  stood : HasNotRead function next version options live is_closed before ⊎ HasRead function next version options live before → Outcome
  stood (inl n) = by_stage n (stage live before.vm.state.phase s.fed n.started.phase)
  stood (inr r) = inl (stays r.journal r.driven.phase (inr (stays_read r.journal r.driven.phase r)))

pub closes_keep : {H : Type 0} (function : H → Handler) (next : Handler) (version : Version) (options : VMOptions) → ClosesServing function next version options
closes_keep function next version options live is_closed before after s closes =
    stood function next version options live is_closed before after s (closes_new before.over before after refl s.going closes) s.stands
