-- The machine stands to the abstract machine after a call as it did before.
use Rattle.std.proofs.Common.{◌≡◌, ◌⊎◌, inl, inr, ◌+◌, ◌≤◌, ◌<◌, ◌^◌, ℕ, zero, suc, Bool, true, false, if◌then◌else◌, ◌||◌, leb, List, [], ◌∷◌, ◌++◌, length, append-nil, Result, Ok, Err, refl, sym, ap, subst, ◌∙◌}
use Rattle.std.proofs.lemmas.Bool.Decides.{leb_tells}
use Rattle.journal_model.specs.History.{completions_of, signals_of, ids_of}
use Rattle.journal_model.specs.Request.{Request}
use Rattle.journal_model.specs.Run.{Invocation}
use Rattle.journal_model.specs.declared.call.Answer.{Answer}
use Rattle.journal_model.specs.declared.call.Call.{Call}
use Rattle.attempt_model.specs.Machine.{Machine, Answered, next_slot}
use Rattle.body_laws.specs.Bodies.{Body, Executor, has_come, bodies_of_call}
use Rattle.protocol_errors.specs.declared.error.Error.{Error}
use Rattle.vm_calls.specs.Active.{Sees, HasCompletions, are_any, writes_frames}
use Rattle.vm_calls.specs.CommandCalls.{Replies}
use Rattle.vm_calls.specs.declared.active.Active.{Active}
use Rattle.vm_context.specs.Journal.{JournalCounts}
use Rattle.vm_context.specs.Output.{Written}
use Rattle.vm_runs.specs.KeptBodies.{KeepsBodies}
use Rattle.vm_runs.specs.Runs.{Runs}
use Rattle.vm_waiting.specs.TakeEffects.{Becomes}
use Rattle.vm_machine.specs.Calls.{checks_off}
use Rattle.vm_machine.specs.declared.machine_state.MachineState.{MachineState}
use Rattle.vm_outcomes.specs.CallOutcomes.{Answers}
use Rattle.vm_outcomes.specs.Causes.{NumbersLeft}
use Rattle.vm_outcomes.specs.DrivenMachine.{IsDriven, reply_of}
use Rattle.vm_outcomes.specs.Runs.{KeepsBodiesOf, runs_after}

-- what a call has changed is what it keeps for calls and of runs alone
pub driven_on : (given : Invocation) (m machine : Machine) (old : MachineState) (active : Active) (runs : Runs) → IsDriven given m old → Sees given active machine
    → active.output.version ≡ old.active.output.version → active.output.has_commands ≡ are_any machine.written → IsDriven given machine (record old { active = active; runs = runs })
driven_on given m machine old active runs driven sees same commands = record {
  sees = sees;
  phase = driven.phase;
  version = record { version = driven.version.version; cancellation = driven.version.cancellation };
  written = same ∙ driven.written;
  commands = commands;
  id = driven.id;
  reads = driven.reads;
}

pub nothing_written : (written : Written) → written ≡ writes_frames [] written
nothing_written written = ap (λ (bytes : List ℕ). record written { bytes = bytes; has_commands = written.has_commands }) (sym (append-nil written.bytes))

-- a command was written if one was before, or is among these
any_behind : (written more : List Request) → are_any more || are_any written ≡ are_any (written ++ more)
any_behind [] [] = refl
any_behind [] (request ∷ more) = refl
any_behind (request ∷ written) [] = refl
any_behind (request ∷ written) (next ∷ more) = refl

commands_on : (more : List Request) (m machine : Machine) (old new : Written) → machine.written ≡ m.written ++ more → new ≡ writes_frames more old → old.has_commands ≡ are_any m.written
    → new.has_commands ≡ are_any machine.written
commands_on more m machine old new written frames before =
    ap (λ (w : Written). w.has_commands) frames ∙ ap (λ (b : Bool). are_any more || b) before ∙ any_behind m.written more ∙ ap are_any (sym written)

-- none was written
pub commands_stay : (m machine : Machine) (old new : Written) → machine.written ≡ m.written → new.has_commands ≡ old.has_commands → old.has_commands ≡ are_any m.written
    → new.has_commands ≡ are_any machine.written
commands_stay m machine old new written same before = same ∙ before ∙ ap are_any (sym written)

-- ---- runs

-- what is kept of runs where the call is answered
pub record RunsFor (m : Machine) (call : Call) (old : MachineState) (runs : Runs) : Type 0 where
  pub kept : runs ≡ runs_after m call old.active.journal old.runs
  pub bodies : KeepsBodiesOf m call old.runs runs

-- where the call fails, it is what was, or that
abbrev pub MayBe : (m : Machine) (call : Call) (old : MachineState) (runs : Runs) → Type 0
MayBe m call old runs = (runs ≡ old.runs) ⊎ (runs ≡ runs_after m call old.active.journal old.runs)

abbrev pub RunsIn : {Taken : Type 0} → (m : Machine) (call : Call) (old : MachineState) (runs : Runs) → Result Taken Error → Type 0
RunsIn m call old runs (Ok taken) = RunsFor m call old runs
RunsIn m call old runs (Err answer) = MayBe m call old runs

abbrev pub is_run : Call → Bool
is_run (Call.Run name) = true
is_run _ = false

same_after : (m : Machine) (call : Call) (journal : JournalCounts) (runs : Runs) → is_run call ≡ false → runs ≡ runs_after m call journal runs
same_after m (Call.Run name) journal runs none = cc
same_after m _ journal runs none = refl

no_body : (handle n : ℕ) (call : Call) → is_run call ≡ false → bodies_of_call handle n call ≡ []
no_body handle n (Call.Run name) none = cc
no_body handle n _ none = refl

none_left : (come : Bool) (bodies : List Body) → bodies ≡ [] → (if come then [] else bodies) ≡ []
none_left true bodies none = refl
none_left false bodies none = none

-- bodies that are none are put behind the others
pub none_behind : (runs : Runs) (e : Executor) (bodies : List Body) → bodies ≡ [] → KeepsBodies runs e → KeepsBodies runs (record e { left = e.left ++ bodies })
none_behind runs e bodies none keeps = record {
  left = keeps.left ∙ sym (append-nil e.left) ∙ ap (λ (bs : List Body). e.left ++ bs) (sym none);
  executing = keeps.executing;
  cached = keeps.cached;
}

-- any other call than a run leaves them
pub leaves_runs : (m : Machine) (call : Call) (old : MachineState) → is_run call ≡ false → RunsFor m call old old.runs
leaves_runs m call old none = record {
  kept = same_after m call old.active.journal old.runs none;
  bodies = λ e keeps new. none_behind old.runs e (if has_come m m.completions then [] else bodies_of_call (next_slot m) m.completions call) (none_left (has_come m m.completions) (bodies_of_call (next_slot m) m.completions call) (no_body (next_slot m) m.completions call none)) keeps;
}

pub leaves_runs_in : {Taken : Type 0} (m : Machine) (call : Call) (old : MachineState) (result : Result Taken Error) → is_run call ≡ false → RunsIn m call old old.runs result
leaves_runs_in m call old (Ok taken) none = leaves_runs m call old none
leaves_runs_in m call old (Err answer) none = inl refl

-- ---- numbers

completions_left : (taken : ℕ) (m : Machine) (active : Active) → active.journal.completions ≡ m.completions → HasCompletions taken active → (taken ≡ 0) ⊎ (m.completions + taken ≤ 2 ^ 32)
completions_left zero m active same has = inl refl
completions_left (suc more) m active same has = by_test (leb_tells (m.completions + suc more) (2 ^ 32))
  where
    by_test : ((leb (m.completions + suc more) (2 ^ 32) ≡ true) × (m.completions + suc more ≤ 2 ^ 32)) ⊎ ((leb (m.completions + suc more) (2 ^ 32) ≡ false) × (2 ^ 32 < m.completions + suc more))
        → (suc more ≡ 0) ⊎ (m.completions + suc more ≤ 2 ^ 32)
    by_test (inl tells) = inr tells.1
    by_test (inr tells) = absurd (has (inl (subst (λ (n : ℕ). 2 ^ 32 < n + suc more) (sym same) tells.1)))

-- a call that makes as many handles as it takes completions takes no number of a signal
pub no_signal : (n signal : ℕ) (call : Call) → length (ids_of n signal call) ≡ completions_of call → signals_of call ≡ 0
no_signal n signal Call.Awakeable same = cc
no_signal n signal _ same = refl

-- of a call that takes none
pub none_taken : (m : Machine) (call : Call) → completions_of call ≡ 0 → signals_of call ≡ 0 → NumbersLeft m call
none_taken m call completions signals = record { completions = inl completions; signals = inl signals }

module _ (given : Invocation) (m : Machine) (call : Call) (old : MachineState) (driven : IsDriven given m old) (runs : Runs) (keeps : RunsFor m call old runs) where
  -- a call that puts a request, or makes a handle
  pub answered : (signals : (signals_of call ≡ 0) ⊎ (m.signals + signals_of call ≤ 2 ^ 32)) (answer : Answer) (active : Active) → Replies (checks_off old.options.non_determinism_checks) given m call answer old.active active
      → Answers given m call old answer (record old { active = active; runs = runs })
  answered signals answer active replies = record {
    machine = replies.machine;
    replies = replies.replies;
    driven = driven_on given m replies.machine old active runs driven replies.sees (ap (λ (w : Written). w.version) replies.frames)
        (commands_on replies.more m replies.machine old.active.output active.output replies.written replies.frames driven.commands);
    more = replies.more;
    written = replies.written;
    frames = replies.frames;
    fit = replies.fit;
    numbers = record { completions = completions_left (completions_of call) m old.active driven.sees.completions replies.has; signals = signals };
    kept = keeps.kept;
    runs = keeps.bodies;
    others = refl;
  }

  -- one that writes nothing
  pub answered_quietly : (numbers : NumbersLeft m call) (answer : Answer) (active : Active) → Becomes given m (reply_of old given m call) (Answered answer) active → active.output ≡ old.active.output
      → Answers given m call old answer (record old { active = active; runs = runs })
  answered_quietly numbers answer active becomes unwritten = record {
    machine = becomes.machine;
    replies = becomes.replies;
    driven = driven_on given m becomes.machine old active runs driven becomes.sees (ap (λ (w : Written). w.version) unwritten)
        (commands_stay m becomes.machine old.active.output active.output becomes.written (ap (λ (w : Written). w.has_commands) unwritten) driven.commands);
    more = [];
    written = becomes.written ∙ sym (append-nil m.written);
    frames = unwritten ∙ nothing_written old.active.output;
    fit = tt;
    numbers = numbers;
    kept = keeps.kept;
    runs = keeps.bodies;
    others = refl;
  }

-- what is changed beside is what is kept for calls alone
pub only_active : (old between : MachineState) (active : Active) → between ≡ record old { active = active } → between ≡ record old { active = between.active }
only_active old between active others = others ∙ sym (ap (λ (vm : MachineState). record old { active = vm.active }) others)
