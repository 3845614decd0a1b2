-- A run that is called is kept where its outcome has not come, and answers the handle that stands for its completion.
use Rattle.std.proofs.Common.{◌≡◌, ◌∷◌, ◌++◌, ◌+◌, ◌<◌, ◌∙◌, inr, append-nil, ℕ, Bool, true, false, if◌then◌else◌, length, [], None, Result, Ok, Err, OnOk, OnErr, refl, sym, ap, ap₂, subst}
use Rattle.std.specs.declared.alloc.AllocError.{AllocError}
use Rattle.journal_model.specs.Notification.{Text}
use Rattle.journal_model.specs.Refusal.{refusal_of}
use Rattle.journal_model.specs.Request.{Request}
use Rattle.journal_model.specs.Run.{Invocation, name_or_empty}
use Rattle.journal_model.specs.declared.call.Answer.{Answer}
use Rattle.journal_model.specs.declared.call.Call.{Call}
use Rattle.attempt_model.specs.Machine.{Machine, next_slot}
use Rattle.body_laws.specs.Bodies as bodies
use Rattle.body_laws.specs.Bodies.{Executor, bodies_of_call}
use Rattle.protocol_errors.specs.declared.metadata.CommandMetadata.{CommandMetadata}
use Rattle.protocol_differences.specs.declared.relationship.CommandRelationship.TheVariants.{Last}
use Rattle.protocol_types.specs.declared.message_type.MessageType.TheVariants.{RunCommand}
use Rattle.protocol_types.specs.declared.message_type.MessageType.{MessageType}
use Rattle.vm_awaits.specs.Calls.{has_come}
use Rattle.vm_awaits.specs.Views.{AsyncResults, results_of}
use Rattle.vm_calls.specs.Active.{Sees, TakesCompletion, asking}
use Rattle.vm_calls.specs.MismatchedCommands.{FindsAs}
use Rattle.vm_calls.specs.CommandCalls.{CompletesOne, MakesCommand}
use Rattle.vm_calls.specs.SpentReplay.{FailsSpent}
use Rattle.vm_calls.specs.declared.active.Active.{Active}
use Rattle.vm_calls.specs.declared.call_error.CallError.{CallError}
use Rattle.vm_calls.specs.declared.call_error.CallError.TheVariants.{Number, Put, OutOfMemory}
use Rattle.vm_calls.proofs.Calls.{brings_none}
use Rattle.vm_context.specs.Journal.{JournalCounts, command_told, last_index, name_told}
use Rattle.vm_refusals.specs.declared.runs.RunHandle.{RunHandle}
use Rattle.vm_runs.specs.KeptBodies.{IsNew, KeepsBodies, with_body}
use Rattle.vm_runs.specs.Runs.{Runs, with_run}
use Rattle.vm_runs.specs.declared.run.Run.{Run}
use Rattle.vm_proposals.specs.RunCallEffects.{KeepsBodiesOf}
use Rattle.vm_proposals.specs.RunRegistration.{Inserts, IsRunKept, Keeps, KeepsRun, last_run_asked, run_called, handle_called, is_known, called}

pub run_completes : (given : Invocation) (m : Machine) (name copy : Text) (id : ℕ)
    → refusal_of given.version (Call.Run name) ≡ None → copy ≡ name → id ≡ m.completions → CompletesOne given m (Call.Run name) (Request.Run id copy)
run_completes given m name copy id refused copied taken = record { asks = record { refused = refused; work = refl; requests = λ i. Request.Run (sym taken i) (sym copied i) ∷ [] }; children = brings_none (Call.Run name) m.completions refl refl refl refl refl given.options.implicit_cancellation; completions = refl; signals = refl; ids = refl; known = refl; keeps = refl; answer = λ text handle signal. refl }

-- ---- the table

abbrev kept_of : (completion index : ℕ) → (name : Text) → Run
kept_of completion index name = record { completion = completion; command_index = index; command_name = name; is_executing = false }

named : (name : Text) → name_or_empty (name_told name) ≡ name
named [] = refl
named (byte ∷ bytes) = refl

kept_is : (completion : ℕ) (journal : JournalCounts) (command : CommandMetadata) (name : Text) → command ≡ command_told journal Last → name ≡ name_or_empty command.name
    → kept_of completion command.index name ≡ last_run_asked completion journal
kept_is completion journal command name is called =
    ap (λ (text : Text). kept_of completion command.index text) called ∙ ap (λ (one : CommandMetadata). kept_of completion one.index (name_or_empty one.name)) is
    ∙ ap (λ (text : Text). kept_of completion (last_index journal) text) (named journal.last_name)

pub inserts : (handle completion : ℕ) (journal : JournalCounts) (command : CommandMetadata) (name : Text) (old : Runs) (result : Result (Unit {0}) AllocError) (new : Runs)
    → command ≡ command_told journal Last → name ≡ name_or_empty command.name
    → OnOk result (new ≡ with_run handle (record { completion = completion; command_index = command.index; command_name = name; is_executing = false }) old)
    → OnOk result ((e : Executor) → KeepsBodies old e → IsNew handle e → KeepsBodies new (with_body e (record { handle = handle; completion = completion })))
    → OnErr result (new ≡ old) → Inserts handle (last_run_asked completion journal) old result new
inserts handle completion journal command name old (Ok done) new is called runs bodies stays = record {
  runs = runs ∙ ap (λ (run : Run). with_run handle run old) (kept_is completion journal command name is called);
  bodies = bodies;
}
inserts handle completion journal command name old (Err refused) new is called runs bodies stays = stays

-- ---- what is kept

module _ (handle : ℕ) (run : Run) (old : Runs) where
  pub known_keeps : (looked known : Bool) → looked ≡ known → looked ≡ true → Keeps known handle run old (Ok true) old
  known_keeps looked true same is = (refl, refl)
  known_keeps looked false same is = cc

  pub new_keeps : (looked known : Bool) (new : Runs) → looked ≡ known → looked ≡ false → Inserts handle run old (Ok tt) new → Keeps known handle run old (Ok false) new
  new_keeps looked true new same is inserted = cc
  new_keeps looked false new same is inserted = (refl, inserted)

-- the run is that of the call, whose completion was taken
module _ (name : Text) (old begun : Active) (handle completion : ℕ) (takes : TakesCompletion (completion, handle) (asking RunCommand name old) begun) where
  known_is : has_come completion (results_of begun.results) ≡ is_known old
  known_is = ap₂ has_come takes.id takes.results

  run_is : last_run_asked completion begun.journal ≡ run_called name old
  run_is = ap₂ (λ (n : ℕ) (active : Active). last_run_asked n active.journal) takes.id takes.others

  kept_by : {M : Type 0} (runs new : Runs) (known : Bool) (made : Result ℕ (CallError M)) → known ≡ is_known old → IsRunKept (is_known old) (handle_called old) (run_called name old) runs new
      → KeepsRun name old runs (called known made) new
  kept_by runs new known (Ok one) is kept = (is, kept)
  kept_by runs new known (Err error) is kept = inr kept

  pub keeps_run : {M : Type 0} (runs new : Runs) (known : Bool) (made : Result ℕ (CallError M)) (result : Result RunHandle (CallError M)) → result ≡ called known made
      → Keeps (has_come completion (results_of begun.results)) handle (last_run_asked completion begun.journal) runs (Ok known) new → KeepsRun name old runs result new
  keeps_run {M} runs new known made result is (told, kept) =
      subst (λ (r : Result RunHandle (CallError M)). KeepsRun name old runs r new) (sym is)
      (kept_by runs new known made (told ∙ known_is)
      (subst (λ (known : Bool). IsRunKept known (handle_called old) (run_called name old) runs new) known_is
      (subst (λ (handle : ℕ). IsRunKept (has_come completion (results_of begun.results)) handle (run_called name old) runs new) takes.handle
      (subst (λ (run : Run). IsRunKept (has_come completion (results_of begun.results)) handle run runs new) run_is kept))))

-- ---- the handle, and whether its outcome is known

makes_by : {M : Type 0} (checks_off : Bool) (given : Invocation) (m : Machine) (call : Call) (old new : Active) (known : Bool) (made : Result ℕ (CallError M))
    → MakesCommand checks_off given m call (λ (handle : ℕ). Answer.Handle handle) old made new
    → MakesCommand checks_off given m call (λ (run : RunHandle). Answer.Handle run.handle) old (called known made) new
makes_by checks_off given m call old new known (Ok handle) makes = makes
makes_by checks_off given m call old new known (Err error) makes = makes

pub makes_called : {M : Type 0} (checks_off : Bool) (given : Invocation) (m : Machine) (call : Call) (old new : Active) (known : Bool) (made : Result ℕ (CallError M)) (result : Result RunHandle (CallError M))
    → result ≡ called known made → MakesCommand checks_off given m call (λ (handle : ℕ). Answer.Handle handle) old made new
    → MakesCommand checks_off given m call (λ (run : RunHandle). Answer.Handle run.handle) old result new
makes_called {M} checks_off given m call old new known made result is makes =
    subst (λ (r : Result RunHandle (CallError M)). MakesCommand checks_off given m call (λ (run : RunHandle). Answer.Handle run.handle) old r new) (sym is)
    (makes_by checks_off given m call old new known made makes)

spent_by : {M : Type 0} (old new : Active) (known : Bool) (made : Result ℕ (CallError M)) → FailsSpent 1 old made new → FailsSpent 1 old (called known made) new
spent_by old new known (Ok handle) fails = fails
spent_by old new known (Err error) fails = fails

pub spent_called : {M : Type 0} (old new : Active) (known : Bool) (made : Result ℕ (CallError M)) (result : Result RunHandle (CallError M)) → result ≡ called known made → FailsSpent 1 old made new
    → FailsSpent 1 old result new
spent_called {M} old new known made result is fails = subst (λ (r : Result RunHandle (CallError M)). FailsSpent 1 old r new) (sym is) (spent_by old new known made fails)

found_by : {M : Type 0} (ty : MessageType) (old new : Active) (known : Bool) (made : Result ℕ (CallError M)) → FindsAs ty old made new → FindsAs ty old (called known made) new
found_by ty old new known (Ok handle) found = tt
found_by ty old new known (Err (Number error)) found = tt
found_by ty old new known (Err (Put error)) found = found
found_by ty old new known (Err OutOfMemory) found = tt

pub found_called : {M : Type 0} (ty : MessageType) (old new : Active) (known : Bool) (made : Result ℕ (CallError M)) (result : Result RunHandle (CallError M)) → result ≡ called known made
    → FindsAs ty old made new → FindsAs ty old result new
found_called {M} ty old new known made result is found = subst (λ (r : Result RunHandle (CallError M)). FindsAs ty old r new) (sym is) (found_by ty old new known made found)

-- ---- bodies

keeps_none : (runs : Runs) (e : Executor) → KeepsBodies runs e → KeepsBodies runs (record e { left = e.left ++ [] })
keeps_none runs e keeps = record { left = keeps.left ∙ sym (append-nil e.left); executing = keeps.executing; cached = keeps.cached }

bodies_kept : (m : Machine) (name : Text) (run : Run) (old new : Runs) (known : Bool) → IsRunKept known (next_slot m) run old new → run.completion ≡ m.completions
    → (e : Executor) → KeepsBodies old e → IsNew (next_slot m) e
    → KeepsBodies new (record e { left = e.left ++ (if known then [] else bodies_of_call (next_slot m) m.completions (Call.Run name)) })
bodies_kept m name run old new true kept is e keeps fresh = subst (λ (runs : Runs). KeepsBodies runs (record e { left = e.left ++ [] })) (sym kept) (keeps_none old e keeps)
bodies_kept m name run old new false kept is e keeps fresh =
    subst (λ (completion : ℕ). KeepsBodies new (with_body e (record { handle = next_slot m; completion = completion }))) is (kept.bodies e keeps fresh)

-- behind a call that was answered, of a machine that is seen
pub bodies_of_run : (given : Invocation) (m : Machine) (name : Text) (active : Active) (old new : Runs) → Sees given active m
    → IsRunKept (is_known active) (handle_called active) (run_called name active) old new → KeepsBodiesOf m (Call.Run name) old new
bodies_of_run given m name active old new sees kept =
    let handle : handle_called active ≡ next_slot m = ap (λ (results : AsyncResults). 17 + length results.slots) sees.results in
    let known : is_known active ≡ bodies.has_come m m.completions = ap₂ has_come sees.completions sees.results in
    bodies_kept m name (run_called name active) old new (bodies.has_come m m.completions)
    (subst (λ (known : Bool). IsRunKept known (next_slot m) (run_called name active) old new) known
    (subst (λ (handle : ℕ). IsRunKept (is_known active) handle (run_called name active) old new) handle kept))
    sees.completions
