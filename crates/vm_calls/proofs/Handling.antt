-- A call that makes a handle and puts no request does what the abstract machine does.
use Rattle.std.proofs.Common.{◌≡◌, ◌+◌, ◌++◌, ℕ, Bool, List, [], append-nil, length, map, Option, Some, refl, sym, ap, ◌∙◌, subst, arith}
use Rattle.journal_model.specs.declared.notification.NotificationId.{NotificationId}
use Rattle.journal_model.specs.declared.notification.NotificationId.TheVariants.{SignalId, SignalName}
use Rattle.journal_model.specs.Notification.{Text}
use Rattle.journal_model.specs.declared.call.Call.{Call}
use Rattle.journal_model.specs.declared.call.Answer.{Answer}
use Rattle.journal_model.specs.Refusal.{Refusal}
use Rattle.journal_model.specs.Request.{Request}
use Rattle.journal_model.specs.History.{completions_of, signals_of, ids_of}
use Rattle.journal_model.specs.Await.{child_of}
use Rattle.journal_model.specs.Run.{Invocation}
use Rattle.attempt_model.specs.Children.{new_child}
use Rattle.attempt_model.specs.Requests.{put_all, answer_by}
use Rattle.attempt_model.specs.Machine.{Machine, Answered, Work, next_slot, reply_to, reply_to_make, reply_to_work, reply_unless_refused}
use Rattle.vm_awaits.specs.Views.{AsyncResults, results_of, slots_of}
use Rattle.vm_awaits.specs.Calls.{with_handle}
use Rattle.vm_context.specs.Eager.{KnownState}
use Rattle.vm_context.specs.StateKnowledge.{KnowsState}
use Rattle.vm_commands.specs.HeaderEquality.{same_header}
use Rattle.vm_calls.specs.declared.active.Active.{Active}
use Rattle.vm_calls.specs.Active.{Sees, HasCompletions, left_of}
use Rattle.vm_calls.specs.CommandCalls.{Replies}
use Rattle.vm_calls.specs.Handles.{HandlesOne}
use Rattle.vm_calls.proofs.Calls.{brings_none}
use Rattle.vm_calls.proofs.Tracking.{none_more, none_made}

pub as_many : (n more : ℕ) → more ≡ 0 → n ≡ n + more
as_many n more none = omega (arith, none)

module _ (checks_off : Bool) (given : Invocation) (m : Machine) (call : Call) (id : NotificationId) (taken : ℕ) (one : HandlesOne given m call id taken) (old : Active) (sees : Sees given old m)
    (new : Active) (results : results_of new.results ≡ with_handle id (results_of old.results))
    (completions : new.journal.completions ≡ old.journal.completions) (signals : new.journal.signals ≡ old.journal.signals + taken)
    (others : new ≡ record old { journal = new.journal; results = new.results }) where
  abbrev machine_then : Machine
  machine_then = record {
    left = m.left;
    written = m.written;
    completions = m.completions + completions_of call;
    signals = m.signals + signals_of call;
    queue = m.queue;
    ready = m.ready;
    slots = m.slots ++ map Some (ids_of m.completions m.signals call);
    start = m.start;
    done = m.done ++ [];
    children = m.children ++ map new_child (child_of given.options.implicit_cancellation m.completions call);
  }

  replies : reply_to (same_header checks_off) given m call ≡ Answered (answer_by given.input.invocation_id (next_slot m) m.signals call) machine_then
  replies =
      ap (λ (o : Option Refusal). reply_unless_refused (same_header checks_off call) given m call o) one.refused
      ∙ ap (λ (w : Work). reply_to_work (same_header checks_off call) given m call w) one.work
      ∙ ap (λ (rs : List Request). reply_to_make (same_header checks_off call) given m call rs (put_all (same_header checks_off call) rs (record { left = m.left; written = m.written }))) one.requests

  results_then : results_of new.results
      ≡ record { delivery = given.options.signal_delivery; queue = m.queue; ready = m.ready; slots = m.slots ++ map Some (ids_of m.completions m.signals call) }
  results_then = results ∙ ap (λ (r : AsyncResults). with_handle id r) sees.results
      ∙ ap (λ (made : List NotificationId). record { delivery = given.options.signal_delivery; queue = m.queue; ready = m.ready; slots = m.slots ++ map Some made }) (sym one.ids)

  sees_then : Sees given new machine_then
  sees_then = record {
    left = ap (λ (a : Active). left_of a) others ∙ sees.left;
    replaying = ap (λ (a : Active). a.is_replaying) others ∙ sees.replaying;
    results = results_then;
    state = subst (λ (state : KnownState). KnowsState state m.start (m.done ++ [])) (sym (ap (λ (a : Active). a.state) others))
        (subst (λ (done : List Request). KnowsState old.state m.start done) (sym (append-nil m.done)) sees.state);
    completions = completions ∙ sees.completions ∙ as_many m.completions (completions_of call) one.completions;
    signals = signals ∙ ap (λ (n : ℕ). n + taken) sees.signals ∙ ap (λ (n : ℕ). m.signals + n) (sym one.signals);
    opened = ap (λ (a : Active). a.output.is_closed) others ∙ sees.opened;
    children = none_more m.children new.children (child_of given.options.implicit_cancellation m.completions call) one.children (ap (λ (a : Active). a.children) others ∙ sees.children);
    made = none_made m.completions (completions_of call) m.children (child_of given.options.implicit_cancellation m.completions call) one.children sees.made;
  }

  pub same_output : new.output ≡ old.output
  same_output = ap (λ (a : Active). a.output) others

  pub handles : {Lacks : Type 0} → (Lacks → ⊥) → (answer : Answer) → answer_by given.input.invocation_id (next_slot m) m.signals call ≡ answer
      → Replies checks_off given m call answer old new × (new.output ≡ old.output) × (Lacks → ⊥)
  handles has answer is = (
    record {
      machine = machine_then;
      replies = replies ∙ ap (λ (a : Answer). Answered a machine_then) is;
      sees = sees_then;
      more = [];
      written = sym (append-nil m.written);
      frames = same_output ∙ ap (λ (bytes : List ℕ). record old.output { bytes = bytes }) (sym (append-nil old.output.bytes));
      fit = tt;
      has = subst (λ (n : ℕ). HasCompletions n old) (sym one.completions) (λ lacks. lacks);
    },
    same_output,
    has,
  )

pub slot_is : (given : Invocation) (old : Active) (m : Machine) → Sees given old m → 17 + length (slots_of old.results) ≡ next_slot m
slot_is given old m sees = ap (λ (r : AsyncResults). 17 + length r.slots) sees.results

-- ---- the two calls

pub signal_handles : (given : Invocation) (m : Machine) (name : Text) → HandlesOne given m (Call.Signal name) (SignalName name) 0
signal_handles given m name = record { refused = refl; work = refl; requests = refl; completions = refl; signals = refl; ids = refl; children = brings_none (Call.Signal name) m.completions refl refl refl refl refl given.options.implicit_cancellation }

pub awakeable_handles : (given : Invocation) (m : Machine) → HandlesOne given m Call.Awakeable (SignalId m.signals) 1
awakeable_handles given m = record { refused = refl; work = refl; requests = refl; completions = refl; signals = refl; ids = refl; children = brings_none Call.Awakeable m.completions refl refl refl refl refl given.options.implicit_cancellation }
