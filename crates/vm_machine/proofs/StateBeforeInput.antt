-- What comes before the calls is what the abstract machine begins with.
use Rattle.std.proofs.Common.{◌≡◌, ◌++◌, ◌∷◌, Bool, true, List, [], drop, Option, refl, sym, ap, ◌∙◌, subst}
use Rattle.journal_model.specs.Notification.{Arrival}
use Rattle.journal_model.specs.Request.{Request}
use Rattle.journal_model.specs.Run.{Invocation}
use Rattle.attempt_model.specs.Machine.{Machine, with_arrival}
use Rattle.protocol_stream.specs.declared.decoder.RawMessage.{RawMessage}
use Rattle.vm_awaits.specs.Calls.{with_queued}
use Rattle.vm_awaits.specs.Views.{AsyncResults, results_of}
use Rattle.vm_calls.specs.declared.active.Active.{Active}
use Rattle.vm_calls.specs.Active.{Sees, left_of, has_left, still_replays}
use Rattle.vm_commands.specs.RecordedCommands.{command_of, commands_of}
use Rattle.vm_context.specs.Eager.{KnownState}
use Rattle.vm_context.specs.StateKnowledge.{KnowsState}
use Rattle.vm_context.specs.Journal.{JournalCounts}
use Rattle.vm_context.specs.Output.{Written}
use Rattle.vm_machine.specs.StateBeforeInput.{Gathers, BeginsGathering, GathersCommands, GathersNotifications, SeesBehindInput}

pub begins_gathering : BeginsGathering
begins_gathering version given start fresh active is_fresh is knows = record {
  left = ap (λ (a : Active). left_of a) is ∙ ap commands_of is_fresh.commands;
  replaying = ap (λ (a : Active). a.is_replaying) is ∙ is_fresh.replaying;
  results = ap (λ (a : Active). results_of a.results) is ∙ is_fresh.results;
  state = knows;
  completions = ap (λ (a : Active). a.journal.completions) is ∙ ap (λ (j : JournalCounts). j.completions) is_fresh.journal;
  signals = ap (λ (a : Active). a.journal.signals) is ∙ ap (λ (j : JournalCounts). j.signals) is_fresh.journal;
  opened = ap (λ (a : Active). a.output.is_closed) is ∙ ap (λ (w : Written). w.is_closed) is_fresh.output;
  children = ap (λ (a : Active). a.children) is ∙ is_fresh.children;
  made = tt;
}

-- ---- entries

commands_behind : (messages : List RawMessage) (message : RawMessage) → commands_of (messages ++ message ∷ []) ≡ commands_of messages ++ command_of message ∷ []
commands_behind [] message = refl
commands_behind (first ∷ messages) message = ap (λ (commands : List (Option Request)). command_of first ∷ commands) (commands_behind messages message)

pub gathers_commands : GathersCommands
gathers_commands given m message old new pushes g =
    let is = pushes.1 in
    record {
      left = ap commands_of pushes.0 ∙ commands_behind old.commands.items message ∙ ap (λ (commands : List (Option Request)). commands ++ command_of message ∷ []) g.left;
      replaying = ap (λ (a : Active). a.is_replaying) is ∙ g.replaying;
      results = ap (λ (a : Active). results_of a.results) is ∙ g.results;
      state = subst (λ (s : KnownState). KnowsState s m.start m.done) (sym (ap (λ (a : Active). a.state) is)) g.state;
      completions = ap (λ (a : Active). a.journal.completions) is ∙ g.completions;
      signals = ap (λ (a : Active). a.journal.signals) is ∙ g.signals;
      opened = ap (λ (a : Active). a.output.is_closed) is ∙ g.opened;
      children = ap (λ (a : Active). a.children) is ∙ g.children;
      made = g.made;
    }

gathers_notification : (given : Invocation) (m : Machine) (arrival : Arrival) (old new : Active) → results_of new.results ≡ with_queued arrival (results_of old.results)
    → new ≡ record old { results = new.results } → Gathers given old m → Gathers given new (with_arrival m arrival)
gathers_notification given m arrival old new queued is g = record {
  left = ap (λ (a : Active). left_of a) is ∙ g.left;
  replaying = ap (λ (a : Active). a.is_replaying) is ∙ g.replaying;
  results = queued ∙ ap (λ (results : AsyncResults). with_queued arrival results) g.results;
  state = subst (λ (s : KnownState). KnowsState s m.start m.done) (sym (ap (λ (a : Active). a.state) is)) g.state;
  completions = ap (λ (a : Active). a.journal.completions) is ∙ g.completions;
  signals = ap (λ (a : Active). a.journal.signals) is ∙ g.signals;
  opened = ap (λ (a : Active). a.output.is_closed) is ∙ g.opened;
  children = ap (λ (a : Active). a.children) is ∙ g.children;
  made = g.made;
}

sees_notification : (given : Invocation) (m : Machine) (arrival : Arrival) (old new : Active) → results_of new.results ≡ with_queued arrival (results_of old.results)
    → new ≡ record old { results = new.results } → Sees given old m → Sees given new (with_arrival m arrival)
sees_notification given m arrival old new queued is s = record {
  left = ap (λ (a : Active). left_of a) is ∙ s.left;
  replaying = ap (λ (a : Active). a.is_replaying) is ∙ s.replaying;
  results = queued ∙ ap (λ (results : AsyncResults). with_queued arrival results) s.results;
  state = subst (λ (k : KnownState). KnowsState k m.start m.done) (sym (ap (λ (a : Active). a.state) is)) s.state;
  completions = ap (λ (a : Active). a.journal.completions) is ∙ s.completions;
  signals = ap (λ (a : Active). a.journal.signals) is ∙ s.signals;
  opened = ap (λ (a : Active). a.output.is_closed) is ∙ s.opened;
  children = ap (λ (a : Active). a.children) is ∙ s.children;
  made = s.made;
}

pub gathers_notifications : GathersNotifications
gathers_notifications given m arrival old new queued is = (gathers_notification given m arrival old new queued is, sees_notification given m arrival old new queued is)

-- ---- the input

commands_dropped : (messages : List RawMessage) → commands_of (drop 1 messages) ≡ drop 1 (commands_of messages)
commands_dropped [] = refl
commands_dropped (message ∷ messages) = refl

replays_still : (messages : List RawMessage) → still_replays true messages ≡ has_left (commands_of messages)
replays_still [] = refl
replays_still (message ∷ messages) = refl

pub sees_behind_input : SeesBehindInput
sees_behind_input given m left old new leaves first g =
    let is = leaves.others in
    let behind : left_of new ≡ left =
    ap commands_of leaves.left ∙ commands_dropped old.commands.items ∙ ap (λ (commands : List (Option Request)). drop 1 commands) (g.left ∙ first) in
    record {
      left = behind;
      replaying =
          leaves.replaying ∙ ap (λ (replaying : Bool). still_replays replaying new.commands.items) g.replaying ∙ replays_still new.commands.items
          ∙ ap (λ (commands : List (Option Request)). has_left commands) behind;
      results = ap (λ (a : Active). results_of a.results) is ∙ g.results;
      state = subst (λ (s : KnownState). KnowsState s m.start m.done) (sym (ap (λ (a : Active). a.state) is)) g.state;
      completions = ap (λ (j : JournalCounts). j.completions) leaves.journal ∙ g.completions;
      signals = ap (λ (j : JournalCounts). j.signals) leaves.journal ∙ g.signals;
      opened = ap (λ (a : Active). a.output.is_closed) is ∙ g.opened;
      children = ap (λ (a : Active). a.children) is ∙ g.children;
      made = g.made;
    }
