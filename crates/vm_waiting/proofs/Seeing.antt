-- What is seen where what has come, what handles stand for, and what is known of the children, has changed alone.
use Rattle.std.proofs.Common.{◌≡◌, sym, ap, ◌∙◌, subst, List}
use Rattle.journal_model.specs.Notification.{Arrival}
use Rattle.journal_model.specs.Run.{Invocation}
use Rattle.attempt_model.specs.Results.{Ready, Slots}
use Rattle.attempt_model.specs.Children.{Child}
use Rattle.attempt_model.specs.Machine.{Machine}
use Rattle.vm_awaits.specs.Children.{AreMade}
use Rattle.vm_awaits.specs.Views.{AsyncResults, results_of}
use Rattle.vm_context.specs.Eager.{KnownState}
use Rattle.vm_context.specs.StateKnowledge.{KnowsState}
use Rattle.vm_calls.specs.declared.active.Active.{Active}
use Rattle.vm_calls.specs.Active.{left_of, Sees}

abbrev pub with_results : Machine → List Arrival → Ready → Slots → Machine
with_results m queue ready slots = record m { queue = queue; ready = ready; slots = slots }

abbrev pub with_children : Machine → List Child → Machine
with_children m children = record m { children = children }

abbrev pub seen_as : Invocation → List Arrival → Ready → Slots → AsyncResults
seen_as given queue ready slots = record { delivery = given.options.signal_delivery; queue = queue; ready = ready; slots = slots }

module _ (given : Invocation) (m : Machine) (old new : Active) (sees : Sees given old m) (others : new ≡ record old { results = new.results; children = new.children }) where
  pub sees_with : (queue : List Arrival) (ready : Ready) (slots : Slots) (children : List Child) → results_of new.results ≡ seen_as given queue ready slots
      → new.children ≡ children → AreMade m.completions children → Sees given new (with_children (with_results m queue ready slots) children)
  sees_with queue ready slots children results kept made = record {
    left = ap (λ (a : Active). left_of a) others ∙ sees.left;
    replaying = ap (λ (a : Active). a.is_replaying) others ∙ sees.replaying;
    results = results;
    state = subst (λ (state : KnownState). KnowsState state m.start m.done) (sym (ap (λ (a : Active). a.state) others)) sees.state;
    completions = ap (λ (a : Active). a.journal.completions) others ∙ sees.completions;
    signals = ap (λ (a : Active). a.journal.signals) others ∙ sees.signals;
    opened = ap (λ (a : Active). a.output.is_closed) others ∙ sees.opened;
    children = kept;
    made = made;
  }

module _ (given : Invocation) (m : Machine) (old new : Active) (sees : Sees given old m) (others : new ≡ record old { results = new.results }) where
  children_stay : new.children ≡ old.children
  children_stay = ap (λ (a : Active). a.children) others

  pub still_sees : (queue : List Arrival) (ready : Ready) (slots : Slots) → results_of new.results ≡ seen_as given queue ready slots
      → Sees given new (with_results m queue ready slots)
  still_sees queue ready slots results =
      sees_with given m old new sees (others ∙ λ i. record old { results = new.results; children = sym children_stay i }) queue ready slots m.children results (children_stay ∙ sees.children) sees.made
