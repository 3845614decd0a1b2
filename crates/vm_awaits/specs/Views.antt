-- How a state is seen: how signals are delivered, what no await has looked at, what waits to be taken, and what handles stand for.
use Rattle.std.specs.Prelude.{List}
use Rattle.journal_model.specs.declared.options.SignalDelivery.{SignalDelivery}
use Rattle.journal_model.specs.Notification.{Arrival}
use Rattle.attempt_model.specs.Results.{Ready, Slots}
use Rattle.vm_awaits.specs.ReadyViews.{ready_in}
use Rattle.vm_awaits.specs.declared.state.AsyncResultsState.{AsyncResultsState}

pub record AsyncResults : Type 0 where
  pub delivery : SignalDelivery
  -- what no await has looked at, in its order
  pub queue : List Arrival
  pub ready : Ready
  pub slots : Slots

abbrev pub delivery_of : AsyncResultsState → SignalDelivery
delivery_of state = state.signal_delivery

abbrev pub queue_of : AsyncResultsState → List Arrival
queue_of state = state.line

abbrev pub ready_of : AsyncResultsState → Ready
ready_of state = ready_in state.ready

abbrev pub slots_of : AsyncResultsState → Slots
slots_of state = state.slots.items

abbrev pub results_of : AsyncResultsState → AsyncResults
results_of state = record { delivery = delivery_of state; queue = queue_of state; ready = ready_of state; slots = slots_of state }
