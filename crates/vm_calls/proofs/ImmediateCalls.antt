-- A call that takes no number, puts one request and is answered at once does what the abstract machine does.
use Rattle.std.proofs.Common.{◌≡◌, ◌++◌, append-nil, ℕ, Bool, false, ◌||◌, List, map, Some, Err, sym, ap, ◌∙◌, subst}
use Rattle.journal_model.specs.declared.notification.NotificationId.{NotificationId}
use Rattle.journal_model.specs.Notification.{Text}
use Rattle.journal_model.specs.declared.call.Call.{Call}
use Rattle.journal_model.specs.declared.call.Answer.{Answer}
use Rattle.journal_model.specs.Request.{Request}
use Rattle.journal_model.specs.History.{completions_of, signals_of}
use Rattle.journal_model.specs.Await.{child_of}
use Rattle.journal_model.specs.Run.{Invocation}
use Rattle.attempt_model.specs.Results.{ready_after_all}
use Rattle.attempt_model.specs.Machine.{Machine, next_slot}
use Rattle.protocol_types.specs.declared.message_type.MessageType.{MessageType}
use Rattle.vm_awaits.specs.Views.{results_of}
use Rattle.vm_context.specs.Eager.{KnownState}
use Rattle.vm_context.specs.StateKnowledge.{KnowsState, Follows, changes_state}
use Rattle.vm_context.proofs.Keeping.{others_keep}
use Rattle.vm_commands.specs.HeaderEquality.{is_unstable}
use Rattle.vm_calls.specs.declared.active.Active.{Active}
use Rattle.vm_calls.specs.declared.put_error.PutError.{PutError}
use Rattle.vm_calls.specs.declared.call_error.CallError.TheVariants.{Put}
use Rattle.vm_calls.specs.Active.{Sees, IsActiveSettled, left_of, asking, HasCompletions, PutsOne, PutsIn}
use Rattle.vm_calls.specs.CommandCalls.{Replies, FailsAs, IsReadyToPut}
use Rattle.vm_calls.specs.ImmediateCalls.{DoesOne, HasAsked}
use Rattle.vm_calls.proofs.Tracking.{none_more, none_made}
use Rattle.vm_calls.proofs.CommandCalls.{no_more, put_answers, put_fails_as}

module _ (given : Invocation) (m : Machine) (call : Call) (request : Request) (one : DoesOne given m call request) (old asked : Active) (has : HasAsked given m request old asked) where
  done_is_ready : IsReadyToPut given m call request old asked
  done_is_ready = record {
    left = ap (λ (a : Active). left_of a) has.others ∙ has.sees.left;
    replaying = ap (λ (a : Active). a.is_replaying) has.others ∙ has.sees.replaying;
    results = ap (λ (a : Active). results_of a.results) has.others ∙ has.sees.results ∙ (λ i. record {
      delivery = given.options.signal_delivery;
      queue = m.queue;
      ready = ready_after_all given.options.signal_delivery m.ready (sym one.known i);
      slots = (sym (append-nil m.slots) ∙ ap (λ (ids : List NotificationId). m.slots ++ map Some ids) (sym one.ids)) i;
    });
    state = has.knows;
    completions = ap (λ (a : Active). a.journal.completions) has.others ∙ has.sees.completions ∙ no_more m.completions (completions_of call) one.completions;
    signals = ap (λ (a : Active). a.journal.signals) has.others ∙ has.sees.signals ∙ no_more m.signals (signals_of call) one.signals;
    opened = ap (λ (a : Active). a.output.is_closed) has.others ∙ has.sees.opened;
    children = none_more m.children asked.children (child_of given.options.implicit_cancellation m.completions call) one.children (ap (λ (a : Active). a.children) has.others ∙ has.sees.children);
    made = none_made m.completions (completions_of call) m.children (child_of given.options.implicit_cancellation m.completions call) one.children has.sees.made;
    output = ap (λ (a : Active). a.output) has.others;
    has = subst (λ (n : ℕ). HasCompletions n old) (sym one.completions) (λ lacks. lacks);
  }

  module _ (checks_off ignoring : Bool) (ignores : ignoring ≡ (checks_off || is_unstable call)) (new : Active) where
    pub does_fail : {M : Type 0} (error : PutError M) → (IsActiveSettled asked → PutsIn ignoring request m.written asked (Err error) new) → FailsAs checks_off given m call old (Put error) × (new.output ≡ old.output)
    does_fail error puts = put_fails_as checks_off ignoring given m call request one.asks ignores old asked done_is_ready error new puts

    pub does : (IsActiveSettled asked → PutsOne ignoring request m.written asked new) → Replies checks_off given m call Answer.Done old new
    does puts = put_answers checks_off ignoring given m call request one.asks ignores old asked done_is_ready Answer.Done (one.answer given.input.invocation_id (next_slot m) m.signals) new puts

-- ---- what is known of the state once the call is asked for

module _ (given : Invocation) (m : Machine) (old asked : Active) (sees : Sees given old m) (ty : MessageType) (name : Text) (asks : asked ≡ asking ty name old) where
  knows_still : KnowsState asked.state m.start m.done
  knows_still = subst (λ (state : KnownState). KnowsState state m.start m.done) (sym (ap (λ (a : Active). a.state) asks)) sees.state

  -- what was known follows the request
  pub asks_to_change : (request : Text → Request) (copy : Text) (state : KnownState) → Follows request asked.state state → HasAsked given m (request copy) old (record asked { state = state })
  asks_to_change request copy state follows = record {
    sees = sees;
    ty = ty;
    name = name;
    others = ap (λ (a : Active). record a { state = state }) asks;
    knows = follows m.start m.done copy knows_still;
  }

  -- the request changes nothing of it
  pub asks_to_keep : (request : Request) → changes_state request ≡ false → HasAsked given m request old asked
  asks_to_keep request keeps = record {
    sees = sees;
    ty = ty;
    name = name;
    others = asks ∙ ap (λ (state : KnownState). record (asking ty name old) { state = state }) (sym (ap (λ (a : Active). a.state) asks));
    knows = others_keep asked.state m.start m.done request keeps knows_still;
  }
