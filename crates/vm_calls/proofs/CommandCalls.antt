-- A call that takes one completion id and puts one request does what the abstract machine does.
use Rattle.std.proofs.Common.{◌≡◌, ◌+◌, ◌∷◌, ◌++◌, ℕ, Bool, false, ◌||◌, List, [], length, map, Option, Some, None, option_and_then, Err, refl, sym, ap, ◌∙◌, subst, arith}
use Rattle.journal_model.specs.declared.notification.NotificationId.{NotificationId}
use Rattle.journal_model.specs.declared.notification.NotificationId.TheVariants.{CompletionId}
use Rattle.journal_model.specs.Notification.{Text}
use Rattle.journal_model.specs.declared.call.Call.{Call}
use Rattle.journal_model.specs.declared.call.Answer.{Answer}
use Rattle.journal_model.specs.Refusal.{Refusal, refusal_of}
use Rattle.journal_model.specs.Request.{Request}
use Rattle.journal_model.specs.History.{completions_of, signals_of, ids_of}
use Rattle.journal_model.specs.Delivery.{known_result}
use Rattle.journal_model.specs.Await.{child_of}
use Rattle.journal_model.specs.Run.{Invocation}
use Rattle.attempt_model.specs.Children.{new_child}
use Rattle.attempt_model.specs.Requests.{Commands, PutState, put_one, put_all, requests_by, answer_by}
use Rattle.attempt_model.specs.Results.{ready_after_all}
use Rattle.attempt_model.specs.Machine.{Machine, Answered, FailedBy, Mismatch, Work, ToMake, work_of, next_slot, reply_to, reply_to_make, reply_to_work, reply_unless_refused}
use Rattle.protocol_types.specs.declared.message_type.MessageType.{MessageType}
use Rattle.protocol_stream.specs.declared.encoder.EncodingError.TheVariants as unsent
use Rattle.vm_awaits.specs.Views.{AsyncResults, results_of}
use Rattle.vm_awaits.specs.Calls.{with_handle}
use Rattle.vm_awaits.specs.Children.{AreMade}
use Rattle.vm_context.specs.Eager.{KnownState}
use Rattle.vm_context.specs.Journal.{after_command, after_completions}
use Rattle.vm_context.specs.StateKnowledge.{KnowsState, changes_state}
use Rattle.vm_context.specs.Output.{Written}
use Rattle.vm_context.proofs.Keeping.{others_keep}
use Rattle.vm_commands.specs.declared.replay_error.ReplayError.TheVariants as unmatched
use Rattle.vm_commands.specs.HeaderEquality.{same_header, header_equal, is_unstable}
use Rattle.vm_calls.specs.declared.active.Active.{Active}
use Rattle.vm_calls.specs.declared.put_error.PutError.{PutError}
use Rattle.vm_calls.specs.declared.put_error.PutError.TheVariants.{Replay, Encoding}
use Rattle.vm_calls.specs.declared.call_error.CallError.TheVariants.{Put}
use Rattle.vm_calls.specs.Active.{Sees, IsActiveSettled, left_of, has_left, writes_frames, HasCompletions, PutsOne, PutsIn}
use Rattle.vm_commands.specs.NextCommand.{IsNextUnread}
use Rattle.vm_calls.proofs.Tracking.{none_more, none_made}
use Rattle.vm_calls.specs.CommandCalls.{Replies, FailsAs, PutFailsAs, AsksOne, IsReadyToPut, CompletesOne, HasCallBegun}

-- ---- the abstract machine, where one request is put

only_one : (same : Request → Request → Bool) (o : Option PutState) → option_and_then (put_all same []) o ≡ o
only_one same None = refl
only_one same (Some put) = refl

pub replied : (same : Call → Request → Request → Bool) (given : Invocation) (m : Machine) (call : Call) (request : Request) (put : Option PutState)
    → refusal_of given.version call ≡ None → work_of call ≡ ToMake → requests_by m.start m.done m.left m.completions call ≡ request ∷ []
    → put_one (same call) request m.left m.written ≡ put → reply_to same given m call ≡ reply_to_make (same call) given m call (request ∷ []) put
replied same given m call request put refused work requests puts =
    ap (λ (o : Option Refusal). reply_unless_refused (same call) given m call o) refused
    ∙ ap (λ (w : Work). reply_to_work (same call) given m call w) work
    ∙ ap (λ (rs : List Request). reply_to_make (same call) given m call rs (put_all (same call) rs (record { left = m.left; written = m.written }))) requests
    ∙ ap (λ (o : Option PutState). reply_to_make (same call) given m call (request ∷ []) o) (only_one (same call) (put_one (same call) request m.left m.written) ∙ puts)

-- ---- a call of which all is done but that its request is put

module _ (checks_off ignoring : Bool) (given : Invocation) (m : Machine) (call : Call) (request : Request) (asks : AsksOne given m call request) (ignores : ignoring ≡ (checks_off || is_unstable call))
    (old mid : Active) (ready : IsReadyToPut given m call request old mid) where
  -- a machine that put the request, with what it has put then
  abbrev machine_with : PutState → Machine
  machine_with put = record {
    left = put.left;
    written = put.written;
    completions = m.completions + completions_of call;
    signals = m.signals + signals_of call;
    queue = m.queue;
    ready = ready_after_all given.options.signal_delivery m.ready (known_result m.completions (request ∷ []));
    slots = m.slots ++ map Some (ids_of m.completions m.signals call);
    start = m.start;
    done = m.done ++ request ∷ [];
    children = m.children ++ map new_child (child_of given.options.implicit_cancellation m.completions call);
  }

  put_as : (put : Option PutState) → put_one (header_equal ignoring) request (left_of mid) m.written ≡ put → put_one (same_header checks_off call) request m.left m.written ≡ put
  put_as put puts =
      ap (λ (b : Bool). put_one (header_equal b) request m.left m.written) (sym ignores) ∙ ap (λ (l : Commands). put_one (header_equal ignoring) request l m.written) (sym ready.left) ∙ puts

  settled_then : IsActiveSettled mid
  settled_then = record { replaying = ready.replaying ∙ ap has_left (sym ready.left); opened = ready.opened }

  -- it is not put: the abstract machine fails so too
  mismatches : put_one (header_equal ignoring) request (left_of mid) m.written ≡ None → reply_to (same_header checks_off) given m call ≡ FailedBy Mismatch
  mismatches none = replied (same_header checks_off) given m call request None asks.refused asks.work asks.requests (put_as None none)

  fails_as : {M : Type 0} (error : PutError M) (new : Active) → PutsIn ignoring request m.written mid (Err error) new → PutFailsAs checks_off given m call error × (new.output ≡ old.output)
  fails_as (Replay (unmatched.Unavailable error)) new puts = absurd puts.0
  fails_as (Replay (unmatched.Decoding error)) new puts = ((mismatches puts.0.0, subst (λ (l : Commands). IsNextUnread error l) ready.left puts.0.1), puts.1 ∙ ready.output)
  fails_as (Replay (unmatched.Mismatch error)) new puts = (mismatches puts.0, puts.1 ∙ ready.output)
  fails_as (Replay unmatched.OutOfMemory) new puts = (tt, puts.1 ∙ ready.output)
  fails_as (Encoding unsent.PayloadTooLong) new puts = ((sym ready.left ∙ puts.0.0, record { request = request; requests = asks.requests; long = puts.0.1 }), puts.1 ∙ ready.output)
  fails_as (Encoding unsent.OutOfMemory) new puts = ((sym ready.left ∙ puts.0.0, record { request = request; requests = asks.requests; fits = puts.0.1 }), puts.1 ∙ ready.output)

  pub put_fails_as : {M : Type 0} (error : PutError M) (new : Active) → (IsActiveSettled mid → PutsIn ignoring request m.written mid (Err error) new) → FailsAs checks_off given m call old (Put error) × (new.output ≡ old.output)
  put_fails_as error new puts =
      let fails = fails_as error new (puts settled_then) in
      ((fails.0, ready.has), fails.1)

  module _ (answer : Answer) (answered : answer_by given.input.invocation_id (next_slot m) m.signals call ≡ answer) (new : Active) where
    sees_then : (puts : PutsOne ignoring request m.written mid new) → Sees given new (machine_with puts.put)
    sees_then puts = record {
      left = puts.left;
      replaying = puts.settled.replaying ∙ ap has_left puts.left;
      results = ap (λ (a : Active). results_of a.results) puts.others ∙ ready.results;
      state = subst (λ (state : KnownState). KnowsState state m.start (m.done ++ request ∷ [])) (sym (ap (λ (a : Active). a.state) puts.others)) ready.state;
      completions = ap (λ (a : Active). a.journal.completions) puts.others ∙ ready.completions;
      signals = ap (λ (a : Active). a.journal.signals) puts.others ∙ ready.signals;
      opened = puts.settled.opened;
      children = ap (λ (a : Active). a.children) puts.others ∙ ready.children;
      made = ready.made;
    }

    pub put_answers : (IsActiveSettled mid → PutsOne ignoring request m.written mid new) → Replies checks_off given m call answer old new
    put_answers put_then =
        let puts : PutsOne ignoring request m.written mid new = put_then settled_then in
        record {
          machine = machine_with puts.put;
          replies = replied (same_header checks_off) given m call request (Some puts.put) asks.refused asks.work asks.requests (put_as (Some puts.put) puts.puts)
              ∙ ap (λ (a : Answer). Answered a (machine_with puts.put)) answered;
          sees = sees_then puts;
          more = puts.more;
          written = puts.requests;
          frames = puts.frames ∙ ap (λ (w : Written). writes_frames puts.more w) ready.output;
          fit = puts.fit;
          has = ready.has;
        }

-- ---- numbers were taken

pub no_more : (n more : ℕ) → more ≡ 0 → n ≡ n + more
no_more n more none = omega (arith, none)

-- where so many completions were taken, and handles that stand for these ids, nothing is left but to put the request
pub is_ready : (given : Invocation) (m : Machine) (call : Call) (request : Request) (old : Active) → Sees given old m → (ty : MessageType) (name : Text) (taken : ℕ) (ids : List NotificationId)
    → changes_state request ≡ false → known_result m.completions (request ∷ []) ≡ [] → ids_of m.completions m.signals call ≡ ids → completions_of call ≡ taken → signals_of call ≡ 0 → HasCompletions taken old
    → (mid : Active) → mid ≡ record old { journal = after_completions taken (after_command ty name old.journal); results = mid.results; children = mid.children }
    → results_of mid.results ≡ record { delivery = given.options.signal_delivery; queue = m.queue; ready = m.ready; slots = m.slots ++ map Some ids }
    → mid.children ≡ m.children ++ map new_child (child_of given.options.implicit_cancellation m.completions call)
    → AreMade (m.completions + completions_of call) (m.children ++ map new_child (child_of given.options.implicit_cancellation m.completions call))
    → IsReadyToPut given m call request old mid
is_ready given m call request old sees ty name taken ids keeps known named counts none has mid others results children made = record {
  left = ap (λ (a : Active). left_of a) others ∙ sees.left;
  replaying = ap (λ (a : Active). a.is_replaying) others ∙ sees.replaying;
  results = results ∙ (λ i. record {
    delivery = given.options.signal_delivery;
    queue = m.queue;
    ready = ready_after_all given.options.signal_delivery m.ready (sym known i);
    slots = m.slots ++ map Some (sym named i);
  });
  state = subst (λ (state : KnownState). KnowsState state m.start (m.done ++ request ∷ [])) (sym (ap (λ (a : Active). a.state) others)) (others_keep old.state m.start m.done request keeps sees.state);
  completions = ap (λ (a : Active). a.journal.completions) others ∙ ap (λ (n : ℕ). n + taken) sees.completions ∙ ap (λ (n : ℕ). m.completions + n) (sym counts);
  signals = ap (λ (a : Active). a.journal.signals) others ∙ sees.signals ∙ no_more m.signals (signals_of call) none;
  opened = ap (λ (a : Active). a.output.is_closed) others ∙ sees.opened;
  children = children;
  made = made;
  output = ap (λ (a : Active). a.output) others;
  has = subst (λ (n : ℕ). HasCompletions n old) (sym counts) has;
}

-- ---- calls of one completion

module _ (given : Invocation) (m : Machine) (call : Call) (request : Request) (one : CompletesOne given m call request) (handle : ℕ) (old mid : Active) (begun : HasCallBegun given m handle old mid) where
  handle_is : answer_by given.input.invocation_id (next_slot m) m.signals call ≡ Answer.Handle handle
  handle_is = one.answer given.input.invocation_id (next_slot m) m.signals ∙ ap Answer.Handle (sym (begun.takes.handle ∙ ap (λ (r : AsyncResults). 17 + length r.slots) begun.sees.results))

  results_are : results_of mid.results ≡ record { delivery = given.options.signal_delivery; queue = m.queue; ready = m.ready; slots = m.slots ++ Some (CompletionId m.completions) ∷ [] }
  results_are = begun.takes.results
      ∙ ap (λ (n : ℕ). with_handle (CompletionId n) (results_of old.results)) begun.sees.completions ∙ ap (λ (r : AsyncResults). with_handle (CompletionId m.completions) r) begun.sees.results

  pub one_is_ready : IsReadyToPut given m call request old mid
  one_is_ready = is_ready given m call request old begun.sees begun.ty begun.name 1 (CompletionId m.completions ∷ []) one.keeps one.known one.ids one.completions one.signals begun.takes.has mid
      (begun.takes.others ∙ λ i. record old { journal = after_completions 1 (after_command begun.ty begun.name old.journal); results = mid.results; children = sym children_stay i }) results_are
      (none_more m.children mid.children (child_of given.options.implicit_cancellation m.completions call) one.children (children_stay ∙ begun.sees.children))
      (none_made m.completions (completions_of call) m.children (child_of given.options.implicit_cancellation m.completions call) one.children begun.sees.made)
    where
      children_stay : mid.children ≡ old.children
      children_stay = ap (λ (a : Active). a.children) begun.takes.others

  module _ (checks_off ignoring : Bool) (ignores : ignoring ≡ (checks_off || is_unstable call)) (new : Active) where
    pub fails : {M : Type 0} (error : PutError M) → (IsActiveSettled mid → PutsIn ignoring request m.written mid (Err error) new) → FailsAs checks_off given m call old (Put error) × (new.output ≡ old.output)
    fails error puts = put_fails_as checks_off ignoring given m call request one.asks ignores old mid one_is_ready error new puts

    pub completes : (IsActiveSettled mid → PutsOne ignoring request m.written mid new) → Replies checks_off given m call (Answer.Handle handle) old new
    completes puts = put_answers checks_off ignoring given m call request one.asks ignores old mid one_is_ready (Answer.Handle handle) handle_is new puts
