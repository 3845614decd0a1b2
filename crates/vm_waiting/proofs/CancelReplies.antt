-- A cancellation that is passed on, as the abstract machine's reply.
use Rattle.std.proofs.Common.{◌≡◌, inl, inr, refl, sym, ap, ◌∙◌, subst, ℕ, Bool, List, [], ◌∷◌, ◌++◌, append_assoc, append-nil, map, Option, Some, None, option_and_then, Result, Ok, Err}
use Rattle.journal_model.specs.declared.call.Call.{Call}
use Rattle.journal_model.specs.declared.call.Answer.{Answer}
use Rattle.journal_model.specs.declared.value.Value.{Value}
use Rattle.journal_model.specs.Notification.{Text, Arrival}
use Rattle.journal_model.specs.AwaitTree.{AwaitTree}
use Rattle.journal_model.specs.Await.{cancel_request}
use Rattle.journal_model.specs.Request.{Request}
use Rattle.journal_model.specs.State.{StartState}
use Rattle.journal_model.specs.Run.{Invocation}
use Rattle.attempt_model.specs.Children.{Child, child_value, cancel_requests_for, AllKnown}
use Rattle.attempt_model.specs.Requests.{Commands, PutState, put_one, put_all}
use Rattle.attempt_model.specs.Results.{Ready}
use Rattle.attempt_model.specs.Machine.{Machine, Reply, FailedBy, Mismatch, cancelled_by, reply_where_cancelled, reply_to_children, reply_to}
use Rattle.protocol_calls.specs.declared.send_signal_command.SendSignalCommandMessage.{SendSignalCommandMessage}
use Rattle.protocol_stream.specs.declared.encoder.EncodingError.TheVariants as unsent
use Rattle.vm_awaits.specs.Views.{AsyncResults, results_of, ready_of}
use Rattle.vm_commands.specs.HeaderEquality.{header_equal, same_header}
use Rattle.vm_commands.specs.NextCommand.{IsNextUnread}
use Rattle.vm_commands.specs.declared.replay_error.ReplayError.TheVariants as unmatched
use Rattle.vm_context.specs.Eager.{KnownState}
use Rattle.vm_context.specs.StateKnowledge.{KnowsState}
use Rattle.vm_context.specs.Journal.{JournalCounts}
use Rattle.vm_context.specs.Output.{Written}
use Rattle.vm_context.proofs.Keeping.{others_keep}
use Rattle.vm_calls.specs.declared.active.Active.{Active}
use Rattle.vm_calls.specs.declared.put_error.PutError.{PutError}
use Rattle.vm_calls.specs.declared.put_error.PutError.TheVariants.{Replay, Encoding}
use Rattle.vm_calls.specs.Active.{Sees, IsActiveSettled, left_of, has_left, writes_frames, PutFails}
use Rattle.vm_calls.specs.CommandCalls.{Replies}
use Rattle.vm_calls.proofs.Calls.{unchecked}
use Rattle.vm_waiting.specs.declared.awaiting.Awaited.{Awaited}
use Rattle.vm_waiting.specs.declared.awaiting.Awaited.TheVariants.{AnyCompleted, Cancelled, Asleep}
use Rattle.vm_waiting.specs.declared.awaiting.AwaitError.{AwaitError}
use Rattle.vm_waiting.specs.declared.awaiting.AwaitError.TheVariants as unawaited
use Rattle.vm_waiting.specs.declared.cancelling.CancelError.{CancelError}
use Rattle.vm_waiting.specs.declared.cancelling.CancelError.TheVariants as uncancelled
use Rattle.vm_waiting.specs.AwaitSteps.{after_cancellation, Cancels, StopsCancelling, StopsFor, FailsCancelling, Awaits}
use Rattle.vm_waiting.specs.ChildCancellation.{id_in, with_id, ids_known, cancels, after_cancels, PutsAll, StopsAt, FailsPutting, PutsEach}
use Rattle.vm_waiting.proofs.PuttingAll.{put_joined}

-- ---- the requests

one_asked : (value : Option Value) (ids : List Text) → map cancels (with_id (id_in value) ids) ≡ cancel_request value ++ map cancels ids
one_asked None ids = refl
one_asked (Some (Value.InvocationId id)) ids = refl
one_asked (Some Value.Void) ids = refl
one_asked (Some (Value.Success bytes)) ids = refl
one_asked (Some (Value.Failure failure)) ids = refl
one_asked (Some (Value.StateKeys keys)) ids = refl

-- one for each invocation id that is known
pub all_asked : (ready : Ready) (children : List Child) → map cancels (ids_known ready children) ≡ cancel_requests_for ready children
all_asked ready [] = refl
all_asked ready (child ∷ children) =
    one_asked (child_value ready child) (ids_known ready children) ∙ ap (λ (requests : List Request). cancel_request (child_value ready child) ++ requests) (all_asked ready children)

-- none of them changes the state
one_keeps : (value : Option Value) (state : KnownState) (start : StartState) (done : List Request) → KnowsState state start done → KnowsState state start (done ++ cancel_request value)
one_keeps None state start done knows = subst (λ (requests : List Request). KnowsState state start requests) (sym (append-nil done)) knows
one_keeps (Some (Value.InvocationId id)) state start done knows = others_keep state start done (cancels id) refl knows
one_keeps (Some Value.Void) state start done knows = subst (λ (requests : List Request). KnowsState state start requests) (sym (append-nil done)) knows
one_keeps (Some (Value.Success bytes)) state start done knows = subst (λ (requests : List Request). KnowsState state start requests) (sym (append-nil done)) knows
one_keeps (Some (Value.Failure failure)) state start done knows = subst (λ (requests : List Request). KnowsState state start requests) (sym (append-nil done)) knows
one_keeps (Some (Value.StateKeys keys)) state start done knows = subst (λ (requests : List Request). KnowsState state start requests) (sym (append-nil done)) knows

all_keep : (ready : Ready) (children : List Child) (state : KnownState) (start : StartState) (done : List Request) → KnowsState state start done → KnowsState state start (done ++ cancel_requests_for ready children)
all_keep ready [] state start done knows = subst (λ (requests : List Request). KnowsState state start requests) (sym (append-nil done)) knows
all_keep ready (child ∷ children) state start done knows =
    let one = cancel_request (child_value ready child) in
    subst (λ (requests : List Request). KnowsState state start requests) (append_assoc done one (cancel_requests_for ready children))
    (all_keep ready children state start (done ++ one) (one_keeps (child_value ready child) state start done knows))

-- they take no number
pub completions_stay : (requests : List Request) (journal : JournalCounts) → (after_cancels requests journal).completions ≡ journal.completions
completions_stay [] journal = refl
completions_stay (request ∷ requests) journal = completions_stay requests _

signals_stay : (requests : List Request) (journal : JournalCounts) → (after_cancels requests journal).signals ≡ journal.signals
signals_stay [] journal = refl
signals_stay (request ∷ requests) journal = signals_stay requests _

-- ---- all children are known

module _ (checks_off : Bool) (given : Invocation) (m : Machine) (tree : AwaitTree ℕ) (old : Active) (queue : List Arrival) (ready : Ready) (looked : Active)
    (sees : Sees given looked (record m { queue = queue; ready = ready })) (unwritten : looked.output ≡ old.output) where
  abbrev reply : Reply
  reply = reply_to (same_header checks_off) given m (Call.Await tree)

  abbrev headers : Request → Request → Bool
  headers = same_header checks_off (Call.Await tree)

  abbrev asked : List Request
  asked = cancel_requests_for ready m.children

  abbrev known : Machine
  known = record m { queue = queue; ready = ready }

  pub asked_is : cancel_requests_for (ready_of looked.results) looked.children ≡ asked
  asked_is = ap (λ (r : AsyncResults). cancel_requests_for r.ready looked.children) sees.results ∙ ap (λ (cs : List Child). cancel_requests_for ready cs) sees.children

  pub settled : IsActiveSettled looked
  settled = record { replaying = sees.replaying ∙ ap has_left (sym sees.left); opened = sees.opened }

  -- headers are compared as each request compares them
  pub put_for : (requests : List Request) (put : Option PutState) → put_all (header_equal checks_off) requests (record { left = left_of looked; written = m.written }) ≡ put
      → put_all headers requests (record { left = m.left; written = m.written }) ≡ put
  put_for requests put puts =
      ap (λ (b : Bool). put_all (header_equal b) requests (record { left = m.left; written = m.written })) (sym (unchecked checks_off))
      ∙ ap (λ (left : Commands). put_all (header_equal checks_off) requests (record { left = left; written = m.written })) (sym sees.left) ∙ puts

  module _ (replies : reply ≡ reply_to_children headers given m (AllKnown queue ready)) where
    -- ---- all requests are put

    module _ (put new : Active) (puts : PutsAll checks_off asked m.written looked put) (taken : results_of new.results ≡ after_cancellation (results_of put.results))
        (others : new ≡ record put { results = new.results; children = [] }) where
      abbrev cancelled : Machine
      cancelled = cancelled_by asked puts.put known

      sees_cancelled : Sees given new cancelled
      sees_cancelled = record {
        left = ap (λ (a : Active). left_of a) others ∙ puts.left;
        replaying = ap (λ (a : Active). a.is_replaying) others ∙ puts.settled.replaying ∙ ap has_left puts.left;
        results = taken ∙ ap (λ (a : Active). after_cancellation (results_of a.results)) puts.others ∙ ap (λ (r : AsyncResults). after_cancellation r) sees.results;
        state = subst (λ (state : KnownState). KnowsState state m.start (m.done ++ asked)) (sym (ap (λ (a : Active). a.state) others ∙ ap (λ (a : Active). a.state) puts.others))
            (all_keep ready m.children looked.state m.start m.done sees.state);
        completions = ap (λ (a : Active). a.journal.completions) others ∙ ap (λ (a : Active). a.journal.completions) puts.others ∙ completions_stay asked looked.journal ∙ sees.completions;
        signals = ap (λ (a : Active). a.journal.signals) others ∙ ap (λ (a : Active). a.journal.signals) puts.others ∙ signals_stay asked looked.journal ∙ sees.signals;
        opened = ap (λ (a : Active). a.output.is_closed) others ∙ puts.settled.opened;
        children = ap (λ (a : Active). a.children) others;
        made = tt;
      }

      cancels_all : Replies checks_off given m (Call.Await tree) Answer.Cancelled old new
      cancels_all = record {
        machine = cancelled;
        replies = replies ∙ ap (λ (o : Option PutState). reply_where_cancelled headers given known asked o) (put_for asked (Some puts.put) puts.puts);
        sees = sees_cancelled;
        more = puts.more;
        written = puts.wrote;
        frames = ap (λ (a : Active). a.output) others ∙ puts.frames ∙ ap (λ (w : Written). writes_frames puts.more w) unwritten;
        fit = puts.fit;
        has = λ lacks. lacks;
      }

    -- ---- the first of them

    abbrev stops_at : (stops : StopsAt checks_off asked m.written looked) (new : Active) → new.output ≡ stops.put.output → StopsCancelling checks_off given m tree old new
    stops_at stops new same = record {
      known = known;
      keeps = refl;
      asked = asked;
      asks = refl;
      replies = replies;
      front = stops.front;
      next = stops.next;
      behind = stops.behind;
      parts = stops.parts;
      some = stops.puts.put;
      puts = put_for stops.front (Some stops.puts.put) stops.puts.puts;
      more = stops.puts.more;
      written = stops.puts.wrote;
      frames = same ∙ stops.puts.frames ∙ ap (λ (w : Written). writes_frames stops.puts.more w) unwritten;
      fit = stops.puts.fit;
    }

    -- the next is not what is recorded next
    mismatches : (stops : StopsAt checks_off asked m.written looked) → put_one (header_equal checks_off) stops.next (left_of stops.put) stops.puts.put.written ≡ None → reply ≡ FailedBy Mismatch
    mismatches stops none =
        let first : PutState = record { left = left_of looked; written = m.written } in
        replies
        ∙ ap (λ (o : Option PutState). reply_where_cancelled headers given known asked o)
        (put_for asked None (
        ap (λ (requests : List Request). put_all (header_equal checks_off) requests first) stops.parts
        ∙ put_joined (header_equal checks_off) stops.front (stops.next ∷ stops.behind) (Some first)
        ∙ ap (λ (o : Option PutState). option_and_then (put_all (header_equal checks_off) (stops.next ∷ stops.behind)) o) stops.puts.puts
        ∙ ap (λ (left : Commands). option_and_then (put_all (header_equal checks_off) stops.behind) (put_one (header_equal checks_off) stops.next left stops.puts.put.written)) (sym stops.puts.left)
        ∙ ap (λ (o : Option PutState). option_and_then (put_all (header_equal checks_off) stops.behind) o) none
        ))

    stops_for : {M : Type 0} (stops : StopsAt checks_off asked m.written looked) (error : PutError M) → PutFails checks_off stops.next stops.puts.put.written stops.put error
        → StopsFor checks_off given m tree error stops.puts.put stops.next
    stops_for stops (Replay (unmatched.Unavailable error)) fails = fails
    stops_for stops (Replay (unmatched.Decoding error)) fails = (mismatches stops fails.0, subst (λ (left : Commands). IsNextUnread error left) stops.puts.left fails.1)
    stops_for stops (Replay (unmatched.Mismatch error)) fails = mismatches stops fails
    stops_for stops (Replay unmatched.OutOfMemory) fails = tt
    stops_for stops (Encoding unsent.PayloadTooLong) fails = (sym stops.puts.left ∙ fails.0, fails.1)
    stops_for stops (Encoding unsent.OutOfMemory) fails = (sym stops.puts.left ∙ fails.0, fails.1)

    fails_at : (error : PutError SendSignalCommandMessage) (new : Active) → FailsPutting checks_off asked m.written looked error new → FailsCancelling checks_off given m tree error old new
    fails_at error new fails = (stops_at fails.stops new fails.output, stops_for fails.stops error fails.fails)

    -- ---- what it answers

    each_asked : (result : Result (Unit {0}) CancelError) (put : Active) → ((written : List Request) → IsActiveSettled looked → PutsEach checks_off (cancel_requests_for (ready_of looked.results) looked.children) written looked result put)
        → PutsEach checks_off asked m.written looked result put
    each_asked result put puts = subst (λ (requests : List Request). PutsEach checks_off requests m.written looked result put) asked_is (puts m.written settled)

    pub cancels_as : (result : Result Awaited AwaitError) (new : Active) → Cancels checks_off looked result new → Awaits checks_off given m tree old result new
    cancels_as (Ok Cancelled) new all = cancels_all all.put new (each_asked (Ok tt) all.put all.puts) all.taken all.others
    cancels_as (Ok AnyCompleted) new all = absurd all
    cancels_as (Ok (Asleep waits)) new all = absurd all
    cancels_as (Err (unawaited.Put error)) new among =
        fails_at error new (each_asked (Err (uncancelled.Put error)) new among.puts)
    cancels_as (Err unawaited.OutOfMemory) new (inl same) = inl (ap (λ (a : Active). a.output) same ∙ unwritten)
    cancels_as (Err unawaited.OutOfMemory) new (inr among) =
        let lacks = each_asked (Err uncancelled.OutOfMemory) new among.puts in
        inr (stops_at lacks.stops new (ap (λ (a : Active). a.output) lacks.asked))
    cancels_as (Err (unawaited.UncompletedInReplay waits)) new none = absurd none
    cancels_as (Err unawaited.ChildNotId) new none = absurd none
