-- A read that was matched in replay does what the abstract machine does, once what was known of it is ready.
use Rattle.std.proofs.Common.{◌≡◌, ℕ, Bool, true, ◌||◌, List, [], ◌∷◌, Option, Some, None, Result, Ok, Err, refl, sym, ap, ◌∙◌, subst}
use Rattle.std.specs.Prelude.{IsErrAnd}
use Rattle.std.proofs.lemmas.Result.{err_from_is_err_and}
use Rattle.protocol_types.specs.declared.message_type.MessageType.{MessageType}
use Rattle.journal_model.specs.declared.notification.NotificationResult.{NotificationResult}
use Rattle.journal_model.specs.Notification.{Arrival}
use Rattle.journal_model.specs.declared.call.Call.{Call}
use Rattle.journal_model.specs.declared.call.Answer.{Answer}
use Rattle.journal_model.specs.Request.{Request}
use Rattle.journal_model.specs.Delivery.{known_result}
use Rattle.journal_model.specs.Run.{Invocation}
use Rattle.attempt_model.specs.Requests.{Commands, put_one}
use Rattle.attempt_model.specs.Machine.{Machine, FailedBy, Mismatch, reply_to}
use Rattle.vm_awaits.specs.declared.state.AsyncResultsState.{AsyncResultsState}
use Rattle.vm_awaits.specs.Views.{results_of}
use Rattle.protocol_stream.specs.declared.decoder.DecodingError.{DecodingError}
use Rattle.vm_commands.specs.HeaderEquality.{same_header, header_equal, is_unstable}
use Rattle.vm_commands.specs.declared.replay_error.ReplayError.TheVariants as unmatched
use Rattle.vm_commands.specs.declared.state_read.StateRead.{StateRead}
use Rattle.vm_commands.specs.declared.state_read.StateReadError.{StateReadError}
use Rattle.vm_commands.specs.declared.state_read.StateReadError.TheVariants as errors
use Rattle.vm_commands.specs.NextCommand.{IsNoRequest, IsNextUnread}
use Rattle.vm_commands.specs.RecordedCommands.{as_recorded}
use Rattle.vm_calls.specs.declared.active.Active.{Active}
use Rattle.vm_calls.specs.Active.{Sees, asking, TakesCompletion, HasCompletions, left_of, IsActiveSettled, PutsOne}
use Rattle.vm_calls.specs.CommandCalls.{Replies, HasCallBegun}
use Rattle.vm_calls.proofs.CommandCalls.{replied}
use Rattle.vm_state_reads.specs.declared.read_error.ReadError.TheVariants.{Replay, OutOfMemory}
use Rattle.vm_state_reads.specs.declared.read_error.ReadError.{ReadError}
use Rattle.vm_state_reads.specs.ReadAnswers.{MatchFailsAs, Reads, ReadsFor, ReadsOne, arrivals_of, with_known}
use Rattle.vm_state_reads.specs.RecordedReads.{MatchFails, TellsNext}
use Rattle.vm_state_reads.proofs.Answering.{left_is, output_is, settled_is, read_answers}

module _ (checks_off ignoring : Bool) (given : Invocation) (m : Machine) (call : Call) (request : Request) (one : ReadsOne given m call request) (ignores : ignoring ≡ (checks_off || is_unstable call))
    (handle : ℕ) (old begun : Active) (begins : HasCallBegun given m handle old begun) where
  -- the same, with what is known of it ready
  with_results : (matched : Active) (results : AsyncResultsState) → PutsOne ignoring request m.written begun matched → IsActiveSettled (record begun { results = results })
      → PutsOne ignoring request m.written (record begun { results = results }) (record matched { results = results })
  with_results matched results puts settled = record {
    put = puts.put;
    puts = puts.puts;
    left = puts.left;
    settled = record { replaying = puts.settled.replaying; opened = puts.settled.opened };
    more = puts.more;
    requests = puts.requests;
    frames = puts.frames;
    fit = puts.fit;
    others = ap (λ (a : Active). record a { results = results }) puts.others;
  }

  pub replayed : (matched : Active) (results : AsyncResultsState) → PutsOne ignoring request m.written begun matched
      → results_of results ≡ with_known (known_result m.completions (request ∷ [])) (results_of matched.results)
      → Replies checks_off given m call (Answer.Handle handle) old (record matched { results = results })
  replayed matched results puts ready =
      read_answers given m call request one handle old begun begins checks_off ignoring ignores (record begun { results = results })
      (ready ∙ ap (λ (a : Active). with_known (known_result m.completions (request ∷ [])) (results_of a.results)) puts.others)
      refl (record matched { results = results }) (with_results matched results puts)

  mismatches : put_one (header_equal ignoring) request (left_of begun) m.written ≡ None → reply_to (same_header checks_off) given m call ≡ FailedBy Mismatch
  mismatches none =
      replied (same_header checks_off) given m call request None one.asks.refused one.asks.work one.asks.requests
      (ap (λ (b : Bool). put_one (header_equal b) request m.left m.written) (sym ignores)
      ∙ ap (λ (l : Commands). put_one (header_equal ignoring) request l m.written) (sym (left_is given m call request one handle old begun begins)) ∙ none)

  none_then : (made : Request) → as_recorded (left_of begun) made ≡ request → put_one (header_equal ignoring) (as_recorded (left_of begun) made) (left_of begun) m.written ≡ None
      → put_one (header_equal ignoring) request (left_of begun) m.written ≡ None
  none_then made is none = ap (λ (r : Request). put_one (header_equal ignoring) r (left_of begun) m.written) (sym is) ∙ none

  -- what is wrong with what is next
  unread_then : (error : DecodingError) → IsNextUnread error (left_of begun) → IsNextUnread error m.left
  unread_then error is = subst (λ (l : Commands). IsNextUnread error l) (left_is given m call request one handle old begun begins) is

  pub unreplayed : {L E : Type 0} (made : Request) → as_recorded (left_of begun) made ≡ request → (error : StateReadError L E) → MatchFails ignoring made m.written (left_of begun) error
      → MatchFailsAs checks_off given m call error
  unreplayed made is (errors.Lazy (unmatched.Unavailable error)) fails = fails
  unreplayed made is (errors.Lazy unmatched.OutOfMemory) fails = tt
  unreplayed made is (errors.Lazy (unmatched.Decoding error)) fails = (mismatches (none_then made is fails.0), unread_then error fails.1)
  unreplayed made is (errors.Lazy (unmatched.Mismatch error)) fails = mismatches (none_then made is fails.0)
  unreplayed made is (errors.Eager (unmatched.Unavailable error)) fails = fails
  unreplayed made is (errors.Eager unmatched.OutOfMemory) fails = tt
  unreplayed made is (errors.Eager (unmatched.Decoding error)) fails = (mismatches (none_then made is fails.0), unread_then error fails.1)
  unreplayed made is (errors.Eager (unmatched.Mismatch error)) fails = mismatches (none_then made is fails.0)
  unreplayed made is (errors.OtherType error) fails = mismatches (none_then made is fails.0)
  unreplayed made is errors.Empty fails =
      (mismatches (none_then made is fails.0), subst (λ (l : Commands). IsNoRequest l) (left_is given m call request one handle old begun begins) fails.1)

  -- so the read fails
  pub fails_unreplayed : {L E : Type 0} (made : Request) → as_recorded (left_of begun) made ≡ request → (error : StateReadError L E) → MatchFails ignoring made m.written (left_of begun) error
      → (result : Result ℕ (ReadError L E)) → result ≡ Err (Replay error) → (new : Active) → new.output ≡ begun.output → Reads checks_off given m call old result new
  fails_unreplayed {L} {E} made same error fails result is new output =
      subst (λ (r : Result ℕ (ReadError L E)). Reads checks_off given m call old r new) (sym is)
      ((unreplayed made same error fails, subst (λ (n : ℕ). HasCompletions n old) (sym one.completions) begins.takes.has), output ∙ output_is given m call request one handle old begun begins)

  -- memory was refused behind it
  pub fails_for_memory : {L E : Type 0} (result : Result ℕ (ReadError L E)) → result ≡ Err OutOfMemory → (new : Active) → new.output ≡ begun.output → Reads checks_off given m call old result new
  fails_for_memory {L} {E} result is new output =
      subst (λ (r : Result ℕ (ReadError L E)). Reads checks_off given m call old r new) (sym is) (tt, output ∙ output_is given m call request one handle old begun begins)

-- ---- by what a read asks for, where its completion and its handle were taken in replay

-- what the recorded read stands for
abbrev pub recorded : (ℕ → Request) → Machine → Request
recorded asked m = as_recorded m.left (asked m.completions)

module _ (ignoring : Bool) (asked : ℕ → Request) {handle id : ℕ} (ty : MessageType) (old : Active) {begun : Active} (taken : TakesCompletion (id, handle) (asking ty [] old) begun) (replays : old.is_replaying ≡ true) where
  begun_in_replay : (given : Invocation) (m : Machine) → Sees given old m → HasCallBegun given m handle old begun
  begun_in_replay given m sees = record { sees = sees; ty = ty; name = []; id = id; takes = taken }

  module _ (given : Invocation) (m : Machine) (call : Call) (one : ReadsOne given m call (recorded asked m)) (sees : Sees given old m) where
    settled : IsActiveSettled begun
    settled = settled_is given m call (recorded asked m) one handle old begun (begun_in_replay given m sees)

    left : left_of begun ≡ m.left
    left = left_is given m call (recorded asked m) one handle old begun (begun_in_replay given m sees)

    recorded_is : as_recorded (left_of begun) (asked id) ≡ recorded asked m
    recorded_is = λ i. as_recorded (left i) (asked ((taken.id ∙ sees.completions) i))

  still_replays_then : begun.is_replaying ≡ true
  still_replays_then = ap (λ (a : Active). a.is_replaying) taken.others ∙ replays

  -- it is matched, and what was known of it is ready
  pub reads_recorded : {K L E : Type 0} (read : StateRead K) (known_of : StateRead K → Option NotificationResult)
      (lazy_request_of : L → Option Request) (request_of : E → Option Request) (known : E → Option K)
      → ((left : Commands) (n : ℕ) → TellsNext lazy_request_of request_of known left read → known_result n (as_recorded left (asked n) ∷ []) ≡ arrivals_of n (known_of read))
      → (matched : Active) → ((made : Request) (written : List Request) → Some (asked id) ≡ Some made → begun.is_replaying ≡ true → IsActiveSettled begun
      → PutsOne ignoring (as_recorded (left_of begun) made) written begun matched)
      → TellsNext lazy_request_of request_of known (left_of begun) read → (shown : Option NotificationResult) → shown ≡ known_of read
      → (results : AsyncResultsState) → results_of results ≡ with_known (arrivals_of id shown) (results_of matched.results)
      → ReadsFor {L = L} {E = E} (recorded asked) ignoring old (Ok handle) (record matched { results = results })
  reads_recorded read known_of lazy_request_of request_of known is_known matched matches next shown shows results ready checks_off given m call one ignores sees =
      let id_is : id ≡ m.completions = taken.id ∙ sees.completions in
      let next_left = subst (λ (l : Commands). TellsNext lazy_request_of request_of known l read) (left given m call one sees) next in
      replayed checks_off ignoring given m call (recorded asked m) one ignores handle old begun (begun_in_replay given m sees) matched results
      (subst (λ (r : Request). PutsOne ignoring r m.written begun matched) (recorded_is given m call one sees) (matches (asked id) m.written refl still_replays_then (settled given m call one sees)))
      (ready ∙ ap (λ (known : List Arrival). with_known known (results_of matched.results)) ((λ i. arrivals_of (id_is i) (shows i)) ∙ sym (is_known m.left m.completions next_left)))

  -- it is not matched
  pub fails_unmatched : {L E : Type 0} (error : StateReadError L E) → ((made : Request) (written : List Request) → Some (asked id) ≡ Some made → begun.is_replaying ≡ true → IsActiveSettled begun
      → MatchFails ignoring made written (left_of begun) error) → (result : Result ℕ (ReadError L E)) → IsErrAnd result (λ told. told ≡ Replay error)
      → (new : Active) → new.output ≡ begun.output → ReadsFor (recorded asked) ignoring old result new
  fails_unmatched error unmatched result fails new output checks_off given m call one ignores sees =
      let told = err_from_is_err_and result fails in
      fails_unreplayed checks_off ignoring given m call (recorded asked m) one ignores handle old begun (begun_in_replay given m sees) (asked id) (recorded_is given m call one sees) error
      (unmatched (asked id) m.written refl still_replays_then (settled given m call one sees)) result (told.1 ∙ ap Err told.2) new output

  -- memory was refused for what was known
  pub fails_unready : {L E : Type 0} (result : Result ℕ (ReadError L E)) → IsErrAnd result (λ told. told ≡ OutOfMemory) → (new : Active) → new.output ≡ begun.output
      → ReadsFor (recorded asked) ignoring old result new
  fails_unready result fails new output checks_off given m call one ignores sees =
      let told = err_from_is_err_and result fails in
      fails_for_memory checks_off ignoring given m call (recorded asked m) one ignores handle old begun (begun_in_replay given m sees) result (told.1 ∙ ap Err told.2) new output
