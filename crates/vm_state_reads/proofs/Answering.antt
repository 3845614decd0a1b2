-- A read of which all is done but that its command is put does what the abstract machine does.
use Rattle.std.proofs.Common.{◌≡◌, ◌+◌, ◌∷◌, ◌++◌, ℕ, Bool, ◌||◌, [], length, map, Some, Result, Ok, Err, refl, sym, ap, ◌∙◌, subst}
use Rattle.std.specs.Prelude.{IsErrAnd}
use Rattle.std.proofs.lemmas.Result.{err_from_is_err_and}
use Rattle.journal_model.specs.declared.notification.NotificationId.TheVariants.{CompletionId}
use Rattle.journal_model.specs.declared.call.Call.{Call}
use Rattle.journal_model.specs.declared.call.Answer.{Answer}
use Rattle.journal_model.specs.Request.{Request}
use Rattle.journal_model.specs.Await.{child_of}
use Rattle.journal_model.specs.History.{completions_of, signals_of}
use Rattle.journal_model.specs.Delivery.{known_result}
use Rattle.journal_model.specs.Run.{Invocation}
use Rattle.attempt_model.specs.Requests.{answer_by}
use Rattle.attempt_model.specs.Results.{Slots, ready_after_all}
use Rattle.attempt_model.specs.Machine.{Machine, next_slot}
use Rattle.vm_awaits.specs.declared.state.AsyncResultsState.{AsyncResultsState}
use Rattle.vm_awaits.specs.Views.{AsyncResults, results_of}
use Rattle.protocol_types.specs.declared.message_type.MessageType.{MessageType}
use Rattle.journal_model.specs.Notification.{Text}
use Rattle.vm_awaits.specs.Calls.{with_handle}
use Rattle.vm_context.specs.Eager.{KnownState}
use Rattle.vm_context.specs.Journal.{after_command, after_completions}
use Rattle.vm_context.specs.StateKnowledge.{KnowsState}
use Rattle.vm_context.proofs.Keeping.{others_keep}
use Rattle.vm_commands.specs.HeaderEquality.{is_unstable}
use Rattle.protocol_stream.specs.declared.encoder.EncodingError.TheVariants as unsent
use Rattle.vm_calls.specs.declared.active.Active.{Active}
use Rattle.vm_calls.specs.declared.put_error.PutError.{PutError}
use Rattle.vm_calls.specs.declared.put_error.PutError.TheVariants as puts
use Rattle.vm_calls.specs.declared.call_error.CallError.TheVariants.{Put}
use Rattle.vm_calls.specs.declared.call_error.NumberError.{NumberError}
use Rattle.vm_calls.specs.declared.call_error.NumberError.TheVariants as numbers
use Rattle.vm_calls.specs.Active.{Sees, asking, TakesCompletion, has_left, left_of, LacksCompletions, HasCompletions, IsActiveSettled, PutsOne, PutsIn}
use Rattle.vm_calls.specs.CommandCalls.{Replies, FailsAs, IsReadyToPut, HasCallBegun}
use Rattle.vm_calls.proofs.Tracking.{none_more, none_made}
use Rattle.vm_calls.proofs.CommandCalls.{no_more, put_answers, put_fails_as}
use Rattle.vm_state_reads.specs.declared.read_error.ReadError.{ReadError}
use Rattle.vm_state_reads.specs.declared.read_error.ReadError.TheVariants as errors
use Rattle.vm_state_reads.specs.Errors.{lazy_read, eager_read}
use Rattle.vm_state_reads.specs.ReadAnswers.{ReadFailsAs, Reads, ReadsFor, PutsRead, PutsReadAs, ReadsOne, with_known}

module _ (given : Invocation) (m : Machine) (call : Call) (request : Request) (one : ReadsOne given m call request) (handle : ℕ) (old begun : Active) (begins : HasCallBegun given m handle old begun) where
  pub handle_is : answer_by given.input.invocation_id (next_slot m) m.signals call ≡ Answer.Handle handle
  handle_is = one.answer given.input.invocation_id (next_slot m) m.signals ∙ ap Answer.Handle (sym (begins.takes.handle ∙ ap (λ (r : AsyncResults). 17 + length r.slots) begins.sees.results))

  abbrev with_slots : Slots → AsyncResults
  with_slots slots = record { delivery = given.options.signal_delivery; queue = m.queue; ready = m.ready; slots = slots }

  results_are : results_of begun.results ≡ with_slots (m.slots ++ Some (CompletionId m.completions) ∷ [])
  results_are = begins.takes.results
      ∙ ap (λ (n : ℕ). with_handle (CompletionId n) (results_of old.results)) begins.sees.completions ∙ ap (λ (r : AsyncResults). with_handle (CompletionId m.completions) r) begins.sees.results

  pub left_is : left_of begun ≡ m.left
  left_is = ap (λ (a : Active). left_of a) begins.takes.others ∙ begins.sees.left

  pub output_is : begun.output ≡ old.output
  output_is = ap (λ (a : Active). a.output) begins.takes.others

  pub settled_is : IsActiveSettled begun
  settled_is = record {
    replaying = ap (λ (a : Active). a.is_replaying) begins.takes.others ∙ begins.sees.replaying ∙ ap has_left (sym left_is);
    opened = ap (λ (a : Active). a.output.is_closed) begins.takes.others ∙ begins.sees.opened;
  }

  pub read_is_ready : (read : Active) → results_of read.results ≡ with_known (known_result m.completions (request ∷ [])) (results_of begun.results)
      → read ≡ record begun { results = read.results } → IsReadyToPut given m call request old read
  read_is_ready read results is =
      let others : read ≡ record old { journal = after_completions 1 (after_command begins.ty begins.name old.journal); results = read.results } =
      is ∙ ap (λ (a : Active). record a { results = read.results }) begins.takes.others in
      record {
        left = ap (λ (a : Active). left_of a) others ∙ begins.sees.left;
        replaying = ap (λ (a : Active). a.is_replaying) others ∙ begins.sees.replaying;
        results = results ∙ ap (λ (r : AsyncResults). with_known (known_result m.completions (request ∷ [])) r) results_are ∙ (λ i. record {
          delivery = given.options.signal_delivery;
          queue = m.queue;
          ready = ready_after_all given.options.signal_delivery m.ready (known_result m.completions (request ∷ []));
          slots = m.slots ++ map Some (sym one.ids i);
        });
        state = subst (λ (state : KnownState). KnowsState state m.start (m.done ++ request ∷ [])) (sym (ap (λ (a : Active). a.state) others)) (others_keep old.state m.start m.done request one.keeps begins.sees.state);
        completions = ap (λ (a : Active). a.journal.completions) others ∙ ap (λ (n : ℕ). n + 1) begins.sees.completions ∙ ap (λ (n : ℕ). m.completions + n) (sym one.completions);
        signals = ap (λ (a : Active). a.journal.signals) others ∙ begins.sees.signals ∙ no_more m.signals (signals_of call) one.signals;
        opened = ap (λ (a : Active). a.output.is_closed) others ∙ begins.sees.opened;
        children = none_more m.children read.children (child_of given.options.implicit_cancellation m.completions call) one.children (ap (λ (a : Active). a.children) others ∙ begins.sees.children);
        made = none_made m.completions (completions_of call) m.children (child_of given.options.implicit_cancellation m.completions call) one.children begins.sees.made;
        output = ap (λ (a : Active). a.output) others;
        has = subst (λ (n : ℕ). HasCompletions n old) (sym one.completions) begins.takes.has;
      }

  module _ (checks_off ignoring : Bool) (ignores : ignoring ≡ (checks_off || is_unstable call)) (read : Active)
      (results : results_of read.results ≡ with_known (known_result m.completions (request ∷ [])) (results_of begun.results)) (is : read ≡ record begun { results = read.results }) (new : Active) where
    pub read_fails : {M : Type 0} (error : PutError M) → (IsActiveSettled read → PutsIn ignoring request m.written read (Err error) new) → FailsAs checks_off given m call old (Put error) × (new.output ≡ old.output)
    read_fails error puts = put_fails_as checks_off ignoring given m call request one.asks ignores old read (read_is_ready read results is) error new puts

    pub read_answers : (IsActiveSettled read → PutsOne ignoring request m.written read new) → Replies checks_off given m call (Answer.Handle handle) old new
    read_answers puts = put_answers checks_off ignoring given m call request one.asks ignores old read (read_is_ready read results is) (Answer.Handle handle) handle_is new puts

-- ---- what it is put as

module _ (checks_off : Bool) (given : Invocation) (m : Machine) (call : Call) (old new : Active) where
  -- the command of either kind of read
  either_put : {P : Type 0} (Q : Type 0) (put : Result ℕ (PutError P)) → PutsRead checks_off given m call old put new
      → Reads checks_off given m call {L = P} {E = Q} old (lazy_read put) new × Reads checks_off given m call {L = Q} {E = P} old (eager_read put) new
  either_put Q (Ok handle) put = (put, put)
  either_put Q (Err (puts.Replay error)) put = (put, put)
  either_put Q (Err (puts.Encoding unsent.PayloadTooLong)) put = (put, put)
  either_put Q (Err (puts.Encoding unsent.OutOfMemory)) put = (put, put)

  lazily : {L E : Type 0} (put : Result ℕ (PutError L)) (result : Result ℕ (ReadError L E)) → result ≡ lazy_read put → PutsRead checks_off given m call old put new
      → Reads checks_off given m call old result new
  lazily {L} {E} put result is done = subst (λ (r : Result ℕ (ReadError L E)). Reads checks_off given m call old r new) (sym is) (either_put E put done).0

  eagerly : {L E : Type 0} (put : Result ℕ (PutError E)) (result : Result ℕ (ReadError L E)) → result ≡ eager_read put → PutsRead checks_off given m call old put new
      → Reads checks_off given m call old result new
  eagerly {L} {E} put result is done = subst (λ (r : Result ℕ (ReadError L E)). Reads checks_off given m call old r new) (sym is) (either_put L put done).1

-- a read has begun that stands for this request, and what is known of it is ready
module _ {M : Type 0} (ignoring : Bool) (request : Machine → Request) (ty : MessageType) (name : Text) (old : Active) {id handle : ℕ} {begun : Active} (taken : TakesCompletion (id, handle) (asking ty name old) begun)
    (made : Request) (is : (given : Invocation) (m : Machine) → Sees given old m → made ≡ request m) (results : AsyncResultsState)
    (ready : (given : Invocation) (m : Machine) → Sees given old m → results_of results ≡ with_known (known_result m.completions (request m ∷ [])) (results_of begun.results))
    (put : Result ℕ (PutError M)) (new : Active) (puts : PutsReadAs (Some made) ignoring handle (record begun { results = results }) put new) where
  puts_read : (checks_off : Bool) (given : Invocation) (m : Machine) (call : Call) → ReadsOne given m call (request m) → ignoring ≡ (checks_off || is_unstable call) → Sees given old m
      → PutsRead checks_off given m call old put new
  puts_read checks_off given m call one ignores sees =
      puts checks_off given m call (request m) old (ap Some (is given m sees)) one ignores
      (record { begun = begun; begins = record { sees = sees; ty = ty; name = name; id = id; takes = taken }; results = ready given m sees; others = refl })

  pub reads_lazily : {E : Type 0} (result : Result ℕ (ReadError M E)) → result ≡ lazy_read put → ReadsFor request ignoring old result new
  reads_lazily result told checks_off given m call one ignores sees = lazily checks_off given m call old new put result told (puts_read checks_off given m call one ignores sees)

  pub reads_eagerly : {L : Type 0} (result : Result ℕ (ReadError L M)) → result ≡ eager_read put → ReadsFor request ignoring old result new
  reads_eagerly result told checks_off given m call one ignores sees = eagerly checks_off given m call old new put result told (puts_read checks_off given m call one ignores sees)

-- no number was taken
pub number_fails : {L E : Type 0} (request : Machine → Request) (ignoring : Bool) (old new : Active) (error : NumberError) (result : Result ℕ (ReadError L E))
    → (error ≡ numbers.IdsExhausted → LacksCompletions 1 old) → new.output ≡ old.output → IsErrAnd result (λ told. told ≡ errors.Number error) → ReadsFor request ignoring old result new
number_fails {L} {E} request ignoring old new error result lacks output fails checks_off given m call one ignores sees =
    let told = err_from_is_err_and result fails in
    subst (λ (r : Result ℕ (ReadError L E)). Reads checks_off given m call old r new) (sym (told.1 ∙ ap Err told.2)) (by_error error lacks)
  where
    by_error : (e : NumberError) → (e ≡ numbers.IdsExhausted → LacksCompletions 1 old) → ReadFailsAs checks_off given m call {L = L} {E = E} old (errors.Number e) × (new.output ≡ old.output)
    by_error numbers.IdsExhausted lacks = (subst (λ (n : ℕ). LacksCompletions n old) (sym one.completions) (lacks refl), output)
    by_error numbers.OutOfMemory lacks = (tt, output)

-- what puts one request puts another, where both are the same for a machine that is seen
pub reads_the_same : {L E : Type 0} {one other : Machine → Request} {ignoring : Bool} (old new : Active) (result : Result ℕ (ReadError L E))
    → ((given : Invocation) (m : Machine) → Sees given old m → other m ≡ one m) → ReadsFor one ignoring old result new → ReadsFor other ignoring old result new
reads_the_same old new result same reads checks_off given m call asks ignores sees =
    reads checks_off given m call (subst (λ (r : Request). ReadsOne given m call r) (same given m sees) asks) ignores sees
