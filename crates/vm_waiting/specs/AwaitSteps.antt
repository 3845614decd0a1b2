-- What an await does, one step behind the other, and what that is to the abstract machine.
use Rattle.std.specs.Prelude.{◌≡◌, ◌≤◌, ◌^◌, ◌⊎◌, ℕ, Bool, true, false, ◌&&◌, is_some, List, [], ◌∷◌, ◌++◌, length, Some, None, Result, Ok, Err}
use Rattle.std.specs.List.{AllByRecursion}
use Rattle.journal_model.specs.declared.call.Call.{Call}
use Rattle.journal_model.specs.declared.call.Answer.{Answer}
use Rattle.journal_model.specs.declared.options.ImplicitCancellationOption.{ImplicitCancellationOption}
use Rattle.journal_model.specs.Notification.{cancel_id}
use Rattle.journal_model.specs.AwaitTree.{AwaitTree, Combined, FirstCompleted, no_trees}
use Rattle.journal_model.specs.History.{cancel_handle}
use Rattle.journal_model.specs.Await.{ends_awaits, awaited_tree}
use Rattle.journal_model.specs.Refusal.{refusal_of}
use Rattle.journal_model.specs.Request.{Request}
use Rattle.journal_model.specs.Run.{Invocation}
use Rattle.journal_model.specs.Spelling.{request_payload}
use Rattle.attempt_model.specs.Children.{cancel_requests_for}
use Rattle.attempt_model.specs.Machine.{Machine, Answered, FailedBy, Mismatch, UncompletedInReplay, ChildNotId, reply_to, reply_where_cancelled}
use Rattle.attempt_model.specs.Requests.{PutState, put_all}
use Rattle.attempt_model.specs.Results.{waiting_for, ready_without_first, resolution_of}
use Rattle.protocol_stream.specs.declared.encoder.EncodingError.TheVariants as unsent
use Rattle.vm_awaits.specs.Views.{AsyncResults, results_of, ready_of}
use Rattle.vm_awaits.specs.FutureResolution.{resolution_as, line_left}
use Rattle.vm_awaits.specs.declared.resolving.ResolveFutureResult.{ResolveFutureResult}
use Rattle.vm_awaits.specs.declared.resolving.ResolveFutureResult.TheVariants as resolved
use Rattle.vm_commands.specs.HeaderEquality.{same_header}
use Rattle.vm_commands.specs.NextCommand.{IsNextUnread}
use Rattle.vm_commands.specs.declared.replay_error.ReplayError.TheVariants as unmatched
use Rattle.vm_calls.specs.declared.active.Active.{Active}
use Rattle.vm_calls.specs.declared.put_error.PutError.{PutError}
use Rattle.vm_calls.specs.declared.put_error.PutError.TheVariants.{Replay, Encoding}
use Rattle.vm_calls.specs.Active.{Sees, RequestFits, IsActiveSettled, writes_frames}
use Rattle.vm_calls.specs.CommandCalls.{Replies}
use Rattle.vm_calls.specs.SpentReplay.{IsSpent}
use Rattle.vm_waiting.specs.ChildCancellation.{LooksFor, PutsEach, PutsNone}
use Rattle.vm_waiting.specs.TakeEffects.{Becomes}
use Rattle.vm_waiting.specs.WaitsFor.{waits_as}
use Rattle.vm_waiting.specs.declared.awaiting.Awaited.{Awaited}
use Rattle.vm_waiting.specs.declared.awaiting.Awaited.TheVariants.{AnyCompleted, Cancelled, Asleep}
use Rattle.vm_waiting.specs.declared.awaiting.AwaitError.{AwaitError}
use Rattle.vm_waiting.specs.declared.awaiting.AwaitError.TheVariants as unawaited
use Rattle.vm_waiting.specs.declared.cancelling.CancelError.{CancelError}
use Rattle.vm_waiting.specs.declared.cancelling.CancelError.TheVariants as uncancelled
use Rattle.vm_waiting.specs.declared.children.ChildrenKnown.{ChildrenKnown}
use Rattle.vm_waiting.specs.declared.children.ChildrenKnown.TheVariants as known
use Rattle.vm_waiting.specs.declared.waits_for.WaitsFor.{WaitsFor}
use Rattle.vm_waiting.specs.declared.waits_for.WaitsFor.TheVariants.{Future, Child}

-- whether a tree waits for nothing
abbrev pub awaits_nothing : AwaitTree ℕ → Bool
awaits_nothing (Combined FirstCompleted no_trees) = true
awaits_nothing _ = false

-- whether a cancellation waits, and ends awaits
abbrev pub is_cancelled_in : ImplicitCancellationOption → AsyncResults → Bool
is_cancelled_in cancellation results = ends_awaits cancellation && is_some (waiting_for results.slots results.ready cancel_handle)

-- one delivery of the cancellation is taken
abbrev pub after_cancellation : AsyncResults → AsyncResults
after_cancellation results = record results { ready = ready_without_first results.ready (Some cancel_id) }

-- but for what has come nothing has changed
abbrev pub LooksAlone : (old new : Active) → Type 0
LooksAlone old new = new ≡ record old { results = new.results }

-- one that stays asleep waits, but in replay it fails
abbrev pub asleep_as : (is_replaying : Bool) → WaitsFor → Result Awaited AwaitError
asleep_as true waits = Err (unawaited.UncompletedInReplay waits)
asleep_as false waits = Ok (Asleep waits)

-- ---- a cancellation ends it

-- one request for each child is put, no child is left, and one delivery of the cancellation is taken
pub record CancelsAll (ignoring : Bool) (old new : Active) : Type 0 where
  pub put : Active
  pub puts : (written : List Request) → IsActiveSettled old → PutsEach ignoring (cancel_requests_for (ready_of old.results) old.children) written old (Ok tt) put
  pub spent : IsSpent old → PutsNone (cancel_requests_for (ready_of old.results) old.children) old (Ok tt) put
  pub taken : results_of new.results ≡ after_cancellation (results_of put.results)
  pub others : new ≡ record put { results = new.results; children = [] }

-- some of the requests are put, and the next is not
pub record StopsAmong (ignoring : Bool) (old : Active) (error : CancelError) (new : Active) : Type 0 where
  pub puts : (written : List Request) → IsActiveSettled old → PutsEach ignoring (cancel_requests_for (ready_of old.results) old.children) written old (Err error) new
  pub spent : IsSpent old → PutsNone (cancel_requests_for (ready_of old.results) old.children) old (Err error) new

-- where memory is refused, none may be put
abbrev pub Cancels : (ignoring : Bool) → (old : Active) → Result Awaited AwaitError → (new : Active) → Type 0
Cancels ignoring old (Ok Cancelled) new = CancelsAll ignoring old new
Cancels ignoring old (Ok _) new = ⊥
Cancels ignoring old (Err (unawaited.Put error)) new = StopsAmong ignoring old (uncancelled.Put error) new
Cancels ignoring old (Err unawaited.OutOfMemory) new = (new ≡ old) ⊎ StopsAmong ignoring old uncancelled.OutOfMemory new
Cancels ignoring old (Err _) new = ⊥

-- by what is known of the children
abbrev pub PassesOnBy : ChildrenKnown → (ignoring : Bool) → (old : Active) → Result Awaited AwaitError → (new : Active) → Type 0
PassesOnBy known.AllIds ignoring old result new = Cancels ignoring old result new
PassesOnBy (known.Unknown completion) ignoring old result new = (result ≡ asleep_as old.is_replaying (Child completion)) × (new ≡ old)
PassesOnBy known.NoId ignoring old result new = (result ≡ Err unawaited.ChildNotId) × (new ≡ old)

-- the children are looked for, and it is passed on to them if they are known
pub record FindsAndPasses (ignoring : Bool) (old : Active) (result : Result Awaited AwaitError) (new : Active) : Type 0 where
  pub found : ChildrenKnown
  pub looked : Active
  pub looks : LooksFor old.children (results_of old.results) found (results_of looked.results)
  pub others : LooksAlone old looked
  pub goes_on : PassesOnBy found ignoring looked result new

-- or memory is refused while something was looked at
abbrev pub RunsOut : (old : Active) → Result Awaited AwaitError → (new : Active) → Type 0
RunsOut old result new = (result ≡ Err unawaited.OutOfMemory) × LooksAlone old new

abbrev pub PassesOn : (ignoring : Bool) → (old : Active) → Result Awaited AwaitError → (new : Active) → Type 0
PassesOn ignoring old result new = FindsAndPasses ignoring old result new ⊎ RunsOut old result new

-- ---- the await

-- an await that is awake
abbrev pub WakesBy : (is_cancelled ignoring : Bool) → (old : Active) → Result Awaited AwaitError → (new : Active) → Type 0
WakesBy false ignoring old result new = (result ≡ Ok AnyCompleted) × (new ≡ old)
WakesBy true ignoring old result new = PassesOn ignoring old result new

abbrev pub WakesAs : ImplicitCancellationOption → (ignoring : Bool) → (old : Active) → Result Awaited AwaitError → (new : Active) → Type 0
WakesAs cancellation ignoring old result new = WakesBy (is_cancelled_in cancellation (results_of old.results)) ignoring old result new

-- the tree of an await is resolved
pub record Resolves (cancellation : ImplicitCancellationOption) (tree : AwaitTree ℕ) (old : AsyncResults) (answer : ResolveFutureResult) (new : AsyncResults) : Type 0 where
  pub resolution : resolution_of old.delivery old.slots (awaited_tree cancellation tree) old.queue old.ready ≡ resolution_as new.queue new.ready answer
  pub queue : new.queue ≡ line_left new.queue answer
  pub delivery : new.delivery ≡ old.delivery
  pub slots : new.slots ≡ old.slots

abbrev pub GoesOnBy : ResolveFutureResult → ImplicitCancellationOption → (ignoring : Bool) → (old : Active) → Result Awaited AwaitError → (new : Active) → Type 0
GoesOnBy resolved.AnyCompleted cancellation ignoring old result new = WakesAs cancellation ignoring old result new
GoesOnBy (resolved.WaitExternalInput left) cancellation ignoring old result new = (result ≡ asleep_as old.is_replaying (Future left)) × (new ≡ old)

-- what the tree is resolved to is what it is answered
pub record ResolvesAndGoesOn (cancellation : ImplicitCancellationOption) (ignoring : Bool) (tree : AwaitTree ℕ) (old : Active) (result : Result Awaited AwaitError) (new : Active) : Type 0 where
  pub answer : ResolveFutureResult
  pub looked : Active
  pub resolves : Resolves cancellation tree (results_of old.results) answer (results_of looked.results)
  pub others : LooksAlone old looked
  pub goes_on : GoesOnBy answer cancellation ignoring looked result new

-- In each attempt, whatever it is seen as.
abbrev pub AwaitComesTo : ImplicitCancellationOption → (ignoring : Bool) → AwaitTree ℕ → (old : Active) → Result Awaited AwaitError → (new : Active) → Type 0
AwaitComesTo cancellation ignoring tree old result new = ResolvesAndGoesOn cancellation ignoring tree old result new ⊎ RunsOut old result new

-- ---- the abstract machine

module _ (checks_off : Bool) (given : Invocation) (m : Machine) (tree : AwaitTree ℕ) where
  -- A cancellation is passed on, and stops on the way: the first of its requests were put, and the next was not. Written are exactly
  -- the frames of those by which the machine has written more.
  pub record StopsCancelling (old new : Active) : Type 0 where
    pub known : Machine
    pub keeps : known ≡ record m { queue = known.queue; ready = known.ready }
    pub asked : List Request
    pub asks : asked ≡ cancel_requests_for known.ready m.children
    pub replies : reply_to (same_header checks_off) given m (Call.Await tree)
        ≡ reply_where_cancelled (same_header checks_off (Call.Await tree)) given known asked (put_all (same_header checks_off (Call.Await tree)) asked (record { left = m.left; written = m.written }))
    pub front : List Request
    pub next : Request
    pub behind : List Request
    pub parts : asked ≡ front ++ next ∷ behind
    pub some : PutState
    pub puts : put_all (same_header checks_off (Call.Await tree)) front (record { left = m.left; written = m.written }) ≡ Some some
    pub more : List Request
    pub written : some.written ≡ m.written ++ more
    pub frames : new.output ≡ writes_frames more old.output
    pub fit : AllByRecursion RequestFits more

  -- why the next is not put
  abbrev pub StopsFor : {M : Type 0} → PutError M → (left : PutState) → (next : Request) → Type 0
  StopsFor (Replay (unmatched.Unavailable error)) some next = ⊥
  StopsFor (Replay (unmatched.Decoding error)) some next = (reply_to (same_header checks_off) given m (Call.Await tree) ≡ FailedBy Mismatch) × IsNextUnread error some.left
  StopsFor (Replay (unmatched.Mismatch error)) some next = reply_to (same_header checks_off) given m (Call.Await tree) ≡ FailedBy Mismatch
  StopsFor (Replay unmatched.OutOfMemory) some next = Unit {0}
  StopsFor (Encoding unsent.PayloadTooLong) some next = (some.left ≡ []) × (2 ^ 32 ≤ length (request_payload next))
  StopsFor (Encoding unsent.OutOfMemory) some next = (some.left ≡ []) × RequestFits next

  abbrev pub FailsCancelling : {M : Type 0} → PutError M → (old new : Active) → Type 0
  FailsCancelling error old new = (stops : StopsCancelling old new) × StopsFor error stops.some stops.next

  -- An await is answered as the abstract machine answers it. Where memory is refused nothing may be written.
  abbrev pub Awaits : (old : Active) → Result Awaited AwaitError → (new : Active) → Type 0
  Awaits old (Ok AnyCompleted) new = Becomes given m (reply_to (same_header checks_off) given m (Call.Await tree)) (Answered Answer.Woken) new
  Awaits old (Ok Cancelled) new = Replies checks_off given m (Call.Await tree) Answer.Cancelled old new
  Awaits old (Ok (Asleep waits)) new = Becomes given m (reply_to (same_header checks_off) given m (Call.Await tree)) (waits_as waits) new
  Awaits old (Err (unawaited.UncompletedInReplay waits)) new = reply_to (same_header checks_off) given m (Call.Await tree) ≡ FailedBy UncompletedInReplay
  Awaits old (Err unawaited.ChildNotId) new = reply_to (same_header checks_off) given m (Call.Await tree) ≡ FailedBy ChildNotId
  Awaits old (Err (unawaited.Put error)) new = FailsCancelling error old new
  Awaits old (Err unawaited.OutOfMemory) new = (new.output ≡ old.output) ⊎ StopsCancelling old new

-- what it does, for every machine that the attempt is seen as, where it is not refused
abbrev pub AwaitsSeen : ImplicitCancellationOption → (checks_off : Bool) → AwaitTree ℕ → (old : Active) → Result Awaited AwaitError → (new : Active) → Type 0
AwaitsSeen cancellation checks_off tree old result new =
    (given : Invocation) (m : Machine) → given.options.implicit_cancellation ≡ cancellation → refusal_of given.version (Call.Await tree) ≡ None → Sees given old m
    → Awaits checks_off given m tree old result new
