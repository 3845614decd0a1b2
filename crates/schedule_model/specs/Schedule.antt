-- What each event answers and leaves, and what a list of events does one after another.
use Rattle.std.specs.Prelude.{◌≡◌, ◌⊎◌, ℕ, min, Bool, true, false, List, [], ◌∷◌, ◌++◌, length, take, Option, Some, None, Result, Ok, Err}
use Rattle.journal_model.specs.Notification.{Bytes, Text}
use Rattle.journal_model.specs.Run.{Handler}
use Rattle.store_refusals.specs.declared.refusal.Refusal.{Refusal}
use Rattle.store_refusals.specs.declared.refusal.Refusal.TheVariants.{OutOfMemory}
use Rattle.vm_types.specs.declared.options.VMOptions.{VMOptions}
use Rattle.vm_attempt.specs.declared.attempt.Attempt.{Attempt}
use Rattle.vm_attempt.specs.Attempt as attempts
use Rattle.vm_attempt.specs.Output.{output_of, Gathers, Advances}
use Rattle.vm_attempt.specs.TurnOutcomes.{Turns}
use Rattle.vm_attempt.specs.declared.run_outcome.RunOutcome.{RunOutcome}
use Rattle.schedule_model.specs.declared.event.Event.{Event}
use Rattle.schedule_model.specs.declared.event.Event.TheVariants as event
use Rattle.schedule_model.specs.declared.event.Reply.{Reply}
use Rattle.schedule_model.specs.declared.event.Reply.TheVariants as reply
use Rattle.schedule_model.specs.declared.event.EventRefusal.{EventRefusal}
use Rattle.schedule_model.specs.declared.event.EventRefusal.TheVariants as refusal
use Rattle.schedule_model.specs.declared.held.HeldAttempt.{HeldAttempt}
use Rattle.store_steps.specs.declared.frame.FrameReply.{FrameReply}
use Rattle.store_calls.specs.declared.begun.BegunAttempt.{BegunAttempt}
use Rattle.store_calls.specs.AbstractStore.{Standing, StaysStanding}
use Rattle.store_calls.specs.Calls.{Invokes, CompletesCall, Signals, Cancels, Ticks, BeginsStoredAttempt, BeginsAttempt, HandsOut, ClosesStoredInput, Stops}
use Rattle.store_calls.specs.Frames.{Accepts}
use Rattle.schedule_model.specs.InputFeed.{given_in, FeedsParts}
use Rattle.schedule_model.specs.HeldAttempts.{held_of, with_attempt}
use Rattle.schedule_model.specs.Outcomes.{tells_mismatch}

-- ---- replies of the store's calls

-- to a call that answers nothing
abbrev pub RepliesDone : (Result (Unit {0}) Refusal → Type 0) → Reply → Type 0
RepliesDone Does reply.Done = Does (Ok tt)
RepliesDone Does (reply.Refused (refusal.Store why)) = Does (Err why)
RepliesDone Does _ = ⊥

-- to a result, to a signal and to a cancellation
abbrev pub RepliesPlace : (Result ℕ Refusal → Type 0) → Reply → Type 0
RepliesPlace Does (reply.Placed place) = Does (Ok place)
RepliesPlace Does (reply.Refused (refusal.Store why)) = Does (Err why)
RepliesPlace Does _ = ⊥

-- to a tick
abbrev pub RepliesCount : (Result ℕ Refusal → Type 0) → Reply → Type 0
RepliesCount Does (reply.Ticked count) = Does (Ok count)
RepliesCount Does (reply.Refused (refusal.Store why)) = Does (Err why)
RepliesCount Does _ = ⊥

-- what the store stands for, and the attempts that are held
pub record Scheduled (H : Type 0) : Type 0 where
  pub standing : Standing
  pub held : List (HeldAttempt H)

module _ {H : Type 0} where
  -- ---- an attempt begins

  -- one that speaks the invocation's version was made, was fed its start frame, which has not stopped it, and is held
  pub record HoldsBegun (options : VMOptions) (id : Text) (handler : H) (begun : BegunAttempt) (old new : List (HeldAttempt H)) : Type 0 where
    pub attempt : Attempt H
    pub fresh : attempts.IsMadeAndFed begun.version options handler begun.start attempt
    pub goes_on : attempts.has_stopped attempt.vm.state.phase ≡ false
    pub held : new ≡ old ++ record { invocation = id; number = begun.number; attempt = attempt } ∷ []

  -- where memory is refused to the scheduler or to the attempt, it stays begun, and nobody holds it
  abbrev pub BeginDoes : VMOptions → Text → H → ℕ → Standing → List (HeldAttempt H) → Reply → Standing → List (HeldAttempt H) → Type 0
  BeginDoes options id handler now old held (reply.Begun number) new more =
      (begun : BegunAttempt) × (number ≡ begun.number) × BeginsStoredAttempt id now begun old new × HoldsBegun options id handler begun held more
  BeginDoes options id handler now old held (reply.Refused (refusal.Store why)) new more =
      (BeginsAttempt id now (Err why) old new × (more ≡ held)) ⊎ ((begun : BegunAttempt) × (why ≡ OutOfMemory) × BeginsStoredAttempt id now begun old new × (more ≡ held))
  BeginDoes options id handler now old held _ new more = ⊥

  -- ---- what is done with an attempt that is held

  -- The next bytes go from the store to it, so many at most, in one part after another. A refusal of the first part is answered as such.
  abbrev pub FeedsOne : ℕ → HeldAttempt H → Standing → Reply → Standing → Attempt H → Type 0
  FeedsOne count one old (reply.Fed bytes why) new changed = (parts : List Bytes) × (bytes ≡ length (given_in parts)) × FeedsParts count parts why one old new changed
  FeedsOne count one old (reply.Refused (refusal.Store why)) new changed = HandsOut one.invocation one.number count (Err why) old new × (changed ≡ one.attempt)
  FeedsOne count one old _ new changed = ⊥

  -- where the store closes its input, it is told
  abbrev pub ClosesOne : HeldAttempt H → Standing → Reply → Standing → Attempt H → Type 0
  ClosesOne one old reply.Done new changed = ClosesStoredInput one.invocation one.number (Ok tt) old new × attempts.ClosesInput one.attempt changed
  ClosesOne one old (reply.Refused (refusal.Store why)) new changed = ClosesStoredInput one.invocation one.number (Err why) old new × (changed ≡ one.attempt)
  ClosesOne one old _ new changed = ⊥

  -- the store ends it, and it is held as before
  abbrev pub StopsOne : HeldAttempt H → Standing → Reply → Standing → Attempt H → Type 0
  StopsOne one old answer new changed = RepliesDone (λ result. Stops one.invocation one.number result old new) answer × (changed ≡ one.attempt)

  -- it makes a turn, whose body ends with this outcome if it executes one, and the store is not asked
  abbrev pub TurnsOne : (H → Handler) → RunOutcome → HeldAttempt H → Standing → Reply → Standing → Attempt H → Type 0
  TurnsOne function outcome one old (reply.Turned turn) new changed = Turns function outcome one.attempt turn changed × StaysStanding old new
  TurnsOne function outcome one old _ new changed = ⊥

  -- the next bytes go from it to the store, so many at most, and whole frames are taken; bytes that the store refuses stay first in line
  abbrev pub MovesOne : ℕ → HeldAttempt H → Standing → Reply → Standing → Attempt H → Type 0
  MovesOne count one old (reply.Moved bytes frames why) new changed =
      (replies : List FrameReply) × (frames ≡ length replies) × (bytes ≡ min count (length (output_of one.attempt)))
      × Accepts one.invocation one.number (take bytes (output_of one.attempt)) (Ok (replies, why)) old new × Advances bytes one.attempt changed
  MovesOne count one old (reply.Refused (refusal.Store why)) new changed =
      Accepts one.invocation one.number (take (min count (length (output_of one.attempt))) (output_of one.attempt)) (Err why) old new × Gathers one.attempt changed
  MovesOne count one old _ new changed = ⊥

  -- an event is refused before anything is asked, and nothing changes
  abbrev pub RefusesAtOnce : EventRefusal → Standing → List (HeldAttempt H) → Reply → Standing → List (HeldAttempt H) → Type 0
  RefusesAtOnce why old held answer new more = (answer ≡ reply.Refused why) × StaysStanding old new × (more ≡ held)

  -- the attempt that is held is changed in its place; one that is not held is refused before the store is asked
  abbrev pub IfHeld : (HeldAttempt H → Standing → Reply → Standing → Attempt H → Type 0) → Option (HeldAttempt H)
      → Standing → List (HeldAttempt H) → Reply → Standing → List (HeldAttempt H) → Type 0
  IfHeld Does None old held answer new more = RefusesAtOnce refusal.AttemptNotHeld old held answer new more
  IfHeld Does (Some one) old held answer new more = (changed : Attempt H) × Does one old answer new changed × (more ≡ with_attempt held one changed)

  -- a turn whose outcome tells a mismatch is refused, whoever is held
  abbrev pub UnlessMismatch : (is_mismatch : Bool) → (HeldAttempt H → Standing → Reply → Standing → Attempt H → Type 0) → Option (HeldAttempt H)
      → Standing → List (HeldAttempt H) → Reply → Standing → List (HeldAttempt H) → Type 0
  UnlessMismatch true Does one old held answer new more = RefusesAtOnce refusal.JournalMismatchOutcome old held answer new more
  UnlessMismatch false Does one old held answer new more = IfHeld Does one old held answer new more

  -- ---- events

  -- what an event does to what the store stands for and to what is held, and what it answers
  abbrev pub Does : (H → Handler) → VMOptions → Event H → Standing → List (HeldAttempt H) → Reply → Standing → List (HeldAttempt H) → Type 0
  Does function options (event.Invoke one) old held answer new more = RepliesDone (λ result. Invokes one result old new) answer × (more ≡ held)
  Does function options (event.Result id completion value) old held answer new more =
      RepliesPlace (λ result. CompletesCall id completion value result old new) answer × (more ≡ held)
  Does function options (event.Signal id key value) old held answer new more =
      RepliesPlace (λ result. Signals id key value result old new) answer × (more ≡ held)
  Does function options (event.Cancel id) old held answer new more = RepliesPlace (λ result. Cancels id result old new) answer × (more ≡ held)
  Does function options (event.Tick now) old held answer new more = RepliesCount (λ result. Ticks now result old new) answer × (more ≡ held)
  Does function options (event.Begin id handler now) old held answer new more = BeginDoes options id handler now old held answer new more
  Does function options (event.Feed id number count) old held answer new more = IfHeld (FeedsOne count) (held_of held id number) old held answer new more
  Does function options (event.Close id number) old held answer new more = IfHeld ClosesOne (held_of held id number) old held answer new more
  Does function options (event.Turn id number outcome) old held answer new more =
      UnlessMismatch (tells_mismatch outcome) (TurnsOne function outcome) (held_of held id number) old held answer new more
  Does function options (event.Move id number count) old held answer new more = IfHeld (MovesOne count) (held_of held id number) old held answer new more
  Does function options (event.Stop id number) old held answer new more = IfHeld StopsOne (held_of held id number) old held answer new more

  -- one event
  abbrev pub Applies : (H → Handler) → VMOptions → Event H → Reply → Scheduled H → Scheduled H → Type 0
  Applies function options one answer old new = Does function options one old.standing old.held answer new.standing new.held

  -- events one after another, with their replies
  abbrev pub AppliesAll : (H → Handler) → VMOptions → List (Event H) → List Reply → Scheduled H → Scheduled H → Type 0
  AppliesAll function options [] [] old new = new ≡ old
  AppliesAll function options (one ∷ events) (answer ∷ replies) old new =
      (between : Scheduled H) × Applies function options one answer old between × AppliesAll function options events replies between new
  AppliesAll function options [] (answer ∷ replies) old new = ⊥
  AppliesAll function options (one ∷ events) [] old new = ⊥

  -- a begin of this invocation brings this function
  abbrev pub Brings : (H → Handler) → Text → Handler → Event H → Type 0
  Brings function id next (event.Begin invocation handler now) = invocation ≡ id → function handler ≡ next
  Brings function id next _ = Unit {0}
