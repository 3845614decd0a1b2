-- How an invocation is gone on with: which events are applied, one after another, who is asked to execute effects, and what is told.
use Rattle.std.specs.Prelude.{◌≡◌, ◌⊎◌, ℕ, zero, suc, ◌-◌, ◌^◌, Bool, true, false, List, [], ◌∷◌, ◌++◌, Option, Some, None, Result, Ok, Err}
use Rattle.sqlite_trees.specs.declared.store.Store.{Ghosts}
use Rattle.sqlite.specs.Held.{state}
use Rattle.sqlite.specs.State.{HasCleanDisk}
use Rattle.journal_model.specs.Attempt.{live_attempt}
use Rattle.journal_model.specs.Notification.{Text}
use Rattle.journal_model.specs.Run.{Handler}
use Rattle.vm_types.specs.declared.options.VMOptions.{VMOptions}
use Rattle.store_refusals.specs.declared.refusal.Refusal.{Refusal}
use Rattle.store_refusals.specs.declared.refusal.Refusal.TheVariants.{OutOfMemory}
use Rattle.store_calls.specs.AbstractStore.{Standing}
use Rattle.store_calls.specs.Calls.{Stops}
use Rattle.journal_store.specs.StoreStanding.{Endures, IsStanding}
use Rattle.schedule_model.specs.Attempts.turn
use Rattle.schedule_model.specs.Attempts.{Attempt, RunOutcome, Turn}
use Rattle.schedule_model.specs.Executing.{Asks, Execution}
use Rattle.schedule_model.specs.HeldAttempts.{held_of, with_attempt}
use Rattle.schedule_model.specs.declared.event.Event.{Event}
use Rattle.schedule_model.specs.declared.event.Event.TheVariants as event
use Rattle.schedule_model.specs.declared.event.Reply.{Reply}
use Rattle.schedule_model.specs.declared.event.Reply.TheVariants as reply
use Rattle.schedule_model.specs.declared.event.EventRefusal.{EventRefusal}
use Rattle.schedule_model.specs.declared.event.EventRefusal.TheVariants as refusal
use Rattle.schedule_model.specs.declared.held.HeldAttempt.{HeldAttempt}
use Rattle.schedule_model.specs.Schedule.{AppliesAll, Scheduled}
use Rattle.scheduler.specs.declared.outcome.Outcome.{Outcome}
use Rattle.scheduler.specs.declared.scheduler.Scheduler.{Scheduler}
use Rattle.scheduler.specs.Outcomes.{brings_none, refusal_in, turned}
use Rattle.scheduler.specs.SchedulerCalls.{Performs}

-- as many bytes as a call can ask for: all that there are
abbrev pub all_bytes : ℕ
all_bytes = 2 ^ 64 - 1

-- as many turns as are made: more than any attempt makes
abbrev pub all_turns : ℕ
all_turns = 2 ^ 64 - 1

-- the events that are applied from here on, with their replies, and what is told in the end
abbrev pub Rest : Type 0 → Type 1
Rest H = List (Event H) → List Reply → Outcome → Type 0

-- ---- events one after another

module _ {H : Type 0} where
  -- none, and this is told
  abbrev pub Ends : Outcome → Rest H
  Ends outcome events replies told = (events ≡ []) × (replies ≡ []) × (told ≡ outcome)

  -- behind one that is refused, or a part of which is, none, and that is told
  abbrev pub UnlessRefused : Option EventRefusal → Rest H → Rest H
  UnlessRefused (Some why) Behind events replies told = Ends (Outcome.Refused why) events replies told
  UnlessRefused None Behind events replies told = Behind events replies told

  -- this one, and behind it what its reply leads to
  abbrev pub Then : Event H → (Reply → Rest H) → Rest H
  Then one Behind (asked ∷ events) (answer ∷ replies) told = (asked ≡ one) × UnlessRefused (refusal_in answer) (Behind answer) events replies told
  Then one Behind _ _ told = ⊥

  -- or memory is refused for a copy of what it brings, and none
  abbrev pub IfCopied : Rest H → Rest H
  IfCopied More events replies told = More events replies told ⊎ Ends (Outcome.Refused (refusal.Store OutOfMemory)) events replies told

-- ---- an attempt

module _ {H : Type 0} (id : Text) (attempt : ℕ) where
  module _ (More : (is_closed : Bool) → Rest H) where
    -- where that was nothing, its input is closed
    abbrev pub IsFedMore : (is_none : Bool) → Rest H
    IsFedMore true = Then (event.Close id attempt) (λ answer. More true)
    IsFedMore false = More false

    -- it waits: it is fed what has come since
    abbrev pub IsWaiting : (is_closed : Bool) → Rest H
    IsWaiting true = Ends Outcome.Unfinished
    IsWaiting false = Then (event.Feed id attempt all_bytes) (λ answer. IsFedMore (brings_none answer))

    -- it has executed a body: it is fed what has come of its outcome
    abbrev pub IsFedBehindBody : (is_closed : Bool) → Rest H
    IsFedBehindBody true = More true
    IsFedBehindBody false = Then (event.Feed id attempt all_bytes) (λ answer. More false)

    -- how it goes on by what a turn has come to
    abbrev pub GoesOnBy : (is_closed : Bool) → Turn → Rest H
    GoesOnBy is_closed turn.Answered = More is_closed
    GoesOnBy is_closed turn.RanBody = IsFedBehindBody is_closed
    GoesOnBy is_closed turn.Waiting = IsWaiting is_closed
    GoesOnBy is_closed turn.Suspended = Ends Outcome.Suspended
    GoesOnBy is_closed turn.Ended = Ends Outcome.Ended
    GoesOnBy is_closed (turn.Failed error) = Ends (Outcome.Failed error)

    -- behind a turn all that was written is moved, before anything else: so each request is recorded before its body is asked for
    abbrev pub IsMoved : (is_closed : Bool) → Reply → Rest H
    IsMoved is_closed (reply.Turned one) = Then (event.Move id attempt all_bytes) (λ answer. GoesOnBy is_closed one)
    IsMoved is_closed _ = Ends Outcome.Unfinished

    -- a turn, with some outcome
    abbrev pub Turns : (is_closed : Bool) → Rest H
    Turns is_closed events replies told = (ran : RunOutcome) × Then (event.Turn id attempt ran) (IsMoved is_closed) events replies told

  -- so many turns at most
  abbrev pub MakesTurns : (most : ℕ) (is_closed : Bool) → Rest H
  MakesTurns zero is_closed = Ends Outcome.Unfinished
  MakesTurns (suc more) is_closed = Turns (MakesTurns more) is_closed

  -- it is fed all of its input, and makes its turns
  abbrev pub IsFed : (most : ℕ) → Rest H
  IsFed most = Then (event.Feed id attempt all_bytes) (λ answer. MakesTurns most false)

  -- Whatever came of that, refused too, the last event is a stop: behind it the attempt is not live. It is refused where the attempt was over.
  abbrev pub Stopping : Rest H → Rest H
  Stopping Going events replies told =
      (first : List (Event H)) × (answers : List Reply) × (last : Reply) × (events ≡ first ++ event.Stop id attempt ∷ []) × (replies ≡ answers ++ last ∷ []) × Going first answers told

module _ {H : Type 0} (id : Text) where
  -- it has this number
  abbrev pub IsNumbered : Reply → Rest H
  IsNumbered (reply.Begun attempt) = Stopping id attempt (IsFed id attempt all_turns)
  IsNumbered _ = Ends Outcome.Unfinished

  -- An attempt of this invocation, begun at this moment: it is fed, makes its turns until there is none to make, and is stopped.
  abbrev pub IsAttempt : (handler : H) (now : ℕ) → Rest H
  IsAttempt handler now = IfCopied (Then (event.Begin id handler now) IsNumbered)

-- ---- behind the events

-- There was no memory for an attempt that the store has begun. Nobody holds it, and no event names it: it is stopped in the store alone.
abbrev pub StopsUnheld : Text → (told : Outcome) → Standing → Standing → Type 0
StopsUnheld id told s t = (told ≡ Outcome.Refused (refusal.Store OutOfMemory)) × (attempt : ℕ) × (stopped : Result (Unit {0}) Refusal) × Stops id attempt stopped s t

-- All is as the events have left it, but for such an attempt.
abbrev pub Leaves : Text → (told : Outcome) → Standing → Standing → Type 0
Leaves id told s t = (t ≡ s) ⊎ StopsUnheld id told s t

-- No attempt of the invocation is live; or none was begun, and all that was accepted is as it was.
abbrev pub LeavesNone : Text → Standing → Standing → Type 0
LeavesNone id s t = (live_attempt t.events id ≡ None) ⊎ (t.events ≡ s.events)

-- ---- of a scheduler

module _ {H : Type 0} (function : H → Handler) (options : VMOptions) where
  -- the first of these events are applied one after another, with some answers
  pub record AppliesBeginning (events : List (Event H)) (held : List (HeldAttempt H)) (s t : Standing) : Type 0 where
    pub first : List (Event H)
    pub rest : List (Event H)
    pub beginning : events ≡ first ++ rest
    pub answers : List Reply
    pub more : List (HeldAttempt H)
    pub applies : AppliesAll function options first answers (record { standing = s; held = held }) (record { standing = t; held = more })

  -- These are applied one after another, with these answers; what has become of the attempt behind them; and that none is live.
  pub record AppliesAlone (id : Text) (told : Outcome) (events : List (Event H)) (replies : List Reply) (held : List (HeldAttempt H)) (s t : Standing) : Type 0 where
    pub behind : Scheduled H
    pub applies : AppliesAll function options events replies (record { standing = s; held = held }) behind
    pub leaves : Leaves id told behind.standing t
    pub left : LeavesNone id s t

module _ {H S : Type 0} (g : Ghosts S) (function : H → Handler) where
  -- an event is applied, and this is told of it; or it is refused for that
  abbrev pub PerformsOr : {A : Type 0} → Event H → (Reply → A → Type 0) → Result A EventRefusal → Scheduler H S → Scheduler H S → Type 0
  PerformsOr one Tells (Ok told) old new = (answer : Reply) × (refusal_in answer ≡ None) × Tells answer told × Performs g function one answer old new
  PerformsOr one Tells (Err why) old new = (answer : Reply) × (refusal_in answer ≡ Some why) × Performs g function one answer old new

module _ {H S E : Type 0} (g : Ghosts S) (Executes : Execution E) (function : H → Handler) where
  -- whom an event asks: a turn whom it asks to execute a body, and any other event nobody
  abbrev pub AsksFor : Event H → Reply → Scheduler H S → E → Scheduler H S → E → Type 0
  AsksFor (event.Turn id attempt ran) (reply.Turned one) old e new f =
      (before : HeldAttempt H) × (after : Attempt H) × (held_of old.held id attempt ≡ Some before) × (new.held ≡ with_attempt old.held before after)
      × Asks Executes function id before.attempt e ran one after f
  AsksFor one answer old e new f = f ≡ e

  -- events one after another, with their replies: of each stands all that `apply` says of it, and whom it asks
  abbrev pub PerformsAll : List (Event H) → List Reply → Scheduler H S → E → Scheduler H S → E → Type 0
  PerformsAll [] [] old e new f = (new ≡ old) × (f ≡ e)
  PerformsAll (one ∷ events) (answer ∷ replies) old e new f =
      (between : Scheduler H S) × (asked : E) × Performs g function one answer old between × AsksFor one answer old e between asked × PerformsAll events replies between asked new f
  PerformsAll _ _ old e new f = ⊥

  -- such events are applied, and this is told
  pub record PerformsSome (Asked : Rest H) (told : Outcome) (old : Scheduler H S) (e : E) (new : Scheduler H S) (f : E) : Type 0 where
    pub events : List (Event H)
    pub replies : List Reply
    pub asked : Asked events replies told
    pub performs : PerformsAll events replies old e new f

  -- a turn, with some outcome
  pub record TurnsAsking (id : Text) (attempt : ℕ) (result : Result Turn EventRefusal) (old : Scheduler H S) (e : E) (new : Scheduler H S) (f : E) : Type 0 where
    pub ran : RunOutcome
    pub performs : Performs g function (event.Turn id attempt ran) (turned result) old new
    pub asks : AsksFor (event.Turn id attempt ran) (turned result) old e new f

  -- This is over, however many turns were left; or it goes on as the next thing does.
  abbrev pub Continues : (This : ℕ → Rest H) (Next : (is_closed : Bool) → ℕ → Rest H) → Result Bool Outcome → Scheduler H S → E → Scheduler H S → E → Type 0
  Continues This Next (Err told) old e new f = (more : ℕ) → PerformsSome (This more) told old e new f
  Continues This Next (Ok is_closed) old e new f =
      (more : ℕ) (told : Outcome) (last : Scheduler H S) (end : E) → PerformsSome (Next is_closed more) told new f last end → PerformsSome (This more) told old e last end

  -- An attempt of an invocation, over what the store stood for: these events are applied to that, and a crash anywhere in them leaves what
  -- the first of them leave.
  pub record GoesAlone (id : Text) (Asked : Rest H) (told : Outcome) (old : Scheduler H S) (e : E) (new : Scheduler H S) (f : E) : Type 0 where
    pub behind : Scheduler H S
    pub did : PerformsSome Asked told old e behind f
    pub options : new.options ≡ old.options
    pub applies : HasCleanDisk (state g new.store.connection) → (s : Standing) → IsStanding g s old.store
        → (t : Standing) × IsStanding g t new.store × AppliesAlone function old.options id told did.events did.replies old.held s t
    pub crash : Endures g (AppliesBeginning function old.options did.events old.held) old.store new.store

  -- An invocation is gone on with by an attempt of its own, as a schedule in which no attempts are held. What is held besides stays.
  pub record GoesOn (id : Text) (Asked : Rest H) (told : Outcome) (old : Scheduler H S) (e : E) (new : Scheduler H S) (f : E) : Type 0 where
    pub more : List (HeldAttempt H)
    pub alone : GoesAlone id Asked told (record old { held = [] }) e (record new { held = more }) f
    pub held : new.held ≡ old.held
