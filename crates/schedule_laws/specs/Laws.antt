-- What schedules keep, and what they leave.
use Rattle.std.specs.Prelude.{◌≡◌, ℕ, false, if◌then◌else◌, List, [], ◌∷◌, ◌++◌, length, IfSome, Option, Some, None}
use Rattle.std.specs.List.{AllByRecursion}
use Rattle.journal_model.specs.declared.invocation.NewInvocation.{NewInvocation}
use Rattle.journal_model.specs.Notification.{Bytes, Text}
use Rattle.journal_model.specs.Event as model
use Rattle.journal_model.specs.Journal.{ByEnd, closing_of, invocation_begun, recorded_answer}
use Rattle.journal_model.specs.Cause.{IsAccepted}
use Rattle.journal_model.specs.Run.{Handler}
use Rattle.journal_model.specs.Headline.{Headline, NeverLate, WakesExactly}
use Rattle.vm_types.specs.Options.{run_options}
use Rattle.vm_types.specs.declared.options.VMOptions.{VMOptions}
use Rattle.store_calls.specs.AbstractStore.{Standing}
use Rattle.store_calls.specs.Forgetting.{LeavesOthers}
use Rattle.store_refusals.specs.declared.refusal.Refusal.{Refusal}
use Rattle.store_steps.specs.PreparedFrames.{lies_in_frame}
use Rattle.vm_attempt_laws.specs.TurnReports.{Told}
use Rattle.schedule_laws.specs.Attempts.{Attempt}
use Rattle.schedule_laws.specs.TrackedAttempt.{Tracked}
use Rattle.schedule_laws.specs.InvocationInRun.{ReplaysInLine, HoldsOf, given_of, ToldOf, FollowsTold, Follows}
use Rattle.schedule_laws.specs.Schedules.event
use Rattle.schedule_laws.specs.Schedules.reply
use Rattle.schedule_laws.specs.Schedules.{Event, Reply, HeldAttempt, held_of, is_among, left_of, with_attempt, given_in, FeedsParts, MovesOne, Does, Scheduled, AppliesAll, Brings, FitsEvent}
use Rattle.schedule_laws.specs.TurnReplies.{TellsAttempt, is_of_attempt, attempt_start_of, TakesAsTold, told_start}
use Rattle.schedule_laws.specs.WrittenFrames.{BeginsUnwritten, LeavesHeld, MovesBytes}

-- ---- what is answered of frames

-- where bytes of this invocation were moved and a further frame was refused, its cause does not lie in the frame
abbrev pub RefusesNoFrame : {H : Type 0} → Text → Event H → Reply → Type 0
RefusesNoFrame id (event.Move other attempt count) (reply.Moved bytes frames (Some why)) = other ≡ id → lies_in_frame why ≡ false
RefusesNoFrame id _ answer = Unit {0}

-- by these replies to these events, each to its own
abbrev pub RefuseNoFrame : {H : Type 0} → Text → List (Event H) → List Reply → Type 0
RefuseNoFrame id (one ∷ events) (answer ∷ replies) = RefusesNoFrame id one answer × RefuseNoFrame id events replies
RefuseNoFrame id _ replies = Unit {0}

-- ---- what replies tell of attempts

-- behind a begin that was answered, the attempt was handed its start frame
abbrev pub BeginsTold : {H : Type 0} → VMOptions → Text → Event H → Reply → (earlier : List model.Event) → (now : ToldOf) → Type 0
BeginsTold options id (event.Begin other handler now) (reply.Begun number) earlier told =
    other ≡ id → (new : NewInvocation) → invocation_begun earlier id ≡ Some new
    → told number ≡ Some (record { start = attempt_start_of options id earlier now new; told = told_start (attempt_start_of options id earlier now new) })
BeginsTold options id one answer earlier told = Unit {0}

module _ {H : Type 0} (function : H → Handler) where
  -- what an event does, where these are the bytes of a feed that its attempt was fed
  abbrev pub DoesFeeding : VMOptions → Event H → Reply → (bytes : Bytes) → Standing → List (HeldAttempt H) → Standing → List (HeldAttempt H) → Type 0
  DoesFeeding options (event.Feed id number count) (reply.Fed fed why) bytes old held new more =
      (one : HeldAttempt H) × (changed : Attempt H) × (parts : List Bytes) × (held_of held id number ≡ Some one) × (fed ≡ length bytes) × (bytes ≡ given_in parts)
      × FeedsParts count parts why one old new changed × (more ≡ with_attempt held one changed)
  DoesFeeding options one answer bytes old held new more = Does function options one old held answer new more

module _ {H : Type 0} (function : H → Handler) where
  -- ---- event by event

  -- where nothing is held, an invocation is in its run whose records are, and so is one that was not begun
  abbrev pub HoldsFollows : Type 0
  HoldsFollows = (next : Handler) (options : VMOptions) (id : Text) (s : Standing) → HoldsOf next options id s.events → Follows function next options id s []

  -- so it is where nothing was told of any attempt
  abbrev pub HoldsTold : Type 0
  HoldsTold = (next : Handler) (options : VMOptions) (id : Text) (s : Standing) → HoldsOf next options id s.events → FollowsTold function next options id (λ number. None) s []

  -- So it is with whatever was told of its attempts, and each reply tells of them what the run does; a begin tells what is begun.
  pub record KeepsTold (next : Handler) (options : VMOptions) (id : Text) (one : Event H) (answer : Reply) (bytes : Bytes) (old new : Standing) (more : List (HeldAttempt H)) (told : ToldOf) : Type 0 where
    pub now : ToldOf
    pub follows : FollowsTold function next options id now new more
    pub tells : (number : ℕ) (t : Tracked) → told number ≡ Some t
        → (after : Told) × (now number ≡ Some (record { start = t.start; told = after })) × TellsAttempt next t.start (is_of_attempt id number one) one answer bytes t.told after
    pub begins : BeginsTold options id one answer old.events now
    -- what is taken of it says what was told
    pub takes : (number : ℕ) (t : Tracked) → told number ≡ Some t → (added : List model.Event) → new.events ≡ added ++ old.events → TakesAsTold id number one answer added t.told

  -- What waits of each of its attempts to be moved is what waited before, with what the event has written of it and without what it moves; and
  -- nothing waits of one that is begun.
  pub record KeepsWaiting (next : Handler) (id : Text) (one : Event H) (answer : Reply) (moved : Bytes) (held more : List (HeldAttempt H)) (told : ToldOf) : Type 0 where
    pub leaves : (number : ℕ) (t : Tracked) → told number ≡ Some t → LeavesHeld next id number t.start t.told one answer moved held more
    pub begins : BeginsUnwritten id one answer more

  abbrev pub ToldByEach : Type 0
  ToldByEach = (next : Handler) (options : VMOptions) (id : Text) (one : Event H) (answer : Reply) (bytes moved : Bytes) (old new : Standing) (held more : List (HeldAttempt H)) (told : ToldOf) → ReplaysInLine options
      → FitsEvent one → Brings function id next one → DoesFeeding function options one answer bytes old held new more → MovesBytes one answer moved held → FollowsTold function next options id told old held
      → KeepsTold next options id one answer bytes old new more told × KeepsWaiting next id one answer moved held more told

  -- what an event does keeps an invocation in its run, if begins of it bring the run's function
  abbrev pub KeptByEach : Type 0
  KeptByEach = (next : Handler) (options : VMOptions) (id : Text) (one : Event H) (answer : Reply) (old new : Standing) (held more : List (HeldAttempt H)) → ReplaysInLine options
      → FitsEvent one → Brings function id next one → Does function options one old held answer new more → Follows function next options id old held
      → Follows function next options id new more

  -- the records of an invocation in its run are
  abbrev pub FollowsHolds : Type 0
  FollowsHolds = (next : Handler) (options : VMOptions) (id : Text) (s : Standing) (held : List (HeldAttempt H)) → Follows function next options id s held → HoldsOf next options id s.events

  -- no frame of an invocation in its run is refused for a cause that lies in it
  abbrev pub NoneRefused : Type 0
  NoneRefused = (next : Handler) (options : VMOptions) (old new : Standing) (held : List (HeldAttempt H)) (count bytes frames : ℕ) (why : Refusal) (one : HeldAttempt H) (changed : Attempt H)
      → ReplaysInLine options → held_of held one.invocation one.number ≡ Some one → MovesOne count one old (reply.Moved bytes frames (Some why)) new changed
      → Follows function next options one.invocation old held → lies_in_frame why ≡ false

  -- letting go of attempts keeps an invocation in its run, with what was told of them
  abbrev pub LettingGoKeeps : Type 0
  LettingGoKeeps = (next : Handler) (options : VMOptions) (id : Text) (s : Standing) (held : List (HeldAttempt H)) (told : ToldOf) (ids : List Text) (number : Option ℕ)
      → FollowsTold function next options id told s held → FollowsTold function next options id told s (left_of ids number held)

  -- So does forgetting invocations, and letting go of their attempts: of one that is forgotten nothing was told.
  abbrev pub ForgettingKeeps : Type 0
  ForgettingKeeps = (next : Handler) (options : VMOptions) (id : Text) (ids : List Text) (s t : Standing) (held : List (HeldAttempt H)) (told : ToldOf) → LeavesOthers ids s t
      → FollowsTold function next options id told s held → FollowsTold function next options id (if is_among ids id then (λ number. None) else told) t (left_of ids None held)

  -- ---- what a schedule leaves

  -- of each invocation whose begins all bring one function, what is needed to go on
  abbrev pub LeavesHolds : Type 0
  LeavesHolds = (options : VMOptions) (events : List (Event H)) (replies : List Reply) (old new : Scheduled H) → old.held ≡ [] → AppliesAll function options events replies old new
      → AllByRecursion FitsEvent events → (next : Handler) (id : Text) → ReplaysInLine options → AllByRecursion (Brings function id next) events
      → HoldsOf next options id old.standing.events → HoldsOf next options id new.standing.events

  -- and no frame of such a one is refused for a cause that lies in it
  abbrev pub FramesAreTaken : Type 0
  FramesAreTaken = (options : VMOptions) (events : List (Event H)) (replies : List Reply) (old new : Scheduled H) → old.held ≡ [] → AppliesAll function options events replies old new
      → AllByRecursion FitsEvent events → (next : Handler) (id : Text) → ReplaysInLine options → AllByRecursion (Brings function id next) events
      → HoldsOf next options id old.standing.events → RefuseNoFrame id events replies

-- ---- what that gives

-- the headline
abbrev pub HoldsHeadline : Type 0
HoldsHeadline = (next : Handler) (options : VMOptions) (id : Text) (events : List model.Event) → IsAccepted events → HoldsOf next options id events
    → Headline next (run_options options) options.fallback_random_seed events id

-- it is closed by its end, or open, and has an answer at its end alone
pub record IsClosedByEnd (events : List model.Event) (id : Text) : Type 0 where
  pub closed : IfSome (closing_of events id) (λ closing. closing ≡ ByEnd)
  pub answered : IfSome (recorded_answer events id) (λ answer. closing_of events id ≡ Some ByEnd)

abbrev pub HoldsClosed : Type 0
HoldsClosed = (next : Handler) (options : VMOptions) (id : Text) (events : List model.Event) (new : NewInvocation) → invocation_begun events id ≡ Some new → HoldsOf next options id events
    → IsClosedByEnd events id

-- waking is never late
abbrev pub HoldsNeverLate : Type 0
HoldsNeverLate = (next : Handler) (options : VMOptions) (id : Text) (events : List model.Event) (new : NewInvocation) → invocation_begun events id ≡ Some new → HoldsOf next options id events
    → NeverLate next (given_of options id events new) events id

-- and exact
abbrev pub HoldsWakesExactly : Type 0
HoldsWakesExactly = (next : Handler) (options : VMOptions) (id : Text) (events : List model.Event) (new : NewInvocation) → invocation_begun events id ≡ Some new → HoldsOf next options id events
    → WakesExactly next (given_of options id events new) events id
