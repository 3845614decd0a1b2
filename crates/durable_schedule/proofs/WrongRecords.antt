-- Records that are not faithful: of an invocation that is closed by an error that nobody has made, of an outcome of a run that no body has come
-- to, and of a move that does not take the frame that was written.
use Rattle.std.proofs.Common.{◌≡◌, refl, sym, ap, subst, ◌∙◌, inl, inr, ℕ, ◌<◌, arith, eq-eqb, true, false, true≢false, List, [], ◌∷◌, ◌++◌, length, map, reverse, codes, Option, Some, None}
use Rattle.std.proofs.lemmas.List.{take_all}
use Rattle.std.specs.List.{AllByRecursion}
use Rattle.journal_model.specs.declared.invocation.NewInvocation.{NewInvocation}
use Rattle.journal_model.specs.declared.invocation.StateMode.{StateMode}
use Rattle.journal_model.specs.declared.value.NonEmptyValue.{NonEmptyValue}
use Rattle.journal_model.specs.Notification.{Bytes, Text}
use Rattle.journal_model.specs.Event.{Event, Fail, Frame}
use Rattle.journal_model.specs.Journal.{ByEnd, ByFailure, invocation_begun, version_of}
use Rattle.journal_model.specs.Request.{Request}
use Rattle.journal_model.specs.Run.{Handler}
use Rattle.live_laws.specs.StartFrame.{AttemptStart}
use Rattle.protocol_stream.specs.Item.{Item, item_at}
use Rattle.vm_refusals.specs.BodyExits.{Ending, ending, Outcome}
use Rattle.vm_refusals.specs.RetryDecisions.{Tried}
use Rattle.vm_refusals.specs.declared.retries.RetryPolicy.{RetryPolicy}
use Rattle.vm_refusals.specs.declared.runs.RunExitResult.{RunExitResult}
use Rattle.vm_types.specs.declared.options.VMOptions.{VMOptions}
use Rattle.vm_attempt_laws.specs.Bodies.{Among, RunOutcome}
use Rattle.vm_attempt_laws.specs.TurnReports.{Told}
use Rattle.schedule_laws.specs.Attempts.{Turn}
use Rattle.schedule_laws.specs.InvocationInRun.{HoldsOf, ReplaysInLine}
use Rattle.schedule_laws.specs.Schedules.scheduled
use Rattle.schedule_laws.specs.Schedules.event
use Rattle.schedule_laws.specs.Schedules.reply
use Rattle.schedule_laws.specs.Schedules.{Reply}
use Rattle.schedule_laws.specs.TurnReplies.{EachBegunTells, IsTakenAsTold, TurnTellsNow, attempt_start_of}
use Rattle.schedule_laws.specs.WrittenFrames.{AreFrames, TurnLeaves}
use Rattle.durable_schedule.specs.Front.{AreAcceptedOf, IsFaithful}
use Rattle.durable_schedule.specs.HandedBytes.{AreHandedBy}
use Rattle.durable_schedule.specs.MovedBytes.{AreFramesTaken, AreMovedBy, NoFurther, TakesFirst}

abbrev one_id : Text
one_id = codes "i1"

abbrev one : NewInvocation
one = record { id = codes "i1"; object = codes "o"; input = []; headers = []; version = 7; seed = 1; state = StateMode.Whole }

abbrev Asked : Type 0
Asked = scheduled.Event Handler

-- the handler is its own function
abbrev itself : Handler → Handler
itself handler = handler

-- nothing is recorded before
none_before : (handler : Handler) (options : VMOptions) → HoldsOf handler options one_id []
none_before handler options new is = let clash : None ≡ Some new = is in absurd cc

-- ---- an error that nobody has made

abbrev failed : List Event
failed = Event.Move (codes "i1") 1 (Frame.Error 500 (codes "sorry") Fail None) ∷ Event.Begin (codes "i1") 0 ∷ Event.Invoke one ∷ []

abbrev failed_asked : Handler → List Asked
failed_asked handler = event.Invoke one ∷ event.Begin (codes "i1") handler 0 ∷ event.Move (codes "i1") 1 100 ∷ []

abbrev failed_replies : List Reply
failed_replies = reply.Done ∷ reply.Begun 1 ∷ reply.Moved 17 1 None ∷ []

pub failed_is_wrong : (handler : Handler) (options : VMOptions) → ReplaysInLine options → IsFaithful itself options [] (failed_asked handler) failed_replies failed → ⊥
failed_is_wrong handler options in_line f = never ((f.in_run handler one_id in_line (tt, (λ same. refl, (tt, tt))) (none_before handler options)).closed one refl).closed
  where
    never : ByFailure 500 (codes "sorry") ≡ ByEnd → ⊥
    never e = cc

-- ---- an outcome that no body has come to

abbrev wrong_frame : Frame
wrong_frame = Frame.RunOutcome 1 (NonEmptyValue.Success (codes "wrong")) true

-- the body has ended with another one
abbrev told_wrong : List Event
told_wrong =
    Event.Move (codes "i1") 1 wrong_frame ∷ Event.Move (codes "i1") 1 (Frame.Command (Request.Run 1 (codes "r"))) ∷ Event.Feed (codes "i1") 1 10 ∷ Event.Begin (codes "i1") 0
    ∷ Event.Invoke one ∷ []

abbrev wrong_asked : Handler → RunOutcome → List Asked
wrong_asked handler ran =
    event.Invoke one ∷ event.Begin (codes "i1") handler 0 ∷ event.Feed (codes "i1") 1 10 ∷ event.Turn (codes "i1") 1 ran ∷ event.Turn (codes "i1") 1 ran ∷ event.Turn (codes "i1") 1 ran
    ∷ event.Move (codes "i1") 1 100 ∷ []

abbrev wrong_replies : List Reply
wrong_replies =
    reply.Done ∷ reply.Begun 1 ∷ reply.Fed 10 None ∷ reply.Turned Turn.Answered ∷ reply.Turned Turn.Answered ∷ reply.Turned Turn.RanBody ∷ reply.Moved 40 2 None ∷ []

-- what is told of an attempt that has proposed nothing, and is not over
record IsSilent (told : Told) : Type 0 where
  over : told.over ≡ None
  proposed : told.proposed ≡ []

-- the value of an outcome
abbrev value_in : Ending → NonEmptyValue
value_in (Outcome value) = value
value_in ending = NonEmptyValue.Success []

module _ (handler : Handler) (start : AttemptStart) (ran : RunOutcome) where
  answered_on : (told now : Told) (o : Option Turn) → told.over ≡ o → IsSilent told → TurnTellsNow handler start told o ran Turn.Answered now → IsSilent now
  answered_on told now (Some last) is silent tells = let clash : Some last ≡ None = sym is ∙ silent.over in absurd cc
  answered_on told now None is silent (inl lacks) = let clash = lacks.0 in absurd cc
  answered_on told now None is silent (inr tells) =
      record { over = ap (λ (t : Told). t.over) tells.0 ∙ silent.over; proposed = ap (λ (t : Told). t.proposed) tells.0 ∙ silent.proposed }

  -- what it has proposed is how the body has ended
  abbrev ProposesRight : Told → Type 0
  ProposesRight now = (n : ℕ) × (now.proposed ≡ (n, NonEmptyValue.Success (codes "right")) ∷ [])

  outcome_right : (policy : RetryPolicy) (tried : Tried) (exit : RunExitResult) (value : NonEmptyValue) → exit ≡ RunExitResult.Success (codes "right") → ending policy tried exit ≡ Outcome value
      → value ≡ NonEmptyValue.Success (codes "right")
  outcome_right policy tried exit value is ends = ap value_in (sym ends ∙ ap (λ (e : RunExitResult). ending policy tried e) is)

  ran_on : ran.result ≡ RunExitResult.Success (codes "right") → (told now : Told) (o : Option Turn) → told.over ≡ o → IsSilent told → TurnTellsNow handler start told o ran Turn.RanBody now → ProposesRight now
  ran_on right told now (Some last) is silent tells = let clash : Some last ≡ None = sym is ∙ silent.over in absurd cc
  ran_on right told now None is silent (inl lacks) = let clash = lacks.0 in absurd cc
  ran_on right told now None is silent (inr tells) =
      let it = tells in (
        it.0.completion,
        ap (λ (t : Told). t.proposed) it.3 ∙ ap (λ (some : List (ℕ × NonEmptyValue)). some ++ (it.0.completion, it.1) ∷ []) silent.proposed
            ∙ ap (λ (value : NonEmptyValue). (it.0.completion, value) ∷ []) (outcome_right ran.policy _ ran.result it.1 right it.2.outcome),
      )

abbrev first_byte : NonEmptyValue → ℕ
first_byte (NonEmptyValue.Success (byte ∷ bytes)) = byte
first_byte value = 0

-- another one was not proposed
wrong_not_among : (n : ℕ) → Among {A = ℕ × NonEmptyValue} (1, NonEmptyValue.Success (codes "wrong")) ((n, NonEmptyValue.Success (codes "right")) ∷ []) → ⊥
wrong_not_among n (inl same) =
    true≢false (sym (eq-eqb (first_byte (NonEmptyValue.Success (codes "wrong"))) (first_byte (NonEmptyValue.Success (codes "right"))) (ap (λ (p : ℕ × NonEmptyValue). first_byte p.1) same)))
wrong_not_among n (inr never) = never

abbrev first_frame : List Event → Frame
first_frame (Event.Move id attempt frame ∷ events) = frame
first_frame events = Frame.End

-- the last two events are the frames that were moved
first_moved : (taken : List Frame) (before : List Event) → length taken ≡ 2 → told_wrong ≡ map (Event.Move (codes "i1") 1) taken ++ before
    → (rest : List Frame) × (taken ≡ wrong_frame ∷ rest)
first_moved [] before two is = absurd (omega (arith, two))
first_moved (frame ∷ rest) before two is = (rest, ap (λ (f : Frame). f ∷ rest) (sym (ap first_frame is)))

module _ (handler : Handler) (options : VMOptions) (ran : RunOutcome) (right : ran.result ≡ RunExitResult.Success (codes "right")) where
  wrong_with : (added : List (List Event)) (handed moved : List Bytes) → AreAcceptedOf (wrong_asked handler ran) wrong_replies added [] told_wrong → AreHandedBy (wrong_asked handler ran) wrong_replies handed
      → AreMovedBy (wrong_asked handler ran) wrong_replies moved → EachBegunTells handler options one_id (wrong_asked handler ran) wrong_replies added handed moved [] → ⊥
  wrong_with (a0 ∷ a1 ∷ a2 ∷ a3 ∷ a4 ∷ a5 ∷ a6 ∷ []) (b0 ∷ b1 ∷ b2 ∷ b3 ∷ b4 ∷ b5 ∷ b6 ∷ []) (m0 ∷ m1 ∷ m2 ∷ m3 ∷ m4 ∷ m5 ∷ m6 ∷ []) told hands moves tells =
      let begun : invocation_begun (a0 ++ []) one_id ≡ Some one = ap (λ (events : List Event). invocation_begun (events ++ []) one_id) told.0 in
      let start = attempt_start_of options one_id (a0 ++ []) 0 one in
      let fed = (tells.1.0 refl one begun).1 in
      let read = fed.5 in
      let asks = read.5 in
      let runs = asks.5 in
      let goes = runs.5 in
      let silent : IsSilent fed.0 = record { over = ap (λ (t : Told). t.over) fed.2; proposed = ap (λ (t : Told). t.proposed) fed.2 } in
      let silent_still : IsSilent read.0 = answered_on handler start ran fed.0 read.0 fed.0.over refl silent read.2 in
      let now : IsSilent asks.0 = answered_on handler start ran read.0 asks.0 read.0.over refl silent_still asks.2 in
      let proposes = ran_on handler start ran right asks.0 runs.0 asks.0.over refl now runs.2 in
      let moved = told.1.1.1.1.1.1.0 in
      let last : told_wrong ≡ a6 ++ (a5 ++ (a4 ++ (a3 ++ (a2 ++ (a1 ++ (a0 ++ [])))))) = told.1.1.1.1.1.1.1 in
      let first = first_moved moved.0 (a5 ++ (a4 ++ (a3 ++ (a2 ++ (a1 ++ (a0 ++ [])))))) moved.1
      (last ∙ ap (λ (events : List Event). events ++ (a5 ++ (a4 ++ (a3 ++ (a2 ++ (a1 ++ (a0 ++ []))))))) moved.2) in
      let as_told : AllByRecursion (IsTakenAsTold runs.0) (map (Event.Move (codes "i1") 1) (wrong_frame ∷ first.0)) =
      subst (λ (taken : List Frame). AllByRecursion (IsTakenAsTold runs.0) (map (Event.Move (codes "i1") 1) taken)) first.1
      (subst (AllByRecursion (IsTakenAsTold runs.0)) moved.2 (goes.3 refl refl)) in
      wrong_not_among proposes.0 (subst (Among {A = ℕ × NonEmptyValue} (1, NonEmptyValue.Success (codes "wrong"))) proposes.1 as_told.0)
  wrong_with [] handed moved told hands moves tells = absurd told
  wrong_with (a0 ∷ []) handed moved told hands moves tells = absurd told.1
  wrong_with (a0 ∷ a1 ∷ []) handed moved told hands moves tells = absurd told.1.1
  wrong_with (a0 ∷ a1 ∷ a2 ∷ []) handed moved told hands moves tells = absurd told.1.1.1
  wrong_with (a0 ∷ a1 ∷ a2 ∷ a3 ∷ []) handed moved told hands moves tells = absurd told.1.1.1.1
  wrong_with (a0 ∷ a1 ∷ a2 ∷ a3 ∷ a4 ∷ []) handed moved told hands moves tells = absurd told.1.1.1.1.1
  wrong_with (a0 ∷ a1 ∷ a2 ∷ a3 ∷ a4 ∷ a5 ∷ []) handed moved told hands moves tells = absurd told.1.1.1.1.1.1
  wrong_with (a0 ∷ a1 ∷ a2 ∷ a3 ∷ a4 ∷ a5 ∷ a6 ∷ a7 ∷ added) handed moved told hands moves tells = absurd told.1.1.1.1.1.1.1
  wrong_with (a0 ∷ a1 ∷ a2 ∷ a3 ∷ a4 ∷ a5 ∷ a6 ∷ []) [] moved told hands moves tells = absurd hands
  wrong_with (a0 ∷ a1 ∷ a2 ∷ a3 ∷ a4 ∷ a5 ∷ a6 ∷ []) (b0 ∷ []) moved told hands moves tells = absurd hands.1
  wrong_with (a0 ∷ a1 ∷ a2 ∷ a3 ∷ a4 ∷ a5 ∷ a6 ∷ []) (b0 ∷ b1 ∷ []) moved told hands moves tells = absurd hands.1.1
  wrong_with (a0 ∷ a1 ∷ a2 ∷ a3 ∷ a4 ∷ a5 ∷ a6 ∷ []) (b0 ∷ b1 ∷ b2 ∷ []) moved told hands moves tells = absurd hands.1.1.1
  wrong_with (a0 ∷ a1 ∷ a2 ∷ a3 ∷ a4 ∷ a5 ∷ a6 ∷ []) (b0 ∷ b1 ∷ b2 ∷ b3 ∷ []) moved told hands moves tells = absurd hands.1.1.1.1
  wrong_with (a0 ∷ a1 ∷ a2 ∷ a3 ∷ a4 ∷ a5 ∷ a6 ∷ []) (b0 ∷ b1 ∷ b2 ∷ b3 ∷ b4 ∷ []) moved told hands moves tells = absurd hands.1.1.1.1.1
  wrong_with (a0 ∷ a1 ∷ a2 ∷ a3 ∷ a4 ∷ a5 ∷ a6 ∷ []) (b0 ∷ b1 ∷ b2 ∷ b3 ∷ b4 ∷ b5 ∷ []) moved told hands moves tells = absurd hands.1.1.1.1.1.1
  wrong_with (a0 ∷ a1 ∷ a2 ∷ a3 ∷ a4 ∷ a5 ∷ a6 ∷ []) (b0 ∷ b1 ∷ b2 ∷ b3 ∷ b4 ∷ b5 ∷ b6 ∷ b7 ∷ handed) moved told hands moves tells = absurd hands.1.1.1.1.1.1.1
  wrong_with (a0 ∷ a1 ∷ a2 ∷ a3 ∷ a4 ∷ a5 ∷ a6 ∷ []) (b0 ∷ b1 ∷ b2 ∷ b3 ∷ b4 ∷ b5 ∷ b6 ∷ []) [] told hands moves tells = absurd moves
  wrong_with (a0 ∷ a1 ∷ a2 ∷ a3 ∷ a4 ∷ a5 ∷ a6 ∷ []) (b0 ∷ b1 ∷ b2 ∷ b3 ∷ b4 ∷ b5 ∷ b6 ∷ []) (m0 ∷ []) told hands moves tells = absurd moves.1
  wrong_with (a0 ∷ a1 ∷ a2 ∷ a3 ∷ a4 ∷ a5 ∷ a6 ∷ []) (b0 ∷ b1 ∷ b2 ∷ b3 ∷ b4 ∷ b5 ∷ b6 ∷ []) (m0 ∷ m1 ∷ []) told hands moves tells = absurd moves.1.1
  wrong_with (a0 ∷ a1 ∷ a2 ∷ a3 ∷ a4 ∷ a5 ∷ a6 ∷ []) (b0 ∷ b1 ∷ b2 ∷ b3 ∷ b4 ∷ b5 ∷ b6 ∷ []) (m0 ∷ m1 ∷ m2 ∷ []) told hands moves tells = absurd moves.1.1.1
  wrong_with (a0 ∷ a1 ∷ a2 ∷ a3 ∷ a4 ∷ a5 ∷ a6 ∷ []) (b0 ∷ b1 ∷ b2 ∷ b3 ∷ b4 ∷ b5 ∷ b6 ∷ []) (m0 ∷ m1 ∷ m2 ∷ m3 ∷ []) told hands moves tells = absurd moves.1.1.1.1
  wrong_with (a0 ∷ a1 ∷ a2 ∷ a3 ∷ a4 ∷ a5 ∷ a6 ∷ []) (b0 ∷ b1 ∷ b2 ∷ b3 ∷ b4 ∷ b5 ∷ b6 ∷ []) (m0 ∷ m1 ∷ m2 ∷ m3 ∷ m4 ∷ []) told hands moves tells = absurd moves.1.1.1.1.1
  wrong_with (a0 ∷ a1 ∷ a2 ∷ a3 ∷ a4 ∷ a5 ∷ a6 ∷ []) (b0 ∷ b1 ∷ b2 ∷ b3 ∷ b4 ∷ b5 ∷ b6 ∷ []) (m0 ∷ m1 ∷ m2 ∷ m3 ∷ m4 ∷ m5 ∷ []) told hands moves tells = absurd moves.1.1.1.1.1.1
  wrong_with (a0 ∷ a1 ∷ a2 ∷ a3 ∷ a4 ∷ a5 ∷ a6 ∷ []) (b0 ∷ b1 ∷ b2 ∷ b3 ∷ b4 ∷ b5 ∷ b6 ∷ []) (m0 ∷ m1 ∷ m2 ∷ m3 ∷ m4 ∷ m5 ∷ m6 ∷ m7 ∷ moved) told hands moves tells = absurd moves.1.1.1.1.1.1.1

  pub wrong_outcome_is_wrong : ReplaysInLine options → IsFaithful itself options [] (wrong_asked handler ran) wrong_replies told_wrong → ⊥
  wrong_outcome_is_wrong in_line f =
      wrong_with f.added f.handed f.moved f.told f.hands f.moves (f.turns handler one_id in_line (tt, (λ same. refl, (tt, (tt, (tt, (tt, (tt, tt))))))) (none_before handler options))

-- ---- a frame that was written, moved, and not taken

-- the attempt has ended, and no frame of it is recorded
abbrev unended : List Event
unended = Event.Feed (codes "i1") 1 10 ∷ Event.Begin (codes "i1") 0 ∷ Event.Invoke one ∷ []

abbrev unended_asked : Handler → RunOutcome → List Asked
unended_asked handler ran =
    event.Invoke one ∷ event.Begin (codes "i1") handler 0 ∷ event.Feed (codes "i1") 1 10 ∷ event.Turn (codes "i1") 1 ran ∷ event.Move (codes "i1") 1 100 ∷ []

abbrev unended_replies : (moved : ℕ) → List Reply
unended_replies moved = reply.Done ∷ reply.Begun 1 ∷ reply.Fed 10 None ∷ reply.Turned Turn.Ended ∷ reply.Moved moved 0 None ∷ []

-- a turn that ends has written something, which is whole
record IsWhole (bytes : Bytes) : Type 0 where
  item : Item
  rest : Bytes
  first : item_at bytes ≡ Some (item, rest)

ended_writes : (handler : Handler) (start : AttemptStart) (told : Told) (o : Option Turn) (ran : RunOutcome) (waits behind : Bytes) → o ≡ None → waits ≡ [] → TurnLeaves handler start told o ran Turn.Ended waits behind → IsWhole behind
ended_writes handler start told (Some last) ran waits behind none empty leaves = let clash : Some last ≡ None = none in absurd cc
ended_writes handler start told None ran waits behind none empty (inl lacks) = let clash = lacks.0 in absurd cc
ended_writes handler start told None ran waits behind none empty (inr (frames, writes, ends)) =
    let are : AreFrames start.new.version writes.bytes (Frame.End ∷ []) [] = subst (λ (some : List Frame). AreFrames start.new.version writes.bytes some []) ends.1 writes.are in
    let all : behind ≡ writes.bytes = writes.behind_is ∙ ap (λ (some : Bytes). some ++ writes.bytes) empty in
    record { item = are.0; rest = are.1; first = ap item_at all ∙ are.2 }

-- whole frames that are moved are taken
none_taken : (bytes rest : Bytes) (accepted before : List Event) → IsWhole bytes → TakesFirst one_id 1 None bytes before accepted rest → (taken : List Frame) → length taken ≡ 0
    → accepted ≡ map (Event.Move one_id 1) taken → ⊥
none_taken bytes rest accepted before whole takes (frame ∷ taken) none are = absurd (omega (arith, none))
none_taken bytes rest accepted before whole takes [] none are = by_taken takes.taken (sym takes.accepted_are ∙ are) takes.frames takes.no_further
  where
    by_taken : (taken : List Frame) → map (Event.Move one_id 1) taken ≡ [] → AreFrames (version_of before one_id) bytes (reverse taken) rest → NoFurther one_id 1 taken rest None before → ⊥
    by_taken (frame ∷ taken) no_frame are further = cc
    by_taken [] no_frame are (inr ended) = ended
    by_taken [] no_frame are (inl left) = let clash : None ≡ Some (whole.item, whole.rest) = sym left ∙ ap item_at are ∙ whole.first in cc

module _ (handler : Handler) (options : VMOptions) (ran : RunOutcome) (few : ℕ) (below : few < 100) where
  unended_with : (added : List (List Event)) (handed moved : List Bytes) → AreAcceptedOf (unended_asked handler ran) (unended_replies few) added [] unended → AreHandedBy (unended_asked handler ran) (unended_replies few) handed
      → AreMovedBy (unended_asked handler ran) (unended_replies few) moved → AreFramesTaken one_id 1 (unended_asked handler ran) (unended_replies few) added moved [] []
      → EachBegunTells handler options one_id (unended_asked handler ran) (unended_replies few) added handed moved [] → ⊥
  unended_with (a0 ∷ a1 ∷ a2 ∷ a3 ∷ a4 ∷ []) (b0 ∷ b1 ∷ b2 ∷ b3 ∷ b4 ∷ []) (m0 ∷ m1 ∷ m2 ∷ m3 ∷ m4 ∷ []) told hands moves takes tells =
      let begun : invocation_begun (a0 ++ []) one_id ≡ Some one = ap (λ (events : List Event). invocation_begun (events ++ []) one_id) told.0 in
      let start = attempt_start_of options one_id (a0 ++ []) 0 one in
      let fed = (tells.1.0 refl one begun).1 in
      let turned = fed.5 in
      let goes = turned.5 in
      let whole = ended_writes handler start fed.0 fed.0.over ran fed.1 turned.1 (ap (λ (t : Told). t.over) fed.2) fed.4 turned.4 in
      let many = goes.4.0 in
      let all : m4 ≡ turned.1 = goes.4.1 ∙ take_all few turned.1 (omega (arith, many, below)) in
      let begin = takes.2 in
      let feed = begin.2 in
      let turn = feed.2 in
      let move = turn.2 in
      let torn : turn.0 ≡ [] = turn.1 ∙ feed.1 ∙ begin.1 ∙ takes.1 in
      let bytes : turn.0 ++ m4 ≡ turned.1 = ap (λ (some : Bytes). some ++ m4) torn ∙ all in
      let some = told.1.1.1.1.0 in
      none_taken (turn.0 ++ m4) move.0 a4 (a3 ++ (a2 ++ (a1 ++ (a0 ++ [])))) (subst IsWhole (sym bytes) whole) move.1 some.0 some.1 some.2
  unended_with [] handed moved told hands moves takes tells = absurd told
  unended_with (a0 ∷ []) handed moved told hands moves takes tells = absurd told.1
  unended_with (a0 ∷ a1 ∷ []) handed moved told hands moves takes tells = absurd told.1.1
  unended_with (a0 ∷ a1 ∷ a2 ∷ []) handed moved told hands moves takes tells = absurd told.1.1.1
  unended_with (a0 ∷ a1 ∷ a2 ∷ a3 ∷ []) handed moved told hands moves takes tells = absurd told.1.1.1.1
  unended_with (a0 ∷ a1 ∷ a2 ∷ a3 ∷ a4 ∷ a5 ∷ added) handed moved told hands moves takes tells = absurd told.1.1.1.1.1
  unended_with (a0 ∷ a1 ∷ a2 ∷ a3 ∷ a4 ∷ []) [] moved told hands moves takes tells = absurd hands
  unended_with (a0 ∷ a1 ∷ a2 ∷ a3 ∷ a4 ∷ []) (b0 ∷ []) moved told hands moves takes tells = absurd hands.1
  unended_with (a0 ∷ a1 ∷ a2 ∷ a3 ∷ a4 ∷ []) (b0 ∷ b1 ∷ []) moved told hands moves takes tells = absurd hands.1.1
  unended_with (a0 ∷ a1 ∷ a2 ∷ a3 ∷ a4 ∷ []) (b0 ∷ b1 ∷ b2 ∷ []) moved told hands moves takes tells = absurd hands.1.1.1
  unended_with (a0 ∷ a1 ∷ a2 ∷ a3 ∷ a4 ∷ []) (b0 ∷ b1 ∷ b2 ∷ b3 ∷ []) moved told hands moves takes tells = absurd hands.1.1.1.1
  unended_with (a0 ∷ a1 ∷ a2 ∷ a3 ∷ a4 ∷ []) (b0 ∷ b1 ∷ b2 ∷ b3 ∷ b4 ∷ b5 ∷ handed) moved told hands moves takes tells = absurd hands.1.1.1.1.1
  unended_with (a0 ∷ a1 ∷ a2 ∷ a3 ∷ a4 ∷ []) (b0 ∷ b1 ∷ b2 ∷ b3 ∷ b4 ∷ []) [] told hands moves takes tells = absurd moves
  unended_with (a0 ∷ a1 ∷ a2 ∷ a3 ∷ a4 ∷ []) (b0 ∷ b1 ∷ b2 ∷ b3 ∷ b4 ∷ []) (m0 ∷ []) told hands moves takes tells = absurd moves.1
  unended_with (a0 ∷ a1 ∷ a2 ∷ a3 ∷ a4 ∷ []) (b0 ∷ b1 ∷ b2 ∷ b3 ∷ b4 ∷ []) (m0 ∷ m1 ∷ []) told hands moves takes tells = absurd moves.1.1
  unended_with (a0 ∷ a1 ∷ a2 ∷ a3 ∷ a4 ∷ []) (b0 ∷ b1 ∷ b2 ∷ b3 ∷ b4 ∷ []) (m0 ∷ m1 ∷ m2 ∷ []) told hands moves takes tells = absurd moves.1.1.1
  unended_with (a0 ∷ a1 ∷ a2 ∷ a3 ∷ a4 ∷ []) (b0 ∷ b1 ∷ b2 ∷ b3 ∷ b4 ∷ []) (m0 ∷ m1 ∷ m2 ∷ m3 ∷ []) told hands moves takes tells = absurd moves.1.1.1.1
  unended_with (a0 ∷ a1 ∷ a2 ∷ a3 ∷ a4 ∷ []) (b0 ∷ b1 ∷ b2 ∷ b3 ∷ b4 ∷ []) (m0 ∷ m1 ∷ m2 ∷ m3 ∷ m4 ∷ m5 ∷ moved) told hands moves takes tells = absurd moves.1.1.1.1.1

  -- as many bytes as wait are moved, or the record tells another number; and of these the end is taken
  pub unended_is_wrong : ReplaysInLine options → IsFaithful itself options [] (unended_asked handler ran) (unended_replies few) unended → ⊥
  unended_is_wrong in_line f =
      unended_with f.added f.handed f.moved f.told f.hands f.moves (f.taken one_id 1) (f.turns handler one_id in_line (tt, (λ same. refl, (tt, (tt, (tt, tt))))) (none_before handler options))
