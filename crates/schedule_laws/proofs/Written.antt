-- What an attempt that is held writes in a turn, and where its input is closed.
use Rattle.std.proofs.Common.{◌≡◌, ◌⊎◌, ℕ, suc, pred, arith, Bool, List, [], ◌∷◌, ◌++◌, append-nil, length, length-append, drop, map, Option, Some, refl, sym, ap, subst, ◌∙◌, inl, inr}
use Rattle.std.proofs.Math.Seq.{drop-append_seam}
use Rattle.std.proofs.lemmas.List.{drop_all}
use Rattle.std.specs.List.{AllByRecursion}
use Rattle.journal_model.specs.declared.invocation.NewInvocation.{NewInvocation}
use Rattle.journal_model.specs.Notification.{Text}
use Rattle.journal_model.specs.Event.{Event, Frame}
use Rattle.journal_model.specs.Attempt.{live_attempt, is_input_closed}
use Rattle.journal_model.specs.Run.{Handler, run_requests}
use Rattle.live_laws.specs.RequestsInFlight.{requests_sent, SendsOfRun}
use Rattle.live_laws.proofs.TurnWrites.{writes_send}
use Rattle.live_laws.specs.StartFrame.{AttemptStart}
use Rattle.protocol_errors.specs.declared.error.Error.{Error}
use Rattle.protocol_stream.specs.Item.{message}
use Rattle.protocol_types.specs.Version.{version_number}
use Rattle.protocol_types.specs.declared.version.Version.{Version}
use Rattle.input_laws.proofs.News.{requests_carried-append}
use Rattle.replay_laws.proofs.Standing.{at, input_requests}
use Rattle.vm_input_laws.proofs.Messages.{all_behind}
use Rattle.vm_output_laws.proofs.FrameMeanings.{frames_are_read}
use Rattle.vm_start.specs.FailureReport.{out_of_memory}
use Rattle.vm_types.specs.declared.options.VMOptions.{VMOptions}
use Rattle.vm_attempt_laws.specs.Attempts.{ClosesInput, output_of, Turns, Attempt, Turn}
use Rattle.vm_attempt_laws.specs.AttemptInvariants.{ClosesEarly, TellsBy, error_told}
use Rattle.vm_attempt_laws.specs.AttemptSimulation.{HasBodies, HasNotRead, HasRead, Serves, machine_failed}
use Rattle.vm_attempt_laws.specs.Bodies.{Body, by_policy, Executor, IsReplayed, NonEmptyValue, outcome_frame, requests_asked_by, RunOutcome}
use Rattle.vm_attempt_laws.specs.BodyExecution.{BodyCause, BodyToldAs, ExecutesFirst, LacksMemory, tried_by}
use Rattle.vm_attempt_laws.specs.Machine.{Cause, NoMemory, told_error}
use Rattle.vm_attempt_laws.specs.OutputOfAttempt.{Sent, Asks, Fails, AllFit, frame_meant, IsOfStore, sent_message, sent_stream}
use Rattle.vm_attempt_laws.specs.TurnReports.{Told, IsAttemptTold, ProposesOutcomeOf}
use Rattle.vm_attempt_laws.specs.TurnsInRun.{turns_answered, AsksAlone, IsToldAs, IsTurnOf, FailsFor, FailsForBody, GoesOnBehind, RunsOne, TellsAwaited, TurnKeeps, TurnsBehind}
use Rattle.vm_attempt_laws.specs.Words.{after_turn, Arrival, AttemptInRun, arrivals_carried, Input, InputMessage, Machine, Request, requests_carried}
use Rattle.vm_attempt_laws.specs.InputOfAttempt.{MessageFits}
use Rattle.vm_attempt_laws.proofs.Beginning.{none_more}
use Rattle.vm_attempt_laws.proofs.ArrivalsCome.{arrivals_read, requests_of_journal, told_journal}
use Rattle.schedule_laws.specs.InvocationInRun.{ReplaysInLine}
use Rattle.schedule_laws.specs.TrackedAttempt.{Tracked, Attends, is_over, lacks_memory, closed_early, is_served, is_left}
use Rattle.schedule_laws.specs.WrittenFrames.{AreFrames, CloseLeaves, requests_written, TurnLeaves, TurnWrites, TurnWritesBy, TurnWritesOver, WritesError, WritesFrames}
use Rattle.schedule_laws.proofs.FrameSoundness.{meant_command}
use Rattle.schedule_laws.proofs.Serving.{ServingLaws}
use Rattle.vm_attempt_laws.proofs.OverAttempts.{early_tells, over_of, turned_failed, turned_over}

-- ---- frames in bytes

-- what was sent is read as the frames that it was meant as
pub stream_frames : (version : Version) (sent : List Sent) → AllFit version sent → AreFrames (version_number version) (sent_stream version sent) (map (frame_meant version) sent) []
stream_frames version [] fit = refl
stream_frames version (one ∷ sent) fit =
    let read = frames_are_read version one (sent_stream version sent) fit.0 in
    (message (sent_message version one), sent_stream version sent, read.front, sym read.frame, stream_frames version sent fit.1)

writes_sent : (version : Version) (number : ℕ) (sent : List Sent) (waits behind : List ℕ) → number ≡ version_number version → AllFit version sent → behind ≡ waits ++ sent_stream version sent
    → WritesFrames number (map (frame_meant version) sent) waits behind
writes_sent version number sent waits behind same fit is = record {
  bytes = sent_stream version sent;
  behind_is = is;
  are = subst (λ (v : ℕ). AreFrames v (sent_stream version sent) (map (frame_meant version) sent) []) (sym same) (stream_frames version sent fit);
}

-- ---- requests

requests_of_commands : (asked : List Request) → requests_sent (map Frame.Command asked) ≡ asked
requests_of_commands [] = refl
requests_of_commands (request ∷ asked) = ap (λ (some : List Request). request ∷ some) (requests_of_commands asked)

-- requests that a store records are meant as such
asked_meant : (version : Version) (asked : List Request) (behind : List Sent) → AllByRecursion IsOfStore (map Asks asked ++ behind)
    → map (frame_meant version) (map Asks asked ++ behind) ≡ map Frame.Command asked ++ map (frame_meant version) behind
asked_meant version [] behind all = refl
asked_meant version (request ∷ asked) behind all =
    ap (λ (frame : Frame). frame ∷ map (frame_meant version) (map Asks asked ++ behind)) (meant_command version request all.0.0)
    ∙ ap (λ (some : List Frame). Frame.Command request ∷ some) (asked_meant version asked behind all.1)

drop_front : (asked left read unread journal written : List Request) → read ++ unread ≡ journal → asked ++ left ≡ read ++ written → ((left ≡ []) × (unread ≡ [])) ⊎ (written ≡ []) → written ≡ drop (length journal) asked
drop_front asked left read unread journal written parts same (inl (none, all)) =
    let whole : journal ≡ read = sym parts ∙ ap (λ (some : List Request). read ++ some) all ∙ append-nil read in
    let asked_are : journal ++ written ≡ asked = ap (λ (some : List Request). some ++ written) whole ∙ sym same ∙ ap (λ (some : List Request). asked ++ some) none ∙ append-nil asked in
    sym (drop-append_seam journal written) ∙ ap (λ (some : List Request). drop (length journal) some) asked_are
drop_front asked left read unread journal written parts same (inr none) =
    let few : length (asked ++ left) ≡ length (read ++ []) = ap (λ (some : List Request). length some) (same ∙ ap (λ (some : List Request). read ++ some) none) in
    let many : length (read ++ unread) ≡ length journal = ap (λ (some : List Request). length some) parts in
    let first = length-append asked left in
    let second = length-append read [] in
    let third = length-append read unread in
    none ∙ sym (drop_all (length journal) asked (omega (arith, few, many, first, second, third)))

-- what an attempt has written that replays its journal is what the run has asked for behind that
written_at : (next : Handler) (live : AttemptInRun) (proposed : List (ℕ × NonEmptyValue)) (e : Executor) → IsReplayed next live proposed e
    → live.machine.written ≡ drop (length (requests_carried live.start.journal)) (run_requests next live.start.given (arrivals_carried live.read) live.calls)
written_at next live proposed e lives =
    let p = at next live proposed e lives in
    drop_front (run_requests next live.start.given (arrivals_carried live.read) live.calls) p.left (requests_carried live.read) (requests_carried live.unread) (requests_carried live.start.journal) live.machine.written
    (sym (requests_carried-append live.read live.unread) ∙ input_requests next live proposed e lives) p.position.requests p.position.replays

-- ---- a turn of one that serves

module _ {H : Type 0} (function : H → Handler) (next : Handler) (version : Version) (options : VMOptions) (is_closed : Bool) (live : AttemptInRun) (before : Attempt H) (proposed : List (ℕ × NonEmptyValue)) (ran : RunOutcome)
    (told : Told) (own : HasBodies next live proposed before) (s : Serves function next version options live is_closed before) (t : IsAttemptTold live before is_closed proposed told) where
  abbrev arrivals : List Arrival
  arrivals = arrivals_carried live.read

  abbrev by_calls : ℕ → List Request
  by_calls calls = drop (length (requests_carried live.start.journal)) (run_requests next live.start.given (arrivals_carried live.read) calls)

  abbrev written : ℕ → List Request
  written answered = requests_written next live.start told arrivals answered

  calls_of : (now : AttemptInRun) (a : Attempt H) → HasNotRead function next version options now is_closed a ⊎ HasRead function next version options now a → pred (turns_answered a.input now.calls) ≡ now.calls
  calls_of now a (inl n) = ap (λ (input : Option Input). pred (turns_answered input now.calls)) n.input ∙ ap pred n.calls ∙ sym n.calls
  calls_of now a (inr r) = ap (λ (input : Option Input). pred (turns_answered input now.calls)) r.input

  calls_before : pred told.answered ≡ live.calls
  calls_before = ap pred t.answered ∙ calls_of live before s.stands

  written_before : live.machine.written ≡ by_calls live.calls
  written_before = written_at next live proposed own.executor own.lives

  abbrev Goes : List Frame → ℕ → Machine → List (ℕ × NonEmptyValue) → Attempt H → Type 0
  Goes frames calls machine more after = GoesOnBehind function next version options is_closed live frames calls machine more after

  written_after : (frames : List Frame) (calls : ℕ) (machine : Machine) (more : List (ℕ × NonEmptyValue)) (after : Attempt H) → Goes frames calls machine more after
      → live.machine.written ++ requests_sent frames ≡ by_calls calls
  written_after frames calls machine more after b = sym b.written ∙ written_at next (after_turn live frames calls machine) more b.bodies.executor b.bodies.lives

  -- what it has asked for since
  answered_more : (frames : List Frame) (calls : ℕ) (machine : Machine) (more : List (ℕ × NonEmptyValue)) (after : Attempt H) → turns_answered after.input calls ≡ suc (turns_answered before.input live.calls)
      → Goes frames calls machine more after → written told.answered ++ requests_sent frames ≡ written (suc told.answered)
  answered_more frames calls machine more after counted b =
      let now : calls ≡ told.answered = sym (calls_of (after_turn live frames calls machine) after b.serves.stands) ∙ ap pred counted ∙ sym t.answered in
      ap (λ (some : List Request). some ++ requests_sent frames) (ap (λ (k : ℕ). by_calls k) calls_before ∙ sym written_before) ∙ written_after frames calls machine more after b
      ∙ ap (λ (k : ℕ). by_calls k) now

  -- and nothing else
  answered_writes : (frames : List Frame) → AsksAlone frames → written told.answered ++ requests_sent frames ≡ written (suc told.answered)
      → (asked : List Request) × (written told.answered ++ asked ≡ written (suc told.answered)) × (frames ≡ map Frame.Command asked)
  answered_writes frames (asked, are) grown =
      (asked, ap (λ (some : List Request). written told.answered ++ some) (sym (ap requests_sent are ∙ requests_of_commands asked)) ∙ grown, are)

  -- all that was asked for by then
  asked_now : requests_asked_by live ≡ requests_carried live.start.journal ++ written told.answered
  asked_now =
      ap (λ (some : List Request). some ++ live.machine.written) (input_requests next live proposed own.executor own.lives)
      ∙ ap (λ (some : List Request). requests_carried live.start.journal ++ some) (written_before ∙ ap (λ (k : ℕ). by_calls k) (sym calls_before))

  -- each frame of a turn is of the run
  sends_now : (frames : List Frame) → IsTurnOf next is_closed live frames
      → SendsOfRun next live.start.given arrivals told.is_closed (requests_carried live.start.journal ++ written told.answered) frames
  sends_now frames makes =
      let none : makes.some ≡ [] = none_more makes.some makes.still live.unread live.held (all_behind MessageFits live.read live.unread s.fed.fit) makes.parts makes.bytes in
      let read : live.read ++ makes.some ≡ live.read = ap (λ (some : List InputMessage). live.read ++ some) none ∙ append-nil live.read in
      subst (λ (some : List InputMessage). SendsOfRun next live.start.given (arrivals_carried some) told.is_closed (requests_carried live.start.journal ++ written told.answered) frames) read
      (subst (λ (closed : Bool). SendsOfRun next live.start.given (arrivals_carried (live.read ++ makes.some)) closed (requests_carried live.start.journal ++ written told.answered) frames) (sym t.closed)
      (subst (λ (asked : List Request). SendsOfRun next live.start.given (arrivals_carried (live.read ++ makes.some)) is_closed asked frames) asked_now
      (writes_send next live.start.given (arrivals_carried (live.read ++ makes.some)) is_closed (requests_asked_by live) frames makes.writes)))

  -- the error is the last frame, behind requests alone
  abbrev Fails_so : Error → List Sent → Type 0
  Fails_so error sent = WritesError next live.start told arrivals error (map (frame_meant version) sent)

  error_last : (error : Error) (asked : List Request) (sent : List Sent) → AllByRecursion IsOfStore sent → sent ≡ map Asks asked ++ Fails (told_error error) ∷ [] → Fails_so error sent
  error_last error asked sent all is = inr (inr (
    asked,
    ap (λ (some : List Sent). map (frame_meant version) some) is ∙ asked_meant version asked (Fails (told_error error) ∷ []) (subst (AllByRecursion IsOfStore) is all)
        ∙ ap (λ (v : ℕ). map Frame.Command asked ++ error_told v error ∷ []) (sym s.of_run.version_is),
  ))

  failed_writes : (error : Error) (sent : List Sent) (after : Attempt H) → AllByRecursion IsOfStore sent → FailsFor function next version options is_closed live before error sent after
      ⊎ FailsForBody function next version options is_closed live before proposed ran error sent → Fails_so error sent
  failed_writes error sent after all (inl by) = by_cause by.cause by.told
    where
      by_cause : (cause : Cause) → IsToldAs version live (next live.start.given.input before.answers) before.vm.state after.vm.state by.far.more cause error sent → Fails_so error sent
      by_cause NoMemory it = inl it
      by_cause cause it = error_last error by.far.more sent all it.3
  failed_writes error sent after all (inr by) = by_cause by.cause by.told
    where
      by_cause : (cause : BodyCause) → BodyToldAs version options (by_policy ran) (tried_by live by.shows) before.vm.state by.run cause error sent → Fails_so error sent
      by_cause LacksMemory it = inl it
      by_cause cause it = error_last error [] sent all it.3

  -- the body that it has executed, and its outcome
  first_told : (body : Body) → ExecutesFirst next live.start.given arrivals live.calls (requests_carried live.read ++ live.machine.written) proposed body
      → ExecutesFirst next live.start.given arrivals (pred told.answered) (run_requests next live.start.given arrivals (suc (pred told.answered))) told.proposed body
  first_told body w =
      subst (λ (calls : ℕ). ExecutesFirst next live.start.given arrivals calls (run_requests next live.start.given arrivals (suc calls)) told.proposed body) (sym calls_before)
      (subst (λ (requests : List Request). ExecutesFirst next live.start.given arrivals live.calls requests told.proposed body) (sym w.waits.exactly)
      (subst (λ (some : List (ℕ × NonEmptyValue)). ExecutesFirst next live.start.given arrivals live.calls (requests_carried live.read ++ live.machine.written) some body) (sym t.outcomes) w))

  outcome_told : (sent : List Sent) (after : Attempt H) (b : RunsOne function next version options is_closed live before proposed ran sent after)
      → ProposesOutcomeOf next live.start told arrivals ran b.body b.value
  outcome_told sent after b = record {
    journal = told_journal function next version options is_closed live before proposed told own s t b.journal;
    first = first_told b.body b.first;
    written = live.machine.written;
    behind = ap (λ (calls : ℕ). run_requests next live.start.given arrivals (suc calls)) calls_before ∙ b.first.waits.exactly
        ∙ ap (λ (requests : List Request). requests ++ live.machine.written) (requests_of_journal live b.journal s.fed);
    shows = b.shows;
    outcome = b.outcome;
  }

  turn_writes : (sent : List Sent) (turn : Turn) (after : Attempt H) → AllByRecursion IsOfStore sent → TurnsBehind function next version options is_closed live before proposed ran sent turn after
      → TurnWritesOver next live.start told arrivals ran turn (map (frame_meant version) sent)
  turn_writes sent Turn.Answered after all b = answered_writes (map (frame_meant version) sent) b.4 (answered_more (map (frame_meant version) sent) b.0 b.1 proposed after b.2 b.3)
  turn_writes sent Turn.RanBody after all b = (
    b.body,
    b.value,
    outcome_told sent after b,
    b.sends ∙ ap (λ (v : ℕ). outcome_frame v b.body.completion b.value ∷ []) (sym s.of_run.version_is),
  )
  turn_writes sent Turn.Waiting after all b =
      subst (λ (asked : List Request). TellsAwaited next live.start.given arrivals asked (map (frame_meant version) sent)) asked_now b.2
  turn_writes sent Turn.Suspended after all b = (b.3.suspension, b.3.frames_are)
  turn_writes sent Turn.Ended after all b = b.2
  turn_writes sent (Turn.Failed error) after all b = failed_writes error sent after all b.0

  -- what waits behind it
  abbrev pub WritesBehind : AttemptStart → Turn → Attempt H → Type 0
  WritesBehind start turn after =
      (frames : List Frame) × WritesFrames start.new.version frames (output_of before) (output_of after) × TurnWrites next start told ran turn frames

  pub turn_leaves : (turn : Turn) (after : Attempt H) → TurnKeeps function next version options is_closed live before proposed ran turn after → WritesBehind live.start turn after
  turn_leaves turn after k = (
    map (frame_meant version) k.sent,
    writes_sent version live.start.new.version k.sent (output_of before) (output_of after) s.of_run.version_is k.fit k.output,
    subst (λ (some : List Arrival). TurnWritesBy next live.start told some ran turn (map (frame_meant version) k.sent)) (sym (arrivals_read function next version options is_closed live before proposed told own s t))
        (sends_now (map (frame_meant version) k.sent) k.makes, turn_writes k.sent turn after k.of_store k.behind),
  )

-- ---- any that is held

module _ {H : Type 0} (function : H → Handler) (next : Handler) (options : VMOptions) (id : Text) (laws : ServingLaws function next options) (events : List Event) (new : NewInvocation) (version : Version) (coming : List Sent) (n : ℕ)
    (t : Tracked) (a changed : Attempt H) where
  nothing_written : (number : ℕ) → output_of changed ≡ output_of a → WritesFrames number [] (output_of a) (output_of changed)
  nothing_written number same = record { bytes = []; behind_is = same ∙ sym (append-nil (output_of a)); are = refl }

  abbrev Leaves : RunOutcome → Turn → Option Turn → Type 0
  Leaves ran turn over = TurnLeaves next t.start t.told over ran turn (output_of a) (output_of changed)

  pub turned_leaves : (ran : RunOutcome) (turn : Turn) → ReplaysInLine options → Turns function ran a turn changed → Attends function next options id events new version coming n t a → Leaves ran turn t.told.over
  turned_leaves ran turn in_line turns (is_over last so over) =
      subst (λ (o : Option Turn). Leaves ran turn o) (sym so) (ap (λ (one : Attempt H). output_of one) (turned_over function ran last a turn changed over turns).1)
  turned_leaves ran turn in_line turns (lacks_memory so going lacks) =
      let it = turned_failed function ran out_of_memory a turn changed going lacks turns in
      let same : it.0 ≡ out_of_memory = elim it.2 [ inl e ↦ e | inr e ↦ e ] in
      subst (λ (o : Option Turn). Leaves ran turn o) (sym so) (inl (it.1 ∙ ap Turn.Failed same, ap (λ (one : Attempt H). output_of one) it.3))
  turned_leaves ran turn in_line turns (closed_early so going e closed) =
      let it = turned_failed function ran e.error a turn changed going e.failed turns in
      subst (λ (o : Option Turn). Leaves ran turn o) (sym so)
      (inr (
        [],
        nothing_written t.start.new.version (ap (λ (one : Attempt H). output_of one) it.3),
        subst (λ (one : Turn). TurnWrites next t.start t.told ran one []) (sym it.1) (tt, inr (inl (e.closed, e.unread))),
      ))
  turned_leaves ran turn in_line turns (is_served so lives s) =
      let k = laws.turns version (is_input_closed events id) s.live a s.proposed ran turn changed in_line.queued s.bodies s.serves turns in
      subst (λ (o : Option Turn). Leaves ran turn o) (sym so)
      (inr (subst (λ (start : AttemptStart). WritesBehind function next version options (is_input_closed events id) s.live a s.proposed ran t.told s.bodies s.serves s.is_told start turn changed) s.start_is
      (turn_leaves function next version options (is_input_closed events id) s.live a s.proposed ran t.told s.bodies s.serves s.is_told turn changed k)))
  turned_leaves ran turn in_line turns (is_left so not l) =
      let g = l.goes_on in
      let k = laws.turns l.version l.is_closed g.live a g.proposed ran turn changed in_line.queued g.bodies g.serves turns in
      subst (λ (o : Option Turn). Leaves ran turn o) (sym so)
      (inr (subst (λ (start : AttemptStart). WritesBehind function next l.version options l.is_closed g.live a g.proposed ran t.told g.bodies g.serves g.is_told start turn changed) g.start_is
      (turn_leaves function next l.version options l.is_closed g.live a g.proposed ran t.told g.bodies g.serves g.is_told turn changed k)))

  -- where its input is closed before its journal had come
  early_leaves : (one : Version) (live : AttemptInRun) → t.start.new.version ≡ version_number one → ClosesEarly function next one options live a changed → CloseLeaves t.start (output_of a) (output_of changed)
  early_leaves one live speaks early = by_tells early.tells
    where
      by_tells : TellsBy early.error early.sent → CloseLeaves t.start (output_of a) (output_of changed)
      by_tells (inl is) = inr (
        early.error,
        early_tells a.vm.state.active.output early.error early.told,
        subst (λ (frames : List Frame). WritesFrames t.start.new.version frames (output_of a) (output_of changed))
            (ap (λ (some : List Sent). map (frame_meant one) some) is ∙ ap (λ (v : ℕ). error_told v early.error ∷ []) (sym speaks))
            (writes_sent one t.start.new.version early.sent (output_of a) (output_of changed) speaks early.fit early.output),
      )
      by_tells (inr none) = inl (early.output ∙ ap (λ (some : List Sent). output_of a ++ sent_stream one some) none.1 ∙ append-nil (output_of a))

  pub closed_leaves : ClosesInput a changed → live_attempt events id ≡ Some n → Attends function next options id events new version coming n t a → CloseLeaves t.start (output_of a) (output_of changed)
  closed_leaves closes live (is_over last so over) = inl ((laws.over a (over_of last a over)).closed changed closes).1
  closed_leaves closes live (lacks_memory so going lacks) = inl ((laws.over a (machine_failed out_of_memory lacks)).closed changed closes).1
  closed_leaves closes live (closed_early so going e closed) = inl ((laws.over a (machine_failed e.error e.failed)).closed changed closes).1
  closed_leaves closes live (is_served so lives s) = elim (laws.closes version s.live (is_input_closed events id) a changed s.serves closes) [
    | inl c ↦ inl c.nothing
    | inr early ↦ early_leaves version s.live (ap (λ (start : AttemptStart). start.new.version) (sym s.start_is) ∙ s.serves.of_run.version_is) early
  ]
  closed_leaves closes live (is_left so not l) = absurd (not live)
