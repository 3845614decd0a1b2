-- Each turn of an attempt, by what its machine does.
use Rattle.std.proofs.Common.{◌≡◌, ◌⊎◌, inl, inr, ◌∙◌, ℕ, suc, Bool, true, false, List, [], ◌∷◌, ◌++◌, append-nil, map, Option, Some, refl, sym, ap, subst}
use Rattle.std.proofs.Math.Path.{fun_ext}
use Rattle.std.specs.List.{AllByRecursion}
use Rattle.journal_model.specs.AwaitTree.{map_leaves}
use Rattle.journal_model.specs.Event.{Suspension, ForTree}
use Rattle.journal_model.specs.History.{stands_for}
use Rattle.journal_model.specs.Future.{tree_of}
use Rattle.journal_model.specs.declared.notification.NotificationId.TheVariants.{CompletionId}
use Rattle.vm_runs.specs.Runs.{Runs}
use Rattle.vm_waiting.specs.WaitsFor.{waits_as}
use Rattle.vm_waiting.specs.declared.waits_for.WaitsFor.{WaitsFor}
use Rattle.vm_waiting.specs.declared.waits_for.WaitsFor.TheVariants.{Future, Child}
use Rattle.run_laws.specs.SuspensionContent.{TellsAwaitedTree, WaitsAll}
use Rattle.run_laws.proofs.Awaits.{awaits_tell, children_tell}
use Rattle.input_laws.proofs.News.{requests_carried-append}
use Rattle.vm_output_laws.specs.TurnFrames.{leaves_over}
use Rattle.vm_outcomes.proofs.Failing.{none_put}
use Rattle.vm_attempt_laws.specs.Bodies.{requests_asked_by, Executor, IsReplayed, KeepsBodies, NonEmptyValue, outcomes_in, RunOutcome}
use Rattle.vm_attempt_laws.specs.AttemptInvariants.{IsNoError, TellsErrorBy}
use Rattle.vm_attempt_laws.specs.AttemptSimulation.{HasNumbers, HasRead, HasBodies, Serves, finished, machine_failed}
use Rattle.vm_attempt_laws.proofs.Notes.{answers_kept, waits_more}
use Rattle.vm_attempt_laws.proofs.Errors.{call_errors, calm_unfailed, memory_told}
use Rattle.vm_attempt_laws.proofs.Quiet.{answer_asks, answer_calm, answer_quiet, waits_calm, waits_quiet, waits_tell}
use Rattle.vm_attempt_laws.proofs.Bodies.{keeps_with}
use Rattle.vm_attempt_laws.proofs.Executing.{WithBodies, answered_lives, answered_keeps, none_executing, waits_live, waits_others}
use Rattle.vm_attempt_laws.proofs.Going.{OnlyTurns, serves_on}
use Rattle.vm_attempt_laws.specs.Attempts.finishes
use Rattle.vm_attempt_laws.specs.Attempts.{output_of, FinishesBy, TakesAnswer, Attempt, Turn}
use Rattle.vm_attempt_laws.specs.Machine.{MachineState, Written, out_of_memory, CoreVM, Answers, Waits, Suspends, Ends, Fails, NoMemory, IsDriven}
use Rattle.vm_attempt_laws.specs.InputOfAttempt.{Kind}
use Rattle.vm_attempt_laws.specs.OutputOfAttempt.{Sent, sent_stream, frame_meant}
use Rattle.vm_attempt_laws.specs.Words.{are_by_text, Error, Version, version_number, Answer, Answered, Input, NotificationId, Frame, answers_of, Request, Handler, Progress, run, arrivals_carried, requests_carried, Machine, Reply, AttemptInRun, after_turn, VMOptions, slot_of, AnswersNext, RepliesAsRun, SendsReply, SendsWaiting, goes_on}
use Rattle.vm_attempt_laws.specs.TurnsInRun.{turns_answered, GoesOnBehind, FailsBy, FailsFor, SuspendsWith, ProposesAs, TellsAwaited, TurnsBehind, TurnKeeps}
use Rattle.vm_attempt_laws.proofs.Failing.{fails_so}
use Rattle.vm_attempt_laws.proofs.Now.{Now, call_of, reply_at}
use Rattle.vm_attempt_laws.proofs.Stored.{sent_of_store}
use Rattle.vm_attempt_laws.proofs.Texts.{reply_text}
use Rattle.vm_attempt_laws.proofs.TurnOutput.{SendsFor, AnswersSo, answers_so, IsTold, is_told, waits_send, suspends_send, ends_send}

-- an attempt that waits goes on with so many calls
waits_on : {calls : ℕ} (waits : WaitsFor) (whole : Machine) → goes_on calls (waits_as waits whole) ≡ Some (calls, whole)
waits_on (Future left) whole = refl
waits_on (Child child) whole = refl

module _ {H : Type 0} (function : H → Handler) (next : Handler) (version : Version) (options : VMOptions) (is_closed : Bool) (live : AttemptInRun) (before : Attempt H)
    (proposed : List (ℕ × NonEmptyValue)) (ran : RunOutcome) (b : HasBodies next live proposed before)
    (s : Serves function next version options live is_closed before) (r : HasRead function next version options live before)
    (n : Now next version options is_closed live before.vm.state) (w : WithBodies next version options is_closed live before.vm.state n proposed b.executor) where
  abbrev Keeps : Turn → Attempt H → Type 0
  Keeps turn after = TurnKeeps function next version options is_closed live before proposed ran turn after

  abbrev SendsHere : Written → Type 0
  SendsHere new = SendsFor next version options is_closed live before.vm.state n is_closed (reply_at next live before.vm.state n.at) new

  same_answers : before.answers ≡ answers_of n.at.stands.steps
  same_answers = r.answers ∙ ap (λ (p : Progress). answers_of p.steps) n.at.stands.going

  no_memory : (sent : List Sent) (after : Attempt H) → FailsFor function next version options is_closed live before out_of_memory sent after
  no_memory sent after =
      record { far = none_put live.start.given live.machine (next live.start.given.input before.answers) before.vm.state; cause = NoMemory; own = tt; when = tt; told = refl }

  -- the machine has made such a call, and nothing else has changed but what is said
  module _ (vm : CoreVM) (after : Attempt H) (front : after.front ++ after.behind ≡ before.front ++ before.behind) (state_is : after.vm.state ≡ vm.state) (sends : SendsHere vm.state.active.output) where
    sent_more : output_of after ≡ output_of before ++ sent_stream version sends.coming
    sent_more = waits_more version sends.coming before after front (ap (λ (m : MachineState). m.active.output.bytes) state_is ∙ sends.bytes)

    keeps_turn : (turn : Turn) → ProposesAs turn (map (frame_meant version) sends.coming) → AllByRecursion (TellsErrorBy (version_number version) turn) (map (frame_meant version) sends.coming) → AllByRecursion IsNoError (map (frame_meant version) sends.coming) → TurnsBehind function next version options is_closed live before proposed ran sends.coming turn after → Keeps turn after
    keeps_turn turn quiet errors calm behind = record {
      sent = sends.coming;
      fit = sends.fit;
      of_store = sent_of_store live.start.given.version is_closed live.machine (reply_at next live before.vm.state n.at) version sends.coming
          (reply_text next live.start.given (requests_carried live.read) (arrivals_carried live.read) live.calls n.by_text (reply_at next live before.vm.state n.at) n.as_run) sends.sends;
      output = sent_more;
      makes = n.makes.turns (map (frame_meant version) sends.coming) n.whole sends.sends;
      proposes = quiet;
      errors = errors;
      unfailed = λ may. calm_unfailed (map (frame_meant version) sends.coming) calm;
      behind = behind;
    }

    -- it goes on with this machine, and with bodies that live and are kept
    module _ (calls : ℕ) (whole : Machine) (e : Executor) (t : OnlyTurns before after) (driven : IsDriven live.start.given whole vm.state) (numbers : HasNumbers whole)
        (answers : after.answers ≡ answers_of (run next live.start.given (arrivals_carried live.read) calls).steps) where
      goes_on_with : IsReplayed next (after_turn live (map (frame_meant version) sends.coming) calls whole) proposed e → KeepsBodies vm.state.runs e
          → (proposed ≡ []) ⊎ (whole.left ≡ []) → goes_on live.calls (reply_at next live before.vm.state n.at) ≡ Some (calls, whole)
          → GoesOnBehind function next version options is_closed live (map (frame_meant version) sends.coming) calls whole proposed after
      goes_on_with lives keeps behind goes = record {
        bodies = record { executor = e; lives = lives; keeps = subst (λ (m : MachineState). KeepsBodies m.runs e) (sym state_is) keeps; behind = behind };
        serves = serves_on function next version options is_closed live before after s r t (map (frame_meant version) sends.coming) calls whole
            (subst (λ (m : MachineState). IsDriven live.start.given whole m) (sym state_is) driven) numbers answers;
        written = (n.makes.behind (map (frame_meant version) sends.coming) calls whole sends.sends goes).written;
      }

  turns_only : (vm : CoreVM) (after : Attempt H) → after.vm.state ≡ vm.state → vm.state ≡ record before.vm.state { active = vm.state.active; runs = vm.state.runs }
      → after.vm.state ≡ record before.vm.state { active = after.vm.state.active; runs = after.vm.state.runs }
  turns_only vm after state_is others = state_is ∙ others ∙ ap (λ (m : MachineState). record before.vm.state { active = m.active; runs = m.runs }) (sym state_is)

  -- ---- by what its call comes to

  module _ (vm : CoreVM) (turn : Turn) (after : Attempt H) where
    pub answered : (answer : Answer) → Answers live.start.given live.machine (call_of next live n.at) before.vm.state answer vm.state → TakesAnswer answer (record before { vm = vm }) turn after → Keeps turn after
    answered answer a takes = taken takes
      where
        so : AnswersSo next version options is_closed live before.vm.state n a.machine vm.state
        so = answers_so next version options is_closed live before.vm.state n answer vm.state a

        sends : SendsReply live.start.given.version is_closed live.machine (Answered answer a.machine) (map (frame_meant version) so.sends.coming)
        sends = subst (λ (r : Reply). SendsReply live.start.given.version is_closed live.machine r (map (frame_meant version) so.sends.coming)) a.replies so.sends.sends

        quiet : ProposesAs Turn.Answered (map (frame_meant version) so.sends.coming)
        quiet = answer_quiet live.start.given.version is_closed live.machine (map (frame_meant version) so.sends.coming) answer a.machine sends

        calm : AllByRecursion IsNoError (map (frame_meant version) so.sends.coming)
        calm = answer_calm live.start.given.version is_closed live.machine (map (frame_meant version) so.sends.coming) answer a.machine sends

        next_one : AnswersNext next live.start.given (requests_carried live.read) (arrivals_carried live.read) live.calls answer a.machine
        next_one = subst (RepliesAsRun next live.start.given (requests_carried live.read) (arrivals_carried live.read) live.calls) a.replies n.as_run

        texts : are_by_text a.machine.written ≡ true
        texts = reply_text next live.start.given (requests_carried live.read) (arrivals_carried live.read) live.calls n.by_text (Answered answer a.machine) next_one

        left : (proposed ≡ []) ⊎ (live.machine.left ≡ []) → (proposed ≡ []) ⊎ (a.machine.left ≡ [])
        left (inl none) = inl none
        left (inr behind) = inr (so.left behind)

        taken : ((turn ≡ Turn.Answered) × (after ≡ record (record before { vm = vm }) { answers = before.answers ++ answer ∷ [] })) ⊎ FinishesBy finishes.OutOfMemory (record before { vm = vm }) turn after → Keeps turn after
        taken (inl one) =
            let is = one.1 in
            let front = ap (λ (a : Attempt H). a.front ++ a.behind) is in
            let state_is = ap (λ (a : Attempt H). a.vm.state) is in
            let input = ap (λ (a : Attempt H). a.input) is in
            let answers = ap (λ (a : Attempt H). a.answers) is ∙ ap (λ (some : List Answer). some ++ answer ∷ []) r.answers ∙ sym next_one.answers in
            let counted : turns_answered after.input (suc live.calls) ≡ suc (turns_answered before.input live.calls) =
            ap (λ (i : Option Input). turns_answered i (suc live.calls)) (input ∙ r.input) ∙ sym (ap (λ (i : Option Input). suc (turns_answered i live.calls)) r.input) in
            subst (λ (t : Turn). Keeps t after) (sym one.0) (keeps_turn vm after front state_is so.sends Turn.Answered quiet calm calm (
              suc live.calls,
              a.machine,
              counted,
              goes_on_with vm after front state_is so.sends (suc live.calls) a.machine _
                  (record { handler = ap (λ (a : Attempt H). a.handler) is; over = ap (λ (a : Attempt H). a.over) is; input = input; machine = turns_only vm after state_is a.others })
                  a.driven so.numbers answers
                  (answered_lives next version options is_closed live before.vm.state n proposed b.executor w answer a.machine a.replies (map (frame_meant version) so.sends.coming) sends texts)
                  (answered_keeps next version options is_closed live before.vm.state n proposed b.executor w a.machine vm.state.runs a.runs) (left w.behind) (ap (goes_on live.calls) a.replies),
              answer_asks live.start.given.version is_closed live.machine (map (frame_meant version) so.sends.coming) answer a.machine sends,
            ))
        taken (inr over) =
            let is = over.1 in
            subst (λ (t : Turn). Keeps t after) (sym over.0)
            (keeps_turn vm after (ap (λ (a : Attempt H). a.front ++ a.behind) is) (ap (λ (a : Attempt H). a.vm.state) is) so.sends (Turn.Failed out_of_memory) quiet (memory_told (version_number version) (map (frame_meant version) so.sends.coming)) calm
            (inl (no_memory so.sends.coming after), finished finishes.OutOfMemory (ap (λ (a : Attempt H). a.over) is), λ kept none. inr refl))

    -- what tells what its call waits for tells what the run waits for
    waits_with : (waits : WaitsFor) (whole : Machine) → reply_at next live before.vm.state n.at ≡ waits_as waits whole → whole.written ≡ live.machine.written
        → (suspension : Suspension) → TellsAwaitedTree live.start.given.version (leaves_over whole.slots waits) (Some suspension)
        → WaitsAll next live.start.given (arrivals_carried live.read) (requests_carried live.read ++ live.machine.written) (Some suspension)
    waits_with (Future left) whole e same suspension tells =
        let waits = subst (RepliesAsRun next live.start.given (requests_carried live.read) (arrivals_carried live.read) live.calls) e n.as_run in
        let handles : slot_of whole.slots ≡ stands_for (run next live.start.given (arrivals_carried live.read) live.calls).steps =
        fun_ext (λ handle. waits.stands.tables.handles handle ∙ ap (λ (p : Progress). stands_for p.steps handle) (sym waits.stands.going)) in
        awaits_tell next live.start.given (arrivals_carried live.read) live.calls (requests_carried live.read ++ live.machine.written) waits.ids (map_leaves (slot_of whole.slots) (tree_of left)) suspension
        (ap (λ (p : Progress). p.ending) n.at.stands.going) waits.waits (waits.exactly ∙ ap (λ (written : List Request). requests_carried live.read ++ written) same)
        (ap (λ (leaf : ℕ → Option NotificationId). map_leaves leaf (tree_of left)) handles ∙ waits.rest) tells
    waits_with (Child child) whole e same suspension tells =
        let waits = subst (RepliesAsRun next live.start.given (requests_carried live.read) (arrivals_carried live.read) live.calls) e n.as_run in
        children_tell next live.start.given (arrivals_carried live.read) (suc live.calls) (requests_carried live.read ++ live.machine.written) (Some (CompletionId child)) suspension waits.waits
        (waits.exactly ∙ ap (λ (written : List Request). requests_carried live.read ++ written) same) tells

    -- what is written where it is suspended
    suspends_with : (waits : WaitsFor) (whole : Machine) → reply_at next live before.vm.state n.at ≡ waits_as waits whole → whole.written ≡ live.machine.written
        → (frames : List Frame) → SendsWaiting live.start.given.version true (leaves_over whole.slots waits) frames → SuspendsWith next live frames
    suspends_with waits whole e same frames (suspension, frames_are, tells) = record { suspension = suspension; frames_are = frames_are; waits = waits_with waits whole e same suspension tells }

    -- what was asked for by then is all that was asked for, since all of the journal is read
    all_asked : requests_carried live.read ++ live.machine.written ≡ requests_asked_by live
    all_asked =
        ap (λ (some : List Request). some ++ live.machine.written)
        (sym (requests_carried-append live.read live.unread ∙ ap (λ (some : List Request). requests_carried live.read ++ some) n.at.all_read ∙ append-nil (requests_carried live.read)))

    -- and where it waits
    stays_with : (waits : WaitsFor) (whole : Machine) → reply_at next live before.vm.state n.at ≡ waits_as waits whole → whole.written ≡ live.machine.written
        → (frames : List Frame) → SendsWaiting live.start.given.version false (leaves_over whole.slots waits) frames
        → TellsAwaited next live.start.given (arrivals_carried live.read) (requests_asked_by live) frames
    stays_with waits whole e same frames (inl none) = inl none
    stays_with waits whole e same frames (inr (awaited, frames_are, tells)) = inr (
      awaited,
      frames_are,
      subst (λ (asked : List Request). WaitsAll next live.start.given (arrivals_carried live.read) asked (Some (ForTree awaited))) all_asked (waits_with waits whole e same (ForTree awaited) tells),
    )

    pub waiting : Waits live.start.given live.machine (call_of next live n.at) before.vm.state vm.state → turn ≡ Turn.Waiting → after ≡ record before { vm = vm } → Keeps turn after
    waiting p is_turn is = subst (λ (t : Turn). Keeps t after) (sym is_turn) (keeps_turn vm after front state_is so Turn.Waiting quiet calm calm (
      inr (sym (ap (λ (k : Kind). k.is_input_closed) n.kind) ∙ is_open, waits_others next version options is_closed live before.vm.state n proposed b.executor w p.waits p.machine p.replies p.none p.written),
      (
        p.machine,
        goes_on_with vm after front state_is so live.calls p.machine (record b.executor { machine = p.machine })
            (record { handler = ap (λ (a : Attempt H). a.handler) is; over = ap (λ (a : Attempt H). a.over) is; input = input; machine = turns_only vm after state_is others })
            p.driven told.numbers (ap (λ (a : Attempt H). a.answers) is ∙ r.answers)
            (waits_live next version options is_closed live before.vm.state n proposed b.executor w p.waits p.machine p.replies p.none (map (frame_meant version) so.coming) sends)
            (subst (λ (runs : Runs). KeepsBodies runs (record b.executor { machine = p.machine })) (sym same_runs) (keeps_with before.vm.state.runs b.executor p.machine w.keeps)) (inr told.left) (ap (goes_on live.calls) p.replies ∙ waits_on p.waits p.machine),
        input,
      ),
      stays_with p.waits p.machine p.replies p.written (map (frame_meant version) so.coming)
          (subst (λ (b : Bool). SendsWaiting live.start.given.version b (leaves_over p.machine.slots p.waits) (map (frame_meant version) so.coming)) (sym (ap (λ (k : Kind). k.is_input_closed) n.kind) ∙ is_open)
          (waits_tell live.start.given.version is_closed live.machine (map (frame_meant version) so.coming) p.waits p.machine sends)),
    ))
      where
        -- nothing is being executed between turns, so more can come
        is_open : before.vm.state.is_input_closed ≡ false
        is_open = elim p.is_open [
          | inl open_still ↦ open_still
          | inr executing ↦ absurd (none_of_both (sym executing ∙ none_executing next version options is_closed live before.vm.state n proposed b.executor w p.waits))
        ]
          where
            none_of_both : true ≡ false → ⊥
            none_of_both e = cc

        so : SendsHere vm.state.active.output
        so = waits_send next version options is_closed live before.vm.state n vm.state p is_open

        sends : SendsReply live.start.given.version is_closed live.machine (waits_as p.waits p.machine) (map (frame_meant version) so.coming)
        sends = subst (λ (r : Reply). SendsReply live.start.given.version is_closed live.machine r (map (frame_meant version) so.coming)) p.replies so.sends

        quiet : ProposesAs Turn.Waiting (map (frame_meant version) so.coming)
        quiet = waits_quiet live.start.given.version is_closed live.machine (map (frame_meant version) so.coming) p.waits p.machine sends

        calm : AllByRecursion IsNoError (map (frame_meant version) so.coming)
        calm = waits_calm live.start.given.version is_closed live.machine (map (frame_meant version) so.coming) p.waits p.machine sends

        told : IsTold next version options is_closed live before.vm.state n p.waits p.machine
        told = is_told next version options is_closed live before.vm.state n p.waits p.machine p.replies

        front : after.front ++ after.behind ≡ before.front ++ before.behind
        front = ap (λ (a : Attempt H). a.front ++ a.behind) is

        state_is : after.vm.state ≡ vm.state
        state_is = ap (λ (a : Attempt H). a.vm.state) is

        input : after.input ≡ before.input
        input = ap (λ (a : Attempt H). a.input) is

        same_runs : vm.state.runs ≡ before.vm.state.runs
        same_runs = ap (λ (m : MachineState). m.runs) p.others

        others : vm.state ≡ record before.vm.state { active = vm.state.active; runs = vm.state.runs }
        others = p.others ∙ ap (λ (runs : Runs). record before.vm.state { active = vm.state.active; runs = runs }) (sym same_runs)

    pub suspended : Suspends live.start.given live.machine (call_of next live n.at) before.vm.state vm.state → FinishesBy finishes.Suspended (record before { vm = vm }) turn after → Keeps turn after
    suspended p over =
        let is = over.1 in
        let closed : is_closed ≡ true = sym (ap (λ (k : Kind). k.is_input_closed) n.kind) ∙ p.is_closed in
        let sends = suspends_send next version options is_closed live before.vm.state n vm.state p in
        let sent = subst (λ (r : Reply). SendsReply live.start.given.version is_closed live.machine r (map (frame_meant version) sends.coming)) p.replies sends.sends in
        subst (λ (t : Turn). Keeps t after) (sym over.0)
        (keeps_turn vm after (ap (λ (a : Attempt H). a.front ++ a.behind) is) (ap (λ (a : Attempt H). a.vm.state) is) sends Turn.Suspended
        (waits_quiet live.start.given.version is_closed live.machine (map (frame_meant version) sends.coming) p.waits p.machine sent)
        (waits_calm live.start.given.version is_closed live.machine (map (frame_meant version) sends.coming) p.waits p.machine sent)
        (waits_calm live.start.given.version is_closed live.machine (map (frame_meant version) sends.coming) p.waits p.machine sent) (
          closed,
          waits_others next version options is_closed live before.vm.state n proposed b.executor w p.waits p.machine p.replies p.none p.written,
          finished finishes.Suspended (ap (λ (a : Attempt H). a.over) is),
          suspends_with p.waits p.machine p.replies p.written (map (frame_meant version) sends.coming)
              (subst (λ (b : Bool). SendsWaiting live.start.given.version b (leaves_over p.machine.slots p.waits) (map (frame_meant version) sends.coming)) closed
              (waits_tell live.start.given.version is_closed live.machine (map (frame_meant version) sends.coming) p.waits p.machine sent)),
        ))

    pub ended : Ends live.start.given live.machine (call_of next live n.at) before.vm.state vm.state → FinishesBy finishes.Ended (record before { vm = vm }) turn after → Keeps turn after
    ended e over =
        let is = over.1 in
        let sends = ends_send next version options is_closed live before.vm.state n vm.state e in
        let ends = subst (RepliesAsRun next live.start.given (requests_carried live.read) (arrivals_carried live.read) live.calls) e.replies n.as_run in
        let sent = subst (λ (r : Reply). SendsReply live.start.given.version is_closed live.machine r (map (frame_meant version) sends.coming)) e.replies sends.sends in
        subst (λ (t : Turn). Keeps t after) (sym over.0)
        (keeps_turn vm after (ap (λ (a : Attempt H). a.front ++ a.behind) is) (ap (λ (a : Attempt H). a.vm.state) is) sends Turn.Ended (ap outcomes_in sent) (subst (AllByRecursion IsNoError) (sym sent) (tt, tt)) (subst (AllByRecursion IsNoError) (sym sent) (tt, tt)) (
          record { over = ends.ended; exactly = ends.exactly },
          finished finishes.Ended (ap (λ (a : Attempt H). a.over) is),
          sent,
        ))

    pub failed : (error : Error) → Fails live.start.given live.machine (call_of next live n.at) before.vm.state error vm.state → turn ≡ Turn.Failed error → after ≡ record before { vm = vm } → Keeps turn after
    failed error f is_turn is =
        let state_is : after.vm.state ≡ vm.state = ap (λ (a : Attempt H). a.vm.state) is in
        let so = fails_so next version options is_closed live before.vm.state n s.of_run.replays before.answers same_answers error vm.state f in
        subst (λ (t : Turn). Keeps t after) (sym is_turn) (record {
          sent = so.coming;
          fit = so.fit;
          of_store = so.of_store;
          output = waits_more version so.coming before after (ap (λ (a : Attempt H). a.front ++ a.behind) is) (ap (λ (m : MachineState). m.active.output.bytes) state_is ∙ so.bytes);
          makes = so.makes;
          proposes = so.quiet;
          errors = call_errors next version live (next live.start.given.input before.answers) before.vm.state vm.state error so.coming so.by;
          unfailed = λ may. so.unfailed;
          behind = (inl (subst (λ (m : MachineState). FailsBy next version live (next live.start.given.input before.answers) before.vm.state m error so.coming) (sym state_is) so.by), machine_failed so.kept (ap (λ (m : MachineState). m.phase) state_is ∙ so.phase), answers_kept so.kept error after (ap (λ (m : MachineState). m.phase) state_is ∙ so.phase) so.copies);
        })
