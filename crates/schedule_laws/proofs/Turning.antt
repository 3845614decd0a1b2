-- A turn of an attempt that is held keeps its invocation in the run, and tells where the run stands: of the live one, of one that was stopped or
-- overtaken, and of one that is over.
use Rattle.std.proofs.Common.{◌≡◌, ◌≢◌, ℕ, List, [], ◌∷◌, ◌++◌, map, Option, Some, None, refl, sym, ap, subst, ◌∙◌, inl, inr}
use Rattle.std.specs.List.{AllByRecursion}
use Rattle.journal_model.specs.declared.invocation.NewInvocation.{NewInvocation}
use Rattle.journal_model.specs.Notification.{Bytes, Text}
use Rattle.journal_model.specs.Event.{Event, Frame}
use Rattle.journal_model.specs.Journal.{starting_state}
use Rattle.journal_model.specs.Attempt.{live_attempt, is_input_closed}
use Rattle.journal_model.specs.Cause.{IsAccepted}
use Rattle.journal_model.specs.Run.{Handler, Invocation}
use Rattle.journal_model.specs.Headline.{run_of}
use Rattle.protocol_errors.specs.declared.error.Error.{Error}
use Rattle.protocol_types.specs.Version.{version_number}
use Rattle.protocol_types.specs.declared.version.Version.{Version}
use Rattle.live_laws.specs.RequestsInFlight.{requests_sent, FollowsSo}
use Rattle.input_laws.specs.Message.{arrivals_carried}
use Rattle.live_laws.specs.StartFrame.{AttemptStart}
use Rattle.live_laws.specs.AttemptWithMachine.{after_turn}
use Rattle.vm_start.specs.FailureReport.{IsCopy, out_of_memory}
use Rattle.vm_types.specs.Options.{run_options}
use Rattle.vm_types.specs.declared.options.VMOptions.{VMOptions}
use Rattle.replay_laws.specs.OutcomesInFlight.{OutcomesStand}
use Rattle.replay_laws.specs.AttemptWithBodies.{IsLiveExecutor}
use Rattle.replay_laws.specs.Laws.{LivesOn}
use Rattle.vm_attempt_laws.specs.Attempts.{output_of, Turns, Attempt, Turn}
use Rattle.vm_attempt_laws.specs.Bodies.{Among, IsReplayed, outcome_frame, outcomes_in, RunOutcome}
use Rattle.vm_attempt_laws.specs.BodyExecution.{MayNotEnd}
use Rattle.vm_attempt_laws.specs.AttemptInvariants.{early_error, IsLast, LacksMemory}
use Rattle.vm_attempt_laws.specs.Machine.phases
use Rattle.vm_attempt_laws.specs.OutputOfAttempt.sent
use Rattle.vm_attempt_laws.specs.OutputOfAttempt.{Sent, frame_meant, IsOfStore}
use Rattle.vm_attempt_laws.specs.AttemptSimulation.{AnswersKept, IsOver}
use Rattle.vm_attempt_laws.specs.TurnReports.{arrivals_told, AnswersError, IsFrameTold, Told, FailsSo, early, lacks, memory, TurnTells, GoesOnTold}
use Rattle.vm_attempt_laws.specs.TurnsInRun.{ProposesAs, RunsOne, TurnKeeps, TurnsBehind}
use Rattle.schedule_model.specs.declared.held.HeldAttempt.{HeldAttempt}
use Rattle.schedule_model.specs.First.{with_first}
use Rattle.schedule_model.specs.HeldAttempts.{is_held, held_of}
use Rattle.schedule_model.proofs.Holding.{some_is}
use Rattle.vm_attempt_laws.specs.OverAttempts.{by_error, IsClosedEarly, IsOverBy}
use Rattle.schedule_laws.specs.TrackedAttempt.{Tracked, IsServed, IsAttemptLeft, Attends, is_over, lacks_memory, closed_early, is_served, is_left}
use Rattle.schedule_laws.specs.InvocationInRun.{ReplaysInLine, given_of, FollowsBegun, OutcomesFly, ToldOf}
use Rattle.schedule_laws.specs.TurnReplies.{TurnTellsNow}
use Rattle.schedule_laws.proofs.Acting.{all_append, written_behind}
use Rattle.schedule_laws.proofs.TrackedAttempt.{with_told}
use Rattle.schedule_laws.proofs.Outcomes.{others_fly}
use Rattle.schedule_laws.proofs.InvocationInRun.{IsFlown, beside, flown, quiet_changed}
use Rattle.schedule_laws.proofs.Serving.{ServingLaws}
use Rattle.vm_attempt_laws.proofs.OverAttempts.{ends_by, turned_failed, turned_over}
use Rattle.vm_attempt_laws.proofs.Telling.{TellsBehind, left_behind, meant_append, tells_behind}
use Rattle.schedule_laws.proofs.Unfailed.{among_first, among_last, frames_calm, frames_failed, frames_further, IsFurther, same_further}

module _ {H : Type 0} (function : H → Handler) (next : Handler) (options : VMOptions) (id : Text) (laws : ServingLaws function next options) (told : ToldOf) where
  -- the run of the live attempt is that of the invocation
  served_given : (events : List Event) (new : NewInvocation) (version : Version) (coming : List Sent) (t : Tracked) (attempt : Attempt H) → (s : IsServed function next options id events new version coming t attempt)
      → s.live.start.given ≡ given_of options id events new
  served_given events new version coming t attempt s =
      s.lives.is_live.begun.given_is ∙ ap (λ (one : NewInvocation). run_of (run_options options) options.fallback_random_seed one (starting_state events id)) s.new_is

  module _ (events : List Event) (output : Option Bytes) (held : List (HeldAttempt H)) (new : NewInvocation) (n : ℕ) (one : HeldAttempt H) (there : held_of held id n ≡ Some one)
      (f : FollowsBegun function next options id told events output held new) (t : Tracked) (is_told : told n ≡ Some t) (ran : RunOutcome) (may : MayNotEnd options ran) (turn : Turn) (changed : Attempt H)
      (accepted : IsAccepted events) (in_line : ReplaysInLine options) (turns : Turns function ran one.attempt turn changed) where
    -- what its turn tells, and what stands then
    pub record TurnedBegun : Type 0 where
      pub now : Told
      pub tells : TurnTellsNow next t.start t.told t.told.over ran turn now
      pub follows : FollowsBegun function next options id (with_told told n (record { start = t.start; told = now })) events output (with_first (is_held id n) held (record one { attempt = changed })) new

    -- ---- the live one

    module _ (waits : Bytes) (live : live_attempt events id ≡ Some n) (output_is : output ≡ Some waits) (so : t.told.over ≡ None)
        (s : IsServed function next options id events new f.version f.coming t one.attempt) where
      others_behind : (sends : List Sent) → outcomes_in (map (frame_meant f.version) sends) ≡ [] → OutcomesFly id events (map (frame_meant f.version) (f.coming ++ sends))
      others_behind sends none =
          subst (λ (frames : List Frame). OutcomesFly id events frames) (sym (meant_append f.version f.coming sends))
          (others_fly id events (map (frame_meant f.version) f.coming) (map (frame_meant f.version) sends) none (f.outcomes n live))

      -- the live attempt lives on
      lives_on : LivesOn next (run_options options) options.fallback_random_seed id events s.live s.proposed
      lives_on = laws.lives next (run_options options) options.fallback_random_seed id events s.live s.proposed s.bodies.executor accepted s.lives

      -- behind a turn that has executed a body
      ran_lives : (sends : List Sent) (b : RunsOne function next f.version options (is_input_closed events id) s.live one.attempt s.proposed ran sends changed)
          → IsLiveExecutor next (run_options options) options.fallback_random_seed id events (after_turn s.live (map (frame_meant f.version) sends) s.live.calls b.machine)
          (s.proposed ++ (b.body.completion, b.value) ∷ []) b.goes_on.bodies.executor
      ran_lives sends b =
          subst (λ (frames : List Frame). IsLiveExecutor next (run_options options) options.fallback_random_seed id events (after_turn s.live frames s.live.calls b.machine) (s.proposed ++ (b.body.completion, b.value) ∷ [])
          b.goes_on.bodies.executor) (sym frames_are)
          (lives_on.proposes b.body b.value s.live.calls b.machine b.goes_on.bodies.executor s.serves.started b.first.to_execute.called b.first.to_execute.not_come b.first.to_execute.not_proposed
          (b.goes_on.written ∙ ap (λ (frames : List Frame). s.live.machine.written ++ requests_sent frames) b.sends)
          (subst (λ (frames : List Frame). IsReplayed next (after_turn s.live frames s.live.calls b.machine) (s.proposed ++ (b.body.completion, b.value) ∷ []) b.goes_on.bodies.executor) frames_are b.goes_on.bodies.lives))
        where
          version_is : s.live.start.given.version ≡ version_number f.version
          version_is = ap (λ (given : Invocation). given.version) s.serves.of_run.given_is ∙ s.serves.of_run.version_is

          frames_are : map (frame_meant f.version) sends ≡ outcome_frame s.live.start.given.version b.body.completion b.value ∷ []
          frames_are = b.sends ∙ ap (λ (v : ℕ). outcome_frame v b.body.completion b.value ∷ []) (sym version_is)

      abbrev Behind : List Sent → Turn → Type 0
      Behind sends turned = TurnsBehind function next f.version options (is_input_closed events id) s.live one.attempt s.proposed ran sends turned changed

      abbrev Tells : (sends : List Sent) (turned : Turn) → Behind sends turned → Type 0
      Tells sends turned b = TellsBehind function next f.version options (is_input_closed events id) s.live one.attempt s.proposed ran t.told s.bodies s.serves s.is_told sends turned changed b

      abbrev Attending : List Sent → Told → Type 0
      Attending sends now = Attends function next options id events new f.version (f.coming ++ sends) n (record { start = t.start; told = now }) changed

      is_over_by : (turned : Turn) (sends : List Sent) (now : Told) → turn ≡ turned → IsOver changed → AnswersKept turned changed → IsLast turned → now.over ≡ Some turned → Attending sends now
      is_over_by turned sends now is over kept last told_is =
          is_over turned told_is
          (subst (λ (one_turn : Turn). IsOverBy one_turn changed) is (ends_by function ran one.attempt turn changed s.serves.going turns over (subst (λ (one_turn : Turn). AnswersKept one_turn changed) (sym is) kept) (subst IsLast (sym is) last)))

      coming_behind : (sends : List Sent) → s.live.coming ++ map (frame_meant f.version) sends ≡ map (frame_meant f.version) (f.coming ++ sends)
      coming_behind sends = ap (λ (frames : List Frame). frames ++ map (frame_meant f.version) sends) s.coming_are ∙ sym (meant_append f.version f.coming sends)

      -- it serves on, or is over
      served_behind : (sends : List Sent) (turned : Turn) → turn ≡ turned → ProposesAs turned (map (frame_meant f.version) sends) → (b : Behind sends turned) (tells : Tells sends turned b) → Attending sends tells.now
      served_behind sends Turn.Answered is none b tells = is_served (tells.is_told.0 ∙ so) live (record {
        live = after_turn s.live (map (frame_meant f.version) sends) b.0 b.1;
        proposed = s.proposed;
        new_is = s.new_is;
        start_is = s.start_is;
        coming_are = coming_behind sends;
        bodies = b.3.bodies;
        lives = lives_on.turns (map (frame_meant f.version) sends) b.0 b.1 b.3.bodies.executor s.serves.started none b.3.written b.3.bodies.lives;
        serves = b.3.serves;
        is_told = tells.is_told.1;
      })
      served_behind sends Turn.RanBody is none b tells = is_served (tells.is_told.0 ∙ so) live (record {
        live = after_turn s.live (map (frame_meant f.version) sends) s.live.calls b.machine;
        proposed = s.proposed ++ (b.body.completion, b.value) ∷ [];
        new_is = s.new_is;
        start_is = s.start_is;
        coming_are = coming_behind sends;
        bodies = b.goes_on.bodies;
        lives = ran_lives sends b;
        serves = b.goes_on.serves;
        is_told = tells.is_told.1;
      })
      served_behind sends Turn.Waiting is none b tells = is_served (tells.is_told.0 ∙ so) live (record {
        live = after_turn s.live (map (frame_meant f.version) sends) s.live.calls b.1.0;
        proposed = s.proposed;
        new_is = s.new_is;
        start_is = s.start_is;
        coming_are = coming_behind sends;
        bodies = b.1.1.bodies;
        lives = lives_on.turns (map (frame_meant f.version) sends) s.live.calls b.1.0 b.1.1.bodies.executor s.serves.started none b.1.1.written b.1.1.bodies.lives;
        serves = b.1.1.serves;
        is_told = tells.is_told.1;
      })
      served_behind sends Turn.Suspended is none b tells = is_over_by Turn.Suspended sends tells.now is b.2 tt tt tells.is_told
      served_behind sends Turn.Ended is none b tells = is_over_by Turn.Ended sends tells.now is b.1 tt tt tells.is_told
      served_behind sends (Turn.Failed error) is none b tells = is_over_by (Turn.Failed error) sends tells.now is b.1 b.2 tt tells.is_told

      -- the outcomes on their way are those that it has proposed, with the one of the body that it has executed
      outcomes_behind : (turned : Turn) (k : TurnKeeps function next f.version options (is_input_closed events id) s.live one.attempt s.proposed ran turned changed)
          → OutcomesFly id events (map (frame_meant f.version) (f.coming ++ k.sent))
      outcomes_behind Turn.RanBody k = record {
        journal = arrivals_carried s.live.start.journal;
        proposed = s.proposed ++ (k.behind.body.completion, k.behind.value) ∷ [];
        stand = subst (λ (frames : List Frame). OutcomesStand events id (arrivals_carried s.live.start.journal) (s.proposed ++ (k.behind.body.completion, k.behind.value) ∷ []) frames)
            (coming_behind k.sent) (ran_lives k.sent k.behind).outcomes;
      }
      outcomes_behind Turn.Answered k = others_behind k.sent k.proposes
      outcomes_behind Turn.Waiting k = others_behind k.sent k.proposes
      outcomes_behind Turn.Suspended k = others_behind k.sent k.proposes
      outcomes_behind Turn.Ended k = others_behind k.sent k.proposes
      outcomes_behind (Turn.Failed error) k = others_behind k.sent k.proposes

      kept_turn : TurnKeeps function next f.version options (is_input_closed events id) s.live one.attempt s.proposed ran turn changed
      kept_turn = laws.turns f.version (is_input_closed events id) s.live one.attempt s.proposed ran turn changed in_line.queued s.bodies s.serves turns

      tells_turn : Tells kept_turn.sent turn kept_turn.behind
      tells_turn =
          tells_behind function next f.version options (is_input_closed events id) s.live one.attempt s.proposed ran t.told s.bodies s.serves s.is_told kept_turn.sent turn changed kept_turn.behind
          (laws.tells f.version (is_input_closed events id) s.live one.attempt s.proposed ran turn changed t.told in_line.queued s.bodies s.serves s.is_told turns)

      abbrev turned_told : Tracked
      turned_told = record { start = t.start; told = tells_turn.now }

      -- ---- what its frames say

      -- an attempt that is not over has proposed the same
      further_by : {same : Told} (now : Told) → now ≡ same → same.version ≡ t.told.version → same.proposed ≡ t.told.proposed → same.is_closed ≡ t.told.is_closed → IsFurther t.told now
      further_by now is version proposed closed = record {
        version = sym (ap (λ (k : Told). k.version) is ∙ version);
        proposed = λ x among. subst (Among x) (sym (ap (λ (k : Told). k.proposed) is ∙ proposed)) among;
        over = inl so;
        closed = λ e. ap (λ (k : Told). k.is_closed) is ∙ closed ∙ e;
      }

      -- what was told before is told still
      told_further : (turned : Turn) (now : Told) → TurnTells next s.live.start t.told ran turned now → IsFurther t.told now
      told_further Turn.RanBody now tells = record {
        version = sym (ap (λ (k : Told). k.version) tells.3);
        proposed = λ x among. subst (Among x) (sym (ap (λ (k : Told). k.proposed) tells.3)) (among_first x t.told.proposed ((tells.0.completion, tells.1) ∷ []) among);
        over = inl so;
        closed = λ e. ap (λ (k : Told). k.is_closed) tells.3 ∙ e;
      }
      told_further Turn.Answered now tells = further_by now tells.0 refl refl refl
      told_further Turn.Waiting now tells = further_by now tells.0 refl refl refl
      told_further Turn.Suspended now tells = further_by now tells.0 refl refl refl
      told_further Turn.Ended now tells = further_by now tells.0 refl refl refl
      told_further (Turn.Failed error) now tells = further_by now tells.0 refl refl refl

      -- an outcome that it sends is the one of the body that it has executed, and an error the one that it has failed by
      sends_told : (turned : Turn) (k : TurnKeeps function next f.version options (is_input_closed events id) s.live one.attempt s.proposed ran turned changed) (tells : Tells k.sent turned k.behind)
          → AllByRecursion (IsFrameTold tells.now) (map (frame_meant f.version) k.sent)
      sends_told Turn.RanBody k tells =
          subst (AllByRecursion (IsFrameTold tells.now)) (sym k.behind.sends)
          (subst (Among (k.behind.body.completion, k.behind.value)) (sym tells.is_told.1.outcomes) (among_last (k.behind.body.completion, k.behind.value) s.proposed), tt)
      sends_told Turn.Answered k tells = frames_calm tells.now (map (frame_meant f.version) k.sent) k.proposes k.errors
      sends_told Turn.Waiting k tells = frames_calm tells.now (map (frame_meant f.version) k.sent) k.proposes k.errors
      sends_told Turn.Suspended k tells = frames_calm tells.now (map (frame_meant f.version) k.sent) k.proposes k.errors
      sends_told Turn.Ended k tells = frames_calm tells.now (map (frame_meant f.version) k.sent) k.proposes k.errors
      sends_told (Turn.Failed error) k tells = frames_failed tells.now (version_number f.version) error (ap (λ (t : Told). t.version) tells.tells.0 ∙ s.is_told.version ∙ s.serves.of_run.version_is) tells.is_told (map (frame_meant f.version) k.sent) k.proposes (k.unfailed may) k.errors

      frames_told : AllByRecursion (IsFrameTold tells_turn.now) (map (frame_meant f.version) (f.coming ++ kept_turn.sent))
      frames_told =
          subst (AllByRecursion (IsFrameTold tells_turn.now)) (sym (meant_append f.version f.coming kept_turn.sent))
          (all_append (IsFrameTold tells_turn.now) (map (frame_meant f.version) f.coming) (map (frame_meant f.version) kept_turn.sent)
          (frames_further t.told tells_turn.now (told_further turn tells_turn.now tells_turn.tells) (map (frame_meant f.version) f.coming) (f.told_frames n t live is_told))
          (sends_told turn kept_turn tells_turn))

      -- it tells where the run stands
      turned_tells : TurnTellsNow next t.start t.told t.told.over ran turn tells_turn.now
      turned_tells = subst (λ (over : Option Turn). TurnTellsNow next t.start t.told over ran turn tells_turn.now) (sym so)
          (inr (subst (λ (start : AttemptStart). TurnTells next start t.told ran turn tells_turn.now) s.start_is tells_turn.tells))

      turned_flown : IsFlown function next options id told events held new n output waits turned_told (record one { attempt = changed })
      turned_flown =
          let given_is = served_given events new f.version f.coming t one.attempt s in
          let before : FollowsSo next s.live.start.given id events s.live.coming =
          subst (λ (run : Invocation). FollowsSo next run id events s.live.coming) (sym given_is)
          (subst (λ (frames : List Frame). FollowsSo next (given_of options id events new) id events frames) (sym s.coming_are) f.follows) in
          record {
            version = f.version;
            coming = f.coming ++ kept_turn.sent;
            fit = all_append (sent.SentFits f.version) f.coming kept_turn.sent f.fit kept_turn.fit;
            of_store = all_append IsOfStore f.coming kept_turn.sent f.of_store kept_turn.of_store;
            follows = subst (λ (frames : List Frame). FollowsSo next (given_of options id events new) id events frames) (sym (meant_append f.version f.coming kept_turn.sent))
                (subst (λ (frames : List Frame). FollowsSo next (given_of options id events new) id events (frames ++ map (frame_meant f.version) kept_turn.sent)) s.coming_are
                (subst (λ (run : Invocation). FollowsSo next run id events (s.live.coming ++ map (frame_meant f.version) kept_turn.sent)) given_is (lives_on.follows (map (frame_meant f.version) kept_turn.sent) before kept_turn.makes)));
            outcomes = outcomes_behind turn kept_turn;
            output_is = output_is;
            told_frames = frames_told;
            flies = record {
              version_is = (f.flies n waits one live output_is there).version_is;
              bytes = written_behind f.version waits (output_of one.attempt) (output_of changed) f.coming kept_turn.sent (f.flies n waits one live output_is there).bytes kept_turn.output;
            };
            attends = served_behind kept_turn.sent turn refl kept_turn.proposes kept_turn.behind tells_turn;
          }

      turned : TurnedBegun
      turned = record {
        now = tells_turn.now;
        tells = turned_tells;
        follows = flown function next options id told events held new n one (record one { attempt = changed }) turned_told there refl refl events output f output waits f.typed f.unfailed f.numbered live turned_flown;
      }

    -- ---- one that was stopped or overtaken

    module _ (so : t.told.over ≡ None) (not_live : live_attempt events id ≢ Some n) (l : IsAttemptLeft function next options id t one.attempt) where
      abbrev goes : GoesOnTold function next l.version options t.start l.is_closed t.told one.attempt
      goes = l.goes_on

      left_turn : TurnKeeps function next l.version options l.is_closed goes.live one.attempt goes.proposed ran turn changed
      left_turn = laws.turns l.version l.is_closed goes.live one.attempt goes.proposed ran turn changed in_line.queued goes.bodies goes.serves turns

      left_tells : TellsBehind function next l.version options l.is_closed goes.live one.attempt goes.proposed ran t.told goes.bodies goes.serves goes.is_told left_turn.sent turn changed left_turn.behind
      left_tells =
          tells_behind function next l.version options l.is_closed goes.live one.attempt goes.proposed ran t.told goes.bodies goes.serves goes.is_told left_turn.sent turn changed left_turn.behind
          (laws.tells l.version l.is_closed goes.live one.attempt goes.proposed ran turn changed t.told in_line.queued goes.bodies goes.serves goes.is_told turns)

      abbrev left_told : Tracked
      left_told = record { start = t.start; told = left_tells.now }

      left_attends : Attends function next options id events new f.version f.coming n left_told changed
      left_attends =
          elim (left_behind function next l.version options l.is_closed goes.live one.attempt goes.proposed ran t.told goes.bodies goes.serves goes.is_told left_turn.sent turn changed left_turn.behind left_tells) [
            | inl (over, kept, last, told_is) ↦ is_over turn told_is (ends_by function ran one.attempt turn changed goes.serves.going turns over kept last)
            | inr (same, on) ↦ is_left (same ∙ so) not_live (record {
              version = l.version;
              is_closed = l.is_closed;
              goes_on = subst (λ (start : AttemptStart). GoesOnTold function next l.version options start l.is_closed left_tells.now changed) goes.start_is on;
            })
          ]

      turned_left : TurnedBegun
      turned_left = record {
        now = left_tells.now;
        tells = subst (λ (over : Option Turn). TurnTellsNow next t.start t.told over ran turn left_tells.now) (sym so)
            (inr (subst (λ (start : AttemptStart). TurnTells next start t.told ran turn left_tells.now) goes.start_is left_tells.tells));
        follows = beside function next options id told events held new n one (record one { attempt = changed }) left_told there refl refl output not_live f left_attends;
      }

    -- ---- one that is over, or whose machine has failed

    -- nothing changes but what is told
    quiet : (now : Told) → IsFurther t.told now → changed ≡ one.attempt → TurnTellsNow next t.start t.told t.told.over ran turn now
        → Attends function next options id events new f.version f.coming n (record { start = t.start; told = now }) changed → TurnedBegun
    quiet now further same tells attends = record {
      now = now;
      tells = tells;
      follows = quiet_changed function next options id told events held new n one (record one { attempt = changed }) (record { start = t.start; told = now }) there refl refl output f (ap output_of same)
          (λ k is. subst (λ (one_told : Tracked). IsFurther one_told.told now) (some_is t k (sym is_told ∙ is)) further) attends;
    }

    turned_over_by : (last : Turn) → t.told.over ≡ Some last → IsOverBy last one.attempt → TurnedBegun
    turned_over_by last so over =
        let it = turned_over function ran last one.attempt turn changed over turns in
        quiet t.told (same_further t.told) it.1 (subst (λ (o : Option Turn). TurnTellsNow next t.start t.told o ran turn t.told) (sym so) (it.0, refl))
        (is_over last so (subst (λ (a : Attempt H). IsOverBy last a) (sym it.1) over))

    -- the error that it has failed with is told, or that there was no memory for it
    failed_now : (kept error : Error) → t.told.over ≡ None → one.attempt.over ≡ None → one.attempt.vm.state.phase ≡ phases.Failed kept → IsCopy kept error → turn ≡ Turn.Failed error → changed ≡ one.attempt
        → TurnTellsNow next t.start t.told t.told.over ran turn (record t.told { over = Some (Turn.Failed error) }) → TurnedBegun
    failed_now kept error so going failed copies is same tells =
        quiet (record t.told { over = Some (Turn.Failed error) }) (record { version = refl; proposed = λ x among. among; over = inl so; closed = λ e. e }) same tells
        (is_over (Turn.Failed error) refl
        (by_error kept error (ap (λ (a : Attempt H). a.over) same ∙ going) (ap (λ (a : Attempt H). a.vm.state.phase) same ∙ failed) copies refl))

    turned_lacks : t.told.over ≡ None → one.attempt.over ≡ None → LacksMemory one.attempt → TurnedBegun
    turned_lacks so going lacks_it =
        let it = turned_failed function ran out_of_memory one.attempt turn changed going lacks_it turns in
        let same : it.0 ≡ out_of_memory = elim it.2 [ inl e ↦ e | inr e ↦ e ] in
        let is : turn ≡ Turn.Failed out_of_memory = it.1 ∙ ap Turn.Failed same in
        failed_now out_of_memory out_of_memory so going lacks_it (inl refl) is it.3
        (subst (λ (o : Option Turn). TurnTellsNow next t.start t.told o ran turn (record t.told { over = Some (Turn.Failed out_of_memory) })) (sym so) (inl (is, refl)))

    turned_early : t.told.over ≡ None → one.attempt.over ≡ None → IsClosedEarly t.start t.told one.attempt → TurnedBegun
    turned_early so going e =
        let it = turned_failed function ran e.error one.attempt turn changed going e.failed turns in
        let why : FailsSo next t.start t.told (arrivals_told t.start t.told) ran it.0 = elim it.2 [
          | inl same ↦ elim e.tells [
            | inl answers ↦ early e.unread e.closed (subst (AnswersError early_error) (sym same) answers)
            | inr none ↦ lacks (memory (same ∙ none))
          ]
          | inr none ↦ lacks (memory none)
        ] in
        failed_now e.error it.0 so going e.failed it.2 it.1 it.3
        (subst (λ (o : Option Turn). TurnTellsNow next t.start t.told o ran turn (record t.told { over = Some (Turn.Failed it.0) })) (sym so)
        (inr (subst (λ (one_turn : Turn). TurnTells next t.start t.told ran one_turn (record t.told { over = Some (Turn.Failed it.0) })) (sym it.1) (refl, why))))

    -- ---- any

    pub turned_begun : (live_waits : live_attempt events id ≡ Some n → (waits : Bytes) × (output ≡ Some waits)) → Attends function next options id events new f.version f.coming n t one.attempt → TurnedBegun
    turned_begun live_waits (is_over last so over) = turned_over_by last so over
    turned_begun live_waits (lacks_memory so going none) = turned_lacks so going none
    turned_begun live_waits (closed_early so going e closed) = turned_early so going e
    turned_begun live_waits (is_served so live s) = let w = live_waits live in turned w.0 live w.1 so s
    turned_begun live_waits (is_left so not_live l) = turned_left so not_live l
