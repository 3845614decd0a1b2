-- What is done with the live attempt that is held keeps its invocation in the run: it is fed, and its input is closed.
use Rattle.std.proofs.Common.{◌≡◌, ℕ, ◌<◌, Bool, true, false, true≢false, ◌&&◌, ◌||◌, zero-add, List, [], ◌∷◌, ◌++◌, map, take, Option, Some, None, refl, sym, ap, subst, ◌∙◌, inl, inr, append_assoc}
use Rattle.std.specs.List.{AllByRecursion}
use Rattle.journal_model.specs.declared.invocation.NewInvocation.{NewInvocation}
use Rattle.journal_model.specs.Notification.{Bytes, Text}
use Rattle.journal_model.specs.State.{StateMap}
use Rattle.journal_model.specs.Event.{Event, Frame}
use Rattle.journal_model.specs.Journal.{is_of}
use Rattle.journal_model.specs.Attempt.{attempts_begun, live_attempt, is_input_closed, input_left}
use Rattle.journal_model.specs.Cause.{IsAccepted}
use Rattle.journal_model.specs.Run.{Handler, Invocation}
use Rattle.journal_model.specs.Headline.{run_of}
use Rattle.protocol_types.specs.declared.version.Version.{Version}
use Rattle.input_laws.proofs.Events.{itself, start_same}
use Rattle.input_laws.proofs.LiveAttempts.{live_now, closed_now}
use Rattle.live_laws.specs.RequestsInFlight.{FollowsSo}
use Rattle.live_laws.proofs.Keeping.{one_event}
use Rattle.live_laws.specs.StartFrame.{AttemptStart}
use Rattle.live_laws.specs.AttemptWithMachine.{AttemptInRun, handed_bytes, after_reading}
use Rattle.vm_types.specs.Options.{run_options}
use Rattle.vm_types.specs.declared.options.VMOptions.{VMOptions}
use Rattle.vm_attempt_laws.specs.Attempts.{Feeds, ClosesInput, output_of, Attempt}
use Rattle.replay_laws.specs.AttemptWithBodies.{IsLiveExecutor}
use Rattle.vm_attempt_laws.specs.Bodies.{Executor}
use Rattle.vm_attempt_laws.specs.OutputOfAttempt.sent
use Rattle.vm_attempt_laws.specs.OutputOfAttempt.{Sent, sent_stream, sent_frame, frame_meant, IsOfStore}
use Rattle.vm_attempt_laws.proofs.Stored.{notes_of_store}
use Rattle.vm_attempt_laws.specs.AttemptInvariants.{LacksMemory, ClosesEarly, StaysClosed}
use Rattle.vm_attempt_laws.specs.AttemptSimulation.{HasBodies, Serves, machine_failed}
use Rattle.vm_attempt_laws.proofs.ArrivalsCome.{read_journal}
use Rattle.vm_attempt_laws.specs.TurnReports.{IsFrameTold}
use Rattle.vm_attempt_laws.specs.TurnsInRun.{turns_answered}
use Rattle.vm_attempt_laws.specs.Words.{Input}
use Rattle.vm_start.specs.FailureReport.{out_of_memory}
use Rattle.schedule_model.specs.declared.held.HeldAttempt.{HeldAttempt}
use Rattle.schedule_model.specs.First.{with_first}
use Rattle.schedule_model.specs.HeldAttempts.{is_held, held_of}
use Rattle.vm_attempt_laws.specs.OverAttempts.{IsClosedEarly}
use Rattle.schedule_laws.specs.TrackedAttempt.{Tracked, IsServed, Attends, is_over, lacks_memory, closed_early, is_served, is_left}
use Rattle.schedule_laws.specs.InvocationInRun.{given_of, Flies, FollowsBegun, OutcomesFly, ToldOf}
use Rattle.schedule_laws.proofs.Fits.{may_come}
use Rattle.schedule_laws.proofs.TrackedAttempt.{with_told}
use Rattle.schedule_laws.proofs.Outcomes.{fly_on, notes_follow, others_fly, told_none}
use Rattle.schedule_laws.proofs.InvocationInRun.{IsFlown, flown, flown_still}
use Rattle.schedule_laws.proofs.Serving.{ServingLaws}
use Rattle.vm_attempt_laws.proofs.OverAttempts.{over_of, fed_going, fed_failed, fed_over, closed_going, closed_failed, closed_over, early_tells}
use Rattle.vm_attempt_laws.proofs.Telling.{meant_append, told_more}
use Rattle.schedule_laws.proofs.Unfailed.{frames_early, frames_further}

never : (b : Bool) → (b && false) ≡ false
never true = refl
never false = refl

pub stream_append : (version : Version) (coming more : List Sent) → sent_stream version (coming ++ more) ≡ sent_stream version coming ++ sent_stream version more
stream_append version [] more = refl
stream_append version (one ∷ coming) more =
    ap (λ (bytes : Bytes). sent_frame version one ++ bytes) (stream_append version coming more)
    ∙ sym (append_assoc (sent_frame version one) (sent_stream version coming) (sent_stream version more))

pub all_append : {A : Type 0} (P : A → Type 0) (xs ys : List A) → AllByRecursion P xs → AllByRecursion P ys → AllByRecursion P (xs ++ ys)
all_append P [] ys a b = b
all_append P (x ∷ xs) ys a b = (a.0, all_append P xs ys a.1 b)

-- bytes behind those on the way
pub written_behind : (version : Version) (waits before after : Bytes) (coming more : List Sent) → waits ++ before ≡ sent_stream version coming → after ≡ before ++ sent_stream version more
    → waits ++ after ≡ sent_stream version (coming ++ more)
written_behind version waits before after coming more e written =
    ap (λ (bytes : Bytes). waits ++ bytes) written ∙ sym (append_assoc waits before (sent_stream version more)) ∙ ap (λ (bytes : Bytes). bytes ++ sent_stream version more) e
    ∙ sym (stream_append version coming more)

module _ {H : Type 0} (function : H → Handler) (next : Handler) (options : VMOptions) (id : Text) (laws : ServingLaws function next options) (told : ToldOf) where
  module _ (events : List Event) (output : Option Bytes) (held : List (HeldAttempt H)) (new : NewInvocation) (n : ℕ) (one : HeldAttempt H) (waits : Bytes)
      (live : live_attempt events id ≡ Some n) (output_is : output ≡ Some waits) (there : held_of held id n ≡ Some one) (f : FollowsBegun function next options id told events output held new)
      (t : Tracked) (is_told : told n ≡ Some t) (at : Attends function next options id events new f.version f.coming n t one.attempt) where
    -- it flies
    flight : Flies new f.version f.coming waits one.attempt
    flight = f.flies n waits one live output_is there

    abbrev changed_to : Attempt H → List (HeldAttempt H)
    changed_to attempt = with_first (is_held id n) held (record one { attempt = attempt })

    -- one that is over, or has failed, writes nothing more
    still : (changed : Attempt H) → output_of changed ≡ output_of one.attempt → Flies new f.version f.coming waits changed
    still changed wrote = record { version_is = flight.version_is; bytes = ap (λ (bytes : Bytes). waits ++ bytes) wrote ∙ flight.bytes }

    -- ---- it is fed

    module _ (count : ℕ) (given : Bytes) (changed : Attempt H) (accepted : IsAccepted (Event.Feed id n count ∷ events)) (opened : is_input_closed events id ≡ false) (given_is : given ≡ take count (input_left events id))
        (feeds : Feeds given one.attempt changed) where
      abbrev handing : Event
      handing = Event.Feed id n count

      -- what is told of it then
      abbrev pub fed_told : Tracked
      fed_told = record { start = t.start; told = record t.told { bytes = t.told.bytes ++ given } }

      abbrev Fed : Type 0
      Fed = (output_of changed ≡ output_of one.attempt) × Attends function next options id (handing ∷ events) new f.version f.coming n fed_told changed

      live_then : live_attempt (handing ∷ events) id ≡ Some n
      live_then = live_now handing events id refl (never (is_of id handing)) ∙ live

      closed_then : is_input_closed (handing ∷ events) id ≡ is_input_closed events id
      closed_then = closed_now handing events id refl ∙ ap (λ (b : Bool). b || is_input_closed events id) (never (is_of id handing))

      given_then : given_of options id events new ≡ given_of options id (handing ∷ events) new
      given_then = ap (λ (start : StateMap). run_of (run_options options) options.fallback_random_seed new start) (sym (start_same handing events id refl))

      fed_served : t.told.over ≡ None → (s : IsServed function next options id events new f.version f.coming t one.attempt) → Fed
      fed_served so s =
          let executor : Executor = s.bodies.executor in
          let lives : IsLiveExecutor next (run_options options) options.fallback_random_seed id (handing ∷ events) (handed_bytes s.live given) s.proposed executor =
          subst (λ (bytes : Bytes). IsLiveExecutor next (run_options options) options.fallback_random_seed id (handing ∷ events) (handed_bytes s.live bytes) s.proposed executor) (sym given_is)
          ((laws.stays next (run_options options) options.fallback_random_seed id events s.live s.proposed executor accepted.1 s.lives).is_handed n count accepted) in
          let handed : HasBodies next (handed_bytes s.live given) s.proposed one.attempt =
          record { executor = executor; lives = laws.replays next (run_options options) options.fallback_random_seed id (handing ∷ events) (handed_bytes s.live given) s.proposed executor accepted lives; keeps = s.bodies.keeps; behind = s.bodies.behind } in
          let (wrote, went) = laws.feeds f.version s.live s.proposed (is_input_closed events id) given one.attempt changed handed s.serves feeds in
          let going = fed_going given one.attempt changed s.serves.going feeds in (
            wrote,
            elim went [
              | inl r ↦ is_served so live_then (record {
                live = after_reading (handed_bytes s.live given) r.some r.still r.kept;
                proposed = s.proposed;
                new_is = s.new_is;
                start_is = s.start_is;
                coming_are = s.coming_are;
                bodies = r.bodies;
                lives = (laws.lives next (run_options options) options.fallback_random_seed id (handing ∷ events) (handed_bytes s.live given) s.proposed executor accepted lives).reads r.some r.still r.kept r.bodies.executor
                    (ap (λ (bytes : Bytes). bytes ++ given) s.serves.started) r.parts r.held r.bodies.lives;
                serves = subst (λ (b : Bool). Serves function next f.version options (after_reading (handed_bytes s.live given) r.some r.still r.kept) b changed) (sym closed_then) r.serves;
                is_told = record {
                  version = s.is_told.version;
                  bytes = told_more t.told.bytes s.live.start.frame s.live.held given r.kept s.live.read r.some s.is_told.bytes r.held;
                  closed = s.is_told.closed ∙ sym closed_then;
                  answered = s.is_told.answered ∙ sym (ap (λ (input : Option Input). turns_answered input s.live.calls) going.1);
                  outcomes = s.is_told.outcomes;
                };
              })
              | inr lacks ↦ lacks_memory so going.0 lacks
            ],
          )

      fed_failed_so : t.told.over ≡ None → one.attempt.over ≡ None → LacksMemory one.attempt → Fed
      fed_failed_so so going lacks = (
        ((laws.over one.attempt (machine_failed out_of_memory lacks)).fed given changed feeds).1,
        lacks_memory so (fed_going given one.attempt changed going feeds).0 (fed_failed out_of_memory given one.attempt changed going lacks feeds),
      )

      fed_attends : Attends function next options id events new f.version f.coming n t one.attempt → Fed
      fed_attends (is_over last so over) = (((laws.over one.attempt (over_of last one.attempt over)).fed given changed feeds).1, is_over last so (fed_over last given one.attempt changed over feeds))
      fed_attends (lacks_memory so going lacks) = fed_failed_so so going lacks
      fed_attends (closed_early so going early closed) = absurd (true≢false (sym (closed live) ∙ opened))
      fed_attends (is_served so lives s) = fed_served so s
      fed_attends (is_left so not l) = absurd (not live)

      -- it has written nothing
      pub fed_wrote : output_of changed ≡ output_of one.attempt
      fed_wrote = (fed_attends at).0

      pub fed : FollowsBegun function next options id (with_told told n fed_told) (handing ∷ events) output (changed_to changed) new
      fed =
          let (wrote, attends) = fed_attends at in
          flown function next options id told (handing ∷ events) held new n one (record one { attempt = changed }) fed_told there refl refl events output f output waits (tt, f.typed) (tt, f.unfailed)
          (λ m above. f.numbered m (subst (λ (k : ℕ). k < m) (zero-add (attempts_begun events id)) above)) live_then
          (flown_still function next options id told (handing ∷ events) held new events output f n output waits fed_told (record one { attempt = changed })
          (subst (λ (run : Invocation). FollowsSo next run id (handing ∷ events) (map (frame_meant f.version) f.coming)) given_then
          (one_event next (given_of options id events new) id handing events (map (frame_meant f.version) f.coming) (map (frame_meant f.version) f.coming) accepted.0 refl f.follows))
          (fly_on next (given_of options id events new) id handing events (map (frame_meant f.version) f.coming) (map (frame_meant f.version) f.coming) n accepted refl refl refl f.follows live (f.outcomes n live))
          output_is (frames_further t.told fed_told.told (record { version = refl; proposed = λ x among. among; over = inr refl; closed = λ e. e }) (map (frame_meant f.version) f.coming) (f.told_frames n t live is_told)) (still changed wrote) attends)

    -- ---- its input is closed

    module _ (changed : Attempt H) (accepted : IsAccepted (Event.Close id n ∷ events)) (closes : ClosesInput one.attempt changed) where
      abbrev closing : Event
      closing = Event.Close id n

      abbrev pub closed_told : Tracked
      closed_told = record { start = t.start; told = record t.told { is_closed = true } }

      live_still : live_attempt (closing ∷ events) id ≡ Some n
      live_still = live_now closing events id refl (never (is_of id closing)) ∙ live

      closed_now_too : is_input_closed (closing ∷ events) id ≡ true
      closed_now_too = closed_now closing events id refl ∙ ap (λ (b : Bool). (b && true) || is_input_closed events id) (itself id)

      given_still : given_of options id events new ≡ given_of options id (closing ∷ events) new
      given_still = ap (λ (start : StateMap). run_of (run_options options) options.fallback_random_seed new start) (sym (start_same closing events id refl))

      follows_still : FollowsSo next (given_of options id (closing ∷ events) new) id (closing ∷ events) (map (frame_meant f.version) f.coming)
      follows_still =
          subst (λ (run : Invocation). FollowsSo next run id (closing ∷ events) (map (frame_meant f.version) f.coming)) given_still
          (one_event next (given_of options id events new) id closing events (map (frame_meant f.version) f.coming) (map (frame_meant f.version) f.coming) accepted.0 refl f.follows)

      outcomes_still : OutcomesFly id (closing ∷ events) (map (frame_meant f.version) f.coming)
      outcomes_still =
          fly_on next (given_of options id events new) id closing events (map (frame_meant f.version) f.coming) (map (frame_meant f.version) f.coming) n accepted refl refl refl f.follows live (f.outcomes n live)

      told_still : AllByRecursion (IsFrameTold closed_told.told) (map (frame_meant f.version) f.coming)
      told_still =
          frames_further t.told closed_told.told (record { version = refl; proposed = λ x among. among; over = inr refl; closed = λ e. refl }) (map (frame_meant f.version) f.coming) (f.told_frames n t live is_told)

      abbrev Closed : Type 0
      Closed = IsFlown function next options id told (closing ∷ events) held new n output waits closed_told (record one { attempt = changed })

      -- nothing was written
      quiet : output_of changed ≡ output_of one.attempt → Attends function next options id (closing ∷ events) new f.version f.coming n closed_told changed → Closed
      quiet wrote attends =
          flown_still function next options id told (closing ∷ events) held new events output f n output waits closed_told (record one { attempt = changed }) follows_still outcomes_still output_is told_still
          (still changed wrote) attends

      close_served : (s : IsServed function next options id events new f.version f.coming t one.attempt) → StaysClosed function next f.version options s.live one.attempt changed
          → IsServed function next options id (closing ∷ events) new f.version f.coming closed_told changed
      close_served s c =
          let went : HasBodies next s.live s.proposed changed = c.bodies s.live s.proposed s.bodies in
          let again = (laws.lives next (run_options options) options.fallback_random_seed id events s.live s.proposed s.bodies.executor accepted.1 s.lives).again went.executor went.lives in
          let some = (laws.stays next (run_options options) options.fallback_random_seed id events s.live s.proposed went.executor accepted.1 again).brings closing s.live.coming accepted refl refl refl refl in
          let after : AttemptInRun = record s.live { unread = s.live.unread ++ some.0; coming = s.live.coming } in
          record {
            live = after;
            proposed = s.proposed;
            new_is = s.new_is;
            start_is = s.start_is;
            coming_are = s.coming_are;
            bodies = record { executor = went.executor; lives = laws.replays next (run_options options) options.fallback_random_seed id (closing ∷ events) after s.proposed went.executor accepted some.2; keeps = went.keeps; behind = went.behind };
            lives = some.2;
            serves = subst (λ (b : Bool). Serves function next f.version options after b changed) (sym closed_now_too)
                (laws.events f.version s.live true changed some.0 s.live.coming c.serves
                (may_come next (run_options options) options.fallback_random_seed id closing events after s.live.unread some.0 refl accepted (tt, f.typed) some.2.is_live some.1));
            is_told = record {
              version = s.is_told.version;
              bytes = s.is_told.bytes;
              closed = sym closed_now_too;
              answered = s.is_told.answered ∙ sym (ap (λ (input : Option Input). turns_answered input s.live.calls) (closed_going one.attempt changed s.serves.going closes).1);
              outcomes = s.is_told.outcomes;
            };
          }

      -- its journal had not come
      early_attends : t.told.over ≡ None → (s : IsServed function next options id events new f.version f.coming t one.attempt) → (early : ClosesEarly function next f.version options s.live one.attempt changed)
          → IsClosedEarly closed_told.start closed_told.told changed
      early_attends so s early = subst (λ (start : AttemptStart). IsClosedEarly start (record t.told { is_closed = true }) changed) s.start_is (record {
        unread = λ journal. early.unread
            (read_journal function next f.version options (is_input_closed events id) s.live one.attempt s.proposed t.told s.bodies s.serves s.is_told journal);
        closed = refl;
        error = early.error;
        failed = early.failed;
        tells = early_tells one.attempt.vm.state.active.output early.error early.told;
      })

      closed_served : t.told.over ≡ None → (s : IsServed function next options id events new f.version f.coming t one.attempt) → Closed
      closed_served so s = elim (laws.closes f.version s.live (is_input_closed events id) one.attempt changed s.serves closes) [
        | inl c ↦ quiet c.nothing (is_served so live_still (close_served s c))
        | inr early ↦ record {
          version = f.version;
          coming = f.coming ++ early.sent;
          fit = all_append (sent.SentFits f.version) f.coming early.sent f.fit early.fit;
          of_store = all_append IsOfStore f.coming early.sent f.of_store (notes_of_store f.version early.sent early.notes);
          follows = subst (λ (frames : List Frame). FollowsSo next (given_of options id (closing ∷ events) new) id (closing ∷ events) frames) (sym (meant_append f.version f.coming early.sent))
              (notes_follow next (given_of options id (closing ∷ events) new) id (closing ∷ events) (map (frame_meant f.version) f.coming) (map (frame_meant f.version) early.sent) follows_still early.notes);
          outcomes = subst (λ (frames : List Frame). OutcomesFly id (closing ∷ events) frames) (sym (meant_append f.version f.coming early.sent))
              (others_fly id (closing ∷ events) (map (frame_meant f.version) f.coming) (map (frame_meant f.version) early.sent) (told_none f.version early.error early.sent early.tells) outcomes_still);
          output_is = output_is;
          told_frames = subst (AllByRecursion (IsFrameTold closed_told.told)) (sym (meant_append f.version f.coming early.sent))
              (all_append (IsFrameTold closed_told.told) (map (frame_meant f.version) f.coming) (map (frame_meant f.version) early.sent) told_still
              (frames_early closed_told.told f.version early.error early.sent refl (s.is_told.version ∙ s.serves.of_run.version_is) (early_tells one.attempt.vm.state.active.output early.error early.told) early.tells early.unfailed));
          flies = record {
            version_is = flight.version_is;
            bytes = written_behind f.version waits (output_of one.attempt) (output_of changed) f.coming early.sent flight.bytes early.output;
          };
          attends = closed_early so (closed_going one.attempt changed s.serves.going closes).0 (early_attends so s early) (λ still_live. closed_now_too);
        }
      ]

      closed_attends : Attends function next options id events new f.version f.coming n t one.attempt → Closed
      closed_attends (is_over last so over) =
          quiet ((laws.over one.attempt (over_of last one.attempt over)).closed changed closes).1 (is_over last so (closed_over last one.attempt changed over closes))
      closed_attends (lacks_memory so going lacks) =
          quiet ((laws.over one.attempt (machine_failed out_of_memory lacks)).closed changed closes).1
          (lacks_memory so (closed_going one.attempt changed going closes).0 (closed_failed out_of_memory one.attempt changed going lacks closes))
      closed_attends (closed_early so going early closed) =
          quiet ((laws.over one.attempt (machine_failed early.error early.failed)).closed changed closes).1
          (closed_early so (closed_going one.attempt changed going closes).0
          (record { unread = early.unread; closed = refl; error = early.error; failed = closed_failed early.error one.attempt changed going early.failed closes; tells = early.tells })
          (λ still_live. closed_now_too))
      closed_attends (is_served so lives s) = closed_served so s
      closed_attends (is_left so not l) = absurd (not live)

      pub closed : FollowsBegun function next options id (with_told told n closed_told) (closing ∷ events) output (changed_to changed) new
      closed =
          flown function next options id told (closing ∷ events) held new n one (record one { attempt = changed }) closed_told there refl refl events output f output waits (tt, f.typed) (tt, f.unfailed)
          (λ m above. f.numbered m (subst (λ (k : ℕ). k < m) (zero-add (attempts_begun events id)) above)) live_still (closed_attends at)
