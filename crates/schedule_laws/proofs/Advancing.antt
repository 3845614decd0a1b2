-- Bytes of an attempt that is held leave it, and wait at the store: nothing else of it changes.
use Rattle.std.proofs.Common.{◌≡◌, ℕ, List, [], ◌++◌, take, drop, Option, Some, Result, Ok, refl, sym, ap, subst, ◌∙◌, append_assoc, take-append-drop}
use Rattle.std.specs.declared.alloc.AllocError.{AllocError}
use Rattle.journal_model.specs.declared.invocation.NewInvocation.{NewInvocation}
use Rattle.journal_model.specs.Notification.{Bytes, Text}
use Rattle.journal_model.specs.Event.{Event}
use Rattle.journal_model.specs.Attempt.{live_attempt, is_input_closed}
use Rattle.journal_model.specs.Cause.{IsAccepted}
use Rattle.journal_model.specs.Run.{Handler}
use Rattle.protocol_types.specs.declared.version.Version.{Version}
use Rattle.vm_start.specs.FailureReport.{out_of_memory}
use Rattle.vm_types.specs.Options.{run_options}
use Rattle.vm_types.specs.declared.options.VMOptions.{VMOptions}
use Rattle.vm_attempt_laws.specs.Attempts.{output_of, OnlyMoves, TakesOutput, Attempt}
use Rattle.vm_attempt_laws.specs.OutputOfAttempt.{Sent, sent_stream}
use Rattle.vm_attempt_laws.specs.AttemptSimulation.{HasBodies}
use Rattle.vm_attempt_laws.specs.TurnsInRun.{turns_answered}
use Rattle.vm_attempt_laws.specs.Words.{Input}
use Rattle.schedule_model.specs.Attempts.{Advances, Gathers}
use Rattle.schedule_model.specs.declared.held.HeldAttempt.{HeldAttempt}
use Rattle.schedule_model.specs.First.{with_first}
use Rattle.schedule_model.specs.HeldAttempts.{is_held, held_of}
use Rattle.schedule_model.proofs.Holding.{some_is}
use Rattle.schedule_laws.specs.TrackedAttempt.{Tracked, IsServed, IsAttemptLeft, Attends, is_over, lacks_memory, closed_early, is_served, is_left}
use Rattle.schedule_laws.specs.InvocationInRun.{Flies, FollowsBegun, ToldOf}
use Rattle.schedule_laws.proofs.TrackedAttempt.{told_of, with_told, with_same_told}
use Rattle.schedule_laws.proofs.InvocationInRun.{flown, flown_still, quiet_changed, retold}
use Rattle.schedule_laws.proofs.Serving.{ServingLaws}
use Rattle.vm_attempt_laws.proofs.OverAttempts.{moved_going, moved_failed, moved_over}
use Rattle.schedule_laws.proofs.Unfailed.{IsFurther, same_further}

module _ {H : Type 0} (function : H → Handler) (next : Handler) (options : VMOptions) (id : Text) (laws : ServingLaws function next options) (told : ToldOf) where
  -- ---- its first bytes leave, and wait at the store

  pub record IsBehind (bytes : Bytes) (before after : Option Bytes) : Type 0 where
    pub waited : Bytes
    pub waited_is : before ≡ Some waited
    pub now_is : after ≡ Some (waited ++ bytes)

  module _ (events : List Event) (new : NewInvocation) (version : Version) (coming : List Sent) (n : ℕ) (count : ℕ) (before changed : Attempt H) (accepted : IsAccepted events) (moves : OnlyMoves before changed)
      (takes : (result : Result Bytes AllocError) × TakesOutput count before result changed) where
    moved_input : (calls : ℕ) → turns_answered before.input calls ≡ turns_answered changed.input calls
    moved_input calls = sym (ap (λ (input : Option Input). turns_answered input calls) (moved_going before changed moves).1)

    moved_served : (t : Tracked) → IsServed function next options id events new version coming t before → IsServed function next options id events new version coming t changed
    moved_served t s =
        let (serves, bodies) = (laws.takes version s.live (is_input_closed events id) before changed s.serves).taken count takes.0 takes.1 in
        let went : HasBodies next s.live s.proposed changed = bodies s.live s.proposed s.bodies in
        record {
          live = s.live;
          proposed = s.proposed;
          new_is = s.new_is;
          start_is = s.start_is;
          coming_are = s.coming_are;
          bodies = went;
          lives = (laws.lives next (run_options options) options.fallback_random_seed id events s.live s.proposed s.bodies.executor accepted s.lives).again went.executor went.lives;
          serves = serves;
          is_told = record { version = s.is_told.version; bytes = s.is_told.bytes; closed = s.is_told.closed; answered = s.is_told.answered ∙ moved_input s.live.calls; outcomes = s.is_told.outcomes };
        }

    moved_left : (t : Tracked) → IsAttemptLeft function next options id t before → IsAttemptLeft function next options id t changed
    moved_left t l =
        let g = l.goes_on in
        let (serves, bodies) = (laws.takes l.version g.live l.is_closed before changed g.serves).taken count takes.0 takes.1 in
        record {
          version = l.version;
          is_closed = l.is_closed;
          goes_on = record {
            live = g.live;
            proposed = g.proposed;
            start_is = g.start_is;
            bodies = bodies g.live g.proposed g.bodies;
            serves = serves;
            is_told = record { version = g.is_told.version; bytes = g.is_told.bytes; closed = g.is_told.closed; answered = g.is_told.answered ∙ moved_input g.live.calls; outcomes = g.is_told.outcomes };
          };
        }

    -- it stands as it did, live or not
    moved_attends : (t : Tracked) → Attends function next options id events new version coming n t before → Attends function next options id events new version coming n t changed
    moved_attends t (is_over last so over) = is_over last so (moved_over last before changed over moves)
    moved_attends t (lacks_memory so going lacks) = lacks_memory so ((moved_going before changed moves).0 ∙ going) (moved_failed out_of_memory before changed lacks moves)
    moved_attends t (closed_early so going early closed) =
        closed_early so ((moved_going before changed moves).0 ∙ going)
        (record { unread = early.unread; closed = early.closed; error = early.error; failed = moved_failed early.error before changed early.failed moves; tells = early.tells }) closed
    moved_attends t (is_served so lives s) = is_served so lives (moved_served t s)
    moved_attends t (is_left so not l) = is_left so not (moved_left t l)

  module _ (events : List Event) (held : List (HeldAttempt H)) (new : NewInvocation) (n : ℕ) (one : HeldAttempt H) (changed : Attempt H) (accepted : IsAccepted events) (there : held_of held id n ≡ Some one) where
    abbrev changed_to : List (HeldAttempt H)
    changed_to = with_first (is_held id n) held (record one { attempt = changed })

    -- of the live one bytes have left
    pub advanced : (before after : Option Bytes) (count : ℕ) → live_attempt events id ≡ Some n → Advances count one.attempt changed → IsBehind (take count (output_of one.attempt)) before after
        → FollowsBegun function next options id told events before held new → FollowsBegun function next options id told events after changed_to new
    advanced before after count live advances behind f =
        retold function next options id (with_told told n t.0) told events after changed_to new (with_same_told told n t.0 t.1)
        (flown function next options id told events held new n one (record one { attempt = changed }) t.0 there refl refl events before f after (behind.waited ++ take count (output_of one.attempt)) f.typed f.unfailed f.numbered live
        (flown_still function next options id told events held new events before f n after (behind.waited ++ take count (output_of one.attempt)) t.0 (record one { attempt = changed }) f.follows (f.outcomes n live) behind.now_is (f.told_frames n t.0 live t.1)
        (record { version_is = leaving.version_is; bytes = moved_bytes })
        (moved_attends events new f.version f.coming n count one.attempt changed accepted advances.moves
        (Ok (take count (output_of one.attempt)), record { moves = advances.moves; front = refl; rest = advances.rest }) t.0 t.2)))
      where
        t : (t : Tracked) × (told n ≡ Some t) × Attends function next options id events new f.version f.coming n t one.attempt
        t = told_of function next options id told events new f.version f.coming n one.attempt (told n) refl (f.attends n one there)

        leaving : Flies new f.version f.coming behind.waited one.attempt
        leaving = f.flies n behind.waited one live behind.waited_is there

        moved_bytes : (behind.waited ++ take count (output_of one.attempt)) ++ output_of changed ≡ sent_stream f.version f.coming
        moved_bytes =
            ap (λ (bytes : Bytes). (behind.waited ++ take count (output_of one.attempt)) ++ bytes) advances.rest
            ∙ append_assoc behind.waited (take count (output_of one.attempt)) (drop count (output_of one.attempt))
            ∙ ap (λ (bytes : Bytes). behind.waited ++ bytes) (take-append-drop count (output_of one.attempt)) ∙ leaving.bytes

    -- of any, its output was gathered in one piece
    pub gathered : (output : Option Bytes) → Gathers one.attempt changed → FollowsBegun function next options id told events output held new → FollowsBegun function next options id told events output changed_to new
    gathered output gathers f =
        retold function next options id (with_told told n t.0) told events output changed_to new (with_same_told told n t.0 t.1)
        (quiet_changed function next options id told events held new n one (record one { attempt = changed }) t.0 there refl refl output f gathers.same (λ k is. subst (λ (one_told : Tracked). IsFurther one_told.told t.0.told) (some_is t.0 k (sym t.1 ∙ is)) (same_further t.0.told))
        (moved_attends events new f.version f.coming n 0 one.attempt changed accepted gathers.moves (Ok [], record { moves = gathers.moves; front = refl; rest = gathers.same }) t.0 t.2))
      where
        t : (t : Tracked) × (told n ≡ Some t) × Attends function next options id events new f.version f.coming n t one.attempt
        t = told_of function next options id told events new f.version f.coming n one.attempt (told n) refl (f.attends n one there)
