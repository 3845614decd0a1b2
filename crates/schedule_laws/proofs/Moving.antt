-- Bytes that an attempt has written are moved to the store, and the frames among them taken, up to one that is refused.
use Rattle.std.proofs.Common.{◌≡◌, ℕ, Bool, true, false, true≢false, ◌&&◌, ◌||◌, List, [], ◌∷◌, map, take, Option, Some, None, bytes_eq, refl, sym, ap, subst, ◌∙◌, inl, inr}
use Rattle.std.specs.Prelude.{IsTrue}
use Rattle.std.specs.List.{AllByRecursion, list_any}
use Rattle.std.proofs.lemmas.Slice.Eq.{bytes_eq-Decides}
use Rattle.journal_model.specs.declared.invocation.NewInvocation.{NewInvocation}
use Rattle.journal_model.specs.Notification.{Text}
use Rattle.journal_model.specs.Event.{Event, Frame}
use Rattle.journal_model.specs.Journal.{is_of, invocation_begun, recorded_requests}
use Rattle.journal_model.specs.Attempt.{live_attempt, is_input_closed}
use Rattle.journal_model.specs.Cause.{causes_of, is_of_frame, IsAccepted}
use Rattle.journal_model.specs.declared.cause.Cause.{Cause}
use Rattle.journal_model.specs.Headline.{arrivals_handed}
use Rattle.journal_model.specs.Run.{Handler}
use Rattle.live_laws.specs.RequestsInFlight.{SendsOfRun}
use Rattle.vm_types.specs.declared.options.VMOptions.{VMOptions}
use Rattle.store_refusals.specs.declared.refusal.Refusal.{Refusal}
use Rattle.store_refusals.specs.declared.refusal.Refusal.TheVariants as refusal
use Rattle.store_refusals.specs.RefusalConditions.{is_circumstance, IsRefused}
use Rattle.store_steps.specs.PreparedFrames.{lies_in_frame}
use Rattle.store_calls.specs.AbstractStore.{Standing, LeavesWaiting}
use Rattle.store_calls.specs.Calls.{PutsBehind}
use Rattle.store_calls.specs.Frames.{LeavesRefused, RefusesFrame, Rests}
use Rattle.store_calls.proofs.Live.{live_when}
use Rattle.schedule_laws.specs.InvocationInRun.{given_of, Flies, FollowsBegun, FollowsWhere, FollowsTold, OutcomesFly, ToldOf}
use Rattle.schedule_laws.proofs.Advancing.{advanced}
use Rattle.schedule_laws.proofs.Events.{IsPlain, where_on}
use Rattle.schedule_laws.proofs.Fits.{apart}
use Rattle.schedule_laws.proofs.InvocationInRun.{same_held}
use Rattle.schedule_laws.proofs.Others.{into, stands_still, other_on}
use Rattle.schedule_laws.proofs.Outcomes.{first_open}
use Rattle.schedule_laws.proofs.Schedules.{some_none, held_other_invocation}
use Rattle.schedule_laws.proofs.Serving.{ServingLaws}
use Rattle.schedule_laws.proofs.Taking.{first_on_its_way}
use Rattle.schedule_laws.specs.Attempts.{output_of, Attempt}
use Rattle.schedule_laws.proofs.FrameSoundness.{lies_as, none_lie_in_frames}
use Rattle.schedule_laws.specs.Schedules.{HeldAttempt, with_first, is_held, held_of, with_attempt}
use Rattle.schedule_model.specs.Attempts.{Advances}
use Rattle.vm_attempt_laws.specs.OutputOfAttempt.{Sent, frame_meant, IsOfStore}

never : (b : Bool) → (b && false) ≡ false
never true = refl
never false = refl

-- ---- refusals

not-either : (a b : Bool) → (a || b) ≡ false → a ≡ false
not-either true b e = e
not-either false b e = refl

circumstance : (why : Refusal) → IsTrue (is_circumstance why) → lies_in_frame why ≡ false
circumstance (refusal.StatementRefused cause) is = refl
circumstance refusal.OutOfMemory is = refl
circumstance _ is = absurd (true≢false (sym is))

pub lies_not : (causes : List Cause) (why : Refusal) → list_any is_of_frame causes ≡ false → IsRefused causes why → lies_in_frame why ≡ false
lies_not causes why none (inr is) = circumstance why is
lies_not [] why none (inl first) = some_none (sym first)
lies_not (c ∷ causes) why none (inl first) =
    let same : refusal.Cause c ≡ why = cc in ap lies_in_frame (sym same) ∙ lies_as c ∙ not-either (is_of_frame c) (list_any is_of_frame causes) none

module _ {H : Type 0} (function : H → Handler) (next : Handler) (options : VMOptions) (id : Text) (told : ToldOf) where
  -- no frame of the attempt that is held is refused for a cause that lies in it
  pub none_refused : (n : ℕ) (one : HeldAttempt H) (why : Refusal) (s t : Standing) (held : List (HeldAttempt H)) → held_of held id n ≡ Some one → RefusesFrame id n why s t
      → FollowsTold function next options id told s held → lies_in_frame why ≡ false
  none_refused n one why s t held there r f = by_begun (invocation_begun s.events id) refl f
    where
      live : live_attempt s.events id ≡ Some n
      live = live_when s.events id n r.live

      by_begun : (o : Option NewInvocation) → invocation_begun s.events id ≡ o → FollowsWhere function next options id told s.events (s.outputs id) held o → lies_in_frame why ≡ false
      by_begun None is f = some_none (sym there ∙ (f n).0)
      by_begun (Some new) is f =
          let F : Flies new f.version f.coming r.next.output one.attempt = f.flies n r.next.output one live r.next.waits there in
          let it = first_on_its_way function next options id told s new f.version f.coming (output_of one.attempt) r.frame r.rest r.next is F.version_is f.fit F.bytes in
          let sends : SendsOfRun next (given_of options id s.events new) (arrivals_handed s.events id) (is_input_closed s.events id) (recorded_requests s.events id) (map (frame_meant f.version) (it.first ∷ it.others)) =
          subst (λ (frames : List Sent). SendsOfRun next (given_of options id s.events new) (arrivals_handed s.events id) (is_input_closed s.events id) (recorded_requests s.events id) (map (frame_meant f.version) frames))
          it.frames (f.follows.flies n live) in
          let not_in = none_lie_in_frames next (given_of options id s.events new) (arrivals_handed s.events id) f.version it.first id s.events (record {
            of_store = (subst (λ (frames : List Sent). AllByRecursion IsOfStore frames) it.frames f.of_store).0;
            of_run = sends.0;
            opened = first_open id s.events (frame_meant f.version it.first) (map (frame_meant f.version) it.others) s.accepted
                (subst (λ (frames : List Sent). OutcomesFly id s.events (map (frame_meant f.version) frames)) it.frames (f.outcomes n live));
          }) in
          lies_not (causes_of s.events (Event.Move id n r.frame)) why
          (ap (λ (frame : Frame). list_any is_of_frame (causes_of s.events (Event.Move id n frame))) it.frame_is ∙ not_in.causes n) r.cause

  stop_plain : (n : ℕ) → IsPlain id (Event.Stop id n)
  stop_plain n = record { old = refl; going = refl; asks = refl; closes = never (is_of id (Event.Stop id n)) }

  module _ (laws : ServingLaws function next options) where
    -- ---- a stop

    stopped_own : (n : ℕ) (s t : Standing) (held : List (HeldAttempt H)) → LeavesWaiting (Event.Stop id n) id None s t → FollowsTold function next options id told s held → FollowsTold function next options id told t held
    stopped_own n s t held leaves f =
        let accepted : IsAccepted (Event.Stop id n ∷ s.events) = subst IsAccepted leaves.events t.accepted in
        into function next options id told t (Event.Stop id n ∷ s.events) None held leaves.events leaves.own
        (where_on function next options id (Event.Stop id n) s.events (stop_plain n) accepted.0 accepted.1 tt tt laws told (s.outputs id) None held (λ frames. refl) (λ now is. some_none (sym is)) f)

    pub stopped : (other : Text) (n : ℕ) (s t : Standing) (held : List (HeldAttempt H)) → LeavesWaiting (Event.Stop other n) other None s t → FollowsTold function next options id told s held → FollowsTold function next options id told t held
    stopped other n s t held leaves f = by_id (bytes_eq other id) refl
      where
        by_id : (b : Bool) → bytes_eq other id ≡ b → FollowsTold function next options id told t held
        by_id true e = stopped_own n s t held (subst (λ (x : Text). LeavesWaiting (Event.Stop x n) x None s t) ((bytes_eq-Decides other id).0 e) leaves) f
        by_id false e = other_on function next options id told laws (Event.Stop other n) s t held e leaves.events (leaves.others id e) f

    -- ---- where no further frame is taken

    refused : (b : Bool) (other : Text) (n : ℕ) (s t : Standing) (held : List (HeldAttempt H)) → LeavesRefused b other n s t → FollowsTold function next options id told s held → FollowsTold function next options id told t held
    refused true other n s t held left f = stopped other n s t held left f
    refused false other n s t held stays f = stands_still function next options id told s t held stays f

    pub rested : (other : Text) (n : ℕ) (why : Option Refusal) (s t : Standing) (held : List (HeldAttempt H)) → Rests other n why s t → FollowsTold function next options id told s held → FollowsTold function next options id told t held
    rested other n None s t held (inl ended) f = stands_still function next options id told s t held ended.stays f
    rested other n None s t held (inr none) f = stands_still function next options id told s t held none.stays f
    rested other n (Some why) s t held (inl room) f = stands_still function next options id told s t held room.stays f
    rested other n (Some why) s t held (inr r) f = refused (lies_in_frame why) other n s t held r.left f

    -- ---- bytes are put behind those that wait

    moved_own : (one : HeldAttempt H) (count : ℕ) (changed : Attempt H) (s t : Standing) (held : List (HeldAttempt H)) → one.invocation ≡ id → held_of held one.invocation one.number ≡ Some one
        → PutsBehind one.invocation one.number (take count (output_of one.attempt)) s t → Advances count one.attempt changed → FollowsTold function next options id told s held
        → FollowsTold function next options id told t (with_attempt held one changed)
    moved_own one count changed s t held same there puts advances f =
        into function next options id told t s.events (t.outputs id) (with_attempt held one changed) puts.events refl (by_begun (invocation_begun s.events id) f)
      where
        by_begun : (o : Option NewInvocation) → FollowsWhere function next options id told s.events (s.outputs id) held o → FollowsWhere function next options id told s.events (t.outputs id) (with_attempt held one changed) o
        by_begun None f = some_none (sym there ∙ ap (λ (x : Text). held_of held x one.number) same ∙ (f one.number).0)
        by_begun (Some new) f =
            subst (λ (x : Text). (held_of held x one.number ≡ Some one) → PutsBehind x one.number (take count (output_of one.attempt)) s t
            → FollowsBegun function next options id told s.events (t.outputs id) (with_first (is_held x one.number) held (record one { attempt = changed })) new) (sym same)
            (λ here put. advanced function next options id laws told s.events held new one.number one changed s.accepted here (s.outputs id) (t.outputs id) count (live_when s.events id one.number put.live) advances
            (record { waited = put.before; waited_is = put.waits; now_is = put.own }) f) there puts

    pub moved : (one : HeldAttempt H) (count : ℕ) (changed : Attempt H) (s t : Standing) (held : List (HeldAttempt H)) → held_of held one.invocation one.number ≡ Some one
        → PutsBehind one.invocation one.number (take count (output_of one.attempt)) s t → Advances count one.attempt changed → FollowsTold function next options id told s held
        → FollowsTold function next options id told t (with_attempt held one changed)
    moved one count changed s t held there puts advances f = by_id (bytes_eq one.invocation id) refl
      where
        by_id : (b : Bool) → bytes_eq one.invocation id ≡ b → FollowsTold function next options id told t (with_attempt held one changed)
        by_id true e = moved_own one count changed s t held ((bytes_eq-Decides one.invocation id).0 e) there puts advances f
        by_id false e =
            into function next options id told t s.events (s.outputs id) (with_attempt held one changed) puts.events (puts.others id e)
            (same_held function next options id told s.events (s.outputs id) held (with_attempt held one changed) (invocation_begun s.events id)
            (λ m. held_other_invocation one.invocation id one.number m held one (record one { attempt = changed }) there refl (λ same. apart one.invocation id e (sym same))) f)
