-- Frames of the live attempt that is held are taken, one after another, and its invocation stays in the run.
use Rattle.std.proofs.Common.{◌≡◌, ◌≢◌, ℕ, Bool, true, false, true≢false, ◌&&◌, if◌then◌else◌, List, [], ◌∷◌, ◌++◌, map, Option, Some, None, option_map, unwrap_or, bytes_eq, refl, sym, ap, subst, ◌∙◌}
use Rattle.std.specs.List.{AllByRecursion}
use Rattle.std.proofs.lemmas.List.{append_assoc, append_cancel_right}
use Rattle.std.proofs.lemmas.Slice.Eq.{bytes_eq-Decides}
use Rattle.journal_model.specs.declared.invocation.NewInvocation.{NewInvocation}
use Rattle.journal_model.specs.Notification.{Bytes, Text}
use Rattle.journal_model.specs.Event.{Event, Frame}
use Rattle.journal_model.specs.Journal.{is_of, invocation_begun, version_of}
use Rattle.journal_model.specs.Attempt.{live_attempt}
use Rattle.journal_model.specs.Cause.{IsAccepted}
use Rattle.journal_model.specs.Run.{Handler}
use Rattle.protocol_types.specs.Version.{version_number}
use Rattle.protocol_types.specs.declared.version.Version.{Version}
use Rattle.protocol_stream.specs.Item.{Item}
use Rattle.input_laws.proofs.Events.{itself}
use Rattle.vm_attempt_laws.proofs.InputAndOutput.{streams_are_read}
use Rattle.vm_attempt_laws.specs.Attempts.{output_of}
use Rattle.vm_attempt_laws.specs.OutputOfAttempt.sent
use Rattle.vm_attempt_laws.specs.OutputOfAttempt.{Sent, Asks, Proposes, Awaits, Suspends, Fails, Ends, is_recorded, sent_stream, sent_message, frame_meant, IsOfStore}
use Rattle.vm_attempt_laws.specs.TurnReports.{IsFrameTold, Told}
use Rattle.vm_types.specs.declared.options.VMOptions.{VMOptions}
use Rattle.store_frames.specs.FrameMeanings.{frame_of}
use Rattle.store_steps.specs.declared.frame.FrameReply.{FrameReply}
use Rattle.store_steps.specs.PreparedFrames.{does_end}
use Rattle.store_calls.specs.AbstractStore.{Standing}
use Rattle.store_calls.specs.Frames.{IsNext, TakesEach, TakesFrame, frame_in, rest_after}
use Rattle.store_calls.proofs.Live.{taken_live}
use Rattle.schedule_model.specs.declared.held.HeldAttempt.{HeldAttempt}
use Rattle.schedule_model.specs.HeldAttempts.{held_of}
use Rattle.schedule_model.proofs.Holding.{some_is, some_none}
use Rattle.schedule_laws.specs.EventBounds.{FrameFits}
use Rattle.schedule_laws.specs.InvocationInRun.{Flies, FollowsBegun, FollowsWhere, FollowsIn, FollowsTold, ToldOf}
use Rattle.schedule_laws.specs.TrackedAttempt.{Tracked}
use Rattle.schedule_laws.specs.TurnReplies.{IsTakenAsTold}
use Rattle.schedule_laws.proofs.Events.{IsPlain, begun_on}
use Rattle.schedule_laws.proofs.Fits.{apart, not_same}
use Rattle.schedule_laws.proofs.OutcomesFit.{outcome_fits}
use Rattle.schedule_laws.proofs.Others.{into, stands_still, other_on}
use Rattle.schedule_laws.proofs.Serving.{ServingLaws}
use Rattle.schedule_laws.proofs.TrackedAttempt.{told_of}
use Rattle.schedule_laws.proofs.Unfailed.{told_unfailed}

never : (b : Bool) → (b && false) ≡ false
never true = refl
never false = refl

-- what was sent is such as a store is told
pub meant_fits : (version : Version) (one : Sent) → sent.SentFits version one → FrameFits (frame_meant version one)
meant_fits version (Asks request) fits = by_kind (is_recorded request)
  where
    by_kind : (b : Bool) → FrameFits (if b then Frame.Command request else Frame.NotAccepted)
    by_kind true = fits.told
    by_kind false = tt
meant_fits version (Proposes n value) fits = outcome_fits n value fits.told.0 fits.told.1
meant_fits version (Awaits tree) fits = tt
meant_fits version (Suspends tree) fits = tt
meant_fits version (Fails error) fits = tt
meant_fits version Ends fits = tt

pub version_begun : (events : List Event) (id : Text) (new : NewInvocation) → invocation_begun events id ≡ Some new → version_of events id ≡ new.version
version_begun events id new is = ap (λ (o : Option NewInvocation). unwrap_or (option_map (λ (one : NewInvocation). one.version) o) 0) is

same_tail : {A : Type 0} (x y : A) (xs ys : List A) → x ∷ xs ≡ y ∷ ys → xs ≡ ys
same_tail x y xs ys e = cc

-- ---- what frames say that are taken

-- these events come to the accepted ones, and each frame among them says what was told
pub record ComesAsTold (all : Told) (old new : List Event) : Type 0 where
  pub added : List Event
  pub more : new ≡ added ++ old
  pub as_told : AllByRecursion (IsTakenAsTold all) added

pub nothing_comes : (all : Told) (old new : List Event) → new ≡ old → ComesAsTold all old new
nothing_comes all old new same = record { added = []; more = same; as_told = tt }

pub comes_behind : (all : Told) (old between new : List Event) → ComesAsTold all old between → ComesAsTold all between new → ComesAsTold all old new
comes_behind all old between new first second = record {
  added = second.added ++ first.added;
  more = second.more ∙ ap (λ (events : List Event). second.added ++ events) first.more ∙ sym (append_assoc second.added first.added old);
  as_told = both (IsTakenAsTold all) second.added first.added second.as_told first.as_told;
}
  where
    both : (P : Event → Type 0) (xs ys : List Event) → AllByRecursion P xs → AllByRecursion P ys → AllByRecursion P (xs ++ ys)
    both P [] ys a b = b
    both P (x ∷ xs) ys a b = (a.0, both P xs ys a.1 b)

-- all that comes is known
pub told_of_all : (all : Told) (old new : List Event) → ComesAsTold all old new → (added : List Event) → new ≡ added ++ old → AllByRecursion (IsTakenAsTold all) added
told_of_all all old new comes added is =
    subst (AllByRecursion (IsTakenAsTold all)) (append_cancel_right comes.added added old (sym comes.more ∙ is)) comes.as_told

module _ {H : Type 0} (function : H → Handler) (next : Handler) (options : VMOptions) (id : Text) (told : ToldOf) where
  -- the frame at the front of what waits is the first of those on their way
  pub record IsFirst (events : List Event) (version : Version) (coming : List Sent) (output : Bytes) (frame : Frame) (rest : Bytes) : Type 0 where
    pub first : Sent
    pub others : List Sent
    pub frames : coming ≡ first ∷ others
    pub frame_is : frame ≡ frame_meant version first
    pub bytes : (more : Bytes) → output ++ more ≡ sent_stream version coming → rest ++ more ≡ sent_stream version others
    pub fits : sent.SentFits version first
    pub others_fit : sent.AllFit version others

  pub first_on_its_way : (s : Standing) (new : NewInvocation) (version : Version) (coming : List Sent) (more : Bytes) (frame : Frame) (rest : Bytes) (front : IsNext id s frame rest)
      → invocation_begun s.events id ≡ Some new → new.version ≡ version_number version → sent.AllFit version coming → front.output ++ more ≡ sent_stream version coming
      → IsFirst s.events version coming front.output frame rest
  first_on_its_way s new version coming more frame rest front begun version_is fit bytes =
      let T = streams_are_read.cut version coming front.output more front.item rest fit bytes front.first in
      record {
        first = T.first;
        others = T.others;
        frames = T.frames;
        frame_is = front.frame_is ∙ ap (λ (item : Item). frame_in (version_of s.events id) item) T.item_is
            ∙ ap (λ (v : ℕ). frame_of v (sent_message version T.first)) (version_begun s.events id new begun ∙ version_is) ∙ T.meant;
        bytes = λ other e.
            let U = streams_are_read.cut version coming front.output other front.item rest fit e front.first in
            U.bytes ∙ ap (λ (frames : List Sent). sent_stream version frames) (same_tail U.first T.first U.others T.others (sym U.frames ∙ T.frames));
        fits = (subst (λ (frames : List Sent). sent.AllFit version frames) T.frames fit).0;
        others_fit = T.fit;
      }

  -- and says what was told of its attempt, which is held
  first_told : (n : ℕ) (one : HeldAttempt H) (s : Standing) (held : List (HeldAttempt H)) (new : NewInvocation) (f : FollowsBegun function next options id told s.events (s.outputs id) held new)
      (output : Bytes) (frame : Frame) (rest : Bytes) → held_of held id n ≡ Some one → live_attempt s.events id ≡ Some n → IsFirst s.events f.version f.coming output frame rest
      → (t : Tracked) × (told n ≡ Some t) × IsFrameTold t.told frame
  first_told n one s held new f output frame rest there live it =
      let t = told_of function next options id told s.events new f.version f.coming n one.attempt (told n) refl (f.attends n one there) in
      let frames = subst (λ (some : List Sent). AllByRecursion (IsFrameTold t.0.told) (map (frame_meant f.version) some)) it.frames (f.told_frames n t.0 live t.1) in
      (t.0, t.1, subst (IsFrameTold t.0.told) (sym it.frame_is) frames.0)

  take_plain : (n : ℕ) (frame : Frame) → IsPlain id (Event.Move id n frame)
  take_plain n frame = record { old = refl; going = refl; asks = refl; closes = never (is_of id (Event.Move id n frame)) }

  module _ (laws : ServingLaws function next options) where
    -- a frame of the attempt that is held
    pub took_own : (n : ℕ) (one : HeldAttempt H) (reply : FrameReply) (s t : Standing) (held : List (HeldAttempt H)) → held_of held id n ≡ Some one → TakesFrame id n reply s t
        → FollowsTold function next options id told s held → FollowsTold function next options id told t held
    took_own n one reply s t held there takes f =
        into function next options id told t (event ∷ s.events) (rest_after (does_end reply) takes.rest) held takes.leaves.events takes.leaves.own (by_begun (invocation_begun s.events id) refl f)
      where
        event : Event
        event = Event.Move id n takes.frame

        accepted : IsAccepted (event ∷ s.events)
        accepted = subst IsAccepted takes.leaves.events t.accepted

        by_begun : (o : Option NewInvocation) → invocation_begun s.events id ≡ o → FollowsWhere function next options id told s.events (s.outputs id) held o
            → FollowsIn function next options id told (event ∷ s.events) (rest_after (does_end reply) takes.rest) held
        by_begun None is f = some_none (sym there ∙ (f n).0)
        by_begun (Some new) is f =
            let F : Flies new f.version f.coming takes.next.output one.attempt =
            f.flies n takes.next.output one (taken_live s.events id n takes.frame accepted.0) takes.next.waits there in
            let it = first_on_its_way s new f.version f.coming (output_of one.attempt) takes.frame takes.rest takes.next is F.version_is f.fit F.bytes in
            let fits : FrameFits takes.frame = subst FrameFits (sym it.frame_is) (meant_fits f.version it.first it.fits) in
            let said = first_told n one s held new f takes.next.output takes.frame takes.rest there (taken_live s.events id n takes.frame accepted.0) it in
            subst (λ (o : Option NewInvocation). FollowsWhere function next options id told (event ∷ s.events) (rest_after (does_end reply) takes.rest) held o) (sym is)
            (begun_on function next options id event s.events (take_plain n takes.frame) accepted.0 accepted.1 (λ same. fits) (λ same. told_unfailed said.0.told takes.frame said.2) laws told (s.outputs id) (rest_after (does_end reply) takes.rest) held new f (record {
              left = it.others;
              fit = it.others_fit;
              of_store = (subst (λ (frames : List Sent). AllByRecursion IsOfStore frames) it.frames f.of_store).1;
              told_frames = λ all frames. (subst (λ (some : List Sent). AllByRecursion (IsFrameTold all) (map (frame_meant f.version) some)) it.frames frames).1;
              passes = (
                λ same. ap (λ (frames : List Sent). map (frame_meant f.version) frames) it.frames ∙ ap (λ (frame : Frame). frame ∷ map (frame_meant f.version) it.others) (sym it.frame_is),
                λ far. absurd (true≢false (sym (itself id) ∙ far)),
              );
              waits = λ now is_now. by_end (does_end reply) now is_now it;
            }))
          where
            by_end : (b : Bool) (now : Bytes) → rest_after b takes.rest ≡ Some now → (it : IsFirst s.events f.version f.coming takes.next.output takes.frame takes.rest)
                → (waited : Bytes) × (s.outputs id ≡ Some waited) × ((more : Bytes) → waited ++ more ≡ sent_stream f.version f.coming → now ++ more ≡ sent_stream f.version it.others)
            by_end true now is_now it = some_none (sym is_now)
            by_end false now is_now it =
                let same : takes.rest ≡ now = some_is takes.rest now is_now in (
                  takes.next.output,
                  takes.next.waits,
                  λ more e. ap (λ (bytes : Bytes). bytes ++ more) (sym same) ∙ it.bytes more e,
                )

    -- of another invocation
    took_other : (other : Text) (n : ℕ) (reply : FrameReply) (s t : Standing) (held : List (HeldAttempt H)) → other ≢ id → TakesFrame other n reply s t
        → FollowsTold function next options id told s held → FollowsTold function next options id told t held
    took_other other n reply s t held far takes f =
        other_on function next options id told laws (Event.Move other n takes.frame) s t held (not_same other id far) takes.leaves.events (takes.leaves.others id (not_same other id far)) f

    pub took : (other : Text) (n : ℕ) (one : HeldAttempt H) (reply : FrameReply) (s t : Standing) (held : List (HeldAttempt H)) → held_of held other n ≡ Some one → TakesFrame other n reply s t
        → FollowsTold function next options id told s held → FollowsTold function next options id told t held
    took other n one reply s t held there takes f = by_id (bytes_eq other id) refl
      where
        by_id : (b : Bool) → bytes_eq other id ≡ b → FollowsTold function next options id told t held
        by_id true e =
            let same : other ≡ id = (bytes_eq-Decides other id).0 e in
            took_own n one reply s t held (ap (λ (x : Text). held_of held x n) (sym same) ∙ there) (subst (λ (x : Text). TakesFrame x n reply s t) same takes) f
        by_id false e = took_other other n reply s t held (apart other id e) takes f

    -- one after another
    pub took_each : (other : Text) (n : ℕ) (one : HeldAttempt H) (replies : List FrameReply) (s t : Standing) (held : List (HeldAttempt H)) → held_of held other n ≡ Some one
        → TakesEach other n replies s t → FollowsTold function next options id told s held → FollowsTold function next options id told t held
    took_each other n one [] s t held there stays f = stands_still function next options id told s t held stays f
    took_each other n one (reply ∷ replies) s t held there each f = took_each other n one replies each.0 t held there each.2 (took other n one reply s each.0 held there each.1 f)

    -- ---- what they say

    takes_as_told : (n : ℕ) (one : HeldAttempt H) (reply : FrameReply) (s t : Standing) (held : List (HeldAttempt H)) (tracked : Tracked) → held_of held id n ≡ Some one → told n ≡ Some tracked
        → TakesFrame id n reply s t → FollowsTold function next options id told s held → ComesAsTold tracked.told s.events t.events
    takes_as_told n one reply s t held tracked there is_told takes f = by_begun (invocation_begun s.events id) refl f
      where
        accepted : IsAccepted (Event.Move id n takes.frame ∷ s.events)
        accepted = subst IsAccepted takes.leaves.events t.accepted

        by_begun : (o : Option NewInvocation) → invocation_begun s.events id ≡ o → FollowsWhere function next options id told s.events (s.outputs id) held o → ComesAsTold tracked.told s.events t.events
        by_begun None is f = some_none (sym there ∙ (f n).0)
        by_begun (Some new) is f =
            let live = taken_live s.events id n takes.frame accepted.0 in
            let F : Flies new f.version f.coming takes.next.output one.attempt = f.flies n takes.next.output one live takes.next.waits there in
            let it = first_on_its_way s new f.version f.coming (output_of one.attempt) takes.frame takes.rest takes.next is F.version_is f.fit F.bytes in
            let said = first_told n one s held new f takes.next.output takes.frame takes.rest there live it in
            record {
              added = Event.Move id n takes.frame ∷ [];
              more = takes.leaves.events;
              as_told = (subst (λ (t : Tracked). IsFrameTold t.told takes.frame) (some_is said.0 tracked (sym said.1 ∙ is_told)) said.2, tt);
            }

    pub took_as_told : (n : ℕ) (one : HeldAttempt H) (replies : List FrameReply) (s t : Standing) (held : List (HeldAttempt H)) (tracked : Tracked) → held_of held id n ≡ Some one → told n ≡ Some tracked
        → TakesEach id n replies s t → FollowsTold function next options id told s held → ComesAsTold tracked.told s.events t.events
    took_as_told n one [] s t held tracked there is_told stays f = nothing_comes tracked.told s.events t.events stays.events
    took_as_told n one (reply ∷ replies) s t held tracked there is_told each f =
        comes_behind tracked.told s.events each.0.events t.events (takes_as_told n one reply s each.0 held tracked there is_told each.1 f)
        (took_as_told n one replies each.0 t held tracked there is_told each.2 (took id n one reply s each.0 held there each.1 f))
