-- Forgetting keeps each other invocation in its run, with its attempts; of one that is forgotten no attempt is held.
use Rattle.std.proofs.Common.{◌≡◌, refl, sym, ap, ap₂, subst, ◌∙◌, ℕ, ◌+◌, ◌<◌, ◌&&◌, Bool, true, false, true≢false, drop, if◌then◌else◌, List, [], ◌∷◌, ◌++◌, length, map, Option, Some, None, bytes_eq}
use Rattle.std.specs.List.{AllByRecursion}
use Rattle.std.proofs.lemmas.Slice.Eq.{bytes_eq-Decides}
use Rattle.journal_model.specs.Notification.{Arrival, Bytes, Text}
use Rattle.journal_model.specs.State.{StateMap, state_after}
use Rattle.journal_model.specs.Request.{Request}
use Rattle.journal_model.specs.Spelling.{frame_bytes}
use Rattle.journal_model.specs.Start.{since_first, start_payload_of}
use Rattle.journal_model.specs.Event.{Event, Frame}
use Rattle.journal_model.specs.Journal.{Entry, arrivals_in, frame_of, invocation_begun, is_of, object_of, recorded_arrivals, recorded_requests, request_of_frame, requests_in}
use Rattle.journal_model.specs.Attempt.{Piece, input_bytes, input_left, is_input_closed}
use Rattle.journal_model.specs.Forgetting.{edits, without}
use Rattle.journal_model.specs.Headline.{arrivals_handed, run_of, shown_state}
use Rattle.journal_model.specs.Run.{Handler, Invocation}
use Rattle.journal_model.specs.declared.invocation.NewInvocation.{NewInvocation}
use Rattle.journal_model.specs.declared.options.RunOptions.{RunOptions}
use Rattle.journal_model.specs.declared.value.NonEmptyValue.{NonEmptyValue}
use Rattle.journal_laws.specs.Forgetting.{without_all}
use Rattle.journal_laws.proofs.Forgetting.{or_false}
use Rattle.journal_laws.proofs.Isolation.{IsToldAlike, told_alike}
use Rattle.journal_laws.proofs.Several.{several_forget}
use Rattle.journal_laws.proofs.Staying.{handed_alike}
use Rattle.protocol_types.specs.declared.message_type.MessageType.TheVariants.{Start}
use Rattle.protocol_types.specs.declared.version.Version.{Version}
use Rattle.input_laws.specs.Message.{InputMessage, HasReadMessages, arrivals_carried, message_of, requests_carried}
use Rattle.run_laws.proofs.Forgetting.{all_stay, others_hold}
use Rattle.live_laws.specs.AttemptWithMachine.{AttemptInRun, IsLiveMachine}
use Rattle.live_laws.specs.BegunAttempts.{BegunWith, HasInput, IsBegunAfter, IsLater, begun_earlier, begun_last}
use Rattle.live_laws.specs.RequestsInFlight.{FollowsSo, SendsOfRun, requests_sent}
use Rattle.live_laws.specs.StartFrame.{AttemptStart, IsBegunAs}
use Rattle.replay_laws.specs.AttemptWithBodies.{IsLiveExecutor}
use Rattle.replay_laws.specs.OutcomesInFlight.{ComeBehind, OutcomesStand}
use Rattle.vm_types.specs.Options.{run_options}
use Rattle.vm_types.specs.declared.options.VMOptions.{VMOptions}
use Rattle.vm_attempt_laws.specs.AttemptSimulation.{Serves}
use Rattle.vm_attempt_laws.specs.Attempts.{Attempt}
use Rattle.vm_attempt_laws.specs.Bodies.{Executor}
use Rattle.vm_attempt_laws.specs.OutputOfAttempt.{Sent, frame_meant}
use Rattle.vm_attempt_laws.specs.TurnReports.{IsAttemptTold}
use Rattle.store_calls.specs.AbstractStore.{Standing}
use Rattle.store_calls.specs.Forgetting.{LeavesOthers}
use Rattle.schedule_model.proofs.LettingGo.{are_let_go}
use Rattle.schedule_laws.specs.EventBounds.{AcceptedFits}
use Rattle.schedule_laws.specs.InvocationInRun.{FailsNot, FollowsBegun, FollowsIn, FollowsTold, FollowsWhere, OutcomesFly, ToldOf, given_of}
use Rattle.schedule_laws.specs.Laws.{ForgettingKeeps}
use Rattle.schedule_laws.specs.Schedules.{HeldAttempt, held_of, is_among, left_of}
use Rattle.schedule_laws.specs.TrackedAttempt.{Attends, AttendsAs, IsServed, Tracked, closed_early, is_left, is_over, is_served, lacks_memory}
use Rattle.schedule_laws.proofs.LettingGo.{letting_go_keeps}
use Rattle.schedule_laws.proofs.Others.{into}
use Rattle.schedule_laws.proofs.TrackedAttempt.{none_told}

-- ---- what is read of two lists that tell alike

module _ (id : Text) (events others : List Event) (t : IsToldAlike others events id) where
  arrivals_same : recorded_arrivals others id ≡ recorded_arrivals events id
  arrivals_same = ap arrivals_in t.entries

  requests_same : recorded_requests others id ≡ recorded_requests events id
  requests_same = ap requests_in t.entries

  outcomes_stand : (journal : List Arrival) (proposed : List (ℕ × NonEmptyValue)) (coming : List Frame) → OutcomesStand events id journal proposed coming → OutcomesStand others id journal proposed coming
  outcomes_stand journal proposed coming o = record {
    once = o.once;
    few = o.few;
    unrecorded = λ n some. rw t.entries (o.unrecorded n some);
    behind = subst (λ (requests : List Request). ComeBehind requests coming) (sym requests_same) o.behind;
    own = λ n asked came. o.own n (rw t.entries at asked) (rw t.entries at came);
  }

  reads_still : (held : Bytes) (read unread : List InputMessage) → HasReadMessages events id held read unread → HasReadMessages others id held read unread
  reads_still held read unread r = record {
    all = record { pieces = t.input ∙ r.all.pieces; arrivals = r.all.arrivals ∙ sym arrivals_same };
    bytes = ap₂ (λ (n : ℕ) (pieces : List Piece). held ++ drop n (input_bytes pieces)) t.handed t.input ∙ r.bytes;
  }

  input_still : (coming : List Frame) (proposed : List (ℕ × NonEmptyValue)) (new : NewInvocation) (journal messages : List InputMessage) → HasInput events id coming proposed new journal messages
      → HasInput others id coming proposed new journal messages
  input_still coming proposed new journal messages m = record {
    later = m.later;
    parts = m.parts;
    later_are = subst (λ (entries : List Entry). AllByRecursion (IsLater entries proposed) m.later) (sym t.entries) m.later_are;
    coming_are = m.coming_are;
  }

  sends_still : (next : Handler) (given : Invocation) (coming : List Frame) → SendsOfRun next given (arrivals_handed events id) (is_input_closed events id) (recorded_requests events id) coming
      → SendsOfRun next given (arrivals_handed others id) (is_input_closed others id) (recorded_requests others id) coming
  sends_still next given coming sends =
      subst (λ (requests : List Request). SendsOfRun next given (arrivals_handed others id) (is_input_closed others id) requests coming) (sym requests_same)
      (subst (λ (closed : Bool). SendsOfRun next given (arrivals_handed others id) closed (recorded_requests events id) coming) (sym t.input_closed)
      (subst (λ (handed : List Arrival). SendsOfRun next given handed (is_input_closed events id) (recorded_requests events id) coming) (sym (handed_alike others events id t)) sends))

-- ---- how the last attempt was begun

module _ (id : Text) where
  other_way : (one : Text) → bytes_eq one id ≡ false → bytes_eq id one ≡ false
  other_way one d = by_test (bytes_eq id one) refl
    where
      by_test : (b : Bool) → bytes_eq id one ≡ b → bytes_eq id one ≡ false
      by_test false e = e
      by_test true e = absurd (true≢false (sym ((bytes_eq-Decides one id).1 (sym ((bytes_eq-Decides id one).0 e))) ∙ d))

  edits_behind : (earlier : List Event) (now : ℕ) (o : Option Text) (requests : List Request) (more : List Event) → IsBegunAfter id earlier now more
      → IsBegunAfter id earlier now (edits o requests ++ more)
  edits_behind earlier now None requests more begun = begun
  edits_behind earlier now (Some object) [] more begun = begun
  edits_behind earlier now (Some object) (request ∷ requests) more begun =
      begun_earlier (Event.Edit object request) refl refl (edits_behind earlier now (Some object) requests more begun)

  begun_left : (one : Text) → bytes_eq one id ≡ false → (earlier : List Event) (now : ℕ) (events : List Event) → IsBegunAfter id earlier now events
      → IsBegunAfter id (without one earlier) now (without one events)
  begun_left one d earlier now events begun_last = rw (other_way one d) begun_last
  begun_left one d earlier now events (begun_earlier {events = before} event made begins more) = by_cases (is_of one event) (begun_left one d earlier now before more)
    where
      by_cases : (b : Bool) → IsBegunAfter id (without one earlier) now (without one before)
          → IsBegunAfter id (without one earlier) now ((if b then edits (object_of before event) (request_of_frame (frame_of event)) else event ∷ []) ++ without one before)
      by_cases true rest = edits_behind (without one earlier) now (object_of before event) (request_of_frame (frame_of event)) (without one before) rest
      by_cases false rest = begun_earlier event made begins rest

  begun_behind : (ids : List Text) → is_among ids id ≡ false → (earlier : List Event) (now : ℕ) (events : List Event) → IsBegunAfter id earlier now events
      → IsBegunAfter id (without_all ids earlier) now (without_all ids events)
  begun_behind [] e earlier now events begun = begun
  begun_behind (one ∷ ids) e earlier now events begun =
      let apart = or_false (bytes_eq one id) (is_among ids id) e in
      begun_behind ids apart.1 (without one earlier) now (without one events) (begun_left one apart.0 earlier now events begun)

-- ---- one that is not forgotten

module _ (id : Text) (ids : List Text) (e : is_among ids id ≡ false) where
  alike : (events : List Event) → IsToldAlike (without_all ids events) events id
  alike events = let forgets = several_forget events ids in told_alike (without_all ids events) events id (forgets.views id e) (forgets.starts id e)

  begun_with : (events : List Event) (new : NewInvocation) (journal : List InputMessage) (start : Bytes) → BegunWith events id new journal start → BegunWith (without_all ids events) id new journal start
  begun_with events new journal start b =
      let t = alike b.earlier in
      record {
        earlier = without_all ids b.earlier;
        now = b.now;
        begun = begun_behind id ids e b.earlier b.now events b.begun;
        new_is = t.begun ∙ b.new_is;
        journal_is = b.journal_is ∙ sym (ap (λ (entries : List Entry). map (message_of entries) entries) t.entries);
        start_is = b.start_is
            ∙ ap₂ (λ (state : StateMap) (moments : List ℕ).
            frame_bytes Start (start_payload_of new (state_after (requests_carried journal) state) (1 + length journal) (length moments) (since_first moments b.now))) (sym t.start) (sym t.moments);
      }

  module _ (next : Handler) (options : RunOptions) (seed : ℕ) (events : List Event) where
    begun_as : (start : AttemptStart) → IsBegunAs next options seed events id start → IsBegunAs next options seed (without_all ids events) id start
    begun_as start b =
        let t = alike events in
        record {
          begun = begun_with events start.new start.journal start.frame b.begun;
          given_is = b.given_is ∙ ap (λ (state : StateMap). run_of options seed start.new state) (sym t.start);
          shown_is = b.shown_is ∙ ap (λ (state : StateMap). shown_state start.new.state (state_after (requests_carried start.journal) state)) (sym t.start);
          of_run = b.of_run;
        }

    machine_still : (live : AttemptInRun) → IsLiveMachine next options seed id events live → IsLiveMachine next options seed id (without_all ids events) live
    machine_still live m =
        let t = alike events in
        record {
          begun = begun_as live.start m.begun;
          messages = input_still id events (without_all ids events) t live.coming live.proposed live.start.new live.start.journal (live.read ++ live.unread) m.messages;
          holds = m.holds;
          reads = reads_still id events (without_all ids events) t live.held live.read live.unread m.reads;
          machine = m.machine;
          asked = ap (λ (requests : List Request). requests ++ requests_sent live.coming) (requests_same id events (without_all ids events) t) ∙ m.asked;
        }

    executor_still : (live : AttemptInRun) (proposed : List (ℕ × NonEmptyValue)) (e : Executor) → IsLiveExecutor next options seed id events live proposed e
        → IsLiveExecutor next options seed id (without_all ids events) live proposed e
    executor_still live proposed e x = record {
      is_live = machine_still live x.is_live;
      machine = x.machine;
      idle = x.idle;
      bodies = x.bodies;
      asked = x.asked;
      texts = x.texts;
      outcomes = outcomes_stand id events (without_all ids events) (alike events) (arrivals_carried live.start.journal) proposed live.coming x.outcomes;
      told = x.told;
    }

  module _ {H : Type 0} (function : H → Handler) (next : Handler) (options : VMOptions) (events : List Event) (new : NewInvocation) where
    abbrev left : List Event
    left = without_all ids events

    module _ (version : Version) (coming : List Sent) where
      served_still : (t : Tracked) (a : Attempt H) → IsServed function next options id events new version coming t a → IsServed function next options id left new version coming t a
      served_still t a s =
          let closed = sym (alike events).input_closed in
          record {
            live = s.live;
            proposed = s.proposed;
            new_is = s.new_is;
            start_is = s.start_is;
            coming_are = s.coming_are;
            bodies = s.bodies;
            lives = executor_still next (run_options options) options.fallback_random_seed events s.live s.proposed s.bodies.executor s.lives;
            serves = subst (λ (is_closed : Bool). Serves function next version options s.live is_closed a) closed s.serves;
            is_told = subst (λ (is_closed : Bool). IsAttemptTold s.live a is_closed s.proposed t.told) closed s.is_told;
          }

      attends_still : (number : ℕ) (t : Tracked) (a : Attempt H) → Attends function next options id events new version coming number t a → Attends function next options id left new version coming number t a
      attends_still number t a (is_over last told by) = is_over last told by
      attends_still number t a (lacks_memory told going lacks) = lacks_memory told going lacks
      attends_still number t a (closed_early told going early closes) = closed_early told going early (λ live. (alike events).input_closed ∙ closes (sym (alike events).live ∙ live))
      attends_still number t a (is_served told live served) = is_served told ((alike events).live ∙ live) (served_still t a served)
      attends_still number t a (is_left told dead goes_on) = is_left told (λ live. dead (sym (alike events).live ∙ live)) goes_on

      attends_as : (number : ℕ) (o : Option Tracked) (a : Attempt H) → AttendsAs function next options id events new version coming number o a → AttendsAs function next options id left new version coming number o a
      attends_as number None a none = absurd none
      attends_as number (Some t) a attends = attends_still number t a attends

    follows_so : (given : Invocation) (coming : List Frame) → FollowsSo next given id events coming → FollowsSo next given id left coming
    follows_so given coming f = record {
      accepted = (several_forget events ids).accepted f.accepted;
      holds = others_hold next given events ids id e f.holds;
      flies = λ attempt live. sends_still id events left (alike events) next given coming (f.flies attempt (sym (alike events).live ∙ live));
    }

    module _ (told : ToldOf) (output : Option Bytes) (held : List (HeldAttempt H)) where
      begun_follows : FollowsBegun function next options id told events output held new → FollowsBegun function next options id told left output held new
      begun_follows f =
          let t = alike events in
          record {
            version = f.version;
            coming = f.coming;
            typed = all_stay (AcceptedFits id) (λ object request. tt) ids events f.typed;
            unfailed = all_stay (FailsNot id) (λ object request. tt) ids events f.unfailed;
            fit = f.fit;
            of_store = f.of_store;
            follows =
                subst (λ (state : StateMap). FollowsSo next (run_of (run_options options) options.fallback_random_seed new state) id left (map (frame_meant f.version) f.coming)) (sym t.start)
                (follows_so (given_of options id events new) (map (frame_meant f.version) f.coming) f.follows);
            outcomes = λ number live.
                let o = f.outcomes number (sym t.live ∙ live) in
                record { journal = o.journal; proposed = o.proposed; stand = outcomes_stand id events left t o.journal o.proposed (map (frame_meant f.version) f.coming) o.stand };
            told_frames = λ number tracked live is. f.told_frames number tracked (sym t.live ∙ live) is;
            numbered = λ number above. f.numbered number (subst (λ (n : ℕ). n < number) t.attempts above);
            flies = λ number waits one live is found. f.flies number waits one (sym t.live ∙ live) is found;
            attends = λ number one found. attends_as f.version f.coming number (told number) one.attempt (f.attends number one found);
          }

  module _ {H : Type 0} (function : H → Handler) (next : Handler) (options : VMOptions) (told : ToldOf) where
    where_follows : (events : List Event) (output : Option Bytes) (held : List (HeldAttempt H)) (o : Option NewInvocation) → FollowsWhere function next options id told events output held o
        → FollowsWhere function next options id told (without_all ids events) output held o
    where_follows events output held None f = f
    where_follows events output held (Some new) f = begun_follows function next options events new told output held f

    other_follows : (s t : Standing) (held : List (HeldAttempt H)) → LeavesOthers ids s t → FollowsTold function next options id told s held → FollowsTold function next options id told t held
    other_follows s t held leaves f =
        into function next options id told t (without_all ids s.events) (s.outputs id) held leaves.events (leaves.outputs id)
        (subst (λ (o : Option NewInvocation). FollowsWhere function next options id told (without_all ids s.events) (s.outputs id) held o) (sym (alike s.events).begun)
        (where_follows s.events (s.outputs id) held (invocation_begun s.events id) f))

-- ---- one that is

module _ {H : Type 0} (function : H → Handler) (next : Handler) (options : VMOptions) (id : Text) (ids : List Text) (e : is_among ids id ≡ true) where
  none_held : (held : List (HeldAttempt H)) (n : ℕ) → held_of (left_of ids None held) id n ≡ None
  none_held held n = by_among (is_among ids id) e (are_let_go ids None held id n)
    where
      by_among : (b : Bool) → b ≡ true → held_of (left_of ids None held) id n ≡ (if b && true then None else held_of held id n) → held_of (left_of ids None held) id n ≡ None
      by_among true is left = left
      by_among false is left = absurd cc

  forgotten_follows : (s t : Standing) (held : List (HeldAttempt H)) → LeavesOthers ids s t → FollowsTold function next options id none_told t (left_of ids None held)
  forgotten_follows s t held leaves =
      into function next options id none_told t (without_all ids s.events) (s.outputs id) (left_of ids None held) leaves.events (leaves.outputs id)
      (subst (λ (o : Option NewInvocation). FollowsWhere function next options id none_told (without_all ids s.events) (s.outputs id) (left_of ids None held) o)
      (sym ((several_forget s.events ids).unknown id e)) (λ n. (none_held held n, refl)))

-- ---- the law

pub forgetting_keeps : {H : Type 0} (function : H → Handler) → ForgettingKeeps function
forgetting_keeps {H} function next options id ids s t held told leaves f = by_among (is_among ids id) refl
  where
    by_among : (b : Bool) → is_among ids id ≡ b → FollowsTold function next options id (if b then none_told else told) t (left_of ids None held)
    by_among true e = forgotten_follows function next options id ids e s t held leaves
    by_among false e =
        letting_go_keeps function next options id t held told ids None (other_follows id ids e function next options told s t held leaves f)
