-- What an event makes of how far its invocation is.
use Rattle.std.proofs.Common.{ℕ, suc, ◌+◌, max, zero-add, arith, ◌==◌, ◌≡◌, refl, sym, ap, subst, ◌∙◌, inr, Bool, true, false, ◌&&◌, not, if◌then◌else◌, List, [], ◌∷◌, ◌++◌, append-nil, length, length-append, map, filter, filter_map, Option, Some, None, is_some, option_map, bytes_eq}
use Rattle.std.specs.List.{cons_option}
use Rattle.std.proofs.lemmas.List.Elements.{filter_map-append}
use Rattle.std.proofs.lemmas.Bool.{ne_eqb}
use Rattle.std.proofs.lemmas.Slice.Eq.{bytes_eq-Decides}
use Rattle.journal_model.specs.Notification.{Bytes, Text, Arrival, cancel_id}
use Rattle.journal_model.specs.declared.notification.NotificationResult.{NotificationResult}
use Rattle.journal_model.specs.Value.{result_of_value}
use Rattle.journal_model.specs.Request.{Request, completions_asked}
use Rattle.journal_model.specs.State.{StateMap, state_after}
use Rattle.journal_model.specs.declared.invocation.NewInvocation.{NewInvocation}
use Rattle.journal_model.specs.Event.{Retry, Pause, Fail, Suspension, Frame, Event}
use Rattle.journal_model.specs.Journal.{Entry, Recorded, Arrived, completion, id_of_signal, is_of, is_tick, invoked_by, begins, invocation_begun, version_of, starting_state, frame_of, frames_of, is_open, requests_in, read_answer, slept, entries_of, entries_from, entries_of_event, entries_added, arrivals_in}
use Rattle.journal_model.specs.Attempt.{attempts_begun, or_before, suspension_of}
use Rattle.journal_model.specs.Start.{is_some_entry, moment_begun, begun_since_entry, attempts_since_entry}
use Rattle.journal_model.specs.Cause.{is_empty, greatest, last_completion}
use Rattle.journal_laws.proofs.ObjectState.{begun_before, requests_in-append}
use Rattle.protocol_types.specs.declared.feature.Feature.TheVariants as features
use Rattle.protocol_types.specs.Feature.{has_feature}
use Rattle.store_tables.specs.declared.row.Closing.{Closing}
use Rattle.store_tables.specs.declared.row.LastError.{LastError}
use Rattle.store_tables.specs.declared.row.Progress.{Progress}
use Rattle.store_tables.specs.declared.row.Closing.TheVariants.{Ended, Failed}
use Rattle.due_laws.specs.AwakeNotes.{or_kept, heard_of, is_awake_kept, Noted, noted_of}
use Rattle.store_model.specs.Places.{handed_place, handed_of}
use Rattle.store_model.specs.Progress.{first_item, or_last, last_of, number_or_zero, payload_of_suspension, way_closed, output_payload, last_output, progress_of}
use Rattle.due_laws.specs.Awake.{is_still}
use Rattle.store_model.proofs.Same.{both_same, opened, closed_by, error_of, same_progress, nothing_added}
use Rattle.store_model.specs.Steps.{noted_into, grown, answers_at_once, payload_or, after_command, after_begin, suspended_or, progress_after_frame, after_event, ProgressFollows, ProgressTicks}

-- a progress by what it is read off
abbrev progress_with : Noted → Option Text → Option Closing → Option LastError → Option Bytes → Option ℕ → ℕ → List ℕ → List Entry → Progress
progress_with noted object closing error suspension handed attempts moments entries = record {
  open_object = object;
  suspension = suspension;
  handed = handed;
  closing = closing;
  answer = last_output (requests_in entries);
  last_error = error;
  attempts = attempts;
  attempts_since_entry = length moments;
  first_moment = number_or_zero (first_item moments);
  last_completion = last_completion (requests_in entries);
  entries = 1 + length entries;
  heard = noted.heard;
  arrivals = length (arrivals_in entries);
  is_awake = noted.is_awake;
}

begins_none : (event : Event) (id : Text) → invoked_by event ≡ None → begins id event ≡ false
begins_none (Event.Invoke new) id e = cc
begins_none _ id e = refl

abbrev object_if : Option NewInvocation → List Frame → Option Text
object_if o frames = if opened o frames then option_map (λ (new : NewInvocation). new.object) o else None

abbrev way : Option NewInvocation → List Frame → Option Closing
way o frames = option_map way_closed (closed_by o frames)

-- an event of the invocation, or a tick: by its frames, and by what it adds to the entries
module _ (events : List Event) (event : Event) (id : Text) (e : invoked_by event ≡ None) (frames : List Frame) (are : frames_of (event ∷ events) id ≡ frames) (more : List Entry)
    (added : entries_added (starting_state events id) events id event (entries_of events id) ≡ more) where
  start_now : starting_state (event ∷ events) id ≡ starting_state events id
  start_now = rw (begins_none event id e) refl

  begun_now : invocation_begun (event ∷ events) id ≡ invocation_begun events id
  begun_now = begun_before event events id e

  entries_now : entries_of (event ∷ events) id ≡ entries_of events id ++ more
  entries_now =
      ap (λ (start : StateMap). entries_from start (event ∷ events) id) start_now
      ∙ ap (λ (some : List Entry). entries_of events id ++ some) added

  moments_now : attempts_since_entry (event ∷ events) id
      ≡ (if is_some_entry more then [] else attempts_since_entry events id ++ (if is_of id event then moment_begun event else []))
  moments_now =
      ap (λ (start : StateMap). begun_since_entry start (event ∷ events) id) start_now
      ∙ ap (λ (some : List Entry). if is_some_entry some then [] else attempts_since_entry events id ++ (if is_of id event then moment_begun event else [])) added

  progress_now : progress_of (event ∷ events) id
      ≡ progress_with (noted_of (event ∷ events) id) (object_if (invocation_begun events id) frames) (way (invocation_begun events id) frames) (error_of frames)
      (option_map payload_of_suspension (suspension_of (event ∷ events) id)) (handed_of (event ∷ events) id) (attempts_begun (event ∷ events) id)
      (if is_some_entry more then [] else attempts_since_entry events id ++ (if is_of id event then moment_begun event else []))
      (entries_of events id ++ more)
  progress_now = λ i. progress_with (noted_of (event ∷ events) id) (object_if (begun_now i) (are i)) (way (begun_now i) (are i)) (error_of (are i))
      (option_map payload_of_suspension (suspension_of (event ∷ events) id)) (handed_of (event ∷ events) id) (attempts_begun (event ∷ events) id)
      (moments_now i) (entries_now i)

itself : (id : Text) → bytes_eq id id ≡ true
itself id = (bytes_eq-Decides id id).1 refl

-- ---- entries that are added

longer : (xs ys : List Entry) → 1 + length (xs ++ ys) ≡ (1 + length xs) + length ys
longer xs ys = let all = length-append xs ys in omega arith

completion_more : (xs ys : List Request) → last_completion (xs ++ ys) ≡ max (last_completion xs) (last_completion ys)
completion_more [] ys = zero_max (last_completion ys)
  where
    zero_max : (n : ℕ) → n ≡ max 0 n
    zero_max n = omega arith
completion_more (x ∷ xs) ys = ap (max (greatest (completions_asked x))) (completion_more xs ys) ∙ twice (greatest (completions_asked x)) (last_completion xs) (last_completion ys)
  where
    twice : (a b c : ℕ) → max a (max b c) ≡ max (max a b) c
    twice a b c = omega arith

last_more : (xs : List Bytes) (o : Option Bytes) → last_of (xs ++ cons_option o []) ≡ payload_or o (last_of xs)
last_more xs None = ap last_of (append-nil xs)
last_more [] (Some y) = refl
last_more (x ∷ xs) (Some y) = ap (or_last x) (last_more xs (Some y))

pub arrived_more : (xs ys : List Entry) → length (arrivals_in (xs ++ ys)) ≡ length (arrivals_in xs) + length (arrivals_in ys)
arrived_more [] ys = sym (zero-add (length (arrivals_in ys)))
arrived_more (Recorded request ∷ xs) ys = arrived_more xs ys
arrived_more (Arrived arrival ∷ xs) ys = let later = arrived_more xs ys in omega (arith, later)

all_arrived : (entries : List Entry) → requests_in entries ≡ [] → length (arrivals_in entries) ≡ length entries
all_arrived [] none = refl
all_arrived (Recorded request ∷ entries) none = absurd cc
all_arrived (Arrived arrival ∷ entries) none = ap suc (all_arrived entries none)

-- arrivals alone
only_arrivals : (noted : Noted) (object : Option Text) (closing : Option Closing) (error : Option LastError) (suspension : Option Bytes) (handed : Option ℕ) (attempts : ℕ) (moments : List ℕ)
    (entries more : List Entry) → requests_in more ≡ []
    → progress_with noted object closing error suspension handed attempts [] (entries ++ more)
    ≡ grown (length more) (length more) (progress_with noted object closing error suspension handed attempts moments entries)
only_arrivals noted object closing error suspension handed attempts moments entries more none =
    let same : requests_in (entries ++ more) ≡ requests_in entries =
    requests_in-append entries more ∙ ap (λ (rest : List Request). requests_in entries ++ rest) none ∙ append-nil (requests_in entries) in
    let arrived_now : length (arrivals_in (entries ++ more)) ≡ length (arrivals_in entries) + length more =
    arrived_more entries more ∙ ap (λ (n : ℕ). length (arrivals_in entries) + n) (all_arrived more none) in
    λ i. record {
      open_object = object;
      suspension = suspension;
      handed = handed;
      closing = closing;
      answer = last_output (same i);
      last_error = error;
      attempts = attempts;
      attempts_since_entry = 0;
      first_moment = 0;
      last_completion = last_completion (same i);
      entries = longer entries more i;
      heard = noted.heard;
      arrivals = arrived_now i;
      is_awake = noted.is_awake;
    }

-- a request, with what answers it at once
with_request : (noted : Noted) (object : Option Text) (closing : Option Closing) (error : Option LastError) (suspension : Option Bytes) (handed : Option ℕ) (attempts : ℕ) (moments : List ℕ)
    (entries more : List Entry) (request : Request) → requests_in more ≡ request ∷ [] → length more ≡ 1 + answers_at_once request → length (arrivals_in more) ≡ answers_at_once request
    → progress_with noted object closing error suspension handed attempts [] (entries ++ more)
    ≡ after_command request (progress_with noted object closing error suspension handed attempts moments entries)
with_request noted object closing error suspension handed attempts moments entries more request one count arrived =
    let same : requests_in (entries ++ more) ≡ requests_in entries ++ request ∷ [] =
    requests_in-append entries more ∙ ap (λ (rest : List Request). requests_in entries ++ rest) one in
    let answer_now : last_output (requests_in (entries ++ more)) ≡ payload_or (output_payload request) (last_output (requests_in entries)) =
    ap last_output same ∙ ap last_of (filter_map-append output_payload (requests_in entries) (request ∷ [])) ∙ last_more (filter_map output_payload (requests_in entries)) (output_payload request) in
    let greatest_now : last_completion (requests_in (entries ++ more)) ≡ max (last_completion (requests_in entries)) (greatest (completions_asked request)) =
    ap last_completion same ∙ completion_more (requests_in entries) (request ∷ []) ∙ ap (max (last_completion (requests_in entries))) (max_zero (greatest (completions_asked request))) in
    let entries_now : 1 + length (entries ++ more) ≡ (1 + length entries) + (1 + answers_at_once request) =
    longer entries more ∙ ap (λ (n : ℕ). (1 + length entries) + n) count in
    let arrived_now : length (arrivals_in (entries ++ more)) ≡ length (arrivals_in entries) + answers_at_once request =
    arrived_more entries more ∙ ap (λ (n : ℕ). length (arrivals_in entries) + n) arrived in
    λ i. record {
      open_object = object;
      suspension = suspension;
      handed = handed;
      closing = closing;
      answer = answer_now i;
      last_error = error;
      attempts = attempts;
      attempts_since_entry = 0;
      first_moment = 0;
      last_completion = greatest_now i;
      entries = entries_now i;
      heard = noted.heard;
      arrivals = arrived_now i;
      is_awake = noted.is_awake;
    }
  where
    max_zero : (n : ℕ) → max n 0 ≡ n
    max_zero n = omega arith

answers_counted : (state : StateMap) (request : Request) → length (Recorded request ∷ map Arrived (read_answer state request)) ≡ 1 + answers_at_once request
answers_counted state (Request.GetLazyState key n name) = omega arith
answers_counted state (Request.GetLazyStateKeys n name) = omega arith
answers_counted state _ = omega arith

answers_arrived : (state : StateMap) (request : Request) → length (arrivals_in (Recorded request ∷ map Arrived (read_answer state request))) ≡ answers_at_once request
answers_arrived state (Request.GetLazyState key n name) = omega arith
answers_arrived state (Request.GetLazyStateKeys n name) = omega arith
answers_arrived state _ = omega arith

no_requests : (arrivals : List Arrival) → requests_in (map Arrived arrivals) ≡ []
no_requests [] = refl
no_requests (arrival ∷ arrivals) = no_requests arrivals

-- ---- each event

mine_added : (events : List Event) (event : Event) (id : Text) → is_of id event ≡ true
    → entries_added (starting_state events id) events id event (entries_of events id) ≡ entries_of_event (starting_state events id) (entries_of events id) event
mine_added events event id mine = rw mine refl

mine_frames : (events : List Event) (event : Event) (id : Text) → is_of id event ≡ true → frames_of (event ∷ events) id ≡ cons_option (frame_of event) (frames_of events id)
mine_frames events event id mine = ap (λ (b : Bool). filter_map frame_of (if b then event ∷ filter (is_of id) events else filter (is_of id) events)) mine

-- an arrival of its own, by an event of which no frame tells anything
follows_arrival : (events : List Event) (event : Event) (id : Text) (arrival : Arrival) → invoked_by event ≡ None → is_of id event ≡ true
    → object_if (invocation_begun events id) (cons_option (frame_of event) (frames_of events id)) ≡ object_if (invocation_begun events id) (frames_of events id)
    → way (invocation_begun events id) (cons_option (frame_of event) (frames_of events id)) ≡ way (invocation_begun events id) (frames_of events id)
    → error_of (cons_option (frame_of event) (frames_of events id)) ≡ error_of (frames_of events id)
    → entries_of_event (starting_state events id) (entries_of events id) event ≡ Arrived arrival ∷ []
    → attempts_begun (event ∷ events) id ≡ attempts_begun events id → suspension_of (event ∷ events) id ≡ suspension_of events id → handed_of (event ∷ events) id ≡ handed_of events id
    → progress_of (event ∷ events) id ≡ grown 1 1 (noted_into (noted_of (event ∷ events) id) (progress_of events id))
follows_arrival events event id arrival e mine object closing error adds attempts suspension handed =
    progress_now events event id e (cons_option (frame_of event) (frames_of events id)) (mine_frames events event id mine) (Arrived arrival ∷ []) (mine_added events event id mine ∙ adds)
    ∙ (λ i. progress_with (noted_of (event ∷ events) id) (object i) (closing i) (error i)
    (option_map payload_of_suspension (suspension i)) (handed i) (attempts i) [] (entries_of events id ++ Arrived arrival ∷ []))
    ∙ only_arrivals (noted_of (event ∷ events) id) (object_if (invocation_begun events id) (frames_of events id)) (way (invocation_begun events id) (frames_of events id)) (error_of (frames_of events id))
    (option_map payload_of_suspension (suspension_of events id)) (handed_of events id) (attempts_begun events id) (attempts_since_entry events id) (entries_of events id) (Arrived arrival ∷ []) refl

follows_command : (events : List Event) (id : Text) (attempt : ℕ) (request : Request)
    → progress_of (Event.Move id attempt (Frame.Command request) ∷ events) id
    ≡ after_command request (noted_into (noted_of (Event.Move id attempt (Frame.Command request) ∷ events) id) (progress_of events id))
follows_command events id attempt request =
    let event = Event.Move id attempt (Frame.Command request) in
    let more = entries_of_event (starting_state events id) (entries_of events id) event in
    progress_now events event id refl (Frame.Command request ∷ frames_of events id) (mine_frames events event id (itself id)) more (mine_added events event id (itself id))
    ∙ (λ i. progress_with (noted_of (event ∷ events) id) (object_if (invocation_begun events id) (frames_of events id)) (way (invocation_begun events id) (frames_of events id)) (error_of (frames_of events id))
    (option_map payload_of_suspension (suspension_of events id)) (handed i) (zero-add (attempts_begun events id) i) [] (entries_of events id ++ more))
    ∙ with_request (noted_of (event ∷ events) id) (object_if (invocation_begun events id) (frames_of events id)) (way (invocation_begun events id) (frames_of events id)) (error_of (frames_of events id))
    (option_map payload_of_suspension (suspension_of events id)) (handed_of events id) (attempts_begun events id) (attempts_since_entry events id) (entries_of events id) more request
    (ap (λ (rest : List Request). request ∷ rest) (no_requests (read_answer (state_after (requests_in (entries_of events id)) (starting_state events id)) request)))
    (answers_counted (state_after (requests_in (entries_of events id)) (starting_state events id)) request)
    (answers_arrived (state_after (requests_in (entries_of events id)) (starting_state events id)) request)
  where
    handed : handed_of (Event.Move id attempt (Frame.Command request) ∷ events) id ≡ handed_of events id
    handed = ap (λ (o : Option ℕ). or_kept o (handed_of events id)) (both_same (bytes_eq id id) None)

-- a frame that ends the attempt, or the invocation: no entries are added
follows_end : (events : List Event) (id : Text) (attempt : ℕ) (frame : Frame) (object : Option Text) (closing : Option Closing) (error : Option LastError)
    (suspension : Option Bytes) (handed : Option ℕ)
    → entries_of_event (starting_state events id) (entries_of events id) (Event.Move id attempt frame) ≡ []
    → object_if (invocation_begun events id) (frame ∷ frames_of events id) ≡ object → way (invocation_begun events id) (frame ∷ frames_of events id) ≡ closing
    → error_of (frame ∷ frames_of events id) ≡ error
    → option_map payload_of_suspension (suspension_of (Event.Move id attempt frame ∷ events) id) ≡ suspension
    → handed_of (Event.Move id attempt frame ∷ events) id ≡ handed
    → progress_of (Event.Move id attempt frame ∷ events) id
    ≡ record (noted_into (noted_of (Event.Move id attempt frame ∷ events) id) (progress_of events id)) {
      open_object = object;
      closing = closing;
      last_error = error;
      suspension = suspension;
      handed = handed;
    }
follows_end events id attempt frame object closing error suspension handed none a b c d f =
    progress_now events (Event.Move id attempt frame) id refl (frame ∷ frames_of events id) (mine_frames events (Event.Move id attempt frame) id (itself id)) []
    (mine_added events (Event.Move id attempt frame) id (itself id) ∙ none)
    ∙ (λ i. progress_with (noted_of (Event.Move id attempt frame ∷ events) id) (a i) (b i) (c i) (d i) (f i) (zero-add (attempts_begun events id) i) (moments i) (append-nil (entries_of events id) i))
  where
    moments : (attempts_since_entry events id ++ (if is_of id (Event.Move id attempt frame) then [] else [])) ≡ attempts_since_entry events id
    moments = ap (λ (more : List ℕ). attempts_since_entry events id ++ more) (both_same (bytes_eq id id) []) ∙ append-nil (attempts_since_entry events id)

and_false : (a : Bool) (x : Option Text) → (if a && false then x else None) ≡ None
and_false true x = refl
and_false false x = refl

handed_here : (events : List Event) (id : Text) (attempt : ℕ) (o : Option ℕ) → or_kept (if bytes_eq id id then o else None) (handed_of events id) ≡ or_kept o (handed_of events id)
handed_here events id attempt o = ap (λ (b : Bool). or_kept (if b then o else None) (handed_of events id)) (itself id)

suspended_here : (events : List Event) (id : Text) (suspension : Option Suspension)
    → option_map payload_of_suspension (or_before (if bytes_eq id id then suspension else None) (suspension_of events id))
    ≡ suspended_or suspension (option_map payload_of_suspension (suspension_of events id))
suspended_here events id None = ap (λ (o : Option Suspension). option_map payload_of_suspension (or_before o (suspension_of events id))) (both_same (bytes_eq id id) None)
suspended_here events id (Some suspension) =
    ap (λ (b : Bool). option_map payload_of_suspension (or_before (if b then Some suspension else None) (suspension_of events id))) (itself id)

follows_failure : (events : List Event) (id : Text) (attempt code : ℕ) (message : Text) (delay : Option ℕ) (b : Bool) → has_feature (version_of events id) features.ErrorBehavior ≡ b
    → progress_of (Event.Move id attempt (Frame.Error code message Fail delay) ∷ events) id
    ≡ record (noted_into (noted_of (Event.Move id attempt (Frame.Error code message Fail delay) ∷ events) id) (progress_of events id)) {
      last_error = Some (record { code = code; behavior = 2; delay = delay; message = message });
      open_object = if b then None else (progress_of events id).open_object;
      closing = if b then Some Failed else (progress_of events id).closing;
    }
follows_failure events id attempt code message delay b e =
    follows_end events id attempt (Frame.Error code message Fail delay)
    (if b then None else object_if (invocation_begun events id) (frames_of events id)) (if b then Some Failed else way (invocation_begun events id) (frames_of events id))
    (Some (record { code = code; behavior = 2; delay = delay; message = message }))
    (option_map payload_of_suspension (suspension_of events id)) (handed_of events id)
    refl (object b e) (closing b e) refl refl (handed_here events id attempt None)
  where
    object : (b : Bool) → has_feature (version_of events id) features.ErrorBehavior ≡ b
        → object_if (invocation_begun events id) (Frame.Error code message Fail delay ∷ frames_of events id)
        ≡ (if b then None else object_if (invocation_begun events id) (frames_of events id))
    object true e = rw e (and_false (is_some (invocation_begun events id)) (option_map (λ (new : NewInvocation). new.object) (invocation_begun events id)))
    object false e = rw e refl

    closing : (b : Bool) → has_feature (version_of events id) features.ErrorBehavior ≡ b
        → way (invocation_begun events id) (Frame.Error code message Fail delay ∷ frames_of events id)
        ≡ (if b then Some Failed else way (invocation_begun events id) (frames_of events id))
    closing true e = rw e refl
    closing false e = rw e refl

-- what is noted stays with the progress
noted_stays : (events : List Event) (event : Event) (id : Text) → progress_of (event ∷ events) id ≡ progress_of events id
    → progress_of (event ∷ events) id ≡ noted_into (noted_of (event ∷ events) id) (progress_of events id)
noted_stays events event id e =
    e ∙ (ap (λ (p : Progress). noted_into (record { heard = p.heard; arrivals = p.arrivals; is_awake = p.is_awake }) (progress_of events id)) (sym e))

same_still : (events : List Event) (event : Event) (id : Text) → is_tick event ≡ false → is_still event ≡ true
    → progress_of (event ∷ events) id ≡ noted_into (noted_of (event ∷ events) id) (progress_of events id)
same_still events event id still quiet =
    noted_stays events event id
    (same_progress events event id (inr quiet) (nothing_added (starting_state events id) events event id (entries_of events id) still (inr quiet)))

follows_frame : (events : List Event) (id : Text) (attempt : ℕ) (frame : Frame)
    → progress_of (Event.Move id attempt frame ∷ events) id
    ≡ progress_after_frame (version_of events id) (handed_place events id) frame (noted_into (noted_of (Event.Move id attempt frame ∷ events) id) (progress_of events id))
follows_frame events id attempt (Frame.Command request) = follows_command events id attempt request
follows_frame events id attempt (Frame.RunOutcome n value is_acknowledged) =
    follows_arrival events (Event.Move id attempt (Frame.RunOutcome n value is_acknowledged)) id (completion n (result_of_value value)) refl (itself id) refl refl refl refl
    (zero-add (attempts_begun events id)) refl (handed_here events id attempt None)
follows_frame events id attempt (Frame.Suspend suspension) =
    follows_end events id attempt (Frame.Suspend suspension) (object_if (invocation_begun events id) (frames_of events id)) (way (invocation_begun events id) (frames_of events id))
    (error_of (frames_of events id)) (suspended_or suspension (option_map payload_of_suspension (suspension_of events id))) (Some (handed_place events id))
    refl refl refl refl (suspended_here events id suspension) (handed_here events id attempt (Some (handed_place events id)))
follows_frame events id attempt Frame.End =
    follows_end events id attempt Frame.End None (Some Ended) (error_of (frames_of events id)) (option_map payload_of_suspension (suspension_of events id)) (Some (handed_place events id))
    refl (and_false (is_some (invocation_begun events id)) (option_map (λ (new : NewInvocation). new.object) (invocation_begun events id))) refl refl refl
    (handed_here events id attempt (Some (handed_place events id)))
follows_frame events id attempt (Frame.Error code message Fail delay) = follows_failure events id attempt code message delay (has_feature (version_of events id) features.ErrorBehavior) refl
follows_frame events id attempt (Frame.Error code message Retry delay) =
    follows_end events id attempt (Frame.Error code message Retry delay) (object_if (invocation_begun events id) (frames_of events id)) (way (invocation_begun events id) (frames_of events id))
    (Some (record { code = code; behavior = 0; delay = delay; message = message })) (option_map payload_of_suspension (suspension_of events id)) (handed_of events id)
    refl refl refl refl refl (handed_here events id attempt None)
follows_frame events id attempt (Frame.Error code message Pause delay) =
    follows_end events id attempt (Frame.Error code message Pause delay) (object_if (invocation_begun events id) (frames_of events id)) (way (invocation_begun events id) (frames_of events id))
    (Some (record { code = code; behavior = 1; delay = delay; message = message })) (option_map payload_of_suspension (suspension_of events id)) (handed_of events id)
    refl refl refl refl refl (handed_here events id attempt None)
follows_frame events id attempt (Frame.AwaitingOn awaited) = same_still events (Event.Move id attempt (Frame.AwaitingOn awaited)) id refl refl
follows_frame events id attempt Frame.Broken = same_still events (Event.Move id attempt Frame.Broken) id refl refl
follows_frame events id attempt Frame.TooDeep = same_still events (Event.Move id attempt Frame.TooDeep) id refl refl
follows_frame events id attempt Frame.NotAccepted = same_still events (Event.Move id attempt Frame.NotAccepted) id refl refl

-- a begin
first_push : (ns : List ℕ) (now : ℕ) → number_or_zero (first_item (ns ++ now ∷ [])) ≡ (if length ns == 0 then now else number_or_zero (first_item ns))
first_push [] now = refl
first_push (n ∷ ns) now = sym (ap (λ (b : Bool). if b then now else n) (ne_eqb (suc (length ns)) 0 (λ e. absurd (apart (length ns) e))))
  where
    apart : (n : ℕ) → suc n ≡ 0 → ⊥
    apart n e = omega arith

follows_begin : (events : List Event) (id : Text) (now : ℕ)
    → progress_of (Event.Begin id now ∷ events) id ≡ after_begin now (noted_into (noted_of (Event.Begin id now ∷ events) id) (progress_of events id))
follows_begin events id now =
    progress_now events (Event.Begin id now) id refl (frames_of events id) (mine_frames events (Event.Begin id now) id (itself id)) [] (mine_added events (Event.Begin id now) id (itself id))
    ∙ (λ i. progress_with (noted_of (Event.Begin id now ∷ events) id) (object_if (invocation_begun events id) (frames_of events id)) (way (invocation_begun events id) (frames_of events id)) (error_of (frames_of events id))
    (suspension i) (handed i) (attempts i) (moments i) (append-nil (entries_of events id) i))
    ∙ (λ i. record {
      open_object = object_if (invocation_begun events id) (frames_of events id);
      suspension = None;
      handed = None;
      closing = way (invocation_begun events id) (frames_of events id);
      answer = last_output (requests_in (entries_of events id));
      last_error = error_of (frames_of events id);
      attempts = 1 + attempts_begun events id;
      attempts_since_entry = length-append (attempts_since_entry events id) (now ∷ []) i;
      first_moment = first_push (attempts_since_entry events id) now i;
      last_completion = last_completion (requests_in (entries_of events id));
      entries = 1 + length (entries_of events id);
      heard = heard_of (Event.Begin id now ∷ events) id;
      arrivals = length (arrivals_in (entries_of events id));
      is_awake = is_awake_kept (Event.Begin id now ∷ events) id;
    })
  where
    suspension : option_map payload_of_suspension (suspension_of (Event.Begin id now ∷ events) id) ≡ None
    suspension = rw (itself id) refl

    handed : handed_of (Event.Begin id now ∷ events) id ≡ None
    handed = rw (itself id) refl

    attempts : attempts_begun (Event.Begin id now ∷ events) id ≡ 1 + attempts_begun events id
    attempts = rw (itself id) refl

    moments : (attempts_since_entry events id ++ (if is_of id (Event.Begin id now) then now ∷ [] else [])) ≡ attempts_since_entry events id ++ now ∷ []
    moments = ap (λ (b : Bool). attempts_since_entry events id ++ (if b then now ∷ [] else [])) (itself id)

same_text : (x y : Text) → Some x ≡ Some y → x ≡ y
same_text x y e = cc

abbrev FollowsAt : List Event → Event → Text → Type 0
FollowsAt events event id = progress_of (event ∷ events) id ≡ after_event events event (noted_into (noted_of (event ∷ events) id) (progress_of events id))

pub follows : ProgressFollows
follows events (Event.Invoke new) id named e = cc
follows events (Event.Tick now) id named e = cc
follows events (Event.Edit object request) id named e = cc
follows events (Event.Result x n result) id named e =
    subst (FollowsAt events (Event.Result x n result)) (same_text x id named)
    (follows_arrival events (Event.Result x n result) x (completion n result) refl (itself x) refl refl refl refl (zero-add (attempts_begun events x)) refl refl)
follows events (Event.Signal x key result) id named e =
    subst (FollowsAt events (Event.Signal x key result)) (same_text x id named)
    (follows_arrival events (Event.Signal x key result) x (record { id = id_of_signal key; result = result }) refl (itself x) refl refl refl refl (zero-add (attempts_begun events x)) refl refl)
follows events (Event.Cancel x) id named e =
    subst (FollowsAt events (Event.Cancel x)) (same_text x id named)
    (follows_arrival events (Event.Cancel x) x (record { id = cancel_id; result = NotificationResult.Void }) refl (itself x) refl refl refl refl (zero-add (attempts_begun events x)) refl refl)
follows events (Event.Begin x now) id named e = subst (FollowsAt events (Event.Begin x now)) (same_text x id named) (follows_begin events x now)
follows events (Event.Feed x attempt most) id named e = same_still events (Event.Feed x attempt most) id refl refl
follows events (Event.Close x attempt) id named e = same_still events (Event.Close x attempt) id refl refl
follows events (Event.Move x attempt frame) id named e =
    subst
    (λ (y : Text). progress_of (Event.Move x attempt frame ∷ events) y
    ≡ progress_after_frame (version_of events x) (handed_place events x) frame (noted_into (noted_of (Event.Move x attempt frame ∷ events) y) (progress_of events y))) (same_text x id named)
    (follows_frame events x attempt frame)
follows events (Event.Stop x attempt) id named e = same_still events (Event.Stop x attempt) id refl refl

-- ---- a tick

tick_moments : (arrivals : List Arrival) (ns : List ℕ) → is_empty arrivals ≡ false → (if is_some_entry (map Arrived arrivals) then [] else ns) ≡ []
tick_moments [] ns e = cc
tick_moments (arrival ∷ arrivals) ns e = refl

both_parts : (a b : Bool) → (a && not b) ≡ true → (a ≡ true) × (b ≡ false)
both_parts true true e = cc
both_parts true false e = (refl, refl)
both_parts false b e = cc

length-arrived : (arrivals : List Arrival) → length (map Arrived arrivals) ≡ length arrivals
length-arrived [] = refl
length-arrived (arrival ∷ arrivals) = ap suc (length-arrived arrivals)

pub ticks : ProgressTicks
ticks events now id e =
    let (opened_now, some) = both_parts (is_open events id) (is_empty (slept (entries_of events id) now)) e in
    let arrivals = slept (entries_of events id) now in
    let more = map Arrived (slept (entries_of events id) now) in
    progress_now events (Event.Tick now) id refl (frames_of events id) refl more (ap (λ (b : Bool). if b then map Arrived (slept (entries_of events id) now) else []) opened_now)
    ∙ (λ i. progress_with (noted_of (Event.Tick now ∷ events) id) (object_if (invocation_begun events id) (frames_of events id)) (way (invocation_begun events id) (frames_of events id)) (error_of (frames_of events id))
    (option_map payload_of_suspension (suspension_of events id)) (handed_of events id) (zero-add (attempts_begun events id) i)
    (tick_moments arrivals (attempts_since_entry events id ++ []) some i) (entries_of events id ++ more))
    ∙ only_arrivals (noted_of (Event.Tick now ∷ events) id) (object_if (invocation_begun events id) (frames_of events id)) (way (invocation_begun events id) (frames_of events id)) (error_of (frames_of events id))
    (option_map payload_of_suspension (suspension_of events id)) (handed_of events id) (attempts_begun events id) (attempts_since_entry events id) (entries_of events id) more
    (no_requests arrivals)
    ∙ ap (λ (n : ℕ). grown n n (noted_into (noted_of (Event.Tick now ∷ events) id) (progress_of events id))) (length-arrived arrivals)
