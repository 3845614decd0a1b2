-- What is noted of another invocation, and what its live attempt knows of its input, is the same once invocations are forgotten.
use Rattle.std.proofs.Common.{◌≡◌, refl, sym, ap, ap₂, ◌∙◌, ℕ, ◌+◌, Bool, true, false, ◌&&◌, if◌then◌else◌, List, [], ◌∷◌, ◌++◌, length, drop, Option, Some, None, option_map, unwrap_or, bytes_eq}
use Rattle.protocol_types.specs.Feature.{has_feature}
use Rattle.protocol_types.specs.declared.feature.Feature.TheVariants.{Acknowledgement}
use Rattle.journal_model.specs.Notification.{Arrival, Text}
use Rattle.journal_model.specs.Request.{Request}
use Rattle.journal_model.specs.State.{StateMap}
use Rattle.journal_model.specs.declared.invocation.NewInvocation.{NewInvocation}
use Rattle.journal_model.specs.Event.{Event, Frame}
use Rattle.journal_model.specs.Journal.{Entry, arrivals_in, entries_from, frame_of, invocation_of, is_of, object_of, request_of_frame, starting_state, version_of}
use Rattle.journal_model.specs.Attempt.{acknowledged, arrivals_within, begins_attempt, is_woken}
use Rattle.journal_model.specs.Forgetting.{edits, without}
use Rattle.journal_laws.specs.Forgetting.{is_among}
use Rattle.journal_laws.proofs.Isolation.{entries_from-view, is_of-begins}
use Rattle.journal_laws.proofs.Forgetting.{different, flip, or_false, same_begun, same_starts, same_views}
use Rattle.journal_laws.proofs.Staying.{told}
use Rattle.journal_laws.proofs.Waking.{arrivals_same, suspension_same}
use Rattle.due_laws.specs.AwakeNotes.{arrivals_heard, heard_at, heard_in, heard_of, is_awake_kept, or_kept, or_zero}
use Rattle.due_laws.specs.Rows.{arrivals_known_from, known_from, outcomes_noted, with_outcome_noted}
use Rattle.due_laws.specs.Forgetting.{KnownAlike, OthersStayKnown}

pub version_same : (id : Text) (events : List Event) (x : Text) → bytes_eq x id ≡ false → version_of (without id events) x ≡ version_of events x
version_same id events x e = ap (λ (new : Option NewInvocation). unwrap_or (option_map (λ (one : NewInvocation). one.version) new) 0) (same_begun id x (flip x id e) events)

-- ---- of one that is forgotten

module _ (id other : Text) (d : bytes_eq id other ≡ false) where
  pub entries_left : (start : StateMap) (events : List Event) → entries_from start (without id events) other ≡ entries_from start events other
  entries_left start events =
      sym (entries_from-view other start (without id events))
      ∙ ap (λ (view : List Event). entries_from start view other) (same_views id other d events)
      ∙ entries_from-view other start events

  pub heard_place_same : (events : List Event) → arrivals_heard (without id events) other ≡ arrivals_heard events other
  heard_place_same events = ap₂ arrivals_within (told id other d events).input (told id other d events).handed

  heard_at_same : (events : List Event) (frame : Frame) → heard_at (without id events) other frame ≡ heard_at events other frame
  heard_at_same events (Frame.Suspend suspension) = ap Some (heard_place_same events)
  heard_at_same events Frame.End = ap Some (heard_place_same events)
  heard_at_same events _ = refl

  heard_in_same : (events : List Event) (event : Event) → heard_in (without id events) other event ≡ heard_in events other event
  heard_in_same events (Event.Move x attempt frame) = ap (λ (o : Option ℕ). if bytes_eq x other then o else None) (heard_at_same events frame)
  heard_in_same events event = refl

  edits_heard : (o : Option Text) (requests : List Request) (more : List Event) → heard_of (edits o requests ++ more) other ≡ heard_of more other
  edits_heard None requests more = refl
  edits_heard (Some object) [] more = refl
  edits_heard (Some object) (request ∷ requests) more = edits_heard (Some object) requests more

  apart_heard : (event : Event) (earlier : List Event) → is_of other event ≡ false → heard_of (event ∷ earlier) other ≡ heard_of earlier other
  apart_heard (Event.Begin x now) earlier e = rw e refl
  apart_heard (Event.Move x attempt frame) earlier e = rw e refl
  apart_heard event earlier e = refl

  pub heard_left : (events : List Event) → heard_of (without id events) other ≡ heard_of events other
  heard_left [] = refl
  heard_left (event ∷ earlier) = by_cases (is_of id event) refl (heard_left earlier)
    where
      by_cases : (b : Bool) → is_of id event ≡ b → heard_of (without id earlier) other ≡ heard_of earlier other
          → heard_of ((if b then edits (object_of earlier event) (request_of_frame (frame_of event)) else event ∷ []) ++ without id earlier) other ≡ heard_of (event ∷ earlier) other
      by_cases true e h =
          edits_heard (object_of earlier event) (request_of_frame (frame_of event)) (without id earlier)
          ∙ h
          ∙ sym (apart_heard event earlier (different id other d (invocation_of event) e))
      by_cases false e h = ap₂ (λ (now before : Option ℕ). if begins_attempt other event then None else or_kept now before) (heard_in_same earlier event) h

  pub awake_left : (events : List Event) → is_awake_kept (without id events) other ≡ is_awake_kept events other
  awake_left events =
      ap₂ (λ (a b : Bool). a && b) (told id other d events).openness
      (ap₂ is_woken (ap₂ (λ (heard : Option ℕ) (arrivals : List Arrival). drop (or_zero heard) arrivals) (heard_left events) (arrivals_same id other d events)) (suspension_same id other d events))

  edits_known : (start : StateMap) (o : Option Text) (requests : List Request) (more : List Event) → known_from start (edits o requests ++ more) other ≡ known_from start more other
  edits_known start None requests more = refl
  edits_known start (Some object) [] more = refl
  edits_known start (Some object) (request ∷ requests) more = edits_known start (Some object) requests more

  known_left : (start : StateMap) (events : List Event) → known_from start (without id events) other ≡ known_from start events other
  known_left start [] = refl
  known_left start (event ∷ earlier) = by_cases (is_of id event) refl (known_left start earlier)
    where
      by_cases : (b : Bool) → is_of id event ≡ b → known_from start (without id earlier) other ≡ known_from start earlier other
          → known_from start ((if b then edits (object_of earlier event) (request_of_frame (frame_of event)) else event ∷ []) ++ without id earlier) other ≡ known_from start (event ∷ earlier) other
      by_cases true e h =
          edits_known start (object_of earlier event) (request_of_frame (frame_of event)) (without id earlier)
          ∙ h
          ∙ sym (ap (λ (b : Bool). if b then 1 + length (entries_from start earlier other) else known_from start earlier other) (is_of-begins other event (different id other d (invocation_of event) e)))
      by_cases false e h =
          ap₂ (λ (entries : List Entry) (known : ℕ). if begins_attempt other event then 1 + length entries else known) (entries_left start earlier) h

  edits_arrived : (start : StateMap) (o : Option Text) (requests : List Request) (more : List Event) → arrivals_known_from start (edits o requests ++ more) other ≡ arrivals_known_from start more other
  edits_arrived start None requests more = refl
  edits_arrived start (Some object) [] more = refl
  edits_arrived start (Some object) (request ∷ requests) more = edits_arrived start (Some object) requests more

  arrived_left : (start : StateMap) (events : List Event) → arrivals_known_from start (without id events) other ≡ arrivals_known_from start events other
  arrived_left start [] = refl
  arrived_left start (event ∷ earlier) = by_cases (is_of id event) refl (arrived_left start earlier)
    where
      by_cases : (b : Bool) → is_of id event ≡ b → arrivals_known_from start (without id earlier) other ≡ arrivals_known_from start earlier other
          → arrivals_known_from start ((if b then edits (object_of earlier event) (request_of_frame (frame_of event)) else event ∷ []) ++ without id earlier) other ≡ arrivals_known_from start (event ∷ earlier) other
      by_cases true e h =
          edits_arrived start (object_of earlier event) (request_of_frame (frame_of event)) (without id earlier)
          ∙ h
          ∙ sym (ap (λ (b : Bool). if b then length (arrivals_in (entries_from start earlier other)) else arrivals_known_from start earlier other) (is_of-begins other event (different id other d (invocation_of event) e)))
      by_cases false e h =
          ap₂ (λ (entries : List Entry) (known : ℕ). if begins_attempt other event then length (arrivals_in entries) else known) (entries_left start earlier) h

  edits_noted : (o : Option Text) (requests : List Request) (more : List Event) → outcomes_noted (edits o requests ++ more) other ≡ outcomes_noted more other
  edits_noted None requests more = refl
  edits_noted (Some object) [] more = refl
  edits_noted (Some object) (request ∷ requests) more = edits_noted (Some object) requests more

  and_false : (b : Bool) (n : ℕ) → ◌≡◌ {A = Option ℕ} (if b && false then Some n else None) None
  and_false true n = refl
  and_false false n = refl

  apart_outcome : (version : ℕ) (event : Event) → is_of other event ≡ false → acknowledged version other event ≡ None
  apart_outcome version (Event.Move x attempt (Frame.RunOutcome completion value true)) e = rw e (and_false (has_feature version Acknowledgement) completion)
  apart_outcome version (Event.Move x attempt frame) e = refl
  apart_outcome version event e = refl

  noted_left : (events : List Event) → outcomes_noted (without id events) other ≡ outcomes_noted events other
  noted_left [] = refl
  noted_left (event ∷ earlier) = by_cases (is_of id event) refl (noted_left earlier)
    where
      by_cases : (b : Bool) → is_of id event ≡ b → outcomes_noted (without id earlier) other ≡ outcomes_noted earlier other
          → outcomes_noted ((if b then edits (object_of earlier event) (request_of_frame (frame_of event)) else event ∷ []) ++ without id earlier) other ≡ outcomes_noted (event ∷ earlier) other
      by_cases true e h =
          edits_noted (object_of earlier event) (request_of_frame (frame_of event)) (without id earlier)
          ∙ h
          ∙ sym (ap₂ (λ (b : Bool) (outcome : Option ℕ). if b then [] else with_outcome_noted outcome (outcomes_noted earlier other))
          (is_of-begins other event (different id other d (invocation_of event) e)) (apart_outcome (version_of earlier other) event (different id other d (invocation_of event) e)))
      by_cases false e h =
          ap₂ (λ (version : ℕ) (noted : List ℕ). if begins_attempt other event then [] else with_outcome_noted (acknowledged version other event) noted)
          (version_same id earlier other (flip id other d)) h

  pub one_alike : (events : List Event) → KnownAlike (without id events) events other
  one_alike events = record {
    noted = λ i. record { heard = heard_left events i; arrivals = length (arrivals_same id other d events i); is_awake = awake_left events i };
    frames = ap (λ (start : StateMap). known_from start (without id events) other) (same_starts id other d events) ∙ known_left (starting_state events other) events;
    arrivals = ap (λ (start : StateMap). arrivals_known_from start (without id events) other) (same_starts id other d events) ∙ arrived_left (starting_state events other) events;
    outcomes = noted_left events;
  }

-- ---- of several

pub others_stay_known : OthersStayKnown
others_stay_known events [] other e = record { noted = refl; frames = refl; arrivals = refl; outcomes = refl }
others_stay_known events (id ∷ ids) other e =
    let apart = or_false (bytes_eq id other) (is_among ids other) e in
    let later = others_stay_known (without id events) ids other apart.1 in
    let first = one_alike id other apart.0 events in
    record {
      noted = later.noted ∙ first.noted;
      frames = later.frames ∙ first.frames;
      arrivals = later.arrivals ∙ first.arrivals;
      outcomes = later.outcomes ∙ first.outcomes;
    }
