-- What was shown of another invocation still stands once one is forgotten.
use Rattle.std.proofs.Common.{◌≡◌, refl, sym, ap, ap₂, subst, ◌∙◌, ℕ, Bool, true, false, ◌||◌, if◌then◌else◌, List, [], ◌∷◌, ◌++◌, filter_map, take, Option, Some, None, option_map, option_and_then, unwrap_or, bytes_eq}
use Rattle.std.specs.List.{find}
use Rattle.std.proofs.lemmas.Slice.Eq.{bytes_eq-Decides}
use Rattle.journal_model.specs.Notification.{Arrival, Text}
use Rattle.journal_model.specs.declared.value.NonEmptyValue.{NonEmptyValue}
use Rattle.journal_model.specs.Request.{Request}
use Rattle.journal_model.specs.State.{StateMap, state_after}
use Rattle.journal_model.specs.declared.options.RunOptions.{RunOptions}
use Rattle.journal_model.specs.Run.{Handler, Invocation, Ending, Ended, run_requests, IsBeginning}
use Rattle.journal_model.specs.declared.invocation.NewInvocation.{NewInvocation}
use Rattle.journal_model.specs.Event.{Frame, Event}
use Rattle.journal_model.specs.Journal.{Closing, Entry, arrivals_in, requests_in, answer_at_close, closes, closing_frame, closing_of, entries_of, frame_of, frames_of, invocation_begun, invoked_by, is_of, is_open, is_tick, object_of, object_state, recorded_answer, recorded_arrivals, recorded_requests, request_of_frame, starting_state, version_of, view_of, ByEnd}
use Rattle.journal_model.specs.Attempt.{arrivals_within, bytes_handed, input_pieces, Piece}
use Rattle.journal_model.specs.Headline.{FollowsRun, Headline, IsRunAnswer, IsWaiting, IsWholeAlong, IsWholeAt, IsWholeRun, arrivals_handed, run_of}
use Rattle.journal_model.specs.Forgetting.{edits, left_of, without}
use Rattle.journal_laws.proofs.Isolation.{IsToldAlike, frames_of-view, told_alike}
use Rattle.journal_laws.proofs.ObjectState.{find-passes}
use Rattle.journal_laws.proofs.Forgetting.{same_begun, same_starts, same_states, same_views}

pub handed_alike : (events others : List Event) (id : Text) → IsToldAlike events others id → arrivals_handed events id ≡ arrivals_handed others id
handed_alike events others id t =
    ap₂ (λ (n : ℕ) (arrivals : List Arrival). take n arrivals) (ap₂ arrivals_within t.input t.handed) (ap arrivals_in t.entries)

module _ (id other : Text) (d : bytes_eq id other ≡ false) where
  pub told : (events : List Event) → IsToldAlike (without id events) events other
  told events = told_alike (without id events) events other (same_views id other d events) (same_starts id other d events)

  told_one_more : (event : Event) (events : List Event) → invoked_by event ≡ None → starting_state (event ∷ without id events) other ≡ starting_state (event ∷ events) other
      → IsToldAlike (event ∷ without id events) (event ∷ events) other
  told_one_more event events e starts =
      told_alike (event ∷ without id events) (event ∷ events) other
      (ap (λ (rest : List Event). if is_of other event || is_tick event then event ∷ rest else rest) (same_views id other d events)) starts

  pub frames_same : (events : List Event) → frames_of (without id events) other ≡ frames_of events other
  frames_same events =
      sym (frames_of-view other (without id events))
      ∙ ap (λ (view : List Event). frames_of view other) (same_views id other d events)
      ∙ frames_of-view other events

  pub closing_same : (events : List Event) → closing_of (without id events) other ≡ closing_of events other
  closing_same events =
      ap₂ (λ (new : Option NewInvocation) (frames : List Frame). option_and_then closing_frame (find (closes (unwrap_or (option_map (λ (one : NewInvocation). one.version) new) 0)) frames))
      (told events).begun (frames_same events)

  pub answer_same : (events : List Event) → recorded_answer (without id events) other ≡ recorded_answer events other
  answer_same events =
      ap₂ (λ (requests : List Request) (closing : Option Closing). answer_at_close requests closing) (ap requests_in (told events).entries) (closing_same events)

  module _ (handler : Handler) (given : Invocation) where
    whole_run : (IsOver : Ending → Type 0) (some others : List Event) → IsToldAlike some others other
        → IsWholeRun handler given (arrivals_handed others other) (recorded_requests others other) IsOver
        → IsWholeRun handler given (arrivals_handed some other) (recorded_requests some other) IsOver
    whole_run IsOver some others t whole =
        subst (λ (arrivals : List Arrival). IsWholeRun handler given arrivals (recorded_requests some other) IsOver) (sym (handed_alike some others other t))
        (subst (λ (requests : List Request). IsWholeRun handler given (arrivals_handed others other) requests IsOver) (sym (ap requests_in t.entries)) whole)

    whole_at : (event : Event) (earlier : List Event) → IsWholeAt handler given other (event ∷ earlier) → IsWholeAt handler given other (event ∷ without id earlier)
    whole_at (Event.Move x attempt (Frame.Suspend suspension)) earlier whole =
        λ is. whole_run IsWaiting (Event.Move x attempt (Frame.Suspend suspension) ∷ without id earlier) (Event.Move x attempt (Frame.Suspend suspension) ∷ earlier)
        (told_one_more (Event.Move x attempt (Frame.Suspend suspension)) earlier refl (same_starts id other d earlier)) (whole is)
    whole_at (Event.Move x attempt Frame.End) earlier whole =
        λ is. whole_run (λ ending. ending ≡ Ended) (Event.Move x attempt Frame.End ∷ without id earlier) (Event.Move x attempt Frame.End ∷ earlier)
        (told_one_more (Event.Move x attempt Frame.End) earlier refl (same_starts id other d earlier)) (whole is)
    whole_at (Event.Move x attempt frame) earlier whole = tt
    whole_at event earlier whole = tt

    whole_edits : (o : Option Text) (requests : List Request) (more : List Event) → IsWholeAlong handler given other more → IsWholeAlong handler given other (edits o requests ++ more)
    whole_edits None requests more whole = whole
    whole_edits (Some object) [] more whole = whole
    whole_edits (Some object) (request ∷ requests) more whole = (tt, whole_edits (Some object) requests more whole)

    pub whole_along : (events : List Event) → IsWholeAlong handler given other events → IsWholeAlong handler given other (without id events)
    whole_along [] whole = tt
    whole_along (event ∷ earlier) whole = by_cases (is_of id event) (whole_along earlier whole.1)
      where
        by_cases : (b : Bool) → IsWholeAlong handler given other (without id earlier)
            → IsWholeAlong handler given other ((if b then edits (object_of earlier event) (request_of_frame (frame_of event)) else event ∷ []) ++ without id earlier)
        by_cases true later = whole_edits (object_of earlier event) (request_of_frame (frame_of event)) (without id earlier) later
        by_cases false later = (whole_at event earlier whole.0, later)

-- what follows its run still does so
follows_still : (id : Text) (handler : Handler) (given : Invocation) (events : List Event) (new : NewInvocation) → bytes_eq id new.id ≡ false
    → FollowsRun handler given events new → FollowsRun handler given (without id events) new
follows_still id handler given events new d f =
    let t = told id new.id d events in
    let requests : recorded_requests (without id events) new.id ≡ recorded_requests events new.id = ap requests_in t.entries in
    let arrivals : recorded_arrivals (without id events) new.id ≡ recorded_arrivals events new.id = ap arrivals_in t.entries in
    record {
      calls = f.calls;
      beginning =
          subst (λ (some : List Arrival). IsBeginning (recorded_requests (without id events) new.id) (run_requests handler given some f.calls)) (sym arrivals)
          (subst (λ (some : List Request). IsBeginning some (run_requests handler given (recorded_arrivals events new.id) f.calls)) (sym requests) f.beginning);
      whole = whole_along id new.id d handler given events f.whole;
      ended = λ closed.
          subst (λ (some : List Arrival). IsRunAnswer handler given some (recorded_answer (without id events) new.id)) (sym arrivals)
          (subst (λ (answer : Option NonEmptyValue). IsRunAnswer handler given (recorded_arrivals events new.id) answer) (sym (answer_same id new.id d events))
          (f.ended (sym (closing_same id new.id d events) ∙ closed)));
      state = λ opened.
          same_states id events new.object
          ∙ f.state (sym t.openness ∙ opened)
          ∙ sym (ap₂ (λ (some : List Request) (start : StateMap). state_after some start) requests t.start);
    }

pub headline_stays : (handler : Handler) (options : RunOptions) (seed : ℕ) (events : List Event) (id other : Text) → bytes_eq id other ≡ false
    → Headline handler options seed events other → Headline handler options seed (without id events) other
headline_stays handler options seed events id other d headline new is =
    let named : new.id ≡ other = (bytes_eq-Decides new.id other).0 (find-passes (λ one. bytes_eq one.id other) (filter_map invoked_by (without id events)) new is) in
    let apart : bytes_eq id new.id ≡ false = ap (bytes_eq id) named ∙ d in
    subst (λ (start : StateMap). FollowsRun handler (run_of options seed new start) (without id events) new) (sym (same_starts id new.id apart events))
    (follows_still id handler (run_of options seed new (starting_state events new.id)) events new apart (headline new (sym (same_begun id other d events) ∙ is)))
