-- The answer of a closed invocation stays until it is forgotten.
use Rattle.std.proofs.Common.{true≢false, ◌≡◌, refl, sym, ap, ap₂, ◌∙◌, Bool, true, false, not, ◌&&◌, if◌then◌else◌, List, [], ◌∷◌, ◌++◌, append-nil, Option, Some, None, is_some, option_map, option_and_then, unwrap_or}
use Rattle.std.specs.List.{list_any, find}
use Rattle.journal_model.specs.Notification.{Text}
use Rattle.journal_model.specs.declared.notification.NotificationResult.{NotificationResult}
use Rattle.journal_model.specs.declared.value.NonEmptyValue.{NonEmptyValue}
use Rattle.journal_model.specs.declared.invocation.NewInvocation.{NewInvocation}
use Rattle.journal_model.specs.Request.{Request}
use Rattle.journal_model.specs.Event.{Frame, Event}
use Rattle.journal_model.specs.Journal.{Entry, is_of, is_tick, begins, invocation_begun, version_of, closes, is_open, frames_of, requests_in, recorded_requests, Closing, closing_frame, closing_of, answer_at_close, recorded_answer}
use Rattle.journal_model.specs.Cause.{causes_of, IsAccepted}
use Rattle.journal_laws.specs.Forgetting.{is_among, without_all}
use Rattle.journal_laws.proofs.Forgetting.{or_false}
use Rattle.journal_laws.proofs.Isolation.{IsToldAlike, frames_of-view}
use Rattle.journal_laws.proofs.ObjectState.{open_when_accepted}
use Rattle.journal_laws.proofs.Leaving.{and-true}
use Rattle.journal_laws.proofs.Several.{several_forget}
use Rattle.input_laws.proofs.Events.{begun_same, requests_now, nothing_added, not_begun, closing_now, frames_other}
use Rattle.delivery_laws.specs.Delivery.{DeliveryRules}
use Rattle.delivery_laws.specs.Log.{Logged, Found, Came, Delivered, Forgot, events_of}
use Rattle.delivery_laws.specs.Posted.{IsPosted}
use Rattle.delivery_laws.specs.Answers.{as_result, is_over, answer_told, is_forgotten}
use Rattle.delivery_laws.proofs.Posted.{posted_accepted, told_others}
use Rattle.delivery_laws.proofs.Rows.{no_not}

abbrev open_as : (begun : Option NewInvocation) (frames : List Frame) → Bool
open_as begun frames = is_some begun && not (list_any (closes (unwrap_or (option_map (λ (new : NewInvocation). new.version) begun) 0)) frames)

module _ (id : Text) where
  -- one that is over has no later event of its own, and does not begin
  begins_none : (event : Event) (events : List Event) → IsAccepted (event ∷ events) → is_some (invocation_begun events id) ≡ true → begins id event ≡ false
  begins_none event events accepted known = by_cases (begins id event) refl
    where
      by_cases : (b : Bool) → begins id event ≡ b → b ≡ false
      by_cases false e = refl
      by_cases true e = absurd (true≢false (sym known ∙ ap (λ (o : Option NewInvocation). is_some o) (not_begun event events id accepted e)))

  own_open : (event : Event) (events : List Event) → begins id event ≡ false → is_of id event ≡ true → causes_of events event ≡ [] → is_open events id ≡ true
  own_open (Event.Invoke new) events e f causes = absurd (true≢false (sym f ∙ e))
  own_open event events e f causes = open_when_accepted events event id refl f causes

  of_others : (event : Event) (events : List Event) → IsAccepted (event ∷ events) → begins id event ≡ false → is_open events id ≡ false → is_of id event ≡ false
  of_others event events accepted old closed = by_cases (is_of id event) refl
    where
      by_cases : (b : Bool) → is_of id event ≡ b → b ≡ false
      by_cases false e = refl
      by_cases true e = absurd (true≢false (sym (own_open event events old e accepted.0) ∙ closed))

  no_tick : (t o : Bool) → o ≡ false → (t && o) ≡ false
  no_tick true o e = e
  no_tick false o e = refl

  told_same : (event : Event) (events : List Event) → begins id event ≡ false → is_of id event ≡ false → is_open events id ≡ false → answer_told (event ∷ events) id ≡ answer_told events id
  told_same event events old other closed =
      let begun = begun_same event events id old in
      let frames = frames_other event events id other in
      let nothing = nothing_added events id event other (no_tick (is_tick event) (is_open events id) closed) in
      let requests : recorded_requests (event ∷ events) id ≡ recorded_requests events id =
      requests_now event events id old ∙ ap (λ (added : List Entry). recorded_requests events id ++ requests_in added) nothing ∙ append-nil (recorded_requests events id) in
      let closing : closing_of (event ∷ events) id ≡ closing_of events id =
      closing_now event events id old ∙ ap (λ (all : List Frame). option_and_then closing_frame (find (closes (version_of events id)) all)) frames in
      let over : is_over (event ∷ events) id ≡ is_over events id =
      ap₂ (λ (o : Option NewInvocation) (all : List Frame). is_some o && not (open_as o all)) begun frames in
      let answer : recorded_answer (event ∷ events) id ≡ recorded_answer events id =
      ap₂ (λ (all : List Request) (c : Option Closing). answer_at_close all c) requests closing in
      ap₂ (λ (b : Bool) (value : Option NonEmptyValue). if b then Some (as_result value) else None) over answer

  told_over : (events : List Event) (result : NotificationResult) → answer_told events id ≡ Some result → is_over events id ≡ true
  told_over events result e = by_cases (is_over events id) e
    where
      by_cases : (b : Bool) → (if b then Some (as_result (recorded_answer events id)) else None) ≡ Some result → b ≡ true
      by_cases true f = refl
      by_cases false f = cc

  told_stays : (more events : List Event) (result : NotificationResult) → IsAccepted (more ++ events) → answer_told events id ≡ Some result
      → answer_told (more ++ events) id ≡ Some result
  told_stays [] events result accepted e = e
  told_stays (event ∷ more) events result accepted e =
      let before : answer_told (more ++ events) id ≡ Some result = told_stays more events result accepted.1 e in
      let over = and-true (is_some (invocation_begun (more ++ events) id)) (not (is_open (more ++ events) id)) (told_over (more ++ events) result before) in
      let old = begins_none event (more ++ events) accepted over.0 in
      let closed = no_not (is_open (more ++ events) id) over.1 in
      told_same event (more ++ events) old (of_others event (more ++ events) accepted old closed) closed ∙ before

  -- where others are forgotten
  told_left : (ids : List Text) (events : List Event) → is_among ids id ≡ false → answer_told (without_all ids events) id ≡ answer_told events id
  told_left ids events e =
      let t : IsToldAlike (without_all ids events) events id = told_others events ids id e in
      let frames : frames_of (without_all ids events) id ≡ frames_of events id =
      sym (frames_of-view id (without_all ids events)) ∙ ap (λ (view : List Event). frames_of view id) ((several_forget events ids).views id e) ∙ frames_of-view id events in
      let closing : closing_of (without_all ids events) id ≡ closing_of events id =
      ap₂ (λ (new : Option NewInvocation) (all : List Frame). option_and_then closing_frame (find (closes (unwrap_or (option_map (λ (one : NewInvocation). one.version) new) 0)) all))
      t.begun frames in
      let answer : recorded_answer (without_all ids events) id ≡ recorded_answer events id =
      ap₂ (λ (requests : List Request) (c : Option Closing). answer_at_close requests c) (ap requests_in t.entries) closing in
      let over : is_over (without_all ids events) id ≡ is_over events id = ap₂ (λ (o : Option NewInvocation) (b : Bool). is_some o && not b) t.begun t.openness in
      ap₂ (λ (b : Bool) (value : Option NonEmptyValue). if b then Some (as_result value) else None) over answer

  none_behind : (later log : List Logged) → later ++ log ≡ [] → log ≡ []
  none_behind [] log e = e
  none_behind (item ∷ later) log e = cc

  -- of no events nothing is told
  none_told : {log : List Logged} {result : NotificationResult} → log ≡ [] → answer_told (events_of log) id ≡ Some result → ⊥
  none_told {log} {result} e f = some_not (sym (ap (λ (l : List Logged). answer_told (events_of l) id) e) ∙ f)
    where
      some_not : ◌≡◌ {A = Option NotificationResult} None (Some result) → ⊥
      some_not e = cc

  pub answers_stay : (rules : DeliveryRules) (later log : List Logged) (result : NotificationResult) → IsPosted rules (later ++ log) → is_forgotten later id ≡ false
      → answer_told (events_of log) id ≡ Some result → answer_told (events_of (later ++ log)) id ≡ Some result
  answers_stay rules [] log result posted f e = e
  answers_stay rules (Found events ∷ later) log result posted f e = absurd (none_told (none_behind later log posted.0.first) e)
  answers_stay rules (Came event ∷ later) log result posted f e =
      told_stays (event ∷ []) (events_of (later ++ log)) result (posted.0.causes, posted_accepted rules (later ++ log) posted.1) (answers_stay rules later log result posted.1 f e)
  answers_stay rules (Delivered row brought ∷ later) log result posted f e =
      told_stays brought (events_of (later ++ log)) result (posted_accepted rules (Delivered row brought ∷ (later ++ log)) posted)
      (answers_stay rules later log result posted.1 f e)
  answers_stay rules (Forgot ids ∷ later) log result posted f e =
      let both = or_false (is_among ids id) (is_forgotten later id) f in
      told_left ids (events_of (later ++ log)) both.0 ∙ answers_stay rules later log result posted.1 both.1 e
