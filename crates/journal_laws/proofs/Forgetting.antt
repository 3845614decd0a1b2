-- What is left once an invocation is forgotten.
use Rattle.std.proofs.Common.{true≢false, ◌≡◌, refl, sym, ap, ap₂, subst, ◌∙◌, ℕ, Bool, true, false, not, ◌&&◌, ◌||◌, if◌then◌else◌, List, [], ◌∷◌, ◌++◌, map, filter, filter_map, Option, Some, None, is_some, option_map, option_and_then, bytes_eq}
use Rattle.std.specs.List.{list_any, list_all, find}
use Rattle.std.specs.Str.{is_utf8}
use Rattle.std.proofs.lemmas.Slice.Eq.{bytes_eq-Decides}
use Rattle.journal_model.specs.Notification.{Text}
use Rattle.journal_model.specs.Request.{Request}
use Rattle.journal_model.specs.State.{StateMap, state_after}
use Rattle.journal_model.specs.declared.invocation.NewInvocation.{NewInvocation}
use Rattle.journal_model.specs.Event.{Frame, Event}
use Rattle.journal_model.specs.Spelling.{input_payload}
use Rattle.protocol_types.specs.Version.{is_unsupported}
use Rattle.journal_model.specs.declared.cause.Cause.{Cause}
use Rattle.journal_model.specs.Cause.{Tests, those_that_hold, tests_of, own_tests, causes_of, IsAccepted, is_empty, is_too_long, places_used_up, tick_uses_up, keys_of}
use Rattle.journal_model.specs.Journal.{Entry, entries_of, entries_of_event, is_open, is_busy, invocation_of, is_text, is_of, is_tick, view_of, invoked_by, invocation_begun, frame_of, request_of_frame, object_of, requests_for, edits_of, object_state, begins, starting_state}
use Rattle.journal_model.specs.Forgetting.{edits, left_of, without, ForgetsOne}
use Rattle.journal_laws.proofs.Isolation.{invocation_begun-view, IsToldAlike, told_alike}
use Rattle.journal_laws.proofs.Refusing.{first_cause, refused_alike}
use Rattle.journal_laws.proofs.ObjectState.{own_edits_none, begin_when_free, begin_when_new, holds-head, holds-tail, tail_of, find-passes, open_alone, open_when_accepted}

pub flip : (a b : Text) → bytes_eq a b ≡ false → bytes_eq b a ≡ false
flip a b e = by_cases (bytes_eq b a) refl
  where
    by_cases : (c : Bool) → bytes_eq b a ≡ c → c ≡ false
    by_cases true f = absurd (true≢false (sym ((bytes_eq-Decides a b).1 (sym ((bytes_eq-Decides b a).0 f))) ∙ e))
    by_cases false f = refl

nothing : (b : Bool) → ◌≡◌ {A = List Request} (if b then [] else []) []
nothing true = refl
nothing false = refl

pub no_tick : (id : Text) (event : Event) → is_of id event ≡ true → is_tick event ≡ false
no_tick id (Event.Tick now) e = cc
no_tick id event e = refl

edits_nil : (o : Option Text) → edits o [] ≡ []
edits_nil None = refl
edits_nil (Some object) = refl

-- edits are of no invocation's view, begin none, and change one object's state
edits_unseen : (other : Text) (o : Option Text) (requests : List Request) (more : List Event) → view_of other (edits o requests ++ more) ≡ view_of other more
edits_unseen other None requests more = refl
edits_unseen other (Some object) [] more = refl
edits_unseen other (Some object) (request ∷ requests) more = edits_unseen other (Some object) requests more

edits_begin_none : (id : Text) (o : Option Text) (requests : List Request) (more : List Event) → invocation_begun (edits o requests ++ more) id ≡ invocation_begun more id
edits_begin_none id None requests more = refl
edits_begin_none id (Some object) [] more = refl
edits_begin_none id (Some object) (request ∷ requests) more = edits_begin_none id (Some object) requests more

edits_start_none : (id : Text) (o : Option Text) (requests : List Request) (more : List Event) → starting_state (edits o requests ++ more) id ≡ starting_state more id
edits_start_none id None requests more = refl
edits_start_none id (Some object) [] more = refl
edits_start_none id (Some object) (request ∷ requests) more = edits_start_none id (Some object) requests more

edits_change : (object : Text) (o : Option Text) (frame : Option Frame) (more : List Event)
    → object_state (edits o (request_of_frame frame) ++ more) object ≡ state_after (if is_text object o then request_of_frame frame else []) (object_state more object)
edits_change object None frame more = refl
edits_change object (Some other) None more = ap (λ (requests : List Request). state_after requests (object_state more object)) (sym (nothing (bytes_eq other object)))
edits_change object (Some other) (Some (Frame.Command request)) more = refl
edits_change object (Some other) (Some frame) more = ap (λ (requests : List Request). state_after requests (object_state more object)) (sym (nothing (bytes_eq other object)))

module _ (id : Text) where
  -- an event of the forgotten one is none of another
  pub different : (other : Text) → bytes_eq id other ≡ false → (o : Option Text) → is_text id o ≡ true → is_text other o ≡ false
  different other d None e = cc
  different other d (Some x) e = ap (λ (y : Text). bytes_eq y other) ((bytes_eq-Decides x id).0 e) ∙ d

  pub same_views : (other : Text) → bytes_eq id other ≡ false → (events : List Event) → view_of other (without id events) ≡ view_of other events
  same_views other d [] = refl
  same_views other d (event ∷ earlier) = by_cases (is_of id event) refl (same_views other d earlier)
    where
      by_cases : (b : Bool) → is_of id event ≡ b → view_of other (without id earlier) ≡ view_of other earlier
          → view_of other ((if b then edits (object_of earlier event) (request_of_frame (frame_of event)) else event ∷ []) ++ without id earlier)
          ≡ (if is_of other event || is_tick event then event ∷ view_of other earlier else view_of other earlier)
      by_cases true e h =
          edits_unseen other (object_of earlier event) (request_of_frame (frame_of event)) (without id earlier)
          ∙ h
          ∙ sym (ap₂ (λ (a b : Bool). if a || b then event ∷ view_of other earlier else view_of other earlier) (different other d (invocation_of event) e) (no_tick id event e))
      by_cases false e h = ap (λ (rest : List Event). if is_of other event || is_tick event then event ∷ rest else rest) h

  pub same_begun : (other : Text) → bytes_eq id other ≡ false → (events : List Event) → invocation_begun (without id events) other ≡ invocation_begun events other
  same_begun other d events =
      sym (invocation_begun-view other (without id events))
      ∙ ap (λ (view : List Event). invocation_begun view other) (same_views other d events)
      ∙ invocation_begun-view other events

  object_same : (events : List Event) (o : Option Text) → is_text id o ≡ false
      → option_and_then (λ (x : Text). option_map (λ (new : NewInvocation). new.object) (invocation_begun (without id events) x)) o
      ≡ option_and_then (λ (x : Text). option_map (λ (new : NewInvocation). new.object) (invocation_begun events x)) o
  object_same events None e = refl
  object_same events (Some x) e = ap (λ (o : Option NewInvocation). option_map (λ (new : NewInvocation). new.object) o) (same_begun x (flip x id e) events)

  edits_own : (event : Event) (object : Text) → is_of id event ≡ true → edits_of object event ≡ []
  edits_own event object e = own_edits_none event id object (ap (λ (b : Bool). b || is_tick event) e)

  pub same_states : (events : List Event) (object : Text) → object_state (without id events) object ≡ object_state events object
  same_states [] object = refl
  same_states (event ∷ earlier) object = by_cases (is_of id event) refl (same_states earlier object)
    where
      by_cases : (b : Bool) → is_of id event ≡ b → object_state (without id earlier) object ≡ object_state earlier object
          → object_state ((if b then edits (object_of earlier event) (request_of_frame (frame_of event)) else event ∷ []) ++ without id earlier) object
          ≡ state_after (edits_of object event) (state_after (requests_for object earlier event) (object_state earlier object))
      by_cases true e h =
          edits_change object (object_of earlier event) (frame_of event) (without id earlier)
          ∙ ap (state_after (requests_for object earlier event)) h
          ∙ sym (ap (λ (requests : List Request). state_after requests (state_after (requests_for object earlier event) (object_state earlier object))) (edits_own event object e))
      by_cases false e h =
          ap₂ (λ (o : Option Text) (state : StateMap). state_after (edits_of object event) (state_after (if is_text object o then request_of_frame (frame_of event) else []) state))
          (object_same earlier (invocation_of event) e) h

  pub same_starts : (other : Text) → bytes_eq id other ≡ false → (events : List Event) → starting_state (without id events) other ≡ starting_state events other
  same_starts other d [] = refl
  same_starts other d (Event.Invoke new ∷ earlier) = by_cases (bytes_eq new.id id) refl (same_starts other d earlier)
    where
      by_cases : (b : Bool) → bytes_eq new.id id ≡ b → starting_state (without id earlier) other ≡ starting_state earlier other
          → starting_state ((if b then edits (object_of earlier (Event.Invoke new)) [] else Event.Invoke new ∷ []) ++ without id earlier) other
          ≡ (if bytes_eq new.id other then object_state earlier new.object else starting_state earlier other)
      by_cases true e h =
          edits_start_none other (object_of earlier (Event.Invoke new)) [] (without id earlier)
          ∙ h
          ∙ sym (ap (λ (b : Bool). if b then object_state earlier new.object else starting_state earlier other) (different other d (Some new.id) e))
      by_cases false e h = ap₂ (λ (one two : StateMap). if bytes_eq new.id other then one else two) (same_states earlier new.object) h
  same_starts other d (event ∷ earlier) = by_cases (is_of id event) (same_starts other d earlier)
    where
      by_cases : (b : Bool) → starting_state (without id earlier) other ≡ starting_state earlier other
          → starting_state ((if b then edits (object_of earlier event) (request_of_frame (frame_of event)) else event ∷ []) ++ without id earlier) other
          ≡ starting_state (event ∷ earlier) other
      by_cases true h = edits_start_none other (object_of earlier event) (request_of_frame (frame_of event)) (without id earlier) ∙ h
      by_cases false h = h

  pub not_known : (events : List Event) → invocation_begun (without id events) id ≡ None
  not_known [] = refl
  not_known (Event.Invoke new ∷ earlier) = by_cases (bytes_eq new.id id) refl (not_known earlier)
    where
      by_cases : (b : Bool) → bytes_eq new.id id ≡ b → invocation_begun (without id earlier) id ≡ None
          → invocation_begun ((if b then edits (object_of earlier (Event.Invoke new)) [] else Event.Invoke new ∷ []) ++ without id earlier) id ≡ None
      by_cases true e h = edits_begin_none id (object_of earlier (Event.Invoke new)) [] (without id earlier) ∙ h
      by_cases false e h = rw e h
  not_known (event ∷ earlier) = by_cases (is_of id event) (not_known earlier)
    where
      by_cases : (b : Bool) → invocation_begun (without id earlier) id ≡ None
          → invocation_begun ((if b then edits (object_of earlier event) (request_of_frame (frame_of event)) else event ∷ []) ++ without id earlier) id ≡ None
      by_cases true h = edits_begin_none id (object_of earlier event) (request_of_frame (frame_of event)) (without id earlier) ∙ h
      by_cases false h = h

-- ---- what is left was accepted

no_first : (causes : List Cause) → first_cause causes ≡ None → causes ≡ []
no_first [] e = refl
no_first (cause ∷ causes) e = cc

pub or_false : (a b : Bool) → (a || b) ≡ false → (a ≡ false) × (b ≡ false)
or_false true b e = cc
or_false false b e = (refl, e)

edits_make_none : (o : Option Text) (requests : List Request) (more : List Event) → filter_map invoked_by (edits o requests ++ more) ≡ filter_map invoked_by more
edits_make_none None requests more = refl
edits_make_none (Some object) [] more = refl
edits_make_none (Some object) (request ∷ requests) more = edits_make_none (Some object) requests more

-- what is so of no invocation by the events that began it is so of none among those that were begun
each_begun : (p : NewInvocation → Bool) (events : List Event) → IsAccepted events → ((new : NewInvocation) → invocation_begun events new.id ≡ Some new → p new ≡ false)
    → list_any p (filter_map invoked_by events) ≡ false
each_begun p [] accepted each = refl
each_begun p (Event.Invoke new ∷ earlier) accepted each =
    ap₂ (λ (a b : Bool). a || b) (each new itself) (each_begun p earlier accepted.1 (λ other is. each other (by_cases other (bytes_eq new.id other.id) refl is)))
  where
    itself : (if bytes_eq new.id new.id then Some new else invocation_begun earlier new.id) ≡ Some new
    itself = ap (λ (b : Bool). if b then Some new else invocation_begun earlier new.id) ((bytes_eq-Decides new.id new.id).1 refl)

    by_cases : (other : NewInvocation) (b : Bool) → bytes_eq new.id other.id ≡ b → invocation_begun earlier other.id ≡ Some other
        → (if b then Some new else invocation_begun earlier other.id) ≡ Some other
    by_cases other true e is =
        let known : is_some (invocation_begun earlier new.id) ≡ true = ap (λ (x : Text). is_some (invocation_begun earlier x)) ((bytes_eq-Decides new.id other.id).0 e) ∙ ap (λ (o : Option NewInvocation). is_some o) is in
        absurd (true≢false (sym known ∙ begin_when_new earlier new accepted.0))
    by_cases other false e is = is
each_begun p (event ∷ earlier) accepted each = each_begun p earlier accepted.1 each

module _ (id : Text) where
  told : (events : List Event) (other : Text) → bytes_eq id other ≡ false → IsToldAlike (without id events) events other
  told events other d = told_alike (without id events) events other (same_views id other d events) (same_starts id other d events)

  abbrev pub is_other : NewInvocation → Bool
  is_other new = not (bytes_eq new.id id)

  pub begun_left : (events : List Event) → filter_map invoked_by (without id events) ≡ filter is_other (filter_map invoked_by events)
  begun_left [] = refl
  begun_left (Event.Invoke new ∷ earlier) = by_cases (bytes_eq new.id id) (begun_left earlier)
    where
      by_cases : (b : Bool) → filter_map invoked_by (without id earlier) ≡ filter is_other (filter_map invoked_by earlier)
          → filter_map invoked_by ((if b then edits (object_of earlier (Event.Invoke new)) [] else Event.Invoke new ∷ []) ++ without id earlier)
          ≡ (if not b then new ∷ filter is_other (filter_map invoked_by earlier) else filter is_other (filter_map invoked_by earlier))
      by_cases true h = edits_make_none (object_of earlier (Event.Invoke new)) [] (without id earlier) ∙ h
      by_cases false h = ap (λ (news : List NewInvocation). new ∷ news) h
  begun_left (event ∷ earlier) = by_cases (is_of id event) (begun_left earlier)
    where
      by_cases : (b : Bool) → filter_map invoked_by (without id earlier) ≡ filter is_other (filter_map invoked_by earlier)
          → filter_map invoked_by ((if b then edits (object_of earlier event) (request_of_frame (frame_of event)) else event ∷ []) ++ without id earlier)
          ≡ filter is_other (filter_map invoked_by earlier)
      by_cases true h = edits_make_none (object_of earlier event) (request_of_frame (frame_of event)) (without id earlier) ∙ h
      by_cases false h = h

  -- what held of none holds of none of the others
  fewer : (p q : NewInvocation → Bool) (news : List NewInvocation) → ((new : NewInvocation) → bytes_eq new.id id ≡ false → q new ≡ p new)
      → list_any p news ≡ false → list_any q (filter is_other news) ≡ false
  fewer p q [] same e = refl
  fewer p q (new ∷ news) same e =
      let (here, there) = or_false (p new) (list_any p news) e in
      by_cases (bytes_eq new.id id) refl here (fewer p q news same there)
    where
      by_cases : (b : Bool) → bytes_eq new.id id ≡ b → p new ≡ false → list_any q (filter is_other news) ≡ false
          → list_any q (if not b then new ∷ filter is_other news else filter is_other news) ≡ false
      by_cases true f here h = h
      by_cases false f here h = ap₂ (λ (a b : Bool). a || b) (same new f ∙ here) h

  none_left : (p q : NewInvocation → Bool) (events : List Event) → ((new : NewInvocation) → bytes_eq new.id id ≡ false → q new ≡ p new)
      → list_any p (filter_map invoked_by events) ≡ false → list_any q (filter_map invoked_by (without id events)) ≡ false
  none_left p q events same e = ap (list_any q) (begun_left events) ∙ fewer p q (filter_map invoked_by events) same e

  open_same : (events : List Event) (new : NewInvocation) → bytes_eq new.id id ≡ false → is_open (without id events) new.id ≡ is_open events new.id
  open_same events new d = (told events new.id (flip new.id id d)).openness

  free_left : (events : List Event) (object : Text) → is_busy events object ≡ false → is_busy (without id events) object ≡ false
  free_left events object e =
      none_left (λ new. bytes_eq new.object object && is_open events new.id) (λ new. bytes_eq new.object object && is_open (without id events) new.id) events
      (λ new d. ap (λ (b : Bool). bytes_eq new.object object && b) (open_same events new d)) e

  room_left : (events : List Event) (now : ℕ) → tick_uses_up events now ≡ false → tick_uses_up (without id events) now ≡ false
  room_left events now e =
      none_left
      (λ new. is_open events new.id && places_used_up (entries_of events new.id) (entries_of_event (starting_state events new.id) (entries_of events new.id) (Event.Tick now)))
      (λ new. is_open (without id events) new.id && places_used_up (entries_of (without id events) new.id) (entries_of_event (starting_state (without id events) new.id) (entries_of (without id events) new.id) (Event.Tick now)))
      events (λ new d. same new (told events new.id (flip new.id id d))) e
    where
      same : (new : NewInvocation) → IsToldAlike (without id events) events new.id
          → (is_open (without id events) new.id && places_used_up (entries_of (without id events) new.id) (entries_of_event (starting_state (without id events) new.id) (entries_of (without id events) new.id) (Event.Tick now)))
          ≡ (is_open events new.id && places_used_up (entries_of events new.id) (entries_of_event (starting_state events new.id) (entries_of events new.id) (Event.Tick now)))
      same new t =
          ap (λ (b : Bool). b && places_used_up (entries_of (without id events) new.id) (entries_of_event (starting_state (without id events) new.id) (entries_of (without id events) new.id) (Event.Tick now))) t.openness
          ∙ ap₂ (λ (start : StateMap) (entries : List Entry). is_open events new.id && places_used_up entries (entries_of_event start entries (Event.Tick now))) t.start t.entries

  -- one of another invocation is refused for nothing that it was not refused for before
  own_left : (events : List Event) (event : Event) (other : Text) → invocation_of event ≡ Some other → invoked_by event ≡ None → bytes_eq id other ≡ false
      → causes_of events event ≡ [] → causes_of (without id events) event ≡ []
  own_left events event other own e d causes =
      no_first (causes_of (without id events) event)
      (refused_alike (without id events) events other (told events other d) (λ opened new is. same_states id events new.object) event own e ∙ ap first_cause causes)

  other_left : (events : List Event) (event : Event) → is_of id event ≡ false → causes_of events event ≡ [] → causes_of (without id events) event ≡ []
  other_left events (Event.Invoke new) d causes =
      ap₂ (λ (busy : Bool) (o : Option NewInvocation). those_that_hold ((busy, Cause.ObjectBusy) ∷ (is_empty new.id || is_empty new.object, Cause.EmptyName) ∷ (is_some o, Cause.IdUsed)
      ∷ (is_unsupported new.version, Cause.UnsupportedVersion) ∷ (is_too_long (input_payload new.headers new.input), Cause.PayloadTooLong) ∷ []))
      (free_left events new.object free ∙ sym free) (same_begun id new.id (flip new.id id d) events)
      ∙ causes
    where
      free : is_busy events new.object ≡ false
      free = begin_when_free events new causes
  other_left events (Event.Tick now) d causes =
      ap (λ (b : Bool). those_that_hold ((b, Cause.NumbersUsedUp) ∷ [])) (room_left events now (holds-head (own_tests events (Event.Tick now)) causes))
  other_left events (Event.Edit object request) d causes =
      ap (λ (b : Bool). those_that_hold ((b, Cause.ObjectBusy) ∷ (not (list_all is_utf8 (keys_of request)), Cause.KeyNotText) ∷ [])) (free_left events object free ∙ sym free)
      ∙ causes
    where
      free : is_busy events object ≡ false
      free = holds-head (own_tests events (Event.Edit object request)) causes
  other_left events (Event.Result other n result) d causes = own_left events (Event.Result other n result) other refl refl (flip other id d) causes
  other_left events (Event.Signal other key result) d causes = own_left events (Event.Signal other key result) other refl refl (flip other id d) causes
  other_left events (Event.Cancel other) d causes = own_left events (Event.Cancel other) other refl refl (flip other id d) causes
  other_left events (Event.Begin other now) d causes = own_left events (Event.Begin other now) other refl refl (flip other id d) causes
  other_left events (Event.Feed other attempt most) d causes = own_left events (Event.Feed other attempt most) other refl refl (flip other id d) causes
  other_left events (Event.Close other attempt) d causes = own_left events (Event.Close other attempt) other refl refl (flip other id d) causes
  other_left events (Event.Move other attempt frame) d causes = own_left events (Event.Move other attempt frame) other refl refl (flip other id d) causes
  other_left events (Event.Stop other attempt) d causes = own_left events (Event.Stop other attempt) other refl refl (flip other id d) causes

  -- while it was open no other invocation of its object was, so what it did to the state could have come from outside
  alone : (events : List Event) → IsAccepted events → (new : NewInvocation) → invocation_begun events id ≡ Some new → is_open events id ≡ true → is_busy (without id events) new.object ≡ false
  alone events accepted new is opened =
      none_left (λ other. is_other other && (bytes_eq other.object new.object && is_open events other.id)) (λ other. bytes_eq other.object new.object && is_open (without id events) other.id) events
      (λ other d. ap (λ (b : Bool). bytes_eq other.object new.object && b) (open_same events other d)
      ∙ sym (ap (λ (b : Bool). not b && (bytes_eq other.object new.object && is_open events other.id)) d))
      (each_begun (λ other. is_other other && (bytes_eq other.object new.object && is_open events other.id)) events accepted
      (λ other begun. by_cases other begun (bytes_eq other.id id) refl (bytes_eq other.object new.object) refl (is_open events other.id) refl))
    where
      named : new.id ≡ id
      named = (bytes_eq-Decides new.id id).0 (find-passes (λ other. bytes_eq other.id id) (filter_map invoked_by events) new is)

      by_cases : (other : NewInvocation) → invocation_begun events other.id ≡ Some other → (a : Bool) → bytes_eq other.id id ≡ a → (b : Bool) → bytes_eq other.object new.object ≡ b
          → (c : Bool) → is_open events other.id ≡ c → (not a && (b && c)) ≡ false
      by_cases other begun true e b f c g = refl
      by_cases other begun false e false f c g = refl
      by_cases other begun false e true f false g = refl
      by_cases other begun false e true f true g =
          let own : invocation_begun events new.id ≡ Some new = ap (invocation_begun events) named ∙ is in
          let opened_own : is_open events new.id ≡ true = ap (is_open events) named ∙ opened in
          let same : other.id ≡ new.id = open_alone events accepted other new begun own g opened_own ((bytes_eq-Decides other.object new.object).0 f) in
          absurd (true≢false (sym ((bytes_eq-Decides other.id id).1 (same ∙ named)) ∙ e))

  of_command : (events : List Event) (attempt : ℕ) (request : Request) → causes_of events (Event.Move id attempt (Frame.Command request)) ≡ [] → not (list_all is_utf8 (keys_of request)) ≡ false
  of_command events attempt request causes =
      let tests = tests_of events (Event.Move id attempt (Frame.Command request)) in
      holds-head (tail_of (tail_of (tail_of (tail_of tests))))
      (holds-tail (tail_of (tail_of (tail_of tests))) (holds-tail (tail_of (tail_of tests)) (holds-tail (tail_of tests) (holds-tail tests causes))))

  gone : (events : List Event) (o : Option Text) → IsAccepted (without id events) → IsAccepted (edits o [] ++ without id events)
  gone events o later = subst (λ (some : List Event). IsAccepted (some ++ without id events)) (sym (edits_nil o)) later

  own_gone : (events : List Event) (event : Event) → IsAccepted events → is_of id event ≡ true → causes_of events event ≡ [] → IsAccepted (without id events)
      → IsAccepted (edits (object_of events event) (request_of_frame (frame_of event)) ++ without id events)
  own_gone events (Event.Move other attempt (Frame.Command request)) accepted e causes later =
      by_option (invocation_begun events other) refl
    where
      same : other ≡ id
      same = (bytes_eq-Decides other id).0 e

      by_option : (o : Option NewInvocation) → invocation_begun events other ≡ o
          → IsAccepted (edits (option_map (λ (new : NewInvocation). new.object) o) (request ∷ []) ++ without id events)
      by_option None is = later
      by_option (Some new) is =
          let is_own : invocation_begun events id ≡ Some new = sym (ap (invocation_begun events) same) ∙ is in
          let opened : is_open events id ≡ true = open_when_accepted events (Event.Move other attempt (Frame.Command request)) id refl e causes in
          let causes_own : causes_of events (Event.Move id attempt (Frame.Command request)) ≡ [] = subst (λ (x : Text). causes_of events (Event.Move x attempt (Frame.Command request)) ≡ []) same causes in
          (ap₂ (λ (a b : Bool). those_that_hold ((a, Cause.ObjectBusy) ∷ (b, Cause.KeyNotText) ∷ [])) (alone events accepted new is_own opened) (of_command events attempt request causes_own), later)
  own_gone events (Event.Move other attempt frame) accepted e causes later = gone events (object_of events (Event.Move other attempt frame)) later
  own_gone events event accepted e causes later = gone events (object_of events event) later

  pub still_accepted : (events : List Event) → IsAccepted events → IsAccepted (without id events)
  still_accepted [] accepted = tt
  still_accepted (event ∷ earlier) accepted = by_cases (is_of id event) refl (still_accepted earlier accepted.1)
    where
      by_cases : (b : Bool) → is_of id event ≡ b → IsAccepted (without id earlier)
          → IsAccepted ((if b then edits (object_of earlier event) (request_of_frame (frame_of event)) else event ∷ []) ++ without id earlier)
      by_cases true e later = own_gone earlier event accepted.1 e accepted.0 later
      by_cases false e later = (other_left earlier event e accepted.0, later)

pub forgets : (events : List Event) (id : Text) → ForgetsOne events id
forgets events id = record {
  views = λ other d. same_views id other d events;
  starts = λ other d. same_starts id other d events;
  states = same_states id events;
  unknown = not_known id events;
  accepted = still_accepted id events;
}
