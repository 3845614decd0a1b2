-- The state of an object is in order, and its keys are text.
use Rattle.std.proofs.Common.{ℕ, ◌≡◌, refl, Bool, true, false, not, ◌&&◌, T, if◌then◌else◌, List, [], ◌∷◌, filter, is_some, bytes_eq, Less, Equal, Greater}
use Rattle.std.specs.List.{list_all}
use Rattle.std.specs.Str.{is_utf8}
use Rattle.std.specs.FinMap.{is_sorted}
use Rattle.std.specs.FinMap.Entries.{put, by_order}
use Rattle.std.specs.Ordering.{eq_by_cmp}
use Rattle.journal_model.specs.Notification.{Bytes, Text}
use Rattle.journal_model.specs.Request.{Request}
use Rattle.journal_model.specs.State.{StateMap, bytes_cmp, state_change, state_after, IsOrdered}
use Rattle.journal_model.specs.Event.{Event, Frame}
use Rattle.journal_model.specs.Journal.{is_text, object_of, invocation_begun, is_open, requests_for, edits_of, object_state, starting_state}
use Rattle.journal_model.specs.Cause.{Tests, keys_of, own_tests, causes_of}
use Rattle.journal_model.specs.declared.cause.Cause.{Cause}
use Rattle.journal_laws.proofs.Applying.{state_after-ordered}
use Rattle.journal_laws.proofs.ObjectState.{tail_of, holds-head, holds-tail, not-false}
use Rattle.journal_laws.proofs.Leaving.{and-true}
use Rattle.run_laws.specs.Keys.{HasTextKeys, StatesAreOrdered, StartsAreOrdered, StatesHaveTextKeys, StartsHaveTextKeys}

-- ---- in order

holds_true : (b : Bool) → T b → b ≡ true
holds_true true t = refl
holds_true false t = absurd t

ordered : (events : List Event) (object : Text) → T (is_sorted bytes_cmp (object_state events object))
ordered [] object = tt
ordered (event ∷ earlier) object =
    state_after-ordered (edits_of object event) (state_after (requests_for object earlier event) (object_state earlier object))
    (state_after-ordered (requests_for object earlier event) (object_state earlier object) (ordered earlier object))

pub states_ordered : StatesAreOrdered
states_ordered events object = holds_true (is_sorted bytes_cmp (object_state events object)) (ordered events object)

pub starts_ordered : StartsAreOrdered
starts_ordered [] id = refl
starts_ordered (Event.Invoke new ∷ earlier) id = by_id (bytes_eq new.id id) (starts_ordered earlier id)
  where
    by_id : (b : Bool) → IsOrdered (starting_state earlier id) → IsOrdered (if b then object_state earlier new.object else starting_state earlier id)
    by_id true later = states_ordered earlier new.object
    by_id false later = later
starts_ordered (event ∷ earlier) id = starts_ordered earlier id

-- ---- text

text_put : (key value : Bytes) (entries : StateMap) → is_utf8 key ≡ true → HasTextKeys entries → HasTextKeys (put bytes_cmp key value entries)
text_put key value [] e all = (e, tt)
text_put key value (entry ∷ entries) e all =
    elim (bytes_cmp key entry.0) as (λ o. HasTextKeys (by_order o ((key, value) ∷ entry ∷ entries) ((entry.0, value) ∷ entries) (entry ∷ put bytes_cmp key value entries))) [
      | Less ↦ (e, all)
      | Equal ↦ all
      | Greater ↦ (all.0, text_put key value entries e all.1)
    ]

text_filter : (test : Bytes × Bytes → Bool) (entries : StateMap) → HasTextKeys entries → HasTextKeys (filter test entries)
text_filter test [] all = tt
text_filter test (entry ∷ entries) all = by_test (test entry) (text_filter test entries all.1)
  where
    by_test : (b : Bool) → HasTextKeys (filter test entries) → HasTextKeys (if b then entry ∷ filter test entries else filter test entries)
    by_test true later = (all.0, later)
    by_test false later = later

pub text_change : (request : Request) (entries : StateMap) → list_all is_utf8 (keys_of request) ≡ true → HasTextKeys entries → HasTextKeys (state_change request entries)
text_change (Request.SetState key value name) entries e all = text_put key value entries (and-true (is_utf8 key) true e).0 all
text_change (Request.ClearState key name) entries e all = text_filter (λ entry. not (eq_by_cmp bytes_cmp key entry.0)) entries all
text_change (Request.ClearAllState name) entries e all = tt
text_change request entries e all = all

-- the key of a request that was recorded is text
pub text_asked : (earlier : List Event) (id : Text) (attempt : ℕ) (request : Request) → causes_of earlier (Event.Move id attempt (Frame.Command request)) ≡ [] → list_all is_utf8 (keys_of request) ≡ true
text_asked earlier id attempt request causes =
    not-false (list_all is_utf8 (keys_of request))
    (holds-head (tail_of (tail_of tests))
    (holds-tail (tail_of tests) (holds-tail tests
    (holds-tail ((is_some (invocation_begun earlier id) && not (is_open earlier id), Cause.InvocationClosed) ∷ tests)
    (holds-tail ((not (is_some (invocation_begun earlier id)), Cause.UnknownInvocation) ∷ (is_some (invocation_begun earlier id) && not (is_open earlier id), Cause.InvocationClosed) ∷ tests) causes)))))
  where
    tests : Tests
    tests = own_tests earlier (Event.Move id attempt (Frame.Command request))

text_edited : (earlier : List Event) (object : Text) (request : Request) → causes_of earlier (Event.Edit object request) ≡ [] → list_all is_utf8 (keys_of request) ≡ true
text_edited earlier object request causes =
    not-false (list_all is_utf8 (keys_of request)) (holds-head (tail_of tests) (holds-tail tests causes))
  where
    tests : Tests
    tests = own_tests earlier (Event.Edit object request)

pub states_text : StatesHaveTextKeys
states_text [] object accepted = tt
states_text (Event.Move id attempt (Frame.Command request) ∷ earlier) object accepted =
    by_object (is_text object (object_of earlier (Event.Move id attempt (Frame.Command request)))) (states_text earlier object accepted.1)
  where
    by_object : (b : Bool) → HasTextKeys (object_state earlier object) → HasTextKeys (state_after (if b then request ∷ [] else []) (object_state earlier object))
    by_object true later = text_change request (object_state earlier object) (text_asked earlier id attempt request accepted.0) later
    by_object false later = later
states_text (Event.Edit other request ∷ earlier) object accepted = by_object (bytes_eq other object) (states_text earlier object accepted.1)
  where
    by_object : (b : Bool) → HasTextKeys (object_state earlier object) → HasTextKeys (state_after (if b then request ∷ [] else []) (object_state earlier object))
    by_object true later = text_change request (object_state earlier object) (text_edited earlier other request accepted.0) later
    by_object false later = later
states_text (event ∷ earlier) object accepted = by_object (is_text object (object_of earlier event)) (states_text earlier object accepted.1)
  where
    by_object : (b : Bool) → HasTextKeys (object_state earlier object) → HasTextKeys (state_after (if b then [] else []) (object_state earlier object))
    by_object true later = later
    by_object false later = later

pub starts_text : StartsHaveTextKeys
starts_text [] id accepted = tt
starts_text (Event.Invoke new ∷ earlier) id accepted = by_id (bytes_eq new.id id) (starts_text earlier id accepted.1)
  where
    by_id : (b : Bool) → HasTextKeys (starting_state earlier id) → HasTextKeys (if b then object_state earlier new.object else starting_state earlier id)
    by_id true later = states_text earlier new.object accepted.1
    by_id false later = later
starts_text (event ∷ earlier) id accepted = starts_text earlier id accepted.1
