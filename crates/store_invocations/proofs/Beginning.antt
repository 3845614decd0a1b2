-- What is recorded of an invocation that is just begun.
use Rattle.std.proofs.Common.{◌≡◌, refl, sym, ap, ◌∙◌, true≢false, arith, ℕ, ◌+◌, ◌==◌, Bool, true, false, not, ◌&&◌, ◌||◌, if◌then◌else◌, List, [], ◌∷◌, ◌++◌, append-nil, zero-add, length, filter, filter_map, Option, Some, None, is_some, option_map, option_and_then, unwrap_or, bytes_eq, drop, Result, Ok, Err}
use Rattle.std.specs.List.{AllByRecursion, list_any, find}
use Rattle.std.proofs.lemmas.Bool.{ne_eqb}
use Rattle.journal_model.specs.Notification.{Text}
use Rattle.journal_model.specs.State.{StateMap}
use Rattle.journal_model.specs.declared.invocation.NewInvocation.{NewInvocation}
use Rattle.journal_model.specs.Event.{Frame, Event}
use Rattle.journal_model.specs.Journal.{Entry, is_of, closes, frame_of, frames_of, is_open, closing_frame, version_of, object_of, invocation_begun, entries_added, entries_from, entries_of, starting_state, arrivals_in, requests_in}
use Rattle.journal_model.specs.Attempt.{begins_attempt, attempts_begun, suspension_in, suspension_of, is_woken}
use Rattle.journal_model.specs.Start.{is_some_entry, moment_begun, begun_since_entry, attempts_since_entry}
use Rattle.journal_model.specs.Cause.{causes_of, IsAccepted, is_empty, last_completion, those_that_hold}
use Rattle.journal_laws.proofs.ObjectState.{begin_when_new, begun_before, no_entries, none_of, open_when_accepted}
use Rattle.protocol_types.specs.declared.version.Version.{Version}
use Rattle.protocol_types.specs.Version.{version_number}
use Rattle.store_tables.specs.declared.row.InvocationRow.{InvocationRow}
use Rattle.store_tables.specs.declared.row.Write.{Write}
use Rattle.store_tables.specs.declared.row.Write.TheVariants.{AddInvocation, AddEntry}
use Rattle.due_laws.specs.AwakeNotes.{heard_in, heard_of, or_zero}
use Rattle.store_model.specs.Places.{handed_in, handed_of}
use Rattle.store_model.specs.Progress.{first_item, number_or_zero, payload_of_suspension, way_closed, error_in, last_output, progress_of}
use Rattle.store_model.specs.KeptRecords.{input_row, invocation_row, is_shown_whole, version_kept}
use Rattle.store_model.proofs.Versions.{kept_of}
use Rattle.store_model.specs.Writes.{begin_writes, state_writes, writes_of}
use Rattle.store_model.proofs.Lists.{filter_nothing}
use Rattle.store_model.proofs.Same.{both_same}
use Rattle.store_model.proofs.States.{itself}
use Rattle.store_refusals.specs.declared.refusal.Refusal.{Refusal}
use Rattle.store_refusals.specs.Preparations.{Prepares}
use Rattle.store_invocations.specs.Rows.{Decides}
use Rattle.store_invocations.specs.NewInvocations.{first_progress, first_row, first_writes, id_tests, input_tests, is_nameless, object_tests}
use Rattle.store_invocations.proofs.Refusing.{none_of_both, refused_later}

-- ---- an invocation that was not begun has no events

abbrev AllOther : Text → List Event → Type 0
AllOther id events = AllByRecursion (λ (event : Event). is_of id event ≡ false) events

all_other : (id : Text) (events : List Event) → IsAccepted events → invocation_begun events id ≡ None → AllOther id events
all_other id [] accepted none = tt
all_other id (Event.Invoke new ∷ earlier) accepted none = by_test (bytes_eq new.id id) refl none (all_other id earlier accepted.1)
  where
    by_test : (b : Bool) → bytes_eq new.id id ≡ b → (if b then Some new else invocation_begun earlier id) ≡ None
        → (invocation_begun earlier id ≡ None → AllOther id earlier) → (bytes_eq new.id id ≡ false) × AllOther id earlier
    by_test true e none later = cc
    by_test false e none later = (e, later none)
all_other id (event ∷ earlier) accepted none =
    by_test (is_of id event) refl (all_other id earlier accepted.1 not_begun)
  where
    not_begun : invocation_begun earlier id ≡ None
    not_begun = sym (begun_before event earlier id refl) ∙ none

    not_open : is_open earlier id ≡ false
    not_open = ap (λ (o : Option NewInvocation). is_some o && not (list_any (closes (unwrap_or (option_map (λ (new : NewInvocation). new.version) o) 0)) (frames_of earlier id))) not_begun

    by_test : (b : Bool) → is_of id event ≡ b → AllOther id earlier → (is_of id event ≡ false) × AllOther id earlier
    by_test true e later = absurd (true≢false (sym (open_when_accepted earlier event id refl e accepted.0) ∙ not_open))
    by_test false e later = (e, later)

-- ---- so nothing was done

pub no_frames_of : (id : Text) (events : List Event) → IsAccepted events → invocation_begun events id ≡ None → frames_of events id ≡ []
no_frames_of id events accepted none =
    ap (λ (own : List Event). filter_map frame_of own) (filter_nothing (is_of id) events (all_other id events accepted none))

begins_none : (event : Event) (id : Text) → is_of id event ≡ false → begins_attempt id event ≡ false
begins_none (Event.Begin other now) id e = e
begins_none _ id e = refl

no_attempts : (id : Text) (events : List Event) → AllOther id events → attempts_begun events id ≡ 0
no_attempts id [] all = refl
no_attempts id (event ∷ earlier) all = rw (begins_none event id all.0) (zero-add (attempts_begun earlier id) ∙ no_attempts id earlier all.1)

suspends_none : (event : Event) (id : Text) → is_of id event ≡ false → suspension_in id event ≡ None
suspends_none (Event.Move other attempt (Frame.Suspend suspension)) id e = rw e refl
suspends_none _ id e = refl

no_suspension : (id : Text) (events : List Event) → AllOther id events → suspension_of events id ≡ None
no_suspension id [] all = refl
no_suspension id (event ∷ earlier) all = rw (begins_none event id all.0, suspends_none event id all.0) (no_suspension id earlier all.1)

hands_none : (earlier : List Event) (event : Event) (id : Text) → is_of id event ≡ false → handed_in earlier id event ≡ None
hands_none earlier (Event.Move other attempt frame) id e = rw e refl
hands_none earlier _ id e = refl

none_handed : (id : Text) (events : List Event) → AllOther id events → handed_of events id ≡ None
none_handed id [] all = refl
none_handed id (event ∷ earlier) all = rw (begins_none event id all.0, hands_none earlier event id all.0) (none_handed id earlier all.1)

tells_none : (earlier : List Event) (event : Event) (id : Text) → is_of id event ≡ false → heard_in earlier id event ≡ None
tells_none earlier (Event.Move other attempt frame) id e = rw e refl
tells_none earlier _ id e = refl

none_heard : (id : Text) (events : List Event) → AllOther id events → heard_of events id ≡ None
none_heard id [] all = refl
none_heard id (event ∷ earlier) all = rw (begins_none event id all.0, tells_none earlier event id all.0) (none_heard id earlier all.1)

no_moments : (start : StateMap) (id : Text) (events : List Event) → AllOther id events → begun_since_entry start events id ≡ []
no_moments start id [] all = refl
no_moments start id (event ∷ earlier) all =
    let added = is_some_entry (entries_added start earlier id event (entries_from start earlier id)) in
    (λ i. if added then [] else (no_moments start id earlier all.1 i ++ (if all.0 i then moment_begun event else [])))
    ∙ both_same {A = List ℕ} added []

-- ---- of the event that begins it

module _ (events : List Event) (new : NewInvocation) (accepted : IsAccepted events) (taken : causes_of events (Event.Invoke new) ≡ []) where
  abbrev after : List Event
  after = Event.Invoke new ∷ events

  not_begun : invocation_begun events new.id ≡ None
  not_begun = none_of (invocation_begun events new.id) (begin_when_new events new taken)

  others : AllOther new.id events
  others = all_other new.id events accepted not_begun

  same : bytes_eq new.id new.id ≡ true
  same = itself new.id

  nothing : filter (is_of new.id) events ≡ []
  nothing = filter_nothing (is_of new.id) events others

  begun : invocation_begun after new.id ≡ Some new
  begun = rw same refl

  no_frames : frames_of after new.id ≡ []
  no_frames = rw (same, nothing) refl

  no_entries_after : entries_of after new.id ≡ []
  no_entries_after =
      ap (λ (more : List Entry). entries_from (starting_state after new.id) events new.id ++ more) (both_same {A = List Entry} (is_of new.id (Event.Invoke new) || false) [])
      ∙ append-nil (entries_from (starting_state after new.id) events new.id)
      ∙ no_entries (starting_state after new.id) events accepted new.id not_begun

  is_open_after : is_open after new.id ≡ true
  is_open_after =
      ap (λ (o : Option NewInvocation). is_some o && not (list_any (closes (unwrap_or (option_map (λ (n : NewInvocation). n.version) o) 0)) (frames_of after new.id))) begun
      ∙ ap (λ (frames : List Frame). not (list_any (closes new.version) frames)) no_frames

  no_moments_after : attempts_since_entry after new.id ≡ []
  no_moments_after =
      λ i. if is_some_entry (both_same {A = List Entry} (is_of new.id (Event.Invoke new) || false) [] i) then []
      else (no_moments (starting_state after new.id) new.id events others i ++ both_same {A = List ℕ} (is_of new.id (Event.Invoke new)) [] i)

  first_object : (if is_open after new.id then option_map (λ (n : NewInvocation). n.object) (invocation_begun after new.id) else None) ≡ Some new.object
  first_object = rw (is_open_after, begun) refl

  progress_is : progress_of after new.id ≡ first_progress new
  progress_is = λ i. record {
    open_object = first_object i;
    suspension = option_map payload_of_suspension (no_suspension new.id events others i);
    handed = none_handed new.id events others i;
    closing = option_map way_closed (option_and_then closing_frame (find (closes (version_of after new.id)) (no_frames i)));
    answer = last_output (requests_in (no_entries_after i));
    last_error = first_item (filter_map error_in (no_frames i));
    attempts = (zero-add (attempts_begun events new.id) ∙ no_attempts new.id events others) i;
    attempts_since_entry = length (no_moments_after i);
    first_moment = number_or_zero (first_item (no_moments_after i));
    last_completion = last_completion (requests_in (no_entries_after i));
    entries = 1 + length (no_entries_after i);
    heard = none_heard new.id events others i;
    arrivals = length (arrivals_in (no_entries_after i));
    is_awake = is_open_after i && is_woken (drop (or_zero (none_heard new.id events others i)) (arrivals_in (no_entries_after i))) (no_suspension new.id events others i);
  }

  pub first_row_is : invocation_row (Event.Invoke new ∷ events) new ≡ first_row (version_kept new.version) new
  first_row_is = λ i. record {
    id = new.id;
    object = new.object;
    version = version_kept new.version;
    seed = new.seed;
    is_whole = is_shown_whole new.state;
    progress = progress_is i;
  }

  no_state : (object : Option Text) → state_writes object [] ≡ []
  no_state None = refl
  no_state (Some object) = refl

  pub writes_are : writes_of events (Event.Invoke new) ≡ first_writes (version_kept new.version) new
  writes_are =
      ap (λ (writes : List Write). begin_writes events (Event.Invoke new) ++ writes) (no_state (object_of events (Event.Invoke new)))
      ∙ ap (λ (row : InvocationRow). AddInvocation row ∷ AddEntry (input_row new) ∷ []) first_row_is

-- ---- the whole call

pub prepared_by : (events : List Event) (new : NewInvocation) → IsAccepted events → those_that_hold (object_tests events new) ≡ [] → those_that_hold (id_tests events new) ≡ []
    → (version : Version) → version_number version ≡ new.version
    → {A : Type 0} (items : A → List Write) (r : Result A Refusal) → Decides (input_tests new) (λ writes. items writes ≡ first_writes version new) r
    → Prepares events (Event.Invoke new) (λ writes. items writes ≡ writes_of events (Event.Invoke new)) r
prepared_by events new accepted free fresh version told items (Ok writes) made =
    let taken = none_of_both (object_tests events new) (id_tests events new ++ input_tests new) free (none_of_both (id_tests events new) (input_tests new) fresh made.0) in
    (taken, made.1 ∙ ap (λ (v : Version). first_writes v new) (sym (kept_of version) ∙ ap version_kept told) ∙ sym (writes_are events new accepted taken))
prepared_by events new accepted free fresh version told items (Err why) refused =
    refused_later (object_tests events new) (id_tests events new ++ input_tests new) why free (refused_later (id_tests events new) (input_tests new) why fresh refused)

empty_is : {A : Type 0} (xs : List A) → (length xs == 0) ≡ is_empty xs
empty_is [] = refl
empty_is (x ∷ xs) = ne_eqb (length (x ∷ xs)) 0 (λ e. absurd (omega (arith, e)))

pub nameless_is : (new : NewInvocation) → is_nameless new ≡ (is_empty new.id || is_empty new.object)
nameless_is new = λ i. empty_is new.id i || empty_is new.object i
