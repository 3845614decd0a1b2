-- What an attempt is begun with can be told to it.
use Rattle.std.proofs.Common.{◌≡◌, ℕ, ◌+◌, ◌-◌, ◌^◌, ◌<◌, ◌≤◌, arith, Bool, true, false, true≢false, not, ◌&&◌, ◌||◌, nat_lt, if◌then◌else◌, List, [], ◌∷◌, ◌++◌, append-nil, length, length-append, map, filter_map, Option, Some, None, bytes_eq, refl, sym, ap, subst, ◌∙◌, find}
use Rattle.std.specs.List.{AllByRecursion, list_any}
use Rattle.std.proofs.lemmas.Bool.{leb-false}
use Rattle.std.proofs.lemmas.List.{length-map}
use Rattle.std.proofs.lemmas.Slice.Eq.{bytes_eq-Decides}
use Rattle.std.proofs.lemmas.Str.{IsUtf8-from_is_utf8}
use Rattle.std.proofs.lemmas.Bool.Decides.{nat_tests}
use Rattle.journal_model.specs.declared.invocation.NewInvocation.{NewInvocation}
use Rattle.journal_model.specs.declared.invocation.StateMode.{StateMode}
use Rattle.journal_model.specs.declared.options.RunOptions.{RunOptions}
use Rattle.journal_model.specs.Notification.{Bytes, Text}
use Rattle.journal_model.specs.State.{StateMap, state_after}
use Rattle.journal_model.specs.Spelling.{frame_bytes}
use Rattle.journal_model.specs.Event.{Event, Frame}
use Rattle.journal_model.specs.Journal.{Entry, Recorded, Arrived, is_of, is_open, begins, invoked_by, invocation_begun, starting_state, object_state, entries_of, entries_from, entries_added, entries_of_event, recorded_requests, slept}
use Rattle.journal_model.specs.Attempt.{begins_attempt, attempts_begun}
use Rattle.journal_model.specs.Request.{Request}
use Rattle.journal_model.specs.Start.{is_some_entry, moment_begun, begun_since_entry, attempts_since_entry, since_first, start_payload, start_payload_for, start_payload_of}
use Rattle.journal_model.specs.Cause.{causes_of, tests_of, is_empty, places_used_up, IsAccepted}
use Rattle.journal_model.specs.Headline.{shown_state}
use Rattle.journal_model.specs.Run.{Handler}
use Rattle.journal_laws.proofs.ObjectState.{tail_of, holds-head, holds-tail, open_when_accepted, state_of_open}
use Rattle.protocol_wire.specs.declared.record.TheConstants.{LEVELS}
use Rattle.protocol_types.specs.declared.message_type.MessageType.TheVariants.{Start}
use Rattle.protocol_records.specs.Start.{StartFits}
use Rattle.protocol_records.specs.StateEntry.{StateEntryFits}
use Rattle.protocol_stream.specs.Records.{state_shown, state_entry_record, start_record}
use Rattle.input_laws.specs.Message.{InputMessage, CarriesInput, message_of, requests_carried}
use Rattle.input_laws.proofs.Events.{itself, added_by, entries_now, entries_first, unborn_open}
use Rattle.input_laws.proofs.Telling.{entries_requests}
use Rattle.run_laws.specs.Keys.{HasTextKeys}
use Rattle.run_laws.proofs.States.{states_ordered, states_text}
use Rattle.live_laws.specs.BegunAttempts.{journal_after}
use Rattle.live_laws.specs.StartFrame.{AttemptStart, ShowsStart, IsBegunAs, start_after}
use Rattle.live_laws.proofs.StartFrame.{start_shows}
use Rattle.vm_input_laws.proofs.Arrivals.{of_asked}
use Rattle.vm_input_laws.specs.MessagesBehindJournal.{MessageFits}
use Rattle.vm_input_laws.specs.InputPhases.{IsEntry}
use Rattle.vm_start.specs.Starts.{AreText}
use Rattle.schedule_laws.specs.EventBounds.{AcceptedFits, EventsFit}
use Rattle.schedule_laws.specs.FittingLaws.{CanStart, AttemptsAreFedWell, AttemptsCanStart}
use Rattle.schedule_laws.proofs.Fits.{EntryFits, entries_fit, invocation_fits, input_short, has_own_id, not_long}

-- ---- its journal

entries_are : (all entries : List Entry) → AllByRecursion IsEntry (map (message_of all) entries)
entries_are all [] = tt
entries_are all (Recorded request ∷ entries) = (tt, entries_are all entries)
entries_are all (Arrived arrival ∷ entries) = (tt, entries_are all entries)

messages_fit : (all entries : List Entry) → AllByRecursion (EntryFits all) entries → AllByRecursion MessageFits (map (message_of all) entries)
messages_fit all [] fit = tt
messages_fit all (Recorded request ∷ entries) fit = (fit.0, messages_fit all entries fit.1)
messages_fit all (Arrived arrival ∷ entries) fit = ((fit.0.fits, of_asked all arrival.id fit.0.asked), messages_fit all entries fit.1)

pub fed_begun : AttemptsAreFedWell
fed_begun options fallback_seed id now events new accepted is typed =
    let entries = entries_of events id in
    record {
      journal = entries_are entries entries;
      later = [];
      parts = ap (λ (messages : List InputMessage). CarriesInput new ∷ messages) (sym (append-nil (journal_after events id)));
      arrivals = tt;
      fit = (
        record { fits = (invocation_fits id events new typed is).input; short = input_short events accepted.1 id new is },
        messages_fit entries entries (entries_fit id events accepted.1 typed),
      );
    }

-- ---- its places

places_left : (n m : ℕ) → nat_lt (2 ^ 32 - 2) (n + m) ≡ false → n + m < 2 ^ 32 - 1
places_left n m e = grind (arith, nat_tests)

few_places : (entries more : List Entry) → (not (is_empty more) && places_used_up entries more) ≡ false → length entries < 2 ^ 32 - 1 → length (entries ++ more) < 2 ^ 32 - 1
few_places entries [] e few = subst (λ (some : List Entry). length some < 2 ^ 32 - 1) (sym (append-nil entries)) few
few_places entries (entry ∷ more) e few =
    let left = places_left (length entries) (length (entry ∷ more)) e in
    let a = length-append entries (entry ∷ more) in
    omega (arith, left, a)

few_if : (entries : List Entry) (b : Bool) (more : List Entry) → (b ≡ true → (not (is_empty more) && places_used_up entries more) ≡ false) → length entries < 2 ^ 32 - 1
    → length (entries ++ (if b then more else [])) < 2 ^ 32 - 1
few_if entries true more e few = few_places entries more (e refl) few
few_if entries false more e few = few_places entries [] refl few

or_false : (b : Bool) → (b || false) ≡ true → b ≡ true
or_false true e = refl
or_false false e = e

found_not : (p q : NewInvocation → Bool) (xs : List NewInvocation) (x : NewInvocation) → find p xs ≡ Some x → list_any q xs ≡ false → q x ≡ false
found_not p q [] x e none = absurd cc
found_not p q (y ∷ ys) x e none = by_test (p y) e (none_of (q y) (list_any q ys) none) (found_not p q ys x)
  where
    none_of : (a b : Bool) → (a || b) ≡ false → (a ≡ false) × (b ≡ false)
    none_of true b e = absurd (true≢false e)
    none_of false b e = (refl, e)

    by_test : (b : Bool) → (if b then Some y else find p ys) ≡ Some x → (q y ≡ false) × (list_any q ys ≡ false) → (find p ys ≡ Some x → list_any q ys ≡ false → q x ≡ false) → q x ≡ false
    by_test true e none later = let same : y ≡ x = cc in ap q (sym same) ∙ none.0
    by_test false e none later = later e none.1

begun_when_open : (events : List Event) (id : Text) → is_open events id ≡ true → (new : NewInvocation) × (invocation_begun events id ≡ Some new)
begun_when_open events id opened = by_begun (invocation_begun events id) refl
  where
    by_begun : (o : Option NewInvocation) → invocation_begun events id ≡ o → (new : NewInvocation) × (invocation_begun events id ≡ Some new)
    by_begun None is = absurd (true≢false (sym opened ∙ unborn_open events id is))
    by_begun (Some new) is = (new, is)

second_false : (a b c : Bool) → a ≡ true → (a && b) ≡ false → (c && b) ≡ false
second_false true b true is e = e
second_false true b false is e = refl
second_false false b c is e = absurd (true≢false (sym is))

module _ (id : Text) (events : List Event) where
  abbrev all : List Entry
  all = entries_of events id

  ticked_few : (now : ℕ) → causes_of events (Event.Tick now) ≡ [] → is_open events id ≡ true → (not (is_empty (map Arrived (slept all now))) && places_used_up all (map Arrived (slept all now))) ≡ false
  ticked_few now causes opened =
      let (new, is) = begun_when_open events id opened in
      let same : new.id ≡ id = has_own_id events id new is in
      let none = found_not (λ (one : NewInvocation). bytes_eq one.id id)
      (λ (one : NewInvocation). is_open events one.id && places_used_up (entries_of events one.id) (entries_of_event (starting_state events one.id) (entries_of events one.id) (Event.Tick now)))
      (filter_map invoked_by events) new is (holds-head (tests_of events (Event.Tick now)) causes) in
      second_false (is_open events id) (places_used_up all (map Arrived (slept all now))) (not (is_empty (map Arrived (slept all now)))) opened
      (subst (λ (x : Text). (is_open events x && places_used_up (entries_of events x) (map Arrived (slept (entries_of events x) now))) ≡ false) same none)

  added_few : (event : Event) → causes_of events event ≡ [] → AcceptedFits id event → length all < 2 ^ 32 - 1 → length (all ++ added_by events id event) < 2 ^ 32 - 1
  added_few (Event.Result other n value) causes fits few =
      few_if all (bytes_eq other id || false) (entries_of_event (starting_state events id) all (Event.Result other n value))
      (λ e. let same : other ≡ id = (bytes_eq-Decides other id).0 (or_false (bytes_eq other id) e) in
      let own : causes_of events (Event.Result id n value) ≡ [] = subst (λ (x : Text). causes_of events (Event.Result x n value) ≡ []) same causes in
      let tests = tests_of events (Event.Result id n value) in
      holds-head (tail_of (tail_of (tail_of (tail_of tests)))) (holds-tail (tail_of (tail_of (tail_of tests))) (holds-tail (tail_of (tail_of tests)) (holds-tail (tail_of tests) (holds-tail tests own))))) few
  added_few (Event.Signal other key value) causes fits few =
      few_if all (bytes_eq other id || false) (entries_of_event (starting_state events id) all (Event.Signal other key value))
      (λ e. let same : other ≡ id = (bytes_eq-Decides other id).0 (or_false (bytes_eq other id) e) in
      let own : causes_of events (Event.Signal id key value) ≡ [] = subst (λ (x : Text). causes_of events (Event.Signal x key value) ≡ []) same causes in
      let tests = tests_of events (Event.Signal id key value) in
      holds-head (tail_of (tail_of (tail_of (tail_of tests)))) (holds-tail (tail_of (tail_of (tail_of tests))) (holds-tail (tail_of (tail_of tests)) (holds-tail (tail_of tests) (holds-tail tests own))))) few
  added_few (Event.Cancel other) causes fits few =
      few_if all (bytes_eq other id || false) (entries_of_event (starting_state events id) all (Event.Cancel other))
      (λ e. let same : other ≡ id = (bytes_eq-Decides other id).0 (or_false (bytes_eq other id) e) in
      let own : causes_of events (Event.Cancel id) ≡ [] = subst (λ (x : Text). causes_of events (Event.Cancel x) ≡ []) same causes in
      let tests = tests_of events (Event.Cancel id) in
      holds-head (tail_of (tail_of tests)) (holds-tail (tail_of tests) (holds-tail tests own))) few
  added_few (Event.Tick now) causes fits few = few_if all (is_open events id) (map Arrived (slept all now)) (λ e. ticked_few now causes e) few
  added_few (Event.Move other attempt (Frame.Command request)) causes fits few =
      few_if all (bytes_eq other id || false) (entries_of_event (starting_state events id) all (Event.Move other attempt (Frame.Command request)))
      (λ e. let same : other ≡ id = (bytes_eq-Decides other id).0 (or_false (bytes_eq other id) e) in
      let own : causes_of events (Event.Move id attempt (Frame.Command request)) ≡ [] = subst (λ (x : Text). causes_of events (Event.Move x attempt (Frame.Command request)) ≡ []) same causes in
      let tests = tests_of events (Event.Move id attempt (Frame.Command request)) in
      holds-head (tail_of (tail_of (tail_of (tail_of (tail_of tests)))))
      (holds-tail (tail_of (tail_of (tail_of (tail_of tests)))) (holds-tail (tail_of (tail_of (tail_of tests))) (holds-tail (tail_of (tail_of tests)) (holds-tail (tail_of tests) (holds-tail tests own)))))) few
  added_few (Event.Move other attempt (Frame.RunOutcome n value is_acknowledged)) causes fits few =
      few_if all (bytes_eq other id || false) (entries_of_event (starting_state events id) all (Event.Move other attempt (Frame.RunOutcome n value is_acknowledged)))
      (λ e. let same : other ≡ id = (bytes_eq-Decides other id).0 (or_false (bytes_eq other id) e) in
      let own : causes_of events (Event.Move id attempt (Frame.RunOutcome n value is_acknowledged)) ≡ [] = subst (λ (x : Text). causes_of events (Event.Move x attempt (Frame.RunOutcome n value is_acknowledged)) ≡ []) same causes in
      let tests = tests_of events (Event.Move id attempt (Frame.RunOutcome n value is_acknowledged)) in
      holds-head (tail_of (tail_of (tail_of (tail_of tests))))
      (holds-tail (tail_of (tail_of (tail_of tests))) (holds-tail (tail_of (tail_of tests)) (holds-tail (tail_of tests) (holds-tail tests own))))) few
  added_few (Event.Move other attempt frame) causes fits few = few_if all (bytes_eq other id || false) [] (λ e. refl) few
  added_few event causes fits few = few_if all (is_of id event || false) [] (λ e. refl) few

entries_few : (id : Text) (events : List Event) → IsAccepted events → EventsFit id events → length (entries_of events id) < 2 ^ 32 - 1
entries_few id [] accepted fits = omega arith
entries_few id (event ∷ events) accepted fits = by_begins (begins id event) refl (entries_few id events accepted.1 fits.1)
  where
    by_begins : (b : Bool) → begins id event ≡ b → length (entries_of events id) < 2 ^ 32 - 1 → length (entries_of (event ∷ events) id) < 2 ^ 32 - 1
    by_begins true e few = subst (λ (entries : List Entry). length entries < 2 ^ 32 - 1) (sym (entries_first event events id accepted e)) (omega arith)
    by_begins false e few = subst (λ (entries : List Entry). length entries < 2 ^ 32 - 1) (sym (entries_now event events id e)) (added_few id events event accepted.0 fits.0 few)

-- ---- its start frame

-- no more attempts were begun since the last entry than were begun
one_or_none : (b : Bool) (now : ℕ) → length (if b then now ∷ [] else []) ≤ (if b then 1 else 0)
one_or_none true now = omega arith
one_or_none false now = omega arith

abbrev no_moments : List ℕ
no_moments = []

none_either_way : (b : Bool) → length (if b then no_moments else no_moments) ≤ 0
none_either_way true = omega arith
none_either_way false = omega arith

moments_of : (event : Event) (id : Text) → length (if is_of id event then moment_begun event else []) ≤ (if begins_attempt id event then 1 else 0)
moments_of (Event.Begin other now) id = one_or_none (bytes_eq other id) now
moments_of event id = none_either_way (is_of id event)

since_entry : (start : StateMap) (events : List Event) (id : Text) → length (begun_since_entry start events id) ≤ attempts_begun events id
since_entry start [] id = omega arith
since_entry start (event ∷ earlier) id =
    by_entry (is_some_entry (entries_added start earlier id event (entries_from start earlier id))) (since_entry start earlier id)
  where
    by_entry : (b : Bool) → length (begun_since_entry start earlier id) ≤ attempts_begun earlier id
        → length (if b then [] else begun_since_entry start earlier id ++ (if is_of id event then moment_begun event else [])) ≤ (if begins_attempt id event then 1 else 0) + attempts_begun earlier id
    by_entry true before = omega arith
    by_entry false before =
        omega (arith, before, moments_of event id, length-append (begun_since_entry start earlier id) (if is_of id event then moment_begun event else []))

attempts_since : (events : List Event) (id : Text) → length (attempts_since_entry events id) ≤ attempts_begun events id
attempts_since events id = since_entry (starting_state events id) events id

since_within : (moments : List ℕ) (now : ℕ) → since_first moments now ≤ now
since_within [] now = omega arith
since_within (moment ∷ moments) now = omega arith

start_short : (events : List Event) (id : Text) (now : ℕ) → causes_of events (Event.Begin id now) ≡ [] → length (start_payload events id now) < 2 ^ 32
start_short events id now causes =
    let tests = tests_of events (Event.Begin id now) in
    not_long (length (start_payload events id now))
    (holds-head (tail_of (tail_of (tail_of tests))) (holds-tail (tail_of (tail_of tests)) (holds-tail (tail_of tests) (holds-tail tests causes))))

attempts_few : (events : List Event) (id : Text) (now : ℕ) → causes_of events (Event.Begin id now) ≡ [] → attempts_begun events id < 2 ^ 32 - 1
attempts_few events id now causes =
    let tests = tests_of events (Event.Begin id now) in
    leb-false (2 ^ 32 - 1) (attempts_begun events id) (holds-head (tail_of (tail_of tests)) (holds-tail (tail_of tests) (holds-tail tests causes)))

entries_shown_fit : (state : StateMap) → AllByRecursion (StateEntryFits (LEVELS - 1)) (map state_entry_record state)
entries_shown_fit [] = tt
entries_shown_fit (entry ∷ state) = (record { level = omega arith }, entries_shown_fit state)

state_fits : (mode : StateMode) (state : StateMap) → AllByRecursion (StateEntryFits (LEVELS - 1)) (state_shown mode state)
state_fits StateMode.Whole state = entries_shown_fit state
state_fits StateMode.None state = tt

entries_text : (state : StateMap) → HasTextKeys state → AreText (map state_entry_record state)
entries_text [] text = tt
entries_text (entry ∷ state) text = (IsUtf8-from_is_utf8 entry.0 text.0, entries_text state text.1)

state_text : (mode : StateMode) (state : StateMap) → HasTextKeys state → AreText (state_shown mode state)
state_text StateMode.Whole state text = entries_text state text
state_text StateMode.None state text = tt

module _ (next : Handler) (options : RunOptions) (fallback_seed : ℕ) (id : Text) (now : ℕ) (events : List Event) (new : NewInvocation) (accepted : IsAccepted (Event.Begin id now ∷ events))
    (is : invocation_begun events id ≡ Some new) (typed : EventsFit id events) (moment : now < 2 ^ 64)
    (begun : IsBegunAs next options fallback_seed (Event.Begin id now ∷ events) id (start_after options fallback_seed events id now new)) where
  abbrev start : AttemptStart
  start = start_after options fallback_seed events id now new

  abbrev shown : StateMap
  shown = object_state events new.object

  abbrev retry : ℕ
  retry = length (attempts_since_entry events id)

  abbrev duration : ℕ
  duration = since_first (attempts_since_entry events id) now

  counted : length (journal_after events id) ≡ length (entries_of events id)
  counted = length-map (entries_of events id) (message_of (entries_of events id))

  -- what the journal has made of the state is the object's state
  state_is : state_after (requests_carried (journal_after events id)) (starting_state events id) ≡ shown
  state_is =
      let own : new.id ≡ id = has_own_id events id new is in
      let opened : is_open events id ≡ true = open_when_accepted events (Event.Begin id now) id refl (itself id) accepted.0 in
      let stands : shown ≡ state_after (recorded_requests events new.id) (starting_state events new.id) =
      state_of_open events new accepted.1 (ap (invocation_begun events) own ∙ is) (ap (is_open events) own ∙ opened) in
      ap (λ (requests : List Request). state_after requests (starting_state events id)) (entries_requests (entries_of events id) (entries_of events id))
      ∙ sym (stands ∙ ap (λ (x : Text). state_after (recorded_requests events x) (starting_state events x)) own)

  payload_is : start_payload events id now ≡ start_payload_of new shown (1 + length start.journal) retry duration
  payload_is =
      ap (λ (o : Option NewInvocation). start_payload_for events o id now) is
      ∙ ap (λ (n : ℕ). start_payload_of new shown (1 + n) retry duration) (sym counted)

  starts_shown : ShowsStart start
  starts_shown = record {
    state = shown;
    shown_is = ap (λ (state : StateMap). shown_state new.state state) state_is;
    shows = record { retry_count = retry; duration = duration; frame_is = ap (λ (payload : Bytes). frame_bytes Start payload) payload_is };
    known = (start_shows next options fallback_seed (Event.Begin id now ∷ events) id start begun).known;
  }

  start_fits : StartFits LEVELS (start_record new shown (1 + length start.journal) retry duration)
  start_fits =
      let fits = invocation_fits id events new typed is in
      let few = entries_few id events accepted.1 typed in
      record {
        level = omega arith;
        debug_id = fits.id;
        known_entries = omega (arith, few, counted);
        state_map = state_fits new.state shown;
        key = fits.object;
        retry_count_since_last_stored_entry = omega (arith, attempts_since events id, attempts_few events id now accepted.0);
        duration_since_last_stored_entry = omega (arith, moment, since_within (attempts_since_entry events id) now);
        random_seed = fits.seed;
        scope = tt;
        limit_key = tt;
        idempotency_key = tt;
      }

  starts_well : CanStart start
  unfolding starts_shown
  starts_well = record {
    shows = starts_shown;
    can = record {
      ordered = states_ordered events new.object;
      well = record {
        fits = record { fits = start_fits; short = subst (λ (payload : Bytes). length payload < 2 ^ 32) payload_is (start_short events id now accepted.0) };
        text = state_text new.state shown (states_text events new.object accepted.1);
        announced = omega arith;
      };
    };
  }

pub can_start : AttemptsCanStart
can_start next options fallback_seed id now events new accepted is typed moment begun = starts_well next options fallback_seed id now events new accepted is typed moment begun
