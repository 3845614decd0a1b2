-- What is kept of the events, without the rows of an invocation, is what is kept of the events without it.
use Rattle.std.proofs.Common.{true≢false, ◌≡◌, refl, sym, ap, ap₂, subst, ◌∙◌, ℕ, ◌+◌, Bool, true, false, not, ◌&&◌, ◌||◌, if◌then◌else◌, List, [], ◌∷◌, ◌++◌, append-nil, length, map, filter, filter_map, Option, Some, None, option_map, bytes_eq}
use Rattle.std.proofs.lemmas.List.Elements.{filter-append}
use Rattle.sqlite_keyed.proofs.ListLemmas.{filter-filter}
use Rattle.std.proofs.lemmas.Slice.Eq.{bytes_eq-Decides}
use Rattle.journal_model.specs.Notification.{Text}
use Rattle.journal_model.specs.Request.{Request}
use Rattle.journal_model.specs.State.{StateMap}
use Rattle.journal_model.specs.declared.invocation.NewInvocation.{NewInvocation}
use Rattle.store_tables.specs.declared.row.Progress.{Progress}
use Rattle.store_tables.specs.declared.row.InvocationRow.{InvocationRow}
use Rattle.store_tables.specs.declared.row.EntryRow.{EntryRow}
use Rattle.store_tables.specs.declared.row.SleepRow.{SleepRow}
use Rattle.journal_model.specs.Event.{Event, Frame, Suspension}
use Rattle.journal_model.specs.Journal.{Closing as Closed, Entry, arrivals_in, can_be_due, closes, closing_of, entries_from, entries_of, entries_of_event, frame_of, frames_of, invocation_begun, is_of, is_open, is_tick, object_of, request_of_frame, requests_in, sleep_in, starting_state, version_of, invocation_of}
use Rattle.journal_model.specs.Attempt.{Piece, attempts_begun, begins_attempt, bytes_handed, input_pieces, suspension_of}
use Rattle.journal_model.specs.Start.{attempts_since_entry}
use Rattle.journal_model.specs.Cause.{last_completion}
use Rattle.due_laws.specs.AwakeNotes.{heard_of, is_awake_kept, or_kept}
use Rattle.store_model.specs.Places.{handed_at, handed_in, handed_of, handed_place, input_places, journal_places, place_behind, places_from, places_of_arrivals}
use Rattle.store_model.specs.Progress.{error_in, first_item, last_output, number_or_zero, payload_of_suspension, progress_of, way_closed}
use Rattle.store_model.specs.Sleeps.{due_until, sleep_row, sleeps_after, sleeps_kept, sleeps_opened}
use Rattle.store_tables.specs.Records.{Records, ends_by, is_sleep_of}
use Rattle.store_tables.specs.Questions.{journal_of}
use Rattle.store_model.specs.KeptRecords.{AreStates, IsKept, begun, begun_by, invocation_row, is_shown_whole, journal_rows, rows_of_journal, state_row, version_kept}
use Rattle.journal_model.specs.Forgetting.{edits, without}
use Rattle.journal_laws.proofs.Isolation.{is_of-begins}
use Rattle.journal_laws.proofs.Forgetting.{different, flip, no_tick, not_known, same_begun, same_starts, same_states}
use Rattle.journal_laws.proofs.Staying.{closing_same, frames_same, told}
use Rattle.journal_laws.proofs.Waking.{suspension_same}
use Rattle.due_laws.proofs.Forgetting.{awake_left, entries_left, heard_left, version_same}
use Rattle.store_model.specs.Forgetting.{KeptWithout, forgotten}
use Rattle.store_model.proofs.Lists.{filter_swap}

-- ---- how far an invocation is, by what it is read off

abbrev progress_from : Bool → Option NewInvocation → Option Suspension → Option ℕ → Option Closed → List Frame → ℕ → List ℕ → List Entry → Option ℕ → Bool → Progress
progress_from opened new suspension handed closing frames attempts moments entries heard awake = record {
  open_object = if opened then option_map (λ (one : NewInvocation). one.object) new else None;
  suspension = option_map payload_of_suspension suspension;
  handed = handed;
  closing = option_map way_closed closing;
  answer = last_output (requests_in entries);
  last_error = first_item (filter_map error_in frames);
  attempts = attempts;
  attempts_since_entry = length moments;
  first_moment = number_or_zero (first_item moments);
  last_completion = last_completion (requests_in entries);
  entries = 1 + length entries;
  heard = heard;
  arrivals = length (arrivals_in entries);
  is_awake = awake;
}

same_from : (opened opened' : Bool) (new new' : Option NewInvocation) (suspension suspension' : Option Suspension) (handed handed' : Option ℕ) (closing closing' : Option Closed)
    (frames frames' : List Frame) (attempts attempts' : ℕ) (moments moments' : List ℕ) (entries entries' : List Entry) (heard heard' : Option ℕ) (awake awake' : Bool)
    → opened ≡ opened' → new ≡ new' → suspension ≡ suspension' → handed ≡ handed' → closing ≡ closing' → frames ≡ frames' → attempts ≡ attempts' → moments ≡ moments' → entries ≡ entries'
    → heard ≡ heard' → awake ≡ awake'
    → progress_from opened new suspension handed closing frames attempts moments entries heard awake ≡ progress_from opened' new' suspension' handed' closing' frames' attempts' moments' entries' heard' awake'
same_from opened opened' new new' suspension suspension' handed handed' closing closing' frames frames' attempts attempts' moments moments' entries entries' heard heard' awake awake' a b c d e f g h i j k =
    ap (λ x. progress_from x new suspension handed closing frames attempts moments entries heard awake) a
    ∙ ap (λ x. progress_from opened' x suspension handed closing frames attempts moments entries heard awake) b
    ∙ ap (λ x. progress_from opened' new' x handed closing frames attempts moments entries heard awake) c
    ∙ ap (λ x. progress_from opened' new' suspension' x closing frames attempts moments entries heard awake) d
    ∙ ap (λ x. progress_from opened' new' suspension' handed' x frames attempts moments entries heard awake) e
    ∙ ap (λ x. progress_from opened' new' suspension' handed' closing' x attempts moments entries heard awake) f
    ∙ ap (λ x. progress_from opened' new' suspension' handed' closing' frames' x moments entries heard awake) g
    ∙ ap (λ x. progress_from opened' new' suspension' handed' closing' frames' attempts' x entries heard awake) h
    ∙ ap (λ x. progress_from opened' new' suspension' handed' closing' frames' attempts' moments' x heard awake) i
    ∙ ap (λ x. progress_from opened' new' suspension' handed' closing' frames' attempts' moments' entries' x awake) j
    ∙ ap (λ x. progress_from opened' new' suspension' handed' closing' frames' attempts' moments' entries' heard' x) k

-- ---- what is noted of another invocation

module _ (id other : Text) (d : bytes_eq id other ≡ false) where
  -- edits and events of the forgotten one are handed to no attempt of another
  edits_places : (start : StateMap) (o : Option Text) (requests : List Request) (more : List Event) → places_from start (edits o requests ++ more) other ≡ places_from start more other
  edits_places start None requests more = refl
  edits_places start (Some object) [] more = refl
  edits_places start (Some object) (request ∷ requests) more = append-nil (places_from start (edits (Some object) requests ++ more) other) ∙ edits_places start (Some object) requests more

  apart_places : (start : StateMap) (event : Event) (earlier : List Event) → is_of other event ≡ false → is_tick event ≡ false → places_from start (event ∷ earlier) other ≡ places_from start earlier other
  apart_places start event earlier e f =
      ap₂ (λ (a b : Bool). if a then journal_places (invocation_begun earlier other) (entries_from start earlier other)
      else places_from start earlier other
      ++ places_of_arrivals (1 + length (entries_from start earlier other)) (if b then entries_of_event start (entries_from start earlier other) event else []))
      (is_of-begins other event e) (ap₂ (λ (p q : Bool). p || (q && is_open earlier other)) e f)
      ∙ append-nil (places_from start earlier other)

  abbrev places_by : StateMap → Event → Option NewInvocation → List Entry → Bool → List ℕ → List ℕ
  places_by start event new entries opened places =
      if begins_attempt other event then journal_places new entries
      else places ++ places_of_arrivals (1 + length entries) (if is_of other event || (is_tick event && opened) then entries_of_event start entries event else [])

  places_left : (start : StateMap) (events : List Event) → places_from start (without id events) other ≡ places_from start events other
  places_left start [] = refl
  places_left start (event ∷ earlier) = by_cases (is_of id event) refl (places_left start earlier)
    where
      by_cases : (b : Bool) → is_of id event ≡ b → places_from start (without id earlier) other ≡ places_from start earlier other
          → places_from start ((if b then edits (object_of earlier event) (request_of_frame (frame_of event)) else event ∷ []) ++ without id earlier) other ≡ places_from start (event ∷ earlier) other
      by_cases true e h =
          edits_places start (object_of earlier event) (request_of_frame (frame_of event)) (without id earlier)
          ∙ h
          ∙ sym (apart_places start event earlier (different id other d (invocation_of event) e) (no_tick id event e))
      by_cases false e h =
          ap (λ (new : Option NewInvocation). places_by start event new (entries_from start (without id earlier) other) (is_open (without id earlier) other) (places_from start (without id earlier) other))
          (same_begun id other d earlier)
          ∙ ap (λ (entries : List Entry). places_by start event (invocation_begun earlier other) entries (is_open (without id earlier) other) (places_from start (without id earlier) other)) (entries_left id other d start earlier)
          ∙ ap (λ (opened : Bool). places_by start event (invocation_begun earlier other) (entries_from start earlier other) opened (places_from start (without id earlier) other)) (told id other d earlier).openness
          ∙ ap (λ (places : List ℕ). places_by start event (invocation_begun earlier other) (entries_from start earlier other) (is_open earlier other) places) h

  pub places_same : (events : List Event) → input_places (without id events) other ≡ input_places events other
  places_same events = ap (λ (start : StateMap). places_from start (without id events) other) (same_starts id other d events) ∙ places_left (starting_state events other) events

  pub place_same : (events : List Event) → handed_place (without id events) other ≡ handed_place events other
  place_same events =
      ap₂ (λ (pieces : List Piece) (count : ℕ). place_behind 0 pieces (input_places (without id events) other) count) (told id other d events).input (told id other d events).handed
      ∙ ap (λ (places : List ℕ). place_behind 0 (input_pieces events other) places (bytes_handed events other)) (places_same events)

  handed_at_same : (events : List Event) (frame : Frame) → handed_at (without id events) other frame ≡ handed_at events other frame
  handed_at_same events (Frame.Suspend suspension) = ap Some (place_same events)
  handed_at_same events Frame.End = ap Some (place_same events)
  handed_at_same events _ = refl

  handed_in_same : (events : List Event) (event : Event) → handed_in (without id events) other event ≡ handed_in events other event
  handed_in_same events (Event.Move x attempt frame) = ap (λ (o : Option ℕ). if bytes_eq x other then o else None) (handed_at_same events frame)
  handed_in_same events event = refl

  edits_handed : (o : Option Text) (requests : List Request) (more : List Event) → handed_of (edits o requests ++ more) other ≡ handed_of more other
  edits_handed None requests more = refl
  edits_handed (Some object) [] more = refl
  edits_handed (Some object) (request ∷ requests) more = edits_handed (Some object) requests more

  apart_handed : (event : Event) (earlier : List Event) → is_of other event ≡ false → handed_of (event ∷ earlier) other ≡ handed_of earlier other
  apart_handed (Event.Begin x now) earlier e = rw e refl
  apart_handed (Event.Move x attempt frame) earlier e = rw e refl
  apart_handed event earlier e = refl

  handed_left : (events : List Event) → handed_of (without id events) other ≡ handed_of events other
  handed_left [] = refl
  handed_left (event ∷ earlier) = by_cases (is_of id event) refl (handed_left earlier)
    where
      by_cases : (b : Bool) → is_of id event ≡ b → handed_of (without id earlier) other ≡ handed_of earlier other
          → handed_of ((if b then edits (object_of earlier event) (request_of_frame (frame_of event)) else event ∷ []) ++ without id earlier) other ≡ handed_of (event ∷ earlier) other
      by_cases true e h =
          edits_handed (object_of earlier event) (request_of_frame (frame_of event)) (without id earlier)
          ∙ h
          ∙ sym (apart_handed event earlier (different id other d (invocation_of event) e))
      by_cases false e h = ap₂ (λ (now before : Option ℕ). if begins_attempt other event then None else or_kept now before) (handed_in_same earlier event) h

  pub progress_left : (events : List Event) → progress_of (without id events) other ≡ progress_of events other
  progress_left events =
      let t = told id other d events in
      same_from (is_open (without id events) other) (is_open events other) (invocation_begun (without id events) other) (invocation_begun events other)
      (suspension_of (without id events) other) (suspension_of events other) (handed_of (without id events) other) (handed_of events other)
      (closing_of (without id events) other) (closing_of events other) (frames_of (without id events) other) (frames_of events other)
      (attempts_begun (without id events) other) (attempts_begun events other) (attempts_since_entry (without id events) other) (attempts_since_entry events other)
      (entries_of (without id events) other) (entries_of events other) (heard_of (without id events) other) (heard_of events other)
      (is_awake_kept (without id events) other) (is_awake_kept events other)
      t.openness t.begun (suspension_same id other d events) (handed_left events) (closing_same id other d events) (frames_same id other d events) t.attempts t.moments t.entries (heard_left id other d events) (awake_left id other d events)

  pub journal_left : (events : List Event) → journal_rows (without id events) other ≡ journal_rows events other
  journal_left events = ap₂ (λ (new : Option NewInvocation) (entries : List Entry). rows_of_journal new other entries) (told id other d events).begun (told id other d events).entries

-- ---- the rows

module _ (id : Text) where
  abbrev is_other : NewInvocation → Bool
  is_other new = not (bytes_eq new.id id)

  abbrev stays : InvocationRow → Bool
  stays i = not (bytes_eq i.id id)

  row_left : (events : List Event) (new : NewInvocation) → bytes_eq new.id id ≡ false → invocation_row (without id events) new ≡ invocation_row events new
  row_left events new e =
      ap (λ (p : Progress). record { id = new.id; object = new.object; version = version_kept new.version; seed = new.seed; is_whole = is_shown_whole new.state; progress = p })
      (progress_left id new.id (flip new.id id e) events)

  edits_none_begun : (o : Option Text) (requests : List Request) (more : List Event) → begun (edits o requests ++ more) ≡ begun more
  edits_none_begun None requests more = refl
  edits_none_begun (Some object) [] more = refl
  edits_none_begun (Some object) (request ∷ requests) more = append-nil (begun (edits (Some object) requests ++ more)) ∙ edits_none_begun (Some object) requests more

  own_begun : (event : Event) → is_of id event ≡ true → filter is_other (begun_by event) ≡ []
  own_begun (Event.Invoke new) e = rw e refl
  own_begun event e = refl

  other_begun : (event : Event) → is_of id event ≡ false → filter is_other (begun_by event) ≡ begun_by event
  other_begun (Event.Invoke new) e = rw e refl
  other_begun event e = refl

  begun_left : (events : List Event) → begun (without id events) ≡ filter is_other (begun events)
  begun_left [] = refl
  begun_left (event ∷ earlier) = by_cases (is_of id event) refl (begun_left earlier)
    where
      by_cases : (b : Bool) → is_of id event ≡ b → begun (without id earlier) ≡ filter is_other (begun earlier)
          → begun ((if b then edits (object_of earlier event) (request_of_frame (frame_of event)) else event ∷ []) ++ without id earlier) ≡ filter is_other (begun earlier ++ begun_by event)
      by_cases true e h =
          edits_none_begun (object_of earlier event) (request_of_frame (frame_of event)) (without id earlier)
          ∙ h
          ∙ sym (filter-append is_other (begun earlier) (begun_by event)
          ∙ ap (λ (more : List NewInvocation). filter is_other (begun earlier) ++ more) (own_begun event e)
          ∙ append-nil (filter is_other (begun earlier)))
      by_cases false e h =
          ap (λ (news : List NewInvocation). news ++ begun_by event) h
          ∙ sym (filter-append is_other (begun earlier) (begun_by event) ∙ ap (λ (more : List NewInvocation). filter is_other (begun earlier) ++ more) (other_begun event e))

  rows_left : (events : List Event) (news : List NewInvocation) → filter stays (map (invocation_row events) news) ≡ map (invocation_row (without id events)) (filter is_other news)
  rows_left events [] = refl
  rows_left events (new ∷ news) = by_cases (bytes_eq new.id id) refl (rows_left events news)
    where
      by_cases : (b : Bool) → bytes_eq new.id id ≡ b → filter stays (map (invocation_row events) news) ≡ map (invocation_row (without id events)) (filter is_other news)
          → (if not b then invocation_row events new ∷ filter stays (map (invocation_row events) news) else filter stays (map (invocation_row events) news))
          ≡ map (invocation_row (without id events)) (if not b then new ∷ filter is_other news else filter is_other news)
      by_cases true e h = h
      by_cases false e h = ap₂ (λ (row : InvocationRow) (rows : List InvocationRow). row ∷ rows) (sym (row_left events new e)) h

  -- the entries of another one stay, and of this one none
  entries_stay : (other : Text) → bytes_eq id other ≡ false → (es : List EntryRow) → filter (λ e. bytes_eq e.invocation other) (filter (λ e. not (bytes_eq e.invocation id)) es) ≡ filter (λ e. bytes_eq e.invocation other) es
  entries_stay other d [] = refl
  entries_stay other d (e ∷ es) = by_cases (bytes_eq e.invocation id) refl (bytes_eq e.invocation other) refl (entries_stay other d es)
    where
      by_cases : (a : Bool) → bytes_eq e.invocation id ≡ a → (b : Bool) → bytes_eq e.invocation other ≡ b
          → filter (λ e. bytes_eq e.invocation other) (filter (λ e. not (bytes_eq e.invocation id)) es) ≡ filter (λ e. bytes_eq e.invocation other) es
          → filter (λ e. bytes_eq e.invocation other) (if not a then e ∷ filter (λ e. not (bytes_eq e.invocation id)) es else filter (λ e. not (bytes_eq e.invocation id)) es)
          ≡ (if b then e ∷ filter (λ e. bytes_eq e.invocation other) es else filter (λ e. bytes_eq e.invocation other) es)
      by_cases true f true g h =
          absurd (true≢false (sym (ap (λ (x : Text). bytes_eq x other) (sym ((bytes_eq-Decides e.invocation id).0 f)) ∙ g) ∙ d))
      by_cases true f false g h = h
      by_cases false f true g h = rw g (ap (λ (rest : List EntryRow). e ∷ rest) h)
      by_cases false f false g h = rw g h

  entries_go : (es : List EntryRow) → filter (λ e. bytes_eq e.invocation id) (filter (λ e. not (bytes_eq e.invocation id)) es) ≡ []
  entries_go [] = refl
  entries_go (e ∷ es) = by_cases (bytes_eq e.invocation id) refl (entries_go es)
    where
      by_cases : (a : Bool) → bytes_eq e.invocation id ≡ a → filter (λ e. bytes_eq e.invocation id) (filter (λ e. not (bytes_eq e.invocation id)) es) ≡ []
          → filter (λ e. bytes_eq e.invocation id) (if not a then e ∷ filter (λ e. not (bytes_eq e.invocation id)) es else filter (λ e. not (bytes_eq e.invocation id)) es) ≡ []
      by_cases true f h = h
      by_cases false f h = rw f h

  journals_left : (events : List Event) (r : Records) → ((x : Text) → journal_of x r ≡ journal_rows events x) → (other : Text) → journal_of other (forgotten id r) ≡ journal_rows (without id events) other
  journals_left events r kept other = by_cases (bytes_eq id other) refl
    where
      by_cases : (b : Bool) → bytes_eq id other ≡ b → journal_of other (forgotten id r) ≡ journal_rows (without id events) other
      by_cases true e =
          subst (λ (x : Text). journal_of x (forgotten id r) ≡ journal_rows (without id events) x) ((bytes_eq-Decides id other).0 e)
          (entries_go r.entries ∙ sym (ap (λ (new : Option NewInvocation). rows_of_journal new id (entries_of (without id events) id)) (not_known id events)))
      by_cases false e = entries_stay other e r.entries ∙ kept other ∙ sym (journal_left id other e events)

  -- ---- sleeps

  abbrev keeps : SleepRow → Bool
  keeps s = not (bytes_eq s.invocation id)

  own_rows : (x : Text) → bytes_eq x id ≡ true → (sleeps : List (ℕ × ℕ)) → filter keeps (map (sleep_row x) sleeps) ≡ []
  own_rows x e [] = refl
  own_rows x e (sleep ∷ sleeps) = rw e (own_rows x e sleeps)

  other_rows : (x : Text) → bytes_eq x id ≡ false → (sleeps : List (ℕ × ℕ)) → filter keeps (map (sleep_row x) sleeps) ≡ map (sleep_row x) sleeps
  other_rows x e [] = refl
  other_rows x e (sleep ∷ sleeps) = rw e (ap (λ (rest : List SleepRow). sleep_row x sleep ∷ rest) (other_rows x e sleeps))

  own_closed : (x : Text) → bytes_eq x id ≡ true → (b : Bool) (sleeps : List SleepRow)
      → filter keeps (if b then filter (λ s. not (is_sleep_of x s)) sleeps else sleeps) ≡ filter keeps sleeps
  own_closed x e true sleeps =
      subst (λ (y : Text). filter keeps (filter (λ s. not (is_sleep_of y s)) sleeps) ≡ filter keeps sleeps) (sym ((bytes_eq-Decides x id).0 e)) (filter-filter keeps keeps (λ s e. e) sleeps)
  own_closed x e false sleeps = refl

  own_sleeps : (event : Event) (earlier : List Event) (sleeps : List SleepRow) → is_of id event ≡ true → filter keeps (sleeps_after earlier event sleeps) ≡ filter keeps sleeps
  own_sleeps (Event.Move x attempt (Frame.Command request)) earlier sleeps e =
      filter-append keeps sleeps (sleeps_opened x request)
      ∙ ap (λ (more : List SleepRow). filter keeps sleeps ++ more) (own_rows x e (filter can_be_due (sleep_in request)))
      ∙ append-nil (filter keeps sleeps)
  own_sleeps (Event.Move x attempt frame) earlier sleeps e = own_closed x e (closes (version_of earlier x) frame) sleeps
  own_sleeps (Event.Tick now) earlier sleeps e = cc
  own_sleeps event earlier sleeps e = refl

  other_closed : (x : Text) (b : Bool) (sleeps : List SleepRow)
      → (if b then filter (λ s. not (is_sleep_of x s)) (filter keeps sleeps) else filter keeps sleeps) ≡ filter keeps (if b then filter (λ s. not (is_sleep_of x s)) sleeps else sleeps)
  other_closed x true sleeps = filter_swap (λ s. not (is_sleep_of x s)) keeps sleeps
  other_closed x false sleeps = refl

  other_sleeps : (event : Event) (earlier : List Event) (sleeps : List SleepRow) → is_of id event ≡ false
      → sleeps_after (without id earlier) event (filter keeps sleeps) ≡ filter keeps (sleeps_after earlier event sleeps)
  other_sleeps (Event.Move x attempt (Frame.Command request)) earlier sleeps e =
      sym (filter-append keeps sleeps (sleeps_opened x request)
      ∙ ap (λ (more : List SleepRow). filter keeps sleeps ++ more) (other_rows x e (filter can_be_due (sleep_in request))))
  other_sleeps (Event.Move x attempt frame) earlier sleeps e =
      ap (λ (version : ℕ). if closes version frame then filter (λ s. not (is_sleep_of x s)) (filter keeps sleeps) else filter keeps sleeps) (version_same id earlier x e)
      ∙ other_closed x (closes (version_of earlier x) frame) sleeps
  other_sleeps (Event.Tick now) earlier sleeps e = filter_swap (λ s. not (ends_by (due_until now) s)) keeps sleeps
  other_sleeps event earlier sleeps e = refl

  edits_sleep : (o : Option Text) (requests : List Request) (more : List Event) → sleeps_kept (edits o requests ++ more) ≡ sleeps_kept more
  edits_sleep None requests more = refl
  edits_sleep (Some object) [] more = refl
  edits_sleep (Some object) (request ∷ requests) more = edits_sleep (Some object) requests more

  sleeps_left : (events : List Event) → sleeps_kept (without id events) ≡ filter keeps (sleeps_kept events)
  sleeps_left [] = refl
  sleeps_left (event ∷ earlier) = by_cases (is_of id event) refl (sleeps_left earlier)
    where
      by_cases : (b : Bool) → is_of id event ≡ b → sleeps_kept (without id earlier) ≡ filter keeps (sleeps_kept earlier)
          → sleeps_kept ((if b then edits (object_of earlier event) (request_of_frame (frame_of event)) else event ∷ []) ++ without id earlier) ≡ filter keeps (sleeps_after earlier event (sleeps_kept earlier))
      by_cases true e h =
          edits_sleep (object_of earlier event) (request_of_frame (frame_of event)) (without id earlier)
          ∙ h
          ∙ sym (own_sleeps event earlier (sleeps_kept earlier) e)
      by_cases false e h = ap (λ (sleeps : List SleepRow). sleeps_after (without id earlier) event sleeps) h ∙ other_sleeps event earlier (sleeps_kept earlier) e

-- ---- all

kept_one : (events : List Event) (id : Text) (r : Records) → IsKept events r → IsKept (without id events) (forgotten id r)
kept_one events id r kept = record {
  invocations =
      ap (λ (rows : List InvocationRow). filter (λ i. not (bytes_eq i.id id)) rows) kept.invocations
      ∙ rows_left id events (begun events)
      ∙ sym (ap (λ (news : List NewInvocation). map (invocation_row (without id events)) news) (begun_left id events));
  journals = journals_left id events r kept.journals;
  states = λ object. subst (λ (state : StateMap). AreStates object r (map (state_row object) state)) (sym (same_states id events object)) (kept.states object);
  sleeps = ap (λ (rows : List SleepRow). filter (λ s. not (bytes_eq s.invocation id)) rows) kept.sleeps ∙ sym (sleeps_left id events);
}

pub kept_without : KeptWithout
kept_without events [] r kept = kept
kept_without events (id ∷ ids) r kept = kept_without (without id events) ids (forgotten id r) (kept_one events id r kept)
