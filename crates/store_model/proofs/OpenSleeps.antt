-- The rows of an invocation's sleeps are those of its open sleeps.
use Rattle.std.proofs.Common.{ℕ, ◌-◌, ◌^◌, ◌<◌, ◌≤◌, pos, arith, ◌==◌, nat_lt, nat_le, ◌≡◌, refl, sym, ap, ap₂, subst, ◌∙◌, inl, true≢false, Bool, true, false, ◌||◌, ◌&&◌, not, if◌then◌else◌, List, [], ◌∷◌, ◌++◌, append-nil, length, map, filter, filter_map, Option, Some, None, is_some, cond, Less, Equal, Greater, bytes_eq}
use Rattle.std.specs.List.{AllByRecursion, list_any, cons_option}
use Rattle.std.specs.Int.{w64}
use Rattle.std.specs.Ordering.{int_cmp, is_le}
use Rattle.std.proofs.lemmas.Bool.{eq-eqb, ltb-true, ltb-false, le-leb, lt-leb}
use Rattle.std.proofs.lemmas.Int.{to_z_pos}
use Rattle.std.proofs.lemmas.List.Elements.{filter-append}
use Rattle.std.proofs.lemmas.List.Sorted.{list_any-IsPermutation}
use Rattle.std.proofs.lemmas.Slice.Eq.{bytes_eq-Decides}
use Rattle.sqlite_keyed.proofs.ListLemmas.{all_weaker, filter-filter, filter-map, IsPermutation-filter}
use Rattle.journal_model.specs.Notification.{Text}
use Rattle.journal_model.specs.declared.invocation.NewInvocation.{NewInvocation}
use Rattle.journal_model.specs.declared.value.NonEmptyValue.{NonEmptyValue}
use Rattle.journal_model.specs.Request.{Request, completions_asked}
use Rattle.journal_model.specs.State.{state_after}
use Rattle.journal_model.specs.Value.{result_of_value}
use Rattle.journal_model.specs.Event.{Frame, Event}
use Rattle.journal_model.specs.Journal.{Entry, Recorded, Arrived, is_of, is_tick, invoked_by, invocation_begun, version_of, closes, frame_of, frames_of, starting_state, is_open, id_of_signal, requests_in, completes, completion, is_awaited, read_answer, sleep_in, sleeps_in, sorted_by_moment, can_be_due, is_sleep_over, slept, entries_of, entries_of_event}
use Rattle.journal_model.specs.Cause.{IsAccepted, do_ascend, last_completion}
use Rattle.journal_laws.proofs.ObjectState.{begin_when_new, begun_before, no_entries, none_of, open_when_accepted, requests_in-append}
use Rattle.store_tables.specs.Records.{ends_by, is_sleep_of}
use Rattle.store_tables.specs.declared.row.SleepRow.{SleepRow}
use Rattle.store_model.specs.Sleeps.{due_until, sleep_row, sleeps_kept, sleeps_opened}
use Rattle.store_model.proofs.Journals.{added_to}
use Rattle.store_model.proofs.Lists.{filter_swap}
use Rattle.store_model.proofs.Same.{both_same, foreign_adds, opened, same_entries, same_open, version_in}
use Rattle.store_model.proofs.States.{drops_all}
use Rattle.store_model.specs.Lookups.{is_open_sleep, open_among, open_sleeps, SleepsKeptAfter}
use Rattle.store_model.proofs.Only.{filter_both}
use Rattle.store_model.proofs.Opening.{any-filter, filter_on, is_some_of}
use Rattle.store_model.proofs.Growing.{entries_now}
use Rattle.store_model.proofs.Asking.{ascends}
use Rattle.store_model.proofs.Sleeping.{answer_of_sleep, count, ends_at, one_sleep, sorted_same}
use Rattle.store_model.proofs.Answering.{answers_once, arrivals_in-arrived, command_above}
use Rattle.store_model.proofs.AwaitedSleeps.{each, no_less, requests_in-arrived, awaited-append, sleeps_of, NoneComes, opens_if, none_by, none_by_signal, no_sleep_asks, completed_awake, outcome_awake, command_opens}

-- ---- whether an invocation is open

abbrev closes_it : ℕ → Option Frame → Bool
closes_it version None = false
closes_it version (Some frame) = closes version frame

still_all : (a l c : Bool) → (a && not (c || l)) ≡ ((a && not l) && not c)
still_all true true true = refl
still_all true true false = refl
still_all true false true = refl
still_all true false false = refl
still_all false l c = refl

opened_now : (o : Option NewInvocation) (b : Bool) (frame : Option Frame) (frames : List Frame)
    → opened o (if b then cons_option frame frames else frames) ≡ (opened o frames && not (b && closes_it (version_in o) frame))
opened_now o true None frames = sym (no_less (opened o frames))
opened_now o true (Some frame) frames = still_all (is_some o) (list_any (closes (version_in o)) frames) (closes (version_in o) frame)
opened_now o false frame frames = sym (no_less (opened o frames))

frames_now : (events : List Event) (event : Event) (id : Text) → frames_of (event ∷ events) id ≡ (if is_of id event then cons_option (frame_of event) (frames_of events id) else frames_of events id)
frames_now events event id = by_test (is_of id event)
  where
    by_test : (b : Bool) → filter_map frame_of (if b then event ∷ filter (is_of id) events else filter (is_of id) events)
        ≡ (if b then cons_option (frame_of event) (frames_of events id) else frames_of events id)
    by_test true = refl
    by_test false = refl

-- it is closed by a frame of its own
open_now : (events : List Event) (event : Event) (id : Text) → invoked_by event ≡ None
    → is_open (event ∷ events) id ≡ (is_open events id && not (is_of id event && closes_it (version_of events id) (frame_of event)))
open_now events event id e =
    ap₂ opened (begun_before event events id e) (frames_now events event id)
    ∙ opened_now (invocation_begun events id) (is_of id event) (frame_of event) (frames_of events id)

-- ---- each event

abbrev Keeps : List Event → Text → Type 0
Keeps events id = filter (is_sleep_of id) (sleeps_kept events) ≡ open_sleeps events id

abbrev those_open : Text → Bool → List (ℕ × ℕ) → List SleepRow
those_open id b sleeps = if b then map (sleep_row id) sleeps else []

-- an event that adds no request and closes nothing
unchanged : (events : List Event) (event : Event) (id : Text) → invoked_by event ≡ None → frame_of event ≡ None → sleeps_kept (event ∷ events) ≡ sleeps_kept events
    → open_among (entries_of events id ++ added_to events event id) ≡ open_among (entries_of events id) → Keeps events id → Keeps (event ∷ events) id
unchanged events event id e silent same sleeps before =
    ap (filter (is_sleep_of id)) same ∙ before
    ∙ sym (ap₂ (those_open id)
    (open_now events event id e ∙ ap (λ (o : Option Frame). is_open events id && not (is_of id event && closes_it (version_of events id) o)) silent
    ∙ ap (λ (b : Bool). is_open events id && not b) (and_none (is_of id event)) ∙ no_less (is_open events id))
    (ap open_among (entries_now events event id e) ∙ sleeps))
  where
    and_none : (a : Bool) → (a && false) ≡ false
    and_none true = refl
    and_none false = refl

or_no_tick : (a o : Bool) → (a || (false && o)) ≡ true → a ≡ true
or_no_tick true o e = refl
or_no_tick false o e = e

-- of one invocation, by what it adds to that one
arrives : (events : List Event) (x id : Text) (event : Event) (more : List Entry) → is_tick event ≡ false → is_of id event ≡ bytes_eq x id → sleeps_of more ≡ []
    → entries_of_event (starting_state events id) (entries_of events id) event ≡ more → NoneComes more (sleeps_of (entries_of events x))
    → open_among (entries_of events id ++ added_to events event id) ≡ open_among (entries_of events id)
arrives events x id event more still named nothing adds none =
    ap (λ (added : List Entry). open_among (entries_of events id ++ (if is_of id event || (is_tick event && is_open events id) then added else []))) adds
    ∙ opens_if (entries_of events id) more (is_of id event || (is_tick event && is_open events id)) nothing
    (λ e. subst (λ (y : Text). NoneComes more (sleeps_of (entries_of events y))) ((bytes_eq-Decides x id).0 (sym named ∙ or_no_tick (is_of id event) (is_open events id) (sym (ap (λ (t : Bool). is_of id event || (t && is_open events id)) still) ∙ e))) none)

adds_nothing : (events : List Event) (event : Event) (id : Text) → entries_of_event (starting_state events id) (entries_of events id) event ≡ []
    → open_among (entries_of events id ++ added_to events event id) ≡ open_among (entries_of events id)
adds_nothing events event id adds =
    ap (λ (added : List Entry). open_among (entries_of events id ++ (if is_of id event || (is_tick event && is_open events id) then added else []))) adds
    ∙ ap (λ (added : List Entry). open_among (entries_of events id ++ added)) (both_same (is_of id event || (is_tick event && is_open events id)) [])
    ∙ ap open_among (append-nil (entries_of events id))

-- ---- a frame

own_rows : (x id : Text) (sleeps : List (ℕ × ℕ)) → filter (is_sleep_of id) (map (sleep_row x) sleeps) ≡ (if bytes_eq x id then map (sleep_row x) sleeps else [])
own_rows x id [] = sym (both_same (bytes_eq x id) [])
own_rows x id (sleep ∷ sleeps) = by_test (bytes_eq x id) (own_rows x id sleeps)
  where
    by_test : (b : Bool) → filter (is_sleep_of id) (map (sleep_row x) sleeps) ≡ (if b then map (sleep_row x) sleeps else [])
        → (if b then sleep_row x sleep ∷ filter (is_sleep_of id) (map (sleep_row x) sleeps) else filter (is_sleep_of id) (map (sleep_row x) sleeps))
        ≡ (if b then sleep_row x sleep ∷ map (sleep_row x) sleeps else [])
    by_test true h = ap (λ (rest : List SleepRow). sleep_row x sleep ∷ rest) h
    by_test false h = h

stays_open : (events : List Event) (x id : Text) (attempt : ℕ) (frame : Frame) (b : Bool) → bytes_eq x id ≡ b → (b && closes (version_of events id) frame) ≡ false
    → is_open (Event.Move x attempt frame ∷ events) id ≡ is_open events id
stays_open events x id attempt frame b e f =
    open_now events (Event.Move x attempt frame) id refl
    ∙ ap (λ (c : Bool). is_open events id && not (c && closes (version_of events id) frame)) e
    ∙ ap (λ (c : Bool). is_open events id && not c) f
    ∙ no_less (is_open events id)

and_no : (a : Bool) → (a && false) ≡ false
and_no true = refl
and_no false = refl

map-added : (id : Text) (xs ys : List (ℕ × ℕ)) → map (sleep_row id) (xs ++ ys) ≡ map (sleep_row id) xs ++ map (sleep_row id) ys
map-added id [] ys = refl
map-added id (x ∷ xs) ys = ap (λ (rest : List SleepRow). sleep_row id x ∷ rest) (map-added id xs ys)

of_command : (events : List Event) (x id : Text) (attempt : ℕ) (request : Request) → IsAccepted (Event.Move x attempt (Frame.Command request) ∷ events) → Keeps events id
    → Keeps (Event.Move x attempt (Frame.Command request) ∷ events) id
of_command events x id attempt request accepted before = by_test (bytes_eq x id) refl
  where
    rows : filter (is_sleep_of id) (sleeps_kept (Event.Move x attempt (Frame.Command request) ∷ events))
        ≡ open_sleeps events id ++ (if bytes_eq x id then sleeps_opened x request else [])
    rows =
        filter-append (is_sleep_of id) (sleeps_kept events) (sleeps_opened x request)
        ∙ ap₂ (λ (xs ys : List SleepRow). xs ++ ys) before (own_rows x id (filter can_be_due (sleep_in request)))

    open_same : is_open (Event.Move x attempt (Frame.Command request) ∷ events) id ≡ is_open events id
    open_same = stays_open events x id attempt (Frame.Command request) (bytes_eq x id) refl (and_no (bytes_eq x id))

    entries : entries_of (Event.Move x attempt (Frame.Command request) ∷ events) id ≡ entries_of events id ++ added_to events (Event.Move x attempt (Frame.Command request)) id
    entries = entries_now events (Event.Move x attempt (Frame.Command request)) id refl

    by_test : (b : Bool) → bytes_eq x id ≡ b → Keeps (Event.Move x attempt (Frame.Command request) ∷ events) id
    by_test true e =
        let same : x ≡ id = (bytes_eq-Decides x id).0 e in
        let live : is_open events id ≡ true = open_when_accepted events (Event.Move x attempt (Frame.Command request)) id refl e accepted.0 in
        let state = state_after (requests_in (entries_of events id)) (starting_state events id) in
        let up : do_ascend (last_completion (requests_in (entries_of events id))) (completions_asked request) ≡ true =
        subst (λ (y : Text). do_ascend (last_completion (requests_in (entries_of events y))) (completions_asked request) ≡ true) same (command_above events x attempt request accepted.0) in
        let added : open_among (entries_of (Event.Move x attempt (Frame.Command request) ∷ events) id) ≡ open_among (entries_of events id) ++ filter can_be_due (sleep_in request) =
        ap open_among entries
        ∙ ap (λ (b : Bool). open_among (entries_of events id ++ (if b || (false && is_open events id) then Recorded request ∷ map Arrived (read_answer state request) else []))) e
        ∙ command_opens (entries_of events id) state request (λ n. (answers_once n id events accepted.1).0) up in
        rows
        ∙ ap₂ (λ (b : Bool) (y : Text). open_sleeps events id ++ (if b then sleeps_opened y request else [])) e same
        ∙ ap (λ (b : Bool). those_open id b (open_among (entries_of events id)) ++ sleeps_opened id request) live
        ∙ sym (map-added id (open_among (entries_of events id)) (filter can_be_due (sleep_in request)))
        ∙ sym (ap₂ (those_open id) (open_same ∙ live) added)
    by_test false e =
        let kept : open_among (entries_of (Event.Move x attempt (Frame.Command request) ∷ events) id) ≡ open_among (entries_of events id) =
        ap open_among (entries
        ∙ ap (λ (more : List Entry). entries_of events id ++ more) (foreign_adds (starting_state events id) events (Event.Move x attempt (Frame.Command request)) id (entries_of events id) e refl)
        ∙ append-nil (entries_of events id)) in
        rows
        ∙ ap (λ (b : Bool). open_sleeps events id ++ (if b then sleeps_opened x request else [])) e
        ∙ append-nil (open_sleeps events id)
        ∙ sym (ap₂ (those_open id) open_same kept)

-- a frame that adds no entry, and may close its invocation
of_closing : (events : List Event) (x id : Text) (attempt : ℕ) (frame : Frame)
    → entries_of_event (starting_state events id) (entries_of events id) (Event.Move x attempt frame) ≡ []
    → sleeps_kept (Event.Move x attempt frame ∷ events) ≡ (if closes (version_of events x) frame then filter (λ s. not (is_sleep_of x s)) (sleeps_kept events) else sleeps_kept events)
    → Keeps events id → Keeps (Event.Move x attempt frame ∷ events) id
of_closing events x id attempt frame adds rows before =
    ap (filter (is_sleep_of id)) rows ∙ by_cases (bytes_eq x id) refl (closes (version_of events x) frame) refl
  where
    sleeps : open_among (entries_of (Event.Move x attempt frame ∷ events) id) ≡ open_among (entries_of events id)
    sleeps = ap open_among (entries_now events (Event.Move x attempt frame) id refl) ∙ adds_nothing events (Event.Move x attempt frame) id adds

    goes_on : is_open (Event.Move x attempt frame ∷ events) id ≡ is_open events id → filter (is_sleep_of id) (sleeps_kept events) ≡ open_sleeps (Event.Move x attempt frame ∷ events) id
    goes_on same = before ∙ sym (ap₂ (those_open id) same sleeps)

    by_cases : (b : Bool) → bytes_eq x id ≡ b → (c : Bool) → closes (version_of events x) frame ≡ c
        → filter (is_sleep_of id) (if c then filter (λ s. not (is_sleep_of x s)) (sleeps_kept events) else sleeps_kept events) ≡ open_sleeps (Event.Move x attempt frame ∷ events) id
    by_cases true e true f =
        let same : x ≡ id = (bytes_eq-Decides x id).0 e in
        let over : is_open (Event.Move x attempt frame ∷ events) id ≡ false =
        open_now events (Event.Move x attempt frame) id refl
        ∙ ap₂ (λ (b c : Bool). is_open events id && not (b && c)) e (subst (λ (y : Text). closes (version_of events y) frame ≡ true) same f)
        ∙ and_no (is_open events id) in
        ap (λ (y : Text). filter (is_sleep_of id) (filter (λ s. not (is_sleep_of y s)) (sleeps_kept events))) same
        ∙ drops_all (is_sleep_of id) (sleeps_kept events)
        ∙ sym (ap (λ (b : Bool). those_open id b (open_among (entries_of (Event.Move x attempt frame ∷ events) id))) over)
    by_cases true e false f =
        let same : x ≡ id = (bytes_eq-Decides x id).0 e in
        goes_on (stays_open events x id attempt frame true e (subst (λ (y : Text). closes (version_of events y) frame ≡ false) same f))
    by_cases false e true f =
        filter-filter (is_sleep_of id) (λ s. not (is_sleep_of x s)) (λ s own. ap not (other_row s own)) (sleeps_kept events)
        ∙ goes_on (stays_open events x id attempt frame false e refl)
      where
        other_row : (s : SleepRow) → is_sleep_of id s ≡ true → is_sleep_of x s ≡ false
        other_row s own = by_test (is_sleep_of x s) refl
          where
            by_test : (b : Bool) → is_sleep_of x s ≡ b → b ≡ false
            by_test true g =
                absurd (true≢false (sym ((bytes_eq-Decides x id).1 (sym ((bytes_eq-Decides s.invocation x).0 g) ∙ (bytes_eq-Decides s.invocation id).0 own)) ∙ e))
            by_test false g = refl
    by_cases false e false f = goes_on (stays_open events x id attempt frame false e refl)

of_outcome : (events : List Event) (x id : Text) (attempt k : ℕ) (value : NonEmptyValue) (is_acknowledged : Bool)
    → IsAccepted (Event.Move x attempt (Frame.RunOutcome k value is_acknowledged) ∷ events) → Keeps events id → Keeps (Event.Move x attempt (Frame.RunOutcome k value is_acknowledged) ∷ events) id
of_outcome events x id attempt k value is_acknowledged accepted before =
    before
    ∙ sym (ap₂ (those_open id)
    (stays_open events x id attempt (Frame.RunOutcome k value is_acknowledged) (bytes_eq x id) refl (and_no (bytes_eq x id)))
    (ap open_among (entries_now events (Event.Move x attempt (Frame.RunOutcome k value is_acknowledged)) id refl)
    ∙ arrives events x id (Event.Move x attempt (Frame.RunOutcome k value is_acknowledged)) (Arrived (completion k (result_of_value value)) ∷ []) refl refl refl refl
    (none_by k (entries_of events x) (result_of_value value) (no_sleep_asks events x k accepted.1 (outcome_awake events x attempt k value is_acknowledged accepted.0)))))

of_frame : (events : List Event) (x id : Text) (attempt : ℕ) (frame : Frame) → IsAccepted (Event.Move x attempt frame ∷ events) → Keeps events id → Keeps (Event.Move x attempt frame ∷ events) id
of_frame events x id attempt (Frame.Command request) accepted before = of_command events x id attempt request accepted before
of_frame events x id attempt (Frame.RunOutcome k value is_acknowledged) accepted before = of_outcome events x id attempt k value is_acknowledged accepted before
of_frame events x id attempt frame accepted before = of_closing events x id attempt frame refl refl before

-- ---- a new invocation

of_begin : (events : List Event) (new : NewInvocation) (id : Text) → IsAccepted (Event.Invoke new ∷ events) → Keeps events id → Keeps (Event.Invoke new ∷ events) id
of_begin events new id accepted before = by_test (bytes_eq new.id id) refl
  where
    by_test : (b : Bool) → bytes_eq new.id id ≡ b → Keeps (Event.Invoke new ∷ events) id
    by_test true e =
        let same : new.id ≡ id = (bytes_eq-Decides new.id id).0 e in
        let unknown : invocation_begun events id ≡ None =
        none_of (invocation_begun events id) (subst (λ (x : Text). is_some (invocation_begun events x) ≡ false) same (begin_when_new events new accepted.0)) in
        let start = starting_state (Event.Invoke new ∷ events) id in
        let nothing : entries_of (Event.Invoke new ∷ events) id ≡ [] =
        ap₂ (λ (xs ys : List Entry). xs ++ ys) (no_entries start events accepted.1 id unknown) (both_same (bytes_eq new.id id || false) []) in
        let not_open : is_open events id ≡ false = ap (λ (o : Option NewInvocation). opened o (frames_of events id)) unknown in
        before
        ∙ ap (λ (b : Bool). those_open id b (open_among (entries_of events id))) not_open
        ∙ sym (ap (λ (entries : List Entry). those_open id (is_open (Event.Invoke new ∷ events) id) (open_among entries)) nothing ∙ both_same (is_open (Event.Invoke new ∷ events) id) [])
    by_test false e =
        before
        ∙ sym (ap₂ (those_open id) (same_open events (Event.Invoke new) id (inl e))
        (ap open_among (same_entries events (Event.Invoke new) id (inl e) (foreign_adds (starting_state events id) events (Event.Invoke new) id (entries_of events id) e refl))))

-- ---- a tick

le_int : (m n : ℕ) → is_le (int_cmp (pos m) (pos n)) ≡ nat_le m n
le_int m n = by_cases (nat_lt m n) refl (nat_lt n m) refl
  where
    by_cases : (a : Bool) → nat_lt m n ≡ a → (b : Bool) → nat_lt n m ≡ b → is_le (cond a Less (cond b Greater Equal)) ≡ nat_le m n
    by_cases true e b f = sym (le-leb m n (omega (arith, ltb-true m n e)))
    by_cases false e true f = sym (lt-leb m n (ltb-true n m f))
    by_cases false e false f = sym (le-leb m n (ltb-false n m f))

small_until : (now : ℕ) → due_until now < 2 ^ 63
small_until now = by_test (nat_lt now (2 ^ 63)) refl
  where
    by_test : (b : Bool) → nat_lt now (2 ^ 63) ≡ b → (if b then now else 2 ^ 63 - 1) < 2 ^ 63
    by_test true e = ltb-true now (2 ^ 63) e
    by_test false e = omega arith

le_until : (moment now : ℕ) → moment < 2 ^ 63 → nat_le moment (due_until now) ≡ nat_le moment now
le_until moment now small = by_test (nat_lt now (2 ^ 63)) refl
  where
    by_test : (b : Bool) → nat_lt now (2 ^ 63) ≡ b → nat_le moment (if b then now else 2 ^ 63 - 1) ≡ nat_le moment now
    by_test true e = refl
    by_test false e = le-leb moment (2 ^ 63 - 1) (omega (arith, small)) ∙ sym (le-leb moment now (omega (arith, small, ltb-false now (2 ^ 63) e)))

-- the row of a sleep that can be due tells whether its moment has come
pub due_told : (id : Text) (sleep : ℕ × ℕ) (now : ℕ) → can_be_due sleep ≡ true → ends_by (due_until now) (sleep_row id sleep) ≡ nat_le sleep.0 now
due_told id sleep now can =
    let small : sleep.0 < 2 ^ 63 = ltb-true sleep.0 (2 ^ 63) can in
    ap₂ (λ a b. is_le (int_cmp a b)) (to_z_pos w64 sleep.0 small) (to_z_pos w64 (due_until now) (small_until now))
    ∙ le_int sleep.0 (due_until now) ∙ le_until sleep.0 now small

-- a sleep is the only one of its completion
pub alone : (sleeps : List (ℕ × ℕ)) → ((n : ℕ) → count n sleeps ≤ 1) → AllByRecursion (λ (sleep : ℕ × ℕ). filter (ends_at sleep.1) sleeps ≡ sleep ∷ []) sleeps
alone [] once = tt
alone (first ∷ sleeps) once = (
  here (count_rest (first.1 == first.1) (eq-eqb first.1 first.1 refl) (once first.1)),
  all_weaker (λ (sleep : ℕ × ℕ). filter (ends_at sleep.1) sleeps ≡ sleep ∷ []) (λ (sleep : ℕ × ℕ). filter (ends_at sleep.1) (first ∷ sleeps) ≡ sleep ∷ [])
      (λ sleep is. later sleep is (first.1 == sleep.1) refl) sleeps (alone sleeps (λ n. fewer n (first.1 == n) (once n))),
)
  where
    count_rest : (b : Bool) → b ≡ true → length (if b then first ∷ filter (ends_at first.1) sleeps else filter (ends_at first.1) sleeps) ≤ 1 → filter (ends_at first.1) sleeps ≡ []
    count_rest true e few = none (filter (ends_at first.1) sleeps) few
      where
        none : (xs : List (ℕ × ℕ)) → length (first ∷ xs) ≤ 1 → xs ≡ []
        none [] few = refl
        none (x ∷ xs) few = absurd (omega (arith, few))
    count_rest false e few = cc

    here : filter (ends_at first.1) sleeps ≡ [] → filter (ends_at first.1) (first ∷ sleeps) ≡ first ∷ []
    here none = rw (eq-eqb first.1 first.1 refl) (ap (λ (rest : List (ℕ × ℕ)). first ∷ rest) none)

    fewer : (n : ℕ) (b : Bool) → length (if b then first ∷ filter (ends_at n) sleeps else filter (ends_at n) sleeps) ≤ 1 → count n sleeps ≤ 1
    fewer n true few = omega (arith, few)
    fewer n false few = few

    later : (sleep : ℕ × ℕ) → filter (ends_at sleep.1) sleeps ≡ sleep ∷ [] → (b : Bool) → (first.1 == sleep.1) ≡ b → filter (ends_at sleep.1) (first ∷ sleeps) ≡ sleep ∷ []
    later sleep is true e = absurd (twice (subst (λ (b : Bool). length (if b then first ∷ filter (ends_at sleep.1) sleeps else filter (ends_at sleep.1) sleeps) ≤ 1) e (once sleep.1)) (ap length is))
      where
        twice : length (first ∷ filter (ends_at sleep.1) sleeps) ≤ 1 → length (filter (ends_at sleep.1) sleeps) ≡ 1 → ⊥
        twice few one = omega (arith, few, one)
    later sleep is false e = rw e is

pub all_alone : (events : List Event) (id : Text) → IsAccepted events
    → AllByRecursion (λ (sleep : ℕ × ℕ). filter (ends_at sleep.1) (sleeps_of (entries_of events id)) ≡ sleep ∷ []) (sleeps_of (entries_of events id))
all_alone events id accepted = alone (sleeps_of (entries_of events id)) (λ n. one_sleep n 0 (requests_in (entries_of events id)) (ascends id events accepted))

any_answer : (n : ℕ) (sleeps : List (ℕ × ℕ)) → list_any (completes n) (map answer_of_sleep sleeps) ≡ list_any (ends_at n) sleeps
any_answer n [] = refl
any_answer n (sleep ∷ sleeps) = ap (λ (b : Bool). (sleep.1 == n) || b) (any_answer n sleeps)

is_one : (b : Bool) (sleep : ℕ × ℕ) → is_some_of (if b then sleep ∷ [] else []) ≡ b
is_one true sleep = refl
is_one false sleep = refl

-- its answer is among those of a tick where it is over
ended_told : (entries : List Entry) (now : ℕ) (sleep : ℕ × ℕ) → filter (ends_at sleep.1) (sleeps_of entries) ≡ sleep ∷ []
    → list_any (completes sleep.1) (slept entries now) ≡ is_sleep_over entries now sleep
ended_told entries now sleep is =
    let sleeps = sleeps_of entries in
    any_answer sleep.1 (filter (is_sleep_over entries now) (sorted_by_moment sleeps))
    ∙ list_any-IsPermutation (ends_at sleep.1) (filter (is_sleep_over entries now) (sorted_by_moment sleeps)) (filter (is_sleep_over entries now) sleeps)
    (IsPermutation-filter (is_sleep_over entries now) (sorted_by_moment sleeps) sleeps (sorted_same sleeps))
    ∙ any-filter (ends_at sleep.1) (filter (is_sleep_over entries now) sleeps)
    ∙ ap is_some_of (filter_swap (ends_at sleep.1) (is_sleep_over entries now) sleeps ∙ ap (filter (is_sleep_over entries now)) is)
    ∙ is_one (is_sleep_over entries now sleep) sleep

module _ (events : List Event) (now : ℕ) (id : Text) (accepted : IsAccepted events) (before : Keeps events id) where
  abbrev stays : SleepRow → Bool
  stays s = not (ends_by (due_until now) s)

  still_there : (sleep : ℕ × ℕ) → filter (ends_at sleep.1) (sleeps_of (entries_of events id)) ≡ sleep ∷ []
      → (is_open_sleep (entries_of events id) sleep && not (ends_by (due_until now) (sleep_row id sleep))) ≡ is_open_sleep (entries_of events id ++ map Arrived (slept (entries_of events id) now)) sleep
  still_there sleep is =
      by_both (can_be_due sleep) refl (is_awaited (entries_of events id) sleep.1) refl
      ∙ sym (ap (λ (b : Bool). can_be_due sleep && b)
      (awaited-append (entries_of events id) (map Arrived (slept (entries_of events id) now)) sleep.1
      ∙ ap (λ (b : Bool). is_awaited (entries_of events id) sleep.1 && not b)
      (ap (list_any (completes sleep.1)) (arrivals_in-arrived (slept (entries_of events id) now)) ∙ ended_told (entries_of events id) now sleep is)))
    where
      by_both : (c : Bool) → can_be_due sleep ≡ c → (a : Bool) → is_awaited (entries_of events id) sleep.1 ≡ a
          → ((c && a) && not (ends_by (due_until now) (sleep_row id sleep))) ≡ (c && (a && not (nat_le sleep.0 now && (c && a))))
      by_both true e true f = ap not (due_told id sleep now e ∙ sym (no_less (nat_le sleep.0 now)))
      by_both true e false f = refl
      by_both false e a f = refl

  left : filter (λ sleep. not (ends_by (due_until now) (sleep_row id sleep))) (open_among (entries_of events id)) ≡ open_among (entries_of events id ++ map Arrived (slept (entries_of events id) now))
  left =
      let sleeps = sleeps_of (entries_of events id) in
      let test = is_open_sleep (entries_of events id ++ map Arrived (slept (entries_of events id) now)) in
      sym (filter_both (is_open_sleep (entries_of events id)) (λ sleep. not (ends_by (due_until now) (sleep_row id sleep))) sleeps)
      ∙ filter_on (λ sleep. is_open_sleep (entries_of events id) sleep && not (ends_by (due_until now) (sleep_row id sleep))) test sleeps
      (all_weaker (λ (sleep : ℕ × ℕ). filter (ends_at sleep.1) sleeps ≡ sleep ∷ [])
      (λ sleep. (is_open_sleep (entries_of events id) sleep && not (ends_by (due_until now) (sleep_row id sleep))) ≡ test sleep) still_there sleeps (all_alone events id accepted))
      ∙ sym (ap (λ (requests : List Request). filter test (sleeps_in requests))
      (requests_in-append (entries_of events id) (map Arrived (slept (entries_of events id) now))
      ∙ ap (λ (more : List Request). requests_in (entries_of events id) ++ more) (requests_in-arrived (slept (entries_of events id) now))
      ∙ append-nil (requests_in (entries_of events id))))

  by_open : (o : Bool)
      → filter stays (those_open id o (open_among (entries_of events id)))
      ≡ those_open id o (open_among (entries_of events id ++ (if o then map Arrived (slept (entries_of events id) now) else [])))
  by_open true = filter-map stays (sleep_row id) (open_among (entries_of events id)) ∙ ap (map (sleep_row id)) left
  by_open false = refl

  of_tick : Keeps (Event.Tick now ∷ events) id
  of_tick =
      filter_swap (is_sleep_of id) stays (sleeps_kept events)
      ∙ ap (filter stays) before
      ∙ by_open (is_open events id)
      ∙ sym (ap₂ (those_open id) (open_now events (Event.Tick now) id refl ∙ no_less (is_open events id)) (ap open_among (entries_now events (Event.Tick now) id refl)))

-- ---- all events

keeps : (id : Text) (events : List Event) → IsAccepted events → Keeps events id
keeps id [] accepted = refl
keeps id (Event.Invoke new ∷ events) accepted = of_begin events new id accepted (keeps id events accepted.1)
keeps id (Event.Result x k result ∷ events) accepted =
    unchanged events (Event.Result x k result) id refl refl refl
    (arrives events x id (Event.Result x k result) (Arrived (completion k result) ∷ []) refl refl refl refl
    (none_by k (entries_of events x) result (no_sleep_asks events x k accepted.1 (completed_awake events x k result accepted.0))))
    (keeps id events accepted.1)
keeps id (Event.Signal x key result ∷ events) accepted =
    unchanged events (Event.Signal x key result) id refl refl refl
    (arrives events x id (Event.Signal x key result) (Arrived (record { id = id_of_signal key; result = result }) ∷ []) refl refl refl refl (none_by_signal (entries_of events x) key result))
    (keeps id events accepted.1)
keeps id (Event.Cancel x ∷ events) accepted =
    unchanged events (Event.Cancel x) id refl refl refl
    (arrives events x id (Event.Cancel x) (entries_of_event (starting_state events id) (entries_of events id) (Event.Cancel x)) refl refl refl refl
    (each (λ (sleep : ℕ × ℕ). false ≡ false) (λ sleep. refl) (sleeps_of (entries_of events x))))
    (keeps id events accepted.1)
keeps id (Event.Tick now ∷ events) accepted = of_tick events now id accepted.1 (keeps id events accepted.1)
keeps id (Event.Move x attempt frame ∷ events) accepted = of_frame events x id attempt frame accepted (keeps id events accepted.1)
keeps id (event ∷ events) accepted = unchanged events event id refl refl refl (adds_nothing events event id refl) (keeps id events accepted.1)

pub sleeps_kept_after : SleepsKeptAfter
sleeps_kept_after events id accepted = keeps id events accepted
