-- A completion is asked for once: requests ask in ascending order.
use Rattle.std.proofs.Common.{ℕ, ◌+◌, max, ◌<◌, ◌≤◌, arith, ◌==◌, nat_lt, ◌≡◌, refl, sym, ap, ap₂, subst, ◌∙◌, true≢false, Bool, true, false, ◌||◌, ◌&&◌, if◌then◌else◌, List, [], ◌∷◌, ◌++◌, append-nil, filter, Option, Some, None, option_map, option_and_then, option_to_list, bytes_eq}
use Rattle.std.specs.List.{list_any}
use Rattle.std.proofs.lemmas.Bool.{eqb-true, ne_eqb, ltb-true}
use Rattle.std.proofs.lemmas.Slice.Eq.{bytes_eq-Decides}
use Rattle.journal_model.specs.Notification.{Text, Arrival}
use Rattle.journal_model.specs.Request.{Request, completions_asked}
use Rattle.journal_model.specs.declared.invocation.NewInvocation.{NewInvocation}
use Rattle.journal_model.specs.Event.{Frame, Event}
use Rattle.journal_model.specs.Journal.{Entry, Recorded, Arrived, asks_for, is_of, is_tick, invoked_by, invocation_begun, is_open, starting_state, entries_of, requests_in, request_asking}
use Rattle.journal_model.specs.Cause.{IsAccepted, causes_of, tests_of, do_ascend, greatest, last_completion}
use Rattle.journal_laws.proofs.ObjectState.{holds-head, holds-tail, tail_of, not-false, requests_in-append, no_entries}
use Rattle.store_tables.specs.declared.row.EntryRow.{EntryRow}
use Rattle.store_tables.specs.Questions.{is_number}
use Rattle.store_model.specs.Progress.{first_item, second_of}
use Rattle.store_model.specs.KeptRecords.{entry_row, rows_from, input_row, rows_of_journal, journal_rows}
use Rattle.store_model.proofs.Journals.{added_to}
use Rattle.store_model.specs.Lookups.{asked_at, row_if, AllAskOnce}
use Rattle.store_model.proofs.Only.{filter_both}
use Rattle.store_model.proofs.Opening.{both_parts, or_nothing}
use Rattle.store_model.proofs.Growing.{by_growth, requests_added}

-- ---- requests ask in ascending order

abbrev pub ascend_from : ℕ → List Request → Bool
ascend_from last [] = true
ascend_from last (request ∷ requests) = do_ascend last (completions_asked request) && ascend_from (max last (greatest (completions_asked request))) requests

and_assoc : (a b c : Bool) → (a && (b && c)) ≡ ((a && b) && c)
and_assoc true b c = refl
and_assoc false b c = refl

and_true : (a : Bool) → (a && true) ≡ a
and_true true = refl
and_true false = refl

max_zero : (n : ℕ) → n ≡ max n 0
max_zero n = omega arith

max_twice : (a b c : ℕ) → max (max a b) c ≡ max a (max b c)
max_twice a b c = omega arith

zero_max : (n : ℕ) → max 0 n ≡ n
zero_max n = omega arith

ascend_from-push : (last : ℕ) (requests : List Request) (request : Request)
    → ascend_from last (requests ++ request ∷ []) ≡ (ascend_from last requests && do_ascend (max last (last_completion requests)) (completions_asked request))
ascend_from-push last [] request =
    and_true (do_ascend last (completions_asked request)) ∙ ap (λ (n : ℕ). do_ascend n (completions_asked request)) (max_zero last)
ascend_from-push last (first ∷ requests) request =
    let next = max last (greatest (completions_asked first)) in
    ap (λ (b : Bool). do_ascend last (completions_asked first) && b)
    (ascend_from-push next requests request
    ∙ ap (λ (n : ℕ). ascend_from next requests && do_ascend n (completions_asked request)) (max_twice last (greatest (completions_asked first)) (last_completion requests)))
    ∙ and_assoc (do_ascend last (completions_asked first)) (ascend_from next requests) (do_ascend (max last (max (greatest (completions_asked first)) (last_completion requests))) (completions_asked request))

abbrev pub Ascends : List Entry → Type 0
Ascends entries = ascend_from 0 (requests_in entries) ≡ true

-- an accepted command asks above all earlier ones
command_ascends : (events : List Event) (id : Text) (attempt : ℕ) (request : Request) → causes_of events (Event.Move id attempt (Frame.Command request)) ≡ []
    → do_ascend (last_completion (requests_in (entries_of events id))) (completions_asked request) ≡ true
command_ascends events id attempt request accepted =
    let tests = tests_of events (Event.Move id attempt (Frame.Command request)) in
    not-false (do_ascend (last_completion (requests_in (entries_of events id))) (completions_asked request))
    (holds-head (tail_of (tail_of (tail_of tests))) (holds-tail (tail_of (tail_of tests)) (holds-tail (tail_of tests) (holds-tail tests accepted))))

nothing_more : (events : List Event) (event : Event) (id : Text) → requests_in (added_to events event id) ≡ [] → Ascends (entries_of events id)
    → Ascends (entries_of events id ++ added_to events event id)
nothing_more events event id nothing before =
    ap (ascend_from 0)
    (requests_in-append (entries_of events id) (added_to events event id)
    ∙ ap (λ (more : List Request). requests_in (entries_of events id) ++ more) nothing
    ∙ append-nil (requests_in (entries_of events id)))
    ∙ before

if_nothing : (b : Bool) → ◌≡◌ {A = List Request} (if b then [] else []) []
if_nothing true = refl
if_nothing false = refl

still_ascends : (id : Text) (events : List Event) (event : Event) → IsAccepted (event ∷ events) → invoked_by event ≡ None → Ascends (entries_of events id)
    → Ascends (entries_of events id ++ added_to events event id)
still_ascends id events (Event.Move x attempt (Frame.Command request)) accepted e before =
    by_test (bytes_eq x id) refl
  where
    added : requests_in (added_to events (Event.Move x attempt (Frame.Command request)) id) ≡ (if bytes_eq x id then request ∷ [] else [])
    added =
        requests_added events (Event.Move x attempt (Frame.Command request)) id
        ∙ ap (λ (b : Bool). if b then request ∷ [] else []) (or_nothing (bytes_eq x id))

    by_test : (b : Bool) → bytes_eq x id ≡ b → Ascends (entries_of events id ++ added_to events (Event.Move x attempt (Frame.Command request)) id)
    by_test true f =
        let same : x ≡ id = (bytes_eq-Decides x id).0 f in
        let all = requests_in (entries_of events id) in
        let above : do_ascend (last_completion (requests_in (entries_of events id))) (completions_asked request) ≡ true =
        subst (λ (y : Text). do_ascend (last_completion (requests_in (entries_of events y))) (completions_asked request) ≡ true) same (command_ascends events x attempt request accepted.0) in
        ap (ascend_from 0)
        (requests_in-append (entries_of events id) (added_to events (Event.Move x attempt (Frame.Command request)) id)
        ∙ ap (λ (more : List Request). all ++ more) (added ∙ ap (λ (b : Bool). if b then request ∷ [] else []) f))
        ∙ ascend_from-push 0 all request
        ∙ ap₂ (λ (a b : Bool). a && b) before (ap (λ (n : ℕ). do_ascend n (completions_asked request)) (zero_max (last_completion all)) ∙ above)
    by_test false f =
        nothing_more events (Event.Move x attempt (Frame.Command request)) id (added ∙ ap (λ (b : Bool). if b then request ∷ [] else []) f) before
still_ascends id events event accepted e before =
    nothing_more events event id (requests_added events event id ∙ if_nothing (is_of id event || (is_tick event && is_open events id))) before

pub ascends : (id : Text) (events : List Event) → IsAccepted events → Ascends (entries_of events id)
ascends id events accepted = by_growth id Ascends refl (still_ascends id) events accepted

-- ---- what is asked for above a number is not that number

pub above_none : (last n : ℕ) (ids : List ℕ) → n ≤ last → do_ascend last ids ≡ true → list_any (λ m. m == n) ids ≡ false
above_none last n [] below up = refl
above_none last n (m ∷ ids) below up =
    let (less, rest) = both_parts (nat_lt last m) (do_ascend m ids) up in
    let above : last < m = ltb-true last m less in
    ap₂ (λ (a b : Bool). a || b) (ne_eqb m n (λ e. apart above e)) (above_none m n ids (omega arith) rest)
  where
    apart : last < m → m ≡ n → ⊥
    apart above e = omega arith

pub below_greatest : (n : ℕ) (ids : List ℕ) → list_any (λ m. m == n) ids ≡ true → n ≤ greatest ids
below_greatest n [] e = cc
below_greatest n (m ∷ ids) e = by_test (m == n) refl e (below_greatest n ids)
  where
    by_test : (b : Bool) → (m == n) ≡ b → (b || list_any (λ k. k == n) ids) ≡ true → (list_any (λ k. k == n) ids ≡ true → n ≤ greatest ids) → n ≤ max m (greatest ids)
    by_test true f e later = let same : m ≡ n = eqb-true m n f in omega arith
    by_test false f e later = let below : n ≤ greatest ids = later e in omega arith

-- ---- the rows of requests that ask, first or second: by the column and what a request has there

module _ (id : Text) (n : ℕ) (column : EntryRow → Option ℕ) (asked : Request → Option ℕ)
    (of_request : (before : List Entry) (place : ℕ) (request : Request) → column (entry_row id before place (Recorded request)) ≡ asked request)
    (of_arrival : (before : List Entry) (place : ℕ) (arrival : Arrival) → column (entry_row id before place (Arrived arrival)) ≡ None)
    (is_asked : (request : Request) → is_number n (asked request) ≡ true → asks_for n request ≡ true) where
  abbrev passes : EntryRow → Bool
  passes row = is_number n (column row)

  not_asked : (request : Request) → asks_for n request ≡ false → is_number n (asked request) ≡ false
  not_asked request e = by_test (is_number n (asked request)) refl
    where
      by_test : (b : Bool) → is_number n (asked request) ≡ b → b ≡ false
      by_test true f = absurd (true≢false (sym (is_asked request f) ∙ e))
      by_test false f = refl

  skips : (row : EntryRow) (rows : List EntryRow) → is_number n (column row) ≡ false → filter passes (row ∷ rows) ≡ filter passes rows
  skips row rows e = rw e refl

  none_later : (before : List Entry) (place last : ℕ) (entries : List Entry) → n ≤ last → ascend_from last (requests_in entries) ≡ true
      → filter passes (rows_from id before place entries) ≡ []
  none_later before place last [] below up = refl
  none_later before place last (Arrived arrival ∷ entries) below up =
      skips (entry_row id before place (Arrived arrival)) (rows_from id (before ++ Arrived arrival ∷ []) (place + 1) entries) (ap (is_number n) (of_arrival before place arrival))
      ∙ none_later (before ++ Arrived arrival ∷ []) (place + 1) last entries below up
  none_later before place last (Recorded request ∷ entries) below up =
      let (here, rest) = both_parts (do_ascend last (completions_asked request)) (ascend_from (max last (greatest (completions_asked request))) (requests_in entries)) up in
      skips (entry_row id before place (Recorded request)) (rows_from id (before ++ Recorded request ∷ []) (place + 1) entries)
      (ap (is_number n) (of_request before place request) ∙ not_asked request (above_none last n (completions_asked request) below here))
      ∙ none_later (before ++ Recorded request ∷ []) (place + 1) (max last (greatest (completions_asked request))) entries (omega arith) rest

  abbrev row_of : ℕ × Request → Option EntryRow
  row_of pair = row_if id (is_number n (asked pair.1)) pair

  pub asks_once : (before : List Entry) (place last : ℕ) (entries : List Entry) → ascend_from last (requests_in entries) ≡ true
      → filter passes (rows_from id before place entries) ≡ option_to_list (option_and_then row_of (asked_at place entries n))
  asks_once before place last [] up = refl
  asks_once before place last (Arrived arrival ∷ entries) up =
      skips (entry_row id before place (Arrived arrival)) (rows_from id (before ++ Arrived arrival ∷ []) (place + 1) entries) (ap (is_number n) (of_arrival before place arrival))
      ∙ asks_once (before ++ Arrived arrival ∷ []) (place + 1) last entries up
  asks_once before place last (Recorded request ∷ entries) up =
      let (here, rest) = both_parts (do_ascend last (completions_asked request)) (ascend_from (max last (greatest (completions_asked request))) (requests_in entries)) up in
      by_test (asks_for n request) refl rest (asks_once (before ++ Recorded request ∷ []) (place + 1) (max last (greatest (completions_asked request))) entries rest)
    where
      by_test : (b : Bool) → asks_for n request ≡ b → ascend_from (max last (greatest (completions_asked request))) (requests_in entries) ≡ true
          → filter passes (rows_from id (before ++ Recorded request ∷ []) (place + 1) entries) ≡ option_to_list (option_and_then row_of (asked_at (place + 1) entries n))
          → filter passes (entry_row id before place (Recorded request) ∷ rows_from id (before ++ Recorded request ∷ []) (place + 1) entries)
          ≡ option_to_list (option_and_then row_of (if b then Some (place, request) else asked_at (place + 1) entries n))
      by_test true e rest more =
          ap₂ (λ (b : Bool) (rows : List EntryRow). if b then entry_row id before place (Recorded request) ∷ rows else rows)
          (ap (is_number n) (of_request before place request))
          (none_later (before ++ Recorded request ∷ []) (place + 1) (max last (greatest (completions_asked request))) entries (under (below_greatest n (completions_asked request) e)) rest)
          ∙ by_asked (is_number n (asked request))
        where
          under : n ≤ greatest (completions_asked request) → n ≤ max last (greatest (completions_asked request))
          under h = omega arith

          by_asked : (b : Bool) → (if b then entry_row id before place (Recorded request) ∷ [] else []) ≡ option_to_list (row_if id b (place, request))
          by_asked true = refl
          by_asked false = refl
      by_test false e rest more =
          skips (entry_row id before place (Recorded request)) (rows_from id (before ++ Recorded request ∷ []) (place + 1) entries)
          (ap (is_number n) (of_request before place request) ∙ not_asked request e)
          ∙ more

  -- in the whole journal, whose input asks for nothing
  pub asks_in_journal : ((new : NewInvocation) → column (input_row new) ≡ None) → (events : List Event) → IsAccepted events
      → filter passes (journal_rows events id) ≡ option_to_list (option_and_then row_of (asked_at 1 (entries_of events id) n))
  asks_in_journal of_input events accepted = by_begun (invocation_begun events id) refl
    where
      by_begun : (o : Option NewInvocation) → invocation_begun events id ≡ o
          → filter passes (rows_of_journal o id (entries_of events id)) ≡ option_to_list (option_and_then row_of (asked_at 1 (entries_of events id) n))
      by_begun None e =
          sym (ap (λ (entries : List Entry). option_to_list (option_and_then row_of (asked_at 1 entries n))) (no_entries (starting_state events id) events accepted id e))
      by_begun (Some new) e =
          skips (input_row new) (rows_from id [] 1 (entries_of events id)) (ap (is_number n) (of_input new))
          ∙ asks_once [] 1 0 (entries_of events id) (ascends id events accepted)

-- ---- first and second

first_is_asked : (n : ℕ) (ids : List ℕ) → is_number n (first_item ids) ≡ true → list_any (λ m. m == n) ids ≡ true
first_is_asked n [] e = cc
first_is_asked n (m ∷ ids) e = ap (λ (b : Bool). b || list_any (λ k. k == n) ids) e

second_is_asked : (n : ℕ) (ids : List ℕ) → is_number n (second_of ids) ≡ true → list_any (λ m. m == n) ids ≡ true
second_is_asked n [] e = cc
second_is_asked n (m ∷ ids) e = or_right (m == n) (list_any (λ k. k == n) ids) (first_is_asked n ids e)
  where
    or_right : (a b : Bool) → b ≡ true → (a || b) ≡ true
    or_right true b h = refl
    or_right false b h = h

asked_request : (place : ℕ) (entries : List Entry) (n : ℕ) → option_map (λ (asked : ℕ × Request). asked.1) (asked_at place entries n) ≡ request_asking entries n
asked_request place [] n = refl
asked_request place (Arrived arrival ∷ entries) n = asked_request (place + 1) entries n
asked_request place (Recorded request ∷ entries) n = by_test (asks_for n request) (asked_request (place + 1) entries n)
  where
    by_test : (b : Bool) → option_map (λ (asked : ℕ × Request). asked.1) (asked_at (place + 1) entries n) ≡ request_asking entries n
        → option_map (λ (asked : ℕ × Request). asked.1) (if b then Some (place, request) else asked_at (place + 1) entries n)
        ≡ (if b then Some request else request_asking entries n)
    by_test true h = refl
    by_test false h = h

pub asked_found : AllAskOnce
asked_found events r id n accepted kept = (
  filter_both (λ (e : EntryRow). bytes_eq e.invocation id) (λ (e : EntryRow). is_number n e.completion) r.entries
      ∙ ap (filter (λ (e : EntryRow). is_number n e.completion)) (kept.journals id)
      ∙ asks_in_journal id n (λ e. e.completion) (λ request. first_item (completions_asked request)) (λ before place request. refl) (λ before place arrival. refl)
      (λ request. first_is_asked n (completions_asked request)) (λ new. refl) events accepted,
  filter_both (λ (e : EntryRow). bytes_eq e.invocation id) (λ (e : EntryRow). is_number n e.second_completion) r.entries
      ∙ ap (filter (λ (e : EntryRow). is_number n e.second_completion)) (kept.journals id)
      ∙ asks_in_journal id n (λ e. e.second_completion) (λ request. second_of (completions_asked request)) (λ before place request. refl) (λ before place arrival. refl)
      (λ request. second_is_asked n (completions_asked request)) (λ new. refl) events accepted,
  asked_request 1 (entries_of events id) n,
)
