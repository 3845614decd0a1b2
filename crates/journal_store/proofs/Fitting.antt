-- The entries of an invocation fit their places: no accepted event uses them up.
use Rattle.std.proofs.Common.{◌≡◌, refl, sym, ap, subst, arith, ℕ, ◌+◌, ◌-◌, ◌<◌, ◌≤◌, ◌^◌, Bool, true, false, not, ◌&&◌, ◌||◌, if◌then◌else◌, List, [], ◌∷◌, ◌++◌, append-nil, length, length-append, Option, Some, None, is_some, bytes_eq, filter_map}
use Rattle.std.specs.List.{find, list_any}
use Rattle.std.proofs.lemmas.Bool.{ltb-false}
use Rattle.std.proofs.lemmas.Slice.Eq.{bytes_eq-Decides}
use Rattle.journal_model.specs.Notification.{Text}
use Rattle.journal_model.specs.Event.{Event}
use Rattle.journal_model.specs.declared.invocation.NewInvocation.{NewInvocation}
use Rattle.journal_model.specs.Journal.{Entry, adds_to, begins, entries_of, entries_of_event, invocation_begun, invoked_by, is_open, open_request, starting_state}
use Rattle.journal_model.specs.Cause.{IsAccepted, Tests, adding_tests, causes_of, entry_payload, entry_tests, frame_tests, is_empty, is_reserved, is_too_long, live_tests, may_signal, open_tests, places_used_up, refuses_kind, those_that_hold, tick_uses_up}
use Rattle.journal_model.specs.declared.cause.Cause.{Cause}
use Rattle.journal_model.specs.declared.cause.Cause.TheVariants.{CompletionNotOpen, NumbersUsedUp, PayloadTooLong, ReservedSignal, WrongKind}
use Rattle.input_laws.proofs.Events.{added_by, entries_first, entries_now}
use Rattle.store_invocations.proofs.Opened.{begun_named}

-- ---- tests of which none holds

none_behind : (front back : Tests) → those_that_hold (front ++ back) ≡ [] → those_that_hold back ≡ []
none_behind [] back e = e
none_behind (test ∷ front) back e = by_test test.0 e (none_behind front back)
  where
    by_test : (b : Bool) → (if b then test.1 ∷ [] else []) ++ those_that_hold (front ++ back) ≡ [] → (those_that_hold (front ++ back) ≡ [] → those_that_hold back ≡ [])
        → those_that_hold back ≡ []
    by_test true f later = cc
    by_test false f later = later f

first_none : (b : Bool) (cause : Cause) (tests : Tests) → those_that_hold ((b, cause) ∷ tests) ≡ [] → b ≡ false
first_none true cause tests e = cc
first_none false cause tests e = refl

not_found : (test named : NewInvocation → Bool) (all : List NewInvocation) (new : NewInvocation) → find named all ≡ Some new → list_any test all ≡ false → test new ≡ false
not_found test named [] new e none = cc
not_found test named (one ∷ all) new e none = by_both (named one) (test one) refl e none (not_found test named all new)
  where
    by_both : (n t : Bool) → test one ≡ t → (if n then Some one else find named all) ≡ Some new → (t || list_any test all) ≡ false
        → (find named all ≡ Some new → list_any test all ≡ false → test new ≡ false) → test new ≡ false
    by_both n true is f g later = cc
    by_both true false is f g later = let same : one ≡ new = cc in subst (λ (it : NewInvocation). test it ≡ false) same is
    by_both false false is f g later = later f g

-- an open invocation was begun
pub begun_when_open : (events : List Event) (id : Text) → is_open events id ≡ true → (new : NewInvocation) × (invocation_begun events id ≡ Some new)
begun_when_open events id opened = by_begun (invocation_begun events id) refl
  where
    by_begun : (o : Option NewInvocation) → invocation_begun events id ≡ o → (new : NewInvocation) × (o ≡ Some new)
    by_begun (Some new) e = (new, refl)
    by_begun None e = absurd (closed (and_first (is_some (invocation_begun events id)) _ opened) (ap is_some e))
      where
        and_first : (a b : Bool) → (a && b) ≡ true → a ≡ true
        and_first true b f = refl
        and_first false b f = cc

        closed : is_some (invocation_begun events id) ≡ true → is_some (invocation_begun events id) ≡ false → ⊥
        closed e f = cc

-- ---- entries that are added

abbrev Fits : List Entry → Type 0
Fits entries = 1 + length entries < 2 ^ 32

abbrev HasPlaces : List Entry → List Entry → Type 0
HasPlaces entries more = (not (is_empty more) && places_used_up entries more) ≡ false

fits_more : (entries more : List Entry) → Fits entries → HasPlaces entries more → Fits (entries ++ more)
fits_more entries [] fits places = subst Fits (sym (append-nil entries)) fits
fits_more entries (entry ∷ more) fits places =
    let within : length entries + length (entry ∷ more) ≤ 2 ^ 32 - 2 = ltb-false (2 ^ 32 - 2) (length entries + length (entry ∷ more)) places in
    omega (arith, within, length-append entries (entry ∷ more))

places_tested : (entries more : List Entry) → those_that_hold (entry_tests entries more) ≡ [] → HasPlaces entries more
places_tested entries more e = first_none (not (is_empty more) && places_used_up entries more) NumbersUsedUp ((list_any (λ entry. is_too_long (entry_payload entry)) more, PayloadTooLong) ∷ []) e

module _ (events : List Event) (id : Text) where
  abbrev HasPlacesFor : Event → Text → Type 0
  HasPlacesFor event other = HasPlaces (entries_of events other) (entries_of_event (starting_state events other) (entries_of events other) event)

  -- an event of this invocation
  own : (event : Event) (other : Text) → (bytes_eq other id || false) ≡ true → those_that_hold (adding_tests events other event) ≡ [] → HasPlacesFor event id
  own event other is e =
      subst (HasPlacesFor event) ((bytes_eq-Decides other id).0 (left (bytes_eq other id) is))
      (places_tested (entries_of events other) (entries_of_event (starting_state events other) (entries_of events other) event) e)
    where
      left : (b : Bool) → (b || false) ≡ true → b ≡ true
      left true f = refl
      left false f = cc

  -- a tick, while it is open
  ticked : (now : ℕ) → is_open events id ≡ true → tick_uses_up events now ≡ false → HasPlacesFor (Event.Tick now) id
  ticked now opened none =
      let new = begun_when_open events id opened in
      let tested = not_found (λ (one : NewInvocation). is_open events one.id && used one.id) (λ (one : NewInvocation). bytes_eq one.id id) (filter_map invoked_by events) new.0 new.1 none in
      unused (is_open events id) opened (subst (λ (one : Text). (is_open events one && used one) ≡ false) (begun_named events id new.0 new.1) tested)
    where
      used : Text → Bool
      used one = places_used_up (entries_of events one) (entries_of_event (starting_state events one) (entries_of events one) (Event.Tick now))

      some : Bool
      some = not (is_empty (entries_of_event (starting_state events id) (entries_of events id) (Event.Tick now)))

      none_used : (b : Bool) → used id ≡ false → (b && used id) ≡ false
      none_used true e = e
      none_used false e = refl

      unused : (o : Bool) → o ≡ true → (o && used id) ≡ false → (some && used id) ≡ false
      unused true e f = none_used some f
      unused false e f = cc

  has_places : (event : Event) → causes_of events event ≡ [] → adds_to events id event ≡ true → HasPlacesFor event id
  has_places (Event.Result other n result) e adds =
      own (Event.Result other n result) other adds
      (none_behind
      (open_tests events other ++ ((not (is_some (open_request (entries_of events other) n)), CompletionNotOpen) ∷ (refuses_kind (open_request (entries_of events other) n) n result, WrongKind) ∷ []))
      (adding_tests events other (Event.Result other n result)) e)
  has_places (Event.Signal other key result) e adds =
      own (Event.Signal other key result) other adds
      (none_behind (open_tests events other ++ ((not (may_signal result), WrongKind) ∷ (is_reserved key, ReservedSignal) ∷ [])) (adding_tests events other (Event.Signal other key result)) e)
  has_places (Event.Cancel other) e adds = own (Event.Cancel other) other adds (none_behind (open_tests events other) (adding_tests events other (Event.Cancel other)) e)
  has_places (Event.Move other attempt frame) e adds =
      own (Event.Move other attempt frame) other adds
      (none_behind (frame_tests events other frame) (adding_tests events other (Event.Move other attempt frame))
      (none_behind (open_tests events other ++ live_tests events other attempt) (frame_tests events other frame ++ adding_tests events other (Event.Move other attempt frame)) e))
  has_places (Event.Tick now) e adds = ticked now adds (first_none (tick_uses_up events now) NumbersUsedUp [] e)
  has_places event e adds = refl

  added_fit : (event : Event) → causes_of events event ≡ [] → Fits (entries_of events id) → Fits (entries_of events id ++ added_by events id event)
  added_fit event e fits = by_adds (adds_to events id event) refl
    where
      by_adds : (b : Bool) → adds_to events id event ≡ b
          → Fits (entries_of events id ++ (if b then entries_of_event (starting_state events id) (entries_of events id) event else []))
      by_adds true adds = fits_more (entries_of events id) (entries_of_event (starting_state events id) (entries_of events id) event) fits (has_places event e adds)
      by_adds false adds = fits_more (entries_of events id) [] fits refl

pub entries_fit : (events : List Event) (id : Text) → IsAccepted events → 1 + length (entries_of events id) < 2 ^ 32
entries_fit [] id accepted = omega arith
entries_fit (event ∷ events) id accepted = by_begins (begins id event) refl (entries_fit events id accepted.1)
  where
    by_begins : (b : Bool) → begins id event ≡ b → Fits (entries_of events id) → Fits (entries_of (event ∷ events) id)
    by_begins true e fits = subst Fits (sym (entries_first event events id accepted e)) (omega arith)
    by_begins false e fits = subst Fits (sym (entries_now event events id e)) (added_fit events id event accepted.0 fits)
