-- An accepted event makes of the kept rows of invocations what the rows are after it.
use Rattle.std.proofs.Common.{ℕ, ◌≡◌, refl, sym, ap, ap₂, subst, ◌∙◌, inl, inr, true≢false, Bool, true, false, ◌||◌, ◌&&◌, not, if◌then◌else◌, List, [], ◌∷◌, ◌++◌, append-nil, map, filter, Option, Some, is_some, bytes_eq}
use Rattle.std.specs.List.{AllByRecursion, list_any}
use Rattle.std.proofs.lemmas.List.{map-append}
use Rattle.std.proofs.lemmas.List.Elements.{filter-append}
use Rattle.std.proofs.lemmas.List.Folds.{list_any-append}
use Rattle.std.proofs.lemmas.Slice.Eq.{bytes_eq-Decides}
use Rattle.sqlite_keyed.proofs.ListLemmas.{map-map, all_weaker, all-append}
use Rattle.journal_model.specs.Notification.{Text, Arrival}
use Rattle.journal_model.specs.declared.invocation.NewInvocation.{NewInvocation}
use Rattle.journal_model.specs.Event.{Frame, Event}
use Rattle.journal_model.specs.Journal.{Entry, Arrived, is_of, is_tick, invocation_of, invocation_begun, is_open, slept, starting_state, entries_of}
use Rattle.journal_model.specs.Cause.{is_empty, causes_of}
use Rattle.journal_laws.proofs.ObjectState.{begin_when_new, begun_before}
use Rattle.store_tables.specs.declared.row.Progress.{Progress}
use Rattle.store_tables.specs.declared.row.InvocationRow.{InvocationRow}
use Rattle.store_model.specs.Progress.{progress_of}
use Rattle.store_model.specs.KeptRecords.{begun, begun_by, invocation_row}
use Rattle.store_model.specs.Writes.{ends_sleep, ids_of_frame, changed_by}
use Rattle.store_model.proofs.Lists.{map_on}
use Rattle.store_model.proofs.Same.{both_same, Leaves, same_progress, nothing_added}
use Rattle.store_model.proofs.Writing.{stepped}

-- what is stepped is set to its progress, the rest stays
pub stepped_is : (progress : Text → Progress) (ids : List Text) (i : InvocationRow)
    → stepped progress ids i ≡ (if list_any (bytes_eq i.id) ids then record i { progress = progress i.id } else i)
stepped_is progress [] i = refl
stepped_is progress (id ∷ ids) i = by_test (stepped_is progress ids) (bytes_eq i.id id) refl
  where
    by_test : ((i : InvocationRow) → stepped progress ids i ≡ (if list_any (bytes_eq i.id) ids then record i { progress = progress i.id } else i))
        → (b : Bool) → bytes_eq i.id id ≡ b
        → stepped progress ids (if b then record i { progress = progress id } else i)
        ≡ (if b || list_any (bytes_eq i.id) ids then record i { progress = progress i.id } else i)
    by_test more true e =
        let same : i.id ≡ id = (bytes_eq-Decides i.id id).0 e in
        more (record i { progress = progress id })
        ∙ ap (λ (x : Text). if list_any (bytes_eq i.id) ids then record i { progress = progress i.id } else record i { progress = progress x }) (sym same)
        ∙ both_same (list_any (bytes_eq i.id) ids) (record i { progress = progress i.id })
    by_test more false e = more i

-- the ids of which a tick changes something
pub among_chosen : (test : Text → Bool) (x : Text) (earlier : List Event)
    → list_any (bytes_eq x) (filter test (map (λ (new : NewInvocation). new.id) (begun earlier))) ≡ (is_some (invocation_begun earlier x) && test x)
among_chosen test x [] = refl
among_chosen test x (Event.Invoke new ∷ earlier) =
    ap (λ (ids : List Text). list_any (bytes_eq x) (filter test ids)) (map-append (λ (new : NewInvocation). new.id) (begun earlier) (new ∷ []))
    ∙ ap (list_any (bytes_eq x)) (filter-append test (map (λ (new : NewInvocation). new.id) (begun earlier)) (new.id ∷ []))
    ∙ list_any-append (bytes_eq x) (filter test (map (λ (new : NewInvocation). new.id) (begun earlier))) (if test new.id then new.id ∷ [] else [])
    ∙ ap₂ (λ (a b : Bool). a || b) (among_chosen test x earlier) (last (test new.id) refl (bytes_eq new.id x) refl)
    ∙ joined (bytes_eq new.id x) (invocation_begun earlier x) (test x)
  where
    last : (a : Bool) → test new.id ≡ a → (b : Bool) → bytes_eq new.id x ≡ b → list_any (bytes_eq x) (if a then new.id ∷ [] else []) ≡ (b && test x)
    last a e true f =
        let same : new.id ≡ x = (bytes_eq-Decides new.id x).0 f in
        at a (sym (ap test same) ∙ e) ((bytes_eq-Decides x new.id).1 (sym same))
      where
        at : (a : Bool) → test x ≡ a → bytes_eq x new.id ≡ true → list_any (bytes_eq x) (if a then new.id ∷ [] else []) ≡ (true && test x)
        at true e here = rw here (sym e)
        at false e here = sym e
    last true e false f = apart (bytes_eq x new.id) refl
      where
        apart : (b : Bool) → bytes_eq x new.id ≡ b → (b || false) ≡ false
        apart false g = refl
        apart true g = absurd (true≢false (sym ((bytes_eq-Decides new.id x).1 (sym ((bytes_eq-Decides x new.id).0 g))) ∙ f))
    last false e false f = refl

    joined : (b : Bool) (o : Option NewInvocation) (t : Bool) → ((is_some o && t) || (b && t)) ≡ (is_some (if b then Some new else o) && t)
    joined true o true = or_true (is_some o && true)
      where
        or_true : (a : Bool) → (a || true) ≡ true
        or_true true = refl
        or_true false = refl
    joined true o false = and_false (is_some o)
      where
        and_false : (a : Bool) → ((a && false) || false) ≡ false
        and_false true = refl
        and_false false = refl
    joined false o t = or_false (is_some o && t)
      where
        or_false : (a : Bool) → (a || false) ≡ a
        or_false true = refl
        or_false false = refl
among_chosen test x (event ∷ earlier) =
    ap (λ (news : List NewInvocation). list_any (bytes_eq x) (filter test (map (λ (new : NewInvocation). new.id) news))) (append-nil (begun earlier))
    ∙ among_chosen test x earlier
    ∙ sym (ap (λ (o : Option NewInvocation). is_some o && test x) (begun_before event earlier x refl))

-- what is kept of an invocation stays where an event does not change it
abbrev Stays : List Event → Event → Text → Type 0
Stays events event x =
    is_some (invocation_begun events x) ≡ true → list_any (bytes_eq x) (changed_by events event) ≡ false → progress_of (event ∷ events) x ≡ progress_of events x

or_parts : (a : Bool) → (a || false) ≡ false → a ≡ false
or_parts true e = e
or_parts false e = refl

flipped : (x y : Text) → bytes_eq x y ≡ false → bytes_eq y x ≡ false
flipped x y e = by_test (bytes_eq y x) refl
  where
    by_test : (b : Bool) → bytes_eq y x ≡ b → b ≡ false
    by_test true f = absurd (true≢false (sym ((bytes_eq-Decides x y).1 (sym ((bytes_eq-Decides y x).0 f))) ∙ e))
    by_test false f = refl

left : (events : List Event) (event : Event) (x : Text) → is_tick event ≡ false → Leaves event x → progress_of (event ∷ events) x ≡ progress_of events x
left events event x ticks leaves =
    same_progress events event x leaves (nothing_added (starting_state events x) events event x (entries_of events x) ticks leaves)

stays_one : (events : List Event) (event : Event) (id x : Text) → invocation_of event ≡ Some id → is_tick event ≡ false → (bytes_eq x id || false) ≡ false
    → progress_of (event ∷ events) x ≡ progress_of events x
stays_one events event id x named ticks e = left events event x ticks (inl (is_named ∙ flipped x id (or_parts (bytes_eq x id) e)))
  where
    is_named : is_of x event ≡ bytes_eq id x
    is_named = rw named refl

stays_frame : (events : List Event) (id x : Text) (attempt : ℕ) (frame : Frame) → list_any (bytes_eq x) (ids_of_frame id frame) ≡ false
    → progress_of (Event.Move id attempt frame ∷ events) x ≡ progress_of events x
stays_frame events id x attempt (Frame.AwaitingOn awaited) e = left events (Event.Move id attempt (Frame.AwaitingOn awaited)) x refl (inr refl)
stays_frame events id x attempt Frame.Broken e = left events (Event.Move id attempt Frame.Broken) x refl (inr refl)
stays_frame events id x attempt Frame.TooDeep e = left events (Event.Move id attempt Frame.TooDeep) x refl (inr refl)
stays_frame events id x attempt Frame.NotAccepted e = left events (Event.Move id attempt Frame.NotAccepted) x refl (inr refl)
stays_frame events id x attempt frame e = stays_one events (Event.Move id attempt frame) id x refl refl e

stays_tick : (events : List Event) (now : ℕ) (x : Text) → Stays events (Event.Tick now) x
stays_tick events now x is e =
    same_progress events (Event.Tick now) x (inl refl) (by_open (is_open events x) (slept (entries_of events x) now) asleep)
  where
    asleep : (is_open events x && not (is_empty (slept (entries_of events x) now))) ≡ false
    asleep =
        sym (ap (λ (b : Bool). b && ends_sleep events now x) is)
        ∙ sym (among_chosen (ends_sleep events now) x events)
        ∙ e

    by_open : (o : Bool) (arrivals : List Arrival) → (o && not (is_empty arrivals)) ≡ false → ◌≡◌ {A = List Entry} (if o then map Arrived arrivals else []) []
    by_open true [] h = refl
    by_open true (arrival ∷ arrivals) h = cc
    by_open false arrivals h = refl

stays_begin : (events : List Event) (new : NewInvocation) (x : Text) → causes_of events (Event.Invoke new) ≡ [] → Stays events (Event.Invoke new) x
stays_begin events new x accepted is e = left events (Event.Invoke new) x refl (inl (by_test (bytes_eq new.id x) refl))
  where
    by_test : (b : Bool) → bytes_eq new.id x ≡ b → b ≡ false
    by_test true f =
        let same : new.id ≡ x = (bytes_eq-Decides new.id x).0 f in
        absurd (true≢false (sym is ∙ subst (λ (y : Text). is_some (invocation_begun events y) ≡ false) same (begin_when_new events new accepted)))
    by_test false f = refl

stays : (events : List Event) (event : Event) (x : Text) → causes_of events event ≡ [] → Stays events event x
stays events (Event.Invoke new) x accepted is e = stays_begin events new x accepted is e
stays events (Event.Result id n result) x accepted is e = stays_one events (Event.Result id n result) id x refl refl e
stays events (Event.Signal id key result) x accepted is e = stays_one events (Event.Signal id key result) id x refl refl e
stays events (Event.Cancel id) x accepted is e = stays_one events (Event.Cancel id) id x refl refl e
stays events (Event.Tick now) x accepted is e = stays_tick events now x is e
stays events (Event.Begin id now) x accepted is e = stays_one events (Event.Begin id now) id x refl refl e
stays events (Event.Feed id attempt most) x accepted is e = left events (Event.Feed id attempt most) x refl (inr refl)
stays events (Event.Close id attempt) x accepted is e = left events (Event.Close id attempt) x refl (inr refl)
stays events (Event.Move id attempt frame) x accepted is e = stays_frame events id x attempt frame e
stays events (Event.Stop id attempt) x accepted is e = left events (Event.Stop id attempt) x refl (inr refl)
stays events (Event.Edit object request) x accepted is e = left events (Event.Edit object request) x refl (inl refl)

-- an invocation's row becomes the row after the event
row_kept : (events : List Event) (event : Event) (new : NewInvocation) → causes_of events event ≡ [] → is_some (invocation_begun events new.id) ≡ true
    → stepped (progress_of (event ∷ events)) (changed_by events event) (invocation_row events new) ≡ invocation_row (event ∷ events) new
row_kept events event new accepted is =
    stepped_is (progress_of (event ∷ events)) (changed_by events event) (invocation_row events new)
    ∙ by_test (list_any (bytes_eq new.id) (changed_by events event)) refl
  where
    by_test : (b : Bool) → list_any (bytes_eq new.id) (changed_by events event) ≡ b
        → (if b then record (invocation_row events new) { progress = progress_of (event ∷ events) new.id } else invocation_row events new)
        ≡ invocation_row (event ∷ events) new
    by_test true e = refl
    by_test false e =
        ap (λ (p : Progress). record (invocation_row events new) { progress = p }) (sym (stays events event new.id accepted is e))

-- those that were begun were begun
still_begun : (event : Event) (events : List Event) (x : Text) → is_some (invocation_begun events x) ≡ true → is_some (invocation_begun (event ∷ events) x) ≡ true
still_begun (Event.Invoke new) events x e = by_test (bytes_eq new.id x)
  where
    by_test : (b : Bool) → is_some (if b then Some new else invocation_begun events x) ≡ true
    by_test true = refl
    by_test false = e
still_begun event events x e = ap (λ (o : Option NewInvocation). is_some o) (begun_before event events x refl) ∙ e

abbrev pub WasBegun : List Event → NewInvocation → Type 0
WasBegun events new = is_some (invocation_begun events new.id) ≡ true

pub all_begun : (events : List Event) → AllByRecursion (WasBegun events) (begun events)
all_begun [] = tt
all_begun (event ∷ earlier) =
    all-append (WasBegun (event ∷ earlier)) (begun earlier) (begun_by event)
    (all_weaker (WasBegun earlier) (WasBegun (event ∷ earlier)) (λ new is. still_begun event earlier new.id is) (begun earlier) (all_begun earlier))
    (itself event earlier)
  where
    itself : (event : Event) (earlier : List Event) → AllByRecursion (WasBegun (event ∷ earlier)) (begun_by event)
    itself (Event.Invoke new) earlier =
        let here : bytes_eq new.id new.id ≡ true = (bytes_eq-Decides new.id new.id).1 refl in
        (ap (λ (b : Bool). is_some (if b then Some new else invocation_begun earlier new.id)) here, tt)
    itself _ earlier = tt

-- a new one's row stays as it was added
new_row : (events : List Event) (event : Event)
    → map (stepped (progress_of (event ∷ events)) (changed_by events event)) (map (invocation_row (event ∷ events)) (begun_by event))
    ≡ map (invocation_row (event ∷ events)) (begun_by event)
new_row events (Event.Invoke new) = refl
new_row events _ = refl

pub rows_kept : (events : List Event) (event : Event) → causes_of events event ≡ []
    → map (stepped (progress_of (event ∷ events)) (changed_by events event)) (map (invocation_row events) (begun events) ++ map (invocation_row (event ∷ events)) (begun_by event))
    ≡ map (invocation_row (event ∷ events)) (begun (event ∷ events))
rows_kept events event accepted =
    let step = stepped (progress_of (event ∷ events)) (changed_by events event) in
    let olds = map (invocation_row events) (begun events) in
    let news = map (invocation_row (event ∷ events)) (begun_by event) in
    map-append step olds news
    ∙ ap₂ (λ (xs ys : List InvocationRow). xs ++ ys)
    (map-map step (invocation_row events) (begun events)
    ∙ map_on (λ new. step (invocation_row events new)) (invocation_row (event ∷ events)) (begun events)
    (all_weaker (WasBegun events) (λ new. step (invocation_row events new) ≡ invocation_row (event ∷ events) new)
    (λ new is. row_kept events event new accepted is) (begun events) (all_begun events)))
    (new_row events event)
    ∙ sym (map-append (invocation_row (event ∷ events)) (begun events) (begun_by event))
