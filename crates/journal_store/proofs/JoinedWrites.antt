-- Writes of one invocation, of which how far it is is written once, behind the others.
use Rattle.std.proofs.Common.{◌≡◌, ℕ, refl, sym, ap, subst, ◌∙◌, Bool, true, false, if◌then◌else◌, ◌||◌, List, [], ◌∷◌, ◌++◌, append-nil, map, flat_map, Option, None, Some, bytes_eq, ◌⊎◌, inl, inr}
use Rattle.std.proofs.lemmas.Grind.{flat_map-append}
use Rattle.std.proofs.lemmas.Slice.Eq.{bytes_eq-Decides}
use Rattle.sqlite_keyed.proofs.ListLemmas.{all-append}
use Rattle.journal_model.specs.Notification.{Text}
use Rattle.journal_model.specs.Request.{Request}
use Rattle.journal_model.specs.Event.{Event, Frame}
use Rattle.journal_model.specs.Journal.{closes, object_of, version_of}
use Rattle.store_tables.specs.Records.{Records, applied, applied_all, set_in, with_progress}
use Rattle.store_tables.specs.declared.row.EntryRow.{EntryRow}
use Rattle.store_tables.specs.declared.row.SleepRow.{SleepRow}
use Rattle.store_tables.specs.declared.row.InvocationRow.{InvocationRow}
use Rattle.store_tables.specs.declared.row.Progress.{Progress}
use Rattle.store_tables.specs.declared.row.Write.{Write}
use Rattle.store_tables.specs.declared.row.Write.TheVariants.{AddEntry, AddInvocation, CloseSleeps, DropInvocation, OpenSleep, SetProgress}
use Rattle.store_model.specs.Sleeps.{sleeps_opened}
use Rattle.store_model.specs.Writes.{ids_of_frame, invocation_writes, rows_added, sleep_writes_of, state_requests, state_write, state_writes, writes_of}
use Rattle.store_model.specs.Progress.{progress_of}
use Rattle.store_model.proofs.Writing.{applied-append}
use Rattle.store_live.specs.Rows.{row_after, row_noted, row_with_progress}
use Rattle.journal_store.specs.JoinedFrames.{AreOwn, IsOwn, has_progress, is_progress, joined_writes, other_write, other_writes, row_behind, row_written}

-- ---- one behind another

pub others-append : (ws vs : List Write) → other_writes (ws ++ vs) ≡ other_writes ws ++ other_writes vs
others-append ws vs = flat_map-append other_write ws vs

pub behind-append : (ws vs : List Write) (row : InvocationRow) → row_behind (ws ++ vs) row ≡ row_behind vs (row_behind ws row)
behind-append [] vs row = refl
behind-append (w ∷ ws) vs row = behind-append ws vs (row_written w row)

pub progress-behind : (ws vs : List Write) → has_progress vs ≡ true → has_progress (ws ++ vs) ≡ true
progress-behind [] vs has = has
progress-behind (w ∷ ws) vs has = by_one (is_progress w) (progress-behind ws vs has)
  where
    by_one : (b : Bool) → has_progress (ws ++ vs) ≡ true → (b || has_progress (ws ++ vs)) ≡ true
    by_one true more = refl
    by_one false more = more

-- ---- what they make of the records

set_twice : (id : Text) (p q : Progress) (row : InvocationRow) → set_in id q (set_in id p row) ≡ set_in id q row
set_twice id p q row = by_test (bytes_eq row.id id) refl
  where
    by_test : (b : Bool) → bytes_eq row.id id ≡ b → set_in id q (if b then record row { progress = p } else row) ≡ (if b then record row { progress = q } else row)
    by_test true e = rw e refl
    by_test false e = rw e refl

all_twice : (id : Text) (p q : Progress) (rows : List InvocationRow) → map (set_in id q) (map (set_in id p) rows) ≡ map (set_in id q) rows
all_twice id p q [] = refl
all_twice id p q (row ∷ rows) = λ i. set_twice id p q row i ∷ all_twice id p q rows i

twice : (id : Text) (p q : Progress) (r : Records) → with_progress id q (with_progress id p r) ≡ with_progress id q r
twice id p q r = ap (λ (rows : List InvocationRow). record r { invocations = rows }) (all_twice id p q r.invocations)

-- what is else written leaves how far it is
later : (id : Text) (p : Progress) (ws : List Write) (r : Records) → AreOwn id ws → applied_all (other_writes ws) (with_progress id p r) ≡ with_progress id p (applied_all (other_writes ws) r)
later id p [] r own = refl
later id p (SetProgress other q ∷ ws) r own = later id p ws r own.1
later id p (AddInvocation row ∷ ws) r own = absurd own.0
later id p (DropInvocation other ∷ ws) r own = absurd own.0
later id p (w ∷ ws) r own = later id p ws (applied w r) own.1

none_further : (ws : List Write) (row : InvocationRow) → has_progress ws ≡ false → (row_behind ws row ≡ row) × (other_writes ws ≡ ws)
none_further [] row none = (refl, refl)
none_further (SetProgress id p ∷ ws) row none = cc
none_further (w ∷ ws) row none = let it = none_further ws row none in (it.0, ap (λ (rest : List Write). w ∷ rest) it.1)

joined_alike : (id : Text) (ws : List Write) (row : InvocationRow) (r : Records) → AreOwn id ws → has_progress ws ≡ true
    → applied_all (other_writes ws ++ SetProgress id (row_behind ws row).progress ∷ []) r ≡ applied_all ws r
joined_alike id [] row r own has = cc
joined_alike id (SetProgress other p ∷ ws) row r own has = by_more (has_progress ws) refl (λ more. joined_alike id ws (row_with_progress p row) (with_progress id p r) own.1 more)
  where
    next : InvocationRow
    next = row_with_progress p row

    last : List Write
    last = SetProgress id (row_behind ws next).progress ∷ []

    -- only the last counts
    moved : applied_all (other_writes ws ++ last) (with_progress id p r) ≡ applied_all (other_writes ws ++ last) r
    moved =
        applied-append (other_writes ws) last (with_progress id p r)
        ∙ ap (with_progress id (row_behind ws next).progress) (later id p ws r own.1)
        ∙ twice id p (row_behind ws next).progress (applied_all (other_writes ws) r)
        ∙ sym (applied-append (other_writes ws) last r)

    by_more : (b : Bool) → has_progress ws ≡ b → (has_progress ws ≡ true → applied_all (other_writes ws ++ last) (with_progress id p r) ≡ applied_all ws (with_progress id p r))
        → applied_all (other_writes ws ++ last) r ≡ applied_all ws (with_progress other p r)
    by_more true more alike = sym moved ∙ alike more ∙ ap (λ (x : Text). applied_all ws (with_progress x p r)) (sym own.0)
    by_more false more alike =
        let none = none_further ws next more in
        applied-append (other_writes ws) last r
        ∙ ap (λ (one : InvocationRow). with_progress id one.progress (applied_all (other_writes ws) r)) none.0
        ∙ sym (later id p ws r own.1)
        ∙ ap (λ (writes : List Write). applied_all writes (with_progress id p r)) none.1
        ∙ ap (λ (x : Text). applied_all ws (with_progress x p r)) (sym own.0)
joined_alike id (AddInvocation new ∷ ws) row r own has = absurd own.0
joined_alike id (DropInvocation other ∷ ws) row r own has = absurd own.0
joined_alike id (w ∷ ws) row r own has = joined_alike id ws row (applied w r) own.1 has

-- a row has the id that it had
named_behind : (ws : List Write) (row : InvocationRow) → (row_behind ws row).id ≡ row.id
named_behind [] row = refl
named_behind (SetProgress id p ∷ ws) row = named_behind ws (row_with_progress p row)
named_behind (w ∷ ws) row = named_behind ws row

pub joined_records : (id : Text) (ws others : List Write) (row last : InvocationRow) (r : Records) → AreOwn id ws → has_progress ws ≡ true → others ≡ other_writes ws → last ≡ row_behind ws row → row.id ≡ id
    → applied_all (joined_writes others last) r ≡ applied_all ws r
joined_records id ws others row last r own has are is named =
    (λ i. applied_all (are i ++ SetProgress ((ap (λ (one : InvocationRow). one.id) is ∙ named_behind ws row ∙ named) i) (is i).progress ∷ []) r)
    ∙ joined_alike id ws row r own has

-- ---- what they make of rows in memory

noted_own : (id : Text) (w : Write) (row : InvocationRow) → IsOwn id w → row_noted id w row ≡ row_written w row
noted_own id (SetProgress other p) row own = ap (λ (b : Bool). if b then row_with_progress p row else row) ((bytes_eq-Decides other id).1 own)
noted_own id (AddInvocation new) row own = refl
noted_own id w row own = refl

-- of the invocation
pub row_own : (id : Text) (ws : List Write) (row : InvocationRow) → AreOwn id ws → row_after id ws row ≡ row_behind ws row
row_own id [] row own = refl
row_own id (w ∷ ws) row own = row_own id ws (row_noted id w row) own.1 ∙ ap (row_behind ws) (noted_own id w row own.0)

noted_other : (id other : Text) (w : Write) (row : InvocationRow) → bytes_eq id other ≡ false → IsOwn id w → row_noted other w row ≡ row
noted_other id other (SetProgress named p) row apart own =
    ap (λ (b : Bool). if b then row_with_progress p row else row) (ap (λ (x : Text). bytes_eq x other) own ∙ apart)
noted_other id other (AddInvocation new) row apart own = refl
noted_other id other w row apart own = refl

-- and of others
pub row_other : (id other : Text) (ws : List Write) (row : InvocationRow) → bytes_eq id other ≡ false → AreOwn id ws → row_after other ws row ≡ row
row_other id other [] row apart own = refl
row_other id other (w ∷ ws) row apart own = row_other id other ws (row_noted other w row) apart own.1 ∙ noted_other id other w row apart own.0

-- of what is else written nothing is noted
noted_none : (id : Text) (ws : List Write) (row : InvocationRow) → row_after id (other_writes ws) row ≡ row
noted_none id [] row = refl
noted_none id (SetProgress other p ∷ ws) row = noted_none id ws row
noted_none id (w ∷ ws) row = noted_none id ws row

after_last : (id : Text) (ws : List Write) (w : Write) (row : InvocationRow) → row_after id (ws ++ w ∷ []) row ≡ row_noted id w (row_after id ws row)
after_last id [] w row = refl
after_last id (first ∷ ws) w row = after_last id ws w (row_noted id first row)

only_progress : (ws : List Write) (row : InvocationRow) → row_behind ws row ≡ row_with_progress (row_behind ws row).progress row
only_progress [] row = refl
only_progress (SetProgress id p ∷ ws) row = only_progress ws (row_with_progress p row)
only_progress (w ∷ ws) row = only_progress ws row

pub row_joined : (id : Text) (ws : List Write) (row : InvocationRow) → row.id ≡ id → row_after id (joined_writes (other_writes ws) (row_behind ws row)) row ≡ row_behind ws row
row_joined id ws row named =
    let last = row_behind ws row in
    after_last id (other_writes ws) (SetProgress last.id last.progress) row
    ∙ ap (row_noted id (SetProgress last.id last.progress)) (noted_none id ws row)
    ∙ ap (λ (b : Bool). if b then row_with_progress last.progress row else row) ((bytes_eq-Decides last.id id).1 (named_behind ws row ∙ named))
    ∙ sym (only_progress ws row)

pub row_joined_other : (id other : Text) (ws : List Write) (row any : InvocationRow) → row.id ≡ id → bytes_eq id other ≡ false → row_after other (joined_writes (other_writes ws) (row_behind ws row)) any ≡ any
row_joined_other id other ws row any named apart =
    let last = row_behind ws row in
    after_last other (other_writes ws) (SetProgress last.id last.progress) any
    ∙ ap (row_noted other (SetProgress last.id last.progress)) (noted_none other ws any)
    ∙ ap (λ (b : Bool). if b then row_with_progress last.progress any else any) (ap (λ (x : Text). bytes_eq x other) (named_behind ws row ∙ named) ∙ apart)

-- ---- those of a frame

entries_own : (id : Text) (rows : List EntryRow) → AreOwn id (map AddEntry rows)
entries_own id [] = tt
entries_own id (row ∷ rows) = (tt, entries_own id rows)

sleeps_own : (id : Text) (rows : List SleepRow) → AreOwn id (map OpenSleep rows)
sleeps_own id [] = tt
sleeps_own id (row ∷ rows) = (tt, sleeps_own id rows)

invocation_own : (events : List Event) (event : Event) (id : Text) → AreOwn id (invocation_writes events event id)
invocation_own events event id = all-append (IsOwn id) (map AddEntry (rows_added events event id)) _ (entries_own id (rows_added events event id)) (refl, tt)

closing_own : (b : Bool) (id : Text) → AreOwn id (if b then CloseSleeps id ∷ [] else [])
closing_own true id = (tt, tt)
closing_own false id = tt

frame_sleeps_own : (version : ℕ) (id : Text) (frame : Frame) → AreOwn id (sleep_writes_of version id frame)
frame_sleeps_own version id (Frame.Command request) = sleeps_own id (sleeps_opened id request)
frame_sleeps_own version id frame = closing_own (closes version frame) id

request_own : (id object : Text) (request : Request) → AreOwn id (state_write object request)
request_own id object (Request.SetState key value name) = (tt, tt)
request_own id object (Request.ClearState key name) = (tt, tt)
request_own id object (Request.ClearAllState name) = (tt, tt)
request_own id object request = tt

states_own : (id : Text) (object : Option Text) (requests : List Request) → AreOwn id (state_writes object requests)
states_own id None requests = tt
states_own id (Some object) [] = tt
states_own id (Some object) (request ∷ requests) = all-append (IsOwn id) (state_write object request) _ (request_own id object request) (states_own id (Some object) requests)

some_own : (events : List Event) (event : Event) (id : Text) (ids : List Text) → (ids ≡ []) ⊎ (ids ≡ id ∷ []) → AreOwn id (flat_map (invocation_writes events event) ids)
some_own events event id ids (inl none) = subst (λ (all : List Text). AreOwn id (flat_map (invocation_writes events event) all)) (sym none) tt
some_own events event id ids (inr one) =
    subst (λ (all : List Text). AreOwn id (flat_map (invocation_writes events event) all)) (sym one) (all-append (IsOwn id) (invocation_writes events event id) [] (invocation_own events event id) tt)

one_or_none : (id : Text) (frame : Frame) → (ids_of_frame id frame ≡ []) ⊎ (ids_of_frame id frame ≡ id ∷ [])
one_or_none id (Frame.AwaitingOn awaited) = inl refl
one_or_none id Frame.Broken = inl refl
one_or_none id Frame.TooDeep = inl refl
one_or_none id Frame.NotAccepted = inl refl
one_or_none id frame = inr refl

pub frame_own : (events : List Event) (id : Text) (n : ℕ) (frame : Frame) → AreOwn id (writes_of events (Event.Move id n frame))
frame_own events id n frame =
    let event : Event = Event.Move id n frame in
    all-append (IsOwn id) (flat_map (invocation_writes events event) (ids_of_frame id frame)) _ (some_own events event id (ids_of_frame id frame) (one_or_none id frame))
    (all-append (IsOwn id) (sleep_writes_of (version_of events id) id frame) _ (frame_sleeps_own (version_of events id) id frame) (states_own id (object_of events event) (state_requests event)))

progress_first : (rows : List EntryRow) (id : Text) (p : Progress) (behind : List Write) → has_progress ((map AddEntry rows ++ SetProgress id p ∷ []) ++ behind) ≡ true
progress_first [] id p behind = refl
progress_first (row ∷ rows) id p behind = progress_first rows id p behind

-- and one that changes the invocation says how far it is
pub frame_progress : (events : List Event) (id : Text) (n : ℕ) (frame : Frame) → ids_of_frame id frame ≡ id ∷ [] → has_progress (writes_of events (Event.Move id n frame)) ≡ true
frame_progress events id n frame one =
    let event : Event = Event.Move id n frame in
    let behind : List Write = sleep_writes_of (version_of events id) id frame ++ state_writes (object_of events event) (state_requests event) in
    subst (λ (ids : List Text). has_progress (flat_map (invocation_writes events event) ids ++ behind) ≡ true) (sym one)
    (ap (λ (writes : List Write). has_progress (writes ++ behind)) (append-nil (invocation_writes events event id)) ∙ progress_first (rows_added events event id) id (progress_of (event ∷ events) id) behind)

-- ---- a write that says nothing of how far one is

abbrev pub IsOther : Write → Type 0
IsOther (SetProgress id p) = ⊥
IsOther w = Unit {0}

pub is_other : (w : Write) → ((id : Text) (p : Progress) → w ≡ SetProgress id p → ⊥) → IsOther w
is_other (SetProgress id p) other = absurd (other id p refl)
is_other w other = tt

pub other_alone : (w : Write) → IsOther w → w ∷ [] ≡ other_writes (w ∷ [])
other_alone (SetProgress id p) other = absurd other
other_alone w other = refl

pub other_row : (w : Write) (row : InvocationRow) → IsOther w → row ≡ row_behind (w ∷ []) row
other_row (SetProgress id p) row other = absurd other
other_row w row other = refl
