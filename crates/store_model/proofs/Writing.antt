-- What writes make of records.
use Rattle.std.proofs.Common.{◌≡◌, refl, sym, ap, ap₂, ◌∙◌, ℕ, Bool, true, false, not, if◌then◌else◌, List, [], ◌∷◌, ◌++◌, map, map-id, filter, flat_map, append-nil, append_assoc, Option, Some, None}
use Rattle.sqlite_keyed.proofs.ListLemmas.{map-map}
use Rattle.journal_model.specs.Notification.{Text}
use Rattle.journal_model.specs.Request.{Request}
use Rattle.journal_model.specs.Event.{Frame, Event}
use Rattle.journal_model.specs.Journal.{version_of, closes}
use Rattle.store_tables.specs.Records.{Records, is_at_key, is_of_object, is_sleep_of, set_in, applied, applied_all}
use Rattle.store_tables.specs.declared.row.Progress.{Progress}
use Rattle.store_tables.specs.declared.row.InvocationRow.{InvocationRow}
use Rattle.store_tables.specs.declared.row.EntryRow.{EntryRow}
use Rattle.store_tables.specs.declared.row.StateRow.{StateRow}
use Rattle.store_tables.specs.declared.row.SleepRow.{SleepRow}
use Rattle.store_tables.specs.declared.row.Write.{Write}
use Rattle.store_tables.specs.declared.row.Write.TheVariants.{SetProgress, AddEntry, OpenSleep, CloseSleeps}
use Rattle.store_model.specs.Progress.{progress_of}
use Rattle.store_model.specs.KeptRecords.{input_row, begun_by, invocation_row}
use Rattle.store_model.specs.Sleeps.{sleeps_opened, sleeps_after_frame, sleeps_after}
use Rattle.store_model.specs.Writes.{begin_writes, rows_added, invocation_writes, changed_by, sleep_writes, sleep_writes_of, state_write, state_writes, object_changed, state_requests, writes_of}

pub applied-append : (ws vs : List Write) (r : Records) → applied_all (ws ++ vs) r ≡ applied_all vs (applied_all ws r)
applied-append [] vs r = refl
applied-append (w ∷ ws) vs r = applied-append ws vs (applied w r)

applied-entries : (rows : List EntryRow) (r : Records) → applied_all (map AddEntry rows) r ≡ record r { entries = r.entries ++ rows }
applied-entries [] r = ap (λ (entries : List EntryRow). record r { entries = entries }) (sym (append-nil r.entries))
applied-entries (row ∷ rows) r =
    applied-entries rows (applied (AddEntry row) r)
    ∙ ap (λ (entries : List EntryRow). record r { entries = entries }) (append_assoc r.entries (row ∷ []) rows)

-- the row of an invocation after the progress of each of these was set
abbrev pub stepped : (Text → Progress) → List Text → InvocationRow → InvocationRow
stepped progress [] i = i
stepped progress (id ∷ ids) i = stepped progress ids (set_in id (progress id) i)

abbrev writes_each : (Text → List EntryRow) → (Text → Progress) → Text → List Write
writes_each rows progress id = map AddEntry (rows id) ++ SetProgress id (progress id) ∷ []

pub applied-each : (rows : Text → List EntryRow) (progress : Text → Progress) (ids : List Text) (r : Records)
    → applied_all (flat_map (writes_each rows progress) ids) r
    ≡ record r { invocations = map (stepped progress ids) r.invocations; entries = r.entries ++ flat_map rows ids }
applied-each rows progress [] r =
    ap₂ (λ (invocations : List InvocationRow) (entries : List EntryRow). record r { invocations = invocations; entries = entries })
    (sym (map-id r.invocations)) (sym (append-nil r.entries))
applied-each rows progress (id ∷ ids) r =
    applied-append (writes_each rows progress id) (flat_map (writes_each rows progress) ids) r
    ∙ ap (applied_all (flat_map (writes_each rows progress) ids))
    (applied-append (map AddEntry (rows id)) (SetProgress id (progress id) ∷ []) r
    ∙ ap (applied (SetProgress id (progress id))) (applied-entries (rows id) r))
    ∙ applied-each rows progress ids (record r { invocations = map (set_in id (progress id)) r.invocations; entries = r.entries ++ rows id })
    ∙ ap₂ (λ (invocations : List InvocationRow) (entries : List EntryRow). record r { invocations = invocations; entries = entries })
    (map-map (stepped progress ids) (set_in id (progress id)) r.invocations)
    (append_assoc r.entries (rows id) (flat_map rows ids))

-- the rows of all states after requests of an object
abbrev pub states_changed : Text → Request → List StateRow → List StateRow
states_changed object (Request.SetState key value name) states =
    filter (λ s. not (is_at_key object key s)) states ++ record { object = object; key = key; value = value } ∷ []
states_changed object (Request.ClearState key name) states = filter (λ s. not (is_at_key object key s)) states
states_changed object (Request.ClearAllState name) states = filter (λ s. not (is_of_object object s)) states
states_changed object _ states = states

abbrev pub states_after : Text → List Request → List StateRow → List StateRow
states_after object [] states = states
states_after object (request ∷ requests) states = states_after object requests (states_changed object request states)

abbrev pub states_written : Option Text → List Request → List StateRow → List StateRow
states_written None requests states = states
states_written (Some object) requests states = states_after object requests states

applied-state : (object : Text) (request : Request) (r : Records) → applied_all (state_write object request) r ≡ record r { states = states_changed object request r.states }
applied-state object (Request.SetState key value name) r = refl
applied-state object (Request.ClearState key name) r = refl
applied-state object (Request.ClearAllState name) r = refl
applied-state object _ r = refl

applied-states : (object : Text) (requests : List Request) (r : Records)
    → applied_all (flat_map (state_write object) requests) r ≡ record r { states = states_after object requests r.states }
applied-states object [] r = refl
applied-states object (request ∷ requests) r =
    applied-append (state_write object request) (flat_map (state_write object) requests) r
    ∙ ap (applied_all (flat_map (state_write object) requests)) (applied-state object request r)
    ∙ applied-states object requests (record r { states = states_changed object request r.states })

applied-written : (object : Option Text) (requests : List Request) (r : Records)
    → applied_all (state_writes object requests) r ≡ record r { states = states_written object requests r.states }
applied-written None requests r = refl
applied-written (Some object) requests r = applied-states object requests r

applied-opened : (sleeps : List SleepRow) (r : Records) → applied_all (map OpenSleep sleeps) r ≡ record r { sleeps = r.sleeps ++ sleeps }
applied-opened [] r = ap (λ (sleeps : List SleepRow). record r { sleeps = sleeps }) (sym (append-nil r.sleeps))
applied-opened (sleep ∷ sleeps) r =
    applied-opened sleeps (record r { sleeps = r.sleeps ++ sleep ∷ [] })
    ∙ ap (λ (all : List SleepRow). record r { sleeps = all }) (append_assoc r.sleeps (sleep ∷ []) sleeps)

applied-closed : (id : Text) (b : Bool) (r : Records)
    → applied_all (if b then CloseSleeps id ∷ [] else []) r ≡ record r { sleeps = if b then filter (λ s. not (is_sleep_of id s)) r.sleeps else r.sleeps }
applied-closed id true r = refl
applied-closed id false r = refl

applied-frame : (version : ℕ) (id : Text) (frame : Frame) (r : Records)
    → applied_all (sleep_writes_of version id frame) r ≡ record r { sleeps = sleeps_after_frame version id frame r.sleeps }
applied-frame version id (Frame.Command request) r = applied-opened (sleeps_opened id request) r
applied-frame version id frame r = applied-closed id (closes version frame) r

pub applied-sleeps : (events : List Event) (event : Event) (r : Records)
    → applied_all (sleep_writes events event) r ≡ record r { sleeps = sleeps_after events event r.sleeps }
applied-sleeps events (Event.Move id attempt frame) r = applied-frame (version_of events id) id frame r
applied-sleeps events (Event.Tick now) r = refl
applied-sleeps events _ r = refl

applied-begin : (events : List Event) (event : Event) (r : Records)
    → applied_all (begin_writes events event) r
    ≡ record r { invocations = r.invocations ++ map (invocation_row (event ∷ events)) (begun_by event); entries = r.entries ++ map input_row (begun_by event) }
applied-begin events (Event.Invoke new) r = refl
applied-begin events _ r =
    ap₂ (λ (invocations : List InvocationRow) (entries : List EntryRow). record r { invocations = invocations; entries = entries })
    (sym (append-nil r.invocations)) (sym (append-nil r.entries))

-- what the writes of an event make of records
pub applied-event : (events : List Event) (event : Event) (r : Records)
    → applied_all (writes_of events event) r
    ≡ record {
      invocations = map (stepped (progress_of (event ∷ events)) (changed_by events event))
          (r.invocations ++ map (invocation_row (event ∷ events)) (begun_by event));
      entries = (r.entries ++ map input_row (begun_by event)) ++ flat_map (rows_added events event) (changed_by events event);
      states = states_written (object_changed events event) (state_requests event) r.states;
      sleeps = sleeps_after events event r.sleeps;
    }
applied-event events event r =
    let first = begin_writes events event in
    let each = flat_map (invocation_writes events event) (changed_by events event) in
    let states = state_writes (object_changed events event) (state_requests event) in
    let begun : Records = record r {
      invocations = r.invocations ++ map (invocation_row (event ∷ events)) (begun_by event);
      entries = r.entries ++ map input_row (begun_by event);
    } in
    let sleeps = sleep_writes events event in
    let changed : Records = record begun {
      invocations = map (stepped (progress_of (event ∷ events)) (changed_by events event)) begun.invocations;
      entries = begun.entries ++ flat_map (rows_added events event) (changed_by events event);
    } in
    applied-append first (each ++ (sleeps ++ states)) r
    ∙ ap (applied_all (each ++ (sleeps ++ states))) (applied-begin events event r)
    ∙ applied-append each (sleeps ++ states) begun
    ∙ ap (applied_all (sleeps ++ states)) (applied-each (rows_added events event) (progress_of (event ∷ events)) (changed_by events event) begun)
    ∙ applied-append sleeps states changed
    ∙ ap (applied_all states) (applied-sleeps events event changed)
    ∙ applied-written (object_changed events event) (state_requests event) (record changed { sleeps = sleeps_after events event changed.sleeps })
