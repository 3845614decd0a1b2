-- What is made ready of the row of an open invocation is what the definitions say of its events.
use Rattle.std.proofs.Common.{◌≡◌, refl, sym, ap, ap₂, ◌∙◌, ℕ, suc, arith, ◌+◌, ◌-◌, ◌==◌, Bool, true, ◌&&◌, if◌then◌else◌, List, [], ◌∷◌, ◌++◌, append-nil, length, map, filter, filter_map, Option, Some, None}
use Rattle.std.proofs.lemmas.Bool.{ne_eqb}
use Rattle.journal_model.specs.Notification.{Bytes, Text}
use Rattle.journal_model.specs.State.{StateMap}
use Rattle.journal_model.specs.declared.invocation.NewInvocation.{NewInvocation}
use Rattle.journal_model.specs.declared.invocation.StateMode.{StateMode}
use Rattle.journal_model.specs.declared.invocation.StateMode.TheVariants as modes
use Rattle.journal_model.specs.Event.{Suspension, Event}
use Rattle.journal_model.specs.Spelling.{plain_number, plain_bytes, repeated_bytes}
use Rattle.journal_model.specs.Cause.{IsAccepted}
use Rattle.journal_model.specs.Journal.{is_of, invocation_begun, version_of, object_of, object_state, frame_of, is_open, entries_of}
use Rattle.journal_model.specs.Attempt.{attempts_begun, suspension_of, is_woken}
use Rattle.journal_model.specs.Start.{attempts_since_entry, since_first, state_entry, state_fields, start_payload, start_payload_for, start_payload_of}
use Rattle.journal_laws.proofs.ObjectState.{begun_before}
use Rattle.due_laws.specs.AwakeNotes.{heard_of, not_heard, is_awake_kept}
use Rattle.protocol_types.specs.Version.{version_number}
use Rattle.store_tables.specs.declared.row.InvocationRow.{InvocationRow}
use Rattle.store_tables.specs.declared.row.Progress.{Progress}
use Rattle.store_tables.specs.declared.row.Write.{Write}
use Rattle.store_tables.specs.declared.row.Write.TheVariants.{SetProgress}
use Rattle.store_model.specs.Progress.{first_item, number_or_zero, progress_of}
use Rattle.store_model.specs.KeptRecords.{is_shown_whole, invocation_row, state_row}
use Rattle.store_model.proofs.Versions.{kept_number}
use Rattle.store_model.specs.Writes.{invocation_writes, state_writes, writes_of}
use Rattle.store_model.specs.Steps.{after_begin}
use Rattle.store_model.proofs.Following.{follows}
use Rattle.store_model.proofs.Same.{opened}
use Rattle.store_model.proofs.States.{itself}
use Rattle.store_invocations.specs.Rows.{IsRowOf}
use Rattle.store_invocations.specs.BegunAttempts.{begun_at, shown_states}
use Rattle.store_invocations.specs.Start.{partial_number, start_frame_payload, state_bytes}

-- ---- the start

states_are : (object : Text) (state : StateMap) → map state_bytes (map (state_row object) state) ≡ map state_entry state
states_are object [] = refl
states_are object (entry ∷ state) = ap (λ (rest : List Bytes). state_entry entry ∷ rest) (states_are object state)

since_is : (moments : List ℕ) (now : ℕ) → (if length moments == 0 then 0 else now - number_or_zero (first_item moments)) ≡ since_first moments now
since_is [] now = refl
since_is (moment ∷ moments) now = ap (λ (b : Bool). if b then 0 else now - moment) (ne_eqb (suc (length moments)) 0 (λ e. absurd (apart (length moments) e)))
  where
    apart : (n : ℕ) → suc n ≡ 0 → ⊥
    apart n e = omega arith

-- what stands around the state in a start
abbrev around : NewInvocation → ℕ → ℕ → ℕ → Bytes → Bytes
around new known retries since fields =
    plain_bytes 1 new.id ++ (plain_bytes 2 new.id ++ (plain_number 3 known ++ (fields
    ++ (plain_bytes 6 new.object ++ (plain_number 7 retries ++ (plain_number 8 since ++ plain_number 9 new.seed))))))

module _ (events : List Event) (new : NewInvocation) (now : ℕ) where
  rest : Bytes
  rest = plain_bytes 6 new.object ++ (plain_number 7 (length (attempts_since_entry events new.id))
      ++ (plain_number 8 (if length (attempts_since_entry events new.id) == 0 then 0 else now - number_or_zero (first_item (attempts_since_entry events new.id))) ++ plain_number 9 new.seed))

  state_is : (mode : StateMode)
      → repeated_bytes 4 (map state_bytes (if is_shown_whole mode then map (state_row new.object) (object_state events new.object) else []))
      ++ (plain_number 5 (partial_number (is_shown_whole mode)) ++ rest)
      ≡ state_fields mode (object_state events new.object) ++ rest
  unfolding rest
  state_is modes.Whole = ap (λ (entries : List Bytes). repeated_bytes 4 entries ++ rest) (states_are new.object (object_state events new.object))
  state_is modes.None = refl

  start_is : start_frame_payload (invocation_row events new) (shown_states events (invocation_row events new)) now
      ≡ start_payload_of new (object_state events new.object) (1 + length (entries_of events new.id)) (length (attempts_since_entry events new.id)) (since_first (attempts_since_entry events new.id) now)
  unfolding rest
  start_is =
      ap (λ (more : Bytes). plain_bytes 1 new.id ++ (plain_bytes 2 new.id ++ (plain_number 3 (1 + length (entries_of events new.id)) ++ more))) (state_is new.state)
      ∙ ap (λ (since : ℕ). around new (1 + length (entries_of events new.id)) (length (attempts_since_entry events new.id)) since (state_fields new.state (object_state events new.object)))
      (since_is (attempts_since_entry events new.id) now)

module _ (events : List Event) (id : Text) (now : ℕ) (row : InvocationRow) (it : IsRowOf events id row) where
  at_id : invocation_begun events it.new.id ≡ Some it.new
  at_id = ap (invocation_begun events) it.named ∙ it.begun

  pub start_payload_is : start_frame_payload row (shown_states events row) now ≡ start_payload events id now
  start_payload_is =
      ap (λ (r : InvocationRow). start_frame_payload r (shown_states events r) now) it.is
      ∙ start_is events it.new now
      ∙ ap (λ (o : Option NewInvocation). start_payload_for events o it.new.id now) (sym at_id)
      ∙ ap (λ (x : Text). start_payload events x now) it.named

  pub row_named : row.id ≡ id
  row_named = ap (λ (r : InvocationRow). r.id) it.is ∙ it.named

  pub progress_is : row.progress ≡ progress_of events id
  progress_is = ap (λ (r : InvocationRow). r.progress) it.is ∙ ap (progress_of events) it.named

  pub attempts_is : row.progress.attempts ≡ attempts_begun events id
  attempts_is = ap (λ (p : Progress). p.attempts) progress_is

  pub version_is : IsAccepted events → version_number row.version ≡ version_of events id
  version_is accepted = ap (λ (r : InvocationRow). version_number r.version) it.is ∙ kept_number events id it.new accepted it.begun

-- ---- the writes

no_state_writes : (o : Option Text) → state_writes o [] ≡ []
no_state_writes None = refl
no_state_writes (Some object) = refl

writes_are : (events : List Event) (id : Text) (now : ℕ) → writes_of events (Event.Begin id now) ≡ SetProgress id (progress_of (Event.Begin id now ∷ events) id) ∷ []
writes_are events id now =
    ap (λ (more : List Write). (invocation_writes events (Event.Begin id now) id ++ []) ++ more) (no_state_writes (object_of events (Event.Begin id now)))
    ∙ append-nil (invocation_writes events (Event.Begin id now) id ++ [])
    ∙ append-nil (invocation_writes events (Event.Begin id now) id)

-- what is noted of an open invocation then
module _ (events : List Event) (id : Text) (now : ℕ) (opened_before : is_open events id ≡ true) where
  heard_none : heard_of (Event.Begin id now ∷ events) id ≡ None
  heard_none = rw (itself id) refl

  suspended_none : suspension_of (Event.Begin id now ∷ events) id ≡ None
  suspended_none = rw (itself id) refl

  still_open : is_open (Event.Begin id now ∷ events) id ≡ true
  still_open =
      ap₂ opened (begun_before (Event.Begin id now) events id refl)
      (ap (λ (b : Bool). filter_map frame_of (if b then Event.Begin id now ∷ filter (is_of id) events else filter (is_of id) events)) (itself id))
      ∙ opened_before

  awake : is_awake_kept (Event.Begin id now ∷ events) id ≡ true
  awake = ap₂ (λ (b : Bool) (s : Option Suspension). b && is_woken (not_heard (Event.Begin id now ∷ events) id) s) still_open suspended_none

  progress_then : begun_at now (progress_of events id) ≡ progress_of (Event.Begin id now ∷ events) id
  progress_then =
      (λ i. after_begin now (record (progress_of events id) { heard = sym heard_none i; is_awake = sym awake i }))
      ∙ sym (follows events (Event.Begin id now) id refl refl)

pub begin_writes_are : (events : List Event) (id : Text) (now : ℕ) (row : InvocationRow) → IsRowOf events id row → is_open events id ≡ true
    → SetProgress row.id (begun_at now row.progress) ∷ [] ≡ writes_of events (Event.Begin id now)
begin_writes_are events id now row it is_opened =
    ap (λ (x : Text). SetProgress x (begun_at now row.progress) ∷ []) (row_named events id now row it)
    ∙ ap (λ (p : Progress). SetProgress id (begun_at now p) ∷ []) (progress_is events id now row it)
    ∙ ap (λ (p : Progress). SetProgress id p ∷ []) (progress_then events id now is_opened)
    ∙ sym (writes_are events id now)
