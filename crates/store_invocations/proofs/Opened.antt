-- An invocation that was begun is open exactly where it has no closing.
use Rattle.std.proofs.Common.{◌≡◌, refl, sym, ap, ◌∙◌, ℕ, Bool, true, false, not, ◌&&◌, ◌||◌, if◌then◌else◌, List, [], ◌∷◌, Option, Some, None, is_some, option_map, option_and_then, bytes_eq, inl}
use Rattle.std.specs.List.{list_any, find}
use Rattle.std.proofs.lemmas.Slice.Eq.{bytes_eq-Decides}
use Rattle.journal_model.specs.Notification.{Text}
use Rattle.journal_model.specs.declared.invocation.NewInvocation.{NewInvocation}
use Rattle.journal_model.specs.Event.{Fail, Frame, Event}
use Rattle.journal_model.specs.Journal.{closes, closing_frame, closing_of, frames_of, invocation_begun, is_open, version_of}
use Rattle.journal_model.specs.Cause.{open_tests, those_that_hold}
use Rattle.journal_model.specs.declared.cause.Cause.{Cause}
use Rattle.journal_laws.proofs.ObjectState.{find-passes, not-false}
use Rattle.store_tables.specs.declared.row.InvocationRow.{InvocationRow}
use Rattle.store_model.specs.Progress.{progress_of}
use Rattle.store_model.specs.KeptRecords.{invocation_row}
use Rattle.store_refusals.specs.declared.refusal.Refusal.TheVariants as refusal
use Rattle.store_refusals.specs.RefusalConditions.{refusal_of_first_cause, IsRefused}
use Rattle.store_invocations.specs.Rows.{known_tests, row_at, IsRowOf, IsOpenRow}

pub some-map : {A B : Type 0} (f : A → B) (o : Option A) → is_some (option_map f o) ≡ is_some o
some-map f None = refl
some-map f (Some x) = refl

closing-some : (version : ℕ) (frame : Frame) → closes version frame ≡ true → is_some (closing_frame frame) ≡ true
closing-some version Frame.End e = refl
closing-some version (Frame.Error code message Fail delay) e = refl
closing-some version _ e = cc

closing-found : (version : ℕ) (frames : List Frame) → is_some (option_and_then closing_frame (find (closes version) frames)) ≡ list_any (closes version) frames
closing-found version [] = refl
closing-found version (frame ∷ frames) = by_test (closes version frame) refl (closing-found version frames)
  where
    by_test : (b : Bool) → closes version frame ≡ b
        → is_some (option_and_then closing_frame (find (closes version) frames)) ≡ list_any (closes version) frames
        → is_some (option_and_then closing_frame (if b then Some frame else find (closes version) frames)) ≡ (b || list_any (closes version) frames)
    by_test true e later = closing-some version frame e
    by_test false e later = later

not-twice : (b : Bool) → not (not b) ≡ b
not-twice true = refl
not-twice false = refl

pub closed_is : (events : List Event) (id : Text) (new : NewInvocation) → invocation_begun events id ≡ Some new
    → is_some (progress_of events id).closing ≡ not (is_open events id)
closed_is events id new begun =
    let closed = list_any (closes (version_of events id)) (frames_of events id) in
    some-map _ (closing_of events id)
    ∙ closing-found (version_of events id) (frames_of events id)
    ∙ sym (ap (λ (o : Option NewInvocation). not (is_some o && not closed)) begun ∙ not-twice closed)

-- an invocation is found under its own id
pub begun_named : (events : List Event) (id : Text) (new : NewInvocation) → invocation_begun events id ≡ Some new → new.id ≡ id
begun_named events id new begun = (bytes_eq-Decides new.id id).0 (find-passes (λ other. bytes_eq other.id id) _ new begun)

-- ---- the row that is found, or none

pub known_by : (events : List Event) (id : Text) (row : InvocationRow) → Some row ≡ row_at events id
    → (those_that_hold (known_tests events id) ≡ []) × IsRowOf events id row
known_by events id row e = by_begun (invocation_begun events id) refl e
  where
    by_begun : (o : Option NewInvocation) → invocation_begun events id ≡ o → Some row ≡ option_map (invocation_row events) o
        → (those_that_hold ((not (is_some o), Cause.UnknownInvocation) ∷ []) ≡ []) × IsRowOf events id row
    by_begun None is e = cc
    by_begun (Some new) is e = (refl, record { new = new; begun = is; named = begun_named events id new is; is = cc })

pub unknown_by : (events : List Event) (id : Text) → None ≡ row_at events id → IsRefused (those_that_hold (known_tests events id)) (refusal.Cause Cause.UnknownInvocation)
unknown_by events id e = by_begun (invocation_begun events id) e
  where
    by_begun : (o : Option NewInvocation) → None ≡ option_map (invocation_row events) o
        → IsRefused (those_that_hold ((not (is_some o), Cause.UnknownInvocation) ∷ [])) (refusal.Cause Cause.UnknownInvocation)
    by_begun None e = inl refl
    by_begun (Some new) e = cc

row_closed : (events : List Event) (id : Text) (row : InvocationRow) → IsRowOf events id row → is_some row.progress.closing ≡ not (is_open events id)
row_closed events id row of =
    ap (λ (r : InvocationRow). is_some r.progress.closing) of.is
    ∙ ap (λ (x : Text). is_some (progress_of events x).closing) of.named
    ∙ closed_is events id of.new of.begun

pub opened_by : (events : List Event) (id : Text) (row : InvocationRow) → IsRowOf events id row → is_some row.progress.closing ≡ false
    → (those_that_hold (open_tests events id) ≡ []) × IsOpenRow events id row
opened_by events id row of e =
    let opened : is_open events id ≡ true = not-false (is_open events id) (sym (row_closed events id row of) ∙ e) in (
      (λ i. those_that_hold ((not (is_some (of.begun i)), Cause.UnknownInvocation) ∷ (is_some (of.begun i) && not (opened i), Cause.InvocationClosed) ∷ [])),
      (of, opened),
    )

pub closed_by : (events : List Event) (id : Text) (row : InvocationRow) → IsRowOf events id row → is_some row.progress.closing ≡ true
    → IsRefused (those_that_hold (open_tests events id)) (refusal.Cause Cause.InvocationClosed)
closed_by events id row of e =
    let shut : not (is_open events id) ≡ true = sym (row_closed events id row of) ∙ e in
    inl (λ i. refusal_of_first_cause (those_that_hold ((not (is_some (of.begun i)), Cause.UnknownInvocation) ∷ (is_some (of.begun i) && shut i, Cause.InvocationClosed) ∷ [])))
