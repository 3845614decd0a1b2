-- What the row of an invocation tells is what the events tell.
use Rattle.std.proofs.Common.{◌≡◌, refl, sym, ap, ◌∙◌, Bool, true, false, not, List, is_some}
use Rattle.journal_model.specs.Notification.{Text}
use Rattle.journal_model.specs.Event.{Event}
use Rattle.journal_model.specs.Journal.{is_open}
use Rattle.store_tables.specs.declared.row.InvocationRow.{InvocationRow}
use Rattle.store_model.specs.Progress.{last_error_of, progress_of}
use Rattle.store_invocations.specs.Rows.{IsRowOf}
use Rattle.store_invocations.proofs.Opened.{closed_is}

not-twice : (b : Bool) → not (not b) ≡ b
not-twice true = refl
not-twice false = refl

pub open_is : (events : List Event) (id : Text) (row : InvocationRow) (answer : Bool) → IsRowOf events id row → is_some row.progress.closing ≡ not answer → answer ≡ is_open events id
open_is events id row answer of told =
    sym (not-twice answer)
    ∙ ap not (sym told)
    ∙ ap (λ (r : InvocationRow). not (is_some r.progress.closing)) of.is
    ∙ ap (λ (x : Text). not (is_some (progress_of events x).closing)) of.named
    ∙ ap not (closed_is events id of.new of.begun)
    ∙ not-twice (is_open events id)

pub error_is : (events : List Event) (id : Text) (row : InvocationRow) → IsRowOf events id row → row.progress.last_error ≡ last_error_of events id
error_is events id row of =
    ap (λ (r : InvocationRow). r.progress.last_error) of.is
    ∙ ap (last_error_of events) of.named
