-- The kind of what an invocation answers, by its row and by what is read.
use Rattle.std.proofs.Common.{◌≡◌, ℕ, zero, suc, Bool, not, List, [], ◌∷◌, map, take, Option, Some, None, Result, Ok, Err, refl, sym, ap, subst, ◌∙◌}
use Rattle.std.specs.Prelude.{option_map}
use Rattle.std.specs.List.{AllByRecursion}
use Rattle.std.proofs.lemmas.List.Sorted.{IsPermutation-sym}
use Rattle.sqlite_trees.specs.declared.store.Store.{Ghosts}
use Rattle.sqlite_trees.proofs.ListLemmas.{all-permutation}
use Rattle.sqlite_keyed.proofs.ListLemmas.{all-filter, all_map, all_weaker}
use Rattle.sqlite_keyed.proofs.SortLemmas.{IsPermutation-sort_by}
use Rattle.journal_model.specs.Notification.{Text}
use Rattle.journal_model.specs.Cause.{those_that_hold}
use Rattle.journal_model.specs.Request.{Request}
use Rattle.journal_model.specs.declared.invocation.NewInvocation.{NewInvocation}
use Rattle.journal_model.specs.declared.cause.Cause.{Cause}
use Rattle.journal_model.specs.declared.value.NonEmptyValue.{NonEmptyValue}
use Rattle.journal_model.specs.Event.{Event}
use Rattle.journal_model.specs.Journal.{Closing as Closed, ByEnd, ByFailure, answer_at_close, closing_of, recorded_requests}
use Rattle.server_lines.specs.declared.reply.AnswerKind.{AnswerKind}
use Rattle.server_lines.specs.declared.reply.AnswerKind.TheVariants as kind
use Rattle.shown_records.specs.ShownTexts.{IsKnown}
use Rattle.store_refusals.specs.declared.refusal.Refusal.{Refusal}
use Rattle.store_refusals.specs.RefusalConditions.{IsRefused}
use Rattle.store_tables.specs.declared.row.Closing.{Closing}
use Rattle.store_tables.specs.declared.row.Closing.TheVariants as closing
use Rattle.store_tables.specs.declared.row.Progress.{Progress}
use Rattle.store_tables.specs.declared.row.InvocationRow.{InvocationRow}
use Rattle.store_tables.specs.Orders.{id_cmp}
use Rattle.store_tables.specs.Questions.{is_named_after}
use Rattle.store_model.specs.KeptRecords.{begun, invocation_row}
use Rattle.store_model.specs.Progress.{way_closed}
use Rattle.store_model.proofs.Invocations.{WasBegun, all_begun}
use Rattle.store_invocations.specs.InvocationAnswers.{answer_told, value_taken}
use Rattle.store_live_laws.proofs.Awake.{id_cmp_total}
use Rattle.store_reads.specs.Page.{invocations_after, rows_behind, rows_by_id}
use Rattle.journal_store.specs.StoreView.{Stored}
use Rattle.store_server.specs.Rows.{IsBegunRow, TellsKind, answer_kind}
use Rattle.store_server.specs.StoreChanges.{CommitsNothing, ReachesStore, TellsKnown}
use Rattle.store_server.specs.RequestAnswers.{IsUnknown, Shown}
use Rattle.store_server.proofs.Reaching.{reaches_none, stays}
use Rattle.store_server.proofs.Showing.{KnownAnswer, shown_so}

-- ---- by the way in which it was closed

kind_at_none : (requests : List Request) (o : Option Closed) → None ≡ option_map way_closed o → kind.Missing ≡ answer_kind (option_map value_taken (answer_at_close requests o))
kind_at_none requests None e = refl
kind_at_none requests (Some ByEnd) e = cc
kind_at_none requests (Some (ByFailure code message)) e = cc

kind_at_failure : (requests : List Request) (o : Option Closed) → Some closing.Failed ≡ option_map way_closed o
    → kind.Failure ≡ answer_kind (option_map value_taken (answer_at_close requests o))
kind_at_failure requests None e = cc
kind_at_failure requests (Some ByEnd) e = cc
kind_at_failure requests (Some (ByFailure code message)) e = refl

module _ (row : InvocationRow) (events : List Event) (is : IsBegunRow events row) where
  closing_is : (way : Option Closing) → row.progress.closing ≡ way → way ≡ option_map way_closed (closing_of events row.id)
  closing_is way e = sym e ∙ ap (λ (p : Progress). p.closing) is.1

  open_kind : row.progress.closing ≡ None → kind.Missing ≡ answer_kind (answer_told events row.id)
  open_kind e = kind_at_none (recorded_requests events row.id) (closing_of events row.id) (closing_is None e)

  failed_kind : row.progress.closing ≡ Some closing.Failed → kind.Failure ≡ answer_kind (answer_told events row.id)
  failed_kind e = kind_at_failure (recorded_requests events row.id) (closing_of events row.id) (closing_is (Some closing.Failed) e)

module _ {S : Type 0} (g : Ghosts S) (row : InvocationRow) where
  -- nothing is read
  pub kind_by_row : (told : AnswerKind) (a : Stored S) → ((events : List Event) → IsBegunRow events row → told ≡ answer_kind (answer_told events row.id))
      → ReachesStore g CommitsNothing (Shown (TellsKind row (Ok told))) a a
  kind_by_row told a so = reaches_none g CommitsNothing (Shown (TellsKind row (Ok told))) a (λ s. (so s.events, stays s))

  pub of_open : (a : Stored S) → row.progress.closing ≡ None → ReachesStore g CommitsNothing (Shown (TellsKind row (Ok kind.Missing))) a a
  of_open a e = kind_by_row kind.Missing a (λ events is. open_kind row events is e)

  pub of_failed : (a : Stored S) → row.progress.closing ≡ Some closing.Failed → ReachesStore g CommitsNothing (Shown (TellsKind row (Ok kind.Failure))) a a
  of_failed a e = kind_by_row kind.Failure a (λ events is. failed_kind row events is e)

  -- what is read
  pub of_ended : (result : Result AnswerKind Refusal) (a b : Stored S) → ReachesStore g CommitsNothing (TellsKnown row.id (λ events told. told ≡ answer_kind (answer_told events row.id)) result) a b
      → ReachesStore g CommitsNothing (Shown (TellsKind row result)) a b
  of_ended (Ok told) a b one =
      shown_so g (λ events. IsKnown row.id events × (told ≡ answer_kind (answer_told events row.id))) (TellsKind row (Ok told)) a b (λ events p is. p.1) one
  of_ended (Err why) a b one = shown_so g (IsUnknown row.id why) (TellsKind row (Err why)) a b (λ events p is. subst (λ (causes : List Cause). IsRefused causes why) is.0 p) one

module _ {S : Type 0} (g : Ghosts S) (id : Text) (a b : Stored S) where
  pub of_answer : (answer : Option NonEmptyValue) (told : AnswerKind) → told ≡ answer_kind answer → ReachesStore g CommitsNothing (Shown (KnownAnswer id answer)) a b
      → ReachesStore g CommitsNothing (TellsKnown id (λ events it. it ≡ answer_kind (answer_told events id)) (Ok told)) a b
  of_answer answer told is one =
      shown_so g (KnownAnswer id answer) (λ events. IsKnown id events × (told ≡ answer_kind (answer_told events id))) a b (λ events p. (p.0, is ∙ ap answer_kind p.1)) one

-- ---- the rows of a page are those of invocations that were begun

begun_row : (events : List Event) (new : NewInvocation) → WasBegun events new → IsBegunRow events (invocation_row events new)
begun_row events new is = (ap (λ (known : Bool). those_that_hold ((not known, Cause.UnknownInvocation) ∷ [])) is, refl)

all_take : (Holds : InvocationRow → Type 0) (n : ℕ) (rows : List InvocationRow) → AllByRecursion Holds rows → AllByRecursion Holds (take n rows)
all_take Holds zero [] h = tt
all_take Holds zero (row ∷ rows) h = tt
all_take Holds (suc n) [] h = tt
all_take Holds (suc n) (row ∷ rows) h = (h.0, all_take Holds n rows h.1)

pub page_begun : (events : List Event) (after : Text) (most : ℕ) → AllByRecursion (IsBegunRow events) (invocations_after events (Some after) most)
page_begun events after most =
    all_take (IsBegunRow events) most (rows_behind events (Some after))
    (all-filter (IsBegunRow events) (is_named_after (Some after)) (rows_by_id events)
    (all-permutation (IsBegunRow events) news (rows_by_id events) (IsPermutation-sym (rows_by_id events) news (IsPermutation-sort_by id_cmp id_cmp_total news))
    (all_map (IsBegunRow events) (invocation_row events) (begun events)
    (all_weaker (WasBegun events) (λ new. IsBegunRow events (invocation_row events new)) (begun_row events) (begun events) (all_begun events)))))
  where
    news : List InvocationRow
    news = map (invocation_row events) (begun events)
