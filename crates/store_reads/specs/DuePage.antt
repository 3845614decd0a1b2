-- The invocations that are due, page by page.
use Rattle.std.specs.Prelude.{◌≡◌, ℕ, ◌+◌, Bool, true, false, not, ◌&&◌, if◌then◌else◌, List, [], ◌∷◌, ◌++◌, map, filter, take, slice_get, Some, None, is_some}
use Rattle.journal_model.specs.Notification.{Text}
use Rattle.journal_model.specs.Event.{Event}
use Rattle.journal_model.specs.Cause.{IsAccepted}
use Rattle.journal_model.specs.Attempt.{due}
use Rattle.store_tables.specs.declared.row.InvocationRow.{InvocationRow}
use Rattle.store_tables.specs.Questions.{is_awake, is_before}
use Rattle.store_live.specs.Attempts.{ByInvocation, attempt_of}

-- the first so many of the ids that are due and above one
abbrev pub due_after : List Event → Text → ℕ → List Text
due_after events after most = take most (filter (is_before after) (due events))

-- ---- pages that go on

-- the id behind which they go on: the last one of a page, if there is one
abbrev pub last_or : Text → List Text → Text
last_or after [] = after
last_or after (id ∷ ids) = last_or id ids

-- pages of these sizes, each behind the last id of those before
abbrev pub due_in_pages : List Event → Text → List ℕ → List Text
due_in_pages events after [] = []
due_in_pages events after (most ∷ sizes) = due_after events after most ++ due_in_pages events (last_or after (due_after events after most)) sizes

abbrev pub all_sizes : List ℕ → ℕ
all_sizes [] = 0
all_sizes (most ∷ sizes) = most + all_sizes sizes

-- they are one page of all these sizes together
abbrev pub PagesGoOn : Type 0
PagesGoOn = (events : List Event) (after : Text) (sizes : List ℕ) → IsAccepted events → due_in_pages events after sizes ≡ due_after events after (all_sizes sizes)

-- and behind the empty id, which no invocation has, they are the first of all that are due
abbrev pub PagesAreDue : Type 0
PagesAreDue = (events : List Event) (most : ℕ) → IsAccepted events → due_after events [] most ≡ take most (due events)

-- ---- by the rows

-- whether it is the row of one that is due, where these attempts are live
abbrev pub is_row_due : ByInvocation → InvocationRow → Bool
is_row_due attempts row = is_awake row && not (is_some (attempt_of attempts row.id))

abbrev pub due_among : ByInvocation → List InvocationRow → List Text
due_among attempts rows = map (λ (row : InvocationRow). row.id) (filter (is_row_due attempts) rows)

-- what a row adds to a page
abbrev pub with_due : ByInvocation → InvocationRow → List Text → List Text
with_due attempts row ids = if is_row_due attempts row then ids ++ row.id ∷ [] else ids

-- the first of these rows is read, if there is one, and the page goes on behind its id
abbrev pub IsPassed : ByInvocation → List InvocationRow → Bool → (behind : Text) → (ids more : List Text) → Type 0
IsPassed attempts rows false behind ids more = (slice_get rows 0 ≡ None) × (more ≡ ids)
IsPassed attempts rows true behind ids more = (row : InvocationRow) × (slice_get rows 0 ≡ Some row) × (behind ≡ row.id) × (more ≡ with_due attempts row ids)
