-- The invocations by their ids, page by page.
use Rattle.std.specs.Prelude.{ℕ, ◌-◌, List, length, map, filter, take, slice_get, Option, Some, None}
use Rattle.sqlite_keyed.specs.Lists.{sort_by}
use Rattle.journal_model.specs.Notification.{Text}
use Rattle.journal_model.specs.Event.{Event}
use Rattle.store_tables.specs.declared.row.InvocationRow.{InvocationRow}
use Rattle.store_tables.specs.Orders.{id_cmp}
use Rattle.store_tables.specs.Questions.{is_named_after}
use Rattle.store_model.specs.KeptRecords.{begun, invocation_row}

-- the rows of the invocations that were begun, closed ones too, by ascending ids
abbrev pub rows_by_id : List Event → List InvocationRow
rows_by_id events = sort_by id_cmp (map (invocation_row events) (begun events))

-- those whose ids are above one, or all
abbrev pub rows_behind : List Event → Option Text → List InvocationRow
rows_behind events after = filter (is_named_after after) (rows_by_id events)

-- the first so many of them
abbrev pub invocations_after : List Event → Option Text → ℕ → List InvocationRow
invocations_after events after most = take most (rows_behind events after)

-- the id behind which they go on: that of the last row, if there is one
abbrev pub id_or : Option Text → Option InvocationRow → Option Text
id_or after None = after
id_or after (Some row) = Some row.id

abbrev pub last_id : Option Text → List InvocationRow → Option Text
last_id after rows = id_or after (slice_get rows (length rows - 1))
