use Rattle.std.proofs.Common.{◌≡◌, true, take}
use Rattle.std.specs.List.{list_all}
use Rattle.std.specs.Str.{is_utf8}
use Rattle.store_tables.specs.declared.row.StateRow.{StateRow}
use Rattle.store_invocations.proofs.states.are_keys_text.Given as goal

-- the keys of the rows so far are text
abbrev pub invariant-loop-row : goal.invariant-loop-row
invariant-loop-row l = list_all (λ (row : StateRow). is_utf8 row.key) (take l.row-index l.states) ≡ true
