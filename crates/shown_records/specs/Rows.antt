-- What is printed of the rows of an object's state.
use Rattle.std.specs.Prelude.{ℕ, List, [], ◌∷◌, ◌++◌, codes}
use Rattle.std.specs.List.{flat_map}
use Rattle.store_tables.specs.declared.row.StateRow.{StateRow}
use Rattle.script_lines.specs.Text.{state_line}

abbrev pub row_text : StateRow → List ℕ
row_text row = state_line row.key row.value ++ 10 ∷ []

abbrev pub rows_text : List StateRow → List ℕ
rows_text rows = flat_map row_text rows ++ (codes "end" ++ 10 ∷ [])
