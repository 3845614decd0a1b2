-- The indexes that a store has: of keys, and those by which rows are only looked up.
use Rattle.sqlite_schema.specs.declared.schema.Index.{Index}
use Rattle.sqlite_value.specs.Keys.{plain}
use Rattle.store_tables.specs.declared.layout.WantedIndex.{WantedIndex}

abbrev pub wanted_index : WantedIndex → Index
wanted_index w = record { name = w.name.now; tree = w.tree; table = w.table; columns = w.columns.now; order = plain; is_unique = w.is_unique }
