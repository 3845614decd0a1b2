use Rattle.std.proofs.Common.{◌≡◌, map, take}
use Rattle.std.specs.List.{AllByRecursion}
use Rattle.sql_tables.proofs.stored.all_of.Given as goal

abbrev pub invariant-loop-row : goal.invariant-loop-row
invariant-loop-row g l = record {
  rows : map g.R.Stored.cells l.records.items ≡ take l.row-index l.rows;
  fits : AllByRecursion g.R.Stored.fits l.records.items;
}
