use Rattle.std.proofs.Common.{length}
use Rattle.sql_tables.proofs.layout.+have_columns.Given as goal

abbrev pub decreases-have_columns : goal.decreases-have_columns
decreases-have_columns l = length l.columns.now
