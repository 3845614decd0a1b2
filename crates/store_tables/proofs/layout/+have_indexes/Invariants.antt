use Rattle.std.proofs.Common.{length}
use Rattle.store_tables.proofs.layout.+have_indexes.Given as goal

abbrev pub decreases-have_indexes : goal.decreases-have_indexes
decreases-have_indexes l = length l.indexes.now
