-- The law is proved in `Rowids`.
use Rattle.store_sql_laws.proofs.Rowids.{no_rowid_is_taken}
use Rattle.store_sql_laws.proofs.no_rowid_is_taken.Goals as goal

pub returns : goal.returns
returns c = no_rowid_is_taken
