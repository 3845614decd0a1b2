-- The law is proved in `Unbroken`.
use Rattle.store_sql_laws.proofs.Unbroken.{unbroken_ascend}
use Rattle.store_sql_laws.proofs.unbroken_tables_ascend.Goals as goal

pub returns : goal.returns
returns g c = unbroken_ascend g.S.Store g.met.S.Store.ordered g.met.S.Alter.listed
