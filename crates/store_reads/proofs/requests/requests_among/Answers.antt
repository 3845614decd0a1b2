use Rattle.std.proofs.Common.{◌∙◌}
use Rattle.sql_tables.proofs.Queries.{ok_then}
use Rattle.store_reads.proofs.OpenRequests.{told_by}
use Rattle.store_reads.proofs.requests.requests_among.Goals as goal

pub returns : goal.returns
returns c = ok_then c.requests_but.result c.requests_but.ensures (λ requests it. it ∙ told_by _ _ c.args.rows.now c.in_ok-come.ensures)
