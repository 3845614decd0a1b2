use Rattle.std.proofs.Common.{◌∷◌, []}
use Rattle.store_tables.specs.Records.{state_cells, with_state, without_state}
use Rattle.store_tables.specs.Statements.{add_state_text, drop_state, statement}
use Rattle.store_tables.proofs.Moves.{altered_first, altered_then}
use Rattle.store_tables.proofs.write.put_state.Goals as goal

pub returns-clause-alters : goal.returns-clause-alters
returns-clause-alters g c =
    altered_then g.S.Store (without_state c.args.row.now.object c.args.row.now.key) (with_state c.args.row.now)
    (drop_state c.args.row.now.object c.args.row.now.key ∷ []) (statement add_state_text (state_cells c.args.row.now) ∷ []) c.args.tx.now.conn.now c.drop_state.new.tx.conn.now c.add_state.new.tx.conn.now c.add_state.result
    c.in_ok-drop_state.ensures.alters.done c.in_ok-drop_state.ensures.alters.kept c.in_ok-drop_state.ensures.alters.survives c.add_state.ensures.alters

pub returns-in_err-drop_state-clause-alters : goal.returns-in_err-drop_state-clause-alters
returns-in_err-drop_state-clause-alters g c =
    altered_first g.S.Store (λ r. with_state c.args.row.now (without_state c.args.row.now.object c.args.row.now.key r))
    (drop_state c.args.row.now.object c.args.row.now.key ∷ []) (statement add_state_text (state_cells c.args.row.now) ∷ []) c.args.tx.now.conn.now c.drop_state.new.tx.conn.now c.in_err-drop_state.field-0.0 c.from_residual.result c.from_residual.ensures.1
    c.in_err-drop_state.ensures.alters.why c.in_err-drop_state.ensures.alters.kept c.in_err-drop_state.ensures.alters.survives
