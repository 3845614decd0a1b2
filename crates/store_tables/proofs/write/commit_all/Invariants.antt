use Rattle.std.proofs.Common.{◌≡◌, ◌⊎◌, [], take, IsTrue}
use Rattle.sqlite.specs.Held.{state}
use Rattle.sqlite.specs.State.{HasCleanDisk, KeepsCommit, Survives}
use Rattle.store_tables.specs.Records.{applied_all}
use Rattle.store_tables.specs.Statements.{statements_of_all}
use Rattle.store_tables.specs.Steps.{ChangesRecords, TurnsRecords}
use Rattle.store_tables.proofs.write.commit_all.Given as goal

abbrev pub invariant-loop-write : goal.invariant-loop-write
invariant-loop-write g l =
    let old = state g.S.Store l.initial.tx.conn.now in
    let now = state g.S.Store l.tx.conn.now in
    record {
      same_reference : l.tx.conn.ghost_name ≡ l.initial.tx.conn.ghost_name;
      survives : Survives old now (λ _. ⊥);
      kept : HasCleanDisk now → KeepsCommit old now;
      opened : HasCleanDisk now → (take l.write-index l.writes ≡ []) ⊎ IsTrue old.is_open;
      turns : HasCleanDisk now → TurnsRecords (applied_all (take l.write-index l.writes)) old.now.trees now.now.trees;
      steps : HasCleanDisk now → IsTrue old.is_open → ChangesRecords (applied_all (take l.write-index l.writes)) (statements_of_all (take l.write-index l.writes)) old now;
      inside : HasCleanDisk now → IsTrue now.in_transaction;
    }
