-- What a call makes of a store's tables.
use Rattle.std.specs.Prelude.{◌≡◌, ◌⊎◌, List, [], Result, IfErr, OnErr, OnOk, IsTrue}
use Rattle.sqlite_trees.specs.Tree.{Trees}
use Rattle.sqlite_trees.specs.declared.store.Store.{Ghosts}
use Rattle.sqlite.specs.Held.{Held, state}
use Rattle.sqlite.specs.State.{State, HasCleanDisk, Survives}
use Rattle.sql_tables.specs.QueryAnswers.{AreTablesKept}
use Rattle.store_tables.specs.Records.{Write}
use Rattle.store_tables.specs.Steps.{Lands}

-- they are only asked: they are as they were, also over a crash
pub record OnlyAsks {S : Type 0} (g : Ghosts S) (old new : Held S) : Type 0 where
  pub kept : AreTablesKept (state g old) (state g new)
  pub crash : Survives (state g old) (state g new) (λ _. ⊥)

-- the connection is open, and what a crash leaves from now on are the tables as they are
pub record Lasts (s : State) : Type 0 where
  pub is_open : IsTrue s.is_open
  pub left : (trees : Trees) → s.may_leave trees → trees ≡ s.now.trees

-- nothing was to be written, or all was
abbrev pub HasWritten : List Write → State → State → Type 0
HasWritten writes old new = ((writes ≡ []) × AreTablesKept old new) ⊎ Lands writes old new.now.trees

-- nothing was to be written, and nothing was done; or what was written lasts
abbrev pub HasSettled : {S : Type 0} → Ghosts S → List Write → Held S → Held S → Type 0
HasSettled g writes old new = ((writes ≡ []) × (new ≡ old)) ⊎ Lasts (state g new)

-- Answered done, all of the writes are made, and last. Refused, for such a cause, the tables are as they were. A crash leaves all or none.
pub record MakesWrites {S A E : Type 0} (g : Ghosts S) (writes : List Write) (IsCause : E → Type 0) (old new : Held S) (result : Result A E) : Type 0 where
  pub done : HasCleanDisk (state g new) → OnOk result (HasWritten writes (state g old) (state g new))
  pub lasts : HasCleanDisk (state g new) → OnOk result (HasSettled g writes old new)
  pub undone : OnErr result (AreTablesKept (state g old) (state g new))
  pub why : IfErr result IsCause
  pub crash : Survives (state g old) (state g new) (Lands writes (state g old))
