-- What the one transaction of a call does, whatever else the call answers.
use Rattle.std.specs.Prelude.{◌≡◌, List, Result, IsTrue}
use Rattle.sqlite_trees.specs.declared.store.Store.{Ghosts}
use Rattle.sqlite.specs.Held.{Held, state}
use Rattle.sqlite.specs.State.{State}
use Rattle.sqlite.specs.declared.error.Error.{Error}
use Rattle.store_tables.specs.declared.row.Write.{Write}
use Rattle.store_tables.specs.Looks.{MakesWrites}
use Rattle.store_tables.specs.Statements.{statements_of_all}
use Rattle.store_tables.specs.Steps.{IsStore}
use Rattle.store_refusals.specs.declared.refusal.Refusal.{Refusal}
use Rattle.store_refusals.specs.declared.refusal.Refusal.TheVariants.{StatementRefused}
use Rattle.store_refusals.specs.Causes.{TellsCauseToWrite}
use Rattle.store_refusals.specs.RefusalConditions.{is_circumstance}

-- a circumstance; where the database refused one of these writes, its cause, over the tables of a store
pub record IsUnwritten (writes : List Write) (old new : State) (why : Refusal) : Type 0 where
  pub circumstance : IsTrue (is_circumstance why)
  pub store : (cause : Error) → why ≡ StatementRefused cause → IsStore old
  pub cause : TellsCauseToWrite (statements_of_all writes) old new why

-- these writes are made, or refused for that
abbrev pub WritesRows : {S A : Type 0} → Ghosts S → List Write → Held S → Held S → Result A Refusal → Type 0
WritesRows g writes old new result = MakesWrites g writes (IsUnwritten writes (state g old) (state g new)) old new result
