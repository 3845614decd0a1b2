-- What SQL's rules can refuse of the writes of a store, one statement after another.
use Rattle.std.proofs.Common.{ℕ, inl, inr, List, [], ◌∷◌, Option}
use Rattle.std.specs.List.{AllByRecursion}
use Rattle.sqlite_keyed.proofs.ListLemmas.{all-append}
use Rattle.sqlite.specs.Effect.{Database}
use Rattle.sqlite.specs.declared.error.Error.{Error}
use Rattle.sql_tables.specs.Causes.{AreRefused, Statement}
use Rattle.sql_tables.specs.Refusals.{IsPlaceCause}
use Rattle.store_tables.specs.Refusals.{RulesRefuse}
use Rattle.store_tables.specs.Records.{Write}
use Rattle.store_tables.specs.Statements.{statements_of, statements_of_all}
use Rattle.store_tables.specs.declared.row.Write.TheVariants.{AddInvocation, SetProgress, AddEntry, PutState, DropState, DropStates, OpenSleep, CloseSleeps, CloseSleepsUntil, DropInvocation, DropEntries}
use Rattle.store_tables.proofs.Refusals.{HasInvocations, IsTame, adds_entry, adds_invocation, adds_state, closes_sleeps, closes_sleeps_until, drops_entries, drops_invocation, drops_state, drops_states, opens_sleep, sets_progress}

module _ (limit : Option ℕ) where
  in_turn : (statements : List Statement) → AllByRecursion (IsTame limit) statements → (db : Database) → HasInvocations db → (cause : Error) → AreRefused limit statements db cause → IsPlaceCause limit cause
  in_turn [] all db h cause none = absurd none
  in_turn (one ∷ more) all db h cause (inl refused) = all.0.refused db h cause refused
  in_turn (one ∷ more) all db h cause (inr (tally, mid, comes, then)) = in_turn more all.1 mid (all.0.comes db mid h tally comes) cause then

  tame : (write : Write) → AllByRecursion (IsTame limit) (statements_of write)
  tame (AddInvocation invocation) = (adds_invocation limit invocation, tt)
  tame (SetProgress id progress) = (sets_progress limit id progress, tt)
  tame (AddEntry entry) = (adds_entry limit entry, tt)
  tame (PutState state) = (drops_state limit state.object state.key, (adds_state limit state, tt))
  tame (DropState object key) = (drops_state limit object key, tt)
  tame (DropStates object) = (drops_states limit object, tt)
  tame (OpenSleep sleep) = (opens_sleep limit sleep, tt)
  tame (CloseSleeps invocation) = (closes_sleeps limit invocation, tt)
  tame (CloseSleepsUntil moment) = (closes_sleeps_until limit moment, tt)
  tame (DropInvocation id) = (drops_invocation limit id, tt)
  tame (DropEntries invocation) = (drops_entries limit invocation, tt)

  all_tame : (writes : List Write) → AllByRecursion (IsTame limit) (statements_of_all writes)
  all_tame [] = tt
  all_tame (write ∷ writes) = all-append (IsTame limit) (statements_of write) (statements_of_all writes) (tame write) (all_tame writes)

pub rules_refuse : RulesRefuse
rules_refuse limit writes before records cause has held =
    in_turn limit (statements_of_all writes) (all_tame limit writes) before (record { schema = has; invocations = records.invocations; rows = held.invocations }) cause
