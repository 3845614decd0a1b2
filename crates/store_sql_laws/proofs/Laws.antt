-- No write that is new is refused for a key.
use Rattle.std.proofs.Common.{◌≡◌, ◌++◌, ℕ, inl, inr, List, [], ◌∷◌, Option, refl, subst}
use Rattle.sqlite.specs.Effect.{Database}
use Rattle.sql_tables.specs.Causes.{AreRefused, Statement}
use Rattle.store_tables.specs.Records.{Records, applied, applied_all, with_state, without_state}
use Rattle.store_tables.specs.declared.row.Write.{Write}
use Rattle.store_tables.specs.Statements.{statements_of, statements_of_all}
use Rattle.store_tables.specs.declared.row.Write.TheVariants.{AddInvocation, AddEntry, CloseSleeps, CloseSleepsUntil, DropEntries, DropInvocation, DropState, DropStates, OpenSleep, PutState, SetProgress}
use Rattle.store_sql_laws.specs.Keys.{AreNew, IsNewIn, NoKeyIsTaken, key_taken}
use Rattle.store_sql_laws.proofs.Records.{none_left}
use Rattle.store_sql_laws.proofs.Spared.{IsSpared, adds_entry, adds_invocation, adds_state, closes_sleeps, closes_sleeps_until, drops_entries, drops_invocation, drops_state, drops_states, opens_sleep, sets_progress}
use Rattle.store_sql_laws.proofs.Stands.{Stands}

module _ (limit : Option ℕ) where
  -- each in turn
  abbrev Spares : List Statement → Records → Records → Type 0
  Spares [] r after = after ≡ r
  Spares (one ∷ more) r after = (mid : Records) × IsSpared limit one r mid × Spares more mid after

  spares_then : (xs ys : List Statement) (a b c : Records) → Spares xs a b → Spares ys b c → Spares (xs ++ ys) a c
  spares_then [] ys a b c is then = subst (λ r. Spares ys r c) is then
  spares_then (x ∷ xs) ys a b c (mid, one, more) then = (mid, one, spares_then xs ys mid b c more then)

  spared : (write : Write) (r : Records) → IsNewIn r write → Spares (statements_of write) r (applied write r)
  spared (AddInvocation invocation) r new = (applied (AddInvocation invocation) r, adds_invocation limit invocation r new, refl)
  spared (SetProgress id progress) r new = (applied (SetProgress id progress) r, sets_progress limit id progress r, refl)
  spared (AddEntry entry) r new = (applied (AddEntry entry) r, adds_entry limit entry r, refl)
  spared (PutState state) r new =
      let mid = without_state state.object state.key r in
      (mid, drops_state limit state.object state.key r, (with_state state mid, adds_state limit state mid (none_left state.object state.key r.states), refl))
  spared (DropState object key) r new = (applied (DropState object key) r, drops_state limit object key r, refl)
  spared (DropStates object) r new = (applied (DropStates object) r, drops_states limit object r, refl)
  spared (OpenSleep sleep) r new = (applied (OpenSleep sleep) r, opens_sleep limit sleep r, refl)
  spared (CloseSleeps invocation) r new = (applied (CloseSleeps invocation) r, closes_sleeps limit invocation r, refl)
  spared (CloseSleepsUntil moment) r new = (applied (CloseSleepsUntil moment) r, closes_sleeps_until limit moment r, refl)
  spared (DropInvocation id) r new = (applied (DropInvocation id) r, drops_invocation limit id r, refl)
  spared (DropEntries invocation) r new = (applied (DropEntries invocation) r, drops_entries limit invocation r, refl)

  all_spared : (writes : List Write) (r : Records) → AreNew writes r → Spares (statements_of_all writes) r (applied_all writes r)
  all_spared [] r new = refl
  all_spared (write ∷ writes) r new =
      spares_then (statements_of write) (statements_of_all writes) r (applied write r) (applied_all writes (applied write r)) (spared write r new.0) (all_spared writes (applied write r) new.1)

  never : (statements : List Statement) (r after : Records) → Spares statements r after → (db : Database) → Stands db r → AreRefused limit statements db key_taken → ⊥
  never [] r after all db h none = none
  never (one ∷ more) r after (mid, spared, rest) db h (inl refused) = spared.never db h refused
  never (one ∷ more) r after (mid, spared, rest) db h (inr (tally, next, comes, then)) = never more mid after rest next (spared.comes db next h tally comes) then

pub no_key_is_taken : NoKeyIsTaken
no_key_is_taken limit writes before records has held apart new refused =
    never limit (statements_of_all writes) records (applied_all writes records) (all_spared limit writes records new) before (record { schema = has; invocations = held.invocations; states = held.states; apart = apart }) refused
