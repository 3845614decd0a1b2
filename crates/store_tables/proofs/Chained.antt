-- Questions in turn are one look, and what is committed lasts.
use Rattle.std.proofs.Common.{◌≡◌, ◌∙◌, sym, ap, arith, false, [], Result, OnOk, IsTrue}
use Rattle.sqlite_trees.specs.Tree.{Trees}
use Rattle.sqlite_trees.specs.declared.store.Store.{Ghosts}
use Rattle.sqlite.specs.Held.{Held, state}
use Rattle.sqlite.specs.State.{State, HasCleanDisk, KeepsCounts, Shows}
use Rattle.sqlite.proofs.StateLemmas.{survives_then}
use Rattle.sql_tables.proofs.Queries.{on_ok}
use Rattle.store_tables.specs.Looks.{Lasts, OnlyAsks}

pub clean_before : {S : Type 0} (g : Ghosts S) (a b : Held S) → OnlyAsks g a b → HasCleanDisk (state g b) → HasCleanDisk (state g a)
clean_before g a b looks clean = omega (arith, looks.crash.clean, clean)

pub looks_on : {S : Type 0} (g : Ghosts S) (a b c : Held S) → OnlyAsks g a b → OnlyAsks g b c → OnlyAsks g a c
looks_on g a b c one two = record {
  kept = λ clean is_open.
      let later = two.kept clean is_open in
      let first = one.kept (clean_before g b c two clean) later.0 in
      (first.0, later.1 ∙ first.1);
  crash = survives_then (state g a) (state g b) (state g c) _ _ (λ _. ⊥) (λ _ db none. none) (λ _ db none. none) one.crash two.crash;
}

-- While a store is open, a crash leaves what is committed.
abbrev pub IsSettling : {S : Type 0} → Ghosts S → Type 0
IsSettling {S} g = (store : S) (trees : Trees) → IsTrue (g.view store).is_open → g.recovers store trees → trees ≡ (g.view store).committed

-- so it is with a connection that is idle
pub idle_lasts : {S : Type 0} (g : Ghosts S) → IsSettling g → (h : Held S) → (IsTrue (state g h).is_open → (state g h).now ≡ (state g h).committed) → IsTrue (state g h).is_open → Lasts (state g h)
idle_lasts g law h idle is_open = record { is_open = is_open; left = λ trees may. law h.store trees is_open may ∙ ap (λ db. db.trees) (sym (idle is_open)) }

pub lasts : {S E : Type 0} (g : Ghosts S) → IsSettling g → (old : State) (new : Held S) (result : Result (Unit {0}) E)
    → (HasCleanDisk (state g new) → OnOk result (IsTrue old.in_transaction × Shows old (state g new) old.now old.now false × KeepsCounts old (state g new) × ((state g new).marks ≡ [])))
    → HasCleanDisk (state g new) → OnOk result (Lasts (state g new))
lasts g law old new result told clean = on_ok result (told clean) (λ it. record {
  is_open = it.1.is_open;
  left = λ trees may. law new.store trees it.1.is_open may ∙ ap (λ db. db.trees) (it.1.committed_is ∙ sym it.1.now_is);
})
