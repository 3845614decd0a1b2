-- A store of some events stays one while it is only asked.
use Rattle.std.proofs.Common.{◌≡◌, sym, subst, ◌∙◌, arith, List}
use Rattle.sqlite.specs.Effect.{Database}
use Rattle.sqlite.specs.State.{State, HasCleanDisk, Survives}
use Rattle.sqlite.proofs.StateLemmas.{survives_then}
use Rattle.journal_model.specs.Event.{Event}
use Rattle.sql_tables.specs.QueryAnswers.{AreTablesKept}
use Rattle.store_tables.specs.Records.{Holds}
use Rattle.store_refusals.specs.Preparations.{Keeps}
use Rattle.store_invocations.specs.Rows.{IsStoreOf}

keeps_now : (events : List Event) (old new : State) → new.now ≡ old.now → Keeps events old → Keeps events new
keeps_now events old new same k = record {
  accepted = k.accepted;
  records = k.records;
  held = subst (λ (d : Database). Holds d.trees k.records) (sym same) k.held;
  kept = k.kept;
}

pub store_kept : (events : List Event) (old new : State) → Survives old new (λ _. ⊥) → AreTablesKept old new → IsStoreOf events old → IsStoreOf events new
store_kept events old new lives kept store = record {
  accepted = store.accepted;
  read = store.read;
  keeps = λ clean is_open.
      let early : HasCleanDisk old = omega (arith, lives.clean, clean) in
      let it = kept clean is_open in
      keeps_now events old new it.1 (store.keeps early it.0);
}

pub kept_on : (a b c : State) → Survives b c (λ _. ⊥) → AreTablesKept a b → AreTablesKept b c → AreTablesKept a c
kept_on a b c lives one two clean is_open =
    let early : HasCleanDisk b = omega (arith, lives.clean, clean) in
    let later = two clean is_open in
    let first = one early later.0 in
    (first.0, later.1 ∙ first.1)

pub survives_on : (a b c : State) → Survives a b (λ _. ⊥) → Survives b c (λ _. ⊥) → Survives a c (λ _. ⊥)
survives_on a b c one two = survives_then a b c _ _ (λ _. ⊥) (λ _ db none. none) (λ _ db none. none) one two
