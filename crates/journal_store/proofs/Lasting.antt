-- What is committed lasts, and what is refused leaves the tables.
use Rattle.std.proofs.Common.{◌≡◌, refl, ◌∙◌, sym, subst, inl, inr, arith, List, [], Result, Ok, Err, OnErr, OnOk}
use Rattle.std.proofs.lemmas.Result.{on_err_weaker}
use Rattle.sqlite_trees.specs.declared.store.Store.{Ghosts}
use Rattle.sqlite_trees.specs.Tree.{Trees}
use Rattle.sqlite.specs.Held.{Held, state}
use Rattle.sqlite.specs.State.{State, HasCleanDisk}
use Rattle.journal_model.specs.Event.{Event}
use Rattle.sql_tables.specs.QueryAnswers.{AreTablesKept}
use Rattle.store_tables.specs.Records.{Holds}
use Rattle.store_tables.specs.declared.row.Write.{Write}
use Rattle.store_tables.specs.Looks.{Lasts}
use Rattle.store_model.specs.Writes.{writes_of}
use Rattle.store_refusals.specs.declared.refusal.Refusal.{Refusal}
use Rattle.store_invocations.specs.Rows.{IsStoreOf}
use Rattle.store_live.specs.Attempts.{Attempts, ByInvocation}
use Rattle.store_calls.specs.AbstractStore.{Standing}
use Rattle.journal_store.specs.StoreView.{Stored, stored}
use Rattle.journal_store.specs.StoreStanding.{Leads, Outlasts, Settles, Stands}
use Rattle.journal_store.specs.StoreTransaction.{WritesRows}

pub outlasts_now : (events : List Event) (database : State) (attempts : ByInvocation) → HasCleanDisk database → Stands events database attempts → Lasts database → Outlasts events database
outlasts_now events database attempts clean stands lasts trees may =
    let k = stands.kept.keeps clean lasts.is_open in
    record { read = stands.kept.read; records = k.records; held = subst (λ (db : Trees). Holds db k.records) (sym (lasts.left trees may)) k.held; kept = k.kept }

-- what was made ready of an event that writes something was written, so what was answered lasts
pub settled_written : {S A : Type 0} (g : Ghosts S) (a mid b : Held S) (live after : Attempts) (old : Stored S) → stored a live ≡ old
    → (event : Event) (writes : List Write) (Relation : Standing → Standing → Type 0) (result : Result A Refusal) → WritesRows g writes mid b result
    → (HasCleanDisk (state g mid) → (events : List Event) → IsStoreOf events (state g a) → writes ≡ writes_of events event) → ((events : List Event) → writes_of events event ≡ [] → ⊥)
    → Leads g Relation old (stored b after) → OnOk result (Settles g Relation old (stored b after))
settled_written {S} g a mid b live after old view event writes Relation (Ok answer) wrote ready some leads =
    λ clean s is.
    let t = leads clean s is in
    let early : HasCleanDisk (state g mid) = omega (arith, wrote.crash.clean, clean) in
    let are = ready early s.events (subst (λ (store : Stored S). IsStoreOf s.events (state g store.connection)) (sym view) is.stands.kept) in
    let lasts : Lasts (state g b) = elim (wrote.lasts clean) [ inl none ↦ absurd (some s.events (sym are ∙ none.0)) | inr all ↦ all ] in
    (t.0, t.1, t.2, outlasts_now t.0.events (state g b) after.attempts clean t.1.stands lasts)
settled_written g a mid b live after old view event writes Relation (Err why) wrote ready some leads = tt

pub kept_then : (a b c : State) → (HasCleanDisk c → HasCleanDisk b) → AreTablesKept a b → AreTablesKept b c → AreTablesKept a c
kept_then a b c earlier one two clean is_open =
    let later = two clean is_open in
    let first = one (earlier clean) later.0 in
    (first.0, later.1 ∙ first.1)

-- where nothing was done they are left
pub same_kept : {S : Type 0} (g : Ghosts S) (old new : Stored S) → new ≡ old → AreTablesKept (state g old.connection) (state g new.connection)
same_kept {S} g old new same = subst (λ (it : Stored S). AreTablesKept (state g old.connection) (state g it.connection)) (sym same) (λ clean is_open. (is_open, refl))

-- what was looked at before was left too
pub undone_kept : {A E : Type 0} (result : Result A E) (a b c : State) → (HasCleanDisk c → HasCleanDisk b) → AreTablesKept a b → OnErr result (AreTablesKept b c) → OnErr result (AreTablesKept a c)
undone_kept result a b c earlier one two = on_err_weaker result (λ it. kept_then a b c earlier one it) two

pub on_err : {A E P : Type 0} (result : Result A E) → P → OnErr result P
on_err (Ok answer) it = tt
on_err (Err why) it = it
