-- What a store stands for that is opened over files, and what is left of files that are not taken.
use Rattle.std.proofs.Common.{◌≡◌, ◌≢◌, ◌⊎◌, refl, ℕ, Bool, sym, ap, ap₂, subst, ◌∙◌, arith, inl, inr, List, [], ◌∷◌, IsTrue, IfSome, Option, None, Some, Result, Ok, Err, if◌then◌else◌}
use Rattle.sqlite_disk.specs.declared.Disk.{Ghosts}
use Rattle.sqlite_disk.specs.declared.Files.{Files}
use Rattle.sqlite_disk.specs.Events.{Event as Call, replay, settled}
use Rattle.sqlite_disk.specs.History.{MayLeave}
use Rattle.sqlite_wal.specs.Recovery.{Image}
use Rattle.sqlite_trees.specs.Tree.{Trees}
use Rattle.sqlite_catalog.specs.Listing.{IsSound}
use Rattle.sqlite.specs.State.{State, HasCleanDisk, IsLive, Opens, Survives}
use Rattle.sqlite.specs.Start.{FindsIn}
use Rattle.sqlite.specs.Files.{AreFoundIn, FailsToOpenFiles, IsCleanLeft, LeavesFiles}
use Rattle.sqlite.specs.declared.error.Error.{Error}
use Rattle.sqlite.specs.declared.error.Error.TheVariants.{SqliteFailure}
use Rattle.sqlite.specs.declared.error.ErrorCode.TheVariants.{CannotOpen, OutOfMemory}
use Rattle.sqlite.specs.declared.file.Leftover.{Leftover}
use Rattle.journal_model.specs.Event.{Event}
use Rattle.journal_model.specs.Cause.{IsAccepted, after_open}
use Rattle.sql_tables.specs.Columns.{no_schema}
use Rattle.store_invocations.specs.Rows.{IsStoreOf}
use Rattle.store_live.specs.Attempts.{ByInvocation}
use Rattle.store_refusals.specs.declared.refusal.Refusal.{Refusal}
use Rattle.store_refusals.specs.declared.refusal.Refusal.TheVariants.{ForeignRow}
use Rattle.journal_store.specs.OpeningConditions.{CanBeTaken, ComesBack, IsNotTaken}
use Rattle.journal_store.specs.StoreStanding.{KeepsAll, Stands}
use Rattle.store_files.specs.Files.{IsNoFile, KeepsEvents}
use Rattle.store_files.specs.RefusedFiles.{AreGiven, IsGivenBack, IsUnopened}
use Rattle.store_files.specs.TakenFiles.{AreFilesTaken}
use Rattle.store_files.specs.declared.open.NotTaken.{NotTaken}
use Rattle.store_files.specs.declared.open.NotTaken.TheVariants.{NoStore, Unopened}
use Rattle.store_files.proofs.Finding.{bare_or_not, finds_none, finds_some, found_trees}

pub was_clean : (old new : State) (Commits : Trees → Type 0) → Survives old new Commits → HasCleanDisk new → HasCleanDisk old
was_clean old new Commits s clean = omega (arith, s.clean, clean)

-- ---- a store that is opened

-- a connection that sees the tables of these events is a store of them
store_of : (events : List Event) (s : State) → IsAccepted events → KeepsAll events s.now.trees → IsStoreOf events s
store_of events s accepted keeps =
    record { accepted = accepted; read = keeps.read; keeps = λ clean is_open. record { accepted = accepted; records = keeps.records; held = keeps.held; kept = keeps.kept } }

-- The connection that was opened over the files, and the store that was opened over it.
module _ (image : Image) (was is : State) (attempts : ByInvocation) (Commits : Trees → Type 0) (survives : Survives was is Commits) (clean : HasCleanDisk is)
    (finds : HasCleanDisk was → FindsIn image was) (opened : HasCleanDisk was → Opens was × IsLive was) (fresh : was.now.schema ≡ no_schema → Stands [] is attempts)
    (left : was.now.schema ≢ no_schema → (events : List Event) → IsStoreOf events was → Stands (after_open events) is attempts) where
  before : HasCleanDisk was
  before = was_clean was is Commits survives clean

  found : FindsIn image was
  found = finds before

  opens : Opens was
  opens = (opened before).0

  live : IsLive was
  live = (opened before).1

  sound : IsSound was.now.schema was.now.trees
  sound = (live opens.is_open).0

  seen : AreFoundIn image was.now.trees
  seen = subst (AreFoundIn image) (sym (ap (λ db. db.trees) opens.clean)) found.reads

  pub none_stands : IsNoFile image → Stands [] is attempts
  none_stands none = fresh (finds_none image was found opens live none)

  pub kept_stands : (events : List Event) → KeepsEvents events image → Stands (after_open events) is attempts
  kept_stands events keeps =
      let same = found_trees image was found opens keeps.trees keeps.holds in
      let kept = subst (KeepsAll events) (sym same) keeps.keeps in
      left (finds_some image events was.now.schema was.now.trees seen kept sound) events (store_of events was keeps.accepted kept)

  pub is_taken : CanBeTaken was → AreFilesTaken image is attempts
  is_taken taken = record {
    trees = was.now.trees;
    found = seen;
    holds = found_trees image was found opens;
    is = elim (bare_or_not was.now.schema) [
      | inl none ↦ inl (subst (λ schema. IsSound schema was.now.trees) none sound, fresh none)
      | inr some ↦
          let tables = taken.tables some in
          inr (subst (λ schema. IsSound schema was.now.trees) tables.0 sound, tables.1, λ events accepted keeps. left some events (store_of events was accepted keeps))
    ];
  }

-- ---- a file that is not taken

-- The connection that was opened over the files, and as it came back.
module _ (image : Image) (was is : State) (back : ComesBack was is) (opens : HasCleanDisk was → Opens was) (clean : HasCleanDisk is) where
  opened : Opens was
  opened = opens (was_clean was is _ back.survives clean)

  pub seen_again : (HasCleanDisk was → FindsIn image was) → IsTrue is.is_open → AreFoundIn image is.now.trees
  seen_again found is_open =
      let kept = back.kept clean is_open in
      subst (AreFoundIn image) (sym (ap (λ db. db.trees) (kept.1 ∙ opened.clean))) (found (was_clean was is _ back.survives clean)).reads

  pub is_spared : (why : Refusal) → IsNotTaken was why → why ≡ ForeignRow → (trees : Trees) → is.may_leave trees → was.may_leave trees
  is_spared why cause foreign trees may = elim (back.survives.crash clean trees may) [
    | inl before ↦ before
    | inr made ↦ elim cause [
      | inl other ↦ elim other.1 [
        | inl inside ↦ absurd (let outside = sym opened.autocommit ∙ inside in cc)
        | inr tables ↦ absurd (tables.0 made.0)
      ]
      | inr circumstance ↦ absurd (let no = rw foreign at circumstance in cc)
    ]
  ]

-- ---- files that the system has just given

abbrev held : List ℕ → List ℕ → Bool → List ℕ
held log db is_log = if is_log then log else db

-- they read as they were, and a crash leaves nothing else
pub fresh_read : (log db : List ℕ) (flag want : Bool) (calls : List Call) (key : ℕ) → flag ≡ want → calls ≡ settled key ∷ [] → (replay (held log db flag) calls).seen ≡ held log db want
fresh_read log db flag want calls key which first = ap₂ (λ f h. (replay (held log db f) h).seen) which first

pub fresh_left : (mixes : Bool) (log db : List ℕ) (flag want : Bool) (calls : List Call) (key : ℕ) (left : List ℕ) → flag ≡ want → calls ≡ settled key ∷ []
    → MayLeave mixes (replay (held log db flag) calls).seen (replay (held log db flag) calls).synced (replay (held log db flag) calls).steps left → left ≡ held log db want
fresh_left mixes log db flag want calls key left which first may =
    elim (subst (λ h. MayLeave mixes (replay (held log db want) h).seen (replay (held log db want) h).synced (replay (held log db want) h).steps left) first
    (subst (λ f. MayLeave mixes (replay (held log db f) calls).seen (replay (held log db f) calls).synced (replay (held log db f) calls).steps left) which may)) [ inl now ↦ now | inr before ↦ before ]

-- ---- what the call answers

module _ {A F C : Type 0} where
  abbrev error_in : Error × Option F → Result A (NotTaken F C) → Error × Option F
  error_in other (Ok a) = other
  error_in other (Err (Unopened error left)) = (error, left)
  error_in other (Err (NoStore left)) = other

  pub by_error : (error : Error) (left : Option F) (P : Error → Option F → Type 0) → P error left → (e : Error) (l : Option F)
      → ◌≡◌ {A = Result A (NotTaken F C)} (Err (Unopened error left)) (Err (Unopened e l)) → P e l
  by_error error left P holds e l same = subst (λ p. P p.0 p.1) (ap (error_in (error, left)) same) holds

  abbrev store_in : C → Result A (NotTaken F C) → C
  store_in other (Ok a) = other
  store_in other (Err (Unopened error left)) = other
  store_in other (Err (NoStore left)) = left

  pub by_store : (left : C) (P : C → Type 0) → P left → (l : C) → ◌≡◌ {A = Result A (NotTaken F C)} (Err (NoStore left)) (Err (NoStore l)) → P l
  by_store left P holds l same = subst P (ap (store_in left) same) holds

-- no database could be made, before the files were opened
pub unmade : {D : Type 0} {g : Ghosts D} (image : Image) (error : Error) → (error ≡ SqliteFailure CannotOpen) ⊎ (error ≡ SqliteFailure OutOfMemory) → IsUnopened {g = g} image error None
unmade image error (inl e) = record { named = rw e refl; none = λ none. inl e; some = tt }
unmade image error (inr e) = record { named = rw e refl; none = λ none. inr (inl e); some = tt }

pub given_back : {D : Type 0} {g : Ghosts D} (image : Image) (error : Error) (Log Db : D → Type 0) → ((files : Files D) → Log files.log → Db files.db → AreGiven g image files)
    → (rest : Option (Leftover D g)) → IfSome rest (λ left. (files : Files D) × Log files.log × Db files.db × (IsCleanLeft left → FailsToOpenFiles files left error × LeavesFiles files left))
    → IfSome rest (IsGivenBack image error)
given_back image error Log Db given None it = tt
given_back image error Log Db given (Some left) it = record { files = it.0; given = given it.0 it.1 it.2; cause = λ clean. (it.3 clean).0; left = λ clean. (it.3 clean).1 }

abbrev pub image : List ℕ → List ℕ → Image
image log db = record { log = log; db = db }
