-- A store stands for what is left once closed invocations are forgotten.
use Rattle.std.proofs.Common.{◌≡◌, ◌≢◌, refl, sym, ap, subst, ◌∙◌, ℕ, Bool, true, false, if◌then◌else◌, List, [], ◌∷◌, ◌++◌, Option, Some, None, Result, Ok, Err, OnOk, bytes_eq, inl, inr, arith, IsTrue}
use Rattle.std.proofs.lemmas.Slice.Eq.{bytes_eq-Decides}
use Rattle.sqlite_trees.specs.Tree.{Trees}
use Rattle.sqlite_trees.specs.declared.store.Store.{Ghosts}
use Rattle.sqlite.specs.Held.{Held, state}
use Rattle.sqlite.specs.State.{State, HasCleanDisk, Survives}
use Rattle.sqlite.proofs.StateLemmas.{survives_then}
use Rattle.sql_tables.specs.QueryAnswers.{AreTablesKept}
use Rattle.journal_model.specs.Notification.{Text}
use Rattle.journal_model.specs.Request.{Request}
use Rattle.journal_model.specs.Event.{Event}
use Rattle.journal_model.specs.Journal.{frame_of, is_of, is_open, object_of, request_of_frame}
use Rattle.journal_model.specs.Attempt.{live_attempt}
use Rattle.journal_model.specs.Cause.{IsAccepted, those_that_hold}
use Rattle.journal_model.specs.Forgetting.{edits, without}
use Rattle.journal_laws.specs.Forgetting.{without_all}
use Rattle.journal_laws.proofs.Forgetting.{same_begun, still_accepted}
use Rattle.journal_laws.proofs.Several.{several_forget}
use Rattle.due_laws.proofs.Forgetting.{version_same}
use Rattle.store_frames.specs.ReadFrames.{AreRead, IsFrameRead, IsReadIn}
use Rattle.store_tables.specs.Looks.{HasWritten, Lasts, OnlyAsks}
use Rattle.store_tables.specs.Records.{Records, applied_all}
use Rattle.store_tables.specs.Steps.{Lands, TurnsRecords}
use Rattle.store_tables.specs.declared.row.InvocationRow.{InvocationRow}
use Rattle.store_tables.specs.declared.row.Progress.{Progress}
use Rattle.store_tables.specs.declared.row.Write.{Write}
use Rattle.store_model.specs.Forgetting.{forgotten, forgotten_all}
use Rattle.store_model.specs.KeptRecords.{IsKept, is_shown_whole, version_kept}
use Rattle.store_model.proofs.Forgetting.{kept_without, progress_left}
use Rattle.store_refusals.specs.declared.refusal.Refusal.{Refusal}
use Rattle.store_refusals.specs.Forgetting.{forget_tests_of_all}
use Rattle.store_refusals.specs.Preparations.{Keeps}
use Rattle.store_refusals.specs.RefusalConditions.{IsRefused}
use Rattle.store_invocations.specs.ForgottenRows.{forgetting_writes_of_all}
use Rattle.store_invocations.specs.Rows.{IsRowOf, IsStoreOf}
use Rattle.store_invocations.proofs.Standing.{store_kept}
use Rattle.store_live.specs.Attempts.{Attempts, ByInvocation, attempt_of}
use Rattle.store_live.specs.declared.attempt.LiveAttempt.{LiveAttempt}
use Rattle.store_live_laws.specs.LiveAttempts.{Agrees}
use Rattle.store_live_laws.proofs.Forgetting as others
use Rattle.store_calls.specs.AbstractStore.{Standing}
use Rattle.store_calls.specs.Forgetting.{Forgets, ForgetsNone, LeavesOthers}
use Rattle.store_calls.proofs.Forgetting as calls
use Rattle.store_calls.proofs.Forgetting.{AreClosed, all_left_closed, are_closed, closed_dead, live_left}
use Rattle.journal_store.specs.StoreStanding.{HasRow, KeepsAll, KeepsOf, Leads, Settles, Stands}
use Rattle.journal_store.specs.StoreTransaction.{WritesRows}
use Rattle.journal_store.specs.StoreView.{Stored, stored}
use Rattle.journal_store.proofs.Lasting.{outlasts_now}
use Rattle.journal_store.proofs.Leading.{stays, stood}
use Rattle.journal_store.proofs.Standing.{stands_asked, store_still}

-- ---- each frame that was taken is still that of a message

edits_read : (o : Option Text) (requests : List Request) (more : List Event) → AreRead more → AreRead (edits o requests ++ more)
edits_read None requests more read = read
edits_read (Some object) [] more read = read
edits_read (Some object) (request ∷ requests) more read = (tt, edits_read (Some object) requests more read)

module _ (id : Text) where
  still_read : (event : Event) (earlier : List Event) → is_of id event ≡ false → IsReadIn earlier event → IsReadIn (without id earlier) event
  still_read (Event.Move other attempt frame) earlier e read = subst (λ (version : ℕ). IsFrameRead version frame) (sym (version_same id earlier other e)) read
  still_read (Event.Signal other key result) earlier e read = read
  still_read event earlier e read = tt

  read_left : (events : List Event) → AreRead events → AreRead (without id events)
  read_left [] read = tt
  read_left (event ∷ earlier) read = by_cases (is_of id event) refl (read_left earlier read.1)
    where
      by_cases : (b : Bool) → is_of id event ≡ b → AreRead (without id earlier) → AreRead ((if b then edits (object_of earlier event) (request_of_frame (frame_of event)) else event ∷ []) ++ without id earlier)
      by_cases true e left = edits_read (object_of earlier event) (request_of_frame (frame_of event)) (without id earlier) left
      by_cases false e left = (still_read event earlier e read.0, left)

all_read : (ids : List Text) (events : List Event) → AreRead events → AreRead (without_all ids events)
all_read [] events read = read
all_read (id ∷ ids) events read = all_read ids (without id events) (read_left id events read)

-- ---- the records that are left

rows_gone : (ids : List Text) (r : Records) → applied_all (forgetting_writes_of_all ids) r ≡ forgotten_all ids r
rows_gone [] r = refl
rows_gone (id ∷ ids) r = rows_gone ids (forgotten id r)

-- of none nothing is written
pub none_named : (ids : List Text) → forgetting_writes_of_all ids ≡ [] → ids ≡ []
none_named [] none = refl
none_named (id ∷ ids) none = cc

module _ (ids : List Text) (events : List Event) where
  all_gone : (s : State) (writes : List Write) (trees : Trees) → Keeps events s → AreRead events → writes ≡ forgetting_writes_of_all ids → TurnsRecords (applied_all writes) s.now.trees trees
      → KeepsAll (without_all ids events) trees
  all_gone s writes trees k read are turns = record {
    read = all_read ids events read;
    records = applied_all writes k.records;
    held = turns k.records k.held;
    kept = subst (λ (records : Records). IsKept (without_all ids events) records) (sym (ap (λ (some : List Write). applied_all some k.records) are ∙ rows_gone ids k.records)) (kept_without events ids k.records k.kept);
  }

  gone : (old new : State) (writes : List Write) → IsStoreOf events old → HasCleanDisk old → writes ≡ forgetting_writes_of_all ids → IsTrue old.is_open → TurnsRecords (applied_all writes) old.now.trees new.now.trees
      → IsStoreOf (without_all ids events) new
  gone old new writes store clean are is_open turns =
      let all = all_gone old writes new.now.trees (store.keeps clean is_open) store.read are turns in
      let accepted = (several_forget events ids).accepted store.accepted in
      record { accepted = accepted; read = all.read; keeps = λ _ _. record { accepted = accepted; records = all.records; held = all.held; kept = all.kept } }

  -- what removes their rows was written, or there was none
  left_stored : (mid new : State) (P : Trees → Type 0) (writes : List Write) → Survives mid new P → HasCleanDisk new → IsStoreOf events mid → writes ≡ forgetting_writes_of_all ids → HasWritten writes mid new
      → IsStoreOf (without_all ids events) new
  left_stored mid new P writes lives clean store are (inl none) =
      subst (λ (some : List Text). IsStoreOf (without_all some events) new) (sym (none_named ids (sym are ∙ none.0))) (store_still events mid new P lives none.1 store)
  left_stored mid new P writes lives clean store are (inr all) =
      let early : HasCleanDisk mid = omega (arith, lives.clean, clean) in
      gone mid new writes store early are all.0 all.1

-- ---- the attempts that are live

none_is : (events : List Event) (id : Text) (o : Option LiveAttempt) → live_attempt events id ≡ None → Agrees events id o → o ≡ None
none_is events id None dead agrees = refl
none_is events id (Some attempt) dead agrees = let none : None ≡ Some attempt.number = sym dead ∙ agrees.number in cc

module _ (events : List Event) (id : Text) (accepted : IsAccepted events) (closed : is_open events id ≡ false) where
  agrees_still : (other : Text) (o : Option LiveAttempt) → Agrees events other o → Agrees (without id events) other o
  agrees_still other o agrees = by_id (bytes_eq id other) refl
    where
      by_id : (b : Bool) → bytes_eq id other ≡ b → Agrees (without id events) other o
      by_id false e = others.agrees_still id other e events o agrees
      by_id true e =
          let dead : live_attempt events other ≡ None = ap (live_attempt events) (sym ((bytes_eq-Decides id other).0 e)) ∙ closed_dead events id accepted closed in
          subst (Agrees (without id events) other) (sym (none_is events other o dead agrees)) (live_left events id accepted closed other ∙ dead)

  row_left : (other : Text) → bytes_eq id other ≡ false → (row : InvocationRow) → IsRowOf events other row → IsRowOf (without id events) other row
  row_left other d row of =
      let made : Progress → InvocationRow =
      λ progress. record { id = of.new.id; object = of.new.object; version = version_kept of.new.version; seed = of.new.seed; is_whole = is_shown_whole of.new.state; progress = progress } in
      let same = progress_left id of.new.id (ap (bytes_eq id) of.named ∙ d) events in
      record { new = of.new; begun = same_begun id other d events ∙ of.begun; named = of.named; is = of.is ∙ ap made (sym same) }

  rows_still : (other : Text) (o : Option LiveAttempt) → Agrees events other o → HasRow events other o → HasRow (without id events) other o
  rows_still other None agrees has = tt
  rows_still other (Some attempt) agrees has = by_id (bytes_eq id other) refl
    where
      by_id : (b : Bool) → bytes_eq id other ≡ b → IsRowOf (without id events) other attempt.row
      by_id false e = row_left other e attempt.row has
      by_id true e =
          let dead : live_attempt events other ≡ None = ap (live_attempt events) (sym ((bytes_eq-Decides id other).0 e)) ∙ closed_dead events id accepted closed in
          let none : None ≡ Some attempt.number = sym dead ∙ agrees.number in
          absurd cc

-- those that are live agree with these events, and have the rows of their invocations
pub record AreOf (events : List Event) (attempts : ByInvocation) : Type 0 where
  pub live : (id : Text) → Agrees events id (attempt_of attempts id)
  pub rows : (id : Text) → HasRow events id (attempt_of attempts id)

all_of : (ids : List Text) (events : List Event) (attempts : ByInvocation) → IsAccepted events → AreClosed events ids → AreOf events attempts → AreOf (without_all ids events) attempts
all_of [] events attempts accepted closed of = of
all_of (id ∷ ids) events attempts accepted closed of =
    all_of ids (without id events) attempts (still_accepted id events accepted) (all_left_closed events id ids closed.1) (record {
      live = λ other. agrees_still events id accepted closed.0 other (attempt_of attempts other) (of.live other);
      rows = λ other. rows_still events id accepted closed.0 other (attempt_of attempts other) (of.live other) (of.rows other);
    })

-- ---- what the store stands for

abbrev pub AreForgettable : List Text → List Event → Type 0
AreForgettable ids events = those_that_hold (forget_tests_of_all events ids) ≡ []

stands_without : (ids : List Text) (events : List Event) (old new : State) (attempts : ByInvocation) → AreForgettable ids events → IsStoreOf (without_all ids events) new → Stands events old attempts
    → Stands (without_all ids events) new attempts
stands_without ids events old new attempts none kept stands =
    let of = all_of ids events attempts stands.kept.accepted (are_closed events ids none) (record { live = stands.live; rows = stands.rows }) in
    record { kept = kept; live = of.live; rows = of.rows }

module _ {S : Type 0} (g : Ghosts S) (a mid b : Held S) (live : Attempts) (ids : List Text) where
  -- they are looked at, and none is forgotten
  pub forgets_none : (why : Refusal) → OnlyAsks g a b → (HasCleanDisk (state g b) → (events : List Event) → IsStoreOf events (state g a) → IsRefused (those_that_hold (forget_tests_of_all events ids)) why)
      → Leads g (ForgetsNone ids why) (stored a live) (stored b live)
  forgets_none why looks cause clean s is =
      let it = stays g s (stored a live) (stored b live) is (stands_asked s.events (state g a) (state g b) live.attempts looks.crash looks.kept is.stands) (λ id. refl) in
      (it.0, it.1, record { cause = cause clean s.events is.stands.kept; stays = it.2 })

  -- their rows are removed, or nothing is done
  pub forgets : (writes : List Write) (result : Result (Unit {0}) Refusal) → OnlyAsks g a mid → writes ≡ forgetting_writes_of_all ids
      → (HasCleanDisk (state g mid) → (events : List Event) → IsStoreOf events (state g a) → AreForgettable ids events) → WritesRows g writes mid b result → Leads g (Forgets ids result) (stored a live) (stored b live)
  forgets writes (Ok done) looks are ready wrote clean s is =
      let early : HasCleanDisk (state g mid) = omega (arith, wrote.crash.clean, clean) in
      let none = ready early s.events is.stands.kept in
      let store = store_kept s.events (state g a) (state g mid) looks.crash looks.kept is.stands.kept in
      let after = left_stored ids s.events (state g mid) (state g b) (Lands writes (state g mid)) writes wrote.crash clean store are (wrote.done clean) in
      let to = stood g (without_all ids s.events) (stored b live) (stands_without ids s.events (state g a) (state g b) live.attempts none after is.stands) in
      (to.0, to.1.standing, record { closed = none; events = to.1.same; outputs = λ id. to.1.standing.outputs id ∙ sym (is.outputs id) })
  forgets writes (Err why) looks are ready wrote clean s is =
      let store = store_kept s.events (state g a) (state g mid) looks.crash looks.kept is.stands.kept in
      let it = stays g s (stored a live) (stored b live) is
      (record { kept = store_still s.events (state g mid) (state g b) (Lands writes (state g mid)) wrote.crash wrote.undone store; live = is.stands.live; rows = is.stands.rows }) (λ id. refl) in
      (it.0, it.1, record { cause = inr wrote.why.circumstance; stays = it.2 })

  -- where any is named, what was answered lasts
  pub settles : (old : Stored S) → stored a live ≡ old → (writes : List Write) (result : Result (Unit {0}) Refusal) → ids ≢ [] → writes ≡ forgetting_writes_of_all ids → WritesRows g writes mid b result
      → Leads g (Forgets ids result) old (stored b live) → OnOk result (Settles g (Forgets ids result) old (stored b live))
  settles old view writes (Ok done) some are wrote leads = λ clean s is.
      let t = leads clean s is in
      let lasts : Lasts (state g b) = elim (wrote.lasts clean) [ inl none ↦ absurd (some (none_named ids (sym are ∙ none.0))) | inr all ↦ all ] in
      (t.0, t.1, t.2, outlasts_now t.0.events (state g b) live.attempts clean t.1.stands lasts)
  settles old view writes (Err why) some are wrote leads = tt

-- where a crash comes
pub forgotten_after : (old mid new : State) (ids : List Text) (writes : List Write) → Survives old mid (λ _. ⊥) → AreTablesKept old mid → Survives mid new (Lands writes mid) → writes ≡ forgetting_writes_of_all ids
    → (HasCleanDisk mid → (events : List Event) → IsStoreOf events old → AreForgettable ids events) → Survives old new (KeepsOf (λ (s : Standing). IsStoreOf s.events old) (LeavesOthers ids))
forgotten_after old mid new ids writes before asked lives are ready =
    survives_then old mid new (λ _. ⊥) (Lands writes mid) (KeepsOf (λ (s : Standing). IsStoreOf s.events old) (LeavesOthers ids)) (λ _ db none. absurd none)
    (λ clean db lands s kept.
    let early : HasCleanDisk mid = omega (arith, lives.clean, clean) in
    let none = ready early s.events kept in
    let store = store_kept s.events old mid before asked kept in
    let to = calls.forgotten ids s none in
    (to.0, to.1, subst (λ (events : List Event). KeepsAll events db) (sym to.1.events) (all_gone ids s.events mid writes db (store.keeps early lands.0) store.read are lands.1)))
    before lives
