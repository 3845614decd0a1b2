-- Frames that were made ready are taken in one transaction.
use Rattle.std.proofs.Common.{◌≡◌, ◌≢◌, ℕ, refl, sym, ap, ap₂, subst, ◌∙◌, inl, inr, arith, drop, Bool, true, false, if◌then◌else◌, List, [], ◌∷◌, Option, Some, None, option_map, bytes_eq, ◌≤◌, length}
use Rattle.std.specs.Option.{ForSome}
use Rattle.std.specs.Prelude.{IfSome}
use Rattle.std.proofs.lemmas.Bool.Decides.{Decides-eqb}
use Rattle.sqlite_trees.specs.declared.store.Store.{Ghosts}
use Rattle.sqlite_trees.specs.Tree.{Trees}
use Rattle.sqlite.specs.Held.{Held, state}
use Rattle.sqlite.specs.State.{HasCleanDisk, Survives}
use Rattle.sqlite.proofs.StateLemmas.{survives_then}
use Rattle.sql_tables.specs.QueryAnswers.{AreTablesKept}
use Rattle.journal_model.specs.Notification.{Text}
use Rattle.journal_model.specs.Attempt.{is_live}
use Rattle.store_tables.specs.Looks.{Lasts, OnlyAsks}
use Rattle.store_tables.specs.Records.{Records, applied_all}
use Rattle.store_tables.specs.Steps.{Lands}
use Rattle.store_tables.specs.declared.row.InvocationRow.{InvocationRow}
use Rattle.store_tables.specs.declared.row.Write.{Write}
use Rattle.store_model.specs.KeptRecords.{IsKept}
use Rattle.store_invocations.specs.Rows.{IsRowOf, IsStoreOf}
use Rattle.store_steps.specs.declared.frame.FrameReply.{FrameReply}
use Rattle.store_live.specs.declared.attempt.LiveAttempt.{LiveAttempt}
use Rattle.store_live.specs.Attempts.{Attempts, IsNow, attempt_of}
use Rattle.store_live.specs.Rows.{live_noted, row_after}
use Rattle.store_live_laws.specs.LiveAttempts.{has_number}
use Rattle.store_live_laws.proofs.Tests.{live_told}
use Rattle.store_calls.specs.AbstractStore.{Standing}
use Rattle.store_calls.specs.Frames.{TakesEach, TakesFirstFrames}
use Rattle.store_calls.proofs.Taking.{same_stays}
use Rattle.journal_store.specs.declared.joined.JoinedFrames.{JoinedFrames}
use Rattle.journal_store.specs.declared.joined.TakenFrames.{TakenFrames}
use Rattle.journal_store.specs.StoreView.{stored}
use Rattle.journal_store.specs.Attempts.{IsNowNoted}
use Rattle.journal_store.specs.StoreStanding.{Endures, HasRow, IsStanding, KeepsAll, KeepsStanding, Leads, Settles}
use Rattle.journal_store.specs.FrameAcceptance.{passed}
use Rattle.journal_store.specs.JoinedFrames.{ArePassed, AreReady, AreReadyBy, AreReadyOf, IsInMemory, LeadsOn, TakesJoined, TakesReady, ahead, joined_writes, left_ahead, other_writes, row_behind}
use Rattle.journal_store.proofs.JoinedFrames.{in_memory}
use Rattle.journal_store.proofs.JoinedWrites.{joined_records, row_joined, row_joined_other}
use Rattle.journal_store.proofs.Lasting.{kept_then, outlasts_now}
use Rattle.journal_store.proofs.Standing.{store_still}

only_some : {A : Type 0} (o : Option A) (x y : A) → o ≡ Some x → o ≡ Some y → x ≡ y
only_some o x y one other = cc

-- ---- what is written of them

abbrev all_of : JoinedFrames → List Write
all_of frames = joined_writes frames.writes.items frames.row

some_written : (writes : List Write) (row : InvocationRow) → joined_writes writes row ≡ [] → ⊥
some_written [] row e = cc
some_written (write ∷ writes) row e = cc

first_of : (id : Text) (n : ℕ) (replies : List FrameReply) (s t : Standing) → replies ≢ [] → TakesEach id n replies s t → TakesFirstFrames id n s t
first_of id n [] s t some it = absurd (some refl)
first_of id n (reply ∷ replies) s t some it = (reply, replies, it)

-- ---- where none was taken

-- the store stands for what it stood for
still_standing : {S : Type 0} (g : Ghosts S) (a b : Held S) (before after : Attempts) (s : Standing) (P : Trees → Type 0) → after ≡ before → Survives (state g a) (state g b) P → AreTablesKept (state g a) (state g b)
    → IsStanding g s (stored a before) → IsStanding g s (stored b after)
still_standing g a b before after s P same lives kept is =
    subst (λ (live : Attempts). IsStanding g s (stored b live)) (sym same)
    (record { stands = record { kept = store_still s.events (state g a) (state g b) P lives kept is.stands.kept; live = is.stands.live; rows = is.stands.rows }; outputs = is.outputs })

takes_nothing : (id : Text) (n : ℕ) (replies : List FrameReply) (s : Standing) → replies ≡ [] → TakesJoined id n replies false s s
takes_nothing id n replies s none = record { taken = subst (λ (all : List FrameReply). TakesEach id n all s s) (sym none) (same_stays s); live = λ _ live. live; over = λ e. cc }

-- where the database was asked alone
pub nothing_taken : {S : Type 0} (g : Ghosts S) (a b : Held S) (live : Attempts) (id : Text) (n : ℕ) (taken : TakenFrames) → taken.replies.items ≡ [] → taken.does_end ≡ false → OnlyAsks g a b
    → Leads g (TakesJoined id n taken.replies.items taken.does_end) (stored a live) (stored b live)
nothing_taken g a b live id n taken none going looks clean s is = (
  s,
  still_standing g a b live live s (λ _. ⊥) refl looks.crash looks.kept is,
  subst (λ (ends : Bool). TakesJoined id n taken.replies.items ends s s) (sym going) (takes_nothing id n taken.replies.items s none),
)

-- some that were made ready of the attempt with this number
pub some_ready : {S : Type 0} (g : Ghosts S) (id : Text) (n : ℕ) (attempt : LiveAttempt) (a mid : Held S) (frames : JoinedFrames) → attempt.number ≡ n → frames.len ≤ length attempt.output → AreReady g id frames attempt a mid
    → (result : Option JoinedFrames) → IfSome result (λ some. some ≡ frames) → IfSome result (λ some. some.replies.items ≢ []) → IfSome result (λ some. AreReadyBy g id n some attempt a mid)
some_ready g id n attempt a mid frames number within ready None same some = tt
some_ready g id n attempt a mid frames number within ready (Some it) same some = record {
  number = number;
  within = subst (λ (all : JoinedFrames). all.len ≤ length attempt.output) (sym same) within;
  some = some;
  ready = subst (λ (all : JoinedFrames). AreReady g id all attempt a mid) (sym same) ready;
}

-- the attempt that they are of
record OfAttempt {S : Type 0} (g : Ghosts S) (id : Text) (n : ℕ) (frames : JoinedFrames) (live : Option LiveAttempt) (a mid : Held S) : Type 0 where
  pub attempt : LiveAttempt
  pub found : live ≡ Some attempt
  pub ready : AreReadyBy g id n frames attempt a mid

of_attempt : {S : Type 0} (g : Ghosts S) (id : Text) (n : ℕ) (frames : JoinedFrames) (live : Option LiveAttempt) (a mid : Held S) → AreReadyOf g id n frames live a mid → OfAttempt g id n frames live a mid
of_attempt g id n frames None a mid ready = absurd ready
of_attempt g id n frames (Some attempt) a mid ready = record { attempt = attempt; found = refl; ready = ready }

pub all_within : {S : Type 0} (g : Ghosts S) (id : Text) (n : ℕ) (frames : JoinedFrames) (live : Option LiveAttempt) (a mid : Held S) → AreReadyOf g id n frames live a mid
    → ForSome live (λ attempt. frames.len ≤ length attempt.output)
all_within g id n frames live a mid ready one is =
    let of = of_attempt g id n frames live a mid ready in
    subst (λ (attempt : LiveAttempt). frames.len ≤ length attempt.output) (only_some live of.attempt one of.found is) of.ready.within

module _ {S : Type 0} (g : Ghosts S) (a mid b : Held S) (before after : Attempts) (id : Text) (n : ℕ) (frames : JoinedFrames) (are_ready : AreReadyOf g id n frames (attempt_of before.attempts id) a mid) (looks : OnlyAsks g a mid) where
  one : OfAttempt g id n frames (attempt_of before.attempts id) a mid
  one = of_attempt g id n frames (attempt_of before.attempts id) a mid are_ready

  live_here : (s : Standing) → IsStanding g s (stored a before) → is_live s.events id n ≡ true
  live_here s is =
      live_told s.events id n (attempt_of before.attempts id) (is.stands.live id) ∙ ap (has_number n) one.found
      ∙ (Decides-eqb one.attempt.number n).1 one.ready.number

  abbrev Led : Standing → Type 0
  Led s = (t : Standing) × LeadsOn id n frames one.attempt before.attempts s t

  led : HasCleanDisk (state g mid) → (s : Standing) → IsStanding g s (stored a before) → Led s
  led clean s is = one.ready.ready clean n s before.attempts is.stands.kept (in_memory g s (stored a before) is) one.found (live_here s is)

  -- the row of the invocation
  named : (s : Standing) → IsStanding g s (stored a before) → one.attempt.row.id ≡ id
  named s is =
      let of : IsRowOf s.events id one.attempt.row = subst (HasRow s.events id) one.found (is.stands.rows id) in
      ap (λ (row : InvocationRow). row.id) of.is ∙ of.named

  module _ (s : Standing) (is : IsStanding g s (stored a before)) (to : Led s) where
    abbrev on : LeadsOn id n frames one.attempt before.attempts s to.0
    on = to.1

    records_kept : (r : Records) → IsKept s.events r → IsKept to.0.events (applied_all (all_of frames) r)
    records_kept r kept =
        subst (IsKept to.0.events)
        (sym (joined_records id on.writes.all frames.writes.items one.attempt.row frames.row r on.writes.own (on.writes.progressed one.ready.some) on.writes.others on.writes.row_is (named s is)))
        (on.writes.kept r kept)

    -- the records that they leave
    landed_then : (trees : Trees) → HasCleanDisk (state g mid) → Lands (all_of frames) (state g mid) trees → KeepsAll to.0.events trees
    landed_then trees clean lands =
        let k = (store_still s.events (state g a) (state g mid) (λ _. ⊥) looks.crash looks.kept is.stands.kept).keeps clean lands.0 in
        record { read = on.read; records = applied_all (all_of frames) k.records; held = lands.1 k.records k.held; kept = records_kept k.records k.kept }

    -- and they are in the tables once all is written
    stored_then : HasCleanDisk (state g mid) → Lands (all_of frames) (state g mid) (state g b).now.trees → IsStoreOf to.0.events (state g b)
    stored_then clean lands = record {
      accepted = to.0.accepted;
      read = on.read;
      keeps = λ _ _. let all = landed_then (state g b).now.trees clean lands in record { accepted = to.0.accepted; records = all.records; held = all.held; kept = all.kept };
    }

    written_is : all_of frames ≡ joined_writes (other_writes on.writes.all) (row_behind on.writes.all one.attempt.row)
    written_is = ap₂ joined_writes on.writes.others on.writes.row_is

    noted_left : (ends : Bool) (found : Option LiveAttempt) → found ≡ Some one.attempt
        → option_map (live_noted id (all_of frames)) (passed ends frames.len found) ≡ (if ends then None else Some (ahead frames one.attempt))
    noted_left true found is_found = refl
    noted_left false found is_found =
        ap (λ (o : Option LiveAttempt). option_map (live_noted id (all_of frames)) (passed false frames.len o)) is_found
        ∙ ap (λ (last : InvocationRow). Some (record (one.attempt) { output = drop frames.len one.attempt.output; row = last }))
        (ap (λ (writes : List Write). row_after id writes one.attempt.row) written_is ∙ row_joined id on.writes.all one.attempt.row (named s is) ∙ sym on.writes.row_is)

    noted_apart : (other : Text) → bytes_eq id other ≡ false → (o : Option LiveAttempt) → option_map (live_noted other (all_of frames)) o ≡ o
    noted_apart other apart None = refl
    noted_apart other apart (Some any) =
        ap (λ (last : InvocationRow). Some (record any { row = last }))
        (ap (λ (writes : List Write). row_after other writes any.row) written_is ∙ row_joined_other id other on.writes.all one.attempt.row any.row (named s is) apart)

    -- the attempts in memory are those behind the frames
    now_left : IsNowNoted (all_of frames) id (passed frames.does_end frames.len (attempt_of before.attempts id)) before.attempts after.attempts
        → IsNow id (left_ahead frames one.attempt) before.attempts after.attempts
    now_left (between, now, noted) = record {
      own = noted id ∙ ap (option_map (live_noted id (all_of frames))) now.own ∙ noted_left frames.does_end (attempt_of before.attempts id) one.found;
      others = λ other apart. noted other ∙ noted_apart other apart (attempt_of between other) ∙ now.others other apart;
    }

    standing_then : HasCleanDisk (state g mid) → Lands (all_of frames) (state g mid) (state g b).now.trees
        → IsNowNoted (all_of frames) id (passed frames.does_end frames.len (attempt_of before.attempts id)) before.attempts after.attempts → IsStanding g to.0 (stored b after)
    standing_then clean lands left =
        let memory : IsInMemory to.0 after.attempts = on.memory after.attempts (now_left left) in
        record { stands = record { kept = stored_then clean lands; live = memory.live; rows = memory.rows }; outputs = memory.outputs }

  -- ---- what their one transaction does

  module _ (taken : TakenFrames) where
    -- all of them were written, and passed
    module _ (passes : ArePassed g id frames taken (stored mid before) (stored b after)) where
      all_landed : HasCleanDisk (state g b) → Lands (all_of frames) (state g mid) (state g b).now.trees
      all_landed clean = elim (passes.wrote.done clean) [ inl none ↦ absurd (some_written frames.writes.items frames.row none.0) | inr all ↦ all ]

      all_led : HasCleanDisk (state g b) → (s : Standing) → IsStanding g s (stored a before) → (t : Standing) × IsStanding g t (stored b after) × TakesJoined id n taken.replies.items taken.does_end s t
      all_led clean s is =
          let early : HasCleanDisk (state g mid) = omega (arith, passes.wrote.crash.clean, clean) in
          let to = led early s is in (
            to.0,
            standing_then s is to early (all_landed clean) passes.left,
            record {
              taken = subst (λ (replies : List FrameReply). TakesEach id n replies s to.0) (sym passes.replies) to.1.taken;
              live = λ going _. to.1.live (sym passes.ends ∙ going);
              over = λ ends. to.1.over (sym passes.ends ∙ ends);
            },
          )

      all_settled : Settles g (TakesEach id n taken.replies.items) (stored a before) (stored b after)
      all_settled clean s is =
          let t = all_led clean s is in
          let lasts : Lasts (state g b) = elim (passes.wrote.lasts clean) [ inl none ↦ absurd (some_written frames.writes.items frames.row none.0) | inr all ↦ all ] in
          (t.0, t.1, t.2.taken, outlasts_now t.0.events (state g b) after.attempts clean t.1.stands lasts)

    lands_so : Survives (state g mid) (state g b) (Lands (all_of frames) (state g mid)) → Endures g (TakesFirstFrames id n) (stored a before) (stored b after)
    lands_so lives =
        survives_then (state g a) (state g mid) (state g b) (λ _. ⊥) (Lands (all_of frames) (state g mid)) (KeepsStanding g (TakesFirstFrames id n) (stored a before)) (λ _ db none. absurd none)
        (λ clean db lands s is.
        let early : HasCleanDisk (state g mid) = omega (arith, lives.clean, clean) in
        let to = led early s is in
        (to.0, first_of id n frames.replies.items s to.0 one.ready.some to.1.taken, landed_then s is to db early lands))
        looks.crash lives

    pub joined_does : TakesReady g id frames taken (stored mid before) (stored b after) → Leads g (TakesJoined id n taken.replies.items taken.does_end) (stored a before) (stored b after)
    joined_does (inl passes) = all_led passes
    joined_does (inr left) =
        subst (λ (ends : Bool). Leads g (TakesJoined id n taken.replies.items ends) (stored a before) (stored b after)) (sym left.ends)
        (λ clean s is. (
          s,
          still_standing g mid b before after s (Lands (all_of frames) (state g mid)) left.live left.crash left.kept
              (still_standing g a mid before before s (λ _. ⊥) refl looks.crash looks.kept is),
          takes_nothing id n taken.replies.items s left.replies,
        ))

    pub joined_settled : TakesReady g id frames taken (stored mid before) (stored b after) → taken.replies.items ≢ [] → Settles g (TakesEach id n taken.replies.items) (stored a before) (stored b after)
    joined_settled (inl passes) some = all_settled passes
    joined_settled (inr left) some = absurd (some left.replies)

    pub joined_kept : TakesReady g id frames taken (stored mid before) (stored b after) → taken.replies.items ≡ [] → AreTablesKept (state g a) (state g b)
    joined_kept (inl passes) none = absurd (one.ready.some (sym passes.replies ∙ none))
    joined_kept (inr left) none = kept_then (state g a) (state g mid) (state g b) (λ clean. omega (arith, left.crash.clean, clean)) looks.kept left.kept

    pub joined_crash : TakesReady g id frames taken (stored mid before) (stored b after) → Endures g (TakesFirstFrames id n) (stored a before) (stored b after)
    joined_crash (inl passes) = lands_so passes.wrote.crash
    joined_crash (inr left) = lands_so left.crash
