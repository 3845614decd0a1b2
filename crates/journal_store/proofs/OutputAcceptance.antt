-- Frames are taken one after another.
use Rattle.std.proofs.Common.{◌≡◌, ◌≢◌, refl, sym, subst, ◌∙◌, ℕ, inl, inr, arith, Bool, true, false, true≢false, not, List, [], ◌∷◌, ◌++◌, Option, Some, None, Result, Ok, Err}
use Rattle.sqlite_trees.specs.declared.store.Store.{Ghosts}
use Rattle.sqlite.specs.Held.{state}
use Rattle.sqlite.specs.State.{HasCleanDisk}
use Rattle.sql_tables.specs.QueryAnswers.{AreTablesKept}
use Rattle.journal_model.specs.Notification.{Bytes, Text}
use Rattle.journal_model.specs.Event.{Event}
use Rattle.journal_model.specs.Attempt.{is_live}
use Rattle.store_refusals.specs.declared.refusal.Refusal.{Refusal}
use Rattle.store_refusals.specs.declared.refusal.Refusal.TheVariants.{OutOfMemory}
use Rattle.store_steps.specs.declared.frame.FrameReply.{FrameReply}
use Rattle.store_steps.specs.PreparedFrames.{does_end}
use Rattle.store_calls.specs.AbstractStore.{Standing}
use Rattle.store_calls.specs.Calls.{Pushes, PutsBehind}
use Rattle.store_calls.specs.Frames.{Accepts, AcceptsFirst, StepsAttempt, TakesEach, TakesFirstFrames, TakesFrames, TakesOne}
use Rattle.store_calls.proofs.Taking.{goes_on, none_behind, same_stays, takes_first, takes_more}
use Rattle.journal_store.specs.declared.accept.Accepted.{Accepted}
use Rattle.journal_store.specs.declared.joined.TakenFrames.{TakenFrames}
use Rattle.journal_store.specs.JoinedFrames.{TakesJoined}
use Rattle.journal_store.specs.StoreView.{Stored}
use Rattle.journal_store.specs.StoreStanding.{Leads, Endures, IsQuiet, Settles}
use Rattle.journal_store.specs.OutputAcceptance.{HasTaken, OutlastsFrames, SettlesFrames, SettlesNext, TakesNext}
use Rattle.journal_store.specs.Causes.{TellsWhyUnwritten, TriesFrame, TriesFrameBehind}
use Rattle.journal_store.proofs.Causing.{tried_behind}
use Rattle.journal_store.proofs.Enduring.{endures_on, quiet_endures}
use Rattle.journal_store.proofs.Lasting.{kept_then}

-- these frames were taken of an attempt, and it is live still
pub record GoesOn (id : Text) (n : ℕ) (replies : List FrameReply) (s t : Standing) : Type 0 where
  pub taken : TakesEach id n replies s t
  pub live : is_live s.events id n ≡ true → is_live t.events id n ≡ true

-- frames are taken to their end, of an attempt that is live
abbrev pub TakesLive : Text → ℕ → List FrameReply → Option Refusal → Standing → Standing → Type 0
TakesLive id n replies why s t = is_live s.events id n ≡ true → TakesFrames id n replies why s t

-- with one more answer there is one, and there are more
one_behind : (before : List FrameReply) (reply : FrameReply) → before ++ reply ∷ [] ≢ []
one_behind [] reply e = cc
one_behind (one ∷ before) reply e = cc

pub more_behind : (before : List FrameReply) (reply : FrameReply) → before ++ reply ∷ [] ≢ before
more_behind [] reply e = cc
more_behind (one ∷ before) reply e = more_behind before reply cc

module _ {S : Type 0} (g : Ghosts S) (id : Text) (n : ℕ) (first old new : Stored S) (replies after : List FrameReply) (so_far : Leads g (GoesOn id n replies) first old)
    (lives : Endures g (TakesOne id n) old new) where
  before_clean : HasCleanDisk (state g new.connection) → HasCleanDisk (state g old.connection)
  before_clean clean = omega (arith, lives.clean, clean)

  -- where a crash comes
  pub first_endures : Endures g (TakesFirstFrames id n) first old → Endures g (TakesFirstFrames id n) first new
  first_endures before =
      endures_on g (TakesFirstFrames id n) (GoesOn id n replies) (TakesOne id n) (TakesFirstFrames id n) first old new (λ s t it. it)
      (λ s m t taken one. takes_first id n replies one.0 s m t taken.taken one.1) before so_far lives

  -- one more was taken, and there may be more
  pub goes_further : (further : Bool) → further ≡ true → Leads g (TakesNext id n (Ok further) replies after) old new → Leads g (GoesOn id n after) first new
  goes_further further more does clean s is =
      let next : Leads g (TakesNext id n (Ok true) replies after) old new = subst (λ (b : Bool). Leads g (TakesNext id n (Ok b) replies after) old new) more does in
      let m = so_far (before_clean clean) s is in
      let t = next clean m.0 m.1 in
      let it : HasTaken true id n replies after m.0 t.0 = t.2 in (
        t.0,
        t.1,
        record {
          taken = subst (λ (all : List FrameReply). TakesEach id n all s t.0) (sym it.2) (takes_more id n replies it.0 s m.0 t.0 m.2.taken it.3);
          live = λ live. goes_on id n it.0 m.0 t.0 it.3 it.1 (m.2.live live);
        },
      )

  -- no further one is
  pub rests_so : (goes_on : Bool) → goes_on ≡ false → Leads g (TakesNext id n (Ok goes_on) replies after) old new → Leads g (TakesLive id n after None) first new
  rests_so goes_on rests does clean s is =
      let next : Leads g (TakesNext id n (Ok false) replies after) old new = subst (λ (b : Bool). Leads g (TakesNext id n (Ok b) replies after) old new) rests does in
      let m = so_far (before_clean clean) s is in
      let t = next clean m.0 m.1 in (
        t.0,
        t.1,
        λ live. elim t.2 [
          | inl it ↦
              record {
                between = t.0;
                taken = subst (λ (all : List FrameReply). TakesEach id n all s t.0) (sym it.2) (takes_more id n replies it.0 s m.0 t.0 m.2.taken it.3);
                rests = inl (record { over = none_behind id n it.0 m.0 t.0 it.3 it.1; stays = same_stays t.0 });
              }
          | inr it ↦
              record {
                between = m.0;
                taken = subst (λ (all : List FrameReply). TakesEach id n all s m.0) (sym it.0) m.2.taken;
                rests = inr it.1;
              }
        ],
      )

  -- one was refused
  pub refused_so : (why : Refusal) → Leads g (TakesNext id n (Err why) replies after) old new → Leads g (TakesLive id n after (Some why)) first new
  refused_so why next clean s is =
      let m = so_far (before_clean clean) s is in
      let t = next clean m.0 m.1 in (
        t.0,
        t.1,
        λ live. record {
          between = m.0;
          taken = subst (λ (all : List FrameReply). TakesEach id n all s m.0) (sym t.2.0) m.2.taken;
          rests = t.2.1 (m.2.live live);
        },
      )

  -- where the database refused it, it was tried behind those before
  pub refused_tried : Endures g (TakesFirstFrames id n) first old → (why : Refusal) → after ≡ replies → TellsWhyUnwritten g old new (TriesFrame id n) why
      → TellsWhyUnwritten g first new (TriesFrameBehind id n after) why
  refused_tried before why same =
      tried_behind g (GoesOn id n replies) (TriesFrame id n) (TriesFrameBehind id n after) first old new _ _ before lives so_far
      (λ s m at event taken tried. (
        subst (λ (all : List FrameReply). TakesEach id n all s at) (sym same) (subst (TakesEach id n replies s) (sym tried.0) taken.taken),
        tried.1,
      ))
      why

  -- ---- what lasts

  abbrev IsSettled : List FrameReply → Stored S → Type 0
  IsSettled all store = all ≢ [] → Settles g (TakesEach id n all) first store

  pub settled_on : (goes_on : Bool) → IsSettled replies old → SettlesNext g id n (Ok goes_on) replies after old new → IsSettled after new
  settled_on goes_on before next some = elim next [
    | inl it ↦ λ clean s is.
        let m = so_far (before_clean clean) s is in
        let t = it.2 clean m.0 m.1 in
        (t.0, t.1, subst (λ (all : List FrameReply). TakesEach id n all s t.0) (sym it.1) (takes_more id n replies it.0 s m.0 t.0 m.2.taken t.2), t.3)
    | inr it ↦
        subst (λ (all : List FrameReply). Settles g (TakesEach id n all) first new) (sym it.0)
        (subst (λ (store : Stored S). Settles g (TakesEach id n replies) first store) (sym it.1) (before (λ none. some (it.0 ∙ none))))
  ]

  pub rests_settled : (goes_on : Bool) → IsSettled replies old → SettlesNext g id n (Ok goes_on) replies after old new → SettlesFrames g (λ s m. m ≡ s) id n after None first new
  rests_settled goes_on before next some clean s is = let t = settled_on goes_on before next some clean s is in (s, refl, (t.0, t.2, t.3))

  pub refused_settled : (why : Refusal) → IsSettled replies old → SettlesNext g id n (Err why) replies after old new → SettlesFrames g (λ s m. m ≡ s) id n after (Some why) first new
  refused_settled why before same some clean s is =
      let m = before (λ none. some (same ∙ none)) (before_clean clean) s is in (
        s,
        refl,
        (
          m.0,
          subst (λ (all : List FrameReply). TakesEach id n all s m.0) (sym same) m.2,
          λ trees may. elim (lives.crash clean trees may) [ inl earlier ↦ inl (m.3 trees earlier) | inr keeps ↦ inr (keeps m.0 m.1) ],
        ),
      )

  -- ---- where no frame was answered

  -- the tables are as they were
  pub kept_on : (result : Result Bool Refusal) → SettlesNext g id n result replies after old new → (replies ≡ [] → AreTablesKept (state g first.connection) (state g old.connection))
      → (after ≡ replies → AreTablesKept (state g old.connection) (state g new.connection)) → after ≡ [] → AreTablesKept (state g first.connection) (state g new.connection)
  kept_on (Ok further) next before now none = elim next [
    | inl it ↦ absurd (one_behind replies it.0 (sym it.1 ∙ none))
    | inr it ↦ kept_then (state g first.connection) (state g old.connection) (state g new.connection) before_clean (before (sym it.0 ∙ none)) (now it.0)
  ]
  kept_on (Err why) same before now none =
      kept_then (state g first.connection) (state g old.connection) (state g new.connection) before_clean (before (sym same ∙ none)) (now same)

module _ {S : Type 0} (g : Ghosts S) (id : Text) (n : ℕ) (old new : Stored S) (before after : List FrameReply) where
  -- a step that took a frame
  pub next_taken : (reply : FrameReply) (ends : Bool) → does_end reply ≡ ends → after ≡ before ++ reply ∷ [] → Leads g (StepsAttempt id n (Ok (Some reply))) old new
      → Leads g (TakesNext id n (Ok (not ends)) before after) old new
  next_taken reply true ends more does clean s is = let t = does clean s is in (t.0, t.1, inl (reply, ends, more, t.2))
  next_taken reply false ends more does clean s is = let t = does clean s is in (t.0, t.1, (reply, ends, more, t.2))

  -- and one that took none
  pub next_none : after ≡ before → Leads g (StepsAttempt id n (Ok None)) old new → Leads g (TakesNext id n (Ok false) before after) old new
  next_none same does clean s is = let t = does clean s is in (t.0, t.1, inr (same, t.2))

  pub next_refused : (why : Refusal) → after ≡ before → Leads g (StepsAttempt id n (Err why)) old new → Leads g (TakesNext id n (Err why) before after) old new
  next_refused why same does clean s is =
      let t = does clean s is in (
        t.0,
        t.1,
        (same, λ live. elim t.2 [ inl over ↦ absurd (true≢false (sym live ∙ over.dead)) | inr refused ↦ inr refused ]),
      )

module _ {S : Type 0} (g : Ghosts S) (id : Text) (n : ℕ) where
  -- there is no room for an answer
  pub next_unroomed : (before after : List FrameReply) → after ≡ before → (store : Stored S) → Leads g (TakesNext id n (Err OutOfMemory) before after) store store
  next_unroomed before after same store clean s is = (s, is, (same, λ live. inl (record { live = live; memory = refl; stays = same_stays s })))

-- at first some were taken in one transaction
module _ {S : Type 0} (g : Ghosts S) (id : Text) (n : ℕ) (old new : Stored S) (taken : TakenFrames) where
  pub joined_on : taken.does_end ≡ false → Leads g (TakesJoined id n taken.replies.items taken.does_end) old new → Leads g (GoesOn id n taken.replies.items) old new
  joined_on going does clean s is = let t = does clean s is in (t.0, t.1, record { taken = t.2.taken; live = t.2.live going })

  -- up to one that has ended the attempt
  pub joined_over : taken.does_end ≡ true → Leads g (TakesJoined id n taken.replies.items taken.does_end) old new → Leads g (TakesLive id n taken.replies.items None) old new
  joined_over ends does clean s is =
      let t = does clean s is in
      (t.0, t.1, λ live. record { between = t.0; taken = t.2.taken; rests = inl (record { over = t.2.over ends; stays = same_stays t.0 }) })

  pub joined_lasts : (taken.replies.items ≢ [] → Settles g (TakesEach id n taken.replies.items) old new) → SettlesFrames g (λ s m. m ≡ s) id n taken.replies.items None old new
  joined_lasts settled some clean s is = let t = settled some clean s is in (s, refl, (t.0, t.2, t.3))

module _ {S : Type 0} (g : Ghosts S) (id : Text) (n : ℕ) (bytes : Bytes) (old pushed new : Stored S) (pushes : Leads g (Pushes id n bytes (Ok tt)) old pushed) where
  -- bytes were put behind, and the frames are taken
  pub accepts : (accepted : Accepted) → (HasCleanDisk (state g new.connection) → HasCleanDisk (state g pushed.connection))
      → Leads g (TakesLive id n accepted.replies.items accepted.refusal) pushed new → Leads g (Accepts id n bytes (Ok (accepted.replies.items, accepted.refusal))) old new
  accepts accepted early takes clean s is =
      let m = pushes (early clean) s is in
      let t = takes clean m.0 m.1 in
      (t.0, t.1, (m.0, m.2, t.2 (subst (λ (events : List Event). is_live events id n ≡ true) (sym m.2.events) m.2.live)))

  -- what was answered lasts
  pub accept_settled : (replies : List FrameReply) (why : Option Refusal) → (HasCleanDisk (state g new.connection) → HasCleanDisk (state g pushed.connection))
      → SettlesFrames g (λ s m. m ≡ s) id n replies why pushed new → SettlesFrames g (PutsBehind id n bytes) id n replies why old new
  accept_settled replies why early settled some clean s is =
      let m = pushes (early clean) s is in
      let t = settled some clean m.0 m.1 in (
        m.0,
        m.2,
        subst (λ (k : Standing). (u : Standing) × TakesEach id n replies k u × OutlastsFrames id n why u (state g new.connection)) t.1 t.2,
      )

  -- where a crash comes
  pub accept_endures : IsQuiet g old pushed → Endures g (TakesFirstFrames id n) pushed new → Endures g (AcceptsFirst id n bytes) old new
  accept_endures quiet lives =
      endures_on g (AcceptsFirst id n bytes) (Pushes id n bytes (Ok tt)) (TakesFirstFrames id n) (AcceptsFirst id n bytes) old pushed new (λ s t it. it)
      (λ s m t put taken. (m, put, taken)) (quiet_endures g (AcceptsFirst id n bytes) old pushed quiet) pushes lives
