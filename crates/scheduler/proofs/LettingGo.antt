-- Invocations that are forgotten had no live attempt; and where there is no memory for letting go, none is forgotten.
use Rattle.std.proofs.Common.{◌≡◌, refl, ◌||◌, subst, arith, Bool, true, false, List, [], ◌∷◌, None, Result, Ok, Err, inl, inr, bytes_eq}
use Rattle.std.proofs.lemmas.Slice.Eq.{bytes_eq-Decides}
use Rattle.sqlite_trees.specs.declared.store.Store.{Ghosts}
use Rattle.journal_model.specs.Attempt.{live_attempt}
use Rattle.journal_model.specs.Event.{Event}
use Rattle.journal_model.specs.Journal.{is_open}
use Rattle.journal_model.specs.Notification.{Text}
use Rattle.store_refusals.specs.declared.refusal.Refusal.{Refusal}
use Rattle.store_refusals.specs.declared.refusal.Refusal.TheVariants.{OutOfMemory}
use Rattle.store_calls.specs.AbstractStore.{Standing}
use Rattle.store_calls.specs.Forgetting.{Forgets, LeavesOthers}
use Rattle.store_calls.proofs.Forgetting.{AreClosed, are_closed, closed_dead}
use Rattle.store_calls.proofs.Taking.{same_stays}
use Rattle.journal_store.specs.Causes.{TellsWhyUnforgotten}
use Rattle.journal_store.specs.StoreStanding.{EnduresAlways, Leads}
use Rattle.journal_store.specs.StoreView.{Stored}
use Rattle.journal_store.specs.Words.{AreTablesKept, state}
use Rattle.scheduler.specs.LettingGo.{ForgetsClosed, is_among}

among_closed : (events : List Event) (ids : List Text) (id : Text) → AreClosed events ids → is_among ids id ≡ true → is_open events id ≡ false
among_closed events [] id closed among = absurd cc
among_closed events (one ∷ ids) id closed among = by_id (bytes_eq one id) refl among (among_closed events ids id closed.1)
  where
    by_id : (b : Bool) → bytes_eq one id ≡ b → (b || is_among ids id) ≡ true → (is_among ids id ≡ true → is_open events id ≡ false) → is_open events id ≡ false
    by_id true e among rest = subst (λ (i : Text). is_open events i ≡ false) ((bytes_eq-Decides one id).0 e) closed.0
    by_id false e among rest = rest among

none_live : (ids : List Text) (s t : Standing) → LeavesOthers ids s t → (id : Text) → is_among ids id ≡ true → live_attempt s.events id ≡ None
none_live ids s t leaves id among = closed_dead s.events id s.accepted (among_closed s.events ids id (are_closed s.events ids leaves.closed) among)

closed_forgotten : (ids : List Text) (result : Result (Unit {0}) Refusal) (s t : Standing) → Forgets ids result s t → ForgetsClosed ids result s t
closed_forgotten ids (Ok done) s t it = record { forgets = it; none_live = none_live ids s t it }
closed_forgotten ids (Err why) s t it = record { forgets = it; none_live = tt }

module _ {S : Type 0} (g : Ghosts S) (ids : List Text) where
  pub forgets_closed : (result : Result (Unit {0}) Refusal) (old new : Stored S) → Leads g (Forgets ids result) old new → Leads g (ForgetsClosed ids result) old new
  forgets_closed result old new leads clean s is =
      let it = leads clean s is in
      (it.0, it.1, closed_forgotten ids result s it.0 it.2)

  -- ---- there is no memory

  pub unroomed : (store : Stored S) → Leads g (ForgetsClosed ids (Err OutOfMemory)) store store
  unroomed store clean s is = (s, is, closed_forgotten ids (Err OutOfMemory) s s (record { cause = inr refl; stays = same_stays s }))

  pub unroomed_cause : (store : Stored S) → TellsWhyUnforgotten g store store ids OutOfMemory
  unroomed_cause store clean cause is = absurd cc

  pub same_tables : (store : Stored S) → AreTablesKept (state g store.connection) (state g store.connection)
  same_tables store clean is_open = (is_open, refl)

  pub same_always : (P : Standing → Standing → Type 0) (store : Stored S) → EnduresAlways g P store store
  same_always P store = record { clean = omega arith; shield = λ it. it; counts = omega arith; limit = refl; closes = λ clean is_open. inl is_open; crash = λ clean db may. inl may }
