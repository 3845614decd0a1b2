-- What a scheduler reaches: by nothing, by one call, by one call behind another.
use Rattle.std.proofs.Common.{◌≡◌, List, refl, sym, ap, subst, ◌∙◌, arith}
use Rattle.sqlite_trees.specs.declared.store.Store.{Ghosts}
use Rattle.sqlite.specs.Held.{state}
use Rattle.sqlite.specs.State.{HasCleanDisk, Survives}
use Rattle.sqlite.proofs.StateLemmas.{survives_then, survives_weaker}
use Rattle.built_in_handlers.specs.declared.built_in.BuiltIn.{BuiltIn}
use Rattle.built_in_handlers.specs.BuiltIn.{function_of}
use Rattle.journal_model.specs.Event as model
use Rattle.vm_types.specs.declared.options.VMOptions.{VMOptions}
use Rattle.vm_types.specs.Options.{default_options}
use Rattle.journal_store.specs.StoreView.{Stored}
use Rattle.scheduler.specs.declared.scheduler.Scheduler.{Scheduler}
use Rattle.scheduler.specs.SchedulerCalls.{AppliesWith, IsScheduled}
use Rattle.durable_schedule.specs.Schedules.{FitsEvent, Event, Reply, HeldAttempt, Scheduled, Does, Applies}
use Rattle.journal_store.specs.StoreStanding.{Endures, KeepsStanding}
use Rattle.journal_store.proofs.Enduring.{same_endures}
use Rattle.durable_script.specs.Line.{AppliesOne}
use Rattle.durable_script.specs.SchedulerChanges.{KeepsCut, LeavesCut, Reaches, Nowhere}
use Rattle.durable_script.specs.ShowLines.{ShowsOnly}

-- an event was applied, with some reply
abbrev pub Applied : Event BuiltIn → Scheduled BuiltIn → Scheduled BuiltIn → Type 0
Applied one old new = (reply : Reply) × AppliesOne one reply old new

module _ {S : Type 0} (g : Ghosts S) where
  early : (C : Scheduled BuiltIn → Scheduled BuiltIn → Type 0) (old new : Scheduler BuiltIn S) → LeavesCut g C old new → HasCleanDisk (state g new.store.connection) → HasCleanDisk (state g old.store.connection)
  early C old new leaves clean = omega (arith, leaves.clean, clean)

  -- nothing was done to the store
  same_leaves : (C : Scheduled BuiltIn → Scheduled BuiltIn → Type 0) (a : Scheduler BuiltIn S) → LeavesCut g C a a
  same_leaves C a =
      survives_weaker (state g a.store.connection) (state g a.store.connection) (KeepsStanding g (λ s t. ⊥) a.store) (KeepsCut g C a)
      (λ clean db it before at. absurd ((it before.standing at.scheduled.standing).1)) (same_endures g (λ s t. ⊥) a.store)

  -- nothing was done
  pub reaches_none : (C P : Scheduled BuiltIn → Scheduled BuiltIn → Type 0) (a : Scheduler BuiltIn S) → ((s : Scheduled BuiltIn) → P s s) → Reaches g C P a a
  reaches_none C P a same = record { leaves = same_leaves C a; reaches = λ clean before at. (before, at, same before) }

  -- one thing behind another
  pub reaches_then : (C D E P Q R : Scheduled BuiltIn → Scheduled BuiltIn → Type 0) (a b c : Scheduler BuiltIn S) → ((x y : Scheduled BuiltIn) → C x y → E x y) → ((x y z : Scheduled BuiltIn) → P x y → D y z → E x z)
      → ((x y z : Scheduled BuiltIn) → P x y → Q y z → R x z) → Reaches g C P a b → Reaches g D Q b c → Reaches g E R a c
  reaches_then C D E P Q R a b c first behind join one two = record {
    leaves = survives_then (state g a.store.connection) (state g b.store.connection) (state g c.store.connection) (KeepsCut g C a) (KeepsCut g D b) (KeepsCut g E a)
        (λ clean db it before at. let kept = it before at in (kept.0, first before kept.0 kept.1, kept.2))
        (λ clean db it before at.
        let mid = one.reaches (early D b c two.leaves clean) before at in
        let kept = it mid.0 mid.1 in
        (kept.0, behind before mid.0 kept.0 mid.2 kept.1, kept.2))
        one.leaves two.leaves;
    reaches = λ clean before at.
        let mid = one.reaches (early D b c two.leaves clean) before at in
        let end = two.reaches clean mid.0 mid.1 in
        (end.0, end.1, join before mid.0 end.0 mid.2 end.2);
  }

  -- what it comes to is said in another way
  pub reaches_so : (C D P Q : Scheduled BuiltIn → Scheduled BuiltIn → Type 0) (a b : Scheduler BuiltIn S) → ((x y : Scheduled BuiltIn) → C x y → D x y) → ((x y : Scheduled BuiltIn) → P x y → Q x y)
      → Reaches g C P a b → Reaches g D Q a b
  reaches_so C D P Q a b cut so one = record {
    leaves = survives_weaker (state g a.store.connection) (state g b.store.connection) (KeepsCut g C a) (KeepsCut g D a)
        (λ clean db it before at. let kept = it before at in (kept.0, cut before kept.0 kept.1, kept.2)) one.leaves;
    reaches = λ clean before at.
        let it = one.reaches clean before at in
        (it.0, it.1, so before it.0 it.2);
  }

  -- the promise of a call that applies an event
  abbrev pub Promised : Event BuiltIn → Reply → Scheduler BuiltIn S → Scheduler BuiltIn S → Type 0
  Promised one reply old new =
      HasCleanDisk (state g new.store.connection) → (s : Scheduled BuiltIn) → IsScheduled g s old → (t : Scheduled BuiltIn) × IsScheduled g t new × Applies function_of old.options one reply s t

  reaches_promised : (C : Scheduled BuiltIn → Scheduled BuiltIn → Type 0) (one : Event BuiltIn) (reply : Reply) (old new : Scheduler BuiltIn S) → LeavesCut g C old new → Promised one reply old new
      → FitsEvent one → new.options ≡ old.options → Reaches g C (AppliesOne one reply) old new
  reaches_promised C one reply old new leaves does fits options = record {
    leaves = leaves;
    reaches = λ clean before at.
        let it = does clean before at.scheduled in (
          it.0,
          record { options = options ∙ at.options; scheduled = it.1 },
          record {
            applied = subst (λ (o : VMOptions). Applies function_of o one reply before it.0) at.options it.2;
            fits = fits;
          },
        );
  }

  pub reaches_applied : (one : Event BuiltIn) (reply : Reply) (old new : Scheduler BuiltIn S) → Endures g (AppliesWith function_of old.options one old.held) old.store new.store → Promised one reply old new
      → FitsEvent one → new.options ≡ old.options → Reaches g (Applied one) (AppliesOne one reply) old new
  reaches_applied one reply old new endures does fits options =
      reaches_promised (Applied one) one reply old new
      (survives_weaker (state g old.store.connection) (state g new.store.connection) (KeepsStanding g (AppliesWith function_of old.options one old.held) old.store) (KeepsCut g (Applied one) old)
      (λ clean db it before at.
      let kept = it before.standing at.scheduled.standing in
      let by_options = subst (λ (o : VMOptions). Does function_of o one before.standing old.held kept.1.0 kept.0 kept.1.1) at.options kept.1.2 in (
        record { standing = kept.0; held = kept.1.1 },
        (
          kept.1.0,
          record {
            applied = subst (λ (held : List (HeldAttempt BuiltIn)). Does function_of default_options one before.standing held kept.1.0 kept.0 kept.1.1) (sym at.scheduled.held) by_options;
            fits = fits;
          },
        ),
        kept.2,
      )) endures)
      does fits options

  -- of a turn, which leaves the store alone
  pub reaches_turned : (one : Event BuiltIn) (reply : Reply) (old new : Scheduler BuiltIn S) → new.store ≡ old.store → Promised one reply old new
      → FitsEvent one → new.options ≡ old.options → Reaches g Nowhere (AppliesOne one reply) old new
  reaches_turned one reply old new same does fits options =
      reaches_promised Nowhere one reply old new
      (subst (λ (store : Stored S). Survives (state g old.store.connection) (state g store.connection) (KeepsCut g Nowhere old)) (sym same) (same_leaves Nowhere old)) does fits options

  -- a call that tells of the accepted events
  pub reaches_told : (Told : List model.Event → Type 0) (old new : Scheduler BuiltIn S) → Survives (state g old.store.connection) (state g new.store.connection) (λ _. ⊥)
      → (HasCleanDisk (state g new.store.connection) → (s : Scheduled BuiltIn) → IsScheduled g s old → Told s.standing.events × IsScheduled g s new)
      → new ≡ record old { store = new.store } → Reaches g Nowhere (ShowsOnly Told) old new
  reaches_told Told old new survives tells kept = record {
    leaves = survives_weaker (state g old.store.connection) (state g new.store.connection) (λ _. ⊥) (KeepsCut g Nowhere old) (λ clean db none. absurd none) survives;
    reaches = λ clean before at.
        let it = tells clean before at.scheduled in
        (before, record { options = ap (λ (s : Scheduler BuiltIn S). s.options) kept ∙ at.options; scheduled = it.1 }, (it.0, refl));
  }

  -- two questions, one behind the other
  pub reaches_both : (P Q R : List model.Event → Type 0) (a b c : Scheduler BuiltIn S) → ((events : List model.Event) → P events → Q events → R events)
      → Reaches g Nowhere (ShowsOnly P) a b → Reaches g Nowhere (ShowsOnly Q) b c → Reaches g Nowhere (ShowsOnly R) a c
  reaches_both P Q R a b c both one two =
      reaches_then Nowhere Nowhere Nowhere (ShowsOnly P) (ShowsOnly Q) (ShowsOnly R) a b c (λ x y none. none) (λ x y z p none. none) (joined P Q R both) one two
    where
      joined : (P Q R : List model.Event → Type 0) → ((events : List model.Event) → P events → Q events → R events) → (x y z : Scheduled BuiltIn) → ShowsOnly P x y → ShowsOnly Q y z → ShowsOnly R x z
      joined P Q R both x y z p q = (both x.standing.events p.0 (subst (λ (s : Scheduled BuiltIn). Q s.standing.events) p.1 q.0), q.1 ∙ p.1)
