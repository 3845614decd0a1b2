-- Invocations that are gone on with one after another.
use Rattle.std.proofs.Common.{◌≡◌, refl, sym, ap, subst, ◌∙◌, append-nil, map-id, length, ℕ, List, [], ◌∷◌, ◌++◌, Option, Some, None, Result, Ok, Err, IfOk, IfErr, inr}
use Rattle.std.proofs.lemmas.Iterator.Consumers.{YieldsList-end}
use Rattle.std.proofs.lemmas.Iterator.Adapters.{YieldsList-from_vec}
use Rattle.std.specs.Iterator.{Yields}
use Rattle.std.specs.Vec.Iter.{into_iter_items, into_iter_len, into_iter_steps}
use Rattle.sqlite_trees.specs.declared.store.Store.{Ghosts}
use Rattle.journal_model.specs.Notification.{Text}
use Rattle.journal_model.specs.Run.{Handler}
use Rattle.store_refusals.specs.declared.refusal.Refusal.TheVariants.{OutOfMemory}
use Rattle.schedule_model.specs.Executing.{Execution}
use Rattle.schedule_model.specs.declared.event.EventRefusal.{EventRefusal}
use Rattle.schedule_model.specs.declared.event.EventRefusal.TheVariants as refusal
use Rattle.scheduler.specs.declared.outcome.Outcome.{Outcome}
use Rattle.scheduler.specs.declared.scheduler.Scheduler.{Scheduler}
use Rattle.scheduler.specs.DueAttempts.{and_told, Driven, GoesOnEach, GoesOnUnlessPutOff, LooksUpDue, RunsDue, RunsNone, TellsMoment}

-- a vector's items, once all are yielded
pub all_yielded : {A Z : Type 0} (first : _) (items : List A) → into_iter_items first ≡ items → into_iter_len first ≡ length items → (yielded : List A) (last : _)
    → Yields (into_iter_steps {X = A} {Z = Z}) first yielded last → (end : Option A) (behind : _) → end ≡ None → into_iter_steps {X = A} {Z = Z} last end behind → yielded ≡ items
all_yielded {A} {Z} first items is len yielded last yields end behind none step =
    sym (map-id yielded) ∙ (YieldsList-end (YieldsList-from_vec {A = A} {Z = Z} {s = first} items is len) yielded last yields end behind none step).0

module _ {H S W : Type 0} (g : Ghosts S) (Executes : Execution W) (Gives : Text → W → H → W → Type 0) (function : H → Handler) (now : ℕ) where
  -- one more behind others
  each_on : (ids : List Text) (outcomes : List (Text × Outcome)) (id : Text) (told : Option Outcome) (a b c : Driven H S W) → GoesOnEach g Executes Gives function now ids outcomes a b
      → GoesOnUnlessPutOff g Executes Gives function now id told b c → GoesOnEach g Executes Gives function now (ids ++ id ∷ []) (outcomes ++ and_told id told []) a c
  each_on [] outcomes id told a b c (none, same) last = (
    c,
    told,
    [],
    ap (λ (some : List (Text × Outcome)). some ++ and_told id told []) none,
    subst (λ (s : Driven H S W). GoesOnUnlessPutOff g Executes Gives function now id told s c) same last,
    (refl, refl),
  )
  each_on (first ∷ ids) outcomes id told a b c (m, one, others, are, does, more) last =
      (m, one, others ++ and_told id told [], ap (λ (some : List (Text × Outcome)). some ++ and_told id told []) are ∙ in_front one, does, each_on ids others id told m b c more last)
    where
      in_front : (one : Option Outcome) → and_told first one others ++ and_told id told [] ≡ and_told first one (others ++ and_told id told [])
      in_front None = refl
      in_front (Some it) = refl

  -- and its outcome is put behind theirs
  pub one_put : (ids : List Text) (outcomes all : List (Text × Outcome)) (id : Text) (told : Outcome) (a b c : Driven H S W) → all ≡ outcomes ++ (id, told) ∷ []
      → GoesOnEach g Executes Gives function now ids outcomes a b → GoesOnUnlessPutOff g Executes Gives function now id (Some told) b c
      → GoesOnEach g Executes Gives function now (ids ++ id ∷ []) all a c
  one_put ids outcomes all id told a b c are before last =
      subst (λ (some : List (Text × Outcome)). GoesOnEach g Executes Gives function now (ids ++ id ∷ []) some a c) (sym are) (each_on ids outcomes id (Some told) a b c before last)

  -- or none is
  pub none_more : (ids : List Text) (outcomes : List (Text × Outcome)) (id : Text) (a b c : Driven H S W) → GoesOnEach g Executes Gives function now ids outcomes a b
      → GoesOnUnlessPutOff g Executes Gives function now id None b c → GoesOnEach g Executes Gives function now (ids ++ id ∷ []) outcomes a c
  none_more ids outcomes id a b c before last =
      subst (λ (some : List (Text × Outcome)). GoesOnEach g Executes Gives function now (ids ++ id ∷ []) some a c) (append-nil outcomes) (each_on ids outcomes id None a b c before last)

module _ {H S : Type 0} (g : Ghosts S) (function : H → Handler) (now : ℕ) (a b c : Scheduler H S) (tick : TellsMoment g function now None a b) (ids : List Text) (due : LooksUpDue g (Ok ids) b c) where
  -- all that are due are gone on with
  pub runs_due : {V W : Type 0} (items : V → List (Text × Outcome)) (Executes : Execution W) (Gives : Text → W → H → W → Type 0) (old new : Driven H S W) (result : Result V EventRefusal) → old.scheduler ≡ a
      → IfOk result (λ outcomes. GoesOnEach g Executes Gives function now ids (items outcomes) (record old { scheduler = c }) new)
      → IfOk result (λ outcomes. RunsDue g Executes Gives function now (items outcomes) old new)
  runs_due items Executes Gives old new (Ok outcomes) from each =
      record { told = b; looked = c; ids = ids; tick = subst (λ (s : Scheduler H S). TellsMoment g function now None s b) (sym from) tick; due = due; each = each }
  runs_due items Executes Gives old new (Err why) from each = tt

  -- or there is no memory for their outcomes
  pub runs_none : {V : Type 0} (d : Scheduler H S) (result : Result V EventRefusal) → IfErr result (λ why. (why ≡ refusal.Store OutOfMemory) × (d ≡ c)) → IfErr result (λ why. RunsNone g function now why a d)
  runs_none d (Ok outcomes) none = tt
  runs_none d (Err why) (is, same) = inr (b, tick, inr (ids, is, subst (λ (s : Scheduler H S). LooksUpDue g (Ok ids) b s) (sym same) due))
