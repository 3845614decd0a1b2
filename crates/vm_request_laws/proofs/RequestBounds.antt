-- Trees that fit have records that fit.
use Rattle.std.proofs.Common.{arith, ◌<◌, ◌^◌, ℕ, zero, suc, List, [], ◌∷◌, ◌++◌, sym, subst}
use Rattle.std.specs.Prelude.{IsUtf8}
use Rattle.std.specs.List.{AllByRecursion}
use Rattle.journal_model.specs.declared.notification.NotificationId.{NotificationId}
use Rattle.journal_model.specs.declared.notification.NotificationId.TheVariants.{CompletionId, SignalId, SignalName}
use Rattle.journal_model.specs.AwaitTree.{AwaitTree, Single, Combined, AwaitTrees, no_trees, and_trees, Combinator, Unknown, FirstCompleted, AllCompleted, FirstSucceededOrAllFailed, AllSucceededOrFirstFailed, AtLeast}
use Rattle.journal_model.specs.Spelling.{completions_in, signals_in, names_in}
use Rattle.protocol_records.specs.declared.future.Future.{Future, roll-Future}
use Rattle.protocol_records.specs.declared.future.Future.TheOpen.{Future-F}
use Rattle.protocol_records.specs.declared.future.Future.TheViews.{out-roll-Future}
use Rattle.protocol_records.specs.Future.{CombinatorFits, LayerFits, FutureFits}
use Rattle.protocol_stream.specs.Records.{combinator_record, future_record, nested_records}
use Rattle.vm_request_laws.specs.Trees.{LeavesFit, AllLeavesFit, IsWithin, AreWithin}

pub all_append : {A : Type 0} (P : A → Type 0) (xs ys : List A) → AllByRecursion P xs → AllByRecursion P ys → AllByRecursion P (xs ++ ys)
all_append P [] ys p q = q
all_append P (x ∷ xs) ys p q = (p.0, all_append P xs ys p.1 q)

abbrev pub IsSmall : ℕ → Type 0
IsSmall n = n < 2 ^ 32

-- ---- a node's own leaves

pub completions_fit : (trees : AwaitTrees NotificationId) → AllLeavesFit trees → AllByRecursion IsSmall (completions_in trees)
completions_fit no_trees h = tt
completions_fit (and_trees (Single (CompletionId n)) trees) h = (h.0, completions_fit trees h.1)
completions_fit (and_trees (Single (SignalId n)) trees) h = completions_fit trees h.1
completions_fit (and_trees (Single (SignalName name)) trees) h = completions_fit trees h.1
completions_fit (and_trees (Combined combinator children) trees) h = completions_fit trees h.1

pub signals_fit : (trees : AwaitTrees NotificationId) → AllLeavesFit trees → AllByRecursion IsSmall (signals_in trees)
signals_fit no_trees h = tt
signals_fit (and_trees (Single (CompletionId n)) trees) h = signals_fit trees h.1
signals_fit (and_trees (Single (SignalId n)) trees) h = (h.0, signals_fit trees h.1)
signals_fit (and_trees (Single (SignalName name)) trees) h = signals_fit trees h.1
signals_fit (and_trees (Combined combinator children) trees) h = signals_fit trees h.1

pub names_fit : (trees : AwaitTrees NotificationId) → AllLeavesFit trees → AllByRecursion IsUtf8 (names_in trees)
names_fit no_trees h = tt
names_fit (and_trees (Single (CompletionId n)) trees) h = names_fit trees h.1
names_fit (and_trees (Single (SignalId n)) trees) h = names_fit trees h.1
names_fit (and_trees (Single (SignalName name)) trees) h = (h.0, names_fit trees h.1)
names_fit (and_trees (Combined combinator children) trees) h = names_fit trees h.1

-- ---- trees

combinator_fits : (combinator : Combinator) → CombinatorFits (combinator_record combinator)
combinator_fits Unknown = tt
combinator_fits FirstCompleted = tt
combinator_fits AllCompleted = tt
combinator_fits FirstSucceededOrAllFailed = tt
combinator_fits AllSucceededOrFirstFailed = tt
combinator_fits (AtLeast required) = tt

none_small : IsSmall 0
none_small = omega arith

rolled : (levels : ℕ) (o : Future-F Future) → LayerFits (FutureFits levels) o → FutureFits (suc levels) (roll-Future o)
unfolding FutureFits
rolled levels o h = subst (LayerFits (FutureFits levels)) (sym (out-roll-Future o)) h

mutual
  pub future_fits : (levels : ℕ) (tree : AwaitTree NotificationId) → LeavesFit tree → IsWithin levels tree → FutureFits levels (future_record tree)
  future_fits zero tree h within = absurd within
  future_fits (suc levels) (Single (CompletionId n)) h within = rolled levels _ ((h, tt), tt, tt, tt, tt, none_small)
  future_fits (suc levels) (Single (SignalId n)) h within = rolled levels _ (tt, (h, tt), tt, tt, tt, none_small)
  future_fits (suc levels) (Single (SignalName name)) h within = rolled levels _ (tt, tt, (h, tt), tt, tt, none_small)
  future_fits (suc levels) (Combined combinator children) h within =
      rolled levels _ (completions_fit children h.1, signals_fit children h.1, names_fit children h.1, nested_fit levels children h.1 within, combinator_fits combinator, h.0)

  nested_fit : (levels : ℕ) (trees : AwaitTrees NotificationId) → AllLeavesFit trees → AreWithin levels trees → AllByRecursion (FutureFits levels) (nested_records trees)
  nested_fit levels no_trees h within = tt
  nested_fit levels (and_trees (Single leaf) trees) h within = nested_fit levels trees h.1 within
  nested_fit levels (and_trees (Combined combinator children) trees) h within = (future_fits levels (Combined combinator children) h.0 within.0, nested_fit levels trees h.1 within.1)
