-- The tree of a future that a message can hold is told by its record, which a message can hold too.
use Rattle.std.proofs.Common.{◌≡◌, ◌<◌, ◌^◌, ℕ, zero, suc, List, [], ◌∷◌, ◌++◌, map, refl, sym, ap, subst, ◌∙◌}
use Rattle.std.proofs.lemmas.Bool.{ltb-true}
use Rattle.std.specs.List.{AllByRecursion}
use Rattle.journal_model.specs.declared.notification.NotificationId.TheVariants as ids
use Rattle.journal_model.specs.AwaitTree.{and_trees, Combinator, Unknown, FirstCompleted, AllCompleted, FirstSucceededOrAllFailed, AllSucceededOrFirstFailed, AtLeast}
use Rattle.journal_model.specs.Spelling.{required_by}
use Rattle.protocol_records.specs.declared.future.Future.{Future, out-Future, roll-Future}
use Rattle.protocol_records.specs.declared.future.Future.TheOpen.{Future-F}
use Rattle.protocol_records.specs.declared.future.Future.TheViews.{out-roll-Future}
use Rattle.protocol_records.specs.declared.future.CombinatorType.{CombinatorType}
use Rattle.protocol_records.specs.declared.future.CombinatorType.TheVariants as combinators
use Rattle.protocol_records.specs.Future.{CombinatorFits, FutureFits}
use Rattle.protocol_records.proofs.Futures.{future_fits}
use Rattle.protocol_stream.specs.Records.{combinator_record, future_node, future_record, nested_records}
use Rattle.protocol_trees.specs.Shape.{shape_combinator, forest, node}
use Rattle.protocol_trees.specs.Future.{shape_in, ids_in, future_tree}
use Rattle.protocol_trees.specs.FutureShape.{future_tree_is}
use Rattle.store_frames.proofs.Trees.{Tree, all, skips, skips_last, completions_of_all, signals_of_all, names_of_all}

abbrev pub again : Future → Future
again f = future_record (future_tree f)

-- ---- the record of a future's tree

nested_again : (nested : List Future) → nested_records (forest (map future_tree nested)) ≡ map again nested
nested_again [] = refl
nested_again (f ∷ nested) =
    ap (λ (tree : Tree). nested_records (and_trees tree (forest (map future_tree nested)))) (future_tree_is f)
    ∙ ap (λ (tree : Tree). future_record tree ∷ nested_records (forest (map future_tree nested))) (sym (future_tree_is f))
    ∙ ap (λ (more : List Future). again f ∷ more) (nested_again nested)

nested_of_all : (completions signals : List ℕ) (names : List (List ℕ)) (nested : List Future) → nested_records (all completions signals names nested) ≡ map again nested
nested_of_all completions signals names nested =
    skips nested_records ids.CompletionId (λ x rest. refl) completions (map ids.SignalId signals ++ map ids.SignalName names) (map future_tree nested)
    ∙ skips nested_records ids.SignalId (λ x rest. refl) signals (map ids.SignalName names) (map future_tree nested)
    ∙ skips_last nested_records ids.SignalName (λ x rest. refl) names (map future_tree nested)
    ∙ nested_again nested

level : (combinator : Combinator) (completions signals : List ℕ) (names : List (List ℕ)) (nested : List Future)
    → future_record (node combinator (ids_in completions signals names) (map future_tree nested)) ≡ future_node completions signals names (map again nested) (combinator_record combinator) (required_by combinator)
level combinator completions signals names nested = λ i.
    future_node (completions_of_all completions signals names nested i) (signals_of_all completions signals names nested i) (names_of_all completions signals names nested i) (nested_of_all completions signals names nested i) (combinator_record combinator) (required_by combinator)

-- its combinator is the one that it means
abbrev meant : CombinatorType → ℕ → Combinator
meant c required = shape_combinator (shape_in c required)

again_is : (f : Future)
    → again f ≡ future_node (out-Future f).waiting_completions (out-Future f).waiting_signals (out-Future f).waiting_named_signals (map again (out-Future f).nested_futures) (combinator_record (meant (out-Future f).combinator_type (out-Future f).required)) (required_by (meant (out-Future f).combinator_type (out-Future f).required))
again_is f =
    ap future_record (future_tree_is f)
    ∙ level (meant (out-Future f).combinator_type (out-Future f).required) (out-Future f).waiting_completions (out-Future f).waiting_signals (out-Future f).waiting_named_signals (out-Future f).nested_futures

pub rolled_tree : (o : Future-F Future)
    → future_tree (roll-Future o) ≡ node (meant o.combinator_type o.required) (ids_in o.waiting_completions o.waiting_signals o.waiting_named_signals) (map future_tree o.nested_futures)
rolled_tree o =
    future_tree_is (roll-Future o)
    ∙ ap (λ (p : Future-F Future). node (meant p.combinator_type p.required) (ids_in p.waiting_completions p.waiting_signals p.waiting_named_signals) (map future_tree p.nested_futures)) (out-roll-Future o)

combinator_back : (combinator : Combinator) → meant (combinator_record combinator) (required_by combinator) ≡ combinator
combinator_back Unknown = refl
combinator_back FirstCompleted = refl
combinator_back AllCompleted = refl
combinator_back FirstSucceededOrAllFailed = refl
combinator_back AllSucceededOrFirstFailed = refl
combinator_back (AtLeast required) = refl

combinator_fits : (combinator : Combinator) → CombinatorFits (combinator_record combinator)
combinator_fits Unknown = tt
combinator_fits FirstCompleted = tt
combinator_fits AllCompleted = tt
combinator_fits FirstSucceededOrAllFailed = tt
combinator_fits AllSucceededOrFirstFailed = tt
combinator_fits (AtLeast required) = tt

required_fits : (c : CombinatorType) (required : ℕ) → required < 2 ^ 32 → required_by (meant c required) < 2 ^ 32
required_fits combinators.Unknown required small = ltb-true 0 (2 ^ 32) refl
required_fits combinators.FirstCompleted required small = ltb-true 0 (2 ^ 32) refl
required_fits combinators.AllCompleted required small = ltb-true 0 (2 ^ 32) refl
required_fits combinators.FirstSucceededOrAllFailed required small = ltb-true 0 (2 ^ 32) refl
required_fits combinators.AllSucceededOrFirstFailed required small = ltb-true 0 (2 ^ 32) refl
required_fits combinators.AtLeastSucceeded required small = small
required_fits (combinators.Other number) required small = ltb-true 0 (2 ^ 32) refl

-- ---- it fits, and tells the tree

pub record IsBack (levels : ℕ) (f : Future) : Type 0 where
  pub fits : FutureFits levels (again f)
  pub tree : future_tree (again f) ≡ future_tree f

pub record AreBack (levels : ℕ) (fs : List Future) : Type 0 where
  pub fit : AllByRecursion (FutureFits levels) (map again fs)
  pub trees : map future_tree (map again fs) ≡ map future_tree fs

each_back : (levels : ℕ) → ((f : Future) → FutureFits levels f → IsBack levels f) → (fs : List Future) → AllByRecursion (FutureFits levels) fs → AreBack levels fs
each_back levels one [] h = record { fit = tt; trees = refl }
each_back levels one (f ∷ fs) h =
    let first = one f h.0 in
    let later = each_back levels one fs h.1 in
    record { fit = (first.fits, later.fit); trees = λ i. first.tree i ∷ later.trees i }

node_back : (f : Future) (nested : List Tree) → map future_tree (map again (out-Future f).nested_futures) ≡ nested
    → future_tree (again f) ≡ node (meant (out-Future f).combinator_type (out-Future f).required) (ids_in (out-Future f).waiting_completions (out-Future f).waiting_signals (out-Future f).waiting_named_signals) nested
node_back f nested e =
    let o = out-Future f in
    ap future_tree (again_is f) ∙ rolled_tree _
    ∙ (λ i. node (combinator_back (meant o.combinator_type o.required) i) (ids_in o.waiting_completions o.waiting_signals o.waiting_named_signals) (e i))

pub tree_back : (levels : ℕ) (f : Future) → FutureFits levels f → IsBack levels f
unfolding FutureFits
tree_back zero f h = absurd h
tree_back (suc levels) f h =
    let o = out-Future f in
    let each = each_back levels (λ g. tree_back levels g) o.nested_futures h.3 in
    record {
      fits = subst (FutureFits (suc levels)) (sym (again_is f)) (future_fits levels _ (h.0, h.1, h.2, each.fit, combinator_fits (meant o.combinator_type o.required), required_fits o.combinator_type o.required h.5));
      tree = node_back f (map future_tree o.nested_futures) each.trees ∙ sym (future_tree_is f);
    }
