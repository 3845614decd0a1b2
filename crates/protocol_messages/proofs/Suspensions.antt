-- A suspension that fits is read back, as lists or as a tree.
use Rattle.std.proofs.Common.{ℕ, ℤ, zero, suc, ◌<◌, ◌^◌, ◌++◌, Bool, true, false, List, [], ◌∷◌, length, map, Option, Some, None, IsUtf8, refl, sym, subst, arith}
use Rattle.std.specs.Prelude.{IfSome}
use Rattle.std.specs.List.{AllByRecursion, flat_map}
use Rattle.protocol_wire.specs.Parts.{payload_of}
use Rattle.protocol_wire.specs.declared.record.TheConstants.{LEVELS}
use Rattle.protocol_records.specs.declared.future.Future.{Future}
use Rattle.protocol_records.specs.declared.suspension.SuspensionMessage.{SuspensionMessage}
use Rattle.protocol_records.specs.Future.{FutureFits}
use Rattle.protocol_records.specs.Suspension.{SuspensionFits}
use Rattle.protocol_records.specs.SuspensionV6.{SuspensionV6Fits}
use Rattle.protocol_records.specs.ReadBack.{suspension_reads, suspension_v6_reads}
use Rattle.protocol_types.specs.declared.message_type.MessageType.TheVariants as messages
use Rattle.protocol_types.specs.declared.version.Version.{Version}
use Rattle.protocol_stream.proofs.Fronts.{item_at-spelled}
use Rattle.protocol_types.proofs.Types.{named_is_wire}
use Rattle.protocol_messages.specs.Leaves.{completions_of, signals_of, named_signals_of, lists_of, three_lists}
use Rattle.protocol_messages.specs.Encodings.{suspends_by_lists, record_message, suspension_parts_as, suspension_message}
use Rattle.protocol_messages.specs.Laws.{ReadsSuspension, SuspensionsReadBack}
use Rattle.protocol_messages.proofs.Frames.{is_frame}
use Rattle.protocol_messages.proofs.Preorder.{completions_is, signals_is, named_signals_is}

all_append : {Leaf : Type 0} (P : Leaf → Type 0) (xs ys : List Leaf) → AllByRecursion P xs → AllByRecursion P ys → AllByRecursion P (xs ++ ys)
all_append P [] ys h k = k
all_append P (x ∷ xs) ys h k = (h.0, all_append P xs ys h.1 k)

-- what holds of each node's leaves holds of all of theirs
nested_fit : {Leaf : Type 0} (P : Leaf → Type 0) (leaves : Future → List Leaf) (Fits : Future → Type 0) → ((f : Future) → Fits f → AllByRecursion P (leaves f)) → (fs : List Future) → AllByRecursion Fits fs → AllByRecursion P (flat_map (λ found. found) (map leaves fs))
nested_fit P leaves Fits each [] h = tt
nested_fit P leaves Fits each (f ∷ fs) h = all_append P (leaves f) (flat_map (λ found. found) (map leaves fs)) (each f h.0) (nested_fit P leaves Fits each fs h.1)

abbrev Small : ℕ → Type 0
Small n = n < 2 ^ 32

completions_fit : (levels : ℕ) (f : Future) → FutureFits levels f → AllByRecursion Small (completions_of f)
unfolding FutureFits
completions_fit zero f h = absurd h
completions_fit (suc k) f h =
    subst (λ (xs : List ℕ). AllByRecursion Small xs) (sym (completions_is f)) (all_append Small _ _ h.0 (nested_fit Small completions_of (FutureFits k) (completions_fit k) _ h.3))

signals_fit : (levels : ℕ) (f : Future) → FutureFits levels f → AllByRecursion Small (signals_of f)
unfolding FutureFits
signals_fit zero f h = absurd h
signals_fit (suc k) f h =
    subst (λ (xs : List ℕ). AllByRecursion Small xs) (sym (signals_is f)) (all_append Small _ _ h.1 (nested_fit Small signals_of (FutureFits k) (signals_fit k) _ h.3))

named_signals_fit : (levels : ℕ) (f : Future) → FutureFits levels f → AllByRecursion IsUtf8 (named_signals_of f)
unfolding FutureFits
named_signals_fit zero f h = absurd h
named_signals_fit (suc k) f h =
    subst (λ (xs : List (List ℕ)). AllByRecursion IsUtf8 xs) (sym (named_signals_is f)) (all_append IsUtf8 _ _ h.2 (nested_fit IsUtf8 named_signals_of (FutureFits k) (named_signals_fit k) _ h.3))

lists_fit : (levels below : ℕ) (o : Option Future) → 0 < levels → IfSome o (FutureFits below) → SuspensionV6Fits levels (lists_of o)
lists_fit levels below None lt h = record { level = lt; waiting_completions = tt; waiting_signals = tt; waiting_named_signals = tt }
lists_fit levels below (Some f) lt h = record {
  level = lt;
  waiting_completions = completions_fit below f h;
  waiting_signals = signals_fit below f h;
  waiting_named_signals = named_signals_fit below f h;
}

read_as : (b : Bool) (one : SuspensionMessage) (version : Version) (index : ℤ) → SuspensionFits LEVELS one → length (payload_of (suspension_parts_as b one)) < 2 ^ 32
    → ReadsSuspension b index (record_message messages.Suspension version (suspension_parts_as b one)) one
read_as true one version index h small = (refl, suspension_v6_reads LEVELS (three_lists one) (lists_fit LEVELS _ one.awaiting_on h.level h.awaiting_on) (omega (arith, small)))
read_as false one version index h small = (refl, suspension_reads LEVELS one h (omega (arith, small)))

pub suspensions_read_back : SuspensionsReadBack
suspensions_read_back one version index rest h small =
    let frame = is_frame messages.Suspension version (payload_of (suspension_parts_as (suspends_by_lists version) one)) (named_is_wire messages.Suspension refl) small in
    (frame, item_at-spelled (suspension_message version one) rest frame, read_as (suspends_by_lists version) one version index h small)
