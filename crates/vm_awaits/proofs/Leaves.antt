-- Where the leaves of each id are found.
use Rattle.std.proofs.Common.{◌≡◌, refl, sym, ap, ◌∙◌, ℕ, ◌+◌, ◌<◌, Bool, true, false, if◌then◌else◌, List, [], ◌∷◌, ◌++◌, length, take, Option, Some, None, get_or, eq-eqb}
use Rattle.std.proofs.lemmas.List.{append-nil}
use Rattle.std.proofs.lemmas.Slice.Eq.{bytes_eq-Decides}
use Rattle.journal_model.specs.declared.notification.NotificationId.{NotificationId}
use Rattle.journal_model.specs.declared.notification.NotificationId.TheVariants.{CompletionId, SignalId, SignalName}
use Rattle.journal_model.specs.Notification.{same_id}
use Rattle.journal_model.proofs.Ids.{same_id-same}
use Rattle.attempt_model.specs.Results.{Slots, slot_of}
use Rattle.vm_flat_trees.specs.declared.node.Kind.{Kind}
use Rattle.vm_flat_trees.specs.declared.node.Kind.TheVariants as kinds
use Rattle.vm_flat_trees.specs.declared.node.FlatNode.{FlatNode}
use Rattle.vm_flat_trees.specs.NotificationRecipients.{is_for, waits_for}
use Rattle.vm_flat_trees.specs.Places.{places_before, places_where}
use Rattle.vm_flat_trees.proofs.Finding.{where-next}
use Rattle.vm_awaits.specs.Ids.{Places, with_slot, with_node}

same_id-refl : (id : NotificationId) → same_id id id ≡ true
same_id-refl (CompletionId n) = eq-eqb n n refl
same_id-refl (SignalId n) = eq-eqb n n refl
same_id-refl (SignalName name) = (bytes_eq-Decides name name).1 refl

same_id-sym : (a b : NotificationId) → same_id a b ≡ same_id b a
same_id-sym a b = by_cases (same_id a b) (same_id b a) refl refl
  where
    wrong : (i j : NotificationId) → same_id i j ≡ true → same_id j i ≡ false → ⊥
    wrong i j e f = let is = same_id-same i j e in let same : same_id j i ≡ true = ap (λ (k : NotificationId). same_id j k) is ∙ same_id-refl j in cc

    by_cases : (s t : Bool) → same_id a b ≡ s → same_id b a ≡ t → s ≡ t
    by_cases true true e f = refl
    by_cases true false e f = absurd (wrong a b e f)
    by_cases false true e f = absurd (wrong b a f e)
    by_cases false false e f = refl

if_more : (b : Bool) (places : List ℕ) (place : ℕ) → (if b then places ++ place ∷ [] else places) ≡ places ++ (if b then place ∷ [] else [])
if_more true places place = refl
if_more false places place = sym (append-nil places)

-- a node more, as the leaves that wait for an id are listed
pub with-node : (slots : Slots) (kind : Kind) (place : ℕ) (places : Places) (id : NotificationId) → with_node slots kind place places id ≡ places id ++ places_before (waits_for slots id) place kind []
with-node slots (kinds.Leaf handle) place places id = by_slot (slot_of slots handle)
  where
    by_slot : (slot : Option NotificationId) → with_slot slot place places id ≡ places id ++ (if is_for id slot then place ∷ [] else [])
    by_slot None = sym (append-nil (places id))
    by_slot (Some own) = ap (λ (b : Bool). if b then places id ++ place ∷ [] else places id) (same_id-sym own id) ∙ if_more (same_id id own) (places id) place
with-node slots kinds.Unknown place places id = sym (append-nil (places id))
with-node slots kinds.FirstCompleted place places id = sym (append-nil (places id))
with-node slots kinds.AllCompleted place places id = sym (append-nil (places id))
with-node slots kinds.FirstSucceededOrAllFailed place places id = sym (append-nil (places id))
with-node slots kinds.AllSucceededOrFirstFailed place places id = sym (append-nil (places id))
with-node slots (kinds.AtLeast required) place places id = sym (append-nil (places id))

pub node-next : (slots : Slots) (id : NotificationId) (nodes : List FlatNode) (i : ℕ) (node other : FlatNode) (old : Places) (new : List ℕ) → i < length nodes → node ≡ get_or nodes i other
    → old id ≡ places_where (waits_for slots id) 0 (take i nodes) → new ≡ with_node slots node.kind i old id → new ≡ places_where (waits_for slots id) 0 (take (i + 1) nodes)
node-next slots id nodes i node other old new below is so now =
    now ∙ with-node slots node.kind i old id ∙ ap (λ (xs : List ℕ). xs ++ places_before (waits_for slots id) i node.kind []) so
    ∙ sym (where-next (waits_for slots id) nodes i node other below is)
