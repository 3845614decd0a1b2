-- An arrival that is read of its row is heard.
use Rattle.std.proofs.Common.{◌≡◌, ◌<◌, ◌^◌, ℕ, List, [], ◌∷◌, length, Option, Some, None, refl, sym, ap, subst, ◌∙◌}
use Rattle.journal_model.specs.Notification.{Bytes, Arrival}
use Rattle.journal_model.specs.declared.notification.NotificationId.{NotificationId}
use Rattle.journal_model.specs.declared.notification.NotificationId.TheVariants.{CompletionId, SignalId, SignalName}
use Rattle.journal_model.specs.Spelling.{notification_payload}
use Rattle.protocol_wire.specs.Wire.{Field, Wire, varint, bytes, fixed}
use Rattle.protocol_wire.specs.Fields.{fields}
use Rattle.protocol_wire.specs.CodeFields.{wire}
use Rattle.protocol_wire.specs.declared.field.Scanned.{Scanned}
use Rattle.protocol_wire.specs.declared.field.Scanned.TheVariants as scanned
use Rattle.protocol_wire.specs.declared.field.ScannedField.{ScannedField}
use Rattle.protocol_trees.specs.declared.tree.AwaitState.{AwaitState}
use Rattle.store_frames.specs.First.{IsPut, await_state_of}
use Rattle.store_frames.specs.KeptArrivals.{AreBoth, Names, SignalFits, completion_in, state_by}
use Rattle.store_frames.proofs.KeptPayloads.{IdFits, brought_field, named_field, payload_fields, state_brought}

-- ---- its id

completion_id : (id : NotificationId) (n : ℕ) → completion_in id ≡ Some n → id ≡ CompletionId n
completion_id (CompletionId m) n e = let same : m ≡ n = cc in ap CompletionId same
completion_id (SignalId m) n e = cc
completion_id (SignalName name) n e = cc

completion_fits : (id : NotificationId) (n : ℕ) → completion_in id ≡ Some n → n < 2 ^ 32 → IdFits id
completion_fits id n e small = subst IdFits (sym (completion_id id n e)) small

signal_fits : (id : NotificationId) → completion_in id ≡ None → SignalFits id → IdFits id
signal_fits (CompletionId m) e h = cc
signal_fits (SignalId m) e h = h
signal_fits (SignalName name) e h = h

named_signal : (one : Scanned) (id : NotificationId) → completion_in id ≡ None → wire one ≡ (named_field id).value → Names one id
named_signal (scanned.Varint m) (SignalId n) none e = cc
named_signal (scanned.Bytes b) (SignalName name) none e = cc
named_signal (scanned.Varint m) (SignalName name) none e = cc
named_signal (scanned.Bytes b) (SignalId n) none e = cc
named_signal scanned.Fixed (SignalId n) none e = cc
named_signal scanned.Fixed (SignalName name) none e = cc
named_signal one (CompletionId n) none e = cc

-- ---- both fields

module _ (arrival : Arrival) (payload : Bytes) (is : payload ≡ notification_payload arrival) (short : length payload < 2 ^ 64) (coming : List Field) (all : coming ≡ fields payload) where
  abbrev Finds : (Field → Field → Type 0) → Type 0
  Finds Found = (one two : Field) → coming ≡ one ∷ two ∷ [] → Found one two

  found : (Found : Field → Field → Type 0) → IdFits arrival.id → Finds Found → Found (named_field arrival.id) (brought_field arrival.result)
  found Found fits finds = finds (named_field arrival.id) (brought_field arrival.result) (all ∙ payload_fields arrival payload is fits short)

  brought_state : (named brought : ScannedField) (state : AwaitState) → IdFits arrival.id → Finds (λ one two. AreBoth one two (named, brought)) → state ≡ state_by brought.number → state ≡ await_state_of arrival.result
  brought_state named brought state fits finds e =
      let both = found (λ one two. AreBoth one two (named, brought)) fits finds in
      e ∙ ap state_by (ap (λ (f : Field). f.number) both.1) ∙ state_brought arrival.result

  pub completion_heard : (number : ℕ) → completion_in arrival.id ≡ Some number → number < 2 ^ 32 → (named brought : ScannedField) (state : AwaitState)
      → Finds (λ one two. AreBoth one two (named, brought)) → state ≡ state_by brought.number
      → (before after : NotificationId → Option AwaitState) → IsPut before (CompletionId number) state after → IsPut before arrival.id (await_state_of arrival.result) after
  completion_heard number of_it small named brought state finds e before after put =
      subst (λ (id : NotificationId). IsPut before id (await_state_of arrival.result) after) (sym (completion_id arrival.id number of_it))
      (subst (λ (s : AwaitState). IsPut before (CompletionId number) s after) (brought_state named brought state (completion_fits arrival.id number of_it small) finds e) put)

  pub completion_found : (number : ℕ) → completion_in arrival.id ≡ Some number → number < 2 ^ 32 → Finds (λ one two. ⊥) → ⊥
  completion_found number of_it small finds = found (λ one two. ⊥) (completion_fits arrival.id number of_it small) finds

  pub signal_named : completion_in arrival.id ≡ None → SignalFits arrival.id → (named brought : ScannedField) → Finds (λ one two. AreBoth one two (named, brought)) → Names named.value arrival.id
  signal_named none h named brought finds =
      let both = found (λ one two. AreBoth one two (named, brought)) (signal_fits arrival.id none h) finds in
      named_signal named.value arrival.id none (ap (λ (f : Field). f.value) both.0)

  pub signal_state : completion_in arrival.id ≡ None → SignalFits arrival.id → (named brought : ScannedField) (state : AwaitState) → Finds (λ one two. AreBoth one two (named, brought))
      → state ≡ state_by brought.number → state ≡ await_state_of arrival.result
  signal_state none h named brought state finds e = brought_state named brought state (signal_fits arrival.id none h) finds e

  pub signal_found : completion_in arrival.id ≡ None → SignalFits arrival.id → Finds (λ one two. ⊥) → ⊥
  signal_found none h finds = found (λ one two. ⊥) (signal_fits arrival.id none h) finds
