-- What each read asks for, in replay and behind the journal.
use Rattle.std.proofs.Common.{◌≡◌, ◌∷◌, ℕ, Bool, true, false, if◌then◌else◌, [], Option, Some, None, refl, sym, ap, ◌∙◌}
use Rattle.journal_model.specs.declared.call.Call.{Call}
use Rattle.journal_model.specs.declared.call.PayloadOptions.{PayloadOptions}
use Rattle.journal_model.specs.Notification.{Bytes, Text}
use Rattle.journal_model.specs.Request.{Request}
use Rattle.journal_model.specs.State.{knows_key, known_value, knows_all_keys, known_keys}
use Rattle.journal_model.specs.Run.{Invocation, name_or_empty}
use Rattle.attempt_model.specs.Requests.{Commands, read_value, read_keys, fresh_value, fresh_keys, requests_by}
use Rattle.attempt_model.specs.Machine.{Machine}
use Rattle.vm_context.specs.StateKnowledge.{changes_state}
use Rattle.vm_commands.specs.RecordedCommands.{as_recorded}
use Rattle.vm_commands.proofs.Recording.{reads_as_recorded}
use Rattle.vm_calls.specs.Active.{has_left}
use Rattle.vm_calls.proofs.Calls.{brings_none}
use Rattle.vm_state_reads.specs.ReadAnswers.{ReadsOne}

none_left : (left : Commands) → has_left left ≡ false → left ≡ []
none_left [] h = refl
none_left (command ∷ left) h = cc

-- ---- no read changes anything

value_keeps : (left : Commands) (key : Bytes) (n : ℕ) (name : Text) → changes_state (as_recorded left (Request.GetLazyState key n name)) ≡ false
value_keeps [] key n name = refl
value_keeps (None ∷ left) key n name = refl
value_keeps (Some (Request.GetEagerState recorded value other) ∷ left) key n name = refl
value_keeps (Some (Request.GetEagerStateKeys keys other) ∷ left) key n name = refl
value_keeps (Some _ ∷ left) key n name = refl

keys_keep : (left : Commands) (n : ℕ) (name : Text) → changes_state (as_recorded left (Request.GetLazyStateKeys n name)) ≡ false
keys_keep [] n name = refl
keys_keep (None ∷ left) n name = refl
keys_keep (Some (Request.GetEagerState recorded value other) ∷ left) n name = refl
keys_keep (Some (Request.GetEagerStateKeys keys other) ∷ left) n name = refl
keys_keep (Some _ ∷ left) n name = refl

either_keeps : (known : Bool) (eager lazy : Request) → changes_state eager ≡ false → changes_state lazy ≡ false → changes_state (if known then eager else lazy) ≡ false
either_keeps true eager lazy e l = e
either_keeps false eager lazy e l = l

-- ---- of a key

module _ (given : Invocation) (m : Machine) (key : Bytes) (name : Option Text) (options : PayloadOptions) where
  reads_value : (request : Request) → requests_by m.start m.done m.left m.completions (Call.StateGet key name options) ≡ request ∷ [] → changes_state request ≡ false
      → ReadsOne given m (Call.StateGet key name options) request
  reads_value request requests keeps = record { asks = record { refused = refl; work = refl; requests = requests }; children = brings_none (Call.StateGet key name options) m.completions refl refl refl refl refl given.options.implicit_cancellation; completions = refl; signals = refl; ids = refl; keeps = keeps; answer = λ id handle signal. refl }

  value_recorded : (left : Commands) → has_left left ≡ true → (fresh : Request) (n : ℕ) (copy : Text) → copy ≡ name_or_empty name
      → read_value left fresh n key (name_or_empty name) ≡ as_recorded left (Request.GetLazyState key n copy)
  value_recorded [] h fresh n copy copied = cc
  value_recorded (found ∷ left) h fresh n copy copied =
      (reads_as_recorded found left fresh n key (name_or_empty name)).0 ∙ ap (λ (c : Text). as_recorded (found ∷ left) (Request.GetLazyState key n c)) (sym copied)

  pub replays_value : (copy : Text) → copy ≡ name_or_empty name → has_left m.left ≡ true
      → ReadsOne given m (Call.StateGet key name options) (as_recorded m.left (Request.GetLazyState key m.completions copy))
  replays_value copy copied some =
      reads_value (as_recorded m.left (Request.GetLazyState key m.completions copy))
      (ap (λ (r : Request). r ∷ []) (value_recorded m.left some (fresh_value m.start m.done m.completions key (name_or_empty name)) m.completions copy copied))
      (value_keeps m.left key m.completions copy)

  pub writes_value : (copy : Text) → copy ≡ name_or_empty name → has_left m.left ≡ false
      → ReadsOne given m (Call.StateGet key name options) (fresh_value m.start m.done m.completions key copy)
  writes_value copy copied none =
      reads_value (fresh_value m.start m.done m.completions key copy)
      (ap (λ (l : Commands). read_value l (fresh_value m.start m.done m.completions key (name_or_empty name)) m.completions key (name_or_empty name) ∷ []) (none_left m.left none)
      ∙ ap (λ (c : Text). fresh_value m.start m.done m.completions key c ∷ []) (sym copied))
      (either_keeps (knows_key m.start m.done key) (Request.GetEagerState key (known_value m.start m.done key) copy) (Request.GetLazyState key m.completions copy) refl refl)

-- ---- of all keys

module _ (given : Invocation) (m : Machine) (name : Option Text) where
  reads_keys : (request : Request) → requests_by m.start m.done m.left m.completions (Call.StateGetKeys name) ≡ request ∷ [] → changes_state request ≡ false
      → ReadsOne given m (Call.StateGetKeys name) request
  reads_keys request requests keeps = record { asks = record { refused = refl; work = refl; requests = requests }; children = brings_none (Call.StateGetKeys name) m.completions refl refl refl refl refl given.options.implicit_cancellation; completions = refl; signals = refl; ids = refl; keeps = keeps; answer = λ id handle signal. refl }

  keys_recorded : (left : Commands) → has_left left ≡ true → (fresh : Request) (n : ℕ) (copy : Text) → copy ≡ name_or_empty name
      → read_keys left fresh n (name_or_empty name) ≡ as_recorded left (Request.GetLazyStateKeys n copy)
  keys_recorded [] h fresh n copy copied = cc
  keys_recorded (found ∷ left) h fresh n copy copied =
      (reads_as_recorded found left fresh n [] (name_or_empty name)).1 ∙ ap (λ (c : Text). as_recorded (found ∷ left) (Request.GetLazyStateKeys n c)) (sym copied)

  pub replays_keys : (copy : Text) → copy ≡ name_or_empty name → has_left m.left ≡ true
      → ReadsOne given m (Call.StateGetKeys name) (as_recorded m.left (Request.GetLazyStateKeys m.completions copy))
  replays_keys copy copied some =
      reads_keys (as_recorded m.left (Request.GetLazyStateKeys m.completions copy))
      (ap (λ (r : Request). r ∷ []) (keys_recorded m.left some (fresh_keys m.start m.done m.completions (name_or_empty name)) m.completions copy copied))
      (keys_keep m.left m.completions copy)

  pub writes_keys : (copy : Text) → copy ≡ name_or_empty name → has_left m.left ≡ false
      → ReadsOne given m (Call.StateGetKeys name) (fresh_keys m.start m.done m.completions copy)
  writes_keys copy copied none =
      reads_keys (fresh_keys m.start m.done m.completions copy)
      (ap (λ (l : Commands). read_keys l (fresh_keys m.start m.done m.completions (name_or_empty name)) m.completions (name_or_empty name) ∷ []) (none_left m.left none)
      ∙ ap (λ (c : Text). fresh_keys m.start m.done m.completions c ∷ []) (sym copied))
      (either_keeps (knows_all_keys m.start m.done) (Request.GetEagerStateKeys (known_keys m.start m.done) copy) (Request.GetLazyStateKeys m.completions copy) refl refl)
