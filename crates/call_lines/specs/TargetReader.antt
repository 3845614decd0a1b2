-- What the words spell by which other invocations are named.
use Rattle.std.specs.Prelude.{ℕ, List, [], ◌∷◌, Option, Some, None, codes, if◌then◌else◌, bytes_eq}
use Rattle.journal_model.specs.declared.call.AttachInvocationTarget.{AttachInvocationTarget}
use Rattle.journal_model.specs.declared.call.AttachInvocationTarget.TheVariants.{InvocationId, WorkflowId, IdempotencyId}
use Rattle.journal_model.specs.declared.call.Target.{Target}
use Rattle.script_lines.specs.LineReader.{◌>>=◌}
use Rattle.server_lines.specs.RequestReader.{headers_of}
use Rattle.server_lines.specs.WordReader.{text_of}
use Rattle.call_lines.specs.WordReader.{optional_of, pair_read}

-- two texts that may be none
unfoldable pub optionals_of : List ℕ → List ℕ → Option (Option (List ℕ) × Option (List ℕ))
optionals_of first second = do
  first ← optional_of first
  second ← optional_of second
  Some (first, second)

unfoldable pub target_of : List ℕ → List ℕ → List ℕ → List ℕ → List ℕ → List ℕ → List (List ℕ) → Option Target
target_of service handler key idempotency_key scope limit_key headers = do
  called ← pair_read service handler
  keys ← optionals_of key idempotency_key
  limits ← optionals_of scope limit_key
  headers ← headers_of headers
  Some (record { service = called.0; handler = called.1; key = keys.0; idempotency_key = keys.1; scope = limits.0; limit_key = limits.1; headers = headers })

unfoldable pub id_of : List (List ℕ) → Option AttachInvocationTarget
id_of (id ∷ []) = do
  id ← text_of id
  Some (InvocationId id)
id_of words = None

unfoldable pub workflow_of : List (List ℕ) → Option AttachInvocationTarget
workflow_of (name ∷ key ∷ scope ∷ []) = do
  named ← pair_read name key
  scope ← optional_of scope
  Some (WorkflowId named.0 named.1 scope)
workflow_of words = None

unfoldable pub idempotent_of : List (List ℕ) → Option AttachInvocationTarget
idempotent_of (service ∷ handler ∷ idempotency_key ∷ key ∷ scope ∷ []) = do
  called ← pair_read service handler
  idempotency_key ← text_of idempotency_key
  given ← optionals_of key scope
  Some (IdempotencyId called.0 called.1 idempotency_key given.0 given.1)
idempotent_of words = None

unfoldable pub attached_by : List ℕ → List (List ℕ) → Option AttachInvocationTarget
attached_by kind words =
    if bytes_eq kind (codes "id") then id_of words else
    (if bytes_eq kind (codes "workflow") then workflow_of words else
    (if bytes_eq kind (codes "idempotent") then idempotent_of words else None))

unfoldable pub attached_of : List (List ℕ) → Option AttachInvocationTarget
attached_of [] = None
attached_of (kind ∷ words) = attached_by kind words
