-- What was known of a recorded read is the result that its request has at once; and which reads are known behind the journal.
use Rattle.std.proofs.Common.{◌≡◌, ℕ, Bool, true, false, not, ◌||◌, [], ◌∷◌, Option, Some, None, is_some, option_map, refl, ap, sym, ◌∙◌}
use Rattle.journal_model.specs.Notification.{Bytes, Text}
use Rattle.journal_model.specs.Request.{Request}
use Rattle.journal_model.specs.Delivery.{known_result}
use Rattle.attempt_model.specs.Requests.{Commands}
use Rattle.protocol_records.specs.declared.state_keys.StateKeys.{StateKeys}
use Rattle.protocol_commands.specs.declared.get_eager_state_command.GetEagerStateCommandResult.{GetEagerStateCommandResult}
use Rattle.protocol_commands.specs.declared.get_eager_state_command.GetEagerStateCommandMessage.{GetEagerStateCommandMessage}
use Rattle.protocol_commands.specs.declared.get_eager_state_keys_command.GetEagerStateKeysCommandMessage.{GetEagerStateKeysCommandMessage}
use Rattle.protocol_commands.specs.declared.get_lazy_state_command.GetLazyStateCommandMessage.{GetLazyStateCommandMessage}
use Rattle.protocol_commands.specs.declared.get_lazy_state_keys_command.GetLazyStateKeysCommandMessage.{GetLazyStateKeysCommandMessage}
use Rattle.protocol_laws.specs.Requests.{state_told, request_of_get_lazy_state, request_of_get_eager_state, request_of_get_lazy_state_keys, request_of_get_eager_state_keys}
use Rattle.vm_context.specs.declared.eager_state.EagerGetState.{EagerGetState}
use Rattle.vm_context.specs.declared.eager_state.EagerGetState.TheVariants as gets
use Rattle.vm_context.specs.Eager.{told_of}
use Rattle.vm_commands.specs.declared.state_read.StateRead.{StateRead}
use Rattle.vm_commands.specs.declared.state_read.StateRead.TheVariants as reads
use Rattle.vm_commands.specs.RecordedCommands.{as_recorded}
use Rattle.vm_state_reads.specs.ReadAnswers.{arrivals_of}
use Rattle.vm_state_reads.specs.RecordedReads.{TellsNext, value_known, keys_known}

-- ---- in replay

pub value_is_known : (left : Commands) (n : ℕ) (key : Bytes) (name : Text) (read : StateRead GetEagerStateCommandResult)
    → TellsNext (λ (one : GetLazyStateCommandMessage). Some (request_of_get_lazy_state one)) request_of_get_eager_state (λ (one : GetEagerStateCommandMessage). one.result) left read
    → known_result n (as_recorded left (Request.GetLazyState key n name) ∷ []) ≡ arrivals_of n (value_known read)
value_is_known left n key name reads.Lazy next = ap (λ (l : Commands). known_result n (as_recorded l (Request.GetLazyState key n name) ∷ [])) next.next.first
value_is_known left n key name (reads.Eager found) next =
    let one : GetEagerStateCommandMessage = next.recorded in
    ap (λ (l : Commands). known_result n (as_recorded l (Request.GetLazyState key n name) ∷ []))
    (next.next.first ∙ ap (λ (o : Option GetEagerStateCommandResult). option_map (λ result. Request.GetEagerState one.key (state_told result) one.name) o ∷ next.next.others) next.is_known)

pub keys_are_known : (left : Commands) (n : ℕ) (name : Text) (read : StateRead StateKeys)
    → TellsNext (λ (one : GetLazyStateKeysCommandMessage). Some (request_of_get_lazy_state_keys one)) request_of_get_eager_state_keys (λ (one : GetEagerStateKeysCommandMessage). one.value) left read
    → known_result n (as_recorded left (Request.GetLazyStateKeys n name) ∷ []) ≡ arrivals_of n (keys_known read)
keys_are_known left n name reads.Lazy next = ap (λ (l : Commands). known_result n (as_recorded l (Request.GetLazyStateKeys n name) ∷ [])) next.next.first
keys_are_known left n name (reads.Eager found) next =
    let one : GetEagerStateKeysCommandMessage = next.recorded in
    ap (λ (l : Commands). known_result n (as_recorded l (Request.GetLazyStateKeys n name) ∷ []))
    (next.next.first ∙ ap (λ (o : Option StateKeys). option_map (λ (keys : StateKeys). Request.GetEagerStateKeys keys.keys one.name) o ∷ next.next.others) next.is_known)

-- ---- behind the journal

abbrev pub tells : EagerGetState → Bool
tells gets.Unknown = false
tells gets.Empty = true
tells (gets.Value value) = true

kept_told : (kept : Option (Option Bytes)) (is_partial : Bool) → (not is_partial || is_some kept) ≡ tells (told_of kept is_partial)
kept_told (Some (Some value)) true = refl
kept_told (Some (Some value)) false = refl
kept_told (Some None) true = refl
kept_told (Some None) false = refl
kept_told None true = refl
kept_told None false = refl

pub none_known : (kept : Option (Option Bytes)) (is_partial : Bool) → gets.Unknown ≡ told_of kept is_partial → (not is_partial || is_some kept) ≡ false
none_known kept is_partial told = kept_told kept is_partial ∙ ap tells (sym told)

pub one_known : (kept : Option (Option Bytes)) (is_partial : Bool) (told : EagerGetState) → tells told ≡ true → told ≡ told_of kept is_partial → (not is_partial || is_some kept) ≡ true
one_known kept is_partial told known is = kept_told kept is_partial ∙ ap tells (sym is) ∙ known
