-- The line of each command is what the definitions say of its requests.
use Rattle.std.proofs.Common.{◌≡◌, ◌≢◌, refl, sym, ap, inl, inr, ℕ, ◌==◌, Bool, true, false, if◌then◌else◌}
use Rattle.std.proofs.lemmas.Bool.{eqb-true, eq-eqb, cases_Bool}
use Rattle.journal_model.specs.Request.{Request, CallRecord}
use Rattle.journal_model.specs.Notification.{Text}
use Rattle.journal_model.specs.Cause.{is_invocation_id, is_outcome}
use Rattle.protocol_types.specs.declared.message_type.MessageType.TheVariants as types
use Rattle.protocol_stream.specs.declared.command_facts.CompletedBy.TheVariants as by
use Rattle.protocol_types.specs.MessageType.{named_type}
use Rattle.protocol_stream.specs.CommandFacts.{CompletesRequest, completion_by, RequestsTyped, RequestsHaveLines}

pub requests_typed : RequestsTyped
unfolding named_type
requests_typed (Request.Output value name) = refl
requests_typed _ = refl

-- ---- of a call, by whether the id is its first

module _ (call : CallRecord) (m k : ℕ) (name : Text) where
  first_of_call : CompletesRequest (completion_by types.CallInvocationIdCompletionNotification by.InvocationId) (Request.CallService call m k name) m
  first_of_call =
      let same : (m == m) ≡ true = eq-eqb m m refl in
      record {
        ty = sym (ap (λ (b : Bool). if b then types.CallInvocationIdCompletionNotification else types.CallCompletionNotification) same);
        given = λ brought. sym (ap (λ (b : Bool). if b then is_invocation_id brought else is_outcome brought) same);
      }

  other_id : (n : ℕ) → n ≢ m → (n == m) ≡ false
  other_id n other = elim (cases_Bool (n == m)) [ inl e ↦ absurd (other (eqb-true n m e)) | inr e ↦ e ]

  second_of_call : k ≢ m → CompletesRequest (completion_by types.CallCompletionNotification by.Outcome) (Request.CallService call m k name) k
  second_of_call other =
      let not_first : (k == m) ≡ false = other_id k other in
      record {
        ty = sym (ap (λ (b : Bool). if b then types.CallInvocationIdCompletionNotification else types.CallCompletionNotification) not_first);
        given = λ brought. sym (ap (λ (b : Bool). if b then is_invocation_id brought else is_outcome brought) not_first);
      }

pub requests_have_lines : RequestsHaveLines
requests_have_lines (Request.Output value name) = record { completions = refl; answer = refl; moment = λ e. refl; state = λ e state. refl }
requests_have_lines (Request.GetEagerState key value name) = record { completions = refl; answer = refl; moment = λ e. refl; state = λ e state. refl }
requests_have_lines (Request.GetEagerStateKeys keys name) = record { completions = refl; answer = refl; moment = λ e. refl; state = λ e state. refl }
requests_have_lines (Request.SendSignal target key value name) = record { completions = refl; answer = refl; moment = λ e. refl; state = λ e state. refl }
requests_have_lines (Request.CompleteAwakeable id value name) = record { completions = refl; answer = refl; moment = λ e. refl; state = λ e state. refl }
requests_have_lines (Request.SetState key value name) = record { completions = refl; answer = refl; moment = λ e. refl; state = λ e state. absurd cc }
requests_have_lines (Request.ClearState key name) = record { completions = refl; answer = refl; moment = λ e. refl; state = λ e state. absurd cc }
requests_have_lines (Request.ClearAllState name) = record { completions = refl; answer = refl; moment = λ e. refl; state = λ e state. absurd cc }
requests_have_lines (Request.CallService call m k name) =
    record { completions = (first_of_call call m k name, second_of_call call m k name); answer = refl; moment = λ e. refl; state = λ e state. refl }
requests_have_lines (Request.Sleep time n name) =
    record { completions = record { ty = refl; given = λ brought. refl }; answer = refl; moment = λ e. absurd cc; state = λ e state. refl }
requests_have_lines _ = record { completions = record { ty = refl; given = λ brought. refl }; answer = refl; moment = λ e. refl; state = λ e state. refl }
