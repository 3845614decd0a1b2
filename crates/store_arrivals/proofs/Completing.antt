-- What a completion may be given, and by a frame of which type: as the line of its command tells it.
use Rattle.std.proofs.Common.{ℕ, ◌==◌, ◌≡◌, refl, sym, ap, inl, Bool, true, false, not, ◌||◌, if◌then◌else◌, List, [], ◌∷◌, Option, Some, None, is_some, option_map, subst, Result, Ok, Err}
use Rattle.std.proofs.lemmas.Bool.{eqb-true, eq-eqb}
use Rattle.store_model.proofs.Opening.{both_ways}
use Rattle.journal_model.specs.declared.notification.NotificationResult.{NotificationResult}
use Rattle.journal_model.specs.declared.notification.NotificationId.TheVariants.{CompletionId}
use Rattle.journal_model.specs.Request.{Request}
use Rattle.journal_model.specs.Spelling.{completion_type}
use Rattle.journal_model.specs.Journal.{Entry, is_awaited, open_request, request_asking}
use Rattle.journal_model.specs.Attempt.{notification_type, type_of_completion}
use Rattle.journal_model.specs.Cause.{Tests, those_that_hold, is_failure, is_invocation_id, is_outcome, is_void, refuses_kind}
use Rattle.journal_model.specs.declared.cause.Cause.{Cause}
use Rattle.protocol_types.specs.declared.message_type.MessageType.{MessageType}
use Rattle.protocol_types.specs.declared.message_type.MessageType.TheVariants as types
use Rattle.protocol_stream.specs.declared.command_facts.CompletedBy.TheVariants as by
use Rattle.protocol_stream.specs.CommandFacts.{completion_at, completion_by}
use Rattle.protocol_stream.specs.declared.command_facts.Completions.TheVariants as asked
use Rattle.store_refusals.specs.declared.refusal.Refusal.{Refusal}
use Rattle.store_refusals.specs.declared.refusal.Refusal.TheVariants as refusal
use Rattle.store_refusals.specs.RefusalConditions.{IsRefused}
use Rattle.store_invocations.specs.Rows.{Decides}
use Rattle.store_arrivals.specs.declared.asking.AskedCompletion.{AskedCompletion}
use Rattle.store_arrivals.specs.AskedCompletions.{completion_asked_by, completion_for, type_for}

same_either_way : (m n : ℕ) → (n == m) ≡ (m == n)
same_either_way m n = both_ways (n == m) (m == n) (λ e. eq-eqb m n (sym (eqb-true n m e))) (λ e. eq-eqb n m (sym (eqb-true m n e)))

-- ---- of a request

abbrev tests_if : Option Request → ℕ → NotificationResult → Tests
tests_if o n brought = (not (is_some o), Cause.CompletionNotOpen) ∷ (refuses_kind o n brought, Cause.WrongKind) ∷ []

-- a completion of this type, where it may be given what is brought
abbrev IsTyped : (may : Bool) → MessageType → Result MessageType Refusal → Type 0
IsTyped may given r = Decides ((not true, Cause.CompletionNotOpen) ∷ (not may, Cause.WrongKind) ∷ []) (λ ty. ty ≡ given) r

by_accept : (may : Bool) (ty : MessageType) → IsTyped may ty (if may then Ok ty else Err (refusal.Cause Cause.WrongKind))
by_accept true ty = (refl, refl)
by_accept false ty = inl refl

-- of a call, by whether the id is its first
by_first : (first : Bool) (brought : NotificationResult)
    → IsTyped (if first then is_invocation_id brought else is_outcome brought) (if first then types.CallInvocationIdCompletionNotification else types.CallCompletionNotification)
    (type_for (completion_at (not first) (asked.Two (completion_by types.CallInvocationIdCompletionNotification by.InvocationId) (completion_by types.CallCompletionNotification by.Outcome))) brought)
by_first true brought = by_accept (is_invocation_id brought) types.CallInvocationIdCompletionNotification
by_first false brought = by_accept (is_outcome brought) types.CallCompletionNotification

request_given : (request : Request) (n : ℕ) (brought : NotificationResult)
    → Decides (tests_if (Some request) n brought) (λ ty. ty ≡ completion_type request n) (type_for (completion_for (completion_asked_by n request)) brought)
request_given (Request.GetPromise key k name) n brought = by_accept (is_outcome brought) types.GetPromiseCompletionNotification
request_given (Request.PeekPromise key k name) n brought = by_accept (is_void brought || is_outcome brought) types.PeekPromiseCompletionNotification
request_given (Request.CompletePromise key value k name) n brought = by_accept (is_void brought || is_failure brought) types.CompletePromiseCompletionNotification
request_given (Request.CallService call m k name) n brought =
    subst (λ (b : Bool). IsTyped (if b then is_invocation_id brought else is_outcome brought) (if b then types.CallInvocationIdCompletionNotification else types.CallCompletionNotification)
    (type_for (completion_for (completion_asked_by n (Request.CallService call m k name))) brought))
    (sym (same_either_way m n)) (by_first (m == n) brought)
request_given (Request.OneWayCall call time k name) n brought = by_accept (is_invocation_id brought) types.CallInvocationIdCompletionNotification
request_given (Request.AttachInvocation target k name) n brought = by_accept (is_outcome brought) types.AttachInvocationCompletionNotification
request_given (Request.GetInvocationOutput target k name) n brought = by_accept (is_void brought || is_outcome brought) types.GetInvocationOutputCompletionNotification
request_given _ n brought = inl refl

-- ---- of the request whose completion is open

pub not_open : (n : ℕ) (brought : NotificationResult) (o : Option Request) → None ≡ option_map (completion_asked_by n) o
    → IsRefused (those_that_hold (tests_if o n brought)) (refusal.Cause Cause.CompletionNotOpen)
not_open n brought None e = inl refl
not_open n brought (Some request) e = cc

pub asking_of_open : (entries : List Entry) (n : ℕ) (request : Request) → open_request entries n ≡ Some request → request_asking entries n ≡ Some request
asking_of_open entries n request e = by_test (is_awaited entries n) e
  where
    by_test : (b : Bool) → (if b then request_asking entries n else None) ≡ Some request → request_asking entries n ≡ Some request
    by_test true e = e
    by_test false e = cc

pub given : (entries : List Entry) (n : ℕ) (brought : NotificationResult) (asked : AskedCompletion) → Some asked ≡ option_map (completion_asked_by n) (open_request entries n)
    → Decides (tests_if (open_request entries n) n brought) (λ ty. ty ≡ notification_type entries (CompletionId n)) (type_for (completion_for asked) brought)
given entries n brought asked e = by_request (open_request entries n) refl e
  where
    by_request : (o : Option Request) → open_request entries n ≡ o → Some asked ≡ option_map (completion_asked_by n) o
        → Decides (tests_if o n brought) (λ ty. ty ≡ notification_type entries (CompletionId n)) (type_for (completion_for asked) brought)
    by_request None is e = cc
    by_request (Some request) is e =
        let same : asked ≡ completion_asked_by n request = cc in
        let same_type : completion_type request n ≡ notification_type entries (CompletionId n) =
        ap (λ (o : Option Request). type_of_completion o n) (sym (asking_of_open entries n request is)) in
        subst (λ (a : AskedCompletion). Decides (tests_if (Some request) n brought) (λ ty. ty ≡ notification_type entries (CompletionId n)) (type_for (completion_for a) brought))
        (sym same)
        (subst (λ (k : MessageType). Decides (tests_if (Some request) n brought) (λ ty. ty ≡ k) (type_for (completion_for (completion_asked_by n request)) brought))
        same_type (request_given request n brought))
