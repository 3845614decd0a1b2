-- What a call and a send of another handler ask for.
use Rattle.std.proofs.Common.{◌≡◌, ◌+◌, ◌∷◌, ◌∙◌, ℕ, suc, [], List, map, Option, None, refl, sym, ap, arith}
use Rattle.journal_model.specs.declared.notification.NotificationId.TheVariants.{CompletionId}
use Rattle.journal_model.specs.declared.call.Call.{Call}
use Rattle.journal_model.specs.declared.call.Header.{Header}
use Rattle.journal_model.specs.declared.call.Target.{Target}
use Rattle.journal_model.specs.declared.call.PayloadOptions.{PayloadOptions}
use Rattle.journal_model.specs.declared.call.Moment.{Moment}
use Rattle.journal_model.specs.Notification.{Bytes, Text}
use Rattle.journal_model.specs.Refusal.{refusal_of}
use Rattle.journal_model.specs.Request.{Request}
use Rattle.journal_model.specs.Delivery.{known_result}
use Rattle.journal_model.specs.Run.{Invocation, call_record, invoke_time, name_or_empty}
use Rattle.attempt_model.specs.Machine.{Machine}
use Rattle.protocol_stream.specs.Records.{header_told, header_record}
use Rattle.vm_context.specs.StateKnowledge.{changes_state}
use Rattle.vm_waiting.specs.CompletionPairs.{CompletesTwo, CompletesTracked}

-- the records of headers tell them
pub headers_told : (headers : List Header) → map header_told (map header_record headers) ≡ headers
headers_told [] = refl
headers_told (header ∷ headers) = ap (λ (hs : List Header). header ∷ hs) (headers_told headers)

pub call_completes : (given : Invocation) (m : Machine) (target : Target) (parameter : Bytes) (name : Option Text) (options : PayloadOptions) (copy : Text) (first second : ℕ) (request : Request)
    → refusal_of given.version (Call.Call target parameter name options) ≡ None
    → copy ≡ name_or_empty name → first ≡ m.completions → second ≡ m.completions + 1 → request ≡ Request.CallService (call_record target parameter) first second copy
    → CompletesTwo given m (Call.Call target parameter name options) request
call_completes given m target parameter name options copy first second request refused copied one two is =
    let asked : request ≡ Request.CallService (call_record target parameter) m.completions (suc m.completions) (name_or_empty name) =
    is ∙ (λ i. Request.CallService (call_record target parameter) (one i) ((two ∙ next_is m.completions) i) (copied i)) in
    record {
      asks = record {
        refused = refused;
        work = refl;
        requests = λ i. sym asked i ∷ [];
      };
      completions = refl;
      signals = refl;
      ids = λ i. CompletionId m.completions ∷ CompletionId (sym (next_is m.completions) i) ∷ [];
      known = ap (λ (r : Request). known_result m.completions (r ∷ [])) asked;
      keeps = ap changes_state asked;
      answer = λ text handle signal. refl;
    }
  where
    next_is : (n : ℕ) → n + 1 ≡ suc n
    next_is n = omega arith

pub send_completes : (given : Invocation) (m : Machine) (target : Target) (parameter : Bytes) (moment : Option Moment) (name : Option Text) (options : PayloadOptions) (copy : Text) (time id : ℕ)
    → refusal_of given.version (Call.Send target parameter moment name options) ≡ None
    → copy ≡ name_or_empty name → invoke_time moment ≡ time → id ≡ m.completions
    → CompletesTracked given m (Call.Send target parameter moment name options) (Request.OneWayCall (call_record target parameter) time id copy)
send_completes given m target parameter moment name options copy time id refused copied timed taken = record {
  asks = record {
    refused = refused;
    work = refl;
    requests = λ i. Request.OneWayCall (call_record target parameter) (timed i) (sym taken i) (sym copied i) ∷ [];
  };
  completions = refl;
  signals = refl;
  ids = refl;
  known = refl;
  keeps = refl;
  answer = λ text handle signal. refl;
}
