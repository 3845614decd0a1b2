-- The payload of an arrival is read as this arrival, and its frame is of a type that is a notification's.
use Rattle.std.proofs.Common.{◌≡◌, arith, ◌∙◌, ℕ, Bool, true, false, ◌||◌, List, [], ◌∷◌, map, Some, Ok, refl, sym, ap, cond, ◌==◌, find}
use Rattle.std.specs.List.{list_any}
use Rattle.protocol_wire.specs.Parts.{payload_of}
use Rattle.protocol_wire.specs.declared.record.TheConstants.{LEVELS}
use Rattle.protocol_types.specs.declared.message_type.MessageType.{MessageType}
use Rattle.journal_model.specs.declared.notification.NotificationId.{NotificationId}
use Rattle.journal_model.specs.declared.notification.NotificationId.TheVariants as model_ids
use Rattle.journal_model.specs.declared.notification.NotificationResult.{NotificationResult}
use Rattle.journal_model.specs.declared.notification.NotificationResult.TheVariants as model_results
use Rattle.journal_model.specs.Notification.{Arrival, Text}
use Rattle.journal_model.specs.Request.{Request}
use Rattle.journal_model.specs.Spelling.{notification_payload, completion_type}
use Rattle.journal_model.specs.Journal.{Entry, requests_in, asks_for}
use Rattle.journal_model.specs.Attempt.{notification_type, type_of_completion}
use Rattle.protocol_controls.specs.Notification.{notification_parts}
use Rattle.protocol_controls.specs.ReadBack.{notification_reads}
use Rattle.protocol_stream.specs.Records.{pair_record, pair_told}
use Rattle.protocol_stream.specs.Frame.{message_of}
use Rattle.protocol_stream.proofs.Frames.{item_at-frame_bytes}
use Rattle.protocol_messages.specs.NotificationContent.{id_told, result_told, notification_told}
use Rattle.protocol_messages.specs.Decodings.{DecodesNotification}
use Rattle.protocol_laws.specs.Records.{id_record, notification_record, result_record}
use Rattle.protocol_laws.proofs.Notifications.{notifications_spelled}
use Rattle.vm_input_laws.specs.Arrivals.{ArrivalFits, IsCompletionAsked, IsNotificationType, ArrivalsReadBack}

-- ---- the record tells the arrival

pairs_told : (pairs : List (Text × Text)) → map pair_told (map pair_record pairs) ≡ pairs
pairs_told [] = refl
pairs_told (pair ∷ pairs) = λ i. pair ∷ pairs_told pairs i

id_back : (id : NotificationId) → id_told (id_record id) ≡ id
id_back (model_ids.CompletionId n) = refl
id_back (model_ids.SignalId n) = refl
id_back (model_ids.SignalName name) = refl

result_back : (result : NotificationResult) → result_told (result_record result) ≡ result
result_back model_results.Void = refl
result_back (model_results.Value bytes) = refl
result_back (model_results.Failure failure) = λ i. model_results.Failure (record failure { metadata = pairs_told failure.metadata i })
result_back (model_results.InvocationId id) = refl
result_back (model_results.StateKeys keys) = refl

told : (arrival : Arrival) → notification_told (notification_record arrival) ≡ Ok arrival
told arrival = λ i. Ok (record { id = id_back arrival.id i; result = result_back arrival.result i })

pub decodes : (ty : MessageType) (arrival : Arrival) → ArrivalFits arrival → DecodesNotification (message_of ty (notification_payload arrival)) (Ok arrival)
decodes ty arrival h =
    let spelled : payload_of (notification_parts (notification_record arrival)) ≡ notification_payload arrival = notifications_spelled arrival in
    let is = notification_reads LEVELS (notification_record arrival) h.fits (rw spelled (omega (arith, h.short))) in (
      rw (sym spelled) is.sound,
      rw (sym spelled) (ap notification_told (sym is.value) ∙ told arrival),
    )

-- ---- its type

of_call : (b : Bool) → IsNotificationType (cond b MessageType.CallInvocationIdCompletionNotification MessageType.CallCompletionNotification)
of_call true = record { named = refl; kind = refl }
of_call false = record { named = refl; kind = refl }

of_request : (n : ℕ) (request : Request) → asks_for n request ≡ true → IsNotificationType (completion_type request n)
of_request n (Request.CallService call m k name) asks = of_call (n == m)
of_request n (Request.OneWayCall call time m name) asks = record { named = refl; kind = refl }
of_request n (Request.GetLazyState key k name) asks = record { named = refl; kind = refl }
of_request n (Request.GetLazyStateKeys k name) asks = record { named = refl; kind = refl }
of_request n (Request.GetPromise key k name) asks = record { named = refl; kind = refl }
of_request n (Request.PeekPromise key k name) asks = record { named = refl; kind = refl }
of_request n (Request.CompletePromise key value k name) asks = record { named = refl; kind = refl }
of_request n (Request.Sleep time k name) asks = record { named = refl; kind = refl }
of_request n (Request.Run k name) asks = record { named = refl; kind = refl }
of_request n (Request.AttachInvocation target k name) asks = record { named = refl; kind = refl }
of_request n (Request.GetInvocationOutput target k name) asks = record { named = refl; kind = refl }
of_request n (Request.Output value name) asks = absurd cc
of_request n (Request.GetEagerState key value name) asks = absurd cc
of_request n (Request.GetEagerStateKeys keys name) asks = absurd cc
of_request n (Request.SetState key value name) asks = absurd cc
of_request n (Request.ClearState key name) asks = absurd cc
of_request n (Request.ClearAllState name) asks = absurd cc
of_request n (Request.SendSignal target key value name) asks = absurd cc
of_request n (Request.CompleteAwakeable id value name) asks = absurd cc

of_found : (n : ℕ) (requests : List Request) → list_any (asks_for n) requests ≡ true → IsNotificationType (type_of_completion (find (asks_for n) requests) n)
of_found n [] any = absurd cc
of_found n (request ∷ requests) any = go (asks_for n request) refl any (λ more. of_found n requests more)
  where
    go : (b : Bool) → asks_for n request ≡ b → b || list_any (asks_for n) requests ≡ true → (list_any (asks_for n) requests ≡ true → IsNotificationType (type_of_completion (find (asks_for n) requests) n))
        → IsNotificationType (type_of_completion (cond b (Some request) (find (asks_for n) requests)) n)
    go true asks h further = of_request n request asks
    go false asks h further = further h

pub of_asked : (entries : List Entry) (id : NotificationId) → IsCompletionAsked entries id → IsNotificationType (notification_type entries id)
of_asked entries (model_ids.CompletionId n) asked = of_found n (requests_in entries) asked
of_asked entries (model_ids.SignalId n) asked = record { named = refl; kind = refl }
of_asked entries (model_ids.SignalName name) asked = record { named = refl; kind = refl }

pub arrivals_read_back : ArrivalsReadBack
arrivals_read_back entries arrival rest asked h =
    let is = of_asked entries arrival.id asked in record {
      front = item_at-frame_bytes (notification_type entries arrival.id) (notification_payload arrival) rest is.named h.short;
      kind = is.kind;
      decoded = decodes (notification_type entries arrival.id) arrival h;
    }
