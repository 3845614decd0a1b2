-- What a frame writes first tells whether its request asks something of another invocation, and at which place.
use Rattle.std.proofs.Common.{arith, ◌≡◌, refl, sym, ap, ℕ, suc, ◌+◌, ◌==◌, Bool, true, false, if◌then◌else◌, List, [], ◌∷◌, length, is_some, Option, Some, None}
use Rattle.protocol_types.specs.declared.message_type.MessageType.{MessageType}
use Rattle.journal_model.specs.Notification.{Text}
use Rattle.journal_model.specs.Request.{Request}
use Rattle.journal_model.specs.Spelling.{completion_type, request_type}
use Rattle.journal_model.specs.Event.{Event, Frame}
use Rattle.journal_model.specs.Journal.{entries_of, object_of, request_asking}
use Rattle.journal_model.specs.Attempt.{type_of_completion}
use Rattle.delivery_laws.specs.Message.{message_of}
use Rattle.delivery_laws.specs.Outbox.{rows_put}
use Rattle.store_model.specs.Writes.{state_writes, writes_of}
use Rattle.store_deliveries.specs.PreparedRows.{is_asking_type, place_asked, rows_at}

-- ---- by its type

asks_by_type : (request : Request) → is_asking_type (request_type request) ≡ is_some (message_of request)
asks_by_type (Request.SendSignal target key value name) = refl
asks_by_type (Request.CompleteAwakeable id value name) = refl
asks_by_type _ = refl

asked_at : (b c : Bool) (number : ℕ) (id : Text) (place other : ℕ) → b ≡ c → place ≡ other
    → (if c then record { number = number; sender = id; place = place } ∷ [] else []) ≡ rows_at number id (if b then Some other else None)
asked_at true true number id place other e f = ap (λ (n : ℕ). record { number = number; sender = id; place = n } ∷ []) f
asked_at true false number id place other e f = cc
asked_at false true number id place other e f = cc
asked_at false false number id place other e f = refl

-- no notification asks
no_completion_asks : (request : Request) (n : ℕ) → is_asking_type (completion_type request n) ≡ false
no_completion_asks (Request.CallService call m k name) n = by_number (n == m)
  where
    by_number : (b : Bool) → is_asking_type (if b then MessageType.CallInvocationIdCompletionNotification else MessageType.CallCompletionNotification) ≡ false
    by_number true = refl
    by_number false = refl
no_completion_asks _ n = refl

no_outcome_asks : (o : Option Request) (n : ℕ) → is_asking_type (type_of_completion o n) ≡ false
no_outcome_asks None n = refl
no_outcome_asks (Some request) n = no_completion_asks request n

-- ---- what is written first

nothing_first : (o : Option Text) → place_asked (state_writes o []) ≡ None
nothing_first None = refl
nothing_first (Some object) = refl

pub places_asked : (events : List Event) (number : ℕ) (id : Text) (attempt : ℕ) (frame : Frame)
    → rows_put events number (Event.Move id attempt frame) ≡ rows_at number id (place_asked (writes_of events (Event.Move id attempt frame)))
places_asked events number id attempt (Frame.Command request) =
    asked_at (is_asking_type (request_type request)) (is_some (message_of request)) number id (suc (length (entries_of events id))) (1 + length (entries_of events id))
    (asks_by_type request) (omega arith)
places_asked events number id attempt (Frame.RunOutcome n value is_acknowledged) =
    sym (ap (λ (b : Bool). rows_at number id (if b then Some (1 + length (entries_of events id)) else None)) (no_outcome_asks (request_asking (entries_of events id) n) n))
places_asked events number id attempt (Frame.Suspend suspension) = refl
places_asked events number id attempt (Frame.Error code message behavior delay) = refl
places_asked events number id attempt Frame.End = refl
places_asked events number id attempt (Frame.AwaitingOn awaited) = sym (ap (rows_at number id) (nothing_first (object_of events (Event.Move id attempt (Frame.AwaitingOn awaited)))))
places_asked events number id attempt Frame.Broken = sym (ap (rows_at number id) (nothing_first (object_of events (Event.Move id attempt Frame.Broken))))
places_asked events number id attempt Frame.TooDeep = sym (ap (rows_at number id) (nothing_first (object_of events (Event.Move id attempt Frame.TooDeep))))
places_asked events number id attempt Frame.NotAccepted = sym (ap (rows_at number id) (nothing_first (object_of events (Event.Move id attempt Frame.NotAccepted))))
