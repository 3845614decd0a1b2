-- What a delivery brings, and what steps leave: events that are asked for, deliveries that are tried, and invocations that are to be forgotten.
use Rattle.std.specs.Prelude.{ℕ, Bool, true, false, not, ◌&&◌, if◌then◌else◌, List, [], ◌∷◌, ◌++◌, Option, Some, None, is_some, option_and_then, bytes_eq}
use Rattle.std.specs.List.{find, list_all, list_any}
use Rattle.journal_model.specs.Notification.{Text}
use Rattle.journal_model.specs.declared.notification.NotificationResult.{NotificationResult}
use Rattle.journal_model.specs.declared.notification.SignalKey.{SignalKey}
use Rattle.journal_model.specs.Request.{CallRecord}
use Rattle.journal_model.specs.declared.invocation.NewInvocation.{NewInvocation}
use Rattle.journal_model.specs.declared.invocation.StateMode.{StateMode}
use Rattle.journal_model.specs.Event.{Event}
use Rattle.journal_model.specs.Forgetting.{forget_tests}
use Rattle.journal_model.specs.Journal.{version_of, completes, invocation_begun, recorded_arrivals}
use Rattle.journal_model.specs.declared.cause.Cause.{Cause}
use Rattle.journal_model.specs.Cause.{causes_of, those_that_hold, added_by, is_empty}
use Rattle.delivery_laws.specs.Targets.{object_for, origin_headers}
use Rattle.delivery_laws.specs.Message.{Message, Makes, Tells, Completes, message_at}
use Rattle.delivery_laws.specs.Outbox.{OwedRow, has_number, is_edit_of, number_causes, outbox_object}
use Rattle.delivery_laws.specs.Log.{Kept, Logged, Came, Delivered, Forgot, events_of, kept_of, outbox_of}

-- what is chosen once for a program: the number by which an id's random numbers begin, and how the text of an awakeable is read
pub record DeliveryRules : Type 0 where
  pub seed : Text → ℕ
  pub awakeable : Text → Option (Text × ℕ)

-- the invocation that a call makes: the recorded parameter for the recorded target, of its sender's version
abbrev pub new_for : DeliveryRules → List Event → Text → CallRecord → Text → NewInvocation
new_for rules events sender call id = record {
  id = id;
  object = object_for call id;
  input = call.parameter;
  headers = origin_headers sender call ++ call.headers;
  version = version_of events sender;
  seed = rules.seed id;
  state = StateMode.Whole;
}

abbrev pub if_accepted : Event → List Cause → List Event
if_accepted event [] = event ∷ []
if_accepted event (cause ∷ causes) = []

-- A call waits where its invocation is refused: the object is busy, the id is used. Its id is told to the sender in the same transaction,
-- where the sender still listens.
abbrev pub bring_call : List Event → Event → Event → List Cause → Option (List Event)
bring_call events invoke told [] = Some (if_accepted told (causes_of (invoke ∷ events) told) ++ invoke ∷ [])
bring_call events invoke told (cause ∷ causes) = None

-- The id that a call's sender was told, if it was. A sender may be told it long before the object is free: that is an event like any
-- other, and what is made then has this id.
abbrev pub id_in : NotificationResult → Option Text
id_in (NotificationResult.InvocationId id) = Some id
id_in _ = None

abbrev pub id_told : List Event → Text → ℕ → Option Text
id_told events sender m = option_and_then (λ arrival. id_in arrival.result) (find (completes m) (recorded_arrivals events sender))

abbrev pub is_named_so : Text → Option Text → Bool
is_named_so id None = false
is_named_so id (Some told) = bytes_eq told id

abbrev pub may_name : Option Text → Text → Bool
may_name None id = true
may_name (Some told) id = bytes_eq told id

-- Whether an invocation is to be made yet: it was not begun, and its id was told to the sender of a call that is owed. None is while no call is a
-- message, and no signal waits.
abbrev pub calls_so : List Event → Text → Option Message → OwedRow → Bool
calls_so events id (Some (Makes call time m)) row = is_named_so id (id_told events row.sender m)
calls_so events id message row = false

abbrev pub is_to_be_made : Kept → Text → Bool
is_to_be_made kept id =
    not (is_some (invocation_begun kept.events id))
    && list_any (λ row. calls_so kept.events id (message_at kept.events row.sender row.place) row) kept.outbox.rows

abbrev pub signal_brought : List Event → Text → SignalKey → NotificationResult → List Event
signal_brought events target key result = if_accepted (Event.Signal target key result) (causes_of events (Event.Signal target key result))

abbrev pub value_brought : List Event → Option (Text × ℕ) → NotificationResult → List Event
value_brought events None result = []
value_brought events (Some named) result = signal_brought events named.0 (SignalKey.ByIndex named.1) result

-- What a delivery brings, if it does not wait. A signal waits for a target that is to be made; where its target refuses it, it brings nothing, and is
-- delivered. So is the value of an awakeable that no text names.
abbrev pub bring : DeliveryRules → Kept → Text → Text → Message → Option (List Event)
bring rules kept sender id (Makes call time m) =
    if may_name (id_told kept.events sender m) id
    then bring_call kept.events (Event.Invoke (new_for rules kept.events sender call id)) (Event.Result sender m (NotificationResult.InvocationId id))
    (causes_of kept.events (Event.Invoke (new_for rules kept.events sender call id)))
    else None
bring rules kept sender id (Tells target key result) =
    if is_to_be_made kept target then None else Some (signal_brought kept.events target key result)
bring rules kept sender id (Completes text result) = Some (value_brought kept.events (rules.awakeable text) result)

-- ---- steps

abbrev pub logged : OwedRow → Option (List Event) → List Logged → List Logged
logged row None log = log
logged row (Some brought) log = Delivered row brought ∷ log

abbrev pub after_message : DeliveryRules → List Logged → Text → OwedRow → Option Message → List Logged
after_message rules log id row None = log
after_message rules log id row (Some message) = logged row (bring rules (kept_of log) row.sender id message) log

abbrev pub after_delivery : DeliveryRules → List Logged → Text → Option OwedRow → List Logged
after_delivery rules log id None = log
after_delivery rules log id (Some row) = after_message rules log id row (message_at (events_of log) row.sender row.place)

abbrev pub came : List Event → List Logged → List Logged
came [] log = log
came (event ∷ events) log = Came event ∷ came events log

-- why an event is refused: as without an outbox, or for want of a number
abbrev pub causes_in : List Logged → Event → List Cause
causes_in log event = causes_of (events_of log) event ++ number_causes (outbox_of log) event

-- one that is closed is forgotten once it owes nothing
abbrev pub may_forget : List Logged → Text → Bool
may_forget log id =
    is_empty (those_that_hold (forget_tests (events_of log) id)) && not (list_any (λ row. bytes_eq row.sender id) (outbox_of log).rows)

-- An event is asked for, as one that a program brings, or the stop by which a file is opened again: none edits the outbox. Or the row of a number
-- is to be delivered, with an id for what it may make; or invocations are to be forgotten. Nothing is assumed of the order, and a kill only ends
-- the list.
pub data Step : Type 0 where
  Asked : Event → Step
  Deliver : (number : ℕ) → (id : Text) → Step
  Forget : (ids : List Text) → Step

abbrev pub after_step : DeliveryRules → List Logged → Step → List Logged
after_step rules log (Asked event) = if is_edit_of outbox_object event then log else came (added_by event (causes_in log event)) log
after_step rules log (Deliver number id) = after_delivery rules log id (find (has_number number) (outbox_of log).rows)
after_step rules log (Forget ids) = if list_all (may_forget log) ids then Forgot ids ∷ log else log

abbrev pub after_steps : DeliveryRules → List Logged → List Step → List Logged
after_steps rules log [] = log
after_steps rules log (step ∷ steps) = after_steps rules (after_step rules log step) steps
