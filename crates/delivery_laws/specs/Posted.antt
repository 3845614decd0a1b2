-- The laws of deliveries.
use Rattle.std.specs.Prelude.{◌≡◌, ℕ, suc, ◌≤◌, nat_lt, ◌&&◌, Bool, true, false, if◌then◌else◌, List, [], ◌∷◌, ◌++◌, not, Option, Some, None, option_map}
use Rattle.std.specs.List.{find, list_any, list_all}
use Rattle.journal_model.specs.Notification.{Text}
use Rattle.journal_model.specs.declared.notification.NotificationResult.{NotificationResult}
use Rattle.journal_model.specs.declared.notification.SignalKey.{SignalKey}
use Rattle.journal_model.specs.Request.{CallRecord}
use Rattle.journal_model.specs.State.{state_after, state_change}
use Rattle.journal_model.specs.declared.invocation.NewInvocation.{NewInvocation}
use Rattle.journal_model.specs.Event.{Event}
use Rattle.journal_model.specs.Journal.{invocation_begun, id_of_signal, is_text, recorded_arrivals}
use Rattle.journal_model.specs.declared.cause.Cause.{Cause}
use Rattle.journal_model.specs.Cause.{causes_of, IsAccepted}
use Rattle.delivery_laws.specs.Message.{Message, Makes, Tells, Completes, message_at}
use Rattle.delivery_laws.specs.Outbox.{drop_of, OwedRow, has_number, is_edit_of, is_row_of, number_causes, outbox_object, outbox_state, puts_of, rows_put}
use Rattle.delivery_laws.specs.Log.{Kept, Logged, Found, Came, Delivered, Forgot, events_of, kept_of, outbox_of, times_delivered, is_delivered, owes}
use Rattle.delivery_laws.specs.Delivery.{DeliveryRules, new_for, may_name, id_told, bring, may_forget, Step, Deliver, after_step, after_steps}

-- a delivery behind a log: of a message that is recorded, and has a row
pub record IsDelivery (rules : DeliveryRules) (log : List Logged) (row : OwedRow) (brought : List Event) : Type 0 where
  pub found : find (has_number row.number) (outbox_of log).rows ≡ Some row
  pub message : Message
  pub id : Text
  pub recorded : message_at (events_of log) row.sender row.place ≡ Some message
  pub brings : bring rules (kept_of log) row.sender id message ≡ Some brought

-- an event that came: nothing speaks against it, and it does not edit the outbox
pub record HasCome (log : List Logged) (event : Event) : Type 0 where
  pub causes : causes_of (events_of log) event ≡ []
  pub number : number_causes (outbox_of log) event ≡ []
  pub apart : is_edit_of outbox_object event ≡ false

-- what was found comes first
pub record IsFound (log : List Logged) (events : List Event) : Type 0 where
  pub accepted : IsAccepted events
  pub first : log ≡ []

abbrev pub IsItem : DeliveryRules → List Logged → Logged → Type 0
IsItem rules log (Found events) = IsFound log events
IsItem rules log (Came event) = HasCome log event
IsItem rules log (Delivered row brought) = IsDelivery rules log row brought
IsItem rules log (Forgot ids) = list_all (may_forget log) ids ≡ true

abbrev pub IsPosted : DeliveryRules → List Logged → Type 0
IsPosted rules [] = Unit {0}
IsPosted rules (item ∷ log) = IsItem rules log item × IsPosted rules log

abbrev pub StepsPost : Type 0
StepsPost = (rules : DeliveryRules) (before : List Event) (steps : List Step) → IsAccepted before
    → IsPosted rules (after_steps rules (Found before ∷ []) steps)

abbrev pub PostedAreAccepted : Type 0
PostedAreAccepted = (rules : DeliveryRules) (log : List Logged) → IsPosted rules log → IsAccepted (events_of log)

-- where in a log a message was delivered; it is still recorded so
pub record IsReached (rules : DeliveryRules) (log : List Logged) (sender : Text) (place : ℕ) : Type 0 where
  pub later : List Logged
  pub before : List Logged
  pub row : OwedRow
  pub brought : List Event
  pub whole : log ≡ later ++ Delivered row brought ∷ before
  pub named : is_row_of sender place row ≡ true
  pub delivery : IsDelivery rules before row brought
  pub stays : message_at (events_of log) sender place ≡ Some delivery.message

-- No message reaches its target twice, and what was delivered is what is recorded. So each does once, that is not owed still and was not found.
pub record ReachesOnce (rules : DeliveryRules) (log : List Logged) (sender : Text) (place : ℕ) : Type 0 where
  pub times : times_delivered log sender place ≡ (if is_delivered log sender place then 1 else 0)
  pub reached : is_delivered log sender place ≡ true → IsReached rules log sender place

abbrev pub AllReachOnce : Type 0
AllReachOnce = (rules : DeliveryRules) (before : List Event) (steps : List Step) → IsAccepted before
    → (sender : Text) (place : ℕ) → ReachesOnce rules (after_steps rules (Found before ∷ []) steps) sender place

-- what a delivered call has made, with the recorded target and parameter, under the id that its sender was told
abbrev pub CallsAreMade : Type 0
CallsAreMade = (rules : DeliveryRules) (kept : Kept) (sender id : Text) (call : CallRecord) (time m : ℕ) (brought : List Event)
    → bring rules kept sender id (Makes call time m) ≡ Some brought
    → (may_name (id_told kept.events sender m) id ≡ true) × (invocation_begun (brought ++ kept.events) id ≡ Some (new_for rules kept.events sender call id))

-- what a signal has brought: one arrival behind those of its target, or nothing where the target refuses it
abbrev pub Arrives : List Event → Text → SignalKey → NotificationResult → List Event → List Cause → Type 0
Arrives events target key result brought [] =
    recorded_arrivals (brought ++ events) target ≡ recorded_arrivals events target ++ record { id = id_of_signal key; result = result } ∷ []
Arrives events target key result brought (cause ∷ causes) = brought ≡ []

abbrev pub ArrivesAt : List Event → Text → SignalKey → NotificationResult → List Event → Type 0
ArrivesAt events target key result brought = Arrives events target key result brought (causes_of events (Event.Signal target key result))

abbrev pub SignalsArrive : Type 0
SignalsArrive = (rules : DeliveryRules) (kept : Kept) (sender id target : Text) (key : SignalKey) (result : NotificationResult) (brought : List Event)
    → bring rules kept sender id (Tells target key result) ≡ Some brought → ArrivesAt kept.events target key result brought

-- so does the value of the awakeable that the text names
abbrev pub ValueArrives : List Event → Option (Text × ℕ) → NotificationResult → List Event → Type 0
ValueArrives events None result brought = brought ≡ []
ValueArrives events (Some named) result brought = ArrivesAt events named.0 (SignalKey.ByIndex named.1) result brought

abbrev pub ValuesArrive : Type 0
ValuesArrive = (rules : DeliveryRules) (kept : Kept) (sender id text : Text) (result : NotificationResult) (brought : List Event)
    → bring rules kept sender id (Completes text result) ≡ Some brought → ValueArrives kept.events (rules.awakeable text) result brought

-- what has a row is delivered at the first try that need not wait
abbrev pub DeliveriesAdvance : Type 0
DeliveriesAdvance = (rules : DeliveryRules) (log : List Logged) (row : OwedRow) (id : Text) (message : Message) (brought : List Event)
    → find (has_number row.number) (outbox_of log).rows ≡ Some row → message_at (events_of log) row.sender row.place ≡ Some message
    → bring rules (kept_of log) row.sender id message ≡ Some brought
    → after_step rules log (Deliver row.number id) ≡ Delivered row brought ∷ log

-- ---- rows

abbrev pub RowsAreOwed : Type 0
RowsAreOwed = (rules : DeliveryRules) (log : List Logged) → IsPosted rules log → (sender : Text) (place : ℕ)
    → list_any (is_row_of sender place) (outbox_of log).rows ≡ owes log sender place

-- a message has one row at most
abbrev pub are_apart : List OwedRow → Bool
are_apart [] = true
are_apart (row ∷ rows) = not (list_any (is_row_of row.sender row.place) rows) && are_apart rows

abbrev pub RowsAreApart : Type 0
RowsAreApart = (rules : DeliveryRules) (log : List Logged) → IsPosted rules log → are_apart (outbox_of log).rows ≡ true

-- each number is above those before, and none is above what was given
abbrev pub ascend_to : ℕ → ℕ → List OwedRow → Bool
ascend_to last given [] = true
ascend_to last given (row ∷ rows) = (nat_lt last row.number && nat_lt row.number (suc given)) && ascend_to row.number given rows

abbrev pub NumbersAscend : Type 0
NumbersAscend = (rules : DeliveryRules) (log : List Logged) → IsPosted rules log → ascend_to 0 (outbox_of log).given (outbox_of log).rows ≡ true

-- what was given is never given again
abbrev pub NumbersGrow : Type 0
NumbersGrow = (rules : DeliveryRules) (item : Logged) (log : List Logged) → IsPosted rules (item ∷ log) → (outbox_of log).given ≤ (outbox_of (item ∷ log)).given

-- The outbox is the state of the object whose name is empty: what puts the rows of an event, and what drops the one that is delivered, leads from the
-- state that it was to the state that it is then.
pub record OutboxIsState (rules : DeliveryRules) : Type 0 where
  pub put : (event : Event) (log : List Logged) → IsPosted rules (Came event ∷ log)
      → state_after (puts_of (rows_put (events_of log) (suc (outbox_of log).given) event)) (outbox_state (outbox_of log)) ≡ outbox_state (outbox_of (Came event ∷ log))
  pub dropped : (row : OwedRow) (brought : List Event) (log : List Logged) → IsPosted rules (Delivered row brought ∷ log)
      → state_change (drop_of row.number) (outbox_state (outbox_of log)) ≡ outbox_state (outbox_of (Delivered row brought ∷ log))

abbrev pub OutboxesAreStates : Type 0
OutboxesAreStates = (rules : DeliveryRules) → OutboxIsState rules

-- no invocation has that object, so no event but an edit of it changes its state
abbrev pub NoneHasIt : Type 0
NoneHasIt = (events : List Event) (id : Text) → IsAccepted events → is_text outbox_object (option_map (λ (new : NewInvocation). new.object) (invocation_begun events id)) ≡ false
