-- Worked rows: equal signals of two senders, with a kill between; one that is forgotten, and its id used again; and what a job would bring that
-- sends itself on, whose object is its own until it ends.
use Rattle.std.proofs.Common.{◌≡◌, refl, true, false, List, [], ◌∷◌, ◌++◌, length, map, Option, Some, None, is_some, option_map, codes}
use Rattle.journal_model.specs.Notification.{Text}
use Rattle.journal_model.specs.declared.invocation.NewInvocation.{NewInvocation}
use Rattle.journal_model.specs.declared.invocation.StateMode.{StateMode}
use Rattle.journal_model.specs.declared.notification.NotificationResult.{NotificationResult}
use Rattle.journal_model.specs.declared.notification.SignalKey.{SignalKey}
use Rattle.journal_model.specs.Request.{Request, CallRecord, SignalValue}
use Rattle.journal_model.specs.Event.{Frame, Event}
use Rattle.journal_model.specs.Journal.{invocation_begun, recorded_arrivals}
use Rattle.delivery_laws.specs.Targets.{object_for}
use Rattle.delivery_laws.specs.Message.{Makes}
use Rattle.delivery_laws.specs.Outbox.{outbox_state}
use Rattle.delivery_laws.specs.Log.{Logged, Found, events_of, kept_of, outbox_of, owes, times_delivered}
use Rattle.delivery_laws.specs.Delivery.{bring, DeliveryRules, Step, Asked, Deliver, Forget, after_steps}

abbrev rules : DeliveryRules
rules = record { seed = λ id. 0; awakeable = λ text. None }

abbrev job : Text → Text → NewInvocation
job id object = record { id = id; object = object; input = []; headers = []; version = 7; seed = 1; state = StateMode.Whole }

abbrev r : Text
r = codes "r"

abbrev s : Text
s = codes "s"

abbrev t : Text
t = codes "t"

abbrev asks : Text → Request → List Step → List Step
asks id request steps = Asked (Event.Begin id 0) ∷ Asked (Event.Move id 1 (Frame.Command request)) ∷ steps

abbrev go : Request
go = Request.SendSignal r (SignalKey.ByName (codes "go")) SignalValue.Empty []

-- both have sent; that of the first is delivered
abbrev sent : List Step
sent =
    Asked (Event.Invoke (job r r)) ∷ Asked (Event.Invoke (job s s)) ∷ Asked (Event.Invoke (job t t))
    ∷ asks s go (asks t go (Deliver 1 [] ∷ []))

abbrev log_sent : List Logged
log_sent = after_steps rules [] sent

one-came : length (recorded_arrivals (events_of log_sent) r) ≡ 1
one-came = refl

-- the row that is left is the second
first-told : (owes log_sent s 1 ≡ false) × (owes log_sent t 1 ≡ true) × (map (λ row. row.number) (outbox_of log_sent).rows ≡ 2 ∷ [])
first-told = (refl, refl, refl)

-- one that owes is not forgotten
abbrev log_owing : List Logged
log_owing = after_steps rules log_sent (Asked (Event.Move t 1 Frame.End) ∷ Forget (t ∷ []) ∷ [])

kept-owing : (is_some (invocation_begun (events_of log_owing) t) ≡ true) × (owes log_owing t 1 ≡ true)
kept-owing = (refl, refl)

-- one that does not is; then its id is free, and owes anew
abbrev log_anew : List Logged
log_anew = after_steps rules log_owing (Deliver 2 [] ∷ Forget (t ∷ []) ∷ Asked (Event.Invoke (job t t)) ∷ asks t go [])

owes-anew : (length (recorded_arrivals (events_of log_anew) r) ≡ 2) × (owes log_anew t 1 ≡ true) × (map (λ row. row.number) (outbox_of log_anew).rows ≡ 3 ∷ [])
owes-anew = (refl, refl, refl)

-- behind a kill all is tried again, and twice: each comes once
abbrev again : List Step
again = Asked (Event.Stop s 1) ∷ Asked (Event.Stop t 1) ∷ Deliver 1 [] ∷ Deliver 2 [] ∷ Deliver 2 [] ∷ []

abbrev log_again : List Logged
log_again = after_steps rules log_sent again

both-came : length (recorded_arrivals (events_of log_again) r) ≡ 2
both-came = refl

each-once : (times_delivered log_again s 1 ≡ 1) × (times_delivered log_again t 1 ≡ 1)
each-once = (refl, refl)

-- what was found is not owed, and what comes behind it is
abbrev log_found : List Logged
log_found =
    after_steps rules (Found (Event.Move s 1 (Frame.Command go) ∷ Event.Begin s 0 ∷ Event.Invoke (job s s) ∷ Event.Invoke (job r r) ∷ []) ∷ [])
    (Deliver 1 [] ∷ Asked (Event.Move s 1 (Frame.Command go)) ∷ [])

found-settled : (owes log_found s 1 ≡ false) × (owes log_found s 2 ≡ true) × (length (recorded_arrivals (events_of log_found) r) ≡ 0)
found-settled = (refl, refl, refl)

-- the outbox as the state of the object whose name is empty
kept-rows : outbox_state (outbox_of log_sent) ≡ ([], codes "0000000000000002") ∷ (codes "0000000000000002", codes "00000001t") ∷ []
kept-rows = refl

-- a signal that its target refuses, as one that was not begun, brings nothing and is delivered
abbrev log_nobody : List Logged
log_nobody = after_steps rules log_sent (Asked (Event.Move s 1 (Frame.Command (Request.SendSignal (codes "u") (SignalKey.ByName (codes "go")) SignalValue.Empty []))) ∷ Deliver 3 [] ∷ [])

reached-nobody : (times_delivered log_nobody s 2 ≡ 1) × (owes log_nobody s 2 ≡ false) × (length (recorded_arrivals (events_of log_nobody) (codes "u")) ≡ 0)
reached-nobody = (refl, refl, refl)

-- a job sends itself on, and ends
abbrev on : CallRecord
on = record {
  service_name = codes "x";
  handler_name = codes "h";
  parameter = codes "2";
  headers = [];
  key = codes "k";
  idempotency_key = None;
  scope = None;
  limit_key = None;
}

abbrev next_id : Text
next_id = codes "~1"

abbrev log_busy : List Logged
log_busy = after_steps rules [] (Asked (Event.Invoke (job s (codes "x/k"))) ∷ asks s (Request.OneWayCall on 0 1 []) [])

abbrev log_ended : List Logged
log_ended = after_steps rules log_busy (Asked (Event.Move s 1 Frame.End) ∷ [])

-- what it has sent has no row, so it can be forgotten
no-row : (owes log_busy s 1 ≡ false) × (length (outbox_of log_busy).rows ≡ 0) × (is_some (invocation_begun (events_of (after_steps rules log_ended (Forget (s ∷ []) ∷ []))) s) ≡ false)
no-row = (refl, refl, refl)

-- what it would bring: nothing while its object is busy
waits-busy : bring rules (kept_of log_busy) s next_id (Makes on 0 1) ≡ None
waits-busy = refl

-- once it has ended the next one, of the recorded target and parameter, though nobody listens for its id
abbrev made : Option (List Event)
made = bring rules (kept_of log_ended) s next_id (Makes on 0 1)

abbrev next : List Event → Option NewInvocation
next brought = invocation_begun (brought ++ events_of log_ended) next_id

made-behind : option_map length made ≡ Some 1
made-behind = refl

made-as_recorded : (option_map (λ (brought : List Event). option_map (λ (new : NewInvocation). new.input) (next brought)) made ≡ Some (Some (codes "2"))) × (option_map (λ (brought : List Event). option_map (λ (new : NewInvocation). new.object) (next brought)) made ≡ Some (Some (codes "x/k")))
made-as_recorded = (refl, refl)

-- under the id that was told, and no other
abbrev log_told : List Logged
log_told = after_steps rules log_busy (Asked (Event.Result s 1 (NotificationResult.InvocationId next_id)) ∷ Asked (Event.Move s 1 Frame.End) ∷ [])

named-so : (option_map length (bring rules (kept_of log_told) s next_id (Makes on 0 1)) ≡ Some 1) × (bring rules (kept_of log_told) s (codes "~2") (Makes on 0 1) ≡ None)
named-so = (refl, refl)

-- a name that has a stroke is no two names
names-apart : object_for (record on { service_name = codes "a/b"; key = codes "~c" }) s ≡ codes "a%2Fb/%7Ec"
names-apart = refl

no-key : object_for (record on { key = [] }) s ≡ codes "~/s"
no-key = refl
