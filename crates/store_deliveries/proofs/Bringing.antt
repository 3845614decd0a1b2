-- What a signal writes that is made ready, or refused; and what a message brings then.
use Rattle.std.proofs.Common.{◌≡◌, inl, inr, refl, sym, ap, subst, ◌∙◌, ℕ, Bool, true, false, not, ◌&&◌, ◌||◌, if◌then◌else◌, List, [], ◌∷◌, ◌++◌, Option, Some, None, is_some, IsErrAnd, IsTrue, Result, Ok, Err}
use Rattle.std.specs.List.{list_any}
use Rattle.journal_model.specs.Notification.{Text}
use Rattle.journal_model.specs.declared.cause.Cause.{Cause}
use Rattle.journal_model.specs.Request.{Request}
use Rattle.journal_model.specs.Event.{Event}
use Rattle.journal_model.specs.Journal.{Arrived, entries_of, Entry, invocation_begun, Recorded}
use Rattle.journal_model.specs.Cause.{causes_of}
use Rattle.delivery_laws.specs.Message.{entry_at, Message, message_at, message_in}
use Rattle.delivery_laws.specs.Outbox.{Outbox, OwedRow}
use Rattle.delivery_laws.specs.Log.{Kept}
use Rattle.delivery_laws.specs.Delivery.{bring, calls_so, DeliveryRules, if_accepted, is_to_be_made, signal_brought}
use Rattle.store_tables.specs.declared.row.Write.{Write}
use Rattle.store_model.specs.Writes.{writes_of}
use Rattle.store_refusals.specs.declared.refusal.Refusal.{Refusal}
use Rattle.store_refusals.specs.declared.refusal.Refusal.TheVariants as refusal
use Rattle.store_refusals.specs.RefusalConditions.{is_circumstance, IsRefused}
use Rattle.store_refusals.specs.Preparations.{TellsOrRefuses}
use Rattle.store_deliveries.specs.StoredOutbox.{row_of_number}
use Rattle.store_deliveries.specs.declared.delivery.PreparedDelivery.{PreparedDelivery}
use Rattle.store_deliveries.specs.declared.delivery.PreparedDelivery.TheVariants as delivery
use Rattle.store_deliveries.specs.PreparedDeliveries.{brought_by, is_cause, IsBrought, IsDeliveryReady, IsReady, kept_with, PreparesDelivery, writes_of_all}
use Rattle.store_deliveries.specs.PreparedRows.{drop_write}
use Rattle.store_deliveries.specs.RecordedMessages.{message_told}
use Rattle.store_deliveries.specs.declared.recorded.RecordedMessage.{RecordedMessage}
use Rattle.store_deliveries.specs.declared.recorded.RecordedMessage.TheVariants as recorded

-- ---- refusals

no_both : (why : Refusal) → IsTrue (is_circumstance why) → is_cause why ≡ true → ⊥
no_both (refusal.Cause cause) t f = cc
no_both (refusal.StatementRefused cause) t f = cc
no_both refusal.OutOfMemory t f = cc
no_both refusal.ForeignRow t f = cc

-- what is no cause is a circumstance
pub other_refused : (causes : List Cause) (why : Refusal) → IsRefused causes why → is_cause why ≡ false → IsRefused [] why
other_refused causes why (inr t) f = inr t
other_refused [] why (inl e) f = inl e
other_refused (cause ∷ causes) why (inl e) f =
    let same : refusal.Cause cause ≡ why = cc in
    let yes : true ≡ false = ap is_cause same ∙ f in
    cc

-- a cause is one that holds
cause_holds : (causes : List Cause) (why : Refusal) → IsRefused causes why → is_cause why ≡ true → causes ≡ [] → ⊥
cause_holds [] why (inl e) f g = cc
cause_holds [] why (inr t) f g = no_both why t f
cause_holds (cause ∷ causes) why r f g = cc

-- ---- what a signal writes

module _ (events : List Event) (event : Event) where
  pub taken : (writes : List Write) → causes_of events event ≡ [] → writes ≡ writes_of events event → writes ≡ writes_of_all events (if_accepted event (causes_of events event))
  taken writes none is = is ∙ sym (ap (λ (causes : List Cause). writes_of_all events (if_accepted event causes)) none)

  pub not_taken : (why : Refusal) → IsRefused (causes_of events event) why → is_cause why ≡ true → [] ≡ writes_of_all events (if_accepted event (causes_of events event))
  not_taken why r f = by_causes (causes_of events event) r
    where
      by_causes : (causes : List Cause) → IsRefused causes why → [] ≡ writes_of_all events (if_accepted event causes)
      by_causes [] s = absurd (cause_holds [] why s f refl)
      by_causes (cause ∷ causes) s = refl

-- ---- no call is a message, so none waits for what is to be made

no_call : (events : List Event) (id : Text) (row : OwedRow) (entry : Option Entry) → calls_so events id (message_in entry) row ≡ false
no_call events id row None = refl
no_call events id row (Some (Arrived arrival)) = refl
no_call events id row (Some (Recorded (Request.SendSignal target key value name))) = refl
no_call events id row (Some (Recorded (Request.CompleteAwakeable text value name))) = refl
no_call events id row (Some (Recorded _)) = refl

no_calls : (events : List Event) (id : Text) (rows : List OwedRow) → list_any (λ (row : OwedRow). calls_so events id (message_at events row.sender row.place) row) rows ≡ false
no_calls events id [] = refl
no_calls events id (row ∷ rows) =
    ap (λ (b : Bool). b || list_any (λ (it : OwedRow). calls_so events id (message_at events it.sender it.place) it) rows) (no_call events id row (entry_at (entries_of events row.sender) row.place))
    ∙ no_calls events id rows

and_no : (b c : Bool) → c ≡ false → (b && c) ≡ false
and_no true c e = e
and_no false c e = refl

none_to_be_made : (kept : Kept) (id : Text) → is_to_be_made kept id ≡ false
none_to_be_made kept id =
    and_no (not (is_some (invocation_begun kept.events id))) (list_any (λ (row : OwedRow). calls_so kept.events id (message_at kept.events row.sender row.place) row) kept.outbox.rows)
    (no_calls kept.events id kept.outbox.rows)

brings_so : (rules : DeliveryRules) (kept : Kept) (sender id : Text) (message : RecordedMessage) → bring rules kept sender id (message_told message) ≡ Some (brought_by rules kept.events message)
brings_so rules kept sender id (recorded.Tells target key result) =
    ap (λ (b : Bool). if b then None else Some (signal_brought kept.events target key result)) (none_to_be_made kept target)
brings_so rules kept sender id (recorded.Completes text result) = refl

pub brought_so : (rules : DeliveryRules) (events : List Event) (outbox : Outbox) (row : OwedRow) (message : RecordedMessage)
    → message_at events row.sender row.place ≡ Some (message_told message) → (writes : List Write)
    → writes ≡ writes_of_all events (brought_by rules events message) ++ drop_write row.number ∷ [] → IsBrought rules (kept_with events outbox) row writes
brought_so rules events outbox row message at writes is = record {
  message = message_told message;
  recorded = at;
  brought = brought_by rules events message;
  brings = λ id. brings_so rules (kept_with events outbox) row.sender id message;
  written = is;
}

-- ---- by the row

pub some_message : (o : Option Message) → is_some o ≡ true → (message : Message) × (o ≡ Some message)
some_message None e = cc
some_message (Some message) e = (message, refl)

pub delivered_so : (rules : DeliveryRules) (kept : Kept) (number : ℕ) (row : OwedRow) (r : Result PreparedDelivery Refusal) → Some row ≡ row_of_number kept.outbox number
    → TellsOrRefuses (IsReady rules kept row) r → PreparesDelivery rules kept number r
delivered_so rules kept number row (Ok made) found told = subst (λ (o : Option OwedRow). IsDeliveryReady rules kept o made) found told
delivered_so rules kept number row (Err why) found told = told

pub settled_so : (rules : DeliveryRules) (kept : Kept) (number : ℕ) → None ≡ row_of_number kept.outbox number → PreparesDelivery rules kept number (Ok delivery.Settled)
settled_so rules kept number none = subst (λ (o : Option OwedRow). IsDeliveryReady rules kept o delivery.Settled) none refl

pub refused_so : (rules : DeliveryRules) (kept : Kept) (number : ℕ) (e : Refusal) (r : Result PreparedDelivery Refusal) → IsErrAnd r (λ why. why ≡ e) → IsRefused [] e → PreparesDelivery rules kept number r
refused_so rules kept number e (Ok made) gives refused = absurd gives
refused_so rules kept number e (Err why) gives refused = subst (IsRefused []) (sym gives) refused
