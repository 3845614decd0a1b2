-- What calls bring, whose numbers are within their types and whose texts are UTF-8, and which events of a schedule a caller can bring.
use Rattle.std.specs.Prelude.{◌<◌, ◌^◌, IsUtf8}
use Rattle.protocol_wire.specs.declared.record.TheConstants.{LEVELS}
use Rattle.protocol_records.specs.InputCommand.{InputCommandFits}
use Rattle.protocol_controls.specs.Notification.{NotificationFits}
use Rattle.protocol_laws.specs.Records.{notification_record}
use Rattle.protocol_stream.specs.Records.{input_record}
use Rattle.journal_model.specs.declared.invocation.NewInvocation.{NewInvocation}
use Rattle.journal_model.specs.Journal.{completion}
use Rattle.journal_model.specs.Notification.{Arrival}
pub use Rattle.store_arrivals.specs.Signals.{signal_arrival, cancellation}
use Rattle.schedule_model.specs.declared.event.Event.{Event}
use Rattle.schedule_model.specs.declared.event.Event.TheVariants as event

pub record InvocationFits (new : NewInvocation) : Type 0 where
  pub id : IsUtf8 new.id
  pub object : IsUtf8 new.object
  pub seed : new.seed < 2 ^ 64
  pub input : InputCommandFits LEVELS (input_record new.headers new.input)

abbrev pub ResultFits : Arrival → Type 0
ResultFits arrival = NotificationFits LEVELS (notification_record arrival)

-- its numbers are within their types, and its texts are UTF-8
abbrev pub FitsEvent : {H : Type 0} → Event H → Type 0
FitsEvent (event.Invoke one) = InvocationFits one
FitsEvent (event.Result id n value) = ResultFits (completion n value)
FitsEvent (event.Signal id key value) = ResultFits (signal_arrival key value)
FitsEvent (event.Begin id handler now) = now < 2 ^ 64
FitsEvent _ = Unit {0}
