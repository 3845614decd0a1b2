-- The handlers of this program, each by its steps.
use Rattle.durable_schedule.specs.Handlers.{Bytes, Input}
use Rattle.durable_schedule.specs.Straight.{Steps}
use Rattle.example_schedule.specs.EveryCall.{every_call}
use Rattle.example_schedule.specs.Payment.{payment}
use Rattle.example_schedule.specs.Reminder.{reminder}
use Rattle.example_schedule.specs.Stamp.{stamp}
use Rattle.example_schedule.specs.declared.work.Work.{Work}

abbrev pub steps_of : Work → Input → Steps Bytes
steps_of (Work.Reminder handler) = reminder
steps_of (Work.Stamp handler) = stamp
steps_of (Work.Payment handler) = payment
steps_of (Work.EveryCall handler) = every_call
