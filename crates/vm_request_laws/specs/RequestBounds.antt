-- Which requests have a frame that is read back: what the records of the protocol can hold.
use Rattle.std.specs.Prelude.{◌<◌, ◌^◌, length}
use Rattle.journal_model.specs.Request.{Request}
use Rattle.journal_model.specs.Spelling.{request_payload}
use Rattle.protocol_wire.specs.declared.record.TheConstants.{LEVELS}
use Rattle.protocol_records.specs.OutputCommand.{OutputCommandFits}
use Rattle.protocol_records.specs.SleepCommand.{SleepCommandFits}
use Rattle.protocol_commands.specs.Fields.{GetLazyStateCommandFits, GetLazyStateKeysCommandFits, GetEagerStateKeysCommandFits, SetStateCommandFits, ClearStateCommandFits, ClearAllStateCommandFits, GetPromiseCommandFits, PeekPromiseCommandFits, RunCommandFits}
use Rattle.protocol_commands.specs.GetEagerStateCommand.{GetEagerStateCommandFits}
use Rattle.protocol_commands.specs.CompletePromiseCommand.{CompletePromiseCommandFits}
use Rattle.protocol_calls.specs.Fields.{CallCommandFits, OneWayCallCommandFits}
use Rattle.protocol_calls.specs.SendSignalCommand.{SendSignalCommandFits}
use Rattle.protocol_calls.specs.AttachInvocationCommand.{AttachInvocationCommandFits}
use Rattle.protocol_calls.specs.GetInvocationOutputCommand.{GetInvocationOutputCommandFits}
use Rattle.protocol_calls.specs.CompleteAwakeableCommand.{CompleteAwakeableCommandFits}
use Rattle.protocol_laws.specs.Commands.{CommandRecord, command_record}

-- each number of the record is within its type, and each text is UTF-8
abbrev pub RecordFits : CommandRecord → Type 0
RecordFits (CommandRecord.Output one) = OutputCommandFits LEVELS one
RecordFits (CommandRecord.GetLazyState one) = GetLazyStateCommandFits LEVELS one
RecordFits (CommandRecord.GetEagerState one) = GetEagerStateCommandFits LEVELS one
RecordFits (CommandRecord.GetLazyStateKeys one) = GetLazyStateKeysCommandFits LEVELS one
RecordFits (CommandRecord.GetEagerStateKeys one) = GetEagerStateKeysCommandFits LEVELS one
RecordFits (CommandRecord.SetState one) = SetStateCommandFits LEVELS one
RecordFits (CommandRecord.ClearState one) = ClearStateCommandFits LEVELS one
RecordFits (CommandRecord.ClearAllState one) = ClearAllStateCommandFits LEVELS one
RecordFits (CommandRecord.GetPromise one) = GetPromiseCommandFits LEVELS one
RecordFits (CommandRecord.PeekPromise one) = PeekPromiseCommandFits LEVELS one
RecordFits (CommandRecord.CompletePromise one) = CompletePromiseCommandFits LEVELS one
RecordFits (CommandRecord.Sleep one) = SleepCommandFits LEVELS one
RecordFits (CommandRecord.CallService one) = CallCommandFits LEVELS one
RecordFits (CommandRecord.OneWayCall one) = OneWayCallCommandFits LEVELS one
RecordFits (CommandRecord.SendSignal one) = SendSignalCommandFits LEVELS one
RecordFits (CommandRecord.Run one) = RunCommandFits LEVELS one
RecordFits (CommandRecord.AttachInvocation one) = AttachInvocationCommandFits LEVELS one
RecordFits (CommandRecord.GetInvocationOutput one) = GetInvocationOutputCommandFits LEVELS one
RecordFits (CommandRecord.CompleteAwakeable one) = CompleteAwakeableCommandFits LEVELS one

-- and the length of its payload is one that a header tells
pub record RequestFits (request : Request) : Type 0 where
  pub fits : RecordFits (command_record request)
  pub short : length (request_payload request) < 2 ^ 32
