-- Types of commands, to the types of their messages and back.
use Rattle.std.proofs.Common.{refl}
use Rattle.protocol_stream.specs.declared.command_type.CommandType.TheVariants.{CancelInvocation}
use Rattle.protocol_stream.specs.Laws.{CommandTypesReadBack, CancellationsAreSignals}

pub command_types_read_back : CommandTypesReadBack
command_types_read_back CancelInvocation other = absurd (other refl)
command_types_read_back _ other = refl

pub cancellations_are_signals : CancellationsAreSignals
cancellations_are_signals = refl
