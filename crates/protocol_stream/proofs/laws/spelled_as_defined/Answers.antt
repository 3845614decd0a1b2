-- Proved in `RecordSpellings` and `Spellings`.
use Rattle.protocol_stream.proofs.RecordSpellings.{sleeps_spelled, outputs_spelled, inputs_spelled, starts_spelled, futures_spelled, awaiting_on_spelled}
use Rattle.protocol_stream.proofs.Spellings.{spelled-frame_bytes}
use Rattle.protocol_stream.proofs.laws.spelled_as_defined.Goals as goal

pub returns-clause-sleep : goal.returns-clause-sleep
returns-clause-sleep c = sleeps_spelled

pub returns-clause-output : goal.returns-clause-output
returns-clause-output c = outputs_spelled

pub returns-clause-input : goal.returns-clause-input
returns-clause-input c = inputs_spelled

pub returns-clause-start : goal.returns-clause-start
returns-clause-start c = starts_spelled

pub returns-clause-future : goal.returns-clause-future
returns-clause-future c = futures_spelled

pub returns-clause-awaiting_on : goal.returns-clause-awaiting_on
returns-clause-awaiting_on c = awaiting_on_spelled

pub returns-clause-frame : goal.returns-clause-frame
returns-clause-frame c = spelled-frame_bytes
