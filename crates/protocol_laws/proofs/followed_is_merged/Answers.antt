use Rattle.std.proofs.Common.{◌∙◌, sym}
use Rattle.protocol_wire.specs.Parts.{payload_of}
use Rattle.protocol_wire.specs.declared.record.TheConstants.{LEVELS}
use Rattle.protocol_wire.proofs.Joined.{sound_append}
use Rattle.protocol_laws.proofs.followed_is_merged.Goals as goal

pub returns-clause-accepted : goal.returns-clause-accepted
returns-clause-accepted g c a b p q = sound_append 100 g.R.Record.record_type a b p q

pub returns-clause-merged : goal.returns-clause-merged
returns-clause-merged g c a b v w read fits small sound merged =
    let back = g.met.R.Record.reads LEVELS v fits small in
    record {
      sound = sound_append 100 g.R.Record.record_type a b read.sound sound;
      value = merged.value ∙ sym (g.met.R.Joining.joins LEVELS a (payload_of (g.R.Record.parts v)) b read.sound back.sound (sym read.value ∙ back.value));
    }

pub returns-clause-alone : goal.returns-clause-alone
returns-clause-alone g c a b v w read fits small sound joined =
    let back = g.met.R.Record.reads LEVELS v fits small in
    record {
      sound = sound_append 100 g.R.Record.record_type (payload_of (g.R.Record.parts v)) b back.sound sound;
      value = joined.value ∙ g.met.R.Joining.joins LEVELS a (payload_of (g.R.Record.parts v)) b read.sound back.sound (sym read.value ∙ back.value);
    }
