use Rattle.store_steps.specs.PreparedFrames.{does_end}
use Rattle.journal_store.proofs.Answering.{room_behind}
use Rattle.journal_store.proofs.step.pass_noted.Goals as goal

pub note_acknowledged-requires : goal.note_acknowledged-requires
note_acknowledged-requires c =
    room_behind c.args.acknowledged (does_end c.args.reply) c.args.len c.args.id.now c.args.live.now.attempts c.pass_frame.new.live.attempts c.pass_frame.ensures c.requires.room
