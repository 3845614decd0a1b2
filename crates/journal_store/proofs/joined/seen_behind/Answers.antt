use Rattle.std.proofs.Common.{refl}
use Rattle.journal_store.proofs.JoinedFrames.{seen_so}
use Rattle.journal_store.proofs.joined.seen_behind.Goals as goal

pub returns-in-Ok-read_frame_at-clause-seen : goal.returns-in-Ok-read_frame_at-clause-seen
returns-in-Ok-read_frame_at-clause-seen c =
    seen_so c.args.frames.now c.args.attempt.now _ (record { header = c.in-Frame.header; payload = c.in-Frame.payload.now }) c.as_slice.result.now c.as_slice.ensures c.in-Frame.ensures c.in-Ok-read_frame_at.ensures
    c.handed.ensures c.heard.ensures refl c.in-Ok.ensures
