use Rattle.std.proofs.Common.{◌≡◌, map, take}
use Rattle.store_server.specs.RequestAnswers.{taken_frame}
use Rattle.store_server.proofs.answer.taken_frames.Given as goal

abbrev pub invariant-loop-reply : goal.invariant-loop-reply
invariant-loop-reply l = l.frames.items ≡ map taken_frame (take l.reply-index l.replies)
