use Rattle.std.proofs.Common.{List, [], ◌∙◌, sym, ap, rules, arith, take, get_or}
use Rattle.std.specs.List.{flat_map}
use Rattle.std.proofs.Output.{has_written_append, has_written_of_eq}
use Rattle.std.proofs.lemmas.List.{take_more, flat_map_more}
use Rattle.server_lines.specs.Reply.{further_frame}
use Rattle.server_lines.specs.declared.reply.TakenFrame.{TakenFrame}
use Rattle.server_lines.specs.declared.reply.TakenFrame.TheVariants.{Recorded}
use Rattle.server_lines.proofs.reply.FrameWordsDisplay.fmt.Goals as goal

pub loop-frame-preserved : goal.loop-frame-preserved
loop-frame-preserved g c = λ p.
    let frames = c.args.self.now.0.now in
    let i = c.loop-frame.frame-index in
    let frame = get_or frames i (Recorded 0) in
    has_written_of_eq _ _ _ _ _
    (flat_map_more further_frame [] (take i frames) frame ∙ ap (λ (fs : List TakenFrame). flat_map further_frame fs) (sym (take_more frames i (Recorded 0) (omega arith))))
    (has_written_append _ _ (flat_map further_frame (take i frames)) _ (further_frame frame) _ (c.loop-frame.invariant p) (search rules))
