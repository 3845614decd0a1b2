-- A test that holds refuses the command; where none does, it is answered from the state of its object.
use Rattle.std.proofs.Common.{◌≡◌, true, sym, ◌∙◌}
use Rattle.sqlite.specs.Held.{state}
use Rattle.journal_model.specs.Journal.{object_state}
use Rattle.store_frames.specs.declared.frame.AttemptFrame.TheVariants as told
use Rattle.store_invocations.proofs.Refusing.{refused_by}
use Rattle.store_refusals.proofs.Causes.{test_unasked, unasked_tells}
use Rattle.store_steps.specs.Reads.{answer_told}
use Rattle.store_steps.specs.FrameAnswers.{tests_of_told}
use Rattle.store_steps.proofs.Commands.{decided_told, room_for_answer}
use Rattle.store_steps.proofs.prepare.answer_at_once.Goals as goal

pub returns-in-Some-clause-decided : goal.returns-in-Some-clause-decided
returns-in-Some-clause-decided g c clean events store =
    refused_by (tests_of_told c.args.row.now.progress true (told.Command c.args.command.now)) c.in-Some.refusal (sym c.command_refusal.ensures ∙ c.in-Some.is)

pub returns-in-None-clause-decided : goal.returns-in-None-clause-decided
returns-in-None-clause-decided g c clean events store =
    decided_told (tests_of_told c.args.row.now.progress true (told.Command c.args.command.now))
    (λ answer. answer ≡ answer_told (object_state events c.args.row.now.object) c.args.command.now.state c.args.command.now.completion)
    c.answer_to.result (sym c.command_refusal.ensures ∙ c.in-None.is) (c.answer_to.ensures.told clean events store)

pub returns-in-None-clause-room : goal.returns-in-None-clause-room
returns-in-None-clause-room g c = room_for_answer c.args.row.now.progress c.args.command.now c.answer_to.result (sym c.command_refusal.ensures ∙ c.in-None.is) c.answer_to.ensures.counted

pub returns-in-Some-clause-cause : goal.returns-in-Some-clause-cause
returns-in-Some-clause-cause g c =
    unasked_tells (state g.S.Store c.args.tables.now) (state g.S.Store c.args.tables.now) c.in-Some.refusal
    (test_unasked (tests_of_told c.args.row.now.progress true (told.Command c.args.command.now)) c.in-Some.refusal (sym c.command_refusal.ensures ∙ c.in-Some.is))
