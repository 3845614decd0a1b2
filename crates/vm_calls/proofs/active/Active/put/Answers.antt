use Rattle.std.proofs.Common.{rules, Ok, Err, [], refl, ◌∙◌, FitsSigned, to_z-of_z, w64}
use Rattle.vm_calls.proofs.MismatchedCommands.{put_tells}
use Rattle.vm_calls.proofs.Settling.{put_settles, put_fails}
use Rattle.vm_calls.proofs.Spending.{finds_none, writes_none}
use Rattle.vm_calls.proofs.active.Active.put.Goals as goal

pub returns-in-Ok-clause-put : goal.returns-in-Ok-clause-put
returns-in-Ok-clause-put g c =
    λ request written h settled. put_settles g.row.M.Denot c.args.ignore_payload_equality request written c.args.self.now settled _ (c.in-Ok.ensures.too_long request h) c.still_replays-self.ensures (c.in-Ok.ensures.put request written h) refl

pub returns-in-Err-clause-put : goal.returns-in-Err-clause-put
returns-in-Err-clause-put g c =
    λ request written h settled. put_fails g.row.M.Denot c.args.ignore_payload_equality request written c.args.self.now settled c.in-Err.error c.put.new.commands.items c.put.new.output (c.in-Err.ensures.too_long request h) (c.in-Err.ensures.put request written h)

pub returns-in-Ok-clause-spent : goal.returns-in-Ok-clause-spent
returns-in-Ok-clause-spent g c =
    λ request h spent.
    let old = c.args.self.now in
    absurd (finds_none c.args.ignore_payload_equality old.is_replaying old.commands.items (Ok tt) spent.replaying g.M.Record.record_type g.M.Record.of g.M.CommandMessageHeaderEq.erased _ c.args.command spent.none c.in-Ok.ensures.answer)

pub returns-in-Err-clause-spent : goal.returns-in-Err-clause-spent
returns-in-Err-clause-spent g c =
    λ request h spent.
    let old = c.args.self.now in (
      finds_none c.args.ignore_payload_equality old.is_replaying old.commands.items (Err c.in-Err.error) spent.replaying g.M.Record.record_type g.M.Record.of g.M.CommandMessageHeaderEq.erased _ c.args.command spent.none c.in-Err.ensures.answer,
      writes_none c.args.ignore_payload_equality old.is_replaying old.commands.items (Err c.in-Err.error) spent.replaying request [] old.output c.put.new.commands.items c.put.new.output
          (c.in-Err.ensures.put request [] h),
    )

pub returns-in-Err-clause-found : goal.returns-in-Err-clause-found
returns-in-Err-clause-found g c =
    λ ty typed.
    let old = c.args.self.now in
    let fits : FitsSigned w64 c.command_index-index.result = search rules in
    put_tells g.M.Record.record_type ty typed g.M.Record.of g.M.CommandMessageHeaderEq.erased _ c.args.ignore_payload_equality c.args.command _ (to_z-of_z fits ∙ c.command_index-index.ensures) old.is_replaying old.commands.items c.in-Err.error c.in-Err.ensures.answer
