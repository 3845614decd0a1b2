use Rattle.std.proofs.Common.{[], ℕ, subst}
use Rattle.journal_model.specs.Notification.{Text}
use Rattle.protocol_types.specs.declared.message_type.MessageType.{MessageType}
use Rattle.vm_calls.specs.Active.{asking, TakesCompletion}
use Rattle.vm_state_reads.proofs.telling.begin_in_replay.Goals as goal

pub returns-clause-taken : goal.returns-clause-taken
returns-clause-taken c =
    let taken : ℕ × ℕ = (c.in_ok-unnamed.id, c.in_ok-unnamed.handle) in
    let old = c.args.active.now in
    subst (λ (ty : MessageType). TakesCompletion taken (asking ty [] old) c.begin.new.self) c.type_in_replay-ty.ensures
    (subst (λ (name : Text). TakesCompletion taken (asking c.type_in_replay-ty.result name old) c.begin.new.self) c.new.ensures c.in_ok-unnamed.ensures.taken)
