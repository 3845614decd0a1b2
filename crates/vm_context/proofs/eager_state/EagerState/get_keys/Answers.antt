use Rattle.std.proofs.lemmas.Result.{err_from_is_err_and}
use Rattle.vm_context.specs.declared.eager_state.EagerGetStateKeys.TheVariants.{Unknown, Keys}
use Rattle.vm_context.proofs.Telling.{keys_tell, unknown_told, keys_told, keys_asked}
use Rattle.vm_context.proofs.eager_state.EagerState.get_keys.Goals as goal

pub returns-then-self-clause-told : goal.returns-then-self-clause-told
returns-then-self-clause-told c = rw (← c.self.view_is) (unknown_told c.self.inside.is_partial c.self.inside.values.entries c.if-self.true)

pub returns-then-self-clause-request : goal.returns-then-self-clause-request
returns-then-self-clause-request c = rw (← c.self.view_is)
    (keys_tell c.self.inside.is_partial c.self.inside.values.entries Unknown (unknown_told c.self.inside.is_partial c.self.inside.values.entries c.if-self.true))

pub returns-in_err-keys-clause-memory : goal.returns-in_err-keys-clause-memory
returns-in_err-keys-clause-memory c =
    let p = err_from_is_err_and c.from_residual.result c.from_residual.ensures.1 in
    rw (p.1, ← c.self.view_is) (keys_asked c.self.inside.is_partial c.self.inside.values.entries c.if-self.false)

pub returns-clause-told : goal.returns-clause-told
returns-clause-told c = rw (← c.self.view_is)
    (keys_told c.self.inside.is_partial c.self.inside.values.entries c.in_ok-keys.keys c.if-self.false c.in_ok-keys.ensures)

pub returns-clause-request : goal.returns-clause-request
returns-clause-request c = rw (← c.self.view_is)
    (keys_tell c.self.inside.is_partial c.self.inside.values.entries (Keys c.in_ok-keys.keys)
    (keys_told c.self.inside.is_partial c.self.inside.values.entries c.in_ok-keys.keys c.if-self.false c.in_ok-keys.ensures))
