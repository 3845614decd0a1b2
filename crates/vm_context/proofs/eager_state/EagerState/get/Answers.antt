use Rattle.vm_context.proofs.Telling.{told_at, request_at, memory_at}
use Rattle.vm_context.proofs.eager_state.EagerState.get.Goals as goal

pub returns-clause-told : goal.returns-clause-told
returns-clause-told c = rw (← c.self.view_is)
    (told_at c.tell_value.result c.self.inside.is_partial c.self.inside.values.entries c.args.key.now _ c.get.ensures.value c.tell_value.ensures.told)

pub returns-clause-request : goal.returns-clause-request
returns-clause-request c = rw (← c.self.view_is)
    (request_at c.tell_value.result c.self.inside.is_partial c.self.inside.values.entries c.args.key.now _ c.get.ensures.value c.tell_value.ensures.told)

pub returns-clause-memory : goal.returns-clause-memory
returns-clause-memory c = rw (← c.self.view_is)
    (memory_at c.tell_value.result c.self.inside.is_partial c.self.inside.values.entries c.args.key.now _ c.get.ensures.value c.tell_value.ensures.memory)
