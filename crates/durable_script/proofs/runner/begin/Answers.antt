use Rattle.std.proofs.Common.{refl, ap, subst, sym, ◌∙◌, IsSome}
use Rattle.built_in_handlers.specs.BuiltIn.{built_in}
use Rattle.durable_script.proofs.Naming.{is_there}
use Rattle.durable_script.proofs.runner.begin.Goals as goal

pub unwrap-handler-requires : goal.unwrap-handler-requires
unwrap-handler-requires c =
    subst IsSome (sym (c.from_name.ensures ∙ ap (built_in c.args.alloc) c.word.ensures)) (is_there c.args.alloc c.args.name)

pub returns : goal.returns
returns c = (
  c.unwrap-handler.result,
  (c.args.alloc, sym (c.from_name.ensures ∙ ap (built_in c.args.alloc) c.word.ensures) ∙ c.unwrap-handler.ensures),
  refl,
)
