-- Each name of a handler is that of one, whose function it names.
use Rattle.std.proofs.Common.{◌≡◌, ◌∙◌, refl, ap, sym, subst, Some, IsSome}
use Rattle.std.proofs.lemmas.Option.{same_Some}
use Rattle.std.specs.declared.alloc.Global.{Global}
use Rattle.built_in_handlers.specs.declared.built_in.BuiltIn.{BuiltIn}
use Rattle.built_in_handlers.specs.BuiltIn.{built_in, function_of}
use Rattle.script_lines.specs.declared.word.HandlerName.{HandlerName}
use Rattle.script_lines.specs.declared.word.HandlerName.TheVariants.{Nap, Nap99, Race, Both, Ask, Pair, Twice, Keys, Read, Effect, Go, Hook, Quorum}
use Rattle.script_lines.specs.Word.{handler_word}
use Rattle.durable_script.specs.Run.{named_function}

named : (alloc : Global) (name : HandlerName) → (handler : BuiltIn) × (built_in alloc (handler_word name) ≡ Some handler) × (function_of handler ≡ named_function name)
unfolding built_in
named alloc Nap = (_, refl, refl)
named alloc Nap99 = (_, refl, refl)
named alloc Race = (_, refl, refl)
named alloc Both = (_, refl, refl)
named alloc Ask = (_, refl, refl)
named alloc Pair = (_, refl, refl)
named alloc Twice = (_, refl, refl)
named alloc Keys = (_, refl, refl)
named alloc Read = (_, refl, refl)
named alloc Effect = (_, refl, refl)
named alloc Go = (_, refl, refl)
named alloc Hook = (_, refl, refl)
named alloc Quorum = (_, refl, refl)

pub is_there : (alloc : Global) (name : HandlerName) → IsSome (built_in alloc (handler_word name))
is_there alloc name = subst IsSome (sym (named alloc name).1) refl

pub names_function : (alloc : Global) (name : HandlerName) (handler : BuiltIn) → built_in alloc (handler_word name) ≡ Some handler → function_of handler ≡ named_function name
names_function alloc name handler is =
    let it = named alloc name in
    ap function_of (same_Some handler it.0 (sym is ∙ it.1)) ∙ it.2
