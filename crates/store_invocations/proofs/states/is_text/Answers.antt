use Rattle.std.proofs.Common.{sym, subst}
use Rattle.std.specs.Str.{IsUtf8}
use Rattle.std.proofs.lemmas.Str.{is_utf8-from_IsUtf8}
use Rattle.store_frames.proofs.TextLemmas.{no_text}
use Rattle.store_invocations.proofs.states.is_text.Goals as goal

pub returns-in-Ok : goal.returns-in-Ok
returns-in-Ok c = sym (is_utf8-from_IsUtf8 c.args.key.now (subst IsUtf8 c.as_slice.ensures c.in-Ok.ensures.cases.1))

pub returns-in-Err : goal.returns-in-Err
returns-in-Err c = sym (no_text c.args.key.now (λ text. c.in-Err.ensures.cases.0 (subst IsUtf8 (sym c.as_slice.ensures) text)))
