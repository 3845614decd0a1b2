-- A text that is written behind another.
use Rattle.std.proofs.Common.{List, ℕ, ◌++◌}
use Rattle.std.proofs.Output.{has_written_append}
use Rattle.std.specs.Fmt.{HasWritten, IsPlainFormatter}
use Rattle.std.specs.declared.fmt.Formatter.{Formatter}

pub behind : {W : Type 0} {took : W → List ℕ → W → Type 0} {f g h : Formatter W} {a b : List ℕ} → HasWritten took f a g → (IsPlainFormatter g → HasWritten took g b h) → HasWritten took f (a ++ b) h
behind {took = took} {f = f} {g = g} {h = h} {a = a} {b = b} one two = has_written_append took f a g b h one (two one.plain)
