-- Each call has fewer keys.
use Rattle.std.proofs.Common.{length}
use Rattle.built_in_handlers.proofs.script.+join_keys.Given as goal

abbrev pub decreases-join_keys : goal.decreases-join_keys
decreases-join_keys l = length l.keys.now
