use Rattle.std.proofs.Common.{◌≢◌, rules}
use Rattle.std.proofs.lemmas.List.Elements.{All-more}
use Rattle.store_server.proofs.reading.open_len.Goals as goal

pub loop-at-preserved : goal.loop-at-preserved
loop-at-preserved c = (search rules, All-more (λ byte. byte ≢ 10) _ _ 0 (search rules) c.loop-at.invariant.1 (search rules))
