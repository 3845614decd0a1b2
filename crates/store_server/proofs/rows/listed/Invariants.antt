use Rattle.std.proofs.Common.{◌≡◌}
use Rattle.store_server.specs.StoreChanges.{CommitsNothing, ReachesStore}
use Rattle.store_server.specs.RequestAnswers.{Shown}
use Rattle.store_server.proofs.ListedRows.{HasListed}
use Rattle.store_server.proofs.rows.listed.Given as goal

abbrev pub invariant-loop-row : goal.invariant-loop-row
invariant-loop-row g l =
    (l.store.live ≡ l.fn.store.live)
    × ReachesStore g.S.Store CommitsNothing (Shown (HasListed l.fn.store.live.attempts l.fn.rows.items l.yielded l.invocations.items)) l.fn.store l.store
