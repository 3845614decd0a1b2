use Rattle.std.proofs.Common.{refl}
use Rattle.store_files.proofs.Made.{never_in_doubt}
use Rattle.store_files.proofs.memory.memory_stays_clean.Goals as goal

pub returns : goal.returns
returns c = record { clean = never_in_doubt c.args.store.now.connection.store (λ disk. refl) }
