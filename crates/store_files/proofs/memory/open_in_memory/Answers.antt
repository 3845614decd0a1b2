use Rattle.std.proofs.Common.{refl}
use Rattle.sqlite.specs.Files.{file_state}
use Rattle.store_files.proofs.Made.{never_in_doubt, only_circumstances, refused_unmade, unmade_by}
use Rattle.store_files.proofs.memory.open_in_memory.Goals as goal

pub returns-in-Ok-clause-none : goal.returns-in-Ok-clause-none
returns-in-Ok-clause-none c = c.in-Ok.ensures.fresh (never_in_doubt c.in-Ok.store.connection.store (λ disk. refl)) c.in_ok-connection.ensures.ok.none

pub returns-in-Ok-clause-clean : goal.returns-in-Ok-clause-clean
returns-in-Ok-clause-clean c = never_in_doubt c.in-Ok.store.connection.store (λ disk. refl)

pub returns-in-Err-clause-err : goal.returns-in-Err-clause-err
returns-in-Err-clause-err c = only_circumstances _ _ c.in_ok-connection.ensures.ok (c.in-Err.ensures.why (never_in_doubt c.in-Err.left.connection.store (λ disk. refl)))

pub returns-in_err-connection-clause-cause : goal.returns-in_err-connection-clause-cause
returns-in_err-connection-clause-cause c = unmade_by _ c.from_residual.result c.from_residual.ensures.1 c.in_err-connection.ensures.cause

pub returns-in-Err-clause-cause : goal.returns-in-Err-clause-cause
returns-in-Err-clause-cause c =
    refused_unmade (file_state c.in_ok-connection.connection) (file_state c.in-Err.left.connection) _ c.in_ok-connection.ensures.ok.unlimited
    (never_in_doubt c.in-Err.left.connection.store (λ disk. refl)) c.in-Err.ensures.cause
