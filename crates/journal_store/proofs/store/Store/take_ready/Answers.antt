use Rattle.std.proofs.Common.{refl, inl, inr}
use Rattle.journal_store.proofs.store.Store.take_ready.Goals as goal

pub returns-in-Ok : goal.returns-in-Ok
returns-in-Ok g c = inl (record { replies = refl; ends = refl; wrote = c.in-Ok.ensures.made; left = c.in-Ok.ensures.left })

pub returns-in-Err : goal.returns-in-Err
returns-in-Err g c =
    inr (record { replies = c.none_taken.ensures.replies; ends = c.none_taken.ensures.going; live = c.in-Err.ensures.stays; kept = c.in-Err.ensures.made.undone; crash = c.in-Err.ensures.made.crash })
