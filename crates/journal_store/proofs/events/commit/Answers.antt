-- The cause is looked for alone, so that a body that tells another one leaves a goal open.
use Rattle.std.proofs.Common.{rules, refl}
use Rattle.journal_store.proofs.events.commit.Goals as goal

pub returns-in-Err : goal.returns-in-Err
returns-in-Err g c = record {
  done = λ clean. tt;
  lasts = λ clean. tt;
  undone = c.in-Err.ensures.undone;
  why = record {
    circumstance = refl;
    store = λ cause is. c.is_settled-settled.ensures.store;
    cause = λ clean cause is. search rules;
  };
  crash = c.commit_all.ensures.crash;
}
