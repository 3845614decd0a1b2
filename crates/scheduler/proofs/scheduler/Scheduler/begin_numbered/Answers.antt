use Rattle.std.proofs.Common.{refl, inl, inr}
use Rattle.scheduler.proofs.scheduler.Scheduler.begin_numbered.Goals as goal

pub returns-in-Err-clause-does : goal.returns-in-Err-clause-does
returns-in-Err-clause-does g c clean s is =
    let it = c.in-Err.ensures.does clean s is in
    (it.0, it.1, inl (it.2, refl {a = c.args.self.now.held}))

pub returns-in-Err-clause-crash : goal.returns-in-Err-clause-crash
returns-in-Err-clause-crash g c = c.begin.ensures.crash

pub returns-in-Err-clause-unheld : goal.returns-in-Err-clause-unheld
returns-in-Err-clause-unheld g c = (refl, c.in-Err.ensures.does)

pub returns-in_default-clause-does : goal.returns-in_default-clause-does
returns-in_default-clause-does g c clean s is =
    let it = c.in-Ok.ensures.does clean s is in
    (it.0, it.1, inr (c.in-Ok.begun, refl, it.2, refl {a = c.args.self.now.held}))

pub returns-in_default-clause-crash : goal.returns-in_default-clause-crash
returns-in_default-clause-crash g c = c.begin.ensures.crash

pub returns-in_default-clause-unheld : goal.returns-in_default-clause-unheld
returns-in_default-clause-unheld g c = (refl, λ clean s is. let it = c.in-Ok.ensures.does clean s is in (it.0, it.1, (c.in-Ok.begun, refl, it.2)))

pub returns-in-Ok-push-clause-settled : goal.returns-in-Ok-push-clause-settled
returns-in-Ok-push-clause-settled g c written clean s is =
    let it = c.in-Ok.ensures.settled clean s is in (
      it.0,
      it.1,
      (
        c.in-Ok.begun,
        refl,
        it.2,
        record { attempt = c.in-Some.attempt; fresh = c.in-Some.ensures.fed; goes_on = c.in-Some.ensures.goes_on; held = c.in-Ok-push.ensures.ok },
      ),
      it.3,
    )

pub returns-in-Ok-push-clause-does : goal.returns-in-Ok-push-clause-does
returns-in-Ok-push-clause-does g c clean s is = let it = returns-in-Ok-push-clause-settled g c tt clean s is in (it.0, it.1, it.2)

pub returns-in-Ok-push-clause-crash : goal.returns-in-Ok-push-clause-crash
returns-in-Ok-push-clause-crash g c = c.begin.ensures.crash

pub returns-in-Err-push-clause-does : goal.returns-in-Err-push-clause-does
returns-in-Err-push-clause-does g c clean s is =
    let it = c.in-Ok.ensures.does clean s is in
    (it.0, it.1, inr (c.in-Ok.begun, refl, it.2, c.in-Err-push.ensures.err))

pub returns-in-Err-push-clause-crash : goal.returns-in-Err-push-clause-crash
returns-in-Err-push-clause-crash g c = c.begin.ensures.crash

pub returns-in-Err-push-clause-unheld : goal.returns-in-Err-push-clause-unheld
returns-in-Err-push-clause-unheld g c =
    (rw c.in-Err-push.ensures.err refl, λ clean s is. let it = c.in-Ok.ensures.does clean s is in (it.0, it.1, (c.in-Ok.begun, refl, it.2)))
