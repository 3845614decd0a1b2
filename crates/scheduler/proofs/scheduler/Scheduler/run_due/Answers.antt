use Rattle.std.proofs.Common.{sym, ◌∙◌, inl, inr, refl}
use Rattle.scheduler.proofs.DueAttempts.{runs_due, runs_none}
use Rattle.scheduler.proofs.scheduler.Scheduler.run_due.Goals as goal

pub returns-in-Some-clause-err : goal.returns-in-Some-clause-err
returns-in-Some-clause-err g c = inl (record { answer = c.tick.result; refused = sym c.refused.ensures ∙ c.in-Some.is; performs = c.tick.ensures })

pub returns-in-Ok-clause-ok : goal.returns-in-Ok-clause-ok
returns-in-Ok-clause-ok g c =
    runs_due g.S.Store g.H.Handler.next_call c.args.now c.args.self.now c.tick.new.self c.due.new.self
    (record { answer = c.tick.result; refused = sym c.refused.ensures ∙ c.in_default.is; performs = c.tick.ensures }) c.in-Ok.ids.items
    (record { told = c.in-Ok.ensures.told; kept = c.due.ensures.kept; cause = tt; quiet = c.due.ensures.crash }) (λ outcomes. outcomes.items) g.W.Effects.executes g.W.Host.gives _ _
    c.go_on_with_each.result refl c.go_on_with_each.ensures.ok

pub returns-in-Ok-clause-err : goal.returns-in-Ok-clause-err
returns-in-Ok-clause-err g c =
    runs_none g.S.Store g.H.Handler.next_call c.args.now c.args.self.now c.tick.new.self c.due.new.self
    (record { answer = c.tick.result; refused = sym c.refused.ensures ∙ c.in_default.is; performs = c.tick.ensures }) c.in-Ok.ids.items
    (record { told = c.in-Ok.ensures.told; kept = c.due.ensures.kept; cause = tt; quiet = c.due.ensures.crash }) c.go_on_with_each.new.self c.go_on_with_each.result c.go_on_with_each.ensures.err

pub returns-in-Err-clause-err : goal.returns-in-Err-clause-err
returns-in-Err-clause-err g c =
    inr (
      c.tick.new.self,
      record { answer = c.tick.result; refused = sym c.refused.ensures ∙ c.in_default.is; performs = c.tick.ensures },
      inl (c.in-Err.refusal, refl, record { told = c.in-Err.ensures.told; kept = c.due.ensures.kept; cause = c.in-Err.ensures.cause; quiet = c.due.ensures.crash }),
    )
