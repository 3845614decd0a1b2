use Rattle.std.proofs.Common.{◌≡◌, refl, ap, length, List, [], ◌∷◌, ◌++◌, sym, subst, ◌∙◌, arith, length-append}
use Rattle.std.specs.List.{AllByRecursion}
use Rattle.journal_store.specs.StoreView.{Stored}
use Rattle.vm_types.specs.declared.options.VMOptions.{VMOptions}
use Rattle.schedule_laws.specs.Schedules.{Event, Reply, FitsEvent}
use Rattle.journal_store.specs.StoreStanding.{Endures}
use Rattle.scheduler.specs.SchedulerCalls.{AppliesWith}
use Rattle.durable_schedule.specs.Runs.{AppliesFirst}
use Rattle.journal_store.proofs.Enduring.{same_endures}
use Rattle.durable_schedule.proofs.Running.{LeadsFirst, all_kept, all_left, all_written, each_more, one_endures}
use Rattle.durable_schedule.proofs.Written.{LeavesAnswered, answered_endures, none_left, one_left}
use Rattle.scheduler.proofs.DueAttempts.{all_yielded}
use Rattle.durable_schedule.proofs.Settling.{AppliesOne, SettlesOne, one_leads, none_leads}
use Rattle.durable_schedule.specs.Causes.{TellsCauses}
use Rattle.durable_schedule.proofs.Causing.{causes_on}
use Rattle.durable_schedule.proofs.run_schedule.Goals as goal

pub loop-event-preserved : goal.loop-event-preserved
loop-event-preserved g c =
    let inv = c.loop-event.invariant in
    let old = c.loop-event.scheduler in
    let new = c.apply.new.self in
    let yielded = c.loop-event.yielded in
    let one = c.in-Some.event in
    let leads =
    one_leads g.H.Handler.next_call c.args.options g.S.Store yielded c.loop-event.replies.items one c.apply.result c.args.store old new
    (λ clean. omega (arith, c.apply.ensures.crash.clean, clean)) inv.applies
    (subst (λ (o : VMOptions). AppliesOne g.H.Handler.next_call o g.S.Store one c.apply.result old new) inv.options c.apply.ensures.does)
    (subst (λ (o : VMOptions). SettlesOne g.H.Handler.next_call o g.S.Store one c.apply.result old new) inv.options c.apply.ensures.settled) c.apply.ensures.spares
    (subst (λ (o : VMOptions). Endures g.S.Store (AppliesWith g.H.Handler.next_call o one old.held) old.store new.store) inv.options c.apply.ensures.crash) in
    record {
      applies = subst (λ (rs : List Reply). LeadsFirst g.H.Handler.next_call c.args.options g.S.Store (yielded ++ one ∷ []) rs c.args.store new) (sym c.put.ensures.items) leads;
      written = subst (λ (rs : List Reply). LeavesAnswered g.H.Handler.next_call c.args.options g.S.Store (yielded ++ one ∷ []) rs c.args.store new.store) (sym c.put.ensures.items)
          (one_left g.H.Handler.next_call c.args.options g.S.Store yielded c.loop-event.replies.items one c.apply.result c.args.store old new (λ clean. omega (arith, c.apply.ensures.crash.clean, clean)) inv.applies leads
          inv.written (subst (λ (o : VMOptions). Endures g.S.Store (AppliesWith g.H.Handler.next_call o one old.held) old.store new.store) inv.options c.apply.ensures.crash)
          (subst (λ (o : VMOptions). SettlesOne g.H.Handler.next_call o g.S.Store one c.apply.result old new) inv.options c.apply.ensures.settled));
      causes = subst (λ (rs : List Reply). TellsCauses g.S.Store g.H.Handler.next_call c.args.options (yielded ++ one ∷ []) rs c.args.store new) (sym c.put.ensures.items)
          (causes_on g.S.Store g.H.Handler.next_call c.args.options yielded c.loop-event.replies.items one c.apply.result c.args.store old new inv.causes (record {
            does = subst (λ (o : VMOptions). AppliesOne g.H.Handler.next_call o g.S.Store one c.apply.result old new) inv.options c.apply.ensures.does;
            cause = c.apply.ensures.cause;
            crash = subst (λ (o : VMOptions). Endures g.S.Store (AppliesWith g.H.Handler.next_call o one old.held) old.store new.store) inv.options c.apply.ensures.crash;
          }));
      fits = each_more FitsEvent yielded one inv.fits c.apply.ensures.fits;
      crash = one_endures g.H.Handler.next_call c.args.options g.S.Store yielded c.loop-event.replies.items one c.args.store old new inv.applies inv.crash
          (subst (λ (o : VMOptions). Endures g.S.Store (AppliesWith g.H.Handler.next_call o one old.held) old.store new.store) inv.options c.apply.ensures.crash);
      options = c.apply.ensures.options ∙ inv.options;
      count = omega (arith, c.put.ensures.len, inv.count, length-append yielded (one ∷ []));
      room = omega (arith, inv.room, c.put.ensures.capacity);
    }

pub loop-event-init : goal.loop-event-init
loop-event-init g c =
    let first = c.new-scheduler.result in
    let same : c.args.store ≡ first.store = sym c.new-scheduler.ensures.store in
    record {
      applies = subst (λ (rs : List Reply). LeadsFirst g.H.Handler.next_call c.args.options g.S.Store [] rs c.args.store first) (sym c.in-Ok.ensures.items)
          (none_leads g.H.Handler.next_call c.args.options g.S.Store c.args.store first same (sym c.new-scheduler.ensures.held));
      written = subst (λ (rs : List Reply). LeavesAnswered g.H.Handler.next_call c.args.options g.S.Store [] rs c.args.store first.store) (sym c.in-Ok.ensures.items)
          (subst (λ (store : Stored g.row.S.Denot). LeavesAnswered g.H.Handler.next_call c.args.options g.S.Store [] [] c.args.store store) same
          (none_left g.H.Handler.next_call c.args.options g.S.Store c.args.store));
      causes = subst (λ (rs : List Reply). TellsCauses g.S.Store g.H.Handler.next_call c.args.options [] rs c.args.store first) (sym c.in-Ok.ensures.items)
          (record { first = first; over = sym same; held = c.new-scheduler.ensures.held; told = refl });
      fits = tt;
      crash = subst (λ (store : Stored g.row.S.Denot). Endures g.S.Store (AppliesFirst g.H.Handler.next_call c.args.options []) c.args.store store) same
          (same_endures g.S.Store (AppliesFirst g.H.Handler.next_call c.args.options []) c.args.store);
      options = c.new-scheduler.ensures.options;
      count = c.in-Ok.ensures.len;
      room = omega (arith, c.in-Ok.ensures.capacity, c.len.ensures, c.args.events.ok.0);
    }

pub returns-clause-applies : goal.returns-clause-applies
returns-clause-applies g c clean s is =
    let h = c.into_iter-event-iterator.ensures.into_iter_gives in
    let all = all_yielded c.into_iter-event-iterator.result c.args.events.items h.0 (h.1 ∙ c.args.events.ok.0) c.loop-event.yielded c.loop-event.event-iterator c.loop-event.yielded_by c.next.result c.next.new.self c.in-None.is c.next.ensures.steps in
    let function = g.H.Handler.next_call in
    let leads = subst (λ (es : List (Event g.row.H.Denot)). LeadsFirst function c.args.options g.S.Store es c.loop-event.replies.items c.args.store c.loop-event.scheduler) all c.loop-event.invariant.applies in
    let it = leads clean s is in (
      it.0,
      it.1,
      it.2,
      all_left function c.args.options c.schedules_leave.ensures c.records_of_runs.ensures.headline c.records_of_runs.ensures.closed c.records_of_runs.ensures.never_late c.records_of_runs.ensures.wakes_exactly c.frames_are_taken.ensures
          c.invocations_stand_alone.ensures.stand c.invocations_stand_alone.ensures.state c.invocations_stand_alone.ensures.answer c.schedules_keep.ensures.begins_told c.schedules_keep.ensures.told c.args.events.items c.loop-event.replies.items s it.0 (subst (λ (es : List (Event g.row.H.Denot)). AllByRecursion FitsEvent es) all c.loop-event.invariant.fits) it.2,
      it.3,
    )

pub returns-clause-causes : goal.returns-clause-causes
returns-clause-causes g c =
    let h = c.into_iter-event-iterator.ensures.into_iter_gives in
    let all = all_yielded c.into_iter-event-iterator.result c.args.events.items h.0 (h.1 ∙ c.args.events.ok.0) c.loop-event.yielded c.loop-event.event-iterator c.loop-event.yielded_by c.next.result c.next.new.self c.in-None.is c.next.ensures.steps in
    subst (λ (es : List (Event g.row.H.Denot)). TellsCauses g.S.Store g.H.Handler.next_call c.args.options es c.loop-event.replies.items c.args.store c.loop-event.scheduler) all c.loop-event.invariant.causes

pub returns-clause-fits : goal.returns-clause-fits
returns-clause-fits g c =
    let h = c.into_iter-event-iterator.ensures.into_iter_gives in
    let all = all_yielded c.into_iter-event-iterator.result c.args.events.items h.0 (h.1 ∙ c.args.events.ok.0) c.loop-event.yielded c.loop-event.event-iterator c.loop-event.yielded_by c.next.result c.next.new.self c.in-None.is c.next.ensures.steps in
    subst (λ (es : List (Event g.row.H.Denot)). AllByRecursion FitsEvent es) all c.loop-event.invariant.fits

pub returns-clause-crash : goal.returns-clause-crash
returns-clause-crash g c =
    let h = c.into_iter-event-iterator.ensures.into_iter_gives in
    let all = all_yielded c.into_iter-event-iterator.result c.args.events.items h.0 (h.1 ∙ c.args.events.ok.0) c.loop-event.yielded c.loop-event.event-iterator c.loop-event.yielded_by c.next.result c.next.new.self c.in-None.is c.next.ensures.steps in
    let function = g.H.Handler.next_call in
    all_kept function c.args.options c.schedules_leave.ensures c.records_of_runs.ensures.headline c.records_of_runs.ensures.closed c.records_of_runs.ensures.never_late c.records_of_runs.ensures.wakes_exactly c.frames_are_taken.ensures c.invocations_stand_alone.ensures.stand c.invocations_stand_alone.ensures.state c.invocations_stand_alone.ensures.answer c.schedules_keep.ensures.begins_told c.schedules_keep.ensures.told
    g.S.Store c.args.events.items c.loop-event.replies.items (subst (λ (es : List (Event g.row.H.Denot)). AllByRecursion FitsEvent es) all c.loop-event.invariant.fits) c.args.store c.loop-event.scheduler.store
    (answered_endures function c.args.options g.S.Store c.args.events.items c.loop-event.replies.items c.args.store c.loop-event.scheduler.store
    (subst (λ (es : List (Event g.row.H.Denot)). Endures g.S.Store (AppliesFirst function c.args.options es) c.args.store c.loop-event.scheduler.store) all c.loop-event.invariant.crash)
    (subst (λ (es : List (Event g.row.H.Denot)). LeavesAnswered function c.args.options g.S.Store es c.loop-event.replies.items c.args.store c.loop-event.scheduler.store) all c.loop-event.invariant.written))

pub returns-clause-written : goal.returns-clause-written
returns-clause-written g c =
    let h = c.into_iter-event-iterator.ensures.into_iter_gives in
    let all = all_yielded c.into_iter-event-iterator.result c.args.events.items h.0 (h.1 ∙ c.args.events.ok.0) c.loop-event.yielded c.loop-event.event-iterator c.loop-event.yielded_by c.next.result c.next.new.self c.in-None.is c.next.ensures.steps in
    let function = g.H.Handler.next_call in
    all_written function c.args.options c.schedules_leave.ensures c.records_of_runs.ensures.headline c.records_of_runs.ensures.closed c.records_of_runs.ensures.never_late c.records_of_runs.ensures.wakes_exactly c.frames_are_taken.ensures c.invocations_stand_alone.ensures.stand c.invocations_stand_alone.ensures.state c.invocations_stand_alone.ensures.answer c.schedules_keep.ensures.begins_told c.schedules_keep.ensures.told
    g.S.Store c.args.events.items c.loop-event.replies.items (subst (λ (es : List (Event g.row.H.Denot)). AllByRecursion FitsEvent es) all c.loop-event.invariant.fits) c.args.store c.loop-event.scheduler.store
    (subst (λ (es : List (Event g.row.H.Denot)). LeavesAnswered function c.args.options g.S.Store es c.loop-event.replies.items c.args.store c.loop-event.scheduler.store) all c.loop-event.invariant.written)

pub returns-clause-count : goal.returns-clause-count
returns-clause-count g c =
    let h = c.into_iter-event-iterator.ensures.into_iter_gives in
    let all = all_yielded c.into_iter-event-iterator.result c.args.events.items h.0 (h.1 ∙ c.args.events.ok.0) c.loop-event.yielded c.loop-event.event-iterator c.loop-event.yielded_by c.next.result c.next.new.self c.in-None.is c.next.ensures.steps in
    omega (arith, c.loop-event.invariant.count, c.loop-event.replies.ok.0, ap (λ (es : List (Event g.row.H.Denot)). length es) all)
