-- What the replies tell, one behind another.
use Rattle.std.proofs.Common.{◌≡◌, refl, subst, List, [], ◌∷◌, ◌++◌}
use Rattle.sqlite_trees.specs.declared.store.Store.{Ghosts}
use Rattle.journal_model.specs.Run.{Handler}
use Rattle.vm_types.specs.declared.options.VMOptions.{VMOptions}
use Rattle.journal_store.specs.StoreView.{Stored}
use Rattle.schedule_laws.specs.Schedules.{Event, Reply}
use Rattle.scheduler.specs.declared.scheduler.Scheduler.{Scheduler}
use Rattle.durable_schedule.specs.Causes.{AreTold, IsTold, TellsCauses}

module _ {H S : Type 0} (g : Ghosts S) (function : H → Handler) (options : VMOptions) where
  told_on : (events : List (Event H)) (replies : List Reply) (one : Event H) (answer : Reply) (a b c : Scheduler H S) → AreTold g function options events replies a b → IsTold g function options one answer b c
      → AreTold g function options (events ++ one ∷ []) (replies ++ answer ∷ []) a c
  told_on [] [] one answer a b c same last = (c, subst (λ (s : Scheduler H S). IsTold g function options one answer s c) same last, refl)
  told_on (first ∷ events) (reply ∷ replies) one answer a b c (between, told, more) last = (between, told, told_on events replies one answer between b c more last)
  told_on [] (reply ∷ replies) one answer a b c none last = absurd none
  told_on (first ∷ events) [] one answer a b c none last = absurd none

  -- one more event behind others
  pub causes_on : (events : List (Event H)) (replies : List Reply) (one : Event H) (answer : Reply) (store : Stored S) (b c : Scheduler H S) → TellsCauses g function options events replies store b
      → IsTold g function options one answer b c → TellsCauses g function options (events ++ one ∷ []) (replies ++ answer ∷ []) store c
  causes_on events replies one answer store b c tells last = record {
    first = tells.first;
    over = tells.over;
    held = tells.held;
    told = told_on events replies one answer tells.first b c tells.told last;
  }
