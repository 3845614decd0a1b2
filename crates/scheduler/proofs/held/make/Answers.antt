use Rattle.std.proofs.Common.{◌≡◌, false, subst, IfSome, Option, Some, None}
use Rattle.journal_model.specs.Notification.{Bytes}
use Rattle.protocol_types.specs.declared.version.Version.{Version}
use Rattle.vm_types.specs.declared.options.VMOptions.{VMOptions}
use Rattle.schedule_model.specs.Attempts.{Attempt, has_stopped, IsMadeAndFed}
use Rattle.scheduler.proofs.held.make.Goals as goal

-- what goes on is what was fed
fed_on : {H : Type 0} (version : Version) (options : VMOptions) (handler : H) (start : Bytes) (fed : Attempt H) (result : Option (Attempt H))
    → IfSome result (λ going. (going ≡ fed) × (has_stopped going.vm.state.phase ≡ false)) → IsMadeAndFed version options handler start fed
    → IfSome result (IsMadeAndFed version options handler start)
fed_on version options handler start fed None going made = tt
fed_on version options handler start fed (Some one) going made = subst (IsMadeAndFed version options handler start) (turned one fed going.0) made
  where
    turned : {A : Type 0} (a b : A) → a ≡ b → b ≡ a
    turned a b e = cc

pub returns-in-Ok-clause-fed : goal.returns-in-Ok-clause-fed
returns-in-Ok-clause-fed g c =
    fed_on c.args.version c.args.options c.args.handler c.args.start c.feed.new.self c.going.result c.going.ensures
    (record { made = c.in-Ok.made; begun = c.in-Ok.ensures; fed = c.feed.ensures })
