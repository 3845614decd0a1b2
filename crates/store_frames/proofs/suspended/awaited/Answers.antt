use Rattle.std.proofs.Common.{ℕ, ◌∙◌, sym, ap}
use Rattle.protocol_types.specs.declared.feature.Feature.TheVariants.{AwaitTree}
use Rattle.protocol_types.specs.Feature.{lacks_feature}
use Rattle.store_frames.proofs.Suspensions.{tells_lists, tells_tree}
use Rattle.protocol_types.specs.Version.{version_number}
use Rattle.store_frames.proofs.suspended.awaited.Goals as goal

pub returns-then-is_later_than : goal.returns-then-is_later_than
returns-then-is_later_than c = λ suspension read keeps.
    c.read_lists.ensures suspension (tells_lists (version_number c.args.version) suspension c.args.payload.now read keeps (sym (c.is_later_than.ensures ∙ ap (λ (number : ℕ). lacks_feature number AwaitTree) c.number.ensures) ∙ c.if-is_later_than.true))

pub returns-else-is_later_than : goal.returns-else-is_later_than
returns-else-is_later_than c = λ suspension read keeps.
    c.read_tree.ensures suspension (tells_tree (version_number c.args.version) suspension c.args.payload.now read keeps (sym (c.is_later_than.ensures ∙ ap (λ (number : ℕ). lacks_feature number AwaitTree) c.number.ensures) ∙ c.if-is_later_than.false))
