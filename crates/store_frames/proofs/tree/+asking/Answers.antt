-- By its combinator, or by one of those in it.
use Rattle.std.proofs.Common.{◌≡◌, ◌∙◌, ap, sym, Bool, ◌||◌, List}
use Rattle.std.specs.List.{list_any}
use Rattle.journal_model.specs.AwaitTree.{has_number}
use Rattle.protocol_records.specs.declared.future.Future.{Future, out-Future}
use Rattle.protocol_trees.specs.Future.{future_tree}
use Rattle.store_frames.proofs.Trees.{number_asked}
use Rattle.store_frames.proofs.tree.+asking.Goals as goal

abbrev below : List Future → Bool
below nested = list_any (λ one. has_number (future_tree one)) nested

pub has_number-returns-then-asks_number : goal.has_number-returns-then-asks_number
has_number-returns-then-asks_number t c =
    let o = out-Future c.args.one.now in
    c.if-asks_number.true ∙ sym (number_asked c.args.one.now ∙ ap (λ b. b || below o.nested_futures) (sym (c.asks_number.ensures o.required) ∙ c.if-asks_number.true))

pub has_number-returns-else-asks_number : goal.has_number-returns-else-asks_number
has_number-returns-else-asks_number t c =
    let o = out-Future c.args.one.now in
    c.some_has_number.ensures ∙ ap below c.as_slice.ensures
    ∙ sym (number_asked c.args.one.now ∙ ap (λ b. b || below o.nested_futures) (sym (c.asks_number.ensures o.required) ∙ c.if-asks_number.false))
