use Rattle.std.proofs.Common.{◌++◌, ◌∙◌, sym, ap, subst, List, length}
use Rattle.std.specs.Vec.Iter.{into_iter_items, into_iter_len}
use Rattle.journal_model.specs.Notification.{Bytes}
use Rattle.protocol_records.specs.declared.start.StateEntry.{StateEntry}
use Rattle.vm_start.specs.Starts.{pairs_of, AreText, FirstNotText}
use Rattle.vm_start.proofs.Pairs.{one_less, pairs_left, text_left, first_left}
use Rattle.vm_start.proofs.start.text_pairs.Goals as goal

pub loop-entry-init : goal.loop-entry-init
loop-entry-init c =
    let h = c.into_iter-entry-iterator.ensures.into_iter_gives in
    record {
      sized = h.1 ∙ c.args.entries.ok.0 ∙ sym (ap (λ (es : List StateEntry). length es) h.0);
      left = ap (λ (ps : List (Bytes × Bytes)). ps ++ pairs_of (into_iter_items c.into_iter-entry-iterator.result)) c.new-pairs.ensures.items ∙ ap (λ (es : List StateEntry). pairs_of es) h.0;
      text = λ text. subst AreText h.0 text;
      first = λ error first. subst (λ (es : List StateEntry). FirstNotText es error) h.0 first;
    }

pub loop-entry-preserved : goal.loop-entry-preserved
loop-entry-preserved c =
    let inv = c.loop-entry.invariant in
    let left = into_iter_items c.loop-entry.entry-iterator in
    let rest = into_iter_items c.next.new.self in
    let steps = c.in-Some.ensures.steps in
    record {
      sized = one_less left rest c.in-Some.entry (into_iter_len c.loop-entry.entry-iterator) (into_iter_len c.next.new.self) inv.sized steps.0 steps.1;
      left = pairs_left c.loop-entry.pairs.items c.push_pair.new.pairs.items c.in-Some.entry left rest (pairs_of c.args.entries.items) inv.left steps.0 c.in_ok-push_pair.ensures.ok;
      text = text_left left rest c.in-Some.entry (AreText c.args.entries.items) inv.text steps.0 c.in_ok-push_pair.ensures.text;
      first = first_left left rest c.in-Some.entry (FirstNotText c.args.entries.items) inv.first steps.0 c.in_ok-push_pair.ensures.text;
    }
