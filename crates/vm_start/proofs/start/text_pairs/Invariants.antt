-- The entries that are left make, with the pairs that were made, all; and what fails of them fails of all.
use Rattle.std.proofs.Common.{◌≡◌, ◌++◌, length}
use Rattle.std.specs.Vec.Iter.{into_iter_items, into_iter_len}
use Rattle.protocol_errors.specs.declared.typed.BadEagerStateKeyError.{BadEagerStateKeyError}
use Rattle.vm_start.specs.Starts.{pairs_of, AreText, FirstNotText}
use Rattle.vm_start.proofs.start.text_pairs.Given as goal

abbrev pub invariant-loop-entry : goal.invariant-loop-entry
invariant-loop-entry l = record {
  sized : into_iter_len l.entry-iterator ≡ length (into_iter_items l.entry-iterator);
  left : l.pairs.items ++ pairs_of (into_iter_items l.entry-iterator) ≡ pairs_of l.fn.entries.items;
  text : AreText (into_iter_items l.entry-iterator) → AreText l.fn.entries.items;
  first : (error : BadEagerStateKeyError) → FirstNotText (into_iter_items l.entry-iterator) error → FirstNotText l.fn.entries.items error;
}
