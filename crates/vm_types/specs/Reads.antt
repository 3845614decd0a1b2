-- The ephemeral reads of one attempt by number, and what each call makes of them.
use Rattle.std.specs.Prelude.{ℕ, ◌+◌, Bool, ◌||◌, if◌then◌else◌, List, [], ◌∷◌, Option, Some, None, is_some}
use Rattle.std.specs.List.{list_any}
use Rattle.std.specs.Ordering.{nat_cmp}
use Rattle.std.specs.Map.{lookup, remove_entry}
use Rattle.std.specs.Set.{remove_key}
use Rattle.std.specs.BTreeMap.{insert_entry, is_at}
use Rattle.std.specs.BTreeSet.{insert_key}
use Rattle.journal_model.specs.declared.value.Value.{Value}
use Rattle.vm_types.specs.declared.handles.EphemeralCompletionId.{EphemeralCompletionId}

pub record EphemeralReads : Type 0 where
  -- the number of the next; from 2^32 on none is left
  pub next : ℕ
  -- those that the runtime has still to answer, the least first
  pub in_flight : List ℕ
  -- those whose answer was not taken, with it, the least first
  pub ready : List (ℕ × Value)

abbrev pub no_reads : EphemeralReads
no_reads = record { next = 1; in_flight = []; ready = [] }

-- whether the runtime has still to answer it
abbrev pub is_in_flight : EphemeralReads → ℕ → Bool
is_in_flight reads number = list_any (is_at (nat_cmp number)) reads.in_flight

-- its answer, where it came and was not taken
abbrev pub answer_of : EphemeralReads → ℕ → Option Value
answer_of reads number = lookup (is_at (nat_cmp number)) reads.ready

-- the runtime is asked for one more
abbrev pub asked : EphemeralReads → EphemeralReads
asked reads = record reads { next = reads.next + 1; in_flight = insert_key nat_cmp reads.in_flight reads.next }

-- one more, whose answer is known
abbrev pub known : Value → EphemeralReads → EphemeralReads
known value reads = record reads { next = reads.next + 1; ready = insert_entry nat_cmp reads.ready reads.next value }

-- an answer comes: the last one stands, and one that is not waited for is ignored
abbrev pub after_answer : ℕ → Value → EphemeralReads → EphemeralReads
after_answer number value reads =
    if is_in_flight reads number || is_some (answer_of reads number)
    then record reads { in_flight = remove_key (is_at (nat_cmp number)) reads.in_flight; ready = insert_entry nat_cmp reads.ready number value }
    else reads

-- an answer is taken
abbrev pub reads_after_take : ℕ → EphemeralReads → EphemeralReads
reads_after_take number reads = record reads { ready = remove_entry (is_at (nat_cmp number)) reads.ready }

-- the least whose answer can be taken
abbrev pub first_answered_read : List (ℕ × Value) → Option EphemeralCompletionId
first_answered_read [] = None
first_answered_read (read ∷ reads) = Some (record { number = read.0 })

abbrev pub least_of : EphemeralReads → Option EphemeralCompletionId
least_of reads = first_answered_read reads.ready
