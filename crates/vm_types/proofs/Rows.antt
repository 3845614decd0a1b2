-- Worked rows: a read that is answered twice before it is taken, an answer that nobody waits for, and one that is known at once.
use Rattle.std.proofs.Common.{◌≡◌, refl, List, [], ◌∷◌, Some, None}
use Rattle.journal_model.specs.declared.value.Value.{Value}
use Rattle.vm_types.specs.Reads.{EphemeralReads, no_reads, asked, known, answer_of, after_answer, reads_after_take, least_of}

-- the first read is asked for
in_flight : asked no_reads ≡ record { next = 2; in_flight = 1 ∷ []; ready = [] }
in_flight = refl

-- its answer is `1`
answered : after_answer 1 (Value.Success (49 ∷ [])) (asked no_reads) ≡ record { next = 2; in_flight = []; ready = (1, Value.Success (49 ∷ [])) ∷ [] }
answered = refl

-- another answer before it was taken stands in its place
replaced : after_answer 1 Value.Void (after_answer 1 (Value.Success (49 ∷ [])) (asked no_reads)) ≡ record { next = 2; in_flight = []; ready = (1, Value.Void) ∷ [] }
replaced = refl

-- a second take finds nothing
taken : reads_after_take 1 (after_answer 1 (Value.Success (49 ∷ [])) (asked no_reads)) ≡ record { next = 2; in_flight = []; ready = [] }
taken = refl

taken_twice : answer_of (reads_after_take 1 (after_answer 1 (Value.Success (49 ∷ [])) (asked no_reads))) 1 ≡ None
taken_twice = refl

-- no read has the number 7
ignored : after_answer 7 Value.Void (asked no_reads) ≡ asked no_reads
ignored = refl

-- the second is answered first, and then the first: the least can be taken
least : least_of (after_answer 1 Value.Void (after_answer 2 Value.Void (asked (asked no_reads)))) ≡ Some (record { number = 1 })
least = refl

-- what is known can be taken while another is in flight
known_first : least_of (known Value.Void (asked no_reads)) ≡ Some (record { number = 2 })
known_first = refl
