-- Records that were asked for in an order.
use Rattle.std.specs.Prelude.{◌≡◌, ℕ, pos, Bool, false, List, Option, filter, map}
use Rattle.std.specs.declared.cmp.Ordering.{Ordering}
use Rattle.std.specs.Int.{w64, cast_signed}
use Rattle.std.specs.Ordering.{int_cmp, is_eq, nat_cmp, ordering_then}
use Rattle.std.specs.Cmp.Lexicographic.{slice_cmp}
use Rattle.std.specs.List.Sorted.{IsPermutation}
use Rattle.sqlite_trees.specs.Tree.{Trees, IsAscending}
use Rattle.sqlite_keyed.specs.Lists.{sort_by}
use Rattle.sql_tables.specs.Statements.{IsFirst}
use Rattle.store_tables.specs.Records.{IdRow, Records, Holds, InvocationRow, SleepRow, ends_by, ends_from, id_row}
use Rattle.store_tables.specs.Questions.{DoAscend, is_awake, is_named_after}

-- the records that pass, by ascending keys, are these, whatever records the tables have
abbrev pub IsArranged : {X : Type 0} → (Records → List X) → (X → Bool) → (X → List ℕ) → Trees → List X → Type 0
IsArranged {X} records test key db found =
    (r : Records) → Holds db r → (xs : List X) → IsPermutation (filter test (records r)) xs → DoAscend key xs → found ≡ xs

-- the ids of what may go on, by ascending ids, are these, whatever records the tables have
abbrev pub AreArrangedIds : Trees → List IdRow → Type 0
AreArrangedIds db found =
    (r : Records) → Holds db r → (xs : List InvocationRow) → IsPermutation (filter is_awake r.invocations) xs → DoAscend (λ i. i.id) xs → found ≡ map id_row xs

-- the tables have no records of which those that pass have ascending keys in some order
abbrev pub IsUnarranged : {X : Type 0} → (Records → List X) → (X → Bool) → (X → List ℕ) → Trees → Type 0
IsUnarranged {X} records test key db =
    (r : Records) → Holds db r → (xs : List X) → IsPermutation (filter test (records r)) xs → DoAscend key xs → ⊥

-- the order of invocations by their ids alone
abbrev pub id_cmp : InvocationRow → InvocationRow → Ordering
id_cmp a b = slice_cmp nat_cmp a.id b.id

-- the first of the invocations whose ids are above an id, or of all, if there is one, whatever records the tables have
abbrev pub IsNextInvocation : Option (List ℕ) → Trees → Option InvocationRow → Type 0
IsNextInvocation after db found = (r : Records) → Holds db r → IsFirst id_cmp (filter (is_named_after after) r.invocations) found

-- the order of sleeps: by invocation, of one invocation by moment, and of one moment by completion
abbrev pub sleep_cmp : SleepRow → SleepRow → Ordering
sleep_cmp a b =
    ordering_then (slice_cmp nat_cmp a.invocation b.invocation)
    (ordering_then (int_cmp (cast_signed w64 a.moment) (cast_signed w64 b.moment)) (int_cmp (pos a.completion) (pos b.completion)))

-- no two of them are alike
abbrev pub AreApart : List SleepRow → Type 0
AreApart = IsAscending (λ a b. is_eq (sleep_cmp a b) ≡ false)

-- the sleeps that end by a moment are these in that order, whatever records the tables have
abbrev pub AreDue : ℕ → Trees → List SleepRow → Type 0
AreDue moment db found = (r : Records) → Holds db r → AreApart (filter (ends_by moment) r.sleeps) → found ≡ sort_by sleep_cmp (filter (ends_by moment) r.sleeps)

-- the tables have no records of which no two such sleeps are alike
abbrev pub AreAlike : ℕ → Trees → Type 0
AreAlike moment db = (r : Records) → Holds db r → AreApart (filter (ends_by moment) r.sleeps) → ⊥

-- the order of sleeps by their moments alone
abbrev pub moment_cmp : SleepRow → SleepRow → Ordering
moment_cmp a b = int_cmp (cast_signed w64 a.moment) (cast_signed w64 b.moment)

-- the first sleep that ends at that moment or after it, if there is one, whatever records the tables have
abbrev pub IsFirstSleep : ℕ → Trees → Option SleepRow → Type 0
IsFirstSleep moment db found = (r : Records) → Holds db r → IsFirst moment_cmp (filter (ends_from moment) r.sleeps) found
