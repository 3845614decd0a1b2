-- The bodies in a table of runs, as runs are put in, started and taken out.
use Rattle.std.proofs.Common.{◌≡◌, refl, sym, ap, ap₂, ◌∙◌, subst, ℕ, ◌+◌, ◌<◌, ◌≤◌, ◌==◌, nat_lt, arith, Bool, true, false, not, ◌&&◌, cond, if◌then◌else◌, List, [], ◌∷◌, ◌++◌, length, Some, None, ◌⊎◌, inl, inr, eqb-true, Less}
use Rattle.std.proofs.lemmas.Bool.{lt-ltb}
use Rattle.std.proofs.lemmas.Cmp.{nat_cmp_total}
use Rattle.std.proofs.lemmas.List.Recursion.{is_sum_by}
use Rattle.std.proofs.lemmas.Map.Keys.{sorted_head, sorted_tail}
use Rattle.std.proofs.lemmas.Map.Entries.{sum_by-remove_entry, sum_by-insert_entry}
use Rattle.std.specs.declared.cmp.Ordering.{Ordering}
use Rattle.std.specs.Ordering.{nat_cmp, match_ordering}
use Rattle.std.specs.List.{AllByRecursion, list_any, sum_by}
use Rattle.std.specs.List.Sorted.{IsStrictlySortedBy}
use Rattle.std.specs.Map.{keys_of, values_of, remove_entry, set_value}
use Rattle.std.specs.BTreeMap.{insert_entry, is_at}
use Rattle.body_laws.specs.Bodies.{Body, is_body, without_body}
use Rattle.body_laws.specs.BodySimulation.{Among}
use Rattle.body_laws.proofs.Lists.{is_body-refl}
use Rattle.vm_runs.specs.declared.run.Run.{Run}
use Rattle.vm_runs.specs.Runs.{Table, run_at, is_so, body_of, bodies_in, weight, weights, weight_at, count_executing, started}
use Rattle.vm_runs.specs.KeptBodies.{times}
use Rattle.vm_runs.proofs.Ordered.{at-same, at-own, at-not, less, greater}

-- the handles ascend
abbrev pub Sorted : Table → Type 0
Sorted table = IsStrictlySortedBy nat_cmp (keys_of table)

abbrev pub AllAbove : ℕ → Table → Type 0
AllAbove k [] = Unit {0}
AllAbove k (entry ∷ entries) = (k < entry.0) × AllAbove k entries

abbrev pub Ascends : Table → Type 0
Ascends [] = Unit {0}
Ascends (entry ∷ entries) = AllAbove entry.0 entries × Ascends entries

all-above : (k : ℕ) (table : Table) → AllByRecursion (λ q. nat_cmp k q ≡ Less) (keys_of table) → AllAbove k table
all-above k [] all = tt
all-above k (entry ∷ entries) all = (less k entry.0 all.0, all-above k entries all.1)

pub ascends : (table : Table) → Sorted table → Ascends table
ascends [] sorted = tt
ascends (entry ∷ entries) sorted = (all-above entry.0 entries (sorted_head nat_cmp entry.0 (keys_of entries) sorted), ascends entries (sorted_tail nat_cmp entry.0 (keys_of entries) sorted))

abbrev pub running : Run → Run
running run = record run { is_executing = true }

pub absent : (k handle : ℕ) (table : Table) → AllAbove k table → handle ≤ k → run_at table handle ≡ None
absent k handle [] above le = refl
absent k handle (entry ∷ entries) above le = by_test (is_at (nat_cmp handle) entry.0) refl (absent k handle entries above.1 le)
  where
    by_test : (b : Bool) → is_at (nat_cmp handle) entry.0 ≡ b → run_at entries handle ≡ None → cond b (Some entry.1) (run_at entries handle) ≡ None
    by_test true e later = let same = at-same handle entry.0 e in absurd (omega (arith, same, above.0, le))
    by_test false e later = later

-- ---- one body

pub other-body : (body : Body) (k : ℕ) (run : Run) → (body.handle ≡ k → ⊥) → is_body body (body_of k run) ≡ false
other-body body k run apart = by_test (body.handle == k) refl
  where
    by_test : (b : Bool) → (body.handle == k) ≡ b → (b && (body.completion == run.completion)) ≡ false
    by_test true e = absurd (apart (eqb-true body.handle k e))
    by_test false e = refl

pub own-body : (handle k : ℕ) (run found : Run) → handle ≡ k → found ≡ run → is_body (body_of handle run) (body_of k found) ≡ true
own-body handle k run found same is = sym (ap₂ (λ (n : ℕ) (r : Run). is_body (body_of handle run) (body_of n r)) same (sym is)) ∙ is_body-refl (body_of handle run)

-- a body with a handle that is too low is not there to be taken out
pub none-out : (executing : Bool) (k : ℕ) (body : Body) (table : Table) → AllAbove k table → body.handle ≤ k → without_body body (bodies_in executing table) ≡ bodies_in executing table
none-out executing k body [] above le = refl
none-out executing k body (entry ∷ entries) above le = by_flag (is_so executing entry.1) (none-out executing k body entries above.1 le)
  where
    apart : body.handle ≡ entry.0 → ⊥
    apart same = omega (arith, same, above.0, le)

    by_flag : (b : Bool) → without_body body (bodies_in executing entries) ≡ bodies_in executing entries
        → without_body body (if b then body_of entry.0 entry.1 ∷ bodies_in executing entries else bodies_in executing entries) ≡ (if b then body_of entry.0 entry.1 ∷ bodies_in executing entries else bodies_in executing entries)
    by_flag true later = rw (other-body body entry.0 entry.1 apart) (ap (λ (rest : List Body). body_of entry.0 entry.1 ∷ rest) later)
    by_flag false later = later

-- ---- a run is taken out

pub taken-out : (executing : Bool) (handle : ℕ) (table : Table) (run : Run) → Ascends table → run_at table handle ≡ Some run
    → bodies_in executing (remove_entry (is_at (nat_cmp handle)) table) ≡ without_body (body_of handle run) (bodies_in executing table)
taken-out executing handle [] run sorted found = cc
taken-out executing handle (entry ∷ entries) run sorted found = by_test (is_at (nat_cmp handle) entry.0) refl found (λ f. taken-out executing handle entries run sorted.1 f)
  where
    body : Body
    body = body_of handle run

    rest : List Body
    rest = bodies_in executing entries

    left : List Body
    left = bodies_in executing (remove_entry (is_at (nat_cmp handle)) entries)

    whole : Bool → List Body
    whole b = if b then body_of entry.0 entry.1 ∷ rest else rest

    by_test : (t : Bool) → is_at (nat_cmp handle) entry.0 ≡ t → cond t (Some entry.1) (run_at entries handle) ≡ Some run
        → (run_at entries handle ≡ Some run → left ≡ without_body body rest)
        → bodies_in executing (cond t entries (entry ∷ remove_entry (is_at (nat_cmp handle)) entries)) ≡ without_body body (whole (is_so executing entry.1))
    by_test true e f later = by_flag (is_so executing entry.1)
      where
        same : handle ≡ entry.0
        same = at-same handle entry.0 e

        by_flag : (b : Bool) → rest ≡ without_body body (whole b)
        by_flag true = let is : entry.1 ≡ run = cc in rw (own-body handle entry.0 run entry.1 same is) refl
        by_flag false = sym (none-out executing entry.0 body entries sorted.0 (omega (arith, same)))
    by_test false e f later = by_flag (is_so executing entry.1)
      where
        by_flag : (b : Bool) → (if b then body_of entry.0 entry.1 ∷ left else left) ≡ without_body body (whole b)
        by_flag true = rw (other-body body entry.0 entry.1 (at-not handle entry.0 e)) (ap (λ (bodies : List Body). body_of entry.0 entry.1 ∷ bodies) (later f))
        by_flag false = later f

-- ---- a run is started

pub started-set : (handle : ℕ) (table : Table) (run : Run) → run_at table handle ≡ Some run → set_value (is_at (nat_cmp handle)) table (running run) ≡ started handle table
started-set handle [] run found = refl
started-set handle (entry ∷ entries) run found = by_test (is_at (nat_cmp handle) entry.0) found (λ f. started-set handle entries run f)
  where
    by_test : (t : Bool) → cond t (Some entry.1) (run_at entries handle) ≡ Some run
        → (run_at entries handle ≡ Some run → set_value (is_at (nat_cmp handle)) entries (running run) ≡ started handle entries)
        → cond t ((entry.0, running run) ∷ entries) (entry ∷ set_value (is_at (nat_cmp handle)) entries (running run)) ≡ (if t then (entry.0, running entry.1) ∷ entries else entry ∷ started handle entries)
    by_test true f later = let is : entry.1 ≡ run = cc in ap (λ (r : Run). (entry.0, running r) ∷ entries) (sym is)
    by_test false f later = ap (λ (rest : Table). entry ∷ rest) (later f)

pub started-none : (handle : ℕ) (table : Table) → run_at table handle ≡ None → started handle table ≡ table
started-none handle [] none = refl
started-none handle (entry ∷ entries) none = by_test (is_at (nat_cmp handle) entry.0) none (λ f. started-none handle entries f)
  where
    by_test : (t : Bool) → cond t (Some entry.1) (run_at entries handle) ≡ None → (run_at entries handle ≡ None → started handle entries ≡ entries)
        → (if t then (entry.0, running entry.1) ∷ entries else entry ∷ started handle entries) ≡ entry ∷ entries
    by_test true f later = cc
    by_test false f later = ap (λ (rest : Table). entry ∷ rest) (later f)

pub started-left : (handle : ℕ) (table : Table) (run : Run) → run_at table handle ≡ Some run → run.is_executing ≡ false
    → bodies_in false (started handle table) ≡ without_body (body_of handle run) (bodies_in false table)
started-left handle [] run found idle = cc
started-left handle (entry ∷ entries) run found idle = by_test (is_at (nat_cmp handle) entry.0) refl found (λ f. started-left handle entries run f idle)
  where
    body : Body
    body = body_of handle run

    rest : List Body
    rest = bodies_in false entries

    whole : Bool → List Body
    whole b = if not b then body_of entry.0 entry.1 ∷ rest else rest

    by_test : (t : Bool) → is_at (nat_cmp handle) entry.0 ≡ t → cond t (Some entry.1) (run_at entries handle) ≡ Some run
        → (run_at entries handle ≡ Some run → bodies_in false (started handle entries) ≡ without_body body rest)
        → bodies_in false (if t then (entry.0, running entry.1) ∷ entries else entry ∷ started handle entries) ≡ without_body body (whole entry.1.is_executing)
    by_test true e f later =
        let is : entry.1 ≡ run = cc in
        let off : entry.1.is_executing ≡ false = ap (λ (r : Run). r.is_executing) is ∙ idle in
        rw (off, own-body handle entry.0 run entry.1 (at-same handle entry.0 e) is) refl
    by_test false e f later = by_flag entry.1.is_executing
      where
        by_flag : (b : Bool) → (if not b then body_of entry.0 entry.1 ∷ bodies_in false (started handle entries) else bodies_in false (started handle entries)) ≡ without_body body (whole b)
        by_flag true = later f
        by_flag false = rw (other-body body entry.0 entry.1 (at-not handle entry.0 e)) (ap (λ (bodies : List Body). body_of entry.0 entry.1 ∷ bodies) (later f))

abbrev pub one_if : Bool → ℕ
one_if b = if b then 1 else 0

pub started-times : (body : Body) (handle : ℕ) (table : Table) (run : Run) → run_at table handle ≡ Some run → run.is_executing ≡ false
    → times body (bodies_in true (started handle table)) ≡ times body (bodies_in true table) + one_if (is_body body (body_of handle run))
started-times body handle [] run found idle = cc
started-times body handle (entry ∷ entries) run found idle = by_test (is_at (nat_cmp handle) entry.0) refl found (λ f. started-times body handle entries run f idle)
  where
    more : ℕ
    more = one_if (is_body body (body_of handle run))

    rest : List Body
    rest = bodies_in true entries

    later-rest : List Body
    later-rest = bodies_in true (started handle entries)

    by_test : (t : Bool) → is_at (nat_cmp handle) entry.0 ≡ t → cond t (Some entry.1) (run_at entries handle) ≡ Some run
        → (run_at entries handle ≡ Some run → times body later-rest ≡ times body rest + more)
        → times body (bodies_in true (if t then (entry.0, running entry.1) ∷ entries else entry ∷ started handle entries)) ≡ times body (if entry.1.is_executing then body_of entry.0 entry.1 ∷ rest else rest) + more
    by_test true e f later =
        let is : entry.1 ≡ run = cc in
        let off : entry.1.is_executing ≡ false = ap (λ (r : Run). r.is_executing) is ∙ idle in
        let same : handle ≡ entry.0 = at-same handle entry.0 e in
        let so : one_if (is_body body (body_of entry.0 entry.1)) ≡ more = ap₂ (λ (n : ℕ) (r : Run). one_if (is_body body (body_of n r))) (sym same) is in
        rw off (omega (arith, so))
    by_test false e f later = by_flag entry.1.is_executing
      where
        by_flag : (b : Bool) → times body (if b then body_of entry.0 entry.1 ∷ later-rest else later-rest) ≡ times body (if b then body_of entry.0 entry.1 ∷ rest else rest) + more
        by_flag true = let h : times body later-rest ≡ times body rest + more = later f in omega (arith, h)
        by_flag false = later f

-- ---- a run is put in behind all others

abbrev pub AllBelow : ℕ → Table → Type 0
AllBelow handle [] = Unit {0}
AllBelow handle (entry ∷ entries) = (entry.0 < handle) × AllBelow handle entries

abbrev pair : ℕ → Run → ℕ × Run
pair handle run = (handle, run)

pub put-last : (handle : ℕ) (run : Run) (table : Table) → AllBelow handle table → insert_entry nat_cmp table handle run ≡ table ++ pair handle run ∷ []
put-last handle run [] below = refl
put-last handle run (entry ∷ entries) below =
    ap (λ (o : Ordering). match_ordering o (pair handle run ∷ entry ∷ entries) (pair entry.0 run ∷ entries) (entry ∷ insert_entry nat_cmp entries handle run)) (greater handle entry.0 below.0)
    ∙ ap (λ (rest : Table). entry ∷ rest) (put-last handle run entries below.1)

pub bodies-last : (executing : Bool) (handle : ℕ) (run : Run) (table : Table)
    → bodies_in executing (table ++ pair handle run ∷ []) ≡ bodies_in executing table ++ (if is_so executing run then body_of handle run ∷ [] else [])
bodies-last executing handle run [] = refl
bodies-last executing handle run (entry ∷ entries) = by_flag (is_so executing entry.1) (bodies-last executing handle run entries)
  where
    more : List Body
    more = if is_so executing run then body_of handle run ∷ [] else []

    by_flag : (b : Bool) → bodies_in executing (entries ++ pair handle run ∷ []) ≡ bodies_in executing entries ++ more
        → (if b then body_of entry.0 entry.1 ∷ bodies_in executing (entries ++ pair handle run ∷ []) else bodies_in executing (entries ++ pair handle run ∷ []))
        ≡ (if b then body_of entry.0 entry.1 ∷ bodies_in executing entries else bodies_in executing entries) ++ more
    by_flag true later = ap (λ (bodies : List Body). body_of entry.0 entry.1 ∷ bodies) later
    by_flag false later = later

-- each run is to be executed, or is being executed
among-later : (executing : Bool) (body : Body) (entry : ℕ × Run) (entries : Table) → Among body (bodies_in executing entries) → Among body (bodies_in executing (entry ∷ entries))
among-later executing body entry entries a = by_flag (is_so executing entry.1)
  where
    by_flag : (b : Bool) → Among body (if b then body_of entry.0 entry.1 ∷ bodies_in executing entries else bodies_in executing entries)
    by_flag true = inr a
    by_flag false = a

abbrev Stands : Body → Table → Type 0
Stands body table = Among body (bodies_in false table) ⊎ Among body (bodies_in true table)

stands-first : (entry : ℕ × Run) (entries : Table) → Stands (body_of entry.0 entry.1) (entry ∷ entries)
stands-first entry entries = by_flag entry.1.is_executing
  where
    by_flag : (b : Bool) → Among (body_of entry.0 entry.1) (if not b then body_of entry.0 entry.1 ∷ bodies_in false entries else bodies_in false entries)
        ⊎ Among (body_of entry.0 entry.1) (if b then body_of entry.0 entry.1 ∷ bodies_in true entries else bodies_in true entries)
    by_flag true = inr (inl refl)
    by_flag false = inl (inl refl)

stands-later : (body : Body) (entry : ℕ × Run) (entries : Table) → Stands body entries → Stands body (entry ∷ entries)
stands-later body entry entries (inl a) = inl (among-later false body entry entries a)
stands-later body entry entries (inr a) = inr (among-later true body entry entries a)

pub all-below : (handle : ℕ) (table : Table) → ((body : Body) → Stands body table → body.handle < handle) → AllBelow handle table
all-below handle [] below = tt
all-below handle (entry ∷ entries) below = (
  below (body_of entry.0 entry.1) (stands-first entry entries),
  all-below handle entries (λ body stands. below body (stands-later body entry entries stands)),
)

pub stands-found : (handle : ℕ) (table : Table) (run : Run) → run_at table handle ≡ Some run → Stands (body_of handle run) table
stands-found handle [] run found = cc
stands-found handle (entry ∷ entries) run found = by_test (is_at (nat_cmp handle) entry.0) refl found (λ f. stands-found handle entries run f)
  where
    by_test : (t : Bool) → is_at (nat_cmp handle) entry.0 ≡ t → cond t (Some entry.1) (run_at entries handle) ≡ Some run
        → (run_at entries handle ≡ Some run → Stands (body_of handle run) entries) → Stands (body_of handle run) (entry ∷ entries)
    by_test true e f later =
        let is : entry.1 ≡ run = cc in
        let same : body_of entry.0 entry.1 ≡ body_of handle run = ap₂ (λ (n : ℕ) (r : Run). body_of n r) (sym (at-same handle entry.0 e)) is in
        subst (λ (body : Body). Stands body (entry ∷ entries)) same (stands-first entry entries)
    by_test false e f later = stands-later (body_of handle run) entry entries (later f)

-- and a body is that of the run of its handle
pub run-of : (executing : Bool) (table : Table) (body : Body) → Ascends table → Among body (bodies_in executing table) → (run : Run) × (run_at table body.handle ≡ Some run) × (body ≡ body_of body.handle run)
run-of executing [] body sorted a = absurd a
run-of executing (entry ∷ entries) body sorted a = by_flag (is_so executing entry.1) a (λ a. run-of executing entries body sorted.1 a)
  where
    by_at : (b : Bool) → is_at (nat_cmp body.handle) entry.0 ≡ b → (run : Run) × (run_at entries body.handle ≡ Some run) × (body ≡ body_of body.handle run)
        → (run : Run) × (cond b (Some entry.1) (run_at entries body.handle) ≡ Some run) × (body ≡ body_of body.handle run)
    by_at true e (run, f, g) =
        let same = at-same body.handle entry.0 e in
        let gone : run_at entries body.handle ≡ None = absent entry.0 body.handle entries sorted.0 (omega (arith, same)) in
        cc
    by_at false e later = later

    first : body ≡ body_of entry.0 entry.1 → (run : Run) × (run_at (entry ∷ entries) body.handle ≡ Some run) × (body ≡ body_of body.handle run)
    first is =
        let same : body.handle ≡ entry.0 = ap (λ (one : Body). one.handle) is in (
          entry.1,
          ap (λ (k : ℕ). cond (is_at (nat_cmp k) entry.0) (Some entry.1) (run_at entries k)) same ∙ ap (λ (b : Bool). cond b (Some entry.1) (run_at entries entry.0)) (at-own entry.0),
          is ∙ ap (λ (k : ℕ). body_of k entry.1) (sym same),
        )

    by_flag : (b : Bool) → Among body (if b then body_of entry.0 entry.1 ∷ bodies_in executing entries else bodies_in executing entries)
        → (Among body (bodies_in executing entries) → (run : Run) × (run_at entries body.handle ≡ Some run) × (body ≡ body_of body.handle run))
        → (run : Run) × (run_at (entry ∷ entries) body.handle ≡ Some run) × (body ≡ body_of body.handle run)
    by_flag true (inl is) later = first is
    by_flag true (inr a) later = by_at (is_at (nat_cmp body.handle) entry.0) refl (later a)
    by_flag false a later = by_at (is_at (nat_cmp body.handle) entry.0) refl (later a)

-- ---- how many are being executed

summed : (runs : List Run) → weights runs ≡ sum_by weight runs
summed runs = is_sum_by weights weight refl (λ _ _. refl) runs

pub count-out : (handle : ℕ) (table : Table) → count_executing (remove_entry (is_at (nat_cmp handle)) table) + weight_at table handle ≡ count_executing table
count-out handle table =
    let now = summed (values_of (remove_entry (is_at (nat_cmp handle)) table)) in
    let before = summed (values_of table) in
    let sum = sum_by-remove_entry weight (is_at (nat_cmp handle)) table in
    omega (arith, now, before, sum)

pub count-in : (handle : ℕ) (run : Run) (table : Table) → Sorted table → run.is_executing ≡ false
    → count_executing (insert_entry nat_cmp table handle run) + weight_at table handle ≡ count_executing table
count-in handle run table sorted idle =
    let now = summed (values_of (insert_entry nat_cmp table handle run)) in
    let before = summed (values_of table) in
    let sum = sum_by-insert_entry weight nat_cmp_total table handle run sorted in
    let none : weight run ≡ 0 = ap one_if idle in
    omega (arith, now, before, sum, none)

pub count-started : (handle : ℕ) (table : Table) (run : Run) → run_at table handle ≡ Some run → run.is_executing ≡ false → count_executing (started handle table) ≡ count_executing table + 1
count-started handle [] run found idle = cc
count-started handle (entry ∷ entries) run found idle = by_test (is_at (nat_cmp handle) entry.0) found (λ f. count-started handle entries run f idle)
  where
    by_test : (t : Bool) → cond t (Some entry.1) (run_at entries handle) ≡ Some run
        → (run_at entries handle ≡ Some run → count_executing (started handle entries) ≡ count_executing entries + 1)
        → count_executing (if t then (entry.0, running entry.1) ∷ entries else entry ∷ started handle entries) ≡ weight entry.1 + count_executing entries + 1
    by_test true f later =
        let is : entry.1 ≡ run = cc in
        let none : weight entry.1 ≡ 0 = ap (λ (r : Run). weight r) is ∙ ap one_if idle in
        omega (arith, none)
    by_test false f later = let h : count_executing (started handle entries) ≡ count_executing entries + 1 = later f in omega (arith, h)

one-at-most : (b : Bool) → one_if b ≤ 1
one-at-most true = omega arith
one-at-most false = omega arith

count-most : (table : Table) → count_executing table ≤ length table
count-most [] = omega arith
count-most (entry ∷ entries) = let one = one-at-most entry.1.is_executing in let h = count-most entries in omega (arith, one, h)

pub count-less : (handle : ℕ) (table : Table) (run : Run) → run_at table handle ≡ Some run → run.is_executing ≡ false → count_executing table < length table
count-less handle [] run found idle = cc
count-less handle (entry ∷ entries) run found idle = by_test (is_at (nat_cmp handle) entry.0) found (λ f. count-less handle entries run f idle)
  where
    by_test : (t : Bool) → cond t (Some entry.1) (run_at entries handle) ≡ Some run → (run_at entries handle ≡ Some run → count_executing entries < length entries)
        → weight entry.1 + count_executing entries < length (entry ∷ entries)
    by_test true f later =
        let is : entry.1 ≡ run = cc in
        let none : weight entry.1 ≡ 0 = ap (λ (r : Run). weight r) is ∙ ap one_if idle in
        let h = count-most entries in
        omega (arith, none, h)
    by_test false f later =
        let one = one-at-most entry.1.is_executing in
        let h : count_executing entries < length entries = later f in
        omega (arith, one, h)

-- some are, exactly where there is a body
pub count-any : (table : Table) → nat_lt 0 (count_executing table) ≡ list_any (λ (body : Body). true) (bodies_in true table)
count-any [] = refl
count-any (entry ∷ entries) = by_flag entry.1.is_executing (count-any entries)
  where
    by_flag : (b : Bool) → nat_lt 0 (count_executing entries) ≡ list_any (λ (body : Body). true) (bodies_in true entries)
        → nat_lt 0 (one_if b + count_executing entries) ≡ list_any (λ (body : Body). true) (if b then body_of entry.0 entry.1 ∷ bodies_in true entries else bodies_in true entries)
    by_flag true later = lt-ltb 0 (1 + count_executing entries) (omega arith)
    by_flag false later = let e : 0 + count_executing entries ≡ count_executing entries = omega arith in ap (nat_lt 0) e ∙ later
