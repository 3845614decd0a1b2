-- What is kept of the runs of an attempt whose outcomes were not proposed, and of outcomes that wait for their acknowledgement.
use Rattle.std.specs.Prelude.{◌≡◌, ◌+◌, ◌≤◌, ℕ, min, Bool, true, false, not, ◌&&◌, if◌then◌else◌, List, [], ◌∷◌, Option, Some, None, unwrap_or, option_map}
use Rattle.std.specs.Ordering.{nat_cmp}
use Rattle.std.specs.Map.{lookup, remove_entry, values_of}
use Rattle.std.specs.BTreeMap.{insert_entry, is_at}
use Rattle.journal_model.specs.declared.value.NonEmptyValue.{NonEmptyValue}
use Rattle.journal_model.specs.AwaitTree.{AwaitTree}
use Rattle.body_laws.specs.Bodies.{Body, has_handle}
use Rattle.vm_runs.specs.declared.run.Run.{Run}

-- runs by their handles, the least first
abbrev pub Table : Type 0
Table = List (ℕ × Run)

pub record Runs : Type 0 where
  -- the runs whose outcomes were not proposed
  pub table : Table
  -- by completion, the outcomes that were proposed and are to be acknowledged
  pub cached : List (ℕ × NonEmptyValue)

abbrev pub no_runs : Runs
no_runs = record { table = []; cached = [] }

abbrev pub run_at : Table → ℕ → Option Run
run_at table handle = lookup (is_at (nat_cmp handle)) table

abbrev pub outcome_at : List (ℕ × NonEmptyValue) → ℕ → Option NonEmptyValue
outcome_at cached completion = lookup (is_at (nat_cmp completion)) cached

-- ---- runs that are being executed, and those that are to be

abbrev pub is_so : (executing : Bool) → Run → Bool
is_so true run = run.is_executing
is_so false run = not run.is_executing

abbrev pub is_some_so : (executing : Bool) → Option Run → Bool
is_some_so executing None = false
is_some_so executing (Some run) = is_so executing run

abbrev pub has_run : (executing : Bool) → Table → ℕ → Bool
has_run executing table handle = is_some_so executing (run_at table handle)

abbrev pub body_of : ℕ → Run → Body
body_of handle run = record { handle = handle; completion = run.completion }

-- their bodies, in the order of their handles
abbrev pub bodies_in : (executing : Bool) → Table → List Body
bodies_in executing [] = []
bodies_in executing (entry ∷ entries) = if is_so executing entry.1 then body_of entry.0 entry.1 ∷ bodies_in executing entries else bodies_in executing entries

-- how many are being executed
abbrev pub weight : Run → ℕ
weight run = if run.is_executing then 1 else 0

abbrev pub weights : List Run → ℕ
weights [] = 0
weights (run ∷ runs) = weight run + weights runs

abbrev pub count_executing : Table → ℕ
count_executing table = weights (values_of table)

abbrev pub weight_at : Table → ℕ → ℕ
weight_at table handle = unwrap_or (option_map weight (run_at table handle)) 0

-- ---- the least handle

-- the least number that passes a test, if one does
abbrev pub IsLeast : (ℕ → Bool) → Option ℕ → Type 0
IsLeast test None = (n : ℕ) → test n ≡ false
IsLeast test (Some least) = (test least ≡ true) × ((n : ℕ) → test n ≡ true → least ≤ n)

abbrev pub lesser : Option ℕ → Option ℕ → Option ℕ
lesser None other = other
lesser (Some one) None = Some one
lesser (Some one) (Some other) = Some (min one other)

-- whether a handle is awaited, whose run is being executed, or is to be
abbrev pub is_awaited : (executing : Bool) → Table → AwaitTree ℕ → ℕ → Bool
is_awaited executing table tree handle = has_run executing table handle && has_handle handle tree

-- ---- what each call leaves

-- the run of a handle is being executed
abbrev pub started : ℕ → Table → Table
started handle [] = []
started handle (entry ∷ entries) = if is_at (nat_cmp handle) entry.0 then (entry.0, record entry.1 { is_executing = true }) ∷ entries else entry ∷ started handle entries

abbrev pub with_run : ℕ → Run → Runs → Runs
with_run handle run runs = record runs { table = insert_entry nat_cmp runs.table handle run }

abbrev pub run_handed_out : Option ℕ → Runs → Runs
run_handed_out None runs = runs
run_handed_out (Some handle) runs = record runs { table = started handle runs.table }

abbrev pub with_cached : ℕ → Option NonEmptyValue → List (ℕ × NonEmptyValue) → List (ℕ × NonEmptyValue)
with_cached completion None cached = cached
with_cached completion (Some value) cached = insert_entry nat_cmp cached completion value

-- the outcome of a run was proposed, and is kept where it is to be acknowledged; of a handle of no run nothing is
abbrev pub proposed_of : ℕ → Option NonEmptyValue → Option Run → Runs → Runs
proposed_of handle outcome None runs = runs
proposed_of handle outcome (Some run) runs = record { table = remove_entry (is_at (nat_cmp handle)) runs.table; cached = with_cached run.completion outcome runs.cached }

abbrev pub after_proposal : ℕ → Option NonEmptyValue → Runs → Runs
after_proposal handle outcome runs = proposed_of handle outcome (run_at runs.table handle) runs

abbrev pub acknowledged : ℕ → Runs → Runs
acknowledged completion runs = record runs { cached = remove_entry (is_at (nat_cmp completion)) runs.cached }
