-- What is kept stands to the bodies of an attempt, as runs are called, handed out and proposed.
use Rattle.std.proofs.Common.{◌≡◌, refl, sym, ap, ap₂, ◌∙◌, subst, ℕ, ◌+◌, ◌-◌, ◌<◌, ◌≤◌, ◌==◌, arith, Bool, true, false, not, ◌&&◌, ◌||◌, if◌then◌else◌, List, [], ◌∷◌, ◌++◌, Option, Some, None, option_map, IfSome, Bor, ◌⊎◌, inl, inr}
use Rattle.std.specs.Option.{option_copied}
use Rattle.std.specs.Ordering.{nat_cmp}
use Rattle.std.specs.Map.{remove_entry}
use Rattle.std.specs.BTreeMap.{insert_entry, is_at}
use Rattle.std.specs.List.{list_any, find}
use Rattle.journal_model.specs.declared.value.NonEmptyValue.{NonEmptyValue}
use Rattle.journal_model.specs.AwaitTree.{AwaitTree}
use Rattle.body_laws.specs.Bodies.{Body, Executor, is_body, without_body, has_handle, body_awaited, handing_out, executes_or_awaits, acknowledges, proposing}
use Rattle.body_laws.specs.BodySimulation.{Among}
use Rattle.body_laws.proofs.Lists.{is_body-same, is_body-refl}
use Rattle.vm_runs.specs.declared.run.Run.{Run}
use Rattle.vm_runs.specs.Runs.{Table, Runs, run_at, outcome_at, has_run, is_some_so, body_of, bodies_in, IsLeast, is_awaited, started, run_handed_out, with_cached}
use Rattle.vm_runs.specs.KeptBodies.{times, SameBodies, KeepsBodies, with_body, IsNew, HandsOut, ProposesOutcome, copy_of}
use Rattle.vm_runs.proofs.Ordered.{put-found}
use Rattle.vm_runs.proofs.Tables.{Ascends, one_if, run-of, taken-out, started-left, started-times, put-last, bodies-last, all-below, stands-found}
use Rattle.vm_runs.proofs.Awaited.{least-is-first, least-run}

-- by completion, what is kept once an outcome is put in
abbrev pub kept : Runs → ℕ → Option NonEmptyValue → ℕ → Option NonEmptyValue
kept runs completion None k = outcome_at runs.cached k
kept runs completion (Some value) k = if k == completion then Some value else outcome_at runs.cached k

-- ---- how often a body stands in a list

times-append : (body : Body) (xs ys : List Body) → times body (xs ++ ys) ≡ times body xs + times body ys
times-append body [] ys = omega arith
times-append body (x ∷ xs) ys = let h : times body (xs ++ ys) ≡ times body xs + times body ys = times-append body xs ys in omega (arith, h)

times-without : (body out : Body) (xs : List Body) → times body (without_body out xs) ≡ times body xs - one_if (is_body body out)
times-without body out [] = omega arith
times-without body out (x ∷ xs) = by_test (is_body out x) refl (times-without body out xs)
  where
    by_test : (b : Bool) → is_body out x ≡ b → times body (without_body out xs) ≡ times body xs - one_if (is_body body out)
        → times body (if b then xs else x ∷ without_body out xs) ≡ (one_if (is_body body x) + times body xs) - one_if (is_body body out)
    by_test true e later =
        let same : one_if (is_body body out) ≡ one_if (is_body body x) = ap (λ (one : Body). one_if (is_body body one)) (is_body-same out x e) in
        omega (arith, same)
    by_test false e later = by_own (is_body body out) refl later
      where
        by_own : (t : Bool) → is_body body out ≡ t → times body (without_body out xs) ≡ times body xs - one_if t → one_if (is_body body x) + times body (without_body out xs) ≡ (one_if (is_body body x) + times body xs) - one_if t
        by_own true f h =
            let apart : one_if (is_body body x) ≡ 0 = ap (λ (one : Body). one_if (is_body one x)) (is_body-same body out f) ∙ ap one_if e in
            omega (arith, h, apart)
        by_own false f h = omega (arith, h)

pub same-without : (out : Body) (xs ys : List Body) → SameBodies xs ys → SameBodies (without_body out xs) (without_body out ys)
same-without out xs ys same body =
    times-without body out xs ∙ ap (λ (n : ℕ). n - one_if (is_body body out)) (same body) ∙ sym (times-without body out ys)

among-times : (body : Body) (xs : List Body) → Among body xs → 1 ≤ times body xs
among-times body [] a = absurd a
among-times body (x ∷ xs) (inl same) =
    let e : one_if (is_body body x) ≡ 1 = ap (λ (one : Body). one_if (is_body body one)) (sym same) ∙ ap one_if (is_body-refl body) in
    omega (arith, e)
among-times body (x ∷ xs) (inr a) = let h : 1 ≤ times body xs = among-times body xs a in omega (arith, h)

times-among : (body : Body) (xs : List Body) → 1 ≤ times body xs → Among body xs
times-among body [] h = absurd (omega (arith, h))
times-among body (x ∷ xs) h = by_test (is_body body x) refl h (λ k. times-among body xs k)
  where
    by_test : (b : Bool) → is_body body x ≡ b → 1 ≤ one_if b + times body xs → (1 ≤ times body xs → Among body xs) → Among body (x ∷ xs)
    by_test true e k later = inl (is_body-same body x e)
    by_test false e k later = inr (later (omega (arith, k)))

pub among-same : (xs ys : List Body) → SameBodies xs ys → (body : Body) → Among body xs → Among body ys
among-same xs ys same body a = let h = among-times body xs a in let e = same body in times-among body ys (omega (arith, h, e))

same-back : (xs ys : List Body) → SameBodies xs ys → SameBodies ys xs
same-back xs ys same body = sym (same body)

-- a test passes in both or in none
any-here : (p : Body → Bool) (xs : List Body) → list_any p xs ≡ true → (body : Body) × Among body xs × (p body ≡ true)
any-here p [] e = absurd (wrong e)
  where
    wrong : false ≡ true → ⊥
    wrong f = cc
any-here p (x ∷ xs) e = by_test (p x) refl e (λ f. any-here p xs f)
  where
    by_test : (b : Bool) → p x ≡ b → (b || list_any p xs) ≡ true → (list_any p xs ≡ true → (body : Body) × Among body xs × (p body ≡ true)) → (body : Body) × Among body (x ∷ xs) × (p body ≡ true)
    by_test true f g later = (x, inl refl, f)
    by_test false f g later = let (body, a, h) = later g in (body, inr a, h)

any-there : (p : Body → Bool) (xs : List Body) (body : Body) → Among body xs → p body ≡ true → list_any p xs ≡ true
any-there p [] body a e = absurd a
any-there p (x ∷ xs) body (inl same) e = ap (λ (b : Bool). b || list_any p xs) (sym (ap p same) ∙ e)
any-there p (x ∷ xs) body (inr a) e = ap (λ (b : Bool). p x || b) (any-there p xs body a e) ∙ or-true (p x)
  where
    or-true : (b : Bool) → (b || true) ≡ true
    or-true true = refl
    or-true false = refl

pub any-same : (p : Body → Bool) (xs ys : List Body) → SameBodies xs ys → list_any p xs ≡ list_any p ys
any-same p xs ys same = by_tests (list_any p xs) (list_any p ys) refl refl
  where
    by_tests : (b c : Bool) → list_any p xs ≡ b → list_any p ys ≡ c → b ≡ c
    by_tests true true e f = refl
    by_tests true false e f =
        let (body, a, h) = any-here p xs e in
        let wrong : list_any p ys ≡ true = any-there p ys body (among-same xs ys same body a) h in
        cc
    by_tests false true e f =
        let (body, a, h) = any-here p ys f in
        let wrong : list_any p xs ≡ true = any-there p xs body (among-same ys xs (same-back xs ys same) body a) h in
        cc
    by_tests false false e f = refl

-- ---- a run is called

pub keeps-called : (runs new : Runs) (handle : ℕ) (run : Run) → run.is_executing ≡ false → new ≡ record runs { table = insert_entry nat_cmp runs.table handle run }
    → (e : Executor) → KeepsBodies runs e → IsNew handle e → KeepsBodies new (with_body e (body_of handle run))
keeps-called runs new handle run idle is e keeps is_new = subst (λ (r : Runs). KeepsBodies r (with_body e (body_of handle run))) (sym is) (record {
  left = ap (bodies_in false) last ∙ bodies-last false handle run runs.table ∙ ap₂ (λ (xs ys : List Body). xs ++ ys) keeps.left own;
  executing = λ body. ap (λ (table : Table). times body (bodies_in true table)) last ∙ ap (times body) (bodies-last true handle run runs.table ∙ nothing) ∙ keeps.executing body;
  cached = keeps.cached;
})
  where
    low : (body : Body) → Among body (bodies_in false runs.table) ⊎ Among body (bodies_in true runs.table) → body.handle < handle
    low body (inl a) = is_new body (inl (subst (λ (bodies : List Body). Among body bodies) keeps.left a))
    low body (inr a) = is_new body (inr (among-same (bodies_in true runs.table) e.executing keeps.executing body a))

    last : insert_entry nat_cmp runs.table handle run ≡ runs.table ++ (handle, run) ∷ []
    last = put-last handle run runs.table (all-below handle runs.table low)

    own : (if not run.is_executing then body_of handle run ∷ [] else []) ≡ body_of handle run ∷ []
    own = ap (λ (b : Bool). if not b then body_of handle run ∷ [] else []) idle

    append-none : (xs : List Body) → xs ++ [] ≡ xs
    append-none [] = refl
    append-none (x ∷ xs) = ap (λ (rest : List Body). x ∷ rest) (append-none xs)

    nothing : bodies_in true runs.table ++ (if run.is_executing then body_of handle run ∷ [] else []) ≡ bodies_in true runs.table
    nothing = ap (λ (b : Bool). bodies_in true runs.table ++ (if b then body_of handle run ∷ [] else [])) idle ∙ append-none (bodies_in true runs.table)

-- ---- a body is handed out

in-list : (p : Body → Bool) (bodies : List Body) (body : Body) → find p bodies ≡ Some body → Among body bodies
in-list p [] body f = cc
in-list p (x ∷ xs) body f = by_test (p x) f (λ g. in-list p xs body g)
  where
    by_test : (b : Bool) → (if b then Some x else find p xs) ≡ Some body → (find p xs ≡ Some body → Among body xs) → Among body (x ∷ xs)
    by_test true g later = let is : x ≡ body = cc in inl (sym is)
    by_test false g later = inr (later g)

was-idle : (found : Option Run) (run : Run) → found ≡ Some run → is_some_so false found ≡ true → run.is_executing ≡ false
was-idle None run e f = cc
was-idle (Some one) run e f = let same : one ≡ run = cc in sym (ap (λ (r : Run). r.is_executing) same) ∙ by_flag one.is_executing f
  where
    by_flag : (b : Bool) → not b ≡ true → b ≡ false
    by_flag true g = cc
    by_flag false g = refl

some-run : (table : Table) (handle : ℕ) → has_run false table handle ≡ true → (run : Run) × (run_at table handle ≡ Some run) × (run.is_executing ≡ false)
some-run table handle so = by_found (run_at table handle) refl so
  where
    by_found : (found : Option Run) → run_at table handle ≡ found → is_some_so false found ≡ true → (run : Run) × (run_at table handle ≡ Some run) × (run.is_executing ≡ false)
    by_found None e f = cc
    by_found (Some run) e f = (run, e, was-idle (Some run) run refl f)

pub idle-run : (tree : AwaitTree ℕ) (table : Table) (handle : ℕ) → IsLeast (is_awaited false table tree) (Some handle) → (run : Run) × (run_at table handle ≡ Some run) × (run.is_executing ≡ false)
idle-run tree table handle least = some-run table handle (least-run false tree table handle least)

keeps-started : (runs : Runs) (handle : ℕ) (run : Run) (e : Executor) → run_at runs.table handle ≡ Some run → run.is_executing ≡ false → KeepsBodies runs e
    → KeepsBodies (run_handed_out (Some handle) runs) (handing_out e (body_of handle run))
keeps-started runs handle run e there idle keeps = record {
  left = started-left handle runs.table run there idle ∙ ap (without_body (body_of handle run)) keeps.left;
  executing = λ body. started-times body handle runs.table run there idle ∙ more body;
  cached = keeps.cached;
}
  where
    more : (body : Body) → times body (bodies_in true runs.table) + one_if (is_body body (body_of handle run)) ≡ times body (e.executing ++ body_of handle run ∷ [])
    more body =
        let a = times-append body e.executing (body_of handle run ∷ []) in
        let b = keeps.executing body in
        omega (arith, a, b)

-- the least handle that is awaited is that of the first body, which is handed out
pub keeps-handed : (tree : AwaitTree ℕ) (runs : Runs) (found : Option ℕ) → Ascends runs.table → IsLeast (is_awaited false runs.table tree) found
    → (e : Executor) → KeepsBodies runs e → HandsOut (executes_or_awaits tree e (body_awaited tree e.left)) found (run_handed_out found runs)
keeps-handed tree runs found sorted least e keeps =
    subst (λ (bodies : List Body). HandsOut (executes_or_awaits tree e (body_awaited tree bodies)) found (run_handed_out found runs)) keeps.left
    (by_found found (body_awaited tree (bodies_in false runs.table)) refl least (least-is-first false tree runs.table found sorted least))
  where
    by_found : (o : Option ℕ) (first : Option Body) → body_awaited tree (bodies_in false runs.table) ≡ first → IsLeast (is_awaited false runs.table tree) o → o ≡ option_map (λ (body : Body). body.handle) first
        → HandsOut (executes_or_awaits tree e first) o (run_handed_out o runs)
    by_found None None f l same = keeps
    by_found None (Some body) f l same = cc
    by_found (Some handle) None f l same = cc
    by_found (Some handle) (Some body) f l same =
        let (run, there, idle) = some-run runs.table handle (least-run false tree runs.table handle l) in
        let at : handle ≡ body.handle = cc in
        let (other, here, is) = run-of false runs.table body sorted (in-list (λ one. has_handle one.handle tree) (bodies_in false runs.table) body f) in
        let one : Some run ≡ Some other = sym there ∙ ap (run_at runs.table) at ∙ here in
        let so : run ≡ other = cc in
        let whole : body_of handle run ≡ body = ap₂ (λ (n : ℕ) (r : Run). body_of n r) at so ∙ sym is in
        (sym at, subst (λ (one : Body). KeepsBodies (run_handed_out (Some handle) runs) (handing_out e one)) whole (keeps-started runs handle run e there idle keeps))

pub handed-on : (tree : AwaitTree ℕ) (runs : Runs) (handle answered : ℕ) (table : Table) → Ascends runs.table → IsLeast (is_awaited false runs.table tree) (Some handle)
    → answered ≡ handle → table ≡ started handle runs.table
    → (e : Executor) → KeepsBodies runs e → HandsOut (executes_or_awaits tree e (body_awaited tree e.left)) (Some answered) (record { table = table; cached = runs.cached })
handed-on tree runs handle answered table sorted least same is e keeps =
    subst (λ (n : ℕ). HandsOut (executes_or_awaits tree e (body_awaited tree e.left)) (Some n) (record { table = table; cached = runs.cached })) (sym same)
    (subst (λ (t : Table). HandsOut (executes_or_awaits tree e (body_awaited tree e.left)) (Some handle) (record { table = t; cached = runs.cached })) (sym is)
    (keeps-handed tree runs (Some handle) sorted least e keeps))

-- ---- an outcome is proposed

pub keeps-proposed : (runs : Runs) (handle : ℕ) (run : Run) (left : Table) (cached : List (ℕ × NonEmptyValue)) (outcome : Option NonEmptyValue) → Ascends runs.table → run_at runs.table handle ≡ Some run
    → left ≡ remove_entry (is_at (nat_cmp handle)) runs.table → ((k : ℕ) → outcome_at cached k ≡ kept runs run.completion outcome k)
    → (version : ℕ) (e : Executor) (value : NonEmptyValue) → outcome ≡ copy_of version value → KeepsBodies runs e → KeepsBodies (record { table = left; cached = cached }) (proposing version e (body_of handle run) value)
keeps-proposed runs handle run left cached outcome sorted there gone held version e value is keeps = record {
  left = ap (bodies_in false) gone ∙ taken-out false handle runs.table run sorted there ∙ ap (without_body (body_of handle run)) keeps.left;
  executing = λ body. ap (λ (table : Table). times body (bodies_in true table)) gone ∙ ap (times body) (taken-out true handle runs.table run sorted there)
      ∙ same-without (body_of handle run) (bodies_in true runs.table) e.executing keeps.executing body;
  cached = λ k. held k ∙ ap (λ (o : Option NonEmptyValue). kept runs run.completion o k) is ∙ by_flag (acknowledges version) k;
}
  where
    by_key : (k : ℕ) (b : Bool) → (if b then Some value else outcome_at runs.cached k) ≡ (if b then Some value else e.cached k)
    by_key k true = refl
    by_key k false = keeps.cached k

    by_flag : (b : Bool) (k : ℕ) → kept runs run.completion (if b then Some value else None) k ≡ (if b && (k == run.completion) then Some value else e.cached k)
    by_flag true k = by_key k (k == run.completion)
    by_flag false k = keeps.cached k

-- ---- a run is looked up

pub keeps-found : (runs : Runs) (handle : ℕ) (found : Option (Bor Run)) → option_copied found ≡ run_at runs.table handle
    → IfSome found (λ run. (e : Executor) → KeepsBodies runs e → Among (body_of handle run.now) e.left ⊎ Among (body_of handle run.now) e.executing)
keeps-found runs handle None is = tt
keeps-found runs handle (Some run) is = λ e keeps. elim (stands-found handle runs.table run.now (sym is)) [
  | inl a ↦ inl (subst (λ (bodies : List Body). Among (body_of handle run.now) bodies) keeps.left a)
  | inr a ↦ inr (among-same (bodies_in true runs.table) e.executing keeps.executing (body_of handle run.now) a)
]

-- ---- the machine's part of a proposal, where there is a run

pub proposes : (runs : Runs) (handle : ℕ) (outcome : Option NonEmptyValue) (run : Run) (left : Table) (cached : List (ℕ × NonEmptyValue)) → Ascends runs.table → run_at runs.table handle ≡ Some run
    → left ≡ remove_entry (is_at (nat_cmp handle)) runs.table → ((k : ℕ) → outcome_at cached k ≡ kept runs run.completion outcome k)
    → ProposesOutcome handle outcome (run_at runs.table handle) runs (record { table = left; cached = cached })
proposes runs handle outcome run left cached sorted there gone held =
    subst (λ (found : Option Run). ProposesOutcome handle outcome found runs (record { table = left; cached = cached })) (sym there)
    (keeps-proposed runs handle run left cached outcome sorted there gone held)

-- the run of which the completion was found
pub of-completion : (table : Table) (handle completion : ℕ) → option_map (λ (run : Run). run.completion) (run_at table handle) ≡ Some completion
    → (run : Run) × (run_at table handle ≡ Some run) × (run.completion ≡ completion)
of-completion table handle completion is = by_found (run_at table handle) refl is
  where
    by_found : (found : Option Run) → run_at table handle ≡ found → option_map (λ (run : Run). run.completion) found ≡ Some completion → (run : Run) × (run_at table handle ≡ Some run) × (run.completion ≡ completion)
    by_found None e f = cc
    by_found (Some run) e f = (run, e, cc)

-- what was put in is found
pub held-with : (runs : Runs) (completion : ℕ) (outcome : Option NonEmptyValue) (cached : List (ℕ × NonEmptyValue)) → cached ≡ with_cached completion outcome runs.cached
    → (k : ℕ) → outcome_at cached k ≡ kept runs completion outcome k
held-with runs completion None cached is k = ap (λ (c : List (ℕ × NonEmptyValue)). outcome_at c k) is
held-with runs completion (Some value) cached is k = ap (λ (c : List (ℕ × NonEmptyValue)). outcome_at c k) is ∙ put-found completion value k runs.cached
