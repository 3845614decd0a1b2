-- Sleeps are put before others from the last one on.
use Rattle.std.proofs.Common.{ℕ, ◌≡◌, refl, ap, Bool, true, false, if◌then◌else◌, List, [], ◌∷◌, ◌++◌}
use Rattle.store_tables.specs.declared.row.SleepRow.{SleepRow}
use Rattle.store_arrivals.specs.Groups.{Group, grouped, put_first}
use Rattle.store_arrivals.specs.SleepGroups.{is_first, groups_joined}

abbrev pub put_each : List SleepRow → List Group → List Group
put_each [] groups = groups
put_each (s ∷ rows) groups = put_first s (put_each rows groups)

pub put_none : (rows : List SleepRow) → put_each rows [] ≡ grouped rows
put_none [] = refl
put_none (s ∷ rows) = ap (put_first s) (put_none rows)

pub put_last : (rows : List SleepRow) (s : SleepRow) (groups : List Group) → put_each (rows ++ s ∷ []) groups ≡ put_each rows (put_first s groups)
put_last [] s groups = refl
put_last (row ∷ rows) s groups = ap (put_first row) (put_last rows s groups)

pub put_joined : (s : SleepRow) (groups : List Group) → is_first s.invocation groups ≡ true → put_first s groups ≡ groups_joined s.completion groups
put_joined s [] e = cc
put_joined s (group ∷ groups) e =
    ap (λ (b : Bool). if b then (group.0, s.completion ∷ group.1) ∷ groups else (s.invocation, s.completion ∷ []) ∷ group ∷ groups) e

pub put_alone : (s : SleepRow) (groups : List Group) → is_first s.invocation groups ≡ false → put_first s groups ≡ (s.invocation, s.completion ∷ []) ∷ groups
put_alone s [] e = refl
put_alone s (group ∷ groups) e =
    ap (λ (b : Bool). if b then (group.0, s.completion ∷ group.1) ∷ groups else (s.invocation, s.completion ∷ []) ∷ group ∷ groups) e
