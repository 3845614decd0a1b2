-- What a query over one table answers in the order of columns.
use Rattle.std.proofs.Common.{◌≡◌, inl, inr, ℕ, suc, add-one, arith, Bool, false, List, [], ◌∷◌, map, filter, drop, take, Option, None, Some, Ordering, Less, Equal, Greater, is_gt, is_lt, refl, sym, ap, ap₂, subst, ◌∙◌}
use Rattle.std.specs.Cmp.{IsTotalOrder}
use Rattle.std.specs.Option.{option_to_list}
use Rattle.std.proofs.lemmas.Cmp.{tied_itself, upto}
use Rattle.std.specs.List.{AllByRecursion}
use Rattle.std.specs.Ordering.{is_eq, ordering_reverse, ordering_then}
use Rattle.std.specs.List.Sorted.{IsPermutation, IsSorted}
use Rattle.std.proofs.lemmas.List.Sorted.{IsPermutation-map, IsPermutation-sym, IsPermutation-trans}
use Rattle.sqlite_trees.specs.Tree.{IsAscending}
use Rattle.sqlite_keyed.proofs.ListLemmas.{map-map, map_same, filter-map, filter_same, IsPermutation-filter, all_weaker, ascending-map, ascending_weaker}
use Rattle.sqlite_trees.proofs.ListLemmas.{all-permutation}
use Rattle.sqlite_rules.specs.Lists.{Has}
use Rattle.sqlite_keyed.specs.Lists.{insert_sorted, sort_by}
use Rattle.sqlite_keyed.proofs.SortLemmas.{sorted_is-sort_by, sort_by-map}
use Rattle.sqlite_sql.proofs.QueryLemmas.{output_cmp_total}
use Rattle.sqlite_sql.specs.Program.{overlay, IsProgramAnswer}
use Rattle.sqlite.specs.declared.types.Value.{Value}
use Rattle.sqlite.specs.declared.types.Value.TheVariants.{Null}
use Rattle.sqlite_value.specs.Order.{Row, column, value_cmp}
use Rattle.sqlite_value.specs.Keys.{by_key}
use Rattle.sqlite_value.specs.declared.keys.Key.{Key}
use Rattle.sqlite.specs.Term.{Term, eval_all}
use Rattle.sqlite.specs.Query.{Query, Output, output, output_cmp}
use Rattle.sqlite_sql.specs.Query.{key_cmp}
use Rattle.sqlite.specs.Schema.{Schema}
use Rattle.sqlite.specs.Tree.{Trees}
use Rattle.sqlite.specs.Command.TheVariants.{Select}
use Rattle.sqlite.specs.State.{State}
use Rattle.sqlite.specs.Listing.{understood, reads_listing}
use Rattle.sqlite.proofs.Callers.{IsPlain, command_of}
use Rattle.sql_tables.specs.QueryAnswers.{IsAnswer}
use Rattle.sql_tables.specs.Content.{HasRows}
use Rattle.sql_tables.specs.Statements.{IsFirst, by_columns, cells_cmp, first_row_query, rows_of, program_of}
use Rattle.sql_tables.proofs.Answers.{IsListOf, answered, first_answered, no_let, passes}
use Rattle.sql_tables.proofs.Queries.{answer_as}
use Rattle.sql_tables.proofs.RowReads.{no_more, permuted}

-- ---- rows that are told apart by their cells have one order

-- no two are alike
abbrev pub AreApart : {X : Type 0} → (X → X → Ordering) → List X → Type 0
AreApart cmp = IsAscending (λ a b. is_eq (cmp a b) ≡ false)

module _ {X : Type 0} (cmp : X → X → Ordering) where
  pub rising_apart : (xs : List X) → IsAscending (λ a b. cmp a b ≡ Less) xs → AreApart cmp xs
  rising_apart xs up = ascending_weaker (λ a b. cmp a b ≡ Less) (λ a b. is_eq (cmp a b) ≡ false) (λ a b less. ap is_eq less) xs up

  -- what is in order already stays as it is
  pub rising_sorted : (xs : List X) → IsAscending (λ a b. cmp a b ≡ Less) xs → sort_by cmp xs ≡ xs
  rising_sorted [] up = refl
  rising_sorted (x ∷ xs) up = ap (insert_sorted cmp x) (rising_sorted xs up.1) ∙ at_front xs up.0
    where
      at_front : (ys : List X) → AllByRecursion (λ y. cmp x y ≡ Less) ys → insert_sorted cmp x ys ≡ x ∷ ys
      at_front [] all = refl
      at_front (y ∷ ys) all = rw all.0 refl

-- a key that stands one place later, in rows that are one cell longer
key_later : (keys : List Key) (at : ℕ) (x y : Value) (a b : Row) → key_cmp (suc at) keys (x ∷ a) (y ∷ b) ≡ key_cmp at keys a b
key_later [] at x y a b = refl
key_later (k ∷ keys) at x y a b = ap (ordering_then (by_key k (column a at) (column b at))) (key_later keys (suc at) x y a b)

abbrev keys_of : List ℕ → List Key
keys_of cs = map (λ (k : Term × Key). k.1) (by_columns (map suc cs))

picked_cmp : (cs : List ℕ) (a b : Row) → key_cmp 0 (keys_of cs) (map (column a) cs) (map (column b) cs) ≡ cells_cmp cs a b
picked_cmp [] a b = refl
picked_cmp (c ∷ cs) a b =
    ap (ordering_then (value_cmp (column a c) (column b c)))
    (key_later (keys_of cs) 0 (column a c) (column b c) (map (column a) cs) (map (column b) cs) ∙ picked_cmp cs a b)

abbrev pair_of : Row → Row → Output
pair_of keys shown = (keys, shown)

abbrev out_of : List ℕ → (Row → Row) → Row → Output
out_of cs pick cells = pair_of (map (column cells) cs) (pick cells)

keys_there : (params r : Row) → ((c : ℕ) → column r (suc c) ≡ column (drop 1 r) c) → (cs : List ℕ)
    → eval_all (map (λ (k : Term × Key). k.0) (by_columns (map suc cs))) (params ∷ r ∷ []) ≡ map (column (drop 1 r)) cs
keys_there params r keyed [] = refl
keys_there params r keyed (c ∷ cs) = ap₂ (λ (v : Value) (vs : Row). v ∷ vs) (keyed c) (keys_there params r keyed cs)

-- what is listed are the rows that pass, each with its keys
outs_are : (tree : ℕ) (tests project : List Term) (cs : List ℕ) (db : Trees) (params : Row) (rows : List Row) (keeps : Row → Bool) (pick : Row → Row)
    → ((r : Row) → passes params tests r ≡ keeps (drop 1 r)) → ((r : Row) → eval_all project (params ∷ r ∷ []) ≡ pick (drop 1 r)) → ((r : Row) (c : ℕ) → column r (suc c) ≡ column (drop 1 r) c)
    → (a : IsListOf (rows_of tree tests project (by_columns (map suc cs))) params (filter (passes params tests) (overlay db [] tree)) rows)
    → (held : List Row) → HasRows (db tree) held → IsPermutation (map (out_of cs pick) (filter keeps held)) a.outs
outs_are tree tests project cs db params rows keeps pick same shown keyed a held h =
    let q : Query = rows_of tree tests project (by_columns (map suc cs)) in
    let listed : IsPermutation (map (λ r. output q (params ∷ r ∷ [])) (filter (passes params tests) (db tree))) a.outs = rw (no_let db tree) at a.same in
    let kept : IsPermutation (map (drop 1) (filter (passes params tests) (db tree))) (filter keeps held) =
    subst (λ l. IsPermutation l (filter keeps held)) (filter-map keeps (drop 1) (db tree) ∙ ap (map (drop 1)) (filter_same _ _ (λ r. sym (same r)) (db tree))) (IsPermutation-filter keeps _ _ h.same) in
    let pointwise : (r : Row) → output q (params ∷ r ∷ []) ≡ out_of cs pick (drop 1 r) = λ r.
    ap (λ (keys : Row). pair_of keys (eval_all project (params ∷ r ∷ []))) (keys_there params r (keyed r) cs) ∙ ap (λ (s : Row). pair_of (map (column (drop 1 r)) cs) s) (shown r) in
    let seen : map (λ r. output q (params ∷ r ∷ [])) (filter (passes params tests) (db tree)) ≡ map (out_of cs pick) (map (drop 1) (filter (passes params tests) (db tree))) =
    map_same _ _ pointwise _ ∙ sym (map-map (out_of cs pick) (drop 1) _) in
    IsPermutation-trans _ _ _ (IsPermutation-sym _ _ (IsPermutation-map (out_of cs pick) _ _ kept)) (subst (λ l. IsPermutation l a.outs) seen listed)

-- the rows that pass, as they are shown, in the one order by these cells
pub rows_ordered : (tree : ℕ) (tests project : List Term) (cs : List ℕ) (db : Trees) (params : Row) (rows : List Row) (keeps : Row → Bool) (pick : Row → Row)
    → ((r : Row) → passes params tests r ≡ keeps (drop 1 r)) → ((r : Row) → eval_all project (params ∷ r ∷ []) ≡ pick (drop 1 r)) → ((r : Row) (c : ℕ) → column r (suc c) ≡ column (drop 1 r) c)
    → IsProgramAnswer [] (rows_of tree tests project (by_columns (map suc cs))) db params rows → (held : List Row) → HasRows (db tree) held
    → (zs : List Row) → IsPermutation (filter keeps held) zs → AreApart (cells_cmp cs) zs → rows ≡ map pick (sort_by (cells_cmp cs) zs)
rows_ordered tree tests project cs db params rows keeps pick same shown keyed answer held h zs arranged apart =
    let q : Query = rows_of tree tests project (by_columns (map suc cs)) in
    let a = answered tree tests project (by_columns (map suc cs)) (overlay db []) params rows (answer Null) in
    let outs = a.outs in
    let out : IsPermutation (map (out_of cs pick) zs) outs =
    IsPermutation-trans _ _ _ (IsPermutation-sym _ _ (IsPermutation-map (out_of cs pick) _ _ arranged)) (outs_are tree tests project cs db params rows keeps pick same shown keyed a held h) in
    let out_cmp : (x y : Row) → output_cmp q (out_of cs pick x) (out_of cs pick y) ≡ cells_cmp cs x y = picked_cmp cs in
    let told : AreApart (output_cmp q) (map (out_of cs pick) zs) =
    ascending-map (λ x y. is_eq (output_cmp q x y) ≡ false) (out_of cs pick) zs
    (ascending_weaker (λ x y. is_eq (cells_cmp cs x y) ≡ false) (λ x y. is_eq (output_cmp q (out_of cs pick x) (out_of cs pick y)) ≡ false) (λ x y other. ap is_eq (out_cmp x y) ∙ other) zs apart) in
    let is : outs ≡ map (out_of cs pick) (sort_by (cells_cmp cs) zs) =
    sorted_is-sort_by (output_cmp q) (output_cmp_total q) (map (out_of cs pick) zs) outs told out a.sorted
    ∙ sort_by-map (output_cmp q) (out_of cs pick) zs
    ∙ ap (λ (cmp : Row → Row → Ordering). map (out_of cs pick) (sort_by cmp zs)) (λ i x y. out_cmp x y i) in
    a.shown ∙ ap (map (λ (o : Output). o.1)) is ∙ map-map (λ (o : Output). o.1) (out_of cs pick) (sort_by (cells_cmp cs) zs)

-- the rows of records, in the one order of theirs by these cells
module _ {X : Type 0} (schema : Schema) (sql : List ℕ) (params : Row) (old : State) (rows : List Row) (tree : ℕ) (tests project : List Term) (cs : List ℕ) (names : List (List ℕ)) where
  pub records_ordered : old.now.schema ≡ schema → IsPlain (understood schema sql) → reads_listing schema sql ≡ false
      → command_of (understood schema sql) ≡ Select (program_of (rows_of tree tests project (by_columns (map suc cs)))) names
      → (keeps : Row → Bool) (pick : Row → Row) → ((r : Row) → passes params tests r ≡ keeps (drop 1 r)) → ((r : Row) → eval_all project (params ∷ r ∷ []) ≡ pick (drop 1 r)) → ((r : Row) (c : ℕ) → column r (suc c) ≡ column (drop 1 r) c)
      → (cells : X → Row) (test : X → Bool) → ((x : X) → keeps (cells x) ≡ test x) → ((x : X) → pick (cells x) ≡ cells x)
      → IsAnswer sql params old rows → (held : List X) → HasRows (old.now.trees tree) (map cells held)
      → (zs : List X) → IsPermutation (filter test held) zs → AreApart (λ a b. cells_cmp cs (cells a) (cells b)) zs → rows ≡ map cells (sort_by (λ a b. cells_cmp cs (cells a) (cells b)) zs)
  records_ordered has plain unlisted is keeps pick there shown keyed cells test kept picked answer held h zs same apart =
      let read = answer_as sql params old schema has _ is plain unlisted rows answer in
      let arranged : IsPermutation (filter keeps (map cells held)) (map cells zs) =
      subst (λ l. IsPermutation l (map cells zs)) (sym (filter-map keeps cells held ∙ ap (map cells) (filter_same _ _ kept held))) (IsPermutation-map cells _ _ same) in
      rows_ordered tree tests project cs old.now.trees params rows keeps pick there shown keyed read.answer (map cells held) h (map cells zs) arranged
      (ascending-map (λ a b. is_eq (cells_cmp cs a b) ≡ false) cells zs apart)
      ∙ ap (map pick) (sort_by-map (cells_cmp cs) cells zs)
      ∙ map-map pick cells (sort_by (λ a b. cells_cmp cs (cells a) (cells b)) zs) ∙ map_same _ _ picked (sort_by (λ a b. cells_cmp cs (cells a) (cells b)) zs)

-- ---- the first of them

module _ {X : Type 0} (cmp : X → X → Ordering) (total : IsTotalOrder cmp) where
  turned : (o : Ordering) → is_lt o ≡ false → is_gt (ordering_reverse o) ≡ false
  turned Less h = h
  turned Equal h = refl
  turned Greater h = refl

  -- what is in order has its least at its front
  least_first : (x : X) (ys : List X) → IsSorted cmp (x ∷ ys) → AllByRecursion (λ y. is_gt (cmp x y) ≡ false) ys
  least_first x [] sorted = tt
  least_first x (y ∷ ys) sorted =
      let first : is_gt (cmp x y) ≡ false = ap is_gt (total.antisymm x y) ∙ turned _ (sorted 0 x (omega arith) (omega arith)) in
      let tail : IsSorted cmp (y ∷ ys) = λ k d p q. rw add-one (rw add-one at (sorted (suc k) d (omega arith) (omega arith))) in
      (first, all_weaker _ (λ z. is_gt (cmp x z) ≡ false) (λ z. upto total x y z first) ys (least_first y ys tail))

-- an element of a list that was mapped
had : {X Y : Type 0} (f : X → Y) (xs : List X) (y : Y) → Has (map f xs) y → (x : X) × Has xs x × (y ≡ f x)
had f [] y none = absurd none
had f (x ∷ xs) y (inl e) = (x, inl refl, e)
had f (x ∷ xs) y (inr h) = let later = had f xs y h in (later.0, inr later.1, later.2)

all_under : {X Y : Type 0} (P : Y → Type 0) (f : X → Y) (xs : List X) → AllByRecursion P (map f xs) → AllByRecursion (λ x. P (f x)) xs
all_under P f [] h = tt
all_under P f (x ∷ xs) h = (h.0, all_under P f xs h.1)

no_rows : {X Y : Type 0} (f : X → Y) (xs : List X) → map f xs ≡ [] → xs ≡ []
no_rows f [] e = refl
no_rows f (x ∷ xs) e = absurd cc

pub first_read : (tree : ℕ) (tests project : List Term) (cs : List ℕ) (db : Trees) (params : Row) (rows : List Row) (keeps : Row → Bool) (pick : Row → Row)
    → ((r : Row) → passes params tests r ≡ keeps (drop 1 r)) → ((r : Row) → eval_all project (params ∷ r ∷ []) ≡ pick (drop 1 r)) → ((r : Row) (c : ℕ) → column r (suc c) ≡ column (drop 1 r) c)
    → IsProgramAnswer [] (first_row_query (rows_of tree tests project (by_columns (map suc cs)))) db params rows → (held : List Row) → HasRows (db tree) held
    → (found : Option Row) × IsFirst (cells_cmp cs) (filter keeps held) found × (rows ≡ map pick (option_to_list found))
first_read tree tests project cs db params rows keeps pick same shown keyed answer held h =
    let it = first_answered tree tests project (by_columns (map suc cs)) (overlay db []) params rows (answer Null) in
    by_outs it.1.outs (outs_are tree tests project cs db params it.0 keeps pick same shown keyed it.1 held h) it.1.sorted (it.2 ∙ ap (take 1) it.1.shown)
  where
    q : Query
    q = rows_of tree tests project (by_columns (map suc cs))

    by_outs : (outs : List Output) → IsPermutation (map (out_of cs pick) (filter keeps held)) outs → IsSorted (output_cmp q) outs → rows ≡ take 1 (map (λ (o : Output). o.1) outs)
        → (found : Option Row) × IsFirst (cells_cmp cs) (filter keeps held) found × (rows ≡ map pick (option_to_list found))
    by_outs [] out sorted are = (None, no_rows (out_of cs pick) (filter keeps held) (no_more _ out), are)
    by_outs (o ∷ outs) out sorted are =
        let it = had (out_of cs pick) (filter keeps held) o (permuted _ _ out o (inl refl)) in
        let least : AllByRecursion (λ p. is_gt (output_cmp q o p) ≡ false) (o ∷ outs) =
        (ap is_gt (tied_itself (output_cmp_total q) o), least_first (output_cmp q) (output_cmp_total q) o outs sorted) in
        let passing : AllByRecursion (λ r. is_gt (output_cmp q o (out_of cs pick r)) ≡ false) (filter keeps held) =
        all_under (λ p. is_gt (output_cmp q o p) ≡ false) (out_of cs pick) (filter keeps held) (all-permutation _ _ _ (IsPermutation-sym _ _ out) least) in (
          Some it.0,
          (
            it.1,
            all_weaker _ (λ r. is_gt (cells_cmp cs it.0 r) ≡ false)
                (λ r above. ap is_gt (sym (picked_cmp cs it.0 r)) ∙ subst (λ (p : Output). is_gt (output_cmp q p (out_of cs pick r)) ≡ false) it.2 above) (filter keeps held) passing,
          ),
          are ∙ ap (λ (p : Output). p.1 ∷ []) it.2,
        )

-- the first of the records, by these of its cells
module _ {X : Type 0} (schema : Schema) (sql : List ℕ) (params : Row) (old : State) (rows : List Row) (tree : ℕ) (tests project : List Term) (cs : List ℕ) (names : List (List ℕ)) where
  pub record_first : old.now.schema ≡ schema → IsPlain (understood schema sql) → reads_listing schema sql ≡ false
      → command_of (understood schema sql) ≡ Select (program_of (first_row_query (rows_of tree tests project (by_columns (map suc cs))))) names
      → (keeps : Row → Bool) (pick : Row → Row) → ((r : Row) → passes params tests r ≡ keeps (drop 1 r)) → ((r : Row) → eval_all project (params ∷ r ∷ []) ≡ pick (drop 1 r)) → ((r : Row) (c : ℕ) → column r (suc c) ≡ column (drop 1 r) c)
      → (cells : X → Row) (test : X → Bool) → ((x : X) → keeps (cells x) ≡ test x) → ((x : X) → pick (cells x) ≡ cells x)
      → IsAnswer sql params old rows → (held : List X) → HasRows (old.now.trees tree) (map cells held)
      → (found : Option X) × IsFirst (λ a b. cells_cmp cs (cells a) (cells b)) (filter test held) found × (rows ≡ map cells (option_to_list found))
  record_first has plain unlisted is keeps pick there shown keyed cells test kept picked answer held h =
      let read = answer_as sql params old schema has _ is plain unlisted rows answer in
      let it = first_read tree tests project cs old.now.trees params rows keeps pick there shown keyed read.answer (map cells held) h in
      let passing : filter keeps (map cells held) ≡ map cells (filter test held) = filter-map keeps cells held ∙ ap (map cells) (filter_same _ _ kept held) in
      by_row it.0 (subst (λ (l : List Row). IsFirst (cells_cmp cs) l it.0) passing it.1) it.2
    where
      by_row : (found : Option Row) → IsFirst (cells_cmp cs) (map cells (filter test held)) found → rows ≡ map pick (option_to_list found)
          → (found : Option X) × IsFirst (λ a b. cells_cmp cs (cells a) (cells b)) (filter test held) found × (rows ≡ map cells (option_to_list found))
      by_row None none are = (None, no_rows cells (filter test held) none, are)
      by_row (Some row) first are =
          let it = had cells (filter test held) row first.0 in (
            Some it.0,
            (it.1, all_under (λ r. is_gt (cells_cmp cs (cells it.0) r) ≡ false) cells (filter test held) (subst (λ (r : Row). AllByRecursion (λ other. is_gt (cells_cmp cs r other) ≡ false) (map cells (filter test held))) it.2 first.1)),
            are ∙ ap (λ (r : Row). pick r ∷ []) it.2 ∙ ap (λ (r : Row). r ∷ []) (picked it.0),
          )
