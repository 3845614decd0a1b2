-- What a query over one table answers.
use Rattle.std.proofs.Common.{◌≡◌, ℕ, Bool, true, false, cond, List, [], ◌∷◌, ◌++◌, map, filter, flat_map, drop, take, ◌^◌, nat_le, Option, None, refl, sym, ap, subst, ◌∙◌}
use Rattle.std.specs.List.{list_all}
use Rattle.std.specs.List.Sorted.{IsPermutation, IsSorted}
use Rattle.std.proofs.lemmas.List.Sorted.{IsPermutation-map, IsPermutation-sym, IsPermutation-trans}
use Rattle.sqlite.specs.declared.types.Value.TheVariants.{Null}
use Rattle.sqlite_value.specs.Order.{Row}
use Rattle.sqlite_value.specs.declared.keys.Key.{Key}
use Rattle.sqlite.specs.Term.{Term, eval_all, holds}
use Rattle.sqlite.specs.Query.{Query, Output, output, output_cmp, IsAnswer}
use Rattle.sqlite.specs.Tree.{Trees}
use Rattle.sqlite_keyed.proofs.ListLemmas.{map-map, map_same, filter-map, filter_same, IsPermutation-filter}
use Rattle.sqlite_sql.specs.Program.{overlay, IsProgramAnswer}
use Rattle.std.specs.Option.{unwrap_or}
use Rattle.sql_tables.specs.Content.{HasRows}
use Rattle.sql_tables.specs.Statements.{first_row_query, rows_of}

pub no_let : (db : Trees) (tree : ℕ) → overlay db [] tree ≡ db tree
no_let db tree = elim (nat_le (2 ^ 31) tree) as (λ b. unwrap_or (cond {A = Option (List Row)} b None None) (db tree) ≡ db tree) [ true ↦ refl | false ↦ refl ]

abbrev pub passes : Row → List Term → Row → Bool
passes params tests r = list_all (holds (params ∷ r ∷ [])) tests

shown_matches : {X Y Z : Type 0} (p : X → Bool) (e : X → Y) (g : Y → Z) (xs : List X) → map g (flat_map (λ x. cond (p x) (e x ∷ []) []) xs) ≡ map (λ x. g (e x)) (filter p xs)
shown_matches p e g [] = refl
shown_matches {Y = Y} {Z = Z} p e g (x ∷ xs) = elim (p x) as (λ b. map g (cond b (e x ∷ []) [] ++ flat_map (λ x. cond (p x) (e x ∷ []) []) xs) ≡ map (λ x. g (e x)) (cond b (x ∷ filter p xs) (filter p xs))) [
  | true ↦ ap (λ (l : List Z). g (e x) ∷ l) (shown_matches p e g xs)
  | false ↦ shown_matches p e g xs
]

pub record IsListOf (q : Query) (params : Row) (matches : List Row) (rows : List Row) : Type 0 where
  pub outs : List Output
  pub same : IsPermutation (map (λ r. output q (params ∷ r ∷ [])) matches) outs
  pub sorted : IsSorted (output_cmp q) outs
  pub shown : rows ≡ map (λ o. o.1) outs

module _ (tree : ℕ) (tests project : List Term) (order : List (Term × Key)) (db : Trees) (params : Row) (rows : List Row) where
  abbrev q : Query
  q = rows_of tree tests project order

  pub answered : IsAnswer q db params rows → IsListOf q params (filter (passes params tests) (db tree)) rows
  answered a = record {
    outs = a.ordered;
    same = subst (λ k. IsPermutation k a.ordered) (a.distinct ∙ ap (map (output q)) a.grouped ∙ shown_matches (passes params tests) (λ r. params ∷ r ∷ []) (output q) (db tree)) a.same;
    sorted = a.sorted;
    shown = a.shown;
  }

  -- of which only the first is asked for
  pub first_answered : IsAnswer (first_row_query q) db params rows → (all : List Row) × IsListOf q params (filter (passes params tests) (db tree)) all × (rows ≡ take 1 all)
  first_answered a = (
    map (λ (o : Output). o.1) a.ordered,
    record {
      outs = a.ordered;
      same = subst (λ k. IsPermutation k a.ordered) (a.distinct ∙ ap (map (output q)) a.grouped ∙ shown_matches (passes params tests) (λ r. params ∷ r ∷ []) (output q) (db tree)) a.same;
      sorted = a.sorted;
      shown = refl;
    },
    a.shown,
  )

  pub shows : (matches : List Row) → IsListOf q params matches rows → IsPermutation (map (λ r. eval_all project (params ∷ r ∷ [])) matches) rows
  shows matches a = subst (λ l. IsPermutation l rows) (map-map (λ o. o.1) (λ r. output q (params ∷ r ∷ [])) matches) (subst (IsPermutation _) (sym a.shown) (IsPermutation-map (λ (o : Output). o.1) _ _ a.same))

-- the rows that pass, as they are shown, in some order
pub rows_read : (tree : ℕ) (tests project : List Term) (order : List (Term × Key)) (db : Trees) (params : Row) (rows : List Row) (keeps : Row → Bool) (pick : Row → Row)
    → ((r : Row) → passes params tests r ≡ keeps (drop 1 r)) → ((r : Row) → eval_all project (params ∷ r ∷ []) ≡ pick (drop 1 r))
    → IsProgramAnswer [] (rows_of tree tests project order) db params rows → (held : List Row) → HasRows (db tree) held → IsPermutation (map pick (filter keeps held)) rows
rows_read tree tests project order db params rows keeps pick same shown answer held h =
    let a = answered tree tests project order (overlay db []) params rows (answer Null) in
    let listed = rw (no_let db tree) at (shows tree tests project order (overlay db []) params rows _ a) in
    let kept : IsPermutation (map (drop 1) (filter (passes params tests) (db tree))) (filter keeps held) =
    subst (λ l. IsPermutation l (filter keeps held)) (filter-map keeps (drop 1) (db tree) ∙ ap (map (drop 1)) (filter_same _ _ (λ r. sym (same r)) (db tree))) (IsPermutation-filter keeps _ _ h.same) in
    let seen : map (λ r. eval_all project (params ∷ r ∷ [])) (filter (passes params tests) (db tree)) ≡ map pick (map (drop 1) (filter (passes params tests) (db tree))) =
    map_same _ _ shown _ ∙ sym (map-map pick (drop 1) _) in
    IsPermutation-trans _ _ _ (IsPermutation-sym _ _ (IsPermutation-map pick _ _ kept)) (subst (λ l. IsPermutation l rows) seen listed)
