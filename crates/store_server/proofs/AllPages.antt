-- Pages that go on come to all invocations.
use Rattle.std.proofs.Common.{◌≡◌, ℕ, zero, suc, ◌-◌, ◌<◌, List, [], ◌∷◌, ◌++◌, length, map, filter, take, drop, slice_get, Some, refl, sym, ap, ◌∙◌, append-nil, arith}
use Rattle.std.proofs.lemmas.Grind.{flat_map-append}
use Rattle.journal_model.specs.Notification.{Text}
use Rattle.journal_model.specs.Event.{Event}
use Rattle.store_tables.specs.declared.row.InvocationRow.{InvocationRow}
use Rattle.store_tables.specs.Questions.{is_named_after}
use Rattle.store_live_laws.proofs.Awake.{begun_rise}
use Rattle.store_reads.specs.Page.{rows_behind, rows_by_id}
use Rattle.store_reads.proofs.PageRows.{DoRise, others_behind}
use Rattle.store_server.specs.declared.rows.ListedInvocation.{ListedInvocation}
use Rattle.store_server.specs.Rows.{all_listed_text, listed_of, listed_text}
use Rattle.store_server.specs.Pages.{ArePages, PagesAreAll, behind_pages, id_behind, id_or, page_size, pages_text}

-- ---- lists

one_less : (n : ℕ) → suc (suc n) - 1 ≡ suc (suc n - 1)
one_less n = omega arith

joins : {A : Type 0} (xs ys zs : List A) → (xs ++ ys) ++ zs ≡ xs ++ (ys ++ zs)
joins [] ys zs = refl
joins (x ∷ xs) ys zs = λ i. x ∷ joins xs ys zs i

split : {A : Type 0} (n : ℕ) (xs : List A) → xs ≡ take n xs ++ drop n xs
split zero [] = refl
split zero (x ∷ xs) = refl
split (suc n) [] = refl
split (suc n) (x ∷ xs) = λ i. x ∷ split n xs i

-- behind a part that is not full nothing is left
none_left : {A : Type 0} (n : ℕ) (xs : List A) → length (take n xs) < n → drop n xs ≡ []
none_left zero xs less = absurd (omega (arith, less))
none_left (suc n) [] less = refl
none_left (suc n) (x ∷ xs) less = none_left n xs (omega (arith, less))

map_join : {A B : Type 0} (f : A → B) (xs ys : List A) → map f (xs ++ ys) ≡ map f xs ++ map f ys
map_join f [] ys = refl
map_join f (x ∷ xs) ys = λ i. f x ∷ map_join f xs ys i

as_many : {A B : Type 0} (f : A → B) (xs : List A) → length (map f xs) ≡ length xs
as_many f [] = refl
as_many f (x ∷ xs) = λ i. suc (as_many f xs i)

-- ---- the rows behind some rows

abbrev cursor : Text → List InvocationRow → Text
cursor after [] = after
cursor after (row ∷ rows) = cursor row.id rows

behind_rows : (all : List InvocationRow) → DoRise all → (rows rest : List InvocationRow) (after : Text) → filter (is_named_after (Some after)) all ≡ rows ++ rest
    → filter (is_named_after (Some (cursor after rows))) all ≡ rest
behind_rows all up [] rest after e = e
behind_rows all up (row ∷ rows) rest after e = behind_rows all up rows rest row.id (others_behind (Some after) all row (rows ++ rest) up e)

module _ (events : List Event) where
  cursor_is : (after : Text) (rows : List InvocationRow) → id_behind after (map (listed_of events) rows) ≡ cursor after rows
  cursor_is after [] = refl
  cursor_is after (x ∷ []) = refl
  cursor_is after (x ∷ y ∷ rows) =
      ap (λ (n : ℕ). id_or after (slice_get (map (listed_of events) (x ∷ y ∷ rows)) n)) (one_less (length (map (listed_of events) rows)))
      ∙ cursor_is after (y ∷ rows)

  abbrev behind : Text → List InvocationRow
  behind after = rows_behind events (Some after)

  abbrev text_of : List InvocationRow → List ℕ
  text_of rows = all_listed_text (map (listed_of events) rows)

  module _ (up : DoRise (rows_by_id events)) (most : ℕ) (after : Text) (page : List ListedInvocation) (is : page ≡ map (listed_of events) (take most (behind after))) where
    rest_is : behind (id_behind after page) ≡ drop most (behind after)
    rest_is =
        ap behind (ap (id_behind after) is ∙ cursor_is after (take most (behind after)))
        ∙ behind_rows (rows_by_id events) up (take most (behind after)) (drop most (behind after)) after (split most (behind after))

    page_and_rest : all_listed_text page ++ text_of (behind (id_behind after page)) ≡ text_of (behind after)
    page_and_rest =
        (λ i. all_listed_text (is i) ++ text_of (rest_is i))
        ∙ sym (flat_map-append listed_text (map (listed_of events) (take most (behind after))) (map (listed_of events) (drop most (behind after))))
        ∙ ap all_listed_text (sym (map_join (listed_of events) (take most (behind after)) (drop most (behind after))) ∙ ap (map (listed_of events)) (sym (split most (behind after))))

    none_behind : length page < most → behind (id_behind after page) ≡ []
    none_behind less =
        let n : length page ≡ length (take most (behind after)) = ap length is ∙ as_many (listed_of events) (take most (behind after)) in
        rest_is ∙ none_left most (behind after) (omega (arith, n, less))

  pages_and_rest : DoRise (rows_by_id events) → (pages : List (List ListedInvocation)) → ArePages pages events → pages_text pages ++ text_of (behind (behind_pages pages)) ≡ text_of (behind [])
  pages_and_rest up [] are = refl
  pages_and_rest up (page ∷ before) are =
      let after = behind_pages before in
      joins (pages_text before) (all_listed_text page) (text_of (behind (id_behind after page)))
      ∙ ap (λ (text : List ℕ). pages_text before ++ text) (page_and_rest up page_size after page are.1)
      ∙ pages_and_rest up before are.0

pub pages_are_all : PagesAreAll
pages_are_all events [] accepted are last = absurd last
pages_are_all events (page ∷ before) accepted are last =
    let up = begun_rise events accepted in
    let none = none_behind events up page_size (behind_pages before) page are.1 last in
    sym (append-nil (pages_text (page ∷ before)))
    ∙ ap (λ (rows : List InvocationRow). pages_text (page ∷ before) ++ text_of events rows) (sym none)
    ∙ pages_and_rest events up (page ∷ before) are
