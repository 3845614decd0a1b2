-- Ids are read one by one.
use Rattle.std.proofs.Common.{◌≡◌, ℕ, ◌+◌, ◌<◌, ◌≤◌, ◌==◌, true, false, List, [], ◌∷◌, ◌++◌, length, map, drop, get_or, Bor, Option, Some, None, Err, refl, sym, ap, ◌∙◌, append_assoc, append-nil, arith}
use Rattle.std.proofs.lemmas.Bool.{eqb-true}
use Rattle.std.proofs.lemmas.List.{drop_all, drop_more}
use Rattle.script_lines.specs.LineReader.{Gives, then_read}
use Rattle.script_lines.specs.declared.word.LineError.{LineError}
use Rattle.script_lines.specs.declared.word.LineError.TheVariants.{NotUnderstood, Memory}
use Rattle.server_lines.specs.WordReader.{text_of}
use Rattle.server_lines.specs.RequestReader.{forget_of, ids_of}
use Rattle.server_lines.specs.declared.request.Request.{Request}
use Rattle.server_lines.specs.declared.request.Request.TheVariants.{Forget}

-- ids that were read, and behind them those of the words that are left
unfoldable pub behind : List (List ℕ) → Option (List (List ℕ)) → Option (List (List ℕ))
behind front None = None
behind front (Some ids) = Some (front ++ ids)

pub behind_none : (ids : Option (List (List ℕ))) → behind [] ids ≡ ids
unfolding behind
behind_none None = refl
behind_none (Some ids) = refl

one_more : (front : List (List ℕ)) (id : List ℕ) (ids : Option (List (List ℕ))) → behind front (then_read ids (λ others. Some (id ∷ others))) ≡ behind (front ++ id ∷ []) ids
unfolding behind then_read
one_more front id None = refl
one_more front id (Some ids) = ap Some (sym (append_assoc front (id ∷ []) ids))

-- an id more was read
pub id_more : (front : List (List ℕ)) (word : List ℕ) (words : List (List ℕ)) (id : List ℕ) → text_of word ≡ Some id → behind front (ids_of (word ∷ words)) ≡ behind (front ++ id ∷ []) (ids_of words)
unfolding ids_of then_read
id_more front word words id e = rw e (one_more front id (ids_of words))

-- a word is no id
pub no_id : (front : List (List ℕ)) (word : List ℕ) (words : List (List ℕ)) → text_of word ≡ None → behind front (ids_of (word ∷ words)) ≡ None
unfolding ids_of then_read behind
no_id front word words e = rw e refl

-- all were read
pub no_more : (front : List (List ℕ)) → behind front (ids_of []) ≡ Some front
unfolding ids_of behind
no_more front = ap Some (append-nil front)

-- ---- words in a slice

abbrev pub words_in : List (Bor (List ℕ)) → List (List ℕ)
words_in slice = map (λ word. word.now) slice

module _ (all : List (Bor (List ℕ))) (i : ℕ) where
  -- a word, and those behind it
  one_word : (d : Bor (List ℕ)) → i < length all → words_in (drop i all) ≡ (get_or all i d).now ∷ words_in (drop (i + 1) all)
  one_word d h = ap words_in (drop_more all i d h)

  pub read_on : (front back : List (List ℕ)) (d : Bor (List ℕ)) (id : List ℕ) → i < length all → behind front (ids_of (words_in (drop i all))) ≡ ids_of (words_in all)
      → text_of (get_or all i d).now ≡ Some id → back ≡ front ++ id ∷ [] → behind back (ids_of (words_in (drop (i + 1) all))) ≡ ids_of (words_in all)
  read_on front back d id h so read is =
      ap (λ (some : List (List ℕ)). behind some (ids_of (words_in (drop (i + 1) all)))) is
      ∙ sym (id_more front (get_or all i d).now (words_in (drop (i + 1) all)) id read)
      ∙ ap (λ (words : List (List ℕ)). behind front (ids_of words)) (sym (one_word d h))
      ∙ so

  pub not_read : (front : List (List ℕ)) (d : Bor (List ℕ)) (error : LineError) → i < length all → behind front (ids_of (words_in (drop i all))) ≡ ids_of (words_in all)
      → Gives {A = List ℕ} (Err error) (text_of (get_or all i d).now) → Gives {A = List (List ℕ)} (Err error) (ids_of (words_in all))
  not_read front d NotUnderstood h so none =
      sym so ∙ ap (λ (words : List (List ℕ)). behind front (ids_of words)) (one_word d h) ∙ no_id front (get_or all i d).now (words_in (drop (i + 1) all)) none
  not_read front d Memory h so none = tt

  pub all_read : (front : List (List ℕ)) → length all ≤ i → behind front (ids_of (words_in (drop i all))) ≡ ids_of (words_in all) → ids_of (words_in all) ≡ Some front
  all_read front h so = sym so ∙ ap (λ (some : List (Bor (List ℕ))). behind front (ids_of (words_in some))) (drop_all i all h) ∙ no_more front

-- ---- one at least

pub none_named : (words : List (Bor (List ℕ))) → (length words == 0) ≡ true → forget_of (words_in words) ≡ None
unfolding forget_of
none_named [] e = refl
none_named (word ∷ words) e = absurd (let zero = eqb-true (length (word ∷ words)) 0 e in omega (arith, zero))

pub some_named : (words : List (Bor (List ℕ))) (ids : List (List ℕ)) → (length words == 0) ≡ false → ids_of (words_in words) ≡ Some ids → forget_of (words_in words) ≡ Some (Forget ids)
unfolding forget_of then_read
some_named [] ids e read = cc
some_named (word ∷ words) ids e read = rw read refl

pub not_named : (words : List (Bor (List ℕ))) (error : LineError) → Gives {A = List (List ℕ)} (Err error) (ids_of (words_in words)) → Gives {A = Request} (Err error) (forget_of (words_in words))
unfolding forget_of then_read
not_named [] NotUnderstood none = refl
not_named (word ∷ words) NotUnderstood none = rw none refl
not_named words Memory none = tt
