-- Rows that are listed, one after another.
use Rattle.std.proofs.Common.{◌≡◌, ℕ, ◌<◌, zero, suc, List, [], ◌∷◌, ◌++◌, length, map, get_or, Ok, Err, refl, sym, ap, subst, ◌∙◌, inr, arith}
use Rattle.std.specs.Prelude.{is_some}
use Rattle.std.specs.List.{AllByRecursion}
use Rattle.sqlite_trees.specs.declared.store.Store.{Ghosts}
use Rattle.journal_model.specs.Event.{Event}
use Rattle.server_lines.specs.declared.reply.AnswerKind.{AnswerKind}
use Rattle.server_lines.specs.declared.reply.InvocationStatus.{InvocationStatus}
use Rattle.store_refusals.specs.declared.refusal.Refusal.{Refusal}
use Rattle.store_refusals.specs.declared.refusal.Refusal.TheVariants.{OutOfMemory}
use Rattle.store_refusals.specs.RefusalConditions.{IsRefused}
use Rattle.store_tables.specs.declared.row.InvocationRow.{InvocationRow}
use Rattle.store_live.specs.Attempts.{ByInvocation, attempt_of}
use Rattle.journal_store.specs.StoreView.{Stored}
use Rattle.store_server.specs.declared.rows.ListedInvocation.{ListedInvocation}
use Rattle.store_server.specs.Rows.{IsBegunRow, ListsRow, ListsRows, TellsKind, listed_by, row_status}
use Rattle.store_server.specs.StoreChanges.{CommitsNothing, ReachesStore}
use Rattle.store_server.specs.RequestAnswers.{Shown}
use Rattle.store_server.proofs.Reaching.{reaches_both, reaches_none, stays}
use Rattle.store_server.proofs.Showing.{shown_so}

all_at : {A : Type 0} (Holds : A → Type 0) (xs : List A) (k : ℕ) (d : A) → k < length xs → AllByRecursion Holds xs → Holds (get_or xs k d)
all_at Holds [] k d within h = absurd (omega arith)
all_at Holds (x ∷ xs) zero d within h = h.0
all_at Holds (x ∷ xs) (suc k) d within h = all_at Holds xs k d (omega arith) h.1

mapped : {A B : Type 0} (f : A → B) (xs : List A) (x : A) → map f (xs ++ x ∷ []) ≡ map f xs ++ f x ∷ []
mapped f [] x = refl
mapped {B = B} f (y ∷ xs) x = ap (λ (l : List B). f y ∷ l) (mapped f xs x)

pub as_they_are : {A : Type 0} (xs : List A) → map (λ x. x) xs ≡ xs
as_they_are [] = refl
as_they_are (x ∷ xs) = let rest = as_they_are xs in λ i. x ∷ rest i

-- for want of memory, whatever was asked
for_memory : (why : Refusal) → why ≡ OutOfMemory → IsRefused [] why
for_memory why is = subst (λ (w : Refusal). IsRefused [] w) (sym is) (inr refl)

-- these were listed of rows
abbrev pub HasListed : ByInvocation → List InvocationRow → List InvocationRow → List ListedInvocation → List Event → Type 0
HasListed attempts rows some listed events = AllByRecursion (IsBegunRow events) rows → listed ≡ map (listed_by attempts events) some

module _ {S : Type 0} (g : Ghosts S) (attempts : ByInvocation) where
  -- ---- one

  module _ (row : InvocationRow) (a b : Stored S) where
    pub row_listed : (status : InvocationStatus) (answer : AnswerKind) → status ≡ row_status row (is_some (attempt_of attempts row.id)) → ReachesStore g CommitsNothing (Shown (TellsKind row (Ok answer))) a b
        → ReachesStore g CommitsNothing (Shown (ListsRow attempts row (Ok (record { row = row; status = status; answer = answer })))) a b
    row_listed status answer how one =
        shown_so g (TellsKind row (Ok answer)) (ListsRow attempts row (Ok (record { row = row; status = status; answer = answer }))) a b
        (λ events told is. λ i. record { row = row; status = how i; answer = told is i }) one

    pub row_unlisted : (why : Refusal) → ReachesStore g CommitsNothing (Shown (TellsKind row (Err why))) a b → ReachesStore g CommitsNothing (Shown (ListsRow attempts row (Err why))) a b
    row_unlisted why one = shown_so g (TellsKind row (Err why)) (ListsRow attempts row (Err why)) a b (λ events told is. told is) one

  -- ---- all

  module _ (rows : List InvocationRow) where
    pub none_listed : (a : Stored S) (listed : List ListedInvocation) → listed ≡ [] → ReachesStore g CommitsNothing (Shown (HasListed attempts rows [] listed)) a a
    none_listed a listed none = reaches_none g CommitsNothing (Shown (HasListed attempts rows [] listed)) a (λ s. ((λ all. none), stays s))

    pub unlisted_first : (a : Stored S) (why : Refusal) → why ≡ OutOfMemory → ReachesStore g CommitsNothing (Shown (ListsRows attempts rows (Err why))) a a
    unlisted_first a why is = reaches_none g CommitsNothing (Shown (ListsRows attempts rows (Err why))) a (λ s. ((λ all. for_memory why is), stays s))

    pub all_listed : (a b : Stored S) (some : List InvocationRow) (listed : List ListedInvocation) → some ≡ rows → ReachesStore g CommitsNothing (Shown (HasListed attempts rows some listed)) a b
        → ReachesStore g CommitsNothing (Shown (ListsRows attempts rows (Ok listed))) a b
    all_listed a b some listed is one =
        shown_so g (HasListed attempts rows some listed) (ListsRows attempts rows (Ok listed)) a b
        (λ events told all. told all ∙ ap (map (listed_by attempts events)) is) one

    module _ (a b c : Stored S) (some : List InvocationRow) (before : List ListedInvocation) (row d : InvocationRow) (within : length some < length rows) (at : get_or rows (length some) d ≡ row)
        (one : ReachesStore g CommitsNothing (Shown (HasListed attempts rows some before)) a b) where
      is_begun : (events : List Event) → AllByRecursion (IsBegunRow events) rows → IsBegunRow events row
      is_begun events all = subst (IsBegunRow events) at (all_at (IsBegunRow events) rows (length some) d within all)

      pub one_listed : (listed : ListedInvocation) (after : List ListedInvocation) → after ≡ before ++ listed ∷ [] → ReachesStore g CommitsNothing (Shown (ListsRow attempts row (Ok listed))) b c
          → ReachesStore g CommitsNothing (Shown (HasListed attempts rows (some ++ row ∷ []) after)) a c
      one_listed listed after is two =
          reaches_both g (HasListed attempts rows some before) (ListsRow attempts row (Ok listed)) (HasListed attempts rows (some ++ row ∷ []) after) a b c
          (λ events p q all.
          is
          ∙ (λ i. p all i ++ q (is_begun events all) i ∷ [])
          ∙ sym (mapped (listed_by attempts events) some row)) one two

      pub one_unlisted : (why : Refusal) → ReachesStore g CommitsNothing (Shown (ListsRow attempts row (Err why))) b c → ReachesStore g CommitsNothing (Shown (ListsRows attempts rows (Err why))) a c
      one_unlisted why two =
          reaches_both g (HasListed attempts rows some before) (ListsRow attempts row (Err why)) (ListsRows attempts rows (Err why)) a b c (λ events p q all. q (is_begun events all)) one two

      pub one_dropped : (listed : ListedInvocation) (why : Refusal) → why ≡ OutOfMemory → ReachesStore g CommitsNothing (Shown (ListsRow attempts row (Ok listed))) b c
          → ReachesStore g CommitsNothing (Shown (ListsRows attempts rows (Err why))) a c
      one_dropped listed why is two =
          reaches_both g (HasListed attempts rows some before) (ListsRow attempts row (Ok listed)) (ListsRows attempts rows (Err why)) a b c (λ events p q all. for_memory why is) one two
