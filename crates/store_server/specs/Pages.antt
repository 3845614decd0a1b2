-- A store that is listed page by page.
use Rattle.std.specs.Prelude.{◌≡◌, ◌⊎◌, ◌<◌, ◌≤◌, ◌-◌, ℕ, List, [], ◌∷◌, ◌++◌, length, map, slice_get, take, Option, Some, None, Result, Ok, Err}
use Rattle.std.specs.Io.KnownBytes.{Appends}
use Rattle.sqlite_trees.specs.declared.store.Store.{Ghosts}
use Rattle.journal_model.specs.Notification.{Text}
use Rattle.journal_model.specs.Event.{Event}
use Rattle.journal_model.specs.Cause.{IsAccepted}
use Rattle.store_reads.specs.Page.{invocations_after, rows_behind}
use Rattle.journal_store.specs.StoreView.{Stored}
use Rattle.store_server.specs.declared.fault.ServerFault.{ServerFault}
use Rattle.store_server.specs.declared.fault.ServerFault.TheVariants.{InputUnreadable, LineTooLong, LineOutOfMemory, AnswerOutOfMemory, Untold, OutputUnwritable}
use Rattle.store_server.specs.declared.rows.ListedInvocation.{ListedInvocation}
use Rattle.store_server.specs.StoreChanges.{CommitsNothing, ReachesStore}
use Rattle.store_server.specs.RequestAnswers.{Shown}
use Rattle.store_server.specs.Rows.{all_listed_text, end_line, listed_of}

-- how many invocations a page has at most
abbrev pub page_size : ℕ
page_size = 1000

-- the id behind which the next page goes on: that of the last invocation
abbrev pub id_or : Text → Option ListedInvocation → Text
id_or after None = after
id_or after (Some listed) = listed.row.id

abbrev pub id_behind : Text → List ListedInvocation → Text
id_behind after page = id_or after (slice_get page (length page - 1))

-- Of pages the last one comes first.
abbrev pub behind_pages : List (List ListedInvocation) → Text
behind_pages [] = []
behind_pages (page ∷ before) = id_behind (behind_pages before) page

-- the page behind an id
abbrev pub IsPage : Text → List ListedInvocation → List Event → Type 0
IsPage after page events = page ≡ map (listed_of events) (invocations_after events (Some after) page_size)

-- each is the page behind those before it
abbrev pub ArePages : List (List ListedInvocation) → List Event → Type 0
ArePages [] events = Unit {0}
ArePages (page ∷ before) events = ArePages before events × IsPage (behind_pages before) page events

abbrev pub pages_text : List (List ListedInvocation) → List ℕ
pages_text [] = []
pages_text (page ∷ before) = pages_text before ++ all_listed_text page

-- behind a page that is not full there is none
abbrev pub IsLast : List (List ListedInvocation) → Type 0
IsLast [] = ⊥
IsLast (page ∷ before) = length page < page_size

-- Then the pages are all invocations, in the order of their ids: those whose ids are above the empty one, which no invocation has.
abbrev pub PagesAreAll : Type 0
PagesAreAll = (events : List Event) (pages : List (List ListedInvocation)) → IsAccepted events → ArePages pages events → IsLast pages
    → pages_text pages ≡ all_listed_text (map (listed_of events) (rows_behind events (Some [])))

-- of this text this was written
abbrev pub IsPart : List ℕ → List ℕ → Type 0
IsPart text written = (taken : ℕ) × (taken ≤ length text) × (written ≡ take taken text)

-- all pages but the last one, which was not written, or only so much of it
abbrev pub WritesPages : List (List ListedInvocation) → List ℕ → Type 0
WritesPages [] output = ⊥
WritesPages (page ∷ before) output = (part : List ℕ) × IsPart (all_listed_text page) part × (output ≡ pages_text before ++ part)

-- Why it ends: behind the last page; where the store does not tell one; for want of memory, where the last page is written or not; or where
-- a page, or the end, cannot be written, or only a part of it.
abbrev pub EndsListing : Result (Unit {0}) ServerFault → List (List ListedInvocation) → List ℕ → Type 0
EndsListing (Ok _) pages output = IsLast pages × (output ≡ pages_text pages ++ end_line)
EndsListing (Err Untold) pages output = output ≡ pages_text pages
EndsListing (Err LineOutOfMemory) pages output = WritesPages pages output
EndsListing (Err OutputUnwritable) pages output = WritesPages pages output ⊎ (IsLast pages × ((part : List ℕ) × IsPart end_line part × (output ≡ pages_text pages ++ part)))
EndsListing (Err InputUnreadable) pages output = ⊥
EndsListing (Err LineTooLong) pages output = ⊥
EndsListing (Err AnswerOutOfMemory) pages output = ⊥

-- ---- a page that was told

-- nothing more is written, for want of memory or since the writer fails, and so much was
abbrev pub IsWriteFault : ServerFault → Type 0
IsWriteFault fault = (fault ≡ LineOutOfMemory) ⊎ (fault ≡ OutputUnwritable)

abbrev pub StopsWriting : List ℕ → (had has : Option (List ℕ)) → ServerFault → Type 0
StopsWriting text had has fault = IsWriteFault fault × ((output : List ℕ) × IsPart text output × Appends had has output)

-- the id behind which the next page goes on, or nothing where this one is not full
abbrev pub GoesBehind : List ListedInvocation → Option Text → Type 0
GoesBehind page (Some last) = (after : Text) → last ≡ id_behind after page
GoesBehind page None = length page < page_size

abbrev pub ShowsPage : List ListedInvocation → (had has : Option (List ℕ)) → Result (Option Text) ServerFault → Type 0
ShowsPage page had has (Ok next) = Appends had has (all_listed_text page) × GoesBehind page next
ShowsPage page had has (Err fault) = StopsWriting (all_listed_text page) had has fault

module _ {S : Type 0} (g : Ghosts S) where
  -- this is told of what the store stands for, which stays
  abbrev pub TellsSo : (List Event → Type 0) → Stored S → Stored S → Type 0
  TellsSo IsTold old new = ReachesStore g CommitsNothing (Shown IsTold) old new

  -- These pages were told, and this was written of them. Nothing is committed, and what the store stands for stays.
  pub record Lists (had has : Option (List ℕ)) (old new : Stored S) (result : Result (Unit {0}) ServerFault) : Type 0 where
    pub pages : List (List ListedInvocation)
    pub output : List ℕ
    pub told : TellsSo (ArePages pages) old new
    pub written : Appends had has output
    pub ends : EndsListing result pages output

  -- ---- page by page

  -- these pages were told and written, and the next one goes on behind this id
  pub record HasListed (had has : Option (List ℕ)) (old new : Stored S) (after : Text) (pages : List (List ListedInvocation)) : Type 0 where
    pub told : TellsSo (ArePages pages) old new
    pub written : Appends had has (pages_text pages)
    pub behind : after ≡ behind_pages pages

  -- the page behind an id was told, and this of it was written
  pub record ListsOne (after : Text) (had has : Option (List ℕ)) (old new : Stored S) (page : List ListedInvocation) (output : List ℕ) : Type 0 where
    pub told : TellsSo (IsPage after page) old new
    pub written : Appends had has output

  abbrev pub ListsPage : Text → (had has : Option (List ℕ)) → Stored S → Stored S → Result (Option Text) ServerFault → Type 0
  ListsPage after had has old new (Ok next) = (page : List ListedInvocation) × ListsOne after had has old new page (all_listed_text page) × GoesBehind page next
  ListsPage after had has old new (Err Untold) = TellsSo (λ events. Unit {0}) old new × Appends had has []
  ListsPage after had has old new (Err fault) =
      IsWriteFault fault × (page : List ListedInvocation) × ((output : List ℕ) × IsPart (all_listed_text page) output × ListsOne after had has old new page output)

  -- what is told where all pages were written, or why not
  abbrev pub ListsAll : (had has : Option (List ℕ)) → Stored S → Stored S → Result (Unit {0}) ServerFault → Type 0
  ListsAll had has old new (Ok _) = (pages : List (List ListedInvocation)) × TellsSo (ArePages pages) old new × Appends had has (pages_text pages) × IsLast pages
  ListsAll had has old new (Err why) = Lists had has old new (Err why)
