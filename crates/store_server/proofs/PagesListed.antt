-- One page more, and each way to come to an end.
use Rattle.std.proofs.Common.{◌≡◌, ℕ, ◌≤◌, List, [], ◌∷◌, ◌++◌, length, take, Option, Some, None, Result, Ok, Err, refl, sym, ap, subst, ◌∙◌, inl, inr}
use Rattle.std.specs.Prelude.{IfErr, OnOk}
use Rattle.std.specs.Io.KnownBytes.{Appends}
use Rattle.std.proofs.KnownBytes.{Appends-nil, Appends-trans}
use Rattle.sqlite_trees.specs.declared.store.Store.{Ghosts}
use Rattle.journal_model.specs.Notification.{Text}
use Rattle.journal_store.specs.StoreView.{Stored}
use Rattle.store_server.specs.declared.fault.ServerFault.{ServerFault}
use Rattle.store_server.specs.declared.fault.ServerFault.TheVariants.{InputUnreadable, LineTooLong, LineOutOfMemory, AnswerOutOfMemory, Untold, OutputUnwritable}
use Rattle.store_server.specs.declared.rows.ListedInvocation.{ListedInvocation}
use Rattle.store_server.specs.StoreChanges.{CommitsNothing}
use Rattle.store_server.specs.RequestAnswers.{Shown}
use Rattle.store_server.specs.Rows.{all_listed_text, end_line}
use Rattle.store_server.specs.Pages.{ArePages, HasListed, IsPage, IsWriteFault, Lists, ListsAll, ListsPage, TellsSo, id_behind, pages_text}
use Rattle.store_server.proofs.LinesServed.{written_nothing}
use Rattle.store_server.proofs.Reaching.{reaches_both, reaches_none, stays}

not_unreadable : IsWriteFault InputUnreadable → ⊥
not_unreadable (inl e) = cc
not_unreadable (inr e) = cc

not_too_long : IsWriteFault LineTooLong → ⊥
not_too_long (inl e) = cc
not_too_long (inr e) = cc

not_answered : IsWriteFault AnswerOutOfMemory → ⊥
not_answered (inl e) = cc
not_answered (inr e) = cc

module _ {S : Type 0} (g : Ghosts S) where
  -- no page was told yet
  pub none_listed : (had : Option (List ℕ)) (store : Stored S) (after : Text) → after ≡ [] → HasListed g had had store store after []
  none_listed had store after is = record {
    told = reaches_none g CommitsNothing (Shown (ArePages [])) store (λ s. (tt, stays s));
    written = Appends-nil had;
    behind = is;
  }

  module _ (had between has : Option (List ℕ)) (old now new : Stored S) (after : Text) (pages : List (List ListedInvocation)) (h : HasListed g had between old now after pages) where
    told_more : (page : List ListedInvocation) → TellsSo g (IsPage after page) now new → TellsSo g (ArePages (page ∷ pages)) old new
    told_more page next =
        reaches_both g (ArePages pages) (IsPage after page) (ArePages (page ∷ pages)) old now new
        (λ events p q. (p, subst (λ (id : Text). IsPage id page events) h.behind q)) h.told next

    written_more : (text : List ℕ) → Appends between has text → Appends had has (pages_text pages ++ text)
    written_more text more = Appends-trans had between has (pages_text pages) text h.written more

    pub one_page : (next : Option Text) (last : Text) → next ≡ Some last → ListsPage g after between has now new (Ok next) → (all : List (List ListedInvocation)) × HasListed g had has old new last all
    one_page next last is told =
        let d = subst (λ (n : Option Text). ListsPage g after between has now new (Ok n)) is told in (
          d.0 ∷ pages,
          record {
            told = told_more d.0 d.1.told;
            written = written_more (all_listed_text d.0) d.1.written;
            behind = d.2 after ∙ ap (λ (id : Text). id_behind id d.0) h.behind;
          },
        )

    pub last_page : (next : Option Text) → next ≡ None → ListsPage g after between has now new (Ok next) → ListsAll g had has old new (Ok tt)
    last_page next is told =
        let d = subst (λ (n : Option Text). ListsPage g after between has now new (Ok n)) is told in
        (d.0 ∷ pages, told_more d.0 d.1.told, written_more (all_listed_text d.0) d.1.written, d.2)

    pub stops_at_page : (fault : ServerFault) → ListsPage g after between has now new (Err fault) → Lists g had has old new (Err fault)
    stops_at_page Untold d = record {
      pages = pages;
      output = pages_text pages;
      told = reaches_both g (ArePages pages) (λ events. Unit {0}) (ArePages pages) old now new (λ events p q. p) h.told d.0;
      written = written_nothing had between has (pages_text pages) h.written d.1;
      ends = refl;
    }
    stops_at_page LineOutOfMemory d = record {
      pages = d.1 ∷ pages;
      output = pages_text pages ++ d.2.0;
      told = told_more d.1 d.2.2.told;
      written = written_more d.2.0 d.2.2.written;
      ends = (d.2.0, d.2.1, refl);
    }
    stops_at_page OutputUnwritable d = record {
      pages = d.1 ∷ pages;
      output = pages_text pages ++ d.2.0;
      told = told_more d.1 d.2.2.told;
      written = written_more d.2.0 d.2.2.written;
      ends = inl (d.2.0, d.2.1, refl);
    }
    stops_at_page InputUnreadable d = absurd (not_unreadable d.0)
    stops_at_page LineTooLong d = absurd (not_too_long d.0)
    stops_at_page AnswerOutOfMemory d = absurd (not_answered d.0)

  -- behind all pages stands the end
  pub ends_listing : (had between has : Option (List ℕ)) (old new : Stored S) → ListsAll g had between old new (Ok tt) → (result : Result (Unit {0}) ServerFault) → OnOk result (Appends between has end_line)
      → IfErr result (λ fault. (fault ≡ OutputUnwritable) × (taken : ℕ) × (taken ≤ length end_line) × Appends between has (take taken end_line)) → Lists g had has old new result
  ends_listing had between has old new d (Ok done) whole part = record {
    pages = d.0;
    output = pages_text d.0 ++ end_line;
    told = d.1;
    written = Appends-trans had between has (pages_text d.0) end_line d.2 whole;
    ends = (d.3, refl);
  }
  ends_listing had between has old new d (Err fault) whole part =
      let text = take part.1 end_line in
      subst (λ (f : ServerFault). Lists g had has old new (Err f)) (sym part.0)
      record {
        pages = d.0;
        output = pages_text d.0 ++ text;
        told = d.1;
        written = Appends-trans had between has (pages_text d.0) text d.2 part.3;
        ends = inr (d.3, (text, (part.1, part.2, refl), refl));
      }
