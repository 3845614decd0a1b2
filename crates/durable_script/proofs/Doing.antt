-- One line more, and each way to come to an end.
use Rattle.std.proofs.Common.{◌≡◌, ℕ, ◌<◌, List, [], ◌∷◌, ◌++◌, length, take, Option, Result, Ok, Err, refl, sym, ap, subst, ◌∙◌, append_assoc}
use Rattle.std.specs.Io.KnownBytes.{Appends}
use Rattle.std.proofs.KnownBytes.{Appends-trans}
use Rattle.sqlite_trees.specs.declared.store.Store.{Ghosts}
use Rattle.built_in_handlers.specs.declared.built_in.BuiltIn.{BuiltIn}
use Rattle.scheduler.specs.declared.scheduler.Scheduler.{Scheduler}
use Rattle.script_lines.specs.Line.{spelled}
use Rattle.script_lines.specs.declared.fault.ScriptFault.{ScriptFault}
use Rattle.script_lines.specs.declared.fault.ScriptFault.TheVariants.{LineNotUnderstood, ScriptUnreadable, LineOutOfMemory, TextOutOfMemory, OutputUnwritable}
use Rattle.durable_script.specs.declared.runner.Runner.{Runner}
use Rattle.durable_script.specs.Runner.{DoesNext, StopsAtLine}
use Rattle.durable_script.specs.Run.{DoneLine, lines_of, texts_of, AreUnderstood, HasDone, HasRun, DoesLines, ComesSoFar}
use Rattle.durable_script.proofs.Lasting.{run_more}

module _ {S : Type 0} (g : Ghosts S) (lines : List (ℕ × List ℕ)) (start : Scheduler BuiltIn S) where
  -- a scheduler that came from the start by these lines
  abbrev pub Did : Scheduler BuiltIn S → List DoneLine → Type 0
  Did now done = HasRun g done start now

  module _ (done : List DoneLine) where
    -- the line that was done next
    abbrev pub next_line : (number : ℕ) (bytes text : List ℕ) (old new : Runner S) → DoesNext g bytes text old new → DoneLine
    next_line number bytes text old new d = record { number = number; line = d.line; text = text }

    pub one_more : (number : ℕ) (bytes text : List ℕ) (old new : Runner S) (rest after : List (ℕ × List ℕ)) (d : DoesNext g bytes text old new)
        → HasDone lines (Did old.scheduler) done rest → rest ≡ (number, bytes) ∷ after
        → HasDone lines (Did new.scheduler) (next_line number bytes text old new d ∷ done) after
    one_more number bytes text old new rest after d h e = record {
      lines_are =
          h.lines_are
          ∙ ap (λ (ls : List (ℕ × List ℕ)). lines_of done ++ ls) (e ∙ ap (λ (bs : List ℕ). (number, bs) ∷ after) d.understood.spelling)
          ∙ sym (append_assoc (lines_of done) ((number, spelled d.line) ∷ []) after);
      understood = (h.understood, d.understood.is_line);
      does = run_more g done (next_line number bytes text old new d) start old.scheduler new.scheduler h.does d.prints;
    }

    -- the line was not read, or there is no memory for its text
    pub stops : (number : ℕ) (bytes : List ℕ) (fault : ScriptFault) (old new : Runner S) (rest after : List (ℕ × List ℕ)) (had has : Option (List ℕ)) → StopsAtLine g number bytes fault old new
        → HasDone lines (Did old.scheduler) done rest → rest ≡ (number, bytes) ∷ after → Appends had has (texts_of done)
        → DoesLines lines (Did new.scheduler) had has (Err fault)
    stops number bytes (LineNotUnderstood n) old new rest after had has s h e written = record {
      output = texts_of done;
      appended = written;
      comes_to = record {
        done = done;
        bytes = bytes;
        rest = after;
        has_done = record {
          lines_are = h.lines_are ∙ ap (λ (ls : List (ℕ × List ℕ)). lines_of done ++ ls) (e ∙ ap (λ (m : ℕ). (m, bytes) ∷ after) (sym s.0));
          understood = h.understood;
          does = subst (λ (x : Runner S). Did x.scheduler done) (sym s.2) h.does;
        };
        unknown = s.1;
        written = refl;
      };
    }
    stops number bytes LineOutOfMemory old new rest after had has s h e written = record {
      output = texts_of done;
      appended = written;
      comes_to = record {
        done = done;
        next = (number, bytes);
        rest = after;
        has_done = record {
          lines_are = h.lines_are ∙ ap (λ (ls : List (ℕ × List ℕ)). lines_of done ++ ls) e;
          understood = h.understood;
          does = subst (λ (x : Runner S). Did x.scheduler done) (sym s) h.does;
        };
        written = refl;
      };
    }
    stops number bytes TextOutOfMemory old new rest after had has s h e written = record {
      output = texts_of done;
      appended = written;
      comes_to = record {
        last = next_line number bytes s.0 old new s.1;
        before = done;
        rest = after;
        has_done = one_more number bytes s.0 old new rest after s.1 h e;
        written = refl;
      };
    }
    stops number bytes ScriptUnreadable old new rest after had has s h e written = absurd s
    stops number bytes OutputUnwritable old new rest after had has s h e written = absurd s

    -- the writer took a part of the line's text
    pub breaks : (number : ℕ) (bytes text : List ℕ) (old new : Runner S) (rest after : List (ℕ × List ℕ)) (had between has : Option (List ℕ)) (taken : ℕ) → DoesNext g bytes text old new
        → HasDone lines (Did old.scheduler) done rest → rest ≡ (number, bytes) ∷ after → Appends had between (texts_of done)
        → taken < length text → Appends between has (take taken text) → DoesLines lines (Did new.scheduler) had has (Err OutputUnwritable)
    breaks number bytes text old new rest after had between has taken d h e written part more = record {
      output = texts_of done ++ take taken text;
      appended = Appends-trans had between has (texts_of done) (take taken text) written more;
      comes_to = record {
        last = next_line number bytes text old new d;
        before = done;
        rest = after;
        has_done = one_more number bytes text old new rest after d h e;
        taken = taken;
        part = part;
        written = refl;
      };
    }

    -- no line is left
    pub whole : (new : Scheduler BuiltIn S) (rest : List (ℕ × List ℕ)) (had has : Option (List ℕ)) → HasDone lines (Did new) done rest → rest ≡ [] → Appends had has (texts_of done)
        → DoesLines lines (Did new) had has (Ok tt)
    whole new rest had has h e written = record {
      output = texts_of done;
      appended = written;
      comes_to = record {
        done = done;
        has_done = record { lines_are = h.lines_are ∙ ap (λ (ls : List (ℕ × List ℕ)). lines_of done ++ ls) e; understood = h.understood; does = h.does };
        written = refl;
      };
    }

-- ---- what is told of the lines that were done

-- it may be told in another way
module _ (lines : List (ℕ × List ℕ)) (Does Tells : List DoneLine → Type 0) (so : (done : List DoneLine) → AreUnderstood done → Does done → Tells done) where
  has_done_so : (done : List DoneLine) (rest : List (ℕ × List ℕ)) → HasDone lines Does done rest → HasDone lines Tells done rest
  has_done_so done rest h = record { lines_are = h.lines_are; understood = h.understood; does = so done h.understood h.does }

  pub comes_so : (output : List ℕ) (result : Result (Unit {0}) ScriptFault) → ComesSoFar lines Does output result → ComesSoFar lines Tells output result
  comes_so output (Ok done) c = record { done = c.done; has_done = has_done_so c.done [] c.has_done; written = c.written }
  comes_so output (Err (LineNotUnderstood number)) c = record {
    done = c.done;
    bytes = c.bytes;
    rest = c.rest;
    has_done = has_done_so c.done ((number, c.bytes) ∷ c.rest) c.has_done;
    unknown = c.unknown;
    written = c.written;
  }
  comes_so output (Err LineOutOfMemory) c =
      record { done = c.done; next = c.next; rest = c.rest; has_done = has_done_so c.done (c.next ∷ c.rest) c.has_done; written = c.written }
  comes_so output (Err TextOutOfMemory) c =
      record { last = c.last; before = c.before; rest = c.rest; has_done = has_done_so (c.last ∷ c.before) c.rest c.has_done; written = c.written }
  comes_so output (Err OutputUnwritable) c = record {
    last = c.last;
    before = c.before;
    rest = c.rest;
    has_done = has_done_so (c.last ∷ c.before) c.rest c.has_done;
    taken = c.taken;
    part = c.part;
    written = c.written;
  }
  comes_so output (Err ScriptUnreadable) c = absurd c
