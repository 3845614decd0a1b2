-- One line more, and each way to come to an end.
use Rattle.std.proofs.Common.{◌≡◌, ℕ, Bool, true, false, List, [], ◌∷◌, ◌++◌, take, Option, Some, None, Result, Ok, Err, refl, sym, subst, inl, inr, append-nil, arith}
use Rattle.std.specs.Io.KnownBytes.{Appends, Consumes}
use Rattle.std.proofs.KnownBytes.{Appends-nil, Appends-trans, Consumes-nil, Consumes-trans}
use Rattle.sqlite_trees.specs.declared.store.Store.{Ghosts}
use Rattle.sqlite.specs.Held.{state}
use Rattle.sqlite.specs.State.{HasCleanDisk}
use Rattle.journal_store.specs.StoreView.{Stored}
use Rattle.store_server.specs.declared.fault.ServerFault.{ServerFault}
use Rattle.store_server.specs.declared.fault.ServerFault.TheVariants.{InputUnreadable, LineTooLong, LineOutOfMemory, AnswerOutOfMemory, Untold, OutputUnwritable}
use Rattle.store_server.specs.StoreChanges.{ReachesStore}
use Rattle.store_server.specs.RequestAnswers.{CutsLine, DoesLine}
use Rattle.store_server.specs.Lasting.{AnswersLine}
use Rattle.store_server.specs.LineReads.{ReadsLine, StopsReading}
use Rattle.store_server.specs.Dialogue.{CutsAll, DoesAll, DoesByParts, DoesGiven, DoesNextLine, DoesNoLine, DoesTogether, DoneLine, GoesOn, HasServed, LastsAnswered, Serves, StopsAtLine, lines_of, texts_of}
use Rattle.store_server.proofs.LinesRead.{end_through}
use Rattle.store_server.proofs.Reaching.{reaches_none, reaches_then, stays}

-- nothing more was written
pub written_nothing : (a b c : Option (List ℕ)) (bs : List ℕ) → Appends a b bs → Appends b c [] → Appends a c bs
written_nothing a b c bs p q = subst (λ (text : List ℕ). Appends a c text) (append-nil bs) (Appends-trans a b c bs [] p q)

nothing_read : (a b : Option (List ℕ)) (bs : List ℕ) → Consumes a b bs → Consumes a b (bs ++ [])
nothing_read a b bs p = Consumes-trans a b b bs [] p (Consumes-nil b)

module _ {S : Type 0} (g : Ghosts S) where
  more_reaches : (done : List DoneLine) (one : DoneLine) (old now new : Stored S) → ReachesStore g (CutsAll done) (DoesAll done) old now
      → ReachesStore g (CutsLine one.line) (DoesLine one.line one.text) now new → ReachesStore g (CutsAll (one ∷ done)) (DoesAll (one ∷ done)) old new
  more_reaches done one old now new before next =
      reaches_then g (CutsAll done) (CutsLine one.line) (CutsAll (one ∷ done)) (DoesAll done) (DoesLine one.line one.text) (DoesAll (one ∷ done)) old now new
      (λ s t cut. inl cut) (λ s m t p cut. inr (m, p, cut)) (λ s m t p q. (m, p, q)) before next

  -- ---- what lasts

  none_reaches : (store : Stored S) → ReachesStore g (CutsAll []) (DoesAll []) store store
  none_reaches store = reaches_none g (CutsAll []) (DoesAll []) store stays

  none_lasts : (store : Stored S) → LastsAnswered g [] store store
  none_lasts store clean trees may = inl (tt, may)

  module _ (done : List DoneLine) (one : DoneLine) (old now new : Stored S) (before : ReachesStore g (CutsAll done) (DoesAll done) old now) (lasts : LastsAnswered g done old now)
      (next : AnswersLine g one.line one.text now new) where
    more_lasts : LastsAnswered g (one ∷ done) old new
    more_lasts clean trees may =
        let early : HasCleanDisk (state g now.connection) = omega (arith, next.reaches.crash.clean, clean) in
        elim next.lasts [
          | inl none ↦ elim (next.reaches.crash.crash clean trees may) [
            | inl was ↦ elim (lasts early trees was) [
              | inl unwritten ↦ inl ((unwritten.0, none), unwritten.1)
              | inr keeps ↦ inr (λ s is. let to = keeps s is in (to.0, inr (none, inl to.1), to.2))
            ]
            | inr cut ↦ inr (λ s is.
                let mid = before.leads early s is in
                let to = cut mid.0 mid.1 in
                (to.0, inr (none, inr (mid.0, mid.2, to.1)), to.2))
          ]
          | inr kept ↦ elim (kept clean trees may) [
            | inl never ↦ absurd never.0
            | inr keeps ↦ inr (λ s is.
                let mid = before.leads early s is in
                let to = keeps mid.0 mid.1 in
                (to.0, inl (mid.0, mid.2, to.1), to.2))
          ]
        ]

  -- a line is answered alone
  one_together : (one : DoneLine) (now new : Stored S) → AnswersLine g one.line one.text now new → DoesTogether g (one ∷ []) now new
  one_together one now new next = record {
    few = omega arith;
    reaches = more_reaches [] one now now new (none_reaches now) next.reaches;
    lasts = more_lasts [] one now now new (none_reaches now) (none_lasts now) next;
  }

  none_by_parts : (store : Stored S) → DoesByParts g [] store store
  none_by_parts store = record { parts = []; are_all = refl; does = refl }

  more_by_parts : (done : List DoneLine) (one : DoneLine) (old now new : Stored S) → DoesByParts g done old now → AnswersLine g one.line one.text now new → DoesByParts g (one ∷ done) old new
  more_by_parts done one old now new before next = record {
    parts = (one ∷ []) ∷ before.parts;
    are_all = λ i. one ∷ before.are_all i;
    does = (now, before.does, one_together one now new next);
  }

  -- nothing was done yet
  pub none_served : (input had : Option (List ℕ)) (store : Stored S) → HasServed g input input had had store store []
  none_served input had store =
      record { read = Consumes-nil input; lines = tt; reaches = none_reaches store; lasts = none_lasts store; moments = none_by_parts store; written = Appends-nil had }

  module _ (input mid left had between has : Option (List ℕ)) (old now new : Stored S) (done : List DoneLine) (h : HasServed g input mid had between old now done) where
    pub one_more : (one : DoneLine) → DoesNextLine g mid left now new one → Appends between has one.text → HasServed g input left had has old new (one ∷ done)
    one_more one next written = record {
      read = Consumes-trans input mid left (lines_of done) (one.line ++ 10 ∷ []) h.read next.read;
      lines = (h.lines, next.line);
      reaches = more_reaches done one old now new h.reaches next.answers.reaches;
      lasts = more_lasts done one old now new h.reaches h.lasts next.answers;
      moments = more_by_parts done one old now new h.moments next.answers;
      written = Appends-trans had between has (texts_of done) one.text h.written written;
    }

    pub goes_on : (more : Bool) → more ≡ true → GoesOn g mid left between has now new (Ok more) → (all : List DoneLine) × HasServed g input left had has old new all
    goes_on more is d =
        let one = subst (λ (b : Bool). GoesOn g mid left between has now new (Ok b)) is d in
        (one.0 ∷ done, one_more one.0 one.1 one.2)

    -- no line was done any more
    same_reaches : (part : List ℕ) → DoesNoLine g mid left between has now new part → ReachesStore g (CutsAll done) (DoesAll done) old new
    same_reaches part d = subst (λ (store : Stored S). ReachesStore g (CutsAll done) (DoesAll done) old store) (sym d.same) h.reaches

    same_lasts : (part : List ℕ) → DoesNoLine g mid left between has now new part → LastsAnswered g done old new
    same_lasts part d = subst (λ (store : Stored S). LastsAnswered g done old store) (sym d.same) h.lasts

    same_moments : (part : List ℕ) → DoesNoLine g mid left between has now new part → DoesByParts g done old new
    same_moments part d = subst (λ (store : Stored S). DoesByParts g done old store) (sym d.same) h.moments

    read_part : (part : List ℕ) → DoesNoLine g mid left between has now new part → Consumes input left (lines_of done ++ part)
    read_part part d = Consumes-trans input mid left (lines_of done) part h.read d.read

    pub comes_to_end : GoesOn g mid left between has now new (Ok false) → Serves g input left had has old new (Ok tt)
    comes_to_end d = record {
      done = done;
      part = d.0;
      output = texts_of done;
      read = read_part d.0 d.1;
      lines = h.lines;
      reaches = same_reaches d.0 d.1;
      lasts = same_lasts d.0 d.1;
      moments = same_moments d.0 d.1;
      written = written_nothing had between has (texts_of done) h.written d.1.written;
      ends = (end_through input mid left (lines_of done) h.read d.2, d.3, refl);
    }

    pub stops : (fault : ServerFault) → GoesOn g mid left between has now new (Err fault) → Serves g input left had has old new (Err fault)
    stops InputUnreadable d = record {
      done = done;
      part = d.0;
      output = texts_of done;
      read = read_part d.0 d.1;
      lines = h.lines;
      reaches = same_reaches d.0 d.1;
      lasts = same_lasts d.0 d.1;
      moments = same_moments d.0 d.1;
      written = written_nothing had between has (texts_of done) h.written d.1.written;
      ends = refl;
    }
    stops LineTooLong d = record {
      done = done;
      part = d.0;
      output = texts_of done;
      read = read_part d.0 d.1;
      lines = h.lines;
      reaches = same_reaches d.0 d.1;
      lasts = same_lasts d.0 d.1;
      moments = same_moments d.0 d.1;
      written = written_nothing had between has (texts_of done) h.written d.1.written;
      ends = (d.2, refl);
    }
    stops LineOutOfMemory d = record {
      done = done;
      part = d.0;
      output = texts_of done;
      read = read_part d.0 d.1;
      lines = h.lines;
      reaches = same_reaches d.0 d.1;
      lasts = same_lasts d.0 d.1;
      moments = same_moments d.0 d.1;
      written = written_nothing had between has (texts_of done) h.written d.1.written;
      ends = refl;
    }
    stops AnswerOutOfMemory d =
        let one = d.0 in
        let next = d.1 in
        record {
          done = one ∷ done;
          part = [];
          output = texts_of done;
          read = nothing_read input left (lines_of (one ∷ done)) (Consumes-trans input mid left (lines_of done) (one.line ++ 10 ∷ []) h.read next.read);
          lines = (h.lines, next.line);
          reaches = more_reaches done one old now new h.reaches next.answers.reaches;
          lasts = more_lasts done one old now new h.reaches h.lasts next.answers;
          moments = more_by_parts done one old now new h.moments next.answers;
          written = written_nothing had between has (texts_of done) h.written d.2;
          ends = (refl, refl);
        }
    stops OutputUnwritable d =
        let one = d.0 in
        let next = d.1 in
        record {
          done = one ∷ done;
          part = [];
          output = texts_of done ++ take d.2.0 one.text;
          read = nothing_read input left (lines_of (one ∷ done)) (Consumes-trans input mid left (lines_of done) (one.line ++ 10 ∷ []) h.read next.read);
          lines = (h.lines, next.line);
          reaches = more_reaches done one old now new h.reaches next.answers.reaches;
          lasts = more_lasts done one old now new h.reaches h.lasts next.answers;
          moments = more_by_parts done one old now new h.moments next.answers;
          written = Appends-trans had between has (texts_of done) (take d.2.0 one.text) h.written d.2.2;
          ends = (refl, (d.2.0, d.2.1, refl));
        }
    stops Untold d = absurd d

  -- it has gone on as long as it may
  pub runs_out : (input left had has : Option (List ℕ)) (old new : Stored S) (done : List DoneLine) → HasServed g input left had has old new done → Serves g input left had has old new (Err InputUnreadable)
  runs_out input left had has old new done h = record {
    done = done;
    part = [];
    output = texts_of done;
    read = nothing_read input left (lines_of done) h.read;
    lines = h.lines;
    reaches = h.reaches;
    lasts = h.lasts;
    moments = h.moments;
    written = h.written;
    ends = refl;
  }

  -- ---- the next line

  module _ (input left had has : Option (List ℕ)) (old new : Stored S) where
    -- it was read, and comes to this
    pub given_goes_on : (line : List ℕ) (result : Result Bool ServerFault) → ReadsLine input left (Some line) → DoesGiven g line had has old new result → GoesOn g input left had has old new result
    given_goes_on line (Ok true) r d = (record { line = line; text = d.0 }, record { read = r.0; line = r.1; answers = d.1 }, d.2)
    given_goes_on line (Ok false) r d = absurd d
    given_goes_on line (Err InputUnreadable) r d = absurd d
    given_goes_on line (Err LineTooLong) r d = absurd d
    given_goes_on line (Err LineOutOfMemory) r d = (line ++ 10 ∷ [], record { read = r.0; written = d.1; same = d.0 })
    given_goes_on line (Err AnswerOutOfMemory) r d = (record { line = line; text = d.0 }, record { read = r.0; line = r.1; answers = d.1 }, d.2)
    given_goes_on line (Err Untold) r d = absurd d
    given_goes_on line (Err OutputUnwritable) r d = (record { line = line; text = d.0 }, record { read = r.0; line = r.1; answers = d.1 }, d.2)

  module _ (input left had : Option (List ℕ)) (store : Stored S) where
    -- there is none
    pub none_goes_on : ReadsLine input left None → GoesOn g input left had had store store (Ok false)
    none_goes_on r = (r.0, record { read = r.1; written = Appends-nil had; same = refl }, r.3, r.2)

    -- it was not read
    pub unread_goes_on : (fault : ServerFault) → StopsReading input left fault → GoesOn g input left had had store store (Err fault)
    unread_goes_on InputUnreadable r = (r.0, record { read = r.1; written = Appends-nil had; same = refl })
    unread_goes_on LineTooLong r = (r.0, record { read = r.1; written = Appends-nil had; same = refl }, r.2)
    unread_goes_on LineOutOfMemory r = (r.0, record { read = r.1; written = Appends-nil had; same = refl })
    unread_goes_on AnswerOutOfMemory r = absurd r
    unread_goes_on Untold r = absurd r
    unread_goes_on OutputUnwritable r = absurd r

  -- it has no answer
  pub stops_given : (line : List ℕ) (had : Option (List ℕ)) (old new : Stored S) (fault : ServerFault) → StopsAtLine g line fault old new → DoesGiven g line had had old new (Err fault)
  stops_given line had old new LineOutOfMemory s = (s, Appends-nil had)
  stops_given line had old new AnswerOutOfMemory s = (s.0, s.1, Appends-nil had)
  stops_given line had old new InputUnreadable s = absurd s
  stops_given line had old new LineTooLong s = absurd s
  stops_given line had old new Untold s = absurd s
  stops_given line had old new OutputUnwritable s = absurd s
