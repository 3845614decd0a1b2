-- What is read of a line, part by part.
use Rattle.std.proofs.Common.{◌≡◌, ◌≢◌, ℕ, ◌+◌, ◌≤◌, ◌<◌, List, [], ◌∷◌, ◌++◌, length, take, All, Option, Some, None, Err, get_or, sym, ap, subst, ◌∙◌, append_assoc, append-nil, length-append, arith}
use Rattle.std.proofs.lemmas.List.{take_more}
use Rattle.std.proofs.lemmas.List.Elements.{recursion_from_All as to}
use Rattle.std.proofs.KnownBytes.{Consumes-trans}
use Rattle.std.specs.Prelude.{option_map}
use Rattle.std.specs.Io.KnownBytes.{Consumes}
use Rattle.store_server.specs.declared.fault.ServerFault.{ServerFault}
use Rattle.store_server.specs.declared.fault.ServerFault.TheVariants.{InputUnreadable, LineTooLong, LineOutOfMemory, AnswerOutOfMemory, Untold, OutputUnwritable}
use Rattle.store_server.specs.LineReads.{EndOf, HasNoFeed, IsLineText, IsTooLong, ReadsLine, ReadsMore, ReadsPart, ReadsTooMuch, StopsReading, line_limit}

pub no_feed : (bytes : List ℕ) → All (λ byte. byte ≢ 10) bytes → HasNoFeed bytes
no_feed bytes all = to (λ byte. byte ≢ 10) bytes all

joined : (xs ys : List ℕ) → HasNoFeed xs → HasNoFeed ys → HasNoFeed (xs ++ ys)
joined [] ys p q = q
joined (x ∷ xs) ys p q = (p.0, joined xs ys p.1 q)

pub end_through : (a b c : Option (List ℕ)) (bs : List ℕ) → Consumes a b bs → EndOf b c → EndOf a c
end_through None b c bs read end = tt
end_through (Some x) None c bs read end = absurd read
end_through (Some x) (Some y) c bs read end = end

-- so much was read of a line
pub record HasRead (input now : Option (List ℕ)) (line : List ℕ) : Type 0 where
  pub read : Consumes input now line
  pub text : IsLineText line

module _ (input now left : Option (List ℕ)) (had : List ℕ) (so_far : HasRead input now had) where
  read_behind : (behind has : List ℕ) (more : ReadsMore behind now left had has) → Consumes input left (has ++ behind)
  read_behind behind has more =
      subst (λ (bytes : List ℕ). Consumes input left bytes) (sym (append_assoc had more.part behind) ∙ ap (λ (l : List ℕ). l ++ behind) (sym more.line))
      (Consumes-trans input now left had (more.part ++ behind) so_far.read more.read)

  text_so : (behind has : List ℕ) → ReadsMore behind now left had has → IsLineText has
  text_so behind has more = record { unfed = subst HasNoFeed (sym more.line) (joined had more.part so_far.text.unfed more.unfed); small = more.small so_far.text.small }

  pub more_read : (has : List ℕ) → ReadsMore [] now left had has → HasRead input left has
  more_read has more = record { read = subst (λ (bytes : List ℕ). Consumes input left bytes) (append-nil has) (read_behind [] has more); text = text_so [] has more }

  pub line_read : (has : List ℕ) → ReadsMore (10 ∷ []) now left had has → ReadsLine input left (Some has)
  line_read has more = (read_behind (10 ∷ []) has more, text_so (10 ∷ []) has more)

  pub end_read : (has : List ℕ) → ReadsMore [] now left had has × EndOf now left → ReadsLine input left None
  end_read has it = let all = more_read has it.0 in (has, all.read, all.text.unfed, end_through input now left had so_far.read it.1)

  pub too_long : ReadsTooMuch now left had → (part : List ℕ) × Consumes input left part × IsTooLong part
  too_long it = (had ++ it.part, Consumes-trans input now left had it.part so_far.read it.read, record { unfed = joined had it.part so_far.text.unfed it.unfed; long = it.long })

  pub stopped : Consumes now left [] → (part : List ℕ) × Consumes input left part
  stopped it = (had ++ [], Consumes-trans input now left had [] so_far.read it)

  -- why no more is read
  pub stops_so : (has : List ℕ) (fault : ServerFault) → ReadsPart now left had has (Err fault) → StopsReading input left fault
  stops_so has InputUnreadable it = stopped it
  stops_so has LineTooLong it = too_long it
  stops_so has LineOutOfMemory it = stopped it
  stops_so has AnswerOutOfMemory it = absurd it
  stops_so has Untold it = absurd it
  stops_so has OutputUnwritable it = absurd it

-- ---- what a reader has ready

-- the bytes before the first line feed, and that one
pub feed_taken : (ready : List ℕ) (n : ℕ) → n < length ready → get_or ready n 0 ≡ 10 → take (n + 1) ready ≡ take n ready ++ 10 ∷ []
feed_taken ready n within is = take_more ready n 0 within ∙ ap (λ (byte : ℕ). take n ready ++ byte ∷ []) is

module _ (input left : Option (List ℕ)) (had has part : List ℕ) (unfed : HasNoFeed part) (line : has ≡ had ++ part) (fits : length had + length part < line_limit) where
  small_so : length has < line_limit
  small_so = omega (arith, fits, length-append had part, ap length line)

  pub part_more : Consumes input left part → ReadsMore [] input left had has
  part_more read = record { part = part; read = subst (λ (bytes : List ℕ). Consumes input left bytes) (sym (append-nil part)) read; unfed = unfed; line = line; small = λ _. small_so }

  pub part_fed : Consumes input left (part ++ 10 ∷ []) → ReadsMore (10 ∷ []) input left had has
  part_fed read = record { part = part; read = read; unfed = unfed; line = line; small = λ _. small_so }

-- nothing was read
pub none_more : (input left : Option (List ℕ)) (had : List ℕ) → Consumes input left [] → ReadsMore [] input left had had
none_more input left had read = record { part = []; read = read; unfed = tt; line = sym (append-nil had); small = λ small. small }

pub much_more : (input left : Option (List ℕ)) (had part : List ℕ) → HasNoFeed part → Consumes input left part → line_limit ≤ length had + length part → ReadsTooMuch input left had
much_more input left had part unfed read long = record { part = part; read = read; unfed = unfed; long = omega (arith, long, length-append had part) }

-- the line that was read
pub line_is_read : {V : Type 0} (items : V → List ℕ) (input left : Option (List ℕ)) (made : Option V) (line : V) → made ≡ Some line → ReadsLine input left (option_map items made)
    → ReadsLine input left (Some (items line))
line_is_read items input left made line is read = subst (λ o. ReadsLine input left (option_map items o)) is read
