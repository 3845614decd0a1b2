-- A stream of messages is read in one way, wherever it is cut.
use Rattle.std.proofs.Common.{◌≡◌, ◌≢◌, ℕ, ◌<◌, ◌≤◌, Bool, true, false, ltb, List, [], ◌∷◌, ◌++◌, length, take, drop, map, Option, Some, None, Result, Ok, Err, refl, sym, ap, ◌∙◌, append_assoc, arith, length-append}
use Rattle.std.specs.List.{AllByRecursion}
use Rattle.std.proofs.lemmas.Bool.{ltb-true, ltb-false}
use Rattle.std.proofs.Math.Seq.{take-append_seam, drop-append_seam}
use Rattle.std.proofs.lemmas.List.{drop-append-le, take-append-le, take-append-drop}
use Rattle.protocol_wire.specs.Items.{items, left}
use Rattle.protocol_wire.proofs.Steps.{items_read, items_ended, left_read, left_ended}
use Rattle.protocol_wire.proofs.Extends.{Extends}
use Rattle.protocol_wire.proofs.Cut.{items_cut}
use Rattle.protocol_stream.specs.declared.decoder.RawMessage.{RawMessage}
use Rattle.protocol_stream.specs.declared.decoder.DecodingError.{DecodingError}
use Rattle.protocol_stream.specs.declared.decoder.DecodingError.TheVariants.{UnknownMessageType, OutOfMemory}
use Rattle.protocol_stream.specs.Item.{Item, unknown, message, item_at}
use Rattle.protocol_stream.specs.Decoder.{ConsumesNext}
use Rattle.protocol_stream.specs.Frame.{spelled, stream, IsFrame}
use Rattle.protocol_stream.proofs.Fronts.{length-spelled, item_at-spelled, item_at_shrinks, item_at_extends}

-- The items of bytes in two pieces: those of the first, and those of what it left and the second.
pub items-append : (a b : List ℕ) → items item_at (a ++ b) ≡ items item_at a ++ items item_at (left item_at a ++ b)
items-append = items_cut item_at item_at_shrinks item_at_extends

abbrev some : {A : Type 0} → A → Option A
some x = Some x

some_is : {A : Type 0} (x y : A) → some x ≡ some y → x ≡ y
some_is x y e = cc

abbrev some_pair : {A B : Type 0} → A → B → Option (A × B)
some_pair a b = Some (a, b)

same_pair : {A B : Type 0} (a c : A) (b d : B) → some_pair a b ≡ some_pair c d → (a ≡ c) × (b ≡ d)
same_pair {A} {B} a c b d e = (ap (λ (x : A × B). x.0) (some_is _ _ e), ap (λ (x : A × B). x.1) (some_is _ _ e))

same_message : (f g : RawMessage) → message f ≡ message g → f ≡ g
same_message f g e = cc

-- No frame begins another: two at the front of the same bytes are one.
pub same_front : (f g : RawMessage) (a b : List ℕ) → IsFrame f → IsFrame g → spelled f ++ a ≡ spelled g ++ b → (f ≡ g) × (a ≡ b)
same_front f g a b p q e =
    let same = same_pair (message f) (message g) a b (sym (item_at-spelled f a p) ∙ ap item_at e ∙ item_at-spelled g b q) in
    (same_message f g same.0, same.1)

-- What came whole is a beginning of all, and the rest is the stream of the others.
pub record Cuts (whole all : List RawMessage) (rest : List ℕ) : Type 0 where
  pub others : List RawMessage
  pub messages : all ≡ whole ++ others
  pub bytes : rest ≡ stream others

no_more : (f : RawMessage) (a : List ℕ) → spelled f ++ a ≢ []
no_more f a e = omega (arith, ap length e, length-append (spelled f) a, length-spelled f)

pub cut_of : (whole all : List RawMessage) (rest : List ℕ) → AllByRecursion IsFrame whole → AllByRecursion IsFrame all → stream whole ++ rest ≡ stream all → Cuts whole all rest
cut_of [] all rest p q e = record { others = all; messages = refl; bytes = e }
cut_of (f ∷ fs) [] rest p q e = absurd (no_more f (stream fs ++ rest) (sym (append_assoc (spelled f) (stream fs) rest) ∙ e))
cut_of (f ∷ fs) (g ∷ gs) rest p q e =
    let front = same_front f g (stream fs ++ rest) (stream gs) p.0 q.0 (sym (append_assoc (spelled f) (stream fs) rest) ∙ e) in
    let c = cut_of fs gs rest p.1 q.1 front.1 in
    record { others = c.others; messages = cc; bytes = c.bytes }

-- ---- the items of a stream are its messages, and nothing is left

nothing_at : item_at [] ≡ None
unfolding item_at
nothing_at = refl

pub items-stream : (messages : List RawMessage) → AllByRecursion IsFrame messages → items item_at (stream messages) ≡ map message messages
items-stream [] p = items_ended item_at item_at_shrinks [] nothing_at
items-stream (f ∷ fs) p = items_read item_at item_at_shrinks (spelled f ++ stream fs) (message f) (stream fs) (item_at-spelled f (stream fs) p.0) ∙ ap (λ (is : List Item). message f ∷ is) (items-stream fs p.1)

pub left-stream : (messages : List RawMessage) → AllByRecursion IsFrame messages → left item_at (stream messages) ≡ []
left-stream [] p = left_ended item_at item_at_shrinks [] nothing_at
left-stream (f ∷ fs) p = left_read item_at item_at_shrinks (spelled f ++ stream fs) (message f) (stream fs) (item_at-spelled f (stream fs) p.0) ∙ left-stream fs p.1

-- ---- a stream of which some bytes came

-- With fewer bytes than the frame has there is no item.
pub item_at-short : (f : RawMessage) (bytes more rest : List ℕ) → IsFrame f → bytes ++ more ≡ spelled f ++ rest → length bytes < length (spelled f) → item_at bytes ≡ None
item_at-short f bytes more rest is e lt = go (item_at bytes) refl (item_at_extends more bytes)
  where
    go : (r : Option (Item × List ℕ)) → item_at bytes ≡ r → Extends more r (item_at (bytes ++ more)) → r ≡ None
    go None found h = refl
    go (Some x) found h =
        let same = same_pair x.0 (message f) (x.1 ++ more) rest (sym h ∙ ap item_at e ∙ item_at-spelled f rest is) in
        absurd (omega (arith, ap length e, ap length same.1, length-append bytes more, length-append (spelled f) rest, length-append x.1 more))

-- Bytes that begin with these: what is behind them.
split_front : (a b c d : List ℕ) → a ++ b ≡ c ++ d → length c ≤ length a → (a ≡ c ++ drop (length c) a) × (drop (length c) a ++ b ≡ d)
split_front a b c d e le =
    let front : take (length c) a ≡ c = sym (take-append-le (length c) a b le) ∙ ap (take (length c)) e ∙ take-append_seam c d in
    let back : drop (length c) a ++ b ≡ d = sym (drop-append-le (length c) a b le) ∙ ap (drop (length c)) e ∙ drop-append_seam c d in
    (sym (take-append-drop (length c) a) ∙ ap (λ (s : List ℕ). s ++ drop (length c) a) front, back)

-- With as many it is the item.
pub item_at-whole : (f : RawMessage) (bytes more rest : List ℕ) → IsFrame f → bytes ++ more ≡ spelled f ++ rest → length (spelled f) ≤ length bytes → item_at bytes ≡ Some (message f, drop (length (spelled f)) bytes)
item_at-whole f bytes more rest is e le =
    let parts = split_front bytes more (spelled f) rest e le in
    ap item_at parts.0 ∙ item_at-spelled f (drop (length (spelled f)) bytes) is

-- What `consume_next` answers for a stream of which some bytes came.
abbrev pub TakesFirst : RawMessage → List RawMessage → (bytes more : List ℕ) → Result (Option RawMessage) DecodingError → List ℕ → Type 0
TakesFirst first others bytes more (Ok None) new = (length bytes < length (spelled first)) × (new ≡ bytes)
TakesFirst first others bytes more (Ok (Some found)) new = (found ≡ first) × (new ++ more ≡ stream others)
TakesFirst first others bytes more (Err (UnknownMessageType ty)) new = ⊥
TakesFirst first others bytes more (Err OutOfMemory) new = new ≡ bytes
TakesFirst first others bytes more (Err _) new = ⊥

-- with the item at the front known in both cases
takes_whole : (first : RawMessage) (others : List RawMessage) (bytes more new back : List ℕ) (answer : Result (Option RawMessage) DecodingError) → item_at bytes ≡ Some (message first, back) → back ++ more ≡ stream others → ConsumesNext bytes answer new → TakesFirst first others bytes more answer new
takes_whole first others bytes more new back (Ok None) e b c = absurd (let n = c.0 in cc)
takes_whole first others bytes more new back (Ok (Some found)) e b c =
    let same = same_pair (message found) (message first) new back (sym c ∙ e) in
    (same_message found first same.0, ap (λ (s : List ℕ). s ++ more) same.1 ∙ b)
takes_whole first others bytes more new back (Err (UnknownMessageType ty)) e b c = let same = same_pair (unknown ty) (message first) new back (sym c ∙ e) in let clash = same.0 in cc
takes_whole first others bytes more new back (Err OutOfMemory) e b c = c
takes_whole first others bytes more new back (Err _) e b c = absurd c

takes_short : (first : RawMessage) (others : List RawMessage) (bytes more new : List ℕ) (answer : Result (Option RawMessage) DecodingError) → item_at bytes ≡ None → length bytes < length (spelled first) → ConsumesNext bytes answer new → TakesFirst first others bytes more answer new
takes_short first others bytes more new (Ok None) e lt c = (lt, c.1)
takes_short first others bytes more new (Ok (Some found)) e lt c = absurd cc
takes_short first others bytes more new (Err (UnknownMessageType ty)) e lt c = absurd cc
takes_short first others bytes more new (Err OutOfMemory) e lt c = c
takes_short first others bytes more new (Err _) e lt c = absurd c

pub takes_first : (first : RawMessage) (others : List RawMessage) (bytes more new : List ℕ) (answer : Result (Option RawMessage) DecodingError) → IsFrame first → bytes ++ more ≡ stream (first ∷ others) → ConsumesNext bytes answer new → TakesFirst first others bytes more answer new
takes_first first others bytes more new answer is e c = go (ltb (length bytes) (length (spelled first))) refl
  where
    go : (b : Bool) → ltb (length bytes) (length (spelled first)) ≡ b → TakesFirst first others bytes more answer new
    go true lt = let short : length bytes < length (spelled first) = ltb-true _ _ lt in
        takes_short first others bytes more new answer (item_at-short first bytes more (stream others) is e short) short c
    go false le = let whole : length (spelled first) ≤ length bytes = ltb-false _ _ le in
        takes_whole first others bytes more new (drop (length (spelled first)) bytes) answer (item_at-whole first bytes more (stream others) is e whole) (split_front bytes more (spelled first) (stream others) e whole).1 c

-- At the end of a stream nothing came.
pub takes_none : (bytes more : List ℕ) → bytes ++ more ≡ stream [] → bytes ≡ []
takes_none [] more e = refl
takes_none (b ∷ bytes) more e = absurd cc
