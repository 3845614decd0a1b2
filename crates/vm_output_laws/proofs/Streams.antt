-- Streams of frames, in any cut.
use Rattle.std.proofs.Common.{◌≡◌, ℕ, List, [], ◌∷◌, ◌++◌, map, Option, Some, None, refl, sym, ap, ◌∙◌, subst}
use Rattle.std.proofs.lemmas.Grind.{flat_map-append}
use Rattle.protocol_types.specs.declared.version.Version.{Version}
use Rattle.protocol_stream.specs.Item.{Item, message, item_at}
use Rattle.protocol_stream.proofs.Fronts.{item_at_extends}
use Rattle.protocol_wire.proofs.Extends.{Extends}
use Rattle.vm_output_laws.specs.SentFrames.{Sent, sent_frame, sent_stream, sent_message, SentFits, AllFit, frame_meant}
use Rattle.vm_output_laws.specs.OutputMeaning.{TakesFirstItem, StreamsAreRead, StreamsJoin}
use Rattle.vm_request_laws.proofs.RequestBounds.{all_append}
use Rattle.vm_output_laws.proofs.FrameMeanings.{frames_are_read, read_as_meant}

nothing_at_none : (x : Item × List ℕ) → None ≡ Some x → ⊥
nothing_at_none x e = cc

empty_at : item_at [] ≡ None
unfolding item_at
empty_at = refl

pair_is : (x y : Item × List ℕ) → Some x ≡ Some y → x ≡ y
pair_is x y e = cc

-- what stands in front of some bytes stands in front of all
in_all : (come more all : List ℕ) (item : Item) (rest : List ℕ) → come ++ more ≡ all → item_at come ≡ Some (item, rest) → item_at all ≡ Some (item, rest ++ more)
in_all come more all item rest bytes first =
    ap item_at (sym bytes) ∙ subst (λ (o : Option (Item × List ℕ)). Extends more o (item_at (come ++ more))) first (item_at_extends more come)

cut : (version : Version) (coming : List Sent) (come more : List ℕ) (item : Item) (rest : List ℕ) → AllFit version coming → come ++ more ≡ sent_stream version coming
    → item_at come ≡ Some (item, rest) → TakesFirstItem version item rest more coming
cut version [] come more item rest fit bytes first = absurd (nothing_at_none (item, rest ++ more) (sym empty_at ∙ in_all come more [] item rest bytes first))
cut version (sent ∷ others) come more item rest fit bytes first =
    let front : item_at (sent_stream version (sent ∷ others)) ≡ Some (message (sent_message version sent), sent_stream version others) = (frames_are_read version sent (sent_stream version others) fit.0).front in
    let same = pair_is (item, rest ++ more) (message (sent_message version sent), sent_stream version others) (sym (in_all come more _ item rest bytes first) ∙ front) in
    record {
      first = sent;
      others = others;
      frames = refl;
      item_is = ap (λ (found : Item × List ℕ). found.0) same;
      meant = read_as_meant version sent fit.0;
      bytes = ap (λ (found : Item × List ℕ). found.1) same;
      fit = fit.1;
    }

whole : (version : Version) (coming : List Sent) → AllFit version coming → item_at (sent_stream version coming) ≡ None → coming ≡ []
whole version [] fit none = refl
whole version (sent ∷ others) fit none =
    let front : item_at (sent_stream version (sent ∷ others)) ≡ Some (message (sent_message version sent), sent_stream version others) = (frames_are_read version sent (sent_stream version others) fit.0).front in
    absurd (nothing_at_none (message (sent_message version sent), sent_stream version others) (sym none ∙ front))

pub streams_are_read : StreamsAreRead
streams_are_read = record { cut = cut; whole = whole }

mapped : {A B : Type 0} (f : A → B) (xs ys : List A) → map f (xs ++ ys) ≡ map f xs ++ map f ys
mapped f [] ys = refl
mapped f (x ∷ xs) ys = λ i. f x ∷ mapped f xs ys i

pub streams_join : StreamsJoin
streams_join version coming later = record {
  bytes = flat_map-append (sent_frame version) coming later;
  frames = mapped (frame_meant version) coming later;
  fit = all_append (SentFits version) coming later;
}
