-- A signal's word is read just where it is the spelling of what is read.
use Rattle.std.proofs.Common.{◌≡◌, ℕ, ◌^◌, ◌<◌, eqb, inl, inr, List, [], ◌∷◌, Option, Some, None, refl, sym, ap, subst, ◌∙◌, ◌≢◌}
use Rattle.std.proofs.lemmas.Bool.{eqb-true}
use Rattle.std.proofs.lemmas.Option.{none-some, same_Some}
use Rattle.journal_model.specs.declared.notification.SignalKey.{SignalKey}
use Rattle.journal_model.specs.declared.notification.SignalKey.TheVariants.{ByIndex, ByName}
use Rattle.script_lines.specs.Word.{text_word, number_word, target_word, IsTarget}
use Rattle.script_lines.specs.LineReader.{then_read, number_below, signal_number_of, named_target_of, target_from, target_of}
use Rattle.script_lines.proofs.WordLaws.{IsReading, number_32, text_reading, read_step, chosen}

-- a number is read where one is spelled
number_takes : (word : List ℕ) (number : ℕ) → signal_number_of word ≡ Some number → (number < 2 ^ 32) × (word ≡ number_word number)
unfolding signal_number_of
number_takes [] number e = absurd (none-some number e)
number_takes (byte ∷ digits) number e =
    elim (chosen (eqb byte 35) (number_below (2 ^ 32) digits) None (Some number) e) [
      | inl h ↦
          let it = number_32.takes digits number h.1 in
          (it.0, ap (λ (b : ℕ). b ∷ digits) (eqb-true byte 35 h.0) ∙ ap (λ (ds : List ℕ). 35 ∷ ds) it.1)
      | inr h ↦ absurd (none-some number h.1)
    ]

number_again : (number : ℕ) → number < 2 ^ 32 → signal_number_of (number_word number) ≡ Some number
unfolding signal_number_of
number_again number below = number_32.again number below

-- a word that spells no number is that of no name which is spelled as a number
no_number : (name : List ℕ) → signal_number_of (text_word name) ≡ None → (number : ℕ) → number < 2 ^ 32 → name ≢ number_word number
no_number name none number below spells =
    none-some number (sym none ∙ ap (λ (n : List ℕ). signal_number_of (text_word n)) spells ∙ number_again number below)

dash : (number : ℕ) → signal_number_of (text_word []) ≡ Some number → ⊥
unfolding signal_number_of
dash number e = none-some number e

-- the word of a name is that of no number
none_of : (name : List ℕ) → ((number : ℕ) → number < 2 ^ 32 → name ≢ number_word number) → (read : Option ℕ) → signal_number_of (text_word name) ≡ read → read ≡ None
none_of name never None e = refl
none_of [] never (Some number) e = absurd (dash number e)
none_of (byte ∷ bytes) never (Some number) e = let it = number_takes (byte ∷ bytes) number e in absurd (never number it.0 it.1)

-- a signal is read so, and the word was its own
abbrev Takes : List ℕ → SignalKey → Type 0
Takes word target = IsTarget target × (word ≡ target_word target)

name_takes : (word : List ℕ) (target : SignalKey) → signal_number_of word ≡ None → named_target_of word ≡ Some target → Takes word target
unfolding named_target_of
name_takes word target none e =
    let n = read_step e in
    let it = text_reading.takes word n.0 n.1 in
    subst (λ (t : SignalKey). Takes word t) (same_Some (ByName n.0) target n.2)
    ((it.0, no_number n.0 (ap signal_number_of (sym it.1) ∙ none)), it.1)

from_takes : (word : List ℕ) (target : SignalKey) (read : Option ℕ) → signal_number_of word ≡ read → target_from read word ≡ Some target → Takes word target
unfolding target_from
from_takes word target (Some number) is e =
    let it = number_takes word number is in
    subst (λ (t : SignalKey). Takes word t) (same_Some (ByIndex number) target e) it
from_takes word target None is e = name_takes word target is e

target_takes : (word : List ℕ) (target : SignalKey) → target_of word ≡ Some target → Takes word target
unfolding target_of
target_takes word target e = from_takes word target (signal_number_of word) refl e

target_again : (target : SignalKey) → IsTarget target → target_of (target_word target) ≡ Some target
unfolding target_of target_from named_target_of then_read
target_again (ByIndex number) h = rw (number_again number h) refl
target_again (ByName name) h = rw (none_of name h.1 (signal_number_of (text_word name)) refl, text_reading.again name h.0) refl

pub target_reading : IsReading target_of target_word IsTarget
target_reading = record { takes = target_takes; again = target_again }
