-- The place of an id in a future's three lists.
use Rattle.std.proofs.Common.{◌≡◌, ℕ, zero, suc, ◌-◌, List, [], ◌∷◌, ◌++◌, length, map, Some, None, ap, ◌∙◌, arith}
use Rattle.std.specs.Prelude.{option_map}
use Rattle.std.specs.List.{slice_get}
use Rattle.std.proofs.lemmas.Option.{slice_get-map}
use Rattle.journal_model.specs.declared.notification.NotificationId.TheVariants as ids
use Rattle.protocol_trees.specs.Future.{ids_in}

behind : {X Y : Type 0} (f : X → Y) (xs : List X) (ys : List Y) (i : ℕ) → slice_get xs i ≡ None → slice_get (map f xs ++ ys) i ≡ slice_get ys (i - length xs)
behind f [] ys i e = ap (λ n. slice_get ys n) (omega arith)
behind f (x ∷ xs) ys zero e = absurd cc
behind f (x ∷ xs) ys (suc i) e = behind f xs ys i e ∙ ap (λ n. slice_get ys n) (omega arith)

pub name_at : (completions signals : List ℕ) (names : List (List ℕ)) (i : ℕ) (name : List ℕ) → slice_get completions i ≡ None → slice_get signals (i - length completions) ≡ None → slice_get names ((i - length completions) - length signals) ≡ Some name
    → slice_get (ids_in completions signals names) i ≡ Some (ids.SignalName name)
name_at completions signals names i name first second there =
    behind ids.CompletionId completions (map ids.SignalId signals ++ map ids.SignalName names) i first
    ∙ behind ids.SignalId signals (map ids.SignalName names) (i - length completions) second
    ∙ slice_get-map ids.SignalName names ((i - length completions) - length signals)
    ∙ ap (λ found. option_map ids.SignalName found) there
