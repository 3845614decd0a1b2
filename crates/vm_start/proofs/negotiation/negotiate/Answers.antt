use Rattle.std.proofs.Common.{◌∙◌, sym, ap, subst, ℕ, List, Bor}
use Rattle.std.specs.Option.{option_copied}
use Rattle.std.specs.Prelude.{Option, Some}
use Rattle.vm_start.specs.Negotiation.{content_type, Negotiates}
use Rattle.vm_start.proofs.Speaking.{speaks_so}
use Rattle.vm_start.proofs.negotiation.negotiate.Goals as goal

pub returns-in_ok-copy_from_str-in-Ok-Some : goal.returns-in_ok-copy_from_str-in-Ok-Some
returns-in_ok-copy_from_str-in-Ok-Some g c =
    let Fails = g.H.HeaderMap.fails c.args.headers.now content_type in
    let text = c.in_ok-copy_from_str-in-Ok-Some.field-0 in
    subst (λ (found : Option (List ℕ)). Negotiates Fails found c.spoken_in.result) (ap (λ (t : List ℕ). Some t) c.in_ok-copy_from_str-in-Ok-Some.ensures ∙ ap (λ (found : Option (Bor (List ℕ))). option_copied found) (sym c.in-Ok-Some.field-0-is) ∙ c.in-Ok-Some.ensures.text) (speaks_so Fails text c.spoken_in.result c.spoken_in.ensures)
