use Rattle.std.proofs.Common.{◌≡◌, ◌∙◌, refl, sym, ap, subst, arith, ℕ, ◌+◌, List, [], ◌∷◌, ◌++◌, length, length-append, take}
use Rattle.std.proofs.lemmas.List.{take_more}
use Rattle.schedule_model.specs.LettingGo.{left_of}
use Rattle.schedule_model.specs.Places.{Notes, place_in}
use Rattle.schedule_model.specs.declared.held.HeldAttempt.{HeldAttempt}
use Rattle.schedule_model.specs.declared.places.AttemptPlaces.{AttemptPlaces}
use Rattle.schedule_model.proofs.LettingGo.{left_less, left_more}
use Rattle.schedule_model.proofs.Placing.{indexed_push, indexed_still}
use Rattle.schedule_model.proofs.leaving.places_left.Goals.{then-not-goes+in_ok-note, else-not-goes}
use Rattle.schedule_model.proofs.leaving.places_left.Goals as goal

pub loop-one-preserved : goal.loop-one-preserved
loop-one-preserved g c =
    let ids = c.args.ids.now in
    let number = c.args.number in
    let all = c.args.attempts.now in
    let one = c.one-item.result in
    let before = take c.loop-one.one-index all in
    let inv = c.loop-one.invariant in
    let next : take (c.loop-one.one-index + 1) all ≡ before ++ one ∷ [] =
    take_more all c.loop-one.one-index one c.loop-one-test.true ∙ ap (λ (x : HeldAttempt g.row.H.Denot). before ++ x ∷ []) (sym c.one-item.is) in
    let left : left_of ids number (take (c.loop-one.one-index + 1) all) ≡ left_of ids number (before ++ one ∷ []) = ap (λ (held : List (HeldAttempt g.row.H.Denot)). left_of ids number held) next in
    elim c.if-not-goes.branch [
      | then-not-goes+in_ok-note w ↦
          let more = left ∙ left_more ids number before one (sym c.goes.ensures ∙ w.if-not-goes.true) in
          record {
            indexed = indexed_push c.loop-one.places c.if-not-goes.places (left_of ids number before) (left_of ids number before) (left_of ids number (take (c.loop-one.one-index + 1) all)) one c.loop-one.count
                inv.indexed refl inv.count (subst (λ (places : AttemptPlaces). Notes one.invocation one.number c.loop-one.count c.loop-one.places places) (sym w.places-is) w.in_ok-note.ensures.ok) more;
            count = omega (arith, w.count-is, inv.count, ap (λ (held : List (HeldAttempt g.row.H.Denot)). length held) more, length-append (left_of ids number before) (one ∷ []));
            few = omega (arith, w.count-is, inv.few);
          }
      | else-not-goes w ↦
          let same = left ∙ left_less ids number before one (sym c.goes.ensures ∙ w.if-not-goes.false) in
          record {
            indexed = indexed_still c.loop-one.places c.if-not-goes.places (left_of ids number before) (left_of ids number (take (c.loop-one.one-index + 1) all)) inv.indexed
                (λ id n. ap (λ (places : AttemptPlaces). place_in places id n) w.places-is) same;
            count = w.count-is ∙ inv.count ∙ sym (ap (λ (held : List (HeldAttempt g.row.H.Denot)). length held) same);
            few = omega (arith, w.count-is, inv.few);
          }
    ]
