use Rattle.std.proofs.Common.{◌≡◌, ◌∙◌, ℕ, List, [], Option, Some, None, refl, sym}
use Rattle.std.specs.Prelude.{option_map, IfNone, IfSome}
use Rattle.protocol_wire.specs.Wire.{Field}
use Rattle.protocol_wire.specs.CodeFields.{field}
use Rattle.protocol_wire.specs.ComingFields.{coming}
use Rattle.protocol_wire.specs.declared.listed.Fields.{Fields}
use Rattle.protocol_wire.specs.Selection.{among, last_run, run, variant_of, is_run}
use Rattle.protocol_wire.proofs.Steps.{is_shorter}
use Rattle.protocol_wire.proofs.Runs.{Running, onward, numbered, run_skips, run_goes_on, run_begins, run_none, run_found}
use Rattle.protocol_wire.proofs.select.run_at.Goals as goal
use Rattle.protocol_wire.proofs.select.run_at.Goals.{else-is_variant-via-then-is_variant+else-not-is_run, else-is_variant-via-else-is_variant}

none_is : (variants : List ℕ) (found : Option (ℕ × Fields)) (fs whole : List Field) → Running variants (onward found) fs whole → fs ≡ [] → IfNone found (whole ≡ [])
none_is variants None fs whole h e = run_none variants fs whole h e
none_is variants (Some x) fs whole h e = tt

tag_is : (variants : List ℕ) (found : Option (ℕ × Fields)) (fs whole : List Field) → Running variants (onward found) fs whole → fs ≡ [] → IfSome found (λ r. variant_of whole ≡ Some r.0)
tag_is variants None fs whole h e = tt
tag_is variants (Some x) fs whole h e = (run_found variants (x.0, coming x.1) fs whole h e).0

rest_is : (variants : List ℕ) (found : Option (ℕ × Fields)) (fs whole : List Field) → Running variants (onward found) fs whole → fs ≡ [] → IfSome found (λ r. among variants (coming r.1) ≡ whole)
rest_is variants None fs whole h e = tt
rest_is variants (Some x) fs whole h e = (run_found variants (x.0, coming x.1) fs whole h e).1

-- The code looks at the number of what was found alone.
numbers_alone : (found : Option (ℕ × Fields)) (n : ℕ) → is_run (numbered (onward found)) n ≡ is_run (option_map (λ x. (x.0, [])) found) n
numbers_alone None n = refl
numbers_alone (Some x) n = refl

pub loop-field-smaller-then-not-is_run : goal.loop-field-smaller-then-not-is_run
loop-field-smaller-then-not-is_run c = is_shorter (coming c.loop-field.rest) (coming c.in-Some.after) (field c.in-Some.field) c.in-Some.ensures.some

pub loop-field-smaller : goal.loop-field-smaller
loop-field-smaller c = is_shorter (coming c.loop-field.rest) (coming c.in-Some.after) (field c.in-Some.field) c.in-Some.ensures.some

pub loop-field-preserved-then-not-is_run : goal.loop-field-preserved-then-not-is_run
loop-field-preserved-then-not-is_run c =
    run_begins c.args.variants.now (onward c.loop-field.found) (coming c.loop-field.rest) (coming c.in-Some.after) (last_run (among c.args.variants.now (coming c.args.all))) (field c.in-Some.field)
    c.loop-field.invariant c.in-Some.ensures.some
    (sym c.is_variant.ensures ∙ c.if-is_variant.true) (numbers_alone c.loop-field.found c.in-Some.field.number ∙ sym c.is_run.ensures ∙ c.if-not-is_run.true)

pub loop-field-preserved : goal.loop-field-preserved
loop-field-preserved c =
    let whole = last_run (among c.args.variants.now (coming c.args.all)) in
    elim c.else-is_variant.branch [
      | else-is_variant-via-then-is_variant+else-not-is_run w ↦
          run_goes_on c.args.variants.now (onward c.loop-field.found) (coming c.loop-field.rest) (coming c.in-Some.after) whole (field c.in-Some.field) c.loop-field.invariant c.in-Some.ensures.some
          (sym c.is_variant.ensures ∙ w.if-is_variant.true) (numbers_alone c.loop-field.found c.in-Some.field.number ∙ sym w.is_run.ensures ∙ w.if-not-is_run.false)
      | else-is_variant-via-else-is_variant w ↦
          run_skips c.args.variants.now (onward c.loop-field.found) (coming c.loop-field.rest) (coming c.in-Some.after) whole (field c.in-Some.field) c.loop-field.invariant c.in-Some.ensures.some
          (sym c.is_variant.ensures ∙ w.if-is_variant.false)
    ]

pub returns-clause-none : goal.returns-clause-none
unfolding run
returns-clause-none c = none_is c.args.variants.now c.loop-field.found (coming c.loop-field.rest) (last_run (among c.args.variants.now (coming c.args.all))) c.loop-field.invariant c.in_default.ensures.none

pub returns-clause-variant : goal.returns-clause-variant
unfolding run
returns-clause-variant c = tag_is c.args.variants.now c.loop-field.found (coming c.loop-field.rest) (last_run (among c.args.variants.now (coming c.args.all))) c.loop-field.invariant c.in_default.ensures.none

pub returns-clause-rest : goal.returns-clause-rest
unfolding run
returns-clause-rest c = rest_is c.args.variants.now c.loop-field.found (coming c.loop-field.rest) (last_run (among c.args.variants.now (coming c.args.all))) c.loop-field.invariant c.in_default.ensures.none
