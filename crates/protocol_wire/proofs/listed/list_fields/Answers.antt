use Rattle.std.proofs.Common.{◌∙◌, ◌<◌, length, sym, arith}
use Rattle.std.proofs.lemmas.List.{length-set}
use Rattle.protocol_wire.specs.CodeFields.{field}
use Rattle.protocol_wire.proofs.Steps.{are_fields-some}
use Rattle.protocol_wire.proofs.Listing.{listed_more}
use Rattle.protocol_wire.proofs.listed.list_fields.Goals as goal

pub loop-count-preserved : goal.loop-count-preserved
loop-count-preserved c =
    let room = c.loop-count.invariant.room in
    let less = c.loop-count-test.true in
    let here : c.loop-count.count < length c.loop-count.room = rw room less in
    record {
      count = omega (arith, less);
      room = length-set c.loop-count.room c.loop-count.count c.in-Some.field ∙ room;
      all = listed_more c.loop-count.room c.loop-count.count c.in-Some.field c.loop-count.rest.now c.in-Some.after.now here c.in-Some.ensures ∙ c.loop-count.invariant.all;
      whole = sym (are_fields-some c.loop-count.rest.now (field c.in-Some.field) c.in-Some.after.now (sym c.in-Some.ensures)) ∙ c.loop-count.invariant.whole;
    }
