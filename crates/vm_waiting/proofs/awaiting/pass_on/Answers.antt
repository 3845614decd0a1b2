use Rattle.std.proofs.Common.{refl, inl}
use Rattle.vm_awaits.specs.Views.{results_of}
use Rattle.vm_waiting.specs.declared.children.ChildrenKnown.TheVariants as known
use Rattle.vm_waiting.proofs.CancelSteps.{looks_so}
use Rattle.vm_waiting.proofs.awaiting.pass_on.Goals as goal

pub returns-in-Ok-AllIds : goal.returns-in-Ok-AllIds
returns-in-Ok-AllIds c =
    let old = c.args.active.now in
    inl (record {
      found = known.AllIds;
      looked = record old { results = c.look_for_children.new.results };
      looks = looks_so old.children (results_of old.results) _ known.AllIds (results_of c.look_for_children.new.results) c.in-Ok-AllIds.field-0-is c.in-Ok-AllIds.ensures;
      others = refl;
      goes_on = c.cancel.ensures;
    })

pub returns-in-Ok-Unknown : goal.returns-in-Ok-Unknown
returns-in-Ok-Unknown c =
    let old = c.args.active.now in
    inl (record {
      found = known.Unknown _;
      looked = record old { results = c.look_for_children.new.results };
      looks = looks_so old.children (results_of old.results) _ _ (results_of c.look_for_children.new.results) c.in-Ok-Unknown.field-0-is c.in-Ok-Unknown.ensures;
      others = refl;
      goes_on = (c.stay_asleep.ensures, refl);
    })

pub returns-in-Ok-NoId : goal.returns-in-Ok-NoId
returns-in-Ok-NoId c =
    let old = c.args.active.now in
    inl (record {
      found = known.NoId;
      looked = record old { results = c.look_for_children.new.results };
      looks = looks_so old.children (results_of old.results) _ known.NoId (results_of c.look_for_children.new.results) c.in-Ok-NoId.field-0-is c.in-Ok-NoId.ensures;
      others = refl;
      goes_on = (refl, refl);
    })
