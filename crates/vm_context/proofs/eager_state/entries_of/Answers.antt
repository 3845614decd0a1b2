use Rattle.std.proofs.Common.{rules, tests, ◌∙◌, map}
use Rattle.std.specs.BTreeMap.{IsFromIterResult}
use Rattle.std.proofs.lemmas.Iterator.{YieldsList-from_map}
use Rattle.std.proofs.lemmas.Iterator.Adapters.{YieldsList-from_vec, fact_from_collect}
use Rattle.std.proofs.lemmas.Iterator.Consumers.{YieldsList-at}
use Rattle.std.proofs.lemmas.Result.{IfOk-weaker}
use Rattle.journal_model.specs.State.{bytes_cmp}
use Rattle.vm_context.proofs.Collecting.{known_pair, collected}
use Rattle.vm_context.proofs.eager_state.entries_of.Goals as goal

pub returns : goal.returns
returns c =
    let sized = c.into_iter.ensures.len ∙ c.args.pairs.ok.0 in
    IfOk-weaker c.collect.result (IsFromIterResult bytes_cmp (map known_pair c.args.pairs.items)) _ (λ values made. collected c.args.pairs.items values made)
    (fact_from_collect (IsFromIterResult bytes_cmp) c.collect.result c.collect.ensures.ran
    (YieldsList-from_map _ known_pair (YieldsList-at c.map.ensures.source (YieldsList-from_vec c.args.pairs.items c.into_iter.ensures.rest sized)) c.map.ensures.closure (λ x r q k. search (rules, tests))))
