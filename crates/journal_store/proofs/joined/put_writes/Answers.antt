use Rattle.std.proofs.Common.{◌≡◌, ◌∙◌, refl, sym, ap, subst, List, [], ◌∷◌, ◌++◌, append-nil, append_assoc}
use Rattle.store_tables.specs.declared.row.InvocationRow.{InvocationRow}
use Rattle.store_tables.specs.declared.row.Write.{Write}
use Rattle.store_live.proofs.Noting.{all_yielded}
use Rattle.journal_store.specs.JoinedFrames.{other_writes, row_behind}
use Rattle.journal_store.proofs.JoinedWrites.{behind-append, others-append}
use Rattle.journal_store.proofs.joined.put_writes.Goals as goal

pub loop-write-init : goal.loop-write-init
loop-write-init c = record { writes = sym (append-nil c.args.writes.now.items); row = refl }

pub loop-write-preserved : goal.loop-write-preserved
loop-write-preserved c = record {
  writes =
      c.in_ok-put_write.ensures.writes
      ∙ ap (λ (front : List Write). front ++ other_writes (c.in-Some.write ∷ [])) c.loop-write.invariant.writes
      ∙ append_assoc c.args.writes.now.items (other_writes c.loop-write.yielded) (other_writes (c.in-Some.write ∷ []))
      ∙ ap (λ (behind : List Write). c.args.writes.now.items ++ behind) (sym (others-append c.loop-write.yielded (c.in-Some.write ∷ [])));
  row =
      c.in_ok-put_write.ensures.row ∙ ap (row_behind (c.in-Some.write ∷ [])) c.loop-write.invariant.row
      ∙ sym (behind-append c.loop-write.yielded (c.in-Some.write ∷ []) c.args.row.now);
}

pub returns-clause-writes : goal.returns-clause-writes
returns-clause-writes c =
    let h = c.into_iter-write-iterator.ensures.into_iter_gives in
    let all = all_yielded c.into_iter-write-iterator.result c.args.made.items h.0 (h.1 ∙ c.args.made.ok.0) c.loop-write.yielded c.loop-write.write-iterator c.loop-write.yielded_by c.next.result c.next.new.self c.in-None.is
    c.next.ensures.steps in
    subst (λ (made : List Write). c.loop-write.writes.items ≡ c.args.writes.now.items ++ other_writes made) all c.loop-write.invariant.writes

pub returns-clause-row : goal.returns-clause-row
returns-clause-row c =
    let h = c.into_iter-write-iterator.ensures.into_iter_gives in
    let all = all_yielded c.into_iter-write-iterator.result c.args.made.items h.0 (h.1 ∙ c.args.made.ok.0) c.loop-write.yielded c.loop-write.write-iterator c.loop-write.yielded_by c.next.result c.next.new.self c.in-None.is
    c.next.ensures.steps in
    subst (λ (made : List Write). c.loop-write.row ≡ row_behind made c.args.row.now) all c.loop-write.invariant.row
