use Rattle.std.proofs.Common.{refl, sym, ◌∙◌}
use Rattle.protocol_equality.proofs.laws.header_equality_is_an_equivalence.Goals as goal

pub returns : goal.returns
returns g c = record {
  reflexive = λ ignoring x. refl;
  symmetric = λ ignoring x y h. sym h;
  transitive = λ ignoring x y z h k. h ∙ k;
  coarser = λ x y h. g.met.M.CommandMessageHeaderEq.coarser x y h;
}
