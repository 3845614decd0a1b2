use Rattle.protocol_differences.proofs.laws.differences_are_shown.Goals as goal

pub returns : goal.returns
returns g c = record {
  shown = λ x y differ h. differ ((g.met.M.CommandMessageHeaderDiff.silent x y).0 h);
  silent = λ x y h. (g.met.M.CommandMessageHeaderDiff.silent x y).1 h;
}
