use Rattle.std.proofs.Common.{arith, rules, false}
use Rattle.std.proofs.Output.{has_written_of_eq}
use Rattle.std.proofs.lemmas.Fmt.{hex_byte as printed_byte}
use Rattle.protocol_types.proofs.hex.HexByteDisplay.fmt.Goals as goal

pub returns : goal.returns
returns g c = record {
  writes = λ p ok. has_written_of_eq _ _ _ _ _ (printed_byte false c.args.self.now.0 (omega arith)) (search rules);
  styled = tt;
}
