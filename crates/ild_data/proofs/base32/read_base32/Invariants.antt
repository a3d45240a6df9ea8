use Rattle.std.proofs.Common.{◌≡◌, ◌<◌, ◌++◌, length, drop}
use Rattle.std.specs.Prelude.{option_map}
use Rattle.ild_data.specs.Base32.{bytes_bits}
use Rattle.ild_data.specs.Bytes.{AreBytes}
use Rattle.ild_data.specs.CidTextRead.{text_bits}
use Rattle.ild_data.proofs.base32.read_base32.Given as goal

-- the bytes that stand, the bits that are held and the bits of what is left are the bits of the text
abbrev pub invariant-loop-letter : goal.invariant-loop-letter
invariant-loop-letter l = record {
  bits : text_bits l.letters ≡ option_map (λ bs. bytes_bits l.out.items ++ (l.held ++ bs)) (text_bits (drop l.letter-index l.letters));
  bytes : AreBytes l.out.items;
  short : length l.held < 8;
}
