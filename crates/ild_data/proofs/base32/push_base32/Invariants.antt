use Rattle.std.proofs.Common.{◌≡◌, ◌<◌, ◌++◌, length, drop, string_bytes}
use Rattle.ild_data.specs.Base32.{letters, bytes_bits, base32}
use Rattle.ild_data.proofs.base32.push_base32.Given as goal

-- what stands, what is held and the bytes that are left spell the whole
abbrev pub invariant-loop-byte : goal.invariant-loop-byte
invariant-loop-byte l = record {
  text : string_bytes l.out ++ letters (l.held ++ bytes_bits (drop l.byte-index l.bytes)) ≡ string_bytes l.fn.out ++ base32 l.bytes;
  short : length l.held < 5;
}
