-- The shape of a HAMT (IPLD HashMap, "bitWidth" and "bucketSize"), and the index of a key at a depth: the next bits of its hash.
use Rattle.std.specs.Prelude.{nat_le, ◌&&◌, Bool, ℕ, suc, zero, ◌+◌, ◌-◌, ◌*◌, ◌/◌, ◌%◌, ◌^◌, nat_lt, if◌then◌else◌, List, Option, Some, None, slice_index}
use Rattle.std.proofs.Common.{arith}
use Rattle.ild_data.specs.declared.hamt_shape.HamtShape.{HamtShape}

-- what a width and a bucket's size may be
abbrev pub is_shape : ℕ → ℕ → Bool
is_shape width bucket = (nat_le 3 width && nat_le width 8) && (nat_le 1 bucket && nat_le bucket 16)

-- the shape of a HAMT of which nothing is said
abbrev pub usual : HamtShape
usual = record { width = 8; bucket = 3; wide = omega arith; narrow = omega arith; filled = omega arith; small = omega arith }

-- a hash of 32 bytes has indices for so many levels
abbrev pub trie_levels : HamtShape → ℕ
trie_levels p = 256 / p.width

-- bit n of a list of bytes, from the most significant of the first
abbrev pub bit_at : List ℕ → ℕ → ℕ
bit_at bytes n = slice_index bytes (n / 8) / 2 ^ (7 - n % 8) % 2

-- the number of the bits from one on, the first the most significant
abbrev pub bits_at : List ℕ → ℕ → ℕ → ℕ
bits_at bytes from zero = 0
bits_at bytes from (suc count) = 2 ^ count * bit_at bytes from + bits_at bytes (from + 1) count

-- at a depth that the hash has
abbrev pub index : HamtShape → List ℕ → ℕ → ℕ
index p hash depth = bits_at hash (depth * p.width) p.width

-- at any depth: none where the bits are used up
abbrev pub index_at : HamtShape → List ℕ → ℕ → Option ℕ
index_at p hash depth = if nat_lt depth (trie_levels p) then Some (index p hash depth) else None
