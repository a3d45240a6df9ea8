-- The names that stand behind `advanced`: `HAMT`, or `HAMT_wW_bB` for W bits of the hash and B entries of a bucket, each in
-- decimal without leading zeros.
use Rattle.std.specs.Prelude.{◌≡◌, ℕ, ◌-◌, ◌&&◌, nat_le, Bool, true, false, List, Option, Some, None, codes, bytes_eq, take, drop, slice_index, option_and_then, if◌then◌else◌}
use Rattle.std.proofs.Common.{refl}
use Rattle.std.proofs.lemmas.Bool.{and_parts, leb-true}
use Rattle.ild_data.specs.declared.hamt_shape.HamtShape.{HamtShape}
use Rattle.ild_data.specs.TrieShape.{is_shape, usual}
use Rattle.ild_data.specs.Decimal.{natural_of}

-- the shape of so many bits and entries, if there is one
abbrev pub shape_if : (width bucket : ℕ) (b : Bool) → is_shape width bucket ≡ b → Option HamtShape
shape_if width bucket false is = None
shape_if width bucket true is =
    let both = and_parts (nat_le 3 width && nat_le width 8) (nat_le 1 bucket && nat_le bucket 16) is in
    let widths = and_parts (nat_le 3 width) (nat_le width 8) both.0 in
    let buckets = and_parts (nat_le 1 bucket) (nat_le bucket 16) both.1 in
    Some (record {
      width = width;
      bucket = bucket;
      wide = leb-true 3 width widths.0;
      narrow = leb-true width 8 widths.1;
      filled = leb-true 1 bucket buckets.0;
      small = leb-true bucket 16 buckets.1;
    })

abbrev pub shape_at : ℕ → ℕ → Option HamtShape
shape_at width bucket = shape_if width bucket (is_shape width bucket) refl

-- what stands around a digit, the width
abbrev pub is_sized : List ℕ → Bool
is_sized name = bytes_eq (take 6 name) (codes "HAMT_w") && bytes_eq (take 2 (drop 7 name)) (codes "_b")

-- the shape that a name behind `advanced` has, if it is one of these names
abbrev pub shape_named : List ℕ → Option HamtShape
shape_named name =
    if bytes_eq name (codes "HAMT") then Some usual
    else if is_sized name then option_and_then (shape_at (slice_index name 6 - 48)) (natural_of (drop 9 name))
    else None
