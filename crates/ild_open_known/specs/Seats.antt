-- Where what is known stands: under the sha2-256 of what a HAMT is read as, but for the room, and of what is found sound.
use Rattle.std.specs.Prelude.{ℕ, List, [], ◌∷◌, ◌++◌, Bool, true, false}
use Rattle.std.specs.Int.{to_be_bytes, w32}
use Rattle.ild_open_known.specs.declared.kind.ReadAs.{ReadAs}

abbrev pub bit : Bool → ℕ
bit true = 1
bit false = 0

-- the numbers of its types, whether its values may be null, and those of its shape
abbrev pub kind_bytes : ReadAs → List ℕ
kind_bytes r = (((to_be_bytes w32 r.key.0 ++ to_be_bytes w32 r.value.ty.0) ++ bit r.value.nullable ∷ []) ++ to_be_bytes w32 r.shape.width) ++ to_be_bytes w32 r.shape.bucket
