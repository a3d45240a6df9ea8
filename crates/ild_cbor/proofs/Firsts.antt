-- The kind of an item is told by its first byte.
use Rattle.std.proofs.Common.{◌≡◌, ℕ, ◌/◌, ◌%◌, ◌^◌, ◌<◌, true, false, get_or, List, [], ◌∷◌, ◌++◌, length, refl, ap, ◌∙◌, arith}
use Rattle.std.specs.Prelude.{pos, negsuc}
use Rattle.ild_data.specs.Data.{Data, null, boolean, integer, text, bytes, list, map, link}
use Rattle.ild_data.specs.Spell.{spell, spell_items}
use Rattle.ild_data.specs.Shape.{major_of, argument_of, string_of, parts_of}
use Rattle.ild_data.proofs.Heads.{first_of}
use Rattle.ild_data.proofs.Shapes.{spell_shape}
use Rattle.ild_data.proofs.Sizes.{spell_some}
use Rattle.ild_cbor.specs.inside.OfHead.{kind_in}
use Rattle.ild_cbor.specs.Scalar.{kind_of}
use Rattle.ild_cbor.proofs.Shapes.{opens}

by_first : (t : Data) (c : ℕ) (tail : List ℕ) → c ∷ tail ≡ spell t → c / 32 ≡ major_of t → kind_in (c / 32) (c % 32) ≡ kind_of t
by_first null c tail e high = let first : c ≡ 0xf6 = ap first_of e in rw first refl
by_first (boolean false) c tail e high = let first : c ≡ 0xf4 = ap first_of e in rw first refl
by_first (boolean true) c tail e high = let first : c ≡ 0xf5 = ap first_of e in rw first refl
by_first (integer (pos n)) c tail e high = rw high refl
by_first (integer (negsuc n)) c tail e high = rw high refl
by_first (text s) c tail e high = rw high refl
by_first (bytes s) c tail e high = rw high refl
by_first (list ds) c tail e high = rw high refl
by_first (map ms) c tail e high = rw high refl
by_first (link s) c tail e high = rw high refl

pub kind_first : (t : Data) (b : List ℕ) → b ≡ spell t → argument_of t < 2 ^ 64 → kind_in (get_or b 0 0 / 32) (get_or b 0 0 % 32) ≡ kind_of t
kind_first t [] e lt = let len : 0 ≡ length (spell t) = ap length e in let some = spell_some t in absurd (omega arith)
kind_first t (c ∷ tail) e lt = by_first t c tail e (opens c tail (major_of t) (argument_of t) (string_of t ++ spell_items (parts_of t)) lt (e ∙ spell_shape t)).high
