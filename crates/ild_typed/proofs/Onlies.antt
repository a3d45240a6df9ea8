-- A layer with something of a form inside is of that form.
use Rattle.std.proofs.Common.{◌≡◌, ℕ, List, Bool, Option, Some, refl, ap}
use Rattle.std.specs.Prelude.{ℤ}
use Rattle.std.proofs.lemmas.Option.{same_Some, none-some}
use Rattle.ild_data.specs.Data.{Data}
use Rattle.ild_typed.specs.Layer as L
use Rattle.ild_typed.specs.Layer.{Layer, as_boolean, as_integer, as_text, as_bytes, as_link, as_any, as_unit, as_enum, as_list, as_map, as_struct, as_union, as_hamt}

module _ {X : Type 0} where
  pub only_boolean : (l : Layer X) (b : Bool) → as_boolean l ≡ Some b → l ≡ L.boolean b
  only_boolean (L.boolean a) b e = ap L.boolean (same_Some a b e)
  only_boolean l b e = absurd (none-some b e)

  pub only_integer : (l : Layer X) (b : ℤ) → as_integer l ≡ Some b → l ≡ L.integer b
  only_integer (L.integer a) b e = ap L.integer (same_Some a b e)
  only_integer l b e = absurd (none-some b e)

  pub only_text : (l : Layer X) (b : List ℕ) → as_text l ≡ Some b → l ≡ L.text b
  only_text (L.text a) b e = ap L.text (same_Some a b e)
  only_text l b e = absurd (none-some b e)

  pub only_bytes : (l : Layer X) (b : List ℕ) → as_bytes l ≡ Some b → l ≡ L.bytes b
  only_bytes (L.bytes a) b e = ap L.bytes (same_Some a b e)
  only_bytes l b e = absurd (none-some b e)

  pub only_link : (l : Layer X) (b : List ℕ) → as_link l ≡ Some b → l ≡ L.link b
  only_link (L.link a) b e = ap L.link (same_Some a b e)
  only_link l b e = absurd (none-some b e)

  pub only_any : (l : Layer X) (b : Data) → as_any l ≡ Some b → l ≡ L.any b
  only_any (L.any a) b e = ap L.any (same_Some a b e)
  only_any l b e = absurd (none-some b e)

  pub only_unit : (l : Layer X) (b : Unit {0}) → as_unit l ≡ Some b → l ≡ L.unit
  only_unit L.unit b e = refl
  only_unit l b e = absurd (none-some b e)

  pub only_enum : (l : Layer X) (b : ℕ) → as_enum l ≡ Some b → l ≡ L.enum b
  only_enum (L.enum a) b e = ap L.enum (same_Some a b e)
  only_enum l b e = absurd (none-some b e)

  pub only_list : (l : Layer X) (b : List X) → as_list l ≡ Some b → l ≡ L.list b
  only_list (L.list a) b e = ap L.list (same_Some a b e)
  only_list l b e = absurd (none-some b e)

  pub only_map : (l : Layer X) (b : List (List ℕ × X)) → as_map l ≡ Some b → l ≡ L.map b
  only_map (L.map a) b e = ap L.map (same_Some a b e)
  only_map l b e = absurd (none-some b e)

  pub only_struct : (l : Layer X) (b : List (Option X)) → as_struct l ≡ Some b → l ≡ L.struct b
  only_struct (L.struct a) b e = ap L.struct (same_Some a b e)
  only_struct l b e = absurd (none-some b e)

  pub only_union : (l : Layer X) (b : ℕ × X) → as_union l ≡ Some b → l ≡ L.union b.0 b.1
  only_union (L.union n a) b e = ap (λ (p : ℕ × X). L.union p.0 p.1) (same_Some (n, a) b e)
  only_union l b e = absurd (none-some b e)

  pub only_hamt : (l : Layer X) (b : Data) → as_hamt l ≡ Some b → l ≡ L.hamt b
  only_hamt (L.hamt a) b e = ap L.hamt (same_Some a b e)
  only_hamt l b e = absurd (none-some b e)
