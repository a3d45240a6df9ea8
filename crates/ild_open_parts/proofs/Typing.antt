-- What a piece that was checked has: the layer of its type, the room that this takes, and the root of a HAMT.
use Rattle.std.proofs.Common.{◌≡◌, ℕ, zero, suc, ◌+◌, ◌≤◌, List, Bool, true, false, Option, Some, None, refl, sym, ◌∙◌, ap, subst, arith}
use Rattle.std.specs.Prelude.{IsSomeAnd, option_and_then}
use Rattle.std.specs.Option.{option_map_or}
use Rattle.std.proofs.lemmas.Option.{none-some, same_Some}
use Rattle.ild_cbor.specs.declared.node.Node.{Node}
use Rattle.ild_cbor.specs.declared.piece.Piece.{Piece}
use Rattle.ild_cbor.specs.declared.piece.Piece.TheVariants as P
use Rattle.ild_cbor.specs.declared.why.Why.{Why}
use Rattle.ild_data.specs.Data as T
use Rattle.ild_data.specs.Data.{Data}
use Rattle.ild_data.specs.Trie.{TrieSlot}
use Rattle.ild_data.specs.declared.hamt_shape.HamtShape.{HamtShape}
use Rattle.ild_layer_piece.specs.Answers.{Refused, told}
use Rattle.ild_layer_piece.specs.Pieces.{StandsFor}
use Rattle.ild_schema.specs.Copies.{target_in}
use Rattle.ild_schema.specs.Kinds.{meant}
use Rattle.ild_schema.specs.Legible.{IsLegible}
use Rattle.ild_schema.specs.Slots.{form_of}
use Rattle.ild_schema.specs.Value as V
use Rattle.ild_schema.specs.Value.{Value}
use Rattle.ild_schema.specs.declared.def.EnumDef.{EnumDef}
use Rattle.ild_schema.specs.declared.def.MapForm.{MapForm}
use Rattle.ild_schema.specs.declared.def.MapForm.TheVariants as MF
use Rattle.ild_schema.specs.declared.def.StructDef.{StructDef}
use Rattle.ild_schema.specs.declared.def.TypeDef.{TypeDef}
use Rattle.ild_schema.specs.declared.def.TypeDef.TheVariants as D
use Rattle.ild_schema.specs.declared.def.UnionDef.{UnionDef}
use Rattle.ild_schema.specs.declared.def.UnitForm.{UnitForm}
use Rattle.ild_schema.specs.declared.number.Slot.{Slot}
use Rattle.ild_schema.specs.declared.number.TypeNo.{TypeNo}
use Rattle.ild_schema.specs.declared.row.Row.{Row}
use Rattle.ild_typed.specs.Causes.{why_of}
use Rattle.ild_typed.specs.Composed.{composed}
use Rattle.ild_typed.specs.Fits.{Fits, FitsPast, FormFits, ValueFits}
use Rattle.ild_typed.specs.Hamt.{a_map, alone}
use Rattle.ild_typed.specs.Layer as L
use Rattle.ild_typed.specs.Layer.{Layer, as_hamt}
use Rattle.ild_typed.specs.Layers.{LayerFits}
use Rattle.ild_typed.specs.Levels.{levels_of}
use Rattle.ild_typed.specs.Node.{IsRoot}
use Rattle.ild_typed.specs.OfType.{OfType}
use Rattle.ild_typed.specs.Pieces.{is_null_there}
use Rattle.ild_typed.proofs.Basics.{then_from}
use Rattle.ild_typed.proofs.FormOf.{root_there}
use Rattle.ild_typed.proofs.OneLayer.{in_layer}
use Rattle.ild_typed.proofs.OneValue.{Way, as_null, as_layer, layer_data, scalar_of, scalar_value, way_of}
use Rattle.ild_typed.proofs.Onlies.{only_hamt}
use Rattle.ild_union.specs.Forms.{passes_over}
use Rattle.ild_view_walk.proofs.Finding.{layered_own}
use Rattle.ild_open_held.specs.Laws.{IsFronted}
use Rattle.ild_open_parts.specs.Around.{levels_around}
use Rattle.ild_open_parts.specs.Checked.{IsChecked, IsHamtRoot, IsLayered, IsTyped}
use Rattle.ild_open_parts.specs.Leaf.{is_leaf}
use Rattle.ild_open_parts.proofs.Forming.{front_layer}

-- ---- room

around_least : (d : TypeDef) (v : Value) → levels_around d ≤ levels_of d v
around_least (D.List elem at) v = omega arith
around_least (D.Map key key_at value at form) v = omega arith
around_least (D.Struct s) v = omega arith
around_least (D.Union u) v = omega arith
around_least d v = omega arith

value_levels : (rows : List Row) (room : ℕ) (below : ℕ → Slot → Value → Type 0) (s : Slot) (v : Value) (d : TypeDef) (l : Layer Data) → layer_data alone rows (Some d) v ≡ Some l → form_of rows s ≡ Some d
    → ValueFits rows room below s v → levels_of d v ≤ room
value_levels rows room below s V.null d l there is f = absurd (none-some l there)
value_levels rows room below s v d l there is f = let x : FormFits rows room below v d = subst (λ o. IsSomeAnd o (FormFits rows room below v)) is f in x.0

fits_levels : (rows : List Row) (room : ℕ) (s : Slot) (v : Value) (d : TypeDef) (l : Layer Data) → layer_data alone rows (Some d) v ≡ Some l → form_of rows s ≡ Some d → Fits rows room s v → levels_of d v ≤ room
unfolding FitsPast
fits_levels rows zero s v d l there is f = value_levels rows zero (λ over t w. ⊥) s v d l there is f
fits_levels rows (suc room) s v d l there is f = value_levels rows (suc room) (FitsPast rows room) s v d l there is f

-- the levels of the type are there
pub room_enough : (rows : List Row) (room : ℕ) (s : Slot) (t : Data) (d : TypeDef) → form_of rows s ≡ Some d → IsFronted rows room s t → levels_around d ≤ room
room_enough rows room s t d is front = by (way_of alone rows s front.shows.0 t front.shows.2) where
  by : Way alone rows s front.shows.0 t → levels_around d ≤ room
  by (as_null a n z) = let x : false ≡ true = sym front.some ∙ ap (is_null_there s) z ∙ n in absurd cc
  by (as_layer c l known there composes) =
      let same : c ≡ d = same_Some c d (sym known ∙ is) in
      let least = around_least c front.shows.0 in
      let most = fits_levels rows room s front.shows.0 c l there known front.shows.1 in
      let enough : levels_around c ≤ room = omega (arith, least, most) in
      subst (λ k. levels_around k ≤ room) same enough

-- ---- layers

pub typed_layered : (rows : List Row) (room : ℕ) (d : TypeDef) (piece : Piece) → IsTyped rows room d piece → IsLayered rows d piece
typed_layered rows room d piece x =
    let y = front_layer rows x.whole x.slot x.tree d x.form x.front in
    record { tree = x.tree; stands = x.stands; layer = y.0; made = y.1 }

pub checked_typed : (rows : List Row) (room less : ℕ) (s : Slot) (d : TypeDef) (piece : Piece) → form_of rows s ≡ Some d → room ≡ less + levels_around d → ((t : Data) → StandsFor rows piece t → is_null_there s t ≡ false)
    → IsChecked rows room s piece → IsTyped rows less d piece
checked_typed rows room less s d piece is left some x =
    record { slot = s; form = is; tree = x.tree; stands = x.stands; whole = room; left = left; front = record { some = some x.tree x.stands; shows = x.front } }

pub checked_layered : (rows : List Row) (room : ℕ) (s : Slot) (d : TypeDef) (piece : Piece) → form_of rows s ≡ Some d → ((t : Data) → StandsFor rows piece t → is_null_there s t ≡ false) → IsChecked rows room s piece → IsLayered rows d piece
checked_layered rows room s d piece is some x =
    let y = front_layer rows room s x.tree d is (record { some = some x.tree x.stands; shows = x.front }) in
    record { tree = x.tree; stands = x.stands; layer = y.0; made = y.1 }

-- of which no reader of a layer tells a cause
pub never_refused : (rows : List Row) → IsLegible rows → (ty : ℕ) (d : TypeDef) (piece : Piece) → meant rows ty ≡ Some d → (x : IsLayered rows d piece) (why : Why) → Refused rows ty x.tree why → ⊥
never_refused rows legible ty d piece is x why refused =
    let own : why_of d x.tree ≡ None = layered_own rows legible ty d piece x.tree x.layer is x.stands x.made in
    none-some (told why) (sym own ∙ sym (ap (option_and_then (λ (k : TypeDef). why_of k x.tree)) is) ∙ refused)

-- ---- values without parts

pub leaf_slot : (o : Option TypeDef) (d : TypeDef) → o ≡ Some d → option_map_or is_leaf o false ≡ true → is_leaf d ≡ true
leaf_slot o d is leaf = ap (λ k. option_map_or is_leaf k false) (sym is) ∙ leaf

pub some_leaf : (o : Option TypeDef) → option_map_or is_leaf o false ≡ true → (d : TypeDef) × (o ≡ Some d) × (is_leaf d ≡ true)
some_leaf None leaf = absurd cc
some_leaf (Some d) leaf = (d, refl, leaf)

-- the type of such values is one of these
pub no_leaf : (d : TypeDef) → is_leaf d ≡ true → (d ≡ D.Bool → ⊥) → (d ≡ D.Int → ⊥) → (d ≡ D.Text → ⊥) → (d ≡ D.Bytes → ⊥) → ((target : TypeNo) → d ≡ D.Link target → ⊥) → (d ≡ D.Any → ⊥) → ((form : UnitForm) → d ≡ D.Unit form → ⊥)
    → ((e : EnumDef) → d ≡ D.Enum e → ⊥) → ⊥
no_leaf D.Bool leaf a b c d e f g h = a refl
no_leaf D.Int leaf a b c d e f g h = b refl
no_leaf D.Text leaf a b c d e f g h = c refl
no_leaf D.Bytes leaf a b c d e f g h = d refl
no_leaf (D.Link target) leaf a b c d e f g h = e target refl
no_leaf D.Any leaf a b c d e f g h = f refl
no_leaf (D.Unit form) leaf a b c d e f g h = g form refl
no_leaf (D.Enum m) leaf a b c d e f g h = h m refl
no_leaf k leaf a b c d e f g h = absurd cc

-- a type that is no copy, and has no parts
pub rest_leaf : (d : TypeDef) (o : Option TypeDef) → o ≡ Some d → target_in o ≡ None → ((elem : Slot) (at : ℕ) → d ≡ D.List elem at → ⊥) → ((key : TypeNo) (key_at : ℕ) (value : Slot) (at : ℕ) (form : MapForm) → d ≡ D.Map key key_at value at form → ⊥)
    → ((s : StructDef) → d ≡ D.Struct s → ⊥) → ((u : UnionDef) → d ≡ D.Union u → ⊥) → option_map_or is_leaf o false ≡ true
rest_leaf d o is end no_list no_map no_struct no_union = ap (λ k. option_map_or is_leaf k false) is ∙ by d (sym (ap target_in is) ∙ end) no_list no_map no_struct no_union where
  by : (c : TypeDef) → target_in (Some c) ≡ None → ((elem : Slot) (at : ℕ) → c ≡ D.List elem at → ⊥) → ((key : TypeNo) (key_at : ℕ) (value : Slot) (at : ℕ) (form : MapForm) → c ≡ D.Map key key_at value at form → ⊥)
      → ((s : StructDef) → c ≡ D.Struct s → ⊥) → ((u : UnionDef) → c ≡ D.Union u → ⊥) → is_leaf c ≡ true
  by D.Bool ended a b c d = refl
  by D.Text ended a b c d = refl
  by D.Bytes ended a b c d = refl
  by D.Int ended a b c d = refl
  by D.Any ended a b c d = refl
  by (D.Link target) ended a b c d = refl
  by (D.Unit form) ended a b c d = refl
  by (D.Enum e) ended a b c d = refl
  by (D.List elem at) ended a b c d = absurd (a elem at refl)
  by (D.Map key key_at value at form) ended a b c d = absurd (b key key_at value at form refl)
  by (D.Struct s) ended a b c d = absurd (c s refl)
  by (D.Union u) ended a b c d = absurd (d u refl)
  by (D.Copy target) ended a b c d = absurd (none-some target.0 (sym ended))

-- ---- HAMTs

abbrev IsMapData : Data → Type 0
IsMapData (T.map ms) = Unit {0}
IsMapData t = ⊥

map_says : (d t : Data) → a_map d ≡ Some t → (d ≡ t) × IsMapData t
map_says (T.map ms) t e = let same = same_Some (T.map ms) t e in (same, subst IsMapData same tt)
map_says d t e = absurd (none-some t e)

module _ (rows : List Row) (room : ℕ) (s : Slot) (t : Data) (p : HamtShape) (key : TypeNo) (key_at : ℕ) (value : Slot) (at : ℕ) (is : form_of rows s ≡ Some (D.Map key key_at value at (MF.Hamt p))) (front : IsFronted rows room s t) where
  abbrev Own : TypeDef
  Own = D.Map key key_at value at (MF.Hamt p)

  front_map : IsMapData t
  front_map =
      let x = front_layer rows room s t Own is front in
      let y = then_from a_map (as_hamt x.0) t x.1 in
      (map_says y.item t y.made).1

  front_is : front.shows.0 ≡ V.hamt t
  front_is = by (way_of alone rows s front.shows.0 t front.shows.2) where
    by : Way alone rows s front.shows.0 t → front.shows.0 ≡ V.hamt t
    by (as_null a n z) = let x : false ≡ true = sym front.some ∙ ap (is_null_there s) z ∙ n in absurd cc
    by (as_layer c l known there composes) =
        let same : c ≡ Own = same_Some c Own (sym known ∙ is) in
        let made : composed alone Own l ≡ Some t = ap (λ k. composed alone k l) (sym same) ∙ composes in
        let y = then_from a_map (as_hamt l) t made in
        scalar_value alone rows (Some c) front.shows.0 (V.hamt y.item) (ap (option_and_then scalar_of) (there ∙ ap Some (only_hamt l y.item y.there))) ∙ ap V.hamt (map_says y.item t y.made).0

  front_root : (slots : List TrieSlot) × IsRoot p slots t
  front_root =
      let h = in_layer rows s (V.hamt t) (L.hamt t) refl (subst (OfType rows s) front_is (room, front.shows.1)) in
      let fits = subst (λ (k : TypeDef). LayerFits (OfType rows) rows k (L.hamt t)) (same_Some h.ty Own (sym h.form ∙ is)) h.holds in
      let x = root_there rows (OfType rows) p key value t fits in
      (x.0, x.1)

not_text : (t : Data) (s : List ℕ) → IsMapData t → t ≡ T.text s → ⊥
not_text t s map is = subst IsMapData is map

not_bytes : (t : Data) (s : List ℕ) → IsMapData t → t ≡ T.bytes s → ⊥
not_bytes t s map is = subst IsMapData is map

module _ (rows : List Row) (room : ℕ) (p : HamtShape) (key : TypeNo) (key_at : ℕ) (value : Slot) (at : ℕ) where
  -- it stands in an item
  pub root_item : (piece : Piece) → passes_over piece ≡ false → IsTyped rows room (D.Map key key_at value at (MF.Hamt p)) piece → ((n : Node) → piece ≡ P.Node n → ⊥) → ⊥
  root_item (P.Node n) free x other = other n refl
  root_item (P.Text s) free x other = not_text x.tree s.now (front_map rows x.whole x.slot x.tree p key key_at value at x.form x.front) x.stands
  root_item (P.Bytes s) free x other = not_bytes x.tree s.now (front_map rows x.whole x.slot x.tree p key key_at value at x.form x.front) x.stands
  root_item (P.Inline n u) free x other = absurd cc

  -- which is the root
  pub typed_root : (piece : Piece) (n : Node) → piece ≡ P.Node n → IsTyped rows room (D.Map key key_at value at (MF.Hamt p)) piece → IsHamtRoot p n
  typed_root piece n is x =
      let root = front_root rows x.whole x.slot x.tree p key key_at value at x.form x.front in
      record { tree = x.tree; stands = subst (λ q. StandsFor rows q x.tree) is x.stands; slots = root.0; is = root.1 }
