-- The outermost layer of a value, and what it is for such a layer to be of a type's form with parts that fit (IPLD Schemas,
-- "Type kinds"). Of a HAMT, all entries or those in the block of its root.
use Rattle.std.specs.Prelude.{◌≡◌, ℕ, ◌<◌, ◌⊎◌, IsTrue, IsUtf8, IsSomeAnd, List, [], ◌∷◌, length, Option, Some, None, slice_get}
use Rattle.std.specs.List.{AllByRecursion}
use Rattle.ild_data.specs.Data as T
use Rattle.ild_data.specs.Data.{Data}
use Rattle.ild_data.specs.Bytes.{AreBytes}
use Rattle.ild_data.specs.Cid.{IsCid}
use Rattle.ild_data.specs.Integer.{IsInt}
use Rattle.ild_data.specs.Key.{Rises}
use Rattle.ild_data.specs.Tree.{IsTree}
use Rattle.ild_schema.specs.declared.number.Slot.{Slot}
use Rattle.ild_schema.specs.declared.number.TypeNo.{TypeNo}
use Rattle.ild_schema.specs.declared.def.TypeDef.{TypeDef}
use Rattle.ild_schema.specs.declared.def.TypeDef.TheVariants as D
use Rattle.ild_schema.specs.declared.def.MapForm.{MapForm}
use Rattle.ild_schema.specs.declared.def.MapForm.TheVariants as MF
use Rattle.ild_schema.specs.declared.def.Field.{Field}
use Rattle.ild_schema.specs.declared.row.Row.{Row}
use Rattle.ild_schema.specs.Value as V
use Rattle.ild_schema.specs.Value.{Value, values_list, pairs_list, optionals_list}
use Rattle.ild_typed.specs.Layer as L
use Rattle.ild_typed.specs.Layer.{Layer, as_boolean, as_integer, as_text, as_bytes, as_link, as_any, as_unit, as_enum, as_list, as_map, as_struct, as_union, as_hamt}
use Rattle.ild_schema.specs.Slots.{plainly}
use Rattle.ild_typed.specs.Hamt.{alone}
use Rattle.ild_typed.specs.Represented.{represented}
use Rattle.ild_typed.specs.Node as N
use Rattle.ild_data.specs.Trie as Trie
use Rattle.ild_data.specs.declared.hamt_shape.HamtShape.{HamtShape}

-- the outermost layer of a value that is not null
abbrev pub layer_of : Value → Option (Layer Value)
layer_of V.null = None
layer_of (V.boolean b) = Some (L.boolean b)
layer_of (V.integer n) = Some (L.integer n)
layer_of (V.text s) = Some (L.text s)
layer_of (V.bytes s) = Some (L.bytes s)
layer_of (V.link s) = Some (L.link s)
layer_of (V.list vs) = Some (L.list (values_list vs))
layer_of (V.map ps) = Some (L.map (pairs_list ps))
layer_of (V.struct os) = Some (L.struct (optionals_list os))
layer_of (V.union n v) = Some (L.union n v)
layer_of (V.enum n) = Some (L.enum n)
layer_of V.unit = Some L.unit
layer_of (V.any d) = Some (L.any d)
layer_of (V.hamt d) = Some (L.hamt d)

abbrev pub IsNotNull : Data → Type 0
IsNotNull T.null = ⊥
IsNotNull d = Unit {0}

-- no key stands twice
abbrev pub AreKeysApart : {V : Type 0} → List (List ℕ × V) → Type 0
AreKeysApart [] = Unit {0}
AreKeysApart (p ∷ ps) = AllByRecursion (λ q. p.0 ≡ q.0 → ⊥) ps × AreKeysApart ps

-- the keys of maps rise, but pairs stand in any order
abbrev pub AreKeys : {V : Type 0} → MapForm → List (List ℕ × V) → Type 0
AreKeys MF.Map ps = Rises ps
AreKeys MF.ListPairs ps = AreKeysApart ps
AreKeys (MF.StringPairs inner entry) ps = AreKeysApart ps
AreKeys (MF.Hamt p) ps = Rises ps

-- data for which some value stands that fits
abbrev pub RepresentsSome : (Slot → Value → Type 0) → List Row → Slot → Data → Type 0
RepresentsSome fits rows s d = (v : Value) × fits s v × (represented alone rows s v ≡ Some d)

abbrev pub FieldsFit : (Slot → Value → Type 0) → List Field → List (Option Value) → Type 0
FieldsFit fits [] [] = Unit {0}
FieldsFit fits [] (o ∷ os) = ⊥
FieldsFit fits (f ∷ fs) [] = ⊥
FieldsFit fits (f ∷ fs) (Some v ∷ os) = fits f.slot v × FieldsFit fits fs os
FieldsFit fits (f ∷ fs) (None ∷ os) = IsTrue f.optional × FieldsFit fits fs os

-- the entries of a map: keys are texts of the key type
abbrev pub EntriesFit : (Slot → Value → Type 0) → List Row → TypeNo → Slot → MapForm → List (List ℕ × Value) → Type 0
EntriesFit fits rows key value form ps =
    AreKeys form ps × AllByRecursion (λ p. IsUtf8 p.0 × RepresentsSome fits rows (plainly key) (T.text p.0) × fits value p.1) ps

-- those in the block of the root of a HAMT of this shape
abbrev pub RootFits : (Slot → Value → Type 0) → List Row → HamtShape → TypeNo → Slot → Data → Type 0
RootFits fits rows p key value d =
    (slots : List Trie.TrieSlot) × N.IsRoot p slots d
    × AllByRecursion (λ e. RepresentsSome fits rows (plainly key) (T.text e.0) × RepresentsSome fits rows value e.1) (N.entries_in slots)

abbrev pub MapFits : (Slot → Value → Type 0) → List Row → TypeNo → Slot → MapForm → Layer Value → Type 0
MapFits fits rows key value (MF.Hamt p) l =
    IsSomeAnd (as_map l) (EntriesFit fits rows key value (MF.Hamt p)) ⊎ IsSomeAnd (as_hamt l) (RootFits fits rows p key value)
MapFits fits rows key value form l = IsSomeAnd (as_map l) (EntriesFit fits rows key value form)

-- the layer is of the type's form, and its parts fit
abbrev pub LayerFits : (Slot → Value → Type 0) → List Row → TypeDef → Layer Value → Type 0
LayerFits fits rows D.Bool l = IsSomeAnd (as_boolean l) (λ b. Unit {0})
LayerFits fits rows D.Text l = IsSomeAnd (as_text l) IsUtf8
LayerFits fits rows D.Bytes l = IsSomeAnd (as_bytes l) AreBytes
LayerFits fits rows D.Int l = IsSomeAnd (as_integer l) IsInt
LayerFits fits rows D.Any l = IsSomeAnd (as_any l) (λ d. IsTree d × IsNotNull d)
LayerFits fits rows (D.Link target) l = IsSomeAnd (as_link l) (λ s. IsCid s × AreBytes s)
LayerFits fits rows (D.Unit form) l = IsSomeAnd (as_unit l) (λ u. Unit {0})
LayerFits fits rows (D.List elem at) l = IsSomeAnd (as_list l) (AllByRecursion (fits elem))
LayerFits fits rows (D.Map key key_at value at form) l = MapFits fits rows key value form l
LayerFits fits rows (D.Struct s) l = IsSomeAnd (as_struct l) (FieldsFit fits s.fields)
LayerFits fits rows (D.Union u) l =
    IsSomeAnd (as_union l) (λ p. IsSomeAnd (slice_get u.members p.0) (λ m. fits (plainly m.ty) p.1))
LayerFits fits rows (D.Enum e) l = IsSomeAnd (as_enum l) (λ n. n < length e.members)
LayerFits fits rows (D.Copy target) l = ⊥
