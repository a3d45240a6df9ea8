-- A layer between a value and its data: the parts of both, and the slot of each.
use Rattle.std.specs.Prelude.{◌≡◌, List, [], ◌∷◌, ◌⊎◌, ◌↔◌, true, map as map_list, Option, Some, None, option_map}
use Rattle.std.specs.List.{AllByRecursion}
use Rattle.ild_data.specs.Data as T
use Rattle.ild_data.specs.Data.{Data}
use Rattle.ild_schema.specs.declared.number.Slot.{Slot}
use Rattle.ild_schema.specs.declared.def.TypeDef.{TypeDef}
use Rattle.ild_schema.specs.declared.def.Field.{Field}
use Rattle.ild_schema.specs.declared.row.Row.{Row}
use Rattle.ild_schema.specs.Value as V
use Rattle.ild_schema.specs.Value.{Value}
use Rattle.ild_typed.specs.Layer.{Layer, boolean, integer, text, bytes, link, any, unit, enum, list, map, struct, union, hamt}
use Rattle.ild_schema.specs.Slots.{form_of}
use Rattle.ild_typed.specs.Slots.{element_of, fields_of, member_of}
use Rattle.ild_typed.specs.Composed.{Hamts, composed}
use Rattle.ild_typed.specs.Represented.{represented}
use Rattle.ild_typed.specs.Layers.{layer_of}

pub record Part : Type 0 where
  pub slot : Slot
  pub value : Value
  pub tree : Data

-- a layer with other things in the places of its parts
abbrev pub layer_map : {X Y : Type 0} → (X → Y) → Layer X → Layer Y
layer_map f (boolean b) = boolean b
layer_map f (integer n) = integer n
layer_map f (text s) = text s
layer_map f (bytes s) = bytes s
layer_map f (link s) = link s
layer_map f (any d) = any d
layer_map f unit = unit
layer_map f (enum n) = enum n
layer_map f (list xs) = list (map_list f xs)
layer_map f (map ps) = map (map_list (λ p. (p.0, f p.1)) ps)
layer_map f (struct os) = struct (map_list (option_map f) os)
layer_map f (union n x) = union n (f x)
layer_map f (hamt d) = hamt d

-- what stands in the places of its parts
abbrev pub present : {X : Type 0} → List (Option X) → List X
present [] = []
present (None ∷ os) = present os
present (Some x ∷ os) = x ∷ present os

abbrev pub contents : {X : Type 0} → Layer X → List X
contents (list xs) = xs
contents (map ps) = map_list (λ p. p.1) ps
contents (struct os) = present os
contents (union n x) = x ∷ []
contents l = []

-- each part has the slot that the type gives to its place
abbrev pub FieldSlots : List Field → List (Option Part) → Type 0
FieldSlots fs [] = Unit {0}
FieldSlots [] (o ∷ os) = ⊥
FieldSlots (f ∷ fs) (None ∷ os) = FieldSlots fs os
FieldSlots (f ∷ fs) (Some p ∷ os) = (p.slot ≡ f.slot) × FieldSlots fs os

abbrev pub AreSlots : TypeDef → Layer Part → Type 0
AreSlots d (list ps) = AllByRecursion (λ p. element_of (Some d) ≡ Some p.slot) ps
AreSlots d (map ps) = AllByRecursion (λ p. element_of (Some d) ≡ Some p.1.slot) ps
AreSlots d (struct os) = FieldSlots (fields_of (Some d)) os
AreSlots d (union n p) = member_of (Some d) n ≡ Some p.slot
AreSlots d l = Unit {0}

-- one layer: a value and data of a type of this form correspond, with these parts
pub record IsLayer (at : Hamts) (d : TypeDef) (v : Value) (t : Data) (parts : Layer Part) : Type 0 where
  pub value : layer_of v ≡ Some (layer_map (λ p. p.value) parts)
  pub tree : composed at d (layer_map (λ p. p.tree) parts) ≡ Some t
  pub slots : AreSlots d parts

-- each part is represented in turn
abbrev pub AreRepresented : Hamts → List Row → Layer Part → Type 0
AreRepresented at rows parts = AllByRecursion (λ p. represented at rows p.slot p.value ≡ Some p.tree) (contents parts)

abbrev pub ByNull : Slot → Value → Data → Type 0
ByNull s v t = (v ≡ V.null) × (s.nullable ≡ true) × (t ≡ T.null)

abbrev pub ByLayer : Hamts → List Row → Slot → Value → Data → Type 0
ByLayer at rows s v t = (d : TypeDef) × (parts : Layer Part) × (form_of rows s ≡ Some d) × IsLayer at d v t parts × AreRepresented at rows parts

-- a value is represented as null, or by a layer whose parts are
abbrev pub InLayers : Hamts → Type 0
InLayers at = (rows : List Row) (s : Slot) (v : Value) (t : Data) → (represented at rows s v ≡ Some t) ↔ (ByNull s v t ⊎ ByLayer at rows s v t)
