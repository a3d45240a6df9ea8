-- Values whose HAMTs are known by the ids of their nodes: what a store that holds each node's block knows.
use Rattle.std.specs.Prelude.{◌≡◌, ℕ, zero, suc, ◌+◌, ◌-◌, ◌<◌, List, [], ◌∷◌, length, Option, Some, IfSome}
use Rattle.ild_data.specs.Data.{Data}
use Rattle.ild_data.specs.Key.{Rises}
use Rattle.ild_data.specs.Limits.{IsWithin}
use Rattle.ild_data.specs.Spell.{spell, id_of}
use Rattle.ild_schema.specs.declared.number.Slot.{Slot}
use Rattle.ild_schema.specs.declared.def.TypeDef.{TypeDef}
use Rattle.ild_schema.specs.declared.def.TypeDef.TheVariants as D
use Rattle.ild_schema.specs.declared.def.MapForm.{MapForm}
use Rattle.ild_schema.specs.declared.def.MapForm.TheVariants as MF
use Rattle.ild_schema.specs.declared.def.Field.{Field}
use Rattle.ild_schema.specs.declared.row.Row.{Row}
use Rattle.ild_schema.specs.Value as V
use Rattle.ild_schema.specs.Value.{Value, Values, Pairs, Optionals}
use Rattle.ild_data.specs.declared.hamt_shape.HamtShape.{HamtShape}
use Rattle.ild_data.specs.TrieShape.{trie_levels}
use Rattle.ild_data.specs.ByteOrder.{in_byte_order}
use Rattle.ild_data.specs.Trie.{part, at_depth, node_of}
use Rattle.ild_typed.specs.Layer as L
use Rattle.ild_typed.specs.Layer.{Layer}
use Rattle.ild_schema.specs.Slots.{form_of}
use Rattle.ild_typed.specs.Slots.{element_of, fields_of, member_of}
use Rattle.ild_typed.specs.Composed.{Hamts}
use Rattle.ild_typed.specs.Hamt.{whole}
use Rattle.ild_typed.specs.Represented.{represented_pairs}

-- each node beneath is known
unfoldable pub AreKnown : (List ℕ → List ℕ) → HamtShape → (Data → Type 0) → ℕ → ℕ → List (List ℕ × Data) → Type 0
AreKnown h p Known zero depth es = Unit {0}
AreKnown h p Known (suc left) depth es =
    (i : ℕ) (n : Data) → p.bucket < length (part (at_depth h p depth) es i) → node_of h p left (depth + 1) (part (at_depth h p depth) es i) ≡ Some n
    → Known n × AreKnown h p Known left (depth + 1) (part (at_depth h p depth) es i)

-- entries of a HAMT that rise in the key order, with each node known
abbrev pub Kept : (List ℕ → List ℕ) → (Data → Type 0) → HamtShape → List (List ℕ × Data) → Type 0
Kept h Known p es = Rises es × AreKnown h p Known (trie_levels p - 0) 0 (in_byte_order es)

-- what is asked of the entries of a HAMT, and of no other layer
abbrev pub FormOk : (HamtShape → List (List ℕ × Data) → Type 0) → MapForm → Layer Data → Type 0
FormOk ok (MF.Hamt p) (L.map es) = ok p es
FormOk ok form l = Unit {0}

abbrev pub LayerOk : (HamtShape → List (List ℕ × Data) → Type 0) → TypeDef → Layer Data → Type 0
LayerOk ok (D.Map key key_at value place form) l = FormOk ok form l
LayerOk ok d l = Unit {0}

module _ (at : Hamts) (ok : HamtShape → List (List ℕ × Data) → Type 0) (rows : List Row) where
  abbrev pub MapGood : Slot → Pairs → Type 0
  MapGood s ps =
      (d : TypeDef) (u : Slot) (ds : List (List ℕ × Data)) → form_of rows s ≡ Some d → element_of (Some d) ≡ Some u → represented_pairs at rows u ps ≡ Some ds → LayerOk ok d (L.map ds)

  -- each HAMT in a value meets what is asked
  abbrev mutual
    pub Good : Slot → Value → Type 0
    Good s (V.list vs) = IfSome (element_of (form_of rows s)) (λ u. Goods u vs)
    Good s (V.map ps) = MapGood s ps × IfSome (element_of (form_of rows s)) (λ u. GoodPairs u ps)
    Good s (V.struct os) = GoodFields (fields_of (form_of rows s)) os
    Good s (V.union n v) = IfSome (member_of (form_of rows s) n) (λ u. Good u v)
    Good s v = Unit {0}

    pub Goods : Slot → Values → Type 0
    Goods s V.no_values = Unit {0}
    Goods s (V.value v vs) = Good s v × Goods s vs

    pub GoodPairs : Slot → Pairs → Type 0
    GoodPairs s V.no_pairs = Unit {0}
    GoodPairs s (V.pair k v ps) = Good s v × GoodPairs s ps

    pub GoodFields : List Field → Optionals → Type 0
    GoodFields fs V.no_optionals = Unit {0}
    GoodFields [] (V.absent os) = Unit {0}
    GoodFields [] (V.present v os) = Unit {0}
    GoodFields (f ∷ fs) (V.absent os) = GoodFields fs os
    GoodFields (f ∷ fs) (V.present v os) = Good f.slot v × GoodFields fs os

-- a value all of whose HAMTs are kept
abbrev pub IsKept : (List ℕ → List ℕ) → (Data → Type 0) → List Row → Slot → Value → Type 0
IsKept h Known rows s v = Good (whole h) (Kept h Known) rows s v

-- known nodes are told apart by their ids
abbrev pub IdsTell : (Data → Type 0) → Type 0
IdsTell Known = (n m : Data) → Known n → Known m → id_of (spell n) ≡ id_of (spell m) → n ≡ m

-- a node that a block can hold, and whose block is held
pub record HeldNode (block : List ℕ → Option (List ℕ)) (n : Data) : Type 0 where
  pub within : IsWithin n
  pub there : block (id_of (spell n)) ≡ Some (spell n)
