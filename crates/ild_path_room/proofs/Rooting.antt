-- A root stands in the shape of a HAMT's type.
use Rattle.std.proofs.Common.{◌≡◌, ℕ, List, Option, Some, None, refl, ap}
use Rattle.std.proofs.lemmas.Option.{none-some, same_Some}
use Rattle.ild_data.specs.Data.{Data}
use Rattle.ild_data.specs.Trie.{TrieSlot}
use Rattle.ild_data.specs.declared.hamt_shape.HamtShape.{HamtShape}
use Rattle.ild_node_slots.specs.Views.{HasSlots}
use Rattle.ild_node_slots.specs.declared.view.NodeView.{NodeView}
use Rattle.ild_schema.specs.declared.def.MapForm.TheVariants as MF
use Rattle.ild_schema.specs.declared.def.TypeDef.{TypeDef}
use Rattle.ild_schema.specs.declared.def.TypeDef.TheVariants as D
use Rattle.ild_schema.specs.declared.number.Slot.{Slot}
use Rattle.ild_schema.specs.declared.number.TypeNo.{TypeNo}
use Rattle.ild_typed.specs.Node.{IsRoot}
use Rattle.ild_view.specs.Forms.{shape_in}
use Rattle.ild_view.specs.Roots.{RootAt}

-- the type is a map that stands as a HAMT of this shape
pub record IsHamtType (d : Option TypeDef) (p : HamtShape) : Type 0 where
  pub key : TypeNo
  pub key_at : ℕ
  pub value : Slot
  pub place : ℕ
  pub form : d ≡ Some (D.Map key key_at value place (MF.Hamt p))

pub hamt_type : (d : Option TypeDef) (p : HamtShape) → shape_in d ≡ Some p → IsHamtType d p
hamt_type (Some (D.Map key key_at value place (MF.Hamt q))) p e =
    record { key = key; key_at = key_at; value = value; place = place; form = ap (λ (s : HamtShape). Some (D.Map key key_at value place (MF.Hamt s))) (same_Some q p e) }
hamt_type (Some (D.Map key key_at value place MF.Map)) p e = absurd (none-some p e)
hamt_type (Some (D.Map key key_at value place MF.ListPairs)) p e = absurd (none-some p e)
hamt_type (Some (D.Map key key_at value place (MF.StringPairs i d))) p e = absurd (none-some p e)
hamt_type d p e = absurd (none-some p e)

-- in that shape the data are a root, and the view is one of its node
pub record IsHamtRoot (d : Option TypeDef) (t : Data) (n : NodeView) : Type 0 where
  pub shape : HamtShape
  pub named : shape_in d ≡ Some shape
  pub type : IsHamtType d shape
  pub slots : List TrieSlot
  pub root : IsRoot shape slots t
  pub has : HasSlots shape n slots

pub hamt_of : (d : Option TypeDef) (t : Data) (n : NodeView) → RootAt (shape_in d) t n → IsHamtRoot d t n
hamt_of d t n r = by (shape_in d) refl r where
  by : (o : Option HamtShape) → shape_in d ≡ o → RootAt o t n → IsHamtRoot d t n
  by None e r = absurd r
  by (Some p) e r = record { shape = p; named = e; type = hamt_type d p e; slots = r.0; root = r.1; has = r.2 }
