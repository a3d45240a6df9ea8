-- The value of a field that is left out is short, so that its spelling is a block by itself.
use Rattle.std.proofs.Common.{◌≡◌, ◌≤◌, ℕ, true, List, length, None, refl, sym, ◌∙◌, ap, subst, arith}
use Rattle.std.proofs.lemmas.Option.{none-some}
use Rattle.ild_cbor.specs.Block.{IsBlockOf}
use Rattle.ild_data.specs.Data as T
use Rattle.ild_data.specs.Data.{Data, depth}
use Rattle.ild_data.specs.Limits.{deepest, longest_block}
use Rattle.ild_data.specs.Spell.{spell}
use Rattle.ild_data.specs.Tree.{IsTree}
use Rattle.ild_schema.specs.Slots.{form_of}
use Rattle.ild_typed.proofs.CleanFields.{scalar_self}
use Rattle.ild_typed.proofs.Flat.{IsFlat}
use Rattle.ild_typed.proofs.Structs.{scalar_data}
use Rattle.ild_view.specs.Body.{BodyStands, is_placed}
use Rattle.ild_view.specs.View.{body_of, piece_in, piece_of, slot_of, table_of}
use Rattle.ild_view.specs.declared.body.Body.{Body}
use Rattle.ild_view.specs.declared.body.Body.TheVariants as VB
use Rattle.ild_view.specs.declared.view.View.{View}
use Rattle.ild_typed.proofs.Implied.{scalar_short}

-- the tree of an implicit value, which is of the type of the view's slot
pub implicit_short : (view : View) (d : Data) → piece_of view ≡ None → ((t : Data) → BodyStands (table_of view) (body_of view) t → d ≡ t) → is_placed (table_of view) (slot_of view) (body_of view) ≡ true
    → length (spell d) ≤ longest_block
implicit_short view d none same placed = by (body_of view) refl where
  by : (b : Body) → body_of view ≡ b → length (spell d) ≤ longest_block
  by (VB.Held p) is = absurd (none-some p (sym (ap piece_in (sym is) ∙ none)))
  by (VB.Implicit k) is =
      let e = same (scalar_data k.now) (subst (λ b. BodyStands (table_of view) b (scalar_data k.now)) (sym is) (scalar_self k.now)) in
      subst (λ u. length (spell u) ≤ longest_block) (sym e) (scalar_short k.now (form_of (table_of view) (slot_of view)) (subst (λ b. is_placed (table_of view) (slot_of view) b ≡ true) is placed))

-- ---- its block

flat_shallow : (d : Data) → IsFlat d → depth d ≤ deepest
flat_shallow T.null flat = omega arith
flat_shallow (T.boolean b) flat = omega arith
flat_shallow (T.integer n) flat = omega arith
flat_shallow (T.text s) flat = omega arith
flat_shallow (T.bytes s) flat = omega arith
flat_shallow (T.link s) flat = omega arith
flat_shallow (T.list ds) flat = absurd flat
flat_shallow (T.map ms) flat = absurd flat

pub flat_block : (b : List ℕ) (d : Data) → IsTree d → IsFlat d → length (spell d) ≤ longest_block → b ≡ spell d → IsBlockOf b d
flat_block b d tree flat short is = record { within = record { tree = tree; nested = flat_shallow d flat; sized = short }; spelled = is }
