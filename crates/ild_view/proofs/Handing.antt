-- From data that were found for a part to a view that stands for it.
use Rattle.std.proofs.Common.{◌≡◌, List, Option, option_map, Some, None, sym, ◌∙◌, subst}
use Rattle.ild_data.specs.Data.{Data}
use Rattle.ild_cbor.specs.declared.piece.Piece.{Piece}
use Rattle.ild_view_entries.specs.Found.{FindsPiece}
use Rattle.ild_schema.specs.Value.{Value}
use Rattle.ild_schema.specs.declared.number.Slot.{Slot}
use Rattle.ild_schema.specs.declared.row.Row.{Row}
use Rattle.ild_typed.specs.At.{InSlot}
use Rattle.ild_typed.specs.Fits.{Front}
use Rattle.ild_view.specs.Body.{BodyStands}
use Rattle.ild_view.specs.Front.{BodyHasFront}
use Rattle.ild_view.specs.Itself.{Embodies}
use Rattle.ild_view.specs.Parts.{HandsOut, IsPartView}
use Rattle.ild_view.specs.View.{body_of, slot_of, table_of}
use Rattle.ild_view.specs.declared.body.Body.{Body}
use Rattle.ild_view.specs.declared.body.Body.TheVariants as B
use Rattle.ild_view.specs.declared.view.View.{View}
use Rattle.ild_view.proofs.Parting.{Beside, Fronts}

fronted : (rows : List Row) (u : Slot) (w : Value) (x : Data) (p : Fronts rows u w x) → Front rows p.typed.0 u w x
fronted rows u w x p = record { fits = p.typed.1; tree = p.tree }

-- a piece that was found, as a body
pub held_embodied : (rows : List Row) (o : Option Data) (r : Option Piece) → FindsPiece rows o r → Embodies rows o (option_map B.Held r)
held_embodied rows None None h = tt
held_embodied rows (Some d) (Some p) h = h
held_embodied rows None (Some p) h = absurd h
held_embodied rows (Some d) None h = absurd h

module _ (rows : List Row) (u : Slot) where
  -- a body for the data is one for the part
  pub has_front : (o : Option Data) (q : Option InSlot) (b : Body) → Embodies rows o (Some b) → Beside rows u o q → BodyHasFront rows u b
  has_front None q b h k = absurd h
  has_front (Some x) None b h k = absurd k
  has_front (Some x) (Some q) b h k = record { value = q.1; room = k.1.typed.0; tree = x; stands = h; front = fronted rows u q.1 x k.1 }

  pub part_view : (x : Data) (q : InSlot) (b : Body) (v : View) → BodyStands rows b x → q.0 ≡ u → Fronts rows u q.1 x → table_of v ≡ rows → slot_of v ≡ u → body_of v ≡ b → IsPartView rows q v
  part_view x q b v stands same p table slot body = record {
    table = table;
    slot = slot ∙ sym same;
    view = record {
      room = p.typed.0;
      tree = x;
      stands = subst (λ (c : Body). BodyStands (table_of v) c x) (sym body) (subst (λ (rs : List Row). BodyStands rs b x) (sym table) stands);
      front = subst (λ (s : Slot). Front (table_of v) p.typed.0 s q.1 x) (sym slot) (subst (λ (rs : List Row). Front rs p.typed.0 u q.1 x) (sym table) (fronted rows u q.1 x p));
    };
  }

  pub hands_out : (o : Option Data) (q : Option InSlot) (b : Body) (v : View) → Embodies rows o (Some b) → Beside rows u o q → table_of v ≡ rows → slot_of v ≡ u → body_of v ≡ b → HandsOut rows q (Some v)
  hands_out None q b v h k table slot body = absurd h
  hands_out (Some x) None b v h k table slot body = absurd k
  hands_out (Some x) (Some q) b v h k table slot body = part_view x q b v h k.0 k.1 table slot body

  pub hands_none : (o : Option Data) (q : Option InSlot) → Embodies rows o None → Beside rows u o q → HandsOut rows q None
  hands_none None None h k = tt
  hands_none None (Some q) h k = absurd k
  hands_none (Some x) q h k = absurd h

pub hands_nothing : (rows : List Row) (q : Option InSlot) → q ≡ None → HandsOut rows q None
hands_nothing rows q e = subst (λ o. HandsOut rows o None) (sym e) tt
