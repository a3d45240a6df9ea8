-- Views whose fronts nest no deeper than there is room: those to which a path leads from one, in what is left, and those of entries.
use Rattle.std.proofs.Common.{◌≡◌, ℕ, suc, List, [], ◌∷◌, Option, Some, None, Ok, refl, sym, subst}
use Rattle.std.specs.Option.{option_map_or}
use Rattle.std.proofs.Math.Logic.{∥∥₁_map}
use Rattle.ild_cbor.specs.declared.node.Node.{Node}
use Rattle.ild_cbor.specs.declared.piece.Piece.TheVariants as P
use Rattle.ild_cbor.specs.Nodes.{HasData}
use Rattle.ild_data.specs.Data.{Data}
use Rattle.ild_schema.specs.Value as V
use Rattle.ild_schema.specs.Value.{Value}
use Rattle.ild_schema.specs.declared.def.TypeDef.{TypeDef}
use Rattle.ild_schema.specs.declared.number.Slot.{Slot}
use Rattle.ild_schema.specs.declared.row.Row.{Row}
use Rattle.ild_typed.specs.At.{InSlot, or_enter, reached, seen}
use Rattle.ild_typed.specs.Fits.{Fits}
use Rattle.ild_typed.specs.Hamt.{alone}
use Rattle.ild_typed.specs.Represented.{represented}
use Rattle.ild_typed.specs.Schema.{IsSchema}
use Rattle.ild_typed.specs.Segment.{part}
use Rattle.ild_view.specs.Body.{BodyStands}
use Rattle.ild_view.specs.Parts.{IsPartView}
use Rattle.ild_view.specs.Reaches.{Reaches}
use Rattle.ild_path_edits.specs.Along.{room_below}
use Rattle.ild_view.specs.View.{IsView, body_of, slot_of, table_of}
use Rattle.ild_view.specs.declared.step.Step.TheVariants as S
use Rattle.ild_view.specs.declared.view.View.{View}
use Rattle.ild_open.proofs.Carrying.{held_piece}
use Rattle.ild_open.specs.Loaded.{IsShallow, IsShown}
use Rattle.ild_run_follow.specs.inside.Enters.{ChecksEntry}
use Rattle.ild_run_follow.proofs.Rooms.{part_in}
use Rattle.ild_run_follow.specs.inside.Rooms.{LeavesRoom, Steps, room_reached}

pub shown_part : (rows : List Row) (room : ℕ) (q : InSlot) (w : View) (x : IsPartView rows q w) → Fits rows room q.0 q.1 → IsShown room w x.view.tree
shown_part rows room q w x fits = record {
  stands = x.view.stands;
  front = (q.1, subst (λ (r : List Row). Fits r room (slot_of w) q.1) (sym x.table) (subst (λ (s : Slot). Fits rows room s q.1) (sym x.slot) fits), x.view.front.tree);
}

shallow_part : (rows : List Row) (room : ℕ) (q : InSlot) (w : View) → IsPartView rows q w → Fits rows room q.0 q.1 → IsShallow room w
shallow_part rows room q w x fits = record { tree = x.view.tree; shown = shown_part rows room q w x fits }

no_entry : (rows : List Row) (k : ℕ) (s : Slot) (v : Value) (w : View) → Reaches rows (or_enter k s v) (Ok (S.Here w)) → ⊥
no_entry rows k s (V.hamt d) w r = r
no_entry rows k s v w r = r

leads_to : (rows : List Row) → IsSchema rows → (room k : ℕ) (p : InSlot) (path : List (List ℕ)) (w : View) → Fits rows room p.0 p.1 → Reaches rows (reached rows k p path) (Ok (S.Here w)) → IsShallow (room_reached rows room p path) w
leads_to rows schema room k p [] w fits r = shallow_part rows room p w r fits
leads_to rows schema room k p (s ∷ ss) w fits r = by (part (seen rows p) s) refl r (λ q. leads_to rows schema (room_below rows room p s) (suc k) q ss w) where
  by : (o : Option InSlot) → part (seen rows p) s ≡ o → Reaches rows (option_map_or (λ q. reached rows (suc k) q ss) o (or_enter k p.0 p.1)) (Ok (S.Here w))
      → ((q : InSlot) → Fits rows (room_below rows room p s) q.0 q.1 → Reaches rows (reached rows (suc k) q ss) (Ok (S.Here w)) → IsShallow (room_reached rows (room_below rows room p s) q ss) w)
      → IsShallow (option_map_or (λ q. room_reached rows (room_below rows room p s) q ss) o room) w
  by None is r on = absurd (no_entry rows k p.0 p.1 w r)
  by (Some q) is r on = on q (part_in rows schema room p q s fits is) r

pub shallow_here : (room : ℕ) (view : View) → IsSchema (table_of view) → (k : ℕ) (path : List (List ℕ)) (w : View) (less : ℕ) → Steps view k path (Ok (S.Here w)) → LeavesRoom view room path less → ∥ IsShallow room view ∥₁ → ∥ IsShallow less w ∥₁
shallow_here room view schema k path w less steps leaves some = ∥∥₁_map some (λ y.
    let f = y.shown.front in
    let own : IsView view f.0 = record { room = room; tree = y.tree; stands = y.shown.stands; front = record { fits = f.1; tree = f.2 } } in
    subst (λ n. IsShallow n w) (sym (leaves f.0 own)) (leads_to (table_of view) schema room k (slot_of view, f.0) path w f.1 (steps f.0 own)))

pub shallow_entry : (rows : List Row) (room : ℕ) (o : Option TypeDef) (node : Node) (w : View) → ∥ ((d : Data) × HasData node d) ∥₁ → ((d : Data) → HasData node d → ChecksEntry rows room o node d (Ok w)) → ∥ IsShallow room w ∥₁
shallow_entry rows room o node w some checks = ∥∥₁_map some (λ y.
    let x = checks y.0 y.1 in
    let at = x.2 in
    let f = x.3 in
    record {
      tree = y.0;
      shown = record {
        stands = subst (λ b. BodyStands (table_of w) b y.0) (sym (held_piece (body_of w) (P.Node node) at.piece)) y.1;
        front = (
          f.0,
          subst (λ (r : List Row). Fits r room (slot_of w) f.0) (sym at.table) (subst (λ (s : Slot). Fits rows room s f.0) (sym at.slot) f.1),
          subst (λ (r : List Row). represented alone r (slot_of w) f.0 ≡ Some y.0) (sym at.table) (subst (λ (s : Slot). represented alone rows s f.0 ≡ Some y.0) (sym at.slot) f.2),
        );
      };
    })
