-- The parts of a piece that was checked have fronts, in the form in which they stand.
use Rattle.std.proofs.Common.{◌≡◌, ℕ, List, Bool, true, false, Option, Some, None, refl, sym, ◌∙◌, ap, subst}
use Rattle.std.specs.Prelude.{slice_get}
use Rattle.std.specs.List.{AllByRecursion}
use Rattle.std.specs.Option.{option_map_or}
use Rattle.ild_bulk_walker.specs.declared.row.Row.{Row as Listed}
use Rattle.ild_cbor.specs.declared.node.Node.{Node}
use Rattle.ild_cbor.specs.declared.piece.Piece.{Piece}
use Rattle.ild_cbor.specs.declared.piece.Piece.TheVariants as P
use Rattle.ild_data.specs.Data as T
use Rattle.ild_data.specs.Data.{Data}
use Rattle.ild_layer_parts.specs.Ready.{IsInlined, is_struct}
use Rattle.ild_layer_piece.specs.Pieces.{StandsFor}
use Rattle.ild_schema.specs.Slots.{form_of, plainly}
use Rattle.ild_schema.specs.declared.def.MapForm.{MapForm}
use Rattle.ild_schema.specs.declared.def.Member.{Member}
use Rattle.ild_schema.specs.declared.def.StructDef.{StructDef}
use Rattle.ild_schema.specs.declared.def.TypeDef.{TypeDef}
use Rattle.ild_schema.specs.declared.def.TypeDef.TheVariants as D
use Rattle.ild_schema.specs.declared.def.UnionDef.{UnionDef}
use Rattle.ild_schema.specs.declared.number.Slot.{Slot}
use Rattle.ild_schema.specs.declared.number.TypeNo.{TypeNo}
use Rattle.ild_schema.specs.declared.row.Row.{Row}
use Rattle.ild_typed.specs.Composed.{composed}
use Rattle.ild_typed.specs.Hamt.{alone}
use Rattle.ild_typed.specs.Layer as L
use Rattle.ild_typed.specs.Schema.{IsSchema}
use Rattle.ild_union.specs.Forms.{passes_over}
use Rattle.ild_view_entries.specs.Forms.{ShowsMap}
use Rattle.ild_view_entries.specs.Left.{FormLeft}
use Rattle.ild_view_entries.specs.declared.left.EntriesLeft.{EntriesLeft}
use Rattle.ild_open_held.specs.Laws.{is_hamt}
use Rattle.ild_open_held.specs.Splits.{HasFront, element_parts, field_parts}
use Rattle.ild_open_held.proofs.Splitting.{lists_split, maps_split, structs_split, unions_split}
use Rattle.ild_open_parts.specs.Checked.{IsChecked, IsTyped}
use Rattle.ild_open_parts.specs.Fields.{FieldFits}
use Rattle.ild_open_parts.specs.Hamts.{IsItemOf}
use Rattle.ild_open_parts.proofs.Forming.{list_there, map_there, struct_there, union_there}
use Rattle.ild_open_read.specs.Parts.{HasFronts}
use Rattle.ild_open_read.proofs.Readying.{left_there, none_there}

-- no entry is passed over in a piece of a type other than a struct
pub plain_piece : (rows : List Row) (s : Slot) (d : TypeDef) → form_of rows s ≡ Some d → is_struct d ≡ false → (p : Piece) → IsInlined rows s p → passes_over p ≡ false
plain_piece rows s d is other p inlined = by (passes_over p) (λ over. inlined over) where
  by : (b : Bool) → (b ≡ true → option_map_or is_struct (form_of rows s) false ≡ true) → b ≡ false
  by false e = refl
  by true e = let x : false ≡ true = sym other ∙ sym (ap (λ o. option_map_or is_struct o false) is) ∙ e refl in absurd cc

module _ (rows : List Row) (schema : IsSchema rows) (room : ℕ) (piece : Piece) where
  pub record HasElements (elem : Slot) : Type 0 where
    pub items : List Data
    pub stands : StandsFor rows piece (T.list (T.items_of items))
    pub fronts : AllByRecursion (HasFront rows room) (element_parts elem items)

  pub list_elements : (elem : Slot) (place : ℕ) → IsTyped rows room (D.List elem place) piece → HasElements elem
  list_elements elem place x =
      let y = list_there rows x.whole x.slot x.tree elem place x.form x.front in
      record {
        items = y.items;
        stands = subst (StandsFor rows piece) y.is x.stands;
        fronts = (lists_split (λ b. None) (λ k. k) rows schema x.whole room x.slot x.tree x.front elem place y.items x.form y.made x.left).fronts;
      }

  -- of another form than a HAMT
  module _ (key : TypeNo) (key_at : ℕ) (value : Slot) (place : ℕ) (form : MapForm) (plain : is_hamt form ≡ false) (x : IsTyped rows room (D.Map key key_at value place form) piece) where
    pub map_entries : (left : EntriesLeft) → ((t : Data) (es : List (List ℕ × Data)) → StandsFor rows piece t → ShowsMap form es t → FormLeft form es (Some left)) → HasFronts rows room value left
    map_entries left shows =
        let y = map_there rows x.whole x.slot x.tree key key_at value place form plain x.form x.front in
        record {
          entries = y.entries;
          are = left_there form plain y.entries x.tree left y.made (shows x.tree y.entries x.stands);
          fronts = (maps_split (λ b. None) (λ k. k) rows schema x.whole room x.slot x.tree x.front key key_at value place form y.entries plain x.form y.made x.left).fronts;
        }

    -- there are entries
    pub has_entries : ((t : Data) (es : List (List ℕ × Data)) → StandsFor rows piece t → ShowsMap form es t → FormLeft form es None) → ⊥
    has_entries shows =
        let y = map_there rows x.whole x.slot x.tree key key_at value place form plain x.form x.front in
        none_there form plain y.entries x.tree y.made (shows x.tree y.entries x.stands)

  pub record HasFields (def : StructDef) (t : Data) : Type 0 where
    pub parts : List (Option Data)
    pub made : composed alone (D.Struct def) (L.struct parts) ≡ Some t
    pub fronts : AllByRecursion (HasFront rows room) (field_parts def.fields parts)

  pub struct_fields : (def : StructDef) (x : IsTyped rows room (D.Struct def) piece) → HasFields def x.tree
  struct_fields def x =
      let y = struct_there rows x.whole x.slot x.tree def x.form x.front in
      record { parts = y.parts; made = y.made; fronts = (structs_split (λ b. None) (λ k. k) rows schema x.whole room x.slot x.tree x.front def y.parts x.form y.made x.left).fronts }

  pub record HasMember (def : UnionDef) (t : Data) : Type 0 where
    pub number : ℕ
    pub member : Member
    pub there : slice_get def.members number ≡ Some member
    pub tree : Data
    pub made : composed alone (D.Union def) (L.union number tree) ≡ Some t
    pub front : HasFront rows room (plainly member.ty, tree)

  pub union_member : (def : UnionDef) (x : IsTyped rows room (D.Union def) piece) → HasMember def x.tree
  union_member def x =
      let y = union_there rows x.whole x.slot x.tree def x.form x.front in
      record {
        number = y.number;
        member = y.member;
        there = y.there;
        tree = y.tree;
        made = y.made;
        front = (unions_split (λ b. None) (λ k. k) rows schema x.whole room x.slot x.tree x.front def y.number y.member y.tree x.form y.there y.made x.left).fronts.0;
      }

-- ---- parts

pub item_checked : (rows : List Row) (room : ℕ) (key : TypeNo) (value : Slot) (row : Listed) (item : Node) → IsItemOf rows room key value row item → ∥ IsChecked rows room value (P.Node item) ∥₁
item_checked rows room key value row item x = ∣ record { tree = x.tree; stands = x.stands; front = x.front } ∣₁

pub field_checked : (rows : List Row) (room : ℕ) (s : Slot) (o : Option Data) (d : Data) (piece : Piece) → o ≡ Some d → StandsFor rows piece d → FieldFits rows room s o → IsChecked rows room s piece
field_checked rows room s o d piece is stands front = record { tree = d; stands = stands; front = subst (FieldFits rows room s) is front }

pub member_checked : (rows : List Row) (room : ℕ) (s u : Slot) (d : Data) (piece : Piece) → s ≡ u → StandsFor rows piece d → HasFront rows room (s, d) → IsChecked rows room u piece
member_checked rows room s u d piece same stands front = record { tree = d; stands = stands; front = subst (λ k. HasFront rows room (k, d)) same front }
