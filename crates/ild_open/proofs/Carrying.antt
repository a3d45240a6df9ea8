-- The value of data, as that of a piece and of a view.
use Rattle.std.proofs.Common.{◌≡◌, ℕ, ◌≤◌, List, length, Bool, true, false, Some, None, Option, refl, sym, ◌∙◌, ap, subst, arith}
use Rattle.std.specs.Prelude.{◌||◌, not, Result, Ok, Err}
use Rattle.std.specs.Option.{option_map_or}
use Rattle.std.proofs.Math.Bool.{Bool-set}
use Rattle.std.proofs.Math.Logic.{∥∥₁_elim, ∥∥₁_map}
use Rattle.std.proofs.Props.{props}
use Rattle.std.proofs.lemmas.Bool.{false≢true}
use Rattle.std.proofs.lemmas.Option.{same_Some, none-some}
use Rattle.ild_cbor.proofs.Blocks.{one_tree_lem}
use Rattle.ild_cbor.specs.declared.node.Node.{Node}
use Rattle.ild_cbor.specs.Nodes.{HasData}
use Rattle.ild_cbor.specs.Scalar.{kind_of}
use Rattle.ild_cbor.specs.declared.kind.Kind.{Kind}
use Rattle.ild_cbor.specs.declared.kind.Kind.TheVariants as K
use Rattle.ild_cbor.specs.declared.piece.Piece.{Piece}
use Rattle.ild_cbor.specs.declared.piece.Piece.TheVariants as P
use Rattle.ild_cbor.specs.declared.why.BlockWhy.{BlockWhy}
use Rattle.ild_data.specs.Data as T
use Rattle.ild_data.specs.Data.{Data}
use Rattle.ild_data.specs.declared.id.BlockId.{BlockId}
use Rattle.ild_edges.proofs.Reading.{from_more, only_of}
use Rattle.ild_edges.specs.Store.{Moment, block_at}
use Rattle.ild_layer_parts.specs.Ready as R
use Rattle.ild_layer_parts.specs.Ready.{IsInlined}
use Rattle.ild_layer_piece.specs.Pieces.{IsNumbered, StandsFor}
use Rattle.ild_schema.specs.Slots.{form_of}
use Rattle.ild_schema.specs.Value.{Value}
use Rattle.ild_schema.specs.ValueSeen.{value_of}
use Rattle.ild_schema.specs.declared.def.Scalar.{Scalar}
use Rattle.ild_schema.specs.declared.def.Scalar.TheVariants as C
use Rattle.ild_schema.specs.declared.def.TypeDef.{TypeDef}
use Rattle.ild_schema.specs.declared.def.TypeDef.TheVariants as D
use Rattle.ild_schema.specs.declared.number.Slot.{Slot}
use Rattle.ild_schema.specs.declared.row.Row.{Row}
use Rattle.ild_schema.specs.declared.val.Val.{Val}
use Rattle.ild_typed.proofs.CleanFields.{scalar_self}
use Rattle.ild_typed.proofs.Flat.{IsFlat}
use Rattle.ild_typed.proofs.Structs.{scalar_data, scalar_same}
use Rattle.ild_typed.specs.Fields.{is_scalar}
use Rattle.ild_typed.specs.Hamt.{alone}
use Rattle.ild_typed.specs.Represented.{represented}
use Rattle.ild_union.specs.Forms.{passes_over}
use Rattle.ild_view.specs.Body.{BodyStands, body_types, is_placed, is_struct}
use Rattle.ild_view.specs.Front as V
use Rattle.ild_view.specs.View.{IsView, body_of, piece_in, piece_of, slot_of, table_of}
use Rattle.ild_view.specs.declared.body.Body.{Body}
use Rattle.ild_view.specs.declared.body.Body.TheVariants as VB
use Rattle.ild_view.specs.declared.view.View.{View}
use Rattle.ild_open_held.specs.Held.{IsHeld}
use Rattle.ild_open_held.specs.Splits.{HasFront}
use Rattle.ild_open_parts.specs.Checked.{IsChecked}
use Rattle.ild_open_parts.specs.Reads.{BrokenPart, HasValue, Reads}
use Rattle.ild_open_parts.specs.declared.fault.OpenFault.{OpenFault}
use Rattle.ild_open_parts.specs.declared.fault.OpenFault.TheVariants as F
use Rattle.ild_open_read.specs.Parts.{ReadsSlot}
use Rattle.ild_open.specs.inside.Item.{DataAnswer, LoadsAlone, LoadsData, LoadsFlat, LoadsPiece, LoadsShown}
use Rattle.ild_open.specs.Loaded.{IsShallow, IsShown, LoadAnswer, Loads}
use Rattle.ild_open.proofs.Flatly.{no_broken}

-- ---- the data of a piece

module _ (h : List ℕ → List ℕ) (rows : List Row) (room : ℕ) (s : Slot) (piece : Piece) (at : List ℕ) (m n : Moment) where
  read_answer : (Stopped : List ℕ → BlockWhy → Type 0) (t : Data) (r : Result Val OpenFault) → ((id : List ℕ) (why : BlockWhy) → BrokenPart h at rows room (s, t) m n id why → Stopped id why)
      → Reads h at rows room (s, t) true m r n → DataAnswer h rows room s Stopped t m r n
  read_answer Stopped t (Ok val) more x =
      from_more n (λ held. HasValue h rows room (s, t) true held val) (λ held. IsHeld (block_at held) h rows room s t (value_of val))
      (λ held a. subst (λ v. IsHeld (block_at held) h rows room s t v) (sym (a.kept refl)) a.is) x.answer
  read_answer Stopped t (Err (F.Block id why)) more x = (x.answer.0, more id.0 why x.answer.1)
  read_answer Stopped t (Err F.Store) more x = x.answer
  read_answer Stopped t (Err F.Memory) more x = tt

  abbrev Read : Result Val OpenFault → Type 0
  Read r = ReadsSlot h at rows room true s piece m r n

  pub read_shown : ∥ IsChecked rows room s piece ∥₁ → (Stopped : Data → List ℕ → BlockWhy → Type 0)
      → ((t : Data) → StandsFor rows piece t → (id : List ℕ) (why : BlockWhy) → BrokenPart h at rows room (s, t) m n id why → Stopped t id why)
      → (r : Result Val OpenFault) → Read r → LoadsShown h rows room s piece Stopped m r n
  read_shown some Stopped more r x = record {
    only = only_of m n (∥∥₁_map some (λ y. (x y.tree y.stands y.front).only));
    each = λ t stands front.
        let y = x t stands front in
        record { answer = read_answer (Stopped t) t r (more t stands) y; only = y.only; gets = y.gets };
  }

  -- data that are no list and no map
  pub flat_shown : ∥ IsChecked rows room s piece ∥₁ → ((t : Data) → StandsFor rows piece t → IsFlat t) → (r : Result Val OpenFault) → Read r → LoadsFlat h rows room s piece m r n
  flat_shown some flat r x = read_shown some (λ t id why. ⊥) (λ t stands id why b. no_broken h rows m.blocks m.lacks n.lacks at room s t id why (flat t stands) b) r x

  -- of which no block is refused
  pub never_refused : ∥ IsChecked rows room s piece ∥₁ → ((t : Data) → StandsFor rows piece t → IsFlat t) → (id : BlockId) (why : BlockWhy) → Read (Err (F.Block id why)) → ⊥
  never_refused some flat id why x =
      ∥∥₁_elim some (hlevel props) (λ y. no_broken h rows m.blocks m.lacks n.lacks at room s y.tree id.0 why (flat y.tree y.stands) (x y.tree y.stands y.front).answer.1)

module _ (h : List ℕ → List ℕ) (rows : List Row) (room : ℕ) (s : Slot) where
  pub loads_piece : (at : List ℕ) (piece : Piece) (m n : Moment) (r : Result Val OpenFault) → ∥ IsChecked rows room s piece ∥₁ → ReadsSlot h at rows room true s piece m r n → LoadsPiece h rows room s at piece m r n
  loads_piece at piece m n r some x = read_shown h rows room s piece at m n some (λ t id why. BrokenPart h at rows room (s, t) m n id why) (λ t stands id why b. b) r x

  -- where no block is refused, whatever is said of one
  pub flat_loads : (at : List ℕ) (piece : Piece) (m n : Moment) (r : Result Val OpenFault) → LoadsFlat h rows room s piece m r n → LoadsPiece h rows room s at piece m r n
  flat_loads at piece m n r x = record { only = x.only; each = λ t stands front. let y = x.each t stands front in record { answer = by t r y.answer; only = y.only; gets = y.gets } }
    where
      by : (t : Data) (r : Result Val OpenFault) → DataAnswer h rows room s (λ id why. ⊥) t m r n → DataAnswer h rows room s (λ id why. BrokenPart h at rows room (s, t) m n id why) t m r n
      by t (Ok val) y = y
      by t (Err (F.Block id why)) y = absurd y.1
      by t (Err F.Store) y = y
      by t (Err F.Memory) y = tt

  -- of an item that spells the data
  pub loads_spelled : (q : Node) (d : Data) (m n : Moment) (r : Result Val OpenFault) → HasData q d → LoadsFlat h rows room s (P.Node q) m r n → LoadsAlone h rows room s d m r n
  loads_spelled q d m n r stands x = record { only = x.only; loads = λ front. x.each d stands front }

-- the item of bytes that spell the data
pub spelled_tree : (rows : List Row) (room : ℕ) (s : Slot) (q : Node) (d : Data) → HasData q d → ∥ HasFront rows room (s, d) ∥₁ → ∥ IsChecked rows room s (P.Node q) ∥₁
spelled_tree rows room s q d stands some = ∥∥₁_map some (λ front. record { tree = d; stands = stands; front = front })

pub spelled_flat : (q : Node) (d : Data) → HasData q d → IsFlat d → (t : Data) → HasData q t → IsFlat t
spelled_flat q d stands flat t other = subst IsFlat (one_tree_lem _ _ _ _ d t stands other) flat

-- data of another kind than lists and maps
pub flat_kind : (k : Kind) → (k ≡ K.List → ⊥) → (k ≡ K.Map → ⊥) → (t : Data) → k ≡ kind_of t → IsFlat t
flat_kind k no_list no_map T.null is = tt
flat_kind k no_list no_map (T.boolean b) is = tt
flat_kind k no_list no_map (T.integer i) is = tt
flat_kind k no_list no_map (T.text s) is = tt
flat_kind k no_list no_map (T.bytes s) is = tt
flat_kind k no_list no_map (T.link s) is = tt
flat_kind k no_list no_map (T.list ds) is = absurd (no_list is)
flat_kind k no_list no_map (T.map ms) is = absurd (no_map is)

-- ---- a view

pub held_piece : (b : Body) (p : Piece) → piece_in b ≡ Some p → b ≡ VB.Held p
held_piece (VB.Held q) p e = ap VB.Held (same_Some q p e)
held_piece (VB.Implicit x) p e = absurd (none-some p e)

pub is_numbered : (rows : List Row) (b : Body) (p : Piece) → piece_in b ≡ Some p → body_types b ≤ length rows → IsNumbered rows p
is_numbered rows b p e le = by p (subst (λ c. body_types c ≤ length rows) (held_piece b p e) le) where
  by : (q : Piece) → body_types (VB.Held q) ≤ length rows → IsNumbered rows q
  by (P.Node n) le = tt
  by (P.Text b) le = tt
  by (P.Bytes b) le = tt
  by (P.Inline n u) le = omega (arith, le)

-- the tree of an implicit value is the data for which it stands
implied : (view : View) (d : Data) (b : Body) → body_of view ≡ b → piece_in b ≡ None → ∥ V.BodyHasFront (table_of view) (slot_of view) (body_of view) ∥₁
    → ((f : Value) → IsView view f → represented alone (table_of view) (slot_of view) f ≡ Some d) → (t : Data) → BodyStands (table_of view) b t → d ≡ t
implied view d (VB.Held p) is none some tells t stands = absurd (none-some p (sym none))
implied view d (VB.Implicit k) is none some tells t stands = scalar_same k.now d (∥∥₁_elim some (Bool-set (is_scalar k.now d) true) own) ∙ sym (scalar_same k.now t stands) where
  own : V.BodyHasFront (table_of view) (slot_of view) (body_of view) → is_scalar k.now d ≡ true
  own y =
      let same = same_Some y.tree d (sym y.front.tree ∙ tells y.value (record { room = y.room; tree = y.tree; stands = y.stands; front = y.front })) in
      subst (λ u. is_scalar k.now u ≡ true) same (subst (λ b. BodyStands (table_of view) b y.tree) is y.stands)

pub scalar_is : (view : View) (d : Data) → piece_of view ≡ None → ∥ V.BodyHasFront (table_of view) (slot_of view) (body_of view) ∥₁
    → ((f : Value) → IsView view f → represented alone (table_of view) (slot_of view) f ≡ Some d) → (t : Data) → BodyStands (table_of view) (body_of view) t → d ≡ t
scalar_is view d none some tells t stands = implied view d (body_of view) refl none some tells t stands

module _ (rows : List Row) (s : Slot) where
  same_struct : (d : TypeDef) → is_struct d ≡ true → R.is_struct d ≡ true
  same_struct (D.Struct def) e = refl
  same_struct d e = absurd (false≢true e)

  pub is_inlined : (b : Body) (p : Piece) → piece_in b ≡ Some p → is_placed rows s b ≡ true → IsInlined rows s p
  is_inlined b p is placed over =
      by (passes_over p) (form_of rows s) (subst (λ c. is_placed rows s c ≡ true) (held_piece b p is) placed) over where
        by : (b : Bool) (o : Option TypeDef) → (not b || option_map_or is_struct o false) ≡ true → b ≡ true → option_map_or R.is_struct o false ≡ true
        by true None e over = e
        by true (Some d) e over = same_struct d e
        by false o e over = absurd (false≢true over)

-- the piece of a view has a tree where the view shows data
pub shown_tree : (room : ℕ) (view : View) (p : Piece) → piece_of view ≡ Some p → ∥ IsShallow room view ∥₁ → ∥ IsChecked (table_of view) room (slot_of view) p ∥₁
shown_tree room view p is some =
    ∥∥₁_map some (λ y. record { tree = y.tree; stands = subst (λ b. BodyStands (table_of view) b y.tree) (held_piece (body_of view) p is) y.shown.stands; front = y.shown.front })

module _ (h : List ℕ → List ℕ) (room : ℕ) (view : View) (at : List ℕ) (m n : Moment) where
  abbrev rows : List Row
  rows = table_of view

  abbrev s : Slot
  s = slot_of view

  abbrev Broken : Data → List ℕ → BlockWhy → Type 0
  Broken t id why = BrokenPart h at rows room (s, t) m n id why

  answered : (Stopped : List ℕ → BlockWhy → Type 0) (t : Data) → ((id : List ℕ) (why : BlockWhy) → Stopped id why → Broken t id why) → (r : Result Val OpenFault) → DataAnswer h rows room s Stopped t m r n
      → LoadAnswer h room view at m t r n
  answered Stopped t more (Ok val) x = x
  answered Stopped t more (Err (F.Block id why)) x = (x.0, more id.0 why x.1)
  answered Stopped t more (Err F.Store) x = x
  answered Stopped t more (Err F.Memory) x = tt

  pub loads_view : (p : Piece) → piece_of view ≡ Some p → (r : Result Val OpenFault) → LoadsPiece h rows room s at p m r n → Loads h room view at m r n
  loads_view p is r x =
      let own : (t : Data) → IsShown room view t → LoadsData h rows room s (Broken t) t m r n =
      λ t shown. x.each t (subst (λ b. BodyStands rows b t) (held_piece (body_of view) p is) shown.stands) shown.front in
      record {
        answer = λ t shown. answered (Broken t) t (λ id why y. y) r (own t shown).answer;
        only = x.only;
        gets = λ t held v shown. (own t shown).gets held v;
      }

  -- of a value that the block leaves out
  pub loads_scalar : (d : Data) → ((t : Data) → BodyStands rows (body_of view) t → d ≡ t) → (r : Result Val OpenFault) → LoadsAlone h rows room s d m r n → Loads h room view at m r n
  loads_scalar d same r x =
      let own : (t : Data) → IsShown room view t → LoadsData h rows room s (λ id why. ⊥) t m r n =
      λ t shown. let is = same t shown.stands in subst (λ u. LoadsData h rows room s (λ id why. ⊥) u m r n) is (x.loads (subst (λ u. HasFront rows room (s, u)) (sym is) shown.front)) in
      record {
        answer = λ t shown. answered (λ id why. ⊥) t (λ id why y. absurd y) r (own t shown).answer;
        only = x.only;
        gets = λ t held v shown. (own t shown).gets held v;
      }

-- what the tree of an implicit value is asked to be
pub scalar_front : (room : ℕ) (view : View) (d : Data) → ((t : Data) → BodyStands (table_of view) (body_of view) t → d ≡ t) → ∥ IsShallow room view ∥₁ → ∥ HasFront (table_of view) room (slot_of view, d) ∥₁
scalar_front room view d same some = ∥∥₁_map some (λ y. subst (λ u. HasFront (table_of view) room (slot_of view, u)) (sym (same y.tree y.shown.stands)) y.shown.front)

scalar_is_flat : (k : Scalar) → IsFlat (scalar_data k)
scalar_is_flat (C.Bool b) = tt
scalar_is_flat (C.Int n) = tt
scalar_is_flat (C.Text t) = tt

pub scalar_flat : (view : View) (d : Data) → piece_of view ≡ None → ((t : Data) → BodyStands (table_of view) (body_of view) t → d ≡ t) → IsFlat d
scalar_flat view d none same = by (body_of view) refl where
  by : (b : Body) → body_of view ≡ b → IsFlat d
  by (VB.Held p) is = absurd (none-some p (sym (ap piece_in (sym is) ∙ none)))
  by (VB.Implicit k) is =
      let e = same (scalar_data k.now) (subst (λ b. BodyStands (table_of view) b (scalar_data k.now)) (sym is) (scalar_self k.now)) in
      subst IsFlat (sym e) (scalar_is_flat k.now)
