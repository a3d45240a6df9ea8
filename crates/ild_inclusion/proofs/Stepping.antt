-- One segment from a value.
use Rattle.std.proofs.Common.{◌≡◌, ◌-◌, ℕ, List, true, Option, Some, None, Result, Ok, Err, refl, sym, ap, ◌∙◌, subst}
use Rattle.std.specs.Prelude.{MatchOption, is_some}
use Rattle.std.proofs.Math.Bool.{Bool-set}
use Rattle.std.proofs.Math.Logic.{∥∥₁_elim}
use Rattle.std.proofs.lemmas.Option.{none-some, same_Some}
use Rattle.ild_cbor.specs.Nodes.{HasData}
use Rattle.ild_cbor.specs.declared.node.Node.{Node}
use Rattle.ild_cbor.specs.declared.piece.Piece.{Piece}
use Rattle.ild_cbor.specs.declared.piece.Piece.TheVariants as P
use Rattle.ild_data.specs.Data.{Data}
use Rattle.ild_data.specs.Trie.{TrieSlot}
use Rattle.ild_data.specs.declared.hamt_shape.HamtShape.{HamtShape}
use Rattle.ild_layer_piece.specs.Pieces.{StandsFor}
use Rattle.ild_path_edits.specs.Along.{room_below, taken}
use Rattle.ild_path_room.proofs.Rooting.{IsHamtType, hamt_type}
use Rattle.ild_path_room.specs.ValueSlot.{value_in}
use Rattle.ild_schema.specs.Slots.{form_of}
use Rattle.ild_schema.specs.Value as V
use Rattle.ild_schema.specs.Value.{Value}
use Rattle.ild_schema.specs.declared.def.TypeDef.{TypeDef}
use Rattle.ild_schema.specs.declared.def.MapForm.TheVariants as MF
use Rattle.ild_schema.specs.declared.number.Slot.{Slot}
use Rattle.ild_schema.specs.declared.row.Row.{Row}
use Rattle.ild_typed.specs.At.{InSlot, seen}
use Rattle.ild_typed.specs.Fits.{Front}
use Rattle.ild_typed.specs.Segment.{part}
use Rattle.ild_typed.specs.Slots.{element_of}
use Rattle.ild_view.specs.Body.{BodyStands}
use Rattle.ild_view.specs.Forms.{shape_in}
use Rattle.ild_view.specs.Parts.{HandsOut, IsPartView}
use Rattle.ild_view.specs.Roots.{RootIs, root_in}
use Rattle.ild_view.specs.View.{IsView, IsViewAt, body_of, piece_in, slot_of, table_of}
use Rattle.ild_view.specs.declared.body.Body.{Body}
use Rattle.ild_view.specs.declared.body.Body.TheVariants as B
use Rattle.ild_view.specs.declared.view.View.{View}
use Rattle.ild_inclusion.specs.Given.{EndGiven, FrontGiven, IsEnd, IsMapOf, OffGiven, OnGiven, RefusedGiven, ValueGiven, WrongGiven}
use Rattle.ild_inclusion.specs.Says.{AtKey, Enters, EntersRoot, Fronted, Goes, GoesToSlot}
use Rattle.ild_inclusion.specs.Way.{OnWay}
use Rattle.ild_inclusion.specs.declared.end.End.{End}
use Rattle.ild_inclusion.specs.declared.segment.Step.{Step}
use Rattle.ild_inclusion.specs.declared.segment.Step.TheVariants as S
use Rattle.ild_inclusion.specs.declared.fault.Reject.TheVariants as R
use Rattle.ild_inclusion.proofs.Mapping.{finds_map, way_map}
use Rattle.ild_node_slots.specs.Views.{HasSlots, view_shape}
use Rattle.ild_node_slots.specs.declared.view.NodeView.{NodeView}
use Rattle.ild_typed.specs.Node.{IsRoot}
use Rattle.ild_inclusion.specs.declared.fault.Reject.{Reject}
use Rattle.ild_inclusion.specs.declared.fault.VerifyErr.{VerifyErr}
use Rattle.ild_inclusion.specs.declared.fault.VerifyErr.TheVariants as E

-- ---- the view of an item with a front

item_stands : (rows : List Row) (b : Body) (n : Node) (t : Data) → piece_in b ≡ Some (P.Node n) → HasData n t → BodyStands rows b t
item_stands rows (B.Held p) n t e stands = subst (λ (q : Piece). StandsFor rows q t) (sym (same_Some p (P.Node n) e)) stands
item_stands rows (B.Implicit s) n t e stands = absurd (none-some (P.Node n) e)

pub part_view : (rows : List Row) (s : Slot) (n : Node) (t : Data) (v : View) (room : ℕ) (f : Value) → IsViewAt rows s (P.Node n) v → HasData n t → Front rows room s f t → IsPartView rows (s, f) v
part_view rows s n t v room f at stands front = record {
  table = at.table;
  slot = at.slot;
  view = record {
    room = room;
    tree = t;
    stands = item_stands (table_of v) (body_of v) n t at.piece stands;
    front = subst (λ (r : List Row). Front r room (slot_of v) f t) (sym at.table) (subst (λ (u : Slot). Front rows room u f t) (sym at.slot) front);
  };
}

-- ---- the type of a HAMT

pub map_in : (d : Option TypeDef) (p : HamtShape) (x : IsHamtType d p) → IsMapOf d x.value
map_in d p x = record { key = x.key; key_at = x.key_at; at = x.place; form = MF.Hamt p; is = x.form }

-- a view with a root is one of a map
pub has_map : (v : View) (n : NodeView) → ((f : Value) → IsView v f → RootIs (shape_in (form_of (table_of v) (slot_of v))) (root_in f) (Some n)) → is_some (value_in (form_of (table_of v) (slot_of v))) ≡ true
has_map v n roots =
    ∥∥₁_elim v.stands (Bool-set _ true)
    (λ s. by (shape_in (form_of (table_of v) (slot_of v))) refl (root_in s.value) (roots s.value (record { room = s.room; tree = s.tree; stands = s.stands; front = s.front }))) where
      by : (o : Option HamtShape) → shape_in (form_of (table_of v) (slot_of v)) ≡ o → (r : Option Data) → RootIs o r (Some n) → is_some (value_in (form_of (table_of v) (slot_of v))) ≡ true
      by o e None is = absurd is
      by None e (Some d) is = absurd is
      by (Some p) e (Some d) is = let x = hamt_type (form_of (table_of v) (slot_of v)) p e in ap (λ (o : Option TypeDef). is_some (value_in o)) x.form

pub map_element : (d : Option TypeDef) (elem : Slot) → IsMapOf d elem → element_of d ≡ Some elem
map_element d elem m = ap element_of m.is

pub slot_there : (rows rows' : List Row) (s slot elem : Slot) → rows' ≡ rows → element_of (form_of rows' s) ≡ Some slot → element_of (form_of rows s) ≡ Some elem → slot ≡ elem
slot_there rows rows' s slot elem table is own = same_Some slot elem (sym is ∙ ap (λ (r : List Row). element_of (form_of r s)) table ∙ own)

pub is_root : (f : Value) (d : Data) → root_in f ≡ Some d → f ≡ V.hamt d
is_root (V.hamt x) d e = ap V.hamt (same_Some x d e)
is_root V.null d e = absurd (none-some d e)
is_root (V.boolean b) d e = absurd (none-some d e)
is_root (V.integer n) d e = absurd (none-some d e)
is_root (V.text s) d e = absurd (none-some d e)
is_root (V.bytes s) d e = absurd (none-some d e)
is_root (V.link s) d e = absurd (none-some d e)
is_root (V.list vs) d e = absurd (none-some d e)
is_root (V.map ps) d e = absurd (none-some d e)
is_root (V.struct os) d e = absurd (none-some d e)
is_root (V.union n v) d e = absurd (none-some d e)
is_root (V.enum n) d e = absurd (none-some d e)
is_root V.unit d e = absurd (none-some d e)
is_root (V.any x) d e = absurd (none-some d e)

-- ---- by what a view hands out

module _ (h : List ℕ → List ℕ) (rows : List Row) (room i : ℕ) (p : InSlot) (s : List ℕ) (bs : List (List ℕ)) (On : ℕ → InSlot → List (List ℕ) → Type 0) (Off : ℕ → List (List ℕ) → Type 0) (Wrong : Reject → Type 0) where
  pub goes_to_part : (w : View) → HandsOut rows (part (seen rows p) s) (Some w) → ((q : InSlot) → IsPartView rows q w → On i q bs) → Goes h rows room i p s bs On Off Wrong
  goes_to_part w hands on = by (part (seen rows p) s) hands where
    by : (o : Option InSlot) → HandsOut rows o (Some w) → MatchOption o (Enters rows (h s) s (room_below rows room p s) p.0 i bs On Off Wrong (root_in p.1)) (λ q. On i q bs)
    by None is = absurd is
    by (Some q) is = on q is

  pub goes_elsewhere : HandsOut rows (part (seen rows p) s) None → Enters rows (h s) s (room_below rows room p s) p.0 i bs On Off Wrong (root_in p.1) → Goes h rows room i p s bs On Off Wrong
  goes_elsewhere hands enters = by (part (seen rows p) s) hands where
    by : (o : Option InSlot) → HandsOut rows o None → MatchOption o (Enters rows (h s) s (room_below rows room p s) p.0 i bs On Off Wrong (root_in p.1)) (λ q. On i q bs)
    by None is = enters
    by (Some q) is = absurd is

-- want of memory is the same of every call
pub memory_again : {X Y : Type 0} (e : VerifyErr) → ◌≡◌ {A = Result X VerifyErr} (Err e) (Err E.Memory) → ◌≡◌ {A = Result Y VerifyErr} (Err e) (Err E.Memory)
memory_again e is = let same : e ≡ E.Memory = cc in ap Err same

-- ---- on to the value at a key

module _ (rows : List Row) (room : ℕ) (s elem : Slot) (at : ℕ) (t : Data) (is : element_of (form_of rows s) ≡ Some elem) where
  pub value_goes : (rows' : List Row) (slot : Slot) (v : View) (cs : List (List ℕ)) (result : Result Step VerifyErr) → rows' ≡ rows → slot ≡ elem → ((q : InSlot) → IsPartView rows q v → OnGiven rows room result at q cs)
      → Fronted rows' room at slot t (FrontGiven rows' slot (Ok v)) (RefusedGiven {X = View} (Ok v)) → GoesToSlot rows room s at t (λ q. OnGiven rows room result at q cs) (RefusedGiven result)
  value_goes rows' slot v cs result table same on f = record {
    slot = elem;
    is = is;
    fronted = finds_map (λ g. Front rows room elem g t) (λ g. IsPartView rows (elem, g) v) _ _ _ (λ g part. on (elem, g) part) (λ e. absurd cc)
        (subst (λ (u : Slot). Fronted rows room at u t (FrontGiven rows u (Ok v)) (RefusedGiven {X = View} (Ok v))) same (subst (λ (r : List Row). Fronted r room at slot t (FrontGiven r slot (Ok v)) (RefusedGiven {X = View} (Ok v))) table f));
  }

  pub value_refused : (rows' : List Row) (slot : Slot) (cs : List (List ℕ)) (e : VerifyErr) → rows' ≡ rows → slot ≡ elem
      → Fronted rows' room at slot t (FrontGiven rows' slot (Err e)) (RefusedGiven {X = View} (Err e)) → GoesToSlot rows room s at t (λ q. OnGiven rows room (Err e) at q cs) (RefusedGiven {X = Step} (Err e))
  value_refused rows' slot cs e table same f = record {
    slot = elem;
    is = is;
    fronted = finds_map (λ g. Front rows room elem g t) (FrontGiven rows elem (Err e)) _ _ _ (λ g none. absurd none) again
        (subst (λ (u : Slot). Fronted rows room at u t (FrontGiven rows u (Err e)) (RefusedGiven {X = View} (Err e))) same (subst (λ (r : List Row). Fronted r room at slot t (FrontGiven r slot (Err e)) (RefusedGiven {X = View} (Err e))) table f));
  } where
    again : RefusedGiven {X = View} (Err e) (R.Shape at) → RefusedGiven {X = Step} (Err e) (R.Shape at)
    again same = let is : e ≡ E.Reject (R.Shape at) = cc in ap Err is

-- ---- into a HAMT

-- the way that was read is one in the shape of the type
pub way_of_root : (n : NodeView) (key : List ℕ) (i : ℕ) (bs : List (List ℕ)) (found : Result End Reject) (q p : HamtShape) → q ≡ view_shape n → (slots : List TrieSlot) → HasSlots p n slots → (hash own : List ℕ) → hash ≡ own
    → ((xs : List TrieSlot) → HasSlots q n xs → OnWay q hash key (EndGiven found) (WrongGiven found) 0 i xs bs) → OnWay p own key (EndGiven found) (WrongGiven found) 0 i slots bs
way_of_root n key i bs found q p shape slots has hash own same way =
    let is : q ≡ p = shape ∙ has.shape in
    let read = way slots (subst (λ (r : HamtShape). HasSlots r n slots) (sym is) has) in
    subst (λ (xs : List ℕ). OnWay p xs key (EndGiven found) (WrongGiven found) 0 i slots bs) same (subst (λ (r : HamtShape). OnWay r hash key (EndGiven found) (WrongGiven found) 0 i slots bs) is read)

module _ (rows : List Row) (hash key : List ℕ) (room : ℕ) (s : Slot) (d : Data) (i : ℕ) (bs : List (List ℕ)) (p : HamtShape) (named : shape_in (form_of rows s) ≡ Some p) (slots : List TrieSlot) (root : IsRoot p slots d) (result : Result Step VerifyErr) where
  abbrev Ends_ : ℕ → List (List ℕ) → Option Data → Type 0
  Ends_ = AtKey (λ j cs t. GoesToSlot rows room s j t (λ q. OnGiven rows room result j q cs) (RefusedGiven result)) (OffGiven result)

  entered_as : (found : Result End Reject) → OnWay p hash key (EndGiven found) (WrongGiven found) 0 i slots bs → ((j : ℕ) (cs : List (List ℕ)) (o : Option Data) → EndGiven found j cs o → Ends_ j cs o)
      → ((r : Reject) → WrongGiven found r → RefusedGiven result r) → EntersRoot rows hash key room s d i bs (OnGiven rows room result) (OffGiven result) (RefusedGiven result)
  entered_as found way ends wrong = record { shape = p; named = named; slots = slots; root = root; way = way_map (WrongGiven found) (RefusedGiven result) wrong p hash key (EndGiven found) Ends_ ends 0 i slots bs way }

  pub enters_refused : (e : Reject) → result ≡ Err (E.Reject e) → OnWay p hash key (EndGiven (Err e)) (WrongGiven {X = End} (Err e)) 0 i slots bs
      → EntersRoot rows hash key room s d i bs (OnGiven rows room result) (OffGiven result) (RefusedGiven result)
  enters_refused e is way = entered_as (Err e) way (λ j cs o none. absurd none) wrong where
    wrong : (r : Reject) → WrongGiven {X = End} (Err e) r → RefusedGiven result r
    wrong r same = let eq : e ≡ r = cc in is ∙ ap (λ x. Err (E.Reject x)) eq

  pub enters_off : (x : End) → x.value ≡ None → result ≡ Ok (S.Off x) → OnWay p hash key (EndGiven (Ok x)) (WrongGiven {X = End} (Ok x)) 0 i slots bs
      → EntersRoot rows hash key room s d i bs (OnGiven rows room result) (OffGiven result) (RefusedGiven result)
  enters_off x none is way = entered_as (Ok x) way ends (λ r e. absurd cc) where
    ends : (j : ℕ) (cs : List (List ℕ)) (o : Option Data) → IsEnd j cs o x → Ends_ j cs o
    ends j cs None e = subst (λ (r : Result Step VerifyErr). OffGiven r j cs) (sym is) (e.at, e.left)
    ends j cs (Some t) e = absurd (subst (λ (v : Option Node). ValueGiven (Some t) v) none e.value)

  pub enters_on : (x : End) (n : Node) → x.value ≡ Some n → OnWay p hash key (EndGiven (Ok x)) (WrongGiven {X = End} (Ok x)) 0 i slots bs
      → ((t : Data) → HasData n t → GoesToSlot rows room s x.at t (λ q. OnGiven rows room result x.at q x.left.now) (RefusedGiven result))
      → EntersRoot rows hash key room s d i bs (OnGiven rows room result) (OffGiven result) (RefusedGiven result)
  enters_on x n some way goes = entered_as (Ok x) way ends (λ r e. absurd cc) where
    ends : (j : ℕ) (cs : List (List ℕ)) (o : Option Data) → IsEnd j cs o x → Ends_ j cs o
    ends j cs None e = absurd (subst (λ (v : Option Node). ValueGiven None v) some e.value)
    ends j cs (Some t) e =
        subst (λ (m : ℕ). GoesToSlot rows room s m t (λ q. OnGiven rows room result m q cs) (RefusedGiven result)) e.at
        (subst (λ (xs : List (List ℕ)). GoesToSlot rows room s x.at t (λ q. OnGiven rows room result x.at q xs) (RefusedGiven result)) e.left
        (goes t (subst (λ (v : Option Node). ValueGiven (Some t) v) some e.value)))

-- ---- from a view

module _ (h : List ℕ → List ℕ) (v : View) (f : Value) (view : IsView v f) (room i : ℕ) (s : List ℕ) (bs : List (List ℕ)) (result : Result Step VerifyErr) where
  abbrev rows_ : List Row
  rows_ = table_of v

  abbrev less : ℕ
  less = room_below rows_ room (slot_of v, f) s

  pub steps_on : (w : View) (m : ℕ) → HandsOut rows_ (part (seen rows_ (slot_of v, f)) s) (Some w) → m ≡ room - taken (form_of rows_ (slot_of v)) → ((q : InSlot) → IsPartView rows_ q w → OnGiven rows_ m result i q bs)
      → Goes h rows_ room i (slot_of v, f) s bs (OnGiven rows_ less result) (OffGiven result) (RefusedGiven result)
  steps_on w m hands room_is on =
      goes_to_part h rows_ room i (slot_of v, f) s bs (OnGiven rows_ less result) (OffGiven result) (RefusedGiven result) w hands (λ q part. subst (λ (k : ℕ). OnGiven rows_ k result i q bs) room_is (on q part))

  pub steps_off : HandsOut rows_ (part (seen rows_ (slot_of v, f)) s) None → RootIs (shape_in (form_of rows_ (slot_of v))) (root_in f) None → OffGiven result i bs → Goes h rows_ room i (slot_of v, f) s bs (OnGiven rows_ less result) (OffGiven result) (RefusedGiven result)
  steps_off hands root off =
      goes_elsewhere h rows_ room i (slot_of v, f) s bs (OnGiven rows_ less result) (OffGiven result) (RefusedGiven result) hands (by (root_in f) root) where
        by : (o : Option Data) → RootIs (shape_in (form_of rows_ (slot_of v))) o None → Enters rows_ (h s) s less (slot_of v) i bs (OnGiven rows_ less result) (OffGiven result) (RefusedGiven result) o
        by None r = off
        by (Some d) r = absurd r

  pub steps_in : (n : NodeView) (m : ℕ) → HandsOut rows_ (part (seen rows_ (slot_of v, f)) s) None → RootIs (shape_in (form_of rows_ (slot_of v))) (root_in f) (Some n) → m ≡ room - taken (form_of rows_ (slot_of v))
      → ((d : Data) → IsView v (V.hamt d) → RootIs (shape_in (form_of rows_ (slot_of v))) (Some d) (Some n) → EntersRoot rows_ (h s) s m (slot_of v) d i bs (OnGiven rows_ m result) (OffGiven result) (RefusedGiven result))
      → Goes h rows_ room i (slot_of v, f) s bs (OnGiven rows_ less result) (OffGiven result) (RefusedGiven result)
  steps_in n m hands root room_is enters = goes_elsewhere h rows_ room i (slot_of v, f) s bs (OnGiven rows_ less result) (OffGiven result) (RefusedGiven result) hands (by (root_in f) refl root) where
    by : (o : Option Data) → root_in f ≡ o → RootIs (shape_in (form_of rows_ (slot_of v))) o (Some n) → Enters rows_ (h s) s less (slot_of v) i bs (OnGiven rows_ less result) (OffGiven result) (RefusedGiven result) o
    by None e r = absurd r
    by (Some d) e r =
        subst (λ (k : ℕ). EntersRoot rows_ (h s) s k (slot_of v) d i bs (OnGiven rows_ k result) (OffGiven result) (RefusedGiven result)) room_is
        (enters d (subst (λ (g : Value). IsView v g) (is_root f d e) view) r)
