-- What a key meets in a HAMT, over every store.
use Rattle.std.proofs.Common.{◌≡◌, inl, inr, ℕ, List, length, Some, None, Ok, Err, refl, sym, ap, ◌∙◌, subst, arith}
use Rattle.std.specs.Prelude.{Result}
use Rattle.std.proofs.lemmas.Option.{none-some, same_Some}
use Rattle.ild_cbor.specs.Nodes.{HasData}
use Rattle.ild_cbor.specs.declared.node.Node.{Node}
use Rattle.ild_cbor.specs.declared.why.Why.{Why}
use Rattle.ild_data.specs.Data.{Data}
use Rattle.ild_data.specs.Spell.{id_of}
use Rattle.ild_data.specs.Trie.{TrieSlot}
use Rattle.ild_data.specs.declared.hamt_shape.HamtShape.{HamtShape}
use Rattle.ild_edges.specs.Store.{Moment}
use Rattle.ild_hamt.specs.Descending.{Descends, trail_blocks}
use Rattle.ild_hamt.specs.Found.{FindsAtEnd, IsItemIn}
use Rattle.ild_hamt.specs.declared.trail.Trail.{Trail}
use Rattle.ild_hamt_climb.specs.Way.{slot_for}
use Rattle.ild_node_slots.specs.Views.{HasSlots}
use Rattle.ild_node_slots.specs.declared.fault.HamtFault.{HamtFault}
use Rattle.ild_node_slots.specs.declared.fault.HamtFault.TheVariants as F
use Rattle.ild_node_slots.specs.declared.view.NodeView.{NodeView}
use Rattle.ild_open_parts.specs.Sites.{HasEntry, Site}
use Rattle.ild_path_entry.specs.Entry.{IsEntry, data_in}
use Rattle.ild_path_entry.specs.declared.entry.Entry.{Entry}
use Rattle.ild_path_found.specs.Sites.{IsSiteOf, end_block}
use Rattle.ild_path_found.proofs.Finding.{finds_last}
use Rattle.ild_path_found.proofs.Rooted.{site_slots}
use Rattle.ild_path_found.proofs.Walking.{descent_wrong, entry_there, entry_wrong}
use Rattle.ild_schema.specs.Slots.{form_of}
use Rattle.ild_schema.specs.declared.number.Slot.{Slot}
use Rattle.ild_schema.specs.declared.number.TypeNo.{TypeNo}
use Rattle.ild_schema.specs.declared.row.Row.{Row}
use Rattle.ild_view.specs.Forms.{shape_in}
use Rattle.ild_view.specs.Roots.{RootIs}
use Rattle.ild_view.specs.View.{slot_of, table_of}
use Rattle.ild_view.specs.declared.view.View.{View}
use Rattle.ild_view_walk.specs.Checks.{IsRefusal}
use Rattle.ild_path_enter.specs.Enters.{EntryAnswer, MeetsEntry, MeetsSite, NamesBlock}
use Rattle.ild_path_enter.specs.declared.lookup.Entered.{Entered}

module _ (h : List ℕ → List ℕ) (rows : List Row) (slot : Slot) (room : ℕ) (view : View) (block k : List ℕ) (z : Site) (m n : Moment) (x : IsSiteOf rows slot room view block z) (root : NodeView)
    (is : RootIs (shape_in (form_of (table_of view) (slot_of view))) (Some x.tree) (Some root)) where
  has_slots : HasSlots z.shape root z.slots
  has_slots = site_slots rows slot room view block z x root is

  abbrev Says : Result Trail HamtFault → Type 0
  Says r = (p : HamtShape) (slots : List TrieSlot) → HasSlots p root slots → Descends h p k slots m r n

  pub meets_trail : (e : HamtFault) → Says (Err e) → MeetsSite h rows block k z m (Err e) n
  meets_trail (F.Block id why) says = inl (descent_wrong h z.shape m n z.slots z.block k block id why x.block_is (says z.shape z.slots has_slots))
  meets_trail F.Store says = tt
  meets_trail F.Memory says = tt
  meets_trail F.Exhausted says = tt
  meets_trail F.NoKey says = tt
  meets_trail F.Size says = tt
  meets_trail (F.Clash id kept new) says = tt

  module _ (trail : Trail) (says : Says (Ok trail)) where
    abbrev Way : Descends h z.shape k z.slots m (Ok trail) n
    Way = says z.shape z.slots has_slots

    item_of : (item : Node) → FindsAtEnd trail root (Some item) → IsItemIn (slot_for z.shape (h k) (length Way.bs) Way.last) k item
    item_of item finds = (finds_last h z.shape k z.slots root trail m n has_slots Way (Some item) finds).there item refl

    same_end : id_of (end_block block (trail_blocks trail)) ≡ id_of (end_block block Way.bs)
    same_end = ap (λ (bs : List (List ℕ)). id_of (end_block block bs)) Way.answer.blocks

    module _ (item : Node) (finds : FindsAtEnd trail root (Some item)) where
      refused : (d : Data) (ty : TypeNo) (cause : Why) → IsRefusal rows room slot d ty cause → IsRefusal rows z.room z.value d ty cause
      refused d ty cause w =
          let left = x.site.left in
          let same : room ≡ z.room = omega (arith, left) in
          subst (λ (s : Slot). IsRefusal rows z.room s d ty cause) (sym x.value_is) (subst (λ (r : ℕ). IsRefusal rows r slot d ty cause) same w)

      pub meets_item : (end : List ℕ) (e : HamtFault) → end ≡ end_block block (trail_blocks trail) → ((d : Data) → HasData item d → EntryAnswer rows slot room d (Err e)) → NamesBlock {A = Entry} end (Err e) → MeetsSite h rows block k z m (Err e) n
      meets_item end (F.Block id why) same answers named =
          let y = item_of item finds in
          let a = answers y.value y.stands in
          inr (entry_wrong z m.blocks (h k) k block x.block_is Way.bs Way.last Way.reads.leads Way.reads.held rows item y id.0 why a.0 a.2 (named ∙ ap id_of same ∙ same_end) a.1 (refused y.value a.2 a.0 a.3))
      meets_item end F.Store same answers named = tt
      meets_item end F.Memory same answers named = tt
      meets_item end F.Exhausted same answers named = tt
      meets_item end F.NoKey same answers named = tt
      meets_item end F.Size same answers named = tt
      meets_item end (F.Clash id kept new) same answers named = tt

      pub meets_value : (e : Entry) (r : Entered) → r.trail ≡ trail → r.entry ≡ Some e → ((d : Data) → HasData item d → IsEntry rows slot room d e) → MeetsSite h rows block k z m (Ok r) n
      meets_value e r own there answers = λ f at.
          let y = item_of item finds in
          let own_entry = answers y.value y.stands in
          let one : e ≡ f = same_Some e f (sym there ∙ at) in
          let left = x.site.left in
          let same : room ≡ z.room = omega (arith, left) in
          let ended : id_of (end_block block Way.bs) ≡ id_of (end_block block (trail_blocks r.trail)) = sym (ap (λ (t : Trail). id_of (end_block block (trail_blocks t))) own ∙ same_end) in
          let here : HasEntry m.blocks z (id_of (end_block block Way.bs)) k (data_in e) = subst (HasEntry m.blocks z (id_of (end_block block Way.bs)) k) (sym own_entry.tree) (entry_there z m.blocks (h k) k block x.block_is Way.bs Way.last Way.reads.leads Way.reads.held item y) in
          let is_one : IsEntry rows z.value z.room (data_in e) e =
          subst (λ (s : Slot). IsEntry rows s z.room (data_in e) e) (sym x.value_is) (subst (λ (r : ℕ). IsEntry rows slot r (data_in e) e) same (subst (λ (d : Data). IsEntry rows slot room d e) (sym own_entry.tree) own_entry)) in
          subst (λ (g : Entry). MeetsEntry rows m.blocks z (id_of (end_block block (trail_blocks r.trail))) k g) one
          (record { there = subst (λ i. HasEntry m.blocks z i k (data_in e)) ended here; entry = is_one })

  pub meets_none : (trail : Trail) (r : Entered) → r.trail ≡ trail → r.entry ≡ None → MeetsSite h rows block k z m (Ok r) n
  meets_none trail r own none = λ f at. absurd (none-some f (sym none ∙ at))
