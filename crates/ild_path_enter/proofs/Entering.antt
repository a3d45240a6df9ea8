-- A key of a HAMT in a store, and the value there.
use Rattle.std.proofs.Common.{◌≡◌, ℕ, ◌+◌, ◌-◌, Bool, true, List, [], ◌∷◌, Option, Some, None, refl, sym, ap, ◌∙◌, subst, arith}
use Rattle.std.specs.Prelude.{Result, Ok, Err, option_and_then, option_map}
use Rattle.std.specs.FinMap.{find}
use Rattle.std.specs.Option.{option_map_or}
use Rattle.std.proofs.lemmas.Option.{same_Some}
use Rattle.ild_cbor.specs.Nodes.{HasData}
use Rattle.ild_cbor.specs.declared.node.Node.{Node}
use Rattle.ild_data.specs.ByteOrder.{IsInOrder, bytewise}
use Rattle.ild_data.specs.Data.{Data}
use Rattle.ild_data.specs.Key.{value_at}
use Rattle.ild_data.specs.Trie.{TrieSlot, node_of, slots_at}
use Rattle.ild_data.specs.TrieShape.{trie_levels}
use Rattle.ild_data.specs.declared.hamt_shape.HamtShape.{HamtShape}
use Rattle.ild_edges.specs.Store.{Moment, block_at}
use Rattle.ild_schema.specs.declared.def.TypeDef.{TypeDef}
use Rattle.ild_schema.specs.declared.number.Slot.{Slot}
use Rattle.ild_schema.specs.declared.number.TypeNo.{TypeNo}
use Rattle.ild_schema.specs.declared.row.Row.{Row}
use Rattle.ild_schema.specs.Value.{Value, Pairs, map, pairs_list}
use Rattle.ild_schema.proofs.Legibly.{legible}
use Rattle.ild_cbor.specs.declared.why.Why.{Why}
use Rattle.ild_node_slots.specs.Views.{HasSlots}
use Rattle.ild_node_slots.specs.declared.view.NodeView.{NodeView}
use Rattle.ild_node_slots.specs.declared.fault.HamtFault.{HamtFault}
use Rattle.ild_node_slots.specs.declared.fault.HamtFault.TheVariants as F
use Rattle.ild_hamt_trie.proofs.Node.{slots-node}
use Rattle.ild_hamt_trie.proofs.Parts.{in_order-sorted}
use Rattle.ild_node_slots.proofs.Shapes.{levels_suc}
use Rattle.ild_typed.specs.At.{at, seen}
use Rattle.ild_typed.specs.Hamt.{root_map, whole}
use Rattle.ild_typed.specs.Holder.{map_holder}
use Rattle.ild_typed.specs.Node.{IsRoot}
use Rattle.ild_typed.specs.Represented.{represented}
use Rattle.ild_typed.specs.Segment.{part}
use Rattle.ild_typed.proofs.Fronting.{values_fronts}
use Rattle.ild_typed.proofs.WalkSound.{one_root, refused_sound}
use Rattle.ild_path_edits.specs.Along.{room_below, taken}
use Rattle.ild_view_walk.specs.Checks.{IsRefusal}
use Rattle.ild_view.specs.Roots.{RootIs}
use Rattle.ild_view.proofs.Opening.{safe_is}
use Rattle.ild_view.specs.Safe.{is_safe}
use Rattle.ild_hamt_climb.specs.Seen.{ValueIs}
use Rattle.ild_hamt_climb.specs.Way.{IsRootOf}
use Rattle.ild_hamt.specs.Descending.{DescendAnswer, Descends, DescendsTrie, IsTrailOf, TrailIs}
use Rattle.ild_hamt.specs.declared.trail.Trail.{Trail}
use Rattle.ild_open_held.specs.Held.{IsHeld}
use Rattle.ild_open_parts.specs.Reads.{OnlyReads}
use Rattle.ild_path_entry.specs.Entry.{IsEntry}
use Rattle.ild_path_entry.specs.declared.entry.Entry.{Entry}
use Rattle.ild_path_held.specs.Hamts.{IsTrieIn, IsValueOf}
use Rattle.ild_path_held.specs.HeldEdits.{room_at}
use Rattle.ild_path_held.proofs.Holding.{held_parts}
use Rattle.ild_open_rows.proofs.Given.{node_form}
use Rattle.ild_path_held.proofs.Shapes.{root_shape}
use Rattle.ild_path_nodes.specs.NodeLaws.{IsHamt}
use Rattle.ild_path_enter.specs.Enters.{CanEnter, EnterAnswer, EntersHamt, EntryAnswer, EntryThere}
use Rattle.ild_path_enter.specs.declared.lookup.Entered.{Entered}

-- ---- what is read

pub slots_in : (o : Option HamtShape) (t : Option Data) (n : NodeView) → RootIs o t (Some n) → (p : HamtShape) × (slots : List TrieSlot) × HasSlots p n slots
slots_in o None n is = absurd is
slots_in None (Some d) n is = absurd is
slots_in (Some p) (Some d) n is = (p, is.0, is.2)

pub only_reads : (h : List ℕ → List ℕ) (p : HamtShape) (k : List ℕ) (slots : List TrieSlot) (m n : Moment) (r : Result Trail HamtFault) → Descends h p k slots m r n → OnlyReads m n
only_reads h p k slots m n r d = record { later = d.reads.later; blocks = d.reads.blocks; given = d.reads.given; puts = d.reads.puts }

-- ---- the root

module _ (h : List ℕ → List ℕ) (p : HamtShape) (rows : List Row) (was : List (List ℕ)) (elem : Slot) (ps : Pairs) (t : Data) (es : List (List ℕ × Data)) (x : IsTrieIn h p rows was elem ps t es) where
  in_order : IsInOrder es
  in_order = subst IsInOrder (sym x.order) (in_order-sorted x.pairs)

  pub own_root : (slots : List TrieSlot) × (slots_at h p (trie_levels p - 1) 0 es ≡ Some slots) × IsRoot p slots t
  own_root =
      let s = slots-node h p (trie_levels p - 1) 0 es x.node (subst (λ l. node_of h p l 0 es ≡ Some x.node) (levels_suc p) x.is_node) in
      let form = node_form h p (trie_levels p - 1) 0 es s.0 in_order x.texts s.1 in
      (s.0, s.1, record { indices = form.many; each = form.each; tree = x.root ∙ ap (root_map p) s.2 })

  pub root_of_trie : (slots : List TrieSlot) → IsRoot p slots t → IsRootOf h p es slots
  root_of_trie slots root = record {
    order = in_order;
    left = trie_levels p - 1;
    all = levels_suc p;
    node = own_root.1 ∙ ap (λ (ss : List TrieSlot). Some ss) (one_root p own_root.0 slots t own_root.2 root);
  }

-- ---- the value

part_there : (rows : List Row) (slot elem : Slot) (ps : Pairs) (is : IsHamt rows slot elem) (k : List ℕ) (w : Value) → value_at k (pairs_list ps) ≡ Some w → part (seen rows (slot, map ps)) k ≡ Some (elem, w)
part_there rows slot elem ps is k w e = ap (λ G. part (map_holder G ps) k) is.4 ∙ ap (option_map (λ v. (elem, v))) e

module _ (h : List ℕ → List ℕ) (rows : List Row) (is_key : ℕ → List ℕ → Bool) (was : List (List ℕ)) (s elem : Slot) (room : ℕ) (t : Data) (ps : Pairs) (es : List (List ℕ × Data)) (can : CanEnter h rows is_key was s elem room t ps es) where
  abbrev Own : HamtShape
  Own = can.hamt.3

  -- the root's node has the slots of the type's shape, whose numbers the root tells
  abbrev pub RootHas : NodeView → Type 0
  RootHas n = (slots : List TrieSlot) × IsRoot Own slots t × HasSlots Own n slots

  pub root_slots : (o : Option HamtShape) (n : NodeView) → RootIs o (Some t) (Some n) → RootHas n
  root_slots None n is = absurd is
  root_slots (Some q) n is = subst (λ (z : HamtShape). (slots : List TrieSlot) × IsRoot z slots t × HasSlots z n slots) (sym (root_shape h Own q rows was elem ps t es is.0 can.trie is.1)) is

  room_there : (k : List ℕ) (w : Value) → value_at k (pairs_list ps) ≡ Some w → room_at rows (room + 5) (s, map ps) (k ∷ []) ≡ room
  room_there k w e =
      let below : room_below rows (room + 5) (s, map ps) k ≡ room = ap (λ (o : Option TypeDef). (room + 5) - taken o) can.hamt.4 ∙ omega arith in
      ap (λ o. option_map_or (λ q. room_at rows (room_below rows (room + 5) (s, map ps) k) q []) o (room_below rows (room + 5) (s, map ps) k)) (part_there rows s elem ps can.hamt k w e) ∙ below

  pub value_held : (k : List ℕ) (w : Value) → value_at k (pairs_list ps) ≡ Some w → (d : Data) × IsHeld (block_at was) h rows room elem d w
  value_held k w e =
      let x = held_parts (block_at was) h rows is_key can.schema can.keys (room + 5) (s, map ps) (elem, w) t (k ∷ []) can.held (ap (option_and_then (λ q. at rows q [])) (part_there rows s elem ps can.hamt k w e)) in
      (x.0, subst (λ n. IsHeld (block_at was) h rows n elem x.0 w) (room_there k w e) x.1)

  found_by : (o : Option Value) (q : Option Data) (n : Node) → IsValueOf h rows elem o q → ValueIs q (Some n) → (w : Value) × (d : Data) × (o ≡ Some w) × HasData n d × (represented (whole h) rows elem w ≡ Some d)
  found_by None None n is stands = absurd stands
  found_by (Some w) (Some d) n is stands = (w, d, refl, stands, is)
  found_by None (Some d) n is stands = absurd is
  found_by (Some w) None n is stands = absurd stands

  missing_by : (o : Option Value) (q : Option Data) → IsValueOf h rows elem o q → ValueIs q None → o ≡ None
  missing_by None q is none = refl
  missing_by (Some w) None is none = absurd is
  missing_by (Some w) (Some d) is none = absurd none

  -- what a search found stands for the value there, which is held
  pub found_value : (k : List ℕ) (n : Node) → ValueIs (find bytewise k es) (Some n) → (w : Value) × (d : Data) × (value_at k (pairs_list ps) ≡ Some w) × HasData n d × IsHeld (block_at was) h rows room elem d w
  found_value k n is =
      let x = found_by (value_at k (pairs_list ps)) (find bytewise k es) n (can.trie.found k) is in
      let y = value_held k x.0 x.2 in
      (x.0, x.1, x.2, x.3, subst (λ d. IsHeld (block_at was) h rows room elem d x.0) (same_Some y.0 x.1 (sym y.1.tree ∙ x.4)) y.1)

  -- so it isn't refused
  refused : (d : Data) (w : Value) → is_safe rows elem ≡ true → IsHeld (block_at was) h rows room elem d w → (cause : Why) → (ty : TypeNo) × IsRefusal rows room elem d ty cause → ⊥
  refused d w safe has cause x =
      let y = values_fronts h rows can.schema room elem w d has.fits has.tree in
      refused_sound rows (legible rows can.schema.accepted).clear (legible rows can.schema.accepted).delims room 0 elem (safe_is rows elem safe) d x.1.refusal x.1.refused (y.0, y.1.fits, y.1.tree)

  module _ (k : List ℕ) (m n : Moment) where
    -- the trail, or why there is none
    failed : (bs : List (List ℕ)) (last slots : List TrieSlot) (e : HamtFault) → DescendAnswer h Own k m bs last (Err e) n → TrailIs h Own k slots es (Err e) → EnterAnswer h Own rows was elem room t ps es k m (Err e) n
    failed bs last slots F.Store why is = why
    failed bs last slots F.Memory why is = tt
    failed bs last slots (F.Block id w) why is = absurd is
    failed bs last slots F.Exhausted why is = absurd is
    failed bs last slots F.NoKey why is = absurd is
    failed bs last slots F.Size why is = absurd is
    failed bs last slots (F.Clash id kept new) why is = absurd is

    trie_of : (root : NodeView) (r : Result Trail HamtFault) → m.blocks ≡ Some was → (x : RootHas root) → Descends h Own k x.0 m r n → DescendsTrie h Own k x.0 es m r n
    trie_of root r told x d = d.trie es was (root_of_trie h Own rows was elem ps t es can.trie x.0 x.1) told can.trie.holds

    pub no_trail : (root : NodeView) (e : HamtFault) → m.blocks ≡ Some was → (x : RootHas root) → Descends h Own k x.0 m (Err e) n → EntersHamt h Own rows was elem room t ps es k m (Err e) n
    no_trail root e told x d = let y = trie_of root (Err e) told x d in record { answer = failed d.bs d.last x.0 e d.answer y.trail; gets = y.gets }

    no_entry : (d : Data) (w : Value) → is_safe rows elem ≡ true → IsHeld (block_at was) h rows room elem d w → (e : HamtFault) → EntryAnswer rows elem room d (Err e) → EnterAnswer h Own rows was elem room t ps es k m (Err e) n
    no_entry d w safe has (F.Block id why) is = absurd (refused d w safe has is.0 (is.2, is.3))
    no_entry d w safe has F.Memory is = tt
    no_entry d w safe has F.Store is = absurd is
    no_entry d w safe has F.Exhausted is = absurd is
    no_entry d w safe has F.NoKey is = absurd is
    no_entry d w safe has F.Size is = absurd is
    no_entry d w safe has (F.Clash id kept new) is = absurd is

    pub no_value : (root : NodeView) (trail : Trail) (node : Node) (e : HamtFault) → is_safe rows elem ≡ true → m.blocks ≡ Some was → (x : RootHas root) → Descends h Own k x.0 m (Ok trail) n
        → (IsTrailOf h Own k x.0 es trail → ValueIs (find bytewise k es) (Some node)) → ((d : Data) → HasData node d → EntryAnswer rows elem room d (Err e)) → EntersHamt h Own rows was elem room t ps es k m (Err e) n
    no_value root trail node e safe told x d search says =
        let y = trie_of root (Ok trail) told x d in
        let v = found_value k node (search y.trail) in
        record { answer = no_entry v.1 v.0 safe v.4 e (says v.1 v.3); gets = y.gets }

    all_roots : (slots : List TrieSlot) (trail : Trail) → IsRoot Own slots t → IsTrailOf h Own k slots es trail → (ss : List TrieSlot) → IsRoot Own ss t → IsTrailOf h Own k ss es trail
    all_roots slots trail root is ss other = subst (λ zs. IsTrailOf h Own k zs es trail) (one_root Own slots ss t root other) is

    pub has_value : (root : NodeView) (trail : Trail) (node : Node) (e : Entry) (r : Entered) → r.trail ≡ trail → r.entry ≡ Some e → m.blocks ≡ Some was → (x : RootHas root) → Descends h Own k x.0 m (Ok trail) n
        → (IsTrailOf h Own k x.0 es trail → ValueIs (find bytewise k es) (Some node)) → ((d : Data) → HasData node d → IsEntry rows elem room d e) → EntersHamt h Own rows was elem room t ps es k m (Ok r) n
    has_value root trail node e r same there told x d search says =
        let y = trie_of root (Ok trail) told x d in
        let v = found_value k node (search y.trail) in
        let has : EntryThere h rows was elem room (Some v.0) (Some e) = record { tree = v.1; held = v.4; entry = says v.1 v.3 } in
        record {
          answer = record {
            found = subst (λ z. (ss : List TrieSlot) → IsRoot Own ss t → IsTrailOf h Own k ss es z) (sym same) (all_roots x.0 trail x.1 y.trail);
            value = subst (λ o. EntryThere h rows was elem room o r.entry) (sym v.2) (subst (EntryThere h rows was elem room (Some v.0)) (sym there) has);
          };
          gets = y.gets;
        }

    pub has_none : (root : NodeView) (trail : Trail) (r : Entered) → r.trail ≡ trail → r.entry ≡ None → m.blocks ≡ Some was → (x : RootHas root) → Descends h Own k x.0 m (Ok trail) n
        → (IsTrailOf h Own k x.0 es trail → ValueIs (find bytewise k es) None) → EntersHamt h Own rows was elem room t ps es k m (Ok r) n
    has_none root trail r same there told x d search =
        let y = trie_of root (Ok trail) told x d in
        let v = missing_by (value_at k (pairs_list ps)) (find bytewise k es) (can.trie.found k) (search y.trail) in
        record {
          answer = record {
            found = subst (λ z. (ss : List TrieSlot) → IsRoot Own ss t → IsTrailOf h Own k ss es z) (sym same) (all_roots x.0 trail x.1 y.trail);
            value = subst (λ o. EntryThere h rows was elem room o r.entry) (sym v) (subst (EntryThere h rows was elem room None) (sym there) tt);
          };
          gets = y.gets;
        }
