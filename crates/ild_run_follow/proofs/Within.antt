-- What is told of a HAMT's entry, from its key on.
use Rattle.std.proofs.Common.{◌≡◌, ℕ, zero, suc, ◌+◌, ◌-◌, ◌≤◌, List, [], ◌∷◌, length, drop, true, Option, Some, None, Result, Ok, Err, refl, sym, ap, ◌∙◌, subst, arith, add-one}
use Rattle.std.specs.FinMap.{find}
use Rattle.std.specs.Option.{option_map_or}
use Rattle.std.specs.Prelude.{cond, option_and_then, option_map, slice_get}
use Rattle.std.proofs.Math.Logic.{∥∥₁_elim, ∥∥₁_map}
use Rattle.std.proofs.lemmas.Option.{none-some, same_Some}
use Rattle.std.proofs.Props.{props}
use Rattle.ild_cbor.specs.Nodes.{HasData}
use Rattle.ild_cbor.specs.declared.node.Node.{Node}
use Rattle.ild_cbor.specs.declared.piece.Piece.TheVariants as P
use Rattle.ild_hamt_climb.specs.Seen.{ValueIs}
use Rattle.ild_open_parts.proofs.Turning.{only_refl, only_trans}
use Rattle.ild_data.specs.ByteOrder.{bytewise, in_byte_order}
use Rattle.ild_data.specs.Data.{Data}
use Rattle.ild_data.specs.Key.{value_at}
use Rattle.ild_data.specs.Trie.{TrieSlot}
use Rattle.ild_data.specs.TrieShape.{trie_levels}
use Rattle.ild_data.specs.declared.hamt_shape.HamtShape.{HamtShape}
use Rattle.ild_data.specs.declared.tree.Tree.{Tree}
use Rattle.ild_edges.specs.Count.{Rose}
use Rattle.ild_edges.proofs.Reading.{only_of}
use Rattle.ild_edges.specs.Store.{Moment, block_at}
use Rattle.ild_open_held_roots.proofs.Entering.{root_front, roots_are_entered}
use Rattle.ild_open_held_roots.specs.Enters.{DataOf, IsEntered}
use Rattle.ild_typed_fronts.specs.Front.{front, is_root}
use Rattle.ild_hamt.specs.Descending.{IsTrailOf}
use Rattle.ild_hamt.specs.declared.trail.Trail.{Trail}
use Rattle.ild_open_held.specs.Held.{IsHeld}
use Rattle.ild_open_parts.specs.Reads.{OnlyReads}
use Rattle.ild_script_meaning.specs.Costs.{met_in, on_way}
use Rattle.ild_schema.specs.Slots.{form_of}
use Rattle.ild_schema.specs.Value as V
use Rattle.ild_schema.specs.Value.{Value, pairs_list}
use Rattle.ild_schema.specs.declared.def.TypeDef.{TypeDef}
use Rattle.ild_schema.specs.declared.number.Slot.{Slot}
use Rattle.ild_schema.specs.declared.row.Row.{Row}
use Rattle.ild_node_slots.specs.Views.{HasSlots}
use Rattle.ild_node_slots.specs.declared.view.NodeView.{NodeView}
use Rattle.ild_hamt_trie.specs.Way.{way}
use Rattle.ild_typed.specs.At.{InSlot, at, met, seen}
use Rattle.ild_typed.specs.Fits.{Fits}
use Rattle.ild_typed.specs.Holder.{holder_of, map_holder}
use Rattle.ild_typed.specs.Schema.{IsSchema}
use Rattle.ild_typed.specs.Segment.{part}
use Rattle.ild_typed.specs.Slots.{element_of}
use Rattle.ild_typed.proofs.Fronting.{values_fronts}
use Rattle.ild_view.specs.Forms.{shape_in}
use Rattle.ild_view.specs.Roots.{RootIs, root_in}
use Rattle.ild_path_edits.specs.Along.{taken}
use Rattle.ild_path_room.proofs.Rooting.{hamt_of}
use Rattle.ild_view.specs.View.{IsView, IsViewAt, body_of, slot_of, table_of}
use Rattle.ild_view.specs.Body.{BodyStands}
use Rattle.ild_view.specs.View.{piece_in}
use Rattle.ild_view.specs.declared.body.Body.{Body}
use Rattle.ild_view.specs.declared.body.Body.TheVariants as B
use Rattle.ild_view.specs.declared.view.View.{View}
use Rattle.ild_run_follow.specs.inside.Enters.{ChecksEntry, EnterAnswer, EntersTrie, HoldsTrie}
use Rattle.ild_run_follow.specs.Tells.{FailsOnly, ViewHolds, TellAnswer, TellsFrom, TellsIn, TellsNothing, counts, part_nodes}
use Rattle.ild_run_follow.specs.Told.{told}
use Rattle.ild_run_follow.specs.declared.fault.ReadFault.{ReadFault}
use Rattle.ild_run_follow.specs.declared.fault.ReadFault.TheVariants as F
use Rattle.ild_run_follow.specs.declared.kind.Tell.{Tell}
use Rattle.ild_run_follow.proofs.Leading.{none_answer, nothing_fails}
use Rattle.ild_run_follow.proofs.Rooms.{part_in}
use Rattle.ild_run_follow.proofs.Standing.{viewed}

drop_at : (xs : List (List ℕ)) (k : ℕ) (x : List ℕ) → Some x ≡ slice_get xs k → drop k xs ≡ x ∷ drop (suc k) xs
drop_at [] k x e = absurd (none-some x (sym e))
drop_at (y ∷ xs) zero x e = ap (λ z. z ∷ xs) (same_Some y x (sym e))
drop_at (y ∷ xs) (suc k) x e = drop_at xs k x e

-- what every front of the view says of its root
abbrev pub Roots : View → Option NodeView → Type 0
Roots view root = (f : Value) → IsView view f → RootIs (shape_in (form_of (table_of view) (slot_of view))) (root_in f) root

some_slots : (o : Option HamtShape) (d : Option Data) (root : NodeView) → RootIs o d (Some root) → (p : HamtShape) × (slots : List TrieSlot) × HasSlots p root slots
some_slots o None root is = absurd is
some_slots None (Some d) root is = absurd is
some_slots (Some p) (Some d) root is = (p, is.0, is.2)

module _ (h : List ℕ → List ℕ) (room : ℕ) (low : room ≤ 96) (hamt : View) (schema : IsSchema (table_of hamt)) (m : Moment) where
  abbrev rows : List Row
  rows = table_of hamt

  abbrev At : Value → InSlot
  At v = (slot_of hamt, v)

  -- the root node has slots, whatever stands there
  pub has_slots : (root : NodeView) → Roots hamt (Some root) → ∥ ((p : HamtShape) × (slots : List TrieSlot) × HasSlots p root slots) ∥₁
  has_slots root roots = ∥∥₁_map hamt.stands (λ s. some_slots (shape_in (form_of rows (slot_of hamt))) (root_in s.value) root (roots s.value (record { room = s.room; tree = s.tree; stands = s.stands; front = s.front })))

  pub record IsIn (root : NodeView) (held : List (List ℕ)) (v : Value) : Type 0 where
    pub shape : HamtShape
    pub slots : List TrieSlot
    pub has : HasSlots shape root slots
    pub entered : IsEntered held h rows room (At v) shape slots
    pub trie : HoldsTrie h shape slots (in_byte_order entered.entries) m

  pub is_in : (root : NodeView) → Roots hamt (Some root) → (t : Data) (v : Value) (x : ViewHolds h room hamt m t v) → is_root rows (At v) ≡ true → IsIn root x.held v
  is_in root roots t v x top =
      let is : front h rows (slot_of hamt) v ≡ V.hamt t = root_front h rows (slot_of hamt) v t x.value.tree top in
      let r = subst (λ (f : Value). RootIs (shape_in (form_of rows (slot_of hamt))) (root_in f) (Some root)) is (roots (front h rows (slot_of hamt) v) (viewed h room hamt m t v schema x)) in
      let y = hamt_of (form_of rows (slot_of hamt)) t root r in
      let e = roots_are_entered x.held h rows schema room low (At v) t y.slots y.type.key y.type.key_at y.type.value y.type.place y.shape y.type.form x.value top y.root in
      record { shape = y.shape; slots = y.slots; has = y.has; entered = e; trie = record { held = x.held; told = x.told; root = e.root; holds = e.holds } }

  -- what the HAMT counts for a key
  pub counts_way : (held : List (List ℕ)) (v : Value) (shape : HamtShape) (slots : List TrieSlot) (e : IsEntered held h rows room (At v) shape slots) (k : List ℕ)
      → counts h rows (At v) k ≡ length (way h shape k (trie_levels shape) 0 (in_byte_order e.entries))
  counts_way held v shape slots e k =
      ap (λ (w : Value). met_in h rows (form_of rows (slot_of hamt)) w k) e.is
      ∙ ap (λ (o : Option TypeDef). met_in h rows o (V.map e.pairs) k) e.form
      ∙ ap (λ o. option_map_or (on_way h shape k) o 0) e.there
      ∙ ap (λ b. cond b (length (way h shape k (trie_levels shape) 0 (in_byte_order e.entries))) 0) e.trie

  pub part_is : (held : List (List ℕ)) (v : Value) (shape : HamtShape) (slots : List TrieSlot) (e : IsEntered held h rows room (At v) shape slots) (k : List ℕ) → part (seen rows (At v)) k ≡ option_map {U = InSlot} (λ w. (e.value, w)) (value_at k (pairs_list e.pairs))
  part_is held v shape slots e k =
      ap (λ (w : Value). part (holder_of rows (slot_of hamt) w) k) e.is ∙ ap (λ (o : Option TypeDef). part (map_holder o e.pairs) k) e.form

  -- ---- the ways in which it ends

  module _ (path : List (List ℕ)) (j : ℕ) (tell : Tell) where
    -- at once
    pub tells_memory : (n : Moment) → n ≡ m → TellsIn h room hamt (drop j path) tell m (Err F.Memory) n
    tells_memory n same = record {
      answer = λ t v x top. tt;
      gets = λ t v x top. let is : n.gets ≡ m.gets = ap (λ (o : Moment). o.gets) same in omega (arith, is);
      only = subst (λ (o : Moment). OnlyReads m o) (sym same) (only_refl m);
      failed = tt;
    }

    module _ (root : NodeView) (roots : Roots hamt (Some root)) (key : List ℕ) (here : Some key ≡ slice_get path j) (trail : Result Trail ReadFault) (k : Moment)
        (enters : (p : HamtShape) (slots : List TrieSlot) → HasSlots p root slots → EntersTrie h p key slots m trail k) where
      abbrev left : drop j path ≡ key ∷ drop (suc j) path
      left = drop_at path j key here

      pub read_only : OnlyReads m k
      read_only = only_of m k (∥∥₁_map (has_slots root roots) (λ s. (enters s.0 s.1 s.2).only))

      -- the gets so far
      way_gets : (t : Data) (v : Value) (x : ViewHolds h room hamt m t v) → is_root rows (At v) ≡ true → k.gets ≤ m.gets + counts h rows (At v) key
      way_gets t v x top =
          let y = is_in root roots t v x top in
          let own = (enters y.shape y.slots y.has).gets (in_byte_order y.entered.entries) y.trie in
          let is = counts_way x.held v y.shape y.slots y.entered key in
          omega (arith, own, is)

      met_is : (v : Value) → met rows (counts h rows) (At v) (drop j path) ≡ counts h rows (At v) key + option_map_or (λ q. met rows (counts h rows) q (drop (suc j) path)) (part (seen rows (At v)) key) 0
      met_is v = ap (met rows (counts h rows) (At v)) left

      at_is : (v : Value) → at rows (At v) (drop j path) ≡ option_and_then (λ q. at rows q (drop (suc j) path)) (part (seen rows (At v)) key)
      at_is v = ap (at rows (At v)) left

      stop_answer : (e : ReadFault) (o : Option Data) (p : HamtShape) (slots : List TrieSlot) (es : List (List ℕ × Data)) → EnterAnswer h p key slots es m (Err e) k → TellAnswer o m (Err e) k
      stop_answer F.Path o p slots es a = absurd a
      stop_answer (F.Block id why) o p slots es a = absurd a
      stop_answer F.Store o p slots es a = a
      stop_answer F.Memory o p slots es a = tt

      stop_failed : (e : ReadFault) → trail ≡ Err e → FailsOnly {A = Tree} m (Err e) k
      stop_failed F.Path is = tt
      stop_failed (F.Block id why) is = tt
      stop_failed F.Store is = ∥∥₁_elim (has_slots root roots) (hlevel props) (λ s. subst (λ (r : Result Trail ReadFault). FailsOnly m r k) is (enters s.0 s.1 s.2).failed)
      stop_failed F.Memory is = tt

      -- on the key's way
      pub tells_stopped : (e : ReadFault) → trail ≡ Err e → TellsIn h room hamt (drop j path) tell m (Err e) k
      tells_stopped e is = record {
        answer = λ t v x top.
            let y = is_in root roots t v x top in
            let own = (enters y.shape y.slots y.has).answer (in_byte_order y.entered.entries) y.trie in
            stop_answer e _ y.shape y.slots (in_byte_order y.entered.entries) (subst (λ (r : Result Trail ReadFault). EnterAnswer h y.shape key y.slots (in_byte_order y.entered.entries) m r k) is own);
        gets = λ t v x top. let own = way_gets t v x top in let all = met_is v in omega (arith, own, all);
        only = read_only;
        failed = stop_failed e is;
      }

      module _ (tr : Trail) (trail_is : trail ≡ Ok tr) (found : Option Node)
          (finds : (p : HamtShape) (slots : List TrieSlot) (es : List (List ℕ × Data)) → HasSlots p root slots → IsTrailOf h p key slots es tr → ValueIs (find bytewise key es) found) where
        value_found : (t : Data) (v : Value) (x : ViewHolds h room hamt m t v) (top : is_root rows (At v) ≡ true)
            → ValueIs (find bytewise key (in_byte_order (is_in root roots t v x top).entered.entries)) found
        value_found t v x top =
            let y = is_in root roots t v x top in
            let es = in_byte_order y.entered.entries in
            finds y.shape y.slots es y.has (subst (λ (r : Result Trail ReadFault). EnterAnswer h y.shape key y.slots es m r k) trail_is ((enters y.shape y.slots y.has).answer es y.trie))

        no_value : (rows' : List Row) (held : List (List ℕ)) (slot : Slot) (o : Option Data) (w : Option Value) → found ≡ None → ValueIs o found → DataOf held h rows' room slot o w → w ≡ None
        no_value rows' held slot None None none is data_is = refl
        no_value rows' held slot None (Some w) none is data_is = absurd data_is
        no_value rows' held slot (Some d) w none is data_is = absurd (subst (λ (f : Option Node). ValueIs (Some d) f) none is)

        -- where the key isn't there
        pub tells_absent : (result : Result Tree ReadFault) → found ≡ None → TellsNothing tell result → TellsIn h room hamt (drop j path) tell m result k
        tells_absent result none nothing = record {
          answer = λ t v x top.
              let y = is_in root roots t v x top in
              let gone = no_value rows x.held y.entered.value _ _ none (value_found t v x top) (y.entered.each key) in
              let no_part = part_is x.held v y.shape y.slots y.entered key ∙ ap (option_map {U = InSlot} (λ w. (y.entered.value, w))) gone in
              none_answer h rows tell m k result (at rows (At v) (drop j path)) (at_is v ∙ ap (option_and_then (λ (q : InSlot). at rows q (drop (suc j) path))) no_part) nothing;
          gets = λ t v x top. let own = way_gets t v x top in let all = met_is v in omega (arith, own, all);
          only = read_only;
          failed = nothing_fails tell m k result nothing;
        }

        -- a value of it nests no deeper than what it leaves
        module _ (less : ℕ) (lower : less ≡ room - taken (form_of rows (slot_of hamt))) where
          -- the value at the key, with its data
          pub record IsEntry (node : Node) (held : List (List ℕ)) (v : Value) (slot : Slot) (d : Data) (w : Value) : Type 0 where
            pub stands : HasData node d
            pub value : IsHeld (block_at held) h rows less slot d w
            pub there : part (seen rows (At v)) key ≡ Some (slot, w)
            pub element : element_of (form_of rows (slot_of hamt)) ≡ Some slot

          abbrev SomeEntry : Node → List (List ℕ) → Value → Type 0
          SomeEntry node held v = (slot : Slot) × (d : Data) × (w : Value) × IsEntry node held v slot d w

          entry_by : (node : Node) (held : List (List ℕ)) (v : Value) (shape : HamtShape) (slots : List TrieSlot) (e : IsEntered held h rows room (At v) shape slots) (o : Option Data) (u : Option Value) → Fits rows room (slot_of hamt) v → found ≡ Some node → ValueIs o found
              → value_at key (pairs_list e.pairs) ≡ u → DataOf held h rows room e.value o u → SomeEntry node held v
          entry_by node held v shape slots e None u fits is val there data_is = absurd (subst (λ (f : Option Node). ValueIs None f) is val)
          entry_by node held v shape slots e (Some d) None fits is val there data_is = absurd data_is
          entry_by node held v shape slots e (Some d) (Some w) fits is val there data_is =
              let own : part (seen rows (At v)) key ≡ Some (e.value, w) = part_is held v shape slots e key ∙ ap (option_map {U = InSlot} (λ w. (e.value, w))) there in
              let left = part_in rows schema room (At v) (e.value, w) key fits own in (
                e.value,
                d,
                w,
                record {
                  stands = subst (λ (f : Option Node). ValueIs (Some d) f) is val;
                  value = record { fits = subst (λ n. Fits rows n e.value w) (sym lower) left; tree = data_is.tree; held = data_is.held };
                  there = own;
                  element = ap element_of e.form;
                },
              )

          pub entry_at : (node : Node) → found ≡ Some node → (t : Data) (v : Value) (x : ViewHolds h room hamt m t v) → is_root rows (At v) ≡ true → SomeEntry node x.held v
          entry_at node is t v x top =
              let y = is_in root roots t v x top in
              entry_by node x.held v y.shape y.slots y.entered _ _ x.value.fits is (value_found t v x top) refl (y.entered.each key)

          entry_fault : (node : Node) (e : ReadFault) (o : Option Data) (held : List (List ℕ)) (v : Value) → ((d : Data) → HasData node d → ChecksEntry rows less (form_of rows (slot_of hamt)) node d (Err e)) → SomeEntry node held v → TellAnswer o m (Err e) k
          entry_fault node F.Path o held v checks s = absurd (checks s.1 s.3.stands)
          entry_fault node (F.Block id why) o held v checks s =
              let f = values_fronts h rows schema less s.0 s.2 s.1 s.3.value.fits s.3.value.tree in
              absurd (checks s.1 s.3.stands s.0 s.3.element (f.0, f.1.fits, f.1.tree))
          entry_fault node F.Store o held v checks s = absurd (checks s.1 s.3.stands)
          entry_fault node F.Memory o held v checks s = tt

          refused_failed : (node : Node) (e : ReadFault) → ((d : Data) → HasData node d → ChecksEntry rows less (form_of rows (slot_of hamt)) node d (Err e)) → FailsOnly {A = Tree} m (Err e) k
          refused_failed node F.Path checks = tt
          refused_failed node (F.Block id why) checks = tt
          refused_failed node F.Store checks = ∥∥₁_elim node.stands (hlevel props) (λ s. absurd (checks s.of s.spells))
          refused_failed node F.Memory checks = tt

          -- a value that has no front
          pub tells_refused : (node : Node) (e : ReadFault) → found ≡ Some node → ((d : Data) → HasData node d → ChecksEntry rows less (form_of rows (slot_of hamt)) node d (Err e)) → TellsIn h room hamt (drop j path) tell m (Err e) k
          tells_refused node e is checks = record {
            answer = λ t v x top. entry_fault node e _ x.held v checks (entry_at node is t v x top);
            gets = λ t v x top. let own = way_gets t v x top in let all = met_is v in omega (arith, own, all);
            only = read_only;
            failed = refused_failed node e checks;
          }

          item_stands : (rs : List Row) (b : Body) (node : Node) (d : Data) → piece_in b ≡ Some (P.Node node) → HasData node d → BodyStands rs b d
          item_stands rs (B.Held p) node d is stands = subst (λ q. BodyStands rs (B.Held q) d) (sym (same_Some p (P.Node node) is)) stands
          item_stands rs (B.Implicit s) node d is stands = absurd (none-some (P.Node node) is)

          -- on from the value
          pub tells_on : (node : Node) (view : View) (n : Moment) (result : Result Tree ReadFault) → found ≡ Some node → ((d : Data) → HasData node d → ChecksEntry rows less (form_of rows (slot_of hamt)) node d (Ok view))
              → TellsFrom h less view (drop (j + 1) path) tell k result n → TellsIn h room hamt (drop j path) tell m result n
          tells_on node view n result is checks tells = record {
            answer = λ t v x top.
                let s = entry_at node is t v x top in
                let c = checks s.1 s.3.stands in
                let slot : slot_of view ≡ s.0 = c.2.slot ∙ same_Some c.0 s.0 (sym c.1 ∙ s.3.element) in
                let own = tells.answer s.1 s.2 (on_at t v x s view c.2 slot node) in
                let same : at (table_of view) (slot_of view, s.2) (drop (j + 1) path) ≡ at rows (At v) (drop j path) =
                (λ i. at (c.2.table i) (slot i, s.2) (drop (add-one j i) path)) ∙ sym (at_is v ∙ ap (option_and_then (λ (q : InSlot). at rows q (drop (suc j) path))) s.3.there) in
                later_answer result _ (subst (λ (o : Option InSlot). TellAnswer (told h rows tell o) k result n) same
                (subst (λ (r : List Row). TellAnswer (told h r tell (at (table_of view) (slot_of view, s.2) (drop (j + 1) path))) k result n) c.2.table own));
            gets = λ t v x top.
                let s = entry_at node is t v x top in
                let c = checks s.1 s.3.stands in
                let slot : slot_of view ≡ s.0 = c.2.slot ∙ same_Some c.0 s.0 (sym c.1 ∙ s.3.element) in
                let own = tells.gets s.1 s.2 (on_at t v x s view c.2 slot node) in
                let same : at (table_of view) (slot_of view, s.2) (drop (j + 1) path) ≡ at rows (At v) (drop j path) =
                (λ i. at (c.2.table i) (slot i, s.2) (drop (add-one j i) path)) ∙ sym (at_is v ∙ ap (option_and_then (λ (q : InSlot). at rows q (drop (suc j) path))) s.3.there) in
                let way : met (table_of view) (counts h (table_of view)) (slot_of view, s.2) (drop (j + 1) path) ≡ met rows (counts h rows) (s.0, s.2) (drop (suc j) path) =
                (λ i. met (c.2.table i) (counts h (c.2.table i)) (slot i, s.2) (drop (add-one j i) path)) in
                let nodes : part_nodes h (table_of view) tell (at (table_of view) (slot_of view, s.2) (drop (j + 1) path)) ≡ part_nodes h rows tell (at rows (At v) (drop j path)) =
                ap (λ (r : List Row). part_nodes h r tell (at (table_of view) (slot_of view, s.2) (drop (j + 1) path))) c.2.table ∙ ap (part_nodes h rows tell) same in
                let first = way_gets t v x top in
                let all = met_is v ∙ ap (λ o. counts h rows (At v) key + option_map_or (λ (q : InSlot). met rows (counts h rows) q (drop (suc j) path)) o 0) s.3.there in
                omega (arith, own, way, nodes, first, all);
            only = both_only read_only tells.only;
            failed = later_failed result tells.failed;
          } where
            later_answer : (r : Result Tree ReadFault) (o : Option Data) → TellAnswer o k r n → TellAnswer o m r n
            later_answer (Ok tree) o a = a
            later_answer (Err F.Path) o a = a
            later_answer (Err (F.Block id why)) o a = a
            later_answer (Err F.Store) o a = rose a where
              rose : Rose k.faults n.faults → Rose m.faults n.faults
              rose r = let le = read_only.later.faults in omega (arith, r, le)
            later_answer (Err F.Memory) o a = tt

            later_failed : (r : Result Tree ReadFault) → FailsOnly k r n → FailsOnly m r n
            later_failed (Ok tree) f = tt
            later_failed (Err F.Path) f = tt
            later_failed (Err (F.Block id why)) f = tt
            later_failed (Err F.Store) f = rose f where
              rose : Rose k.faults n.faults → Rose m.faults n.faults
              rose r = let le = read_only.later.faults in omega (arith, r, le)
            later_failed (Err F.Memory) f = tt

            both_only : OnlyReads m k → OnlyReads k n → OnlyReads m n
            both_only a b = only_trans m k n a b

            on_at : (t : Data) (v : Value) (x : ViewHolds h room hamt m t v) (s : SomeEntry node x.held v) (w : View) → {slot : Slot} → IsViewAt rows slot (P.Node node) w → slot_of w ≡ s.0 → Node → ViewHolds h less w k s.1 s.2
            on_at t v x s w c slot unused = record {
              held = x.held;
              told = read_only.blocks ∙ x.told;
              stands = item_stands (table_of w) (body_of w) node s.1 c.piece s.3.stands;
              value = subst (λ (r : List Row). IsHeld (block_at x.held) h r less (slot_of w) s.1 s.2) (sym c.table) (subst (λ (u : Slot). IsHeld (block_at x.held) h rows less u s.1 s.2) (sym slot) s.3.value);
            }
