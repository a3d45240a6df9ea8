-- What an edit behind the hops makes of the innermost value, and of the whole.
use Rattle.std.proofs.Common.{◌≡◌, inl, inr, ℕ, ◌≤◌, Bool, true, IsUtf8, List, [], ◌∷◌, ◌++◌, length, map, arith, Option, Some, refl, sym, ap, ◌∙◌, subst, append-nil}
use Rattle.std.specs.Prelude.{IfOk, Result, Ok, Err}
use Rattle.std.specs.List.{AllByRecursion}
use Rattle.ild_edges.specs.Gained.{AreIdsGiven}
use Rattle.ild_cbor.specs.declared.node.Node.{Node}
use Rattle.ild_data.specs.Among.{AreAmong}
use Rattle.ild_data.specs.Data.{Data}
use Rattle.ild_data.specs.Limits.{deepest, longest_block}
use Rattle.ild_data.specs.Spell.{spell}
use Rattle.ild_edges.specs.Store.{Moment, block_at}
use Rattle.ild_edges.specs.Told.{IfTold}
use Rattle.ild_edges.proofs.Later.{Later-refl}
use Rattle.ild_bulk.proofs.Puts.{told-same}
use Rattle.ild_schema.specs.declared.number.Slot.{Slot}
use Rattle.ild_schema.specs.declared.row.Row.{Row}
use Rattle.ild_schema.specs.Slots.{form_of}
use Rattle.ild_schema.specs.Value.{Value}
use Rattle.ild_node_slots.specs.declared.fault.HamtFault.{HamtFault}
use Rattle.ild_node_slots.specs.declared.fault.HamtFault.TheVariants as F
use Rattle.ild_script.specs.declared.reply.No.{No}
use Rattle.ild_typed.specs.At.{InSlot, at}
use Rattle.ild_typed.specs.Blocks.{nodes}
use Rattle.ild_typed.specs.Fits.{Fits}
use Rattle.ild_typed.specs.Hamt.{alone, whole}
use Rattle.ild_typed.specs.OfType.{OfType, TestsKeys}
use Rattle.ild_typed.specs.Represented.{represented}
use Rattle.ild_view.specs.View.{slot_of, table_of}
use Rattle.ild_view.specs.declared.view.View.{View}
use Rattle.ild_open_held.specs.Held.{IsHeld}
use Rattle.ild_path_edits.specs.Edit.{change, ins_at, new_slot, path_of, set_at}
use Rattle.ild_path_edits.specs.EditLaws.{Brings}
use Rattle.ild_path_edits.proofs.KeepTyped.{edits_keep_types, ok_same}
use Rattle.ild_path_block.specs.Edits.{BringsPart, EditsPart, IsPartItem, edit_of}
use Rattle.ild_path_block.specs.declared.edit.PartEdit.{PartEdit}
use Rattle.ild_path_block.specs.declared.edit.PartEdit.TheVariants as E
use Rattle.ild_path_within.specs.Within.{moved, with_part, with_result}
use Rattle.ild_path_within.proofs.Splitting.{parts_are_set, ways_split}
use Rattle.ild_typed_fronts.specs.Front.{edit_front, front, front_in, in_one_block, part_front}
use Rattle.ild_typed_fronts.proofs.Pathing.{edits_of_fronts}
use Rattle.ild_typed_fronts.proofs.Representing.{fronts_are_fronts, fronts_represent}
use Rattle.ild_path_way.specs.Way.{nodes_met}
use Rattle.ild_path_way.proofs.Splitting.{nodes_split, none_in_one_block}
use Rattle.ild_path_way.proofs.Staying.{edits_stay}
use Rattle.ild_path_nodes.proofs.Changing.{nodes_of_parts}
use Rattle.ild_path_held.specs.HeldEdits.{HasNodes, room_at}
use Rattle.ild_path_held.proofs.Holding.{held_edits, held_parts}
use Rattle.ild_path_entered.proofs.Editing.{sets_have_data, sets_stand, through_at, through_entries}
use Rattle.ild_path_outward.specs.Level.{IsLevel}
use Rattle.ild_path_hops.specs.Hops.{AreHops, step_of}
use Rattle.ild_path_hops.specs.HopLaws.{path_of_hops}
use Rattle.ild_path_hops.specs.declared.hop.Hop.{Hop}
use Rattle.ild_path_hops.proofs.Hopping.{hops_leave, hops_pass}
use Rattle.ild_path_outward.specs.Outward.{IsNewEnd, with_end}
use Rattle.ild_path_reroot.specs.Reroots.{MakesRoot}
use Rattle.ild_script_meaning.specs.Costs.{blocks_met, met_in}
use Rattle.ild_path_ends.specs.Ends.{AddsBlocks, EditsWhole, WholeAnswer}
use Rattle.ild_path_ends.specs.inside.InBlock.{IsInnerChange, MakesInner}
use Rattle.ild_path_ends.specs.Parts.{BringsHeld, HasEnd, IsChange, IsPartHeld}
use Rattle.ild_path_ends.proofs.Inner.{IsInner}
use Rattle.ild_path_ends.proofs.Moving.{ins_moves, ins_of_front, set_moves, set_of_front}

-- ---- results

-- what is made of the whole is what is made of a part, set there
pub record Within (rows : List Row) (p : InSlot) (path : List (List ℕ)) (r : Result Value No) (c : Value) : Type 0 where
  pub new : Value
  pub is : r ≡ Ok new
  pub made : with_part rows p path new ≡ c

pub within : (rows : List Row) (p : InSlot) (path : List (List ℕ)) (r : Result Value No) (c : Value) → with_result rows p path r ≡ Ok c → Within rows p path r c
within rows p path (Ok m) c e = record { new = m; is = refl; made = cc }
within rows p path (Err refusal) c e = absurd cc

moved_edit : (edit : PartEdit) (w : Value) (a b : List (List ℕ)) → moved (a ++ path_of (edit_of edit w b)) (edit_of edit w b) ≡ edit_of edit w (a ++ b)
moved_edit (E.Set n) w a b = refl
moved_edit (E.Insert n) w a b = refl
moved_edit E.Delete w a b = refl

path_is : (edit : PartEdit) (w : Value) (b : List (List ℕ)) → path_of (edit_of edit w b) ≡ b
path_is (E.Set n) w b = refl
path_is (E.Insert n) w b = refl
path_is E.Delete w b = refl

-- ---- where the hops lead

module _ (h : List ℕ → List ℕ) (is_key : ℕ → List ℕ → Bool) (was : List (List ℕ)) (v : Value) (t : Data) (root : View) (hops : List Hop) (q : InSlot) (less : ℕ) (level : IsLevel h is_key was deepest v t root)
    (leads : AreHops h (table_of root) was deepest (slot_of root, v) hops q less) where
  abbrev Rows : List Row
  Rows = table_of root

  abbrev S : Slot
  S = slot_of root

  abbrev Path : List (List ℕ)
  Path = path_of_hops hops

  pub at_q : at Rows (S, v) Path ≡ Some q
  at_q = through_at Rows (map step_of hops) (S, v) q (hops_pass h Rows was deepest less (S, v) q hops leads)

  left : room_at Rows deepest (S, v) Path ≡ less
  left = hops_leave h Rows was deepest less (S, v) q hops leads

  pub held_q : (d : Data) × IsHeld (block_at was) h Rows less q.0 d q.1
  held_q =
      let z = held_parts (block_at was) h Rows is_key level.schema level.keys deepest (S, v) q t Path level.held at_q in
      (z.0, subst (λ k. IsHeld (block_at was) h Rows k q.0 z.0 q.1) left z.1)

  pub typed_v : OfType Rows S v
  typed_v = (deepest, level.held.fits)

  pub typed_q : OfType Rows q.0 q.1
  typed_q = (less, held_q.1.fits)

  -- ---- where it becomes a typed value, so that the whole is c

  module _ (c new : Value) (u : Data) (typed : OfType Rows q.0 new) (made : with_end Rows S v hops new ≡ c) (tree : represented (whole h) Rows S c ≡ Some u) (fits : Fits Rows deepest S c) where
    pub own : (d : Data) × (represented (whole h) Rows q.0 new ≡ Some d) × Fits Rows less q.0 new
    own =
        let z = sets_have_data h Rows is_key level.schema level.keys deepest (S, v) q Path new u typed_v at_q typed (subst (λ x. represented (whole h) Rows S x ≡ Some u) (sym made) tree) (subst (Fits Rows deepest S) (sym made) fits) in
        (z.0, z.1, subst (λ k. Fits Rows k q.0 new) left z.2)

    pub there : at Rows (S, c) Path ≡ Some (q.0, new)
    there = subst (λ x. at Rows (S, x) Path ≡ Some (q.0, new)) made (sets_stand Rows is_key level.schema level.keys (S, v) q Path new typed_v at_q typed).0

    pub among : AreAmong (nodes h Rows q.0 new) (nodes h Rows S c)
    among = nodes_of_parts h Rows is_key level.schema level.keys (S, c) (q.0, new) Path (deepest, fits) there

  -- ---- an edit behind the hops

  module _ (path : List (List ℕ)) (edit : PartEdit) (w c : Value) (u : Data) (ended : HasEnd edit path) (x : IsChange h Rows is_key was deepest (S, v) (path_of_hops hops ++ path) edit w c u) where
    by_through : (s : List ℕ) (ss : List (List ℕ)) → path ≡ s ∷ ss → Within Rows (S, v) Path (change Rows is_key q (edit_of edit w path)) c
    by_through s ss is =
        let e = edit_of edit w path in
        let split = through_entries Rows is_key (S, v) q (map step_of hops) e s ss (hops_pass h Rows was deepest less (S, v) q hops leads) (path_is edit w path ∙ is) in
        within Rows (S, v) Path (change Rows is_key q e) c (sym split ∙ ap (change Rows is_key (S, v)) (moved_edit edit w Path path) ∙ x.makes)

    pub changed : Within Rows (S, v) Path (change Rows is_key q (edit_of edit w path)) c
    changed = by edit path ended by_through x.makes where
      by : (e : PartEdit) (us : List (List ℕ)) → HasEnd e us → ((s : List ℕ) (ss : List (List ℕ)) → us ≡ s ∷ ss → Within Rows (S, v) Path (change Rows is_key q (edit_of e w us)) c)
          → change Rows is_key (S, v) (edit_of e w (Path ++ us)) ≡ Ok c → Within Rows (S, v) Path (change Rows is_key q (edit_of e w us)) c
      by (E.Set n) [] ok rest makes =
          record { new = w; is = refl; made = ok_same _ _ (sym (parts_are_set Rows is_key (S, v) q Path w at_q) ∙ ap (λ us. change Rows is_key (S, v) (set_at us w)) (sym (append-nil Path)) ∙ makes) }
      by (E.Insert n) [] ok rest makes = absurd ok
      by E.Delete [] ok rest makes = absurd ok
      by e (s ∷ ss) ok rest makes = rest s ss refl

    pub brings : BringsHeld h Rows was q path edit w
    brings = by edit path ended x.brings where
      by : (e : PartEdit) (us : List (List ℕ)) → HasEnd e us → BringsHeld h Rows was (S, v) (Path ++ us) e w → BringsHeld h Rows was q us e w
      by (E.Set n) us ok b = λ slot new. b slot (set_moves Rows is_key level.schema level.keys (S, v) q Path us w typed_v at_q ∙ new)
      by (E.Insert n) [] ok b = absurd ok
      by (E.Insert n) (s ∷ ss) ok b = λ slot new. b slot (ins_moves Rows is_key level.schema level.keys (S, v) q Path s ss w at_q ∙ new)
      by E.Delete us ok b = tt

    brings_typed : Brings Rows (OfType Rows) q (edit_of edit w path)
    brings_typed = by edit brings where
      by : (e : PartEdit) → BringsHeld h Rows was q path e w → Brings Rows (OfType Rows) q (edit_of e w path)
      by (E.Set n) b = λ slot new. let y = b slot new in (y.room, y.held.fits)
      by (E.Insert n) b = λ slot new. let y = b slot new in (y.room, y.held.fits)
      by E.Delete b = tt

    brings_nodes : Brings Rows (HasNodes (block_at was) h Rows) q (edit_of edit w path)
    brings_nodes = by edit brings where
      by : (e : PartEdit) → BringsHeld h Rows was q path e w → Brings Rows (HasNodes (block_at was) h Rows) q (edit_of e w path)
      by (E.Set n) b = λ slot new. (b slot new).held.held
      by (E.Insert n) b = λ slot new. (b slot new).held.held
      by E.Delete b = tt

    -- in the block
    module _ (inside : in_one_block Rows q path ≡ true) (texts : AllByRecursion IsUtf8 path) where
      abbrev New : Value
      New = changed.new

      texts_of : AllByRecursion IsUtf8 (path_of (edit_of edit w path))
      texts_of = subst (λ us. AllByRecursion IsUtf8 us) (sym (path_is edit w path)) texts

      inside_of : in_one_block Rows q (path_of (edit_of edit w path)) ≡ true
      inside_of = ap (in_one_block Rows q) (path_is edit w path) ∙ inside

      pub typed : OfType Rows q.0 New
      typed = edits_keep_types Rows is_key level.schema level.keys q (edit_of edit w path) New texts_of brings_typed typed_q changed.is

      abbrev Own : (d : Data) × (represented (whole h) Rows q.0 changed.new ≡ Some d) × Fits Rows less q.0 changed.new
      Own = own c changed.new u typed changed.made x.tree x.fits

      pub inner_change : IsInnerChange h Rows was S v hops q less path c Own.0
      inner_change = record {
        new = New;
        held = held_edits (block_at was) h Rows is_key level.schema level.keys less q held_q.0 Own.0 (edit_of edit w path) New texts_of brings_typed brings_nodes held_q.1 inside_of changed.is Own.2 Own.1;
        made = changed.made;
        inside = ap (in_one_block Rows (q.0, New)) (sym (path_is edit w path))
            ∙ edits_stay Rows is_key level.schema level.keys q (edit_of edit w path) New texts_of brings_typed typed_q inside_of changed.is;
      }

      -- ---- of the front

      abbrev NewPart : Value
      NewPart = part_front h Rows (new_slot Rows q (edit_of edit w path)) w

      front_edit : edit_front h Rows (new_slot Rows q (edit_of edit w path)) (edit_of edit w path) ≡ edit_of edit NewPart path
      front_edit = by edit (new_slot Rows q (edit_of edit w path)) where
        by : (e : PartEdit) (o : Option Slot) → edit_front h Rows o (edit_of e w path) ≡ edit_of e (part_front h Rows o w) path
        by (E.Set n) o = refl
        by (E.Insert n) o = refl
        by E.Delete o = refl

      makes_front : change Rows is_key (front_in h Rows q) (edit_of edit NewPart path) ≡ Ok (front h Rows q.0 New)
      makes_front =
          ap (change Rows is_key (front_in h Rows q)) (sym front_edit)
          ∙ edits_of_fronts h Rows is_key level.schema level.keys q (edit_of edit w path) New texts_of brings_typed typed_q inside_of changed.is

      part_of : (slot : Slot) (n : Node) → IsPartHeld h Rows was slot n w → IsPartItem Rows slot n (front h Rows slot w)
      part_of slot n y =
          let z = fronts_are_fronts h Rows level.schema y.room slot w y.tree y.safe y.held.fits y.held.tree in
          record { fits = (y.room, z.fits); tree = y.tree; tree_is = z.tree; stands = y.stands }

      brings_front : BringsPart Rows (front_in h Rows q) path edit NewPart
      brings_front = by edit brings where
        by : (e : PartEdit) → BringsHeld h Rows was q path e w → BringsPart Rows (front_in h Rows q) path e (part_front h Rows (new_slot Rows q (edit_of e w path)) w)
        by (E.Set n) b = λ slot new.
            let e = sym (set_of_front Rows is_key level.schema level.keys h q path (part_front h Rows (new_slot Rows q (set_at path w)) w) w typed_q inside) ∙ new in
            subst (λ o. IsPartItem Rows slot n (part_front h Rows o w)) (sym e) (part_of slot n (b slot e))
        by (E.Insert n) b = λ slot new.
            let e = sym (ins_of_front Rows is_key level.schema level.keys h q path (part_front h Rows (new_slot Rows q (ins_at path w)) w) w typed_q inside) ∙ new in
            subst (λ o. IsPartItem Rows slot n (part_front h Rows o w)) (sym e) (part_of slot n (b slot e))
        by E.Delete b = tt

      pub edits : (view : View) → IsInner h Rows q held_q.0 view → EditsPart is_key view path edit (front h Rows q.0 q.1) NewPart (front h Rows q.0 New) held_q.0 Own.0
      edits view is = record {
        keys = subst (λ r. TestsKeys r is_key) (sym is.table) level.keys;
        root = is.root;
        brings = subst (λ r. BringsPart r (slot_of view, front h Rows q.0 q.1) path edit NewPart) (sym is.table) (subst (λ r. BringsPart Rows (r, front h Rows q.0 q.1) path edit NewPart) (sym is.slot) brings_front);
        makes = subst (λ r. change r is_key (slot_of view, front h Rows q.0 q.1) (edit_of edit NewPart path) ≡ Ok (front h Rows q.0 New)) (sym is.table)
            (subst (λ r. change Rows is_key (r, front h Rows q.0 q.1) (edit_of edit NewPart path) ≡ Ok (front h Rows q.0 New)) (sym is.slot) makes_front);
        shown = subst (λ r. represented alone r (slot_of view) (front h Rows q.0 New) ≡ Some Own.0) (sym is.table)
            (subst (λ r. represented alone Rows r (front h Rows q.0 New) ≡ Some Own.0) (sym is.slot) (fronts_represent h Rows q.0 New ∙ Own.1));
      }

      pub inner_made : (r : Result (List ℕ) HamtFault) → MakesRoot (spell Own.0) r → MakesInner h Rows was S v hops q less path c r
      inner_made r made = record { tree = Own.0; change = inner_change; made = made }

  -- ---- the whole

  module _ (path : List (List ℕ)) (c : Value) (u d : Data) (x : IsInnerChange h Rows was S v hops q less path c d) (tree : represented (whole h) Rows S c ≡ Some u) (fits : Fits Rows deepest S c) where
    there_now : at Rows (S, c) Path ≡ Some (q.0, x.new)
    there_now = there c x.new u (less, x.held.fits) x.made tree fits

    met_more : blocks_met h Rows (S, c) Path ≤ blocks_met h Rows (S, c) (Path ++ path)
    met_more =
        let a = ways_split Rows (λ r k. met_in h Rows (form_of Rows r.0) r.1 k) (S, c) (q.0, x.new) Path path there_now in
        omega (arith, a)

    -- the path meets no more nodes behind the hops
    met_same : nodes_met h Rows (S, c) (Path ++ path) ≡ nodes_met h Rows (S, c) Path
    met_same =
        nodes_split h Rows (S, c) (q.0, x.new) Path path there_now
        ∙ ap (λ ns. nodes_met h Rows (S, c) Path ++ ns) (none_in_one_block h Rows (q.0, x.new) path x.inside)
        ∙ append-nil (nodes_met h Rows (S, c) Path)

    pub new_end : (b : List ℕ) → (b ≡ spell d) × (length b ≤ longest_block) → IsNewEnd h is_key was deepest v t root hops x.new u b
    new_end b made = record {
      level = level;
      q = q;
      less = less;
      leads = leads;
      around = less;
      d = d;
      comes = x.held;
      spelled = made.0;
      short = made.1;
      fits = subst (Fits Rows deepest S) (sym x.made) fits;
      tree = subst (λ y. represented (whole h) Rows S y ≡ Some u) (sym x.made) tree;
    }

    pub whole_done : (m n : Moment) (r : Result (List ℕ) HamtFault) → EditsWhole h Rows S (with_end Rows S v hops x.new) u Path m r n → EditsWhole h Rows S c u (Path ++ path) m r n
    whole_done m n r y =
        let z : EditsWhole h Rows S c u Path m r n = subst (λ a. EditsWhole h Rows S a u Path m r n) x.made y in
        record {
          answer = z.answer;
          later = z.later;
          adds = z.adds;
          puts = let a = z.puts in omega (arith, a, met_more);
          given = subst (λ ns. IfOk r (λ b. IfTold n.given (AreIdsGiven (spell u ∷ ns)))) (sym met_same) z.given;
        }

    failed : (m : Moment) (e : HamtFault) → MakesRoot (spell d) (Err e) → WholeAnswer h Rows S c u m (Err e) m
    failed m F.Size is = inr (record { tree = d; part = record { path = Path; part = (q.0, x.new); at = there_now; tree = x.held.tree }; long = is })
    failed m F.Memory is = tt
    failed m F.Store is = absurd is
    failed m F.Exhausted is = absurd is
    failed m F.NoKey is = absurd is
    failed m (F.Block id why) is = absurd is
    failed m (F.Clash id kept new) is = absurd is

    pub whole_failed : (m : Moment) (e : HamtFault) → MakesRoot (spell d) (Err e) → EditsWhole h Rows S c u (Path ++ path) m (Err e) m
    whole_failed m e is = record {
      answer = failed m e is;
      later = Later-refl m;
      adds = told-same m.blocks m.blocks (AddsBlocks h Rows S c u) refl (λ a. record { came = λ id b there. inl there });
      puts = omega arith;
      given = tt;
    }
