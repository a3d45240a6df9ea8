-- An entry of a HAMT in a block goes, and then the HAMT is set in the block.
use Rattle.std.proofs.Common.{◌≡◌, inl, inr, ⊎_elim, ℕ, Bool, true, List, ◌∷◌, length, Some, sym, ap, ◌∙◌, subst}
use Rattle.std.specs.Prelude.{Result, Ok, Err, option_map}
use Rattle.std.specs.Option.{option_map_or}
use Rattle.std.proofs.lemmas.Option.{same_Some}
use Rattle.std.proofs.lemmas.Bool.{lt-ltb}
use Rattle.ild_cbor.specs.Nodes.{HasData}
use Rattle.ild_cbor.specs.declared.node.Node.{Node}
use Rattle.ild_data.specs.Among.{AreAmong}
use Rattle.ild_data.specs.ByteOrder.{without as remove}
use Rattle.ild_data.specs.Data.{Data}
use Rattle.ild_data.specs.Limits.{longest_block}
use Rattle.ild_data.specs.Spell.{spell}
use Rattle.ild_data.specs.Tree.{IsTree}
use Rattle.ild_edges.specs.Store.{Moment, Keeps, block_at}
use Rattle.ild_edges.specs.Told.{BothTold}
use Rattle.ild_bulk.proofs.Puts.{told-map}
use Rattle.ild_bulk.specs.Build.{any_long}
use Rattle.ild_schema.specs.Clear.{IsSafe}
use Rattle.ild_schema.specs.DataKinds.{kind_in}
use Rattle.ild_schema.specs.declared.def.KindWord.TheVariants as K
use Rattle.ild_schema.specs.declared.number.Slot.{Slot}
use Rattle.ild_schema.specs.declared.row.Row.{Row}
use Rattle.ild_schema.specs.Slots.{form_of}
use Rattle.ild_schema.specs.Value.{Value, Pairs, map, hamt}
use Rattle.ild_node_slots.specs.declared.fault.HamtFault.{HamtFault}
use Rattle.ild_node_slots.specs.declared.fault.HamtFault.TheVariants as F
use Rattle.ild_typed.specs.At.{at, reached, here}
use Rattle.ild_typed.specs.Fits.{Fits}
use Rattle.ild_typed.specs.Blocks.{nodes}
use Rattle.ild_typed.specs.Hamt.{whole}
use Rattle.ild_typed.specs.OfType.{OfType}
use Rattle.ild_typed.specs.Represented.{represented}
use Rattle.ild_typed.specs.Slots.{element_of}
use Rattle.ild_typed.proofs.TreeValues.{whole_tree}
use Rattle.ild_path_block.specs.Edits.{EditsPart, IsPartItem}
use Rattle.ild_path_block.specs.declared.edit.PartEdit.TheVariants as E
use Rattle.ild_hamt.specs.declared.trail.Trail.{Trail}
use Rattle.ild_open_held.specs.Held.{IsHeld}
use Rattle.ild_view.specs.Reaches.{Reaches}
use Rattle.ild_view.specs.declared.step.Step.TheVariants as St
use Rattle.ild_view.specs.View.{IsView, slot_of, table_of}
use Rattle.ild_view.specs.declared.view.View.{View}
use Rattle.ild_path_within.proofs.Splitting.{parts_are_set}
use Rattle.ild_typed_fronts.specs.Front.{front, front_in, is_hamt, root_of, root_or_map, fronts_of_pairs}
use Rattle.ild_typed_fronts.proofs.Pathing.{paths_of_fronts, wholes_of_fronts}
use Rattle.ild_typed_fronts.proofs.Representing.{fronts_represent, fronts_are_fronts}
use Rattle.ild_path_nodes.proofs.Changing.{nodes_of_parts}
use Rattle.ild_path_held.specs.HeldEdits.{room_at}
use Rattle.ild_path_held.proofs.Holding.{held_parts, held_stays, held_wholes}
use Rattle.ild_path_entered.specs.Entered.{without_entry}
use Rattle.ild_path_entered.proofs.Editing.{sets_stand, sets_have_data}
use Rattle.ild_path_entered.proofs.Holding.{cut_typed}
use Rattle.ild_path_reroot.specs.Reroots.{AddsNodes, EditAnswer, EditsHamt, IsHamtHeld, IsCut, MakesRoot}
use Rattle.ild_path_reroot.proofs.Coming.{IsPartOf, adds_whole}
use Rattle.ild_path_reroot.proofs.Among.{among_of, long_root, long_one, long_any}
use Rattle.ild_path_hop.specs.Levels.{IsLevel, IsCutThere, LevelAnswer, SetsLevel, with_cut}
use Rattle.ild_path_sizes.specs.Long.{IsDataOfPart}
use Rattle.ild_path_block.proofs.Allowing.{view_of}
use Rattle.ild_path_hop.proofs.Leveling.{reached_at, slot_of_path, still_given, told_here}

-- ---- one level

module _ (h : List ℕ → List ℕ) (is_key : ℕ → List ℕ → Bool) (was : List (List ℕ)) (room : ℕ) (v : Value) (t u : Data) (view : View) (path : List (List ℕ)) (slot elem : Slot) (ps : Pairs) (es : List (List ℕ × Data)) (k : List ℕ) (found : Trail)
    (level : IsLevel h is_key was room v t view) (set : IsCutThere h is_key was room v view path slot elem ps es k u found) where
  abbrev Rows : List Row
  Rows = table_of view

  abbrev S : Slot
  S = slot_of view

  abbrev M : Value
  M = without_entry k ps

  abbrev C : Value
  C = with_cut (table_of view) (slot_of view) v path ps k

  abbrev pub Less : ℕ
  Less = room_at (table_of view) room (slot_of view, v) path

  typed_v : OfType Rows S v
  typed_v = (room, level.held.fits)

  pub old_held : IsHeld (block_at was) h Rows Less slot set.root (map ps)
  old_held =
      let x = held_parts (block_at was) h Rows is_key level.schema level.keys room (S, v) (slot, map ps) t path level.held set.entered.at in
      subst (λ y. IsHeld (block_at was) h Rows Less slot y (map ps)) (same_Some x.0 set.root (sym x.1.tree ∙ set.data_is)) x.1

  typed_m : OfType Rows slot M
  typed_m = cut_typed Rows is_key level.schema level.keys slot elem ps set.entered.hamt (Less, old_held.fits) k set.there

  pub own : (x : Data) × (represented (whole h) Rows slot M ≡ Some x) × Fits Rows Less slot M
  own = sets_have_data h Rows is_key level.schema level.keys room (S, v) (slot, map ps) path M u typed_v set.entered.at typed_m set.tree set.fits

  abbrev pub X : Data
  X = own.0

  abbrev pub hamt_held : IsHamtHeld h Rows was slot elem set.root ps es k found
  hamt_held = record { schema = level.schema; hamt = set.entered.hamt; before = Less; held = old_held; trie = set.trie; utf8 = set.utf8; trail = set.trail }

  pub hamt_cut : IsCut h Rows slot Less ps k X
  hamt_cut = record { there = set.there; fits = own.2; tree = own.1 }

  pub tree_x : IsTree X
  tree_x = (whole_tree h Rows level.schema.table.texts.spelled Less slot M X own.2 own.1).tree

  -- the front
  front_at : at Rows (S, front h Rows S v) path ≡ Some (slot, front h Rows slot (map ps))
  front_at = paths_of_fronts h Rows is_key level.schema level.keys (S, v) path typed_v set.entered.inside ∙ ap (option_map (front_in h Rows)) set.entered.at

  front_hamt : front h Rows slot (map ps) ≡ hamt set.root
  front_hamt =
      ap (λ o. root_or_map (is_hamt o) (represented (whole h) Rows slot (map ps)) (option_map_or (λ r. fronts_of_pairs h Rows r ps) (element_of (form_of Rows slot)) ps)) set.entered.hamt.4
      ∙ ap root_of set.data_is

  pub reached_hamt : reached Rows 0 (S, front h Rows S v) path ≡ here (slot, hamt set.root)
  reached_hamt = reached_at Rows 0 path (S, front h Rows S v) (slot, front h Rows slot (map ps)) front_at ∙ ap (λ y. here (slot, y)) front_hamt

  pub root_view : IsView view (front h Rows S v)
  root_view = view_of view (front h Rows S v) t level.root

  -- so the path leads to a view of the HAMT
  pub hamt_view : (y : View) → Reaches Rows (reached Rows 0 (S, front h Rows S v) path) (Ok (St.Here y)) → IsView y (hamt set.root)
  hamt_view y is = (subst (λ r. Reaches Rows r (Ok (St.Here y))) reached_hamt is).view

  safe_hamt : IsSafe Rows slot
  safe_hamt = λ nullable. ap (λ o. kind_in o K.Null) set.entered.hamt.4

  pub edits : (n : Node) → HasData n X → EditsPart is_key view path (E.Set n) (front h Rows S v) (front h Rows slot M) (front h Rows S C) t u
  edits n stands =
      let f = front h Rows S v in
      let typed_f : OfType Rows S f = (level.root.room, level.root.front.fits) in
      let x = fronts_are_fronts h Rows level.schema Less slot M X safe_hamt own.2 own.1 in
      let is : IsPartItem Rows slot n (front h Rows slot M) = record { fits = (Less, x.fits); tree = X; tree_is = x.tree; stands = stands } in
      record {
        keys = level.keys;
        root = level.root;
        brings = λ r new. subst (λ y. IsPartItem Rows y n (front h Rows slot M)) (same_Some slot r (sym (slot_of_path Rows is_key level.schema level.keys path (S, f) (slot, front h Rows slot (map ps)) (front h Rows slot M) typed_f front_at) ∙ new)) is;
        makes = parts_are_set Rows is_key (S, f) (slot, front h Rows slot (map ps)) path (front h Rows slot M) front_at
            ∙ ap (λ c. Ok c) (wholes_of_fronts h Rows is_key level.schema level.keys (S, v) (slot, map ps) path M typed_v set.entered.inside set.entered.at typed_m);
        shown = fronts_represent h Rows S C ∙ set.tree;
      }

  -- what becomes of the whole
  there : at Rows (S, C) path ≡ Some (slot, M)
  there = (sets_stand Rows is_key level.schema level.keys (S, v) (slot, map ps) path M typed_v set.entered.at typed_m).0

  among : AreAmong (nodes h Rows slot M) (nodes h Rows S C)
  among = nodes_of_parts h Rows is_key level.schema level.keys (S, C) (slot, M) path (room, set.fits) there

  is_part : IsPartOf h Rows (S, C) (slot, M)
  is_part = record { path = path; there = there; among = among }

  part : IsDataOfPart h Rows (S, C) X
  part = record { path = path; part = (slot, M); at = there; tree = own.1 }

  module _ (m n : Moment) (told : m.blocks ≡ Some was) where
    long : any_long (spell X ∷ nodes h Rows slot M) ≡ true → any_long (spell u ∷ spell X ∷ nodes h Rows S C) ≡ true
    long is =
        let y = long_one (spell X ∷ nodes h Rows slot M) is in
        long_any y.0 (spell u ∷ spell X ∷ nodes h Rows S C) (⊎_elim (λ same. inr (inl same)) (λ more. inr (inr (among_of y.0 (nodes h Rows slot M) (nodes h Rows S C) among more))) y.1) y.2

    added : BothTold m.blocks n.blocks (AddsNodes h Rows slot M) → BothTold m.blocks n.blocks (AddsNodes h Rows S C)
    added adds =
        told-map m.blocks n.blocks (AddsNodes h Rows slot M) (AddsNodes h Rows S C) (λ a b x. adds_whole h Rows (S, C) (slot, M) is_part a b x) adds

    failed : (e : HamtFault) → EditAnswer h Rows Less slot M X m (Err e) n → LevelAnswer h Rows room S C u X m (Err e) n
    failed F.Exhausted is = absurd is
    failed F.NoKey is = absurd is
    failed F.Size is = long is
    failed F.Memory is = tt
    failed F.Store is = is
    failed (F.Block id why) is = absurd is
    failed (F.Clash id kept new) is = (among_of new (nodes h Rows slot M) (nodes h Rows S C) among is.0, is.1, is.2)

    pub level_failed : (e : HamtFault) → EditsHamt h set.entered.hamt.3 Rows slot Less k (remove k es) M X m (Err e) n → SetsLevel h set.entered.hamt.3 Rows room S C u k (remove k es) m (Err e) n
    level_failed e x = record { hamt = X; part = part; answer = failed e x.answer; later = x.later; adds = added x.adds; puts = x.puts; given = tt }

    done : (root : List ℕ) → EditsHamt h set.entered.hamt.3 Rows slot Less k (remove k es) M X m (Ok root) n → (r : Result (List ℕ) HamtFault) → MakesRoot (spell u) r → LevelAnswer h Rows room S C u X m r n
    done root x (Ok b) makes = (
      makes.0,
      makes.1,
      told_here m.blocks n.blocks was Keeps (λ now. IsHeld (block_at now) h Rows Less slot X M) (λ now. IsHeld (block_at now) h Rows room S u C) told
          (λ now keeps new. held_wholes (block_at now) h Rows is_key level.schema level.keys room Less (S, v) (slot, map ps) t X u path M (held_stays h Rows was now room S t v keeps level.held) set.entered.inside set.entered.at new set.fits set.tree)
          x.later.keeps x.answer.2,
    )
    done root x (Err F.Size) makes = long_root (spell u) (spell X ∷ nodes h Rows S C) (lt-ltb longest_block (length (spell u)) makes)
    done root x (Err F.Memory) makes = tt
    done root x (Err F.Exhausted) makes = absurd makes
    done root x (Err F.NoKey) makes = absurd makes
    done root x (Err F.Store) makes = absurd makes
    done root x (Err (F.Block id why)) makes = absurd makes
    done root x (Err (F.Clash id kept new)) makes = absurd makes

    pub level_done : (root : List ℕ) → EditsHamt h set.entered.hamt.3 Rows slot Less k (remove k es) M X m (Ok root) n → (r : Result (List ℕ) HamtFault) → MakesRoot (spell u) r → SetsLevel h set.entered.hamt.3 Rows room S C u k (remove k es) m r n
    level_done root x r makes = record { hamt = X; part = part; answer = done root x r makes; later = x.later; adds = added x.adds; puts = x.puts; given = still_given h set.entered.hamt.3 k (remove k es) root r n x.given }
