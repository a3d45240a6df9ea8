-- An entry of a HAMT in a block is set, or goes.
use Rattle.std.proofs.Common.{◌≡◌, ◌⊎◌, inl, inr, ⊎_elim, ℕ, ◌+◌, ◌≤◌, Bool, true, List, [], ◌∷◌, ◌++◌, length, Some, refl, ap, sym, ◌∙◌, subst, arith}
use Rattle.std.specs.Prelude.{IfOk, Result, Ok, Err}
use Rattle.std.specs.FinMap.{put as insert}
use Rattle.ild_edges.specs.Gained.{AreIdsGiven}
use Rattle.ild_path_outward.proofs.Carrying.{met_one}
use Rattle.ild_data.specs.ByteOrder.{bytewise}
use Rattle.std.proofs.lemmas.Bool.{ltb-true}
use Rattle.ild_cbor.specs.declared.node.Node.{Node}
use Rattle.ild_data.specs.Data.{Data}
use Rattle.ild_data.specs.Limits.{longest_block}
use Rattle.ild_data.specs.Spell.{spell}
use Rattle.ild_data.specs.TrieShape.{trie_levels}
use Rattle.ild_data.specs.declared.hamt_shape.HamtShape.{HamtShape}
use Rattle.ild_edges.specs.Store.{Moment}
use Rattle.ild_edges.specs.Told.{IfTold}
use Rattle.ild_edges.proofs.Later.{Later-refl}
use Rattle.ild_bulk.specs.Build.{any_long, is_long}
use Rattle.ild_bulk.proofs.Puts.{told-same}
use Rattle.ild_schema.specs.declared.number.Slot.{Slot}
use Rattle.ild_schema.specs.declared.row.Row.{Row}
use Rattle.ild_schema.specs.Slots.{form_of}
use Rattle.ild_schema.specs.Value.{Value}
use Rattle.ild_node_slots.specs.declared.fault.HamtFault.{HamtFault}
use Rattle.ild_node_slots.specs.declared.fault.HamtFault.TheVariants as F
use Rattle.ild_hamt_trie.specs.Way.{way}
use Rattle.ild_typed.specs.At.{InSlot, at, met}
use Rattle.ild_typed.specs.Blocks.{nodes}
use Rattle.ild_typed.specs.Hamt.{whole}
use Rattle.ild_typed.specs.OfType.{OfType, TestsKeys}
use Rattle.ild_typed.specs.Represented.{represented}
use Rattle.ild_typed.specs.Schema.{IsSchema}
use Rattle.ild_typed.specs.Segment.{part}
use Rattle.ild_view.specs.View.{slot_of, table_of}
use Rattle.ild_view.specs.declared.view.View.{View}
use Rattle.ild_hamt.specs.declared.trail.Trail.{Trail}
use Rattle.ild_path_block.specs.Edits.{IsRootView}
use Rattle.ild_path_within.specs.Within.{with_part}
use Rattle.ild_path_within.proofs.Splitting.{ways_split}
use Rattle.ild_typed_fronts.specs.Front.{front as showing, in_one_block}
use Rattle.ild_path_way.specs.Way.{nodes_for, nodes_met}
use Rattle.ild_path_way.proofs.Splitting.{nodes_split, none_in_one_block}
use Rattle.ild_path_way.proofs.Staying.{blocks_stay}
use Rattle.ild_path_entered.proofs.Editing.{sets_stand}
use Rattle.ild_path_reroot.specs.Reroots.{AddsNodes}
use Rattle.ild_path_reroot.proofs.Among.{long_any, long_one}
use Rattle.ild_path_outward.specs.Level.{IsCutThere, IsLevel, IsSetThere, LevelAnswer, SetsLevel, with_set}
use Rattle.ild_path_outward.specs.Outward.{EndAnswer, SetsEnd}
use Rattle.ild_path_outward.proofs.Counting.{one_met}
use Rattle.ild_path_sizes.specs.Long.{HasLongPart, IsDataOfPart}
use Rattle.ild_script_meaning.specs.Costs.{blocks_met, met_in}
use Rattle.ild_path_ends.specs.inside.AtKey.{IsKeyCut, IsKeyLevel, IsKeySet, SetsKey}

-- ---- in the block of a view

module _ (h : List ℕ → List ℕ) (is_key : ℕ → List ℕ → Bool) (was : List (List ℕ)) (front : List (List ℕ)) (k : List ℕ) (found : Trail) (view : View) where
  pub key_level : (x : IsKeyLevel h is_key (table_of view) (slot_of view) was front k found) → IsRootView view (showing h (table_of view) (slot_of view) x.v) x.t → IsLevel h is_key was x.less x.v x.t view
  key_level x root = record { schema = x.schema; keys = x.keys; held = x.held; root = root }

  abbrev pub key_set : (n : Node) (x : IsKeySet h is_key (table_of view) (slot_of view) was front k found n)
      → IsSetThere h is_key was x.level.less x.level.v view front x.level.key.slot x.level.key.elem x.level.key.ps x.level.key.es k x.w x.d x.u found
  key_set n x = record {
    entered = x.level.key.entered;
    root = x.level.key.root;
    data_is = x.level.key.data_is;
    trie = x.level.key.trie;
    trail = x.level.key.trail;
    utf8 = x.level.key.utf8;
    key = x.fitting;
    less = x.around;
    new = x.comes;
    fits = x.fits;
    tree = x.tree;
  }

  abbrev pub key_cut : (x : IsKeyCut h is_key (table_of view) (slot_of view) was front k found) → IsCutThere h is_key was x.level.less x.level.v view front x.level.key.slot x.level.key.elem x.level.key.ps x.level.key.es k x.u found
  key_cut x = record {
    entered = x.level.key.entered;
    root = x.level.key.root;
    data_is = x.level.key.data_is;
    trie = x.level.key.trie;
    trail = x.level.key.trail;
    utf8 = x.level.key.utf8;
    there = x.there;
    fits = x.fits;
    tree = x.tree;
  }

-- nothing was done
pub level_none : (h : List ℕ → List ℕ) (p : HamtShape) (rows : List Row) (room : ℕ) (s : Slot) (c : Value) (u : Data) (k : List ℕ) (es : List (List ℕ × Data)) (m : Moment) → represented (whole h) rows s c ≡ Some u → SetsLevel h p rows room s c u k es m (Err F.Memory) m
level_none h p rows room s c u k es m tree = record {
  hamt = u;
  part = record { path = []; part = (s, c); at = refl; tree = tree };
  answer = tt;
  later = Later-refl m;
  adds = told-same m.blocks m.blocks (AddsNodes h rows s c) refl (λ a. record { came = λ id b e. inl e });
  puts = omega arith;
  given = tt;
}

-- ---- the level as the end of a path

module _ (h : List ℕ → List ℕ) (rows : List Row) (room : ℕ) (s : Slot) (c : Value) (u : Data) (tree : represented (whole h) rows s c ≡ Some u) (m n : Moment) where
  long_part : (d : Data) → IsDataOfPart h rows (s, c) d → is_long (spell d) ≡ true → HasLongPart h rows (s, c)
  long_part d part long = record { tree = d; part = part; long = ltb-true longest_block (length (spell d)) long }

  too_long : (d : Data) → IsDataOfPart h rows (s, c) d → any_long (spell u ∷ spell d ∷ nodes h rows s c) ≡ true → (any_long (nodes h rows s c) ≡ true) ⊎ HasLongPart h rows (s, c)
  too_long d part is =
      let z = long_one (spell u ∷ spell d ∷ nodes h rows s c) is in
      ⊎_elim (λ same. inr (long_part u (record { path = []; part = (s, c); at = refl; tree = tree }) (subst (λ b. is_long b ≡ true) same z.2)))
      (⊎_elim (λ same. inr (long_part d part (subst (λ b. is_long b ≡ true) same z.2))) (λ more. inl (long_any z.0 (nodes h rows s c) more z.2))) z.1

  end_answer : (d : Data) → IsDataOfPart h rows (s, c) d → (r : Result (List ℕ) HamtFault) → LevelAnswer h rows room s c u d m r n → EndAnswer h rows room s c u m r n
  end_answer d part (Ok b) is = is
  end_answer d part (Err F.Size) is = too_long d part is
  end_answer d part (Err F.Store) is = is
  end_answer d part (Err F.Memory) is = tt
  end_answer d part (Err (F.Clash id kept new)) is = is
  end_answer d part (Err F.Exhausted) is = absurd is
  end_answer d part (Err F.NoKey) is = absurd is
  end_answer d part (Err (F.Block id why)) is = absurd is

  pub level_end : (p : HamtShape) (path : List (List ℕ)) (k : List ℕ) (es : List (List ℕ × Data)) (r : Result (List ℕ) HamtFault) → 1 + length (way h p k (trie_levels p) 0 es) ≤ blocks_met h rows (s, c) path
      → nodes_met h rows (s, c) path ≡ way h p k (trie_levels p) 0 es → SetsLevel h p rows room s c u k es m r n → SetsEnd h rows room s c u path m r n
  level_end p path k es r few met x = record {
    answer = end_answer x.hamt x.part r x.answer;
    later = x.later;
    adds = x.adds;
    puts = let a = x.puts in omega (arith, a, few);
    given = subst (λ bs. IfOk r (λ b. IfTold n.given (AreIdsGiven bs))) (sym met) x.given;
  }

-- what is met on the way of the path and the key, where the map there has become another
pub met_at_key : (h : List ℕ → List ℕ) (rows : List Row) (is_key : ℕ → List ℕ → Bool) (schema : IsSchema rows) (keys : TestsKeys rows is_key) (p : InSlot) (front : List (List ℕ)) (slot : Slot) (old new : Value) (k : List ℕ) (few : ℕ)
    → OfType rows p.0 p.1 → at rows p front ≡ Some (slot, old) → OfType rows slot new → met_in h rows (form_of rows slot) new k ≡ few → 1 + few ≤ blocks_met h rows (p.0, with_part rows p front new) (front ++ (k ∷ []))
met_at_key h rows is_key schema keys p front slot old new k few typed there typed_new counted =
    let count : InSlot → List ℕ → ℕ = λ r s. met_in h rows (form_of rows r.0) r.1 s in
    let here = (sets_stand rows is_key schema keys p (slot, old) front new typed there typed_new).0 in
    let split = ways_split rows count (p.0, with_part rows p front new) (slot, new) front (k ∷ []) here in
    let last = met_one rows count (slot, new) k in
    omega (arith, split, last, counted)

-- and which nodes these are
pub nodes_at_key : (h : List ℕ → List ℕ) (rows : List Row) (is_key : ℕ → List ℕ → Bool) (schema : IsSchema rows) (keys : TestsKeys rows is_key) (p : InSlot) (front : List (List ℕ)) (slot : Slot) (old new : Value) (k : List ℕ) (bs : List (List ℕ))
    → OfType rows p.0 p.1 → in_one_block rows p front ≡ true → at rows p front ≡ Some (slot, old) → OfType rows slot new → nodes_for h rows (form_of rows slot) new k ≡ bs
    → nodes_met h rows (p.0, with_part rows p front new) (front ++ (k ∷ [])) ≡ bs
nodes_at_key h rows is_key schema keys p front slot old new k bs typed inside there typed_new met =
    let c = with_part rows p front new in
    let here = (sets_stand rows is_key schema keys p (slot, old) front new typed there typed_new).0 in
    nodes_split h rows (p.0, c) (slot, new) front (k ∷ []) here
    ∙ ap (λ ns. ns ++ nodes_met h rows (slot, new) (k ∷ [])) (none_in_one_block h rows (p.0, c) front (blocks_stay rows is_key schema keys p (slot, old) front new typed inside there typed_new))
    ∙ one_met h rows (slot, new) k
    ∙ met

pub set_none : (h : List ℕ → List ℕ) (rows : List Row) (s : Slot) (view : View) (front : List (List ℕ)) (found : Trail) (n : Node) (m : Moment) → SetsKey h rows s view front found n m (Err F.Memory) m
set_none h rows s view front found n m = λ is_key was k told x root.
    level_none h x.level.key.entered.hamt.3 rows x.level.less s (with_set rows s x.level.v front x.level.key.ps k x.w) x.u k (insert bytewise k x.d x.level.key.es) m x.tree
