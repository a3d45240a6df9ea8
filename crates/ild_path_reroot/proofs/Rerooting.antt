-- What a rewritten way leaves of a HAMT.
use Rattle.std.proofs.Common.{◌≡◌, inl, inr, ⊎_elim, ℕ, ◌+◌, ◌≤◌, true, false, List, ◌∷◌, length, Option, Some, None, sym, ap, ◌∙◌, subst, arith}
use Rattle.std.specs.Prelude.{Result, Ok, Err, is_some}
use Rattle.std.specs.FinMap.{find, put as insert}
use Rattle.std.proofs.lemmas.Bool.{or_cases, ltb-true, lt-ltb}
use Rattle.std.proofs.lemmas.List.{length-reverse}
use Rattle.std.proofs.lemmas.Option.{same_Some}
use Rattle.ild_edges.specs.Gained.{AreIdsGiven}
use Rattle.ild_data.specs.ByteOrder.{bytewise, without as remove}
use Rattle.ild_data.specs.Data.{Data}
use Rattle.ild_data.specs.Key.{value_at}
use Rattle.ild_data.specs.Limits.{longest_block}
use Rattle.ild_data.specs.Spell.{spell}
use Rattle.ild_data.specs.Trie.{TrieSlot}
use Rattle.ild_data.specs.TrieBlocks.{nodes_beneath}
use Rattle.ild_data.specs.TrieShape.{trie_levels}
use Rattle.ild_data.specs.declared.hamt_shape.HamtShape.{HamtShape}
use Rattle.ild_edges.specs.Store.{Moment, Later, Keeps, block_at}
use Rattle.ild_edges.specs.Told.{IfTold, BothTold}
use Rattle.ild_edges.proofs.Later.{Later-refl}
use Rattle.ild_schema.specs.declared.number.Slot.{Slot}
use Rattle.ild_schema.specs.declared.row.Row.{Row}
use Rattle.ild_schema.specs.Value.{Value, Pairs, pairs_list}
use Rattle.ild_node_slots.specs.declared.fault.HamtFault.{HamtFault}
use Rattle.ild_node_slots.specs.declared.fault.HamtFault.TheVariants as F
use Rattle.ild_node_slots.specs.Views.{HasSlots}
use Rattle.ild_node_slots.specs.declared.view.NodeView.{NodeView}
use Rattle.ild_hamt_trie.specs.Way.{way}
use Rattle.ild_typed.specs.Blocks.{nodes}
use Rattle.ild_typed.specs.Hamt.{root_map}
use Rattle.ild_typed.specs.Node.{IsRoot}
use Rattle.ild_typed_places.specs.Places.{places_in}
use Rattle.ild_bulk.specs.Build.{any_long, is_long}
use Rattle.ild_edges.specs.Among.{IsIn}
use Rattle.ild_bulk.specs.Putting.{PutsAll}
use Rattle.ild_bulk.proofs.Puts.{told-map, told-same}
use Rattle.ild_hamt_climb.specs.Rewriting.{HasRoot, IsLongWay, Rewrites, way_up}
use Rattle.ild_bulk_walker.specs.Trees.{HoldsBelow}
use Rattle.ild_hamt.specs.Given.{GivesWay}
use Rattle.ild_hamt.specs.Removing.{Removes}
use Rattle.ild_hamt.specs.Rewriting.{HoldsAfter}
use Rattle.ild_hamt.specs.declared.trail.Trail.{Trail}
use Rattle.ild_hamt.proofs.Beneath.{among-turned, way-beneath}
use Rattle.ild_open_held.specs.Held.{IsHeld}
use Rattle.ild_path_held.specs.Hamts.{IsTrieIn, IsValueOf}
use Rattle.ild_path_held.specs.HeldEdits.{HasTrie}
use Rattle.ild_path_held.proofs.Holding.{held_stays}
use Rattle.ild_path_held.proofs.Shapes.{root_shape}
use Rattle.ild_path_held.proofs.Tries.{hamts_are_put, hamts_are_cut, hamts_have_tries}
use Rattle.ild_view.specs.Roots.{RootAt}
use Rattle.ild_path_entered.specs.Entered.{with_entry, without_entry}
use Rattle.ild_path_reroot.specs.Reroots.{AddsNodes, EditAnswer, EditsHamt, IsCut, IsHamtHeld, IsPut, MakesRoot}
use Rattle.ild_path_children.specs.Ways.{AddsPlaced, WayIn}
use Rattle.ild_path_children.proofs.Leaving.{leave_ways}
use Rattle.ild_path_children.proofs.Mapping.{are_cut, are_put}
use Rattle.ild_path_reroot.proofs.Among.{among_of, long_root, long_one, long_any, root_longer, short_one}

-- v is the HAMT of the new entries, and is held where their nodes are; the nodes of the old entries are held, and the new ones on the
-- way of the key stand over them
pub record Ready (h : List ℕ → List ℕ) (p : HamtShape) (rows : List Row) (was : List (List ℕ)) (s : Slot) (room : ℕ) (v : Value) (x : Data) (k : List ℕ) (es fs : List (List ℕ × Data)) : Type 0 where
  pub has : HasTrie h p rows s v x fs
  pub holds : HoldsBelow h p was (trie_levels p) 0 es
  pub placed : WayIn (places_in h rows s v) was (way h p k (trie_levels p) 0 fs)
  pub made : (now : List (List ℕ)) → Keeps was now → HoldsBelow h p now (trie_levels p) 0 fs → IsHeld (block_at now) h rows room s (root_map p has.node) v

told_now : {A : Type 0} (o q : Option A) (was : A) (P Q : A → A → Type 0) (R : A → Type 0) → o ≡ Some was → ((now : A) → P was now → Q was now → R now) → BothTold o q P → BothTold o q Q → IfTold q R
told_now None q was P Q R is f t u = absurd cc
told_now (Some a) None was P Q R is f t u = absurd t
told_now (Some a) (Some b) was P Q R is f t u = let same : was ≡ a = cc in f b (subst (λ c. P c b) (sym same) t) (subst (λ c. Q c b) (sym same) u)

module _ (h : List ℕ → List ℕ) (p : HamtShape) (rows : List Row) (was : List (List ℕ)) (s : Slot) (room : ℕ) (v : Value) (x : Data) (k : List ℕ) (es fs : List (List ℕ × Data)) (ready : Ready h p rows was s room v x k es fs) (m n : Moment) where
  -- a block of the way is a node of v
  of_way : (b : List ℕ) → IsIn b (way_up h p k fs) → IsIn b (nodes h rows s v)
  of_way b is = among_of b (nodes_beneath h p (trie_levels p) 0 fs) (nodes h rows s v) ready.has.among (way-beneath h p k (trie_levels p) 0 fs b (among-turned b (way h p k (trie_levels p) 0 fs) is))

  pub same_node : (root : List ℕ) → HasRoot h p fs root → root ≡ spell ready.has.node
  same_node root has = has.spelled ∙ ap spell (same_Some has.node ready.has.node (sym has.is ∙ ready.has.is_node))

  long_map : (root : List ℕ) → HasRoot h p fs root → is_long root ≡ true → is_long (spell x) ≡ true
  long_map root has is =
      let node = ready.has.node in
      ap (λ y. is_long (spell y)) ready.has.root ∙ lt-ltb longest_block (length (spell (root_map p node))) (omega (arith, root_longer p node, ltb-true longest_block (length (spell node)) (sym (ap is_long (same_node root has)) ∙ is)))

  too_long : IsLongWay h p k fs → any_long (spell x ∷ nodes h rows s v) ≡ true
  too_long is =
      ⊎_elim (λ here. long_root (spell x) (nodes h rows s v) (long_map is.root is.has here))
      (λ more. let y = long_one (way_up h p k fs) more in long_any y.0 (spell x ∷ nodes h rows s v) (inr (of_way y.0 y.1)) y.2)
      (or_cases (is_long is.root) (any_long (way_up h p k fs)) is.long)

  failed : (e : HamtFault) → Rewrites h p k fs m (Err e) n → EditAnswer h rows room s v x m (Err e) n
  failed F.Exhausted is = absurd is
  failed F.NoKey is = absurd is
  failed F.Size is = too_long is.0
  failed F.Memory is = tt
  failed F.Store is = is.puts.answer
  failed (F.Block id why) is = absurd is.puts.answer
  failed (F.Clash id kept new) is = let a = is.puts.answer in (of_way new a.0, short_one new (is.root ∷ way_up h p k fs) is.short (inr a.0), a.1)

  abbrev Moves : Type 0
  Moves = Later m n × (n.puts ≤ m.puts + length (way h p k (trie_levels p) 0 fs))

  still : n ≡ m → Moves
  still is = (subst (Later m) (sym is) (Later-refl m), let same = ap (λ (y : Moment). y.puts) is in omega (arith, same))

  put_all : (r : Result (Unit {0}) HamtFault) → PutsAll m (way_up h p k fs) r n → Moves
  put_all r puts = (puts.later, let up = puts.puts in omega (arith, length-reverse (way h p k (trie_levels p) 0 fs), up))

  moved : (e : HamtFault) → Rewrites h p k fs m (Err e) n → Moves
  moved F.Exhausted is = absurd is
  moved F.NoKey is = absurd is
  moved F.Size is = still is.1
  moved F.Memory is = ⊎_elim still (λ stops. put_all (Err F.Memory) stops.puts) is
  moved F.Store is = put_all (Err F.Store) is.puts
  moved (F.Block id why) is = put_all (Err (F.Block id why)) is.puts
  moved (F.Clash id kept new) is = put_all (Err (F.Clash id kept new)) is.puts

  module _ (told : m.blocks ≡ Some was) where
    -- where such puts of the way were done
    put_came : (root : List ℕ) (r : Result (Unit {0}) HamtFault) → any_long (root ∷ way_up h p k fs) ≡ false → PutsAll m (way_up h p k fs) r n → BothTold m.blocks n.blocks (AddsNodes h rows s v)
    put_came root r short puts =
        told-map m.blocks n.blocks (AddsPlaced (places_in h rows s v) (way_up h p k fs)) (AddsNodes h rows s v)
        (λ a b x. record {
          came = λ id y held. ⊎_elim (λ before. inl before) (λ new. inr (record { among = of_way y new.0; short = short_one y (root ∷ way_up h p k fs) short (inr new.0); whole = new.1 })) (x id y held);
        }) (leave_ways (places_in h rows s v) was (way h p k (trie_levels p) 0 fs) m n r told ready.placed puts)

    none_came : n ≡ m → BothTold m.blocks n.blocks (AddsNodes h rows s v)
    none_came same = told-same m.blocks n.blocks (AddsNodes h rows s v) (ap (λ (y : Moment). y.blocks) same) (λ a. record { came = λ id b held. inl held })

    added : (r : Result (List ℕ) HamtFault) → Rewrites h p k fs m r n → BothTold m.blocks n.blocks (AddsNodes h rows s v)
    added (Ok root) is = put_came root (Ok tt) is.1 is.2
    added (Err F.Exhausted) is = absurd is
    added (Err F.NoKey) is = absurd is
    added (Err F.Size) is = none_came is.1
    added (Err F.Memory) is = ⊎_elim none_came (λ stops. put_came stops.root (Err F.Memory) stops.short stops.puts) is
    added (Err F.Store) is = put_came is.root (Err F.Store) is.short is.puts
    added (Err (F.Block id why)) is = put_came is.root (Err (F.Block id why)) is.short is.puts
    added (Err (F.Clash id kept new)) is = put_came is.root (Err (F.Clash id kept new)) is.short is.puts

    pub edit_failed : (e : HamtFault) → Rewrites h p k fs m (Err e) n → EditsHamt h p rows s room k fs v x m (Err e) n
    edit_failed e is = let y = moved e is in record { answer = failed e is; later = y.0; adds = added (Err e) is; puts = y.1; given = tt }

    answered : (root : List ℕ) → Rewrites h p k fs m (Ok root) n → BothTold m.blocks n.blocks (HoldsAfter h p es fs (Ok root)) → (r : Result (List ℕ) HamtFault) → MakesRoot (spell (root_map p ready.has.node)) r → EditAnswer h rows room s v x m r n
    answered root is after (Ok b) makes = (
      makes.0 ∙ ap spell (sym ready.has.root),
      makes.1,
      told_now m.blocks n.blocks was Keeps (HoldsAfter h p es fs (Ok root)) (λ now. IsHeld (block_at now) h rows room s x v) told
          (λ now keeps x'. subst (λ y. IsHeld (block_at now) h rows room s y v) (sym ready.has.root) (ready.made now keeps (x'.held ready.holds))) is.2.later.keeps after,
    )
    answered root is after (Err F.Size) makes = long_root (spell x) (nodes h rows s v) (ap (λ y. is_long (spell y)) ready.has.root ∙ lt-ltb longest_block (length (spell (root_map p ready.has.node))) makes)
    answered root is after (Err F.Memory) makes = tt
    answered root is after (Err F.Exhausted) makes = absurd makes
    answered root is after (Err F.NoKey) makes = absurd makes
    answered root is after (Err F.Store) makes = absurd makes
    answered root is after (Err (F.Block id why)) makes = absurd makes
    answered root is after (Err (F.Clash id kept new)) makes = absurd makes

    -- whatever was made of the root then
    still_given : (r : Result (List ℕ) HamtFault) → IfTold n.given (AreIdsGiven (way h p k (trie_levels p) 0 fs)) → GivesWay h p k fs r n
    still_given (Ok b) all = all
    still_given (Err e) all = tt

    pub edit_done : (root : List ℕ) → Rewrites h p k fs m (Ok root) n → BothTold m.blocks n.blocks (HoldsAfter h p es fs (Ok root)) → GivesWay h p k fs (Ok root) n
        → (r : Result (List ℕ) HamtFault) → MakesRoot (spell (root_map p ready.has.node)) r → EditsHamt h p rows s room k fs v x m r n
    edit_done root is after gives r makes =
        let y = put_all (Ok tt) is.2 in record { answer = answered root is after r makes; later = y.0; adds = added (Ok root) is; puts = y.1; given = still_given r gives }

-- ---- an entry put, and gone

pub put_ready : (h : List ℕ → List ℕ) (rows : List Row) (was : List (List ℕ)) (s elem : Slot) (t d x : Data) (ps : Pairs) (es : List (List ℕ × Data)) (k : List ℕ) (room : ℕ) (w : Value) (trail : Trail)
    → (at : IsHamtHeld h rows was s elem t ps es k trail) → IsPut h rows was s elem room ps k w d x → Ready h at.hamt.3 rows was s room (with_entry k w ps) x k es (insert bytewise k d es)
put_ready h rows was s elem t d x ps es k room w trail at put =
    let has = (hamts_have_tries h rows was s elem t x ps es k at.hamt at.trie).0 w d put.held.tree put.tree in
    record {
      has = has;
      holds = at.trie.holds;
      placed = are_put h rows was at.before put.less s elem t d x ps es k w at.hamt at.held at.trie put.held put.tree;
      made = λ now keeps holds. hamts_are_put h rows was now keeps at.before room put.less s elem t t d has.node ps es k w at.hamt at.held at.trie at.utf8 (held_stays h rows was now put.less elem d w keeps put.held) put.fits has.is_node holds;
    }

pub cut_ready : (h : List ℕ → List ℕ) (rows : List Row) (was : List (List ℕ)) (s elem : Slot) (t x : Data) (ps : Pairs) (es : List (List ℕ × Data)) (k : List ℕ) (room : ℕ) (trail : Trail)
    → (at : IsHamtHeld h rows was s elem t ps es k trail) → IsCut h rows s room ps k x → Ready h at.hamt.3 rows was s room (without_entry k ps) x k es (remove k es)
cut_ready h rows was s elem t x ps es k room trail at cut =
    let has = (hamts_have_tries h rows was s elem t x ps es k at.hamt at.trie).1 cut.tree in
    record {
      has = has;
      holds = at.trie.holds;
      placed = are_cut h rows was at.before s elem t x ps es k at.hamt at.held at.trie cut.tree;
      made = λ now keeps holds. hamts_are_cut h rows was now keeps at.before room s elem t t has.node ps es k at.hamt at.held at.trie cut.fits has.is_node holds;
    }

none_there : (h : List ℕ → List ℕ) (rows : List Row) (elem : Slot) (o : Option Value) (q : Option Data) → IsValueOf h rows elem o q → is_some o ≡ true → q ≡ None → ⊥
none_there h rows elem None q is there none = cc
none_there h rows elem (Some w) None is there none = is
none_there h rows elem (Some w) (Some d) is there none = cc

pub cut_rewrites : (h : List ℕ → List ℕ) (p : HamtShape) (rows : List Row) (was : List (List ℕ)) (elem : Slot) (t : Data) (ps : Pairs) (es : List (List ℕ × Data)) (k : List ℕ) (m n : Moment) (r : Result (List ℕ) HamtFault)
    → IsTrieIn h p rows was elem ps t es → is_some (value_at k (pairs_list ps)) ≡ true → Removes h p k es m r n → Rewrites h p k (remove k es) m r n
cut_rewrites h p rows was elem t ps es k m n (Ok root) trie there is = is.1
cut_rewrites h p rows was elem t ps es k m n (Err F.NoKey) trie there is = absurd (none_there h rows elem (value_at k (pairs_list ps)) (find bytewise k es) (trie.found k) there is.0)
cut_rewrites h p rows was elem t ps es k m n (Err F.Exhausted) trie there is = is.1
cut_rewrites h p rows was elem t ps es k m n (Err F.Size) trie there is = is.1
cut_rewrites h p rows was elem t ps es k m n (Err F.Memory) trie there is = is.1
cut_rewrites h p rows was elem t ps es k m n (Err F.Store) trie there is = is.1
cut_rewrites h p rows was elem t ps es k m n (Err (F.Block id why)) trie there is = is.1
cut_rewrites h p rows was elem t ps es k m n (Err (F.Clash id kept new)) trie there is = is.1

-- ---- the root of a view

-- the view of the root's node in this shape
pub record RootHas (p : HamtShape) (t : Data) (n : NodeView) : Type 0 where
  pub slots : List TrieSlot
  pub root : IsRoot p slots t
  pub has : HasSlots p n slots

-- whatever type the view has, the root tells the shape
pub root_has : (h : List ℕ → List ℕ) (p : HamtShape) (rows : List Row) (was : List (List ℕ)) (elem : Slot) (ps : Pairs) (t : Data) (es : List (List ℕ × Data)) (o : Option HamtShape) (n : NodeView)
    → IsTrieIn h p rows was elem ps t es → RootAt o t n → RootHas p t n
root_has h p rows was elem ps t es None n trie at = absurd at
root_has h p rows was elem ps t es (Some q) n trie at =
    subst (λ r. RootHas r t n) (sym (root_shape h p q rows was elem ps t es at.0 trie at.1)) (record { slots = at.0; root = at.1; has = at.2 })
