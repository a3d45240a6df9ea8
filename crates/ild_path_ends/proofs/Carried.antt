-- From what became of the innermost value at a key to the whole.
use Rattle.std.proofs.Common.{◌≡◌, ◌⊎◌, inl, inr, ⊎_elim, ℕ, ◌+◌, Bool, true, List, ◌∷◌, ◌++◌, Some, sym, ap, ◌∙◌, subst, arith}
use Rattle.std.specs.Prelude.{Result, Ok, Err, option_and_then}
use Rattle.ild_edges.specs.Gained.{AreIdsGiven}
use Rattle.ild_hamt.proofs.Going.{told as told_at}
use Rattle.ild_data.specs.Among.{AreAmong}
use Rattle.ild_data.specs.Data.{Data}
use Rattle.ild_data.specs.Limits.{deepest}
use Rattle.ild_data.specs.Spell.{spell}
use Rattle.ild_edges.specs.Store.{Moment, Keeps, StaysGiven, block_at}
use Rattle.ild_edges.specs.Told.{BothTold, IfTold}
use Rattle.ild_edges.proofs.Later.{Later-trans}
use Rattle.ild_bulk.specs.Build.{any_long}
use Rattle.ild_schema.specs.declared.number.Slot.{Slot}
use Rattle.ild_schema.specs.declared.row.Row.{Row}
use Rattle.ild_schema.specs.Slots.{form_of}
use Rattle.ild_schema.specs.Value.{Value}
use Rattle.ild_node_slots.specs.declared.fault.HamtFault.{HamtFault}
use Rattle.ild_node_slots.specs.declared.fault.HamtFault.TheVariants as F
use Rattle.ild_open_parts.proofs.Breaking.{rose_later}
use Rattle.ild_typed.specs.At.{InSlot, at}
use Rattle.ild_typed.specs.Blocks.{nodes}
use Rattle.ild_typed.specs.Fits.{Fits}
use Rattle.ild_typed.specs.Hamt.{whole}
use Rattle.ild_typed.specs.Represented.{represented}
use Rattle.ild_view.specs.View.{slot_of, table_of}
use Rattle.ild_view.specs.declared.view.View.{View}
use Rattle.ild_open_held.specs.Held.{IsHeld}
use Rattle.ild_path_held.proofs.Holding.{held_stays}
use Rattle.ild_path_within.proofs.Splitting.{paths_split, ways_split}
use Rattle.ild_path_reroot.specs.Reroots.{AddsNodes}
use Rattle.ild_path_reroot.proofs.Coming.{IsPartOf, came_whole, whole_stays}
use Rattle.ild_path_reroot.proofs.Among.{among_of, long_any, long_one}
use Rattle.ild_path_outward.specs.Level.{IsLevel}
use Rattle.ild_path_hops.specs.Hops.{AreHops}
use Rattle.ild_path_hops.specs.HopLaws.{path_of_hops}
use Rattle.ild_path_hops.specs.declared.hop.Hop.{Hop}
use Rattle.ild_path_hops.proofs.Hopping.{hops_stay}
use Rattle.ild_path_outward.specs.Outward.{EndAnswer, IsNewEnd, with_end}
use Rattle.ild_path_outward.proofs.Carrying.{given_more, told_next}
use Rattle.ild_path_sizes.specs.Long.{HasLongPart}
use Rattle.ild_path_way.specs.Way.{nodes_met}
use Rattle.ild_path_way.proofs.Splitting.{nodes_split}
use Rattle.ild_script_meaning.specs.Costs.{blocks_met, met_in}
use Rattle.ild_path_ends.specs.inside.AtKey.{MakesAtKey}
use Rattle.ild_path_ends.specs.Ends.{AddsBlocks, Came, EditsWhole, GivesWhole, WholeAnswer}
use Rattle.ild_path_ends.proofs.Ending.{among as among_whole, there as there_whole}
use Rattle.ild_path_ends.proofs.Finishing.{all_stay, node_came}
use Rattle.ild_path_ends.proofs.Telling.{both_at, both_here}

module _ (h : List ℕ → List ℕ) (is_key : ℕ → List ℕ → Bool) (was : List (List ℕ)) (v : Value) (t : Data) (root : View) (hops : List Hop) (q : InSlot) (less : ℕ) (level : IsLevel h is_key was deepest v t root)
    (leads : AreHops h (table_of root) was deepest (slot_of root, v) hops q less) (path : List (List ℕ)) (c : Value) (u : Data) (tree : represented (whole h) (table_of root) (slot_of root) c ≡ Some u)
    (fits : Fits (table_of root) deepest (slot_of root) c) (m n : Moment) (told : m.blocks ≡ Some was) (r : Result (List ℕ) HamtFault) (y : MakesAtKey h (table_of root) (slot_of root) v hops q less path c m r n) where
  abbrev Rows : List Row
  Rows = table_of root

  abbrev S : Slot
  S = slot_of root

  abbrev Path : List (List ℕ)
  Path = path_of_hops hops

  there : at Rows (S, c) Path ≡ Some (q.0, y.new)
  there = there_whole h is_key was v t root hops q less level leads c y.new u (less, y.fits) y.made tree fits

  among : AreAmong (nodes h Rows q.0 y.new) (nodes h Rows S c)
  among = among_whole h is_key was v t root hops q less level leads c y.new u (less, y.fits) y.made tree fits

  met_all : blocks_met h Rows (S, c) (Path ++ path) + 1 ≡ blocks_met h Rows (S, c) Path + blocks_met h Rows (q.0, y.new) path
  met_all =
      let a = ways_split Rows (λ r k. met_in h Rows (form_of Rows r.0) r.1 k) (S, c) (q.0, y.new) Path path there in
      omega (arith, a)

  is_part : IsPartOf h Rows (S, c) (q.0, y.new)
  is_part = record { path = Path; there = there; among = among }

  nodes_added : (a b : List (List ℕ)) → AddsNodes h Rows q.0 y.new a b → AddsBlocks h Rows S c u a b
  nodes_added a b x = record { came = λ id z held. ⊎_elim (λ old. inl old) (λ new. inr (node_came h Rows S c u b z (came_whole h Rows (S, c) (q.0, y.new) is_part b z new))) (x.came id z held) }

  came_later : (mid now : List (List ℕ)) → Keeps mid now → (b : List ℕ) → Came h Rows S c u mid b → Came h Rows S c u now b
  came_later mid now keeps b x = record {
    among = x.among;
    short = x.short;
    whole = ⊎_elim (λ top. inl (record { root = top.root; nodes_held = all_stay mid now keeps (nodes h Rows S c) top.nodes_held })) (λ node. inr (whole_stays mid now _ keeps node)) x.whole;
  }

  -- ---- before the hops

  long_whole : HasLongPart h Rows (q.0, y.new) → HasLongPart h Rows (S, c)
  long_whole x = record {
    tree = x.tree;
    part = record {
      path = Path ++ x.part.path;
      part = x.part.part;
      at = paths_split Rows (S, c) Path x.part.path ∙ ap (option_and_then (λ p. at Rows p x.part.path)) there ∙ x.part.at;
      tree = x.part.tree;
    };
    long = x.long;
  }

  long_nodes : any_long (nodes h Rows q.0 y.new) ≡ true → any_long (nodes h Rows S c) ≡ true
  long_nodes is = let z = long_one (nodes h Rows q.0 y.new) is in long_any z.0 (nodes h Rows S c) (among_of z.0 (nodes h Rows q.0 y.new) (nodes h Rows S c) among z.1) z.2

  failed : (e : HamtFault) → EndAnswer h Rows less q.0 y.new y.tree m (Err e) n → WholeAnswer h Rows S c u m (Err e) n
  failed F.Size is = ⊎_elim (λ node. inl (long_nodes node)) (λ part. inr (long_whole part)) is
  failed F.Store is = is
  failed F.Memory is = tt
  failed (F.Clash id kept new) is = (inr (among_of new (nodes h Rows q.0 y.new) (nodes h Rows S c) among is.0), is.1, is.2)
  failed F.Exhausted is = absurd is
  failed F.NoKey is = absurd is
  failed (F.Block id why) is = absurd is

  abbrev pub Next : (now : List (List ℕ)) × (n.blocks ≡ Some now) × Keeps was now
  Next = told_next m.blocks n.blocks was told y.ends.later.keeps

  pub key_failed : (e : HamtFault) → EndAnswer h Rows less q.0 y.new y.tree m (Err e) n → EditsWhole h Rows S c u (Path ++ path) m (Err e) n
  key_failed e is = record {
    answer = failed e is;
    later = y.ends.later;
    adds = both_here m.blocks n.blocks was Next.0 (AddsBlocks h Rows S c u) told Next.1 (nodes_added was Next.0 (both_at m.blocks n.blocks was Next.0 (AddsNodes h Rows q.0 y.new) told Next.1 y.ends.adds));
    puts = let a = y.ends.puts in omega (arith, a, met_all);
    given = tt;
  }

  -- ---- behind them

  pub key_end : (b : List ℕ) → EndAnswer h Rows less q.0 y.new y.tree m (Ok b) n → IsNewEnd h is_key Next.0 deepest v t root hops y.new u b
  key_end b is = record {
    level = record { schema = level.schema; keys = level.keys; held = held_stays h Rows was Next.0 deepest S t v Next.2 level.held; root = level.root };
    q = q;
    less = less;
    leads = hops_stay h Rows was Next.0 deepest less (S, v) q hops Next.2 leads;
    around = less;
    d = y.tree;
    comes = told_at n.blocks Next.0 (λ now. IsHeld (block_at now) h Rows less q.0 y.tree y.new) Next.1 is.2;
    spelled = is.0;
    short = is.1;
    fits = subst (Fits Rows deepest S) (sym y.made) fits;
    tree = subst (λ x. represented (whole h) Rows S x ≡ Some u) (sym y.made) tree;
  }

  module _ (k : Moment) (s : Result (List ℕ) HamtFault) where
    later_answer : (e : Result (List ℕ) HamtFault) → WholeAnswer h Rows S c u n e k → WholeAnswer h Rows S c u m e k
    later_answer (Ok b) is = is
    later_answer (Err F.Size) is = is
    later_answer (Err F.Store) is = rose_later m.faults n.faults k.faults y.ends.later.faults is
    later_answer (Err F.Memory) is = tt
    later_answer (Err (F.Clash id kept new)) is = is
    later_answer (Err F.Exhausted) is = absurd is
    later_answer (Err F.NoKey) is = absurd is
    later_answer (Err (F.Block id why)) is = absurd is

    all_given : IfTold n.given (AreIdsGiven (nodes_met h Rows (q.0, y.new) path)) → BothTold n.given k.given StaysGiven → (e : Result (List ℕ) HamtFault) → GivesWhole h Rows S c u Path e k → GivesWhole h Rows S c u (Path ++ path) e k
    all_given before stays (Err e) is = tt
    all_given before stays (Ok b) is =
        subst (λ bs. IfTold k.given (AreIdsGiven (spell u ∷ bs))) (sym (nodes_split h Rows (S, c) (q.0, y.new) Path path there))
        (given_more n.given k.given (spell u ∷ nodes_met h Rows (S, c) Path) (nodes_met h Rows (q.0, y.new) path) stays before is)

    pub key_done : IfTold n.given (AreIdsGiven (nodes_met h Rows (q.0, y.new) path)) → EditsWhole h Rows S (with_end Rows S v hops y.new) u Path n s k → EditsWhole h Rows S c u (Path ++ path) m s k
    key_done before raw =
        let x : EditsWhole h Rows S c u Path n s k = subst (λ a. EditsWhole h Rows S a u Path n s k) y.made raw in
        let last = told_next n.blocks k.blocks Next.0 Next.1 x.later.keeps in
        let first = nodes_added was Next.0 (both_at m.blocks n.blocks was Next.0 (AddsNodes h Rows q.0 y.new) told Next.1 y.ends.adds) in
        let second = both_at n.blocks k.blocks Next.0 last.0 (AddsBlocks h Rows S c u) Next.1 last.1 x.adds in
        record {
          answer = later_answer s x.answer;
          later = Later-trans m n k y.ends.later x.later;
          adds = both_here m.blocks k.blocks was last.0 (AddsBlocks h Rows S c u) told last.1 (record {
            came = λ id z is. ⊎_elim (λ before. ⊎_elim (λ old. inl old) (λ new. inr (came_later Next.0 last.0 last.2 z new)) (first.came id z before)) (λ new. inr new) (second.came id z is);
          });
          puts = let a = y.ends.puts in let b = x.puts in omega (arith, a, b, met_all);
          given = all_given before x.later.given s x.given;
        }
