-- The block of the whole is put behind its nodes.
use Rattle.std.proofs.Common.{◌≡◌, inl, inr, ⊎_elim, ℕ, ◌≤◌, List, [], ◌∷◌, length, Option, Some, None, ap, sym, ◌∙◌, subst, arith}
use Rattle.std.specs.Prelude.{Result, Ok, Err}
use Rattle.std.specs.List.{AllByRecursion}
use Rattle.ild_edges.specs.Gained.{AreIdsGiven, CameFrom}
use Rattle.ild_hamt.proofs.Going.{told as told_at}
use Rattle.ild_data.specs.Data.{Data}
use Rattle.ild_data.specs.Limits.{deepest, longest_block}
use Rattle.ild_data.specs.Spell.{id_of, spell}
use Rattle.ild_edges.specs.Store.{Moment, Later, Keeps, Gives, StaysGiven, block_at}
use Rattle.ild_edges.specs.Told.{BothTold, IfTold}
use Rattle.ild_edges.proofs.Later.{Later-trans}
use Rattle.ild_edges.specs.Among.{IsIn}
use Rattle.ild_edges.proofs.Among.{IsIn-contains, IsIn-of, IsIn-one}
use Rattle.ild_bulk.specs.Putting.{PutAnswer, PutsOne}
use Rattle.ild_schema.specs.declared.number.Slot.{Slot}
use Rattle.ild_schema.specs.declared.row.Row.{Row}
use Rattle.ild_schema.specs.Value.{Value}
use Rattle.ild_node_slots.specs.declared.fault.HamtFault.{HamtFault}
use Rattle.ild_node_slots.specs.declared.fault.HamtFault.TheVariants as F
use Rattle.ild_open_parts.proofs.Breaking.{rose_later}
use Rattle.ild_typed.specs.Blocks.{nodes}
use Rattle.ild_open_held.specs.Held.{IsHeld, IsHeldBlock}
use Rattle.ild_path_held.proofs.Holding.{block_stays, held_stays}
use Rattle.ild_path_reroot.specs.Reroots.{AddsNodes, NodeCame}
use Rattle.ild_path_reroot.proofs.Coming.{came_stays}
use Rattle.ild_path_outward.specs.Outward.{EndAnswer, SetsEnd}
use Rattle.ild_path_outward.proofs.Carrying.{caused_later, given_stay, told_here, told_next}
use Rattle.ild_path_way.specs.Way.{nodes_met}
use Rattle.ild_hamt.specs.Edits.{CausedBy, FaultCause}
use Rattle.ild_path_ends.specs.Ends.{AddsBlocks, Came, EditsWhole, WholeAnswer}
use Rattle.ild_path_ends.proofs.Telling.{both_at, both_here}

pub all_stay : (was now : List (List ℕ)) → Keeps was now → (bs : List (List ℕ)) → AllByRecursion (IsHeldBlock (block_at was)) bs → AllByRecursion (IsHeldBlock (block_at now)) bs
all_stay was now keeps [] all = tt
all_stay was now keeps (b ∷ bs) all = (block_stays was now b keeps all.0, all_stay was now keeps bs all.1)

-- the id of the root's block is given beside those of the nodes
given_next : (o q : Option (List (List ℕ))) (b root : List ℕ) (bs : List (List ℕ)) → b ≡ root → BothTold o q StaysGiven → BothTold o q (Gives (id_of b)) → IfTold o (AreIdsGiven bs) → IfTold q (AreIdsGiven (root ∷ bs))
given_next None None b root bs is stays gives all = tt
given_next None (Some now) b root bs is stays gives all = absurd stays
given_next (Some was) None b root bs is stays gives all = tt
given_next (Some was) (Some now) b root bs is stays gives all = ((gives (id_of root)).1 (inr (ap id_of (sym is))), given_stay was now stays bs all)

-- a node that came is a block of the whole that came
pub node_came : (h : List ℕ → List ℕ) (rows : List Row) (s : Slot) (c : Value) (u : Data) (now : List (List ℕ)) (b : List ℕ) → NodeCame h rows s c now b → Came h rows s c u now b
node_came h rows s c u now b x = record { among = IsIn-contains b (spell u ∷ nodes h rows s c) (inr x.among); short = x.short; whole = inr x.whole }

module _ (h : List ℕ → List ℕ) (rows : List Row) (s : Slot) (c : Value) (u : Data) (path : List (List ℕ)) (m : Moment) (was : List (List ℕ)) (told : m.blocks ≡ Some was) where
  nodes_added : (a b : List (List ℕ)) → AddsNodes h rows s c a b → AddsBlocks h rows s c u a b
  nodes_added a b x = record { came = λ id y held. ⊎_elim (λ old. inl old) (λ new. inr (node_came h rows s c u b y new)) (x.came id y held) }

  module _ (n : Moment) where
    outward_answer : (e : HamtFault) → EndAnswer h rows deepest s c u m (Err e) n → WholeAnswer h rows s c u m (Err e) n
    outward_answer F.Size is = is
    outward_answer F.Store is = is
    outward_answer F.Memory is = tt
    outward_answer (F.Clash id kept new) is = (inr is.0, is.1, is.2)
    outward_answer F.Exhausted is = absurd is
    outward_answer F.NoKey is = absurd is
    outward_answer (F.Block id why) is = absurd is

    -- before the root's block is put
    pub outward_failed : (e : HamtFault) → SetsEnd h rows deepest s c u path m (Err e) n → EditsWhole h rows s c u path m (Err e) n
    outward_failed e x =
        let next = told_next m.blocks n.blocks was told x.later.keeps in
        record {
          answer = outward_answer e x.answer;
          later = x.later;
          adds = both_here m.blocks n.blocks was next.0 (AddsBlocks h rows s c u) told next.1 (nodes_added was next.0 (both_at m.blocks n.blocks was next.0 (AddsNodes h rows s c) told next.1 x.adds));
          puts = let a = x.puts in omega (arith, a);
          given = tt;
        }

    pub outward_left : (b : List ℕ) → SetsEnd h rows deepest s c u path m (Ok b) n → EditsWhole h rows s c u path m (Err F.Memory) n
    outward_left b x =
        let next = told_next m.blocks n.blocks was told x.later.keeps in
        record {
          answer = tt;
          later = x.later;
          adds = both_here m.blocks n.blocks was next.0 (AddsBlocks h rows s c u) told next.1 (nodes_added was next.0 (both_at m.blocks n.blocks was next.0 (AddsNodes h rows s c) told next.1 x.adds));
          puts = let a = x.puts in omega (arith, a);
          given = tt;
        }

    module _ (b : List ℕ) (x : SetsEnd h rows deepest s c u path m (Ok b) n) (k : Moment) where
      abbrev Next : (now : List (List ℕ)) × (n.blocks ≡ Some now) × Keeps was now
      Next = told_next m.blocks n.blocks was told x.later.keeps

      held : IsHeld (block_at Next.0) h rows deepest s u c
      held = told_at n.blocks Next.0 (λ now. IsHeld (block_at now) h rows deepest s u c) Next.1 x.answer.2

      root_came : (now : List (List ℕ)) → Keeps Next.0 now → (z : List ℕ) → z ≡ b → Came h rows s c u now z
      root_came now keeps z same = record {
        among = (0, omega arith, sym (same ∙ x.answer.0));
        short = subst (λ (y : List ℕ). length y ≤ longest_block) (sym same) x.answer.1;
        whole = inl (record { root = same ∙ x.answer.0; nodes_held = all_stay Next.0 now keeps (nodes h rows s c) held.held });
      }

      added : (r : Result (Unit {0}) HamtFault) → PutsOne n b r k → BothTold m.blocks k.blocks (AddsBlocks h rows s c u)
      added r y =
          let last = told_next n.blocks k.blocks Next.0 Next.1 y.later.keeps in
          let first = both_at m.blocks n.blocks was Next.0 (AddsNodes h rows s c) told Next.1 x.adds in
          let second = both_at n.blocks k.blocks Next.0 last.0 (CameFrom (b ∷ [])) Next.1 last.1 y.adds in
          both_here m.blocks k.blocks was last.0 (AddsBlocks h rows s c u) told last.1 (record {
            came = λ id z is.
                ⊎_elim (λ before. ⊎_elim (λ old. inl old) (λ new. inr (node_came h rows s c u last.0 z (came_stays h rows (s, c) Next.0 last.0 z last.2 new))) (first.came id z before))
                (λ own. inr (root_came last.0 last.2 z (IsIn-one z b (IsIn-of z (b ∷ []) own)))) (second id z is);
          })

      put_answer : (e : HamtFault) → PutsOne n b (Err e) k → WholeAnswer h rows s c u m (Err e) k
      put_answer F.Store y = rose_later m.faults n.faults k.faults x.later.faults y.answer
      put_answer F.Memory y = tt
      put_answer (F.Clash id kept new) y = (inl (y.answer.0 ∙ x.answer.0), subst (λ (z : List ℕ). length z ≤ longest_block) (sym y.answer.0) x.answer.1, y.answer.1)
      put_answer F.Size y = absurd y.answer
      put_answer F.Exhausted y = absurd y.answer
      put_answer F.NoKey y = absurd y.answer
      put_answer (F.Block id why) y = absurd y.answer

      pub put_failed : (e : HamtFault) → PutsOne n b (Err e) k → EditsWhole h rows s c u path m (Err e) k
      put_failed e y = record { answer = put_answer e y; later = Later-trans m n k x.later y.later; adds = added (Err e) y; puts = let a = x.puts in let d = y.puts in omega (arith, a, d); given = tt }

      pub put_done : (r : Unit {0}) → PutsOne n b (Ok r) k → EditsWhole h rows s c u path m (Ok b) k
      put_done r y =
          let last = told_next n.blocks k.blocks Next.0 Next.1 y.later.keeps in
          let there : block_at last.0 (id_of b) ≡ Some b = both_at n.blocks k.blocks Next.0 last.0 (λ was now. block_at now (id_of b) ≡ Some b) Next.1 last.1 y.answer.0 in
          let root : IsHeldBlock (block_at last.0) b = record { short = x.answer.1; there = there } in
          record {
            answer = (
              x.answer.0,
              told_here k.blocks last.0 (λ now. IsHeld (block_at now) h rows deepest s u c × IsHeldBlock (block_at now) (spell u)) last.1
                  (held_stays h rows Next.0 last.0 deepest s u c last.2 held, subst (IsHeldBlock (block_at last.0)) x.answer.0 root),
            );
            later = Later-trans m n k x.later y.later;
            adds = added (Ok r) y;
            puts = let a = x.puts in let d = y.puts in omega (arith, a, d);
            given = given_next n.given k.given b (spell u) (nodes_met h rows (s, c) path) x.answer.0 y.later.given y.answer.1 x.given;
          }

-- ---- over every store

pub caused_then : (m n k : Moment) (r : Result (List ℕ) HamtFault) → Later m n → CausedBy n r k → CausedBy m r k
caused_then m n k (Ok b) before x = record { cause = tt; later = Later-trans m n k before x.later }
caused_then m n k (Err e) before x = caused_later m n k e before x

pub caused_put : (m n k : Moment) (b : List ℕ) (e : HamtFault) → Later m n → PutsOne n b (Err e) k → CausedBy m (Err e) k
caused_put m n k b e before x = caused_later m n k e before (record { cause = by e x.answer; later = x.later }) where
  by : (e : HamtFault) → PutAnswer n b (Err e) k → FaultCause n e k
  by F.Store is = is
  by F.Memory is = tt
  by (F.Clash id kept new) is = is.1
  by F.Size is = tt
  by F.Exhausted is = tt
  by F.NoKey is = tt
  by (F.Block id why) is = absurd is
