-- The blocks of a HAMT of rows nest within the limits.
use Rattle.std.proofs.Common.{◌≡◌, ℕ, zero, suc, ◌+◌, ◌-◌, ◌^◌, ◌==◌, ◌≤◌, nat_le, Bool, true, false, ◌||◌, List, [], ◌∷◌, ◌++◌, length, Option, Some, refl, sym, ◌∙◌, subst, arith, flat_map}
use Rattle.std.specs.List.{AllByRecursion, range_with_len}
use Rattle.std.proofs.lemmas.Bool.{leb-false}
use Rattle.ild_typed.proofs.TreeBlocks.{block_in}
use Rattle.ild_data.proofs.AllOf.{all_append, all_filter}
use Rattle.ild_data.specs.Data.{Data}
use Rattle.ild_data.specs.Limits.{longest_block}
use Rattle.ild_data.specs.declared.hamt_shape.HamtShape.{HamtShape}
use Rattle.ild_data.specs.TrieShape.{trie_levels}
use Rattle.ild_data.specs.Trie.{part, node_of, at_depth}
use Rattle.ild_data.specs.TrieBlocks.{block_of, none_or}
use Rattle.ild_typed.specs.Nested.{TreeIn, BlockIn, IsBlock}
use Rattle.ild_typed.proofs.Treed.{EntryIn}
use Rattle.ild_typed.proofs.TreeNodes.{node_of_in}
use Rattle.ild_node_slots.specs.Form.{AreTexts}
use Rattle.ild_node.specs.Rows.{AreRows, AreShallow, deepest_value}
use Rattle.ild_bulk.specs.Build.{HasShortTrie, any_long, is_long, plan_of}
use Rattle.ild_bulk.specs.Planned.{planned, slot_plan}
use Rattle.ild_bulk.proofs.Building.{planned_is}
use Rattle.ild_bulk.proofs.Tries.{trie-rows}

entries_in : (es : List (List ℕ × Data)) → AreTexts es → AreShallow es → AllByRecursion (EntryIn deepest_value) es
entries_in [] texts values = tt
entries_in (e ∷ es) texts values = ((texts.0, values.0), entries_in es texts.1 values.1)

all_parts : {X : Type 0} (P : X → Type 0) (f : ℕ → List X) (js : List ℕ) → ((j : ℕ) → AllByRecursion P (f j)) → AllByRecursion P (flat_map f js)
all_parts P f [] each = tt
all_parts P f (j ∷ js) each = all_append P (f j) (flat_map f js) (each j) (all_parts P f js each)

slot_in : (n : ℕ) (b : Bool) (below : List (List ℕ × Data) → Option Data) (beneath : List (List ℕ × Data) → List (List ℕ)) (es : List (List ℕ × Data)) → AllByRecursion (BlockIn n) (beneath es)
    → ((d : Data) → below es ≡ Some d → TreeIn n d) → AllByRecursion (BlockIn n) (none_or b (λ fs. beneath fs ++ block_of (below fs)) es)
slot_in n true below beneath es first fits = tt
slot_in n false below beneath es first fits = all_append (BlockIn n) (beneath es) (block_of (below es)) first (block_in n (below es) fits)

none_in : (n : ℕ) (h : List ℕ → List ℕ) (p : HamtShape) (depth : ℕ) (es : List (List ℕ × Data)) → AllByRecursion (BlockIn n) (planned h p zero depth es)
unfolding planned
none_in n h p depth es = tt

planned_in : (n : ℕ) (h : List ℕ → List ℕ) (p : HamtShape) (left depth : ℕ) (es : List (List ℕ × Data)) → AllByRecursion (EntryIn n) es → AllByRecursion (BlockIn (n + 4)) (planned h p left depth es)
planned_in n h p zero depth es all = none_in (n + 4) h p depth es
planned_in n h p (suc left) depth es all =
    subst (λ (bs : List (List ℕ)). AllByRecursion (BlockIn (n + 4)) bs) (sym (planned_is h p left depth es))
    (all_parts (BlockIn (n + 4)) (λ i. slot_plan p.bucket (node_of h p left (depth + 1)) (planned h p left (depth + 1)) (part (at_depth h p depth) es i)) (range_with_len 0 (2 ^ p.width))
    (λ i. let here = all_filter (EntryIn n) (λ e. at_depth h p depth e.0 == i) es all in
    slot_in (n + 4) (nat_le (length (part (at_depth h p depth) es i)) p.bucket) (node_of h p left (depth + 1)) (planned h p left (depth + 1)) (part (at_depth h p depth) es i)
    (planned_in n h p left (depth + 1) (part (at_depth h p depth) es i) here)
    (λ d is. node_of_in n h p left (depth + 1) (part (at_depth h p depth) es i) d here is)))

pub plan-nests : (p : HamtShape) (h : List ℕ → List ℕ) (left depth : ℕ) (es : List (List ℕ × Data)) → AreRows es → AllByRecursion (BlockIn 96) (planned h p left depth es)
plan-nests p h left depth es rows = planned_in deepest_value h p left depth es (entries_in es rows.1 rows.2)

short_one : (b : List ℕ) → BlockIn 96 b → is_long b ≡ false → IsBlock b
short_one b nests short = record {
  of = nests.of;
  is = nests.is;
  within = record {
    tree = nests.fits.tree;
    nested = nests.fits.nested;
    sized = subst (λ (s : List ℕ). length s ≤ longest_block) nests.is (let le = leb-false (suc longest_block) (length b) short in omega arith);
  };
}

short_all : (bs : List (List ℕ)) → AllByRecursion (BlockIn 96) bs → any_long bs ≡ false → AllByRecursion IsBlock bs
short_all [] all short = tt
short_all (b ∷ bs) all short = let parts = neither (is_long b) (any_long bs) short in (short_one b all.0 parts.0, short_all bs all.1 parts.1)
  where
    neither : (x y : Bool) → (x || y) ≡ false → (x ≡ false) × (y ≡ false)
    neither true y e = absurd cc
    neither false y e = (refl, e)

pub short-blocks : (p : HamtShape) (h : List ℕ → List ℕ) (es : List (List ℕ × Data)) (root : List ℕ) → AreRows es → HasShortTrie h p es root → AllByRecursion IsBlock (root ∷ plan_of h p es)
short-blocks p h es root rows short =
    let node : node_of h p (trie_levels p - 0) 0 es ≡ Some short.trie.node = sym (trie-rows h p es rows) ∙ short.trie.is in
    short_all (root ∷ plan_of h p es)
    (record { of = short.trie.node; is = short.trie.spelled; fits = node_of_in deepest_value h p (trie_levels p - 0) 0 es short.trie.node (entries_in es rows.1 rows.2) node }, plan-nests p h (trie_levels p) 0 es rows)
    short.short
