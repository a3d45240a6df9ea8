-- A root map tells the shape of its HAMT.
use Rattle.std.proofs.Common.{◌≡◌, ℕ, ◌-◌, ◌*◌, ◌/◌, ◌^◌, ◌==◌, cond, true, List, length, map, take, drop, Some, refl, sym, ap, ◌∙◌, subst, arith}
use Rattle.std.proofs.lemmas.Bool.{agree_below_at, eqb-true}
use Rattle.std.proofs.lemmas.List.FromFn.{length-map-range_with_len}
use Rattle.ild_data.specs.Data.{Data}
use Rattle.ild_data.specs.Trie.{TrieSlot, byte_of, is_used, map_of, node_data, node_of}
use Rattle.ild_data.specs.TrieShape.{trie_levels}
use Rattle.ild_data.specs.declared.hamt_shape.HamtShape.{HamtShape}
use Rattle.ild_data.proofs.HamtShapes.{same-shape}
use Rattle.ild_schema.specs.declared.number.Slot.{Slot}
use Rattle.ild_schema.specs.declared.row.Row.{Row}
use Rattle.ild_schema.specs.Value.{Pairs}
use Rattle.ild_node_slots.proofs.Shapes.{levels_suc, whole_bytes}
use Rattle.ild_typed.specs.Hamt.{root_map}
use Rattle.ild_typed.specs.Node.{IsRoot}
use Rattle.ild_typed.proofs.TrieTells.{node_slots}
use Rattle.ild_path_held.specs.Hamts.{IsTrieIn}

-- the width by the number of slots
width_in : ℕ → ℕ
width_in n = cond (n == 1) 0 (cond (n == 2) 1 (cond (n == 4) 2 (cond (n == 8) 3 (cond (n == 16) 4 (cond (n == 32) 5 (cond (n == 64) 6 (cond (n == 128) 7 8)))))))

width_told : (p : HamtShape) → width_in (2 ^ p.width) ≡ p.width
unfolding width_in
width_told p = eqb-true (width_in (2 ^ p.width)) p.width (agree_below_at (λ w. width_in (2 ^ w) == w) (λ w. true) 9 p.width refl (omega (arith, p.narrow)))

same_bucket : (p q : HamtShape) (d e : Data) → root_map p d ≡ root_map q e → p.bucket ≡ q.bucket
same_bucket p q d e is = cc

same_inside : (p q : HamtShape) (d e : Data) → root_map p d ≡ root_map q e → d ≡ e
same_inside p q d e is = cc

map_bytes : (ss : List TrieSlot) → length (map_of ss) ≡ length ss / 8
map_bytes ss = length-map-range_with_len (λ j. byte_of (map is_used (take 8 (drop (8 * j) ss)))) 0 (length ss / 8)

same_width : (p q : HamtShape) (ss ts : List TrieSlot) → length ss ≡ 2 ^ p.width → length ts ≡ 2 ^ q.width → node_data ss ≡ node_data ts → p.width ≡ q.width
same_width p q ss ts a b is =
    let maps : map_of ss ≡ map_of ts = cc in
    let eighths : length ss / 8 ≡ length ts / 8 = sym (map_bytes ss) ∙ ap (λ (m : List ℕ). length m) maps ∙ map_bytes ts in
    let slots : 2 ^ p.width ≡ 2 ^ q.width =
    whole_bytes p.width p.wide ∙ ap (λ n. 8 * n) (ap (λ n. n / 8) (sym a) ∙ eighths ∙ ap (λ n. n / 8) b) ∙ sym (whole_bytes q.width q.wide) in
    sym (width_told p) ∙ ap width_in slots ∙ width_told q

-- where a root is that of a trie, and slots are read from it
pub root_shape : (h : List ℕ → List ℕ) (p q : HamtShape) (rows : List Row) (held : List (List ℕ)) (elem : Slot) (ps : Pairs) (t : Data) (es : List (List ℕ × Data)) (slots : List TrieSlot)
    → IsTrieIn h p rows held elem ps t es → IsRoot q slots t → p ≡ q
root_shape h p q rows held elem ps t es slots x root =
    let both : root_map p x.node ≡ root_map q (node_data slots) = sym x.root ∙ root.tree in
    let mine = node_slots h p (trie_levels p - 1) 0 es x.node (subst (λ n. node_of h p n 0 es ≡ Some x.node) (levels_suc p) x.is_node) in
    same-shape p q (same_width p q mine.slots slots mine.count root.indices (mine.is ∙ same_inside p q x.node (node_data slots) both)) (same_bucket p q x.node (node_data slots) both)
