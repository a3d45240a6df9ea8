-- What is read as the root map of a HAMT is one, and a root map is read.
use Rattle.std.proofs.Common.{◌≡◌, ℕ, zero, suc, ◌*◌, ◌/◌, ◌%◌, ◌^◌, ◌≤◌, ◌==◌, pos, codes, Bool, true, false, ◌&&◌, List, [], ◌∷◌, length, map, take, drop, Option, Some, None, refl, sym, ap, ◌∙◌, subst, arith, inl, inr}
use Rattle.std.specs.Prelude.{◌⊎◌, ◌↔◌}
use Rattle.std.specs.List.{AllByRecursion, flat_map}
use Rattle.std.specs.Cmp.Lexicographic.{same_text as text_same}
use Rattle.std.proofs.lemmas.Bool.{and_parts, and_from, eqb-true, eq-eqb}
use Rattle.std.proofs.lemmas.List.{length-map}
use Rattle.std.proofs.lemmas.List.FromFn.{length-map-range_with_len}
use native.Mathlib.Numerals.{unary_clauses}
use Rattle.ild_data.specs.Data as T
use Rattle.ild_data.specs.Data.{Data, bytes, list, items_of}
use Rattle.ild_data.specs.Bytes.{AreBytes}
use Rattle.ild_data.specs.Key.{same_text}
use Rattle.ild_data.specs.Tree.{IsTree, AreTrees}
use Rattle.ild_data.specs.declared.hamt_shape.HamtShape.{HamtShape}
use Rattle.ild_data.specs.Trie.{TrieSlot, is_used, map_of, byte_of, elements_of, node_data}
use Rattle.ild_data.proofs.Lists.{items_by_list, members_of-members_list}
use Rattle.ild_typed.specs.Node.{IsSlot, IsRoot}
use Rattle.ild_typed.specs.NodeReading.{pair_in, map_bit, map_bits, elements_fit, parts_fit, pair_fits, node_fits, is_number, entry_fits, entries_fit, root_fits}
use Rattle.ild_typed.proofs.CleanFields.{int_self}
use Rattle.ild_typed.proofs.Entries.{same_text_self}
use Rattle.ild_typed.proofs.NodeEntries.{pair-taken}
use Rattle.ild_typed.proofs.NodeElements.{SlotsOf, elements-taken, elements-read}
use Rattle.ild_typed.proofs.NodeMaps.{map-taken, bits-read}
use Rattle.ild_typed.proofs.Structs.{int_same}

-- a node of at least eight slots has whole bytes in its map
whole_bytes : (w : ℕ) → 3 ≤ w → 2 ^ w ≡ 8 * (2 ^ w / 8)
whole_bytes zero h = absurd (omega arith)
whole_bytes (suc zero) h = absurd (omega arith)
whole_bytes (suc (suc zero)) h = absurd (omega arith)
whole_bytes (suc (suc (suc v))) h =
    let a : 2 ^ suc (suc (suc v)) ≡ 2 * 2 ^ suc (suc v) = simp unary_clauses (omega arith) in
    let b : 2 ^ suc (suc v) ≡ 2 * 2 ^ suc v = simp unary_clauses (omega arith) in
    let c : 2 ^ suc v ≡ 2 * 2 ^ v = simp unary_clauses (omega arith) in
    rw (a, b, c) (omega arith)

pub whole_map : (w n : ℕ) → 3 ≤ w → n ≡ 2 ^ w → n % 8 ≡ 0
whole_map w n wide is = let e = whole_bytes w wide in omega (arith, e, is)

-- ---- nodes

pub node-read : (p : HamtShape) (slots : List TrieSlot) → 3 ≤ p.width → length slots ≡ 2 ^ p.width → AllByRecursion (IsSlot p) slots → node_fits p (node_data slots) ≡ true
node-read p slots wide many each =
    let whole : length slots % 8 ≡ 0 = whole_map p.width (length slots) wide many in
    let long : length (map_of slots) ≡ 2 ^ p.width / 8 =
    length-map-range_with_len (λ j. byte_of (map is_used (take 8 (drop (8 * j) slots)))) 0 (length slots / 8) ∙ ap (λ n. n / 8) many in
    and_from (length (map_of slots) == 2 ^ p.width / 8) (elements_fit p.bucket (map_bits (map_of slots) 0 (2 ^ p.width)) (items_of (flat_map elements_of slots)))
    (eq-eqb (length (map_of slots)) (2 ^ p.width / 8) long)
    (ap (λ n. elements_fit p.bucket (map_bits (map_of slots) 0 n) (items_of (flat_map elements_of slots))) (sym many)
    ∙ ap (λ bits. elements_fit p.bucket bits (items_of (flat_map elements_of slots))) (bits-read slots whole)
    ∙ elements-read p slots each)

pub record NodeOf (p : HamtShape) (t : Data) : Type 0 where
  pub slots : List TrieSlot
  pub many : length slots ≡ 2 ^ p.width
  pub each : AllByRecursion (IsSlot p) slots
  pub is : t ≡ node_data slots

parts_taken : (p : HamtShape) (m : List ℕ) (ds : T.Items) → 3 ≤ p.width → AreBytes m → AreTrees ds → parts_fit p (bytes m, list ds) ≡ true → NodeOf p (list (items_of (bytes m ∷ list ds ∷ [])))
parts_taken p m ds wide own trees fits =
    let fit = and_parts (length m == 2 ^ p.width / 8) (elements_fit p.bucket (map_bits m 0 (2 ^ p.width)) ds) fits in
    let long : length m ≡ 2 ^ p.width / 8 = eqb-true (length m) (2 ^ p.width / 8) fit.0 in
    let of : SlotsOf p (map_bits m 0 (2 ^ p.width)) ds = elements-taken p (map_bits m 0 (2 ^ p.width)) ds trees fit.1 in
    let many : length of.slots ≡ 2 ^ p.width = sym (length-map of.slots is_used) ∙ ap length of.used ∙ length-map-range_with_len (map_bit m) 0 (2 ^ p.width) in
    let e = whole_bytes p.width wide in
    let ones_is : map_of of.slots ≡ m = map-taken of.slots m own (omega (arith, many, long, e)) (of.used ∙ ap (map_bits m 0) (sym many)) in
    let parts_is : ds ≡ items_of (flat_map elements_of of.slots) = items_by_list ds (flat_map elements_of of.slots) (sym of.elements) in
    record { slots = of.slots; many = many; each = of.each; is = λ i. list (items_of (bytes (sym ones_is i) ∷ list (parts_is i) ∷ [])) }

pair_taken : (p : HamtShape) (a b : Data) → 3 ≤ p.width → IsTree a → IsTree b → parts_fit p (a, b) ≡ true → NodeOf p (list (items_of (a ∷ b ∷ [])))
pair_taken p (bytes m) (list ds) wide x y fits = parts_taken p m ds wide x y fits
pair_taken p a b wide x y fits = absurd cc

pub node-taken : (p : HamtShape) (t : Data) → 3 ≤ p.width → IsTree t → node_fits p t ≡ true → NodeOf p t
node-taken p t wide tree fits = by (pair_in t) refl fits where
  by : (o : Option (Data × Data)) → pair_in t ≡ o → pair_fits p o ≡ true → NodeOf p t
  by None is h = absurd cc
  by (Some x) is h =
      let whole : t ≡ list (items_of (x.0 ∷ x.1 ∷ [])) = pair-taken t x is in
      let own : IsTree (list (items_of (x.0 ∷ x.1 ∷ []))) = subst IsTree whole tree in
      subst (NodeOf p) (sym whole) (pair_taken p x.0 x.1 wide own.0 own.1.0 h)

-- ---- roots

number_taken : (n : ℕ) (d : Data) → is_number n d ≡ true → d ≡ T.integer (pos n)
number_taken n (T.integer i) e = ap T.integer (sym (int_same (pos n) i e))
number_taken n d e = absurd cc

entry_taken : (k : List ℕ) (holds : Data → Bool) (e : List ℕ × Data) → entry_fits k holds e ≡ true → (e.0 ≡ k) × (holds e.1 ≡ true)
entry_taken k holds e is = let x = and_parts (same_text k e.0) (holds e.1) is in (sym (text_same k e.0 (sym x.0)), x.1)

record RootOf (p : HamtShape) (t : Data) : Type 0 where
  slots : List TrieSlot
  root : IsRoot p slots t

entries_taken : (p : HamtShape) (es : List (List ℕ × Data)) → AllByRecursion (λ (e : List ℕ × Data). IsTree e.1) es → entries_fit p es ≡ true → RootOf p (T.map (T.members_of es))
entries_taken p [] trees e = absurd cc
entries_taken p (a ∷ []) trees e = absurd cc
entries_taken p (a ∷ b ∷ []) trees e = absurd cc
entries_taken p (a ∷ b ∷ c ∷ d ∷ es) trees e = absurd cc
entries_taken p (a ∷ b ∷ c ∷ []) trees e =
    let x = and_parts (entry_fits (codes "hamt") (node_fits p) a) (entry_fits (codes "hashAlg") (is_number 18) b && entry_fits (codes "bucketSize") (is_number p.bucket) c) e in
    let y = and_parts (entry_fits (codes "hashAlg") (is_number 18) b) (entry_fits (codes "bucketSize") (is_number p.bucket) c) x.1 in
    let node = entry_taken (codes "hamt") (node_fits p) a x.0 in
    let hash = entry_taken (codes "hashAlg") (is_number 18) b y.0 in
    let size = entry_taken (codes "bucketSize") (is_number p.bucket) c y.1 in
    let of : NodeOf p a.1 = node-taken p a.1 p.wide trees.0 node.1 in
    let alg = number_taken 18 b.1 hash.1 in
    let most = number_taken p.bucket c.1 size.1 in
    record {
      slots = of.slots;
      root = record {
        indices = of.many;
        each = of.each;
        tree = λ i. T.map (T.member (node.0 i) (of.is i) (T.member (hash.0 i) (alg i) (T.member (size.0 i) (most i) T.no_members)));
      };
    }

member_trees : (ms : T.Members) → IsTree (T.map ms) → AllByRecursion (λ (e : List ℕ × Data). IsTree e.1) (T.members_list ms)
member_trees T.no_members all = tt
member_trees (T.member k d ms) all = (all.1, member_trees ms all.3)

root_taken : (p : HamtShape) (t : Data) → IsTree t → root_fits p t ≡ true → RootOf p t
root_taken p (T.map ms) tree e = subst (λ ns. RootOf p (T.map ns)) (members_of-members_list ms) (entries_taken p (T.members_list ms) (member_trees ms tree) e)
root_taken p t tree e = absurd cc

entry_read : (k : List ℕ) (holds : Data → Bool) (d : Data) → holds d ≡ true → entry_fits k holds (k, d) ≡ true
entry_read k holds d e = and_from (same_text k k) (holds d) (same_text_self k) e

root_read : (p : HamtShape) (slots : List TrieSlot) (t : Data) → IsRoot p slots t → root_fits p t ≡ true
root_read p slots t root =
    ap (root_fits p) root.tree
    ∙ and_from (entry_fits (codes "hamt") (node_fits p) (codes "hamt", node_data slots))
    (entry_fits (codes "hashAlg") (is_number 18) (codes "hashAlg", T.integer (pos 18)) && entry_fits (codes "bucketSize") (is_number p.bucket) (codes "bucketSize", T.integer (pos p.bucket)))
    (entry_read (codes "hamt") (node_fits p) (node_data slots) (node-read p slots p.wide root.indices root.each))
    (and_from (entry_fits (codes "hashAlg") (is_number 18) (codes "hashAlg", T.integer (pos 18))) (entry_fits (codes "bucketSize") (is_number p.bucket) (codes "bucketSize", T.integer (pos p.bucket)))
    (entry_read (codes "hashAlg") (is_number 18) (T.integer (pos 18)) (int_self (pos 18)))
    (entry_read (codes "bucketSize") (is_number p.bucket) (T.integer (pos p.bucket)) (int_self (pos p.bucket))))

pub roots_told : (p : HamtShape) (t : Data) → IsTree t → (root_fits p t ≡ true) ↔ ((slots : List TrieSlot) × IsRoot p slots t)
roots_told p t tree = (λ e. let x = root_taken p t tree e in (x.slots, x.root), λ r. root_read p r.0 t r.1)

pub root_or_none : (p : HamtShape) (t : Data) → IsTree t → ((slots : List TrieSlot) × IsRoot p slots t) ⊎ ((slots : List TrieSlot) → IsRoot p slots t → ⊥)
root_or_none p t tree = by (root_fits p t) refl where
  by : (b : Bool) → root_fits p t ≡ b → ((slots : List TrieSlot) × IsRoot p slots t) ⊎ ((slots : List TrieSlot) → IsRoot p slots t → ⊥)
  by true e = inl ((roots_told p t tree).0 e)
  by false e = inr (λ slots root. let h : true ≡ false = sym (root_read p slots t root) ∙ e in absurd cc)
