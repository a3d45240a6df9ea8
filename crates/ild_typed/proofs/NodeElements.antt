-- What is read as the elements of a node is the elements of its slots, and the other way.
use Rattle.std.specs.List.{AllByRecursion}
use Rattle.std.proofs.Common.{◌≡◌, ℕ, ◌==◌, Bool, true, false, cond, List, [], ◌∷◌, ◌++◌, length, map, drop, Some, None, refl, sym, ap, arith, flat_map}
use Rattle.std.specs.Ordering.{eq_by_cmp}
use Rattle.std.proofs.lemmas.Bool.{and_parts, and_from, eqb-true, eq-eqb}
use Rattle.std.proofs.lemmas.List.{length-drop}
use Rattle.ild_data.proofs.Bytes.{AreBytes-drop}
use Rattle.ild_data.specs.Data.{Data, list, link, Items, no_items, item, items_of, items_list}
use Rattle.ild_data.specs.Spell.{cid_of}
use Rattle.ild_data.specs.declared.hamt_shape.HamtShape.{HamtShape}
use Rattle.ild_data.specs.ByteOrder.{bytewise}
use Rattle.ild_data.specs.Trie.{TrieSlot, empty, bucket, child, is_used, entry_data, elements_of}
use Rattle.ild_hamt_trie.proofs.Parts.{same_key, key_itself}
use Rattle.ild_data.specs.Bytes.{AreBytes}
use Rattle.ild_data.specs.Tree.{IsTree, AreTrees}
use Rattle.ild_typed.specs.Node.{IsSlot}
use Rattle.ild_typed.specs.NodeReading.{links_block, id_in, bucket_fits, element_fits, elements_fit}
use Rattle.ild_typed.proofs.NodeEntries.{bucket-taken, bucket-read}

-- ---- links to blocks

pub block-link : (s : List ℕ) → links_block s ≡ true → (s ≡ cid_of (drop 4 s)) × (length (drop 4 s) ≡ 32)
block-link s is =
    let parts = and_parts (length s == 36) (eq_by_cmp bytewise s (cid_of (drop 4 s))) is in
    (same_key s (cid_of (drop 4 s)) parts.1, omega (arith, eqb-true (length s) 36 parts.0, length-drop 4 s))

pub link-read : (id : List ℕ) → length id ≡ 32 → links_block (cid_of id) ≡ true
link-read id long = and_from (length (cid_of id) == 36) (eq_by_cmp bytewise (cid_of id) (cid_of id)) (eq-eqb (length (cid_of id)) 36 (omega arith)) (key_itself (cid_of id))

pub id-read : (id : List ℕ) → length id ≡ 32 → id_in (cid_of id) ≡ Some id
id-read id long = ap (λ b. cond b (Some id) None) (link-read id long)

-- ---- one element

pub record SlotOf (p : HamtShape) (t : Data) : Type 0 where
  pub slot : TrieSlot
  pub is : elements_of slot ≡ t ∷ []
  pub form : IsSlot p slot
  pub used : is_used slot ≡ true

pub element-taken : (p : HamtShape) (t : Data) → IsTree t → element_fits p.bucket t ≡ true → SlotOf p t
element-taken p (link s) tree is =
    let parts = block-link s is in
    record { slot = child (drop 4 s); is = ap (λ c. link c ∷ []) (sym parts.0); form = (parts.1, AreBytes-drop 4 s tree.1); used = refl }
element-taken p (list ds) tree is =
    let b = bucket-taken p (list ds) is in
    record { slot = bucket b.es; is = ap (λ t. t ∷ []) (sym b.is); form = b.form; used = refl }
element-taken p t tree is = absurd cc

-- ---- all of them

pub record SlotsOf (p : HamtShape) (bits : List Bool) (ds : Items) : Type 0 where
  pub slots : List TrieSlot
  pub used : map is_used slots ≡ bits
  pub elements : flat_map elements_of slots ≡ items_list ds
  pub each : AllByRecursion (IsSlot p) slots

pub elements-taken : (p : HamtShape) (bits : List Bool) (ds : Items) → AreTrees ds → elements_fit p.bucket bits ds ≡ true → SlotsOf p bits ds
elements-taken p [] no_items trees is = record { slots = []; used = refl; elements = refl; each = tt }
elements-taken p [] (item d ds) trees is = absurd cc
elements-taken p (false ∷ bits) ds trees is =
    let rest = elements-taken p bits ds trees is in
    record { slots = empty ∷ rest.slots; used = ap (λ bs. false ∷ bs) rest.used; elements = rest.elements; each = (tt, rest.each) }
elements-taken p (true ∷ bits) no_items trees is = absurd cc
elements-taken p (true ∷ bits) (item d ds) trees is =
    let parts = and_parts (element_fits p.bucket d) (elements_fit p.bucket bits ds) is in
    let first = element-taken p d trees.0 parts.0 in
    let rest = elements-taken p bits ds trees.1 parts.1 in
    record {
      slots = first.slot ∷ rest.slots;
      used = λ i. first.used i ∷ rest.used i;
      elements = λ i. first.is i ++ rest.elements i;
      each = (first.form, rest.each);
    }

pub elements-read : (p : HamtShape) (slots : List TrieSlot) → AllByRecursion (IsSlot p) slots → elements_fit p.bucket (map is_used slots) (items_of (flat_map elements_of slots)) ≡ true
elements-read p [] each = refl
elements-read p (empty ∷ slots) each = elements-read p slots each.1
elements-read p (bucket es ∷ slots) each =
    and_from (bucket_fits p.bucket (list (items_of (map entry_data es)))) (elements_fit p.bucket (map is_used slots) (items_of (flat_map elements_of slots)))
    (bucket-read p es each.0) (elements-read p slots each.1)
elements-read p (child id ∷ slots) each =
    and_from (links_block (cid_of id)) (elements_fit p.bucket (map is_used slots) (items_of (flat_map elements_of slots)))
    (link-read id each.0.0) (elements-read p slots each.1)
