-- What a draft of a node has written so far.
use Rattle.std.proofs.Common.{◌≡◌, ℕ, suc, ◌+◌, ◌<◌, ◌≤◌, ◌/◌, ◌^◌, Bool, true, List, [], ◌∷◌, ◌++◌, length, map, take, get_or, replicate, refl, sym, ap, ◌∙◌, arith, flat_map, append_assoc, append-nil}
use Rattle.std.specs.List.{AllByRecursion}
use Rattle.std.proofs.lemmas.List.{take_all, take_more, length-map, length-append, map-append}
use Rattle.std.proofs.lemmas.Grind.{flat_map-append}
use Rattle.ild_data.specs.Data.{Data, items_of, items_list}
use Rattle.ild_data.specs.declared.hamt_shape.HamtShape.{HamtShape}
use Rattle.ild_data.specs.Spell.{head, spell, spell_bytes}
use Rattle.ild_data.proofs.Lists.{length-items}
use Rattle.ild_data.specs.Trie.{TrieSlot, empty, bucket, is_used, entry_data, elements_of}
use Rattle.ild_node.specs.Drafts.{HasWritten, FillBucket, map_so_far}
use Rattle.ild_node_slots.specs.Form.{bucket_data}
use Rattle.ild_node.specs.Hashed.{AreHashed}
use Rattle.ild_node.specs.Written.{IsNodeBlock, IsSound, bytes_of_bits, spelled}
use Rattle.ild_node.specs.declared.draft.Draft.{Draft}
use Rattle.ild_node.specs.declared.hashed.HashedEntry.{HashedEntry}
use Rattle.ild_node_slots.proofs.Shapes.{pow_few}
use Rattle.ild_node.proofs.Bits.{map-none, map-skip, map-whole}
use Rattle.ild_node.proofs.Nodes.{node-block, empty-sound}
use Rattle.ild_node.proofs.Writing.{spelled-append, node-done}

abbrev pub entry_bytes : HashedEntry → List ℕ
entry_bytes k = k.entry.now

pub entry-more : (ks : List HashedEntry) (i : ℕ) (k : HashedEntry) → i < length ks → k ≡ get_or ks i k → flat_map entry_bytes (take (i + 1) ks) ≡ flat_map entry_bytes (take i ks) ++ entry_bytes k
entry-more ks i k lt is =
    ap (flat_map entry_bytes) (take_more ks i k lt ∙ ap (λ x. take i ks ++ x ∷ []) (sym is)) ∙ flat_map-append entry_bytes (take i ks) (k ∷ []) ∙ ap (λ s. flat_map entry_bytes (take i ks) ++ s) (append-nil (entry_bytes k))

all_entries : (h : List ℕ → List ℕ) (es : List (List ℕ × Data)) (ks : List HashedEntry) → AreHashed h es ks → flat_map entry_bytes ks ≡ spelled (map entry_data es)
all_entries h [] [] are = refl
all_entries h [] (k ∷ ks) are = absurd are
all_entries h (e ∷ es) [] are = absurd are
all_entries h (e ∷ es) (k ∷ ks) are = (λ j. are.0.spelled j ++ all_entries h es ks are.1 j)

pub hashed-many : (h : List ℕ → List ℕ) (es : List (List ℕ × Data)) (ks : List HashedEntry) → AreHashed h es ks → length ks ≡ length es
hashed-many h [] [] are = refl
hashed-many h [] (k ∷ ks) are = absurd are
hashed-many h (e ∷ es) [] are = absurd are
hashed-many h (e ∷ es) (k ∷ ks) are = ap suc (hashed-many h es ks are.1)

pub entries-done : (h : List ℕ → List ℕ) (es : List (List ℕ × Data)) (start first out : List ℕ) (ks : List HashedEntry) (n i : ℕ) → AreHashed h es ks → first ≡ start ++ head 4 n → n ≡ length ks
    → out ≡ first ++ flat_map entry_bytes (take i ks) → length ks ≤ i → out ≡ start ++ spell (bucket_data es)
entries-done h es start first out ks n i are heads many so le =
    let count : n ≡ length (items_list (items_of (map entry_data es))) = many ∙ hashed-many h es ks are ∙ sym (length-items (map entry_data es) ∙ length-map es entry_data) in
    so ∙ (λ j. (heads ∙ ap (λ k. start ++ head 4 k) count) j ++ (ap (flat_map entry_bytes) (take_all i ks le) ∙ all_entries h es ks are) j)
    ∙ append_assoc start (head 4 (length (items_list (items_of (map entry_data es))))) (spelled (map entry_data es))

all_push : (p : HamtShape) (slots : List TrieSlot) (s : TrieSlot) → AllByRecursion (IsSound p) slots → IsSound p s → AllByRecursion (IsSound p) (slots ++ s ∷ [])
all_push p [] s all is = (is, tt)
all_push p (t ∷ slots) s all is = (all.0, all_push p slots s all.1 is)

items_more : (slots : List TrieSlot) (s : TrieSlot) → flat_map elements_of (slots ++ s ∷ []) ≡ flat_map elements_of slots ++ elements_of s
items_more slots s = flat_map-append elements_of slots (s ∷ []) ∙ ap (λ x. flat_map elements_of slots ++ x) (append-nil (elements_of s))

elements_more : (slots : List TrieSlot) (s : TrieSlot) → spelled (flat_map elements_of (slots ++ s ∷ [])) ≡ spelled (flat_map elements_of slots) ++ spelled (elements_of s)
elements_more slots s = ap spelled (items_more slots s) ∙ spelled-append (flat_map elements_of slots) (elements_of s)

used_more : (slots : List TrieSlot) (s : TrieSlot) → map is_used slots ++ is_used s ∷ [] ≡ map is_used (slots ++ s ∷ [])
used_more slots s = sym (map-append is_used slots (s ∷ []))

pub written-more : (p : HamtShape) (d e : Draft) (slots : List TrieSlot) (s : TrieSlot) (i : ℕ) → e.shape ≡ d.shape → HasWritten p d slots → length slots ≡ i → i < 2 ^ p.width → ((bits : List Bool) → length bits ≡ i → d.map ≡ map_so_far bits → e.map ≡ map_so_far (bits ++ true ∷ []))
    → (d.count + 1 < 2 ^ 64 → e.count ≡ d.count + 1) → is_used s ≡ true → length (elements_of s) ≡ 1 → e.elements ≡ d.elements ++ spelled (elements_of s) → IsSound p s
    → HasWritten p e (slots ++ s ∷ [])
written-more p d e slots s i keeps was at lt sets adds is one grows sound =
    let long = length-append slots (s ∷ []) in
    let few = was.few in
    let inside : length slots < 2 ^ p.width = omega (arith, at, lt) in
    let most = pow_few p in
    let counts : e.count ≡ d.count + 1 = adds (omega (arith, few, inside, most)) in
    let both : length (flat_map elements_of (slots ++ s ∷ [])) ≡ length (flat_map elements_of slots) + length (elements_of s) =
    ap length (items_more slots s) ∙ length-append (flat_map elements_of slots) (elements_of s) in
    let count = was.count in
    record {
      shape = keeps ∙ was.shape;
      within = omega (arith, long, inside);
      bits = sets (map is_used slots) (length-map slots is_used ∙ at) was.bits ∙ ap (λ b. map_so_far (map is_used slots ++ b ∷ [])) (sym is) ∙ ap map_so_far (used_more slots s);
      count = omega (arith, counts, both, one, count);
      few = omega (arith, counts, long, few);
      elements = grows ∙ ap (λ x. x ++ spelled (elements_of s)) was.elements ∙ sym (elements_more slots s);
      sound = all_push p slots s was.sound sound;
    }

-- an index that is passed over
pub written-skip : (p : HamtShape) (d : Draft) (slots : List TrieSlot) → HasWritten p d slots → length slots < 2 ^ p.width → HasWritten p d (slots ++ empty ∷ [])
written-skip p d slots was inside =
    let long = length-append slots (empty ∷ []) in
    let few = was.few in
    record {
      shape = was.shape;
      within = omega (arith, long, inside);
      bits = was.bits ∙ map-skip (map is_used slots) ∙ ap map_so_far (used_more slots empty);
      count = was.count ∙ ap length (sym (items_more slots empty ∙ append-nil (flat_map elements_of slots)));
      few = omega (arith, few, long);
      elements = was.elements ∙ sym (append-nil (spelled (flat_map elements_of slots))) ∙ sym (elements_more slots empty);
      sound = all_push p slots empty was.sound (empty-sound p);
    }

pub written-none : (p : HamtShape) (d : Draft) → d.shape ≡ p → d.map ≡ replicate 32 0 → d.count ≡ 0 → d.elements ≡ [] → HasWritten p d []
written-none p d shaped none count elements = record { shape = shaped; within = omega arith; bits = map-none d.map none; count = count; few = omega (arith, count); elements = elements; sound = tt }

pub bucket-sound : (p : HamtShape) (es : List (List ℕ × Data)) → FillBucket p es → IsSound p (bucket es)
bucket-sound p es fills = record { form = (fills.rows_are.0, fills.some, fills.few, fills.rows_are.1); values = fills.rows_are.2 }

-- all slots
pub written-done : (p : HamtShape) (d : Draft) (slots : List TrieSlot) (front_bytes begun out : List ℕ) → HasWritten p d slots → length slots ≡ 2 ^ p.width → front_bytes ≡ take (2 ^ d.shape.width / 8) d.map → begun ≡ head 4 2 ++ spell_bytes front_bytes ++ head 4 d.count → out ≡ begun ++ d.elements → IsNodeBlock p slots out
written-done p d slots front_bytes begun out was many front begins grows =
    let whole : front_bytes ≡ bytes_of_bits (map is_used slots) =
    front ∙ (λ j. take (2 ^ (was.shape j).width / 8) (was.bits j)) ∙ map-whole p (map is_used slots) (length-map slots is_used ∙ many) in
    node-block p slots out many was.sound
    (node-done elements_of slots slots (map is_used slots) begun out d.count (length slots) (begins ∙ ap (λ m. head 4 2 ++ spell_bytes m ++ head 4 d.count) whole) refl refl was.count
    (grows ∙ ap (λ s. begun ++ s) (was.elements ∙ ap (λ ss. spelled (flat_map elements_of ss)) (sym (take_all (length slots) slots (omega arith))))) (omega arith))
