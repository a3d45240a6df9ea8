-- The bits of a node's map, and that a node's data tells its slots.
use Rattle.std.proofs.Common.{◌≡◌, ℕ, zero, suc, ◌+◌, ◌*◌, ◌/◌, ◌%◌, ◌^◌, ◌<◌, Bool, true, false, cond, List, [], ◌∷◌, length, map, take, drop, get_or, refl, sym, ap, ◌∙◌, arith, flat_map}
use Rattle.std.proofs.lemmas.List.{get_or-take, get_or-drop, get_or-map, length-take, length-drop, length-map, ext_get_or}
use Rattle.std.proofs.lemmas.List.FromFn.{get_or-map-range_with_len}
use Rattle.std.proofs.lemmas.Nat.{shr-shr}
use Rattle.ild_data.specs.Data.{Data, items_of, items_list}
use Rattle.ild_data.proofs.Lists.{items_list-items_of}
use Rattle.ild_data.specs.Trie.{TrieSlot, empty, bucket, child, is_used, byte_of, map_of, entry_data, elements_of, node_data}

halved : (b : Bool) (m : ℕ) → (cond b 1 0 + 2 * m) / 2 ≡ m
halved true m = omega arith
halved false m = omega arith

lowest : (b : Bool) (m : ℕ) → (cond b 1 0 + 2 * m) % 2 ≡ cond b 1 0
lowest true m = omega arith
lowest false m = omega arith

divided : (n : ℕ) → n / 1 ≡ n
divided n = omega arith

one_more : (t : ℕ) → suc t ≡ 1 + t
one_more t = omega arith

-- bit t of the number of some bits is the t-th
pub bit_of-byte : (bs : List Bool) (t : ℕ) → t < length bs → byte_of bs / 2 ^ t % 2 ≡ cond (get_or bs t false) 1 0
bit_of-byte [] t lt = absurd (omega arith)
bit_of-byte (b ∷ bs) zero lt = ap (λ n. n % 2) (divided (cond b 1 0 + 2 * byte_of bs)) ∙ lowest b (byte_of bs)
bit_of-byte (b ∷ bs) (suc t) lt =
    ap (λ n. (cond b 1 0 + 2 * byte_of bs) / 2 ^ n % 2) (one_more t) ∙ ap (λ n. n % 2) (sym (shr-shr (cond b 1 0 + 2 * byte_of bs) 1 t))
    ∙ ap (λ n. n / 2 ^ t % 2) (halved b (byte_of bs)) ∙ bit_of-byte bs t (omega arith)

-- bit i of the map is bit i % 8, from the least significant, of byte i / 8
pub bit_of-map : (slots : List TrieSlot) (i : ℕ) → length slots % 8 ≡ 0 → i < length slots
    → get_or (map_of slots) (i / 8) 0 / 2 ^ (i % 8) % 2 ≡ cond (is_used (get_or slots i empty)) 1 0
bit_of-map slots i whole lt =
    let rows : i / 8 < length slots / 8 = omega arith in
    let row : List TrieSlot = take 8 (drop (8 * (i / 8)) slots) in
    let long : i % 8 < length row = omega (arith, length-take 8 (drop (8 * (i / 8)) slots), length-drop (8 * (i / 8)) slots) in
    ap (λ b. b / 2 ^ (i % 8) % 2) (get_or-map-range_with_len (λ j. byte_of (map is_used (take 8 (drop (8 * j) slots)))) 0 (length slots / 8) (i / 8) (i / 8) 0 rows (omega arith))
    ∙ bit_of-byte (map is_used row) (i % 8) (omega (arith, length-map row is_used))
    ∙ ap (λ b. cond b 1 0)
    (get_or-map is_used row (i % 8) empty false long
    ∙ ap is_used (get_or-take 8 (drop (8 * (i / 8)) slots) (i % 8) empty (omega arith) ∙ get_or-drop (8 * (i / 8)) slots (i % 8) empty
    ∙ ap (λ m. get_or slots m empty) (omega arith)))

-- which slots are used, by the map
one_bit : (a b : Bool) → ◌≡◌ {A = ℕ} (cond a 1 0) (cond b 1 0) → a ≡ b
one_bit true true e = refl
one_bit false false e = refl
one_bit true false e = absurd (omega arith)
one_bit false true e = absurd (omega arith)

pub same_used : (ss ts : List TrieSlot) → length ss % 8 ≡ 0 → length ts ≡ length ss → map_of ss ≡ map_of ts → map is_used ss ≡ map is_used ts
same_used ss ts whole long same =
    ext_get_or false (map is_used ss) (map is_used ts) (length-map ss is_used ∙ sym long ∙ sym (length-map ts is_used))
    (λ i lt.
    let inside : i < length ss = omega (arith, length-map ss is_used) in
    let inside_t : i < length ts = omega arith in
    get_or-map is_used ss i empty false inside
    ∙ one_bit _ _ (sym (bit_of-map ss i whole inside) ∙ ap (λ bs. get_or bs (i / 8) 0 / 2 ^ (i % 8) % 2) same ∙ bit_of-map ts i (ap (λ n. n % 8) long ∙ whole) inside_t)
    ∙ sym (get_or-map is_used ts i empty false inside_t))

-- the items of a list are told by it
same_items : (ds es : List Data) → items_of ds ≡ items_of es → ds ≡ es
same_items ds es e = sym (items_list-items_of ds) ∙ ap items_list e ∙ items_list-items_of es

same_entry : (e f : List ℕ × Data) → entry_data e ≡ entry_data f → e ≡ f
same_entry (k, v) (l, w) is = let keys : k ≡ l = cc in let values : v ≡ w = cc in λ i. (keys i, values i)

same_bucket : (es fs : List (List ℕ × Data)) → map entry_data es ≡ map entry_data fs → es ≡ fs
same_bucket [] [] is = refl
same_bucket [] (f ∷ fs) is = absurd cc
same_bucket (e ∷ es) [] is = absurd cc
same_bucket (e ∷ es) (f ∷ fs) is =
    let first : entry_data e ≡ entry_data f = cc in let rest : map entry_data es ≡ map entry_data fs = cc in
    λ i. same_entry e f first i ∷ same_bucket es fs rest i

pub same_slots : (ss ts : List TrieSlot) → map is_used ss ≡ map is_used ts → flat_map elements_of ss ≡ flat_map elements_of ts → ss ≡ ts
same_slots [] [] used elements = refl
same_slots [] (t ∷ ts) used elements = absurd cc
same_slots (s ∷ ss) [] used elements = absurd cc
same_slots (empty ∷ ss) (empty ∷ ts) used elements = ap (λ xs. empty ∷ xs) (same_slots ss ts (let rest : map is_used ss ≡ map is_used ts = cc in rest) elements)
same_slots (bucket es ∷ ss) (bucket fs ∷ ts) used elements =
    let first : items_of (map entry_data es) ≡ items_of (map entry_data fs) = cc in
    let rest : flat_map elements_of ss ≡ flat_map elements_of ts = cc in
    let bits : map is_used ss ≡ map is_used ts = cc in
    λ i. bucket (same_bucket es fs (same_items _ _ first) i) ∷ same_slots ss ts bits rest i
same_slots (child id ∷ ss) (child jd ∷ ts) used elements =
    let first : id ≡ jd = cc in
    let rest : flat_map elements_of ss ≡ flat_map elements_of ts = cc in
    let bits : map is_used ss ≡ map is_used ts = cc in
    λ i. child (first i) ∷ same_slots ss ts bits rest i
same_slots (empty ∷ ss) (bucket fs ∷ ts) used elements = absurd cc
same_slots (empty ∷ ss) (child id ∷ ts) used elements = absurd cc
same_slots (bucket es ∷ ss) (empty ∷ ts) used elements = absurd cc
same_slots (child id ∷ ss) (empty ∷ ts) used elements = absurd cc
same_slots (bucket es ∷ ss) (child id ∷ ts) used elements = absurd cc
same_slots (child id ∷ ss) (bucket es ∷ ts) used elements = absurd cc

-- a node's data tells its slots
pub same_node : (ss ts : List TrieSlot) → length ss % 8 ≡ 0 → length ts ≡ length ss → node_data ss ≡ node_data ts → ss ≡ ts
same_node ss ts whole long is =
    let maps : map_of ss ≡ map_of ts = cc in
    let elements : items_of (flat_map elements_of ss) ≡ items_of (flat_map elements_of ts) = cc in
    same_slots ss ts (same_used ss ts whole long maps) (same_items _ _ elements)
