-- What stands in one slot of a node.
use Rattle.std.proofs.Common.{◌≡◌, ℕ, zero, suc, ◌+◌, ◌*◌, ◌/◌, ◌%◌, ◌^◌, ◌<◌, ◌≤◌, ◌==◌, ⊎_elim, true, false, cond, List, [], ◌∷◌, ◌++◌, length, map, take, drop, get_or, Option, Some, None, option_map, refl, sym, ap, ◌∙◌, subst, arith, flat_map, append-nil}
use Rattle.std.specs.Prelude.{slice_get, IsSome, IfSome, IsUtf8, ◌↔◌}
use Rattle.std.proofs.Math.Seq.{take-suc}
use Rattle.std.proofs.lemmas.Bool.{false≢true, false_from_ne_true, cases_lt}
use Rattle.std.proofs.lemmas.List.FromFn.{length-map-range_with_len}
use Rattle.std.proofs.lemmas.List.{length-append}
use Rattle.std.proofs.lemmas.Grind.{flat_map-append}
use Rattle.ild_data.proofs.Gets.{next_is}
use Rattle.ild_data.specs.Data.{Data, link}
use Rattle.ild_data.specs.CidRead.{CidParts}
use Rattle.ild_data.specs.declared.id.BlockId.{BlockId}
use Rattle.ild_data.specs.Spell.{cid_of}
use Rattle.ild_data.proofs.Lists.{items_list-items_of, length-items}
use Rattle.std.proofs.lemmas.List.{length-map}
use Rattle.ild_cbor.specs.declared.node.Node.{Node}
use Rattle.ild_cbor.specs.Nodes.{HasData, Finds, IsPart}
use Rattle.ild_cbor.specs.Scalar.{link_of, count_of}
use Rattle.ild_cbor.specs.Span.{item_of, place_of}
use Rattle.ild_data.specs.declared.hamt_shape.HamtShape.{HamtShape}
use Rattle.ild_data.specs.Trie.{TrieSlot, empty, bucket, child, is_used, byte_of, map_of, elements_of, entry_data}
use Rattle.std.specs.Borrow.{Bor}
use Rattle.ild_typed.specs.Node.{IsSlot}
use Rattle.ild_node_slots.specs.Form.{AreTexts, AreSlots, bucket_data}
use Rattle.ild_typed.specs.NodeReading.{entry_in, links_block, id_in, child_in, map_bit}
use Rattle.ild_node_slots.specs.inside.Reading.{ones_below}
use Rattle.ild_node_slots.specs.Items.{IsAtItem}
use Rattle.ild_node_slots.specs.inside.Parts.{EntryIn}
use Rattle.ild_node_slots.specs.Places.{elements_data, elements_before, slot_place}
use Rattle.ild_node_slots.specs.Steps.{IsAtSlot}
use Rattle.ild_node_slots.specs.Views.{HasSlots, IsBucketAt, EntryIs, SlotHolds, SlotIs, ElementIs}
use Rattle.ild_node_slots.specs.declared.slots.Slots.{Slots}
use Rattle.ild_cbor.specs.declared.items.Items.{Items as ItemsLeft}
use Rattle.ild_cbor.specs.Steps.{ItemsGive}
use Rattle.ild_node_slots.proofs.Iter.{part-of, iter-step, iter-end}
use Rattle.ild_node_slots.specs.declared.bucket.Bucket.{Bucket}
use Rattle.ild_node_slots.specs.declared.view.NodeView.{NodeView}
use Rattle.ild_node_slots.specs.declared.view.NodeSlot.{NodeSlot}
use Rattle.ild_node_slots.specs.declared.view.NodeSlot.TheVariants as S
use Rattle.ild_typed.proofs.NodeEntries.{entry-read}
use Rattle.ild_typed.proofs.NodeElements.{block-link, id-read}
use Rattle.ild_node_slots.proofs.Shapes.{whole_map}
use Rattle.ild_typed.proofs.NodeMaps.{bit-read}

-- ---- the link of a child

pub child-some : (t : Data) (cid id : List ℕ) → Some cid ≡ link_of t → cid ≡ cid_of id → length id ≡ 32 → Some id ≡ child_in t
child-some (link s) cid id is whole long =
    let same : cid ≡ s = cc in
    sym (ap id_in (sym same ∙ whole) ∙ id-read id long)
child-some t cid id is whole long = absurd cc

pub child-none : (t : Data) (cid : List ℕ) → Some cid ≡ link_of t → ((id : List ℕ) → length id ≡ 32 → cid ≡ cid_of id → ⊥) → None ≡ child_in t
child-none (link s) cid is only =
    let same : cid ≡ s = cc in
    sym (ap (λ b. cond b (Some (drop 4 s)) None) (false_from_ne_true (links_block s) (λ e. let parts = block-link s e in only (drop 4 s) parts.1 (same ∙ parts.0))))
child-none t cid is only = absurd cc

pub child-no_link : (t : Data) → None ≡ link_of t → None ≡ child_in t
child-no_link (link s) is = absurd cc
child-no_link t is = refl

pub child-block : (t : Data) (cid : List ℕ) (r : Option BlockId) (parts : CidParts) → Some cid ≡ link_of t
    → (IsSome r ↔ ((parts.codec ≡ 0x71) × (parts.hash ≡ 0x12) × (length parts.digest ≡ 32))) → IfSome r (λ id. id.0 ≡ parts.digest) → IfSome r (λ id. cid ≡ cid_of id.0)
    → ((id : List ℕ) → length id ≡ 32 → cid ≡ cid_of id → IsSome r) → option_map (λ id. id.0) r ≡ child_in t
child-block t cid None parts is some digest whole only = child-none t cid is (λ id long same. false≢true (only id long same))
child-block t cid (Some b) parts is some digest whole only = child-some t cid b.0 is whole (ap length digest ∙ (some.0 refl).2)

-- ---- counting

pub len-some : (es : List (List ℕ × Data)) (n : ℕ) → Some n ≡ count_of (bucket_data es) → n ≡ length es
len-some es n is = let e : Some n ≡ Some (length es) = is ∙ ap Some (length-items (map entry_data es) ∙ length-map es entry_data) in cc

pub len-none : (es : List (List ℕ × Data)) → None ≡ count_of (bucket_data es) → 0 ≡ length es
len-none es is = absurd cc

pub count-bucket : (es : List (List ℕ × Data)) → count_of (bucket_data es) ≡ Some (length es)
count-bucket es = ap Some (length-items (map entry_data es) ∙ length-map es entry_data)

pub long_of : (s : TrieSlot) → length (elements_of s) ≡ cond (is_used s) 1 0
long_of empty = refl
long_of (bucket es) = refl
long_of (child id) = refl

ones-read : (slots : List TrieSlot) (i : ℕ) → length slots % 8 ≡ 0 → i ≤ length slots → ones_below (map_of slots) i ≡ length (flat_map elements_of (take i slots))
ones-read slots zero whole le = refl
ones-read slots (suc i) whole le =
    let s : TrieSlot = get_or slots i empty in
    (λ j. ones-read slots i whole (omega arith) j + cond (bit-read slots i whole (omega arith) j) 1 0)
    ∙ ap (λ n. length (flat_map elements_of (take i slots)) + n) (sym (ap length (one s) ∙ long_of s))
    ∙ sym (length-append (flat_map elements_of (take i slots)) (flat_map elements_of (s ∷ [])))
    ∙ ap length (sym (flat_map-append elements_of (take i slots) (s ∷ [])))
    ∙ ap (λ xs. length (flat_map elements_of xs)) (sym (take-suc slots i empty (omega arith)))
  where
    one : (s : TrieSlot) → flat_map elements_of (s ∷ []) ≡ elements_of s
    one empty = refl
    one (bucket es) = refl
    one (child id) = refl

pub parted_at : (slots : List TrieSlot) (i : ℕ) → i < length slots → slots ≡ take i slots ++ get_or slots i empty ∷ drop (suc i) slots
parted_at [] i lt = absurd (omega arith)
parted_at (s ∷ slots) zero lt = refl
parted_at (s ∷ slots) (suc i) lt = ap (λ xs. s ∷ xs) (parted_at slots i (omega arith))

slice_get_at : (xs ys : List Data) (d : Data) → slice_get (xs ++ d ∷ ys) (length xs) ≡ Some d
slice_get_at [] ys d = refl
slice_get_at (x ∷ xs) ys d = slice_get_at xs ys d

-- the element of a slot that is used
element-at : (slots : List TrieSlot) (i : ℕ) (d : Data) → i < length slots → elements_of (get_or slots i empty) ≡ d ∷ [] → slice_get (flat_map elements_of slots) (elements_before slots i) ≡ Some d
element-at slots i d lt is =
    let front : List Data = flat_map elements_of (take i slots) in
    let back : List Data = flat_map elements_of (drop (suc i) slots) in
    let all : flat_map elements_of slots ≡ front ++ d ∷ back =
    ap (flat_map elements_of) (parted_at slots i lt) ∙ flat_map-append elements_of (take i slots) (get_or slots i empty ∷ drop (suc i) slots)
    ∙ ap (λ xs. front ++ (xs ++ back)) is in
    ap (λ xs. slice_get xs (length front)) all ∙ slice_get_at front back d

-- ---- slots

is_empty : (s : TrieSlot) → is_used s ≡ false → s ≡ empty
is_empty empty e = refl
is_empty (bucket es) e = absurd cc
is_empty (child id) e = absurd cc

slot-form : (p : HamtShape) (slots : List TrieSlot) (i : ℕ) → AreSlots p slots → IsSlot p (get_or slots i empty)
slot-form p [] zero all = tt
slot-form p [] (suc i) all = tt
slot-form p (s ∷ slots) zero all = all.0
slot-form p (s ∷ slots) (suc i) all = slot-form p slots i all.1

past_byte : (m : List ℕ) (j : ℕ) → length m ≤ j → get_or m j 0 ≡ 0
past_byte [] j le = refl
past_byte (b ∷ m) zero le = absurd (omega arith)
past_byte (b ∷ m) (suc j) le = past_byte m j (omega arith)

past_slot : (slots : List TrieSlot) (i : ℕ) → length slots ≤ i → get_or slots i empty ≡ empty
past_slot [] i le = refl
past_slot (s ∷ slots) zero le = absurd (omega arith)
past_slot (s ∷ slots) (suc i) le = past_slot slots i (omega arith)

no_bit : (b n : ℕ) → b ≡ 0 → (b / 2 ^ n % 2 == 1) ≡ false
no_bit b n is = ap (λ c. c / 2 ^ n % 2 == 1) is ∙ zero_bit (2 ^ n)
  where
    zero_bit : (k : ℕ) → (0 / k % 2 == 1) ≡ false
    zero_bit zero = refl
    zero_bit (suc k) = ap (λ q. q % 2 == 1) (zero_div k)
      where
        zero_div : (k : ℕ) → 0 / suc k ≡ 0
        zero_div k = omega arith

-- past the last slot no bit is set
pub bit-past : (slots : List TrieSlot) (i : ℕ) → length slots % 8 ≡ 0 → length slots ≤ i → map_bit (map_of slots) i ≡ false
bit-past slots i whole le =
    no_bit (get_or (map_of slots) (i / 8) 0) (i % 8)
    (past_byte (map_of slots) (i / 8) (omega (arith, length-map-range_with_len (λ j. byte_of (map is_used (take 8 (drop (8 * j) slots)))) 0 (length slots / 8))))

-- a slot whose bit isn't set is empty
pub slot-off : (p : HamtShape) (v : NodeView) (slots : List TrieSlot) (i : ℕ) → length slots ≡ 2 ^ p.width → v.map.now ≡ map_of slots → map_bit v.map.now i ≡ false → get_or slots i empty ≡ empty
slot-off p v slots i many maps off =
    let whole = whole_map p.width (length slots) p.wide many in
    ⊎_elim (λ lt. is_empty (get_or slots i empty) (sym (bit-read slots i whole lt) ∙ ap (λ m. map_bit m i) (sym maps) ∙ off)) (λ le. past_slot slots i le) (cases_lt i (length slots))

-- a bit that is set is that of a slot
pub slot-within : (p : HamtShape) (m : List ℕ) (slots : List TrieSlot) (i : ℕ) → length slots ≡ 2 ^ p.width → m ≡ map_of slots → map_bit m i ≡ true → i < length slots
slot-within p m slots i many maps on =
    let whole = whole_map p.width (length slots) p.wide many in
    ⊎_elim (λ lt. lt) (λ le. absurd (false≢true (sym (bit-past slots i whole le) ∙ ap (λ m. map_bit m i) (sym maps) ∙ on))) (cases_lt i (length slots))

used_element : (s : TrieSlot) → is_used s ≡ true → (d : Data) × (elements_of s ≡ d ∷ [])
used_element empty e = absurd cc
used_element (bucket es) e = (bucket_data es, refl)
used_element (child id) e = (link (cid_of id), refl)

-- the element of a used slot
pub record ElementOf (slots : List TrieSlot) (i : ℕ) : Type 0 where
  pub of : Data
  pub is : elements_of (get_or slots i empty) ≡ of ∷ []
  pub found : slice_get (flat_map elements_of slots) (elements_before slots i) ≡ Some of

pub used-at : (p : HamtShape) (m : List ℕ) (slots : List TrieSlot) (i : ℕ) → length slots ≡ 2 ^ p.width → m ≡ map_of slots → map_bit m i ≡ true → ElementOf slots i
used-at p m slots i many maps on =
    let whole = whole_map p.width (length slots) p.wide many in
    let lt = slot-within p m slots i many maps on in
    let d = used_element (get_or slots i empty) (sym (bit-read slots i whole lt) ∙ ap (λ m. map_bit m i) (sym maps) ∙ on) in
    record { of = d.0; is = d.1; found = element-at slots i d.0 lt d.1 }

slot-child : (p : HamtShape) (s : TrieSlot) (d : Data) (id : List ℕ) → elements_of s ≡ d ∷ [] → IsSlot p s → child_in d ≡ Some id → s ≡ child id
slot-child p empty d id is form names = absurd cc
slot-child p (bucket es) d id is form names =
    let same : d ≡ bucket_data es = cc in
    absurd (let e : None ≡ Some id = ap child_in (sym same) ∙ names in cc)
slot-child p (child j) d id is form names =
    let same : d ≡ link (cid_of j) = cc in
    let e : Some j ≡ Some id = sym (id-read j form.0) ∙ ap child_in (sym same) ∙ names in
    let ids : j ≡ id = cc in
    ap child ids

bucket_at : (v : NodeView) (slots : List TrieSlot) (i : ℕ) (es : List (List ℕ × Data)) (b : Bucket) → IsPart v.node b.node (slot_place slots i) (bucket_data es) → AreTexts es → IsBucketAt v slots i b es
bucket_at v slots i es b part texts = record { entries = record { stands = part.stands; texts = texts }; part = part }

slot-bucket : (p : HamtShape) (v : NodeView) (slots : List TrieSlot) (i : ℕ) (s : TrieSlot) (d : Data) (b : Bucket) → elements_of s ≡ d ∷ [] → IsSlot p s → child_in d ≡ None → IsPart v.node b.node (slot_place slots i) d
    → SlotHolds v slots i (S.Bucket b) s
slot-bucket p v slots i empty d b is form names part = absurd cc
slot-bucket p v slots i (bucket es) d b is form names part =
    let same : d ≡ bucket_data es = cc in
    bucket_at v slots i es b (subst (λ (t : Data). IsPart v.node b.node (slot_place slots i) t) same part) form.3
slot-bucket p v slots i (child j) d b is form names part =
    let same : d ≡ link (cid_of j) = cc in
    absurd (let e : Some j ≡ None = sym (id-read j form.0) ∙ ap child_in (sym same) ∙ names in cc)

-- what is made of an element is what stands in the slot
slot-by : (p : HamtShape) (v : NodeView) (slots : List TrieSlot) (i : ℕ) (n : Node) (d : Data) (r : NodeSlot) (o : Option (List ℕ)) → elements_of (get_or slots i empty) ≡ d ∷ [] → IsSlot p (get_or slots i empty)
    → child_in d ≡ o → IsPart v.node n (slot_place slots i) d → ElementIs r n o → SlotIs v slots i r
slot-by p v slots i n d S.Empty None is form names part made = absurd made
slot-by p v slots i n d S.Empty (Some id) is form names part made = absurd made
slot-by p v slots i n d (S.Bucket b) None is form names part made =
    slot-bucket p v slots i (get_or slots i empty) d b is form names (subst (λ (m : Node). IsPart v.node m (slot_place slots i) d) (sym made) part)
slot-by p v slots i n d (S.Bucket b) (Some id) is form names part made = absurd made
slot-by p v slots i n d (S.Child id) None is form names part made = absurd made
slot-by p v slots i n d (S.Child id) (Some c) is form names part made =
    subst (λ (s : TrieSlot). SlotHolds v slots i (S.Child id) s) (sym (slot-child p (get_or slots i empty) d c is form names)) made

pub slot-is : (p : HamtShape) (v : NodeView) (slots : List TrieSlot) (i : ℕ) (n : Node) (r : NodeSlot) → HasSlots p v slots → (e : ElementOf slots i)
    → IsPart v.data n (place_of (elements_data slots) (elements_before slots i)) e.of → ElementIs r n (child_in e.of) → SlotIs v slots i r
slot-is p v slots i n r has e part made =
    slot-by p v slots i n e.of r (child_in e.of) e.is (slot-form p slots i has.form.each) refl (part-of v.node v.data n _ _ (elements_data slots) e.of has.part part) made

pub slot-empty : (v : NodeView) (slots : List TrieSlot) (i : ℕ) → get_or slots i empty ≡ empty → SlotIs v slots i S.Empty
slot-empty v slots i none = subst (λ (s : TrieSlot). SlotHolds v slots i S.Empty s) (sym none) tt

-- ---- one slot by its index

found_in : (n : Node) (place : ℕ) (o : Option Data) (d : Data) (m : Node) → o ≡ Some d → Finds n place o (Some m) → IsPart n m place d
found_in n place None d m is finds = absurd cc
found_in n place (Some u) d m is finds = let same : u ≡ d = cc in subst (λ (t : Data). IsPart n m place t) same finds

found_none : (n : Node) (place : ℕ) (o : Option Data) (d : Data) → o ≡ Some d → Finds n place o None → ⊥
found_none n place None d is finds = absurd cc
found_none n place (Some u) d is finds = finds

pub ones_of : (p : HamtShape) (slots : List TrieSlot) (m : List ℕ) (i n : ℕ) → length slots ≡ 2 ^ p.width → m ≡ map_of slots → i < length slots → n ≡ ones_below m i → n ≡ elements_before slots i
ones_of p slots m i n many maps lt before = before ∙ ap (λ m. ones_below m i) maps ∙ ones-read slots i (whole_map p.width (length slots) p.wide many) (omega arith)

item_is : (slots : List TrieSlot) (n : ℕ) → item_of (elements_data slots) n ≡ slice_get (flat_map elements_of slots) n
item_is slots n = ap (λ xs. slice_get xs n) (items_list-items_of (flat_map elements_of slots))

pub slot-on : (p : HamtShape) (v : NodeView) (slots : List TrieSlot) (i n : ℕ) (m : Node) (r : NodeSlot) → HasSlots p v slots → map_bit v.map.now i ≡ true → n ≡ ones_below v.map.now i
    → ((t : Data) → HasData v.data t → Finds v.data (place_of t n) (item_of t n) (Some m)) → ((t : Data) → HasData m t → ElementIs r m (child_in t)) → SlotIs v slots i r
slot-on p v slots i n m r has on before finds made =
    let lt = slot-within p v.map.now slots i has.form.many has.map on in
    let e = used-at p v.map.now slots i has.form.many has.map on in
    let at = ones_of p slots v.map.now i n has.form.many has.map lt before in
    let part = found_in v.data (place_of (elements_data slots) n) (item_of (elements_data slots) n) e.of m (item_is slots n ∙ ap (slice_get (flat_map elements_of slots)) at ∙ e.found) (finds (elements_data slots) has.part.stands) in
    slot-is p v slots i m r has e (subst (λ (k : ℕ). IsPart v.data m (place_of (elements_data slots) k) e.of) at part) (made e.of part.stands)

pub slot-missing : (p : HamtShape) (v : NodeView) (slots : List TrieSlot) (i n : ℕ) → HasSlots p v slots → map_bit v.map.now i ≡ true → n ≡ ones_below v.map.now i
    → ((t : Data) → HasData v.data t → Finds v.data (place_of t n) (item_of t n) None) → ⊥
slot-missing p v slots i n has on before finds =
    let lt = slot-within p v.map.now slots i has.form.many has.map on in
    let e = used-at p v.map.now slots i has.form.many has.map on in
    let at = ones_of p slots v.map.now i n has.form.many has.map lt before in
    found_none v.data (place_of (elements_data slots) n) (item_of (elements_data slots) n) e.of (item_is slots n ∙ ap (slice_get (flat_map elements_of slots)) at ∙ e.found) (finds (elements_data slots) has.part.stands)

-- ---- all slots in turn

elements_more : (slots : List TrieSlot) (i : ℕ) → i < length slots → flat_map elements_of (take (i + 1) slots) ≡ flat_map elements_of (take i slots) ++ elements_of (get_or slots i empty)
elements_more slots i lt =
    ap (λ k. flat_map elements_of (take k slots)) (sym (next_is i)) ∙ ap (flat_map elements_of) (take-suc slots i empty lt)
    ∙ flat_map-append elements_of (take i slots) (get_or slots i empty ∷ []) ∙ ap (λ xs. flat_map elements_of (take i slots) ++ xs) (append-nil (elements_of (get_or slots i empty)))

before-off : (slots : List TrieSlot) (i : ℕ) → i < length slots → get_or slots i empty ≡ empty → elements_before slots (i + 1) ≡ elements_before slots i
before-off slots i lt none = ap length (elements_more slots i lt ∙ ap (λ s. flat_map elements_of (take i slots) ++ elements_of s) none ∙ append-nil (flat_map elements_of (take i slots)))

before-on : (slots : List TrieSlot) (i : ℕ) (d : Data) → i < length slots → elements_of (get_or slots i empty) ≡ d ∷ [] → elements_before slots (i + 1) ≡ elements_before slots i + 1
before-on slots i d lt is =
    ap length (elements_more slots i lt ∙ ap (λ xs. flat_map elements_of (take i slots) ++ xs) is) ∙ length-append (flat_map elements_of (take i slots)) (d ∷ [])

pub step-end : (v : NodeView) (slots : List TrieSlot) (i : ℕ) (s : Slots) → IsAtSlot v slots i s → s.next ≡ s.count → length slots ≤ i
step-end v slots i s at is = let n = at.next in let c = at.count in omega arith

pub step-off : (p : HamtShape) (v : NodeView) (slots : List TrieSlot) (i : ℕ) (s t : Slots) → HasSlots p v slots → IsAtSlot v slots i s → s.next < s.count → map_bit s.map.now s.next ≡ false
    → t.map.now ≡ s.map.now → t.next ≡ s.next + 1 → t.count ≡ s.count → t.elements ≡ s.elements → (i < length slots) × SlotIs v slots i S.Empty × IsAtSlot v slots (i + 1) t
step-off p v slots i s t has at lt off maps next counts same =
    let l = at.count in
    let n = at.next in
    let within : i < length slots = omega arith in
    let none = slot-off p v slots i has.form.many has.map (ap (λ m. map_bit m i) (has.map ∙ sym at.map) ∙ ap (map_bit s.map.now) (sym n) ∙ off) in (
      within,
      slot-empty v slots i none,
      record {
        map = maps ∙ at.map;
        next = next ∙ ap (λ k. k + 1) n;
        count = counts ∙ at.count;
        elements = subst (λ (k : ℕ). IsAtItem v.data (flat_map elements_of slots) k t.elements) (sym (before-off slots i within none))
            (subst (λ (it : ItemsLeft). IsAtItem v.data (flat_map elements_of slots) (elements_before slots i) it) (sym same) at.elements);
      },
    )

pub step-on : (p : HamtShape) (v : NodeView) (slots : List TrieSlot) (i : ℕ) (s t : Slots) (m : Node) (r : NodeSlot) → HasSlots p v slots → IsAtSlot v slots i s → s.next < s.count
    → map_bit s.map.now s.next ≡ true → t.map.now ≡ s.map.now → t.next ≡ s.next + 1 → t.count ≡ s.count → ItemsGive s.elements (Some m) t.elements → ((u : Data) → HasData m u → ElementIs r m (child_in u))
    → (i < length slots) × SlotIs v slots i r × IsAtSlot v slots (i + 1) t
step-on p v slots i s t m r has at lt on maps next counts gives made =
    let l = at.count in
    let n = at.next in
    let within : i < length slots = omega arith in
    let e = used-at p s.map.now slots i has.form.many at.map (ap (map_bit s.map.now) (sym n) ∙ on) in
    let step = iter-step v.data (flat_map elements_of slots) (elements_before slots i) s.elements t.elements m at.elements gives in
    let same : step.of ≡ e.of = some_same step.of e.of (sym step.is ∙ e.found) in (
      within,
      slot-is p v slots i m r has e (subst (λ (d : Data). IsPart v.data m (place_of (elements_data slots) (elements_before slots i)) d) same step.part) (made e.of (subst (λ (d : Data). HasData m d) same step.part.stands)),
      record {
        map = maps ∙ at.map;
        next = next ∙ ap (λ k. k + 1) n;
        count = counts ∙ at.count;
        elements = subst (λ (k : ℕ). IsAtItem v.data (flat_map elements_of slots) k t.elements) (sym (before-on slots i e.of within e.is)) step.next;
      },
    )
  where
    some_same : (a b : Data) → ◌≡◌ {A = Option Data} (Some a) (Some b) → a ≡ b
    some_same a b is = cc

past_get : (ds : List Data) (k : ℕ) (d : Data) → slice_get ds k ≡ Some d → length ds ≤ k → ⊥
past_get ds k d is le = past ds k is le
  where
    past : (ds : List Data) (k : ℕ) → slice_get ds k ≡ Some d → length ds ≤ k → ⊥
    past [] k is le = absurd cc
    past (e ∷ ds) zero is le = omega arith
    past (e ∷ ds) (suc k) is le = past ds k is (omega arith)

pub step-missing : (p : HamtShape) (v : NodeView) (slots : List TrieSlot) (i : ℕ) (s : Slots) (it : ItemsLeft) → HasSlots p v slots → IsAtSlot v slots i s → map_bit s.map.now s.next ≡ true
    → ItemsGive s.elements None it → ⊥
step-missing p v slots i s it has at on gives =
    let e = used-at p s.map.now slots i has.form.many at.map (ap (map_bit s.map.now) (sym at.next) ∙ on) in
    past_get (flat_map elements_of slots) (elements_before slots i) e.of e.found (iter-end v.data (flat_map elements_of slots) (elements_before slots i) s.elements it at.elements gives)

-- ---- the entries of a bucket

text-at : (es : List (List ℕ × Data)) (i : ℕ) (e : List ℕ × Data) → AreTexts es → slice_get es i ≡ Some e → IsUtf8 e.0
text-at [] i e all is = absurd cc
text-at (f ∷ es) zero e all is = let same : f ≡ e = cc in subst (λ (x : List ℕ × Data). IsUtf8 x.0) same all.0
text-at (f ∷ es) (suc i) e all is = text-at es i e all.1 is

item-bucket : (es : List (List ℕ × Data)) (i : ℕ) → item_of (bucket_data es) i ≡ option_map entry_data (slice_get es i)
item-bucket es i = ap (λ xs. slice_get xs i) (items_list-items_of (map entry_data es)) ∙ get_map es i
  where
    get_map : (es : List (List ℕ × Data)) (i : ℕ) → slice_get (map entry_data es) i ≡ option_map entry_data (slice_get es i)
    get_map [] i = refl
    get_map (e ∷ es) zero = refl
    get_map (e ∷ es) (suc i) = get_map es i

past : (b : Bucket) (es : List (List ℕ × Data)) (i place : ℕ) (q : Option (List ℕ × Data)) → Finds b.node place (option_map entry_data q) None → EntryIs b es i q None
past b es i place None finds = tt
past b es i place (Some e) finds = absurd finds

pub entry-past : (b : Bucket) (es : List (List ℕ × Data)) (i place : ℕ) → Finds b.node place (item_of (bucket_data es) i) None → EntryIs b es i (slice_get es i) None
entry-past b es i place finds = past b es i place (slice_get es i) (subst (λ (o : Option Data). Finds b.node place o None) (item-bucket es i) finds)

read_as : (b : Bucket) (es : List (List ℕ × Data)) (i : ℕ) (m : Node) (e : List ℕ × Data) (o : Option (List ℕ × Data)) (r : Option (Bor (List ℕ) × Node)) → o ≡ Some e
    → IsPart b.node m (place_of (bucket_data es) i) (entry_data e) → EntryIn m (entry_data e) o r → EntryIs b es i (Some e) r
read_as b es i m e None r is part reads = absurd cc
read_as b es i m e (Some f) None is part reads = absurd reads
read_as b es i m e (Some f) (Some r) is part reads =
    let same : f ≡ e = some_same f e is in
    (reads.0 ∙ ap (λ (x : List ℕ × Data). x.0) same, part-of b.node m r.1 _ _ (entry_data e) e.1 part (subst (λ (d : Data). IsPart m r.1 (place_of (entry_data e) 1) d) (ap (λ (x : List ℕ × Data). x.1) same) reads.1))
  where
    some_same : (f e : List ℕ × Data) → ◌≡◌ {A = Option (List ℕ × Data)} (Some f) (Some e) → f ≡ e
    some_same f e is = cc

here : (b : Bucket) (es : List (List ℕ × Data)) (i : ℕ) (m : Node) (q : Option (List ℕ × Data)) (r : Option (Bor (List ℕ) × Node)) → Finds b.node (place_of (bucket_data es) i) (option_map entry_data q) (Some m)
    → ((d : Data) → HasData m d → EntryIn m d (entry_in d) r) → ((e : List ℕ × Data) → q ≡ Some e → IsUtf8 e.0) → EntryIs b es i q r
here b es i m None r finds reads texts = absurd finds
here b es i m (Some e) r finds reads texts = read_as b es i m e (entry_in (entry_data e)) r (entry-read e (texts e refl)) finds (reads (entry_data e) finds.stands)

pub entry-here : (b : Bucket) (es : List (List ℕ × Data)) (i : ℕ) (m : Node) (r : Option (Bor (List ℕ) × Node)) → AreTexts es → Finds b.node (place_of (bucket_data es) i) (item_of (bucket_data es) i) (Some m)
    → ((d : Data) → HasData m d → EntryIn m d (entry_in d) r) → EntryIs b es i (slice_get es i) r
entry-here b es i m r all finds reads =
    here b es i m (slice_get es i) r (subst (λ (o : Option Data). Finds b.node (place_of (bucket_data es) i) o (Some m)) (item-bucket es i) finds) reads (λ e is. text-at es i e all is)
