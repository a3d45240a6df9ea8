-- What the writers of nodes have appended so far.
use Rattle.std.proofs.Common.{◌≡◌, ℕ, zero, suc, ◌+◌, ◌-◌, ◌*◌, ◌/◌, ◌<◌, ◌≤◌, ◌^◌, ◌==◌, Bool, true, false, cond, List, [], ◌∷◌, ◌++◌, length, map, take, drop, get_or, Option, Some, None, refl, sym, ap, ◌∙◌, subst, arith, flat_map, append_assoc, append-nil, ⊎_elim}
use Rattle.std.specs.Prelude.{is_some, codes}
use Rattle.std.specs.List.{range_with_len, AllByRecursion, count_by}
use Rattle.std.proofs.lemmas.Bool.{eqb-true, eqb-false, cases_Bool, cases_lt, false≢true}
use Rattle.std.proofs.lemmas.List.{take_more, take_all, length-map, length-append, take-map, drop-map}
use Rattle.std.proofs.lemmas.List.FromFn.{map-range_with_len_more}
use Rattle.std.proofs.lemmas.List.Recursion.{is_count_by}
use Rattle.std.proofs.lemmas.Grind.{flat_map-append}
use Rattle.ild_data.specs.Data.{Data, items_of, items_list}
use Rattle.ild_data.specs.Spell.{head, spell, spell_bytes, spell_text}
use Rattle.ild_data.proofs.Lists.{length-items}
use Rattle.ild_data.specs.Trie.{TrieSlot, empty, bucket, child, byte_of, is_used, map_of, entry_data, elements_of, node_data}
use Rattle.ild_data.specs.declared.hamt_shape.HamtShape.{HamtShape}
use Rattle.ild_typed.specs.Hamt.{root_map}
use Rattle.ild_node_slots.specs.Form.{bucket_data}
use Rattle.ild_node.specs.NewSlots.{hold_seen, slot_seen, spread, is_next, IndicesRise}
use Rattle.ild_node.specs.Rows.{row_seen, rows_seen}
use Rattle.ild_node.specs.Written.{bytes_of_bits, spelled}
use Rattle.ild_node.specs.declared.hold.NewHold.{NewHold}
use Rattle.ild_node.specs.declared.hold.NewHold.TheVariants as N
use Rattle.ild_node.specs.declared.hold.NewSlot.{NewSlot}
use Rattle.ild_node.specs.declared.row.Row.{Row}

abbrev pub row_items : Row → List Data
row_items r = entry_data (row_seen r) ∷ []

abbrev pub hold_items : NewSlot → List Data
hold_items s = elements_of (hold_seen s.hold)

abbrev pub slot_items : Option NewHold → List Data
slot_items s = elements_of (slot_seen s)

pub spelled-append : (xs ys : List Data) → spelled (xs ++ ys) ≡ spelled xs ++ spelled ys
spelled-append [] ys = refl
spelled-append (x ∷ xs) ys = ap (λ s. spell x ++ s) (spelled-append xs ys) ∙ sym (append_assoc (spell x) (spelled xs) (spelled ys))

one_of : {X : Type 0} (f : X → List Data) (x : X) → flat_map f (x ∷ []) ≡ f x
one_of f x = append-nil (f x)

flat-more : {X : Type 0} (f : X → List Data) (xs : List X) (i : ℕ) (x : X) → i < length xs → x ≡ get_or xs i x → flat_map f (take (i + 1) xs) ≡ flat_map f (take i xs) ++ f x
flat-more f xs i x lt is =
    ap (flat_map f) (take_more xs i x lt) ∙ flat_map-append f (take i xs) (get_or xs i x ∷ [])
    ∙ ap (λ ys. flat_map f (take i xs) ++ ys) (one_of f (get_or xs i x) ∙ ap f (sym is))

pub spelled-more : {X : Type 0} (f : X → List Data) (xs : List X) (i : ℕ) (x : X) → i < length xs → x ≡ get_or xs i x → spelled (flat_map f (take (i + 1) xs)) ≡ spelled (flat_map f (take i xs)) ++ spelled (f x)
spelled-more f xs i x lt is = ap spelled (flat-more f xs i x lt is) ∙ spelled-append (flat_map f (take i xs)) (f x)

pub grown-more : (start now new a b all : List ℕ) → now ≡ start ++ a → new ≡ now ++ b → all ≡ a ++ b → new ≡ start ++ all
grown-more start now new a b all was adds is = adds ∙ ap (λ s. s ++ b) was ∙ append_assoc start a b ∙ ap (λ s. start ++ s) (sym is)

pub row-more : (rows : List Row) (i : ℕ) (r : Row) → i < length rows → r ≡ get_or rows i r → spelled (flat_map row_items (take (i + 1) rows)) ≡ spelled (flat_map row_items (take i rows)) ++ spell (entry_data (row_seen r))
row-more rows i r lt is = spelled-more row_items rows i r lt is ∙ ap (λ s. spelled (flat_map row_items (take i rows)) ++ s) (append-nil (spell (entry_data (row_seen r))))

all_rows : (rows : List Row) → flat_map row_items rows ≡ map entry_data (rows_seen rows)
all_rows [] = refl
all_rows (r ∷ rows) = ap (λ ds. entry_data (row_seen r) ∷ ds) (all_rows rows)

pub bucket-done : (start first out : List ℕ) (rows : List Row) (n i : ℕ) → first ≡ start ++ head 4 n → n ≡ length rows → out ≡ first ++ spelled (flat_map row_items (take i rows)) → length rows ≤ i
    → out ≡ start ++ spell (bucket_data (rows_seen rows))
bucket-done start first out rows n i heads many so le =
    let count : n ≡ length (items_list (items_of (map entry_data (rows_seen rows)))) =
    many ∙ sym (length-items (map entry_data (rows_seen rows)) ∙ length-map (rows_seen rows) entry_data ∙ length-map rows row_seen) in
    so ∙ (λ j. (heads ∙ ap (λ k. start ++ head 4 k) count) j ++ spelled ((ap (flat_map row_items) (take_all i rows le) ∙ all_rows rows) j))
    ∙ append_assoc start (head 4 (length (items_list (items_of (map entry_data (rows_seen rows)))))) (spelled (map entry_data (rows_seen rows)))

-- ---- what holds of all so far

pub all-more : {X : Type 0} (P : X → Type 0) (xs : List X) (i : ℕ) (x : X) → AllByRecursion P (take i xs) → i < length xs → x ≡ get_or xs i x → P x → AllByRecursion P (take (i + 1) xs)
all-more {X = X} P xs i x all lt is holds = subst (λ (n : ℕ). AllByRecursion P (take n xs)) (next i) (by xs i all lt is)
  where
    next : (i : ℕ) → suc i ≡ i + 1
    next i = omega arith

    by : (xs : List X) (i : ℕ) → AllByRecursion P (take i xs) → i < length xs → x ≡ get_or xs i x → AllByRecursion P (take (suc i) xs)
    by [] i all lt is = absurd (omega arith)
    by (y ∷ xs) zero all lt is = (subst P is holds, tt)
    by (y ∷ xs) (suc i) all lt is = (all.0, by xs i all.1 (omega arith) is)

pub all-of : {X : Type 0} (P : X → Type 0) (xs : List X) (i : ℕ) → AllByRecursion P (take i xs) → length xs ≤ i → AllByRecursion P xs
all-of {X = X} P xs i all le = subst (λ (ys : List X). AllByRecursion P ys) (take_all i xs le) all

pub all-at : {X : Type 0} (P : X → Type 0) (xs : List X) (i : ℕ) (x : X) → AllByRecursion P xs → i < length xs → x ≡ get_or xs i x → P x
all-at P [] i x all lt is = absurd (omega arith)
all-at P (y ∷ xs) zero x all lt is = subst P (sym is) all.0
all-at P (y ∷ xs) (suc i) x all lt is = all-at P xs i x all.1 (omega arith) is

-- ---- the map

pub byte-more : (bits piece : List Bool) (j b : ℕ) (old new : List ℕ) → old ≡ map (λ k. byte_of (take 8 (drop (8 * k) bits))) (range_with_len 0 j) → piece ≡ take (8 * j + 8 - 8 * j) (drop (8 * j) bits)
    → b ≡ byte_of piece → new ≡ old ++ b ∷ [] → new ≡ map (λ k. byte_of (take 8 (drop (8 * k) bits))) (range_with_len 0 (j + 1))
byte-more bits piece j b old new so is here adds =
    let eight : 8 * j + 8 - 8 * j ≡ 8 = omega arith in
    adds ∙ (λ k. so k ++ (here ∙ ap byte_of (is ∙ ap (λ n. take n (drop (8 * j) bits)) eight)) k ∷ []) ∙ sym (map-range_with_len_more (λ k. byte_of (take 8 (drop (8 * k) bits))) 0 j j (omega arith))

pub map-is : (slots : List TrieSlot) → bytes_of_bits (map is_used slots) ≡ map_of slots
map-is slots = (λ j. map (λ k. byte_of (row k j)) (range_with_len 0 (length (map is_used slots) / 8))) ∙ ap (λ n. map (λ k. byte_of (map is_used (take 8 (drop (8 * k) slots)))) (range_with_len 0 (n / 8))) (length-map slots is_used)
  where
    row : (k : ℕ) → take 8 (drop (8 * k) (map is_used slots)) ≡ map is_used (take 8 (drop (8 * k) slots))
    row k = ap (take 8) (drop-map is_used (8 * k) slots) ∙ take-map is_used 8 (drop (8 * k) slots)

-- ---- the slots of given indices

-- the bits so far, and those of the slots that are left
pub record BitsLeft (slots : List NewSlot) (count i next : ℕ) (bits : List Bool) : Type 0 where
  pub same : map is_used (spread 0 count slots) ≡ bits ++ map is_used (spread i (count - i) (drop next slots))
  pub within : next ≤ length slots

one_more : (i count : ℕ) → i < count → count - i ≡ suc (count - (i + 1))
one_more i count lt = omega arith

used_hold : (h : NewHold) → is_used (hold_seen h) ≡ true
used_hold (N.Child id) = refl
used_hold (N.Bucket rows) = refl

spread_on : (i n : ℕ) (s : NewSlot) (ss : List NewSlot) → (s.index == i) ≡ true → spread i (suc n) (s ∷ ss) ≡ hold_seen s.hold ∷ spread (i + 1) n ss
spread_on i n s ss is = ap (λ b. cond b (hold_seen s.hold ∷ spread (i + 1) n ss) (empty ∷ spread (i + 1) n (s ∷ ss))) is

spread_off : (i n : ℕ) (s : NewSlot) (ss : List NewSlot) → (s.index == i) ≡ false → spread i (suc n) (s ∷ ss) ≡ empty ∷ spread (i + 1) n (s ∷ ss)
spread_off i n s ss is = ap (λ b. cond b (hold_seen s.hold ∷ spread (i + 1) n ss) (empty ∷ spread (i + 1) n (s ∷ ss))) is

used_on : (i n : ℕ) (ss : List NewSlot) → is_next i ss ≡ true → map is_used (spread i (suc n) ss) ≡ true ∷ map is_used (spread (i + 1) n (drop 1 ss))
used_on i n [] is = absurd cc
used_on i n (s ∷ ss) is = ap (map is_used) (spread_on i n s ss is) ∙ ap (λ b. b ∷ map is_used (spread (i + 1) n ss)) (used_hold s.hold)

used_off : (i n : ℕ) (ss : List NewSlot) → is_next i ss ≡ false → map is_used (spread i (suc n) ss) ≡ false ∷ map is_used (spread (i + 1) n ss)
used_off i n [] is = refl
used_off i n (s ∷ ss) is = ap (map is_used) (spread_off i n s ss is)

next_drop : (next : ℕ) (slots : List NewSlot) → drop 1 (drop next slots) ≡ drop (next + 1) slots
next_drop zero slots = refl
next_drop (suc next) [] = sym (drop_nil (suc next + 1))
  where
    drop_nil : (n : ℕ) → drop {A = NewSlot} n [] ≡ []
    drop_nil zero = refl
    drop_nil (suc n) = refl
next_drop (suc next) (s ∷ slots) = next_drop next slots ∙ ap (λ n. drop n (s ∷ slots)) (two next)
  where
    two : (n : ℕ) → suc (n + 1) ≡ suc n + 1
    two n = omega arith

pub bits-on : (slots : List NewSlot) (count i next : ℕ) (bits new : List Bool) → BitsLeft slots count i next bits → i < count → next < length slots → is_next i (drop next slots) ≡ true → new ≡ bits ++ true ∷ []
    → BitsLeft slots count (i + 1) (next + 1) new
bits-on slots count i next bits new l lt inside on adds = record {
  same = l.same ∙ ap (λ n. bits ++ map is_used (spread i n (drop next slots))) (one_more i count lt)
      ∙ ap (λ bs. bits ++ bs) (used_on i (count - (i + 1)) (drop next slots) on ∙ ap (λ ss. true ∷ map is_used (spread (i + 1) (count - (i + 1)) ss)) (next_drop next slots))
      ∙ sym (append_assoc bits (true ∷ []) _) ∙ ap (λ bs. bs ++ map is_used (spread (i + 1) (count - (i + 1)) (drop (next + 1) slots))) (sym adds);
  within = omega arith;
}

pub bits-off : (slots : List NewSlot) (count i next : ℕ) (bits new : List Bool) → BitsLeft slots count i next bits → i < count → is_next i (drop next slots) ≡ false → new ≡ bits ++ false ∷ []
    → BitsLeft slots count (i + 1) next new
bits-off slots count i next bits new l lt off adds = record {
  same = l.same ∙ ap (λ n. bits ++ map is_used (spread i n (drop next slots))) (one_more i count lt)
      ∙ ap (λ bs. bits ++ bs) (used_off i (count - (i + 1)) (drop next slots) off)
      ∙ sym (append_assoc bits (false ∷ []) _) ∙ ap (λ bs. bs ++ map is_used (spread (i + 1) (count - (i + 1)) (drop next slots))) (sym adds);
  within = l.within;
}

pub is-next : (slots : List NewSlot) (i next : ℕ) (s : NewSlot) → next < length slots → s ≡ get_or slots next s → is_next i (drop next slots) ≡ (s.index == i)
is-next [] i next s lt is = absurd (omega arith)
is-next (t ∷ slots) i zero s lt is = ap (λ (x : NewSlot). x.index == i) (sym is)
is-next (t ∷ slots) i (suc next) s lt is = is-next slots i next s (omega arith) is

pub not-next : (slots : List NewSlot) (i next : ℕ) → length slots ≤ next → is_next i (drop next slots) ≡ false
not-next [] i zero le = refl
not-next [] i (suc next) le = refl
not-next (t ∷ slots) i zero le = absurd (omega arith)
not-next (t ∷ slots) i (suc next) le = not-next slots i next (omega arith)

next_within : (slots : List NewSlot) (i next : ℕ) → is_next i (drop next slots) ≡ true → next < length slots
next_within slots i next on = ⊎_elim (λ lt. lt) (λ le. absurd (false≢true (sym (not-next slots i next le) ∙ on))) (cases_lt next (length slots))

pub bits-step : (slots : List NewSlot) (count i next : ℕ) (bits new : List Bool) (on : Bool) → BitsLeft slots count i next bits → i < count → on ≡ is_next i (drop next slots) → new ≡ bits ++ on ∷ []
    → BitsLeft slots count (i + 1) (next + cond on 1 0) new
bits-step slots count i next bits new true l lt is adds = bits-on slots count i next bits new l lt (next_within slots i next (sym is)) (sym is) adds
bits-step slots count i next bits new false l lt is adds = subst (λ (n : ℕ). BitsLeft slots count (i + 1) n new) (no_more next) (bits-off slots count i next bits new l lt (sym is) adds)
  where
    no_more : (n : ℕ) → n ≡ n + 0
    no_more n = omega arith

pub bits-first : (slots : List NewSlot) (count : ℕ) → BitsLeft slots count 0 0 []
bits-first slots count = record { same = ap (λ n. map is_used (spread 0 n slots)) (whole count); within = omega arith }
  where
    whole : (n : ℕ) → n ≡ n - 0
    whole n = omega arith

pub bits-done : (slots : List NewSlot) (count i next : ℕ) (bits : List Bool) → BitsLeft slots count i next bits → count ≤ i → bits ≡ map is_used (spread 0 count slots)
bits-done slots count i next bits l le =
    let none : count - i ≡ 0 = omega arith in
    sym (l.same ∙ ap (λ n. bits ++ map is_used (spread i n (drop next slots))) none ∙ append-nil bits)

-- the elements of the slots are those of the given ones, which rise
pub elements-spread : (p : HamtShape) (i n : ℕ) (ss : List NewSlot) → IndicesRise p i ss → i + n ≡ 2 ^ p.width → flat_map elements_of (spread i n ss) ≡ flat_map hold_items ss
elements-spread p i zero [] rise whole = refl
elements-spread p i zero (s ∷ ss) rise whole = absurd (let a = rise.0 in let b = rise.1 in omega arith)
elements-spread p i (suc n) [] rise whole = elements-spread p (i + 1) n [] tt (omega arith)
elements-spread p i (suc n) (s ∷ ss) rise whole = ⊎_elim
    (λ on. let same : s.index ≡ i = eqb-true s.index i on in
    ap (flat_map elements_of) (spread_on i n s ss on)
    ∙ ap (λ ds. hold_items s ++ ds) (elements-spread p (i + 1) n ss (subst (λ (k : ℕ). IndicesRise p (k + 1) ss) same rise.2) (omega arith)))
    (λ off. ap (flat_map elements_of) (spread_off i n s ss off) ∙ elements-spread p (i + 1) n (s ∷ ss) (above off, rise.1, rise.2) (omega arith))
    (cases_Bool (s.index == i))
  where
    above : (s.index == i) ≡ false → i + 1 ≤ s.index
    above off = ⊎_elim (λ lt. omega arith) (λ le. absurd (eqb-false s.index i off (let a = rise.0 in omega arith))) (cases_lt i s.index)

pub length-spread : (i n : ℕ) (ss : List NewSlot) → length (spread i n ss) ≡ n
length-spread i zero ss = refl
length-spread i (suc n) [] = ap suc (length-spread (i + 1) n [])
length-spread i (suc n) (s ∷ ss) = ⊎_elim
    (λ on. ap length (spread_on i n s ss on) ∙ ap suc (length-spread (i + 1) n ss))
    (λ off. ap length (spread_off i n s ss off) ∙ ap suc (length-spread (i + 1) n (s ∷ ss)))
    (cases_Bool (s.index == i))

-- what holds of an empty slot and of the given ones holds of all
pub all-spread : (P : TrieSlot → Type 0) (i n : ℕ) (ss : List NewSlot) → P empty → AllByRecursion (λ s. P (hold_seen s.hold)) ss → AllByRecursion P (spread i n ss)
all-spread P i zero ss none all = tt
all-spread P i (suc n) [] none all = (none, all-spread P (i + 1) n [] none tt)
all-spread P i (suc n) (s ∷ ss) none all = ⊎_elim
    (λ on. subst (λ (xs : List TrieSlot). AllByRecursion P xs) (sym (spread_on i n s ss on)) (all.0, all-spread P (i + 1) n ss none all.1))
    (λ off. subst (λ (xs : List TrieSlot). AllByRecursion P xs) (sym (spread_off i n s ss off)) (none, all-spread P (i + 1) n (s ∷ ss) none all))
    (cases_Bool (s.index == i))

pub all-map : {X : Type 0} (P : TrieSlot → Type 0) (f : X → TrieSlot) (xs : List X) → AllByRecursion (λ x. P (f x)) xs → AllByRecursion P (map f xs)
all-map P f [] all = tt
all-map P f (x ∷ xs) all = (all.0, all-map P f xs all.1)

-- ---- slots, one for each index

one_more_is : (n : ℕ) → 1 + n ≡ suc n
one_more_is n = omega arith

abbrev on_count : List Bool → ℕ
on_count [] = 0
on_count (b ∷ bs) = cond b (1 + on_count bs) (on_count bs)

count_on : (slots : List TrieSlot) → on_count (map is_used slots) ≡ length (flat_map elements_of slots)
count_on [] = refl
count_on (empty ∷ slots) = count_on slots
count_on (bucket es ∷ slots) = ap (λ n. 1 + n) (count_on slots) ∙ one_more_is (length (flat_map elements_of slots))
count_on (child id ∷ slots) = ap (λ n. 1 + n) (count_on slots) ∙ one_more_is (length (flat_map elements_of slots))

pub count-used : (slots : List TrieSlot) → count_by (λ (b : Bool). b) (map is_used slots) ≡ length (flat_map elements_of slots)
count-used slots = sym (is_count_by on_count (λ (b : Bool). b) refl (λ x xs. refl) (map is_used slots)) ∙ count_on slots

pub all-items : {X : Type 0} (f : X → TrieSlot) (xs : List X) → flat_map (λ x. elements_of (f x)) xs ≡ flat_map elements_of (map f xs)
all-items f [] = refl
all-items f (x ∷ xs) = ap (λ ds. elements_of (f x) ++ ds) (all-items f xs)

pub used-slots : (slots : List (Option NewHold)) → map is_some slots ≡ map is_used (map slot_seen slots)
used-slots [] = refl
used-slots (None ∷ slots) = ap (λ bs. false ∷ bs) (used-slots slots)
used-slots (Some h ∷ slots) = (λ j. sym (used_hold h) j ∷ used-slots slots j)

hold_one : (h : NewHold) → length (elements_of (hold_seen h)) ≡ 1
hold_one (N.Child id) = refl
hold_one (N.Bucket rows) = refl

-- each used slot has one element
pub hold-count : (ss : List NewSlot) → length ss ≡ length (flat_map hold_items ss)
hold-count [] = refl
hold-count (s ∷ ss) = let one = hold_one s.hold in let rest = hold-count ss in let both = length-append (hold_items s) (flat_map hold_items ss) in omega arith

pub root-done : (p : HamtShape) (node : Data) (a b c d e f g : List ℕ) → a ≡ head 5 3 → b ≡ a ++ spell_text (codes "hamt") → c ≡ b ++ spell node → d ≡ c ++ spell_text (codes "hashAlg") → e ≡ d ++ head 0 18
    → f ≡ e ++ spell_text (codes "bucketSize") → g ≡ f ++ head 0 p.bucket → g ≡ spell (root_map p node)
root-done p node a b c d e f g is_a is_b is_c is_d is_e is_f is_g =
    let front : List ℕ = head 5 3 ++ spell_text (codes "hamt") in
    let s : List ℕ = spell node in
    let h : List ℕ = spell_text (codes "hashAlg") in
    let i : List ℕ = head 0 18 in
    let k : List ℕ = spell_text (codes "bucketSize") in
    is_g ∙ ap (λ x. x ++ head 0 p.bucket) (is_f ∙ ap (λ x. x ++ k) (is_e ∙ ap (λ x. x ++ i) (is_d ∙ ap (λ x. x ++ h) (is_c ∙ ap (λ x. x ++ s) (is_b ∙ ap (λ x. x ++ spell_text (codes "hamt")) is_a)))))
    ∙ ap (λ x. ((x ++ i) ++ k) ++ head 0 p.bucket) (append_assoc front s h)
    ∙ ap (λ x. (x ++ k) ++ head 0 p.bucket) (append_assoc front (s ++ h) i ∙ ap (λ x. front ++ x) (append_assoc s h i))
    ∙ ap (λ x. x ++ head 0 p.bucket) (append_assoc front (s ++ (h ++ i)) k ∙ ap (λ x. front ++ x) (append_assoc s (h ++ i) k))
    ∙ append_assoc front (s ++ ((h ++ i) ++ k)) (head 0 p.bucket) ∙ ap (λ x. front ++ x) (append_assoc s ((h ++ i) ++ k) (head 0 p.bucket))
    ∙ ap (λ x. front ++ (s ++ (((h ++ i) ++ k) ++ x))) (sym (append-nil (head 0 p.bucket)))

-- ---- the whole node

pub node-done : {X : Type 0} (f : X → List Data) (xs : List X) (slots : List TrieSlot) (bits : List Bool) (begun out : List ℕ) (n i : ℕ) → begun ≡ head 4 2 ++ spell_bytes (bytes_of_bits bits) ++ head 4 n
    → bits ≡ map is_used slots → flat_map elements_of slots ≡ flat_map f xs → n ≡ length (flat_map elements_of slots) → out ≡ begun ++ spelled (flat_map f (take i xs)) → length xs ≤ i → out ≡ spell (node_data slots)
node-done f xs slots bits begun out n i begins used elements count so le =
    let ds : List Data = flat_map elements_of slots in
    let k : List ℕ = spell_bytes (map_of slots) in
    let h : List ℕ = head 4 (length (items_list (items_of ds))) in
    let before : begun ≡ (head 4 2 ++ k) ++ h =
    begins ∙ (λ j. head 4 2 ++ spell_bytes ((ap bytes_of_bits used ∙ map-is slots) j) ++ head 4 ((count ∙ sym (length-items ds)) j)) in
    so ∙ (λ j. before j ++ spelled ((ap (flat_map f) (take_all i xs le) ∙ sym elements) j))
    ∙ append_assoc (head 4 2 ++ k) h (spelled ds) ∙ append_assoc (head 4 2) k (h ++ spelled ds)
    ∙ ap (λ s. head 4 2 ++ (k ++ s)) (sym (append-nil (h ++ spelled ds)))
