-- Passing over items by their heads: a row of items without its first one, whose parts stand before the others.
use Rattle.std.proofs.Common.{◌≡◌, ℕ, ◌+◌, ◌-◌, ◌*◌, ◌^◌, ◌<◌, true, false, List, ◌++◌, length, length-append, append_assoc, min, refl, sym, ap, ◌∙◌, subst, arith}
use Rattle.std.specs.Prelude.{pos, negsuc}
use Rattle.ild_data.specs.Data.{Data, null, boolean, integer, text, bytes, list, map, link, Items, no_items, item, Members, no_members, member, items_list, members_list}
use Rattle.ild_data.specs.Spell.{head, spell, spell_items}
use Rattle.ild_data.specs.Tree.{AreTrees}
use Rattle.ild_cbor.specs.inside.Row.{IsRow}
use Rattle.ild_cbor.specs.Chain.{chain}
use Rattle.ild_data.specs.Shape.{major_of, argument_of, string_of, keys_and_values, parts_of}
use Rattle.ild_data.proofs.Sizes.{items_count, spell_some}
use Rattle.ild_data.proofs.Shapes.{spell_shape, argument_small}
use Rattle.ild_cbor.specs.inside.Shape.{IsStart}
use Rattle.ild_cbor.specs.inside.Passing.{passing}
use Rattle.ild_cbor.specs.declared.start.Start.{Start}
use Rattle.ild_cbor.proofs.Heads.{split_again}
use Rattle.ild_cbor.proofs.Shapes.{parts_trees}

pub record RowLeft (b : List ℕ) (n : ℕ) (rest : List ℕ) : Type 0 where
  pub of : Items
  pub row : IsRow b n of rest

-- ---- rows, one behind the other

pub chain-spell : (ds es : Items) → spell_items (chain ds es) ≡ spell_items ds ++ spell_items es
chain-spell no_items es = refl
chain-spell (item d ds) es = ap (λ (t : List ℕ). spell d ++ t) (chain-spell ds es) ∙ sym (append_assoc (spell d) (spell_items ds) (spell_items es))

pub chain-count : (ds es : Items) → length (items_list (chain ds es)) ≡ length (items_list ds) + length (items_list es)
chain-count no_items es = omega arith
chain-count (item d ds) es = omega (arith, chain-count ds es)

pub chain-trees : (ds es : Items) → AreTrees ds → AreTrees es → AreTrees (chain ds es)
chain-trees no_items es p q = q
chain-trees (item d ds) es p q = (p.0, chain-trees ds es p.1 q)

keys-count : (ms : Members) → length (items_list (keys_and_values ms)) ≡ length (members_list ms) * 2
keys-count no_members = refl
keys-count (member k d ms) = omega (arith, keys-count ms)

-- ---- one item

-- the parts of an item and what follows it, behind its head and its string
passing_is : (t : Data) (x : List ℕ) → length (items_list (parts_of t)) < 2 ^ 64
    → passing (major_of t) (argument_of t) (string_of t ++ (spell_items (parts_of t) ++ x)) ≡ (length (items_list (parts_of t)), spell_items (parts_of t) ++ x)
passing_is null x lt = refl
passing_is (boolean true) x lt = refl
passing_is (boolean false) x lt = refl
passing_is (integer (pos n)) x lt = refl
passing_is (integer (negsuc n)) x lt = refl
passing_is (text s) x lt = rw (split_again (length s) s x refl) refl
passing_is (bytes s) x lt = rw (split_again (length s) s x refl) refl
passing_is (list ds) x lt = refl
passing_is (map ms) x lt =
    let twice = keys-count ms in
    let small : min (length (members_list ms) * 2) (2 ^ 64 - 1) ≡ length (items_list (keys_and_values ms)) = omega arith in
    ap (λ (k : ℕ). (k, spell_items (keys_and_values ms) ++ x)) small
passing_is (link s) x lt = refl

pub shape_then : (t : Data) (x : List ℕ) → spell t ++ x ≡ head (major_of t) (argument_of t) ++ (string_of t ++ (spell_items (parts_of t) ++ x))
shape_then t x =
    let H = head (major_of t) (argument_of t) in
    ap (λ (b : List ℕ). b ++ x) (spell_shape t) ∙ append_assoc H (string_of t ++ spell_items (parts_of t)) x ∙ ap (λ (b : List ℕ). H ++ b) (append_assoc (string_of t) (spell_items (parts_of t)) x)

parts_short : (t : Data) (x : List ℕ) → length (spell t ++ x) < 2 ^ 64 → length (items_list (parts_of t)) < 2 ^ 64
parts_short t x lt =
    let H = head (major_of t) (argument_of t) in
    let l1 : length (spell t ++ x) ≡ length (H ++ (string_of t ++ (spell_items (parts_of t) ++ x))) = ap length (shape_then t x) in
    let l2 = length-append H (string_of t ++ (spell_items (parts_of t) ++ x)) in
    let l3 = length-append (string_of t) (spell_items (parts_of t) ++ x) in
    let l4 = length-append (spell_items (parts_of t)) x in
    let l5 = items_count (parts_of t) in
    omega arith

-- what was passed over behind the head and the string of an item: its parts are counted, and stand before what follows it
record PassedItem (t : Data) (x : List ℕ) (k : ℕ) (tail : List ℕ) : Type 0 where
  pub count_is : k ≡ length (items_list (parts_of t))
  pub tail_is : tail ≡ spell_items (parts_of t) ++ x

passed_item : (t : Data) (x : List ℕ) (k : ℕ) (tail : List ℕ) → passing (major_of t) (argument_of t) (string_of t ++ (spell_items (parts_of t) ++ x)) ≡ (k, tail) → length (items_list (parts_of t)) < 2 ^ 64
    → PassedItem t x k tail
passed_item t x k tail e small =
    let both = sym e ∙ passing_is t x small in
    record { count_is = ap (λ (p : ℕ × List ℕ). p.0) both; tail_is = ap (λ (p : ℕ × List ℕ). p.1) both }

-- k items and tail are what is passed to behind the head and the string at the front of b
abbrev pub Passes : List ℕ → ℕ → List ℕ → Type 0
Passes b k tail = (major n : ℕ) (x : List ℕ) → n < 2 ^ 64 → b ≡ head major n ++ x → passing major n x ≡ (k, tail)

-- so it is where they are passed to from the start of b
pub started : (b : List ℕ) (s : Start) (k : ℕ) (tail : List ℕ) → ((major n : ℕ) (x : List ℕ) → n < 2 ^ 64 → b ≡ head major n ++ x → IsStart s major n x)
    → (k, tail) ≡ passing s.major s.argument s.rest.now → Passes b k tail
started b s k tail starts e = λ major n x lt is.
    let st = starts major n x lt is in
    let p1 = ap (λ (m : ℕ). passing m s.argument s.rest.now) st.major_is in
    let p2 = ap (λ (m : ℕ). passing major m s.rest.now) st.argument_is in
    let p3 = ap (passing major n) st.rest_is in
    sym (e ∙ p1 ∙ p2 ∙ p3)

-- the row behind the head and the string of its first item
passed_first : (b : List ℕ) (n : ℕ) (d : Data) (ds : Items) (rest : List ℕ) (k : ℕ) (tail : List ℕ) → IsRow b n (item d ds) rest → Passes b k tail
    → IsRow tail (min (n - 1 + k) (2 ^ 64 - 1)) (chain (parts_of d) ds) rest
passed_first b n d ds rest k tail h passes =
    let x : List ℕ = spell_items ds ++ rest in
    let P : List ℕ = spell_items (parts_of d) in
    let H : List ℕ = head (major_of d) (argument_of d) in
    let count = h.count in
    let short = h.short in
    let is : b ≡ spell d ++ x = h.is ∙ append_assoc (spell d) (spell_items ds) rest in
    let shaped : b ≡ H ++ (string_of d ++ (P ++ x)) = is ∙ shape_then d x in
    let len : length b ≡ length (spell d ++ x) = ap length is in
    let len2 = length-append (spell d) x in
    let len3 : length b ≡ length (H ++ (string_of d ++ (P ++ x))) = ap length shaped in
    let len4 = length-append H (string_of d ++ (P ++ x)) in
    let len5 = length-append (string_of d) (P ++ x) in
    let small = parts_short d x (omega arith) in
    let p = passed_item d x k tail (passes (major_of d) (argument_of d) (string_of d ++ (P ++ x)) (argument_small d h.trees.0 (omega arith)) shaped) small in
    let k_is = p.count_is in
    let len6 : length tail ≡ length (P ++ x) = ap length p.tail_is in
    let spelled : tail ≡ spell_items (chain (parts_of d) ds) ++ rest = p.tail_is ∙ sym (append_assoc P (spell_items ds) rest) ∙ ap (λ (t : List ℕ). t ++ rest) (sym (chain-spell (parts_of d) ds)) in
    let len7 : length tail ≡ length (spell_items (chain (parts_of d) ds) ++ rest) = ap length spelled in
    let len8 = length-append (spell_items (chain (parts_of d) ds)) rest in
    let counted = chain-count (parts_of d) ds in
    let fits = items_count (chain (parts_of d) ds) in
    record { is = spelled; count = omega arith; trees = chain-trees (parts_of d) ds (parts_trees d h.trees.0) h.trees.1; short = omega arith }

pub passed : (b : List ℕ) (n : ℕ) (rest : List ℕ) (k : ℕ) (tail : List ℕ) → RowLeft b n rest → 0 < n → Passes b k tail
    → RowLeft tail (min (n - 1 + k) (2 ^ 64 - 1)) rest
passed b n rest k tail l lt passes = go l.of l.row
  where
    go : (ds : Items) → IsRow b n ds rest → RowLeft tail (min (n - 1 + k) (2 ^ 64 - 1)) rest
    go no_items h = let c = h.count in absurd (omega arith)
    go (item d ds) h = record { of = chain (parts_of d) ds; row = passed_first b n d ds rest k tail h passes }

-- the row behind an item without parts
pub passed_leaf : (b : List ℕ) (n : ℕ) (rest tail : List ℕ) → RowLeft b n rest → 0 < n → n < 2 ^ 64 → Passes b 0 tail → RowLeft tail (n - 1) rest
passed_leaf b n rest tail l lt small passes =
    let same : min (n - 1 + 0) (2 ^ 64 - 1) ≡ n - 1 = omega arith in
    subst (λ (k : ℕ). RowLeft tail k rest) same (passed b n rest 0 tail l lt passes)

-- ---- the end

pub passed_all : (b : List ℕ) (n : ℕ) (rest : List ℕ) → RowLeft b n rest → n ≡ 0 → b ≡ rest
passed_all b n rest l z = go l.of l.row
  where
    go : (ds : Items) → IsRow b n ds rest → b ≡ rest
    go no_items h = h.is
    go (item d ds) h = let c = h.count in absurd (omega arith)

pub passed_empty : (b : List ℕ) (n : ℕ) (rest : List ℕ) → RowLeft b n rest → length b ≡ 0 → b ≡ rest
passed_empty b n rest l z = go l.of l.row
  where
    go : (ds : Items) → IsRow b n ds rest → b ≡ rest
    go no_items h = h.is
    go (item d ds) h =
        let len : length b ≡ length (spell_items (item d ds) ++ rest) = ap length h.is in
        let some = spell_some d in
        absurd (omega (arith, length-append (spell d ++ spell_items ds) rest, length-append (spell d) (spell_items ds)))
