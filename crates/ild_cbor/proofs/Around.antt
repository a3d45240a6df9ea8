-- The last item of a list, and what stands before and behind some items of it.
use Rattle.std.proofs.Common.{◌≡◌, ℕ, ◌+◌, ◌-◌, ◌^◌, ◌<◌, List, [], ◌∷◌, ◌++◌, length, length-append, append_assoc, take, refl, sym, ap, subst, ◌∙◌, arith}
use Rattle.std.specs.Prelude.{Option}
use Rattle.std.proofs.lemmas.List.{take_at}
use Rattle.ild_data.specs.Data.{Data, list, Items, no_items, item, items_of, items_list}
use Rattle.ild_data.specs.Spell.{head, spell, spell_items}
use Rattle.ild_data.specs.Tree.{AreTrees}
use Rattle.ild_data.proofs.Lists.{length-items}
use Rattle.ild_cbor.specs.declared.node.Node.{Node}
use Rattle.ild_cbor.specs.declared.start.Start.{Start}
use Rattle.ild_cbor.specs.inside.Row.{IsRow}
use Rattle.ild_cbor.specs.inside.Shape.{StartsAs}
use Rattle.ild_cbor.specs.Spelled.{Spells}
use Rattle.ild_cbor.specs.Nodes.{HasData, HasLast, AreAround}
use Rattle.ild_cbor.specs.Span.{items_before, before_part, place_of, item_of}
use Rattle.ild_cbor.proofs.Insides.{Inside, inside, HasSought, cut_items, list_if, part_within}

-- ---- the last item

-- the end of an item's spelling is its last part
pub last_inside : (n : Node) (rest : List ℕ) (h : HasLast n rest) → Inside n.block.now n.from n.to h.part.front rest [] h.part.of
last_inside n rest h =
    let p = h.part in
    inside n.block.now n.from n.to p.whole p.front rest [] p.of p.stands p.is (p.rest_is ∙ ap (λ (x : List ℕ). spell p.of ++ x) h.end) p.within

pub last_spells : (n : Node) (rest : List ℕ) (h : HasLast n rest) → Spells n.block.now (n.to - length rest) n.to h.part.of
last_spells n rest h =
    let none : n.to - length {A = ℕ} [] ≡ n.to = omega arith in
    subst (λ (k : ℕ). Spells n.block.now (n.to - length rest) k h.part.of) none (last_inside n rest h).spells

-- the last item, sought at its place
pub record HasSoughtLast (n : Node) (rest : List ℕ) (place : ℕ) (of : Option Data) : Type 0 where
  pub sought : HasSought n rest place of
  pub end : sought.part.after ≡ []

none_left : (ds : Items) → length (items_list ds) ≡ 0 → spell_items ds ≡ []
none_left no_items e = refl
none_left (item d ds) e = absurd (omega arith)

has_last_in : (n : Node) (s : Start) (i : ℕ) (rest : List ℕ) (ds : Items) → HasData n (list ds) → StartsAs s (list ds) → i + 1 ≡ s.argument → ((es : Items) (x : List ℕ) → IsRow s.rest.now i es x → rest ≡ x)
    → HasSoughtLast n rest (place_of (list ds) i) (item_of (list ds) i)
has_last_in n s i rest ds h st last skips =
    let argument = st.argument_is in
    let w = h.within in
    let sized = w.sized in
    let a = cut_items ds i w.tree (omega arith) in
    let H : List ℕ = head 4 (length (items_list ds)) in
    let l1 = length-append H (spell_items ds) in
    let l2 : length s.rest.now ≡ length (spell_items ds) = ap length st.rest_is in
    let row : IsRow s.rest.now i a.taken (spell a.of ++ spell_items a.more) = record { is = st.rest_is ∙ a.parts; count = a.count; trees = a.trees; short = omega arith } in
    let all = a.all in
    let none : spell_items a.more ≡ [] = none_left a.more (omega arith) in
    let parts : spell_items ds ≡ spell_items a.taken ++ (spell a.of ++ []) = a.parts ∙ ap (λ (x : List ℕ). spell_items a.taken ++ (spell a.of ++ x)) none in
    let same : rest ≡ spell a.of ++ [] = skips a.taken (spell a.of ++ spell_items a.more) row ∙ ap (λ (x : List ℕ). spell a.of ++ x) none in
    let whole : spell (list ds) ≡ before_part (list ds) i ++ (spell a.of ++ []) =
    ap (λ (x : List ℕ). H ++ x) (parts ∙ ap (λ (x : List ℕ). x ++ (spell a.of ++ [])) a.before) ∙ sym (append_assoc H (items_before i ds) (spell a.of ++ [])) in
    let nested = a.nested in
    record {
      sought = record {
        part = record { whole = list ds; stands = h; front = before_part (list ds) i; of = a.of; after = []; is = whole ∙ ap (λ (x : List ℕ). before_part (list ds) i ++ x) (sym same); rest_is = same; within = part_within (list ds) a.of (before_part (list ds) i) [] w whole a.tree (omega arith) };
        is = a.is;
        at = refl;
      };
      end = refl;
    }

pub has_last : (n : Node) (s : Start) (i : ℕ) (rest : List ℕ) (t : Data) → HasData n t → StartsAs s t → s.major ≡ 4 → i + 1 ≡ s.argument → ((es : Items) (x : List ℕ) → IsRow s.rest.now i es x → rest ≡ x)
    → HasSoughtLast n rest (place_of t i) (item_of t i)
has_last n s i rest t h st four last skips =
    let l = list_if t (sym st.major_is ∙ four) in
    let P : Data → Type 0 = λ u. HasData n u → StartsAs s u → HasSoughtLast n rest (place_of u i) (item_of u i) in
    subst P (sym l.1) (λ hl sl. has_last_in n s i rest l.0 hl sl last skips) h st

-- ---- some items, and those around them

spell-append : (xs ys : List Data) → spell_items (items_of (xs ++ ys)) ≡ spell_items (items_of xs) ++ spell_items (items_of ys)
spell-append [] ys = refl
spell-append (x ∷ xs) ys = ap (λ (s : List ℕ). spell x ++ s) (spell-append xs ys) ∙ sym (append_assoc (spell x) (spell_items (items_of xs)) (spell_items (items_of ys)))

trees-append : (xs ys : List Data) → AreTrees (items_of (xs ++ ys)) → AreTrees (items_of xs) × AreTrees (items_of ys)
trees-append [] ys t = (tt, t)
trees-append (x ∷ xs) ys t = let more = trees-append xs ys t.1 in ((t.0, more.0), more.1)

-- the bytes are these items and others behind them, a row of a list's parts
row_of : (b : List ℕ) (n : ℕ) (xs ys : List Data) → b ≡ spell_items (items_of (xs ++ ys)) → AreTrees (items_of (xs ++ ys)) → length xs ≡ n → length b < 2 ^ 64 → IsRow b n (items_of xs) (spell_items (items_of ys))
row_of b n xs ys is trees long short = record { is = is ∙ spell-append xs ys; count = length-items xs ∙ long; trees = (trees-append xs ys trees).0; short = short }

pub around : (n : Node) (s : Start) (i m k : ℕ) (from back : List ℕ) (xs ys zs : List Data) → HasData n (list (items_of (xs ++ (ys ++ zs)))) → StartsAs s (list (items_of (xs ++ (ys ++ zs)))) → length xs ≡ i → length ys ≡ m
    → ((es : Items) (x : List ℕ) → IsRow s.rest.now i es x → from ≡ x) → ((es : Items) (x : List ℕ) → IsRow from m es x → back ≡ x)
    → k ≡ length s.rest.now - length from → AreAround (take k s.rest.now) back xs zs
around n s i m k from back xs ys zs h st one two skips passes kept =
    let w = h.within in
    let sized = w.sized in
    let H : List ℕ = head 4 (length (items_list (items_of (xs ++ (ys ++ zs))))) in
    let X : List ℕ = spell_items (items_of xs) in
    let l1 = length-append H (spell_items (items_of (xs ++ (ys ++ zs)))) in
    let l2 : length s.rest.now ≡ length (spell_items (items_of (xs ++ (ys ++ zs)))) = ap length st.rest_is in
    let all : AreTrees (items_of (xs ++ (ys ++ zs))) = w.tree in
    let row = row_of s.rest.now i xs (ys ++ zs) st.rest_is all one (omega arith) in
    let left : from ≡ spell_items (items_of (ys ++ zs)) = skips (items_of xs) (spell_items (items_of (ys ++ zs))) row in
    let parts : s.rest.now ≡ X ++ from = row.is ∙ ap (λ (x : List ℕ). X ++ x) (sym left) in
    let l3 : length s.rest.now ≡ length (X ++ from) = ap length parts in
    let l4 = length-append X from in
    let cut : length X ≡ k = omega arith in
    record {
      front_is = ap (take k) parts ∙ take_at X from k cut;
      back_is = passes (items_of ys) (spell_items (items_of zs)) (row_of from m ys zs left (trees-append xs (ys ++ zs) all).1 two (omega arith));
    }
