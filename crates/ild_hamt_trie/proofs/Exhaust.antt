-- Which entries have a node.
use Rattle.std.proofs.Common.{◌≡◌, ℕ, zero, suc, ◌+◌, ◌^◌, Bool, true, false, cond, not, ◌==◌, ◌||◌, ◌&&◌, nat_le, List, [], ◌∷◌, length, map, Option, Some, None, is_some, refl, sym, ap, ◌∙◌, arith, ⊎_elim}
use Rattle.std.specs.List.{range_with_len, list_all, list_any}
use Rattle.std.proofs.lemmas.Bool.{eq-eqb, ne_eqb, cases_eq, leb-true, le-leb}
use Rattle.ild_data.specs.Data.{Data}
use Rattle.ild_data.specs.declared.hamt_shape.HamtShape.{HamtShape}
use Rattle.ild_data.specs.Trie.{part, slot_of, all_some, node_of, node_data, at_depth, slots_at}
use Rattle.ild_hamt_trie.specs.Way.{along, few_agree}
use Rattle.ild_hamt_trie.proofs.Fold.{any-range}
use Rattle.ild_hamt_trie.proofs.Index.{index_below}
use Rattle.ild_hamt_trie.proofs.Node.{node-slots, is_some-map, is_some-slot, no_node, or_false, or_true, length-along}

all_and : {X : Type 0} (f g : X → Bool) (xs : List X) → list_all (λ x. f x && g x) xs ≡ (list_all f xs && list_all g xs)
all_and f g [] = refl
all_and f g (x ∷ xs) = ap (λ b. (f x && g x) && b) (all_and f g xs) ∙ shuffle (f x) (g x) (list_all f xs) (list_all g xs)
  where
    shuffle : (a b c d : Bool) → ((a && b) && (c && d)) ≡ ((a && c) && (b && d))
    shuffle true true c d = refl
    shuffle true false true d = refl
    shuffle true false false d = refl
    shuffle false b c d = refl

all_true : {X : Type 0} (f : X → Bool) (xs : List X) → ((x : X) → f x ≡ true) → list_all f xs ≡ true
all_true f [] is = refl
all_true f (x ∷ xs) is = rw (is x) (all_true f xs is)

pub some_first : {Y : Type 0} (o : Option Y) (os : List (Option Y)) → is_some (all_some (o ∷ os)) ≡ (is_some o && is_some (all_some os))
some_first None os = refl
some_first (Some y) os = is_some-map (λ ys. y ∷ ys) (all_some os)

is_some-all : {X Y : Type 0} (f : X → Option Y) (xs : List X) → is_some (all_some (map f xs)) ≡ list_all (λ x. is_some (f x)) xs
is_some-all f [] = refl
is_some-all f (x ∷ xs) = some_first (f x) (map f xs) ∙ ap (λ b. is_some (f x) && b) (is_some-all f xs)

-- at the index of e alone
absorbed : (a b : Bool) → (a && (b || a)) ≡ a
absorbed true b = or_true b
absorbed false b = refl

at_one : (x : ℕ) (g : ℕ → Bool) (js : List ℕ) → list_all (λ j. not (x == j) || g j) js ≡ (not (list_any (λ j. x == j) js) || g x)
at_one x g [] = refl
at_one x g (j ∷ js) =
    ap (λ b. (not (x == j) || g j) && b) (at_one x g js)
    ∙ ⊎_elim
    (λ same. rw (eq-eqb x j same) (ap (λ m. g m && (not (list_any (λ m. x == m) js) || g x)) (sym same) ∙ absorbed (g x) (not (list_any (λ m. x == m) js))))
    (λ other. rw (ne_eqb x j other) refl)
    (cases_eq x j)

one_part : (b : Bool) (t : List ℕ × Data → Bool) (e : List ℕ × Data) (fs : List (List ℕ × Data)) → list_all t (cond b (e ∷ fs) fs) ≡ ((not b || t e) && list_all t fs)
one_part true t e fs = refl
one_part false t e fs = refl

-- a test of each entry by its own part, part by part
by_parts : (at : List ℕ → ℕ) (g : ℕ → List ℕ × Data → Bool) (es : List (List ℕ × Data)) (js : List ℕ) → ((q : List ℕ) → list_any (λ j. at q == j) js ≡ true)
    → list_all (λ j. list_all (g j) (part at es j)) js ≡ list_all (λ e. g (at e.0) e) es
by_parts at g [] js within = all_true (λ j. true) js (λ j. refl)
by_parts at g (e ∷ es) js within =
    (λ i. list_all (λ j. one_part (at e.0 == j) (g j) e (part at es j) i) js)
    ∙ all_and (λ j. not (at e.0 == j) || g j e) (λ j. list_all (g j) (part at es j)) js
    ∙ (λ i. (at_one (at e.0) (λ j. g j e) js i) && (by_parts at g es js within i))
    ∙ ap (λ b. (not b || g (at e.0) e) && list_all (λ f. g (at f.0) f) es) (within e.0)

same_test : (a b : Bool) → (a ≡ true → b ≡ true) → (a || b) ≡ b
same_test true b is = sym (is refl)
same_test false b is = refl

few_all : (h : List ℕ → List ℕ) (p : HamtShape) (left depth : ℕ) (es : List (List ℕ × Data)) → nat_le (length es) p.bucket ≡ true → few_agree h p left depth es ≡ true
few_all h p left depth es few =
    all_true (λ e. nat_le (length (along h p e.0 left depth es)) p.bucket) es
    (λ e. le-leb (length (along h p e.0 left depth es)) p.bucket (let a = length-along h p e.0 left depth es in let b = leb-true (length es) p.bucket few in omega arith))

-- with no level left: the entries are few
none_left : (most : ℕ) (es : List (List ℕ × Data)) → nat_le (length es) most ≡ list_all (λ e. nat_le (length es) most) es
none_left most [] = le-leb 0 most (omega arith)
none_left most (e ∷ es) = constant (nat_le (length (e ∷ es)) most) es
  where
    constant : (b : Bool) (es : List (List ℕ × Data)) → b ≡ (b && list_all (λ f. b) es)
    constant true es = sym (all_true (λ f. true) es (λ f. refl))
    constant false es = refl

step : (h : List ℕ → List ℕ) (p : HamtShape) (left depth : ℕ) (es : List (List ℕ × Data))
    → ((fs : List (List ℕ × Data)) → is_some (slot_of p.bucket (node_of h p left (depth + 1)) fs) ≡ few_agree h p left (depth + 1) fs)
    → is_some (node_of h p (suc left) depth es) ≡ few_agree h p (suc left) depth es
step h p left depth es slots =
    ap is_some (node-slots h p left depth es) ∙ is_some-map node_data (slots_at h p left depth es)
    ∙ is_some-all (λ j. slot_of p.bucket (node_of h p left (depth + 1)) (part (at_depth h p depth) es j)) (range_with_len 0 (2 ^ p.width))
    ∙ (λ i. list_all (λ j. slots (part (at_depth h p depth) es j) i) (range_with_len 0 (2 ^ p.width)))
    ∙ by_parts (at_depth h p depth) (λ j e. nat_le (length (along h p e.0 left (depth + 1) (part (at_depth h p depth) es j))) p.bucket) es (range_with_len 0 (2 ^ p.width))
    (λ q. any-range (at_depth h p depth q) 0 (2 ^ p.width) (omega arith) (omega (arith, index_below p (h q) depth)))

has_slot : (h : List ℕ → List ℕ) (p : HamtShape) (left depth : ℕ) (fs : List (List ℕ × Data)) → is_some (slot_of p.bucket (node_of h p left depth) fs) ≡ few_agree h p left depth fs
has_slot h p zero depth fs =
    is_some-slot p.bucket (node_of h p zero depth) fs ∙ ap (λ o. nat_le (length fs) p.bucket || is_some o) (no_node h p depth fs) ∙ or_false _ ∙ none_left p.bucket fs
has_slot h p (suc left) depth fs =
    is_some-slot p.bucket (node_of h p (suc left) depth) fs
    ∙ ap (λ b. nat_le (length fs) p.bucket || b) (step h p left depth fs (has_slot h p left (depth + 1)))
    ∙ same_test (nat_le (length fs) p.bucket) (few_agree h p (suc left) depth fs) (few_all h p (suc left) depth fs)

-- entries have a node exactly where of each key few entries agree with it at each level
pub has_node : (h : List ℕ → List ℕ) (p : HamtShape) (left depth : ℕ) (es : List (List ℕ × Data)) → is_some (node_of h p (suc left) depth es) ≡ few_agree h p (suc left) depth es
has_node h p left depth es = step h p left depth es (has_slot h p left (depth + 1))
