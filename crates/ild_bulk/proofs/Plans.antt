-- The blocks in the order of the plan, and those of the nodes beneath.
use Rattle.std.proofs.Common.{◌≡◌, ℕ, zero, suc, ◌+◌, ◌^◌, Bool, true, false, ◌&&◌, nat_le, List, [], ◌∷◌, ◌++◌, length, Option, refl, sym, ap, ◌∙◌, arith, flat_map}
use Rattle.std.specs.List.{range_with_len, list_all}
use Rattle.std.proofs.lemmas.List.{length-append}
use Rattle.ild_data.specs.Data.{Data}
use Rattle.ild_data.specs.declared.hamt_shape.HamtShape.{HamtShape}
use Rattle.ild_data.specs.Trie.{part, at_depth, node_of}
use Rattle.ild_data.specs.TrieBlocks.{block_of, none_or, node_and_beneath, nodes_beneath}
use Rattle.ild_bulk.specs.Planned.{planned, slot_plan}
use Rattle.ild_bulk.specs.Laws.{SameBlocks}
use Rattle.ild_bulk.proofs.Building.{planned_is}

-- as many, and alike in every test
record Alike (xs ys : List (List ℕ)) : Type 0 where
  pub many : length xs ≡ length ys
  pub all : (q : List ℕ → Bool) → list_all q xs ≡ list_all q ys

all-append : (q : List ℕ → Bool) (xs ys : List (List ℕ)) → list_all q (xs ++ ys) ≡ (list_all q xs && list_all q ys)
all-append q [] ys = refl
all-append q (x ∷ xs) ys = ap (λ b. q x && b) (all-append q xs ys) ∙ and_assoc (q x) (list_all q xs) (list_all q ys)
  where
    and_assoc : (a b c : Bool) → (a && (b && c)) ≡ ((a && b) && c)
    and_assoc true b c = refl
    and_assoc false b c = refl

and_comm : (a b : Bool) → (a && b) ≡ (b && a)
and_comm true true = refl
and_comm true false = refl
and_comm false true = refl
and_comm false false = refl

alike-append : (xs ys us vs : List (List ℕ)) → Alike xs us → Alike ys vs → Alike (xs ++ ys) (us ++ vs)
alike-append xs ys us vs a b = record {
  many = length-append xs ys ∙ (λ i. a.many i + b.many i) ∙ sym (length-append us vs);
  all = λ q. all-append q xs ys ∙ (λ i. a.all q i && b.all q i) ∙ sym (all-append q us vs);
}

alike-swap : (xs ys us : List (List ℕ)) → Alike xs us → Alike (xs ++ ys) (ys ++ us)
alike-swap xs ys us a = record {
  many = let m = a.many in omega (arith, length-append xs ys, length-append ys us);
  all = λ q. all-append q xs ys ∙ and_comm (list_all q xs) (list_all q ys) ∙ ap (λ b. list_all q ys && b) (a.all q) ∙ sym (all-append q ys us);
}

alike-parts : (f g : ℕ → List (List ℕ)) (js : List ℕ) → ((j : ℕ) → Alike (f j) (g j)) → Alike (flat_map f js) (flat_map g js)
alike-parts f g [] each = record { many = refl; all = λ q. refl }
alike-parts f g (j ∷ js) each = alike-append (f j) (flat_map f js) (g j) (flat_map g js) (each j) (alike-parts f g js each)

alike-slot : (b : Bool) (below : List (List ℕ × Data) → Option Data) (f g : List (List ℕ × Data) → List (List ℕ)) (es : List (List ℕ × Data)) → Alike (f es) (g es)
    → Alike (none_or b (λ fs. f fs ++ block_of (below fs)) es) (none_or b (λ fs. block_of (below fs) ++ g fs) es)
alike-slot true below f g es each = record { many = refl; all = λ q. refl }
alike-slot false below f g es each = alike-swap (f es) (block_of (below es)) (g es) each

pub beneath_is : (h : List ℕ → List ℕ) (p : HamtShape) (left depth : ℕ) (es : List (List ℕ × Data))
    → nodes_beneath h p (suc left) depth es ≡ flat_map (λ i. node_and_beneath p.bucket (node_of h p left (depth + 1)) (nodes_beneath h p left (depth + 1)) (part (at_depth h p depth) es i)) (range_with_len 0 (2 ^ p.width))
unfolding nodes_beneath
beneath_is h p left depth es = refl

none_left : (h : List ℕ → List ℕ) (p : HamtShape) (depth : ℕ) (es : List (List ℕ × Data)) → Alike (planned h p zero depth es) (nodes_beneath h p zero depth es)
unfolding planned nodes_beneath
none_left h p depth es = record { many = refl; all = λ q. refl }

alike-plan : (h : List ℕ → List ℕ) (p : HamtShape) (left depth : ℕ) (es : List (List ℕ × Data)) → Alike (planned h p left depth es) (nodes_beneath h p left depth es)
alike-plan h p zero depth es = none_left h p depth es
alike-plan h p (suc left) depth es =
    let each = alike-parts
    (λ i. slot_plan p.bucket (node_of h p left (depth + 1)) (planned h p left (depth + 1)) (part (at_depth h p depth) es i))
    (λ i. node_and_beneath p.bucket (node_of h p left (depth + 1)) (nodes_beneath h p left (depth + 1)) (part (at_depth h p depth) es i))
    (range_with_len 0 (2 ^ p.width))
    (λ i. alike-slot (nat_le (length (part (at_depth h p depth) es i)) p.bucket) (node_of h p left (depth + 1)) (planned h p left (depth + 1)) (nodes_beneath h p left (depth + 1)) (part (at_depth h p depth) es i)
    (alike-plan h p left (depth + 1) (part (at_depth h p depth) es i))) in
    record {
      many = ap length (planned_is h p left depth es) ∙ each.many ∙ ap length (sym (beneath_is h p left depth es));
      all = λ q. ap (list_all q) (planned_is h p left depth es) ∙ each.all q ∙ ap (list_all q) (sym (beneath_is h p left depth es));
    }

pub same-blocks : (h : List ℕ → List ℕ) (p : HamtShape) (left depth : ℕ) (es : List (List ℕ × Data)) → SameBlocks h p left depth es
same-blocks h p left depth es = let a = alike-plan h p left depth es in record { many = a.many; all = a.all }
