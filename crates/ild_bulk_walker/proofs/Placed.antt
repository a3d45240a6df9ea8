-- What stands where on the tree that a walk is on.
use Rattle.std.proofs.Common.{◌≡◌, ◌⊎◌, inl, inr, ⊎_elim, ℕ, suc, ◌+◌, ◌-◌, ◌<◌, List, [], ◌∷◌, ◌++◌, length, map, Option, Some, refl, sym, ap, ◌∙◌, subst, arith, append_assoc, append-nil}
use Rattle.std.specs.Prelude.{slice_get}
use Rattle.ild_data.specs.declared.hamt_shape.HamtShape.{HamtShape}
use Rattle.ild_data.specs.Data.{Data}
use Rattle.ild_data.specs.Trie.{TrieSlot, empty, bucket, child}
use Rattle.ild_data.specs.TrieShape.{trie_levels}
use Rattle.ild_bulk_walker.specs.OnTree.{IsNodeAt, HasNode, IsOnTree, SlotMany, SlotsMany, TreeMany}
use Rattle.ild_bulk_walker.specs.Standing.{indices_of, last_of, DoneMany, WalkStands}
use Rattle.ild_bulk_walker.specs.Todo.{Todo, give, enter, leave, slot_todo, node_todo}

-- ---- no step of a node leaves it

abbrev pub AreSteps : List Todo → Type 0
AreSteps [] = Unit {0}
AreSteps (give k v i ∷ todo) = AreSteps todo
AreSteps (enter id i ∷ todo) = AreSteps todo
AreSteps (leave before ∷ todo) = ⊥

steps-join : (xs ys : List Todo) → AreSteps xs → AreSteps ys → AreSteps (xs ++ ys)
steps-join [] ys a b = b
steps-join (give k v i ∷ xs) ys a b = steps-join xs ys a b
steps-join (enter id i ∷ xs) ys a b = steps-join xs ys a b
steps-join (leave before ∷ xs) ys a b = absurd a

bucket-steps : (i : ℕ) (es : List (List ℕ × Data)) → AreSteps (map (λ e. give e.0 e.1 i) es)
bucket-steps i [] = tt
bucket-steps i (e ∷ es) = bucket-steps i es

slot-steps : (i : ℕ) (s : TrieSlot) → AreSteps (slot_todo i s)
slot-steps i empty = tt
slot-steps i (bucket es) = bucket-steps i es
slot-steps i (child id) = tt

node-steps : (i : ℕ) (slots : List TrieSlot) → AreSteps (node_todo i slots)
node-steps i [] = tt
node-steps i (s ∷ slots) = steps-join (slot_todo i s) (node_todo (i + 1) slots) (slot-steps i s) (node-steps (i + 1) slots)

steps-behind : (done rest : List Todo) → AreSteps (done ++ rest) → AreSteps rest
steps-behind [] rest a = a
steps-behind (give k v i ∷ done) rest a = steps-behind done rest a
steps-behind (enter id i ∷ done) rest a = steps-behind done rest a
steps-behind (leave before ∷ done) rest a = absurd a

rest-steps : (slots : List TrieSlot) (done rest : List Todo) → node_todo 0 slots ≡ done ++ rest → AreSteps rest
rest-steps slots done rest is = steps-behind done rest (subst AreSteps is (node-steps 0 slots))

-- ---- how many were given

none-more : (n m : ℕ) → n ≡ 0 → m ≡ n + m
none-more n m is = omega arith

done-more : (p : HamtShape) (told : Option (List (List ℕ))) (left : ℕ) (done : List Todo) (t : Todo) (n m : ℕ) → DoneMany p told left done n → DoneMany p told left (t ∷ []) m → DoneMany p told left (done ++ t ∷ []) (n + m)
done-more p told left [] t n m a b = subst (DoneMany p told left (t ∷ [])) (none-more n m a) b
done-more p told left (give k v i ∷ done) t n m a b = let is = a.1 in (a.0 + m, omega arith, done-more p told left done t a.0 m a.2 b)
done-more p told left (enter id i ∷ done) t n m a b = let is = a.2 in (a.0, a.1 + m, omega arith, a.3, done-more p told left done t a.1 m a.4 b)
done-more p told left (leave before ∷ done) t n m a b = absurd a

record Halves (p : HamtShape) (told : Option (List (List ℕ))) (left : ℕ) (xs ys : List Todo) (n : ℕ) : Type 0 where
  pub here : ℕ
  pub more : ℕ
  pub is : n ≡ here + more
  pub first : DoneMany p told left xs here
  pub rest : DoneMany p told left ys more

done-split : (p : HamtShape) (told : Option (List (List ℕ))) (left : ℕ) (xs ys : List Todo) (n : ℕ) → DoneMany p told left (xs ++ ys) n → Halves p told left xs ys n
done-split p told left [] ys n d = record { here = 0; more = n; is = omega arith; first = refl; rest = d }
done-split p told left (give k v i ∷ xs) ys n d =
    let r = done-split p told left xs ys d.0 d.2 in
    let one = d.1 in
    let two = r.is in
    record { here = 1 + r.here; more = r.more; is = omega arith; first = (r.here, refl, r.first); rest = r.rest }
done-split p told left (enter id i ∷ xs) ys n d =
    let r = done-split p told left xs ys d.1 d.4 in
    let one = d.2 in
    let two = r.is in
    record { here = d.0 + r.here; more = r.more; is = omega arith; first = (d.0, r.here, refl, d.3, r.first); rest = r.rest }
done-split p told left (leave before ∷ xs) ys n d = absurd d

bucket-many : (p : HamtShape) (told : Option (List (List ℕ))) (left i : ℕ) (es : List (List ℕ × Data)) (n : ℕ) → DoneMany p told left (map (λ e. give e.0 e.1 i) es) n → n ≡ length es
bucket-many p told left i [] n d = d
bucket-many p told left i (e ∷ es) n d = let one = d.1 in let rest = bucket-many p told left i es d.0 d.2 in omega arith

slot-many : (p : HamtShape) (told : Option (List (List ℕ))) (left i : ℕ) (s : TrieSlot) (n : ℕ) → DoneMany p told left (slot_todo i s) n → SlotMany (TreeMany p told left) s n
slot-many p told left i empty n d = d
slot-many p told left i (bucket es) n d = bucket-many p told left i es n d
slot-many p told left i (child id) n d = let sum = d.2 in let none = d.4 in let same : d.0 ≡ n = omega arith in subst (TreeMany p told left id) same d.3

slots-many : (p : HamtShape) (told : Option (List (List ℕ))) (left i : ℕ) (slots : List TrieSlot) (n : ℕ) → DoneMany p told left (node_todo i slots) n → SlotsMany (TreeMany p told left) slots n
slots-many p told left i [] n d = d
slots-many p told left i (s ∷ slots) n d =
    let r = done-split p told left (slot_todo i s) (node_todo (i + 1) slots) n d in
    (r.here, r.more, r.is, slot-many p told left i s r.here r.first, slots-many p told left (i + 1) slots r.more r.rest)

-- ---- the steps of the innermost node

record Cut (t : Todo) (todo rest behind : List Todo) (b : ℕ) : Type 0 where
  pub more : List Todo
  pub is : rest ≡ t ∷ more
  pub left : todo ≡ more ++ leave b ∷ behind

cut : (t : Todo) (todo rest behind : List Todo) (b : ℕ) → AreSteps (t ∷ []) → t ∷ todo ≡ rest ++ leave b ∷ behind → Cut t todo rest behind b
cut t todo [] behind b step is = let head : t ≡ leave b = cc in absurd (subst (λ x. AreSteps (x ∷ [])) head step)
cut t todo (r ∷ rest) behind b step is =
    let head : r ≡ t = cc in
    let tail : todo ≡ rest ++ leave b ∷ behind = cc in
    record { more = rest; is = ap (λ x. x ∷ rest) head; left = tail }

record Ends (todo rest behind : List Todo) (a b : ℕ) : Type 0 where
  pub none : rest ≡ []
  pub before : b ≡ a
  pub left : todo ≡ behind

ends : (todo rest behind : List Todo) (a b : ℕ) → AreSteps rest → leave b ∷ todo ≡ rest ++ leave a ∷ behind → Ends todo rest behind a b
ends todo [] behind a b steps is = let same : b ≡ a = cc in let tail : todo ≡ behind = cc in record { none = refl; before = same; left = tail }
ends todo (r ∷ rest) behind a b steps is = let head : r ≡ leave b = cc in absurd (subst (λ x. AreSteps (x ∷ rest)) head steps)

-- a step of the innermost node is done, which gave so many
pub pass : (p : HamtShape) (told : Option (List (List ℕ))) (root : List TrieSlot) (way : List (List ℕ × ℕ)) (t : Todo) (todo : List Todo) (given n : ℕ) → AreSteps (t ∷ []) → DoneMany p told (trie_levels p - suc (length way)) (t ∷ []) n → WalkStands p told root way (t ∷ todo) given
    → WalkStands p told root way todo (given + n)
pass p told root [] t todo given n step many s =
    record { done = s.done ++ t ∷ []; steps = s.steps ∙ sym (append_assoc s.done (t ∷ []) todo); gave = done-more p told (trie_levels p - 1) s.done t given n s.gave many }
pass p told root (c ∷ way) t todo given n step many s =
    let k = cut t todo s.rest s.above s.before step s.is in
    let sum = s.count in
    record {
      slots = s.slots;
      node = s.node;
      done = s.done ++ t ∷ [];
      rest = k.more;
      above = s.above;
      before = s.before;
      many = s.many + n;
      is = k.left;
      steps = s.steps ∙ ap (λ r. s.done ++ r) k.is ∙ sym (append_assoc s.done (t ∷ []) k.more);
      gave = done-more p told (trie_levels p - suc (length (c ∷ way))) s.done t s.many n s.gave many;
      count = omega arith;
      still = s.still;
    }

-- ---- leaving

pub record AtEnd (p : HamtShape) (told : Option (List (List ℕ))) (root : List TrieSlot) (c : List ℕ × ℕ) (way : List (List ℕ × ℕ)) (b : ℕ) (todo : List Todo) (given : ℕ) : Type 0 where
  pub slots : List TrieSlot
  pub node : IsNodeAt p told c.0 slots
  pub many : ℕ
  pub stands : SlotsMany (TreeMany p told (trie_levels p - suc (length (c ∷ way)))) slots many
  pub count : given ≡ b + many
  pub still : WalkStands p told root way (enter c.0 c.1 ∷ todo) b

pub at-end : (p : HamtShape) (told : Option (List (List ℕ))) (root : List TrieSlot) (c : List ℕ × ℕ) (way : List (List ℕ × ℕ)) (b : ℕ) (todo : List Todo) (given : ℕ) → WalkStands p told root (c ∷ way) (leave b ∷ todo) given → AtEnd p told root c way b todo given
at-end p told root c way b todo given s =
    let e = ends todo s.rest s.above s.before b (rest-steps s.slots s.done s.rest s.steps) s.is in
    let whole : s.done ≡ node_todo 0 s.slots = sym (append-nil s.done) ∙ ap (λ r. s.done ++ r) (sym e.none) ∙ sym s.steps in
    record {
      slots = s.slots;
      node = s.node;
      many = s.many;
      stands = slots-many p told (trie_levels p - suc (length (c ∷ way))) 0 s.slots s.many (subst (λ d. DoneMany p told (trie_levels p - suc (length (c ∷ way))) d s.many) whole s.gave);
      count = s.count ∙ ap (λ n. n + s.many) (sym e.before);
      still = subst (λ ts. WalkStands p told root way (enter c.0 c.1 ∷ ts) b) (sym e.left) (subst (λ n. WalkStands p told root way (enter c.0 c.1 ∷ s.above) n) (sym e.before) s.still);
    }

pub root-stays : (p : HamtShape) (told : Option (List (List ℕ))) (root : List TrieSlot) (b : ℕ) (todo : List Todo) (given : ℕ) → WalkStands p told root [] (leave b ∷ todo) given → ⊥
root-stays p told root b todo given s = rest-steps root s.done (leave b ∷ todo) s.steps

one-left : (p : HamtShape) (n : ℕ) → suc n < trie_levels p → suc (trie_levels p - suc (suc n)) ≡ trie_levels p - suc n
one-left p n short = omega arith

zero-more : (n : ℕ) → n ≡ n + 0
zero-more n = omega arith

pub left-stands : (p : HamtShape) (told : Option (List (List ℕ))) (root : List TrieSlot) (c : List ℕ × ℕ) (way : List (List ℕ × ℕ)) (b : ℕ) (todo : List Todo) (given : ℕ) → length (c ∷ way) < trie_levels p → WalkStands p told root (c ∷ way) (leave b ∷ todo) given
    → WalkStands p told root way todo given
left-stands p told root c way b todo given short s =
    let e = at-end p told root c way b todo given s in
    subst (WalkStands p told root way todo) (sym e.count)
    (pass p told root way (enter c.0 c.1) todo b e.many tt
    (e.many, 0, zero-more e.many, subst (λ left. TreeMany p told left c.0 e.many) (one-left p (length way) short) (record { slots = e.slots; node = e.node; many = e.stands }), refl) e.still)

-- ---- entering

pub enter-stands : (p : HamtShape) (told : Option (List (List ℕ))) (root : List TrieSlot) (way : List (List ℕ × ℕ)) (id : List ℕ) (i : ℕ) (slots : List TrieSlot) (todo : List Todo) (given : ℕ) → IsNodeAt p told id slots → WalkStands p told root way (enter id i ∷ todo) given
    → WalkStands p told root ((id, i) ∷ way) (node_todo 0 slots ++ leave given ∷ todo) given
enter-stands p told root way id i slots todo given node s = record {
  slots = slots;
  node = node;
  done = [];
  rest = node_todo 0 slots;
  above = todo;
  before = given;
  many = 0;
  is = refl;
  steps = refl;
  gave = refl;
  count = zero-more given;
  still = s;
}

-- ---- the node whose step is next

pub record AtNode (p : HamtShape) (told : Option (List (List ℕ))) (root : List TrieSlot) (at : List ℕ) (way : List (List ℕ × ℕ)) (t : Todo) : Type 0 where
  pub slots : List TrieSlot
  pub node : HasNode p told root (indices_of way) (last_of at way) slots
  pub done : List Todo
  pub rest : List Todo
  pub steps : node_todo 0 slots ≡ done ++ t ∷ rest

pub at-node : (p : HamtShape) (told : Option (List (List ℕ))) (root : List TrieSlot) (at : List ℕ) (way : List (List ℕ × ℕ)) (t : Todo) (todo : List Todo) (given : ℕ) → AreSteps (t ∷ []) → WalkStands p told root way (t ∷ todo) given → AtNode p told root at way t
at-node p told root at [] t todo given step s = record { slots = root; node = refl; done = s.done; rest = todo; steps = s.steps }
at-node p told root at (c ∷ way) t todo given step s =
    let k = cut t todo s.rest s.above s.before step s.is in
    record { slots = s.slots; node = s.node; done = s.done; rest = k.more; steps = s.steps ∙ ap (λ r. s.done ++ r) k.is }

-- ---- a step is one of a slot

abbrev Among : Todo → List Todo → Type 0
Among t [] = ⊥
Among t (x ∷ xs) = (t ≡ x) ⊎ Among t xs

among-mid : (t : Todo) (done rest : List Todo) → Among t (done ++ t ∷ rest)
among-mid t [] rest = inl refl
among-mid t (x ∷ done) rest = inr (among-mid t done rest)

among-either : (t : Todo) (xs ys : List Todo) → Among t (xs ++ ys) → Among t xs ⊎ Among t ys
among-either t [] ys a = inr a
among-either t (x ∷ xs) ys a = ⊎_elim (λ e. inl (inl e)) (λ r. ⊎_elim (λ l. inl (inr l)) (λ r. inr r) (among-either t xs ys r)) a

-- which entry is given, and which child is entered
abbrev IsGive : Todo → Type 0
IsGive (give k v i) = Unit {0}
IsGive (enter id i) = ⊥
IsGive (leave before) = ⊥

no-enter : (id : List ℕ) (i j : ℕ) (es : List (List ℕ × Data)) → Among (enter id i) (map (λ e. give e.0 e.1 j) es) → ⊥
no-enter id i j [] a = a
no-enter id i j (e ∷ es) a = ⊎_elim (λ is. subst IsGive (sym is) tt) (λ r. no-enter id i j es r) a

record EnterAt (id : List ℕ) (i j : ℕ) (slots : List TrieSlot) : Type 0 where
  pub k : ℕ
  pub index : i ≡ j + k
  pub stands : slice_get slots k ≡ Some (child id)

record EnterIn (id : List ℕ) (i j : ℕ) (s : TrieSlot) : Type 0 where
  pub index : i ≡ j
  pub is : s ≡ child id

enter-same : (id c : List ℕ) (i j : ℕ) → enter id i ≡ enter c j → EnterIn id i j (child c)
enter-same id c i j is = let one : i ≡ j = cc in let two : child c ≡ child id = cc in record { index = one; is = two }

enter-slot : (id : List ℕ) (i j : ℕ) (s : TrieSlot) → Among (enter id i) (slot_todo j s) → EnterIn id i j s
enter-slot id i j empty a = absurd a
enter-slot id i j (bucket es) a = absurd (no-enter id i j es a)
enter-slot id i j (child c) a = ⊎_elim (λ is. enter-same id c i j is) (λ no_more. absurd no_more) a

enter-node : (id : List ℕ) (i j : ℕ) (slots : List TrieSlot) → Among (enter id i) (node_todo j slots) → EnterAt id i j slots
enter-node id i j [] a = absurd a
enter-node id i j (s ∷ slots) a =
    ⊎_elim
    (λ here. let r = enter-slot id i j s here in let same = r.index in record { k = 0; index = omega arith; stands = ap Some r.is })
    (λ behind. let r = enter-node id i (j + 1) slots behind in let same = r.index in record { k = suc r.k; index = omega arith; stands = r.stands })
    (among-either (enter id i) (slot_todo j s) (node_todo (j + 1) slots) a)

same-index : (i k : ℕ) → i ≡ 0 + k → k ≡ i
same-index i k is = omega arith

pub enter-there : (slots : List TrieSlot) (done rest : List Todo) (id : List ℕ) (i : ℕ) → node_todo 0 slots ≡ done ++ enter id i ∷ rest → slice_get slots i ≡ Some (child id)
enter-there slots done rest id i is =
    let r = enter-node id i 0 slots (subst (Among (enter id i)) (sym is) (among-mid (enter id i) done rest)) in
    subst (λ k. slice_get slots k ≡ Some (child id)) (same-index i r.k r.index) r.stands

pub record GiveIn (key : List ℕ) (value : Data) (es : List (List ℕ × Data)) : Type 0 where
  pub place : ℕ
  pub is : slice_get es place ≡ Some (key, value)

pub record GiveAt (key : List ℕ) (value : Data) (i j : ℕ) (slots : List TrieSlot) : Type 0 where
  pub k : ℕ
  pub index : i ≡ j + k
  pub entries : List (List ℕ × Data)
  pub stands : slice_get slots k ≡ Some (bucket entries)
  pub among : GiveIn key value entries

record GiveSlot (key : List ℕ) (value : Data) (i j : ℕ) (s : TrieSlot) : Type 0 where
  pub index : i ≡ j
  pub entries : List (List ℕ × Data)
  pub is : s ≡ bucket entries
  pub among : GiveIn key value entries

give-same : (key : List ℕ) (value : Data) (i j : ℕ) (e : List ℕ × Data) (es : List (List ℕ × Data)) → give key value i ≡ give e.0 e.1 j → (i ≡ j) × GiveIn key value (e ∷ es)
give-same key value i j e es is =
    let one : i ≡ j = cc in
    let two : e.0 ≡ key = cc in
    let three : e.1 ≡ value = cc in
    (one, record { place = 0; is = (λ k. Some (two k, three k)) })

give-in : (key : List ℕ) (value : Data) (i j : ℕ) (es : List (List ℕ × Data)) → Among (give key value i) (map (λ e. give e.0 e.1 j) es) → (i ≡ j) × GiveIn key value es
give-in key value i j [] a = absurd a
give-in key value i j (e ∷ es) a =
    ⊎_elim (λ is. give-same key value i j e es is) (λ r. let p = give-in key value i j es r in (p.0, record { place = suc p.1.place; is = p.1.is })) a

give-slot : (key : List ℕ) (value : Data) (i j : ℕ) (s : TrieSlot) → Among (give key value i) (slot_todo j s) → GiveSlot key value i j s
give-slot key value i j empty a = absurd a
give-slot key value i j (bucket es) a = let p = give-in key value i j es a in record { index = p.0; entries = es; is = refl; among = p.1 }
give-slot key value i j (child c) a = ⊎_elim (λ is. absurd (subst IsGive is tt)) (λ no_more. absurd no_more) a

give-node : (key : List ℕ) (value : Data) (i j : ℕ) (slots : List TrieSlot) → Among (give key value i) (node_todo j slots) → GiveAt key value i j slots
give-node key value i j [] a = absurd a
give-node key value i j (s ∷ slots) a =
    ⊎_elim
    (λ here. let r = give-slot key value i j s here in let same = r.index in record { k = 0; index = omega arith; entries = r.entries; stands = ap Some r.is; among = r.among })
    (λ behind. let r = give-node key value i (j + 1) slots behind in let same = r.index in record { k = suc r.k; index = omega arith; entries = r.entries; stands = r.stands; among = r.among })
    (among-either (give key value i) (slot_todo j s) (node_todo (j + 1) slots) a)

pub record GiveThere (key : List ℕ) (value : Data) (i : ℕ) (slots : List TrieSlot) : Type 0 where
  pub entries : List (List ℕ × Data)
  pub stands : slice_get slots i ≡ Some (bucket entries)
  pub among : GiveIn key value entries

pub give-there : (slots : List TrieSlot) (done rest : List Todo) (key : List ℕ) (value : Data) (i : ℕ) → node_todo 0 slots ≡ done ++ give key value i ∷ rest → GiveThere key value i slots
give-there slots done rest key value i is =
    let r = give-node key value i 0 slots (subst (Among (give key value i)) (sym is) (among-mid (give key value i) done rest)) in
    record { entries = r.entries; stands = subst (λ k. slice_get slots k ≡ Some (bucket r.entries)) (same-index i r.k r.index) r.stands; among = r.among }

-- ---- the way is one on the tree

pub on-tree : (p : HamtShape) (told : Option (List (List ℕ))) (root : List TrieSlot) (at : List ℕ) (way : List (List ℕ × ℕ)) (todo : List Todo) (given : ℕ) → WalkStands p told root way todo given → IsOnTree p told root at (indices_of way) (last_of at way)
on-tree p told root at [] todo given s = refl
on-tree p told root at (c ∷ way) todo given s =
    let n = at-node p told root at way (enter c.0 c.1) s.above s.before tt s.still in
    (last_of at way, n.slots, on-tree p told root at way (enter c.0 c.1 ∷ s.above) s.before s.still, n.node, enter-there n.slots n.done n.rest c.0 c.1 n.steps)
