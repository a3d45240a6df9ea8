-- Opening a child: what it gives, and what is still to be given once its slots are to be done.
use Rattle.std.proofs.Common.{◌≡◌, ℕ, suc, ◌+◌, ◌-◌, ◌==◌, ◌&&◌, Bool, true, false, List, [], ◌∷◌, ◌++◌, length, map, refl, sym, ap, ◌∙◌, subst, arith, append_assoc}
use Rattle.std.proofs.lemmas.Bool.{and_parts, and_from, eq-eqb, eqb-true}
use Rattle.std.proofs.lemmas.List.{length-append}
use Rattle.ild_data.proofs.AllOf.{all_append, all_split}
use Rattle.ild_data.specs.Data.{Data}
use Rattle.ild_data.specs.Trie.{TrieSlot, empty, bucket, child, at_depth}
use Rattle.ild_data.specs.declared.hamt_shape.HamtShape.{HamtShape}
use Rattle.ild_data.specs.TrieShape.{index, trie_levels}
use Rattle.ild_bulk_walker.specs.Gives.{SlotGives, SlotsGive, AtIndex, TreeGives}
use Rattle.ild_bulk_walker.specs.Todo.{Todo, give, slot_todo, node_todo, agrees, fits, AllFit, StillGives}

-- ---- paths

and_assoc : (a b c : Bool) → ((a && b) && c) ≡ (a && (b && c))
and_assoc true b c = refl
and_assoc false b c = refl

one_more : (d n : ℕ) → (d + 1) + n ≡ d + suc n
one_more d n = omega arith

no_more : (d : ℕ) → d ≡ d + 0
no_more d = omega arith

and_true : (b : Bool) → (b && true) ≡ b
and_true true = refl
and_true false = refl

agrees-snoc : (p : HamtShape) (hash : List ℕ) (d : ℕ) (path : List ℕ) (i : ℕ) → agrees p hash d (path ++ i ∷ []) ≡ (agrees p hash d path && (index p hash (d + length path) == i))
agrees-snoc p hash d [] i = and_true (index p hash d == i) ∙ ap (λ n. index p hash n == i) (no_more d)
agrees-snoc p hash d (j ∷ path) i =
    ap (λ b. (index p hash d == j) && b) (agrees-snoc p hash (d + 1) path i ∙ ap (λ n. agrees p hash (d + 1) path && (index p hash n == i)) (one_more d (length path)))
    ∙ sym (and_assoc (index p hash d == j) (agrees p hash (d + 1) path) (index p hash (d + suc (length path)) == i))

zero_more : (n : ℕ) → 0 + n ≡ n
zero_more n = omega arith

-- a key fits a place beneath a child where it fits the child, and has the index there
pub fits-snoc : (h : List ℕ → List ℕ) (p : HamtShape) (path : List ℕ) (i j : ℕ) (k : List ℕ) → fits h p (path ++ i ∷ []) j k ≡ (fits h p path i k && (at_depth h p (suc (length path)) k == j))
fits-snoc h p path i j k =
    ap (λ b. b && (index p (h k) (length (path ++ i ∷ [])) == j)) (agrees-snoc p (h k) 0 path i ∙ ap (λ n. agrees p (h k) 0 path && (index p (h k) n == i)) (zero_more (length path)))
    ∙ ap (λ n. fits h p path i k && (index p (h k) n == j)) (length-append path (i ∷ []) ∙ more (length path))
  where
    more : (n : ℕ) → n + 1 ≡ suc n
    more n = omega arith

-- ---- lists of entries

fit-both : (h : List ℕ → List ℕ) (p : HamtShape) (path : List ℕ) (i j : ℕ) (es : List (List ℕ × Data)) → AllFit h p path i es → AtIndex h p (suc (length path)) j es → AllFit h p (path ++ i ∷ []) j es
fit-both h p path i j [] fit at = tt
fit-both h p path i j (e ∷ es) fit at = (
  fits-snoc h p path i j e.0 ∙ and_from (fits h p path i e.0) (at_depth h p (suc (length path)) e.0 == j) fit.0 (eq-eqb (at_depth h p (suc (length path)) e.0) j at.0),
  fit-both h p path i j es fit.1 at.1,
)

fit-child : (h : List ℕ → List ℕ) (p : HamtShape) (path : List ℕ) (i j : ℕ) (es : List (List ℕ × Data)) → AllFit h p (path ++ i ∷ []) j es → AllFit h p path i es
fit-child h p path i j [] fit = tt
fit-child h p path i j (e ∷ es) fit =
    ((and_parts (fits h p path i e.0) (at_depth h p (suc (length path)) e.0 == j) (sym (fits-snoc h p path i j e.0) ∙ fit.0)).0, fit-child h p path i j es fit.1)

fit-at : (h : List ℕ → List ℕ) (p : HamtShape) (path : List ℕ) (i j : ℕ) (es : List (List ℕ × Data)) → AllFit h p (path ++ i ∷ []) j es → AtIndex h p (suc (length path)) j es
fit-at h p path i j [] fit = tt
fit-at h p path i j (e ∷ es) fit =
    (eqb-true (at_depth h p (suc (length path)) e.0) j (and_parts (fits h p path i e.0) (at_depth h p (suc (length path)) e.0 == j) (sym (fits-snoc h p path i j e.0) ∙ fit.0)).1, fit-at h p path i j es fit.1)

-- ---- the entries of a bucket

one-less : (given n : ℕ) → (given + 1) + n ≡ given + suc n
one-less given n = omega arith

bucket-on : (h : List ℕ → List ℕ) (p : HamtShape) (held : List (List ℕ)) (path : List ℕ) (j : ℕ) (todo : List Todo) (given : ℕ) (fs more : List (List ℕ × Data)) → AllFit h p path j fs
    → StillGives h p held todo path (given + length fs) more → StillGives h p held (map (λ e. give e.0 e.1 j) fs ++ todo) path given (fs ++ more)
bucket-on h p held path j todo given [] more fit rest = subst (λ n. StillGives h p held todo path n more) (sym (no_more given)) rest
bucket-on h p held path j todo given (f ∷ fs) more fit rest =
    (fs ++ more, refl, fit.0, bucket-on h p held path j todo (given + 1) fs more fit.1 (subst (λ n. StillGives h p held todo path n more) (sym (one-less given (length fs))) rest))

-- what is to be given begins with the entries here, and the others are given behind them
pub record Parts (h : List ℕ → List ℕ) (p : HamtShape) (held : List (List ℕ)) (path : List ℕ) (todo : List Todo) (given : ℕ) (here es : List (List ℕ × Data)) : Type 0 where
  pub more : List (List ℕ × Data)
  pub is : es ≡ here ++ more
  pub rest : StillGives h p held todo path (given + length here) more

bucket-off : (h : List ℕ → List ℕ) (p : HamtShape) (held : List (List ℕ)) (path : List ℕ) (j : ℕ) (todo : List Todo) (given : ℕ) (fs es : List (List ℕ × Data)) → StillGives h p held (map (λ e. give e.0 e.1 j) fs ++ todo) path given es
    → Parts h p held path todo given fs es × AllFit h p path j fs
bucket-off h p held path j todo given [] es all = (record { more = es; is = refl; rest = subst (λ n. StillGives h p held todo path n es) (no_more given) all }, tt)
bucket-off h p held path j todo given (f ∷ fs) es all =
    let r = bucket-off h p held path j todo (given + 1) fs all.0 all.3 in (
      record { more = r.0.more; is = all.1 ∙ ap (λ xs. f ∷ xs) r.0.is; rest = subst (λ n. StillGives h p held todo path n r.0.more) (one-less given (length fs)) r.0.rest },
      (all.2, r.1),
    )

-- ---- the slots of a node

abbrev pub beneath : (List ℕ → List ℕ) → HamtShape → List (List ℕ) → List ℕ → List ℕ → List (List ℕ × Data) → Type 0
beneath h p held path = TreeGives h p held (trie_levels p - suc (length path)) (suc (length path))

slot-on : (h : List ℕ → List ℕ) (p : HamtShape) (held : List (List ℕ)) (path : List ℕ) (j : ℕ) (todo : List Todo) (given : ℕ) (s : TrieSlot) (here more : List (List ℕ × Data)) → AllFit h p path j here → SlotGives (beneath h p held path) s here
    → StillGives h p held todo path (given + length here) more → StillGives h p held (slot_todo j s ++ todo) path given (here ++ more)
slot-on h p held path j todo given empty here more fit gives rest =
    subst (λ xs. StillGives h p held todo path given (xs ++ more)) (sym gives)
    (subst (λ n. StillGives h p held todo path n more) (ap (λ xs. given + length xs) gives ∙ sym (no_more given)) rest)
slot-on h p held path j todo given (bucket fs) here more fit gives rest =
    subst (λ xs. StillGives h p held (map (λ e. give e.0 e.1 j) fs ++ todo) path given (xs ++ more)) (sym gives)
    (bucket-on h p held path j todo given fs more (subst (λ xs. AllFit h p path j xs) gives fit) (subst (λ xs. StillGives h p held todo path (given + length xs) more) gives rest))
slot-on h p held path j todo given (child id) here more fit gives rest = (here, more, refl, fit, gives, rest)

pub record SlotParts (h : List ℕ → List ℕ) (p : HamtShape) (held : List (List ℕ)) (path : List ℕ) (j : ℕ) (todo : List Todo) (given : ℕ) (s : TrieSlot) (es : List (List ℕ × Data)) : Type 0 where
  pub here : List (List ℕ × Data)
  pub parts : Parts h p held path todo given here es
  pub fit : AllFit h p path j here
  pub gives : SlotGives (beneath h p held path) s here

slot-off : (h : List ℕ → List ℕ) (p : HamtShape) (held : List (List ℕ)) (path : List ℕ) (j : ℕ) (todo : List Todo) (given : ℕ) (s : TrieSlot) (es : List (List ℕ × Data)) → StillGives h p held (slot_todo j s ++ todo) path given es
    → SlotParts h p held path j todo given s es
slot-off h p held path j todo given empty es all =
    record { here = []; parts = record { more = es; is = refl; rest = subst (λ n. StillGives h p held todo path n es) (no_more given) all }; fit = tt; gives = refl }
slot-off h p held path j todo given (bucket fs) es all = let r = bucket-off h p held path j todo given fs es all in record { here = fs; parts = r.0; fit = r.1; gives = refl }
slot-off h p held path j todo given (child id) es all = record { here = all.0; parts = record { more = all.1; is = all.2; rest = all.5 }; fit = all.3; gives = all.4 }

sum_of : (given : ℕ) (xs ys : List (List ℕ × Data)) → (given + length xs) + length ys ≡ given + length (xs ++ ys)
sum_of given xs ys = omega (arith, length-append xs ys)

-- the slots of a node under a path and an index: first its entries, and then what is behind it
pub slots-on : (h : List ℕ → List ℕ) (p : HamtShape) (held : List (List ℕ)) (path : List ℕ) (i j : ℕ) (todo : List Todo) (given : ℕ) (slots : List TrieSlot) (here more : List (List ℕ × Data)) → AllFit h p path i here
    → SlotsGive h p (suc (length path)) j (beneath h p held (path ++ i ∷ [])) slots here → StillGives h p held todo (path ++ i ∷ []) (given + length here) more
    → StillGives h p held (node_todo j slots ++ todo) (path ++ i ∷ []) given (here ++ more)
slots-on h p held path i j todo given [] here more fit gives rest =
    subst (λ xs. StillGives h p held todo (path ++ i ∷ []) given (xs ++ more)) (sym gives)
    (subst (λ n. StillGives h p held todo (path ++ i ∷ []) n more) (ap (λ xs. given + length xs) gives ∙ sym (no_more given)) rest)
slots-on h p held path i j todo given (s ∷ slots) here more fit gives rest =
    let first : List (List ℕ × Data) = gives.0 in
    let others : List (List ℕ × Data) = gives.1 in
    let fits = all_split (λ e. fits h p path i e.0 ≡ true) first others (subst (λ xs. AllFit h p path i xs) gives.2 fit) in
    let behind = slots-on h p held path i (j + 1) todo (given + length first) slots others more fits.1 gives.5
    (subst (λ n. StillGives h p held todo (path ++ i ∷ []) n more) (ap (λ xs. given + length xs) gives.2 ∙ sym (sum_of given first others)) rest) in
    subst (λ ts. StillGives h p held ts (path ++ i ∷ []) given (here ++ more)) (sym (append_assoc (slot_todo j s) (node_todo (j + 1) slots) todo))
    (subst (λ xs. StillGives h p held (slot_todo j s ++ (node_todo (j + 1) slots ++ todo)) (path ++ i ∷ []) given xs) (sym (append_assoc first others more) ∙ ap (λ xs. xs ++ more) (sym gives.2))
    (slot-on h p held (path ++ i ∷ []) j (node_todo (j + 1) slots ++ todo) given s first (others ++ more) (fit-both h p path i j first fits.0 gives.3) gives.4 behind))

pub record NodeParts (h : List ℕ → List ℕ) (p : HamtShape) (held : List (List ℕ)) (path : List ℕ) (i j : ℕ) (todo : List Todo) (given : ℕ) (slots : List TrieSlot) (es : List (List ℕ × Data)) : Type 0 where
  pub here : List (List ℕ × Data)
  pub parts : Parts h p held (path ++ i ∷ []) todo given here es
  pub fit : AllFit h p path i here
  pub gives : SlotsGive h p (suc (length path)) j (beneath h p held (path ++ i ∷ [])) slots here

pub slots-off : (h : List ℕ → List ℕ) (p : HamtShape) (held : List (List ℕ)) (path : List ℕ) (i j : ℕ) (todo : List Todo) (given : ℕ) (slots : List TrieSlot) (es : List (List ℕ × Data))
    → StillGives h p held (node_todo j slots ++ todo) (path ++ i ∷ []) given es → NodeParts h p held path i j todo given slots es
slots-off h p held path i j todo given [] es all =
    record { here = []; parts = record { more = es; is = refl; rest = subst (λ n. StillGives h p held todo (path ++ i ∷ []) n es) (no_more given) all }; fit = tt; gives = refl }
slots-off h p held path i j todo given (s ∷ slots) es all =
    let first = slot-off h p held (path ++ i ∷ []) j (node_todo (j + 1) slots ++ todo) given s es
    (subst (λ ts. StillGives h p held ts (path ++ i ∷ []) given es) (append_assoc (slot_todo j s) (node_todo (j + 1) slots) todo) all) in
    let others = slots-off h p held path i (j + 1) todo (given + length first.here) slots first.parts.more first.parts.rest in
    record {
      here = first.here ++ others.here;
      parts = record {
        more = others.parts.more;
        is = first.parts.is ∙ ap (λ xs. first.here ++ xs) others.parts.is ∙ sym (append_assoc first.here others.here others.parts.more);
        rest = subst (λ n. StillGives h p held todo (path ++ i ∷ []) n others.parts.more) (sum_of given first.here others.here) others.parts.rest;
      };
      fit = all_append (λ e. fits h p path i e.0 ≡ true) first.here others.here (fit-child h p path i j first.here first.fit) others.fit;
      gives = (first.here, others.here, refl, fit-at h p path i j first.here first.fit, first.gives, others.gives);
    }

-- ---- the slots of a root

fit-root : (h : List ℕ → List ℕ) (p : HamtShape) (j : ℕ) (es : List (List ℕ × Data)) → AtIndex h p 0 j es → AllFit h p [] j es
fit-root h p j [] at = tt
fit-root h p j (e ∷ es) at = (eq-eqb (at_depth h p 0 e.0) j at.0, fit-root h p j es at.1)

root-fit : (h : List ℕ → List ℕ) (p : HamtShape) (j : ℕ) (es : List (List ℕ × Data)) → AllFit h p [] j es → AtIndex h p 0 j es
root-fit h p j [] fit = tt
root-fit h p j (e ∷ es) fit = (eqb-true (at_depth h p 0 e.0) j fit.0, root-fit h p j es fit.1)

pub root-on : (h : List ℕ → List ℕ) (p : HamtShape) (held : List (List ℕ)) (j given : ℕ) (slots : List TrieSlot) (es : List (List ℕ × Data)) → SlotsGive h p 0 j (beneath h p held []) slots es → StillGives h p held (node_todo j slots) [] given es
root-on h p held j given [] es gives = gives
root-on h p held j given (s ∷ slots) es gives =
    subst (λ xs. StillGives h p held (slot_todo j s ++ node_todo (j + 1) slots) [] given xs) (sym gives.2)
    (slot-on h p held [] j (node_todo (j + 1) slots) given s gives.0 gives.1 (fit-root h p j gives.0 gives.3) gives.4 (root-on h p held (j + 1) (given + length gives.0) slots gives.1 gives.5))

pub root-off : (h : List ℕ → List ℕ) (p : HamtShape) (held : List (List ℕ)) (j given : ℕ) (slots : List TrieSlot) (es : List (List ℕ × Data)) → StillGives h p held (node_todo j slots) [] given es → SlotsGive h p 0 j (beneath h p held []) slots es
root-off h p held j given [] es all = all
root-off h p held j given (s ∷ slots) es all =
    let first = slot-off h p held [] j (node_todo (j + 1) slots) given s es all in
    (first.here, first.parts.more, first.parts.is, root-fit h p j first.here first.fit, first.gives, root-off h p held (j + 1) (given + length first.here) slots first.parts.more first.parts.rest)
