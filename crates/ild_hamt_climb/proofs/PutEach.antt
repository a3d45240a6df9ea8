-- Entries that are put one after another, and those that the slots of a node hold so far.
use Rattle.std.proofs.Common.{◌≡◌, ◌≢◌, ⊎_elim, ℕ, zero, suc, ◌+◌, ◌≤◌, ◌<◌, ◌==◌, ◌||◌, Bool, true, false, cond, not, List, [], ◌∷◌, ◌++◌, length, take, filter, Option, Some, None, refl, sym, ap, ◌∙◌, subst, arith}
use Rattle.std.specs.Prelude.{T, nat_lt, slice_get, OnOk, Result}
use Rattle.std.specs.Borrow.{Bor}
use Rattle.ild_cbor.specs.Nodes.{HasData}
use Rattle.ild_cbor.specs.declared.node.Node.{Node}
use Rattle.ild_node_slots.specs.Views.{EntryIs}
use Rattle.ild_node_slots.specs.declared.bucket.Bucket.{Bucket}
use Rattle.ild_hamt_climb.proofs.Differing.{other-key}
use Rattle.std.specs.Ordering.{eq_by_cmp, is_lt, is_eq}
use Rattle.std.specs.declared.cmp.Ordering.{Ordering}
use Rattle.std.specs.declared.cmp.Ordering.TheVariants.{Less, Equal, Greater}
use Rattle.std.specs.FinMap.{find, put, is_sorted}
use Rattle.std.specs.FinMap.Entries.{below_all, find-where_key, is_sorted-where_key}
use Rattle.std.proofs.lemmas.Bool.{le-leb, lt-leb, eqb-true, eq-eqb, ne_eqb, cases_eq, cases_lt}
use Rattle.std.proofs.lemmas.List.{take_all}
use Rattle.std.proofs.lemmas.List.Elements.{filter-append}
use Rattle.ild_hamt_trie.proofs.Gather.{or_none}
use Rattle.ild_data.specs.Data.{Data}
use Rattle.ild_data.specs.ByteOrder.{bytewise, without, IsInOrder}
use Rattle.ild_data.specs.Trie.{part}
use Rattle.ild_hamt_trie.proofs.Fold.{or_else, either}
use Rattle.ild_hamt_trie.proofs.Orders.{and_T}
use Rattle.ild_hamt_trie.proofs.Parts.{same_by_find, same_key, key_itself, same_if_equal, in_order-part, in_order-put, in_order-without, find-part, find-put_at}
use Rattle.ild_typed.proofs.NodeEntries.{T_of}
use Rattle.ild_hamt_climb.specs.inside.Gathering.{put_each, some_entry, held_to}

-- ---- putting

less_other : (o : Ordering) → is_lt o ≡ true → is_eq o ≡ false
less_other Less is = refl
less_other Equal is = absurd cc
less_other Greater is = absurd cc

find_below : (q : List ℕ) (es : List (List ℕ × Data)) → T (below_all bytewise q es) → find bytewise q es ≡ None
find_below q [] below = refl
find_below q (e ∷ es) below =
    let parts = and_T (is_lt (bytewise q e.0)) (below_all bytewise q es) below in
    ap (λ b. cond b (Some e.1) (find bytewise q es)) (less_other (bytewise q e.0) parts.0) ∙ find_below q es parts.1

pub in_order-put_each : (es rows : List (List ℕ × Data)) → IsInOrder rows → IsInOrder (put_each es rows)
in_order-put_each [] rows order = order
in_order-put_each (e ∷ es) rows order = in_order-put_each es (put bytewise e.0 e.1 rows) (in_order-put e.0 e.1 rows order)

pub find-put_each : (q : List ℕ) (es rows : List (List ℕ × Data)) → IsInOrder es → find bytewise q (put_each es rows) ≡ or_else (find bytewise q es) (find bytewise q rows)
unfolding or_else
find-put_each q [] rows order = refl
find-put_each q (e ∷ es) rows order =
    let parts = and_T (below_all bytewise e.0 es) (is_sorted bytewise es) order in
    find-put_each q es (put bytewise e.0 e.1 rows) parts.1
    ∙ ap (or_else (find bytewise q es)) (find-put_at q e.0 e.1 rows)
    ∙ by (eq_by_cmp bytewise q e.0) refl (λ same. subst (λ (x : List ℕ). find bytewise x es ≡ None) (sym same) (find_below e.0 es (T_of _ parts.0)))
  where
    by : (b : Bool) → eq_by_cmp bytewise q e.0 ≡ b → (q ≡ e.0 → find bytewise q es ≡ None)
        → or_else (find bytewise q es) (cond b (Some e.1) (find bytewise q rows)) ≡ or_else (cond b (Some e.1) (find bytewise q es)) (find bytewise q rows)
    by true is none = ap (λ o. or_else o (Some e.1)) (none (same_key q e.0 is))
    by false is none = refl

-- among none they are themselves
pub put_each-none : (es : List (List ℕ × Data)) → IsInOrder es → put_each es [] ≡ es
put_each-none es order = same_by_find _ _ (in_order-put_each es [] tt) order (λ q. find-put_each q es [] order ∙ or_none (find bytewise q es))

pub put_each-append : (xs ys rows : List (List ℕ × Data)) → put_each (xs ++ ys) rows ≡ put_each ys (put_each xs rows)
put_each-append [] ys rows = refl
put_each-append (x ∷ xs) ys rows = put_each-append xs ys (put bytewise x.0 x.1 rows)

-- ---- the entries of a bucket, one after another

pub got : (es : List (List ℕ × Data)) (i : ℕ) → i < length es → take (i + 1) es ≡ take i es ++ some_entry (slice_get es i)
got es i lt = by es i lt
  where
    next : (i : ℕ) → i + 1 ≡ suc i
    next i = omega arith

    by : (es : List (List ℕ × Data)) (i : ℕ) → i < length es → take (i + 1) es ≡ take i es ++ some_entry (slice_get es i)
    by [] i lt = absurd (omega arith)
    by (e ∷ es) zero lt = refl
    by (e ∷ es) (suc i) lt = ap (λ n. take n (e ∷ es)) (next (suc i)) ∙ ap (λ xs. e ∷ xs) (ap (λ n. take n es) (sym (next i)) ∙ by es i (omega arith))

pub entry-more : (es rows now new : List (List ℕ × Data)) (i : ℕ) → i < length es → now ≡ put_each (take i es) rows → new ≡ put_each (some_entry (slice_get es i)) now → new ≡ put_each (take (i + 1) es) rows
entry-more es rows now new i lt was puts =
    puts ∙ ap (put_each (some_entry (slice_get es i))) was ∙ sym (ap (λ xs. put_each xs rows) (got es i lt) ∙ put_each-append (take i es) (some_entry (slice_get es i)) rows)

pub without-append : (k : List ℕ) (xs ys : List (List ℕ × Data)) → without k (xs ++ ys) ≡ without k xs ++ without k ys
without-append k xs ys = filter-append (λ e. not (eq_by_cmp bytewise k e.0)) xs ys

pub other-more : (k : List ℕ) (es now new : List (List ℕ × Data)) (i : ℕ) → i < length es → now ≡ put_each (without k (take i es)) [] → new ≡ put_each (without k (some_entry (slice_get es i))) now
    → new ≡ put_each (without k (take (i + 1) es)) []
other-more k es now new i lt was puts =
    puts ∙ ap (put_each (without k (some_entry (slice_get es i)))) was
    ∙ sym (ap (λ xs. put_each (without k xs) []) (got es i lt) ∙ ap (λ xs. put_each xs []) (without-append k (take i es) (some_entry (slice_get es i)))
    ∙ put_each-append (without k (take i es)) (without k (some_entry (slice_get es i))) [])

pub other-done : (k : List ℕ) (es now : List (List ℕ × Data)) (i : ℕ) → IsInOrder es → length es ≤ i → now ≡ put_each (without k (take i es)) [] → now ≡ without k es
other-done k es now i order le was = was ∙ ap (λ xs. put_each (without k xs) []) (take_all i es le) ∙ put_each-none (without k es) (in_order-without k es order)

-- ---- the entries of some indices

filter_same : {X : Type 0} (f g : X → Bool) (xs : List X) → ((x : X) → f x ≡ g x) → filter f xs ≡ filter g xs
filter_same f g [] is = refl
filter_same f g (x ∷ xs) is = (λ i. cond (is x i) (x ∷ filter_same f g xs is i) (filter_same f g xs is i))

filter_all : {X : Type 0} (f : X → Bool) (xs : List X) → ((x : X) → f x ≡ true) → filter f xs ≡ xs
filter_all f [] is = refl
filter_all f (x ∷ xs) is = ap (λ b. cond b (x ∷ filter f xs) (filter f xs)) (is x) ∙ ap (λ ys. x ∷ ys) (filter_all f xs is)

length_filter : {X : Type 0} (f : X → Bool) (xs : List X) → length (filter f xs) ≤ length xs
length_filter f [] = omega arith
length_filter f (x ∷ xs) =
    let rest = length_filter f xs in
    elim (f x) as (λ b. length (cond b (x ∷ filter f xs) (filter f xs)) ≤ suc (length xs)) [ true ↦ omega arith | false ↦ omega arith ]

pub held-few : (at : List ℕ → ℕ) (i j : ℕ) (gs : List (List ℕ × Data)) → length (held_to at i j gs) ≤ length gs
held-few at i j gs = length_filter (λ e. (at e.0 == i) || nat_lt (at e.0) j) gs

or_off : (b : Bool) → (b || false) ≡ b
or_off true = refl
or_off false = refl

pub held-first : (at : List ℕ → ℕ) (i : ℕ) (gs : List (List ℕ × Data)) → held_to at i 0 gs ≡ part at gs i
held-first at i gs =
    filter_same (λ e. (at e.0 == i) || nat_lt (at e.0) 0) (λ e. at e.0 == i) gs
    (λ e. ap (λ b. (at e.0 == i) || b) (lt-leb (suc (at e.0)) 0 (omega arith)) ∙ or_off (at e.0 == i))

pub held-all : (at : List ℕ → ℕ) (i j : ℕ) (gs : List (List ℕ × Data)) → ((q : List ℕ) → at q < j) → held_to at i j gs ≡ gs
held-all at i j gs within =
    filter_all (λ e. (at e.0 == i) || nat_lt (at e.0) j) gs (λ e. ap (λ b. (at e.0 == i) || b) (le-leb (suc (at e.0)) j (let lt = within e.0 in omega arith)) ∙ or_on (at e.0 == i))
  where
    or_on : (b : Bool) → (b || true) ≡ true
    or_on true = refl
    or_on false = refl

-- one index more
one_more : (a j : ℕ) → nat_lt a (j + 1) ≡ ((a == j) || nat_lt a j)
one_more a j =
    ⊎_elim
    (λ same. le-leb (suc a) (j + 1) (let e : suc a ≤ j + 1 = omega (arith, same) in e) ∙ sym (ap (λ b. b || nat_lt a j) (eq-eqb a j same)))
    (λ apart. ⊎_elim
    (λ lt. le-leb (suc a) (j + 1) (let e : suc a ≤ j + 1 = omega (arith, lt) in e) ∙ sym (ap (λ b. (a == j) || b) (le-leb (suc a) j (let e : suc a ≤ j = omega (arith, lt) in e)) ∙ or_on (a == j)))
    (λ le. lt-leb (suc a) (j + 1) (let e : j + 1 < suc a = omega (arith, le, apart) in e)
    ∙ sym ((λ i. ne_eqb a j apart i || lt-leb (suc a) j (let e : j < suc a = omega (arith, le) in e) i)))
    (cases_lt a j))
    (cases_eq a j)
  where
    or_on : (b : Bool) → (b || true) ≡ true
    or_on true = refl
    or_on false = refl

turn : (x y z : Bool) → (y || (x || z)) ≡ (x || (y || z))
turn true true z = refl
turn true false z = refl
turn false true z = refl
turn false false z = refl

test_more : (a i j : ℕ) → ((a == i) || nat_lt a (j + 1)) ≡ ((a == j) || ((a == i) || nat_lt a j))
test_more a i j = ap (λ b. (a == i) || b) (one_more a j) ∙ turn (a == j) (a == i) (nat_lt a j)

pub held-same : (at : List ℕ → ℕ) (i j : ℕ) (gs : List (List ℕ × Data)) → j ≡ i → held_to at i (j + 1) gs ≡ held_to at i j gs
held-same at i j gs same =
    filter_same (λ e. (at e.0 == i) || nat_lt (at e.0) (j + 1)) (λ e. (at e.0 == i) || nat_lt (at e.0) j) gs
    (λ e. test_more (at e.0) i j ∙ ap (λ n. (at e.0 == n) || ((at e.0 == i) || nat_lt (at e.0) j)) same ∙ again (at e.0 == i) (nat_lt (at e.0) j))
  where
    again : (x y : Bool) → (x || (x || y)) ≡ (x || y)
    again true y = refl
    again false y = refl

in_order-held : (at : List ℕ → ℕ) (i j : ℕ) (gs : List (List ℕ × Data)) → IsInOrder gs → IsInOrder (held_to at i j gs)
in_order-held at i j gs order = is_sorted-where_key bytewise (λ q. (at q == i) || nat_lt (at q) j) gs order

find-held : (at : List ℕ → ℕ) (i j : ℕ) (gs : List (List ℕ × Data)) (q : List ℕ) → find bytewise q (held_to at i j gs) ≡ cond ((at q == i) || nat_lt (at q) j) (find bytewise q gs) None
find-held at i j gs q = find-where_key bytewise (λ x. (at x == i) || nat_lt (at x) j) q (λ x e. ap (λ y. (at y == i) || nat_lt (at y) j) (sym (same_if_equal q x e))) gs

pub held-more : (at : List ℕ → ℕ) (i j : ℕ) (gs : List (List ℕ × Data)) → IsInOrder gs → put_each (part at gs j) (held_to at i j gs) ≡ held_to at i (j + 1) gs
held-more at i j gs order =
    same_by_find _ _ (in_order-put_each (part at gs j) (held_to at i j gs) (in_order-held at i j gs order)) (in_order-held at i (j + 1) gs order)
    (λ q. find-put_each q (part at gs j) (held_to at i j gs) (in_order-part at gs j order)
    ∙ (λ n. or_else (find-part at gs j q n) (find-held at i j gs q n))
    ∙ either (at q == j) ((at q == i) || nat_lt (at q) j) (find bytewise q gs)
    ∙ ap (λ b. cond b (find bytewise q gs) None) (sym (test_more (at q) i j)) ∙ sym (find-held at i (j + 1) gs q))

pub held-longer : (at : List ℕ → ℕ) (i j : ℕ) (gs : List (List ℕ × Data)) → j ≢ i → length (held_to at i (j + 1) gs) ≡ length (held_to at i j gs) + length (part at gs j)
held-longer at i j [] apart = omega arith
held-longer at i j (e ∷ gs) apart =
    let rest = held-longer at i j gs apart in
    ap (λ b. length (cond b (e ∷ held_to at i (j + 1) gs) (held_to at i (j + 1) gs))) (test_more (at e.0) i j)
    ∙ by (at e.0 == j) ((at e.0 == i) || nat_lt (at e.0) j) (λ here. off (at e.0) (eqb-true (at e.0) j here)) rest
  where
    off : (a : ℕ) → a ≡ j → ((a == i) || nat_lt a j) ≡ false
    off a same = (λ n. ne_eqb a i (λ e. apart (sym same ∙ e)) n || lt-leb (suc a) j (let f : j < suc a = omega (arith, same) in f) n)

    by : (x y : Bool) → (x ≡ true → y ≡ false) → length (held_to at i (j + 1) gs) ≡ length (held_to at i j gs) + length (part at gs j)
        → length (cond (x || y) (e ∷ held_to at i (j + 1) gs) (held_to at i (j + 1) gs)) ≡ length (cond y (e ∷ held_to at i j gs) (held_to at i j gs)) + length (cond x (e ∷ part at gs j) (part at gs j))
    by true true no_both rest = absurd (let e = no_both refl in cc)
    by true false no_both rest = omega arith
    by false true no_both rest = omega arith
    by false false no_both rest = omega arith

-- ---- an entry that was read

pub other-same : (b : Bucket) (es : List (List ℕ × Data)) (i : ℕ) (o : Option (List ℕ × Data)) (key : Bor (List ℕ)) (value : Node) (k : List ℕ) (rows : List (List ℕ × Data)) → EntryIs b es i o (Some (key, value)) → key.now ≡ k
    → rows ≡ put_each (without k (some_entry o)) rows
other-same b es i None key value k rows is same = absurd is
other-same b es i (Some e) key value k rows is same =
    let itself : eq_by_cmp bytewise k e.0 ≡ true = ap (eq_by_cmp bytewise k) (sym is.0 ∙ same) ∙ key_itself k in
    sym (ap (λ c. put_each (cond (not c) (e ∷ []) []) rows) itself)

pub other-apart : {E : Type 0} (r : Result (Unit {0}) E) (b : Bucket) (es : List (List ℕ × Data)) (i : ℕ) (o : Option (List ℕ × Data)) (key : Bor (List ℕ)) (value : Node) (k : List ℕ) (rows new : List (List ℕ × Data))
    → EntryIs b es i o (Some (key, value)) → key.now ≢ k → ((t : Data) → HasData value t → OnOk r (new ≡ put bytewise key.now t rows)) → OnOk r (new ≡ put_each (without k (some_entry o)) rows)
other-apart r b es i None key value k rows new is apart puts = absurd is
other-apart r b es i (Some e) key value k rows new is apart puts =
    let other : eq_by_cmp bytewise k e.0 ≡ false = other-key k e.0 (eq_by_cmp bytewise k e.0) refl (λ same. apart (is.0 ∙ sym same)) in
    subst (λ (xs : List (List ℕ × Data)). OnOk r (new ≡ xs)) (ap (λ (q : List ℕ). put bytewise q e.1 rows) is.0 ∙ sym (ap (λ c. put_each (cond (not c) (e ∷ []) []) rows) other)) (puts e.1 is.1.stands)
