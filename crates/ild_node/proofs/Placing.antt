-- A pair that is put in its place among entries.
use Rattle.std.proofs.Common.{◌≡◌, ℕ, zero, suc, ◌+◌, ◌<◌, ◌≤◌, List, [], ◌∷◌, ◌++◌, length, take, drop, set, get_or, refl, sym, ap, ◌∙◌, subst, arith, append_assoc}
use Rattle.std.specs.Prelude.{insert, IsUtf8, Result, Ok, Err, OnOk, OnErr}
use Rattle.std.specs.List.{AllByRecursion}
use Rattle.std.specs.FinMap.{put}
use Rattle.std.specs.FinMap.Entries.{by_order}
use Rattle.std.specs.declared.cmp.Ordering.{Ordering}
use Rattle.std.specs.declared.cmp.Ordering.TheVariants.{Less, Equal, Greater}
use Rattle.std.proofs.lemmas.List.{take_all, length-map}
use Rattle.ild_data.proofs.Gets.{drop_past}
use Rattle.ild_data.specs.Data.{Data}
use Rattle.ild_data.specs.ByteOrder.{bytewise}
use Rattle.ild_hamt_trie.proofs.Parts.{in_order-put, same_if_equal}
use Rattle.ild_typed.specs.Nested.{TreeIn}
use Rattle.ild_node.specs.Rows.{row_seen, rows_seen, AreRows, deepest_value}
use Rattle.ild_node.specs.declared.row.Row.{Row}

-- the first rows have lesser keys
abbrev pub Passed : List ℕ → List Row → ℕ → Type 0
Passed k rows i = (v : Data) → put bytewise k v (rows_seen rows) ≡ take i (rows_seen rows) ++ put bytewise k v (drop i (rows_seen rows))

dropped : (rows : List Row) (i : ℕ) (r : Row) → i < length rows → r ≡ get_or rows i r → drop i (rows_seen rows) ≡ row_seen r ∷ drop (suc i) (rows_seen rows)
dropped [] i r lt is = absurd (omega arith)
dropped (q ∷ rows) zero r lt is = ap (λ (x : Row). row_seen x ∷ rows_seen rows) (sym is)
dropped (q ∷ rows) (suc i) r lt is = dropped rows i r (omega arith) is

taken : (rows : List Row) (i : ℕ) (r : Row) → i < length rows → r ≡ get_or rows i r → take (suc i) (rows_seen rows) ≡ take i (rows_seen rows) ++ row_seen r ∷ []
taken [] i r lt is = absurd (omega arith)
taken (q ∷ rows) zero r lt is = ap (λ (x : Row). row_seen x ∷ []) (sym is)
taken (q ∷ rows) (suc i) r lt is = ap (λ xs. row_seen q ∷ xs) (taken rows i r (omega arith) is)

set-split : (es : List (List ℕ × Data)) (i : ℕ) (e : List ℕ × Data) → i < length es → take i es ++ e ∷ drop (suc i) es ≡ set es i e
set-split [] i e lt = absurd (omega arith)
set-split (f ∷ es) zero e lt = refl
set-split (f ∷ es) (suc i) e lt = ap (λ xs. f ∷ xs) (set-split es i e (omega arith))

seen-long : (rows : List Row) → length (rows_seen rows) ≡ length rows
seen-long rows = length-map rows row_seen

pub passed-none : (k : List ℕ) (rows : List Row) → Passed k rows 0
passed-none k rows v = refl

pub passed-more : (k : List ℕ) (rows : List Row) (i : ℕ) (r : Row) → Passed k rows i → i < length rows → r ≡ get_or rows i r → bytewise k r.key ≡ Greater → Passed k rows (i + 1)
passed-more k rows i r was lt is greater v =
    let next : i + 1 ≡ suc i = omega arith in
    rw next (was v ∙ ap (λ xs. take i (rows_seen rows) ++ put bytewise k v xs) (dropped rows i r lt is)
    ∙ ap (λ o. take i (rows_seen rows) ++ by_order o ((k, v) ∷ row_seen r ∷ drop (suc i) (rows_seen rows)) ((r.key, v) ∷ drop (suc i) (rows_seen rows)) (row_seen r ∷ put bytewise k v (drop (suc i) (rows_seen rows)))) greater
    ∙ sym (append_assoc (take i (rows_seen rows)) (row_seen r ∷ []) (put bytewise k v (drop (suc i) (rows_seen rows))))
    ∙ ap (λ xs. xs ++ put bytewise k v (drop (suc i) (rows_seen rows))) (sym (taken rows i r lt is)))

pub passed-equal : (k : List ℕ) (rows : List Row) (i : ℕ) (r : Row) (v : Data) → Passed k rows i → i < length rows → r ≡ get_or rows i r → bytewise k r.key ≡ Equal
    → put bytewise k v (rows_seen rows) ≡ set (rows_seen rows) i (k, v)
passed-equal k rows i r v was lt is equal =
    was v ∙ ap (λ xs. take i (rows_seen rows) ++ put bytewise k v xs) (dropped rows i r lt is)
    ∙ ap (λ o. take i (rows_seen rows) ++ by_order o ((k, v) ∷ row_seen r ∷ drop (suc i) (rows_seen rows)) ((r.key, v) ∷ drop (suc i) (rows_seen rows)) (row_seen r ∷ put bytewise k v (drop (suc i) (rows_seen rows)))) equal
    ∙ ap (λ (q : List ℕ). take i (rows_seen rows) ++ (q, v) ∷ drop (suc i) (rows_seen rows)) (sym (same_if_equal k r.key equal))
    ∙ set-split (rows_seen rows) i (k, v) (let e = seen-long rows in omega arith)

pub passed-less : (k : List ℕ) (rows : List Row) (i : ℕ) (r : Row) (v : Data) → Passed k rows i → i < length rows → r ≡ get_or rows i r → bytewise k r.key ≡ Less
    → put bytewise k v (rows_seen rows) ≡ insert (rows_seen rows) i (k, v)
passed-less k rows i r v was lt is less =
    was v ∙ ap (λ xs. take i (rows_seen rows) ++ put bytewise k v xs) (dropped rows i r lt is)
    ∙ ap (λ o. take i (rows_seen rows) ++ by_order o ((k, v) ∷ row_seen r ∷ drop (suc i) (rows_seen rows)) ((r.key, v) ∷ drop (suc i) (rows_seen rows)) (row_seen r ∷ put bytewise k v (drop (suc i) (rows_seen rows)))) less
    ∙ ap (λ xs. take i (rows_seen rows) ++ (k, v) ∷ xs) (sym (dropped rows i r lt is))

pub passed-all : (k : List ℕ) (rows : List Row) (v : Data) (i : ℕ) → Passed k rows i → length rows ≤ i → put bytewise k v (rows_seen rows) ≡ insert (rows_seen rows) (length rows) (k, v)
passed-all k rows v i was le =
    let none : drop i (rows_seen rows) ≡ [] = drop_past (rows_seen rows) i (let e = seen-long rows in omega arith) in
    let last : drop (length rows) (rows_seen rows) ≡ [] = drop_past (rows_seen rows) (length rows) (let e = seen-long rows in omega arith) in
    was v ∙ (λ j. take_all i (rows_seen rows) (let e = seen-long rows in omega arith) j ++ put bytewise k v (none j))
    ∙ sym (λ j. take_all (length rows) (rows_seen rows) (let e = seen-long rows in omega arith) j ++ (k, v) ∷ last j)

-- ---- the rows

seen-set : (rows : List Row) (i : ℕ) (r : Row) → rows_seen (set rows i r) ≡ set (rows_seen rows) i (row_seen r)
seen-set [] i r = refl
seen-set (q ∷ rows) zero r = refl
seen-set (q ∷ rows) (suc i) r = ap (λ xs. row_seen q ∷ xs) (seen-set rows i r)

seen-insert : (rows : List Row) (i : ℕ) (r : Row) → rows_seen (insert rows i r) ≡ insert (rows_seen rows) i (row_seen r)
seen-insert [] zero r = refl
seen-insert [] (suc i) r = refl
seen-insert (q ∷ rows) zero r = refl
seen-insert (q ∷ rows) (suc i) r = ap (λ xs. row_seen q ∷ xs) (seen-insert rows i r)

pub row-set : (rows new : List Row) (i : ℕ) (r : Row) (k : List ℕ) → new ≡ set rows i r → k ≡ r.key → put bytewise k r.value (rows_seen rows) ≡ set (rows_seen rows) i (k, r.value)
    → rows_seen new ≡ put bytewise r.key r.value (rows_seen rows)
row-set rows new i r k writes named is =
    ap rows_seen writes ∙ seen-set rows i r
    ∙ sym (subst (λ (q : List ℕ). put bytewise q r.value (rows_seen rows) ≡ set (rows_seen rows) i (q, r.value)) named is)

pub row-inserted : (rows new : List Row) (i : ℕ) (r : Row) (k : List ℕ) → new ≡ insert rows i r → k ≡ r.key → put bytewise k r.value (rows_seen rows) ≡ insert (rows_seen rows) i (k, r.value)
    → rows_seen new ≡ put bytewise r.key r.value (rows_seen rows)
row-inserted rows new i r k writes named is =
    ap rows_seen writes ∙ seen-insert rows i r
    ∙ sym (subst (λ (q : List ℕ). put bytewise q r.value (rows_seen rows) ≡ insert (rows_seen rows) i (q, r.value)) named is)

-- ---- what holds of all

by_order-all : (P : List ℕ × Data → Type 0) (o : Ordering) (a b c : List (List ℕ × Data)) → AllByRecursion P a → AllByRecursion P b → AllByRecursion P c → AllByRecursion P (by_order o a b c)
by_order-all P Less a b c x y z = x
by_order-all P Equal a b c x y z = y
by_order-all P Greater a b c x y z = z

pub all-put : (P : List ℕ × Data → Type 0) (k : List ℕ) (v : Data) (es : List (List ℕ × Data)) → ((q : List ℕ) (d : Data) → P (q, d) → P (q, v)) → AllByRecursion P es → P (k, v) → AllByRecursion P (put bytewise k v es)
all-put P k v [] keeps all is = (is, tt)
all-put P k v (e ∷ es) keeps all is =
    by_order-all P (bytewise k e.0) ((k, v) ∷ e ∷ es) ((e.0, v) ∷ es) (e ∷ put bytewise k v es) (is, all) (keeps e.0 e.1 all.0, all.1) (all.0, all-put P k v es keeps all.1 is)

pub rows-put : (k : List ℕ) (v : Data) (es : List (List ℕ × Data)) → AreRows es → IsUtf8 k → TreeIn deepest_value v → AreRows (put bytewise k v es)
rows-put k v es all utf8 nested = (
  in_order-put k v es all.0,
  all-put (λ e. IsUtf8 e.0) k v es (λ q d is. is) all.1 utf8,
  all-put (λ e. TreeIn deepest_value e.1) k v es (λ q d is. nested) all.2 nested,
)

-- the rows behind a put, whether it was done or not
pub rows-kept : {E : Type 0} (r : Result (Unit {0}) E) (old new : List Row) (row : Row) (k : List ℕ) → OnOk r (rows_seen new ≡ put bytewise row.key row.value (rows_seen old)) → OnErr r (new ≡ old)
    → row.key ≡ k → AreRows (rows_seen old) → IsUtf8 k → TreeIn deepest_value row.value → AreRows (rows_seen new)
rows-kept (Ok x) old new row k done undone named all utf8 nested =
    subst (λ (es : List (List ℕ × Data)). AreRows es) (sym done) (rows-put row.key row.value (rows_seen old) all (subst (λ (q : List ℕ). IsUtf8 q) (sym named) utf8) nested)
rows-kept (Err e) old new row k done undone named all utf8 nested = subst (λ (rows : List Row). AreRows (rows_seen rows)) (sym undone) all

-- the same rows
pub as-rows-set : (rows same : List Row) (k : List ℕ) (v : Data) (i : ℕ) → rows ≡ same → put bytewise k v (rows_seen rows) ≡ set (rows_seen rows) i (k, v) → put bytewise k v (rows_seen same) ≡ set (rows_seen same) i (k, v)
as-rows-set rows same k v i e is = subst (λ (xs : List Row). put bytewise k v (rows_seen xs) ≡ set (rows_seen xs) i (k, v)) e is

pub as-rows-insert : (rows same : List Row) (k : List ℕ) (v : Data) (i : ℕ) → rows ≡ same → put bytewise k v (rows_seen rows) ≡ insert (rows_seen rows) i (k, v)
    → put bytewise k v (rows_seen same) ≡ insert (rows_seen same) i (k, v)
as-rows-insert rows same k v i e is = subst (λ (xs : List Row). put bytewise k v (rows_seen xs) ≡ insert (rows_seen xs) i (k, v)) e is
