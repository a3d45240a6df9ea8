-- Look-ups by id in rows that rise by id, as look-ups among their blocks.
use Rattle.std.proofs.Common.{◌≡◌, ℕ, List, [], ◌∷◌, Bool, true, false, cond, Some, Result, Ok, Err, refl, sym, ap, subst, ◌∙◌}
use Rattle.std.specs.Prelude.{All, OnOk, OnErr}
use Rattle.std.specs.Ordering.{nat_cmp, match_ordering, ordering_reverse, is_eq}
use Rattle.std.specs.declared.cmp.Ordering.{Ordering}
use Rattle.std.specs.declared.cmp.Ordering.TheVariants.{Less, Equal, Greater}
use Rattle.std.specs.Cmp.Lexicographic.{slice_cmp, same_text as texts_same, nat_list_eq_equiv}
use Rattle.std.proofs.lemmas.Cmp.{nat_list_cmp_total}
use Rattle.std.proofs.lemmas.Map.Lookups.{exact_bytes}
use Rattle.std.proofs.lemmas.List.Elements.{All-head, All-tail, All-cons, All-nil}
use Rattle.std.specs.BTreeMap.{insert_entry, is_at}
use Rattle.std.specs.Map.{lookup}
use Rattle.ild_data.specs.Key.{same_text}
use Rattle.ild_data.specs.Spell.{id_of}
use Rattle.ild_edges.specs.Own.{IsOwn, row_blocks}
use Rattle.ild_edges.specs.Store.{block_at, Adds}
use Rattle.ild_edges.proofs.Held.{apart_false}

abbrev id_cmp : List ℕ → List ℕ → Ordering
id_cmp = slice_cmp nat_cmp

exact_eq : (o : Ordering) (x y : List ℕ) → o ≡ id_cmp x y → is_eq o ≡ true → x ≡ y
exact_eq Less x y is e = cc
exact_eq Equal x y is e = exact_bytes x y (sym is)
exact_eq Greater x y is e = cc

self_tie : (o : Ordering) → o ≡ ordering_reverse o → is_eq o ≡ true
self_tie Less e = cc
self_tie Equal e = refl
self_tie Greater e = cc

cmp_self : (x : List ℕ) → is_eq (id_cmp x x) ≡ true
cmp_self x = self_tie (id_cmp x x) (nat_list_cmp_total.antisymm x x)

tests_agree : (t u : Bool) (x y : List ℕ) → t ≡ same_text x y → u ≡ is_eq (id_cmp y x) → t ≡ u
tests_agree true true x y p q = refl
tests_agree false false x y p q = refl
tests_agree true false x y p q = sym (q ∙ ap (λ z. is_eq (id_cmp y z)) (texts_same x y p) ∙ cmp_self y)
tests_agree false true x y p q = p ∙ ap (same_text x) (exact_eq (id_cmp y x) y x refl (sym q)) ∙ nat_list_eq_equiv.refl x

-- the two tests of an id are one
pub same_test : (x y : List ℕ) → same_text x y ≡ is_at (id_cmp y) x
same_test x y = tests_agree (same_text x y) (is_eq (id_cmp y x)) x y refl refl

-- a look-up by id finds the block of this id
pub block_at-rows : (rows : List (List ℕ × List ℕ)) (id : List ℕ) → All IsOwn rows → block_at (row_blocks rows) id ≡ lookup (is_at (id_cmp id)) rows
block_at-rows [] id own = refl
block_at-rows (r ∷ rows) id own =
    let test : same_text (id_of r.1) id ≡ is_at (id_cmp id) r.0 = ap (λ k. same_text k id) (sym (All-head IsOwn r rows own)) ∙ same_test r.0 id in
    let rest : block_at (row_blocks rows) id ≡ lookup (is_at (id_cmp id)) rows = block_at-rows rows id (All-tail IsOwn r rows own) in
    ap (λ t. cond t (Some r.1) (block_at (row_blocks rows) id)) test ∙ ap (cond (is_at (id_cmp id) r.0) (Some r.1)) rest

own_match : (o : Ordering) (k v : List ℕ) (r : List ℕ × List ℕ) (rows more : List (List ℕ × List ℕ)) → o ≡ id_cmp k r.0 → k ≡ id_of v → All IsOwn (r ∷ rows) → All IsOwn more
    → All IsOwn (match_ordering o ((k, v) ∷ r ∷ rows) ((r.0, v) ∷ rows) (r ∷ more))
own_match Less k v r rows more is own all rest = All-cons IsOwn (k, v) (r ∷ rows) own all
own_match Equal k v r rows more is own all rest = All-cons IsOwn (r.0, v) rows (sym (exact_bytes k r.0 (sym is)) ∙ own) (All-tail IsOwn r rows all)
own_match Greater k v r rows more is own all rest = All-cons IsOwn r more (All-head IsOwn r rows all) rest

-- rows stay under their ids where a block is added under its own
pub own_insert : (rows : List (List ℕ × List ℕ)) (k v : List ℕ) → k ≡ id_of v → All IsOwn rows → All IsOwn (insert_entry id_cmp rows k v)
own_insert [] k v own all = All-cons IsOwn (k, v) [] own (All-nil IsOwn)
own_insert (r ∷ rows) k v own all = own_match (id_cmp k r.0) k v r rows (insert_entry id_cmp rows k v) refl own all (own_insert rows k v own (All-tail IsOwn r rows all))

-- the same at what an insertion leaves, done or not
pub own_after : {T E : Type 0} (result : Result T E) (rows now : List (List ℕ × List ℕ)) (k v : List ℕ) → k ≡ id_of v → All IsOwn rows → OnOk result (now ≡ insert_entry id_cmp rows k v) → OnErr result (now ≡ rows) → All IsOwn now
own_after (Ok x) rows now k v own all ok err = subst (All IsOwn) (sym ok) (own_insert rows k v own all)
own_after (Err e) rows now k v own all ok err = subst (All IsOwn) (sym err) all

-- what a row that is added leaves of the blocks
pub Adds-row : (rows now : List (List ℕ × List ℕ)) (k block : List ℕ) → k ≡ id_of block → All IsOwn rows → All IsOwn now
    → lookup (is_at (id_cmp k)) now ≡ Some block → ((q : List ℕ) → is_at (id_cmp k) q ≡ false → lookup (is_at (id_cmp q)) now ≡ lookup (is_at (id_cmp q)) rows)
    → Adds block (row_blocks rows) (row_blocks now)
Adds-row rows now k block own was is here beside = record {
  held = block_at-rows now (id_of block) is ∙ ap (λ i. lookup (is_at (id_cmp i)) now) (sym own) ∙ here;
  others = λ id apart.
      block_at-rows now id is ∙ beside id (sym (same_test id k) ∙ apart_false id k (λ e. apart (sym own ∙ sym e))) ∙ sym (block_at-rows rows id was);
}
