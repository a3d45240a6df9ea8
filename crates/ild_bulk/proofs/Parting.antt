-- The steps of loops over entries by their index.
use Rattle.std.proofs.Common.{◌≡◌, ◌==◌, ◌≤◌, ◌<◌, ◌+◌, ◌^◌, ℕ, Bool, cond, length, take, get_or, set, List, [], ◌∷◌, ◌++◌, sym, ap, ◌∙◌, subst, arith, ⊎_elim, filter}
use Rattle.std.specs.Global.{Vec}
use Rattle.std.proofs.lemmas.List.{length-set, get_or-set_same, get_or-set_other, length-append, get_or_push, get_or_append_left, append-nil, take_more}
use Rattle.std.proofs.lemmas.List.Elements.{filter-append}
use Rattle.std.proofs.lemmas.Bool.{cases_eq, eq-eqb, ne_eqb, cases_lt}
use Rattle.ild_node.specs.declared.hashed.HashedEntry.{HashedEntry}
use Rattle.ild_hamt_trie.proofs.Index.{index_below}
use Rattle.ild_bulk.specs.Keyed.{AreEmpty, Parted, hashed_index}
use Rattle.ild_data.specs.declared.hamt_shape.HamtShape.{HamtShape}

-- the vectors up to a place are empty
pub record EmptiedTo (count i : ℕ) (parts : List (Vec HashedEntry)) : Type 0 where
  pub first : (j : ℕ) (z : Vec HashedEntry) → j < i → (get_or parts j z).items ≡ []
  pub reached : i ≤ length parts
  pub few : length parts ≤ count

pub emptied-more : (count i : ℕ) (parts : List (Vec HashedEntry)) (v : Vec HashedEntry) → EmptiedTo count i parts → length parts ≤ i → i < count → v.items ≡ [] → EmptiedTo count (i + 1) (parts ++ v ∷ [])
emptied-more count i parts v was le lt none =
    let reached = was.reached in
    let long = length-append parts (v ∷ []) in
    record {
      first = λ j z below. ⊎_elim
          (λ inside. ap (λ (w : Vec HashedEntry). w.items) (get_or_append_left parts (v ∷ []) z j (omega arith)) ∙ was.first j z inside)
          (λ past. ap (λ (w : Vec HashedEntry). w.items) (get_or_push parts v z j (omega arith)) ∙ none)
          (cases_lt j i);
      reached = omega (arith, long);
      few = omega (arith, long);
    }

pub emptied-again : (count i : ℕ) (parts : List (Vec HashedEntry)) (v : Vec HashedEntry) → EmptiedTo count i parts → i < length parts → v.items ≡ [] → EmptiedTo count (i + 1) (set parts i v)
emptied-again count i parts v was lt none =
    let long = length-set parts i v in
    let few = was.few in
    record {
      first = λ j z below. ⊎_elim
          (λ same. ap (λ (w : Vec HashedEntry). w.items) (ap (λ m. get_or (set parts i v) m z) same ∙ get_or-set_same parts i v z lt) ∙ none)
          (λ other. ap (λ (w : Vec HashedEntry). w.items) (get_or-set_other parts i j v z other) ∙ was.first j z (omega (arith, other)))
          (cases_eq j i);
      reached = omega (arith, long);
      few = omega (arith, long);
    }

pub emptied-done : (count i : ℕ) (parts : List (Vec HashedEntry)) → EmptiedTo count i parts → count ≤ i → AreEmpty count parts
emptied-done count i parts was le = let reached = was.reached in let few = was.few in record { many = omega arith; each = λ j z lt. was.first j z (omega arith) }

pub Parted-more : (at : HashedEntry → ℕ) (n : ℕ) (rows : List HashedEntry) (parts : List (Vec HashedEntry)) (row : HashedEntry) (i : ℕ) (old w : Vec HashedEntry)
    → Parted at n rows parts → i < n → at row ≡ i → old ≡ get_or parts i old → w.items ≡ old.items ++ row ∷ [] → Parted at n (rows ++ row ∷ []) (set parts i w)
Parted-more at n rows parts row i old w was lt here reads pushes = record {
  many = length-set parts i w ∙ was.many;
  each = λ j z j_lt.
      let whole : filter (λ k. at k == j) (rows ++ row ∷ []) ≡ filter (λ k. at k == j) rows ++ cond (at row == j) (row ∷ []) [] = filter-append (λ k. at k == j) rows (row ∷ []) in
      ⊎_elim
      (λ same. ap (λ (v : Vec HashedEntry). v.items) (ap (λ m. get_or (set parts i w) m z) same ∙ get_or-set_same parts i w z (omega (arith, was.many)))
      ∙ pushes
      ∙ ap (λ es. es ++ row ∷ []) (ap (λ (v : Vec HashedEntry). v.items) reads ∙ was.each i old lt ∙ ap (λ m. filter (λ k. at k == m) rows) (sym same))
      ∙ ap (λ b. filter (λ k. at k == j) rows ++ cond b (row ∷ []) []) (sym (eq-eqb (at row) j (here ∙ sym same)))
      ∙ sym whole)
      (λ other. ap (λ (v : Vec HashedEntry). v.items) (get_or-set_other parts i j w z other) ∙ was.each j z j_lt
      ∙ sym (append-nil (filter (λ k. at k == j) rows))
      ∙ ap (λ b. filter (λ k. at k == j) rows ++ cond b (row ∷ []) []) (sym (ne_eqb (at row) j (λ e. other (sym e ∙ here))))
      ∙ sym whole)
      (cases_eq j i);
}

-- the next entry
pub parted-next : (p : HamtShape) (depth : ℕ) (ks : List HashedEntry) (j : ℕ) (parts : List (Vec HashedEntry)) (d : HashedEntry) (i : ℕ) (old w : Vec HashedEntry) → Parted (hashed_index p depth) (2 ^ p.width) (take j ks) parts
    → i ≡ hashed_index p depth (get_or ks j d) → old ≡ get_or parts i old → w.items ≡ old.items ++ get_or ks j d ∷ [] → j < length ks → Parted (hashed_index p depth) (2 ^ p.width) (take (j + 1) ks) (set parts i w)
parted-next p depth ks j parts d i old w was here reads pushes within =
    subst (λ (xs : List HashedEntry). Parted (hashed_index p depth) (2 ^ p.width) xs (set parts i w)) (sym (take_more ks j d within))
    (Parted-more (hashed_index p depth) (2 ^ p.width) (take j ks) parts (get_or ks j d) i old w was (omega (arith, here, index_below p (get_or ks j d).hash depth)) (sym here) reads pushes)

-- ---- one index

pub part-more : (f : HashedEntry → Bool) (ks : List HashedEntry) (j : ℕ) (d : HashedEntry) (was now : List HashedEntry) (b : Bool) → was ≡ filter f (take j ks) → j < length ks → f (get_or ks j d) ≡ b → now ≡ was ++ cond b (get_or ks j d ∷ []) []
    → now ≡ filter f (take (j + 1) ks)
part-more f ks j d was now b so lt test adds =
    adds ∙ (λ i. so i ++ cond (sym test i) (get_or ks j d ∷ []) []) ∙ sym (filter-append f (take j ks) (get_or ks j d ∷ [])) ∙ ap (filter f) (sym (take_more ks j d lt))

-- no entry has an index between
pub none-more : (at : HashedEntry → ℕ) (ks : List HashedEntry) (j : ℕ) (d : HashedEntry) (from was now : ℕ) → ((i : ℕ) → from ≤ i → i < was → filter (λ x. at x == i) (take j ks) ≡ []) → j < length ks
    → now ≤ was → (from ≤ at (get_or ks j d) → now ≤ at (get_or ks j d)) → (i : ℕ) → from ≤ i → i < now → filter (λ x. at x == i) (take (j + 1) ks) ≡ []
none-more at ks j d from was now before lt less near i le below =
    ap (filter (λ x. at x == i)) (take_more ks j d lt) ∙ filter-append (λ x. at x == i) (take j ks) (get_or ks j d ∷ [])
    ∙ (λ n. before i le (omega (arith, less, below)) n ++ cond (ne_eqb (at (get_or ks j d)) i other n) (get_or ks j d ∷ []) [])
  where
    other : at (get_or ks j d) ≡ i → ⊥
    other same = let past = near (omega (arith, same, le)) in omega (arith, past, same, below)
