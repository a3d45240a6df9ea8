-- What a binary search finds among rising keys, and what an edit at that place does.
use Rattle.std.proofs.Common.{◌≡◌, ℕ, zero, suc, ◌<◌, ◌≤◌, get_or, set, List, [], ◌∷◌, length, map, Some, None, Result, Ok, Err, slice_get, option_map, cond, refl, sym, ◌∙◌, ap, arith}
use Rattle.std.specs.Prelude.{IfOk, IfErr, insert, remove}
use Rattle.std.specs.List.Sorted.{IsSearchInRange, IsBinarySearchResult}
use Rattle.std.specs.Ordering.{match_ordering, ordering_reverse}
use Rattle.std.specs.declared.cmp.Ordering.{Ordering}
use Rattle.std.specs.declared.cmp.Ordering.TheVariants.{Less, Equal, Greater}
use Rattle.std.proofs.lemmas.List.Sorted.{searchable_from_sorted}
use Rattle.ild_data.specs.Key.{key_cmp, same_text, put, value_at, without, Rises}
use Rattle.ild_data.specs.Seen.{pair_of, data_of}
use Rattle.ild_data.specs.declared.tree.Tree.{Tree}
use Rattle.ild_data.proofs.Rising.{key_exact, key_cmp_total, keys_sorted, differs, agrees}

not_equal_greater : Greater ≡ Equal → ⊥
not_equal_greater e = cc

not_equal_less : Less ≡ Equal → ⊥
not_equal_less e = cc

module _ {V : Type 0} (k : List ℕ) where
  -- the first i keys are less than k
  abbrev pub Behind : List (List ℕ × V) → ℕ → Type 0
  Behind ms i = (j : ℕ) (z : List ℕ × V) → j < i → key_cmp k (get_or ms j z).0 ≡ Greater

  -- the keys from i on are greater than k
  abbrev pub Ahead : List (List ℕ × V) → ℕ → Type 0
  Ahead ms i = (j : ℕ) (z : List ℕ × V) → i ≤ j → j < length ms → key_cmp k (get_or ms j z).0 ≡ Less

  abbrev pub Here : List (List ℕ × V) → ℕ → Type 0
  Here ms i = (z : List ℕ × V) → key_cmp k (get_or ms i z).0 ≡ Equal

  later : (m : List ℕ × V) (ms : List (List ℕ × V)) (i : ℕ) → Behind (m ∷ ms) (suc i) → Behind ms i
  later m ms i behind j z lt = behind (suc j) z (omega arith)

  left : (m : List ℕ × V) (ms : List (List ℕ × V)) (i : ℕ) → Ahead (m ∷ ms) (suc i) → Ahead ms i
  left m ms i ahead j z le lt = ahead (suc j) z (omega arith) (omega arith)

  pub put_insert : (v : V) (ms : List (List ℕ × V)) (i : ℕ) → i ≤ length ms → Behind ms i → Ahead ms i → put k v ms ≡ insert ms i (k, v)
  put_insert v [] zero le behind ahead = refl
  put_insert v [] (suc i) le behind ahead = absurd (omega arith)
  put_insert v (m ∷ ms) zero le behind ahead = ap (λ o. match_ordering o ((k, v) ∷ m ∷ ms) ((k, v) ∷ ms) (m ∷ put k v ms)) (ahead 0 m (omega arith) (omega arith))
  put_insert v (m ∷ ms) (suc i) le behind ahead =
      ap (λ o. match_ordering o ((k, v) ∷ m ∷ ms) ((k, v) ∷ ms) (m ∷ put k v ms)) (behind 0 m (omega arith))
      ∙ ap (λ xs. m ∷ xs) (put_insert v ms i (omega arith) (later m ms i behind) (left m ms i ahead))

  pub put_set : (v : V) (ms : List (List ℕ × V)) (i : ℕ) → i < length ms → Behind ms i → Here ms i → put k v ms ≡ set ms i (k, v)
  put_set v [] i lt behind here = absurd (omega arith)
  put_set v (m ∷ ms) zero lt behind here = ap (λ o. match_ordering o ((k, v) ∷ m ∷ ms) ((k, v) ∷ ms) (m ∷ put k v ms)) (here m)
  put_set v (m ∷ ms) (suc i) lt behind here =
      ap (λ o. match_ordering o ((k, v) ∷ m ∷ ms) ((k, v) ∷ ms) (m ∷ put k v ms)) (behind 0 m (omega arith))
      ∙ ap (λ xs. m ∷ xs) (put_set v ms i (omega arith) (later m ms i behind) (λ z. here z))

  pub value_none : (ms : List (List ℕ × V)) (i : ℕ) → i ≤ length ms → Behind ms i → Ahead ms i → value_at k ms ≡ None
  value_none [] i le behind ahead = refl
  value_none (m ∷ ms) zero le behind ahead =
      ap (λ b. cond b (Some m.1) (value_at k ms)) (differs k m.0 (same_text k m.0) Less refl (ahead 0 m (omega arith) (omega arith)) not_equal_less)
      ∙ value_none ms 0 (omega arith) (λ j z lt. absurd (omega arith)) (λ j z le lt. ahead (suc j) z (omega arith) (omega arith))
  value_none (m ∷ ms) (suc i) le behind ahead =
      ap (λ b. cond b (Some m.1) (value_at k ms)) (differs k m.0 (same_text k m.0) Greater refl (behind 0 m (omega arith)) not_equal_greater)
      ∙ value_none ms i (omega arith) (later m ms i behind) (left m ms i ahead)

  pub value_some : (ms : List (List ℕ × V)) (i : ℕ) → i < length ms → Behind ms i → Here ms i → value_at k ms ≡ option_map (λ (p : List ℕ × V). p.1) (slice_get ms i)
  value_some [] i lt behind here = absurd (omega arith)
  value_some (m ∷ ms) zero lt behind here = ap (λ b. cond b (Some m.1) (value_at k ms)) (agrees k m.0 (same_text k m.0) refl (here m))
  value_some (m ∷ ms) (suc i) lt behind here =
      ap (λ b. cond b (Some m.1) (value_at k ms)) (differs k m.0 (same_text k m.0) Greater refl (behind 0 m (omega arith)) not_equal_greater)
      ∙ value_some ms i (omega arith) (later m ms i behind) (λ z. here z)

  pub without_remove : (ms : List (List ℕ × V)) (i : ℕ) → i < length ms → Behind ms i → Here ms i → without k ms ≡ remove ms i
  without_remove [] i lt behind here = absurd (omega arith)
  without_remove (m ∷ ms) zero lt behind here = ap (λ b. cond b ms (m ∷ without k ms)) (agrees k m.0 (same_text k m.0) refl (here m))
  without_remove (m ∷ ms) (suc i) lt behind here =
      ap (λ b. cond b ms (m ∷ without k ms)) (differs k m.0 (same_text k m.0) Greater refl (behind 0 m (omega arith)) not_equal_greater)
      ∙ ap (λ xs. m ∷ xs) (without_remove ms i (omega arith) (later m ms i behind) (λ z. here z))

  pub same_key : (ms : List (List ℕ × V)) (i : ℕ) → i < length ms → Here ms i → option_map (λ (p : List ℕ × V). p.0) (slice_get ms i) ≡ Some k
  same_key [] i lt here = absurd (omega arith)
  same_key (m ∷ ms) zero lt here = ap Some (sym (key_exact k m.0 (here m)))
  same_key (m ∷ ms) (suc i) lt here = same_key ms i (omega arith) (λ z. here z)

  pub without_none : (ms : List (List ℕ × V)) (i : ℕ) → i ≤ length ms → Behind ms i → Ahead ms i → without k ms ≡ ms
  without_none [] i le behind ahead = refl
  without_none (m ∷ ms) zero le behind ahead =
      ap (λ b. cond b ms (m ∷ without k ms)) (differs k m.0 (same_text k m.0) Less refl (ahead 0 m (omega arith) (omega arith)) not_equal_less)
      ∙ ap (λ xs. m ∷ xs) (without_none ms 0 (omega arith) (λ j z lt. absurd (omega arith)) (λ j z le lt. ahead (suc j) z (omega arith) (omega arith)))
  without_none (m ∷ ms) (suc i) le behind ahead =
      ap (λ b. cond b ms (m ∷ without k ms)) (differs k m.0 (same_text k m.0) Greater refl (behind 0 m (omega arith)) not_equal_greater)
      ∙ ap (λ xs. m ∷ xs) (without_none ms i (omega arith) (later m ms i behind) (left m ms i ahead))

-- what key_place answers of a place
pub record IsPlace {V : Type 0} (k : List ℕ) (ms : List (List ℕ × V)) (r : Result ℕ ℕ) : Type 0 where
  pub found : IfOk r (λ i. (i < length ms) × Behind k ms i × Here k ms i)
  pub absent : IfErr r (λ i. (i ≤ length ms) × Behind k ms i × Ahead k ms i)

-- keys before one that is k are less
before_equal : {V : Type 0} (k : List ℕ) (ms : List (List ℕ × V)) → Rises ms → (i : ℕ) → i < length ms → Here k ms i → Behind k ms i
before_equal k [] up i lt here j z below = absurd (omega arith)
before_equal k (m ∷ ms) up zero lt here j z below = absurd (omega arith)
before_equal k (m ∷ []) up (suc i) lt here j z below = absurd (omega arith)
before_equal k (m ∷ n ∷ ms) up (suc i) lt here (suc j) z below = before_equal k (n ∷ ms) up.1 i (omega arith) (λ w. here w) j z (omega arith)
before_equal k (m ∷ n ∷ ms) up (suc zero) lt here zero z below =
    key_cmp_total.congr k n.0 m.0 (here n) ∙ key_cmp_total.antisymm n.0 m.0 ∙ ap ordering_reverse up.0
before_equal k (m ∷ n ∷ ms) up (suc (suc i)) lt here zero z below =
    let next = before_equal k (n ∷ ms) up.1 (suc i) (omega arith) (λ w. here w) zero z (omega arith) in
    key_cmp_total.antisymm k m.0 ∙ ap ordering_reverse (key_cmp_total.trans m.0 n.0 k up.0 (key_cmp_total.antisymm n.0 k ∙ ap ordering_reverse next))

pub searched : {V : Type 0} (k : List ℕ) (ms : List (List ℕ × V)) → Rises ms → (r : Result ℕ ℕ) → IsSearchInRange r (length ms) → IsBinarySearchResult (λ (p : List ℕ × V). key_cmp p.0 k) ms r → IsPlace k ms r
searched {V} k ms up (Ok i) bound is =
    let here : Here k ms i = λ z. key_cmp_total.antisymm k (get_or ms i z).0 ∙ ap ordering_reverse (is z) in
    record { found = (bound, before_equal k ms up i bound here, here); absent = tt }
searched {V} k ms up (Err i) bound is =
    let parted = is (searchable_from_sorted key_cmp_total (λ (p : List ℕ × V). p.0) ms k (keys_sorted ms up)) in
    record {
      found = tt;
      absent = (
        bound,
        λ j z lt. key_cmp_total.antisymm k (get_or ms j z).0 ∙ ap ordering_reverse (parted.0 j z (omega arith) lt),
        λ j z le lt. key_cmp_total.antisymm k (get_or ms j z).0 ∙ ap ordering_reverse (parted.1 j z le lt),
      );
    }

seen_choice : (o : Ordering) (a b c : List (List ℕ × Tree)) → map pair_of (match_ordering o a b c) ≡ match_ordering o (map pair_of a) (map pair_of b) (map pair_of c)
seen_choice Less a b c = refl
seen_choice Equal a b c = refl
seen_choice Greater a b c = refl

-- a put among trees is one among their data
pub seen_put : (k : List ℕ) (t : Tree) (ms : List (List ℕ × Tree)) → map pair_of (put k t ms) ≡ put k (data_of t) (map pair_of ms)
seen_put k t [] = refl
seen_put k t (m ∷ ms) =
    seen_choice (key_cmp k m.0) ((k, t) ∷ m ∷ ms) ((k, t) ∷ ms) (m ∷ put k t ms)
    ∙ ap (λ xs. match_ordering (key_cmp k m.0) ((k, data_of t) ∷ pair_of m ∷ map pair_of ms) ((k, data_of t) ∷ map pair_of ms) (pair_of m ∷ xs)) (seen_put k t ms)

-- keys rise among trees where they rise among their data
pub seen_rises : (ms : List (List ℕ × Tree)) → Rises (map pair_of ms) → Rises ms
seen_rises [] up = tt
seen_rises (m ∷ []) up = (tt, tt)
seen_rises (m ∷ n ∷ ms) up = (up.0, seen_rises (n ∷ ms) up.1)

-- what a place says of look-ups and edits
pub place_value : {V : Type 0} (k : List ℕ) (ms : List (List ℕ × V)) (r : Result ℕ ℕ) → IsPlace k ms r → IfOk r (λ i. value_at k ms ≡ option_map (λ (p : List ℕ × V). p.1) (slice_get ms i))
place_value k ms (Ok i) p = value_some k ms i p.found.0 p.found.1 p.found.2
place_value k ms (Err i) p = tt

pub place_absent : {V : Type 0} (k : List ℕ) (ms : List (List ℕ × V)) (r : Result ℕ ℕ) → IsPlace k ms r → IfErr r (λ i. value_at k ms ≡ None)
place_absent k ms (Ok i) p = tt
place_absent k ms (Err i) p = value_none k ms i p.absent.0 p.absent.1 p.absent.2

pub place_set : {V : Type 0} (k : List ℕ) (ms : List (List ℕ × V)) (r : Result ℕ ℕ) → IsPlace k ms r → IfOk r (λ i. (v : V) → put k v ms ≡ set ms i (k, v))
place_set k ms (Ok i) p = λ v. put_set k v ms i p.found.0 p.found.1 p.found.2
place_set k ms (Err i) p = tt

pub place_inserted : {V : Type 0} (k : List ℕ) (ms : List (List ℕ × V)) (r : Result ℕ ℕ) → IsPlace k ms r → IfErr r (λ i. (v : V) → put k v ms ≡ insert ms i (k, v))
place_inserted k ms (Ok i) p = tt
place_inserted k ms (Err i) p = λ v. put_insert k v ms i p.absent.0 p.absent.1 p.absent.2

pub place_removed : {V : Type 0} (k : List ℕ) (ms : List (List ℕ × V)) (r : Result ℕ ℕ) → IsPlace k ms r → IfOk r (λ i. without k ms ≡ remove ms i)
place_removed k ms (Ok i) p = without_remove k ms i p.found.0 p.found.1 p.found.2
place_removed k ms (Err i) p = tt

pub place_same : {V : Type 0} (k : List ℕ) (ms : List (List ℕ × V)) (r : Result ℕ ℕ) → IsPlace k ms r → IfOk r (λ i. option_map (λ (p : List ℕ × V). p.0) (slice_get ms i) ≡ Some k)
place_same k ms (Ok i) p = same_key k ms i p.found.0 p.found.2
place_same k ms (Err i) p = tt

pub place_kept : {V : Type 0} (k : List ℕ) (ms : List (List ℕ × V)) (r : Result ℕ ℕ) → IsPlace k ms r → IfErr r (λ _. without k ms ≡ ms)
place_kept k ms (Ok i) p = tt
place_kept k ms (Err i) p = without_none k ms i p.absent.0 p.absent.1 p.absent.2
