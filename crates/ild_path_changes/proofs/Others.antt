-- Lists, maps and unions: the data of the holder, where one part is set.
use Rattle.std.proofs.Common.{◌≡◌, ◌≢◌, ℕ, suc, List, [], ◌∷◌, ◌++◌, length, slice_get, Bool, true, false, Option, Some, refl, ap, sym, subst, ◌∙◌}
use Rattle.std.specs.Prelude.{slice_set, option_and_then}
use Rattle.std.specs.Cmp.Lexicographic.{same_text as text_same}
use Rattle.ild_data.specs.Data.{Data}
use Rattle.ild_data.specs.Key.{same_text, put, value_at, without, Rises}
use Rattle.ild_data.proofs.Lists.{items_list-items_of}
use Rattle.ild_data.proofs.Rising.{rises_put}
use Rattle.ild_splice_changes.specs.TreeChange.{nth, replace, part_at, changed, applied}
use Rattle.ild_typed.specs.Strings.{map_data, listpairs as pairs_data}
use Rattle.ild_splice_changes.proofs.Shapes.{list_data, one_key, list_replaced}
use Rattle.ild_path_changes.specs.Pairs.{pair_if, at_pair}
use Rattle.ild_splice_changes.specs.Differences.{at_key}
use Rattle.ild_splice_changes.proofs.Maps.{own_text, other_is, put-there, put-other}
use Rattle.ild_path_changes.proofs.Pairs.{one_pair}
use Rattle.ild_typed.specs.Segment.{put_last}
use Rattle.ild_path_changes.proofs.Datas.{each, each_pair}
use Rattle.ild_path_changes.specs.Places.{place_of}
use Rattle.ild_path_changes.proofs.Each.{each-get, each-set, each_pair-at, each_pair-put, each_pair-last, rises_each}

-- A list: the item is replaced.
pub list_set : {X : Type 0} (f : X → Option Data) (xs : List X) (ds : List Data) (i : ℕ) (x c : X) (d e : Data) → each f xs ≡ Some ds → slice_get xs i ≡ Some x → f x ≡ Some d → f c ≡ Some e
    → (each f (slice_set xs i c) ≡ Some (slice_set ds i e)) × (list_data (slice_set ds i e) ≡ changed (nth i ∷ []) (replace e) (list_data ds)) × (part_at (nth i ∷ []) (list_data ds) ≡ Some d)
list_set f xs ds i x c d e h g p q =
    let there = each-get f xs ds i x d h g p in
    (each-set f xs ds i c e h q, sym (list_replaced [] (replace e) ds i d there), ap (λ o. option_and_then (λ e. part_at [] e) o) (ap (λ ys. slice_get ys i) (items_list-items_of ds) ∙ there))

-- A map: the entry is replaced or added, or removed.
pub map_set : {X : Type 0} (f : X → Option Data) (ps : List (List ℕ × X)) (es : List (List ℕ × Data)) (k : List ℕ) (c : X) (e : Data) → each_pair f ps ≡ Some es → Rises ps → f c ≡ Some e
    → (each_pair f (put k c ps) ≡ Some (put k e es)) × (map_data (put k e es) ≡ applied (at_key k (option_and_then f (value_at k ps)) (Some e)) (map_data es))
map_set f ps es k c e h up q =
    let rises = rises_each f ps es h up in (
      each_pair-put f k c e ps es h q,
      one_key k es (put k e es) (option_and_then f (value_at k ps)) (Some e) rises (rises_put k e es rises) (λ j a. put-other k j e es a) (each_pair-at f ps es k h) (put-there k e es),
    )

-- A list of pairs: the pair that is there keeps its place, and a new one goes last.
pub record IsPutLast (k : List ℕ) (e : Data) (es : List (List ℕ × Data)) : Type 0 where
  pub front : List (List ℕ × Data)
  pub behind : List (List ℕ × Data)
  pub placed : length front ≡ place_of k es
  pub was : es ≡ front ++ (pair_if k (value_at k es) ++ behind)
  pub now : put_last k e es ≡ front ++ (pair_if k (Some e) ++ behind)
  pub gone : without k es ≡ front ++ behind

put_first : (k : List ℕ) (e : Data) (m : List ℕ × Data) (ms : List (List ℕ × Data)) (b : Bool) → b ≡ same_text k m.0 → IsPutLast k e ms → IsPutLast k e (m ∷ ms)
put_first k e m ms true h r =
    let t : same_text k m.0 ≡ true = sym h in
    record {
      front = [];
      behind = ms;
      placed = rw t refl;
      was = rw t (λ i. (sym (text_same k m.0 h) i, m.1) ∷ ms);
      now = rw t refl;
      gone = rw t refl;
    }
put_first k e m ms false h r =
    let t : same_text k m.0 ≡ false = sym h in
    record {
      front = m ∷ r.front;
      behind = r.behind;
      placed = rw t (ap (λ n. suc n) r.placed);
      was = rw t (ap (λ x. m ∷ x) r.was);
      now = rw t (ap (λ x. m ∷ x) r.now);
      gone = rw t (ap (λ x. m ∷ x) r.gone);
    }

pub put_lasts : (k : List ℕ) (e : Data) (es : List (List ℕ × Data)) → IsPutLast k e es
put_lasts k e [] = record { front = []; behind = []; placed = refl; was = refl; now = refl; gone = refl }
put_lasts k e (m ∷ ms) = put_first k e m ms (same_text k m.0) refl (put_lasts k e ms)

pub pairs_set : {X : Type 0} (f : X → Option Data) (ps : List (List ℕ × X)) (es : List (List ℕ × Data)) (k : List ℕ) (c : X) (e : Data) → each_pair f ps ≡ Some es → f c ≡ Some e
    → (each_pair f (put_last k c ps) ≡ Some (put_last k e es)) × (pairs_data (put_last k e es) ≡ applied (at_pair (place_of k es) k (value_at k es) (Some e)) (pairs_data es))
pairs_set f ps es k c e h q =
    let r = put_lasts k e es in (
      each_pair-last f k c e ps es h q,
      ap pairs_data r.now ∙ one_pair k r.front r.behind (value_at k es) (Some e) ∙ (λ i. applied (at_pair (r.placed i) k (value_at k es) (Some e)) (pairs_data (sym r.was i))),
    )

-- A keyed union: the one entry is replaced. An envelope: the content's.
pub keyed_set : (k : List ℕ) (d e : Data) → map_data ((k, e) ∷ []) ≡ applied (at_key k (Some d) (Some e)) (map_data ((k, d) ∷ []))
keyed_set k d e = one_key k ((k, d) ∷ []) ((k, e) ∷ []) (Some d) (Some e) (tt, tt) (tt, tt) (λ j a. rw (other_is j k (λ p. a (sym p))) refl) (rw (own_text k) refl) (rw (own_text k) refl)

pub envelope_set : (k content : List ℕ) (n d e : Data) → k ≢ content
    → map_data (put k n ((content, e) ∷ [])) ≡ applied (at_key content (Some d) (Some e)) (map_data (put k n ((content, d) ∷ [])))
envelope_set k content n d e apart =
    one_key content (put k n ((content, d) ∷ [])) (put k n ((content, e) ∷ [])) (Some d) (Some e)
    (rises_put k n ((content, d) ∷ []) (tt, tt)) (rises_put k n ((content, e) ∷ []) (tt, tt))
    (λ j a. other j a)
    (put-other k content n ((content, d) ∷ []) apart ∙ rw (own_text content) refl)
    (put-other k content n ((content, e) ∷ []) apart ∙ rw (own_text content) refl)
  where
    one_other : (j : List ℕ) → content ≢ j → value_at j ((content, e) ∷ []) ≡ value_at j ((content, d) ∷ [])
    one_other j a = rw (other_is j content (λ p. a (sym p))) refl

    other : (j : List ℕ) → content ≢ j → value_at j (put k n ((content, e) ∷ [])) ≡ value_at j (put k n ((content, d) ∷ []))
    other j a = by (same_text k j) refl
      where
        by : (b : Bool) → b ≡ same_text k j → value_at j (put k n ((content, e) ∷ [])) ≡ value_at j (put k n ((content, d) ∷ []))
        by true h = subst (λ i. value_at i (put k n ((content, e) ∷ [])) ≡ value_at i (put k n ((content, d) ∷ []))) (text_same k j h) (put-there k n ((content, e) ∷ []) ∙ sym (put-there k n ((content, d) ∷ [])))
        by false h =
            let b : k ≢ j = λ p. differ (h ∙ (ap (same_text k) (sym p) ∙ own_text k)) in
            put-other k j n ((content, e) ∷ []) b ∙ one_other j a ∙ sym (put-other k j n ((content, d) ∷ []) b)
          where
            differ : false ≡ true → ⊥
            differ h = absurd cc
