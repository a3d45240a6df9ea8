-- The items of a list, as they were met: whether they are pairs, and whether their keys stand once.
use Rattle.std.proofs.Common.{◌≡◌, ℕ, List, [], ◌∷◌, ◌++◌, append_assoc, map, Bool, true, false, not, ◌||◌, Some, None, refl, sym, ◌∙◌, ap}
use Rattle.std.specs.Borrow.{Bor}
use Rattle.std.specs.BTreeSet.{BTreeSet}
use Rattle.std.specs.List.{list_any}
use Rattle.ild_layer_fields.proofs.Noting.{any_more}
use Rattle.ild_data.specs.Data as T
use Rattle.ild_data.specs.Data.{Data}
use Rattle.ild_data.specs.Key.{same_text}
use Rattle.ild_cbor.specs.declared.items.Items.{Items}
use Rattle.ild_cbor.specs.declared.node.Node.{Node}
use Rattle.ild_cbor.specs.Nodes.{HasData}
use Rattle.ild_cbor.specs.Steps.{FindsItems, HasItems, ItemsGive, items_of}
use Rattle.ild_layer_fields.proofs.Pairing.{item_end, list_of}
use Rattle.ild_typed.specs.Named.{has_twice, is_among, is_pair, is_two, items_or, name_of, pair_names}
use Rattle.ild_typed.specs.Strings.{pair_data}
use Rattle.ild_layer_pairs.specs.Judged.{IsJudged, cause_of, is_miscounted, is_odd}
use Rattle.ild_layer_pairs.specs.inside.Keys.{texts}
use Rattle.ild_layer_pairs.proofs.Meeting.{same_swap}

-- ---- one item

pub empty_list : (n : Node) (d : Data) (s t : Items) → FindsItems n (items_of d) (Some s) → ItemsGive s None t → (is_pair d ≡ true) × (is_two d ≡ false)
empty_list n d s t list no_more =
    let named = list_of n d s list in
    let is : d ≡ T.list T.no_items = named.is ∙ ap T.list (item_end s named.items t no_more named.left) in
    (ap is_pair is, ap is_two is)

pub pair_same : (e f : List ℕ × Data) → pair_data e ≡ pair_data f → (e.0 ≡ f.0) × (e.1 ≡ f.1)
pair_same e f h = (cc, cc)

-- ---- the pairs of a list, as they were met

any_found : {A : Type 0} (p : A → Bool) (xs ys : List A) (x : A) → p x ≡ true → list_any p (xs ++ x ∷ ys) ≡ true
any_found p [] ys x e = ap (λ b. b || list_any p ys) e
any_found p (z ∷ zs) ys x e = ap (λ b. p z || b) (any_found p zs ys x e) ∙ or_true (p z) where
  or_true : (b : Bool) → (b || true) ≡ true
  or_true true = refl
  or_true false = refl

twice_more : (ks : List (List ℕ)) (k : List ℕ) → has_twice (ks ++ k ∷ []) ≡ (has_twice ks || is_among k ks)
twice_more [] k = refl
twice_more (x ∷ ks) k =
    ap (λ b. b || has_twice (ks ++ k ∷ [])) (any_more (same_text x) ks k) ∙ ap (λ b. (is_among x ks || same_text x k) || b) (twice_more ks k)
    ∙ ap (λ b. (is_among x ks || b) || (has_twice ks || is_among k ks)) (same_swap x k) ∙ turn (is_among x ks) (same_text k x) (has_twice ks) (is_among k ks)
  where
    turn : (a b c d : Bool) → ((a || b) || (c || d)) ≡ ((a || c) || (b || d))
    turn true b c d = refl
    turn false true true d = refl
    turn false true false d = refl
    turn false false c d = refl

pub names_more : (ds : List Data) (k : List ℕ) (d e : Data) → d ≡ pair_data (k, e) → pair_names (ds ++ d ∷ []) ≡ pair_names ds ++ k ∷ []
names_more [] k d e is = ap (λ x. name_of (items_or x) ++ []) is
names_more (x ∷ ds) k d e is = ap (λ ns. name_of (items_or x) ++ ns) (names_more ds k d e is) ∙ sym (append_assoc (name_of (items_or x)) (pair_names ds) (k ∷ []))

pub record Judging (ds : T.Items) (left : Items) (miscounted repeated : Bool) (seen : BTreeSet (Bor (List ℕ))) : Type 0 where
  pub done : List Data
  pub rest : T.Items
  pub is : T.items_list ds ≡ done ++ T.items_list rest
  pub has : HasItems left rest
  pub fine : list_any is_odd done ≡ false
  pub counted : miscounted ≡ list_any is_miscounted done
  pub met : list_any is_miscounted done ≡ false → (repeated ≡ has_twice (pair_names done)) × ((q : List ℕ) → is_among q (texts seen) ≡ is_among q (pair_names done))

pub judging_begins : (ds : T.Items) (left : Items) (seen : BTreeSet (Bor (List ℕ))) → HasItems left ds → seen.keys ≡ [] → Judging ds left false false seen
judging_begins ds left seen has empty = record {
  done = [];
  rest = ds;
  is = refl;
  has = has;
  fine = refl;
  counted = refl;
  met = λ e. (refl, λ q. ap (λ ks. list_any (same_text q) (map (λ (k : Bor (List ℕ)). k.now) ks)) empty);
}

record First (ds : T.Items) (n : Node) (after : Items) (done : List Data) (rest : T.Items) : Type 0 where
  one : Data
  others : T.Items
  is : T.items_list ds ≡ done ++ one ∷ T.items_list others
  stands : HasData n one
  has : HasItems after others

module _ (ds : T.Items) (left after : Items) (miscounted repeated : Bool) (seen : BTreeSet (Bor (List ℕ))) (h : Judging ds left miscounted repeated seen) (n : Node) (gives : ItemsGive left (Some n) after) where
  first : First ds n after h.done h.rest
  first = by h.rest h.is h.has where
    by : (es : T.Items) → T.items_list ds ≡ h.done ++ T.items_list es → HasItems left es → First ds n after h.done h.rest
    by T.no_items is has = absurd (gives T.no_items has)
    by (T.item d es) is has = let x = gives (T.item d es) has in record { one = d; others = es; is = is; stands = x.stands; has = x.left }

  moved : T.items_list ds ≡ (h.done ++ first.one ∷ []) ++ T.items_list first.others
  moved = first.is ∙ sym (append_assoc h.done (first.one ∷ []) (T.items_list first.others))

  pub judged_odd : ((d : Data) → HasData n d → is_pair d ≡ false) → list_any is_odd (T.items_list ds) ≡ true
  judged_odd odd = ap (list_any is_odd) first.is ∙ any_found is_odd h.done (T.items_list first.others) first.one (ap not (odd first.one first.stands))

  pub judged_other : ((d : Data) → HasData n d → (is_pair d ≡ true) × (is_two d ≡ false)) → Judging ds after true repeated seen
  judged_other other =
      let x = other first.one first.stands in
      let mis : list_any is_miscounted (h.done ++ first.one ∷ []) ≡ true = any_found is_miscounted h.done [] first.one (ap not x.1) in
      record {
        done = h.done ++ first.one ∷ [];
        rest = first.others;
        is = moved;
        has = first.has;
        fine = any_more is_odd h.done first.one ∙ ap (λ b. b || is_odd first.one) h.fine ∙ ap not x.0;
        counted = sym mis;
        met = λ e. absurd (clash (sym mis ∙ e));
      }
    where
      clash : true ≡ false → ⊥
      clash e = cc

  pub judged_pair : (k : List ℕ) (now : Bool) (after_seen : BTreeSet (Bor (List ℕ))) → ((d : Data) → HasData n d → (e : Data) × (d ≡ pair_data (k, e))) → now ≡ (repeated || is_among k (texts seen))
      → ((q : List ℕ) → is_among q (texts after_seen) ≡ (same_text q k || is_among q (texts seen))) → Judging ds after miscounted now after_seen
  judged_pair k now after_seen pair now_is more =
      let x = pair first.one first.stands in
      let pairs : is_pair first.one ≡ true = ap is_pair x.1 in
      let two : is_two first.one ≡ true = ap is_two x.1 in
      let same : list_any is_miscounted (h.done ++ first.one ∷ []) ≡ list_any is_miscounted h.done =
      any_more is_miscounted h.done first.one ∙ ap (λ b. list_any is_miscounted h.done || not b) two ∙ or_false (list_any is_miscounted h.done) in
      record {
        done = h.done ++ first.one ∷ [];
        rest = first.others;
        is = moved;
        has = first.has;
        fine = any_more is_odd h.done first.one ∙ ap (λ b. b || is_odd first.one) h.fine ∙ ap not pairs;
        counted = h.counted ∙ sym same;
        met = λ e.
            let y = h.met (sym same ∙ e) in
            let named : pair_names (h.done ++ first.one ∷ []) ≡ pair_names h.done ++ k ∷ [] = names_more h.done k first.one x.0 x.1 in (
              now_is ∙ ap (λ b. b || is_among k (texts seen)) y.0 ∙ ap (λ b. has_twice (pair_names h.done) || b) (y.1 k) ∙ sym (twice_more (pair_names h.done) k) ∙ ap has_twice (sym named),
              λ q. more q ∙ ap (λ b. same_text q k || b) (y.1 q) ∙ swap (same_text q k) (is_among q (pair_names h.done)) ∙ sym (any_more (same_text q) (pair_names h.done) k) ∙ ap (is_among q) (sym named),
            );
      }
    where
      or_false : (b : Bool) → (b || false) ≡ b
      or_false true = refl
      or_false false = refl

      swap : (a b : Bool) → (a || b) ≡ (b || a)
      swap true true = refl
      swap true false = refl
      swap false true = refl
      swap false false = refl

pub judged_end : (ds : T.Items) (left after : Items) (miscounted repeated : Bool) (seen : BTreeSet (Bor (List ℕ))) → Judging ds left miscounted repeated seen → ItemsGive left None after
    → IsJudged (T.items_list ds) (cause_of miscounted repeated)
judged_end ds left after miscounted repeated seen h gives = by miscounted repeated h.counted h.met where
  whole : T.items_list ds ≡ h.done
  whole = h.is ∙ ap (λ es. h.done ++ T.items_list es) (item_end left h.rest after gives h.has) ∙ nothing h.done where
    nothing : (xs : List Data) → xs ++ [] ≡ xs
    nothing [] = refl
    nothing (x ∷ xs) = ap (λ ys. x ∷ ys) (nothing xs)

  by : (m r : Bool) → m ≡ list_any is_miscounted h.done → (list_any is_miscounted h.done ≡ false → (r ≡ has_twice (pair_names h.done)) × ((q : List ℕ) → is_among q (texts seen) ≡ is_among q (pair_names h.done)))
      → IsJudged (T.items_list ds) (cause_of m r)
  by true r counted met = (ap (list_any is_odd) whole ∙ h.fine, ap (list_any is_miscounted) whole ∙ sym counted)
  by false true counted met = (ap (list_any is_odd) whole ∙ h.fine, ap (list_any is_miscounted) whole ∙ sym counted, ap (λ es. has_twice (pair_names es)) whole ∙ sym (met (sym counted)).0)
  by false false counted met = (ap (list_any is_odd) whole ∙ h.fine, ap (list_any is_miscounted) whole ∙ sym counted, ap (λ es. has_twice (pair_names es)) whole ∙ sym (met (sym counted)).0)
