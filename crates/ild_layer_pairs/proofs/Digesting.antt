-- Pairs of a list whose names are told apart by digests.
use Rattle.std.proofs.Common.{◌≡◌, ◌<◌, ℕ, suc, length, List, [], ◌∷◌, ◌++◌, append_assoc, map, Bool, true, false, cond, ◌||◌, Option, Some, None, IsPermutation, refl, sym, ◌∙◌, ap, subst, arith}
use Rattle.std.specs.List.{AllByRecursion, IsDistinct, list_any}
use Rattle.std.specs.Prelude.{nat_eq, nat_lt}
use Rattle.std.specs.Cmp.Lexicographic.{same_text as text_same}
use Rattle.std.proofs.lemmas.Bool.{eq-eqb, eqb-true, ltb-false, ltb-true}
use Rattle.std.proofs.lemmas.List.Sorted.{IsPermutation-sym}
use Rattle.std.proofs.lemmas.Map.Keys.{IsDistinct-IsPermutation}
use Rattle.ild_layer_fields.proofs.Noting.{any_more}
use Rattle.ild_data.specs.Data as T
use Rattle.ild_data.specs.Data.{Data}
use Rattle.ild_data.specs.Key.{same_text}
use Rattle.ild_cbor.specs.Nodes.{HasData}
use Rattle.ild_cbor.specs.Scalar.{text_of as text_found}
use Rattle.ild_cbor.specs.Spelled.{SpellsSomeItems}
use Rattle.ild_cbor.specs.Steps.{HasItems, ItemsGive, UnfoldFirst, Unfolded, Unfolds}
use Rattle.ild_cbor.specs.declared.items.Items.{Items}
use Rattle.ild_cbor.specs.declared.node.Node.{Node}
use Rattle.ild_layer_fields.proofs.Pairing.{item_end, text_is}
use Rattle.ild_typed.specs.Named.{has_twice, is_among, pair_names}
use Rattle.ild_typed.specs.Strings.{pair_data}
use Rattle.ild_layer_pairs.specs.Apart.{AreDigested, IsNamed, climbs, digest_of, follows}
use Rattle.ild_layer_pairs.specs.Judged.{IsJudged, is_miscounted, is_odd}
use Rattle.ild_layer_pairs.proofs.Judging.{names_more}

-- ---- the first pair

module _ (s t u w : Items) (y v : Node) (k : List ℕ)
    (opens : Unfolds s (Some 2) t) (one : ItemsGive t (Some y) u) (text : (e : Data) → HasData y e → Some k ≡ text_found e) (two : ItemsGive u (Some v) w)
  where
    listed : (es ds : T.Items) → Unfolded s es ds 2 t → IsNamed (T.item (T.list es) ds) k v w
    listed T.no_items ds x = let c = x.count in absurd (omega arith)
    listed (T.item a T.no_items) ds x = let c = x.count in absurd (omega arith)
    listed (T.item a (T.item b T.no_items)) ds x =
        let f = one (T.item a (T.item b ds)) x.left in
        let g = two (T.item b ds) f.left in
        record {
          first = b;
          rest = ds;
          is = ap (λ e. T.item (T.list (T.item e (T.item b T.no_items))) ds) (text_is a k (text a f.stands));
          stands = g.stands;
          left = g.left;
        }
    listed (T.item a (T.item b (T.item c es))) ds x = let l = x.count in absurd (omega arith)

    of_first : (d : Data) (ds : T.Items) → UnfoldFirst s (T.item d ds) (Some 2) t → IsNamed (T.item d ds) k v w
    of_first (T.list es) ds x = listed es ds x
    of_first d ds x = absurd x

    pub named_first : (ds : T.Items) → HasItems s ds → IsNamed ds k v w
    named_first T.no_items h = absurd (opens T.no_items h)
    named_first (T.item d ds) h = of_first d ds (opens (T.item d ds) h)

pub named_fewer : (s w : Items) (v : Node) (k : List ℕ) → ((ds : T.Items) → HasItems s ds → IsNamed ds k v w) → SpellsSomeItems s.block.now s.from s.left → w.left < s.left
named_fewer s w v k named x =
    let n = named x.of x.spells in
    let all = x.spells.count in
    let behind = n.left.count in
    let same : length (T.items_list x.of) ≡ suc (length (T.items_list n.rest)) = ap (λ es. length (T.items_list es)) n.is in
    omega arith

-- ---- pairs one after another

pub record Digesting (ds : T.Items) (left : Items) (numbers : List ℕ) : Type 0 where
  pub done : List Data
  pub rest : T.Items
  pub is : T.items_list ds ≡ done ++ T.items_list rest
  pub has : HasItems left rest
  pub digested : AreDigested done numbers

pub digesting_begins : (ds : T.Items) (left : Items) → HasItems left ds → Digesting ds left []
digesting_begins ds left has = record { done = []; rest = ds; is = refl; has = has; digested = record { fine = refl; counted = refl; are = refl } }

or_false : (b : Bool) → (b || false) ≡ b
or_false true = refl
or_false false = refl

mapped_more : (ks : List (List ℕ)) (k : List ℕ) → map digest_of ks ++ digest_of k ∷ [] ≡ map digest_of (ks ++ k ∷ [])
mapped_more [] k = refl
mapped_more (q ∷ ks) k = ap (λ ns. digest_of q ∷ ns) (mapped_more ks k)

pub digesting_more : (ds : T.Items) (left after : Items) (ns : List ℕ) (k : List ℕ) (v : Node) → Digesting ds left ns → ((es : T.Items) → HasItems left es → IsNamed es k v after)
    → Digesting ds after (ns ++ digest_of k ∷ [])
digesting_more ds left after ns k v h named =
    let x = named h.rest h.has in
    let d : Data = pair_data (k, x.first) in
    record {
      done = h.done ++ d ∷ [];
      rest = x.rest;
      is = h.is ∙ ap (λ es. h.done ++ T.items_list es) x.is ∙ sym (append_assoc h.done (d ∷ []) (T.items_list x.rest));
      has = x.left;
      digested = record {
        fine = any_more is_odd h.done d ∙ or_false (list_any is_odd h.done) ∙ h.digested.fine;
        counted = any_more is_miscounted h.done d ∙ or_false (list_any is_miscounted h.done) ∙ h.digested.counted;
        are = ap (λ ms. ms ++ digest_of k ∷ []) h.digested.are ∙ mapped_more (pair_names h.done) k ∙ ap (map digest_of) (sym (names_more h.done k d x.first refl));
      };
    }

pub digesting_ends : (ds : T.Items) (left after : Items) (ns : List ℕ) → Digesting ds left ns → ItemsGive left None after → AreDigested (T.items_list ds) ns
digesting_ends ds left after ns h gives =
    subst (λ es. AreDigested es ns) (sym (h.is ∙ ap (λ es. h.done ++ T.items_list es) (item_end left h.rest after gives h.has) ∙ nothing h.done)) h.digested
  where
    nothing : (xs : List Data) → xs ++ [] ≡ xs
    nothing [] = refl
    nothing (x ∷ xs) = ap (λ ys. x ∷ ys) (nothing xs)

-- ---- numbers that rise are apart

differ : (n y : ℕ) → n < y → nat_eq n y ≡ false
differ n y low = by (nat_eq n y) refl where
  by : (b : Bool) → nat_eq n y ≡ b → b ≡ false
  by true e = let same = eqb-true n y e in absurd (omega arith)
  by false e = refl

all_of : (P Q : ℕ → Type 0) → ((y : ℕ) → P y → Q y) → (ys : List ℕ) → AllByRecursion P ys → AllByRecursion Q ys
all_of P Q f [] a = tt
all_of P Q f (y ∷ ys) a = (f y a.0, all_of P Q f ys a.1)

pub climbs_apart : (o : Option ℕ) (ns : List ℕ) → climbs o ns ≡ true → AllByRecursion (λ y. follows o y ≡ true) ns × IsDistinct nat_eq ns
unfolding IsDistinct
climbs_apart o [] e = (tt, tt)
climbs_apart o (n ∷ ns) e = by (follows o n) refl (climbs_apart (Some n) ns) e where
  further : (p : Option ℕ) → follows p n ≡ true → (y : ℕ) → nat_lt n y ≡ true → follows p y ≡ true
  further None low y more = refl
  further (Some b) low y more = by (nat_lt b y) refl where
    by : (x : Bool) → nat_lt b y ≡ x → x ≡ true
    by true is = refl
    by false is = let first = ltb-true b n low in let second = ltb-true n y more in let third = ltb-false b y is in absurd (omega arith)

  by : (x : Bool) → follows o n ≡ x → (climbs (Some n) ns ≡ true → AllByRecursion (λ y. nat_lt n y ≡ true) ns × IsDistinct nat_eq ns) → cond x (climbs (Some n) ns) false ≡ true
      → (follows o n ≡ true × AllByRecursion (λ y. follows o y ≡ true) ns) × (AllByRecursion (λ y. nat_eq n y ≡ false) ns × IsDistinct nat_eq ns)
  by true low rest e =
      let x = rest e in
      ((low, all_of (λ y. nat_lt n y ≡ true) (λ y. follows o y ≡ true) (further o low) ns x.0), (all_of (λ y. nat_lt n y ≡ true) (λ y. nat_eq n y ≡ false) (λ y more. differ n y (ltb-true n y more)) ns x.0, x.1))
  by false low rest e = absurd cc

same_number : (n : ℕ) → nat_eq n n ≡ true
same_number n = eq-eqb n n refl

flips : (x y : ℕ) → nat_eq x y ≡ nat_eq y x
flips x y = by (nat_eq x y) (nat_eq y x) refl refl where
  clash : true ≡ false → ⊥
  clash z = cc

  by : (a b : Bool) → nat_eq x y ≡ a → nat_eq y x ≡ b → a ≡ b
  by true true e k = refl
  by false false e k = refl
  by true false e k = absurd (clash (sym (eq-eqb y x (sym (eqb-true x y e))) ∙ k))
  by false true e k = absurd (clash (sym (eq-eqb x y (sym (eqb-true y x k))) ∙ e))

pub sorted_apart : (old new : List ℕ) → IsPermutation old new → climbs None new ≡ true → IsDistinct nat_eq old
sorted_apart old new moved up = IsDistinct-IsPermutation nat_eq flips new old (IsPermutation-sym old new moved) (climbs_apart None new up).1

-- ---- names whose digests are apart are

texts_apart : (k q : List ℕ) → nat_eq (digest_of k) (digest_of q) ≡ false → same_text k q ≡ false
texts_apart k q e = by (same_text k q) refl where
  clash : true ≡ false → ⊥
  clash z = cc

  by : (b : Bool) → same_text k q ≡ b → b ≡ false
  by true same = absurd (clash (sym (same_number (digest_of k)) ∙ ap (λ x. nat_eq (digest_of k) (digest_of x)) (text_same k q (sym same)) ∙ e))
  by false same = refl

names_apart : (ks : List (List ℕ)) → IsDistinct nat_eq (map digest_of ks) → has_twice ks ≡ false
unfolding IsDistinct
names_apart [] d = refl
names_apart (k ∷ ks) d = ap (λ b. b || has_twice ks) (fresh ks d.0) ∙ names_apart ks d.1 where
  fresh : (qs : List (List ℕ)) → AllByRecursion (λ y. nat_eq (digest_of k) y ≡ false) (map digest_of qs) → is_among k qs ≡ false
  fresh [] a = refl
  fresh (q ∷ qs) a = ap (λ b. b || is_among k qs) (texts_apart k q a.0) ∙ fresh qs a.1

pub judged_apart : (ds : List Data) (ns : List ℕ) → AreDigested ds ns → IsDistinct nat_eq ns → IsJudged ds None
judged_apart ds ns h apart = (h.fine, h.counted, names_apart (pair_names ds) (subst (IsDistinct nat_eq) h.are apart))
