-- The place of a key among pairs, of which the first ones have other keys.
use Rattle.std.proofs.Common.{◌≡◌, ◌≤◌, ◌+◌, ◌-◌, ◌^◌, min, ℕ, suc, List, [], ◌∷◌, Bool, true, false, cond, length, map, Some, None, refl, sym, ◌∙◌, ap, subst, arith}
use Rattle.std.specs.Prelude.{is_some}
use Rattle.ild_cbor.specs.Nodes.{HasData}
use Rattle.ild_cbor.specs.Steps.{HasItems, ItemsGive}
use Rattle.ild_cbor.specs.declared.items.Items.{Items}
use Rattle.ild_cbor.specs.declared.node.Node.{Node}
use Rattle.ild_data.specs.Data as T
use Rattle.ild_data.specs.Data.{Data, items_list}
use Rattle.ild_data.specs.Key.{same_text, value_at}
use Rattle.ild_data.proofs.Lists.{items_list-items_of}
use Rattle.ild_data.proofs.Sizes.{items_count}
use Rattle.ild_path_changes.specs.Places.{place_of}
use Rattle.ild_layer_piece.specs.Entries.{Lists}
use Rattle.ild_typed.specs.Named.{items_in}
use Rattle.ild_typed.specs.Strings.{listpairs, pair_data}
use Rattle.ild_path_steps.specs.Seats.{HasPairs, IsSeat}
use Rattle.ild_path_steps.specs.declared.pair.Seat.{Seat}

abbrev pub seat_of : ℕ → Bool → Seat
seat_of n b = record { place = n; there = b }

-- the key is found so many places on, or is not among the pairs
pub record Seeking (k : List ℕ) (es : List (List ℕ × Data)) (n : ℕ) (s : Items) : Type 0 where
  pub rest : List (List ℕ × Data)
  pub left : HasPairs s rest
  pub there : value_at k rest ≡ value_at k es
  pub place : n + place_of k rest ≡ place_of k es
  pub short : n + length rest ≤ 4194304

pairs_long : (es : List (List ℕ × Data)) → length (map pair_data es) ≡ length es
pairs_long [] = refl
pairs_long (e ∷ es) = ap suc (pairs_long es)

pub few_pairs : (es : List (List ℕ × Data)) (s : Items) → HasPairs s es → length es ≤ 4194304
few_pairs es s h =
    let few = items_count (T.items_of (map pair_data es)) in
    let long : length (items_list (T.items_of (map pair_data es))) ≡ length es = ap length (items_list-items_of (map pair_data es)) ∙ pairs_long es in
    omega (arith, few, long, h.sized)

pub begins : (k : List ℕ) (es : List (List ℕ × Data)) (s : Items) → HasPairs s es → Seeking k es 0 s
begins k es s h = let few = few_pairs es s h in record { rest = es; left = h; there = refl; place = omega arith; short = omega (arith, few) }

module _ (k : List ℕ) (es : List (List ℕ × Data)) (n : ℕ) (s t : Items) (item : Node) (b : Bool) (seek : Seeking k es n s) (gives : ItemsGive s (Some item) t)
    (keyed : (e : List ℕ × Data) → HasData item (pair_data e) → b ≡ same_text k e.0)
  where
    pub found : b ≡ true → IsSeat (seat_of n true) (place_of k es) (value_at k es)
    found e = by seek.rest seek.left seek.there seek.place where
      by : (rest : List (List ℕ × Data)) → HasPairs s rest → value_at k rest ≡ value_at k es → n + place_of k rest ≡ place_of k es → IsSeat (seat_of n true) (place_of k es) (value_at k es)
      by [] left there place = absurd (gives T.no_items left)
      by (y ∷ rest) left there place =
          let step = gives (T.item (pair_data y) (T.items_of (map pair_data rest))) left in
          let is : same_text k y.0 ≡ true = sym (keyed y step.stands) ∙ e in
          let here : cond (same_text k y.0) 0 (suc (place_of k rest)) ≡ 0 = ap (λ c. cond c 0 (suc (place_of k rest))) is in
          let some : Some y.1 ≡ value_at k es = sym (ap (λ c. cond c (Some y.1) (value_at k rest)) is) ∙ there in
          record { place_is = omega (arith, place, here); there_is = ap is_some some }

    pub goes_on : b ≡ false → (m : ℕ) → m ≡ min (n + 1) (2 ^ 64 - 1) → Seeking k es m t
    goes_on d m next = by seek.rest seek.left seek.there seek.place seek.short where
      by : (rest : List (List ℕ × Data)) → HasPairs s rest → value_at k rest ≡ value_at k es → n + place_of k rest ≡ place_of k es → n + length rest ≤ 4194304 → Seeking k es m t
      by [] left there place short = absurd (gives T.no_items left)
      by (e ∷ rest) left there place short =
          let step = gives (T.item (pair_data e) (T.items_of (map pair_data rest))) left in
          let is : same_text k e.0 ≡ false = sym (keyed e step.stands) ∙ d in
          let behind : cond (same_text k e.0) 0 (suc (place_of k rest)) ≡ suc (place_of k rest) = ap (λ c. cond c 0 (suc (place_of k rest))) is in
          let one : m ≡ n + 1 = omega (arith, next, short) in
          record {
            rest = rest;
            left = step.left;
            there = sym (ap (λ c. cond c (Some e.1) (value_at k rest)) is) ∙ there;
            place = omega (arith, place, behind, one);
            short = omega (arith, short, one);
          }

pub ends : (k : List ℕ) (es : List (List ℕ × Data)) (n : ℕ) (s t : Items) → Seeking k es n s → ItemsGive s None t → IsSeat (seat_of n false) (place_of k es) (value_at k es)
ends k es n s t seek gives = by seek.rest seek.left seek.there seek.place where
  by : (rest : List (List ℕ × Data)) → HasPairs s rest → value_at k rest ≡ value_at k es → n + place_of k rest ≡ place_of k es → IsSeat (seat_of n false) (place_of k es) (value_at k es)
  by [] left there place = record { place_is = omega (arith, place); there_is = ap is_some there }
  by (e ∷ rest) left there place = absurd (gives (T.item (pair_data e) (T.items_of (map pair_data rest))) left)

-- the pairs of a list in a block
pub pairs_in : (es : List (List ℕ × Data)) (s : Items) → Lists (items_in (listpairs es)) (Some s) → HasPairs s es
pairs_in es s h = subst (λ (ds : List Data). HasItems s (T.items_of ds)) (items_list-items_of (map pair_data es)) h
