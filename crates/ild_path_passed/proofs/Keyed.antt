-- The data and the places in the values of a map's keys: an entry put, or gone, leaves those of the other keys.
use Rattle.std.proofs.Common.{◌≡◌, ◌≢◌, ℕ, Bool, true, false, cond, List, [], ◌∷◌, Option, Some, option_map, refl, ap, sym, ◌∙◌}
use Rattle.std.specs.Prelude.{option_and_then}
use Rattle.std.specs.List.{AllByRecursion, filter}
use Rattle.std.specs.Ordering.{match_ordering}
use Rattle.std.specs.Cmp.Lexicographic.{same_text as text_same}
use Rattle.std.specs.declared.cmp.Ordering.{Ordering}
use Rattle.std.specs.declared.cmp.Ordering.TheVariants.{Less, Equal, Greater}
use Rattle.std.proofs.lemmas.Option.{same_Some}
use Rattle.ild_data.proofs.AllOf.{all_filter}
use Rattle.ild_data.specs.Data.{Data}
use Rattle.ild_data.specs.Key.{key_cmp, same_text, value_at, put, without}
use Rattle.ild_data.proofs.Rising.{key_exact}
use Rattle.ild_schema.specs.declared.number.Slot.{Slot}
use Rattle.ild_schema.specs.declared.row.Row.{Row}
use Rattle.ild_schema.specs.Value.{Value, pairs_of}
use Rattle.ild_splice_changes.proofs.Maps.{other_is}
use Rattle.ild_typed.specs.Hamt.{whole}
use Rattle.ild_typed.specs.Represented.{represented, represented_pairs}
use Rattle.ild_typed.proofs.Basics.{map_from}
use Rattle.ild_typed.proofs.Entries.{both_from}
use Rattle.ild_typed_places.specs.Places.{Place, Places, joined, places_over, at_key, places_in, places_in_pairs}
use Rattle.ild_path_passed.proofs.Joined.{Each, over_each}

-- ---- places by keys

abbrev keyed_by : List ℕ → List (List ℕ × Places) → List (List ℕ × Places)
keyed_by q ts = filter (λ z. same_text q z.0) ts

key_first : (q : List ℕ) (t : List ℕ × Places) (ts : List (List ℕ × Places)) → same_text q t.0 ≡ false → at_key (t ∷ ts) q ≡ at_key ts q
key_first q t ts apart = ap (λ b. places_over (λ z. z.1) (cond b (t ∷ keyed_by q ts) (keyed_by q ts))) apart

key_more : (q : List ℕ) (t : List ℕ × Places) (ts us : List (List ℕ × Places)) → at_key ts q ≡ at_key us q → at_key (t ∷ ts) q ≡ at_key (t ∷ us) q
key_more q t ts us same = by (same_text q t.0) where
  by : (b : Bool) → places_over (λ z. z.1) (cond b (t ∷ keyed_by q ts) (keyed_by q ts)) ≡ places_over (λ z. z.1) (cond b (t ∷ keyed_by q us) (keyed_by q us))
  by true = ap (joined t.1) same
  by false = same

pub at_keys : (Q : Place → Type 0) (ts : List (List ℕ × Places)) → AllByRecursion (λ t. Each Q t.1) ts → (q : List ℕ) → Each Q (at_key ts q)
at_keys Q ts all q = over_each Q (λ t. t.1) (keyed_by q ts) (all_filter (λ t. Each Q t.1) (λ t. same_text q t.0) ts all)

module _ (h : List ℕ → List ℕ) (rows : List Row) (elem : Slot) where
  -- ---- what the data have at a key

  abbrev pub data_of : List (List ℕ × Value) → Option (List (List ℕ × Data))
  data_of xs = represented_pairs (whole h) rows elem (pairs_of xs)

  abbrev pub found_data : List ℕ → List (List ℕ × Value) → Option Data
  found_data q xs = option_and_then (represented (whole h) rows elem) (value_at q xs)

  pub data_at : (q : List ℕ) (xs : List (List ℕ × Value)) (es : List (List ℕ × Data)) → data_of xs ≡ Some es → value_at q es ≡ found_data q xs
  data_at q [] es e = ap (value_at q) (sym (same_Some [] es e))
  data_at q (x ∷ xs) es e =
      let z = both_from {A = List ℕ × Data} (option_map (λ d. (x.0, d)) (represented (whole h) rows elem x.1)) (data_of xs) es e in
      let y = map_from {B = List ℕ × Data} (λ d. (x.0, d)) (represented (whole h) rows elem x.1) z.item z.first in
      let first : (x.0, y.item) ≡ z.item = same_Some (x.0, y.item) z.item y.made in
      ap (value_at q) (sym (ap (λ (m : List ℕ × Data). m ∷ z.items) first ∙ z.all)) ∙ by (same_text q x.0) y.item z.items y.there (data_at q xs z.items z.rest)
    where
      by : (b : Bool) (d : Data) (ms : List (List ℕ × Data)) → represented (whole h) rows elem x.1 ≡ Some d → value_at q ms ≡ found_data q xs
          → cond b (Some d) (value_at q ms) ≡ option_and_then (represented (whole h) rows elem) (cond b (Some x.1) (value_at q xs))
      by true d ms is rest = sym is
      by false d ms is rest = rest

  -- ---- the places in the values

  abbrev In : Value → Places
  In v = places_in h rows elem v

  abbrev pub keyed : List (List ℕ × Value) → List (List ℕ × Places)
  keyed xs = places_in_pairs h rows elem (pairs_of xs)

  pub keyed_each : (Q : Place → Type 0) (xs : List (List ℕ × Value)) → AllByRecursion (λ x. Each Q (In x.1)) xs → AllByRecursion (λ t. Each Q t.1) (keyed xs)
  keyed_each Q [] all = tt
  keyed_each Q (x ∷ xs) all = (all.0, keyed_each Q xs all.1)

  pub other_put : (q k : List ℕ) (w : Value) (xs : List (List ℕ × Value)) → k ≢ q → at_key (keyed (put k w xs)) q ≡ at_key (keyed xs) q
  other_put q k w [] apart = key_first q (k, In w) [] (other_is q k (λ same. apart (sym same)))
  other_put q k w (x ∷ xs) apart = by (key_cmp k x.0) refl (other_put q k w xs apart) where
    by : (o : Ordering) → key_cmp k x.0 ≡ o → at_key (keyed (put k w xs)) q ≡ at_key (keyed xs) q
        → at_key (keyed (match_ordering o ((k, w) ∷ x ∷ xs) ((k, w) ∷ xs) (x ∷ put k w xs))) q ≡ at_key (keyed (x ∷ xs)) q
    by Less e rest = key_first q (k, In w) (keyed (x ∷ xs)) (other_is q k (λ same. apart (sym same)))
    by Equal e rest =
        key_first q (k, In w) (keyed xs) (other_is q k (λ same. apart (sym same)))
        ∙ sym (key_first q (x.0, In x.1) (keyed xs) (other_is q x.0 (λ same. apart (key_exact k x.0 e ∙ sym same))))
    by Greater e rest = key_more q (x.0, In x.1) (keyed (put k w xs)) (keyed xs) rest

  pub other_without : (q k : List ℕ) (xs : List (List ℕ × Value)) → k ≢ q → at_key (keyed (without k xs)) q ≡ at_key (keyed xs) q
  other_without q k [] apart = refl
  other_without q k (x ∷ xs) apart = by (same_text k x.0) refl (other_without q k xs apart) where
    by : (b : Bool) → b ≡ same_text k x.0 → at_key (keyed (without k xs)) q ≡ at_key (keyed xs) q → at_key (keyed (cond b xs (x ∷ without k xs))) q ≡ at_key (keyed (x ∷ xs)) q
    by true e rest = sym (key_first q (x.0, In x.1) (keyed xs) (other_is q x.0 (λ same. apart (text_same k x.0 e ∙ sym same))))
    by false e rest = key_more q (x.0, In x.1) (keyed (without k xs)) (keyed xs) rest
