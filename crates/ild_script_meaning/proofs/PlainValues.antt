-- A plain map as a typed value: its entries, its data, and how it is judged.
use Rattle.std.proofs.Common.{◌≡◌, ℕ, ℤ, List, [], ◌∷◌, ◌++◌, map, Bool, true, false, Option, Some, refl, sym, ap, subst, arith}
use Rattle.std.specs.Prelude.{IsUtf8, option_map, if◌then◌else◌}
use Rattle.std.specs.List.{AllByRecursion}
use Rattle.std.specs.Ordering.{match_ordering}
use Rattle.std.specs.declared.cmp.Ordering.{Ordering}
use Rattle.std.specs.declared.cmp.Ordering.TheVariants.{Less, Equal, Greater}
use Rattle.ild_schema.proofs.Parts.{pairs_list-pairs_of}
use Rattle.ild_data.specs.Data as T
use Rattle.ild_data.specs.Integer.{IsInt}
use Rattle.ild_data.specs.Key.{key_cmp, same_text, put, value_at, without, IsBelow, Rises}
use Rattle.ild_schema.specs.declared.def.TypeDef.{TypeDef}
use Rattle.ild_schema.specs.declared.def.MapForm.TheVariants as MF
use Rattle.ild_schema.specs.declared.number.Slot.{Slot}
use Rattle.ild_schema.specs.declared.row.Row.{Row}
use Rattle.ild_schema.specs.Prelude.{number}
use Rattle.ild_schema.specs.Slots.{form_of, plainly}
use Rattle.ild_schema.specs.Value as V
use Rattle.ild_schema.specs.Value.{pairs_of, pairs_list}
use Rattle.ild_typed.specs.Blocks.{nodes_of_pairs}
use Rattle.ild_typed.specs.EachLayer.{some_pair}
use Rattle.ild_typed.specs.Fits.{FitsPast, Fits}
use Rattle.ild_typed.specs.Hamt.{whole}
use Rattle.ild_typed.specs.Layer as L
use Rattle.ild_typed.specs.Layers.{EntriesFit, RepresentsSome}
use Rattle.ild_typed.specs.Strings.{cons_both}
use Rattle.ild_typed.specs.Represented.{represented, represented_pairs, layered}
use Rattle.ild_typed.specs.Stands.{bare, blocks_of}
use Rattle.ild_script_meaning.specs.PlainValue as P
use Rattle.ild_script_meaning.specs.PlainMap.{plain_rows, int_entry, as_value, IsPlain}

-- ---- entries

pub entry_there : (k : List ℕ) (v : P.Value) → value_at k (map int_entry v) ≡ option_map V.integer (value_at k v)
entry_there k [] = refl
entry_there k (e ∷ v) = by (same_text k e.0) (entry_there k v)
  where
    by : (b : Bool) → value_at k (map int_entry v) ≡ option_map V.integer (value_at k v)
        → (if b then Some (V.integer e.1) else value_at k (map int_entry v)) ≡ option_map V.integer (if b then Some e.1 else value_at k v)
    by true h = refl
    by false h = h

pub entry_put : (k : List ℕ) (n : ℤ) (v : P.Value) → put k (V.integer n) (map int_entry v) ≡ map int_entry (put k n v)
entry_put k n [] = refl
entry_put k n (e ∷ v) = by (key_cmp k e.0) (entry_put k n v)
  where
    by : (o : Ordering) → put k (V.integer n) (map int_entry v) ≡ map int_entry (put k n v)
        → match_ordering o ((k, V.integer n) ∷ int_entry e ∷ map int_entry v) ((k, V.integer n) ∷ map int_entry v) (int_entry e ∷ put k (V.integer n) (map int_entry v))
        ≡ map int_entry (match_ordering o ((k, n) ∷ e ∷ v) ((k, n) ∷ v) (e ∷ put k n v))
    by Less h = refl
    by Equal h = refl
    by Greater h = ap (λ es. int_entry e ∷ es) h

pub entry_gone : (k : List ℕ) (v : P.Value) → without k (map int_entry v) ≡ map int_entry (without k v)
entry_gone k [] = refl
entry_gone k (e ∷ v) = by (same_text k e.0) (entry_gone k v)
  where
    by : (b : Bool) → without k (map int_entry v) ≡ map int_entry (without k v)
        → (if b then map int_entry v else int_entry e ∷ without k (map int_entry v)) ≡ map int_entry (if b then v else e ∷ without k v)
    by true h = refl
    by false h = ap (λ es. int_entry e ∷ es) h

below_entries : (k : List ℕ) (v : P.Value) → IsBelow k v → IsBelow k (map int_entry v)
below_entries k [] h = tt
below_entries k (e ∷ v) h = h

rises_entries : (v : P.Value) → Rises v → Rises (map int_entry v)
rises_entries [] h = tt
rises_entries (e ∷ v) h = (below_entries e.0 v h.0, rises_entries v h.1)

module _ (name : List ℕ) (at key_at value_at : ℕ) where
  abbrev R : List Row
  R = plain_rows name at key_at value_at

  abbrev one : Slot
  one = plainly (number 8)

  abbrev int_slot : Slot
  int_slot = plainly (number 3)

  data_pairs : (h : List ℕ → List ℕ) (v : P.Value) → represented_pairs (whole h) R int_slot (pairs_of (map int_entry v)) ≡ Some (map P.entry_of v)
  data_pairs h [] = refl
  data_pairs h (e ∷ v) = ap (λ o. cons_both (Some (P.entry_of e)) o) (data_pairs h v)

  pub data_is : (h : List ℕ → List ℕ) (v : P.Value) → represented (whole h) R one (as_value v) ≡ Some (P.rep_of v)
  data_is h v = ap (λ o. layered (whole h) (form_of R one) (option_map L.map o)) (data_pairs h v)

  no_nodes : (h : List ℕ → List ℕ) (v : P.Value) → nodes_of_pairs h R int_slot (pairs_of (map int_entry v)) ≡ []
  no_nodes h [] = refl
  no_nodes h (e ∷ v) = no_nodes h v

  pub one_block : (h : List ℕ → List ℕ) (v : P.Value) → blocks_of bare h R (number 8) (as_value v) (P.rep_of v) ≡ P.blocks_of v
  one_block h v = ap (λ bs. P.block_of v ∷ (bs ++ [])) (no_nodes h v)

  pub no_layer : (test : Option TypeDef → V.Value → Bool) (v : P.Value) → some_pair test R int_slot (pairs_of (map int_entry v)) ≡ false
  no_layer test [] = refl
  no_layer test (e ∷ v) = no_layer test v

  each_fits : (v : P.Value) → AllByRecursion (λ e. IsUtf8 e.0 × IsInt e.1) v
      → AllByRecursion (λ p. IsUtf8 p.0 × RepresentsSome (FitsPast R 95 0) R (plainly (number 7)) (T.text p.0) × FitsPast R 95 0 int_slot p.1) (map int_entry v)
  unfolding FitsPast
  each_fits [] all = tt
  each_fits (e ∷ v) all = (((all.0).0, (V.text e.0, (omega arith, (all.0).0), refl), (omega arith, (all.0).1)), each_fits v all.1)

  pub map_fits : (v : P.Value) → IsPlain v → Fits R 96 one (as_value v)
  unfolding FitsPast
  map_fits v plain = (
    omega arith,
    subst (EntriesFit (FitsPast R 95 0) R (number 7) int_slot MF.Map) (sym (pairs_list-pairs_of (map int_entry v))) (rises_entries v plain.rises, each_fits v plain.each),
  )
