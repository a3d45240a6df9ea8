-- A step of the check of one block at a map, whose keys are texts of the key type.
use Rattle.ild_typed.proofs.PartData.{pairs_data}
use Rattle.std.proofs.Common.{◌≡◌, ℕ, zero, suc, ◌-◌, ◌≤◌, List, [], ◌∷◌, Option, Some, option_map, refl, sym, ◌∙◌, ap, subst, inl, inr}
use Rattle.std.specs.Prelude.{IsUtf8, IsSomeAnd, option_and_then}
use Rattle.std.specs.List.{AllByRecursion}
use Rattle.std.proofs.lemmas.Option.{same_Some}
use Rattle.ild_data.specs.Data as T
use Rattle.ild_data.specs.Data.{Data}
use Rattle.ild_data.specs.Key.{key_cmp, IsBelow, Rises}
use Rattle.ild_schema.specs.declared.number.Slot.{Slot}
use Rattle.ild_schema.specs.declared.number.TypeNo.{TypeNo}
use Rattle.ild_schema.specs.declared.def.TypeDef.{TypeDef}
use Rattle.ild_schema.specs.declared.def.TypeDef.TheVariants as D
use Rattle.ild_schema.specs.declared.def.MapForm.{MapForm}
use Rattle.ild_schema.specs.declared.def.MapForm.TheVariants as MF
use Rattle.ild_schema.specs.declared.row.Row.{Row}
use Rattle.ild_schema.specs.Copies.{base}
use Rattle.ild_schema.specs.Value as V
use Rattle.ild_schema.specs.Value.{Value, Pairs, pairs_list}
use Rattle.ild_typed.specs.Layer as L
use Rattle.ild_typed.specs.Layer.{Layer}
use Rattle.ild_typed.specs.Strings.{cons_both}
use Rattle.ild_schema.specs.Slots.{form_of, plainly}
use Rattle.ild_typed.specs.Slots.{element_of}
use Rattle.ild_typed.specs.Composed.{composed, map_form}
use Rattle.ild_typed.specs.Hamt.{alone}
use Rattle.ild_typed.specs.Represented.{layered, represented, represented_pairs}
use Rattle.ild_typed.specs.Levels.{map_levels}
use Rattle.ild_typed.specs.Fits.{FormFits, ValueFits, FitsPast}
use Rattle.ild_typed.specs.Layers.{AreKeysApart, AreKeys, RepresentsSome, EntriesFit, MapFits}
use Rattle.ild_schema.specs.Clear.{IsClear, IsSafe}
use Rattle.ild_typed.proofs.Basics.{map_from}
use Rattle.ild_typed.proofs.Entries.{both_from}
use Rattle.ild_typed.proofs.OfKinds.{composed_kind, alone_kind}
use Rattle.ild_typed.proofs.OneValue.{Way, as_null, as_layer, way_of, layer_data, map_value, map_in, unsafe}
use Rattle.ild_typed.proofs.Composing.{composed_tells, alone_tells}

-- ---- lists of pairs with the same keys

module _ {A B : Type 0} where
  abbrev pub SameKeys : List (List ℕ × A) → List (List ℕ × B) → Type 0
  SameKeys [] [] = Unit {0}
  SameKeys [] (q ∷ qs) = ⊥
  SameKeys (p ∷ ps) [] = ⊥
  SameKeys (p ∷ ps) (q ∷ qs) = (p.0 ≡ q.0) × SameKeys ps qs

  below_like : (k l : List ℕ) (ps : List (List ℕ × A)) (qs : List (List ℕ × B)) → k ≡ l → SameKeys ps qs → IsBelow k ps → IsBelow l qs
  below_like k l [] [] e same below = tt
  below_like k l [] (q ∷ qs) e same below = absurd same
  below_like k l (p ∷ ps) [] e same below = absurd same
  below_like k l (p ∷ ps) (q ∷ qs) e same below = ap (λ r. key_cmp r q.0) (sym e) ∙ ap (key_cmp k) (sym same.0) ∙ below

  rises_like : (ps : List (List ℕ × A)) (qs : List (List ℕ × B)) → SameKeys ps qs → Rises ps → Rises qs
  rises_like [] [] same up = tt
  rises_like [] (q ∷ qs) same up = absurd same
  rises_like (p ∷ ps) [] same up = absurd same
  rises_like (p ∷ ps) (q ∷ qs) same up = (below_like p.0 q.0 ps qs same.0 same.1 up.0, rises_like ps qs same.1 up.1)

  others_like : (k l : List ℕ) (ps : List (List ℕ × A)) (qs : List (List ℕ × B)) → k ≡ l → SameKeys ps qs → AllByRecursion (λ p. k ≡ p.0 → ⊥) ps → AllByRecursion (λ q. l ≡ q.0 → ⊥) qs
  others_like k l [] [] e same all = tt
  others_like k l [] (q ∷ qs) e same all = absurd same
  others_like k l (p ∷ ps) [] e same all = absurd same
  others_like k l (p ∷ ps) (q ∷ qs) e same all = (λ h. all.0 (e ∙ h ∙ sym same.0), others_like k l ps qs e same.1 all.1)

  apart_like : (ps : List (List ℕ × A)) (qs : List (List ℕ × B)) → SameKeys ps qs → AreKeysApart ps → AreKeysApart qs
  apart_like [] [] same all = tt
  apart_like [] (q ∷ qs) same all = absurd same
  apart_like (p ∷ ps) [] same all = absurd same
  apart_like (p ∷ ps) (q ∷ qs) same all = (others_like p.0 q.0 ps qs same.0 same.1 all.0, apart_like ps qs same.1 all.1)

  pub keys_like : (form : MapForm) (ps : List (List ℕ × A)) (qs : List (List ℕ × B)) → SameKeys ps qs → AreKeys form ps → AreKeys form qs
  keys_like MF.Map ps qs same keys = rises_like ps qs same keys
  keys_like MF.ListPairs ps qs same keys = apart_like ps qs same keys
  keys_like (MF.StringPairs inner entry) ps qs same keys = apart_like ps qs same keys
  keys_like (MF.Hamt p) ps qs same keys = rises_like ps qs same keys

same_back : {A B : Type 0} (ps : List (List ℕ × A)) (qs : List (List ℕ × B)) → SameKeys ps qs → SameKeys qs ps
same_back [] [] same = tt
same_back [] (q ∷ qs) same = absurd same
same_back (p ∷ ps) [] same = absurd same
same_back (p ∷ ps) (q ∷ qs) same = (sym same.0, same_back ps qs same.1)

module _ (rows : List Row) (below : Slot → Value → Type 0) (key : TypeNo) (value : Slot) where
  -- what a check asks of an entry
  abbrev pub Entry : List ℕ × Data → Type 0
  Entry e = IsUtf8 e.0 × RepresentsSome below rows (plainly key) (T.text e.0) × RepresentsSome below rows value e.1

  record PairsOf (ds : List (List ℕ × Data)) : Type 0 where
    pairs : Pairs
    same : SameKeys (pairs_list pairs) ds
    fit : AllByRecursion (λ p. IsUtf8 p.0 × RepresentsSome below rows (plainly key) (T.text p.0) × below value p.1) (pairs_list pairs)
    there : represented_pairs alone rows value pairs ≡ Some ds

  pairs_of_entries : (ds : List (List ℕ × Data)) → AllByRecursion Entry ds → PairsOf ds
  pairs_of_entries [] all = record { pairs = V.no_pairs; same = tt; fit = tt; there = refl }
  pairs_of_entries (d ∷ ds) all =
      let rest = pairs_of_entries ds all.1 in
      record {
        pairs = V.pair d.0 all.0.2.0 rest.pairs;
        same = (refl, rest.same);
        fit = ((all.0.0, all.0.1, all.0.2.1), rest.fit);
        there = ap (λ o. cons_both (option_map {U = List ℕ × Data} (λ c. (d.0, c)) o) (represented_pairs alone rows value rest.pairs)) all.0.2.2 ∙ ap (cons_both (Some d)) rest.there;
      }

  entries_of_pairs : (ps : Pairs) (ds : List (List ℕ × Data)) → AllByRecursion (λ p. IsUtf8 p.0 × RepresentsSome below rows (plainly key) (T.text p.0) × below value p.1) (pairs_list ps)
      → represented_pairs alone rows value ps ≡ Some ds → AllByRecursion Entry ds × SameKeys (pairs_list ps) ds
  entries_of_pairs V.no_pairs ds fit e = subst (λ xs. AllByRecursion Entry xs × SameKeys (pairs_list V.no_pairs) xs) (same_Some [] ds e) (tt, tt)
  entries_of_pairs (V.pair k v ps) ds fit e =
      let b = both_from (option_map {U = List ℕ × Data} (λ c. (k, c)) (represented alone rows value v)) (represented_pairs alone rows value ps) ds e in
      let x = map_from {B = List ℕ × Data} (λ c. (k, c)) (represented alone rows value v) b.item b.first in
      let rest = entries_of_pairs ps b.items fit.1 b.rest in
      let P : List (List ℕ × Data) → Type 0 = λ xs. AllByRecursion Entry xs × SameKeys (pairs_list (V.pair k v ps)) xs in
      subst P (ap (λ p. p ∷ b.items) (same_Some (k, x.item) b.item x.made) ∙ b.all)
      (((fit.0.0, fit.0.1, (v, fit.0.2, x.there)), rest.0), (refl, rest.1))

  map_fits : (form : MapForm) (ps : List (List ℕ × Value)) → EntriesFit below rows key value form ps → MapFits below rows key value form (L.map ps)
  map_fits MF.Map ps fit = fit
  map_fits MF.ListPairs ps fit = fit
  map_fits (MF.StringPairs inner entry) ps fit = fit
  map_fits (MF.Hamt p) ps fit = inl fit

  pub map_fitted : (form : MapForm) (ps : List (List ℕ × Value)) → MapFits below rows key value form (L.map ps) → EntriesFit below rows key value form ps
  map_fitted MF.Map ps fit = fit
  map_fitted MF.ListPairs ps fit = fit
  map_fitted (MF.StringPairs inner entry) ps fit = fit
  map_fitted (MF.Hamt p) ps (inl fit) = fit
  map_fitted (MF.Hamt p) ps (inr fit) = absurd fit

module _ (rows : List Row) (clear : IsClear rows) (room : ℕ) (s : Slot) (key : TypeNo) (key_at : ℕ) (value : Slot) (place : ℕ) (form : MapForm)
    (is : form_of rows s ≡ Some (D.Map key key_at value place form)) (ds : List (List ℕ × Data)) (t : Data) (made : map_form alone form (L.map ds) ≡ Some t) where
  abbrev Below : Slot → Value → Type 0
  Below = FitsPast rows room (map_levels form - 1)

  -- a map has a front that fits where its keys stand in order and its entries have
  pub map_shows : map_levels form ≤ suc room → AreKeys form ds → AllByRecursion (Entry rows Below key value) ds → RepresentsSome (FitsPast rows (suc room) zero) rows s t
  unfolding FitsPast
  map_shows enough keys all =
      let x = pairs_of_entries rows Below key value ds all in
      let fit : EntriesFit Below rows key value form (pairs_list x.pairs) = (keys_like form ds (pairs_list x.pairs) (same_back (pairs_list x.pairs) ds x.same) keys, x.fit) in (
        V.map x.pairs,
        subst (λ o. IsSomeAnd o (FormFits rows (suc room) (FitsPast rows room) (V.map x.pairs))) (sym is) (enough, map_fits rows Below key value form (pairs_list x.pairs) fit),
        ap (λ o. layered alone o (option_map L.map (pairs_data alone rows (element_of o) x.pairs))) is
            ∙ ap (λ o. option_and_then (composed alone (D.Map key key_at value place form)) (option_map L.map o)) x.there ∙ made,
      )

  -- and only there
  pub map_shown : IsSafe rows s → RepresentsSome (FitsPast rows (suc room) zero) rows s t → (map_levels form ≤ suc room) × AreKeys form ds × AllByRecursion (Entry rows Below key value) ds
  unfolding FitsPast
  map_shown safe (v, fits, shows) = by v fits (way_of alone rows s v t shows) where
    by : (v : Value) → ValueFits rows (suc room) (FitsPast rows room) s v → Way alone rows s v t → (map_levels form ≤ suc room) × AreKeys form ds × AllByRecursion (Entry rows Below key value) ds
    by v fits (as_null v_null nullable is_null) =
        absurd (unsafe rows s safe nullable (D.Map key key_at value place form) is (composed_kind alone alone_kind (D.Map key key_at value place form) (L.map ds) T.null (made ∙ ap Some is_null)))
    by v fits (as_layer d l known there composes) =
        let own : TypeDef = D.Map key key_at value place form in
        let same : own ≡ d = same_Some own d (sym is ∙ known) in
        let layer : l ≡ L.map ds = composed_tells alone alone_tells own (clear.types (base rows s.ty.0) own is) l (L.map ds) t (ap (λ c. composed alone c l) same ∙ composes) made in
        let x = map_value alone rows (Some own) v ds (ap (λ c. map_in (layer_data alone rows (Some c) v)) same ∙ ap map_in there ∙ ap (λ c. map_in (Some c)) layer) in
        let P : Value → Type 0 = λ w. ValueFits rows (suc room) (FitsPast rows room) s w in
        let Q : Option TypeDef → Type 0 = λ o. IsSomeAnd o (FormFits rows (suc room) (FitsPast rows room) (V.map x.items)) in
        let f : FormFits rows (suc room) (FitsPast rows room) (V.map x.items) own = subst Q is (subst P x.is fits) in
        let fit : EntriesFit Below rows key value form (pairs_list x.items) = map_fitted rows Below key value form (pairs_list x.items) f.1 in
        let all = entries_of_pairs rows Below key value x.items ds fit.1 x.there in
        (f.0, keys_like form (pairs_list x.items) ds all.1 fit.0, all.0)
