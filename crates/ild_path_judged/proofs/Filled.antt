-- HAMTs on the way of an edit keep their tries: their keys stay. So does one of which an entry goes.
use Rattle.std.proofs.Common.{◌≡◌, ℕ, List, [], ◌∷◌, Bool, false, Option, Some, None, refl, ap, sym, subst, ◌∙◌}
use Rattle.std.specs.Prelude.{is_none, option_map, option_and_then}
use Rattle.std.specs.Option.{option_map_or}
use Rattle.ild_schema.proofs.Telling.{some_there}
use Rattle.ild_data.proofs.Options.{chain_some}
use Rattle.ild_data.specs.Data.{Data}
use Rattle.ild_data.specs.Key.{Rises, value_at, put, without}
use Rattle.ild_data.specs.Trie.{trie}
use Rattle.ild_schema.specs.declared.def.MapForm.{MapForm}
use Rattle.ild_schema.specs.declared.def.MapForm.TheVariants as MF
use Rattle.ild_schema.specs.declared.def.Member.{Member}
use Rattle.ild_schema.specs.declared.def.TypeDef.{TypeDef}
use Rattle.ild_schema.specs.declared.def.TypeDef.TheVariants as T
use Rattle.ild_schema.specs.declared.number.Slot.{Slot}
use Rattle.ild_schema.specs.declared.number.TypeNo.{TypeNo}
use Rattle.ild_schema.specs.declared.row.Row.{Row}
use Rattle.ild_schema.specs.Slots.{form_of}
use Rattle.ild_schema.specs.Value as V
use Rattle.ild_schema.specs.Value.{Value, pairs_of, optionals_of}
use Rattle.ild_typed.specs.At.{InSlot}
use Rattle.ild_data.specs.declared.hamt_shape.HamtShape.{HamtShape}
use Rattle.ild_typed.specs.Hamt.{whole}
use Rattle.ild_typed.specs.Holder.{Holder, fields, member, entries, elements, any_entries, any_elements, nothing, is_paired, holder_of, value_of}
use Rattle.ild_typed.specs.Judged.{map_exhausts, is_exhausted}
use Rattle.ild_typed.specs.Layer as L
use Rattle.ild_typed.specs.OfType.{TestsKeys}
use Rattle.ild_typed.specs.Represented.{layered, represented, represented_pairs}
use Rattle.ild_typed.specs.Schema.{IsSchema}
use Rattle.ild_typed.specs.Segment.{part, set_part, set_field, put_by, member_named}
use Rattle.ild_typed.specs.Strings.{cons_both}
use Rattle.ild_value_meaning.proofs.ByParts.{AreInOrder}
use Rattle.ild_path_edits.specs.Along.{LayerPasses}
use Rattle.ild_path_edits.specs.Table.{delete_part}
use Rattle.ild_path_edits.proofs.Entries.{put_by-there}
use Rattle.ild_path_edits.proofs.HeldTyped.{with_slot}
use Rattle.ild_path_changes.proofs.Datas.{each_pair, data_of}
use Rattle.ild_path_changes.proofs.Each.{each_pair-at, each_pair-put, rises_each}
use Rattle.ild_path_changes.proofs.Last.{each_pair-without}
use Rattle.ild_path_changes.proofs.Represented.{each_pair-some, in_holders}
use Rattle.ild_path_judged.proofs.Last.{HeldBy}
use Rattle.ild_path_judged.proofs.Tries.{trie_put, trie_without, some_is}

in_rising : (paired : Bool) (ps : List (List ℕ × Value)) → paired ≡ false → AreInOrder paired ps → Rises ps
in_rising paired ps e h = subst (λ b. AreInOrder b ps) e h

-- what is no map exhausts nothing
abbrev pub IsNoMap : Value → Type 0
IsNoMap (V.map ps) = ⊥
IsNoMap v = Unit {0}

module _ (h : List ℕ → List ℕ) (rows : List Row) where
  abbrev rep : Slot → Value → Option Data
  rep = represented (whole h) rows

  abbrev test : Option TypeDef → Value → Bool
  test = is_exhausted h rows

  pub no_map : (F : Option TypeDef) (v : Value) → IsNoMap v → test F v ≡ false
  no_map None v e = refl
  no_map (Some (T.Map key key_at elem at form)) (V.map ps) e = absurd e
  no_map (Some (T.Map key key_at elem at form)) v e = refl
  no_map (Some d) v e = refl

  pub pairs_data : (elem : Slot) (xs : List (List ℕ × Value)) → represented_pairs (whole h) rows elem (pairs_of xs) ≡ each_pair (rep elem) xs
  pairs_data elem [] = refl
  pairs_data elem (x ∷ xs) = ap (cons_both (option_map (λ d. (x.0, d)) (rep elem x.1))) (pairs_data elem xs)

  -- a HAMT of these pairs
  abbrev exhausts_by : MapForm → Option (List (List ℕ × Data)) → Bool
  exhausts_by = map_exhausts h

  put_stays : (p : HamtShape) (elem : Slot) (s : List ℕ) (v c : Value) (xs : List (List ℕ × Value)) (es : List (List ℕ × Data)) → each_pair (rep elem) xs ≡ Some es → Rises es → value_at s xs ≡ Some v
      → exhausts_by (MF.Hamt p) (Some es) ≡ false → (o : Option (List (List ℕ × Data))) → each_pair (rep elem) (put s c xs) ≡ o → exhausts_by (MF.Hamt p) o ≡ false
  put_stays p elem s v c xs es e up there is None g = refl
  put_stays p elem s v c xs es e up there is (Some new) g =
      let d = each_pair-some (rep elem) s (put s c xs) new c g (put_by-there false s c xs) in
      let same : put s d.0 es ≡ new = same_some (sym (each_pair-put (rep elem) s c d.0 xs es e d.1) ∙ g) in
      let old = each_pair-some (rep elem) s xs es v e there in
      let found : value_at s es ≡ Some old.0 = each_pair-at (rep elem) xs es s e ∙ ap (option_and_then (rep elem)) there ∙ old.1 in
      subst (λ new. is_none (trie h p new 0) ≡ false) same (some_is (trie h p (put s d.0 es) 0) (trie_put h p es up (some_there (trie h p es 0) is) s d.0 old.0 found))
    where
      same_some : {X : Type 0} {x y : X} → ◌≡◌ {A = Option X} (Some x) (Some y) → x ≡ y
      same_some e = cc

  cut_stays : (p : HamtShape) (elem : Slot) (s : List ℕ) (xs : List (List ℕ × Value)) (es : List (List ℕ × Data)) → each_pair (rep elem) xs ≡ Some es → Rises es
      → exhausts_by (MF.Hamt p) (Some es) ≡ false → exhausts_by (MF.Hamt p) (each_pair (rep elem) (without s xs)) ≡ false
  cut_stays p elem s xs es e up is =
      ap (exhausts_by (MF.Hamt p)) (each_pair-without (rep elem) s xs es e) ∙ some_is (trie h p (without s es) 0) (trie_without h p es up (some_there (trie h p es 0) is) s)

  module _ (is_key : ℕ → List ℕ → Bool) (schema : IsSchema rows) (keys : TestsKeys rows is_key) where
    -- the data of the pairs that a holder of data has
    pairs_there : (slot : Slot) (v : Value) (d : Data) (key : ℕ) (elem : Slot) (paired : Bool) (ps : List (List ℕ × Value)) → rep slot v ≡ Some d → holder_of rows slot v ≡ entries key elem paired ps
        → (es : List (List ℕ × Data)) × (each_pair (rep elem) ps ≡ Some es)
    pairs_there slot v d key elem paired ps e k =
        let x = chain_some (λ es. layered (whole h) (form_of rows slot) (Some (L.map es))) (each_pair (rep elem) ps) d
        (ap (data_of (whole h) (form_of rows slot) rep slot) (sym k) ∙ sym (in_holders (whole h) rows slot v) ∙ e) in
        (x.0, x.1)

    -- in each form of maps
    by_form : (F : Option TypeDef) (k : TypeNo) (key_at : ℕ) (elem : Slot) (place : ℕ) (f : MapForm) (ps : List (List ℕ × Value)) → F ≡ Some (T.Map k key_at elem place f) → exhausts_by f (each_pair (rep elem) ps) ≡ false → test F (V.map (pairs_of ps)) ≡ false
    by_form F k key_at elem place f ps e g = ap (λ F. test F (V.map (pairs_of ps))) e ∙ ap (exhausts_by f) (pairs_data elem ps) ∙ g

    form_by : (F : Option TypeDef) (k : TypeNo) (key_at : ℕ) (elem : Slot) (place : ℕ) (f : MapForm) (ps : List (List ℕ × Value)) → F ≡ Some (T.Map k key_at elem place f) → test F (V.map (pairs_of ps)) ≡ false → exhausts_by f (each_pair (rep elem) ps) ≡ false
    form_by F k key_at elem place f ps e g = ap (exhausts_by f) (sym (pairs_data elem ps)) ∙ sym (ap (λ F. test F (V.map (pairs_of ps))) e) ∙ g

    set_in_form : (f : MapForm) (paired : Bool) (elem : Slot) (s : List ℕ) (v c : Value) (ps : List (List ℕ × Value)) (es : List (List ℕ × Data)) → paired ≡ is_paired f → (is_paired f ≡ false → Rises ps) → each_pair (rep elem) ps ≡ Some es
        → value_at s ps ≡ Some v → exhausts_by f (each_pair (rep elem) ps) ≡ false → exhausts_by f (each_pair (rep elem) (put_by paired s c ps)) ≡ false
    set_in_form MF.Map paired elem s v c ps es p up e there is = refl
    set_in_form MF.ListPairs paired elem s v c ps es p up e there is = refl
    set_in_form (MF.StringPairs inner entry) paired elem s v c ps es p up e there is = refl
    set_in_form (MF.Hamt shape) paired elem s v c ps es p up e there is =
        subst (λ b. exhausts_by (MF.Hamt shape) (each_pair (rep elem) (put_by b s c ps)) ≡ false) (sym p)
        (put_stays shape elem s v c ps es e (rises_each (rep elem) ps es e (up refl)) there (ap (exhausts_by (MF.Hamt shape)) (sym e) ∙ is) (each_pair (rep elem) (put s c ps)) refl)

    cut_in_form : (f : MapForm) (elem : Slot) (s : List ℕ) (ps : List (List ℕ × Value)) (es : List (List ℕ × Data)) → (is_paired f ≡ false → Rises ps) → each_pair (rep elem) ps ≡ Some es
        → exhausts_by f (each_pair (rep elem) ps) ≡ false → exhausts_by f (each_pair (rep elem) (without s ps)) ≡ false
    cut_in_form MF.Map elem s ps es up e is = refl
    cut_in_form MF.ListPairs elem s ps es up e is = refl
    cut_in_form (MF.StringPairs inner entry) elem s ps es up e is = refl
    cut_in_form (MF.Hamt shape) elem s ps es up e is = cut_stays shape elem s ps es e (rises_each (rep elem) ps es e (up refl)) (ap (exhausts_by (MF.Hamt shape)) (sym e) ∙ is)

    other_member : (slot : Slot) (ms : List Member) (n : ℕ) (v c : Value) (o : Option (ℕ × Member)) → LayerPasses test rows slot (option_map_or (λ (p : ℕ × Member). member ms p.0 c) o (member ms n v))
    other_member slot ms n v c None = no_map (form_of rows slot) (V.union n v) tt
    other_member slot ms n v c (Some p) = no_map (form_of rows slot) (V.union p.0 c) tt

    pub steady_full : (slot : Slot) (v : Value) (d : Data) (k : Holder) (s : List ℕ) (q : InSlot) (c : Value) → rep slot v ≡ Some d → holder_of rows slot v ≡ k → HeldBy rows is_key schema keys slot k → LayerPasses test rows slot k → part k s ≡ Some q
        → LayerPasses test rows slot (set_part k s c)
    steady_full slot v d (fields fs os) s q c tree same t o e = no_map (form_of rows slot) (V.struct (optionals_of (set_field s (Some c) fs os))) tt
    steady_full slot v d (member ms n u) s q c tree same t o e = other_member slot ms n u c (member_named s ms)
    steady_full slot v d (entries key elem paired ps) s q c tree same t o e =
        let x = with_slot elem (value_at s ps) q e in
        let es = pairs_there slot v d key elem paired ps tree same in
        by_form (form_of rows slot) t.0 t.1 elem t.2 t.3 (put_by paired s c ps) t.4
        (set_in_form t.3 paired elem s x.0 c ps es.0 t.6 (λ g. in_rising paired ps (t.6 ∙ g) t.8) es.1 x.1 (form_by (form_of rows slot) t.0 t.1 elem t.2 t.3 ps t.4 o))
    steady_full slot v d (elements elem vs) s q c tree same t o e = no_map (form_of rows slot) (value_of (set_part (elements elem vs) s c)) tt
    steady_full slot v d (any_entries ms) s q c tree same t o e = tt
    steady_full slot v d (any_elements ds) s q c tree same t o e = tt
    steady_full slot v d (nothing u) s q c tree same t o e = tt

    pub gone_full : (slot : Slot) (v : Value) (d : Data) (k : Holder) (s : List ℕ) → rep slot v ≡ Some d → holder_of rows slot v ≡ k → HeldBy rows is_key schema keys slot k → LayerPasses test rows slot k → LayerPasses test rows slot (delete_part k s)
    gone_full slot v d (fields fs os) s tree same t o = no_map (form_of rows slot) (V.struct (optionals_of (set_field s None fs os))) tt
    gone_full slot v d (member ms n u) s tree same t o = o
    gone_full slot v d (entries key elem paired ps) s tree same t o =
        let es = pairs_there slot v d key elem paired ps tree same in
        by_form (form_of rows slot) t.0 t.1 elem t.2 t.3 (without s ps) t.4
        (cut_in_form t.3 elem s ps es.0 (λ g. in_rising paired ps (t.6 ∙ g) t.8) es.1 (form_by (form_of rows slot) t.0 t.1 elem t.2 t.3 ps t.4 o))
    gone_full slot v d (elements elem vs) s tree same t o = no_map (form_of rows slot) (value_of (delete_part (elements elem vs) s)) tt
    gone_full slot v d (any_entries ms) s tree same t o = tt
    gone_full slot v d (any_elements ds) s tree same t o = tt
    gone_full slot v d (nothing u) s tree same t o = tt
