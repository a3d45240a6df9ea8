-- The places of a value by two tables that are alike, and those of the struct over it.
use Rattle.std.proofs.Common.{◌≡◌, ℕ, ◌<◌, List, [], ◌∷◌, ◌++◌, length, map, append-nil, Bool, true, false, not, cond, refl, ap, ap₂, sym, ◌∙◌}
use Rattle.std.specs.List.{AllByRecursion, filter}
use Rattle.std.specs.Option.{option_map_or}
use Rattle.std.proofs.lemmas.List.{map-append}
use Rattle.std.proofs.lemmas.List.Elements.{filter-append}
use Rattle.ild_data.specs.Key.{same_text}
use Rattle.ild_data.specs.Spell.{cid_of, id_of}
use Rattle.ild_schema.specs.declared.number.Slot.{Slot}
use Rattle.ild_schema.specs.declared.number.TypeNo.{TypeNo}
use Rattle.ild_schema.specs.declared.def.Field.{Field}
use Rattle.ild_schema.specs.declared.row.Row.{Row}
use Rattle.ild_schema.specs.Slots.{form_of, plainly}
use Rattle.ild_schema.specs.Table.{IsTable}
use Rattle.ild_schema.specs.Value as V
use Rattle.ild_schema.specs.Value.{Value, Values, Pairs, Optionals}
use Rattle.ild_typed.specs.Hamt.{whole}
use Rattle.ild_typed.specs.Represented.{represented_pairs}
use Rattle.ild_typed.specs.Slots.{element_of, fields_of, member_of}
use Rattle.ild_typed.proofs.Index.{own_text}
use Rattle.ild_typed_places.specs.Places.{Place, Places, children_at, each_place, joined, leaves, map_places, nowhere, place, places_in, places_in_fields, places_in_pairs, places_in_values, tops}
use Rattle.ild_typed_places.proofs.Linked.{each_joined}
use Rattle.ild_named.specs.Named.{schema_block}
use Rattle.ild_named_type.specs.Root.{named_rows, root_type}
use Rattle.ild_named_type.proofs.Last.{meant_last}
use Rattle.ild_named_law.specs.Law.{rooted}
use Rattle.ild_named_law.proofs.Alike.{AreAlike, low_fields, low_form, low_member}
use Rattle.ild_named_law.proofs.Known.{alike_longer}
use Rattle.ild_named_law.proofs.Standing.{element_low, form_same, or_same, pairs_same}
use Rattle.ild_named_scripts.specs.Children.{but_for}

joined_nowhere : (ps : Places) → joined ps nowhere ≡ ps
joined_nowhere nowhere = refl
joined_nowhere (place b beneath ps) = ap (λ qs. place b beneath qs) (joined_nowhere ps)

tops_joined : (ps qs : Places) → tops (joined ps qs) ≡ tops ps ++ tops qs
tops_joined nowhere qs = refl
tops_joined (place b beneath ps) qs = ap (λ bs. b ∷ bs) (tops_joined ps qs)

-- ---- by two tables

module _ (count : ℕ) (others rows : List Row) (alike : AreAlike count others rows) (h : List ℕ → List ℕ) where
  mutual
    pub places_same : (s : Slot) (v : Value) → s.ty.0 < count → places_in h others s v ≡ places_in h rows s v
    places_same s (V.list vs) low =
        ap (λ o. option_map_or (λ u. places_in_values h others u vs) (element_of o) nowhere) (form_same count others rows alike s low)
        ∙ or_same (element_of (form_of rows s)) (λ u. places_in_values h others u vs) (λ u. places_in_values h rows u vs) nowhere (λ u e. value_places_same u vs (element_low count others rows alike s u low e))
    places_same s (V.map ps) low =
        ap (λ o. option_map_or (λ u. map_places h o (represented_pairs (whole h) others u ps) (places_in_pairs h others u ps)) (element_of o) nowhere) (form_same count others rows alike s low)
        ∙ or_same (element_of (form_of rows s)) (λ u. map_places h (form_of rows s) (represented_pairs (whole h) others u ps) (places_in_pairs h others u ps))
        (λ u. map_places h (form_of rows s) (represented_pairs (whole h) rows u ps) (places_in_pairs h rows u ps)) nowhere
        (λ u e. ap₂ (λ es qs. map_places h (form_of rows s) es qs) (pairs_same count others rows alike (whole h) u ps (element_low count others rows alike s u low e))
        (pair_places_same u ps (element_low count others rows alike s u low e)))
    places_same s (V.struct os) low =
        ap (λ o. places_in_fields h others (fields_of o) os) (form_same count others rows alike s low)
        ∙ field_places_same (fields_of (form_of rows s)) os (low_fields count (form_of rows s) (low_form count others rows alike s low))
    places_same s (V.union n v) low =
        ap (λ o. option_map_or (λ u. places_in h others u v) (member_of o n) nowhere) (form_same count others rows alike s low)
        ∙ or_same (member_of (form_of rows s) n) (λ u. places_in h others u v) (λ u. places_in h rows u v) nowhere
        (λ u e. places_same u v (low_member count (form_of rows s) n u (low_form count others rows alike s low) e))
    places_same s v low = refl

    value_places_same : (s : Slot) (vs : Values) → s.ty.0 < count → places_in_values h others s vs ≡ places_in_values h rows s vs
    value_places_same s V.no_values low = refl
    value_places_same s (V.value v vs) low = ap₂ (λ a b. joined a b) (places_same s v low) (value_places_same s vs low)

    pair_places_same : (s : Slot) (ps : Pairs) → s.ty.0 < count → places_in_pairs h others s ps ≡ places_in_pairs h rows s ps
    pair_places_same s V.no_pairs low = refl
    pair_places_same s (V.pair k v ps) low = ap₂ (λ a b. (k, a) ∷ b) (places_same s v low) (pair_places_same s ps low)

    field_places_same : (fs : List Field) (os : Optionals) → AllByRecursion (λ (f : Field). f.slot.ty.0 < count) fs → places_in_fields h others fs os ≡ places_in_fields h rows fs os
    field_places_same fs V.no_optionals low = refl
    field_places_same [] (V.absent os) low = refl
    field_places_same [] (V.present v os) low = refl
    field_places_same (f ∷ fs) (V.absent os) low = field_places_same fs os low.1
    field_places_same (f ∷ fs) (V.present v os) low = ap₂ (λ a b. joined a b) (places_same f.slot v low.0) (field_places_same fs os low.1)

-- ---- of the struct

module _ (h : List ℕ → List ℕ) (rows : List Row) (n : TypeNo) (table : IsTable rows) (low : n.0 < length rows) (name source : List ℕ) where
  abbrev longer : List Row
  longer = named_rows rows n

  abbrev fields : Value → Optionals
  fields v = V.present (V.text name) (V.present v (V.present (V.link (cid_of (id_of (schema_block source)))) V.no_optionals))

  pub root_places : (v : Value) → places_in h longer (plainly (root_type rows)) (rooted name source v) ≡ places_in h rows (plainly n) v
  root_places v =
      ap (λ o. places_in_fields h longer (fields_of o) (fields v)) (meant_last rows n)
      ∙ joined_nowhere (places_in h longer (plainly n) v) ∙ places_same (length rows) longer rows (alike_longer rows table n) h (plainly n) v low

-- ---- children, but for one block that stands beside the value

module _ (root text b : List ℕ) (apart : same_text b text ≡ false) where
  abbrev ids : Place → List (List ℕ)
  ids q = map id_of (tops q.1)

  abbrev kept : List (List ℕ) → List (List ℕ)
  kept is = but_for (id_of text) is

  abbrev at_block : List Place → List Place
  at_block qs = filter (λ q. same_text b q.0) qs

  abbrev left : List Place → List (List (List ℕ))
  left qs = map kept (map ids (at_block qs))

  abbrev beside : Places
  beside = place text nowhere nowhere

  last_dropped : (qs : List Place) → at_block (qs ++ (text, nowhere) ∷ []) ≡ at_block qs
  last_dropped qs =
      filter-append (λ (q : Place). same_text b q.0) qs ((text, nowhere) ∷ [])
      ∙ ap (λ (t : Bool). at_block qs ++ cond t ((text, nowhere) ∷ []) []) apart ∙ append-nil (at_block qs)

  id_dropped : (is : List (List ℕ)) → kept (is ++ id_of text ∷ []) ≡ kept is
  id_dropped is =
      filter-append (λ (i : List ℕ). not (same_text (id_of text) i)) is (id_of text ∷ [])
      ∙ ap (λ (t : Bool). kept is ++ cond (not t) (id_of text ∷ []) []) (own_text (id_of text)) ∙ append-nil (kept is)

  root_kept : (ps : Places) → kept (map id_of (tops (joined ps beside))) ≡ kept (map id_of (tops ps))
  root_kept ps = ap (λ bs. kept (map id_of bs)) (tops_joined ps beside) ∙ ap kept (map-append id_of (tops ps) (text ∷ [])) ∙ id_dropped (map id_of (tops ps))

  rest_kept : (ps : Places) → left (each_place (joined ps beside) ++ []) ≡ left (each_place ps ++ [])
  rest_kept ps =
      ap left (append-nil (each_place (joined ps beside)) ∙ each_joined ps beside)
      ∙ ap (λ qs. map kept (map ids qs)) (last_dropped (each_place ps)) ∙ ap left (sym (append-nil (each_place ps)))

  pub children_kept : (ps : Places) → map kept (children_at (place root (joined ps (leaves (text ∷ []))) nowhere) b) ≡ map kept (children_at (place root ps nowhere) b)
  children_kept ps = by (same_text b root) (root_kept ps) (rest_kept ps)
    where
      by : (t : Bool) → kept (map id_of (tops (joined ps beside))) ≡ kept (map id_of (tops ps)) → left (each_place (joined ps beside) ++ []) ≡ left (each_place ps ++ [])
          → map kept (map ids (cond t ((root, joined ps beside) ∷ at_block (each_place (joined ps beside) ++ [])) (at_block (each_place (joined ps beside) ++ []))))
          ≡ map kept (map ids (cond t ((root, ps) ∷ at_block (each_place ps ++ [])) (at_block (each_place ps ++ []))))
      by true top rest = ap₂ (λ i is. i ∷ is) top rest
      by false top rest = rest

pub bare_places : (root : List ℕ) (ps : Places) → place root (joined ps (leaves [])) nowhere ≡ place root ps nowhere
bare_places root ps = ap (λ qs. place root qs nowhere) (joined_nowhere ps)
