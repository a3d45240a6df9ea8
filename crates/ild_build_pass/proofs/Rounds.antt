-- The rounds of the loops that write parts: what is still to come before the first, in one, where a part is passed over, and behind the last.
use Rattle.std.proofs.Common.{◌≡◌, ℕ, ◌+◌, ◌<◌, ◌≤◌, List, [], ◌++◌, length, drop, get_or, Bool, true, false, None, Some, Option, slice_get, sym, ap, ◌∙◌, subst}
use Rattle.ild_data.specs.Spell.{head}
use Rattle.ild_schema.specs.Marks.{field_text}
use Rattle.ild_schema.specs.Value.{Value}
use Rattle.ild_schema.specs.declared.number.Slot.{Slot}
use Rattle.ild_schema.specs.declared.def.Field.{Field}
use Rattle.ild_schema.specs.declared.row.Row.{Row}
use Rattle.ild_typed.specs.Hamt.{whole}
use Rattle.ild_build.specs.PartAt.{field_at}
use Rattle.ild_build.proofs.Turns.{got}
use Rattle.ild_build_leaf.specs.Kept.{count_present, count_written, kept_at}
use Rattle.ild_build_leaf.specs.Made.{entries_major, made}
use Rattle.ild_build_leaf.proofs.Turns.{kept_is}
use Rattle.ild_build_entries.specs.declared.nodes.Nodes.{Nodes}
use Rattle.ild_build_pass.specs.inside.Made.{both, counted, entries_made, entry_made, fields_made, items_made, tuple_made}
use Rattle.ild_build_pass.specs.inside.Places.{named, places_made, written_made, written_of}
use Rattle.ild_build_pass.specs.Weights.{entries_weight, fields_weight, items_weight, places_weight, weigh}
use Rattle.ild_build_pass.specs.Writes.{Writes}
use Rattle.ild_build_pass.proofs.Flow.{ToGo, begins, ends, goes, skips, starts}
use Rattle.ild_build_pass.proofs.Kept.{kept, no_field, none_left, not_kept, passes, takes}
use Rattle.ild_build_pass.proofs.Loops.{place_entry, item_turn, items_end, entry_turn, entries_end, tuple_turn, tuple_skip, tuple_end, fields_kept, fields_passed, fields_end}
use Rattle.ild_build_pass.proofs.Weighing.{entries_weigh, entry_weight, field_passed, field_place, field_skip, field_weight, fields_weigh, item_weight, items_weigh}

module _ (h : List ℕ → List ℕ) (rows : List Row) (old : List ℕ) (was : Nodes) where
  -- ---- elements

  abbrev pub ItemsToGo : Slot → List Value → ℕ → List ℕ → Nodes → Type 0
  ItemsToGo u vs i now then =
      ToGo h rows (counted 4 (length vs) (items_made (whole h) rows u vs)) (items_made (whole h) rows u (drop i vs)) (λ μ. items_weight μ rows u vs) (λ μ. items_weight μ rows u (drop i vs)) old now was then

  module _ (u : Slot) (vs : List Value) where
    pub items_begin : (n : ℕ) (new : List ℕ) → new ≡ old ++ head 4 n → n ≡ length vs → ItemsToGo u vs 0 new was
    items_begin n new e is = starts h rows (items_made (whole h) rows u vs) (λ μ. items_weight μ rows u vs) old new (head 4 (length vs)) was (e ∙ ap (λ k. old ++ head 4 k) is)

    pub items_go : (i : ℕ) (v : Value) → Some v ≡ slice_get vs i → (now new : List ℕ) (then after : Nodes) → Writes h rows (made (whole h) rows u v) (λ μ. weigh μ rows u v) now new then after
        → ItemsToGo u vs i now then → ItemsToGo u vs (i + 1) new after
    items_go i v at now new then after =
        goes h rows (counted 4 (length vs) (items_made (whole h) rows u vs)) (items_made (whole h) rows u (drop i vs)) (made (whole h) rows u v) (items_made (whole h) rows u (drop (i + 1) vs))
        (λ μ. items_weight μ rows u vs) (λ μ. items_weight μ rows u (drop i vs)) (λ μ. weigh μ rows u v) (λ μ. items_weight μ rows u (drop (i + 1) vs)) old now new was then after
        (item_turn h rows u vs i v (sym at)) (λ μ. item_weight rows μ u vs i v (sym at))

    pub items_over : (i : ℕ) → length vs ≤ i → (now : List ℕ) (then : Nodes) → ItemsToGo u vs i now then → Writes h rows (counted 4 (length vs) (items_made (whole h) rows u vs)) (λ μ. items_weight μ rows u vs) old now was then
    items_over i all now then =
        ends h rows (counted 4 (length vs) (items_made (whole h) rows u vs)) (items_made (whole h) rows u (drop i vs)) (λ μ. items_weight μ rows u vs) (λ μ. items_weight μ rows u (drop i vs)) old now was then
        (items_end h rows u vs i all) (λ μ. items_weigh rows μ u vs i all)

  -- ---- entries

  abbrev pub EntriesToGo : Bool → Slot → List (List ℕ × Value) → ℕ → List ℕ → Nodes → Type 0
  EntriesToGo paired u ps i now then =
      ToGo h rows (counted (entries_major paired) (length ps) (entries_made (whole h) rows paired u ps)) (entries_made (whole h) rows paired u (drop i ps)) (λ μ. entries_weight μ rows u ps) (λ μ. entries_weight μ rows u (drop i ps)) old now was then

  module _ (paired : Bool) (u : Slot) (ps : List (List ℕ × Value)) where
    pub entries_begin : (n : ℕ) (new : List ℕ) → new ≡ old ++ head (entries_major paired) n → n ≡ length ps → EntriesToGo paired u ps 0 new was
    entries_begin n new e is =
        starts h rows (entries_made (whole h) rows paired u ps) (λ μ. entries_weight μ rows u ps) old new (head (entries_major paired) (length ps)) was (e ∙ ap (λ k. old ++ head (entries_major paired) k) is)

    pub entries_go : (i : ℕ) (k : List ℕ) (v : Value) → slice_get ps i ≡ Some (k, v) → (now new : List ℕ) (then after : Nodes)
        → Writes h rows (entry_made (whole h) rows paired k u v) (λ μ. weigh μ rows u v) now new then after → EntriesToGo paired u ps i now then → EntriesToGo paired u ps (i + 1) new after
    entries_go i k v at now new then after =
        goes h rows (counted (entries_major paired) (length ps) (entries_made (whole h) rows paired u ps)) (entries_made (whole h) rows paired u (drop i ps)) (entry_made (whole h) rows paired k u v)
        (entries_made (whole h) rows paired u (drop (i + 1) ps)) (λ μ. entries_weight μ rows u ps) (λ μ. entries_weight μ rows u (drop i ps)) (λ μ. weigh μ rows u v) (λ μ. entries_weight μ rows u (drop (i + 1) ps))
        old now new was then after (entry_turn h rows paired u ps i k v at) (λ μ. entry_weight rows μ u ps i k v at)

    pub entries_over : (i : ℕ) → length ps ≤ i → (now : List ℕ) (then : Nodes) → EntriesToGo paired u ps i now then
        → Writes h rows (counted (entries_major paired) (length ps) (entries_made (whole h) rows paired u ps)) (λ μ. entries_weight μ rows u ps) old now was then
    entries_over i all now then =
        ends h rows (counted (entries_major paired) (length ps) (entries_made (whole h) rows paired u ps)) (entries_made (whole h) rows paired u (drop i ps)) (λ μ. entries_weight μ rows u ps)
        (λ μ. entries_weight μ rows u (drop i ps)) old now was then (entries_end h rows paired u ps i all) (λ μ. entries_weigh rows μ u ps i all)

  -- ---- fields in the order of declaration

  abbrev pub TupleToGo : List Field → List (Option Value) → ℕ → List ℕ → Nodes → Type 0
  TupleToGo fs os i now then =
      ToGo h rows (counted 4 (count_present os) (tuple_made (whole h) rows fs os)) (tuple_made (whole h) rows (drop i fs) (drop i os)) (λ μ. fields_weight μ rows fs os) (λ μ. fields_weight μ rows (drop i fs) (drop i os)) old now was then

  abbrev pub FieldsToGo : List Field → List (Option Value) → ℕ → List ℕ → Nodes → Type 0
  FieldsToGo fs os i now then =
      ToGo h rows (counted 4 (count_written fs os) (fields_made (whole h) rows true fs os)) (fields_made (whole h) rows true (drop i fs) (drop i os)) (λ μ. fields_weight μ rows fs os)
      (λ μ. fields_weight μ rows (drop i fs) (drop i os)) old now was then

  module _ (fs : List Field) (os : List (Option Value)) where
    pub tuple_begin : (n : ℕ) (new : List ℕ) → new ≡ old ++ head 4 n → n ≡ count_present os → TupleToGo fs os 0 new was
    tuple_begin n new e is = starts h rows (tuple_made (whole h) rows fs os) (λ μ. fields_weight μ rows fs os) old new (head 4 (count_present os)) was (e ∙ ap (λ k. old ++ head 4 k) is)

    pub fields_begin : (n : ℕ) (new : List ℕ) → new ≡ old ++ head 4 n → n ≡ count_written fs os → FieldsToGo fs os 0 new was
    fields_begin n new e is = starts h rows (fields_made (whole h) rows true fs os) (λ μ. fields_weight μ rows fs os) old new (head 4 (count_written fs os)) was (e ∙ ap (λ k. old ++ head 4 k) is)

    -- of the fields as a loop goes over them
    module _ (xs : List Field) (same : xs ≡ fs) (i : ℕ) where
      module _ (f : Field) (low : i < length xs) (item : f ≡ get_or xs i f) (now : List ℕ) (then : Nodes) where
        pub tuple_pass : None ≡ field_at os i → TupleToGo fs os i now then → TupleToGo fs os (i + 1) now then
        tuple_pass none =
            let at = got xs fs i f same low item in
            skips h rows (counted 4 (count_present os) (tuple_made (whole h) rows fs os)) (tuple_made (whole h) rows (drop i fs) (drop i os)) (tuple_made (whole h) rows (drop (i + 1) fs) (drop (i + 1) os))
            (λ μ. fields_weight μ rows fs os) (λ μ. fields_weight μ rows (drop i fs) (drop i os)) (λ μ. fields_weight μ rows (drop (i + 1) fs) (drop (i + 1) os)) old now was then
            (tuple_skip h rows fs os i f at (sym none)) (λ μ. field_skip rows μ fs os i f at (sym none))

        pub tuple_go : (v : Value) → Some v ≡ field_at os i → (new : List ℕ) (after : Nodes) → Writes h rows (made (whole h) rows f.slot v) (λ μ. weigh μ rows f.slot v) now new then after
            → TupleToGo fs os i now then → TupleToGo fs os (i + 1) new after
        tuple_go v there new after =
            let at = got xs fs i f same low item in
            goes h rows (counted 4 (count_present os) (tuple_made (whole h) rows fs os)) (tuple_made (whole h) rows (drop i fs) (drop i os)) (made (whole h) rows f.slot v)
            (tuple_made (whole h) rows (drop (i + 1) fs) (drop (i + 1) os)) (λ μ. fields_weight μ rows fs os) (λ μ. fields_weight μ rows (drop i fs) (drop i os)) (λ μ. weigh μ rows f.slot v)
            (λ μ. fields_weight μ rows (drop (i + 1) fs) (drop (i + 1) os)) old now new was then after
            (tuple_turn h rows fs os i f v at (sym there)) (λ μ. field_weight rows μ fs os i f v at (sym there))

        pub fields_pass : None ≡ kept_at f os i → FieldsToGo fs os i now then → FieldsToGo fs os (i + 1) now then
        fields_pass none =
            let at = got xs fs i f same low item in
            skips h rows (counted 4 (count_written fs os) (fields_made (whole h) rows true fs os)) (fields_made (whole h) rows true (drop i fs) (drop i os)) (fields_made (whole h) rows true (drop (i + 1) fs) (drop (i + 1) os))
            (λ μ. fields_weight μ rows fs os) (λ μ. fields_weight μ rows (drop i fs) (drop i os)) (λ μ. fields_weight μ rows (drop (i + 1) fs) (drop (i + 1) os)) old now was then
            (fields_passed h rows fs os i f at (sym none)) (λ μ. field_passed rows μ fs os i f at (sym none))

        pub fields_go : (v : Value) (name : List ℕ) → Some v ≡ kept_at f os i → name ≡ field_text f → (new : List ℕ) (after : Nodes)
            → Writes h rows (entry_made (whole h) rows true name f.slot v) (λ μ. weigh μ rows f.slot v) now new then after → FieldsToGo fs os i now then → FieldsToGo fs os (i + 1) new after
        fields_go v name there called new after =
            let at = got xs fs i f same low item in
            goes h rows (counted 4 (count_written fs os) (fields_made (whole h) rows true fs os)) (fields_made (whole h) rows true (drop i fs) (drop i os)) (entry_made (whole h) rows true name f.slot v)
            (fields_made (whole h) rows true (drop (i + 1) fs) (drop (i + 1) os)) (λ μ. fields_weight μ rows fs os) (λ μ. fields_weight μ rows (drop i fs) (drop i os)) (λ μ. weigh μ rows f.slot v)
            (λ μ. fields_weight μ rows (drop (i + 1) fs) (drop (i + 1) os)) old now new was then after
            (fields_kept h rows fs os i f v name at (sym there) called) (λ μ. field_weight rows μ fs os i f v at (kept_is f os i v (sym there)).there)

      module _ (past : length xs ≤ i) (now : List ℕ) (then : Nodes) where
        all : length fs ≤ i
        all = subst (λ ys. length ys ≤ i) same past

        pub tuple_over : TupleToGo fs os i now then → Writes h rows (counted 4 (count_present os) (tuple_made (whole h) rows fs os)) (λ μ. fields_weight μ rows fs os) old now was then
        tuple_over =
            ends h rows (counted 4 (count_present os) (tuple_made (whole h) rows fs os)) (tuple_made (whole h) rows (drop i fs) (drop i os)) (λ μ. fields_weight μ rows fs os)
            (λ μ. fields_weight μ rows (drop i fs) (drop i os)) old now was then (tuple_end h rows fs os i all) (λ μ. fields_weigh rows μ fs os i all)

        pub fields_over : FieldsToGo fs os i now then → Writes h rows (counted 4 (count_written fs os) (fields_made (whole h) rows true fs os)) (λ μ. fields_weight μ rows fs os) old now was then
        fields_over =
            ends h rows (counted 4 (count_written fs os) (fields_made (whole h) rows true fs os)) (fields_made (whole h) rows true (drop i fs) (drop i os)) (λ μ. fields_weight μ rows fs os)
            (λ μ. fields_weight μ rows (drop i fs) (drop i os)) old now was then (fields_end h rows fs os i all) (λ μ. fields_weigh rows μ fs os i all)

  -- ---- fields at places in the key order

  abbrev pub PlacesToGo : List Field → List (Option Value) → List ℕ → ℕ → List ℕ → Nodes → Type 0
  PlacesToGo fs os ps i now then =
      ToGo h rows (written_made (whole h) rows fs os ps) (written_made (whole h) rows fs os (drop i ps)) (λ μ. places_weight μ rows fs os (written_of fs os ps)) (λ μ. places_weight μ rows fs os (written_of fs os (drop i ps))) old now was then

  module _ (fs : List Field) (os : List (Option Value)) (ps : List ℕ) where
    abbrev made_of : List ℕ → Option (List ℕ)
    made_of is = places_made (whole h) rows fs os [] (named fs [] is)

    pub places_begin : PlacesToGo fs os ps 0 old was
    places_begin = begins h rows (written_made (whole h) rows fs os ps) (λ μ. places_weight μ rows fs os (written_of fs os ps)) old was

    module _ (i : ℕ) (low : i < length ps) (now : List ℕ) (then : Nodes) where
      places_skip : written_of fs os (drop i ps) ≡ written_of fs os (drop (i + 1) ps) → PlacesToGo fs os ps i now then → PlacesToGo fs os ps (i + 1) now then
      places_skip same =
          skips h rows (written_made (whole h) rows fs os ps) (written_made (whole h) rows fs os (drop i ps)) (written_made (whole h) rows fs os (drop (i + 1) ps)) (λ μ. places_weight μ rows fs os (written_of fs os ps))
          (λ μ. places_weight μ rows fs os (written_of fs os (drop i ps))) (λ μ. places_weight μ rows fs os (written_of fs os (drop (i + 1) ps))) old now was then (ap made_of same) (λ μ. ap (places_weight μ rows fs os) same)

      -- no field stands there
      pub places_past : None ≡ slice_get fs (get_or ps i 0) → PlacesToGo fs os ps i now then → PlacesToGo fs os ps (i + 1) now then
      places_past none = places_skip (passes fs os ps i low (no_field fs os (get_or ps i 0) (sym none)))

      module _ (f : Field) (at : Some f ≡ slice_get fs (get_or ps i 0)) where
        pub places_pass : None ≡ kept_at f os (get_or ps i 0) → PlacesToGo fs os ps i now then → PlacesToGo fs os ps (i + 1) now then
        places_pass none = places_skip (passes fs os ps i low (not_kept fs os (get_or ps i 0) f (sym at) (sym none)))

        pub places_go : (v : Value) (name : List ℕ) → Some v ≡ kept_at f os (get_or ps i 0) → name ≡ field_text f → (new : List ℕ) (after : Nodes)
            → Writes h rows (entry_made (whole h) rows false name f.slot v) (λ μ. weigh μ rows f.slot v) now new then after → PlacesToGo fs os ps i now then → PlacesToGo fs os ps (i + 1) new after
        places_go v name kept_there called new after =
            let p = get_or ps i 0 in
            let there = (kept_is f os p v (sym kept_there)).there in
            let next = written_of fs os (drop (i + 1) ps) in
            let here = takes fs os ps i low (kept fs os p f v (sym at) (sym kept_there)) in
            goes h rows (written_made (whole h) rows fs os ps) (written_made (whole h) rows fs os (drop i ps)) (entry_made (whole h) rows false name f.slot v) (made_of next) (λ μ. places_weight μ rows fs os (written_of fs os ps))
            (λ μ. places_weight μ rows fs os (written_of fs os (drop i ps))) (λ μ. weigh μ rows f.slot v) (λ μ. places_weight μ rows fs os next) old now new was then after
            (ap made_of here ∙ ap (λ o. both o (made_of next)) (sym (place_entry h rows fs os [] [] p f v name (sym at) there called)))
            (λ μ. ap (places_weight μ rows fs os) here ∙ ap (λ n. n + places_weight μ rows fs os next) (field_place rows μ fs os p f v (sym at) there))

    pub places_over : (i : ℕ) → length ps ≤ i → (now : List ℕ) (then : Nodes) → PlacesToGo fs os ps i now then
        → Writes h rows (written_made (whole h) rows fs os ps) (λ μ. places_weight μ rows fs os (written_of fs os ps)) old now was then
    places_over i all now then =
        let last = none_left fs os ps i all in
        ends h rows (written_made (whole h) rows fs os ps) (written_made (whole h) rows fs os (drop i ps)) (λ μ. places_weight μ rows fs os (written_of fs os ps)) (λ μ. places_weight μ rows fs os (written_of fs os (drop i ps)))
        old now was then (ap made_of last) (λ μ. ap (places_weight μ rows fs os) last)
