-- Alike values have alike representations.
use Rattle.std.proofs.Common.{◌≡◌, ℕ, List, [], ◌∷◌, map, Option, Some, None, option_map, refl, sym, ap, ◌∙◌}
use Rattle.std.specs.Prelude.{option_and_then}
use Rattle.std.proofs.lemmas.Option.{same_Some, none-some}
use Rattle.ild_data.specs.Data.{Data}
use Rattle.ild_data_alike.specs.Blank.{blank, blank_link, blank_entry, blank_entries}
use Rattle.ild_schema.specs.Slots.{form_of}
use Rattle.ild_schema.specs.Value as V
use Rattle.ild_schema.specs.Value.{Value, Values, Pairs, Optionals}
use Rattle.ild_schema.specs.declared.def.Field.{Field}
use Rattle.ild_schema.specs.declared.def.TypeDef.{TypeDef}
use Rattle.ild_schema.specs.declared.number.Slot.{Slot}
use Rattle.ild_schema.specs.declared.row.Row.{Row}
use Rattle.ild_typed.specs.Hamt.{whole}
use Rattle.ild_typed.specs.Layer as L
use Rattle.ild_typed.specs.Layer.{Layer}
use Rattle.ild_typed.specs.Represented.{layered, represented, represented_values, represented_pairs, represented_fields}
use Rattle.ild_typed.specs.Slots.{element_of, fields_of, member_of}
use Rattle.ild_typed.specs.Strings.{cons_both}
use Rattle.ild_typed_alike.proofs.Fields.{blank_options}
use Rattle.ild_typed_alike.proofs.Forms.{blank_layer, makes_alike}
use Rattle.ild_typed_alike.proofs.Texts.{blank_twice, link_twice}
use Rattle.ild_typed_alike.specs.Blank.{blank_value, blank_values, blank_pairs, blank_optionals}

-- ---- what may be none

both_map : {A B C D : Type 0} (f : A → B) (k : A → C) (j : B → D) (o q : Option A) → ((a b : A) → k a ≡ k b → j (f a) ≡ j (f b)) → option_map k o ≡ option_map k q → option_map j (option_map f o) ≡ option_map j (option_map f q)
both_map f k j None None each same = refl
both_map f k j None (Some b) each same = absurd (none-some (k b) same)
both_map f k j (Some a) None each same = absurd (none-some (k a) (sym same))
both_map f k j (Some a) (Some b) each same = ap Some (each a b (same_Some (k a) (k b) same))

cons_alike : {A B : Type 0} (k : A → B) (a b : Option A) (xs ys : Option (List A)) → option_map k a ≡ option_map k b → option_map (map k) xs ≡ option_map (map k) ys → option_map (map k) (cons_both a xs) ≡ option_map (map k) (cons_both b ys)
cons_alike {A = A} k None None xs ys p q = refl
cons_alike {A = A} k None (Some b) xs ys p q = absurd (none-some (k b) p)
cons_alike {A = A} k (Some a) None xs ys p q = absurd (none-some (k a) (sym p))
cons_alike {A = A} k (Some a) (Some b) xs ys p q =
    both_map (λ zs. a ∷ zs) (map k) (map k) xs ys (λ us vs e. ap (λ zs. k a ∷ zs) e) q ∙ front (same_Some (k a) (k b) p) ys
  where
    front : k a ≡ k b → (ys : Option (List A)) → option_map (map k) (option_map (λ zs. a ∷ zs) ys) ≡ option_map (map k) (option_map (λ zs. b ∷ zs) ys)
    front e None = refl
    front e (Some ys) = ap (λ x. Some (x ∷ map k ys)) e

-- the same for each slot that there may be
at_slot : {A B : Type 0} (k : A → B) (F G : Slot → Option A) (o : Option Slot) → ((s : Slot) → option_map k (F s) ≡ option_map k (G s)) → option_map k (option_and_then F o) ≡ option_map k (option_and_then G o)
at_slot k F G None each = refl
at_slot k F G (Some s) each = each s

-- ---- layers

module _ (h : List ℕ → List ℕ) (rows : List Row) where
  layered_by : (d : TypeDef) (o q : Option (Layer Data)) → option_map blank_layer o ≡ option_map blank_layer q → option_map blank (layered (whole h) (Some d) o) ≡ option_map blank (layered (whole h) (Some d) q)
  layered_by d None None same = refl
  layered_by d None (Some m) same = absurd (none-some (blank_layer m) same)
  layered_by d (Some l) None same = absurd (none-some (blank_layer l) (sym same))
  layered_by d (Some l) (Some m) same = makes_alike h d l m (same_Some (blank_layer l) (blank_layer m) same)

  layered_alike : (d : Option TypeDef) (o q : Option (Layer Data)) → option_map blank_layer o ≡ option_map blank_layer q → option_map blank (layered (whole h) d o) ≡ option_map blank (layered (whole h) d q)
  layered_alike None o q same = refl
  layered_alike (Some d) o q same = layered_by d o q same

  abbrev In : Slot → Value → Option Data
  In s v = represented (whole h) rows s v

  mutual
    blank_represented : (s : Slot) (v : Value) → option_map blank (In s (blank_value v)) ≡ option_map blank (In s v)
    blank_represented s V.null = refl
    blank_represented s (V.boolean b) = refl
    blank_represented s (V.integer n) = refl
    blank_represented s (V.text t) = refl
    blank_represented s (V.bytes t) = refl
    blank_represented s (V.link t) = layered_alike (form_of rows s) (Some (L.link (blank_link t))) (Some (L.link t)) (ap (λ x. Some (L.link x)) (link_twice t))
    blank_represented s (V.any d) = layered_alike (form_of rows s) (Some (L.any (blank d))) (Some (L.any d)) (ap (λ x. Some (L.any x)) (blank_twice d))
    blank_represented s V.unit = refl
    blank_represented s (V.enum n) = refl
    blank_represented s (V.hamt d) = layered_alike (form_of rows s) (Some (L.hamt (blank d))) (Some (L.hamt d)) (ap (λ x. Some (L.hamt x)) (blank_twice d))
    blank_represented s (V.list vs) =
        layered_alike (form_of rows s) (option_map L.list (option_and_then (λ u. represented_values (whole h) rows u (blank_values vs)) (element_of (form_of rows s))))
        (option_map L.list (option_and_then (λ u. represented_values (whole h) rows u vs) (element_of (form_of rows s))))
        (both_map L.list (map blank) blank_layer (option_and_then (λ u. represented_values (whole h) rows u (blank_values vs)) (element_of (form_of rows s))) (option_and_then (λ u. represented_values (whole h) rows u vs) (element_of (form_of rows s))) (λ a b e. ap L.list e)
        (at_slot (map blank) (λ u. represented_values (whole h) rows u (blank_values vs)) (λ u. represented_values (whole h) rows u vs) (element_of (form_of rows s)) (λ u. values_represented u vs)))
    blank_represented s (V.map ps) =
        layered_alike (form_of rows s) (option_map L.map (option_and_then (λ u. represented_pairs (whole h) rows u (blank_pairs ps)) (element_of (form_of rows s))))
        (option_map L.map (option_and_then (λ u. represented_pairs (whole h) rows u ps) (element_of (form_of rows s))))
        (both_map L.map blank_entries blank_layer (option_and_then (λ u. represented_pairs (whole h) rows u (blank_pairs ps)) (element_of (form_of rows s))) (option_and_then (λ u. represented_pairs (whole h) rows u ps) (element_of (form_of rows s))) (λ a b e. ap L.map e)
        (at_slot blank_entries (λ u. represented_pairs (whole h) rows u (blank_pairs ps)) (λ u. represented_pairs (whole h) rows u ps) (element_of (form_of rows s)) (λ u. pairs_represented u ps)))
    blank_represented s (V.struct os) =
        layered_alike (form_of rows s) (option_map L.struct (represented_fields (whole h) rows (fields_of (form_of rows s)) (blank_optionals os))) (option_map L.struct (represented_fields (whole h) rows (fields_of (form_of rows s)) os))
        (both_map L.struct blank_options blank_layer (represented_fields (whole h) rows (fields_of (form_of rows s)) (blank_optionals os)) (represented_fields (whole h) rows (fields_of (form_of rows s)) os) (λ a b e. ap L.struct e)
        (fields_represented (fields_of (form_of rows s)) os))
    blank_represented s (V.union n v) =
        layered_alike (form_of rows s) (option_map (L.union n) (option_and_then (λ u. In u (blank_value v)) (member_of (form_of rows s) n))) (option_map (L.union n) (option_and_then (λ u. In u v) (member_of (form_of rows s) n)))
        (both_map (L.union n) blank blank_layer (option_and_then (λ u. In u (blank_value v)) (member_of (form_of rows s) n)) (option_and_then (λ u. In u v) (member_of (form_of rows s) n)) (λ a b e. ap (L.union n) e)
        (at_slot blank (λ u. In u (blank_value v)) (λ u. In u v) (member_of (form_of rows s) n) (λ u. blank_represented u v)))

    values_represented : (s : Slot) (vs : Values) → option_map (map blank) (represented_values (whole h) rows s (blank_values vs)) ≡ option_map (map blank) (represented_values (whole h) rows s vs)
    values_represented s V.no_values = refl
    values_represented s (V.value v vs) =
        cons_alike blank (In s (blank_value v)) (In s v) (represented_values (whole h) rows s (blank_values vs)) (represented_values (whole h) rows s vs) (blank_represented s v) (values_represented s vs)

    pub pairs_represented : (s : Slot) (ps : Pairs) → option_map blank_entries (represented_pairs (whole h) rows s (blank_pairs ps)) ≡ option_map blank_entries (represented_pairs (whole h) rows s ps)
    pairs_represented s V.no_pairs = refl
    pairs_represented s (V.pair k v ps) =
        cons_alike blank_entry (option_map {U = List ℕ × Data} (λ d. (k, d)) (In s (blank_value v))) (option_map {U = List ℕ × Data} (λ d. (k, d)) (In s v)) (represented_pairs (whole h) rows s (blank_pairs ps)) (represented_pairs (whole h) rows s ps)
        (both_map {B = List ℕ × Data} (λ d. (k, d)) blank blank_entry (In s (blank_value v)) (In s v) (λ a b e. ap (λ x. (k, x)) e) (blank_represented s v)) (pairs_represented s ps)

    fields_represented : (fs : List Field) (os : Optionals) → option_map blank_options (represented_fields (whole h) rows fs (blank_optionals os)) ≡ option_map blank_options (represented_fields (whole h) rows fs os)
    fields_represented fs V.no_optionals = refl
    fields_represented [] (V.absent os) = refl
    fields_represented [] (V.present v os) = refl
    fields_represented (f ∷ fs) (V.absent os) =
        both_map (λ (ds : List (Option Data)). None ∷ ds) blank_options blank_options (represented_fields (whole h) rows fs (blank_optionals os)) (represented_fields (whole h) rows fs os) (λ a b e. ap (λ (ds : List (Option Data)). None ∷ ds) e) (fields_represented fs os)
    fields_represented (f ∷ fs) (V.present v os) =
        cons_alike (option_map blank) (option_map Some (In f.slot (blank_value v))) (option_map Some (In f.slot v)) (represented_fields (whole h) rows fs (blank_optionals os)) (represented_fields (whole h) rows fs os)
        (both_map Some blank (option_map blank) (In f.slot (blank_value v)) (In f.slot v) (λ a b e. ap Some e) (blank_represented f.slot v)) (fields_represented fs os)

  pub alike_represented : (s : Slot) (v w : Value) → blank_value v ≡ blank_value w → option_map blank (In s v) ≡ option_map blank (In s w)
  alike_represented s v w same = sym (blank_represented s v) ∙ ap (λ x. option_map blank (In s x)) same ∙ blank_represented s w
