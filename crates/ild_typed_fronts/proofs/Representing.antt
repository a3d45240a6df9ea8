-- A front has the data of its value, and is the one front of them.
use Rattle.std.proofs.Common.{◌≡◌, ℕ, List, [], ◌∷◌, Bool, true, false, Option, Some, None, option_map, refl, ap, subst, ◌∙◌}
use Rattle.std.specs.Prelude.{option_and_then}
use Rattle.std.specs.Option.{option_map_or}
use Rattle.ild_data.specs.Data as T
use Rattle.ild_data.specs.Data.{Data}
use Rattle.ild_data.specs.Trie.{trie}
use Rattle.ild_data.specs.declared.hamt_shape.HamtShape.{HamtShape}
use Rattle.ild_schema.specs.declared.def.Field.{Field}
use Rattle.ild_schema.specs.declared.def.MapForm.TheVariants as MF
use Rattle.ild_schema.specs.declared.def.TypeDef.{TypeDef}
use Rattle.ild_schema.specs.declared.def.TypeDef.TheVariants as D
use Rattle.ild_schema.specs.declared.number.Slot.{Slot}
use Rattle.ild_schema.specs.declared.number.TypeNo.{TypeNo}
use Rattle.ild_schema.specs.declared.row.Row.{Row}
use Rattle.ild_schema.specs.Slots.{form_of}
use Rattle.ild_schema.specs.Value as V
use Rattle.ild_schema.specs.Value.{Value, Values, Pairs, Optionals}
use Rattle.ild_schema.proofs.Legibly.{legible}
use Rattle.ild_typed.specs.Composed.{composed}
use Rattle.ild_typed.specs.Fits.{Fits}
use Rattle.ild_typed.specs.Hamt.{alone, whole, root_map}
use Rattle.ild_typed.specs.Layer as L
use Rattle.ild_typed.specs.Layer.{Layer}
use Rattle.ild_typed.specs.Represented.{layered, represented, represented_values, represented_pairs, represented_fields}
use Rattle.ild_typed.specs.Slots.{element_of, fields_of, member_of}
use Rattle.ild_typed.specs.Strings.{cons_both}
use Rattle.ild_typed.proofs.OneValue.{alone_exact, one_value}
use Rattle.ild_typed.proofs.Fronting.{values_fronts}
use Rattle.ild_typed_fronts.specs.Front.{is_hamt, root_of, root_or_map, front, fronts_of_values, fronts_of_pairs, fronts_of_fields}
use Rattle.ild_typed_fronts.specs.FrontLaws.{FrontsRepresent, FrontsAreFronts, FrontsAreOne}

-- ---- layers that stand alike in fronts and in whole values

module _ (h : List ℕ → List ℕ) where
  -- which are all but those of HAMTs
  abbrev Alike : Layer Data → Type 0
  Alike l = (p : HamtShape) → alone p l ≡ whole h p l

  composed_alike : (d : TypeDef) (l : Layer Data) → Alike l → composed alone d l ≡ composed (whole h) d l
  composed_alike (D.Map key key_at value place MF.Map) l same = refl
  composed_alike (D.Map key key_at value place MF.ListPairs) l same = refl
  composed_alike (D.Map key key_at value place (MF.StringPairs inner entry)) l same = refl
  composed_alike (D.Map key key_at value place (MF.Hamt p)) l same = same p
  composed_alike d l same = refl

  layered_alike : (F : Option TypeDef) (l : Layer Data) → Alike l → layered alone F (Some l) ≡ layered (whole h) F (Some l)
  layered_alike None l same = refl
  layered_alike (Some d) l same = composed_alike d l same

  -- the same of what the parts make
  made_alike : {X : Type 0} (F : Option TypeDef) (g : X → Layer Data) (o : Option X) → ((x : X) → Alike (g x)) → layered alone F (option_map g o) ≡ layered (whole h) F (option_map g o)
  made_alike None g None same = refl
  made_alike (Some d) g None same = refl
  made_alike F g (Some x) same = layered_alike F (g x) (same x)

  -- the layer of a map that is no HAMT
  map_alike : (F : Option TypeDef) (o : Option (List (List ℕ × Data))) → is_hamt F ≡ false → layered alone F (option_map L.map o) ≡ layered (whole h) F (option_map L.map o)
  map_alike None None plain = refl
  map_alike (Some d) None plain = refl
  map_alike None (Some es) plain = refl
  map_alike (Some d) (Some es) plain = by d plain where
    by : (d : TypeDef) → is_hamt (Some d) ≡ false → composed alone d (L.map es) ≡ composed (whole h) d (L.map es)
    by (D.Map key key_at value place MF.Map) plain = refl
    by (D.Map key key_at value place MF.ListPairs) plain = refl
    by (D.Map key key_at value place (MF.StringPairs inner entry)) plain = refl
    by (D.Map key key_at value place (MF.Hamt p)) plain = absurd cc
    by d plain = refl

  -- the root of a HAMT by its data
  abbrev of_root : Option TypeDef → Option Data → Option Data
  of_root F None = layered alone F (Some (L.hamt T.null))
  of_root F (Some t) = layered alone F (Some (L.hamt t))

  root_stands : (p : HamtShape) (key : TypeNo) (key_at : ℕ) (value : Slot) (place : ℕ) (o : Option Data) → of_root (Some (D.Map key key_at value place (MF.Hamt p))) (option_map (root_map p) o) ≡ option_map (root_map p) o
  root_stands p key key_at value place None = refl
  root_stands p key key_at value place (Some n) = refl

  root_alike : (F : Option TypeDef) (o : Option (List (List ℕ × Data))) → is_hamt F ≡ true → of_root F (layered (whole h) F (option_map L.map o)) ≡ layered (whole h) F (option_map L.map o)
  root_alike None o root = absurd cc
  root_alike (Some d) o root = by d root o where
    by : (d : TypeDef) → is_hamt (Some d) ≡ true → (o : Option (List (List ℕ × Data))) → of_root (Some d) (layered (whole h) (Some d) (option_map L.map o)) ≡ layered (whole h) (Some d) (option_map L.map o)
    by (D.Map key key_at value place MF.Map) root o = absurd cc
    by (D.Map key key_at value place MF.ListPairs) root o = absurd cc
    by (D.Map key key_at value place (MF.StringPairs inner entry)) root o = absurd cc
    by (D.Map key key_at value place (MF.Hamt p)) root None = refl
    by (D.Map key key_at value place (MF.Hamt p)) root (Some es) = root_stands p key key_at value place (trie h p es 0)
    by d root o = absurd cc

  -- a root alone is no part of a whole value
  no_whole : (F : Option TypeDef) (t : Data) → layered alone F (Some (L.hamt T.null)) ≡ layered (whole h) F (Some (L.hamt t))
  no_whole None t = refl
  no_whole (Some d) t = by d where
    by : (d : TypeDef) → composed alone d (L.hamt T.null) ≡ composed (whole h) d (L.hamt t)
    by (D.Map key key_at value place MF.Map) = refl
    by (D.Map key key_at value place MF.ListPairs) = refl
    by (D.Map key key_at value place (MF.StringPairs inner entry)) = refl
    by (D.Map key key_at value place (MF.Hamt p)) = refl
    by d = refl

-- ---- values

module _ (h : List ℕ → List ℕ) (rows : List Row) where
  root_rep : (s : Slot) (o : Option Data) → represented alone rows s (root_of o) ≡ of_root h (form_of rows s) o
  root_rep s None = refl
  root_rep s (Some t) = refl

  in_element : {X Y : Type 0} (f : Slot → X → Option Y) (g : Slot → X → Option Y) (t : Slot → X → X) (o : Option Slot) (x : X) → ((u : Slot) → f u (t u x) ≡ g u x)
      → option_and_then (λ u. f u (option_map_or (λ u. t u x) o x)) o ≡ option_and_then (λ u. g u x) o
  in_element f g t None x same = refl
  in_element f g t (Some u) x same = same u

  map_case : (s : Slot) (ps : Pairs) (b : Bool) → is_hamt (form_of rows s) ≡ b → ((u : Slot) → represented_pairs alone rows u (fronts_of_pairs h rows u ps) ≡ represented_pairs (whole h) rows u ps)
      → represented alone rows s (root_or_map b (represented (whole h) rows s (V.map ps)) (option_map_or (λ u. fronts_of_pairs h rows u ps) (element_of (form_of rows s)) ps)) ≡ represented (whole h) rows s (V.map ps)
  map_case s ps true is same =
      root_rep s (represented (whole h) rows s (V.map ps)) ∙ root_alike h (form_of rows s) (option_and_then (λ u. represented_pairs (whole h) rows u ps) (element_of (form_of rows s))) is
  map_case s ps false is same =
      ap (λ o. layered alone (form_of rows s) (option_map L.map o))
      (in_element (λ u qs. represented_pairs alone rows u qs) (λ u qs. represented_pairs (whole h) rows u qs) (λ u qs. fronts_of_pairs h rows u qs) (element_of (form_of rows s)) ps same)
      ∙ map_alike h (form_of rows s) (option_and_then (λ u. represented_pairs (whole h) rows u ps) (element_of (form_of rows s))) is

  mutual
    pub same_data : (v : Value) (s : Slot) → represented alone rows s (front h rows s v) ≡ represented (whole h) rows s v
    same_data V.null s = refl
    same_data (V.boolean b) s = layered_alike h (form_of rows s) (L.boolean b) (λ p. refl)
    same_data (V.integer n) s = layered_alike h (form_of rows s) (L.integer n) (λ p. refl)
    same_data (V.text t) s = layered_alike h (form_of rows s) (L.text t) (λ p. refl)
    same_data (V.bytes t) s = layered_alike h (form_of rows s) (L.bytes t) (λ p. refl)
    same_data (V.link t) s = layered_alike h (form_of rows s) (L.link t) (λ p. refl)
    same_data (V.any d) s = layered_alike h (form_of rows s) (L.any d) (λ p. refl)
    same_data V.unit s = layered_alike h (form_of rows s) L.unit (λ p. refl)
    same_data (V.enum n) s = layered_alike h (form_of rows s) (L.enum n) (λ p. refl)
    same_data (V.hamt t) s = no_whole h (form_of rows s) t
    same_data (V.list vs) s =
        ap (λ o. layered alone (form_of rows s) (option_map L.list o))
        (in_element (λ u ws. represented_values alone rows u ws) (λ u ws. represented_values (whole h) rows u ws) (λ u ws. fronts_of_values h rows u ws) (element_of (form_of rows s)) vs (λ u. same_values vs u))
        ∙ made_alike h (form_of rows s) L.list (option_and_then (λ u. represented_values (whole h) rows u vs) (element_of (form_of rows s))) (λ ds p. refl)
    same_data (V.map ps) s = map_case s ps (is_hamt (form_of rows s)) refl (λ u. same_pairs ps u)
    same_data (V.struct os) s =
        ap (λ o. layered alone (form_of rows s) (option_map L.struct o)) (same_fields os (fields_of (form_of rows s)))
        ∙ made_alike h (form_of rows s) L.struct (represented_fields (whole h) rows (fields_of (form_of rows s)) os) (λ ds p. refl)
    same_data (V.union n v) s =
        ap (λ o. layered alone (form_of rows s) (option_map (L.union n) o))
        (in_element (λ u w. represented alone rows u w) (λ u w. represented (whole h) rows u w) (λ u w. front h rows u w) (member_of (form_of rows s) n) v (λ u. same_data v u))
        ∙ made_alike h (form_of rows s) (L.union n) (option_and_then (λ u. represented (whole h) rows u v) (member_of (form_of rows s) n)) (λ d p. refl)

    same_values : (vs : Values) (u : Slot) → represented_values alone rows u (fronts_of_values h rows u vs) ≡ represented_values (whole h) rows u vs
    same_values V.no_values u = refl
    same_values (V.value v vs) u = λ i. cons_both (same_data v u i) (same_values vs u i)

    same_pairs : (ps : Pairs) (u : Slot) → represented_pairs alone rows u (fronts_of_pairs h rows u ps) ≡ represented_pairs (whole h) rows u ps
    same_pairs V.no_pairs u = refl
    same_pairs (V.pair k v ps) u = λ i. cons_both (option_map (λ d. (k, d)) (same_data v u i)) (same_pairs ps u i)

    same_fields : (os : Optionals) (fs : List Field) → represented_fields alone rows fs (fronts_of_fields h rows fs os) ≡ represented_fields (whole h) rows fs os
    same_fields V.no_optionals fs = refl
    same_fields (V.absent os) [] = refl
    same_fields (V.present v os) [] = refl
    same_fields (V.absent os) (f ∷ fs) = ap (option_map (λ ds. None ∷ ds)) (same_fields os fs)
    same_fields (V.present v os) (f ∷ fs) = λ i. cons_both (option_map Some (same_data v f.slot i)) (same_fields os fs i)

pub fronts_represent : FrontsRepresent
fronts_represent = λ h rows s v. same_data h rows v s

pub fronts_are_one : FrontsAreOne
fronts_are_one = λ h rows schema s v f t safe is own. one_value alone alone_exact rows (legible rows schema.accepted).clear s safe f (front h rows s v) t own (same_data h rows v s ∙ is)

pub fronts_are_fronts : FrontsAreFronts
fronts_are_fronts = λ h rows schema room s v t safe fits is.
    let x = values_fronts h rows schema room s v t fits is in
    record { fits = subst (Fits rows room s) (fronts_are_one h rows schema s v x.0 t safe is x.1.tree) x.1.fits; tree = same_data h rows v s ∙ is }
