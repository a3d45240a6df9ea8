-- A struct as one of another type: each field of the other takes the value that the first has under its name.
use Rattle.std.proofs.Common.{◌≡◌, ℕ, suc, ◌+◌, ◌-◌, ◌≤◌, inl, inr, Bool, true, false, cond, not, ◌||◌, List, [], ◌∷◌, ◌++◌, map, length, Option, Some, None, refl, sym, ap, ◌∙◌, subst, arith}
use Rattle.std.specs.Prelude.{IsSomeAnd, bytes_eq, nat_eq, is_some, slice_get, option_map, option_and_then}
use Rattle.std.specs.List.{AllByRecursion, flat_map, list_all, position_from}
use Rattle.std.specs.Option.{option_map_or}
use Rattle.std.proofs.lemmas.Bool.{false≢true, eqb-true}
use Rattle.std.proofs.lemmas.Bool.Decides.{Decides-int_eq}
use Rattle.std.proofs.lemmas.Option.{same_Some, none-some}
use Rattle.ild_data.specs.Data as T
use Rattle.ild_data.specs.Data.{Data}
use Rattle.ild_schema.specs.declared.number.Slot.{Slot}
use Rattle.ild_schema.specs.declared.def.TypeDef.TheVariants as D
use Rattle.ild_schema.specs.declared.def.StructDef.{StructDef}
use Rattle.ild_schema.specs.declared.def.StructForm.{StructForm}
use Rattle.ild_schema.specs.declared.def.StructForm.TheVariants as S
use Rattle.ild_schema.specs.declared.def.Field.{Field}
use Rattle.ild_schema.specs.declared.def.Scalar.{Scalar}
use Rattle.ild_schema.specs.declared.def.Scalar.TheVariants as C
use Rattle.ild_schema.specs.declared.row.Row.{Row}
use Rattle.ild_schema.specs.Apart.{AreApart, AreNamedApart}
use Rattle.ild_schema.specs.Clear.{AreNamesApart, ClearStruct, IsClear}
use Rattle.ild_schema.specs.Copies.{base}
use Rattle.ild_schema.specs.Marks.{field_text}
use Rattle.ild_schema.specs.Value as V
use Rattle.ild_schema.specs.Value.{Value, Optionals, optionals_list}
use Rattle.ild_schema.specs.Slots.{form_of}
use Rattle.ild_typed.specs.Layer as L
use Rattle.ild_typed.specs.Layer.{Layer}
use Rattle.ild_typed.specs.Blocks.{nodes, nodes_of_fields}
use Rattle.ild_typed.specs.Composed.{Hamts, composed, struct_form}
use Rattle.ild_typed.specs.Fields.{is_implicit, are_absent, field_entries, tuple_items, all_items}
use Rattle.ild_typed.specs.Fits.{FormFits, ValueFits}
use Rattle.ild_typed.specs.Hamt.{whole}
use Rattle.ild_typed.specs.Layers.{FieldsFit}
use Rattle.ild_typed.specs.Levels.{levels_of, struct_levels}
use Rattle.ild_typed.specs.Represented.{layered, represented, represented_fields}
use Rattle.ild_typed.specs.Shown.{shown, shown_fields}
use Rattle.ild_typed.specs.Slots.{fields_of}
use Rattle.ild_typed.specs.Strings.{cons_both, in_key_order, map_data, listpairs, stringpairs, stringjoin}
use Rattle.ild_typed.proofs.Basics.{then_from, map_from, if_from}
use Rattle.ild_typed.proofs.Entries.{both_from}
use Rattle.ild_typed.proofs.FormOf.{struct_form as struct_type}
use Rattle.ild_typed.proofs.TreeBlocks.{formed}
use Rattle.ild_compat.specs.declared.rule.Rule.{Rule}
use Rattle.ild_compat.specs.declared.rule.Rule.TheVariants as R
use Rattle.ild_compat.specs.Compatible.{IsClosed}
use Rattle.ild_compat.specs.Fields.{field_named, has_field, keep_order, stand_from, may_stay_out, has_implicit, may_be_new}
use Rattle.ild_compat.specs.Same.{is_same_bool, is_same_scalar, is_same_implicit}
use Rattle.ild_compat.specs.Table.{types_agree, asked_of, asked_of_field}
use Rattle.ild_compat_laws.specs.inside.Carried.{IsIn, Carried}
use Rattle.ild_compat_laws.proofs.Agreeing.{with_struct, same_struct, meets, named, or_there, all_of_each, texts_same, and_first, and_second}
use Rattle.ild_compat_laws.proofs.Carrying.{in_left, in_right}
use Rattle.ild_compat_laws.proofs.Picking.{pick, gathered, Differ, differ, all_by, own_name, in_place, Match, regrouped}
use Rattle.ild_compat_laws.proofs.Ordered.{Even, left_out, entries_gathered, entries_even, gathered_entries, Rest, Alike, risen, lined, tuple_lined, join_lined}

-- ---- what the rules say of a field

bools_same : (a b : Bool) → is_same_bool a b ≡ true → a ≡ b
bools_same true b h = sym h
bools_same false true h = absurd (false≢true h)
bools_same false false h = refl

scalars_same : (s t : Scalar) → is_same_scalar s t ≡ true → s ≡ t
scalars_same (C.Bool a) (C.Bool b) h = ap C.Bool (bools_same a b h)
scalars_same (C.Int a) (C.Int b) h = ap C.Int ((Decides-int_eq a b).0 h)
scalars_same (C.Text a) (C.Text b) h = ap C.Text (texts_same a b h)
scalars_same s t h = absurd (false≢true h)

implicits_same : (o p : Option Scalar) → is_same_implicit o p ≡ true → o ≡ p
implicits_same None None h = refl
implicits_same None (Some t) h = absurd (false≢true h)
implicits_same (Some s) None h = absurd (false≢true h)
implicits_same (Some s) (Some t) h = ap Some (scalars_same s t h)

each_in : (p : Field → Bool) (fs : List Field) (f : Field) → list_all p fs ≡ true → IsIn f fs → p f ≡ true
each_in p [] f h i = absurd i
each_in p (g ∷ fs) f h (inl e) = ap p (sym e) ∙ and_first (p g) (list_all p fs) h
each_in p (g ∷ fs) f h (inr i) = each_in p fs f (and_second (p g) (list_all p fs) h) i

found_there : (p : Field → Bool) (b : Bool) (o : Option Field) (g : Field) → option_map_or p o b ≡ true → o ≡ Some g → p g ≡ true
found_there p b o g h e = sym (ap (λ q. option_map_or p q b) e) ∙ h

implied : (a b : Bool) → not a || b ≡ true → a ≡ true → b ≡ true
implied true b h e = h
implied false b h e = absurd (false≢true e)

texts_differ : (fs : List Field) → AreNamesApart fs → Differ field_text fs
texts_differ [] h = tt
texts_differ (f ∷ fs) h = (h.0, texts_differ fs h.1)

-- ---- as many values as fields

absent_even : (fs : List Field) (xs : List (Option Data)) → are_absent fs xs ≡ true → Even fs xs
absent_even [] [] h = tt
absent_even [] (x ∷ xs) h = absurd (false≢true h)
absent_even (f ∷ fs) [] h = absurd (false≢true h)
absent_even (f ∷ fs) (Some d ∷ xs) h = absurd (false≢true h)
absent_even (f ∷ fs) (None ∷ xs) h = absent_even fs xs (and_second f.optional (are_absent fs xs) h)

tuple_even : (fs : List Field) (xs : List (Option Data)) (ts : List Data) → tuple_items fs xs ≡ Some ts → Even fs xs
tuple_even [] [] ts e = tt
tuple_even [] (x ∷ xs) ts e = absurd (none-some ts e)
tuple_even (f ∷ fs) [] ts e = absurd (none-some ts e)
tuple_even (f ∷ fs) (Some d ∷ xs) ts e = let m = map_from {B = List Data} (λ ds. d ∷ ds) (tuple_items fs xs) ts e in tuple_even fs xs m.item m.there
tuple_even (f ∷ fs) (None ∷ xs) ts e = let r = if_from (are_absent (f ∷ fs) (None ∷ xs)) (Some []) ts e in absent_even (f ∷ fs) (None ∷ xs) r.0

all_even : (fs : List Field) (xs : List (Option Data)) (ts : List Data) → all_items fs xs ≡ Some ts → Even fs xs
all_even [] [] ts e = tt
all_even [] (x ∷ xs) ts e = absurd (none-some ts e)
all_even (f ∷ fs) [] ts e = absurd (none-some ts e)
all_even (f ∷ fs) (Some d ∷ xs) ts e = let m = map_from {B = List Data} (λ ds. d ∷ ds) (all_items fs xs) ts e in all_even fs xs m.item m.there
all_even (f ∷ fs) (None ∷ xs) ts e = absurd (none-some ts e)

-- ---- the data of a struct are those of the other

module _ (fs gs : List Field) (apart : AreApart (λ f. f.name) fs) (others_apart : AreApart (λ f. f.name) gs) (xs : List (Option Data))
    (match : Match field_text left_out fs gs) (free : (f : Field) → IsIn f fs → (g : Field) → field_named f.name gs ≡ Some g → f.optional ≡ true → g.optional ≡ true) where
  abbrev given : Field → Option Data
  given g = pick g.name fs xs

  alike : Alike gs others_apart given fs
  alike f i g e =
      let m = match f i in
      let same : m.0 ≡ g = same_Some m.0 g (sym m.1 ∙ e) in
      (m.4 ∙ ap field_text same, λ d. m.5 d ∙ ap (λ h. left_out h d) same)

  whole_rest : Rest gs others_apart 0 gs
  whole_rest j = let e : j ≡ 0 + j = omega arith in ap (slice_get gs) e

  module _ (extra : (g : Field) → IsIn g gs → given g ≡ None → g.optional ≡ true) where
    entries_same : (n : List (List ℕ × Data)) → field_entries fs xs ≡ Some n → keep_order S.ListPairs fs gs ≡ true → field_entries gs (map given gs) ≡ Some n
    entries_same n e order =
        gathered_entries given gs (all_by (λ g. given g ≡ None → g.optional ≡ true) gs extra)
        ∙ ap Some (risen gs others_apart given 0 gs fs xs whole_rest order (entries_even fs xs n e) (λ g i. refl) alike ∙ entries_gathered fs xs n e)

    pub same_data : (form : StructForm) (t : Data) → keep_order form fs gs ≡ true → ClearStruct form fs → ClearStruct form gs → struct_form form fs xs ≡ Some t → struct_form form gs (map given gs) ≡ Some t
    same_data S.Map t order clear other e =
        let m = map_from (λ es. map_data (in_key_order es)) (field_entries fs xs) t e in
        ap (option_map (λ es. map_data (in_key_order es))) (gathered_entries given gs (all_by (λ g. given g ≡ None → g.optional ≡ true) gs extra))
        ∙ ap (λ es. Some (map_data es)) (regrouped field_text left_out fs gs xs apart others_apart (texts_differ fs clear.apart) (texts_differ gs other.apart) match)
        ∙ ap (λ es. Some (map_data (in_key_order es))) (entries_gathered fs xs m.item m.there) ∙ m.made
    same_data S.Tuple t order clear other e =
        let m = map_from (λ ds. T.list (T.items_of ds)) (tuple_items fs xs) t e in
        let l = lined gs others_apart given 0 gs fs xs whole_rest order (tuple_even fs xs m.item m.there) (λ g i. refl) free extra in
        ap (option_map (λ ds. T.list (T.items_of ds))) (tuple_lined gs others_apart given gs fs xs m.item l m.there) ∙ m.made
    same_data S.ListPairs t order clear other e =
        let m = map_from listpairs (field_entries fs xs) t e in ap (option_map listpairs) (entries_same m.item m.there order) ∙ m.made
    same_data (S.StringPairs inner entry) t order clear other e =
        let m = then_from (stringpairs inner entry) (field_entries fs xs) t e in ap (option_and_then (stringpairs inner entry)) (entries_same m.item m.there order) ∙ m.made
    same_data (S.StringJoin delim) t order clear other e =
        let m = then_from (stringjoin delim) (all_items fs xs) t e in
        let n : length gs ≡ length fs = sym (eqb-true (length fs) (length gs) (and_second (stand_from gs 0 fs) (nat_eq (length fs) (length gs)) order)) in
        let l = lined gs others_apart given 0 gs fs xs whole_rest (and_first (stand_from gs 0 fs) (nat_eq (length fs) (length gs)) order) (all_even fs xs m.item m.there) (λ g i. refl) free extra in
        ap (option_and_then (stringjoin delim)) (join_lined gs others_apart given gs fs xs m.item l n m.there) ∙ m.made

-- ---- the values of the fields

abbrev pub shown_each : List Row → List Field → Optionals → List (Option Data)
shown_each rows fs V.no_optionals = []
shown_each rows [] (V.absent os) = []
shown_each rows [] (V.present v os) = []
shown_each rows (f ∷ fs) (V.absent os) = None ∷ shown_each rows fs os
shown_each rows (f ∷ fs) (V.present v os) = Some (shown rows f.slot v) ∷ shown_each rows fs os

abbrev never : Field → Data → Bool
never f d = false

shown_gathered : (rows : List Row) (fs : List Field) (os : Optionals) → shown_fields rows fs os ≡ gathered (λ f. f.name) never fs (shown_each rows fs os)
shown_gathered rows [] V.no_optionals = refl
shown_gathered rows (f ∷ fs) V.no_optionals = refl
shown_gathered rows [] (V.absent os) = refl
shown_gathered rows [] (V.present v os) = refl
shown_gathered rows (f ∷ fs) (V.absent os) = shown_gathered rows fs os
shown_gathered rows (f ∷ fs) (V.present v os) = ap (λ es. (f.name, shown rows f.slot v) ∷ es) (shown_gathered rows fs os)

pub record TakenValue (rows others : List Row) (at : Hamts) (Of : Slot → Value → Type 0) (g : Field) (x : Data) (z : Option Data) (ns : (List ℕ → List ℕ) → List (List ℕ)) : Type 0 where
  pub value : Value
  pub fits : Of g.slot value
  pub tree : represented at others g.slot value ≡ Some x
  pub shown : z ≡ Some (shown others g.slot value)
  pub nodes : (h : List ℕ → List ℕ) → at ≡ whole h → (n : List ℕ) → IsIn n (nodes h others g.slot value) → IsIn n (ns h)

abbrev pub Taken : List Row → List Row → Hamts → (Slot → Value → Type 0) → Field → Option Data → Option Data → ((List ℕ → List ℕ) → List (List ℕ)) → Type 0
Taken rows others at Of g None z ns = (g.optional ≡ true) × (z ≡ None)
Taken rows others at Of g (Some x) z ns = TakenValue rows others at Of g x z ns

pub record CarriedFields (rows others : List Row) (at : Hamts) (Of : Slot → Value → Type 0) (gs : List Field) (P Z : Field → Option Data) (ns : (List ℕ → List ℕ) → List (List ℕ)) : Type 0 where
  pub fields : Optionals
  pub fits : FieldsFit Of gs (optionals_list fields)
  pub tree : represented_fields at others gs fields ≡ Some (map P gs)
  pub shown : shown_each others gs fields ≡ map Z gs
  pub nodes : (h : List ℕ → List ℕ) → at ≡ whole h → (n : List ℕ) → IsIn n (nodes_of_fields h others gs fields) → IsIn n (ns h)
  pub extra : (g : Field) → IsIn g gs → P g ≡ None → g.optional ≡ true

module _ (rows others : List Row) (at : Hamts) (Of : Slot → Value → Type 0) (ns : (List ℕ → List ℕ) → List (List ℕ)) where
  in_cases : (n : List ℕ) (xs ys zs : List (List ℕ)) → (IsIn n xs → IsIn n zs) → (IsIn n ys → IsIn n zs) → IsIn n (xs ++ ys) → IsIn n zs
  in_cases n [] ys zs f g h = g h
  in_cases n (x ∷ xs) ys zs f g (inl e) = f (inl e)
  in_cases n (x ∷ xs) ys zs f g (inr h) = in_cases n xs ys zs (λ k. f (inr k)) g h

  build : (P Z : Field → Option Data) (gs : List Field) → AllByRecursion (λ g. Taken rows others at Of g (P g) (Z g) ns) gs → CarriedFields rows others at Of gs P Z ns
  build P Z [] h = record { fields = V.no_optionals; fits = tt; tree = refl; shown = refl; nodes = λ h k n i. absurd i; extra = λ g i e. absurd i }
  build P Z (g ∷ gs) h = by (P g) refl h.0 (build P Z gs h.1)
    where
      by : (o : Option Data) → P g ≡ o → Taken rows others at Of g o (Z g) ns → CarriedFields rows others at Of gs P Z ns → CarriedFields rows others at Of (g ∷ gs) P Z ns
      by None is k r = record {
        fields = V.absent r.fields;
        fits = (k.0, r.fits);
        tree = ap (option_map {U = List (Option Data)} (λ ds. None ∷ ds)) r.tree ∙ ap (λ o. Some (o ∷ map P gs)) (sym is);
        shown = (λ i. sym k.1 i ∷ r.shown i);
        nodes = r.nodes;
        extra = λ f i e. more f i e k.0 r.extra;
      }
        where
          more : (f : Field) → IsIn f (g ∷ gs) → P f ≡ None → g.optional ≡ true → ((x : Field) → IsIn x gs → P x ≡ None → x.optional ≡ true) → f.optional ≡ true
          more f (inl same) e free rest = ap (λ (x : Field). x.optional) (sym same) ∙ free
          more f (inr i) e free rest = rest f i e
      by (Some x) is k r = record {
        fields = V.present k.value r.fields;
        fits = (k.fits, r.fits);
        tree = (λ i. cons_both (option_map Some (k.tree i)) (r.tree i)) ∙ ap (λ o. Some (o ∷ map P gs)) (sym is);
        shown = (λ i. sym k.shown i ∷ r.shown i);
        nodes = λ h q n. in_cases n (nodes h others g.slot k.value) (nodes_of_fields h others gs r.fields) (ns h) (k.nodes h q n) (r.nodes h q n);
        extra = λ f i e. more f i e r.extra;
      }
        where
          more : (f : Field) → IsIn f (g ∷ gs) → P f ≡ None → ((x : Field) → IsIn x gs → P x ≡ None → x.optional ≡ true) → f.optional ≡ true
          more f (inl same) e rest = absurd (none-some x (sym e ∙ ap P (sym same) ∙ is))
          more f (inr i) e rest = rest f i e

taken_more : (rows others : List Row) (at : Hamts) (Of : Slot → Value → Type 0) (g : Field) (d z : Option Data) (ns ms : (List ℕ → List ℕ) → List (List ℕ)) → ((h : List ℕ → List ℕ) (n : List ℕ) → IsIn n (ns h) → IsIn n (ms h))
    → Taken rows others at Of g d z ns → Taken rows others at Of g d z ms
taken_more rows others at Of g None z ns ms more k = k
taken_more rows others at Of g (Some x) z ns ms more k = record { value = k.value; fits = k.fits; tree = k.tree; shown = k.shown; nodes = λ h q n i. more h n (k.nodes h q n i) }

module _ (rows others : List Row) (set : Slot → Slot → Bool) (at : Hamts) (before after : Slot → Value → Type 0)
    (later : (a b : Slot) (v : Value) (t : Data) → set a b ≡ true → before a v → represented at rows a v ≡ Some t → Carried rows others at after a b v t) (g : Field) where
  -- what is asked of a field by the one of its name
  abbrev Asks : Field → Type 0
  Asks f = g.name ≡ f.name → (set f.slot g.slot ≡ true) × (f.optional ≡ true → g.optional ≡ true)

  taken : (n : ℕ) (fs : List Field) (os : Optionals) (ds : List (Option Data)) → AllByRecursion Asks fs → (position_from (λ f. bytes_eq g.name f.name) n fs ≡ None → g.optional ≡ true) → FieldsFit before fs (optionals_list os)
      → represented_fields at rows fs os ≡ Some ds → Taken rows others at after g (pick g.name fs ds) (pick g.name fs (shown_each rows fs os)) (λ h. nodes_of_fields h rows fs os)
  taken n [] V.no_optionals ds asks extra f e = (extra refl, refl)
  taken n [] (V.absent os) ds asks extra f e = absurd f
  taken n [] (V.present v os) ds asks extra f e = absurd f
  taken n (x ∷ fs) V.no_optionals ds asks extra f e = absurd f
  taken n (x ∷ fs) (V.absent os) ds asks extra f e =
      let m = map_from {B = List (Option Data)} (λ rest. None ∷ rest) (represented_fields at rows fs os) ds e in
      let same : None ∷ m.item ≡ ds = same_Some (None ∷ m.item) ds m.made in
      subst (λ ys. Taken rows others at after g (pick g.name (x ∷ fs) ys) (pick g.name (x ∷ fs) (shown_each rows (x ∷ fs) (V.absent os))) (λ h. nodes_of_fields h rows (x ∷ fs) (V.absent os))) same
      (by (bytes_eq g.name x.name) refl m.item (λ none. taken (n + 1) fs os m.item asks.1 none f.1 m.there))
    where
      by : (b : Bool) → bytes_eq g.name x.name ≡ b → (ys : List (Option Data)) → ((position_from (λ z. bytes_eq g.name z.name) (n + 1) fs ≡ None → g.optional ≡ true) → Taken rows others at after g (pick g.name fs ys) (pick g.name fs (shown_each rows fs os)) (λ h. nodes_of_fields h rows fs os))
          → Taken rows others at after g (cond b None (pick g.name fs ys)) (cond b None (pick g.name fs (shown_each rows fs os))) (λ h. nodes_of_fields h rows fs os)
      by true is ys rest = ((asks.0 (texts_same g.name x.name is)).1 f.0, refl)
      by false is ys rest = rest (λ none. extra (ap (λ b. cond b (Some n) (position_from (λ z. bytes_eq g.name z.name) (n + 1) fs)) is ∙ none))
  taken n (x ∷ fs) (V.present v os) ds asks extra f e =
      let b = both_from (option_map Some (represented at rows x.slot v)) (represented_fields at rows fs os) ds e in
      let m = map_from Some (represented at rows x.slot v) b.item b.first in
      let same : Some m.item ∷ b.items ≡ ds = ap (λ (o : Option Data). o ∷ b.items) (same_Some (Some m.item) b.item m.made) ∙ b.all in
      subst (λ ys. Taken rows others at after g (pick g.name (x ∷ fs) ys) (pick g.name (x ∷ fs) (shown_each rows (x ∷ fs) (V.present v os))) (λ h. nodes_of_fields h rows (x ∷ fs) (V.present v os))) same
      (by (bytes_eq g.name x.name) refl b.items m.item m.there (λ none. taken (n + 1) fs os b.items asks.1 none f.1 b.rest))
    where
      by : (c : Bool) → bytes_eq g.name x.name ≡ c → (ys : List (Option Data)) (d : Data) → represented at rows x.slot v ≡ Some d
          → ((position_from (λ z. bytes_eq g.name z.name) (n + 1) fs ≡ None → g.optional ≡ true) → Taken rows others at after g (pick g.name fs ys) (pick g.name fs (shown_each rows fs os)) (λ h. nodes_of_fields h rows fs os))
          → Taken rows others at after g (cond c (Some d) (pick g.name fs ys)) (cond c (Some (shown rows x.slot v)) (pick g.name fs (shown_each rows fs os))) (λ h. nodes h rows x.slot v ++ nodes_of_fields h rows fs os)
      by true is ys d there rest =
          let k = later x.slot g.slot v d (asks.0 (texts_same g.name x.name is)).0 f.0 there in
          record { value = k.value; fits = k.fits; tree = k.tree; shown = ap Some (sym k.shown); nodes = λ h q i j. in_left i (nodes h rows x.slot v) (nodes_of_fields h rows fs os) (k.nodes h q i j) }
      by false is ys d there rest =
          taken_more rows others at after g (pick g.name fs ys) (pick g.name fs (shown_each rows fs os)) (λ h. nodes_of_fields h rows fs os) (λ h. nodes h rows x.slot v ++ nodes_of_fields h rows fs os)
          (λ h i. in_right i (nodes h rows x.slot v) (nodes_of_fields h rows fs os)) (rest (λ none. extra (ap (λ b. cond b (Some n) (position_from (λ z. bytes_eq g.name z.name) (n + 1) fs)) is ∙ none)))

-- ---- a struct

module _ (rows others : List Row) (set : Slot → Slot → Bool) (closed : IsClosed rows others set) (names : AreNamedApart rows) (other_names : AreNamedApart others) (clear : IsClear rows) (other_clear : IsClear others)
    (room : ℕ) (before after : ℕ → Slot → Value → Type 0) (at : Hamts)
    (later : (o : ℕ) (a b : Slot) (v : Value) (t : Data) → set a b ≡ true → before o a v → represented at rows a v ≡ Some t → Carried rows others at (after o) a b v t) where
  pub struct_carried : (a b : Slot) (os : Optionals) (t : Data) → set a b ≡ true → ValueFits rows room before a (V.struct os) → represented at rows a (V.struct os) ≡ Some t → Carried rows others at (ValueFits others room after) a b (V.struct os) t
  struct_carried a b os t s f e =
      let m = formed (FormFits rows room before (V.struct os)) (form_of rows a) f in
      let d = struct_type rows (before (levels_of m.form (V.struct os) - 1)) m.form (optionals_list os) m.holds.1 in
      let r : StructDef = d.0 in
      let fs : List Field = r.fields in
      let is : form_of rows a ≡ Some (D.Struct r) = m.is ∙ ap Some d.1 in
      let k = meets rows others set closed a b (D.Struct r) s is in
      let o = with_struct r k.form k.agree in
      let w : StructDef = o.0 in
      let gs : List Field = w.fields in
      let there : form_of others b ≡ Some (D.Struct w) = k.is ∙ ap Some o.1 in
      let rules : (rule : Rule) → types_agree rule (Some (D.Struct r)) (Some (D.Struct w)) ≡ true = λ rule. sym (ap (λ c. types_agree rule (Some (D.Struct r)) (Some c)) o.1) ∙ k.rules rule in
      let form : r.form ≡ w.form = same_struct r.form w.form (rules R.Strategy) in
      let apart : AreApart (λ x. x.name) fs = names (base rows a.ty.0) (D.Struct r) is in
      let others_apart : AreApart (λ x. x.name) gs = other_names (base others b.ty.0) (D.Struct w) there in
      let there_all : list_all (λ x. has_field gs x) fs ≡ true = and_first (list_all (λ x. has_field gs x) fs) (keep_order r.form fs gs) (rules R.Field) in
      let order : keep_order r.form fs gs ≡ true = and_second (list_all (λ x. has_field gs x) fs) (keep_order r.form fs gs) (rules R.Field) in
      let match : Match field_text left_out fs gs = matched fs gs there_all (rules R.Implicit) in
      let free : (x : Field) → IsIn x fs → (g : Field) → field_named x.name gs ≡ Some g → x.optional ≡ true → g.optional ≡ true =
      λ x i g q. implied x.optional g.optional (found_there (λ (y : Field). not x.optional || y.optional) true (field_named x.name gs) g (each_in (λ y. may_stay_out gs y) fs x (rules R.Optional) i) q) in
      let asks : AllByRecursion {X = Slot × Slot} (λ p. set p.0 p.1 ≡ true) (flat_map (asked_of_field gs) fs) = subst (λ c. AllByRecursion {X = Slot × Slot} (λ p. set p.0 p.1 ≡ true) (asked_of (D.Struct r) c)) o.1 k.asks in
      let holds : FormFits rows room before (V.struct os) (D.Struct r) = subst (FormFits rows room before (V.struct os)) d.1 m.holds in
      let level : ℕ = struct_levels r.form - 1 in
      let opened : option_and_then (composed at (D.Struct r)) (option_map L.struct (represented_fields at rows fs os)) ≡ Some t =
      sym (ap (λ c. layered at c (option_map L.struct (represented_fields at rows (fields_of c) os))) is) ∙ e in
      let layer = then_from (composed at (D.Struct r)) (option_map L.struct (represented_fields at rows fs os)) t opened in
      let part = map_from L.struct (represented_fields at rows fs os) layer.item layer.there in
      let ds : List (Option Data) = part.item in
      let made : struct_form r.form fs ds ≡ Some t = ap (composed at (D.Struct r)) (same_Some (L.struct ds) layer.item part.made) ∙ layer.made in
      let c = build rows others at (after level) (λ h. nodes_of_fields h rows fs os) (λ g. pick g.name fs ds) (λ g. pick g.name fs (shown_each rows fs os)) gs
      (all_by (λ g. Taken rows others at (after level) g (pick g.name fs ds) (pick g.name fs (shown_each rows fs os)) (λ h. nodes_of_fields h rows fs os)) gs
      (λ g i. taken rows others set at (before level) (after level) (later level) g 0 fs os ds (asked_all fs gs g others_apart i asks free) (extra_free fs g (each_in (λ y. may_be_new fs y) gs g (rules R.Extra) i)) holds.1 part.there)) in
      let clear_here : ClearStruct r.form fs = clear.types (base rows a.ty.0) (D.Struct r) is in
      let clear_there : ClearStruct r.form gs = subst (λ z. ClearStruct z gs) (sym form) (other_clear.types (base others b.ty.0) (D.Struct w) there) in
      record {
        value = V.struct c.fields;
        fits = subst (λ q. IsSomeAnd q (FormFits others room after (V.struct c.fields))) (sym there)
            (subst (λ z. struct_levels z ≤ room) form holds.0, subst (λ z. FieldsFit (after (struct_levels z - 1)) gs (optionals_list c.fields)) form c.fits);
        tree =
            ap (λ q. layered at q (option_map L.struct (represented_fields at others (fields_of q) c.fields))) there
            ∙ ap (λ q. option_and_then (composed at (D.Struct w)) (option_map L.struct q)) c.tree
            ∙ ap (λ z. struct_form z gs (map (λ g. pick g.name fs ds) gs)) (sym form)
            ∙ same_data fs gs apart others_apart ds match free c.extra r.form t order clear_here clear_there made;
        shown =
            ap (λ q. map_data (in_key_order (shown_fields others (fields_of q) c.fields))) there
            ∙ ap (λ es. map_data (in_key_order es)) (shown_gathered others gs c.fields)
            ∙ ap (λ zs. map_data (in_key_order (gathered (λ x. x.name) never gs zs))) c.shown
            ∙ ap map_data (regrouped (λ x. x.name) never fs gs (shown_each rows fs os) apart others_apart (differ (λ x. x.name) fs apart) (differ (λ x. x.name) gs others_apart) (by_name fs gs match))
            ∙ ap (λ es. map_data (in_key_order es)) (sym (shown_gathered rows fs os))
            ∙ sym (ap (λ q. map_data (in_key_order (shown_fields rows (fields_of q) os))) is);
        nodes = λ h q y i.
            subst (λ z. IsIn y (nodes_of_fields h rows (fields_of z) os)) (sym is) (c.nodes h q y (subst (λ z. IsIn y (nodes_of_fields h others (fields_of z) c.fields)) there i));
      }
    where
      matched : (fs gs : List Field) → list_all (λ x. has_field gs x) fs ≡ true → list_all (λ x. has_implicit gs x) fs ≡ true → Match field_text left_out fs gs
      matched fs gs h j f i =
          let r = or_there (λ (y : Field). bytes_eq (field_text f) (field_text y)) (field_named f.name gs) (each_in (λ x. has_field gs x) fs f h i) in
          let n = named (λ (y : Field). bytes_eq f.name y.name) gs r.0 r.1 in
          let same : f.implicit ≡ r.0.implicit = implicits_same f.implicit r.0.implicit (found_there (λ (y : Field). is_same_implicit f.implicit y.implicit) true (field_named f.name gs) r.0 (each_in (λ x. has_implicit gs x) fs f j i) r.1) in
          (r.0, r.1, in_place gs n.place r.0 n.there, texts_same f.name r.0.name n.test, texts_same (field_text f) (field_text r.0) r.2, λ d. ap (λ z. is_implicit z d) same)

      by_name : (fs gs : List Field) → Match field_text left_out fs gs → Match (λ x. x.name) never fs gs
      by_name fs gs match f i = let m = match f i in (m.0, m.1, m.2, m.3, m.3, λ d. refl)

      place_of : (fs : List Field) (f : Field) → IsIn f fs → (n : ℕ) × (slice_get fs n ≡ Some f)
      place_of [] f i = absurd i
      place_of (x ∷ xs) f (inl q) = (0, ap Some q)
      place_of (x ∷ xs) f (inr i) = let p = place_of xs f i in (suc p.0, p.1)

      asked_all : (fs gs : List Field) (g : Field) → AreApart (λ x. x.name) gs → IsIn g gs → AllByRecursion {X = Slot × Slot} (λ p. set p.0 p.1 ≡ true) (flat_map (asked_of_field gs) fs)
          → ((x : Field) → IsIn x fs → (y : Field) → field_named x.name gs ≡ Some y → x.optional ≡ true → y.optional ≡ true)
          → AllByRecursion (λ f. g.name ≡ f.name → (set f.slot g.slot ≡ true) × (f.optional ≡ true → g.optional ≡ true)) fs
      asked_all fs gs g apart i asks free = all_by (λ f. g.name ≡ f.name → (set f.slot g.slot ≡ true) × (f.optional ≡ true → g.optional ≡ true)) fs (λ f j q.
          let own : field_named f.name gs ≡ Some g = own_name gs g f.name apart i (sym q) in
          let p = place_of fs f j in
          let one = subst (λ c. AllByRecursion {X = Slot × Slot} (λ z. set z.0 z.1 ≡ true) (option_map_or (λ (y : Field). (f.slot, y.slot) ∷ []) c [])) own (all_of_each (λ (z : Slot × Slot). set z.0 z.1 ≡ true) (asked_of_field gs) fs p.0 f asks p.1) in
          (one.0, free f j g own))

      extra_free : (fs : List Field) (g : Field) → may_be_new fs g ≡ true → position_from (λ f. bytes_eq g.name f.name) 0 fs ≡ None → g.optional ≡ true
      extra_free fs g h none = sym (ap (λ o. is_some o || g.optional) none) ∙ h
