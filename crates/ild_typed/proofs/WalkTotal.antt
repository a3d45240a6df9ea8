-- What is not refused has a front that fits.
use Rattle.std.proofs.Common.{◌≡◌, ℕ, zero, suc, ◌+◌, ◌-◌, ◌≤◌, ◌<◌, List, [], ◌∷◌, ◌++◌, Bool, true, false, cond, Option, Some, None, refl, sym, ◌∙◌, ap, subst, arith, inl, inr}
use Rattle.std.specs.Prelude.{IsTrue, IsSomeAnd, option_and_then, slice_get, nat_lt, ◌⊎◌}
use Rattle.std.specs.Option.{option_or, option_map_or}
use Rattle.std.specs.List.{AllByRecursion}
use Rattle.std.proofs.lemmas.Option.{same_Some, none-some}
use Rattle.std.proofs.lemmas.Bool.{ltb-false, and_parts, or_parts}
use Rattle.ild_data.proofs.Gets.{got_below}
use Rattle.ild_data.specs.Data as T
use Rattle.ild_data.specs.Data.{Data, depth}
use Rattle.ild_data.specs.Key.{Rises, same_text}
use Rattle.ild_data.specs.Tree.{IsTree, AreEntries}
use Rattle.ild_data.proofs.Rising.{rises_list}
use Rattle.ild_data.proofs.Lists.{members_of-members_list, members_list-members_of}
use Rattle.ild_schema.specs.declared.number.Slot.{Slot}
use Rattle.ild_schema.specs.declared.number.TypeNo.{TypeNo}
use Rattle.ild_schema.specs.declared.def.TypeDef.{TypeDef}
use Rattle.ild_schema.specs.declared.def.TypeDef.TheVariants as D
use Rattle.ild_schema.specs.declared.def.MapForm.{MapForm}
use Rattle.ild_schema.specs.declared.def.MapForm.TheVariants as MF
use Rattle.ild_schema.specs.declared.def.StructForm.{StructForm}
use Rattle.ild_schema.specs.declared.def.StructForm.TheVariants as S
use Rattle.ild_schema.specs.declared.def.Field.{Field}
use Rattle.ild_schema.specs.declared.def.UnitForm.{UnitForm}
use Rattle.ild_schema.specs.declared.def.EnumDef.{EnumDef}
use Rattle.ild_schema.specs.declared.row.Row.{Row}
use Rattle.ild_schema.specs.Copies.{base}
use Rattle.ild_schema.specs.Value as V
use Rattle.ild_schema.specs.Value.{Value}
use Rattle.ild_typed.specs.Layer as L
use Rattle.ild_typed.specs.Layer.{Layer, as_boolean, as_integer, as_text, as_bytes, as_link, as_any, as_unit, as_enum, as_list, as_map, as_struct, as_union}
use Rattle.ild_schema.specs.Slots.{form_of, plainly}
use Rattle.ild_typed.specs.Fields.{is_implicit, field_entries, are_absent, tuple_items, all_items}
use Rattle.ild_typed.specs.Strings.{map_data, listpairs, stringpairs, stringjoin, in_key_order}
use Rattle.ild_typed.specs.Composed.{composed, map_form, struct_form, member_form, union_form, enum_form, unit_data, any_data}
use Rattle.ild_typed.specs.Hamt.{alone}
use Rattle.ild_typed.specs.Levels.{struct_levels}
use Rattle.ild_typed.specs.Represented.{layered}
use Rattle.ild_typed.specs.Fits.{Front, FormFits, ValueFits, FitsPast}
use Rattle.ild_typed.specs.Layers.{AreKeysApart, AreKeys, RepresentsSome, IsNotNull}
use Rattle.ild_schema.specs.Clear.{IsClear}
use Rattle.ild_typed.specs.Named.{where_some, names, is_among, has_twice}
use Rattle.ild_typed.specs.Why.{Why}
use Rattle.ild_typed.specs.Why as W
use Rattle.ild_typed.specs.Causes.{why_of}
use Rattle.ild_typed.specs.Spots.{Spot, value_spot, element_spots, entry_spots, field_steps, field_spots, spots_of, member_spots}
use Rattle.ild_typed.specs.RootSpots.{bucket_spots, root_spots}
use Rattle.ild_typed.specs.Pieces.{HasNoRoot, is_null_there, repeats_key, keys_why, needs, room_why, hamt_why, why_at, IsNoRoot}
use Rattle.ild_typed.specs.Refused.{Refused, Refusal, part_refusal, AreParts, FirstRefused, RefusedPast}
use Rattle.ild_typed.specs.WhyLaws.{KeysRise, HasForm}
use Rattle.ild_typed.proofs.NodeRoots.{root_or_none}
use Rattle.ild_schema.specs.Delims.{AllDelims}
use Rattle.ild_typed.specs.Node.{IsRoot, entries_in}
use Rattle.ild_data.specs.Trie as Trie
use Rattle.ild_data.specs.declared.hamt_shape.HamtShape.{HamtShape}
use Rattle.ild_typed.proofs.Basics.{map_from, then_from, true_from}
use Rattle.ild_typed.proofs.Structs.{field_from}
use Rattle.ild_typed.proofs.Onlies.{only_list, only_map, only_struct, only_union}
use Rattle.ild_typed.proofs.Views.{Elements, Fields, struct_shows, list_shows, union_shows, hamt_shows}
use Rattle.ild_typed.proofs.ViewMaps.{Entry, map_shows}
use Rattle.ild_typed.proofs.Cleans.{clean_of, never, none_pass}
use Rattle.ild_typed.proofs.Entries.{same_text_self}
use Rattle.ild_typed.proofs.CleanPairs.{pairs_names}
use Rattle.ild_typed.proofs.CleanStructs.{split_of_pairs}
use Rattle.ild_typed.proofs.CleanTypes.{LayerFor, layer_for}
use Rattle.ild_typed.proofs.WalkSound.{any_is}
use Rattle.ild_typed.proofs.Rooms.{all_more, shows_more}

-- ---- what is left where no cause holds

pub record Free (room : ℕ) (d : TypeDef) (t : Data) : Type 0 where
  pub own : why_of d t ≡ None
  pub keys : keys_why d t ≡ None
  pub enough : needs d t ≤ room
  pub root : hamt_why d t ≡ None

or_none : {A : Type 0} (o p : Option A) → option_or o p ≡ None → (o ≡ None) × (p ≡ None)
or_none None p e = (refl, e)
or_none (Some a) p e = absurd (none-some a (sym e))

cond_none : {A : Type 0} (b : Bool) (a : A) → cond b (Some a) None ≡ None → b ≡ false
cond_none true a e = absurd (none-some a (sym e))
cond_none false a e = refl

free : (room : ℕ) (d : TypeDef) (t : Data) → why_at room d t ≡ None → Free room d t
free room d t e =
    let a = or_none (why_of d t) (option_or (keys_why d t) (option_or (room_why room d t) (hamt_why d t))) e in
    let b = or_none (keys_why d t) (option_or (room_why room d t) (hamt_why d t)) a.1 in
    let c = or_none (room_why room d t) (hamt_why d t) b.1 in
    record { own = a.0; keys = b.0; enough = ltb-false room (needs d t) (cond_none (nat_lt room (needs d t)) W.Depth c.0); root = c.1 }

pub keys_rise : (t : Data) → IsTree t → KeysRise t
keys_rise (T.map ms) tree = rises_list (T.members_list ms) (subst AreEntries (sym (members_of-members_list ms)) tree)
keys_rise T.null tree = tt
keys_rise (T.boolean b) tree = tt
keys_rise (T.integer n) tree = tt
keys_rise (T.text s) tree = tt
keys_rise (T.bytes s) tree = tt
keys_rise (T.list ds) tree = tt
keys_rise (T.link s) tree = tt

-- ---- keys

once_apart : (es : List (List ℕ × Data)) → has_twice (names es) ≡ false → AreKeysApart es
once_apart [] e = tt
once_apart (e ∷ es) h =
    let x = or_parts (is_among e.0 (names es)) (has_twice (names es)) h in
    (by es (none_pass (same_text e.0) (names es) x.0), once_apart es x.1)
  where
    by : (qs : List (List ℕ × Data)) → AllByRecursion (λ k. same_text e.0 k ≡ false) (names qs) → AllByRecursion (λ (q : List ℕ × Data). e.0 ≡ q.0 → ⊥) qs
    by [] all = tt
    by (q ∷ qs) all = (λ same. never (sym (ap (same_text e.0) (sym same) ∙ same_text_self e.0) ∙ all.0), by qs all.1)

-- ---- fields that are left out are optional

abbrev Shape : List Field → List (Option Data) → Type 0
Shape [] [] = Unit {0}
Shape [] (o ∷ os) = ⊥
Shape (f ∷ fs) [] = ⊥
Shape (f ∷ fs) (Some d ∷ os) = Shape fs os
Shape (f ∷ fs) (None ∷ os) = IsTrue f.optional × Shape fs os

entries_shape : (fs : List Field) (os : List (Option Data)) (es : List (List ℕ × Data)) → field_entries fs os ≡ Some es → Shape fs os
entries_shape [] [] es e = tt
entries_shape [] (o ∷ os) es e = absurd (none-some es e)
entries_shape (f ∷ fs) [] es e = absurd (none-some es e)
entries_shape (f ∷ fs) (Some d ∷ os) es e = let x = field_from f fs (Some d) os es e in entries_shape fs os x.rest x.later
entries_shape (f ∷ fs) (None ∷ os) es e = let x = field_from f fs None os es e in (x.absent refl, entries_shape fs os x.rest x.later)

absent_shape : (fs : List Field) (os : List (Option Data)) → are_absent fs os ≡ true → Shape fs os
absent_shape [] [] e = tt
absent_shape [] (o ∷ os) e = absurd cc
absent_shape (f ∷ fs) [] e = absurd cc
absent_shape (f ∷ fs) (Some d ∷ os) e = absurd cc
absent_shape (f ∷ fs) (None ∷ os) e = let x = and_parts f.optional (are_absent fs os) e in (x.0, absent_shape fs os x.1)

tuple_shape : (fs : List Field) (os : List (Option Data)) (ds : List Data) → tuple_items fs os ≡ Some ds → Shape fs os
tuple_shape [] [] ds e = tt
tuple_shape [] (o ∷ os) ds e = absurd (none-some ds e)
tuple_shape (f ∷ fs) [] ds e = absurd (none-some ds e)
tuple_shape (f ∷ fs) (Some d ∷ os) ds e = let x = map_from (λ xs. d ∷ xs) (tuple_items fs os) ds e in tuple_shape fs os x.item x.there
tuple_shape (f ∷ fs) (None ∷ os) ds e = absent_shape (f ∷ fs) (None ∷ os) (true_from (are_absent (f ∷ fs) (None ∷ os)) [] ds e).0

all_shape : (fs : List Field) (os : List (Option Data)) (ds : List Data) → all_items fs os ≡ Some ds → Shape fs os
all_shape [] [] ds e = tt
all_shape [] (o ∷ os) ds e = absurd (none-some ds e)
all_shape (f ∷ fs) [] ds e = absurd (none-some ds e)
all_shape (f ∷ fs) (Some d ∷ os) ds e = let x = map_from (λ xs. d ∷ xs) (all_items fs os) ds e in all_shape fs os x.item x.there
all_shape (f ∷ fs) (None ∷ os) ds e = absurd (none-some ds e)

struct_shape : (form : StructForm) (fs : List Field) (os : List (Option Data)) (t : Data) → struct_form form fs os ≡ Some t → Shape fs os
struct_shape S.Map fs os t e = let x = map_from (λ es. map_data (in_key_order es)) (field_entries fs os) t e in entries_shape fs os x.item x.there
struct_shape S.Tuple fs os t e = let x = map_from (λ ds. T.list (T.items_of ds)) (tuple_items fs os) t e in tuple_shape fs os x.item x.there
struct_shape S.ListPairs fs os t e = let x = map_from listpairs (field_entries fs os) t e in entries_shape fs os x.item x.there
struct_shape (S.StringPairs inner entry) fs os t e = let x = then_from (stringpairs inner entry) (field_entries fs os) t e in entries_shape fs os x.item x.there
struct_shape (S.StringJoin delim) fs os t e = let x = then_from (stringjoin delim) (all_items fs os) t e in all_shape fs os x.item x.there

-- ---- parts that all show

module _ (rows : List Row) (below : Slot → Value → Type 0) where
  abbrev Good : Spot → Type 0
  Good p = RepresentsSome below rows p.slot p.tree

  elements_good : (elem : Slot) (n : ℕ) (ds : List Data) → AllByRecursion Good (element_spots elem n ds) → Elements rows below elem ds
  elements_good elem n [] all = tt
  elements_good elem n (d ∷ ds) all = (all.0, elements_good elem (n + 1) ds all.1)

  entries_good : (form : MapForm) (key : TypeNo) (value : Slot) (i : ℕ) (es : List (List ℕ × Data)) → AllByRecursion (λ p. IsTree p.tree) (entry_spots form key value i es)
      → AllByRecursion Good (entry_spots form key value i es) → AllByRecursion (Entry rows below key value) es
  entries_good form key value i [] trees all = tt
  entries_good form key value i (e ∷ es) trees all = ((trees.0, all.0, all.1.0), entries_good form key value (i + 1) es trees.1.1 all.1.1)

  fields_good : (form : StructForm) (n : ℕ) (fs : List Field) (os : List (Option Data)) → Shape fs os → AllByRecursion Good (field_spots form n fs os) → Fields rows below fs os
  fields_good form n [] [] shape all = tt
  fields_good form n [] (o ∷ os) shape all = absurd shape
  fields_good form n (f ∷ fs) [] shape all = absurd shape
  fields_good form n (f ∷ fs) (None ∷ os) shape all = (shape.0, fields_good form n fs os shape.1 all)
  fields_good form n (f ∷ fs) (Some d ∷ os) shape all = by (is_implicit f.implicit d) all (λ m. fields_good form m fs os shape) where
    by : (b : Bool) → AllByRecursion Good (cond b (value_spot f.slot d [] ∷ field_spots form n fs os) (value_spot f.slot d (field_steps form f n) ∷ field_spots form (n + 1) fs os))
        → ((m : ℕ) → AllByRecursion Good (field_spots form m fs os) → Fields rows below fs os) → RepresentsSome below rows f.slot d × Fields rows below fs os
    by true h more = (h.0, more n h.1)
    by false h more = (h.0, more (n + 1) h.1)

  split_all : (ps qs : List Spot) → AllByRecursion Good (ps ++ qs) → AllByRecursion Good ps × AllByRecursion Good qs
  split_all [] qs all = (tt, all)
  split_all (p ∷ ps) qs all = let x = split_all ps qs all.1 in ((all.0, x.0), x.1)

  module _ (key : TypeNo) (value : Slot) where
    abbrev Both : List ℕ × Data → Type 0
    Both e = RepresentsSome below rows (plainly key) (T.text e.0) × RepresentsSome below rows value e.1

    join_all : (es fs : List (List ℕ × Data)) → AllByRecursion Both es → AllByRecursion Both fs → AllByRecursion Both (es ++ fs)
    join_all [] fs a b = b
    join_all (e ∷ es) fs a b = (a.0, join_all es fs a.1 b)

    bucket_good : (n i : ℕ) (es : List (List ℕ × Data)) → AllByRecursion Good (bucket_spots key value n i es) → AllByRecursion Both es
    bucket_good n i [] all = tt
    bucket_good n i (e ∷ es) all = ((all.0, all.1.0), bucket_good n (i + 1) es all.1.1)

    root_good : (n : ℕ) (slots : List Trie.TrieSlot) → AllByRecursion Good (root_spots key value n slots) → AllByRecursion Both (entries_in slots)
    root_good n [] all = tt
    root_good n (Trie.empty ∷ slots) all = root_good n slots all
    root_good n (Trie.bucket es ∷ slots) all =
        let x = split_all (bucket_spots key value n 0 es) (root_spots key value (n + 1) slots) all in
        join_all es (entries_in slots) (bucket_good n 0 es x.0) (root_good (n + 1) slots x.1)
    root_good n (Trie.child id ∷ slots) all = root_good (n + 1) slots all

-- ---- values without parts

not_null : (x t : Data) → any_data x ≡ Some t → IsNotNull t
not_null T.null t e = absurd (none-some t e)
not_null (T.boolean b) t e = subst IsNotNull (same_Some (T.boolean b) t e) tt
not_null (T.integer n) t e = subst IsNotNull (same_Some (T.integer n) t e) tt
not_null (T.text s) t e = subst IsNotNull (same_Some (T.text s) t e) tt
not_null (T.bytes s) t e = subst IsNotNull (same_Some (T.bytes s) t e) tt
not_null (T.list ds) t e = subst IsNotNull (same_Some (T.list ds) t e) tt
not_null (T.map ms) t e = subst IsNotNull (same_Some (T.map ms) t e) tt
not_null (T.link s) t e = subst IsNotNull (same_Some (T.link s) t e) tt

module _ (rows : List Row) (room : ℕ) (below : ℕ → Slot → Value → Type 0) (s : Slot) (t : Data) (tree : IsTree t) where
  null_shows : is_null_there s t ≡ true → RepresentsSome (ValueFits rows room below) rows s t
  null_shows e = by t e where
    by : (u : Data) → is_null_there s u ≡ true → RepresentsSome (ValueFits rows room below) rows s u
    by T.null h = (V.null, h, ap (λ b. cond b (Some T.null) None) h)
    by u h = absurd cc

  bool_shows : (l : Layer Data) → form_of rows s ≡ Some D.Bool → needs D.Bool t ≤ room → composed alone D.Bool l ≡ Some t → RepresentsSome (ValueFits rows room below) rows s t
  bool_shows l is fits made =
      let x = map_from T.boolean (as_boolean l) t made in (
        V.boolean x.item,
        subst (λ o. IsSomeAnd o (FormFits rows room below (V.boolean x.item))) (sym is) (fits, tt),
        ap (λ o. layered alone o (Some (L.boolean x.item))) is ∙ x.made,
      )

  text_shows : (l : Layer Data) → form_of rows s ≡ Some D.Text → needs D.Text t ≤ room → composed alone D.Text l ≡ Some t → RepresentsSome (ValueFits rows room below) rows s t
  text_shows l is fits made =
      let x = map_from T.text (as_text l) t made in (
        V.text x.item,
        subst (λ o. IsSomeAnd o (FormFits rows room below (V.text x.item))) (sym is) (fits, subst IsTree (sym (same_Some (T.text x.item) t x.made)) tree),
        ap (λ o. layered alone o (Some (L.text x.item))) is ∙ x.made,
      )

  bytes_shows : (l : Layer Data) → form_of rows s ≡ Some D.Bytes → needs D.Bytes t ≤ room → composed alone D.Bytes l ≡ Some t → RepresentsSome (ValueFits rows room below) rows s t
  bytes_shows l is fits made =
      let x = map_from T.bytes (as_bytes l) t made in (
        V.bytes x.item,
        subst (λ o. IsSomeAnd o (FormFits rows room below (V.bytes x.item))) (sym is) (fits, subst IsTree (sym (same_Some (T.bytes x.item) t x.made)) tree),
        ap (λ o. layered alone o (Some (L.bytes x.item))) is ∙ x.made,
      )

  int_shows : (l : Layer Data) → form_of rows s ≡ Some D.Int → needs D.Int t ≤ room → composed alone D.Int l ≡ Some t → RepresentsSome (ValueFits rows room below) rows s t
  int_shows l is fits made =
      let x = map_from T.integer (as_integer l) t made in (
        V.integer x.item,
        subst (λ o. IsSomeAnd o (FormFits rows room below (V.integer x.item))) (sym is) (fits, subst IsTree (sym (same_Some (T.integer x.item) t x.made)) tree),
        ap (λ o. layered alone o (Some (L.integer x.item))) is ∙ x.made,
      )

  link_shows : (target : TypeNo) → (l : Layer Data) → form_of rows s ≡ Some (D.Link target) → needs (D.Link target) t ≤ room → composed alone (D.Link target) l ≡ Some t → RepresentsSome (ValueFits rows room below) rows s t
  link_shows target l is fits made =
      let x = map_from T.link (as_link l) t made in (
        V.link x.item,
        subst (λ o. IsSomeAnd o (FormFits rows room below (V.link x.item))) (sym is) (fits, subst IsTree (sym (same_Some (T.link x.item) t x.made)) tree),
        ap (λ o. layered alone o (Some (L.link x.item))) is ∙ x.made,
      )

  any_shows : (l : Layer Data) → form_of rows s ≡ Some D.Any → needs D.Any t ≤ room → composed alone D.Any l ≡ Some t → RepresentsSome (ValueFits rows room below) rows s t
  any_shows l is fits made =
      let x = then_from any_data (as_any l) t made in
      let same : x.item ≡ t = any_is x.item t x.made in (
        V.any x.item,
        subst (λ o. IsSomeAnd o (FormFits rows room below (V.any x.item))) (sym is)
            (subst (λ y. depth y ≤ room) (sym same) fits, (subst IsTree (sym same) tree, subst IsNotNull (sym same) (not_null x.item t x.made))),
        ap (λ o. layered alone o (Some (L.any x.item))) is ∙ x.made,
      )

  unit_shows : (form : UnitForm) (l : Layer Data) → form_of rows s ≡ Some (D.Unit form) → needs (D.Unit form) t ≤ room → composed alone (D.Unit form) l ≡ Some t → RepresentsSome (ValueFits rows room below) rows s t
  unit_shows form l is fits made =
      let x = map_from (λ u. unit_data form) (as_unit l) t made in (
        V.unit,
        subst (λ o. IsSomeAnd o (FormFits rows room below V.unit)) (sym is) (fits, tt),
        ap (λ o. layered alone o (Some L.unit)) is ∙ x.made,
      )

  enum_shows : (e : EnumDef) (l : Layer Data) → form_of rows s ≡ Some (D.Enum e) → needs (D.Enum e) t ≤ room → composed alone (D.Enum e) l ≡ Some t → RepresentsSome (ValueFits rows room below) rows s t
  enum_shows e l is fits made =
      let x = then_from (λ n. option_and_then (enum_form e.form) (slice_get e.members n)) (as_enum l) t made in
      let y = then_from (enum_form e.form) (slice_get e.members x.item) t x.made in (
        V.enum x.item,
        subst (λ o. IsSomeAnd o (FormFits rows room below (V.enum x.item))) (sym is) (fits, got_below e.members x.item y.item y.there),
        ap (λ o. layered alone o (Some (L.enum x.item))) is ∙ x.made,
      )

-- ---- data whose parts all show

-- not a HAMT
abbrev IsOther : TypeDef → Type 0
IsOther (D.Map key key_at value at (MF.Hamt p)) = ⊥
IsOther d = Unit {0}

module _ (rows : List Row) (clear : IsClear rows) (delims : AllDelims rows) (room : ℕ) (s : Slot) (t : Data) (tree : IsTree t) where
  abbrev Whole : Type 0
  Whole = RepresentsSome (FitsPast rows (suc room) zero) rows s t

  abbrev PartsGood : TypeDef → List Spot → Type 0
  PartsGood d ps = AllByRecursion (Good rows (FitsPast rows room (needs d t - 1))) ps

  abbrev PartTrees : List Spot → Type 0
  PartTrees ps = AllByRecursion (λ p. IsTree p.tree) ps

  map_give : (key : TypeNo) (key_at : ℕ) (value : Slot) (at : ℕ) (form : MapForm) (l : Layer Data) (es : List (List ℕ × Data)) → form_of rows s ≡ Some (D.Map key key_at value at form)
      → needs (D.Map key key_at value at form) t ≤ suc room → l ≡ L.map es → map_form alone form (L.map es) ≡ Some t → AreKeys form es
      → PartTrees (spots_of (D.Map key key_at value at form) l) → PartsGood (D.Map key key_at value at form) (spots_of (D.Map key key_at value at form) l) → Whole
  map_give key key_at value at form l es is fits same made keys trees all =
      let own : TypeDef = D.Map key key_at value at form in
      let below = FitsPast rows room (needs own t - 1) in
      map_shows rows clear room s key key_at value at form is es t made fits keys
      (entries_good rows below form key value 0 es (subst (λ k. PartTrees (spots_of own k)) same trees) (subst (λ k. PartsGood own (spots_of own k)) same all))

  whole_give : (d : TypeDef) (l : Layer Data) → form_of rows s ≡ Some d → Free (suc room) d t → IsOther d → composed alone d l ≡ Some t → PartTrees (spots_of d l) → PartsGood d (spots_of d l) → Whole
  unfolding FitsPast
  whole_give D.Bool l is free other made trees all = bool_shows rows (suc room) (FitsPast rows room) s t tree l is free.enough made
  whole_give D.Text l is free other made trees all = text_shows rows (suc room) (FitsPast rows room) s t tree l is free.enough made
  whole_give D.Bytes l is free other made trees all = bytes_shows rows (suc room) (FitsPast rows room) s t tree l is free.enough made
  whole_give D.Int l is free other made trees all = int_shows rows (suc room) (FitsPast rows room) s t tree l is free.enough made
  whole_give D.Any l is free other made trees all = any_shows rows (suc room) (FitsPast rows room) s t tree l is free.enough made
  whole_give (D.Link target) l is free other made trees all = link_shows rows (suc room) (FitsPast rows room) s t tree target l is free.enough made
  whole_give (D.Unit form) l is free other made trees all = unit_shows rows (suc room) (FitsPast rows room) s t tree form l is free.enough made
  whole_give (D.Enum e) l is free other made trees all = enum_shows rows (suc room) (FitsPast rows room) s t tree e l is free.enough made
  whole_give (D.Copy target) l is free other made trees all = absurd (none-some t made)
  whole_give (D.List elem at) l is free other made trees all =
      let own : TypeDef = D.List elem at in
      let x = map_from (λ ds. T.list (T.items_of ds)) (as_list l) t made in
      let good = elements_good rows (FitsPast rows room zero) elem 0 x.item (subst (λ k. PartsGood own (spots_of own k)) (only_list l x.item x.there) all) in
      subst (λ u. RepresentsSome (FitsPast rows (suc room) zero) rows s u) (same_Some (T.list (T.items_of x.item)) t x.made) (list_shows rows clear room s elem at x.item is good)
  whole_give (D.Struct st) l is free other made trees all =
      let own : TypeDef = D.Struct st in
      let x = then_from (struct_form st.form st.fields) (as_struct l) t made in
      let good = fields_good rows (FitsPast rows room (needs own t - 1)) st.form 0 st.fields x.item (struct_shape st.form st.fields x.item t x.made)
      (subst (λ k. PartsGood own (spots_of own k)) (only_struct l x.item x.there) all) in
      struct_shows rows clear room s st t x.item is x.made free.enough good
  whole_give (D.Union u) l is free other made trees all =
      let own : TypeDef = D.Union u in
      let x = then_from (union_form u.form u.members) (as_union l) t made in
      let y = then_from (member_form u.form x.item.1) (slice_get u.members x.item.0) t x.made in
      let good = subst (λ k. PartsGood own (spots_of own k)) (only_union l x.item x.there) all in
      let own_part = subst (λ o. PartsGood own (option_map_or (member_spots u.form x.item.1) o [])) y.there good in
      union_shows rows clear room s u x.item.0 y.item x.item.1 t is y.there x.made own_part.0
  whole_give (D.Map key key_at value at MF.Map) l is free other made trees all =
      let x = map_from map_data (as_map l) t made in
      let up : KeysRise (map_data x.item) = subst KeysRise (sym (same_Some (map_data x.item) t x.made)) (keys_rise t tree) in
      map_give key key_at value at MF.Map l x.item is free.enough (only_map l x.item x.there) x.made (subst Rises (members_list-members_of x.item) up) trees all
  whole_give (D.Map key key_at value at MF.ListPairs) l is free other made trees all =
      let x = map_from listpairs (as_map l) t made in
      let once : repeats_key MF.ListPairs t ≡ false = cond_none (repeats_key MF.ListPairs t) W.Repeat free.keys in
      let apart = once_apart x.item (sym (ap (where_some has_twice) (pairs_names x.item)) ∙ ap (repeats_key MF.ListPairs) (same_Some (listpairs x.item) t x.made) ∙ once) in
      map_give key key_at value at MF.ListPairs l x.item is free.enough (only_map l x.item x.there) x.made apart trees all
  whole_give (D.Map key key_at value at (MF.StringPairs inner entry)) l is free other made trees all =
      let own : TypeDef = D.Map key key_at value at (MF.StringPairs inner entry) in
      let x = then_from (stringpairs inner entry) (as_map l) t made in
      let once : repeats_key (MF.StringPairs inner entry) t ≡ false = cond_none (repeats_key (MF.StringPairs inner entry) t) W.Repeat free.keys in
      let split = split_of_pairs inner entry (clear.types (base rows s.ty.0) own is) (delims (base rows s.ty.0) own is) x.item t x.made in
      let apart = once_apart x.item (sym (ap (where_some (λ es. has_twice (names es))) split.entries) ∙ once) in
      map_give key key_at value at (MF.StringPairs inner entry) l x.item is free.enough (only_map l x.item x.there) x.made apart trees all
  whole_give (D.Map key key_at value at (MF.Hamt p)) l is free other made trees all = absurd other

  -- the root of a HAMT
  root_give : (p : HamtShape) (key : TypeNo) (key_at : ℕ) (value : Slot) (at : ℕ) → form_of rows s ≡ Some (D.Map key key_at value at (MF.Hamt p)) → 5 ≤ suc room → (slots : List Trie.TrieSlot) → IsRoot p slots t
      → AllByRecursion (Good rows (FitsPast rows room 4)) (root_spots key value 0 slots) → Whole
  root_give p key key_at value at is five slots root all =
      let inner : (ms : T.Members) × (t ≡ T.map ms) = (_, root.tree) in
      let good = root_good rows (FitsPast rows room 4) key value 0 slots all in
      subst (λ u. RepresentsSome (FitsPast rows (suc room) zero) rows s u) (sym inner.1)
      (hamt_shows rows clear room s p key key_at value at inner.0 is five (slots, subst (IsRoot p slots) inner.1 root, good))

-- ---- the walk

other_parts : (d : TypeDef) → IsOther d → (l : Layer Data) (t : Data) → composed alone d l ≡ Some t → AreParts d t (spots_of d l)
other_parts D.Bool other l t e = (l, e, refl)
other_parts D.Text other l t e = (l, e, refl)
other_parts D.Bytes other l t e = (l, e, refl)
other_parts D.Int other l t e = (l, e, refl)
other_parts D.Any other l t e = (l, e, refl)
other_parts (D.Link target) other l t e = (l, e, refl)
other_parts (D.Unit form) other l t e = (l, e, refl)
other_parts (D.List elem at) other l t e = (l, e, refl)
other_parts (D.Map key key_at value at MF.Map) other l t e = (l, e, refl)
other_parts (D.Map key key_at value at MF.ListPairs) other l t e = (l, e, refl)
other_parts (D.Map key key_at value at (MF.StringPairs inner entry)) other l t e = (l, e, refl)
other_parts (D.Struct st) other l t e = (l, e, refl)
other_parts (D.Union u) other l t e = (l, e, refl)
other_parts (D.Enum en) other l t e = (l, e, refl)
other_parts (D.Copy target) other l t e = (l, e, refl)
other_parts (D.Map key key_at value at (MF.Hamt p)) other l t e = absurd other

data Form (d : TypeDef) : Type 0 where
  other_form : IsOther d → Form d
  hamt_form : (p : HamtShape) (key : TypeNo) (key_at : ℕ) (value : Slot) (at : ℕ) → d ≡ D.Map key key_at value at (MF.Hamt p) → Form d

form_is : (d : TypeDef) → Form d
form_is D.Bool = other_form tt
form_is D.Text = other_form tt
form_is D.Bytes = other_form tt
form_is D.Int = other_form tt
form_is D.Any = other_form tt
form_is (D.Link target) = other_form tt
form_is (D.Unit form) = other_form tt
form_is (D.List elem at) = other_form tt
form_is (D.Map key key_at value at MF.Map) = other_form tt
form_is (D.Map key key_at value at MF.ListPairs) = other_form tt
form_is (D.Map key key_at value at (MF.StringPairs inner entry)) = other_form tt
form_is (D.Struct st) = other_form tt
form_is (D.Union u) = other_form tt
form_is (D.Enum en) = other_form tt
form_is (D.Copy target) = other_form tt
form_is (D.Map key key_at value at (MF.Hamt p)) = hamt_form p key key_at value at refl

module _ (rows : List Row) (fits : Slot → Value → Type 0) (refused : Slot → Data → Refusal → Type 0) where
  abbrev Judged : Spot → Type 0
  Judged p = RepresentsSome fits rows p.slot p.tree ⊎ ((q : Refusal) × refused p.slot p.tree q)

  scan : (ps : List Spot) → AllByRecursion Judged ps → AllByRecursion (Good rows fits) ps ⊎ ((r : Refusal) × FirstRefused fits refused rows ps r)
  scan [] all = inl tt
  scan (p ∷ ps) all = by all.0 (scan ps all.1) where
    by : Judged p → AllByRecursion (Good rows fits) ps ⊎ ((r : Refusal) × FirstRefused fits refused rows ps r)
        → AllByRecursion (Good rows fits) (p ∷ ps) ⊎ ((r : Refusal) × FirstRefused fits refused rows (p ∷ ps) r)
    by (inr (q, h)) rest = inr (part_refusal p q, inl (q, h, refl))
    by (inl h) (inl good) = inl (h, good)
    by (inl h) (inr (r, first)) = inr (r, inr (h, first))

  judge : ((s : Slot) (t : Data) → HasForm rows s → IsTree t → RepresentsSome fits rows s t ⊎ ((q : Refusal) × refused s t q))
      → (ps : List Spot) → AllByRecursion (λ p. HasForm rows p.slot) ps → AllByRecursion (λ p. IsTree p.tree) ps → AllByRecursion Judged ps
  judge each [] forms trees = tt
  judge each (p ∷ ps) forms trees = (each p.slot p.tree forms.0 trees.0, judge each ps forms.1 trees.1)

-- without room
flat_give : (rows : List Row) (s : Slot) (t : Data) → IsTree t → (d : TypeDef) (l : Layer Data) → form_of rows s ≡ Some d → needs d t ≤ 0 → composed alone d l ≡ Some t
    → RepresentsSome (FitsPast rows zero zero) rows s t
unfolding FitsPast
flat_give rows s t tree D.Bool l is fits made = bool_shows rows zero (λ over u w. ⊥) s t tree l is fits made
flat_give rows s t tree D.Text l is fits made = text_shows rows zero (λ over u w. ⊥) s t tree l is fits made
flat_give rows s t tree D.Bytes l is fits made = bytes_shows rows zero (λ over u w. ⊥) s t tree l is fits made
flat_give rows s t tree D.Int l is fits made = int_shows rows zero (λ over u w. ⊥) s t tree l is fits made
flat_give rows s t tree D.Any l is fits made = any_shows rows zero (λ over u w. ⊥) s t tree l is fits made
flat_give rows s t tree (D.Link target) l is fits made = link_shows rows zero (λ over u w. ⊥) s t tree target l is fits made
flat_give rows s t tree (D.Enum e) l is fits made = enum_shows rows zero (λ over u w. ⊥) s t tree e l is fits made
flat_give rows s t tree (D.Copy target) l is fits made = absurd (none-some t made)
flat_give rows s t tree (D.Unit form) l is fits made = absurd (omega (arith, fits))
flat_give rows s t tree (D.List elem at) l is fits made = absurd (omega (arith, fits))
flat_give rows s t tree (D.Union u) l is fits made = absurd (omega (arith, fits))
flat_give rows s t tree (D.Map key key_at value at MF.Map) l is fits made = absurd (omega (arith, fits))
flat_give rows s t tree (D.Map key key_at value at MF.ListPairs) l is fits made = absurd (omega (arith, fits))
flat_give rows s t tree (D.Map key key_at value at (MF.StringPairs inner entry)) l is fits made = absurd (omega (arith, fits))
flat_give rows s t tree (D.Map key key_at value at (MF.Hamt p)) l is fits made = absurd (omega (arith, fits))
flat_give rows s t tree (D.Struct st) l is fits made = by st.form fits where
  by : (form : StructForm) → struct_levels form ≤ 0 → RepresentsSome (FitsPast rows zero zero) rows s t
  by S.Map h = absurd (omega (arith, h))
  by S.Tuple h = absurd (omega (arith, h))
  by S.ListPairs h = absurd (omega (arith, h))
  by (S.StringPairs inner entry) h = absurd (omega (arith, h))
  by (S.StringJoin delim) h = absurd (omega (arith, h))

module _ (rows : List Row) (clear : IsClear rows) (delims : AllDelims rows)
    (trees : (s : Slot) (d : TypeDef) (t : Data) (ps : List Spot) → form_of rows s ≡ Some d → AreParts d t ps → IsTree t → AllByRecursion (λ p. IsTree p.tree) ps)
    (forms : (s : Slot) (d : TypeDef) (t : Data) (ps : List Spot) → form_of rows s ≡ Some d → AreParts d t ps → AllByRecursion (λ p. HasForm rows p.slot) ps) where
  abbrev Answer : ℕ → ℕ → Slot → Data → Type 0
  Answer room over s t = RepresentsSome (FitsPast rows room over) rows s t ⊎ ((r : Refusal) × RefusedPast rows room over s t r)

  there_is : (s : Slot) (t : Data) → IsTree t → (d : TypeDef) → form_of rows s ≡ Some d → why_of d t ≡ None → LayerFor d t
  there_is s t tree d is own = layer_for d (clear.types (base rows s.ty.0) d is) (delims (base rows s.ty.0) d is) t (keys_rise t tree) (clean_of d t own)

  enough_less : (room n : ℕ) → n ≤ suc room → n - 1 ≤ room
  enough_less room n h = omega (arith, h)

  flat : (s : Slot) (t : Data) → HasForm rows s → IsTree t → Answer zero zero s t
  unfolding FitsPast RefusedPast
  flat s t (d, is) tree = by (is_null_there s t) refl (why_at zero d t) refl where
    by : (b : Bool) → is_null_there s t ≡ b → (o : Option Why) → why_at zero d t ≡ o → Answer zero zero s t
    by true null o e = inl (null_shows rows zero (λ over u w. ⊥) s t tree null)
    by false there (Some w) e = inr (record { ty = s.ty; why = w; at = [] }, (there, d, is, inl (w, inl e, refl)))
    by false there None e =
        let f = free zero d t e in
        let x = there_is s t tree d is f.own in
        inl (flat_give rows s t tree d x.layer is f.enough x.there)

  step : (room : ℕ) → ((over : ℕ) (s : Slot) (t : Data) → over ≤ room → HasForm rows s → IsTree t → Answer room over s t)
      → (s : Slot) (t : Data) → HasForm rows s → IsTree t → Answer (suc room) zero s t
  unfolding FitsPast RefusedPast
  step room each s t (d, is) tree = by (is_null_there s t) refl (why_at (suc room) d t) refl where
    judged : Free (suc room) d t → (ps : List Spot) → AreParts d t ps
        → AllByRecursion (Good rows (FitsPast rows room (needs d t - 1))) ps ⊎ ((r : Refusal) × FirstRefused (FitsPast rows room (needs d t - 1)) (RefusedPast rows room (needs d t - 1)) rows ps r)
    judged f ps parts =
        scan rows (FitsPast rows room (needs d t - 1)) (RefusedPast rows room (needs d t - 1)) ps
        (judge rows (FitsPast rows room (needs d t - 1)) (RefusedPast rows room (needs d t - 1))
        (λ u c form fine. each (needs d t - 1) u c (enough_less room (needs d t) f.enough) form fine)
        ps (forms s d t ps is parts) (trees s d t ps is parts tree))

    others : is_null_there s t ≡ false → why_at (suc room) d t ≡ None → Free (suc room) d t → IsOther d → LayerFor d t → Answer (suc room) zero s t
    others there none f other x =
        let parts = other_parts d other x.layer t x.there in
        pick (judged f (spots_of d x.layer) parts)
      where
        pick : AllByRecursion (Good rows (FitsPast rows room (needs d t - 1))) (spots_of d x.layer)
            ⊎ ((r : Refusal) × FirstRefused (FitsPast rows room (needs d t - 1)) (RefusedPast rows room (needs d t - 1)) rows (spots_of d x.layer) r) → Answer (suc room) zero s t
        pick (inl good) =
            let parts = other_parts d other x.layer t x.there in
            inl (whole_give rows clear delims room s t tree d x.layer is f other x.there (trees s d t (spots_of d x.layer) is parts tree) good)
        pick (inr (r, first)) = inr (r, (there, d, is, inr (none, spots_of d x.layer, other_parts d other x.layer t x.there, first)))

    hamts : is_null_there s t ≡ false → why_at (suc room) d t ≡ None → Free (suc room) d t → (p : HamtShape) (key : TypeNo) (key_at : ℕ) (value : Slot) (at : ℕ) → d ≡ D.Map key key_at value at (MF.Hamt p)
        → ((slots : List Trie.TrieSlot) × IsRoot p slots t) ⊎ IsNoRoot p t → Answer (suc room) zero s t
    hamts there none f p key key_at value at same (inr rootless) =
        inr (record { ty = s.ty; why = W.Trie; at = [] }, (there, d, is, inl (W.Trie, inr (none, subst (λ k. HasNoRoot k t) (sym same) rootless, refl), refl)))
    hamts there none f p key key_at value at same (inl (slots, root)) =
        let parts : AreParts d t (root_spots key value 0 slots) = subst (λ k. AreParts k t (root_spots key value 0 slots)) (sym same) (slots, root, refl) in
        pick parts (judged f (root_spots key value 0 slots) parts)
      where
        pick : AreParts d t (root_spots key value 0 slots) → AllByRecursion (Good rows (FitsPast rows room (needs d t - 1))) (root_spots key value 0 slots)
            ⊎ ((r : Refusal) × FirstRefused (FitsPast rows room (needs d t - 1)) (RefusedPast rows room (needs d t - 1)) rows (root_spots key value 0 slots) r) → Answer (suc room) zero s t
        pick parts (inl good) =
            let five : 5 ≤ suc room = subst (λ k. needs k t ≤ suc room) same f.enough in
            inl (root_give rows clear delims room s t tree p key key_at value at (is ∙ ap Some same) five slots root
            (subst (λ k. AllByRecursion (Good rows (FitsPast rows room (needs k t - 1))) (root_spots key value 0 slots)) same good))
        pick parts (inr (r, first)) = inr (r, (there, d, is, inr (none, root_spots key value 0 slots, parts, first)))

    by : (b : Bool) → is_null_there s t ≡ b → (o : Option Why) → why_at (suc room) d t ≡ o → Answer (suc room) zero s t
    by true null o e = inl (null_shows rows (suc room) (FitsPast rows room) s t tree null)
    by false there (Some w) e = inr (record { ty = s.ty; why = w; at = [] }, (there, d, is, inl (w, inl e, refl)))
    by false there None e = let f = free (suc room) d t e in go f (form_is d) where
      go : Free (suc room) d t → Form d → Answer (suc room) zero s t
      go f (other_form other) = others there e f other (there_is s t tree d is f.own)
      go f (hamt_form p key key_at value at same) = hamts there e f p key key_at value at same (root_or_none p t tree)

  pub total : (room over : ℕ) (s : Slot) (t : Data) → over ≤ room → HasForm rows s → IsTree t → Answer room over s t
  unfolding FitsPast RefusedPast
  total zero zero s t h form tree = flat s t form tree
  total zero (suc over) s t h form tree = absurd (omega (arith, h))
  total (suc room) zero s t h form tree = step room (total room) s t form tree
  total (suc room) (suc over) s t h form tree = total room over s t (omega (arith, h)) form tree

  pub front_or_refused : (room : ℕ) (s : Slot) → HasForm rows s → (t : Data) → IsTree t → ((f : Value) × Front rows room s f t) ⊎ ((r : Refusal) × Refused rows room s t r)
  front_or_refused room s form t tree = by (total room zero s t (omega arith) form tree) where
    by : Answer room zero s t → ((f : Value) × Front rows room s f t) ⊎ ((r : Refusal) × Refused rows room s t r)
    by (inl (f, fits, shows)) = inl (f, record { fits = fits; tree = shows })
    by (inr h) = inr h

-- ---- data of which all causes were asked, and whose parts all show

-- the parts of data that are no HAMT's root
parts_from : (d : TypeDef) → IsOther d → (t : Data) (ps : List Spot) → AreParts d t ps → (l : Layer Data) × (composed alone d l ≡ Some t) × (ps ≡ spots_of d l)
parts_from D.Bool other t ps h = h
parts_from D.Text other t ps h = h
parts_from D.Bytes other t ps h = h
parts_from D.Int other t ps h = h
parts_from D.Any other t ps h = h
parts_from (D.Link target) other t ps h = h
parts_from (D.Unit form) other t ps h = h
parts_from (D.List elem at) other t ps h = h
parts_from (D.Map key key_at value at MF.Map) other t ps h = h
parts_from (D.Map key key_at value at MF.ListPairs) other t ps h = h
parts_from (D.Map key key_at value at (MF.StringPairs inner entry)) other t ps h = h
parts_from (D.Struct st) other t ps h = h
parts_from (D.Union u) other t ps h = h
parts_from (D.Enum en) other t ps h = h
parts_from (D.Copy target) other t ps h = h
parts_from (D.Map key key_at value at (MF.Hamt p)) other t ps h = absurd other

-- what fits in a room fits where so much more is passed over
pub past_fits : (rows : List Row) (over room n : ℕ) → n ≡ room + over → (s : Slot) (v : Value) → FitsPast rows room zero s v → FitsPast rows n over s v
unfolding FitsPast
past_fits rows zero room n e s v h = let same : room ≡ n = omega (arith, e) in subst (λ k. FitsPast rows k zero s v) same h
past_fits rows (suc over) room zero e s v h = absurd (omega (arith, e))
past_fits rows (suc over) room (suc n) e s v h = past_fits rows over room n (omega (arith, e)) s v h

module _ (rows : List Row) (s : Slot) (t : Data) (tree : IsTree t) where
  pub null_fits : (room : ℕ) → is_null_there s t ≡ true → RepresentsSome (FitsPast rows room zero) rows s t
  unfolding FitsPast
  null_fits zero e = null_shows rows zero (λ over u w. ⊥) s t tree e
  null_fits (suc room) e = null_shows rows (suc room) (FitsPast rows room) s t tree e

  module _ (clear : IsClear rows) (delims : AllDelims rows) (d : TypeDef) (is : form_of rows s ≡ Some d) where
    fits_given : (room : ℕ) → why_at (suc room) d t ≡ None → (ps : List Spot) → AreParts d t ps → AllByRecursion (λ p. IsTree p.tree) ps
        → AllByRecursion (Good rows (FitsPast rows room (needs d t - 1))) ps → RepresentsSome (FitsPast rows (suc room) zero) rows s t
    fits_given room none ps parts trees all = by (form_is d) where
      by : Form d → RepresentsSome (FitsPast rows (suc room) zero) rows s t
      by (other_form other) =
          let x = parts_from d other t ps parts in
          whole_give rows clear delims room s t tree d x.0 is (free (suc room) d t none) other x.1
          (subst (AllByRecursion (λ p. IsTree p.tree)) x.2 trees) (subst (AllByRecursion (Good rows (FitsPast rows room (needs d t - 1)))) x.2 all)
      by (hamt_form p key key_at value at same) =
          let x : (slots : List Trie.TrieSlot) × IsRoot p slots t × (ps ≡ root_spots key value 0 slots) = subst (λ k. AreParts k t ps) same parts in
          let five : 5 ≤ suc room = subst (λ k. needs k t ≤ suc room) same (free (suc room) d t none).enough in
          let good = subst (λ k. AllByRecursion (Good rows (FitsPast rows room (needs k t - 1))) ps) same all in
          root_give rows clear delims room s t tree p key key_at value at (is ∙ ap Some same) five x.0 x.1 (subst (AllByRecursion (Good rows (FitsPast rows room 4))) x.2 good)

    -- without parts
    pub plain_fits : (room : ℕ) → why_at room d t ≡ None → AreParts d t [] → RepresentsSome (FitsPast rows room zero) rows s t
    plain_fits (suc room) none parts = fits_given room none [] parts tt tt
    plain_fits zero none parts = by (form_is d) where
      by : Form d → RepresentsSome (FitsPast rows zero zero) rows s t
      by (other_form other) = let x = parts_from d other t [] parts in flat_give rows s t tree d x.0 is (free zero d t none).enough x.1
      by (hamt_form p key key_at value at same) =
          let five : 5 ≤ zero = subst (λ k. needs k t ≤ zero) same (free zero d t none).enough in
          absurd (omega (arith, five))

    -- with parts, in what room the form leaves
    pub parts_fit : (room left : ℕ) → why_at room d t ≡ None → (ps : List Spot) → AreParts d t ps → AllByRecursion (λ p. IsTree p.tree) ps → left + needs d t ≡ room → left < room
        → AllByRecursion (Good rows (FitsPast rows left zero)) ps → RepresentsSome (FitsPast rows room zero) rows s t
    parts_fit zero left none ps parts trees sum less all = absurd (omega (arith, less))
    parts_fit (suc room) left none ps parts trees sum less all =
        fits_given room none ps parts trees
        (all_more (Good rows (FitsPast rows left zero)) (Good rows (FitsPast rows room (needs d t - 1)))
        (λ p h. shows_more rows (FitsPast rows left zero) (FitsPast rows room (needs d t - 1)) (λ u v k. past_fits rows (needs d t - 1) left room (omega (arith, sum, less)) u v k) p.slot p.tree h) ps all)
