-- What has a front that fits is not refused.
use Rattle.std.proofs.Common.{◌≡◌, ℕ, zero, suc, ◌+◌, ◌-◌, ◌≤◌, List, [], ◌∷◌, ◌++◌, length, Bool, true, false, cond, Option, Some, None, refl, sym, ◌∙◌, ap, subst, arith, inl, inr}
use Rattle.std.specs.Prelude.{IsSomeAnd, slice_get, pos, not}
use Rattle.std.specs.Option.{option_or, option_map_or}
use Rattle.std.specs.List.{AllByRecursion}
use Rattle.std.specs.Cmp.Lexicographic.{same_text as text_same}
use Rattle.std.proofs.lemmas.Option.{same_Some, none-some}
use Rattle.std.proofs.lemmas.Bool.{le-ltb, or_from}
use Rattle.ild_data.specs.Data as T
use Rattle.ild_data.specs.Data.{Data, depth}
use Rattle.ild_data.specs.Key.{same_text}
use Rattle.ild_schema.specs.declared.number.Slot.{Slot}
use Rattle.ild_schema.specs.declared.number.TypeNo.{TypeNo}
use Rattle.ild_schema.specs.declared.def.TypeDef.{TypeDef}
use Rattle.ild_schema.specs.declared.def.TypeDef.TheVariants as D
use Rattle.ild_schema.specs.declared.def.MapForm.{MapForm}
use Rattle.ild_schema.specs.declared.def.MapForm.TheVariants as MF
use Rattle.ild_schema.specs.declared.def.StructForm.{StructForm}
use Rattle.ild_schema.specs.declared.def.Field.{Field}
use Rattle.ild_schema.specs.declared.row.Row.{Row}
use Rattle.ild_schema.specs.Copies.{base}
use Rattle.ild_schema.specs.Value as V
use Rattle.ild_schema.specs.Value.{Value}
use Rattle.ild_typed.specs.Layer as L
use Rattle.ild_typed.specs.Layer.{Layer, as_list, as_map, as_struct, as_union, as_hamt}
use Rattle.ild_schema.specs.Slots.{form_of, plainly}
use Rattle.ild_typed.specs.Slots.{slot_of}
use Rattle.ild_typed.specs.Fields.{is_implicit}
use Rattle.ild_typed.specs.Strings.{map_data, listpairs, stringpairs}
use Rattle.ild_typed.specs.Composed.{composed, map_form, struct_form, union_form, member_form, any_data}
use Rattle.ild_typed.specs.Hamt.{alone, a_map}
use Rattle.ild_typed.specs.Represented.{represented}
use Rattle.ild_typed.specs.Fits.{FormFits, ValueFits, FitsPast}
use Rattle.ild_typed.specs.Layers.{AreKeysApart, RepresentsSome}
use Rattle.ild_schema.specs.Clear.{IsClear, IsSafe}
use Rattle.ild_typed.specs.Named.{where_some, names, is_among, has_twice}
use Rattle.ild_typed.specs.Causes.{why_of}
use Rattle.ild_typed.specs.Why.{Why}
use Rattle.ild_typed.specs.Why as W
use Rattle.ild_typed.specs.Spots.{Spot, value_spot, element_spots, entry_spots, field_steps, field_spots, spots_of, member_spots}
use Rattle.ild_typed.specs.RootSpots.{bucket_spots, root_spots}
use Rattle.ild_typed.specs.Pieces.{is_null_there, repeats_key, keys_why, needs, room_why, root_why, hamt_why, why_at, HasNoRoot, IsWhy}
use Rattle.ild_typed.specs.Refused.{Refusal, AreParts, FirstRefused, RefusedPast}
use Rattle.ild_schema.specs.Delims.{AllDelims}
use Rattle.ild_typed.specs.Node.{IsRoot, entries_in}
use Rattle.ild_data.specs.Trie as Trie
use Rattle.ild_data.specs.declared.hamt_shape.HamtShape.{HamtShape}
use Rattle.ild_typed.proofs.Basics.{map_from, then_from}
use Rattle.ild_typed.proofs.Onlies.{only_list, only_map, only_struct, only_union}
use Rattle.ild_typed.proofs.OneValue.{Way, as_null, as_layer, way_of, layer_data, safe_parts, plain_safe}
use Rattle.ild_typed.proofs.Views.{Elements, Fields, struct_shown, list_shown, union_shown, hamt_shown}
use Rattle.ild_typed.proofs.ViewMaps.{Entry, map_shown}
use Rattle.ild_typed.proofs.Cleans.{none_of, never}
use Rattle.ild_typed.proofs.CleanPairs.{pairs_names}
use Rattle.ild_typed.proofs.CleanStructs.{split_of_pairs}
use Rattle.ild_typed.proofs.CleanTypes.{layer_clean}
use Rattle.ild_hamt_trie.proofs.Bits.{same_node}
use Rattle.ild_typed.proofs.CleanFields.{int_self}
use Rattle.ild_typed.proofs.NodeRoots.{whole_map}

-- ---- keys that are apart

apart_once : (es : List (List ℕ × Data)) → AreKeysApart es → has_twice (names es) ≡ false
apart_once [] all = refl
apart_once (e ∷ es) all = or_from (is_among e.0 (names es)) (has_twice (names es)) (by es all.0) (apart_once es all.1) where
  by : (qs : List (List ℕ × Data)) → AllByRecursion (λ (q : List ℕ × Data). e.0 ≡ q.0 → ⊥) qs → is_among e.0 (names qs) ≡ false
  by [] others = refl
  by (q ∷ qs) others = or_from (same_text e.0 q.0) (is_among e.0 (names qs)) (one (same_text e.0 q.0) refl others.0) (by qs others.1) where
    one : (b : Bool) → same_text e.0 q.0 ≡ b → (e.0 ≡ q.0 → ⊥) → same_text e.0 q.0 ≡ false
    one true is apart = absurd (apart (text_same e.0 q.0 (sym is)))
    one false is apart = is

-- ---- the piece itself

module _ (rows : List Row) (clear : IsClear rows) (delims : AllDelims rows) (s : Slot) (t : Data) (d : TypeDef) (is : form_of rows s ≡ Some d) where
  record Held (room : ℕ) (below : ℕ → Slot → Value → Type 0) (v : Value) : Type 0 where
    layer : Layer Data
    there : layer_data alone rows (Some d) v ≡ Some layer
    composes : composed alone d layer ≡ Some t
    fits : FormFits rows room below v d

  fits_form : (room : ℕ) (below : ℕ → Slot → Value → Type 0) (v : Value) (l : Layer Data) → layer_data alone rows (Some d) v ≡ Some l → ValueFits rows room below s v → FormFits rows room below v d
  fits_form room below V.null l e fits = absurd (none-some l e)
  fits_form room below v l e fits = subst (λ o. IsSomeAnd o (FormFits rows room below v)) is fits

  held : (room : ℕ) (below : ℕ → Slot → Value → Type 0) (v : Value) → is_null_there s t ≡ false → ValueFits rows room below s v → represented alone rows s v ≡ Some t → Held room below v
  held room below v there fits tree = by (way_of alone rows s v t tree) where
    by : Way alone rows s v t → Held room below v
    by (as_null v_null nullable is_null) = absurd (never (sym nullable ∙ ap (is_null_there s) (sym is_null) ∙ there))
    by (as_layer c l known here composes) =
        let same : c ≡ d = same_Some c d (sym known ∙ is) in
        let own : layer_data alone rows (Some d) v ≡ Some l = ap (λ k. layer_data alone rows (Some k) v) (sym same) ∙ here in
        record { layer = l; there = own; composes = ap (λ k. composed alone k l) (sym same) ∙ composes; fits = fits_form room below v l own fits }

  own_none : (room : ℕ) (below : ℕ → Slot → Value → Type 0) (v : Value) → Held room below v → why_of d t ≡ None
  own_none room below v x = none_of d t (layer_clean d (clear.types (base rows s.ty.0) d is) (delims (base rows s.ty.0) d is) x.layer t x.composes)

pub any_is : (x t : Data) → any_data x ≡ Some t → x ≡ t
any_is T.null t e = absurd (none-some t e)
any_is (T.boolean b) t e = same_Some (T.boolean b) t e
any_is (T.integer n) t e = same_Some (T.integer n) t e
any_is (T.text s) t e = same_Some (T.text s) t e
any_is (T.bytes s) t e = same_Some (T.bytes s) t e
any_is (T.list ds) t e = same_Some (T.list ds) t e
any_is (T.map ms) t e = same_Some (T.map ms) t e
any_is (T.link s) t e = same_Some (T.link s) t e

any_layer : (rows : List Row) (room : ℕ) (below : ℕ → Slot → Value → Type 0) (v : Value) (l : Layer Data) (t : Data) → layer_data alone rows (Some D.Any) v ≡ Some l → composed alone D.Any l ≡ Some t
    → FormFits rows room below v D.Any → depth t ≤ room
any_layer rows room below (V.any x) l t e k fits =
    let same : x ≡ t = any_is x t (ap (composed alone D.Any) (same_Some (L.any x) l e) ∙ k) in
    subst (λ y. depth y ≤ room) same fits.0
any_layer rows room below v l t e k fits = absurd fits.1

enough : (rows : List Row) (d : TypeDef) (room : ℕ) (below : ℕ → Slot → Value → Type 0) (v : Value) (l : Layer Data) (t : Data) → layer_data alone rows (Some d) v ≡ Some l → composed alone d l ≡ Some t
    → FormFits rows room below v d → needs d t ≤ room
enough rows D.Any room below v l t e k fits = any_layer rows room below v l t e k fits
enough rows D.Bool room below v l t e k fits = fits.0
enough rows D.Text room below v l t e k fits = fits.0
enough rows D.Bytes room below v l t e k fits = fits.0
enough rows D.Int room below v l t e k fits = fits.0
enough rows (D.Link target) room below v l t e k fits = fits.0
enough rows (D.Unit form) room below v l t e k fits = fits.0
enough rows (D.List elem at) room below v l t e k fits = fits.0
enough rows (D.Map key key_at value at form) room below v l t e k fits = fits.0
enough rows (D.Struct st) room below v l t e k fits = fits.0
enough rows (D.Union u) room below v l t e k fits = fits.0
enough rows (D.Enum en) room below v l t e k fits = fits.0
enough rows (D.Copy target) room below v l t e k fits = fits.0

none_at : (room : ℕ) (d : TypeDef) (t : Data) → why_of d t ≡ None → keys_why d t ≡ None → needs d t ≤ room → hamt_why d t ≡ None → why_at room d t ≡ None
none_at room d t own keys fits root =
    let r : room_why room d t ≡ None = ap (λ b. cond b (Some W.Depth) None) (le-ltb room (needs d t) fits) in
    ap (λ o. option_or o (option_or (keys_why d t) (option_or (room_why room d t) (hamt_why d t)))) own
    ∙ ap (λ o. option_or o (option_or (room_why room d t) (hamt_why d t))) keys
    ∙ ap (λ o. option_or o (hamt_why d t)) r ∙ root

-- ---- keys, and the root of a HAMT

a_map_is : (x t : Data) → a_map x ≡ Some t → (ms : T.Members) × (t ≡ T.map ms)
a_map_is (T.map ms) t e = (ms, sym (same_Some (T.map ms) t e))
a_map_is x t e = absurd (none-some t e)

root_fine : (p : HamtShape) (slots : List Trie.TrieSlot) (t : Data) → IsRoot p slots t → root_why p t ≡ None
root_fine p slots t root = ap (root_why p) root.tree ∙ ap (λ b. cond (not b) (Some W.BucketSize) None) (int_self (pos p.bucket))

module _ (rows : List Row) (clear : IsClear rows) (delims : AllDelims rows) (room : ℕ) (s : Slot) (safe : IsSafe rows s) (t : Data) (shows : RepresentsSome (FitsPast rows (suc room) zero) rows s t) where
  keys_none : (d : TypeDef) (l : Layer Data) → form_of rows s ≡ Some d → composed alone d l ≡ Some t → keys_why d t ≡ None
  keys_none (D.Map key key_at value at MF.Map) l is e = refl
  keys_none (D.Map key key_at value at (MF.Hamt p)) l is e = refl
  keys_none (D.Map key key_at value at MF.ListPairs) l is e =
      let x = map_from listpairs (as_map l) t e in
      let shown = map_shown rows clear room s key key_at value at MF.ListPairs is x.item t x.made safe shows in
      let once : repeats_key MF.ListPairs t ≡ false
      = ap (repeats_key MF.ListPairs) (sym (same_Some (listpairs x.item) t x.made)) ∙ ap (where_some has_twice) (pairs_names x.item) ∙ apart_once x.item shown.1 in
      ap (λ b. cond b (Some W.Repeat) None) once
  keys_none (D.Map key key_at value at (MF.StringPairs inner entry)) l is e =
      let x = then_from (stringpairs inner entry) (as_map l) t e in
      let shown = map_shown rows clear room s key key_at value at (MF.StringPairs inner entry) is x.item t x.made safe shows in
      let own : TypeDef = D.Map key key_at value at (MF.StringPairs inner entry) in
      let split = split_of_pairs inner entry (clear.types (base rows s.ty.0) own is) (delims (base rows s.ty.0) own is) x.item t x.made in
      let once : repeats_key (MF.StringPairs inner entry) t ≡ false = ap (where_some (λ es. has_twice (names es))) split.entries ∙ apart_once x.item shown.1 in
      ap (λ b. cond b (Some W.Repeat) None) once
  keys_none D.Bool l is e = refl
  keys_none D.Text l is e = refl
  keys_none D.Bytes l is e = refl
  keys_none D.Int l is e = refl
  keys_none D.Any l is e = refl
  keys_none (D.Link target) l is e = refl
  keys_none (D.Unit form) l is e = refl
  keys_none (D.List elem at) l is e = refl
  keys_none (D.Struct st) l is e = refl
  keys_none (D.Union u) l is e = refl
  keys_none (D.Enum en) l is e = refl
  keys_none (D.Copy target) l is e = refl

  root_there : (d : TypeDef) (l : Layer Data) → form_of rows s ≡ Some d → composed alone d l ≡ Some t → (hamt_why d t ≡ None) × (HasNoRoot d t → ⊥)
  root_there (D.Map key key_at value at (MF.Hamt p)) l is e =
      let x = then_from a_map (as_hamt l) t e in
      let y = a_map_is x.item t x.made in
      let z = hamt_shown rows clear room s p key key_at value at y.0 is (subst (λ u. RepresentsSome (FitsPast rows (suc room) zero) rows s u) y.1 shows) in
      let root : IsRoot p z.1.0 t = subst (IsRoot p z.1.0) (sym y.1) z.1.1 in
      (root_fine p z.1.0 t root, λ none. none z.1.0 root)
  root_there (D.Map key key_at value at MF.Map) l is e = (refl, λ h. h)
  root_there (D.Map key key_at value at MF.ListPairs) l is e = (refl, λ h. h)
  root_there (D.Map key key_at value at (MF.StringPairs inner entry)) l is e = (refl, λ h. h)
  root_there D.Bool l is e = (refl, λ h. h)
  root_there D.Text l is e = (refl, λ h. h)
  root_there D.Bytes l is e = (refl, λ h. h)
  root_there D.Int l is e = (refl, λ h. h)
  root_there D.Any l is e = (refl, λ h. h)
  root_there (D.Link target) l is e = (refl, λ h. h)
  root_there (D.Unit form) l is e = (refl, λ h. h)
  root_there (D.List elem at) l is e = (refl, λ h. h)
  root_there (D.Struct st) l is e = (refl, λ h. h)
  root_there (D.Union u) l is e = (refl, λ h. h)
  root_there (D.Enum en) l is e = (refl, λ h. h)
  root_there (D.Copy target) l is e = (refl, λ h. h)

  -- no cause holds of what has a front
  piece_none : (d : TypeDef) → form_of rows s ≡ Some d → is_null_there s t ≡ false → (why_at (suc room) d t ≡ None) × (HasNoRoot d t → ⊥)
  unfolding FitsPast
  piece_none d is there =
      let x = held rows clear delims s t d is (suc room) (FitsPast rows room) shows.0 there shows.1 shows.2 in
      let root = root_there d x.layer is x.composes in (
        none_at (suc room) d t (own_none rows clear delims s t d is (suc room) (FitsPast rows room) shows.0 x) (keys_none d x.layer is x.composes)
            (enough rows d (suc room) (FitsPast rows room) shows.0 x.layer t x.there x.composes x.fits) root.0,
        root.1,
      )

-- ---- without room: no form with levels, so neither keys nor roots

no_keys : (d : TypeDef) (t : Data) → needs d t ≤ 0 → (keys_why d t ≡ None) × (hamt_why d t ≡ None) × (HasNoRoot d t → ⊥)
no_keys (D.Map key key_at value at MF.Map) t fits = absurd (omega (arith, fits))
no_keys (D.Map key key_at value at MF.ListPairs) t fits = absurd (omega (arith, fits))
no_keys (D.Map key key_at value at (MF.StringPairs inner entry)) t fits = absurd (omega (arith, fits))
no_keys (D.Map key key_at value at (MF.Hamt p)) t fits = absurd (omega (arith, fits))
no_keys D.Bool t fits = (refl, refl, λ h. h)
no_keys D.Text t fits = (refl, refl, λ h. h)
no_keys D.Bytes t fits = (refl, refl, λ h. h)
no_keys D.Int t fits = (refl, refl, λ h. h)
no_keys D.Any t fits = (refl, refl, λ h. h)
no_keys (D.Link target) t fits = (refl, refl, λ h. h)
no_keys (D.Unit form) t fits = (refl, refl, λ h. h)
no_keys (D.List elem at) t fits = (refl, refl, λ h. h)
no_keys (D.Struct st) t fits = (refl, refl, λ h. h)
no_keys (D.Union u) t fits = (refl, refl, λ h. h)
no_keys (D.Enum en) t fits = (refl, refl, λ h. h)
no_keys (D.Copy target) t fits = (refl, refl, λ h. h)

flat_none : (rows : List Row) → IsClear rows → AllDelims rows → (s : Slot) (t : Data) → RepresentsSome (FitsPast rows zero zero) rows s t → (d : TypeDef) → form_of rows s ≡ Some d → is_null_there s t ≡ false
    → (why_at zero d t ≡ None) × (HasNoRoot d t → ⊥)
unfolding FitsPast
flat_none rows clear delims s t shows d is there =
    let x = held rows clear delims s t d is zero (λ over u w. ⊥) shows.0 there shows.1 shows.2 in
    let fits = enough rows d zero (λ over u w. ⊥) shows.0 x.layer t x.there x.composes x.fits in
    let y = no_keys d t fits in
    (none_at zero d t (own_none rows clear delims s t d is zero (λ over u w. ⊥) shows.0 x) y.0 fits y.1, y.2)

-- ---- parts

module _ (rows : List Row) (below : Slot → Value → Type 0) where
  abbrev AllShow : List Spot → Type 0
  AllShow ps = AllByRecursion (λ p. IsSafe rows p.slot × RepresentsSome below rows p.slot p.tree) ps

  elements_show : (elem : Slot) → IsSafe rows elem → (n : ℕ) (ds : List Data) → Elements rows below elem ds → AllShow (element_spots elem n ds)
  elements_show elem safe n [] all = tt
  elements_show elem safe n (d ∷ ds) all = ((safe, all.0), elements_show elem safe (n + 1) ds all.1)

  keys_safe : (n : TypeNo) → IsSafe rows (plainly n)
  keys_safe n = plain_safe rows (plainly n) refl

  entries_show : (form : MapForm) (key : TypeNo) (value : Slot) → IsSafe rows value → (i : ℕ) (es : List (List ℕ × Data)) → AllByRecursion (Entry rows below key value) es → AllShow (entry_spots form key value i es)
  entries_show form key value safe i [] all = tt
  entries_show form key value safe i (e ∷ es) all = ((keys_safe key, all.0.1), ((safe, all.0.2), entries_show form key value safe (i + 1) es all.1))

  fields_show : (form : StructForm) (n : ℕ) (fs : List Field) → AllByRecursion (λ f. IsSafe rows f.slot) fs → (os : List (Option Data)) → Fields rows below fs os → AllShow (field_spots form n fs os)
  fields_show form n [] safe os all = tt
  fields_show form n (f ∷ fs) safe [] all = absurd all
  fields_show form n (f ∷ fs) safe (None ∷ os) all = fields_show form n fs safe.1 os all.1
  fields_show form n (f ∷ fs) safe (Some d ∷ os) all = by (is_implicit f.implicit d) (λ m. fields_show form m fs safe.1 os all.1) where
    by : (b : Bool) → ((m : ℕ) → AllShow (field_spots form m fs os))
        → AllShow (cond b (value_spot f.slot d [] ∷ field_spots form n fs os) (value_spot f.slot d (field_steps form f n) ∷ field_spots form (n + 1) fs os))
    by true rest = ((safe.0, all.0), rest n)
    by false rest = ((safe.0, all.0), rest (n + 1))

  all_append : (ps qs : List Spot) → AllShow ps → AllShow qs → AllShow (ps ++ qs)
  all_append [] qs a b = b
  all_append (p ∷ ps) qs a b = (a.0, all_append ps qs a.1 b)

  module _ (key : TypeNo) (value : Slot) (safe : IsSafe rows value) where
    abbrev Shown : List ℕ × Data → Type 0
    Shown e = RepresentsSome below rows (plainly key) (T.text e.0) × RepresentsSome below rows value e.1

    bucket_shows : (n i : ℕ) (es : List (List ℕ × Data)) → AllByRecursion Shown es → AllShow (bucket_spots key value n i es)
    bucket_shows n i [] all = tt
    bucket_shows n i (e ∷ es) all = ((keys_safe key, all.0.0), ((safe, all.0.1), bucket_shows n (i + 1) es all.1))

    halves : (es fs : List (List ℕ × Data)) → AllByRecursion Shown (es ++ fs) → AllByRecursion Shown es × AllByRecursion Shown fs
    halves [] fs all = (tt, all)
    halves (e ∷ es) fs all = let x = halves es fs all.1 in ((all.0, x.0), x.1)

    root_shows : (n : ℕ) (slots : List Trie.TrieSlot) → AllByRecursion Shown (entries_in slots) → AllShow (root_spots key value n slots)
    root_shows n [] all = tt
    root_shows n (Trie.empty ∷ slots) all = root_shows n slots all
    root_shows n (Trie.bucket es ∷ slots) all =
        let x = halves es (entries_in slots) all in
        all_append (bucket_spots key value n 0 es) (root_spots key value (n + 1) slots) (bucket_shows n 0 es x.0) (root_shows (n + 1) slots x.1)
    root_shows n (Trie.child id ∷ slots) all = root_shows (n + 1) slots all

-- the node inside a root map
node_inside : Data → Option Data
node_inside (T.map (T.member k d ms)) = Some d
node_inside t = None

pub one_root : (p : HamtShape) (ss ts : List Trie.TrieSlot) (t : Data) → IsRoot p ss t → IsRoot p ts t → ss ≡ ts
unfolding node_inside
one_root p ss ts t a b =
    let node : Trie.node_data ss ≡ Trie.node_data ts = same_Some (Trie.node_data ss) (Trie.node_data ts) (ap node_inside (sym a.tree ∙ b.tree)) in
    same_node ss ts (whole_map p.width (length ss) p.wide a.indices) (b.indices ∙ sym a.indices) node

module _ (rows : List Row) (clear : IsClear rows) (room : ℕ) (s : Slot) (safe : IsSafe rows s) (t : Data) (shows : RepresentsSome (FitsPast rows (suc room) zero) rows s t) where
  abbrev Parts : TypeDef → List Spot → Type 0
  Parts d ps = AllShow rows (FitsPast rows room (needs d t - 1)) ps

  none_in : (d : TypeDef) (ps : List Spot) → ps ≡ [] → Parts d ps
  none_in d ps e = subst (Parts d) (sym e) tt

  map_parts : (key : TypeNo) (key_at : ℕ) (value : Slot) (at : ℕ) (form : MapForm) (l : Layer Data) (es : List (List ℕ × Data)) (ps : List Spot) → form_of rows s ≡ Some (D.Map key key_at value at form)
      → l ≡ L.map es → map_form alone form (L.map es) ≡ Some t → ps ≡ spots_of (D.Map key key_at value at form) l → Parts (D.Map key key_at value at form) ps
  map_parts key key_at value at form l es ps is same made e =
      let own : TypeDef = D.Map key key_at value at form in
      let x = map_shown rows clear room s key key_at value at form is es t made safe shows in
      subst (Parts own) (sym (e ∙ ap (spots_of own) same))
      (entries_show rows (FitsPast rows room (needs own t - 1)) form key value (safe_parts rows clear s own is) 0 es x.2)

  parts_show : (d : TypeDef) (ps : List Spot) → form_of rows s ≡ Some d → AreParts d t ps → Parts d ps
  parts_show (D.List elem at) ps is (l, made, e) =
      let own : TypeDef = D.List elem at in
      let x = map_from (λ ds. T.list (T.items_of ds)) (as_list l) t made in
      let shown = list_shown rows clear room s elem at x.item is (subst (λ u. RepresentsSome (FitsPast rows (suc room) zero) rows s u) (sym (same_Some (T.list (T.items_of x.item)) t x.made)) shows) in
      subst (Parts own) (sym (e ∙ ap (spots_of own) (only_list l x.item x.there))) (elements_show rows (FitsPast rows room zero) elem (safe_parts rows clear s own is) 0 x.item shown)
  parts_show (D.Map key key_at value at MF.Map) ps is (l, made, e) =
      let x = map_from map_data (as_map l) t made in
      map_parts key key_at value at MF.Map l x.item ps is (only_map l x.item x.there) x.made e
  parts_show (D.Map key key_at value at MF.ListPairs) ps is (l, made, e) =
      let x = map_from listpairs (as_map l) t made in
      map_parts key key_at value at MF.ListPairs l x.item ps is (only_map l x.item x.there) x.made e
  parts_show (D.Map key key_at value at (MF.StringPairs inner entry)) ps is (l, made, e) =
      let x = then_from (stringpairs inner entry) (as_map l) t made in
      map_parts key key_at value at (MF.StringPairs inner entry) l x.item ps is (only_map l x.item x.there) x.made e
  parts_show (D.Map key key_at value at (MF.Hamt p)) ps is (slots, root, e) =
      let own : TypeDef = D.Map key key_at value at (MF.Hamt p) in
      let inner : (ms : T.Members) × (t ≡ T.map ms) = (_, root.tree) in
      let x = hamt_shown rows clear room s p key key_at value at inner.0 is (subst (λ u. RepresentsSome (FitsPast rows (suc room) zero) rows s u) inner.1 shows) in
      let same : x.1.0 ≡ slots = one_root p x.1.0 slots t (subst (IsRoot p x.1.0) (sym inner.1) x.1.1) root in
      let all = root_shows rows (FitsPast rows room 4) key value (safe_parts rows clear s own is) 0 x.1.0 x.1.2 in
      subst (Parts own) (ap (root_spots key value 0) same ∙ sym e) all
  parts_show (D.Struct st) ps is (l, made, e) =
      let own : TypeDef = D.Struct st in
      let x = then_from (struct_form st.form st.fields) (as_struct l) t made in
      let shown = struct_shown rows clear room s st t x.item is x.made shows in
      subst (Parts own) (sym (e ∙ ap (spots_of own) (only_struct l x.item x.there)))
      (fields_show rows (FitsPast rows room (needs own t - 1)) st.form 0 st.fields (safe_parts rows clear s own is) x.item shown.1)
  parts_show (D.Union u) ps is (l, made, e) =
      let own : TypeDef = D.Union u in
      let x = then_from (union_form u.form u.members) (as_union l) t made in
      let y = then_from (member_form u.form x.item.1) (slice_get u.members x.item.0) t x.made in
      let shown = union_shown rows clear room s u x.item.0 y.item x.item.1 t safe is y.there x.made shows in
      subst (Parts own) (sym (e ∙ ap (spots_of own) (only_union l x.item x.there) ∙ ap (λ o. option_map_or (member_spots u.form x.item.1) o []) y.there))
      ((plain_safe rows (slot_of y.item) refl, shown), tt)
  parts_show D.Bool ps is (l, made, e) = none_in D.Bool ps e
  parts_show D.Text ps is (l, made, e) = none_in D.Text ps e
  parts_show D.Bytes ps is (l, made, e) = none_in D.Bytes ps e
  parts_show D.Int ps is (l, made, e) = none_in D.Int ps e
  parts_show D.Any ps is (l, made, e) = none_in D.Any ps e
  parts_show (D.Link target) ps is (l, made, e) = none_in (D.Link target) ps e
  parts_show (D.Unit form) ps is (l, made, e) = none_in (D.Unit form) ps e
  parts_show (D.Enum en) ps is (l, made, e) = none_in (D.Enum en) ps e
  parts_show (D.Copy target) ps is (l, made, e) = absurd (none-some t made)

-- ---- the walk

first_sound : (rows : List Row) (fits : Slot → Value → Type 0) (refused : Slot → Data → Refusal → Type 0)
    → ((s : Slot) → IsSafe rows s → (t : Data) (q : Refusal) → refused s t q → RepresentsSome fits rows s t → ⊥)
    → (ps : List Spot) (r : Refusal) → AllShow rows fits ps → FirstRefused fits refused rows ps r → ⊥
first_sound rows fits refused sound [] r all h = h
first_sound rows fits refused sound (p ∷ ps) r all (inl (q, h, e)) = sound p.slot all.0.0 p.tree q h all.0.1
first_sound rows fits refused sound (p ∷ ps) r all (inr h) = first_sound rows fits refused sound ps r all.1 h.1

never_first : (rows : List Row) (fits : Slot → Value → Type 0) (ps : List Spot) (r : Refusal) → FirstRefused fits (λ u d q. ⊥) rows ps r → ⊥
never_first rows fits [] r h = h
never_first rows fits (p ∷ ps) r (inl (q, h, e)) = h
never_first rows fits (p ∷ ps) r (inr h) = never_first rows fits ps r h.1

why_never : (room : ℕ) (d : TypeDef) (t : Data) (w : Why) → (why_at room d t ≡ None) × (HasNoRoot d t → ⊥) → IsWhy room d t w → ⊥
why_never room d t w (none, root) (inl e) = none-some w (sym none ∙ e)
why_never room d t w (none, root) (inr h) = root h.1

pub refused_sound : (rows : List Row) → IsClear rows → AllDelims rows → (room over : ℕ) (s : Slot) → IsSafe rows s → (t : Data) (r : Refusal)
    → RefusedPast rows room over s t r → RepresentsSome (FitsPast rows room over) rows s t → ⊥
unfolding RefusedPast FitsPast
refused_sound rows clear delims zero zero s safe t r (there, d, is, inl (w, why, e)) shows = why_never zero d t w (flat_none rows clear delims s t shows d is there) why
refused_sound rows clear delims zero zero s safe t r (there, d, is, inr (none, ps, parts, first)) shows = never_first rows (λ u w. ⊥) ps r first
refused_sound rows clear delims zero (suc over) s safe t r h shows = h
refused_sound rows clear delims (suc room) zero s safe t r (there, d, is, inl (w, why, e)) shows =
    why_never (suc room) d t w (piece_none rows clear delims room s safe t shows d is there) why
refused_sound rows clear delims (suc room) zero s safe t r (there, d, is, inr (none, ps, parts, first)) shows =
    first_sound rows (FitsPast rows room (needs d t - 1)) (RefusedPast rows room (needs d t - 1))
    (λ u fine c q h k. refused_sound rows clear delims room (needs d t - 1) u fine c q h k)
    ps r (parts_show rows clear room s safe t shows d ps is parts) first
refused_sound rows clear delims (suc room) (suc over) s safe t r h shows = refused_sound rows clear delims room over s safe t r h shows
