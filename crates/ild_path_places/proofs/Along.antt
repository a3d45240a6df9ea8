-- The places of a part are places of the whole, segment by segment.
use Rattle.std.proofs.Common.{◌≡◌, ℕ, ◌<◌, zero, suc, List, [], ◌∷◌, Bool, true, false, cond, map, Option, Some, None, refl, sym, ap, subst, arith}
use Rattle.std.specs.Prelude.{Contains, slice_get, option_map, option_and_then, if◌then◌else◌}
use Rattle.std.specs.List.{AllByRecursion, filter}
use Rattle.std.proofs.lemmas.List.Elements.{Contains-append_left, Contains-append_right}
use Rattle.std.proofs.lemmas.Option.{none-some, same_Some}
use Rattle.ild_data.proofs.AllOf.{all_contained, contains_more}
use Rattle.ild_data.specs.Data as D
use Rattle.ild_data.specs.Data.{Data}
use Rattle.ild_data.specs.Key.{same_text, value_at}
use Rattle.ild_data.specs.Spell.{id_of}
use Rattle.ild_schema.specs.Prelude.{anything}
use Rattle.ild_schema.specs.Slots.{form_of, plainly}
use Rattle.ild_schema.specs.Value as V
use Rattle.ild_schema.specs.Value.{Value, Values, Pairs, Optionals, values_list, pairs_list, optionals_list}
use Rattle.ild_schema.specs.declared.def.Field.{Field}
use Rattle.ild_schema.specs.declared.def.Member.{Member}
use Rattle.ild_schema.specs.declared.def.TypeDef.{TypeDef}
use Rattle.ild_schema.specs.declared.def.TypeDef.TheVariants as T
use Rattle.ild_schema.specs.declared.number.Slot.{Slot}
use Rattle.ild_schema.specs.declared.row.Row.{Row}
use Rattle.ild_typed.specs.At.{InSlot, at, seen}
use Rattle.ild_typed.specs.Holder.{any_holder, holder_of, list_holder, map_holder, of_any, struct_holder, union_holder}
use Rattle.ild_typed.specs.Segment.{field_at, held_as, index_of, part}
use Rattle.ild_typed.specs.Slots.{element_of, fields_of, member_of}
use Rattle.ild_typed.proofs.Rooms.{all_more}
use Rattle.ild_typed_places.specs.Parts.{LieIn}
use Rattle.ild_typed_places.specs.Places.{Place, Places, children_of, each_place, joined, nowhere, places_in, places_in_fields, tops}
use Rattle.ild_typed_places.proofs.Linked.{each_joined}
use Rattle.ild_typed_places.proofs.Parted.{elements, entries, members}
use Rattle.ild_path_places.specs.Laws.{ChildrenOfParts, PlacesOfParts}

lie_left : (ps qs : Places) → LieIn ps (joined ps qs)
lie_left ps qs x here = subst (λ (l : List Place). Contains l x) (sym (each_joined ps qs)) (Contains-append_left (each_place ps) (each_place qs) x here)

lie_right : (ps qs rs : Places) → LieIn rs qs → LieIn rs (joined ps qs)
lie_right ps qs rs lie x here = subst (λ (l : List Place). Contains l x) (sym (each_joined ps qs)) (Contains-append_right (each_place ps) (each_place qs) x (lie x here))

-- an entry with a value
record HasEntry {X : Type 0} (es : List (List ℕ × X)) (v : X) : Type 0 where
  index : ℕ
  key : List ℕ
  is : slice_get es index ≡ Some (key, v)

found : {X : Type 0} (s : List ℕ) (es : List (List ℕ × X)) (v : X) → value_at s es ≡ Some v → HasEntry es v
found s [] v e = absurd (none-some v e)
found {X} s (m ∷ es) v e = by (same_text s m.0) e (λ is. found s es v is) where
  more : HasEntry es v → HasEntry (m ∷ es) v
  more x = record { index = suc x.index; key = x.key; is = x.is }

  by : (b : Bool) → (if b then Some m.1 else value_at s es) ≡ Some v → (value_at s es ≡ Some v → HasEntry es v) → HasEntry (m ∷ es) v
  by true is rest = record { index = zero; key = m.0; is = ap (λ (x : X). Some (m.0, x)) (same_Some m.1 v is) }
  by false is rest = more (rest is)

module _ (h : List ℕ → List ℕ) (rows : List Row) where
  In : InSlot → Places
  In p = places_in h rows p.0 p.1

  -- ---- each form of holder

  list_part : (slot elem : Slot) (vs : Values) (q : InSlot) → element_of (form_of rows slot) ≡ Some elem → (o : Option ℕ) → option_map (λ v. (elem, v)) (option_and_then (λ i. slice_get (values_list vs) i) o) ≡ Some q
      → LieIn (places_in h rows q.0 q.1) (places_in h rows slot (V.list vs))
  list_part slot elem vs q known None e = absurd (none-some q e)
  list_part slot elem vs q known (Some i) e = by (slice_get (values_list vs) i) refl e where
    by : (o : Option Value) → slice_get (values_list vs) i ≡ o → option_map (λ v. (elem, v)) o ≡ Some q → LieIn (places_in h rows q.0 q.1) (places_in h rows slot (V.list vs))
    by None is e = absurd (none-some q e)
    by (Some v) is e = subst (λ (r : InSlot). LieIn (places_in h rows r.0 r.1) (places_in h rows slot (V.list vs))) (same_Some (elem, v) q e) (elements h rows slot elem vs i v known is)

  map_part : (slot value : Slot) (ps : Pairs) (q : InSlot) (s : List ℕ) → element_of (form_of rows slot) ≡ Some value → (o : Option Value) → value_at s (pairs_list ps) ≡ o → option_map (λ v. (value, v)) o ≡ Some q
      → LieIn (places_in h rows q.0 q.1) (places_in h rows slot (V.map ps))
  map_part slot value ps q s known None is e = absurd (none-some q e)
  map_part slot value ps q s known (Some v) is e =
      let x = found s (pairs_list ps) v is in
      subst (λ (r : InSlot). LieIn (places_in h rows r.0 r.1) (places_in h rows slot (V.map ps))) (same_Some (value, v) q e) (entries h rows slot value ps x.index x.key v known x.is)

  field_part : (fs : List Field) (os : Optionals) (s : List ℕ) (q : InSlot) → field_at s fs (optionals_list os) ≡ Some q → LieIn (places_in h rows q.0 q.1) (places_in_fields h rows fs os)
  field_part [] os s q e = absurd (none-some q e)
  field_part (f ∷ fs) V.no_optionals s q e = absurd (none-some q e)
  field_part (f ∷ fs) (V.absent os) s q e = by (same_text s f.name) e (λ rest. field_part fs os s q rest) where
    by : (b : Bool) → (if b then None else field_at s fs (optionals_list os)) ≡ Some q → (field_at s fs (optionals_list os) ≡ Some q → LieIn (places_in h rows q.0 q.1) (places_in_fields h rows fs os))
        → LieIn (places_in h rows q.0 q.1) (places_in_fields h rows fs os)
    by true e rest = absurd (none-some q e)
    by false e rest = rest e
  field_part (f ∷ fs) (V.present v os) s q e = by (same_text s f.name) e (λ rest. field_part fs os s q rest) where
    by : (b : Bool) → (if b then Some (f.slot, v) else field_at s fs (optionals_list os)) ≡ Some q → (field_at s fs (optionals_list os) ≡ Some q → LieIn (places_in h rows q.0 q.1) (places_in_fields h rows fs os))
        → LieIn (places_in h rows q.0 q.1) (joined (places_in h rows f.slot v) (places_in_fields h rows fs os))
    by true e rest =
        subst (λ (r : InSlot). LieIn (places_in h rows r.0 r.1) (joined (places_in h rows f.slot v) (places_in_fields h rows fs os))) (same_Some (f.slot, v) q e)
        (lie_left (places_in h rows f.slot v) (places_in_fields h rows fs os))
    by false e rest = lie_right (places_in h rows f.slot v) (places_in_fields h rows fs os) (places_in h rows q.0 q.1) (rest e)

  member_part : (slot : Slot) (n : ℕ) (v : Value) (s : List ℕ) (q : InSlot) (o : Option Member) → (member_of (form_of rows slot) n ≡ option_map (λ m. plainly m.ty) o) → held_as s v o ≡ Some q
      → LieIn (places_in h rows q.0 q.1) (places_in h rows slot (V.union n v))
  member_part slot n v s q None known e = absurd (none-some q e)
  member_part slot n v s q (Some m) known e = by (same_text s m.name) e where
    by : (b : Bool) → (if b then Some (plainly m.ty, v) else None) ≡ Some q → LieIn (places_in h rows q.0 q.1) (places_in h rows slot (V.union n v))
    by true e = subst (λ (r : InSlot). LieIn (places_in h rows r.0 r.1) (places_in h rows slot (V.union n v))) (same_Some (plainly m.ty, v) q e) (members h rows slot (plainly m.ty) n v known)
    by false e = absurd (none-some q e)

  none_in : (d : Data) → places_in h rows anything (of_any d) ≡ nowhere
  none_in D.null = refl
  none_in (D.boolean b) = refl
  none_in (D.integer n) = refl
  none_in (D.text s) = refl
  none_in (D.bytes s) = refl
  none_in (D.list ds) = refl
  none_in (D.map ms) = refl
  none_in (D.link s) = refl

  lie_nowhere : (ps qs : Places) → ps ≡ nowhere → LieIn ps qs
  lie_nowhere ps qs is = subst (λ (r : Places). LieIn r qs) (sym is) (λ x here. absurd (no_place x here)) where
    no_place : (x : Place) → Contains [] x → ⊥
    no_place x here = let low : here.0 < 0 = here.1 in omega (arith, low)

  any_part : (ps : Places) (q : InSlot) (o : Option Data) → option_map (λ d. (anything, of_any d)) o ≡ Some q → LieIn (places_in h rows q.0 q.1) ps
  any_part ps q None e = absurd (none-some q e)
  any_part ps q (Some d) e =
      subst (λ (r : InSlot). LieIn (places_in h rows r.0 r.1) ps) (same_Some (anything, of_any d) q e) (lie_nowhere (places_in h rows anything (of_any d)) ps (none_in d))

  -- ---- one segment

  of_list : (slot : Slot) (vs : Values) (s : List ℕ) (q : InSlot) (d : Option TypeDef) → form_of rows slot ≡ d → part (list_holder d vs) s ≡ Some q → LieIn (places_in h rows q.0 q.1) (places_in h rows slot (V.list vs))
  of_list slot vs s q (Some (T.List elem at)) is e = list_part slot elem vs q (ap element_of is) (index_of s) e
  of_list slot vs s q d is e = absurd (none-some q e)

  of_map : (slot : Slot) (ps : Pairs) (s : List ℕ) (q : InSlot) (d : Option TypeDef) → form_of rows slot ≡ d → part (map_holder d ps) s ≡ Some q → LieIn (places_in h rows q.0 q.1) (places_in h rows slot (V.map ps))
  of_map slot ps s q (Some (T.Map key key_at value at form)) is e = map_part slot value ps q s (ap element_of is) (value_at s (pairs_list ps)) refl e
  of_map slot ps s q d is e = absurd (none-some q e)

  of_struct : (slot : Slot) (os : Optionals) (s : List ℕ) (q : InSlot) (d : Option TypeDef) → form_of rows slot ≡ d → part (struct_holder d os) s ≡ Some q → LieIn (places_in h rows q.0 q.1) (places_in h rows slot (V.struct os))
  of_struct slot os s q (Some (T.Struct x)) is e = subst (λ (o : Option TypeDef). LieIn (places_in h rows q.0 q.1) (places_in_fields h rows (fields_of o) os)) (sym is) (field_part x.fields os s q e)
  of_struct slot os s q d is e = absurd (none-some q e)

  of_union : (slot : Slot) (n : ℕ) (v : Value) (s : List ℕ) (q : InSlot) (d : Option TypeDef) → form_of rows slot ≡ d → part (union_holder d n v) s ≡ Some q → LieIn (places_in h rows q.0 q.1) (places_in h rows slot (V.union n v))
  of_union slot n v s q (Some (T.Union u)) is e = member_part slot n v s q (slice_get u.members n) (ap (λ o. member_of o n) is) e
  of_union slot n v s q d is e = absurd (none-some q e)

  of_anything : (ps : Places) (d : Data) (s : List ℕ) (q : InSlot) → part (any_holder d) s ≡ Some q → LieIn (places_in h rows q.0 q.1) ps
  of_anything ps (D.list ds) s q e = any_part ps q _ e
  of_anything ps (D.map ms) s q e = any_part ps q _ e
  of_anything ps d s q e = absurd (none-some q e)

  one : (slot : Slot) (v : Value) (s : List ℕ) (q : InSlot) → part (holder_of rows slot v) s ≡ Some q → LieIn (places_in h rows q.0 q.1) (places_in h rows slot v)
  one slot (V.list vs) s q e = of_list slot vs s q (form_of rows slot) refl e
  one slot (V.map ps) s q e = of_map slot ps s q (form_of rows slot) refl e
  one slot (V.struct os) s q e = of_struct slot os s q (form_of rows slot) refl e
  one slot (V.union n v) s q e = of_union slot n v s q (form_of rows slot) refl e
  one slot (V.any d) s q e = of_anything (places_in h rows slot (V.any d)) d s q e
  one slot v s q e = absurd (none-some q e)

  -- ---- a path

  along : (path : List (List ℕ)) (p q : InSlot) → at rows p path ≡ Some q → LieIn (places_in h rows q.0 q.1) (places_in h rows p.0 p.1)
  along [] p q e = subst (λ (r : InSlot). LieIn (places_in h rows r.0 r.1) (places_in h rows p.0 p.1)) (same_Some p q e) (λ x here. here)
  along (s ∷ ss) p q e = by (part (seen rows p) s) refl e (λ r rest. along ss r q rest) where
    by : (o : Option InSlot) → part (seen rows p) s ≡ o → option_and_then (λ r. at rows r ss) o ≡ Some q → ((r : InSlot) → at rows r ss ≡ Some q → LieIn (places_in h rows q.0 q.1) (places_in h rows r.0 r.1))
        → LieIn (places_in h rows q.0 q.1) (places_in h rows p.0 p.1)
    by None is e rest = absurd (none-some q e)
    by (Some r) is e rest = λ x here. one p.0 p.1 s r is x (rest r e x here)

pub places_of_parts : PlacesOfParts
places_of_parts h rows p q path e = along h rows path p q e

-- ---- children

abbrev pub ids_at : Place → List (List ℕ)
ids_at q = map id_of (tops q.1)

abbrev pub ids_of : List ℕ → List Place → List (List (List ℕ))
ids_of b qs = map ids_at (filter (λ r. same_text b r.0) qs)

-- each place of a block is listed with the ids of its children
pub all_listed : (b : List ℕ) (qs : List Place) → AllByRecursion (λ r. same_text b r.0 ≡ true → Contains (ids_of b qs) (ids_at r)) qs
all_listed b [] = tt
all_listed b (r ∷ qs) = by (same_text b r.0) (all_listed b qs) where
  by : (t : Bool) → AllByRecursion (λ x. same_text b x.0 ≡ true → Contains (ids_of b qs) (ids_at x)) qs
      → (t ≡ true → Contains (map ids_at (cond t (r ∷ filter (λ x. same_text b x.0) qs) (filter (λ x. same_text b x.0) qs))) (ids_at r))
      × AllByRecursion (λ x. same_text b x.0 ≡ true → Contains (map ids_at (cond t (r ∷ filter (λ x. same_text b x.0) qs) (filter (λ x. same_text b x.0) qs))) (ids_at x)) qs
  by true rest = (
    (λ e. (zero, omega arith, refl)),
    all_more (λ x. same_text b x.0 ≡ true → Contains (ids_of b qs) (ids_at x)) (λ x. same_text b x.0 ≡ true → Contains (ids_at r ∷ ids_of b qs) (ids_at x))
        (λ x f e. contains_more (ids_at r) (ids_of b qs) (ids_at x) (f e)) qs rest,
  )
  by false rest = ((λ e. absurd cc), rest)

-- and what is listed is so for such a place
record IsListed (b : List ℕ) (qs : List Place) (ids : List (List ℕ)) : Type 0 where
  place : Place
  here : Contains qs place
  block : same_text b place.0 ≡ true
  are : ids_at place ≡ ids

all_are_listed : (b : List ℕ) (qs : List Place) → AllByRecursion (IsListed b qs) (ids_of b qs)
all_are_listed b [] = tt
all_are_listed b (r ∷ qs) = by (same_text b r.0) refl (all_are_listed b qs) where
  more : (ids : List (List ℕ)) → IsListed b qs ids → IsListed b (r ∷ qs) ids
  more ids x = record { place = x.place; here = contains_more r qs x.place x.here; block = x.block; are = x.are }

  by : (t : Bool) → same_text b r.0 ≡ t → AllByRecursion (IsListed b qs) (ids_of b qs) → AllByRecursion (IsListed b (r ∷ qs)) (map ids_at (cond t (r ∷ filter (λ x. same_text b x.0) qs) (filter (λ x. same_text b x.0) qs)))
  by true is rest = (record { place = r; here = (zero, omega arith, refl); block = is; are = refl }, all_more (IsListed b qs) (IsListed b (r ∷ qs)) more (ids_of b qs) rest)
  by false is rest = all_more (IsListed b qs) (IsListed b (r ∷ qs)) more (ids_of b qs) rest

pub children_of_parts : ChildrenOfParts
children_of_parts h rows p q path e block ids here =
    let x = all_contained (IsListed block (each_place (places_in h rows q.0 q.1))) (ids_of block (each_place (places_in h rows q.0 q.1))) ids (all_are_listed block (each_place (places_in h rows q.0 q.1))) here in
    let there = all_contained (λ r. same_text block r.0 ≡ true → Contains (children_of h rows p block) (ids_at r)) (each_place (places_in h rows p.0 p.1)) x.place
    (all_listed block (each_place (places_in h rows p.0 p.1))) (places_of_parts h rows p q path e x.place x.here) x.block in
    subst (λ (l : List (List ℕ)). Contains (children_of h rows p block) l) x.are there
