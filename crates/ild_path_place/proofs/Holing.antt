-- What is told of a hole at the front of a holder is told of the holder: of a tuple the count of present fields tells it, and of no other.
use Rattle.std.proofs.Common.{◌≡◌, ℕ, suc, List, [], ◌∷◌, ◌++◌, Bool, true, false, true≢false, Option, Some, None, refl, ap, sym, ◌∙◌, subst}
use Rattle.std.specs.Prelude.{option_and_then}
use Rattle.std.specs.Option.{option_map_or}
use Rattle.std.proofs.lemmas.List.{length-map}
use Rattle.std.proofs.lemmas.Option.{none-some, same_Some}
use Rattle.std.proofs.lemmas.Bool.{or_parts}
use Rattle.ild_data.specs.Data.{Data}
use Rattle.ild_path_judged.specs.Place.{last_in, last_of}
use Rattle.ild_path_place.proofs.Lasting.{Ends, ends}
use Rattle.ild_path_place.specs.Holes.{HoleIs, VerbHole}
use Rattle.ild_path_place.specs.declared.verb.Verb.{Verb}
use Rattle.ild_path_place.specs.declared.verb.Verb.TheVariants as W
use Rattle.ild_path_room.proofs.Holes.{tells_plain, tells_tuple}
use Rattle.ild_path_room.specs.Hole.{TellsHole, is_tuple, told_at}
use Rattle.ild_path_room.specs.Room.{by_set}
use Rattle.ild_path_room.specs.declared.hole.PartMotion.{PartMotion}
use Rattle.ild_path_room.specs.declared.hole.PartMotion.TheVariants as E
use Rattle.ild_schema.specs.Parts.{part_named}
use Rattle.ild_schema.specs.Slots.{form_of}
use Rattle.ild_schema.specs.Value as V
use Rattle.ild_schema.specs.Value.{Value, Optionals, Pairs}
use Rattle.ild_schema.specs.Whole.{is_whole}
use Rattle.ild_schema.specs.declared.def.Field.{Field}
use Rattle.ild_schema.specs.declared.def.StructDef.{StructDef}
use Rattle.ild_schema.specs.declared.def.StructForm.{StructForm}
use Rattle.ild_schema.specs.declared.def.StructForm.TheVariants as S
use Rattle.ild_schema.specs.declared.def.TypeDef.{TypeDef}
use Rattle.ild_schema.specs.declared.def.TypeDef.TheVariants as D
use Rattle.ild_schema.specs.declared.number.Slot.{Slot}
use Rattle.ild_schema.specs.declared.row.Row.{Row}
use Rattle.ild_typed.specs.At.{InSlot, at, seen}
use Rattle.ild_typed.specs.EachLayer.{some_field}
use Rattle.ild_typed.specs.Hamt.{whole}
use Rattle.ild_typed.specs.Holder.{Holder, fields, member, entries, elements, any_entries, any_elements, nothing}
use Rattle.ild_typed.specs.Judged.{has_hole, hole_in, is_hole, some_present, tuple_hole}
use Rattle.ild_typed.specs.OfType.{OfType, TestsKeys}
use Rattle.ild_typed.specs.Represented.{represented}
use Rattle.ild_typed.specs.Segment.{part}
use Rattle.ild_typed.specs.Slots.{element_of, fields_of}
use Rattle.ild_typed_fronts.proofs.Holding.{entry_front, front_of, fronts_of}
use Rattle.ild_typed_fronts.proofs.Seeing.{typed_seen}
use Rattle.ild_typed_fronts.specs.Front.{front, front_in, fronts_of_fields, fronts_of_pairs, is_hamt, is_root, root_or_map, stands_as_root}
use Rattle.ild_view.specs.Counted.{count_in, present_of}

-- ---- fronts

module _ (h : List ℕ → List ℕ) (rows : List Row) where
  present_alike : (fs : List Field) (os : List (Option Value)) → present_of (fronts_of h rows fs os) ≡ present_of os
  present_alike [] os = refl
  present_alike (f ∷ fs) [] = refl
  present_alike (f ∷ fs) (None ∷ os) = present_alike fs os
  present_alike (f ∷ fs) (Some v ∷ os) = ap suc (present_alike fs os)

  count_alike : (k : Holder) → count_in (front_of h rows k) ≡ count_in k
  count_alike (fields fs os) = ap (λ (n : ℕ). Some n) (present_alike fs os)
  count_alike (member ms n v) = refl
  count_alike (entries key slot paired ps) = ap (λ (n : ℕ). Some n) (length-map ps (entry_front h rows slot))
  count_alike (elements slot vs) = ap (λ (n : ℕ). Some n) (length-map vs (front h rows slot))
  count_alike (any_entries ms) = refl
  count_alike (any_elements ds) = refl
  count_alike (nothing v) = refl

  some_alike : (fs : List Field) (os : Optionals) → some_present (fronts_of_fields h rows fs os) ≡ some_present os
  some_alike [] V.no_optionals = refl
  some_alike (f ∷ fs) V.no_optionals = refl
  some_alike [] (V.absent os) = refl
  some_alike [] (V.present v os) = refl
  some_alike (f ∷ fs) (V.absent os) = some_alike fs os
  some_alike (f ∷ fs) (V.present v os) = refl

  hole_alike : (fs : List Field) (os : Optionals) → hole_in (fronts_of_fields h rows fs os) ≡ hole_in os
  hole_alike [] V.no_optionals = refl
  hole_alike (f ∷ fs) V.no_optionals = refl
  hole_alike [] (V.absent os) = refl
  hole_alike [] (V.present v os) = refl
  hole_alike (f ∷ fs) (V.absent os) = some_alike fs os
  hole_alike (f ∷ fs) (V.present v os) = hole_alike fs os

  tuple_alike : (form : StructForm) (fs : List Field) (os : Optionals) → tuple_hole form (fronts_of_fields h rows fs os) ≡ tuple_hole form os
  tuple_alike S.Tuple fs os = hole_alike fs os
  tuple_alike S.Map fs os = refl
  tuple_alike S.ListPairs fs os = refl
  tuple_alike (S.StringPairs inner entry) fs os = refl
  tuple_alike (S.StringJoin delim) fs os = refl

  root_no_hole : (st : StructDef) (b : Bool) (o : Option Data) (ps : Pairs) → is_hole (Some (D.Struct st)) (root_or_map b o ps) ≡ false
  root_no_hole st true None ps = refl
  root_no_hole st true (Some d) ps = refl
  root_no_hole st false o ps = refl

  -- the front of a struct's value has no hole where the value has none
  struct_front : (slot : Slot) (st : StructDef) (v : Value) → is_hole (Some (D.Struct st)) v ≡ false → is_hole (Some (D.Struct st)) (front h rows slot v) ≡ false
  struct_front slot st (V.struct os) e = tuple_alike st.form (fields_of (form_of rows slot)) os ∙ e
  struct_front slot st (V.map ps) e = root_no_hole st (is_hamt (form_of rows slot)) (represented (whole h) rows slot (V.map ps)) (option_map_or (λ u. fronts_of_pairs h rows u ps) (element_of (form_of rows slot)) ps)
  struct_front slot st (V.list vs) e = refl
  struct_front slot st (V.union n v) e = refl
  struct_front slot st (V.hamt d) e = refl
  struct_front slot st (V.any d) e = refl
  struct_front slot st (V.enum n) e = refl
  struct_front slot st (V.text s) e = refl
  struct_front slot st (V.bytes s) e = refl
  struct_front slot st (V.link s) e = refl
  struct_front slot st (V.integer n) e = refl
  struct_front slot st (V.boolean b) e = refl
  struct_front slot st V.null e = refl
  struct_front slot st V.unit e = refl

  -- a value that has no hole in any layer has none in its first
  none_at : (slot : Slot) (st : StructDef) (v : Value) → form_of rows slot ≡ Some (D.Struct st) → has_hole rows slot v ≡ false → is_hole (Some (D.Struct st)) v ≡ false
  none_at slot st (V.struct os) form e =
      ap (λ d. is_hole d (V.struct os)) (sym form) ∙ (or_parts (is_hole (form_of rows slot) (V.struct os)) (some_field is_hole rows (fields_of (form_of rows slot)) os) e).0
  none_at slot st v form e = refl

  front_by : (slot : Slot) (v : Value) (d : TypeDef) → form_of rows slot ≡ Some d → has_hole rows slot v ≡ false → is_hole (Some d) (front h rows slot v) ≡ false
  front_by slot v (D.Struct st) form e = struct_front slot st v (none_at slot st v form e)
  front_by slot v d form e = refl

  pub no_hole_in_front : (slot : Slot) (v : Value) (d : TypeDef) → form_of rows slot ≡ Some d → has_hole rows slot v ≡ false → is_hole (form_of rows slot) (front h rows slot v) ≡ false
  no_hole_in_front slot v d form e = ap (λ o. is_hole o (front h rows slot v)) form ∙ front_by slot v d form e

-- no struct is a HAMT
no_root : (st : StructDef) (v : Value) → is_whole v ≡ true → stands_as_root (Some (D.Struct st)) v ≡ false
no_root st (V.hamt d) e = absurd (true≢false (sym e))
no_root st v e = refl

-- two answers are one
one_answer : (rows : List Row) (p : InSlot) (s : List ℕ) (e : PartMotion) (a b : Bool) → TellsHole rows p s e a → TellsHole rows p s e b → a ≡ b
one_answer rows p s E.Comes a b x y = x by_set V.null ∙ sym (y by_set V.null)
one_answer rows p s E.Goes a b x y = x ∙ sym y

-- what is told of a holder's front is told of the holder
module _ (h : List ℕ → List ℕ) (rows : List Row) (is_key : ℕ → List ℕ → Bool) (keys : TestsKeys rows is_key) (q : InSlot) (typed : OfType rows q.0 q.1) (front_typed : OfType rows q.0 (front h rows q.0 q.1))
    (entire : is_whole q.1 ≡ true) (none : has_hole rows q.0 q.1 ≡ false) (s : List ℕ) where
  of_plain : (e : PartMotion) (d : TypeDef) → form_of rows q.0 ≡ Some d → is_tuple d ≡ false → (a : Bool) → TellsHole rows (front_in h rows q) s e a → TellsHole rows q s e a
  of_plain e d form plain a x = subst (TellsHole rows q s e) (one_answer rows (front_in h rows q) s e false a (tells_plain rows (front_in h rows q) s e d form plain) x) (tells_plain rows q s e d form plain)

  of_tuple : (e : PartMotion) (st : StructDef) → form_of rows q.0 ≡ Some (D.Struct st) → is_tuple (D.Struct st) ≡ true → (a : Bool) → TellsHole rows (front_in h rows q) s e a → TellsHole rows q s e a
  of_tuple e st form is a x =
      let d : TypeDef = D.Struct st in
      let o = option_and_then (part_named s) (form_of rows q.0) in
      let c = count_in (seen rows q) in
      let plain : is_root rows q ≡ false = ap (λ k. stands_as_root k q.1) form ∙ no_root st q.1 entire in
      let own : is_hole (form_of rows q.0) q.1 ≡ false = ap (λ k. is_hole k q.1) form ∙ none_at h rows q.0 st q.1 form none in
      let count : count_in (seen rows (front_in h rows q)) ≡ c = ap count_in (typed_seen h rows is_key keys q typed plain) ∙ count_alike h rows (seen rows q) in
      let at_front : TellsHole rows (front_in h rows q) s e (told_at e o c) = tells_tuple rows (front_in h rows q) s e d o c form is front_typed (no_hole_in_front h rows q.0 q.1 d form none) refl (sym count) in
      subst (TellsHole rows q s e) (one_answer rows (front_in h rows q) s e (told_at e o c) a at_front x) (tells_tuple rows q s e d o c form is typed own refl refl)

  of_struct : (e : PartMotion) (st : StructDef) (b : Bool) → is_tuple (D.Struct st) ≡ b → form_of rows q.0 ≡ Some (D.Struct st) → (a : Bool) → TellsHole rows (front_in h rows q) s e a → TellsHole rows q s e a
  of_struct e st false is form = of_plain e (D.Struct st) form is
  of_struct e st true is form = of_tuple e st form is

  of_front : (e : PartMotion) (d : TypeDef) → form_of rows q.0 ≡ Some d → (a : Bool) → TellsHole rows (front_in h rows q) s e a → TellsHole rows q s e a
  of_front e (D.Struct st) form = of_struct e st (is_tuple (D.Struct st)) refl form
  of_front e d form = of_plain e d form refl

  pub hole_of_front : (d : TypeDef) → form_of rows q.0 ≡ Some d → (verb : Verb) (a : Bool) → VerbHole rows (front_in h rows q) s verb a → VerbHole rows q s verb a
  hole_of_front d form W.Set a x = of_front E.Comes d form a x
  hole_of_front d form W.Ins a x = of_front E.Comes d form a x
  hole_of_front d form W.Del a x = of_front E.Goes d form a x

-- ---- at the end of a path

module _ (rows : List Row) where
  last_by : (s : List ℕ) (q p : InSlot) (t : List ℕ) (ts : List (List ℕ)) (o : Option InSlot) → part (seen rows p) t ≡ o → option_and_then (λ r. at rows r ts) o ≡ Some q
      → ((r : InSlot) → at rows r ts ≡ Some q → last_of rows r (ts ++ s ∷ []) ≡ Some (q, s)) → last_in rows p t (ts ++ s ∷ []) ≡ Some (q, s)
  last_by s q p t ts None is e rest = absurd (none-some q e)
  last_by s q p t [] (Some r) is e rest = ap (option_and_then (λ r. last_in rows r s [])) is ∙ rest r e
  last_by s q p t (u ∷ us) (Some r) is e rest = ap (option_and_then (λ r. last_in rows r u (us ++ s ∷ []))) is ∙ rest r e

  -- the part in which the last segment is sought
  last_part : (front : List (List ℕ)) (s : List ℕ) (p q : InSlot) → at rows p front ≡ Some q → last_of rows p (front ++ s ∷ []) ≡ Some (q, s)
  last_part [] s p q e = ap (λ (r : InSlot). Some (r, s)) (same_Some p q e)
  last_part (t ∷ ts) s p q e = last_by s q p t ts (part (seen rows p) t) refl e (λ r own. last_part ts s r q own)

  pub hole_is : (p holder : InSlot) (front : List (List ℕ)) (s : List ℕ) (verb : Verb) (a : Bool) → at rows p front ≡ Some holder → VerbHole rows holder s verb a → HoleIs rows p (front ++ s ∷ []) verb a
  hole_is p holder front s verb a there own =
      let x : Ends rows front s = ends rows front s in
      subst (λ (ys : List (List ℕ)). HoleIs rows p ys verb a) (sym x.is)
      (λ l last. let same : (holder, s) ≡ l = same_Some (holder, s) l (sym (last_part front s p holder there) ∙ ap (last_of rows p) x.is ∙ last) in
      subst (λ (k : InSlot × List ℕ). VerbHole rows k.0 k.1 verb a) same own)
