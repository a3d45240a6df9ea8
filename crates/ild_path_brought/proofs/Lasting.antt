-- A part that is too long, where an edit brings it, makes a block of the changed value too long.
use Rattle.std.proofs.Common.{◌≡◌, inl, inr, ◌≤◌, ◌<◌, ℕ, Bool, List, [], ◌∷◌, ◌++◌, length, slice_get, Option, Some, refl, ap, sym, subst, ◌∙◌, arith}
use Rattle.std.specs.Prelude.{IsUtf8, option_and_then}
use Rattle.std.specs.List.{AllByRecursion}
use Rattle.std.proofs.lemmas.Option.{same_Some}
use Rattle.ild_data.proofs.Options.{chain_some}
use Rattle.ild_data.specs.Data as T
use Rattle.ild_data.specs.Data.{Data, items_of}
use Rattle.ild_data.specs.Limits.{longest_block}
use Rattle.ild_data.specs.Spell.{spell}
use Rattle.ild_schema.proofs.Legibly.{legible}
use Rattle.ild_schema.specs.declared.def.TypeDef.TheVariants as D
use Rattle.ild_schema.specs.declared.number.Slot.{Slot}
use Rattle.ild_schema.specs.declared.row.Row.{Row}
use Rattle.ild_schema.specs.Prelude.{anything}
use Rattle.ild_schema.specs.Slots.{form_of}
use Rattle.ild_schema.specs.Value.{Value}
use Rattle.ild_typed.specs.At.{InSlot, at, seen}
use Rattle.ild_typed.specs.Hamt.{whole}
use Rattle.ild_typed.specs.Holder.{Holder, elements, any_elements, value_of, of_any}
use Rattle.ild_typed.specs.Layer as L
use Rattle.ild_typed.specs.OfType.{OfType, TestsKeys}
use Rattle.ild_typed.specs.Represented.{layered, represented}
use Rattle.ild_typed.specs.Schema.{IsSchema}
use Rattle.ild_typed.specs.Segment.{part}
use Rattle.ild_value_meaning.proofs.Told.{told}
use Rattle.ild_path_changes.proofs.Datas.{data_of, each}
use Rattle.ild_path_changes.proofs.Each.{each-get}
use Rattle.ild_path_changes.proofs.HaveTrees.{has_trees}
use Rattle.ild_path_changes.proofs.Represented.{in_holders, inside_data, represents}
use Rattle.ild_path_changes.specs.LiftLaws.{of_values}
use Rattle.ild_path_sizes.proofs.Sizes.{in_list}
use Rattle.ild_path_edits.specs.Edit.{HasTextPath, new_slot}
use Rattle.ild_path_edits.specs.EditLaws.{Brings}
use Rattle.ild_path_edits.proofs.KeepTyped.{edits_keep_types}
use Rattle.ild_path_sizes.specs.Long.{HasLongPart}
use Rattle.ild_path_long.proofs.Parts.{parts_are_in_blocks}
use Rattle.ild_path_judged.specs.Place.{bringing}
use Rattle.ild_path_judged.proofs.Last.{HeldBy, kept}
use Rattle.ild_path_room.specs.Room.{Coming, by_set, by_insert}
use Rattle.ild_path_within.proofs.Splitting.{first_of_path, paths_split}
use Rattle.ild_path_brought.specs.Laws.{IsBrought, LongBrought}
use Rattle.ild_path_brought.proofs.Standing.{Stood, at_segment, as_element, as_data, StandsIn, stands_in}

module _ (h : List ℕ → List ℕ) (rows : List Row) (is_key : ℕ → List ℕ → Bool) (schema : IsSchema rows) (keys : TestsKeys rows is_key) where
  any_there : form_of rows anything ≡ Some D.Any
  any_there = (told rows schema).any_there

  -- the part to which a path leads has data, where the whole has
  data_along : (path : List (List ℕ)) (p q : InSlot) (u : Data) → OfType rows p.0 p.1 → represented (whole h) rows p.0 p.1 ≡ Some u → at rows p path ≡ Some q → (y : Data) × (represented (whole h) rows q.0 q.1 ≡ Some y)
  data_along [] p q u is made there = (u, ap (λ (r : InSlot). represented (whole h) rows r.0 r.1) (sym (same_Some p q there)) ∙ made)
  data_along (s ∷ ss) p q u is made there =
      let x = first_of_path rows p q s ss there in
      let k = kept rows is_key schema keys in
      let r = represents rows is_key (told rows schema).apart any_there keys (legible rows schema.accepted).clear (whole h) (has_trees (whole h) rows (of_values h refl) schema.table.texts.spelled) k in
      let d = r.parts p x.item s u is x.there made in
      data_along ss x.item q d.0 (k.parts p x.item s is x.there) d.1 x.made

  abbrev Rep : Slot → Value → Option Data
  Rep = represented (whole h) rows

  -- an item is no longer than its list
  element_short : (s slot : Slot) (xs : List Value) (i : ℕ) (w : Value) (x y : Data) → HeldBy rows is_key schema keys s (elements slot xs) → slice_get xs i ≡ Some w → Rep slot w ≡ Some x
      → data_of (whole h) (form_of rows s) (represented (whole h) rows) s (elements slot xs) ≡ Some y → length (spell x) ≤ length (spell y)
  element_short s slot xs i w x y held is made e =
      let a = subst (λ d. data_of (whole h) d (represented (whole h) rows) s (elements slot xs) ≡ Some y) held.1 e in
      let z = chain_some (λ ds. layered (whole h) (Some (D.List slot held.0)) (Some (L.list ds))) (each (represented (whole h) rows slot) xs) y a in
      subst (λ u. length (spell x) ≤ length (spell u)) (same_Some (T.list (items_of z.0)) y z.2) (in_list z.0 i x (each-get (represented (whole h) rows slot) xs z.0 i w x z.1 is made))

  data_short : (s : Slot) (ds : List Data) (i : ℕ) (d x y : Data) → HeldBy rows is_key schema keys s (any_elements ds) → slice_get ds i ≡ Some d → Rep anything (of_any d) ≡ Some x
      → data_of (whole h) (form_of rows s) (represented (whole h) rows) s (any_elements ds) ≡ Some y → length (spell x) ≤ length (spell y)
  data_short s ds i d x y held is made e =
      let a : Some (T.list (items_of ds)) ≡ Some y = subst (λ d. data_of (whole h) d (represented (whole h) rows) s (any_elements ds) ≡ Some y) held.0 e in
      let same : d ≡ x = same_Some d x (sym (inside_data (whole h) rows any_there d) ∙ made) in
      subst (λ z. length (spell z) ≤ length (spell y)) same (subst (λ u. length (spell d) ≤ length (spell u)) (same_Some (T.list (items_of ds)) y a) (in_list ds i d is))

  module _ (p : InSlot) (c : Value) (slot : Slot) (w : Value) (x u : Data) (typed : OfType rows p.0 c) (made : Rep slot w ≡ Some x) (tree : Rep p.0 c ≡ Some u) (long : longest_block < length (spell x)) where
    module _ (path : List (List ℕ)) (s : Slot) (k : Holder) (leads : at rows (p.0, c) path ≡ Some (s, value_of k)) (again : seen rows (s, value_of k) ≡ k) where
      holder_data : (y : Data) × (Rep s (value_of k) ≡ Some y)
      holder_data = data_along path (p.0, c) (s, value_of k) u typed tree leads

      data_is : data_of (whole h) (form_of rows s) (represented (whole h) rows) s k ≡ Some holder_data.0
      data_is = ap (data_of (whole h) (form_of rows s) (represented (whole h) rows) s) (sym again) ∙ sym (in_holders (whole h) rows s (value_of k)) ∙ holder_data.1

      -- the holder itself is too long
      of_holder : length (spell x) ≤ length (spell holder_data.0) → HasLongPart h rows (p.0, c)
      of_holder le = record {
        tree = holder_data.0;
        part = record { path = path; part = (s, value_of k); at = leads; tree = holder_data.1 };
        long = omega (arith, le, long);
      }

    of_stood : (path : List (List ℕ)) (s : Slot) (k : Holder) → at rows (p.0, c) path ≡ Some (s, value_of k) → seen rows (s, value_of k) ≡ k → HeldBy rows is_key schema keys s k → Stood k slot w → HasLongPart h rows (p.0, c)
    of_stood path s k leads again held (at_segment t e) = record {
      tree = x;
      part = record {
        path = path ++ t ∷ [];
        part = (slot, w);
        at = paths_split rows (p.0, c) path (t ∷ []) ∙ ap (λ o. option_and_then (λ q. at rows q (t ∷ [])) o) leads ∙ ap (λ o. option_and_then (λ q. at rows q []) o) (ap (λ k. part k t) again ∙ e);
        tree = made;
      };
      long = long;
    }
    of_stood path s k leads again held (as_element xs i e is) =
        of_holder path s k leads again
        (element_short s slot xs i w x (holder_data path s k leads again).0 (subst (λ k. HeldBy rows is_key schema keys s k) e held) is made
        (ap (data_of (whole h) (form_of rows s) (represented (whole h) rows) s) (sym e) ∙ data_is path s k leads again))
    of_stood path s k leads again held (as_data ds i d e is same) =
        of_holder path s k leads again
        (data_short s ds i d x (holder_data path s k leads again).0 (subst (λ k. HeldBy rows is_key schema keys s k) e held) is (ap (λ (r : InSlot). Rep r.0 r.1) same ∙ made)
        (ap (data_of (whole h) (form_of rows s) (represented (whole h) rows) s) (sym e) ∙ data_is path s k leads again))

    long_part : StandsIn rows is_key schema keys p c slot w → HasLongPart h rows (p.0, c)
    long_part (inl same) = record { tree = x; part = record { path = []; part = (slot, w); at = ap Some same; tree = made }; long = long }
    long_part (inr b) = of_stood b.path b.place b.holder b.leads b.again b.held b.stood

-- the changed value is one of its slot
brings_it : (rows : List Row) (p : InSlot) (how : Coming) (path : List (List ℕ)) (slot : Slot) (w : Value) → new_slot rows p (bringing how path w) ≡ Some slot → OfType rows slot w → Brings rows (OfType rows) p (bringing how path w)
brings_it rows p by_set path slot w goes is = λ r e. subst (λ r. OfType rows r w) (same_Some slot r (sym goes ∙ e)) is
brings_it rows p by_insert path slot w goes is = λ r e. subst (λ r. OfType rows r w) (same_Some slot r (sym goes ∙ e)) is

text_path : (how : Coming) (path : List (List ℕ)) (w : Value) → AllByRecursion IsUtf8 path → HasTextPath (bringing how path w)
text_path by_set path w texts = texts
text_path by_insert path w texts = texts

pub changed_typed : (rows : List Row) (is_key : ℕ → List ℕ → Bool) (p : InSlot) (how : Coming) (path : List (List ℕ)) (slot : Slot) (w c : Value) → IsBrought rows is_key p how path slot w c → OfType rows p.0 c
changed_typed rows is_key p how path slot w c b =
    edits_keep_types rows is_key b.schema b.keys p (bringing how path w) c (text_path how path w b.texts) (brings_it rows p how path slot w b.goes b.part) b.typed b.made

pub long_brought : LongBrought
long_brought h rows is_key p how path slot w c b x u made tree long =
    let typed = changed_typed rows is_key p how path slot w c b in
    parts_are_in_blocks h rows is_key b.schema b.keys (p.0, c) u typed tree (long_part h rows is_key b.schema b.keys p c slot w x u typed made tree long (stands_in rows is_key p how path slot w c b))
