-- From a holder on the path of an edit to the next: what the edit makes of each.
use Rattle.std.proofs.Common.{◌≡◌, ◌≤◌, ℕ, List, [], ◌∷◌, length, Bool, true, Some, refl, sym, ◌∙◌, ap, subst}
use Rattle.std.specs.List.{AllByRecursion}
use Rattle.std.specs.Option.{option_map_or}
use Rattle.std.specs.Prelude.{Err, IsUtf8, Ok, Result, option_and_then}
use Rattle.std.proofs.lemmas.Option.{same_Some}
use Rattle.ild_path_holder.proofs.Walking.{passed}
use Rattle.ild_data.proofs.Options.{chain_some}
use Rattle.ild_data.specs.Data.{Data}
use Rattle.ild_data.specs.Spell.{spell}
use Rattle.ild_path_block.proofs.Allowing.{IsAllowed, allowed, makes_rest}
use Rattle.ild_path_block.specs.Changes.{Allows, in_last}
use Rattle.ild_path_block.specs.Edits.{BringsPart, EditMakes}
use Rattle.ild_path_block.specs.Items.{becoming}
use Rattle.ild_path_block.specs.declared.edit.PartEdit.{PartEdit}
use Rattle.ild_path_block.specs.declared.edit.PartEdit.TheVariants as E
use Rattle.ild_path_changes.proofs.HaveTrees.{has_trees}
use Rattle.ild_path_changes.proofs.Represented.{represents}
use Rattle.ild_path_changes.proofs.Represents.{Represents}
use Rattle.ild_path_changes.specs.LiftLaws.{of_fronts}
use Rattle.ild_path_edit.specs.Holders.{PartIs}
use Rattle.ild_path_edits.proofs.Holders.{set_part-seen, set_part-there}
use Rattle.ild_path_edits.proofs.KeepTyped.{edits_keep_types, of_type_is_kept}
use Rattle.ild_path_edits.proofs.Kept.{IsKept}
use Rattle.ild_path_edits.proofs.Paths.{inside_of}
use Rattle.ild_path_edits.specs.Edit.{del_at, ins_at, set_at}
use Rattle.ild_path_edits.specs.Table.{slot_to_insert, slot_to_set}
use Rattle.ild_path_sizes.proofs.Longer.{no_longer}
use Rattle.ild_path_holder.specs.Along.{holder_at, is_holder}
use Rattle.ild_schema.proofs.Legibly.{legible}
use Rattle.ild_schema.specs.Value.{Value}
use Rattle.ild_schema.specs.declared.number.Slot.{Slot}
use Rattle.ild_schema.specs.declared.row.Row.{Row}
use Rattle.ild_script.specs.declared.reply.No.{No}
use Rattle.ild_typed.specs.At.{InSlot, changed_in, last_holder, seen}
use Rattle.ild_typed.specs.Hamt.{alone}
use Rattle.ild_typed.specs.Holder.{Holder, value_of}
use Rattle.ild_typed.specs.OfType.{OfType, TestsKeys}
use Rattle.ild_typed.specs.Represented.{represented}
use Rattle.ild_typed.specs.Schema.{IsSchema}
use Rattle.ild_typed.specs.Segment.{part, set_part}
use Rattle.ild_value_meaning.proofs.Told.{told}

pub ok_same : (c d : Value) (r : Result Value No) → r ≡ Ok c → r ≡ Ok d → c ≡ d
ok_same c d (Ok e) a b = let same : e ≡ c = cc a in let other : e ≡ d = cc b in sym same ∙ other
ok_same c d (Err refusal) a b = absurd cc

-- the last holder of a path is that of the path from the part at its first segment
pub last_from : (rows : List Row) (p q : InSlot) (s t : List ℕ) (ss : List (List ℕ)) → part (seen rows p) s ≡ Some q → last_holder rows p s (t ∷ ss) ≡ last_holder rows q t ss
last_from rows p q s t ss e = ap (option_and_then (λ q. last_holder rows q t ss)) e

-- what an edit brings is brought to the part at the first segment
pub brings_from : (rows : List Row) (p q : InSlot) (s t : List ℕ) (ss : List (List ℕ)) (edit : PartEdit) (w : Value) → part (seen rows p) s ≡ Some q → BringsPart rows p (s ∷ t ∷ ss) edit w → BringsPart rows q (t ∷ ss) edit w
brings_from rows p q s t ss (E.Set n) w e brings = λ slot new. brings slot (ap (option_and_then (λ (l : Holder × List ℕ). slot_to_set l.0 l.1)) (last_from rows p q s t ss e) ∙ new)
brings_from rows p q s t ss (E.Insert n) w e brings = λ slot new. brings slot (ap (option_and_then (λ (l : Holder × List ℕ). slot_to_insert l.0 l.1)) (last_from rows p q s t ss e) ∙ new)
brings_from rows p q s t ss E.Delete w e brings = tt

module _ (rows : List Row) (is_key : ℕ → List ℕ → Bool) (schema : IsSchema rows) (keys : TestsKeys rows is_key) where
  abbrev Of : Slot → Value → Type 0
  Of slot v = OfType rows slot v

  kept : IsKept rows is_key Of
  kept = of_type_is_kept rows is_key schema keys

  abbrev Rep : Slot → Value → Data → Type 0
  Rep slot v t = represented alone rows slot v ≡ Some t

  stands : Represents rows Of Rep
  stands = represents rows is_key (told rows schema).apart (told rows schema).any_there keys (legible rows schema.accepted).clear alone (has_trees alone rows (of_fronts refl) schema.table.texts.spelled) kept

  -- a part of a value of a type
  pub part_typed : (p q : InSlot) (s : List ℕ) → Of p.0 p.1 → part (seen rows p) s ≡ Some q → Of q.0 q.1
  part_typed p q s is e = kept.parts p q s is e

  pub part_made : (p q : InSlot) (s : List ℕ) (t : Data) → Of p.0 p.1 → part (seen rows p) s ≡ Some q → Rep p.0 p.1 t → (d : Data) × Rep q.0 q.1 d
  part_made p q s t is e made = stands.parts p q s t is e made

  module _ (edit : PartEdit) (w : Value) where
    -- what an edit makes is of the type
    pub made_typed : (p : InSlot) (path : List (List ℕ)) (c : Value) (e : PartEdit) → AllByRecursion IsUtf8 path → BringsPart rows p path e w → Of p.0 p.1 → EditMakes rows is_key e w p path c → Of p.0 c
    made_typed p path c (E.Set n) texts brings is makes = edits_keep_types rows is_key schema keys p (set_at path w) c texts (λ slot new. (brings slot new).fits) is makes
    made_typed p path c (E.Insert n) texts brings is makes = edits_keep_types rows is_key schema keys p (ins_at path w) c texts (λ slot new. (brings slot new).fits) is makes
    made_typed p path c E.Delete texts brings is makes = edits_keep_types rows is_key schema keys p (del_at path) c texts tt is makes

    module _ (p : InSlot) (is : Of p.0 p.1) (old : Data) (was : Rep p.0 p.1 old) where
      pub record Next (s t : List ℕ) (ss : List (List ℕ)) (d : Data) : Type 0 where
        pub next : InSlot
        pub there : part (seen rows p) s ≡ Some next
        pub brings : BringsPart rows next (t ∷ ss) edit w
        pub value : Value
        pub makes : EditMakes rows is_key edit w next (t ∷ ss) value
        pub tree : Data
        pub becomes : PartIs rows p s next.0 value tree d
        pub shorter : length (spell tree) ≤ length (spell d)

      -- the holder at the next segment
      pub to_next : (s t : List ℕ) (ss : List (List ℕ)) (c : Value) (d : Data) → AllByRecursion IsUtf8 (s ∷ t ∷ ss) → BringsPart rows p (s ∷ t ∷ ss) edit w → EditMakes rows is_key edit w p (s ∷ t ∷ ss) c → Rep p.0 c d → Next s t ss d
      to_next s t ss c d texts brings makes shown =
          let ok : IsAllowed rows p s (t ∷ ss) edit w = allowed rows is_key p s (t ∷ ss) w c edit brings makes in
          let x = chain_some (λ q. holder_at rows q t ss) (part (seen rows p) s) ok.last ok.at in
          let q : InSlot = x.0 in
          let f : Holder → List ℕ → Holder = (in_last edit w).made in
          let v : Value = changed_in rows f q t ss in
          let it : Of q.0 q.1 = kept.parts p q s is x.1 in
          let below : EditMakes rows is_key edit w q (t ∷ ss) v = makes_rest rows is_key p s (t ∷ ss) w c edit makes q t ss (sym (last_from rows p q s t ss x.1)) in
          let new : Of q.0 v = made_typed q (t ∷ ss) v edit texts.1 (brings_from rows p q s t ss edit w x.1 brings) it below in
          let slot : slot_to_set (seen rows p) s ≡ Some q.0 = kept.slots p q s is x.1 in
          let same : c ≡ changed_in rows f p s (t ∷ ss) = ok_same c (changed_in rows f p s (t ∷ ss)) _ makes (makes_rest rows is_key p s (t ∷ ss) w c edit makes p s (t ∷ ss) refl) in
          let as_set : c ≡ value_of (set_part (seen rows p) s v) = same ∙ ap (λ o. option_map_or (λ r. value_of (set_part (seen rows p) s (changed_in rows f r t ss))) o p.1) x.1 in
          let made : Rep p.0 (value_of (set_part (seen rows p) s v)) d = ap (represented alone rows p.0) (sym as_set) ∙ shown in
          let whole : Of p.0 (value_of (set_part (seen rows p) s v)) = kept.set p s q.0 v is slot (kept.there p q s is x.1) new in
          let there : part (seen rows (p.0, value_of (set_part (seen rows p) s v))) s ≡ Some (q.0, v) =
          ap (λ h. part h s) (set_part-seen rows p.0 p.1 s v) ∙ set_part-there (seen rows p) s q.0 v slot (λ g. inside_of rows is_key Of kept q.0 v new g) in
          let n = stands.parts (p.0, value_of (set_part (seen rows p) s v)) (q.0, v) s d whole there made in
          record {
            next = q;
            there = x.1;
            brings = brings_from rows p q s t ss edit w x.1 brings;
            value = v;
            makes = below;
            tree = n.0;
            becomes = record { place = slot; fits = new; shown = n.1; tree = has_trees alone rows (of_fronts refl) schema.table.texts.spelled q.0 v n.0 new n.1; made = made };
            shorter = no_longer rows (legible rows schema.accepted) (told rows schema).any_there p q s v old (part_made p q s old is x.1 was).0 n.0 d was (part_made p q s old is x.1 was).1 x.1 (passed rows q ok.last t ss x.2 ok.holds) there n.1 made;
          }

      -- at the last segment
      pub at_last : (s : List ℕ) (c : Value) (d : Data) → BringsPart rows p (s ∷ []) edit w → EditMakes rows is_key edit w p (s ∷ []) c → Rep p.0 c d → (is_holder (seen rows p) ≡ true) × Allows rows edit (seen rows p) s w × (becoming rows edit w p s ≡ Some d)
      at_last s c d brings makes shown =
          let ok : IsAllowed rows p s [] edit w = allowed rows is_key p s [] w c edit brings makes in
          let same : ok.last ≡ p = sym (same_Some p ok.last ok.at) in
          let is_c : c ≡ changed_in rows (in_last edit w).made p s [] = ok_same c (changed_in rows (in_last edit w).made p s []) _ makes (makes_rest rows is_key p s [] w c edit makes p s [] refl) in
          (subst (λ r. is_holder (seen rows r) ≡ true) same ok.holds, subst (λ r. Allows rows edit (seen rows r) s w) same ok.allows, ap (represented alone rows p.0) (sym is_c) ∙ shown)
