-- What an edit passes on of the places of the value before it.
use Rattle.std.proofs.Common.{◌≡◌, ◌⊎◌, inl, inr, ⊎_elim, ℕ, List, [], ◌∷◌, map, Option, Some, None, refl, ap, sym, subst, ◌∙◌}
use Rattle.std.specs.Prelude.{Contains, IfOk, IsUtf8, Result, Ok, Err}
use Rattle.std.specs.List.{AllByRecursion}
use Rattle.std.specs.Option.{option_map_or}
use Rattle.std.proofs.lemmas.Option.{same_Some}
use Rattle.ild_edges.specs.Gained.{AreIdsGiven}
use Rattle.ild_edges.specs.Among.{IsIn}
use Rattle.ild_bulk.specs.Putting.{GivesAll}
use Rattle.ild_data.proofs.AllOf.{all_contained}
use Rattle.ild_data.specs.Data.{Data}
use Rattle.ild_data.specs.Spell.{id_of, spell}
use Rattle.ild_edges.specs.Store.{StaysGiven}
use Rattle.ild_edges.specs.Told.{BothTold, IfTold}
use Rattle.ild_schema.specs.declared.number.Slot.{Slot}
use Rattle.ild_schema.specs.declared.number.TypeNo.{TypeNo}
use Rattle.ild_schema.specs.declared.row.Row.{Row}
use Rattle.ild_schema.specs.Slots.{plainly}
use Rattle.ild_schema.specs.Value.{Value}
use Rattle.ild_script_meaning.specs.Lines.{Setting, places_in as listed_in}
use Rattle.ild_typed.proofs.Rooms.{all_more}
use Rattle.ild_typed.specs.Blocks.{nodes}
use Rattle.ild_typed.specs.Hamt.{whole}
use Rattle.ild_typed.specs.OfType.{OfType}
use Rattle.ild_typed.specs.Represented.{represented}
use Rattle.ild_typed.specs.Schema.{IsSchema}
use Rattle.ild_typed.specs.Stands.{bare}
use Rattle.ild_typed.specs.Typed.{Typed}
use Rattle.ild_typed_places.specs.Carried.{Passed}
use Rattle.ild_typed_places.specs.Places.{Place, each_place, down_from, value_places}
use Rattle.ild_typed_places.proofs.Listing.{all_mapped, all_one, mapped_all}
use Rattle.ild_path_edits.specs.Edit.{Edit, HasTextPath, change, new_slot, path_of}
use Rattle.ild_path_edits.specs.EditLaws.{Brings}
use Rattle.ild_path_edits.specs.Judged.{Tests, AreTests}
use Rattle.ild_path_judged.specs.Place.{bringing}
use Rattle.ild_path_nodes.specs.NodeLaws.{nodes_brought}
use Rattle.ild_path_passed.proofs.Passing.{edits_are_passed}
use Rattle.ild_path_passed.proofs.Whole.{values_are_passed}
use Rattle.ild_path_room.specs.Room.{Coming, by_set, by_insert}
use Rattle.ild_path_way.specs.Way.{nodes_met}
use Rattle.ild_run_standing.specs.Answers.{PassesOn}
use Rattle.ild_run_edit.proofs.Judging.{path_texts}

-- ---- ids that a store tells

pub told_both : (o p : Option (List (List ℕ))) (P : List (List ℕ) → Type 0) → BothTold o p StaysGiven → IfTold p P → BothTold o p (λ was now. P now)
told_both None None P stays x = tt
told_both None (Some now) P stays x = absurd stays
told_both (Some was) None P stays x = absurd stays
told_both (Some was) (Some now) P stays x = x

pub told_any : (o : Option (List (List ℕ))) (P : List (List ℕ) → Type 0) → ((now : List (List ℕ)) → P now) → IfTold o P
told_any None P f = tt
told_any (Some now) P f = f now

-- of an Ok, by what was told before
pub told_ok : {E : Type 0} (r : Result (List ℕ) E) (o : Option (List (List ℕ))) (P Q R : List (List ℕ) → Type 0) → ((now : List (List ℕ)) → P now → Q now → R now) → IfTold o P → IfOk r (λ b. IfTold o Q) → IfOk r (λ b. IfTold o R)
told_ok (Ok b) None P Q R f x y = tt
told_ok (Ok b) (Some now) P Q R f x y = f now x y
told_ok (Err e) o P Q R f x y = tt

pub given_later : (o p : Option (List (List ℕ))) (bs : List (List ℕ)) → BothTold o p StaysGiven → IfTold o (AreIdsGiven bs) → IfTold p (AreIdsGiven bs)
given_later None None bs stays x = tt
given_later None (Some now) bs stays x = absurd stays
given_later (Some was) None bs stays x = absurd stays
given_later (Some was) (Some now) bs stays x = all_more (λ b. Contains was (id_of b)) (λ b. Contains now (id_of b)) (λ b here. stays (id_of b) here) bs x

among_ids : (bs : List (List ℕ)) → AllByRecursion (λ b. IsIn (id_of b) (map id_of bs)) bs
among_ids [] = tt
among_ids (b ∷ bs) = (inl refl, all_more (λ c. IsIn (id_of c) (map id_of bs)) (λ c. IsIn (id_of c) (map id_of (b ∷ bs))) (λ c here. inr here) bs (among_ids bs))

pub given_all : (o p : Option (List (List ℕ))) (bs : List (List ℕ)) → BothTold o p (GivesAll (map id_of bs)) → IfTold p (AreIdsGiven bs)
given_all None None bs x = tt
given_all None (Some now) bs x = absurd x
given_all (Some was) None bs x = absurd x
given_all (Some was) (Some now) bs x = all_more (λ b. IsIn (id_of b) (map id_of bs)) (λ b. Contains now (id_of b)) (λ b here. (x (id_of b)).1 (inr here)) bs (among_ids bs)

-- ---- places as they are listed

pub itself_passes : (w : Setting) (given : List (List ℕ)) (v : Value) → PassesOn w given v v
itself_passes w given v =
    all_more (Contains (listed_in w v)) (λ p. Contains given (id_of p.0) ⊎ Contains (listed_in w v) p) (λ p here. inr here) (listed_in w v) (all_one (listed_in w v))

abbrev listed : Place → List ℕ × List (List ℕ)
listed q = (q.0, down_from q)

listed_too : (ps : List Place) (q : Place) → Contains ps q → Contains (map listed ps) (listed q)
listed_too ps q here = all_contained (λ p. Contains (map listed ps) (listed p)) ps q (mapped_all (Contains (map listed ps)) listed ps (all_one (map listed ps))) here

-- ---- of a part that comes

pub brought_are : (h : List ℕ → List ℕ) (rows : List Row) (how : Coming) (path : List (List ℕ)) (w : Value) (o : Option Slot) (slot : Slot) → o ≡ Some slot → nodes_brought h rows o (bringing how path w) ≡ nodes h rows slot w
brought_are h rows by_set path w o slot e = ap (λ o. option_map_or (λ s. nodes h rows s w) o []) e
brought_are h rows by_insert path w o slot e = ap (λ o. option_map_or (λ s. nodes h rows s w) o []) e

pub brings_of_type : (rows : List Row) (how : Coming) (p : _) (path : List (List ℕ)) (w : Value) (slot : Slot) → new_slot rows p (bringing how path w) ≡ Some slot → Typed rows slot w → Brings rows (OfType rows) p (bringing how path w)
brings_of_type rows by_set p path w slot e t = λ u f. subst (λ s. OfType rows s w) (same_Some slot u (sym e ∙ f)) (t.0, t.1)
brings_of_type rows by_insert p path w slot e t = λ u f. subst (λ s. OfType rows s w) (same_Some slot u (sym e ∙ f)) (t.0, t.1)

pub bringing_path : (how : Coming) (path : List (List ℕ)) (w : Value) → path_of (bringing how path w) ≡ path
bringing_path by_set path w = refl
bringing_path by_insert path w = refl

-- ---- of an edit

module _ (h : List ℕ → List ℕ) (rows : List Row) (t : Tests) (n : TypeNo) (v c : Value) (d u : Data) (was : represented (whole h) rows (plainly n) v ≡ Some d) (tree : represented (whole h) rows (plainly n) c ≡ Some u) where
  abbrev w : Setting
  w = record { frame = bare; hash = h; rows = rows; tests = t; ty = n }

  places_are : (x : Value) (y : Data) → represented (whole h) rows (plainly n) x ≡ Some y → map listed (each_place (value_places bare h rows n x y)) ≡ listed_in w x
  places_are x y made = sym (ap (λ o. option_map_or (λ z. map listed (each_place (value_places bare h rows n x z))) o []) made)

  passes_on : (given : List (List ℕ)) → Passed given (value_places bare h rows n v d) (value_places bare h rows n c u) → PassesOn w given v c
  passes_on given all =
      let old = each_place (value_places bare h rows n v d) in
      let new = each_place (value_places bare h rows n c u) in
      subst (λ os. AllByRecursion (λ p. Contains given (id_of p.0) ⊎ Contains os p) (listed_in w c)) (places_are v d was)
      (subst (λ ps. AllByRecursion (λ p. Contains given (id_of p.0) ⊎ Contains (map listed old) p) ps) (places_are c u tree)
      (all_mapped (λ p. Contains given (id_of p.0) ⊎ Contains (map listed old) p) listed new
      (all_more (λ q. Contains given (id_of q.0) ⊎ Contains old q) (λ q. Contains given (id_of q.0) ⊎ Contains (map listed old) (listed q)) (λ q. ⊎_elim (λ x. inl x) (λ here. inr (listed_too old q here))) new all)))

  pub edit_passes_on : IsSchema rows → AreTests rows t → (e : Edit Value) → HasTextPath e → Brings rows (OfType rows) (plainly n, v) e → OfType rows (plainly n) v → change rows t.is_key (plainly n, v) e ≡ Ok c
      → (given : List (List ℕ)) → AreIdsGiven (nodes_brought h rows (new_slot rows (plainly n, v) e) e) given → AreIdsGiven (spell u ∷ nodes_met h rows (plainly n, c) (path_of e)) given → PassesOn w given v c
  edit_passes_on schema tests e texts new is made given brought met =
      passes_on given (values_are_passed bare h rows n v c d u given met.0 (edits_are_passed h rows t.is_key schema tests.keys given (plainly n, v) d e c texts new is was made met.1 brought))

  pub coming_passes_on : IsSchema rows → AreTests rows t → (how : Coming) (path : List (List ℕ)) (slot : Slot) (x : Value) → new_slot rows (plainly n, v) (bringing how path x) ≡ Some slot → Typed rows slot x → AllByRecursion IsUtf8 path
      → OfType rows (plainly n) v → change rows t.is_key (plainly n, v) (bringing how path x) ≡ Ok c
      → (given : List (List ℕ)) → AreIdsGiven (nodes h rows slot x) given → AreIdsGiven (spell u ∷ nodes_met h rows (plainly n, c) path) given → PassesOn w given v c
  coming_passes_on schema tests how path slot x goes typed texts is made given brought met =
      edit_passes_on schema tests (bringing how path x) (path_texts how path x texts) (brings_of_type rows how (plainly n, v) path x slot goes typed) is made given
      (subst (λ bs. AreIdsGiven bs given) (sym (brought_are h rows how path x (new_slot rows (plainly n, v) (bringing how path x)) slot goes)) brought)
      (subst (λ p. AreIdsGiven (spell u ∷ nodes_met h rows (plainly n, c) p) given) (sym (bringing_path how path x)) met)
