-- Edits that are refused before anything is put.
use Rattle.std.proofs.Common.{cond, ◌≡◌, inl, inr, ℕ, List, [], ◌∷◌, Bool, true, false, Option, Some, None, refl, ap, sym, subst, ◌∙◌, arith}
use Rattle.std.specs.Prelude.{◌||◌, is_none, Result, Ok, Err}
use Rattle.std.proofs.lemmas.Option.{none-some, same_Some}
use Rattle.ild_data.specs.Data.{Data}
use Rattle.ild_edges.proofs.Later.{Later-refl}
use Rattle.ild_edges.specs.Store.{Moment}
use Rattle.ild_edges.specs.Told.{BothTold}
use Rattle.ild_schema.specs.declared.number.Slot.{Slot}
use Rattle.ild_schema.specs.declared.number.TypeNo.{TypeNo}
use Rattle.ild_schema.specs.declared.row.Row.{Row}
use Rattle.ild_schema.specs.Slots.{plainly}
use Rattle.ild_schema.specs.Value.{Value}
use Rattle.ild_script.specs.declared.reply.No.{No}
use Rattle.ild_script.specs.declared.reply.No.TheVariants as N
use Rattle.ild_script_meaning.specs.Lines.{read_json}
use Rattle.ild_script_session.specs.Session.{Due}
use Rattle.ild_script_session.specs.Step.{Gains}
use Rattle.ild_typed.specs.At.{InSlot}
use Rattle.ild_typed.specs.OfType.{TestsKeys}
use Rattle.ild_typed.specs.Schema.{IsSchema}
use Rattle.ild_typed.specs.Stands.{Storable, bare}
use Rattle.ild_typed.specs.Typed.{Typed}
use Rattle.ild_typed.proofs.Judging.{tree_sound}
use Rattle.ild_path_edits.specs.Edit.{Edit, new_slot, new_part, with_part, changed_by, change}
use Rattle.ild_path_edits.specs.Judged.{Tests, judged_result}
use Rattle.ild_path_judged.specs.Laws.{IsSound}
use Rattle.ild_path_judged.specs.Place.{bringing}
use Rattle.ild_path_place.specs.Tells.{fits_in, hole_in, room_in, slot_in, table_at, type_at}
use Rattle.ild_path_place.specs.declared.place.Place.{Place}
use Rattle.ild_path_room.specs.Room.{Coming, by_set, by_insert}
use Rattle.ild_run_edit.specs.inside.Judges.{IsPartRefusal, ChangeJudged, has_hole_by, breaks_by, is_deep_by}
use Rattle.ild_run_edit.specs.inside.Moves.{PartAnswer, line_by, due_of, edited_by, Moves, MoveAnswer, IsComing, Fails, ComesTo, PutsPart}
use Rattle.ild_run_edit.proofs.Judging.{change_judged}

-- ---- a store that stays as it is

same_both : (R : List (List ℕ) → List (List ℕ) → Type 0) → ((x : List (List ℕ)) → R x x) → (o : Option (List (List ℕ))) → BothTold o o R
same_both R r None = tt
same_both R r (Some x) = r x

pub gains_none : (m : Moment) (d : Due Value) → Gains m d m
gains_none m d = record { adds = same_both _ (λ x id b e. inl e) m.blocks; whole = same_both _ (λ x id b e. inl e) m.blocks }

pub still_moves : (h : List ℕ → List ℕ) (rows : List Row) (t : Tests) (n : TypeNo) (v : Value) (e : Edit (List ℕ)) (m : Moment) (r : No) → MoveAnswer h rows t n v e m (Err r) m → Moves h rows t n v e m (Err r) m
still_moves h rows t n v e m r a = record { answer = a; gains = gains_none m (due_of h rows t n v e); still = λ none. refl; gets = omega arith; puts = omega arith }

-- ---- the edit of a line

pub slot_as : (rows : List Row) (p : InSlot) (how : Coming) (path : List (List ℕ)) (json : List ℕ) (w : Value) → new_slot rows p (line_by how path json) ≡ new_slot rows p (bringing how path w)
slot_as rows p by_set [] json w = refl
slot_as rows p by_set (s ∷ ss) json w = refl
slot_as rows p by_insert [] json w = refl
slot_as rows p by_insert (s ∷ ss) json w = refl

module _ (h : List ℕ → List ℕ) (rows : List Row) (t : Tests) (n : TypeNo) (v : Value) (path : List (List ℕ)) (json : List ℕ) where
  abbrev p : InSlot
  p = (plainly n, v)

  abbrev by : (Value → Edit Value) → Option Slot → Result Value No
  by f o = judged_result bare h rows t n (changed_by rows t.is_key p (with_part f (new_part rows t.is_key read_json o json)))

  as_edit : (how : Coming) → edited_by h rows t n v (line_by how path json) ≡ by (bringing how path) (new_slot rows p (line_by how path json))
  as_edit by_set = refl
  as_edit by_insert = refl

  in_slot : (how : Coming) (slot : Slot) (w : Value) → new_slot rows p (bringing how path w) ≡ Some slot → edited_by h rows t n v (line_by how path json) ≡ by (bringing how path) (Some slot)
  in_slot how slot w e = as_edit how ∙ ap (by (bringing how path)) (slot_as rows p how path json w ∙ e)

  pub edited_part : (how : Coming) (slot : Slot) (w : Value) → new_slot rows p (bringing how path w) ≡ Some slot → new_part rows t.is_key read_json (Some slot) json ≡ Ok w
      → edited_by h rows t n v (line_by how path json) ≡ judged_result bare h rows t n (change rows t.is_key p (bringing how path w))
  edited_part how slot w e g = in_slot how slot w e ∙ ap (λ r. judged_result bare h rows t n (changed_by rows t.is_key p (with_part (bringing how path) r))) g

  pub edited_none : (how : Coming) (slot : Slot) (w : Value) (r : No) → new_slot rows p (bringing how path w) ≡ Some slot → new_part rows t.is_key read_json (Some slot) json ≡ Err r → edited_by h rows t n v (line_by how path json) ≡ Err r
  edited_none how slot w r e g = in_slot how slot w e ∙ ap (λ r. judged_result bare h rows t n (changed_by rows t.is_key p (with_part (bringing how path) r))) g

-- ---- the part is none, or is refused

abbrev IsNoPart : Place → List ℕ → No → Type 0
IsNoPart place json r = (is_key : ℕ → List ℕ → Bool) → TestsKeys (table_at place) is_key → new_part (table_at place) is_key read_json (Some (slot_in place)) json ≡ Err r

none_here : (h : List ℕ → List ℕ) (place : Place) (json : List ℕ) (m : Moment) (r : No) → Fails m (Err r) m → IsNoPart place json r → ComesTo h place json m (Err r) m
none_here h place json m r fails none = record {
  later = Later-refl m;
  fails = fails;
  moves = λ t v how path x.
      still_moves h (table_at place) t (type_at place) v (line_by how path json) m r
      (inl (edited_none h (table_at place) t (type_at place) v path json how (slot_in place) v r (x.is.slot_is how v refl) (none t.is_key x.at.tests.keys)));
}

no_memory : (h : List ℕ → List ℕ) (place : Place) (json : List ℕ) (m : Moment) → ComesTo h place json m (Err N.Memory) m
no_memory h place json m = record { later = Later-refl m; fails = tt; moves = λ t v how path x. still_moves h (table_at place) t (type_at place) v (line_by how path json) m N.Memory (inr tt) }

pub no_part : (h : List ℕ → List ℕ) (place : Place) (json : List ℕ) (m : Moment) (r : No) → PartAnswer (table_at place) (slot_in place) json (Err r) → ComesTo h place json m (Err r) m
no_part h place json m N.Json a = none_here h place json m N.Json tt a
no_part h place json m N.Mismatch a = none_here h place json m N.Mismatch tt a
no_part h place json m N.Memory a = no_memory h place json m
no_part h place json m N.Line a = absurd a
no_part h place json m N.Path a = absurd a
no_part h place json m N.Delimiter a = absurd a
no_part h place json m N.Hole a = absurd a
no_part h place json m N.Depth a = absurd a
no_part h place json m N.Exhausted a = absurd a
no_part h place json m N.Size a = absurd a
no_part h place json m N.Reserved a = absurd a
no_part h place json m N.Block a = absurd a
no_part h place json m N.Store a = absurd a
no_part h place json m N.Clash a = absurd a
no_part h place json m N.Batch a = absurd a

pub memory_wanting : (h : List ℕ → List ℕ) (place : Place) (json : List ℕ) (m : Moment) → ComesTo h place json m (Err N.Memory) m
memory_wanting = no_memory

-- what is told of a part is none of the causes that a store has
module _ (P : No → Type 0) (mismatch : P N.Mismatch) (hole : P N.Hole) (delimiter : P N.Delimiter) (depth : P N.Depth) (exhausted : P N.Exhausted) where
  plain : (s r : No) → P s → ◌≡◌ {A = Option No} (Some s) (Some r) → P r
  plain s r g e = subst P (same_Some s r e) g

  last : (f : Bool) (r : No) → cond f (Some N.Exhausted) None ≡ Some r → P r
  last true r e = plain N.Exhausted r exhausted e
  last false r e = absurd (none-some r e)

  third : (d f : Bool) (r : No) → cond d (Some N.Depth) (cond f (Some N.Exhausted) None) ≡ Some r → P r
  third true f r e = plain N.Depth r depth e
  third false f r e = last f r e

  second : (b d f : Bool) (r : No) → cond b (Some N.Delimiter) (cond d (Some N.Depth) (cond f (Some N.Exhausted) None)) ≡ Some r → P r
  second true d f r e = plain N.Delimiter r delimiter e
  second false d f r e = third d f r e

  first : (g b d f : Bool) (r : No) → cond g (Some N.Hole) (cond b (Some N.Delimiter) (cond d (Some N.Depth) (cond f (Some N.Exhausted) None))) ≡ Some r → P r
  first true b d f r e = plain N.Hole r hole e
  first false b d f r e = second b d f r e

  all : (key g b d f : Bool) (r : No) → cond key (cond g (Some N.Hole) (cond b (Some N.Delimiter) (cond d (Some N.Depth) (cond f (Some N.Exhausted) None)))) (Some N.Mismatch) ≡ Some r → P r
  all true g b d f r e = first g b d f r e
  all false g b d f r e = plain N.Mismatch r mismatch e

  pub told_plain : (place : Place) (w : Value) (o : Option No) → IsPartRefusal place w o → (r : No) → o ≡ Some r → P r
  told_plain place w o x r e =
      all (fits_in place) (hole_in place || has_hole_by x.judged) (breaks_by x.judged || x.around) (is_none (room_in place) || is_deep_by x.judged) x.full r (sym x.is ∙ e)

-- the value can be held
pub sound_of : (h : List ℕ → List ℕ) (rows : List Row) (n : TypeNo) (v : Value) (d : Data) → Storable bare h rows n v d → Typed rows (plainly n) v × IsSound h rows 96 (plainly n, v)
sound_of h rows n v d s = let x = tree_sound h rows (plainly n) v d s.tree in ((96, s.fits, x.0), record { fits = s.fits; tree = d; represents = s.tree })

module _ (h : List ℕ → List ℕ) (place : Place) (json : List ℕ) (w : Value) (o : Option No) (schema : IsSchema (table_at place)) (typed : Typed (table_at place) (slot_in place) w) (refusal : IsPartRefusal place w o)
    (read : (is_key : ℕ → List ℕ → Bool) → TestsKeys (table_at place) is_key → new_part (table_at place) is_key read_json (Some (slot_in place)) json ≡ Ok w) where
  judged_at : (m : Moment) (t : Tests) (v : Value) (how : Coming) (path : List (List ℕ)) → IsComing h place t v how path m → ChangeJudged h (table_at place) t (type_at place) v place w (bringing how path w) o
  judged_at m t v how path x =
      let s = sound_of h (table_at place) (type_at place) v x.at.tree x.at.storable in
      change_judged h t (type_at place) v place w how path x.at.was schema x.at.tests s.0 s.1 x.at.texts typed x.is o refusal

  pub refused_comes : (m : Moment) (r : No) → o ≡ Some r → ComesTo h place json m (Err r) m
  refused_comes m r e = record {
    later = Later-refl m;
    fails = told_plain (λ r. Fails m (Err r) m) tt tt tt tt tt place w o refusal r e;
    moves = λ t v how path x.
        still_moves h (table_at place) t (type_at place) v (line_by how path json) m r
        (inl (edited_part h (table_at place) t (type_at place) v path json how (slot_in place) w (x.is.slot_is how w refl) (read t.is_key x.at.tests.keys)
        ∙ subst (ChangeJudged h (table_at place) t (type_at place) v place w (bringing how path w)) e (judged_at m t v how path x)));
  }

  pub let_comes : (m k : Moment) (result : Result (List ℕ) No) → o ≡ None → PutsPart h place w json m result k → ComesTo h place json m result k
  let_comes m k result e puts = record {
    later = puts.later;
    fails = puts.fails;
    moves = λ t v how path x.
        let j = subst (ChangeJudged h (table_at place) t (type_at place) v place w (bringing how path w)) e (judged_at m t v how path x) in
        puts.moves t v how path (record { coming = x; part = read t.is_key x.at.tests.keys; value = j.0; made = j.1; free = j.2 });
  }
