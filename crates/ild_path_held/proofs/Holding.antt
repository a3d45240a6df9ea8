-- Parts of what is held, and what edits in one block make.
use Rattle.std.proofs.Common.{◌≡◌, ℕ, List, [], ◌∷◌, Bool, Option, Some, refl, ap, sym, subst}
use Rattle.std.specs.Option.{option_map_or}
use Rattle.std.proofs.lemmas.Option.{same_Some}
use Rattle.ild_data.specs.Data.{Data}
use Rattle.ild_edges.specs.Store.{Keeps, block_at}
use Rattle.ild_schema.proofs.Legibly.{legible}
use Rattle.ild_schema.specs.declared.number.Slot.{Slot}
use Rattle.ild_schema.specs.declared.row.Row.{Row}
use Rattle.ild_schema.specs.Value.{Value}
use Rattle.ild_typed.specs.At.{InSlot, seen, at}
use Rattle.ild_typed.specs.Hamt.{whole}
use Rattle.ild_typed.specs.OfType.{OfType, TestsKeys}
use Rattle.ild_typed.specs.Schema.{IsSchema}
use Rattle.ild_typed.specs.Segment.{part}
use Rattle.ild_typed.proofs.Rooms.{all_more}
use Rattle.ild_value_meaning.proofs.Told.{told}
use Rattle.ild_path_edits.specs.Along.{room_below}
use Rattle.ild_path_edits.proofs.Depth.{room_is_layered}
use Rattle.ild_path_edits.proofs.KeepTyped.{of_type_is_kept}
use Rattle.ild_path_changes.specs.LiftLaws.{of_values}
use Rattle.ild_path_changes.proofs.HaveTrees.{has_trees}
use Rattle.ild_path_changes.proofs.Represented.{represents}
use Rattle.ild_open_held.specs.Held.{IsHeld, IsHeldBlock}
use Rattle.ild_path_within.proofs.Splitting.{first_of_path}
use Rattle.ild_path_nodes.proofs.Changing.{part_step, whole_with, edit_has}
use Rattle.ild_path_held.specs.HeldEdits.{HeldParts, HeldStays, HeldWholes, HeldEdits, room_at}

module _ (block : List ℕ → Option (List ℕ)) (h : List ℕ → List ℕ) (rows : List Row) (is_key : ℕ → List ℕ → Bool) (schema : IsSchema rows) (keys : TestsKeys rows is_key) where
  abbrev Held : ℕ → Slot → Data → Value → Type 0
  Held room s t v = IsHeld block h rows room s t v

  step : (room : ℕ) (p q : InSlot) (t : Data) (s : List ℕ) → Held room p.0 t p.1 → part (seen rows p) s ≡ Some q → (d : Data) × Held (room_below rows room p s) q.0 d q.1
  step room p q t s has e =
      let kept = of_type_is_kept rows is_key schema keys in
      let is : OfType rows p.0 p.1 = (room, has.fits) in
      let r = represents rows is_key (told rows schema).apart (told rows schema).any_there keys (legible rows schema.accepted).clear (whole h) (has_trees (whole h) rows (of_values h refl) schema.table.texts.spelled) kept in
      let d = r.parts p q s t is e has.tree in (
        d.0,
        record {
          fits = (room_is_layered rows is_key schema keys).parts room p q s is has.fits e;
          tree = d.1;
          held = part_step (IsHeldBlock block) h rows is_key schema keys p q s is has.held e;
        },
      )

  parts : (path : List (List ℕ)) (room : ℕ) (p q : InSlot) (t : Data) → Held room p.0 t p.1 → at rows p path ≡ Some q → (d : Data) × Held (room_at rows room p path) q.0 d q.1
  parts [] room p q t has e = subst (λ (r : InSlot). (d : Data) × Held room r.0 d r.1) (same_Some p q e) (t, has)
  parts (s ∷ ss) room p q t has e =
      let x = first_of_path rows p q s ss e in
      let y = step room p x.item t s has x.there in
      subst (λ n. (d : Data) × Held n q.0 d q.1) (sym (ap (λ o. option_map_or (λ r. room_at rows (room_below rows room p s) r ss) o (room_below rows room p s)) x.there))
      (parts ss (room_below rows room p s) x.item q y.0 y.1 x.made)

pub held_parts : HeldParts
held_parts = λ block h rows is_key schema keys room p q t path has e. parts block h rows is_key schema keys path room p q t has e

pub block_stays : (was now : List (List ℕ)) (b : List ℕ) → Keeps was now → IsHeldBlock (block_at was) b → IsHeldBlock (block_at now) b
block_stays was now b keeps x = record { short = x.short; there = keeps _ b x.there }

pub held_stays : HeldStays
held_stays = λ h rows was now room s t v keeps has. record {
  fits = has.fits;
  tree = has.tree;
  held = all_more (IsHeldBlock (block_at was)) (IsHeldBlock (block_at now)) (λ b x. block_stays was now b keeps x) _ has.held;
}

pub held_wholes : HeldWholes
held_wholes = λ block h rows is_key schema keys room less p q t d u path m has one there new fits tree. record {
  fits = fits;
  tree = tree;
  held = whole_with (IsHeldBlock block) h rows is_key schema keys path p q m (room, has.fits) one there (less, new.fits) has.held new.held;
}

pub held_edits : HeldEdits
held_edits = λ block h rows is_key schema keys room p t u e c texts new nodes has one made fits tree. record {
  fits = fits;
  tree = tree;
  held = edit_has (IsHeldBlock block) h rows is_key schema keys p e c texts new (room, has.fits) one has.held nodes made;
}
