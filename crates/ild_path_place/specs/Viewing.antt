-- The view of the part that stands at a place, where one does: what it shows is known without a store.
use Rattle.std.specs.Prelude.{◌≡◌, ℕ, List, Option, Some, None}
use Rattle.ild_path_entry.specs.Entry.{data_in, slot_in, table_in}
use Rattle.ild_path_entry.specs.declared.entry.Entry.{Entry}
use Rattle.ild_path_hops.specs.Links.{IsBehind}
use Rattle.ild_path_hops.specs.declared.hop.Hop.{Hop}
use Rattle.ild_path_place.specs.declared.place.End.{End}
use Rattle.ild_path_place.specs.declared.place.End.TheVariants as D
use Rattle.ild_path_place.specs.declared.verb.Verb.{Verb}
use Rattle.ild_path_place.specs.declared.verb.Verb.TheVariants as V
use Rattle.ild_schema.specs.Value.{Value}
use Rattle.ild_schema.specs.declared.row.Row.{Row}
use Rattle.ild_typed.specs.At.{InSlot, at}
use Rattle.ild_typed.specs.Fits.{Front}
use Rattle.ild_view.specs.Parts.{HandsOut}
use Rattle.ild_view.specs.View.{IsView, slot_of, table_of}
use Rattle.ild_view.specs.declared.view.View.{View}

-- the part at a path in one block: where one is to be inserted, none stands there yet
abbrev pub part_there : Verb → List Row → InSlot → List (List ℕ) → Option InSlot
part_there V.Set rows p path = at rows p path
part_there V.Ins rows p path = None
part_there V.Del rows p path = at rows p path

-- the view of an entry's value: of each front of its data
pub record IsEntryView (entry : Entry) (w : View) : Type 0 where
  pub table : table_of w ≡ table_in entry
  pub slot : slot_of w ≡ slot_in entry
  pub fronts : (f : Value) (room : ℕ) → Front (table_in entry) room (slot_in entry) f (data_in entry) → IsView w f

-- where there is an entry
abbrev pub ViewsEntry : Option Entry → Option View → Type 0
ViewsEntry None None = Unit {0}
ViewsEntry (Some entry) (Some w) = IsEntryView entry w
ViewsEntry None (Some w) = ⊥
ViewsEntry (Some entry) None = ⊥

-- of a place behind these hops: what each front of the innermost block has there, or the value of the key's entry
abbrev pub ViewsPart : View → List Hop → Verb → End → Option View → Type 0
ViewsPart root hops verb D.Whole result = IsBehind (λ rows p. HandsOut rows (Some p) result) root hops
ViewsPart root hops verb (D.InBlock path) result = IsBehind (λ rows p. HandsOut rows (part_there verb rows p path) result) root hops
ViewsPart root hops verb (D.AtKey front trail entry) result = ViewsEntry entry result
