-- The pieces of a place in a value that is held, and what an edit there makes.
use Rattle.std.specs.Prelude.{◌≡◌, ◌++◌, ℕ, Bool, true, false, List, Some, Result, Ok, Err}
use Rattle.ild_data.specs.Bytes.{AreBytes}
use Rattle.ild_data.specs.Data.{Data}
use Rattle.ild_data.specs.Limits.{deepest}
use Rattle.ild_edges.specs.Store.{Moment}
use Rattle.ild_node_slots.specs.declared.fault.HamtFault.{HamtFault}
use Rattle.ild_node_slots.specs.declared.fault.HamtFault.TheVariants as H
use Rattle.ild_path_block.specs.declared.edit.PartEdit.{PartEdit}
use Rattle.ild_path_block.specs.declared.edit.PartEdit.TheVariants as E
use Rattle.ild_path_ends.specs.Ends.{EditsWhole, IsLevel}
use Rattle.ild_path_ends.specs.Parts.{IsChange}
use Rattle.ild_path_hops.specs.Hops.{AreHops}
use Rattle.ild_path_hops.specs.HopLaws.{path_of_hops}
use Rattle.ild_path_hops.specs.declared.hop.Hop.{Hop}
use Rattle.ild_path_place.specs.Places.{EndsAt}
use Rattle.ild_path_place.specs.declared.parts.Parts.{Parts}
use Rattle.ild_path_place.specs.declared.place.End.{End}
use Rattle.ild_path_place.specs.declared.place.End.TheVariants as D
use Rattle.ild_path.specs.declared.fault.EditFault.{EditFault}
use Rattle.ild_path.specs.declared.fault.EditFault.TheVariants as F
use Rattle.ild_schema.specs.Value.{Value}
use Rattle.ild_typed.specs.At.{InSlot}
use Rattle.ild_view.specs.View.{slot_of, table_of}
use Rattle.ild_view.specs.declared.view.View.{View}

-- the whole of a value can be set alone
abbrev pub takes : End → PartEdit → Bool
takes D.Whole (E.Set part) = true
takes D.Whole (E.Insert part) = false
takes D.Whole E.Delete = false
takes (D.InBlock path) edit = true
takes (D.AtKey front trail entry) edit = true

-- over a store that tells its blocks and holds the value of the root: the hops lead from it to q, in which the path ends so
pub record ArePieces (h : List ℕ → List ℕ) (is_key : ℕ → List ℕ → Bool) (was : List (List ℕ)) (root : View) (hops : List Hop) (end : End) (v : Value) (path : List (List ℕ)) : Type 0 where
  pub tree : Data
  pub level : IsLevel h is_key was deepest v tree root
  pub q : InSlot
  pub less : ℕ
  pub leads : AreHops h (table_of root) was deepest (slot_of root, v) hops q less
  pub rest : List (List ℕ)
  pub split : path ≡ path_of_hops hops ++ rest
  pub ends : EndsAt h (table_of root) was less q rest end

abbrev pub EditsParts : (List ℕ → List ℕ) → Parts → PartEdit → Moment → Result (List ℕ) HamtFault → Moment → Type 0
EditsParts h parts edit m result k =
    (is_key : ℕ → List ℕ → Bool) (was : List (List ℕ)) (v w c : Value) (u : Data) (path : List (List ℕ)) → m.blocks ≡ Some was → ArePieces h is_key was parts.root parts.hops.items parts.end v path
    → IsChange h (table_of parts.root) is_key was deepest (slot_of parts.root, v) path edit w c u → EditsWhole h (table_of parts.root) (slot_of parts.root) c u path m result k

-- ---- the answer of a HAMT's edit as one of a place's

-- a block is told that isn't held, or isn't the node that has to stand there
abbrev pub names_block : Result (List ℕ) HamtFault → Bool
names_block (Err (H.Block id why)) = true
names_block r = false

abbrev pub AnswersAs : Result (List ℕ) HamtFault → Result (List ℕ) EditFault → Type 0
AnswersAs (Ok b) r = r ≡ Ok b
AnswersAs (Err H.Exhausted) r = r ≡ Err F.Exhausted
AnswersAs (Err H.NoKey) r = r ≡ Err F.NoKey
AnswersAs (Err H.Size) r = r ≡ Err F.Size
AnswersAs (Err H.Store) r = r ≡ Err F.Store
AnswersAs (Err (H.Clash id kept new)) r = (r ≡ Err (F.Clash id kept new)) × AreBytes kept × AreBytes new
AnswersAs (Err (H.Block id why)) r = ⊥
AnswersAs (Err H.Memory) r = r ≡ Err F.Memory
