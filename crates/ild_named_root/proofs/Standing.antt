-- The value that stands as a document's block is held by the block's data.
use Rattle.std.proofs.Common.{◌≡◌, ℕ, List, sym, ◌∙◌, subst}
use Rattle.ild_cbor.specs.Block.{IsBlockOf}
use Rattle.ild_data.specs.Data.{Data}
use Rattle.ild_data.specs.Limits.{deepest}
use Rattle.ild_data.specs.Spell.{id_of}
use Rattle.ild_edges.specs.Store.{block_at}
use Rattle.ild_open.specs.Opened.{StandsInBlock}
use Rattle.ild_open_held.proofs.Roots.{standing_are_held}
use Rattle.ild_open_held.specs.Held.{IsHeld}
use Rattle.ild_open_held.specs.Splits.{HasFront}
use Rattle.ild_schema.specs.Slots.{plainly}
use Rattle.ild_schema.specs.Value.{Value}
use Rattle.ild_schema.specs.declared.number.TypeNo.{TypeNo}
use Rattle.ild_schema.specs.declared.row.Row.{Row}
use Rattle.ild_typed.proofs.Fronting.{values_fronts}
use Rattle.ild_typed.proofs.TreeValues.{whole_tree}
use Rattle.ild_typed.proofs.Wholes.{one_within}
use Rattle.ild_typed.specs.Schema.{IsSchema}
use Rattle.ild_named_root.specs.Names.{AreDocData, HasRoom}

module _ (rows : List Row) (schema : IsSchema rows) (h : List ℕ → List ℕ) (ty : TypeNo) (b : List ℕ) (held : List (List ℕ)) (v : Value) (st : StandsInBlock h rows ty (id_of b) held b v) where
  abbrev own : Data
  own = st.stands.tree

  -- its data are those of the block
  own_block : IsBlockOf b own
  own_block =
      let x = whole_tree h rows schema.table.texts.spelled deepest (plainly ty) v own st.stands.storable.fits st.stands.storable.tree in
      record { within = record { tree = x.tree; nested = x.nested; sized = st.stands.storable.sized.0 }; spelled = st.spelled }

  pub own_data : AreDocData rows ty b own
  own_data =
      let y = values_fronts h rows schema 96 (plainly ty) v own st.stands.storable.fits st.stands.storable.tree in
      record { block = own_block; front = (y.0, y.1.fits, y.1.tree) }

  pub held_by : (t : Data) → IsBlockOf b t → IsHeld (block_at held) h rows 96 (plainly ty) t v
  held_by t block =
      let same : own ≡ t = one_within own t own_block.within block.within.tree (sym st.spelled ∙ block.spelled) in
      subst (λ u. IsHeld (block_at held) h rows 96 (plainly ty) u v) same (standing_are_held (block_at held) h rows ty (id_of b) v st.stands).held

  pub held_beneath : (t : Data) → IsBlockOf b t → HasRoom rows ty v → IsHeld (block_at held) h rows 95 (plainly ty) t v
  held_beneath t block room = let x = held_by t block in record { fits = room; tree = x.tree; held = x.held }

  pub has_front : (t : Data) → IsBlockOf b t → HasRoom rows ty v → HasFront rows 95 (plainly ty, t)
  has_front t block room = let y = values_fronts h rows schema 95 (plainly ty) v t room (held_by t block).tree in (y.0, y.1.fits, y.1.tree)
