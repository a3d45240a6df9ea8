-- What values of the types of a schema mean as trees that typed links join, each under a bare root (IPLD Schemas; IPLD HashMap; DAG-CBOR).
use Rattle.std.specs.Prelude.{ℕ, ◌-◌, Bool, List, [], length}
use Rattle.std.specs.Option.{option_map_or}
use Rattle.ild_data.specs.Data.{Data}
use Rattle.ild_links.specs.Trees.{Meaning}
use Rattle.ild_path_edits.specs.Stop.{stopped}
use Rattle.ild_path_inward.specs.Levels.{counts}
use Rattle.ild_run_links.specs.Links.{link_to, relinked}
use Rattle.ild_schema.specs.Slots.{plainly}
use Rattle.ild_schema.specs.Value.{Value}
use Rattle.ild_schema.specs.declared.number.TypeNo.{TypeNo}
use Rattle.ild_schema.specs.declared.row.Row.{Row}
use Rattle.ild_typed.specs.At.{InSlot, at, way}
use Rattle.ild_typed.specs.Hamt.{whole}
use Rattle.ild_typed.specs.Represented.{represented}
use Rattle.ild_typed.specs.Stands.{Storable as IsStorable, bare, blocks_of}
use Rattle.ild_typed_places.specs.Places.{children_in}
use Rattle.std.specs.Prelude.{option_and_then}

-- What values are read by: the hash of the keys of HAMTs, the types, and the type and the id of the first tree.
pub record Setting : Type 0 where
  pub hash : List ℕ → List ℕ
  pub rows : List Row
  pub ty : TypeNo
  pub id : List ℕ

-- That of trees over a store, with the reference by which they hold the store.
pub record Over : Type 0 where
  pub reading : Setting
  pub store : ℕ

-- the blocks of a value of a type, the root block first; of one without a representation there are none
abbrev pub blocks_in : (List ℕ → List ℕ) → List Row → TypeNo → Value → List (List ℕ)
blocks_in h rows ty v = option_map_or (blocks_of bare h rows ty v) (represented (whole h) rows (plainly ty) v) []

-- how many segments of a path lead on
abbrev pub reach_in : List Row → InSlot → List (List ℕ) → ℕ
reach_in rows p path = length path - length (stopped rows p path).left

-- a value that a store can hold
abbrev pub Storable : Setting → Bool → TypeNo → Value → Type 0
Storable w first ty v = (d : Data) × IsStorable bare w.hash w.rows ty v d

abbrev pub trees : Setting → Meaning Value
trees w = record {
  types = length w.rows;
  ty = w.ty;
  id = w.id;
  blocks = λ first ty v. blocks_in w.hash w.rows ty v;
  children = λ first ty v b. children_in bare w.hash w.rows ty v b;
  reach = λ ty v path. reach_in w.rows (plainly ty, v) path;
  way = λ ty v path. way w.rows (counts w.hash w.rows) (plainly ty, v) path;
  link = λ ty v path. option_and_then (link_to w.rows) (at w.rows (plainly ty, v) path);
  relinked = λ ty v path id. relinked w.rows (plainly ty, v) path id;
}
