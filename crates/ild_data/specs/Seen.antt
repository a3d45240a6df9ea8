-- The data that a tree of the program stands for, one level at a time: what is inside is seen as data already.
use Rattle.std.specs.Prelude.{ℕ, List, map}
use Rattle.ild_data.specs.Data.{Data, null, boolean, integer, text, bytes, list, map as map_of, link, Items, Members, items_of, members_of, depth}
use Rattle.ild_data.specs.declared.tree.Tree.{Tree}
use Rattle.ild_data.specs.declared.tree.Tree.TheVariants as T
use Rattle.ild_data.specs.declared.tree.Trees.TheInside as TS
use Rattle.ild_data.specs.declared.tree.Entries.TheInside as ES

abbrev pub data_of : Tree → Data
data_of T.Null = null
data_of (T.Bool b) = boolean b
data_of (T.Int n) = integer n
data_of (T.Text s) = text s
data_of (T.Bytes s) = bytes s
data_of (T.List ds) = list ds
data_of (T.Map ms) = map_of ms
data_of (T.Link s) = link s

abbrev pub items_seen : TS.Inside → Items
items_seen a = items_of (map data_of a.items.items)

abbrev pub pair_of : List ℕ × Tree → List ℕ × Data
pair_of p = (p.0, data_of p.1)

abbrev pub members_seen : ES.Inside → Members
members_seen a = members_of (map pair_of a.pairs.items)

abbrev pub depth_of : Tree → ℕ
depth_of t = depth (data_of t)
