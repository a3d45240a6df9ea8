-- The faults of the engine's calls, as those of one tree.
use Rattle.std.specs.Prelude.{ℕ}
use Rattle.ild_node_slots.specs.declared.fault.HamtFault.{HamtFault}
use Rattle.ild_node_slots.specs.declared.fault.HamtFault.TheVariants as H
use Rattle.ild_open_parts.specs.declared.fault.OpenFault.{OpenFault}
use Rattle.ild_open_parts.specs.declared.fault.OpenFault.TheVariants as O
use Rattle.ild_path.specs.declared.fault.EditFault.{EditFault}
use Rattle.ild_path.specs.declared.fault.EditFault.TheVariants as P
use Rattle.ild_path_place.specs.declared.fault.PathFault.{PathFault}
use Rattle.ild_path_place.specs.declared.fault.PathFault.TheVariants as L
use Rattle.ild_run_links.specs.declared.fault.TreeFault.{TreeFault}
use Rattle.ild_run_links.specs.declared.fault.TreeFault.TheVariants as F
use Rattle.ild_links.specs.declared.error.TreeErr.{TreeErr}
use Rattle.ild_links.specs.declared.error.TreeErr.TheVariants as E
use Rattle.ild_data.specs.Bytes.{AreBytes}
use Rattle.ild_data.specs.declared.id.BlockId.{BlockId}
use Rattle.ild_edges.specs.Count.{bumped}

abbrev pub hamt_fault : HamtFault → TreeFault
hamt_fault (H.Block id why) = F.Block
hamt_fault H.Store = F.Store
hamt_fault e = F.Memory

abbrev pub open_fault : OpenFault → TreeFault
open_fault (O.Block id why) = F.Block
open_fault O.Store = F.Store
open_fault O.Memory = F.Memory

abbrev pub path_fault : PathFault → TreeFault
path_fault (L.Path k) = F.Block
path_fault L.Mismatch = F.Block
path_fault (L.Block id why) = F.Block
path_fault L.Store = F.Store
path_fault L.Memory = F.Memory

abbrev pub edit_fault : EditFault → TreeFault
edit_fault P.Exhausted = F.Block
edit_fault P.NoKey = F.Block
edit_fault P.Size = F.Block
edit_fault P.Store = F.Store
edit_fault (P.Clash id kept new) = F.Clash id kept new
edit_fault P.Memory = F.Memory

-- the fault of the tree with this id, and the count of those that were found lacking
abbrev pub tree_err : BlockId → TreeFault → TreeErr
tree_err id F.Block = E.Block id
tree_err id F.Store = E.Store
tree_err id (F.Clash at kept new) = E.Clash at kept new
tree_err id F.Memory = E.Memory

abbrev pub lacks_after : ℕ → TreeFault → ℕ
lacks_after n F.Block = bumped n
lacks_after n F.Store = n
lacks_after n (F.Clash at kept new) = n
lacks_after n F.Memory = n

-- what collides is bytes
abbrev pub AreClashBytes : TreeFault → Type 0
AreClashBytes (F.Clash at kept new) = AreBytes kept × AreBytes new
AreClashBytes e = Unit {0}
