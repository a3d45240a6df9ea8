-- The faults of calls on trees, as refusals of a line.
use Rattle.ild_links.specs.declared.error.LinkErr.{LinkErr}
use Rattle.ild_links.specs.declared.error.LinkErr.TheVariants as L
use Rattle.ild_links.specs.declared.error.TreeErr.{TreeErr}
use Rattle.ild_links.specs.declared.error.TreeErr.TheVariants as E
use Rattle.ild_open_parts.specs.declared.fault.OpenFault.{OpenFault}
use Rattle.ild_open_parts.specs.declared.fault.OpenFault.TheVariants as O
use Rattle.ild_script.specs.declared.reply.No.{No}
use Rattle.ild_script.specs.declared.reply.No.TheVariants as N

abbrev pub tree_refusal : TreeErr → No
tree_refusal (E.Block id) = N.Block
tree_refusal E.Store = N.Store
tree_refusal (E.Clash id kept new) = N.Clash
tree_refusal E.Memory = N.Memory

abbrev pub link_refusal : LinkErr → No
link_refusal L.Depth = N.Depth
link_refusal (L.Tree e) = tree_refusal e

abbrev pub open_refusal : OpenFault → No
open_refusal (O.Block id why) = N.Block
open_refusal O.Store = N.Store
open_refusal O.Memory = N.Memory
