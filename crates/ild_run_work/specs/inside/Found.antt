-- Why the block under a root is not found, as a line is refused.
use Rattle.ild_open_parts.specs.declared.fault.OpenFault.{OpenFault}
use Rattle.ild_open_parts.specs.declared.fault.OpenFault.TheVariants as F
use Rattle.ild_script.specs.declared.reply.No.{No}
use Rattle.ild_script.specs.declared.reply.No.TheVariants as N

abbrev pub found_refusal : OpenFault → No
found_refusal (F.Block id why) = N.Block
found_refusal F.Store = N.Store
found_refusal F.Memory = N.Memory
