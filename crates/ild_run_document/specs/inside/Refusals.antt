-- Why a batch is not committed, as the line is refused.
use Rattle.ild_dirty.specs.declared.fault.FlushFault.{FlushFault}
use Rattle.ild_dirty.specs.declared.fault.FlushFault.TheVariants as F
use Rattle.ild_script.specs.declared.reply.No.{No}
use Rattle.ild_script.specs.declared.reply.No.TheVariants as N

abbrev pub refusal_of : FlushFault → No
refusal_of F.Store = N.Store
refusal_of (F.Clash id kept new) = N.Clash
refusal_of F.Memory = N.Memory
