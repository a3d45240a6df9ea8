-- Why nothing may be done at a segment, as the replies to a script name it; and why a part can't be deleted.
use Rattle.std.specs.Prelude.{Bool, cond, Option, Some, None}
use Rattle.ild_path_rules.specs.declared.delete.Refusal.{Refusal}
use Rattle.ild_path_rules.specs.declared.delete.Refusal.TheVariants as R
use Rattle.ild_script.specs.declared.reply.No.{No}
use Rattle.ild_script.specs.declared.reply.No.TheVariants as N

abbrev pub refusal_of : Refusal → No
refusal_of R.Path = N.Path
refusal_of R.Mismatch = N.Mismatch

-- by whether the part is there, and whether its holder can be without it
abbrev pub refusal : Bool → Bool → Option No
refusal there free = cond there (cond free None (Some N.Mismatch)) (Some N.Path)
