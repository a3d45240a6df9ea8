-- Refusals say no.
use Rattle.std.proofs.Common.{◌≡◌, true, refl}
use Rattle.ild_script.specs.Reply.{no_text}
use Rattle.ild_script.specs.declared.reply.No.{No}
use Rattle.ild_script.specs.declared.reply.No.TheVariants as N
use Rattle.ild_heads_run.specs.Says.{says_no}

pub refusals_say_no : (refusal : No) → true ≡ says_no (no_text refusal)
refusals_say_no N.Line = refl
refusals_say_no N.Path = refl
refusals_say_no N.Json = refl
refusals_say_no N.Mismatch = refl
refusals_say_no N.Delimiter = refl
refusals_say_no N.Hole = refl
refusals_say_no N.Depth = refl
refusals_say_no N.Exhausted = refl
refusals_say_no N.Size = refl
refusals_say_no N.Reserved = refl
refusals_say_no N.Block = refl
refusals_say_no N.Store = refl
refusals_say_no N.Clash = refl
refusals_say_no N.Memory = refl
refusals_say_no N.Batch = refl
