use Rattle.std.proofs.Common.{subst, sym}
use Rattle.ild_data.specs.Spell.{spell}
use Rattle.ild_splice.specs.Made.{MakesBytes}
use Rattle.ild_path_block.proofs.answer.Replaced.block_with.Goals as goal

pub returns : goal.returns
returns c = λ rows is_key edit w p path t u held is.
    subst (λ y. MakesBytes (spell y) c.replace_with.result) (sym held.is) ((c.replace_with.ensures held.new is).makes t held.old held.place held.item)
