-- The data that a block spells are read from it again.
use Rattle.std.proofs.Common.{◌≡◌, ℕ, List, [], ◌++◌, Some, Ok, refl, sym, ap, ◌∙◌, subst, arith, append-nil}
use Rattle.ild_cbor.specs.Block.{IsBlockOf}
use Rattle.ild_cbor.specs.Reading.{all_at, item_at}
use Rattle.ild_cbor.proofs.Again.{item_again}
use Rattle.ild_cbor.proofs.Blocks.{block_again, all_again}
use Rattle.ild_data.specs.Data.{Data}
use Rattle.ild_data.specs.Limits.{deepest}
use Rattle.ild_data.specs.Spell.{spell}
use Rattle.ild_beneath.specs.Children.{data_in, data_read, unless}

pub data_again : (b : List ℕ) (d : Data) → IsBlockOf b d → data_in b ≡ Some d
data_again b d h = ap (λ o. unless o (data_read (all_at b))) (block_again b d h) ∙ ap data_read (all_again b d h)
