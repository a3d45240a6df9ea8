use Rattle.ild_data.specs.Data.{map}
use Rattle.std.proofs.Common.{refl}
use Rattle.ild_splice.proofs.Mapped.{around_key}
use Rattle.ild_splice.proofs.entry.entries_around.Goals as goal

pub returns : goal.returns
returns c = λ ms stands.
    around_key ms c.part_count.result c.head_size.result _ _ _ _ _ _ c.args.key.now (c.part_count.ensures (map ms) _ stands refl) (c.head_size.ensures.size 5) (c.spelling.ensures (map ms) stands)
    c.cut.ensures.behind c.cut-2.ensures.front c.cut-3.ensures.behind (c.place_of-from.ensures ms stands)
