use Rattle.std.proofs.Common.{nat_le, ◌&&◌, ◌∙◌}
use Rattle.ild_data.specs.Trie.{bucket_entries}
use Rattle.ild_hamt.proofs.Hashed.{full-others}
use Rattle.ild_hamt.proofs.ending.is_full.Goals as goal

pub returns : goal.returns
returns c = λ h s shows are.
    (λ i. c.is_missing.ensures s shows i && nat_le c.args.shape.bucket (c.count-many.ensures i))
    ∙ full-others h c.args.shape c.args.key.now c.args.hash.now c.args.depth (bucket_entries s) c.args.others.now are
