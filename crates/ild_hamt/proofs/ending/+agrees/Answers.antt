use Rattle.std.proofs.Common.{arith}
use Rattle.ild_data.specs.TrieShape.{trie_levels}
use Rattle.ild_hamt.proofs.Fulling.{agree-then, agree-else}
use Rattle.ild_hamt.proofs.ending.+agrees.Goals as goal

pub returns-then-same_index : goal.returns-then-same_index
returns-then-same_index n c =
    agree-then c.args.shape c.args.a.now c.args.b.now (trie_levels c.args.shape) c.args.depth c.same_index.result c.agrees.result (c.has_level.ensures.yes c.if-not-has_level.false) c.same_index.ensures c.if-same_index.true c.agrees.ensures

pub returns-else-same_index : goal.returns-else-same_index
returns-else-same_index n c = agree-else c.args.shape c.args.a.now c.args.b.now (trie_levels c.args.shape) c.args.depth c.same_index.result (c.has_level.ensures.yes c.if-not-has_level.false) c.same_index.ensures c.if-same_index.false
