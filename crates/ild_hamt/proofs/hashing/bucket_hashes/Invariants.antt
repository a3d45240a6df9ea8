use Rattle.std.proofs.Common.{◌≡◌, ℕ, List, take}
use Rattle.ild_data.specs.ByteOrder.{without}
use Rattle.ild_data.specs.Data.{Data}
use Rattle.ild_node_slots.specs.Views.{HasEntries}
use Rattle.ild_hamt.specs.Ends.{hashes_of}
use Rattle.ild_hamt.proofs.hashing.bucket_hashes.Given as goal

abbrev pub invariant-loop-i : goal.invariant-loop-i
invariant-loop-i g l = (es : List (List ℕ × Data)) → HasEntries l.bucket es → l.hashes.items ≡ hashes_of g.H.KeyHash.hash_of (without l.key (take l.i es))
