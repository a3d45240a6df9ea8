use Rattle.std.proofs.Common.{◌≡◌, ◌*◌, map, take, drop}
use Rattle.std.specs.List.{range_with_len}
use Rattle.ild_data.specs.Trie.{byte_of}
use Rattle.ild_node.proofs.write.map_of.Given as goal

abbrev pub invariant-loop-j : goal.invariant-loop-j
invariant-loop-j l = l.map.items ≡ map (λ k. byte_of (take 8 (drop (8 * k) l.used))) (range_with_len 0 l.j)
