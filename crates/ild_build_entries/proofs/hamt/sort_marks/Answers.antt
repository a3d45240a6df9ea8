use Rattle.std.proofs.Common.{rules}
use Rattle.std.specs.Ordering.{is_lt}
use Rattle.std.proofs.lemmas.List.Sorted.{ranks_by, answers_always}
use Rattle.ild_data.specs.ByteOrder.{bytewise}
use Rattle.ild_hamt_trie.proofs.Parts.{total}
use Rattle.ild_bulk.specs.declared.entries.KeyedMark.{KeyedMark}
use Rattle.ild_build_entries.proofs.hamt.sort_marks.Goals as goal

pub returns-clause-order : goal.returns-clause-order
returns-clause-order c = c.sort_unstable_by.ensures.sorted (λ (a b : KeyedMark). is_lt (bytewise a.key.now b.key.now)) (ranks_by total (λ (k : KeyedMark). k.key.now)) (answers_always _ _ _ (λ f a r g h. search rules))
