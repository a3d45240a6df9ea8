use Rattle.std.proofs.Common.{rules}
use Rattle.std.proofs.lemmas.Cmp.{nat_list_cmp_total}
use Rattle.std.proofs.lemmas.List.Sorted.{ranks_by, answers_always}
use Rattle.std.proofs.lemmas.Result.{on_ok_weaker}
use Rattle.std.specs.Ordering.{is_lt}
use Rattle.ild_data.specs.ByteOrder.{bytewise}
use Rattle.ild_json.proofs.Shows.{Held}
use Rattle.ild_json.proofs.show.sort_bytewise.Goals as goal

pub returns-clause-order : goal.returns-clause-order
returns-clause-order c =
    on_ok_weaker c.sort_by.result (λ by. by (λ (a b : Held). is_lt (bytewise a.now.0 b.now.0)) (ranks_by nat_list_cmp_total (λ (p : Held). p.now.0)) (answers_always _ _ _ (λ f a r g called. search rules))) c.sort_by.ensures.sorted
