use Rattle.std.proofs.Common.{arith, rules}
use Rattle.ild_run.proofs.Wordings.{none_few, none_two, none_three, none_many}
use Rattle.ild_run.proofs.open.job_of.Goals as goal
use Rattle.ild_run.proofs.open.job_of.Goals.{in_default-via-then-words-lt2, in_default-via-in-len2+else-eq, in_default-via-else-words-lt2+else-words-lt3+then-words-lt4, in_default-via-else-words-lt2+else-words-lt3+else-words-lt4+else-words-lt5+else-words-lt6+else-words-lt7}

pub returns-in_default : goal.returns-in_default
returns-in_default c = elim c.in_default.branch [ in_default-via-then-words-lt2 w ↦ search (rules, none_few) | in_default-via-in-len2+else-eq w ↦ none_two c.args.words.now w.verb-item.result w.as_str.result.now (omega (arith, w.in-len2.len_at_least, w.in-len2.len_below)) w.verb-item.is w.as_str.ensures.value w.if-eq.ensures | in_default-via-else-words-lt2+else-words-lt3+then-words-lt4 w ↦ search (rules, none_three) | in_default-via-else-words-lt2+else-words-lt3+else-words-lt4+else-words-lt5+else-words-lt6+else-words-lt7 w ↦ search (rules, none_many) ]
