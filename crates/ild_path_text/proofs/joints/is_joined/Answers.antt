use Rattle.ild_text.specs.Parts.{parts}
use Rattle.ild_path_text.proofs.Joining.{joined_there, joined_not, joined_empty}
use Rattle.ild_path_text.proofs.joints.is_joined.Goals as goal

pub returns-then-count-eq0 : goal.returns-then-count-eq0
returns-then-count-eq0 c = λ ps whole count. joined_empty c.args.delim.now c.args.text.now ps c.args.count whole count c.if-count-eq0.true

pub returns-in-Ok : goal.returns-in-Ok
returns-in-Ok c = λ ps whole count.
    joined_there c.joins_are_joins.ensures c.joins_are_one.ensures.by_count c.args.delim.now c.args.text.now ps (parts c.in-Ok.field-0) c.args.count c.requires whole count c.in-Ok.ensures.join.0 c.in-Ok.ensures.join.1

pub returns-in-Err : goal.returns-in-Err
returns-in-Err c = λ ps whole count.
    joined_not c.joins_are_joins.ensures c.args.delim.now c.args.text.now ps c.args.count c.requires whole count c.if-count-eq0.false (λ qs is n. c.in-Err.ensures.complete qs is n)
