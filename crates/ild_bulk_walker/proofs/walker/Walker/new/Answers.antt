use Rattle.std.proofs.Common.{ap, refl}
use Rattle.ild_bulk_walker.specs.Steps.{path_of}
use Rattle.ild_bulk_walker.proofs.Keeping.{new-on}
use Rattle.ild_bulk_walker.proofs.Spending.{new-left}
use Rattle.ild_bulk_walker.proofs.Nexting.{new-ahead}
use Rattle.ild_bulk_walker.proofs.walker.Walker.new.Goals as goal

pub returns-clause-ahead : goal.returns-clause-ahead
returns-clause-ahead c = λ p slots has. new-ahead p slots _ (c.in_ok-steps.ensures p slots has) (ap path_of c.new.ensures.items)

pub returns-clause-on : goal.returns-clause-on
returns-clause-on c = λ p slots has told. new-on p told slots c.args.at.0 _ (c.in_ok-steps.ensures p slots has) c.new.ensures.items refl refl

pub returns-clause-reads : goal.returns-clause-reads
returns-clause-reads c = λ p slots has held n many. new-left p held slots _ n (c.in_ok-steps.ensures p slots has) c.new.ensures.items many
