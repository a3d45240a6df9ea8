use Rattle.std.proofs.Common.{subst}
use Rattle.ild_beneath_read.specs.inside.Left.{AreWithin, IsLeft}
use Rattle.ild_beneath_read.proofs.parts.Parts.split_first.Goals as goal

pub returns-in-Items-clause-step : goal.returns-in-Items-clause-step
returns-in-Items-clause-step c = λ ps h. c.first_item.ensures.step ps (subst (λ x. IsLeft x ps) c.in-Items.is h)

pub returns-in-Entries-clause-step : goal.returns-in-Entries-clause-step
returns-in-Entries-clause-step c = λ ps h. c.first_entry.ensures.step ps (subst (λ x. IsLeft x ps) c.in-Entries.is h)

pub returns-in-Pairs-clause-step : goal.returns-in-Pairs-clause-step
returns-in-Pairs-clause-step c = λ ps h. c.first_pair.ensures.step ps (subst (λ x. IsLeft x ps) c.in-Pairs.is h)

pub returns-in-Bucket-clause-step : goal.returns-in-Bucket-clause-step
returns-in-Bucket-clause-step c = λ ps h. c.first_held.ensures.step ps (subst (λ x. IsLeft x ps) c.in-Bucket.is h)

pub returns-in-Ordered-clause-step : goal.returns-in-Ordered-clause-step
returns-in-Ordered-clause-step c = λ ps h. c.first_ordered.ensures.step ps (subst (λ x. IsLeft x ps) c.in-Ordered.is h)

pub returns-in-Found-clause-step : goal.returns-in-Found-clause-step
returns-in-Found-clause-step c = λ ps h. c.first_found.ensures.step ps (subst (λ x. IsLeft x ps) c.in-Found.is h)

pub returns-in-Items-clause-within : goal.returns-in-Items-clause-within
returns-in-Items-clause-within c = λ rows h. c.first_item.ensures.within rows (subst (AreWithin rows) c.in-Items.is h)

pub returns-in-Entries-clause-within : goal.returns-in-Entries-clause-within
returns-in-Entries-clause-within c = λ rows h. c.first_entry.ensures.within rows (subst (AreWithin rows) c.in-Entries.is h)

pub returns-in-Pairs-clause-within : goal.returns-in-Pairs-clause-within
returns-in-Pairs-clause-within c = λ rows h. c.first_pair.ensures.within rows (subst (AreWithin rows) c.in-Pairs.is h)

pub returns-in-Bucket-clause-within : goal.returns-in-Bucket-clause-within
returns-in-Bucket-clause-within c = λ rows h. c.first_held.ensures.within rows (subst (AreWithin rows) c.in-Bucket.is h)

pub returns-in-Ordered-clause-within : goal.returns-in-Ordered-clause-within
returns-in-Ordered-clause-within c = λ rows h. c.first_ordered.ensures.within rows (subst (AreWithin rows) c.in-Ordered.is h)

pub returns-in-Found-clause-within : goal.returns-in-Found-clause-within
returns-in-Found-clause-within c = λ rows h. c.first_found.ensures.within rows (subst (AreWithin rows) c.in-Found.is h)
