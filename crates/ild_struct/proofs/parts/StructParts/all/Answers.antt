use Rattle.ild_struct.proofs.Writing.{map_starts, tuple_starts, listpairs_starts, stringpairs_starts, stringjoin_starts}
use Rattle.ild_struct.proofs.parts.StructParts.all.Goals as goal

pub returns-in-Some : goal.returns-in-Some
returns-in-Some c = λ rows ty t os h. map_starts rows ty t os c.args.self.now c.recall.ensures.legible h c.in-Map.piece c.in-Some.entries c.in-Map.is c.in-Some.ensures

pub returns-in-Some-items : goal.returns-in-Some-items
returns-in-Some-items c = λ rows ty t os h. tuple_starts rows ty t os c.args.self.now c.recall.ensures.legible h c.in-Tuple.node c.in-Some-items.items c.in-Tuple.is c.in-Some-items.ensures

pub returns-in-ListPairs : goal.returns-in-ListPairs
returns-in-ListPairs c = λ rows ty t os h. listpairs_starts rows ty t os c.args.self.now c.recall.ensures.legible h c.in-ListPairs.items c.in-ListPairs.is

pub returns-in-StringPairs : goal.returns-in-StringPairs
returns-in-StringPairs c = λ rows ty t os h. stringpairs_starts rows ty t os c.args.self.now c.recall.ensures.legible h c.in-StringPairs.split c.in-StringPairs.is

pub returns-in-StringJoin : goal.returns-in-StringJoin
returns-in-StringJoin c = λ rows ty t os h. stringjoin_starts rows ty t os c.args.self.now c.recall.ensures.legible h c.in-StringJoin.split c.in-StringJoin.is
