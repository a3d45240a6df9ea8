use Rattle.std.proofs.Common.{◌-◌, rules, arith, length, drop}
use Rattle.std.proofs.lemmas.List.{length-take, length-drop}
use Rattle.ild_bulk_walker.proofs.walker.+agrees.Goals as goal

pub agrees-requires : goal.agrees-requires
agrees-requires c = λ w.
    let cut = length-take (length w.args.path.now - 1) (drop 1 w.args.path.now) in
    let rest = length-drop 1 w.args.path.now in
    (search rules, omega (arith, cut, rest, w.requires))
