use Rattle.std.proofs.Common.{◌-◌, rules, arith, length, drop}
use Rattle.std.proofs.lemmas.List.{length-take, length-drop}
use Rattle.ild_open_nodes.proofs.place.+agrees.Goals as goal

pub agrees-requires : goal.agrees-requires
agrees-requires c = λ w.
    let cut = length-take (length w.args.way.now - 1) (drop 1 w.args.way.now) in
    let rest = length-drop 1 w.args.way.now in
    (search rules, omega (arith, cut, rest, w.requires))
