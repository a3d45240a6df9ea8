use Rattle.ild_path_ends.proofs.Keying.{key_cut, key_level}
use Rattle.ild_path_ends.proofs.entry.cut_key.Goals as goal

pub returns-clause-cuts : goal.returns-clause-cuts
returns-clause-cuts g c = λ is_key was k told x root.
    let h = g.H.KeyHash.hash_of in
    c.remove_entry.ensures.cuts is_key was x.level.less x.level.v x.level.t x.u x.level.key.slot x.level.key.elem x.level.key.ps x.level.key.es k told
    (key_level h is_key was c.args.front.now k c.args.trail c.args.level x.level root) (key_cut h is_key was c.args.front.now k c.args.trail c.args.level x)
