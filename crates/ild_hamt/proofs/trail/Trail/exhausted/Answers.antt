use Rattle.ild_hamt.proofs.Fulling.{full-is}
use Rattle.ild_hamt.proofs.trail.Trail.exhausted.Goals as goal

pub returns-clause-trie : goal.returns-clause-trie
returns-clause-trie c = λ h p k slots es v trail. full-is h p k slots es v c.args.self.now trail

pub returns-clause-at_end : goal.returns-clause-at_end
returns-clause-at_end c = λ h p k bs last trail. trail.full
