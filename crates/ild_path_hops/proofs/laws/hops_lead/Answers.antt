use Rattle.ild_path_hops.proofs.Hopping.{hops_grow, hops_end, hops_pass, hops_leave, hops_stay}
use Rattle.ild_path_hops.proofs.laws.hops_lead.Goals as goal

pub returns-clause-grow : goal.returns-clause-grow
returns-clause-grow c = hops_grow

pub returns-clause-end : goal.returns-clause-end
returns-clause-end c = hops_end

pub returns-clause-pass : goal.returns-clause-pass
returns-clause-pass c = hops_pass

pub returns-clause-leave : goal.returns-clause-leave
returns-clause-leave c = hops_leave

pub returns-clause-stay : goal.returns-clause-stay
returns-clause-stay c = hops_stay
