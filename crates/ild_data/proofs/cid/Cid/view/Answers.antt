use Rattle.std.proofs.Common.{◌≡◌, true, subst, sym, List, ℕ}
use Rattle.ild_data.specs.CidRead.{is_cid}
use Rattle.ild_data.proofs.Cids.{IsCid-is_cid}
use Rattle.ild_data.proofs.cid.Cid.view.Goals as goal

pub known-requires : goal.known-requires
known-requires c = subst (λ (s : List ℕ). is_cid s ≡ true) (sym c.as_slice.ensures.same) (IsCid-is_cid c.args.self.now c.as_slice.ensures.form)
