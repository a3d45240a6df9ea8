use Rattle.std.proofs.Common.{refl, [], List, ℕ, subst}
use Rattle.sha2.specs.Hashers.{Holds256}
use Rattle.ild_open_known.proofs.kind.ReadAs.begun.Goals as goal

pub returns : goal.returns
returns c =
    let told = c.update-5.ensures _ (c.update-4.ensures _ (c.update-3.ensures _ (c.update-2.ensures _ (c.update.ensures [] c.new-hasher.ensures)))) in
    subst (λ (m : List ℕ). Holds256 c.update-5.new.self m) (rw (c.to_be_bytes.ensures, c.to_be_bytes-2.ensures, c.to_be_bytes-3.ensures, c.to_be_bytes-4.ensures) refl) told
