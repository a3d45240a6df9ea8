use Rattle.std.proofs.Common.{◌≡◌, ◌⊎◌, List, ℕ, map, subst}
use Rattle.std.specs.Prelude.{Contains}
use Rattle.std.specs.Map.{values_of}
use Rattle.ild_open_known.specs.Roots.{known_in, seen_root}
use Rattle.ild_open_known.proofs.Adding.{was_or_is}
use Rattle.ild_open_known.proofs.table.Known.put.Goals as goal

pub returns-clause-added : goal.returns-clause-added
returns-clause-added c = λ r has.
    let entries = c.in_ok-insert.ensures.entries in
    subst (λ (b : List ℕ). Contains (known_in c.args.self.now) r ⊎ (r ≡ (c.args.read_as, b))) c.in_ok-of.ensures
    (was_or_is seen_root _ c.args.self.now.roots.entries c.args.seat.digest (record { read_as = c.args.read_as; bytes = c.in_ok-of.field-0 }) r (subst (λ es. Contains (map seen_root (values_of es)) r) entries has))
