use Rattle.std.proofs.Common.{List, ℕ, false, subst}
use Rattle.std.specs.Prelude.{Err, Ok}
use Rattle.std.proofs.Math.Logic.{∥∥₁_map}
use Rattle.ild_open_parts.specs.Reads.{Reads}
use Rattle.ild_schema.specs.Slots.{plainly}
use Rattle.ild_named_root.proofs.loading.read_in.Goals as goal

pub read-requires-clause-checked : goal.read-requires-clause-checked
read-requires-clause-checked g c = ∥∥₁_map c.requires.front (λ x. record { tree = x.tree; stands = (c.known_root.ensures x.tree x.block).stands; front = x.front })

pub returns-in-Err : goal.returns-in-Err
returns-in-Err g c = λ t block front.
    subst (λ (at : List ℕ). Reads g.H.KeyHash.hash_of at c.args.acc.now c.args.room (plainly c.args.ty, t) false (g.K.Store.moment c.args.store.now) (Err c.in-Err.fault) (g.K.Store.moment c.read.new.store))
    c.requires.named (c.in-Err.ensures t (c.known_root.ensures t block).stands front)

pub returns : goal.returns
returns g c = λ t block front. (
  c.in-Ok.field-0,
  subst (λ (at : List ℕ). Reads g.H.KeyHash.hash_of at c.args.acc.now c.args.room (plainly c.args.ty, t) false (g.K.Store.moment c.args.store.now) (Ok c.in-Ok.field-0) (g.K.Store.moment c.read.new.store))
      c.requires.named (c.in-Ok.ensures t (c.known_root.ensures t block).stands front),
)
