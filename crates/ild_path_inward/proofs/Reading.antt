-- Gets alone, whatever a view stands for.
use Rattle.std.proofs.Math.Logic.{∥∥₁_map}
use Rattle.ild_edges.proofs.Reading.{only_of}
use Rattle.ild_edges.specs.Store.{Moment}
use Rattle.ild_open_parts.specs.Reads.{OnlyReads}
use Rattle.ild_schema.specs.Value.{Value}
use Rattle.ild_view.specs.View.{IsView}
use Rattle.ild_view.specs.declared.view.View.{View}

pub only_viewed : (v : View) (m n : Moment) → ((f : Value) → IsView v f → OnlyReads m n) → OnlyReads m n
only_viewed v m n all = only_of m n (∥∥₁_map v.stands (λ s. all s.value (record { room = s.room; tree = s.tree; stands = s.stands; front = s.front })))
