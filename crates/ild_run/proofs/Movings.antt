-- What comes before a value is given a root that names its schema.
use Rattle.std.specs.Borrow.{Bor}
use Rattle.std.specs.Prelude.{length, ◌<◌}
use Rattle.std.proofs.Common.{◌≡◌, ℕ, List, Some, None, Ok, Err, refl, ap}
use Rattle.ild_data.specs.declared.id.BlockId.{BlockId}
use Rattle.ild_edges.specs.Inputs.{Supply}
use Rattle.ild_schema.specs.Names.{number_named}
use Rattle.ild_schema.specs.declared.number.TypeNo.{TypeNo}
use Rattle.ild_schema.specs.declared.row.Row.{Row}
use Rattle.ild_run.specs.Opening.{OpensFrom}
use Rattle.ild_run.specs.Words.{migrates}
use Rattle.ild_run.specs.Work.{move_work}
use Rattle.ild_run.specs.declared.fault.Fault.TheVariants as F
use Rattle.ild_run.specs.declared.open.Task.TheVariants as P
use Rattle.ild_run.proofs.Openings.{opens_with}

-- the table has no type of this name
pub opens_unmoved : (k : Supply) (rows : List Row) (ty id b : List ℕ) → number_named ty rows ≡ None → OpensFrom b k rows (λ name. migrates name ty id) (Err F.Words) k
opens_unmoved k rows ty id b none m name is compiles after =
    opens_with m k (migrates name ty id) name b rows (Err F.Words) refl is compiles (λ t. ap (λ found. move_work rows found id ty b) none) tt after

pub opens_move : (k : Supply) (rows : List Row) (ty : Bor (List ℕ)) (id : BlockId) (t : TypeNo) (b : List ℕ) → number_named ty.now rows ≡ Some t.0 → t.0 < length rows
    → OpensFrom b k rows (λ name. migrates name ty.now id.0) (Ok (P.Migrate rows t id ty b)) k
opens_move k rows ty id t b named within m name is compiles after =
    opens_with m k (migrates name ty.now id.0) name b rows (Ok (P.Migrate rows t id ty b)) refl is compiles (λ x. ap (λ found. move_work rows found id.0 ty.now b) named) within after
