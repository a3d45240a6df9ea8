-- What was held is held behind a script on the value under a root that names its schema.
use Rattle.std.proofs.Common.{ℕ, List, Bool, Result, Ok, Err, sym, subst}
use Rattle.ild_data.specs.declared.id.BlockId.{BlockId}
use Rattle.ild_edges.proofs.Later.{Later-refl}
use Rattle.ild_edges.specs.Sink.{Output}
use Rattle.ild_edges.specs.Store.{Moment, Later}
use Rattle.ild_run_named_script.specs.NamedScripts.{NamedScripts}
use Rattle.ild_run_named_script.specs.declared.fault.NamedScriptFault.{NamedScriptFault}
use Rattle.ild_run_named_script.specs.declared.fault.NamedScriptFault.TheVariants as B
use Rattle.ild_schema.specs.declared.number.TypeNo.{TypeNo}
use Rattle.ild_schema.specs.declared.row.Row.{Row}

pub beneath_later : (rows : List Row) (n : TypeNo) (id : BlockId) (b : List ℕ) (m : Moment) (was : Output) (result : Result Bool NamedScriptFault) (k : Moment) (behind : Output)
    → NamedScripts rows n id b m was result k behind → Later m k
beneath_later rows n id b m was (Ok refused) k behind has = has.later
beneath_later rows n id b m was (Err (B.Script fault)) k behind has = has.later
beneath_later rows n id b m was (Err B.Memory) k behind has = subst (λ (x : Moment). Later m x) (sym has.0) (Later-refl m)
