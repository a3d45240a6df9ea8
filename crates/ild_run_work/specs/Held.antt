-- What the roots of a type in a store go by, and how far the store has come.
use Rattle.ild_edges.specs.Store.{Moment}
use Rattle.ild_run_work.specs.Rules.{Rules, RootRules, rules_of}
use Rattle.ild_run_work.specs.declared.typed_roots.TypedRoots.{TypedRoots}

abbrev pub rules_in : {K : Type 0} → TypedRoots K → Rules
rules_in w = rules_of w.acc.now w.ty

abbrev pub root_rules : {K : Type 0} → TypedRoots K → RootRules
root_rules w = record { rules = rules_in w; store = w.store.ghost_name }

abbrev pub moment_in : {K : Type 0} → (K → Moment) → TypedRoots K → Moment
moment_in moment w = moment w.store.now
