-- A task that is done.
use Rattle.std.specs.Prelude.{◌≡◌}
use Rattle.ild_edges.specs.Sink.{Output}
use Rattle.ild_edges.specs.Store.{Moment}
use Rattle.ild_schema.specs.Names.{declared_names}
use Rattle.ild_run.specs.Listed.{ListedAs}
use Rattle.ild_run.specs.Shown.{ShownAs}
use Rattle.ild_run.specs.inside.Answered.{AnsweredAs}
use Rattle.ild_run.specs.inside.Headed.{HeadedAs}
use Rattle.ild_run.specs.inside.Made.{MadeAs}
use Rattle.ild_run.specs.inside.Matched.{MatchedAs}
use Rattle.ild_run.specs.inside.Sought.{SoughtAs}
use Rattle.ild_run.specs.inside.Moved.{MovedAs}
use Rattle.ild_run.specs.inside.Weighed.{WeighedAs}
use Rattle.ild_run.specs.declared.open.Task.{Task}
use Rattle.ild_run.specs.declared.open.Task.TheVariants as P
use Rattle.ild_run.specs.declared.status.Status.{Status}

-- how it ended, from one moment of the store and the sink to another
abbrev pub CarriedAs : Task → Moment → Output → Status → Moment → Output → Type 0
CarriedAs (P.List rows) m was status k now = ListedAs (declared_names rows) was status now × (k ≡ m)
CarriedAs (P.Compare rows n others later) m was status k now = MatchedAs rows others n later was status now × (k ≡ m)
CarriedAs (P.Answer rows n start b) m was status k now = AnsweredAs rows n start b m was status k now
CarriedAs (P.Create rows n b) m was status k now = MadeAs rows n b m was status k now
CarriedAs (P.Show rows n id) m was status k now = ShownAs rows n id.0 m was status k now
CarriedAs (P.Verify rows n id path b) m was status k now = WeighedAs rows n id.0 path.now b was status now × (k ≡ m)
CarriedAs (P.Serve rows n b) m was status k now = HeadedAs rows n b m was status k now
CarriedAs (P.Prove rows n id path) m was status k now = SoughtAs rows n id.0 path.now m was status k now
CarriedAs (P.Migrate rows n id name source) m was status k now = MovedAs rows n id.0 name.now source m was status k now
