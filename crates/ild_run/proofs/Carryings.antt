-- How a call ends whose task is done.
use Rattle.std.proofs.Common.{◌≡◌, Some}
use Rattle.ild_schema.specs.Names.{declared_names}
use Rattle.ild_run.specs.Ended.{Call, Ended}
use Rattle.ild_run.specs.Opening.{work_seen}
use Rattle.ild_run.specs.Words.{Job}
use Rattle.ild_run.specs.Work.{Taking, job_work, IsTaking}
use Rattle.ild_run.specs.inside.Carried.{CarriedAs}
use Rattle.ild_run.specs.declared.open.Task.{Task}
use Rattle.ild_run.specs.declared.open.Task.TheVariants as P
use Rattle.ild_run.specs.declared.status.Status.{Status}
use Rattle.ild_run.proofs.Endings.{ended_listed, ended_made, ended_shown, ended_answered}
use Rattle.ild_run.proofs.Headings.{ended_headed}
use Rattle.ild_run.proofs.Matchings.{ended_matched}
use Rattle.ild_run.proofs.Namings.{ended_moved}
use Rattle.ild_run.proofs.Seekings.{ended_sought}
use Rattle.ild_run.proofs.Weighings.{ended_weighed}

pub ended_task : (c : Call) (job : Job) (t : Taking) (task : Task) (status : Status) → c.job ≡ Some job → IsTaking job c.before.supply t → job_work job t ≡ work_seen task
    → CarriedAs task c.before.moment c.before.output status c.after.moment c.after.output → Ended c status
ended_task c job t (P.List rows) status named a work done = ended_listed c job t (declared_names rows) status named a work done.1 done.0
ended_task c job t (P.Compare rows n others later) status named a work done = ended_matched c job t rows others n later status named a work done.1 done.0
ended_task c job t (P.Answer rows n start b) status named a work done = ended_answered c job t rows n start b status named a work done
ended_task c job t (P.Create rows n b) status named a work done = ended_made c job t rows n b status named a work done
ended_task c job t (P.Show rows n id) status named a work done = ended_shown c job t rows n id.0 status named a work done
ended_task c job t (P.Verify rows n id path b) status named a work done = ended_weighed c job t rows n id.0 path.now b status named a work done.1 done.0
ended_task c job t (P.Serve rows n b) status named a work done = ended_headed c job t rows n b status named a work done
ended_task c job t (P.Prove rows n id path) status named a work done = ended_sought c job t rows n id.0 path.now status named a work done
ended_task c job t (P.Migrate rows n id name source) status named a work done = ended_moved c job t rows n id.0 name.now source status named a work done
