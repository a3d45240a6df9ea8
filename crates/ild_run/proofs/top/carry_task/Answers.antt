use Rattle.std.proofs.Common.{refl}
use Rattle.ild_run.proofs.top.carry_task.Goals as goal

pub returns-in-List-clause-carried : goal.returns-in-List-clause-carried
returns-in-List-clause-carried g c =
    let listed = rw c.names.ensures at c.list.ensures in
    rw c.in-List.is (listed, refl)

pub returns-in-Compare-clause-carried : goal.returns-in-Compare-clause-carried
returns-in-Compare-clause-carried g c = rw c.in-Compare.is (c.match_types.ensures, refl)

pub returns-in-Answer-clause-carried : goal.returns-in-Answer-clause-carried
returns-in-Answer-clause-carried g c =
    let answered = rw c.as_slice.ensures.same at c.answer.ensures in
    rw c.in-Answer.is answered

pub returns-in-Create-clause-carried : goal.returns-in-Create-clause-carried
returns-in-Create-clause-carried g c =
    let made = rw c.as_slice-in-Create.ensures.same at c.make.ensures in
    rw c.in-Create.is made

pub returns-in-Verify-clause-carried : goal.returns-in-Verify-clause-carried
returns-in-Verify-clause-carried g c =
    let weighed = rw c.as_slice-in-Verify.ensures.same at c.weigh.ensures in
    rw c.in-Verify.is (weighed, refl)

pub returns-in-Serve-clause-carried : goal.returns-in-Serve-clause-carried
returns-in-Serve-clause-carried g c =
    let headed = rw c.as_slice-in-Serve.ensures.same at c.serve.ensures in
    rw c.in-Serve.is headed

pub returns-in-Migrate-clause-carried : goal.returns-in-Migrate-clause-carried
returns-in-Migrate-clause-carried g c =
    let moved = rw c.as_str.ensures.same at c.move_root.ensures in
    rw c.in-Migrate.is moved

pub returns-in-Show-clause-carried : goal.returns-in-Show-clause-carried
returns-in-Show-clause-carried g c = rw c.in-Show.is c.present.ensures

pub returns-in-Prove-clause-carried : goal.returns-in-Prove-clause-carried
returns-in-Prove-clause-carried g c = rw c.in-Prove.is c.seek.ensures
