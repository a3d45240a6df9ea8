use Rattle.ild_path_edits.proofs.RoomTests.{schemas_have_tests}
use Rattle.ild_path_edits.proofs.laws.schemas_have_tests.Goals as goal

pub returns : goal.returns
returns c = schemas_have_tests
