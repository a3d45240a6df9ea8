use Rattle.std.proofs.Common.{false, ap}
use Rattle.std.specs.Option.{option_map_or}
use Rattle.ild_schema.specs.declared.def.Field.{Field}
use Rattle.ild_path_rules.proofs.delete.is_optional.Goals as goal

pub returns-in-Some : goal.returns-in-Some
returns-in-Some c = λ known. ap (λ o. option_map_or (λ (f : Field). f.optional) o false) (c.in-Some.ensures known)

pub returns-in-None : goal.returns-in-None
returns-in-None c = λ known. ap (λ o. option_map_or (λ (f : Field). f.optional) o false) (c.in-None.ensures known)
