-- What a reader of one form answers: where the parts are looked up, or the first cause why the data are no struct's.
use Rattle.std.specs.Prelude.{◌≡◌, ℕ, Bool, true, cond, List, Option, Some, None, Result, Ok, Err, length}
use Rattle.ild_data.specs.Data.{Data}
use Rattle.ild_cbor.specs.Nodes.{HasData}
use Rattle.ild_cbor.specs.declared.node.Node.{Node}
use Rattle.ild_cbor.specs.declared.why.Why.{Why}
use Rattle.ild_schema.specs.declared.def.Field.{Field}
use Rattle.ild_schema.specs.declared.def.StructForm.{StructForm}
use Rattle.ild_schema.specs.declared.row.Row.{Row}
use Rattle.ild_typed.specs.Fields.{is_implicit}
use Rattle.ild_layer_piece.specs.Answers.{told}
use Rattle.ild_layer_fields.specs.Causes.{struct_why}
use Rattle.ild_struct.specs.Source.{FormShows}
use Rattle.ild_struct.specs.declared.source.Source.{Source}

abbrev pub FormIsRead : List Row → StructForm → List Field → Data → Result Source Why → Type 0
FormIsRead rows form fs t (Ok source) = (struct_why form fs t ≡ None) × FormShows rows form source t
FormIsRead rows form fs t (Err why) = struct_why form fs t ≡ Some (told why)

-- the same, where it is told as well whether kinds tell that all values are those of their fields
abbrev pub AnswersFound : List Row → StructForm → List Field → Data → Result (Source × Bool) Why → Type 0
AnswersFound rows form fs t (Ok x) = FormIsRead rows form fs t (Ok x.0)
AnswersFound rows form fs t (Err why) = FormIsRead rows form fs t (Err why)

-- a node that is a list, and how many items it has
abbrev pub IsList : Option (List Data) → Data → Option (Node × ℕ) → Type 0
IsList (Some ds) t (Some x) = HasData x.0 t × (x.1 ≡ length ds)
IsList None t None = Unit {0}
IsList (Some ds) t None = ⊥
IsList None t (Some x) = ⊥

-- ---- a look-up of a field by its name

-- a field that is absent is optional, and one with an implicit value is not
pub record IsLookedUp (f : Field) (o : Option Data) : Type 0 where
  pub absent : o ≡ None → f.optional ≡ true
  pub required : f.optional ≡ true → f.implicit ≡ None

-- what is found of a field with these data, or without
abbrev pub shown : Field → Option Data → Option Data
shown f None = None
shown f (Some d) = cond (is_implicit f.implicit d) None (Some d)
