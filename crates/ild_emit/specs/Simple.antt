-- The data without content: null, and the two truth values.
use Rattle.std.specs.Prelude.{Bool, Option, Some, None}
use Rattle.ild_data.specs.Data.{Data, null, boolean}

abbrev pub simple_data : Option Bool → Data
simple_data None = null
simple_data (Some b) = boolean b
