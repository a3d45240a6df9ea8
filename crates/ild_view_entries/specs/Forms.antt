-- What a map's form says of its entries.
use Rattle.std.specs.Prelude.{◌≡◌, ◌<◌, ℕ, List, [], Option, Some, None, length}
use Rattle.ild_data.specs.Data.{Data}
use Rattle.ild_schema.specs.declared.def.MapForm.{MapForm}
use Rattle.ild_schema.specs.declared.def.MapForm.TheVariants as MF
use Rattle.ild_typed.specs.Strings.{listpairs, members_in, stringpairs}

-- the delimiters of pairs are given
abbrev pub MapDelims : MapForm → Type 0
MapDelims (MF.StringPairs inner entry) = (0 < length inner) × (0 < length entry)
MapDelims form = Unit {0}

-- the entries that data show, in each form of a map: of a HAMT none are looked for
abbrev pub ShowsMap : MapForm → List (List ℕ × Data) → Data → Type 0
ShowsMap MF.Map es t = members_in t ≡ Some es
ShowsMap MF.ListPairs es t = t ≡ listpairs es
ShowsMap (MF.StringPairs inner entry) es t = stringpairs inner entry es ≡ Some t
ShowsMap (MF.Hamt p) es t = es ≡ []

-- how many there are: of a HAMT they aren't counted
abbrev pub FormCount : MapForm → List (List ℕ × Data) → Option ℕ → Type 0
FormCount (MF.Hamt p) es r = r ≡ None
FormCount form es r = r ≡ Some (length es)
