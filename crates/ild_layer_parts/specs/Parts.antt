-- The parts of a piece that are left, as spots of the walk, and the first of them.
use Rattle.std.specs.Prelude.{◌≡◌, ℕ, List, [], ◌++◌, Option, Some, None}
use Rattle.ild_schema.specs.declared.row.Row.{Row}
use Rattle.ild_typed.specs.Spots.{Spot}
use Rattle.ild_layer_parts.specs.declared.fields.Fields.{Fields}
use Rattle.ild_layer_parts.specs.declared.part.Part.{Part}
use Rattle.ild_layer_parts.specs.declared.parts.Parts.{Parts}
use Rattle.ild_layer_parts.specs.declared.parts.Parts.TheVariants as P
use Rattle.ild_layer_parts.specs.Elements.{HasElements, elements_left}
use Rattle.ild_layer_parts.specs.Entries.{HasEntries, entries_left}
use Rattle.ild_layer_parts.specs.Fields.{HasFields, IsFieldThere, fields_left}
use Rattle.ild_layer_parts.specs.Texts.{HasTexts, texts_left}
use Rattle.ild_layer_parts.specs.PairEntries.{HasPairs, pairs_left}
use Rattle.ild_layer_parts.specs.Root.{HasRoot, root_left}
use Rattle.ild_layer_parts.specs.Part.{IsFirst, TakesSpot}
use Rattle.ild_layer_parts.specs.Ways.{LeadsFirst, LeadsTo}

abbrev pub parts_left : Parts → ℕ
parts_left P.Nothing = 0
parts_left (P.List s) = elements_left s
parts_left (P.Map s) = entries_left s
parts_left (P.Root s) = root_left s
parts_left (P.Struct s) = fields_left s
parts_left (P.Member x) = 1
parts_left (P.Texts s) = texts_left s
parts_left (P.Pairs s) = pairs_left s

abbrev pub HasLeft : List Row → Parts → List Spot → Type 0
HasLeft rows P.Nothing ps = ps ≡ []
HasLeft rows (P.List s) ps = HasElements s ps
HasLeft rows (P.Map s) ps = HasEntries s ps
HasLeft rows (P.Root s) ps = HasRoot s ps
HasLeft rows (P.Struct s) ps = HasFields rows s ps
HasLeft rows (P.Member x) ps = TakesSpot rows ps [] x × LeadsFirst x ps
HasLeft rows (P.Texts s) ps = HasTexts s ps
HasLeft rows (P.Pairs s) ps = HasPairs s ps

pub record SplitsOff (rows : List Row) (ps : List Spot) (o : Option Part) (rest : Parts) : Type 0 where
  pub taken : List Spot
  pub others : List Spot
  pub is : ps ≡ taken ++ others
  pub first : IsFirst rows o taken
  pub left : HasLeft rows rest others

abbrev pub Splits : List Row → List Spot → Option (Option Part × Parts) → Type 0
Splits rows ps None = ps ≡ []
Splits rows ps (Some r) = SplitsOff rows ps r.0 r.1

-- its way is that of the first spot; fields tell theirs once they are asked
abbrev pub FieldLeads : List Row → Fields → Option Part → List Spot → Type 0
FieldLeads rows s None ps = Unit {0}
FieldLeads rows s (Some x) ps = IsFieldThere rows s ps

abbrev pub LeadsOn : List Row → Parts → Option Part → List Spot → Type 0
LeadsOn rows (P.Struct s) o ps = FieldLeads rows s o ps
LeadsOn rows parts o ps = LeadsTo o ps
