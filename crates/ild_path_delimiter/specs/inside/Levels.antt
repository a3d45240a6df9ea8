-- What an edit makes of a holder, as a text.
use Rattle.std.specs.Prelude.{◌≡◌, ℕ, List, Option, Some, None, option_map}
use Rattle.ild_data.specs.Data.{Data, text}
use Rattle.ild_path_delimiter.specs.declared.level.Level.{Level}
use Rattle.ild_path_delimiter.specs.declared.level.Level.TheVariants as V
use Rattle.ild_path_item.specs.Texts.{LetsBe, becoming_with}
use Rattle.ild_schema.specs.Value.{Value}
use Rattle.ild_schema.specs.declared.row.Row.{Row}
use Rattle.ild_typed.specs.At.{InSlot, seen}
use Rattle.ild_typed.specs.Hamt.{alone}
use Rattle.ild_typed.specs.Represented.{represented}
use Rattle.ild_typed.specs.Strings.{text_in}

-- a value stands as no text
abbrev pub StandsFree : List Row → InSlot → Type 0
StandsFree rows q = (t : Data) → represented alone rows q.0 q.1 ≡ Some t → text_in t ≡ None

-- or as one
abbrev pub StandsAsText : List Row → InSlot → Type 0
StandsAsText rows q = (j : List ℕ) × (represented alone rows q.0 q.1 ≡ Some (text j))

-- the holder q stands as a text, and becomes what has these data, where its part becomes this text, or goes
pub record Becomes (rows : List Row) (q : InSlot) (s : List ℕ) (new : Option (List ℕ)) (d : Option Data) : Type 0 where
  pub stands : StandsAsText rows q
  pub is : (o : Option Value) → LetsBe rows (seen rows q) s o (option_map text new) → becoming_with rows q s o ≡ d

-- The holder q stood as no text; or as one, and has no data any more; or its data are a text again.
abbrev pub LevelIs : List Row → InSlot → List ℕ → Option (List ℕ) → Level → Type 0
LevelIs rows q s new V.Free = StandsFree rows q
LevelIs rows q s new V.Broken = Becomes rows q s new None
LevelIs rows q s new (V.Text t) = Becomes rows q s new (Some (text t))
