-- Names with values, by the places of their fields, and those of a text.
use Rattle.std.specs.Prelude.{ℕ, List, map}
use Rattle.ild_data.specs.Data as T
use Rattle.ild_data.specs.Data.{Data}
use Rattle.ild_schema.specs.declared.def.Field.{Field}
use Rattle.ild_typed.specs.StructWhy.{place_of}

-- names with values, by the places of their fields
abbrev pub by_place : List Field → List (List ℕ × Data) → List (ℕ × Data)
by_place fs es = map (λ (e : List ℕ × Data). (place_of fs e.0, e.1)) es

-- names with the texts that are their values
abbrev pub text_entries : List (List ℕ × List ℕ) → List (List ℕ × Data)
text_entries ps = map {B = List ℕ × Data} (λ p. (p.0, T.text p.1)) ps
