-- What a pass over names knows of them, where each is the place of its field, and the number of fields stands for a name
-- that is no field's.
use Rattle.std.specs.Prelude.{◌≡◌, ℕ, zero, suc, ◌<◌, ◌/◌, ◌%◌, ◌^◌, Bool, false, ◌||◌, nat_eq, nat_lt, List, [], ◌∷◌, slice_index_or}
use Rattle.std.specs.List.{list_any}
use Rattle.ild_data.specs.Data.{Data}
use Rattle.ild_schema.specs.declared.def.Field.{Field}
use Rattle.ild_typed.specs.Fields.{is_implicit}
use Rattle.ild_typed.specs.StructWhy.{has_fall}
use Rattle.ild_layer_fields.specs.declared.notes.Notes.{Notes}

-- a place stands twice
abbrev pub stands_twice : List ℕ → Bool
stands_twice [] = false
stands_twice (n ∷ ns) = list_any (λ m. nat_eq m n) ns || stands_twice ns

abbrev pub is_strange : ℕ → List ℕ → Bool
is_strange count ns = list_any (λ n. nat_eq n count) ns

-- whether a field's bit is set, in words of 64 bits each, the lowest bit first
abbrev pub is_marked : List ℕ → ℕ → Bool
is_marked words i = nat_eq (slice_index_or words (i / 64) 0 / 2 ^ (i % 64) % 2) 1

pub record IsNoted (count : ℕ) (notes : Notes) (ns : List ℕ) : Type 0 where
  pub stranger : notes.stranger ≡ is_strange count ns
  pub falls : notes.falls ≡ has_fall ns
  pub twice : is_strange count ns ≡ false → notes.twice ≡ stands_twice ns
  pub highest : (m : ℕ) → list_any (λ n. nat_lt m n) ns ≡ nat_lt m notes.highest
  pub met : (i : ℕ) → i < count → is_marked notes.met i ≡ list_any (λ n. nat_eq i n) ns

-- whether data are those of the value that stands for the field at a place, where it is left out
abbrev pub implicit_at : List Field → ℕ → Data → Bool
implicit_at [] n d = false
implicit_at (f ∷ fs) zero d = is_implicit f.implicit d
implicit_at (f ∷ fs) (suc n) d = implicit_at fs n d
