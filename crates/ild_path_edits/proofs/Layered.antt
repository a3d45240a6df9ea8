-- A judgement that tests each holder in a value: as the rule on holes, the delimiter rules and the bound on nesting do. The index is
-- what is left at a holder, and `below` what it leaves to its parts.
use Rattle.std.specs.Prelude.{◌≡◌, ℕ, IfSome, List, [], ◌∷◌, Some}
use Rattle.ild_data.specs.Data.{Data}
use Rattle.ild_schema.specs.declared.def.Field.{Field}
use Rattle.ild_schema.specs.declared.number.Slot.{Slot}
use Rattle.ild_schema.specs.declared.row.Row.{Row}
use Rattle.ild_schema.specs.Prelude.{anything}
use Rattle.ild_schema.specs.Slots.{form_of}
use Rattle.ild_schema.specs.Value.{Value, null, boolean, integer, text, bytes, link, list, map, struct, union, enum, unit, any, hamt, Values, no_values, value, Pairs, no_pairs, pair, Optionals, no_optionals, absent, present}
use Rattle.ild_typed.specs.Slots.{element_of, fields_of, member_of}
use Rattle.ild_typed.specs.Holder.{Holder, nothing, any_holder, holder_of, of_any}
use Rattle.ild_typed.specs.Segment.{part}

abbrev mutual
  pub IsGood : List Row → (I : Type 0) → (I → Slot → I) → (I → Slot → Holder → Type 0) → I → Slot → Value → Type 0
  IsGood rows I below L i slot null = L i slot (nothing null)
  IsGood rows I below L i slot (boolean b) = L i slot (nothing (boolean b))
  IsGood rows I below L i slot (integer n) = L i slot (nothing (integer n))
  IsGood rows I below L i slot (text s) = L i slot (nothing (text s))
  IsGood rows I below L i slot (bytes s) = L i slot (nothing (bytes s))
  IsGood rows I below L i slot (link s) = L i slot (nothing (link s))
  IsGood rows I below L i slot (list vs) = L i slot (holder_of rows slot (list vs)) × IfSome (element_of (form_of rows slot)) (λ u. AllGood rows I below L (below i slot) u vs)
  IsGood rows I below L i slot (map ps) = L i slot (holder_of rows slot (map ps)) × IfSome (element_of (form_of rows slot)) (λ u. EntriesGood rows I below L (below i slot) u ps)
  IsGood rows I below L i slot (struct os) = L i slot (holder_of rows slot (struct os)) × FieldsGood rows I below L (below i slot) (fields_of (form_of rows slot)) os
  IsGood rows I below L i slot (union n v) =
      L i slot (holder_of rows slot (union n v)) × IfSome (member_of (form_of rows slot) n) (λ u. IsGood rows I below L (below i slot) u v)
  IsGood rows I below L i slot (enum n) = L i slot (nothing (enum n))
  IsGood rows I below L i slot unit = L i slot (nothing unit)
  -- data inside an Any is judged as a whole
  IsGood rows I below L i slot (any d) = L i slot (any_holder d)
  IsGood rows I below L i slot (hamt d) = L i slot (nothing (hamt d))

  pub AllGood : List Row → (I : Type 0) → (I → Slot → I) → (I → Slot → Holder → Type 0) → I → Slot → Values → Type 0
  AllGood rows I below L i slot no_values = Unit {0}
  AllGood rows I below L i slot (value v vs) = IsGood rows I below L i slot v × AllGood rows I below L i slot vs

  pub EntriesGood : List Row → (I : Type 0) → (I → Slot → I) → (I → Slot → Holder → Type 0) → I → Slot → Pairs → Type 0
  EntriesGood rows I below L i slot no_pairs = Unit {0}
  EntriesGood rows I below L i slot (pair k v ps) = IsGood rows I below L i slot v × EntriesGood rows I below L i slot ps

  pub FieldsGood : List Row → (I : Type 0) → (I → Slot → I) → (I → Slot → Holder → Type 0) → I → List Field → Optionals → Type 0
  FieldsGood rows I below L i fs no_optionals = Unit {0}
  FieldsGood rows I below L i [] (absent os) = Unit {0}
  FieldsGood rows I below L i (f ∷ fs) (absent os) = FieldsGood rows I below L i fs os
  FieldsGood rows I below L i [] (present v os) = Unit {0}
  FieldsGood rows I below L i (f ∷ fs) (present v os) = IsGood rows I below L i f.slot v × FieldsGood rows I below L i fs os

-- what a test says of data inside an Any goes to its parts
abbrev pub GoesInside : List Row → (I : Type 0) → (I → Slot → I) → (I → Slot → Holder → Type 0) → Type 0
GoesInside rows I below L = (i : I) (slot : Slot) (d e : Data) (s : List ℕ) → L i slot (any_holder d) → part (any_holder d) s ≡ Some (anything, of_any e) → IsGood rows I below L (below i slot) anything (of_any e)
