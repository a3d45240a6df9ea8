-- What a reference of the program stands for, one level at a time.
use Rattle.std.specs.Prelude.{ℕ, ◌+◌}
use Rattle.ild_parse_grammar.specs.Reference.{Reference, refer, Refers, named, link, list, map}
use Rattle.ild_parse_grammar.specs.declared.reference.Inline.{Inline}
use Rattle.ild_parse_grammar.specs.declared.reference.Inline.TheVariants as I
use Rattle.ild_parse_grammar.specs.declared.reference.Ref.TheInside as R

abbrev pub refers_of : Inline → Refers
refers_of (I.Type n) = named n
refers_of (I.Link n) = link n
refers_of (I.List r) = list r.value
refers_of (I.Map n r) = map n r.value

abbrev pub reference_seen : R.Inside → Reference
reference_seen a = refer a.at a.nullable a.type_at (refers_of a.inline)

-- how many lists and maps a reference nests, itself counted
abbrev mutual
  pub nesting : Reference → ℕ
  nesting (refer at nullable type_at r) = nesting_of r + 1

  pub nesting_of : Refers → ℕ
  nesting_of (named n) = 0
  nesting_of (link n) = 0
  nesting_of (list r) = nesting r
  nesting_of (map n r) = nesting r
