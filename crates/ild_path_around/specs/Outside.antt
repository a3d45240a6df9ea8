-- Delimiters around HAMTs: no HAMT stands in a text (IPLD Schemas, "stringjoin", "stringpairs", "stringprefix").
use Rattle.std.specs.Prelude.{◌≡◌, ℕ, Bool, List, Some}
use Rattle.ild_data.specs.Data.{Data}
use Rattle.ild_path_entered.specs.Entered.{PassesHamts, path_through}
use Rattle.ild_path_nodes.specs.NodeLaws.{IsHamt}
use Rattle.ild_path_within.specs.Within.{with_part}
use Rattle.ild_schema.specs.declared.number.Slot.{Slot}
use Rattle.ild_schema.specs.declared.row.Row.{Row}
use Rattle.ild_schema.specs.Value.{Pairs, Value, map}
use Rattle.ild_typed.specs.At.{InSlot, at}
use Rattle.ild_typed.specs.Hamt.{whole}
use Rattle.ild_typed.specs.Judged.{breaks_delimiter}
use Rattle.ild_typed.specs.OfType.{OfType, TestsKeys}
use Rattle.ild_typed.specs.Represented.{represented}
use Rattle.ild_typed.specs.Schema.{IsSchema}

-- a value in which a HAMT is another breaks delimiters exactly where that HAMT does
abbrev pub OutsideOfHamts : Type 0
OutsideOfHamts =
    (h : List ℕ → List ℕ) (rows : List Row) (is_key : ℕ → List ℕ → Bool) → IsSchema rows → TestsKeys rows is_key
    → (p : InSlot) (path : List (List ℕ)) (slot elem : Slot) (ps : Pairs) (d : Data) (m : Value)
    → OfType rows p.0 p.1 → represented (whole h) rows p.0 p.1 ≡ Some d → at rows p path ≡ Some (slot, map ps) → IsHamt rows slot elem → OfType rows slot m
    → breaks_delimiter rows p.0 (with_part rows p path m) ≡ breaks_delimiter rows slot m

-- and so does one in which the value behind HAMTs, one in an entry of another, is another
abbrev pub OutsideOfEntries : Type 0
OutsideOfEntries =
    (h : List ℕ → List ℕ) (rows : List Row) (is_key : ℕ → List ℕ → Bool) → IsSchema rows → TestsKeys rows is_key → (p q : InSlot) (gs : List (List (List ℕ) × List ℕ)) (d : Data) (m : Value)
    → OfType rows p.0 p.1 → represented (whole h) rows p.0 p.1 ≡ Some d → PassesHamts rows p gs q → OfType rows q.0 m
    → breaks_delimiter rows p.0 (with_part rows p (path_through gs) m) ≡ breaks_delimiter rows q.0 m
