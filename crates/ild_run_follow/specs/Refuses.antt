-- Which block is refused where a path is followed, over every store: a broken one, of those that hang on the data from which it begins.
use Rattle.std.specs.Prelude.{◌⊎◌, ℕ, List, Option, Result, Err}
use Rattle.ild_cbor.specs.declared.why.BlockWhy.{BlockWhy}
use Rattle.ild_data.specs.Data.{Data}
use Rattle.ild_edges.specs.Store.{Moment}
use Rattle.ild_open_parts.specs.Broken.{HasBrokenBlock, IsWrongBelow}
use Rattle.ild_open_parts.specs.Sites.{Site}
use Rattle.ild_path_found.specs.Sites.{IsRefusedAt}
use Rattle.ild_run_follow.specs.declared.fault.ReadFault.{ReadFault}
use Rattle.ild_run_follow.specs.declared.fault.ReadFault.TheVariants as F
use Rattle.ild_schema.specs.declared.number.Slot.{Slot}
use Rattle.ild_schema.specs.declared.row.Row.{Row}

abbrev pub RefusesBlock : {A : Type 0} → (List ℕ → BlockWhy → Type 0) → Result A ReadFault → Type 0
RefusesBlock Says (Err (F.Block id why)) = Says id.0 why
RefusesBlock Says r = Unit {0}

-- of data of a slot, which stand in the block `at`, and may nest so many levels
abbrev pub RefusesBroken : {A : Type 0} → (List ℕ → List ℕ) → List Row → List ℕ → ℕ → Slot → Data → Moment → Result A ReadFault → Moment → Type 0
RefusesBroken h rows at room s t m r n = RefusesBlock (λ id why. HasBrokenBlock h rows m.blocks m.lacks n.lacks at room s t id why) r

-- of a HAMT, whose key comes next: a block of its tree, or one that hangs on the value of an entry
abbrev pub IsBrokenSite : (List ℕ → List ℕ) → List Row → Option (List (List ℕ)) → ℕ → ℕ → Site → List ℕ → BlockWhy → Type 0
IsBrokenSite h rows told before now z id why =
    IsRefusedAt h rows told before now z id why ⊎ IsWrongBelow told z (λ block value. HasBrokenBlock h rows told before now block z.room z.value value id why)

abbrev pub RefusesIn : {A : Type 0} → (List ℕ → List ℕ) → List Row → Site → Moment → Result A ReadFault → Moment → Type 0
RefusesIn h rows z m r n = RefusesBlock (λ id why. IsBrokenSite h rows m.blocks m.lacks n.lacks z id why) r
