-- The laws of causes: data of an accepted type have a layer, or there is a cause why they have none; a tree has a front
-- that fits, or the walk of it refuses a piece.
use Rattle.std.specs.Prelude.{◌≡◌, ◌↔◌, ◌⊎◌, ℕ, ◌<◌, true, length, List, None, Some}
use Rattle.std.specs.List.{AllByRecursion}
use Rattle.ild_data.specs.Data as T
use Rattle.ild_data.specs.Data.{Data}
use Rattle.ild_data.specs.Key.{Rises}
use Rattle.ild_schema.specs.Delims.{Delims}
use Rattle.ild_typed.specs.Schema.{IsSchema}
use Rattle.ild_schema.specs.declared.def.TypeDef.{TypeDef}
use Rattle.ild_data.specs.Tree.{IsTree}
use Rattle.ild_schema.specs.declared.number.Slot.{Slot}
use Rattle.ild_schema.specs.declared.row.Row.{Row}
use Rattle.ild_schema.specs.Value.{Value}
use Rattle.ild_schema.specs.Slots.{form_of}
use Rattle.ild_typed.specs.Composed.{composed}
use Rattle.ild_typed.specs.Node.{IsRoot}
use Rattle.ild_data.specs.Trie as Trie
use Rattle.ild_data.specs.declared.hamt_shape.HamtShape.{HamtShape}
use Rattle.ild_typed.specs.Fits.{Front}
use Rattle.ild_schema.specs.Clear.{IsSafe, ClearType}
use Rattle.ild_typed.specs.Spots.{Spot}
use Rattle.ild_typed.specs.NodeReading.{root_fits}
use Rattle.ild_typed.specs.Refused.{Refusal, AreParts, Refused}
use Rattle.ild_typed.specs.Layer.{Layer}
use Rattle.ild_typed.specs.Hamt.{alone}
use Rattle.ild_typed.specs.Causes.{why_of}

-- the keys of a map rise
abbrev pub KeysRise : Data → Type 0
KeysRise (T.map ms) = Rises (T.members_list ms)
KeysRise t = Unit {0}

abbrev pub LayerOrWhy : Type 0
LayerOrWhy =
    (d : TypeDef) → ClearType d → Delims d → (t : Data) → KeysRise t
    → (why_of d t ≡ None) ↔ ((l : Layer Data) × (composed alone d l ≡ Some t))

-- ---- the walk of a view

-- a slot whose type is in the table, copies followed
abbrev pub HasForm : List Row → Slot → Type 0
HasForm rows s = (d : TypeDef) × (form_of rows s ≡ Some d)

-- the parts of a tree of a type are trees
abbrev pub PartsAreTrees : Type 0
PartsAreTrees =
    (rows : List Row) → IsSchema rows → (s : Slot) (d : TypeDef) → form_of rows s ≡ Some d
    → (t : Data) (ps : List Spot) → IsTree t → AreParts d t ps → AllByRecursion (λ p. IsTree p.tree) ps

-- a tree is the root of a HAMT exactly where the test says so
abbrev pub RootsAreTold : Type 0
RootsAreTold = (p : HamtShape) (t : Data) → IsTree t → (root_fits p t ≡ true) ↔ ((slots : List Trie.TrieSlot) × IsRoot p slots t)

-- what is refused has no front
abbrev pub RefusedHaveNoFront : Type 0
RefusedHaveNoFront =
    (rows : List Row) → IsSchema rows → (room : ℕ) (s : Slot) → IsSafe rows s
    → (t : Data) (r : Refusal) → Refused rows room s t r → (f : Value) → Front rows room s f t → ⊥

-- and a tree is refused or has one
abbrev pub FrontOrRefused : Type 0
FrontOrRefused =
    (rows : List Row) → IsSchema rows → (room : ℕ) (s : Slot) → s.ty.0 < length rows
    → (t : Data) → IsTree t → ((f : Value) × Front rows room s f t) ⊎ ((r : Refusal) × Refused rows room s t r)

-- of the walk there is one refusal at most
abbrev pub OneRefusal : Type 0
OneRefusal =
    (rows : List Row) → IsSchema rows → (room : ℕ) (s : Slot) (t : Data) (q r : Refusal)
    → Refused rows room s t q → Refused rows room s t r → q ≡ r
