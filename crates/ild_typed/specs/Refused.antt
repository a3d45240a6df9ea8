-- What a view refuses: on a walk of the data, a piece before its parts and parts in order, the first piece that a cause
-- holds of, with its type and the way to it.
use Rattle.std.specs.Prelude.{◌≡◌, ℕ, zero, suc, ◌-◌, false, cond, ◌⊎◌, List, [], ◌∷◌, ◌++◌, Some, None}
use Rattle.ild_data.specs.Data.{Data}
use Rattle.ild_schema.specs.declared.number.Slot.{Slot}
use Rattle.ild_schema.specs.declared.number.TypeNo.{TypeNo}
use Rattle.ild_schema.specs.declared.def.TypeDef.{TypeDef}
use Rattle.ild_schema.specs.declared.def.TypeDef.TheVariants as D
use Rattle.ild_schema.specs.declared.def.MapForm.TheVariants as MF
use Rattle.ild_schema.specs.declared.row.Row.{Row}
use Rattle.ild_schema.specs.Value.{Value}
use Rattle.ild_typed.specs.Layer.{Layer}
use Rattle.ild_schema.specs.Slots.{form_of}
use Rattle.ild_typed.specs.Composed.{composed}
use Rattle.ild_typed.specs.Hamt.{alone}
use Rattle.ild_typed.specs.Node.{IsRoot}
use Rattle.ild_data.specs.Trie as Trie
use Rattle.ild_typed.specs.Fits.{FitsPast}
use Rattle.ild_typed.specs.Layers.{RepresentsSome}
use Rattle.ild_typed.specs.Why as W
use Rattle.ild_typed.specs.Why.{Why}
use Rattle.ild_typed.specs.Spots.{Step, Spot, spots_of}
use Rattle.ild_typed.specs.RootSpots.{root_spots}
use Rattle.ild_typed.specs.Pieces.{is_null_there, needs, why_at, IsWhy}

pub record Refusal : Type 0 where
  pub ty : TypeNo
  pub why : Why
  pub at : List Step

-- that of a part, as the whole's. A key that is no text of its type is refused as such; only too little room is told of it
-- as of any piece
abbrev pub key_refusal : Spot → Refusal → Why → Refusal
key_refusal p q W.Depth = record { ty = q.ty; why = W.Depth; at = p.at ++ q.at }
key_refusal p q w = record { ty = p.slot.ty; why = W.Member; at = p.at }

abbrev pub part_refusal : Spot → Refusal → Refusal
part_refusal p q = cond p.is_key (key_refusal p q q.why) (record { ty = q.ty; why = q.why; at = p.at ++ q.at })

-- the parts of data of a type, in their order
abbrev pub AreParts : TypeDef → Data → List Spot → Type 0
AreParts (D.Map key key_at value at (MF.Hamt p)) t ps = (slots : List Trie.TrieSlot) × IsRoot p slots t × (ps ≡ root_spots key value 0 slots)
AreParts d t ps = (l : Layer Data) × (composed alone d l ≡ Some t) × (ps ≡ spots_of d l)

-- the refusal of the first part that has one: those before it have fronts that fit
abbrev pub FirstRefused : (Slot → Value → Type 0) → (Slot → Data → Refusal → Type 0) → List Row → List Spot → Refusal → Type 0
FirstRefused fits refused rows [] r = ⊥
FirstRefused fits refused rows (p ∷ ps) r =
    ((q : Refusal) × refused p.slot p.tree q × (r ≡ part_refusal p q))
    ⊎ (RepresentsSome fits rows p.slot p.tree × FirstRefused fits refused rows ps r)

-- fits and refused say what fits, and is refused, where one level less and then so many more are left
abbrev pub PieceRefused : List Row → ℕ → (ℕ → Slot → Value → Type 0) → (ℕ → Slot → Data → Refusal → Type 0) → Slot → Data → Refusal → Type 0
PieceRefused rows room fits refused s t r =
    (is_null_there s t ≡ false)
    × (d : TypeDef) × (form_of rows s ≡ Some d)
    × (((w : Why) × IsWhy room d t w × (r ≡ record { ty = s.ty; why = w; at = [] }))
    ⊎ ((why_at room d t ≡ None) × (ps : List Spot) × AreParts d t ps × FirstRefused (fits (needs d t - 1)) (refused (needs d t - 1)) rows ps r))

-- in so much room, of which so much is passed over
unfoldable pub RefusedPast : List Row → ℕ → ℕ → Slot → Data → Refusal → Type 0
RefusedPast rows zero zero s t r = PieceRefused rows zero (λ over u w. ⊥) (λ over u d q. ⊥) s t r
RefusedPast rows zero (suc over) s t r = ⊥
RefusedPast rows (suc room) zero s t r = PieceRefused rows (suc room) (FitsPast rows room) (RefusedPast rows room) s t r
RefusedPast rows (suc room) (suc over) s t r = RefusedPast rows room over s t r

abbrev pub Refused : List Row → ℕ → Slot → Data → Refusal → Type 0
Refused rows room s t r = RefusedPast rows room zero s t r
