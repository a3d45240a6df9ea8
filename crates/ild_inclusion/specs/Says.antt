-- What blocks say of a path into the value of a type under a root (IPLD HashMap; IPLD Schemas): the part to which it leads, or from where on it leads nowhere; or else what is wrong first on the way.
use Rattle.std.specs.Prelude.{◌≡◌, ℕ, ◌+◌, List, [], ◌∷◌, Option, Some, None, MatchOption, Result, Ok, Err}
use Rattle.ild_data.specs.Data.{Data}
use Rattle.ild_data.specs.Limits.{deepest}
use Rattle.ild_data.specs.Spell.{id_of, spell}
use Rattle.ild_data.specs.Trie.{TrieSlot}
use Rattle.ild_data.specs.declared.hamt_shape.HamtShape.{HamtShape}
use Rattle.ild_path_edits.specs.Along.{room_below}
use Rattle.ild_schema.specs.Slots.{form_of, plainly}
use Rattle.ild_schema.specs.Value.{Value}
use Rattle.ild_schema.specs.declared.number.Slot.{Slot}
use Rattle.ild_schema.specs.declared.number.TypeNo.{TypeNo}
use Rattle.ild_schema.specs.declared.row.Row.{Row}
use Rattle.ild_typed.specs.At.{InSlot, seen}
use Rattle.ild_typed.specs.Fits.{Front}
use Rattle.ild_typed.specs.Hamt.{alone}
use Rattle.ild_typed.specs.Node.{IsRoot}
use Rattle.ild_typed.specs.Represented.{represented}
use Rattle.ild_typed.specs.Segment.{part}
use Rattle.ild_typed.specs.Slots.{element_of}
use Rattle.ild_view.specs.Forms.{shape_in}
use Rattle.ild_view.specs.Roots.{root_in}
use Rattle.ild_inclusion.specs.Branches.{Whether, ElseBehind}
use Rattle.ild_inclusion.specs.Way.{OnWay, Spelling}
use Rattle.ild_inclusion.specs.declared.answer.Answer.{Answer}
use Rattle.ild_inclusion.specs.declared.answer.Answer.TheVariants as A
use Rattle.ild_inclusion.specs.declared.fault.Reject.{Reject}
use Rattle.ild_inclusion.specs.declared.fault.Reject.TheVariants as R

abbrev pub Outcome : Type 0
Outcome = Result Answer Reject

-- data in block i have a front of a slot that nests no deeper than the room
abbrev pub Fronted : List Row → ℕ → ℕ → Slot → Data → (Value → Type 0) → (Reject → Type 0) → Type 0
Fronted rows room i s t Behind Wrong = ElseBehind (λ f. Front rows room s f t) Behind (Wrong (R.Shape i))

-- the value at a key, which stands in block i, goes to the slot of the HAMT's values
pub record GoesToSlot (rows : List Row) (room : ℕ) (hamt_slot : Slot) (i : ℕ) (t : Data) (Behind : InSlot → Type 0) (Wrong : Reject → Type 0) : Type 0 where
  pub slot : Slot
  pub is : element_of (form_of rows hamt_slot) ≡ Some slot
  pub fronted : Fronted rows room i slot t (λ f. Behind (slot, f)) Wrong

-- where the way of a key ends
abbrev pub AtKey : (ℕ → List (List ℕ) → Data → Type 0) → (ℕ → List (List ℕ) → Type 0) → ℕ → List (List ℕ) → Option Data → Type 0
AtKey On Off i bs None = Off i bs
AtKey On Off i bs (Some t) = On i bs t

-- a HAMT by its root node, which stands in block i: its nodes are those of the shape of its type
pub record EntersRoot (rows : List Row) (hash key : List ℕ) (room : ℕ) (hamt_slot : Slot) (d : Data) (i : ℕ) (bs : List (List ℕ))
    (On : ℕ → InSlot → List (List ℕ) → Type 0) (Off : ℕ → List (List ℕ) → Type 0) (Wrong : Reject → Type 0) : Type 0 where
  pub shape : HamtShape
  pub named : shape_in (form_of rows hamt_slot) ≡ Some shape
  pub slots : List TrieSlot
  pub root : IsRoot shape slots d
  pub way : OnWay shape hash key (AtKey (λ j cs t. GoesToSlot rows room hamt_slot j t (λ q. On j q cs) Wrong) Off) Wrong 0 i slots bs

-- a segment that leads to no part of a value in its block is the key of a HAMT, or leads nowhere
abbrev pub Enters : List Row → List ℕ → List ℕ → ℕ → Slot → ℕ → List (List ℕ) → (ℕ → InSlot → List (List ℕ) → Type 0) → (ℕ → List (List ℕ) → Type 0) → (Reject → Type 0) → Option Data → Type 0
Enters rows hash key room s i bs On Off Wrong None = Off i bs
Enters rows hash key room s i bs On Off Wrong (Some d) = EntersRoot rows hash key room s d i bs On Off Wrong

-- One segment from a value in block i, with these blocks left: on to a part of it, with the room that is left there; or it leads nowhere; or something is wrong.
abbrev pub Goes : (List ℕ → List ℕ) → List Row → ℕ → ℕ → InSlot → List ℕ → List (List ℕ) → (ℕ → InSlot → List (List ℕ) → Type 0) → (ℕ → List (List ℕ) → Type 0) → (Reject → Type 0) → Type 0
Goes h rows room i p s bs On Off Wrong = MatchOption (part (seen rows p) s) (Enters rows (h s) s (room_below rows room p s) p.0 i bs On Off Wrong (root_in p.1)) (λ q. On i q bs)

-- the way ends in block i with this answer, unless a block is left over
abbrev pub Ends : (Outcome → Type 0) → ℕ → List (List ℕ) → Answer → Type 0
Ends Is i [] a = Is (Ok a)
Ends Is i (b ∷ bs) a = Is (Err (R.Extra (i + 1)))

-- the answer that is a part, spelled by its representation; of a HAMT by its root map alone
pub record EndsHere (rows : List Row) (Is : Outcome → Type 0) (i : ℕ) (p : InSlot) (bs : List (List ℕ)) : Type 0 where
  pub tree : Data
  pub shown : represented alone rows p.0 p.1 ≡ Some tree
  pub ends : Ends Is i bs (A.Here (spell tree))

-- The outcome of the segments from one on: they lead from a value, which stands in block i in this room, through the blocks that are left.
abbrev pub Follows : (List ℕ → List ℕ) → List Row → (Outcome → Type 0) → ℕ → ℕ → ℕ → InSlot → List (List ℕ) → List (List ℕ) → Type 0
Follows h rows Is room k i p [] bs = EndsHere rows Is i p bs
Follows h rows Is room k i p (s ∷ ss) bs =
    Goes h rows room i p s bs (λ j q cs. Follows h rows Is (room_below rows room p s) (k + 1) j q ss cs) (λ j cs. Ends Is j cs (A.Absent k)) (λ r. Is (Err r))

-- The outcome of the whole way: the first block has the id of the root, and data with a front of the type.
abbrev pub Walks : (List ℕ → List ℕ) → List Row → TypeNo → List ℕ → List (List ℕ) → (Outcome → Type 0) → List (List ℕ) → Type 0
Walks h rows n id path Is [] = Is (Err R.Empty)
Walks h rows n id path Is (b ∷ bs) =
    Whether (id_of b ≡ id) (Spelling 0 b (λ t. Fronted rows deepest 0 (plainly n) t (λ f. Follows h rows Is deepest 0 0 (plainly n, f) path bs) (λ r. Is (Err r))) (λ r. Is (Err r))) (Is (Err R.Root))

-- the blocks say this of the path
abbrev pub BlocksSay : (List ℕ → List ℕ) → List Row → TypeNo → List ℕ → List (List ℕ) → List (List ℕ) → Answer → Type 0
BlocksSay h rows n id path blocks a = Walks h rows n id path (λ o. o ≡ Ok a) blocks

-- they say nothing, since this is wrong, and nothing before it on the way
abbrev pub IsWrongFirst : (List ℕ → List ℕ) → List Row → TypeNo → List ℕ → List (List ℕ) → List (List ℕ) → Reject → Type 0
IsWrongFirst h rows n id path blocks r = Walks h rows n id path (λ o. o ≡ Err r) blocks
