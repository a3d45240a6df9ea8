-- The steps of a walk, of which each call of `next` takes some.
use Rattle.std.specs.Prelude.{Bool, true, false, ◌≡◌, ◌↔◌, ℕ, ◌+◌, ◌^◌, ◌<◌, ◌≤◌, List, [], ◌∷◌, ◌++◌, length, Option, Some, None, Result, Ok, Err}
use Rattle.ild_data.specs.Data.{Data}
use Rattle.ild_data.specs.Spell.{spell}
use Rattle.ild_data.specs.declared.hamt_shape.HamtShape.{HamtShape}
use Rattle.ild_data.specs.TrieShape.{trie_levels}
use Rattle.ild_cbor.specs.declared.why.BlockWhy.TheVariants.{Shape as NoNode}
use Rattle.ild_cbor.specs.declared.why.Why.TheVariants.{Trie}
use Rattle.ild_edges.specs.Count.{Rose}
use Rattle.ild_edges.specs.Gained.{AreHeld}
use Rattle.ild_edges.specs.Store.{Moment}
use Rattle.ild_node_slots.specs.declared.fault.HamtFault.{HamtFault}
use Rattle.ild_node_slots.specs.declared.fault.HamtFault.TheVariants.{Block, Store, Memory}
use Rattle.ild_bulk_walker.specs.Ahead.{walker_todo, walker_path, StillAhead, IsCause, Counts, Nexts}
use Rattle.ild_bulk_walker.specs.Fetching.{OnlyGets}
use Rattle.ild_bulk_walker.specs.Standing.{KeepsOn, RowStands, way_of, last_of}
use Rattle.ild_bulk_walker.specs.Steps.{steps_todo}
use Rattle.ild_bulk_walker.specs.Reads.{LeftNodes, Spends, HasRead, fails_of}
use Rattle.ild_bulk_walker.specs.Todo.{Todo, give, enter, leave, fits}
use Rattle.ild_bulk_walker.specs.declared.step.Child.{Child}
use Rattle.ild_bulk_walker.specs.declared.step.Step.{Step}
use Rattle.ild_bulk_walker.specs.declared.due.Due.{Due}
use Rattle.ild_bulk_walker.specs.declared.due.Due.TheVariants as D
use Rattle.ild_bulk_walker.specs.declared.row.Row.{Row}
use Rattle.ild_bulk_walker.specs.declared.walker.Walker.{Walker}

-- ---- the next step

abbrev pub IsDue : List Todo → Due → Type 0
IsDue todo D.Give = (k : List ℕ) × (v : Data) × (i : ℕ) × (rest : List Todo) × (todo ≡ give k v i ∷ rest)
IsDue todo (D.Enter c) = (rest : List Todo) × (todo ≡ enter c.id.0 c.index ∷ rest)
IsDue todo (D.Leave before) = (rest : List Todo) × (todo ≡ leave before ∷ rest)
IsDue todo D.End = todo ≡ []

pub record NextIs (t : Todo) (w : Walker) : Type 0 where
  pub rest : List Todo
  pub is : walker_todo w ≡ t ∷ rest

-- an entry is to be given
pub record GivesNext (w : Walker) : Type 0 where
  pub key : List ℕ
  pub value : Data
  pub index : ℕ
  pub rest : List Todo
  pub is : walker_todo w ≡ give key value index ∷ rest

-- nothing is to be left but a node of which nothing is given
abbrev pub IsPast : ℕ → List Todo → Type 0
IsPast given [] = Unit {0}
IsPast given (give k v i ∷ todo) = Unit {0}
IsPast given (enter id i ∷ todo) = Unit {0}
IsPast given (leave before ∷ todo) = given ≤ before

-- ---- what calls do

-- the same entries are ahead, whatever is held
abbrev pub SameAhead : HamtShape → Walker → Walker → Type 0
SameAhead p v w = (h : List ℕ → List ℕ) (held : List (List ℕ)) (es : List (List ℕ × Data)) → StillAhead h p held v es ↔ StillAhead h p held w es

-- so many nodes are to be read as before, whatever is held
abbrev pub SameNodes : HamtShape → Walker → Walker → Type 0
SameNodes p v w = (held : List (List ℕ)) (n : ℕ) → LeftNodes p held v n → LeftNodes p held w n

-- the same entries are ahead, wherever these blocks are held
abbrev pub SameWhere : HamtShape → List (List ℕ) → Walker → Walker → Type 0
SameWhere p blocks v w = (h : List ℕ → List ℕ) (held : List (List ℕ)) (es : List (List ℕ × Data)) → AreHeld blocks held → StillAhead h p held v es ↔ StillAhead h p held w es

abbrev pub NothingAhead : HamtShape → Walker → Type 0
NothingAhead p w = (h : List ℕ → List ℕ) (held : List (List ℕ)) (es : List (List ℕ × Data)) → StillAhead h p held w es → ⊥

-- a node isn't one of a trie
abbrev pub IsTrieFault : HamtFault → Type 0
IsTrieFault (Block id why) = why ≡ NoNode Trie
IsTrieFault e = ⊥

-- the node in which the walk is, is at fault
abbrev pub walker_here : Walker → List ℕ
walker_here w = last_of w.at.0 (way_of w.path.items)

abbrev pub IsFaultAt : List ℕ → HamtFault → Type 0
IsFaultAt here (Block id why) = id.0 ≡ here
IsFaultAt here e = ⊥

abbrev pub LeaveAnswer : HamtShape → Walker → Result (Unit {0}) HamtFault → Type 0
LeaveAnswer p w (Ok u) = Unit {0}
LeaveAnswer p w (Err e) = IsTrieFault e × NothingAhead p w

-- nodes are left, or the tree isn't a trie
pub record Leaves (p : HamtShape) (v : Walker) (result : Result (Unit {0}) HamtFault) (w : Walker) : Type 0 where
  pub answer : LeaveAnswer p v result
  pub same : SameAhead p v w
  pub given : w.given ≡ v.given
  pub path : length (walker_path w) ≤ length (walker_path v)
  pub on : (h : List ℕ → List ℕ) (told : Option (List (List ℕ))) (lacks : ℕ) → KeepsOn p h told lacks lacks v result w
  pub reads : (held : List (List ℕ)) (gets : ℕ) → Spends p held gets gets v result w
  pub nodes : SameNodes p v w

-- a child is entered: its steps stand before the leaving of its node, and the others behind
pub record IsEntered (v : Walker) (c : Child) (steps : List Step) (w : Walker) : Type 0 where
  pub rest : List Todo
  pub was : walker_todo v ≡ enter c.id.0 c.index ∷ rest
  pub todo : walker_todo w ≡ steps_todo steps ++ leave v.given ∷ rest
  pub path : walker_path w ≡ walker_path v ++ c.index ∷ []
  pub given : w.given ≡ v.given
  pub children : w.path.items ≡ v.path.items ++ c ∷ []
  pub at : w.at.0 ≡ v.at.0

pub record IsUnchanged (v w : Walker) : Type 0 where
  pub todo : walker_todo w ≡ walker_todo v
  pub path : walker_path w ≡ walker_path v
  pub given : w.given ≡ v.given
  pub children : w.path.items ≡ v.path.items
  pub at : w.at.0 ≡ v.at.0

abbrev pub EntersChild : Walker → Child → List Step → Result (Unit {0}) HamtFault → Walker → Type 0
EntersChild v c steps (Ok u) w = IsEntered v c steps w
EntersChild v c steps (Err Memory) w = IsUnchanged v w
EntersChild v c steps (Err e) w = ⊥

-- nothing is ahead, where the store tells what it holds
abbrev pub NothingTold : HamtShape → Moment → Walker → Type 0
NothingTold p m w = (h : List ℕ → List ℕ) (held : List (List ℕ)) (es : List (List ℕ × Data)) → m.blocks ≡ Some held → StillAhead h p held w es → ⊥

abbrev pub EnterAnswer : HamtShape → Moment → Walker → Result (Unit {0}) HamtFault → Walker → Moment → Type 0
EnterAnswer p m v (Ok u) w n = IsPast w.given (walker_todo w)
EnterAnswer p m v (Err Store) w n = Rose m.faults n.faults
EnterAnswer p m v (Err Memory) w n = Unit {0}
EnterAnswer p m v (Err e) w n = IsCause p m e n × NothingTold p m v

-- children are entered, or why not; the path is one of a trie's levels
pub record Enters (p : HamtShape) (most : ℕ) (m : Moment) (v : Walker) (result : Result (Unit {0}) HamtFault) (w : Walker) (n : Moment) : Type 0 where
  pub answer : EnterAnswer p m v result w n
  pub given : w.given ≡ v.given
  pub short : length (walker_path w) < trie_levels p
  pub only : OnlyGets most m n
  pub on : (h : List ℕ → List ℕ) → KeepsOn p h m.blocks m.lacks n.lacks v result w
  pub reads : (held : List (List ℕ)) → m.blocks ≡ Some held → Spends p held m.gets n.gets v result w
  pub read : HasRead p (λ blocks. SameWhere p blocks v w) (fails_of result) m v w n

-- an entry is to be given, or nothing, or a node is to be left of which nothing is given
abbrev pub IsReady : ℕ → List Todo → Type 0
IsReady given [] = Unit {0}
IsReady given (give k v i ∷ todo) = Unit {0}
IsReady given (enter id i ∷ todo) = ⊥
IsReady given (leave before ∷ todo) = given ≤ before

-- ---- giving

-- the next step gives an entry, of which the row was made, and the others are left
pub record IsTaken (v : Walker) (row : Row) (w : Walker) : Type 0 where
  pub value : Data
  pub index : ℕ
  pub rest : List Todo
  pub was : walker_todo v ≡ give row.key value index ∷ rest
  pub todo : walker_todo w ≡ rest
  pub spelled : row.value ≡ spell value
  pub path : walker_path w ≡ walker_path v
  pub given : w.given ≡ v.given + 1
  pub most : w.given < 2 ^ 64
  pub children : w.path.items ≡ v.path.items
  pub at : w.at.0 ≡ v.at.0
  pub block : row.block.0 ≡ walker_here v

abbrev pub TakesRow : Walker → Result (Option Row) HamtFault → Walker → Type 0
TakesRow v (Ok (Some row)) w = IsTaken v row w
TakesRow v (Ok None) w = ⊥
TakesRow v (Err Memory) w = IsUnchanged v w
TakesRow v (Err e) w = ⊥

-- the row is that of the next step, which gives an entry
pub record IsNextRow (v : Walker) (row : Row) : Type 0 where
  pub value : Data
  pub index : ℕ
  pub rest : List Todo
  pub was : walker_todo v ≡ give row.key value index ∷ rest
  pub spelled : row.value ≡ spell value
  pub block : row.block.0 ≡ walker_here v

-- the next step gave an entry, and is passed
pub record IsPassed (v w : Walker) : Type 0 where
  pub first : Todo
  pub was : walker_todo v ≡ first ∷ walker_todo w
  pub path : walker_path w ≡ walker_path v
  pub given : w.given ≡ v.given + 1
  pub most : w.given < 2 ^ 64
  pub children : w.path.items ≡ v.path.items
  pub at : w.at.0 ≡ v.at.0

abbrev pub PassesStep : Walker → Result (Unit {0}) HamtFault → Walker → Type 0
PassesStep v (Ok u) w = IsPassed v w
PassesStep v (Err Memory) w = IsUnchanged v w
PassesStep v (Err e) w = ⊥

-- the entries begin with this pair, and the others are what is still to be given
pub record Begins (h : List ℕ → List ℕ) (p : HamtShape) (held : List (List ℕ)) (key : List ℕ) (value : Data) (w : Walker) (es : List (List ℕ × Data)) : Type 0 where
  pub rest : List (List ℕ × Data)
  pub is : es ≡ (key, value) ∷ rest
  pub still : StillAhead h p held w rest

pub record GivesStill (h : List ℕ → List ℕ) (p : HamtShape) (v : Walker) (row : Row) (w : Walker) : Type 0 where
  pub value : Data
  pub spelled : row.value ≡ spell value
  pub still : (held : List (List ℕ)) (es : List (List ℕ × Data)) → StillAhead h p held v es ↔ Begins h p held row.key value w es

abbrev pub GiveAnswer : (List ℕ → List ℕ) → HamtShape → Walker → Result (Option Row) HamtFault → Walker → Type 0
GiveAnswer h p v (Ok (Some row)) w = GivesStill h p v row w
GiveAnswer h p v (Ok None) w = (held : List (List ℕ)) (es : List (List ℕ × Data)) → StillAhead h p held v es ↔ (es ≡ [])
GiveAnswer h p v (Err Memory) w = IsUnchanged v w
GiveAnswer h p v (Err e) w = IsTrieFault e × ((held : List (List ℕ)) (es : List (List ℕ × Data)) → StillAhead h p held v es → ⊥) × IsUnchanged v w

pub record Gives (h : List ℕ → List ℕ) (p : HamtShape) (v : Walker) (result : Result (Option Row) HamtFault) (w : Walker) : Type 0 where
  pub answer : GiveAnswer h p v result w
  pub counts : Counts v result w
  pub path : walker_path w ≡ walker_path v
  pub on : (told : Option (List (List ℕ))) (lacks : ℕ) → KeepsOn p h told lacks lacks v result w
  pub row : (told : Option (List (List ℕ))) → RowStands p told v result
  pub reads : (held : List (List ℕ)) (gets : ℕ) → Spends p held gets gets v result w
  pub nodes : SameNodes p v w

-- what a call that gives rows says, of one that only tells whether there was one
abbrev pub AnyRow : (Result (Option Row) HamtFault → Type 0) → Result Bool HamtFault → Type 0
AnyRow Says (Ok true) = (row : Row) × Says (Ok (Some row))
AnyRow Says (Ok false) = Says (Ok None)
AnyRow Says (Err e) = Says (Err e)

-- an entry is next, and fits its place
pub record FitsNext (h : List ℕ → List ℕ) (p : HamtShape) (v : Walker) : Type 0 where
  pub next : GivesNext v
  pub fit : fits h p (walker_path v) next.index next.key ≡ true

-- whether an entry is next, or why none is to be given
abbrev pub Judges : (List ℕ → List ℕ) → HamtShape → Walker → Result Bool HamtFault → Type 0
Judges h p v (Ok true) = FitsNext h p v
Judges h p v (Ok false) = walker_todo v ≡ []
Judges h p v (Err e) = Gives h p v (Err e) v

-- ---- up to the next entry

-- nodes are left and children entered, and an entry is to be given, or nothing
pub record ComesNext (p : HamtShape) (m : Moment) (v w : Walker) (n : Moment) : Type 0 where
  pub between : Walker
  pub short : length (walker_path v) < trie_levels p
  pub left : Leaves p v (Ok (tt {0})) between
  pub entered : Enters p (trie_levels p) m between (Ok (tt {0})) w n

abbrev pub Readies : HamtShape → Moment → Walker → Result (Unit {0}) HamtFault → Walker → Moment → Type 0
Readies p m v (Ok u) w n = ComesNext p m v w n
Readies p m v (Err e) w n = (h : List ℕ → List ℕ) → Nexts h p m v (Err e) w n
