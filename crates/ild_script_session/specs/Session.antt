-- The state that a script goes through, and what its lines mean, for the values V of any type.
use Rattle.std.specs.Prelude.{ℕ, List, [], Option, None, unwrap_or}
use Rattle.ild_script.specs.declared.reply.Reply.{Reply}

-- the value, and inside a batch the value that it had at `begin`
pub record State (V : Type 0) : Type 0 where
  pub value : V
  pub begun : Option V

-- the state outside a batch
abbrev pub idle : {V : Type 0} → V → State V
idle v = record { value = v; begun = None }

-- the value that a script leaves which ends in this state: inside a batch the one at `begin`
abbrev pub left : {V : Type 0} → State V → V
left s = unwrap_or s.begun s.value

-- Where a session stands between two lines: the state, and of a batch how many puts are owed for its edits, and the blocks that it holds
-- of its own. Outside a batch these two count for nothing.
pub record Stage (V : Type 0) : Type 0 where
  pub state : State V
  pub owed : ℕ
  pub own : List (List ℕ)

-- the stage outside a batch
abbrev pub resting : {V : Type 0} → V → Stage V
resting v = record { state = idle v; owed = 0; own = [] }

-- What a line is due on plain values.
pub record Due (V : Type 0) : Type 0 where
  -- the reply, none to the empty line, and the state after it
  pub reply : Option Reply
  pub next : State V
  -- the blocks that it may add, those of an edit's changed value or of the value that a commit keeps; and for each place at which
  -- such a block stands, the ids of its children there
  pub adds : List (List ℕ)
  pub children : List ℕ → List (List (List ℕ))
  -- how many gets and puts it makes at most, and for how many puts it leaves a batch owing
  pub gets : ℕ
  pub puts : ℕ
  pub owes : ℕ

-- What the lines of a script mean.
pub record Meaning (V : Type 0) : Type 0 where
  -- what a line is due in a state, where these blocks are held, or none are told
  pub due : Option (List (List ℕ)) → State V → List ℕ → Due V
  -- the blocks of a value, the root block first; and for each place at which a block of it stands, that block and all from there on down
  pub blocks : V → List (List ℕ)
  pub places : V → List (List ℕ × List (List ℕ))
