-- What an object tells of its content: all of it or nothing; no call changes which.
use Rattle.std.specs.Prelude.{Option, Some, None}

-- P of the content, where it is told
abbrev pub IfTold : {A : Type 0} → Option A → (A → Type 0) → Type 0
IfTold None P = Unit {0}
IfTold (Some a) P = P a

-- P of the content before and after, where it is told
abbrev pub BothTold : {A : Type 0} → Option A → Option A → (A → A → Type 0) → Type 0
BothTold None None P = Unit {0}
BothTold None (Some b) P = ⊥
BothTold (Some a) None P = ⊥
BothTold (Some a) (Some b) P = P a b
