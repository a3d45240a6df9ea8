-- Definitions that go on by what is there.

-- it is so, and then this; or it isn't, and then that
pub data Whether (P Yes No : Type 0) : Type 0 where
  so : P → Yes → Whether P Yes No
  not_so : (P → ⊥) → No → Whether P Yes No

-- one is there, of which then this holds; or there is none, and then that
pub data ElseBehind {X : Type 0} (Is Behind : X → Type 0) (Else : Type 0) : Type 0 where
  found : (x : X) → Is x → Behind x → ElseBehind Is Behind Else
  not_found : ((x : X) → Is x → ⊥) → Else → ElseBehind Is Behind Else
