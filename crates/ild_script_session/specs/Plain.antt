-- Runs on plain values, apart from any store: for lines whose due does not look at what is held.
use Rattle.std.specs.Prelude.{◌≡◌, ◌⊎◌, ℕ, List, [], ◌∷◌, Option, Some, IsSome, Contains}
use Rattle.std.specs.List.{cons_option}
use Rattle.ild_edges.specs.Collide.{Collide}
use Rattle.ild_edges.specs.Store.{Moment}
use Rattle.ild_script.specs.declared.reply.No.TheVariants as N
use Rattle.ild_script.specs.declared.reply.Reply.{Reply}
use Rattle.ild_script.specs.declared.reply.Reply.TheVariants as R
use Rattle.ild_script_session.specs.Session.{State, Due}
use Rattle.ild_script_session.specs.Step.{Holds}

-- a line is answered as it is due, or memory is wanting for one that is due a reply
abbrev pub PlainStep : {V : Type 0} → Due V → State V → Option Reply → State V → Type 0
PlainStep due s reply t = ((reply ≡ due.reply) × (t ≡ due.next)) ⊎ (IsSome due.reply × (reply ≡ Some (R.No N.Memory)) × (t ≡ s))

-- the same of lines in order
abbrev pub PlainRun : {V : Type 0} → (State V → List ℕ → Due V) → State V → List (List ℕ) → List Reply → State V → Type 0
PlainRun due s [] replies t = (replies ≡ []) × (t ≡ s)
PlainRun {V} due s (l ∷ ls) replies t = (reply : Option Reply) × (u : State V) × (more : List Reply) × PlainStep (due s l) s reply u × (replies ≡ cons_option reply more) × PlainRun due u ls more t

-- a block that lines may put: one that a line may add, where each line before it is answered or memory is wanting for it
abbrev pub MayPut : {V : Type 0} → (State V → List ℕ → Due V) → State V → List (List ℕ) → List ℕ → Type 0
MayPut due s [] b = ⊥
MayPut due s (l ∷ ls) b = Contains (due s l).adds b ⊎ (MayPut due (due s l).next ls b ⊎ MayPut due s ls b)

-- no block of these collides with one that is held
abbrev pub AreApart : Moment → (List ℕ → Type 0) → Type 0
AreApart n New = (kept new : List ℕ) → New new → Holds n (kept ∷ []) → Collide kept new → ⊥

-- lines of which one may begin a batch, where each line before it is answered or memory is wanting for it
abbrev pub MayBegin : {V : Type 0} → (State V → List ℕ → Due V) → State V → List (List ℕ) → Type 0
MayBegin due s [] = ⊥
MayBegin due s (l ∷ ls) = IsSome (due s l).next.begun ⊎ (MayBegin due (due s l).next ls ⊎ MayBegin due s ls)

-- No block of these collides with one that is held; and where batches may be begun, which hold blocks that the store does not, no two of these collide.
pub record AreAllApart (n : Moment) (Begins : Type 0) (New : List ℕ → Type 0) : Type 0 where
  pub held : AreApart n New
  pub inside : Begins → (a b : List ℕ) → New a → New b → Collide a b → ⊥
